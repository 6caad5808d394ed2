-- How tight the contracts for C are: a call's word, the array and the lent bytes have one value each, and an answer's numbers are no other's.
-- Assumes nothing.
use mathlib.Core.Path.{◌≡◌, refl, sym, ap, ◌∙◌}
use mathlib.Core.Bool.{cond}
use mathlib.Core.List.{List}
use Prim.Native.Nat.{ℕ}
use lib.Dec.{eqb}
use Rattle.model.specs.Calls.{Answer, accepted, loaded_with, marks, done, idle, spent, written, refused}
use Rattle.bench_c.specs.declared.Numbers.{Numbers}
use Rattle.bench_c.specs.Heard.{Heard, heard, spelt, numbers_of}

-- two results that both meet a call's contract are equal
pub heard_tight : (w v : ℕ) (j k b d : List ℕ) (x : Heard) → heard w j b ≡ x → heard v k d ≡ x → (w ≡ v) × (j ≡ k) × (b ≡ d)
unfolding heard
heard_tight w v j k b d x e f =
    let g : heard w j b ≡ heard v k d = e ∙ sym f in
    (ap (λ (h : Heard). h.word) g, ap (λ (h : Heard). h.numbers) g, ap (λ (h : Heard). h.bytes) g)

-- the answer that numbers stand for
meant : Numbers → Answer
meant n =
    cond (eqb n.word 0) (refused n.number n.place n.cycles)
    (cond (eqb n.word 1) accepted
    (cond (eqb n.word 2) (loaded_with n.value)
    (cond (eqb n.word 3) (marks n.value)
    (cond (eqb n.word 4) (done n.cycles)
    (cond (eqb n.word 5) (idle n.cycles) (cond (eqb n.word 6) (spent n.cycles) (written n.value)))))))

meant_of : (a : Answer) → meant (numbers_of a) ≡ a
unfolding meant numbers_of spelt
meant_of accepted = refl
meant_of (loaded_with s) = refl
meant_of (marks s) = refl
meant_of (done c) = refl
meant_of (idle c) = refl
meant_of (spent c) = refl
meant_of (written s) = refl
meant_of (refused n p c) = refl

-- no two answers have the same numbers
pub numbers_one : (a b : Answer) → numbers_of a ≡ numbers_of b → a ≡ b
numbers_one a b e = sym (meant_of a) ∙ ap meant e ∙ meant_of b
