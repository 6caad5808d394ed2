-- How long a text can be: at most twenty digits a number, a thousand tokens an output, eight outputs.
-- Assumes nothing.
use Prim.Native.Nat.{ℕ, zero, suc, ◌+◌, ◌*◌, ◌/◌, ◌%◌, ◌≤◌, ◌<◌}
use mathlib.Core.Path.{◌≡◌, refl}
use mathlib.Core.Bool.{Bool, true, false, cond}
use mathlib.Core.List.{List, [], ◌∷◌, ◌++◌}
use native.Mathlib.Omega.{arith}
use native.Mathlib.Nat.{mul-suc}
use lib.Dec.{ltb, eqb}
use lib.ListN.{length, get_or, length-append}
use lib.IntN.{ℤ, pos, negsuc}
use Rattle.model.specs.declared.Token.{Token}
use Rattle.model.specs.declared.Ending.{Ending}
use Rattle.model.specs.declared.Ending.TheVariants as ending
use Rattle.model.specs.Network.{Box, Proc, box, input, output, Net, Own, vars, State, got_of, nobody, proc, own}
use Rattle.model.specs.NetworkFile.{Index, tabulate, net_of, box_at, input_at, output_at}
use Rattle.model.specs.Printing.{digits_from, decimal, signed, shown, spaced, ending_word, box_part, outcome_line, output_line, output_lines, refused_line}
use Rattle.model.proofs.Decoded.{GoodProc, GoodNet, length-tabulate}
use Rattle.model.proofs.Kept.{GoodOwn, GoodState}

-- ── numbers and tokens ───────────────────────────────────────────────────────────────────────

-- the longer of two ways
cond_most : (b : Bool) (x y : List ℕ) (m : ℕ) → length x ≤ m → length y ≤ m → length (cond b x y) ≤ m
cond_most true x y m h g = h
cond_most false x y m h g = g

digits_most : (d n : ℕ) (after : List ℕ) → length (digits_from d n after) ≤ suc d + length after
unfolding digits_from
digits_most zero n after = omega arith
digits_most (suc d) n after = cond_most (ltb n 10) ((48 + n) ∷ after) (digits_from d (n / 10) ((48 + n % 10) ∷ after)) (suc (suc d) + length after) (omega arith) (omega (arith, digits_most d (n / 10) ((48 + n % 10) ∷ after)))

decimal_most : (n : ℕ) → length (decimal n) ≤ 20
unfolding decimal
decimal_most n = digits_most 19 n []

signed_most : (z : ℤ) → length (signed z) ≤ 21
unfolding signed
signed_most (pos n) = omega (arith, decimal_most n)
signed_most (negsuc n) = omega (arith, decimal_most (suc n))

shown_most : (t : Token) → length (shown t) ≤ 22
unfolding shown
shown_most t =
    let s = signed_most t.value in
    cond_most (eqb t.tag 0) (signed t.value) _ 22 (omega arith)
    (cond_most (eqb t.tag 1) (39 ∷ 60 ∷ []) _ 22 (omega arith) (cond_most (eqb t.tag 2) (39 ∷ 62 ∷ []) (39 ∷ signed t.value) 22 (omega arith) (omega arith)))

spaced_most : (ts : List Token) → length (spaced ts) ≤ 23 * length ts
unfolding spaced
spaced_most [] = omega arith
spaced_most (t ∷ ts) = omega (arith, mul-suc 23 (length ts), length-append (shown t) (spaced ts), shown_most t, spaced_most ts)

-- ── lines ────────────────────────────────────────────────────────────────────────────────────

pub refused_most : (n p : ℕ) → length (refused_line n p) ≤ 56
unfolding refused_line
refused_most n p =
    let place : List ℕ = 32 ∷ 112 ∷ 108 ∷ 97 ∷ 99 ∷ 101 ∷ 32 ∷ (decimal p ++ (10 ∷ [])) in
    omega (arith, length-append (decimal n) place, length-append (decimal p) (10 ∷ []), decimal_most n, decimal_most p)

word_most : (e : Ending) → length (ending_word e) ≤ 5
unfolding ending_word
word_most ending.Idle = omega arith
word_most ending.Spent = omega arith
word_most (ending.Fault n b) = omega arith

box_most : (e : Ending) → length (box_part e) ≤ 25
unfolding box_part
box_most ending.Idle = omega arith
box_most ending.Spent = omega arith
box_most (ending.Fault n b) = omega (arith, decimal_most b)

pub outcome_most : (e : Ending) (c : ℕ) → length (outcome_line e c) ≤ 67
unfolding outcome_line
outcome_most e c =
    let last : List ℕ = box_part e ++ (10 ∷ []) in
    let number : List ℕ = 32 ∷ 99 ∷ 121 ∷ 99 ∷ 108 ∷ 101 ∷ 115 ∷ 32 ∷ (decimal c ++ last) in
    omega (arith, length-append (ending_word e) number, length-append (decimal c) last, length-append (box_part e) (10 ∷ []), word_most e, box_most e, decimal_most c)

line_most : (i : ℕ) (ts : List Token) → length ts ≤ 1000 → length (output_line i ts) ≤ 23026
unfolding output_line
line_most i ts h =
    let last : List ℕ = 58 ∷ (spaced ts ++ (10 ∷ [])) in
    omega (arith, length-append (decimal i) last, length-append (spaced ts) (10 ∷ []), decimal_most i, spaced_most ts)

-- how many outputs there are
outs : List Proc → ℕ
outs [] = 0
outs (box b ∷ ps) = outs ps
outs (input w ts ∷ ps) = outs ps
outs (output w room ∷ ps) = suc (outs ps)

outs_append : (a b : List Proc) → outs (a ++ b) ≡ outs a + outs b
unfolding outs
outs_append [] b = omega arith
outs_append (box x ∷ a) b = outs_append a b
outs_append (input w ts ∷ a) b = outs_append a b
outs_append (output w room ∷ a) b = omega (arith, outs_append a b)

outs_few : (ps : List Proc) → outs ps ≤ length ps
unfolding outs
outs_few [] = omega arith
outs_few (box x ∷ a) = omega (arith, outs_few a)
outs_few (input w ts ∷ a) = omega (arith, outs_few a)
outs_few (output w room ∷ a) = omega (arith, outs_few a)

outs_boxes : (k : ℕ) (h : ℕ → Box) → outs (tabulate k (λ j. box (h j))) ≡ 0
unfolding outs tabulate
outs_boxes zero h = refl
outs_boxes (suc k) h = outs_boxes k (λ j. h (suc j))

outs_inputs : (k : ℕ) (w : ℕ → ℕ) (ts : ℕ → List Token) → outs (tabulate k (λ j. input (w j) (ts j))) ≡ 0
unfolding outs tabulate
outs_inputs zero w ts = refl
outs_inputs (suc k) w ts = outs_inputs k (λ j. w (suc j)) (λ j. ts (suc j))

outs_net : (s : List ℕ) (x : Index) (tokens : List (List Token)) → outs (net_of s x tokens).procs ≤ length x.outputs
unfolding net_of input_at
outs_net s x tokens =
    let bs = tabulate (length x.boxes) (λ b. box (box_at s x b)) in
    let is = tabulate (length x.inputs) (input_at s x tokens) in
    let os = tabulate (length x.outputs) (output_at s x) in
    omega (arith, outs_append (bs ++ is) os, outs_append bs is, outs_boxes (length x.boxes) (box_at s x), outs_inputs (length x.inputs) (λ i. get_or s (get_or x.inputs i 0 + 3) 0) (λ i. get_or tokens i []), outs_few os, length-tabulate (length x.outputs) (output_at s x))

lines_most : (n : Net) (ps : List Proc) (os : List Own) (i : ℕ) → ((k : ℕ) → k < length ps → GoodProc n (get_or ps k nobody)) → ((k : ℕ) → k < length ps → GoodOwn n (get_or ps k nobody) (get_or os k (vars []))) →
    length (output_lines i ps os) ≤ 23026 * outs ps
unfolding output_lines outs
lines_most n [] os i f g = omega arith
lines_most n (p ∷ ps) [] i f g = omega arith
lines_most n (box b ∷ ps) (o ∷ os) i f g = lines_most n ps os i (λ k l. f (suc k) (omega (arith, l))) (λ k l. g (suc k) (omega (arith, l)))
lines_most n (input w ts ∷ ps) (o ∷ os) i f g = lines_most n ps os i (λ k l. f (suc k) (omega (arith, l))) (λ k l. g (suc k) (omega (arith, l)))
lines_most n (output w room ∷ ps) (o ∷ os) i f g =
    let rest = lines_most n ps os (suc i) (λ k l. f (suc k) (omega (arith, l))) (λ k l. g (suc k) (omega (arith, l))) in
    let few : length (got_of o) ≤ 1000 = omega (arith, (f 0 (omega arith)).2, (g 0 (omega arith)).most) in
    omega (arith, mul-suc 23026 (outs ps), length-append (output_line i (got_of o)) (output_lines (suc i) ps os), line_most i (got_of o) few, rest)

pub state_lines_most : (s : List ℕ) (x : Index) (tokens : List (List Token)) (at : State) → length x.outputs ≤ 8 → GoodNet (net_of s x tokens) → GoodState (net_of s x tokens) at →
    length (output_lines 0 (net_of s x tokens).procs at.owns) ≤ 184208
unfolding proc own
state_lines_most s x tokens at h g gs =
    omega (arith, outs_net s x tokens, lines_most (net_of s x tokens) (net_of s x tokens).procs at.owns 0 g.procs gs.kept)
