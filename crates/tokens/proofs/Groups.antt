-- The wires, boxes, inputs and outputs of a network file, group by group: the check of a state, and a load written box by box.
-- Assumes nothing.
use Prim.Native.Nat.{ℕ, zero, suc, ◌+◌, ◌*◌, ◌/◌, ◌≤◌}
use mathlib.Core.Path.{◌≡◌, refl, sym, ap, ap₂, subst, ◌∙◌}
use mathlib.Core.Bool.{Bool, true, false, not, cond, ◌||◌}
use mathlib.Core.List.{List, [], ◌∷◌, ◌++◌, map, append_assoc, append-nil}
use native.Mathlib.Omega.{arith}
use native.Mathlib.Numerals.{add-one}
use lib.Dec.{leb, ltb}
use lib.ListN.{length, get_or, drop, replicate, length-append, length-map, length-replicate}
use borrow.Author.Tests.{ltb-false}
use Rattle.model.specs.declared.Token.{Token}
use Rattle.model.specs.declared.Field.{Field}
use Rattle.std.specs.Prelude.{Some, None}
use Rattle.model.specs.Bytes.{two_at, stretch}
use Rattle.model.specs.Network.{Variable, Proc, box, input, output, Net, fresh, vars_of, loaded}
use Rattle.model.specs.NetworkFile.{Index, field_at, tabulate, body_at, net_of, box_at, input_at}
use Rattle.model.specs.States.{cat, sum, own_bytes, bytes_of, own_size, wires_size, state_size, own_fits, tokens_in}
use Rattle.queues.specs.Segments.{put_mid}
use Rattle.queues.proofs.Queues.{length-values, input_empty, output_empty}
use Rattle.queues.proofs.Reading.{length_read}
use Rattle.tokens.proofs.Laws.{tabulate_snoc}
use Rattle.tokens.proofs.Turns.{write_on, fresh_bytes, loaded_net, boxes_of, inputs_of, outputs_of, sizes_append}

-- ── a field that is there ────────────────────────────────────────────────────────────────────

pub record Inside (s : List ℕ) (f : Field) (at : ℕ) : Type 0 where
  pub tag_is : f.tag ≡ get_or s at 0
  pub starts : f.start ≡ at + 3
  pub long : f.len ≡ two_at s (at + 1)
  pub ends : f.start + f.len ≤ length s
  pub body : stretch s f.start f.len ≡ body_at s at

pub field_inside : (s : List ℕ) (f : Field) (at : ℕ) → field_at s at ≡ Some f → Inside s f at
unfolding field_at body_at
field_inside s f at = by_end (ltb (length s) (at + 3)) (ltb (length s) (at + 3 + two_at s (at + 1))) refl
  where
    by_end : (b c : Bool) → ltb (length s) (at + 3 + two_at s (at + 1)) ≡ c → cond b None (cond c None (Some (record { tag = get_or s at 0; start = at + 3; len = two_at s (at + 1) }))) ≡ Some f → Inside s f at
    by_end true c h e = absurd (cc)
    by_end false true h e = absurd (cc)
    by_end false false h e =
        let same : record { tag = get_or s at 0; start = at + 3; len = two_at s (at + 1) } ≡ f = cc in
        let l = ltb-false (length s) (at + 3 + two_at s (at + 1)) h in
        subst (λ (g : Field). Inside s g at) same (record { tag_is = refl; starts = refl; long = refl; ends = l; body = refl })

-- how many tokens a field has
pub length_tokens_in : (b : List ℕ) → length (tokens_in b) ≡ length b / 5
unfolding tokens_in
length_tokens_in b = length_read (length b / 5) b

-- ── the check of a state ─────────────────────────────────────────────────────────────────────

pub fits_input : (n : Net) (counted : Bool) (w : ℕ) (ts : List Token) (part : List ℕ) → own_fits n counted (input w ts) part ≡ (not counted || leb (two_at part 0) (length ts))
unfolding own_fits
fits_input n counted w ts part = refl

-- ── sizes ────────────────────────────────────────────────────────────────────────────────────

-- a numbered group with one more
pub sizes_snoc : {A : Type 0} (size : A → ℕ) (h : ℕ → A) (j : ℕ) → sum (map size (tabulate (j + 1) h)) ≡ sum (map size (tabulate j h)) + size (h j)
unfolding sum
sizes_snoc size h j = ap (λ (n : ℕ). sum (map size (tabulate n h))) (add-one j) ∙ ap (λ l. sum (map size l)) (tabulate_snoc j h) ∙ sizes_append size (tabulate j h) (h j ∷ []) ∙ omega arith

pub input_sizes : (s : List ℕ) (x : Index) (tokens : List (List Token)) (n : ℕ) → sum (map own_size (tabulate n (input_at s x tokens))) ≡ 2 * n
unfolding input_at sum own_size tabulate
input_sizes s x tokens n = twos n (λ i. get_or s (get_or x.inputs i 0 + 3) 0) (λ i. get_or tokens i [])
  where
    twos : (n : ℕ) (w : ℕ → ℕ) (ts : ℕ → List Token) → sum (map own_size (tabulate n (λ i. input (w i) (ts i)))) ≡ 2 * n
    twos zero w ts = refl
    twos (suc n) w ts = ap (λ (m : ℕ). 2 + m) (twos n (λ i. w (suc i)) (λ i. ts (suc i))) ∙ omega arith

-- the state's size, group by group
pub size_net : (s : List ℕ) (x : Index) (tokens : List (List Token)) → state_size (net_of s x tokens) ≡
    wires_size (net_of s x tokens) + sum (map own_size (boxes_of s x)) + (sum (map own_size (inputs_of s x tokens)) + sum (map own_size (outputs_of s x)))
unfolding state_size net_of
size_net s x tokens = omega (arith, sizes_append own_size (boxes_of s x ++ inputs_of s x tokens) (outputs_of s x), sizes_append own_size (boxes_of s x) (inputs_of s x tokens))

-- ── a load ───────────────────────────────────────────────────────────────────────────────────

pub length-fresh : (p : Proc) → length (fresh_bytes p) ≡ own_size p
unfolding own_bytes fresh vars_of own_size
length-fresh (box b) = length-values (map (λ (v : Variable). v.initial) b.vars) ∙ ap (λ (n : ℕ). 4 * n) (length-map b.vars (λ (v : Variable). v.initial))
length-fresh (input w ts) = ap (λ (l : List ℕ). length l) (input_empty w ts) ∙ length-replicate {A = ℕ} (own_size (input w ts)) 0
length-fresh (output w room) = ap (λ (l : List ℕ). length l) (output_empty w room) ∙ length-replicate {A = ℕ} (own_size (output w room)) 0

-- zeros for the wires and the first j of the boxes
abbrev pub loaded_to : ℕ → (ℕ → Proc) → ℕ → List ℕ
loaded_to w h j = replicate w 0 ++ cat (map fresh_bytes (tabulate j h))

length_group : (h : ℕ → Proc) (j : ℕ) → length (cat (map fresh_bytes (tabulate j h))) ≡ sum (map own_size (tabulate j h))
unfolding cat sum tabulate
length_group h zero = refl
length_group h (suc j) =
    let r : List ℕ = cat (map fresh_bytes (tabulate j (λ k. h (suc k)))) in
    length-append (fresh_bytes (h 0)) r ∙ ap₂ (λ (a b : ℕ). a + b) (length-fresh (h 0)) (length_group (λ k. h (suc k)) j)

pub length-loaded : (w : ℕ) (h : ℕ → Proc) (j : ℕ) → length (loaded_to w h j) ≡ w + sum (map own_size (tabulate j h))
length-loaded w h j = length-append (replicate w 0) (cat (map fresh_bytes (tabulate j h))) ∙ ap₂ (λ (a b : ℕ). a + b) (length-replicate {A = ℕ} w 0) (length_group h j)

loaded_snoc : (w : ℕ) (h : ℕ → Proc) (j : ℕ) → loaded_to w h j ++ fresh_bytes (h j) ≡ loaded_to w h (j + 1)
unfolding cat
loaded_snoc w h j =
    let r : List ℕ = cat (map fresh_bytes (tabulate j h)) in
    append_assoc (replicate w 0) r (fresh_bytes (h j))
    ∙ ap (λ (l : List ℕ). replicate w 0 ++ l) (sym (ap (λ (n : ℕ). cat (map fresh_bytes (tabulate n h))) (add-one j) ∙ ap (λ (l : List Proc). cat (map fresh_bytes l)) (tabulate_snoc j h) ∙ grown (tabulate j h) (h j)))
  where
    grown : (ps : List Proc) (p : Proc) → cat (map fresh_bytes (ps ++ (p ∷ []))) ≡ cat (map fresh_bytes ps) ++ fresh_bytes p
    grown [] p = append-nil (fresh_bytes p)
    grown (q ∷ ps) p = ap (λ (l : List ℕ). fresh_bytes q ++ l) (grown ps p) ∙ sym (append_assoc (fresh_bytes q) (cat (map fresh_bytes ps)) (fresh_bytes p))

module _ (w : ℕ) (h : ℕ → Proc) (s₀ s : List ℕ) (j at : ℕ) (e : s ≡ loaded_to w h j ++ drop at s₀) (a : at ≡ w + sum (map own_size (tabulate j h))) where
  -- the part of box j, written
  pub load_turn : (k : ℕ) (last : List ℕ) → last ≡ fresh_bytes (h j) → put_mid at k s last ≡ loaded_to w h (j + 1) ++ drop (at + k) s₀
  load_turn k last f = write_on (loaded_to w h j) s₀ s last at k e (length-loaded w h j ∙ sym a) ∙ ap (λ (l : List ℕ). l ++ drop (at + k) s₀) (ap (λ (l : List ℕ). loaded_to w h j ++ l) f ∙ loaded_snoc w h j)

-- all boxes, and the zeros behind them
pub load_net : (s : List ℕ) (x : Index) (tokens : List (List Token)) → bytes_of (net_of s x tokens) (loaded (net_of s x tokens)) ≡
    loaded_to (wires_size (net_of s x tokens)) (λ b. box (box_at s x b)) (length x.boxes) ++ replicate (sum (map own_size (inputs_of s x tokens)) + sum (map own_size (outputs_of s x))) 0
load_net s x tokens = loaded_net s x tokens ∙ sym (append_assoc (replicate (wires_size (net_of s x tokens)) 0) (cat (map fresh_bytes (boxes_of s x))) (replicate (sum (map own_size (inputs_of s x tokens)) + sum (map own_size (outputs_of s x))) 0))
