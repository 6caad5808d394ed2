-- One turn of the loops over a network: what is left gives the whole.
-- Assumes nothing.
use Prim.Native.Nat.{ℕ, zero, suc, ◌+◌, ◌-◌, ◌≤◌, ◌<◌}
use mathlib.Core.Path.{◌≡◌, refl, sym, ap, ap₂, ◌∙◌}
use mathlib.Core.Bool.{Bool, true, false, ◌&&◌}
use mathlib.Core.List.{List, [], ◌∷◌, ◌++◌, map, zip_with, append_assoc, append-nil}
use native.Mathlib.Omega.{arith}
use native.Mathlib.Numerals.{add-one}
use native.Mathlib.Nat.{zero-add}
use lib.ListN.{length, get_or, take, drop, replicate, drop_of_length-le, replicate-append-replicate}
use lib.Seq.{take-suc, take_all, drop-cons, drop-drop, take_at, drop_at}
use borrow.Author.Tests.{eq-eqb, ne_eqb}
use Rattle.model.specs.declared.Ty.{Ty}
use Rattle.model.specs.declared.Token.{Token}
use Rattle.model.specs.declared.Field.{Field}
use Rattle.std.specs.Prelude.{Some, None}
use Rattle.model.specs.Bytes.{two_at, stretch}
use Rattle.model.specs.Values.{no_type}
use Rattle.model.specs.Network.{Wire, Box, Proc, box, input, output, Net, Own, wire, fresh, no_tokens, loaded}
use Rattle.model.specs.NetworkFile.{Index, Verdict, good, refuse, next, or_refuse, field_at, tabulate, net_of, box_at, input_at, output_at}
use Rattle.model.specs.States.{wire_bytes, own_bytes, cat, segments, bytes_of, wire_size, own_size, sum, wires_size, wire_fits, own_fits, own_in, split, all_true, wire_parts, own_parts, state_fits, state_in, output_field, output_file, token_field, tokens_in, input_tokens, tokens_from, input_types}
use Rattle.queues.specs.Segments.{mid, put_mid, start_of}
use Rattle.queues.proofs.Segments.{cat-append, sum_append}
use Rattle.queues.proofs.Queues.{wire_empty, input_empty, output_empty}
use Rattle.tokens.proofs.Laws.{on_from}

-- ── where a part begins ──────────────────────────────────────────────────────────────────────

pub start_turn : (sizes : List ℕ) (i : ℕ) → i < length sizes → start_of sizes (i + 1) ≡ start_of sizes i + get_or sizes i 0
unfolding start_of sum
start_turn sizes i h = ap sum (ap (λ (j : ℕ). take j sizes) (add-one i) ∙ take-suc sizes i 0 h) ∙ sum_append (take i sizes) (get_or sizes i 0 ∷ []) ∙ omega arith

pub start_all : (sizes : List ℕ) (i : ℕ) → length sizes ≤ i → start_of sizes i ≡ sum sizes
unfolding start_of
start_all sizes i h = ap sum (take_all i sizes h)

-- ── every part fits ──────────────────────────────────────────────────────────────────────────

-- xs take their parts of s one after another, and each fits
abbrev pub all_fit : {A : Type 0} → (A → List ℕ → Bool) → (A → ℕ) → List A → List ℕ → Bool
all_fit f size xs s = all_true (zip_with f xs (split (map size xs) s))

-- the check of a state is one of its wires and one of its processes
pub state_fits_lem : (n : Net) (counted : Bool) (s : List ℕ) → state_fits n counted s ≡ (all_fit wire_fits wire_size n.wires s && all_fit (own_fits n counted) own_size n.procs (drop (wires_size n) s))
unfolding state_fits wire_parts own_parts
state_fits_lem n counted s = refl

and_assoc : (a b c : Bool) → (a && (b && c)) ≡ (a && b && c)
and_assoc true b c = refl
and_assoc false b c = refl

module _ {A : Type 0} (f : A → List ℕ → Bool) (size : A → ℕ) where
  fit-cons : (x : A) (xs : List A) (s : List ℕ) (at : ℕ) (r b : Bool) → r ≡ f x (mid at (size x) s) → r ≡ b → all_fit f size (x ∷ xs) (drop at s) ≡ (b && all_fit f size xs (drop (at + size x) s))
  unfolding all_true split zip_with
  fit-cons x xs s at r b e g = ap₂ (λ (y : Bool) (l : List ℕ). y && all_fit f size xs l) (sym e ∙ g) (drop-drop (size x) at s)

  -- part i of a list, and part j of a numbered group
  pub fit_turn : (xs : List A) (d : A) (s : List ℕ) (i at : ℕ) (r b : Bool) → i < length xs → r ≡ f (get_or xs i d) (mid at (size (get_or xs i d)) s) → r ≡ b →
      all_fit f size (drop i xs) (drop at s) ≡ (b && all_fit f size (drop (i + 1) xs) (drop (at + size (get_or xs i d)) s))
  fit_turn xs d s i at r b h e g =
      ap (λ (l : List A). all_fit f size l (drop at s)) (drop-cons xs i d h ∙ ap (λ (j : ℕ). get_or xs i d ∷ drop j xs) (sym (add-one i)))
      ∙ fit-cons (get_or xs i d) (drop (i + 1) xs) s at r b e g

  -- none is left
  pub fit_done : (xs : List A) (s : List ℕ) (i : ℕ) → length xs ≤ i → all_fit f size (drop i xs) s ≡ true
  unfolding all_true split zip_with
  fit_done xs s i h = rw (drop_of_length-le xs h)

  pub fit_end : (h : ℕ → A) (n j : ℕ) (s : List ℕ) → n ≤ j → all_fit f size (on_from h (n - j) j) s ≡ true
  unfolding all_true split zip_with tabulate
  fit_end h n j s l = let e : n - j ≡ 0 = omega arith in rw e

  -- one group after another
  pub fit_append : (xs ys : List A) (s : List ℕ) → all_fit f size (xs ++ ys) s ≡ (all_fit f size xs s && all_fit f size ys (drop (sum (map size xs)) s))
  unfolding all_true split zip_with sum
  fit_append [] ys s = refl
  fit_append (x ∷ xs) ys s =
      let k : ℕ = size x in
      ap (λ (b : Bool). f x (take k s) && b) (fit_append xs ys (drop k s) ∙ ap (λ (l : List ℕ). all_fit f size xs (drop k s) && all_fit f size ys l) (drop-drop (sum (map size xs)) k s))
      ∙ and_assoc (f x (take k s)) (all_fit f size xs (drop k s)) (all_fit f size ys (drop (k + sum (map size xs)) s))

-- ── written one after another ────────────────────────────────────────────────────────────────

-- a part written behind what is done
pub write_on : (done s₀ s last : List ℕ) (at k : ℕ) → s ≡ done ++ drop at s₀ → length done ≡ at → put_mid at k s last ≡ (done ++ last) ++ drop (at + k) s₀
write_on done s₀ s last at k e l =
    ap (λ (x : List ℕ). put_mid at k x last) e
    ∙ ap₂ (λ (x y : List ℕ). x ++ (last ++ drop k y)) (take_at done (drop at s₀) at l) (drop_at done (drop at s₀) at l)
    ∙ ap (λ (x : List ℕ). done ++ (last ++ x)) (drop-drop k at s₀) ∙ sym (append_assoc done last (drop (at + k) s₀))

-- ── a load ───────────────────────────────────────────────────────────────────────────────────

abbrev pub fresh_bytes : Proc → List ℕ
fresh_bytes p = own_bytes p (fresh p)

pub empty_wires : (ws : List Wire) → cat (zip_with wire_bytes ws (map no_tokens ws)) ≡ replicate (sum (map wire_size ws)) 0
unfolding cat zip_with sum no_tokens
empty_wires [] = refl
empty_wires (w ∷ ws) = ap₂ (λ (x y : List ℕ). x ++ y) (wire_empty w) (empty_wires ws) ∙ replicate-append-replicate (wire_size w) (sum (map wire_size ws)) 0

zip-map : {A B C : Type 0} (f : A → B → C) (g : A → B) (xs : List A) → zip_with f xs (map g xs) ≡ map (λ x. f x (g x)) xs
unfolding zip_with
zip-map f g [] = refl
zip-map f g (x ∷ xs) = ap (λ l. f x (g x) ∷ l) (zip-map f g xs)

-- zeros for the wires, then what each process keeps at a load
pub loaded_bytes : (n : Net) → bytes_of n (loaded n) ≡ replicate (wires_size n) 0 ++ cat (map fresh_bytes n.procs)
unfolding bytes_of segments loaded wires_size
loaded_bytes n =
    cat-append (zip_with wire_bytes n.wires (map no_tokens n.wires)) (zip_with own_bytes n.procs (map fresh n.procs))
    ∙ ap₂ (λ (x y : List ℕ). x ++ y) (empty_wires n.wires) (ap cat (zip-map own_bytes fresh n.procs))

-- a group of processes that keep only zeros
pub empty_group : (n : ℕ) (h : ℕ → Proc) → ((k : ℕ) → fresh_bytes (h k) ≡ replicate (own_size (h k)) 0) → cat (map fresh_bytes (tabulate n h)) ≡ replicate (sum (map own_size (tabulate n h))) 0
unfolding cat sum tabulate
empty_group zero h e = refl
empty_group (suc n) h e =
    let ps : List Proc = tabulate n (λ k. h (suc k)) in
    ap₂ (λ (x y : List ℕ). x ++ y) (e 0) (empty_group n (λ k. h (suc k)) (λ k. e (suc k))) ∙ replicate-append-replicate (own_size (h 0)) (sum (map own_size ps)) 0

pub empty_inputs : (s : List ℕ) (x : Index) (tokens : List (List Token)) (n : ℕ) → cat (map fresh_bytes (tabulate n (input_at s x tokens))) ≡ replicate (sum (map own_size (tabulate n (input_at s x tokens)))) 0
unfolding input_at fresh
empty_inputs s x tokens n = empty_group n (input_at s x tokens) (λ k. input_empty _ _)

pub empty_outputs : (s : List ℕ) (x : Index) (n : ℕ) → cat (map fresh_bytes (tabulate n (output_at s x))) ≡ replicate (sum (map own_size (tabulate n (output_at s x)))) 0
unfolding output_at fresh
empty_outputs s x n = empty_group n (output_at s x) (λ k. output_empty _ _)

group_append : {A : Type 0} (g : A → List ℕ) (xs ys : List A) → cat (map g (xs ++ ys)) ≡ cat (map g xs) ++ cat (map g ys)
unfolding cat
group_append g [] ys = refl
group_append g (x ∷ xs) ys = ap (λ (l : List ℕ). g x ++ l) (group_append g xs ys) ∙ sym (append_assoc (g x) (cat (map g xs)) (cat (map g ys)))

pub sizes_append : {A : Type 0} (size : A → ℕ) (xs ys : List A) → sum (map size (xs ++ ys)) ≡ sum (map size xs) + sum (map size ys)
unfolding sum
sizes_append size [] ys = sym (zero-add (sum (map size ys)))
sizes_append size (x ∷ xs) ys = ap (λ (n : ℕ). size x + n) (sizes_append size xs ys) ∙ omega arith

-- the processes of a network file: its boxes, its inputs, its outputs
abbrev pub boxes_of : List ℕ → Index → List Proc
boxes_of s x = tabulate (length x.boxes) (λ b. box (box_at s x b))

abbrev pub inputs_of : List ℕ → Index → List (List Token) → List Proc
inputs_of s x tokens = tabulate (length x.inputs) (input_at s x tokens)

abbrev pub outputs_of : List ℕ → Index → List Proc
outputs_of s x = tabulate (length x.outputs) (output_at s x)

module _ (s : List ℕ) (x : Index) (tokens : List (List Token)) where
  -- zeros for the wires, the boxes' initial values, zeros for all inputs and outputs
  pub loaded_net : bytes_of (net_of s x tokens) (loaded (net_of s x tokens)) ≡
      replicate (wires_size (net_of s x tokens)) 0 ++ (cat (map fresh_bytes (boxes_of s x)) ++ replicate (sum (map own_size (inputs_of s x tokens)) + sum (map own_size (outputs_of s x))) 0)
  unfolding net_of
  loaded_net =
      let a : ℕ = sum (map own_size (inputs_of s x tokens)) in
      let b : ℕ = sum (map own_size (outputs_of s x)) in
      loaded_bytes (net_of s x tokens)
      ∙ ap (λ (l : List ℕ). replicate (wires_size (net_of s x tokens)) 0 ++ l)
      (group_append fresh_bytes (boxes_of s x ++ inputs_of s x tokens) (outputs_of s x)
      ∙ ap₂ (λ (l m : List ℕ). l ++ m) (group_append fresh_bytes (boxes_of s x) (inputs_of s x tokens) ∙ ap (λ (l : List ℕ). cat (map fresh_bytes (boxes_of s x)) ++ l) (empty_inputs s x tokens (length x.inputs))) (empty_outputs s x (length x.outputs))
      ∙ append_assoc (cat (map fresh_bytes (boxes_of s x))) (replicate a 0) (replicate b 0) ∙ ap (λ (l : List ℕ). cat (map fresh_bytes (boxes_of s x)) ++ l) (replicate-append-replicate a b 0))

-- ── the token file ───────────────────────────────────────────────────────────────────────────

-- the tokens of the inputs before, and a verdict on the others
abbrev pub ahead : List (List Token) → Verdict (List (List Token)) → Verdict (List (List Token))
ahead before v = next v (λ rest. good (before ++ rest))

pub ahead_none : (v : Verdict (List (List Token))) → ahead [] v ≡ v
unfolding next
ahead_none (good a) = refl
ahead_none (refuse n p) = refl

ahead_cons : (before : List (List Token)) (ts : List Token) (v : Verdict (List (List Token))) → ahead before (next v (λ rest. good (ts ∷ rest))) ≡ ahead (before ++ (ts ∷ [])) v
unfolding next
ahead_cons before ts (good a) = ap good (sym (append_assoc before (ts ∷ []) a))
ahead_cons before ts (refuse n p) = refl

module _ (types : List Ty) (s : List ℕ) (before : List (List Token)) (i at : ℕ) where
  abbrev pub left : Verdict (List (List Token))
  left = ahead before (tokens_from (drop i types) s at)

  -- one field of an input more
  pub tokens_field : (f : Field) → i < length types → field_at s at ≡ Some f → token_field (get_or types i no_type) f.tag (stretch s f.start f.len) ≡ true →
      left ≡ ahead (before ++ (tokens_in (stretch s f.start f.len) ∷ [])) (tokens_from (drop (i + 1) types) s (f.start + f.len))
  unfolding tokens_from input_tokens or_refuse next
  tokens_field f h e g =
      rw (drop-cons types i no_type h, e, g, add-one) (ahead_cons before (tokens_in (stretch s f.start f.len)) (tokens_from (drop (suc i) types) s (f.start + f.len)))

  -- a field that is bad, cut or missing
  pub tokens_bad : (f : Field) → i < length types → field_at s at ≡ Some f → token_field (get_or types i no_type) f.tag (stretch s f.start f.len) ≡ false → left ≡ refuse 5 at
  unfolding tokens_from input_tokens or_refuse next
  tokens_bad f h e g = rw (drop-cons types i no_type h, e, g)

  pub tokens_cut : i < length types → field_at s at ≡ None → left ≡ refuse 5 at
  unfolding tokens_from input_tokens next
  tokens_cut h e = rw (drop-cons types i no_type h, e)

  -- no input is left: the file ends, or there is something more
  pub tokens_end : length types ≤ i → at ≡ length s → left ≡ good before
  unfolding tokens_from or_refuse next
  tokens_end h e = rw (drop_of_length-le types h, eq-eqb at (length s) e) (ap good (append-nil before))

  pub tokens_extra : length types ≤ i → (at ≡ length s → ⊥) → left ≡ refuse 5 at
  unfolding tokens_from or_refuse next
  tokens_extra h e = rw (drop_of_length-le types h, ne_eqb at (length s) e)

-- the types of the wires that the inputs of a network file write
module _ (n : Net) where
  types_append : (xs ys : List Proc) → input_types n (xs ++ ys) ≡ input_types n xs ++ input_types n ys
  unfolding input_types
  types_append [] ys = refl
  types_append (box b ∷ xs) ys = types_append xs ys
  types_append (input w ts ∷ xs) ys = ap (λ (l : List Ty). (wire n w).ty ∷ l) (types_append xs ys)
  types_append (output w room ∷ xs) ys = types_append xs ys

  types_boxes : (k : ℕ) (h : ℕ → Box) → input_types n (tabulate k (λ j. box (h j))) ≡ []
  unfolding input_types tabulate
  types_boxes zero h = refl
  types_boxes (suc k) h = types_boxes k (λ j. h (suc j))

  types_outputs : (k : ℕ) (w room : ℕ → ℕ) → input_types n (tabulate k (λ j. output (w j) (room j))) ≡ []
  unfolding input_types tabulate
  types_outputs zero w room = refl
  types_outputs (suc k) w room = types_outputs k (λ j. w (suc j)) (λ j. room (suc j))

  types_inputs : (k : ℕ) (w : ℕ → ℕ) (ts : ℕ → List Token) → input_types n (tabulate k (λ j. input (w j) (ts j))) ≡ tabulate k (λ j. (wire n (w j)).ty)
  unfolding input_types tabulate
  types_inputs zero w ts = refl
  types_inputs (suc k) w ts = ap (λ (l : List Ty). (wire n (w 0)).ty ∷ l) (types_inputs k (λ j. w (suc j)) (λ j. ts (suc j)))

  pub input_types_lem : (s : List ℕ) (x : Index) (tokens : List (List Token)) → input_types n (net_of s x tokens).procs ≡ tabulate (length x.inputs) (λ i. (wire n (get_or s (get_or x.inputs i 0 + 3) 0)).ty)
  unfolding net_of input_at output_at
  input_types_lem s x tokens =
      types_append (boxes_of s x ++ inputs_of s x tokens) (outputs_of s x)
      ∙ ap₂ (λ (l m : List Ty). l ++ m) (types_append (boxes_of s x) (inputs_of s x tokens) ∙ ap₂ (λ (l m : List Ty). l ++ m) (types_boxes (length x.boxes) (box_at s x)) (types_inputs (length x.inputs) (λ i. get_or s (get_or x.inputs i 0 + 3) 0) (λ i. get_or tokens i [])))
      (types_outputs (length x.outputs) (λ i. get_or s (get_or x.outputs i 0 + 3) 0) (λ i. two_at s (get_or x.outputs i 0 + 4)))
      ∙ append-nil (tabulate (length x.inputs) (λ i. (wire n (get_or s (get_or x.inputs i 0 + 3) 0)).ty))

-- ── the output file ──────────────────────────────────────────────────────────────────────────

-- the fields of processes that take their parts of s one after another
abbrev pub file_of : List Proc → List ℕ → List ℕ
file_of ps s = cat (zip_with output_field ps (zip_with own_in ps (split (map own_size ps) s)))

pub file_append : (xs ys : List Proc) (s : List ℕ) → file_of (xs ++ ys) s ≡ file_of xs s ++ file_of ys (drop (sum (map own_size xs)) s)
unfolding cat split zip_with sum
file_append [] ys s = refl
file_append (x ∷ xs) ys s =
    let k : ℕ = own_size x in
    let f : List ℕ = output_field x (own_in x (take k s)) in
    ap (λ (l : List ℕ). f ++ l) (file_append xs ys (drop k s) ∙ ap (λ (l : List ℕ). file_of xs (drop k s) ++ file_of ys l) (drop-drop (sum (map own_size xs)) k s))
    ∙ sym (append_assoc f (file_of xs (drop k s)) (file_of ys (drop (k + sum (map own_size xs)) s)))

-- a group of processes that have no field
no_file : (n : ℕ) (h : ℕ → Proc) (s : List ℕ) → ((k : ℕ) (o : Own) → output_field (h k) o ≡ []) → file_of (tabulate n h) s ≡ []
unfolding cat split zip_with tabulate
no_file zero h s e = refl
no_file (suc n) h s e = ap₂ (λ (l m : List ℕ). l ++ m) (e 0 (own_in (h 0) (take (own_size (h 0)) s))) (no_file n (λ k. h (suc k)) (drop (own_size (h 0)) s) (λ k. e (suc k)))

-- only the outputs are written
pub file_net : (f : List ℕ) (x : Index) (tokens : List (List Token)) (s : List ℕ) → output_file (net_of f x tokens) (state_in (net_of f x tokens) s) ≡
    file_of (outputs_of f x) (drop (wires_size (net_of f x tokens) + sum (map own_size (boxes_of f x ++ inputs_of f x tokens))) s)
unfolding output_file state_in own_parts net_of output_field input_at
file_net f x tokens s =
    let a : ℕ = wires_size (net_of f x tokens) in
    let before : List Proc = boxes_of f x ++ inputs_of f x tokens in
    file_append before (outputs_of f x) (drop a s)
    ∙ ap₂ (λ (l m : List ℕ). l ++ file_of (outputs_of f x) m)
    (file_append (boxes_of f x) (inputs_of f x tokens) (drop a s) ∙ ap₂ (λ (l m : List ℕ). l ++ m) (no_file (length x.boxes) (λ b. box (box_at f x b)) (drop a s) (λ k o. refl)) (no_file (length x.inputs) (input_at f x tokens) (drop (sum (map own_size (boxes_of f x))) (drop a s)) (λ k o. refl)))
    (drop-drop (sum (map own_size before)) a s)
