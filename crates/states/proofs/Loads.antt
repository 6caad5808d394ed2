-- A load box by box: zeros first, then each box's part.
-- Assumes nothing.
use Prim.Native.Nat.{ℕ, zero, suc, ◌+◌, ◌-◌, ◌*◌, ◌≤◌, ◌<◌}
use mathlib.Core.Path.{◌≡◌, refl, sym, ap, ap₂, ◌∙◌}
use mathlib.Core.List.{List, [], ◌++◌, map, append_assoc, append-nil}
use native.Mathlib.Omega.{arith}
use native.Mathlib.Nat.{add-sub_cancel_left, not-suc-le-zero, le_of_suc-le-suc}
use lib.ListN.{length, get_or, drop, replicate, length-replicate, replicate-append-replicate}
use lib.Seq.{drop_at}
use Rattle.model.specs.declared.Token.{Token}
use Rattle.model.specs.Network.{Proc, box, Net, proc, fresh, loaded}
use Rattle.model.specs.NetworkFile.{Index, tabulate, body_at, box_of, box_at, net_of}
use Rattle.model.specs.States.{cat, own_bytes, own_size, sum, wires_size, state_size, bytes_of}
use Rattle.model.proofs.Decoded.{length-tabulate}
use Rattle.model.proofs.Lookup.{box_proc}
use Rattle.table.specs.declared.Counts.{Counts}
use Rattle.table.specs.Table.{index_in}
use Rattle.queues.specs.Segments.{put_mid, start_of, own_start}
use Rattle.lookup.specs.Tabled.{Tabled}
use Rattle.lookup.proofs.Tabled.{n_boxes}
use Rattle.tokens.proofs.Lifts.{load_box}
use Rattle.tokens.proofs.Turns.{fresh_bytes, boxes_of, inputs_of, outputs_of}
use Rattle.tokens.proofs.Groups.{loaded_to, load_turn, load_net, size_net, sizes_snoc, input_sizes}

-- the first j of a numbered group begin the sizes of all
group_start : {A : Type 0} (size : A → ℕ) (n : ℕ) (f : ℕ → A) (rest : List A) (j : ℕ) → j ≤ n → start_of (map size (tabulate n f ++ rest)) j ≡ sum (map size (tabulate j f))
unfolding start_of sum tabulate
group_start size n f rest zero l = refl
group_start size zero f rest (suc j) l = absurd (not-suc-le-zero l)
group_start size (suc n) f rest (suc j) l = ap (λ (k : ℕ). size (f 0) + k) (group_start size n (λ k. f (suc k)) rest j (le_of_suc-le-suc l))

-- zeros at the front of what follows
zeros_drop : (a b : ℕ) (rest : List ℕ) → drop a (replicate (a + b) 0 ++ rest) ≡ replicate b 0 ++ rest
zeros_drop a b rest =
    ap (drop a) (ap (λ (l : List ℕ). l ++ rest) (sym (replicate-append-replicate a b 0)) ∙ append_assoc (replicate a 0) (replicate b 0) rest)
    ∙ drop_at (replicate a 0) (replicate b 0 ++ rest) a (length-replicate a 0)

-- the part of k bytes at the start, cleared
pub cleared : (st last : List ℕ) (size k : ℕ) → size ≡ k → last ≡ replicate size 0 → last ++ drop size st ≡ replicate k 0 ++ drop k st
cleared st last size k e f = ap₂ (λ (l : List ℕ) (i : ℕ). l ++ drop i st) (f ∙ ap (λ (i : ℕ). replicate i 0) e) e

-- zeros and the first k boxes stand there
abbrev pub loaded_boxes : (s t : List ℕ) (c : Counts) → List ℕ → ℕ → List ℕ
loaded_boxes s t c st k = loaded_to (wires_size (net_of s (index_in t c) [])) (λ b. box (box_at s (index_in t c) b)) k ++ drop (own_start (net_of s (index_in t c) []) k) st

module _ (s t : List ℕ) (c : Counts) (h : Tabled s t c) where
  abbrev x : Index
  x = index_in t c

  abbrev n : Net
  n = net_of s x []

  abbrev pub box_on : ℕ → Proc
  box_on b = box (box_at s x b)

  abbrev body : ℕ → List ℕ
  body k = body_at s (get_or x.boxes k 0)

  box_there : (k : ℕ) → k < c.boxes → proc n k ≡ box_on k
  box_there k l = box_proc s x [] k (omega (arith, n_boxes s t c h))

  -- the part of box k is as long as its values
  pub box_long : (k : ℕ) → k < c.boxes → own_size (proc n k) ≡ 4 * get_or (body k) 2 0
  unfolding own_size box_at box_of
  box_long k l =
      ap own_size (box_there k l) ∙ ap (λ (i : ℕ). 4 * i) (length-tabulate (get_or (body k) 2 0) _)

  box_fresh : (k : ℕ) → k < c.boxes → own_bytes (box (box_of (body k))) (fresh (box (box_of (body k)))) ≡ fresh_bytes (proc n k)
  box_fresh k l =
      sym (load_box s x k) ∙ ap (λ (p : Proc). fresh_bytes p) (sym (box_there k l))

  pub put_box : (k a b : ℕ) (st last : List ℕ) → k < c.boxes → a ≡ own_start n k → b ≡ a + own_size (proc n k) → last ≡ fresh_bytes (box (box_of (body k))) →
      put_mid a (b - a) st last ≡ put_mid (own_start n k) (own_size (proc n k)) st (fresh_bytes (proc n k))
  put_box k a b st last l p q e = rw (q, add-sub_cancel_left a (own_size (proc n k)), p, e, box_fresh k l)

  -- where box k begins: behind the wires and the boxes before it
  pub box_start : (k : ℕ) → k ≤ c.boxes → own_start n k ≡ wires_size n + sum (map own_size (tabulate k box_on))
  unfolding own_start net_of
  box_start k l =
      ap (λ (m : ℕ). wires_size n + m)
      (ap (λ (ps : List Proc). start_of (map own_size ps) k) (append_assoc (boxes_of s x) (inputs_of s x []) (outputs_of s x))
      ∙ group_start own_size (length x.boxes) box_on (inputs_of s x [] ++ outputs_of s x) k (omega (arith, n_boxes s t c h)))

  rest_size : state_size n ≡ own_start n c.boxes + (sum (map own_size (inputs_of s x [])) + sum (map own_size (outputs_of s x)))
  rest_size = size_net s x [] ∙ omega (arith, box_start c.boxes (omega arith), ap (λ (k : ℕ). sum (map own_size (tabulate k box_on))) (n_boxes s t c h))

  pub load_first : (st rest : List ℕ) → st ≡ replicate (state_size n) 0 ++ rest → st ≡ loaded_boxes s t c st 0
  unfolding cat tabulate state_size
  load_first st rest e =
      let w : ℕ = wires_size n in
      let b : ℕ = sum (map own_size n.procs) in
      let o : own_start n 0 ≡ w = box_start 0 (omega arith) ∙ unfold sum in (omega arith) in
      let z : drop (own_start n 0) st ≡ replicate b 0 ++ rest = ap₂ (λ (m : ℕ) (l : List ℕ). drop m l) o e ∙ zeros_drop w b rest in
      e ∙ ap (λ (l : List ℕ). l ++ rest) (sym (replicate-append-replicate w b 0)) ∙ append_assoc (replicate w 0) (replicate b 0) rest
      ∙ ap₂ (λ (l m : List ℕ). l ++ m) (sym (append-nil (replicate w 0))) (sym z)

  pub load_next : (k : ℕ) (st₀ st last : List ℕ) → k < c.boxes → st ≡ loaded_boxes s t c st₀ k → last ≡ put_mid (own_start n k) (own_size (proc n k)) st (fresh_bytes (proc n k)) → last ≡ loaded_boxes s t c st₀ (k + 1)
  load_next k st₀ st last l e f =
      let m : own_start n k + own_size (proc n k) ≡ own_start n (k + 1)
      = omega (arith, box_start k (omega arith), box_start (k + 1) (omega arith), sizes_snoc own_size box_on k, ap own_size (box_there k l)) in
      f
      ∙ load_turn (wires_size n) box_on st₀ st k (own_start n k) e (box_start k (omega arith)) (own_size (proc n k)) (fresh_bytes (proc n k)) (ap (λ (p : Proc). fresh_bytes p) (box_there k l))
      ∙ ap (λ (i : ℕ). loaded_to (wires_size n) box_on (k + 1) ++ drop i st₀) m

  pub load_last : (k : ℕ) (st₀ st rest : List ℕ) → k ≡ c.boxes → st₀ ≡ replicate (state_size n) 0 ++ rest → st ≡ loaded_boxes s t c st₀ k → st ≡ bytes_of n (loaded n) ++ rest
  load_last k st₀ st rest l e f =
      let a : ℕ = own_start n c.boxes in
      let b : ℕ = sum (map own_size (inputs_of s x [])) + sum (map own_size (outputs_of s x)) in
      let front : List ℕ = loaded_to (wires_size n) box_on c.boxes in
      f ∙ ap (loaded_boxes s t c st₀) l
      ∙ ap (λ (z : List ℕ). front ++ drop a z) (e ∙ ap (λ (m : ℕ). replicate m 0 ++ rest) rest_size)
      ∙ ap (λ (z : List ℕ). front ++ z) (zeros_drop a b rest)
      ∙ sym (append_assoc front (replicate b 0) rest)
      ∙ ap (λ (z : List ℕ). z ++ rest) (ap (λ (m : ℕ). loaded_to (wires_size n) box_on m ++ replicate b 0) (sym (n_boxes s t c h)) ∙ sym (load_net s x []))

-- ── what is loaded and its size don't depend on the tokens ───────────────────────────────────

module _ (s : List ℕ) (y : Index) (tokens : List (List Token)) where
  inputs_same : sum (map own_size (inputs_of s y tokens)) ≡ sum (map own_size (inputs_of s y []))
  inputs_same = input_sizes s y tokens (length y.inputs) ∙ sym (input_sizes s y [] (length y.inputs))

  wires_same : wires_size (net_of s y tokens) ≡ wires_size (net_of s y [])
  unfolding net_of wires_size
  wires_same = refl

  pub size_same : state_size (net_of s y tokens) ≡ state_size (net_of s y [])
  size_same = omega (arith, size_net s y tokens, size_net s y [], inputs_same, wires_same)

  pub loaded-same : bytes_of (net_of s y tokens) (loaded (net_of s y tokens)) ≡ bytes_of (net_of s y []) (loaded (net_of s y []))
  loaded-same =
      load_net s y tokens
      ∙ ap₂ (λ (w i : ℕ). loaded_to w (λ b. box (box_at s y b)) (length y.boxes) ++ replicate (i + sum (map own_size (outputs_of s y))) 0) wires_same inputs_same
      ∙ sym (load_net s y [])
