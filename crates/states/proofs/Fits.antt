-- The check of a saved state, wire by wire and process by process.
-- Assumes nothing.
use Prim.Native.Nat.{ℕ, ◌+◌, ◌-◌, ◌*◌, ◌≤◌, ◌<◌}
use mathlib.Core.Path.{◌≡◌, refl, sym, ap, ap₂, ◌∙◌}
use mathlib.Core.Bool.{Bool, true, false, not, ◌&&◌, ◌||◌}
use mathlib.Core.List.{List, [], map}
use native.Mathlib.Omega.{arith}
use native.Mathlib.Nat.{add-sub_cancel_left}
use lib.Dec.{leb}
use lib.ListN.{length, get_or, drop, length-map}
use borrow.Rule.Slice.PartMut.{mid_len}
use Rattle.model.specs.declared.Ty.{Ty}
use Rattle.model.specs.declared.Token.{Token}
use Rattle.model.specs.Bytes.{two_at}
use Rattle.model.specs.Network.{Wire, Proc, Net, wire, proc, no_wire, nobody}
use Rattle.model.specs.NetworkFile.{Index, body_at, box_of, net_of}
use Rattle.model.specs.States.{wire_size, own_size, wires_size, sum, room_fits, wire_fits, values_fit, own_fits, state_fits}
use Rattle.model.proofs.Decoded.{get_d_map_lt}
use Rattle.model.proofs.Lookup.{wires_length, procs_length, box_proc}
use Rattle.table.specs.declared.Counts.{Counts}
use Rattle.table.specs.Table.{index_in}
use Rattle.queues.specs.Segments.{mid, start_of, wire_start, own_start}
use Rattle.lookup.specs.Tabled.{Tabled}
use Rattle.lookup.specs.Ends.{wire_at, room_at}
use Rattle.lookup.proofs.Tabled.{valid, n_wires, n_boxes, n_inputs, n_outputs, input_is, output_is}
use Rattle.tokens.specs.Parts.{Precise}
use Rattle.tokens.proofs.Lifts.{precise, fits_box, fits_output}
use Rattle.tokens.proofs.Turns.{state_fits_lem, fit_turn, fit_done, start_turn}
use Rattle.tokens.proofs.Groups.{fits_input}
use Rattle.places.proofs.Standing.{own_sizes}
use Rattle.states.specs.Saved.{wires_fit, owns_fit}

-- ── the loops ────────────────────────────────────────────────────────────────────────────────

module _ (n : Net) (st : List ℕ) where
  pub wires_turn : (w : ℕ) (r b : Bool) → w < length n.wires → r ≡ wire_fits (wire n w) (mid (wire_start n w) (wire_size (wire n w)) st) → r ≡ b → wires_fit n w st ≡ (b && wires_fit n (w + 1) st)
  unfolding wires_fit wire_start wire
  wires_turn w r b l e g =
      let sizes : List ℕ = map wire_size n.wires in
      let m : start_of sizes w + wire_size (get_or n.wires w no_wire) ≡ start_of sizes (w + 1)
      = omega (arith, start_turn sizes w (omega (arith, length-map n.wires wire_size)), get_d_map_lt wire_size n.wires w no_wire 0 l) in
      fit_turn wire_fits wire_size n.wires no_wire st w (start_of sizes w) r b l e g ∙ rw m refl

  pub wires_done : (w : ℕ) → length n.wires ≤ w → wires_fit n w st ≡ true
  unfolding wires_fit
  wires_done w l = fit_done wire_fits wire_size n.wires (drop (wire_start n w) st) w l

  module _ (counted : Bool) where
    pub owns_turn : (k : ℕ) (r b : Bool) → k < length n.procs → r ≡ own_fits n counted (proc n k) (mid (own_start n k) (own_size (proc n k)) st) → r ≡ b → owns_fit n counted k st ≡ (b && owns_fit n counted (k + 1) st)
    unfolding owns_fit own_start proc
    owns_turn k r b l e g =
        let sizes : List ℕ = map own_size n.procs in
        let m : wires_size n + start_of sizes k + own_size (get_or n.procs k nobody) ≡ wires_size n + start_of sizes (k + 1)
        = omega (arith, start_turn sizes k (omega (arith, length-map n.procs own_size)), get_d_map_lt own_size n.procs k nobody 0 l) in
        fit_turn (own_fits n counted) own_size n.procs nobody st k (wires_size n + start_of sizes k) r b l e g ∙ rw m refl

    pub owns_done : (k : ℕ) → length n.procs ≤ k → owns_fit n counted k st ≡ true
    unfolding owns_fit
    owns_done k l = fit_done (own_fits n counted) own_size n.procs (drop (own_start n k) st) k l

    -- all wires, then all processes
    pub state_is : state_fits n counted st ≡ (wires_fit n 0 st && owns_fit n counted 0 st)
    unfolding wires_fit owns_fit wire_start own_start start_of sum
    state_is = state_fits_lem n counted st ∙ (let z : wires_size n + 0 ≡ wires_size n = omega arith in rw z refl)

-- the wires are those of the network without tokens
pub wires_same : (s : List ℕ) (y : Index) (tokens : List (List Token)) (st : List ℕ) → wires_fit (net_of s y []) 0 st ≡ wires_fit (net_of s y tokens) 0 st
unfolding wires_fit wire_start net_of
wires_same s y tokens st = refl

-- ── one wire ─────────────────────────────────────────────────────────────────────────────────

module _ (s t : List ℕ) (c : Counts) (h : Tabled s t c) where
  abbrev x : Index
  x = index_in t c

  abbrev n : Net
  n = net_of s x []

  pub wires_n : length n.wires ≡ c.wires
  wires_n = wires_length s x [] ∙ n_wires s t c h

  pub wire_long : (w a b m : ℕ) (st : List ℕ) → b ≡ a + wire_size (wire n w) → b ≤ length st → m ≡ (wire n w).capacity → length (mid a (b - a) st) ≡ 1 + 5 * m
  unfolding wire_size
  wire_long w a b m st q i e = mid_len a b st i ∙ omega (arith, q, e)

  pub wire_part : (w a b m : ℕ) (y : Ty) (st : List ℕ) (r : Bool) → a ≡ wire_start n w → b ≡ a + wire_size (wire n w) → y ≡ (wire n w).ty → m ≡ (wire n w).capacity →
      r ≡ wire_fits (record { ty = y; capacity = m }) (mid a (b - a) st) → r ≡ wire_fits (wire n w) (mid (wire_start n w) (wire_size (wire n w)) st)
  wire_part w a b m y st r p q e f g =
      let part : List ℕ = mid a (b - a) st in
      let z : part ≡ mid (wire_start n w) (wire_size (wire n w)) st = rw (q, add-sub_cancel_left a (wire_size (wire n w)), p) in
      g ∙ (λ k. wire_fits (record { ty = e k; capacity = f k }) part) ∙ ap (wire_fits (wire n w)) z

  -- ── one process ──

  pub box_precise : (k : ℕ) → k < c.boxes → Precise (body_at s (get_or x.boxes k 0))
  box_precise k l = precise k (body_at s (get_or x.boxes k 0)) ((valid s t c h).boxes k (omega (arith, n_boxes s t c h))).passes.limits

  pub output_long : (k : ℕ) → c.boxes + c.inputs ≤ k → k < c.boxes + c.inputs + c.outputs → own_size (proc n k) ≡ 2 + 5 * room_at (proc n k)
  unfolding own_size
  output_long k from to = ap own_size (output_is s t c h k from to [])

  pub output_said : (k w m : ℕ) (y : Ty) (part : List ℕ) (r : Bool) → w ≡ wire_at (proc n k) → y ≡ (wire n w).ty → m ≡ room_at (proc n k) → r ≡ room_fits y m (two_at part 0) (drop 2 part) →
      r ≡ room_fits (wire n (wire_at (proc n k))).ty (room_at (proc n k)) (two_at part 0) (drop 2 part)
  output_said k w m y part r e f g q = q ∙ ap₂ (λ (z : Ty) (j : ℕ). room_fits z j (two_at part 0) (drop 2 part)) (f ∙ ap (λ (v : ℕ). (wire n v).ty) e) g

  -- the network with some tokens
  module _ (tokens : List (List Token)) where
    abbrev n' : Net
    n' = net_of s x tokens

    module _ (counted : Bool) (part : List ℕ) where
      pub box_part_lem : (k : ℕ) (body : List ℕ) (r : Bool) → k < c.boxes → body ≡ body_at s (get_or x.boxes k 0) → r ≡ values_fit (box_of body).vars part → r ≡ own_fits n' counted (proc n' k) part
      box_part_lem k body r l e f =
          f ∙ ap (λ (b : List ℕ). values_fit (box_of b).vars part) e
          ∙ sym (fits_box s x k n' counted part) ∙ ap (λ (p : Proc). own_fits n' counted p part) (sym (box_proc s x tokens k (omega (arith, n_boxes s t c h))))

      pub input_part : (i k : ℕ) (r : Bool) → i ≡ k - c.boxes → c.boxes ≤ k → k < c.boxes + c.inputs → r ≡ (not counted || leb (two_at part 0) (length (get_or tokens i []))) → r ≡ own_fits n' counted (proc n' k) part
      input_part i k r e from to f =
          f ∙ ap (λ (j : ℕ). not counted || leb (two_at part 0) (length (get_or tokens j []))) e
          ∙ sym (ap (λ (v : Proc). own_fits n' counted v part) (input_is s t c h k from to tokens) ∙ fits_input n' counted _ (get_or tokens (k - c.boxes) []) part)

      pub output_part : (k : ℕ) (r : Bool) → c.boxes + c.inputs ≤ k → k < c.boxes + c.inputs + c.outputs →
          r ≡ room_fits (wire n (wire_at (proc n k))).ty (room_at (proc n k)) (two_at part 0) (drop 2 part) → r ≡ own_fits n' counted (proc n' k) part
      output_part k r from to f =
          let same : wire n (wire_at (proc n k)) ≡ wire n' (wire_at (proc n k)) = unfold wire net_of in refl in
          f ∙ ap (λ (v : Wire). room_fits v.ty (room_at (proc n k)) (two_at part 0) (drop 2 part)) same
          ∙ sym (ap (λ (v : Proc). own_fits n' counted v part) (output_is s t c h k from to tokens) ∙ fits_output n' counted (wire_at (proc n k)) (room_at (proc n k)) part)

    -- places and sizes are those of the network without tokens
    pub procs_n : length n'.procs ≡ c.boxes + c.inputs + c.outputs
    procs_n = procs_length s x tokens ∙ omega (arith, n_boxes s t c h, n_inputs s t c h, n_outputs s t c h)

    pub own-place : (k : ℕ) → own_start n k ≡ own_start n' k
    unfolding own_start wires_size net_of
    own-place k = ap (λ (l : List ℕ). wires_size n + start_of l k) (sym (unfold net_of in own_sizes s x tokens))

    pub own_sized : (k : ℕ) → k < c.boxes + c.inputs + c.outputs → own_size (proc n k) ≡ own_size (proc n' k)
    unfolding proc
    own_sized k l =
        sym (get_d_map_lt own_size n.procs k nobody 0 (omega (arith, procs_length s x [], n_boxes s t c h, n_inputs s t c h, n_outputs s t c h)))
        ∙ ap (λ (z : List ℕ). get_or z k 0) (sym (own_sizes s x tokens))
        ∙ get_d_map_lt own_size n'.procs k nobody 0 (omega (arith, procs_n))

    pub own_part : (k a b : ℕ) (counted : Bool) (st : List ℕ) (r : Bool) → k < c.boxes + c.inputs + c.outputs → a ≡ own_start n k → b ≡ a + own_size (proc n k) → r ≡ own_fits n' counted (proc n' k) (mid a (b - a) st) →
        r ≡ own_fits n' counted (proc n' k) (mid (own_start n' k) (own_size (proc n' k)) st)
    own_part k a b counted st r l p q f =
        let d : b - a ≡ own_size (proc n' k) = omega (arith, q, own_sized k l) in
        f ∙ ap₂ (λ (i j : ℕ). own_fits n' counted (proc n' k) (mid i j st)) (p ∙ own-place k) d

-- ── the whole state ──────────────────────────────────────────────────────────────────────────

module _ (s : List ℕ) (y : Index) (tokens : List (List Token)) (counted : Bool) (st : List ℕ) (w : Bool) (e : w ≡ wires_fit (net_of s y []) 0 st) where
  pub state_wrong : w ≡ false → false ≡ state_fits (net_of s y tokens) counted st
  state_wrong f = sym (state_is (net_of s y tokens) st counted ∙ ap (λ (b : Bool). b && owns_fit (net_of s y tokens) counted 0 st) (sym (wires_same s y tokens st) ∙ sym e ∙ f))

  pub state_right : (r : Bool) → w ≡ true → r ≡ owns_fit (net_of s y tokens) counted 0 st → r ≡ state_fits (net_of s y tokens) counted st
  state_right r f g = g ∙ sym (state_is (net_of s y tokens) st counted ∙ ap (λ (b : Bool). b && owns_fit (net_of s y tokens) counted 0 st) (sym (wires_same s y tokens st) ∙ sym e ∙ f))
