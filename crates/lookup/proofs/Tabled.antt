-- What an accepted file's table says, entry by entry, of the decoded network: for the accessors alone, but for the counts and the ends.
-- Assumes nothing.
use mathlib.Core.Path.{◌≡◌, refl, sym, ap, ◌∙◌, subst}
use mathlib.Core.Bool.{cond}
use mathlib.Core.List.{List, []}
use Prim.Native.Nat.{ℕ, ◌+◌, ◌-◌, ◌≤◌, ◌<◌}
use native.Mathlib.Omega.{arith}
use native.Mathlib.Decide.{dec_lt}
use lib.Dec.{ltb}
use lib.ListN.{length, get_or}
use borrow.Author.Tests.{lt-ltb, le-ltb}
use Rattle.model.specs.declared.Token.{Token}
use Rattle.model.specs.Bytes.{two_at}
use Rattle.model.specs.Network.{Proc, input, output, Net, wire, proc}
use Rattle.model.specs.NetworkFile.{Index, wire_of, box_at, input_at, output_at, rules_end, rule_at, net_of}
use Rattle.model.specs.States.{tokens_fit}
use Rattle.model.proofs.Accepted.{Valid, InFile}
use Rattle.model.proofs.Decoded.{GoodWire, GoodProc, GoodNet}
use Rattle.model.proofs.Lookup.{wire_at_lem, input_proc, output_proc, wires_length, procs_length, rules_length}
use Rattle.model.proofs.Whole.{network_checked, net_good}
use Rattle.table.specs.declared.Counts.{Counts}
use Rattle.table.specs.Table.{index_in}
use Rattle.table.proofs.Regions.{region-length, region_at}
use Rattle.table.proofs.Lengths.{wires_n, boxes_n, inputs_n, outputs_n}
use Rattle.lookup.specs.Ends.{wire_at, room_at}
use Rattle.lookup.specs.Tabled.{Tabled}

module _ (s t : List ℕ) (c : Counts) (h : Tabled s t c) where
  abbrev x : Index
  x = index_in t c

  pub valid : Valid s x
  valid = (network_checked s x h.found).valid

  pub n_wires : length x.wires ≡ c.wires
  n_wires = wires_n t c h.long h.within

  pub n_boxes : length x.boxes ≡ c.boxes
  n_boxes = boxes_n t c h.long h.within

  pub n_inputs : length x.inputs ≡ c.inputs
  n_inputs = inputs_n t c h.long h.within

  pub n_outputs : length x.outputs ≡ c.outputs
  n_outputs = outputs_n t c h.long h.within

  abbrev n : Net
  n = net_of s x []

  -- without tokens it is good
  pub bare_good : GoodNet n
  bare_good = net_good s x valid [] (λ i l. unfold tokens_fit in refl)

  -- ── wires ──

  -- the wire at a number, by its entry
  pub wire_is : (w : ℕ) → w < c.wires → wire n w ≡ wire_of s (get_or t w 0)
  unfolding index_in
  wire_is w l = wire_at_lem s x [] w (omega (arith, n_wires)) ∙ ap (wire_of s) (region_at 0 c.wires t w l ∙ ap (λ (i : ℕ). get_or t i 0) (omega arith))

  pub wire_fine : (w : ℕ) → w < c.wires → GoodWire (wire n w)
  unfolding wire
  wire_fine w l = bare_good.wires w (omega (arith, wires_length s x [], n_wires))

  -- ── inputs and outputs ──

  pub proc_fine : (k : ℕ) → k < c.boxes + c.inputs + c.outputs → GoodProc n (proc n k)
  unfolding proc
  proc_fine k l = bare_good.procs k (omega (arith, procs_length s x [], n_boxes, n_inputs, n_outputs))

  module _ (k : ℕ) (from : c.boxes ≤ k) (to : k < c.boxes + c.inputs) where
    here : (tokens : List (List Token)) → proc (net_of s x tokens) k ≡ input_at s x tokens (k - c.boxes)
    here tokens = let e : k ≡ length x.boxes + (k - c.boxes) = omega (arith, n_boxes) in ap (proc (net_of s x tokens)) e ∙ input_proc s x tokens (k - c.boxes) (omega (arith, n_inputs))

    -- an input with any tokens
    pub input_is : (tokens : List (List Token)) → proc (net_of s x tokens) k ≡ input (wire_at (proc n k)) (get_or tokens (k - c.boxes) [])
    unfolding input_at wire_at
    input_is tokens = here tokens ∙ ap (λ (p : Proc). input (wire_at p) (get_or tokens (k - c.boxes) [])) (sym (here []))

    -- its wire, by its entry, is a declared one
    pub input_entry : wire_at (proc n k) ≡ get_or s (get_or t (640 + (k - c.boxes)) 0 + 3) 0
    unfolding input_at wire_at index_in
    input_entry = ap wire_at (here []) ∙ ap (λ (o : ℕ). get_or s (o + 3) 0) (region_at 640 c.inputs t (k - c.boxes) (omega arith))

    pub input_known : wire_at (proc n k) < c.wires
    input_known = let g = subst (GoodProc n) (input_is []) (proc_fine k (omega arith)) in omega (arith, g.0, wires_length s x [], n_wires)

  module _ (k : ℕ) (from : c.boxes + c.inputs ≤ k) (to : k < c.boxes + c.inputs + c.outputs) where
    abbrev i : ℕ
    i = k - (c.boxes + c.inputs)

    there : (tokens : List (List Token)) → proc (net_of s x tokens) k ≡ output_at s x i
    there tokens = let e : k ≡ length x.boxes + length x.inputs + i = omega (arith, n_boxes, n_inputs) in ap (proc (net_of s x tokens)) e ∙ output_proc s x tokens i (omega (arith, n_outputs))

    -- an output, whatever the tokens
    pub output_is : (tokens : List (List Token)) → proc (net_of s x tokens) k ≡ output (wire_at (proc n k)) (room_at (proc n k))
    unfolding output_at wire_at room_at
    output_is tokens = there tokens ∙ ap (λ (p : Proc). output (wire_at p) (room_at p)) (sym (there []))

    -- by its entry
    pub output_entry : proc n k ≡ output (get_or s (get_or t (648 + i) 0 + 3) 0) (two_at s (get_or t (648 + i) 0 + 4))
    unfolding output_at index_in
    output_entry = there [] ∙ ap (λ (o : ℕ). output (get_or s (o + 3) 0) (two_at s (o + 4))) (region_at 648 c.outputs t i (omega arith))

    -- its wire is a declared one, its room 1 to 1,000
    pub output_good : GoodProc n (output (wire_at (proc n k)) (room_at (proc n k)))
    output_good = subst (GoodProc n) (output_is []) (proc_fine k to)

    pub output_known : wire_at (proc n k) < c.wires
    output_known = omega (arith, output_good.0, wires_length s x [], n_wires)

  -- ── boxes and rules ──

  pub box_entry : (b : ℕ) → b < c.boxes → get_or x.boxes b 0 ≡ get_or t (64 + b) 0
  unfolding index_in
  box_entry b l = region_at 64 c.boxes t b l

  -- the box's field lies in the file
  pub box_inside : (b : ℕ) → b < c.boxes → InFile s (get_or x.boxes b 0)
  box_inside b l = (valid.boxes b (omega (arith, n_boxes))).in-file

  first_entry : (b : ℕ) → b < c.boxes → get_or x.firsts b 0 ≡ get_or t (96 + b) 0
  unfolding index_in
  first_entry b l = region_at 96 c.boxes t b l

  n_rules : length x.rules ≡ c.rules
  unfolding index_in
  n_rules = region-length 128 c.rules t (omega (arith, h.long, h.within.rules, h.within.boxes, h.within.inbox, h.within.inboxes))

  -- where the rules of box b end, and how many it has
  rules_end_lem : (b : ℕ) → rules_end x b ≡ cond (ltb (b + 1) c.boxes) (get_or t (97 + b) 0) c.rules
  unfolding rules_end
  rules_end_lem b = rw n_boxes (by_place (dec_lt (b + 1) c.boxes))
    where
      by_place : Dec (b + 1 < c.boxes) → cond (ltb (b + 1) c.boxes) (get_or x.firsts (b + 1) 0) (length x.rules) ≡ cond (ltb (b + 1) c.boxes) (get_or t (97 + b) 0) c.rules
      by_place (yes g) = rw (lt-ltb (b + 1) c.boxes g, first_entry (b + 1) g) (ap (λ (i : ℕ). get_or t i 0) (omega arith))
      by_place (no f) = rw (le-ltb (b + 1) c.boxes (omega (arith, f)), n_rules) refl

  pub rules_in : (b : ℕ) → b < c.boxes → length (box_at s x b).rules ≡ cond (ltb (b + 1) c.boxes) (get_or t (97 + b) 0) c.rules - get_or t (96 + b) 0
  rules_in b l = rules_length s x [] b ∙ rw (rules_end_lem b, first_entry b l) refl

  module _ (b r : ℕ) (l : b < c.boxes) (m : r < length (box_at s x b).rules) where
    pub rule_known : get_or x.firsts b 0 + r < rules_end x b
    rule_known = omega (arith, m, rules_length s x [] b)

    -- the entry of rule r of box b, and its field in the file
    pub rule_entry : rule_at x b r ≡ get_or t (128 + (get_or t (96 + b) 0 + r)) 0
    unfolding rule_at index_in
    rule_entry = region_at 128 c.rules t (get_or x.firsts b 0 + r) (omega (arith, rule_known, valid.ends b (omega (arith, n_boxes, l)), n_rules)) ∙ rw (first_entry b l) refl

    pub rule_inside : InFile s (rule_at x b r)
    rule_inside = (valid.rules b r (omega (arith, n_boxes, l)) rule_known).in-file
