-- What stands at each number of the network that an index describes.
-- Assumes nothing.
use mathlib.Core.Path.{◌≡◌, sym, ap, ◌∙◌}
use mathlib.Core.List.{List, ◌++◌}
use Prim.Native.Nat.{ℕ, ◌+◌, ◌-◌, ◌<◌}
use native.Mathlib.Omega.{arith}
use lib.ListN.{length, get_or, length-append, length-map, get_or-append}
use lib.Seq.{get_or-append-add}
use Rattle.model.specs.declared.Token.{Token}
use Rattle.model.specs.Rules.{no_rule, rule_read}
use Rattle.model.specs.Network.{Proc, box, Net, no_wire, nobody, wire, proc, rule}
use Rattle.model.specs.NetworkFile.{Index, tabulate, body_at, wire_of, wires_of, shape_at, rules_end, rule_at, rule_in, rules_of, box_at, input_at, output_at, net_of}
use Rattle.model.proofs.Decoded.{length-tabulate, get_d_tabulate, get_d_map_lt}

module _ (s : List ℕ) (x : Index) (tokens : List (List Token)) where
  abbrev n : Net
  n = net_of s x tokens

  abbrev nb : ℕ
  nb = length x.boxes

  abbrev ni : ℕ
  ni = length x.inputs

  abbrev no : ℕ
  no = length x.outputs

  abbrev boxes : List Proc
  boxes = tabulate nb (λ b. box (box_at s x b))

  abbrev inputs : List Proc
  inputs = tabulate ni (input_at s x tokens)

  abbrev outputs : List Proc
  outputs = tabulate no (output_at s x)

  pub wires_length : length n.wires ≡ length x.wires
  unfolding net_of wires_of
  wires_length = length-map x.wires (wire_of s)

  pub procs_length : length n.procs ≡ nb + ni + no
  unfolding net_of
  procs_length =
      length-append (boxes ++ inputs) outputs
      ∙ omega (arith, length-append boxes inputs, length-tabulate nb (λ b. box (box_at s x b)), length-tabulate ni (input_at s x tokens), length-tabulate no (output_at s x))

  pub wire_at_lem : (w : ℕ) → w < length x.wires → wire n w ≡ wire_of s (get_or x.wires w 0)
  unfolding net_of wires_of wire
  wire_at_lem w h = get_d_map_lt (wire_of s) x.wires w 0 no_wire h

  front_length : length (boxes ++ inputs) ≡ nb + ni
  front_length = length-append boxes inputs ∙ omega (arith, length-tabulate nb (λ b. box (box_at s x b)), length-tabulate ni (input_at s x tokens))

  pub box_proc : (k : ℕ) → k < nb → proc n k ≡ box (box_at s x k)
  unfolding net_of proc
  box_proc k h =
      get_or-append (boxes ++ inputs) outputs nobody k (omega (arith, front_length))
      ∙ get_or-append boxes inputs nobody k (omega (arith, length-tabulate nb (λ b. box (box_at s x b))))
      ∙ get_d_tabulate nb (λ b. box (box_at s x b)) nobody k h

  pub input_proc : (i : ℕ) → i < ni → proc n (nb + i) ≡ input_at s x tokens i
  unfolding net_of proc
  input_proc i h =
      get_or-append (boxes ++ inputs) outputs nobody (nb + i) (omega (arith, front_length))
      ∙ ap (λ (k : ℕ). get_or (boxes ++ inputs) (k + i) nobody) (sym (length-tabulate nb (λ b. box (box_at s x b))))
      ∙ get_or-append-add boxes inputs i nobody
      ∙ get_d_tabulate ni (input_at s x tokens) nobody i h

  pub output_proc : (i : ℕ) → i < no → proc n (nb + ni + i) ≡ output_at s x i
  unfolding net_of proc
  output_proc i h =
      ap (λ (k : ℕ). get_or (boxes ++ inputs ++ outputs) (k + i) nobody) (sym front_length)
      ∙ get_or-append-add (boxes ++ inputs) outputs i nobody
      ∙ get_d_tabulate no (output_at s x) nobody i h

  -- how many rules box b has, and its rule r
  pub rules_length : (b : ℕ) → length (box_at s x b).rules ≡ rules_end x b - get_or x.firsts b 0
  unfolding box_at rules_of
  rules_length b = length-tabulate (rules_end x b - get_or x.firsts b 0) (λ r. rule_read (rule_in (shape_at s x b) (body_at s (rule_at x b r))))

  pub rule_at_lem : (b r : ℕ) → get_or x.firsts b 0 + r < rules_end x b → rule (box_at s x b) r ≡ rule_read (rule_in (shape_at s x b) (body_at s (rule_at x b r)))
  unfolding box_at rules_of rule
  rule_at_lem b r h = get_d_tabulate (rules_end x b - get_or x.firsts b 0) (λ k. rule_read (rule_in (shape_at s x b) (body_at s (rule_at x b k)))) no_rule r (omega arith)
