-- A process of a state against what it is checked against: the plan that was handed on is that of the basis.
-- Assumes nothing.
use Prim.Native.Nat.{ℕ, ◌+◌, ◌≤◌, ◌<◌}
use mathlib.Core.Path.{◌≡◌, sym, ap, ap₂, ◌∙◌, subst}
use mathlib.Core.Bool.{Bool}
use mathlib.Core.List.{List}
use lib.Dec.{leb}
use lib.ListN.{length}
use Rattle.model.specs.declared.Token.{Token}
use Rattle.model.specs.Bytes.{two_at}
use Rattle.model.specs.Network.{Net, proc}
use Rattle.model.specs.NetworkFile.{net_of}
use Rattle.model.specs.States.{own_size, state_size, own_fits}
use Rattle.lookup.specs.Views.{index_of, network_of}
use Rattle.places.specs.declared.Plan.{Plan}
use Rattle.places.specs.declared.Span.{Span}
use Rattle.places.specs.Places.{OwnSpan}
use Rattle.token_file.specs.declared.Feed.{Feed}
use Rattle.token_file.specs.Views.{listed}
use Rattle.states.specs.declared.Basis.{Basis}
use Rattle.states.specs.declared.Basis.TheVariants as basis
use Rattle.states.specs.Saved.{plan_of, tokens_for, network_for, counted, input_fits, wires_fit}

pub input_said : (b : Basis) (f : Feed) (i : ℕ) (part : List ℕ) (a k : ℕ) → b ≡ basis.Files f → i < f.site.plan.net.counts.inputs → a ≡ two_at part 0 → k ≡ length (listed f i) → leb a k ≡ input_fits b i part
unfolding input_fits
input_said b f i part a k e l p q = rw e (ap₂ leb p (q ∙ ap (λ (ts : List Token). length ts) (f.noted.each i l).holds))

module _ (b : Basis) (p : Plan) (e : p ≡ plan_of b) where
  -- the network of the plan, with the tokens of the basis
  abbrev pub n' : Net
  n' = net_of p.net.file.now (index_of p.net) (tokens_for b)

  pub of_basis : (k : ℕ) (part : List ℕ) (r : Bool) → r ≡ own_fits n' (counted b) (proc n' k) part → r ≡ own_fits (network_for b) (counted b) (proc (network_for b) k) part
  of_basis k part r f = f ∙ ap (λ (q : Plan). let n = net_of q.net.file.now (index_of q.net) (tokens_for b) in own_fits n (counted b) (proc n k) part) e

  pub is_process : (k : ℕ) → k < (plan_of b).net.counts.boxes + (plan_of b).net.counts.inputs + (plan_of b).net.counts.outputs → k < p.net.counts.boxes + p.net.counts.inputs + p.net.counts.outputs
  is_process k l = subst (λ (q : Plan). k < q.net.counts.boxes + q.net.counts.inputs + q.net.counts.outputs) (sym e) l

  pub of_plan : (k : ℕ) → k < p.net.counts.boxes + p.net.counts.inputs + p.net.counts.outputs → k < (plan_of b).net.counts.boxes + (plan_of b).net.counts.inputs + (plan_of b).net.counts.outputs
  of_plan k l = subst (λ (q : Plan). k < q.net.counts.boxes + q.net.counts.inputs + q.net.counts.outputs) e l

  pub is_input : (i : ℕ) → i < p.net.counts.inputs → i < (plan_of b).net.counts.inputs
  is_input i l = subst (λ (q : Plan). i < q.net.counts.inputs) e l

  pub long : (st : List ℕ) → state_size (network_of (plan_of b).net) ≤ length st → state_size (network_of p.net) ≤ length st
  long st l = subst (λ (q : Plan). state_size (network_of q.net) ≤ length st) (sym e) l

  pub sized : (k m : ℕ) → m ≡ own_size (proc (network_of (plan_of b).net) k) → m ≡ own_size (proc (network_of p.net) k)
  sized k m f = subst (λ (q : Plan). m ≡ own_size (proc (network_of q.net) k)) (sym e) f

  pub span_is : (k : ℕ) (r : Span) → OwnSpan (network_of p.net) k r → OwnSpan (network_of (plan_of b).net) k r
  span_is k r h = subst (λ (q : Plan). OwnSpan (network_of q.net) k r) e h

  pub wires_are : (st : List ℕ) (r : Bool) → r ≡ wires_fit (network_of p.net) 0 st → r ≡ wires_fit (network_of (plan_of b).net) 0 st
  wires_are st r f = subst (λ (q : Plan). r ≡ wires_fit (network_of q.net) 0 st) e f
