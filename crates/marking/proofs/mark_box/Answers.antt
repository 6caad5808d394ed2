use Prim.Native.Nat.{ℕ, ◌≤◌, ◌<◌}
use native.Mathlib.Omega.{arith}
use Rattle.marking.proofs.Boxes.{box_ready, rules_ready}
use Rattle.marking.proofs.Boxmarks.{box_marked}
use Rattle.marking.proofs.mark_box.Goals as goal

small : {m n : ℕ} → m < n → m ≤ n
small l = omega (arith, l)

pub shape_of-arity-requires : goal.shape_of-arity-requires
shape_of-arity-requires c =
    let h = c.args.site.now.plan.net.tabled in
    record {
      wires_in_bounds = omega (arith, h.within.wires, h.long);
      box_fits = box_ready _ _ _ h _ c.requires.k_lt_boxes _ c.box_at-at.ensures.0;
      in_bounds = (omega arith, omega arith, omega arith);
    }

pub search-requires : goal.search-requires
search-requires c = record {
  rules = rules_ready _ _ _ c.args.site.now.plan.net.tabled _ c.requires.k_lt_boxes _ c.box_at-at.ensures.0 _ _ _ _ c.shape_of-arity.ensures _ c.rules_of.ensures;
  smalls = record { each = λ i. small (c.view_of-view.ensures.small i) };
}

pub returns : goal.returns
returns c =
    box_marked _ _ _ _ _ _ c.requires.standing _ c.requires.k_lt_boxes _ c.box_at-at.ensures.0 _ _ _ _ c.shape_of-arity.ensures _ c.view_of-view.ensures _ c.rules_of.ensures c.search.ensures
