use Rattle.std.proofs.Common.{ℕ, ap, ◌+◌, ◌*◌}
use Rattle.tokens.proofs.Laws.{field_stores}
use Rattle.tokens.proofs.field_out.Goals as goal

pub returns : goal.returns
returns c =
    let e = c.two_at-n.ensures.0 in
    (ap (λ (n : ℕ). 3 + 5 * n) e, field_stores _ _ _ _ _ e c.put_head.ensures c.copy_from_slice.ensures.after)
