use Prim.Native.Nat.{◌+◌}
use Rattle.putting.proofs.Kept.{kept_is, keep_asks, keep_done}
use Rattle.putting.proofs.Actor.keep_one.Goals as goal

pub keep-requires : goal.keep-requires
keep-requires c =
    let is = kept_is _ _ _ _ (c.args.self.now.env.now.fits.small (4 + c.args.j)) c.kept_value-z.type_inv c.kept_value-z.ensures in
    record { standing = c.requires.standing; can_keep = keep_asks is c.requires.can_keep }

pub returns : goal.returns
returns c =
    let is = kept_is _ _ _ _ (c.args.self.now.env.now.fits.small (4 + c.args.j)) c.kept_value-z.type_inv c.kept_value-z.ensures in
    keep_done _ _ _ is c.keep.ensures
