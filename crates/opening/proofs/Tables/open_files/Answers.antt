use mathlib.Core.Path.{refl}
use Rattle.std.proofs.lemmas.Result.{err_from_is_err_and}
use Rattle.opening.specs.Filled.{FilesFilled}
use Rattle.opening.specs.Opening.{FilesOpened}
use Rattle.opening.proofs.Laws.{feed_opened}
use Rattle.opening.proofs.Tables.open_files.Goals as goal

pub returns-in_err-opened : goal.returns-in_err-opened
unfolding FilesFilled FilesOpened
returns-in_err-opened c =
    let p = err_from_is_err_and c.from_residual.result c.from_residual.ensures.1 in
    record { opened = rw (p.1, p.2) c.in_err-opened.ensures; those_files = rw p.1 tt }

pub feed_of-requires : goal.feed_of-requires
unfolding FilesFilled
feed_of-requires c = c.in_ok-opened.ensures

pub returns : goal.returns
unfolding FilesFilled FilesOpened
returns c = record { opened = feed_opened _ _ _ _ _ _ _ c.feed_of.ensures _ c.in_ok-opened.ensures; those_files = (c.feed_of.ensures.file, c.feed_of.ensures.tokens) }
