use Rattle.std.proofs.Common.{sym, ◌∙◌, arith}
use borrow.Author.Tests.{lt-leb}
use Rattle.tokens.proofs.Laws.{room-full, room-wrong, room-right, both}
use Rattle.tokens.proofs.room_fits.Goals as goal
use Rattle.tokens.proofs.room_fits.Goals.{then-k-room, else-k-room}

pub returns-then-tokens_fit : goal.returns-then-tokens_fit
returns-then-tokens_fit c =
    elim c.if-k-room.branch [
      | then-k-room w ↦ c.all_zero.ensures ∙ sym (room-right _ _ _ _ (omega arith) (sym w.tokens_fit.ensures ∙ sym w.value-is ∙ c.if-tokens_fit.true))
      | else-k-room w ↦ both c.if-tokens_fit.true (w.value-is ∙ lt-leb c.args.k c.args.room (omega arith))
    ]

pub returns-else-tokens_fit : goal.returns-else-tokens_fit
returns-else-tokens_fit c =
    elim c.if-k-room.branch [
      | then-k-room w ↦ c.if-tokens_fit.false ∙ sym (room-wrong _ _ _ _ (omega arith) (sym w.tokens_fit.ensures ∙ sym w.value-is ∙ c.if-tokens_fit.false))
      | else-k-room w ↦ c.if-tokens_fit.false ∙ sym (room-full _ _ _ _ (omega arith))
    ]
