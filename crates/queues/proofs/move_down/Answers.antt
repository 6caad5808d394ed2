use Rattle.std.proofs.Common.{arith, rules, ◌-◌, length}
use Rattle.queues.proofs.Stores.{move_whole}
use Rattle.queues.proofs.move_down.Goals as goal

pub returns : goal.returns
returns c = move_whole c.args.s.now c.copy_within.new.self c.fill.new.self (length c.args.s.now - 5) (omega arith) (search rules) (search rules)
