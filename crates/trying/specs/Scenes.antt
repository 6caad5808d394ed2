-- A rule held against what its box sees, as the code has it.
-- Assumes nothing.
use Rattle.std.specs.Prelude.{ℕ, List}
use Rattle.model.specs.Rules.{Rule, rule_read, read_rule}
use Rattle.model.specs.NetworkFile.{body_at, rule_at}
use Rattle.model.specs.Cycles.{Mark}
use Rattle.lookup.specs.declared.Net.{Net}
use Rattle.lookup.specs.Views.{index_of}
use Rattle.shapes.specs.Shapes.{types_in}
use Rattle.trying.specs.declared.Scene.{Scene}
use Rattle.trying.specs.Views.{view_env, judge_of, try_on}

abbrev pub rule_in : Scene → List ℕ → Rule  -- the rule of a body
rule_in x b = rule_read (read_rule x.arity.ins x.arity.outs x.arity.vars b)

-- what comes of the rule of a body whose patterns are ready
abbrev pub settled : Scene → List ℕ → Mark
settled x b = judge_of (view_env (types_in x.ins.now x.arity.ins) (types_in x.vars.now x.arity.vars) x.vals.now (rule_in x b)) x.full.now (rule_in x b) 0

-- what comes of rule r of box k
abbrev pub trial : Net → Scene → ℕ → ℕ → Mark
trial n x k r = try_on (types_in x.ins.now x.arity.ins) (types_in x.vars.now x.arity.vars) x.heads.now x.full.now x.vals.now (rule_in x (body_at n.file.now (rule_at (index_of n) k r))) r
