-- What the code's expressions may name, as the model has it.
-- Assumes nothing.
use Rattle.model.specs.Expressions.{Env}
use Rattle.evaluation.specs.declared.names.Env as code
use Rattle.evaluation.specs.Envs.{env_in}

-- the types and values of the code's environment
abbrev pub named_by : code.Env → Env
named_by x = env_in x.vals x.types
