-- A rule's body that can be worked out, and where in it a reader stands.
-- Assumes nothing.
use Rattle.std.specs.Prelude.{ℕ, ◌≤◌, ◌<◌, ◌^◌, ◌≡◌, Bool, true, false, List, ℤ, pos, length, get_or, Result, Ok, Err}
use Rattle.std.specs.Int.Signed.{mag}
use Rattle.model.specs.declared.Fault.{Fault}
use Rattle.model.specs.Values.{no_type}
use Rattle.model.specs.Rules.{rule_read, read_rule}
use Rattle.model.specs.NetworkFile.{body_at, box_at, rule_at}
use Rattle.model.specs.Cycles.{Mark, quiet, fires, faulty}
use Rattle.model.proofs.Decoded.{Each, GoodType}
use Rattle.types.specs.Scopes.{scope_in}
use Rattle.table.specs.declared.Counts.{Counts}
use Rattle.table.specs.Table.{index_in}
use Rattle.shapes.specs.Shapes.{types_in}
use Rattle.shapes.specs.declared.Arity.{Arity}
use Rattle.rules.specs.declared.Parts.{Parts}
use Rattle.rules.specs.Bodies.{patterns_from}
use Rattle.rules.proofs.Laying.{Laid}
use Rattle.typing.specs.Fits.{Kept, scope_read}
use Rattle.actions.proofs.Worked.{Judged}

-- its parts lie there and keep the limits, and its expressions have a type where these are the types that they name
pub record Workable (a : Arity) (b : List ℕ) (types : List ℕ) : Type 0 where
  pub parts : Parts
  pub outs : a.outs ≤ 4
  pub vars : a.vars ≤ 4
  pub laid : Laid a b parts
  pub kept : Kept a parts b
  pub judged : Judged (scope_in types) (rule_read (read_rule a.ins a.outs a.vars b))

-- the guard begins at an offset
pub record AtGuard (a : Arity) (b : List ℕ) (at : ℕ) (types : List ℕ) : Type 0 where
  pub work : Workable a b types
  pub guard : at ≡ work.parts.guard

-- the output actions and the variable actions begin at two offsets
pub record AtActions (a : Arity) (b : List ℕ) (from next : ℕ) (types : List ℕ) : Type 0 where
  pub work : Workable a b types
  pub outs : from ≡ work.parts.outs
  pub sets : next ≡ work.parts.sets

-- a rule's body of a box whose inputs and variables have the types of two tables
pub record Ruled (a : Arity) (ins vars b : List ℕ) : Type 0 where
  pub parts : Parts
  pub few_ins : a.ins ≤ 4
  pub few_outs : a.outs ≤ 4
  pub few_vars : a.vars ≤ 4
  pub laid : Laid a b parts
  pub kept : Kept a parts b
  pub judged : Judged (scope_read (types_in ins a.ins) (types_in vars a.vars) (patterns_from false a.ins 0 b)) (rule_read (read_rule a.ins a.outs a.vars b))
  pub good_ins : Each GoodType no_type (types_in ins a.ins)
  pub good_vars : Each GoodType no_type (types_in vars a.vars)

-- values of 32 bits
pub record Smalls (vals : List ℤ) : Type 0 where
  pub each : (i : ℕ) → mag (get_or vals i (pos 0)) ≤ 2 ^ 31

-- its guard begins at an offset
pub record Settled (a : Arity) (ins vars b : List ℕ) (at : ℕ) (vals : List ℤ) : Type 0 where
  pub ruled : Ruled a ins vars b
  pub guard : at ≡ ruled.parts.guard
  pub small : Smalls vals

-- each of the first n rules of box k of an accepted network
pub record Rules (s t : List ℕ) (c : Counts) (k n : ℕ) (a : Arity) (ins vars : List ℕ) : Type 0 where
  pub known : k < c.boxes
  pub there : n ≤ length (box_at s (index_in t c) k).rules
  pub few : n ≤ 16
  pub few_ins : a.ins ≤ 4
  pub few_vars : a.vars ≤ 4
  pub ruled : (r : ℕ) → r < n → Ruled a ins vars (body_at s (rule_at (index_in t c) k r))

-- as the code says it, without the rule's number
unfoldable pub judged_as : Mark → Result Bool Fault
judged_as quiet = Ok false
judged_as (fires k) = Ok true
judged_as (faulty x) = Err x
