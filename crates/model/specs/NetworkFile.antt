-- The network file: its fields in order, form, limits and types of each, the ports, and the network that a good file describes.
-- Assumes nothing.
use Rattle.std.specs.Prelude.{ℕ, zero, suc, ◌+◌, ◌-◌, ◌*◌, Bool, true, false, cond, ◌&&◌, List, [], ◌∷◌, ◌++◌, map, leb, ltb, eqb, get_or, length, Option, Some, None}
use Rattle.model.specs.declared.Token.{Token}
use Rattle.model.specs.declared.Field.{Field}
use Rattle.model.specs.Bytes.{two_at, value_at, stretch}
use Rattle.model.specs.Values.{in_precision, well_sized, is_plain, within}
use Rattle.model.specs.Expressions.{type_at, Read, expression_limits}
use Rattle.model.specs.Rules.{Rule, read_rule, rule_read, is_whole, action_limits, Shape, rule_fits, is_fit}
use Rattle.model.specs.Network.{Wire, Variable, Box, Proc, box, input, output, Net, ins_of, outs_of, shape_of}

-- ── fields ───────────────────────────────────────────────────────────────────────────────────

-- the field at an offset: tag, two-byte length, body; none where the file ends before it does
unfoldable pub field_at : List ℕ → ℕ → Option Field
field_at s at =
    cond (ltb (length s) (at + 3)) None
    (cond (ltb (length s) (at + 3 + two_at s (at + 1))) None
    (Some (record { tag = get_or s at 0; start = at + 3; len = two_at s (at + 1) })))

-- the fields so far: the offsets of each kind; how many rules stand before each box; the rules of the last box; the last tag, 2 for a rule
pub record Index : Type 0 where
  pub wires : List ℕ
  pub boxes : List ℕ
  pub firsts : List ℕ
  pub rules : List ℕ
  pub inbox : ℕ
  pub inputs : List ℕ
  pub outputs : List ℕ
  pub last : ℕ

unfoldable pub no_fields : Index  -- before the first field
no_fields = record { wires = []; boxes = []; firsts = []; rules = []; inbox = 0; inputs = []; outputs = []; last = 0 }

-- f holds of each number below n
unfoldable pub every : ℕ → (ℕ → Bool) → Bool
every zero f = true
every (suc n) f = every n f && f n

-- f 0, f 1, .., n of them
unfoldable pub tabulate : {A : Type 0} → ℕ → (ℕ → A) → List A
tabulate zero f = []
tabulate (suc n) f = f 0 ∷ tabulate n (λ k. f (suc k))

-- form, limits, types: the first that fails decides the number; 0 where all hold
unfoldable pub fault_of : Bool → Bool → Bool → ℕ
fault_of form limits types = cond form (cond limits (cond types 0 4) 2) 1

-- ── tag 1, wire: kind, p, capacity ───────────────────────────────────────────────────────────

unfoldable pub wire_form : List ℕ → Bool  -- three bytes, a known kind
wire_form b = eqb (length b) 3 && leb (get_or b 0 0) 4

unfoldable pub wire_limits : ℕ → List ℕ → Bool  -- 64 wires, precision, capacity 1 to 64
wire_limits seen b = ltb seen 64 && in_precision (type_at b 0) && leb 1 (get_or b 2 0) && leb (get_or b 2 0) 64

unfoldable pub wire_type_fits : List ℕ → Bool  -- a bool has p = 1
wire_type_fits b = well_sized (type_at b 0)

-- ── tag 2, box: counts of inputs, outputs, variables; wire numbers; variables of kind, p, initial value ──

-- where variable j of a box's body begins
unfoldable pub variable_start : List ℕ → ℕ → ℕ
variable_start b j = 3 + get_or b 0 0 + get_or b 1 0 + 6 * j

unfoldable pub box_form : ℕ → List ℕ → Bool  -- length, declared wires, known kinds
box_form wires b =
    leb 3 (length b)
    && eqb (length b) (variable_start b (get_or b 2 0))
    && every (get_or b 0 0 + get_or b 1 0) (λ k. ltb (get_or b (3 + k) 0) wires)
    && every (get_or b 2 0) (λ j. leb (get_or b (variable_start b j) 0) 4)

unfoldable pub box_limits : ℕ → List ℕ → Bool  -- 32 boxes, 4 of each, precisions
box_limits seen b =
    ltb seen 32 && leb (get_or b 0 0) 4 && leb (get_or b 1 0) 4 && leb (get_or b 2 0) 4
    && every (get_or b 2 0) (λ j. in_precision (type_at b (variable_start b j)))

unfoldable pub variable_fits : List ℕ → ℕ → Bool  -- a plain type, and a value of it
variable_fits b j = let at = variable_start b j in is_plain (type_at b at) && within (type_at b at) (value_at b (at + 2))

unfoldable pub box_types : List ℕ → Bool  -- all variables fit
box_types b = every (get_or b 2 0) (variable_fits b)

-- ── tag 3, rule; its box's shape says how many parts it has and what they must fit ───────────

unfoldable pub rule_in : Shape → List ℕ → Read Rule  -- the rule at the start of a body
rule_in sh b = read_rule (length sh.ins) (length sh.outs) (length sh.vars) b

unfoldable pub rule_form : Shape → List ℕ → Bool  -- its parts take the whole body
rule_form sh b = is_whole (rule_in sh b) b

unfoldable pub rule_limits : ℕ → List ℕ → Rule → Bool  -- 16 rules a box, 512 bytes, expressions
rule_limits seen b r = ltb seen 16 && leb (length b) 512 && expression_limits r.guard && action_limits r.outs && action_limits r.sets

unfoldable pub rule_types : Shape → Rule → Bool  -- all parts fit the shape
rule_types sh r = is_fit (rule_fits sh r)

-- ── tag 4, input: wire number; tag 5, output: wire number, two-byte room ─────────────────────

unfoldable pub input_form : ℕ → List ℕ → Bool  -- a declared wire
input_form wires b = eqb (length b) 1 && ltb (get_or b 0 0) wires

unfoldable pub output_form : ℕ → List ℕ → Bool  -- a declared wire and a room
output_form wires b = eqb (length b) 3 && ltb (get_or b 0 0) wires

unfoldable pub output_limits : ℕ → List ℕ → Bool  -- 8 outputs, room 1 to 1,000
output_limits seen b = ltb seen 8 && leb 1 (two_at b 1) && leb (two_at b 1) 1000

-- ── the network read off the offsets ─────────────────────────────────────────────────────────

-- the body of the field at an offset
unfoldable pub body_at : List ℕ → ℕ → List ℕ
body_at s o = stretch s (o + 3) (two_at s (o + 1))

unfoldable pub wire_of : List ℕ → ℕ → Wire  -- the wire of the field at an offset
wire_of s o = record { ty = type_at s (o + 3); capacity = get_or s (o + 5) 0 }

unfoldable pub variable_of : List ℕ → ℕ → Variable  -- variable j of a box's body
variable_of b j = let at = variable_start b j in record { ty = type_at b at; initial = value_at b (at + 2) }

-- a box without its rules, from its body
unfoldable pub box_of : List ℕ → Box
box_of b = record { ins = stretch b 3 (get_or b 0 0); outs = stretch b (3 + get_or b 0 0) (get_or b 1 0); vars = tabulate (get_or b 2 0) (variable_of b); rules = [] }

unfoldable pub wires_of : List ℕ → Index → List Wire  -- all wires
wires_of s x = map (wire_of s) x.wires

-- the shape of box b
unfoldable pub shape_at : List ℕ → Index → ℕ → Shape
shape_at s x b = shape_of (wires_of s x) (box_of (body_at s (get_or x.boxes b 0)))

-- how many rules stand before the end of box b's
unfoldable pub rules_end : Index → ℕ → ℕ
rules_end x b = cond (ltb (b + 1) (length x.boxes)) (get_or x.firsts (b + 1) 0) (length x.rules)

-- the offset of rule r of box b
unfoldable pub rule_at : Index → ℕ → ℕ → ℕ
rule_at x b r = get_or x.rules (get_or x.firsts b 0 + r) 0

unfoldable pub rules_of : List ℕ → Index → ℕ → List Rule  -- the rules of box b
rules_of s x b = tabulate (rules_end x b - get_or x.firsts b 0) (λ r. rule_read (rule_in (shape_at s x b) (body_at s (rule_at x b r))))

unfoldable pub box_at : List ℕ → Index → ℕ → Box  -- box b
box_at s x b =
    let c = box_of (body_at s (get_or x.boxes b 0)) in
    record { ins = c.ins; outs = c.outs; vars = c.vars; rules = rules_of s x b }

unfoldable pub input_at : List ℕ → Index → List (List Token) → ℕ → Proc  -- input i, with its tokens
input_at s x tokens i = input (get_or s (get_or x.inputs i 0 + 3) 0) (get_or tokens i [])

unfoldable pub output_at : List ℕ → Index → ℕ → Proc  -- output i
output_at s x i = let o = get_or x.outputs i 0 in output (get_or s (o + 3) 0) (two_at s (o + 4))

-- the network of a good file, with the tokens of each input
unfoldable pub net_of : List ℕ → Index → List (List Token) → Net
net_of s x tokens = record {
  wires = wires_of s x;
  procs = tabulate (length x.boxes) (λ b. box (box_at s x b)) ++ tabulate (length x.inputs) (input_at s x tokens) ++ tabulate (length x.outputs) (output_at s x);
}

-- ── the check, field by field ────────────────────────────────────────────────────────────────

-- wires first, then boxes each with its rules directly after it, then inputs, then outputs
unfoldable pub in_order : Index → ℕ → Bool
in_order x tag =
    cond (eqb tag 1) (leb x.last 1)
    (cond (eqb tag 2) (leb x.last 2)
    (cond (eqb tag 3) (eqb x.last 2)
    (cond (eqb tag 4) (leb x.last 4)
    (eqb tag 5))))

-- a field after those of the index: its order is form
unfoldable pub field_fault : List ℕ → Index → ℕ → List ℕ → ℕ
field_fault s x tag b =
    let ws = length x.wires in
    let sh = shape_at s x (length x.boxes - 1) in
    let r = rule_read (rule_in sh b) in
    let f =
    cond (eqb tag 1) (fault_of (wire_form b) (wire_limits ws b) (wire_type_fits b))
    (cond (eqb tag 2) (fault_of (box_form ws b) (box_limits (length x.boxes) b) (box_types b))
    (cond (eqb tag 3) (fault_of (rule_form sh b) (rule_limits x.inbox b r) (rule_types sh r))
    (cond (eqb tag 4) (fault_of (input_form ws b) (ltb (length x.inputs) 8) true)
    (fault_of (output_form ws b) (output_limits (length x.outputs) b) true)))) in
    cond (in_order x tag) f 1

-- the index with one field more
unfoldable pub add_field : Index → ℕ → ℕ → Index
add_field x tag at =
    cond (eqb tag 1) (record { wires = x.wires ++ (at ∷ []); boxes = x.boxes; firsts = x.firsts; rules = x.rules; inbox = x.inbox; inputs = x.inputs; outputs = x.outputs; last = 1 })
    (cond (eqb tag 2) (record { wires = x.wires; boxes = x.boxes ++ (at ∷ []); firsts = x.firsts ++ (length x.rules ∷ []); rules = x.rules; inbox = 0; inputs = x.inputs; outputs = x.outputs; last = 2 })
    (cond (eqb tag 3) (record { wires = x.wires; boxes = x.boxes; firsts = x.firsts; rules = x.rules ++ (at ∷ []); inbox = x.inbox + 1; inputs = x.inputs; outputs = x.outputs; last = 2 })
    (cond (eqb tag 4) (record { wires = x.wires; boxes = x.boxes; firsts = x.firsts; rules = x.rules; inbox = x.inbox; inputs = x.inputs ++ (at ∷ []); outputs = x.outputs; last = 4 })
    (record { wires = x.wires; boxes = x.boxes; firsts = x.firsts; rules = x.rules; inbox = x.inbox; inputs = x.inputs; outputs = x.outputs ++ (at ∷ []); last = 5 }))))

-- what a check finds: something good, or a refusal with its number and place
pub data Verdict (A : Type 0) : Type 0 where
  good : A → Verdict A
  refuse : ℕ → ℕ → Verdict A

-- where a check stands: at its end, or before the field at an offset
pub data Step : Type 0 where
  stop : Verdict Index → Step
  go : Index → ℕ → Step

-- the refusal at a field, or on to the next one
unfoldable pub onward : ℕ → ℕ → Index → ℕ → Step
onward n at x next = cond (eqb n 0) (go x next) (stop (refuse n at))

unfoldable pub on_field : List ℕ → Index → ℕ → Option Field → Step  -- a cut field is a fault of form
on_field s x at None = stop (refuse 1 at)
on_field s x at (Some f) = onward (field_fault s x f.tag (stretch s f.start f.len)) at (add_field x f.tag at) (f.start + f.len)

unfoldable pub step : List ℕ → Index → ℕ → Step  -- the file may end before any field
step s x at = let f = on_field s x at (field_at s at) in cond (leb (length s) at) (stop (good x)) f

unfoldable pub walk : ℕ → List ℕ → Step → Verdict Index  -- field by field
walk zero s (stop v) = v
walk zero s (go x at) = refuse 0 0
walk (suc k) s (stop v) = v
walk (suc k) s (go x at) = walk k s (step s x at)

-- all fields: each takes three bytes at least, and the last turn sees the end
unfoldable pub fields : List ℕ → Verdict Index
fields s = walk (suc (length s)) s (go no_fields 0)

-- ── ports ────────────────────────────────────────────────────────────────────────────────────

-- how often w stands in a list
unfoldable pub hit : Bool → ℕ
hit true = 1
hit false = 0

unfoldable pub count : ℕ → List ℕ → ℕ  -- how often w is named
count w [] = 0
count w (v ∷ vs) = hit (eqb v w) + count w vs

unfoldable pub ports : (Proc → List ℕ) → List Proc → List ℕ  -- those of all processes
ports f [] = []
ports f (p ∷ ps) = f p ++ ports f ps

-- exactly one reading and one writing port
unfoldable pub ports_fit : List Proc → ℕ → Bool
ports_fit ps w = eqb (count w (ports ins_of ps)) 1 && eqb (count w (ports outs_of ps)) 1

-- the lowest of the k wires from w on that fails the test, w + k where there is none
unfoldable pub lowest_from : (ℕ → Bool) → ℕ → ℕ → ℕ
lowest_from f w zero = w
lowest_from f w (suc k) = let rest = lowest_from f (suc w) k in cond (f w) rest w

unfoldable pub odd_wire : Net → ℕ  -- the lowest wire with wrong ports
odd_wire n = lowest_from (ports_fit n.procs) 0 (length n.wires)

unfoldable pub ports_of : List ℕ → Index → Verdict Index  -- 3
ports_of s x = let w = odd_wire (net_of s x []) in cond (ltb w (length x.wires)) (refuse 3 w) (good x)

-- ── the whole check: 2 for the length, the fields, then 3 ────────────────────────────────────

unfoldable pub next : {A B : Type 0} → Verdict A → (A → Verdict B) → Verdict B  -- the next check
next (good a) f = f a
next (refuse n p) f = refuse n p

-- what a verdict comes to
unfoldable pub by_verdict : {A B : Type 0} → Verdict A → (A → B) → (ℕ → ℕ → B) → B
by_verdict (good a) f g = f a
by_verdict (refuse n p) f g = g n p

-- the verdict only where the test holds
unfoldable pub or_refuse : {A : Type 0} → Bool → ℕ → ℕ → Verdict A → Verdict A
or_refuse true n place v = v
or_refuse false n place v = refuse n place

unfoldable pub network : List ℕ → Verdict Index  -- 1 to 4
network s = let v = next (fields s) (ports_of s) in or_refuse (leb (length s) 16384) 2 0 v

-- ── the lookup ───────────────────────────────────────────────────────────────────────────────

-- where a stretch of the file starts and how long it is
pub record Stretch : Type 0 where
  pub start : ℕ
  pub len : ℕ

-- the body of rule r of box b; empty at the file's end for an unknown one and for a refused network
unfoldable pub rule_stretch : List ℕ → Verdict Index → ℕ → ℕ → Stretch
rule_stretch s (refuse n p) b r = record { start = length s; len = 0 }
rule_stretch s (good x) b r =
    let at = rule_at x b r in
    cond (ltb b (length x.boxes) && ltb (get_or x.firsts b 0 + r) (rules_end x b))
    (record { start = at + 3; len = two_at s (at + 1) })
    (record { start = length s; len = 0 })
