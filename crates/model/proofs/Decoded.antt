-- What the network that an accepted file describes is like.
-- Assumes nothing.
use mathlib.Core.Path.{◌≡◌, refl, ap, ◌∙◌, subst}
use mathlib.Core.Bool.{Bool, true, false, not, cond, ◌&&◌, ◌||◌}
use mathlib.Core.List.{List, [], ◌∷◌, ◌++◌, map}
use Prim.Native.Nat.{ℕ, zero, suc, ◌+◌, ◌-◌, ◌*◌, ◌≤◌, ◌<◌}
use native.Mathlib.Omega.{arith}
use native.Mathlib.Decide.{dec_lt}
use lib.Dec.{eqb, leb, ltb}
use lib.IntN.{pos}
use lib.ListN.{length, get_or, drop, length-drop, length-map}
use lib.Seq.{get_or-take, get_or-drop, length-take-le}
use borrow.Author.Tests.{eqb-true, eqb-false, leb-true, ltb-true, le-leb}
use Rattle.model.specs.declared.Ty.{Ty}
use Rattle.model.specs.Bytes.{two_at, value_at, stretch}
use Rattle.model.specs.Values.{no_type, is_plain, well_sized, in_precision, within}
use Rattle.model.specs.Expressions.{Read, bad, got, after, read_many, provided, type_at, expression, expression_limits}
use Rattle.model.specs.Rules.{Rule, no_rule, Action, nothing, bare, send, bare_action, sent_tag, holds_expression, Shape, Fit, fits, fails, is_fit, rule_fits, rule_read, is_whole, read_rule, read_pattern, read_action, input_code, variable_code, output_action, variable_action, action_limits}
use Rattle.model.specs.Network.{Wire, Variable, Box, Proc, box, input, output, Net, wire, nobody, no_wire, shape_of, wire_types, variable_types}
use Rattle.model.specs.NetworkFile.{Index, every, tabulate, wire_form, wire_limits, wire_type_fits, box_form, box_limits, box_types, variable_start, variable_fits, variable_of, rule_in, rule_form, rule_limits, rule_types, body_at, wire_of, box_of, wires_of, shape_at, rules_end, rule_at, rules_of, box_at}
use Rattle.model.specs.States.{tokens_fit}
use Rattle.model.proofs.Tests.{and_left, and_right, and₂, and₄, and₅, not-true}
use Rattle.model.proofs.Accepted.{Passes, InFile, WireField, RuleField, Valid}

-- ── lists ────────────────────────────────────────────────────────────────────────────────────

-- P holds of each element
abbrev pub Each : {A : Type 0} → (A → Type 0) → A → List A → Type 0
Each P d xs = (k : ℕ) → k < length xs → P (get_or xs k d)

pub each_append : {A : Type 0} (P : A → Type 0) (d : A) (xs ys : List A) → Each P d xs → Each P d ys → Each P d (xs ++ ys)
each_append P d [] ys p q k h = q k h
each_append P d (x ∷ xs) ys p q zero h = p zero (omega arith)
each_append P d (x ∷ xs) ys p q (suc k) h = each_append P d xs ys (λ j g. p (suc j) (omega (arith, g))) q k (omega (arith, h))

pub length-tabulate : {A : Type 0} (n : ℕ) (f : ℕ → A) → length (tabulate n f) ≡ n
unfolding tabulate
length-tabulate zero f = refl
length-tabulate (suc n) f = ap suc (length-tabulate n (λ k. f (suc k)))

pub get_d_tabulate : {A : Type 0} (n : ℕ) (f : ℕ → A) (d : A) (k : ℕ) → k < n → get_or (tabulate n f) k d ≡ f k
unfolding tabulate
get_d_tabulate zero f d k h = absurd (omega arith)
get_d_tabulate (suc n) f d zero h = refl
get_d_tabulate (suc n) f d (suc k) h = get_d_tabulate n (λ j. f (suc j)) d k (omega arith)

pub each_tabulate : {A : Type 0} (P : A → Type 0) (d : A) (n : ℕ) (f : ℕ → A) → ((k : ℕ) → k < n → P (f k)) → Each P d (tabulate n f)
each_tabulate P d n f p k h =
    let g : k < n = omega (arith, length-tabulate n f) in
    rw (get_d_tabulate n f d k g) (p k g)

pub get_d_map_lt : {A B : Type 0} (f : A → B) (l : List A) (k : ℕ) (d : A) (e : B) → k < length l → get_or (map f l) k e ≡ f (get_or l k d)
get_d_map_lt f [] k d e h = absurd (omega arith)
get_d_map_lt f (a ∷ l) zero d e h = refl
get_d_map_lt f (a ∷ l) (suc k) d e h = get_d_map_lt f l k d e (omega arith)

pub every_at : (n : ℕ) (f : ℕ → Bool) → every n f ≡ true → (k : ℕ) → k < n → f k ≡ true
unfolding every
every_at zero f e k h = absurd (omega arith)
every_at (suc n) f e k h = by_place (dec_lt k n) (every_at n f (and_left (every n f) (f n) e) k)
  where
    by_place : Dec (k < n) → (k < n → f k ≡ true) → f k ≡ true
    by_place (yes g) ih = ih g
    by_place (no g) ih = let q : k ≡ n = omega (arith, g, h) in rw q (and_right (every n f) (f n) e)

-- ── stretches ────────────────────────────────────────────────────────────────────────────────

pub stretch_at : (s : List ℕ) (start len k : ℕ) → k < len → get_or (stretch s start len) k 0 ≡ get_or s (start + k) 0
unfolding stretch
stretch_at s start len k h = get_or-take len (drop start s) k 0 h ∙ get_or-drop start s k 0

pub length-stretch : (s : List ℕ) (start len : ℕ) → start + len ≤ length s → length (stretch s start len) ≡ len
unfolding stretch
length-stretch s start len h = length-take-le len (drop start s) (rw length-drop (omega arith))

pub length_body : (s : List ℕ) (at : ℕ) → InFile s at → length (body_at s at) ≡ two_at s (at + 1)
unfolding body_at
length_body s at i = length-stretch s (at + 3) (two_at s (at + 1)) i.whole

-- byte k of a field's body
pub body_at_lem : (s : List ℕ) (at k : ℕ) → InFile s at → k < length (body_at s at) → get_or (body_at s at) k 0 ≡ get_or s (at + 3 + k) 0
body_at_lem s at k i h = unfold body_at in stretch_at s (at + 3) (two_at s (at + 1)) k (omega (arith, h, length_body s at i))

-- ── types, wires, variables ──────────────────────────────────────────────────────────────────

-- a known kind, precision 1 to 30, a bool of p = 1
pub record GoodType (t : Ty) : Type 0 where
  pub known : t.kind ≤ 4
  pub low : 1 ≤ t.p
  pub high : t.p ≤ 30
  pub sized : well_sized t ≡ true

pub record GoodWire (w : Wire) : Type 0 where
  pub ty : GoodType w.ty
  pub least : 1 ≤ w.capacity
  pub most : w.capacity ≤ 64

pub record GoodVariable (v : Variable) : Type 0 where
  pub ty : GoodType v.ty
  pub plain : is_plain v.ty ≡ true
  pub initial : within v.ty v.initial ≡ true

good_type : (t : Ty) → leb t.kind 4 ≡ true → in_precision t ≡ true → well_sized t ≡ true → GoodType t
unfolding in_precision
good_type t k p w = record {
  known = leb-true _ _ k;
  low = leb-true 1 t.p (and_left (leb 1 t.p) (leb t.p 30) p);
  high = leb-true t.p 30 (and_right (leb 1 t.p) (leb t.p 30) p);
  sized = w;
}

pub wire_good : (s : List ℕ) (seen at : ℕ) → WireField s seen at → GoodWire (wire_of s at)
unfolding wire_form wire_limits wire_type_fits wire_of type_at
wire_good s seen at f =
    let b = body_at s at in
    let form = and₂ (eqb (length b) 3) (leb (get_or b 0 0) 4) f.passes.form in
    let limits = and₄ (ltb seen 64) (in_precision (type_at b 0)) (leb 1 (get_or b 2 0)) (leb (get_or b 2 0) 64) f.passes.limits in
    let three : length b ≡ 3 = eqb-true _ _ form.0 in
    let e₀ : get_or b 0 0 ≡ get_or s (at + 3) 0 = body_at_lem s at 0 f.in-file (omega (arith, three)) ∙ ap (λ (i : ℕ). get_or s i 0) (omega arith) in
    let e₁ : get_or b 1 0 ≡ get_or s (at + 3 + 1) 0 = body_at_lem s at 1 f.in-file (omega (arith, three)) in
    let e₂ : get_or b 2 0 ≡ get_or s (at + 5) 0 = body_at_lem s at 2 f.in-file (omega (arith, three)) ∙ ap (λ (i : ℕ). get_or s i 0) (omega arith) in
    let g = good_type (type_at b 0) form.1 limits.1 f.passes.types in
    record {
      ty = rw (e₀, e₁) at g;
      least = omega (arith, e₂, leb-true 1 (get_or b 2 0) limits.2);
      most = omega (arith, e₂, leb-true (get_or b 2 0) 64 limits.3);
    }

-- ── rules ────────────────────────────────────────────────────────────────────────────────────

-- an expression is sent plain or as data, a bare mark is '< or '>
unfoldable pub action_tag : Action → Bool
action_tag nothing = true
action_tag (bare t) = eqb t 1 || eqb t 2
action_tag (send t e) = eqb t 0 || eqb t 3

-- a rule has a part for each port and variable of its box, keeps the limits, and all fits
pub record GoodRule (sh : Shape) (r : Rule) : Type 0 where
  pub ins : length r.ins ≡ length sh.ins
  pub vars : length r.vars ≡ length sh.vars
  pub outs : length r.outs ≡ length sh.outs
  pub sets : length r.sets ≡ length sh.vars
  pub guard_limits : expression_limits r.guard ≡ true
  pub outs_limits : action_limits r.outs ≡ true
  pub sets_limits : action_limits r.sets ≡ true
  pub fits : rule_fits sh r ≡ fits
  pub tags : Each (λ a. action_tag a ≡ true) nothing r.outs

-- what was read before what follows
record Before {A B : Type 0} (m : Read A) (f : A → ℕ → Read B) (c : B) (k : ℕ) : Type 0 where
  first : A
  size : ℕ
  read : m ≡ got first size
  rest : f first size ≡ got c k

after-got : {A B : Type 0} (m : Read A) (f : A → ℕ → Read B) (c : B) (k : ℕ) → after m f ≡ got c k → Before m f c k
unfolding after
after-got bad f c k e = let z : ◌≡◌ {A = ℕ} 0 1 = cc in absurd (omega arith)
after-got (got a n) f c k e = record { first = a; size = n; read = refl; rest = e }

got_same : {A : Type 0} {a b : A} {m n : ℕ} → got a m ≡ got b n → a ≡ b
got_same e = cc

pub read_many-length : {A : Type 0} (f : List ℕ → Read A) (k : ℕ) (s : List ℕ) (xs : List A) (n : ℕ) → read_many f k s ≡ got xs n → length xs ≡ k
unfolding read_many
read_many-length f zero s xs n e = let q : [] ≡ xs = cc in rw (← q)
read_many-length f (suc k) s xs n e =
    let one = after-got (f s) _ xs n e in
    let many = after-got (read_many f k (drop one.size s)) _ xs n one.rest in
    let q : one.first ∷ many.first ≡ xs = got_same many.rest in
    rw (← q) (ap suc (read_many-length f k (drop one.size s) many.first many.size many.read))

-- what holds of each thing that is read holds of all
read_many_each : {A : Type 0} (P : A → Type 0) (d : A) (f : List ℕ → Read A) → ((s : List ℕ) (a : A) (n : ℕ) → f s ≡ got a n → P a)
    → (k : ℕ) (s : List ℕ) (xs : List A) (n : ℕ) → read_many f k s ≡ got xs n → Each P d xs
unfolding read_many
read_many_each P d f h zero s xs n e = let q : [] ≡ xs = got_same e in rw (← q) (λ i l. absurd (omega (arith, l)))
read_many_each P d f h (suc k) s xs n e =
    let one = after-got (f s) _ xs n e in
    let many = after-got (read_many f k (drop one.size s)) _ xs n one.rest in
    let q : one.first ∷ many.first ≡ xs = got_same many.rest in
    let p = h s one.first one.size one.read in
    let r = read_many_each P d f h k (drop one.size s) many.first many.size many.read in
    rw (← q) (each_append P d (one.first ∷ []) many.first (λ i l. (let z : i ≡ 0 = omega (arith, l) in rw z p)) r)

provided-got : {A : Type 0} (b : Bool) (x : Read A) (a : A) (n : ℕ) → provided b x ≡ got a n → (b ≡ true) × (x ≡ got a n)
unfolding provided
provided-got true x a n e = (refl, e)
provided-got false x a n e = let z : ◌≡◌ {A = ℕ} 0 1 = cc in absurd (omega arith)

sent_tag_lem : (c : ℕ) → (eqb (sent_tag c) 0 || eqb (sent_tag c) 3) ≡ true
unfolding sent_tag
sent_tag_lem c = by_code (eqb c 5)
  where
    by_code : (b : Bool) → (eqb (cond b 3 0) 0 || eqb (cond b 3 0) 3) ≡ true
    by_code true = refl
    by_code false = refl

bare_tag : (c : ℕ) → c ≤ 5 → eqb c 2 ≡ false → eqb c 1 ≡ false → eqb c 5 ≡ false → action_tag (bare_action c) ≡ true
unfolding bare_action action_tag
bare_tag c h e₂ e₁ e₅ = by_code (eqb c 0) refl
  where
    by_code : (b : Bool) → eqb c 0 ≡ b → action_tag (cond b nothing (bare (c - 2))) ≡ true
    by_code true e = refl
    by_code false e = by_three (dec_lt c 4)
      where
        by_three : Dec (c < 4) → (eqb (c - 2) 1 || eqb (c - 2) 2) ≡ true
        by_three (yes l) = let q : c ≡ 3 = omega (arith, l, eqb-false c 0 e, eqb-false c 1 e₁, eqb-false c 2 e₂) in rw q
        by_three (no l) = let q : c ≡ 4 = omega (arith, l, h, eqb-false c 5 e₅) in rw q

sent_action : (s : List ℕ) (a : Action) (n : ℕ) → after (expression (drop 1 s)) (λ x m. got (send (sent_tag (get_or s 0 0)) x) (1 + m)) ≡ got a n → action_tag a ≡ true
sent_action s a n e =
    let x = after-got (expression (drop 1 s)) _ a n e in
    let q : send (sent_tag (get_or s 0 0)) x.first ≡ a = got_same x.rest in
    rw (← q) (unfold action_tag in sent_tag_lem (get_or s 0 0))

read_tag : (s : List ℕ) (a : Action) (n : ℕ) → read_action output_action s ≡ got a n → action_tag a ≡ true
unfolding read_action output_action holds_expression
read_tag s a n e =
    let c = get_or s 0 0 in
    let p = provided-got (ltb 0 (length s) && (leb c 5 && not (eqb c 2))) _ a n e in
    let known = and₂ (leb c 5) (not (eqb c 2)) (and_right (ltb 0 (length s)) (leb c 5 && not (eqb c 2)) p.0) in
    by_code (eqb c 1) (eqb c 5) refl refl (leb-true c 5 known.0) (not-true (eqb c 2) known.1) p.1
  where
    by_code : (b₁ b₅ : Bool) → eqb (get_or s 0 0) 1 ≡ b₁ → eqb (get_or s 0 0) 5 ≡ b₅ → get_or s 0 0 ≤ 5 → eqb (get_or s 0 0) 2 ≡ false
        → cond (b₁ || b₅) (after (expression (drop 1 s)) (λ x m. got (send (sent_tag (get_or s 0 0)) x) (1 + m))) (got (bare_action (get_or s 0 0)) 1) ≡ got a n → action_tag a ≡ true
    by_code true b₅ e₁ e₅ h e₂ r = sent_action s a n r
    by_code false true e₁ e₅ h e₂ r = sent_action s a n r
    by_code false false e₁ e₅ h e₂ r = let q : bare_action (get_or s 0 0) ≡ a = got_same r in rw (← q) (bare_tag (get_or s 0 0) h e₂ e₁ e₅)

-- the parts of a rule that was read
record Parts (i o v : ℕ) (r : Rule) : Type 0 where
  ins : length r.ins ≡ i
  vars : length r.vars ≡ v
  outs : length r.outs ≡ o
  sets : length r.sets ≡ v
  tags : Each (λ a. action_tag a ≡ true) nothing r.outs

rule_parts : (i o v : ℕ) (b : List ℕ) (r : Rule) (n : ℕ) → read_rule i o v b ≡ got r n → Parts i o v r
unfolding read_rule
rule_parts i o v b r n e =
    let p₁ = after-got (read_many (read_pattern input_code) i b) _ r n e in
    let p₂ = after-got (read_many (read_pattern variable_code) v (drop p₁.size b)) _ r n p₁.rest in
    let p₃ = after-got (expression (drop (p₁.size + p₂.size) b)) _ r n p₂.rest in
    let p₄ = after-got (read_many (read_action output_action) o (drop (p₁.size + p₂.size + p₃.size) b)) _ r n p₃.rest in
    let p₅ = after-got (read_many (read_action variable_action) v (drop (p₁.size + p₂.size + p₃.size + p₄.size) b)) _ r n p₄.rest in
    let q : record { ins = p₁.first; vars = p₂.first; guard = p₃.first; outs = p₄.first; sets = p₅.first } ≡ r = got_same p₅.rest in
    rw (← q) (record {
      ins = read_many-length _ i b p₁.first p₁.size p₁.read;
      vars = read_many-length _ v _ p₂.first p₂.size p₂.read;
      outs = read_many-length _ o _ p₄.first p₄.size p₄.read;
      sets = read_many-length _ v _ p₅.first p₅.size p₅.read;
      tags = read_many_each (λ a. action_tag a ≡ true) nothing (read_action output_action) read_tag o _ p₄.first p₄.size p₄.read;
    })

whole_parts : (i o v : ℕ) (b : List ℕ) (x : Read Rule) → read_rule i o v b ≡ x → is_whole x b ≡ true → Parts i o v (rule_read x)
unfolding is_whole rule_read
whole_parts i o v b bad e w = let z : ◌≡◌ {A = ℕ} 0 1 = cc in absurd (omega arith)
whole_parts i o v b (got r n) e w = rule_parts i o v b r n e

all_fits : (f : Fit) → is_fit f ≡ true → f ≡ fits
unfolding is_fit
all_fits fits e = refl
all_fits (fails k) e = let z : ◌≡◌ {A = ℕ} 0 1 = cc in absurd (omega arith)

pub rule_good : (s : List ℕ) (sh : Shape) (at : ℕ) → RuleField s sh at → GoodRule sh (rule_read (rule_in sh (body_at s at)))
unfolding rule_form rule_in rule_limits rule_types
rule_good s sh at f =
    let b = body_at s at in
    let x = read_rule (length sh.ins) (length sh.outs) (length sh.vars) b in
    let r = rule_read x in
    let parts = whole_parts (length sh.ins) (length sh.outs) (length sh.vars) b x refl f.passes.form in
    let limits = and₅ (ltb f.seen 16) (leb (length b) 512) (expression_limits r.guard) (action_limits r.outs) (action_limits r.sets) f.passes.limits in
    record {
      ins = parts.ins;
      vars = parts.vars;
      outs = parts.outs;
      sets = parts.sets;
      guard_limits = limits.2;
      outs_limits = limits.3;
      sets_limits = limits.4;
      fits = all_fits (rule_fits sh r) f.passes.types;
      tags = parts.tags;
    }

-- ── boxes ────────────────────────────────────────────────────────────────────────────────────

-- for a number that is not there
unfoldable pub no_variable : Variable
no_variable = record { ty = no_type; initial = pos 0 }

-- declared wires, variables of plain types, good rules
pub record GoodBox (ws : List Wire) (b : Box) : Type 0 where
  pub ins : Each (λ w. w < length ws) 0 b.ins
  pub outs : Each (λ w. w < length ws) 0 b.outs
  pub few_ins : length b.ins ≤ 4
  pub few_outs : length b.outs ≤ 4
  pub few_vars : length b.vars ≤ 4
  pub vars : Each GoodVariable no_variable b.vars
  pub rules : Each (GoodRule (shape_of ws b)) no_rule b.rules
  pub few_rules : length b.rules ≤ 16

variable_good : (b : List ℕ) (j : ℕ) → in_precision (type_at b (variable_start b j)) ≡ true → variable_fits b j ≡ true → GoodVariable (variable_of b j)
unfolding variable_fits variable_of is_plain
variable_good b j p f =
    let t = type_at b (variable_start b j) in
    let h = and₂ (is_plain t) (within t (value_at b (variable_start b j + 2))) f in
    let k = and₂ (leb t.kind 2) (well_sized t) h.0 in
    let l : t.kind ≤ 2 = leb-true _ _ k.0 in
    record { ty = good_type t (le-leb t.kind 4 (omega arith)) p k.1; plain = h.0; initial = h.1 }

-- a box without its rules
record GoodFrame (wires : ℕ) (b : Box) : Type 0 where
  ins : Each (λ w. w < wires) 0 b.ins
  outs : Each (λ w. w < wires) 0 b.outs
  few_ins : length b.ins ≤ 4
  few_outs : length b.outs ≤ 4
  few_vars : length b.vars ≤ 4
  vars : Each GoodVariable no_variable b.vars

frame_good : (wires seen : ℕ) (b : List ℕ) → Passes (box_form wires b) (box_limits seen b) (box_types b) → GoodFrame wires (box_of b)
unfolding box_form box_limits box_types box_of variable_start
frame_good wires seen b p =
    let i = get_or b 0 0 in
    let o = get_or b 1 0 in
    let v = get_or b 2 0 in
    let declared : ℕ → Bool = λ k. ltb (get_or b (3 + k) 0) wires in
    let form = and₄ (leb 3 (length b)) (eqb (length b) (variable_start b v)) (every (i + o) declared) (every v (λ j. leb (get_or b (variable_start b j) 0) 4)) p.form in
    let limits = and₅ (ltb seen 32) (leb i 4) (leb o 4) (leb v 4) (every v (λ j. in_precision (type_at b (variable_start b j)))) p.limits in
    let long : length b ≡ 3 + i + o + 6 * v = eqb-true _ _ form.1 in
    let at-port : (k : ℕ) → k < i + o → get_or b (3 + k) 0 < wires = λ k h. ltb-true _ _ (every_at (i + o) declared form.2 k h) in
    let li : length (stretch b 3 i) ≡ i = length-stretch b 3 i (omega (arith, long)) in
    let lo : length (stretch b (3 + i) o) ≡ o = length-stretch b (3 + i) o (omega (arith, long)) in
    record {
      ins = λ k h. rw (stretch_at b 3 i k (omega (arith, li))) (at-port k (omega (arith, li)));
      outs = λ k h. rw (stretch_at b (3 + i) o k (omega (arith, lo)))
          (subst (λ (x : ℕ). get_or b x 0 < wires) (omega arith) (at-port (i + k) (omega (arith, lo))));
      few_ins = omega (arith, li, leb-true i 4 limits.1);
      few_outs = omega (arith, lo, leb-true o 4 limits.2);
      few_vars = omega (arith, length-tabulate v (variable_of b), leb-true v 4 limits.3);
      vars = each_tabulate GoodVariable no_variable v (variable_of b)
          (λ j h. variable_good b j (every_at v _ limits.4 j h) (every_at v _ p.types j h));
    }

-- a good frame with good rules
pub box_good : (s : List ℕ) (x : Index) → Valid s x → (k : ℕ) → k < length x.boxes → GoodBox (wires_of s x) (box_at s x k)
unfolding box_at rules_of shape_at shape_of
box_good s x q k h =
    let f = q.boxes k h in
    let g = frame_good (length x.wires) k (body_at s (get_or x.boxes k 0)) f.passes in
    let lw : length (wires_of s x) ≡ length x.wires = unfold wires_of in length-map x.wires (wire_of s) in
    let c = rules_end x k - get_or x.firsts k 0 in
    record {
      ins = λ i l. rw lw (g.ins i l);
      outs = λ i l. rw lw (g.outs i l);
      few_ins = g.few_ins;
      few_outs = g.few_outs;
      few_vars = g.few_vars;
      vars = g.vars;
      rules = each_tabulate (GoodRule (shape_at s x k)) no_rule c _ (λ r l. rule_good s (shape_at s x k) (rule_at x k r) (q.rules k r h (omega (arith, l))));
      few_rules = omega (arith, length-tabulate c (λ r. rule_read (rule_in (shape_at s x k) (body_at s (rule_at x k r)))), q.few_rules k h);
    }

-- ── the types of a box ───────────────────────────────────────────────────────────────────────

wire_types_good : (ws : List Wire) → Each GoodWire no_wire ws → (is : List ℕ) → Each (λ w. w < length ws) 0 is → Each GoodType no_type (wire_types ws is)
unfolding wire_types
wire_types_good ws g [] h k l = absurd (omega (arith, l))
wire_types_good ws g (i ∷ is) h zero l = (g i (h 0 (omega arith))).ty
wire_types_good ws g (i ∷ is) h (suc k) l = wire_types_good ws g is (λ j m. h (suc j) (omega (arith, m))) k (omega (arith, l))

variable_types_good : (vs : List Variable) → Each GoodVariable no_variable vs → Each GoodType no_type (variable_types vs)
unfolding variable_types
variable_types_good [] h k l = absurd (omega (arith, l))
variable_types_good (v ∷ vs) h zero l = (h 0 (omega arith)).ty
variable_types_good (v ∷ vs) h (suc k) l = variable_types_good vs (λ j m. h (suc j) (omega (arith, m))) k (omega (arith, l))

pub wires_good : (s : List ℕ) (x : Index) → Valid s x → Each GoodWire no_wire (wires_of s x)
unfolding wires_of
wires_good s x q w h =
    let g : w < length x.wires = omega (arith, length-map x.wires (wire_of s)) in
    rw (get_d_map_lt (wire_of s) x.wires w 0 no_wire g) (wire_good s w (get_or x.wires w 0) (q.wires w g))

-- the types of box b's inputs and variables
pub shape_ins : (s : List ℕ) (x : Index) → Valid s x → (b : ℕ) → b < length x.boxes → Each GoodType no_type (shape_at s x b).ins
unfolding shape_at shape_of
shape_ins s x q b h = wire_types_good (wires_of s x) (wires_good s x q) _ (unfold box_at in (box_good s x q b h).ins)

pub shape_vars : (s : List ℕ) (x : Index) → Valid s x → (b : ℕ) → b < length x.boxes → Each GoodType no_type (shape_at s x b).vars
unfolding shape_at shape_of
shape_vars s x q b h = variable_types_good _ (unfold box_at in (box_good s x q b h).vars)

-- ── the whole network ────────────────────────────────────────────────────────────────────────

-- a process is wired to declared wires; an input's tokens are of its wire's type; an output's room is 1 to 1,000
abbrev pub GoodProc : Net → Proc → Type 0
GoodProc n (box b) = GoodBox n.wires b
GoodProc n (input w ts) = (w < length n.wires) × (tokens_fit (wire n w).ty ts ≡ true)
GoodProc n (output w room) = (w < length n.wires) × (1 ≤ room) × (room ≤ 1000)

pub record GoodNet (n : Net) : Type 0 where
  pub wires : Each GoodWire no_wire n.wires
  pub procs : Each (GoodProc n) nobody n.procs
