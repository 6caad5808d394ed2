-- What the fields of an accepted network file are like, by one induction over the walk.
-- Assumes nothing.
use mathlib.Core.Path.{◌≡◌, refl, sym, ◌∙◌, ap, subst}
use mathlib.Core.Bool.{Bool, true, false, cond}
use mathlib.Core.List.{List, [], ◌∷◌, ◌++◌}
use Prim.Native.Nat.{ℕ, zero, suc, ◌+◌, ◌-◌, ◌≤◌, ◌<◌}
use native.Mathlib.Omega.{arith}
use native.Mathlib.Decide.{dec_lt, ℕ_discrete}
use lib.Dec.{eqb, leb, ltb}
use lib.ListN.{length, get_or, length-append, get_or-append}
use lib.Seq.{get_or-append_seam}
use borrow.Author.Tests.{eqb-true, leb-true, ltb-true, ltb-false, lt-ltb, le-ltb, ne_eqb}
use Rattle.model.specs.declared.Field.{Field}
use Rattle.std.specs.Prelude.{Option, Some, None}
use Rattle.model.specs.Bytes.{two_at, stretch}
use Rattle.model.specs.Values.{in_precision}
use Rattle.model.specs.Expressions.{type_at, expression_limits}
use Rattle.model.specs.Rules.{Shape, Rule, rule_read, action_limits}
use Rattle.model.proofs.Tests.{and₃, and₄, and₅}
use Rattle.model.specs.NetworkFile.{Index, every, variable_start, no_fields, field_at, fault_of, wire_form, wire_limits, wire_type_fits, box_form, box_limits, box_types, rule_in, rule_form, rule_limits, rule_types, input_form, output_form, output_limits, body_at, wires_of, shape_at, rules_end, rule_at, in_order, field_fault, add_field, good, refuse, Step, stop, go, onward, on_field, step, walk, fields}

-- ── one induction for all facts ──────────────────────────────────────────────────────────────

module _ (s : List ℕ) (P : Index → Type 0) (kept : (x : Index) (f : Field) (at : ℕ) → P x → field_at s at ≡ Some f → field_fault s x f.tag (stretch s f.start f.len) ≡ 0 → P (add_field x f.tag at)) where
  abbrev Holds : Step → Type 0
  Holds (stop (good x)) = P x
  Holds (stop (refuse n p)) = Unit {0}
  Holds (go x at) = P x

  onward_holds : (n at : ℕ) (x : Index) (next : ℕ) → (n ≡ 0 → P x) → Holds (onward n at x next)
  unfolding onward
  onward_holds n at x next h = by_test (eqb n 0) refl
    where
      by_test : (b : Bool) → eqb n 0 ≡ b → Holds (cond b (go x next) (stop (refuse n at)))
      by_test true e = h (eqb-true n 0 e)
      by_test false e = tt

  field_holds : (x : Index) (at : ℕ) (f : Option Field) → P x → field_at s at ≡ f → Holds (on_field s x at f)
  unfolding on_field
  field_holds x at None p e = tt
  field_holds x at (Some f) p e = onward_holds (field_fault s x f.tag (stretch s f.start f.len)) at (add_field x f.tag at) (f.start + f.len) (kept x f at p e)

  step_holds : (x : Index) (at : ℕ) → P x → Holds (step s x at)
  unfolding step
  step_holds x at p = by_end (leb (length s) at)
    where
      by_end : (b : Bool) → Holds (cond b (stop (good x)) (on_field s x at (field_at s at)))
      by_end true = p
      by_end false = field_holds x at (field_at s at) p refl

  walk_holds : (k : ℕ) (t : Step) → Holds t → (y : Index) → walk k s t ≡ good y → P y
  unfolding walk
  walk_holds zero (stop (good x)) h y e = let q : x ≡ y = cc in subst P q h
  walk_holds zero (stop (refuse n p)) h y e = let z : ◌≡◌ {A = ℕ} 0 1 = cc in absurd (omega arith)
  walk_holds zero (go x at) h y e = let z : ◌≡◌ {A = ℕ} 0 1 = cc in absurd (omega arith)
  walk_holds (suc k) (stop (good x)) h y e = let q : x ≡ y = cc in subst P q h
  walk_holds (suc k) (stop (refuse n p)) h y e = let z : ◌≡◌ {A = ℕ} 0 1 = cc in absurd (omega arith)
  walk_holds (suc k) (go x at) h y e = walk_holds k (step s x at) (step_holds x at h) y e

  pub fields_hold : P no_fields → (y : Index) → fields s ≡ good y → P y
  unfolding fields
  fields_hold p y e = walk_holds (suc (length s)) (go no_fields 0) p y e

-- ── the five kinds of field ──────────────────────────────────────────────────────────────────

-- form, limits and types hold
pub record Passes (f l t : Bool) : Type 0 where
  pub form : f ≡ true
  pub limits : l ≡ true
  pub types : t ≡ true

faultless : (f l t : Bool) → fault_of f l t ≡ 0 → Passes f l t
unfolding fault_of
faultless true true true e = record { form = refl; limits = refl; types = refl }
faultless true true false e = absurd (omega (arith, e))
faultless true false t e = absurd (omega (arith, e))
faultless false l t e = absurd (omega (arith, e))

ordered : (b : Bool) (f : ℕ) → cond b f 1 ≡ 0 → (b ≡ true) × (f ≡ 0)
ordered true f e = (refl, e)
ordered false f e = absurd (omega (arith, e))

-- a field without fault after those of x, by its tag
pub data Added (s : List ℕ) (x : Index) (b : List ℕ) : ℕ → Type 0 where
  wire : x.last ≤ 1 → Passes (wire_form b) (wire_limits (length x.wires) b) (wire_type_fits b) → Added s x b 1
  box : Passes (box_form (length x.wires) b) (box_limits (length x.boxes) b) (box_types b) → Added s x b 2
  rule : x.last ≡ 2
      → (let sh = shape_at s x (length x.boxes - 1) in let r = rule_read (rule_in sh b) in Passes (rule_form sh b) (rule_limits x.inbox b r) (rule_types sh r)) → Added s x b 3
  input : Passes (input_form (length x.wires) b) (ltb (length x.inputs) 8) true → Added s x b 4
  output : Passes (output_form (length x.wires) b) (output_limits (length x.outputs) b) true → Added s x b 5

module _ (s : List ℕ) (x : Index) (b : List ℕ) where
  at_tag : (tag k : ℕ) → field_fault s x tag b ≡ 0 → tag ≡ k → field_fault s x k b ≡ 0
  at_tag tag k e q = subst (λ (t : ℕ). field_fault s x t b ≡ 0) q e

  added_1 : field_fault s x 1 b ≡ 0 → Added s x b 1
  unfolding field_fault in_order
  added_1 e = let h = ordered (leb x.last 1) _ e in wire (leb-true _ _ h.0) (faultless _ _ _ h.1)

  added_2 : field_fault s x 2 b ≡ 0 → Added s x b 2
  unfolding field_fault in_order
  added_2 e = let h = ordered (leb x.last 2) _ e in box (faultless _ _ _ h.1)

  added_3 : field_fault s x 3 b ≡ 0 → Added s x b 3
  unfolding field_fault in_order
  added_3 e = let h = ordered (eqb x.last 2) _ e in rule (eqb-true _ _ h.0) (faultless _ _ _ h.1)

  added_4 : field_fault s x 4 b ≡ 0 → Added s x b 4
  unfolding field_fault in_order
  added_4 e = let h = ordered (leb x.last 4) _ e in input (faultless _ _ _ h.1)

  added_5 : field_fault s x 5 b ≡ 0 → Added s x b 5
  unfolding field_fault in_order
  added_5 e = output (faultless _ _ _ e)

  -- no other tag is in order
  other : (tag : ℕ) → field_fault s x tag b ≡ 0 → in_order x tag ≡ false → ⊥
  unfolding field_fault
  other tag e h = omega (arith, rw h at e)

  pub added : (tag : ℕ) → field_fault s x tag b ≡ 0 → Added s x b tag
  added tag e = from_1 (ℕ_discrete tag 1) (ℕ_discrete tag 2) (ℕ_discrete tag 3) (ℕ_discrete tag 4) (ℕ_discrete tag 5)
    where
      back : (k : ℕ) → tag ≡ k → Added s x b k → Added s x b tag
      back k q a = subst (λ (t : ℕ). Added s x b t) (sym q) a

      from_1 : Dec (tag ≡ 1) → Dec (tag ≡ 2) → Dec (tag ≡ 3) → Dec (tag ≡ 4) → Dec (tag ≡ 5) → Added s x b tag
      from_1 (yes q) d₂ d₃ d₄ d₅ = back 1 q (added_1 (at_tag tag 1 e q))
      from_1 (no f₁) (yes q) d₃ d₄ d₅ = back 2 q (added_2 (at_tag tag 2 e q))
      from_1 (no f₁) (no f₂) (yes q) d₄ d₅ = back 3 q (added_3 (at_tag tag 3 e q))
      from_1 (no f₁) (no f₂) (no f₃) (yes q) d₅ = back 4 q (added_4 (at_tag tag 4 e q))
      from_1 (no f₁) (no f₂) (no f₃) (no f₄) (yes q) = back 5 q (added_5 (at_tag tag 5 e q))
      from_1 (no f₁) (no f₂) (no f₃) (no f₄) (no f₅) =
          absurd (other tag e (unfold in_order in simp (ne_eqb tag 1 f₁, ne_eqb tag 2 f₂, ne_eqb tag 3 f₃, ne_eqb tag 4 f₄, ne_eqb tag 5 f₅)))

-- ── what holds of every field ────────────────────────────────────────────────────────────────

-- the field at an offset lies in the file
pub record InFile (s : List ℕ) (at : ℕ) : Type 0 where
  pub whole : at + 3 + two_at s (at + 1) ≤ length s

-- the field at an offset, `seen` others of its kind before it
pub record WireField (s : List ℕ) (seen at : ℕ) : Type 0 where
  pub in-file : InFile s at
  pub passes : Passes (wire_form (body_at s at)) (wire_limits seen (body_at s at)) (wire_type_fits (body_at s at))

pub record BoxField (s : List ℕ) (wires seen at : ℕ) : Type 0 where
  pub in-file : InFile s at
  pub passes : Passes (box_form wires (body_at s at)) (box_limits seen (body_at s at)) (box_types (body_at s at))

pub record RuleField (s : List ℕ) (sh : Shape) (at : ℕ) : Type 0 where
  pub in-file : InFile s at
  pub seen : ℕ
  pub passes : Passes (rule_form sh (body_at s at)) (rule_limits seen (body_at s at) (rule_read (rule_in sh (body_at s at)))) (rule_types sh (rule_read (rule_in sh (body_at s at))))

pub record InputField (s : List ℕ) (wires seen at : ℕ) : Type 0 where
  pub in-file : InFile s at
  pub passes : Passes (input_form wires (body_at s at)) (ltb seen 8) true

pub record OutputField (s : List ℕ) (wires seen at : ℕ) : Type 0 where
  pub in-file : InFile s at
  pub passes : Passes (output_form wires (body_at s at)) (output_limits seen (body_at s at)) true

pub record Valid (s : List ℕ) (x : Index) : Type 0 where
  pub early : x.last ≤ 1 → (length x.boxes ≡ 0) × (length x.inputs ≡ 0) × (length x.outputs ≡ 0)
  pub owned : x.last ≡ 2 → 1 ≤ length x.boxes
  pub firsts : length x.firsts ≡ length x.boxes
  pub inbox : 1 ≤ length x.boxes → length x.rules ≡ get_or x.firsts (length x.boxes - 1) 0 + x.inbox
  pub inbox_few : x.inbox ≤ 16
  pub ends : (b : ℕ) → b < length x.boxes → rules_end x b ≤ length x.rules
  pub few_rules : (b : ℕ) → b < length x.boxes → rules_end x b ≤ get_or x.firsts b 0 + 16
  pub wires : (w : ℕ) → w < length x.wires → WireField s w (get_or x.wires w 0)
  pub boxes : (b : ℕ) → b < length x.boxes → BoxField s (length x.wires) b (get_or x.boxes b 0)
  pub rules : (b r : ℕ) → b < length x.boxes → get_or x.firsts b 0 + r < rules_end x b → RuleField s (shape_at s x b) (rule_at x b r)
  pub inputs : (i : ℕ) → i < length x.inputs → InputField s (length x.wires) i (get_or x.inputs i 0)
  pub outputs : (i : ℕ) → i < length x.outputs → OutputField s (length x.wires) i (get_or x.outputs i 0)

-- ── one more at a list's end ─────────────────────────────────────────────────────────────────

length_snoc : (xs : List ℕ) (a : ℕ) → length (xs ++ (a ∷ [])) ≡ length xs + 1
length_snoc xs a = length-append xs (a ∷ [])

old_at : (xs : List ℕ) (a i : ℕ) → i < length xs → get_or (xs ++ (a ∷ [])) i 0 ≡ get_or xs i 0
old_at xs a i h = get_or-append xs (a ∷ []) 0 i h

new_at : (xs : List ℕ) (a i : ℕ) → i ≡ length xs → get_or (xs ++ (a ∷ [])) i 0 ≡ a
new_at xs a i e = rw e (get_or-append_seam xs a [] 0)

-- what holds of each, by its number, and of one more
all_snoc : (Q : ℕ → ℕ → Type 0) (xs : List ℕ) (a : ℕ) → ((i : ℕ) → i < length xs → Q i (get_or xs i 0)) → Q (length xs) a
    → (i : ℕ) → i < length (xs ++ (a ∷ [])) → Q i (get_or (xs ++ (a ∷ [])) i 0)
all_snoc Q xs a all one i h = by_place (dec_lt i (length xs))
  where
    by_place : Dec (i < length xs) → Q i (get_or (xs ++ (a ∷ [])) i 0)
    by_place (yes g) = rw (old_at xs a i g) (all i g)
    by_place (no f) =
        let e : i ≡ length xs = omega (arith, f, h, length_snoc xs a) in
        rw (new_at xs a i e) (subst (λ (k : ℕ). Q k a) (sym e) one)

-- a place of the longer list is an old one or the new one
snoc_place : {A : Type 0} (xs : List ℕ) (a k : ℕ) → k < length (xs ++ (a ∷ [])) → (k < length xs → A) → (k ≡ length xs → A) → A
snoc_place {A} xs a k g old new = by_place (dec_lt k (length xs))
  where
    by_place : Dec (k < length xs) → A
    by_place (yes h) = old h
    by_place (no f) = new (omega (arith, f, g, length_snoc xs a))

-- ── the facts are kept by each field ─────────────────────────────────────────────────────────

module _ (s : List ℕ) (x : Index) (q : Valid s x) (at : ℕ) (inside : InFile s at) where
  abbrev b : List ℕ
  b = body_at s at

  no_box : {A : Type 0} {k : ℕ} → x.last ≤ 1 → k < length x.boxes → A
  no_box h g = absurd (omega (arith, (q.early h).0))

  with_wire : x.last ≤ 1 → Passes (wire_form b) (wire_limits (length x.wires) b) (wire_type_fits b) → Valid s (add_field x 1 at)
  unfolding add_field
  with_wire h p = record {
    early = λ g. q.early h;
    owned = λ g. absurd (omega (arith, g));
    firsts = q.firsts;
    inbox = λ g. no_box h g;
    inbox_few = q.inbox_few;
    ends = λ k g. no_box h g;
    few_rules = λ k g. no_box h g;
    wires = all_snoc (WireField s) x.wires at q.wires (record { in-file = inside; passes = p });
    boxes = λ k g. no_box h g;
    rules = λ k r g. no_box h g;
    inputs = λ i g. absurd (omega (arith, (q.early h).1));
    outputs = λ i g. absurd (omega (arith, (q.early h).2));
  }

  with_input : Passes (input_form (length x.wires) b) (ltb (length x.inputs) 8) true → Valid s (add_field x 4 at)
  unfolding add_field rules_end rule_at shape_at wires_of
  with_input p = record {
    early = λ g. absurd (omega (arith, g));
    owned = λ g. absurd (omega (arith, g));
    firsts = q.firsts;
    inbox = q.inbox;
    inbox_few = q.inbox_few;
    ends = q.ends;
    few_rules = q.few_rules;
    wires = q.wires;
    boxes = q.boxes;
    rules = q.rules;
    inputs = all_snoc (InputField s (length x.wires)) x.inputs at q.inputs (record { in-file = inside; passes = p });
    outputs = q.outputs;
  }

  with_output : Passes (output_form (length x.wires) b) (output_limits (length x.outputs) b) true → Valid s (add_field x 5 at)
  unfolding add_field rules_end rule_at shape_at wires_of
  with_output p = record {
    early = λ g. absurd (omega (arith, g));
    owned = λ g. absurd (omega (arith, g));
    firsts = q.firsts;
    inbox = q.inbox;
    inbox_few = q.inbox_few;
    ends = q.ends;
    few_rules = q.few_rules;
    wires = q.wires;
    boxes = q.boxes;
    rules = q.rules;
    inputs = q.inputs;
    outputs = all_snoc (OutputField s (length x.wires)) x.outputs at q.outputs (record { in-file = inside; passes = p });
  }

  -- a box's rules end where they did
  end_kept : (k : ℕ) → k < length x.boxes → rules_end (add_field x 2 at) k ≡ rules_end x k
  unfolding add_field rules_end
  end_kept k h = rw (lt-ltb (k + 1) (length (x.boxes ++ (at ∷ []))) (rw length_snoc (omega arith))) (by_place (dec_lt (k + 1) (length x.boxes)))
    where
      by_place : Dec (k + 1 < length x.boxes)
          → get_or (x.firsts ++ (length x.rules ∷ [])) (k + 1) 0 ≡ cond (ltb (k + 1) (length x.boxes)) (get_or x.firsts (k + 1) 0) (length x.rules)
      by_place (yes g) = rw (lt-ltb (k + 1) (length x.boxes) g) (old_at x.firsts (length x.rules) (k + 1) (omega (arith, q.firsts)))
      by_place (no f) = rw (le-ltb (k + 1) (length x.boxes) (omega (arith, f))) (new_at x.firsts (length x.rules) (k + 1) (omega (arith, q.firsts, f, h)))

  -- the new box has none yet
  end_new : (k : ℕ) → k ≡ length x.boxes → rules_end (add_field x 2 at) k ≡ length x.rules
  unfolding add_field rules_end
  end_new k e = rw (le-ltb (k + 1) (length (x.boxes ++ (at ∷ []))) (rw length_snoc (omega arith)))

  first_old : (k : ℕ) → k < length x.boxes → get_or (x.firsts ++ (length x.rules ∷ [])) k 0 ≡ get_or x.firsts k 0
  first_old k h = old_at x.firsts (length x.rules) k (omega (arith, q.firsts))

  first_new : (k : ℕ) → k ≡ length x.boxes → get_or (x.firsts ++ (length x.rules ∷ [])) k 0 ≡ length x.rules
  first_new k e = new_at x.firsts (length x.rules) k (omega (arith, q.firsts))

  old_rule : (k r : ℕ) → k < length x.boxes → get_or (add_field x 2 at).firsts k 0 + r < rules_end (add_field x 2 at) k
      → RuleField s (shape_at s (add_field x 2 at) k) (rule_at (add_field x 2 at) k r)
  unfolding add_field rule_at shape_at wires_of
  old_rule k r f h =
      let i : get_or x.firsts k 0 + r < rules_end x k = rw (first_old k f, end_kept k f) at h in
      rw (first_old k f, old_at x.boxes at k f) (q.rules k r f i)

  no_rule_lem : (k r : ℕ) → k ≡ length x.boxes → get_or (add_field x 2 at).firsts k 0 + r < rules_end (add_field x 2 at) k → ⊥
  unfolding add_field
  no_rule_lem k r e h =
      let i : length x.rules + r < length x.rules = rw (first_new k e, end_new k e) at h in
      omega arith

  with_box : Passes (box_form (length x.wires) b) (box_limits (length x.boxes) b) (box_types b) → Valid s (add_field x 2 at)
  unfolding add_field
  with_box p = record {
    early = λ g. absurd (omega (arith, g));
    owned = λ g. rw length_snoc (omega arith);
    firsts = length_snoc x.firsts (length x.rules) ∙ rw q.firsts (sym (length_snoc x.boxes at));
    inbox = λ g. rw length_snoc (rw (first_new (length x.boxes + 1 - 1) (omega arith)) (omega arith));
    inbox_few = omega arith;
    ends = λ k g. snoc_place x.boxes at k g (λ h. rw (end_kept k h) (q.ends k h)) (λ e. rw (end_new k e) (omega arith));
    few_rules = λ k g. snoc_place x.boxes at k g (λ h. rw (end_kept k h, first_old k h) (q.few_rules k h)) (λ e. rw (end_new k e, first_new k e) (omega arith));
    wires = q.wires;
    boxes = all_snoc (BoxField s (length x.wires)) x.boxes at q.boxes (record { in-file = inside; passes = p });
    rules = λ k r g h. snoc_place x.boxes at k g (λ f. old_rule k r f h) (λ e. absurd (no_rule_lem k r e h));
    inputs = q.inputs;
    outputs = q.outputs;
  }

  -- the last box's rules end at the new one, another's where they did
  end_other : (k : ℕ) → k + 1 < length x.boxes → rules_end (add_field x 3 at) k ≡ rules_end x k
  unfolding add_field rules_end
  end_other k h = rw (lt-ltb (k + 1) (length x.boxes) h)

  end_last : (k : ℕ) → length x.boxes ≤ k + 1 → rules_end (add_field x 3 at) k ≡ length x.rules + 1
  unfolding add_field rules_end
  end_last k h = rw (le-ltb (k + 1) (length x.boxes) h) (length_snoc x.rules at)

  end_before : (k : ℕ) → length x.boxes ≤ k + 1 → rules_end x k ≡ length x.rules
  unfolding rules_end
  end_before k h = rw (le-ltb (k + 1) (length x.boxes) h)

  last_box : (k : ℕ) → k < length x.boxes → {A : Type 0} → (k + 1 < length x.boxes → A) → (k ≡ length x.boxes - 1 → A) → A
  last_box k g {A} other last = by_place (dec_lt (k + 1) (length x.boxes))
    where
      by_place : Dec (k + 1 < length x.boxes) → A
      by_place (yes h) = other h
      by_place (no f) = last (omega (arith, f, g))

  kept_rule : (k r : ℕ) → k < length x.boxes → get_or x.firsts k 0 + r < rules_end x k → RuleField s (shape_at s (add_field x 3 at) k) (rule_at (add_field x 3 at) k r)
  unfolding add_field rule_at shape_at wires_of
  kept_rule k r g h = rw (old_at x.rules at (get_or x.firsts k 0 + r) (omega (arith, q.ends k g))) (q.rules k r g h)

  new_rule : (k r : ℕ) → k ≡ length x.boxes - 1 → get_or x.firsts k 0 + r ≡ length x.rules → RuleField s (shape_at s x (length x.boxes - 1)) at
      → RuleField s (shape_at s (add_field x 3 at) k) (rule_at (add_field x 3 at) k r)
  unfolding add_field rule_at shape_at wires_of
  new_rule k r e i f = rw (new_at x.rules at (get_or x.firsts k 0 + r) i, e) f

  rule_at_lem : (k r : ℕ) → RuleField s (shape_at s x (length x.boxes - 1)) at → k < length x.boxes → get_or x.firsts k 0 + r < rules_end (add_field x 3 at) k
      → RuleField s (shape_at s (add_field x 3 at) k) (rule_at (add_field x 3 at) k r)
  rule_at_lem k r f g h =
      last_box k g
      (λ o. kept_rule k r g (rw (end_other k o) at h))
      (λ e. by_place e (dec_lt (get_or x.firsts k 0 + r) (length x.rules)))
    where
      by_place : k ≡ length x.boxes - 1 → Dec (get_or x.firsts k 0 + r < length x.rules) → RuleField s (shape_at s (add_field x 3 at) k) (rule_at (add_field x 3 at) k r)
      by_place e (yes i) = kept_rule k r g (rw (end_before k (omega arith)) i)
      by_place e (no n) = new_rule k r e (omega (arith, n, rw (end_last k (omega arith)) at h)) f

  with_rule_lem : x.last ≡ 2 → x.inbox < 16 → RuleField s (shape_at s x (length x.boxes - 1)) at → Valid s (add_field x 3 at)
  unfolding add_field
  with_rule_lem l c f = record {
    early = λ g. absurd (omega (arith, g));
    owned = λ g. q.owned l;
    firsts = q.firsts;
    inbox = λ g. rw length_snoc (omega (arith, q.inbox g));
    inbox_few = omega (arith, c);
    ends = λ k g. last_box k g (λ o. rw (end_other k o, length_snoc) (omega (arith, q.ends k g))) (λ e. rw (end_last k (omega arith), length_snoc) (omega arith));
    few_rules = λ k g. last_box k g (λ o. rw (end_other k o) (q.few_rules k g))
        (λ e. rw (end_last k (omega arith)) (rw e (omega (arith, q.inbox (q.owned l), c))));
    wires = q.wires;
    boxes = q.boxes;
    rules = λ k r g h. rule_at_lem k r f g h;
    inputs = q.inputs;
    outputs = q.outputs;
  }

-- ── every field of an accepted file ──────────────────────────────────────────────────────────

-- what a field that is there says of the file
pub record Found (s : List ℕ) (f : Field) (at : ℕ) : Type 0 where
  pub start_is : f.start ≡ at + 3
  pub len_is : f.len ≡ two_at s (at + 1)
  pub ends : f.start + f.len ≤ length s
  pub body : stretch s f.start f.len ≡ body_at s at
  pub inside : InFile s at

pub field_found : (s : List ℕ) (f : Field) (at : ℕ) → field_at s at ≡ Some f → Found s f at
unfolding field_at body_at
field_found s f at = by_head (ltb (length s) (at + 3)) (ltb (length s) (at + 3 + two_at s (at + 1))) refl
  where
    by_head : (b c : Bool) → ltb (length s) (at + 3 + two_at s (at + 1)) ≡ c
        → cond b None (cond c None (Some (record { tag = get_or s at 0; start = at + 3; len = two_at s (at + 1) }))) ≡ Some f → Found s f at
    by_head true c h e = let z : ◌≡◌ {A = ℕ} 0 1 = cc in absurd (omega arith)
    by_head false true h e = let z : ◌≡◌ {A = ℕ} 0 1 = cc in absurd (omega arith)
    by_head false false h e =
        let is : ◌≡◌ {A = Field} (record { tag = get_or s at 0; start = at + 3; len = two_at s (at + 1) }) f = cc in
        let p : at + 3 ≡ f.start = ap (λ (g : Field). g.start) is in
        let l : two_at s (at + 1) ≡ f.len = ap (λ (g : Field). g.len) is in
        record { start_is = sym p; len_is = sym l; ends = omega (arith, p, l, ltb-false (length s) (at + 3 + two_at s (at + 1)) h); body = rw (← p, ← l); inside = record { whole = ltb-false _ _ h } }

-- a limit on how many fields of a kind there are
pub wire_count : (seen : ℕ) (b : List ℕ) → wire_limits seen b ≡ true → seen < 64
unfolding wire_limits
wire_count seen b e = ltb-true seen 64 (and₄ (ltb seen 64) (in_precision (type_at b 0)) (leb 1 (get_or b 2 0)) (leb (get_or b 2 0) 64) e).0

pub box_count : (seen : ℕ) (b : List ℕ) → box_limits seen b ≡ true → seen < 32
unfolding box_limits
box_count seen b e =
    ltb-true seen 32 (and₅ (ltb seen 32) (leb (get_or b 0 0) 4) (leb (get_or b 1 0) 4) (leb (get_or b 2 0) 4) (every (get_or b 2 0) (λ j. in_precision (type_at b (variable_start b j)))) e).0

pub output_count : (seen : ℕ) (b : List ℕ) → output_limits seen b ≡ true → seen < 8
unfolding output_limits
output_count seen b e = ltb-true seen 8 (and₃ (ltb seen 8) (leb 1 (two_at b 1)) (leb (two_at b 1) 1000) e).0

pub rule_count : (seen : ℕ) (b : List ℕ) (r : Rule) → rule_limits seen b r ≡ true → seen < 16
unfolding rule_limits
rule_count seen b r e =
    ltb-true seen 16 (and₅ (ltb seen 16) (leb (length b) 512) (expression_limits r.guard) (action_limits r.outs) (action_limits r.sets) e).0

module _ (s : List ℕ) where
  with_field : (x : Index) (tag at : ℕ) → Valid s x → InFile s at → Added s x (body_at s at) tag → Valid s (add_field x tag at)
  with_field x tag at q i (wire h p) = with_wire s x q at i h p
  with_field x tag at q i (box p) = with_box s x q at i p
  with_field x tag at q i (rule h p) = with_rule_lem s x q at i h (rule_count x.inbox (body_at s at) _ p.limits) (record { in-file = i; seen = x.inbox; passes = p })
  with_field x tag at q i (input p) = with_input s x q at i p
  with_field x tag at q i (output p) = with_output s x q at i p

  pub valid_kept : (x : Index) (f : Field) (at : ℕ) → Valid s x → field_at s at ≡ Some f → field_fault s x f.tag (stretch s f.start f.len) ≡ 0 → Valid s (add_field x f.tag at)
  valid_kept x f at q e z =
      let g = field_found s f at e in
      with_field x f.tag at q g.inside (added s x (body_at s at) f.tag (rw g.body at z))

  pub valid_none : Valid s no_fields
  unfolding no_fields
  valid_none = record {
    early = λ g. (refl, refl, refl);
    owned = λ g. absurd (omega (arith, g));
    firsts = refl;
    inbox = λ g. absurd (omega (arith, g));
    inbox_few = omega arith;
    ends = λ k g. absurd (omega (arith, g));
    few_rules = λ k g. absurd (omega (arith, g));
    wires = λ k g. absurd (omega (arith, g));
    boxes = λ k g. absurd (omega (arith, g));
    rules = λ k r g. absurd (omega (arith, g));
    inputs = λ k g. absurd (omega (arith, g));
    outputs = λ k g. absurd (omega (arith, g));
  }

  pub fields_valid : (x : Index) → fields s ≡ good x → Valid s x
  fields_valid x e = fields_hold s (Valid s) valid_kept valid_none x e
