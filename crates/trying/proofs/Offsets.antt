-- Where each pattern of a rule stands in its body.
-- Assumes nothing.
use mathlib.Core.Path.{◌≡◌, sym, ap, ap₂, ◌∙◌, subst}
use mathlib.Core.Bool.{Bool, true, false}
use mathlib.Core.List.{List, [], ◌∷◌, ◌++◌}
use Prim.Native.Nat.{ℕ, zero, suc, ◌+◌, ◌-◌, ◌≤◌, ◌<◌}
use native.Mathlib.Nat.{add-zero, zero-add}
use native.Mathlib.Omega.{arith}
use lib.ListN.{get_or, take, drop, length, length-append}
use lib.Seq.{take_all}
use Rattle.model.specs.Bytes.{value_at}
use Rattle.model.specs.Expressions.{Read, read_many, expression}
use Rattle.model.specs.Rules.{Pattern, ignore, pattern_of, pattern_size, read_pattern, size_of_pattern, patterns_size, Rule, rule_read, read_rule}
use Rattle.expressions.proofs.Heads.{head_at}
use Rattle.rules.specs.Bodies.{pattern_codes, patterns_from, actions_from}
use Rattle.rules.specs.declared.Parts.{Parts}
use Rattle.rules.proofs.Laying.{Found, Laid, rule_is, rule_read_lem}
use Rattle.shapes.specs.declared.Arity.{Arity}
use Rattle.model.proofs.Decoded.{read_many-length}
use Rattle.expressions.specs.Reading.{end_from, is_read, skip_to}
use Rattle.typing.specs.Fits.{list_read}
use Rattle.typing.proofs.Peeling.{there}
use Rattle.typing.proofs.Patterns.{pattern_read, pattern_size_lem, pattern_inside, pattern_at}
use Rattle.typing.proofs.Wholes.{ins_read, vars_read, patterns_size_lem}

-- a thing that was read is there, and ends where it ends
found_there : {A : Type 0} {r : Read A} {at end : ℕ} → Found r at end → (is_read r ≡ true) × (skip_to at r ≡ end)
unfolding is_read skip_to
found_there q = (rw q.read, rw (q.read, q.ends))

-- pattern x stands at an offset of a body
pub record StandsAt (b : List ℕ) (at : ℕ) (x : Pattern) : Type 0 where
  pub inside : at < length b
  pub is : pattern_of (get_or b at 0) (value_at b (at + 1)) ≡ x
  pub size : pattern_size (get_or b at 0) ≡ size_of_pattern x

module _ (v : Bool) (b : List ℕ) where
  abbrev f : List ℕ → Read Pattern
  f = read_pattern (pattern_codes v)

  stands : (at end : ℕ) (q : Found (f (drop at b)) at end) → (StandsAt b at q.thing) × (end ≡ at + size_of_pattern q.thing)
  unfolding end_from
  stands at end q =
      let r = pattern_read (pattern_codes v) (drop at b) q.read in
      let z = pattern_size_lem v (drop at b) q.read in (
        record {
          inside = pattern_inside v b at (at + q.size) (ap (end_from at) q.read);
          is = sym (pattern_at v b at q.read);
          size = ap pattern_size (sym (head_at at b)) ∙ sym r.size ∙ sym z;
        },
        q.ends ∙ ap (λ (k : ℕ). at + k) (sym z),
      )

  -- the pattern of each number, one before others
  one_before : (x : Pattern) (rest : List Pattern) (n at end : ℕ) → StandsAt b at x → end ≡ at + size_of_pattern x
      → ((i : ℕ) → i < n → StandsAt b (end + patterns_size (take i rest)) (get_or rest i ignore))
      → (i : ℕ) → i < suc n → StandsAt b (at + patterns_size (take i (x ∷ rest))) (get_or (x ∷ rest) i ignore)
  unfolding patterns_size
  one_before x rest n at end h e g zero l = rw (add-zero at) h
  one_before x rest n at end h e g (suc i) l =
      let q : end + patterns_size (take i rest) ≡ at + (size_of_pattern x + patterns_size (take i rest)) = omega arith in
      subst (λ (k : ℕ). StandsAt b k (get_or rest i ignore)) q (g i (omega arith))

  -- pattern j of n that are read from an offset on
  pub stands_at : (n at j : ℕ) → is_read (patterns_from v n at b) ≡ true → j < n
      → StandsAt b (at + patterns_size (take j (list_read (patterns_from v n at b)))) (get_or (list_read (patterns_from v n at b)) j ignore)
  unfolding patterns_from
  stands_at zero at j e l = absurd (omega arith)
  stands_at (suc n) at j e l =
      let t = there f b (suc n) at (omega arith) e in
      let x = t.peeled in
      let y = stands at t.end x.first in
      let q : suc n - 1 ≡ n = omega arith in
      let rest : is_read (patterns_from v n t.end b) ≡ true = ap (λ (k : ℕ). is_read (read_many f k (drop t.end b))) (sym q) ∙ x.rest in
      rw (x.list ∙ ap (λ (k : ℕ). x.first.thing ∷ list_read (read_many f k (drop t.end b))) q)
      (one_before x.first.thing (list_read (patterns_from v n t.end b)) n at t.end y.0 y.1 (λ i h. stands_at n t.end i rest h) j l)

-- ── input patterns, then variable patterns ───────────────────────────────────────────────────

size_append : (xs ys : List Pattern) → patterns_size (xs ++ ys) ≡ patterns_size xs + patterns_size ys
unfolding patterns_size
size_append [] ys = omega arith
size_append (x ∷ xs) ys = let e = size_append xs ys in omega arith

-- one pattern more
pub size_next : (xs : List Pattern) (j : ℕ) → j < length xs → patterns_size (take (suc j) xs) ≡ patterns_size (take j xs) + size_of_pattern (get_or xs j ignore)
unfolding patterns_size
size_next [] j l = absurd (omega arith)
size_next (x ∷ xs) zero l = omega arith
size_next (x ∷ xs) (suc j) l = let e = size_next xs j (omega arith) in omega arith

stands_both : (b : List ℕ) (xs ys : List Pattern) (at : ℕ)
    → ((j : ℕ) → j < length xs → StandsAt b (at + patterns_size (take j xs)) (get_or xs j ignore))
    → ((j : ℕ) → j < length ys → StandsAt b (at + patterns_size xs + patterns_size (take j ys)) (get_or ys j ignore))
    → (j : ℕ) → j < length (xs ++ ys) → StandsAt b (at + patterns_size (take j (xs ++ ys))) (get_or (xs ++ ys) j ignore)
unfolding patterns_size
stands_both b [] ys at f g j l = subst (λ (k : ℕ). StandsAt b (k + patterns_size (take j ys)) (get_or ys j ignore)) (add-zero at) (g j l)
stands_both b (x ∷ xs) ys at f g zero l = f 0 (omega arith)
stands_both b (x ∷ xs) ys at f g (suc j) l =
    let e : (k : ℕ) → at + (size_of_pattern x + k) ≡ at + size_of_pattern x + k = λ k. omega arith in
    let f' : (i : ℕ) → i < length xs → StandsAt b (at + size_of_pattern x + patterns_size (take i xs)) (get_or xs i ignore)
    = λ i h. subst (λ (k : ℕ). StandsAt b k (get_or xs i ignore)) (e (patterns_size (take i xs))) (f (suc i) (omega (arith, h))) in
    let g' : (i : ℕ) → i < length ys → StandsAt b (at + size_of_pattern x + patterns_size xs + patterns_size (take i ys)) (get_or ys i ignore)
    = λ i h. subst (λ (k : ℕ). StandsAt b (k + patterns_size (take i ys)) (get_or ys i ignore)) (e (patterns_size xs)) (g i h) in
    subst (λ (k : ℕ). StandsAt b k (get_or (xs ++ ys) j ignore)) (sym (e (patterns_size (take j (xs ++ ys))))) (stands_both b xs ys (at + size_of_pattern x) f' g' j (omega arith))

module _ (a : Arity) (b : List ℕ) (p : Parts) (x : Laid a b p) where
  abbrev all : List Pattern
  all = (rule_is x).ins ++ (rule_is x).vars

  pub ins_length : length (rule_is x).ins ≡ a.ins
  unfolding patterns_from rule_is
  ins_length = read_many-length (read_pattern (pattern_codes false)) a.ins (drop 0 b) x.ins.thing x.ins.size x.ins.read

  vars_length : length (rule_is x).vars ≡ a.vars
  unfolding patterns_from rule_is
  vars_length = read_many-length (read_pattern (pattern_codes true)) a.vars (drop p.vars b) x.vars.thing x.vars.size x.vars.read

  all_length : length all ≡ a.ins + a.vars
  all_length = length-append (rule_is x).ins (rule_is x).vars ∙ omega (arith, ins_length, vars_length)

  ins_size : patterns_size (rule_is x).ins ≡ p.vars
  unfolding rule_is
  ins_size = patterns_size_lem false a.ins 0 b x.ins.read ∙ omega (arith, x.ins.ends)

  vars_size : p.vars + patterns_size (rule_is x).vars ≡ p.guard
  unfolding rule_is
  vars_size = ap (λ (j : ℕ). p.vars + j) (patterns_size_lem true a.vars p.vars b x.vars.read) ∙ sym x.vars.ends

  -- pattern j stands after those before it, and the guard after all of them
  pub pattern_stands : (j : ℕ) → j < a.ins + a.vars → StandsAt b (patterns_size (take j all)) (get_or all j ignore)
  unfolding rule_is list_read
  pattern_stands j l =
      subst (λ (k : ℕ). StandsAt b k (get_or all j ignore)) (zero-add (patterns_size (take j all)))
      (stands_both b (rule_is x).ins (rule_is x).vars 0
      (λ i h. rw x.ins.read at (stands_at false b a.ins 0 i (ins_read a b p x) (omega (arith, h, ins_length))))
      (λ i h. subst (λ (k : ℕ). StandsAt b (k + patterns_size (take i (rule_is x).vars)) (get_or (rule_is x).vars i ignore)) (omega (arith, ins_size)) (rw x.vars.read at (stands_at true b a.vars p.vars i (vars_read a b p x) (omega (arith, h, vars_length)))))
      j (omega (arith, l, all_length)))

  guard_stands : (j : ℕ) → a.ins + a.vars ≤ j → patterns_size (take j all) ≡ p.guard
  guard_stands j l = rw (take_all j all (omega (arith, l, all_length))) (size_append (rule_is x).ins (rule_is x).vars ∙ rw ins_size vars_size)

-- where a reader of the rule stands before pattern j
module _ (a : Arity) (b : List ℕ) (p : Parts) (x : Laid a b p) where
  abbrev ru : Rule
  ru = rule_read (read_rule a.ins a.outs a.vars b)

  abbrev both : List Pattern
  both = ru.ins ++ ru.vars

  rule_is_lem : ru ≡ rule_is x
  unfolding rule_read
  rule_is_lem = rw (rule_read_lem x)

  pub ins_many : length ru.ins ≡ a.ins
  ins_many = ap (λ (q : Rule). length q.ins) rule_is_lem ∙ ins_length a b p x

  pub all_many : length both ≡ a.ins + a.vars
  all_many = ap (λ (q : Rule). length (q.ins ++ q.vars)) rule_is_lem ∙ all_length a b p x

  module _ (j at : ℕ) (h : at ≡ patterns_size (take j both)) where
    module _ (l : j < a.ins + a.vars) where
      pub here_stands : StandsAt b at (get_or both j ignore)
      here_stands = subst (λ (k : ℕ). StandsAt b k (get_or both j ignore)) (sym h) (rw rule_is_lem (pattern_stands a b p x j l))

      pub here_next : (c size : ℕ) → c ≡ get_or b at 0 → size ≡ pattern_size c → at + size ≡ patterns_size (take (j + 1) both)
      here_next c size ec es =
          let after : suc j ≡ j + 1 = omega arith in
          ap₂ ◌+◌ h (es ∙ ap pattern_size ec ∙ here_stands.size) ∙ sym (size_next both j (omega (arith, all_many, l))) ∙ ap (λ (i : ℕ). patterns_size (take i both)) after

    pub here_guard : a.ins + a.vars ≤ j → at ≡ p.guard
    here_guard l = h ∙ ap (λ (q : Rule). patterns_size (take j (q.ins ++ q.vars))) rule_is_lem ∙ guard_stands a b p x j l

  -- the guard is there, and the output actions begin where it ends
  pub guard_there : (at : ℕ) → at ≡ p.guard → is_read (expression (drop at b)) ≡ true
  guard_there at e = rw e (found_there x.guard).0

  pub guard_end : (at : ℕ) → at ≡ p.guard → skip_to at (expression (drop at b)) ≡ p.outs
  guard_end at e = rw e (found_there x.guard).1

  pub outs_there : (at : ℕ) → at ≡ p.outs → is_read (actions_from false a.outs at b) ≡ true
  outs_there at e = rw e (found_there x.outs).0
