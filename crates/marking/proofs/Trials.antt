-- A rule against what its box sees is the rule against the state.
-- Assumes nothing.
use mathlib.Core.Path.{◌≡◌, refl, sym, ap, ap₂, ◌∙◌}
use mathlib.Core.Bool.{Bool, true, false, not, ◌&&◌}
use mathlib.Core.List.{List, [], ◌∷◌, ◌++◌, map}
use Prim.Native.Nat.{ℕ, zero, suc, ◌+◌, ◌-◌, ◌≤◌, ◌<◌}
use native.Mathlib.Nat.{add-zero, zero-add}
use native.Mathlib.Omega.{arith}
use lib.Dec.{eqb, leb}
use lib.IntN.{ℤ, pos}
use lib.ListN.{length, get_or}
use borrow.Author.Tests.{lt-ltb, le-ltb, ne_eqb, leb-true}
use Rattle.model.specs.declared.Ty.{Ty}
use Rattle.model.specs.declared.Token.{Token}
use Rattle.model.specs.Values.{no_type, is_plain}
use Rattle.model.specs.Expressions.{Env, value_of}
use Rattle.model.specs.Rules.{Pattern, ignore, any, only, pattern_of, Action, Rule, Shape, matched_type, matched_types, scope_of}
use Rattle.model.specs.Network.{Box, Net, State, queue, shape_of}
use Rattle.model.specs.NetworkFile.{hit}
use Rattle.model.specs.Cycles.{Mark, reads, matches, ready_in, ready_ins, ready_vars, ready_outs, writes, full, empty, oldest, look, seen, matched_value, env_of, attempt, guarded, ready_rule}
use Rattle.evaluation.specs.Envs.{env_in}
use Rattle.matching.specs.Outs.{open_from}
use Rattle.actions.proofs.Worked.{Alike, Judged, guarded-same}
use Rattle.trying.specs.Views.{token_of, ready_from, view_env, judge_of, try_on}
use Rattle.sights.specs.declared.View.{View}
use Rattle.sights.specs.Seen.{head_of, Values, Seen}

-- ── patterns ─────────────────────────────────────────────────────────────────────────────────

-- the tag of a pattern is one of the four
unfoldable pub tagged : Pattern → Bool
tagged ignore = true
tagged (any t) = leb t 3
tagged (only t z) = leb t 3

pub tag_known : (c : ℕ) (z : ℤ) → tagged (pattern_of c z) ≡ true
unfolding tagged pattern_of
tag_known zero z = refl
tag_known (suc zero) z = refl
tag_known (suc (suc zero)) z = refl
tag_known (suc (suc (suc zero))) z = refl
tag_known (suc (suc (suc (suc zero)))) z = refl
tag_known (suc (suc (suc (suc (suc zero))))) z = refl
tag_known (suc (suc (suc (suc (suc (suc c)))))) z = go (leb (suc (suc (suc (suc (suc (suc c)))))) 5) refl
  where
    go : (t : Bool) → leb (suc (suc (suc (suc (suc (suc c)))))) 5 ≡ t → tagged (pattern_of (suc (suc (suc (suc (suc (suc c)))))) z) ≡ true
    go true e = absurd (let q = leb-true (suc (suc (suc (suc (suc (suc c)))))) 5 e in omega arith)
    go false e = rw (ne_eqb (suc (suc (suc (suc (suc (suc c)))))) 0 (λ i. omega arith), ne_eqb (suc (suc (suc (suc (suc (suc c)))))) 1 (λ i. omega arith), ne_eqb (suc (suc (suc (suc (suc (suc c)))))) 2 (λ i. omega arith), e)

-- no token waits: nothing but an ignored input is ready
none_ready : (p : Pattern) (z : ℤ) → tagged p ≡ true → ready_in p [] ≡ matches p (record { tag = 4; value = z })
unfolding ready_in reads empty matches tagged
none_ready ignore z e = refl
none_ready (any t) z e = let q = leb-true t 3 e in rw (ne_eqb t 4 (λ i. omega arith))
none_ready (only t y) z e = let q = leb-true t 3 e in rw (ne_eqb t 4 (λ i. omega arith))

some_ready : (p : Pattern) (t : Token) (q : List Token) → ready_in p (t ∷ q) ≡ matches p t
unfolding ready_in reads empty oldest matches
some_ready ignore t q = refl
some_ready (any k) t q = refl
some_ready (only k z) t q = refl

head_ready : (p : Pattern) (q : List Token) → tagged p ≡ true → ready_in p q ≡ matches p (record { tag = head_of q; value = (oldest q).value })
unfolding head_of oldest
head_ready p [] e = none_ready p _ e
head_ready p (t ∷ q) e = some_ready p t q

-- ── lists of patterns and of actions ─────────────────────────────────────────────────────────

ready_append : (f : ℕ → Token) (j : ℕ) (xs ys : List Pattern) → ready_from f j (xs ++ ys) ≡ (ready_from f j xs && ready_from f (j + length xs) ys)
unfolding ready_from
ready_append f j [] ys = ap (λ (k : ℕ). ready_from f k ys) (sym (add-zero j))
ready_append f j (x ∷ xs) ys =
    let e : j + 1 + length xs ≡ j + suc (length xs) = omega arith in
    ap (λ (y : Bool). matches x (f j) && y) (ready_append f (j + 1) xs ys) ∙ assoc (matches x (f j)) (ready_from f (j + 1) xs) _ ∙ ap (λ (i : ℕ). matches x (f j) && ready_from f (j + 1) xs && ready_from f i ys) e
  where
    assoc : (a b c : Bool) → (a && (b && c)) ≡ (a && b && c)
    assoc true b c = refl
    assoc false b c = refl

ins_ready : (s : State) (f : ℕ → Token) (j : ℕ) (ws : List ℕ) (ps : List Pattern) → length ws ≡ length ps
    → ((i : ℕ) → i < length ps → ready_in (get_or ps i ignore) (queue s (get_or ws i 0)) ≡ matches (get_or ps i ignore) (f (j + i)))
    → ready_ins s ws ps ≡ ready_from f j ps
unfolding ready_ins ready_from
ins_ready s f j [] [] e h = refl
ins_ready s f j [] (p ∷ ps) e h = absurd (omega arith)
ins_ready s f j (w ∷ ws) [] e h = absurd (omega arith)
ins_ready s f j (w ∷ ws) (p ∷ ps) e h =
    ap₂ ◌&&◌ (h 0 (omega arith) ∙ ap (λ (k : ℕ). matches p (f k)) (add-zero j))
    (ins_ready s f (j + 1) ws ps (omega arith) (λ i l. h (suc i) (omega arith) ∙ ap (λ (k : ℕ). matches (get_or ps i ignore) (f k)) (shift i)))
  where
    shift : (i : ℕ) → j + suc i ≡ j + 1 + i
    shift i = omega arith

vars_ready : (f : ℕ → Token) (j : ℕ) (vs : List ℤ) (ps : List Pattern) → length vs ≡ length ps
    → ((i : ℕ) → i < length ps → f (j + i) ≡ record { tag = 0; value = get_or vs i (pos 0) })
    → ready_vars vs ps ≡ ready_from f j ps
unfolding ready_vars ready_from
vars_ready f j [] [] e h = refl
vars_ready f j [] (p ∷ ps) e h = absurd (omega arith)
vars_ready f j (v ∷ vs) [] e h = absurd (omega arith)
vars_ready f j (v ∷ vs) (p ∷ ps) e h =
    ap₂ ◌&&◌ (ap (matches p) (sym (h 0 (omega arith)) ∙ ap f (add-zero j)))
    (vars_ready f (j + 1) vs ps (omega arith) (λ i l. ap f (sym (shift i)) ∙ h (suc i) (omega arith)))
  where
    shift : (i : ℕ) → j + suc i ≡ j + 1 + i
    shift i = omega arith

hit_one : (t : Bool) → eqb (hit t) 1 ≡ t
unfolding hit
hit_one true = refl
hit_one false = refl

outs_ready : (n : Net) (s : State) (fs : List ℕ) (j : ℕ) (ws : List ℕ) (acts : List Action) → length ws ≡ length acts
    → ((i : ℕ) → i < length ws → get_or fs (j + i) 0 ≡ hit (full n s (get_or ws i 0)))
    → ready_outs n s ws acts ≡ open_from fs j acts
unfolding ready_outs open_from
outs_ready n s fs j [] [] e h = refl
outs_ready n s fs j [] (a ∷ acts) e h = absurd (omega arith)
outs_ready n s fs j (w ∷ ws) [] e h = absurd (omega arith)
outs_ready n s fs j (w ∷ ws) (a ∷ acts) e h =
    ap₂ (λ (x y : Bool). not (writes a && x) && y) (sym (ap (λ (k : ℕ). eqb k 1) (ap (λ (k : ℕ). get_or fs k 0) (sym (add-zero j)) ∙ h 0 (omega arith)) ∙ hit_one (full n s w)))
    (outs_ready n s fs (j + 1) ws acts (omega arith) (λ i l. ap (λ (k : ℕ). get_or fs k 0) (sym (shift i)) ∙ h (suc i) (omega arith)))
  where
    shift : (i : ℕ) → j + suc i ≡ j + 1 + i
    shift i = omega arith

-- ── values ───────────────────────────────────────────────────────────────────────────────────

-- the matched value of input i
look_at : (s : State) (ws : List ℕ) (ps : List Pattern) (i : ℕ) → i < length ws → i < length ps → reads (get_or ps i ignore) ≡ true
    → get_or (map matched_value (look s ws (map reads ps))) i (pos 0) ≡ (oldest (queue s (get_or ws i 0))).value
unfolding look
look_at s [] ps i l m e = absurd (omega arith)
look_at s (w ∷ ws) [] i l m e = absurd (omega arith)
look_at s (w ∷ ws) (p ∷ ps) zero l m e = unfold seen matched_value in rw e
look_at s (w ∷ ws) (p ∷ ps) (suc i) l m e = look_at s ws ps i (omega arith) (omega arith) e

no_plain : is_plain no_type ≡ true → ⊥
unfolding is_plain no_type
no_plain e = let z : ◌≡◌ {A = ℕ} 0 1 = cc in omega arith

-- an input that may be named is read
plain_read : (ts : List Ty) (ps : List Pattern) (i : ℕ) → is_plain (get_or (matched_types ts ps) i no_type) ≡ true → (i < length ps) × (reads (get_or ps i ignore) ≡ true)
unfolding matched_types matched_type reads
plain_read ts [] i e = absurd (no_plain e)
plain_read [] (p ∷ ps) i e = absurd (no_plain e)
plain_read (t ∷ ts) (p ∷ ps) zero e = (omega arith, go p e)
  where
    go : (q : Pattern) → is_plain (matched_type t q) ≡ true → reads q ≡ true
    go ignore f = absurd (no_plain f)
    go (any k) f = refl
    go (only k z) f = refl
plain_read (t ∷ ts) (p ∷ ps) (suc i) e = let h = plain_read ts ps i e in (omega (arith, h.0), h.1)

plain_there : (ts : List Ty) (j : ℕ) → is_plain (get_or ts j no_type) ≡ true → j < length ts
plain_there [] j e = absurd (no_plain e)
plain_there (t ∷ ts) zero e = omega arith
plain_there (t ∷ ts) (suc j) e = let h = plain_there ts j e in omega arith

four_at_lem : {A : Type 0} (f : ℕ → A) (d : A) (i : ℕ) → i < 4 → get_or (f 0 ∷ f 1 ∷ f 2 ∷ f 3 ∷ []) i d ≡ f i
four_at_lem f d zero l = refl
four_at_lem f d (suc zero) l = refl
four_at_lem f d (suc (suc zero)) l = refl
four_at_lem f d (suc (suc (suc zero))) l = refl
four_at_lem f d (suc (suc (suc (suc i)))) l = absurd (omega arith)

-- ── one rule ─────────────────────────────────────────────────────────────────────────────────

-- a rule of a box with as many ports and variables, of known tags, whose expressions have types
pub record Suits (n : Net) (b : Box) (vs : List ℤ) (r : Rule) : Type 0 where
  pub ins : length b.ins ≡ length r.ins
  pub vars : length vs ≡ length r.vars
  pub outs : length b.outs ≡ length r.outs
  pub few_ins : length b.ins ≤ 4
  pub few_vars : length vs ≤ 4
  pub typed_vars : length (shape_of n.wires b).vars ≡ length vs
  pub tags : (i : ℕ) → i < length r.ins → tagged (get_or r.ins i ignore) ≡ true
  pub judged : Judged (scope_of (shape_of n.wires b) r) r

-- the values that a box sees are those that the model works with
module _ (n : Net) (s : State) (b : Box) (vs vals : List ℤ) (h : Values s b.ins vs vals) (r : Rule) (w : Suits n b vs r) where
  abbrev sh : Shape
  sh = shape_of n.wires b

  abbrev en : Env
  en = env_of n b r (look s b.ins (map reads r.ins)) vs

  pub alike : Alike (view_env sh.ins sh.vars vals r) en
  unfolding view_env env_of scope_of env_in
  alike = record {
    scope = record { ins = λ i. refl; vars = λ i. refl };
    ins = λ i e.
        let q = plain_read sh.ins r.ins i e in
        let m : i < length b.ins = omega (arith, q.0, w.ins) in
        four_at_lem (λ j. get_or vals j (pos 0)) (pos 0) i (omega (arith, m, w.few_ins)) ∙ h.values i m ∙ sym (look_at s b.ins r.ins i m q.0 q.1);
    vars = λ j e.
        let m : j < length vs = omega (arith, plain_there sh.vars j e, w.typed_vars) in
        four_at_lem (λ i. get_or vals (4 + i) (pos 0)) (pos 0) j (omega (arith, m, w.few_vars)) ∙ h.vars j m;
  }

module _ (n : Net) (s : State) (b : Box) (vs : List ℤ) (v : View) (h : Seen n s b vs v) (r : Rule) (w : Suits n b vs r) where
  abbrev shape : Shape
  shape = shape_of n.wires b

  abbrev env : Env
  env = env_of n b r (look s b.ins (map reads r.ins)) vs

  same-values : Values s b.ins vs v.vals
  same-values = record { values = h.values; vars = h.vars; small = h.small }

  abbrev f : ℕ → Token
  f = token_of (length r.ins) v.heads v.vals

  input_token : (i : ℕ) → i < length r.ins → ready_in (get_or r.ins i ignore) (queue s (get_or b.ins i 0)) ≡ matches (get_or r.ins i ignore) (f (0 + i))
  unfolding token_of
  input_token i l =
      let m : i < length b.ins = omega (arith, w.ins) in
      head_ready (get_or r.ins i ignore) (queue s (get_or b.ins i 0)) (w.tags i l)
      ∙ rw (zero-add i, lt-ltb i (length r.ins) l, h.heads i m, h.values i m)

  variable-token : (i : ℕ) → i < length r.vars → f (0 + length r.ins + i) ≡ record { tag = 0; value = get_or vs i (pos 0) }
  unfolding token_of
  variable-token i l =
      let e : 0 + length r.ins + i - length r.ins ≡ i = omega arith in
      rw (le-ltb (0 + length r.ins + i) (length r.ins) (omega arith), e, h.vars i (omega (arith, w.vars)))

  ready_same : ready_from f 0 (r.ins ++ r.vars) ≡ (ready_ins s b.ins r.ins && ready_vars vs r.vars)
  ready_same = ready_append f 0 r.ins r.vars ∙ ap₂ ◌&&◌ (sym (ins_ready s f 0 b.ins r.ins w.ins input_token)) (sym (vars_ready f (0 + length r.ins) vs r.vars w.vars variable-token))

  open-same : open_from v.full 0 r.outs ≡ ready_outs n s b.outs r.outs
  open-same = sym (outs_ready n s v.full 0 b.outs r.outs w.outs (λ i l. ap (λ (k : ℕ). get_or v.full k 0) (zero-add i) ∙ h.fulls i l))

  pub trial_same : (k : ℕ) → try_on shape.ins shape.vars v.heads v.full v.vals r k ≡ attempt (ready_rule n s b r vs) (guarded env r k (value_of env r.guard))
  unfolding try_on judge_of ready_rule attempt
  trial_same k =
      rw (ready_same, open-same, guarded-same (view_env shape.ins shape.vars v.vals r) env (alike n s b vs v.vals same-values r w) r (unfold view_env scope_of in w.judged) k)
      (twice (ready_ins s b.ins r.ins && ready_vars vs r.vars) (ready_outs n s b.outs r.outs) (guarded env r k (value_of env r.guard)))
    where
      twice : (x y : Bool) (m : Mark) → attempt x (attempt y m) ≡ attempt (x && y) m
      twice true y m = refl
      twice false y m = refl
