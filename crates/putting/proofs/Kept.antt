-- Variables that get their new values one after another.
-- Assumes nothing.
use mathlib.Core.Path.{◌≡◌, refl, sym, ap, ◌∙◌, subst}
use mathlib.Core.Bool.{true}
use mathlib.Core.List.{List, [], ◌∷◌, ◌++◌}
use Prim.Native.Nat.{ℕ, suc, ◌+◌, ◌-◌, ◌≤◌, ◌<◌, ◌^◌}
use native.Mathlib.Omega.{arith}
use lib.IntN.{ℤ, pos}
use lib.Signed.{mag}
use mir.Syntax.{w64}
use mir.Val.{to_z, of_z}
use Rattle.values.proofs.Machine.{back}
use lib.ListN.{length, get_or, drop, set, length-append}
use lib.Seq.{drop-cons, drop-length, set_at, get_or_at, set-set, set-get_or, append_snoc}
use Rattle.model.specs.Values.{within}
use Rattle.model.specs.Expressions.{Scope, Env}
use Rattle.model.specs.Rules.{Action}
use Rattle.model.specs.Network.{Proc, box, input, output, Net, Own, vars, State, proc, own, vars_of}
use Rattle.model.specs.Cycles.{new_var, new_vars}
use Rattle.model.proofs.Kept.{GoodOwn}
use Rattle.rules.specs.Bodies.{actions_from}
use Rattle.types.specs.Scopes.{scope_in}
use Rattle.typing.proofs.Patterns.{minus_zero}
use Rattle.typing.specs.Fits.{list_read, action_at}
use Rattle.evaluation.specs.Envs.{env_in}
use Rattle.table.specs.declared.Counts.{Counts}
use Rattle.places.specs.Standing.{net_in, Standing, state_of}
use Rattle.places.proofs.Standing.{state_good}
use Rattle.moves.specs.Moves.{Became, CanKeep, variable_type, with_own, after_keep}
use Rattle.moves.proofs.Laws.{became_none, became_more, own_same, procs_n}
use Rattle.actions.proofs.Acting.{Ready, First}
use Rattle.putting.specs.Putting.{new_from, Keeps, after_keeps}

-- the value that the code hands on is the one that the action leaves
pub kept_is : (en : Env) (a : Action) (v z : ℤ) → mag v ≤ 2 ^ 31 → mag z < 2 ^ 63 → z ≡ new_var en (to_z w64 (of_z w64 v)) a → to_z w64 (of_z w64 z) ≡ new_var en v a
kept_is en a v z l m e = back m ∙ e ∙ ap (λ (y : ℤ). new_var en y a) (back (omega arith))

pub keep_asks : {c : Counts} {n : Net} {st : State} {k j : ℕ} {z z' : ℤ} → z ≡ z' → CanKeep c n st k j z' → CanKeep c n st k j z
keep_asks {c = c} {n = n} {st = st} {k = k} {j = j} e x = subst (λ (y : ℤ). CanKeep c n st k j y) (sym e) x

pub keep_done : {s t p ts b b' : List ℕ} {c : Counts} (st : State) (k j : ℕ) {z z' : ℤ} → z ≡ z' → Became s t p ts b c b' (after_keep k j z st) → Became s t p ts b c b' (after_keep k j z' st)
keep_done {s = s} {t = t} {p = p} {ts = ts} {b = b} {b' = b'} {c = c} st k j e x = subst (λ (y : ℤ). Became s t p ts b c b' (after_keep k j y st)) e x

-- ── a variable among others ──────────────────────────────────────────────────────────────────

-- each of a process's own values is of its type
own_fits_lem : (n : Net) (p : Proc) (vs : List ℤ) (j : ℕ) → GoodOwn n p (vars vs) → j < length vs → within (variable_type p j) (get_or vs j (pos 0)) ≡ true
unfolding variable_type vars_of
own_fits_lem n (box b) vs j g l = g.each j (omega (arith, l, g.number))
own_fits_lem n (input w ts) vs j g l = absurd (omega (arith, l, ap (λ (o : Own). length (vars_of o)) g.is))
own_fits_lem n (output w room) vs j g l = absurd (omega (arith, l, ap (λ (o : Own). length (vars_of o)) g.is))

-- a process that keeps variables keeps nothing else
own_vars : (n : Net) (p : Proc) (o : Own) (vs : List ℤ) → GoodOwn n p (vars vs) → GoodOwn n p o → o ≡ vars (vars_of o)
own_vars n (box b) o vs g x = x.is
own_vars n (input w ts) o vs g x = let e = g.is in let z : ◌≡◌ {A = ℕ} 0 1 = cc in absurd (omega arith)
own_vars n (output w room) o vs g x = let e = g.is in let z : ◌≡◌ {A = ℕ} 0 1 = cc in absurd (omega arith)

drop_first : (vs : List ℤ) (j : ℕ) → j < length vs → drop j vs ≡ get_or vs j (pos 0) ∷ drop (j + 1) vs
drop_first vs j l = let q : suc j ≡ j + 1 = omega arith in drop-cons vs j (pos 0) l ∙ ap (λ (i : ℕ). get_or vs j (pos 0) ∷ drop i vs) q

module _ (k : ℕ) (st : State) (l : k < length st.owns) where
  own-after : (vs : List ℤ) → own (after_keeps k vs st) k ≡ vars vs
  unfolding after_keeps
  own-after vs = own_same st k (vars vs) l

  -- another value for the variable behind those done
  keep_after : (done left : List ℤ) (v z : ℤ) (j : ℕ) → length done ≡ j → after_keep k j z (after_keeps k (done ++ (v ∷ left)) st) ≡ after_keeps k (done ++ (z ∷ left)) st
  unfolding after_keep after_keeps with_own vars_of
  keep_after done left v z j e =
      let vs = done ++ (v ∷ left) in
      let us = done ++ (z ∷ left) in
      ap (λ (o : Own). record { queues = st.queues; owns = set (set st.owns k (vars vs)) k (vars (set (vars_of o) j z)) }) (own-after vs)
      ∙ ap (λ (ys : List ℤ). record { queues = st.queues; owns = set (set st.owns k (vars vs)) k (vars ys) }) (set_at done v left z j e)
      ∙ ap (λ (os : List Own). record { queues = st.queues; owns = os }) (set-set st.owns k (vars vs) (vars us))

-- ── one action after another ─────────────────────────────────────────────────────────────────

-- the first new value, then the others
pub new_first : (vals : List ℤ) (types : List ℕ) (sc : Scope) (old : List ℤ) (b : List ℕ) (j k at end : ℕ) → j < length old → get_or vals (4 + j) (pos 0) ≡ get_or old j (pos 0) → First sc true b k at end
    → new_from vals types (drop j old) b k at ≡ new_var (env_in vals types) (get_or vals (4 + j) (pos 0)) (action_at (drop at b)) ∷ new_from vals types (drop (j + 1) old) b (k - 1) end
unfolding new_from new_vars
new_first vals types sc old b j k at end l e f =
    let en = env_in vals types in
    ap (new_vars en (drop j old)) f.list
    ∙ ap (λ (vs : List ℤ). new_vars en vs (action_at (drop at b) ∷ list_read (actions_from true (k - 1) end b))) (drop_first old j l)
    ∙ ap (λ (v : ℤ). new_var en v (action_at (drop at b)) ∷ new_vars en (drop (j + 1) old) (list_read (actions_from true (k - 1) end b))) (sym e)

-- ── what is left to keep ─────────────────────────────────────────────────────────────────────

-- lent bytes b₀ became b: j variables of box k are new, the others as they were; with the new values for these, all are
pub record Keeping (s t p ts b₀ : List ℕ) (c : Counts) (k : ℕ) (new : List ℤ) (b : List ℕ) (j : ℕ) (left rest : List ℤ) : Type 0 where
  pub became : Became s t p ts b₀ c b (state_of s t c ts b)
  pub done : List ℤ
  pub many : length done ≡ j
  pub state : state_of s t c ts b ≡ after_keeps k (done ++ left) (state_of s t c ts b₀)
  pub leads : done ++ rest ≡ new

module _ (s t p ts b₀ : List ℕ) (c : Counts) (h : Standing s t p ts b₀ c) (k : ℕ) (i : k < c.boxes) where
  abbrev n : Net
  n = net_in s t c ts

  abbrev st : State
  st = state_of s t c ts b₀

  there : k < length st.owns
  there = omega (arith, i, procs_n s t p ts b₀ c h, (state_good s t p ts b₀ c h).owns)

  module _ (new : List ℤ) where
    pub keeping_first : own st k ≡ vars (vars_of (own st k)) → Keeping s t p ts b₀ c k new b₀ 0 (vars_of (own st k)) new
    keeping_first e = record {
      became = became_none s t p ts c b₀ h;
      done = [];
      many = refl;
      state = unfold after_keeps with_own own in ap (λ (os : List Own). record { queues = st.queues; owns = os }) (sym (ap (set st.owns k) (sym e) ∙ set-get_or st.owns k (vars [])));
      leads = refl;
    }

    module _ (b : List ℕ) (j : ℕ) where
      pub can_keep : (v z : ℤ) (left rest : List ℤ) → GoodOwn n (proc n k) (vars new) → Keeping s t p ts b₀ c k new b j (v ∷ left) (z ∷ rest) → CanKeep c n (state_of s t c ts b) k j z
      unfolding vars_of
      can_keep v z left rest g x =
          let e : own (state_of s t c ts b) k ≡ vars (x.done ++ (v ∷ left)) = ap (λ (y : State). own y k) x.state ∙ own-after k st there (x.done ++ (v ∷ left)) in
          let a = length-append x.done (v ∷ left) in
          let q : get_or new j (pos 0) ≡ z = sym (ap (λ (vs : List ℤ). get_or vs j (pos 0)) x.leads) ∙ get_or_at x.done z rest (pos 0) j x.many in
          let m : j < length new = omega (arith, ap length x.leads, length-append x.done (z ∷ rest), x.many) in
          record { known = i; there = omega (arith, ap (λ (o : Own). length (vars_of o)) e, a, x.many); fits = rw q at (own_fits_lem n (proc n k) new j g m) }

      pub keeping_next : (b' : List ℕ) (v z : ℤ) (left rest : List ℤ) → Keeping s t p ts b₀ c k new b j (v ∷ left) (z ∷ rest) → Became s t p ts b c b' (after_keep k j z (state_of s t c ts b)) → Keeping s t p ts b₀ c k new b' (j + 1) left rest
      keeping_next b' v z left rest x y = record {
        became = became_more s t p ts c b₀ b b' _ _ x.became (record { stands = y.stands; state = refl; long = y.long; rest = y.rest });
        done = x.done ++ (z ∷ []);
        many = omega (arith, length-append x.done (z ∷ []), x.many);
        state = y.state ∙ ap (after_keep k j z) x.state ∙ keep_after k st there x.done left v z j x.many ∙ ap (λ (vs : List ℤ). after_keeps k vs st) (sym (append_snoc x.done z left));
        leads = append_snoc x.done z rest ∙ x.leads;
      }

      pub keeping_last : Keeping s t p ts b₀ c k new b j [] [] → Became s t p ts b₀ c b (after_keeps k new st)
      keeping_last x = subst (λ (y : State). Became s t p ts b₀ c b y) (x.state ∙ ap (λ (vs : List ℤ). after_keeps k vs st) x.leads) x.became

-- ── the turns of the loop ────────────────────────────────────────────────────────────────────

-- before turn j, at an offset: the actions that are left can be worked out, and with their values all n variables are new
pub record KeptLeft (s t p ts b₀ : List ℕ) (c : Counts) (k : ℕ) (vals : List ℤ) (types : List ℕ) (old : List ℤ) (body : List ℕ) (n from : ℕ) (b : List ℕ) (at j : ℕ) : Type 0 where
  pub ready : Ready (scope_in types) true body (n - j) at
  pub left : Keeping s t p ts b₀ c k (new_from vals types old body n from) b j (drop j old) (new_from vals types (drop j old) body (n - j) at)

module _ (s t p ts b₀ : List ℕ) (c : Counts) (h : Standing s t p ts b₀ c) (k : ℕ) (i : k < c.boxes) (vals : List ℤ) (types body : List ℕ) (n from : ℕ) where
  abbrev old : List ℤ
  old = vars_of (own (state_of s t c ts b₀) k)

  abbrev new : List ℤ
  new = new_from vals types old body n from

  module _ (g : Keeps (net_in s t c ts) (proc (net_in s t c ts) k) vals old new) where
    pub kept_start : Ready (scope_in types) true body n from → KeptLeft s t p ts b₀ c k vals types old body n from b₀ from 0
    kept_start r =
        let z : k < length (net_in s t c ts).procs = omega (arith, i, procs_n s t p ts b₀ c h) in
        let e = own_vars (net_in s t c ts) (proc (net_in s t c ts) k) (own (state_of s t c ts b₀) k) new g.good ((state_good s t p ts b₀ c h).kept k z) in
        record {
          ready = subst (λ (m : ℕ). Ready (scope_in types) true body m from) (sym (minus_zero n)) r;
          left = subst (λ (m : ℕ). Keeping s t p ts b₀ c k new b₀ 0 old (new_from vals types old body m from)) (sym (minus_zero n)) (keeping_first s t p ts b₀ c h k i new e);
        }

    module _ (e : n ≡ length old) (b : List ℕ) (at j : ℕ) where
      module _ (end : ℕ) (l : j < n) (f : First (scope_in types) true body (n - j) at end) (x : KeptLeft s t p ts b₀ c k vals types old body n from b at j) where
        abbrev z : ℤ
        z = new_var (env_in vals types) (get_or vals (4 + j) (pos 0)) (action_at (drop at body))

        -- the variable of this turn, and those behind it
        parts : Keeping s t p ts b₀ c k new b j (get_or old j (pos 0) ∷ drop (j + 1) old) (z ∷ new_from vals types (drop (j + 1) old) body (n - j - 1) end)
        parts =
            let q = new_first vals types (scope_in types) old body j (n - j) at end (omega (arith, e, l)) (g.held j (omega (arith, e, l))) f in
            subst (λ (us : List ℤ). Keeping s t p ts b₀ c k new b j us (z ∷ new_from vals types (drop (j + 1) old) body (n - j - 1) end)) (drop_first old j (omega (arith, e, l)))
            (subst (λ (us : List ℤ). Keeping s t p ts b₀ c k new b j (drop j old) us) q x.left)

        pub kept_can : CanKeep c (net_in s t c ts) (state_of s t c ts b) k j z
        kept_can = can_keep s t p ts b₀ c h k i new b j _ z _ _ g.good parts

        pub kept_next : (b' : List ℕ) → Became s t p ts b c b' (after_keep k j z (state_of s t c ts b)) → KeptLeft s t p ts b₀ c k vals types old body n from b' end (j + 1)
        kept_next b' y =
            let q : n - j - 1 ≡ n - (j + 1) = omega arith in
            record { ready = rw q at f.rest; left = rw q at (keeping_next s t p ts b₀ c h k i new b j b' _ z _ _ parts y) }

      pub kept_last : n ≤ j → j ≤ n → KeptLeft s t p ts b₀ c k vals types old body n from b at j → Became s t p ts b₀ c b (after_keeps k new (state_of s t c ts b₀))
      unfolding new_from new_vars
      kept_last l m x =
          let a : j ≡ length old = omega (arith, e, l, m) in
          let q : drop j old ≡ [] = ap (λ (y : ℕ). drop y old) a ∙ drop-length old in
          keeping_last s t p ts b₀ c h k i new b j (subst (λ (us : List ℤ). Keeping s t p ts b₀ c k new b j us (new_from vals types us body (n - j) at)) q x.left)
