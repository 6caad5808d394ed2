-- The ways out of a cycle and of a pass of a run; passes one after another.
-- Assumes nothing.
use mathlib.Core.Path.{◌≡◌, refl, sym, ap, ap₂, ◌∙◌, subst}
use mathlib.Core.Logic.{◌≢◌}
use mathlib.Core.Bool.{Bool, true, false, cond}
use mathlib.Core.List.{List, ◌++◌}
use Prim.Native.Nat.{ℕ, zero, suc, ◌+◌, ◌-◌, ◌≤◌, ◌<◌}
use native.Mathlib.Omega.{arith}
use native.Mathlib.Nat.{sub-zero, zero-add}
use lib.ListN.{length, drop}
use Rattle.model.specs.declared.Ending.{Ending}
use Rattle.model.specs.declared.Ending.TheVariants as ending
use Rattle.std.specs.Prelude.{Option, Some, None, Result, Ok, Err}
use Rattle.model.specs.declared.Refusal.{Refusal}
use Rattle.model.specs.declared.Fault.{Fault}
use Rattle.model.specs.declared.Reason.TheVariants as reason
use Rattle.model.specs.declared.Turn.TheVariants as turn
use Rattle.model.specs.declared.Ran as answer
use Rattle.model.specs.Reasons.{reason_number}
use Rattle.model.specs.Network.{Net, State}
use Rattle.model.specs.States.{bytes_of, state_size}
use Rattle.model.specs.Cycles.{Mark, marked, keep_if, marked_from, marked_of, marked_set, up_from, processes, has, is_order, Finding, broken, still, moving, finding, cycle_in, Ended, run, stop, later, halt, proceed}
use Rattle.model.specs.Cycles as cycles
use Rattle.model.specs.Calls.{After, said_cycle, refusal, refused, keeps, leaves, done, cycle_of, marks_of}
use Rattle.model.specs.Orders.{Order}
use Rattle.model.proofs.AnyOrder.{own_order, checked_order}
use Rattle.table.specs.declared.Counts.{Counts}
use Rattle.places.specs.Standing.{net_in, Standing, state_of}
use Rattle.places.proofs.Standing.{whole}
use Rattle.moves.specs.Moves.{Became}
use Rattle.moves.proofs.Laws.{became_none, became_more}
use Rattle.marking.specs.Noted.{marking_of}
use Rattle.marking.proofs.Processes.{all_procs}
use Rattle.taking.specs.Taking.{fired}
use Rattle.firing.specs.Firing.{Chosen}
use Rattle.cycling.specs.Cycling.{rule_for, Told, cycle_as, pass_of, after_pass, ended_as}
use Rattle.cycling.proofs.Midway.{Left, left_first, left_last, left_asks, left_next}
use Rattle.cycling.proofs.Marked.{marked_here, has-marked, broken_known, at_rest, at_work, Blamed, not_told}

-- ── bytes that became a state ────────────────────────────────────────────────────────────────

pub became_bytes : (s t p ts b : List ℕ) (c : Counts) (b' : List ℕ) (s' : State) → Became s t p ts b c b' s'
    → b' ≡ bytes_of (net_in s t c ts) s' ++ drop (state_size (net_in s t c ts)) b
became_bytes s t p ts b c b' s' x =
    let n = net_in s t c ts in
    whole s t p ts b' c x.stands ∙ ap (λ (y : State). bytes_of n y ++ drop (state_size n) b') x.state ∙ ap (λ (l : List ℕ). bytes_of n s' ++ l) x.rest

module _ (s t p ts b : List ℕ) (c : Counts) (h : Standing s t p ts b c) where
  abbrev n : Net
  n = net_in s t c ts

  abbrev st : State
  st = state_of s t c ts b

  -- ── the run's own order ──

  module _ (set : ℕ) (rules : List ℕ) (q : Told n st set rules) where
    abbrev m : ℕ → Mark
    m = cycles.mark n st

    abbrev all : ℕ
    all = c.boxes + c.inputs + c.outputs

    -- the marked ones from k on are still to fire on the bytes b'
    abbrev pub From : ℕ → List ℕ → Type 0
    From k b' = Left s t p ts b c h rules q.noted (marked_from m (up_from k (all - k))) (cycle_in n (marked_of n st) st) b'

    pub from_first : From 0 b
    unfolding marked_of processes
    from_first =
        let e : length n.procs ≡ all - 0 = omega (arith, all_procs s t ts c h.tabled) in
        subst (λ (j : ℕ). Left s t p ts b c h rules q.noted (marked_from m (up_from 0 j)) (cycle_in n (marked_of n st) st) b) e
        (left_first s t p ts b c h rules q.noted (marked_of n st) (own_order n st q.calm))

    pub from_last : (k : ℕ) (b' : List ℕ) → all ≤ k → From k b' → Became s t p ts b c b' (cycle_in n (marked_of n st) st)
    unfolding marked_from up_from
    from_last k b' l x =
        let e : all - k ≡ 0 = omega arith in
        left_last s t p ts b c h rules q.noted (cycle_in n (marked_of n st) st) b'
        (subst (λ (j : ℕ). Left s t p ts b c h rules q.noted (marked_from m (up_from k j)) (cycle_in n (marked_of n st) st) b') e x)

    module _ (k : ℕ) (b' : List ℕ) (l : k < all) (x : From k b') where
      abbrev now : State
      now = state_of s t c ts b'

      abbrev Here : Bool → Type 0
      Here u = Left s t p ts b c h rules q.noted (keep_if u k (marked_from m (up_from (k + 1) (all - (k + 1))))) (cycle_in n (marked_of n st) st) b'

      is_marked : has set k ≡ marked (m k)
      is_marked = ap (λ (j : ℕ). has j k) q.marks ∙ has-marked n st k (omega (arith, l, all_procs s t ts c h.tabled))

      here : Here (has set k)
      here = rw is_marked (subst (λ (ks : List ℕ). Left s t p ts b c h rules q.noted ks (cycle_in n (marked_of n st) st) b') (marked_here m k all l) x)

      pub from_asks : has set k ≡ true → Chosen c n now k (rule_for rules c.boxes k)
      unfolding keep_if
      from_asks e = let y : Here true = subst Here e here in left_asks s t p ts b c h rules q.noted k _ _ b' y

      pub from_next : (b'' : List ℕ) → Became s t p ts b' c b'' (cond (has set k) (fired n k (rule_for rules c.boxes k) now) now) → From (k + 1) b''
      unfolding keep_if
      from_next b'' y = go (has set k) here y
        where
          go : (u : Bool) → Here u → Became s t p ts b' c b'' (cond u (fired n k (rule_for rules c.boxes k) now) now) → From (k + 1) b''
          go true z w = left_next s t p ts b c h rules q.noted k _ _ b' z b'' w
          go false z w = record {
            became = subst (Became s t p ts b c b'') (sym w.state) (became_more s t p ts c b b' b'' now now z.became w);
            midway = rw w.state z.midway;
          }

  -- ── a cycle ──

  module _ (set : ℕ) (rules order : List ℕ) (q : Told n st set rules) where
    pub order_bad : is_order set order ≡ false → cycle_as (Err (record { reason = reason.Order; place = 0 })) b ≡ cycle_of b order n st (finding n st)
    unfolding cycle_as said_cycle refusal reason_number cycle_of keeps
    order_bad e = go (finding n st) refl
      where
        f : is_order (marked_set n st) order ≡ false
        f = ap (λ (x : ℕ). is_order x order) (sym q.marks) ∙ e

        go : (y : Finding) → finding n st ≡ y → record { answer = refused 8 0 0; bytes = b } ≡ cycle_of b order n st y
        go (broken k x) g = absurd (q.calm k x g)
        go still g = rw f refl
        go moving g = rw f refl

    module _ (e : is_order set order ≡ true) where
      f : is_order (marked_set n st) order ≡ true
      f = ap (λ (x : ℕ). is_order x order) (sym q.marks) ∙ e

      pub in_order : Order n st order
      in_order = checked_order n st order q.calm f

      pub cycle-idle : set ≡ 0 → cycle_as (Ok turn.Idle) b ≡ cycle_of b order n st (finding n st)
      unfolding cycle_as said_cycle cycle_of keeps
      cycle-idle z = rw (at_rest n st q.calm (sym q.marks ∙ z), f) refl

      pub cycle_done : set ≢ 0 → (b' : List ℕ) → Became s t p ts b c b' (cycle_in n order st) → cycle_as (Ok turn.Done) b' ≡ cycle_of b order n st (finding n st)
      unfolding cycle_as said_cycle cycle_of leaves
      cycle_done z b' x = rw (at_work n st q.calm (λ y. z (q.marks ∙ y)), f) (ap (λ (l : List ℕ). record { answer = done 1; bytes = l }) (became_bytes s t p ts b c b' (cycle_in n order st) x))

  pub cycle-broken : (r : Result ℕ Refusal) (x : Refusal) (order rules : List ℕ) → r ≡ Err x → marking_of r rules ≡ marks_of n st (finding n st) → cycle_as (Err x) b ≡ cycle_of b order n st (finding n st)
  unfolding cycle_as said_cycle refusal reason_number cycle_of keeps
  cycle-broken r x order rules q e =
      let y = not_told n st r x rules q e in
      let refuses : ℕ → After = λ j. record { answer = refused j x.place 0; bytes = b } in
      ap refuses (ap reason_number y.reason) ∙ sym (ap (cycle_of b order n st) y.found)

  -- ── a pass ──

  -- what a pass answers and leaves
  abbrev Passed : ℕ → Option Ending → List ℕ → Type 0
  Passed left r b' = (r ≡ pass_of (finding n st) left) × Became s t p ts b c b' (after_pass (finding n st) left n st)

  module _ (r : Result ℕ Refusal) (x : Refusal) (rules : List ℕ) (q : r ≡ Err x) (e : marking_of r rules ≡ marks_of n st (finding n st)) where
    pub blamed : Blamed n st x
    blamed = not_told n st r x rules q e

    pub pass_broken : (f : Fault) (left : ℕ) → x.reason ≡ reason.Fault f → Passed left (Some (ending.Fault f x.place)) b
    unfolding pass_of after_pass
    pass_broken f left g = let y : f ≡ blamed.fault = (let h : reason.Fault f ≡ reason.Fault blamed.fault = sym g ∙ blamed.reason in cc) in rw (y, blamed.found) (refl, became_none s t p ts c b h)

    pub broken_small : x.place < c.boxes + c.inputs + c.outputs
    broken_small = omega (arith, all_procs s t ts c h.tabled, broken_known n st x.place blamed.fault blamed.found)

  module _ (set : ℕ) (rules : List ℕ) (q : Told n st set rules) (left : ℕ) where
    pub pass_idle : set ≡ 0 → Passed left (Some ending.Idle) b
    unfolding pass_of after_pass
    pass_idle z = rw (at_rest n st q.calm (sym q.marks ∙ z)) (refl, became_none s t p ts c b h)

    pub pass_spent : set ≢ 0 → left ≡ 0 → Passed left (Some ending.Spent) b
    unfolding pass_of after_pass
    pass_spent z e = rw (at_work n st q.calm (λ y. z (q.marks ∙ y)), e) (refl, became_none s t p ts c b h)

    pub pass_go : set ≢ 0 → left ≢ 0 → (b' : List ℕ) → Became s t p ts b c b' (cycle_in n (marked_of n st) st) → Passed left None b'
    unfolding pass_of after_pass
    pass_go z e b' x = rw (at_work n st q.calm (λ y. z (q.marks ∙ y))) (go left e)
      where
        go : (l : ℕ) → l ≢ 0 → (None ≡ pass_of moving l) × Became s t p ts b c b' (after_pass moving l n st)
        go zero f = absurd (f refl)
        go (suc l) f = (refl, x)

-- ── passes one after another ─────────────────────────────────────────────────────────────────

module _ (n : Net) (s : State) where
  pub run_stops : (left : ℕ) (e : Ending) → Some e ≡ pass_of (finding n s) left → (run n left s ≡ stop e s) × (after_pass (finding n s) left n s ≡ s)
  unfolding run halt proceed pass_of after_pass
  run_stops zero e q = go (finding n s) q
    where
      go : (f : Finding) → Some e ≡ pass_of f 0 → (halt f s ≡ stop e s) × (after_pass f 0 n s ≡ s)
      go (broken k x) g = let z : e ≡ ending.Fault x k = cc in (ap (λ (y : Ending). stop y s) (sym z), refl)
      go still g = let z : e ≡ ending.Idle = cc in (ap (λ (y : Ending). stop y s) (sym z), refl)
      go moving g = let z : e ≡ ending.Spent = cc in (ap (λ (y : Ending). stop y s) (sym z), refl)
  run_stops (suc left) e q = go (finding n s) q
    where
      go : (f : Finding) → Some e ≡ pass_of f (suc left) → (proceed f s (run n left (cycle_in n (marked_of n s) s)) ≡ stop e s) × (after_pass f (suc left) n s ≡ s)
      go (broken k x) g = let z : e ≡ ending.Fault x k = cc in (ap (λ (y : Ending). stop y s) (sym z), refl)
      go still g = let z : e ≡ ending.Idle = cc in (ap (λ (y : Ending). stop y s) (sym z), refl)
      go moving g = let z : ◌≡◌ {A = ℕ} 0 1 = cc in absurd (omega arith)

  pub run_goes : (left : ℕ) → None ≡ pass_of (finding n s) left → (l : ℕ) × (left ≡ suc l) × (run n left s ≡ later (run n l (after_pass (finding n s) left n s)))
  unfolding run proceed pass_of after_pass
  run_goes zero q = go (finding n s) q
    where
      go : {A : Type 0} (f : Finding) → None ≡ pass_of f 0 → A
      go (broken k x) g = let z : ◌≡◌ {A = ℕ} 0 1 = cc in absurd (omega arith)
      go still g = let z : ◌≡◌ {A = ℕ} 0 1 = cc in absurd (omega arith)
      go moving g = let z : ◌≡◌ {A = ℕ} 0 1 = cc in absurd (omega arith)
  run_goes (suc left) q = go (finding n s) q
    where
      go : (f : Finding) → None ≡ pass_of f (suc left) → (l : ℕ) × (suc left ≡ suc l) × (proceed f s (run n left (cycle_in n (marked_of n s) s)) ≡ later (run n l (after_pass f (suc left) n s)))
      go (broken k x) g = let z : ◌≡◌ {A = ℕ} 0 1 = cc in absurd (omega arith)
      go still g = let z : ◌≡◌ {A = ℕ} 0 1 = cc in absurd (omega arith)
      go moving g = (left, refl, refl)

-- the whole run from s₀, after so many cycles: it ends as the rest of it does
pub record Ongoing (n : Net) (budget : ℕ) (s₀ : State) (cycles : ℕ) (s : State) : Type 0 where
  pub within : cycles ≤ budget
  pub ending : (run n budget s₀).ending ≡ (run n (budget - cycles) s).ending
  pub count : (run n budget s₀).cycles ≡ cycles + (run n (budget - cycles) s).cycles
  pub state : (run n budget s₀).state ≡ (run n (budget - cycles) s).state

pub ongoing_first : (n : Net) (budget : ℕ) (s : State) → Ongoing n budget s 0 s
ongoing_first n budget s =
    let e : run n (budget - 0) s ≡ run n budget s = ap (λ (b : ℕ). run n b s) (sub-zero budget) in
    record { within = omega arith; ending = ap (λ (r : Ended). r.ending) (sym e); count = sym (zero-add _ ∙ ap (λ (r : Ended). r.cycles) e); state = ap (λ (r : Ended). r.state) (sym e) }

module _ (s t p ts b₀ : List ℕ) (c : Counts) (budget : ℕ) where
  abbrev net : Net
  net = net_in s t c ts

  abbrev start : State
  start = state_of s t c ts b₀

  -- so many cycles are done on the bytes
  pub record Ran (cycles : ℕ) (b : List ℕ) : Type 0 where
    pub became : Became s t p ts b₀ c b (state_of s t c ts b)
    pub ongoing : Ongoing net budget start cycles (state_of s t c ts b)

  pub ran_first : Standing s t p ts b₀ c → Ran 0 b₀
  ran_first h = record { became = became_none s t p ts c b₀ h; ongoing = ongoing_first net budget start }

  module _ (cycles : ℕ) (b : List ℕ) (x : Ran cycles b) (left : ℕ) (l : left ≡ budget - cycles) where
    abbrev reached : State
    reached = state_of s t c ts b

    pub ran_stops : (e : Ending) (b' : List ℕ) → Passed s t p ts b c x.became.stands left (Some e) b' → (◌≡◌ {A = answer.Ran} (record { ending = e; cycles = cycles }) (ended_as (run net budget start))) × Became s t p ts b₀ c b' (run net budget start).state
    unfolding ended_as stop
    ran_stops e b' y =
        let z = run_stops net reached left e y.0 in
        let f : run net (budget - cycles) reached ≡ stop e reached = ap (λ (j : ℕ). run net j reached) (sym l) ∙ z.0 in
        let g = x.ongoing in
        let ee : (run net budget start).ending ≡ e = g.ending ∙ ap (λ (r : Ended). r.ending) f in
        let cc' : (run net budget start).cycles ≡ cycles + 0 = g.count ∙ ap (λ (r : Ended). cycles + r.cycles) f in
        let ss : (run net budget start).state ≡ reached = g.state ∙ ap (λ (r : Ended). r.state) f in
        (ap₂ (λ (y : Ending) (j : ℕ). record { ending = y; cycles = j }) (sym ee) (omega (arith, cc')), subst (Became s t p ts b₀ c b') (z.1 ∙ sym ss) (became_more s t p ts c b₀ b b' reached (after_pass (finding net reached) left net reached) x.became y.1))

    pub ran_goes : (b' : List ℕ) → Passed s t p ts b c x.became.stands left None b' → (cycles < budget) × Ran (cycles + 1) b'
    unfolding later
    ran_goes b' y =
        let z = run_goes net reached left y.0 in
        let next = after_pass (finding net reached) left net reached in
        let i : cycles < budget = omega (arith, z.1, l) in
        let k : z.0 ≡ budget - (cycles + 1) = omega (arith, z.1, l) in
        let f : run net (budget - cycles) reached ≡ later (run net (budget - (cycles + 1)) next) = ap (λ (j : ℕ). run net j reached) (sym l) ∙ z.2 ∙ ap (λ (j : ℕ). later (run net j next)) k in
        let g = x.ongoing in (
          i,
          record {
            became = subst (Became s t p ts b₀ c b') (sym y.1.state) (became_more s t p ts c b₀ b b' reached next x.became y.1);
            ongoing = rw y.1.state (record {
              within = omega (arith, i);
              ending = g.ending ∙ ap (λ (r : Ended). r.ending) f;
              count = g.count ∙ ap (λ (r : Ended). cycles + r.cycles) f ∙ omega arith;
              state = g.state ∙ ap (λ (r : Ended). r.state) f;
            });
          },
        )
