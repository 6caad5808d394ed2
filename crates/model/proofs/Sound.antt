-- Demand 3: a marked process is ready; any order ends a cycle in the same state, and each single firing keeps the network sound.
-- Assumes nothing.
use mathlib.Core.Path.{◌≡◌, refl, ◌∙◌, subst, sym, ap}
use mathlib.Core.Logic.{◌≢◌}
use mathlib.Core.Bool.{Bool, true, false, not, ◌&&◌}
use Rattle.std.specs.Prelude.{Option, Some, None, Ok, Err}
use mathlib.Core.List.{List, [], ◌∷◌, map, ◌++◌, append-nil, append_assoc}
use Prim.Native.Nat.{ℕ, zero, suc, ◌+◌, ◌≤◌, ◌<◌}
use native.Mathlib.Omega.{arith}
use lib.Dec.{eqb, ltb}
use lib.ListN.{length, get_or, drop, length-map, get_or-map, drop_of_length-le}
use borrow.Author.Tests.{leb-false, eq-eqb, ne_eqb}
use Rattle.model.specs.declared.Token.{Token}
use Rattle.model.specs.Values.{Outcome}
use Rattle.model.specs.Expressions.{Env, value_of}
use Rattle.model.specs.Rules.{Rule, Pattern, Action, nothing, bare, send}
use Rattle.model.specs.Network.{Proc, box, input, output, Box, Net, State, Own, queue, own, proc, capacity, rule, vars_of, taken_of, got_of, ins_of, outs_of, no_token, no_wire, loaded, no_tokens}
use Rattle.model.specs.NetworkFile.{count}
use Rattle.model.specs.Cycles.{Mark, quiet, fires, faulty, up_from, moves, look, seen, reads, matches, writes, oldest, empty, full, ready_in, ready_ins, ready_outs, ready_vars, ready_rule, result, deed, deed_of, env_of, rule_of, reads_of, sent_of, faultless, actions_of, chosen, attempt, guarded, try_rule, or_else, first, tried, flag, mark_of, mark, Deed, fire, fire_all, cycle_in, marked, keep_if, marked_from, marked_of, processes}
use Rattle.model.specs.Orders.{on_wire, joined, deeds, put_on, taken_from, Order, Reached, at_load, cycled, Sound, midway, Firing, AnyOrder}
use Rattle.model.specs.States.{bytes_of}
use Rattle.model.proofs.Tests.{and_left, and_right, and₂, and₃, not-true, same_or, cases}
use Rattle.model.proofs.Order.{OneEach, Ready, hit_same, hit_other, length_joined, moved_one, Due, due_first, due_other, due_next, any_order, deed_frame, queue-fire, length-fire, length-act}

-- ── the patterns and actions of a ready rule ─────────────────────────────────────────────────

pub nonempty : (q : List Token) → not (empty q) ≡ true → 1 ≤ length q
unfolding empty
nonempty [] e = let z : ◌≡◌ {A = ℕ} 0 1 = cc in absurd (omega arith)
nonempty (t ∷ q) e = omega arith

not_full : (n : Net) (s : State) (w : ℕ) → full n s w ≡ false → length (queue s w) < capacity n w
not_full n s w e = unfold full in leb-false (capacity n w) (length (queue s w)) e

no_move : {A : Type 0} (w : ℕ) → 1 ≤ length (on_wire w []) → A
no_move w h = unfold on_wire in absurd (omega arith)

-- a move on wire w comes from the first port or from a later one
from_port : (P : ℕ → Type 0) (v w : ℕ) (ws : List ℕ) (x : Option Token) (ts : List (Option Token)) → (x ≢ None → P v)
    → (1 ≤ length (on_wire w (moves ws ts)) → P w) → 1 ≤ length (on_wire w (moves (v ∷ ws) (x ∷ ts))) → P w
unfolding moves on_wire
from_port P v w ws None ts f g h = g h
from_port P v w ws (Some t) ts f g h =
    same_or v w (λ e. subst P e (f (λ q. (let z : ◌≡◌ {A = ℕ} 0 1 = cc in omega arith)))) (λ ne. g (omega (arith, h, length_joined (eqb v w) t (on_wire w (moves ws ts)), hit_other v w ne)))

result-writes : (en : Env) (a : Action) → result en a ≢ None → writes a ≡ true
unfolding result writes
result-writes en nothing h = absurd (h refl)
result-writes en (bare t) h = refl
result-writes en (send t e) h = refl

read_nonempty : (p : Pattern) (q : List Token) → ready_in p q ≡ true → seen (reads p) q ≢ None → 1 ≤ length q
read_nonempty p q e h = unfold ready_in seen in
    cases (reads p) (λ c. nonempty q (and_left (not (empty q)) (matches p (oldest q)) (rw c at e))) (λ c. absurd (h (rw c)))

ins_ready : (s : State) (ws : List ℕ) (ps : List Pattern) (w : ℕ) → ready_ins s ws ps ≡ true → 1 ≤ length (on_wire w (moves ws (look s ws (map reads ps)))) → 1 ≤ length (queue s w)
unfolding look ready_ins
ins_ready s [] ps w e = unfold moves in no_move w
ins_ready s (v ∷ ws) [] w e = unfold moves in no_move w
ins_ready s (v ∷ ws) (p ∷ ps) w e =
    let a = and₂ (ready_in p (queue s v)) (ready_ins s ws ps) e in
    from_port (λ (u : ℕ). 1 ≤ length (queue s u)) v w ws _ _ (read_nonempty p (queue s v) a.0) (ins_ready s ws ps w a.1)

outs_ready : (n : Net) (s : State) (en : Env) (ws : List ℕ) (acts : List Action) (w : ℕ) → ready_outs n s ws acts ≡ true
    → 1 ≤ length (on_wire w (moves ws (map (result en) acts))) → length (queue s w) < capacity n w
unfolding ready_outs
outs_ready n s en [] acts w e = unfold moves in no_move w
outs_ready n s en (v ∷ ws) [] w e = unfold moves in no_move w
outs_ready n s en (v ∷ ws) (a ∷ acts) w e =
    let b = and₂ (not (writes a && full n s v)) (ready_outs n s ws acts) e in
    from_port (λ (u : ℕ). length (queue s u) < capacity n u) v w ws _ _ (λ x. not_full n s v (not-true (full n s v) (rw (result-writes en a x) at b.0))) (outs_ready n s en ws acts w b.1)

-- ── the chosen rule is ready ─────────────────────────────────────────────────────────────────

attempt_fires : (b : Bool) (m : Mark) (r : ℕ) → attempt b m ≡ fires r → (b ≡ true) × (m ≡ fires r)
unfolding attempt
attempt_fires true m r e = (refl, e)
attempt_fires false m r e = let z : ◌≡◌ {A = ℕ} 0 1 = cc in absurd (omega arith)

faultless_fires : (o : Outcome) (m : Mark) (r : ℕ) → faultless o m ≡ fires r → m ≡ fires r
unfolding faultless
faultless_fires (Ok v) m r e = e
faultless_fires (Err x) m r e = let z : ◌≡◌ {A = ℕ} 0 1 = cc in absurd (omega arith)

actions_fire : (en : Env) (as' : List Action) (m : Mark) (r : ℕ) → actions_of en as' m ≡ fires r → m ≡ fires r
unfolding actions_of
actions_fire en [] m r e = e
actions_fire en (nothing ∷ as') m r e = actions_fire en as' m r e
actions_fire en (bare t ∷ as') m r e = actions_fire en as' m r e
actions_fire en (send t x ∷ as') m r e = actions_fire en as' m r (faultless_fires (value_of en x) (actions_of en as' m) r e)

guarded_fires : (en : Env) (u : Rule) (k : ℕ) (o : Outcome) (r : ℕ) → guarded en u k o ≡ fires r → k ≡ r
unfolding guarded chosen
guarded_fires en u k (Ok v) r e =
    let h : fires k ≡ fires r = actions_fire en u.sets (fires k) r (actions_fire en u.outs _ r (attempt_fires _ (chosen en u k) r e).1) in
    cc
guarded_fires en u k (Err x) r e = let z : ◌≡◌ {A = ℕ} 0 1 = cc in absurd (omega arith)

or_else_fires : {A : Type 0} (x y : Mark) (r : ℕ) → or_else x y ≡ fires r → (x ≡ fires r → A) → (y ≡ fires r → A) → A
unfolding or_else
or_else_fires quiet y r e f g = g e
or_else_fires (fires x) y r e f g = f e
or_else_fires (faulty x) y r e f g = let z : ◌≡◌ {A = ℕ} 0 1 = cc in absurd (omega arith)

-- one of those tried fires, in whatever order they are
first_in : (f : ℕ → Mark) (ks : List ℕ) (r : ℕ) → first f ks ≡ fires r → (k : ℕ) × (1 ≤ count k ks) × (f k ≡ fires r)
unfolding first count
first_in f [] r e = let z : ◌≡◌ {A = ℕ} 0 1 = cc in absurd (omega arith)
first_in f (k ∷ ks) r e =
    or_else_fires (f k) (first f ks) r e (λ q. (k, omega (arith, hit_same k k refl), q)) (λ q. (let i = first_in f ks r q in (i.0, omega (arith, i.1), i.2)))

pub up_from_in : (i c j : ℕ) → 1 ≤ count j (up_from i c) → j < i + c
unfolding up_from count
up_from_in i zero j h = absurd (omega arith)
up_from_in i (suc c) j h = same_or i j (λ e. omega (arith, e)) (λ f. omega (arith, up_from_in (suc i) c j (omega (arith, h, hit_other i j f))))

-- a marked box has a rule of that number: the one that was tried, which is ready
pub rule_chosen : (n : Net) (s : State) (b : Box) (o : Own) (r : ℕ) → mark_of n s (box b) o ≡ fires r → (r < length b.rules) × (ready_rule n s b (rule b r) (vars_of o) ≡ true)
rule_chosen n s b o r e = unfold mark_of tried try_rule in
    let f = first_in (try_rule n s b (vars_of o)) (up_from 0 (length b.rules)) r e in
    let u = rule b f.0 in
    let en = env_of n b u (look s b.ins (map reads u.ins)) (vars_of o) in
    let h = attempt_fires (ready_rule n s b u (vars_of o)) (guarded en u f.0 (value_of en u.guard)) r f.2 in
    let q = guarded_fires en u f.0 (value_of en u.guard) r h.1 in
    (omega (arith, q, up_from_in 0 (length b.rules) f.0 f.1), rw q at h.0)

pub flag_fires : (b : Bool) (r : ℕ) → flag b ≡ fires r → b ≡ true
unfolding flag
flag_fires true r e = refl
flag_fires false r e = let z : ◌≡◌ {A = ℕ} 0 1 = cc in absurd (omega arith)

-- ── a marked process is ready ────────────────────────────────────────────────────────────────

mark_ready : (n : Net) (s : State) (p : Proc) (r : ℕ) (o : Own) → mark_of n s p o ≡ fires r
    → ((w : ℕ) → 1 ≤ length (on_wire w (moves (ins_of p) (look s (ins_of p) (reads_of p r)))) → 1 ≤ length (queue s w))
    × ((sees : List (Option Token)) (w : ℕ) → 1 ≤ length (on_wire w (moves (outs_of p) (sent_of n p r sees o))) → length (queue s w) < capacity n w)
unfolding ins_of outs_of reads_of sent_of moves look
mark_ready n s (box b) r o e =
    let u = rule b r in
    let y = and₃ (ready_ins s b.ins u.ins) (ready_vars (vars_of o) u.vars) (ready_outs n s b.outs u.outs) (unfold ready_rule in (rule_chosen n s b o r e).1) in
    (λ w. ins_ready s b.ins u.ins w y.0, λ sees w. outs_ready n s (env_of n b u sees (vars_of o)) b.outs u.outs w y.2)
mark_ready n s (input v ts) r o e =
    let f = not-true (full n s v) (and_right (ltb (taken_of o) (length ts)) (not (full n s v)) (flag_fires _ r (unfold mark_of in e))) in
    (λ w. no_move w, λ sees w. from_port (λ (u : ℕ). length (queue s u) < capacity n u) v w [] (Some (get_or ts (taken_of o) no_token)) [] (λ x. not_full n s v f) (no_move w))
mark_ready n s (output v c) r o e =
    let f = nonempty (queue s v) (and_left (not (empty (queue s v))) (ltb (length (got_of o)) c) (flag_fires _ r (unfold mark_of in e))) in
    (λ w. from_port (λ (u : ℕ). 1 ≤ length (queue s u)) v w [] (seen true (queue s v)) [] (λ x. f) (no_move w), λ sees w. no_move w)

short : (a b c : ℕ) → a ≤ 1 → (1 ≤ a → b < c) → b ≤ c → b + a ≤ c
short zero b c h g l = omega arith
short (suc a) b c h g l = omega (arith, g (omega arith))

pub marked_ready : (n : Net) (one : OneEach n) (s : State) → length s.queues ≡ length n.wires → ((w : ℕ) → length (queue s w) ≤ capacity n w)
    → (m : ℕ → Mark) (k r : ℕ) → m k ≡ fires r → mark n s k ≡ fires r → Ready n m k s
marked_ready n one s sh fit m k r q e = unfold mark deed deed_of rule_of in
    let h = mark_ready n s (proc n k) r (own s k) e in
    record {
      shape = sh;
      has = λ w. omega (arith, short (length (on_wire w (deed n m k s).took)) 0 (length (queue s w)) (moved_one n m one k s w).0 (λ g. h.0 w (rw q at g)) (omega arith));
      room = λ w. short _ (length (queue s w)) (capacity n w) (moved_one n m one k s w).1 (λ g. h.1 _ w (rw q at g)) (fit w);
    }

-- ── what is taken is the oldest ──────────────────────────────────────────────────────────────

front : (q : List Token) → 1 ≤ length q → oldest q ∷ drop 1 q ≡ q
unfolding oldest
front [] h = absurd (omega arith)
front (t ∷ q) h = refl

took_front : (s : State) (ws : List ℕ) (ps : List Bool) (w : ℕ)
    → let t = on_wire w (moves ws (look s ws ps)) in length t ≤ 1 → length t ≤ length (queue s w) → t ++ drop (length t) (queue s w) ≡ queue s w
unfolding look seen moves on_wire joined
took_front s [] ps w h g = refl
took_front s (v ∷ ws) [] w h g = refl
took_front s (v ∷ ws) (false ∷ ps) w h g = took_front s ws ps w h g
took_front s (v ∷ ws) (true ∷ ps) w h g =
    let t = on_wire w (moves ws (look s ws ps)) in
    let l = length_joined (eqb v w) (oldest (queue s v)) t in
    same_or v w (λ e. rw (e, eq-eqb w w refl, drop_of_length-le t {i = 0} (omega (arith, h, l, hit_same v w e))) (front (queue s w) (omega (arith, g, l, hit_same v w e))))
    (λ f. rw (ne_eqb v w f) (took_front s ws ps w (omega (arith, h, l)) (omega (arith, g, l))))

-- ── one firing keeps the network sound ───────────────────────────────────────────────────────

-- what deeds put, or took, with one deed more
module _ (f : List Deed → List Token) (g : Deed → List Token) (none' : f [] ≡ []) (more : (d : Deed) (ds : List Deed) → f (d ∷ ds) ≡ g d ++ f ds) where
  snoc : (ds : List Deed) (d : Deed) → f (ds ++ (d ∷ [])) ≡ f ds ++ g d
  snoc [] d = more d [] ∙ rw none' (append-nil (g d))
  snoc (e ∷ ds) d = more e (ds ++ (d ∷ [])) ∙ rw (snoc ds d, more e ds) (sym (append_assoc (g e) (f ds) (g d)))

module _ (n : Net) (m : ℕ → Mark) (one : OneEach n) where
  pub sound_next : (k : ℕ) (s : State) (ds : List Deed) → Ready n m k s → Sound n s ds → Sound n (fire n m k s) (ds ++ (deed n m k s ∷ []))
  sound_next k s ds r q = unfold put_on taken_from deed deed_of in
      let d = deed n m k s in
      record {
        shape = unfold fire in length-act k d s ∙ q.shape;
        fits = λ w. omega (arith, length-fire n m one k s r w, r.room w);
        fifo = λ w. rw (snoc (put_on w) (λ e. on_wire w e.put) refl (λ e es. refl) ds d, snoc (taken_from w) (λ e. on_wire w e.took) refl (λ e es. refl) ds d, queue-fire n m one k s r w)
            (ap (λ (l : List Token). l ++ on_wire w d.put) (q.fifo w ∙ ap (λ (l : List Token). taken_from w ds ++ l) (sym
            -- the queue before is what was taken and what is left
            (took_front s (ins_of (proc n k)) (reads_of (proc n k) (rule_of (m k))) w (moved_one n m one k s w).0 (r.has w)))) ∙ simp append_assoc);
      }

  -- the first firings of an order: what each keeps holds after them, and what is true of the deeds of the others, which are due then
  module _ (D : ℕ → Deed → Type 0) (P : State → List Deed → Type 0)
      (keep : (k : ℕ) (s : State) (ds : List Deed) → Ready n m k s → D k (deed n m k s) → P s ds → P (fire n m k s) (ds ++ (deed n m k s ∷ []))) where
    pub part : (done rest : List ℕ) (s : State) (ds : List Deed) → Due n m one (done ++ rest) s → ((k : ℕ) → 1 ≤ count k (done ++ rest) → D k (deed n m k s)) → P s ds
        → P (fire_all n m done s) (ds ++ deeds n m done s) × Due n m one rest (fire_all n m done s) × ((k : ℕ) → 1 ≤ count k rest → D k (deed n m k (fire_all n m done s)))
    unfolding fire_all deeds count
    part [] rest s ds d h p = (rw append-nil p, d, h)
    part (k ∷ done) rest s ds d h p =
        let r = due_first n m one k (done ++ rest) s d in
        let others : (j : ℕ) → 1 ≤ count j (done ++ rest) → D j (deed n m j (fire n m k s)) = λ j g.
        (let o = due_other n m one k (done ++ rest) s d j g in rw (deed_frame n m one j k s o.0 o.1 r) (h j (omega (arith, g)))) in
        let q = part done rest (fire n m k s) (ds ++ (deed n m k s ∷ [])) (due_next n m one k (done ++ rest) s d) others (keep k s ds r (h k (omega (arith, hit_same k k refl))) p) in
        (rw append_assoc at q.0, q.1, q.2)

-- ── the marked set ───────────────────────────────────────────────────────────────────────────

pub marked_le : (m : ℕ → Mark) (ks : List ℕ) (j : ℕ) → count j (marked_from m ks) ≤ count j ks
unfolding marked_from keep_if count
marked_le m [] j = omega arith
marked_le m (k ∷ ks) j = cases (marked (m k)) (λ e. rw e (omega (arith, marked_le m ks j))) (λ e. rw e (omega (arith, marked_le m ks j)))

pub marked_in : (m : ℕ → Mark) (ks : List ℕ) (j : ℕ) → 1 ≤ count j (marked_from m ks) → marked (m j) ≡ true
unfolding marked_from keep_if count
marked_in m [] j h = absurd (omega arith)
marked_in m (k ∷ ks) j h =
    cases (marked (m k)) (λ e. same_or k j (λ q. rw q at e) (λ f. marked_in m ks j (omega (arith, rw e at h, hit_other k j f)))) (λ e. marked_in m ks j (rw e at h))

pub up_from_below : (i c j : ℕ) → j < i → count j (up_from i c) ≡ 0
unfolding up_from count
up_from_below i zero j h = refl
up_from_below i (suc c) j h = omega (arith, up_from_below (suc i) c j (omega arith), hit_other i j (λ e. omega (arith, e)))

up_from_once : (i c j : ℕ) → count j (up_from i c) ≤ 1
unfolding up_from count
up_from_once i zero j = omega arith
up_from_once i (suc c) j =
    same_or i j (λ e. omega (arith, hit_same i j e, up_from_below (suc i) c j (omega (arith, e)))) (λ f. omega (arith, hit_other i j f, up_from_once (suc i) c j))

pub fires_of : (x : Mark) → marked x ≡ true → (r : ℕ) × (x ≡ fires r)
unfolding marked
fires_of quiet e = let z : ◌≡◌ {A = ℕ} 0 1 = cc in absurd (omega arith)
fires_of (fires r) e = (r, refl)
fires_of (faulty x) e = let z : ◌≡◌ {A = ℕ} 0 1 = cc in absurd (omega arith)

module _ (n : Net) (s : State) where
  pub marked_once : (k : ℕ) → count k (marked_of n s) ≤ 1
  marked_once k = unfold marked_of processes in omega (arith, marked_le (mark n s) (processes n) k, up_from_once 0 (length n.procs) k)

  -- a process that an order names is there, and is marked
  pub named_fires : (ks : List ℕ) → Order n s ks → (k : ℕ) → 1 ≤ count k ks → (r : ℕ) × (mark n s k ≡ fires r) × (k < length n.procs)
  named_fires ks o k h = unfold marked_of processes in
      let c : 1 ≤ count k (marked_of n s) = omega (arith, o.names k) in
      let f = fires_of (mark n s k) (marked_in (mark n s) (processes n) k c) in
      (f.0, f.1, omega (arith, up_from_in 0 (length n.procs) k (omega (arith, c, marked_le (mark n s) (processes n) k))))

-- ── the load ─────────────────────────────────────────────────────────────────────────────────

pub load-empty : (n : Net) (w : ℕ) → queue (loaded n) w ≡ []
load-empty n w = unfold queue loaded no_tokens in get_or-map no_tokens n.wires w no_wire

pub load_sound : (n : Net) → Sound n (loaded n) []
load_sound n = record {
  shape = unfold loaded in length-map n.wires no_tokens;
  fits = λ w. omega (arith, ap length (load-empty n w));
  fifo = λ w. unfold put_on taken_from in sym (load-empty n w);
}

-- ── demand 3 ─────────────────────────────────────────────────────────────────────────────────

module _ (n : Net) (one : OneEach n) where
  -- in any state that fits the network, all that an order names are due
  pub order_due : (s : State) (ks : List ℕ) → length s.queues ≡ length n.wires → ((w : ℕ) → length (queue s w) ≤ capacity n w) → Order n s ks → Due n (mark n s) one ks s
  order_due s ks sh fit o = record {
    once = λ k. omega (arith, o.names k, marked_once n s k);
    ready = λ k h. (let f = named_fires n s ks o k h in marked_ready n one s sh fit (mark n s) k f.0 f.1 f.1);
  }

  -- its first firings: the network is sound, the others are due, and do what they would have done at the start
  along : {s : State} {ds : List Deed} → Sound n s ds → (done rest : List ℕ) → Order n s (done ++ rest) → Sound n (midway n s done) (ds ++ deeds n (mark n s) done s)
      × Due n (mark n s) one rest (midway n s done) × ((k : ℕ) → 1 ≤ count k rest → deed n (mark n s) k (midway n s done) ≡ deed n (mark n s) k s)
  along {s} {ds} q done rest o = unfold midway in
      part n (mark n s) one (λ k d. d ≡ deed n (mark n s) k s) (Sound n) (λ k t es r e. sound_next n (mark n s) one k t es r) done rest s ds
      (order_due s (done ++ rest) q.shape q.fits o) (λ k h. refl) q

  pub reached_sound : {s : State} {ds : List Deed} → Reached n s ds → Sound n s ds
  unfolding cycle_in midway
  reached_sound at_load = load_sound n
  reached_sound (cycled ks x o) = (along (reached_sound x) ks [] (rw append-nil o)).0

  -- all orders end a cycle in the same state
  same_state : {s : State} {ds : List Deed} → Reached n s ds → (ks ls : List ℕ) → Order n s ks → Order n s ls → cycle_in n ks s ≡ cycle_in n ls s
  same_state {s} x ks ls o p = unfold cycle_in in
      let q = reached_sound x in
      any_order n (mark n s) one ks ls s (λ k. o.names k ∙ sym (p.names k)) (order_due s ks q.shape q.fits o)

  -- each single firing
  each_firing : {s : State} {ds : List Deed} → Reached n s ds → (done : List ℕ) (k : ℕ) (rest : List ℕ) → Order n s (done ++ k ∷ rest) → Firing n s ds done k
  each_firing {s} {ds} x done k rest o =
      let q = reached_sound x in
      let a = along q done (k ∷ rest) o in
      record {
        nonempty = (due_first n (mark n s) one k rest _ a.1).has;
        sound = (along q (done ++ (k ∷ [])) rest (rw append_assoc o)).0;
        as_at_start = a.2 k (unfold count in omega (arith, hit_same k k refl));
      }

  pub orders_alike : AnyOrder n
  orders_alike = record { same_state = same_state; same_bytes = λ x ks ls o p. ap (bytes_of n) (same_state x ks ls o p); each_firing = each_firing }
