-- The queues after a firing, wire by wire; any two orders of the same firings end in the same state.
-- Assumes nothing.
use mathlib.Core.Path.{◌≡◌, refl, sym, ap, ap₂, ◌∙◌}
use mathlib.Core.Logic.{◌≢◌}
use mathlib.Core.Bool.{Bool, true, false, cond}
use Rattle.std.specs.Prelude.{Option, Some, None}
use mathlib.Core.List.{List, [], ◌∷◌, ◌++◌, append-nil, append_assoc}
use Prim.Native.Nat.{ℕ, zero, suc, ◌+◌, ◌≤◌, ◌<◌}
use native.Mathlib.Omega.{arith}
use native.Mathlib.Nat.{add_comm, le_trans}
use lib.Dec.{eqb, ltb}
use lib.ListN.{length, get_or, set, drop, length-set, length-append, length-drop, get_or-eq_default, drop_of_length-le}
use lib.Seq.{drop-drop, drop-append-le, get_or-set_same, get_or-set_other, lt-length-set, set_comm, ext_get_or}
use borrow.Author.Tests.{eq-eqb, ne_eqb, ltb-true, ltb-false}
use Rattle.model.specs.declared.Token.{Token}
use Rattle.model.specs.Network.{Proc, Net, Wire, State, Own, vars, queue, own, proc, nobody, wire, no_wire, capacity, ins_of, outs_of}
use Rattle.model.specs.NetworkFile.{hit, count, ports}
use Rattle.model.specs.Cycles.{Move, Deed, Mark, take_all, put_all, act, moves, look, seen, oldest, deed, deed_of, rule_of, fire, fire_all, reads_of}
use Rattle.model.specs.Orders.{joined, on_wire}
use Rattle.model.proofs.Tests.{cases, same_or}

-- ── counts ───────────────────────────────────────────────────────────────────────────────────

pub hit_same : (v w : ℕ) → v ≡ w → hit (eqb v w) ≡ 1
hit_same v w e = unfold hit in ap hit (eq-eqb v w e)

pub hit_other : (v w : ℕ) → v ≢ w → hit (eqb v w) ≡ 0
hit_other v w e = unfold hit in ap hit (ne_eqb v w e)

pub length_joined : (b : Bool) (t : Token) (ts : List Token) → length (joined b t ts) ≡ hit b + length ts
unfolding joined hit
length_joined true t ts = omega arith
length_joined false t ts = omega arith

pub moves_count : (ws : List ℕ) (ts : List (Option Token)) (w : ℕ) → length (on_wire w (moves ws ts)) ≤ count w ws
unfolding moves on_wire count
moves_count [] ts w = omega arith
moves_count (v ∷ ws) [] w = omega arith
moves_count (v ∷ ws) (None ∷ ts) w = omega (arith, moves_count ws ts w)
moves_count (v ∷ ws) (Some t ∷ ts) w = omega (arith, moves_count ws ts w, length_joined (eqb v w) t (on_wire w (moves ws ts)))

pub count_append : (w : ℕ) (xs ys : List ℕ) → count w (xs ++ ys) ≡ count w xs + count w ys
unfolding count
count_append w [] ys = omega arith
count_append w (x ∷ xs) ys = omega (arith, count_append w xs ys)

-- the ports of two processes are among all ports, and so are the tokens that they move there
module _ (f : Proc → List ℕ) (w : ℕ) (none' : count w (f nobody) ≡ 0) where
  port_two : (ps : List Proc) (j k : ℕ) → j ≢ k → count w (f (get_or ps j nobody)) + count w (f (get_or ps k nobody)) ≤ count w (ports f ps)
  unfolding ports
  port_two [] j k h = omega arith
  port_two (p ∷ ps) zero zero h = absurd (h refl)
  port_two (p ∷ ps) zero (suc k) h = omega (arith, count_append w (f p) (ports f ps), port_two ps k (suc k) (λ e. omega (arith, e)))
  port_two (p ∷ ps) (suc j) zero h = omega (arith, count_append w (f p) (ports f ps), port_two ps j (suc j) (λ e. omega (arith, e)))
  port_two (p ∷ ps) (suc j) (suc k) h = omega (arith, count_append w (f p) (ports f ps), port_two ps j k (λ e. h (ap suc e)))

  moves_two : (ps : List Proc) (j k : ℕ) → j ≢ k → (xs ys : List (Option Token))
      → length (on_wire w (moves (f (get_or ps j nobody)) xs)) + length (on_wire w (moves (f (get_or ps k nobody)) ys)) ≤ count w (ports f ps)
  moves_two ps j k h xs ys = omega (arith, port_two ps j k h, moves_count (f (get_or ps j nobody)) xs w, moves_count (f (get_or ps k nobody)) ys w)

-- ── one wire after a deed ────────────────────────────────────────────────────────────────────

-- moves that each change the queue of their wire by f: one wire after them all
module _ (all : List Move → List (List Token) → List (List Token)) (f : Token → List Token → List Token) (none' : (qs : List (List Token)) → all [] qs ≡ qs)
    (more : (m : Move) (ms : List Move) (qs : List (List Token)) → all (m ∷ ms) qs ≡ all ms (set qs m.wire (f m.token (get_or qs m.wire [])))) where
  length_all : (ms : List Move) (qs : List (List Token)) → length (all ms qs) ≡ length qs
  length_all [] qs = ap length (none' qs)
  length_all (m ∷ ms) qs = ap length (more m ms qs) ∙ length_all ms _ ∙ length-set qs m.wire _

  all_at : (g : List Token → List Token → List Token) → ((q : List Token) → g [] q ≡ q) → ((t : Token) (ts q : List Token) → g ts (f t q) ≡ g (t ∷ ts) q)
      → (ms : List Move) (qs : List (List Token)) (w : ℕ) → w < length qs → get_or (all ms qs) w [] ≡ g (on_wire w ms) (get_or qs w [])
  unfolding on_wire joined
  all_at g z c [] qs w h = rw (none' qs) (sym (z (get_or qs w [])))
  all_at g z c (m ∷ ms) qs w h =
      let x = f m.token (get_or qs m.wire []) in
      rw (more m ms qs) (all_at g z c ms (set qs m.wire x) w (lt-length-set qs m.wire x h)
      ∙ same_or m.wire w (λ e. rw (e, eq-eqb w w refl, get_or-set_same qs w (f m.token (get_or qs w [])) [] h) (c m.token (on_wire w ms) (get_or qs w [])))
      (λ ne. rw (ne_eqb m.wire w ne, get_or-set_other qs m.wire w x [] (λ p. ne (sym p)))))

length-take_all : (ms : List Move) (qs : List (List Token)) → length (take_all ms qs) ≡ length qs
length-take_all = unfold take_all in length_all take_all (λ t q. drop 1 q) (λ qs. refl) (λ m ms qs. refl)

take_all_at : (ms : List Move) (qs : List (List Token)) (w : ℕ) → w < length qs → get_or (take_all ms qs) w [] ≡ drop (length (on_wire w ms)) (get_or qs w [])
take_all_at = unfold take_all in
    all_at take_all (λ t q. drop 1 q) (λ qs. refl) (λ m ms qs. refl) (λ ts q. drop (length ts) q) (λ q. refl)
    (λ t ts q. (let e : 1 + length ts ≡ suc (length ts) = omega arith in rw e at (drop-drop (length ts) 1 q)))

pub put_all_at : (ms : List Move) (qs : List (List Token)) (w : ℕ) → w < length qs → get_or (put_all ms qs) w [] ≡ get_or qs w [] ++ on_wire w ms
put_all_at = unfold put_all in
    all_at put_all (λ t q. q ++ (t ∷ [])) (λ qs. refl) (λ m ms qs. refl) (λ ts q. q ++ ts) append-nil (λ t ts q. append_assoc q (t ∷ []) ts)

pub queue-act : (k : ℕ) (d : Deed) (s : State) (w : ℕ) → w < length s.queues
    → queue (act k d s) w ≡ drop (length (on_wire w d.took)) (queue s w) ++ on_wire w d.put
queue-act k d s w h = unfold queue act in
    put_all_at d.put (take_all d.took s.queues) w (rw length-take_all h)
    ∙ ap (λ (q : List Token). q ++ on_wire w d.put) (take_all_at d.took s.queues w h)

pub length-act : (k : ℕ) (d : Deed) (s : State) → length (act k d s).queues ≡ length s.queues
length-act k d s = unfold act put_all in length_all put_all (λ t q. q ++ (t ∷ [])) (λ qs. refl) (λ m ms qs. refl) d.put (take_all d.took s.queues) ∙ length-take_all d.took s.queues

queue_past : (s : State) (w : ℕ) → length s.queues ≤ w → queue s w ≡ []
queue_past s w h = unfold queue in get_or-eq_default s.queues [] h

-- ── what a process sees is untouched by what is put behind it ───────────────────────────────

oldest-append : (q x : List Token) → 1 ≤ length q → oldest (q ++ x) ≡ oldest q
unfolding oldest
oldest-append [] x h = absurd (omega arith)
oldest-append (t ∷ q) x h = refl

look_frame : (s s' : State) (ws : List ℕ) (ps : List Bool)
    → ((w : ℕ) → 1 ≤ length (on_wire w (moves ws (look s ws ps))) → oldest (queue s' w) ≡ oldest (queue s w)) → look s' ws ps ≡ look s ws ps
unfolding look seen moves on_wire
look_frame s s' [] ps h = refl
look_frame s s' (v ∷ ws) [] h = refl
look_frame s s' (v ∷ ws) (false ∷ ps) h = ap (λ (xs : List (Option Token)). None ∷ xs) (look_frame s s' ws ps h)
look_frame s s' (v ∷ ws) (true ∷ ps) h =
    ap₂ (λ (t : Token) (xs : List (Option Token)). Some t ∷ xs)
    (h v (omega (arith, length_joined (eqb v v) (oldest (queue s v)) (on_wire v (moves ws (look s ws ps))), hit_same v v refl)))
    (look_frame s s' ws ps (λ w g. h w (omega (arith, g, length_joined (eqb v w) (oldest (queue s v)) (on_wire w (moves ws (look s ws ps)))))))

-- ── two deeds on one state ───────────────────────────────────────────────────────────────────

swap_short : (a b : List Token) → length a + length b ≤ 1 → a ++ b ≡ b ++ a
swap_short [] b h = sym (append-nil b)
swap_short (x ∷ a) [] h = append-nil (x ∷ a)
swap_short (x ∷ a) (y ∷ b) h = absurd (omega arith)

drop_both : (a b : ℕ) (q x : List Token) → a + b ≤ length q → drop b (drop a q ++ x) ≡ drop (a + b) q ++ x
drop_both a b q x h = drop-append-le b (drop a q) x (simp length-drop (omega arith)) ∙ ap (λ (l : List Token). l ++ x) (drop-drop b a q)

wire_commute : (a b : ℕ) (q x y : List Token) → a + b ≤ length q → length x + length y ≤ 1 → drop b (drop a q ++ x) ++ y ≡ drop a (drop b q ++ y) ++ x
wire_commute a b q x y h g =
    rw (drop_both a b q x h, drop_both b a q y (omega arith), add_comm a b, append_assoc (drop (b + a) q) x y, append_assoc (drop (b + a) q) y x, swap_short x y g)

-- ── two firings of one cycle ─────────────────────────────────────────────────────────────────

-- no wire has two reading ports or two writing ports
pub record OneEach (n : Net) : Type 0 where
  pub readers : (w : ℕ) → count w (ports ins_of n.procs) ≤ 1
  pub writers : (w : ℕ) → count w (ports outs_of n.procs) ≤ 1

-- process k, fired in s, finds a token on each wire that it reads and a place on each wire that it writes
pub record Ready (n : Net) (m : ℕ → Mark) (k : ℕ) (s : State) : Type 0 where
  pub shape : length s.queues ≡ length n.wires
  pub has : (w : ℕ) → length (on_wire w (deed n m k s).took) ≤ length (queue s w)
  pub room : (w : ℕ) → length (queue s w) + length (on_wire w (deed n m k s).put) ≤ capacity n w

module _ (n : Net) (m : ℕ → Mark) (one : OneEach n) where
  -- two firings take one token at most from a wire, and put one at most on it; so does one firing
  moved_two : (j k : ℕ) (s : State) (w : ℕ) → j ≢ k → (length (on_wire w (deed n m j s).took) + length (on_wire w (deed n m k s).took) ≤ 1)
      × (length (on_wire w (deed n m j s).put) + length (on_wire w (deed n m k s).put) ≤ 1)
  moved_two j k s w ne = unfold deed deed_of proc ins_of outs_of nobody count in
      (le_trans (moves_two ins_of w refl n.procs j k ne _ _) (one.readers w), le_trans (moves_two outs_of w refl n.procs j k ne _ _) (one.writers w))

  pub moved_one : (k : ℕ) (s : State) (w : ℕ) → (length (on_wire w (deed n m k s).took) ≤ 1) × (length (on_wire w (deed n m k s).put) ≤ 1)
  moved_one k s w = let h = moved_two k (suc k) s w (λ e. omega (arith, e)) in (omega (arith, h.0), omega (arith, h.1))

  -- a wire's queue after a firing, declared or not
  pub queue-fire : (k : ℕ) (s : State) → Ready n m k s → (w : ℕ)
      → queue (fire n m k s) w ≡ drop (length (on_wire w (deed n m k s).took)) (queue s w) ++ on_wire w (deed n m k s).put
  queue-fire k s r w = unfold fire capacity wire no_wire in
      let d = deed n m k s in
      cases (ltb w (length s.queues)) (λ e. queue-act k d s w (ltb-true w (length s.queues) e)) (λ e.
      let f = ltb-false w (length s.queues) e in
      let past = queue_past s w f in
      let t : length (on_wire w d.took) ≡ 0 = omega (arith, r.has w, ap length past) in
      let none' : capacity n w ≡ 0 = ap (λ (x : Wire). x.capacity) (get_or-eq_default n.wires no_wire (omega (arith, f, r.shape))) in
      let p : on_wire w d.put ≡ [] = drop_of_length-le (on_wire w d.put) {i = 0} (omega (arith, r.room w, none')) in
      queue_past (act k d s) w (rw length-act f) ∙ sym (rw (t, p, past)))

  pub length-fire : (k : ℕ) (s : State) → Ready n m k s → (w : ℕ)
      → length (queue (fire n m k s) w) + length (on_wire w (deed n m k s).took) ≡ length (queue s w) + length (on_wire w (deed n m k s).put)
  length-fire k s r w = let e = simp (length-append, length-drop) at (ap length (queue-fire k s r w)) in omega (arith, e, r.has w)

  pub deed_frame : (j k : ℕ) (s : State) → j ≢ k → Ready n m j s → Ready n m k s → deed n m j (fire n m k s) ≡ deed n m j s
  deed_frame j k s ne r q = unfold deed deed_of in
      ap₂ (λ (x : List (Option Token)) (o : Own). deed_of n (proc n j) (rule_of (m j)) x o)
      -- the oldest token of a wire that j reads is the same after k has fired
      (look_frame s (fire n m k s) (ins_of (proc n j)) (reads_of (proc n j) (rule_of (m j))) (λ w h.
      let z : length (on_wire w (deed n m k s).took) ≡ 0 = omega (arith, h, (moved_two j k s w ne).0) in
      ap oldest (queue-fire k s q w) ∙ rw z (oldest-append (queue s w) (on_wire w (deed n m k s).put) (omega (arith, h, r.has w)))))
      (unfold own fire act in get_or-set_other s.owns k j _ (vars []) ne)

  ready_frame : (j k : ℕ) (s : State) → j ≢ k → Ready n m j s → Ready n m k s → Ready n m j (fire n m k s)
  ready_frame j k s ne r q = record {
    shape = unfold fire in length-act k (deed n m k s) s ∙ q.shape;
    has = λ w. rw (deed_frame j k s ne r q) (omega (arith, length-fire k s q w, r.has w, q.has w, (moved_two j k s w ne).0));
    room = λ w. rw (deed_frame j k s ne r q) (omega (arith, length-fire k s q w, r.room w, q.room w, (moved_two j k s w ne).1));
  }

  -- two firings in either order: each wire, and what each process keeps
  module _ (j k : ℕ) (s : State) (ne : j ≢ k) (r : Ready n m j s) (q : Ready n m k s) where
    commute_queues : (fire n m j (fire n m k s)).queues ≡ (fire n m k (fire n m j s)).queues
    commute_queues = ext_get_or [] _ _ (unfold fire in simp length-act) (λ w h. unfold queue in
        rw (queue-fire j (fire n m k s) (ready_frame j k s ne r q) w, queue-fire k (fire n m j s) (ready_frame k j s (λ p. ne (sym p)) q r) w)
        (rw (deed_frame j k s ne r q, deed_frame k j s (λ p. ne (sym p)) q r, queue-fire k s q w, queue-fire j s r w)
        (wire_commute (length (on_wire w (deed n m k s).took)) (length (on_wire w (deed n m j s).took)) (queue s w) (on_wire w (deed n m k s).put) (on_wire w (deed n m j s).put)
        (omega (arith, r.has w, q.has w, (moved_two j k s w ne).0)) (omega (arith, (moved_two j k s w ne).1)))))

    commute_owns : (fire n m j (fire n m k s)).owns ≡ (fire n m k (fire n m j s)).owns
    commute_owns = unfold fire act in
        ap (λ (x : Deed). set (fire n m k s).owns j x.keeps) (deed_frame j k s ne r q)
        ∙ set_comm s.owns k j (deed n m k s).keeps (deed n m j s).keeps (λ p. ne (sym p))
        ∙ sym (ap (λ (x : Deed). set (fire n m j s).owns k x.keeps) (deed_frame k j s (λ p. ne (sym p)) q r))

    fire_commute : fire n m j (fire n m k s) ≡ fire n m k (fire n m j s)
    fire_commute = λ i. record { queues = commute_queues i; owns = commute_owns i }

-- ── any two orders ───────────────────────────────────────────────────────────────────────────

-- the list with the first k left out
pub remove : ℕ → List ℕ → List ℕ
remove k [] = []
remove k (j ∷ js) = cond (eqb j k) js (j ∷ remove k js)

pub remove_here : (j k : ℕ) (js : List ℕ) → j ≡ k → remove k (j ∷ js) ≡ js
remove_here j k js e = unfold remove in rw (eq-eqb j k e)

pub remove_past : (j k : ℕ) (js : List ℕ) → j ≢ k → remove k (j ∷ js) ≡ j ∷ remove k js
remove_past j k js f = unfold remove in rw (ne_eqb j k f)

-- a sum over a list, with the first k taken out: how often i is named, for one
pub sum_remove : (f : List ℕ → ℕ) (g : ℕ → ℕ) → ((j : ℕ) (js : List ℕ) → f (j ∷ js) ≡ g j + f js) → (k : ℕ) (ks : List ℕ) → 1 ≤ count k ks → f ks ≡ g k + f (remove k ks)
unfolding count
sum_remove f g more k [] h = absurd (omega arith)
sum_remove f g more k (j ∷ js) h =
    same_or j k (λ e. rw (remove_here j k js e) (more j js ∙ ap (λ (x : ℕ). g x + f js) e))
    (λ ne. rw (remove_past j k js ne) (omega (arith, more j js, more j (remove k js), sum_remove f g more k js (omega (arith, h, hit_other j k ne)))))

pub count_remove : (k : ℕ) (ks : List ℕ) → 1 ≤ count k ks → (i : ℕ) → count i ks ≡ hit (eqb k i) + count i (remove k ks)
count_remove k ks h i = unfold count in sum_remove (count i) (λ j. hit (eqb j i)) (λ j js. refl) k ks h

module _ (n : Net) (m : ℕ → Mark) (one : OneEach n) where
  -- all of the list are ready, and none stands in it twice
  pub record Due (ks : List ℕ) (s : State) : Type 0 where
    pub once : (k : ℕ) → count k ks ≤ 1
    pub ready : (k : ℕ) → 1 ≤ count k ks → Ready n m k s

  -- the first is ready, none of the others is the first, and they are due after it
  pub due_first : (k : ℕ) (ks : List ℕ) (s : State) → Due (k ∷ ks) s → Ready n m k s
  due_first k ks s d = unfold count in d.ready k (omega (arith, hit_same k k refl))

  pub due_other : (k : ℕ) (ks : List ℕ) (s : State) → Due (k ∷ ks) s → (j : ℕ) → 1 ≤ count j ks → (j ≢ k) × Ready n m j s
  due_other k ks s d j h = unfold count in (λ e. absurd (omega (arith, h, d.once j, hit_same k j (sym e))), d.ready j (omega (arith, h)))

  pub due_next : (k : ℕ) (ks : List ℕ) (s : State) → Due (k ∷ ks) s → Due ks (fire n m k s)
  due_next k ks s d = unfold count in record {
    once = λ j. omega (arith, d.once j);
    ready = λ j h. (let o = due_other k ks s d j h in ready_frame n m one j k s o.0 o.1 (due_first k ks s d));
  }

  move_front : (ks : List ℕ) (k : ℕ) (s : State) → 1 ≤ count k ks → Due ks s → fire_all n m ks s ≡ fire_all n m (remove k ks) (fire n m k s)
  unfolding count fire_all
  move_front [] k s h d = absurd (omega arith)
  move_front (j ∷ js) k s h d =
      same_or j k (λ e. rw (remove_here j k js e) (ap (λ (x : ℕ). fire_all n m js (fire n m x s)) e))
      (λ f. rw (remove_past j k js f) (move_front js k (fire n m j s) (omega (arith, h, hit_other j k f)) (due_next j js s d)
      ∙ ap (fire_all n m (remove k js)) (fire_commute n m one k j s (λ p. f (sym p)) (d.ready k h) (due_first j js s d))))

  pub any_order : (ks ls : List ℕ) (s : State) → ((k : ℕ) → count k ks ≡ count k ls) → Due ks s → fire_all n m ks s ≡ fire_all n m ls s
  unfolding count fire_all
  any_order [] [] s e d = refl
  any_order [] (l ∷ ls) s e d = absurd (omega (arith, e l, hit_same l l refl))
  any_order (k ∷ ks) ls s e d =
      let in-ls : 1 ≤ count k ls = omega (arith, e k, hit_same k k refl) in
      any_order ks (remove k ls) (fire n m k s) (λ j. omega (arith, e j, count_remove k ls in-ls j)) (due_next k ks s d)
      ∙ sym (move_front ls k s in-ls (record { once = λ j. omega (arith, e j, d.once j); ready = λ j h. d.ready j (omega (arith, e j, h)) }))
