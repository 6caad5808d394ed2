-- Demands 1 and 3 hold of the bytes that the calls leave.
-- Assumes nothing.
use mathlib.Core.Path.{◌≡◌, refl, sym, ap, ◌∙◌, subst}
use mathlib.Core.Logic.{◌≢◌}
use mathlib.Core.Bool.{Bool, true, false, cond}
use mathlib.Core.List.{List, ◌++◌}
use Prim.Native.Nat.{ℕ, zero, suc, ◌≤◌}
use native.Mathlib.Omega.{arith}
use lib.Dec.{leb}
use lib.ListN.{length, take, drop, take-append-drop}
use lib.Seq.{take_at, drop_at}
use borrow.Author.Tests.{leb-true, le-leb}
use Rattle.model.specs.declared.Ending.{Ending}
use Rattle.model.specs.declared.Ending.TheVariants as ending
use Rattle.model.specs.Network.{Net, State, loaded}
use Rattle.model.specs.NetworkFile.{Verdict, good, refuse, next, or_refuse, by_verdict}
use Rattle.model.specs.States.{bytes_of, state_size, state_fits, state_in}
use Rattle.model.specs.Cycles.{Finding, broken, still, moving, finding, mark, marked_of, marked_set, is_order, cycle_in, Ended, run, stop, halt, proceed, later}
use Rattle.model.specs.Calls.{After, Answer, loaded_with, done, idle, refused, Held, held, roomy, with_tokens, keeps, leaves, said_ending, run_of, cycle_of, file_in, load_call, cycle_call, run_call, write_call, without_tokens}
use Rattle.model.specs.Orders.{at_load}
use Rattle.model.proofs.Whole.{next_good, or_refuse_good, tokens_accepted}
use Rattle.model.proofs.Order.{OneEach, any_order}
use Rattle.model.proofs.Sound.{order_due}
use Rattle.model.proofs.AnyOrder.{accepted-names, checked_order, calm-moving}
use Rattle.model.proofs.Decoded.{GoodNet}
use Rattle.model.proofs.Kept.{GoodState, reached_good}
use Rattle.octets.proofs.Laws.{Octets}
use Rattle.queues.proofs.Saved.{good_laid, fits_good}
use Rattle.queues.proofs.Whole.{length_bytes, state_whole}
use Rattle.bench.specs.Demands.{Loads, Refusals, AnyTwoOrders, after_cycles, counted, Counts}

-- ── what is held ─────────────────────────────────────────────────────────────────────────────

-- a network and a state that the checks accept
record Fine (st : List ℕ) (h : Held) : Type 0 where
  net : GoodNet h.net
  one : OneEach h.net
  state : GoodState h.net h.state
  is : h.state ≡ state_in h.net st
  long : state_size h.net ≤ length st
  fits : state_fits h.net true st ≡ true

fine : (s ts st : List ℕ) (h : Held) → Octets st → next (with_tokens s ts) (held true st) ≡ good h → Fine st h
unfolding held roomy
fine s ts st h o e =
    let a = next_good (with_tokens s ts) (held true st) h e in
    let b = next_good (roomy st a.found) _ h a.then in
    let c = or_refuse_good (leb (state_size a.found) (length st)) 6 (state_size a.found) (good a.found) b.found b.first in
    let d = or_refuse_good (state_fits b.found true st) 7 0 _ h b.then in
    let i : a.found ≡ b.found = cc in
    let k : record { net = b.found; state = state_in b.found st } ≡ h = cc in
    let x = tokens_accepted s ts a.found a.first in
    subst (Fine st) k (record {
      net = subst GoodNet i x.all;
      one = subst OneEach i x.one;
      state = fits_good b.found st o d.0;
      is = refl;
      long = subst (λ (n : Net). state_size n ≤ length st) i (leb-true (state_size a.found) (length st) c.0);
      fits = d.0;
    })

-- what holds of both ways out of the checks
verdict_all : {A : Type 0} (P : After → Type 0) (v : Verdict A) (f : A → After) (g : ℕ → ℕ → After) → ((a : A) → v ≡ good a → P (f a)) → ((n p : ℕ) → P (g n p)) → P (by_verdict v f g)
unfolding by_verdict
verdict_all P (good a) f g x y = x a refl
verdict_all P (refuse n p) f g x y = y n p

-- ── a load ───────────────────────────────────────────────────────────────────────────────────

-- a load that is not refused leaves these bytes
record Loaded (s ts st : List ℕ) (size : ℕ) (last : List ℕ) : Type 0 where
  net : Net
  found : with_tokens s ts ≡ good net
  is : size ≡ state_size net
  bytes : last ≡ bytes_of net (loaded net) ++ drop size st

load-leaves : (s ts st : List ℕ) (size : ℕ) → (load_call s ts st).answer ≡ loaded_with size → Loaded s ts st size (load_call s ts st).bytes
unfolding load_call keeps leaves roomy
load-leaves s ts st size =
    verdict_all (λ x. x.answer ≡ loaded_with size → Loaded s ts st size x.bytes) (next (with_tokens s ts) (roomy st)) _ _
    (λ n e f.
    let a = next_good (with_tokens s ts) (roomy st) n e in
    let b = or_refuse_good (leb (state_size a.found) (length st)) 6 (state_size a.found) (good a.found) n a.then in
    let i : a.found ≡ n = cc in
    let z : size ≡ state_size n = cc in
    record { net = n; found = a.first ∙ ap good i; is = z; bytes = ap (λ (j : ℕ). bytes_of n (loaded n) ++ drop j st) (sym z) })
    (λ n p e. (let z : ◌≡◌ {A = ℕ} 0 1 = cc in absurd (omega arith)))

-- the state's bytes, and the rest
load_parts : (s ts st : List ℕ) (size : ℕ) (last : List ℕ) (x : Loaded s ts st size last) → (take size last ≡ bytes_of x.net (loaded x.net)) × (drop size last ≡ drop size st)
load_parts s ts st size last x =
    let n = x.net in
    let a = tokens_accepted s ts n x.found in
    let l : length (bytes_of n (loaded n)) ≡ size = length_bytes n (loaded n) (good_laid n a.all (loaded n) (reached_good n a.all a.one at_load)) ∙ sym x.is in
    (ap (take size) x.bytes ∙ take_at (bytes_of n (loaded n)) (drop size st) size l, ap (drop size) x.bytes ∙ drop_at (bytes_of n (loaded n)) (drop size st) size l)

pub loads_same : Loads
unfolding Loads
loads_same s ts u v size e f =
    let a = load-leaves s ts u size e in
    let b = load-leaves s ts v size f in
    let q : good a.net ≡ good b.net = sym a.found ∙ b.found in
    let i : a.net ≡ b.net = cc in
    let x = load_parts s ts u size _ a in
    record { same = x.0 ∙ ap (λ (n : Net). bytes_of n (loaded n)) i ∙ sym (load_parts s ts v size _ b).0; rest = x.1 }

-- ── a cycle in two orders ────────────────────────────────────────────────────────────────────

module _ (st : List ℕ) (h : Held) (x : Fine st h) (o q : List ℕ) where
  abbrev n : Net
  n = h.net

  abbrev s : State
  s = h.state

  -- of the cases of the order check, only two orders that pass are left
  both_pass : (a b : Answer) (u v y : After) → y.answer ≡ refused 8 0 0 → (i j : Bool) → is_order (marked_set n s) o ≡ i → is_order (marked_set n s) q ≡ j
      → ((cond i u y).answer ≢ refused 8 0 0) → ((cond j v y).answer ≢ refused 8 0 0) → (is_order (marked_set n s) o ≡ true → is_order (marked_set n s) q ≡ true → u ≡ v) → cond i u y ≡ cond j v y
  both_pass a b u v y r true true e f g k z = z e f
  both_pass a b u v y r false j e f g k z = absurd (g r)
  both_pass a b u v y r true false e f g k z = absurd (k r)

  same_end : finding n s ≡ moving → is_order (marked_set n s) o ≡ true → is_order (marked_set n s) q ≡ true → cycle_in n o s ≡ cycle_in n q s
  unfolding cycle_in
  same_end g e f =
      any_order n (mark n s) x.one o q s (λ k. accepted-names n s o e k ∙ sym (accepted-names n s q f k))
      (order_due n x.one s o x.state.queues x.state.most (checked_order n s o (calm-moving n s g) e))

  same-cycle : (f : Finding) → finding n s ≡ f → (cycle_of st o n s f).answer ≢ refused 8 0 0 → (cycle_of st q n s f).answer ≢ refused 8 0 0 → cycle_of st o n s f ≡ cycle_of st q n s f
  unfolding cycle_of keeps leaves
  same-cycle (broken k y) g a b = refl
  same-cycle still g a b = both_pass (idle 0) (idle 0) _ _ _ refl (is_order (marked_set n s) o) (is_order (marked_set n s) q) refl refl a b (λ e f. refl)
  same-cycle moving g a b = both_pass (done 1) (done 1) _ _ _ refl (is_order (marked_set n s) o) (is_order (marked_set n s) q) refl refl a b (λ e f. ap (λ (z : State). leaves st n z (done 1)) (same_end g e f))

pub any_two_orders : AnyTwoOrders
unfolding AnyTwoOrders cycle_call by_verdict
any_two_orders s ts st o q oct = go (next (with_tokens s ts) (held true st)) refl
  where
    go : (v : Verdict Held) → next (with_tokens s ts) (held true st) ≡ v
        → (by_verdict v (λ h. cycle_of st o h.net h.state (finding h.net h.state)) (λ n p. keeps st (refused n p 0))).answer ≢ refused 8 0 0
        → (by_verdict v (λ h. cycle_of st q h.net h.state (finding h.net h.state)) (λ n p. keeps st (refused n p 0))).answer ≢ refused 8 0 0
        → by_verdict v (λ h. cycle_of st o h.net h.state (finding h.net h.state)) (λ n p. keeps st (refused n p 0))
        ≡ by_verdict v (λ h. cycle_of st q h.net h.state (finding h.net h.state)) (λ n p. keeps st (refused n p 0))
    go (good h) e a b = same-cycle st h (fine s ts st h oct e) o q (finding h.net h.state) refl a b
    go (refuse x y) e a b = refl

-- ── a run's cycles ───────────────────────────────────────────────────────────────────────────

run-cycles : (n : Net) (b : ℕ) (s : State) → (run n b s).state ≡ after_cycles n (run n b s).cycles s
unfolding run halt proceed stop later after_cycles
run-cycles n zero s = go (finding n s)
  where
    go : (f : Finding) → (halt f s).state ≡ after_cycles n (halt f s).cycles s
    go (broken k x) = refl
    go still = refl
    go moving = refl
run-cycles n (suc b) s = go (finding n s) (run-cycles n b (cycle_in n (marked_of n s) s))
  where
    rest : Ended
    rest = run n b (cycle_in n (marked_of n s) s)

    go : (f : Finding) → rest.state ≡ after_cycles n rest.cycles (cycle_in n (marked_of n s) s) → (proceed f s rest).state ≡ after_cycles n (proceed f s rest).cycles s
    go (broken k x) e = refl
    go still e = refl
    go moving e = e

counted_said : (e : Ending) (c : ℕ) → counted (said_ending e c) ≡ c
unfolding counted said_ending
counted_said ending.Idle c = refl
counted_said ending.Spent c = refl
counted_said (ending.Fault n b) c = refl

-- a run of what is held
run-leaves : (st : List ℕ) (h : Held) (b : ℕ) → let e = run h.net b h.state in let a = said_ending e.ending e.cycles in run_of st h.net e ≡ leaves st h.net (after_cycles h.net (counted a) h.state) a
unfolding run_of
run-leaves st h b =
    let e = run h.net b h.state in
    ap (λ (z : State). leaves st h.net z (said_ending e.ending e.cycles)) (run-cycles h.net b h.state ∙ ap (λ (c : ℕ). after_cycles h.net c h.state) (sym (counted_said e.ending e.cycles)))

pub counts_kept : Counts
unfolding Counts run_call or_refuse by_verdict run_of leaves
counts_kept s ts st budget h e l = rw (le-leb budget 65535 l, e) (run-leaves st h budget)

-- ── refusals ─────────────────────────────────────────────────────────────────────────────────

-- a refusal that keeps the bytes
abbrev Keeps : List ℕ → After → Type 0
Keeps st x = (n p c : ℕ) → x.answer ≡ refused n p c → x.bytes ≡ st

load-refused : (s ts st : List ℕ) → Keeps st (load_call s ts st)
unfolding load_call keeps leaves
load-refused s ts st = verdict_all (Keeps st) (next (with_tokens s ts) (roomy st)) _ _ (λ n e x y z f. (let i : ◌≡◌ {A = ℕ} 0 1 = cc in absurd (omega arith))) (λ n p x y z f. refl)

write-refused : (s st out : List ℕ) → Keeps out (write_call s st out)
unfolding write_call keeps
write-refused s st out = verdict_all (Keeps out) (next (next (without_tokens s) (held false st)) (file_in out)) _ _ (λ n e x y z f. (let i : ◌≡◌ {A = ℕ} 0 1 = cc in absurd (omega arith))) (λ n p x y z f. refl)

cycle_keeps : (st o : List ℕ) (n : Net) (s : State) (f : Finding) → Keeps st (cycle_of st o n s f)
unfolding cycle_of keeps leaves
cycle_keeps st o n s (broken k x) i j k' e = refl
cycle_keeps st o n s still i j k e = go (is_order (marked_set n s) o)
  where
    go : (b : Bool) → (cond b (keeps st (idle 0)) (keeps st (refused 8 0 0))).bytes ≡ st
    go true = refl
    go false = refl
cycle_keeps st o n s moving i j k e = go (is_order (marked_set n s) o) e
  where
    go : (b : Bool) → (cond b (leaves st n (cycle_in n o s) (done 1)) (keeps st (refused 8 0 0))).answer ≡ refused i j k → (cond b (leaves st n (cycle_in n o s) (done 1)) (keeps st (refused 8 0 0))).bytes ≡ st
    go true f = let z : ◌≡◌ {A = ℕ} 0 1 = cc in absurd (omega arith)
    go false f = refl

cycle-refused : (s ts st o : List ℕ) → Keeps st (cycle_call s ts st o)
unfolding cycle_call keeps
cycle-refused s ts st o = verdict_all (Keeps st) (next (with_tokens s ts) (held true st)) _ _ (λ h e. cycle_keeps st o h.net h.state (finding h.net h.state)) (λ n p x y z f. refl)

-- a run that did no cycle leaves the bytes
run-refused : (s ts st : List ℕ) (budget n p : ℕ) → Octets st → (run_call s ts st budget).answer ≡ refused n p 0 → (run_call s ts st budget).bytes ≡ st
unfolding run_call run_of leaves keeps counted after_cycles
run-refused s ts st budget n p oct =
    verdict_all (λ x. x.answer ≡ refused n p 0 → x.bytes ≡ st) (or_refuse (leb budget 65535) 2 0 (next (with_tokens s ts) (held true st))) _ _
    (λ h e f. none_done h (fine s ts st h oct (or_refuse_good (leb budget 65535) 2 0 _ h e).1) f)
    (λ x y f. refl)
  where
    none_done : (h : Held) → Fine st h → (run_of st h.net (run h.net budget h.state)).answer ≡ refused n p 0 → (run_of st h.net (run h.net budget h.state)).bytes ≡ st
    none_done h x f =
        let m = h.net in
        let e = run m budget h.state in
        let z : e.cycles ≡ 0 = sym (counted_said e.ending e.cycles) ∙ ap counted f in
        let w : e.state ≡ state_in m st = run-cycles m budget h.state ∙ ap (λ (c : ℕ). after_cycles m c h.state) z ∙ x.is in
        ap (λ (y : State). bytes_of m y ++ drop (state_size m) st) w ∙ ap (λ (l : List ℕ). l ++ drop (state_size m) st) (state_whole m true st oct x.fits x.long) ∙ take-append-drop (state_size m) st

pub refusals : Refusals
refusals = record { load = load-refused; cycle = cycle-refused; write = write-refused; run = run-refused }
