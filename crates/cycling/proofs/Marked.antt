-- The marked set: what it says of each process, and of the finding.
-- Assumes nothing.
use mathlib.Core.Path.{◌≡◌, refl, sym, ap, ◌∙◌}
use mathlib.Core.Logic.{◌≢◌}
use mathlib.Core.Bool.{Bool, true, false}
use mathlib.Core.List.{List, [], ◌∷◌}
use Prim.Native.Nat.{ℕ, zero, suc, ◌+◌, ◌-◌, ◌≤◌, ◌<◌}
use native.Mathlib.Omega.{arith}
use lib.Dec.{eqb}
use lib.ListN.{length}
use lib.Pow.{pow_pos}
use Rattle.std.specs.Prelude.{Result, Ok, Err}
use Rattle.model.specs.declared.Refusal.{Refusal}
use Rattle.model.specs.declared.Fault.{Fault}
use Rattle.model.specs.declared.Fault.TheVariants.{ZeroDivisor}
use Rattle.model.specs.declared.Reason.{Reason}
use Rattle.model.specs.declared.Reason.TheVariants as reasons
use Rattle.model.specs.Reasons.{fault_number, reason_number}
use Rattle.model.specs.Network.{Net, State}
use Rattle.model.specs.NetworkFile.{hit, count}
use Rattle.model.specs.Cycles.{Mark, quiet, fires, faulty, marked, mark as mark_at, keep_if, marked_from, marked_of, marked_set, rule_numbers, processes, up_from, bits, has, Finding, broken, still, moving, blame, fault_in, any_mark, finding}
use Rattle.model.specs.Calls.{Marking, marks, refused, refusal, marks_of, no_marks}
use Rattle.model.proofs.Tests.{same_or}
use Rattle.model.proofs.Order.{hit_same, hit_other}
use Rattle.model.proofs.Sound.{marked_le, marked_once, up_from_below, up_from_in}
use Rattle.model.proofs.AnyOrder.{bit}
use Rattle.marking.specs.Noted.{marking_of}
use Rattle.cycling.specs.Cycling.{Told}

-- ── a process and its bit ────────────────────────────────────────────────────────────────────

-- the marked ones from k on
pub marked_here : (m : ℕ → Mark) (k p : ℕ) → k < p → marked_from m (up_from k (p - k)) ≡ keep_if (marked (m k)) k (marked_from m (up_from (k + 1) (p - (k + 1))))
unfolding marked_from up_from
marked_here m k p l =
    let e : p - k ≡ suc (p - (k + 1)) = omega arith in
    let f : suc k ≡ k + 1 = omega arith in
    rw e (ap (λ (j : ℕ). keep_if (marked (m k)) k (marked_from m (up_from j (p - (k + 1))))) f)

count_here : (b : Bool) (k : ℕ) (ks : List ℕ) → count k ks ≡ 0 → count k (keep_if b k ks) ≡ hit b
unfolding keep_if count hit
count_here true k ks z = omega (arith, z, hit_same k k refl)
count_here false k ks z = z

count_past : (b : Bool) (i k : ℕ) (ks : List ℕ) → i ≢ k → count k (keep_if b i ks) ≡ count k ks
unfolding keep_if count
count_past true i k ks f = omega (arith, hit_other i k f)
count_past false i k ks f = refl

marked_count : (m : ℕ → Mark) (i c k : ℕ) → i ≤ k → k < i + c → count k (marked_from m (up_from i c)) ≡ hit (marked (m k))
unfolding marked_from up_from
marked_count m i zero k l h = absurd (omega arith)
marked_count m i (suc c) k l h =
    same_or i k
    (λ e. rw e (count_here (marked (m k)) k (marked_from m (up_from (suc k) c)) (omega (arith, marked_le m (up_from (suc k) c) k, up_from_below (suc k) c k (omega arith)))))
    (λ f. count_past (marked (m i)) i k (marked_from m (up_from (suc i) c)) f ∙ marked_count m (suc i) c k (omega (arith, l, f)) (omega arith))

hit_one : (b : Bool) → eqb (hit b) 1 ≡ b
unfolding hit
hit_one true = refl
hit_one false = refl

module _ (n : Net) (s : State) where
  -- bit k of the marked set tells whether process k is marked
  pub has-marked : (k : ℕ) → k < length n.procs → has (marked_set n s) k ≡ marked (mark_at n s k)
  unfolding has marked_set
  has-marked k l =
      let e : count k (marked_of n s) ≡ hit (marked (mark_at n s k)) = unfold marked_of processes in marked_count (mark_at n s) 0 (length n.procs) k (omega arith) (omega arith) in
      ap (λ (x : ℕ). eqb x 1) (bit k (marked_of n s) (marked_once n s) ∙ e) ∙ hit_one (marked (mark_at n s k))

-- ── the finding ──────────────────────────────────────────────────────────────────────────────

-- where no fault is met, the rest decides
no_fault : (m : ℕ → Mark) (ks : List ℕ) (f : Finding) → ((k : ℕ) (x : Fault) → fault_in m ks f ≢ broken k x) → fault_in m ks f ≡ f
unfolding fault_in blame
no_fault m [] f c = refl
no_fault m (k ∷ ks) f c = go (m k) c (no_fault m ks f)
  where
    go : (x : Mark) → ((j : ℕ) (y : Fault) → blame k x (fault_in m ks f) ≢ broken j y) → (((j : ℕ) (y : Fault) → fault_in m ks f ≢ broken j y) → fault_in m ks f ≡ f) → blame k x (fault_in m ks f) ≡ f
    go quiet d ih = ih d
    go (fires r) d ih = ih d
    go (faulty x) d ih = absurd (d k x refl)

-- a fault is that of a process in the list
fault_known : (m : ℕ → Mark) (ks : List ℕ) (f : Finding) (k : ℕ) (x : Fault) → ((j : ℕ) (y : Fault) → f ≢ broken j y) → fault_in m ks f ≡ broken k x → 1 ≤ count k ks
unfolding fault_in blame count
fault_known m [] f k x c e = absurd (c k x e)
fault_known m (j ∷ js) f k x c e = go (m j) e (fault_known m js f k x c)
  where
    go : (y : Mark) → blame j y (fault_in m js f) ≡ broken k x → (fault_in m js f ≡ broken k x → 1 ≤ count k js) → 1 ≤ hit (eqb j k) + count k js
    go quiet g ih = omega (arith, ih g)
    go (fires r) g ih = omega (arith, ih g)
    go (faulty y) g ih = let q : j ≡ k = cc in omega (arith, hit_same j k q)

any-calm : (ks : List ℕ) (j : ℕ) (y : Fault) → any_mark ks ≢ broken j y
unfolding any_mark
any-calm [] j y e = let z : ◌≡◌ {A = ℕ} 0 1 = cc in omega arith
any-calm (k ∷ ks) j y e = let z : ◌≡◌ {A = ℕ} 0 1 = cc in omega arith

module _ (n : Net) (s : State) where
  pub broken_known : (k : ℕ) (x : Fault) → finding n s ≡ broken k x → k < length n.procs
  unfolding finding processes
  broken_known k x e =
      omega (arith, up_from_in 0 (length n.procs) k (fault_known (mark_at n s) (up_from 0 (length n.procs)) (any_mark (marked_of n s)) k x (any-calm (marked_of n s)) e))

  module _ (calm : (k : ℕ) (x : Fault) → finding n s ≢ broken k x) where
    by_marks : finding n s ≡ any_mark (marked_of n s)
    unfolding finding
    by_marks = no_fault (mark_at n s) (processes n) (any_mark (marked_of n s)) calm

    pub at_rest : marked_set n s ≡ 0 → finding n s ≡ still
    unfolding marked_set bits any_mark
    at_rest e = by_marks ∙ go (marked_of n s) e
      where
        go : (ks : List ℕ) → bits ks ≡ 0 → any_mark ks ≡ still
        go [] f = refl
        go (k ∷ ks) f = absurd (omega (arith, f, pow_pos k))

    pub at_work : marked_set n s ≢ 0 → finding n s ≡ moving
    unfolding marked_set bits any_mark
    at_work e = by_marks ∙ go (marked_of n s) e
      where
        go : (ks : List ℕ) → bits ks ≢ 0 → any_mark ks ≡ moving
        go [] f = absurd (f refl)
        go (k ∷ ks) f = refl

-- ── what the marking's answer tells ──────────────────────────────────────────────────────────

-- a refusal with a fault's number is of that fault
by_number : (r : Reason) (x : Fault) → reason_number r ≡ fault_number x → r ≡ reasons.Fault x
unfolding reason_number fault_number
by_number reasons.Form ZeroDivisor e = absurd (omega arith)
by_number reasons.Limits ZeroDivisor e = absurd (omega arith)
by_number reasons.Ports ZeroDivisor e = absurd (omega arith)
by_number reasons.Types ZeroDivisor e = absurd (omega arith)
by_number reasons.Tokens ZeroDivisor e = absurd (omega arith)
by_number reasons.Space ZeroDivisor e = absurd (omega arith)
by_number reasons.State ZeroDivisor e = absurd (omega arith)
by_number reasons.Order ZeroDivisor e = absurd (omega arith)
by_number (reasons.Fault ZeroDivisor) ZeroDivisor e = refl

-- a refusal tells the fault that was found, with its process
pub record Blamed (n : Net) (s : State) (x : Refusal) : Type 0 where
  pub fault : Fault
  pub reason : x.reason ≡ reasons.Fault fault
  pub found : finding n s ≡ broken x.place fault

module _ (n : Net) (s : State) where
  both_known : (set : ℕ) (rules : List ℕ) → ((k : ℕ) (x : Fault) → finding n s ≢ broken k x) → ◌≡◌ {A = Marking} (record { answer = marks set; rules = rules }) (record { answer = marks (marked_set n s); rules = rule_numbers n s }) → Told n s set rules
  both_known set rules c e =
      let f : marks set ≡ marks (marked_set n s) = ap (λ (m : Marking). m.answer) e in
      record { calm = c; marks = cc; noted = record { same = ap (λ (m : Marking). m.rules) e } }

  pub told : (r : Result ℕ Refusal) (set : ℕ) (rules : List ℕ) → r ≡ Ok set → marking_of r rules ≡ marks_of n s (finding n s) → Told n s set rules
  unfolding marking_of marks_of no_marks
  told r set rules q e = go (finding n s) refl (ap (λ (x : Result ℕ Refusal). marking_of x rules) (sym q) ∙ e)
    where
      go : (f : Finding) → finding n s ≡ f → record { answer = marks set; rules = rules } ≡ marks_of n s f → Told n s set rules
      go (broken k x) g h = let z : marks set ≡ refused (fault_number x) k 0 = ap (λ (m : Marking). m.answer) h in let y : ◌≡◌ {A = ℕ} 0 1 = cc in absurd (omega arith)
      go still g h = both_known set rules (λ k x q. (let z : still ≡ broken k x = sym g ∙ q in let y : ◌≡◌ {A = ℕ} 0 1 = cc in omega arith)) h
      go moving g h = both_known set rules (λ k x q. (let z : moving ≡ broken k x = sym g ∙ q in let y : ◌≡◌ {A = ℕ} 0 1 = cc in omega arith)) h

  pub not_told : (r : Result ℕ Refusal) (x : Refusal) (rules : List ℕ) → r ≡ Err x → marking_of r rules ≡ marks_of n s (finding n s) → Blamed n s x
  unfolding marking_of marks_of no_marks refusal
  not_told r x rules q e = go (finding n s) refl (ap (λ (m : Marking). m.answer) (ap (λ (y : Result ℕ Refusal). marking_of y rules) (sym q) ∙ e))
    where
      go : (f : Finding) → finding n s ≡ f → refused (reason_number x.reason) x.place 0 ≡ (marks_of n s f).answer → Blamed n s x
      go (broken k y) g h = let z : reason_number x.reason ≡ fault_number y = cc in let l : x.place ≡ k = cc in record { fault = y; reason = by_number x.reason y z; found = rw l g }
      go still g h = let y : ◌≡◌ {A = ℕ} 0 1 = cc in absurd (omega arith)
      go moving g h = let y : ◌≡◌ {A = ℕ} 0 1 = cc in absurd (omega arith)
