-- Marks noted one process after another.
-- Assumes nothing.
use mathlib.Core.Path.{◌≡◌, refl, sym, ap, ap₂, ◌∙◌}
use mathlib.Core.Bool.{Bool, true, false, cond}
use mathlib.Core.List.{List, [], ◌∷◌, map}
use Prim.Native.Nat.{ℕ, zero, suc, ◌+◌, ◌-◌, ◌*◌, ◌^◌, ◌≤◌, ◌<◌}
use native.Mathlib.Nat.{sub-zero, zero-add}
use native.Mathlib.Omega.{arith}
use native.Mathlib.Decide.{dec_lt}
use lib.Dec.{ltb}
use lib.ListN.{length, get_or, set, replicate, length-set, get_or-eq_default}
use lib.Pow.{pow-add}
use lib.Seq.{ext_get_or, get_or-set_same, get_or-set_other}
use borrow.Author.Tests.{lt-ltb, le-ltb}
use Rattle.std.specs.Prelude.{Some, None, Ok, Err}
use Rattle.model.specs.declared.Fault.{Fault}
use Rattle.model.specs.declared.RuleId.{RuleId}
use Rattle.model.specs.Network.{Box, box, Net, State, nobody, proc}
use Rattle.model.specs.Cycles.{Mark, quiet, fires, faulty, mark, marked, keep_if, marked_from, marked_of, processes, bits, marked_set, box_rule, rule_numbers, Finding, broken, blame, fault_in, any_mark, finding, first, tried as tried_rules, mark_of, up_from}
use Rattle.model.specs.Calls as calls
use Rattle.trying.specs.Views.{mark_as}
use Rattle.marking.specs.Noted.{step_as, with_rule, rules_as}

pow_more : (k : ℕ) → 2 ^ (k + 1) ≡ 2 ^ k + 2 ^ k
pow_more k = let e : 2 ^ (k + 1) ≡ 2 ^ k * 2 = pow-add 2 k 1 in omega arith

-- ── one mark, as the code says it ────────────────────────────────────────────────────────────

pub noted_out : (k j boxes r : ℕ) (rules : List ℕ) → j ≡ k → boxes ≤ j → rules ≡ with_rule k boxes r rules
unfolding with_rule
noted_out k j boxes r rules e l = sym (rw (le-ltb k boxes (omega arith)))

pub noted_in : (k j boxes r : ℕ) (rules : List ℕ) → j ≡ k → j < boxes → set rules j r ≡ with_rule k boxes r rules
unfolding with_rule
noted_in k j boxes r rules e l = rw (e, lt-ltb k boxes (omega arith))

module _ (k set' boxes : ℕ) (rules : List ℕ) where
  pub step_quiet : (q : Mark) → Ok None ≡ mark_as q → (Ok set' ≡ step_as q k set') × (rules ≡ rules_as q k boxes rules)
  unfolding mark_as step_as rules_as
  step_quiet quiet e = (refl, refl)
  step_quiet (fires r) e = absurd cc
  step_quiet (faulty x) e = absurd cc

  pub step_faulty : (q : Mark) (x : Fault) → Err x ≡ mark_as q → (Err x ≡ step_as q k set') × (rules ≡ rules_as q k boxes rules)
  unfolding mark_as step_as rules_as
  step_faulty quiet x e = absurd cc
  step_faulty (fires r) x e = absurd cc
  step_faulty (faulty y) x e = let z : x ≡ y = cc in (ap Err z, refl)

  pub step_fires : (q : Mark) (r : RuleId) {y : ℕ} {rs : List ℕ} → Ok (Some r) ≡ mark_as q → y ≡ set' + 2 ^ k → rs ≡ with_rule k boxes r.0 rules
      → (Ok y ≡ step_as q k set') × (rs ≡ rules_as q k boxes rules)
  unfolding mark_as step_as rules_as
  step_fires quiet r e f g = absurd cc
  step_fires (fires x) r e f g = let z : r.0 ≡ x = cc in (ap Ok f, g ∙ ap (λ (j : ℕ). with_rule k boxes j rules) z)
  step_fires (faulty x) r e f g = absurd cc

pub many_as : (q : Mark) (k boxes : ℕ) (rules : List ℕ) {rs : List ℕ} → rs ≡ rules_as q k boxes rules → length rs ≡ length rules
unfolding rules_as with_rule
many_as quiet k boxes rules e = ap length e
many_as (fires r) k boxes rules e = ap length e ∙ go (ltb k boxes)
  where
    go : (t : Bool) → length (cond t (set rules k r) rules) ≡ length rules
    go true = length-set rules k r
    go false = refl
many_as (faulty x) k boxes rules e = ap length e

-- ── one after another ────────────────────────────────────────────────────────────────────────

-- the first so many of p processes are boxes, the others aren't
pub record Kinds (n : Net) (boxes p : ℕ) : Type 0 where
  pub inside : (k : ℕ) → k < boxes → (b : Box) × (proc n k ≡ box b)
  pub outside : (k : ℕ) (q : Mark) → boxes ≤ k → k < p → box_rule (proc n k) q ≡ 16

module _ (n : Net) (s : State) where
  abbrev m : ℕ → Mark
  m = mark n s

  -- the first k of p processes are noted, and none of them faults
  pub record SoFar (p k set' : ℕ) (rules : List ℕ) : Type 0 where
    pub bits : set' + bits (marked_from m (up_from k (p - k))) ≡ marked_set n s
    pub small : set' < 2 ^ k
    pub fault : fault_in m (up_from k (p - k)) (any_mark (marked_of n s)) ≡ finding n s
    pub many : length rules ≡ 32
    pub each : (i : ℕ) → i < 32 → get_or rules i 0 ≡ cond (ltb i k) (box_rule (proc n i) (m i)) 16

  sixteen : (k i : ℕ) → i < k → ◌≡◌ {A = ℕ} (get_or (replicate k 16) i 0) 16
  sixteen zero i l = absurd (omega arith)
  sixteen (suc k) zero l = refl
  sixteen (suc k) (suc i) l = sixteen k i (omega arith)

  pub so_far_first : (p : ℕ) (rules : List ℕ) → p ≡ length n.procs → rules ≡ replicate 32 16 → SoFar p 0 0 rules
  unfolding marked_set marked_of processes finding
  so_far_first p rules e g = rw g (record {
    bits = rw (e, sub-zero (length n.procs)) (zero-add _);
    small = omega arith;
    fault = rw (e, sub-zero (length n.procs));
    many = refl;
    each = λ i l. sixteen 32 i l ∙ rw (le-ltb i 0 (omega arith));
  })

  module _ (p k set' : ℕ) (rules : List ℕ) (h : SoFar p k set' rules) (l : k < p) where
    next_up : up_from k (p - k) ≡ k ∷ up_from (suc k) (p - suc k)
    unfolding up_from
    next_up = let e : p - k ≡ suc (p - suc k) = omega arith in ap (up_from k) e

    after : suc k ≡ k + 1
    after = omega arith

    pub so_far_fault : (x : Fault) → m k ≡ faulty x → finding n s ≡ broken k x
    unfolding fault_in blame
    so_far_fault x e = sym h.fault ∙ ap (λ (ks : List ℕ). fault_in m ks (any_mark (marked_of n s))) next_up ∙ rw e

    -- a process that doesn't fault leaves the fault to the rest
    fault_next : (q : Mark) → m k ≡ q → ((y : Finding) → blame k q y ≡ y) → fault_in m (up_from (k + 1) (p - (k + 1))) (any_mark (marked_of n s)) ≡ finding n s
    unfolding fault_in
    fault_next q e f = ap (λ (j : ℕ). fault_in m (up_from j (p - j)) (any_mark (marked_of n s))) (sym after) ∙ sym (f _) ∙ ap (λ (y : Mark). blame k y (fault_in m (up_from (suc k) (p - suc k)) (any_mark (marked_of n s)))) (sym e) ∙ sym (ap (λ (ks : List ℕ). fault_in m ks (any_mark (marked_of n s))) next_up) ∙ h.fault

    bits_next : (b : Bool) → marked (m k) ≡ b → bits (marked_from m (up_from k (p - k))) ≡ bits (keep_if b k (marked_from m (up_from (k + 1) (p - (k + 1)))))
    unfolding marked_from
    bits_next b e = ap (λ (ks : List ℕ). bits (marked_from m ks)) next_up ∙ rw e (ap (λ (j : ℕ). bits (keep_if b k (marked_from m (up_from j (p - j))))) after)

    below : {a b : ℕ} (i : ℕ) → (i < k → a ≡ b) → (i ≡ k → a ≡ b) → (k < i → a ≡ b) → a ≡ b
    below {a} {b} i f g u = by_left (dec_lt i k)
      where
        by_right : Dec (k < i) → (i < k → ⊥) → a ≡ b
        by_right (yes q) o = u q
        by_right (no q) o = g (omega (arith, q, o))

        by_left : Dec (i < k) → a ≡ b
        by_left (yes q) = f q
        by_left (no q) = by_right (dec_lt k i) q

    -- the rule numbers with one process more
    rules_next : (rules' : List ℕ) → ((i : ℕ) → i < 32 → (i ≡ k → ⊥) → get_or rules' i 0 ≡ get_or rules i 0) → (k < 32 → get_or rules' k 0 ≡ box_rule (proc n k) (m k))
        → (i : ℕ) → i < 32 → get_or rules' i 0 ≡ cond (ltb i (k + 1)) (box_rule (proc n i) (m i)) 16
    rules_next rules' f g i q =
        below i
        (λ a. f i q (λ e. omega (arith, a, e)) ∙ h.each i q ∙ rw (lt-ltb i k a, lt-ltb i (k + 1) (omega (arith, a))))
        (λ e. rw e (g (omega (arith, q, e)) ∙ rw (lt-ltb k (k + 1) (omega arith))))
        (λ a. f i q (λ e. omega (arith, a, e)) ∙ h.each i q ∙ rw (le-ltb i k (omega (arith, a)), le-ltb i (k + 1) (omega (arith, a))))

    sixteen_at : k < 32 → get_or rules k 0 ≡ 16
    sixteen_at q = h.each k q ∙ rw (le-ltb k k (omega arith))

    pub so_far_quiet : m k ≡ quiet → box_rule (proc n k) quiet ≡ 16 → SoFar p (k + 1) set' rules
    unfolding marked keep_if blame
    so_far_quiet e b = record {
      bits = sym (ap (λ (j : ℕ). set' + j) (bits_next false (ap marked e))) ∙ h.bits;
      small = omega (arith, h.small, pow_more k);
      fault = fault_next quiet e (λ y. refl);
      many = h.many;
      each = rules_next rules (λ i q f. refl) (λ q. sixteen_at q ∙ sym b ∙ ap (box_rule (proc n k)) (sym e));
    }

    pub so_far_fires : (r boxes : ℕ) → m k ≡ fires r → boxes ≤ 32 → (k < boxes → box_rule (proc n k) (fires r) ≡ r) → (boxes ≤ k → box_rule (proc n k) (fires r) ≡ 16) → SoFar p (k + 1) (set' + 2 ^ k) (with_rule k boxes r rules)
    unfolding marked keep_if blame bits with_rule
    so_far_fires r boxes e few inside outside = record {
      bits = omega (arith, bits_next true (ap marked e), h.bits);
      small = omega (arith, h.small, pow_more k);
      fault = fault_next (fires r) e (λ y. refl);
      many = by_many (ltb k boxes);
      each = by_box (dec_lt k boxes);
    }
      where
        by_many : (t : Bool) → length (cond t (set rules k r) rules) ≡ 32
        by_many true = length-set rules k r ∙ h.many
        by_many false = h.many

        with_in : k < boxes → with_rule k boxes r rules ≡ set rules k r
        with_in q = unfold with_rule in rw (lt-ltb k boxes q)

        with_out : boxes ≤ k → with_rule k boxes r rules ≡ rules
        with_out q = unfold with_rule in rw (le-ltb k boxes q)

        by_box : Dec (k < boxes) → (i : ℕ) → i < 32 → get_or (with_rule k boxes r rules) i 0 ≡ cond (ltb i (k + 1)) (box_rule (proc n i) (m i)) 16
        by_box (yes q) = rw (with_in q) (rules_next (set rules k r) (λ i j f. get_or-set_other rules k i r 0 f) (λ j. get_or-set_same rules k r 0 (omega (arith, j, h.many)) ∙ sym (ap (box_rule (proc n k)) e ∙ inside q)))
        by_box (no q) = rw (with_out (omega (arith, q))) (rules_next rules (λ i j f. refl) (λ j. sixteen_at j ∙ sym (ap (box_rule (proc n k)) e ∙ outside (omega (arith, q)))))

  -- one process more, by what the code says of its mark
  module _ (p k set' boxes : ℕ) (rules : List ℕ) (h : SoFar p k set' rules) (l : k < p) (few : boxes ≤ 32) (w : Kinds n boxes p) where
    in-box : (r : ℕ) → k < boxes → box_rule (proc n k) (fires r) ≡ r
    unfolding box_rule
    in-box r q = let b = w.inside k q in rw b.1

    quiet_rule : box_rule (proc n k) quiet ≡ 16
    unfolding box_rule
    quiet_rule = go (dec_lt k boxes)
      where
        go : Dec (k < boxes) → box_rule (proc n k) quiet ≡ 16
        go (yes q) = let b = w.inside k q in rw b.1
        go (no q) = w.outside k quiet (omega (arith, q)) l

    pub so_far_go : (y : ℕ) (rules' : List ℕ) → Ok y ≡ step_as (m k) k set' → rules' ≡ rules_as (m k) k boxes rules → SoFar p (k + 1) y rules'
    unfolding step_as rules_as
    so_far_go y rules' e f = go (m k) refl (e ∙ refl) (f ∙ refl)
      where
        go : (q : Mark) → m k ≡ q → Ok y ≡ step_as q k set' → rules' ≡ rules_as q k boxes rules → SoFar p (k + 1) y rules'
        go quiet g e' f' = let z : y ≡ set' = cc in rw (z, f') (so_far_quiet p k set' rules h l g quiet_rule)
        go (fires r) g e' f' = let z : y ≡ set' + 2 ^ k = cc in rw (z, f') (so_far_fires p k set' rules h l r boxes g few (in-box r) (λ q. w.outside k (fires r) q l))
        go (faulty x) g e' f' = absurd cc

    pub so_far_broken : (x : Fault) → Err x ≡ step_as (m k) k set' → finding n s ≡ broken k x
    unfolding step_as
    so_far_broken x e = go (m k) refl e
      where
        go : (q : Mark) → m k ≡ q → Err x ≡ step_as q k set' → finding n s ≡ broken k x
        go quiet g e' = absurd cc
        go (fires r) g e' = absurd cc
        go (faulty y) g e' = let z : x ≡ y = cc in so_far_fault p k set' rules h l x (g ∙ ap faulty (sym z))

  -- past the last process there is no box
  beyond : (p i : ℕ) → p ≡ length n.procs → p ≤ i → box_rule (proc n i) (m i) ≡ 16
  unfolding mark proc nobody mark_of tried_rules first up_from box_rule
  beyond p i e l = rw (get_or-eq_default n.procs nobody {n = i} (omega (arith, e, l)))

  map_up : (f : ℕ → ℕ) (j k i : ℕ) → i < k → get_or (map f (up_from j k)) i 0 ≡ f (j + i)
  unfolding up_from
  map_up f j zero i l = absurd (omega arith)
  map_up f j (suc k) zero l = ap f (omega arith)
  map_up f j (suc k) (suc i) l = map_up f (suc j) k i (omega arith) ∙ ap f (omega arith)

  pub rules_at : (i : ℕ) → i < 32 → get_or (rule_numbers n s) i 0 ≡ box_rule (proc n i) (m i)
  unfolding rule_numbers
  rules_at i l = map_up (λ k. box_rule (proc n k) (m k)) 0 32 i l ∙ ap (λ (k : ℕ). box_rule (proc n k) (m k)) (zero-add i)

  any-marks : (ks : List ℕ) → calls.marks_of n s (any_mark ks) ≡ record { answer = calls.marks (marked_set n s); rules = rule_numbers n s }
  unfolding any_mark calls.marks_of
  any-marks [] = refl
  any-marks (k ∷ ks) = refl

  pub so_far_end : (p k set' : ℕ) (rules : List ℕ) → SoFar p k set' rules → p ≡ length n.procs → p ≤ k → record { answer = calls.marks set'; rules = rules } ≡ calls.marks_of n s (finding n s)
  unfolding fault_in marked_from bits up_from rule_numbers
  so_far_end p k set' rules h e l =
      let z : p - k ≡ 0 = omega arith in
      let f : any_mark (marked_of n s) ≡ finding n s = rw z at h.fault in
      let g : set' + 0 ≡ marked_set n s = rw z at h.bits in
      let each : (i : ℕ) → i < length rules → get_or rules i 0 ≡ get_or (rule_numbers n s) i 0 = λ i j. h.each i (omega (arith, j, h.many)) ∙ by_place i (dec_lt i k) ∙ sym (rules_at i (omega (arith, j, h.many))) in
      sym (ap (calls.marks_of n s) (sym f) ∙ any-marks (marked_of n s) ∙ ap₂ (λ (x : ℕ) (y : List ℕ). record { answer = calls.marks x; rules = y }) (sym g ∙ omega arith) (sym (ext_get_or 0 rules (rule_numbers n s) h.many each)))
    where
      by_place : (i : ℕ) → Dec (i < k) → cond (ltb i k) (box_rule (proc n i) (m i)) 16 ≡ box_rule (proc n i) (m i)
      by_place i (yes q) = rw (lt-ltb i k q)
      by_place i (no q) = rw (le-ltb i k (omega (arith, q))) (sym (beyond p i e (omega (arith, q, l))))
