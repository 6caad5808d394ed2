-- In the middle of a cycle: the processes that are still to fire can fire, each by its rule from the cycle's start.
-- Assumes nothing.
use mathlib.Core.Path.{◌≡◌, refl, sym, ap, ◌∙◌, subst}
use mathlib.Core.Bool.{Bool, true, false, not}
use mathlib.Core.List.{List, [], ◌∷◌}
use Prim.Native.Nat.{ℕ, suc, ◌+◌, ◌≤◌, ◌<◌}
use native.Mathlib.Omega.{arith}
use native.Mathlib.Decide.{dec_lt}
use lib.ListN.{length, get_or, drop, drop_of_length-le}
use lib.Seq.{get_or-set_other, drop-cons}
use borrow.Author.Tests.{lt-ltb, le-ltb}
use Rattle.model.specs.Network.{Net, vars, State, proc, own}
use Rattle.model.specs.NetworkFile.{count}
use Rattle.model.specs.Cycles.{Mark, fires, marked, flag, box_rule, mark, deed, act, fire, fire_all, cycle_in, up_from, rule_numbers}
use Rattle.model.specs.Orders.{Order}
use Rattle.model.proofs.Tests.{not-true}
use Rattle.model.proofs.Order.{OneEach, Due, due_first, due_other, due_next, deed_frame, hit_same}
use Rattle.model.proofs.Sound.{order_due, named_fires}
use Rattle.model.proofs.Decoded.{GoodNet}
use Rattle.model.proofs.Kept.{GoodDeed, GoodState, deed_good}
use Rattle.table.specs.declared.Counts.{Counts}
use Rattle.places.specs.Standing.{net_in, Standing, state_of}
use Rattle.places.proofs.Standing.{net_all, net_one, state_good}
use Rattle.ends.proofs.Ends.{ends_fires}
use Rattle.moves.specs.Moves.{Became}
use Rattle.moves.proofs.Laws.{became_none, became_more}
use Rattle.marking.proofs.Noting.{rules_at}
use Rattle.marking.proofs.Processes.{all_procs, kinds}
use Rattle.taking.specs.Taking.{fired}
use Rattle.firing.specs.Firing.{Chosen}
use Rattle.firing.proofs.Choosing.{fire_is, sound}
use Rattle.cycling.specs.Cycling.{rule_for, Noted}

-- ── in the model ─────────────────────────────────────────────────────────────────────────────

module _ (n : Net) (one : OneEach n) (s₀ : State) where
  abbrev m : ℕ → Mark
  m = mark n s₀

  -- process k, marked at the start s₀, is there, keeps in s what it kept, and what it does in s is of the types
  pub record Waits (k : ℕ) (s : State) : Type 0 where
    pub rule : ℕ
    pub fires : m k ≡ fires rule
    pub known : k < length n.procs
    pub same : own s k ≡ own s₀ k
    pub good : GoodDeed n (proc n k) (deed n m k s)

  -- the processes of a list are still to fire in s, and that ends the cycle in `end`
  pub record Midway (ks : List ℕ) (s end : State) : Type 0 where
    pub due : Due n m one ks s
    pub waits : (k : ℕ) → 1 ≤ count k ks → Waits k s
    pub rest : fire_all n m ks s ≡ end

  pub midway_first : GoodNet n → GoodState n s₀ → (ks : List ℕ) → Order n s₀ ks → Midway ks s₀ (cycle_in n ks s₀)
  midway_first gn gs ks o = record {
    due = order_due n one s₀ ks gs.queues gs.most o;
    waits = λ k h. (let f = named_fires n s₀ ks o k h in record {
      rule = f.0;
      fires = f.1;
      known = f.2;
      same = refl;
      good = deed_good n gn s₀ gs m k f.0 f.2 f.1 f.1;
    });
    rest = unfold cycle_in in refl;
  }

  module _ (k : ℕ) (ks : List ℕ) (s end : State) (h : Midway (k ∷ ks) s end) where
    pub here : Waits k s
    unfolding count
    here = h.waits k (omega (arith, hit_same k k refl))

    pub midway_next : Midway ks (fire n m k s) end
    unfolding count fire_all
    midway_next = record {
      due = due_next n m one k ks s h.due;
      waits = λ j l.
          let o = due_other n m one k ks s h.due j l in
          let w = h.waits j (omega (arith, l)) in
          let kept : own (fire n m k s) j ≡ own s j = unfold own fire act in get_or-set_other s.owns k j (deed n m k s).keeps (vars []) o.0 in
          record {
            rule = w.rule;
            fires = w.fires;
            known = w.known;
            same = kept ∙ w.same;
            good = subst (GoodDeed n (proc n j)) (sym (deed_frame n m one j k s o.0 o.1 (due_first n m one k ks s h.due))) w.good;
          };
      rest = h.rest;
    }

-- ── the rule noted ───────────────────────────────────────────────────────────────────────────

pub rule_box : (rules : List ℕ) (boxes k i : ℕ) → i ≡ k → i < boxes → get_or rules i 0 ≡ rule_for rules boxes k
unfolding rule_for
rule_box rules boxes k i e l = rw (e, lt-ltb k boxes (omega arith)) refl

pub rule_end : (rules : List ℕ) (boxes k i : ℕ) → i ≡ k → boxes ≤ i → 0 ≡ rule_for rules boxes k
unfolding rule_for
rule_end rules boxes k i e l = rw (le-ltb k boxes (omega arith)) refl

pub noted_many : (n : Net) (s : State) (rules : List ℕ) → Noted n s rules → length rules ≡ 32
unfolding rule_numbers up_from
noted_many n s rules q = ap length q.same

-- ── a test that was taken or not ─────────────────────────────────────────────────────────────

pub is_not : (u v : Bool) → v ≡ u → not v ≡ true → u ≡ false
is_not u v e f = sym e ∙ not-true v f

pub is_so : (u v : Bool) → v ≡ u → not v ≡ false → u ≡ true
is_so u true e f = sym e
is_so u false e f = let z : ◌≡◌ {A = ℕ} 0 1 = cc in absurd (omega arith)

-- ── on the lent bytes ────────────────────────────────────────────────────────────────────────

module _ (s t p ts b₀ : List ℕ) (c : Counts) (h : Standing s t p ts b₀ c) (rules : List ℕ) (q : Noted (net_in s t c ts) (state_of s t c ts b₀) rules) where
  abbrev n : Net
  n = net_in s t c ts

  abbrev s₀ : State
  s₀ = state_of s t c ts b₀

  abbrev all : ℕ
  all = c.boxes + c.inputs + c.outputs

  flag-zero : (x : Mark) (r : ℕ) → x ≡ flag (marked x) → x ≡ fires r → r ≡ 0
  unfolding flag marked
  flag-zero x r e f = let z : fires r ≡ fires 0 = sym f ∙ e ∙ ap (λ (y : Mark). flag (marked y)) f in cc

  box_rule_lem : (k r : ℕ) → k < c.boxes → mark n s₀ k ≡ fires r → box_rule (proc n k) (mark n s₀ k) ≡ r
  unfolding box_rule
  box_rule_lem k r l e = rw (e, ((kinds s t ts c h.tabled).inside k l).1) refl

  -- the rule noted is the rule of the mark
  rule_is_lem : (k r : ℕ) → k < all → mark n s₀ k ≡ fires r → rule_for rules c.boxes k ≡ r
  unfolding rule_for
  rule_is_lem k r l e = go (dec_lt k c.boxes)
    where
      go : Dec (k < c.boxes) → rule_for rules c.boxes k ≡ r
      go (yes i) = rw (lt-ltb k c.boxes i, q.same) (rules_at n s₀ k (omega (arith, i, h.tabled.within.boxes)) ∙ box_rule_lem k r i e)
      go (no i) = rw (le-ltb k c.boxes (omega (arith, i))) (sym (flag-zero (mark n s₀ k) r (ends_fires s t p ts b₀ c h k (omega (arith, i)) l) e))

  -- the processes of a list are still to fire on the bytes b
  pub record Left (ks : List ℕ) (end : State) (b : List ℕ) : Type 0 where
    pub became : Became s t p ts b₀ c b (state_of s t c ts b)
    pub midway : Midway n (net_one s t p ts b₀ c h) s₀ ks (state_of s t c ts b) end

  pub left_first : (ks : List ℕ) → Order n s₀ ks → Left ks (cycle_in n ks s₀) b₀
  left_first ks o = record { became = became_none s t p ts c b₀ h; midway = midway_first n (net_one s t p ts b₀ c h) s₀ (net_all s t p ts b₀ c h) (state_good s t p ts b₀ c h) ks o }

  pub left_last : (end : State) (b : List ℕ) → Left [] end b → Became s t p ts b₀ c b end
  unfolding fire_all
  left_last end b x = subst (Became s t p ts b₀ c b) x.midway.rest x.became

  -- the first of what is left of an order, and its end
  pub left_turn : (order : List ℕ) (i : ℕ) (end : State) (b : List ℕ) → i < length order → Left (drop i order) end b → Left (get_or order i 0 ∷ drop (i + 1) order) end b
  left_turn order i end b l x =
      let e : suc i ≡ i + 1 = omega arith in
      subst (λ (ks : List ℕ). Left ks end b) (drop-cons order i 0 l ∙ ap (λ (j : ℕ). get_or order i 0 ∷ drop j order) e) x

  pub left_end : (order : List ℕ) (i : ℕ) (end : State) (b : List ℕ) → length order ≤ i → Left (drop i order) end b → Became s t p ts b₀ c b end
  left_end order i end b l x = left_last end b (subst (λ (ks : List ℕ). Left ks end b) (drop_of_length-le order {i = i} l) x)

  module _ (k : ℕ) (ks : List ℕ) (end : State) (b : List ℕ) (x : Left (k ∷ ks) end b) where
    abbrev now : State
    now = state_of s t c ts b

    waits : Waits n (net_one s t p ts b₀ c h) s₀ k now
    waits = here n (net_one s t p ts b₀ c h) s₀ k ks now end x.midway

    known : k < all
    known = omega (arith, waits.known, all_procs s t ts c h.tabled)

    noted : rule_for rules c.boxes k ≡ waits.rule
    noted = rule_is_lem k waits.rule known waits.fires

    pub left_asks : Chosen c n now k (rule_for rules c.boxes k)
    left_asks = rw noted (record {
      known = known;
      start = s₀;
      same = waits.same;
      marked = waits.fires;
      sound = sound n (mark n s₀) k waits.rule now waits.fires (due_first n (mark n s₀) (net_one s t p ts b₀ c h) k ks now x.midway.due) waits.good.put waits.good.keeps;
    })

    pub left_next : (b' : List ℕ) → Became s t p ts b c b' (fired n k (rule_for rules c.boxes k) now) → Left ks end b'
    left_next b' y =
        let e : fired n k (rule_for rules c.boxes k) now ≡ fire n (mark n s₀) k now = ap (λ (r : ℕ). fired n k r now) noted ∙ sym (fire_is n (mark n s₀) k waits.rule now waits.fires) in
        let z : Became s t p ts b c b' (fire n (mark n s₀) k now) = subst (Became s t p ts b c b') e y in
        let w : state_of s t c ts b' ≡ fire n (mark n s₀) k now = z.state in
        record {
          became = subst (Became s t p ts b₀ c b') (sym w) (became_more s t p ts c b₀ b b' now (fire n (mark n s₀) k now) x.became z);
          midway = subst (λ (y : State). Midway n (net_one s t p ts b₀ c h) s₀ ks y end) (sym w) (midway_next n (net_one s t p ts b₀ c h) s₀ k ks now end x.midway);
        }
