-- What each kind of process asks for, from a mark at the cycle's start and a deed that can be done; and the model's firing by them.
-- Assumes nothing.
use mathlib.Core.Path.{◌≡◌, refl, sym, ◌∙◌, subst}
use mathlib.Core.Bool.{true}
use mathlib.Core.List.{List}
use Prim.Native.Nat.{ℕ, ◌+◌, ◌≤◌, ◌<◌}
use Rattle.model.specs.Network.{box, Net, Proc, State, wire, proc, own}
use Rattle.model.specs.NetworkFile.{box_at}
use Rattle.model.specs.States.{tokens_fit}
use Rattle.model.specs.Cycles.{Mark, fires, deed, rule_of, fire, mark_of, mark}
use Rattle.model.specs.Orders.{on_wire}
use Rattle.model.proofs.Sound.{rule_chosen}
use Rattle.model.proofs.Order.{Ready}
use Rattle.model.proofs.Kept.{GoodOwn}
use Rattle.table.specs.declared.Counts.{Counts}
use Rattle.table.specs.Table.{index_in}
use Rattle.places.specs.Standing.{net_in, Standing, state_of}
use Rattle.places.proofs.Standing.{state_good}
use Rattle.moves.specs.Moves.{Became}
use Rattle.marking.proofs.Boxmarks.{proc_is}
use Rattle.taking.specs.Taking.{fired, InputReady, OutputReady}
use Rattle.taking.proofs.Due.{input_due, output_due}
use Rattle.firing.specs.Firing.{deed_at, Sound, BoxReady, Chosen}

-- the model's firing under a mark is the firing under its rule
pub fire_is : (n : Net) (m : ℕ → Mark) (k r : ℕ) (s : State) → m k ≡ fires r → fire n m k s ≡ fired n k r s
unfolding fire deed fired rule_of
fire_is n m k r s e = rw e refl

-- what is ready in a cycle can be done, where its tokens and what is kept are of the types
pub sound : (n : Net) (m : ℕ → Mark) (k r : ℕ) (s : State) → m k ≡ fires r → Ready n m k s
    → ((w : ℕ) → tokens_fit (wire n w).ty (on_wire w (deed n m k s).put) ≡ true) → GoodOwn n (proc n k) (deed n m k s).keeps → Sound n s k (deed_at n k r s)
sound n m k r s e q f g =
    let y : deed n m k s ≡ deed_at n k r s = unfold deed deed_at rule_of in rw e refl in
    subst (Sound n s k) y (record { has = q.has; room = q.room; fit = f; keeps = g })

module _ (s t p ts b : List ℕ) (c : Counts) (h : Standing s t p ts b c) (k r : ℕ) (x : Chosen c (net_in s t c ts) (state_of s t c ts b) k r) where
  abbrev n : Net
  n = net_in s t c ts

  abbrev st : State
  st = state_of s t c ts b

  ready : Ready n (λ j. fires r) k st
  unfolding deed rule_of deed_at
  ready = record { shape = (state_good s t p ts b c h).queues; has = x.sound.has; room = x.sound.room }

  pub as_box : k < c.boxes → BoxReady (box_at s (index_in t c) k) c n st k r
  as_box l =
      let i = index_in t c in
      let f : mark_of n x.start (box (box_at s i k)) (own x.start k) ≡ fires r = subst (λ (y : Proc). mark_of n x.start y (own x.start k) ≡ fires r) (proc_is s t p ts b c h k l) (unfold mark in x.marked) in
      record { known = l; there = (rule_chosen n x.start (box_at s i k) (own x.start k) r f).0; sound = x.sound }

  module _ (from : c.boxes ≤ k) (to : k < c.boxes + c.inputs) where
    pub as_input : InputReady c n st k
    as_input = (input_due s t p ts b c h (λ j. fires r) k ready x.start r x.same x.marked from to).0

    pub input_done : (b' : List ℕ) → Became s t p ts b c b' (fired n k 0 st) → Became s t p ts b c b' (fired n k r st)
    input_done b' y = subst (λ (z : State). Became s t p ts b c b' z) (sym (input_due s t p ts b c h (λ j. fires r) k ready x.start r x.same x.marked from to).1 ∙ fire_is n (λ j. fires r) k r st refl) y

  module _ (from : c.boxes + c.inputs ≤ k) where
    pub as_output : OutputReady c n st k
    as_output = (output_due s t p ts b c h (λ j. fires r) k ready x.start r x.same x.marked from x.known).0

    pub output_done : (b' : List ℕ) → Became s t p ts b c b' (fired n k 0 st) → Became s t p ts b c b' (fired n k r st)
    output_done b' y = subst (λ (z : State). Became s t p ts b c b' z) (sym (output_due s t p ts b c h (λ j. fires r) k ready x.start r x.same x.marked from x.known).1 ∙ fire_is n (λ j. fires r) k r st refl) y
