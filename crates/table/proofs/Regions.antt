-- A store into the table: what it does to the region that it goes to, and to the others. Assumes nothing.
use Prim.Native.Nat.{ℕ, ◌+◌, ◌-◌, ◌≤◌, ◌<◌}
use mathlib.Core.Path.{◌≡◌, ap, ◌∙◌, sym}
use mathlib.Core.List.{List, [], ◌∷◌, ◌++◌}
use lib.ListN.{length, get_or, take, drop, set, length-take, length-drop, length-set}
use lib.Seq.{drop-set-add, drop-set-lt, take-set-le, take-suc-set, get_or-take, get_or-drop}
use native.Mathlib.Nat.{zero-add}
use native.Mathlib.Numerals.{add-one}
use native.Mathlib.Omega.{arith}
use Rattle.model.specs.NetworkFile.{add_field}
use Rattle.table.specs.declared.Counts.{Counts}
use Rattle.table.specs.Table.{region, index_in, Within, Noted}

pub region-length : (base n : ℕ) (t : List ℕ) → base + n ≤ length t → length (region base n t) ≡ n
unfolding region
region-length base n t h = simp (length-take, length-drop) (omega arith)

pub region_at : (base n : ℕ) (t : List ℕ) (k : ℕ) → k < n → get_or (region base n t) k 0 ≡ get_or t (base + k) 0
unfolding region
region_at base n t k h = get_or-take n (drop base t) k 0 h ∙ get_or-drop base t k 0

pub region_more : (base n : ℕ) (t : List ℕ) (v : ℕ) → base + n < length t → region base (n + 1) (set t (base + n) v) ≡ region base n t ++ (v ∷ [])
unfolding region
region_more base n t v h = rw (drop-set-add base t n v, add-one n) (take-suc-set (drop base t) n v (simp length-drop (omega arith)))

pub region_below : (base n : ℕ) (t : List ℕ) (j v : ℕ) → base + n ≤ j → region base n (set t j v) ≡ region base n t
unfolding region
region_below base n t j v h =
    let e : j ≡ base + (j - base) = omega arith in
    ap (λ (i : ℕ). take n (drop base (set t i v))) e
    ∙ ap (take n) (drop-set-add base t (j - base) v)
    ∙ take-set-le n (drop base t) (j - base) v (omega arith)

pub region_above : (base n : ℕ) (t : List ℕ) (j v : ℕ) → j < base → region base n (set t j v) ≡ region base n t
unfolding region
region_above base n t j v h = ap (take n) (drop-set-lt base t j v h)

-- one field more, by its tag
module _ (t : List ℕ) (c : Counts) (tag at : ℕ) (room : 656 ≤ length t) (w : Within c) where
  pub note_1 : tag ≡ 1 → c.wires < 64 → Noted t c tag at (set t c.wires at) (record { wires = c.wires + 1; boxes = c.boxes; rules = c.rules; inbox = c.inbox; inputs = c.inputs; outputs = c.outputs; last = tag })
  unfolding index_in add_field
  note_1 e h =
      let j = c.wires in
      record {
        index = rw e (λ i. record {
          wires = (ap (λ (k : ℕ). region 0 (j + 1) (set t k at)) (sym (zero-add j)) ∙ region_more 0 j t at (omega arith)) i;
          boxes = region_above 64 c.boxes t j at (omega arith) i;
          firsts = region_above 96 c.boxes t j at (omega arith) i;
          rules = region_above 128 c.rules t j at (omega arith) i;
          inbox = c.inbox;
          inputs = region_above 640 c.inputs t j at (omega arith) i;
          outputs = region_above 648 c.outputs t j at (omega arith) i;
          last = 1;
        });
        within = record { wires = omega arith; boxes = omega arith; rules = w.rules; inbox = omega arith; inboxes = w.inboxes; inputs = omega arith; outputs = omega arith; owned = λ z. absurd (omega arith) };
      }

  pub note_2 : tag ≡ 2 → c.boxes < 32 → Noted t c tag at (set (set t (64 + c.boxes) at) (96 + c.boxes) c.rules) (record { wires = c.wires; boxes = c.boxes + 1; rules = c.rules; inbox = 0; inputs = c.inputs; outputs = c.outputs; last = tag })
  unfolding index_in add_field
  note_2 e h =
      let j = 64 + c.boxes in
      let k = 96 + c.boxes in
      let u = set t (64 + c.boxes) at in
      let v = c.rules in
      record {
        index = rw e (λ i. record {
          wires = (region_below 0 c.wires u k v (omega arith) ∙ region_below 0 c.wires t j at (omega arith)) i;
          boxes = (region_below 64 (c.boxes + 1) u k v (omega arith) ∙ region_more 64 c.boxes t at (omega arith)) i;
          firsts = (region_more 96 c.boxes u v (simp length-set (omega arith)) ∙ (λ n. region_above 96 c.boxes t j at (omega arith) n ++ (sym (region-length 128 v t (omega arith)) n ∷ []))) i;
          rules = (region_above 128 v u k v (omega arith) ∙ region_above 128 v t j at (omega arith)) i;
          inbox = 0;
          inputs = (region_above 640 c.inputs u k v (omega arith) ∙ region_above 640 c.inputs t j at (omega arith)) i;
          outputs = (region_above 648 c.outputs u k v (omega arith) ∙ region_above 648 c.outputs t j at (omega arith)) i;
          last = 2;
        });
        within = record { wires = omega arith; boxes = omega arith; rules = omega arith; inbox = omega arith; inboxes = omega arith; inputs = omega arith; outputs = omega arith; owned = λ z. omega arith };
      }

  pub note_3 : tag ≡ 3 → c.inbox < 16 → 1 ≤ c.boxes → Noted t c tag at (set t (128 + c.rules) at) (record { wires = c.wires; boxes = c.boxes; rules = c.rules + 1; inbox = c.inbox + 1; inputs = c.inputs; outputs = c.outputs; last = 2 })
  unfolding index_in add_field
  note_3 e h g =
      let j = 128 + c.rules in
      record {
        index = rw e (λ i. record {
          wires = region_below 0 c.wires t j at (omega arith) i;
          boxes = region_below 64 c.boxes t j at (omega arith) i;
          firsts = region_below 96 c.boxes t j at (omega arith) i;
          rules = region_more 128 c.rules t at (omega arith) i;
          inbox = c.inbox + 1;
          inputs = region_above 640 c.inputs t j at (omega arith) i;
          outputs = region_above 648 c.outputs t j at (omega arith) i;
          last = 2;
        });
        within = record { wires = omega arith; boxes = omega arith; rules = omega arith; inbox = omega arith; inboxes = omega arith; inputs = omega arith; outputs = omega arith; owned = λ z. g };
      }

  pub note_4 : tag ≡ 4 → c.inputs < 8 → Noted t c tag at (set t (640 + c.inputs) at) (record { wires = c.wires; boxes = c.boxes; rules = c.rules; inbox = c.inbox; inputs = c.inputs + 1; outputs = c.outputs; last = tag })
  unfolding index_in add_field
  note_4 e h =
      let j = 640 + c.inputs in
      record {
        index = rw e (λ i. record {
          wires = region_below 0 c.wires t j at (omega arith) i;
          boxes = region_below 64 c.boxes t j at (omega arith) i;
          firsts = region_below 96 c.boxes t j at (omega arith) i;
          rules = region_below 128 c.rules t j at (omega arith) i;
          inbox = c.inbox;
          inputs = region_more 640 c.inputs t at (omega arith) i;
          outputs = region_above 648 c.outputs t j at (omega arith) i;
          last = 4;
        });
        within = record { wires = omega arith; boxes = omega arith; rules = w.rules; inbox = omega arith; inboxes = w.inboxes; inputs = omega arith; outputs = omega arith; owned = λ z. absurd (omega arith) };
      }

  pub note_5 : tag ≡ 5 → c.outputs < 8 → Noted t c tag at (set t (648 + c.outputs) at) (record { wires = c.wires; boxes = c.boxes; rules = c.rules; inbox = c.inbox; inputs = c.inputs; outputs = c.outputs + 1; last = tag })
  unfolding index_in add_field
  note_5 e h =
      let j = 648 + c.outputs in
      record {
        index = rw e (λ i. record {
          wires = region_below 0 c.wires t j at (omega arith) i;
          boxes = region_below 64 c.boxes t j at (omega arith) i;
          firsts = region_below 96 c.boxes t j at (omega arith) i;
          rules = region_below 128 c.rules t j at (omega arith) i;
          inbox = c.inbox;
          inputs = region_below 640 c.inputs t j at (omega arith) i;
          outputs = region_more 648 c.outputs t at (omega arith) i;
          last = 5;
        });
        within = record { wires = omega arith; boxes = omega arith; rules = w.rules; inbox = omega arith; inboxes = w.inboxes; inputs = omega arith; outputs = omega arith; owned = λ z. absurd (omega arith) };
      }
