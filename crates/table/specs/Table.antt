-- The table of offsets: wires from 0, boxes from 64, the rules before each box from 96, rules from 128, inputs from 640, outputs from 648.
-- Assumes nothing.
use Rattle.std.specs.Prelude.{ℕ, ◌+◌, ◌-◌, ◌*◌, ◌≤◌, ◌<◌, ◌≡◌, List, take, drop}
use Rattle.model.specs.NetworkFile.{Index, add_field}
use Rattle.table.specs.declared.Counts.{Counts}

-- n entries from base on
unfoldable pub region : ℕ → ℕ → List ℕ → List ℕ
region base n t = take n (drop base t)

-- the index that a table with these counts holds
unfoldable pub index_in : List ℕ → Counts → Index
index_in t c = record {
  wires = region 0 c.wires t;
  boxes = region 64 c.boxes t;
  firsts = region 96 c.boxes t;
  rules = region 128 c.rules t;
  inbox = c.inbox;
  inputs = region 640 c.inputs t;
  outputs = region 648 c.outputs t;
  last = c.last;
}

-- the counts are within the limits
pub record Within (c : Counts) : Type 0 where
  pub wires : c.wires ≤ 64
  pub boxes : c.boxes ≤ 32
  pub rules : c.rules ≤ 16 * (c.boxes - 1) + c.inbox
  pub inbox : c.inbox ≤ 16
  pub inboxes : c.inbox ≤ 16 * c.boxes
  pub inputs : c.inputs ≤ 8
  pub outputs : c.outputs ≤ 8
  pub owned : c.last ≡ 2 → 1 ≤ c.boxes

-- there is a place for one field more of this tag
pub record Room (c : Counts) (tag : ℕ) : Type 0 where
  pub wires : tag ≡ 1 → c.wires < 64
  pub boxes : tag ≡ 2 → c.boxes < 32
  pub rules : tag ≡ 3 → c.inbox < 16
  pub owned : tag ≡ 3 → 1 ≤ c.boxes
  pub inputs : tag ≡ 4 → c.inputs < 8
  pub outputs : tag ≡ 5 → c.outputs < 8
  pub least : 1 ≤ tag
  pub most : tag ≤ 5

-- one field more was noted
pub record Noted (t : List ℕ) (c : Counts) (tag at : ℕ) (t' : List ℕ) (r : Counts) : Type 0 where
  pub index : index_in t' r ≡ add_field (index_in t c) tag at
  pub within : Within r
