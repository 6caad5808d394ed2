use Rattle.table.proofs.Regions.{note_1, note_2, note_3, note_4, note_5}
use native.Mathlib.Omega.{arith}
use Rattle.table.proofs.note.Goals as goal

pub bounds-table-c-in_default : goal.bounds-table-c-in_default
bounds-table-c-in_default c = let o = c.requires.room.outputs (omega arith) in omega arith

pub returns-in-1 : goal.returns-in-1
returns-in-1 c = note_1 _ _ _ _ c.requires.in_bounds.0 c.requires.within (omega arith) (c.requires.room.wires (omega arith))

pub returns-in-2 : goal.returns-in-2
returns-in-2 c = note_2 _ _ _ _ c.requires.in_bounds.0 c.requires.within (omega arith) (c.requires.room.boxes (omega arith))

pub returns-in-3 : goal.returns-in-3
returns-in-3 c = note_3 _ _ _ _ c.requires.in_bounds.0 c.requires.within (omega arith) (c.requires.room.rules (omega arith)) (c.requires.room.owned (omega arith))

pub returns-in-4 : goal.returns-in-4
returns-in-4 c = note_4 _ _ _ _ c.requires.in_bounds.0 c.requires.within (omega arith) (c.requires.room.inputs (omega arith))

pub returns-in_default : goal.returns-in_default
returns-in_default c = note_5 _ _ _ _ c.requires.in_bounds.0 c.requires.within (omega arith) (c.requires.room.outputs (omega arith))
