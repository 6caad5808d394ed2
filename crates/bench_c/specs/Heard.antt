-- What a C caller gets: a word, numbers in the array that it lends, and the lent bytes.
-- Assumes nothing.
use Rattle.std.specs.Prelude.{ℕ, suc, List, [], ◌∷◌, ◌++◌, set}
use Rattle.model.specs.NetworkFile.{Stretch}
use Rattle.model.specs.Calls.{Answer, accepted, loaded_with, marks, done, idle, spent, written, refused, After, Marking}
use Rattle.bench_c.specs.declared.Numbers.{Numbers}

-- ── an answer in numbers ─────────────────────────────────────────────────────────────────────

-- a word other than refused, with the cycles done and a size or a set
unfoldable pub spelt : ℕ → ℕ → ℕ → Numbers
spelt w c v = record { word = w; number = 0; place = 0; cycles = c; value = v }

unfoldable pub numbers_of : Answer → Numbers
numbers_of (refused n p c) = record { word = 0; number = n; place = p; cycles = c; value = 0 }
numbers_of accepted = spelt 1 0 0
numbers_of (loaded_with size) = spelt 2 0 size
numbers_of (marks set) = spelt 3 0 set
numbers_of (done c) = spelt 4 c 0
numbers_of (idle c) = spelt 5 c 0
numbers_of (spent c) = spelt 6 c 0
numbers_of (written size) = spelt 7 0 size

-- a rule's body: its offset and its length
unfoldable pub stretch_of : Stretch → Numbers
stretch_of x = record { word = 8; number = 0; place = x.start; cycles = 0; value = x.len }

-- the array's first four numbers
unfoldable pub listed : Numbers → List ℕ
listed n = n.number ∷ n.place ∷ n.cycles ∷ n.value ∷ []

-- numbers laid over an array from place i on; those that find no place are left out
unfoldable pub laid : ℕ → List ℕ → List ℕ → List ℕ
laid i [] old = old
laid i (x ∷ xs) old = laid (suc i) xs (set old i x)

-- ── what is heard of a call ──────────────────────────────────────────────────────────────────

-- the call's word, the lent array and the lent bytes afterwards
pub record Heard : Type 0 where
  pub word : ℕ
  pub numbers : List ℕ
  pub bytes : List ℕ

unfoldable pub heard : ℕ → List ℕ → List ℕ → Heard
heard w n b = record { word = w; numbers = n; bytes = b }

-- numbers over the old array, with the bytes
unfoldable pub answered : Numbers → List ℕ → List ℕ → Heard
answered n old b = heard n.word (laid 0 (listed n) old) b

-- of check, which is lent no bytes
unfoldable pub says_only : Answer → List ℕ → Heard
says_only a old = answered (numbers_of a) old []

-- of the lookup, likewise
unfoldable pub says_body : Stretch → List ℕ → Heard
says_body x old = answered (stretch_of x) old []

-- of load, cycle, run and writing
unfoldable pub says : After → List ℕ → Heard
says a old = answered (numbers_of a.answer) old a.bytes

-- of marking: the 32 rule numbers follow
unfoldable pub says_marks : Marking → List ℕ → Heard
says_marks m old = let n = numbers_of m.answer in heard n.word (laid 0 (listed n ++ m.rules) old) []
