-- An answer with the lent bytes, and what is left of a call once its files are accepted.
-- Assumes nothing.
use Rattle.std.specs.Prelude.{ℕ, Bool, true, false, List, ◌++◌, leb, length, drop, Result, Ok, Err}
use Rattle.model.specs.declared.Marked.{Marked}
use Rattle.model.specs.declared.Ran.{Ran}
use Rattle.model.specs.declared.Refusal.{Refusal}
use Rattle.model.specs.Network.{Net, loaded}
use Rattle.model.specs.NetworkFile.{next, or_refuse, by_verdict}
use Rattle.model.specs.States.{state_size}
use Rattle.model.specs.Calls.{Answer, loaded_with, written, refused, After, Marking, said_mark, keeps, leaves, with_tokens, roomy, held, file_in}

unfoldable pub after : Answer → List ℕ → After
after a b = record { answer = a; bytes = b }

-- a load of an accepted network
unfoldable pub load_in : Net → List ℕ → After
load_in n st =
    by_verdict (roomy st n)
    (λ n. leaves st n (loaded n) (loaded_with (state_size n)))
    (λ n p. keeps st (refused n p 0))

-- a marking's answer, with the rule numbers beside it
unfoldable pub marked_as : Marked → Marking
marked_as r = record { answer = said_mark r.answer; rules = r.rules }

-- the output file of an accepted network
unfoldable pub write_in : Net → List ℕ → List ℕ → After
write_in n st out =
    by_verdict (next (held false st n) (file_in out))
    (λ f. after (written (length f)) (f ++ drop (length f) out))
    (λ n p. keeps out (refused n p 0))

-- a run began: its answer tells how it ended, and not a refusal before it
unfoldable pub begun : Result Ran Refusal → Bool
begun (Ok r) = true
begun (Err r) = false

-- a run begins where nothing is refused before it; so a fault after 0 cycles and a refusal before the run are told apart
unfoldable pub begins : List ℕ → List ℕ → List ℕ → ℕ → Bool
begins s ts st budget =
    by_verdict (or_refuse (leb budget 65535) 2 0 (next (with_tokens s ts) (held true st)))
    (λ h. true)
    (λ n p. false)
