-- What the run program prints for two files.
-- Assumes nothing.
use Rattle.std.specs.Prelude.{ℕ, zero, suc, ◌+◌, ◌/◌, ◌%◌, cond, List, [], ◌∷◌, ◌++◌, ltb, eqb, ℤ, pos, negsuc}
use Rattle.model.specs.declared.Token.{Token}
use Rattle.model.specs.declared.Ending.{Ending}
use Rattle.model.specs.declared.Ending.TheVariants.{Idle, Spent, Fault}
use Rattle.model.specs.Network.{Proc, box, input, output, Net, Own, loaded, got_of}
use Rattle.model.specs.NetworkFile.{by_verdict}
use Rattle.model.specs.Cycles.{Ended, run}
use Rattle.model.specs.Calls.{with_tokens}

-- ── numbers and tokens ───────────────────────────────────────────────────────────────────────

-- the decimal digits of n before a text; of at most d + 1 digits
unfoldable pub digits_from : ℕ → ℕ → List ℕ → List ℕ
digits_from zero n after = (48 + n % 10) ∷ after
digits_from (suc d) n after =
    let more = digits_from d (n / 10) ((48 + n % 10) ∷ after) in
    cond (ltb n 10) ((48 + n) ∷ after) more

unfoldable pub decimal : ℕ → List ℕ  -- a number
decimal n = digits_from 19 n []

-- a minus, 45, before a negative number
unfoldable pub signed : ℤ → List ℕ
signed (pos n) = decimal n
signed (negsuc n) = 45 ∷ decimal (suc n)

-- a dc token begins with an apostrophe, 39: '<, '>, 'v
unfoldable pub shown : Token → List ℕ
shown t =
    cond (eqb t.tag 0) (signed t.value)
    (cond (eqb t.tag 1) (39 ∷ 60 ∷ [])
    (cond (eqb t.tag 2) (39 ∷ 62 ∷ [])
    (39 ∷ signed t.value)))

-- a space, 32, before each
unfoldable pub spaced : List Token → List ℕ
spaced [] = []
spaced (t ∷ ts) = 32 ∷ (shown t ++ spaced ts)

-- ── lines ────────────────────────────────────────────────────────────────────────────────────

-- "idle", "spent", "fault"
unfoldable pub ending_word : Ending → List ℕ
ending_word Idle = 105 ∷ 100 ∷ 108 ∷ 101 ∷ []
ending_word Spent = 115 ∷ 112 ∷ 101 ∷ 110 ∷ 116 ∷ []
ending_word (Fault x b) = 102 ∷ 97 ∷ 117 ∷ 108 ∷ 116 ∷ []

-- a fault names its box: " box "
unfoldable pub box_part : Ending → List ℕ
box_part Idle = []
box_part Spent = []
box_part (Fault x b) = (32 ∷ 98 ∷ 111 ∷ 120 ∷ 32 ∷ []) ++ decimal b

-- outcome WORD cycles C, and the box of a fault: "outcome ", " cycles ", and the line's end
unfoldable pub outcome_line : Ending → ℕ → List ℕ
outcome_line e c =
    (111 ∷ 117 ∷ 116 ∷ 99 ∷ 111 ∷ 109 ∷ 101 ∷ 32 ∷ []) ++ (ending_word e ++ ((32 ∷ 99 ∷ 121 ∷ 99 ∷ 108 ∷ 101 ∷ 115 ∷ 32 ∷ []) ++ (decimal c ++ (box_part e ++ (10 ∷ [])))))

-- out I: and the tokens in order: "out ", the colon, the line's end
unfoldable pub output_line : ℕ → List Token → List ℕ
output_line i ts = (111 ∷ 117 ∷ 116 ∷ 32 ∷ []) ++ (decimal i ++ (58 ∷ (spaced ts ++ (10 ∷ []))))

-- outputs count from 0
unfoldable pub output_lines : ℕ → List Proc → List Own → List ℕ
output_lines i [] os = []
output_lines i (p ∷ ps) [] = []
output_lines i (box b ∷ ps) (o ∷ os) = output_lines i ps os
output_lines i (input w ts ∷ ps) (o ∷ os) = output_lines i ps os
output_lines i (output w room ∷ ps) (o ∷ os) = output_line i (got_of o) ++ output_lines (suc i) ps os

-- refused N place P: "refused ", " place ", and the line's end
unfoldable pub refused_line : ℕ → ℕ → List ℕ
refused_line n p =
    (114 ∷ 101 ∷ 102 ∷ 117 ∷ 115 ∷ 101 ∷ 100 ∷ 32 ∷ []) ++ (decimal n ++ ((32 ∷ 112 ∷ 108 ∷ 97 ∷ 99 ∷ 101 ∷ 32 ∷ []) ++ (decimal p ++ (10 ∷ []))))

-- the outcome, then each output
unfoldable pub ended_text : Net → Ended → List ℕ
ended_text n e = outcome_line e.ending e.cycles ++ output_lines 0 n.procs e.state.owns

-- loads, runs with budget 1,000, and prints
unfoldable pub printed : List ℕ → List ℕ → List ℕ
printed s ts = by_verdict (with_tokens s ts) (λ n. ended_text n (run n 1000 (loaded n))) refused_line
