-- The fields of a token file: where each input's is, and what the check of all of them answers.
-- Assumes nothing.
use Rattle.std.specs.Prelude.{ℕ, ◌<◌, ◌≡◌, List, [], get_or, Option, None, Some, Result, Ok, Err}
use Rattle.model.specs.declared.Token.{Token}
use Rattle.model.specs.NetworkFile.{Verdict, good, refuse, body_at}
use Rattle.model.specs.States.{token_file, input_types, tokens_in}
use Rattle.model.proofs.Accepted.{InFile}
use Rattle.table.specs.declared.Counts.{Counts}
use Rattle.places.specs.declared.Site.{Site}
use Rattle.places.specs.Standing.{bare_net, tokens_of}

-- where a good field ends
unfoldable pub field_end : Verdict (List Token × ℕ) → Option ℕ
field_end (good r) = Some r.1
field_end (refuse n p) = None

-- the field at an offset lies in the file and holds these tokens
pub record FieldOf (f : List ℕ) (at : ℕ) (tokens : List Token) : Type 0 where
  pub inside : InFile f at
  pub holds : tokens_in (body_at f at) ≡ tokens

-- network file s, table t with counts c, token file ts: p holds the offset of each input's field
pub record Fields (s t ts p : List ℕ) (c : Counts) : Type 0 where
  pub each : (i : ℕ) → i < c.inputs → FieldOf ts (get_or p i 0) (get_or (tokens_of s t c ts) i [])

-- the same of a site
abbrev pub Noted : Site → List ℕ → Type 0
Noted s p = Fields s.plan.net.file.now s.plan.net.table.now s.tokens.now p s.plan.net.counts

-- the file is good, and the fields are found; or it is refused with 5 at a place
abbrev pub Checked : (s t ts p : List ℕ) (c : Counts) → Result (Unit {0}) ℕ → Type 0
Checked s t ts p c (Ok _) = (token_file (input_types (bare_net s t c) (bare_net s t c).procs) ts ≡ good (tokens_of s t c ts)) × Fields s t ts p c
Checked s t ts p c (Err place) = token_file (input_types (bare_net s t c) (bare_net s t c).procs) ts ≡ refuse 5 place
