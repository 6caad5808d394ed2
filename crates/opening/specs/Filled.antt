-- What an opening leaves in the lent tables: all that the next step asks for, or the refusal that the call answers.
-- Assumes nothing.
use Rattle.std.specs.Prelude.{ℕ, ◌≡◌, true, List, Result, Ok, Err}
use Rattle.model.specs.declared.Refusal.{Refusal}
use Rattle.model.specs.NetworkFile.{good, next, network}
use Rattle.model.specs.States.{token_file, input_types, state_size}
use Rattle.model.specs.Calls.{with_tokens, held}
use Rattle.table.specs.declared.Counts.{Counts}
use Rattle.lookup.specs.Tabled.{Tabled}
use Rattle.places.specs.Places.{Placed}
use Rattle.places.specs.Standing.{bare_net, tokens_of, Standing}
use Rattle.token_file.specs.Fields.{Fields}
use Rattle.opening.specs.declared.Opened.{Opened}
use Rattle.opening.specs.Opening.{Refuses}

-- network file s is accepted: table t with counts c, starts p, the size of its state
pub record Open (s t p : List ℕ) (c : Counts) (size : ℕ) : Type 0 where
  pub tabled : Tabled s t c
  pub placed : Placed (bare_net s t c) p
  pub sized : size ≡ state_size (bare_net s t c)

-- and token file ts is, its fields noted in f
pub record OpenWith (s ts t p f : List ℕ) (c : Counts) (size : ℕ) : Type 0 where
  pub net : Open s t p c size
  pub tokens : token_file (input_types (bare_net s t c) (bare_net s t c).procs) ts ≡ good (tokens_of s t c ts)
  pub fields : Fields s t ts f c

-- and the lent bytes b stand for a state
pub record OpenOn (s ts t p f b : List ℕ) (c : Counts) (size : ℕ) : Type 0 where
  pub files : OpenWith s ts t p f c size
  pub standing : Standing s t p ts b c

-- 1 to 4
unfoldable pub NetworkFilled : List ℕ → List ℕ → List ℕ → Result Opened Refusal → Type 0
NetworkFilled s t p (Ok x) = Open s t p x.counts x.size
NetworkFilled s t p (Err r) = Refuses (network s) r

-- 1 to 5
unfoldable pub FilesFilled : List ℕ → List ℕ → List ℕ → List ℕ → List ℕ → Result Opened Refusal → Type 0
FilesFilled s ts t p f (Ok x) = OpenWith s ts t p f x.counts x.size
FilesFilled s ts t p f (Err r) = Refuses (with_tokens s ts) r

-- 1 to 7
unfoldable pub StateFilled : List ℕ → List ℕ → List ℕ → List ℕ → List ℕ → List ℕ → Result Opened Refusal → Type 0
StateFilled s ts t p f b (Ok x) = OpenOn s ts t p f b x.counts x.size
StateFilled s ts t p f b (Err r) = Refuses (next (with_tokens s ts) (held true b)) r
