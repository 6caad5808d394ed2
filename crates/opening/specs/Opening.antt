-- What the opening of a call finds: all that the next step asks for, or the refusal that the call answers.
-- Assumes nothing.
use Rattle.std.specs.Prelude.{ℕ, ◌≡◌, true, List, Result, Ok, Err, ⊤}
use denote.Ref.{Bor}
use Rattle.model.specs.declared.Refusal.{Refusal}
use Rattle.model.specs.Reasons.{reason_number}
use Rattle.model.specs.NetworkFile.{Verdict, good, refuse, next, network}
use Rattle.model.specs.States.{token_file, input_types}
use Rattle.model.specs.Calls.{with_tokens, held}
use Rattle.table.specs.declared.Counts.{Counts}
use Rattle.lookup.specs.Views.{network_of}
use Rattle.places.specs.declared.Plan.{Plan}
use Rattle.places.specs.declared.Site.{Site}
use Rattle.places.specs.Standing.{tokens_of}
use Rattle.places.specs.Views.{Stands}
use Rattle.token_file.specs.declared.Feed.{Feed}
use Rattle.states.specs.declared.Basis.{Basis}
use Rattle.states.specs.Saved.{network_for, counted, Holds}

-- what a refusal says of a check
abbrev pub Refuses : {A : Type 0} → Verdict A → Refusal → Type 0
Refuses v r = v ≡ refuse (reason_number r.reason) r.place

-- the token file of a site is accepted
abbrev pub Accepted : Site → Type 0
Accepted x = let n = x.plan.net in token_file (input_types (network_of n) (network_of n).procs) x.tokens.now ≡ good (tokens_of n.file.now n.table.now n.counts x.tokens.now)

-- a feed of these very files, with what the tables t, p and f hold
pub record Over (s ts : Bor (List ℕ)) (t p f : List ℕ) (c : Counts) (d : Feed) : Type 0 where
  pub file : d.site.plan.net.file ≡ s
  pub table : d.site.plan.net.table.now ≡ t
  pub counts : d.site.plan.net.counts ≡ c
  pub starts : d.site.plan.starts.now ≡ p
  pub tokens : d.site.tokens ≡ ts
  pub fields : d.fields.now ≡ f

-- network file s and token file ts are accepted
pub record OpenFiles (s ts : List ℕ) (f : Feed) : Type 0 where
  pub net : f.site.plan.net.file.now ≡ s
  pub tokens : f.site.tokens.now ≡ ts
  pub accepted : Accepted f.site

-- and the lent bytes b stand for a state
pub record OpenState (s ts b : List ℕ) (f : Feed) : Type 0 where
  pub files : OpenFiles s ts f
  pub standing : Stands f.site b

-- 1 to 4
unfoldable pub NetworkOpened : List ℕ → Result Plan Refusal → Type 0
NetworkOpened s (Ok p) = p.net.file.now ≡ s
NetworkOpened s (Err r) = Refuses (network s) r

-- 1 to 5
unfoldable pub FilesOpened : List ℕ → List ℕ → Result Feed Refusal → Type 0
FilesOpened s ts (Ok f) = OpenFiles s ts f
FilesOpened s ts (Err r) = Refuses (with_tokens s ts) r

-- 6 and 7
unfoldable pub Held : Basis → List ℕ → Result ⊤ Refusal → Type 0
Held x b (Ok u) = Holds (network_for x) (counted x) b
Held x b (Err r) = Refuses (held (counted x) b (network_for x)) r

-- 1 to 7
unfoldable pub StateOpened : List ℕ → List ℕ → List ℕ → Result Feed Refusal → Type 0
StateOpened s ts b (Ok f) = OpenState s ts b f
StateOpened s ts b (Err r) = Refuses (next (with_tokens s ts) (held true b)) r
