-- That the fields of the inputs are noted is known in one way only: what a ghost field asks of its fact.
-- Assumes nothing.
use Rattle.std.specs.Prelude.{ℕ, ℤ, List, [], get_or}
use Rattle.std.specs.Coded.{Coded, Coded-set, coded_ℕ, coded_ℤ, coded_list, coded×, code_by, le_prop}
use mathlib.Core.Path.{refl}
use Rattle.model.specs.declared.Token.{Token}
use Rattle.model.specs.NetworkFile.{body_at}
use Rattle.model.specs.States.{tokens_in}
use Rattle.model.proofs.Accepted.{InFile}
use Rattle.table.specs.declared.Counts.{Counts}
use Rattle.places.specs.declared.Site.{Site}
use Rattle.places.specs.Standing.{tokens_of}
use Rattle.token_file.specs.Fields.{FieldOf, Fields, Noted}

token_code : Coded Token
token_code = code_by (ℕ × ℤ) (coded× coded_ℕ coded_ℤ) (λ t. (t.tag, t.value)) (λ y. record { tag = y.0; value = y.1 }) (λ t. refl)

InFile_prop : (s : List ℕ) (o : ℕ) → IsProp (InFile s o)
InFile_prop s o x y = λ i. record { whole = le_prop x.whole y.whole i }

FieldOf_prop : (f : List ℕ) (at : ℕ) (tokens : List Token) → IsProp (FieldOf f at tokens)
FieldOf_prop f at tokens x y = λ i. record {
  inside = InFile_prop f at x.inside y.inside i;
  holds = Coded-set (coded_list token_code) (tokens_in (body_at f at)) tokens x.holds y.holds i;
}

Fields_prop : (s t ts p : List ℕ) (c : Counts) → IsProp (Fields s t ts p c)
Fields_prop s t ts p c x y = λ i. record { each = λ j h. FieldOf_prop ts (get_or p j 0) (get_or (tokens_of s t c ts) j []) (x.each j h) (y.each j h) i }

pub Noted_prop : (s : Site) (p : List ℕ) → IsProp (Noted s p)
Noted_prop s p = Fields_prop s.plan.net.file.now s.plan.net.table.now s.tokens.now p s.plan.net.counts
