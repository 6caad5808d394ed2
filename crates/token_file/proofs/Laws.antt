-- The fields of a token file, one after another.
-- Assumes nothing.
use Rattle.std.specs.Prelude.{Option, None, Some}
use Prim.Native.Nat.{ℕ, zero, suc, ◌+◌, ◌*◌, ◌/◌, ◌≤◌, ◌<◌}
use mathlib.Core.Path.{◌≡◌, refl, sym, ap, ap₂, ◌∙◌}
use mathlib.Core.Bool.{Bool, true, false}
use mathlib.Core.List.{List, [], ◌∷◌, ◌++◌, map}
use native.Mathlib.Omega.{arith}
use native.Mathlib.Numerals.{add-one}
use native.Mathlib.Decide.{ℕ_discrete}
use lib.ListN.{length, get_or, take, drop, set, length-set, length-take}
use lib.Seq.{take-suc, take-set-le, get_or-set_same, get_or-set_other, get_or-take, get_or-drop, drop-drop}
use borrow.Author.Tests.{le-leb, lt-leb}
use Rattle.model.specs.declared.Ty.{Ty}
use Rattle.model.specs.declared.Token.{Token}
use Rattle.model.specs.declared.Field.{Field}
use Rattle.model.specs.Bytes.{two_at, four_at, value_at, stretch}
use Rattle.model.specs.Values.{no_type}
use Rattle.model.specs.Network.{Net, wire, proc, no_token}
use Rattle.model.specs.NetworkFile.{good, refuse, or_refuse, field_at, body_at, input_at, net_of}
use Rattle.model.specs.States.{token_at, read_tokens, token_field, tokens_in, input_tokens, tokens_from, token_file, input_types}
use Rattle.model.proofs.Accepted.{InFile, field_found}
use Rattle.model.proofs.Decoded.{length-tabulate, get_d_tabulate, get_d_map_lt, stretch_at, length_body}
use Rattle.model.proofs.Lookup.{input_proc}
use Rattle.model.proofs.Sizes.{map-append}
use Rattle.table.specs.declared.Counts.{Counts}
use Rattle.table.specs.Table.{index_in}
use Rattle.lookup.specs.Tabled.{Tabled}
use Rattle.lookup.specs.Ends.{wire_at}
use Rattle.lookup.proofs.Tabled.{n_boxes, n_inputs}
use Rattle.places.specs.Standing.{bare_net, found, tokens_of}
use Rattle.tokens.proofs.Turns.{ahead_none, left, tokens_field, tokens_bad, tokens_cut, tokens_end, tokens_extra, input_types_lem}
use Rattle.tokens.proofs.Groups.{length_tokens_in}
use Rattle.token_file.specs.Fields.{field_end, Fields}

-- ── one field ────────────────────────────────────────────────────────────────────────────────

module _ (f : List ℕ) (t : Ty) (at : ℕ) where
  abbrev pub end_of : Option ℕ
  end_of = field_end (input_tokens t f at (field_at f at))

  pub end_cut : field_at f at ≡ None → None ≡ end_of
  unfolding field_end input_tokens
  end_cut e = rw e

  module _ (d : Field) (e : field_at f at ≡ Some d) where
    pub end_bad : token_field t d.tag (stretch f d.start d.len) ≡ false → None ≡ end_of
    unfolding field_end input_tokens or_refuse
    end_bad g = rw (e, g)

    pub end_good : token_field t d.tag (stretch f d.start d.len) ≡ true → Some (d.start + d.len) ≡ end_of
    unfolding field_end input_tokens or_refuse
    end_good g = rw (e, g)

-- the field there is good, and ends there
pub record Went (types : List Ty) (f : List ℕ) (before : List (List Token)) (i at end : ℕ) : Type 0 where
  pub more : left types f before i at ≡ left types f (before ++ (tokens_in (body_at f at) ∷ [])) (i + 1) end
  pub inside : InFile f at
  pub below : end ≤ length f
  pub above : at < end

module _ (types : List Ty) (f : List ℕ) (before : List (List Token)) (i at : ℕ) (t : Ty) (l : i < length types) (e : get_or types i no_type ≡ t) where
  type_same : (d : Field) (b : Bool) → token_field t d.tag (stretch f d.start d.len) ≡ b → token_field (get_or types i no_type) d.tag (stretch f d.start d.len) ≡ b
  type_same d b q = ap (λ (u : Ty). token_field u d.tag (stretch f d.start d.len)) e ∙ q

  pub end_none : None ≡ end_of f t at → left types f before i at ≡ refuse 5 at
  end_none p = by_field (field_at f at) refl
    where
      by_test : (d : Field) (b : Bool) → field_at f at ≡ Some d → token_field t d.tag (stretch f d.start d.len) ≡ b → left types f before i at ≡ refuse 5 at
      by_test d true g q = let z = p ∙ sym (end_good f t at d g q) in cc
      by_test d false g q = tokens_bad types f before i at d l g (type_same d false q)

      by_field : (d : Option Field) → field_at f at ≡ d → left types f before i at ≡ refuse 5 at
      by_field None g = tokens_cut types f before i at l g
      by_field (Some d) g = by_test d (token_field t d.tag (stretch f d.start d.len)) g refl

  pub end_some : (r : ℕ) → Some r ≡ end_of f t at → Went types f before i at r
  end_some r p = by_field (field_at f at) refl
    where
      by_test : (d : Field) (b : Bool) → field_at f at ≡ Some d → token_field t d.tag (stretch f d.start d.len) ≡ b → Went types f before i at r
      by_test d true g q =
          let k = field_found f d at g in
          let z = end_good f t at d g q ∙ sym p in
          let m : d.start + d.len ≡ r = cc in
          record {
            more = tokens_field types f before i at d l g (type_same d true q) ∙ ap₂ (λ (b : List ℕ) (o : ℕ). left types f (before ++ (tokens_in b ∷ [])) (i + 1) o) k.body m;
            inside = k.inside;
            below = omega (arith, k.ends, m);
            above = omega (arith, k.start_is, m);
          }
      by_test d false g q = absurd (let z = end_bad f t at d g q ∙ sym p in cc)

      by_field : (d : Option Field) → field_at f at ≡ d → Went types f before i at r
      by_field None g = absurd (let z = end_cut f t at g ∙ sym p in cc)
      by_field (Some d) g = by_test d (token_field t d.tag (stretch f d.start d.len)) g refl

-- ── the fields noted so far ──────────────────────────────────────────────────────────────────

-- the tokens of the first i fields
abbrev pub noted : List ℕ → List ℕ → ℕ → List (List Token)
noted f p i = map (λ (o : ℕ). tokens_in (body_at f o)) (take i p)

noted_more : (f p : List ℕ) (i at : ℕ) → i < length p → noted f (set p i at) (i + 1) ≡ noted f p i ++ (tokens_in (body_at f at) ∷ [])
noted_more f p i at l =
    let q : List ℕ = set p i at in
    let g : take (i + 1) q ≡ take i p ++ (at ∷ []) =
    ap (λ (j : ℕ). take j q) (add-one i) ∙ take-suc q i 0 (simp length-set l) ∙ ap₂ (λ (y : List ℕ) (o : ℕ). y ++ (o ∷ [])) (take-set-le i p i at (omega arith)) (get_or-set_same p i at 0 l) in
    ap (map (λ (o : ℕ). tokens_in (body_at f o))) g ∙ map-append (λ (o : ℕ). tokens_in (body_at f o)) (take i p) (at ∷ [])

-- what is left gives the whole
pub record Upto (types : List Ty) (f p : List ℕ) (at i : ℕ) : Type 0 where
  pub whole : left types f (noted f p i) i at ≡ tokens_from types f 0
  pub inside : (j : ℕ) → j < i → InFile f (get_or p j 0)

pub upto_first : (types : List Ty) (f p : List ℕ) → Upto types f p 0 0
upto_first types f p = record { whole = ahead_none (tokens_from types f 0); inside = λ j h. absurd (omega (arith, h)) }

-- one field more: what is left goes on behind it
pub upto_more : (types : List Ty) (f p : List ℕ) (at i end : ℕ) → Upto types f p at i → i < length p
    → left types f (noted f p i) i at ≡ left types f (noted f p i ++ (tokens_in (body_at f at) ∷ [])) (i + 1) end → InFile f at → Upto types f (set p i at) end (i + 1)
upto_more types f p at i end u l more inside = record {
  whole = ap (λ (b : List (List Token)). left types f b (i + 1) end) (noted_more f p i at l) ∙ sym more ∙ u.whole;
  inside = λ j h. by_place j h (ℕ_discrete j i);
}
  where
    by_place : (j : ℕ) → j < i + 1 → Dec (j ≡ i) → InFile f (get_or (set p i at) j 0)
    by_place j h (yes z) = rw (z, get_or-set_same p i at 0 l) inside
    by_place j h (no g) = rw (get_or-set_other p i j at 0 g) (u.inside j (omega (arith, h, g)))

pub upto_next : (types : List Ty) (f p : List ℕ) (at i end : ℕ) → Upto types f p at i → i < length p → Went types f (noted f p i) i at end → Upto types f (set p i at) end (i + 1)
upto_next types f p at i end u l w = upto_more types f p at i end u l w.more w.inside

-- ── the whole file ───────────────────────────────────────────────────────────────────────────

abbrev pub types_of : List ℕ → List ℕ → Counts → List Ty
types_of s t c = input_types (net_of s (index_in t c) []) (net_of s (index_in t c) []).procs

module _ (s t : List ℕ) (c : Counts) (h : Tabled s t c) where
  abbrev n : Net
  n = net_of s (index_in t c) []

  types_length : length (types_of s t c) ≡ c.inputs
  types_length = ap (λ (l : List Ty). length l) (input_types_lem n s (index_in t c) []) ∙ length-tabulate (length (index_in t c).inputs) _ ∙ n_inputs s t c h

  pub types_known : (i : ℕ) → i < c.inputs → i < length (types_of s t c)
  types_known i l = omega (arith, types_length)

  -- the type of input i is that of its wire
  pub type_at_lem : (i w : ℕ) (y : Ty) → i < c.inputs → w ≡ wire_at (proc n (c.boxes + i)) → y ≡ (wire n w).ty → get_or (types_of s t c) i no_type ≡ y
  unfolding input_at wire_at
  type_at_lem i w y l e f =
      let x = index_in t c in
      let k : c.boxes + i ≡ length x.boxes + i = omega (arith, n_boxes s t c h) in
      let g : w ≡ get_or s (get_or x.inputs i 0 + 3) 0 = e ∙ ap (λ (j : ℕ). wire_at (proc n j)) k ∙ ap wire_at (input_proc s x [] i (omega (arith, n_inputs s t c h))) in
      ap (λ (z : List Ty). get_or z i no_type) (input_types_lem n s x []) ∙ get_d_tabulate (length x.inputs) _ no_type i (omega (arith, n_inputs s t c h))
      ∙ ap (λ (v : ℕ). (wire n v).ty) (sym g) ∙ sym f

  pub too_long : (f p : List ℕ) → 16384 < length f → token_file (types_of s t c) f ≡ refuse 5 0
  unfolding token_file or_refuse
  too_long f p l = rw (lt-leb (length f) 16384 l)

  module _ (f p : List ℕ) (at i : ℕ) (u : Upto (types_of s t c) f p at i) (q : length f ≤ 16384) where
    file_left : token_file (types_of s t c) f ≡ left (types_of s t c) f (noted f p i) i at
    unfolding token_file or_refuse
    file_left = rw (le-leb (length f) 16384 q) (sym u.whole)

    -- refused where the check stands
    pub bad_there : left (types_of s t c) f (noted f p i) i at ≡ refuse 5 at → token_file (types_of s t c) f ≡ refuse 5 at
    bad_there e = file_left ∙ e

    pub extra_there : c.inputs ≤ i → (at ≡ length f → ⊥) → token_file (types_of s t c) f ≡ refuse 5 at
    extra_there l e = file_left ∙ tokens_extra (types_of s t c) f (noted f p i) i at (omega (arith, types_length)) e

    all_good : c.inputs ≤ i → at ≡ length f → token_file (types_of s t c) f ≡ good (noted f p i)
    all_good l e = file_left ∙ tokens_end (types_of s t c) f (noted f p i) i at (omega (arith, types_length)) e

    pub good_tokens : c.inputs ≤ i → at ≡ length f → token_file (types_of s t c) f ≡ good (tokens_of s t c f)
    unfolding tokens_of found bare_net
    good_tokens l e = all_good l e ∙ ap good (sym (ap found (all_good l e)))

    pub good_fields : c.inputs ≡ i → i ≤ length p → at ≡ length f → Fields s t f p c
    unfolding tokens_of found bare_net
    good_fields l m e = record {
      each = λ j k. record {
        inside = u.inside j (omega (arith, k, l));
        holds = sym (ap (λ (x : List (List Token)). get_or x j []) (ap found (all_good (omega (arith, l)) e))
            ∙ get_d_map_lt (λ (o : ℕ). tokens_in (body_at f o)) (take i p) j 0 [] (simp length-take (omega (arith, k, l, m)))
            ∙ ap (λ (o : ℕ). tokens_in (body_at f o)) (get_or-take i p j 0 (omega (arith, k, l))));
      };
    }

-- ── the tokens of one field ──────────────────────────────────────────────────────────────────

pub count_in : (f : List ℕ) (at : ℕ) → InFile f at → length (tokens_in (body_at f at)) ≡ two_at f (at + 1) / 5
count_in f at i = length_tokens_in (body_at f at) ∙ ap (λ (k : ℕ). k / 5) (length_body f at i)

pub token_inside : (f : List ℕ) (at k : ℕ) → InFile f at → k < length (tokens_in (body_at f at)) → 5 * k + 5 ≤ two_at f (at + 1)
token_inside f at k i l = omega (arith, count_in f at i)

read_at_lem : (m : ℕ) (s : List ℕ) (k : ℕ) → k < m → get_or (read_tokens m s) k no_token ≡ token_at (drop (5 * k) s)
unfolding read_tokens
read_at_lem zero s k l = absurd (omega arith)
read_at_lem (suc m) s zero l = refl
read_at_lem (suc m) s (suc k) l =
    let e : 5 + 5 * k ≡ 5 * suc k = omega arith in
    read_at_lem m (drop 5 s) k (omega arith) ∙ ap token_at (drop-drop (5 * k) 5 s ∙ ap (λ (j : ℕ). drop j s) e)

same-token : (a b : List ℕ) → ((j : ℕ) → j < 5 → get_or a j 0 ≡ get_or b j 0) → token_at a ≡ token_at b
unfolding token_at value_at four_at
same-token a b e = rw (e 0 (omega arith), e 1 (omega arith), e 2 (omega arith), e 3 (omega arith), e 4 (omega arith))

pub token_in : (f : List ℕ) (at k : ℕ) → InFile f at → k < length (tokens_in (body_at f at)) → token_at (drop (at + 3 + 5 * k) f) ≡ get_or (tokens_in (body_at f at)) k no_token
unfolding tokens_in body_at
token_in f at k i l =
    let b : List ℕ = body_at f at in
    let m : k < length b / 5 = omega (arith, length_tokens_in b, l) in
    let r : 5 * k + 5 ≤ two_at f (at + 1) = token_inside f at k i l in
    let sums : (j : ℕ) → at + 3 + (5 * k + j) ≡ at + 3 + 5 * k + j = λ j. omega arith in
    sym (read_at_lem (length b / 5) b k m ∙ same-token (drop (5 * k) b) (drop (at + 3 + 5 * k) f) (λ j h.
    get_or-drop (5 * k) b j 0 ∙ stretch_at f (at + 3) (two_at f (at + 1)) (5 * k + j) (omega (arith, h, r)) ∙ ap (λ (o : ℕ). get_or f o 0) (sums j) ∙ sym (get_or-drop (at + 3 + 5 * k) f j 0)))
