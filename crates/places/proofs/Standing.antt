-- What stands at a wire's and at a process's span, and that a good state in its place stands again.
-- Assumes nothing.
use mathlib.Core.Path.{◌≡◌, refl, sym, ap, ap₂, ◌∙◌}
use mathlib.Core.Bool.{true}
use mathlib.Core.List.{List, [], ◌∷◌, ◌++◌, map}
use Prim.Native.Nat.{ℕ, zero, suc, ◌+◌, ◌-◌, ◌/◌, ◌≤◌, ◌<◌}
use native.Mathlib.Omega.{arith}
use lib.Dec.{eqb, leb}
use lib.ListN.{length, get_or, drop, take, length-append, length-take, length-drop, take-append-drop}
use borrow.Author.Tests.{leb-true}
use Rattle.model.specs.declared.Ty.{Ty}
use Rattle.model.specs.declared.Token.{Token}
use Rattle.model.specs.declared.Field.{Field}
use Rattle.std.specs.Prelude.{Option, None, Some}
use Rattle.model.specs.Bytes.{stretch}
use Rattle.model.specs.Network.{Wire, Proc, box, Net, State, wire, proc, queue, own, no_wire, nobody}
use Rattle.model.specs.NetworkFile.{Index, good, field_at, net_of, tabulate, box_at, input_at, output_at}
use Rattle.model.specs.States.{token_field, tokens_in, input_tokens, tokens_from, token_file, input_types, wire_bytes, own_bytes, bytes_of, wire_size, own_size, wires_size, state_size, sum}
use Rattle.model.proofs.Decoded.{GoodNet, get_d_map_lt}
use Rattle.model.proofs.Order.{OneEach}
use Rattle.model.proofs.Lookup.{procs_length}
use Rattle.model.proofs.Whole.{network_checked, accepted_net, ports_all, one_each, next_good, or_refuse_good}
use Rattle.model.proofs.Kept.{GoodState}
use Rattle.model.proofs.Sizes.{map-append}
use Rattle.table.specs.declared.Counts.{Counts}
use Rattle.table.specs.Table.{index_in}
use Rattle.octets.proofs.Laws.{Octets}
use Rattle.queues.specs.Segments.{mid, wire_start, own_start, start_of}
use Rattle.queues.specs.Sound as laid
use Rattle.queues.proofs.Saved.{good_laid, good_back, good_fits, fits_good}
use Rattle.queues.proofs.Reading.{length_read}
use Rattle.queues.proofs.Whole.{wire_part, own_part, length_bytes, state_whole}
use Rattle.places.specs.declared.Span.{Span}
use Rattle.places.specs.Places.{WireSpan, OwnSpan}
use Rattle.places.specs.Standing.{bare_net, tokens_of, net_in, Standing, state_of}

-- ── an accepted token file has few tokens ────────────────────────────────────────────────────

field_few : (t : Ty) (s : List ℕ) (at : ℕ) (f : Option Field) (r : List Token × ℕ) → input_tokens t s at f ≡ good r → length r.0 ≤ length s
unfolding input_tokens tokens_in stretch
field_few t s at None r e = let z : ◌≡◌ {A = ℕ} 0 1 = cc in absurd (omega arith)
field_few t s at (Some f) r e =
    let b = take f.len (drop f.start s) in
    let q = or_refuse_good (token_field t f.tag b) 5 at (good (tokens_in b, f.start + f.len)) r e in
    let g : tokens_in b ≡ r.0 = (let k = q.1 in cc) in
    let l : length b ≤ length s = rw (length-take, length-drop) (omega arith) in
    rw (← g) (omega (arith, l, length_read (length b / 5) b))

-- each input's are no more than the file has bytes
pub tokens_few : (types : List Ty) (s : List ℕ) (at : ℕ) (toks : List (List Token)) → tokens_from types s at ≡ good toks → (i : ℕ) → length (get_or toks i []) ≤ length s
unfolding tokens_from
tokens_few [] s at toks e i =
    let q = or_refuse_good (eqb at (length s)) 5 at (good []) toks e in
    let g : [] ≡ toks = (let k = q.1 in cc) in
    rw (← g) (omega arith)
tokens_few (t ∷ types) s at toks e i =
    let a = next_good (input_tokens t s at (field_at s at)) _ toks e in
    let b = next_good (tokens_from types s a.found.1) _ toks a.then in
    let q : a.found.0 ∷ b.found ≡ toks = (let g = b.then in cc) in
    rw (← q) (by_place a.found.0 b.found i (field_few t s at (field_at s at) a.found a.first) (tokens_few types s a.found.1 b.found b.first))
  where
    by_place : (x : List Token) (xs : List (List Token)) (j : ℕ) → length x ≤ length s → ((k : ℕ) → length (get_or xs k []) ≤ length s) → length (get_or (x ∷ xs) j []) ≤ length s
    by_place x xs zero p q = p
    by_place x xs (suc k) p q = q k

-- ── what stands ──────────────────────────────────────────────────────────────────────────────

module _ (s t p ts b : List ℕ) (c : Counts) (h : Standing s t p ts b c) where
  abbrev x : Index
  x = index_in t c

  abbrev n : Net
  n = net_in s t c ts

  abbrev st : State
  st = state_of s t c ts b

  pub net_all : GoodNet n
  unfolding net_in bare_net token_file
  net_all =
      let k = network_checked s x h.tabled.found in
      let types = input_types (net_of s x []) (net_of s x []).procs in
      let f = or_refuse_good (leb (length ts) 16384) 5 0 (tokens_from types ts 0) (tokens_of s t c ts) h.tokens in
      accepted_net s x k (tokens_of s t c ts) ts f.1

  -- the tokens of input i are few
  pub file_few : (i : ℕ) → length (get_or (tokens_of s t c ts) i []) ≤ 16384
  unfolding token_file bare_net
  file_few i =
      let types = input_types (net_of s x []) (net_of s x []).procs in
      let f = or_refuse_good (leb (length ts) 16384) 5 0 (tokens_from types ts 0) (tokens_of s t c ts) h.tokens in
      omega (arith, tokens_few types ts 0 (tokens_of s t c ts) f.1 i, leb-true (length ts) 16384 f.0)

  pub net_one : OneEach n
  unfolding net_in
  net_one = one_each n net_all (ports_all s x (network_checked s x h.tabled.found) (tokens_of s t c ts))

  pub state_good : GoodState n st
  unfolding state_of
  state_good = fits_good n b h.octets h.fits

  pub state_laid : laid.Sound n st
  state_laid = good_laid n net_all st state_good

  -- the state's bytes, and the rest
  pub whole : b ≡ bytes_of n st ++ drop (state_size n) b
  unfolding state_of
  whole = sym (take-append-drop (state_size n) b) ∙ ap (λ (l : List ℕ). l ++ drop (state_size n) b) (sym (state_whole n true b h.octets h.fits h.long))

-- ── sizes don't depend on the tokens ─────────────────────────────────────────────────────────

map_alike : {A B : Type 0} (f : A → B) (k : ℕ) (g h : ℕ → A) → ((i : ℕ) → f (g i) ≡ f (h i)) → map f (tabulate k g) ≡ map f (tabulate k h)
unfolding tabulate
map_alike f zero g h e = refl
map_alike {B = B} f (suc k) g h e = ap₂ (λ (y : B) (l : List B). y ∷ l) (e 0) (map_alike f k (λ i. g (suc i)) (λ i. h (suc i)) (λ i. e (suc i)))

pub own_sizes : (s : List ℕ) (y : Index) (tokens : List (List Token)) → map own_size (net_of s y tokens).procs ≡ map own_size (net_of s y []).procs
unfolding net_of
own_sizes s y tokens =
    let bs = tabulate (length y.boxes) (λ k. box (box_at s y k)) in
    let os = tabulate (length y.outputs) (output_at s y) in
    let is : List (List Token) → List Proc = λ ks. tabulate (length y.inputs) (input_at s y ks) in
    let apart : (ks : List (List Token)) → map own_size (bs ++ is ks ++ os) ≡ map own_size bs ++ map own_size (is ks) ++ map own_size os
    = λ ks. map-append own_size (bs ++ is ks) os ∙ ap (λ (l : List ℕ). l ++ map own_size os) (map-append own_size bs (is ks)) in
    apart tokens
    ∙ ap (λ (l : List ℕ). map own_size bs ++ l ++ map own_size os) (map_alike own_size (length y.inputs) (input_at s y tokens) (input_at s y []) (λ i. unfold input_at own_size in refl))
    ∙ sym (apart [])

module _ (s t p ts b : List ℕ) (c : Counts) (h : Standing s t p ts b c) where
  abbrev m : Net
  m = net_of s (index_in t c) []

  abbrev n' : Net
  n' = net_in s t c ts

  wires_same : n'.wires ≡ m.wires
  unfolding net_in net_of
  wires_same = refl

  pub size_same : state_size n' ≡ state_size m
  unfolding state_size wires_size net_in
  size_same = ap₂ (λ (ws : List Wire) (l : List ℕ). sum (map wire_size ws) + sum l) wires_same (own_sizes s (index_in t c) (tokens_of s t c ts))

  own_start-same : (k : ℕ) → own_start n' k ≡ own_start m k
  unfolding own_start wires_size net_in
  own_start-same k = ap₂ (λ (ws : List Wire) (l : List ℕ). sum (map wire_size ws) + start_of l k) wires_same (own_sizes s (index_in t c) (tokens_of s t c ts))

  own_size-same : (k : ℕ) → k < length m.procs → own_size (proc n' k) ≡ own_size (proc m k)
  unfolding proc net_in
  own_size-same k l =
      sym (get_d_map_lt own_size (net_of s (index_in t c) (tokens_of s t c ts)).procs k nobody 0 (omega (arith, procs_length s (index_in t c) (tokens_of s t c ts), procs_length s (index_in t c) [])))
      ∙ ap (λ (z : List ℕ). get_or z k 0) (own_sizes s (index_in t c) (tokens_of s t c ts))
      ∙ get_d_map_lt own_size m.procs k nobody 0 l

  -- a wire's or a process's span is the same with the tokens
  pub wire_span_same : (w : ℕ) (r : Span) → WireSpan m w r → WireSpan n' w r
  wire_span_same w r q = record {
    start = q.start ∙ unfold wire_start in ap (λ (ws : List Wire). start_of (map wire_size ws) w) (sym wires_same);
    end = q.end ∙ unfold wire in ap (λ (ws : List Wire). r.start + wire_size (get_or ws w no_wire)) (sym wires_same);
    inside = omega (arith, q.inside, size_same);
  }

  pub own_span_same : (k : ℕ) (r : Span) → k < length m.procs → OwnSpan m k r → OwnSpan n' k r
  own_span_same k r l q = record { start = q.start ∙ sym (own_start-same k); end = q.end ∙ ap (λ (z : ℕ). r.start + z) (sym (own_size-same k l)); inside = omega (arith, q.inside, size_same) }

  -- the bytes at a wire's span are its queue, laid out
  pub wire_bytes_lem : (w : ℕ) (r : Span) → w < length m.wires → WireSpan m w r → mid r.start (r.end - r.start) b ≡ wire_bytes (wire n' w) (queue (state_of s t c ts b) w)
  wire_bytes_lem w r l q =
      wire_part n' (state_of s t c ts b) (state_laid s t p ts b c h) b (drop (state_size n') b) (whole s t p ts b c h) w r.start r.end
      (omega (arith, l, ap length wires_same)) (q.start ∙ unfold wire_start in ap (λ (ws : List Wire). start_of (map wire_size ws) w) (sym wires_same))
      (q.end ∙ unfold wire in ap (λ (ws : List Wire). r.start + wire_size (get_or ws w no_wire)) (sym wires_same))

  pub own_bytes_lem : (k : ℕ) (r : Span) → k < length m.procs → OwnSpan m k r → mid r.start (r.end - r.start) b ≡ own_bytes (proc n' k) (own (state_of s t c ts b) k)
  own_bytes_lem k r l q =
      own_part n' (state_of s t c ts b) (state_laid s t p ts b c h) b (drop (state_size n') b) (whole s t p ts b c h) k r.start r.end
      (unfold net_in in omega (arith, l, procs_length s (index_in t c) (tokens_of s t c ts), procs_length s (index_in t c) []))
      (q.start ∙ sym (own_start-same k)) (q.end ∙ ap (λ (z : ℕ). r.start + z) (sym (own_size-same k l)))

  -- other bytes for a good state stand again, and the rest is as it was
  pub stands : (b' : List ℕ) (s' : State) → GoodState n' s' → Octets b' → b' ≡ bytes_of n' s' ++ drop (state_size n') b → Standing s t p ts b' c
  stands b' s' g o e = record {
    tabled = h.tabled;
    placed = h.placed;
    tokens = h.tokens;
    octets = o;
    long = rw e (omega (arith, length-append (bytes_of n' s') (drop (state_size n') b), length_bytes n' s' (good_laid n' (net_all s t p ts b c h) s' g)));
    fits = rw e (good_fits n' (net_all s t p ts b c h) s' g (drop (state_size n') b));
  }

  pub stands_state : (b' : List ℕ) (s' : State) → GoodState n' s' → b' ≡ bytes_of n' s' ++ drop (state_size n') b → state_of s t c ts b' ≡ s'
  unfolding state_of
  stands_state b' s' g e = rw e (good_back n' (net_all s t p ts b c h) s' g (drop (state_size n') b))
