-- What a box reads, taken wire by wire: what is left gives the whole.
-- Assumes nothing.
use mathlib.Core.Path.{◌≡◌, refl, sym, ap, ap₂, ◌∙◌, subst}
use mathlib.Core.Bool.{Bool, true, false, not, cond}
use mathlib.Core.List.{List, [], ◌∷◌, map}
use Prim.Native.Nat.{ℕ, ◌+◌, ◌-◌, ◌≤◌, ◌<◌}
use native.Mathlib.Omega.{arith}
use native.Mathlib.Numerals.{add-one}
use native.Mathlib.Decide.{dec_lt, ℕ_discrete}
use lib.Dec.{eqb, leb}
use lib.IntN.{ℤ}
use lib.ListN.{length, get_or, drop, set, length-drop, get_or-eq_default}
use lib.Seq.{drop-length, drop-cons}
use borrow.Author.Tests.{ne_eqb}
use Rattle.std.specs.Prelude.{Some}
use Rattle.model.specs.declared.Token.{Token}
use Rattle.model.specs.Bytes.{value_at}
use Rattle.model.specs.Expressions.{read_many}
use Rattle.model.specs.Rules.{Pattern, ignore, any, only, pattern_of, read_pattern}
use Rattle.model.specs.Network.{State, queue}
use Rattle.model.specs.NetworkFile.{hit}
use Rattle.model.specs.Cycles.{reads, oldest, seen, look, moves, take_all}
use Rattle.model.specs.Orders.{on_wire}
use Rattle.model.proofs.Order.{length_joined, hit_same, hit_other}
use Rattle.expressions.specs.Reading.{end_from, is_read, skip_to}
use Rattle.table.specs.declared.Counts.{Counts}
use Rattle.rules.specs.Bodies.{pattern_codes, any_code, patterns_from}
use Rattle.rules.proofs.Ends.{pattern_there, pattern_skip}
use Rattle.typing.specs.Fits.{list_read}
use Rattle.typing.proofs.Peeling.{peel, first_read}
use Rattle.typing.proofs.Patterns.{pattern_at, read_step, minus_zero}
use Rattle.places.specs.Standing.{Standing, state_of}
use Rattle.moves.specs.Moves.{Became, CanTake, with_queue, after_take}
use Rattle.moves.proofs.Laws.{became_none, became_more, queue-same, queue_other}
use Rattle.taking.specs.Reading.{read_from, after_reading, after_read, Holds, CanRead, CanReadAt}

-- ── one wire ─────────────────────────────────────────────────────────────────────────────────

pub read_none : (code w : ℕ) (s : State) → code ≡ 0 → after_read (not (eqb code 0)) w s ≡ s
unfolding after_read
read_none code w s e = rw e

pub read_some : (code w v : ℕ) (s : State) → (code ≡ 0 → ⊥) → v ≡ w → after_read (not (eqb code 0)) w s ≡ after_take v s
unfolding after_read
read_some code w v s f e = rw (ne_eqb code 0 f, e)

-- a pattern reads unless its code is 0
reads_either : (b : Bool) (x y : Pattern) → reads x ≡ true → reads y ≡ true → reads (cond b x y) ≡ true
reads_either true x y p q = p
reads_either false x y p q = q

reads_unless : (b : Bool) (x : Pattern) → reads x ≡ true → reads (cond b ignore x) ≡ not b
unfolding reads
reads_unless true x p = refl
reads_unless false x p = p

reads_code : (c : ℕ) (z : ℤ) → reads (pattern_of c z) ≡ not (eqb c 0)
unfolding reads pattern_of
reads_code c z =
    let last : Pattern = cond (leb c 5) (any (c - 2)) (only 3 z) in
    let next : Pattern = cond (eqb c 2) (only 0 z) last in
    reads_unless (eqb c 0) (cond (eqb c 1) (any 0) next)
    (reads_either (eqb c 1) (any 0) next refl (reads_either (eqb c 2) (only 0 z) last refl (reads_either (leb c 5) (any (c - 2)) (only 3 z) refl refl)))

-- ── what is taken doesn't depend on the tokens that are seen ─────────────────────────────────

take_alike : (s s' : State) (ws : List ℕ) (bs : List Bool) (qs : List (List Token)) → take_all (moves ws (look s ws bs)) qs ≡ take_all (moves ws (look s' ws bs)) qs
unfolding look seen moves take_all
take_alike s s' [] bs qs = refl
take_alike s s' (w ∷ ws) [] qs = refl
take_alike s s' (w ∷ ws) (true ∷ bs) qs = take_alike s s' ws bs (set qs w (drop 1 (get_or qs w [])))
take_alike s s' (w ∷ ws) (false ∷ bs) qs = take_alike s s' ws bs qs

count_alike : (s s' : State) (ws : List ℕ) (bs : List Bool) (v : ℕ) → length (on_wire v (moves ws (look s ws bs))) ≡ length (on_wire v (moves ws (look s' ws bs)))
unfolding look seen moves on_wire
count_alike s s' [] bs v = refl
count_alike s s' (w ∷ ws) [] v = refl
count_alike s s' (w ∷ ws) (true ∷ bs) v =
    omega (arith, count_alike s s' ws bs v, length_joined (eqb w v) (oldest (queue s w)) (on_wire v (moves ws (look s ws bs))), length_joined (eqb w v) (oldest (queue s' w)) (on_wire v (moves ws (look s' ws bs))))
count_alike s s' (w ∷ ws) (false ∷ bs) v = count_alike s s' ws bs v

-- a wire that holds a token is there
there : (s : State) (w : ℕ) → 0 < length (queue s w) → w < length s.queues
unfolding queue
there s w h = by_place (dec_lt w (length s.queues))
  where
    by_place : Dec (w < length s.queues) → w < length s.queues
    by_place (yes l) = l
    by_place (no f) = absurd (omega (arith, h, ap (λ (q : List Token). length q) (get_or-eq_default s.queues [] {n = w} (omega (arith, f)))))

-- ── the first wire, then the others ──────────────────────────────────────────────────────────

module _ (s : State) (w : ℕ) (ws : List ℕ) where
  reading_next : (r : Bool) (bs : List Bool) → after_reading (w ∷ ws) (r ∷ bs) s ≡ after_reading ws bs (after_read r w s)
  unfolding after_reading after_read after_take with_queue queue look seen moves take_all
  reading_next true bs =
      ap (λ (qs : List (List Token)). record { queues = qs; owns = s.owns }) (take_alike s (after_take w s) ws bs (set s.queues w (drop 1 (get_or s.queues w []))))
  reading_next false bs = refl

  -- the tokens wanted of wire v, the first wire being read
  wanted : (bs : List Bool) (v : ℕ) → length (on_wire v (moves (w ∷ ws) (look s (w ∷ ws) (true ∷ bs)))) ≡ hit (eqb w v) + length (on_wire v (moves ws (look s ws bs)))
  unfolding look seen moves on_wire
  wanted bs v = length_joined (eqb w v) (oldest (queue s w)) (on_wire v (moves ws (look s ws bs)))

  holds_here : (r : Bool) (bs : List Bool) → Holds s (w ∷ ws) (r ∷ bs) → r ≡ true → 0 < length (queue s w)
  holds_here true bs h e = omega (arith, h.has w, wanted bs w, hit_same w w refl)
  holds_here false bs h e = let z : ◌≡◌ {A = ℕ} 0 1 = cc in absurd (omega arith)

  holds_next : (r : Bool) (bs : List Bool) → Holds s (w ∷ ws) (r ∷ bs) → Holds (after_read r w s) ws bs
  unfolding after_read after_take
  holds_next true bs h = record { has = λ v. by_place v (ℕ_discrete v w) }
    where
      l : w < length s.queues
      l = there s w (holds_here true bs h refl)

      by_place : (v : ℕ) → Dec (v ≡ w) → length (on_wire v (moves ws (look (after_take w s) ws bs))) ≤ length (queue (after_take w s) v)
      by_place v (yes e) =
          let g : length (queue (after_take w s) v) ≡ length (queue s w) - 1 = ap (λ (u : ℕ). length (queue (after_take w s) u)) e ∙ ap (λ (q : List Token). length q) (queue-same s w (drop 1 (queue s w)) l) ∙ length-drop 1 (queue s w) in
          omega (arith, g, e, h.has v, wanted bs v, hit_same w v (sym e), count_alike s (after_take w s) ws bs v, ap (λ (u : ℕ). length (queue s u)) e)
      by_place v (no f) =
          let g : length (queue (after_take w s) v) ≡ length (queue s v) = ap (λ (q : List Token). length q) (queue_other s w v (drop 1 (queue s w)) f) in
          omega (arith, g, h.has v, wanted bs v, hit_other w v (λ e. f (sym e)), count_alike s (after_take w s) ws bs v)
  holds_next false bs h = record { has = λ v. unfold look seen moves in h.has v }

-- ── one input, done ──────────────────────────────────────────────────────────────────────────

module _ (s t p ts b : List ℕ) (c : Counts) (code w : ℕ) where
  abbrev st : State
  st = state_of s t c ts b

  pub none_read : Standing s t p ts b c → code ≡ 0 → Became s t p ts b c b (after_read (not (eqb code 0)) w st)
  none_read h e = rw (read_none code w st e) (became_none s t p ts c b h)

  pub one_read : (v : ℕ) (b' : List ℕ) → v ≡ w → (code ≡ 0 → ⊥) → Became s t p ts b c b' (after_take v st) → Became s t p ts b c b' (after_read (not (eqb code 0)) w st)
  one_read v b' e f g = rw (read_some code w v st f e) g

pub read_takes : (c : Counts) (s : State) (ws : List ℕ) (k j code v : ℕ) → CanReadAt c s ws k j code → (v ≡ get_or ws j 0) × (v < c.wires) → (code ≡ 0 → ⊥) → CanTake c s v
read_takes c s ws k j code v r e f = record { known = e.1; some = rw e.0 (r.waits (ap not (ne_eqb code 0 f))) }

-- ── one input after another ──────────────────────────────────────────────────────────────────

-- from the lent bytes b₀ on, all inputs before j are done: what the patterns from an offset on still read gives the whole
pub record Left (s t p ts b₀ : List ℕ) (c : Counts) (ws body : List ℕ) (j at : ℕ) (b : List ℕ) : Type 0 where
  pub became : Became s t p ts b₀ c b (state_of s t c ts b)
  pub read : is_read (patterns_from false (length ws - j) at body) ≡ true
  pub holds : Holds (state_of s t c ts b) (drop j ws) (read_from (length ws - j) at body)
  pub whole : after_reading (drop j ws) (read_from (length ws - j) at body) (state_of s t c ts b) ≡ after_reading ws (read_from (length ws) 0 body) (state_of s t c ts b₀)

module _ (s t p ts b₀ : List ℕ) (c : Counts) (ws body : List ℕ) where
  pub left_first : (k : ℕ) → Standing s t p ts b₀ c → CanRead c (state_of s t c ts b₀) ws k body → Left s t p ts b₀ c ws body 0 0 b₀
  left_first k h r =
      let e = minus_zero (length ws) in
      record { became = became_none s t p ts c b₀ h; read = rw e r.whole; holds = rw e r.holds; whole = rw e refl }

  pub left_last : (j at : ℕ) (b : List ℕ) → j ≡ length ws → Left s t p ts b₀ c ws body j at b → Became s t p ts b₀ c b (after_reading ws (read_from (length ws) 0 body) (state_of s t c ts b₀))
  unfolding after_reading look moves take_all
  left_last j at b l q =
      let none : drop j ws ≡ [] = ap (λ (m : ℕ). drop m ws) l ∙ drop-length ws in
      let e : after_reading (drop j ws) (read_from (length ws - j) at body) (state_of s t c ts b) ≡ state_of s t c ts b = ap (λ (y : List ℕ). after_reading y (read_from (length ws - j) at body) (state_of s t c ts b)) none in
      subst (Became s t p ts b₀ c b) (sym e ∙ q.whole) q.became

  module _ (j at : ℕ) (b : List ℕ) (q : Left s t p ts b₀ c ws body j at b) (l : j < length ws) where
    is_read_lem : is_read (read_pattern (pattern_codes false) (drop at body)) ≡ true
    unfolding patterns_from
    is_read_lem = first_read (read_pattern (pattern_codes false)) body (length ws - j) at (omega (arith, l)) q.read

    pub left_there : is_read (read_pattern any_code (drop at body)) ≡ true
    left_there = pattern_there (pattern_codes false) body at is_read_lem

    module _ (end code : ℕ) (g : end ≡ skip_to at (read_pattern any_code (drop at body))) (d : code ≡ get_or body at 0) where
      e : end_from at (read_pattern (pattern_codes false) (drop at body)) ≡ Some end
      e = pattern_skip (pattern_codes false) body at is_read_lem end g

      abbrev r : Bool
      r = not (eqb code 0)

      abbrev w : ℕ
      w = get_or ws j 0

      abbrev next : List Bool
      next = read_from (length ws - (j + 1)) end body

      first_bool : read_from (length ws - j) at body ≡ r ∷ next
      unfolding read_from patterns_from
      first_bool =
          let f = read_pattern (pattern_codes false) in
          let x = peel f body (length ws - j) at end (omega (arith, l)) q.read e in
          let m : length ws - j - 1 ≡ length ws - (j + 1) = omega (arith, l) in
          let g : reads x.first.thing ≡ r = ap reads (pattern_at false body at x.first.read) ∙ reads_code (get_or body at 0) (value_at body (at + 1)) ∙ ap (λ (k : ℕ). not (eqb k 0)) (sym d) in
          ap (λ (l : List Pattern). map reads l) x.list ∙ ap₂ (λ (y : Bool) (k : ℕ). y ∷ map reads (list_read (read_many f k (drop end body)))) g m

      first_wire : drop j ws ≡ w ∷ drop (j + 1) ws
      first_wire = drop-cons ws j 0 l ∙ ap (λ (m : ℕ). w ∷ drop m ws) (sym (add-one j))

      held : Holds (state_of s t c ts b) (w ∷ drop (j + 1) ws) (r ∷ next)
      held = subst (Holds (state_of s t c ts b) (w ∷ drop (j + 1) ws)) first_bool (subst (λ (y : List ℕ). Holds (state_of s t c ts b) y (read_from (length ws - j) at body)) first_wire q.holds)

      pub left_asks : (k : ℕ) → k < c.boxes → CanReadAt c (state_of s t c ts b) ws k j code
      left_asks k i = record { known = i; there = l; waits = holds_here (state_of s t c ts b) w (drop (j + 1) ws) r next held }

      pub left_next : (b' : List ℕ) → Became s t p ts b c b' (after_read r w (state_of s t c ts b)) → Left s t p ts b₀ c ws body (j + 1) end b'
      left_next b' g = record {
        became = became_more s t p ts c b₀ b b' (state_of s t c ts b) (state_of s t c ts b') q.became (record { stands = g.stands; state = refl; long = g.long; rest = g.rest });
        read = read_step false body [] (length ws) j at end l q.read e;
        holds = subst (λ (y : State). Holds y (drop (j + 1) ws) next) (sym g.state) (holds_next (state_of s t c ts b) w (drop (j + 1) ws) r next held);
        whole = ap (after_reading (drop (j + 1) ws) next) g.state
            ∙ sym (reading_next (state_of s t c ts b) w (drop (j + 1) ws) r next)
            ∙ ap₂ (λ (x : List ℕ) (y : List Bool). after_reading x y (state_of s t c ts b)) (sym first_wire) (sym first_bool)
            ∙ q.whole;
      }
