-- The lines of the outputs of a state that stands.
-- Assumes nothing.
use Prim.Native.Nat.{ℕ, zero, suc, ◌+◌, ◌-◌, ◌*◌, ◌≤◌, ◌<◌}
use mathlib.Core.Path.{◌≡◌, refl, sym, ap, ap₂, ◌∙◌, subst}
use mathlib.Core.Bool.{Bool, true, false}
use mathlib.Core.List.{List, [], ◌∷◌, ◌++◌}
use native.Mathlib.Omega.{arith}
use native.Mathlib.Numerals.{add-one}
use native.Mathlib.Decide.{dec_lt}
use lib.ListN.{length, get_or, drop, replicate, drop_of_length-le}
use lib.Seq.{drop-cons, drop-drop}
use Rattle.std.specs.Prelude.{Ok, Err}
use Rattle.model.specs.declared.Ty.{Ty}
use Rattle.model.specs.declared.Refusal.{Refusal}
use Rattle.model.specs.declared.Token.{Token}
use Rattle.model.specs.Bytes.{two_at, two_bytes, four_bytes, value_bytes}
use Rattle.model.specs.Network.{Proc, box, input, output, Net, Own, vars, State, wire, proc, own, got_of, nobody}
use Rattle.model.specs.NetworkFile.{Index, input_at, output_at, by_verdict}
use Rattle.model.specs.States.{token_at, read_tokens, tokens_bytes, token_bytes, token_fits, tokens_fit, room_bytes, own_bytes}
use Rattle.model.specs.Printing.{shown, spaced, output_line, output_lines}
use Rattle.model.proofs.Tests.{and₂}
use Rattle.model.proofs.Decoded.{GoodType, GoodProc}
use Rattle.model.proofs.Kept.{GoodGot, GoodOwn, token_small, token_back}
use Rattle.model.proofs.Lookup.{procs_length, box_proc, input_proc, output_proc}
use Rattle.table.specs.declared.Counts.{Counts}
use Rattle.table.specs.Table.{index_in}
use Rattle.queues.proofs.Queues.{got_count}
use Rattle.lookup.proofs.Tabled.{n_boxes, n_inputs, n_outputs}
use Rattle.places.specs.Standing.{tokens_of, net_in, Standing, state_of}
use Rattle.places.proofs.Standing.{net_all, state_good}
use Rattle.places.specs.Views.{net_at, state_at}
use Rattle.token_file.specs.declared.Feed.{Feed}
use Rattle.opening.specs.Opening.{OpenState, StateOpened}
use Rattle.opening.proofs.Laws.{whole_held}
use Rattle.printing.specs.Pages.{Page, laid}
use Rattle.printing.specs.Lines.{lines_in}
use Rattle.printing.proofs.Pages.{then, as_said}

-- ── tokens, one after another ────────────────────────────────────────────────────────────────

left_tokens : (s : List ℕ) (k i : ℕ) → i < k → read_tokens (k - i) (drop (2 + 5 * i) s) ≡ token_at (drop (2 + 5 * i) s) ∷ read_tokens (k - (i + 1)) (drop (2 + 5 * (i + 1)) s)
unfolding read_tokens
left_tokens s k i h =
    let e : k - i ≡ suc (k - (i + 1)) = omega arith in
    let f : 2 + 5 * i + 5 ≡ 2 + 5 * (i + 1) = omega arith in
    ap (λ (j : ℕ). read_tokens j (drop (2 + 5 * i) s)) e
    ∙ ap (λ (l : List ℕ). token_at (drop (2 + 5 * i) s) ∷ read_tokens (k - (i + 1)) l) (drop-drop 5 (2 + 5 * i) s ∙ ap (λ (j : ℕ). drop j s) f)

-- the tokens of an output's part from token i on, each behind a space
unfoldable pub spaced_from : List ℕ → ℕ → ℕ → List ℕ
spaced_from s k i = spaced (read_tokens (k - i) (drop (2 + 5 * i) s))

pub spaced_turn : (s : List ℕ) (k i : ℕ) (t : Token) (o : Page) {p q : Page} → i < k → t ≡ token_at (drop (2 + 5 * i) s) → p ≡ laid (32 ∷ []) o → q ≡ laid (shown t) p →
    laid (spaced_from s k (i + 1)) q ≡ laid (spaced_from s k i) o
unfolding spaced_from spaced
spaced_turn s k i t o {p} h e f g =
    let rest : List ℕ = spaced_from s k (i + 1) in
    then (32 ∷ []) (shown t ++ rest) o f (then (shown t) rest p g refl)
    ∙ ap (λ (x : Token). laid (32 ∷ (shown x ++ rest)) o) e
    ∙ ap (λ (l : List Token). laid (spaced l) o) (sym (left_tokens s k i h))

pub spaced_all : (s : List ℕ) (k : ℕ) (o : Page) → laid (spaced_from s k 0) o ≡ laid (spaced (read_tokens k (drop 2 s))) o
unfolding spaced_from
spaced_all s k o = let e : k - 0 ≡ k = omega arith in ap (λ (j : ℕ). laid (spaced (read_tokens j (drop 2 s))) o) e

pub spaced_done : (s : List ℕ) (k i : ℕ) (o : Page) → k ≤ i → laid (spaced_from s k i) o ≡ o
unfolding spaced_from spaced read_tokens laid
spaced_done s k i o h = let e : k - i ≡ 0 = omega arith in ap (λ (j : ℕ). laid (spaced (read_tokens j (drop (2 + 5 * i) s))) o) e

-- the tokens of an output, laid out and read again
tokens_back : (t : Ty) → GoodType t → (q : List Token) (rest : List ℕ) → tokens_fit t q ≡ true → read_tokens (length q) (tokens_bytes q ++ rest) ≡ q
unfolding tokens_fit read_tokens tokens_bytes token_bytes value_bytes four_bytes
tokens_back t g [] rest e = refl
tokens_back t g (k ∷ q) rest e =
    let h = and₂ (token_fits t k) (tokens_fit t q) e in
    ap₂ (λ (x : Token) (xs : List Token). x ∷ xs) (token_back k (tokens_bytes q ++ rest) (token_small t g k h.0)) (tokens_back t g q rest h.1)

got_back : (t : Ty) → GoodType t → (w room : ℕ) (o : Own) → GoodGot t room o → read_tokens (two_at (own_bytes (output w room) o) 0) (drop 2 (own_bytes (output w room) o)) ≡ got_of o
unfolding own_bytes two_bytes room_bytes got_of
got_back t g w room o h =
    ap (λ (j : ℕ). read_tokens j (room_bytes room (got_of o))) (got_count w room (got_of o)) ∙ tokens_back t g (got_of o) (replicate ((room - length (got_of o)) * 5) 0) h.fit

-- ── lines, one after another ─────────────────────────────────────────────────────────────────

-- the lines of the processes from k on, whose outputs count from i
unfoldable pub lines_from : Net → State → ℕ → ℕ → List ℕ
lines_from n s i k = output_lines i (drop k n.procs) (drop k s.owns)

is_output : Proc → Bool
is_output (box b) = false
is_output (input w ts) = false
is_output (output w room) = true

no_line : (p : Proc) (o : Own) (ps : List Proc) (os : List Own) (i : ℕ) → is_output p ≡ false → output_lines i (p ∷ ps) (o ∷ os) ≡ output_lines i ps os
unfolding output_lines is_output
no_line (box b) o ps os i e = refl
no_line (input w ts) o ps os i e = refl
no_line (output w room) o ps os i e = let z : true ≡ false = e in absurd (let y : ◌≡◌ {A = ℕ} 0 1 = cc in omega arith)

module _ (n : Net) (s : State) (long : length s.owns ≡ length n.procs) where
  from_cons : (i k : ℕ) → k < length n.procs → lines_from n s i k ≡ output_lines i (proc n k ∷ drop (k + 1) n.procs) (own s k ∷ drop (k + 1) s.owns)
  unfolding lines_from proc own
  from_cons i k h =
      ap₂ (output_lines i)
      (drop-cons n.procs k nobody h ∙ ap (λ (j : ℕ). get_or n.procs k nobody ∷ drop j n.procs) (sym (add-one k)))
      (drop-cons s.owns k (vars []) (omega arith) ∙ ap (λ (j : ℕ). get_or s.owns k (vars []) ∷ drop j s.owns) (sym (add-one k)))

  pub line_turn : (w room i k : ℕ) → k < length n.procs → proc n k ≡ output w room → lines_from n s i k ≡ output_line i (got_of (own s k)) ++ lines_from n s (i + 1) (k + 1)
  unfolding lines_from output_lines
  line_turn w room i k h e =
      from_cons i k h
      ∙ ap (λ (p : Proc). output_lines i (p ∷ drop (k + 1) n.procs) (own s k ∷ drop (k + 1) s.owns)) e
      ∙ ap (λ (j : ℕ). output_line i (got_of (own s k)) ++ output_lines j (drop (k + 1) n.procs) (drop (k + 1) s.owns)) (sym (add-one i))

  pub line_done : (i k : ℕ) → length n.procs ≤ k → lines_from n s i k ≡ []
  unfolding lines_from output_lines
  line_done i k h = ap (λ (ps : List Proc). output_lines i ps (drop k s.owns)) (drop_of_length-le n.procs h)

  skip_to_lem : (m : ℕ) → m ≤ length n.procs → ((k : ℕ) → k < m → is_output (proc n k) ≡ false) → output_lines 0 n.procs s.owns ≡ lines_from n s 0 m
  unfolding lines_from
  skip_to_lem zero h f = refl
  skip_to_lem (suc m) h f =
      skip_to_lem m (omega arith) (λ k l. f k (omega (arith, l)))
      ∙ from_cons 0 m (omega arith)
      ∙ no_line (proc n m) (own s m) (drop (m + 1) n.procs) (drop (m + 1) s.owns) 0 (f m (omega arith))
      ∙ ap (λ (j : ℕ). output_lines 0 (drop j n.procs) (drop j s.owns)) (add-one m)

-- ── the outputs of a state that stands ───────────────────────────────────────────────────────

module _ (s t p ts b : List ℕ) (c : Counts) (h : Standing s t p ts b c) where
  abbrev x : Index
  x = index_in t c

  abbrev n : Net
  n = net_in s t c ts

  abbrev st : State
  st = state_of s t c ts b

  procs_all : length n.procs ≡ c.boxes + c.inputs + c.outputs
  unfolding net_in
  procs_all = procs_length s x (tokens_of s t c ts) ∙ omega (arith, n_boxes s t c h.tabled, n_inputs s t c h.tabled, n_outputs s t c h.tabled)

  owns_all : length st.owns ≡ length n.procs
  owns_all = (state_good s t p ts b c h).owns

  no_output : (k : ℕ) → k < c.boxes + c.inputs → is_output (proc n k) ≡ false
  unfolding net_in is_output input_at
  no_output k l = go (dec_lt k c.boxes)
    where
      go : Dec (k < c.boxes) → is_output (proc n k) ≡ false
      go (yes g) = ap is_output (box_proc s x (tokens_of s t c ts) k (omega (arith, n_boxes s t c h.tabled)))
      go (no f) =
          let m : k ≡ length x.boxes + (k - c.boxes) = omega (arith, f, n_boxes s t c h.tabled) in
          ap (λ (j : ℕ). is_output (proc n j)) m ∙ ap is_output (input_proc s x (tokens_of s t c ts) (k - c.boxes) (omega (arith, f, n_inputs s t c h.tabled)))

  -- the outputs are the last processes
  pub lines_all : output_lines 0 n.procs st.owns ≡ lines_from n st 0 (c.boxes + c.inputs)
  lines_all = skip_to_lem n st owns_all (c.boxes + c.inputs) (omega (arith, procs_all)) no_output

  pub lines_done : (i k : ℕ) → c.boxes + c.inputs + c.outputs ≤ k → lines_from n st i k ≡ []
  lines_done i k l = line_done n st owns_all i k (omega (arith, procs_all))

  module _ (k : ℕ) (least : c.boxes + c.inputs ≤ k) (most : k < c.boxes + c.inputs + c.outputs) where
    abbrev at : ℕ
    at = get_or x.outputs (k - (c.boxes + c.inputs)) 0

    is_output_lem : proc n k ≡ output (get_or s (at + 3) 0) (two_at s (at + 4))
    unfolding net_in output_at
    is_output_lem =
        let m : k ≡ length x.boxes + length x.inputs + (k - (c.boxes + c.inputs)) = omega (arith, n_boxes s t c h.tabled, n_inputs s t c h.tabled) in
        ap (proc n) m ∙ output_proc s x (tokens_of s t c ts) (k - (c.boxes + c.inputs)) (omega (arith, n_outputs s t c h.tabled))

    pub lines_turn : (i : ℕ) → lines_from n st i k ≡ output_line i (got_of (own st k)) ++ lines_from n st (i + 1) (k + 1)
    lines_turn i = line_turn n st owns_all (get_or s (at + 3) 0) (two_at s (at + 4)) i k (omega (arith, procs_all)) is_output_lem

    -- the tokens that its bytes hold
    pub got_at : (part : List ℕ) → part ≡ own_bytes (proc n k) (own st k) → read_tokens (two_at part 0) (drop 2 part) ≡ got_of (own st k)
    unfolding proc own wire
    got_at part e =
        let w : ℕ = get_or s (at + 3) 0 in
        let room : ℕ = two_at s (at + 4) in
        let l : k < length n.procs = omega (arith, procs_all) in
        let gp = subst (GoodProc n) is_output_lem ((net_all s t p ts b c h).procs k l) in
        let go = subst (λ (q : Proc). GoodOwn n q (own st k)) is_output_lem ((state_good s t p ts b c h).kept k l) in
        ap (λ (y : List ℕ). read_tokens (two_at y 0) (drop 2 y)) (e ∙ ap (λ (q : Proc). own_bytes q (own st k)) is_output_lem)
        ∙ got_back (wire n w).ty ((net_all s t p ts b c h).wires w gp.0).ty w room (own st k) go

    -- its line, and those behind it
    pub lines_next : (i : ℕ) (part : List ℕ) (o : Page) {q : Page} → part ≡ own_bytes (proc n k) (own st k) → q ≡ laid (output_line i (read_tokens (two_at part 0) (drop 2 part))) o →
        laid (lines_from n st (i + 1) (k + 1)) q ≡ laid (lines_from n st i k) o
    lines_next i part o e f =
        let line : List ℕ = output_line i (got_of (own st k)) in
        then line (lines_from n st (i + 1) (k + 1)) o (as_said o (ap (output_line i) (got_at part e)) f) refl ∙ ap (λ (l : List ℕ). laid l o) (sym (lines_turn i))

-- ── from the files and the lent bytes ────────────────────────────────────────────────────────

pub no_lines : (s ts b : List ℕ) (x : Refusal) → StateOpened s ts b (Err x) → [] ≡ lines_in s ts b
unfolding lines_in by_verdict StateOpened
no_lines s ts b x e = rw e

pub opened_lem : (s ts b : List ℕ) (f : Feed) → StateOpened s ts b (Ok f) → OpenState s ts b f
unfolding StateOpened
opened_lem s ts b f e = e

pub lines_in_lem : (s ts b : List ℕ) (f : Feed) → OpenState s ts b f → output_lines 0 (net_at f.site).procs (state_at f.site b).owns ≡ lines_in s ts b
unfolding lines_in by_verdict
lines_in_lem s ts b f h = rw (whole_held s ts b f h)
