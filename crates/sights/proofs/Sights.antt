-- What the bytes of a wire and of a box show.
-- Assumes nothing.
use mathlib.Core.Path.{◌≡◌, refl, sym, ap, ap₂, ◌∙◌, subst}
use mathlib.Core.List.{List, [], ◌∷◌}
use Prim.Native.Nat.{ℕ, zero, suc, ◌+◌, ◌-◌, ◌*◌, ◌≤◌, ◌<◌}
use native.Mathlib.Omega.{arith}
use native.Mathlib.Decide.{dec_lt, ℕ_discrete}
use lib.Dec.{leb}
use lib.IntN.{ℤ, pos}
use lib.Signed.{mag}
use mir.Syntax.{w64}
use mir.Val.{to_z, of_z}
use lib.ListN.{length, get_or, drop, set, replicate, length-set, get_or-eq_default}
use lib.Seq.{get_or-set_same, get_or-set_other}
use borrow.Author.Tests.{ne_eqb, le-leb, lt-leb}
use Rattle.model.specs.declared.Token.{Token}
use Rattle.model.specs.Bytes.{signed_of, four_at, value_at}
use Rattle.model.specs.Network.{Wire, Box, Proc, box, Net, Own, vars, State, no_token, no_wire, nobody, wire, proc, capacity, queue, own, vars_of}
use Rattle.model.specs.NetworkFile.{hit, box_at}
use Rattle.model.specs.States.{token_at, token_bytes, tokens_bytes, room_bytes, wire_bytes, own_bytes, wire_size}
use Rattle.model.specs.Cycles.{oldest, full}
use Rattle.model.proofs.Decoded.{Each}
use Rattle.model.proofs.Lookup.{box_proc, procs_length}
use Rattle.model.proofs.Kept.{GoodVars, GoodOwn, GoodState}
use Rattle.octets.proofs.Laws.{back}
use Rattle.table.specs.declared.Counts.{Counts}
use Rattle.table.specs.Table.{index_in}
use Rattle.queues.proofs.Queues.{length_wire, wire_count, box_var}
use Rattle.queues.proofs.Reading.{oldest_wire}
use Rattle.queues.proofs.Whole.{both_at, both_length}
use Rattle.queues.specs.Sound.{Sane, Kept, of_box, of_input, of_output, Sound}
use Rattle.lookup.proofs.Tabled.{n_boxes}
use Rattle.places.specs.Standing.{tokens_of, net_in, Standing, state_of}
use Rattle.places.proofs.Standing.{state_good, state_laid}
use Rattle.sights.proofs.Ports.{box_is}
use Rattle.sights.specs.Seen.{head_of, head_in, full_in, Oldest, Fulls, Variables}

-- ── a wire's bytes ───────────────────────────────────────────────────────────────────────────

pub head_none : (p : List ℕ) (a : ℕ) → a ≡ get_or p 0 0 → a ≡ 0 → 4 ≡ head_in p
unfolding head_in
head_none p a e z = rw (← e, z)

pub head_some : (p : List ℕ) (a v : ℕ) → a ≡ get_or p 0 0 → (a ≡ 0 → ⊥) → v ≡ get_or p 1 0 → v ≡ head_in p
unfolding head_in
head_some p a v e f q = rw (← e, ne_eqb a 0 f) q

pub head_is : (w : Wire) (q : List Token) → head_in (wire_bytes w q) ≡ head_of q
unfolding head_in head_of wire_bytes room_bytes tokens_bytes token_bytes
head_is w [] = refl
head_is w (t ∷ q) = rw (ne_eqb (suc (length q)) 0 (λ e. omega (arith, e)))

pub full_read : (p : List ℕ) (a : ℕ) → a ≡ get_or p 0 0 → leb (length p) (1 + 5 * a) ≡ full_in p
unfolding full_in
full_read p a e = ap (λ (i : ℕ). leb (length p) (1 + 5 * i)) e

-- five bytes a token, as many tokens as the capacity
leb_five : (a b : ℕ) → leb (1 + 5 * a) (1 + 5 * b) ≡ leb a b
leb_five a b = go (dec_lt b a)
  where
    go : Dec (b < a) → leb (1 + 5 * a) (1 + 5 * b) ≡ leb a b
    go (yes h) = lt-leb (1 + 5 * a) (1 + 5 * b) (omega arith) ∙ sym (lt-leb a b h)
    go (no f) = le-leb (1 + 5 * a) (1 + 5 * b) (omega (arith, f)) ∙ sym (le-leb a b (omega (arith, f)))

pub full_is : (n : Net) (s : State) (w : ℕ) → length (queue s w) ≤ capacity n w → full_in (wire_bytes (wire n w) (queue s w)) ≡ full n s w
unfolding full_in full capacity wire_size
full_is n s w l =
    ap₂ (λ (a b : ℕ). leb a (1 + 5 * b)) (length_wire (wire n w) (queue s w) l) (wire_count (wire n w) (queue s w))
    ∙ leb_five (wire n w).capacity (length (queue s w))

zero_at : (k i : ℕ) → ◌≡◌ {A = ℕ} (get_or (replicate k 0) i 0) 0
zero_at zero i = refl
zero_at (suc k) zero = refl
zero_at (suc k) (suc i) = zero_at k i

-- an empty wire's bytes read as no token
oldest_none : (w : Wire) → token_at (drop 1 (wire_bytes w [])) ≡ no_token
unfolding token_at value_at four_at wire_bytes room_bytes tokens_bytes no_token
oldest_none w =
    let z = zero_at ((w.capacity - 0) * 5) in
    rw (z 0, z 1, z 2, z 3, z 4) (unfold signed_of in refl)

pub oldest_is : (w : Wire) (q : List Token) → Each Sane no_token q → token_at (drop 1 (wire_bytes w q)) ≡ oldest q
unfolding oldest
oldest_is w [] h = oldest_none w
oldest_is w (t ∷ q) h = oldest_wire w q t (h 0 (omega arith))

-- the tokens on any wire
pub queue-sane : (n : Net) (s : State) → Sound n s → (w : ℕ) → Each Sane no_token (queue s w)
unfolding queue
queue-sane n s h w = go (dec_lt w (length n.wires))
  where
    go : Dec (w < length n.wires) → Each Sane no_token (get_or s.queues w [])
    go (yes l) = (both_at h.wires w no_wire [] l).sane
    go (no f) = rw (get_or-eq_default s.queues [] {n = w} (omega (arith, f, both_length h.wires))) (λ i l. absurd (omega (arith, l)))

-- ── ports ────────────────────────────────────────────────────────────────────────────────────

-- one more of what f says, behind the first j
set_next : {A : Type 0} (f : ℕ → A) (d : A) (l : List A) (j : ℕ) (x : A) → j < length l → ((i : ℕ) → i < j → get_or l i d ≡ f i) → x ≡ f j → (i : ℕ) → i < j + 1 → get_or (set l j x) i d ≡ f i
set_next {A} f d l j x h q e i m = go (ℕ_discrete i j)
  where
    go : Dec (i ≡ j) → get_or (set l j x) i d ≡ f i
    go (yes z) = rw z (get_or-set_same l j x d h ∙ e)
    go (no g) = get_or-set_other l j i x d g ∙ q i (omega (arith, m, g))

-- a turn finds wire w of port j, whose bytes are p
module _ (n : Net) (s : State) (ws : List ℕ) (j w : ℕ) (p : List ℕ) (found : w ≡ get_or ws j 0) (bytes : p ≡ wire_bytes (wire n w) (queue s w)) where
  pub oldest_next : (h : List ℕ) (v : List ℤ) (a : ℕ) (z : ℤ) (t : Token) → Sound n s → a ≡ head_in p → z ≡ t.value → t ≡ token_at (drop 1 p) → j < length h → j < length v → Oldest s ws j h v → Oldest s ws (j + 1) (set h j a) (set v j z)
  oldest_next h v a z t g e y f lh lv q = record {
    heads = set_next (λ i. head_of (queue s (get_or ws i 0))) 0 h j a lh q.heads (e ∙ ap head_in bytes ∙ head_is (wire n w) (queue s w) ∙ ap (λ (i : ℕ). head_of (queue s i)) found);
    values = set_next (λ i. (oldest (queue s (get_or ws i 0))).value) (pos 0) v j z lv q.values
        (y ∙ ap (λ (u : Token). u.value) (f ∙ ap (λ (y : List ℕ). token_at (drop 1 y)) bytes ∙ oldest_is (wire n w) (queue s w) (queue-sane n s g w)) ∙ ap (λ (i : ℕ). (oldest (queue s i)).value) found);
  }

  pub fulls_next : (v : List ℕ) (a : ℕ) → GoodState n s → a ≡ hit (full_in p) → j < length v → Fulls n s ws j v → Fulls n s ws (j + 1) (set v j a)
  fulls_next v a g e l q = record {
    each = set_next (λ i. hit (full n s (get_or ws i 0))) 0 v j a l q.each (e ∙ ap hit (ap full_in bytes ∙ full_is n s w (g.most w)) ∙ ap (λ (i : ℕ). hit (full n s i)) found);
  }

-- all turns done, where the wires found are those of the ports
module _ (n : Net) (s : State) (ws us : List ℕ) (j : ℕ) (all : j ≡ length us) (same : (i : ℕ) → i < length us → get_or ws i 0 ≡ get_or us i 0) where
  pub oldest_all : (h : List ℕ) (v : List ℤ) → Oldest s ws j h v → Oldest s us (length us) h v
  oldest_all h v q = record {
    heads = λ i l. q.heads i (omega (arith, l, all)) ∙ ap (λ (k : ℕ). head_of (queue s k)) (same i l);
    values = λ i l. q.values i (omega (arith, l, all)) ∙ ap (λ (k : ℕ). (oldest (queue s k)).value) (same i l);
  }

  pub fulls_all : (v : List ℕ) → Fulls n s ws j v → Fulls n s us (length us) v
  fulls_all v q = record { each = λ i l. q.each i (omega (arith, l, all)) ∙ ap (λ (k : ℕ). hit (full n s k)) (same i l) }

-- four answers
four : {A : Type 0} (n : ℕ) (f : ℕ → A) (d a b c e : A) → n ≤ 4 → (0 < n → a ≡ f 0) → (1 < n → b ≡ f 1) → (2 < n → c ≡ f 2) → (3 < n → e ≡ f 3)
    → (j : ℕ) → j < n → get_or (a ∷ b ∷ c ∷ e ∷ []) j d ≡ f j
four n f d a b c e m p q r s zero l = p l
four n f d a b c e m p q r s (suc zero) l = q l
four n f d a b c e m p q r s (suc (suc zero)) l = r l
four n f d a b c e m p q r s (suc (suc (suc zero))) l = s l
four n f d a b c e m p q r s (suc (suc (suc (suc j)))) l = absurd (omega arith)

-- what holds of four, and of each that stands behind them
all_four : {A : Type 0} (P : A → Type 0) (d a b c e : A) (rest : List A) → P a → P b → P c → P e → ((j : ℕ) → P (get_or rest j d)) → (j : ℕ) → P (get_or (a ∷ b ∷ c ∷ e ∷ rest) j d)
all_four P d a b c e rest p q r s h zero = p
all_four P d a b c e rest p q r s h (suc zero) = q
all_four P d a b c e rest p q r s h (suc (suc zero)) = r
all_four P d a b c e rest p q r s h (suc (suc (suc zero))) = s
all_four P d a b c e rest p q r s h (suc (suc (suc (suc j)))) = h j

-- ── what a box sees ──────────────────────────────────────────────────────────────────────────

-- a value of four bytes
abbrev Below : ℤ → Type 0
Below z = mag z < 2147483648

-- a value as the machine holds it
abbrev held : ℤ → ℤ
held z = to_z w64 (of_z w64 z)

-- a value more, in the place of an input
pub variables_next : (vs v : List ℤ) (j : ℕ) (z y : ℤ) → z ≡ y → Below y → j < 4 → j < length v → Variables vs v → Variables vs (set v j z)
variables_next vs v j z y e h l m q = record {
  long = length-set v j z ∙ q.long;
  vars = λ i g. get_or-set_other v j (4 + i) z (pos 0) (λ k. omega (arith, k, l)) ∙ q.vars i g;
  small = λ i. go i (ℕ_discrete i j);
}
  where
    go : (i : ℕ) → Dec (i ≡ j) → Below (get_or (set v j z) i (pos 0))
    go i (yes k) = rw (k, get_or-set_same v j z (pos 0) m, e) h
    go i (no g) = rw (get_or-set_other v j i z (pos 0) g) (q.small i)

var_is : {p : Proc} {o : Own} → Kept p o → (j : ℕ) → j < length (vars_of o) → value_at (own_bytes p o) (4 * j) ≡ get_or (vars_of o) j (pos 0)
unfolding vars_of
var_is (of_box {b = b} {zs = zs} e h) j l = box_var b zs h j l
var_is of_input j l = absurd (omega arith)
var_is (of_output m h) j l = absurd (omega arith)

module _ (s t p ts b : List ℕ) (c : Counts) (h : Standing s t p ts b c) (k : ℕ) (l : k < c.boxes) where
  abbrev n : Net
  n = net_in s t c ts

  abbrev st : State
  st = state_of s t c ts b

  abbrev seen : Box
  seen = box_at s (index_in t c) k

  pub ins_few : length seen.ins ≤ 4
  ins_few = (box_is s t c h.tabled k l).few_ins

  pub outs_few : length seen.outs ≤ 4
  outs_few = (box_is s t c h.tabled k l).few_outs

  is_box : proc n k ≡ box seen
  unfolding net_in
  is_box = box_proc s (index_in t c) (tokens_of s t c ts) k (omega (arith, l, n_boxes s t c h.tabled))

  is_proc : k < length n.procs
  unfolding net_in
  is_proc = omega (arith, l, procs_length s (index_in t c) (tokens_of s t c ts), n_boxes s t c h.tabled)

  vars_few : length (vars_of (own st k)) ≤ 4
  vars_few =
      let g : GoodVars seen (own st k) = subst (λ (q : Proc). GoodOwn n q (own st k)) is_box ((state_good s t p ts b c h).kept k is_proc) in
      omega (arith, g.number, (box_is s t c h.tabled k l).few_vars)

  own_held : Kept (proc n k) (own st k)
  unfolding proc own
  own_held = both_at (state_laid s t p ts b c h).procs k nobody (vars []) is_proc

  abbrev Variable : List ℕ → ℕ → ℤ → Type 0
  Variable o j z = (z ≡ value_at o (4 * j)) × Below z

  -- four values of variables, each as the machine holds it
  module _ (o : List ℕ) (e : o ≡ own_bytes (proc n k) (own st k)) (v₀ v₁ v₂ v₃ : ℤ) (b₀ : Variable o 0 v₀) (b₁ : Variable o 1 v₁) (b₂ : Variable o 2 v₂) (b₃ : Variable o 3 v₃) where
    abbrev plain : List ℤ
    plain = pos 0 ∷ pos 0 ∷ pos 0 ∷ pos 0 ∷ v₀ ∷ v₁ ∷ v₂ ∷ v₃ ∷ []

    var : (j : ℕ) (z : ℤ) → Variable o j z → j < length (vars_of (own st k)) → z ≡ get_or (vars_of (own st k)) j (pos 0)
    var j z q m = q.0 ∙ ap (λ (y : List ℕ). value_at y (4 * j)) e ∙ var_is own_held j m

    small : (j : ℕ) → Below (get_or plain j (pos 0))
    small = all_four Below (pos 0) (pos 0) (pos 0) (pos 0) (pos 0) (v₀ ∷ v₁ ∷ v₂ ∷ v₃ ∷ []) none none none none (all_four Below (pos 0) v₀ v₁ v₂ v₃ [] b₀.1 b₁.1 b₂.1 b₃.1 (λ j. none))
      where
        none : Below (pos 0)
        none = omega arith

    var_at : (j : ℕ) → j < length (vars_of (own st k)) → get_or plain (4 + j) (pos 0) ≡ get_or (vars_of (own st k)) j (pos 0)
    var_at j m =
        let e : 4 + j ≡ suc (suc (suc (suc j))) = omega arith in
        ap (λ (i : ℕ). get_or plain i (pos 0)) e
        ∙ four (length (vars_of (own st k))) (λ i. get_or (vars_of (own st k)) i (pos 0)) (pos 0) v₀ v₁ v₂ v₃ vars_few (var 0 v₀ b₀) (var 1 v₁ b₁) (var 2 v₂ b₂) (var 3 v₃ b₃) j m

    pub variables_are : Variables (vars_of (own st k)) (pos 0 ∷ pos 0 ∷ pos 0 ∷ pos 0 ∷ held v₀ ∷ held v₁ ∷ held v₂ ∷ held v₃ ∷ [])
    variables_are =
        let m : (z : ℤ) → Below z → held z ≡ z = λ z g. back (omega (arith, g)) in
        rw (m v₀ b₀.1, m v₁ b₁.1, m v₂ b₂.1, m v₃ b₃.1) (record { long = refl; vars = var_at; small = small })
