-- What an accepted network with an accepted token file is like.
-- Assumes nothing.
use mathlib.Core.Path.{◌≡◌, refl, sym, ap, ap₂, ◌∙◌}
use mathlib.Core.Bool.{Bool, true, false, cond, ◌&&◌}
use mathlib.Core.List.{List, [], ◌∷◌, ◌++◌, append-nil, append_assoc}
use Prim.Native.Nat.{ℕ, zero, suc, ◌+◌, ◌≤◌, ◌<◌, ◌%◌}
use native.Mathlib.Omega.{arith}
use lib.Dec.{eqb, leb, ltb}
use lib.ListN.{length, get_or}
use borrow.Author.Tests.{eqb-true, leb-true, ltb-true, ltb-false}
use Rattle.model.specs.declared.Ty.{Ty}
use Rattle.model.specs.declared.Token.{Token}
use Rattle.model.specs.declared.Field.{Field}
use Rattle.std.specs.Prelude.{Option, Some, None}
use Rattle.model.specs.Bytes.{two_at, stretch}
use Rattle.model.specs.Values.{no_type}
use Rattle.model.specs.Network.{Box, Proc, box, input, output, Net, wire, nobody, no_wire, ins_of, outs_of}
use Rattle.model.specs.NetworkFile.{Index, field_at, Verdict, good, refuse, next, or_refuse, tabulate, input_form, output_form, output_limits, body_at, wire_of, wires_of, box_at, input_at, output_at, net_of, fields, count, ports, ports_fit, lowest_from, odd_wire, ports_of, network}
use Rattle.model.specs.States.{tokens_fit, token_field, tokens_in, input_tokens, tokens_from, token_file, input_types}
use Rattle.model.specs.Calls.{tokened, with_tokens}
use Rattle.model.proofs.Tests.{and₂, and₃, cases, same_or}
use Rattle.model.proofs.Order.{OneEach, count_append, hit_other}
use Rattle.model.proofs.Accepted.{Valid, fields_valid}
use Rattle.model.proofs.Lookup.{wires_length}
use Rattle.model.proofs.Decoded.{get_d_map_lt, Each, each_append, each_tabulate, length-tabulate, get_d_tabulate, body_at_lem, wire_good, box_good, GoodProc, GoodNet}

-- ── verdicts ─────────────────────────────────────────────────────────────────────────────────

pub record Passed {A B : Type 0} (v : Verdict A) (f : A → Verdict B) (b : B) : Type 0 where
  pub found : A
  pub first : v ≡ good found
  pub then : f found ≡ good b

pub next_good : {A B : Type 0} (v : Verdict A) (f : A → Verdict B) (b : B) → next v f ≡ good b → Passed v f b
unfolding next
next_good (good a) f b e = record { found = a; first = refl; then = e }
next_good (refuse n p) f b e = let z : ◌≡◌ {A = ℕ} 0 1 = cc in absurd (omega arith)

pub or_refuse_good : {A : Type 0} (b : Bool) (n p : ℕ) (v : Verdict A) (a : A) → or_refuse b n p v ≡ good a → (b ≡ true) × (v ≡ good a)
unfolding or_refuse
or_refuse_good true n p v a e = (refl, e)
or_refuse_good false n p v a e = let z : ◌≡◌ {A = ℕ} 0 1 = cc in absurd (omega arith)

-- ── the tokens of an accepted token file ─────────────────────────────────────────────────────

input_fits : (t : Ty) (s : List ℕ) (at : ℕ) (f : Option Field) (r : List Token × ℕ) → input_tokens t s at f ≡ good r → tokens_fit t r.0 ≡ true
unfolding input_tokens token_field
input_fits t s at None r e = let z : ◌≡◌ {A = ℕ} 0 1 = cc in absurd (omega arith)
input_fits t s at (Some f) r e =
    let b = stretch s f.start f.len in
    let h = or_refuse_good (eqb f.tag 32 && eqb (length b % 5) 0 && tokens_fit t (tokens_in b)) 5 at (good (tokens_in b, f.start + f.len)) r e in
    let q : tokens_in b ≡ r.0 = (let g : (tokens_in b, f.start + f.len) ≡ r = good_same h.1 in ap (λ (x : List Token × ℕ). x.0) g) in
    rw (← q) (and₃ (eqb f.tag 32) (eqb (length b % 5) 0) (tokens_fit t (tokens_in b)) h.0).2
  where
    good_same : {A : Type 0} {a b : A} → good a ≡ good b → a ≡ b
    good_same e = cc

pub tokens_fit_lem : (ts : List Ty) (s : List ℕ) (at : ℕ) (toks : List (List Token)) → tokens_from ts s at ≡ good toks → (i : ℕ) → i < length ts
    → tokens_fit (get_or ts i no_type) (get_or toks i []) ≡ true
unfolding tokens_from
tokens_fit_lem [] s at toks e i h = absurd (omega arith)
tokens_fit_lem (t ∷ ts) s at toks e i h =
    let a = next_good (input_tokens t s at (field_at s at)) _ toks e in
    let b = next_good (tokens_from ts s a.found.1) _ toks a.then in
    let q : a.found.0 ∷ b.found ≡ toks = (let g = b.then in cc) in
    rw (← q) (by_place a.found.0 b.found i h (input_fits t s at (field_at s at) a.found a.first) (tokens_fit_lem ts s a.found.1 b.found b.first))
  where
    by_place : (x : List Token) (xs : List (List Token)) (j : ℕ) → j < length (t ∷ ts) → tokens_fit t x ≡ true
        → ((k : ℕ) → k < length ts → tokens_fit (get_or ts k no_type) (get_or xs k []) ≡ true) → tokens_fit (get_or (t ∷ ts) j no_type) (get_or (x ∷ xs) j []) ≡ true
    by_place x xs zero g p q = p
    by_place x xs (suc k) g p q = q k (omega arith)

-- ── the types of the inputs' wires ───────────────────────────────────────────────────────────

types_append : (n : Net) (ps qs : List Proc) → input_types n (ps ++ qs) ≡ input_types n ps ++ input_types n qs
unfolding input_types
types_append n [] qs = refl
types_append n (box b ∷ ps) qs = types_append n ps qs
types_append n (input w ts ∷ ps) qs = ap (λ (l : List Ty). (wire n w).ty ∷ l) (types_append n ps qs)
types_append n (output w room ∷ ps) qs = types_append n ps qs

types_boxes : (n : Net) (k : ℕ) (f : ℕ → Box) → input_types n (tabulate k (λ i. box (f i))) ≡ []
unfolding input_types tabulate
types_boxes n zero f = refl
types_boxes n (suc k) f = types_boxes n k (λ i. f (suc i))

types_outputs : (n : Net) (k : ℕ) (f g : ℕ → ℕ) → input_types n (tabulate k (λ i. output (f i) (g i))) ≡ []
unfolding input_types tabulate
types_outputs n zero f g = refl
types_outputs n (suc k) f g = types_outputs n k (λ i. f (suc i)) (λ i. g (suc i))

types_inputs : (n : Net) (k : ℕ) (f : ℕ → ℕ) (g : ℕ → List Token) → input_types n (tabulate k (λ i. input (f i) (g i))) ≡ tabulate k (λ i. (wire n (f i)).ty)
unfolding input_types tabulate
types_inputs n zero f g = refl
types_inputs n (suc k) f g = ap (λ (l : List Ty). (wire n (f 0)).ty ∷ l) (types_inputs n k (λ i. f (suc i)) (λ i. g (suc i)))

-- the wire of input i
unfoldable pub input_wire : List ℕ → Index → ℕ → ℕ
input_wire s x i = get_or s (get_or x.inputs i 0 + 3) 0

pub input_types_lem : (s : List ℕ) (x : Index) (tokens : List (List Token)) → (let n = net_of s x tokens in input_types n n.procs ≡ tabulate (length x.inputs) (λ i. (wire n (input_wire s x i)).ty))
unfolding net_of input_at output_at input_wire
input_types_lem s x tokens =
    let n = net_of s x tokens in
    let bs = tabulate (length x.boxes) (λ b. box (box_at s x b)) in
    let is = tabulate (length x.inputs) (input_at s x tokens) in
    let os = tabulate (length x.outputs) (output_at s x) in
    types_append n (bs ++ is) os
    ∙ ap (λ (l : List Ty). l ++ input_types n os) (types_append n bs is)
    ∙ ap₂ (λ (l m : List Ty). l ++ input_types n is ++ m) (types_boxes n (length x.boxes) (box_at s x)) (types_outputs n (length x.outputs) _ _)
    ∙ append-nil (input_types n is)
    ∙ types_inputs n (length x.inputs) (input_wire s x) (λ i. get_or tokens i [])

-- ── the network ──────────────────────────────────────────────────────────────────────────────

module _ (s : List ℕ) (x : Index) (q : Valid s x) (tokens : List (List Token)) where
  abbrev n : Net
  n = net_of s x tokens

  input_in : (i : ℕ) → i < length x.inputs → input_wire s x i < length n.wires
  unfolding input_form input_wire
  input_in i h =
      let at = get_or x.inputs i 0 in
      let f = q.inputs i h in
      let b = body_at s at in
      let p = and₂ (eqb (length b) 1) (ltb (get_or b 0 0) (length x.wires)) f.passes.form in
      let e : get_or b 0 0 ≡ get_or s (at + 3) 0 = body_at_lem s at 0 f.in-file (omega (arith, eqb-true (length b) 1 p.0)) ∙ ap (λ (k : ℕ). get_or s k 0) (omega arith) in
      omega (arith, e, ltb-true (get_or b 0 0) (length x.wires) p.1, wires_length s x tokens)

  output_good : (i : ℕ) → i < length x.outputs → GoodProc n (output_at s x i)
  unfolding output_form output_limits output_at two_at
  output_good i h =
      let at = get_or x.outputs i 0 in
      let f = q.outputs i h in
      let b = body_at s at in
      let p = and₂ (eqb (length b) 3) (ltb (get_or b 0 0) (length x.wires)) f.passes.form in
      let l = and₃ (ltb i 8) (leb 1 (two_at b 1)) (leb (two_at b 1) 1000) f.passes.limits in
      let three : length b ≡ 3 = eqb-true (length b) 3 p.0 in
      let at_byte : (k : ℕ) → k < 3 → get_or b k 0 ≡ get_or s (at + 3 + k) 0 = λ k g. body_at_lem s at k f.in-file (omega (arith, g, three)) in
      let e₀ : get_or b 0 0 ≡ get_or s (at + 3) 0 = at_byte 0 (omega arith) ∙ ap (λ (k : ℕ). get_or s k 0) (omega arith) in
      let e₁ : get_or b 1 0 ≡ get_or s (at + 4) 0 = at_byte 1 (omega arith) ∙ ap (λ (k : ℕ). get_or s k 0) (omega arith) in
      let e₂ : get_or b (1 + 1) 0 ≡ get_or s (at + 4 + 1) 0 = at_byte 2 (omega arith) ∙ ap (λ (k : ℕ). get_or s k 0) (omega arith) in
      (omega (arith, e₀, ltb-true (get_or b 0 0) (length x.wires) p.1, wires_length s x tokens), omega (arith, e₁, e₂, leb-true 1 (two_at b 1) l.1), omega (arith, e₁, e₂, leb-true (two_at b 1) 1000 l.2))

  -- each input's tokens are of its wire's type
  pub net_good : ((i : ℕ) → i < length x.inputs → tokens_fit (wire n (input_wire s x i)).ty (get_or tokens i []) ≡ true) → GoodNet n
  unfolding net_of wires_of
  net_good fit = record {
    wires = λ w h.
        let g : w < length x.wires = omega (arith, wires_length s x tokens) in
        rw (get_d_map_lt (wire_of s) x.wires w 0 no_wire g) (wire_good s w (get_or x.wires w 0) (q.wires w g));
    procs = each_append (GoodProc n) nobody (tabulate (length x.boxes) (λ b. box (box_at s x b)) ++ tabulate (length x.inputs) (input_at s x tokens)) (tabulate (length x.outputs) (output_at s x))
        (each_append (GoodProc n) nobody (tabulate (length x.boxes) (λ b. box (box_at s x b))) (tabulate (length x.inputs) (input_at s x tokens))
        (each_tabulate (GoodProc n) nobody (length x.boxes) _ (λ k h. box_good s x q k h))
        (each_tabulate (GoodProc n) nobody (length x.inputs) _ (λ i h. unfold input_at input_wire in (input_in i h, fit i h))))
        (each_tabulate (GoodProc n) nobody (length x.outputs) _ output_good);
  }

-- ── ports ────────────────────────────────────────────────────────────────────────────────────

lowest_all : (f : ℕ → Bool) (w k : ℕ) → w + k ≤ lowest_from f w k → (j : ℕ) → w ≤ j → j < w + k → f j ≡ true
unfolding lowest_from
lowest_all f w zero e j h g = absurd (omega arith)
lowest_all f w (suc k) e j h g =
    cases (f w) (λ q. same_or w j (λ p. rw p at q) (λ p. lowest_all f (suc w) k (let l = rw q at e in omega (arith, l)) j (omega (arith, h, p)) (omega (arith, g))))
    (λ q. (let l = rw q at e in absurd (omega (arith, l))))

count_none : (c : ℕ) (ws : List ℕ) → Each (λ w. w < c) 0 ws → (w : ℕ) → c ≤ w → count w ws ≡ 0
unfolding count
count_none c [] p w h = refl
count_none c (v ∷ ws) p w h =
    omega (arith, count_none c ws (λ k g. p (suc k) (omega (arith, g))) w h, hit_other v w (λ e. omega (arith, e, p 0 (omega arith))))

module _ (f : Proc → List ℕ) where
  ports_none : (c : ℕ) (ps : List Proc) → Each (λ p. Each (λ w. w < c) 0 (f p)) nobody ps → (w : ℕ) → c ≤ w → count w (ports f ps) ≡ 0
  unfolding ports
  ports_none c [] a w h = unfold count in refl
  ports_none c (p ∷ ps) a w h =
      omega (arith, count_append w (f p) (ports f ps), count_none c (f p) (a 0 (omega arith)) w h, ports_none c ps (λ k g. a (suc k) (omega (arith, g))) w h)

  -- so no wire has two of them, where each wire that is there has one
  ports_one : (n : Net) → let c = length n.wires in let ps = n.procs in
      Each (λ p. Each (λ w. w < c) 0 (f p)) nobody ps → ((w : ℕ) → w < c → eqb (count w (ports f ps)) 1 ≡ true) → (w : ℕ) → count w (ports f ps) ≤ 1
  ports_one n a one w =
      let c = length n.wires in
      cases (ltb w c) (λ h. omega (arith, eqb-true (count w (ports f n.procs)) 1 (one w (ltb-true w c h)))) (λ h. omega (arith, ports_none c n.procs a w (ltb-false w c h)))

  ports-append : (ps qs : List Proc) → ports f (ps ++ qs) ≡ ports f ps ++ ports f qs
  unfolding ports
  ports-append [] qs = refl
  ports-append (p ∷ ps) qs = ap (λ (l : List ℕ). f p ++ l) (ports-append ps qs) ∙ sym (append_assoc (f p) (ports f ps) (ports f qs))

  ports_alike : (k : ℕ) (g h : ℕ → Proc) → ((i : ℕ) → f (g i) ≡ f (h i)) → ports f (tabulate k g) ≡ ports f (tabulate k h)
  unfolding ports tabulate
  ports_alike zero g h e = refl
  ports_alike (suc k) g h e = ap₂ (λ (a b : List ℕ). a ++ b) (e 0) (ports_alike k (λ i. g (suc i)) (λ i. h (suc i)) (λ i. e (suc i)))

  -- the ports don't depend on the tokens
  ports-same : (s : List ℕ) (x : Index) (tokens : List (List Token)) → ((w : ℕ) (a b : List Token) → f (input w a) ≡ f (input w b))
      → ports f (net_of s x tokens).procs ≡ ports f (net_of s x []).procs
  ports-same s x tokens e = unfold net_of in simp ports-append (rw (ports_alike (length x.inputs) (input_at s x tokens) (input_at s x []) (λ i. unfold input_at in e _ _ _)))

-- the ports of a good process are wires of the network
proc-ports : (n : Net) (p : Proc) → GoodProc n p → Each (λ w. w < length n.wires) 0 (ins_of p) × Each (λ w. w < length n.wires) 0 (outs_of p)
unfolding ins_of outs_of
proc-ports n (box b) g = (g.ins, g.outs)
proc-ports n (input w ts) g = (λ k h. absurd (omega (arith, h)), λ k h. (let e : k ≡ 0 = omega (arith, h) in rw e g.0))
proc-ports n (output w room) g = (λ k h. (let e : k ≡ 0 = omega (arith, h) in rw e g.0), λ k h. absurd (omega (arith, h)))

-- exactly one reading and one writing port a wire
pub one_each : (n : Net) → GoodNet n → ((w : ℕ) → w < length n.wires → ports_fit n.procs w ≡ true) → OneEach n
one_each n g fit = unfold ports_fit in record {
  readers = ports_one ins_of n (λ k h. (proc-ports n (get_or n.procs k nobody) (g.procs k h)).0) (λ w h. (and₂ (eqb (count w (ports ins_of n.procs)) 1) _ (fit w h)).0);
  writers = ports_one outs_of n (λ k h. (proc-ports n (get_or n.procs k nobody) (g.procs k h)).1) (λ w h. (and₂ (eqb (count w (ports ins_of n.procs)) 1) _ (fit w h)).1);
}

-- ── an accepted network with an accepted token file ──────────────────────────────────────────

pub record Accepted (s : List ℕ) (n : Net) : Type 0 where
  pub index : Index
  pub tokens : List (List Token)
  pub checked : network s ≡ good index
  pub valid : Valid s index
  pub net : n ≡ net_of s index tokens
  pub all : GoodNet n
  pub one : OneEach n

ports-fit : (s : List ℕ) (x : Index) → ports_of s x ≡ good x → length x.wires ≤ odd_wire (net_of s x [])
unfolding ports_of
ports-fit s x e = by_test (ltb (odd_wire (net_of s x [])) (length x.wires)) refl e
  where
    by_test : (b : Bool) → ltb (odd_wire (net_of s x [])) (length x.wires) ≡ b → cond b (refuse 3 (odd_wire (net_of s x []))) (good x) ≡ good x → length x.wires ≤ odd_wire (net_of s x [])
    by_test true q z = let c : ◌≡◌ {A = ℕ} 0 1 = cc in absurd (omega arith)
    by_test false q z = ltb-false _ _ q

good_same : {A : Type 0} {a b : A} → good a ≡ good b → a ≡ b
good_same e = cc

ports_index : (s : List ℕ) (x y : Index) → ports_of s x ≡ good y → x ≡ y
unfolding ports_of
ports_index s x y e = by_test (ltb (odd_wire (net_of s x [])) (length x.wires)) e
  where
    by_test : (b : Bool) → cond b (refuse 3 (odd_wire (net_of s x []))) (good x) ≡ good y → x ≡ y
    by_test true z = let c : ◌≡◌ {A = ℕ} 0 1 = cc in absurd (omega arith)
    by_test false z = good_same z

-- a file that passes the check: its fields are good, and so are the ports
pub record Checked (s : List ℕ) (x : Index) : Type 0 where
  pub short : length s ≤ 16384
  pub found : fields s ≡ good x
  pub valid : Valid s x
  pub wired : length x.wires ≤ odd_wire (net_of s x [])

pub network_checked : (s : List ℕ) (x : Index) → network s ≡ good x → Checked s x
unfolding network
network_checked s x e =
    let a = or_refuse_good (leb (length s) 16384) 2 0 (next (fields s) (ports_of s)) x e in
    let b = next_good (fields s) (ports_of s) x a.1 in
    let q = ports_index s b.found x b.then in
    let f : fields s ≡ good x = rw q at b.first in
    let p : ports_of s x ≡ good x = rw q at b.then in
    record { short = leb-true (length s) 16384 a.0; found = f; valid = fields_valid s x f; wired = ports-fit s x p }

module _ (s : List ℕ) (x : Index) (c : Checked s x) (tokens : List (List Token)) where
  abbrev m : Net
  m = net_of s x tokens

  pub ports_all : (w : ℕ) → w < length m.wires → ports_fit m.procs w ≡ true
  ports_all w h = unfold ports_fit odd_wire in
      let e = wires_length s x [] in
      rw (ports-same ins_of s x tokens (λ v a b. unfold ins_of in refl), ports-same outs_of s x tokens (λ v a b. unfold outs_of in refl))
      (lowest_all (ports_fit (net_of s x []).procs) 0 (length (net_of s x []).wires) (omega (arith, c.wired, e)) w (omega arith) (omega (arith, h, e, wires_length s x tokens)))

  -- the tokens that a token file holds for it fit
  types_at : (i : ℕ) → i < length x.inputs → get_or (input_types (net_of s x []) (net_of s x []).procs) i no_type ≡ (wire m (input_wire s x i)).ty
  unfolding wire net_of
  types_at i h = rw (input_types_lem s x []) (get_d_tabulate (length x.inputs) _ no_type i h)

  types_length : length (input_types (net_of s x []) (net_of s x []).procs) ≡ length x.inputs
  types_length = rw (input_types_lem s x []) (length-tabulate (length x.inputs) _)

  pub accepted_net : (ts : List ℕ) → tokens_from (input_types (net_of s x []) (net_of s x []).procs) ts 0 ≡ good tokens → GoodNet m
  accepted_net ts e =
      net_good s x c.valid tokens
      (λ i h. rw (types_at i h) at (tokens_fit_lem (input_types (net_of s x []) (net_of s x []).procs) ts 0 tokens e i (omega (arith, types_length))))

pub tokens_accepted : (s ts : List ℕ) (n : Net) → with_tokens s ts ≡ good n → Accepted s n
unfolding with_tokens tokened token_file
tokens_accepted s ts n e =
    let a = next_good (network s) (tokened s ts) n e in
    let x = a.found in
    let types = input_types (net_of s x []) (net_of s x []).procs in
    let b = next_good (token_file types ts) (λ tokens. good (net_of s x tokens)) n a.then in
    let f = or_refuse_good (leb (length ts) 16384) 5 0 (tokens_from types ts 0) b.found b.first in
    let c = network_checked s x a.first in
    let q : net_of s x b.found ≡ n = good_same b.then in
    let g = accepted_net s x c b.found ts f.1 in
    let o = one_each (net_of s x b.found) g (ports_all s x c b.found) in
    record { index = x; tokens = b.found; checked = a.first; valid = c.valid; net = sym q; all = rw q at g; one = rw q at o }
