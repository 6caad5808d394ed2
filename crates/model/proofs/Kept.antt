-- Every cycle keeps the state well laid out: counts within capacity and room, taken within the file, values within their types.
-- So the bytes of every state reached from a load are accepted, and give that state back.
-- Assumes nothing.
use mathlib.Core.Path.{◌≡◌, refl, ap, ◌∙◌, sym, ap₂}
use mathlib.Core.Bool.{Bool, true, false, not, ◌&&◌, ◌||◌, cond}
use Rattle.std.specs.Prelude.{Option, Some, None, Ok, Err}
use mathlib.Core.List.{List, [], ◌∷◌, ◌++◌, map, zip_with, append-nil, append_assoc}
use Prim.Native.Nat.{ℕ, zero, suc, ◌+◌, ◌-◌, ◌^◌, ◌≤◌, ◌<◌, ◌*◌, ◌/◌, ◌%◌}
use native.Mathlib.Omega.{arith}
use lib.Dec.{eqb, leb, ltb}
use lib.IntN.{ℤ, pos, negsuc}
use lib.Pow.{pow_pos}
use lib.ListN.{length, get_or, drop, length-append, length-map, length-set, replicate, length-replicate}
use lib.Seq.{get_or-set_same, get_or-set_other, take_at, drop_at, drop-drop}
use borrow.Author.Tests.{eqb-true, leb-true, ltb-true, lt-ltb, eq-eqb, ne_eqb, le-leb}
use lib.Signed.{mag}
use Rattle.model.specs.declared.Ty.{Ty}
use Rattle.model.specs.declared.Token.{Token}
use Rattle.model.specs.Bytes.{signed_of, two_at, two_bytes, four_at, four_bytes, value_at, value_bytes}
use Rattle.model.specs.Values.{Outcome, no_type, is_plain, is_dc, well_sized, carried, same_type, within, read_back, eq_z}
use Rattle.model.specs.Expressions.{Exp, Env, Typed, typed, ill, type_of, precise, expression_limits, depth_of, value_of}
use Rattle.model.specs.Rules.{Pattern, ignore, any, only, Action, nothing, bare, send, Fit, fits, fails, also, fit_if, tag_fits, matched_type, matched_types, scope_of, has_type, action_fits, actions_fit, action_limits, rule_fits, size_of_action}
use Rattle.model.specs.Network.{Variable, Box, Proc, box, input, output, Net, Own, vars, taken, got, State, no_token, nobody, wire, capacity, proc, rule, queue, own, vars_of, taken_of, got_of, ins_of, outs_of, wire_types, variable_types, shape_of, fresh, loaded, no_wire}
use Rattle.model.specs.States.{token_fits, tokens_fit, token_at, read_tokens, token_bytes, tokens_bytes, room_bytes, wire_bytes, values_bytes, own_bytes, cat, segments, bytes_of, wire_size, own_size, sum, wires_size, all_zero, room_fits, wire_fits, queue_in, values_in, values_fit, own_fits, own_in, split, all_true, wire_parts, own_parts, state_fits, state_in}
use Rattle.model.specs.Cycles.{empty, oldest, full, reads, matches, ready_in, ready_ins, ready_vars, ready_outs, ready_rule, Deed, seen, look, moves, matched_value, env_of, or_zero, result, new_var, new_vars, reads_of, sent_of, present, kept_of, deed_of, act, Mark, fires, mark_of, mark, deed, fire, rule_of, cycle_in}
use Rattle.model.specs.Orders.{joined, on_wire, Sound, Reached, at_load, cycled, Back, RoundTrip}
use Rattle.model.proofs.Tests.{and_left, and_right, both, and₂, and₃, cases, same_or}
use Rattle.model.proofs.Wrapping.{read_within, within_mag, pow_30, value_bytes_lem}
use Rattle.model.proofs.Typing.{Of, Named, GoodEnv, value_of_lem, same_type_lem}
use Rattle.model.proofs.Order.{OneEach, Ready, queue-fire}
use Rattle.model.proofs.Sound.{nonempty, rule_chosen, flag_fires, sound_next, part, order_due, named_fires, load_sound, load-empty, reached_sound}
use Rattle.model.proofs.Decoded.{Each, GoodType, GoodVariable, GoodRule, GoodProc, GoodNet, no_variable, action_tag, get_d_map_lt}
use Rattle.model.proofs.Whole.{tokens_accepted}

-- ── tokens of a type ─────────────────────────────────────────────────────────────────────────

pub fit_append : (t : Ty) (xs ys : List Token) → tokens_fit t xs ≡ true → tokens_fit t ys ≡ true → tokens_fit t (xs ++ ys) ≡ true
unfolding tokens_fit
fit_append t [] ys p q = q
fit_append t (x ∷ xs) ys p q = let h = and₂ (token_fits t x) (tokens_fit t xs) p in both (token_fits t x) (tokens_fit t (xs ++ ys)) h.0 (fit_append t xs ys h.1 q)

pub fit-drop : (t : Ty) (k : ℕ) (xs : List Token) → tokens_fit t xs ≡ true → tokens_fit t (drop k xs) ≡ true
unfolding tokens_fit
fit-drop t zero xs p = p
fit-drop t (suc k) [] p = p
fit-drop t (suc k) (x ∷ xs) p = fit-drop t k xs (and_right (token_fits t x) (tokens_fit t xs) p)

pub fit_at : (t : Ty) (xs : List Token) → tokens_fit t xs ≡ true → (k : ℕ) → k < length xs → token_fits t (get_or xs k no_token) ≡ true
unfolding tokens_fit
fit_at t [] p k h = absurd (omega arith)
fit_at t (x ∷ xs) p zero h = and_left (token_fits t x) (tokens_fit t xs) p
fit_at t (x ∷ xs) p (suc k) h = fit_at t xs (and_right (token_fits t x) (tokens_fit t xs) p) k (omega arith)

pub oldest_fits : (t : Ty) (q : List Token) → tokens_fit t q ≡ true → 1 ≤ length q → token_fits t (oldest q) ≡ true
unfolding oldest tokens_fit
oldest_fits t [] p h = absurd (omega arith)
oldest_fits t (x ∷ q) p h = and_left (token_fits t x) (tokens_fit t q) p

-- ── a state well laid out ────────────────────────────────────────────────────────────────────

pub record GoodVars (b : Box) (o : Own) : Type 0 where
  pub is : o ≡ vars (vars_of o)
  pub number : length (vars_of o) ≡ length b.vars
  pub each : (j : ℕ) → j < length b.vars → within (get_or b.vars j no_variable).ty (get_or (vars_of o) j (pos 0)) ≡ true

pub record GoodTaken (ts : List Token) (o : Own) : Type 0 where
  pub is : o ≡ taken (taken_of o)
  pub most : taken_of o ≤ length ts

pub record GoodGot (t : Ty) (room : ℕ) (o : Own) : Type 0 where
  pub is : o ≡ got (got_of o)
  pub most : length (got_of o) ≤ room
  pub fit : tokens_fit t (got_of o) ≡ true

abbrev pub GoodOwn : Net → Proc → Own → Type 0
GoodOwn n (box b) o = GoodVars b o
GoodOwn n (input w ts) o = GoodTaken ts o
GoodOwn n (output w room) o = GoodGot (wire n w).ty room o

pub record GoodState (n : Net) (s : State) : Type 0 where
  pub queues : length s.queues ≡ length n.wires
  pub owns : length s.owns ≡ length n.procs
  pub most : (w : ℕ) → length (queue s w) ≤ capacity n w
  pub fit : (w : ℕ) → w < length n.wires → tokens_fit (wire n w).ty (queue s w) ≡ true
  pub kept : (k : ℕ) → k < length n.procs → GoodOwn n (proc n k) (own s k)

-- what is put is of the wire's type, and what the process keeps is its own
pub record GoodDeed (n : Net) (p : Proc) (d : Deed) : Type 0 where
  pub put : (w : ℕ) → tokens_fit (wire n w).ty (on_wire w d.put) ≡ true
  pub keeps : GoodOwn n p d.keeps

-- ── what moves bring on a wire ───────────────────────────────────────────────────────────────

-- nothing, or a token that fits
abbrev Sent : Ty → Option Token → Type 0
Sent t None = Unit {0}
Sent t (Some k) = token_fits t k ≡ true

move_fit : (n : Net) (v : ℕ) (ws : List ℕ) (x : Option Token) (ts : List (Option Token)) (w : ℕ) → Sent (wire n v).ty x
    → tokens_fit (wire n w).ty (on_wire w (moves ws ts)) ≡ true → tokens_fit (wire n w).ty (on_wire w (moves (v ∷ ws) (x ∷ ts))) ≡ true
unfolding moves on_wire joined tokens_fit
move_fit n v ws None ts w p q = q
move_fit n v ws (Some t) ts w p q = same_or v w (λ e. rw (eq-eqb v w e) (both (token_fits (wire n w).ty t) _ (rw e at p) q)) (λ f. rw (ne_eqb v w f) q)

-- ── what a fit says ──────────────────────────────────────────────────────────────────────────

pub also_fits : (f g : Fit) → also f g ≡ fits → (f ≡ fits) × (g ≡ fits)
unfolding also
also_fits fits g e = (refl, e)
also_fits (fails k) g e = let z : ◌≡◌ {A = ℕ} 0 1 = cc in absurd (omega arith)

pub fit_if_fits : (b : Bool) (at : ℕ) → fit_if b at ≡ fits → b ≡ true
unfolding fit_if
fit_if_fits true at e = refl
fit_if_fits false at e = let z : ◌≡◌ {A = ℕ} 0 1 = cc in absurd (omega arith)

pub has_type_fits : (own at : ℕ) (t : Ty) (x : Typed) → has_type own at t x ≡ fits → x ≡ typed t
unfolding has_type
has_type_fits own at t (typed u) e = ap typed (same_type_lem u t (fit_if_fits (same_type u t) own e))
has_type_fits own at t (ill k) e = let z : ◌≡◌ {A = ℕ} 0 1 = cc in absurd (omega arith)

limits_split : (a : Action) (acts : List Action) → action_limits (a ∷ acts) ≡ true → (action_limits (a ∷ []) ≡ true) × (action_limits acts ≡ true)
unfolding action_limits
limits_split nothing acts l = (refl, l)
limits_split (bare t) acts l = (refl, l)
limits_split (send t e) acts l = let h = and₂ (expression_limits e) (action_limits acts) l in (both (expression_limits e) true h.0 refl, h.1)

-- ── values that a wire carries ───────────────────────────────────────────────────────────────

pub carried_p : (t : Ty) → (carried t).p ≡ t.p
carried_p t = unfold carried in cases (is_dc t) (λ e. rw e) (λ e. rw e)

plain_carried : (t : Ty) → is_plain t ≡ true → carried t ≡ t
plain_carried t e = unfold is_plain carried is_dc in
    let l : t.kind ≤ 2 = leb-true t.kind 2 (and_left (leb t.kind 2) (well_sized t) e) in
    rw (ne_eqb t.kind 3 (λ q. omega (arith, q)), ne_eqb t.kind 4 (λ q. omega (arith, q)))

-- a fault leaves 0
or_zero_within : (t : Ty) (x : Outcome) → 1 ≤ t.p → Of t x → within t (or_zero x) ≡ true
unfolding or_zero read_back signed_of
or_zero_within t (Ok v) h p = p.1
or_zero_within t (Err x) h p =
    let back : read_back t 0 ≡ pos 0 = cases (eqb t.kind 1) (λ e. rw (e, lt-ltb 0 (2 ^ (t.p - 1)) (pow_pos (t.p - 1)))) (λ e. rw e) in
    rw back at (read_within t 0 h (pow_pos t.p))

-- a tag with a value is 0 or 3
no_mark : (k : ℕ) → (eqb k 0 || eqb k 3) ≡ true → ((eqb k 1 || eqb k 2) ≡ false) × (leb k 3 ≡ true)
no_mark k e = cases (eqb k 0) (λ h. rw (eqb-true k 0 h) (refl, refl)) (λ h. rw (eqb-true k 3 (rw h at e)) (refl, refl))

token_carries : (t : Ty) (k : Token) → token_fits t k ≡ true → (eqb k.tag 0 || eqb k.tag 3) ≡ true → within (carried t) k.value ≡ true
token_carries t k p e = unfold token_fits in let h = and_right (tag_fits t k.tag && leb k.tag 3) _ p in rw (no_mark k.tag e).0 at h

value_token : (t : Ty) (tag : ℕ) (z : ℤ) → tag_fits t tag ≡ true → (eqb tag 0 || eqb tag 3) ≡ true → within (carried t) z ≡ true → token_fits t (record { tag = tag; value = z }) ≡ true
value_token t tag z p e w = unfold token_fits in let h = no_mark tag e in rw (p, h.1, h.0) w

mark-token : (t : Ty) (tag : ℕ) → tag_fits t tag ≡ true → (eqb tag 1 || eqb tag 2) ≡ true → token_fits t (record { tag = tag; value = pos 0 }) ≡ true
mark-token t tag p e = unfold token_fits eq_z in
    let low : leb tag 3 ≡ true = cases (eqb tag 1) (λ h. rw (eqb-true tag 1 h)) (λ h. rw (eqb-true tag 2 (rw h at e))) in
    rw (p, e, low)

no_type_lem : {A : Type 0} → is_plain no_type ≡ true → A
no_type_lem e = unfold is_plain no_type in let z : ◌≡◌ {A = ℕ} 0 1 = cc in absurd (omega arith)

-- ── what a box's expressions are worked out from ─────────────────────────────────────────────

vars_named : (vs : List Variable) (z : ℕ → ℤ) → Each GoodVariable no_variable vs → ((j : ℕ) → j < length vs → within (get_or vs j no_variable).ty (z j) ≡ true)
    → (j : ℕ) → is_plain (get_or (variable_types vs) j no_type) ≡ true → Named (get_or (variable_types vs) j no_type) (z j)
unfolding variable_types
vars_named [] z g w j e = no_type_lem e
vars_named (v ∷ vs) z g w zero e = record { low = (g 0 (omega arith)).ty.low; fits = w 0 (omega arith) }
vars_named (v ∷ vs) z g w (suc j) e = vars_named vs (λ k. z (suc k)) (λ k m. g (suc k) (omega (arith, m))) (λ k m. w (suc k) (omega (arith, m))) j e

module _ (n : Net) (gn : GoodNet n) (s : State) (gs : GoodState n s) where
  -- the matched value of an input is of its type
  first_matched : (w : ℕ) (p : Pattern) → w < length n.wires → ready_in p (queue s w) ≡ true
      → is_plain (matched_type (wire n w).ty p) ≡ true → Named (matched_type (wire n w).ty p) (matched_value (seen (reads p) (queue s w)))
  unfolding matched_type reads seen matched_value ready_in matches wire
  first_matched w ignore h r e = no_type_lem e
  first_matched w (only tag z) h r e = no_type_lem e
  first_matched w (any tag) h r e =
      let t = (wire n w).ty in
      let q = queue s w in
      let m = and₂ (not (empty q)) (eqb tag (oldest q).tag) r in
      cases (eqb tag 0 || eqb tag 3) (λ c. rw c (record {
        low = omega (arith, carried_p t, (gn.wires w h).ty.low);
        fits = token_carries t (oldest q) (oldest_fits t q (gs.fit w h) (nonempty q m.0)) (rw (eqb-true tag (oldest q).tag m.1) at c);
      })) (λ c. no_type_lem (rw c at e))

  ins_matched : (ws : List ℕ) (ps : List Pattern) → Each (λ w. w < length n.wires) 0 ws → ready_ins s ws ps ≡ true → (i : ℕ)
      → is_plain (get_or (matched_types (wire_types n.wires ws) ps) i no_type) ≡ true
      → Named (get_or (matched_types (wire_types n.wires ws) ps) i no_type) (get_or (map matched_value (look s ws (map reads ps))) i (pos 0))
  unfolding matched_types wire_types look ready_ins
  ins_matched ws [] a r i e = no_type_lem e
  ins_matched [] (p ∷ ps) a r i e = no_type_lem e
  ins_matched (w ∷ ws) (p ∷ ps) a r zero e = unfold wire in first_matched w p (a 0 (omega arith)) (and_left (ready_in p (queue s w)) (ready_ins s ws ps) r) e
  ins_matched (w ∷ ws) (p ∷ ps) a r (suc i) e = ins_matched ws ps (λ k l. a (suc k) (omega (arith, l))) (and_right (ready_in p (queue s w)) (ready_ins s ws ps) r) i e

  -- ── the results of a rule ──

  module _ (en : Env) (ge : GoodEnv en) where
    -- what an action sends is of the type that its wire carries, and the tag fits
    sent : (at : ℕ) (t : Ty) (tag : ℕ) (e : Exp) → 1 ≤ t.p → action_fits en.scope at t (send tag e) ≡ fits → action_limits (send tag e ∷ []) ≡ true
        → (within (carried t) (or_zero (value_of en e)) ≡ true) × (tag_fits t tag ≡ true)
    unfolding action_fits action_limits expression_limits
    sent at t tag e h f l =
        let p = also_fits (has_type at (at + 1) (carried t) (type_of en.scope e)) (fit_if (tag_fits t tag) at) f in
        let l' = and_right (leb (depth_of e) 16) (precise e) (and_left (leb (depth_of e) 16 && precise e) true l) in
        let x = value_of_lem en ge e l' (carried t) (has_type_fits at (at + 1) (carried t) (type_of en.scope e) p.0) in
        (or_zero_within (carried t) (value_of en e) (omega (arith, carried_p t)) x.1, fit_if_fits (tag_fits t tag) at p.1)

    result_fits : (at : ℕ) (t : Ty) (a : Action) → 1 ≤ t.p → action_fits en.scope at t a ≡ fits → action_limits (a ∷ []) ≡ true → action_tag a ≡ true → Sent t (result en a)
    unfolding action_tag result
    result_fits at t nothing h f l g = tt
    result_fits at t (bare tag) h f l g = mark-token t tag (fit_if_fits (tag_fits t tag) at (unfold action_fits in f)) g
    result_fits at t (send tag e) h f l g = let x = sent at t tag e h f l in value_token t tag (or_zero (value_of en e)) x.1 g x.0

    results_fit : (at : ℕ) (ws : List ℕ) (acts : List Action) → Each (λ w. w < length n.wires) 0 ws → actions_fit en.scope at (wire_types n.wires ws) acts ≡ fits
        → action_limits acts ≡ true → Each (λ a. action_tag a ≡ true) nothing acts → (w : ℕ) → tokens_fit (wire n w).ty (on_wire w (moves ws (map (result en) acts))) ≡ true
    unfolding actions_fit wire_types
    results_fit at [] acts a f l g w = unfold moves on_wire tokens_fit in refl
    results_fit at (v ∷ ws) [] a f l g w = unfold moves on_wire tokens_fit in refl
    results_fit at (v ∷ ws) (x ∷ acts) a f l g w =
        let p = also_fits _ _ f in
        let ls = limits_split x acts l in
        move_fit n v ws (result en x) (map (result en) acts) w (unfold wire in result_fits at _ x (gn.wires v (a 0 (omega arith))).ty.low p.0 ls.0 (g 0 (omega arith)))
        (results_fit (at + size_of_action x) ws acts (λ k m. a (suc k) (omega (arith, m))) p.1 ls.1 (λ k m. g (suc k) (omega (arith, m))) w)

    new_length : (old : List ℤ) (acts : List Action) → length (new_vars en old acts) ≡ length old
    unfolding new_vars
    new_length [] acts = refl
    new_length (v ∷ old) [] = ap suc (new_length old [])
    new_length (v ∷ old) (a ∷ acts) = ap suc (new_length old acts)

    var_within : (at : ℕ) (v : Variable) (z : ℤ) (a : Action) → GoodVariable v → within v.ty z ≡ true → action_fits en.scope at v.ty a ≡ fits → action_limits (a ∷ []) ≡ true
        → within v.ty (new_var en z a) ≡ true
    unfolding new_var
    var_within at v z nothing g w f l = w
    var_within at v z (bare tag) g w f l = w
    var_within at v z (send tag e) g w f l = rw (plain_carried v.ty g.plain) at (sent at v.ty tag e g.ty.low f l).0

    vars_within : (at : ℕ) (vs : List Variable) (old : List ℤ) (acts : List Action) → Each GoodVariable no_variable vs → length old ≡ length vs
        → ((j : ℕ) → j < length vs → within (get_or vs j no_variable).ty (get_or old j (pos 0)) ≡ true) → actions_fit en.scope at (variable_types vs) acts ≡ fits
        → action_limits acts ≡ true → (j : ℕ) → j < length vs → within (get_or vs j no_variable).ty (get_or (new_vars en old acts) j (pos 0)) ≡ true
    unfolding new_vars actions_fit variable_types
    vars_within at [] old acts g e w f l j h = absurd (omega arith)
    vars_within at (v ∷ vs) [] acts g e w f l j h = absurd (omega (arith, e))
    vars_within at (v ∷ vs) (z ∷ old) [] g e w f l zero h = w 0 h
    vars_within at (v ∷ vs) (z ∷ old) [] g e w f l (suc j) h =
        vars_within at vs old [] (λ k m. g (suc k) (omega (arith, m))) (omega (arith, e)) (λ k m. w (suc k) (omega (arith, m))) refl l j (omega arith)
    vars_within at (v ∷ vs) (z ∷ old) (a ∷ acts) g e w f l zero h = var_within at v z a (g 0 (omega arith)) (w 0 h) (also_fits _ _ f).0 (limits_split a acts l).0
    vars_within at (v ∷ vs) (z ∷ old) (a ∷ acts) g e w f l (suc j) h =
        vars_within (at + size_of_action a) vs old acts (λ k m. g (suc k) (omega (arith, m))) (omega (arith, e)) (λ k m. w (suc k) (omega (arith, m))) (also_fits _ _ f).1
        (limits_split a acts l).1 j (omega arith)

  -- ── the deed of a marked process ──

  deed_of_lem : (p : Proc) (o : Own) (r : ℕ) → GoodProc n p → GoodOwn n p o → mark_of n s p o ≡ fires r → GoodDeed n p (deed_of n p r (look s (ins_of p) (reads_of p r)) o)
  unfolding deed_of ins_of outs_of reads_of sent_of kept_of env_of rule_fits scope_of shape_of vars_of taken_of got_of look seen present moves on_wire tokens_fit
  deed_of_lem (box b) o r gp go e =
      let c = rule_chosen n s b o r e in
      let u = rule b r in
      let gr : GoodRule (shape_of n.wires b) u = unfold rule in gp.rules r c.0 in
      let ready = (and₃ (ready_ins s b.ins u.ins) (ready_vars (vars_of o) u.vars) (ready_outs n s b.outs u.outs) (unfold ready_rule in c.1)).0 in
      let en = env_of n b u (look s b.ins (map reads u.ins)) (vars_of o) in
      let ge : GoodEnv en = record { ins = ins_matched b.ins u.ins gp.ins ready; vars = vars_named b.vars (λ j. get_or (vars_of o) j (pos 0)) gp.vars go.each } in
      let f = also_fits _ _ (also_fits _ _ (also_fits _ _ (also_fits _ _ gr.fits).1).1).1 in
      record {
        put = results_fit en ge _ b.outs u.outs gp.outs f.0 gr.outs_limits gr.tags;
        keeps = record {
          is = refl;
          number = new_length en ge (vars_of o) u.sets ∙ go.number;
          each = vars_within en ge _ b.vars (vars_of o) u.sets gp.vars go.number go.each f.1 gr.sets_limits;
        };
      }
  deed_of_lem (input w ts) o r gp go e =
      let l = ltb-true (taken_of o) (length ts) (and_left (ltb (taken_of o) (length ts)) (not (full n s w)) (flag_fires _ r (unfold mark_of in e))) in
      record {
        put = λ v. move_fit n w [] (Some (get_or ts (taken_of o) no_token)) [] v (fit_at (wire n w).ty ts gp.1 (taken_of o) l) refl;
        keeps = record { is = refl; most = l };
      }
  deed_of_lem (output w room) o r gp go e =
      let t = (wire n w).ty in
      let f = and₂ (not (empty (queue s w))) (ltb (length (got_of o)) room) (flag_fires _ r (unfold mark_of in e)) in
      let x = oldest_fits t (queue s w) (gs.fit w gp.0) (nonempty (queue s w) f.0) in
      record {
        put = λ v. refl;
        keeps = record {
          is = refl;
          most = rw length-append (omega (arith, ltb-true (length (got_of o)) room f.1));
          fit = fit_append t (got_of o) (oldest (queue s w) ∷ []) go.fit (both (token_fits t (oldest (queue s w))) true x refl);
        };
      }

  pub deed_good : (m : ℕ → Mark) (k r : ℕ) → k < length n.procs → m k ≡ fires r → mark n s k ≡ fires r → GoodDeed n (proc n k) (deed n m k s)
  deed_good m k r h q e = unfold deed mark rule_of proc in rw q (deed_of_lem (proc n k) (own s k) r (gn.procs k h) (gs.kept k h) e)

-- ── a cycle in any order, and all cycles since the load ──────────────────────────────────────

module _ (n : Net) (m : ℕ → Mark) (one : OneEach n) where
  -- a firing whose deed is good leaves the state well laid out
  good_next : (k : ℕ) (s : State) (es : List Deed) → Ready n m k s → (k < length n.procs) × GoodDeed n (proc n k) (deed n m k s) → Sound n (fire n m k s) es
      → GoodState n s → GoodState n (fire n m k s)
  good_next k s es r x q g =
      let a = deed n m k s in
      record {
        queues = q.shape;
        owns = unfold fire act in length-set s.owns k a.keeps ∙ g.owns;
        most = q.fits;
        fit = λ w i. rw (queue-fire n m one k s r w) (fit_append (wire n w).ty (drop (length (on_wire w a.took)) (queue s w)) (on_wire w a.put)
            (fit-drop (wire n w).ty (length (on_wire w a.took)) (queue s w) (g.fit w i)) (x.1.put w));
        kept = λ j i. unfold own fire act in same_or j k (λ e. rw e (rw (get_or-set_same s.owns k a.keeps (vars []) (omega (arith, x.0, g.owns))) x.1.keeps))
            (λ f. rw (get_or-set_other s.owns k j a.keeps (vars []) f) (g.kept j i));
      }

module _ (n : Net) (gn : GoodNet n) (one : OneEach n) where
  fresh_good : (p : Proc) → GoodProc n p → GoodOwn n p (fresh p)
  unfolding fresh vars_of taken_of got_of tokens_fit
  fresh_good (box b) g = record {
    is = refl;
    number = length-map b.vars _;
    each = λ j h. rw (get_d_map_lt (λ (v : Variable). v.initial) b.vars j no_variable (pos 0) h) (g.vars j h).initial;
  }
  fresh_good (input w ts) g = record { is = refl; most = omega arith }
  fresh_good (output w room) g = record { is = refl; most = omega arith; fit = refl }

  -- every state reached from a load is well laid out
  pub reached_good : {s : State} {ds : List Deed} → Reached n s ds → GoodState n s
  unfolding cycle_in
  reached_good at_load = record {
    queues = (load_sound n).shape;
    owns = unfold loaded in length-map n.procs fresh;
    most = (load_sound n).fits;
    fit = λ w h. rw (load-empty n w) (unfold tokens_fit in refl);
    kept = λ k h. unfold own loaded proc in rw (get_d_map_lt fresh n.procs k nobody (vars []) h) (fresh_good (get_or n.procs k nobody) (gn.procs k h));
  }
  reached_good (cycled {s = s} {ds = ds} ks x o) =
      let q = reached_sound n one x in
      let g = reached_good x in
      (part n (mark n s) one (λ k d. (k < length n.procs) × GoodDeed n (proc n k) d) (λ t es. Sound n t es × GoodState n t)
      (λ k t es r y p. (let z = sound_next n (mark n s) one k t es r p.0 in (z, good_next n (mark n s) one k t _ r y z p.1)))
      ks [] s ds (rw append-nil (order_due n one s ks q.shape q.fits o))
      (λ k h. (let f = named_fires n s ks o k (rw append-nil at h) in (f.2, deed_good n gn s g (mark n s) k f.0 f.2 f.1 f.1))) (q, g)).0.1

-- ── values and tokens ────────────────────────────────────────────────────────────────────────

-- four bytes hold what a type of at most 30 bits holds
pub within_small : (t : Ty) → 1 ≤ t.p → t.p ≤ 30 → (z : ℤ) → within t z ≡ true → mag z < 2147483648
within_small t l h z w = omega (arith, within_mag t z l w, pow_30 h)

pub token_small : (t : Ty) → GoodType t → (k : Token) → token_fits t k ≡ true → mag k.value < 2147483648
unfolding token_fits eq_z
token_small t g k e = by_tag (eqb k.tag 1 || eqb k.tag 2) k.value (and_right (tag_fits t k.tag && leb k.tag 3) _ e)
  where
    by_tag : (b : Bool) (z : ℤ) → cond b (eq_z z (pos 0)) (within (carried t) z) ≡ true → mag z < 2147483648
    by_tag true (pos n) f = omega (arith, eqb-true n 0 f)
    by_tag true (negsuc n) f = let z : ◌≡◌ {A = ℕ} 0 1 = cc in absurd (omega arith)
    by_tag false z f = within_small (carried t) (omega (arith, g.low, carried_p t)) (omega (arith, g.high, carried_p t)) z f

pub token_back : (k : Token) (rest : List ℕ) → mag k.value < 2147483648 → token_at (token_bytes k ++ rest) ≡ k
token_back k rest h = unfold token_at token_bytes value_at value_bytes four_at four_bytes in λ i. record { tag = k.tag; value = value_bytes_lem k.value h i }

pub length_tokens : (ts : List Token) → length (tokens_bytes ts) ≡ 5 * length ts
unfolding tokens_bytes token_bytes value_bytes four_bytes
length_tokens [] = refl
length_tokens (t ∷ ts) = omega (arith, length_tokens ts)

tokens_back : (t : Ty) → GoodType t → (q : List Token) (rest : List ℕ) → tokens_fit t q ≡ true → read_tokens (length q) (tokens_bytes q ++ rest) ≡ q
unfolding tokens_fit read_tokens tokens_bytes token_bytes value_bytes four_bytes
tokens_back t g [] rest e = refl
tokens_back t g (k ∷ q) rest e =
    let h = and₂ (token_fits t k) (tokens_fit t q) e in
    ap₂ (λ (x : Token) (xs : List Token). x ∷ xs) (token_back k (tokens_bytes q ++ rest) (token_small t g k h.0)) (tokens_back t g q rest h.1)

-- ── a room ───────────────────────────────────────────────────────────────────────────────────

zeros : (k : ℕ) → all_zero (replicate k 0) ≡ true
unfolding all_zero
zeros zero = refl
zeros (suc k) = zeros k

pub length-room : (room : ℕ) (ts : List Token) → length ts ≤ room → length (room_bytes room ts) ≡ 5 * room
length-room room ts h = unfold room_bytes in length-append (tokens_bytes ts) (replicate ((room - length ts) * 5) 0) ∙ omega (arith, length_tokens ts, length-replicate {A = ℕ} ((room - length ts) * 5) 0)

-- its length, the tokens back, and that it fits
room-laid : (t : Ty) → GoodType t → (room : ℕ) (q : List Token) → tokens_fit t q ≡ true → length q ≤ room
    → (length (room_bytes room q) ≡ 5 * room) × (read_tokens (length q) (room_bytes room q) ≡ q) × (room_fits t room (length q) (room_bytes room q) ≡ true)
room-laid t g room q e l = unfold room_fits room_bytes in
    let z : List ℕ = replicate ((room - length q) * 5) 0 in
    let back = tokens_back t g q z e in
    (length-room room q l, back, rw (back, le-leb (length q) room l, e, drop_at (tokens_bytes q) z (5 * length q) (length_tokens q)) (zeros ((room - length q) * 5)))

-- ── variables ────────────────────────────────────────────────────────────────────────────────

pub length-values : (zs : List ℤ) → length (values_bytes zs) ≡ 4 * length zs
unfolding values_bytes value_bytes four_bytes
length-values [] = refl
length-values (z ∷ zs) = omega (arith, length-values zs)

values_back : (vs : List Variable) (zs : List ℤ) → Each GoodVariable no_variable vs → length zs ≡ length vs
    → ((j : ℕ) → j < length vs → within (get_or vs j no_variable).ty (get_or zs j (pos 0)) ≡ true) → (values_in vs (values_bytes zs) ≡ zs) × (values_fit vs (values_bytes zs) ≡ true)
unfolding values_in values_fit values_bytes value_bytes four_bytes
values_back [] [] g l w = (refl, refl)
values_back [] (z ∷ zs) g l w = absurd (omega arith)
values_back (v ∷ vs) [] g l w = absurd (omega arith)
values_back (v ∷ vs) (z ∷ zs) g l w =
    let t = (g 0 (omega arith)).ty in
    let h = w 0 (omega arith) in
    let ih = values_back vs zs (λ k m. g (suc k) (omega (arith, m))) (omega arith) (λ k m. w (suc k) (omega (arith, m))) in
    let e : value_at (value_bytes z ++ values_bytes zs) 0 ≡ z = unfold value_at four_at in value_bytes_lem z (within_small v.ty t.low t.high z h) in
    rw (e, h) (ap (λ (l : List ℤ). z ∷ l) ih.0, ih.1)

-- ── parts one after another ──────────────────────────────────────────────────────────────────

pub cat-append : (a b : List (List ℕ)) → cat (a ++ b) ≡ cat a ++ cat b
unfolding cat
cat-append [] b = refl
cat-append (x ∷ a) b = ap (λ (l : List ℕ). x ++ l) (cat-append a b) ∙ sym (append_assoc x (cat a) (cat b))

module _ {A B : Type 0} (bytes : A → B → List ℕ) (held : A → List ℕ → B) (size : A → ℕ) (fit : A → List ℕ → Bool) where
  -- one part: its length, what it holds, that it fits
  abbrev Part : A → B → Type 0
  Part x y = (length (bytes x y) ≡ size x) × (held x (bytes x y) ≡ y) × (fit x (bytes x y) ≡ true)

  -- all parts, with other bytes behind them: what is behind, what they hold, that they fit
  parts : (d : A) (e : B) (xs : List A) (ys : List B) → length ys ≡ length xs → ((k : ℕ) → k < length xs → Part (get_or xs k d) (get_or ys k e)) → (rest : List ℕ)
      → let s = cat (zip_with bytes xs ys) ++ rest in
      (drop (sum (map size xs)) s ≡ rest) × (zip_with held xs (split (map size xs) s) ≡ ys) × (all_true (zip_with fit xs (split (map size xs) s)) ≡ true)
  unfolding cat sum split zip_with all_true
  parts d e [] [] l p rest = (refl, refl, refl)
  parts d e [] (y ∷ ys) l p rest = absurd (omega arith)
  parts d e (x ∷ xs) [] l p rest = absurd (omega arith)
  parts d e (x ∷ xs) (y ∷ ys) l p rest =
      let h = p 0 (omega arith) in
      let more : List ℕ = cat (zip_with bytes xs ys) ++ rest in
      let ih = parts d e xs ys (omega arith) (λ k m. p (suc k) (omega (arith, m))) rest in
      let t = take_at (bytes x y) more (size x) h.0 in
      let r = drop_at (bytes x y) more (size x) h.0 in
      rw (append_assoc (bytes x y) (cat (zip_with bytes xs ys)) rest)
      (sym (drop-drop (sum (map size xs)) (size x) (bytes x y ++ more)) ∙ rw r ih.0, rw (t, r) (ap₂ (λ (z : B) (zs : List B). z ∷ zs) h.1 ih.1), rw (t, r, h.2) ih.2)

-- ── a state ──────────────────────────────────────────────────────────────────────────────────

module _ (n : Net) (gn : GoodNet n) (s : State) (gs : GoodState n s) where
  wire_part : (w : ℕ) → w < length n.wires → Part wire_bytes queue_in wire_size wire_fits (get_or n.wires w no_wire) (get_or s.queues w [])
  wire_part w h = unfold wire_bytes queue_in wire_size wire_fits wire queue capacity in
      let r = room-laid (wire n w).ty (gn.wires w h).ty (capacity n w) (queue s w) (gs.fit w h) (gs.most w) in
      (omega (arith, r.0), r.1, r.2)

  own_part : (p : Proc) (o : Own) → GoodProc n p → GoodOwn n p o → Part own_bytes own_in own_size (own_fits n true) p o
  unfolding own_bytes own_in own_size own_fits two_at two_bytes wire
  own_part (box b) o gp g =
      let v = values_back b.vars (vars_of o) gp.vars g.number g.each in
      (omega (arith, length-values (vars_of o), g.number), ap vars v.0 ∙ sym g.is, v.1)
  own_part (input w ts) o gp g =
      let e : taken_of o / 256 * 256 + taken_of o % 256 ≡ taken_of o = omega arith in
      (refl, ap taken e ∙ sym g.is, rw e (le-leb (taken_of o) (length ts) g.most))
  own_part (output w room) o gp g =
      let q = got_of o in
      let r = room-laid (wire n w).ty (gn.wires w gp.0).ty room q g.fit g.most in
      let e : length q / 256 * 256 + length q % 256 ≡ length q = omega arith in
      (omega (arith, r.0), rw e (ap got r.1 ∙ sym g.is), rw e r.2)

  -- its bytes give it back, and are accepted
  pub good_whole : (rest : List ℕ) → Back n s rest
  good_whole rest = unfold bytes_of segments state_in state_fits wire_parts own_parts wires_size proc own in
      let ws = zip_with wire_bytes n.wires s.queues in
      let os = zip_with own_bytes n.procs s.owns in
      let a = parts wire_bytes queue_in wire_size wire_fits no_wire [] n.wires s.queues gs.queues wire_part (cat os ++ rest) in
      let b = parts own_bytes own_in own_size (own_fits n true) nobody (vars []) n.procs s.owns gs.owns
      (λ k h. own_part (proc n k) (own s k) (gn.procs k h) (gs.kept k h)) rest in
      let e : cat (ws ++ os) ++ rest ≡ cat ws ++ (cat os ++ rest) = rw cat-append (append_assoc (cat ws) (cat os) rest) in
      record { state = rw (e, a.0) (λ i. record { queues = a.1 i; owns = b.1 i }); accepted = rw (e, a.0, a.2) b.2 }

-- so it is with every state reached
pub round_trip : RoundTrip
unfolding RoundTrip
round_trip net tokens n e s ds rest x = let a = tokens_accepted net tokens n e in good_whole n a.all s (reached_good n a.all a.one x) rest
