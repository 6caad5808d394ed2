-- The results of actions put one after another: what the first puts, and what is left to put.
-- Assumes nothing.
use mathlib.Core.Path.{◌≡◌, refl, sym, ap, ◌∙◌, subst}
use mathlib.Core.Bool.{Bool, true, false}
use mathlib.Core.List.{List, [], ◌∷◌, ◌++◌, map}
use Prim.Native.Nat.{ℕ, suc, ◌+◌, ◌-◌, ◌≤◌, ◌<◌}
use native.Mathlib.Omega.{arith}
use lib.Dec.{eqb}
use lib.IntN.{ℤ}
use lib.ListN.{length, get_or, drop, length-append}
use lib.Seq.{drop-cons}
use borrow.Author.Tests.{eq-eqb}
use Rattle.std.specs.Prelude.{Option, Some, None}
use Rattle.model.specs.declared.Ty.{Ty}
use Rattle.model.specs.declared.Token.{Token}
use Rattle.model.specs.Expressions.{Read, bad, got, read_many, Scope}
use Rattle.model.specs.Rules.{Action, read_action}
use Rattle.model.specs.Network.{Net, State, wire, queue}
use Rattle.model.specs.States.{token_fits, tokens_fit}
use Rattle.model.specs.Cycles.{Move, moves, result, put_all}
use Rattle.model.specs.Orders.{joined, on_wire}
use Rattle.model.proofs.Tests.{and₂, both}
use Rattle.model.proofs.Order.{put_all_at}
use Rattle.expressions.specs.Reading.{end_from, skip_to}
use Rattle.rules.specs.Bodies.{action_codes, actions_from}
use Rattle.rules.proofs.Ends.{end_step, end_none}
use Rattle.types.specs.Scopes.{scope_in}
use Rattle.typing.proofs.Patterns.{minus_zero}
use Rattle.typing.specs.Fits.{list_read, action_at}
use Rattle.evaluation.specs.Envs.{env_in}
use Rattle.table.specs.declared.Counts.{Counts}
use Rattle.places.specs.Standing.{net_in, Standing, state_of}
use Rattle.places.proofs.Standing.{state_good}
use Rattle.moves.specs.Moves.{Became, CanPut, with_queue, after_put}
use Rattle.moves.proofs.Laws.{became_none, became_more}
use Rattle.actions.proofs.Acting.{Ready, First}
use Rattle.putting.specs.Putting.{Workable, sent_to, sent_from, Places, after_puts}

-- ── one result ───────────────────────────────────────────────────────────────────────────────

fit_first : (y : Ty) (t : Token) → tokens_fit y (t ∷ []) ≡ true → token_fits y t ≡ true
unfolding tokens_fit
fit_first y t e = (and₂ (token_fits y t) true e).0

-- a token for a wire comes on that wire
on_own : (w : ℕ) (t : Token) → on_wire w (moves (w ∷ []) (Some t ∷ [])) ≡ t ∷ []
unfolding moves on_wire joined
on_own w t = rw (eq-eqb w w refl)

module _ (vals : List ℤ) (types b : List ℕ) (w at : ℕ) where
  abbrev x : Option Token
  x = result (env_in vals types) (action_at (drop at b))

  module _ (st : State) where
    pub puts_none : None ≡ x → st ≡ after_puts (sent_to vals types w b at) st
    unfolding after_puts sent_to moves put_all
    puts_none e = rw (← e)

    pub puts_one : (t : Token) (v : ℕ) → v ≡ w → Some t ≡ x → after_put v t st ≡ after_puts (sent_to vals types w b at) st
    unfolding after_puts sent_to moves put_all after_put with_queue queue
    puts_one t v e f = rw (e, ← f)

  pub can_put : (c : Counts) (n : Net) (st : State) (t : Token) (v : ℕ) → length n.wires ≡ c.wires → (v ≡ w) × (v < c.wires) → Some t ≡ x → Places n st (sent_to vals types w b at) → CanPut c n st v t
  unfolding sent_to
  can_put c n st t v l e f g =
      let i : w < length n.wires = omega (arith, l, e.0, e.1) in
      let q : on_wire w (moves (w ∷ []) (x ∷ [])) ≡ t ∷ [] = ap (λ (y : Option Token). on_wire w (moves (w ∷ []) (y ∷ []))) (sym f) ∙ on_own w t in
      rw e.0 (record {
        known = omega (arith, e.0, e.1);
        room = omega (arith, g.room w i, ap length q);
        fits = fit_first (wire n w).ty t (sym (ap (tokens_fit (wire n w).ty) q) ∙ g.fit w i);
      })

pub put_done : {s t p ts b b' : List ℕ} {c : Counts} {x y : State} → x ≡ y → Became s t p ts b c b' x → Became s t p ts b c b' y
put_done {s = s} {t = t} {p = p} {ts = ts} {b = b} {b' = b'} {c = c} e h = subst (λ (z : State). Became s t p ts b c b' z) e h

-- ── some moves, then others ──────────────────────────────────────────────────────────────────

put_append : (l m : List Move) (qs : List (List Token)) → put_all (l ++ m) qs ≡ put_all m (put_all l qs)
unfolding put_all
put_append [] m qs = refl
put_append (x ∷ l) m qs = put_append l m _

puts_append : (l m : List Move) (st : State) → after_puts (l ++ m) st ≡ after_puts m (after_puts l st)
unfolding after_puts
puts_append l m st = ap (λ (qs : List (List Token)). record { queues = qs; owns = st.owns }) (put_append l m st.queues)

on_append : (w : ℕ) (l m : List Move) → on_wire w (l ++ m) ≡ on_wire w l ++ on_wire w m
unfolding on_wire
on_append w [] m = refl
on_append w (x ∷ l) m = ap (joined (eqb x.wire w) x.token) (on_append w l m) ∙ go (eqb x.wire w)
  where
    go : (b : Bool) → joined b x.token (on_wire w l ++ on_wire w m) ≡ joined b x.token (on_wire w l) ++ on_wire w m
    go true = unfold joined in refl
    go false = unfold joined in refl

fit_parts : (t : Ty) (l m : List Token) → tokens_fit t (l ++ m) ≡ true → (tokens_fit t l ≡ true) × (tokens_fit t m ≡ true)
unfolding tokens_fit
fit_parts t [] m e = (refl, e)
fit_parts t (x ∷ l) m e =
    let h = and₂ (token_fits t x) (tokens_fit t (l ++ m)) e in
    let r = fit_parts t l m h.1 in
    (both (token_fits t x) (tokens_fit t l) h.0 r.0, r.1)

module _ (n : Net) (st : State) (l m : List Move) (g : Places n st (l ++ m)) where
  on_long : (w : ℕ) → length (on_wire w (l ++ m)) ≡ length (on_wire w l) + length (on_wire w m)
  on_long w = ap length (on_append w l m) ∙ length-append (on_wire w l) (on_wire w m)

  on_fit : (w : ℕ) → w < length n.wires → (tokens_fit (wire n w).ty (on_wire w l) ≡ true) × (tokens_fit (wire n w).ty (on_wire w m) ≡ true)
  on_fit w i = fit_parts (wire n w).ty (on_wire w l) (on_wire w m) (sym (ap (tokens_fit (wire n w).ty) (on_append w l m)) ∙ g.fit w i)

  pub places_first : Places n st l
  places_first = record { room = λ w i. omega (arith, g.room w i, on_long w); fit = λ w i. (on_fit w i).0 }

  -- once the first are put, there are places for the others
  places_rest : length st.queues ≡ length n.wires → Places n (after_puts l st) m
  places_rest e = record {
    room = λ w i. omega (arith, g.room w i, on_long w, ap length (now_at w i), length-append (queue st w) (on_wire w l));
    fit = λ w i. (on_fit w i).1;
  }
    where
      now_at : (w : ℕ) → w < length n.wires → queue (after_puts l st) w ≡ queue st w ++ on_wire w l
      now_at w i = unfold after_puts queue in put_all_at l st.queues w (omega (arith, i, e))

-- ── one action after another ─────────────────────────────────────────────────────────────────

moves_first : (w : ℕ) (ws : List ℕ) (y : Option Token) (ys : List (Option Token)) → moves (w ∷ ws) (y ∷ ys) ≡ moves (w ∷ []) (y ∷ []) ++ moves ws ys
unfolding moves
moves_first w ws None ys = refl
moves_first w ws (Some t) ys = refl

pub workable : {sc : Scope} {v : Bool} {b : List ℕ} {k at end : ℕ} → First sc v b k at end → Workable sc b at
workable x = record { inside = x.inside; limits = x.limits; typed = x.typed }

-- the result of the first, then those of the others
pub sent_first : (vals : List ℤ) (types : List ℕ) (sc : Scope) (ws b : List ℕ) (j k at end : ℕ) → j < length ws → First sc false b k at end
    → sent_from vals types (drop j ws) b k at ≡ sent_to vals types (get_or ws j 0) b at ++ sent_from vals types (drop (j + 1) ws) b (k - 1) end
unfolding sent_from sent_to
sent_first vals types sc ws b j k at end l f =
    let q : suc j ≡ j + 1 = omega arith in
    let en = env_in vals types in
    ap (λ (xs : List Action). moves (drop j ws) (map (result en) xs)) f.list
    ∙ ap (λ (us : List ℕ). moves us (map (result en) (action_at (drop at b) ∷ list_read (actions_from false (k - 1) end b)))) (drop-cons ws j 0 l ∙ ap (λ (i : ℕ). get_or ws j 0 ∷ drop i ws) q)
    ∙ moves_first (get_or ws j 0) (drop (j + 1) ws) (result en (action_at (drop at b))) (map (result en) (list_read (actions_from false (k - 1) end b)))

-- ── what is left to put ──────────────────────────────────────────────────────────────────────

-- lent bytes b₀ became b; there are places for the moves that are left, and these lead to a state
pub record Putting (s t p ts b₀ : List ℕ) (c : Counts) (goal : State) (b : List ℕ) (ms : List Move) : Type 0 where
  pub became : Became s t p ts b₀ c b (state_of s t c ts b)
  pub places : Places (net_in s t c ts) (state_of s t c ts b) ms
  pub leads : after_puts ms (state_of s t c ts b) ≡ goal

module _ (s t p ts b₀ : List ℕ) (c : Counts) where
  pub putting_first : (ms : List Move) → Standing s t p ts b₀ c → Places (net_in s t c ts) (state_of s t c ts b₀) ms → Putting s t p ts b₀ c (after_puts ms (state_of s t c ts b₀)) b₀ ms
  putting_first ms h g = record { became = became_none s t p ts c b₀ h; places = g; leads = refl }

  module _ (goal : State) (b : List ℕ) where
    pub putting_next : (b' : List ℕ) (ms l m : List Move) → ms ≡ l ++ m → Putting s t p ts b₀ c goal b ms → Became s t p ts b c b' (after_puts l (state_of s t c ts b)) → Putting s t p ts b₀ c goal b' m
    putting_next b' ms l m e g y =
        let v = state_of s t c ts b in
        let h : Places (net_in s t c ts) v (l ++ m) = subst (λ (k : List Move). Places (net_in s t c ts) v k) e g.places in
        record {
          became = became_more s t p ts c b₀ b b' _ _ g.became (record { stands = y.stands; state = refl; long = y.long; rest = y.rest });
          places = rw y.state (places_rest (net_in s t c ts) v l m h (state_good s t p ts b c g.became.stands).queues);
          leads = ap (after_puts m) y.state ∙ sym (puts_append l m v) ∙ ap (λ (k : List Move). after_puts k v) (sym e) ∙ g.leads;
        }

    pub putting_last : (ms : List Move) → ms ≡ [] → Putting s t p ts b₀ c goal b ms → Became s t p ts b₀ c b goal
    putting_last ms e g =
        let q : after_puts [] (state_of s t c ts b) ≡ state_of s t c ts b = unfold after_puts put_all in refl in
        subst (λ (y : State). Became s t p ts b₀ c b y) (sym q ∙ ap (λ (k : List Move). after_puts k (state_of s t c ts b)) (sym e) ∙ g.leads) g.became

no_moves : (ws : List ℕ) → moves ws [] ≡ []
unfolding moves
no_moves [] = refl
no_moves (w ∷ ws) = refl

-- no action, no move
pub sent_end : (vals : List ℤ) (types ws b : List ℕ) (k at : ℕ) → k ≤ 0 → sent_from vals types ws b k at ≡ []
unfolding sent_from actions_from read_many list_read
sent_end vals types ws b k at h = let q : k ≡ 0 = omega arith in rw q (no_moves ws)

-- ── the turns of the loop ────────────────────────────────────────────────────────────────────

-- before turn j, at an offset: the actions that are left can be worked out, and their results lead to the state after all n
-- what ends at an offset is skipped to there
skipped : {A : Type 0} (at : ℕ) {end : ℕ} (r : Read A) → end_from at r ≡ Some end → end ≡ skip_to at r
unfolding end_from skip_to
skipped at bad e = let z : ◌≡◌ {A = ℕ} 0 1 = cc in absurd (omega arith)
skipped at (got x n) e = cc

pub record SentLeft (s t p ts b₀ : List ℕ) (c : Counts) (vals : List ℤ) (types ws body : List ℕ) (n from : ℕ) (b : List ℕ) (at j : ℕ) : Type 0 where
  pub ready : Ready (scope_in types) false body (n - j) at
  pub ends : end_from at (actions_from false (n - j) at body) ≡ end_from from (actions_from false n from body)
  pub left : Putting s t p ts b₀ c (after_puts (sent_from vals types ws body n from) (state_of s t c ts b₀)) b (sent_from vals types (drop j ws) body (n - j) at)

module _ (s t p ts b₀ : List ℕ) (c : Counts) (vals : List ℤ) (types ws body : List ℕ) (n from : ℕ) where
  pub sent_start : Standing s t p ts b₀ c → Ready (scope_in types) false body n from → Places (net_in s t c ts) (state_of s t c ts b₀) (sent_from vals types ws body n from) → SentLeft s t p ts b₀ c vals types ws body n from b₀ from 0
  sent_start h r g = record {
    ready = subst (λ (m : ℕ). Ready (scope_in types) false body m from) (sym (minus_zero n)) r;
    ends = ap (λ (m : ℕ). end_from from (actions_from false m from body)) (minus_zero n);
    left = subst (λ (m : ℕ). Putting s t p ts b₀ c (after_puts (sent_from vals types ws body n from) (state_of s t c ts b₀)) b₀ (sent_from vals types ws body m from)) (sym (minus_zero n)) (putting_first s t p ts b₀ c (sent_from vals types ws body n from) h g);
  }

  module _ (e : n ≡ length ws) (b : List ℕ) (at j : ℕ) where
    module _ (end : ℕ) (l : j < n) (f : First (scope_in types) false body (n - j) at end) (x : SentLeft s t p ts b₀ c vals types ws body n from b at j) where
      abbrev parts : sent_from vals types (drop j ws) body (n - j) at ≡ sent_to vals types (get_or ws j 0) body at ++ sent_from vals types (drop (j + 1) ws) body (n - j - 1) end
      parts = sent_first vals types (scope_in types) ws body j (n - j) at end (omega (arith, e, l)) f

      pub sent_places : Places (net_in s t c ts) (state_of s t c ts b) (sent_to vals types (get_or ws j 0) body at)
      sent_places = places_first (net_in s t c ts) (state_of s t c ts b) _ _ (subst (λ (k : List Move). Places (net_in s t c ts) (state_of s t c ts b) k) parts x.left.places)

      pub sent_next : (b' : List ℕ) → Became s t p ts b c b' (after_puts (sent_to vals types (get_or ws j 0) body at) (state_of s t c ts b)) → SentLeft s t p ts b₀ c vals types ws body n from b' end (j + 1)
      unfolding actions_from
      sent_next b' y =
          let q : n - j - 1 ≡ n - (j + 1) = omega arith in
          record {
            ready = rw q at f.rest;
            ends = rw (← q) (sym (end_step (read_action (action_codes false)) body (n - j) at end (omega arith) f.ends) ∙ x.ends);
            left = rw q at (putting_next s t p ts b₀ c (after_puts (sent_from vals types ws body n from) (state_of s t c ts b₀)) b b' _ _ _ parts x.left y);
          }

    pub sent_last : n ≤ j → SentLeft s t p ts b₀ c vals types ws body n from b at j → (at ≡ skip_to from (actions_from false n from body)) × Became s t p ts b₀ c b (after_puts (sent_from vals types ws body n from) (state_of s t c ts b₀))
    unfolding actions_from
    sent_last l x = (
      skipped from _ (sym x.ends ∙ end_none (read_action (action_codes false)) body (n - j) at (omega arith)),
      putting_last s t p ts b₀ c _ b _ (sent_end vals types (drop j ws) body (n - j) at (omega arith)) x.left,
    )
