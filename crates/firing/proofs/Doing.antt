-- Tokens taken, then results put, then new values kept: that is the deed.
-- Assumes nothing.
use mathlib.Core.Path.{◌≡◌, refl, ap}
use mathlib.Core.List.{List, [], ◌++◌}
use Prim.Native.Nat.{ℕ, ◌≤◌, ◌<◌}
use native.Mathlib.Omega.{arith}
use lib.IntN.{ℤ}
use lib.ListN.{length, get_or, drop, length-append, length-drop}
use Rattle.model.specs.Network.{Box, Net, vars, State, proc, queue, own, vars_of}
use Rattle.model.specs.Cycles.{Move, Deed, look, moves, take_all, put_all, act}
use Rattle.model.specs.NetworkFile.{box_at}
use Rattle.model.specs.Orders.{on_wire}
use Rattle.model.proofs.Order.{queue-act}
use Rattle.shapes.specs.declared.Arity.{Arity}
use Rattle.table.specs.declared.Counts.{Counts}
use Rattle.table.specs.Table.{index_in}
use Rattle.places.specs.Standing.{net_in, Standing, state_of}
use Rattle.places.proofs.Standing.{state_good}
use Rattle.moves.specs.Moves.{Became, with_own}
use Rattle.moves.proofs.Laws.{became_then}
use Rattle.taking.specs.Reading.{read_from, after_reading}
use Rattle.putting.specs.Putting.{sent_from, Places, after_puts, new_from, Keeps, after_keeps}
use Rattle.firing.specs.Firing.{sets_from, deed_in, Works}

-- a wire that tokens were taken from holds no more than before
fewer : (ms : List Move) (s : State) (w : ℕ) → w < length s.queues → length (queue (record { queues = take_all ms s.queues; owns = s.owns }) w) ≤ length (queue s w)
unfolding queue act put_all
fewer ms s w l =
    let d : Deed = record { took = ms; put = []; keeps = vars [] } in
    let e : get_or (take_all ms s.queues) w [] ≡ drop (length (on_wire w ms)) (get_or s.queues w []) ++ on_wire w [] = queue-act 0 d s w l in
    let z : length (on_wire w []) ≡ 0 = unfold on_wire in refl in
    omega (arith, ap length e, z, length-append (drop (length (on_wire w ms)) (get_or s.queues w [])) (on_wire w []), length-drop (length (on_wire w ms)) (get_or s.queues w []))

module _ (s t p ts b : List ℕ) (c : Counts) (h : Standing s t p ts b c) (k : ℕ) (a : Arity) (from : ℕ) (body : List ℕ) (vals : List ℤ) (types : List ℕ) where
  abbrev n : Net
  n = net_in s t c ts

  abbrev st : State
  st = state_of s t c ts b

  abbrev its : Box
  its = box_at s (index_in t c) k

  abbrev sent : List Move
  sent = sent_from vals types its.outs body a.outs from

  -- what is left in the variables, from their old values
  abbrev left : List ℤ → List ℤ
  left old = new_from vals types old body a.vars (sets_from a from body)

  abbrev taken : State
  taken = after_reading its.ins (read_from (length its.ins) 0 body) st

  module _ (x : Works c n st its k a from body vals types) (b₁ : List ℕ) (e₁ : Became s t p ts b c b₁ taken) where
    pub places : Places n (state_of s t c ts b₁) sent
    unfolding deed_in after_reading
    places = rw e₁.state (record {
      room = λ w i. omega (arith, x.sound.room w, fewer (moves its.ins (look st its.ins (read_from (length its.ins) 0 body))) st w (omega (arith, i, (state_good s t p ts b c h).queues)));
      fit = λ w i. x.sound.fit w;
    })

    module _ (b₂ : List ℕ) (e₂ : Became s t p ts b₁ c b₂ (after_puts sent (state_of s t c ts b₁))) where
      put_then : Became s t p ts b c b₂ (after_puts sent taken)
      put_then = became_then s t p ts c b b₁ b₂ taken (after_puts sent) e₁ e₂

      -- what the box keeps is still as it was
      same : own (state_of s t c ts b₂) k ≡ own st k
      unfolding own after_puts after_reading
      same = ap (λ (y : State). get_or y.owns k (vars [])) put_then.state

      pub vars_now : (a.vars ≤ 4) × (a.vars ≡ length (vars_of (own (state_of s t c ts b₂) k)))
      vars_now = rw same x.vars

      pub keeps : Keeps n (proc n k) vals (vars_of (own (state_of s t c ts b₂) k)) (left (vars_of (own (state_of s t c ts b₂) k)))
      unfolding deed_in
      keeps = rw same (record { held = x.held; good = x.sound.keeps })

      pub done : (b₃ : List ℕ) → Became s t p ts b₂ c b₃ (after_keeps k (left (vars_of (own (state_of s t c ts b₂) k))) (state_of s t c ts b₂)) → Became s t p ts b c b₃ (act k (deed_in its a from body vals types k st) st)
      unfolding act deed_in after_keeps with_own after_puts after_reading
      done b₃ e₃ = became_then s t p ts c b b₂ b₃ (after_puts sent taken) (after_keeps k (left (vars_of (own st k)))) put_then (rw same at e₃)
