-- The deed of a rule's body, worked out from what its box sees, is the model's.
-- Assumes nothing.
use mathlib.Core.Path.{◌≡◌, sym, ap, ◌∙◌, subst}
use mathlib.Core.Bool.{true, false}
use mathlib.Core.List.{List, map}
use Prim.Native.Nat.{ℕ, ◌≤◌, ◌<◌, ◌^◌}
use native.Mathlib.Omega.{arith}
use lib.IntN.{ℤ, pos}
use lib.ListN.{length, get_or}
use lib.Signed.{mag}
use Rattle.std.specs.Prelude.{Some}
use Rattle.model.specs.Expressions.{Env}
use Rattle.model.specs.Rules.{Rule, Pattern, Action, rule_read, read_rule, matched_types}
use Rattle.model.specs.Network.{Box, Net, State, vars, rule, own, vars_of, ins_of, outs_of, shape_of}
use Rattle.model.specs.NetworkFile.{Index, body_at, box_of, wires_of, shape_at, box_at, rule_at, net_of}
use Rattle.model.specs.Cycles.{Deed, reads, look, moves, env_of, result, new_vars, reads_of, sent_of, kept_of, deed_of, act}
use Rattle.expressions.specs.Reading.{is_read, skip_to}
use Rattle.shapes.specs.Shapes.{wires_in, types_in, shape_in}
use Rattle.shapes.specs.declared.Arity.{Arity}
use Rattle.rules.specs.declared.Parts.{Parts}
use Rattle.rules.specs.Bodies.{patterns_from, layout_of, Parted, outs_at}
use Rattle.rules.proofs.Laying.{Laid, laid}
use Rattle.types.specs.Scopes.{scope_in}
use Rattle.typing.specs.Fits.{list_read, scope_read, Agree, Kept}
use Rattle.typing.proofs.Wholes.{ins_read}
use Rattle.evaluation.specs.Envs.{env_in, EnvFits}
use Rattle.table.specs.declared.Counts.{Counts}
use Rattle.table.specs.Table.{index_in}
use Rattle.places.specs.Standing.{net_in, Standing, state_of}
use Rattle.moves.specs.Moves.{Became}
use Rattle.sights.specs.Seen.{Values}
use Rattle.actions.proofs.Acting.{Ready}
use Rattle.actions.proofs.Worked.{Alike, Judged, results_same, news_same}
use Rattle.actions.proofs.Placed.{Held, held, Workable, workable}
use Rattle.trying.specs.Views.{view_env}
use Rattle.trying.specs.Working.{Ruled}
use Rattle.trying.proofs.Settling as settling
use Rattle.marking.proofs.Boxes as boxes
use Rattle.marking.proofs.Boxmarks.{proc_is, vars_many, suits}
use Rattle.marking.proofs.Trials as trials
use Rattle.taking.specs.Taking.{fired}
use Rattle.taking.specs.Reading.{read_from}
use Rattle.putting.specs.Putting.{sent_from, new_from}
use Rattle.firing.specs.Firing.{deed_at, Sound, sets_from, deed_in, Works}

module _ (s t p ts b : List ℕ) (c : Counts) (h : Standing s t p ts b c) (k : ℕ) (l : k < c.boxes) (o : ℕ) (e : o ≡ get_or (index_in t c).boxes k 0)
    (ins outs vs : List ℕ) (a : Arity) (d : shape_in ins outs vs a ≡ shape_of (wires_in s t c.wires) (box_of (body_at s o)))
    (r : ℕ) (m : r < length (box_at s (index_in t c) k).rules) (body : List ℕ) (eb : body ≡ body_at s (rule_at (index_in t c) k r)) where
  abbrev x : Index
  x = index_in t c

  abbrev n : Net
  n = net_in s t c ts

  abbrev st : State
  st = state_of s t c ts b

  abbrev its : Box
  its = box_at s x k

  abbrev old : List ℤ
  old = vars_of (own st k)

  abbrev read : List ℕ → Rule
  read y = rule_read (read_rule a.ins a.outs a.vars y)

  abbrev ru : Rule
  ru = read body

  rule_is_lem : ru ≡ rule its r
  rule_is_lem = ap read eb ∙ boxes.rule_is_lem s t c h.tabled k l o e ins outs vs a d r m

  pub ready : Ruled a ins vs body
  ready = subst (Ruled a ins vs) (sym eb) (boxes.ruled s t c h.tabled k l o e ins outs vs a d r m)

  suit : trials.Suits n its old ru
  suit = subst (λ (y : List ℕ). trials.Suits n its old (read y)) (sym eb) (suits s t p ts b c h k l o e ins outs vs a d r m)

  ins_many : a.ins ≡ length its.ins
  unfolding shape_at shape_of box_at
  ins_many = sym (boxes.many s t c h.tabled k l o e ins outs vs a d ins a.ins (boxes.ins_types s t c h.tabled k l o e ins outs vs a d)) ∙ boxes.wire_types_lem (wires_of s x) (box_of (body_at s (get_or x.boxes k 0))).ins

  outs_many : a.outs ≡ length its.outs
  unfolding shape_at shape_of box_at
  outs_many = sym (boxes.many s t c h.tabled k l o e ins outs vs a d outs a.outs (boxes.outs_types s t c h.tabled k l o e ins outs vs a d)) ∙ boxes.wire_types_lem (wires_of s x) (box_of (body_at s (get_or x.boxes k 0))).outs

  its_vars : a.vars ≡ length its.vars
  unfolding shape_at shape_of box_at
  its_vars = sym (boxes.many s t c h.tabled k l o e ins outs vs a d vs a.vars (boxes.vars_types s t c h.tabled k l o e ins outs vs a d)) ∙ boxes.variable_types_lem (box_of (body_at s (get_or x.boxes k 0))).vars

  -- the deed by a rule
  unfoldable deed_by : Rule → Deed
  deed_by y =
      let sees = look st its.ins (map reads y.ins) in
      let en = env_of n its y sees old in
      record { took = moves its.ins sees; put = moves its.outs (map (result en) y.outs); keeps = vars (new_vars en old y.sets) }

  deed_rule : deed_at n k r st ≡ deed_by ru
  unfolding deed_at deed_of ins_of outs_of reads_of sent_of kept_of deed_by
  deed_rule = rw (proc_is s t p ts b c h k l) (ap deed_by (sym rule_is_lem))

  pub whole_parts : Parted a body
  whole_parts = subst (Parted a) (sym eb) (boxes.parts_here s t c h.tabled k l o e ins outs vs a d r m)

  abbrev q : Parts
  q = whole_parts.parts

  module _ (from : ℕ) (y : from ≡ outs_at (layout_of a body)) where
    lies : Laid a body q
    lies = laid a body q whole_parts.whole

    -- the output actions begin there, and the variables' behind them
    from_is : from ≡ q.outs
    unfolding outs_at
    from_is = y ∙ ap outs_at whole_parts.whole

    sets_is : sets_from a from body ≡ q.sets
    unfolding sets_from skip_to
    sets_is = rw (from_is, lies.outs.read) (sym lies.outs.ends)

    limits : Kept a q body
    limits =
        let w = boxes.parts_here s t c h.tabled k l o e ins outs vs a d r m in
        let f : Some q ≡ Some w.parts = sym whole_parts.whole ∙ ap (layout_of a) eb ∙ w.whole in
        let g : q ≡ w.parts = cc in
        rw (g, eb) (boxes.kept_here s t c h.tabled k l o e ins outs vs a d r m)

    there : Held a q body ru
    there = held lies

    module _ (vals : List ℤ) (g : Values st its.ins old vals) (types : List ℕ) (f : Agree (scope_in types) (scope_read (types_in ins a.ins) (types_in vs a.vars) (patterns_from false a.ins 0 body))) where
      judged : Judged (scope_in types) ru
      judged = settling.judged_in a ins vs body ready types f

      works_out : Workable (scope_in types) a q body
      works_out = workable (scope_in types) a q body ru limits there judged

      small : (i : ℕ) → mag (get_or vals i (pos 0)) ≤ 2 ^ 31
      small i = omega (arith, g.small i)

      pub env_fits : EnvFits vals types
      env_fits = settling.fits_in_lem a ins vs body ready types f vals small

      abbrev en : Env
      en = env_of n its ru (look st its.ins (map reads ru.ins)) old

      abbrev view : Env
      view = view_env (types_in ins a.ins) (types_in vs a.vars) vals ru

      in-view : Alike (env_in vals types) view
      in-view = settling.alike a ins vs body ready types f vals

      in-state : Alike view en
      unfolding shape_at shape_of box_at net_in net_of
      in-state = rw (boxes.ins_types s t c h.tabled k l o e ins outs vs a d, boxes.vars_types s t c h.tabled k l o e ins outs vs a d) (trials.alike n st its old vals g ru suit)

      seen : Judged view.scope ru
      unfolding view_env scope_read
      seen = subst (λ (ps : List Pattern). Judged (record { ins = matched_types (types_in ins a.ins) ps; vars = types_in vs a.vars }) ru) (settling.ins_is a ins vs body ready) ready.judged

      took_is : (deed_in its a from body vals types k st).took ≡ (deed_by ru).took
      unfolding deed_in deed_by read_from
      took_is = ap (λ (j : ℕ). moves its.ins (look st its.ins (map reads (list_read (patterns_from false j 0 body))))) (sym ins_many)
          ∙ ap (λ (ps : List Pattern). moves its.ins (look st its.ins (map reads ps))) (settling.ins_is a ins vs body ready)

      put_is : (deed_in its a from body vals types k st).put ≡ (deed_by ru).put
      unfolding deed_in deed_by sent_from env_in
      put_is = ap (λ (i : ℕ). sent_from vals types its.outs body a.outs i) from_is
          ∙ ap (λ (xs : List Action). moves its.outs (map (result (env_in vals types)) xs)) there.outs
          ∙ ap (moves its.outs) (results_same (env_in vals types) view in-view ru.outs judged.outs ∙ results_same view en in-state ru.outs seen.outs)

      keeps_is : (deed_in its a from body vals types k st).keeps ≡ (deed_by ru).keeps
      unfolding deed_in deed_by new_from env_in
      keeps_is = ap (λ (i : ℕ). vars (new_from vals types old body a.vars i)) sets_is
          ∙ ap (λ (xs : List Action). vars (new_vars (env_in vals types) old xs)) there.sets
          ∙ ap vars (news_same (env_in vals types) view in-view old ru.sets judged.sets ∙ news_same view en in-state old ru.sets seen.sets)

      deed_is : deed_in its a from body vals types k st ≡ deed_at n k r st
      deed_is = (λ i. record { took = took_is i; put = put_is i; keeps = keeps_is i }) ∙ sym deed_rule

      -- what the code asks for, where the model's deed can be done
      pub works : Sound n st k (deed_at n k r st) → Works c n st its k a from body vals types
      unfolding deed_in
      works z =
          let y' : Sound n st k (deed_in its a from body vals types k st) = subst (Sound n st k) (sym deed_is) z in
          record {
            read = record { known = l; whole = ap (λ (j : ℕ). is_read (patterns_from false j 0 body)) (sym ins_many) ∙ ins_read a body q lies; holds = record { has = y'.has } };
            outs = outs_many;
            vars = (ready.few_vars, its_vars ∙ sym (vars_many s t p ts b c h k l));
            sends = subst (Ready (scope_in types) false body a.outs) (sym from_is) works_out.outs;
            sets = subst (Ready (scope_in types) true body a.vars) (sym sets_is) works_out.sets;
            held = g.vars;
            sound = y';
          }

      pub fired_as : (b' : List ℕ) → Became s t p ts b c b' (act k (deed_in its a from body vals types k st) st) → Became s t p ts b c b' (fired n k r st)
      unfolding fired deed_at
      fired_as b' w = subst (λ (z : Deed). Became s t p ts b c b' (act k z st)) deed_is w
