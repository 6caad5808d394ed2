use Rattle.firing.specs.Firing.{sets_from}
use Rattle.firing.proofs.Doing.{places, vars_now, keeps, done}
use Rattle.firing.proofs.apply.Goals as goal

pub put_sent-next-requires : goal.put_sent-next-requires
put_sent-next-requires c =
    let x = c.requires.can_act in
    let e = c.take_read.ensures in
    record { standing = e.stands; k_lt_boxes = x.read.known; outs_value = x.outs; ready = x.sends; places = places _ _ _ _ _ _ c.requires.standing _ _ _ _ _ _ x _ e }

pub keep_new-requires : goal.keep_new-requires
unfolding sets_from
keep_new-requires c =
    let h = c.requires.standing in
    let x = c.requires.can_act in
    let e = c.take_read.ensures in
    let f = c.put_sent-next.ensures.1 in
    record {
      standing = f.stands;
      k_lt_boxes = x.read.known;
      vars_bound = vars_now _ _ _ _ _ _ h _ _ _ _ _ _ x _ e _ f;
      ready = rw c.put_sent-next.ensures.0 x.sets;
      keeps = rw c.put_sent-next.ensures.0 (keeps _ _ _ _ _ _ h _ _ _ _ _ _ x _ e _ f);
    }

pub returns : goal.returns
unfolding sets_from
returns c =
    let sent = c.put_sent-next.ensures in
    done _ _ _ _ _ _ c.requires.standing _ _ _ _ _ _ c.requires.can_act _ c.take_read.ensures _ sent.1 _ (rw sent.0 at c.keep_new.ensures)
