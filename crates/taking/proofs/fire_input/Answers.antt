use Rattle.taking.proofs.Firing.{input_at_lem, taken_here, token_asked, input_puts, input_counts, input_done}
use Rattle.taking.proofs.fire_input.Goals as goal

pub input_wire-w-requires : goal.input_wire-w-requires
input_wire-w-requires c = let h = c.requires in record { boxes_le_k = h.input_ready.least; k_bound = h.input_ready.known }

pub input_token-t-requires : goal.input_token-t-requires
input_token-t-requires c =
    let q = c.requires in
    let o = input_at_lem _ _ _ _ _ _ q.standing _ _ _ q.input_ready.least q.input_ready.known c.input_wire-w.ensures c.from.ensures in
    let d = taken_here _ _ _ _ _ _ q.standing _ _ _ q.input_ready o _ _ c.own_part.ensures c.two_at-taken.ensures.0 in
    let need = token_asked _ _ _ _ _ _ q.standing _ _ _ q.input_ready o _ c.args.feed.now.noted _ d in
    record { in_file = need.0; k_in_bounds = need.1 }

pub put-requires : goal.put-requires
put-requires c =
    let q = c.requires in
    let o = input_at_lem _ _ _ _ _ _ q.standing _ _ _ q.input_ready.least q.input_ready.known c.input_wire-w.ensures c.from.ensures in
    let d = taken_here _ _ _ _ _ _ q.standing _ _ _ q.input_ready o _ _ c.own_part.ensures c.two_at-taken.ensures.0 in
    record { standing = q.standing; can_put = input_puts _ _ _ _ _ _ q.standing _ _ _ q.input_ready o _ c.args.feed.now.noted _ d _ c.input_token-t.ensures.0 }

pub count_taken-requires : goal.count_taken-requires
count_taken-requires c =
    let q = c.requires in
    let o = input_at_lem _ _ _ _ _ _ q.standing _ _ _ q.input_ready.least q.input_ready.known c.input_wire-w.ensures c.from.ensures in
    let d = taken_here _ _ _ _ _ _ q.standing _ _ _ q.input_ready o _ _ c.own_part.ensures c.two_at-taken.ensures.0 in
    record { standing = c.put.ensures.stands; can_count = input_counts _ _ _ _ _ _ q.standing _ _ _ q.input_ready o _ c.args.feed.now.noted _ d _ c.input_token-t.ensures.0 _ c.put.ensures }

pub returns : goal.returns
returns c =
    let q = c.requires in
    let o = input_at_lem _ _ _ _ _ _ q.standing _ _ _ q.input_ready.least q.input_ready.known c.input_wire-w.ensures c.from.ensures in
    let d = taken_here _ _ _ _ _ _ q.standing _ _ _ q.input_ready o _ _ c.own_part.ensures c.two_at-taken.ensures.0 in
    input_done _ _ _ _ _ _ q.standing _ _ _ q.input_ready o _ c.args.feed.now.noted _ d _ c.input_token-t.ensures.0 _ c.put.ensures _ c.count_taken.ensures
