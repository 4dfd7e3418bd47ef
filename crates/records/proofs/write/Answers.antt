-- What `write` promises: the two refusals leave the room, and the layout is copied over all of it.
use Rattle.std.proofs.Common.{sym, ◌∙◌}
use Rattle.records.proofs.Answering.{no_room, no_values, write_done}
use Rattle.records.proofs.write.Goals as goal

pub returns-then-room-ne-SIZE : goal.returns-then-room-ne-SIZE
returns-then-room-ne-SIZE c = no_room _ _ c.if-room-ne-SIZE.true

pub returns-then-not-values_hold : goal.returns-then-not-values_hold
returns-then-not-values_hold c = no_values _ _ c.if-room-ne-SIZE.false (sym c.values_hold.ensures ∙ c.if-not-values_hold.true)

pub returns : goal.returns
returns c =
    let laid = c.copy_from_slice.ensures.after ∙ c.from.ensures in
    rw (c.next_serial.ensures, laid) (write_done _ _ c.if-room-ne-SIZE.false (sym c.values_hold.ensures ∙ c.if-not-values_hold.false))
