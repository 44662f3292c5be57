use Rattle.std.proofs.Common.{refl}
use Rattle.command_line.specs.Comparings.{second_fails, second_read}
use Rattle.command_line.proofs.compare_order.compare_second.Goals as goal

pub returns-in-Ok : goal.returns-in-Ok
returns-in-Ok g c = second_read c.in-Ok.text.items c.in-Ok.ensures.text (rw (← c.as_slice.ensures.value) c.write_pair.ensures)

pub returns-in-Err : goal.returns-in-Err
returns-in-Err g c = second_fails record {
  fault = c.in-Err.fault;
  fails = c.in-Err.ensures.fault;
  unanswered = refl;
  told = c.tell_side.ensures.told;
  status_is = c.tell_side.ensures.status;
}
