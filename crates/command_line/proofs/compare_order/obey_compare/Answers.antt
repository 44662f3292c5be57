use Rattle.std.proofs.Common.{refl}
use Rattle.command_line.specs.Comparings.{first_fails, first_read}
use Rattle.command_line.proofs.compare_order.obey_compare.Goals as goal

pub returns-in-Ok : goal.returns-in-Ok
returns-in-Ok g c = first_read c.in-Ok.text.items c.in-Ok.ensures.text (rw (← c.as_slice.ensures.value) c.compare_second.ensures)

pub returns-in-Err : goal.returns-in-Err
returns-in-Err g c = first_fails record {
  fault = c.in-Err.fault;
  fails = c.in-Err.ensures.fault;
  unanswered = refl;
  told = c.tell_side.ensures.told;
  status_is = c.tell_side.ensures.status;
}
