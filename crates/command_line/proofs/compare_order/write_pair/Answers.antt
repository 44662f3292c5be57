use Rattle.std.proofs.Common.{refl}
use Rattle.command_line.specs.Comparings.{no_memory}
use Rattle.command_line.proofs.CompareLemmas.{pair_answered, pair_kept_back}
use Rattle.command_line.proofs.compare_order.write_pair.Goals as goal

pub returns-in_default : goal.returns-in_default
returns-in_default g c = no_memory refl record { told = c.tell_fault.ensures.told; status_is = c.tell_fault.ensures.status }

pub returns-in-Ok-write_text : goal.returns-in-Ok-write_text
returns-in-Ok-write_text g c =
    let told = c.write_text.ensures in
    pair_answered c.args.order.now _ _ _ _ c.in-Ok.answer.text.items c.in-Ok.answer.status c.in-Ok.ensures c.write_text.result
    _ c.as_slice.ensures.value told.text told.only told.failed _ _ _ c.in-Ok-write_text.is c.note_pair.ensures

pub returns : goal.returns
returns g c =
    let told = c.write_text.ensures in
    pair_kept_back c.args.order.now _ _ _ _ c.in-Ok.answer.text.items c.in-Ok.answer.status c.in-Ok.ensures c.write_text.result
    _ c.as_slice.ensures.value told.text told.only told.failed _ _ c.in-Err.fault _ c.in-Err.is
    c.tell_fault-in-Err.ensures.told c.tell_fault-in-Err.ensures.status
