use Rattle.std.proofs.Common.{inl, inr, refl}
use Rattle.command_line.proofs.judge_order.obey_judge.Goals as goal

pub returns-in-Ok : goal.returns-in-Ok
returns-in-Ok g c = inl record {
  asked = c.in-Ok.asked.items;
  are = rw (← c.as_slice.ensures.value, ← c.as_slice-2.ensures.value, ← c.as_slice-3.ensures.value) c.in-Ok.ensures.read;
  made = c.in-Ok.ensures.made;
  judged = rw (← c.claim_form-form.ensures, ← c.as_slice-in-Ok.ensures.value) c.obey_asked.ensures;
}

pub returns-in-Err : goal.returns-in-Err
returns-in-Err g c = inr record { unread = refl; unanswered = refl; told = c.refuse_claim.ensures }
