use Rattle.std.proofs.Common.{inl}
use Rattle.command_line.proofs.run_reasons.tell_none.Goals as goal

pub returns-then-unended-clause-told : goal.returns-then-unended-clause-told
returns-then-unended-clause-told g c =
    let told = c.write_text.ensures in
    inl record { result = c.write_text.result; out = told.text; only = told.only; failed = told.failed }
