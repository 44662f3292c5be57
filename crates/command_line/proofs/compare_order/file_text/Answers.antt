use Rattle.std.proofs.lemmas.Result.{IfOk-weaker}
use Rattle.command_line.proofs.CompareLemmas.{file_fault, file_read}
use Rattle.command_line.proofs.compare_order.file_text.Goals as goal

pub returns-in-Ok-clause-text : goal.returns-in-Ok-clause-text
returns-in-Ok-clause-text g c = IfOk-weaker c.read_text.result _ _
    (λ text read. file_read _ _ _
    record { healthy = c.new-input.ensures.healthy; unended = c.new-input.ensures.open; none = c.new-input.ensures.unread } read)
    c.read_text.ensures.read

pub returns-in-Ok-clause-fault : goal.returns-in-Ok-clause-fault
returns-in-Ok-clause-fault g c = file_fault _ _ c.read_text.result
    record { healthy = c.new-input.ensures.healthy; unended = c.new-input.ensures.open; none = c.new-input.ensures.unread }
    c.read_text.ensures.failed c.read_text.ensures.turns c.read_text.ensures.nothing_written
