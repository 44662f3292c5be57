use Rattle.std.{proofs.Common.length, specs.Prelude.string_bytes}
use Rattle.text_io.specs.Reading.{HasWritten}
use Rattle.text_io.proofs.schedule_items.schedule_text.Given as goal

-- the items so far are written, each with a space behind it, and the rest isn't
abbrev pub invariant-runs : goal.invariant-runs
invariant-runs l = HasWritten (string_bytes l.text) l.rest l.entries

abbrev pub decreases-runs : goal.decreases-runs
decreases-runs l = length l.rest
