-- Digests of reports, by which a search files its answers. Two reports mostly have different digests.
use Rattle.std.specs.Prelude.{ℕ, ℤ, ◌+◌, ◌*◌, ◌%◌, ◌^◌, Option, Some, None}
use Rattle.std.specs.List.{fold}
use Rattle.std.specs.Int.{cast_unsigned, w64}
use Rattle.effect_term.specs.declared.reply.Outcome.{Outcome}
use Rattle.effect_term.specs.declared.reply.Outcome.TheVariants as ended
use Rattle.fiber_frames.specs.declared.mark.Mark.{Mark}
use Rattle.fiber_frames.specs.declared.mark.Mark.TheVariants as mark
use Rattle.scheduled_core.specs.declared.report.FiberReport.{FiberReport}
use Rattle.scheduled_core.specs.declared.report.Report.{Report}

-- a digest, extended by a number
unfoldable pub mixed : (digest number : ℕ) → ℕ
mixed d n = (d * 1099511628211 % 2 ^ 64 + n) % 2 ^ 64

-- a digest, extended by a kind and a number
abbrev pub with_pair : (digest kind number : ℕ) → ℕ
with_pair d kind n = mixed (mixed d kind) n

-- the word of a value
abbrev pub word_of : ℤ → ℕ
word_of v = cast_unsigned w64 v

-- a digest, extended by the outcome of a fiber that has ended
abbrev pub with_end : ℕ → Outcome → ℕ
with_end d (ended.Succeeded v) = with_pair d 2 (word_of v)
with_end d (ended.Errored c) = with_pair d 3 (word_of c)
with_end d ended.Canceled = with_pair d 4 0

-- a digest, extended by the outcome of a fiber, if it has ended
abbrev pub with_outcome : ℕ → Option Outcome → ℕ
with_outcome d None = with_pair d 1 0
with_outcome d (Some o) = with_end d o

-- a digest, extended by a mark
abbrev pub with_mark : ℕ → Mark → ℕ
with_mark d (mark.Say v) = with_pair d 5 (word_of v)
with_mark d (mark.Enter n) = with_pair d 6 n
with_mark d (mark.Leave n) = with_pair d 7 n
with_mark d (mark.PollIn n) = with_pair d 8 n
with_mark d (mark.PollOut n) = with_pair d 9 n
with_mark d mark.Cut = with_pair d 10 0
with_mark d (mark.Acquired n) = with_pair d 11 n
with_mark d (mark.Releasing n) = with_pair d 12 n
with_mark d (mark.Released n) = with_pair d 13 n
with_mark d (mark.Dropped c) = with_pair d 14 (word_of c)

-- a digest, extended by the report of a fiber
abbrev pub with_report : ℕ → FiberReport → ℕ
with_report d r = fold with_mark (with_outcome d r.outcome) r.marks

-- the digest of a report
abbrev pub report_digest : Report → ℕ
report_digest r = fold with_report 1 r.fibers
