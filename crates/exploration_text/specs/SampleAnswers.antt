-- The answer to a text whose program's schedules are sampled.
use Rattle.std.specs.Prelude.{◌≡◌, ℕ, false, List, Ok}
use Rattle.std.specs.List.{All}
use Rattle.cell_registry.specs.declared.limits.Limits.{Limits}
use Rattle.derived_ops.specs.Expansion.{code_of}
use Rattle.derived_ops.specs.Reading.{source_of}
use Rattle.derived_ops.specs.Tree.{Tree}
use Rattle.effect_term.specs.declared.term.Term.{Term}
use Rattle.effect_term.specs.Programs.{IsProgram}
use Rattle.term_parse.specs.Atoms.{atoms_of}
use Rattle.term_parse.specs.Reading.{reading}
use Rattle.text_io.specs.declared.status.Status.{Status}
use Rattle.outcome_trace.specs.Answers.{IsRefusalAnswer}
use Rattle.scheduled_core.specs.Core.{core, reported}
use Rattle.sampled_schedules.specs.declared.comings.Sample.{Sample}
use Rattle.sampled_schedules.specs.Sampled.{IsSampleOf, StaysSo}
use Rattle.exploration_text.specs.declared.wants.Want.{Want}
use Rattle.exploration_text.specs.Missing.{missing_of_sample}
use Rattle.exploration_text.specs.SampleText.{IsSampleText, sample_status}

-- A sample of code under these limits: each answer is what its schedule leads to, no further entries change an answer
-- that isn't marked as cut short, and the answers are those of `times` schedules that were drawn.
pub record IsSampleAt (code : Tree) (limits : Limits) (times entries : ℕ) (s : Sample) : Type 0 where
  pub each : All (λ c. reported (core code limits c.answer.schedule) ≡ c.answer.end) s.comings
  pub uncut : All (λ c. c.cut ≡ false → StaysSo code limits c.answer.end) s.comings
  pub tally : IsSampleOf code limits entries times s.comings
  pub schedules : s.schedules ≡ times

-- the text and the status of a sample of the program's schedules
pub record IsSampledAnswer (t : Term) (limits : Limits) (times entries : ℕ) (wants : List Want) (answer : List ℕ)
    (status : Status) : Type 0
  where
    pub sample : Sample
    pub sampled : IsSampleAt (code_of (source_of t)) limits times entries sample
    pub text_is : IsSampleText wants sample answer
    pub status_is : status ≡ sample_status wants sample

-- the text and the status of a sample, and the lines of the wanted outcomes that no answer has
pub record IsNotedSample (t : Term) (limits : Limits) (times entries : ℕ) (wants : List Want) (note answer : List ℕ)
    (status : Status) : Type 0
  where
    pub sampled : IsSampledAnswer t limits times entries wants answer status
    pub note_is : note ≡ missing_of_sample wants sampled.sample

-- the answer of `sample` under limits, with its status: a refusal, or a sample of the schedules of the program that the
-- text spells
pub data IsSampleAnswer (limits : Limits) (times entries : ℕ) (wants : List Want) : List ℕ → List ℕ → Status → Type 0
  where
    unsampled : (text answer : List ℕ) (status : Status) → IsRefusalAnswer text answer status →
        IsSampleAnswer limits times entries wants text answer status
    samples : (text answer : List ℕ) (status : Status) (t : Term) → reading text ≡ Ok (atoms_of t) → IsProgram t →
        IsSampledAnswer t limits times entries wants answer status →
        IsSampleAnswer limits times entries wants text answer status
