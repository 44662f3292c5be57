-- Reasons for a text whose program workers run.
use Rattle.std.proofs.Common.{◌≡◌, ◌⊎◌, ℕ, List, Option, Some, None, Ok, inl, inr, subst}
use Rattle.std.specs.Prelude.{IfSome}
use Rattle.cell_registry.specs.declared.limits.Limits.{Limits}
use Rattle.effect_term.specs.declared.term.Term.{Term}
use Rattle.effect_term.specs.Programs.{IsProgram}
use Rattle.reasons.specs.Explained.{TellsReasons}
use Rattle.reasons.specs.Reasons.{IsReplayReasons}
use Rattle.outcome_trace.specs.Answers.{IsRefusalAnswer, refuses, runs}
use Rattle.outcome_trace.specs.ReplayAnswers.{IsReplayAnswer, IsRunAnswer}
use Rattle.term_parse.specs.Atoms.{atoms_of}
use Rattle.term_parse.specs.Reading.{reading}
use Rattle.text_io.specs.declared.status.Status.{Status}
use Rattle.text_io.specs.Devices.{Writer}
use Rattle.text_io.specs.Telling.{Told}
use Rattle.command_line.specs.RunReasons.{AreRunReasons, no_reasons_line, replayed, untold}

-- an answer to the program is an answer to its text
pub text_replayed : {V : Type 0} (items : V → List ℕ) (text answer : List ℕ) (status : Status) (limits : Limits) (t : Term) (found : Option V) →
    reading text ≡ Ok (atoms_of t) → IsProgram t → IfSome found (λ v. IsRunAnswer t (items v) limits answer status) →
    IfSome found (λ v. IsReplayAnswer (items v) limits text answer status)
text_replayed items text answer status limits t (Some v) e p h = runs text answer status t e p h
text_replayed items text answer status limits t None e p h = tt

-- a refusal is the answer of a replay under any entries
pub refusal_replayed : {V : Type 0} (items : V → List ℕ) (text answer : List ℕ) (status : Status) (limits : Limits) (found : Option V) →
    IsRefusalAnswer text answer status → IfSome found (λ v. IsReplayAnswer (items v) limits text answer status)
refusal_replayed items text answer status limits (Some v) h = refuses text answer status h
refusal_replayed items text answer status limits None h = tt

-- a replay under the same entries, with the same answer
pub same_replayed : (limits : Limits) (text schedule longer found answer : List ℕ) (was is : Status) → IsReplayAnswer schedule limits text found was →
    schedule ≡ longer → found ≡ answer → was ≡ is → IsReplayAnswer longer limits text answer is
same_replayed limits text schedule longer found answer was is h entries line status =
    subst (λ (x : Status). IsReplayAnswer longer limits text answer x) status
    (subst (λ (xs : List ℕ). IsReplayAnswer longer limits text xs was) line
    (subst (λ (es : List ℕ). IsReplayAnswer es limits text found was) entries h))

-- the reasons of a replay with the answer of the run are those of the run
pub reasons_told : (limits : Limits) (text answer entries : List ℕ) (status : Status) (before after : Writer) →
    IsReplayAnswer entries limits text answer status → TellsReasons (IsReplayReasons entries limits text) before after →
    TellsReasons (AreRunReasons limits text answer status) before after
reasons_told limits text answer entries status before after same (inl told) = inl (told.0, replayed entries told.0 same told.1, told.2)
reasons_told limits text answer entries status before after same (inr nothing) = inr nothing

-- if there is no such replay, the line for that is written, or nothing
pub none_told : (limits : Limits) (text answer : List ℕ) (status : Status) (before after : Writer) →
    Told no_reasons_line before after ⊎ (after ≡ before) → TellsReasons (AreRunReasons limits text answer status) before after
none_told limits text answer status before after (inl told) = inl (no_reasons_line, untold, told)
none_told limits text answer status before after (inr nothing) = inr nothing
