-- The effect of the words: the request that they make is obeyed, or why they make none is written.
use Rattle.std.specs.Prelude.{◌≡◌, ◌≢◌, ◌⊎◌, ℕ, true, List, [], Some, None}
use Rattle.clap.specs.Words.{IsAmong, Text, fault_of, subcommand_of, takes}
use Rattle.clap.specs.declared.error.kind.ErrorKind.{ErrorKind}
use Rattle.text_io.specs.declared.status.Status.{Status}
use Rattle.text_io.specs.Devices.{Devices, Writer, devices}
use Rattle.command_words.specs.declared.requests.Request.{Request}
use Rattle.command_words.specs.declared.requests.Request.TheVariants.{Check, Show, Replay, Explore, Run, Sample}
use Rattle.command_words.specs.declared.requests.Request.TheVariants.{Compare, Decide, Judge, Say, Seek, Test, Terms}
use Rattle.command_words.specs.declared.requests.Request.TheVariants.{Unmark}
use Rattle.command_line.specs.Checks.{ObeysCheck, ObeysShow}
use Rattle.command_line.specs.Comparings.{ObeysCompare}
use Rattle.command_line.specs.Decidings.{ObeysDecide}
use Rattle.command_line.specs.Explorings.{ObeysExplore}
use Rattle.command_line.specs.Judgings.{ObeysJudge}
use Rattle.command_line.specs.ModelNotes.{NotesModel}
use Rattle.command_line.specs.Replays.{ObeysReplay}
use Rattle.command_line.specs.Runs.{ObeysRun}
use Rattle.command_line.specs.Samplings.{ObeysSample}
use Rattle.command_line.specs.Sayings.{ObeysSay}
use Rattle.command_line.specs.Seekings.{ObeysSeek}
use Rattle.command_line.specs.Tests.{ObeysTerms, ObeysTest}
use Rattle.command_line.specs.Unmarkings.{ObeysUnmark}
use Rattle.command_words.specs.Telling.{LacksMemory, TellsKind, TellsWrong}
use Rattle.command_words.specs.Words.{program}
use Rattle.command_words.specs.Requests.{GivesRequest}

-- the effect of a request
abbrev pub ObeysRequest : Request → Devices → Devices → Status → Type 0
ObeysRequest (Check checking) before after status = ObeysCheck checking before after status
ObeysRequest (Show showing) before after status = ObeysShow showing before after status
ObeysRequest (Replay replay) before after status = ObeysReplay replay before after status
ObeysRequest (Explore exploring) before after status = ObeysExplore exploring before after status
ObeysRequest (Seek seeking) before after status = ObeysSeek seeking before after status
ObeysRequest (Decide deciding) before after status = ObeysDecide deciding before after status
ObeysRequest (Judge judging) before after status = ObeysJudge judging before after status
ObeysRequest (Unmark unmarking) before after status = ObeysUnmark unmarking before after status
ObeysRequest (Say saying) before after status = ObeysSay saying before after status
ObeysRequest (Run running) before after status = ObeysRun running before after status
ObeysRequest (Sample sampling) before after status = ObeysSample sampling before after status
ObeysRequest (Compare comparing) before after status = (after.input ≡ before.input) ×
    ObeysCompare comparing.order before.out after.out before.err after.err status
ObeysRequest (Test testing) before after status = ObeysTest before after status
ObeysRequest (Terms translating) before after status = ObeysTerms before after status

-- The words are right, and the request that they make is obeyed.
pub record RunsRequest (words : List Text) (before after : Devices) (status : Status) : Type 0 where
  pub request : Request
  pub right : fault_of program words ≡ []
  pub gives : GivesRequest (subcommand_of program words) (Some request)
  pub obeys : ObeysRequest request before after status

-- The words make no request. That is written, or that memory ran out.
pub record HasNoRequest (words : List Text) (before after : Devices) (status : Status) : Type 0 where
  pub gives : GivesRequest (subcommand_of program words) None
  pub unread : after.input ≡ before.input
  pub unanswered : after.out ≡ before.out
  pub told : TellsWrong before.err after.err status ⊎ LacksMemory before.err after.err status

-- The words aren't accepted, because of the first fault in them, or the first request for help or the version.
pub record IsRefused (words : List Text) (before after : Devices) (status : Status) : Type 0 where
  pub kind : ErrorKind
  pub among : IsAmong kind (fault_of program words)
  pub untaken : takes program words ≢ true
  pub unread : after.input ≡ before.input
  pub told : TellsKind kind before.out after.out before.err after.err status

-- Memory ran out for the words.
pub record IsOutOfMemory (before after : Devices) (status : Status) : Type 0 where
  pub unread : after.input ≡ before.input
  pub unanswered : after.out ≡ before.out
  pub lacks : LacksMemory before.err after.err status

-- The effect of the words. Only a request reads the input.
pub data Runs (words : List Text) (before after : Devices) (status : Status) : Type 0 where
  request : RunsRequest words before after status → Runs words before after status
  no_request : HasNoRequest words before after status → Runs words before after status
  refused : IsRefused words before after status → Runs words before after status
  no_words : IsOutOfMemory before after status → Runs words before after status

-- The effect of the words, and then of the note on a text that was refused, `kept` being what was read of the input.
pub record RunsNoted (words : List Text) (kept : List ℕ) (before after : Devices) (status : Status) : Type 0 where
  pub told : Writer
  pub runs : Runs words before (devices after.input after.out told) status
  pub noted : NotesModel status kept told after.err
