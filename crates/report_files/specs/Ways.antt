-- How a report is written to a path, by what is there.
use Rattle.std.specs.Prelude.{◌≡◌, Bool, true, false, if◌then◌else◌, Result, Ok, Err}
use Rattle.report_files.specs.declared.content.Content.{Content}
use Rattle.report_files.specs.declared.content.Content.TheVariants as content
use Rattle.report_files.specs.declared.way.Found.{Found}
use Rattle.report_files.specs.declared.way.Kind.{Kind}
use Rattle.report_files.specs.declared.way.Kind.TheVariants as kind
use Rattle.report_files.specs.declared.way.Way.{Way}
use Rattle.report_files.specs.declared.way.Way.TheVariants.{Replace, Append, Print}
use Rattle.report_files.specs.declared.way.Refusal.{Refusal}
use Rattle.report_files.specs.declared.way.Refusal.TheVariants as refusal

-- where nothing is lost: a new file, unless the other report is written there
abbrev pub new_way : Bool → Result Way Refusal
new_way shared = if shared then Err refusal.Shared else Ok Replace

-- a file is replaced if it is empty or a whole report
abbrev pub file_way : Content → Bool → Result Way Refusal
file_way content.Nothing shared = new_way shared
file_way content.Report shared = new_way shared
file_way content.Part shared = Err refusal.Other
file_way content.Other shared = Err refusal.Other

-- the program's own output is never replaced: the report is a part of it
abbrev pub way_at : Kind → Bool → Bool → Bool → Result Way Refusal
way_at kind.Nothing shared output errors = new_way shared
way_at (kind.File content) shared output errors =
    if output then Ok Print else (if errors then Err refusal.Errors else file_way content shared)
way_at kind.Folder shared output errors = Err refusal.Folder
way_at kind.Device shared output errors = Ok Append

-- what the test reads is never written to
abbrev pub way_of : Found → Result Way Refusal
way_of found =
    if found.is_input then Err refusal.Input
    else way_at found.kind found.is_shared found.is_output found.is_errors

-- what a test left while it wrote a report: a file that is empty, a report, or the beginning of one
abbrev pub IsPartOfReport : Kind → Type 0
IsPartOfReport kind.Nothing = ⊥
IsPartOfReport (kind.File content.Nothing) = Unit {0}
IsPartOfReport (kind.File content.Report) = Unit {0}
IsPartOfReport (kind.File content.Part) = Unit {0}
IsPartOfReport (kind.File content.Other) = ⊥
IsPartOfReport kind.Folder = ⊥
IsPartOfReport kind.Device = ⊥

-- such a file, which nobody else needs
pub record IsLeftover (found : Found) : Type 0 where
  pub unread : found.is_input ≡ false
  pub alone : found.is_shared ≡ false
  pub unprinted : found.is_output ≡ false
  pub unused : found.is_errors ≡ false
  pub part : IsPartOfReport found.kind
