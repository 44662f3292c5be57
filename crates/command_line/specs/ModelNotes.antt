-- The notes on refused texts that begin as model files.
use Rattle.std.specs.Prelude.{◌≡◌, ◌≢◌, ℕ, true, false, List, codes}
use Rattle.file_kinds.specs.Beginnings.{IsModelFile}
use Rattle.text_io.specs.declared.status.Status.{Status}
use Rattle.text_io.specs.declared.status.Status.TheVariants.{Refused}
use Rattle.text_io.specs.Devices.{Writer}
use Rattle.text_io.specs.Telling.{Told}

abbrev pub model_note : List ℕ
model_note = codes "this looks like a model file: `fiber_cli test FILE` tests it, and `fiber_cli terms FILE` prints its terms\n"

-- The note is written if the text was refused and begins as a model file, unless a write has failed before. Otherwise
-- nothing is written.
pub record NotesModel (status : Status) (text : List ℕ) (before after : Writer) : Type 0 where
  pub noted : status ≡ Refused → IsModelFile text → before.failed ≡ false → Told model_note before after
  pub answered : status ≢ Refused → after ≡ before
  pub other : (IsModelFile text → ⊥) → after ≡ before
  pub silent : before.failed ≡ true → after ≡ before
