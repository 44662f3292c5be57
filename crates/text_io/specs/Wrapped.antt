-- What a device that wraps a reader or a writer keeps, and what it makes of their results.
use Rattle.std.specs.Prelude.{◌≡◌, ◌≢◌, ℕ, Bool, List, Result, Ok, Err}
use Rattle.std.specs.IoError.{error_kind}
use Rattle.std.specs.declared.io.Error.{Error}
use Rattle.std.specs.declared.io.ErrorKind.TheVariants as kind
use Rattle.text_io.specs.declared.device.ReadError.{ReadError}
use Rattle.text_io.specs.declared.device.ReadError.TheVariants as read
use Rattle.text_io.specs.declared.device.WriteFailed.{WriteFailed}
use Rattle.text_io.specs.declared.wrapped.FromRead.{FromRead}
use Rattle.text_io.specs.declared.wrapped.ToWrite.{ToWrite}

-- the reader in its present state
abbrev pub reader_of : {R : Type 0} → FromRead R → R
reader_of d = d.inner

-- whether one of its reads has failed
abbrev pub read_has_failed : {R : Type 0} → FromRead R → Bool
read_has_failed d = d.failed

-- whether one of its reads has found the end of the input
abbrev pub has_found_end : {R : Type 0} → FromRead R → Bool
has_found_end d = d.ended

-- the number of reads
abbrev pub reads_of : {R : Type 0} → FromRead R → ℕ
reads_of d = d.reads

-- the writer in its present state
abbrev pub writer_of : {W : Type 0} → ToWrite W → W
writer_of d = d.inner

-- whether one of its writes has failed
abbrev pub write_has_failed : {W : Type 0} → ToWrite W → Bool
write_has_failed d = d.failed

-- a reader's result as a device returns it: its count; for an error, that the reader was interrupted, or that it failed
abbrev pub TellsRead : Result ℕ Error → Result ℕ ReadError → Type 0
TellsRead (Ok n) told = told ≡ Ok n
TellsRead (Err e) (Ok n) = ⊥
TellsRead (Err e) (Err read.Interrupted) = error_kind e ≡ kind.Interrupted
TellsRead (Err e) (Err read.Failed) = error_kind e ≢ kind.Interrupted

-- a writer's result as a device returns it: its count, or that the writer failed
abbrev pub TellsWrite : Result ℕ Error → Result ℕ WriteFailed → Type 0
TellsWrite (Ok n) told = told ≡ Ok n
TellsWrite (Err e) (Ok n) = ⊥
TellsWrite (Err e) (Err f) = Unit {0}

-- the device's result is that of a result of the reader, with the buffer as it is now
abbrev pub IsToldRead : (Result ℕ Error → List ℕ → Type 0) → List ℕ → Result ℕ ReadError → Type 0
IsToldRead Answers buffer told = (answer : Result ℕ Error) × Answers answer buffer × TellsRead answer told

-- the device's result is that of a result of the writer for these bytes
abbrev pub IsToldWrite : (Result ℕ Error → List ℕ → Type 0) → List ℕ → Result ℕ WriteFailed → Type 0
IsToldWrite Answers bytes told = (answer : Result ℕ Error) × Answers answer bytes × TellsWrite answer told
