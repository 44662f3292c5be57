-- What is read from one device, and the answer that is written to another.
use Rattle.std.specs.Prelude.{◌≡◌, ◌+◌, ◌<◌, ◌≤◌, ℕ, true, List, length, Result, Ok, Err, IfOk, IsErrOf}
use Rattle.std.specs.Io.KnownBytes.{Consumes, IsAtEnd}
use Rattle.text_io.specs.declared.fault.TextFault.{TextFault}
use Rattle.text_io.specs.declared.fault.TextFault.TheVariants.{NoMemory, ReadFault, WriteFault, TurnBound}
use Rattle.text_io.specs.declared.status.Status.{Status}
use Rattle.text_io.specs.Devices.{Reader, Writer}
use Rattle.text_io.specs.Text.{GoesOut, is_read_fault, is_write_fault}

-- the text was read, to the end of the input or to 65,537 bytes
pub record IsRead (before after : Reader) (text : List ℕ) : Type 0 where
  pub taken : Consumes before.remaining after.remaining text
  pub bound : length text ≤ 65537
  pub ended : length text < 65537 → IsAtEnd after.remaining × (after.ended ≡ true)

-- 65,537 reads were made, none of them found the end of the input, and they gave fewer bytes than that
pub record IsOutOfReads (before after : Reader) : Type 0 where
  pub text : List ℕ
  pub taken : Consumes before.remaining after.remaining text
  pub short : length text < 65537
  pub unended : after.ended ≡ before.ended
  pub reads : after.reads ≡ before.reads + 65537

-- A text was read, and an answer to it with this status is written, as far as the result says. If all of it is written,
-- the result is the status.
pub record Exchange (Answers : List ℕ → List ℕ → Status → Type 0) (before after : Reader) (old new : Writer)
    (result : Result Status TextFault) : Type 0 where
  pub text : List ℕ
  pub answer : List ℕ
  pub status : Status
  pub read : IsRead before after text
  pub answers : Answers text answer status
  pub out : GoesOut old.contents new.contents answer result
  pub told : IfOk result (λ s. s ≡ status)

-- an exchange, if an answer began to be written; otherwise nothing was written
abbrev pub Exchanges : (List ℕ → List ℕ → Status → Type 0) → Reader → Reader → Writer → Writer →
    Result Status TextFault → Type 0
Exchanges Answers before after old new (Ok s) = Exchange Answers before after old new (Ok s)
Exchanges Answers before after old new (Err NoMemory) = new ≡ old
Exchanges Answers before after old new (Err ReadFault) = new ≡ old
Exchanges Answers before after old new (Err (WriteFault n)) = Exchange Answers before after old new (Err (WriteFault n))
Exchanges Answers before after old new (Err TurnBound) = new ≡ old

-- Either the answer to the text is written, and its status is the result, or there is a fault: the reader's exactly if
-- a read has failed, the writer's exactly if a write has failed, and that of too many reads only if they were used up.
pub record IsAnswered (Answers : List ℕ → List ℕ → Status → Type 0) (before after : Reader) (old new : Writer)
    (result : Result Status TextFault) : Type 0 where
  pub exchange : Exchanges Answers before after old new result
  pub reader : after.failed ≡ is_read_fault result
  pub writer : new.failed ≡ is_write_fault result
  pub turns : IsErrOf result TurnBound → IsOutOfReads before after
