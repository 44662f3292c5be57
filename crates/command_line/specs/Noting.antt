-- The effect of an order to answer a program with a note.
use Rattle.std.specs.Prelude.{◌≡◌, ℕ, Bool, true, false, List, [], ◌∷◌, Result, Ok, Err}
use Rattle.effect_term.specs.declared.term.Term.{Term}
use Rattle.exploration_text.specs.Noting.{IsNotedAnswer}
use Rattle.reasons.specs.Explained.{TellsReasons}
use Rattle.text_io.specs.declared.fault.TextFault.{TextFault}
use Rattle.text_io.specs.declared.status.Status.{Status}
use Rattle.text_io.specs.Devices.{Devices, Reader, Writer}
use Rattle.text_io.specs.Exchange.{IsAnswered, IsRead}
use Rattle.text_io.specs.FaultLines.{fault_line}
use Rattle.text_io.specs.Telling.{Told, status_of}

-- the note is written; without a note, the reasons of the text that was read, if they are asked for; with a fault, only
-- its line
abbrev pub TellsBeside : (List ℕ → List ℕ → Type 0) → (explain : Bool) → (note : List ℕ) → Result Status TextFault →
    Reader → Reader → Writer → Writer → Type 0
TellsBeside Tells explain (c ∷ note) (Ok s) input left before after = Told (c ∷ note) before after
TellsBeside Tells true [] (Ok s) input left before after =
    (text : List ℕ) × IsRead input left text × TellsReasons (Tells text) before after
TellsBeside Tells false [] (Ok s) input left before after = after ≡ before
TellsBeside Tells explain note (Err fault) input left before after = Told (fault_line fault) before after

-- The text is answered, and what belongs beside the answer goes to `err`. If there is a fault, only its line goes to
-- `err`.
pub record ObeysNoted (Refuses : List ℕ → List ℕ → Status → Type 0) (Notes : List ℕ → Term → List ℕ → Status → Type 0)
    (Tells : List ℕ → List ℕ → Type 0) (explain : Bool) (before after : Devices) (status : Status) : Type 0
  where
    pub note : List ℕ
    pub result : Result Status TextFault
    pub answered : IsAnswered (IsNotedAnswer Refuses Notes note) before.input after.input before.out after.out result
    pub told : TellsBeside Tells explain note result before.input after.input before.err after.err
    pub status_is : status ≡ status_of result
