-- The effect of an order to answer a text, with or without reasons.
use Rattle.std.specs.Prelude.{Bool, true, false, ℕ, List}
use Rattle.reasons.specs.Explained.{Explained}
use Rattle.text_io.specs.declared.status.Status.{Status}
use Rattle.text_io.specs.Devices.{Devices}
use Rattle.text_io.specs.Telling.{Answered}

-- the text is answered, and its reasons are written if they are asked for
abbrev pub ObeysOrder : (List ℕ → List ℕ → Status → Type 0) → (List ℕ → List ℕ → Type 0) → Bool → Devices → Devices →
    Status → Type 0
ObeysOrder Answers Tells true before after status = Explained Answers Tells before after status
ObeysOrder Answers Tells false before after status = Answered Answers before after status
