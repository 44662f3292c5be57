-- What is written beside an answer with a note.
use Rattle.std.proofs.Common.{◌≡◌, ℕ, Bool, true, false, List, [], ◌∷◌, Ok, refl, sym, subst}
use Rattle.text_io.specs.declared.status.Status.{Status}
use Rattle.text_io.specs.Devices.{Reader, Writer}
use Rattle.text_io.specs.Exchange.{IsRead}
use Rattle.text_io.specs.Telling.{Told}
use Rattle.reasons.specs.Explained.{TellsReasons}
use Rattle.command_line.specs.Noting.{TellsBeside}

pub note_told : (Tells : List ℕ → List ℕ → Type 0) (explain : Bool) (note : List ℕ) (s : Status) (input left : Reader) (before after : Writer) →
    (note ≡ [] → ⊥) → Told note before after → TellsBeside Tells explain note (Ok s) input left before after
note_told Tells explain [] s input left before after some told = absurd (some refl)
note_told Tells explain (c ∷ note) s input left before after some told = told

pub reasons_told : (Tells : List ℕ → List ℕ → Type 0) (note text : List ℕ) (s : Status) (input left : Reader) (before after : Writer) → note ≡ [] →
    IsRead input left text → TellsReasons (Tells text) before after → TellsBeside Tells true note (Ok s) input left before after
reasons_told Tells note text s input left before after none read told =
    subst (λ n. TellsBeside Tells true n (Ok s) input left before after) (sym none) (text, read, told)

pub nothing_told : (Tells : List ℕ → List ℕ → Type 0) (note : List ℕ) (s : Status) (input left : Reader) (before after : Writer) → note ≡ [] →
    after ≡ before → TellsBeside Tells false note (Ok s) input left before after
nothing_told Tells note s input left before after none same =
    subst (λ n. TellsBeside Tells false n (Ok s) input left before after) (sym none) same
