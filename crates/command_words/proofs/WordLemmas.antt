-- A command to which an option was added.
use Rattle.std.proofs.Common.{ap₂, ◌≡◌, ◌∙◌, ◌||◌, Bool, true, false}

-- adding an option that isn't global changes nothing in whether a command has global options
pub kept : (new old global base : Bool) → new ≡ (old || global) → old ≡ base → global ≡ false → new ≡ base
kept new old global true e same local = e ∙ ap₂ (λ a b. a || b) same local
kept new old global false e same local = e ∙ ap₂ (λ a b. a || b) same local
