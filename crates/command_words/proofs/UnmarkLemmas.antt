-- Texts that are wrong for `--marks` or for `--only`.
use Rattle.std.proofs.Common.{◌≡◌, Bool, true, false, Some, codes}
use Rattle.clap.specs.Words.{Text}
use Rattle.command_words.specs.declared.marks.Marks.{Marks}
use Rattle.command_words.specs.declared.marks.Marks.TheVariants as kept
use Rattle.command_words.specs.Flags.{SaysMarks, SaysOnly}

-- a text that is none of the three words says nothing of marks
pub no_marks : (text : Text) → (text ≡ codes "all" → ⊥) → (text ≡ codes "say" → ⊥) → (text ≡ codes "none" → ⊥) → (marks : Marks) →
    SaysMarks (Some text) marks → ⊥
no_marks text all say none kept.All says = all says
no_marks text all say none kept.Says says = say says
no_marks text all say none kept.Nothing says = none says

-- a text that isn't `0` names no fiber
pub no_fiber : (text : Text) → (text ≡ codes "0" → ⊥) → (only : Bool) → SaysOnly (Some text) only → ⊥
no_fiber text other true says = other says
no_fiber text other false says = says
