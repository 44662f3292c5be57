use Rattle.std.proofs.Common.{length, ◌-◌, ◌≡◌, ◌≤◌}
use Rattle.model_forms.specs.Lexemes.{lexemes_at}
use Rattle.model_forms.proofs.token.token_at.Given as goal

abbrev pub invariant-loop-at : goal.invariant-loop-at
invariant-loop-at l = record { low : l.from ≤ l.at; high : l.at ≤ length l.text; skipped : lexemes_at l.from l.text ≡ lexemes_at l.at l.text }

abbrev pub decreases-loop-at : goal.decreases-loop-at
decreases-loop-at l = length l.text - l.at
