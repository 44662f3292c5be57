use Rattle.std.proofs.{Common.rules, Math.Bool.or_assoc}
use Rattle.effect_term.{proofs.Rows.any_starts_fiber-row, specs.declared.term.Term.TheViews.the_lemmas}
use Rattle.effect_term.proofs.term.Term.+starts_fiber.Goals as goal

pub loop-t-init : goal.loop-t-init
loop-t-init t c = grind (rules, the_lemmas, any_starts_fiber-row, or_assoc)
