use Rattle.std.proofs.Common.{leb, length, rules}
use Rattle.std.proofs.lemmas.Fn.{filter_same}
use Rattle.every_outcome.proofs.outcomes.shortened.Goals as goal

pub returns-clause-answers : goal.returns-clause-answers
returns-clause-answers c =
    filter_same _ (λ a. leb (length a.schedule) c.args.entries) _ (λ x b f' k. search rules) _ _ c.retain.ensures.filtered
