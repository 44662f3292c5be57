use Rattle.std.proofs.Common.{ap, sym, ◌+◌, ◌∷◌, []}
use Rattle.term_parse.{proofs.Parts.followed, specs.Spelling.name_spelling}
use Rattle.term_parse.proofs.printer.write_binder.Goals as goal

pub returns-clause-text : goal.returns-clause-text
returns-clause-text c =
    followed c.write_name.result _ _ _ (32 ∷ []) _ _ c.write_name.ensures c.in_ok-push.ensures.items
    (ap (λ n. 32 ∷ name_spelling c.args.kind (c.args.around + n)) (sym c.outer_binders.ensures.value))
