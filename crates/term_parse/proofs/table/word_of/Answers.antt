use Rattle.std.proofs.Common.{◌∙◌, ap, find, bytes_eq}
use Rattle.term_parse.{specs.Language.word_spelling, proofs.Lookup.near_word}
use Rattle.term_parse.proofs.table.word_of.Goals as goal

pub returns : goal.returns
returns c = c.spelled_so.ensures ∙ ap (find (λ w. bytes_eq (word_spelling w) c.args.spelling.now)) c.words_from.ensures ∙
    near_word c.args.spelling.now _ _ c.in-Some.ensures.cases.0
