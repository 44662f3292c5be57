use Rattle.model_forms.proofs.Lexing.{word_next}
use Rattle.model_forms.proofs.token.word_token.Goals as goal

pub returns : goal.returns
returns c =
    word_next c.args.text.now c.args.start c.word_end.result c.requires.within c.requires.plain c.word_end.ensures.within.0 c.word_end.ensures.within.1
    c.word_end.ensures.word c.word_end.ensures.skipped
