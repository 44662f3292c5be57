use Rattle.std.proofs.Common.{arith}
use Rattle.model_forms.proofs.Lexing.{text_next, broken_next}
use Rattle.model_forms.proofs.token.string_token.Goals as goal
use Rattle.model_forms.proofs.token.string_token.Goals.{else-end-text-via-then-end-text+else-text-end-eq34, else-end-text-via-else-end-text}

pub returns-then-text-end-eq34 : goal.returns-then-text-end-eq34
returns-then-text-end-eq34 c =
    text_next c.args.text.now c.args.start c.string_end-end.result c.requires.within c.requires.quote c.string_end-end.ensures c.if-end-text.true
    c.if-text-end-eq34.true

pub returns-else-end-text : goal.returns-else-end-text
returns-else-end-text c =
    broken_next c.args.text.now c.args.start c.string_end-end.result c.requires.within c.requires.quote c.string_end-end.ensures
    (elim c.else-end-text.branch [
      | else-end-text-via-then-end-text+else-text-end-eq34 w ↦ λ l. w.if-text-end-eq34.false
      | else-end-text-via-else-end-text w ↦ λ l. absurd (omega arith)
    ])
