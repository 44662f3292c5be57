use Rattle.std.proofs.Common.{[], ◌∷◌, ap, subst}
use Rattle.model_forms.{specs.{Seen.{seen, EndsBehind}, Rows.{nothing, a_word, a_text}}, proofs.Steps.{has_opened, has_closed, has_more}}
use Rattle.model_forms.proofs.reader.take_token.Goals as goal

pub returns-in_ok-open_list-in-Open-clause-more : goal.returns-in_ok-open_list-in-Open-clause-more
returns-in_ok-open_list-in-Open-clause-more c = λ text at r n.
    has_opened text at c.args.read.now c.open_list.new.read c.args.token r n (ap (λ k. seen text k c.args.token.start c.args.token.end) c.in-Open.is)
    c.in_ok-open_list-in-Open.ensures.forms c.in_ok-open_list-in-Open.ensures.open_ones

pub returns-else-not-close_list-clause-more : goal.returns-else-not-close_list-clause-more
returns-else-not-close_list-clause-more c = λ text at r n.
    has_closed text at c.args.read.now c.close_list.new.read c.args.token r n (ap (λ k. seen text k c.args.token.start c.args.token.end) c.in-Close.is)
    (subst (λ k. EndsBehind k c.args.token.start c.args.token.end) c.in-Close.is n.bracket) (c.if-not-close_list.ensures r.os r.row r.shaped)

pub returns-in_ok-plain_form-in-Word-clause-more : goal.returns-in_ok-plain_form-in-Word-clause-more
returns-in_ok-plain_form-in-Word-clause-more c = λ text at r n.
    has_more text at c.args.read.now c.plain_form.new.read c.args.token (a_word c.args.token.start c.args.token.end nothing) r n
    (ap (λ k. record { lexeme = seen text k c.args.token.start c.args.token.end; place = c.args.token.start } ∷ []) c.in-Word.is)
    c.in_ok-plain_form-in-Word.ensures.forms c.in_ok-plain_form-in-Word.ensures.open_ones

pub returns-in_ok-plain_form-in-Text-clause-more : goal.returns-in_ok-plain_form-in-Text-clause-more
returns-in_ok-plain_form-in-Text-clause-more c = λ text at r n.
    has_more text at c.args.read.now c.plain_form-in-Text.new.read c.args.token (a_text c.args.token.start c.args.token.end nothing) r n
    (ap (λ k. record { lexeme = seen text k c.args.token.start c.args.token.end; place = c.args.token.start } ∷ []) c.in-Text.is)
    c.in_ok-plain_form-in-Text.ensures.forms c.in_ok-plain_form-in-Text.ensures.open_ones
