use Rattle.std.proofs.Common.{◌∙◌, sym}
use Rattle.command_words.proofs.ClaimLemmas.{none_said, some_said}
use Rattle.command_words.proofs.unmark_requests.has_text.Goals as goal

pub returns-clause-some : goal.returns-clause-some
returns-clause-some c = λ e. some_said c.text_of.result _ c.text_of.ensures (sym c.is_some.ensures ∙ e)

pub returns-clause-none : goal.returns-clause-none
returns-clause-none c = λ e. none_said c.text_of.result _ c.text_of.ensures (sym c.is_some.ensures ∙ e)
