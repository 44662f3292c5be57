use Rattle.term_parse.proofs.OpenStacks.{open_first}
use Rattle.term_parse.proofs.reader.whole.Goals as goal

pub tokens-init : goal.tokens-init
tokens-init c =
    open_first c.args.text.now c.in_ok-word.at c.in_ok-word.word c.in_ok-stack.stack.scope.items
    c.in_ok-stack.stack.form.value c.in_ok-stack.stack.around.items c.in_ok-stack.ensures.form c.in_ok-stack.ensures.scope
    c.in_ok-stack.ensures.around c.in_ok-word.ensures.within c.in_ok-word.ensures.found
