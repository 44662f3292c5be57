use Rattle.std.proofs.Common.{rules}
use Rattle.term_parse.proofs.Lexing.{long_token, short_token}
use Rattle.term_parse.proofs.token.token_from.Goals as goal

pub returns-then-begins_run : goal.returns-then-begins_run
returns-then-begins_run c =
    rw c.token_of.ensures.place
    (long_token c.args.text.now c.args.start c.run_end.result c.token_of.result.kind c.requires.within c.requires.begins (search rules)
    (search rules) (search rules) c.run_end.ensures.run c.run_end.ensures.skipped c.token_of.ensures.kind)

pub returns-else-begins_run : goal.returns-else-begins_run
returns-else-begins_run c =
    rw c.token_of-else-begins_run.ensures.place
    (short_token c.args.text.now c.args.start c.token_of-else-begins_run.result.kind c.requires.within c.requires.begins (search rules)
    c.token_of-else-begins_run.ensures.kind)
