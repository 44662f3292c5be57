use Rattle.std.proofs.Common.{sym, ◌∙◌}
use Rattle.term_parse.proofs.Lookup.{word_here, word_later, no_more_words}
use Rattle.term_parse.proofs.table.spelled_so.Goals as goal

pub loop-word-preserved : goal.loop-word-preserved
loop-word-preserved c =
    sym (word_later c.args.spelling.now c.args.words.now c.loop-word.word-index _ _ _ c.loop-word-test.true
    c.spelling_of.ensures.value c.is_same.ensures c.if-is_same.false) ∙ c.loop-word.invariant

pub returns-then-is_same : goal.returns-then-is_same
returns-then-is_same c =
    sym (word_here c.args.spelling.now c.args.words.now c.loop-word.word-index _ _ _ c.loop-word-test.true
    c.spelling_of.ensures.value c.is_same.ensures c.if-is_same.true) ∙ c.loop-word.invariant

pub returns : goal.returns
returns c =
    sym (no_more_words c.args.spelling.now c.args.words.now c.loop-word.word-index c.loop-word-test.false)
    ∙ c.loop-word.invariant
