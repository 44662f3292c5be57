use Rattle.std.proofs.Common.{◌≡◌, find, drop, bytes_eq}
use Rattle.term_parse.specs.Language.{word_spelling}
use Rattle.term_parse.proofs.table.spelled_so.Given as goal

abbrev pub invariant-loop-word : goal.invariant-loop-word
invariant-loop-word l =
    find (λ w. bytes_eq (word_spelling w) l.spelling) (drop l.word-index l.words) ≡
    find (λ w. bytes_eq (word_spelling w) l.spelling) l.words
