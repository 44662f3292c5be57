use Rattle.std.proofs.Common.{◌≡◌, drop}
use Rattle.model_text.specs.Words.{all_go_on}
use Rattle.model_text.proofs.word.is_name.Given as goal

abbrev pub invariant-loop-byte : goal.invariant-loop-byte
invariant-loop-byte l = all_go_on (drop l.byte-index l.rest) ≡ all_go_on l.rest
