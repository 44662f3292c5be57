use Rattle.std.proofs.Common.{◌≡◌, ◌≤◌, length}
use Rattle.term_parse.specs.{Bindings.{bounds, InText}, Reading.find_from}
use Rattle.term_parse.proofs.scope.innermost.Given as goal

abbrev pub invariant-loop-binding : goal.invariant-loop-binding
invariant-loop-binding l =
    record {
      few : length l.left ≤ length l.scope;
      within : InText l.text l.left;
      found :
          find_from 0 (bounds l.text l.left) l.spelling ≡ find_from 0 (bounds l.text l.scope) l.spelling;
    }

abbrev pub decreases-loop-binding : goal.decreases-loop-binding
decreases-loop-binding l = length l.left
