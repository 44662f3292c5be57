use Rattle.std.proofs.Common.{◌≡◌, drop}
use Rattle.term_parse.specs.Spelling.{outer_binders}
use Rattle.term_parse.proofs.printer.outer_binders.Given as goal

abbrev pub invariant-loop-part : goal.invariant-loop-part
invariant-loop-part l = outer_binders l.index (drop l.part-index l.parts) ≡ outer_binders l.index l.parts
