use Rattle.std.proofs.Common.{◌≡◌, [], ◌∷◌}
use Rattle.term_parse.{specs.{Atoms.ended, Forms.{sorts, ends}}, proofs.Builds.ends_none}
use Rattle.term_parse.proofs.build.two_values.Goals as goal

pub returns : goal.returns
returns c =
    let none : sorts c.value-second.new.pieces.items ≡ [] = cc (c.requires, c.value-first.ensures.sorts, c.value-second.ensures.sorts) in
    let last : ends c.value-second.new.pieces.items ≡ ended ∷ [] = ends_none c.value-second.new.pieces.items none in
    cc (c.value-first.ensures.atoms, c.value-second.ensures.atoms, last)
