use Rattle.std.proofs.Common.{◌≡◌, [], ◌∷◌}
use Rattle.term_parse.{specs.{Atoms.ended, Forms.{sorts, ends}}, proofs.Builds.ends_none}
use Rattle.term_parse.proofs.build.name_and_value.Goals as goal

pub returns : goal.returns
returns c =
    let none : sorts c.value-value.new.pieces.items ≡ [] = cc (c.requires, c.name-name.ensures.sorts, c.value-value.ensures.sorts) in
    let last : ends c.value-value.new.pieces.items ≡ ended ∷ [] = ends_none c.value-value.new.pieces.items none in
    cc (c.name-name.ensures.atoms, c.value-value.ensures.atoms, last)
