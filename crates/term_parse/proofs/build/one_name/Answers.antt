use Rattle.std.proofs.Common.{◌≡◌, [], ◌∷◌}
use Rattle.term_parse.{specs.{Atoms.ended, Forms.{sorts, ends}}, proofs.Builds.ends_none}
use Rattle.term_parse.proofs.build.one_name.Goals as goal

pub returns : goal.returns
returns c =
    let none : sorts c.name-name.new.pieces.items ≡ [] = cc (c.requires, c.name-name.ensures.sorts) in
    let last : ends c.name-name.new.pieces.items ≡ ended ∷ [] = ends_none c.name-name.new.pieces.items none in
    cc (c.name-name.ensures.atoms, last)
