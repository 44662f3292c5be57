use Rattle.std.proofs.Common.{◌≡◌, [], ◌∷◌}
use Rattle.term_parse.{specs.{Atoms.ended, Forms.{sorts, ends}}, proofs.Builds.ends_none}
use Rattle.term_parse.proofs.build.name_and_term.Goals as goal

pub returns : goal.returns
returns c =
    let none : sorts c.boxed.new.pieces.items ≡ [] = cc (c.requires, c.name-name.ensures.sorts, c.boxed.ensures.sorts) in
    let last : ends c.boxed.new.pieces.items ≡ ended ∷ [] = ends_none c.boxed.new.pieces.items none in
    cc (c.name-name.ensures.atoms, c.in_ok-term.ensures.atoms, last)
