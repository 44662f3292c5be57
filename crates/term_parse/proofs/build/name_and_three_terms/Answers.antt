use Rattle.std.proofs.Common.{◌≡◌, [], ◌∷◌}
use Rattle.term_parse.{specs.{Atoms.ended, Forms.{sorts, ends}}, proofs.Builds.ends_none}
use Rattle.term_parse.proofs.build.name_and_three_terms.Goals as goal

pub returns : goal.returns
returns c =
    let none : sorts c.boxed-3.new.pieces.items ≡ [] =
    cc (c.requires, c.name-name.ensures.sorts, c.boxed.ensures.sorts, c.boxed-2.ensures.sorts, c.boxed-3.ensures.sorts) in
    let last : ends c.boxed-3.new.pieces.items ≡ ended ∷ [] = ends_none c.boxed-3.new.pieces.items none in
    cc (c.name-name.ensures.atoms, c.in_ok-first.ensures.atoms, c.in_ok-second.ensures.atoms, c.in_ok-third.ensures.atoms, last)
