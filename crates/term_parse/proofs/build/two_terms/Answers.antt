use Rattle.std.proofs.Common.{◌≡◌, [], ◌∷◌}
use Rattle.term_parse.{specs.{Atoms.ended, Forms.{sorts, ends}}, proofs.Builds.ends_none}
use Rattle.term_parse.proofs.build.two_terms.Goals as goal

pub returns : goal.returns
returns c =
    let none : sorts c.boxed-2.new.pieces.items ≡ [] = cc (c.requires, c.boxed.ensures.sorts, c.boxed-2.ensures.sorts) in
    let last : ends c.boxed-2.new.pieces.items ≡ ended ∷ [] = ends_none c.boxed-2.new.pieces.items none in
    cc (c.in_ok-first.ensures.atoms, c.in_ok-second.ensures.atoms, last)
