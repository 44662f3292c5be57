use Rattle.std.proofs.Common.{◌≡◌, [], ◌∷◌, subst}
use Rattle.term_parse.{specs.{Atoms.ended, Forms.{sorts, ends, Shaped}}, proofs.Builds.ends_none}
use Rattle.term_parse.proofs.build.build.Goals as goal

pub returns-in-Cede : goal.returns-in-Cede
returns-in-Cede c =
    let none : sorts c.args.pieces.now.items ≡ [] =
    subst (λ w. Shaped w (sorts c.args.pieces.now.items)) c.in-Cede.is c.requires in
    let last : ends c.args.pieces.now.items ≡ ended ∷ [] = ends_none c.args.pieces.now.items none in
    cc (last, c.in-Cede.is)

pub returns-in-Never : goal.returns-in-Never
returns-in-Never c =
    let none : sorts c.args.pieces.now.items ≡ [] =
    subst (λ w. Shaped w (sorts c.args.pieces.now.items)) c.in-Never.is c.requires in
    let last : ends c.args.pieces.now.items ≡ ended ∷ [] = ends_none c.args.pieces.now.items none in
    cc (last, c.in-Never.is)

pub returns-in-Canceled : goal.returns-in-Canceled
returns-in-Canceled c =
    let none : sorts c.args.pieces.now.items ≡ [] =
    subst (λ w. Shaped w (sorts c.args.pieces.now.items)) c.in-Canceled.is c.requires in
    let last : ends c.args.pieces.now.items ≡ ended ∷ [] = ends_none c.args.pieces.now.items none in
    cc (last, c.in-Canceled.is)
