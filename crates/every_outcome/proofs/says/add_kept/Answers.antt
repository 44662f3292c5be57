use Rattle.std.proofs.Common.{◌≡◌, Bool, cond, List, [], ◌∷◌, ◌++◌, sym, ap, ◌∙◌, append-nil}
use Rattle.fiber_frames.specs.declared.mark.Mark.{Mark}
use Rattle.every_outcome.specs.Places.{kept_marks, with_says}
use Rattle.every_outcome.proofs.says.add_kept.Goals as goal

pub returns-then-not-keeps : goal.returns-then-not-keeps
returns-then-not-keeps c =
    let old = c.args.kept.now.items in
    let m = c.args.mark.now in
    let none : kept_marks (with_says c.args.search) (m ∷ []) ≡ [] = ap (λ (t : Bool). cond t (m ∷ []) []) (sym c.keeps.ensures ∙ c.if-not-keeps.true) in
    sym (ap (λ (l : List Mark). old ++ l) none ∙ append-nil old)

pub returns : goal.returns
returns c =
    let old = c.args.kept.now.items in
    let m = c.args.mark.now in
    let one : kept_marks (with_says c.args.search) (m ∷ []) ≡ m ∷ [] = ap (λ (t : Bool). cond t (m ∷ []) []) (sym c.keeps.ensures ∙ c.if-not-keeps.false) in
    c.in_ok-add.ensures ∙ sym (ap (λ (l : List Mark). old ++ l) one)
