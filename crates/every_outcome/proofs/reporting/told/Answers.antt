use Rattle.std.{proofs.Common.{◌≡◌, ◌++◌, List, [], ◌∷◌, length, sym, ap, ◌∙◌, subst, arith}, specs.Vec.Iter.into_iter_items}
use Rattle.derived_ops.specs.{Expansion.code_of, Reading.source_of}
use Rattle.every_outcome.{specs.Places.{first_place, with_says}, proofs.Listing.{SoFar, all_told, next_within, told_next}}
use Rattle.every_outcome.proofs.reporting.told.Goals as goal

nothing_left : {X : Type 0} (l : List X) → length l ≡ 0 → l ≡ []
nothing_left [] h = cc
nothing_left (x ∷ xs) h = absurd (omega arith)

pub answer-requires : goal.answer-requires
answer-requires g c =
    let says = with_says g.row.SAYS in
    let at = c.loop-it in
    let first = first_place says (code_of (source_of c.args.program.now)) c.args.limits in
    let steps : into_iter_items at.it-iterator ≡ c.in-Some.it ∷ into_iter_items c.next.new.self = c.in-Some.ensures.steps.0 in (
      omega arith,
      (
        c.requires.limits,
        next_within says c.args.worlds.now first c.args.found.items (into_iter_items c.next.new.self) at.answers.items c.in-Some.it
            (subst (λ l. SoFar says c.args.worlds.now first c.args.found.items l at.answers.items) steps at.invariant.told) c.requires.within,
      ),
    )

pub loop-it-preserved : goal.loop-it-preserved
loop-it-preserved g c =
    let says = with_says g.row.SAYS in
    let at = c.loop-it in
    let first = first_place says (code_of (source_of c.args.program.now)) c.args.limits in
    let rest = into_iter_items c.next.new.self in
    let steps : into_iter_items at.it-iterator ≡ c.in-Some.it ∷ rest = c.in-Some.ensures.steps.0 in
    let a = c.in_ok-one.one in
    let pushed : c.add.new.answers.items ≡ at.answers.items ++ a ∷ [] = c.in_ok-add.ensures in
    record {
      told = subst (λ l. SoFar says c.args.worlds.now first c.args.found.items rest l) (sym pushed)
          (told_next says c.args.worlds.now first c.args.found.items rest at.answers.items c.in-Some.it a
          (subst (λ l. SoFar says c.args.worlds.now first c.args.found.items l at.answers.items) steps at.invariant.told) c.in_ok-one.ensures.told);
      left = let was = at.invariant.left in
          let gone = c.in-Some.ensures.steps.1 in
          let short = ap length steps in
          omega arith;
    }

pub returns-clause-told : goal.returns-clause-told
returns-clause-told g c =
    let says = with_says g.row.SAYS in
    let at = c.loop-it in
    let first = first_place says (code_of (source_of c.args.program.now)) c.args.limits in
    let empty : into_iter_items at.it-iterator ≡ [] = nothing_left _ (sym at.invariant.left ∙ c.in-None.ensures.steps.0) in
    all_told says c.args.worlds.now first c.args.found.items at.answers.items
    (subst (λ l. SoFar says c.args.worlds.now first c.args.found.items l at.answers.items) empty at.invariant.told)
