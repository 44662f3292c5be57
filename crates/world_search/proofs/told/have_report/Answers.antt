use Rattle.std.{proofs.Common.{◌≡◌, sym, ◌∙◌, subst, arith, slice_index_or}, proofs.lemmas.Option.{same_Some, slice_get-get_or, slice_get_within}}
use Rattle.std.specs.{Prelude.Some, List.slice_get}
use mathlib.Core.Logic.{dite}
use native.Mathlib.Decide.{ℕ_discrete}
use Rattle.world_search.proofs.told.have_report.Goals as goal

pub returns-then-same_report-clause-yes : goal.returns-then-same_report-clause-yes
returns-then-same_report-clause-yes g c = λ yes.
    (slice_index_or c.args.told.now c.loop-i.i 0, c.loop-i.i, slice_get-get_or c.args.told.now c.loop-i.i 0 (omega arith), c.same_report.ensures.yes c.if-same_report.true)

pub loop-i-preserved : goal.loop-i-preserved
loop-i-preserved g c = λ k j v w low at atv atw.
    let here : slice_get c.args.told.now c.loop-i.i ≡ Some (slice_index_or c.args.told.now c.loop-i.i 0) = slice_get-get_or c.args.told.now c.loop-i.i 0 (omega arith) in
    dite (ℕ_discrete k c.loop-i.i)
    (λ is.
    let same : slice_index_or c.args.told.now c.loop-i.i 0 ≡ j = same_Some _ _ (sym here ∙ subst (λ n. slice_get c.args.told.now n ≡ Some j) is at) in
    c.same_report.ensures.no c.if-same_report.false v w (subst (λ n. slice_get (g.W.Worlds.worlds c.args.worlds.now) n ≡ Some v) (sym same) atv) atw)
    (λ isnt. c.loop-i.invariant k j v w (omega arith) at atv atw)

pub returns-clause-no : goal.returns-clause-no
returns-clause-no g c = λ no k j v w at.
    let low = slice_get_within c.args.told.now k j at in
    c.loop-i.invariant k j v w (omega arith) at
