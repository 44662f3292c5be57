use Rattle.std.proofs.{Common.{rules, slice_index_or, ◌≡◌, sym, ◌∙◌, subst, arith}, lemmas.Option.{slice_get-get_or, same_Some, slice_get_within}}
use Rattle.std.specs.{Prelude.Some, List.slice_get}
use mathlib.Core.Logic.{dite}
use native.Mathlib.Decide.{ℕ_discrete}
use Rattle.every_schedule.specs.Private.Reporting.{Alike}
use Rattle.every_schedule.proofs.reports.same_reports.Goals as goal

pub loop-i-preserved : goal.loop-i-preserved
loop-i-preserved c = λ j m n low one other.
    let first : slice_get c.args.one.now c.loop-i.i ≡ Some (slice_index_or c.args.one.now c.loop-i.i 0) =
    slice_get-get_or c.args.one.now c.loop-i.i 0 (omega arith) in
    let second : slice_get c.args.other.now c.loop-i.i ≡ Some (slice_index_or c.args.other.now c.loop-i.i 0) =
    slice_get-get_or c.args.other.now c.loop-i.i 0 (omega arith) in
    dite (ℕ_discrete j c.loop-i.i)
    (λ is.
    let left : (slice_index_or c.args.one.now c.loop-i.i 0) ≡ m = same_Some _ _ (sym first ∙ subst (λ i. slice_get c.args.one.now i ≡ Some m) is one) in
    let right : (slice_index_or c.args.other.now c.loop-i.i 0) ≡ n = same_Some _ _ (sym second ∙ subst (λ i. slice_get c.args.other.now i ≡ Some n) is other) in
    subst (λ x. Alike c.args.pool.now.items.items m x) right
    (subst (λ x. Alike c.args.pool.now.items.items x (slice_index_or c.args.other.now c.loop-i.i 0)) left (search rules)))
    (λ isnt. c.loop-i.invariant j m n (omega arith) one other)

pub returns-clause-same : goal.returns-clause-same
returns-clause-same c = λ same. record {
  many = omega arith;
  each = λ i m n one other. let low = slice_get_within c.args.one.now i m one in c.loop-i.invariant i m n (omega arith) one other;
}
