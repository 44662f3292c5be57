use Rattle.fiber_frames.proofs.Prelude.{◌≡◌, List, length, get_or, refl, ap, subst, arith, Pending}
use Rattle.fiber_frames.proofs.PathHits.{finals_are, pending_count, total_all, total_none, total_some}
use Rattle.fiber_frames.proofs.machine.Machine.finalizers_use.Goals as goal

pub returns-then-word_uses-clause-yes : goal.returns-then-word_uses-clause-yes
returns-then-word_uses-clause-yes c = λ e.
    let m = c.args.self.now in
    let i = c.loop-it.it-index in
    let same = c.as_slice-it-items.ensures.value in
    let long = ap length same in
    let test = c.loop-it-test.true in
    let is = finals_are c.args.sought.what c.args.sought.number m in
    let all = total_some (pending_count c.args.sought.what c.args.sought.number m) c.as_slice-it-items.result.now m.finalizers.items i _ _ same (omega (arith, long, test))
    (c.word_uses.ensures.yes c.if-word_uses.true _) refl in
    omega (arith, is, all)

pub loop-it-preserved : goal.loop-it-preserved
loop-it-preserved c =
    let m = c.args.self.now in
    let i = c.loop-it.it-index in
    let same = c.as_slice-it-items.ensures.value in
    let long = ap length same in
    let test = c.loop-it-test.true in
    let none = subst (λ (l : List Pending). pending_count c.args.sought.what c.args.sought.number m (get_or l i _) ≡ 0) same
    (c.word_uses.ensures.no c.if-word_uses.false _) in
    total_none (pending_count c.args.sought.what c.args.sought.number m) m.finalizers.items i _ (omega (arith, long, test)) c.loop-it.invariant none

pub returns-clause-no : goal.returns-clause-no
returns-clause-no c = λ e.
    let m = c.args.self.now in
    let long = ap length c.as_slice-it-items.ensures.value in
    let past = c.loop-it-test.false in
    let is = finals_are c.args.sought.what c.args.sought.number m in
    let all = total_all (pending_count c.args.sought.what c.args.sought.number m) m.finalizers.items c.loop-it.it-index (omega (arith, long, past)) in
    let none = c.loop-it.invariant in
    omega (arith, is, all, none)
