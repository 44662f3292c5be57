use Rattle.fiber_frames.proofs.Prelude.{◌≡◌, List, length, get_or, refl, ap, subst, arith, Frame}
use Rattle.fiber_frames.proofs.PathHits.{frame_count, path_is, total_all, total_none, total_some}
use Rattle.fiber_frames.proofs.machine.Machine.path_uses.Goals as goal

pub returns-then-leaf_uses-clause-yes : goal.returns-then-leaf_uses-clause-yes
returns-then-leaf_uses-clause-yes c = λ e.
    let is = path_is c.args.sought.what c.args.sought.number c.args.self.now in
    let some = c.leaf_uses.ensures.yes c.if-leaf_uses.true in
    omega (arith, is, some)

pub returns-then-frame_uses-clause-yes : goal.returns-then-frame_uses-clause-yes
returns-then-frame_uses-clause-yes c = λ e.
    let m = c.args.self.now in
    let i = c.loop-frame.frame-index in
    let same = c.as_slice-frame-items.ensures.value in
    let long = ap length same in
    let test = c.loop-frame-test.true in
    let is = path_is c.args.sought.what c.args.sought.number m in
    let all = total_some (frame_count c.args.sought.what c.args.sought.number m) c.as_slice-frame-items.result.now m.frames.items i _ _ same (omega (arith, long, test))
    (c.frame_uses.ensures.yes c.if-frame_uses.true) refl in
    omega (arith, is, all)

pub loop-frame-preserved : goal.loop-frame-preserved
loop-frame-preserved c =
    let m = c.args.self.now in
    let i = c.loop-frame.frame-index in
    let same = c.as_slice-frame-items.ensures.value in
    let long = ap length same in
    let test = c.loop-frame-test.true in
    let none = subst (λ (l : List Frame). frame_count c.args.sought.what c.args.sought.number m (get_or l i _) ≡ 0) same (c.frame_uses.ensures.no c.if-frame_uses.false) in
    record {
      leaf = c.loop-frame.invariant.leaf;
      frames = total_none (frame_count c.args.sought.what c.args.sought.number m) m.frames.items i _ (omega (arith, long, test)) c.loop-frame.invariant.frames none;
    }

pub returns-clause-no : goal.returns-clause-no
returns-clause-no c = λ e.
    let m = c.args.self.now in
    let long = ap length c.as_slice-frame-items.ensures.value in
    let past = c.loop-frame-test.false in
    let is = path_is c.args.sought.what c.args.sought.number m in
    let all = total_all (frame_count c.args.sought.what c.args.sought.number m) m.frames.items c.loop-frame.frame-index (omega (arith, long, past)) in
    let none = c.loop-frame.invariant.frames in
    let leaf = c.loop-frame.invariant.leaf in
    omega (arith, is, all, none, leaf)
