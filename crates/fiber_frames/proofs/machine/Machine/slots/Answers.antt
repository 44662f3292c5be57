use Rattle.fiber_frames.proofs.Prelude.{List, length, get_or, ap, subst, arith, EnvEntry, Frame, Pending, finalizer_of, step_of, Names}
use Rattle.fiber_frames.proofs.SlotSets.{names_first, names_next}
use Rattle.fiber_frames.proofs.machine.Machine.slots.Goals as goal

pub loop-frame-preserved : goal.loop-frame-preserved
loop-frame-preserved c =
    let m = c.args.self.now in
    let i = c.loop-frame.frame-index in
    let same = c.as_slice-frame-items.ensures.value in
    let long = ap length same in
    let test = c.loop-frame-test.true in
    record {
      leaf = names_first _ _ _ c.loop-frame.invariant.leaf;
      frames = names_next (λ (es : List EnvEntry) (f : Frame). step_of m.words.value es m.own f) m.frames.items i _ _ _ (omega arith) c.loop-frame.invariant.frames
          (subst (λ (l : List Frame). Names c.frame_slots-slots.result (λ (es : List EnvEntry). step_of m.words.value es m.own (get_or l i _))) same
          c.frame_slots-slots.ensures);
    }

pub loop-it-preserved : goal.loop-it-preserved
loop-it-preserved c =
    let m = c.args.self.now in
    let i = c.loop-it.it-index in
    let same = c.as_slice-it-items.ensures.value in
    let long = ap length same in
    let test = c.loop-it-test.true in
    record {
      leaf = names_first _ _ _ c.loop-it.invariant.leaf;
      frames = names_first _ _ _ c.loop-it.invariant.frames;
      finalizers = names_next (λ (es : List EnvEntry) (p : Pending). finalizer_of m.words.value es p) m.finalizers.items i _ _ _ (omega arith)
          c.loop-it.invariant.finalizers
          (subst (λ (l : List Pending). Names c.pending_slots-slots.result (λ (es : List EnvEntry). finalizer_of m.words.value es (get_or l i _))) same
          c.pending_slots-slots.ensures);
    }
