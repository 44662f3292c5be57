use Rattle.fiber_frames.proofs.Prelude.{◌≡◌, ◌-◌, ◌∙◌, length, arith, common_steps, length-set}
use Rattle.fiber_frames.proofs.SlotSets.{past_needs, set_needs}
use Rattle.fiber_frames.proofs.slots.slots_of.Goals as goal

pub loop-done-init : goal.loop-done-init
loop-done-init c = record { many = grind (arith, common_steps); last = λ j h. past_needs c.args.words.now j _ (omega arith) }

pub loop-done-preserved : goal.loop-done-preserved
loop-done-preserved c =
    let i = length c.args.words.now - 1 - c.loop-done.done in
    let slots = c.loop-done.slots.items in
    let many : length slots ≡ length c.args.words.now = c.loop-done.invariant.many in
    let test = c.loop-done-test.true in
    record {
      many = length-set slots i c.of_term.result ∙ many;
      last = λ j h. set_needs c.args.words.now slots i c.of_term.result (omega arith) c.of_term.ensures j (λ isnt. c.loop-done.invariant.last j (omega arith));
    }
