use Rattle.std.proofs.Common.{◌≡◌, true, false, sym, ◌∙◌}
use Rattle.run_ends.proofs.Ending.{next_in_order, still_left}
use Rattle.run_ends.proofs.finishing.in_order.Goals as goal

pub loop-number-preserved : goal.loop-number-preserved
loop-number-preserved c = record {
  still = still_left c.args.configs.items c.loop-number.configs.items c.pop.new.self.items c.in-Some.config c.loop-number.invariant.still
      c.in-Some.ensures.items;
  order = next_in_order c.args.configs.items c.loop-number.configs.items c.pop.new.self.items c.in-Some.config c.loop-number.number
      c.loop-number.fibers.items c.push.new.configs.items c.loop-number.invariant.still c.in-Some.ensures.items c.loop-number.invariant.order
      (sym c.number.ensures ∙ c.if-number.false) (λ b. let no : true ≡ false = sym (c.is_broken.ensures b) ∙ c.if-is_broken.false in cc)
      c.in_ok-push.ensures.pushed;
}
