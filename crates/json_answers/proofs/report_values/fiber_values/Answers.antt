use Rattle.std.proofs.Common.{◌∙◌, ap, arith}
use Rattle.json_answers.{specs.ReportData.fiber_data, proofs.Behind.{all_fibers, one_fiber}}
use Rattle.json_answers.proofs.report_values.fiber_values.Goals as goal

pub loop-fiber-preserved : goal.loop-fiber-preserved
loop-fiber-preserved c =
    let f = c.fiber-item.result in
    record {
      many = omega (arith, c.in_ok-push.ensures.len, c.loop-fiber.invariant.many);
      so = one_fiber c.args.fibers.now c.loop-fiber.fiber-index f c.loop-fiber.values.items c.push.new.self.items c.in_ok-value.value (omega arith)
          c.fiber-item.is
          (c.in_ok-value.ensures ∙ ap (λ n. fiber_data n f) (c.len.ensures ∙ c.loop-fiber.invariant.many)) c.in_ok-push.ensures.items c.loop-fiber.invariant.so;
    }

pub returns : goal.returns
returns c = all_fibers c.args.fibers.now c.loop-fiber.fiber-index c.loop-fiber.values.items (omega arith) c.loop-fiber.invariant.so
