use Rattle.std.proofs.{Common.{◌≡◌, ◌<◌, ◌∙◌, length, drop, sym, Some, None, arith, rules}, lemmas.Grind.common_steps}
use Rattle.model_text.{specs.Bodies.first_fault, proofs.Bodies.{one_more, fault_here}}
use Rattle.model_text.proofs.body.flat_fault.Goals as goal

pub returns-in-Some : goal.returns-in-Some
returns-in-Some c =
    let e = c.in-Some.ensures in
    let l : c.loop-at.at < length c.args.forms.now = first_of (omega arith, search rules) in
    let f : Some c.in-Some.fault ≡ first_fault c.args.text.now (drop c.loop-at.at c.args.forms.now) = first_of (cc, search rules, grind (arith, common_steps)) in
    sym (fault_here c.args.text.now c.args.forms.now c.loop-at.at c.in-Some.fault l f) ∙ c.loop-at.invariant

pub loop-at-preserved : goal.loop-at-preserved
loop-at-preserved c =
    let e = c.first_fault.ensures in
    let l : c.loop-at.at < length c.args.forms.now = first_of (omega arith, search rules) in
    let n : None ≡ first_fault c.args.text.now (drop c.loop-at.at c.args.forms.now) = first_of (cc, search rules, grind (arith, common_steps)) in
    sym (one_more c.args.text.now c.args.forms.now c.loop-at.at l n) ∙ c.loop-at.invariant
