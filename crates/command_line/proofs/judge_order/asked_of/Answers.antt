use Rattle.std.proofs.Common.{◌∙◌, ◌++◌, List, ap, append_assoc, arith, map, subst, sym}
use Rattle.claim_answers.specs.declared.asked.Rule.TheVariants.{Always, Never, Reach}
use Rattle.claim_answers.specs.Claims.{AreMade, Question, asked_texts, question_of}
use Rattle.command_line.proofs.judge_order.asked_of.Goals as goal

-- the texts of the three options, one after the other
pub returns-clause-read : goal.returns-clause-read
returns-clause-read c =
    let always = asked_texts Always (map (λ s. s.now) c.args.always.now) in
    let never = asked_texts Never (map (λ s. s.now) c.args.never.now) in
    let reach = asked_texts Reach (map (λ s. s.now) c.args.reach.now) in
    let one = c.in_ok-read_asked.ensures.read ∙ ap (λ asked. map question_of asked ++ always) c.new-asked.ensures.items in
    let two = c.in_ok-read_asked-2.ensures.read ∙ ap (λ (qs : List Question). qs ++ never) one in
    c.in_ok-read_asked-3.ensures.read ∙ ap (λ (qs : List Question). qs ++ reach) two ∙ append_assoc always never reach

pub returns-clause-made : goal.returns-clause-made
returns-clause-made c =
    c.in_ok-read_asked-3.ensures.made (c.in_ok-read_asked-2.ensures.made (c.in_ok-read_asked.ensures.made
    (subst (AreMade c.args.refs) (sym c.new-asked.ensures.items) (λ i d low. absurd (omega arith)))))
