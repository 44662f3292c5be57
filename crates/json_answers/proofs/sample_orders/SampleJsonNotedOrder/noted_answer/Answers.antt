use Rattle.std.proofs.Common.{◌∙◌, ap, subst}
use Rattle.serde_json.specs.View.{view}
use Rattle.exploration_text.specs.{Missing.missing_of_sample, SampleText.sample_status}
use Rattle.json_answers.{specs.SampleData.IsSampleData, proofs.FoundPlain.sample_plain}
use Rattle.json_answers.proofs.sample_orders.SampleJsonNotedOrder.noted_answer.Goals as goal

pub value_answer-requires : goal.value_answer-requires
value_answer-requires c = sample_plain _ _ _ _ c.in_ok-value.ensures

pub returns : goal.returns
returns c =
    let order = c.args.self.now.order in
    let found = c.in-Ok.found in
    let wants = c.as_slice-wants.ensures.value in
    let value = view c.in_ok-value.value in
    record {
      sampled = record {
        sample = found;
        sampled = record {
          each = c.in-Ok.ensures.each;
          uncut = c.in-Ok.ensures.uncut;
          tally = c.in-Ok.ensures.tally;
          schedules = c.in-Ok.ensures.schedules;
        };
        value = value;
        value_is = subst (λ ws. IsSampleData ws order.seed found value) wants c.in_ok-value.ensures;
        text_is = c.in_ok-value_answer.ensures.line;
        status_is = c.in_ok-value_answer.ensures.status ∙ c.sample_status.ensures ∙ ap (λ ws. sample_status ws found) wants;
      };
      note_is = c.in_ok-missing_of_sample.ensures ∙ ap (λ ws. missing_of_sample ws found) wants;
    }
