use Rattle.std.proofs.Common.{◌∙◌, ap, subst}
use Rattle.exploration_text.specs.{Missing.missing_of_sample, SampleText.{IsSampleText, sample_status}}
use Rattle.exploration_text.proofs.sample_texts.SampleOrderNotedOrder.noted_answer.Goals as goal

pub returns : goal.returns
returns c =
    let found = c.in-Ok.found in
    let wants = c.as_slice-wants.ensures.value in
    record {
      sampled = record {
        sample = found;
        sampled = record {
          each = c.in-Ok.ensures.each;
          uncut = c.in-Ok.ensures.uncut;
          tally = c.in-Ok.ensures.tally;
          schedules = c.in-Ok.ensures.schedules;
        };
        text_is = subst (λ ws. IsSampleText ws found c.in_ok-text_of_sample.field-0.items) wants c.in_ok-text_of_sample.ensures;
        status_is = c.sample_status.ensures ∙ ap (λ ws. sample_status ws found) wants;
      };
      note_is = c.in_ok-missing_of_sample.ensures ∙ ap (λ ws. missing_of_sample ws found) wants;
    }
