use Rattle.std.proofs.Common.{◌∙◌, ◌++◌, ap}
use Rattle.claim_answers.specs.declared.lines.ClaimForm.{ClaimForm}
use Rattle.claim_answers.specs.Verdicts.{gap, worse}
use Rattle.claim_answers.proofs.sampling.seen_answer.Goals as goal

pub returns : goal.returns
returns c = λ text sought.
    let it = c.in_ok-seen.ensures in
    let seen = c.in_ok-seen.seen in
    let rest = c.in_ok-rest.rest in record {
      verdicts = it.verdicts;
      lines = seen.lines.items;
      notes = seen.notes.items;
      seen = record {
        drawn = it.drawn;
        many = it.many;
        each = it.each;
        soughts = c.args.soughts.items;
        sought = sought;
        seen = it.seen;
        moments = it.moments;
        checked = it.checked;
        lines_are = it.lines_are;
        notes_are = it.notes_are;
      };
      rest = rest.answer.text.items;
      rest_note = rest.note.items;
      rest_status = rest.answer.status;
      sampled = c.in_ok-rest.ensures;
      answer_is = c.in_ok-answer.ensures.text
          ∙ ap (λ (f : ClaimForm). seen.lines.items ++ (gap f ++ rest.answer.text.items)) c.form_of.ensures;
      note_is = c.in_ok-answer.ensures.note;
      status_is = c.in_ok-answer.ensures.status ∙ ap (λ s. worse s rest.answer.status) it.status_is;
    }
