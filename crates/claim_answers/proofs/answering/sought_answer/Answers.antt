use Rattle.std.proofs.Common.{◌∙◌, ap}
use Rattle.claim_answers.specs.Verdicts.{worse}
use Rattle.claim_answers.proofs.answering.sought_answer.Goals as goal

pub returns : goal.returns
returns c = λ text sought.
    let it = c.in_ok-judged.ensures in
    let judged = c.in_ok-judged.judged in
    let rest = c.in_ok-rest.rest in record {
      verdicts = it.verdicts;
      lines = judged.lines.items;
      notes = judged.notes.items;
      judged = record {
        soughts = c.args.soughts.items;
        sought = sought;
        decided = it.decided;
        moments = it.moments;
        checked = it.checked;
        lines_are = it.lines_are;
        notes_are = it.notes_are;
      };
      rest = rest.answer.text.items;
      rest_note = rest.note.items;
      rest_status = rest.answer.status;
      explored = c.in_ok-rest.ensures;
      answer_is = c.in_ok-answer.ensures.text;
      note_is = c.in_ok-answer.ensures.note;
      status_is = c.in_ok-answer.ensures.status ∙ ap (λ s. worse s rest.answer.status) it.status_is;
    }
