use Rattle.std.proofs.Common.{◌≡◌, Bool, true, sym, ◌∙◌, subst}
use Rattle.command_line.specs.Recording.{IsRecordedWith, alone, has_line}
use Rattle.command_line.proofs.RecordLemmas.{finds_none, none_found, recorded_answer, tells_found, tells_none, timed_answers}
use Rattle.command_line.proofs.record_answers.timed_answer.Goals as goal

pub returns-in-Some : goal.returns-in-Some
returns-in-Some g c =
    let ran = c.run_spelled-end.ensures in
    let told = c.in_ok-answer.ensures in
    let end = c.run_spelled-end.result.end in
    let s = c.run_spelled-end.result.schedule in
    let front = c.in_ok-answer.answer in
    let line : has_line end ≡ true = sym c.has_line.ensures ∙ c.if-not-has_line.false in
    let tells = tells_found _ end s c.in_ok-entries.field-0 c.in-Some.entries line c.in_ok-entries.ensures.some c.in-Some.is in
    timed_answers c.args.program c.args.options front _ c.with_timeline.result
    (subst (λ (b : Bool). IsRecordedWith c.args.program c.args.options b front.text.items front.status) tells
    (recorded_answer c.args.program c.args.options end s front ran.spent ran.lawful ran.full ran.faults ran.recorded told.text told.status))
    c.with_timeline.ensures.text c.with_timeline.ensures.status

pub returns-then-not-has_line : goal.returns-then-not-has_line
returns-then-not-has_line g c =
    let ran = c.run_spelled-end.ensures in
    let told = c.in_ok-answer.ensures in
    let end = c.run_spelled-end.result.end in
    let s = c.run_spelled-end.result.schedule in
    let front = c.in_ok-answer.answer in
    let tells = tells_none end s (sym c.has_line.ensures ∙ c.if-not-has_line.true) in
    alone front.text.items front.status
    (subst (λ (b : Bool). IsRecordedWith c.args.program c.args.options b front.text.items front.status) tells
    (recorded_answer c.args.program c.args.options end s front ran.spent ran.lawful ran.full ran.faults ran.recorded told.text told.status))

pub returns : goal.returns
returns g c =
    let ran = c.run_spelled-end.ensures in
    let told = c.in_ok-answer.ensures in
    let end = c.run_spelled-end.result.end in
    let s = c.run_spelled-end.result.schedule in
    let front = c.in_ok-answer.answer in
    let line : has_line end ≡ true = sym c.has_line.ensures ∙ c.if-not-has_line.false in
    let tells = finds_none end s line (none_found s c.in_ok-entries.field-0 c.in_ok-entries.ensures.none c.in-None.is) in
    alone front.text.items front.status
    (subst (λ (b : Bool). IsRecordedWith c.args.program c.args.options b front.text.items front.status) tells
    (recorded_answer c.args.program c.args.options end s front ran.spent ran.lawful ran.full ran.faults ran.recorded told.text told.status))
