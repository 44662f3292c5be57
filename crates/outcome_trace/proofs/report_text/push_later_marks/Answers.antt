use Rattle.std.proofs.{Common.{◌≡◌, ◌++◌, length, string_bytes, sym, ap, ap₂, ◌∙◌, arith, append_assoc}, lemmas.List.take-append-drop}
use Rattle.outcome_trace.{specs.ReportText.later_marks_text, proofs.ReportLemmas.{later_marks_text-append, take-to_end}}
use Rattle.outcome_trace.proofs.report_text.push_later_marks.Goals as goal

pub loop-left-preserved : goal.loop-left-preserved
loop-left-preserved c =
    let room = c.put_later_marks-start.new.room in
    let now = c.split_at.result.0.now in
    let later = c.split_at.result.1.now in
    let long : length room ≡ 1024 = omega arith in
    let wrote : string_bytes c.push_ascii.new.text ≡ string_bytes c.loop-left.text ++ later_marks_text now =
    c.in_ok-push_ascii.ensures
    ∙ ap (λ t. string_bytes c.reserve.new.self ++ t)
    (take-to_end 1024 c.put_later_marks-start.result room long ∙ c.put_later_marks-start.ensures.text)
    ∙ ap (λ b. b ++ later_marks_text now) c.reserve.ensures.bytes in
    let parts : now ++ later ≡ c.loop-left.left.now =
    ap₂ (λ xs ys. xs ++ ys) c.split_at.ensures.front c.split_at.ensures.back
    ∙ take-append-drop _ c.loop-left.left.now in
    ap (λ t. t ++ later_marks_text later) wrote
    ∙ append_assoc (string_bytes c.loop-left.text) (later_marks_text now) (later_marks_text later)
    ∙ ap (λ t. string_bytes c.loop-left.text ++ t) (sym (later_marks_text-append now later) ∙ ap later_marks_text parts)
    ∙ c.loop-left.invariant
