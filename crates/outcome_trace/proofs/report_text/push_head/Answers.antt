use Rattle.std.proofs.Common.{◌≡◌, ◌-◌, [], ◌++◌, codes, drop, length, string_bytes, take, sym, ap, ◌∙◌, subst, arith, append_assoc, append-nil}
use Rattle.std.{proofs.lemmas.List.drop_all, specs.{Prelude.OnOk, Fmt.decimal, Str.IsAscii}}
use Rattle.outcome_trace.{specs.ReportText.outcome_text, proofs.ReportLemmas.{head-ascii, take-to_end}}
use Rattle.outcome_trace.proofs.report_text.push_head.Goals as goal

pub push_ascii-requires : goal.push_ascii-requires
push_ascii-requires c =
    let room = c.put_number-start.new.room in
    let start = c.put_number-start.result in
    let number = decimal c.args.number in
    let outcome = outcome_text c.args.outcome in
    let behind = c.args.behind.now in
    let long : length room ≡ 1024 = omega arith in
    let past : drop 1024 c.args.room.now ≡ [] = drop_all 1024 c.args.room.now (omega arith) in
    let told : take (1024 - start) (drop start room) ≡ codes "fiber " ++ (number ++ (codes " " ++ (outcome ++ behind))) =
    take-to_end 1024 start room long ∙ c.put_number-start.ensures.text
    ∙ append_assoc (codes "fiber ") number (drop c.put_outcome-end.result c.put_outcome-end.new.room)
    ∙ ap (λ t. codes "fiber " ++ (number ++ t)) c.put_outcome-end.ensures.text
    ∙ ap (λ t. codes "fiber " ++ (number ++ (codes " " ++ (outcome ++ t))))
    (c.put-end.ensures.text ∙ ap (λ t. behind ++ t) past ∙ append-nil behind) in
    subst IsAscii (sym told) (head-ascii number outcome behind c.put_number-start.ensures.ascii c.put_outcome-end.ensures.ascii c.requires.ascii)

pub returns : goal.returns
returns c =
    let room = c.put_number-start.new.room in
    let start = c.put_number-start.result in
    let number = decimal c.args.number in
    let outcome = outcome_text c.args.outcome in
    let behind = c.args.behind.now in
    let long : length room ≡ 1024 = omega arith in
    let past : drop 1024 c.args.room.now ≡ [] = drop_all 1024 c.args.room.now (omega arith) in
    let told : take (1024 - start) (drop start room) ≡ codes "fiber " ++ (number ++ (codes " " ++ (outcome ++ behind))) =
    take-to_end 1024 start room long ∙ c.put_number-start.ensures.text
    ∙ append_assoc (codes "fiber ") number (drop c.put_outcome-end.result c.put_outcome-end.new.room)
    ∙ ap (λ t. codes "fiber " ++ (number ++ t)) c.put_outcome-end.ensures.text
    ∙ ap (λ t. codes "fiber " ++ (number ++ (codes " " ++ (outcome ++ t))))
    (c.put-end.ensures.text ∙ ap (λ t. behind ++ t) past ∙ append-nil behind) in
    subst (λ t. OnOk c.push_ascii.result (string_bytes c.push_ascii.new.text ≡ string_bytes c.args.text.now ++ t))
    told c.push_ascii.ensures
