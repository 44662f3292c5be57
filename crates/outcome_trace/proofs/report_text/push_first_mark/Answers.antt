use Rattle.std.proofs.{Common.{◌≡◌, ◌-◌, [], ◌++◌, codes, drop, length, string_bytes, take, sym, ap, ◌∙◌, subst, arith, append-nil}, lemmas.List.drop_all}
use Rattle.std.specs.{Prelude.OnOk, Str.IsAscii}
use Rattle.outcome_trace.{specs.ReportText.mark_text, proofs.ReportLemmas.{first_mark-ascii, take-to_end}}
use Rattle.outcome_trace.proofs.report_text.push_first_mark.Goals as goal

pub push_ascii-requires : goal.push_ascii-requires
push_ascii-requires c =
    let room = c.put_mark-start.new.room in
    let start = c.put_mark-start.result in
    let long : length room ≡ 1024 = omega arith in
    let past : drop 1024 c.args.room.now ≡ [] = drop_all 1024 c.args.room.now (omega arith) in
    let told : take (1024 - start) (drop start room) ≡ codes ": " ++ mark_text c.args.mark =
    take-to_end 1024 start room long ∙ c.put_mark-start.ensures.text
    ∙ ap (λ t. codes ": " ++ (mark_text c.args.mark ++ t)) past ∙ ap (λ t. codes ": " ++ t) (append-nil (mark_text c.args.mark)) in
    subst IsAscii (sym told) (first_mark-ascii c.args.mark c.put_mark-start.ensures.ascii)

pub returns : goal.returns
returns c =
    let room = c.put_mark-start.new.room in
    let start = c.put_mark-start.result in
    let long : length room ≡ 1024 = omega arith in
    let past : drop 1024 c.args.room.now ≡ [] = drop_all 1024 c.args.room.now (omega arith) in
    let told : take (1024 - start) (drop start room) ≡ codes ": " ++ mark_text c.args.mark =
    take-to_end 1024 start room long ∙ c.put_mark-start.ensures.text
    ∙ ap (λ t. codes ": " ++ (mark_text c.args.mark ++ t)) past ∙ ap (λ t. codes ": " ++ t) (append-nil (mark_text c.args.mark)) in
    subst (λ t. OnOk c.push_ascii.result (string_bytes c.push_ascii.new.text ≡ string_bytes c.args.text.now ++ t))
    told c.push_ascii.ensures
