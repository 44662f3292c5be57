use Rattle.std.proofs.{Common.{◌≡◌, ◌+◌, ◌-◌, ◌<◌, ◌∷◌, ◌++◌, get_or, drop, take, length, sym, ◌∙◌, ap, subst, arith, rules, List, ℕ}, lemmas.List.get_or-drop}
use Rattle.std.{proofs.{lemmas.{List.length-drop, Str.lead_after_ascii}, Math.Seq.take_all}, specs.Fmt.decimal}
use Rattle.text_io.{specs.Reading.GoesOn, proofs.ScheduleLemmas.first_of}
use Rattle.text_io.proofs.schedule.quick_item.Goals as goal

-- behind the space, which is one byte, a character begins
pub range_from-requires : goal.range_from-requires
range_from-requires c = λ order.
    let bs = c.args.text.now in
    let d = c.in_ok-fiber.digits in
    let s = c.in_ok-times.space in
    let raw = c.as_bytes-bytes.result.now in
    let whole = take_all (length raw - d) (drop d raw) (let size = length-drop d raw in omega arith) in
    let g : GoesOn (drop d bs) c.in_ok-times.times s =
    subst (λ (l : List ℕ). GoesOn (drop d l) c.in_ok-times.times s) c.as_bytes-bytes.ensures.value
    (subst (λ (l : List ℕ). GoesOn l c.in_ok-times.times s) whole c.in_ok-times.ensures) in
    let within = g.within in
    let long = length-drop d bs in
    let space : get_or bs (d + s) 0 ≡ 32 = sym (get_or-drop d bs s 0) ∙ g.there in
    (omega arith, λ there high. lead_after_ascii bs (d + s) c.utf8.text (omega (arith, space)) there high)

pub returns : goal.returns
returns c =
    let bs = c.args.text.now in
    let d = c.in_ok-fiber.digits in
    let n = c.in_ok-fiber.fiber in
    let t = c.in_ok-times.times in
    let s = c.in_ok-times.space in
    let same = c.as_bytes-bytes.ensures.value in
    let number = c.in_ok-fiber.ensures in
    let few = number.0 in
    let raw = c.as_bytes-bytes.result.now in
    let whole = take_all (length raw - d) (drop d raw) (let size = length-drop d raw in omega arith) in
    let g : GoesOn (drop d bs) t s =
    subst (λ (l : List ℕ). GoesOn (drop d l) t s) same (subst (λ (l : List ℕ). GoesOn l t s) whole c.in_ok-times.ensures) in
    let x = first_of bs d n t s (subst (λ (l : List ℕ). take d l ≡ decimal n) same number.2) (omega arith)
    (subst (λ (l : List ℕ). d < length l) same number.1) g in
    (x.0, x.1, x.2 ∙ ap (λ (l : List ℕ). x.0 ++ 32 ∷ l) (search rules))
