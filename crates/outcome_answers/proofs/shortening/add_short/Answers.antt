use Rattle.std.proofs.Common.{◌≡◌, Bool, cond, List, [], ◌∷◌, ◌++◌, sym, ap, ◌∙◌, append-nil}
use Rattle.every_schedule.specs.declared.exploration.Answer.{Answer}
use Rattle.outcome_answers.specs.SaysFound.{short_in}
use Rattle.outcome_answers.proofs.shortening.add_short.Goals as goal

pub returns-then-not-is_short : goal.returns-then-not-is_short
returns-then-not-is_short c =
    let old = c.args.short.now.items in
    let a = c.args.answer.now in
    let none : short_in c.args.entries (a ∷ []) ≡ [] = ap (λ (t : Bool). cond t (a ∷ []) []) (sym c.is_short.ensures ∙ c.if-not-is_short.true) in
    sym (ap (λ (l : List Answer). old ++ l) none ∙ append-nil old)

pub returns : goal.returns
returns c =
    let old = c.args.short.now.items in
    let a = c.args.answer.now in
    let one : short_in c.args.entries (a ∷ []) ≡ a ∷ [] = ap (λ (t : Bool). cond t (a ∷ []) []) (sym c.is_short.ensures ∙ c.if-not-is_short.false) in
    c.in_ok-add.ensures ∙ ap (λ (b : Answer). old ++ b ∷ []) c.in_ok-one.ensures ∙ sym (ap (λ (l : List Answer). old ++ l) one)
