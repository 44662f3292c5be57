use Rattle.std.{proofs.Common.{◌≡◌, ◌-◌, ◌<◌, ◌++◌, ℕ, List, [], ◌∷◌, length, drop, take, get_or, sym, ap, ◌∙◌, rules, subst}, specs.Prelude.string_bytes}
use Rattle.text_io.{specs.Reading.HasWritten, proofs.WriteLemmas.{behind, write_all, write_more}}
use Rattle.text_io.proofs.schedule_items.schedule_text.Goals as goal

pub returns-then-is_empty-2 : goal.returns-then-is_empty-2
returns-then-is_empty-2 c =
    let times = c.run_len-times.result in
    let rest = c.runs.rest.now in
    let more : string_bytes c.push_str.new.self ≡ string_bytes c.runs.text ++ string_bytes c.in_ok-item.item = search rules in
    let none : length (take (length rest - times) (drop times rest)) ≡ 0 = search rules in
    write_all (string_bytes c.runs.text) rest c.args.entries.now (string_bytes c.in_ok-item.item) (string_bytes c.push_str.new.self)
    (get_or rest 0 0) times c.runs.invariant c.in_ok-item.ensures c.run_len-times.ensures.run more (ap length (sym (behind times rest)) ∙ none)
    c.requires.few

pub runs-preserved : goal.runs-preserved
runs-preserved c =
    let times = c.run_len-times.result in
    let rest = c.runs.rest.now in
    let more : string_bytes c.push_str-in-runs.new.self ≡ (string_bytes c.runs.text ++ string_bytes c.in_ok-item.item) ++ 32 ∷ [] = search rules in
    let there : 0 < length (take (length rest - times) (drop times rest)) = search rules in
    let some : 0 < length (drop times rest) = subst (λ (xs : List ℕ). 0 < length xs) (behind times rest) there in
    subst (λ (xs : List ℕ). HasWritten (string_bytes c.push_str-in-runs.new.self) xs c.args.entries.now) (sym (behind times rest))
    (write_more (string_bytes c.runs.text) rest c.args.entries.now (string_bytes c.in_ok-item.item) (string_bytes c.push_str-in-runs.new.self)
    (get_or rest 0 0) times c.runs.invariant c.in_ok-item.ensures c.run_len-times.ensures.run more some)
