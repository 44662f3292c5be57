use Rattle.std.proofs.{Common.{rules, arith, ap, ◌≡◌, ◌≤◌, ℕ, List, drop, length}, lemmas.List.drop_all}
use Rattle.effect_term.{proofs.Rows.most_masks_of-row, specs.{Masks.most_masks, declared.term.Term.{Term, TheViews.the_lemmas}}}
use Rattle.effect_term.proofs.term.Term.+masks.Goals as goal

none_left : (n : ℕ) (ts : List Term) → length ts ≤ n → most_masks (drop n ts) ≡ 0
none_left n ts l = ap most_masks (drop_all n ts l)

pub loop-t-init : goal.loop-t-init
loop-t-init t c = search (rules, the_lemmas, most_masks_of-row)

pub returns-after-loop-t : goal.returns-after-loop-t
returns-after-loop-t t c = grind (arith, none_left c.loop-t.t-index c.deref-t-items.result.now)
