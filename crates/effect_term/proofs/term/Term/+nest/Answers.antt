use Rattle.std.proofs.{Common.{rules, arith, ap, ◌≡◌, ◌≤◌, ℕ, List, drop, length}, lemmas.List.drop_all}
use Rattle.effect_term.{proofs.{Caps.{max_capped, one_above_capped}, Rows.nests_of-row}, specs.{Sizes.deepest, declared.term.Term.{Term, TheViews.the_lemmas}}}
use Rattle.effect_term.proofs.term.Term.+nest.Goals as goal

none_left : (n : ℕ) (ts : List Term) → length ts ≤ n → deepest (drop n ts) ≡ 0
none_left n ts l = ap deepest (drop_all n ts l)

pub loop-t-init : goal.loop-t-init
loop-t-init t c = search (rules, the_lemmas, nests_of-row)

pub returns-after-loop-t : goal.returns-after-loop-t
returns-after-loop-t t c = grind (arith, none_left c.loop-t.t-index c.deref-t-items.result.now)

pub returns-in-BracketCase : goal.returns-in-BracketCase
returns-in-BracketCase t c = grind (arith, max_capped, one_above_capped)

pub returns-in-Join : goal.returns-in-Join
returns-in-Join t c = grind (arith, max_capped, one_above_capped)

pub returns-in-Guarantee : goal.returns-in-Guarantee
returns-in-Guarantee t c = grind (arith, max_capped, one_above_capped)

pub returns-in-OnCancel : goal.returns-in-OnCancel
returns-in-OnCancel t c = grind (arith, max_capped, one_above_capped)

pub returns-in-Let : goal.returns-in-Let
returns-in-Let t c = grind (arith, max_capped, one_above_capped)
