use Rattle.std.proofs.{Common.{rules, arith, ap, ◌≡◌, ◌≤◌, ℕ, List, drop, length}, lemmas.List.drop_all}
use Rattle.effect_term.{proofs.Rows.sizes_of-row, specs.{Sizes.total_size, declared.term.Term.{Term, TheViews.the_lemmas}}}
use Rattle.effect_term.proofs.term.Term.+size.Goals as goal

none_left : (n : ℕ) (ts : List Term) → length ts ≤ n → total_size (drop n ts) ≡ 0
none_left n ts l = ap total_size (drop_all n ts l)

pub loop-t-init : goal.loop-t-init
loop-t-init t c = search (rules, the_lemmas, sizes_of-row)

pub returns-after-loop-t : goal.returns-after-loop-t
returns-after-loop-t t c = grind (arith, none_left c.loop-t.t-index c.deref-t-items.result.now)
