use Rattle.std.proofs.{Common.{rules, arith, ap, ◌≡◌, ◌≤◌, ℕ, List, drop, length}, lemmas.List.drop_all}
use Rattle.effect_term.{proofs.Rows.expansion_sizes_of-row, specs.{ExpansionSize.total_expansion_size, declared.term.Term.{Term, TheViews.the_lemmas}}}
use Rattle.effect_term.proofs.term.Term.+expansion_size.Goals as goal

none_left : (n : ℕ) (ts : List Term) → length ts ≤ n → total_expansion_size (drop n ts) ≡ 0
none_left n ts l = ap total_expansion_size (drop_all n ts l)

pub loop-t-init : goal.loop-t-init
loop-t-init t c = search (rules, the_lemmas, expansion_sizes_of-row)

pub returns-after-loop-t : goal.returns-after-loop-t
returns-after-loop-t t c = grind (arith, none_left c.loop-t.t-index c.deref-t-items.result.now)
