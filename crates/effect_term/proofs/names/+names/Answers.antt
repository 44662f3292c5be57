use Rattle.std.proofs.Common.{arith, rules}
use Rattle.effect_term.{specs.declared.term.Term.TheViews.the_lemmas, proofs.{Faults.{faults, uses_of_all-at}, Rows.{sizes_of-row, total_size-at}}}
use Rattle.effect_term.proofs.Rows.{uses_of_row-row}
use Rattle.effect_term.proofs.names.+names.Goals as goal

pub check_parts-check_in_order-requires : goal.check_parts-check_in_order-requires
check_parts-check_in_order-requires t c = search (rules, the_lemmas, sizes_of-row)

pub check_parts-returns-in-Seq-clause-good : goal.check_parts-returns-in-Seq-clause-good
check_parts-returns-in-Seq-clause-good t c = search (rules, the_lemmas, uses_of_row-row)

pub check_parts-returns-in-Seq-clause-fault : goal.check_parts-returns-in-Seq-clause-fault
check_parts-returns-in-Seq-clause-fault t c = search (rules, the_lemmas, uses_of_row-row)

pub check_all-check_names-requires : goal.check_all-check_names-requires
check_all-check_names-requires t c =
    let one = total_size-at c.args.terms.now c.loop-t.t-index c.t-item.result c.loop-t-test.true c.t-item.is in
    omega (arith, one)

pub check_all-returns-in_err-check_names-clause-fault :
    goal.check_all-returns-in_err-check_names-clause-fault
check_all-returns-in_err-check_names-clause-fault t c =
    let here = uses_of_all-at c.args.kinds.now.items c.args.terms.now c.loop-t.t-index c.t-item.result
    c.loop-t-test.true c.t-item.is in
    grind (arith, faults, c.loop-t.invariant, here)

pub check_all-loop-t-preserved : goal.check_all-loop-t-preserved
check_all-loop-t-preserved t c =
    let here = uses_of_all-at c.args.kinds.now.items c.args.terms.now c.loop-t.t-index c.t-item.result
    c.loop-t-test.true c.t-item.is in
    record { same = cc; rest = grind (arith, faults, here) }
