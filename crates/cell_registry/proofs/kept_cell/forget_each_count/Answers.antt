use Rattle.cell_registry.proofs.Prelude.{◌≡◌, ◌+◌, ◌++◌, suc, List, ap, arith, drop, get_or, map, set, take, ◌∙◌, Cell, uncounted}
use Rattle.cell_registry.proofs.Uncounting.{uncount_next}
use Rattle.cell_registry.proofs.kept_cell.forget_each_count.Goals as goal

pub loop-cell-preserved : goal.loop-cell-preserved
loop-cell-preserved c =
    let cs = c.args.cells.now in
    let i = c.loop-cell.cell-index in
    let x = c.cell-item.result in
    let before = c.loop-cell.invariant in
    let here : c.forget_count.new.self ≡ uncounted (get_or (map uncounted (take i cs) ++ drop i cs) i x) =
    c.forget_count.ensures ∙ ap (λ (l : List Cell). uncounted (get_or l i x)) before in
    let test = c.loop-cell-test.true in
    let long = c.loop-cell.auto.cells in
    let next : suc i ≡ i + 1 = omega arith in
    ap (λ (l : List Cell). set l i c.forget_count.new.self) before
    ∙ uncount_next cs i c.forget_count.new.self x (omega arith) here
    ∙ ap (λ k. map uncounted (take k cs) ++ drop k cs) next
