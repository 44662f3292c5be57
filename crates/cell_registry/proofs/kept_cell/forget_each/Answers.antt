use Rattle.cell_registry.proofs.Prelude.{◌≡◌, ◌+◌, ◌++◌, suc, List, ap, arith, drop, get_or, map, set, take, ◌∙◌, Cell, unawaited}
use Rattle.cell_registry.proofs.Forgetting.{forget_next}
use Rattle.cell_registry.proofs.kept_cell.forget_each.Goals as goal

pub loop-cell-preserved : goal.loop-cell-preserved
loop-cell-preserved c =
    let cs = c.args.cells.now in
    let i = c.loop-cell.cell-index in
    let x = c.cell-item.result in
    let before = c.loop-cell.invariant in
    let here : c.forget_wait.new.self ≡ unawaited (get_or (map unawaited (take i cs) ++ drop i cs) i x) =
    c.forget_wait.ensures ∙ ap (λ (l : List Cell). unawaited (get_or l i x)) before in
    let test = c.loop-cell-test.true in
    let long = c.loop-cell.auto.cells in
    let next : suc i ≡ i + 1 = omega arith in
    ap (λ (l : List Cell). set l i c.forget_wait.new.self) before
    ∙ forget_next cs i c.forget_wait.new.self x (omega arith) here
    ∙ ap (λ k. map unawaited (take k cs) ++ drop k cs) next
