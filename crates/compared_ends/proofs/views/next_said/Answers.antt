use Rattle.std.{proofs.{Common.{◌≡◌, ◌∙◌, refl, sym, arith}, lemmas.Option.slice_get_read}, specs.{Prelude.{None, Some}, List.slice_get}}
use Rattle.compared_ends.{specs.Views.value_said, proofs.ValuesSaid.{none_of, silent_next, stops_here, stops_past}}
use Rattle.compared_ends.proofs.views.next_said.Goals as goal

pub loop-index-preserved : goal.loop-index-preserved
loop-index-preserved c =
    let marks = c.args.marks.now in
    let at : slice_get marks c.loop-index.index ≡ Some c.index-marks-index.result =
    slice_get_read marks _ c.loop-index.index c.index-marks-index.result refl (omega arith) c.index-marks-index.is in
    let silent : value_said c.index-marks-index.result ≡ None =
    sym c.value_said.ensures ∙ none_of c.value_said.result c.is_none.result c.is_none.ensures c.if-is_none.true in
    record {
      within = omega arith;
      none = silent_next marks c.loop-index.index c.index-marks-index.result at silent ∙ c.loop-index.invariant.none;
    }

pub returns-else-is_none-clause-stops : goal.returns-else-is_none-clause-stops
returns-else-is_none-clause-stops c =
    let marks = c.args.marks.now in
    let at : slice_get marks c.loop-index.index ≡ Some c.index-marks-index.result =
    slice_get_read marks _ c.loop-index.index c.index-marks-index.result refl (omega arith) c.index-marks-index.is in
    stops_here marks c.loop-index.index c.index-marks-index.result c.value_said.result c.is_none.result at c.value_said.ensures c.is_none.ensures
    c.if-is_none.false

pub returns-after-loop-index-clause-stops : goal.returns-after-loop-index-clause-stops
returns-after-loop-index-clause-stops c = stops_past c.args.marks.now c.loop-index.index (omega arith)
