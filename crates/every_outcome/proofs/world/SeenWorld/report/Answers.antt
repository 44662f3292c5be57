use Rattle.std.proofs.Common.{◌≡◌, List, map, sym, ap, ◌∙◌}
use Rattle.scheduled_core.specs.declared.report.{FiberReport.FiberReport, Report.Report}
use Rattle.every_outcome.{specs.Places.{kept_report, report_at, with_says}, proofs.Stepping.report_stays}
use Rattle.every_outcome.proofs.world.SeenWorld.report.Goals as goal

pub returns : goal.returns
returns g c =
    let says = with_says g.row.SAYS in
    let s = c.self.inside in
    let here : report_at says c.args.self.now ≡ record { fibers = map (kept_report says) s.core.world.fibers } =
    ap (report_at says) (sym c.self.view_is) ∙ report_stays says s.core.limits s.core.world in
    ap (λ (l : List FiberReport). let r : Report = record { fibers = l } in r)
    (c.new.ensures ∙ c.in_ok-reports.ensures ∙ ap (map (kept_report says)) c.fibers.ensures)
    ∙ sym here
