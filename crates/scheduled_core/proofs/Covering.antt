-- Lists of reports and faults that leave nothing out.
use Rattle.std.proofs.Common.{Result, Ok, subst}
use Rattle.derived_ops.specs.Tree.{Tree}
use Rattle.cell_registry.specs.declared.limits.{Limits.Limits, RunError.RunError}
use Rattle.scheduled_core.specs.{declared.report.Report.Report, Core.World, Covers.{End, IsAccounted, IsAmong, IsInEachCover}}
use Rattle.scheduled_core.specs.Finals.{IsSettledReport}

-- a settled report is in each list that covers every schedule
pub settled_listed : (code : Tree) (k : Limits) (report : Report) → IsSettledReport code k report → IsInEachCover code k report
settled_listed code k report h ends covers =
    let at : IsAccounted (λ (e : End). e) k ends (Ok h.world) =
    subst (λ (x : Result World RunError). IsAccounted (λ (e : End). e) k ends x) h.leads (covers h.schedule) in
    subst (λ (e : End). IsAmong (λ (d : End). d) ends e) h.reports (at h.settled)
