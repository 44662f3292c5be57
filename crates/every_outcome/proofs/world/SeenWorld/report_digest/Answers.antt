use Rattle.std.{proofs.Common.{◌≡◌, List, map, sym, ap, ◌∙◌}, specs.List.fold}
use Rattle.fiber_frames.specs.Fiber.{Fiber}
use Rattle.every_schedule.specs.Digests.{report_digest, with_report}
use Rattle.every_outcome.{specs.Places.{kept_report, report_at, with_says}, proofs.Stepping.report_stays}
use Rattle.every_outcome.proofs.world.SeenWorld.report_digest.Goals as goal

pub returns : goal.returns
returns g c =
    let says = with_says g.row.SAYS in
    let s = c.self.inside in
    let here : report_at says c.args.self.now ≡ record { fibers = map (kept_report says) s.core.world.fibers } =
    ap (report_at says) (sym c.self.view_is) ∙ report_stays says s.core.limits s.core.world in
    c.digest_of.ensures ∙ ap (λ (l : List Fiber). fold with_report 1 (map (kept_report says) l)) c.fibers.ensures
    ∙ sym (ap report_digest here)
