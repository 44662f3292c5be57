use Rattle.std.proofs.Common.{◌<◌, length, Ok, sym, ap, subst}
use Rattle.world_search.specs.declared.landings.Landing.{Landing}
use Rattle.every_outcome.{specs.{Places.with_says, Private.Telling.{IsEnd, IsWithin}}, proofs.Told.at_within}
use Rattle.every_outcome.proofs.reporting.end.Goals as goal

pub returns-in_ok-report-in-World : goal.returns-in_ok-report-in-World
returns-in_ok-report-in-World g c =
    let says = with_says g.row.SAYS in
    let kept = c.args.worlds.now in
    let low : c.in-World.world < length kept.places = subst (IsWithin kept) c.in-World.is c.requires in
    let p = at_within kept.places c.in-World.world low in
    subst (λ (l : Landing). IsEnd says kept l (Ok c.in_ok-report-in-World.field-0)) (sym c.in-World.is)
    (p.0, p.1, ap Ok (c.in_ok-report-in-World.ensures p.0 p.1))
