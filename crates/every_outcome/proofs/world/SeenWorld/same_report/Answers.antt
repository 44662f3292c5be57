use Rattle.std.proofs.Common.{◌≡◌, map, sym, ap, ◌∙◌}
use Rattle.fiber_frames.specs.Fiber.{outcome_of}
use Rattle.every_outcome.specs.Places.{Place, marks_of, report_at, shown, with_says}
use Rattle.every_outcome.proofs.SameReports.{same_marks, same_outcomes, same_reports}
use Rattle.every_outcome.proofs.world.SeenWorld.same_report.Goals as goal

pub returns-then-not-same_ends-clause-no : goal.returns-then-not-same_ends-clause-no
returns-then-not-same_ends-clause-no g c = λ is same.
    let says = with_says g.row.SAYS in
    let a = c.self.inside.core in
    let b = c.other.inside.core in
    let here : report_at says record { limits = a.limits; world = Rattle.every_outcome.specs.Places.unmarked_world says a.world } ≡
    report_at says record { limits = b.limits; world = Rattle.every_outcome.specs.Places.unmarked_world says b.world } =
    ap (report_at says) c.self.view_is ∙ same ∙ sym (ap (report_at says) c.other.view_is) in
    c.same_ends.ensures.no c.if-not-same_ends.true
    (ap (map outcome_of) c.fibers.ensures ∙ same_outcomes says a.limits b.limits a.world b.world here ∙ ap (map outcome_of) (sym c.fibers-2.ensures))

pub returns-clause-yes : goal.returns-clause-yes
returns-clause-yes g c = λ is.
    let says = with_says g.row.SAYS in
    let a = c.self.inside.core in
    let b = c.other.inside.core in
    let outcomes : map outcome_of a.world.fibers ≡ map outcome_of b.world.fibers =
    ap (map outcome_of) (sym c.fibers.ensures) ∙ c.same_ends.ensures.yes c.if-not-same_ends.false ∙ ap (map outcome_of) c.fibers-2.ensures in
    let marks : map marks_of (map (shown says) a.world.fibers) ≡ map marks_of (map (shown says) b.world.fibers) =
    ap (λ (p : Place). map marks_of p.world.fibers) (sym c.self.invariant.1) ∙ c.has_marks_of.ensures.yes is ∙
    ap (λ (p : Place). map marks_of p.world.fibers) c.other.invariant.1 in
    ap (report_at says) (sym c.self.view_is) ∙ same_reports says a.limits b.limits a.world b.world outcomes marks ∙
    ap (report_at says) c.other.view_is

pub returns-clause-no : goal.returns-clause-no
returns-clause-no g c = λ is same.
    let says = with_says g.row.SAYS in
    let a = c.self.inside.core in
    let b = c.other.inside.core in
    let here : report_at says record { limits = a.limits; world = Rattle.every_outcome.specs.Places.unmarked_world says a.world } ≡
    report_at says record { limits = b.limits; world = Rattle.every_outcome.specs.Places.unmarked_world says b.world } =
    ap (report_at says) c.self.view_is ∙ same ∙ sym (ap (report_at says) c.other.view_is) in
    c.has_marks_of.ensures.no is
    (ap (λ (p : Place). map marks_of p.world.fibers) c.self.invariant.1 ∙ same_marks says a.limits b.limits a.world b.world here ∙
    ap (λ (p : Place). map marks_of p.world.fibers) (sym c.other.invariant.1))
