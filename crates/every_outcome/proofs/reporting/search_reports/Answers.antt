use Rattle.std.{proofs.Common.{◌≡◌, ℕ, List, length, sym, ap, subst, arith}, specs.{Prelude.Some, List.{All, slice_get}}}
use Rattle.derived_ops.specs.{Expansion.code_of, Reading.source_of}
use Rattle.cell_registry.specs.declared.limits.Limits.{Limits}
use Rattle.scheduled_core.specs.Core.{core}
use Rattle.every_schedule.specs.{declared.exploration.Answer.Answer, Explored.{IsListed, ListOnce}}
use Rattle.every_outcome.specs.{Outcomes.counted, Places.{Place, first_place, with_says}, Reports.{IsReported, Reaches, reports}}
use Rattle.every_outcome.proofs.Told.{all_under, all_within, covered, covered_under, numbered, once, reached, settled}
use Rattle.std.specs.Prelude.{Ok}
use Rattle.std.proofs.Common.{◌<◌}
use Rattle.every_outcome.proofs.reporting.search_reports.Goals as goal

pub told-requires : goal.told-requires
told-requires g c =
    let says = with_says g.row.SAYS in
    let h = c.requires.limits in
    let start = first_place says (code_of (source_of c.args.program.now)) (counted c.args.limits 1099511627775) in
    let first : slice_get c.in_ok-worlds.worlds.places 0 ≡ Some start = ap (λ (l : List Place). slice_get l 0) c.in_ok-worlds.ensures.places in (
      omega arith,
      (
        record {
          some_fiber = h.some_fiber;
          fibers = h.fibers;
          some_ref = h.some_ref;
          refs = h.refs;
          some_deferred = h.some_deferred;
          deferreds = h.deferreds;
          some_count = omega arith;
          count = omega arith;
        },
        all_within says c.search.new.worlds start c.in_ok-found.found.answers.items (c.in_ok-found.ensures.each start first),
      ),
    )

pub returns-clause-all : goal.returns-clause-all
returns-clause-all g c = λ complete count schedule.
    let says = with_says g.row.SAYS in
    let code = code_of (source_of c.args.program.now) in
    let k : Limits = counted c.args.limits 1099511627775 in
    let start = first_place says code k in
    let first : slice_get c.in_ok-worlds.worlds.places 0 ≡ Some start = ap (λ (l : List Place). slice_get l 0) c.in_ok-worlds.ensures.places in
    let end = core code (counted c.args.limits count) schedule in
    subst (λ (l : List Answer). IsReported says c.args.limits l end) (sym c.new-2.ensures)
    (covered_under says c.args.limits 1099511627775 c.in_ok-answers.answers.items end
    (covered says c.search.new.worlds code k c.in_ok-found.found.answers.items c.in_ok-answers.answers.items c.in_ok-answers.ensures.told
    (omega arith) c.in_ok-worlds.ensures.reached count schedule (c.in_ok-found.ensures.all complete start first)))

pub returns-clause-settled : goal.returns-clause-settled
returns-clause-settled g c = λ complete count schedule w leads stays.
    let says = with_says g.row.SAYS in
    let code = code_of (source_of c.args.program.now) in
    let k : Limits = counted c.args.limits 1099511627775 in
    let start = first_place says code k in
    let first : slice_get c.in_ok-worlds.worlds.places 0 ≡ Some start = ap (λ (l : List Place). slice_get l 0) c.in_ok-worlds.ensures.places in
    subst (λ (l : List Answer). IsListed l (reports says (Ok w))) (sym c.new-2.ensures)
    (settled says c.search.new.worlds code k c.in_ok-found.found.answers.items c.in_ok-answers.answers.items c.in_ok-answers.ensures.told
    (omega arith) c.in_ok-worlds.ensures.reached count schedule w (c.in_ok-found.ensures.all complete start first) leads stays)

pub returns-clause-each : goal.returns-clause-each
returns-clause-each g c =
    let says = with_says g.row.SAYS in
    let code = code_of (source_of c.args.program.now) in
    let k : Limits = counted c.args.limits 1099511627775 in
    let start = first_place says code k in
    let first : slice_get c.in_ok-worlds.worlds.places 0 ≡ Some start = ap (λ (l : List Place). slice_get l 0) c.in_ok-worlds.ensures.places in
    subst (λ (l : List Answer). All (Reaches says code c.args.limits) l) (sym c.new-2.ensures)
    (all_under says code c.args.limits 1099511627775 c.in_ok-answers.answers.items
    (reached says c.search.new.worlds code k c.in_ok-found.found.answers.items c.in_ok-answers.answers.items c.in_ok-answers.ensures.told
    (omega arith) c.in_ok-worlds.ensures.reached (c.in_ok-found.ensures.each start first)))

pub returns-clause-once : goal.returns-clause-once
returns-clause-once g c =
    let says = with_says g.row.SAYS in
    let start = first_place says (code_of (source_of c.args.program.now)) (counted c.args.limits 1099511627775) in
    subst (λ (l : List Answer). ListOnce l) (sym c.new-2.ensures)
    (once says c.search.new.worlds start c.in_ok-found.found.answers.items c.in_ok-answers.answers.items c.in_ok-answers.ensures.told
    c.in_ok-answers.ensures.single c.in_ok-found.ensures.once)

pub returns-clause-numbers : goal.returns-clause-numbers
returns-clause-numbers g c =
    let says = with_says g.row.SAYS in
    let start = first_place says (code_of (source_of c.args.program.now)) (counted c.args.limits 1099511627775) in
    subst (λ (l : List Answer). All (λ a. All (λ (f : ℕ). f < 1000) a.schedule) l) (sym c.new-2.ensures)
    (numbered says c.search.new.worlds start c.in_ok-found.found.answers.items c.in_ok-answers.answers.items c.in_ok-answers.ensures.told)

pub returns-clause-stopped : goal.returns-clause-stopped
returns-clause-stopped g c = λ incomplete going.
    c.in_ok-found.ensures.stopped incomplete going (ap (λ (l : List Place). length l) c.in_ok-worlds.ensures.places)
