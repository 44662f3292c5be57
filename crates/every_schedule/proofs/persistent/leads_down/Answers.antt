use Rattle.std.proofs.Common.{refl, ◌∙◌}
use Rattle.every_schedule.specs.Private.Standing.{here}
use Rattle.every_schedule.proofs.Numbered.{one_world}
use Rattle.every_schedule.proofs.Sets.{row_on}
use Rattle.every_schedule.proofs.persistent.leads_down.Goals as goal

pub go_to-requires : goal.go_to-requires
go_to-requires c =
    let p = here c.args.current.now in (
      p.limits,
      record {
        place = p;
        limits = refl;
        is = row_on c.number.new.self c.is_lighter.new.current c.in_ok-registry.registry c.as_slice.result.now p c.is_lighter.ensures.onward
            (c.as_slice.ensures.value ∙ c.in_ok-numbers.ensures.items ∙ c.numbers.ensures) c.in_ok-registry.ensures.row;
        fits = c.requires.fits;
      },
    )

pub returns-clause-here : goal.returns-clause-here
returns-clause-here c =
    let p = here c.args.current.now in
    let t = c.is_lighter.new.current in
    one_world p.limits t.fibers t.registries (record { registry = c.in_ok-registry.registry; fibers = c.as_slice.result.now }) p (here c.go_to.new.self)
    (row_on c.number.new.self t c.in_ok-registry.registry c.as_slice.result.now p c.is_lighter.ensures.onward
    (c.as_slice.ensures.value ∙ c.in_ok-numbers.ensures.items ∙ c.numbers.ensures) c.in_ok-registry.ensures.row) refl c.in_ok-go_to.ensures.here
