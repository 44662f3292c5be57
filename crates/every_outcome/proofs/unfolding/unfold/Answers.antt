use Rattle.std.proofs.{Common.{◌≡◌, ℕ, ◌≤◌, [], get_or, List, length, Ok, Err, refl, sym, ap, ◌∙◌, subst, arith}, lemmas.List.{take_all, Folds.fold_stuck}}
use Rattle.std.proofs.lemmas.List.Sums.{fold_more}
use Rattle.std.specs.Prelude.{Bool}
use Rattle.derived_ops.specs.{Expansion.code_of, Reading.source_of}
use Rattle.every_outcome.{specs.{Places.{Place, first_place, unmarked_place}, Private.Reduced.{IsTrail, leapt}}, proofs.Trails.{refused_with, trail_more}}
use Rattle.every_outcome.proofs.Trails.{trail_none, trail_whole}
use Rattle.cell_registry.specs.declared.limits.RunError.TheVariants as run
use Rattle.world_search.specs.Systems as search
use Rattle.every_outcome.proofs.unfolding.unfold.Goals as goal

pub loop-fiber-init : goal.loop-fiber-init
loop-fiber-init c =
    let code = code_of (source_of c.args.program.now) in
    let same = c.in_ok-world.ensures.first in
    record {
      fits = c.in_ok-world.ensures.fits;
      goes = λ says. ap Ok (sym (same says));
      trail = λ says.
          let first = first_place says code c.args.limits in
          subst (λ (l : List ℕ). IsTrail says [] l first (Ok (unmarked_place says c.in_ok-world.world))) (sym c.new-trail.ensures.items)
          (subst (λ (x : Place). IsTrail says [] [] first (Ok x)) (sym (same says)) (trail_none says [] first));
    }

pub leap-requires : goal.leap-requires
leap-requires c = c.loop-fiber.invariant.fits

pub loop-fiber-preserved : goal.loop-fiber-preserved
loop-fiber-preserved c =
    let known = c.loop-fiber.invariant in
    let code = code_of (source_of c.args.program.now) in
    let i = c.loop-fiber.fiber-index in
    let f = get_or c.args.schedule.now i 0 in
    record {
      fits = c.in-Ok.ensures.fits;
      goes = λ says.
          fold_more (search.entered (leapt says c.args.stores)) (Ok (first_place says code c.args.limits)) c.args.schedule.now i 0
          c.loop-fiber-test.true
          ∙ ap (λ x. search.entered (leapt says c.args.stores) x f) (known.goes says) ∙ c.in-Ok.ensures.goes says;
      trail = λ says.
          trail_more says [] c.loop-fiber.trail.items c.leap.new.trail.items (first_place says code c.args.limits)
          (unmarked_place says c.loop-fiber.world) (Ok (unmarked_place says c.leap.new.world)) (known.trail says) (c.in-Ok.ensures.trail says);
    }

pub returns-in-Err-clause-entries : goal.returns-in-Err-clause-entries
returns-in-Err-clause-entries c = λ says.
    let known = c.loop-fiber.invariant in
    let first = first_place says (code_of (source_of c.args.program.now)) c.args.limits in
    let i = c.loop-fiber.fiber-index in
    let f = get_or c.args.schedule.now i 0 in
    let here = unmarked_place says c.loop-fiber.world in
    let fault = c.in-Err.fault in
    let stops = refused_with fault run.NoMemory
    ((s : Bool) → (leapt s c.args.stores (unmarked_place s c.loop-fiber.world) f ≡ Err fault) ×
    IsTrail s c.loop-fiber.trail.items c.leap.new.trail.items (unmarked_place s c.loop-fiber.world) (Err fault))
    (c.is_memory.ensures c.if-is_memory.false) c.in-Err.ensures.stops in
    let led : search.run (leapt says c.args.stores) (Ok first) c.args.schedule.now ≡ Err fault =
    sym (fold_stuck (search.entered (leapt says c.args.stores)) (Err fault) (λ g. refl) (Ok first) c.args.schedule.now i 0 c.loop-fiber-test.true
    (ap (λ x. search.entered (leapt says c.args.stores) x f) (known.goes says) ∙ (stops says).0)) in
    trail_whole says c.args.stores first c.args.schedule.now c.leap.new.trail.items (Err fault)
    (trail_more says [] c.loop-fiber.trail.items c.leap.new.trail.items first here (Err fault) (known.trail says) (stops says).1) led

pub returns-clause-entries : goal.returns-clause-entries
returns-clause-entries c = λ says.
    let known = c.loop-fiber.invariant in
    let first = first_place says (code_of (source_of c.args.program.now)) c.args.limits in
    let past : length c.args.schedule.now ≤ c.loop-fiber.fiber-index = omega arith in
    let led : search.run (leapt says c.args.stores) (Ok first) c.args.schedule.now ≡ Ok (unmarked_place says c.loop-fiber.world) =
    ap (search.run (leapt says c.args.stores) (Ok first)) (sym (take_all c.loop-fiber.fiber-index c.args.schedule.now past)) ∙ known.goes says in
    trail_whole says c.args.stores first c.args.schedule.now c.loop-fiber.trail.items (Ok (unmarked_place says c.loop-fiber.world)) (known.trail says) led
