use Rattle.std.proofs.Common.{◌≡◌, ℕ, ◌≤◌, List, get_or, length, Ok, sym, ap, ap₂, ◌∙◌, arith}
use Rattle.std.proofs.lemmas.List.{take_all}
use Rattle.std.proofs.lemmas.List.Sums.{fold_more}
use Rattle.derived_ops.specs.Expansion.{code_of}
use Rattle.derived_ops.specs.Reading.{source_of}
use Rattle.world_search.specs.Systems.{entered, run}
use Rattle.every_schedule.specs.Claims.{View, first_view, noted, seeing, viewed}
use Rattle.every_schedule.specs.Places.{Place, first_place, stepped}
use Rattle.every_schedule.specs.Private.Stopping.{meets_here}
use Rattle.every_schedule.proofs.Seeing.{met_core}
use Rattle.every_schedule.proofs.claimed.leads.Goals as goal

pub loop-fiber-init : goal.loop-fiber-init
loop-fiber-init c =
    ap₂ (λ (p : Place) (l : List ℕ). let v : View = record { place = p; seen = l } in Ok v) (sym c.in_ok-world.ensures) (sym c.new-seen.ensures.items)

pub loop-fiber-preserved : goal.loop-fiber-preserved
loop-fiber-preserved c =
    let known = c.loop-fiber.invariant in
    let first = first_view (first_place (code_of (source_of c.args.program.now)) c.args.limits) in
    let i = c.loop-fiber.fiber-index in
    let f = get_or c.args.schedule.now i 0 in
    let seen = c.loop-fiber.seen.items in
    let set = c.in_ok-note_ref.ensures ∙ ap (noted seen) c.stored_by-stored.ensures in
    fold_more (entered (viewed stepped)) (Ok first) c.args.schedule.now i 0 c.loop-fiber-test.true ∙
    ap (λ x. entered (viewed stepped) x f) known ∙ ap₂ seeing (sym set) c.in-Ok.ensures.goes

pub returns-clause-meets : goal.returns-clause-meets
returns-clause-meets c = λ yes.
    let code = code_of (source_of c.args.program.now) in
    let k = c.args.limits in
    let first = first_view (first_place code k) in
    let here : View = record { place = c.loop-fiber.world; seen = c.loop-fiber.seen.items } in
    let past : length c.args.schedule.now ≤ c.loop-fiber.fiber-index = omega arith in
    let led : run (viewed stepped) (Ok first) c.args.schedule.now ≡ Ok here =
    ap (run (viewed stepped) (Ok first)) (sym (take_all c.loop-fiber.fiber-index c.args.schedule.now past)) ∙ c.loop-fiber.invariant in
    met_core code k c.args.claim.now c.args.schedule.now here led
    (ap (λ (v : View). meets_here v c.args.claim.now) (sym c.new.ensures) ∙ sym c.in_ok-met.ensures ∙ yes)
