-- The core under a schedule, as a search over places sees it.
use Rattle.std.{proofs.Common.{◌≡◌, ℕ, List, [], ◌∷◌, Result, Ok, Err, refl, sym, ap, ◌∙◌}, specs.List.fold}
use Rattle.derived_ops.specs.Tree.{Tree}
use Rattle.cell_registry.{specs.{declared.limits.{Limits.Limits, RunError.RunError}, Cells.Cells}, proofs.Forgetting.opening_unawaited}
use Rattle.scheduled_core.specs.{Core.{World, core, entered, first_world, reported}, Finals.IsSettled}
use Rattle.every_schedule.{specs.Places.{Place, bare, bared, first_place, placed, report_at, stepped, unnoted}, proofs.Bare.bare_step}
use Rattle.world_search.specs.Systems as search

-- a schedule leads in the search to the place of the core's world, without the notes of joins
pub placed_run : (k : Limits) (x : Result World RunError) (s : List ℕ) →
    search.run stepped (bared (placed k x)) s ≡ bared (placed k (fold (entered k) x s))
placed_run k x [] = refl
placed_run k (Ok w) (f ∷ s) =
    ap (λ (y : Result Place RunError). search.run stepped y s) (bare_step (record { limits = k; world = w }) f)
    ∙ placed_run k (entered k (Ok w) f) s
placed_run k (Err e) (f ∷ s) = placed_run k (Err e) s

pub first_bare : (code : Tree) (k : Limits) → bare (first_place code k) ≡ first_place code k
first_bare code k =
    ap (λ (s : Cells). let p : Place = record { limits = k; world = record { fibers = (first_world code k).fibers; cells = s } } in p) (opening_unawaited k)

pub core_run : (code : Tree) (k : Limits) (s : List ℕ) → search.run stepped (Ok (first_place code k)) s ≡ bared (placed k (core code k s))
unfolding core
core_run code k s =
    ap (λ (p : Place). search.run stepped (Ok p) s) (sym (first_bare code k))
    ∙ placed_run k (Ok (first_world code k)) s

-- the reports are the same
reported_placed : (k : Limits) (x : Result World RunError) → search.reported stepped report_at (bared (placed k x)) ≡ reported x
reported_placed k (Ok w) = refl
reported_placed k (Err e) = refl

run_reported : (k : Limits) (w : World) (s : List ℕ) →
    search.reported stepped report_at (search.run stepped (Ok record { limits = k; world = unnoted w }) s) ≡ reported (fold (entered k) (Ok w) s)
run_reported k w s = ap (search.reported stepped report_at) (placed_run k (Ok w) s) ∙ reported_placed k (fold (entered k) (Ok w) s)

pub settles : (k : Limits) (w : World) → search.IsSettled stepped report_at record { limits = k; world = unnoted w } → IsSettled k w
settles k w h = λ s. sym (run_reported k w s) ∙ h s

pub settles_place : (k : Limits) (w : World) → IsSettled k w → search.IsSettled stepped report_at record { limits = k; world = unnoted w }
settles_place k w h = λ s. run_reported k w s ∙ h s
