-- Claims that are kept of those that were found.
use Rattle.std.specs.Prelude.{List}
use Rattle.std.specs.List.{All}
use Rattle.world_search.specs.Lists.{IsMore}
use Rattle.world_search.proofs.Lists.{more_get}
use Rattle.every_schedule.proofs.Told.{all_at, all_from}

-- what holds of each element of a list holds of each element of its first part
pub all_kept : {A : Type 0} (P : A → Type 0) (xs ys : List A) → IsMore xs ys → All P ys → All P xs
all_kept P xs ys more h = all_from P xs (λ i x e. all_at P ys i x (more_get xs ys i x more e) h)
