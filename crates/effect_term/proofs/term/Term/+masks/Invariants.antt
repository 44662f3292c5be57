use Rattle.std.proofs.Common.{◌≡◌, ◌-◌, ◌^◌, ◌<◌, min, max, drop}
use Rattle.effect_term.specs.Masks.{masks_of, most_masks}
use Rattle.effect_term.proofs.term.Term.+masks.Given as goal

abbrev pub invariant-loop-t : goal.invariant-loop-t
invariant-loop-t l =
    (l.most < 2 ^ 64) × (min (max l.most (most_masks (drop l.t-index l.t-items))) (2 ^ 64 - 1) ≡ min (masks_of l.self) (2 ^ 64 - 1))
