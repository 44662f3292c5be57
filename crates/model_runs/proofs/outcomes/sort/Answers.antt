use Rattle.std.proofs.lemmas.List.Sorted.{IsPermutation-trans}
use Rattle.model_runs.proofs.outcomes.sort.Goals as goal

pub returns : goal.returns
returns c = record {
  same = IsPermutation-trans _ _ _ c.in_ok-sort_by_key.ensures.permutation c.in_ok-sort_by_key-2.ensures.permutation;
}
