use Rattle.std.proofs.{Common.{length, rules}, lemmas.List.Sorted.{IsNonDecreasingBy-from_sort_by_key, IsPermutation-trans, answers_always, ties_still_rise}}
use Rattle.world_search.specs.declared.answers.Answer.{Answer}
use Rattle.every_schedule.{specs.Private.Trails.rank_of, proofs.Trails.stands}
use Rattle.every_schedule.proofs.unfolding.sort.Goals as goal

pub returns-clause-order : goal.returns-clause-order
returns-clause-order c =
    stands _
    (IsNonDecreasingBy-from_sort_by_key (λ (a : Answer). rank_of a.end) _ c.in_ok-sort_by_key-2.ensures.sorted (λ a r q k. search rules))
    (ties_still_rise (λ (a : Answer). length a.schedule.items) (λ (a : Answer). rank_of a.end) _ _
    (c.in_ok-sort_by_key.ensures.sorted (λ (a : Answer). length a.schedule.items) (answers_always _ _ _ (λ f a r g h. search rules)))
    (c.sort_by_key-2.ensures.stable (λ (a : Answer). rank_of a.end) (answers_always _ _ _ (λ f a r g h. search rules))))

pub returns-clause-same : goal.returns-clause-same
returns-clause-same c = IsPermutation-trans _ _ _ c.in_ok-sort_by_key.ensures.permutation c.in_ok-sort_by_key-2.ensures.permutation
