use Rattle.world_search.proofs.Lists.{more_get}
use Rattle.fair_ends.proofs.Found.{if_ok}
use Rattle.fair_ends.proofs.deciding.decide_ends.Goals as goal

pub returns-in_ok-found-in-Some-clause-ends : goal.returns-in_ok-found-in-Some-clause-ends
returns-in_ok-found-in-Some-clause-ends g c =
    if_ok c.with_short_cycle.result
    (λ it h is laws first at s fair.
    c.in_ok-found-in-Some.ensures.ends (h is) laws first
    (more_get (g.W.Worlds.worlds c.args.worlds.now) (g.W.Worlds.worlds c.table_of.new.worlds) 0 first c.in_ok-table_of.ensures.grows at) s fair)
    c.with_short_cycle.ensures.ends

pub returns-in_ok-found-in-Some-clause-repeats : goal.returns-in_ok-found-in-Some-clause-repeats
returns-in_ok-found-in-Some-clause-repeats g c =
    if_ok c.with_short_cycle.result
    (λ it h cycle is first at.
    let there = more_get (g.W.Worlds.worlds c.args.worlds.now) (g.W.Worlds.worlds c.table_of.new.worlds) 0 first c.in_ok-table_of.ensures.grows at in
    let d = h cycle is in
    d.2 first there (c.in_ok-found-in-Some.ensures.repeats d.0 d.1 first there))
    c.with_short_cycle.ensures.repeats
