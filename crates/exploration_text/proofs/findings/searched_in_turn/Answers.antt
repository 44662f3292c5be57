use Rattle.std.proofs.Common.{Bool, ◌∙◌, refl, subst}
use Rattle.derived_ops.specs.{Expansion.code_of, Reading.source_of}
use Rattle.world_search.specs.declared.answers.Bounds.{Bounds}
use Rattle.exploration_text.{specs.Findings.{IsFirst, bounds_within}, proofs.FirstFindings.{fewer_worlds, last_first, min_low, more_first}}
use Rattle.exploration_text.proofs.findings.searched_in_turn.Goals as goal

pub returns-then-is_last : goal.returns-then-is_last
returns-then-is_last g c =
    let order = c.args.order.now in
    let k = order.limits in
    let wants = order.wants.items in
    let code = code_of (source_of c.args.program.now) in
    let timed = g.V.Watcher.can_stop c.args.watcher.now in
    let near = subst (λ (b : Bounds). IsFirst code k b timed wants c.in_ok-near.near) c.within.ensures c.in_ok-near.ensures.found in
    last_first code k order.bounds 10000 timed wants c.in_ok-near.near (c.is_last.ensures c.if-is_last.true) near

pub returns-then-is_last-2 : goal.returns-then-is_last-2
returns-then-is_last-2 g c =
    let order = c.args.order.now in
    let k = order.limits in
    let wants = order.wants.items in
    let code = code_of (source_of c.args.program.now) in
    let timed = g.V.Watcher.can_stop c.args.watcher.now in
    let near = subst (λ (b : Bounds). IsFirst code k b timed wants c.in_ok-near.near) c.within.ensures c.in_ok-near.ensures.found in
    let found = subst (λ (b : Bounds). IsFirst code k b timed wants c.in_ok-found.found) c.within-2.ensures
    (subst (λ (t : Bool). IsFirst code k c.within-2.result t wants c.in_ok-found.found) c.searched.ensures.watcher c.in_ok-found.ensures.found) in
    let far = more_first code k (bounds_within order.bounds 10000) (bounds_within order.bounds 1000000) timed wants c.in_ok-near.near c.in_ok-found.found
    c.of_more-far.result (fewer_worlds order.bounds.worlds) refl refl c.of_more-far.ensures near found in
    last_first code k order.bounds 1000000 timed wants c.of_more-far.result (c.is_last-2.ensures c.if-is_last-2.true) far

pub returns : goal.returns
returns g c =
    let order = c.args.order.now in
    let k = order.limits in
    let wants = order.wants.items in
    let code = code_of (source_of c.args.program.now) in
    let timed = g.V.Watcher.can_stop c.args.watcher.now in
    let near = subst (λ (b : Bounds). IsFirst code k b timed wants c.in_ok-near.near) c.within.ensures c.in_ok-near.ensures.found in
    let found = subst (λ (b : Bounds). IsFirst code k b timed wants c.in_ok-found.found) c.within-2.ensures
    (subst (λ (t : Bool). IsFirst code k c.within-2.result t wants c.in_ok-found.found) c.searched.ensures.watcher c.in_ok-found.ensures.found) in
    let far = more_first code k (bounds_within order.bounds 10000) (bounds_within order.bounds 1000000) timed wants c.in_ok-near.near c.in_ok-found.found
    c.of_more-far.result (fewer_worlds order.bounds.worlds) refl refl c.of_more-far.ensures near found in
    let last = subst (λ (t : Bool). IsFirst code k order.bounds t wants c.in_ok-found-2.found) (c.searched-2.ensures.watcher ∙ c.searched.ensures.watcher)
    c.in_ok-found-2.ensures.found in
    more_first code k (bounds_within order.bounds 1000000) order.bounds timed wants c.of_more-far.result c.in_ok-found-2.found
    c.of_more.result (min_low order.bounds.worlds 1000000) refl refl c.of_more.ensures far last
