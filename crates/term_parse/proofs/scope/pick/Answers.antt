use Rattle.std.proofs.Common.{rules}
use Rattle.term_parse.proofs.PickedBinders.{picked_some, picked_none, picked_within}
use Rattle.term_parse.proofs.scope.pick.Goals as goal

pub returns-in_ok-push-in-Some-clause-within : goal.returns-in_ok-push-in-Some-clause-within
returns-in_ok-push-in-Some-clause-within c = λ text s h. picked_within text c.args.scope.now.items c.args.bound.now
    c.push.new.self.items c.args.index c.in-Some.binding.now c.in-Some.ensures.lookup.3.0 c.in-Some.ensures.lookup.1
    (search rules) s h

pub returns-in_ok-push-in-Some-clause-picked : goal.returns-in_ok-push-in-Some-clause-picked
returns-in_ok-push-in-Some-clause-picked c = λ text. picked_some text c.args.scope.now.items c.args.bound.now
    c.push.new.self.items c.args.index c.in-Some.binding.now c.in-Some.ensures.lookup.3.0 c.in-Some.ensures.lookup.1
    (search rules)

pub returns-in-None-clause-picked : goal.returns-in-None-clause-picked
returns-in-None-clause-picked c = λ text. picked_none text c.args.scope.now.items c.args.bound.now c.args.index
    c.in-None.ensures.lookup.3
