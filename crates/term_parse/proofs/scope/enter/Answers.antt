use Rattle.term_parse.proofs.scope.enter.Goals as goal

pub returns-in_ok-pick-in-UnderBoth-clause-within : goal.returns-in_ok-pick-in-UnderBoth-clause-within
returns-in_ok-pick-in-UnderBoth-clause-within c = λ text s b.
    c.pick-in-UnderBoth-2.ensures.within text (c.in_ok-pick-in-UnderBoth.ensures.within text s b) b
