use Rattle.expansion_tests.proofs.limits.+push_guarantees.Given as goal

abbrev pub decreases-push_guarantees : goal.decreases-push_guarantees
decreases-push_guarantees l = l.forms
