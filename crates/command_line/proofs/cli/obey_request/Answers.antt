use Rattle.std.proofs.Common.{ap, inl, inr, refl}
use Rattle.command_line.proofs.cli.obey_request.Goals as goal

pub returns-in-Compare-clause-obeyed : goal.returns-in-Compare-clause-obeyed
returns-in-Compare-clause-obeyed g c = rw c.in-Compare.is (refl, c.obey_compare.ensures)

pub returns-in-Test-clause-obeyed : goal.returns-in-Test-clause-obeyed
returns-in-Test-clause-obeyed g c =
    rw c.in-Test.is record {
      unread = refl;
      whole = c.obey_test.ensures.whole;
      usage = λ usage. ap g.O.TextOut.seen (c.obey_test.ensures.usage usage);
      status_is = c.obey_test.ensures.status;
    }

pub returns-in-Terms-clause-obeyed : goal.returns-in-Terms-clause-obeyed
returns-in-Terms-clause-obeyed g c =
    rw c.in-Terms.is record { unread = refl; whole = c.obey_terms.ensures.whole; status_is = c.obey_terms.ensures.status }

-- A request to judge claims reads the text before it knows whether the text has the refs that the claims name.
pub returns-in-Judge-clause-unread : goal.returns-in-Judge-clause-unread
returns-in-Judge-clause-unread g c = λ usage none. absurd (none (rw c.in-Judge.is tt))

-- So does a request to sample with claims.
pub returns-in-Sample-clause-unread : goal.returns-in-Sample-clause-unread
returns-in-Sample-clause-unread g c = λ usage none. elim c.obey_sample.ensures.obeyed [
  | inl alone ↦ absurd (c.obey_sample.ensures.ends alone.0 usage)
  | inr asked ↦ absurd (none (rw c.in-Sample.is asked.0))
]
