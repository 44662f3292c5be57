use Rattle.std.proofs.Common.{◌≡◌, Option, Some, None, refl, rules, subst}
use Rattle.clap.specs.Words.{subcommand_rows_of}
use Rattle.command_words.specs.declared.requests.Request.{Request}
use Rattle.command_words.specs.Requests.{GivesRequest}
use Rattle.command_line.proofs.RunLemmas.{free_built, runs_request, runs_no_request, runs_error, runs_no_words, takes_input}
use Rattle.command_line.proofs.cli.run_words.Goals as goal

pub returns-in_default-clause-runs : goal.returns-in_default-clause-runs
returns-in_default-clause-runs g c = runs_no_words _ _ _ _ refl refl record { told = c.tell_fault.ensures.told; status_is = c.tell_fault.ensures.status }

pub returns-in-Ok-Some-clause-runs : goal.returns-in-Ok-Some-clause-runs
returns-in-Ok-Some-clause-runs g c =
    let ok = c.in-Ok-try_get_matches_from.ensures in
    let same : c.in-Ok-Some.field-0 ≡ Some c.in-Ok-Some.request = search rules in
    let gives = subst (λ (r : Option Request). GivesRequest (subcommand_rows_of c.in-Ok-try_get_matches_from.matches) r) same c.in-Ok-Some.ensures.request in
    runs_request _ _ c.in-Ok-try_get_matches_from.matches c.in-Ok-Some.request _ _ _ c.in-Ok.ensures ok.matches
    (ok.kinds (free_built _ c.in-Ok.ensures)) gives c.obey_request.ensures.obeyed

pub returns-in-Ok-Some-clause-unread : goal.returns-in-Ok-Some-clause-unread
returns-in-Ok-Some-clause-unread g c = λ usage none.
    let ok = c.in-Ok-try_get_matches_from.ensures in
    let same : c.in-Ok-Some.field-0 ≡ Some c.in-Ok-Some.request = search rules in
    let gives = subst (λ (r : Option Request). GivesRequest (subcommand_rows_of c.in-Ok-try_get_matches_from.matches) r) same c.in-Ok-Some.ensures.request in
    c.obey_request.ensures.unread usage
    (λ takes. none (takes_input _ _ c.in-Ok-try_get_matches_from.matches c.in-Ok-Some.request c.in-Ok.ensures ok.matches gives takes))

pub returns-in-Ok-None-clause-runs : goal.returns-in-Ok-None-clause-runs
returns-in-Ok-None-clause-runs g c =
    let same : c.in-Ok-None.field-0 ≡ None = search rules in
    let gives = subst (λ (r : Option Request). GivesRequest (subcommand_rows_of c.in-Ok-try_get_matches_from.matches) r) same c.in-Ok-None.ensures.request in
    runs_no_request _ _ c.in-Ok-try_get_matches_from.matches _ _ _ c.in-Ok.ensures c.in-Ok-try_get_matches_from.ensures.matches gives refl refl
    c.refuse_request.ensures

pub returns-in-Ok-try_get_matches_from-clause-runs :
    goal.returns-in-Ok-try_get_matches_from-clause-runs
returns-in-Ok-try_get_matches_from-clause-runs g c =
    runs_no_words _ _ _ _ refl refl record { told = c.tell_fault-in-Err-request_of.ensures.told; status_is = c.tell_fault-in-Err-request_of.ensures.status }

pub returns-clause-runs : goal.returns-clause-runs
returns-clause-runs g c =
    let failed = c.in-Err.ensures in
    runs_error _ _ _ _ _ _ c.in-Ok.ensures (failed.kinds (free_built _ c.in-Ok.ensures)) failed.passes refl c.usage.ensures
