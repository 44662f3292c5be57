use Rattle.std.{proofs.Common.◌<◌, specs.List.All}
use Rattle.derived_ops.specs.{Expansion.code_of, Reading.source_of}
use Rattle.outcome_answers.proofs.ShortSays.{kept_all, kept_is}
use Rattle.outcome_answers.proofs.finding.find_says.Goals as goal

pub returns-clause-found : goal.returns-clause-found
returns-clause-found g c =
    let order = c.args.order.now in
    let told = c.in-Ok.ensures in
    let short = c.in_ok-kept.ensures in
    kept_is (code_of (source_of c.args.program.now)) order.limits order.bounds c.in-Ok.found c.in_ok-kept.kept short.answers short.complete
    (g.V.Watcher.can_stop c.args.watcher.now) short.halted short.worlds short.bytes told.all told.settled told.each told.once told.stopped told.may
    told.room told.spare

pub returns-clause-numbers : goal.returns-clause-numbers
returns-clause-numbers g c =
    let order = c.args.order.now in
    let short = c.in_ok-kept.ensures in
    kept_all (code_of (source_of c.args.program.now)) order.limits order.bounds c.in-Ok.found c.in_ok-kept.kept short.answers short.complete
    (λ a. All (λ f. f < 1000) a.schedule) c.in-Ok.ensures.numbers
