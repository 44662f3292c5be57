use Rattle.std.proofs.Common.{ap, ap₂, ◌∙◌}
use Rattle.std.proofs.lemmas.Result.{IfOk-weaker}
use Rattle.clap.specs.Simple.{Shape}
use Rattle.clap.specs.Words.{App, with_subcommand}
use Rattle.command_words.proofs.words.all_words.Goals as goal

pub returns : goal.returns
returns c =
    let top_of : App → Shape = λ a. a.top in
    let one = c.in_ok-program.ensures.shape c.in_ok-check.ensures.local ∙
    ap₂ with_subcommand c.bare_program-program.ensures (ap top_of c.in_ok-check.ensures.shape) in
    let two = c.in_ok-program-2.ensures.shape c.in_ok-show.ensures.local ∙ ap₂ with_subcommand one (ap top_of c.in_ok-show.ensures.shape) in
    let three = c.in_ok-program-3.ensures.shape c.in_ok-replay.ensures.local ∙ ap₂ with_subcommand two (ap top_of c.in_ok-replay.ensures.shape) in
    let four = c.in_ok-program-4.ensures.shape c.in_ok-explore.ensures.local ∙ ap₂ with_subcommand three (ap top_of c.in_ok-explore.ensures.shape) in
    let five = c.in_ok-program-5.ensures.shape c.in_ok-run.ensures.local ∙ ap₂ with_subcommand four (ap top_of c.in_ok-run.ensures.shape) in
    let six = c.in_ok-program-6.ensures.shape c.in_ok-sample.ensures.local ∙ ap₂ with_subcommand five (ap top_of c.in_ok-sample.ensures.shape) in
    let seven = c.in_ok-program-7.ensures.shape c.in_ok-compare.ensures.local ∙ ap₂ with_subcommand six (ap top_of c.in_ok-compare.ensures.shape) in
    let eight = c.in_ok-program-8.ensures.shape c.in_ok-test.ensures.local ∙ ap₂ with_subcommand seven (ap top_of c.in_ok-test.ensures.shape) in
    IfOk-weaker c.subcommand-9.result _ _ (λ m h. h.shape c.in_ok-terms_command.ensures.local ∙
    ap₂ with_subcommand eight (ap top_of c.in_ok-terms_command.ensures.shape)) c.subcommand-9.ensures
