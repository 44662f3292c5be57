use Rattle.std.proofs.Common.{◌≡◌, true, false}
use Rattle.command_words.specs.Telling.{shown}
use Rattle.command_line.proofs.RunLemmas.{help_of, text_shown, text_kept_back}
use Rattle.command_line.proofs.cli.usage.Goals as goal

pub returns-in-Ok-write_text : goal.returns-in-Ok-write_text
returns-in-Ok-write_text g c =
    let asks = help_of _ (λ other. let is : c.use_stderr.result ≡ true = c.use_stderr.ensures.1 other in let not : c.use_stderr.result ≡ false =
    c.if-use_stderr.false in cc) in
    let told = c.write_text-2.ensures in
    shown asks (text_shown _ _ _ _ c.write_text-2.result _ c.in-Ok-write_text.is told.text told.only told.failed)

pub returns : goal.returns
returns g c =
    let asks = help_of _ (λ other. let is : c.use_stderr.result ≡ true = c.use_stderr.ensures.1 other in let not : c.use_stderr.result ≡ false =
    c.if-use_stderr.false in cc) in
    let told = c.write_text-2.ensures in
    shown asks (text_kept_back _ _ _ _ _ c.in-Err.fault c.write_text-2.result _ c.in-Err.is told.text told.only told.failed
    c.tell_fault-in-Err.ensures.told c.tell_fault-in-Err.ensures.status)
