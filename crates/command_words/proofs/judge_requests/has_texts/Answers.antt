use Rattle.std.proofs.Common.{◌∙◌, ap, map, not, sym}
use Rattle.clap.specs.Words.{found_of, rows_of}
use Rattle.clap.proofs.WalkLemmas.{raw_values-rows}
use Rattle.command_words.proofs.ClaimLemmas.{no_text, some_text}
use Rattle.command_words.proofs.WantLemmas.{none_given, texts_given}
use Rattle.command_words.proofs.judge_requests.has_texts.Goals as goal

pub returns-in-Some-clause-some : goal.returns-in-Some-clause-some
returns-in-Some-clause-some c = λ e.
    let rows = rows_of (found_of c.args.options.now) in
    let same = texts_given (λ s. map (λ v. v.now) s.now) c.get_strs.result c.in-Some.texts c.args.name.now rows c.in-Some.is
    (c.get_strs.ensures ∙ raw_values-rows (found_of c.args.options.now) c.args.name.now) in
    some_text c.in-Some.texts.now _ same (ap not (sym c.is_empty.ensures) ∙ e)

pub returns-in-Some-clause-none : goal.returns-in-Some-clause-none
returns-in-Some-clause-none c = λ e.
    let rows = rows_of (found_of c.args.options.now) in
    let same = texts_given (λ s. map (λ v. v.now) s.now) c.get_strs.result c.in-Some.texts c.args.name.now rows c.in-Some.is
    (c.get_strs.ensures ∙ raw_values-rows (found_of c.args.options.now) c.args.name.now) in
    no_text c.in-Some.texts.now _ same (ap not (sym c.is_empty.ensures) ∙ e)

pub returns-in-None-clause-none : goal.returns-in-None-clause-none
returns-in-None-clause-none c = λ e.
    none_given (λ s. map (λ v. v.now) s.now) c.get_strs.result c.args.name.now (rows_of (found_of c.args.options.now)) c.in-None.is
    (c.get_strs.ensures ∙ raw_values-rows (found_of c.args.options.now) c.args.name.now)
