use Rattle.std.proofs.Common.{◌≡◌, ◌∙◌, List, map, sym, subst}
use Rattle.std.specs.Prelude.{IfOk}
use Rattle.clap.specs.Words.{Text, found_of, rows_of}
use Rattle.clap.proofs.WalkLemmas.{raw_values-rows}
use Rattle.command_words.proofs.TestLemmas.{nothing_copied}
use Rattle.command_words.proofs.WantLemmas.{none_given, texts_given}
use Rattle.command_words.proofs.test_requests.texts_of.Goals as goal

pub returns-in-Some : goal.returns-in-Some
returns-in-Some c =
    let same = texts_given (λ s. map (λ v. v.now) s.now) c.get_strs.result c.in-Some.texts c.args.name.now (rows_of (found_of c.args.options.now))
    c.in-Some.is (c.get_strs.ensures ∙ raw_values-rows (found_of c.args.options.now) c.args.name.now) in
    subst (λ (ts : List Text). IfOk c.copied.result (λ texts. map (λ s. s.now) texts.items ≡ ts)) (sym same) c.copied.ensures

pub returns-in-None : goal.returns-in-None
returns-in-None c =
    let none = none_given (λ s. map (λ v. v.now) s.now) c.get_strs.result c.args.name.now (rows_of (found_of c.args.options.now)) c.in-None.is
    (c.get_strs.ensures ∙ raw_values-rows (found_of c.args.options.now) c.args.name.now) in
    nothing_copied c.new.result.items _ c.new.ensures.items none
