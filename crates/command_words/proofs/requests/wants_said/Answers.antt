use Rattle.std.proofs.Common.{◌∙◌, List, map, codes, sym, subst}
use Rattle.std.specs.Prelude.{IfOk, IfNone, IfSome}
use Rattle.clap.specs.Words.{Text, found_of, rows_of}
use Rattle.clap.proofs.WalkLemmas.{raw_values-rows}
use Rattle.exploration_text.specs.declared.wants.Want.{Want}
use Rattle.command_words.specs.Requests.{AreWants}
use Rattle.command_words.proofs.WantLemmas.{none_given, none_wanted, texts_given}
use Rattle.command_words.proofs.requests.wants_said.Goals as goal

pub returns-in-Some-clause-said : goal.returns-in-Some-clause-said
returns-in-Some-clause-said c =
    let same = texts_given (λ s. map (λ v. v.now) s.now) c.get_strs.result c.in-Some.texts (codes "want") (rows_of (found_of c.args.explore.now))
    c.in-Some.is (c.get_strs.ensures ∙ raw_values-rows (found_of c.args.explore.now) (codes "want")) in
    subst (λ (ts : List Text). IfOk c.wants_of.result (λ found. IfSome found (λ wants. AreWants ts wants.items))) (sym same) c.wants_of.ensures.said

pub returns-in-Some-clause-none : goal.returns-in-Some-clause-none
returns-in-Some-clause-none c =
    let same = texts_given (λ s. map (λ v. v.now) s.now) c.get_strs.result c.in-Some.texts (codes "want") (rows_of (found_of c.args.explore.now))
    c.in-Some.is (c.get_strs.ensures ∙ raw_values-rows (found_of c.args.explore.now) (codes "want")) in
    subst (λ (ts : List Text). IfOk c.wants_of.result (λ found. IfNone found ((wants : List Want) → AreWants ts wants → ⊥))) (sym same) c.wants_of.ensures.none

pub returns-in-None-clause-said : goal.returns-in-None-clause-said
returns-in-None-clause-said c =
    let none = none_given (λ s. map (λ v. v.now) s.now) c.get_strs.result (codes "want") (rows_of (found_of c.args.explore.now)) c.in-None.is
    (c.get_strs.ensures ∙ raw_values-rows (found_of c.args.explore.now) (codes "want")) in
    none_wanted c.new.result.items _ c.new.ensures.items none
