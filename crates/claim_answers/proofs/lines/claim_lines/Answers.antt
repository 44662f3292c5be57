use Rattle.std.proofs.Common.{◌∙◌, ◌++◌, ℕ, List, [], ap, arith, sym, subst}
use Rattle.std.proofs.lemmas.List.Elements.{All-get_or}
use Rattle.claim_answers.specs.Private.Met.{IsSpellable}
use Rattle.claim_answers.specs.Verdicts.{AreLines, IsLine, no_line}
use Rattle.claim_answers.proofs.Pairs.{lines_all, lines_more}
use Rattle.claim_answers.proofs.lines.claim_lines.Goals as goal

pub loop-at-init : goal.loop-at-init
loop-at-init c = subst (λ (t : List ℕ). AreLines (IsLine c.args.form) [] [] t) (sym c.new-text.ensures.items) no_line

pub claim_line-requires-clause-spelled : goal.claim_line-requires-clause-spelled
claim_line-requires-clause-spelled c =
    subst IsSpellable (sym c.index-verdicts-at.is)
    (All-get_or IsSpellable c.args.verdicts.now c.loop-at.at c.index-verdicts-at.result (omega arith) c.requires.spelled)

pub loop-at-preserved : goal.loop-at-preserved
loop-at-preserved c =
    lines_more (IsLine c.args.form) c.args.asked.now c.args.verdicts.now c.loop-at.text.items _ c.in_ok-line.line.items c.loop-at.at c.index-asked-at.result
    c.index-verdicts-at.result (omega arith) c.index-asked-at.is (omega arith) c.index-verdicts-at.is
    (c.in_ok-extend_from_slice.ensures.items ∙ ap (λ l. c.loop-at.text.items ++ l) c.as_slice.ensures.value) c.in_ok-line.ensures c.loop-at.invariant

pub returns : goal.returns
returns c =
    lines_all (IsLine c.args.form) c.args.asked.now c.args.verdicts.now c.loop-at.text.items c.loop-at.at (omega arith) (omega arith) c.loop-at.invariant
