use Rattle.std.proofs.Common.{ℕ, List, [], arith, refl, sym, subst}
use Rattle.claim_answers.specs.Unchecked.{IsUnchecked, unchecked_text}
use Rattle.claim_answers.specs.Verdicts.{AreLines, no_line}
use Rattle.claim_answers.proofs.Pairs.{lines_all, lines_more}
use Rattle.claim_answers.proofs.moments.unchecked_lines.Goals as goal

pub loop-at-init : goal.loop-at-init
loop-at-init c = subst (λ (t : List ℕ). AreLines (IsUnchecked c.args.among) [] [] t) (sym c.new-text.ensures.items) no_line

pub loop-at-preserved : goal.loop-at-preserved
loop-at-preserved c =
    lines_more (IsUnchecked c.args.among) c.args.asked.now c.args.moments.now c.loop-at.text.items _
    (unchecked_text c.args.among c.index-asked-at.result c.index-moments-at.result) c.loop-at.at c.index-asked-at.result
    c.index-moments-at.result (omega arith) c.index-asked-at.is (omega arith) c.index-moments-at.is
    c.in_ok-push_unchecked.ensures refl c.loop-at.invariant

pub returns : goal.returns
returns c =
    lines_all (IsUnchecked c.args.among) c.args.asked.now c.args.moments.now c.loop-at.text.items c.loop-at.at (omega arith) (omega arith)
    c.loop-at.invariant
