use Rattle.std.proofs.Common.{◌∙◌, sym, arith}
use Rattle.model_forms.proofs.Lexing.{space_step, comment_step, open_next, close_next, next_from, no_tokens}
use Rattle.model_forms.proofs.token.token_at.Goals as goal

pub loop-at-preserved-in-Space : goal.loop-at-preserved-in-Space
loop-at-preserved-in-Space c = record {
  low = omega arith;
  high = omega arith;
  skipped = c.loop-at.invariant.skipped ∙ space_step c.args.text.now c.loop-at.at c.loop-at-test.true (sym c.in-Space.ensures);
}

pub loop-at-preserved : goal.loop-at-preserved
loop-at-preserved c = record {
  low = omega (arith, c.comment_end-at.ensures.within);
  high = c.comment_end-at.ensures.within.1;
  skipped = c.loop-at.invariant.skipped ∙ comment_step c.args.text.now c.loop-at.at c.loop-at-test.true (sym c.in-Comment.ensures)
      ∙ c.comment_end-at.ensures.skipped;
}

pub returns-in-Open-clause-found : goal.returns-in-Open-clause-found
returns-in-Open-clause-found c =
    next_from c.args.text.now c.args.from c.loop-at.at _ c.loop-at.invariant.low c.loop-at.invariant.skipped
    (open_next c.args.text.now c.loop-at.at c.loop-at-test.true (sym c.in-Open.ensures))

pub returns-in-Close-clause-found : goal.returns-in-Close-clause-found
returns-in-Close-clause-found c =
    next_from c.args.text.now c.args.from c.loop-at.at _ c.loop-at.invariant.low c.loop-at.invariant.skipped
    (close_next c.args.text.now c.loop-at.at c.loop-at-test.true (sym c.in-Close.ensures))

pub returns-clause-none : goal.returns-clause-none
returns-clause-none c = c.loop-at.invariant.skipped ∙ no_tokens c.args.text.now c.loop-at.at c.loop-at-test.false
