use Rattle.std.proofs.Common.{sym, ap, ◌∙◌, eqb}
use Rattle.control_word.{specs.Word.control_of, proofs.Fields.unpacked}
use Rattle.control_word.proofs.control.unpack.Goals as goal

pub returns-clause-fields : goal.returns-clause-fields
unfolding control_of
returns-clause-fields c = λ i. record {
  count = c.field.ensures i;
  depth = c.field-2.ensures i;
  phase = c.field-3.ensures i;
  kind = c.field-4.ensures i;
  cancel = eqb (c.field-5.ensures i) 1;
  waited = eqb (c.field-6.ensures i) 1;
}

pub returns-clause-inverse : goal.returns-clause-inverse
returns-clause-inverse c k h e = returns-clause-fields c ∙ ap control_of (sym e) ∙ unpacked k h
