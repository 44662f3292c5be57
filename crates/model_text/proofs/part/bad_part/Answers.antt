use Rattle.std.proofs.Common.{◌≡◌, ◌∙◌, sym, None}
use Rattle.model_forms.specs.Rows.{behind_of, first_of}
use Rattle.model_text.proofs.Walks.{part_goes, part_stops, part_ends}
use Rattle.model_text.proofs.part.bad_part.Goals as goal

pub loop-form-preserved : goal.loop-form-preserved
loop-form-preserved c = λ row b.
    let r = c.loop-form.invariant row b in
    record {
      left = behind_of r.left;
      block = c.behind_first-rest.ensures.behind r.left r.block;
      same = r.same ∙
          part_goes c.args.text.now r.left (sym (c.if-not-fits_part.ensures r.left r.block (c.in-Some.ensures.first r.left r.block)));
    }

pub returns-then-not-fits_part : goal.returns-then-not-fits_part
returns-then-not-fits_part c = λ row b.
    let r = c.loop-form.invariant row b in
    let first = c.in-Some.ensures.first r.left r.block in
    sym (r.same ∙ part_stops c.args.text.now r.left c.in-Some.form first (sym (c.if-not-fits_part.ensures r.left r.block first)))

pub returns : goal.returns
returns c = λ row b.
    let r = c.loop-form.invariant row b in
    let first = c.first_form.ensures.first r.left r.block in
    let none : None ≡ first_of r.left = cc in
    sym (r.same ∙ part_ends c.args.text.now r.left none)
