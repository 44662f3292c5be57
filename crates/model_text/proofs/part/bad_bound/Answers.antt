use Rattle.std.proofs.Common.{◌≡◌, ◌∙◌, sym, None}
use Rattle.model_forms.specs.Rows.{behind_of, first_of}
use Rattle.model_text.proofs.Walks.{bound_goes, bound_stops, bound_ends}
use Rattle.model_text.proofs.part.bad_bound.Goals as goal

pub loop-form-preserved : goal.loop-form-preserved
loop-form-preserved c = λ row b.
    let r = c.loop-form.invariant row b in
    record {
      left = behind_of r.left;
      block = c.behind_first-rest.ensures.behind r.left r.block;
      same = r.same ∙
          bound_goes c.args.text.now r.left (sym (c.if-not-fits_bound.ensures r.left r.block (c.in-Some.ensures.first r.left r.block)));
    }

pub returns-then-not-fits_bound : goal.returns-then-not-fits_bound
returns-then-not-fits_bound c = λ row b.
    let r = c.loop-form.invariant row b in
    let first = c.in-Some.ensures.first r.left r.block in
    sym (r.same ∙ bound_stops c.args.text.now r.left c.in-Some.form first (sym (c.if-not-fits_bound.ensures r.left r.block first)))

pub returns : goal.returns
returns c = λ row b.
    let r = c.loop-form.invariant row b in
    let first = c.first_form.ensures.first r.left r.block in
    let none : None ≡ first_of r.left = cc in
    sym (r.same ∙ bound_ends c.args.text.now r.left none)
