use Rattle.std.proofs.Common.{◌≡◌, ◌∙◌, sym, subst, Ok, Err, None, refl}
use Rattle.model_forms.specs.Rows.{behind_of, first_of}
use Rattle.model_text.{specs.Standing.ReadsBlock, proofs.Walks.{run_goes, run_done, run_bad, run_ends}}
use Rattle.model_text.specs.declared.fault.ItemFault.TheVariants as faults
use Rattle.model_text.proofs.model.run_of.Goals as goal

pub loop-form-preserved : goal.loop-form-preserved
loop-form-preserved c = λ row b.
    let r = c.loop-form.invariant row b in
    record {
      left = behind_of r.left;
      block = c.behind_first-rest.ensures.behind r.left r.block;
      same = r.same ∙
          run_goes c.args.text.now c.args.place c.args.forms.now r.left
          (c.in-More.ensures r.left r.block (c.in-Some.ensures.first r.left r.block));
    }

pub returns-in-Done : goal.returns-in-Done
returns-in-Done c = λ row b.
    let r = c.loop-form.invariant row b in
    subst (ReadsBlock c.args.forms.now (Ok c.in-Done.body)) (sym r.same)
    (run_done c.args.text.now c.args.place c.args.forms.now r.left c.in-Done.body
    (c.in-Done.ensures r.left r.block (c.in-Some.ensures.first r.left r.block)))

pub returns-in-Bad : goal.returns-in-Bad
returns-in-Bad c = λ row b.
    let r = c.loop-form.invariant row b in
    subst (ReadsBlock c.args.forms.now (Err c.in-Bad.fault)) (sym r.same)
    (run_bad c.args.text.now c.args.place c.args.forms.now r.left c.in-Bad.fault
    (c.in-Bad.ensures r.left r.block (c.in-Some.ensures.first r.left r.block)))

pub returns : goal.returns
returns c = λ row b.
    let r = c.loop-form.invariant row b in
    let first = c.first_form.ensures.first r.left r.block in
    let none : None ≡ first_of r.left = cc in
    subst (ReadsBlock c.args.forms.now (Err (faults.NoRun c.args.place)))
    (sym (r.same ∙ run_ends c.args.text.now c.args.place r.left none)) refl
