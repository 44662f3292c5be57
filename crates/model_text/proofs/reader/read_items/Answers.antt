use Rattle.std.proofs.Common.{◌≡◌, ◌∙◌, ◌++◌, ◌∷◌, [], sym, subst, None, refl}
use Rattle.model_forms.specs.Rows.{behind_of, first_of}
use Rattle.model_text.proofs.Walks.{Items, items_begin, items_go, items_fail, items_end}
use Rattle.model_text.proofs.reader.read_items.Goals as goal

pub loop-form-init : goal.loop-form-init
loop-form-init c = λ row b.
    subst (λ is. Items c.args.text.now c.args.forms.now c.block_of-rest.result is row) (sym c.new-items.ensures.items)
    (items_begin c.args.text.now c.args.forms.now c.block_of-rest.result row (c.block_of-rest.ensures row b))

pub loop-form-preserved : goal.loop-form-preserved
loop-form-preserved c = λ row b.
    let s = c.loop-form.invariant row b in
    subst (λ is. Items c.args.text.now c.args.forms.now c.behind_first-rest.result is row) (sym c.in_ok-push-in-Ok.ensures.items)
    (items_go c.args.text.now c.args.forms.now c.loop-form.rest c.behind_first-rest.result c.loop-form.items.items c.in-Ok.item row s
    (c.in-Ok.ensures s.left s.block (c.in-Some.ensures.first s.left s.block)) (c.behind_first-rest.ensures.behind s.left s.block))

pub returns-in-Err-clause-fault : goal.returns-in-Err-clause-fault
returns-in-Err-clause-fault c = λ row b n.
    let s = c.loop-form.invariant row b in
    let first = c.in-Some.ensures.first s.left s.block in
    items_fail c.args.text.now c.args.forms.now c.loop-form.rest c.loop-form.items.items c.in-Err.fault c.in-Some.form row s first
    (c.in-Err.ensures s.left s.block first)

pub returns-clause-items : goal.returns-clause-items
returns-clause-items c = λ row b.
    let s = c.loop-form.invariant row b in
    let first = c.first_form.ensures.first s.left s.block in
    let none : None ≡ first_of s.left = cc in
    items_end c.args.text.now c.args.forms.now c.loop-form.rest c.loop-form.items.items row s none
