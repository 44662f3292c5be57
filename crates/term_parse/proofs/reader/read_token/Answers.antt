use Rattle.std.proofs.Common.{◌≡◌, ◌+◌, length, sym, subst, arith}
use Rattle.term_parse.{specs.{Forms.{IsOpen, Sound}, OpenForms.innermost}, proofs.OpenStacks.{open_fails, buildable, forms_few}}
use Rattle.term_parse.proofs.reader.read_token.Goals as goal

pub overflow_add-depth : goal.overflow_add-depth
overflow_add-depth c = omega (
  arith,
  c.len-depth.ensures,
  c.args.stack.now.around.ok.0,
  forms_few c.args.text.now c.args.at c.args.stack.now.scope.items c.args.stack.now.form.value
      c.args.stack.now.around.items c.requires.forms,
  c.requires.forms.stack.within,
  c.requires.short,
)

pub apply-requires : goal.apply-requires
apply-requires c =
    buildable c.args.text.now c.args.at (c.len-depth.result + 1) c.args.stack.now.scope.items c.advance.new.scope.items
    c.deref_mut.result.now c.advance.new.form c.in-Ok.step
    (subst (λ f. Sound c.args.text.now (innermost c.args.stack.now.scope.items f)) (sym c.deref_mut.ensures.value)
    c.requires.forms.stack.sound)
    c.in-Ok.ensures.found

pub returns-in_ok-apply-in-Ok-clause-found : goal.returns-in_ok-apply-in-Ok-clause-found
returns-in_ok-apply-in-Ok-clause-found c =
    let d : c.len-depth.result + 1 ≡ length c.args.stack.now.around.items + 1 =
    omega (arith, c.len-depth.ensures, c.args.stack.now.around.ok.0) in
    let forms = subst (λ f. IsOpen c.args.text.now c.args.at c.args.stack.now.scope.items f
    c.args.stack.now.around.items) (sym c.deref_mut.ensures.value) c.requires.forms in
    c.in_ok-apply-in-Ok.ensures c.args.text.now c.args.at (c.len-depth.result + 1) c.args.stack.now.scope.items
    c.deref_mut.result.now forms d c.in-Ok.ensures.found

pub returns-in-Err-clause-fault : goal.returns-in-Err-clause-fault
returns-in-Err-clause-fault c =
    let d : c.len-depth.result + 1 ≡ length c.args.stack.now.around.items + 1 =
    omega (arith, c.len-depth.ensures, c.args.stack.now.around.ok.0) in
    let forms = subst (λ f. IsOpen c.args.text.now c.args.at c.args.stack.now.scope.items f
    c.args.stack.now.around.items) (sym c.deref_mut.ensures.value) c.requires.forms in
    open_fails c.args.text.now c.args.at (c.len-depth.result + 1) c.args.stack.now.scope.items c.deref_mut.result.now
    c.args.stack.now.around.items c.in-Err.error forms d c.in-Err.ensures.fault
