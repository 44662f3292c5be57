use Rattle.std.proofs.Common.{◌≡◌, [], length, drop, ap, subst, IfOk, IfErr, arith, rules}
use Rattle.term_parse.{specs.{Language.parts_of, Forms.{FailsAt, Stepped}, OpenForms.innermost}, proofs.Steps.{fails_over, drop_over}}
use Rattle.term_parse.proofs.form.advance.Goals as goal

pub returns-in_default-clause-fault : goal.returns-in_default-clause-fault
returns-in_default-clause-fault c =
    let over : drop c.args.form.now.next (parts_of c.args.form.now.word) ≡ [] =
    drop_over (parts_of c.args.form.now.word) c.args.form.now.next (omega (arith, ap length c.parts_of.ensures.value, c.in_default.ensures.lookup.3)) in
    fails_over c.args.text.now c.args.at (innermost c.args.scope.now.items c.args.form.now) c.in-Ok.token
    c.in-Ok.ensures.found c.in-Ok.ensures.good over c.args.depth

pub returns-in-Bind-clause-found : goal.returns-in-Bind-clause-found
returns-in-Bind-clause-found c = c.bind.ensures.found c.args.scope.now.items c.args.at c.args.depth
    c.in-Ok.ensures.found

pub returns-in-Bind-clause-fault : goal.returns-in-Bind-clause-fault
returns-in-Bind-clause-fault c = c.bind.ensures.fault c.args.scope.now.items c.args.at c.args.depth
    c.in-Ok.ensures.found

pub returns-in-Use-clause-found : goal.returns-in-Use-clause-found
returns-in-Use-clause-found c =
    subst (λ s. IfOk c.use_name.result
    (Stepped c.args.text.now c.args.at c.args.depth s c.args.form.now s c.use_name.new.form))
    c.deref.ensures.value (c.use_name.ensures.found c.args.at c.args.depth c.in-Ok.ensures.found)

pub returns-in-Use-clause-fault : goal.returns-in-Use-clause-fault
returns-in-Use-clause-fault c =
    subst (λ s. IfErr c.use_name.result (FailsAt c.args.text.now c.args.at c.args.depth (innermost s c.args.form.now)))
    c.deref.ensures.value (c.use_name.ensures.fault c.args.at c.args.depth c.in-Ok.ensures.found)

pub returns-in-Value-clause-found : goal.returns-in-Value-clause-found
returns-in-Value-clause-found c =
    subst (λ s. IfOk c.value.result
    (Stepped c.args.text.now c.args.at c.args.depth s c.args.form.now s c.value.new.form))
    c.deref-in-Value.ensures.value (c.value.ensures.found c.args.at c.args.depth c.in-Ok.ensures.found)

pub returns-in-Value-clause-fault : goal.returns-in-Value-clause-fault
returns-in-Value-clause-fault c =
    subst (λ s. IfErr c.value.result (FailsAt c.args.text.now c.args.at c.args.depth (innermost s c.args.form.now)))
    c.deref-in-Value.ensures.value (c.value.ensures.fault c.args.at c.args.depth c.in-Ok.ensures.found)

pub returns-in-Term-clause-found : goal.returns-in-Term-clause-found
returns-in-Term-clause-found c = c.one_term.ensures.found c.args.at c.in-Ok.ensures.found

pub returns-in-Term-clause-fault : goal.returns-in-Term-clause-fault
returns-in-Term-clause-fault c = c.one_term.ensures.fault c.args.at c.in-Ok.ensures.found

pub returns-in-Under-clause-found : goal.returns-in-Under-clause-found
returns-in-Under-clause-found c = c.one_term-in-Under.ensures.found c.args.at c.in-Ok.ensures.found

pub returns-in-Under-clause-fault : goal.returns-in-Under-clause-fault
returns-in-Under-clause-fault c = c.one_term-in-Under.ensures.fault c.args.at c.in-Ok.ensures.found

pub returns-in-UnderBoth-clause-found : goal.returns-in-UnderBoth-clause-found
returns-in-UnderBoth-clause-found c = c.one_term-in-UnderBoth.ensures.found c.args.at c.in-Ok.ensures.found

pub returns-in-UnderBoth-clause-fault : goal.returns-in-UnderBoth-clause-fault
returns-in-UnderBoth-clause-fault c = c.one_term-in-UnderBoth.ensures.fault c.args.at c.in-Ok.ensures.found

pub returns-in-More-clause-found : goal.returns-in-More-clause-found
returns-in-More-clause-found c = c.more_terms.ensures.found c.args.at c.in-Ok.ensures.found

pub returns-in-More-clause-fault : goal.returns-in-More-clause-fault
returns-in-More-clause-fault c = c.more_terms.ensures.fault c.args.at c.in-Ok.ensures.found

pub returns-in-Close-clause-found : goal.returns-in-Close-clause-found
returns-in-Close-clause-found c = c.close.ensures.found c.args.scope.now.items c.args.form.now (search rules)
    c.args.text.now c.args.at c.args.depth c.in-Ok.ensures.found

pub returns-in-Close-clause-fault : goal.returns-in-Close-clause-fault
returns-in-Close-clause-fault c = c.close.ensures.fault c.args.scope.now.items c.args.form.now (search rules)
    c.args.text.now c.args.at c.args.depth c.in-Ok.ensures.found
