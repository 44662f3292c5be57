use Rattle.std.proofs.{Common.{◌≡◌, ◌∙◌, refl, ap, sym, subst, length, take, arith}, lemmas.List.length-take}
use Rattle.term_parse.{specs.{Bindings.{InText, bounds}, Reading.entered, OpenForms.{begun_form, innermost}}, proofs.Steps.{fails_deep, fails_word, opens_form}}
use Rattle.term_parse.proofs.form.open.Goals as goal

pub returns-then-depth-ge-MOST_OPEN-clause-fault : goal.returns-then-depth-ge-MOST_OPEN-clause-fault
returns-then-depth-ge-MOST_OPEN-clause-fault c =
    λ at n. fails_deep c.args.text.now at c.args.depth (innermost c.args.scope.now.items c.args.form.now)
    c.args.token c.args.part n c.requires.opens c.requires.part c.requires.term (omega arith)

pub returns-in-Ok-clause-found : goal.returns-in-Ok-clause-found
returns-in-Ok-clause-found c = λ at n.
    let text = c.args.text.now in
    let s = c.args.scope.now.items in
    let t = c.enter.new.scope.items in
    let f = c.args.form.now in
    let all : c.len-form.result ≡ length s = omega (arith, c.len-form.ensures, c.args.scope.now.ok.0) in
    let kept : take (length s) t ≡ s = c.in_ok-enter.ensures.kept in
    let first : take c.len-form.result t ≡ s = ap (λ k. take k t) all ∙ kept in
    let within : InText text s → InText text f.bound.items → InText text t =
    λ a b. c.in_ok-enter.ensures.within text a (subst (InText text) (sym c.deref.ensures.value) b) in
    let bounds_are : bounds text t ≡ entered (bounds text s) (bounds text f.bound.items) c.args.part =
    c.in_ok-enter.ensures.entered text ∙
    ap (λ x. entered (bounds text s) (bounds text x) c.args.part) c.deref.ensures.value in (
      opens_form text at c.args.depth (innermost s f) _ (begun_form c.in-Ok.word t) c.args.token c.args.part
          c.in-Ok.word c.args.rest c.in-Ok.next n c.requires.opens c.requires.part c.requires.term (omega arith)
          c.requires.rest refl refl first refl refl refl refl refl refl bounds_are within c.in_ok-enter.ensures.few
          c.in-Ok.ensures.found,
      all,
      omega (arith, length-take (length s) t, ap length kept),
      omega (arith, n.later, n.some, c.in-Ok.ensures.within),
      c.in-Ok.ensures.within.1,
    )

pub returns-in-Err-clause-fault : goal.returns-in-Err-clause-fault
returns-in-Err-clause-fault c =
    λ at n. fails_word c.args.text.now at c.args.depth (innermost c.args.scope.now.items c.args.form.now)
    c.args.token c.args.part c.in-Err.error n c.requires.opens c.requires.part c.requires.term (omega arith)
    c.in-Err.ensures.fault
