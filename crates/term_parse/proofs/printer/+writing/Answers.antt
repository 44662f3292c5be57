use Rattle.std.proofs.{Common.{◌++◌, ◌∙◌, ap, sym, subst, arith}, lemmas.Result.on_ok_weaker}
use Rattle.term_parse.{specs.{PrintedParts.Suffice, Spelling.spelling, Numbers.NumbersFit}, proofs.Parts.{appended, followed, close_text, more_text, bind_text}}
use Rattle.term_parse.proofs.{Parts.{piece_text, form_text}, MoreTerms.{weight_at, next_text, next_numbers}, PrintedNumbers.{close_numbers, more_numbers}}
use Rattle.term_parse.proofs.{PrintedNumbers.piece_numbers, Weights.weight_form}
use Rattle.term_parse.proofs.printer.+writing.Goals as goal

pub write_parts-returns-in_ok-push-in-Close-clause-text : goal.write_parts-returns-in_ok-push-in-Close-clause-text
write_parts-returns-in_ok-push-in-Close-clause-text t c =
    c.in_ok-push-in-Close.ensures.items ∙
    ap (λ x. c.args.out.now.items ++ x) (sym (close_text c.args.parts.now _ _ _ _ _ c.in-len1-up.len_at_least c.in-Close.is))

pub write_parts-returns-in-More-clause-text : goal.write_parts-returns-in-More-clause-text
write_parts-returns-in-More-clause-text t c =
    on_ok_weaker c.write_more.result
    (λ h. h ∙ ap (λ x. c.args.out.now.items ++ x) (sym (more_text c.args.parts.now _ _ _ _ _ c.in-len1-up.len_at_least c.in-More.is)))
    c.write_more.ensures.text

pub write_parts-returns-in_ok-write_binder-in-Bind-clause-text :
    goal.write_parts-returns-in_ok-write_binder-in-Bind-clause-text
write_parts-returns-in_ok-write_binder-in-Bind-clause-text t c =
    followed c.write_parts.result _ _ _ _ _ _ c.write_parts.ensures.text c.in_ok-write_binder-in-Bind.ensures.text
    (bind_text c.args.parts.now _ c.in-Bind.kind _ _ _ _ c.in-len1-up.len_at_least c.in-Bind.is)

pub write_parts-returns-in_ok-write_piece-in_default-part : goal.write_parts-returns-in_ok-write_piece-in_default-part
write_parts-returns-in_ok-write_piece-in_default-part t c = record {
  text = appended c.write_parts-in_default-part.result 32 _ _ _ _ _ _ _ c.write_parts-in_default-part.ensures.text
      c.in_ok-write_piece-in_default-part.ensures.text c.in_ok-push-in_default-part.ensures.items
      (piece_text c.args.parts.now c.args.pieces.now _ _ c.in-Some.piece _ _ _ c.in-len1-up.len_at_least c.in-len1-up-pieces.len_at_least
      c.in_default-part.not-Bind c.in_default-part.not-More c.in_default-part.not-Close (sym c.first-item.is ∙ c.in-Some.is));
  numbers = on_ok_weaker c.write_parts-in_default-part.result
      (λ h. piece_numbers c.args.pieces.now _ c.in-Some.piece _ c.in-len1-up-pieces.len_at_least (sym c.first-item.is ∙ c.in-Some.is)
      c.in_ok-write_piece-in_default-part.ensures.numbers h) c.write_parts-in_default-part.ensures.numbers;
  longer = on_ok_weaker c.write_parts-in_default-part.result (λ h. omega (arith, h, c.in_ok-write_piece-in_default-part.ensures.longer))
      c.write_parts-in_default-part.ensures.longer;
}

pub write_term-write_parts-requires : goal.write_term-write_parts-requires
write_term-write_parts-requires t c = (
  omega (
    arith,
    weight_form c.args.term.now c.form_of-form.result.word c.form_of-form.result.pieces c.form_of-form.result.more.now
        c.form_of-form.ensures.atoms,
  ),
  (
    omega (arith, c.requires, c.in_ok-push.ensures.len, c.in_ok-extend_from_slice.ensures.len, c.spelling_of.ensures.long),
    (
      omega (arith, c.parts_of.ensures.few),
      subst (λ x. Suffice x c.form_of-form.result.pieces c.form_of-form.result.more.now) (sym c.parts_of.ensures.value) c.form_of-form.ensures.enough,
    ),
  ),
)

pub write_term-returns-clause-text : goal.write_term-returns-clause-text
write_term-returns-clause-text t c =
    appended c.write_parts.result 40 _ _ _ _ _ _ _ c.write_parts.ensures.text c.in_ok-extend_from_slice.ensures.items c.in_ok-push.ensures.items
    (ap (λ f. f c.args.around) c.form_of-form.ensures.spelled ∙
    form_text c.form_of-form.result.word _ _ _ _ _ c.spelling_of.ensures.value c.parts_of.ensures.value)

pub write_parts-returns-in_ok-push-in-Close-clause-numbers : goal.write_parts-returns-in_ok-push-in-Close-clause-numbers
write_parts-returns-in_ok-push-in-Close-clause-numbers t c =
    close_numbers c.args.parts.now _ c.args.pieces.now c.args.more.now c.in-len1-up.len_at_least c.in-Close.is c.requires.enough

pub write_parts-returns-in-More-clause-numbers : goal.write_parts-returns-in-More-clause-numbers
write_parts-returns-in-More-clause-numbers t c =
    on_ok_weaker c.write_more.result
    (λ h. more_numbers c.args.parts.now _ c.args.pieces.now c.args.more.now _ c.in-len1-up.len_at_least c.in-More.is c.requires.enough h)
    c.write_more.ensures.numbers

pub write_term-returns-clause-numbers : goal.write_term-returns-clause-numbers
write_term-returns-clause-numbers t c =
    on_ok_weaker c.write_parts.result (λ h. subst NumbersFit (sym c.form_of-form.ensures.atoms) h) c.write_parts.ensures.numbers

pub write_more-write_term-requires : goal.write_more-write_term-requires
write_more-write_term-requires t c = (
  omega (arith, weight_at c.args.terms.now c.loop-term.term-index c.term-item.result c.loop-term-test.true c.term-item.is),
  omega (arith, c.requires, c.loop-term.invariant.longer, c.in_ok-push.ensures.len),
)

pub write_more-loop-term-preserved : goal.write_more-loop-term-preserved
write_more-loop-term-preserved t c = record {
  text = next_text c.args.terms.now c.loop-term.term-index c.term-item.result c.args.around _ _ _ c.loop-term-test.true c.term-item.is
      (c.in_ok-write_term.ensures.text ∙ ap (λ x. x ++ spelling c.term-item.result c.args.around) c.in_ok-push.ensures.items) c.loop-term.invariant.text;
  numbers = λ h. c.loop-term.invariant.numbers
      (next_numbers c.args.terms.now c.loop-term.term-index c.term-item.result c.loop-term-test.true c.term-item.is c.in_ok-write_term.ensures.numbers h);
  longer = omega (arith, c.loop-term.invariant.longer, c.in_ok-push.ensures.len, c.in_ok-write_term.ensures.longer);
}
