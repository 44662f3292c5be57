use Rattle.std.proofs.Common.{◌∙◌, inl, inr, refl, sym}
use Rattle.command_line.proofs.sample_order.obey_sample.Goals as goal

pub returns-then-are_none-clause-obeyed : goal.returns-then-are_none-clause-obeyed
returns-then-are_none-clause-obeyed g c =
    let none = c.are_none.ensures.none c.if-are_none.true in
    inl (
      (sym c.as_slice-held.ensures.value ∙ none.0, sym c.as_slice-barred.ensures.value ∙ none.1, sym c.as_slice-sought.ensures.value ∙ none.2),
      c.obey_plain.ensures.obeyed,
    )

pub returns-then-are_none-clause-ends : goal.returns-then-are_none-clause-ends
returns-then-are_none-clause-ends g c = λ none. c.obey_plain.ensures.ends

pub returns-in-Ok-clause-obeyed : goal.returns-in-Ok-clause-obeyed
returns-in-Ok-clause-obeyed g c = inr (
  λ none. c.are_none.ensures.some c.if-are_none.false
      (c.as_slice-held.ensures.value ∙ none.0, c.as_slice-barred.ensures.value ∙ none.1, c.as_slice-sought.ensures.value ∙ none.2),
  inl record {
    asked = c.in-Ok.asked.items;
    are = rw (← c.as_slice-held.ensures.value, ← c.as_slice-barred.ensures.value, ← c.as_slice-sought.ensures.value) c.in-Ok.ensures.read;
    made = c.in-Ok.ensures.made;
    seen = rw (← c.as_slice.ensures.value) c.obey_asked.ensures;
  },
)

pub returns-in-Ok-clause-ends : goal.returns-in-Ok-clause-ends
returns-in-Ok-clause-ends g c = λ none. absurd
    (c.are_none.ensures.some c.if-are_none.false
    (c.as_slice-held.ensures.value ∙ none.0, c.as_slice-barred.ensures.value ∙ none.1, c.as_slice-sought.ensures.value ∙ none.2))

pub returns-in-Err-clause-obeyed : goal.returns-in-Err-clause-obeyed
returns-in-Err-clause-obeyed g c = inr (
  λ none. c.are_none.ensures.some c.if-are_none.false
      (c.as_slice-held.ensures.value ∙ none.0, c.as_slice-barred.ensures.value ∙ none.1, c.as_slice-sought.ensures.value ∙ none.2),
  inr record { unread = refl; unanswered = refl; told = c.refuse_claim.ensures },
)

pub returns-in-Err-clause-ends : goal.returns-in-Err-clause-ends
returns-in-Err-clause-ends g c = λ none. absurd
    (c.are_none.ensures.some c.if-are_none.false
    (c.as_slice-held.ensures.value ∙ none.0, c.as_slice-barred.ensures.value ∙ none.1, c.as_slice-sought.ensures.value ∙ none.2))
