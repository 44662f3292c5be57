use Rattle.std.proofs.Common.{◌≡◌, inl, inr, [], sym, ap, ◌∙◌}
use Rattle.scheduled_core.specs.Private.Moving.{children}
use Rattle.scheduled_core.proofs.scheduled.resumed.Goals as goal

pub returns-in-Born-clause-child : goal.returns-in-Born-clause-child
returns-in-Born-clause-child c = ap children (sym c.in-Born.is ∙ c.in_ok-child.ensures.kind)

pub returns-in-Plain-clause-child : goal.returns-in-Plain-clause-child
returns-in-Plain-clause-child c =
    let none : children c.in_ok-child.field-0 ≡ [] =
    elim c.in-Plain.is [
      | inl e ↦ ap children e
      | inr later ↦ elim later [
        | inl e ↦ ap children e
        | inr more ↦ elim more [ inl e ↦ ap children e | inr e ↦ ap children e.1 ]
      ]
    ] in
    sym none ∙ ap children c.in_ok-child.ensures.kind
