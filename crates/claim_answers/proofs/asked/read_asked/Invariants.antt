use Rattle.std.proofs.Common.{◌≡◌, ◌++◌, map, take}
use Rattle.claim_answers.specs.Claims.{AreMade, asked_texts, question_of}
use Rattle.claim_answers.proofs.asked.read_asked.Given as goal

-- the claims so far, whose refs can be made if those of the claims before can be
abbrev pub invariant-loop-text : goal.invariant-loop-text
invariant-loop-text l =
    (map question_of l.asked.items ≡ map question_of l.fn.asked.items ++ asked_texts l.rule (take l.text-index (map (λ s. s.now) l.texts)))
    × (AreMade l.refs l.fn.asked.items → AreMade l.refs l.asked.items)
