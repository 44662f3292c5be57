use Rattle.fiber_frames.proofs.Prelude.{◌≡◌, ◌+◌, sym, ap, ◌∙◌, subst, arith, lt-ltb, CoreWord, second, third, word_at, word_tree, word_inside, Env, close}
use Rattle.fiber_frames.proofs.Prelude.{Needs, many_parts}
use Rattle.fiber_frames.proofs.SlotSets.{nothing, part_needs, word_needs}
use Rattle.fiber_frames.proofs.slots.of_term.Goals as goal

pub returns : goal.returns
returns c =
    let ws = c.args.words.now in
    let i = c.args.index in
    let w = c.index-words-index.result in
    let at : word_at ws i ≡ w = word_inside ws i w c.requires.index c.index-words-index.is in
    let many : c.parts_of-parts.result ≡ many_parts (word_at ws i) = c.parts_of-parts.ensures ∙ ap many_parts (sym at) in
    let next : c.second.result ≡ second (word_at ws i) = c.second.ensures ∙ ap second (sym at) in
    let last : c.third.result ≡ third (word_at ws i) = c.third.ensures ∙ ap third (sym at) in
    word_needs ws i c.of_word-own.result c.part_slots-first.result c.part_slots-second.result c.part_slots-third.result
    (subst (λ (v : CoreWord). Needs c.of_word-own.result (λ (g : Env). close g (word_tree v 0 nothing nothing nothing))) (sym at) c.of_word-own.ensures)
    (λ more. part_needs ws c.args.slots.now i (i + 1) _ _ (omega arith) (c.part_slots-first.ensures (lt-ltb 0 c.parts_of-parts.result (omega arith))) c.requires.behind (omega arith))
    (λ more. part_needs ws c.args.slots.now i (i + 1 + c.second.result) _ _ (omega arith) (c.part_slots-second.ensures (lt-ltb 1 c.parts_of-parts.result (omega arith))) c.requires.behind (omega arith))
    (λ more. part_needs ws c.args.slots.now i (i + 1 + c.third.result) _ _ (omega arith) (c.part_slots-third.ensures (lt-ltb 2 c.parts_of-parts.result (omega arith))) c.requires.behind (omega arith))
