use Rattle.std.proofs.Common.{List, [], length, refl, sym, ap, ◌∙◌, arith}
use Rattle.std.specs.List.{fold}
use Rattle.std.proofs.lemmas.List.{take_all}
use Rattle.std.proofs.lemmas.Option.{slice_get_read}
use Rattle.every_schedule.specs.declared.leanings.Leaning.{Leaning}
use Rattle.every_schedule.specs.Leanings.{last_leaning, leaned}
use Rattle.every_schedule.proofs.Prefixes.{fold_next}
use Rattle.every_schedule.proofs.leanings.lean_all.Goals as goal

pub loop-word-init : goal.loop-word-init
loop-word-init c = c.new-stack.ensures.items

pub loop-word-preserved : goal.loop-word-preserved
loop-word-preserved c =
    let word = c.word-item.result in
    let here = slice_get_read c.args.words.now (length c.args.words.now) c.loop-word.word-index word refl c.loop-word-test.true c.word-item.is in
    c.in_ok-lean.ensures ∙ ap (λ (l : List Leaning). leaned l word) c.loop-word.invariant ∙
    sym (fold_next leaned [] c.args.words.now c.loop-word.word-index word here)

pub returns : goal.returns
returns c =
    c.pop.ensures.value ∙ ap last_leaning (c.loop-word.invariant ∙
    ap (fold leaned []) (take_all c.loop-word.word-index c.args.words.now (omega arith)))
