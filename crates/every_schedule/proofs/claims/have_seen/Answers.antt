use Rattle.std.proofs.Common.{length, refl, sym, ap, ◌∙◌, arith}
use Rattle.std.proofs.lemmas.List.{take_all}
use Rattle.std.proofs.lemmas.Option.{slice_get_read}
use Rattle.std.specs.List.{list_all}
use Rattle.every_schedule.specs.Claims.{is_seen}
use Rattle.every_schedule.proofs.Prefixes.{all_next, all_stops}
use Rattle.every_schedule.proofs.claims.have_seen.Goals as goal

pub loop-word-preserved : goal.loop-word-preserved
loop-word-preserved c =
    let here = slice_get_read c.args.words.now (length c.args.words.now) c.loop-word.word-index c.word-item.result refl c.loop-word-test.true c.word-item.is in
    all_next (is_seen c.args.seen.now) c.args.words.now c.loop-word.word-index c.word-item.result here c.loop-word.invariant
    (sym c.has_seen.ensures ∙ c.if-not-has_seen.false)

pub returns-then-not-has_seen : goal.returns-then-not-has_seen
returns-then-not-has_seen c =
    let here = slice_get_read c.args.words.now (length c.args.words.now) c.loop-word.word-index c.word-item.result refl c.loop-word-test.true c.word-item.is in
    sym (all_stops (is_seen c.args.seen.now) c.args.words.now c.loop-word.word-index c.word-item.result here (sym c.has_seen.ensures ∙ c.if-not-has_seen.true))

pub returns : goal.returns
returns c =
    sym (ap (list_all (is_seen c.args.seen.now)) (sym (take_all c.loop-word.word-index c.args.words.now (omega arith))) ∙ c.loop-word.invariant)
