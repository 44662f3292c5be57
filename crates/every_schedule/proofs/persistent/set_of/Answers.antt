use Rattle.std.proofs.Common.{◌≡◌, ℕ, Bool, List, false, true, length, set, replicate, sym, ap, ◌∙◌}
use Rattle.std.proofs.lemmas.List.{length-set}
use Rattle.every_schedule.specs.Persistent.{grown}
use Rattle.every_schedule.proofs.Sets.{written_back}
use Rattle.every_schedule.proofs.persistent.set_of.Goals as goal

pub returns-clause-set : goal.returns-clause-set
returns-clause-set c = λ w are.
    let many = length c.args.rows.now in
    let items = c.in_ok-set.set.items in
    let seed = c.args.seed in
    let empty : items ≡ replicate many false = c.in_ok-set.ensures.items_if_clones_equal (λ y e. e) in
    let long : c.in_ok-set.set.len ≡ length (set items seed true) = c.in_ok-set.set.ok.0 ∙ sym (length-set items seed true) in
    written_back c.in_ok-set.set.len c.grow.new.set (set items seed true) long
    (c.grow.auto.set ∙ ap (λ (l : List Bool). length l) c.as_mut_slice.ensures.value)
    ∙ c.grow.ensures w are
    ∙ ap (grown many w) c.as_mut_slice.ensures.value
    ∙ ap (λ (l : List Bool). grown many w (set l seed true)) empty
    ∙ ap (λ (k : ℕ). grown k w (set (replicate k false) seed true)) are.many
