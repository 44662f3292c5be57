use Rattle.cell_registry.proofs.Prelude.{◌≡◌, ℕ, ◌+◌, [], sym, ◌∙◌, ap, subst, set, false, replicate, TableId, Me, Limits, Running, Knowledge, AreLimits}
use Rattle.cell_registry.proofs.Prelude.{first_knowledge, IsSeated, pass_of}
use Rattle.cell_registry.proofs.Seats.{begins}
use Rattle.cell_registry.proofs.Tokens.{first_seated}
use Rattle.cell_registry.proofs.registry.Registry.new.Goals as goal

pub of_words-requires : goal.of_words-requires
of_words-requires c =
    let is = c.in_ok-words.ensures in
    let items : c.as_slice.result.now ≡ set (replicate (c.args.fibers + c.args.refs + c.args.deferreds + c.args.fibers + 3) 0) 0 1 =
    c.as_slice.ensures.value ∙ (λ j. set (is.items_if_clones_equal (λ y e. e) j) (c.claim_place.ensures j) 1) ∙
    (λ j. set (replicate (c.from.ensures j + c.from-2.ensures j + c.from-3.ensures j + c.from-values.ensures j + 3) 0) 0 1) in
    begins ℕ _ c.as_slice.result.now c.requires.limits items

first : (k : Limits) (t : TableId) (me : Me ℕ Knowledge) → AreLimits k → me ≡ (first_knowledge k, []) → IsSeated me.0 (pass_of t me.0 0 Running 0 0 false)
first k t me limits is = subst (λ (v : Knowledge). IsSeated v (pass_of t v 0 Running 0 0 false)) (sym (ap (λ (m : Me ℕ Knowledge). m.0) is))
    (first_seated k t limits)

pub invariant_of-pass-2 : goal.invariant_of-pass-2
invariant_of-pass-2 c = let me = c.in_ok-table.ensures.4 in (ap (λ (m : Me ℕ Knowledge). m.1) me, first _ _ _ c.requires.limits me)

pub returns-clause-lawful : goal.returns-clause-lawful
returns-clause-lawful c = (first _ _ _ c.requires.limits c.in_ok-table.ensures.4).pass
