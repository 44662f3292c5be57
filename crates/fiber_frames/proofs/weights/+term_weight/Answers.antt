use Rattle.fiber_frames.proofs.Prelude.{◌≡◌, ◌<◌, ◌≤◌, ℕ, ◌+◌, ◌*◌, min, sym, ap, ap₂, ◌∙◌, arith, last_of, second, word_at, word_inside, many_parts}
use Rattle.fiber_frames.proofs.Capped.{capped_front, capped_last, capped_step}
use Rattle.fiber_frames.proofs.WordWeights.{term_ends, term_front, term_past}
use Rattle.fiber_frames.specs.Weights.{term_weight, turns_at, word_weight}
use Rattle.fiber_frames.proofs.weights.+term_weight.Goals as goal
use Rattle.fiber_frames.proofs.weights.+term_weight.Goals.{then-parts-gt1, else-parts-gt1, then-parts-gt2, else-parts-gt2}

abbrev top : ℕ
top = 18446744073709551615

pub loop-place-init : goal.loop-place-init
loop-place-init t c = record { after = omega arith; rest = λ m. (m, ap (λ k. min k top) (omega arith)) }

pub returns-then-parts-eq0 : goal.returns-then-parts-eq0
returns-then-parts-eq0 t c = λ m.
    let i = c.loop-place.place in
    let w = c.index-words-place.result in
    let at : word_at c.args.words.now i ≡ w = word_inside c.args.words.now i w c.loop-place-test.true c.index-words-place.is in
    let j = c.loop-place.invariant.rest m in
    let none = c.if-parts-eq0.true in
    let x = c.if-parts-gt1.first in
    let y = c.if-parts-gt2.other in
    let own = word_weight (turns_at c.args.env.now c.args.level w) w in
    let ends : term_weight c.args.words.now c.args.env.now c.args.level i j.0 ≡ own =
    term_ends c.args.env.now c.args.level c.args.words.now i w at j.0 (sym c.parts_of-parts.ensures ∙ none) in
    let first : x ≡ 0 = elim c.if-parts-gt1.branch [
      | then-parts-gt1 v ↦ let more = v.if-parts-gt1.true in absurd (omega (arith, more, none))
      | else-parts-gt1 v ↦ v.first-is
    ] in
    let other : y ≡ 0 = elim c.if-parts-gt2.branch [
      | then-parts-gt2 v ↦ let more = v.if-parts-gt2.true in absurd (omega (arith, more, none))
      | else-parts-gt2 v ↦ v.other-is
    ] in
    let turns : c.own_weight-own.result ≡ min own top = c.own_weight-own.ensures ∙ ap (λ n. min (word_weight n w) top) c.turns-turns.ensures in
    let front : min c.saturating_add-front.result top ≡ min (own + (x + y)) top =
    capped_front top own x y c.own_weight-own.result c.saturating_add.result c.saturating_add-front.result
    turns c.saturating_add.ensures c.saturating_add-front.ensures in
    c.saturating_add-sum.ensures
    ∙ ap (λ k. min (c.loop-place.sum + k) top) c.saturating_mul.ensures
    ∙ capped_last top c.loop-place.sum c.loop-place.times c.saturating_add-front.result (term_weight c.args.words.now c.args.env.now c.args.level i j.0)
    (front ∙ ap (λ k. min k top) (omega (arith, first, other, ends)))
    ∙ sym j.1

pub loop-place-preserved : goal.loop-place-preserved
loop-place-preserved t c =
    let i = c.loop-place.place in
    let w = c.index-words-place.result in
    let at : word_at c.args.words.now i ≡ w = word_inside c.args.words.now i w c.loop-place-test.true c.index-words-place.is in
    let parts = c.parts_of-parts.ensures in
    let none = c.if-parts-eq0.false in
    let weight : ℕ → ℕ → ℕ = λ k m. term_weight c.args.words.now c.args.env.now c.args.level k m in
    let x = c.if-parts-gt1.first in
    let y = c.if-parts-gt2.other in
    let n = turns_at c.args.env.now c.args.level w in
    let own = word_weight n w in
    let turns : c.own_weight-own.result ≡ min own top = c.own_weight-own.ensures ∙ ap (λ k. min (word_weight k w) top) c.turns-turns.ensures in
    let front : min c.saturating_add-front.result top ≡ min (own + (x + y)) top =
    capped_front top own x y c.own_weight-own.result c.saturating_add.result c.saturating_add-front.result
    turns c.saturating_add.ensures c.saturating_add-front.ensures in
    let first : 1 < many_parts w → (k : ℕ) → x ≡ min (weight (i + 1) k) top = λ more. elim c.if-parts-gt1.branch [
      | then-parts-gt1 v ↦ λ k. v.first-is ∙ v.term_weight-first.ensures k
      | else-parts-gt1 v ↦ let few = v.if-parts-gt1.false in absurd (omega (arith, few, more, parts))
    ] in
    let no_first : many_parts w ≤ 1 → x ≡ 0 = λ few. elim c.if-parts-gt1.branch [
      | then-parts-gt1 v ↦ let more = v.if-parts-gt1.true in absurd (omega (arith, few, more, parts))
      | else-parts-gt1 v ↦ v.first-is
    ] in
    let other : 2 < many_parts w → (k : ℕ) → y ≡ min (weight (i + 1 + second w) k) top = λ more. elim c.if-parts-gt2.branch [
      | then-parts-gt2 v ↦ λ k. v.other-is ∙ v.term_weight-other.ensures k ∙ ap (λ s. min (weight (i + 1 + s) k) top) v.second.ensures
      | else-parts-gt2 v ↦ let few = v.if-parts-gt2.false in absurd (omega (arith, few, more, parts))
    ] in
    let no_other : many_parts w ≤ 2 → y ≡ 0 = λ few. elim c.if-parts-gt2.branch [
      | then-parts-gt2 v ↦ let more = v.if-parts-gt2.true in absurd (omega (arith, few, more, parts))
      | else-parts-gt2 v ↦ v.other-is
    ] in
    let sum : c.saturating_add-sum.result ≡ min (c.loop-place.sum + min (c.loop-place.times * c.saturating_add-front.result) top) top =
    c.saturating_add-sum.ensures ∙ ap (λ k. min (c.loop-place.sum + k) top) c.saturating_mul.ensures in
    let times : c.saturating_mul-times.result ≡ min (c.loop-place.times * n) top =
    c.saturating_mul-times.ensures ∙ ap (λ k. min (c.loop-place.times * k) top) c.turns-turns.ensures in
    record {
      after = let so = c.loop-place.invariant.after in omega (arith, so);
      rest = λ m.
          let j = c.loop-place.invariant.rest m in
          let on = term_front c.args.env.now c.args.level c.args.words.now i w at top j.0 x y (omega (arith, none, parts)) first no_first other no_other in (
            on.0,
            j.1
                ∙ capped_step top c.loop-place.sum c.loop-place.times c.saturating_add-front.result (own + (x + y)) n
                (weight (i + 1 + last_of w) on.0) (weight i j.0) front on.1
                ∙ ap₂ (λ (s u : ℕ). min (s + u * weight (i + 1 + last_of w) on.0) top) (sym sum) (sym times)
                ∙ ap (λ l. min (c.saturating_add-sum.result + c.saturating_mul-times.result * weight (i + 1 + l) on.0) top) (sym c.last.ensures),
          );
    }

pub returns : goal.returns
returns t c = λ m.
    let i = c.loop-place.place in
    let j = c.loop-place.invariant.rest m in
    let past = term_past c.args.env.now c.args.level c.args.words.now i j.0 c.loop-place-test.false in
    c.saturating_add-2.ensures
    ∙ ap (λ k. min (c.loop-place.sum + k) top) c.saturating_mul-2.ensures
    ∙ capped_last top c.loop-place.sum c.loop-place.times 4 (term_weight c.args.words.now c.args.env.now c.args.level i j.0) (ap (λ k. min k top) (sym past))
    ∙ sym j.1
