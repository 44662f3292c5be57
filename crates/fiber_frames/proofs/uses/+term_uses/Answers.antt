use Rattle.fiber_frames.proofs.Prelude.{◌≡◌, ◌<◌, ℕ, ◌+◌, refl, sym, ap, ◌∙◌, subst, arith, second, word_at, word_inside, term_hits, many_parts}
use Rattle.fiber_frames.proofs.WordHits.{term_ends, term_first, term_front, term_next, term_own, term_past}
use Rattle.fiber_frames.proofs.uses.+term_uses.Goals as goal
use Rattle.fiber_frames.proofs.uses.+term_uses.Goals.{else-parts-gt1-via-then-parts-gt1+else-term_uses, else-parts-gt1-via-else-parts-gt1}
use Rattle.fiber_frames.proofs.uses.+term_uses.Goals.{else-parts-gt2-via-then-parts-gt2+else-term_uses-2, else-parts-gt2-via-else-parts-gt2}

pub loop-place-init : goal.loop-place-init
loop-place-init t c = record { after = omega arith; rest = λ m. (m, refl) }

pub returns-then-word_uses-clause-yes : goal.returns-then-word_uses-clause-yes
returns-then-word_uses-clause-yes t c = λ e m.
    let j = c.loop-place.invariant.rest m in
    let w = c.index-words-place.result in
    let at : word_at c.args.words.now c.loop-place.place ≡ w = word_inside c.args.words.now c.loop-place.place w c.loop-place-test.true c.index-words-place.is in
    subst (λ h. 0 < h) (sym j.1)
    (term_own c.args.sought.what c.args.sought.number c.args.env.now c.args.level c.args.words.now c.loop-place.place w at j.0 (c.word_uses.ensures.yes c.if-word_uses.true))

pub returns-then-parts-eq0-clause-no : goal.returns-then-parts-eq0-clause-no
returns-then-parts-eq0-clause-no t c = λ e m.
    let j = c.loop-place.invariant.rest m in
    let w = c.index-words-place.result in
    let at : word_at c.args.words.now c.loop-place.place ≡ w = word_inside c.args.words.now c.loop-place.place w c.loop-place-test.true c.index-words-place.is in
    j.1
    ∙ term_ends c.args.sought.what c.args.sought.number c.args.env.now c.args.level c.args.words.now c.loop-place.place w at j.0
    (sym c.parts_of-parts.ensures ∙ c.if-parts-eq0.true) (c.word_uses.ensures.no c.if-word_uses.false)

pub returns-then-term_uses-clause-yes : goal.returns-then-term_uses-clause-yes
returns-then-term_uses-clause-yes t c = λ e m.
    let j = c.loop-place.invariant.rest m in
    let w = c.index-words-place.result in
    let at : word_at c.args.words.now c.loop-place.place ≡ w = word_inside c.args.words.now c.loop-place.place w c.loop-place-test.true c.index-words-place.is in
    subst (λ h. 0 < h) (sym j.1)
    (term_first c.args.sought.what c.args.sought.number c.args.env.now c.args.level c.args.words.now c.loop-place.place w at j.0
    (subst (λ p. 1 < p) c.parts_of-parts.ensures c.if-parts-gt1.true) (c.term_uses.ensures.yes c.if-term_uses.true))

pub returns-then-term_uses-2-clause-yes : goal.returns-then-term_uses-2-clause-yes
returns-then-term_uses-2-clause-yes t c = λ e m.
    let j = c.loop-place.invariant.rest m in
    let w = c.index-words-place.result in
    let i = c.loop-place.place in
    let at : word_at c.args.words.now i ≡ w = word_inside c.args.words.now i w c.loop-place-test.true c.index-words-place.is in
    subst (λ h. 0 < h) (sym j.1)
    (term_next c.args.sought.what c.args.sought.number c.args.env.now c.args.level c.args.words.now i w at j.0
    (subst (λ p. 2 < p) c.parts_of-parts.ensures c.if-parts-gt2.true)
    (subst (λ s. (k : ℕ) → 0 < term_hits c.args.sought.what c.args.sought.number c.args.words.now c.args.env.now c.args.level (i + 1 + s) k) c.second.ensures
    (c.term_uses-then-parts-gt2.ensures.yes c.if-term_uses-2.true)))

pub loop-place-preserved : goal.loop-place-preserved
loop-place-preserved t c =
    let i = c.loop-place.place in
    let w = c.index-words-place.result in
    let at : word_at c.args.words.now i ≡ w = word_inside c.args.words.now i w c.loop-place-test.true c.index-words-place.is in
    let parts = c.parts_of-parts.ensures in
    let none = c.if-parts-eq0.false in
    let counted : ℕ → ℕ → ℕ = λ k m. term_hits c.args.sought.what c.args.sought.number c.args.words.now c.args.env.now c.args.level k m in
    let first : 1 < many_parts w → (k : ℕ) → counted (i + 1) k ≡ 0 = λ more. elim c.else-parts-gt1.branch [
      | else-parts-gt1-via-then-parts-gt1+else-term_uses v ↦ v.term_uses.ensures.no v.if-term_uses.false
      | else-parts-gt1-via-else-parts-gt1 v ↦ let few = v.if-parts-gt1.false in absurd (omega (arith, few, more, parts))
    ] in
    let next : 2 < many_parts w → (k : ℕ) → counted (i + 1 + second w) k ≡ 0 = λ more. elim c.else-parts-gt2.branch [
      | else-parts-gt2-via-then-parts-gt2+else-term_uses-2 v ↦
          subst (λ s. (k : ℕ) → counted (i + 1 + s) k ≡ 0) v.second.ensures (v.term_uses-then-parts-gt2.ensures.no v.if-term_uses-2.false)
      | else-parts-gt2-via-else-parts-gt2 v ↦ let few = v.if-parts-gt2.false in absurd (omega (arith, few, more, parts))
    ] in
    record {
      after = let so = c.loop-place.invariant.after in omega (arith, so);
      rest = λ m.
          let j = c.loop-place.invariant.rest m in
          let on = term_front c.args.sought.what c.args.sought.number c.args.env.now c.args.level c.args.words.now i w at j.0
          (omega (arith, none, parts)) (c.word_uses.ensures.no c.if-word_uses.false) first next in
          (on.0, j.1 ∙ on.1 ∙ ap (λ l. counted (i + 1 + l) on.0) (sym c.last.ensures));
    }

pub returns-clause-no : goal.returns-clause-no
returns-clause-no t c = λ e m.
    let j = c.loop-place.invariant.rest m in
    j.1 ∙ term_past c.args.sought.what c.args.sought.number c.args.env.now c.args.level c.args.words.now c.loop-place.place j.0 c.loop-place-test.false
