-- Sums and products that stop at a greatest number. Their parts can stop there too.
use Rattle.fiber_frames.proofs.Prelude.{◌≡◌, ◌≤◌, ◌⊎◌, inl, inr, ℕ, ◌+◌, ◌*◌, min, sym, ap, ◌∙◌, refl, arith, cases_lt}
use Rattle.std.proofs.Common.{mul-add, mul-zero, mul_assoc, mul_comm, eq-zero-or-pos, le-mul_of_pos_right}

module _ (top : ℕ) where
  pub capped_add : (a b c d : ℕ) → min a top ≡ min b top → min c top ≡ min d top → min (a + c) top ≡ min (b + d) top
  capped_add a b c d e f = omega arith

  -- numbers that stop at one number are equal, or neither is less than the greatest
  equal_or_high : (a b : ℕ) → min a top ≡ min b top → (a ≡ b) ⊎ ((top ≤ a) × (top ≤ b))
  equal_or_high a b e = elim (cases_lt a top) [
    | inl low ↦ inl (omega arith)
    | inr high ↦ inr (high, omega arith)
  ]

  capped_left : (a b c : ℕ) → min a top ≡ min b top → min (a * c) top ≡ min (b * c) top
  capped_left a b c e = elim (equal_or_high a b e) [
    | inl same ↦ ap (λ x. min (x * c) top) same
    | inr high ↦ elim (eq-zero-or-pos c) [
      | inl none ↦ ap (λ x. min x top) (ap (λ x. a * x) none ∙ mul-zero a ∙ sym (ap (λ x. b * x) none ∙ mul-zero b))
      | inr some ↦
          let one = le-mul_of_pos_right a some in
          let other = le-mul_of_pos_right b some in
          omega (arith, one, other, high)
    ]
  ]

  pub capped_right : (a b c : ℕ) → min b top ≡ min c top → min (a * b) top ≡ min (a * c) top
  capped_right a b c e = ap (λ x. min x top) (mul_comm a b) ∙ capped_left b c a e ∙ ap (λ x. min x top) (mul_comm c a)

  capped_on : (sum p q r s o : ℕ) → min p top ≡ min (q + r) top → min o top ≡ min q top → min s top ≡ min r top →
      min (sum + p) top ≡ min (min (sum + min o top) top + s) top
  capped_on sum p q r s o e f g =
      let first : min (sum + q) top ≡ min (min (sum + min o top) top) top = omega (arith, f) in
      capped_add sum sum p (q + r) refl e
      ∙ ap (λ x. min x top) (omega arith)
      ∙ capped_add (sum + q) (min (sum + min o top) top) r s first (sym g)

  -- a sum so far and a part that counts so often, after one more front of the part
  pub capped_step : (sum times own front turns last part : ℕ) → min own top ≡ min front top → min part top ≡ min (front + turns * last) top →
      min (sum + times * part) top ≡ min (min (sum + min (times * own) top) top + min (times * turns) top * last) top
  capped_step sum times own front turns last part e f =
      let spread : times * (front + turns * last) ≡ times * front + times * turns * last =
      mul-add times front (turns * last) ∙ ap (λ x. times * front + x) (sym (mul_assoc times turns last)) in
      capped_on sum (times * part) (times * front) (times * turns * last) (min (times * turns) top * last) (times * own)
      (capped_right times part (front + turns * last) f ∙ ap (λ x. min x top) spread)
      (capped_right times own front e)
      (capped_left (min (times * turns) top) (times * turns) last (omega arith))

  -- the same, where nothing follows the front
  pub capped_last : (sum times own part : ℕ) → min own top ≡ min part top → min (sum + min (times * own) top) top ≡ min (sum + times * part) top
  capped_last sum times own part e = capped_add sum sum (min (times * own) top) (times * part) refl (omega (arith, capped_right times own part e))

  pub capped_front : (own x y o s f : ℕ) → o ≡ min own top → s ≡ min (o + x) top → f ≡ min (s + y) top → min f top ≡ min (own + (x + y)) top
  capped_front own x y o s f e g h = omega arith
