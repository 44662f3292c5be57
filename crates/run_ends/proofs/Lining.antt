-- Lines of a report, one after another.
use Rattle.std.proofs.Common.{◌≡◌, ℕ, zero, suc, ◌+◌, ◌<◌, List, [], ◌∷◌, ◌++◌, All, length, map, inl, inr, Some, refl, sym, ap, ◌∙◌, subst, arith}
use Rattle.std.{proofs.lemmas.{List.{length-append, map-append}, Option.same_Some}, specs.List.slice_get}
use Rattle.fiber_frames.specs.Fiber.{Fiber}
use Rattle.scheduled_core.specs.{declared.report.FiberReport.FiberReport, Core.fiber_report}
use Rattle.run_ends.{specs.Private.Gathered.{AreLines, IsIn, IsLeast, IsNowhere}, proofs.Meeting.last_or}

pub found : (xs : List Fiber) (g : ℕ) → g < length xs → (s : Fiber) × (slice_get xs g ≡ Some s)
found [] g h = absurd (omega arith)
found (x ∷ xs) zero h = (x, refl)
found (x ∷ xs) (suc g) h = found xs g (omega arith)

-- what a fiber has come to stands at its number
pub reported_at : (xs : List Fiber) (f : ℕ) (g : Fiber) → slice_get xs f ≡ Some g → slice_get (map fiber_report xs) f ≡ Some (fiber_report g)
reported_at [] f g e = absurd (cc)
reported_at (x ∷ xs) zero g e = ap (λ (y : Fiber). Some (fiber_report y)) (same_Some x g e)
reported_at (x ∷ xs) (suc f) g e = reported_at xs f g e

-- and nothing else stands there
pub report_of : (xs : List Fiber) (f : ℕ) (line : FiberReport) → slice_get (map fiber_report xs) f ≡ Some line → (s : Fiber) × (slice_get xs f ≡ Some s)
report_of [] f line e = absurd (cc)
report_of (x ∷ xs) zero line e = (x, refl)
report_of (x ∷ xs) (suc f) line e = report_of xs f line e

pub more_lines : (configs : List Fiber) (n : ℕ) (lines : List FiberReport) (s : Fiber) → AreLines configs n lines → IsIn s configs n →
    AreLines configs (n + 1) (lines ++ fiber_report s ∷ [])
more_lines configs n lines s a i = record {
  finals = a.finals ++ s ∷ [];
  lines_are = ap (λ (l : List FiberReport). l ++ fiber_report s ∷ []) a.lines_are ∙ sym (map-append fiber_report a.finals (s ∷ []));
  many = length-append a.finals (s ∷ []) ∙ ap (λ m. m + 1) a.many;
  each = λ f t e. elim (last_or a.finals s f t e) [
    | inl h ↦ a.each f t h
    | inr h ↦ subst (λ (x : Fiber). IsIn x configs f) (sym h.1) (subst (λ (m : ℕ). IsIn s configs m) (sym (h.0 ∙ a.many)) i)
  ];
}

-- the fiber after those that have lines is the least one whose state isn't there
pub least : (configs : List Fiber) (n born : ℕ) (lines : List FiberReport) → AreLines configs n lines → n < born → IsNowhere configs n → IsLeast configs born n
least configs n born lines a less nowhere = record {
  below = less;
  none = nowhere;
  before = λ g low.
      let long : g < length a.finals = (let m = a.many in omega arith) in
      let s = found a.finals g long in
      (s.0, a.each g s.0 s.1);
}

-- what holds of each element of a list and of one more
pub all_push : {A : Type 0} (P : A → Type 0) (xs : List A) (a : A) → All P xs → P a → All P (xs ++ a ∷ [])
all_push P [] a h p = first
  where
    first : All P (a ∷ [])
    first zero d less = p
    first (suc k) d less = absurd (omega arith)
all_push P (x ∷ xs) a h p = more (all_push P xs a (λ k d less. h (suc k) d (omega arith)) p)
  where
    more : All P (xs ++ a ∷ []) → All P (x ∷ xs ++ a ∷ [])
    more rest zero d less = h zero d (omega arith)
    more rest (suc k) d less = rest k d (omega arith)
