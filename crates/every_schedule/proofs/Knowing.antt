-- What is known of states, as more becomes known.
use Rattle.std.proofs.Common.{◌≡◌, ℕ, zero, suc, ◌<◌, refl, lit<, Bool, List, [], ◌∷◌, ◌++◌, length, set, inl, inr, sym, ap, ◌∙◌, subst, arith}
use Rattle.std.{proofs.lemmas.Option.same_Some, specs.{Prelude.{Option, Some, None}, List.slice_get}}
use mathlib.Core.Logic.{dite}
use native.Mathlib.Decide.{ℕ_discrete}
use Rattle.derived_ops.specs.Naming.{Given}
use Rattle.fiber_frames.specs.declared.uses.Use.{Use}
use Rattle.fiber_frames.specs.declared.uses.Use.TheVariants.{Awaits, Cancels, Completes, Gets, Joins, MakesDeferreds, MakesRefs, Starts, Stores}
use Rattle.fiber_frames.specs.Fiber.{Fiber}
use Rattle.fiber_frames.specs.Naming.{NamedRun}
use Rattle.fiber_frames.specs.Uses.{is_some, uses_in}
use Rattle.world_search.{specs.Lists.IsMore, proofs.Lists.{get_end, more_get, set_other, set_same}}
use Rattle.every_schedule.specs.{declared.known.Known.Known, Private.Knowing.{AreKnownOf, IsKnown, TellUses, use_code, use_place}}

-- each use has a number of its own
use_of : ℕ → Use
use_of zero = Cancels
use_of (suc zero) = Joins
use_of (suc (suc zero)) = Gets
use_of (suc (suc (suc zero))) = Stores
use_of (suc (suc (suc (suc zero)))) = Completes
use_of (suc (suc (suc (suc (suc zero))))) = Awaits
use_of (suc (suc (suc (suc (suc (suc zero)))))) = Starts
use_of (suc (suc (suc (suc (suc (suc (suc zero))))))) = MakesRefs
use_of (suc (suc (suc (suc (suc (suc (suc (suc n)))))))) = MakesDeferreds

decoded : (u : Use) → use_of (use_code u) ≡ u
unfolding use_of
decoded Cancels = refl
decoded Joins = refl
decoded Gets = refl
decoded Stores = refl
decoded Completes = refl
decoded Awaits = refl
decoded Starts = refl
decoded MakesRefs = refl
decoded MakesDeferreds = refl

few_uses : (u : Use) → use_code u < 9
few_uses Cancels = lit< tt
few_uses Joins = lit< tt
few_uses Gets = lit< tt
few_uses Stores = lit< tt
few_uses Completes = lit< tt
few_uses Awaits = lit< tt
few_uses Starts = lit< tt
few_uses MakesRefs = lit< tt
few_uses MakesDeferreds = lit< tt

same_use : (u v : Use) (m n : ℕ) → use_place u m ≡ use_place v n → (u ≡ v) × (m ≡ n)
same_use u v m n e =
    let a = few_uses u in
    let b = few_uses v in
    let codes : use_code u ≡ use_code v = omega (arith, a, b, e) in
    (sym (decoded u) ∙ ap use_of codes ∙ decoded v, omega (arith, a, b, e))

module _ (g : Fiber) where
  -- nothing is known of any number
  pub tell_none : (xs : List (Option Bool)) → ((i : ℕ) (x : Option Bool) → slice_get xs i ≡ Some x → x ≡ None) → TellUses g xs
  tell_none xs none = λ given named u n b at. let no : Some b ≡ None = none (use_place u n) (Some b) at in absurd (cc)

  -- one more use is known
  pub tell_set : (xs : List (Option Bool)) (u : Use) (m i : ℕ) (it : Bool) → i ≡ use_place u m → i < length xs → TellUses g xs →
      ((given : Given) → NamedRun given g.running → it ≡ is_some (uses_in u m g.running)) → TellUses g (set xs i (Some it))
  tell_set xs u m i it place low h told = λ given named v n b at. dite (ℕ_discrete (use_place v n) i)
      (λ is.
      let here : Some (Some it) ≡ Some (Some b) = sym (set_same xs i (Some it) low) ∙ subst (λ j. slice_get (set xs i (Some it)) j ≡ Some (Some b)) is at in
      let one : it ≡ b = same_Some it b (same_Some (Some it) (Some b) here) in
      let both = same_use u v m n (sym place ∙ sym is) in
      sym one ∙ told given named ∙ ap (λ x. is_some (uses_in x m g.running)) both.0 ∙ ap (λ x. is_some (uses_in v x g.running)) both.1)
      (λ isnt. h given named v n b (sym (set_other xs i (use_place v n) (Some it) isnt) ∙ at))

-- what is known of states stays right as states are added
pub known_more : (fs fs' : List Fiber) (ks : List Known) → IsMore fs fs' → AreKnownOf fs ks → AreKnownOf fs' ks
known_more fs fs' ks more h = λ i k at. let it = h i k at in (it.0, more_get fs fs' i it.0 more it.1, it.2)

-- one more state is known
pub known_added : (fs : List Fiber) (ks : List Known) (g : Fiber) (k : Known) → slice_get fs (length ks) ≡ Some g → IsKnown g k →
    AreKnownOf fs ks → AreKnownOf fs (ks ++ k ∷ [])
known_added fs ks g k at is h = λ i x there. elim (get_end ks k x i there) [
  | inl early ↦ h i x early
  | inr last ↦ (g, subst (λ m. slice_get fs m ≡ Some g) (sym last.0) at, subst (IsKnown g) last.1 is)
]

-- what is known of one state is replaced
pub known_set : (fs : List Fiber) (ks : List Known) (g : Fiber) (i : ℕ) (k : Known) → i < length ks → slice_get fs i ≡ Some g → IsKnown g k →
    AreKnownOf fs ks → AreKnownOf fs (set ks i k)
known_set fs ks g i k low at is h = λ n x there. dite (ℕ_discrete n i)
    (λ same.
    let one : k ≡ x = same_Some k x (sym (set_same ks i k low) ∙ subst (λ m. slice_get (set ks i k) m ≡ Some x) same there) in
    (g, subst (λ m. slice_get fs m ≡ Some g) (sym same) at, subst (IsKnown g) one is))
    (λ isnt. h n x (sym (set_other ks i n k isnt) ∙ there))
