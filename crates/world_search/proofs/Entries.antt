-- The entries at one world, and at all of them.
use Rattle.std.proofs.Common.{◌≡◌, ℕ, zero, suc, ◌+◌, ◌<◌, ◌≤◌, Bool, true, false, List, length, set, Some, Result, Ok, sym, ◌∙◌, subst, arith, inl, inr}
use Rattle.std.{proofs.lemmas.Option.same_Some, specs.List.slice_get}
use mathlib.Core.Logic.{◌⊎◌, dite}
use native.Mathlib.Decide.{ℕ_discrete}
use Rattle.world_search.specs.{declared.expanding.Came.Came, Lists.IsMore, Private.{Shapes.{Shape, with_quiet}, Graphs.{IsMet, Stays, IsQuiet, Grows, IsDone}}}
use Rattle.world_search.{specs.Private.Graphs.{ComesTo, CameSo, SameFlags, worse_of}, proofs.{Lists.{more_at, set_same, set_other}, Fitting.grow_met}}
use Rattle.world_search.proofs.Fitting.{grow_stays, grow_done}
use Rattle.world_search.specs.declared.expanding.Came.TheVariants as came

pub same_flags : (i : ℕ) (old new : List Bool) → IsMore old new → SameFlags i old new
same_flags i old new m j apart low = more_at old new j m low

pub same_flags_set : (i : ℕ) (old mid : List Bool) → IsMore old mid → SameFlags i old (set mid i false)
same_flags_set i old mid m j apart low = set_other mid i j false apart ∙ more_at old mid j m low

below : (f n : ℕ) → (f < n) ⊎ (n ≤ f)
below f zero = inr (omega arith)
below zero (suc n) = inl (omega arith)
below (suc f) (suc n) = elim (below f n) [ inl l ↦ inl (omega arith) | inr g ↦ inr (omega arith) ]

module _ {W E R : Type 0} (step : W → ℕ → Result W E) (report : W → R) (most longest : ℕ) where
  module _ (ws vs : List W) (es ds : List E) (s t : Shape) (g : Grows ws vs es ds s t) (i : ℕ) (w : W) (n : ℕ) where
    met_next : ((f : ℕ) → f < n → IsMet step report most longest ws es s (step w f)) → IsMet step report most longest vs ds t (step w n) → (f : ℕ) →
        f < n + 1 → IsMet step report most longest vs ds t (step w f)
    met_next h last f low = dite (ℕ_discrete f n)
        (λ is. subst (λ m. IsMet step report most longest vs ds t (step w m)) (sym is) last)
        (λ isnt. grow_met step report most longest ws vs es ds s t g (step w f) (h f (omega arith)))

    stays_next : ((f : ℕ) → f < n → Stays step report most longest ws es s i w (step w f)) → Stays step report most longest vs ds t i w (step w n) →
        (f : ℕ) → f < n + 1 → Stays step report most longest vs ds t i w (step w f)
    stays_next h last f low = dite (ℕ_discrete f n)
        (λ is. subst (λ m. Stays step report most longest vs ds t i w (step w m)) (sym is) last)
        (λ isnt. grow_stays step report most longest ws vs es ds s t g i w (step w f) (h f (omega arith)))

    -- one more entry
    pub came_next : (a b : Came) → CameSo step report most longest ws es s i w a n → ComesTo step report most longest vs ds t i w b (step w n) →
        CameSo step report most longest vs ds t i w (worse_of a b) (n + 1)
    came_next came.Lost b h k = tt
    came_next came.Leaves came.Lost h k = tt
    came_next came.Leaves came.Leaves h k = (met_next h.0 k.0, h.1)
    came_next came.Leaves came.Stays h k = (met_next h.0 k.0, h.1)
    came_next came.Stays came.Lost h k = tt
    came_next came.Stays came.Leaves h k = (met_next (λ f low. (h f low).0) k.0, (n, k.1))
    came_next came.Stays came.Stays h k = λ f low. (met_next (λ f low. (h f low).0) k.0 f low, stays_next (λ f low. (h f low).1) k.1 f low)

  module _ (ws : List W) (es : List E) (s : Shape) (i n : ℕ) (rests : (w : W) → slice_get ws i ≡ Some w → (f : ℕ) → n ≤ f → step w f ≡ Ok w) where
    pub quiet_all : ((w : W) → slice_get ws i ≡ Some w → CameSo step report most longest ws es s i w came.Stays n) → IsQuiet step report most longest ws es s i
    quiet_all h w at f = elim (below f n) [ inl low ↦ (h w at f low).1 | inr past ↦ inl (rests w at f past) ]

    met_all : i < length s.nodes → ((w : W) → slice_get ws i ≡ Some w → (f : ℕ) → f < n → IsMet step report most longest ws es s (step w f)) →
        (w : W) → slice_get ws i ≡ Some w → (f : ℕ) → IsMet step report most longest ws es s (step w f)
    met_all here h w at f = elim (below f n) [
      | inl low ↦ h w at f low
      | inr past ↦ subst (IsMet step report most longest ws es s) (sym (rests w at f past)) (i, here, at)
    ]

    pub done_quiet : i < length s.nodes → i < length s.unsettled →
        ((w : W) → slice_get ws i ≡ Some w → CameSo step report most longest ws es s i w came.Stays n) →
        IsDone step report most longest ws es (with_quiet s i) i
    done_quiet here flag h = record {
      met = met_all here (λ w at f low. (h w at f low).0);
      leaves = λ yes w at. let no : true ≡ false = same_Some true false (sym yes ∙ set_same s.unsettled i false flag) in absurd (cc);
    }

    pub done_leaves : i < length s.nodes → ((w : W) → slice_get ws i ≡ Some w → CameSo step report most longest ws es s i w came.Leaves n) →
        IsDone step report most longest ws es s i
    done_leaves here h = record {
      met = met_all here (λ w at. (h w at).0);
      leaves = λ yes w at. (h w at).1;
    }

  -- one more world
  pub done_next : (ws vs : List W) (es ds : List E) (s t : Shape) (n : ℕ) → Grows ws vs es ds s t → length s.nodes ≤ length ws →
      length s.unsettled ≡ length s.nodes → n < length s.nodes → SameFlags n s.unsettled t.unsettled
      → ((i : ℕ) → i < n → IsDone step report most longest ws es s i) → IsDone step report most longest vs ds t n → (i : ℕ) → i < n + 1 →
      IsDone step report most longest vs ds t i
  done_next ws vs es ds s t n g known flags low same h last i less = dite (ℕ_discrete i n)
      (λ is. subst (IsDone step report most longest vs ds t) (sym is) last)
      (λ isnt. grow_done step report most longest ws vs es ds s t g i (omega arith) (same i isnt (omega arith)) (h i (omega arith)))
