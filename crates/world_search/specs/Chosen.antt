-- Chosen entries: a reduced system that makes, at some worlds, the entries of some fibers only. The entries of all
-- others change nothing there.
use Rattle.std.specs.Prelude.{◌≡◌, ◌⊎◌, ◌<◌, ℕ, Bool, true, false, Result, Ok, Err}

module _ {W E : Type 0} (step : W → ℕ → Result W E) where
  -- the move of f, which leads to x, and the entry of g lead to the same world in either order; a fault stays
  abbrev pub Meet : ℕ → W → ℕ → Result W E → Type 0
  Meet f x g (Ok y) = (z : W) × (step y f ≡ Ok z) × (step x g ≡ Ok z)
  Meet f x g (Err e) = step x g ≡ Err e

  -- The fibers of T are apart where Holds does: entries of other fibers keep it, commute with each entry of T or change
  -- nothing, and leave each fault of T
  pub record AreApart (Holds : W → Type 0) (T : ℕ → Bool) : Type 0 where
    pub stays : (w : W) (g : ℕ) (y : W) → Holds w → T g ≡ false → step w g ≡ Ok y → Holds y
    pub meet : (w : W) (f g : ℕ) (x : W) → Holds w → T f ≡ true → T g ≡ false → step w f ≡ Ok x →
        (step w g ≡ Ok w) ⊎ Meet f x g (step w g)
    pub faults : (w : W) (f g : ℕ) (e : E) (y : W) → Holds w → T f ≡ true → T g ≡ false → step w f ≡ Err e →
        step w g ≡ Ok y → step y f ≡ Err e

  module _ (leap chosen : W → ℕ → Result W E) (size : W → ℕ) where
    -- at this world only the entries of T are made, which is apart; one of them, the seed's, leads to a smaller world
    pub record IsPart (w : W) : Type 1 where
      pub T : ℕ → Bool
      pub Holds : W → Type 0
      pub apart : AreApart Holds T
      pub holds : Holds w
      pub made : (f : ℕ) → T f ≡ true → chosen w f ≡ leap w f
      pub others : (f : ℕ) → T f ≡ false → chosen w f ≡ Ok w
      pub seed : ℕ
      pub in_it : T seed ≡ true
      pub next : W
      pub goes : leap w seed ≡ Ok next
      pub smaller : size next < size w

    -- at this world all entries are made, or those of such a set
    pub data IsChosen (w : W) : Type 1 where
      Whole : ((f : ℕ) → chosen w f ≡ leap w f) → IsChosen w
      Part : IsPart w → IsChosen w
