-- Worlds by the numbers of their states, as states are added.
use Rattle.std.proofs.Common.{◌≡◌, inl, inr, ℕ, zero, suc, ◌<◌, List, [], ◌∷◌, ◌++◌, length, map, Some, refl, sym, ap, ◌∙◌, subst, arith}
use Rattle.std.{proofs.lemmas.{List.length-map, Option.{same_Some, slice_get_within}}, specs.{List.{All, slice_get}, Option.option_to_list}}
use Rattle.cell_registry.specs.{declared.limits.Limits.Limits, Cells.Cells, Plain.PlainView}
use Rattle.fiber_frames.specs.Fiber.{Fiber}
use Rattle.scheduled_core.specs.Fitting.{AllFit, world_of}
use Rattle.world_search.{specs.Lists.IsMore, proofs.Lists.{all_from, get_end, get_low, more_by, more_get, more_same}}
use Rattle.every_schedule.specs.{Places.Place, Private.Numbered.{AreAt, AreWorlds, IsWorld, IsWorldOf, MayAdd, Numbers, cells_in, picked, place_of}}

pub picked_is : (fs : List Fiber) (ns : List ℕ) (gs : List Fiber) → AreAt fs ns gs → picked fs ns ≡ gs
picked_is fs [] [] h = refl
picked_is fs [] (g ∷ gs) h = absurd (let many = h.many in omega arith)
picked_is fs (n ∷ ns) [] h = absurd (let many = h.many in omega arith)
picked_is fs (n ∷ ns) (g ∷ gs) h =
    let at = h.each 0 n refl in
    let here : slice_get fs n ≡ Some g = at.2 ∙ ap Some (sym (same_Some g at.0 at.1)) in
    let rest = picked_is fs ns gs record { many = let many = h.many in omega arith; each = λ i m e. h.each (suc i) m e } in
    ap (λ o. option_to_list o ++ picked fs ns) here ∙ ap (λ l. g ∷ l) rest

-- these numbers have states
pub all_there : (fs : List Fiber) (ns : List ℕ) (gs : List Fiber) → AreAt fs ns gs → All (λ n. n < length fs) ns
all_there fs ns gs h = all_from (λ n. n < length fs) ns (λ i n e. let at = h.each i n e in slice_get_within fs n at.0 at.2)

pub at_more : (fs more : List Fiber) (ns : List ℕ) (gs : List Fiber) → IsMore fs more → AreAt fs ns gs → AreAt more ns gs
at_more fs more ns gs m h = record { many = h.many; each = λ i n e. let at = h.each i n e in (at.0, at.1, more_get fs more n at.0 m at.2) }

module _ (k : Limits) where
  rebuilt : (p : Place) (gs : List Fiber) (s : Cells) → p.limits ≡ k → gs ≡ p.world.fibers → s ≡ p.world.cells →
      record { limits = k; world = world_of gs s } ≡ p
  rebuilt p gs s l g c =
      ap (λ (x : Limits). record { limits = x; world = world_of gs s }) (sym l) ∙
      ap (λ (x : List Fiber). record { limits = p.limits; world = world_of x s }) g ∙
      ap (λ (x : Cells). record { limits = p.limits; world = world_of p.world.fibers x }) c

  -- the place of the numbers is the world that they make
  pub world_is : (fs : List Fiber) (rs : List PlainView) (n : Numbers) (p : Place) → IsWorldOf fs rs n p → p.limits ≡ k → place_of k fs rs n ≡ p
  world_is fs rs n p h l =
      rebuilt p (picked fs n.fibers) (cells_in k (slice_get rs n.registry)) l (picked_is fs n.fibers p.world.fibers h.fibers) (ap (cells_in k) h.registry)

  pub is_place : (fs : List Fiber) (rs : List PlainView) (n : Numbers) → (h : IsWorld k fs rs n) → place_of k fs rs n ≡ h.place
  is_place fs rs n h = world_is fs rs n h.place h.is h.limits

module _ (fs fs' : List Fiber) (rs rs' : List PlainView) (mf : IsMore fs fs') (mr : IsMore rs rs') where
  pub of_more : (n : Numbers) (p : Place) → IsWorldOf fs rs n p → IsWorldOf fs' rs' n p
  of_more n p h = record {
    fibers = at_more fs fs' n.fibers p.world.fibers mf h.fibers;
    registry = more_get rs rs' n.registry _ mr h.registry;
  }

  pub is_more : (k : Limits) (n : Numbers) → IsWorld k fs rs n → IsWorld k fs' rs' n
  is_more k n h = record { place = h.place; limits = h.limits; is = of_more n h.place h.is; fits = h.fits }

  pub worlds_more : (k : Limits) (rows : List Numbers) → AreWorlds k fs rs rows → AreWorlds k fs' rs' rows
  worlds_more k rows h = λ i n e. is_more k n (h i n e)

  -- worlds stay the same
  pub places_more : (k : Limits) (rows : List Numbers) → AreWorlds k fs rs rows → map (place_of k fs rs) rows ≡ map (place_of k fs' rs') rows
  places_more k [] h = refl
  places_more k (n ∷ rows) h =
      let here = h 0 n refl in
      let same : place_of k fs rs n ≡ place_of k fs' rs' n = world_is k fs rs n here.place here.is here.limits ∙
      sym (world_is k fs' rs' n here.place (of_more n here.place here.is) here.limits) in
      ap (λ x. x ∷ map (place_of k fs rs) rows) same ∙ ap (λ l. place_of k fs' rs' n ∷ l) (places_more k rows (λ i m e. h (suc i) m e))

-- two worlds of the same numbers are equal
pub one_world : (k : Limits) (fs : List Fiber) (rs : List PlainView) (n : Numbers) (p q : Place) → IsWorldOf fs rs n p → p.limits ≡ k →
    IsWorldOf fs rs n q → q ≡ p
one_world k fs rs n p q h l g =
    let registries : record { limits = p.limits; state = p.world.cells } ≡ record { limits = q.limits; state = q.world.cells } =
    same_Some _ _ (sym h.registry ∙ g.registry) in
    let limits : q.limits ≡ k = sym (ap (λ (r : PlainView). r.limits) registries) ∙ l in
    sym (world_is k fs rs n q g limits) ∙ world_is k fs rs n p h l

pub fits_so : (k : Limits) (fs : List Fiber) (rs : List PlainView) (n : Numbers) (q : Place) → IsWorld k fs rs n → IsWorldOf fs rs n q → AllFit q.world
fits_so k fs rs n q h g = subst (λ (p : Place). AllFit p.world) (sym (one_world k fs rs n h.place q h.is h.limits g)) h.fits

-- a row is added
pub rows_added : (k : Limits) (fs : List Fiber) (rs : List PlainView) (old new : List Numbers) (n : Numbers) → MayAdd old new n →
    AreWorlds k fs rs old → IsWorld k fs rs n → AreWorlds k fs rs new
rows_added k fs rs old new n (inl same) h it = subst (AreWorlds k fs rs) (sym same) h
rows_added k fs rs old new n (inr one) h it =
    subst (AreWorlds k fs rs) (sym one) (λ i m e. elim (get_end old n m i e) [
      | inl early ↦ h i m early
      | inr last ↦ subst (IsWorld k fs rs) last.1 it
    ])

pub map_append : {A B : Type 0} (f : A → B) (xs ys : List A) → map f (xs ++ ys) ≡ map f xs ++ map f ys
map_append f [] ys = refl
map_append f (x ∷ xs) ys = ap (λ l. f x ∷ l) (map_append f xs ys)

pub places_added : {A B : Type 0} (f : A → B) (old new : List A) (n : A) → MayAdd old new n → IsMore (map f old) (map f new)
places_added f old new n (inl same) = subst (λ l. IsMore (map f old) (map f l)) (sym same) (more_same (map f old))
places_added f old new n (inr one) =
    subst (λ l. IsMore (map f old) (map f l)) (sym one) (subst (IsMore (map f old)) (sym (map_append f old (n ∷ []))) (more_by (map f old) (map f (n ∷ []))))

pub map_get : {A B : Type 0} (f : A → B) (xs : List A) (i : ℕ) (x : A) → slice_get xs i ≡ Some x → slice_get (map f xs) i ≡ Some (f x)
map_get f [] i x e = absurd (cc)
map_get f (y ∷ xs) zero x e = ap Some (ap f (same_Some y x e))
map_get f (y ∷ xs) (suc i) x e = map_get f xs i x e

-- the row of a place
pub row_at : {A B : Type 0} (f : A → B) (rows : List A) (i : ℕ) → i < length (map f rows) → (n : A) × (slice_get rows i ≡ Some n) ×
    (slice_get (map f rows) i ≡ Some (f n))
row_at f rows i low =
    let many = length-map rows f in
    let at = get_low rows i (omega arith) in
    (at.0, at.1, map_get f rows i at.0 at.1)

-- fibers and a registry of these numbers
pub is_at : (fs : List Fiber) (rs : List PlainView) (n : Numbers) (gs : List Fiber) (r : PlainView) → AreAt fs n.fibers gs →
    slice_get rs n.registry ≡ Some r → IsWorldOf fs rs n record { limits = r.limits; world = world_of gs r.state }
is_at fs rs n gs r a e = record { fibers = a; registry = e }

pub fits_at : (k : Limits) (fs : List Fiber) (rs : List PlainView) (n : Numbers) (gs : List Fiber) (r : PlainView) → IsWorld k fs rs n →
    AreAt fs n.fibers gs → slice_get rs n.registry ≡ Some r → AllFit (world_of gs r.state)
fits_at k fs rs n gs r h a e = fits_so k fs rs n record { limits = r.limits; world = world_of gs r.state } h (is_at fs rs n gs r a e)

pub registry_there : (k : Limits) (fs : List Fiber) (rs : List PlainView) (n : Numbers) → IsWorld k fs rs n → n.registry < length rs
registry_there k fs rs n h = slice_get_within rs n.registry _ h.is.registry

pub fibers_there : (k : Limits) (fs : List Fiber) (rs : List PlainView) (n : Numbers) → IsWorld k fs rs n → All (λ m. m < length fs) n.fibers
fibers_there k fs rs n h = all_there fs n.fibers h.place.world.fibers h.is.fibers
