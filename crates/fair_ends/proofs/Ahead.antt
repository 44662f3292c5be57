-- Free moves made ahead, which lead from one world to another: each further entry is one of them, or leads on from the other world as well.
use Rattle.std.proofs.Common.{◌≡◌, ◌≢◌, ℕ, zero, suc, ◌+◌, ◌<◌, ◌≤◌, Bool, true, false, List, [], ◌∷◌, ◌++◌, length, Some, Result, Ok, Err, refl, sym, ap, ◌∙◌}
use Rattle.std.{proofs.{Common.{subst, arith}, lemmas.Bool.{eqb-true, eq-eqb}}, specs.Prelude.nat_eq}
use mathlib.Core.Logic.{dite}
use native.Mathlib.Decide.{ℕ_discrete}
use Rattle.world_search.specs.{Free.{AreFree, Commutes}, Lists.IsIn, Systems.run}
use Rattle.fair_ends.specs.Fair.{LeadBy}

-- ---- how often a fiber is in a list
abbrev pub one_if : Bool → ℕ
one_if true = 1
one_if false = 0

abbrev pub many : ℕ → List ℕ → ℕ
many g [] = 0
many g (f ∷ fs) = one_if (nat_eq f g) + many g fs

one_same : (f g : ℕ) → f ≡ g → one_if (nat_eq f g) ≡ 1
one_same f g same = ap one_if (eq-eqb f g same)

one_apart : (f g : ℕ) → f ≢ g → one_if (nat_eq f g) ≡ 0
one_apart f g apart = by (nat_eq f g) refl
  where
    by : (b : Bool) → nat_eq f g ≡ b → one_if b ≡ 0
    by true is = absurd (apart (eqb-true f g is))
    by false is = refl

pub many_first : (f : ℕ) (fs : List ℕ) → 0 < many f (f ∷ fs)
many_first f fs = let one = one_same f f refl in omega arith

pub many_append : (g : ℕ) (fs gs : List ℕ) → many g (fs ++ gs) ≡ many g fs + many g gs
many_append g [] gs = omega arith
many_append g (f ∷ fs) gs = let rest = many_append g fs gs in omega (arith, rest)

pub many_in : (g : ℕ) (fs : List ℕ) → 0 < many g fs → IsIn g fs
many_in g [] some = absurd (omega arith)
many_in g (f ∷ fs) some = dite (ℕ_discrete f g)
    (λ is. (0, ap Some is))
    (λ isnt. let none = one_apart f g isnt in let later = many_in g fs (omega arith) in (suc later.0, later.1))

pub none_many : (g : ℕ) (fs : List ℕ) → (IsIn g fs → ⊥) → many g fs ≡ 0
none_many g fs none = by (many g fs) refl
  where
    by : (n : ℕ) → many g fs ≡ n → n ≡ 0
    by zero is = refl
    by (suc n) is = absurd (none (many_in g fs (omega arith)))

module _ {W E : Type 0} (entry : W → ℕ → Result W E) (Free : W → ℕ → Type 0) where
  pub led_append : (fs gs : List ℕ) (w x v : W) → LeadBy entry Free w fs x → LeadBy entry Free x gs v → LeadBy entry Free w (fs ++ gs) v
  led_append [] gs w x v a b = subst (λ t. LeadBy entry Free t gs v) (sym a) b
  led_append (f ∷ fs) gs w x v a b = (a.0, a.1, a.2, led_append fs gs a.1 x v a.3 b)

  pub led_run : (fs : List ℕ) (w v : W) → LeadBy entry Free w fs v → run entry (Ok w) fs ≡ Ok v
  led_run [] w v h = ap Ok h
  led_run (f ∷ fs) w v h = ap (λ x. run entry x fs) h.2 ∙ led_run fs h.1 v h.3

  -- the entry of fiber g is one of the moves ahead
  pub record Taken (u v : W) (ps : List ℕ) (g : ℕ) : Type 0 where
    pub next : W
    pub goes : entry u g ≡ Ok next
    pub rest : List ℕ
    pub leads : LeadBy entry Free next rest v
    pub one : suc (many g rest) ≡ many g ps
    pub others : (h : ℕ) → many h rest ≤ many h ps
    pub shorter : suc (length rest) ≡ length ps

  -- the entry isn't one of the moves ahead, and leads on from where they lead
  abbrev pub Passed : List ℕ → Result W E → Result W E → Type 0
  Passed ps x (Ok z) = (y : W) × (x ≡ Ok y) × LeadBy entry Free y ps z
  Passed ps x (Err e) = x ≡ Err e

  module _ (free : AreFree entry Free) where
    module _ (f g : ℕ) (fs : List ℕ) (u x v : W) (isnt : f ≢ g) (t : Taken x v fs g) where
      taken_by : (y : Result W E) → entry u g ≡ y → Commutes entry Free f x g y → Taken u v (f ∷ fs) g
      taken_by (Ok y) is h =
          let same : h.1 ≡ t.next = (let both : Ok h.1 ≡ Ok t.next = sym h.3 ∙ t.goes in cc) in
          let none = one_apart f g isnt in
          let long = t.shorter in record {
            next = y;
            goes = is;
            rest = f ∷ t.rest;
            leads = (h.0, h.1, h.2, subst (λ z. LeadBy entry Free z t.rest v) (sym same) t.leads);
            one = (let rest = t.one in omega arith);
            others = λ k. let rest = t.others k in omega arith;
            shorter = (omega arith);
          }
      taken_by (Err e) is h = let no : Err e ≡ Ok t.next = sym h ∙ t.goes in absurd (cc)

    pub taken : (ps : List ℕ) (u v : W) (g : ℕ) → LeadBy entry Free u ps v → 0 < many g ps → Taken u v ps g
    taken [] u v g h some = absurd (omega arith)
    taken (f ∷ fs) u v g h some = dite (ℕ_discrete f g)
        (λ is.
        let one = one_same f g is in record {
          next = h.1;
          goes = subst (λ k. entry u k ≡ Ok h.1) is h.2;
          rest = fs;
          leads = h.3;
          one = (omega arith);
          others = λ k. omega arith;
          shorter = refl;
        })
        (λ isnt.
        let none = one_apart f g isnt in
        taken_by f g fs u h.1 v isnt (taken fs h.1 v g h.3 (omega arith)) (entry u g) refl
        (free.commutes u f h.1 h.0 h.2 g (λ same. isnt (sym same))))

    passed_by : (f g : ℕ) (fs : List ℕ) (x : W) (y z : Result W E) → Commutes entry Free f x g y → Passed fs (entry x g) z → Passed (f ∷ fs) y z
    passed_by f g fs x (Ok y) (Ok z) h r =
        let same : h.1 ≡ r.0 = (let both : Ok h.1 ≡ Ok r.0 = sym h.3 ∙ r.1 in cc) in
        (y, refl, (h.0, h.1, h.2, subst (λ t. LeadBy entry Free t fs z) (sym same) r.2))
    passed_by f g fs x (Ok y) (Err e) h r = let no : Ok h.1 ≡ Err e = sym h.3 ∙ r in absurd (cc)
    passed_by f g fs x (Err d) (Ok z) h r = let no : Err d ≡ Ok r.0 = sym h ∙ r.1 in absurd (cc)
    passed_by f g fs x (Err d) (Err e) h r = sym h ∙ r

    passed_none : (y : Result W E) → Passed [] y y
    passed_none (Ok z) = (z, refl, refl)
    passed_none (Err e) = refl

    pub passed : (ps : List ℕ) (u v : W) (g : ℕ) → LeadBy entry Free u ps v → many g ps ≡ 0 → Passed ps (entry u g) (entry v g)
    passed [] u v g h none = subst (λ t. Passed [] (entry u g) (entry t g)) h (passed_none (entry u g))
    passed (f ∷ fs) u v g h none =
        let isnt : g ≢ f = (λ same. let one = one_same f g (sym same) in absurd (omega arith)) in
        passed_by f g fs h.1 (entry u g) (entry v g) (free.commutes u f h.1 h.0 h.2 g isnt) (passed fs h.1 v g h.3 (omega arith))
