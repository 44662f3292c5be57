-- Each step keeps the rule of a bay's table.
use Rattle.std.proofs.Common.{◌≡◌, ◌≢◌, ◌==◌, ◌<◌, ℕ, zero, suc, true, false, Option, None, List, [], ◌∷◌, length, map, replicate, set, get_or, get_or-set_same}
use Rattle.std.proofs.{Common.{get_or-set_other, sym, refl, ap, ◌∙◌, subst, ⊎_elim, arith}, lemmas.{Bool.Decides.nat_tests, List.length-map}}
use Rattle.std.proofs.{lemmas.List.length-replicate, Math.ListN.length-set}
use mathlib.Core.{Option.{some, none, some-ne-none, some-injective}, Logic.dite}
use native.Mathlib.Decide.{ℕ_discrete}
use lib.ListN.{get_elem?}
use prog.Atomic.{either}
use Rattle.atomic_table.{specs.Table.{State, step, keeps, takes, gives, Allows, Splits, Final, opening, rest}, proofs.Lists.{at_set, at_snoc, set_here}}
use Rattle.atomic_table.proofs.Lists.{set_else, some_there}
use Rattle.fiber_poll.specs.Tasks.{TaskView}
use Rattle.wait_bay.specs.{declared.rule.Knowledge.Knowledge, Names.{Named, MayLie}, Rule.{KeepsTasks, GoesOut, ComesHome}}

abbrev Tasks : Type 0
Tasks = State (Option TaskView) Knowledge

same_seats : (named : Option Named) (s : Tasks) (id : ℕ) (v : Knowledge) → KeepsTasks named s → get_elem? s.views id ≡ some v
    → (q : ℕ) (u : Knowledge) → get_elem? (set s.views id v) q ≡ some u → u.named ≡ named
same_seats named s id v h at q u e =
    ⊎_elim (λ is. ap (λ (y : Knowledge). y.named) (sym is.1) ∙ h.seats id v at) (λ is. h.seats q u is.1) (at_set s.views id q v u e)

pub splits : (named : Option Named) (id : ℕ) (v : Knowledge) → Splits (KeepsTasks named) id v v v
splits named id v s h at = record {
  seats = λ q u e. ⊎_elim (λ old. same_seats named s id v h at q u old) (λ is. ap (λ (y : Knowledge). y.named) (sym is) ∙ h.seats id v at)
      (at_snoc (set s.views id v) v u q e);
  lie = h.lie;
  home = h.home;
  many = h.many;
}

-- a word that is written, and another
other_word : (ws : List ℕ) (f g k : ℕ) → g ≢ f → get_or (set ws f k) g 0 ≡ get_or ws g 0
other_word ws f g k apart = rw get_or-set_other

this_word : (ws : List ℕ) (f k : ℕ) → f < length ws → get_or (set ws f k) f 0 ≡ k
this_word ws f k less = rw get_or-set_same

-- the slot goes out where the word was 0
goes_out : (named : Option Named) (s : Tasks) (id : ℕ) (v : Knowledge) (f : ℕ) → KeepsTasks named s → get_elem? s.views id ≡ some v → f < length s.homes
    → KeepsTasks named (record { words = set s.words f 1; homes = set s.homes f none; views = set s.views id v })
goes_out named s id v f h at within = record {
  seats = same_seats named s id v h at;
  lie = λ g y e. ⊎_elim (λ gone. absurd (some-ne-none y (sym gone.1))) (λ els. h.lie g y els.1) (at_set s.homes f g none (some y) e);
  home = λ g less zero_is. dite (ℕ_discrete g f)
      (λ same. let one = this_word s.words f 1 (omega (arith, h.many)) in
      let P : ℕ → Type 0 = λ k. get_or (set s.words f 1) k 0 ≡ 0 in
      let zero_at = subst P same zero_is in absurd (omega arith))
      (λ apart. let there = h.home g (omega (arith, length-set s.homes f none)) (sym (other_word s.words f g 1 apart) ∙ zero_is) in
      (there.0, set_else s.homes f g none apart ∙ there.1));
  many = length-set s.words f 1 ∙ (h.many ∙ sym (length-set s.homes f none));
}

-- nothing changes where it was another
stays : (named : Option Named) (s : Tasks) (id : ℕ) (v : Knowledge) (f : ℕ) → KeepsTasks named s → get_elem? s.views id ≡ some v → f < length s.homes
    → KeepsTasks named (record { words = set s.words f (get_or s.words f 0); homes = s.homes; views = set s.views id v })
stays named s id v f h at within = record {
  seats = same_seats named s id v h at;
  lie = h.lie;
  home = λ g less zero_is. dite (ℕ_discrete g f)
      (λ same. let one = this_word s.words f (get_or s.words f 0) (omega (arith, h.many)) in
      let P : ℕ → Type 0 = λ k. get_or (set s.words f (get_or s.words f 0)) k 0 ≡ 0 in
      let zero_at = subst P same zero_is in
      let Q : ℕ → Type 0 = λ k. get_or s.words k 0 ≡ 0 in
      h.home g less (subst Q (sym same) (sym one ∙ zero_at)))
      (λ apart. h.home g less (sym (other_word s.words f g _ apart) ∙ zero_is));
  many = length-set s.words f (get_or s.words f 0) ∙ h.many;
}

pub goes : (named : Option Named) (slots id : ℕ) (v : Knowledge) (f : ℕ) → f < slots
    → Allows (KeepsTasks named) slots id (v, []) f (λ n. either (n == 0) 1 n) (GoesOut (step slots f 0 1 none) (v, []))
goes named slots id v f within s h len at fits =
    let n : ℕ = get_or s.words f 0 in
    dite (ℕ_discrete n 0)
    (λ is.
    let home = h.home f (omega arith) is in
    let test : (n == 0) ≡ true = grind (arith, nat_tests) in
    let mine : v.named ≡ named = h.seats id v at in
    rw test (v, takes f home.0, home.1, goes_out named s id v f h at (omega arith), (refl, (home.0, refl, rw mine (h.lie f home.0 home.1)))))
    (λ isnt.
    let test : (n == 0) ≡ false = grind (arith, nat_tests) in
    rw test (v, keeps, tt, stays named s id v f h at (omega arith), refl))

-- the slot comes home with what may lie there
pub returns_home : (named : Option Named) (slots id : ℕ) (v : Knowledge) (f : ℕ) (y : Option TaskView) → f < slots → MayLie v.named f y
    → Allows (KeepsTasks named) slots id (v, (f, y) ∷ []) f (λ _. 0) (λ _. ComesHome (step slots f 0 0 none) (v, (f, y) ∷ []) 0)
returns_home named slots id v f y within may s h len at fits =
    let mine : v.named ≡ named = h.seats id v at in
    let may_here : MayLie named f y = rw (← mine) may in (
      v,
      gives,
      tt,
      record {
        seats = same_seats named s id v h at;
        lie = λ g x e. ⊎_elim (λ is. let P : ℕ × Option TaskView → Type 0 = λ p. MayLie named p.0 p.1 in
            subst P (λ i. (sym is.0 i, some-injective _ _ is.1 i)) may_here) (λ els. h.lie g x els.1) (at_set s.homes f g (some y) (some x) e);
        home = λ g less zero_is. dite (ℕ_discrete g f)
            (λ same. let P : ℕ → Type 0 = λ k. get_elem? (set s.homes f (some y)) k ≡ some (some y) in
            (y, subst P (sym same) (set_here s.homes f (some y) (omega arith))))
            (λ apart. let there = h.home g (omega (arith, length-set s.homes f (some y))) (sym (other_word s.words f g 0 apart) ∙ zero_is) in
            (there.0, set_else s.homes f g (some y) apart ∙ there.1));
        many = length-set s.words f 0 ∙ (h.many ∙ sym (length-set s.homes f (some y)));
      },
      (refl, refl),
    )

-- at the end, a slot whose word is 0 has what may lie there
pub emptied : (named : Option Named) (ws : List ℕ) (xs : List (Option TaskView)) (f : ℕ) (x : Option TaskView) → Final (KeepsTasks named) ws xs →
    f < length xs → get_or ws f 0 ≡ 0 → get_elem? xs f ≡ some x → MayLie named f x
emptied named ws xs f x fin within zero_is at =
    let s = fin.0 in
    let kept = fin.1 in
    let home = kept.home f (omega (arith, fin.3)) (ap (λ (l : List ℕ). get_or l f 0) fin.2 ∙ zero_is) in
    let may : MayLie named f home.0 = kept.lie f home.0 home.1 in
    let same : home.0 ≡ x = some-injective _ _ (sym (fin.4 f home.0 home.1) ∙ at) in
    subst (λ (y : Option TaskView). MayLie named f y) same may

-- what was put last
top : {S : Type 0} → S → List (ℕ × S) → S
top d [] = d
top d (x ∷ xs) = x.1

-- a slot that is out holds one value
pub one_value : {S : Type 0} (f : ℕ) (y z : S) (l r : List (ℕ × S)) → l ≡ (f, y) ∷ [] → l ≡ (f, z) ∷ r → y ≡ z
unfolding top
one_value f y z l r p q = ap (top y) (sym p ∙ q)

pub still_out : {S : Type 0} (f : ℕ) (y : S) (l r : List (ℕ × S)) → l ≡ (f, y) ∷ r → l ≡ (f, y) ∷ rest l
still_out f y l r e = e ∙ ap (λ (m : List (ℕ × _)). (f, y) ∷ m) (sym (ap rest e))

nothing_there : (n f : ℕ) (y : Option TaskView) → get_elem? (map some (replicate n None)) f ≡ some (some y) → None ≡ y
nothing_there zero f y e = absurd (some-ne-none (some y) (sym e))
nothing_there (suc n) zero y e = some-injective _ _ (some-injective _ _ e)
nothing_there (suc n) (suc f) y e = nothing_there n f y e

one_seat : (v u : Knowledge) (q : ℕ) → get_elem? (v ∷ []) q ≡ some u → v ≡ u
one_seat v u zero e = some-injective _ _ e
one_seat v u (suc q) e = absurd (some-ne-none u (sym e))

-- the opening keeps the rule
pub opens : (named : Option Named) (n : ℕ) (ws : List ℕ) → length ws ≡ n → KeepsTasks named (opening ws (replicate n None) record { named = named })
opens named n ws many = record {
  seats = λ q u e. ap (λ (y : Knowledge). y.named) (sym (one_seat record { named = named } u q e));
  lie = λ f y e. subst (λ (x : Option TaskView). MayLie named f x) (nothing_there n f y e) tt;
  home = λ f within zero_is. some_there (replicate n None) f (subst (λ (k : ℕ). f < k) (length-map (replicate {A = Option TaskView} n None) some) within);
  many = many ∙ (sym (length-replicate {A = Option TaskView} n None) ∙ sym (length-map (replicate {A = Option TaskView} n None) some));
}
