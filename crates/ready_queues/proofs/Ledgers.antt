-- Each move keeps the ledger.
use Rattle.std.proofs.Common.{◌≡◌, ◌≢◌, ◌==◌, if◌then◌else◌, ◌<◌, ℕ, zero, suc, true, false, Bool, List, [], ◌∷◌, ◌++◌, length, set, sym, refl, ap, ◌∙◌}
use Rattle.std.proofs.{Common.{subst, ⊎_elim, append_assoc, append-nil, inl, inr, ◌⊎◌, arith}, lemmas.Bool.Decides.nat_tests, Math.ListN.length-set}
use Rattle.std.proofs.Math.ListN.{length-append}
use mathlib.Core.Option.{some, some-ne-none, some-injective}
use lib.ListN.{get_elem?}
use Rattle.crossbeam_deque.{specs.Tasks.{Pushes, Takes, Finds, Admits}, proofs.Lists.at_set}
use Rattle.ready_queues.specs.{declared.traffic.Traffic.Traffic, Ledger.{traffic, numbers, through, KnowsOwn, KeepsLedger}, Moments.{PutLast, TookFirst}}
use Rattle.ready_queues.specs.Moments.{WasEmpty}

-- the entries of one traffic
abbrev by : ℕ → List ℕ → List (ℕ × ℕ)
by p [] = []
by p (x ∷ xs) = (p, x) ∷ by p xs

numbers-append : (es fs : List (ℕ × ℕ)) → numbers (es ++ fs) ≡ numbers es ++ numbers fs
numbers-append [] fs = refl
numbers-append (e ∷ es) fs = ap (λ l. e.1 ∷ l) (numbers-append es fs)

numbers-by : (p : ℕ) (xs : List ℕ) → numbers (by p xs) ≡ xs
numbers-by p [] = refl
numbers-by p (x ∷ xs) = ap (λ l. x ∷ l) (numbers-by p xs)

through-append : (p : ℕ) (es fs : List (ℕ × ℕ)) → through p (es ++ fs) ≡ through p es ++ through p fs
through-append p [] fs = refl
through-append p (e ∷ es) fs =
    let P : Bool → Type 0 =
    λ b. (if b then e.1 ∷ through p (es ++ fs) else through p (es ++ fs)) ≡ (if b then e.1 ∷ through p es else through p es) ++ through p fs in
    elim (e.0 == p) as P [ true ↦ ap (λ l. e.1 ∷ l) (through-append p es fs) | false ↦ through-append p es fs ]

through-by : (p : ℕ) (xs : List ℕ) → through p (by p xs) ≡ xs
through-by p [] = refl
through-by p (x ∷ xs) = let same : (p == p) ≡ true = grind (arith, nat_tests) in rw same (ap (λ l. x ∷ l) (through-by p xs))

through-by_else : (p q : ℕ) (xs : List ℕ) → q ≢ p → through q (by p xs) ≡ []
through-by_else p q [] apart = refl
through-by_else p q (x ∷ xs) apart = let other : (p == q) ≡ false = grind (arith, nat_tests) in rw other (through-by_else p q xs apart)

module _ {A : Type 0} where
  there : (l : List A) (i : ℕ) (a : A) → get_elem? l i ≡ some a → i < length l
  there [] i a e = absurd (some-ne-none a (sym e))
  there (x ∷ xs) zero a e = omega arith
  there (x ∷ xs) (suc i) a e = let h = there xs i a e in omega arith

  at_end : (l : List A) (a b : A) (j : ℕ) → get_elem? (l ++ a ∷ []) j ≡ some b → (get_elem? l j ≡ some b) ⊎ ((j ≡ length l) × (a ≡ b))
  at_end [] a b zero e = inr (refl, some-injective a b e)
  at_end [] a b (suc j) e = absurd (some-ne-none b (sym e))
  at_end (x ∷ xs) a b zero e = inl e
  at_end (x ∷ xs) a b (suc j) e = ⊎_elim (λ h. inl h) (λ h. inr (ap suc h.0, h.1)) (at_end xs a b j e)

pub begins : KeepsLedger [] (traffic [] [] ∷ [])
begins = (
  [],
  [],
  refl,
  (λ p v e. ⊎_elim (λ h. absurd (some-ne-none v (sym h))) (λ h. subst (λ (u : Traffic). KnowsOwn [] [] p u) h.1 (refl, refl))
      (at_end [] (traffic [] []) v p e)),
  λ p far. (refl, refl),
)

put_on : (items xs : List ℕ) (ends : List Traffic) (port : ℕ) (v : Traffic) → KeepsLedger items ends → get_elem? ends port ≡ some v
    → KeepsLedger (items ++ xs) (set ends port (traffic (v.pushed ++ xs) v.taken))
put_on items xs ends port v h at =
    let into : List (ℕ × ℕ) = h.0 in
    let out : List (ℕ × ℕ) = h.1 in
    let into' : List (ℕ × ℕ) = into ++ by port xs in
    let w : Traffic = traffic (v.pushed ++ xs) v.taken in
    let within = there ends port v at in
    let mine : KnowsOwn into' out port w = (
      ap (λ l. l ++ xs) (h.3 port v at).0 ∙
          (ap (λ l. through port into ++ l) (sym (through-by port xs)) ∙ sym (through-append port into (by port xs))),
      (h.3 port v at).1,
    ) in
    let others : (q : ℕ) → q ≢ port → through q into' ≡ through q into = λ q apart. through-append q into (by port xs) ∙
    (ap (λ l. through q into ++ l) (through-by_else port q xs apart) ∙ append-nil (through q into)) in (
      into',
      out,
      numbers-append into (by port xs) ∙ (ap (λ l. numbers into ++ l) (numbers-by port xs) ∙ (ap (λ l. l ++ xs) h.2 ∙ append_assoc (numbers out) items xs)),
      (λ q u e. ⊎_elim (λ (is : (q ≡ port) × (w ≡ u)). subst (λ (y : ℕ × Traffic). KnowsOwn into' out y.0 y.1) (λ i. (sym is.0 i, is.1 i)) mine)
          (λ (is : (q ≢ port) × (get_elem? ends q ≡ some u)). ((h.3 q u is.1).0 ∙ sym (others q is.0), (h.3 q u is.1).1)) (at_set ends port q w u e)),
      (λ q far. let apart : q ≢ port = (λ same. omega (arith, length-set ends port w)) in
          let none = h.4 q (omega (arith, length-set ends port w)) in (others q apart ∙ none.0, none.1)),
    )

take_off : (items xs : List ℕ) (ends : List Traffic) (port : ℕ) (v : Traffic) → KeepsLedger (xs ++ items) ends → get_elem? ends port ≡ some v
    → KeepsLedger items (set ends port (traffic v.pushed (v.taken ++ xs)))
take_off items xs ends port v h at =
    let into : List (ℕ × ℕ) = h.0 in
    let out : List (ℕ × ℕ) = h.1 in
    let out' : List (ℕ × ℕ) = out ++ by port xs in
    let w : Traffic = traffic v.pushed (v.taken ++ xs) in
    let within = there ends port v at in
    let mine : KnowsOwn into out' port w = (
      (h.3 port v at).0,
      ap (λ l. l ++ xs) (h.3 port v at).1 ∙
          (ap (λ l. through port out ++ l) (sym (through-by port xs)) ∙ sym (through-append port out (by port xs))),
    ) in
    let others : (q : ℕ) → q ≢ port → through q out' ≡ through q out = λ q apart. through-append q out (by port xs) ∙
    (ap (λ l. through q out ++ l) (through-by_else port q xs apart) ∙ append-nil (through q out)) in (
      into,
      out',
      h.2 ∙ (sym (append_assoc (numbers out) xs items) ∙
          ap (λ l. l ++ items) (sym (numbers-append out (by port xs) ∙ ap (λ l. numbers out ++ l) (numbers-by port xs)))),
      (λ q u e. ⊎_elim (λ (is : (q ≡ port) × (w ≡ u)). subst (λ (y : ℕ × Traffic). KnowsOwn into out' y.0 y.1) (λ i. (sym is.0 i, is.1 i)) mine)
          (λ (is : (q ≢ port) × (get_elem? ends q ≡ some u)). ((h.3 q u is.1).0, (h.3 q u is.1).1 ∙ sym (others q is.0))) (at_set ends port q w u e)),
      (λ q far. let apart : q ≢ port = (λ same. omega (arith, length-set ends port w)) in
          let none = h.4 q (omega (arith, length-set ends port w)) in (none.0, others q apart ∙ none.1)),
    )

pub puts : (port : ℕ) (v : Traffic) (xs : List ℕ) → Pushes KeepsLedger port v xs (PutLast v xs)
puts port v xs items ends h at =
    let kept = put_on items xs ends port v h at in (traffic (v.pushed ++ xs) v.taken, kept, (refl, (items, ends, port, h, at, kept)))

pub takes : (port : ℕ) (v : Traffic) (most : ℕ) → Takes KeepsLedger port v most (TookFirst v)
takes port v most xs items ends any few h at =
    let kept = take_off items xs ends port v h at in (traffic v.pushed (v.taken ++ xs), kept, (refl, (items, ends, port, h, at, kept)))

pub finds : (port : ℕ) (v : Traffic) → Finds KeepsLedger port v (WasEmpty v)
finds port v ends h at = (ends, port, h, at)

pub admits : Admits KeepsLedger (traffic [] [])
admits items ends h = (
  h.0,
  h.1,
  h.2,
  (λ q u e. ⊎_elim (λ old. h.3 q u old)
      (λ (is : (q ≡ length ends) × (traffic [] [] ≡ u)). let none = h.4 q (omega arith) in
      subst (λ (y : Traffic). KnowsOwn h.0 h.1 q y) is.1 (sym none.0, sym none.1))
      (at_end ends (traffic [] []) u q e)),
  (λ q far. h.4 q (omega (arith, length-append ends (traffic [] [] ∷ [])))),
)
