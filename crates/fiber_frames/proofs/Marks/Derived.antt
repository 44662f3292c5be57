-- A bracket is typed: it leaves open what was open.
use Rattle.fiber_frames.proofs.Prelude.{◌≡◌, ◌≢◌, ℕ, ◌+◌, ◌≤◌, ◌⊎◌, inl, inr, pos, if◌then◌else◌, List, [], ◌∷◌, Option, Some, None, refl, sym, ap, subst}
use Rattle.fiber_frames.proofs.Prelude.{arith, eq-eqb, bracket_case, in_order, Handled, Last, Mask, More, Named, Note, Number, On_cancel, Pair, Poll, Pure}
use Rattle.fiber_frames.proofs.Prelude.{Raise, Released, Releasing, Rest, Seq, Slot, Tree, Operand, undone}
use Rattle.fiber_frames.proofs.Marks.Cutting.{Active}
use Rattle.fiber_frames.proofs.Marks.Opened.{Freeing, Held}
use Rattle.fiber_frames.proofs.Marks.Typed.{Fine, If_ends, In, Leads, Masks, Stack, Typed, with_slot}
use Rattle.fiber_frames.proofs.Marks.Weaken.{in_more}

-- an active mask that a term can't undo: it isn't in sight, nor bound inside
pub record Bars (V : Masks) (d : ℕ) (up : List Mask) (b : Mask) : Type 0 where
  pub member : Active b up
  pub hidden : V b → ⊥
  pub outside : (v : ℕ) → d ≤ v → b ≢ Named v

abbrev pub Safe : Masks → ℕ → List Mask → Option Stack → Stack → Type 0
Safe V d up k s = (k ≡ Some s) ⊎ ((k ≡ None) × (b : Mask) × Bars V d up b)

-- the release of p, by what follows it where it fails and where it gives a value
abbrev released_by : Rest → Mask → Tree → ℕ → Tree → Tree → Tree
released_by o p e w fails rest = Seq More (Note Releasing p) (Seq o (Handled e w fails) rest)

abbrev freed_and : Mask → Tree → Tree
freed_and p e = in_order (Note Released p) e

-- A term that polls masks of V and binds slots from d on leaves open what was open.
abbrev pub Neutral : Masks → ℕ → Tree → Type 1
Neutral V d t = (i : ℕ) (P : Masks) (up : List Mask) (k : Option Stack) (s : Stack) → ((q : Mask) → V q → P q) →
    ((v : ℕ) → d ≤ v → P (Named v) → ⊥) → In P s → Safe V d up k s → Typed i P up k s (Some s) (Some s) t

pub safe_fine : (V : Masks) (d : ℕ) (up : List Mask) (k : Option Stack) (s : Stack) → Safe V d up k s → Fine up k s
safe_fine V d [] k s (inl e) = subst (λ y. Fine [] y s) (sym e) refl
safe_fine V d [] k s (inr h) = absurd h.2.member
safe_fine V d (a ∷ up) k s h = tt

pub safe_at : (V : Masks) (d c : ℕ) (up : List Mask) (k : Option Stack) (s : Stack) → d ≤ c → Safe V d up k s → Safe V c up k s
safe_at V d c up k s l (inl e) = inl e
safe_at V d c up k s l (inr h) = inr (h.0, h.1, record { member = h.2.member; hidden = h.2.hidden; outside = λ v g. h.2.outside v (omega arith) })

pub undone_same : (v : ℕ) (up : List Mask) → undone (Named v) (Named v ∷ up) ≡ up
undone_same v up = ap (λ b. if b then up else Named v ∷ up) (eq-eqb v v refl)

pub pair_named : (f m v : ℕ) → Pair f m ≢ Named v
pair_named f m v e = cc

pub named_ne : (v w : ℕ) → v ≢ w → Named v ≢ Named w
named_ne v w h e = h (cc)

module _ (i : ℕ) (P : Masks) (a : Mask) (up : List Mask) (k : Option Stack) (s : Stack) (p : Mask) (here : P p) (known : In P s) where
  abbrev F : Stack
  F = Freeing p ∷ s

  abbrev H : Stack
  H = Held p ∷ s

  free_raise : (n : Option Stack) (v : Operand) → Typed i P (a ∷ up) k F n (Some s) (freed_and p (Raise v))
  free_raise n v = (Some s, known, (tt, here, s, refl, refl, tt), (tt, refl))

  free_pure : (x : Option Stack) (v : Operand) → Typed i P (a ∷ up) k F (Some s) x (freed_and p (Pure v))
  free_pure x v = (Some s, known, (tt, here, s, refl, refl, tt), (tt, refl))

  release_typed : (o : Rest) (n x : Option Stack) (e : Tree) (w : ℕ) (h rest : Tree) → Typed i P (a ∷ up) None F (Some F) (Some F) e →
      Typed i P (a ∷ up) k F (Some F) x h → Typed i P (a ∷ up) k F n x rest → Typed i P (a ∷ up) k H n x (released_by o p e w h rest)
  release_typed o n x e w h rest he hh hr =
      (Some F, (here, known), (tt, here, F, (s, refl, refl), refl, tt), (Some F, (here, known), (Some F, (here, known), None, inl refl, he, hh), hr))

pub bracket_neutral : (V : Masks) (d : ℕ) (acq body rs re rc : Tree) → ((v : ℕ) → d ≤ v → V (Named v) → ⊥) → Neutral (with_slot V d) (d + 1) acq →
    Neutral V (d + 3) body → Neutral V (d + 4) rs → Neutral V (d + 4) re → Neutral V (d + 3) rc → Neutral V d (bracket_case d acq body rs re rc)
bracket_neutral V d acq body rs re rc below na nb ns ne nc i P up k s vp fresh known safe =
    let p = Named d in
    let q = Named (d + 2) in
    let P1 : Masks = with_slot P d in
    let P2 : Masks = with_slot P1 (d + 2) in
    let F : Stack = Freeing p ∷ s in
    let H : Stack = Held p ∷ s in
    let up1 : List Mask = p ∷ up in
    let up2 : List Mask = q ∷ p ∷ up in
    let fine : Fine up k s = safe_fine V d up k s safe in
    let fresh1 : (v : ℕ) → d + 1 ≤ v → P1 (Named v) → ⊥ = λ v l. elim [ inl h ↦ fresh v (omega arith) h | inr e ↦ named_ne v d (omega arith) e ] in
    let fresh2 : (v : ℕ) → d + 3 ≤ v → P2 (Named v) → ⊥ = λ v l. elim [ inl h ↦ fresh1 v (omega arith) h | inr e ↦ named_ne v (d + 2) (omega arith) e ] in
    let known1 : In P1 s = in_more P P1 (λ c h. inl h) s known in
    let known2 : In P2 s = in_more P1 P2 (λ c h. inl h) s known1 in
    let seen : P2 p = inl (inr refl) in
    let vp1 : (c : Mask) → with_slot V d c → P1 c = λ c. elim [ inl h ↦ inl (vp c h) | inr h ↦ inr h ] in
    let safe1 : Safe (with_slot V d) (d + 1) up1 k s = elim safe [
      | inl h ↦ inl h
      | inr h ↦ inr (
        h.0,
        h.1,
        record {
          member = inr h.2.member;
          hidden = elim [ inl g ↦ h.2.hidden g | inr g ↦ h.2.outside d (omega arith) g ];
          outside = λ v l. h.2.outside v (omega arith);
        },
      )
    ] in
    let bars : (c : ℕ) → d + 1 ≤ c → Bars V c up2 p =
    λ c l. record { member = inr (inl refl); hidden = below d (omega arith); outside = λ v g e. named_ne d v (omega arith) e } in
    let vp2 : (c : Mask) → V c → P2 c = λ c h. inl (inl (vp c h)) in
    let on_cut : (f m : ℕ) → (P2 (Pair f m) → ⊥) →
    Typed i P2 (Pair f m ∷ []) None H (Some s) (Some s) (released_by Last p rc (d + 3) (freed_and p (Raise (Slot (d + 3)))) (Note Released p)) =
    λ f m u. release_typed i P2 (Pair f m) [] None s p seen known2 Last (Some s) (Some s) rc (d + 3) (freed_and p (Raise (Slot (d + 3)))) (Note Released p)
    (nc i P2 (Pair f m ∷ []) None F vp2 fresh2 (seen, known2)
    (inr (refl, Pair f m, record { member = inl refl; hidden = λ h. u (vp2 (Pair f m) h); outside = λ v g e. pair_named f m v e })))
    (free_raise i P2 (Pair f m) [] None s p seen known2 (Some F) (Slot (d + 3)))
    (tt, seen, s, refl, refl, tt) in
    let fin = released_by Last p rc (d + 3) (freed_and p (Raise (Slot (d + 3)))) (Note Released p) in
    let guarded_at : (j : Option Stack) → If_ends j (In P2) → Safe V (d + 3) up j H →
    Leads j k (λ a b. (f m : ℕ) → (P2 (Pair f m) → ⊥) → Typed i P2 (Pair f m ∷ []) None a (Some b) (Some b) fin) →
    Typed i P2 up2 k H (Some H) (Some H) (On_cancel (Poll q (Poll p body)) fin) =
    λ j kn sf l.
    let inner : Typed i P2 (undone p (p ∷ up)) j H (Some H) (Some H) body =
    subst (λ u. Typed i P2 u j H (Some H) (Some H) body) (sym (undone_same d up)) (nb i P2 up j H vp2 fresh2 (seen, known2) sf) in
    let polled : Typed i P2 (p ∷ up) j H (Some H) (Some H) (Poll p body) = (tt, seen, tt, tt, inner) in
    let polled2 : Typed i P2 (undone q up2) j H (Some H) (Some H) (Poll p body) =
    subst (λ u. Typed i P2 u j H (Some H) (Some H) (Poll p body)) (sym (undone_same (d + 2) (p ∷ up))) polled in
    (tt, j, kn, (tt, inr refl, tt, tt, polled2), l, tt, tt) in
    let guarded : Typed i P2 up2 k H (Some H) (Some H) (On_cancel (Poll q (Poll p body)) fin) = elim safe [
      | inl e ↦ guarded_at (Some H) (seen, known2) (inl refl)
          (subst (λ y. Leads (Some H) y (λ a b. (f m : ℕ) → (P2 (Pair f m) → ⊥) → Typed i P2 (Pair f m ∷ []) None a (Some b) (Some b) fin)) (sym e) on_cut)
      | inr h ↦ guarded_at None tt (inr (refl, h.1, record { member = h.2.member; hidden = h.2.hidden; outside = λ v g. h.2.outside v (omega arith) })) tt
    ] in
    let on_error : Typed i P2 up2 k H (Some H) (Some s) (released_by More p re (d + 4) (Pure (Number (pos 0))) (freed_and p (Raise (Slot (d + 3))))) =
    release_typed i P2 q up1 k s p seen known2 More (Some H) (Some s) re (d + 4) (Pure (Number (pos 0))) (freed_and p (Raise (Slot (d + 3))))
    (ne i P2 up2 None F vp2 (λ v l. fresh2 v (omega arith)) (seen, known2) (inr (refl, p, bars (d + 4) (omega arith))))
    (tt, refl)
    (free_raise i P2 q up1 k s p seen known2 (Some H) (Slot (d + 3))) in
    let on_value : Typed i P2 up2 k H (Some s) (Some s)
    (released_by More p rs (d + 4) (freed_and p (Raise (Slot (d + 4)))) (freed_and p (Pure (Slot (d + 3))))) =
    release_typed i P2 q up1 k s p seen known2 More (Some s) (Some s) rs (d + 4) (freed_and p (Raise (Slot (d + 4)))) (freed_and p (Pure (Slot (d + 3))))
    (ns i P2 up2 None F vp2 (λ v l. fresh2 v (omega arith)) (seen, known2) (inr (refl, p, bars (d + 4) (omega arith))))
    (free_raise i P2 q up1 k s p seen known2 (Some F) (Slot (d + 4)))
    (free_pure i P2 q up1 k s p seen known2 (Some s) (Slot (d + 3))) in (
      fine,
      fresh d (omega arith),
      fine,
      fine,
      (
        Some s,
        known1,
        na i P1 up1 k s vp1 fresh1 known1 safe1,
        (
          Some H,
          (inr refl, known1),
          (tt, inr refl, H, (refl, refl), refl, tt),
          (tt, fresh1 (d + 2) (omega arith), tt, tt, (Some H, (seen, known2), (Some H, (seen, known2), k, inr refl, guarded, on_error), on_value)),
        ),
      ),
    )
