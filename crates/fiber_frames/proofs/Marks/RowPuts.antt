-- What a row puts, a number or a new mask, keeps a term typed.
use Rattle.fiber_frames.proofs.Prelude.{◌≡◌, ◌≢◌, ℕ, ◌+◌, inl, inr, Bool, true, false, if◌then◌else◌, nat_eq, List, [], ◌∷◌, Option, Some, None, refl, sym, ap}
use Rattle.fiber_frames.proofs.Prelude.{◌∙◌, subst, eqb-true, eqb-false, eq-eqb, ne_eqb, ◌&&◌, ℤ, Put, Put_handle, Put_mask, Put_value, mask_at, put, Mask}
use Rattle.fiber_frames.proofs.Prelude.{Named, Pair, Tree, same_mask}
use Rattle.fiber_frames.proofs.Marks.Opened.{Freeing, Held}
use Rattle.fiber_frames.proofs.Marks.Putting.{Puts, Same, end_at, masks_at, stack_at, typed_put}
use Rattle.fiber_frames.proofs.Marks.Spending.{pairs_differ}
use Rattle.fiber_frames.proofs.Marks.Typed.{AllOf, If_ends, In, Masks, Stack, Typed, with_slot}
use Rattle.fiber_frames.proofs.Marks.Weaken.{all_more, if_ends_more, in_more}

-- ---- what a put leaves as it is
abbrev pub Fixed : Put → Masks
Fixed p q = mask_at p q ≡ q

masks_fixed : (p : Put) (up : List Mask) → AllOf (Fixed p) up → masks_at p up ≡ up
masks_fixed p [] h = refl
masks_fixed p (q ∷ qs) h = λ j. h.0 j ∷ masks_fixed p qs h.1 j

stack_fixed : (p : Put) (s : Stack) → In (Fixed p) s → stack_at p s ≡ s
stack_fixed p [] h = refl
stack_fixed p (Held q ∷ s) h = λ j. Held (h.0 j) ∷ stack_fixed p s h.1 j
stack_fixed p (Freeing q ∷ s) h = λ j. Freeing (h.0 j) ∷ stack_fixed p s h.1 j

end_fixed : (p : Put) (n : Option Stack) → If_ends n (In (Fixed p)) → end_at p n ≡ n
end_fixed p None h = refl
end_fixed p (Some s) h = ap Some (stack_fixed p s h)

pub typed_along : (i : ℕ) (P : Masks) (t : Tree) (up up' : List Mask) (k k' : Option Stack) (s s' : Stack) (n n' x x' : Option Stack) → up ≡ up' →
    k ≡ k' → s ≡ s' → n ≡ n' → x ≡ x' → Typed i P up k s n x t → Typed i P up' k' s' n' x' t
typed_along i P t up up' k k' s s' n n' x x' a b c d e h =
    subst (λ y. Typed i P up' k' s' n' y t) e
    (subst (λ y. Typed i P up' k' s' y x t) d
    (subst (λ y. Typed i P up' k' y n x t) c (subst (λ y. Typed i P up' y s n x t) b (subst (λ y. Typed i P y k s n x t) a h))))

-- what holds of the masks around a term
pub record Around (P R : Masks) (up : List Mask) (k : Option Stack) (s : Stack) (n x : Option Stack) : Type 0 where
  pub masks : AllOf R up
  pub expected : If_ends k (In P)
  pub open_now : In P s
  pub given : If_ends n (In P)
  pub raised : If_ends x (In P)

pub fixed_put : (i : ℕ) (p : Put) (P : Masks) (t : Tree) (up : List Mask) (k : Option Stack) (s : Stack) (n x : Option Stack) →
    Around (Fixed p) (Fixed p) up k s n x → Typed i P (masks_at p up) (end_at p k) (stack_at p s) (end_at p n) (end_at p x) t → Typed i P up k s n x t
fixed_put i p P t up k s n x f h =
    typed_along i P t _ up _ k _ s _ n _ x (masks_fixed p up f.masks) (end_fixed p k f.expected) (stack_fixed p s f.open_now) (end_fixed p n f.given)
    (end_fixed p x f.raised) h

around_more : (P P' R R' : Masks) (up : List Mask) (k : Option Stack) (s : Stack) (n x : Option Stack) → ((q : Mask) → P q → P' q) →
    ((q : Mask) → R q → R' q) → Around P R up k s n x → Around P' R' up k s n x
around_more P P' R R' up k s n x f g a = record {
  masks = all_more R R' g up a.masks;
  expected = if_ends_more k (In P) (In P') (in_more P P' f) a.expected;
  open_now = in_more P P' f s a.open_now;
  given = if_ends_more n (In P) (In P') (in_more P P' f) a.given;
  raised = if_ends_more x (In P) (In P') (in_more P P' f) a.raised;
}

Any : Masks
Any q = Unit {0}

-- ---- puts of values and of numbers
abbrev pub NoMask : Put → Type 0
NoMask p = (q : Mask) → mask_at p q ≡ q

pub value_no_mask : (s : ℕ) (z : ℤ) → NoMask (Put_value s z)
value_no_mask s z (Named t) = refl
value_no_mask s z (Pair f m) = refl

pub handle_no_mask : (s m : ℕ) → NoMask (Put_handle s m)
handle_no_mask s m (Named t) = refl
handle_no_mask s m (Pair f j) = refl

pub typed_plain : (i : ℕ) (p : Put) → NoMask p → (P R : Masks) (t : Tree) (up : List Mask) (k : Option Stack) (s : Stack) (n x : Option Stack) →
    Around P R up k s n x → Typed i P up k s n x t → Typed i P up k s n x (put p t)
unfolding Any
typed_plain i p no_mask P R t up k s n x a h =
    let z : Same Any p = record { named = λ t. tt; same = λ q a _ _. λ j. same_mask (no_mask q j) (no_mask a j) } in
    let w : Puts P P Any p =
    record { known = λ q g. subst P (sym (no_mask q)) g; back = λ t g. g; regular = λ q g. tt; unknown = λ f m u. tt; above = λ t u. no_mask (Named t) } in
    let anyway : AllOf Any up = all_more R Any (λ q g. tt) up a.masks in
    fixed_put i p P (put p t) up k s n x (around_more P (Fixed p) R (Fixed p) up k s n x (λ q g. no_mask q) (λ q g. no_mask q) a)
    (typed_put Any p z t i P P up k s n x w anyway h)

-- ---- the put of a new mask
other_pair : (t i m : ℕ) → Named t ≢ Pair i m
other_pair t i m e = cc

pair_other : (t u i n : ℕ) (v : ℕ) (b c : Bool) → nat_eq v t ≡ b → nat_eq v u ≡ c →
    same_mask (if b then Pair i n else Named t) (if c then Pair i n else Named u) ≡ nat_eq t u
pair_other t u i n v true true e f =
    let te : v ≡ t = eqb-true v t e in
    let ue : v ≡ u = eqb-true v u f in
    let tu : t ≡ u = sym te ∙ ue in
    ap (λ b. b && nat_eq n n) (eq-eqb i i refl) ∙ eq-eqb n n refl ∙ sym (eq-eqb t u tu)
pair_other t u i n v true false e f = let te : v ≡ t = eqb-true v t e in sym (ne_eqb t u (λ tu. eqb-false v u f (te ∙ tu)))
pair_other t u i n v false true e f = let ue : v ≡ u = eqb-true v u f in sym (ne_eqb t u (λ tu. eqb-false v t e (ue ∙ sym tu)))
pair_other t u i n v false false e f = refl

pair_named : (t i n f m v : ℕ) → Pair f m ≢ Pair i n → (b : Bool) → same_mask (if b then Pair i n else Named t) (Pair f m) ≡ false
pair_named t i n f m v h true = pairs_differ i n f m (λ e. h (sym e))
pair_named t i n f m v h false = refl

named_pair : (t i n f m v : ℕ) → Pair f m ≢ Pair i n → (b : Bool) → same_mask (Pair f m) (if b then Pair i n else Named t) ≡ false
named_pair t i n f m v h true = pairs_differ f m i n h
named_pair t i n f m v h false = refl

module _ (i : ℕ) (Q : ℕ → Masks) (closed : (n t : ℕ) → Q n (Named t) → ⊥) (grows : (n : ℕ) (q : Mask) → Q n q → Q (n + 1) q)
    (fresh : (n : ℕ) → Q n (Pair i n) → ⊥) (next : ℕ) (made_known : Q (next + 1) (Pair i next)) where
  abbrev pub Other : Masks
  Other q = q ≢ Pair i next

  abbrev pub new_put : ℕ → Put
  new_put v = Put_mask v i next

  same_at : (v : ℕ) (q a : Mask) → Other q → Other a → same_mask (mask_at (new_put v) q) (mask_at (new_put v) a) ≡ same_mask q a
  same_at v (Named t) (Named u) h g = pair_other t u i next v (nat_eq v t) (nat_eq v u) refl refl
  same_at v (Named t) (Pair f m) h g = pair_named t i next f m v g (nat_eq v t)
  same_at v (Pair f m) (Named t) h g = named_pair t i next f m v h (nat_eq v t)
  same_at v (Pair f m) (Pair g n) h k = refl

  new_same : (v : ℕ) → Same Other (new_put v)
  new_same v = record { named = λ t. other_pair t i next; same = same_at v }

  known_at : (v : ℕ) (q : Mask) → with_slot (Q next) v q → Q (next + 1) (mask_at (new_put v) q)
  known_at v (Named t) (inl h) = absurd (closed next t h)
  known_at v (Named t) (inr e) =
      let named_same : v ≡ t = cc in
      subst (λ b. Q (next + 1) (if b then Pair i next else Named t)) (sym (eq-eqb v t named_same)) (made_known)
  known_at v (Pair f m) (inl h) = grows next (Pair f m) h
  known_at v (Pair f m) (inr e) = absurd (other_pair v i m (sym e ∙ cc))

  regular_at : (v : ℕ) (q : Mask) → with_slot (Q next) v q → Other q
  regular_at v q (inl h) e = fresh next (subst (Q next) e h)
  regular_at v q (inr h) e = other_pair v i next (sym h ∙ e)

  above_at : (v t : ℕ) → (with_slot (Q next) v (Named t) → ⊥) → mask_at (new_put v) (Named t) ≡ Named t
  above_at v t u = let no_slot : nat_eq v t ≡ false = ne_eqb v t (λ e. u (inr (ap Named (sym e)))) in ap (λ b. if b then Pair i next else Named t) no_slot

  new_puts : (v : ℕ) → Puts (with_slot (Q next) v) (Q (next + 1)) Other (new_put v)
  new_puts v = record {
    known = known_at v;
    back = λ t h. absurd (closed (next + 1) t h);
    regular = regular_at v;
    unknown = λ f m u e. u (subst (Q (next + 1)) (sym e) (made_known));
    above = above_at v;
  }

  fixed_at : (v : ℕ) (q : Mask) → Q next q → mask_at (new_put v) q ≡ q
  fixed_at v (Named t) h = absurd (closed next t h)
  fixed_at v (Pair f m) h = refl

  pub other_known : (q : Mask) → Q next q → Other q
  other_known q h e = fresh next (subst (Q next) e h)

  -- what stands under an uncancelable, once its slot is the new mask
  own_fixed : (v : ℕ) (q : Mask) → (m : ℕ) × (q ≡ Pair i m) → mask_at (new_put v) q ≡ q
  own_fixed v q o = ap (mask_at (new_put v)) o.1 ∙ sym o.1

  pub typed_new : (v : ℕ) (t : Tree) (up : List Mask) (k : Option Stack) (s : Stack) (n x : Option Stack) → Around (Q next) Other up k s n x →
      AllOf (λ q. (m : ℕ) × (q ≡ Pair i m)) up → Typed i (with_slot (Q next) v) (Named v ∷ up) k s n x t →
      Typed i (Q (next + 1)) (Pair i next ∷ up) k s n x (put (new_put v) t)
  typed_new v t up k s n x a o h =
      let other_up : AllOf Other up = a.masks in
      let fixed_up : AllOf (Fixed (new_put v)) up = all_more (λ q. (m : ℕ) × (q ≡ Pair i m)) (Fixed (new_put v)) (own_fixed v) up o in
      let f : Around (Fixed (new_put v)) (Fixed (new_put v)) up k s n x = record {
        masks = fixed_up;
        expected = if_ends_more k (In (Q next)) (In (Fixed (new_put v))) (in_more (Q next) (Fixed (new_put v)) (fixed_at v)) a.expected;
        open_now = in_more (Q next) (Fixed (new_put v)) (fixed_at v) s a.open_now;
        given = if_ends_more n (In (Q next)) (In (Fixed (new_put v))) (in_more (Q next) (Fixed (new_put v)) (fixed_at v)) a.given;
        raised = if_ends_more x (In (Q next)) (In (Fixed (new_put v))) (in_more (Q next) (Fixed (new_put v)) (fixed_at v)) a.raised;
      } in
      let g = typed_put Other (new_put v) (new_same v) t i (with_slot (Q next) v) (Q (next + 1)) (Named v ∷ up) k s n x (new_puts v)
      (other_pair v i next, other_up) h in
      let first : mask_at (new_put v) (Named v) ≡ Pair i next = ap (λ b. if b then Pair i next else Named v) (eq-eqb v v refl) in
      typed_along i (Q (next + 1)) (put (new_put v) t) _ (Pair i next ∷ up) _ k _ s _ n _ x (λ j. first j ∷ masks_fixed (new_put v) up f.masks j)
      (end_fixed (new_put v) k f.expected) (stack_fixed (new_put v) s f.open_now) (end_fixed (new_put v) n f.given) (end_fixed (new_put v) x f.raised) g
