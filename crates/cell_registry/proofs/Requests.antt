-- A request for cancellation stays, and comes from a call.
use Rattle.cell_registry.proofs.Prelude.{◌≡◌, ℕ, zero, suc, Bool, true, true≢false, List, [], ◌∷◌, ◌⊎◌, inl, inr, ⊎_elim, set, get_or, get_or-set_other, refl}
use Rattle.cell_registry.proofs.Prelude.{sym, ap, ◌∙◌, subst, dite, ℕ_discrete, IsPrefix, Limits, Call, Cancel, Join, Mask, Unmask, Cut, Finish, Entry, Cell}
use Rattle.cell_registry.proofs.Prelude.{fresh, Cells, opening, cell_of, after, requested, awaited, masked, unmasked, cut, finished, IsAllowed, left_from, left}
use Rattle.cell_registry.proofs.Prelude.{IsLegal, WasCancelled, CutsAfterCancel}
use Rattle.cell_registry.proofs.Lists.{get_or-set_kept, get_or-replicate_default}
use Rattle.cell_registry.proofs.Legal.{left_from-append, IsLegal-at}

-- what is true of an element stays true where an element is set of which it is true if it was
get_or-set_rises : {A : Type 0} (g : A → Bool) (l : List A) (i : ℕ) (c d : A) → (g (get_or l i d) ≡ true → g c ≡ true) → (j : ℕ) →
    g (get_or l j d) ≡ true → g (get_or (set l i c) j d) ≡ true
get_or-set_rises g [] i c d up j e = e
get_or-set_rises g (x ∷ xs) zero c d up zero e = up e
get_or-set_rises g (x ∷ xs) zero c d up (suc j) e = e
get_or-set_rises g (x ∷ xs) (suc i) c d up zero e = e
get_or-set_rises g (x ∷ xs) (suc i) c d up (suc j) e = get_or-set_rises g xs i c d up j e

request_with : (s : Cells) (g f : ℕ) (c : Cell) → ((cell_of s g).request ≡ true → c.request ≡ true) → (cell_of s f).request ≡ true →
    (get_or (set s.cells g c) f fresh).request ≡ true
request_with s g f c up e = get_or-set_rises (λ (x : Cell). x.request) s.cells g c fresh up f e

request-after : (s : Cells) (by : ℕ) (c : Call) (f : ℕ) → (cell_of s f).request ≡ true → (cell_of (after s by c) f).request ≡ true
unfolding after
request-after s by (Cancel g) f e = request_with s g f (requested (cell_of s g)) (λ _. refl) e
request-after s by (Join g) f e = request_with s g f (awaited (cell_of s g)) (λ u. u) e
request-after s by Mask f e = request_with s by f (masked (cell_of s by)) (λ u. u) e
request-after s by Unmask f e = request_with s by f (unmasked (cell_of s by)) (λ u. u) e
request-after s by Cut f e = request_with s by f (cut (cell_of s by)) (λ u. u) e
request-after s by (Finish o) f e = request_with s by f (finished o (cell_of s by)) (λ u. u) e
request-after s by _ f e = e

request-left_from : (s : Cells) (h : List Entry) (f : ℕ) → (cell_of s f).request ≡ true → (cell_of (left_from s h) f).request ≡ true
request-left_from s [] f e = e
request-left_from s (x ∷ h) f e = request-left_from (after s x.by x.call) h f (request-after s x.by x.call f e)

pub request-prefix : (k : Limits) (g h : List Entry) (f : ℕ) → IsPrefix g h → (cell_of (left k g) f).request ≡ true → (cell_of (left k h) f).request ≡ true
unfolding left
request-prefix k g h f p e =
    subst (λ (x : List Entry). (cell_of (left_from (opening k) x) f).request ≡ true) p.1
    (subst (λ (x : Cells). (cell_of x f).request ≡ true) (sym (left_from-append (opening k) g p.0)) (request-left_from (left_from (opening k) g) p.0 f e))

-- ---- where a request comes from
request_kept : (s : Cells) (g f : ℕ) (c : Cell) → c.request ≡ (cell_of s g).request → (get_or (set s.cells g c) f fresh).request ≡ true →
    (cell_of s f).request ≡ true
request_kept s g f c same e = sym (get_or-set_kept (λ (x : Cell). x.request) s.cells g c fresh same f) ∙ e

request-new : (s : Cells) (by : ℕ) (c : Call) (f : ℕ) → (cell_of (after s by c) f).request ≡ true → ((cell_of s f).request ≡ true) ⊎ (c ≡ Cancel f)
unfolding after
request-new s by (Cancel g) f e =
    dite (ℕ_discrete g f) (λ (is : g ≡ f). inr (ap Cancel is))
    (λ other. inl (ap (λ (x : Cell). x.request) (sym (get_or-set_other s.cells g f (requested (cell_of s g)) fresh (λ q. other (sym q)))) ∙ e))
request-new s by (Join g) f e = inl (request_kept s g f (awaited (cell_of s g)) refl e)
request-new s by Mask f e = inl (request_kept s by f (masked (cell_of s by)) refl e)
request-new s by Unmask f e = inl (request_kept s by f (unmasked (cell_of s by)) refl e)
request-new s by Cut f e = inl (request_kept s by f (cut (cell_of s by)) refl e)
request-new s by (Finish o) f e = inl (request_kept s by f (finished o (cell_of s by)) refl e)
request-new s by _ f e = inl e

request-left : (s : Cells) (h : List Entry) (f : ℕ) → (cell_of (left_from s h) f).request ≡ true → ((cell_of s f).request ≡ true) ⊎ WasCancelled h f
request-left s [] f e = inl e
request-left s (x ∷ h) f e = ⊎_elim
    (λ (a : (cell_of (after s x.by x.call) f).request ≡ true). ⊎_elim (λ b. inl b) (λ (b : x.call ≡ Cancel f). inr (inl b)) (request-new s x.by x.call f a))
    (λ (a : WasCancelled h f). inr (inr a))
    (request-left (after s x.by x.call) h f e)

-- a request that a history leaves was made in it
pub request-cancelled : (k : Limits) (h : List Entry) (f : ℕ) → (cell_of (left k h) f).request ≡ true → WasCancelled h f
unfolding left
request-cancelled k h f e = ⊎_elim
    (λ (a : (cell_of (opening k) f).request ≡ true). absurd (true≢false (sym a ∙ ap (λ (x : Cell). x.request) (get_or-replicate_default fresh k.fibers f))))
    (λ (a : WasCancelled h f). a)
    (request-left (opening k) h f e)

-- cut after cancel, in each legal history
pub legal-cuts : (k : Limits) (h : List Entry) → IsLegal k h → CutsAfterCancel h
unfolding IsAllowed
legal-cuts k h legal before rest e is cut =
    let follows = (IsLegal-at k h before rest e is legal).1 in
    let allowed : IsAllowed k (left k before) e.by Cut = subst (IsAllowed k (left k before) e.by) cut follows.accepted.allowed in
    request-cancelled k before e.by allowed.2
