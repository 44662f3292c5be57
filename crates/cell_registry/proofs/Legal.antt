-- Histories, one entry longer, and what a legal one leaves.
use Rattle.cell_registry.proofs.Prelude.{◌≡◌, ◌≢◌, ℕ, ◌≤◌, Bool, List, [], ◌∷◌, ◌++◌, refl, sym, ap, ◌∙◌, subst, arith, eqb, eq-eqb, ne_eqb, le_trans}
use Rattle.cell_registry.proofs.Prelude.{append-nil, append_assoc, cond, IsPrefix, Limits, Band, Fibers, Entry, AreLimits, fresh, owned, Cells, opening}
use Rattle.cell_registry.proofs.Prelude.{cell_of, after, IsSound, MayFollow, left_from, IsLegalFrom, left, IsLegal, calls_by, next_of}
use Rattle.std.proofs.lemmas.List.Elements.{filter-append}
use Rattle.cell_registry.proofs.Lists.{get_or-replicate_default}
use Rattle.cell_registry.proofs.Calls.{next_of-rises, next_fiber-rises, owned-after, opening-sound, after-sound}

-- ---- one entry more
pub left_from-append : (s : Cells) (g h : List Entry) → left_from s (g ++ h) ≡ left_from (left_from s g) h
left_from-append s [] h = refl
left_from-append s (e ∷ g) h = left_from-append (after s e.by e.call) g h

pub left-push : (k : Limits) (h : List Entry) (e : Entry) → left k (h ++ e ∷ []) ≡ after (left k h) e.by e.call
unfolding left
left-push k h e = left_from-append (opening k) h (e ∷ [])

IsLegalFrom-push : (k : Limits) (s : Cells) (h : List Entry) (e : Entry) → IsLegalFrom k s h → MayFollow k (left_from s h) e → IsLegalFrom k s (h ++ e ∷ [])
IsLegalFrom-push k s [] e l m = (m, tt)
IsLegalFrom-push k s (x ∷ h) e l m = (l.0, IsLegalFrom-push k (after s x.by x.call) h e l.1 m)

pub IsLegal-push : (k : Limits) (h : List Entry) (e : Entry) → IsLegal k h → MayFollow k (left k h) e → IsLegal k (h ++ e ∷ [])
unfolding left IsLegal
IsLegal-push k h e l m = IsLegalFrom-push k (opening k) h e l m

pub IsLegalFrom-append : (k : Limits) (s : Cells) (g h : List Entry) → IsLegalFrom k s (g ++ h) → IsLegalFrom k s g × IsLegalFrom k (left_from s g) h
IsLegalFrom-append k s [] h l = (tt, l)
IsLegalFrom-append k s (e ∷ g) h l = let rest = IsLegalFrom-append k (after s e.by e.call) g h l.1 in ((l.0, rest.0), rest.1)

-- the last entry of a legal history follows a legal history
pub IsLegal-last : (k : Limits) (h : List Entry) (e : Entry) → IsLegal k (h ++ e ∷ []) → IsLegal k h × MayFollow k (left k h) e
unfolding left IsLegal
IsLegal-last k h e l = let parts = IsLegalFrom-append k (opening k) h (e ∷ []) l in (parts.0, parts.1.0)

-- the beginning of a legal history is legal
pub IsLegal-prefix : (k : Limits) (g h : List Entry) → IsPrefix g h → IsLegal k h → IsLegal k g
unfolding IsLegal
IsLegal-prefix k g h p l = (IsLegalFrom-append k (opening k) g p.0 (subst (λ (x : List Entry). IsLegalFrom k (opening k) x) (sym p.1) l)).0

-- each entry of a legal history follows what stands before it
pub IsLegal-at : (k : Limits) (h before rest : List Entry) (e : Entry) → h ≡ before ++ e ∷ rest → IsLegal k h → IsLegal k before × MayFollow k (left k before) e
IsLegal-at k h before rest e is legal = IsLegal-last k before e (IsLegal-prefix k (before ++ e ∷ []) h (rest, append_assoc before (e ∷ []) rest ∙ sym is) legal)

-- ---- the next numbers only rise
pub next_of-left_from : (b : Band) (s : Cells) (h : List Entry) → next_of b s ≤ next_of b (left_from s h)
next_of-left_from b s [] = omega arith
next_of-left_from b s (e ∷ h) = le_trans (next_of-rises b s e.by e.call) (next_of-left_from b (after s e.by e.call) h)

pub next_fiber-left_from : (s : Cells) (h : List Entry) → s.next_fiber ≤ (left_from s h).next_fiber
next_fiber-left_from = next_of-left_from Fibers

pub next_of-prefix : (b : Band) (k : Limits) (g h : List Entry) → IsPrefix g h → next_of b (left k g) ≤ next_of b (left k h)
unfolding left
next_of-prefix b k g h p =
    subst (λ (x : List Entry). next_of b (left_from (opening k) g) ≤ next_of b (left_from (opening k) x)) p.1
    (subst (λ (x : Cells). next_of b (left_from (opening k) g) ≤ next_of b x) (sym (left_from-append (opening k) g p.0))
    (next_of-left_from b (left_from (opening k) g) p.0))

-- ---- the calls of one fiber
pub calls_by-push : (f : ℕ) (h : List Entry) (e : Entry) → e.by ≡ f → calls_by f (h ++ e ∷ []) ≡ calls_by f h ++ e ∷ []
calls_by-push f h e is = filter-append (λ (x : Entry). eqb x.by f) h (e ∷ []) ∙ ap (λ (b : Bool). calls_by f h ++ cond b (e ∷ []) []) (eq-eqb e.by f is)

pub calls_by-other : (f : ℕ) (h : List Entry) (e : Entry) → e.by ≢ f → calls_by f (h ++ e ∷ []) ≡ calls_by f h
calls_by-other f h e is = filter-append (λ (x : Entry). eqb x.by f) h (e ∷ []) ∙
    ap (λ (b : Bool). calls_by f h ++ cond b (e ∷ []) []) (ne_eqb e.by f is) ∙ append-nil (calls_by f h)

-- an unborn fiber has made no call
unborn_from : (k : Limits) (s : Cells) (h : List Entry) (f : ℕ) → IsLegalFrom k s h → (left_from s h).next_fiber ≤ f → calls_by f h ≡ []
unborn_from k s [] f l h = refl
unborn_from k s (e ∷ es) f l h =
    let m = l.0.born in
    let up = next_fiber-rises s e.by e.call in
    let more = next_fiber-left_from (after s e.by e.call) es in
    let apart : e.by ≢ f = λ (q : e.by ≡ f). omega arith in
    rw (ne_eqb e.by f apart) (unborn_from k (after s e.by e.call) es f l.1 h)

pub unborn : (k : Limits) (h : List Entry) (f : ℕ) → IsLegal k h → (left k h).next_fiber ≤ f → calls_by f h ≡ []
unfolding left IsLegal
unborn k h f l up = unborn_from k (opening k) h f l up

-- the cell of an unborn fiber is as it opened, but for what others set
unborn_cell_from : (k : Limits) (s : Cells) (h : List Entry) (f : ℕ) → IsLegalFrom k s h → (left_from s h).next_fiber ≤ f →
    owned (cell_of (left_from s h) f) ≡ owned (cell_of s f)
unborn_cell_from k s [] f l h = refl
unborn_cell_from k s (e ∷ es) f l h =
    let m = l.0.born in
    let up = next_fiber-rises s e.by e.call in
    let more = next_fiber-left_from (after s e.by e.call) es in
    let apart : e.by ≢ f = λ (q : e.by ≡ f). omega arith in
    unborn_cell_from k (after s e.by e.call) es f l.1 h ∙ owned-after s e.by e.call f apart

pub unborn_cell : (k : Limits) (h : List Entry) (f : ℕ) → IsLegal k h → (left k h).next_fiber ≤ f → owned (cell_of (left k h) f) ≡ owned fresh
unfolding left IsLegal
unborn_cell k h f l up = unborn_cell_from k (opening k) h f l up ∙ ap owned (get_or-replicate_default fresh k.fibers f)

-- ---- every legal history leaves a sound registry
sound_from : (k : Limits) (s : Cells) (h : List Entry) → IsSound k s → IsLegalFrom k s h → IsSound k (left_from s h)
sound_from k s [] i m = i
sound_from k s (e ∷ h) i m = sound_from k (after s e.by e.call) h (after-sound k s e.by e.call i m.0.accepted) m.1

pub sound : (k : Limits) (h : List Entry) → AreLimits k → IsLegal k h → IsSound k (left k h)
unfolding left IsLegal
sound k h l m = sound_from k (opening k) h (opening-sound k l) m
