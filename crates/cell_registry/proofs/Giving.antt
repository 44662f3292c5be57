-- The numbers below the next one are those that were given.
use Rattle.cell_registry.proofs.Prelude.{◌≡◌, ℕ, ◌+◌, ◌<◌, ◌≤◌, List, [], ◌∷◌, ◌++◌, ◌⊎◌, inl, inr, ⊎_elim, refl, sym, ap, ◌∙◌, subst, arith, IsPrefix, dite}
use Rattle.cell_registry.proofs.Prelude.{ℕ_discrete, Number, Limits, Band, Fibers, Refs, Deferreds, Call, Entry, AreLimits, Cells, opening, after, reply_of}
use Rattle.cell_registry.proofs.Prelude.{left_from, IsLegalFrom, left, IsLegal, next_of, limit_of, claim_of, first_of, WasGiven, WasBorn}
use Rattle.cell_registry.proofs.Calls.{next_of-new}
use Rattle.cell_registry.proofs.Legal.{next_of-left_from, next_fiber-left_from, sound}

pub reply-claim : (b : Band) (s : Cells) (by : ℕ) → reply_of s by (claim_of b) ≡ Number (next_of b s)
unfolding reply_of
reply-claim Fibers s by = refl
reply-claim _ s by = refl

given_from : (b : Band) (k : Limits) (s : Cells) (h : List Entry) (n : ℕ) → IsLegalFrom k s h → n < next_of b (left_from s h) → (n < next_of b s) ⊎
    WasGiven b h n
given_from b k s [] n l below = inl below
given_from b k s (e ∷ es) n l below = ⊎_elim
    (λ (before : n < next_of b (after s e.by e.call)). ⊎_elim
    (λ (q : n < next_of b s). inl q)
    (λ (q : (e.call ≡ claim_of b) × (n ≡ next_of b s)). inr (inl (q.0, l.0.replied ∙ ap (reply_of s e.by) q.0 ∙ reply-claim b s e.by ∙ ap Number (sym q.1))))
    (next_of-new b s e.by e.call n before))
    (λ (later : WasGiven b es n). inr (inr later))
    (given_from b k (after s e.by e.call) es n l.1 below)

first-given : (b : Band) (k : Limits) (n : ℕ) → first_of b ≤ n → n < next_of b (opening k) → ⊥
first-given Fibers k n lo hi = omega arith
first-given _ k n lo hi = omega arith

pub given : (b : Band) (k : Limits) (h : List Entry) (n : ℕ) → IsLegal k h → first_of b ≤ n → n < next_of b (left k h) → WasGiven b h n
unfolding left IsLegal
given b k h n l lo below =
    ⊎_elim (λ (q : n < next_of b (opening k)). absurd (first-given b k n lo q)) (λ (q : WasGiven b h n). q) (given_from b k (opening k) h n l below)

-- ---- and a number that was given is below the next one
next-claim : (b : Band) (s : Cells) (by : ℕ) → next_of b (after s by (claim_of b)) ≡ next_of b s + 1
unfolding after
next-claim Fibers s by = refl
next-claim _ s by = refl

WasGiven-next_from : (b : Band) (k : Limits) (s : Cells) (h : List Entry) (n : ℕ) → IsLegalFrom k s h → WasGiven b h n → n < next_of b (left_from s h)
WasGiven-next_from b k s [] n l w = absurd w
WasGiven-next_from b k s (e ∷ es) n l (inl w) =
    let answered : Number n ≡ Number (next_of b s) = sym w.1 ∙ l.0.replied ∙ ap (reply_of s e.by) w.0 ∙ reply-claim b s e.by in
    let is : n ≡ next_of b s = cc in
    let next : next_of b (after s e.by e.call) ≡ next_of b s + 1 = ap (λ (c : Call). next_of b (after s e.by c)) w.0 ∙ next-claim b s e.by in
    let more = next_of-left_from b (after s e.by e.call) es in
    omega arith
WasGiven-next_from b k s (e ∷ es) n l (inr w) = WasGiven-next_from b k (after s e.by e.call) es n l.1 w

pub WasGiven-next : (b : Band) (k : Limits) (h : List Entry) (n : ℕ) → IsLegal k h → WasGiven b h n → n < next_of b (left k h)
unfolding left IsLegal
WasGiven-next b k h n l w = WasGiven-next_from b k (opening k) h n l w

pub next_of-most : (b : Band) (k : Limits) (h : List Entry) → AreLimits k → IsLegal k h → next_of b (left k h) ≤ limit_of b k
next_of-most Fibers k h l legal = (sound k h l legal).next_fiber
next_of-most Refs k h l legal = (sound k h l legal).next_ref
next_of-most Deferreds k h l legal = (sound k h l legal).next_deferred

-- what was given in a history was given in each longer one
WasGiven-append : (b : Band) (g h : List Entry) (n : ℕ) → WasGiven b g n → WasGiven b (g ++ h) n
WasGiven-append b [] h n w = absurd w
WasGiven-append b (e ∷ g) h n (inl w) = inl w
WasGiven-append b (e ∷ g) h n (inr w) = inr (WasGiven-append b g h n w)

pub WasGiven-push : (b : Band) (h : List Entry) (e : Entry) (n : ℕ) → e.call ≡ claim_of b → e.reply ≡ Number n → WasGiven b (h ++ e ∷ []) n
WasGiven-push b [] e n c r = inl (c, r)
WasGiven-push b (x ∷ h) e n c r = inr (WasGiven-push b h e n c r)

-- ---- the born fibers are those below the next number
pub WasBorn-prefix : (g h : List Entry) (f : ℕ) → IsPrefix g h → WasBorn g f → WasBorn h f
WasBorn-prefix g h f p (inl w) = inl w
WasBorn-prefix g h f p (inr w) = inr (subst (λ (x : List Entry). WasGiven Fibers x f) p.1 (WasGiven-append Fibers g p.0 f w))

pub WasBorn-next : (k : Limits) (h : List Entry) (f : ℕ) → IsLegal k h → WasBorn h f → f < (left k h).next_fiber
unfolding left
WasBorn-next k h f l (inl w) = let more = next_fiber-left_from (opening k) h in omega arith
WasBorn-next k h f l (inr w) = WasGiven-next Fibers k h f l w

pub next-WasBorn : (k : Limits) (h : List Entry) (f : ℕ) → IsLegal k h → f < (left k h).next_fiber → WasBorn h f
next-WasBorn k h f l below = dite (ℕ_discrete f 0) (λ first. inl first) (λ later. inr (given Fibers k h f l (omega arith) below))
