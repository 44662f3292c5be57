-- What every legal history tells.
use Rattle.cell_registry.proofs.Prelude.{◌≡◌, ℕ, List, [], ◌∷◌, inl, inr, refl, sym, ap, ◌∙◌, subst, arith, dite, IsPrefix, ℕ_discrete, Outcome, Limits, Stage}
use Rattle.cell_registry.proofs.Prelude.{Ended, Cell, Call, Cancel, Join, Mask, Unmask, Cut, Finish, Entry, AreLimits, fresh, requested, awaited, join_reply}
use Rattle.cell_registry.proofs.Prelude.{IsOpen, MayUnmask, MayFinish, Cells, opening, cell_of, after, reply_of, IsAllowed, left_from, IsLegalFrom, left}
use Rattle.cell_registry.proofs.Prelude.{IsLegal, next_of, Reply}
use Rattle.effect_term.specs.declared.reply.JoinReply.{JoinReply}
use Rattle.cell_registry.specs.Told.{WasToldEnd, JoinsAgree, IsTold}
use Rattle.cell_registry.proofs.Lists.{get_or-set_kept}
use Rattle.cell_registry.proofs.Calls.{owned-after}
use Rattle.cell_registry.proofs.Legal.{left_from-append, IsLegalFrom-append, IsLegal-at}
use Rattle.cell_registry.proofs.Giving.{reply-claim, WasGiven-next, next_of-most, WasBorn-next, next-WasBorn}
use Rattle.cell_registry.proofs.Requests.{legal-cuts}

-- ---- a fiber that has ended stays so, with its outcome
-- after a call of its own
ended-own : (k : Limits) (s : Cells) (f : ℕ) (c : Call) (o : Outcome) → IsAllowed k s f c → (cell_of s f).stage ≡ Ended o →
    (cell_of (after s f c) f).stage ≡ Ended o
unfolding after IsAllowed
ended-own k s f (Cancel g) o a e = get_or-set_kept (λ (x : Cell). x.stage) s.cells g (requested (cell_of s g)) fresh refl f ∙ e
ended-own k s f (Join g) o a e = get_or-set_kept (λ (x : Cell). x.stage) s.cells g (awaited (cell_of s g)) fresh refl f ∙ e
ended-own k s f Mask o a e = absurd (subst IsOpen e a.0)
ended-own k s f Unmask o a e = absurd (subst (λ (g : Stage). MayUnmask g (cell_of s f).depth) e a)
ended-own k s f Cut o a e = absurd (subst IsOpen (sym a.0 ∙ e) tt)
ended-own k s f (Finish p) o a e = absurd (subst (λ (g : Stage). MayFinish g (cell_of s f).depth p) e a)
ended-own k s f _ o a e = e

pub ended-after : (k : Limits) (s : Cells) (by : ℕ) (c : Call) (f : ℕ) (o : Outcome) → IsAllowed k s by c → (cell_of s f).stage ≡ Ended o →
    (cell_of (after s by c) f).stage ≡ Ended o
ended-after k s by c f o a e = dite (ℕ_discrete by f)
    (λ (is : by ≡ f). subst (λ (b : ℕ). (cell_of (after s b c) f).stage ≡ Ended o) (sym is) (ended-own k s f c o (subst (λ (b : ℕ). IsAllowed k s b c) is a) e))
    (λ apart. ap (λ (x : Stage × ℕ × ℕ). x.0) (owned-after s by c f apart) ∙ e)

ended-left_from : (k : Limits) (s : Cells) (h : List Entry) (f : ℕ) (o : Outcome) → IsLegalFrom k s h → (cell_of s f).stage ≡ Ended o →
    (cell_of (left_from s h) f).stage ≡ Ended o
ended-left_from k s [] f o l e = e
ended-left_from k s (x ∷ h) f o l e = ended-left_from k (after s x.by x.call) h f o l.1 (ended-after k s x.by x.call f o l.0.accepted.allowed e)

-- so it does in every legal history that goes on
pub ended_since : (k : Limits) (g h : List Entry) (f : ℕ) (o : Outcome) → IsPrefix g h → IsLegal k h → (cell_of (left k g) f).stage ≡ Ended o →
    (cell_of (left k h) f).stage ≡ Ended o
unfolding left IsLegal
ended_since k g h f o p legal e =
    let parts = IsLegalFrom-append k (opening k) g p.0 (subst (λ (x : List Entry). IsLegalFrom k (opening k) x) (sym p.1) legal) in
    let later = ended-left_from k (left_from (opening k) g) p.0 f o parts.1 e in
    subst (λ (x : List Entry). (cell_of (left_from (opening k) x) f).stage ≡ Ended o) p.1
    (subst (λ (s : Cells). (cell_of s f).stage ≡ Ended o) (sym (left_from-append (opening k) g p.0)) later)

-- and a fiber that hasn't ended after a call had not before it
pub open_before : (k : Limits) (s : Cells) (by : ℕ) (c : Call) (f : ℕ) → IsAllowed k s by c → IsOpen (cell_of (after s by c) f).stage →
    IsOpen (cell_of s f).stage
open_before k s by c f a opened = go (cell_of s f).stage refl
  where
    go : (g : Stage) → (cell_of s f).stage ≡ g → IsOpen g
    go (Ended o) e = subst IsOpen (ended-after k s by c f o a e) opened
    go _ e = tt

-- ---- the outcome that a join tells is the fiber's
join_reply-ended : (g : Stage) (o : Outcome) → join_reply g ≡ JoinReply.Ended o → g ≡ Ended o
join_reply-ended (Ended p) o e = let same : p ≡ o = cc in ap Ended same
join_reply-ended _ o e = cc

WasToldEnd-left_from : (k : Limits) (s : Cells) (h : List Entry) (f : ℕ) (o : Outcome) → IsLegalFrom k s h → WasToldEnd h f o →
    (cell_of (left_from s h) f).stage ≡ Ended o
unfolding reply_of
WasToldEnd-left_from k s [] f o l w = absurd w
WasToldEnd-left_from k s (e ∷ es) f o l (inl w) =
    let answered : Reply.Join (join_reply (cell_of s f).stage) ≡ Reply.Join (JoinReply.Ended o) = sym (l.0.replied ∙ ap (reply_of s e.by) w.0) ∙ w.1 in
    let told : join_reply (cell_of s f).stage ≡ JoinReply.Ended o = cc in
    ended-left_from k (after s e.by e.call) es f o l.1 (ended-after k s e.by e.call f o l.0.accepted.allowed (join_reply-ended (cell_of s f).stage o told))
WasToldEnd-left_from k s (e ∷ es) f o l (inr w) = WasToldEnd-left_from k (after s e.by e.call) es f o l.1 w

legal-joins : (k : Limits) (h : List Entry) → IsLegal k h → JoinsAgree h
unfolding IsLegal
legal-joins k h l f o p a b =
    let same : Ended o ≡ Ended p = sym (WasToldEnd-left_from k (opening k) h f o l a) ∙ WasToldEnd-left_from k (opening k) h f p l b in
    cc

-- ---- all of it
pub legal-told : (k : Limits) (h : List Entry) → AreLimits k → IsLegal k h → IsTold k h
legal-told k h limits legal = record {
  callers = λ before rest e is. let follows = IsLegal-at k h before rest e is legal in next-WasBorn k before e.by follows.0 follows.1.born;
  cuts = legal-cuts k h legal;
  outcomes = legal-joins k h legal;
  given = λ b n w. let most = next_of-most b k h limits legal in let below = WasGiven-next b k h n legal w in omega arith;
  once = λ b n before rest e is claims answers w.
      let follows = IsLegal-at k h before rest e is legal in
      let answered : Reply.Number n ≡ Reply.Number (next_of b (left k before)) = sym answers ∙ follows.1.replied ∙
      ap (reply_of (left k before) e.by) claims ∙ reply-claim b (left k before) e.by in
      let next : n ≡ next_of b (left k before) = cc in
      let below = WasGiven-next b k before n follows.0 w in
      omega arith;
  born = λ f below. next-WasBorn k h f legal below;
  next = λ f w. WasBorn-next k h f legal w;
  below = λ b n w. WasGiven-next b k h n legal w;
  most = λ b. next_of-most b k h limits legal;
}
