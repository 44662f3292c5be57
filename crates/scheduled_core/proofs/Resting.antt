-- A fiber at a wait that nothing serves: its move changes nothing of it but that the next look is due.
use Rattle.std.proofs.Common.{◌≡◌, ℕ, ℤ, List, [], ◌∷◌, ◌++◌, Option, Some, None, refl, ap, ◌∙◌, subst, append-nil}
use Rattle.effect_term.specs.declared.reply.{Outcome.Outcome, Reply.Reply}
use Rattle.fiber_frames.specs.{declared.ask.{Ask.Ask, Look.TheVariants.Due}, Path.{Running, Runs, Final, PathStep, In_let, In_seq, In_handle}}
use Rattle.fiber_frames.specs.{Path.{In_guarded, In_masked, In_polled, Root, At_term, At_final, active, leaf, path, rooted, whole, focus}, Rows.{Waited, Row}}
use Rattle.fiber_frames.specs.Rows.{wait, outcome_in, read_in, after_end, after_read, branch, action_row, word_row, value_row, error_row, row, row_at, placed}
use Rattle.fiber_frames.specs.Fiber.{Fiber, reduced, row_of}
use Rattle.derived_ops.specs.Tree.{Action, Never, Ending, Await, Operand, Pure, Raise, Act, Let, Seq, Handled, Guarded, Masked, Polled, Join, Mask, Tree, Make}
use Rattle.derived_ops.specs.Tree.{New_ref, New_deferred}
use Rattle.fiber_frames.specs.declared.ask.Ask.TheVariants as ask

-- what a row leaves of a term or a fiber, and which calls it can be about
pub record Stays {T : Type 0} (n : ℕ) (t : T) (w : Row T) : Type 0 where
  pub becomes : w.becomes ≡ t
  pub marks : w.marks ≡ []
  pub next : w.next ≡ n

none_ended : (o : Option Outcome) → wait o ≡ Waited → o ≡ None
none_ended None e = refl
none_ended (Some x) e = absurd (cc)

none_read : (o : Option ℤ) → wait o ≡ Waited → o ≡ None
none_read None e = refl
none_read (Some x) e = absurd (cc)

module _ (i n : ℕ) (r : Reply) where
  action_stays : (a : Action) → (action_row i n r a).kind ≡ Waited → Stays n (Act a) (action_row i n r a)
  action_stays Never e = record { becomes = refl; marks = refl; next = refl }
  action_stays (Ending f) e = record { becomes = ap (λ o. after_end o f) (none_ended (outcome_in r) e); marks = refl; next = refl }
  action_stays (Await d) e = record { becomes = ap (λ o. after_read o d) (none_read (read_in r) e); marks = refl; next = refl }
  action_stays _ e = absurd (cc)

  word_stays : (up : List Mask) (t : Tree) → (word_row i n r up t).kind ≡ Waited → Stays n t (word_row i n r up t)
  word_stays up (Act a) e = action_stays a e
  word_stays up (Join f x s y k c) e = record { becomes = ap (λ o. branch o f x s y k c) (none_ended (outcome_in r) e); marks = refl; next = refl }
  word_stays up (Make (New_ref v) x k) e = absurd (cc)
  word_stays up (Make New_deferred x k) e = absurd (cc)
  word_stays up _ e = absurd (cc)

  value_goes : (b : Root) (v : Operand) (p : List PathStep) → (value_row i n b v p).kind ≡ Waited → ⊥
  value_goes At_term v [] e = cc
  value_goes (At_final m gs) v [] e = cc
  value_goes b v (In_let x k ∷ p) e = cc
  value_goes b v _ e = cc

  error_goes : (b : Root) (v : Operand) (p : List PathStep) → (error_row i n b v p).kind ≡ Waited → ⊥
  error_goes At_term v [] e = cc
  error_goes (At_final m gs) v [] e = cc
  error_goes b v (In_let x k ∷ p) e = cc
  error_goes b v _ e = cc

  placed_stays : (b : Root) (p : List PathStep) (t : Tree) (w : Row Tree) → Stays n t w → Stays n (rooted b (whole p t)) (placed i n b p w)
  placed_stays b p t w s = record { becomes = ap (λ x. rooted b (whole p x)) s.becomes; marks = s.marks; next = s.next }

  row_stays : (b : Root) (p : List PathStep) (t : Tree) → (row i n r b p t).kind ≡ Waited → Stays n (rooted b (whole p t)) (row i n r b p t)
  row_stays b p (Pure v) e = absurd (value_goes b v p e)
  row_stays b p (Raise c) e = absurd (error_goes b c p e)
  row_stays b p t e = placed_stays b p t (word_row i n r (active i b p) t) (word_stays (active i b p) t e)

-- a term is its leaf at the end of its path
whole_leaf : (t : Tree) (p : List PathStep) → whole (path t p) (leaf t) ≡ whole p t
whole_leaf (Let e x k) p = whole_leaf e (In_let x k ∷ p)
whole_leaf (Seq w e k) p = whole_leaf e (In_seq w k ∷ p)
whole_leaf (Handled e x h) p = whole_leaf e (In_handle x h ∷ p)
whole_leaf (Guarded e fin) p = whole_leaf e (In_guarded fin ∷ p)
whole_leaf (Masked m e) p = whole_leaf e (In_masked m ∷ p)
whole_leaf (Polled q e) p = whole_leaf e (In_polled q ∷ p)
whole_leaf _ p = refl

at_stays : (i n : ℕ) (r : Reply) (w : Running) → (row_at i n r (focus w) w).kind ≡ Waited → Stays n w (row_at i n r (focus w) w)
at_stays i n r (Runs t) e =
    subst (λ (x : Running). Stays n x (row i n r At_term (path t []) (leaf t))) (ap (rooted At_term) (whole_leaf t []))
    (row_stays i n r At_term (path t []) (leaf t) e)
at_stays i n r (Final m (g ∷ gs)) e =
    subst (λ (x : Running). Stays n x (row i n r (At_final m gs) (path g []) (leaf g))) (ap (rooted (At_final m gs)) (whole_leaf g []))
    (row_stays i n r (At_final m gs) (path g []) (leaf g) e)
at_stays i n r _ e = absurd (cc)

-- the fiber, whose next look is due
abbrev pub due : Fiber → Fiber
due g = record { number = g.number; running = g.running; look = Due; next = g.next; marks = g.marks }

pub row_is_due : (g : Fiber) (r : Reply) → (row_of g r).kind ≡ Waited → reduced g (row_of g r) ≡ due g
row_is_due g r e =
    let s = at_stays g.number g.next r g.running e in
    (λ j. record { number = g.number; running = s.becomes j; look = Due; next = s.next j; marks = (ap (λ m. g.marks ++ m) s.marks ∙ append-nil g.marks) j })

-- ---- the calls of waits
pub data IsWait (a : Ask) : Type 0 where
  Silently : a ≡ ask.Silent → IsWait a
  Joins : (f : ℕ) → a ≡ ask.Join f → IsWait a
  Reads : (d : ℕ) → a ≡ ask.Read d → IsWait a

module _ (i n m : ℕ) (r s : Reply) where
  action_waits : (a : Action) → (action_row i n r a).kind ≡ Waited → IsWait (action_row i m s a).call
  action_waits Never e = Silently refl
  action_waits (Ending f) e = Joins _ refl
  action_waits (Await d) e = Reads _ refl
  action_waits _ e = absurd (cc)

  word_waits : (up : List Mask) (t : Tree) → (word_row i n r up t).kind ≡ Waited → IsWait (word_row i m s up t).call
  word_waits up (Act a) e = action_waits a e
  word_waits up (Join f x w y k c) e = Joins _ refl
  word_waits up (Make (New_ref v) x k) e = absurd (cc)
  word_waits up (Make New_deferred x k) e = absurd (cc)
  word_waits up _ e = absurd (cc)

  row_waits : (b : Root) (p : List PathStep) (t : Tree) → (row i n r b p t).kind ≡ Waited → IsWait (row i m s b p t).call
  row_waits b p (Pure v) e = absurd (value_goes i n r b v p e)
  row_waits b p (Raise c) e = absurd (error_goes i n r b c p e)
  row_waits b p t e = word_waits (active i b p) t e

  at_waits : (w : Running) → (row_at i n r (focus w) w).kind ≡ Waited → IsWait (row_at i m s (focus w) w).call
  at_waits (Runs t) e = row_waits At_term (path t []) (leaf t) e
  at_waits (Final k (g ∷ gs)) e = row_waits (At_final k gs) (path g []) (leaf g) e
  at_waits _ e = absurd (cc)

pub call_waits : (g : Fiber) (r s : Reply) → (row_of g r).kind ≡ Waited → IsWait (row_of g s).call
call_waits g r s e = at_waits g.number g.next g.next r s g.running e
