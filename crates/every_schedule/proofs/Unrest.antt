-- Fibers that can go on, and final worlds with and without the notes of joins.
use Rattle.std.proofs.Common.{◌≡◌, ◌≢◌, ◌⊎◌, inl, inr, ℕ, ℤ, Bool, true, false, List, [], ◌∷◌, Option, Some, None, refl, sym, ap, ◌∙◌, subst, ◌&&◌}
use Rattle.std.specs.Prelude.{is_none}
use Rattle.effect_term.specs.declared.reply.{Outcome.Outcome, Reply.Reply}
use Rattle.derived_ops.specs.Tree.{Action, Never, Ending, Await, Operand, Pure, Raise, Act, Join, Mask, Tree, Make, New_ref, New_deferred}
use Rattle.fiber_frames.specs.{declared.ask.Ask.Ask, Path.{Running, Runs, Final, Over, Broken, PathStep, In_let}}
use Rattle.fiber_frames.specs.{Path.{Root, At_term, At_final, active, leaf, path, focus}, Rows.{RowKind, Waited, wait, outcome_in, read_in}}
use Rattle.fiber_frames.specs.{Rows.{action_row, word_row, value_row, error_row, row, row_at}, Fiber.{Fiber, active_of, is_silent, is_waited, outcome_of}}
use Rattle.fiber_frames.specs.Fiber.{row_of, waits_alone}
use Rattle.cell_registry.specs.{declared.cell.Stage.Stage, Cells.{Cells, cell_of, deferred_of, join_reply, reply_of, without_waits}, Words.has_ended}
use Rattle.cell_registry.proofs.Forgetting.{request_stays, same_reply}
use Rattle.scheduled_core.specs.{declared.wish.Wish.{Wish, TheVariants.{Shared, Alone, Nothing}}, Core.{World, wish_of}, Finals.{HasEnded, IsAtRest, IsFinal}}
use Rattle.scheduled_core.specs.Finals.{IsUnasked, reply_to, word_wish}
use Rattle.every_schedule.specs.Places.{unnoted}
use Rattle.effect_term.specs.declared.reply.Reply.TheVariants as reply
use Rattle.fiber_frames.specs.declared.ask.Ask.TheVariants as ask
use Rattle.cell_registry.specs.declared.cell.Stage.TheVariants as at

-- ---- a word that waits gets nothing from the reply
-- the word, of this kind, waits without a call, or for an end or a value that the reply doesn't have
pub data IsUnserved (k : RowKind) (a : Ask) (r : Reply) : Type 0 where
  Silently : a ≡ ask.Silent → k ≡ Waited → IsUnserved k a r
  Unended : (f : ℕ) → a ≡ ask.Join f → outcome_in r ≡ None → IsUnserved k a r
  Unread : (d : ℕ) → a ≡ ask.Read d → read_in r ≡ None → IsUnserved k a r

none_ended : (o : Option Outcome) → wait o ≡ Waited → o ≡ None
none_ended None e = refl
none_ended (Some x) e = absurd (cc)

none_read : (o : Option ℤ) → wait o ≡ Waited → o ≡ None
none_read None e = refl
none_read (Some x) e = absurd (cc)

module _ (i n m : ℕ) (r s : Reply) where
  action_waits : (a : Action) → (action_row i n r a).kind ≡ Waited → IsUnserved (action_row i m s a).kind (action_row i m s a).call r
  action_waits Never e = Silently refl refl
  action_waits (Ending f) e = Unended _ refl (none_ended (outcome_in r) e)
  action_waits (Await d) e = Unread _ refl (none_read (read_in r) e)
  action_waits _ e = absurd (cc)

  word_waits : (up : List Mask) (t : Tree) → (word_row i n r up t).kind ≡ Waited → IsUnserved (word_row i m s up t).kind (word_row i m s up t).call r
  word_waits up (Act a) e = action_waits a e
  word_waits up (Join f x w y k c) e = Unended _ refl (none_ended (outcome_in r) e)
  word_waits up (Make (New_ref v) x k) e = absurd (cc)
  word_waits up (Make New_deferred x k) e = absurd (cc)
  word_waits up _ e = absurd (cc)

  value_goes : (b : Root) (v : Operand) (p : List PathStep) → (value_row i n b v p).kind ≡ Waited → ⊥
  value_goes At_term v [] e = cc
  value_goes (At_final k gs) v [] e = cc
  value_goes b v (In_let x k ∷ p) e = cc
  value_goes b v _ e = cc

  error_goes : (b : Root) (v : Operand) (p : List PathStep) → (error_row i n b v p).kind ≡ Waited → ⊥
  error_goes At_term v [] e = cc
  error_goes (At_final k gs) v [] e = cc
  error_goes b v (In_let x k ∷ p) e = cc
  error_goes b v _ e = cc

  row_waits : (b : Root) (p : List PathStep) (t : Tree) → (row i n r b p t).kind ≡ Waited → IsUnserved (row i m s b p t).kind (row i m s b p t).call r
  row_waits b p (Pure v) e = absurd (value_goes b v p e)
  row_waits b p (Raise c) e = absurd (error_goes b c p e)
  row_waits b p t e = word_waits (active i b p) t e

  at_waits : (w : Running) → (row_at i n r (focus w) w).kind ≡ Waited → IsUnserved (row_at i m s (focus w) w).kind (row_at i m s (focus w) w).call r
  at_waits (Runs t) e = row_waits At_term (path t []) (leaf t) e
  at_waits (Final k (g ∷ gs)) e = row_waits (At_final k gs) (path g []) (leaf g) e
  at_waits (Final k []) e = absurd (cc)
  at_waits (Over o) e = absurd (cc)
  at_waits Broken e = absurd (cc)

-- a fiber at a wait, by what its word asks for
waits_so : (g : Fiber) (r : Reply) → (row_of g r).kind ≡ Waited → IsUnserved (row_of g reply.Done).kind (row_of g reply.Done).call r
waits_so g r e = at_waits g.number g.next g.next r reply.Done g.running e

module _ (s : Cells) (f : ℕ) (g : Fiber) where
  -- at this wait the fiber would go on
  abbrev pub GoesOn : Ask → Type 0
  GoesOn (ask.Join x) = has_ended (cell_of s x).stage ≡ true
  GoesOn (ask.Read d) = is_none (deferred_of s d) ≡ false
  GoesOn ask.Silent = waits_alone g ≡ false
  GoesOn _ = Unit {0}

  ended_some : (x : Stage) → has_ended x ≡ true → outcome_in (reply.Join (join_reply x)) ≢ None
  ended_some at.Running e = λ n. cc
  ended_some at.Finalizing e = λ n. cc
  ended_some (at.Ended o) e = λ n. cc

  full_some : (o : Option ℤ) → is_none o ≡ false → o ≢ None
  full_some None e = λ n. cc
  full_some (Some v) e = λ n. cc

  alone : (row_of g reply.Done).kind ≡ Waited → (row_of g reply.Done).call ≡ ask.Silent → waits_alone g ≡ true
  alone k a = ap (λ (x : RowKind). is_waited x && is_silent (row_of g reply.Done).call) k ∙ ap is_silent a

  served : (a : Ask) → GoesOn a → IsUnserved (row_of g reply.Done).kind a (reply_to s f (wish_of a)) → (row_of g reply.Done).call ≡ a → ⊥
  unfolding reply_of
  served a goes (Silently is waits) same =
      let now : waits_alone g ≡ false = subst GoesOn is goes in
      let yes : waits_alone g ≡ true = alone waits (same ∙ is) in
      let no : true ≡ false = sym yes ∙ now in cc
  served a goes (Unended x is none) same =
      ended_some (cell_of s x).stage (subst GoesOn is goes) (subst (λ (b : Ask). outcome_in (reply_to s f (wish_of b)) ≡ None) is none)
  served a goes (Unread d is none) same =
      full_some (deferred_of s d) (subst GoesOn is goes) (subst (λ (b : Ask). read_in (reply_to s f (wish_of b)) ≡ None) is none)

  -- a fiber that would go on isn't at rest
  pub goes_on : (a : Ask) → a ≡ (row_of g reply.Done).call → GoesOn a → outcome_of g ≡ None → HasEnded g ⊎ IsAtRest s f g → ⊥
  goes_on a is goes unended (inl ended) = let no : Some ended.0 ≡ None = sym ended.1 ∙ unended in cc
  goes_on a is goes unended (inr rests) =
      served (row_of g reply.Done).call (subst GoesOn is goes) (waits_so g (reply_to s f (word_wish g)) rests.waits) refl

  -- nor does it wait
  pub goes_not : (a : Ask) → a ≡ (row_of g reply.Done).call → GoesOn a → (row_of g (reply_to s f (word_wish g))).kind ≡ Waited → ⊥
  goes_not a is goes waits = served (row_of g reply.Done).call (subst GoesOn is goes) (waits_so g (reply_to s f (word_wish g)) waits) refl

-- ---- the notes of joins change no wait
reply_to_bare : (s : Cells) (f : ℕ) (w : Wish) → reply_to (without_waits s) f w ≡ reply_to s f w
reply_to_bare s f (Shared c) = same_reply s f c
reply_to_bare s f Alone = refl
reply_to_bare s f Nothing = refl

rest_noted : (s : Cells) (f : ℕ) (g : Fiber) → IsAtRest (without_waits s) f g → IsAtRest s f g
rest_noted s f g h = record {
  waits = subst (λ (r : Reply). (row_of g r).kind ≡ Waited) (reply_to_bare s f (word_wish g)) h.waits;
  unasked = subst (λ (q : Bool). IsUnasked (active_of g) g.look q) (request_stays s f) h.unasked;
}

rest_bare : (s : Cells) (f : ℕ) (g : Fiber) → IsAtRest s f g → IsAtRest (without_waits s) f g
rest_bare s f g h = record {
  waits = subst (λ (r : Reply). (row_of g r).kind ≡ Waited) (sym (reply_to_bare s f (word_wish g))) h.waits;
  unasked = subst (λ (q : Bool). IsUnasked (active_of g) g.look q) (sym (request_stays s f)) h.unasked;
}

pub final_noted : (w : World) → IsFinal (unnoted w) → IsFinal w
final_noted w h f g at = elim (h f g at) [ inl ended ↦ inl ended | inr rests ↦ inr (rest_noted w.cells f g rests) ]

pub final_bare : (w : World) → IsFinal w → IsFinal (unnoted w)
final_bare w h f g at = elim (h f g at) [ inl ended ↦ inl ended | inr rests ↦ inr (rest_bare w.cells f g rests) ]
