-- The value of a ref, read from a registry.
use Rattle.std.{proofs.Common.{◌≡◌, ℕ, zero, suc, ◌<◌, ◌≤◌, List, [], ◌∷◌, length, refl, arith}, specs.Prelude.{ℤ, pos, slice_index_or}}
use Rattle.cell_registry.specs.{declared.call.Call.TheVariants.Get, Cells.{IsAllowed, after, ref_of, reply_of}, Plain.{IsMade, IsPlain, MayCall, PlainView}}
use Rattle.effect_term.specs.declared.reply.Reply.TheVariants as reply

pub may_get : (r : PlainView) (n : ℕ) → IsPlain r → n < r.limits.refs → MayCall r 0 (Get n)
unfolding IsAllowed
may_get r n lawful low = record { born = lawful.sound.some_fiber; allowed = low }

value_got : (s : PlainView) (n : ℕ) (v : ℤ) → reply.Value v ≡ reply_of s.state 0 (Get n) → v ≡ ref_of s.state n
unfolding reply_of
value_got s n v e = cc

pub got_value : (old new : PlainView) (n : ℕ) (v : ℤ) → IsMade old new 0 (Get n) (reply.Value v) → v ≡ ref_of old.state n
got_value old new n v made = value_got old n v made.reply

pub got_same : (old new : PlainView) (n : ℕ) (v : ℤ) → IsMade old new 0 (Get n) (reply.Value v) → new ≡ old
unfolding after
got_same old new n v made = made.left

past_or : (xs : List ℤ) (i : ℕ) (d : ℤ) → length xs ≤ i → slice_index_or xs i d ≡ d
past_or [] zero d h = refl
past_or [] (suc i) d h = refl
past_or (x ∷ xs) zero d h = absurd (omega arith)
past_or (x ∷ xs) (suc i) d h = past_or xs i d (omega arith)

pub past_ref : (r : PlainView) (n : ℕ) → IsPlain r → r.limits.refs ≤ n → ref_of r.state n ≡ pos 0
past_ref r n lawful past = let long = lawful.sound.refs in past_or r.state.refs n (pos 0) (omega (arith, long))
