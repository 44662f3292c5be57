-- The word after each of the owner's calls.
use Rattle.std.proofs.Common.{◌≡◌, ℕ, ◌+◌, ◌*◌, ◌%◌, ◌^◌, ◌-◌, ◌<◌, Bool, true, false, refl, ap, arith}
use Rattle.effect_term.specs.{Values.value_bits, Outcomes.OutcomeFits, declared.reply.Outcome.{Outcome, TheVariants.{Succeeded, Errored, Canceled}}}
use Rattle.effect_term.proofs.ValueLaws.{one}
use Rattle.control_word.specs.Word.{bit, InRange, word_of, finish_sum, masked, unmasked, cut, finished, kind_of, value_of, Masks, Unmasks, Cuts, Finishes}
use Rattle.control_word.proofs.Fields.{word_is, word_lt}

-- the sum, where it stays below 2 ^ 64
wraps : (n k m : ℕ) → m < 2 ^ 64 → n + k ≡ m → (n + k) % 2 ^ 64 ≡ m
wraps n k m h e = omega arith

pub masks : Masks 1099511627777
masks c h o count depth =
    let c1 = h.count in let c2 = h.depth in
    let within : InRange (masked c) = record { count = omega arith; depth = omega arith; phase = h.phase; kind = h.kind } in
    let sum : word_of c + 1099511627777 ≡ word_of (masked c) = rw (word_is c, word_is (masked c)) (omega arith) in
    wraps _ _ _ (word_lt (masked c) within) sum

pub cuts : Cuts 282574488338433
cuts c h o count depth phase =
    let within : InRange (cut c) = record { count = omega arith; depth = omega arith; phase = omega arith; kind = h.kind } in
    let sum : word_of c + 282574488338433 ≡ word_of (cut c) = rw (word_is c, word_is (cut c)) (omega arith) in
    wraps _ _ _ (word_lt (cut c) within) sum

falls : (n k m : ℕ) → m < 2 ^ 64 → k < 2 ^ 64 → n ≡ m + k → (n + (2 ^ 64 - k)) % 2 ^ 64 ≡ m
falls n k m h i e = omega arith

pub unmasks : Unmasks 1099511627775
unmasks c h o count depth =
    let c2 = h.depth in
    let within : InRange (unmasked c) = record { count = omega arith; depth = omega arith; phase = h.phase; kind = h.kind } in
    let sum : word_of c ≡ word_of (unmasked c) + 1099511627775 = rw (word_is c, word_is (unmasked c)) (omega arith) in
    falls _ 1099511627775 _ (word_lt (unmasked c) within) (omega arith) sum

kind_lt : (o : Outcome) → kind_of o < 2 ^ 2
kind_lt (Succeeded v) = omega arith
kind_lt (Errored v) = omega arith
kind_lt Canceled = omega arith

pub finishes : (b : Bool) (o : Outcome) → Finishes b o (1 + 2 ^ 48 * (2 - bit b) + 2 ^ 50 * kind_of o)
finishes b o c h empty count phase =
    let within : InRange (finished o c) = record { count = omega arith; depth = h.depth; phase = omega arith; kind = kind_lt o } in
    let k = empty.kind in
    let p : c.phase + (2 - bit b) ≡ 2 = rw phase (elim b as (λ t. bit t + (2 - bit t) ≡ 2) [ true ↦ refl | false ↦ refl ]) in
    let sum : word_of c + (1 + 2 ^ 48 * (2 - bit b) + 2 ^ 50 * kind_of o) ≡ word_of (finished o c) = rw (word_is c, word_is (finished o c)) (omega arith) in
    wraps _ _ _ (word_lt (finished o c) within) sum

-- the amount and the bits of the value tell the outcome
pub finish_one : (b : Bool) (o p : Outcome) → OutcomeFits o → OutcomeFits p → finish_sum b o ≡ finish_sum b p
    → value_bits (value_of o) ≡ value_bits (value_of p) → o ≡ p
finish_one b (Succeeded v) (Succeeded w) f g e same = ap Succeeded (one v w f g same)
finish_one b (Errored v) (Errored w) f g e same = ap Errored (one v w f g same)
finish_one b Canceled Canceled f g e same = refl
finish_one b (Succeeded v) (Errored w) f g e same = absurd (omega arith)
finish_one b (Succeeded v) Canceled f g e same = absurd (omega arith)
finish_one b (Errored v) (Succeeded w) f g e same = absurd (omega arith)
finish_one b (Errored v) Canceled f g e same = absurd (omega arith)
finish_one b Canceled (Succeeded w) f g e same = absurd (omega arith)
finish_one b Canceled (Errored w) f g e same = absurd (omega arith)
