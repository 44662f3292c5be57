-- The first finding of a program.
use Rattle.std.proofs.Common.{◌≡◌, ◌≤◌, ◌<◌, ◌⊎◌, inl, inr, ℕ, Bool, true, false, List, Result, Ok, Err, IfOk, length, ap, arith, refl, sym, ◌∙◌, subst}
use Rattle.std.specs.{Prelude.{Some, max, min}, List.{All, slice_get}}
use Rattle.cell_registry.specs.declared.limits.{Limits.Limits, RunError.RunError}
use Rattle.derived_ops.specs.Tree.{Tree}
use Rattle.scheduled_core.specs.{Core.{World, core, reported}, Finals.IsSettled}
use Rattle.every_schedule.{specs.{declared.exploration.{Answer.Answer, Exploration.Exploration}, Explored.IsReached}, proofs.Told.all_at}
use Rattle.sampled_schedules.specs.declared.comings.Coming.{Coming}
use Rattle.world_search.specs.declared.answers.Bounds.{Bounds}
use Rattle.exploration_text.specs.declared.{findings.First.{First, TheVariants.{Explored, Found}}, wants.Want.Want}
use Rattle.exploration_text.specs.{ExplorationText.IsSpellable, Findings.{HasEndedFirst, IsDecided, IsFinding, IsFirst, IsLast, IsOfMore, Shows, bounds_within}}
use Rattle.exploration_text.specs.{Findings.{ended, final}, Wants.is_failure}

faulted : (k : Limits) (x : Result World RunError) (e : RunError) → reported x ≡ Err e → IfOk x (IsSettled k)
faulted k (Ok w) e h = absurd cc
faulted k (Err x) e h = tt

reached_so : (code : Tree) (k : Limits) (most : ℕ) (a : Answer) → reported (core code k a.schedule) ≡ a.end →
    (length a.schedule < most → IsReached code k a) → IsLast most a → IsReached code k a
reached_so code k most a is stays (inl short) = stays short
reached_so code k most a is stays (inr fault) = record {
  reached = is;
  settled = faulted k (core code k a.schedule) fault.0 (is ∙ fault.1);
}

at_most : (n a b : ℕ) → a ≤ b → n ≤ max a 1 → n ≤ max b 1
at_most n a b low h = omega (arith, low, h)

-- if an answer is a finding, the answer of a replay under its schedule is one
again : (code : Tree) (k : Limits) (wants : List Want) (b a : Answer) (last drawn : Bool) → a.schedule ≡ b.schedule →
    reported (core code k b.schedule) ≡ a.end → reported (core code k b.schedule) ≡ b.end → is_failure wants b.end ≡ true →
    (last ≡ true → IsReached code k b) → (last ≡ false → HasEndedFirst b.end) → IsSpellable b →
    IsFinding code k wants record { answer = a; last = last; drawn = drawn }
again code k wants b a last drawn same ends is unwanted stays has spelled =
    let end : a.end ≡ b.end = sym ends ∙ is in
    record {
      reached = ap (λ s. reported (core code k s)) same ∙ ends;
      unwanted = ap (is_failure wants) end ∙ unwanted;
      last = λ h. record {
        reached = ap (λ s. reported (core code k s)) same ∙ ends;
        settled = subst (λ s. IfOk (core code k s) (IsSettled k)) (sym same) (stays h).settled;
      };
      ended = λ h. subst HasEndedFirst (sym end) (has h);
      spelled = record {
        numbers = subst (λ s. All (λ f. f < 1000) s) (sym same) spelled.numbers;
        few = subst (λ s. length s ≤ 1000000) (sym same) spelled.few;
      };
    }

-- a schedule that was drawn
pub drawn_found : (code : Tree) (k : Limits) (wants : List Want) (most i : ℕ) (comings : List Coming) (c : Coming) (a : Answer) (last : Bool) →
    slice_get comings i ≡ Some c → Shows wants most c.answer last →
    All (λ (c : Coming). reported (core code k c.answer.schedule) ≡ c.answer.end) comings →
    All (λ (c : Coming). length c.answer.schedule < most → IsReached code k c.answer) comings →
    All (λ (c : Coming). IsSpellable c.answer) comings → a.schedule ≡ c.answer.schedule → reported (core code k c.answer.schedule) ≡ a.end →
    IsFinding code k wants record { answer = a; last = last; drawn = true }
drawn_found code k wants most i comings c a true there (final unwanted whole) each stays spelled same ends =
    let is = all_at (λ (c : Coming). reported (core code k c.answer.schedule) ≡ c.answer.end) comings i c there each in
    let stay = all_at (λ (c : Coming). length c.answer.schedule < most → IsReached code k c.answer) comings i c there stays in
    again code k wants c.answer a true true same ends is unwanted (λ h. reached_so code k most c.answer is stay whole) (λ h. absurd cc)
    (all_at (λ (c : Coming). IsSpellable c.answer) comings i c there spelled)
drawn_found code k wants most i comings c a false there (ended unwanted has) each stays spelled same ends =
    let is = all_at (λ (c : Coming). reported (core code k c.answer.schedule) ≡ c.answer.end) comings i c there each in
    again code k wants c.answer a false true same ends is unwanted (λ h. absurd cc) (λ h. has)
    (all_at (λ (c : Coming). IsSpellable c.answer) comings i c there spelled)

-- an exploration that is marked as ended
ended_so : (code : Tree) (k : Limits) (bounds : Bounds) (timed : Bool) (wants : List Want) (e : Exploration) → timed ≡ true →
    IsFirst code k bounds timed wants (Explored e) → IsFirst code k bounds timed wants (Explored (record e { halted = true }))
ended_so code k bounds timed wants e limited h = (
  record {
    all = h.0.all;
    each = h.0.each;
    once = h.0.once;
    stopped = λ no going. absurd (cc);
    halted = λ is. limited;
    room = h.0.room;
    spare = h.0.spare;
    short = h.0.short;
  },
  h.1,
  h.2,
)

-- a search that is complete or was ended didn't stop at a bound
no_bound : {C : Type 0} (e : Exploration) → (e.complete ≡ true) ⊎ (e.halted ≡ true) → e.complete ≡ false → e.halted ≡ false → C
no_bound e (inl whole) part going = let bad : true ≡ false = sym whole ∙ part in absurd cc
no_bound e (inr halted) part going = let bad : true ≡ false = sym halted ∙ going in absurd cc

-- an exploration within fewer worlds that is complete or was ended
pub widened : (code : Tree) (k : Limits) (fewer bounds : Bounds) (timed : Bool) (wants : List Want) (first : First) → fewer.worlds ≤ bounds.worlds →
    fewer.entries ≡ bounds.entries → fewer.memory ≡ bounds.memory → IsDecided first → IsFirst code k fewer timed wants first →
    IsFirst code k bounds timed wants first
widened code k fewer bounds timed wants (Found f) low entries memory decided h = h
widened code k fewer bounds timed wants (Explored e) low entries memory decided h = (
  record {
    all = h.0.all;
    each = h.0.each;
    once = h.0.once;
    stopped = no_bound e decided;
    halted = h.0.halted;
    room = at_most e.worlds fewer.worlds bounds.worlds low h.0.room;
    spare = λ is. subst (λ m. e.bytes < m) memory (h.0.spare is);
    short = subst (λ n. All (λ (a : Answer). length a.schedule ≤ n) e.answers) entries h.0.short;
  },
  h.1,
  h.2,
)

pub min_low : (n most : ℕ) → min n most ≤ n
min_low n most = omega arith

pub fewer_worlds : (n : ℕ) → min n 10000 ≤ min n 1000000
fewer_worlds n = omega arith

-- bounds that allow no more worlds stay as they are
same_bounds : (bounds : Bounds) (n : ℕ) → bounds.worlds ≤ n → bounds_within bounds n ≡ bounds
same_bounds bounds n low =
    let same : min bounds.worlds n ≡ bounds.worlds = omega (arith, low) in
    ap (λ (w : ℕ). record bounds { worlds = w }) same

-- the last search, within at most this number of worlds
pub last_first : (code : Tree) (k : Limits) (bounds : Bounds) (n : ℕ) (timed : Bool) (wants : List Want) (first : First) →
    IsDecided first ⊎ bounds.worlds ≤ n → IsFirst code k (bounds_within bounds n) timed wants first → IsFirst code k bounds timed wants first
last_first code k bounds n timed wants first (inl decided) h =
    widened code k (bounds_within bounds n) bounds timed wants first (min_low bounds.worlds n) refl refl decided h
last_first code k bounds n timed wants first (inr low) h = subst (λ (b : Bounds). IsFirst code k b timed wants first) (same_bounds bounds n low) h

-- the result of two searches
pub more_first : (code : Tree) (k : Limits) (fewer bounds : Bounds) (timed : Bool) (wants : List Want) (before later result : First) →
    fewer.worlds ≤ bounds.worlds → fewer.entries ≡ bounds.entries → fewer.memory ≡ bounds.memory → IsOfMore before later result →
    IsFirst code k fewer timed wants before → IsFirst code k bounds timed wants later → IsFirst code k bounds timed wants result
more_first code k fewer bounds timed wants before later result low entries memory (inl same) h last =
    subst (λ (f : First). IsFirst code k bounds timed wants f) (sym same) last
more_first code k fewer bounds timed wants before later result low entries memory (inr of) h last =
    let e = of.0 in
    let first : IsFirst code k fewer timed wants (Explored e) = subst (λ (f : First). IsFirst code k fewer timed wants f) of.2 h in
    let ended : IsFirst code k bounds timed wants (Explored of.1) = subst (λ (f : First). IsFirst code k bounds timed wants f) of.3 last in
    let limited : timed ≡ true = ended.0.halted of.4 in
    subst (λ (f : First). IsFirst code k bounds timed wants f) (sym of.5)
    (widened code k fewer bounds timed wants (Explored (record e { halted = true })) low entries memory (inr refl)
    (ended_so code k fewer timed wants e limited first))
