-- Schedules that are drawn entry by entry.
use Rattle.std.proofs.Common.{◌≡◌, ◌⊎◌, inl, inr, ℕ, ◌+◌, ◌<◌, ◌≤◌, List, [], ◌∷◌, ◌++◌, length, Bool, Option, Some, Result, Ok, Err, IfOk, IfErr, OnOk, sym, ap, ◌∙◌, subst, arith}
use Rattle.std.{proofs.{Common.length-append, lemmas.List.Elements.All-push}, specs.List.{All, fold}}
use Rattle.derived_ops.specs.Tree.{Tree}
use Rattle.cell_registry.specs.declared.limits.{Limits.Limits, RunError.RunError}
use Rattle.scheduled_core.specs.{declared.report.FiberReport.FiberReport, Core.{World, core, entered, first_world, reported}, Finals.IsFinal}
use Rattle.scheduled_core.proofs.Finality.{final_stays, fold_parts}
use Rattle.sampled_schedules.specs.Private.Walking.{IsWalk, came, was_walked}
use Rattle.cell_registry.specs.declared.limits.RunError.TheVariants as run

-- one more entry
core_more : (code : Tree) (k : Limits) (s : List ℕ) (f : ℕ) (x y : Result World RunError) → core code k s ≡ x → entered k x f ≡ y →
    core code k (s ++ f ∷ []) ≡ y
unfolding core
core_more code k s f x y before here = fold_parts k (Ok (first_world code k)) s (f ∷ []) ∙ ap (λ (z : Result World RunError). entered k z f) before ∙ here

one_walked : (k : Limits) (w : World) (x : Result World RunError) (before after : List ℕ) (f : ℕ) → after ≡ before ++ f ∷ [] → f < 1000 →
    entered k (Ok w) f ≡ x → IsWalk k w before x after 1
one_walked k w x before after f is low here = record {
  leads = λ code h. subst (λ (s : List ℕ). core code k s ≡ x) (sym is) (core_more code k before f (Ok w) x h here);
  numbers = λ h. subst (All (λ n. n < 1000)) (sym is) (All-push (λ n. n < 1000) before f h low);
  short = let long : length (before ++ f ∷ []) ≡ length before + 1 = length-append before (f ∷ []) in
      let same : length after ≡ length (before ++ f ∷ []) = ap length is in
      omega arith;
}

pub entry_walked : {A : Type 0} (k : Limits) (w v : World) (result : Result A RunError) (before after : List ℕ) (f : ℕ) → after ≡ before ++ f ∷ [] → f < 1000 →
    OnOk result (entered k (Ok w) f ≡ Ok v) → IfErr result (λ e. (e ≡ run.NoMemory) ⊎ (entered k (Ok w) f ≡ Err e)) →
    (result ≡ Err run.NoMemory) ⊎ IsWalk k w before (came result v) after 1
entry_walked k w v (Ok x) before after f is low goes stops = inr (one_walked k w (Ok v) before after f is low goes)
entry_walked k w v (Err e) before after f is low goes stops = elim stops [
  | inl q ↦ inl (ap Err q)
  | inr q ↦ inr (one_walked k w (Err e) before after f is low q)
]

-- further entries after those so far
on : (k : Limits) (w v : World) (x : Result World RunError) (a b c : List ℕ) (m n most : ℕ) → IsWalk k w a (Ok v) b m → IsWalk k v b x c n →
    m + n ≤ most → IsWalk k w a x c most
on k w v x a b c m n most first next room = record {
  leads = λ code h. next.leads code (first.leads code h);
  numbers = λ h. next.numbers (first.numbers h);
  short = let one = first.short in let other = next.short in omega arith;
}

-- memory ran out, or the entries are a walk
abbrev pub IsWalkOr : {A : Type 0} → Result A RunError → Limits → World → List ℕ → World → List ℕ → ℕ → Type 0
IsWalkOr r k w before x after most = (r ≡ Err run.NoMemory) ⊎ IsWalk k w before (came r x) after most

pub further : {A : Type 0} (r : Result A RunError) (k l : Limits) (w v x : World) (a b c : List ℕ) (m n most : ℕ) → l ≡ k → IsWalk k w a (Ok v) b m →
    IsWalkOr r l v b x c n → m + n ≤ most → IsWalkOr r k w a x c most
further r k l w v x a b c m n most same first next room = elim next [
  | inl lacks ↦ inl lacks
  | inr goes ↦ inr (on k w v (came r x) a b c m n most first (subst (λ (l : Limits). IsWalk l v b (came r x) c n) same goes) room)
]

-- an error stays the same with another type of values
error_of : {A : Type 0} → Result A RunError → RunError
error_of (Ok a) = run.NoMemory
error_of (Err e) = e

pub erred : {A B : Type 0} (e : RunError) (k : Limits) (w x : World) (a c : List ℕ) (n : ℕ) → IsWalkOr {A = A} (Err e) k w a x c n →
    IsWalkOr {A = B} (Err e) k w a x c n
unfolding error_of
erred e k w x a c n (inl lacks) = inl (ap Err (ap error_of lacks))
erred e k w x a c n (inr goes) = inr goes

-- without an error, memory didn't run out
pub went : {A : Type 0} (d : A) (k : Limits) (w x : World) (a c : List ℕ) (n : ℕ) → IsWalkOr (Ok d) k w a x c n → IsWalk k w a (Ok x) c n
went d k w x a c n h = elim h [ inl lacks ↦ absurd (cc) | inr goes ↦ goes ]

pub started : (k : Limits) (w : World) (a : List ℕ) (most : ℕ) → IsWalk k w a (Ok w) a most
started k w a most = record { leads = λ code h. h; numbers = λ h. h; short = omega arith }

-- a walk makes at most `most` entries, if its list is at most this much longer
pub within : (k : Limits) (w : World) (x : Result World RunError) (a c : List ℕ) (n most : ℕ) → IsWalk k w a x c n → length c ≤ length a + most →
    IsWalk k w a x c most
within k w x a c n most walk room = record { leads = walk.leads; numbers = walk.numbers; short = room }

-- no further entries change the report
abbrev pub Stays : Limits → World → Type 0
Stays k w = (s : List ℕ) → reported (fold (entered k) (Ok w) s) ≡ reported (Ok w)

pub final_stays_so : (k : Limits) (w : World) → IsFinal w → Stays k w
final_stays_so k w h = λ s.
    let it = final_stays k w s h in
    ap reported it.is ∙ ap (λ (fs : List FiberReport). Ok record { fibers = fs }) it.reports

-- a drawing that nothing ended walks as its result says
pub walked_whole : (r : Result Bool RunError) (k : Limits) (w x : World) (a c : List ℕ) (n : ℕ) → IsWalkOr (was_walked r) k w a x c n →
    IsWalkOr r k w a x c n
walked_whole (Ok cut) k w x a c n h = elim h [ inl lacks ↦ absurd (cc) | inr goes ↦ inr goes ]
walked_whole (Err e) k w x a c n h = erred {A = Option Bool} {B = Bool} e k w x a c n h

pub ended_whole : (P : Type 0) (b : Bool) (r : Result Bool RunError) → IfOk (was_walked r) (λ o. o ≡ Some b → P) →
    IfOk r (λ cut. cut ≡ b → P)
ended_whole P b (Ok cut) h = λ is. h (ap Some is)
ended_whole P b (Err e) h = tt
