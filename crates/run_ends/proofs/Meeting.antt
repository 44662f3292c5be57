-- Passes that meet, and where the fibers of their tasks stand.
use Rattle.std.proofs.Common.{◌≡◌, ℕ, zero, suc, ◌+◌, ◌<◌, List, [], ◌∷◌, ◌++◌, length, get_or, All, ◌⊎◌, inl, inr, Some, Ok, refl, sym, ap, ◌∙◌, subst, arith}
use Rattle.std.{proofs.lemmas.Option.same_Some, specs.List.slice_get}
use mathlib.Core.List.{IsPrefix}
use Rattle.derived_ops.specs.Tree.{Tree}
use Rattle.fiber_frames.specs.Fiber.{Fiber}
use Rattle.cell_registry.specs.{declared.limits.Limits.Limits, Histories.{IsLegal, calls_by, left}, Passes.{Counts, IsPass, Meets, PassView, RegistryView}}
use Rattle.cell_registry.specs.Rule.{Has}
use Rattle.scheduled_core.specs.{declared.report.FiberReport.FiberReport, Core.reported, Fitting.{Fits, cell_registered, world_of}, Stands.IsOfSomeSchedule}
use Rattle.scheduled_core.{specs.Stands.Stands, proofs.{Continuing.{fits_longer, fits_pass, schedule_of}, Standing.{Lists.get_last, AfterATurn.stands-longer}}}
use Rattle.scheduled_core.proofs.Standing.Schedules.{some_schedules}
use Rattle.fiber_poll.specs.Tasks.{IsTask, IsTaskOf, TaskView}
use Rattle.run_ends.specs.{Leaving.{Gathered, IsMet}, Private.Gathered.{AreLines, AreMet, AreRests, IsAtHome}}

pub has-left : (xs ys : List ℕ) (f : ℕ) → Has xs f → Has (xs ++ ys) f
has-left [] ys f h = absurd h
has-left (x ∷ xs) ys f (inl e) = inl e
has-left (x ∷ xs) ys f (inr h) = inr (has-left xs ys f h)

pub has-right : (xs ys : List ℕ) (f : ℕ) → Has ys f → Has (xs ++ ys) f
has-right [] ys f h = h
has-right (x ∷ xs) ys f h = inr (has-right xs ys f h)

pub last_or : {A : Type 0} (xs : List A) (a : A) (i : ℕ) (x : A) → slice_get (xs ++ a ∷ []) i ≡ Some x → (slice_get xs i ≡ Some x) ⊎ ((i ≡ length xs) × (x ≡ a))
last_or [] a zero x e = inr (refl, sym (same_Some a x e))
last_or [] a (suc i) x e = inl e
last_or (y ∷ xs) a zero x e = inl e
last_or (y ∷ xs) a (suc i) x e = elim (last_or xs a i x e) [ inl h ↦ inl h | inr h ↦ inr (ap suc h.0, h.1) ]

-- what one task brings
own_at : (code : Tree) (most : ℕ) (t : TaskView) (r : RegistryView) → IsTaskOf r code most t → IsTask t → IsMet code most t.pass t.moves t.state
own_at code most t r i k = record {
  own = subst (Has t.pass.fibers) (sym k.number) k.pass.own;
  stands = subst (λ n. Stands code most t.pass.seen n t.state t.moves) (sym k.number) i.stands;
  fits = elim k.fits [
    | inl b ↦ inl b
    | inr f ↦ inr (subst (λ n. Fits (cell_registered (left t.pass.registry.limits t.pass.seen) n) t.state) (sym k.number) (fits_pass t.pass t.state k.pass f))
  ];
}

-- and still does where the pass has seen more, without a call of the fiber
met_longer : (code : Tree) (most : ℕ) (p q : PassView) (rest : ℕ) (s : Fiber) → q.registry ≡ p.registry → Has q.fibers s.number →
    IsPrefix p.seen q.seen → calls_by s.number q.seen ≡ calls_by s.number p.seen → IsMet code most p rest s → IsMet code most q rest s
met_longer code most p q rest s home own seen calls m = record {
  own = own;
  stands = stands-longer code most s.number p.seen q.seen s rest seen calls m.stands;
  fits = elim m.fits [
    | inl b ↦ inl b
    | inr f ↦ inr (subst (λ (x : RegistryView). Fits (cell_registered (left x.limits q.seen) s.number) s) (sym home)
        (fits_longer p.registry.limits p.seen q.seen s.number s seen calls f))
  ];
}

-- these tasks are among all
abbrev pub Still : List TaskView → List TaskView → Type 0
Still all rest = (i : ℕ) (t : TaskView) → slice_get rest i ≡ Some t → slice_get all i ≡ Some t

gathered-one : (r : RegistryView) (code : Tree) (most : ℕ) (all : List TaskView) (j : ℕ) (t : TaskView) → slice_get all j ≡ Some t →
    IsTaskOf r code most t → IsTask t → AreMet r code most all t.pass (t.state ∷ [])
gathered-one r code most all j t here i k = record { home = k.here ∙ i.home; pass = k.pass; at = one }
  where
    one : (n : ℕ) (s : Fiber) → slice_get (t.state ∷ []) n ≡ Some s → (j : ℕ) × (u : TaskView) × (slice_get all j ≡ Some u) × (u.state ≡ s) ×
        IsMet code most t.pass u.moves s
    one zero s e =
        let same = same_Some t.state s e in
        (j, t, here, same, subst (IsMet code most t.pass t.moves) same (own_at code most t r i k))
    one (suc n) s e = absurd (cc)

gathered-more : (r : RegistryView) (code : Tree) (most : ℕ) (all : List TaskView) (met : PassView) (configs : List Fiber) (place : ℕ) (t : TaskView)
    (q : PassView) → slice_get all place ≡ Some t → AreMet r code most all met configs → IsTaskOf r code most t → IsTask t → Meets met t.pass q →
    IsPass q → AreMet r code most all q (configs ++ t.state ∷ [])
gathered-more r code most all met configs place t q here g i k m lawful =
    let home : q.registry ≡ met.registry = ap (λ (x : PassView). x.registry) m.same in
    let fibers : q.fibers ≡ met.fibers ++ t.pass.fibers = ap (λ (x : PassView). x.fibers) m.same in record {
      home = home ∙ g.home;
      pass = lawful;
      at = λ j s e. elim (last_or configs t.state j s e) [
        | inl h ↦
            let old = g.at j s h in (
              old.0,
              old.1,
              old.2,
              old.3,
              met_longer code most met q old.1.moves s home
                  (subst (λ (l : List ℕ). Has l s.number) (sym fibers) (has-left met.fibers t.pass.fibers s.number old.4.own))
                  m.first (m.own s.number old.4.own) old.4,
            )
        | inr h ↦
            let mine = own_at code most t r i k in (
              place,
              t,
              here,
              sym h.1,
              subst (IsMet code most q t.moves) (sym h.1)
                  (met_longer code most t.pass q t.moves t.state (home ∙ g.home ∙ sym (k.here ∙ i.home))
                  (subst (λ (l : List ℕ). Has l t.state.number) (sym fibers) (has-right met.fibers t.pass.fibers t.state.number mine.own))
                  m.second (m.other t.state.number mine.own) mine),
            )
      ];
    }

-- numbers that are known of each of these states, as a list
collected : (P : ℕ → Fiber → ℕ → Type 0) (x : Fiber) (xs : List Fiber) (first : ℕ) (rest : List ℕ) → P zero x first →
    ((f : ℕ) (g : Fiber) → slice_get xs f ≡ Some g → (n : ℕ) × (slice_get rest f ≡ Some n) × P (suc f) g n) →
    (f : ℕ) (g : Fiber) → slice_get (x ∷ xs) f ≡ Some g → (n : ℕ) × (slice_get (first ∷ rest) f ≡ Some n) × P f g n
collected P x xs first rest p each zero g e = (first, refl, subst (λ (y : Fiber). P zero y first) (same_Some x g e) p)
collected P x xs first rest p each (suc f) g e = each f g e

collect : (P : ℕ → Fiber → ℕ → Type 0) (xs : List Fiber) → ((f : ℕ) (g : Fiber) → slice_get xs f ≡ Some g → (n : ℕ) × P f g n) →
    (ns : List ℕ) × (length ns ≡ length xs) × ((f : ℕ) (g : Fiber) → slice_get xs f ≡ Some g → (n : ℕ) × (slice_get ns f ≡ Some n) × P f g n)
collect P [] h = ([], refl, λ f g e. absurd (cc))
collect P (x ∷ xs) h =
    let first = h zero x refl in
    let rest = collect (λ f. P (suc f)) xs (λ f. h (suc f)) in
    (first.0 ∷ rest.0, ap suc rest.1, collected P x xs first.0 rest.0 first.1 rest.2)

-- what the states give is the report of some schedule
pub gathered_report : (r : RegistryView) (code : Tree) (most : ℕ) (all : List TaskView) (met : PassView) (configs : List Fiber) (n : ℕ) (q : PassView)
    (lines : List FiberReport) → AreMet r code most all met configs → Counts met n q → AreLines configs n lines →
    IsOfSomeSchedule code r.limits record { fibers = lines }
gathered_report r code most all met configs n q lines g c a =
    let limits : met.registry.limits ≡ r.limits = ap (λ (x : RegistryView). x.limits) g.home in
    let legal : IsLegal r.limits q.seen = subst (λ (k : Limits). IsLegal k q.seen) limits c.look.legal in
    let next : (left r.limits q.seen).next_fiber ≡ n = subst (λ (k : Limits). (left k q.seen).next_fiber ≡ n) limits c.next in
    let each : (f : ℕ) (s : Fiber) → slice_get a.finals f ≡ Some s → (rest : ℕ) × Stands code most q.seen f s rest = λ f s e.
    let i = a.each f s e in
    let old = g.at i.place s i.here in (
      old.1.moves,
      subst (λ (x : ℕ). Stands code most q.seen x s old.1.moves) i.number
          (stands-longer code most s.number met.seen q.seen s old.1.moves c.look.seen (c.look.own s.number old.4.own) old.4.stands),
    ) in
    let rests = collect (λ f s rest. Stands code most q.seen f s rest) a.finals each in
    let some = schedule_of code most r.limits (world_of a.finals (left r.limits q.seen)) rests.0
    (some_schedules code most r.limits q.seen a.finals rests.0 legal (a.many ∙ sym next) rests.1 rests.2) in
    (some.0, ap reported some.1 ∙ ap (λ (l : List FiberReport). Ok record { fibers = l }) (sym a.lines_are))

-- ---- the last task, and the rest
front_at : {A : Type 0} (xs : List A) (a : A) (P : A → Type 0) → ((k : ℕ) (d : A) → k < length (xs ++ a ∷ []) → P (get_or (xs ++ a ∷ []) k d)) →
    (k : ℕ) (d : A) → k < length xs → P (get_or xs k d)
front_at [] a P h k d l = absurd (omega arith)
front_at (x ∷ xs) a P h zero d l = h 0 d (omega arith)
front_at (x ∷ xs) a P h (suc k) d l = front_at xs a P (λ j e m. h (suc j) e (omega arith)) k d (omega arith)

back_at : {A : Type 0} (xs : List A) (a : A) (P : A → Type 0) → ((k : ℕ) (d : A) → k < length (xs ++ a ∷ []) → P (get_or (xs ++ a ∷ []) k d)) → P a
back_at [] a P h = h 0 a (omega arith)
back_at (x ∷ xs) a P h = back_at xs a P (λ j e m. h (suc j) e (omega arith))

parts : (P : TaskView → Type 0) (all rest : List TaskView) (t : TaskView) → All P all → all ≡ rest ++ t ∷ [] → P t × All P rest
parts P all rest t each is =
    let each_of : All P (rest ++ t ∷ []) = subst (λ (l : List TaskView). All P l) is each in
    (back_at rest t P each_of, front_at rest t P each_of)

-- where all tasks are of the code, the pass met those of these states, and the rest of them are of it too
abbrev pub Meets_all : RegistryView → List TaskView → PassView → List Fiber → List TaskView → Type 0
Meets_all r all met configs rest = (code : Tree) (most : ℕ) → All (IsTaskOf r code most) all → AreMet r code most all met configs ×
    All (IsTaskOf r code most) rest

pub each_home : (r : RegistryView) (code : Tree) (most : ℕ) (all : List TaskView) → All (IsTaskOf r code most) all → All (IsAtHome r) all
each_home r code most all each = λ k d less. (each k d less).home

-- the last one of these is among them
last_here : (now rest : List TaskView) (t : TaskView) → now ≡ rest ++ t ∷ [] → slice_get now (length rest) ≡ Some t
last_here now rest t is = subst (λ (l : List TaskView). slice_get l (length rest) ≡ Some t) (sym is) (get_last rest (length rest) t refl)

module _ (r : RegistryView) (now rest : List TaskView) (t : TaskView) (home : All (IsAtHome r) now) (is : now ≡ rest ++ t ∷ []) (k : IsTask t) where
  pub home_of : All (IsAtHome r) rest
  home_of = (parts (IsAtHome r) now rest t home is).1

  module _ (pass : PassView) (state : Fiber) (pass_is : pass ≡ t.pass) (state_is : state ≡ t.state) where
    pub pass_here : pass.registry ≡ r
    pass_here = ap (λ (x : PassView). x.registry) pass_is ∙ k.here ∙ (parts (IsAtHome r) now rest t home is).0

    -- the first task
    pub meets_first : (later : List Fiber) → later ≡ [] ++ state ∷ [] → Meets_all r now pass later rest
    meets_first later later_is = λ code most each.
        let both = parts (IsTaskOf r code most) now rest t each is in
        let one = gathered-one r code most now (length rest) t (last_here now rest t is) both.0 k in
        let same : t.state ∷ [] ≡ later = ap (λ (s : Fiber). s ∷ []) (sym state_is) ∙ sym later_is in (
          subst (λ (l : List Fiber). AreMet r code most now pass l) same
              (subst (λ (x : PassView). AreMet r code most now x (t.state ∷ [])) (sym pass_is) one),
          both.1,
        )

    -- one task more
    pub meets_more : (all : List TaskView) (met q : PassView) (configs later : List Fiber) → Still all now → Meets_all r all met configs now →
        Meets met pass q → IsPass q → later ≡ configs ++ state ∷ [] → Meets_all r all q later rest
    meets_more all met q configs later still g met_is lawful later_is = λ code most each.
        let before = g code most each in
        let both = parts (IsTaskOf r code most) now rest t before.1 is in
        let one : Meets met t.pass q = subst (λ (x : PassView). Meets met x q) pass_is met_is in
        let here = still (length rest) t (last_here now rest t is) in
        let longer : AreMet r code most all q (configs ++ t.state ∷ []) =
        gathered-more r code most all met configs (length rest) t q here before.0 both.0 k one lawful in
        let same : configs ++ t.state ∷ [] ≡ later = ap (λ (s : Fiber). configs ++ s ∷ []) (sym state_is) ∙ sym later_is in
        (subst (λ (l : List Fiber). AreMet r code most all q l) same longer, both.1)

-- ---- what is left of a run, by numbers
at_length : (xs : List TaskView) (i : ℕ) (t : TaskView) → slice_get xs i ≡ Some t → i < length xs
at_length [] i t e = absurd (cc)
at_length (x ∷ xs) zero t e = omega arith
at_length (x ∷ xs) (suc i) t e = let less = at_length xs i t e in omega arith

pub left_by_number : (r : RegistryView) (code : Tree) (most : ℕ) (all : List TaskView) (met : PassView) (configs : List Fiber) (rests : List ℕ) →
    AreMet r code most all met configs → AreRests all rests → Gathered r code most met configs rests
left_by_number r code most all met configs rests g l = record {
  home = g.home;
  pass = g.pass;
  at = λ i s e.
      let o = g.at i s e in
      let t = l.each o.0 o.1 (at_length all o.0 o.1 o.2) o.2 in
      let place : o.0 ≡ s.number = sym t.0 ∙ ap (λ (x : Fiber). x.number) o.3 in
      (o.1.moves, subst (λ n. slice_get rests n ≡ Some o.1.moves) place t.1, o.4);
}
