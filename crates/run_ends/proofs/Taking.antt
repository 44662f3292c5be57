-- Tasks that are taken apart, one after another.
use Rattle.std.proofs.Common.{◌≡◌, ℕ, ◌<◌, ◌⊎◌, List, [], ◌∷◌, ◌++◌, length, inl, inr, Some, refl, sym, ap, ◌∙◌, subst, append_assoc, append-nil}
use Rattle.std.specs.List.{slice_get}
use mathlib.Core.List.{IsPrefix}
use Rattle.fiber_frames.specs.Fiber.{Fiber}
use Rattle.cell_registry.specs.{Histories.{calls_by, left}, Passes.{Counts, IsPass, Meets, OnlySees, PassView, RegistryView}, Rule.Has}
use Rattle.scheduled_core.{specs.{declared.report.FiberReport.FiberReport, Core.fiber_report}, proofs.Standing.Lists.{get_early, get_last}}
use Rattle.fiber_poll.specs.Tasks.{IsTask, TaskView}
use Rattle.run_ends.{specs.{Private.Gathered.{AreLines, IsLeast, IsOut, Taken}, Gathering.{IsMissing, TellsEach, TellsNoOther}}, proofs.Lining.found}
use Rattle.run_ends.proofs.{Lining.{report_of, reported_at}, Meeting.{has-left, has-right, last_or}}

prefix_join : {A : Type 0} (x y z : List A) → IsPrefix x y → IsPrefix y z → IsPrefix x z
prefix_join x y z p q = (p.0 ++ q.0, sym (append_assoc x p.0 q.0) ∙ ap (λ w. w ++ q.0) p.1 ∙ q.1)

-- no task is taken yet
none_taken : (all : List TaskView) (met : PassView) → Taken all all met []
none_taken all met = record {
  still = λ i t e. e;
  out = λ i t e. inl e;
  from = λ j s e. absurd (cc);
  has = λ j s e. absurd (cc);
  apart = λ i j s t e d number. absurd (cc);
}

-- a pass that goes on from one that has met others, and from the task's own: no fiber of these has a further call
pub record GoesOnFrom (met : PassView) (t : TaskView) (q : PassView) : Type 0 where
  pub old : IsPrefix met.seen q.seen
  pub new : IsPrefix t.pass.seen q.seen
  pub keeps : (f : ℕ) → Has met.fibers f → Has q.fibers f × (calls_by f q.seen ≡ calls_by f met.seen)
  pub own : Has q.fibers t.state.number × (calls_by t.state.number q.seen ≡ calls_by t.state.number t.pass.seen)

-- one task more
one_taken : (all now rest : List TaskView) (t : TaskView) (met q : PassView) (configs later : List Fiber) (state : Fiber) →
    Taken all now met configs → now ≡ rest ++ t ∷ [] → state ≡ t.state → later ≡ configs ++ state ∷ [] → GoesOnFrom met t q
    → ((j : ℕ) (s : Fiber) → slice_get configs j ≡ Some s → s.number ≡ t.state.number → ⊥) → Taken all rest q later
one_taken all now rest t met q configs later state taken is state_is later_is on fresh =
    let mine : IsOut t q later = record {
      place = length configs;
      here = subst (λ (l : List Fiber). slice_get l (length configs) ≡ Some t.state) (sym later_is) (get_last configs (length configs) state refl ∙
          ap Some state_is);
      seen = on.new;
      own = on.own.1;
    } in
    let number : (s : Fiber) → s ≡ state → s.number ≡ t.state.number = λ s e. ap (λ (x : Fiber). x.number) (e ∙ state_is) in
    let last : (j : ℕ) (s : Fiber) → slice_get later j ≡ Some s → (slice_get configs j ≡ Some s) ⊎ ((j ≡ length configs) × (s ≡ state)) =
    λ j s e. last_or configs state j s (subst (λ (l : List Fiber). slice_get l j ≡ Some s) later_is e) in record {
      still = λ i x e. taken.still i x (subst (λ (l : List TaskView). slice_get l i ≡ Some x) (sym is) (get_early rest (t ∷ []) i x e));
      out = λ i x e. elim (taken.out i x e) [
        | inl h ↦ elim (last_or rest t i x (subst (λ (l : List TaskView). slice_get l i ≡ Some x) is h)) [
          | inl k ↦ inl k
          | inr k ↦ inr (subst (λ (y : TaskView). IsOut y q later) (sym k.1) mine)
        ]
        | inr h ↦ inr (record {
          place = h.place;
          here = subst (λ (l : List Fiber). slice_get l h.place ≡ Some x.state) (sym later_is) (get_early configs (state ∷ []) h.place x.state h.here);
          seen = prefix_join x.pass.seen met.seen q.seen h.seen on.old;
          own = (on.keeps x.state.number (taken.has h.place x.state h.here)).1 ∙ h.own;
        })
      ];
      from = λ j s e. elim (last j s e) [
        | inl h ↦ taken.from j s h
        | inr h ↦ (
          length rest,
          t,
          taken.still (length rest) t
              (subst (λ (l : List TaskView). slice_get l (length rest) ≡ Some t) (sym is) (get_last rest (length rest) t refl)),
          sym state_is ∙ sym h.1,
        )
      ];
      has = λ j s e. elim (last j s e) [
        | inl h ↦ (on.keeps s.number (taken.has j s h)).0
        | inr h ↦ subst (Has q.fibers) (sym (number s h.1)) on.own.0
      ];
      apart = λ i j s u e d same. elim (last i s e) [
        | inl h ↦ elim (last j u d) [
          | inl k ↦ taken.apart i j s u h k same
          | inr k ↦ absurd (fresh i s h (same ∙ number u k.1))
        ]
        | inr h ↦ elim (last j u d) [
          | inl k ↦ absurd (fresh j u k (sym same ∙ number s h.1))
          | inr k ↦ h.1 ∙ sym k.1
        ]
      ];
    }

-- the pass of a task is of its fiber
own_fiber : (t : TaskView) → IsTask t → Has t.pass.fibers t.state.number
own_fiber t k = subst (Has t.pass.fibers) (sym k.number) k.pass.own

-- the first task
pub first_taken : (all rest : List TaskView) (t : TaskView) (pass : PassView) (later : List Fiber) (state : Fiber) → all ≡ rest ++ t ∷ [] →
    state ≡ t.state → pass ≡ t.pass → later ≡ [] ++ state ∷ [] → IsTask t → Taken all rest pass later
first_taken all rest t pass later state is state_is pass_is later_is k =
    one_taken all all rest t pass pass [] later state (none_taken all pass) is state_is later_is
    record {
      old = ([], append-nil pass.seen);
      new = subst (λ (x : PassView). IsPrefix x.seen pass.seen) pass_is ([], append-nil pass.seen);
      keeps = λ f h. (h, refl);
      own = (
        subst (λ (x : PassView). Has x.fibers t.state.number) (sym pass_is) (own_fiber t k),
        ap (λ (x : PassView). calls_by t.state.number x.seen) pass_is,
      );
    }
    (λ j s e number. absurd (cc))

-- a later one, whose pass is met
pub next_taken : (all now rest : List TaskView) (t : TaskView) (pass met q : PassView) (configs later : List Fiber) (state : Fiber) →
    Taken all now met configs → now ≡ rest ++ t ∷ [] → state ≡ t.state → pass ≡ t.pass → later ≡ configs ++ state ∷ [] → IsTask t →
    Meets met pass q → Taken all rest q later
next_taken all now rest t pass met q configs later state taken is state_is pass_is later_is k meets =
    let m : Meets met t.pass q = subst (λ (x : PassView). Meets met x q) pass_is meets in
    let fibers : q.fibers ≡ met.fibers ++ t.pass.fibers = ap (λ (x : PassView). x.fibers) m.same in
    let own = own_fiber t k in
    one_taken all now rest t met q configs later state taken is state_is later_is
    record {
      old = m.first;
      new = m.second;
      keeps = λ f h. (subst (λ (l : List ℕ). Has l f) (sym fibers) (has-left met.fibers t.pass.fibers f h), m.own f h);
      own = (subst (λ (l : List ℕ). Has l t.state.number) (sym fibers) (has-right met.fibers t.pass.fibers t.state.number own), m.other t.state.number own);
    }
    (λ j s e number. m.apart s.number (taken.has j s e) (subst (Has t.pass.fibers) (sym number) own))

-- the least fiber without a state has no task
pub missing : (r : RegistryView) (all : List TaskView) (met q : PassView) (configs : List Fiber) (n f : ℕ) → met.registry ≡ r →
    Taken all [] met configs → Counts met n q → IsLeast configs n f → IsMissing r.limits all f
missing r all met q configs n f home taken c l = record {
  none = λ i t e number. elim (taken.out i t e) [ inl h ↦ absurd (let x = h in cc) | inr h ↦ l.none h.place t.state h.here number ];
  before = λ g less.
      let s = l.before g less in
      let t = taken.from s.1.place s.0 s.1.here in
      (t.0, t.1, t.2, ap (λ (x : Fiber). x.number) t.3 ∙ s.1.number);
  born = inr (record {
    history = q.seen;
    legal = subst (λ (v : RegistryView). Rattle.cell_registry.specs.Histories.IsLegal v.limits q.seen) home c.look.legal;
    seen = λ i t e. elim (taken.out i t e) [ inl h ↦ absurd (let x = h in cc) | inr h ↦ prefix_join t.pass.seen met.seen q.seen h.seen c.look.seen ];
    own = λ i t e. elim (taken.out i t e) [ inl h ↦ absurd (let x = h in cc) | inr h ↦ c.look.own t.state.number (taken.has h.place t.state h.here) ∙ h.own ];
    below = subst (λ (v : RegistryView). f < (left v.limits q.seen).next_fiber) home (subst (λ m. f < m) (sym c.next) l.below);
  });
}

-- ---- the report is that of the tasks
module _ (all : List TaskView) (met q : PassView) (configs : List Fiber) (n : ℕ) (lines : List FiberReport) (taken : Taken all [] met configs)
    (a : AreLines configs n lines) where
  pub tells_each : Counts met n q → IsPass q → OnlySees met q → TellsEach all record { fibers = lines }
  tells_each c lawful sees i t e = elim (taken.out i t e) [
    | inl h ↦ absurd (let x = h in cc)
    | inr o ↦
        let f = t.state.number in
        let mine : Has q.fibers f = subst (λ (p : PassView). Has p.fibers f) (sym sees) (taken.has o.place t.state o.here) in
        let next : (left q.registry.limits q.seen).next_fiber ≡ n = ap (λ (p : PassView). (left p.registry.limits q.seen).next_fiber) sees ∙ c.next in
        let born : f < (left q.registry.limits q.seen).next_fiber = lawful.told.next f (lawful.born f mine) in
        let low : f < length a.finals = subst (λ m. f < m) (next ∙ sym a.many) born in
        let s = found a.finals f low in
        let here = a.each f s.0 s.1 in
        let same : s.0 ≡ t.state = taken.apart here.place o.place s.0 t.state here.here o.here here.number in
        subst (λ (l : List FiberReport). slice_get l f ≡ Some (fiber_report t.state)) (sym a.lines_are) (reported_at a.finals f t.state (s.1 ∙ ap Some same))
  ]

  pub tells_no_other : TellsNoOther all record { fibers = lines }
  tells_no_other f line e =
      let s = report_of a.finals f line (subst (λ (l : List FiberReport). slice_get l f ≡ Some line) a.lines_are e) in
      let here = a.each f s.0 s.1 in
      let t = taken.from here.place s.0 here.here in
      (t.0, t.1, t.2, ap (λ (x : Fiber). x.number) t.3 ∙ here.number)
