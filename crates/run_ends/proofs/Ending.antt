-- Fibers that were gathered go on beside the registry that their run leaves.
use Rattle.std.proofs.Common.{◌≡◌, ℕ, ◌+◌, List, [], ◌∷◌, ◌++◌, length, map, Option, None, Some, Ok, Err, fold, ◌⊎◌, inl, inr, refl, sym, ap, ◌∙◌, subst}
use Rattle.std.{proofs.lemmas.List.{length-append, Sums.fold-append}, specs.List.slice_get}
use Rattle.derived_ops.specs.Tree.{Tree}
use Rattle.fiber_frames.specs.Fiber.{Fiber}
use Rattle.cell_registry.specs.{declared.limits.{Limits.Limits, RunError.RunError}, Histories.left, Passes.{PassView, RegistryView}, Plain.IsLeftPlain}
use Rattle.cell_registry.specs.Plain.{PlainView}
use Rattle.scheduled_core.specs.{declared.report.Report.Report, Core.{World, core, entered, fiber_report, first_world}, Finals.{IsFinal, IsFinalReport}}
use Rattle.scheduled_core.specs.{Finals.IsStopped, Fitting.{AllFit, Fits, cell_registered, world_of}, Spending.{AreSpent, IsSpentReport, SpendsMany}}
use Rattle.scheduled_core.{specs.Stands.{IsOfSomeSchedule, Stands}, proofs.Continuing.{all_gathered, final_of, fits_longer, leads_on, schedule_of, some_report}}
use Rattle.scheduled_core.proofs.Standing.{Lists.{get_early, get_last}, AfterATurn.stands-longer}
use Rattle.fiber_poll.specs.Tasks.{IsBroken}
use Rattle.run_ends.specs.{declared.finishing.RunEnd.RunEnd, Ends.{IsEnd, IsFaultOfSomeSchedule, IsRunFault, TellsUnended}, Leaving.FinishesLeft}
use Rattle.run_ends.{specs.{Leaving.Gathered, Private.Gathered.{AreInOrder, IsIn}}, proofs.{Lining.reported_at, Meeting.last_or}}
use Rattle.cell_registry.specs.declared.limits.RunError.TheVariants as fault

-- where nobody has stopped the report is final, else it tells who is unended
pub final_or_unended : (o : Option ℕ) (F : Type 0) (U : ℕ → Type 0) → (o ≡ None → F) → ((f : ℕ) → o ≡ Some f → U f) → F ⊎ ((f : ℕ) × U f)
final_or_unended None F U final stopped = inl (final refl)
final_or_unended (Some f) F U final stopped = inr (f, stopped f refl)

-- ---- the states in order
-- the next one is taken from the end of what is left
pub next_in_order : (all now rest : List Fiber) (s : Fiber) (n : ℕ) (fibers later : List Fiber) →
    ((i : ℕ) (t : Fiber) → slice_get now i ≡ Some t → slice_get all i ≡ Some t)
    → now ≡ rest ++ s ∷ [] → AreInOrder all n fibers → s.number ≡ n → (IsBroken s → ⊥) → later ≡ fibers ++ s ∷ [] → AreInOrder all (n + 1) later
next_in_order all now rest s n fibers later still is order number whole later_is = record {
  many = ap length later_is ∙ length-append fibers (s ∷ []) ∙ ap (λ m. m + 1) order.many;
  each = λ f t e. elim (last_or fibers s f t (subst (λ (l : List Fiber). slice_get l f ≡ Some t) later_is e)) [
    | inl h ↦ order.each f t h
    | inr h ↦ subst (λ (x : Fiber). IsIn x all f × (IsBroken x → ⊥)) (sym h.1) (
      record {
        number = number ∙ sym order.many ∙ sym h.0;
        place = length rest;
        here = still (length rest) s (subst (λ (l : List Fiber). slice_get l (length rest) ≡ Some s) (sym is) (get_last rest (length rest) s refl));
      },
      whole,
    )
  ];
}

-- and what is left then is of these states, too
pub still_left : (all now rest : List Fiber) (s : Fiber) → ((i : ℕ) (t : Fiber) → slice_get now i ≡ Some t → slice_get all i ≡ Some t) →
    now ≡ rest ++ s ∷ [] → (i : ℕ) (t : Fiber) → slice_get rest i ≡ Some t → slice_get all i ≡ Some t
still_left all now rest s still is i t e = still i t (subst (λ (l : List Fiber). slice_get l i ≡ Some t) (sym is) (get_early rest (s ∷ []) i t e))

-- ---- the end of a run
module _ (r : RegistryView) (code : Tree) (most : ℕ) (met : PassView) (configs fibers : List Fiber) (rests : List ℕ) (born : ℕ) (plain : PlainView)
    (g : Gathered r code most met configs rests) (l : IsLeftPlain r.limits met.fibers met.seen plain) (o : AreInOrder configs born fibers)
    (all : born ≡ plain.state.next_fiber) where
  -- the whole history leaves each fiber where it stands
  each : (f : ℕ) (s : Fiber) → slice_get fibers f ≡ Some s → (rest : ℕ) × (slice_get rests f ≡ Some rest) × Stands code most l.history f s rest ×
      Fits (cell_registered (left r.limits l.history) f) s
  each f s e =
      let i = o.each f s e in
      let here = g.at i.0.place s i.0.here in
      let m = here.2 in
      let fits : Fits (cell_registered (left met.registry.limits met.seen) s.number) s = elim m.fits [ inl b ↦ absurd (i.1 b) | inr h ↦ h ] in
      let limits : met.registry.limits ≡ r.limits = ap (λ (x : RegistryView). x.limits) g.home in
      let all = subst (λ n. (slice_get rests n ≡ Some here.0) × Stands code most l.history n s here.0 × Fits (cell_registered (left r.limits l.history) n) s)
      i.0.number (
        here.1,
        stands-longer code most s.number met.seen l.history s here.0 l.begins (l.own s.number m.own) m.stands,
        fits_longer r.limits met.seen l.history s.number s l.begins (l.own s.number m.own)
            (subst (λ (k : Limits). Fits (cell_registered (left k met.seen) s.number) s) limits fits),
      ) in
      (here.0, all.0, all.1, all.2)

  many : length fibers ≡ (left r.limits l.history).next_fiber
  many = o.many ∙ all ∙ ap (λ (v : PlainView). v.state.next_fiber) l.plain

  -- so entries can follow
  pub gathered_fits : AllFit (world_of fibers plain.state)
  gathered_fits = subst (λ (v : PlainView). AllFit (world_of fibers v.state)) (sym l.plain)
      (all_gathered r.limits l.history fibers l.legal many (λ f s e. (each f s e).3))

  module _ (after : World) (lasts : List ℕ) (it : RunEnd) (even : length rests ≡ length fibers)
      (goes : SpendsMany plain.limits (world_of fibers plain.state) rests it.finished after lasts)
      (is : it.report ≡ record { fibers = map fiber_report after.fibers }) where
    from : SpendsMany r.limits (world_of fibers (left r.limits l.history)) rests it.finished after lasts
    from = subst (λ (v : PlainView). SpendsMany v.limits (world_of fibers v.state) rests it.finished after lasts) l.plain goes

    -- and where they lead is the end of a run
    pub end_of : AreSpent after lasts → (it.stopped ≡ None → IsFinal after) →
        ((f : ℕ) → it.stopped ≡ Some f → IsStopped after.fibers lasts f) → IsEnd code r.limits most it
    end_of spent final stopped =
        let spends = leads_on code most r.limits l.history fibers rests after lasts l.legal many even
        (λ f s e. let i = each f s e in (i.0, i.1, i.2)) (from.entries, from.spends) in
        let leads = schedule_of code most r.limits after lasts spends in record {
          schedule = subst (λ (x : Report). IsOfSomeSchedule code r.limits x) (sym is) (some_report code r.limits after leads);
          spent = subst (λ (x : Report). IsSpentReport code r.limits most x) (sym is) record {
            world = after;
            lefts = lasts;
            spends = spends;
            spent_all = spent;
            reports = refl;
          };
          complete = λ e. subst (λ (x : Report). IsFinalReport code r.limits x) (sym is) (final_of code r.limits after leads (final e));
          stopped = λ f e.
              let s = stopped f e in
              subst (λ (x : Report). TellsUnended x f) (sym is) record {
                line = fiber_report s.fiber;
                here = reported_at after.fibers f s.fiber s.here;
                unended = s.unended;
              };
        }

    -- by the moves that are told
    pub finishes : FinishesLeft r.limits met configs rests it
    finishes = record {
      before = world_of fibers (left r.limits l.history);
      is_left = record {
        states = λ f s e. let i = o.each f s e in (i.0.number, (i.0.place, i.0.here));
        history = l.history;
        legal = l.legal;
        begins = l.begins;
        cells_are = refl;
      };
      after = after;
      lasts = lasts;
      spends = from;
      reports = ap Ok (sym is);
    }

  -- a call that is refused behind entries from there is refused so under a schedule
  pub refused_there : length rests ≡ length fibers → (entries : List ℕ) (e : RunError) →
      fold (entered plain.limits) (Ok (world_of fibers plain.state)) entries ≡ Err e → IsFaultOfSomeSchedule code r.limits e
  unfolding core
  refused_there even entries e stops =
      let here = leads_on code most r.limits l.history fibers rests (world_of fibers (left r.limits l.history)) rests l.legal many even
      (λ f s e. let i = each f s e in (i.0, i.1, i.2)) ([], (refl, refl)) in
      let leads = schedule_of code most r.limits (world_of fibers (left r.limits l.history)) rests here in
      let stops_there : fold (entered r.limits) (Ok (world_of fibers (left r.limits l.history))) entries ≡ Err e =
      subst (λ (v : PlainView). fold (entered v.limits) (Ok (world_of fibers v.state)) entries ≡ Err e) l.plain stops in (
        leads.0 ++ entries,
        fold-append (entered r.limits) (Ok (first_world code r.limits)) leads.0 entries ∙
            ap (λ x. fold (entered r.limits) x entries) leads.1 ∙ stops_there,
      )

-- ---- faults
pub core_fault : (code : Tree) (k : Limits) (e : RunError) → IsFaultOfSomeSchedule code k e → IsRunFault code k e
core_fault code k (fault.Full band n) h = h
core_fault code k (fault.Spent f) h = h
core_fault code k fault.NoMemory h = tt
core_fault code k (fault.Lost f) h = tt
core_fault code k fault.NoWorker h = tt

pub no_memory_fault : (code : Tree) (k : Limits) (e : RunError) → e ≡ fault.NoMemory → IsRunFault code k e
no_memory_fault code k e is = rw is tt
