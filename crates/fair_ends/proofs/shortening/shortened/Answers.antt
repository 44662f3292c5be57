use Rattle.std.{proofs.Common.{◌≡◌, List, ℕ, sym, ap, ◌∙◌, subst, take, Some, Ok, inl, inr}, specs.List.slice_get}
use Rattle.world_search.specs.{Lists.IsIn, Systems.run}
use Rattle.fair_ends.{specs.{Fair.IsFairCycle, Private.Tables.LeadsToWorld}, proofs.Found.if_some}
use Rattle.fair_ends.proofs.shortening.shortened.Goals as goal

pub returns-clause-cycle : goal.returns-clause-cycle
returns-clause-cycle g c = λ first at h.
    let entry = g.W.Resting.entry in
    let vs = g.W.Worlds.worlds c.walk_alone.new.worlds in
    let stem = c.args.found.stem.items in
    let cycle = c.args.found.cycle.items in
    let many = c.in_ok-many.many in
    let led : LeadsToWorld entry vs first stem c.in-Some.it =
    subst (λ (l : List ℕ). LeadsToWorld entry vs first l c.in-Some.it) c.as_slice.ensures.value
    (if_some (λ to. (x : g.row.W-World.Denot) → slice_get (g.W.Worlds.worlds c.args.worlds.now) 0 ≡ Some x → LeadsToWorld entry vs x c.as_slice.result.now to)
    c.in_ok-walk_alone.field-0 c.in-Some.it c.in-Some.is c.in_ok-walk_alone.ensures.leads first at) in
    let same : led.0 ≡ h.world = (let both : Ok led.0 ≡ Ok h.world = sym led.2 ∙ h.comes in cc) in
    let here : slice_get vs c.in-Some.it ≡ Some h.world = led.1 ∙ ap Some same in
    let returns : run entry (Ok h.world) (take many cycle) ≡ Ok h.world =
    subst (λ (l : List ℕ). run entry (Ok h.world) l ≡ Ok h.world → run entry (Ok h.world) (take many l) ≡ Ok h.world) c.as_slice-2.ensures.value
    (c.in_ok-many.ensures.returns h.world here) h.returns in
    let all : (f : ℕ) → IsIn f cycle → IsIn f (take many cycle) =
    subst (λ (l : List ℕ). (f : ℕ) → IsIn f l → IsIn f (take many l)) c.as_slice-2.ensures.value c.in_ok-many.ensures.all in
    subst (λ (l : List ℕ). IsFairCycle entry g.W.Resting.rests first stem l) (sym c.truncate.ensures.items)
    record {
      world = h.world;
      comes = h.comes;
      unrested = h.unrested;
      returns = returns;
      fair = λ f. elim (h.fair f) [ inl i ↦ inl (all f i) | inr stays ↦ inr stays ];
    }
