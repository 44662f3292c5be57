use Rattle.std.proofs.Common.{◌≡◌, ◌∙◌, ◌<◌, ap, sym, subst, ℕ, Bool, List, false, get_or, All, Option}
use lib.ListN.{get_elem?}
use Rattle.fiber_poll.specs.Tasks.{TaskView}
use Rattle.wait_bay.{specs.{Names.{Named, IsNamed}, Bays.BayView}, proofs.Remains.{earlier_taken, found_own, kept_below, kept_order, kept_task, later_full}}
use Rattle.wait_bay.proofs.bay.Bay.empty.Goals as goal

pub loop-f-preserved : goal.loop-f-preserved
loop-f-preserved c =
    let inv = c.loop-f.invariant in
    let others = c.take-found.ensures.others in
    let closed = c.close-closed in
    let table = c.self.inside.table.shared in
    let named : table.key ≡ c.args.self.named = ap (λ (b : BayView). b.named) c.self.view_is in
    let f : ℕ = c.loop-f.f in
    let at_word = ap (λ (s : _). get_elem? s.items f) (sym (others.3 ∙ inv.0)) ∙ c.word-home.ensures in
    let at_task = ap (λ (l : List (Option TaskView)). get_elem? l f) (sym inv.1) ∙ c.take-found.ensures.value in
    let own = found_own table.key closed.result.words.items closed.result.slots.items f c.word-home.result c.take-found.result
    closed.ensures.values.2 at_word at_task in (
      others.3 ∙ inv.0,
      others.0 ∙ inv.1,
      others.2 ∙ inv.2,
      (λ k le lt. ap (λ (fs : List Bool). get_or fs k false) others.1 ∙
          later_full c.loop-f.closed.slots.filled f c.loop-f.closed.slots.len inv.3 k le (subst (λ (n : ℕ). k < n) others.2 lt)),
      (λ k lt. ap (λ (fs : List Bool). get_or fs k false) others.1 ∙ earlier_taken c.loop-f.closed.slots.filled f inv.4 k lt),
      subst (λ (n : Option Named). All (IsNamed n) c.keep.new.tasks.items) named
          (kept_task table.key closed.result.words.items closed.result.slots.items f c.word-home.result c.take-found.result c.loop-f.tasks.items
          c.keep.new.tasks.items
          closed.ensures.values.2 at_word at_task (subst (λ (n : Option Named). All (IsNamed n) c.loop-f.tasks.items) (sym named) inv.5) c.keep.ensures.kept),
      kept_below f c.word-home.result c.take-found.result c.loop-f.tasks.items c.keep.new.tasks.items own inv.6 c.keep.ensures.kept,
      kept_order f c.word-home.result c.take-found.result c.loop-f.tasks.items c.keep.new.tasks.items own inv.6 inv.7 c.keep.ensures.kept,
    )
