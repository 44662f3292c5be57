-- A turn of a task, as histories see it: the fiber stands where it came to, and so does a child.
use Rattle.std.proofs.Common.{◌≡◌, ℕ, suc, ◌+◌, List, [], ◌∷◌, ◌++◌, length, Result, Ok, Err, IfOk, IfErr, refl, sym, ap, ◌∙◌, subst, arith}
use Rattle.std.proofs.lemmas.List.{length-append}
use Rattle.effect_term.specs.declared.reply.Reply.{Reply}
use Rattle.derived_ops.specs.Tree.{Tree}
use Rattle.fiber_frames.specs.{Fiber.{Fiber, ask_of, move}, Answers.Answers}
use Rattle.cell_registry.specs.{declared.limits.RunError.RunError, Histories.calls_by, Passes.{PassView, RegistryView}, Steps.entry}
use Rattle.scheduled_core.{specs.{declared.wish.Wish.{Wish, TheVariants.{Shared, Alone, Nothing}}, Stands.{Stands, wish}}, proofs.Standing.Led.{Bore, Later}}
use Rattle.scheduled_core.proofs.Standing.{Led.{Led, Reaches}, AfterATurn.{later-reaches, stands-bore, stands-longer, stands-went, went-looked}}
use Rattle.fiber_poll.specs.{declared.turn.Turn.Turn, Turns.{AreAnswers, calls_of, moves, wished}, Tasks.{IsTask, IsTaskOf, TaskView, Went}, Stepping.Failed}
use Rattle.fiber_poll.{specs.Turning.{ChildIsOf, Starts, StaysOf, Stopped, Turned}, proofs.MovesAndCalls.{is_done, no_wish}}
use Rattle.effect_term.specs.declared.reply.Reply.TheVariants as reply
use Rattle.cell_registry.specs.declared.call.Call.TheVariants as call
use Rattle.cell_registry.specs.declared.limits.RunError.TheVariants as run
use Rattle.fiber_poll.specs.declared.turn.Turn.TheVariants as turn

module _ (code : Tree) where
  reach_one : (g : Fiber) (r : Reply) (rs : List Reply) → Answers g.number (ask_of g) r →
      Reaches (length rs) (move g r) (calls_of (move g r) rs) (moves (move g r) rs) →
      Reaches (length (r ∷ rs)) g (calls_of g (r ∷ rs)) (moves (move g r) rs)
  reach_one g r rs h rest = go (wish g) refl
    where
      go : (w : Wish) → wish g ≡ w → Reaches (length (r ∷ rs)) g (calls_of g (r ∷ rs)) (moves (move g r) rs)
      go (Shared c) e = subst (λ x. Reaches (length (r ∷ rs)) g (wished g.number x r ++ calls_of (move g r) rs) (moves (move g r) rs)) (sym e) (0, length rs, g, refl, e, rest, omega arith)
      go Alone e =
          let done : r ≡ reply.Done = is_done g.number (ask_of g) r e h in
          let one : Later 1 g (move g r) = (e, ap (move g) (sym done)) in
          let more = later-reaches code 1 (length rs) g (move g r) (moves (move g r) rs) (calls_of (move g r) rs) one rest in
          subst (λ x. Reaches (length (r ∷ rs)) g (wished g.number x r ++ calls_of (move g r) rs) (moves (move g r) rs)) (sym e)
          (subst (λ n. Reaches n g (calls_of (move g r) rs) (moves (move g r) rs)) (let n : 1 + length rs ≡ length (r ∷ rs) = omega arith in n) more)
      go Nothing e = absurd (no_wish g.number (ask_of g) r e h)

  -- the moves of a turn reach their end by their calls
  reached : (g : Fiber) (rs : List Reply) → AreAnswers g rs → Reaches (length rs) g (calls_of g rs) (moves g rs)
  reached g [] h = refl
  reached g (r ∷ rs) h = reach_one g r rs h.0 (reached (move g r) rs h.1)

  pub went_led : (a b : TaskView) (rs : List Reply) → Went a rs b → Led a.pass.number a.pass.seen a.state b.pass.seen b.state (length rs)
  went_led a b rs w = record {
    gained = calls_of a.state rs;
    seen_more = w.seen;
    own = w.own;
    reaches = subst (λ g. Reaches (length rs) a.state (calls_of a.state rs) g) (sym w.state) (reached a.state rs w.answers);
  }

  -- and a fiber that it started stands at its beginning
  pub child_bore : (a new c : TaskView) (rs : List Reply) (s : Starts a rs new c) →
      Bore a.pass.number a.pass.seen a.state new.pass.seen c.pass.number c.state (length s.before)
  child_bore a new c rs s =
      let p = s.parent in
      let k = s.child in
      let same : p.pass.number ≡ a.pass.number = s.went.number in
      record {
        before = k.before;
        parent = p.state;
        went = went-looked code a.pass.number a.pass.seen p.pass.seen k.before a.state p.state (length s.before) (went_led a p s.before s.went) k.later
            (subst (λ i. calls_by i k.before ≡ calls_by i p.pass.seen) same k.still);
        wants = k.wants;
        last = k.last ∙ (λ j. k.before ++ entry (same j) call.Start (k.number j) ∷ []);
        is_child = k.state;
      }

module _ (code : Tree) (most : ℕ) where
  -- after a turn the fiber stands where it came to
  pub turn_stands : (a b : TaskView) (rs : List Reply) → Went a rs b → Stands code most a.pass.seen a.pass.number a.state a.moves →
      Stands code most b.pass.seen a.pass.number b.state b.moves
  turn_stands a b rs w s =
      let left = w.left in
      stands-went code most a.pass.number a.pass.seen b.pass.seen a.state b.state (length rs) b.moves (went_led code a b rs w)
      (subst (Stands code most a.pass.seen a.pass.number a.state) (let n : a.moves ≡ length rs + b.moves = omega (arith, left) in n) s)

  -- the last move of a turn that starts a fiber is one more than those before it
  pub child_stands : (a new c : TaskView) (rs : List Reply) → Went a rs new → Starts a rs new c →
      Stands code most a.pass.seen a.pass.number a.state a.moves → Stands code most c.pass.seen c.pass.number c.state c.moves
  child_stands a new c rs w s h =
      let left = w.left in
      let own = s.child.left in
      let many : length rs ≡ length s.before + 1 = ap length s.are ∙ length-append s.before (s.last ∷ []) in
      let there = stands-bore code most a.pass.number a.pass.seen new.pass.seen a.state c.pass.number c.state (length s.before) c.moves
      (child_bore code a new c rs s)
      (subst (Stands code most a.pass.seen a.pass.number a.state)
      (let n : a.moves ≡ length s.before + suc c.moves = omega (arith, left, own, many) in n) h) in
      subst (λ l. Stands code most l c.pass.number c.state c.moves)
      (sym (ap (λ (x : Rattle.cell_registry.specs.Passes.PassView). x.seen) s.child.pass)) there

  -- ---- the answers of a turn
  went_of : (r : RegistryView) (a b : TaskView) (rs : List Reply) → Went a rs b → IsTaskOf r code most a → IsTaskOf r code most b
  went_of r a b rs w of = record {
    home = w.home ∙ of.home;
    stands = subst (λ i. Stands code most b.pass.seen i b.state b.moves) (sym w.number) (turn_stands a b rs w of.stands);
  }

  child_of : (r : RegistryView) (a new : TaskView) (rs : List Reply) (c : TaskView) → Went a rs new → Starts a rs new c → IsTaskOf r code most a →
      IsTaskOf r code most c
  child_of r a new rs c w s of = record { home = s.child.home ∙ w.home ∙ of.home; stands = child_stands a new c rs w s of.stands }

  turned_of : (r : RegistryView) (a new : TaskView) (budget : ℕ) (t : Turn) → Turned a budget t new → IsTaskOf r code most a → IsTaskOf r code most new ×
      ChildIsOf r code most t
  turned_of r a new budget (turn.Started c) t of = (went_of r a new t.replies t.went of, child_of r a new t.replies c t.went t.answered of)
  turned_of r a new budget _ t of = (went_of r a new t.replies t.went of, tt)

  -- a refusal leaves the fiber where it stood
  failed_of : (r : RegistryView) (a new : TaskView) (e : RunError) → Rattle.cell_registry.specs.Rule.Has a.pass.fibers a.pass.number →
      Failed a e new → IsTaskOf r code most a → StaysOf r code most (Err e) new
  failed_of r a new (run.Full b n) own f of =
      let stands : Stands code most new.pass.seen a.pass.number a.state a.moves =
      stands-longer code most a.pass.number a.pass.seen new.pass.seen a.state a.moves f.4.look.seen (f.4.look.own a.pass.number own) of.stands in
      let number : new.pass.number ≡ a.pass.number = ap (λ (p : PassView). p.number) f.3 in
      subst (IsTaskOf r code most) (sym f.2) record { home = of.home; stands = subst (λ i. Stands code most new.pass.seen i a.state a.moves) (sym number) stands }
  failed_of r a new (run.Spent i) own f of = subst (IsTaskOf r code most) (sym f.3) of
  failed_of r a new run.NoMemory own f of = tt
  failed_of r a new (run.Lost i) own f of = absurd f
  failed_of r a new run.NoWorker own f of = absurd f

  -- the fiber of a task is one of its pass's, and so after its moves
  own_still : (a b : TaskView) (rs : List Reply) → Went a rs b → IsTask a → Rattle.cell_registry.specs.Rule.Has b.pass.fibers b.pass.number
  own_still a b rs w i =
      subst (λ (l : List ℕ). Rattle.cell_registry.specs.Rule.Has l b.pass.number) (sym w.fibers)
      (subst (Rattle.cell_registry.specs.Rule.Has a.pass.fibers) (sym w.number) i.pass.own)

  pub stays_of : (r : RegistryView) (a new : TaskView) (budget : ℕ) (result : Result Turn RunError) → IsTask a →
      IfOk result (λ t. Turned a budget t new) → IfErr result (λ e. Stopped a budget e new) → IsTaskOf r code most a → StaysOf r code most result new
  stays_of r a new budget (Ok t) i turned stopped of = turned_of r a new budget t turned of
  stays_of r a new budget (Err e) i turned stopped of =
      failed_of r stopped.before new e (own_still a stopped.before stopped.replies stopped.went i) stopped.failed
      (went_of r a stopped.before stopped.replies stopped.went of)
