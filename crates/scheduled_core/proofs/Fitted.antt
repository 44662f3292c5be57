-- A fiber that fits what is registered of it: the call that it asks for is permitted, and the two fit again afterwards.
use Rattle.std.proofs.Common.{◌≡◌, inl, inr, ℕ, ◌+◌, ◌-◌, ◌<◌, ◌≤◌, Bool, true, refl, sym, ◌∙◌, subst, arith}
use Rattle.effect_term.specs.{declared.reply.{Outcome.Outcome, Reply.Reply}, Outcomes.OutcomeFits}
use Rattle.fiber_frames.specs.{declared.ask.{Ask.Ask, Look.{Look, TheVariants.Due}}, Fiber.{Fiber, ask_of, move, seen}, Answers.Answers, Leading.Asked}
use Rattle.fiber_frames.specs.Leading.{DepthAfter, Finalizes, Has_ended, IsGoing, Is_lost, MayEnd, MayLeave, Runs_term, Way, depth_of, look_after, most_next}
use Rattle.fiber_frames.{specs.{Leading.{way_after, way_of}, Naming.{AskNamed, NumberGiven}}, proofs.NamedMoves.run_more}
use Rattle.cell_registry.specs.{declared.{limits.{Limits.Limits, Band.TheVariants.{Fibers, Refs, Deferreds}}, cell.Stage.Stage, call.Call.Call}, Cells.IsOpen}
use Rattle.cell_registry.{specs.{Cells.{MayFinish, MayUnmask}, Passes.{PassView, IsPass}}, proofs.Giving.next_of-most}
use Rattle.scheduled_core.specs.{declared.wish.Wish.{Wish, TheVariants.{Shared, Alone, Nothing}}, Core.wish_of, Permits.{IsInRange, Permits, MayMake}}
use Rattle.scheduled_core.specs.{Permits.{count_after, depth_after, registered_after, saw_after, seen_in, stage_after}, Fitting.{DepthFits, Fits, LookFits}}
use Rattle.scheduled_core.{specs.{Fitting.{Registered, StageFits, pass_registered}, Private.Asking.Asking}, proofs.Answered.alone_answers}
use Rattle.derived_ops.specs.Naming.{Given, IsMore}
use Rattle.effect_term.specs.declared.reply.Outcome.TheVariants as outcome
use Rattle.effect_term.specs.declared.reply.Reply.TheVariants as reply
use Rattle.fiber_frames.specs.declared.ask.Ask.TheVariants as ask
use Rattle.cell_registry.specs.declared.cell.Stage.TheVariants as at

-- ---- by the ask
abbrev pub If_shared : Wish → (Call → Type 0) → Type 0
If_shared (Shared c) P = P c
If_shared Alone P = Unit {0}
If_shared Nothing P = Unit {0}

pub at_call : (w : Wish) (c : Call) (P : Call → Type 0) → w ≡ Shared c → If_shared w P → P c
at_call w c P e h = subst (λ x. If_shared x P) e h

-- ---- what a fit tells of the stage
running : (w : Way) (g : Stage) → StageFits w g → w ≡ Runs_term → g ≡ at.Running
running w g h e = subst (λ x. StageFits x g) e h

finalizing : (w : Way) (g : Stage) → StageFits w g → w ≡ Finalizes → g ≡ at.Finalizing
finalizing w g h e = subst (λ x. StageFits x g) e h

open_stage : (w : Way) (g : Stage) → StageFits w g → IsGoing w → IsOpen g
open_stage Runs_term g h i = subst IsOpen (sym h) tt
open_stage Finalizes g h i = subst IsOpen (sym h) tt
open_stage (Has_ended o) g h i = absurd i
open_stage Is_lost g h i = absurd i

pub same_depth : (w : Way) (d e : ℕ) → DepthFits w d e → IsGoing w → e ≡ d
same_depth Runs_term d e h i = h
same_depth Finalizes d e h i = h
same_depth (Has_ended o) d e h i = absurd i
same_depth Is_lost d e h i = absurd i

pub going : (w v : Way) → w ≡ v → IsGoing v → IsGoing w
going w v e h = subst IsGoing (sym e) h

may_unmask : (w : Way) (g : Stage) (d e : ℕ) → StageFits w g → DepthFits w d e → MayLeave w d → MayUnmask g e
may_unmask Runs_term g d e s f h = subst (λ x. MayUnmask x e) (sym s) (omega arith)
may_unmask Finalizes g d e s f h = subst (λ x. MayUnmask x e) (sym s) (omega arith)
may_unmask (Has_ended o) g d e s f h = absurd h
may_unmask Is_lost g d e s f h = absurd h

may_finish : (w : Way) (g : Stage) (d e : ℕ) (o : Outcome) → StageFits w g → DepthFits w d e → MayEnd w d o → OutcomeFits o → MayFinish g e o
may_finish w g d e (outcome.Succeeded v) s f h r =
    subst (λ x. MayFinish x e (outcome.Succeeded v)) (sym (running w g s h.0)) (same_depth w d e f (going w Runs_term h.0 tt) ∙ h.1, r)
may_finish w g d e (outcome.Errored v) s f h r =
    subst (λ x. MayFinish x e (outcome.Errored v)) (sym (running w g s h.0)) (same_depth w d e f (going w Runs_term h.0 tt) ∙ h.1, r)
may_finish w g d e outcome.Canceled s f h r =
    subst (λ x. MayFinish x e outcome.Canceled) (sym (finalizing w g s h.0)) (same_depth w d e f (going w Finalizes h.0 tt) ∙ h.1)

-- ---- the condition of the call
-- no more numbers were given than the limits allow
abbrev pub limits_given : Limits → Given
limits_given k = record { fibers = k.fibers; refs = k.refs; deferreds = k.deferreds }

module _ (l : Limits) (p : Registered) (room : IsMore p.given (limits_given l)) (g : Fiber) (f : Fits p g) where
  below_fibers : (n : ℕ) → n < p.given.fibers → n < l.fibers
  below_fibers n h = let most = room.fibers in omega arith

  below_refs : (n : ℕ) → n < p.given.refs → n < l.refs
  below_refs n h = let most = room.refs in omega arith

  below_deferreds : (n : ℕ) → n < p.given.deferreds → n < l.deferreds
  below_deferreds n h = let most = room.deferreds in omega arith

  pub may_by_ask : (a : Ask) → Asked g a → AskNamed p.given g.number a → If_shared (wish_of a) (λ c. IsInRange c → Permits l p c)
  may_by_ask ask.Look t n =
      λ _. (
        open_stage (way_of g.running) p.stage f.stage (going (way_of g.running) Runs_term t.0 tt),
        same_depth (way_of g.running) (depth_of g) p.depth f.depth (going (way_of g.running) Runs_term t.0 tt) ∙ t.1,
      )
  may_by_ask ask.Cut t n =
      λ _. (
        running (way_of g.running) p.stage f.stage t.0,
        same_depth (way_of g.running) (depth_of g) p.depth f.depth (going (way_of g.running) Runs_term t.0 tt) ∙ t.1,
        subst (λ (l : Look). LookFits l p.saw) t.2 f.look,
      )
  may_by_ask ask.Mask t n =
      λ _. (
        open_stage (way_of g.running) p.stage f.stage t.0,
        (let same = same_depth (way_of g.running) (depth_of g) p.depth f.depth t.0 in let few = t.1 in omega arith),
      )
  may_by_ask ask.Unmask t n = λ _. may_unmask (way_of g.running) p.stage (depth_of g) p.depth f.stage f.depth t
  may_by_ask (ask.Finish o) t n = λ fits. may_finish (way_of g.running) p.stage (depth_of g) p.depth o f.stage f.depth t fits
  may_by_ask (ask.Cancel x) t n =
      λ _. elim n [ inl e ↦ (let own = below_fibers p.number f.born in let same = f.number in omega arith) | inr l ↦ below_fibers x l ]
  may_by_ask (ask.Join x) t n = λ _. below_fibers x n
  may_by_ask ask.Start t n = λ _. open_stage (way_of g.running) p.stage f.stage t
  may_by_ask ask.NewRef t n = λ _. tt
  may_by_ask (ask.Get x) t n = λ _. below_refs x n
  may_by_ask (ask.Set x v) t n = λ _. below_refs x n
  may_by_ask (ask.Modify x v) t n = λ _. below_refs x n
  may_by_ask ask.NewDeferred t n = λ _. tt
  may_by_ask (ask.Complete x v) t n = λ _. below_deferreds x n
  may_by_ask (ask.Read x) t n = λ _. below_deferreds x n
  may_by_ask _ t n = tt

  pub permitted : Asking g → (c : Call) → wish_of (ask_of g) ≡ Shared c → IsInRange c → Permits l p c
  permitted h c e = at_call (wish_of (ask_of g)) c (λ c. IsInRange c → Permits l p c) e (may_by_ask (ask_of g) h.tells (h.names p.given f.names))

pub may_make : (p : PassView) → IsPass p → (g : Fiber) → Fits (pass_registered p) g → Asking g → (c : Call) → wish_of (ask_of g) ≡ Shared c →
    IsInRange c → MayMake p c
may_make p lawful g f = permitted p.registry.limits (pass_registered p) (record {
  fibers = next_of-most Fibers p.registry.limits p.seen lawful.limits lawful.legal;
  refs = next_of-most Refs p.registry.limits p.seen lawful.limits lawful.legal;
  deferreds = next_of-most Deferreds p.registry.limits p.seen lawful.limits lawful.legal;
}) g f

-- ---- after the call
keeps_stage : (a : Ask) (w : Way) (s : Stage) → StageFits w s → If_shared (wish_of a) (λ c. StageFits (way_after a w) (stage_after c s))
keeps_stage ask.Silent w s h = tt
keeps_stage (ask.Over o) w s h = tt
keeps_stage ask.Broken w s h = tt
keeps_stage ask.Cut w s h = refl
keeps_stage (ask.Finish o) w s h = refl
keeps_stage _ w s h = h

depth_as : (w : Way) (d e : ℕ) → (IsGoing w → e ≡ d) → DepthFits w d e
depth_as Runs_term d e h = h tt
depth_as Finalizes d e h = h tt
depth_as (Has_ended o) d e h = tt
depth_as Is_lost d e h = tt

keeps_depth : (g : Fiber) (a : Ask) (d2 e : ℕ) → DepthFits (way_of g.running) (depth_of g) e → Asked g a → DepthAfter a (depth_of g) d2 →
    If_shared (wish_of a) (λ c. DepthFits (way_after a (way_of g.running)) d2 (depth_after c e))
keeps_depth g ask.Silent d2 e h t p = tt
keeps_depth g (ask.Over o) d2 e h t p = tt
keeps_depth g ask.Broken d2 e h t p = tt
keeps_depth g ask.Cut d2 e h t p = sym p
keeps_depth g (ask.Finish o) d2 e h t p = tt
keeps_depth g ask.Mask d2 e h t p = depth_as (way_of g.running) d2 (e + 1) (λ i. let same = same_depth (way_of g.running) (depth_of g) e h i in omega arith)
keeps_depth g ask.Unmask d2 e h t p = depth_as (way_of g.running) d2 (e - 1) (λ i. let same = same_depth (way_of g.running) (depth_of g) e h i in omega arith)
keeps_depth g _ d2 e h t p = depth_as (way_of g.running) d2 e (λ i. same_depth (way_of g.running) (depth_of g) e h i ∙ sym p)

look_seen : (r : Reply) (saw : Bool) → LookFits (seen r) (seen_in saw r)
look_seen (reply.Seen true) saw = refl
look_seen _ saw = tt

keeps_look : (a : Ask) (r : Reply) (saw : Bool) → If_shared (wish_of a) (λ c. LookFits (look_after a r) (saw_after c saw r))
keeps_look ask.Look r saw = look_seen r saw
keeps_look _ r saw = tt

keeps_next : (a : Ask) (n m count : ℕ) → n ≤ count → m ≤ most_next a n → If_shared (wish_of a) (λ c. m ≤ count_after c count)
keeps_next ask.Silent n m count h l = tt
keeps_next (ask.Over o) n m count h l = tt
keeps_next ask.Broken n m count h l = tt
keeps_next ask.Mask n m count h l = omega arith
keeps_next ask.Unmask n m count h l = omega arith
keeps_next ask.Cut n m count h l = omega arith
keeps_next (ask.Finish o) n m count h l = omega arith
keeps_next _ n m count h l = omega arith

pub fits_after : (k : Registered) (g : Fiber) (r : Reply) (b : Given) (c : Call) → Fits k g → Asking g → wish_of (ask_of g) ≡ Shared c →
    Answers g.number (ask_of g) r → IsMore k.given b → NumberGiven b (ask_of g) r → Fits (registered_after c r b k) (move g r)
fits_after k g r b c f h e w more given =
    let l = h.leads r w in
    let t = h.tells in
    let a = ask_of g in
    let v = way_of g.running in record {
      number = l.number ∙ f.number;
      stage = subst (λ x. StageFits x (stage_after c k.stage)) (sym l.way)
          (at_call (wish_of a) c (λ c. StageFits (way_after a v) (stage_after c k.stage)) e (keeps_stage a v k.stage f.stage));
      depth = subst (λ x. DepthFits x (depth_of (move g r)) (depth_after c k.depth)) (sym l.way)
          (at_call (wish_of a) c (λ c. DepthFits (way_after a v) (depth_of (move g r)) (depth_after c k.depth)) e
          (keeps_depth g a (depth_of (move g r)) k.depth f.depth t l.depth));
      look = subst (λ (x : Look). LookFits x (saw_after c k.saw r)) (sym l.look)
          (at_call (wish_of a) c (λ c. LookFits (look_after a r) (saw_after c k.saw r)) e (keeps_look a r k.saw));
      next = at_call (wish_of a) c (λ c. (move g r).next ≤ count_after c k.count) e (keeps_next a g.next (move g r).next k.count f.next l.next);
      names = h.moves_names b r (run_more k.given b more g.running f.names) given;
      born = (let less = f.born in let up = more.fibers in omega arith);
    }

-- a move without a call
alone_stage : (a : Ask) (w : Way) → wish_of a ≡ Alone → way_after a w ≡ w
alone_stage ask.Silent w e = refl
alone_stage ask.Cut w e = absurd (cc)
alone_stage (ask.Finish o) w e = absurd (cc)
alone_stage _ w e = refl

alone_depth : (a : Ask) (d e : ℕ) → wish_of a ≡ Alone → DepthAfter a d e → e ≡ d
alone_depth ask.Silent d e h p = p
alone_depth ask.Cut d e h p = absurd (cc)
alone_depth ask.Mask d e h p = absurd (cc)
alone_depth ask.Unmask d e h p = absurd (cc)
alone_depth (ask.Finish o) d e h p = absurd (cc)
alone_depth _ d e h p = p

alone_next : (a : Ask) (n m : ℕ) → wish_of a ≡ Alone → m ≤ most_next a n → m ≤ n
alone_next ask.Silent n m h l = l
alone_next ask.Cut n m h l = absurd (cc)
alone_next ask.Mask n m h l = absurd (cc)
alone_next _ n m h l = l

alone_look : (a : Ask) (r : Reply) → wish_of a ≡ Alone → look_after a r ≡ Due
alone_look ask.Look r h = absurd (cc)
alone_look _ r h = refl

alone_given : (b : Given) (a : Ask) (r : Reply) → wish_of a ≡ Alone → NumberGiven b a r
alone_given b ask.Start r h = absurd (cc)
alone_given b ask.NewRef r h = absurd (cc)
alone_given b ask.NewDeferred r h = absurd (cc)
alone_given b _ r h = tt

depth_moves : (w : Way) (d d2 e : ℕ) → DepthFits w d e → d2 ≡ d → DepthFits w d2 e
depth_moves w d d2 e h q = subst (λ x. DepthFits w x e) (sym q) h

pub fits_alone : (k : Registered) (g : Fiber) → Fits k g → Asking g → wish_of (ask_of g) ≡ Alone → Fits k (move g reply.Done)
fits_alone k g f h e =
    let w = alone_answers g.number (ask_of g) e in
    let l = h.leads reply.Done w in
    let still : way_of (move g reply.Done).running ≡ way_of g.running = l.way ∙ alone_stage (ask_of g) (way_of g.running) e in
    let same = alone_depth (ask_of g) (depth_of g) (depth_of (move g reply.Done)) e l.depth in record {
      number = l.number ∙ f.number;
      stage = subst (λ x. StageFits x k.stage) (sym still) f.stage;
      depth = subst (λ x. DepthFits x (depth_of (move g reply.Done)) k.depth) (sym still)
          (depth_moves (way_of g.running) (depth_of g) (depth_of (move g reply.Done)) k.depth f.depth same);
      look = subst (λ (x : Look). LookFits x k.saw) (sym (l.look ∙ alone_look (ask_of g) reply.Done e)) tt;
      next = (let less = alone_next (ask_of g) g.next (move g reply.Done).next e l.next in let more = f.next in omega arith);
      names = h.moves_names k.given reply.Done f.names (alone_given k.given (ask_of g) reply.Done e);
      born = f.born;
    }
