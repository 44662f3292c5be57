-- How a fiber has ended is what its ask tells.
use Rattle.std.proofs.Common.{◌≡◌, Some, refl, sym, ap, subst}
use Rattle.effect_term.specs.declared.reply.Outcome.{Outcome}
use Rattle.fiber_frames.specs.{declared.ask.Ask.Ask, Fiber.{Fiber, ask_of, lost, outcome_of, outcome_in}, Path.{Broken, Final, Over, Running, Runs}}
use Rattle.fiber_frames.specs.Leading.{Asked, Has_ended, IsGoing, Is_lost, way_of}
use Rattle.fiber_frames.specs.declared.ask.Ask.TheVariants as ask

-- a fiber that is at this, and else like g
abbrev at : Fiber → Running → Fiber
at g w = record { number = g.number; running = w; look = g.look; next = g.next; marks = g.marks }

over_in_way : (w : Running) (o : Outcome) → way_of w ≡ Has_ended o → outcome_in w ≡ Some o
over_in_way (Over p) o e = let same : p ≡ o = cc in ap Some same
over_in_way _ o e = absurd (cc)

pub outcome_over : (g : Fiber) (a : Ask) (o : Outcome) → Asked g a → a ≡ ask.Over o → outcome_of g ≡ Some o
outcome_over g a o t e = over_in_way g.running o (subst (Asked g) e t)

pub outcome_way : (g : Fiber) (o : Outcome) → way_of g.running ≡ Has_ended o → outcome_of g ≡ Some o
outcome_way g o e = over_in_way g.running o e

-- a fiber that has ended asks nothing
pub over_asked : (g : Fiber) (o : Outcome) → outcome_of g ≡ Some o → ask_of g ≡ ask.Over o
over_asked g o h = go g.running refl h
  where
    go : (w : Running) → g.running ≡ w → outcome_in w ≡ Some o → ask_of g ≡ ask.Over o
    go (Runs t) e q = absurd (cc)
    go (Final m gs) e q = absurd (cc)
    go (Over p) e q = let same : p ≡ o = cc in subst (λ w. ask_of (at g w) ≡ ask.Over o) (sym e) (ap ask.Over same)
    go Broken e q = absurd (cc)

-- a fiber that neither has ended nor is broken goes on
pub not_over : (g : Fiber) → ((o : Outcome) → ask_of g ≡ ask.Over o → ⊥) → (ask_of g ≡ ask.Broken → ⊥) → IsGoing (way_of g.running)
not_over g over broken = go g.running refl
  where
    go : (w : Running) → g.running ≡ w → IsGoing (way_of w)
    go (Runs t) e = tt
    go (Final m gs) e = tt
    go (Over o) e = absurd (over o (subst (λ w. ask_of (at g w) ≡ ask.Over o) (sym e) refl))
    go Broken e = absurd (broken (subst (λ w. ask_of (at g w) ≡ ask.Broken) (sym e) refl))

broken_is : (w : Running) → way_of w ≡ Is_lost → w ≡ Broken
broken_is Broken q = refl
broken_is _ q = absurd (cc)

-- it asks nothing
pub broken_asked : (g : Fiber) → way_of g.running ≡ Is_lost → ask_of g ≡ ask.Broken
broken_asked g e = subst (λ w. ask_of (at g w) ≡ ask.Broken) (sym (broken_is g.running e)) refl

-- and can lose no more
pub broken_lost : (g : Fiber) (a : Ask) → Asked g a → a ≡ ask.Broken → g ≡ lost g
broken_lost g a t e =
    let is = broken_is g.running (subst (Asked g) e t) in
    λ j. at g (is j)
