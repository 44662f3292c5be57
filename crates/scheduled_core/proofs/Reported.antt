-- How a fiber has ended, as its ask tells it.
use Rattle.std.{proofs.Common.{◌≡◌, Option, refl, sym, ap, subst}, specs.Prelude.{Some, None}}
use Rattle.effect_term.specs.declared.reply.Outcome.{Outcome}
use Rattle.fiber_frames.specs.{declared.ask.Ask.Ask, Path.{Broken, Over, Running}, Fiber.{Fiber, outcome_in, outcome_of}, Leading.Asked}
use Rattle.fiber_frames.specs.Leading.{Finalizes, Has_ended, IsGoing, Is_lost, MayLeave, Runs_term, depth_of, way_of}
use Rattle.effect_term.specs.declared.reply.Outcome.TheVariants as outcome
use Rattle.fiber_frames.specs.declared.ask.Ask.TheVariants as ask

abbrev pub over_in : Ask → Option Outcome
over_in (ask.Over o) = Some o
over_in _ = None

going : (w : Running) → IsGoing (way_of w) → outcome_in w ≡ None
going (Over o) h = absurd h
going _ h = refl

runs : (w : Running) → way_of w ≡ Runs_term → outcome_in w ≡ None
runs w e = going w (subst IsGoing (sym e) tt)

finalizes : (w : Running) → way_of w ≡ Finalizes → outcome_in w ≡ None
finalizes w e = going w (subst IsGoing (sym e) tt)

leaves : (w : Running) (d : _) → MayLeave (way_of w) d → outcome_in w ≡ None
leaves (Over o) d h = absurd h
leaves _ d h = refl

ended : (w : Running) (o : Outcome) → way_of w ≡ Has_ended o → outcome_in w ≡ Some o
ended (Over p) o e = let same : p ≡ o = cc in ap Some same
ended _ o e = absurd (cc)

lost : (w : Running) → way_of w ≡ Is_lost → outcome_in w ≡ None
lost (Over o) e = absurd (cc)
lost _ e = refl

pub outcome_asked : (g : Fiber) (a : Ask) → Asked g a → outcome_of g ≡ over_in a
outcome_asked g ask.Look t = runs g.running t.0
outcome_asked g ask.Cut t = runs g.running t.0
outcome_asked g ask.Mask t = going g.running t.0
outcome_asked g ask.Unmask t = leaves g.running (depth_of g) t
outcome_asked g (ask.Finish (outcome.Succeeded v)) t = runs g.running t.0
outcome_asked g (ask.Finish (outcome.Errored c)) t = runs g.running t.0
outcome_asked g (ask.Finish outcome.Canceled) t = finalizes g.running t.0
outcome_asked g (ask.Over o) t = ended g.running o t
outcome_asked g ask.Broken t = lost g.running t
outcome_asked g _ t = going g.running t
