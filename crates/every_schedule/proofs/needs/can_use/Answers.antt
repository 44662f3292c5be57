use Rattle.std.proofs.Common.{◌≡◌, Bool, true, false, ◌||◌, sym, ap, ◌∙◌}
use Rattle.fiber_frames.specs.Uses.{is_some, uses_in}
use Rattle.every_schedule.specs.Persistent.{can_use, is_itself}
use Rattle.every_schedule.proofs.needs.can_use.Goals as goal

pub returns-then-is_own_cancel-clause-uses : goal.returns-then-is_own_cancel-clause-uses
returns-then-is_own_cancel-clause-uses c = λ g at.
    let u = c.in-Some.what in
    let n = c.in-Some.number in
    let own : is_itself u n g ≡ true = sym (c.is_own_cancel.ensures g (c.requires.fits.each c.args.place g at).number) ∙ c.if-is_own_cancel.true in
    sym (ap (λ o. can_use o g) c.in-Some.is ∙ ap (λ (t : Bool). t || is_some (uses_in u n g.running)) own)

pub returns-else-is_own_cancel-clause-uses : goal.returns-else-is_own_cancel-clause-uses
returns-else-is_own_cancel-clause-uses c = λ g at.
    let u = c.in-Some.what in
    let n = c.in-Some.number in
    let other : is_itself u n g ≡ false = sym (c.is_own_cancel.ensures g (c.requires.fits.each c.args.place g at).number) ∙ c.if-is_own_cancel.false in
    c.uses.ensures.uses g at ∙ sym (ap (λ o. can_use o g) c.in-Some.is ∙ ap (λ (t : Bool). t || is_some (uses_in u n g.running)) other)
