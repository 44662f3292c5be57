use Rattle.fiber_frames.proofs.Prelude.{ap, sym, ◌∙◌, fiber_in}
use Rattle.fiber_frames.proofs.shapes.FiberShape.same.Goals as goal

pub returns : goal.returns
returns c = λ is. sym c.self.view_is ∙ ap fiber_in (sym c.deref.ensures) ∙ c.same.ensures is ∙ ap fiber_in c.deref-2.ensures ∙ c.other.view_is
