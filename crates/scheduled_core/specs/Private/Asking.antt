-- What a fiber's ask says about it.
use Rattle.std.specs.Prelude.{ℕ}
use Rattle.effect_term.specs.declared.reply.Reply.{Reply}
use Rattle.derived_ops.specs.Naming.{Given}
use Rattle.fiber_frames.specs.Answers.{Answers}
use Rattle.fiber_frames.specs.Fiber.{Fiber, ask_of, child, move}
use Rattle.fiber_frames.specs.Leading.{Asked, Leads}
use Rattle.fiber_frames.specs.Naming.{AskNamed, NamedBeginning, NamedRun, NumberGiven}

-- how far the fiber has come, what its move changes, and what it and its child name
pub record Asking (g : Fiber) : Type 0 where
  pub tells : Asked g (ask_of g)
  pub leads : (r : Reply) → Answers g.number (ask_of g) r → Leads g (ask_of g) r (move g r)
  pub names : (b : Given) → NamedRun b g.running → AskNamed b g.number (ask_of g)
  pub moves_names : (b : Given) (r : Reply) → NamedRun b g.running → NumberGiven b (ask_of g) r →
      NamedRun b (move g r).running
  pub child_names : (b : Given) (n : ℕ) → NamedRun b g.running → NamedBeginning b (child g n)
