-- What its ask tells of a fiber, from the clauses of the call.
use Rattle.std.proofs.Common.{◌≡◌, ℕ, subst}
use Rattle.effect_term.specs.declared.reply.Reply.{Reply}
use Rattle.derived_ops.specs.Naming.{Given}
use Rattle.fiber_frames.specs.{declared.ask.Ask.Ask, Answers.Answers, Fiber.{Fiber, ask_of, child, move}, Leading.{Asked, Leads}, Naming.AskNamed}
use Rattle.fiber_frames.specs.Naming.{NamedBeginning, NamedRun, NumberGiven}
use Rattle.scheduled_core.specs.Private.Asking.{Asking}

pub asking : (g : Fiber) (a : Ask) → a ≡ ask_of g
    → Asked g a
    → ((r : Reply) → Answers g.number a r → Leads g a r (move g r))
    → ((b : Given) → NamedRun b g.running → AskNamed b g.number a)
    → ((b : Given) (r : Reply) → NamedRun b g.running → NumberGiven b a r → NamedRun b (move g r).running)
    → ((b : Given) (n : ℕ) → NamedRun b g.running → NamedBeginning b (child g n))
    → Asking g
asking g a is tells leads names moves births = record {
  tells = subst (Asked g) is tells;
  leads = subst (λ (x : Ask). (r : Reply) → Answers g.number x r → Leads g x r (move g r)) is leads;
  names = subst (λ (x : Ask). (b : Given) → NamedRun b g.running → AskNamed b g.number x) is names;
  moves_names = subst (λ (x : Ask). (b : Given) (r : Reply) → NamedRun b g.running → NumberGiven b x r → NamedRun b (move g r).running) is moves;
  child_names = births;
}
