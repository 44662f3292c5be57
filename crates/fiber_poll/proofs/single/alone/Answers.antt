use Rattle.std.proofs.Common.{refl, inl, inr}
use Rattle.fiber_poll.proofs.Results.{program_is}
use Rattle.fiber_poll.proofs.single.alone.Goals as goal

pub returns : goal.returns
returns g c =
    elim c.run_first.ensures [
      | inl e ↦ inl e
      | inr e ↦ elim e [
        | inl w ↦ inr (inl w)
        | inr comes ↦
            elim (program_is c.args.program c.in_ok-registry.registry c.in_ok-registry.pass c.in_ok-code.code _ c.args.moves c.run_first.result
            c.requires c.in_ok-code.ensures.code c.in_ok-registry.ensures.pass c.in_ok-registry.ensures.limits refl comes) [
              | inl e ↦ inl e
              | inr e ↦ inr (inr e)
            ]
      ]
    ]
