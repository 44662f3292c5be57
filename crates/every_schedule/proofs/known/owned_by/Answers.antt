use Rattle.std.proofs.Common.{sym, subst}
use Rattle.scheduled_core.specs.declared.wish.Wish.{Wish}
use Rattle.every_schedule.specs.Private.Knowing.{IsOwned}
use Rattle.every_schedule.proofs.known.owned_by.Goals as goal

pub returns-in-Shared : goal.returns-in-Shared
returns-in-Shared c =
    subst (λ (d : Wish). IsOwned d c.args.waits_alone c.owned_by_call.result) (sym c.in-Shared.is) (c.owned_by_call.ensures c.args.waits_alone)
