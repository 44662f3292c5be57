-- What a registry for one thread has after a call.
use Rattle.cell_registry.proofs.Prelude.{◌≡◌, ℕ, subst, sym, Reply, Limits, Call, AreLimits, PlainView, new_plain, IsPlain, MayCall, IsMade}
use Rattle.cell_registry.proofs.Calls.{opening-sound, after-sound}

pub IsPlain-new : (k : Limits) (r : PlainView) → AreLimits k → r ≡ new_plain k → IsPlain r
IsPlain-new k r l is = subst IsPlain (sym is) record { limits = l; sound = opening-sound k l }

pub IsPlain-made : (old new : PlainView) (by : ℕ) (c : Call) (answer : Reply) → IsPlain old → MayCall old by c → IsMade old new by c answer → IsPlain new
IsPlain-made old new by c answer h may made = subst IsPlain (sym made.left) record {
  limits = h.limits;
  sound = after-sound old.limits old.state by c h.sound record { allowed = may.allowed; room = made.room };
}
