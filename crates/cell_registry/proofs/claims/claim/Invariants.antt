use Rattle.cell_registry.proofs.Prelude.{◌≡◌, ◌-◌, [], left, next_of, Looked, IsSame}
use Rattle.cell_registry.proofs.claims.claim.Given as goal

abbrev pub invariant-loop-next : goal.invariant-loop-next
invariant-loop-next l = record {
  table : l.seat.table_id ≡ l.fn.seat.table_id;
  none_out : l.seat.me.1 ≡ [];
  looked : Looked l.fn.seat.me.0 l.seat.me.0;
  same : IsSame l.fn.seat.me.0 l.seat.me.0;
  next : next_of l.fn.band (left l.seat.me.0.limits l.seat.me.0.seen) ≡ l.next;
}

abbrev pub decreases-loop-next : goal.decreases-loop-next
decreases-loop-next l = l.limit - l.next
