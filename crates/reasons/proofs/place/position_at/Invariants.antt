use Rattle.std.proofs.Common.{◌≡◌, ◌+◌, ◌≤◌, drop, take}
use Rattle.reasons.specs.Place.{position_behind, position_of}
use Rattle.reasons.proofs.place.position_at.Given as goal

-- from this line and column, the remaining bytes lead to the position
abbrev pub invariant-loop-byte : goal.invariant-loop-byte
invariant-loop-byte l = record {
  line : l.line ≤ l.byte-index + 1;
  column : l.column ≤ l.byte-index + 1;
  leads : position_behind l.line l.column (drop l.byte-index (take l.place l.text)) ≡ position_of (take l.place l.text);
}
