use Rattle.std.proofs.Common.{◌≡◌, drop, nat_eq}
use Rattle.std.specs.List.{find}
use Rattle.std.specs.Cmp.Lexicographic.{pointwise}
use Rattle.effect_names.proofs.lookup.note_in.Given as goal

abbrev pub invariant-loop-entry : goal.invariant-loop-entry
invariant-loop-entry l =
    find (λ entry. pointwise nat_eq entry.0.now l.name) (drop l.entry-index l.entries) ≡
    find (λ entry. pointwise nat_eq entry.0.now l.name) l.entries
