use Rattle.std.specs.Slots.{slots_items}
use Rattle.cell_registry.specs.Private.Shown.{Copies}
use Rattle.cell_registry.proofs.shown.copied.Given as goal

-- the words so far
abbrev pub invariant-loop-place : goal.invariant-loop-place
invariant-loop-place l = Copies (slots_items l.closed.words) l.place l.words.items
