use Rattle.std.proofs.Common.{◌≡◌, ◌++◌, map, drop}
use Rattle.std.specs.List.{All}
use Rattle.exploration_text.specs.Wants.{IsInRange, want_text}
use Rattle.command_words.proofs.requests.wants_of.Given as goal

-- the wanted outcomes so far are those of the texts before the present one
abbrev pub invariant-loop-text : goal.invariant-loop-text
invariant-loop-text l = record {
  spelled : map want_text l.wants.items ++ map (λ s. s.now) (drop l.text-index l.texts) ≡ map (λ s. s.now) l.texts;
  ranges : All IsInRange l.wants.items;
}
