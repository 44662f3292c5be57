use Rattle.std.proofs.Common.{◌≡◌, ◌++◌, map, drop}
use Rattle.command_words.proofs.test_requests.copied.Given as goal

-- the copied texts are those before the present one
abbrev pub invariant-loop-text : goal.invariant-loop-text
invariant-loop-text l = map (λ s. s.now) l.copy.items ++ map (λ s. s.now) (drop l.text-index l.texts) ≡ map (λ s. s.now) l.texts
