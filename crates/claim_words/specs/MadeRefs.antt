-- The refs that a claim names by their numbers.
use Rattle.std.specs.Prelude.{◌≡◌, ◌<◌, ⊤, ℕ}
use Rattle.claim_words.specs.declared.words.SpelledWord.{SpelledWord}
use Rattle.claim_words.specs.declared.words.SpelledWord.TheVariants.{Numbered, Named, Not, Join, World}

-- the word compares the ref of the number `n`
abbrev pub NamesRef : ℕ → SpelledWord → Type 0
NamesRef n (Numbered m how v) = m ≡ n
NamesRef n (Named how v) = ⊥
NamesRef n Not = ⊥
NamesRef n (Join j) = ⊥
NamesRef n (World x) = ⊥

-- a run that makes `refs` refs, numbered from 0, makes the ref that the word names by a number
abbrev pub IsMade : (refs : ℕ) → SpelledWord → Type 0
IsMade refs (Numbered n how v) = n < refs
IsMade refs (Named how v) = ⊤
IsMade refs Not = ⊤
IsMade refs (Join j) = ⊤
IsMade refs (World x) = ⊤
