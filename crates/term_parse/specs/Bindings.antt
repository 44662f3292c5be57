-- The binders in scope, as the parser keeps them.
use Rattle.std.specs.Prelude.{◌≡◌, ◌≤◌, ◌+◌, ◌*◌, ◌%◌, ◌^◌, ℕ, List, [], ◌∷◌, fold, length, slice_range}
use Rattle.term_parse.specs.declared.scope.Binding.{Binding}
use Rattle.term_parse.specs.Reading.{Bound}

abbrev pub bound_of : List ℕ → Binding → Bound
bound_of text b = record { spelling = slice_range text b.start b.end; kind = b.kind }

abbrev pub bounds : List ℕ → List Binding → List Bound
bounds text [] = []
bounds text (b ∷ bs) = bound_of text b ∷ bounds text bs

-- the hash of a spelling: different spellings seldom have the same hash
unfoldable pub hash_of : List ℕ → ℕ
hash_of x = fold (λ hash b. ((hash * 31) % 2 ^ 32 + b) % 2 ^ 32) 0 x

-- the spellings are places within the text, and the hashes are those of the spellings
abbrev pub InText : List ℕ → List Binding → Type 0
InText text [] = Unit {0}
InText text (b ∷ bs) =
    (b.start ≤ b.end) × (b.end ≤ length text) × (b.hash ≡ hash_of (slice_range text b.start b.end)) × InText text bs
