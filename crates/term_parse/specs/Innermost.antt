-- The innermost binder of a spelling.
use Rattle.std.specs.Prelude.{◌≡◌, ◌≢◌, ℕ, List, [], ◌∷◌, ◌++◌, length}
use Rattle.effect_term.specs.declared.term.Name.{Name}
use Rattle.term_parse.specs.Reading.{Bound}

-- none of these binders has this spelling
abbrev pub Unspelled : List Bound → List ℕ → Type 0
Unspelled [] x = Unit {0}
Unspelled (b ∷ bs) x = (b.spelling ≢ x) × Unspelled bs x

-- the name is that of a binder of this spelling, and no binder behind it has the same spelling
pub record IsInnermost (scope : List Bound) (x : List ℕ) (n : Name) : Type 0 where
  pub before : List Bound
  pub binder : Bound
  pub behind : List Bound
  pub scope_is : scope ≡ before ++ binder ∷ behind
  pub spelled : binder.spelling ≡ x
  pub unshadowed : Unspelled behind x
  pub slot_is : n.slot ≡ length before
  pub kind_is : n.kind ≡ binder.kind
