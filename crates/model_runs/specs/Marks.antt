-- Which claims can be judged without the marks of fibers.
use Rattle.std.specs.Prelude.{◌≡◌, ◌&&◌, Bool, true, false}
use Rattle.std.specs.List.{list_all}
use Rattle.model_terms.specs.declared.translation.Probe.{Probe}
use Rattle.model_terms.specs.declared.translation.Probe.TheVariants as probes
use Rattle.model_claims.specs.declared.claim.Claim.{Claim}
use Rattle.model_claims.specs.declared.condition.Word.{Word}
use Rattle.model_claims.specs.declared.condition.Word.TheVariants as words
use Rattle.model_runs.specs.declared.result.Search.{Search}

abbrev pub has_no_probe : Probe → Bool
has_no_probe probes.Nothing = true
has_no_probe (probes.Watch name names) = false
has_no_probe (probes.Order a b names) = false
has_no_probe probes.Names = false

-- whether a word of a condition isn't about what fibers said
abbrev pub is_of_outcomes : Word → Bool
is_of_outcomes words.Yes = true
is_of_outcomes words.No = true
is_of_outcomes words.And = true
is_of_outcomes words.Or = true
is_of_outcomes words.Not = true
is_of_outcomes (words.Ended who) = true
is_of_outcomes (words.Ends who from to) = true
is_of_outcomes (words.Said who from to) = false
is_of_outcomes (words.Says who from to) = false
is_of_outcomes words.Late = false
is_of_outcomes (words.Compares r comparison number) = true

-- whether a claim is judged by the outcomes of fibers alone: its term has no probe, and no word of its condition is
-- about what fibers said
abbrev pub by_outcomes : Claim → Bool
by_outcomes claim = has_no_probe claim.probe && list_all is_of_outcomes claim.condition.words.items

-- a search can judge a claim: its worlds keep marks, or the claim is judged by the outcomes of fibers alone
abbrev pub IsFit : Claim → Search → Type 0
IsFit claim s = by_outcomes claim ≡ false → s.marked ≡ true
