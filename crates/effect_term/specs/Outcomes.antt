-- The range of the value or error code of an outcome.
use Rattle.effect_term.specs.declared.reply.Outcome.{Outcome}
use Rattle.effect_term.specs.declared.reply.Outcome.TheVariants.{Succeeded, Errored, Canceled}
use Rattle.effect_term.specs.Values.{IsValue}

-- the value or the error code of an outcome is in range
abbrev pub OutcomeFits : Outcome → Type 0
OutcomeFits (Succeeded v) = IsValue v
OutcomeFits (Errored c) = IsValue c
OutcomeFits Canceled = Unit {0}
