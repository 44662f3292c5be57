-- The kept result of a search for moments.
use Rattle.std.specs.Prelude.{◌≡◌, ◌||◌, ◌&&◌, ℕ, Bool, true, false, List, map, Some}
use Rattle.std.specs.List.{slice_get}
use Rattle.std.specs.declared.alloc.Global.{Global}
use Rattle.std.specs.declared.vec.Vec.{Vec}
use Rattle.derived_ops.specs.Tree.{Tree}
use Rattle.cell_registry.specs.declared.limits.Limits.{Limits}
use Rattle.world_search.specs.declared.claims.Met.{Met}
use Rattle.every_schedule.specs.declared.claims.ClaimWord.{ClaimWord}
use Rattle.claim_verdicts.specs.declared.judging.Rule.{Rule}
use Rattle.claim_verdicts.specs.declared.judging.Rule.TheVariants as rules
use Rattle.claim_verdicts.specs.declared.judging.Verdict.{Verdict}
use Rattle.claim_verdicts.specs.declared.judging.Verdict.TheVariants as verdicts
use Rattle.model_runs.specs.declared.moments.Moments.{Moments}
use Rattle.model_claims.specs.declared.claim.Claim.{Claim}
use Rattle.model_claims.specs.declared.moment.MomentWord.{MomentWord}
use Rattle.model_runs.specs.Moments.{AreMet, sought}

-- the result is right about a code: each condition is met by its schedule, and its answer has this schedule
pub record IsRightAt (code : Tree) (k : Limits) (wanted : List (List ClaimWord)) (it : Moments) : Type 0 where
  pub met : AreMet code k wanted it.search.complete it.met.items
  pub same : map (λ a. a.schedule) it.search.answers.items ≡ map (λ (m : Met). m.schedule.items) it.met.items

-- the result is right about some code, under some limits
pub record IsRightAtSome (wanted : List (List ClaimWord)) (it : Moments) : Type 0 where
  pub code : Tree
  pub limits : Limits
  pub right : IsRightAt code limits wanted it

-- the element of index `i` is the claim of number `n`
abbrev pub IsMetAt : List Met → ℕ → ℕ → Type 0
IsMetAt met n i = (m : Met) × (slice_get met i ≡ Some m) × (m.claim ≡ n)

-- The computed verdict. The flags of `moment_verdict` say whether an answer is a fault, whether a moment decides the
-- claim, whether the exploration is complete, and whether the search for moments is complete.
abbrev pub by_search : Rule → Bool → Verdict
by_search rule false = verdicts.Undecided
by_search rules.Every true = verdicts.Passed
by_search rules.Some true = verdicts.Failed

abbrev pub every_verdict : Bool → Bool → Verdict
every_verdict true closed = verdicts.Failed
every_verdict false closed = by_search rules.Every closed

abbrev pub some_verdict : Bool → Bool → Verdict
some_verdict true searched = verdicts.Passed
some_verdict false searched = by_search rules.Some searched

abbrev pub moment_verdict : Rule → Bool → Bool → Bool → Bool → Verdict
moment_verdict rules.Every faulty met explored searched = every_verdict (faulty || met) (explored && searched)
moment_verdict rules.Some faulty met explored searched = some_verdict met searched

-- the result is right about a list of conditions, in which the condition that decides this claim at any moment has this
-- number
pub record IsRightOf (claim : Claim) (n : ℕ) (it : Moments) : Type 0 where
  pub wanted : List (List ClaimWord)
  pub right : IsRightAtSome wanted it
  pub there : (words : Vec MomentWord Global) → claim.moment ≡ Some words →
      slice_get wanted n ≡ Some (sought claim.rule words.items)
