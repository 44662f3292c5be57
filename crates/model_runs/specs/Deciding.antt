-- The results of claims, by the searches.
use Rattle.std.specs.Prelude.{◌≡◌, ◌⊎◌, ℕ, List, map, Option, Some, None}
use Rattle.std.specs.List.{slice_get}
use Rattle.model_terms.specs.declared.source.Source.{Source}
use Rattle.model_claims.specs.declared.claim.Claim.{Claim}
use Rattle.claim_verdicts.specs.declared.judging.Verdict.{Verdict}
use Rattle.model_claims.specs.Conditions.{truth_in}
use Rattle.model_claims.specs.Judging.{IsJudged, under}
use Rattle.model_runs.specs.declared.result.ClaimResult.{ClaimResult}
use Rattle.model_runs.specs.declared.result.Search.{Search}
use Rattle.model_runs.specs.Marks.{IsFit}
use Rattle.model_runs.specs.Moments.{IsDecidedAtMoments}

-- the verdict of a claim by the answers of its search, and the answer that is shown
abbrev pub IsJudgedBy : Source → Claim → Search → Option ℕ → Verdict → Type 0
IsJudgedBy source claim s shown verdict =
    IsJudged claim.rule s.complete (map (λ a. truth_in source claim a.seen) s.answers.items) shown
    (under claim.fails verdict)

-- the result of a claim follows from this search
pub record IsResultOf (source : Source) (claim : Claim) (s : Search) (it : ClaimResult) : Type 0 where
  pub form : it.form ≡ claim.form
  pub rule : it.rule ≡ claim.rule
  pub fails : it.fails ≡ claim.fails
  pub judged : IsJudgedBy source claim s it.shown it.verdict

-- the result of a claim on answers follows from the search that the result names, among these searches; this search
-- keeps marks, unless the claim is judged by the outcomes of fibers alone
pub record IsDecided (source : Source) (searches : List Search) (it : ClaimResult) : Type 0 where
  pub claim : Claim
  pub search : Search
  pub named : slice_get searches it.search ≡ Some search
  pub of_answers : claim.moment ≡ None
  pub fit : IsFit claim search
  pub is_result : IsResultOf source claim search it

-- the result of a claim follows from one of these searches, or from the search for moments
abbrev pub IsDecidedIn : Source → List Search → Search → ClaimResult → Type 0
IsDecidedIn source searches found it = IsDecided source searches it ⊎ IsDecidedAtMoments searches found it
