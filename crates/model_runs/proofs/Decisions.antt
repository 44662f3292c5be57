-- The result of a claim follows from one of the searches.
use Rattle.std.{proofs.Common.{◌≡◌, ℕ, List, Some, None, Result, Ok, Err, IfOk, true, ap, ◌∙◌}, specs.{List.slice_get, Option.is_some}}
use Rattle.model_terms.specs.declared.source.Source.{Source}
use Rattle.term_writing.specs.declared.refused.Refused.{Refused}
use Rattle.derived_ops.specs.Tree.{Tree}
use Rattle.cell_registry.specs.declared.limits.Limits.{Limits}
use Rattle.every_schedule.specs.declared.claims.ClaimWord.{ClaimWord}
use Rattle.model_claims.specs.declared.claim.Claim.{Claim}
use Rattle.model_runs.specs.{declared.{moments.Moments.Moments, result.{ClaimResult.ClaimResult, Search.Search}}, Deciding.{IsDecided, IsResultOf}, Marks.IsFit}
use Rattle.model_runs.{specs.{Moments.{IsDecidedAtMoments, IsJudgedMoment}, Private.Looking.{IsRightAt, IsRightOf}}, proofs.Looks.some_in}

pub decided_by : (source : Source) (claim : Claim) (searches : List Search) (n : ℕ) (s : Search) (it : Result ClaimResult Refused) →
    slice_get searches n ≡ Some s → claim.moment ≡ None → IfOk it (λ r. IsFit claim s) → IfOk it (IsResultOf source claim s) →
    IfOk it (λ r. r.search ≡ n) → IfOk it (IsDecided source searches)
decided_by source claim searches n s (Ok r) there answers fit says number = record {
  claim = claim;
  search = s;
  named = ap (slice_get searches) number ∙ there;
  of_answers = answers;
  fit = fit;
  is_result = says;
}
decided_by source claim searches n s (Err e) there answers fit says number = tt

-- the clause `moment` of `moment_result`, for a claim
abbrev pub Says : Claim → ℕ → Search → Moments → Result ClaimResult Refused → Type 0
Says claim number ends moments it =
    (code : Tree) (k : Limits) (wanted : List (List ClaimWord)) (words : List ClaimWord) →
    IsRightAt code k wanted moments → slice_get wanted number ≡ Some words →
    IfOk it (IsJudgedMoment claim code k words ends moments.search)

pub decided_at : (claim : Claim) (number : ℕ) (searches : List Search) (n : ℕ) (s : Search) (moments : Moments) (it : Result ClaimResult Refused) →
    slice_get searches n ≡ Some s → is_some claim.moment ≡ true → IsRightOf claim number moments → Says claim number s moments it →
    IfOk it (λ r. r.search ≡ n) → IfOk it (IsDecidedAtMoments searches moments.search)
decided_at claim number searches n s moments (Ok r) there spoken right says same =
    let words = some_in claim.moment spoken in
    record {
      claim = claim;
      words = words.0;
      spoken = words.1;
      ends = s;
      named = ap (slice_get searches) same ∙ there;
      code = right.right.code;
      limits = right.right.limits;
      is_result = says right.right.code right.right.limits right.wanted _ right.right.right (right.there words.0 words.1);
    }
decided_at claim number searches n s moments (Err e) there spoken right says same = tt
