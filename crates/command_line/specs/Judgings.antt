-- The effect of a request to judge claims on a text's program.
use Rattle.std.specs.Prelude.{◌≡◌, ◌⊎◌, ℕ, false, List, Result, map}
use Rattle.claim_answers.specs.declared.asked.Asked.{Asked}
use Rattle.claim_answers.specs.declared.lines.ClaimForm.{ClaimForm}
use Rattle.claim_answers.specs.declared.lines.ClaimForm.TheVariants as claims
use Rattle.claim_answers.specs.Claims.{AreMade, question_of, questions}
use Rattle.claim_answers.specs.ClaimsAnswers.{IsClaimsAnswer}
use Rattle.exploration_text.specs.declared.explore_texts.ExploreOrder.{ExploreOrder}
use Rattle.reasons.specs.Refusals.{IsTextReasons}
use Rattle.text_io.specs.declared.fault.TextFault.{TextFault}
use Rattle.text_io.specs.declared.status.Status.{Status}
use Rattle.text_io.specs.Devices.{Devices}
use Rattle.text_io.specs.Exchange.{IsAnswered}
use Rattle.text_io.specs.Telling.{status_of}
use Rattle.command_words.specs.declared.exploring.ExploreForm.{ExploreForm}
use Rattle.command_words.specs.declared.exploring.ExploreForm.TheVariants.{Report, Timeline, Json}
use Rattle.command_words.specs.declared.judging.Judging.{Judging}
use Rattle.command_words.specs.Telling.{LacksMemory, TellsWrong}
use Rattle.command_line.specs.Noting.{TellsBeside}

abbrev pub claim_form : ExploreForm → ClaimForm
claim_form Report = claims.Report
claim_form Timeline = claims.Timeline
claim_form Json = claims.Json

-- The text is answered for these claims, and the note goes to `err`. If there is a fault, only its line goes to `err`.
pub record JudgesText (order : ExploreOrder) (form : ClaimForm) (asked : List Asked) (before after : Devices)
    (status : Status) : Type 0
  where
    pub note : List ℕ
    pub result : Result Status TextFault
    pub answered : IsAnswered (IsClaimsAnswer form order asked note) before.input after.input before.out after.out result
    pub told : TellsBeside IsTextReasons false note result before.input after.input before.err after.err
    pub status_is : status ≡ status_of result

-- The claims that the texts spell are judged.
pub record JudgesClaims (judging : Judging) (before after : Devices) (status : Status) : Type 0 where
  pub asked : List Asked
  pub are : map question_of asked ≡ questions (map (λ s. s.now) judging.always.items)
      (map (λ s. s.now) judging.never.items) (map (λ s. s.now) judging.reach.items)
  pub made : AreMade judging.order.limits.refs asked
  pub judged : JudgesText judging.order (claim_form judging.form) asked before after status

-- A text spells no claim, or one on a ref that the limits don't allow, or memory ran out. That is written to `err` before the program's text is read.
pub record RefusesClaim (before after : Devices) (status : Status) : Type 0 where
  pub unread : after.input ≡ before.input
  pub unanswered : after.out ≡ before.out
  pub told : TellsWrong before.err after.err status ⊎ LacksMemory before.err after.err status

abbrev pub ObeysJudge : Judging → Devices → Devices → Status → Type 0
ObeysJudge judging before after status = JudgesClaims judging before after status ⊎ RefusesClaim before after status
