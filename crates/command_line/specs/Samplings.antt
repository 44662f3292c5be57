-- The effect of a request to sample the schedules of a text's program.
use Rattle.std.specs.Prelude.{◌≡◌, ◌⊎◌, Bool, true, false, ℕ, List, Result, map}
use Rattle.claim_answers.specs.declared.asked.Asked.{Asked}
use Rattle.claim_answers.specs.Claims.{AreMade, question_of, questions}
use Rattle.claim_answers.specs.Drawn.{IsSampledClaims}
use Rattle.json_answers.specs.Answers.{IsJsonRefusal}
use Rattle.json_answers.specs.FoundAnswers.{IsNotedJsonSample}
use Rattle.effect_term.specs.declared.term.Term.{Term}
use Rattle.exploration_text.specs.declared.sample_texts.SampleOrder.{SampleOrder}
use Rattle.exploration_text.specs.SampleAnswers.{IsNotedSample}
use Rattle.outcome_trace.specs.Answers.{IsRefusalAnswer}
use Rattle.reasons.specs.Refusals.{IsTextReasons}
use Rattle.text_io.specs.declared.status.Status.{Status}
use Rattle.text_io.specs.declared.fault.TextFault.{TextFault}
use Rattle.text_io.specs.Devices.{Devices}
use Rattle.text_io.specs.Exchange.{IsAnswered}
use Rattle.text_io.specs.Telling.{status_of}
use Rattle.command_words.specs.declared.sampling.Sampling.{Sampling}
use Rattle.command_words.specs.Requests.{HasNoTexts}
use Rattle.command_line.specs.Judgings.{RefusesClaim}
use Rattle.command_line.specs.Noting.{ObeysNoted, TellsBeside}

-- the answer of `sample` to a program, with this note: as JSON, or in words
abbrev pub samples_as : Bool → SampleOrder → (note : List ℕ) → Term → List ℕ → Status → Type 0
samples_as true order note t = IsNotedJsonSample t order.limits order.seed order.times order.entries order.wants.items note
samples_as false order note t = IsNotedSample t order.limits order.times order.entries order.wants.items note

-- the answer of `sample` to a refused text
abbrev pub sample_refuses : Bool → List ℕ → List ℕ → Status → Type 0
sample_refuses true = IsJsonRefusal
sample_refuses false = IsRefusalAnswer

-- the effect without claims
abbrev pub samples_alone : Bool → SampleOrder → Devices → Devices → Status → Type 0
samples_alone json order before after status =
    ObeysNoted (sample_refuses json) (samples_as json order) IsTextReasons false before after status

-- The text is answered for these claims, and the note goes to `err`. If there is a fault, only its line goes to `err`.
pub record SeesText (order : SampleOrder) (json : Bool) (asked : List Asked) (before after : Devices)
    (status : Status) : Type 0
  where
    pub note : List ℕ
    pub result : Result Status TextFault
    pub answered : IsAnswered (IsSampledClaims json order asked note) before.input after.input before.out after.out
        result
    pub told : TellsBeside IsTextReasons false note result before.input after.input before.err after.err
    pub status_is : status ≡ status_of result

-- The claims that the texts spell are looked at in the schedules.
pub record SeesClaims (sampling : Sampling) (before after : Devices) (status : Status) : Type 0 where
  pub asked : List Asked
  pub are : map question_of asked ≡ questions (map (λ s. s.now) sampling.always.items)
      (map (λ s. s.now) sampling.never.items) (map (λ s. s.now) sampling.reach.items)
  pub made : AreMade sampling.order.limits.refs asked
  pub seen : SeesText sampling.order sampling.json asked before after status

abbrev pub ObeysSample : Sampling → Devices → Devices → Status → Type 0
ObeysSample sampling before after status =
    (HasNoTexts sampling × samples_alone sampling.json sampling.order before after status) ⊎
    ((HasNoTexts sampling → ⊥) × (SeesClaims sampling before after status ⊎ RefusesClaim before after status))
