-- No answer with a note has the status of wrong usage.
use Rattle.std.proofs.Common.{◌≡◌, ◌≢◌, ◌∙◌, inl, inr, if◌then◌else◌, Bool, true, false, ℕ, List, sym}
use Rattle.cell_registry.specs.declared.limits.Limits.{Limits}
use Rattle.effect_term.specs.declared.term.Term.{Term}
use Rattle.text_io.specs.declared.status.Status.{Status}
use Rattle.text_io.specs.declared.status.Status.TheVariants as ends
use Rattle.text_io.specs.Devices.{Devices}
use Rattle.world_search.specs.declared.answers.Bounds.{Bounds}
use Rattle.exploration_text.specs.declared.explore_texts.ExploreOrder.{ExploreOrder}
use Rattle.exploration_text.specs.declared.sample_texts.SampleOrder.{SampleOrder}
use Rattle.exploration_text.specs.declared.findings.Finding.{Finding}
use Rattle.exploration_text.specs.declared.wants.Want.{Want}
use Rattle.exploration_text.specs.Draws.{IsWithDraws}
use Rattle.exploration_text.specs.ExplorationText.{has_failure}
use Rattle.exploration_text.specs.Findings.{IsFirstAnswer}
use Rattle.exploration_text.specs.SampleAnswers.{IsNotedSample}
use Rattle.exploration_text.specs.SampleText.{has_finding}
use Rattle.json_answers.specs.FindingData.{IsJsonFirstAnswer}
use Rattle.json_answers.specs.FoundAnswers.{IsNotedJsonSample}
use Rattle.exploration_text.specs.Noting.{IsNotedAnswer}
use Rattle.reasons.specs.Refusals.{IsTextReasons}
use Rattle.command_words.specs.declared.exploring.Beside.{Beside}
use Rattle.command_words.specs.declared.exploring.Beside.TheVariants as told
use Rattle.command_words.specs.declared.exploring.ExploreForm.{ExploreForm}
use Rattle.command_words.specs.declared.exploring.ExploreForm.TheVariants as explored
use Rattle.command_line.specs.Explorings.{ObeysBeside, explore_refuses, explores_as}
use Rattle.command_line.specs.Noting.{ObeysNoted}
use Rattle.command_line.specs.Samplings.{sample_refuses, samples_as}
use Rattle.command_line.specs.Seekings.{seek_refuses, seeks_as}
use Rattle.command_line.proofs.EndLemmas.{answered_ends, chosen_ends, json_refusal_ends, program_ends, refusal_ends}

pub noted_ends : (Refuses : List ℕ → List ℕ → Status → Type 0) (Notes : List ℕ → Term → List ℕ → Status → Type 0)
    (Tells : List ℕ → List ℕ → Type 0) (explain : Bool) (before after : Devices) (status : Status) →
    ((note text answer : List ℕ) (status : Status) → IsNotedAnswer Refuses Notes note text answer status → status ≢ ends.Usage) →
    ObeysNoted Refuses Notes Tells explain before after status → status ≢ ends.Usage
noted_ends Refuses Notes Tells explain before after status never h =
    λ u. answered_ends _ _ _ _ _ h.result (never h.note) h.answered (sym h.status_is ∙ u)

-- ---- with a finding behind
pub drawn_ends : {Tells : Finding → List ℕ → Type 0} {order : ExploreOrder} {t : Term} {Answers : List ℕ → Status → Type 0} {answer : List ℕ}
    {status : Status} → ((answer : List ℕ) (status : Status) → Answers answer status → status ≢ ends.Usage) →
    IsWithDraws Tells order t Answers answer status → status ≢ ends.Usage
drawn_ends {answer = answer} {status = status} never (inl h) = never answer status h
drawn_ends never (inr h) = λ u. let bad : ends.Errored ≡ ends.Usage = sym h.status_is ∙ u in cc

-- ---- of samples
two_ends : (some : Bool) → (if some then ends.Errored else ends.Succeeded) ≢ ends.Usage
two_ends true = λ u. cc
two_ends false = λ u. cc

sampled_ends : {t : Term} {limits : Limits} {times entries : ℕ} {wants : List Want} {note answer : List ℕ} {status : Status} →
    IsNotedSample t limits times entries wants note answer status → status ≢ ends.Usage
sampled_ends {t} {limits} {times} {entries} {wants} h = λ u. two_ends (has_finding wants h.sampled.sample.comings) (sym h.sampled.status_is ∙ u)

json_sampled_ends : {t : Term} {limits : Limits} {seed times entries : ℕ} {wants : List Want} {note answer : List ℕ} {status : Status} →
    IsNotedJsonSample t limits seed times entries wants note answer status → status ≢ ends.Usage
json_sampled_ends {t} {limits} {seed} {times} {entries} {wants} h =
    λ u. two_ends (has_finding wants h.sampled.sample.comings) (sym h.sampled.status_is ∙ u)

pub sample_as_ends : (json : Bool) (order : SampleOrder) (note text answer : List ℕ) (status : Status) →
    IsNotedAnswer (sample_refuses json) (samples_as json order) note text answer status → status ≢ ends.Usage
sample_as_ends true order note text answer status =
    program_ends (λ text answer status h. json_refusal_ends h.0) (λ t answer status h. json_sampled_ends h)
sample_as_ends false order note text answer status =
    program_ends (λ text answer status h. refusal_ends h.0) (λ t answer status h. sampled_ends h)

-- ---- of first findings
firsts_end : {t : Term} {limits : Limits} {bounds : Bounds} {timed : Bool} {wants : List Want} {note answer : List ℕ} {status : Status} →
    IsFirstAnswer t limits bounds timed wants note answer status → status ≢ ends.Usage
firsts_end (inl h) = λ u. let bad : ends.Errored ≡ ends.Usage = sym h.0.status_is ∙ u in cc
firsts_end {t} {limits} {bounds} {timed} {wants} (inr h) =
    let e = h.unfound.explored in
    λ u. chosen_ends (has_failure wants e.exploration.answers) e.exploration.complete (sym e.status_is ∙ u)

json_firsts_end : {t : Term} {limits : Limits} {bounds : Bounds} {timed : Bool} {wants : List Want} {note answer : List ℕ} {status : Status} →
    IsJsonFirstAnswer t limits bounds timed wants note answer status → status ≢ ends.Usage
json_firsts_end (inl h) = λ u. let bad : ends.Errored ≡ ends.Usage = sym h.0.status_is ∙ u in cc
json_firsts_end {t} {limits} {bounds} {timed} {wants} (inr h) =
    let e = h.unfound.explored in
    λ u. chosen_ends (has_failure wants e.exploration.answers) e.exploration.complete (sym e.status_is ∙ u)

pub seek_ends : (json : Bool) (order : ExploreOrder) (timed : Bool) (note text answer : List ℕ) (status : Status) →
    IsNotedAnswer (seek_refuses json) (seeks_as json order timed) note text answer status → status ≢ ends.Usage
seek_ends true order timed note text answer status =
    program_ends (λ text answer status h. json_refusal_ends h.0) (λ t answer status h. json_firsts_end h)
seek_ends false order timed note text answer status =
    program_ends (λ text answer status h. refusal_ends h.0) (λ t answer status h. firsts_end h)

-- ---- of explorations
pub explored_ends : (form : ExploreForm) (order : ExploreOrder) (timed : Bool) (note text answer : List ℕ) (status : Status) →
    IsNotedAnswer (explore_refuses form) (explores_as form order timed) note text answer status → status ≢ ends.Usage
explored_ends explored.Report order timed note text answer status = program_ends (λ text answer status h. refusal_ends h.0)
    (λ t answer status. drawn_ends (λ answer status h u. let e = h.explored in
    chosen_ends (has_failure order.wants.items e.exploration.answers) e.exploration.complete (sym e.status_is ∙ u)))
explored_ends explored.Timeline order timed note text answer status = program_ends (λ text answer status h. refusal_ends h.0)
    (λ t answer status. drawn_ends (λ answer status h u. let e = h.told in
    chosen_ends (has_failure order.wants.items e.exploration.answers) e.exploration.complete (sym e.status_is ∙ u)))
explored_ends explored.Json order timed note text answer status = program_ends (λ text answer status h. json_refusal_ends h.0)
    (λ t answer status. drawn_ends (λ answer status h u. let e = h.explored in
    chosen_ends (has_failure order.wants.items e.exploration.answers) e.exploration.complete (sym e.status_is ∙ u)))

pub beside_ends : (Refuses : List ℕ → List ℕ → Status → Type 0) (Notes : List ℕ → Term → List ℕ → Status → Type 0) (beside : Beside)
    (before after : Devices) (status : Status) →
    ((note text answer : List ℕ) (status : Status) → IsNotedAnswer Refuses Notes note text answer status → status ≢ ends.Usage) →
    ObeysBeside beside Refuses Notes before after status → status ≢ ends.Usage
beside_ends Refuses Notes told.Nothing before after status never h = noted_ends Refuses Notes IsTextReasons false before after status never h
beside_ends Refuses Notes told.Progress before after status never h = λ u. answered_ends _ _ _ _ _ h.1 (never h.0) h.2 (sym h.3 ∙ u)
beside_ends Refuses Notes told.Reasons before after status never h = noted_ends Refuses Notes IsTextReasons true before after status never h
