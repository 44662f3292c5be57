-- The truth of a condition at one answer: its words run one after another on a stack of truths.
use Rattle.std.specs.Prelude.{◌&&◌, ◌||◌, not, ◌-◌, ◌++◌, ℤ, Bool, true, false, List, [], ◌∷◌, Option, Some, None, length, take, slice_range}
use Rattle.std.specs.List.{fold, slice_index_or}
use Rattle.model_terms.specs.declared.source.Source.{Source}
use Rattle.effect_term.specs.declared.reply.Outcome.{Outcome}
use Rattle.effect_term.specs.declared.reply.Outcome.TheVariants as outcomes
use Rattle.model_terms.specs.declared.translation.Probe.{Probe}
use Rattle.model_terms.specs.declared.translation.Probe.TheVariants as probes
use Rattle.model_claims.specs.declared.answer.FiberName.{FiberName}
use Rattle.model_claims.specs.declared.answer.FiberName.TheVariants as names
use Rattle.model_claims.specs.declared.answer.Seen.{Seen}
use Rattle.model_claims.specs.declared.claim.Claim.{Claim}
use Rattle.model_claims.specs.declared.answer.SeenFiber.{SeenFiber}
use Rattle.model_claims.specs.declared.condition.Condition.{Condition}
use Rattle.model_claims.specs.declared.condition.Word.{Word}
use Rattle.model_claims.specs.declared.condition.Word.TheVariants as words
use Rattle.claim_verdicts.specs.declared.judging.Rule.{Rule}
use Rattle.claim_verdicts.specs.declared.judging.Rule.TheVariants as rules
use Rattle.claim_verdicts.specs.declared.judging.Truth.{Truth}
use Rattle.claim_verdicts.specs.declared.judging.Truth.TheVariants as truths
use Rattle.model_claims.specs.Leaves.{all_say, compare_held, end_so, have_ended, one_said}

-- ---- a stack of truths, whose top is its last
abbrev pub top : List Bool → Bool
top stack = slice_index_or stack (length stack - 1) false

abbrev pub below : List Bool → List Bool
below stack = take (length stack - 1) stack

-- the truth that a word pushes
abbrev pub word_truth : Source → Condition → Seen → Option ℤ → Word → List Bool → Bool
word_truth source c seen held words.Yes stack = true
word_truth source c seen held words.No stack = false
word_truth source c seen held words.And stack = top stack && top (below stack)
word_truth source c seen held words.Or stack = top stack || top (below stack)
word_truth source c seen held words.Not stack = not (top stack)
word_truth source c seen held (words.Ended who) stack = have_ended source seen who
word_truth source c seen held (words.Ends who from to) stack =
    end_so source seen who (slice_range c.outcomes.items from to)
word_truth source c seen held (words.Said who from to) stack =
    one_said source seen who (slice_range c.values.items from to)
word_truth source c seen held (words.Says who from to) stack =
    all_say source seen who (slice_range c.values.items from to)
word_truth source c seen held words.Late stack = seen.late
word_truth source c seen held (words.Compares r comparison number) stack = compare_held comparison held number

-- the stack without the operands of a word
abbrev pub word_rest : Word → List Bool → List Bool
word_rest words.And stack = below (below stack)
word_rest words.Or stack = below (below stack)
word_rest words.Not stack = below stack
word_rest words.Yes stack = stack
word_rest words.No stack = stack
word_rest (words.Ended who) stack = stack
word_rest (words.Ends who from to) stack = stack
word_rest (words.Said who from to) stack = stack
word_rest (words.Says who from to) stack = stack
word_rest words.Late stack = stack
word_rest (words.Compares r comparison number) stack = stack

-- the stack after a word
abbrev pub step : Source → Condition → Seen → Option ℤ → List Bool → Word → List Bool
step source c seen held stack word =
    word_rest word stack ++ (word_truth source c seen held word stack ∷ [])

-- whether a condition holds of an answer, if its ref held `held`
abbrev pub holds : Source → Condition → Seen → Option ℤ → Bool
holds source c seen held = top (fold (λ stack word. step source c seen held stack word) [] c.words.items)

-- ---- what a watcher read
abbrev pub is_watcher : FiberName → Bool
is_watcher names.Watcher = true
is_watcher _ = false

abbrev pub value_of : Option Outcome → Option ℤ
value_of (Some (outcomes.Succeeded v)) = Some v
value_of _ = None

abbrev pub value_if : Bool → Option ℤ → Option ℤ
value_if true v = v
value_if false v = None

-- the value of the ref that this fiber read; none if the fiber is no watcher, or hasn't read
abbrev pub watched : SeenFiber → Option ℤ
watched f = value_if (is_watcher f.name) (value_of f.outcome)

-- the truth at one more moment joined to that at the moments before: a claim about every answer has to hold at each, a
-- claim about some answer at one
abbrev pub joint : Rule → Option Bool → Bool → Bool
joint rule None b = b
joint rules.Every (Some a) b = a && b
joint rules.Some (Some a) b = a || b

abbrev pub with_moment : Source → Claim → Seen → Option Bool → Option ℤ → Option Bool
with_moment source claim seen known None = known
with_moment source claim seen known (Some v) =
    Some (joint claim.rule known (holds source claim.condition seen (Some v)))

-- the joint truth at the moments at which the watchers read the ref; none if none has read
abbrev pub watched_truth : Source → Claim → Seen → Option Bool
watched_truth source claim seen =
    fold (λ known f. with_moment source claim seen known (watched f)) None seen.fibers.items

-- ---- the truth of a claim at an answer
abbrev pub probed_truth : Probe → Source → Claim → Seen → Option Bool
probed_truth (probes.Watch name names) source claim seen = watched_truth source claim seen
probed_truth probes.Nothing source claim seen = Some (holds source claim.condition seen None)
probed_truth (probes.Order a b names) source claim seen = Some (holds source claim.condition seen None)
probed_truth probes.Names source claim seen = Some (holds source claim.condition seen None)

abbrev pub truth_if : Bool → Option Bool → Option Bool
truth_if true known = None
truth_if false known = known

-- whether the condition of a claim holds of an answer; none if the answer is a fault, or no watcher has read
abbrev pub truth_of : Source → Claim → Seen → Option Bool
truth_of source claim seen = truth_if seen.faulty (probed_truth claim.probe source claim seen)

abbrev pub as_truth : Option Bool → Truth
as_truth (Some true) = truths.Holds
as_truth (Some false) = truths.Fails
as_truth None = truths.SaysNothing

abbrev pub truth_or_fault : Bool → Option Bool → Truth
truth_or_fault true known = truths.Faulty
truth_or_fault false known = as_truth known

-- the truth of a claim at an answer, from which its verdict follows
abbrev pub truth_in : Source → Claim → Seen → Truth
truth_in source claim seen = truth_or_fault seen.faulty (probed_truth claim.probe source claim seen)
