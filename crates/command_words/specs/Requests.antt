-- The request that the words of a command line make.
use Rattle.std.specs.Prelude.{◌≡◌, ⊤, ℕ, List, [], map, Option, Some, None, codes, option_map}
use Rattle.std.specs.List.{All}
use Rattle.std.specs.Option.{unwrap_or}
use Rattle.clap.specs.Words.{Row, Text, all_of, first_of, subcommand_of}
use Rattle.cell_registry.specs.declared.limits.Limits.{Limits}
use Rattle.exploration_text.specs.declared.explore_texts.ExploreOrder.{ExploreOrder}
use Rattle.exploration_text.specs.declared.wants.Want.{Want}
use Rattle.exploration_text.specs.Wants.{IsInRange, want_text}
use Rattle.exploration_text.specs.declared.sample_texts.SampleOrder.{SampleOrder}
use Rattle.steal_pool.specs.declared.options.Options.{Options}
use Rattle.steal_pool.specs.Runs.{limits_of}
use Rattle.compared_ends.specs.declared.basis.Basis.{Basis}
use Rattle.compared_ends.specs.declared.basis.Basis.TheVariants.{AllFibers, FirstFiber}
use Rattle.compared_ends.specs.declared.order.CompareOrder.{CompareOrder}
use Rattle.command_words.specs.declared.comparing.Comparing.{Comparing}
use Rattle.command_words.specs.declared.deciding.Deciding.{Deciding}
use Rattle.command_words.specs.declared.exploring.Exploring.{Exploring}
use Rattle.command_words.specs.declared.judging.Judging.{Judging}
use Rattle.command_words.specs.declared.marks.Marks.TheVariants as kept
use Rattle.command_words.specs.declared.ranges.NumberRange.{NumberRange}
use Rattle.command_words.specs.declared.replay.Replay.{Replay as ReplayFields}
use Rattle.command_words.specs.declared.requests.Request.{Request}
use Rattle.command_words.specs.declared.requests.Request.TheVariants.{Check, Show, Replay, Explore, Run, Sample}
use Rattle.command_words.specs.declared.requests.Request.TheVariants.{Compare, Decide, Judge, Say, Seek, Test, Terms}
use Rattle.command_words.specs.declared.requests.Request.TheVariants.{Unmark}
use Rattle.command_words.specs.declared.running.Running.{Running}
use Rattle.command_words.specs.declared.sampling.Sampling.{Sampling}
use Rattle.command_words.specs.declared.saying.Saying.{Saying}
use Rattle.command_words.specs.declared.seeking.Seeking.{Seeking}
use Rattle.command_words.specs.declared.testing.Testing.{Testing}
use Rattle.command_words.specs.declared.testing.Translating.{Translating}
use Rattle.command_words.specs.declared.unmarking.Unmarking.{Unmarking}
use Rattle.command_words.specs.Memory.{SaysMemory}
use Rattle.command_words.specs.Numbers.{SaysNumber, SaysSeconds}
use Rattle.command_words.specs.Flags.{IsGiven, IsLeftOut, SaysBeside, SaysExploreForm, SaysFlag, SaysForm, SaysRunForm}
use Rattle.command_words.specs.Flags.{SaysColoring, SaysMarks, SaysOnly, SaysTestForm}
use Rattle.command_words.specs.Words.{band_range, budget_range, count_range, entries_range, few_range, moves_range}
use Rattle.command_words.specs.Words.{jobs_range, model_worlds_range, program, seed_range, times_range, workers_range}
use Rattle.command_words.specs.Words.{worlds_range}

-- the limits that the options of a subcommand give, with `band` as the range of fibers, refs and deferreds
pub record SaysLimits (band : NumberRange) (options : List Row) (limits : Limits) : Type 0 where
  pub fibers : SaysNumber band (first_of (codes "fibers") options) limits.fibers
  pub refs : SaysNumber band (first_of (codes "refs") options) limits.refs
  pub deferreds : SaysNumber band (first_of (codes "deferreds") options) limits.deferreds
  pub count : SaysNumber count_range (first_of (codes "count") options) limits.count

-- the workers, limits, budget and moves that the options of `run` give
pub record SaysRun (options : List Row) (run : Options) : Type 0 where
  pub workers : SaysNumber workers_range (first_of (codes "workers") options) run.workers
  pub limits : SaysLimits band_range options (limits_of run)
  pub budget : SaysNumber budget_range (first_of (codes "budget") options) run.budget
  pub moves : SaysNumber moves_range (first_of (codes "moves") options) run.moves

-- the bounds that the options of `explore` or of `compare` give
pub record SaysBounds (options : List Row) (worlds entries memory : ℕ) : Type 0 where
  pub worlds_are : SaysNumber worlds_range (first_of (codes "worlds") options) worlds
  pub entries_are : SaysNumber entries_range (first_of (codes "entries") options) entries
  pub memory_is : SaysMemory (first_of (codes "memory") options) memory

-- the texts of an option that can be given more than once; none if it isn't given
abbrev pub texts_said : Text → List Row → List Text
texts_said name options = unwrap_or (all_of name options) []

-- the texts spell the wanted outcomes, as a report does, in the same order
pub record AreWants (texts : List Text) (wants : List Want) : Type 0 where
  pub spelled : map want_text wants ≡ texts
  pub ranges : All IsInRange wants

-- the limits, bounds and wanted outcomes that the options of `explore` give
pub record SaysExplore (options : List Row) (order : ExploreOrder) : Type 0 where
  pub limits : SaysLimits few_range options order.limits
  pub bounds : SaysBounds options order.bounds.worlds order.bounds.entries order.bounds.memory
  pub wants : AreWants (texts_said (codes "want") options) order.wants.items

-- the words have no claim
abbrev pub HasNoClaims : List Row → Type 0
HasNoClaims options = (texts_said (codes "always") options ≡ []) × (texts_said (codes "never") options ≡ []) ×
    (texts_said (codes "reach") options ≡ [])

abbrev pub HasClaims : List Row → Type 0
HasClaims options = HasNoClaims options → ⊥

-- no option is given that conflicts with claims
abbrev pub AreAlone : List Row → Type 0
AreAlone options = IsLeftOut (codes "first") options × IsLeftOut (codes "ends") options ×
    IsLeftOut (codes "progress") options × IsLeftOut (codes "explain") options ×
    (first_of (codes "seconds") options ≡ None)

-- the verdicts on claims that the options of `explore` ask for
pub record SaysJudging (options : List Row) (judging : Judging) : Type 0 where
  pub some : HasClaims options
  pub alone : AreAlone options
  pub form : SaysExploreForm options judging.form
  pub order : SaysExplore options judging.order
  pub always : map (λ s. s.now) judging.always.items ≡ texts_said (codes "always") options
  pub never : map (λ s. s.now) judging.never.items ≡ texts_said (codes "never") options
  pub reach : map (λ s. s.now) judging.reach.items ≡ texts_said (codes "reach") options

-- the seed, the number of schedules, their entries, the limits and the wanted outcomes that the options of `sample`
-- give
pub record SaysSample (options : List Row) (order : SampleOrder) : Type 0 where
  pub seed : SaysNumber seed_range (first_of (codes "seed") options) order.seed
  pub times : SaysNumber times_range (first_of (codes "times") options) order.times
  pub entries : SaysNumber entries_range (first_of (codes "entries") options) order.entries
  pub limits : SaysLimits few_range options order.limits
  pub wants : AreWants (texts_said (codes "want") options) order.wants.items

-- the replay that the options of `replay` ask for
pub record SaysReplay (options : List Row) (replay : ReplayFields) : Type 0 where
  pub schedule : first_of (codes "schedule") options ≡ Some replay.schedule.now
  pub form : SaysForm options replay.form
  pub explain : SaysFlag (codes "explain") options replay.explain
  pub limits : SaysLimits band_range options replay.limits

-- the exploration that the options of `explore` ask for
pub record SaysExploring (options : List Row) (exploring : Exploring) : Type 0 where
  pub order : SaysExplore options exploring.order
  pub form : SaysExploreForm options exploring.form
  pub claims : HasNoClaims options
  pub seconds_are : SaysSeconds (first_of (codes "seconds") options) exploring.seconds
  pub beside : SaysBeside options exploring.beside

-- the search for the first finding that the options of `explore` ask for
pub record SaysSeeking (options : List Row) (seeking : Seeking) : Type 0 where
  pub first : IsGiven (codes "first") options
  pub claims : HasNoClaims options
  pub alone : IsLeftOut (codes "timeline") options
  pub order : SaysExplore options seeking.order
  pub json : SaysFlag (codes "json") options seeking.json
  pub seconds_are : SaysSeconds (first_of (codes "seconds") options) seeking.seconds
  pub beside : SaysBeside options seeking.beside

-- the decision on fair schedules that the options of `explore` ask for
pub record SaysDeciding (options : List Row) (deciding : Deciding) : Type 0 where
  pub ends : IsGiven (codes "ends") options
  pub claims : HasNoClaims options
  pub alone : IsLeftOut (codes "first") options × IsLeftOut (codes "timeline") options
  pub order : SaysExplore options deciding.order
  pub json : SaysFlag (codes "json") options deciding.json
  pub seconds_are : SaysSeconds (first_of (codes "seconds") options) deciding.seconds
  pub beside : SaysBeside options deciding.beside

-- reports have all marks, and all fibers are reported
abbrev pub HasMarks : List Row → Type 0
HasMarks options = SaysMarks (first_of (codes "marks") options) kept.All × (first_of (codes "only") options ≡ None)

-- no option is given that only an exploration with all marks takes
abbrev pub GoWithoutMarks : List Row → Type 0
GoWithoutMarks options = IsLeftOut (codes "timeline") options × IsLeftOut (codes "first") options ×
    IsLeftOut (codes "ends") options × (first_of (codes "count") options ≡ None)

-- the exploration without marks that the options of `explore` ask for
pub record SaysUnmarking (options : List Row) (unmarking : Unmarking) : Type 0 where
  pub marks : SaysMarks (first_of (codes "marks") options) kept.Nothing
  pub only : SaysOnly (first_of (codes "only") options) unmarking.only_first
  pub claims : HasNoClaims options
  pub alone : GoWithoutMarks options
  pub order : SaysExplore options unmarking.order
  pub json : SaysFlag (codes "json") options unmarking.json
  pub seconds_are : SaysSeconds (first_of (codes "seconds") options) unmarking.seconds
  pub beside : SaysBeside options unmarking.beside

-- the exploration of outcomes and says that the options of `explore` ask for
pub record SaysSaying (options : List Row) (saying : Saying) : Type 0 where
  pub marks : SaysMarks (first_of (codes "marks") options) kept.Says
  pub all_fibers : first_of (codes "only") options ≡ None
  pub claims : HasNoClaims options
  pub alone : GoWithoutMarks options
  pub order : SaysExplore options saying.order
  pub json : SaysFlag (codes "json") options saying.json
  pub seconds_are : SaysSeconds (first_of (codes "seconds") options) saying.seconds
  pub beside : SaysBeside options saying.beside

-- the run that the options of `run` ask for
pub record SaysRunning (options : List Row) (running : Running) : Type 0 where
  pub run : SaysRun options running.options
  pub form : SaysRunForm options running.form running.explain

-- the sample that the options of `sample` ask for
pub record SaysSampling (options : List Row) (sampling : Sampling) : Type 0 where
  pub order : SaysSample options sampling.order
  pub json : SaysFlag (codes "json") options sampling.json
  pub always : map (λ s. s.now) sampling.always.items ≡ texts_said (codes "always") options
  pub never : map (λ s. s.now) sampling.never.items ≡ texts_said (codes "never") options
  pub reach : map (λ s. s.now) sampling.reach.items ≡ texts_said (codes "reach") options

-- the basis of the comparison, by the options of `compare`
abbrev pub SaysBasis : List Row → Basis → Type 0
SaysBasis options AllFibers = IsGiven (codes "all") options
SaysBasis options FirstFiber = IsLeftOut (codes "all") options

-- the limits, bounds, basis and form of the comparison, by the options of `compare`
pub record SaysCompare (options : List Row) (order : CompareOrder) : Type 0 where
  pub limits : SaysLimits few_range options order.limits
  pub bounds : SaysBounds options order.bounds.worlds order.bounds.entries order.bounds.memory
  pub basis : SaysBasis options order.basis
  pub json : SaysFlag (codes "json") options order.json

-- the comparison that the options of `compare` ask for
pub record SaysComparing (options : List Row) (comparing : Comparing) : Type 0 where
  pub first : first_of (codes "first") options ≡ Some comparing.first.now
  pub second : first_of (codes "second") options ≡ Some comparing.second.now
  pub order : SaysCompare options comparing.order

-- the test of model files that the options of `test` ask for
pub record SaysTesting (options : List Row) (testing : Testing) : Type 0 where
  pub files_are : map (λ s. s.now) testing.files.items ≡ texts_said (codes "files") options
  pub filter_is : option_map (λ s. s.now) testing.filter ≡ first_of (codes "filter") options
  pub junit_is : option_map (λ s. s.now) testing.junit ≡ first_of (codes "junit") options
  pub html_is : option_map (λ s. s.now) testing.html ≡ first_of (codes "html") options
  pub worlds_are : SaysNumber model_worlds_range (first_of (codes "worlds") options) testing.worlds
  pub memory_is : SaysMemory (first_of (codes "memory") options) testing.memory
  pub seconds_are : SaysSeconds (first_of (codes "seconds") options) testing.seconds
  pub total_seconds_are : SaysSeconds (first_of (codes "total-seconds") options) testing.total_seconds
  pub jobs_are : SaysNumber jobs_range (first_of (codes "jobs") options) testing.jobs
  pub form_is : SaysTestForm options testing.form
  pub color_is : SaysColoring (first_of (codes "color") options) testing.color
  pub progress_is : SaysFlag (codes "progress") options testing.progress

-- the translation of a model file that the options of `terms` ask for
pub record SaysTranslating (options : List Row) (translating : Translating) : Type 0 where
  pub file_is : first_of (codes "file") options ≡ Some translating.file.now

-- the request that a subcommand asks for with its options
abbrev pub Says : Text × List Row → Request → Type 0
Says said (Check checking) =
    (said.0 ≡ codes "check") × SaysFlag (codes "json") said.1 checking.json ×
    SaysFlag (codes "explain") said.1 checking.explain
Says said (Show showing) = (said.0 ≡ codes "show") × SaysFlag (codes "explain") said.1 showing.explain
Says said (Replay replay) = (said.0 ≡ codes "replay") × SaysReplay said.1 replay
Says said (Explore exploring) =
    (said.0 ≡ codes "explore") × HasMarks said.1 × IsLeftOut (codes "first") said.1 × IsLeftOut (codes "ends") said.1 ×
    SaysExploring said.1 exploring
Says said (Seek seeking) =
    (said.0 ≡ codes "explore") × HasMarks said.1 × IsLeftOut (codes "ends") said.1 × SaysSeeking said.1 seeking
Says said (Decide deciding) = (said.0 ≡ codes "explore") × HasMarks said.1 × SaysDeciding said.1 deciding
Says said (Judge judging) = (said.0 ≡ codes "explore") × HasMarks said.1 × SaysJudging said.1 judging
Says said (Unmark unmarking) = (said.0 ≡ codes "explore") × SaysUnmarking said.1 unmarking
Says said (Say saying) = (said.0 ≡ codes "explore") × SaysSaying said.1 saying
Says said (Run running) = (said.0 ≡ codes "run") × SaysRunning said.1 running
Says said (Sample sampling) = (said.0 ≡ codes "sample") × SaysSampling said.1 sampling
Says said (Compare comparing) = (said.0 ≡ codes "compare") × SaysComparing said.1 comparing
Says said (Test testing) = (said.0 ≡ codes "test") × SaysTesting said.1 testing
Says said (Terms translating) = (said.0 ≡ codes "terms") × SaysTranslating said.1 translating

-- the request that the words make: the one that their subcommand asks for with its options, if there is one
abbrev pub GivesRequest : Option (Text × List Row) → Option Request → Type 0
GivesRequest None (Some request) = ⊥
GivesRequest None None = Unit {0}
GivesRequest (Some said) (Some request) = Says said request
GivesRequest (Some said) None = (request : Request) → Says said request → ⊥

-- the sample looks at no claim
abbrev pub HasNoTexts : Sampling → Type 0
HasNoTexts sampling = (sampling.always.items ≡ []) × (sampling.never.items ≡ []) × (sampling.reach.items ≡ [])

-- only the input shows whether the words are right: it has the schedule, or the refs that claims name
abbrev pub IsSettledByInput : Request → Type 0
IsSettledByInput (Check checking) = ⊥
IsSettledByInput (Show showing) = ⊥
IsSettledByInput (Replay replay) = replay.schedule.now ≡ codes "-"
IsSettledByInput (Explore exploring) = ⊥
IsSettledByInput (Seek seeking) = ⊥
IsSettledByInput (Decide deciding) = ⊥
IsSettledByInput (Judge judging) = ⊤
IsSettledByInput (Unmark unmarking) = ⊥
IsSettledByInput (Say saying) = ⊥
IsSettledByInput (Run running) = ⊥
IsSettledByInput (Sample sampling) = HasNoTexts sampling → ⊥
IsSettledByInput (Compare comparing) = ⊥
IsSettledByInput (Test testing) = ⊥
IsSettledByInput (Terms translating) = ⊥

-- the words make a request that only the input shows to be right
pub record AreSettledByInput (words : List Text) : Type 0 where
  pub request : Request
  pub gives : GivesRequest (subcommand_of program words) (Some request)
  pub settled : IsSettledByInput request
