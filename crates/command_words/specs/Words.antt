-- The words that the command line accepts.
use Rattle.std.specs.Prelude.{true, codes, Some}
use Rattle.clap.specs.declared.builder.action.ArgAction.TheVariants.{Append, Set, SetTrue}
use Rattle.clap.specs.declared.builder.value_parser.ValueParser.TheVariants.{Unsigned}
use Rattle.clap.specs.Simple.{on_top}
use Rattle.clap.specs.Words.{App, Rule, Text, new_app, new_rule, with_rule, with_subcommand}
use Rattle.command_words.specs.declared.ranges.NumberRange.{NumberRange}

-- ---- the ranges of the numbers that options take: the least, the greatest, and the one if the option isn't given
-- the greatest number of fibers, of refs or of deferreds
abbrev pub band_range : NumberRange
band_range = record { least = 1; most = 1000; usual = 1000 }

-- the same for `explore`, `sample` and `compare`
abbrev pub few_range : NumberRange
few_range = record { least = 1; most = 1000; usual = 16 }

-- the greatest number of changes that a fiber makes to its own cell
abbrev pub count_range : NumberRange
count_range = record { least = 1; most = 1099511627775; usual = 1099511627775 }

abbrev pub workers_range : NumberRange
workers_range = record { least = 1; most = 16; usual = 4 }

-- the greatest number of moves of a turn
abbrev pub budget_range : NumberRange
budget_range = record { least = 2; most = 10000; usual = 64 }

-- the greatest number of moves of fiber 0, and of another fiber counted with its parent's moves before it
abbrev pub moves_range : NumberRange
moves_range = record { least = 1; most = 1000000; usual = 100000 }

-- the greatest number of worlds that an exploration keeps
abbrev pub worlds_range : NumberRange
worlds_range = record { least = 1; most = 100000000; usual = 10000000 }

-- the greatest number of worlds that are kept of a model without a bound of its own
abbrev pub model_worlds_range : NumberRange
model_worlds_range = record { least = 1; most = 100000000; usual = 1000000 }

-- the number of models that are explored side by side
abbrev pub jobs_range : NumberRange
jobs_range = record { least = 0; most = 64; usual = 0 }

-- the number before the unit of the bytes at which an exploration stops; the usual number is in bytes
abbrev pub memory_range : NumberRange
memory_range = record { least = 1; most = 10000000000; usual = 4294967296 }

-- the seconds after which an exploration or the searches of a model end; without the option they have no bound, and the
-- usual number is unused
abbrev pub seconds_range : NumberRange
seconds_range = record { least = 1; most = 1000000000; usual = 1000000000 }

-- the greatest number of entries of a schedule in an exploration or a sample
abbrev pub entries_range : NumberRange
entries_range = record { least = 1; most = 1000000; usual = 10000 }

-- the seed of a sample's schedules
abbrev pub seed_range : NumberRange
seed_range = record { least = 0; most = 9223372036854775807; usual = 0 }

-- the number of schedules that a sample draws
abbrev pub times_range : NumberRange
times_range = record { least = 1; most = 1000000; usual = 1000 }

-- ---- the options
-- an option that takes a whole number of `range`
abbrev pub number_option : Text → NumberRange → Rule
number_option id range = record (new_rule id) {
  long = Some id;
  value_names = 1;
  action = Some Set;
  parser = Some (Unsigned range.least range.most);
}

-- a flag, which takes no value
abbrev pub flag : Text → Rule
flag id = record (new_rule id) {
  long = Some id;
  action = Some SetTrue;
}

abbrev pub schedule_option : Rule
schedule_option = record (new_rule (codes "schedule")) {
  long = Some (codes "schedule");
  value_names = 1;
  action = Some Set;
  required = true;
}

abbrev pub memory_option : Rule
memory_option = record (new_rule (codes "memory")) {
  long = Some (codes "memory");
  value_names = 1;
  action = Some Set;
}

-- the path of a file
abbrev pub file_argument : Text → Rule
file_argument id = record (new_rule id) {
  value_names = 1;
  action = Some Set;
  required = true;
}

-- the paths of files, at least one
abbrev pub files_argument : Rule
files_argument = record (new_rule (codes "files")) {
  value_names = 1;
  action = Some Append;
  required = true;
}

-- an option that takes a text
abbrev pub text_option : Text → Rule
text_option id = record (new_rule id) {
  long = Some id;
  value_names = 1;
  action = Some Set;
}

abbrev pub want_option : Rule
want_option = record (new_rule (codes "want")) {
  long = Some (codes "want");
  value_names = 1;
  action = Some Append;
}

abbrev pub claim_option : Text → Rule
claim_option id = record (new_rule id) {
  long = Some id;
  value_names = 1;
  action = Some Append;
}

-- with the options for the limits on fibers, refs and deferreds, and on the changes that a fiber makes to its own cell
abbrev pub with_limits : App → App
with_limits app =
    with_rule (with_rule (with_rule (with_rule app
    (number_option (codes "fibers") band_range))
    (number_option (codes "refs") band_range))
    (number_option (codes "deferreds") band_range))
    (number_option (codes "count") count_range)

-- with the flags of `replay` for a form other than a report
abbrev pub with_forms : App → App
with_forms app =
    with_rule (with_rule (with_rule app (flag (codes "timeline"))) (flag (codes "svg"))) (flag (codes "json"))

-- ---- the commands
abbrev pub check_command : App
check_command = with_rule (with_rule (new_app (codes "check")) (flag (codes "json"))) (flag (codes "explain"))

abbrev pub show_command : App
show_command = with_rule (new_app (codes "show")) (flag (codes "explain"))

abbrev pub replay_command : App
replay_command =
    with_rule (with_forms (with_limits (with_rule (new_app (codes "replay")) schedule_option)))
    (flag (codes "explain"))

-- with the flags of `explore` other than `--explain`
abbrev pub with_explore_forms : App → App
with_explore_forms app =
    with_rule (with_rule (with_rule (with_rule (with_rule app
    (flag (codes "progress")))
    (flag (codes "timeline")))
    (flag (codes "json")))
    (flag (codes "first")))
    (flag (codes "ends"))

-- `explore` with the options for its limits and bounds
abbrev pub explore_bounds : App
explore_bounds =
    with_rule (with_rule (with_rule (with_limits (new_app (codes "explore")))
    (number_option (codes "worlds") worlds_range))
    (number_option (codes "entries") entries_range))
    memory_option

-- `explore` without its flags and its options for claims and marks
abbrev pub explore_options : App
explore_options =
    with_rule (with_rule explore_bounds (number_option (codes "seconds") seconds_range)) want_option

-- with the options that take claims
abbrev pub with_claims : App → App
with_claims app =
    with_rule (with_rule (with_rule app (claim_option (codes "always"))) (claim_option (codes "never")))
    (claim_option (codes "reach"))

-- with the option for the marks that reports have, and the option for the only fiber that is reported
abbrev pub with_marks : App → App
with_marks app = with_rule (with_rule app (text_option (codes "marks"))) (text_option (codes "only"))

abbrev pub explore_command : App
explore_command = with_rule (with_explore_forms (with_marks (with_claims explore_options))) (flag (codes "explain"))

-- with the flags of `run` for a form other than a report
abbrev pub with_run_forms : App → App
with_run_forms app =
    with_rule (with_rule (with_rule app (flag (codes "record"))) (flag (codes "timeline"))) (flag (codes "json"))

-- `run` without its flags
abbrev pub run_options : App
run_options =
    with_rule (with_rule (with_limits (with_rule (new_app (codes "run"))
    (number_option (codes "workers") workers_range)))
    (number_option (codes "budget") budget_range))
    (number_option (codes "moves") moves_range)

abbrev pub run_command : App
run_command = with_rule (with_run_forms run_options) (flag (codes "explain"))

-- `sample` with its seed, its number of schedules, their entries, and the limits
abbrev pub sample_bounds : App
sample_bounds =
    with_limits (with_rule (with_rule (with_rule (new_app (codes "sample"))
    (number_option (codes "seed") seed_range))
    (number_option (codes "times") times_range))
    (number_option (codes "entries") entries_range))

-- `sample` without its flag
abbrev pub sample_options : App
sample_options = with_claims (with_rule sample_bounds want_option)

abbrev pub sample_command : App
sample_command = with_rule sample_options (flag (codes "json"))

-- `compare` with its files and limits
abbrev pub compare_files : App
compare_files =
    with_limits (with_rule (with_rule (new_app (codes "compare"))
    (file_argument (codes "first")))
    (file_argument (codes "second")))

-- `compare` without its flags
abbrev pub compare_options : App
compare_options =
    with_rule (with_rule (with_rule compare_files
    (number_option (codes "worlds") worlds_range))
    (number_option (codes "entries") entries_range))
    memory_option

abbrev pub compare_command : App
compare_command = with_rule (with_rule compare_options (flag (codes "all"))) (flag (codes "json"))

-- `test` with its files, the filter of their models, and the files to which reports are written
abbrev pub test_files : App
test_files =
    with_rule (with_rule (with_rule (with_rule (new_app (codes "test")) files_argument)
    (text_option (codes "filter")))
    (text_option (codes "junit")))
    (text_option (codes "html"))

-- `test` without its flags and `--color`
abbrev pub test_bounds : App
test_bounds =
    with_rule (with_rule (with_rule (with_rule (with_rule test_files
    (number_option (codes "worlds") model_worlds_range))
    memory_option)
    (number_option (codes "seconds") seconds_range))
    (number_option (codes "total-seconds") seconds_range))
    (number_option (codes "jobs") jobs_range)

-- with the flags of `test` for a form other than a report
abbrev pub with_test_forms : App → App
with_test_forms app =
    with_rule (with_rule (with_rule app (flag (codes "list"))) (flag (codes "json"))) (flag (codes "tap"))

abbrev pub test_command : App
test_command =
    with_rule (with_rule (with_test_forms test_bounds) (flag (codes "progress"))) (text_option (codes "color"))

abbrev pub terms_command : App
terms_command = with_rule (new_app (codes "terms")) (file_argument (codes "file"))

-- the command without its subcommands: it requires one, and it has a version
abbrev pub bare_program : App
bare_program = on_top (λ s. record s { subcommand_required = true; has_version = true }) (new_app (codes "fiber_cli"))

-- the command with its nine subcommands
abbrev pub program : App
program =
    with_subcommand (with_subcommand (with_subcommand (with_subcommand (with_subcommand
    (with_subcommand (with_subcommand (with_subcommand (with_subcommand bare_program
    check_command.top)
    show_command.top)
    replay_command.top)
    explore_command.top)
    run_command.top)
    sample_command.top)
    compare_command.top)
    test_command.top)
    terms_command.top
