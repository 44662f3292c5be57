-- The text of a report.
use Rattle.std.specs.Prelude.{◌+◌, ℕ, Option, Some, None, List, [], ◌∷◌, ◌++◌, codes}
use Rattle.std.specs.Fmt.{decimal, signed_decimal}
use Rattle.effect_term.specs.declared.reply.Outcome.{Outcome}
use Rattle.effect_term.specs.declared.reply.Outcome.TheVariants.{Succeeded, Errored, Canceled}
use Rattle.fiber_frames.specs.declared.mark.Mark.{Mark}
use Rattle.fiber_frames.specs.declared.mark.Mark.TheVariants.{Say, Enter, Leave, PollIn, PollOut, Cut, Acquired}
use Rattle.fiber_frames.specs.declared.mark.Mark.TheVariants.{Releasing, Released, Dropped}
use Rattle.scheduled_core.specs.declared.report.FiberReport.{FiberReport}

-- a mark, with its value, its code or the number of its mask
abbrev pub mark_text : Mark → List ℕ
mark_text (Say v) = codes "say " ++ signed_decimal v
mark_text (Enter m) = codes "enter " ++ decimal m
mark_text (Leave m) = codes "leave " ++ decimal m
mark_text (PollIn m) = codes "in " ++ decimal m
mark_text (PollOut m) = codes "out " ++ decimal m
mark_text Cut = codes "cut"
mark_text (Acquired m) = codes "acquired " ++ decimal m
mark_text (Releasing m) = codes "releasing " ++ decimal m
mark_text (Released m) = codes "released " ++ decimal m
mark_text (Dropped c) = codes "dropped " ++ signed_decimal c

-- the marks behind the first one, each with its comma
abbrev pub later_marks_text : List Mark → List ℕ
later_marks_text [] = []
later_marks_text (m ∷ marks) = codes ", " ++ (mark_text m ++ later_marks_text marks)

-- empty if there are no marks, else a colon and the marks with commas between
abbrev pub marks_text : List Mark → List ℕ
marks_text [] = []
marks_text (m ∷ marks) = codes ": " ++ (mark_text m ++ later_marks_text marks)

-- the outcome of a fiber, or `unended`
abbrev pub outcome_text : Option Outcome → List ℕ
outcome_text (Some (Succeeded v)) = codes "succeeded " ++ signed_decimal v
outcome_text (Some (Errored c)) = codes "errored " ++ signed_decimal c
outcome_text (Some Canceled) = codes "canceled"
outcome_text None = codes "unended"

-- the line of the fiber of this number
abbrev pub fiber_line : ℕ → FiberReport → List ℕ
fiber_line n f = codes "fiber " ++
    (decimal n ++ (codes " " ++ (outcome_text f.outcome ++ (marks_text f.marks ++ 10 ∷ []))))

-- the lines of fibers whose numbers count up from this one
abbrev pub lines_from : ℕ → List FiberReport → List ℕ
lines_from n [] = []
lines_from n (f ∷ fibers) = fiber_line n f ++ lines_from (n + 1) fibers

-- a line for each fiber, from fiber 0 on
abbrev pub text_of_fibers : List FiberReport → List ℕ
text_of_fibers fibers = lines_from 0 fibers
