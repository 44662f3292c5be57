-- The lines that report a fault of a device or of a schedule's text.
use Rattle.std.specs.Prelude.{ℕ, List, [], ◌∷◌, ◌++◌, codes}
use Rattle.std.specs.Fmt.{decimal}
use Rattle.text_io.specs.declared.fault.TextFault.{TextFault}
use Rattle.text_io.specs.declared.fault.TextFault.TheVariants.{NoMemory, ReadFault, WriteFault, TurnBound}

-- words, a number and a line feed
abbrev pub told : List ℕ → ℕ → List ℕ
told words n = words ++ (decimal n ++ 10 ∷ [])

abbrev pub fault_line : TextFault → List ℕ
fault_line NoMemory = codes "fault 20 NoMemory" ++ 10 ∷ []
fault_line ReadFault = codes "fault 23 ReadFault" ++ 10 ∷ []
fault_line (WriteFault n) = told (codes "fault 24 WriteFault ") n
fault_line TurnBound = codes "fault 25 TurnBound" ++ 10 ∷ []

-- the line of a schedule's text whose first bad item has this place
abbrev pub schedule_line : ℕ → List ℕ
schedule_line place = told (codes "fault 27 BadSchedule ") place
