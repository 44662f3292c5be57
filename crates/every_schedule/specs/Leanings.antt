-- How the truth of a claim leans on the words about the whole world: whether it can be true only where no fiber can go
-- on, or false only there.
use Rattle.std.specs.Prelude.{◌-◌, ◌++◌, ◌||◌, true, false, List, [], ◌∷◌, length, take, slice_index_or}
use Rattle.std.specs.List.{fold}
use Rattle.every_schedule.specs.declared.claims.ClaimWord.{ClaimWord}
use Rattle.every_schedule.specs.declared.claims.ClaimWord.TheVariants.{Compare, Not, And, Or, Deadlock, Left, Final}
use Rattle.every_schedule.specs.declared.leanings.Leaning.{Leaning}

-- the truth doesn't depend on the words about the whole world
abbrev pub steady : Leaning
steady = record { rises = false; falls = false }

abbrev pub upward : Leaning
upward = record { rises = true; falls = false }

abbrev pub turned : Leaning → Leaning
turned l = record { rises = l.falls; falls = l.rises }

abbrev pub both : Leaning → Leaning → Leaning
both l m = record { rises = l.rises || m.rises; falls = l.falls || m.falls }

abbrev pub last_leaning : List Leaning → Leaning
last_leaning stack = slice_index_or stack (length stack - 1) steady

abbrev pub rest_of : List Leaning → List Leaning
rest_of stack = take (length stack - 1) stack

-- the leaning of each truth value on the stack after a word
abbrev pub leaned : List Leaning → ClaimWord → List Leaning
leaned stack (Compare r how v) = stack ++ steady ∷ []
leaned stack Not = rest_of stack ++ turned (last_leaning stack) ∷ []
leaned stack And = rest_of (rest_of stack) ++ both (last_leaning (rest_of stack)) (last_leaning stack) ∷ []
leaned stack Or = rest_of (rest_of stack) ++ both (last_leaning (rest_of stack)) (last_leaning stack) ∷ []
leaned stack Deadlock = stack ++ upward ∷ []
leaned stack Left = stack ++ upward ∷ []
leaned stack Final = stack ++ upward ∷ []

abbrev pub leaning_of : List ClaimWord → Leaning
leaning_of words = last_leaning (fold leaned [] words)
