-- A term is refused exactly where it is no program.
use Rattle.std.proofs.Common.{◌≡◌, [], None, inl, inr}
use Rattle.effect_term.specs.{declared.{term.Term.Term, refusal.TermError.TermError}, Kinds.WellKinded, Names.{first_fault, uses_of, IsFault}}
use Rattle.effect_term.{specs.Programs.{IsProgram, IsPastLimit}, proofs.KindLaws.no_fault}

-- a program's names have no fault
pub names_of_program : (t : Term) → IsProgram t → first_fault (uses_of [] t) ≡ None
names_of_program t p = no_fault [] t p.closed

-- a well-kinded term is not refused for its names
pub past_limit-from_fault : (t : Term) (e : TermError) → WellKinded [] t → IsFault (uses_of [] t) e → IsPastLimit t e
past_limit-from_fault t e kinded (inl memory) = inl memory
past_limit-from_fault t e kinded (inr fault) =
    let none : first_fault (uses_of [] t) ≡ None = no_fault [] t kinded in
    absurd (cc)
