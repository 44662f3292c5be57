-- Answers to texts.
use Rattle.std.proofs.Common.{◌≡◌, ◌≢◌, ◌-◌, ◌^◌, ℕ, min, nat_lt, Bool, true, false, IsTrue, List, Some, None, Result, Ok, Err, IfOk, OnOk, ap, subst, inl, inr}
use Rattle.std.proofs.Common.{refl, if◌then◌else◌}
use Rattle.effect_term.specs.{declared.{term.Term.Term, refusal.TermError.TermError}, Programs.IsProgram, Masks.masks_of, ExpansionSize.expansion_size_of}
use Rattle.term_parse.specs.{declared.error.ParseError.ParseError, Atoms.atoms_of, Reading.reading}
use Rattle.outcome_trace.specs.{declared.{text_order.Answer.Answer, lines.Refused.Refused}, Lines.{has_line, line_of}, Answers.{IsRefusalAnswer, no_term}}
use Rattle.outcome_trace.specs.Answers.{no_program, IsProgramAnswer, refuses, runs, IsRefused, IsOfText}
use Rattle.text_io.specs.declared.status.Status.{Status}
use Rattle.effect_term.specs.declared.refusal.TermError.TheVariants as term
use Rattle.term_parse.specs.declared.error.ParseError.TheVariants as parse
use Rattle.text_io.specs.declared.status.Status.TheVariants as ends
use Rattle.outcome_trace.specs.declared.lines.Refused.TheVariants as refusals

-- a limit has a line
limit_told : (deep large : Bool) (m : ℕ) (e : TermError) →
    (if deep then Some (term.DeepMasks m) else (if large then Some term.Large else None)) ≡ Some e → has_line (refusals.Term e) ≡ true
limit_told true large m e h = let is : term.DeepMasks m ≡ e = cc in subst (λ (x : TermError). has_line (refusals.Term x) ≡ true) is refl
limit_told false true m e h = let is : term.Large ≡ e = cc in subst (λ (x : TermError). has_line (refusals.Term x) ≡ true) is refl
limit_told false false m e h = cc

parse_told : (e : ParseError) → e ≢ parse.NoMemory → has_line (refusals.Parse e) ≡ true
parse_told parse.NoMemory h = absurd (h refl)
parse_told _ h = refl

-- a refusal of a text has a line, but want of memory
pub text_told : (r : Refused) → IsOfText r → (r ≡ refusals.Parse parse.NoMemory → ⊥) → (r ≡ refusals.Term term.NoMemory → ⊥) → has_line r ≡ true
text_told (refusals.Parse e) h p t = parse_told e (λ same. p (ap refusals.Parse same))
text_told (refusals.Term e) h p t = elim h.is.2 [
  | inl memory ↦ absurd (t (ap refusals.Term memory))
  | inr why ↦ limit_told (nat_lt 250 (masks_of h.is.0)) (nat_lt 1000000 (expansion_size_of h.is.0)) (min (masks_of h.is.0) (2 ^ 64 - 1)) e why
]
text_told (refusals.Run e) h p t = absurd h.is

-- what has a line isn't want of memory
parse_memory : (e : ParseError) → has_line (refusals.Parse e) ≡ true → e ≢ parse.NoMemory
parse_memory e h = λ same. let bad : false ≡ true = subst (λ (x : ParseError). has_line (refusals.Parse x) ≡ true) same h in cc

term_memory : (e : TermError) → has_line (refusals.Term e) ≡ true → e ≢ term.NoMemory
term_memory e h = λ same. let bad : false ≡ true = subst (λ (x : TermError). has_line (refusals.Term x) ≡ true) same h in cc

refused_so : (text : List ℕ) (r : Refused) → IsRefused text r → has_line r ≡ true → IsRefusalAnswer text (line_of r) ends.Refused
refused_so text (refusals.Parse e) h told = no_term text e (h (parse_memory e told))
refused_so text (refusals.Term e) h told = elim h.2 [
  | inl memory ↦ absurd (term_memory e told memory)
  | inr why ↦ no_program text h.0 e h.1 why
]
refused_so text (refusals.Run e) h told = absurd h

pub refusal_answers : {E : Type 0} (text : List ℕ) (r : Refused) (a : Result Answer E) → IsRefused text r → IfOk a (λ a. a.text.items ≡ line_of r) →
    IfOk a (λ a. a.status ≡ ends.Refused) → OnOk a (IsTrue (has_line r)) → IfOk a (λ a. IsRefusalAnswer text a.text.items a.status)
refusal_answers text r (Ok a) h line status told = rw (line, status) (refused_so text r h told)
refusal_answers text r (Err e) h line status told = tt

-- ---- of texts that spell programs, or none
pub refusal_runs : {E : Type 0} (Refuses : List ℕ → List ℕ → Status → Type 0) (Comes : Term → List ℕ → Status → Type 0) (text : List ℕ)
    (a : Result Answer E) → IfOk a (λ a. Refuses text a.text.items a.status) → IfOk a (λ a. IsProgramAnswer Refuses Comes text a.text.items a.status)
refusal_runs Refuses Comes text (Ok a) h = refuses text a.text.items a.status h
refusal_runs Refuses Comes text (Err e) h = tt

pub program_runs : {E : Type 0} (Refuses : List ℕ → List ℕ → Status → Type 0) (Comes : Term → List ℕ → Status → Type 0) (text : List ℕ) (t : Term)
    (a : Result Answer E) → reading text ≡ Ok (atoms_of t) → IsProgram t → IfOk a (λ a. Comes t a.text.items a.status) →
    IfOk a (λ a. IsProgramAnswer Refuses Comes text a.text.items a.status)
program_runs Refuses Comes text t (Ok a) e p h = runs text a.text.items a.status t e p h
program_runs Refuses Comes text t (Err x) e p h = tt
