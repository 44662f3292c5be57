-- The reasons of a refused text.
use Rattle.std.proofs.Common.{◌≡◌, ◌≢◌, inl, inr, ℕ, List, ◌++◌, Some, None, Result, Ok, Err, IfOk, OnOk, Vec, Global, take, sym, subst}
use Rattle.effect_term.specs.declared.refusal.TermError.{TermError}
use Rattle.term_parse.specs.declared.error.ParseError.{ParseError}
use Rattle.outcome_trace.specs.{declared.lines.Refused.{Refused, TheVariants.{Parse, Term}}, Answers.IsRefused}
use Rattle.reasons.specs.{Place.position_of, Refusals.{IsTextReasons, at_fault, limit_text, past_limit, place_heading, place_of}}
use Rattle.effect_term.specs.declared.refusal.TermError.TheVariants as term
use Rattle.term_parse.specs.declared.error.ParseError.TheVariants as parse

no_memory : (e : ParseError) (p : ℕ) → place_of e ≡ Some p → e ≢ parse.NoMemory
no_memory e p h = λ same. let bad : None ≡ Some p = subst (λ (x : ParseError). place_of x ≡ Some p) same h in cc

pub at_place : {E : Type 0} (text : List ℕ) (e : ParseError) (p : ℕ) (r : Refused) → r ≡ Parse e → IsRefused text r → place_of e ≡ Some p →
    (told : Result (Vec ℕ Global) E) → IfOk told (λ t. (rest : List ℕ) × (t.items ≡ place_heading (position_of (take p text)) ++ rest)) →
    IfOk told (λ t. IsTextReasons text t.items)
at_place text e p r same why place (Ok t) h =
    let refused : IsRefused text (Parse e) = subst (IsRefused text) same why in
    subst (λ xs. IsTextReasons text xs) (sym h.1) (at_fault text e p h.0 (refused (no_memory e p place)) place)
at_place text e p r same why place (Err x) h = tt

pub past_it : {E : Type 0} (text : List ℕ) (e : TermError) (r : Refused) → r ≡ Term e → IsRefused text r →
    (told : Result (Vec ℕ Global) E) → IfOk told (λ t. t.items ≡ limit_text e) → OnOk told (e ≢ term.NoMemory) →
    IfOk told (λ t. IsTextReasons text t.items)
past_it text e r same why (Ok t) h other =
    let refused : IsRefused text (Term e) = subst (IsRefused text) same why in
    subst (λ xs. IsTextReasons text xs) (sym h) (elim refused.2 [
      | inl memory ↦ absurd (other memory)
      | inr past ↦ past_limit text refused.0 e refused.1 past
    ])
past_it text e r same why (Err x) h other = tt
