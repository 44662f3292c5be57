-- What a result of parsing says of its text, in the grammar's words.
use Rattle.std.proofs.Common.{◌≡◌, ◌≢◌, ℕ, List, Result, Ok, Err, IfOk, IfErr}
use Rattle.term_parse.specs.{declared.error.ParseError.ParseError, Atoms.atoms_of, Faults.IsFaultOf, Grammar.Spells, Reading.{reading, Fails}, Shapes.shape_of}
use Rattle.term_parse.proofs.{FaultLaws.{fault-from_reading, one_first_fault}, ShapeLaws.same_shape, SpelledLaws.{spelled-from_reading, reading-from_spelled}}
use Rattle.effect_term.specs.declared.term.Term as terms
use Rattle.term_parse.specs.declared.error.ParseError.TheVariants as errors

-- a text is read as one term, but for where it lies in memory
pub one_term : (text : List ℕ) (t u : terms.Term) → reading text ≡ Ok (atoms_of t) → reading text ≡ Ok (atoms_of u) → shape_of u ≡ shape_of t
one_term text t u f g =
    let same : atoms_of u ≡ atoms_of t = cc in
    same_shape u t same

pub spelled_from : (text : List ℕ) (r : Result terms.Term ParseError) → IfOk r (λ t. reading text ≡ Ok (atoms_of t)) → IfOk r (λ t. Spells text (atoms_of t))
spelled_from text (Ok t) f = spelled-from_reading text (atoms_of t) f
spelled_from text (Err e) f = tt

pub one_term_from : (text : List ℕ) (r : Result terms.Term ParseError) → IfOk r (λ t. reading text ≡ Ok (atoms_of t)) →
    IfOk r (λ t. (u : terms.Term) → Spells text (atoms_of u) → shape_of u ≡ shape_of t)
one_term_from text (Ok t) f = λ u s. one_term text t u f (reading-from_spelled text (atoms_of u) s)
one_term_from text (Err e) f = tt

pub first_fault_from : (text : List ℕ) (r : Result terms.Term ParseError) → IfErr r (λ e. Fails e (reading text)) →
    IfErr r (λ e. e ≢ errors.NoMemory → IsFaultOf text e)
first_fault_from text (Ok t) f = tt
first_fault_from text (Err e) f = λ other. fault-from_reading text e (f other)

pub one_fault_from : (text : List ℕ) (r : Result terms.Term ParseError) → IfErr r (λ e. Fails e (reading text)) →
    IfErr r (λ e. e ≢ errors.NoMemory → (g : ParseError) → IsFaultOf text g → g ≡ e)
one_fault_from text (Ok t) f = tt
one_fault_from text (Err e) f = λ other g h. one_first_fault text g e h (fault-from_reading text e (f other))
