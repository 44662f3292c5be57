-- A text has at most one first fault, and it is the one that reading gives.
use Rattle.std.proofs.Common.{◌≡◌, ℕ, List, [], ◌∷◌, ◌++◌, Result, Ok, Err, refl, ap, sym, ◌∙◌, Bool, true, false, nat_lt, length}
use Rattle.term_parse.specs.{declared.error.ParseError.ParseError, Lexemes.{Placed, lexemes_at}, Reading.{Want, term, ReadStep, want_step, open_of, reads}}
use Rattle.term_parse.{specs.{Reading.{reads_at, reading, with_front}, Faults.{Fit, Breaks, IsFirstFault, IsFaultOf, FaultWhere}}, proofs.Fronts.with_front-err}
use Rattle.term_parse.specs.declared.error.ParseError.TheVariants as errors

fault_here : (end : ℕ) (ws : List Want) (ts : List Placed) (e : ParseError) → Breaks end ws ts e → reads end ws ts ≡ Err e
unfolding reads
fault_here end [] [] e b = absurd b
fault_here end [] (t ∷ ts) e b = ap (λ x. Err x) (sym b)
fault_here end (w ∷ ws) [] e b = ap (λ x. Err x) (sym b)
fault_here end (w ∷ ws) (t ∷ ts) e b = rw (b, reads) refl

fault_later : (end : ℕ) (front : List Placed) (ws after : List Want) (rest : List Placed) (e : ParseError) → Fit ws front after →
    Breaks end after rest e → reads end ws (front ++ rest) ≡ Err e
unfolding reads
fault_later end [] ws after rest e h b = rw h (fault_here end after rest e b)
fault_later end (t ∷ ts) [] after rest e h b = absurd h
fault_later end (t ∷ ts) (w ∷ ws) after rest e h b = rw (h.1, reads) (ap (with_front h.0.atoms) (fault_later end ts (h.0.wants ++ ws) after rest e h.2 b))

pub reads-from_fault : (end : ℕ) (ws : List Want) (ts : List Placed) (e : ParseError) → IsFirstFault end ws ts e → reads end ws ts ≡ Err e
reads-from_fault end ws ts e h = rw h.tokens_are (fault_later end h.front ws h.todo h.rest e h.fits h.breaks)

-- a reading that fails at its first token, or later
fault_more : (end : ℕ) (t : Placed) (ts : List Placed) (w : Want) (ws : List Want) (e : ParseError) →
    ((vs : List Want) → reads end vs ts ≡ Err e → IsFirstFault end vs ts e) → reads end (w ∷ ws) (t ∷ ts) ≡ Err e → (r : Result ReadStep ParseError) →
    want_step (open_of (w ∷ ws)) w t.lexeme t.place ≡ r → IsFirstFault end (w ∷ ws) (t ∷ ts) e
unfolding reads
fault_more end t ts w ws e ih h (Err g) q =
    let l : reads end (w ∷ ws) (t ∷ ts) ≡ Err g = rw (q, reads) refl in
    let same : g ≡ e = cc in
    record { front = []; rest = t ∷ ts; todo = w ∷ ws; tokens_are = refl; fits = refl; breaks = q ∙ ap (λ x. Err x) same }
fault_more end t ts w ws e ih h (Ok s) q =
    let l : reads end (w ∷ ws) (t ∷ ts) ≡ with_front s.atoms (reads end (s.wants ++ ws) ts) = rw (q, reads) refl in
    let i = ih (s.wants ++ ws) (with_front-err s.atoms (reads end (s.wants ++ ws) ts) e (sym l ∙ h)) in
    record { front = t ∷ i.front; rest = i.rest; todo = i.todo; tokens_are = ap (λ x. t ∷ x) i.tokens_are; fits = (s, q, i.fits); breaks = i.breaks }

pub fault-from_reads : (end : ℕ) (ts : List Placed) (ws : List Want) (e : ParseError) → reads end ws ts ≡ Err e → IsFirstFault end ws ts e
unfolding reads
fault-from_reads end [] [] e h = cc
fault-from_reads end [] (w ∷ ws) e h = record { front = []; rest = []; todo = w ∷ ws; tokens_are = refl; fits = refl; breaks = cc }
fault-from_reads end (t ∷ ts) [] e h = record { front = []; rest = t ∷ ts; todo = []; tokens_are = refl; fits = refl; breaks = cc }
fault-from_reads end (t ∷ ts) (w ∷ ws) e h =
    fault_more end t ts w ws e (λ vs. fault-from_reads end ts vs e) h (want_step (open_of (w ∷ ws)) w t.lexeme t.place) refl

reading-fault_where : (text : List ℕ) (e : ParseError) (b : Bool) → nat_lt 65536 (length text) ≡ b → FaultWhere b text e → reading text ≡ Err e
unfolding reading reads_at
reading-fault_where text e true q h = rw (q) (ap (λ x. Err x) (sym h))
reading-fault_where text e false q h = rw (q) (reads-from_fault (length text) (term [] ∷ []) (lexemes_at 0 text) e h)

pub reading-from_fault : (text : List ℕ) (e : ParseError) → IsFaultOf text e → reading text ≡ Err e
reading-from_fault text e h = reading-fault_where text e (nat_lt 65536 (length text)) refl h

fault_where-reading : (text : List ℕ) (e : ParseError) (b : Bool) → nat_lt 65536 (length text) ≡ b → reading text ≡ Err e → FaultWhere b text e
unfolding reading reads_at
fault_where-reading text e true q h = let l : reading text ≡ Err (errors.TooLong 65536) = rw q refl in cc
fault_where-reading text e false q h =
    let l : reading text ≡ reads (length text) (term [] ∷ []) (lexemes_at 0 text) = rw q refl in
    fault-from_reads (length text) (lexemes_at 0 text) (term [] ∷ []) e (sym l ∙ h)

pub fault-from_reading : (text : List ℕ) (e : ParseError) → reading text ≡ Err e → IsFaultOf text e
fault-from_reading text e h = fault_where-reading text e (nat_lt 65536 (length text)) refl h

-- no other fault, and none at another place, qualifies
pub one_first_fault : (text : List ℕ) (e f : ParseError) → IsFaultOf text e → IsFaultOf text f → e ≡ f
one_first_fault text e f a b =
    let x = reading-from_fault text e a in
    let y = reading-from_fault text f b in
    cc
