-- How one more token, and the end of the text, change what has been read.
use Rattle.std.proofs.Common.{◌≡◌, ◌+◌, ℕ, List, [], ◌∷◌, ◌++◌, length, refl, ap, sym, ◌∙◌, Some, None, subst, true, false}
use Rattle.model_forms.specs.{Lexemes.{Lexeme, opens, closes, Placed, lexemes_at}, Rows.{Row, nothing, a_list, tokens_of, flat}}
use Rattle.model_forms.specs.{Faults.{Opening, tokens_up_to, AreOpen, IsFaultOf, IsUnclosed}, Reading.{joined, places_of}}
use Rattle.model_forms.specs.{Reading.{list_opening, HasRead, Closed, fault_at_end}, Seen.{seen, IsNext}, declared.fault.FormFault.FormFault}
use Rattle.model_forms.{specs.declared.{reader.Read.Read, token.Token.Token}, proofs.RowLaws.{goes_on, forms_go_on, tokens_open, forms_open}}
use Rattle.model_forms.proofs.RowLaws.{tokens_close}
use Rattle.model_forms.specs.declared.fault.FormFault.TheVariants as faults

-- the next token
next_is : (text : List ℕ) (at : ℕ) (t : Token) (x : Lexeme) (front : List Placed) → IsNext text at t → seen text t.kind t.start t.end ≡ x →
    lexemes_at 0 text ≡ front ++ lexemes_at at text → lexemes_at 0 text ≡ front ++ (record { lexeme = x; place = t.start } ∷ lexemes_at t.end text)
next_is text at t x front n k h =
    h ∙ ap (λ ts. front ++ ts) (n.tokens ∙ ap (λ y. record { lexeme = y; place = t.start } ∷ lexemes_at t.end text) k)

pub has_opened : (text : List ℕ) (at : ℕ) (read new : Read) (t : Token) → HasRead text at read → IsNext text at t →
    seen text t.kind t.start t.end ≡ opens → new.forms.items ≡ read.forms.items ++ (list_opening t.start ∷ []) →
    new.open_lists.items ≡ read.open_lists.items ++ (length read.forms.items ∷ []) → HasRead text t.end new
has_opened text at read new t r n k f o = record {
  os = record { before = r.row; place = t.start } ∷ r.os;
  row = nothing;
  tokens = tokens_open text r.os r.row t.start (lexemes_at t.end text) (next_is text at t opens _ n k r.tokens);
  shaped = record {
    forms = f ∙ ap (λ fs. fs ++ (list_opening t.start ∷ [])) r.shaped.forms ∙ sym (forms_open r.os r.row t.start);
    open_ones = o ∙ ap (λ ps. ps ++ (length read.forms.items ∷ [])) r.shaped.open_ones ∙ ap (λ fs. places_of r.os ++ (length fs ∷ [])) r.shaped.forms;
  };
}

-- a word or a text
pub has_more : (text : List ℕ) (at : ℕ) (read new : Read) (t : Token) (more : Row) → HasRead text at read → IsNext text at t →
    record { lexeme = seen text t.kind t.start t.end; place = t.start } ∷ [] ≡ tokens_of text more → new.forms.items ≡ read.forms.items ++ flat more →
    new.open_lists.items ≡ read.open_lists.items → HasRead text t.end new
has_more text at read new t more r n k f o = record {
  os = r.os;
  row = joined r.row more;
  tokens = goes_on text r.os r.row more (lexemes_at t.end text)
      (next_is text at t _ _ n refl r.tokens ∙ ap (λ ts. (tokens_up_to text r.os ++ tokens_of text r.row) ++ (ts ++ lexemes_at t.end text)) k);
  shaped = record {
    forms = f ∙ ap (λ fs. fs ++ flat more) r.shaped.forms ∙ sym (forms_go_on r.os r.row more);
    open_ones = o ∙ r.shaped.open_ones;
  };
}

closes_so : (text : List ℕ) (at : ℕ) (new : Read) (t : Token) (os : List Opening) (row : Row) →
    lexemes_at 0 text ≡ (tokens_up_to text os ++ tokens_of text row) ++ lexemes_at at text → IsNext text at t →
    seen text t.kind t.start t.end ≡ closes → t.end ≡ t.start + 1 → Closed os row t.end true new → HasRead text t.end new
closes_so text at new t [] row h n k e c = let t : true ≡ false = c in cc
closes_so text at new t (o ∷ os) row h n k e c = record {
  os = os;
  row = joined o.before (a_list o.place row t.start nothing);
  tokens = tokens_close text o os row t.start (lexemes_at t.end text) (next_is text at t closes _ n k h);
  shaped = c.1 t.start e;
}

pub has_closed : (text : List ℕ) (at : ℕ) (read new : Read) (t : Token) → (r : HasRead text at read) → IsNext text at t →
    seen text t.kind t.start t.end ≡ closes → t.end ≡ t.start + 1 → Closed r.os r.row t.end true new → HasRead text t.end new
has_closed text at read new t r n k e c = closes_so text at new t r.os r.row r.tokens n k e c

-- the end of the text
fault_so : (text : List ℕ) (os : List Opening) (row : Row) (e : FormFault) → AreOpen text os row [] → Some e ≡ fault_at_end os → IsFaultOf text e
fault_so text [] row e h s = let t : Some e ≡ None = s in cc
fault_so text (o ∷ os) row e h s =
    let same : faults.Unclosed (length (o ∷ os)) o.place ≡ e = cc in
    let fault : IsUnclosed text (length (o ∷ os)) o.place =
    record { innermost = o; around = os; row = row; open_so = h; counted = refl; placed = refl } in
    subst (IsFaultOf text) same fault

pub is_fault : (text : List ℕ) (at : ℕ) (read : Read) (e : FormFault) → (r : HasRead text at read) → lexemes_at at text ≡ [] →
    Some e ≡ fault_at_end r.os → IsFaultOf text e
is_fault text at read e r over s =
    fault_so text r.os r.row e (r.tokens ∙ ap (λ ts. (tokens_up_to text r.os ++ tokens_of text r.row) ++ ts) over) s
