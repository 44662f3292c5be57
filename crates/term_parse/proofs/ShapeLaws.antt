-- Terms with the same atoms are the same but for where they lie in memory.
use Rattle.std.proofs.Common.{◌≡◌, List, [], ◌∷◌, ◌++◌, refl, ap, sym, ◌∙◌, append_assoc}
use Rattle.effect_term.specs.declared.term.Term.{Term, Row_of-Term, end_of-Term, more_of-Term, TheVariants.{Let', Seq', Handle', If0'}}
use Rattle.effect_term.specs.declared.term.Term.TheVariants.{Uncancelable', Poll', OnCancel', Start', Join', Ref'}
use Rattle.effect_term.specs.declared.term.Term.TheVariants.{Deferred', Repeat', Forever', Guarantee', Bracket', BracketCase'}
use Rattle.effect_term.specs.declared.term.Term.TheVariants.{BracketFull', Race', Both'}
use Rattle.term_parse.specs.{Atoms.{Atom, word, value, name, ended, atoms_of, row_atoms}, Shapes.{Shape, closed, value_then, name_then, form_then, term_then}}
use Rattle.term_parse.specs.Shapes.{row_then, shape_of}
use Rattle.term_parse.specs.declared.table.Word.TheVariants as words

abbrev pub flat : Shape → List Atom
flat closed = ended ∷ []
flat (value_then v s) = value v ∷ flat s
flat (name_then n s) = name n ∷ flat s
flat (form_then w i s) = word w ∷ (flat i ++ flat s)

-- no text of atoms ends within another
pub apart : (s r : Shape) (xs ys : List Atom) → flat s ++ xs ≡ flat r ++ ys → (s ≡ r) × (xs ≡ ys)
apart closed closed xs ys e = (refl, cc)
apart (value_then v s) (value_then w r) xs ys e =
    let same : v ≡ w = cc in
    let rest : flat s ++ xs ≡ flat r ++ ys = cc in
    let h = apart s r xs ys rest in
    (ap (λ x. value_then x s) same ∙ ap (value_then w) h.0, h.1)
apart (name_then v s) (name_then w r) xs ys e =
    let same : v ≡ w = cc in
    let rest : flat s ++ xs ≡ flat r ++ ys = cc in
    let h = apart s r xs ys rest in
    (ap (λ x. name_then x s) same ∙ ap (name_then w) h.0, h.1)
apart (form_then v i s) (form_then w j r) xs ys e =
    let same : v ≡ w = cc in
    let rest : (flat i ++ flat s) ++ xs ≡ (flat j ++ flat r) ++ ys = cc in
    let h = apart i j (flat s ++ xs) (flat r ++ ys) (sym (append_assoc (flat i) (flat s) xs) ∙ rest ∙ append_assoc (flat j) (flat r) ys) in
    let k = apart s r xs ys h.1 in
    (ap (λ x. form_then x i s) same ∙ ap (λ x. form_then w x s) h.0 ∙ ap (form_then w j) k.0, k.1)
apart s r xs ys e = cc

mutual
  pub flat_term : (t : Term) (rest : Shape) → flat (term_then t rest) ≡ atoms_of t ++ flat rest
  flat_term (Let' p e q k) rest =
      ap (λ x. word words.Let ∷ (x ++ flat rest)) (flat_term e (term_then k closed) ∙ ap (λ x. atoms_of e ++ x) (flat_term k closed))
  flat_term (Seq' p a q b shape more) rest =
      ap (λ x. word words.Seq ∷ (x ++ flat rest)) (flat_term a (term_then b (row_then more closed)) ∙
      ap (λ x. atoms_of a ++ x) (flat_term b (row_then more closed) ∙ ap (λ x. atoms_of b ++ x) (flat_row more closed)))
  flat_term (Handle' p e q h) rest =
      ap (λ x. word words.Handle ∷ (x ++ flat rest)) (flat_term e (term_then h closed) ∙ ap (λ x. atoms_of e ++ x) (flat_term h closed))
  flat_term (If0' v p s q e) rest =
      ap (λ x. word words.If0 ∷ (x ++ flat rest)) (ap (λ x. value v ∷ x) (flat_term s (term_then e closed) ∙ ap (λ x. atoms_of s ++ x) (flat_term e closed)))
  flat_term (Uncancelable' p e) rest = ap (λ x. word words.Uncancelable ∷ (x ++ flat rest)) (flat_term e closed)
  flat_term (Poll' n p e) rest = ap (λ x. word words.Poll ∷ (x ++ flat rest)) (ap (λ x. name n ∷ x) (flat_term e closed))
  flat_term (OnCancel' p e q fin) rest =
      ap (λ x. word words.OnCancel ∷ (x ++ flat rest)) (flat_term e (term_then fin closed) ∙ ap (λ x. atoms_of e ++ x) (flat_term fin closed))
  flat_term (Start' p e q k) rest =
      ap (λ x. word words.Start ∷ (x ++ flat rest)) (flat_term e (term_then k closed) ∙ ap (λ x. atoms_of e ++ x) (flat_term k closed))
  flat_term (Join' f p s q e r c) rest =
      ap (λ x. word words.Join ∷ (x ++ flat rest))
      (ap (λ x. name f ∷ x) (flat_term s (term_then e (term_then c closed)) ∙
      ap (λ x. atoms_of s ++ x) (flat_term e (term_then c closed) ∙ ap (λ x. atoms_of e ++ x) (flat_term c closed))))
  flat_term (Ref' v p k) rest = ap (λ x. word words.Ref ∷ (x ++ flat rest)) (ap (λ x. value v ∷ x) (flat_term k closed))
  flat_term (Deferred' p k) rest = ap (λ x. word words.Deferred ∷ (x ++ flat rest)) (flat_term k closed)
  flat_term (Repeat' v p e) rest = ap (λ x. word words.Repeat ∷ (x ++ flat rest)) (ap (λ x. value v ∷ x) (flat_term e closed))
  flat_term (Forever' p e) rest = ap (λ x. word words.Forever ∷ (x ++ flat rest)) (flat_term e closed)
  flat_term (Guarantee' p e q fin) rest =
      ap (λ x. word words.Guarantee ∷ (x ++ flat rest)) (flat_term e (term_then fin closed) ∙ ap (λ x. atoms_of e ++ x) (flat_term fin closed))
  flat_term (Bracket' p acq q body r rel) rest =
      ap (λ x. word words.Bracket ∷ (x ++ flat rest)) (flat_term acq (term_then body (term_then rel closed)) ∙
      ap (λ x. atoms_of acq ++ x) (flat_term body (term_then rel closed) ∙ ap (λ x. atoms_of body ++ x) (flat_term rel closed)))
  flat_term (BracketCase' p acq q body r rs s re t rc) rest =
      ap (λ x. word words.BracketCase ∷ (x ++ flat rest)) (flat_term acq (term_then body (term_then rs (term_then re (term_then rc closed)))) ∙
      ap (λ x. atoms_of acq ++ x) (flat_term body (term_then rs (term_then re (term_then rc closed))) ∙
      ap (λ x. atoms_of body ++ x) (flat_term rs (term_then re (term_then rc closed)) ∙
      ap (λ x. atoms_of rs ++ x) (flat_term re (term_then rc closed) ∙ ap (λ x. atoms_of re ++ x) (flat_term rc closed)))))
  flat_term (BracketFull' p acq q body r rs s re t rc) rest =
      ap (λ x. word words.BracketFull ∷ (x ++ flat rest)) (flat_term acq (term_then body (term_then rs (term_then re (term_then rc closed)))) ∙
      ap (λ x. atoms_of acq ++ x) (flat_term body (term_then rs (term_then re (term_then rc closed))) ∙
      ap (λ x. atoms_of body ++ x) (flat_term rs (term_then re (term_then rc closed)) ∙
      ap (λ x. atoms_of rs ++ x) (flat_term re (term_then rc closed) ∙ ap (λ x. atoms_of re ++ x) (flat_term rc closed)))))
  flat_term (Race' p a q b) rest =
      ap (λ x. word words.Race ∷ (x ++ flat rest)) (flat_term a (term_then b closed) ∙ ap (λ x. atoms_of a ++ x) (flat_term b closed))
  flat_term (Both' p a q b r k) rest =
      ap (λ x. word words.Both ∷ (x ++ flat rest)) (flat_term a (term_then b (term_then k closed)) ∙
      ap (λ x. atoms_of a ++ x) (flat_term b (term_then k closed) ∙ ap (λ x. atoms_of b ++ x) (flat_term k closed)))
  flat_term _ rest = refl

  flat_row : {m : _} (k : Row_of-Term m) (rest : Shape) → flat (row_then k rest) ≡ row_atoms k ++ flat rest
  flat_row end_of-Term rest = refl
  flat_row (more_of-Term t more) rest = flat_term t (row_then more rest) ∙ ap (λ x. atoms_of t ++ x) (flat_row more rest) ∙
      sym (append_assoc (atoms_of t) (row_atoms more) (flat rest))

pub same_shape : (t u : Term) → atoms_of t ≡ atoms_of u → shape_of t ≡ shape_of u
same_shape t u e = (apart (shape_of t) (shape_of u) [] []
    (ap (λ xs. xs ++ []) (flat_term t closed ∙ ap (λ xs. xs ++ (ended ∷ [])) e ∙ sym (flat_term u closed)))).0
