-- The code of a program in which no word starts a fiber.
use Rattle.std.{proofs.Common.{◌≡◌, ℕ, ◌+◌, Bool, true, false, List, [], ◌∷◌, ◌++◌, refl}, specs.Prelude.◌||◌}
use Rattle.effect_term.specs.{declared.term.Term.{Term, Row_of-Term, end_of-Term, more_of-Term}, Starts.{any_starts_fiber, starts_fiber}}
use Rattle.derived_ops.specs.{Tree.Tree, Source.Source, Reading.{seq_of, source_of}, Expansion.{bracket_case, code_of, expansion, guarantee}}
use Rattle.fiber_poll.proofs.Childless.{IsChildless}
use Rattle.effect_term.specs.declared.term.Term.TheVariants as term
use Rattle.derived_ops.specs.Source as word

-- no word of a program's term starts a fiber
abbrev IsSource : Source → Type 0
IsSource (word.Let e k) = IsSource e × IsSource k
IsSource (word.Seq w e k) = IsSource e × IsSource k
IsSource (word.Handle e h) = IsSource e × IsSource h
IsSource (word.If0 v s e) = IsSource s × IsSource e
IsSource (word.Uncancelable e) = IsSource e
IsSource (word.Poll p e) = IsSource e
IsSource (word.On_cancel e fin) = IsSource e × IsSource fin
IsSource (word.Start e k) = ⊥
IsSource (word.Join f s e c) = IsSource s × (IsSource e × IsSource c)
IsSource (word.Ref v k) = IsSource k
IsSource (word.Deferred k) = IsSource k
IsSource (word.Repeat v e) = IsSource e
IsSource (word.Forever e) = IsSource e
IsSource (word.Guarantee e fin) = IsSource e × IsSource fin
IsSource (word.Bracket acq body rel) = IsSource acq × (IsSource body × IsSource rel)
IsSource (word.Bracket_case acq body rs re rc) = IsSource acq × (IsSource body × (IsSource rs × (IsSource re × IsSource rc)))
IsSource (word.Bracket_full acq body rs re rc) = IsSource acq × (IsSource body × (IsSource rs × (IsSource re × IsSource rc)))
IsSource (word.Race a b) = ⊥
IsSource (word.Both a b k) = ⊥
IsSource _ = Unit {0}

or_left : (a b : Bool) → (a || b) ≡ false → a ≡ false
or_left true b h = h
or_left false b h = refl

or_right : (a b : Bool) → (a || b) ≡ false → b ≡ false
or_right true b h = absurd (cc)
or_right false b h = h

mutual
  source_childless : (t : Term) → starts_fiber t ≡ false → IsSource (source_of t)
  source_childless (term.Let' p e q k) h = (source_childless e (or_left _ _ h), source_childless k (or_right _ _ h))
  source_childless (term.Seq' p a q b s more) h =
      seq_childless (source_of a) (source_of b) more (source_childless a (or_left _ _ h)) (source_childless b (or_left _ _ (or_right _ _ h)))
      (or_right _ _ (or_right _ _ h))
  source_childless (term.Handle' p e q k) h = (source_childless e (or_left _ _ h), source_childless k (or_right _ _ h))
  source_childless (term.If0' v p s q e) h = (source_childless s (or_left _ _ h), source_childless e (or_right _ _ h))
  source_childless (term.Uncancelable' p e) h = source_childless e h
  source_childless (term.Poll' n p e) h = source_childless e h
  source_childless (term.OnCancel' p e q fin) h = (source_childless e (or_left _ _ h), source_childless fin (or_right _ _ h))
  source_childless (term.Start' p e q k) h = absurd (cc)
  source_childless (term.Join' f p s q e r c) h =
      (source_childless s (or_left _ _ h), (source_childless e (or_left _ _ (or_right _ _ h)), source_childless c (or_right _ _ (or_right _ _ h))))
  source_childless (term.Ref' v p k) h = source_childless k h
  source_childless (term.Deferred' p k) h = source_childless k h
  source_childless (term.Repeat' v p e) h = source_childless e h
  source_childless (term.Forever' p e) h = source_childless e h
  source_childless (term.Guarantee' p e q fin) h = (source_childless e (or_left _ _ h), source_childless fin (or_right _ _ h))
  source_childless (term.Bracket' p acq q body r rel) h =
      (source_childless acq (or_left _ _ h), (source_childless body (or_left _ _ (or_right _ _ h)), source_childless rel (or_right _ _ (or_right _ _ h))))
  source_childless (term.BracketCase' p acq q body r rs s re t rc) h =
      let one = or_right _ _ h in
      let two = or_right _ _ one in
      let three = or_right _ _ two in (
        source_childless acq (or_left _ _ h),
        (
          source_childless body (or_left _ _ one),
          (source_childless rs (or_left _ _ two), (source_childless re (or_left _ _ three), source_childless rc (or_right _ _ three))),
        ),
      )
  source_childless (term.BracketFull' p acq q body r rs s re t rc) h =
      let one = or_right _ _ h in
      let two = or_right _ _ one in
      let three = or_right _ _ two in (
        source_childless acq (or_left _ _ h),
        (
          source_childless body (or_left _ _ one),
          (source_childless rs (or_left _ _ two), (source_childless re (or_left _ _ three), source_childless rc (or_right _ _ three))),
        ),
      )
  source_childless (term.Race' p a q b) h = absurd (cc)
  source_childless (term.Both' p a q b r k) h = absurd (cc)
  source_childless _ h = tt

  seq_childless : {m : _} → (a b : Source) (more : Row_of-Term m) → IsSource a → IsSource b → any_starts_fiber more ≡ false → IsSource (seq_of a b more)
  seq_childless a b end_of-Term x y z = (x, y)
  seq_childless a b (more_of-Term c rest) x y z = (x, seq_childless b (source_of c) rest y (source_childless c (or_left _ _ z)) (or_right _ _ z))

-- ---- derived words
guarantee_childless : (d : ℕ) (e a b c : Tree) → IsChildless e → IsChildless a → IsChildless b → IsChildless c → IsChildless (guarantee d e a b c)
guarantee_childless d e a b c he ha hb hc = (((he, ha), ((hb, tt), tt)), (hc, tt))

bracket_childless : (d : ℕ) (acq body rs re rc : Tree) → IsChildless acq → IsChildless body → IsChildless rs → IsChildless re → IsChildless rc →
    IsChildless (bracket_case d acq body rs re rc)
bracket_childless d acq body rs re rc ha hb hs he hc =
    (ha, (tt, (((hb, (tt, ((hc, (tt, tt)), tt))), (tt, ((he, tt), (tt, tt)))), (tt, ((hs, (tt, tt)), (tt, tt))))))

expansion_childless : (m : List ℕ) (d : ℕ) (t : Source) → IsSource t → IsChildless (expansion m d t)
expansion_childless m d (word.Let e k) h = (expansion_childless m d e h.0, expansion_childless (m ++ d ∷ []) (d + 1) k h.1)
expansion_childless m d (word.Seq w e k) h = (expansion_childless m d e h.0, expansion_childless m d k h.1)
expansion_childless m d (word.Handle e k) h = (expansion_childless m d e h.0, expansion_childless (m ++ d ∷ []) (d + 1) k h.1)
expansion_childless m d (word.If0 v s e) h = (expansion_childless m d s h.0, expansion_childless m d e h.1)
expansion_childless m d (word.Uncancelable e) h = expansion_childless (m ++ d ∷ []) (d + 1) e h
expansion_childless m d (word.Poll p e) h = expansion_childless m d e h
expansion_childless m d (word.On_cancel e fin) h = (expansion_childless m d e h.0, expansion_childless m d fin h.1)
expansion_childless m d (word.Start e k) h = absurd h
expansion_childless m d (word.Join f s e c) h =
    (expansion_childless (m ++ d ∷ []) (d + 1) s h.0, (expansion_childless (m ++ d ∷ []) (d + 1) e h.1.0, expansion_childless m d c h.1.1))
expansion_childless m d (word.Ref v k) h = expansion_childless (m ++ d ∷ []) (d + 1) k h
expansion_childless m d (word.Deferred k) h = expansion_childless (m ++ d ∷ []) (d + 1) k h
expansion_childless m d (word.Repeat v e) h = expansion_childless m d e h
expansion_childless m d (word.Forever e) h = expansion_childless m d e h
expansion_childless m d (word.Guarantee e fin) h =
    guarantee_childless d (expansion m (d + 1) e) (expansion m (d + 1) fin) (expansion m (d + 2) fin) (expansion m (d + 2) fin)
    (expansion_childless m (d + 1) e h.0) (expansion_childless m (d + 1) fin h.1) (expansion_childless m (d + 2) fin h.1)
    (expansion_childless m (d + 2) fin h.1)
expansion_childless m d (word.Bracket acq body rel) h =
    let x = m ++ (d + 1) ∷ [] in
    bracket_childless d (expansion m (d + 1) acq) (expansion x (d + 3) body) (expansion x (d + 4) rel) (expansion x (d + 4) rel)
    (expansion x (d + 3) rel) (expansion_childless m (d + 1) acq h.0) (expansion_childless x (d + 3) body h.1.0)
    (expansion_childless x (d + 4) rel h.1.1) (expansion_childless x (d + 4) rel h.1.1) (expansion_childless x (d + 3) rel h.1.1)
expansion_childless m d (word.Bracket_case acq body rs re rc) h =
    let x = m ++ (d + 1) ∷ [] in
    let y = x ++ (d + 3) ∷ [] in
    bracket_childless d (expansion m (d + 1) acq) (expansion x (d + 3) body) (expansion y (d + 4) rs) (expansion y (d + 4) re)
    (expansion x (d + 3) rc) (expansion_childless m (d + 1) acq h.0) (expansion_childless x (d + 3) body h.1.0)
    (expansion_childless y (d + 4) rs h.1.1.0) (expansion_childless y (d + 4) re h.1.1.1.0) (expansion_childless x (d + 3) rc h.1.1.1.1)
expansion_childless m d (word.Bracket_full acq body rs re rc) h =
    let x = m ++ (d + 1) ∷ [] in
    let y = x ++ (d + 3) ∷ [] in
    bracket_childless d (expansion (m ++ d ∷ []) (d + 1) acq) (expansion x (d + 3) body) (expansion y (d + 4) rs) (expansion y (d + 4) re)
    (expansion x (d + 3) rc) (expansion_childless (m ++ d ∷ []) (d + 1) acq h.0) (expansion_childless x (d + 3) body h.1.0)
    (expansion_childless y (d + 4) rs h.1.1.0) (expansion_childless y (d + 4) re h.1.1.1.0) (expansion_childless x (d + 3) rc h.1.1.1.1)
expansion_childless m d (word.Race a b) h = absurd h
expansion_childless m d (word.Both a b k) h = absurd h
expansion_childless m d _ h = tt

pub code_childless : (t : Term) → starts_fiber t ≡ false → IsChildless (code_of (source_of t))
code_childless t h = expansion_childless [] 0 (source_of t) (source_childless t h)
