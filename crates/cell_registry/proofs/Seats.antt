-- What passes between seats: a new fiber gets a seat of its own, and one pass takes in another.
use Rattle.cell_registry.proofs.Prelude.{◌≡◌, ◌≢◌, ℕ, zero, suc, ◌+◌, ◌<◌, List, [], ◌∷◌, ◌++◌, length, set, get_or, ◌⊎◌, inl, inr, ⊎_elim, refl, sym, ap, ◌∙◌}
use Rattle.cell_registry.proofs.Prelude.{subst, arith, get_or-set_other, some, some-injective, some-ne-none, dite, ℕ_discrete, get_elem?, Me, Allows, Splits}
use Rattle.cell_registry.proofs.Prelude.{Joins, Final, Seen, set_else, Limits, Knowledge, AreLimits, IsOpen, cell_of, left, IsLegal, Has, seen_cell, Fits}
use Rattle.cell_registry.proofs.Prelude.{last_stored, StoredLast, Owns, Apart, WordsAreAHistory, first_knowledge, parent, child, hosting, nothing, Met}
use Rattle.cell_registry.proofs.Prelude.{IsLeftWord, replicate, None, value_place}
use Rattle.cell_registry.specs.Rule.{value_of}
use Rattle.cell_registry.proofs.Legal.{sound}
use Rattle.cell_registry.proofs.TableWords.{same_words, word_at, opening_words}
use Rattle.cell_registry.proofs.Lists.{get_or-replicate_default}
use Rattle.cell_registry.proofs.Turns.{Tells, looks, each_view, apart_still}
use Rattle.cell_registry.proofs.CellTurns.{own_stage}
use Rattle.cell_registry.proofs.Claiming.{same_now}

-- ---- a seat for a new fiber
at_push : (l : List Knowledge) (a b : Knowledge) (j : ℕ) → get_elem? (l ++ a ∷ []) j ≡ some b → (get_elem? l j ≡ some b) ⊎ ((j ≡ length l) × (a ≡ b))
at_push [] a b zero e = inr (refl, some-injective a b e)
at_push [] a b (suc j) e = absurd (some-ne-none b (sym e))
at_push (x ∷ xs) a b zero e = inl e
at_push (x ∷ xs) a b (suc j) e = ⊎_elim (λ t. inl t) (λ t. inr (ap suc t.0, t.1)) (at_push xs a b j e)

module _ {S : Type 0} where
  -- the pass u, which has just claimed the number n, gives it to a child
  splits_at : (k : Limits) (id : ℕ) (u : Knowledge) (n : ℕ) (fs : List ℕ) → ((f : ℕ) → Has fs f → f < n) → Has fs u.number →
      Splits {S = S} (WordsAreAHistory k) id (record u { fibers = n ∷ fs }) (parent (record u { fibers = n ∷ fs })) (child (record u { fibers = n ∷ fs }))
  splits_at k id u n fs below has s kept at =
      let v : Knowledge = record u { fibers = n ∷ fs } in
      let p : Knowledge = parent v in
      let c : Knowledge = child v in
      let h = kept.0 in let r = kept.1 in
      let mine : Fits k h v = r.fits id v at in
      let fits_p : Fits k h p = record {
        limits = λ f a. mine.limits f (inr a);
        seen = mine.seen;
        heard = (h, refl);
        own = λ f a. mine.own f (inr a);
        guest = λ f a. absurd a;
        apart = λ f _ b. absurd b;
      } in
      let own_c = λ (f : ℕ) (a : Has (n ∷ []) f). let b : n ≡ f = ⊎_elim (λ (x : n ≡ f). x) (λ x. absurd x) a in mine.own f (inl b) in
      let fits_c : Fits k h c = record {
        limits = λ f a. mine.limits n (inl refl);
        seen = mine.seen;
        heard = (h, refl);
        own = own_c;
        guest = λ f a. absurd a;
        apart = λ f _ b. absurd b;
      } in
      let of_child : (f : ℕ) → Owns c f → n ≡ f =
      λ f a. ⊎_elim (λ (b : Has (n ∷ []) f). ⊎_elim (λ (x : n ≡ f). x) (λ x. absurd x) b) (λ (b : Has [] f). absurd b) a in
      let of_parent : (f : ℕ) → Owns p f → Has fs f = λ f a. ⊎_elim (λ (b : Has fs f). b) (λ (b : Has [] f). absurd b) a in
      let last = r.stored id v at in
      let later : n ≢ u.number = let lt = below u.number has in λ (q : n ≡ u.number). omega arith in
      let stored_p : StoredLast k s.words h p =
      record { own = λ a opened. last.own (inr a) opened; others = λ f a ne opened. last.others f (inl (inr (of_parent f a))) ne opened } in
      let stored_c : StoredLast k s.words h c =
      record { own = λ a opened. last.others n (inl (inl refl)) later opened; others = λ f a ne opened. absurd (ne (sym (of_child f a))) } in
      let with_child : (j : ℕ) (x : Knowledge) → get_elem? (set s.views id p) j ≡ some x → Apart x c = each_view (λ j x. Apart x c) s.views id p
      (λ j x other atj f a b. r.apart id j v x at atj other f (inl (inl (of_child f b))) a)
      (λ f a b. let is = of_child f b in let lt = below f (of_parent f a) in omega arith) in
      let apart_set = apart_still s.views id p r.apart (λ j x other atj f a b. r.apart id j v x at atj other f (inl (inr (of_parent f a))) b) in (
        h,
        record {
          limits = r.limits;
          legal = r.legal;
          words_are = r.words_are;
          fits = λ j x e. ⊎_elim (λ old. each_view (λ j x. Fits k h x) s.views id p (λ j x other atj. r.fits j x atj) fits_p j x old)
              (λ (t : (j ≡ length (set s.views id p)) × (c ≡ x)). subst (Fits k h) t.1 fits_c) (at_push (set s.views id p) c x j e);
          stored = λ j x e. ⊎_elim
              (λ old. each_view (λ j x. StoredLast k s.words h x) s.views id p (λ j x other atj. r.stored j x atj) stored_p j x old)
              (λ (t : (j ≡ length (set s.views id p)) × (c ≡ x)). subst (StoredLast k s.words h) t.1 stored_c) (at_push (set s.views id p) c x j e);
          unborn = r.unborn;
          apart = λ i j x y ei ej ne. ⊎_elim
              (λ oldi. ⊎_elim
              (λ oldj. apart_set i j x y oldi oldj ne)
              (λ (t : (j ≡ length (set s.views id p)) × (c ≡ y)). subst (Apart x) t.1 (with_child i x oldi))
              (at_push (set s.views id p) c y j ej))
              (λ (q : (i ≡ length (set s.views id p)) × (c ≡ x)). ⊎_elim
              (λ oldj. λ f a b. with_child j y oldj f b (subst (λ (z : Knowledge). Owns z f) (sym q.1) a))
              (λ (t : (j ≡ length (set s.views id p)) × (c ≡ y)). absurd (ne (t.0 ∙ sym q.0)))
              (at_push (set s.views id p) c y j ej))
              (at_push (set s.views id p) c x i ei);
        },
      )

  pub splits : (k : Limits) (id : ℕ) (w : Knowledge) (n : ℕ) (fs : List ℕ) → w.fibers ≡ n ∷ fs → ((f : ℕ) → Has fs f → f < n) → Has fs w.number →
      Splits {S = S} (WordsAreAHistory k) id w (parent w) (child w)
  splits k id w n fs is below has =
      subst (λ (v : Knowledge). Splits {S = S} (WordsAreAHistory k) id v (parent v) (child v)) (λ j. record w { fibers = sym is j })
      (splits_at k id w n fs below has)

-- ---- one pass takes in another
-- where a view and a fiber of it come from, after a pass took in another
record Comes (views : List Knowledge) (id other i f : ℕ) : Type 0 where
  place : ℕ
  view : Knowledge
  at : get_elem? views place ≡ some view
  owns : Owns view f
  how : ((place ≡ i) × (i ≢ other)) ⊎ ((i ≡ id) × (place ≡ other))

comes : (views : List Knowledge) (id other : ℕ) (v w : Knowledge) → get_elem? views id ≡ some v → ¬ (other ≡ id) → get_elem? views other ≡ some w
    → (i : ℕ) (x : Knowledge) → get_elem? (set (set views id (hosting v w)) other nothing) i ≡ some x → (f : ℕ) → Owns x f → Comes views id other i f
comes views id other v w at apart there = each_view (λ i x. (f : ℕ) → Owns x f → Comes views id other i f) (set views id (hosting v w)) other nothing
    (λ i x ne ati. each_view (λ i x. i ≢ other → (f : ℕ) → Owns x f → Comes views id other i f) views id (hosting v w)
    (λ i x nid ati ne f a. record { place = i; view = x; at = ati; owns = a; how = inl (refl, ne) })
    (λ ne f a. ⊎_elim (λ (b : Has v.fibers f). let z : Comes views id other id f =
    record { place = id; view = v; at = at; owns = inl b; how = inl (refl, ne) } in z) (λ (b : Has w.fibers f). let z :
    Comes views id other id f = record { place = other; view = w; at = there; owns = inl b; how = inr (refl, refl) } in z) a)
    i x ati ne)
    (λ f a. absurd (⊎_elim (λ (b : Has [] f). b) (λ (b : Has [] f). b) a))

-- two views that own one fiber are one
one_place : (views : List Knowledge) (id other i j f : ℕ) →
    ((i j : ℕ) (x y : Knowledge) → get_elem? views i ≡ some x → get_elem? views j ≡ some y → j ≢ i → Apart x y) → ¬ (other ≡ id) → j ≢ i →
    Comes views id other i f → Comes views id other j f → ⊥
one_place views id other i j f apart ne ij a b = ab
  where
    go : (a.place ≡ b.place) → ((a.place ≡ i) × (i ≢ other)) ⊎ ((i ≡ id) × (a.place ≡ other)) → ((b.place ≡ j) × (j ≢ other)) ⊎
        ((j ≡ id) × (b.place ≡ other)) → ⊥
    go q x y = ⊎_elim
        (λ (s : (a.place ≡ i) × (i ≢ other)). ⊎_elim (λ (t : (b.place ≡ j) × (j ≢ other)). ij (sym t.0 ∙ sym q ∙ s.0))
        (λ (t : (j ≡ id) × (b.place ≡ other)). s.1 (sym s.0 ∙ q ∙ t.1)) y)
        (λ (s : (i ≡ id) × (a.place ≡ other)). ⊎_elim (λ (t : (b.place ≡ j) × (j ≢ other)). t.1 (sym t.0 ∙ sym q ∙ s.1))
        (λ (t : (j ≡ id) × (b.place ≡ other)). ij (t.0 ∙ sym s.0)) y)
        x

    ab : ⊥
    ab = dite (ℕ_discrete b.place a.place) (λ same. go (sym same) a.how b.how) (λ ne'. apart a.place b.place a.view b.view a.at b.at ne' f a.owns b.owns)

pub has_append : (xs bs : List ℕ) (f : ℕ) → Has (xs ++ bs) f → Has xs f ⊎ Has bs f
has_append [] bs f a = inr a
has_append (x ∷ xs) bs f a = ⊎_elim (λ e. inl (inl e)) (λ b. ⊎_elim (λ c. inl (inr c)) (λ c. inr c) (has_append xs bs f b)) a

pub in_append : (xs bs : List ℕ) (f : ℕ) → Has xs f → Has (xs ++ bs) f
in_append [] bs f a = absurd a
in_append (x ∷ xs) bs f a = ⊎_elim (λ e. inl e) (λ b. inr (in_append xs bs f b)) a

module _ {S : Type 0} where
  -- the other's fiber has ended, or its pass has stored nothing
  pub hosts : (k : Limits) (id other : ℕ) (v w : Knowledge) → Has w.fibers w.number → (IsOpen (seen_cell w w.number).stage → w.stored ≡ None) →
      Joins {S = S} (WordsAreAHistory k) id v other w (hosting v w) nothing
  hosts k id other v w has unstored s kept at apart there' =
      let h = kept.0 in let r = kept.1 in
      let there : get_elem? s.views other ≡ some w = sym (set_else s.views id other (hosting v w) apart) ∙ there' in
      let mine : Fits k h v = r.fits id v at in
      let theirs : Fits k h w = r.fits other w there in
      let both : Fits k h (hosting v w) = record {
        limits = mine.limits;
        seen = mine.seen;
        heard = theirs.seen;
        own = mine.own;
        guest = theirs.own;
        apart = λ f a b. r.apart id other v w at there apart f (inl a) (inl b);
      } in
      let guests : (f : ℕ) → Has w.fibers f → IsOpen (cell_of (left k h) f).stage → value_of k s.words f ≡ 0 = λ f a opened. dite (ℕ_discrete f w.number)
      (λ (q : f ≡ w.number).
      let now : IsOpen (cell_of (left k h) w.number).stage = subst (λ (g : ℕ). IsOpen (cell_of (left k h) g).stage) q opened in
      ap (value_of k s.words) q ∙ (r.stored other w there).own has now ∙ ap last_stored (unstored (subst IsOpen (own_stage k h w has theirs) now)))
      (λ ne. (r.stored other w there).others f (inl a) ne opened) in
      let stored_both : StoredLast k s.words h (hosting v w) = record {
        own = (r.stored id v at).own;
        others = λ f a ne opened. ⊎_elim (λ (b : Has v.fibers f). (r.stored id v at).others f (inl b) ne opened) (λ (b : Has w.fibers f). guests f b opened) a;
      } in
      let stored_gone : StoredLast k s.words h nothing =
      record { own = λ a. absurd a; others = λ f a. absurd (⊎_elim (λ (b : Has [] f). b) (λ (b : Has [] f). b) a) } in
      let gone : Fits k h nothing = record {
        limits = λ f a. absurd a;
        seen = (h, refl);
        heard = (h, refl);
        own = λ f a. absurd a;
        guest = λ f a. absurd a;
        apart = λ f a _. absurd a;
      } in (
        h,
        record {
          limits = r.limits;
          legal = r.legal;
          words_are = r.words_are;
          fits = each_view (λ j u. Fits k h u) (set s.views id (hosting v w)) other nothing
              (λ j u _ atj. each_view (λ j u. Fits k h u) s.views id (hosting v w) (λ j u _ atj. r.fits j u atj) both j u atj) gone;
          stored = each_view (λ j u. StoredLast k s.words h u) (set s.views id (hosting v w)) other nothing
              (λ j u _ atj. each_view (λ j u. StoredLast k s.words h u) s.views id (hosting v w) (λ j u _ atj. r.stored j u atj) stored_both j u atj)
              stored_gone;
          unborn = r.unborn;
          apart = λ i j x y ei ej ij f a b. one_place s.views id other i j f r.apart apart ij (comes s.views id other v w at apart there i x ei f a)
              (comes s.views id other v w at apart there j y ej f b);
        },
      )

  pub meets : (k : Limits) (id : ℕ) (me : Me S Knowledge) (slots : ℕ) → me.1 ≡ [] → Has me.0.fibers me.0.number →
      Allows (WordsAreAHistory k) slots id me 0 (λ n. n) (Tells (λ _ w. Met me.0 w))
  meets k id me slots none_out has = let v : Knowledge = me.0 in looks k id me 0 (λ _ w. Met v w) slots none_out has (λ h words legal leaves mine.
      let w : Knowledge = record v { seen = h; fibers = v.fibers ++ v.guests; guests = []; heard = [] } in record {
        view = w;
        word = same_words words (left k h) 0 leaves;
        place = omega arith;
        limits = refl;
        number = refl;
        stored = refl;
        seen = refl;
        guests = refl;
        heard = refl;
        fibers = λ g a. has_append v.fibers v.guests g a;
        told = record {
          seen = mine.seen;
          heard = mine.heard;
          legal = subst (λ (x : Limits). IsLegal x h) (sym (mine.limits v.number has)) legal;
          own = λ f a. (mine.own f a).calls;
          guest = λ f a. (mine.guest f a).calls;
          apart = mine.apart;
          limits = refl;
          fibers = refl;
          number = refl;
          stored = refl;
          cell = same_now k h v has mine;
        };
      })

-- ---- the table at the start
pub begins : (S : Type 0) (k : Limits) (words : List ℕ) → AreLimits k →
    words ≡ set (replicate (k.fibers + k.refs + k.deferreds + k.fibers + 3) 0) 0 1 →
    WordsAreAHistory {S = S} k record { words = words; homes = []; views = first_knowledge k ∷ [] }
unfolding left IsLegal
begins S k words limits is = (
  [],
  record { limits = limits; legal = tt; words_are = opening_words k words is; fits = one; stored = nothing_yet; unborn = λ f _. zero_at f; apart = two },
)
  where
    fits : Fits k [] (first_knowledge k)
    fits = record {
      limits = λ f a. refl;
      seen = ([], refl);
      heard = ([], refl);
      own = λ f a. record { calls = refl; cell = refl; born = ⊎_elim (λ (e : 0 ≡ f). omega arith) (λ b. absurd b) a };
      guest = λ f a. absurd a;
      apart = λ f _ b. absurd b;
    }

    one : (i : ℕ) (v : Knowledge) → get_elem? (first_knowledge k ∷ []) i ≡ some v → Fits k [] v
    one zero v e = subst (Fits k []) (some-injective (first_knowledge k) v e) fits
    one (suc i) v e = absurd (some-ne-none v (sym e))

    zero_at : (f : ℕ) → value_of k words f ≡ 0
    zero_at f = ap (λ (ws : List ℕ). get_or ws (value_place k f) 0) is ∙
        get_or-set_other (replicate (k.fibers + k.refs + k.deferreds + k.fibers + 3) 0) 0 (value_place k f) 1 0 (λ q. omega arith) ∙
        get_or-replicate_default 0 (k.fibers + k.refs + k.deferreds + k.fibers + 3) (value_place k f)

    nothing_yet : (i : ℕ) (v : Knowledge) → get_elem? (first_knowledge k ∷ []) i ≡ some v → StoredLast k words [] v
    nothing_yet zero v e =
        subst (StoredLast k words []) (some-injective (first_knowledge k) v e) record { own = λ _ _. zero_at 0; others = λ f _ _ _. zero_at f }
    nothing_yet (suc i) v e = absurd (some-ne-none v (sym e))

    two : (i j : ℕ) (v w : Knowledge) → get_elem? (first_knowledge k ∷ []) i ≡ some v → get_elem? (first_knowledge k ∷ []) j ≡ some w → j ≢ i → Apart v w
    two zero zero v w a b ne = absurd (ne refl)
    two zero (suc j) v w a b ne = absurd (some-ne-none w (sym b))
    two (suc i) j v w a b ne = absurd (some-ne-none v (sym a))

-- ---- the table at the end
pub get_elem?-get_or : (l : List ℕ) (i a : ℕ) → get_elem? l i ≡ some a → get_or l i 0 ≡ a
get_elem?-get_or [] i a e = absurd (some-ne-none a (sym e))
get_elem?-get_or (x ∷ xs) zero a e = some-injective x a e
get_elem?-get_or (x ∷ xs) (suc i) a e = get_elem?-get_or xs i a e

-- the word of a fiber is what one legal history leaves, which begins with what the last seat had seen
pub last_word : (S : Type 0) (k : Limits) (words : List ℕ) (slots : List S) (id f i n : ℕ) (v : Knowledge) →
    Final (Seen (WordsAreAHistory {S = S} k) id v) words slots → i ≡ f + 3 → f < k.fibers → get_elem? words i ≡ some n → IsLeftWord k v.fibers v.seen f n
last_word S k words slots id f i n v final is within e =
    let s = final.0 in
    let h = final.1.0.0 in
    let r = final.1.0.1 in
    let long = (sound k h r.limits r.legal).fibers in
    record {
      history = h;
      begins = (r.fits id v final.1.1).seen;
      legal = r.legal;
      own = λ g has. ((r.fits id v final.1.1).own g has).calls;
      word = sym (get_elem?-get_or words i n e) ∙ ap (λ (ws : List ℕ). get_or ws i 0) (sym final.2) ∙
          word_at s.words (left k h) f i r.words_are is (rw long within);
    }
