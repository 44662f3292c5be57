-- One step of one pass keeps the rule: proved once, for every call.
use Rattle.cell_registry.proofs.Prelude.{◌≡◌, ◌≢◌, ℕ, ◌+◌, ◌<◌, ◌≤◌, List, [], ◌∷◌, ◌++◌, set, get_or, ◌⊎◌, inl, inr, ⊎_elim, refl, sym, ap, ◌∙◌, subst, arith}
use Rattle.cell_registry.proofs.Prelude.{append_assoc, append-nil, get_or-set_other, some, IsPrefix, get_elem?, State, Me, Act, keeps, Valid, stepped}
use Rattle.cell_registry.proofs.Prelude.{carried_after, Allows, set-get_or, at_set, set_again, Limits, Call, Entry, Knowledge, AreLimits, owned, IsOpen, Cells}
use Rattle.cell_registry.proofs.Prelude.{cell_of, after, reply_of, IsAccepted, left, IsLegal, calls_by, Leaves, value_place, Has, IsQuietSince, Fits}
use Rattle.cell_registry.proofs.Prelude.{last_stored, StoredLast, Owns, Apart, IsHistory, WordsAreAHistory, entry, Called}
use Rattle.cell_registry.specs.Rule.{value_of}
use Rattle.cell_registry.proofs.Calls.{next_fiber-rises, owned-after}
use Rattle.cell_registry.proofs.Legal.{left-push, IsLegal-push, calls_by-push, calls_by-other}
use Rattle.cell_registry.proofs.Told.{open_before}

longer : (v h : List Entry) (e : Entry) → IsPrefix v h → IsPrefix v (h ++ e ∷ [])
longer v h e p = (p.0 ++ e ∷ [], sym (append_assoc v p.0 (e ∷ [])) ∙ ap (λ (l : List Entry). l ++ e ∷ []) p.1)

-- the fiber has made no call up to now
pub quiet_now : (k : Limits) (h : List Entry) (f : ℕ) → f < (left k h).next_fiber → IsQuietSince k h h f
quiet_now k h f born = record { calls = refl; cell = refl; born = born }

quiet_still : (k : Limits) (h g : List Entry) (e : Entry) (f : ℕ) → e.by ≢ f → IsQuietSince k h g f → IsQuietSince k (h ++ e ∷ []) g f
quiet_still k h g e f apart o = record {
  calls = calls_by-other f h e apart ∙ o.calls;
  cell = ap (λ (s : Cells). owned (cell_of s f)) (left-push k h e) ∙ owned-after (left k h) e.by e.call f apart ∙ o.cell;
  born = rw (left-push k h e) (let p = o.born in let q = next_fiber-rises (left k h) e.by e.call in omega arith);
}

-- another pass, after an entry that is not of its fibers
fits_still : (k : Limits) (h : List Entry) (e : Entry) (u : Knowledge) → ((f : ℕ) → Owns u f → e.by ≢ f) → Fits k h u → Fits k (h ++ e ∷ []) u
fits_still k h e u apart o = record {
  limits = o.limits;
  seen = longer u.seen h e o.seen;
  heard = longer u.heard h e o.heard;
  own = λ f has. quiet_still k h u.seen e f (apart f (inl has)) (o.own f has);
  guest = λ f has. quiet_still k h u.heard e f (apart f (inr has)) (o.guest f has);
  apart = o.apart;
}

-- a pass that has seen all, and has no guest
pub fits_now : (k : Limits) (h : List Entry) (w : Knowledge) → w.limits ≡ k → w.seen ≡ h → w.guests ≡ [] → w.heard ≡ [] →
    ((f : ℕ) → Has w.fibers f → f < (left k h).next_fiber) → Fits k h w
fits_now k h w limits seen guests heard born = record {
  limits = λ f has. limits;
  seen = ([], append-nil w.seen ∙ seen);
  heard = (h, rw heard refl);
  own = λ f has. subst (λ (g : List Entry). IsQuietSince k h g f) (sym seen) (quiet_now k h f (born f has));
  guest = λ f has. absurd (subst (λ (fs : List ℕ). Has fs f) guests has);
  apart = λ f _ has. absurd (subst (λ (fs : List ℕ). Has fs f) guests has);
}

pub owner_born : (k : Limits) (h : List Entry) (v : Knowledge) (f : ℕ) → Fits k h v → Owns v f → f < (left k h).next_fiber
owner_born k h v f o = λ a. ⊎_elim (λ (b : Has v.fibers f). (o.own f b).born) (λ (b : Has v.guests f). (o.guest f b).born) a

-- a fact on each view and its place, after one view was changed
pub each_view : (P : ℕ → Knowledge → Type 0) (views : List Knowledge) (id : ℕ) (w : Knowledge) →
    ((j : ℕ) (u : Knowledge) → j ≢ id → get_elem? views j ≡ some u → P j u) → P id w → (j : ℕ) (u : Knowledge) → get_elem? (set views id w) j ≡ some u → P j u
each_view P views id w others mine j u e =
    ⊎_elim
    (λ (x : (j ≡ id) × (w ≡ u)). subst (λ (y : ℕ × Knowledge). P y.0 y.1) (λ i. (sym x.0 i, x.1 i)) mine)
    (λ (x : (j ≢ id) × (get_elem? views j ≡ some u)). others j u x.0 x.1)
    (at_set views id j w u e)

-- the views stay apart, where the one that changed stays apart from each other one
pub apart_still : (views : List Knowledge) (id : ℕ) (w : Knowledge) →
    ((i j : ℕ) (x y : Knowledge) → get_elem? views i ≡ some x → get_elem? views j ≡ some y → j ≢ i → Apart x y)
    → ((j : ℕ) (u : Knowledge) → j ≢ id → get_elem? views j ≡ some u → Apart w u)
    → (i j : ℕ) (x y : Knowledge) → get_elem? (set views id w) i ≡ some x → get_elem? (set views id w) j ≡ some y → j ≢ i → Apart x y
apart_still views id w before mine =
    λ i j x y ei ej ne. each_view (λ i x. (j : ℕ) (y : Knowledge) → get_elem? (set views id w) j ≡ some y → j ≢ i → Apart x y) views id w
    (λ i x other at. each_view (λ j y. j ≢ i → Apart x y) views id w (λ j y _ atj ne. before i j x y at atj ne) (λ ne f a b. mine i x other at f b a))
    (each_view (λ j y. j ≢ id → Apart w y) views id w (λ j y other atj ne. mine j y other atj) (λ ne. absurd (ne refl)))
    i x ei j y ej ne

-- ---- the value words
-- a step at a word of another kind leaves them
value_kept : (k : Limits) (words : List ℕ) (i x f : ℕ) → i < 3 + k.fibers + k.refs + k.deferreds →
    get_or (set words i x) (value_place k f) 0 ≡ get_or words (value_place k f) 0
value_kept k words i x f below = get_or-set_other words i (value_place k f) x 0 (λ q. omega arith)

-- another pass, after an entry that is not of its fibers
stored_still : (k : Limits) (words : List ℕ) (i x : ℕ) (h : List Entry) (e : Entry) (u : Knowledge) → i < 3 + k.fibers + k.refs + k.deferreds →
    ((f : ℕ) → Owns u f → e.by ≢ f) → StoredLast k words h u → StoredLast k (set words i x) (h ++ e ∷ []) u
stored_still k words i x h e u below apart s = record {
  own = λ has opened. value_kept k words i x u.number below ∙ s.own has (before u.number (inl has) opened);
  others = λ f owns ne opened. value_kept k words i x f below ∙ s.others f owns ne (before f owns opened);
}
  where
    before : (f : ℕ) → Owns u f → IsOpen (cell_of (left k (h ++ e ∷ [])) f).stage → IsOpen (cell_of (left k h) f).stage
    before f owns opened =
        let same : owned (cell_of (left k (h ++ e ∷ [])) f) ≡ owned (cell_of (left k h) f) =
        ap (λ (t : Cells). owned (cell_of t f)) (left-push k h e) ∙ owned-after (left k h) e.by e.call f (apart f owns) in
        subst IsOpen (ap (λ o. o.0) same) opened

-- a pass, where the history stays
stored_kept : (k : Limits) (words : List ℕ) (i x : ℕ) (h : List Entry) (u : Knowledge) → i < 3 + k.fibers + k.refs + k.deferreds →
    StoredLast k words h u → StoredLast k (set words i x) h u
stored_kept k words i x h u below s = record {
  own = λ has opened. value_kept k words i x u.number below ∙ s.own has opened;
  others = λ f owns ne opened. value_kept k words i x f below ∙ s.others f owns ne opened;
}

-- the same pass, where no fiber that has not ended now had ended before, and where it has got no fiber but those whose
-- value words are 0
stored_as : (k : Limits) (words ws : List ℕ) (g h : List Entry) (v w : Knowledge) → w.number ≡ v.number → w.stored ≡ v.stored → Has v.fibers v.number
    → ((f : ℕ) → IsOpen (cell_of (left k h) f).stage → IsOpen (cell_of (left k g) f).stage)
    → ((f : ℕ) → value_of k ws f ≡ value_of k words f)
    → ((f : ℕ) → Owns w f → Owns v f ⊎ (value_of k words f ≡ 0)) → StoredLast k words g v → StoredLast k ws h w
stored_as k words ws g h v w number stored has before same got s = record {
  own = λ _ opened. ap (value_of k ws) number ∙ same v.number ∙
      s.own has (before v.number (subst (λ (f : ℕ). IsOpen (cell_of (left k h) f).stage) number opened)) ∙ ap last_stored (sym stored);
  others = λ f owns ne opened. same f ∙
      ⊎_elim (λ (o : Owns v f). s.others f o (λ (q : f ≡ v.number). ne (q ∙ sym number)) (before f opened)) (λ (z : value_of k words f ≡ 0). z) (got f owns);
}

-- what one call has to show, where h is the history before it
pub record Turn (k : Limits) (v : Knowledge) (i x : ℕ) (then : ℕ → Knowledge → Type 0) (h : List Entry) (words : List ℕ) : Type 0 where
  pub call : Call
  pub accepted : IsAccepted k (left k h) v.number call
  pub word : Leaves (set words i x) (after (left k h) v.number call)
  pub place : i < 3 + k.fibers + k.refs + k.deferreds
  pub view : Knowledge
  pub limits : view.limits ≡ v.limits
  pub number : view.number ≡ v.number
  pub stored : view.stored ≡ v.stored
  pub seen : view.seen ≡ h ++ entry v.number call (reply_of (left k h) v.number call) ∷ []
  pub guests : view.guests ≡ []
  pub heard : view.heard ≡ []
  pub fibers : (g : ℕ) → Has view.fibers g → Has v.fibers g ⊎ (((left k h).next_fiber ≤ g) × (g < (after (left k h) v.number call).next_fiber))
  pub told : Called v call (reply_of (left k h) v.number call) view → then (get_or words i 0) view

-- what a step that makes no call has to show: the pass has the view afterwards, and has seen the history of that moment
pub record Look (k : Limits) (v : Knowledge) (i x : ℕ) (then : ℕ → Knowledge → Type 0) (h : List Entry) (words : List ℕ) : Type 0 where
  pub view : Knowledge
  pub word : Leaves (set words i x) (left k h)
  pub place : i < 3 + k.fibers + k.refs + k.deferreds
  pub limits : view.limits ≡ v.limits
  pub number : view.number ≡ v.number
  pub stored : view.stored ≡ v.stored
  pub seen : view.seen ≡ h
  pub guests : view.guests ≡ []
  pub heard : view.heard ≡ []
  pub fibers : (g : ℕ) → Has view.fibers g → Owns v g
  pub told : then (get_or words i 0) view

module _ {S : Type 0} where
  -- at one moment: the word i becomes x, the pass gets a view, and `then` is told
  abbrev pub Goes : Limits → State S Knowledge → ℕ → ℕ → ℕ → Me S Knowledge → (ℕ → Me S Knowledge → Type 0) → Type 0
  Goes k s i x id me then = (w : Knowledge) × (a : Act S) × Valid s.homes me.1 a × WordsAreAHistory k (stepped s i x id me.1 w a) ×
      then (get_or s.words i 0) (w, carried_after me.1 a)

  abbrev pub Tells : (ℕ → Knowledge → Type 0) → ℕ → Me S Knowledge → Type 0
  Tells then n now = (now.1 ≡ []) × then n now.0

  pub turn_at : (k : Limits) (id : ℕ) (me : Me S Knowledge) (i x : ℕ) (then : ℕ → Knowledge → Type 0) → me.1 ≡ [] → Has me.0.fibers me.0.number
      → (s : State S Knowledge) (kept : WordsAreAHistory k s) → get_elem? s.views id ≡ some me.0 → Turn k me.0 i x then kept.0 s.words →
      Goes k s i x id me (Tells then)
  turn_at k id me i x then none_out has s kept at t =
      let v : Knowledge = me.0 in
      let h = kept.0 in let r = kept.1 in
      let mine : Fits k h v = r.fits id v at in
      let limits : v.limits ≡ k = mine.limits v.number has in
      let e : Entry = entry v.number t.call (reply_of (left k h) v.number t.call) in
      let w : Knowledge = t.view in
      let push = left-push k h e in
      let up = next_fiber-rises (left k h) v.number t.call in
      let legal = IsLegal-push k h e r.legal record { born = (mine.own v.number has).born; accepted = t.accepted; replied = refl } in
      let kept' : IsHistory k (set s.words i x) (set s.views id w) (h ++ e ∷ []) = record {
        limits = r.limits;
        legal = legal;
        words_are = subst (Leaves (set s.words i x)) (sym push) t.word;
        fits = each_view (λ j u. Fits k (h ++ e ∷ []) u) s.views id w
            (λ j u other atj. fits_still k h e u (λ g hasu is. r.apart id j v u at atj other g (subst (Owns v) is (inl has)) hasu) (r.fits j u atj))
            (fits_now k (h ++ e ∷ []) w (t.limits ∙ limits) t.seen t.guests t.heard
            (λ g hasw. rw push (⊎_elim (λ (a : Has v.fibers g). let b = (mine.own g a).born in let c :
            g < (after (left k h) v.number t.call).next_fiber = omega arith in c) (λ b. b.1) (t.fibers g hasw))));
        stored = each_view (λ j u. StoredLast k (set s.words i x) (h ++ e ∷ []) u) s.views id w
            (λ j u other atj. stored_still k s.words i x h e u t.place
            (λ g hasu is. r.apart id j v u at atj other g (subst (Owns v) is (inl has)) hasu) (r.stored j u atj))
            (stored_as k s.words (set s.words i x) h (h ++ e ∷ []) v w t.number t.stored has
            (λ f opened. open_before k (left k h) v.number t.call f t.accepted.allowed (subst (λ (c : Cells). IsOpen (cell_of c f).stage) push opened))
            (λ f. value_kept k s.words i x f t.place)
            (λ f owns. ⊎_elim
            (λ (hasw : Has w.fibers f). ⊎_elim (λ (a : Has v.fibers f). inl (inl a))
            (λ (b : ((left k h).next_fiber ≤ f) × (f < (after (left k h) v.number t.call).next_fiber)). inr (r.unborn f b.0)) (t.fibers f hasw))
            (λ (no : Has w.guests f). absurd (subst (λ (fs : List ℕ). Has fs f) t.guests no)) owns)
            (r.stored id v at));
        unborn = λ f low.
            let after_low : (after (left k h) v.number t.call).next_fiber ≤ f = subst (λ (c : Cells). c.next_fiber ≤ f) push low in
            value_kept k s.words i x f t.place ∙ r.unborn f (omega arith);
        apart = apart_still s.views id w r.apart
            (λ j u other atj g ownw hasu. ⊎_elim
            (λ (hasw : Has w.fibers g). ⊎_elim (λ (a : Has v.fibers g). r.apart id j v u at atj other g (inl a) hasu)
            (λ (b : ((left k h).next_fiber ≤ g) × (g < (after (left k h) v.number t.call).next_fiber)). let low = b.0 in let c =
            owner_born k h u g (r.fits j u atj) hasu in absurd (omega arith)) (t.fibers g hasw))
            (λ (no : Has w.guests g). absurd (subst (λ (fs : List ℕ). Has fs g) t.guests no)) ownw);
      } in
      let made : Called v t.call (reply_of (left k h) v.number t.call) w = record {
        between = mine.seen.0;
        seen = t.seen ∙ ap (λ (l : List Entry). l ++ e ∷ []) (sym mine.seen.1);
        replied = λ j. reply_of (left (sym limits j) (sym mine.seen.1 j)) v.number t.call;
        legal = subst (λ (x : Limits × List Entry). IsLegal x.0 x.1) (λ i. (sym limits i, sym t.seen i)) legal;
        own = ap (calls_by v.number) t.seen ∙ calls_by-push v.number h e refl ∙ ap (λ (l : List Entry). l ++ e ∷ []) (mine.own v.number has).calls;
        others = λ g hasv ne. ap (calls_by g) t.seen ∙ calls_by-other g h e (λ q. ne (sym q)) ∙ (mine.own g hasv).calls;
      } in
      (w, keeps, tt, (h ++ e ∷ [], kept'), (none_out, t.told made))

  pub turns : (k : Limits) (id : ℕ) (me : Me S Knowledge) (i : ℕ) (f : ℕ → ℕ) (then : ℕ → Knowledge → Type 0) (slots : ℕ) → me.1 ≡ [] →
      Has me.0.fibers me.0.number
      → ((h : List Entry) (words : List ℕ) → AreLimits k → IsLegal k h → Leaves words (left k h) → Fits k h me.0 → StoredLast k words h me.0 →
      Turn k me.0 i (f (get_or words i 0)) then h words)
      → Allows (WordsAreAHistory k) slots id me i f (Tells then)
  turns k id me i f then slots none_out has makes s kept len at small =
      let r = kept.1 in
      turn_at k id me i (f (get_or s.words i 0)) then none_out has s kept at
      (makes kept.0 s.words r.limits r.legal r.words_are (r.fits id me.0 at) (r.stored id me.0 at))

  pub look_at : (k : Limits) (id : ℕ) (me : Me S Knowledge) (i x : ℕ) (then : ℕ → Knowledge → Type 0) → me.1 ≡ [] → Has me.0.fibers me.0.number
      → (s : State S Knowledge) (kept : WordsAreAHistory k s) → get_elem? s.views id ≡ some me.0 → Look k me.0 i x then kept.0 s.words →
      Goes k s i x id me (Tells then)
  look_at k id me i x then none_out has s kept at t =
      let v : Knowledge = me.0 in
      let h = kept.0 in let r = kept.1 in
      let mine : Fits k h v = r.fits id v at in
      let w : Knowledge = t.view in
      let kept' : IsHistory k (set s.words i x) (set s.views id w) h = record {
        limits = r.limits;
        legal = r.legal;
        words_are = t.word;
        fits = each_view (λ j u. Fits k h u) s.views id w (λ j u other atj. r.fits j u atj)
            (fits_now k h w (t.limits ∙ mine.limits v.number has) t.seen t.guests t.heard (λ g hasw. owner_born k h v g mine (t.fibers g hasw)));
        stored = each_view (λ j u. StoredLast k (set s.words i x) h u) s.views id w (λ j u other atj. stored_kept k s.words i x h u t.place (r.stored j u atj))
            (stored_as k s.words (set s.words i x) h h v w t.number t.stored has (λ f opened. opened) (λ f. value_kept k s.words i x f t.place)
            (λ f owns. ⊎_elim (λ (hasw : Has w.fibers f). inl (t.fibers f hasw))
            (λ (no : Has w.guests f). absurd (subst (λ (fs : List ℕ). Has fs f) t.guests no)) owns)
            (r.stored id v at));
        unborn = λ f low. value_kept k s.words i x f t.place ∙ r.unborn f low;
        apart = apart_still s.views id w r.apart
            (λ j u other atj g ownw hasu. ⊎_elim (λ (hasw : Has w.fibers g). r.apart id j v u at atj other g (t.fibers g hasw) hasu)
            (λ (no : Has w.guests g). absurd (subst (λ (fs : List ℕ). Has fs g) t.guests no)) ownw);
      } in
      (w, keeps, tt, (h, kept'), (none_out, t.told))

  pub looks : (k : Limits) (id : ℕ) (me : Me S Knowledge) (i : ℕ) (then : ℕ → Knowledge → Type 0) (slots : ℕ) → me.1 ≡ [] → Has me.0.fibers me.0.number
      → ((h : List Entry) (words : List ℕ) → IsLegal k h → Leaves words (left k h) → Fits k h me.0 → Look k me.0 i (get_or words i 0) then h words)
      → Allows (WordsAreAHistory k) slots id me i (λ n. n) (Tells then)
  looks k id me i then slots none_out has makes s kept len at small =
      let r = kept.1 in
      look_at k id me i (get_or s.words i 0) then none_out has s kept at
      (makes kept.0 s.words r.legal r.words_are (r.fits id me.0 at))

  -- a step that leaves the word and the pass as they are
  pub stays : (k : Limits) (id : ℕ) (me : Me S Knowledge) (i : ℕ) (then : ℕ → Knowledge → Type 0) (slots : ℕ) → me.1 ≡ []
      → ((h : List Entry) (words : List ℕ) → AreLimits k → IsLegal k h → Leaves words (left k h) → Fits k h me.0 → then (get_or words i 0) me.0)
      → Allows (WordsAreAHistory k) slots id me i (λ n. n) (Tells then)
  stays k id me i then slots none_out tells s kept len at small =
      let r = kept.1 in
      let same : stepped s i (get_or s.words i 0) id me.1 me.0 keeps ≡ s =
      λ j. record { words = set-get_or s.words i 0 j; homes = s.homes; views = set_again s.views id me.0 at j } in
      (me.0, keeps, tt, subst (WordsAreAHistory k) (sym same) kept, (none_out, tells kept.0 s.words r.limits r.legal r.words_are (r.fits id me.0 at)))
