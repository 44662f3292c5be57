-- The steps by which a fiber changes its own cell.
use Rattle.cell_registry.proofs.Prelude.{◌≡◌, ℕ, ◌+◌, ◌-◌, ◌%◌, ◌<◌, Bool, true, false, List, [], ◌⊎◌, inl, inr, get_or, refl, sym, ap, ◌∙◌, subst, arith}
use Rattle.cell_registry.proofs.Prelude.{get_or-set_same, get_or-set_other, set, ◌≢◌, None, Some, Me, keeps, Allows, Outcome, Reply, value_bits, Limits, Stage}
use Rattle.cell_registry.proofs.Prelude.{Running, Finalizing, Ended, Cell, Call, Mask, Unmask, Cut, Finish, Entry, Knowledge, AreLimits, fresh, masked}
use Rattle.cell_registry.proofs.Prelude.{unmasked, cut, finished, owned, IsOpen, MayUnmask, MayFinish, Cells, cell_of, with_cell, after, reply_of, IsAllowed}
use Rattle.cell_registry.proofs.Prelude.{spent, refusal, IsAccepted, StageInRange, left, phase_at, control, cell_word, value_place, Has, seen_cell, Fits}
use Rattle.cell_registry.proofs.Prelude.{last_stored, StoredLast, Owns, IsHistory, WordsAreAHistory, entry, Called, Changed, Masked, Unmasked, WasCut, Finished}
use Rattle.cell_registry.proofs.Prelude.{WasStored, FoundValue}
use Rattle.control_word.specs.Word as word
use Rattle.control_word.proofs.Sums.{finish_one}
use Rattle.cell_registry.proofs.Calls.{spent-none, outcome-fits}
use Rattle.cell_registry.proofs.Requests.{request-prefix}
use Rattle.cell_registry.proofs.TableWords.{no_outcome, value_in, value_at, put_value, put_value-at}
use Rattle.cell_registry.proofs.Legal.{sound}
use Rattle.cell_registry.proofs.Told.{ended_since}
use Rattle.cell_registry.proofs.Turns.{each_view, apart_still, stays}
use Rattle.cell_registry.proofs.CellTurns.{cell_turns, own_same, own_stage, own_depth, own_count, advanced}

-- ---- what a stage allows
unmask-open : (g : Stage) (depth : ℕ) → MayUnmask g depth → IsOpen g × (0 < depth)
unmask-open Running depth m = (tt, m)
unmask-open Finalizing depth m = (tt, omega arith)
unmask-open (Ended o) depth m = absurd m

pub finish-open : (g : Stage) (depth : ℕ) (o : Outcome) → MayFinish g depth o → IsOpen g
finish-open (Ended p) depth o m = m
finish-open _ depth o m = tt

-- ---- what the owner knows of its cell at the moment
record Own (k : Limits) (v : Knowledge) (h : List Entry) : Type 0 where
  same : owned (cell_of (left k h) v.number) ≡ owned (seen_cell v v.number)
  small : (cell_of (left k h) v.number).count < word.greatest_count
  room : spent (cell_of (left k h) v.number).count k.count ≡ None

own : (k : Limits) (v : Knowledge) (h : List Entry) → AreLimits k → Has v.fibers v.number → Fits k h v → (seen_cell v v.number).count < k.count → Own k v h
own k v h limits has mine below =
    let n = own_count k h v has mine in
    let most = limits.count in
    let lt : (cell_of (left k h) v.number).count < k.count = omega arith in
    record { same = own_same k h v has mine; small = omega arith; room = spent-none _ _ (λ e. omega arith) }

-- the parts of a cell that the owner alone changes tell them after its change too
owned-masked : (c d : Cell) → owned c ≡ owned d → owned (masked c) ≡ owned (masked d)
owned-masked c d e = λ j. ((e j).0, (e j).1 + 1, (e j).2 + 1)

owned-unmasked : (c d : Cell) → owned c ≡ owned d → owned (unmasked c) ≡ owned (unmasked d)
owned-unmasked c d e = λ j. ((e j).0, (e j).1 - 1, (e j).2 + 1)

owned-cut : (c d : Cell) → owned c ≡ owned d → owned (cut c) ≡ owned (cut d)
owned-cut c d e = λ j. (Finalizing, (e j).1 + 1, (e j).2 + 1)

owned-finished : (o : Outcome) (c d : Cell) → owned c ≡ owned d → owned (finished o c) ≡ owned (finished o d)
owned-finished o c d e = λ j. (Ended o, (e j).1, (e j).2 + 1)

-- the word of a running fiber that is cut
control-cut : (c : Cell) → c.stage ≡ Running → word.cut (control c) ≡ control (cut c)
unfolding control
control-cut c e = go c.stage e
  where
    go : (g : Stage) → g ≡ Running → word.cut (control (record c { stage = g })) ≡ control (cut (record c { stage = g }))
    go Running e = refl
    go _ e = cc

cut_word : (k : Limits) (h : List Entry) (v : Knowledge) (amount : ℕ) → (cell_of (left k h) v.number).stage ≡ Running →
    (cell_of (left k h) v.number).depth ≡ 0 → (cell_of (left k h) v.number).count < word.greatest_count → word.Cuts amount →
    word.InRange (control (cell_of (left k h) v.number))
    → (cell_word (cell_of (left k h) v.number) + amount) % 18446744073709551616 ≡ cell_word (cut (cell_of (left k h) v.number))
unfolding control
cut_word k h v amount running depth small law range =
    let c : Cell = cell_of (left k h) v.number in
    law (control c) range (no_outcome c (subst IsOpen (sym running) tt)) small depth (ap phase_at running) ∙ ap word.word_of (control-cut c running)

bit_one : (b c : Bool) → word.bit b ≡ word.bit c → b ≡ c
bit_one true true e = refl
bit_one false false e = refl
bit_one true false e = absurd (omega arith)
bit_one false true e = absurd (omega arith)

some-one : {x y : ℕ} → Some x ≡ Some y → x ≡ y
some-one e = cc

module _ {S : Type 0} where
  -- a call of the owner's that changes its cell by φ, and the word by ψ
  changes : (k : Limits) (id : ℕ) (me : Me S Knowledge) (i slots : ℕ) (c : Call) (φ : Cell → Cell) (ψ : ℕ → ℕ) (then : Knowledge → Type 0) →
      me.1 ≡ [] → Has me.0.fibers me.0.number → i ≡ me.0.number + 3 → (seen_cell me.0 me.0.number).count < k.count
      → ((s : Cells) → after s me.0.number c ≡ with_cell s me.0.number (φ (cell_of s me.0.number)))
      → ((s : Cells) → reply_of s me.0.number c ≡ Reply.Done)
      → ((a b : Cell) → owned a ≡ owned b → owned (φ a) ≡ owned (φ b))
      → ((h : List Entry) → Fits k h me.0 → Own k me.0 h → IsAccepted k (left k h) me.0.number c)
      → ((h : List Entry) → Fits k h me.0 → Own k me.0 h → word.InRange (control (cell_of (left k h) me.0.number)) →
      ψ (cell_word (cell_of (left k h) me.0.number)) ≡ cell_word (φ (cell_of (left k h) me.0.number)))
      → ((h : List Entry) (words : List ℕ) → Fits k h me.0 → StoredLast k words h me.0 → (o : Outcome) →
      (φ (cell_of (left k h) me.0.number)).stage ≡ Ended o → ((cell_of (left k h) me.0.number).stage ≡ Ended o) ⊎
      (get_or words (value_place k me.0.number) 0 ≡ value_bits (word.value_of o)))
      → ((w : Knowledge) → Changed me.0 c φ w → then w)
      → Allows (WordsAreAHistory k) slots id me i ψ (λ n now. (now.1 ≡ []) × then now.0)
  changes k id me i slots c φ ψ then none_out has is below leaves replies owns accepts packs ends tells = let v : Knowledge = me.0 in
      cell_turns k id me i v.number slots ψ (λ _ w. then w) none_out has (inr refl) is (λ h words limits there mine last range.
      let s : Cells = left k h in
      let a : Cell = cell_of s v.number in
      let o = own k v h limits has mine below in
      record {
        call = c;
        changed = φ a;
        accepted = accepts h mine o;
        leaves = leaves s;
        packs = packs h mine o range;
        ends = ends h words mine last;
        told = λ made now. let w : Knowledge = advanced v h (entry v.number c (reply_of s v.number c)) in tells w (
          subst (λ (r : Reply). Called v c r w) (replies s) made,
          record {
            limits = refl;
            number = refl;
            stored = refl;
            fibers = refl;
            cell = ap owned (now v.number ∙ get_or-set_same s.cells v.number (φ a) fresh there) ∙ owns a (seen_cell v v.number) o.same;
          },
        );
      })

  pub masks_as : (k : Limits) (id : ℕ) (me : Me S Knowledge) (i amount slots : ℕ) → me.1 ≡ [] → Has me.0.fibers me.0.number → i ≡ me.0.number + 3 →
      (seen_cell me.0 me.0.number).count < k.count
      → IsOpen (seen_cell me.0 me.0.number).stage → (seen_cell me.0 me.0.number).depth < 255 → word.Masks amount
      → Allows (WordsAreAHistory k) slots id me i (λ n. (n + amount) % 18446744073709551616) (λ n now. (now.1 ≡ []) × Masked me.0 now.0)
  unfolding after reply_of IsAllowed refusal control
  masks_as k id me i amount slots none_out has is below opened depth law = let v : Knowledge = me.0 in
      changes k id me i slots Mask masked (λ n. (n + amount) % 18446744073709551616) (Masked v) none_out has is below (λ s. refl) (λ s. refl) owned-masked
      (λ h mine o. let d = own_depth k h v has mine in record { allowed = (subst IsOpen (sym (own_stage k h v has mine)) opened, omega arith); room = o.room })
      (λ h mine o range. let d = own_depth k h v has mine in
      law (control (cell_of (left k h) v.number)) range (no_outcome _ (subst IsOpen (sym (own_stage k h v has mine)) opened)) o.small (omega arith))
      (λ h words mine last p e. inl e)
      (λ w told. told)

  pub unmasks_as : (k : Limits) (id : ℕ) (me : Me S Knowledge) (i amount slots : ℕ) → me.1 ≡ [] → Has me.0.fibers me.0.number → i ≡ me.0.number + 3 →
      (seen_cell me.0 me.0.number).count < k.count
      → MayUnmask (seen_cell me.0 me.0.number).stage (seen_cell me.0 me.0.number).depth → word.Unmasks amount
      → Allows (WordsAreAHistory k) slots id me i (λ n. (n + (18446744073709551616 - amount)) % 18446744073709551616) (λ n now. (now.1 ≡ []) ×
      Unmasked me.0 now.0)
  unfolding after reply_of IsAllowed refusal control
  unmasks_as k id me i amount slots none_out has is below may law = let v : Knowledge = me.0 in
      changes k id me i slots Unmask unmasked (λ n. (n + (18446744073709551616 - amount)) % 18446744073709551616) (Unmasked v) none_out has is below
      (λ s. refl) (λ s. refl) owned-unmasked
      (λ h mine o. record { allowed = subst (λ (x : Stage × ℕ × ℕ). MayUnmask x.0 x.1) (sym o.same) may; room = o.room })
      (λ h mine o range.
      let m = unmask-open _ _ (subst (λ (x : Stage × ℕ × ℕ). MayUnmask x.0 x.1) (sym o.same) may) in
      law (control (cell_of (left k h) v.number)) range (no_outcome _ m.0) o.small m.1)
      (λ h words mine last p e. inl e)
      (λ w told. told)

  pub cuts_as : (k : Limits) (id : ℕ) (me : Me S Knowledge) (i amount slots : ℕ) → me.1 ≡ [] → Has me.0.fibers me.0.number → i ≡ me.0.number + 3 →
      (seen_cell me.0 me.0.number).count < k.count
      → (seen_cell me.0 me.0.number).stage ≡ Running → (seen_cell me.0 me.0.number).depth ≡ 0 → (seen_cell me.0 me.0.number).request ≡ true → word.Cuts amount
      → Allows (WordsAreAHistory k) slots id me i (λ n. (n + amount) % 18446744073709551616) (λ n now. (now.1 ≡ []) × WasCut me.0 now.0)
  unfolding after reply_of IsAllowed refusal
  cuts_as k id me i amount slots none_out has is below running depth request law = let v : Knowledge = me.0 in
      changes k id me i slots Cut cut (λ n. (n + amount) % 18446744073709551616) (WasCut v) none_out has is below (λ s. refl) (λ s. refl) owned-cut
      (λ h mine o.
      let asked : (cell_of (left k v.seen) v.number).request ≡ true =
      (λ j. (cell_of (left (sym (mine.limits v.number has) j) v.seen) v.number).request) ∙ request in
      record {
        allowed = (own_stage k h v has mine ∙ running, own_depth k h v has mine ∙ depth, request-prefix k v.seen h v.number mine.seen asked);
        room = o.room;
      })
      (λ h mine o range. cut_word k h v amount (own_stage k h v has mine ∙ running) (own_depth k h v has mine ∙ depth) o.small law range)
      (λ h words mine last p e. cc)
      (λ w told. told)

  pub finishes_as : (k : Limits) (id : ℕ) (me : Me S Knowledge) (i amount slots : ℕ) (b : Bool) (o : Outcome) → me.1 ≡ [] →
      Has me.0.fibers me.0.number → i ≡ me.0.number + 3 → (seen_cell me.0 me.0.number).count < k.count
      → MayFinish (seen_cell me.0 me.0.number).stage (seen_cell me.0 me.0.number).depth o →
      phase_at (seen_cell me.0 me.0.number).stage ≡ word.bit b → word.Finishes b o amount → amount ≡ word.finish_sum b o →
      me.0.stored ≡ Some (value_bits (word.value_of o))
      → Allows (WordsAreAHistory k) slots id me i (λ n. (n + amount) % 18446744073709551616) (λ n now. (now.1 ≡ []) × Finished amount me.0 now.0)
  unfolding after reply_of IsAllowed refusal control
  finishes_as k id me i amount slots b o none_out has is below may phase law sum stored = let v : Knowledge = me.0 in
      changes k id me i slots (Finish o) (finished o) (λ n. (n + amount) % 18446744073709551616) (Finished amount v) none_out has is below
      (λ s. refl) (λ s. refl) (owned-finished o)
      (λ h mine own. record { allowed = subst (λ (x : Stage × ℕ × ℕ). MayFinish x.0 x.1 o) (sym own.same) may; room = own.room })
      (λ h mine own range. law (control (cell_of (left k h) v.number)) range
      (no_outcome _ (finish-open _ _ o (subst (λ (x : Stage × ℕ × ℕ). MayFinish x.0 x.1 o) (sym own.same) may))) own.small
      (ap phase_at (own_stage k h v has mine) ∙ phase))
      (λ h words mine last p e.
      let same : o ≡ p = cc in
      let opened : IsOpen (cell_of (left k h) v.number).stage = subst IsOpen (sym (own_stage k h v has mine)) (finish-open _ _ o may) in
      inr (last.own has opened ∙ ap last_stored stored ∙ ap (λ (x : Outcome). value_bits (word.value_of x)) same))
      (λ w told b' p ph fits kept e.
      let bs : b' ≡ b = bit_one b' b (sym ph ∙ phase) in
      let same : o ≡ p = finish_one b o p (outcome-fits _ _ o may) fits (sym sum ∙ e ∙ ap (λ x. word.finish_sum x p) bs) (some-one (sym stored ∙ kept)) in
      subst (λ (x : Outcome). Changed v (Finish x) (finished x) w) same told)

  -- the store before an end
  pub stores_as : (k : Limits) (id : ℕ) (me : Me S Knowledge) (i n slots : ℕ) → me.1 ≡ [] → Has me.0.fibers me.0.number →
      i ≡ value_place k me.0.number → IsOpen (seen_cell me.0 me.0.number).stage
      → Allows (WordsAreAHistory k) slots id me i (λ _. n) (λ _ now. (now.1 ≡ []) × WasStored n me.0 now.0)
  stores_as k id me i n slots none_out has is opened s kept len at small =
      let v : Knowledge = me.0 in
      let w : Knowledge = record v { stored = Some n } in
      let h = kept.0 in let r = kept.1 in
      let mine : Fits k h v = r.fits id v at in
      let c : Cells = left k h in
      let good = sound k h r.limits r.legal in
      let fibers = good.fibers in let refs = good.refs in let deferreds = good.deferreds in
      let next = good.next_fiber in
      let born = (mine.own v.number has).born in
      let here : i ≡ value_in c v.number = omega arith in
      let now : IsOpen (cell_of c v.number).stage = subst IsOpen (sym (own_stage k h v has mine)) opened in
      let leaves = put_value s.words c v.number i n r.words_are here now in
      let many = r.words_are.many in
      let holds : get_or (set s.words i n) i 0 ≡ n = put_value-at s.words c v.number i n r.words_are here (omega arith) in
      let kept_at : (f : ℕ) → f ≢ v.number → get_or (set s.words i n) (value_place k f) 0 ≡ get_or s.words (value_place k f) 0 =
      λ f ne. get_or-set_other s.words i (value_place k f) n 0 (λ q. ne (omega arith)) in
      let fits_w : Fits k h w = record { limits = mine.limits; seen = mine.seen; heard = mine.heard; own = mine.own; guest = mine.guest; apart = mine.apart } in
      let kept' : IsHistory k (set s.words i n) (set s.views id w) h = record {
        limits = r.limits;
        legal = r.legal;
        words_are = leaves;
        fits = each_view (λ j u. Fits k h u) s.views id w (λ j u other atj. r.fits j u atj) fits_w;
        stored = each_view (λ j u. StoredLast k (set s.words i n) h u) s.views id w
            (λ j u other atj.
            let last = r.stored j u atj in
            let apart : (f : ℕ) → Owns u f → f ≢ v.number =
            λ f owns (q : f ≡ v.number). r.apart id j v u at atj other v.number (inl has) (subst (Owns u) q owns) in record {
              own = λ hasu openu. kept_at u.number (apart u.number (inl hasu)) ∙ last.own hasu openu;
              others = λ f owns ne openf. kept_at f (apart f owns) ∙ last.others f owns ne openf;
            })
            record {
              own = λ hasw openw. ap (λ (j : ℕ). get_or (set s.words i n) j 0) (sym is) ∙ holds;
              others = λ f owns ne openf. kept_at f ne ∙ (r.stored id v at).others f owns ne openf;
            };
        unborn = λ f low. kept_at f (λ q. omega arith) ∙ r.unborn f low;
        apart = apart_still s.views id w r.apart (λ j u other atj g ownw hasu. r.apart id j v u at atj other g ownw hasu);
      } in
      (w, keeps, tt, (h, kept'), (none_out, refl))

  -- the load after a join that found an end
  pub finds_as : (k : Limits) (id : ℕ) (me : Me S Knowledge) (i f slots : ℕ) → me.1 ≡ [] → Has me.0.fibers me.0.number → i ≡ value_place k f
      → Allows (WordsAreAHistory k) slots id me i (λ n. n) (λ n now. (now.1 ≡ []) × FoundValue i me.0 n now.0)
  finds_as k id me i f slots none_out has is = stays k id me i (FoundValue i me.0) slots none_out (λ h words limited legal leaves mine. (
    refl,
    λ g ig o knows.
        let v : Knowledge = me.0 in
        let c : Cells = left k h in
        let same = mine.limits v.number has in
        let good = sound k h limited legal in
        let fibers = good.fibers in let refs = good.refs in let deferreds = good.deferreds in
        let here : i ≡ value_place k g = ig ∙ ap (λ (x : Limits). value_place x g) same in
        let place : i ≡ value_in c g = here ∙ omega arith in
        let seen : (cell_of (left k v.seen) g).stage ≡ Ended o = (λ j. (cell_of (left (sym same j) v.seen) g).stage) ∙ knows in
        let ended : (cell_of c g).stage ≡ Ended o = ended_since k v.seen h g o mine.seen legal seen in
        (subst StageInRange ended (good.each_cell g).stage, value_at words c g i leaves place ∙ leaves.ended g o ended),
  ))
