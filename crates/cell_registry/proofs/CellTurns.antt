-- The steps on the word of a fiber.
use Rattle.cell_registry.proofs.Prelude.{◌≡◌, ℕ, ◌+◌, ◌<◌, List, [], ◌∷◌, ◌++◌, length, set, get_or, ◌⊎◌, inl, inr, ⊎_elim, refl, sym, ap, ◌∙◌, subst, arith}
use Rattle.cell_registry.proofs.Prelude.{get_or-set_same, bit_or, set-get_or, Me, Allows, Outcome, value_bits, InRange, value_of, Limits, Ended, Cell, Call}
use Rattle.cell_registry.proofs.Prelude.{Cancel, Join, Look, Entry, Knowledge, AreLimits, fresh, requested, awaited, owned, cancel_reply, join_reply, IsOpen}
use Rattle.cell_registry.proofs.Prelude.{Cells, cell_of, with_cell, after, reply_of, IsAllowed, refusal, IsAccepted, left, IsLegal, control, cell_word}
use Rattle.cell_registry.proofs.Prelude.{value_place, Leaves, Has, seen_cell, Fits, StoredLast, WordsAreAHistory, entry, Called, IsSame, AtCell, Cancelled}
use Rattle.cell_registry.proofs.Prelude.{Joined, SawRequest, Reply}
use Rattle.control_word.proofs.Fields.{or_cancel, or_waited}
use Rattle.cell_registry.proofs.Lists.{get_or-set_kept}
use Rattle.cell_registry.proofs.Legal.{left-push, sound}
use Rattle.cell_registry.proofs.TableWords.{in_range, value_in, word_at, put_word}
use Rattle.cell_registry.proofs.Turns.{Turn, turns}

-- what a pass knows after an entry that adds no fiber to it
abbrev pub advanced : Knowledge → List Entry → Entry → Knowledge
advanced v h e = record v { seen = h ++ e ∷ []; guests = []; heard = [] }

-- what a call that changes one cell has to show, where h is the history before it
pub record CellTurn (k : Limits) (v : Knowledge) (f : ℕ) (φ : ℕ → ℕ) (then : ℕ → Knowledge → Type 0) (h : List Entry) (words : List ℕ) : Type 0 where
  pub call : Call
  pub changed : Cell
  pub accepted : IsAccepted k (left k h) v.number call
  pub leaves : after (left k h) v.number call ≡ with_cell (left k h) f changed
  pub packs : φ (cell_word (cell_of (left k h) f)) ≡ cell_word changed
  pub ends : (o : Outcome) → changed.stage ≡ Ended o → ((cell_of (left k h) f).stage ≡ Ended o) ⊎ (get_or words (value_place k f) 0 ≡ value_bits (value_of o))
  pub told : let w = advanced v h (entry v.number call (reply_of (left k h) v.number call)) in
      Called v call (reply_of (left k h) v.number call) w → ((g : ℕ) → seen_cell w g ≡ cell_of (with_cell (left k h) f changed) g) →
      then (cell_word (cell_of (left k h) f)) w

module _ {S : Type 0} where
  pub cell_turns : (k : Limits) (id : ℕ) (me : Me S Knowledge) (i f slots : ℕ) (φ : ℕ → ℕ) (then : ℕ → Knowledge → Type 0) → me.1 ≡ [] →
      Has me.0.fibers me.0.number → (f < k.fibers) ⊎ (f ≡ me.0.number) → i ≡ f + 3
      → ((h : List Entry) (words : List ℕ) → AreLimits k → f < length (left k h).cells → Fits k h me.0 → StoredLast k words h me.0 →
      InRange (control (cell_of (left k h) f)) → CellTurn k me.0 f φ then h words)
      → Allows (WordsAreAHistory k) slots id me i φ (λ n now. (now.1 ≡ []) × then n now.0)
  cell_turns k id me i f slots φ then none_out has within is makes = turns k id me i φ then slots none_out has go
    where
      v : Knowledge
      v = me.0

      go : (h : List Entry) (words : List ℕ) → AreLimits k → IsLegal k h → Leaves words (left k h) → Fits k h v → StoredLast k words h v →
          Turn k v i (φ (get_or words i 0)) then h words
      go h words limited legal leaves mine last =
          let s : Cells = left k h in
          let good = sound k h limited legal in
          let long = good.fibers in
          let next = good.next_fiber in
          let born = (mine.own v.number has).born in
          let there : f < length s.cells =
          ⊎_elim (λ (a : f < k.fibers). let b : f < length s.cells = omega arith in b) (λ (a : f ≡ v.number). let b : f < length s.cells =
          omega arith in b) within in
          let at = word_at words s f i leaves is there in
          let refs = good.refs in
          let deferreds = good.deferreds in
          let t = makes h words limited there mine last (in_range k (cell_of s f) limited (good.each_cell f)) in
          let e : Entry = entry v.number t.call (reply_of s v.number t.call) in
          let w : Knowledge = advanced v h e in
          let now = λ (g : ℕ). (λ j. cell_of (left (mine.limits v.number has j) (h ++ e ∷ [])) g) ∙
          ap (λ (x : Cells). cell_of x g) (left-push k h e ∙ t.leaves) in
          let values : value_in s f ≡ value_place k f = omega arith in
          let ends = λ (o : Outcome) (q : t.changed.stage ≡ Ended o). subst (λ (m : ℕ). ((cell_of s f).stage ≡ Ended o) ⊎
          (get_or words m 0 ≡ value_bits (value_of o))) (sym values) (t.ends o q) in
          record {
            call = t.call;
            accepted = t.accepted;
            word = subst (Leaves (set words i (φ (get_or words i 0)))) (sym t.leaves)
                (put_word words s f i t.changed _ leaves is there (ap φ at ∙ t.packs) ends);
            place = omega arith;
            view = w;
            limits = refl;
            number = refl;
            stored = refl;
            seen = refl;
            guests = refl;
            heard = refl;
            fibers = λ g a. inl a;
            told = λ made. subst (λ (n : ℕ). then n w) (sym at) (t.told made now);
          }

-- the owner's part of the cell is as the pass left it
pub own_same : (k : Limits) (h : List Entry) (v : Knowledge) → Has v.fibers v.number → Fits k h v →
    owned (cell_of (left k h) v.number) ≡ owned (seen_cell v v.number)
own_same k h v has mine = (mine.own v.number has).cell ∙ (λ j. owned (cell_of (left (sym (mine.limits v.number has) j) v.seen) v.number))

pub own_stage : (k : Limits) (h : List Entry) (v : Knowledge) → Has v.fibers v.number → Fits k h v →
    (cell_of (left k h) v.number).stage ≡ (seen_cell v v.number).stage
own_stage k h v has mine = ap (λ o. o.0) (own_same k h v has mine)

pub own_depth : (k : Limits) (h : List Entry) (v : Knowledge) → Has v.fibers v.number → Fits k h v →
    (cell_of (left k h) v.number).depth ≡ (seen_cell v v.number).depth
own_depth k h v has mine = ap (λ o. o.1) (own_same k h v has mine)

pub own_count : (k : Limits) (h : List Entry) (v : Knowledge) → Has v.fibers v.number → Fits k h v →
    (cell_of (left k h) v.number).count ≡ (seen_cell v v.number).count
own_count k h v has mine = ap (λ o. o.2) (own_same k h v has mine)

-- an entry that leaves the owner's part of its cell
pub same_knowledge : (k : Limits) (h : List Entry) (v w : Knowledge) (s : Cells) → Has v.fibers v.number → Fits k h v → w.limits ≡ v.limits →
    w.number ≡ v.number → w.stored ≡ v.stored → w.fibers ≡ v.fibers
    → owned (seen_cell w v.number) ≡ owned (cell_of s v.number) → owned (cell_of s v.number) ≡ owned (cell_of (left k h) v.number) → IsSame v w
same_knowledge k h v w s has mine limits number stored fibers own same =
    record { limits = limits; number = number; stored = stored; fibers = fibers; cell = own ∙ same ∙ own_same k h v has mine }

-- ---- calls on any fiber's cell
at_cell : (i f : ℕ) (P : ℕ → Type 0) → i ≡ f + 3 → P f → AtCell i P
at_cell i f P is p = λ g ig. let e : f ≡ g = omega arith in subst P e p

module _ {S : Type 0} where
  pub cancels : (k : Limits) (id : ℕ) (me : Me S Knowledge) (i f slots : ℕ) → me.1 ≡ [] → Has me.0.fibers me.0.number → f < k.fibers → i ≡ f + 3
      → Allows (WordsAreAHistory k) slots id me i (λ n. bit_or n 4503599627370496) (λ n now. (now.1 ≡ []) × AtCell i (λ g. Cancelled g me.0 n now.0))
  unfolding after reply_of IsAllowed refusal control
  cancels k id me i f slots none_out has within is = let v : Knowledge = me.0 in
      cell_turns k id me i f slots (λ n. bit_or n 4503599627370496) (λ n w. AtCell i (λ g. Cancelled g v n w)) none_out has (inl within) is
      (λ h words limits there mine last range.
      let s : Cells = left k h in
      let c : Cell = cell_of s f in
      record {
        call = Cancel f;
        changed = requested c;
        accepted = record { allowed = within; room = refl };
        leaves = refl;
        packs = or_cancel (control c) range;
        ends = λ o e. inl e;
        told = λ made now. at_cell i f
            (λ g. Cancelled g v (cell_word c) (advanced v h (entry v.number (Cancel f) (Reply.Cancel (cancel_reply c.stage c.request))))) is (
              c,
              range,
              refl,
              (
                made,
                same_knowledge k h v _ (with_cell s f (requested c)) has mine refl refl refl refl (ap owned (now v.number))
                    (get_or-set_kept owned s.cells f (requested c) fresh refl v.number),
              ),
            );
      })

  pub joins : (k : Limits) (id : ℕ) (me : Me S Knowledge) (i f slots : ℕ) → me.1 ≡ [] → Has me.0.fibers me.0.number → f < k.fibers → i ≡ f + 3
      → Allows (WordsAreAHistory k) slots id me i (λ n. bit_or n 9007199254740992) (λ n now. (now.1 ≡ []) × AtCell i (λ g. Joined g me.0 n now.0))
  unfolding after reply_of IsAllowed refusal control
  joins k id me i f slots none_out has within is = let v : Knowledge = me.0 in
      cell_turns k id me i f slots (λ n. bit_or n 9007199254740992) (λ n w. AtCell i (λ g. Joined g v n w)) none_out has (inl within) is
      (λ h words limits there mine last range.
      let s : Cells = left k h in
      let c : Cell = cell_of s f in
      record {
        call = Join f;
        changed = awaited c;
        accepted = record { allowed = within; room = refl };
        leaves = refl;
        packs = or_waited (control c) range;
        ends = λ o e. inl e;
        told = λ made now. at_cell i f (λ g. Joined g v (cell_word c) (advanced v h (entry v.number (Join f) (Reply.Join (join_reply c.stage))))) is (
          c,
          range,
          refl,
          (
            made,
            same_knowledge k h v _ (with_cell s f (awaited c)) has mine refl refl refl refl (ap owned (now v.number))
                (get_or-set_kept owned s.cells f (awaited c) fresh refl v.number),
            ap (λ (x : Cell). x.stage) (now f ∙ get_or-set_same s.cells f (awaited c) fresh there),
          ),
        );
      })

  -- ---- calls on the caller's own cell
  pub sees : (k : Limits) (id : ℕ) (me : Me S Knowledge) (i slots : ℕ) → me.1 ≡ [] → Has me.0.fibers me.0.number → i ≡ me.0.number + 3 →
      IsOpen (seen_cell me.0 me.0.number).stage → (seen_cell me.0 me.0.number).depth ≡ 0
      → Allows (WordsAreAHistory k) slots id me i (λ n. n) (λ n now. (now.1 ≡ []) × SawRequest me.0 n now.0)
  unfolding after reply_of IsAllowed refusal
  sees k id me i slots none_out has is opened depth = let v : Knowledge = me.0 in
      cell_turns k id me i v.number slots (λ n. n) (SawRequest v) none_out has (inr refl) is (λ h words limits there mine last range.
      let s : Cells = left k h in
      let c : Cell = cell_of s v.number in
      record {
        call = Look;
        changed = c;
        accepted = record { allowed = (subst IsOpen (sym (own_stage k h v has mine)) opened, own_depth k h v has mine ∙ depth); room = refl };
        leaves = λ j. record s { cells = sym (set-get_or s.cells v.number fresh) j };
        packs = refl;
        ends = λ o e. inl e;
        told = λ made now. (
          c,
          range,
          refl,
          (
            made,
            same_knowledge k h v _ (with_cell s v.number c) has mine refl refl refl refl (ap owned (now v.number))
                (get_or-set_kept owned s.cells v.number c fresh refl v.number),
            ap (λ (x : Cell). x.request) (now v.number ∙ get_or-set_same s.cells v.number c fresh there),
          ),
        );
      })
