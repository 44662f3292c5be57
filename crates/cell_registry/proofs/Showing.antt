-- What the words of a registry show of it.
use Rattle.cell_registry.proofs.Prelude.{◌≡◌, ℕ, ℤ, ◌+◌, ◌%◌, ◌^◌, ◌<◌, List, [], ◌∷◌, ◌++◌, length, map, take, get_or, suc, Option, refl, sym, ap, ◌∙◌, subst}
use Rattle.cell_registry.proofs.Prelude.{arith, take_more, ext_get_or, length-map, length-append, bits_value, Outcome, Control, Limits, Stage, Running}
use Rattle.cell_registry.proofs.Prelude.{Finalizing, Ended, Cell, Cells, StageInRange, cell_of, deferred_of, ref_of, TellsRead, cell_word, control}
use Rattle.cell_registry.proofs.Prelude.{deferred_word, phase_at, value_place, Copies, IsShown, Shows, IsPrefix, Final, Seen, Entry, Knowledge, left, IsLegal}
use Rattle.cell_registry.proofs.Prelude.{calls_by, Has, WordsAreAHistory, Result, Ok, Err, IfOk, IsLeftPlain, PlainView}
use Rattle.cell_registry.proofs.Legal.{sound}
use Rattle.cell_registry.proofs.Seats.{get_elem?-get_or}
use Rattle.cell_registry.proofs.Replies.{told}
use Rattle.cell_registry.proofs.TableWords.{in_range, value_at, word_at}
use Rattle.cell_registry.proofs.ValueTurns.{deferred_at, ref_at}

pub stage_running : (g : Stage) → phase_at g ≡ 0 → Running ≡ g
stage_running Running e = refl
stage_running _ e = absurd (omega arith)

pub stage_finalizing : (g : Stage) → phase_at g ≡ 1 → Finalizing ≡ g
stage_finalizing Finalizing e = refl
stage_finalizing _ e = absurd (omega arith)

pub stage_ended : (g : Stage) → (phase_at g ≡ 0 → ⊥) → (phase_at g ≡ 1 → ⊥) → (o : Outcome) × (g ≡ Ended o)
stage_ended Running a b = absurd (a refl)
stage_ended Finalizing a b = absurd (b refl)
stage_ended (Ended o) a b = (o, refl)

pub cell_is : (d : Cell) (r : Control) (g : Stage) → r ≡ control d → g ≡ d.stage →
    record { stage = g; depth = r.depth; request = r.cancel; waited = r.waited; count = r.count } ≡ d
unfolding control
cell_is d r g e s = λ j. record { stage = s j; depth = (e j).depth; request = (e j).cancel; waited = (e j).waited; count = (e j).count }

pub cell_shown : (k : Limits) (words : List ℕ) (s : Cells) (f : ℕ) → Shows k words s → f < k.fibers →
    IsShown (get_or words (f + 3) 0) (get_or words (value_place k f) 0) (cell_of s f)
cell_shown k words s f h less =
    let fibers = h.sound.fibers in
    let refs = h.sound.refs in
    let deferreds = h.sound.deferreds in
    record {
      range = in_range k (cell_of s f) h.limits (h.sound.each_cell f);
      word = sym (word_at words s f (f + 3) h.leaves refl (omega arith));
      value = λ o e. (subst StageInRange e (h.sound.each_cell f).stage, value_at words s f (value_place k f) h.leaves (omega arith) ∙ h.leaves.ended f o e);
    }

pub ref_shown : (k : Limits) (words : List ℕ) (s : Cells) (r : ℕ) → Shows k words s → r < k.refs →
    bits_value (get_or words (r + (3 + k.fibers)) 0 % 2 ^ 63) ≡ ref_of s r
ref_shown k words s r h less =
    let fibers = h.sound.fibers in
    let refs = h.sound.refs in
    told (get_or words (r + (3 + k.fibers)) 0) (ref_of s r) (h.sound.each_ref r)
    (ap (λ n. n % 2 ^ 63) (ref_at words s r (r + (3 + k.fibers)) h.leaves (omega arith) (omega arith)) ∙ h.leaves.refs r)

pub deferred_shown : (k : Limits) (words : List ℕ) (s : Cells) (d : ℕ) (o : Option ℤ) → Shows k words s → d < k.deferreds →
    TellsRead (get_or words (d + (3 + k.fibers + k.refs)) 0) o → o ≡ deferred_of s d
deferred_shown k words s d o h less tells =
    let fibers = h.sound.fibers in
    let refs = h.sound.refs in
    let deferreds = h.sound.deferreds in
    tells (deferred_of s d) (h.sound.each_deferred d) (sym (deferred_at words s d (d + (3 + k.fibers + k.refs)) h.leaves (omega arith) (omega arith)))

pub one_more : {A : Type 0} (xs ys : List A) (f : ℕ) (a d : A) → xs ≡ take f ys → f < length ys → a ≡ get_or ys f d → xs ++ a ∷ [] ≡ take (f + 1) ys
one_more xs ys f a d e less is = (λ j. e j ++ is j ∷ []) ∙ sym (take_more ys f d less)

-- the copy is what the words are
pub copy_is : (k : Limits) (words all copy : List ℕ) (n : ℕ) (s : Cells) → n ≡ k.fibers + k.refs + k.deferreds + k.fibers + 3 → Copies words n copy →
    all ≡ words → Shows k all s → Shows k copy s
copy_is k words all copy n s count c same h =
    let fibers = h.sound.fibers in
    let refs = h.sound.refs in
    let deferreds = h.sound.deferreds in
    let raw = h.leaves.long in
    let values = h.leaves.many in
    let front : List ℕ = map cell_word s.cells in
    let back : List ℕ = map deferred_word s.deferreds in
    let cells = length-map s.cells cell_word in
    let last = length-map s.deferreds deferred_word in
    let long : length all ≡ suc (suc (suc (length front + (length h.leaves.raw + (length back + length h.leaves.values))))) =
    ap (λ (x : List ℕ). length x) h.leaves.words_are ∙
    ap (λ (m : ℕ). suc (suc (suc m))) (length-append front (h.leaves.raw ++ (back ++ h.leaves.values)) ∙
    ap (λ m. length front + m) (length-append h.leaves.raw (back ++ h.leaves.values) ∙
    ap (λ m. length h.leaves.raw + m) (length-append back h.leaves.values))) in
    let many = c.long in
    let one : all ≡ copy = ext_get_or 0 all copy (omega arith) (λ i less.
    ap (λ (l : List ℕ). get_or l i 0) same ∙ get_elem?-get_or words i (get_or copy i 0) (c.each i (omega arith))) in
    subst (λ (l : List ℕ). Shows k l s) one h

-- what the closed table's words leave
pub left_words : (S : Type 0) (k : Limits) (words copy : List ℕ) (slots : List S) (id n : ℕ) (v : Knowledge) →
    Final (Seen (WordsAreAHistory {S = S} k) id v) words slots → n ≡ k.fibers + k.refs + k.deferreds + k.fibers + 3 → Copies words n copy
    → (h : List Entry) × IsPrefix v.seen h × IsLegal k h × ((g : ℕ) → Has v.fibers g → calls_by g h ≡ calls_by g v.seen) × Shows k copy (left k h)
left_words S k words copy slots id n v final count c =
    let s = final.0 in
    let h = final.1.0.0 in
    let r = final.1.0.1 in
    let shows : Shows k s.words (left k h) = record { limits = r.limits; sound = sound k h r.limits r.legal; leaves = r.words_are } in (
      h,
      (r.fits id v final.1.1).seen,
      r.legal,
      (λ g has. ((r.fits id v final.1.1).own g has).calls),
      copy_is k words s.words copy n (left k h) count c final.2 shows,
    )

-- the same, where the limits that the registry keeps are the table's key
pub left_here : (S : Type 0) (key k : Limits) (words copy now : List ℕ) (slots : List S) (id n : ℕ) (v : Knowledge) → key ≡ k →
    Final (Seen (WordsAreAHistory {S = S} key) id v) words slots → n ≡ k.fibers + k.refs + k.deferreds + k.fibers + 3 → Copies words n copy → now ≡ copy
    → (h : List Entry) × IsPrefix v.seen h × IsLegal k h × ((g : ℕ) → Has v.fibers g → calls_by g h ≡ calls_by g v.seen) × Shows k now (left k h)
left_here S key k words copy now slots id n v same final count c is =
    let l = left_words S k words copy slots id n v (subst (λ (x : Limits). Final (Seen (WordsAreAHistory {S = S} x) id v) words slots) same final) count c in
    (l.0, l.1, l.2, l.3, subst (λ (x : List ℕ). Shows k x (left k l.0)) (sym is) l.4)

pub left_plain : (k : Limits) (now : List ℕ) (v : Knowledge) (h : List Entry) → IsPrefix v.seen h → IsLegal k h →
    ((g : ℕ) → Has v.fibers g → calls_by g h ≡ calls_by g v.seen) → Shows k now (left k h) → (r : PlainView) →
    ((s : Cells) → Shows k now s → r ≡ record { limits = k; state = s }) → IsLeftPlain k v.fibers v.seen r
left_plain k now v h begins legal own shows r told = record { history = h; begins = begins; legal = legal; own = own; plain = told (left k h) shows }

pub if_ok : {A E : Type 0} (P Q : A → Type 0) (r : Result A E) → ((x : A) → P x → Q x) → IfOk r P → IfOk r Q
if_ok P Q (Ok x) f h = f x h
if_ok P Q (Err e) f h = tt
