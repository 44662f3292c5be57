-- What the code asks of a fiber tells whether it rests.
use Rattle.std.proofs.Common.{◌≡◌, ◌≢◌, ◌⊎◌, inl, inr, ℕ, zero, suc, ◌+◌, ◌-◌, ◌^◌, ◌<◌, length, length-set, min, set, get_or, replicate, ◌≤◌, Bool, true}
use Rattle.std.proofs.Common.{false, List, [], ◌∷◌, Err, ◌++◌, Result, Ok, Option, Some, None, if◌then◌else◌, refl, sym, ap, ◌∙◌, subst, arith}
use Rattle.std.{proofs.lemmas.{List.length-append, Option.same_Some}, specs.Prelude.{IfNone, IfSome, is_none, not}}
use Rattle.std.specs.List.{slice_get}
use Rattle.cell_registry.specs.declared.{limits.{Limits.Limits, RunError.{RunError, TheVariants.NoMemory}, CellError.CellError}, cell.Stage.Stage}
use Rattle.cell_registry.specs.{declared.call.Call.Call, Cells.{Cells, cell_of, deferred_of, join_reply, refusal, reply_of}, Words.has_ended}
use mathlib.Core.Logic.{dite}
use native.Mathlib.Decide.{ℕ_discrete}
use Rattle.effect_term.specs.declared.reply.Reply.{Reply}
use Rattle.derived_ops.specs.{Naming.Given, Tree.{Action, Ending, Await, Operand, Pure, Raise, Act, Join, Mask, Tree, Make, New_ref, New_deferred, Poll}}
use Rattle.fiber_frames.specs.{declared.{ask.{Ask.Ask, Look.{Look, TheVariants.{Clear, Due, Seen}}}, mark.Mark.Mark}, Path.{Running, Runs, Final, Over, Broken}}
use Rattle.fiber_frames.specs.Path.{PathStep, In_polled, Root, At_term, At_final, active, leaf, path, focus}
use Rattle.fiber_frames.specs.{Path.is_effective, Rows.{Waited, wait, outcome_in, read_in, action_row, word_row, value_row, error_row, row, row_at}}
use Rattle.fiber_frames.specs.{Fiber.{Fiber, active_of, ask_in, ask_of, case_under, move, row_of, silent_move}, Naming.{AskNamed, NamedRun}}
use Rattle.fiber_frames.proofs.NamedMoves.{ask_named}
use Rattle.scheduled_core.specs.{declared.wish.Wish.{Wish, TheVariants.{Shared, Alone, Nothing}}, Core.{World, answered, born, called, entered, turned}}
use Rattle.scheduled_core.specs.{Core.{wish_of, wished}, Finals.{IsAtRest, IsUnasked, StopsAt, reply_to, word_wish}, Fitting.Fits}
use Rattle.scheduled_core.specs.{Fitting.{LookFits, cell_registered}, Spending.{Spends, SpendsMany, spent}, Private.Settling.IsSpentBy}
use Rattle.scheduled_core.{specs.Private.Settling.IsUnended, proofs.{Spending.{no_birth, spends_core, spends_join}, Finality.{fold_parts, knowing}}}
use Rattle.effect_term.specs.declared.reply.Reply.TheVariants as reply
use Rattle.fiber_frames.specs.declared.ask.Ask.TheVariants as ask
use Rattle.cell_registry.specs.declared.cell.Stage.TheVariants as at
use Rattle.cell_registry.specs.declared.call.Call.TheVariants as call

-- ---- a call that waits, under a reply that serves nothing
abbrev pub IsUnserved : Ask → Reply → Type 0
IsUnserved (ask.Join f) r = outcome_in r ≡ None
IsUnserved (ask.Read d) r = read_in r ≡ None
IsUnserved _ r = ⊥

switch_served : (b : Bool) (r : Reply) → (IsUnserved (if b then ask.Unmask else ask.Silent) r → ⊥) × (IsUnserved (if b then ask.Mask else ask.Silent) r → ⊥)
switch_served true r = ((λ h. h), (λ h. h))
switch_served false r = ((λ h. h), (λ h. h))

module _ (i n m : ℕ) (r s : Reply) where
  action_kind : (a : Action) → IsUnserved (action_row i m s a).call r → (action_row i n r a).kind ≡ Waited
  action_kind (Ending f) h = ap wait h
  action_kind (Await d) h = ap wait h
  action_kind _ h = absurd h

  word_kind : (up : List Mask) (t : Tree) → IsUnserved (word_row i m s up t).call r → (word_row i n r up t).kind ≡ Waited
  word_kind up (Act a) h = action_kind a h
  word_kind up (Join f x w y k c) h = ap wait h
  word_kind up (Make (New_ref v) x k) h = absurd h
  word_kind up (Make New_deferred x k) h = absurd h
  word_kind up (Poll q e) h = absurd ((switch_served (is_effective q up) r).0 h)
  word_kind up _ h = absurd h

  value_served : (b : Root) (v : Operand) (p : List PathStep) → IsUnserved (value_row i m b v p).call r → ⊥
  value_served At_term v [] h = h
  value_served (At_final k gs) v [] h = h
  value_served b v (In_polled q ∷ p) h = (switch_served (is_effective q (active i b p)) r).1 h
  value_served b v _ h = h

  error_served : (b : Root) (v : Operand) (p : List PathStep) → IsUnserved (error_row i m b v p).call r → ⊥
  error_served At_term v [] h = h
  error_served (At_final k gs) v [] h = h
  error_served b v (In_polled q ∷ p) h = (switch_served (is_effective q (active i b p)) r).1 h
  error_served b v _ h = h

  row_kind : (b : Root) (p : List PathStep) (t : Tree) → IsUnserved (row i m s b p t).call r → (row i n r b p t).kind ≡ Waited
  row_kind b p (Pure v) h = absurd (value_served b v p h)
  row_kind b p (Raise c) h = absurd (error_served b c p h)
  row_kind b p t h = word_kind (active i b p) t h

  at_kind : (w : Running) → IsUnserved (row_at i m s (focus w) w).call r → (row_at i n r (focus w) w).kind ≡ Waited
  at_kind (Runs t) h = row_kind At_term (path t []) (leaf t) h
  at_kind (Final k (g ∷ gs)) h = row_kind (At_final k gs) (path g []) (leaf g) h
  at_kind _ h = absurd h

unserved_waits : (g : Fiber) (r : Reply) → IsUnserved (row_of g reply.Done).call r → (row_of g r).kind ≡ Waited
unserved_waits g r h = at_kind g.number g.next g.next r reply.Done g.running h

none_joined : (x : Stage) → has_ended x ≡ false → outcome_in (reply.Join (join_reply x)) ≡ None
none_joined at.Running e = refl
none_joined at.Finalizing e = refl
none_joined (at.Ended o) e = absurd (cc)

pub waits_join : (s : Cells) (f : ℕ) (g : Fiber) (x : ℕ) → ask.Join x ≡ (row_of g reply.Done).call → has_ended (cell_of s x).stage ≡ false →
    (row_of g (reply_to s f (word_wish g))).kind ≡ Waited
unfolding reply_of
waits_join s f g x is running =
    let r = reply.Join (join_reply (cell_of s x).stage) in
    subst (λ (a : Ask). (row_of g (reply_to s f (wish_of a))).kind ≡ Waited) is
    (unserved_waits g r (subst (λ (a : Ask). IsUnserved a r) is (none_joined (cell_of s x).stage running)))

empty_none : {A : Type 0} (o : Option A) → is_none o ≡ true → o ≡ None
empty_none None e = refl
empty_none (Some x) e = absurd (cc)

pub waits_read : (s : Cells) (f : ℕ) (g : Fiber) (d : ℕ) → ask.Read d ≡ (row_of g reply.Done).call → is_none (deferred_of s d) ≡ true →
    (row_of g (reply_to s f (word_wish g))).kind ≡ Waited
unfolding reply_of
waits_read s f g d is empty =
    let r = reply.Read (deferred_of s d) in
    subst (λ (a : Ask). (row_of g (reply_to s f (wish_of a))).kind ≡ Waited) is
    (unserved_waits g r (subst (λ (a : Ask). IsUnserved a r) is (empty_none (deferred_of s d) empty)))

-- ---- no request reaches it
unseen : (up : List Mask) (l : Look) (q : Bool) → LookFits l q → (up ≢ []) ⊎ (q ≡ false) → IsUnasked up l q
unseen (m ∷ up) l q fits h = tt
unseen [] l q fits (inl h) = absurd (h refl)
unseen [] Due q fits (inr h) = ((λ e. cc), h)
unseen [] Clear q fits (inr h) = ((λ e. cc), h)
unseen [] Seen q fits (inr h) = absurd (let no : true ≡ false = sym fits ∙ h in cc)

pub at_rest : (s : Cells) (f : ℕ) (g : Fiber) → Fits (cell_registered s f) g → (active_of g ≢ []) ⊎ ((cell_of s f).request ≡ false) →
    (row_of g (reply_to s f (word_wish g))).kind ≡ Waited → IsAtRest s f g
at_rest s f g fits h waits = record { waits = waits; unasked = unseen (active_of g) g.look (cell_of s f).request fits.look h }

-- ---- what the word names
under_clear : (f : Fiber) (up : List Mask) → ask_in f (case_under up Clear) ≡ (row_of f reply.Done).call
under_clear f [] = refl
under_clear f (m ∷ up) = refl

word_asks : (i n : ℕ) (ms : List Mark) (w : Running) →
    ask_of record {
      number = i;
      running = w;
      look = Clear;
      next = n;
      marks =
          ms;
    } ≡ (row_of record { number = i; running = w; look = Clear; next = n; marks = ms } reply.Done).call
word_asks i n ms (Runs t) = let f : Fiber = record { number = i; running = Runs t; look = Clear; next = n; marks = ms } in under_clear f (active_of f)
word_asks i n ms (Final m gs) = let f : Fiber = record { number = i; running = Final m gs; look = Clear; next = n; marks = ms } in under_clear f (active_of f)
word_asks i n ms (Over o) = refl
word_asks i n ms Broken = refl

pub word_named : (b : Given) (g : Fiber) → NamedRun b g.running → AskNamed b g.number (row_of g reply.Done).call
word_named b g n = subst (AskNamed b g.number) (word_asks g.number g.next g.marks g.running) (ask_named b (knowing g Clear) n)

pub not_true : (b : Bool) → not b ≡ true → b ≡ false
not_true true e = absurd (cc)
not_true false e = refl

pub one_settled : (P : ℕ → Fiber → Type 0) (xs : List Fiber) (i : ℕ) (x : Fiber) → ((f : ℕ) (g : Fiber) → f < i → slice_get xs f ≡ Some g → P f g) →
    slice_get xs i ≡ Some x → P i x → (f : ℕ) (g : Fiber) → f < i + 1 → slice_get xs f ≡ Some g → P f g
one_settled P xs i x earlier at p f g less e = dite (ℕ_discrete i f)
    (λ same. subst (λ n. P n g) same (subst (λ (y : Fiber). P i y) (same_Some x g (sym at ∙ subst (λ n. slice_get xs n ≡ Some g) (sym same) e)) p))
    (λ apart. earlier f g (omega arith) e)

pub below_length : (xs : List Fiber) (f : ℕ) (g : Fiber) → slice_get xs f ≡ Some g → f < length xs
below_length [] f g e = absurd (cc)
below_length (x ∷ xs) zero g e = omega arith
below_length (x ∷ xs) (suc f) g e = let less = below_length xs f g e in omega arith

pub none_of : {A : Type 0} (o : Option A) {P : Type 0} → (o ≡ None → P) → IfNone o P
none_of None h = h refl
none_of (Some x) h = tt

pub some_of : {A : Type 0} (o : Option A) {P : A → Type 0} → ((x : A) → o ≡ Some x → P x) → IfSome o P
some_of None h = tt
some_of (Some x) h = h x refl

-- ---- going on
born_few : (g : Fiber) (c : Call) (r : Reply) → (length (born g c r) ≡ 0) ⊎ (length (born g c r) ≡ 1)
born_few g call.Start r = inr refl
born_few g _ r = inl refl

abbrev Grown : World → World → Type 0
Grown w u = (length u.fibers ≡ length w.fibers) ⊎ (length u.fibers ≡ suc (length w.fibers))

-- an entry starts one fiber at most
more_fibers : (k : Limits) (w v : World) (f : ℕ) → entered k (Ok w) f ≡ Ok v → Grown w v
more_fibers k w v f e = by_fiber (slice_get w.fibers f) e
  where
    by_refusal : (g : Fiber) (c : Call) (o : Option CellError) → answered w f g c o ≡ Ok v → Grown w v
    by_refusal g c None e =
        let r = reply_of w.cells f c in
        let same : called w f g c r ≡ v = cc in
        let sum = length-append (set w.fibers f (move g r)) (born g c r) in
        let long = length-set w.fibers f (move g r) in
        subst (Grown w) same (elim (born_few g c r) [ inl n ↦ inl (omega (arith, sum, long, n)) | inr n ↦ inr (omega (arith, sum, long, n)) ])
    by_refusal g c (Some x) e = absurd (cc)

    by_wish : (g : Fiber) (x : Wish) → wished k w f g x ≡ Ok v → Grown w v
    by_wish g (Shared c) e = by_refusal g c (refusal k w.cells f c) e
    by_wish g Alone e =
        let same : record w { fibers = set w.fibers f (silent_move g) } ≡ v = cc in
        subst (Grown w) same (inl (length-set w.fibers f (silent_move g)))
    by_wish g Nothing e = let same : w ≡ v = cc in subst (Grown w) same (inl refl)

    by_fiber : (o : Option Fiber) → turned k w f o ≡ Ok v → Grown w v
    by_fiber None e = let same : w ≡ v = cc in subst (Grown w) same (inl refl)
    by_fiber (Some g) e = by_wish g (wish_of (ask_of g)) e

-- a fiber that has moves left
pub has_rest : (rests : List ℕ) (f : ℕ) → 0 < get_or rests f 0 → slice_get rests f ≡ Some (suc (get_or rests f 0 - 1))
has_rest [] f less = absurd (omega arith)
has_rest (x ∷ xs) zero less = ap Some (let e : x ≡ suc (x - 1) = omega arith in e)
has_rest (x ∷ xs) (suc f) less = has_rest xs f less

-- an entry, and what is left behind it
spent_by : (k : Limits) (w v : World) (lefts last : List ℕ) (f left : ℕ) → IsUnended w.fibers f → slice_get lefts f ≡ Some (suc left) →
    entered k (Ok w) f ≡ Ok v → last ≡ spent lefts f left (length v.fibers - length w.fibers) → IsSpentBy k w lefts f v last
spent_by k w v lefts last f left u at e is = (u.fiber, left, v, u.here, u.unended, at, e, (refl, sym is))

-- an entry that starts nobody
pub go_alone : (k : Limits) (w v : World) (rests last : List ℕ) (f rest : ℕ) → IsUnended w.fibers f → slice_get rests f ≡ Some (suc rest) →
    entered k (Ok w) f ≡ Ok v → length rests ≡ length w.fibers → length v.fibers ≤ length rests → last ≡ set rests f rest →
    (length last ≡ length v.fibers) × IsSpentBy k w rests f v last
go_alone k w v rests last f rest u at e each few is = elim (more_fibers k w v f e) [
  | inl n ↦
      let long = ap length is ∙ length-set rests f rest in
      (omega (arith, long, each, n), spent_by k w v rests last f rest u at e (is ∙ sym (no_birth rests f rest (length v.fibers) (length w.fibers) n)))
  | inr n ↦ absurd (omega (arith, n, each, few))
]

-- and one that starts a fiber
pub go_born : (k : Limits) (w v : World) (rests last : List ℕ) (f rest : ℕ) → IsUnended w.fibers f → slice_get rests f ≡ Some (suc rest) →
    entered k (Ok w) f ≡ Ok v → length rests ≡ length w.fibers → length rests < length v.fibers → last ≡ set rests f rest ++ rest ∷ [] →
    (length last ≡ length v.fibers) × IsSpentBy k w rests f v last
go_born k w v rests last f rest u at e each many is = elim (more_fibers k w v f e) [
  | inl n ↦ absurd (omega (arith, n, each, many))
  | inr n ↦
      let long = ap length is ∙ length-append (set rests f rest) (rest ∷ []) in
      let same = length-set rests f rest in
      let one : length v.fibers - length w.fibers ≡ 1 = omega (arith, n) in (
        omega (arith, long, same, each, n),
        spent_by k w v rests last f rest u at e
            (is ∙ ap (λ m. set rests f rest ++ replicate m rest) (sym one)),
      )
]

pub more_on : (k l : Limits) (w v x : World) (lefts now last : List ℕ) (many more f : ℕ) → SpendsMany k w lefts many v now → l ≡ k →
    IsSpentBy l v now f x last → more ≡ min (many + 1) (2 ^ 64 - 1) → SpendsMany k w lefts more x last
more_on k l w v x lefts now last many more f g same h count =
    let long = length-append g.entries (f ∷ []) in
    let old = g.count in
    record {
      entries = g.entries ++ f ∷ [];
      spends = spends_join k w v x lefts now last g.entries (f ∷ []) g.spends (subst (λ (m : Limits). Spends m v now (f ∷ []) x last) same h);
      count = omega (arith, long, old, count);
    }

pub stops_on : (k l : Limits) (w v : World) (lefts now : List ℕ) (many f : ℕ) (e : RunError) → SpendsMany k w lefts many v now → l ≡ k →
    entered l (Ok v) f ≡ Err e → StopsAt k w e
stops_on k l w v lefts now many f e g same h = record {
  entries = g.entries ++ f ∷ [];
  stops = fold_parts k (Ok w) g.entries (f ∷ []) ∙
      ap (λ (y : Result World RunError). entered k y f) (spends_core k w v lefts now g.entries g.spends) ∙
      subst (λ (m : Limits). entered m (Ok v) f ≡ Err e) same h;
}

-- want of memory, or such a stop, behind entries that went well
pub memory_or_stops : (k l : Limits) (w v : World) (lefts now : List ℕ) (many f : ℕ) (e : RunError) → SpendsMany k w lefts many v now → l ≡ k →
    (e ≡ NoMemory) ⊎ (entered l (Ok v) f ≡ Err e) → (e ≡ NoMemory) ⊎ StopsAt k w e
memory_or_stops k l w v lefts now many f e g same (inl memory) = inl memory
memory_or_stops k l w v lefts now many f e g same (inr stops) = inr (stops_on k l w v lefts now many f e g same stops)
