-- A pass, and the seat in it.
use Rattle.cell_registry.proofs.Prelude.{◌≡◌, ◌≢◌, ℕ, ◌+◌, ◌<◌, ◌≤◌, Bool, true, false, List, [], ◌∷◌, ◌++◌, inl, inr, ⊎_elim, refl, sym, ap, ◌∙◌, subst, arith}
use Rattle.cell_registry.proofs.Prelude.{append_assoc, Option, Some, None, MatchOption, IsPrefix, TableId, Reply, Number, Limits, Band, Fibers, Stage, Running}
use Rattle.cell_registry.proofs.Prelude.{Call, Entry, Knowledge, AreLimits, IsOpen, fresh, owned, cell_of, left, IsLegal, Has, seen_cell, first_knowledge}
use Rattle.cell_registry.proofs.Prelude.{claim_of, WasGiven, WasBorn, entry, IsCall, Called, IsSame, IsChanged, fibers_with, FoundNone, newest, without_newest}
use Rattle.cell_registry.proofs.Prelude.{Claimed, parent, child, hosting, Met, RegistryView, IsRegistry, PassView, pass_of, IsSeated, IsOf}
use Rattle.cell_registry.proofs.Lists.{get_or-replicate_default}
use Rattle.cell_registry.proofs.Legal.{sound}
use Rattle.cell_registry.proofs.Giving.{WasGiven-push, WasBorn-prefix}
use Rattle.cell_registry.proofs.Requests.{request-prefix}
use Rattle.cell_registry.proofs.Told.{legal-told}
use Rattle.cell_registry.proofs.Seats.{has_append, in_append}

-- ---- what the seat of a pass knows
pub of_registry : (r s : RegistryView) (p q : PassView) → r ≡ s → p ≡ q → IsOf s q → p.registry ≡ r
of_registry r s p q e f own = ap (λ (x : PassView). x.registry) f ∙ own ∙ sym e

pub seat_has : (v : Knowledge) (p : PassView) → p.fibers ≡ v.fibers → IsSeated v p → Has v.fibers v.number
seat_has v p e i = subst (λ (x : List ℕ × ℕ). Has x.0 x.1) (λ j. (e j, i.number_is j)) i.pass.own

pub seat_cell : (v : Knowledge) (t : TableId) (n : ℕ) (g : Stage) (d c : ℕ) (b : Bool) → IsSeated v (pass_of t v n g d c b) →
    owned (seen_cell v v.number) ≡ (g, d, c)
seat_cell v t n g d c b i = ap (λ (f : ℕ). owned (seen_cell v f)) (sym i.number_is) ∙ i.pass.cell

-- the count of an owner's changes is within its limit
owned-count : (k : Limits) (h : List Entry) (f : ℕ) (g : Stage) (d c : ℕ) → AreLimits k → IsLegal k h → owned (cell_of (left k h) f) ≡ (g, d, c) → c ≤ k.count
owned-count k h f g d c limits legal e =
    let most = ((sound k h limits legal).each_cell f).count in
    let is = ap (λ o. o.2) e in
    omega arith

-- the call of a seat is one by the pass's fiber
pub called_by : (v w : Knowledge) (n : ℕ) (c : Call) (r : Reply) → n ≡ v.number → Called v c r w → IsCall v.limits v.fibers v.seen n c r w.seen
called_by v w n c r e m = subst (λ (x : ℕ). IsCall v.limits v.fibers v.seen x c r w.seen) (sym e) m

-- ---- the seat after a step
pub call-prefix : (k : Limits) (fs : List ℕ) (before : List Entry) (by : ℕ) (c : Call) (r : Reply) (now : List Entry) →
    IsCall k fs before by c r now → IsPrefix before now
call-prefix k fs before by c r now m = (m.between ++ entry by c r ∷ [], sym (append_assoc before m.between (entry by c r ∷ [])) ∙ sym m.seen)

-- what a contract sees of a pass whose seat has seen more
pub pass_of-step : (t u : TableId) (v w : Knowledge) (n : ℕ) (g : Stage) (d c : ℕ) (b : Bool) → u ≡ t → w.limits ≡ v.limits → w.fibers ≡ v.fibers →
    pass_of u w n g d c b ≡ record (pass_of t v n g d c b) { seen = w.seen }
pass_of-step t u v w n g d c b table limits fibers = λ j. record {
  registry = record { table = table j; limits = limits j };
  number = n;
  stage = g;
  depth = d;
  count = c;
  saw = b;
  fibers = fibers j;
  seen = w.seen;
}

-- a pass of the same fiber, with its own part of the cell as it was, and another last look
pub seated_looked : (v w : Knowledge) (t u : TableId) (n : ℕ) (g : Stage) (d c : ℕ) (b b' : Bool) → IsSame v w → IsPrefix v.seen w.seen →
    IsLegal v.limits w.seen → (b' ≡ true → (seen_cell w v.number).request ≡ true) → IsSeated v (pass_of t v n g d c b) → IsSeated w (pass_of u w n g d c b')
seated_looked v w t u n g d c b b' s more legal request i = record {
  number_is = i.number_is ∙ sym s.number;
  pass = record {
    limits = rw s.limits i.pass.limits;
    legal = rw s.limits legal;
    own = rw s.fibers i.pass.own;
    within = rw s.limits i.pass.within;
    cell = ap (λ (f : ℕ). owned (seen_cell w f)) i.number_is ∙ s.cell ∙ seat_cell v t n g d c b i;
    count = rw s.limits i.pass.count;
    request = λ e. ap (λ (f : ℕ). (seen_cell w f).request) i.number_is ∙ request e;
    born = λ f owns. WasBorn-prefix v.seen w.seen f more (i.pass.born f (subst (λ (fs : List ℕ). Has fs f) s.fibers owns));
    told = rw s.limits (legal-told v.limits w.seen i.pass.limits legal);
  };
  unstored = λ opened. s.stored ∙ i.unstored opened;
}

-- a pass whose own part of the cell and whose last look are as they were
pub seated_still : (v w : Knowledge) (t u : TableId) (n : ℕ) (g : Stage) (d c : ℕ) (b : Bool) → IsSame v w → IsPrefix v.seen w.seen →
    IsLegal v.limits w.seen → IsSeated v (pass_of t v n g d c b) → IsSeated w (pass_of u w n g d c b)
seated_still v w t u n g d c b s more legal i =
    let before : b ≡ true → (seen_cell v v.number).request ≡ true = λ e. ap (λ (f : ℕ). (seen_cell v f).request) (sym i.number_is) ∙ i.pass.request e in
    let now : b ≡ true → (cell_of (left v.limits w.seen) v.number).request ≡ true = λ e. request-prefix v.limits v.seen w.seen v.number more (before e) in
    seated_looked v w t u n g d c b b s more legal (λ e. (λ j. (cell_of (left (s.limits j) w.seen) v.number).request) ∙ now e) i

-- what a seat knows but for the number that was stored
abbrev pub but_stored : Knowledge → Knowledge
but_stored v = record v { stored = None }

-- a pass that has stored a number in its fiber's value word, in the midst of a call: but for that number it is as it was
pub seated_stored : (v w : Knowledge) (t u : TableId) (n m : ℕ) (g : Stage) (d c : ℕ) (b : Bool) → w ≡ record v { stored = Some m } →
    IsSeated v (pass_of t v n g d c b) → IsSeated (but_stored w) (pass_of u (but_stored w) n g d c b)
seated_stored v w t u n m g d c b is i = subst (λ (x : Knowledge). IsSeated (but_stored x) (pass_of u (but_stored x) n g d c b)) (sym is) record {
  number_is = i.number_is;
  pass = record {
    limits = i.pass.limits;
    legal = i.pass.legal;
    own = i.pass.own;
    within = i.pass.within;
    cell = i.pass.cell;
    count = i.pass.count;
    request = i.pass.request;
    born = i.pass.born;
    told = i.pass.told;
  };
  unstored = λ _. refl;
}

-- its registry is the same
pub stored_registry : (v w : Knowledge) (t u : TableId) (n m : ℕ) (g : Stage) (d c : ℕ) (b : Bool) (r : RegistryView) →
    w ≡ record v { stored = Some m } → u ≡ t → (pass_of t v n g d c b).registry ≡ r → (pass_of u w n g d c b).registry ≡ r
stored_registry v w t u n m g d c b r is table of = (λ j. record { table = table j; limits = (is j).limits }) ∙ of

-- a pass whose own part of the cell has changed, whatever it had stored in the midst of the call
pub seated_changed : (stored : Option ℕ) (v w : Knowledge) (t u : TableId) (n : ℕ) (g g' : Stage) (d d' c c' : ℕ) (b : Bool) (own : Stage × ℕ × ℕ) →
    own ≡ (g', d', c') → IsChanged (record v { stored = stored }) w own → (IsOpen g' → w.stored ≡ None) → IsPrefix v.seen w.seen →
    IsLegal v.limits w.seen → IsSeated v (pass_of t v n g d c b) → IsSeated w (pass_of u w n g' d' c' b)
seated_changed stored v w t u n g g' d d' c c' b own is s unstored more legal i = record {
  number_is = i.number_is ∙ sym s.number;
  pass = record {
    limits = rw s.limits i.pass.limits;
    legal = rw s.limits legal;
    own = rw s.fibers i.pass.own;
    within = rw s.limits i.pass.within;
    cell = ap (λ (f : ℕ). owned (seen_cell w f)) i.number_is ∙ s.cell ∙ is;
    count = owned-count w.limits w.seen n g' d' c' (rw s.limits i.pass.limits) (rw s.limits legal)
        (ap (λ (f : ℕ). owned (seen_cell w f)) i.number_is ∙ s.cell ∙ is);
    request = λ e.
        let before : (seen_cell v n).request ≡ true = i.pass.request e in
        let now : (cell_of (left v.limits w.seen) n).request ≡ true = request-prefix v.limits v.seen w.seen n more before in
        (λ j. (cell_of (left (s.limits j) w.seen) n).request) ∙ now;
    born = λ f owns. WasBorn-prefix v.seen w.seen f more (i.pass.born f (subst (λ (fs : List ℕ). Has fs f) s.fibers owns));
    told = rw s.limits (legal-told v.limits w.seen i.pass.limits legal);
  };
  unstored = unstored;
}

-- where the count of a pass isn't the limit, it is below it
pub count_below : (v : Knowledge) (p : PassView) (r : RegistryView) → IsSeated v p → p.registry ≡ r → p.count ≢ r.limits.count →
    p.count < p.registry.limits.count
count_below v p r i of ne =
    let most = i.pass.count in
    let limit = ap (λ (x : RegistryView). x.limits.count) of in
    let apart : p.count ≢ p.registry.limits.count = λ (e : p.count ≡ p.registry.limits.count). ne (e ∙ limit) in
    omega arith

pub seen_count_below : (v : Knowledge) (t : TableId) (n : ℕ) (g : Stage) (d c : ℕ) (b : Bool) (r : RegistryView) (key : Limits) →
    IsSeated v (pass_of t v n g d c b) → (pass_of t v n g d c b).registry ≡ r → IsRegistry key r → c ≢ r.limits.count → (seen_cell v v.number).count < key.count
seen_count_below v t n g d c b r key i of reg ne =
    let below = count_below v (pass_of t v n g d c b) r i of ne in
    let is = ap (λ o. o.2) (seat_cell v t n g d c b i) in
    let limit = ap (λ (x : RegistryView). x.limits.count) of in
    let key_count = ap (λ (k : Limits). k.count) reg.key_is in
    omega arith

-- the word of the pass's own fiber is one of the table's
pub own_place : (v : Knowledge) (p : PassView) (r : RegistryView) (key : Limits) (i : ℕ) → IsSeated v p → p.registry ≡ r → IsRegistry key r →
    i ≡ p.number + 3 → i < r.table.words
own_place v p r key i s of reg is =
    let within = s.pass.within in
    let fibers = ap (λ (x : RegistryView). x.limits.fibers) of in
    let words = reg.words in
    omega arith

-- ---- the words of refs and deferreds
pub ref_here : (k l : Limits) (i n : ℕ) → k ≡ l → i ≡ n + (3 + k.fibers) → i ≡ n + (3 + l.fibers)
ref_here k l i n e is = is ∙ ap (λ (x : Limits). n + (3 + x.fibers)) e

pub ref_word : (r : RegistryView) (key : Limits) (i n : ℕ) → IsRegistry key r → n < r.limits.refs → i ≡ n + (3 + r.limits.fibers) → i < r.table.words
ref_word r key i n reg within is = let words = reg.words in omega arith

pub deferred_here : (k l : Limits) (i n : ℕ) → k ≡ l → i ≡ n + (3 + k.fibers + k.refs) → i ≡ n + (3 + l.fibers + l.refs)
deferred_here k l i n e is = is ∙ ap (λ (x : Limits). n + (3 + x.fibers + x.refs)) e

pub deferred_word : (r : RegistryView) (key : Limits) (i n : ℕ) → IsRegistry key r → n < r.limits.deferreds →
    i ≡ n + (3 + r.limits.fibers + r.limits.refs) → i < r.table.words
deferred_word r key i n reg within is = let words = reg.words in omega arith

-- ---- a new fiber
-- the parent, once the number is handed out
pub parent-same : (v w : Knowledge) (n : ℕ) → Claimed Fibers v n w → IsSame v (parent w)
parent-same v w n c = record { limits = c.limits; number = c.number; stored = c.stored; fibers = ap without_newest c.fibers; cell = c.cell }

-- a number that a call was answered was given
call-given : (b : Band) (k : Limits) (fs : List ℕ) (before : List Entry) (by n : ℕ) (now : List Entry) →
    IsCall k fs before by (claim_of b) (Number n) now → WasGiven b now n
call-given b k fs before by n now m =
    subst (λ (h : List Entry). WasGiven b h n) (sym m.seen) (WasGiven-push b (before ++ m.between) (entry by (claim_of b) (Number n)) n refl refl)

pub child_seated : (v w : Knowledge) (u : TableId) (n : ℕ) → AreLimits v.limits → Claimed Fibers v n w →
    IsSeated (child w) (pass_of u (child w) n Running 0 0 false)
child_seated v w u n limits c = record {
  number_is = ap newest (sym c.fibers);
  pass = record {
    limits = rw c.limits limits;
    legal = rw c.limits c.call.legal;
    own = inl (ap newest c.fibers);
    within = rw c.limits c.within;
    cell = c.new.cell;
    count = omega arith;
    request = λ e. cc;
    born = λ f owns.
        let is : n ≡ f = ⊎_elim (λ (e : newest w.fibers ≡ f). sym (ap newest c.fibers) ∙ e) (λ none. absurd none) owns in
        inr (subst (WasGiven Fibers w.seen) is (call-given Fibers v.limits v.fibers v.seen v.number n w.seen c.call));
    told = rw c.limits (legal-told v.limits w.seen limits c.call.legal);
  };
  unstored = λ _. refl;
}

-- ---- a new ref or deferred, which adds no fiber, or none
pub seated_given : (b : Band) → ((m : ℕ) (fs : List ℕ) → fibers_with b m fs ≡ fs) →
    (o : Option ℕ) (v w : Knowledge) (t u : TableId) (n : ℕ) (g : Stage) (d c : ℕ) (s : Bool) → MatchOption o (FoundNone b v w) (λ m. Claimed b v m w)
    → IsSeated v (pass_of t v n g d c s) → IsSeated w (pass_of u w n g d c s)
seated_given b adds None v w t u n g d c s e i = seated_still v w t u n g d c s e.1 e.0.seen e.0.legal i
seated_given b adds (Some m) v w t u n g d c s e i = seated_still v w t u n g d c s record {
  limits = e.limits;
  number = e.number;
  stored = e.stored;
  fibers = e.fibers ∙ adds m v.fibers;
  cell = e.cell;
} (call-prefix _ _ _ _ _ _ _ e.call) e.call.legal i

-- ---- a pass that met another
pub met_seated : (u a v w : Knowledge) (t t' : TableId) (n : ℕ) (g : Stage) (d c : ℕ) (b : Bool) → v ≡ hosting u a → Met v w →
    ((f : ℕ) → Has a.fibers f → WasBorn a.seen f) → IsSeated u (pass_of t u n g d c b) → IsSeated w (pass_of t' w n g d c b)
met_seated u a v w t t' n g d c b is =
    subst (λ (x : Knowledge). Met x w → ((f : ℕ) → Has a.fibers f → WasBorn a.seen f) → IsSeated u (pass_of t u n g d c b) →
    IsSeated w (pass_of t' w n g d c b)) (sym is) (λ m guests i. record {
      number_is = i.number_is ∙ sym m.number;
      pass = record {
        limits = rw m.limits i.pass.limits;
        legal = rw m.limits m.legal;
        own = rw m.fibers (in_append u.fibers a.fibers n i.pass.own);
        within = rw m.limits i.pass.within;
        cell = ap (λ (f : ℕ). owned (seen_cell w f)) i.number_is ∙ m.cell ∙ seat_cell u t n g d c b i;
        count = rw m.limits i.pass.count;
        request = λ e.
            let before : (seen_cell u n).request ≡ true = i.pass.request e in
            let now : (cell_of (left u.limits w.seen) n).request ≡ true = request-prefix u.limits u.seen w.seen n m.seen before in
            (λ j. (cell_of (left (m.limits j) w.seen) n).request) ∙ now;
        born = λ f owns. ⊎_elim
            (λ (mine : Has u.fibers f). WasBorn-prefix u.seen w.seen f m.seen (i.pass.born f mine))
            (λ (theirs : Has a.fibers f). WasBorn-prefix a.seen w.seen f m.heard (guests f theirs))
            (has_append u.fibers a.fibers f (subst (λ (fs : List ℕ). Has fs f) m.fibers owns));
        told = rw m.limits (legal-told u.limits w.seen i.pass.limits m.legal);
      };
      unstored = λ opened. m.stored ∙ i.unstored opened;
    })

-- ---- the first pass
pub first_seated : (k : Limits) (t : TableId) → AreLimits k → IsSeated (first_knowledge k) (pass_of t (first_knowledge k) 0 Running 0 0 false)
unfolding left IsLegal
first_seated k t l = record {
  number_is = refl;
  pass = record {
    limits = l;
    legal = tt;
    own = inl refl;
    within = l.some_fiber;
    cell = ap owned (get_or-replicate_default fresh k.fibers 0);
    count = omega arith;
    request = λ e. cc;
    born = λ f owns. ⊎_elim (λ (e : 0 ≡ f). inl (sym e)) (λ none. absurd none) owns;
    told = legal-told k [] l tt;
  };
  unstored = λ _. refl;
}
