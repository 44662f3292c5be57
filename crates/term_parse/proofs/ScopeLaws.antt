-- The meaning of a name is the innermost binder of its spelling.
use Rattle.std.proofs.Common.{◌≡◌, ◌≢◌, ◌↔◌, ◌+◌, ℕ, suc, List, [], ◌∷◌, ◌++◌, length, Option, Some, None, Result, Ok, Err, Bool, true, false, refl, ap, sym}
use Rattle.std.{proofs.{Common.{subst, ◌∙◌, arith}, lemmas.{Slice.Eq.bytes_eq-Decides, Bool.Decides.not_from_Decides}}, specs.Str.bytes_eq}
use Rattle.effect_term.specs.{declared.term.{Kind.Kind, Name.Name}, Names.same_kind}
use Rattle.term_parse.specs.{declared.error.ParseError.ParseError, Reading.{Bound, find_from, meaning}, Innermost.{Unspelled, IsInnermost}}
use Rattle.effect_term.specs.declared.term.Kind.TheVariants as kinds
use Rattle.term_parse.specs.declared.error.ParseError.TheVariants as errors

-- the innermost binder, where the scope's first has this slot
record IsInnermostFrom (from : ℕ) (scope : List Bound) (x : List ℕ) (n : Name) : Type 0 where
  before : List Bound
  binder : Bound
  behind : List Bound
  scope_is : scope ≡ before ++ binder ∷ behind
  spelled : binder.spelling ≡ x
  unshadowed : Unspelled behind x
  slot_is : n.slot ≡ from + length before
  kind_is : n.kind ≡ binder.kind

-- what was found, or that nothing was
abbrev Found : ℕ → List Bound → List ℕ → Option Name → Type 0
Found from scope x None = Unspelled scope x
Found from scope x (Some n) = IsInnermostFrom from scope x n

found_more : (from : ℕ) (b : Bound) (bs : List Bound) (x : List ℕ) (o : Option Name) → find_from (suc from) bs x ≡ o → Found (suc from) bs x o →
    (t : Bool) → bytes_eq b.spelling x ≡ t → Found from (b ∷ bs) x (find_from from (b ∷ bs) x)
unfolding find_from
found_more from b bs x (Some n) q h t u =
    rw (q, find_from) record {
      before = b ∷ h.before;
      binder = h.binder;
      behind = h.behind;
      scope_is = ap (λ y. b ∷ y) h.scope_is;
      spelled = h.spelled;
      unshadowed = h.unshadowed;
      slot_is = h.slot_is ∙ omega arith;
      kind_is = h.kind_is;
    }
found_more from b bs x None q h true u =
    rw (q, u, find_from) record {
      before = [];
      binder = b;
      behind = bs;
      scope_is = refl;
      spelled = (bytes_eq-Decides b.spelling x).0 u;
      unshadowed = h;
      slot_is = omega arith;
      kind_is = refl;
    }
found_more from b bs x None q h false u = rw (q, u, find_from) (not_from_Decides (bytes_eq b.spelling x) (bytes_eq-Decides b.spelling x) u, h)

found : (from : ℕ) (scope : List Bound) (x : List ℕ) → Found from scope x (find_from from scope x)
unfolding find_from
found from [] x = tt
found from (b ∷ bs) x = found_more from b bs x (find_from (suc from) bs x) refl (found (suc from) bs x) (bytes_eq b.spelling x) refl

test_fails : (b : Bool) → (b ≡ true → ⊥) → b ≡ false
test_fails true h = absurd (h refl)
test_fails false h = refl

bytes_differ : (x y : List ℕ) → x ≢ y → bytes_eq x y ≡ false
bytes_differ x y h = test_fails (bytes_eq x y) (λ q. h ((bytes_eq-Decides x y).0 q))

pub find_none : (from : ℕ) (scope : List Bound) (x : List ℕ) → Unspelled scope x → find_from from scope x ≡ None
unfolding find_from
find_none from [] x h = refl
find_none from (b ∷ bs) x h =
    let rest : find_from (suc from) bs x ≡ None = find_none (suc from) bs x h.1 in
    let other : bytes_eq b.spelling x ≡ false = bytes_differ b.spelling x h.0 in
    rw (rest, find_from) (rw other refl)

pub find-from_innermost : (from : ℕ) (before : List Bound) (binder : Bound) (behind : List Bound) (x : List ℕ) → binder.spelling ≡ x →
    Unspelled behind x → find_from from (before ++ binder ∷ behind) x ≡ Some (record { slot = from + length before; kind = binder.kind })
unfolding find_from
find-from_innermost from [] binder behind x e u =
    let rest : find_from (suc from) behind x ≡ None = find_none (suc from) behind x u in
    let same : bytes_eq binder.spelling x ≡ true = (bytes_eq-Decides binder.spelling x).1 e in
    let at : from ≡ from + 0 = omega arith in
    rw (rest, find_from) (rw same (ap (λ k. Some (record { slot = k; kind = binder.kind })) at))
find-from_innermost from (b ∷ before) binder behind x e u =
    let rest : find_from (suc from) (before ++ binder ∷ behind) x ≡ Some (record { slot = suc from + length before; kind = binder.kind }) =
    find-from_innermost (suc from) before binder behind x e u in
    let at : suc from + length before ≡ from + suc (length before) = omega arith in
    rw (rest, find_from) (ap (λ k. Some (record { slot = k; kind = binder.kind })) at)

find-innermost : (scope : List Bound) (x : List ℕ) (n : Name) → IsInnermost scope x n → find_from 0 scope x ≡ Some n
find-innermost scope x n h =
    let at : 0 + length h.before ≡ n.slot = omega (arith, h.slot_is) in
    rw h.scope_is (find-from_innermost 0 h.before h.binder h.behind x h.spelled h.unshadowed ∙
    ap (λ k. Some (record { slot = k; kind = h.binder.kind })) at ∙ ap (λ k. Some (record { slot = n.slot; kind = k })) (sym h.kind_is))

innermost-from_find : (scope : List Bound) (x : List ℕ) (n : Name) (o : Option Name) → find_from 0 scope x ≡ o → o ≡ Some n → Found 0 scope x o →
    IsInnermost scope x n
innermost-from_find scope x n None q e h = cc
innermost-from_find scope x n (Some m) q e h =
    let same : m ≡ n = cc in
    record {
      before = h.before;
      binder = h.binder;
      behind = h.behind;
      scope_is = h.scope_is;
      spelled = h.spelled;
      unshadowed = h.unshadowed;
      slot_is = ap (λ (y : Name). y.slot) (sym same) ∙ h.slot_is ∙ omega arith;
      kind_is = ap (λ (y : Name). y.kind) (sym same) ∙ h.kind_is;
    }

same_kind_self : (k : Kind) → same_kind k k ≡ true
same_kind_self kinds.Value = refl
same_kind_self _ = refl

same_kind_same : (j k : Kind) → same_kind j k ≡ true → j ≡ k
same_kind_same kinds.Value kinds.Value h = refl
same_kind_same kinds.Poll kinds.Poll h = refl
same_kind_same kinds.Fiber kinds.Fiber h = refl
same_kind_same kinds.Ref kinds.Ref h = refl
same_kind_same kinds.Deferred kinds.Deferred h = refl
same_kind_same j k h = cc

other_kind : (j k : Kind) → j ≢ k → same_kind j k ≡ false
other_kind j k h = test_fails (same_kind j k) (λ q. h (same_kind_same j k q))

meaning_none : (scope : List Bound) (kind : Kind) (x : List ℕ) (at : ℕ) → find_from 0 scope x ≡ None → meaning scope kind x at ≡ Err (errors.UnknownName at)
unfolding meaning
meaning_none scope kind x at q = rw (q, meaning) refl

meaning_same : (scope : List Bound) (kind : Kind) (x : List ℕ) (at : ℕ) (n : Name) → find_from 0 scope x ≡ Some n → same_kind n.kind kind ≡ true →
    meaning scope kind x at ≡ Ok n
unfolding meaning
meaning_same scope kind x at n q t = rw (q, meaning) (rw t refl)

meaning_other : (scope : List Bound) (kind : Kind) (x : List ℕ) (at : ℕ) (n : Name) → find_from 0 scope x ≡ Some n → same_kind n.kind kind ≡ false →
    meaning scope kind x at ≡ Err (errors.NameKind at)
unfolding meaning
meaning_other scope kind x at n q t = rw (q, meaning) (rw t refl)

pub meaning-from_innermost : (scope : List Bound) (kind : Kind) (x : List ℕ) (at : ℕ) (n : Name) → IsInnermost scope x n × (n.kind ≡ kind) →
    meaning scope kind x at ≡ Ok n
meaning-from_innermost scope kind x at n (h, k) =
    meaning_same scope kind x at n (find-innermost scope x n h) (ap (λ y. same_kind n.kind y) (sym k) ∙ same_kind_self n.kind)

meaning-unspelled : (scope : List Bound) (kind : Kind) (x : List ℕ) (at : ℕ) → Unspelled scope x → meaning scope kind x at ≡ Err (errors.UnknownName at)
meaning-unspelled scope kind x at h = meaning_none scope kind x at (find_none 0 scope x h)

meaning-other_kind : (scope : List Bound) (kind : Kind) (x : List ℕ) (at : ℕ) → (n : Name) × IsInnermost scope x n × (n.kind ≢ kind) →
    meaning scope kind x at ≡ Err (errors.NameKind at)
meaning-other_kind scope kind x at (n, h, k) = meaning_other scope kind x at n (find-innermost scope x n h) (other_kind n.kind kind k)

-- the innermost binder is the wanted one, or of another kind, or there is none
data Said (scope : List Bound) (kind : Kind) (x : List ℕ) (at : ℕ) : Type 0 where
  meant : (n : Name) → IsInnermost scope x n → n.kind ≡ kind → meaning scope kind x at ≡ Ok n → Said scope kind x at
  otherwise : (n : Name) → IsInnermost scope x n → n.kind ≢ kind → meaning scope kind x at ≡ Err (errors.NameKind at) → Said scope kind x at
  unknown : Unspelled scope x → meaning scope kind x at ≡ Err (errors.UnknownName at) → Said scope kind x at

differs : (j k : Kind) → same_kind j k ≡ false → j ≢ k
differs j k f e = let t : same_kind j k ≡ true = ap (λ y. same_kind j y) (sym e) ∙ same_kind_self j in cc

said_kind : (scope : List Bound) (kind : Kind) (x : List ℕ) (at : ℕ) (n : Name) → find_from 0 scope x ≡ Some n → IsInnermost scope x n → (t : Bool) →
    same_kind n.kind kind ≡ t → Said scope kind x at
said_kind scope kind x at n q h true u = meant n h (same_kind_same n.kind kind u) (meaning_same scope kind x at n q u)
said_kind scope kind x at n q h false u = otherwise n h (differs n.kind kind u) (meaning_other scope kind x at n q u)

said_of : (scope : List Bound) (kind : Kind) (x : List ℕ) (at : ℕ) (o : Option Name) → find_from 0 scope x ≡ o → Found 0 scope x o → Said scope kind x at
said_of scope kind x at None q h = unknown h (meaning_none scope kind x at q)
said_of scope kind x at (Some n) q h = said_kind scope kind x at n q (innermost-from_find scope x n (Some n) q refl h) (same_kind n.kind kind) refl

said : (scope : List Bound) (kind : Kind) (x : List ℕ) (at : ℕ) → Said scope kind x at
said scope kind x at = said_of scope kind x at (find_from 0 scope x) refl (found 0 scope x)

innermost_ok : {scope : List Bound} {kind : Kind} {x : List ℕ} {at : ℕ} → Said scope kind x at → (n : Name) → meaning scope kind x at ≡ Ok n →
    IsInnermost scope x n × (n.kind ≡ kind)
innermost_ok {scope} {kind} {x} {at} (meant m h k e) n f = let same : m ≡ n = cc in subst (λ (y : Name). IsInnermost scope x y × (y.kind ≡ kind)) same (h, k)
innermost_ok (otherwise m h k e) n f = cc
innermost_ok (unknown h e) n f = cc

unspelled_unknown : {scope : List Bound} {kind : Kind} {x : List ℕ} {at : ℕ} → Said scope kind x at →
    meaning scope kind x at ≡ Err (errors.UnknownName at) → Unspelled scope x
unspelled_unknown (meant m h k e) f = cc
unspelled_unknown (otherwise m h k e) f = cc
unspelled_unknown (unknown h e) f = h

other_refused : {scope : List Bound} {kind : Kind} {x : List ℕ} {at : ℕ} → Said scope kind x at →
    meaning scope kind x at ≡ Err (errors.NameKind at) → (n : Name) × IsInnermost scope x n × (n.kind ≢ kind)
other_refused (meant m h k e) f = cc
other_refused (otherwise m h k e) f = (m, h, k)
other_refused (unknown h e) f = cc

pub innermost-from_meaning : (scope : List Bound) (kind : Kind) (x : List ℕ) (at : ℕ) (n : Name) → meaning scope kind x at ≡ Ok n →
    IsInnermost scope x n × (n.kind ≡ kind)
innermost-from_meaning scope kind x at n f = innermost_ok (said scope kind x at) n f

unspelled-from_meaning : (scope : List Bound) (kind : Kind) (x : List ℕ) (at : ℕ) → meaning scope kind x at ≡ Err (errors.UnknownName at) → Unspelled scope x
unspelled-from_meaning scope kind x at f = unspelled_unknown (said scope kind x at) f

other_kind-from_meaning : (scope : List Bound) (kind : Kind) (x : List ℕ) (at : ℕ) → meaning scope kind x at ≡ Err (errors.NameKind at) →
    (n : Name) × IsInnermost scope x n × (n.kind ≢ kind)
other_kind-from_meaning scope kind x at f = other_refused (said scope kind x at) f

-- what is answered for a use, in plain words
pub meant_where : (scope : List Bound) (kind : Kind) (x : List ℕ) (at : ℕ) (r : Result Name ParseError) → r ≡ meaning scope kind x at → (n : Name) →
    (r ≡ Ok n) ↔ (IsInnermost scope x n × (n.kind ≡ kind))
meant_where scope kind x at r e n = (λ h. innermost-from_meaning scope kind x at n (sym e ∙ h), λ h. e ∙ meaning-from_innermost scope kind x at n h)

pub unknown_where : (scope : List Bound) (kind : Kind) (x : List ℕ) (at : ℕ) (r : Result Name ParseError) → r ≡ meaning scope kind x at →
    (r ≡ Err (errors.UnknownName at)) ↔ Unspelled scope x
unknown_where scope kind x at r e = (λ h. unspelled-from_meaning scope kind x at (sym e ∙ h), λ h. e ∙ meaning-unspelled scope kind x at h)

pub other_where : (scope : List Bound) (kind : Kind) (x : List ℕ) (at : ℕ) (r : Result Name ParseError) → r ≡ meaning scope kind x at →
    (r ≡ Err (errors.NameKind at)) ↔ ((n : Name) × IsInnermost scope x n × (n.kind ≢ kind))
other_where scope kind x at r e = (λ h. other_kind-from_meaning scope kind x at (sym e ∙ h), λ h. e ∙ meaning-other_kind scope kind x at h)
