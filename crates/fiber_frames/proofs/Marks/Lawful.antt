-- A lawful fiber: its term is typed by the brackets that its marks leave open. Each move keeps that.
use Rattle.fiber_frames.proofs.Prelude.{◌≡◌, ◌≢◌, ℕ, ◌+◌, ◌<◌, ◌≤◌, List, [], ◌∷◌, ◌++◌, Option, Some, None, refl, sym, ap, ◌∙◌, subst, arith, Mask, Named}
use Rattle.fiber_frames.proofs.Prelude.{Pair, Tree, Reply, Fiber, active_of, begins, cut, looked, lost, move, reduced, At_final, At_term, Broken, Final, Over}
use Rattle.fiber_frames.proofs.Prelude.{Running, Runs, focus, Row, row_at, Mark}
use Rattle.fiber_frames.proofs.Marks.Cuts.{Chain, chain_none, cut_chain}
use Rattle.fiber_frames.proofs.Marks.Keeping.{EndsAs, Keeps, Own, typed_end, walk_keeps}
use Rattle.fiber_frames.proofs.Marks.Moves.{active_run, cut_run, move_by, noted}
use Rattle.fiber_frames.proofs.Marks.Opened.{after_mark, after_marks, and_then}
use Rattle.fiber_frames.proofs.Marks.Typed.{In, Masks, Stack, Typed}
use Rattle.fiber_frames.proofs.Marks.Weaken.{Grows, in_more, typed_more}
use Rattle.fiber_frames.proofs.Walk.{End, Gives, Throws, Works, active_path, end_of, finalizers_below, masks_below, root_row, row_root, walk}

-- the masks that a fiber may name: its own below the next, and those of older fibers
abbrev pub Known : ℕ → ℕ → Masks
Known i n (Named t) = ⊥
Known i n (Pair f m) = (f ≤ i) × (f ≡ i → m < n)

-- the same, but for the mask of the finalizers
abbrev pub Known_final : ℕ → ℕ → ℕ → Masks
Known_final i z n q = Known i n q × (q ≢ Pair i z)

abbrev pub Lives : ℕ → ℕ → Running → Stack → Type 0
Lives i n (Runs t) s = In (Known i n) s × Typed i (Known i n) [] (Some []) s (Some []) (Some []) t
Lives i n (Final z []) s = s ≡ []
Lives i n (Final z (g ∷ gs)) s =
    (z < n) × In (Known_final i z n) s × (t : Stack) × In (Known_final i z n) t ×
    Typed i (Known_final i z n) (Pair i z ∷ []) None s (Some t) (Some t) g × Chain i (Known_final i z n) gs t (Some [])
Lives i n (Over o) s = s ≡ []
Lives i n Broken s = Unit {0}

pub record Lawful (f : Fiber) : Type 0 where
  pub now : Stack
  pub marks : after_marks f.number f.marks [] ≡ Some now
  pub own : In (Own f.number) now
  pub lives : Lives f.number f.next f.running now

and_step : (i : ℕ) (ms ns : List Mark) (o : Option Stack) →
    ((t : Stack) → after_marks i (ms ++ ns) t ≡ and_then (after_marks i ms t) (after_marks i ns)) →
    and_then o (after_marks i (ms ++ ns)) ≡ and_then (and_then o (after_marks i ms)) (after_marks i ns)
and_step i ms ns None h = refl
and_step i ms ns (Some t) h = h t

pub after_marks-append : (i : ℕ) (ms ns : List Mark) (s : Stack) → after_marks i (ms ++ ns) s ≡ and_then (after_marks i ms s) (after_marks i ns)
after_marks-append i [] ns s = refl
after_marks-append i (m ∷ ms) ns s = and_step i ms ns (after_mark i m s) (after_marks-append i ms ns)

after_more : (i : ℕ) (ms ns : List Mark) (s t u : Stack) → after_marks i ms s ≡ Some t → after_marks i ns t ≡ Some u → after_marks i (ms ++ ns) s ≡ Some u
after_more i ms ns s t u a b = after_marks-append i ms ns s ∙ ap (λ o. and_then o (after_marks i ns)) a ∙ b

module _ (i : ℕ) where
  known_grows : (n : ℕ) (q : Mask) → Known i n q → Known i (n + 1) q
  known_grows n (Named t) h = h
  known_grows n (Pair f m) h = (h.0, (λ e. let l : m < n = h.1 e in omega arith))

  known_new : (n : ℕ) → Known i (n + 1) (Pair i n)
  known_new n = (omega arith, (λ e. omega arith))

  known_fresh : (n : ℕ) → Known i n (Pair i n) → ⊥
  known_fresh n h = let l : n < n = h.1 refl in omega arith

  pair_injective : (f m g n : ℕ) → Pair f m ≡ Pair g n → m ≡ n
  pair_injective f m g n e = cc

  final_new : (z n : ℕ) → z < n → Known_final i z (n + 1) (Pair i n)
  final_new z n l = (known_new n, (λ e. let same : n ≡ z = pair_injective i n i z e in omega arith))

  pub runs_keep : (n : ℕ) (r : Reply) (t : Tree) (s : Stack) → In (Known i n) s → In (Own i) s →
      Typed i (Known i n) [] (Some []) s (Some []) (Some []) t → Keeps i (Known i) n [] (Some []) s (Some []) (Some []) (walk i n r [] t)
  runs_keep n r t s k o h =
      walk_keeps i (Known i) (λ n t h. h) known_grows known_fresh n (known_new n) r t [] (Some []) s (Some []) (Some [])
      (record { masks = tt; expected = tt; open_now = k; given = tt; raised = tt }) tt o h

  pub final_keep : (z n : ℕ) (r : Reply) (t : Tree) (s u : Stack) → z < n → In (Known_final i z n) s → In (Known_final i z n) u → In (Own i) s →
      Typed i (Known_final i z n) (Pair i z ∷ []) None s (Some u) (Some u) t →
      Keeps i (Known_final i z) n (Pair i z ∷ []) None s (Some u) (Some u) (walk i n r (Pair i z ∷ []) t)
  final_keep z n r t s u l k ku o h =
      let older : Pair i z ≢ Pair i n = λ e. (let same : z ≡ n = pair_injective i z i n e in omega arith) in
      walk_keeps i (Known_final i z) (λ n t h. h.0) (λ n q h. (known_grows n q h.0, h.1)) (λ n h. known_fresh n h.0) n (final_new z n l) r t
      (Pair i z ∷ []) None s (Some u) (Some u) (record { masks = (older, tt); expected = tt; open_now = k; given = ku; raised = ku }) ((z, refl), tt) o h

  -- ---- finalizers under more known masks
  chain_later : (P P' : Masks) → Grows P P' → (gs : List Tree) (s : Stack) (k : Option Stack) → Chain i P gs s k → Chain i P' gs s k
  chain_later P P' w [] s k c = c
  chain_later P P' w (g ∷ gs) s k c = (
    c.0,
    in_more P P' w.more c.0 c.1,
    (λ f m u. typed_more g i P P' (Pair f m ∷ []) None s (Some c.0) (Some c.0) w (c.2 f m (λ h. u (w.more (Pair f m) h)))),
    chain_later P P' w gs c.0 k c.3,
  )

  -- the finalizers that are left, where the one before has ended
  chain_lives : (z n : ℕ) (gs : List Tree) (s : Stack) → z < n → In (Known_final i z n) s → Chain i (Known_final i z n) gs s (Some []) →
      Lives i n (Final z gs) s
  chain_lives z n [] s l k c = cc
  chain_lives z n (g ∷ gs) s l k c = (l, k, c.0, c.1, c.2 i z (λ h. h.1 refl), c.3)

  same_stack : (s t : Stack) → Some s ≡ Some t → s ≡ t
  same_stack s t e = cc

  lawful_end : (f : Fiber) (s : Stack) (ms : List Mark) (w : Running) → f.number ≡ i → after_marks f.number f.marks [] ≡ Some s →
      after_marks f.number ms s ≡ Some s → In (Own f.number) s → Lives f.number f.next w s → Lawful (noted f w f.next ms)
  lawful_end f s ms w e m q o l = record { now = s; marks = after_more f.number f.marks ms [] s s m q; own = o; lives = l }

-- a row at the root
root_keeps : (f : Fiber) (s : Stack) → after_marks f.number f.marks [] ≡ Some s → In (Own f.number) s → (E : End) →
    EndsAs E [] (Some []) s (Some []) (Some []) → (a : Row Tree) → Keeps f.number (Known f.number) f.next [] (Some []) s (Some []) (Some []) a →
    Lawful (reduced f (root_row f.number f.next At_term E a))
root_keeps f s m o Works e a k =
    record { now = k.now; marks = after_more f.number f.marks a.marks [] s k.now m k.marks; own = k.own; lives = (k.known, k.typed) }
root_keeps f s m o _ e a k = lawful_end f.number f s [] _ refl m refl o (let none : Some [] ≡ Some s = e.1 in cc)

-- a row of a finalizer
final_keeps : (f : Fiber) (z : ℕ) (gs : List Tree) (s u : Stack) → z < f.next → In (Known_final f.number z f.next) s →
    In (Known_final f.number z f.next) u → Chain f.number (Known_final f.number z f.next) gs u (Some []) → after_marks f.number f.marks [] ≡ Some s →
    In (Own f.number) s → (E : End) → EndsAs E (Pair f.number z ∷ []) None s (Some u) (Some u) → (a : Row Tree) →
    Keeps f.number (Known_final f.number z) f.next (Pair f.number z ∷ []) None s (Some u) (Some u) a →
    Lawful (reduced f (root_row f.number f.next (At_final z gs) E a))
final_keeps f z gs s u l ks ku c m o (Gives v) e a k =
    let same : u ≡ s = same_stack f.number u s e.1 in
    lawful_end f.number f s [] _ refl m refl o
    (chain_lives f.number z f.next gs s l ks (subst (λ y. Chain f.number (Known_final f.number z f.next) gs y (Some [])) same c))
final_keeps f z gs s u l ks ku c m o (Throws v) e a k =
    let same : u ≡ s = same_stack f.number u s e.1 in
    lawful_end f.number f s (Mark.Dropped _ ∷ []) _ refl m refl o
    (chain_lives f.number z f.next gs s l ks (subst (λ y. Chain f.number (Known_final f.number z f.next) gs y (Some [])) same c))
final_keeps f z gs s u l ks ku c m o Works e a k =
    let w : Grows (Known_final f.number z f.next) (Known_final f.number z a.next) = record { more = k.grown; back = λ t h. absurd h.0 } in
    record {
      now = k.now;
      marks = after_more f.number f.marks a.marks [] s k.now m k.marks;
      own = k.own;
      lives = (
        (let later : f.next ≤ a.next = k.later in omega arith),
        k.known,
        u,
        in_more (Known_final f.number z f.next) (Known_final f.number z a.next) k.grown u ku,
        k.typed,
        chain_later f.number (Known_final f.number z f.next) (Known_final f.number z a.next) w gs u (Some []) c,
      );
    }

rows_keep : (f : Fiber) (r : Reply) (w : Running) → f.running ≡ w → Lawful f → Lawful (reduced f (row_at f.number f.next r (focus w) w))
rows_keep f r (Over o) e h = lawful_end f.number f h.now [] _ refl h.marks refl h.own (subst (λ w. Lives f.number f.next w h.now) e h.lives)
rows_keep f r Broken e h = lawful_end f.number f h.now [] _ refl h.marks refl h.own tt
rows_keep f r (Final z []) e h =
    let l : Lives f.number f.next (Final z []) h.now = subst (λ w. Lives f.number f.next w h.now) e h.lives in
    lawful_end f.number f h.now [] _ refl h.marks refl h.own l
rows_keep f r (Runs t) e h =
    let l : Lives f.number f.next (Runs t) h.now = subst (λ w. Lives f.number f.next w h.now) e h.lives in
    subst (λ y. Lawful (reduced f y)) (sym (row_root f.number f.next r At_term t))
    (root_keeps f h.now h.marks h.own (end_of t) (typed_end f.number (Known f.number f.next) t [] (Some []) h.now (Some []) (Some []) l.1)
    (walk f.number f.next r [] t) (runs_keep f.number f.next r t h.now l.0 h.own l.1))
rows_keep f r (Final z (g ∷ gs)) e h =
    let l : Lives f.number f.next (Final z (g ∷ gs)) h.now = subst (λ w. Lives f.number f.next w h.now) e h.lives in
    let P = Known_final f.number z f.next in
    subst (λ y. Lawful (reduced f y)) (sym (row_root f.number f.next r (At_final z gs) g))
    (final_keeps f z gs h.now l.2 l.0 l.1 l.3 l.5 h.marks h.own (end_of g)
    (typed_end f.number P g (Pair f.number z ∷ []) None h.now (Some l.2) (Some l.2) l.4) (walk f.number f.next r (Pair f.number z ∷ []) g)
    (final_keep f.number z f.next r g h.now l.2 l.0 l.1 l.3 h.own l.4))

-- the known masks once the next one is the finalizers'
more_final : (i n : ℕ) → Grows (Known i n) (Known_final i n (n + 1))
more_final i n = record { more = λ q h. (known_grows i n q h, (λ e. known_fresh i n (subst (Known i n) e h))); back = λ t h. absurd h.0 }

-- no cut comes while a finalizer runs
pub final_masked : (f : Fiber) (z : ℕ) (gs : List Tree) → Lawful f → f.running ≡ Final z gs → active_of f ≡ [] → ⊥
final_masked f z [] h e a = let none : Pair f.number z ∷ [] ≡ [] = active_run f (Final z []) [] e a in cc
final_masked f z (g ∷ gs) h e a =
    let l : Lives f.number f.next (Final z (g ∷ gs)) h.now = subst (λ w. Lives f.number f.next w h.now) e h.lives in
    let P = Known_final f.number z f.next in
    let none : masks_below f.number (Pair f.number z ∷ []) g ≡ [] = sym (active_path f.number (At_final z gs) [] g) ∙ active_run f (Final z (g ∷ gs)) [] e a in
    chain_none f.number P (finalizers_below g) h.now (cut_chain f.number P g (Pair f.number z ∷ []) None h.now (Some l.2) (Some l.2) tt none l.4)

cut_keeps : (f : Fiber) (t : Tree) → f.running ≡ Runs t → masks_below f.number [] t ≡ [] → Lawful f → Lawful (cut f)
cut_keeps f t e a h =
    let l : Lives f.number f.next (Runs t) h.now = subst (λ w. Lives f.number f.next w h.now) e h.lives in
    let P = Known f.number f.next in
    let c : Chain f.number P (finalizers_below t) h.now (Some []) = cut_chain f.number P t [] (Some []) h.now (Some []) (Some []) tt a l.1 in
    let w = more_final f.number f.next in
    let P' = Known_final f.number f.next (f.next + 1) in
    let k : In P' h.now = in_more P P' w.more h.now l.0 in
    let after : Lawful (noted f (Final f.next (finalizers_below t)) (f.next + 1) (Mark.Cut ∷ [])) = record {
      now = h.now;
      marks = after_more f.number f.marks (Mark.Cut ∷ []) [] h.now h.now h.marks refl;
      own = h.own;
      lives = chain_lives f.number f.next (f.next + 1) (finalizers_below t) h.now (omega arith) k
          (chain_later f.number P P' w (finalizers_below t) h.now (Some []) c);
    } in
    subst Lawful (sym (cut_run f t e)) after

-- each move keeps it, whatever the reply
pub move_keeps : (f : Fiber) (r : Reply) → Lawful f → Lawful (move f r)
move_keeps f r h =
    let same : Lawful (looked f r) = record { now = h.now; marks = h.marks; own = h.own; lives = h.lives } in
    move_by Lawful f r h same (λ t e a. cut_keeps f t e a h) (λ m gs e a. absurd (final_masked f m gs h e a)) (rows_keep f r f.running refl h)

-- a fiber that lost its term keeps what its marks show
pub lost_keeps : (f : Fiber) → Lawful f → Lawful (lost f)
lost_keeps f h = record { now = h.now; marks = h.marks; own = h.own; lives = tt }

-- ---- a fiber that is started, by an older one
known_born : (i n c : ℕ) → i < c → Grows (Known i n) (Known c 0)
known_born i n c l = record { more = go; back = λ t h. h }
  where
    go : (q : Mask) → Known i n q → Known c 0 q
    go (Named t) h = h
    go (Pair f m) h = let older : f ≤ i = h.0 in (omega arith, (λ e. absurd (omega arith)))

pub born_lawful : (i n c : ℕ) (e : Tree) → i < c → ((c : ℕ) → Typed c (Known i n) [] (Some []) [] (Some []) (Some []) e) → Lawful (begins c e)
born_lawful i n c e l h = record {
  now = [];
  marks = refl;
  own = tt;
  lives = (tt, typed_more e c (Known i n) (Known c 0) [] (Some []) [] (Some []) (Some []) (known_born i n c l) (h c));
}
