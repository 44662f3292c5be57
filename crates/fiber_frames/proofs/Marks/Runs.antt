-- What holds of every state of a fiber, whatever it is answered; and so its marks are lawful.
use Rattle.fiber_frames.proofs.Prelude.{◌≡◌, ◌≢◌, ◌⊎◌, inl, inr, ℕ, ◌+◌, ◌-◌, ◌≤◌, ◌<◌, Bool, true, false, if◌then◌else◌, nat_eq, List, [], ◌∷◌, ◌++◌, Some}
use Rattle.fiber_frames.proofs.Prelude.{None, refl, sym, ap, ◌∙◌, subst, arith, eqb-true, append-nil, ◌&&◌, Guarded, Handled, Let, Mask, Masked, Pair, Polled}
use Rattle.fiber_frames.proofs.Prelude.{Seq, Tree, Operand, Outcome, Reply, Fiber, Move_case, Reduces, begins, child, cut, kind_in, looked, lost, move}
use Rattle.fiber_frames.proofs.Prelude.{move_case, outcome_of, reduced, term_born, AreLawful, EndsLawfully, Has, IsCutOnce, NoCut, UncutRegions, bracket_steps}
use Rattle.fiber_frames.proofs.Prelude.{times_acquired, At_final, At_term, Broken, Final, Over, Root, Running, Runs, focus, Born, RowKind, Row, number_of}
use Rattle.fiber_frames.proofs.Prelude.{row_at, unit, Mark}
use Rattle.fiber_frames.proofs.Marks.Actions.{If_born}
use Rattle.fiber_frames.proofs.Marks.Balance.{empty_balanced, open_balanced, signs}
use Rattle.fiber_frames.proofs.Marks.Cutting.{Active, Live, Static, is_on, only, spends}
use Rattle.fiber_frames.proofs.Marks.Lawful.{Known, Known_final, Lawful, Lives, born_lawful, final_keep, final_masked, lost_keeps, move_keeps, runs_keep}
use Rattle.fiber_frames.proofs.Marks.Marking.{cut_once_more, has_middle, is_on-append, no_cut_append, off_polled, on_numbers, slots, taken-append, times_taken}
use Rattle.fiber_frames.proofs.Marks.Moves.{cut_run, move_by, noted}
use Rattle.fiber_frames.proofs.Marks.Plain.{Part}
use Rattle.fiber_frames.proofs.Marks.Programs.{None_named}
use Rattle.fiber_frames.proofs.Marks.Regions.{Agrees, row_agrees, static_live}
use Rattle.fiber_frames.proofs.Marks.Saving.{Saves, Smaller, made_weight, row_saves, taken, typed_owned}
use Rattle.fiber_frames.proofs.Marks.Typed.{Typed}
use Rattle.fiber_frames.proofs.Marks.Weaken.{Grows, typed_more}
use Rattle.fiber_frames.proofs.Walk.{End, Gives, Throws, Works, end_of, finalizers_below, masks_below, root_row, row_root, walk}
use Rattle.fiber_frames.specs.Fiber.{kind_of, outcome_in}

abbrev pub AllStatic : List Tree → Type 0
AllStatic [] = Unit {0}
AllStatic (g ∷ gs) = Static g × AllStatic gs

abbrev pub LiveRun : Running → Type 0
LiveRun (Runs t) = Live t
LiveRun (Final z []) = Unit {0}
LiveRun (Final z (g ∷ gs)) = Live g × AllStatic gs
LiveRun (Over o) = Unit {0}
LiveRun Broken = Unit {0}

abbrev pub spends_all : (Mask → ℕ) → List Tree → ℕ
spends_all w [] = 0
spends_all w (g ∷ gs) = spends w g + spends_all w gs

abbrev pub spends_in : (Mask → ℕ) → Running → ℕ
spends_in w (Runs t) = spends w t
spends_in w (Final z gs) = spends_all w gs
spends_in w (Over o) = 0
spends_in w Broken = 0

-- the cut so far, and the masks that the marks show as on
abbrev pub Cutness : ℕ → Running → List Mark → Type 0
Cutness i (Runs t) ms = NoCut ms × ((m : ℕ) → is_on m false ms ≡ true → Active (Pair i m) (masks_below i [] t))
Cutness i (Final z gs) ms = IsCutOnce ms
Cutness i (Over o) ms = (NoCut ms × (o ≢ Outcome.Canceled)) ⊎ (IsCutOnce ms × (o ≡ Outcome.Canceled))
Cutness i Broken ms = UncutRegions ms

pub record Remains (i n : ℕ) (w : Running) (ms : List Mark) : Type 0 where
  pub live : LiveRun w
  pub once : (m : ℕ) → taken i (only (Pair i m)) ms + spends_in (only (Pair i m)) w ≤ 1
  pub unknown : (g m : ℕ) → (Known i n (Pair g m) → ⊥) → taken i (only (Pair g m)) ms + spends_in (only (Pair g m)) w ≡ 0
  pub cutness : Cutness i w ms

abbrev pub RestOf : Fiber → Type 0
RestOf f = Remains f.number f.next f.running f.marks

-- ---- rows
module _ (i n : ℕ) where
  known_later : (n' : ℕ) → n ≤ n' → (g m : ℕ) → Known i n (Pair g m) → Known i n' (Pair g m)
  known_later n' l g m h = (h.0, (λ e. let k : m < n = h.1 e in omega arith))

  next_unknown : Known i n (Pair i n) → ⊥
  next_unknown h = let l : n < n = h.1 refl in omega arith

  made_once : (n' m x : ℕ) → n' ≤ n + 1 → x ≤ 1 → (n ≡ m → x ≡ 0) → x + made_weight i n n' (Pair i m) ≤ 1
  made_once n' m x l b h = go (nat_eq i i) (nat_eq n m) refl
    where
      go : (b c : Bool) → nat_eq n m ≡ c → x + (if b && c then n' - n else 0) ≤ 1
      go true true e = let none : x ≡ 0 = h (eqb-true n m e) in omega arith
      go true false e = omega arith
      go false c e = omega arith

  made_none : (n' g m : ℕ) → (Known i n' (Pair g m) → ⊥) → made_weight i n n' (Pair g m) ≡ 0
  made_none n' g m u = go (nat_eq i g) (nat_eq n m) refl refl
    where
      go : (b c : Bool) → nat_eq i g ≡ b → nat_eq n m ≡ c → (if b && c then n' - n else 0) ≡ 0
      go true true x y =
          let same : i ≡ g = eqb-true i g x in
          let at : n ≡ m = eqb-true n m y in
          let late : n < n' → ⊥ = λ l. u (omega arith, (λ e. omega arith)) in
          omega arith
      go true false x y = refl
      go false c x y = refl

  -- the counts after a row
  row_once : (t : Tree) (a : Row Tree) (ms : List Mark) (x : (Mask → ℕ) → ℕ) → Saves i n t a → (m : ℕ) →
      taken i (only (Pair i m)) ms + (spends (only (Pair i m)) t + x (only (Pair i m))) ≤ 1 →
      (n ≡ m → taken i (only (Pair i m)) ms + (spends (only (Pair i m)) t + x (only (Pair i m))) ≡ 0) →
      taken i (only (Pair i m)) (ms ++ a.marks) + (spends (only (Pair i m)) a.becomes + x (only (Pair i m))) ≤ 1
  row_once t a ms x h m b z =
      let w = only (Pair i m) in
      omega (arith, taken-append i w ms a.marks, h.count i m (omega arith), made_once a.next m (taken i w ms + (spends w t + x w)) h.step b z)

  row_unknown : (t : Tree) (a : Row Tree) (ms : List Mark) (x : (Mask → ℕ) → ℕ) → Saves i n t a → (g m : ℕ) → (Known i a.next (Pair g m) → ⊥) →
      taken i (only (Pair g m)) ms + (spends (only (Pair g m)) t + x (only (Pair g m))) ≡ 0 →
      taken i (only (Pair g m)) (ms ++ a.marks) + (spends (only (Pair g m)) a.becomes + x (only (Pair g m))) ≡ 0
  row_unknown t a ms x h g m u z = let w = only (Pair g m) in omega (arith, taken-append i w ms a.marks, h.count g m (omega arith), made_none a.next g m u)

no_marks : NoCut []
no_marks h = h

-- where empty is left to acquire
over_rest : (i n : ℕ) (o : Outcome) (w : Running) (ms : List Mark) → Remains i n w ms → Cutness i (Over o) ms → Remains i n (Over o) (ms ++ [])
over_rest i n o w ms h c =
    let e = append-nil ms in
    let g : Remains i n (Over o) ms =
    record { live = tt; once = λ m. omega (arith, h.once m); unknown = λ g m u. omega (arith, h.unknown g m u); cutness = c } in
    subst (λ y. Remains i n (Over o) y) (sym e) g

root_rest : (f : Fiber) (t : Tree) (E : End) (a : Row Tree) → Remains f.number f.next (Runs t) f.marks → Saves f.number f.next t a →
    Agrees f.number (masks_below f.number [] t) [] a → RestOf (reduced f (root_row f.number f.next At_term E a))
root_rest f t (Gives v) a h s g = over_rest f.number f.next (Outcome.Succeeded (number_of v)) (Runs t) f.marks h (inl (h.cutness.0, (λ e. cc)))
root_rest f t (Throws v) a h s g = over_rest f.number f.next (Outcome.Errored (number_of v)) (Runs t) f.marks h (inl (h.cutness.0, (λ e. cc)))
root_rest f t Works a h s g =
    let i = f.number in
    let n = f.next in
    record {
      live = g.live;
      once = λ m.
          let z : n ≡ m → taken i (only (Pair i m)) f.marks + spends (only (Pair i m)) t ≡ 0 =
          λ e. h.unknown i m (λ k. next_unknown i n (subst (λ y. Known i n (Pair i y)) (sym e) k)) in
          omega (arith, row_once i n t a f.marks (λ w. 0) s m (omega (arith, h.once m)) (λ e. omega (arith, z e)));
      unknown = λ y m u.
          let before : taken i (only (Pair y m)) f.marks + spends (only (Pair y m)) t ≡ 0 = h.unknown y m (λ k. u (known_later i n a.next s.later y m k)) in
          omega (arith, row_unknown i n t a f.marks (λ w. 0) s y m u (omega arith));
      cutness = (
        no_cut_append f.marks a.marks h.cutness.0 s.no_cut,
        (λ m e. g.agrees m (is_on m false f.marks) (h.cutness.1 m) (sym (is_on-append m false f.marks a.marks) ∙ e)),
      );
    }

-- the finalizers that are left
finals_live : (z : ℕ) (gs : List Tree) → AllStatic gs → LiveRun (Final z gs)
finals_live z [] h = tt
finals_live z (g ∷ gs) h = (static_live g h.0, h.1)

one_dropped : (v : Operand) → NoCut (Mark.Dropped (number_of v) ∷ [])
one_dropped v = elim [ inl e ↦ cc | inr e ↦ e ]

final_rest : (f : Fiber) (z : ℕ) (t : Tree) (gs : List Tree) (E : End) (a : Row Tree) → Remains f.number f.next (Final z (t ∷ gs)) f.marks →
    Saves f.number f.next t a → Live a.becomes → RestOf (reduced f (root_row f.number f.next (At_final z gs) E a))
final_rest f z t gs (Gives v) a h s l = record {
  live = finals_live z gs h.live.1;
  once = λ m. omega (arith, h.once m, taken-append f.number (only (Pair f.number m)) f.marks []);
  unknown = λ y m u. omega (arith, h.unknown y m u, taken-append f.number (only (Pair y m)) f.marks []);
  cutness = cut_once_more f.marks [] h.cutness no_marks;
}
final_rest f z t gs (Throws v) a h s l = record {
  live = finals_live z gs h.live.1;
  once = λ m. omega (arith, h.once m, taken-append f.number (only (Pair f.number m)) f.marks (Mark.Dropped (number_of v) ∷ []));
  unknown = λ y m u. omega (arith, h.unknown y m u, taken-append f.number (only (Pair y m)) f.marks (Mark.Dropped (number_of v) ∷ []));
  cutness = cut_once_more f.marks (Mark.Dropped (number_of v) ∷ []) h.cutness (one_dropped v);
}
final_rest f z t gs Works a h s l =
    let i = f.number in
    let n = f.next in
    record {
      live = (l, h.live.1);
      once = λ m. row_once i n t a f.marks (λ w. spends_all w gs) s m (h.once m)
          (λ e. h.unknown i m (λ k. next_unknown i n (subst (λ y. Known i n (Pair i y)) (sym e) k)));
      unknown = λ y m u. row_unknown i n t a f.marks (λ w. spends_all w gs) s y m u (h.unknown y m (λ k. u (known_later i n a.next s.later y m k)));
      cutness = cut_once_more f.marks a.marks h.cutness s.no_cut;
    }

saves_runs : (f : Fiber) (r : Reply) (t : Tree) → Lawful f → f.running ≡ Runs t → Live t → Saves f.number f.next t (walk f.number f.next r [] t)
saves_runs f r t h e l =
    let d : Lives f.number f.next (Runs t) h.now = subst (λ w. Lives f.number f.next w h.now) e h.lives in
    row_saves f.number f.next r t [] l (typed_owned t f.number (Known f.number f.next) [] (Some []) h.now (Some []) (Some []) tt d.1)

saves_final : (f : Fiber) (r : Reply) (z : ℕ) (t : Tree) (gs : List Tree) → Lawful f → f.running ≡ Final z (t ∷ gs) → Live t →
    Saves f.number f.next t (walk f.number f.next r (Pair f.number z ∷ []) t)
saves_final f r z t gs h e l =
    let d : Lives f.number f.next (Final z (t ∷ gs)) h.now = subst (λ w. Lives f.number f.next w h.now) e h.lives in
    row_saves f.number f.next r t (Pair f.number z ∷ []) l
    (typed_owned t f.number (Known_final f.number z f.next) (Pair f.number z ∷ []) None h.now (Some d.2) (Some d.2) ((z, refl), tt) d.4)

rows_rest : (f : Fiber) (r : Reply) (w : Running) → f.running ≡ w → Lawful f → Remains f.number f.next w f.marks →
    RestOf (reduced f (row_at f.number f.next r (focus w) w))
rows_rest f r (Over o) e h g = over_rest f.number f.next o (Over o) f.marks g g.cutness
rows_rest f r Broken e h g = subst (λ y. Remains f.number f.next Broken y) (sym (append-nil f.marks)) g
rows_rest f r (Final z []) e h g = over_rest f.number f.next Outcome.Canceled (Final z []) f.marks g (inr (g.cutness, refl))
rows_rest f r (Runs t) e h g =
    subst (λ y. RestOf (reduced f y)) (sym (row_root f.number f.next r At_term t))
    (root_rest f t (end_of t) (walk f.number f.next r [] t) g (saves_runs f r t h e g.live) (row_agrees f.number f.next r t [] tt g.live))
rows_rest f r (Final z (t ∷ gs)) e h g =
    subst (λ y. RestOf (reduced f y)) (sym (row_root f.number f.next r (At_final z gs) t))
    (final_rest f z t gs (end_of t) (walk f.number f.next r (Pair f.number z ∷ []) t) g (saves_final f r z t gs h e g.live.0)
    ((row_agrees f.number f.next r t (Pair f.number z ∷ []) ((z, refl), tt) g.live.0).live))

-- ---- the cut
spends_all-append : (w : Mask → ℕ) (a b : List Tree) → spends_all w (a ++ b) ≡ spends_all w a + spends_all w b
spends_all-append w [] b = omega arith
spends_all-append w (g ∷ a) b = omega (arith, spends_all-append w a b)

pending_spends : (w : Mask → ℕ) (t : Tree) → spends_all w (finalizers_below t) ≤ spends w t
pending_spends w (Let e v b) = omega (arith, pending_spends w e)
pending_spends w (Seq o e b) = omega (arith, pending_spends w e)
pending_spends w (Handled e v b) = omega (arith, pending_spends w e)
pending_spends w (Guarded e fin) = omega (arith, pending_spends w e, spends_all-append w (finalizers_below e) (fin ∷ []))
pending_spends w (Masked m e) = pending_spends w e
pending_spends w (Polled q e) = pending_spends w e
pending_spends w _ = omega arith

static-append : (a : List Tree) (g : Tree) → AllStatic a → Static g → AllStatic (a ++ g ∷ [])
static-append [] g h k = (k, tt)
static-append (x ∷ a) g h k = (h.0, static-append a g h.1 k)

pub pending_static : (t : Tree) → Live t → AllStatic (finalizers_below t)
pending_static (Let e v b) h = pending_static e h.0
pending_static (Seq o e b) h = pending_static e h.0
pending_static (Handled e v b) h = pending_static e h.0
pending_static (Guarded e fin) h = static-append (finalizers_below e) fin (pending_static e h.0) h.1
pending_static (Masked m e) h = pending_static e h
pending_static (Polled q e) h = pending_static e h
pending_static _ h = tt

nothing_active : (i m : ℕ) (up : List Mask) → up ≡ [] → Active (Pair i m) up → ⊥
nothing_active i m up e h = subst (Active (Pair i m)) e h

cut_rest : (f : Fiber) (t : Tree) → f.running ≡ Runs t → masks_below f.number [] t ≡ [] → Remains f.number f.next (Runs t) f.marks → RestOf (cut f)
cut_rest f t e none h =
    let after : RestOf (noted f (Final f.next (finalizers_below t)) (f.next + 1) (Mark.Cut ∷ [])) = record {
      live = finals_live f.next (finalizers_below t) (pending_static t h.live);
      once = λ m. omega (arith, h.once m, taken-append f.number (only (Pair f.number m)) f.marks (Mark.Cut ∷ []), pending_spends (only (Pair f.number m)) t);
      unknown = λ y m u.
          let before : taken f.number (only (Pair y m)) f.marks + spends (only (Pair y m)) t ≡ 0 =
          h.unknown y m (λ k. u (known_later f.number f.next (f.next + 1) (omega arith) y m k)) in
          omega (arith, taken-append f.number (only (Pair y m)) f.marks (Mark.Cut ∷ []), pending_spends (only (Pair y m)) t);
      cutness = (
        f.marks,
        [],
        refl,
        h.cutness.0,
        no_marks,
        (λ m e u. off_polled m f.marks (λ on. nothing_active f.number m (masks_below f.number [] t) none (h.cutness.1 m on)) e u),
      );
    } in
    subst RestOf (sym (cut_run f t e)) after

move_rest : (f : Fiber) (r : Reply) → Lawful f → RestOf f → RestOf (move f r)
move_rest f r h g =
    let same : RestOf (looked f r) = record { live = g.live; once = g.once; unknown = g.unknown; cutness = g.cutness } in
    move_by RestOf f r g same (λ t e a. cut_rest f t e a (subst (λ v. Remains f.number f.next v f.marks) e g))
    (λ m gs e a. absurd (final_masked f m gs h e a)) (rows_rest f r f.running refl h g)

-- a fiber that lost its term
lost_cutness : (i : ℕ) (w : Running) (ms : List Mark) → Cutness i w ms → UncutRegions ms
lost_cutness i (Runs t) ms h = inl h.0
lost_cutness i (Final z gs) ms h = inr h
lost_cutness i (Over o) ms h = elim h [ inl c ↦ inl c.0 | inr c ↦ inr c.0 ]
lost_cutness i Broken ms h = h

lost_rest : (f : Fiber) → RestOf f → RestOf (lost f)
lost_rest f g = record {
  live = tt;
  once = λ m. omega (arith, g.once m);
  unknown = λ y m u. omega (arith, g.unknown y m u);
  cutness = lost_cutness f.number f.running f.marks g.cutness;
}

-- ---- births
final_more : (i z n : ℕ) → Grows (Known_final i z n) (Known i n)
final_more i z n = record { more = λ q h. h.0; back = λ t h. absurd h }

-- what is started is what a part of the row starts
born_both : (k : RowKind) (F G H : Tree → Type 0) → ((e : Tree) → F e → G e → H e) → If_born k F → If_born k G → If_born k H
born_both (Born e) F G H f x y = f e x y
born_both _ F G H f x y = tt

pub born_root : (i n : ℕ) (b : Root) (E : End) (a : Row Tree) (F : Tree → Type 0) → If_born a.kind F → If_born (root_row i n b E a).kind F
born_root i n At_term Works a F h = h
born_root i n (At_final m gs) Works a F h = h
born_root i n _ _ a F h = tt

abbrev Born_ok : Fiber → Running → Tree → Type 0
Born_ok f w e = ((c : ℕ) → Typed c (Known f.number f.next) [] (Some []) [] (Some []) (Some []) e) × Static e ×
    ((g m : ℕ) → spends (only (Pair g m)) e ≤ spends_in (only (Pair g m)) w)

born_row : (f : Fiber) (r : Reply) (w : Running) → f.running ≡ w → Lawful f → LiveRun w → If_born (row_at f.number f.next r (focus w) w).kind (Born_ok f w)
born_row f r (Runs t) x h l =
    let d : Lives f.number f.next (Runs t) h.now = subst (λ w. Lives f.number f.next w h.now) x h.lives in
    let k = runs_keep f.number f.next r t h.now d.0 h.own d.1 in
    let s = saves_runs f r t h x l in
    let a = walk f.number f.next r [] t in
    subst (λ y. If_born y.kind (Born_ok f (Runs t))) (sym (row_root f.number f.next r At_term t))
    (born_root f.number f.next At_term (end_of t) a (Born_ok f (Runs t))
    (born_both a.kind _ (Smaller t) (Born_ok f (Runs t)) (λ e y z. (y, z.0, z.1)) k.born s.born))
born_row f r (Final z (t ∷ gs)) x h l =
    let d : Lives f.number f.next (Final z (t ∷ gs)) h.now = subst (λ w. Lives f.number f.next w h.now) x h.lives in
    let k = final_keep f.number z f.next r t h.now d.2 d.0 d.1 d.3 h.own d.4 in
    let s = saves_final f r z t gs h x l.0 in
    let a = walk f.number f.next r (Pair f.number z ∷ []) t in
    let all : (e : Tree) → ((c : ℕ) → Typed c (Known_final f.number z f.next) [] (Some []) [] (Some []) (Some []) e) → Smaller t e →
    Born_ok f (Final z (t ∷ gs)) e = λ e y small. (
      (λ c. typed_more e c (Known_final f.number z f.next) (Known f.number f.next) [] (Some []) [] (Some []) (Some []) (final_more f.number z f.next) (y c)),
      small.0,
      (λ g m. omega (arith, small.1 g m)),
    ) in
    subst (λ y. If_born y.kind (Born_ok f (Final z (t ∷ gs)))) (sym (row_root f.number f.next r (At_final z gs) t))
    (born_root f.number f.next (At_final z gs) (end_of t) a (Born_ok f (Final z (t ∷ gs)))
    (born_both a.kind _ (Smaller t) (Born_ok f (Final z (t ∷ gs))) all k.born s.born))
born_row f r _ x h l = tt

born_move : (f : Fiber) (r : Reply) → Lawful f → RestOf f → If_born (kind_of f r) (Born_ok f f.running)
born_move f r h g = go (move_case f)
  where
    go : (c : Move_case) → If_born (kind_in f r c) (Born_ok f f.running)
    go Reduces = born_row f r f.running refl h g.live
    go _ = tt

pub record Holds (f : Fiber) : Type 0 where
  pub lawful : Lawful f
  pub rest : RestOf f

-- a term that is about to run, with no mask of its own in sight
new_rest : (c : ℕ) (e : Tree) → Static e → ((g m : ℕ) → (Known c 0 (Pair g m) → ⊥) → spends (only (Pair g m)) e ≡ 0) → RestOf (begins c e)
new_rest c e s u = record {
  live = static_live e s;
  once = λ m. (let none : spends (only (Pair c m)) e ≡ 0 = u c m (λ h. (let l : m < 0 = h.1 refl in omega arith)) in omega arith);
  unknown = λ g m h. omega (arith, u g m h);
  cutness = (no_marks, (λ m x. cc));
}

holds_from : (f : Fiber) (c : ℕ) (e : Tree) → Holds f → f.number < c → Born_ok f f.running e → Holds (begins c e)
holds_from f c e h l k =
    let older : (g m : ℕ) → (Known c 0 (Pair g m) → ⊥) → Known f.number f.next (Pair g m) → ⊥ =
    λ g m u x. (let y : g ≤ f.number = x.0 in u (omega arith, (λ same. absurd (omega arith)))) in
    record { lawful = born_lawful f.number f.next c e l k.0; rest = new_rest c e k.1 (λ g m u. omega (arith, k.2 g m, h.rest.unknown g m (older g m u))) }

-- what is started, or the unit value where nothing is
pub child_holds : (f : Fiber) (n : ℕ) → Holds f → f.number < n → Holds (child f n)
child_holds f n h l = go (kind_of f (Reply.Number n)) (born_move f (Reply.Number n) h.lawful h.rest)
  where
    idle : Holds (begins n unit)
    idle = holds_from f n unit h l ((λ c. (refl, refl)), tt, (λ g m. omega arith))

    go : (k : RowKind) → If_born k (Born_ok f f.running) → Holds (begins n (term_born k))
    go (Born e) b = holds_from f n e h l b
    go _ b = idle

pub root_holds : (code : Tree) → Part None_named 0 code → Holds (begins 0 code)
root_holds code p = record {
  lawful = record { now = []; marks = refl; own = tt; lives = (tt, p.neutral 0 (Known 0 0) [] (Some []) [] (λ q h. absurd h) (λ v l h. h) tt (inl refl)) };
  rest = new_rest 0 code p.static (λ g m u. p.unspent (Pair g m) tt);
}

pub lost_holds : (f : Fiber) → Holds f → Holds (lost f)
lost_holds f h = record { lawful = lost_keeps f h.lawful; rest = lost_rest f h.rest }

-- ---- the marks
times_once : (f : Fiber) → RestOf f → (m : ℕ) → times_acquired m (bracket_steps f.marks) ≤ 1
times_once f h m = omega (arith, times_taken f.number m f.marks, h.once m)

cut_there : (ms : List Mark) → IsCutOnce ms → Has Mark.Cut ms
cut_there ms h = subst (Has Mark.Cut) (sym h.2) (has_middle Mark.Cut h.0 h.1)

end_of_run : (f : Fiber) (w : Running) → f.running ≡ w → Lawful f → RestOf f → Cutness f.number w f.marks → EndsLawfully f.marks (outcome_in w)
end_of_run f (Over o) e h g c =
    let empty : h.now ≡ [] = subst (λ w. Lives f.number f.next w h.now) e h.lives in
    let closed : signs (bracket_steps f.marks) [] ≡ Some [] = on_numbers f.number f.marks [] h.now tt h.marks ∙ ap (λ s. Some (slots s)) empty in (
      (empty_balanced (bracket_steps f.marks) closed, times_once f g),
      elim c [ inl x ↦ ((λ y. absurd (x.1 y)), (λ y. absurd (x.0 y))) | inr x ↦ ((λ y. cut_there f.marks x.0), (λ y. x.1)) ],
    )
end_of_run f _ e h g c = tt

pub move_holds : (f : Fiber) (r : Reply) → Holds f → Holds (move f r)
move_holds f r k = record { lawful = move_keeps f r k.lawful; rest = move_rest f r k.lawful k.rest }

pub holds_lawful : (f : Fiber) → Holds f → AreLawful f.marks (outcome_of f)
holds_lawful f h = record {
  brackets = open_balanced (bracket_steps f.marks) (slots h.lawful.now) (times_once f h.rest) (on_numbers f.number f.marks [] h.lawful.now tt h.lawful.marks);
  regions = lost_cutness f.number f.running f.marks h.rest.cutness;
  end = end_of_run f f.running refl h.lawful h.rest h.rest.cutness;
}

pub live_run : (f : Fiber) → Holds f → LiveRun f.running
live_run f h = h.rest.live
