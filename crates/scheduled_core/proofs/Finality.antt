-- From a final world no entry changes the report.
use Rattle.std.proofs.Common.{◌≡◌, ◌≢◌, inl, inr, ℕ, zero, suc, Bool, false, List, [], ◌∷◌, ◌++◌, map, set, Option, Some, None, Result, Ok, refl, sym, ap, ◌∙◌}
use Rattle.std.{proofs.{Common.{subst, append-nil}, lemmas.Option.same_Some}, specs.List.{fold, slice_get}}
use mathlib.Core.Logic.{dite}
use native.Mathlib.Decide.{ℕ_discrete}
use Rattle.effect_term.specs.declared.reply.{Outcome.Outcome, Reply.Reply}
use Rattle.derived_ops.specs.Tree.{Mask}
use Rattle.fiber_frames.specs.{declared.{ask.{Ask.Ask, Look.{Look, TheVariants.{Due, Clear, Seen}}}, mark.Mark.Mark}, Path.{Running, Runs, Final, Over, Broken}}
use Rattle.fiber_frames.specs.{Rows.Waited, Fiber.{Fiber, Looks, Reduces, active_of, ask_in, ask_of, case_under, looked, move, move_case, move_in, outcome_in}}
use Rattle.fiber_frames.specs.Fiber.{row_of}
use Rattle.cell_registry.specs.{declared.{limits.{Limits.Limits, RunError.RunError}, cell.{Stage.Stage, Cell.Cell}, call.Call.Call}, Cells.{Cells, after}}
use Rattle.cell_registry.{specs.Cells.{awaited, cancel_reply, cell_of, fresh, join_reply, refusal, reply_of}, proofs.Lists.get_or-set_kept}
use Rattle.scheduled_core.specs.{declared.{report.FiberReport.FiberReport, wish.Wish.{Wish, TheVariants.{Shared, Alone, Nothing}}}, Core.{World, entered}}
use Rattle.scheduled_core.specs.{Core.{fiber_report, reported, turned, wish_of, wished}, Finals.{HasEnded, IsAtRest, IsFinal, IsSettled, IsUnasked, reply_to}}
use Rattle.scheduled_core.{specs.Finals.word_wish, proofs.{Lists.{slice_get-set_same, slice_get-set_other}, Resting.{IsWait, Silently, Joins, Reads}}}
use Rattle.scheduled_core.proofs.Resting.{call_waits, due, row_is_due}
use Rattle.effect_term.specs.declared.reply.Reply.TheVariants as reply
use Rattle.cell_registry.specs.declared.call.Call.TheVariants as call

-- ---- that somebody waits changes no reply
abbrev told : Cell → Stage × Bool
told c = (c.stage, c.request)

kept : (s : Cells) (by x i : ℕ) → told (cell_of (after s by (call.Join x)) i) ≡ told (cell_of s i)
unfolding after
kept s by x i = get_or-set_kept told s.cells x (awaited (cell_of s x)) fresh refl i

reply_kept : (s : Cells) (by x i : ℕ) (c : Call) → reply_of (after s by (call.Join x)) i c ≡ reply_of s i c
unfolding after reply_of
reply_kept s by x i (call.Cancel y) = ap (λ (o : Stage × Bool). reply.Cancel (cancel_reply o.0 o.1)) (kept s by x y)
reply_kept s by x i (call.Join y) = ap (λ (o : Stage × Bool). reply.Join (join_reply o.0)) (kept s by x y)
reply_kept s by x i call.Look = ap (λ (o : Stage × Bool). reply.Seen o.1) (kept s by x i)
reply_kept s by x i _ = refl

reply_to_kept : (s : Cells) (by x i : ℕ) (w : Wish) → reply_to (after s by (call.Join x)) i w ≡ reply_to s i w
reply_to_kept s by x i (Shared c) = reply_kept s by x i c
reply_to_kept s by x i Alone = refl
reply_to_kept s by x i Nothing = refl

-- whoever rests still does
rest_kept : (s : Cells) (by x i : ℕ) (g : Fiber) → IsAtRest s i g → IsAtRest (after s by (call.Join x)) i g
rest_kept s by x i g h = record {
  waits = subst (λ (r : Reply). (row_of g r).kind ≡ Waited) (sym (reply_to_kept s by x i (word_wish g))) h.waits;
  unasked = subst (λ (q : Bool). IsUnasked (active_of g) g.look q) (sym (ap (λ (o : Stage × Bool). o.1) (kept s by x i))) h.unasked;
}

rest_read : (s : Cells) (by d i : ℕ) (g : Fiber) → IsAtRest s i g → IsAtRest (after s by (call.Read d)) i g
unfolding after
rest_read s by d i g h = h

relook : (up : List Mask) (a b : Look) (q : Bool) → IsUnasked up a q → b ≢ Seen → IsUnasked up b q
relook [] a b q h n = (n, h.1)
relook (m ∷ up) a b q h n = tt

-- the same fiber, which knows this of the request
abbrev pub knowing : Fiber → Look → Fiber
knowing g l = record { number = g.number; running = g.running; look = l; next = g.next; marks = g.marks }

rest_looked : (s : Cells) (f : ℕ) (g : Fiber) (l : Look) → l ≢ Seen → IsAtRest s f g → IsAtRest s f (knowing g l)
rest_looked s f g l n h = record { waits = h.waits; unasked = relook (active_of g) g.look l (cell_of s f).request h.unasked n }

-- ---- what a fiber's next move is
over_in : (i n : ℕ) (l : Look) (ms : List Mark) (w : Running) (o : Outcome) → outcome_in w ≡ Some o →
    wish_of (ask_of record { number = i; running = w; look = l; next = n; marks = ms }) ≡ Nothing
over_in i n l ms (Over p) o e = refl
over_in i n l ms _ o e = absurd (cc)

pub over_wish : (g : Fiber) → HasEnded g → wish_of (ask_of g) ≡ Nothing
over_wish g h = over_in g.number g.next g.look g.marks g.running h.0 h.1

case_at : (i n : ℕ) (l : Look) (ms : List Mark) (w : Running) (r : Reply) →
    (row_of record { number = i; running = w; look = l; next = n; marks = ms } r).kind ≡ Waited →
    move_case record { number = i; running = w; look = l; next = n; marks = ms } ≡ case_under
    (active_of record { number = i; running = w; look = l; next = n; marks = ms }) l
case_at i n l ms (Runs t) r e = refl
case_at i n l ms (Final m gs) r e = refl
case_at i n l ms (Over p) r e = absurd (cc)
case_at i n l ms Broken r e = absurd (cc)

pub case_waits : (g : Fiber) (r : Reply) → (row_of g r).kind ≡ Waited → move_case g ≡ case_under (active_of g) g.look
case_waits g r e = case_at g.number g.next g.look g.marks g.running r e

-- ---- one entry
map_kept : (xs : List Fiber) (f : ℕ) (a b : Fiber) → slice_get xs f ≡ Some a → fiber_report b ≡ fiber_report a →
    map fiber_report (set xs f b) ≡ map fiber_report xs
map_kept [] f a b e h = refl
map_kept (x ∷ xs) zero a b e h = ap (λ (y : FiberReport). y ∷ map fiber_report xs) (h ∙ ap fiber_report (sym (same_Some x a e)))
map_kept (x ∷ xs) (suc f) a b e h = ap (λ (ys : List FiberReport). fiber_report x ∷ ys) (map_kept xs f a b e h)

-- the course leads to a world that is final and has the reports of w
pub record Still (w : World) (x : Result World RunError) : Type 0 where
  pub world : World
  pub is : x ≡ Ok world
  pub final : IsFinal world
  pub reports : map fiber_report world.fibers ≡ map fiber_report w.fibers

module _ (k : Limits) (w : World) (f : ℕ) (fin : IsFinal w) where
  settle : (t : Cells) (g b : Fiber) → slice_get w.fibers f ≡ Some g → ((i : ℕ) (x : Fiber) → IsAtRest w.cells i x → IsAtRest t i x) →
      IsAtRest t f b → fiber_report b ≡ fiber_report g → Still w (Ok record { fibers = set w.fibers f b; cells = t })
  settle t g b at more rests same = record {
    world = record { fibers = set w.fibers f b; cells = t };
    is = refl;
    final = λ i x e. dite (ℕ_discrete f i)
        (λ (here : f ≡ i).
        let there : slice_get (set w.fibers f b) f ≡ Some x = subst (λ m. slice_get (set w.fibers f b) m ≡ Some x) (sym here) e in
        let one : b ≡ x = same_Some b x (sym (slice_get-set_same w.fibers f g b at) ∙ there) in
        inr (subst (λ (y : Fiber). IsAtRest t i y) one (subst (λ m. IsAtRest t m b) here rests)))
        (λ apart. elim (fin i x (sym (slice_get-set_other w.fibers f i b apart) ∙ e)) [ inl h ↦ inl h | inr h ↦ inr (more i x h) ]);
    reports = map_kept w.fibers f g b at same;
  }

  module _ (g : Fiber) (at : slice_get w.fibers f ≡ Some g) (rests : IsAtRest w.cells f g) where
    -- a move of the word: nothing comes
    moved : (r : Reply) → move_case g ≡ Reduces → (row_of g r).kind ≡ Waited → move g r ≡ due g
    moved r c e = ap (move_in g r) c ∙ row_is_due g r e

    not_seen : Due ≢ Seen
    not_seen e = cc

    clear_not_seen : Clear ≢ Seen
    clear_not_seen e = cc

    waiting : (a : Ask) → IsWait a → (row_of g (reply_to w.cells f (wish_of a))).kind ≡ Waited → move_case g ≡ Reduces → Still w (wished k w f g (wish_of a))
    unfolding refusal
    waiting a (Silently is) e c =
        let quiet : (row_of g reply.Done).kind ≡ Waited = subst (λ (x : Ask). (row_of g (reply_to w.cells f (wish_of x))).kind ≡ Waited) is e in
        subst (λ (x : Ask). Still w (wished k w f g (wish_of x))) (sym is)
        (subst (λ (x : Fiber). Still w (Ok record { fibers = set w.fibers f x; cells = w.cells })) (sym (moved reply.Done c quiet))
        (settle w.cells g (due g) at (λ i x h. h) (rest_looked w.cells f g Due not_seen rests) refl))
    waiting a (Joins x is) e c =
        let r = reply_of w.cells f (call.Join x) in
        let t = after w.cells f (call.Join x) in
        let quiet : (row_of g r).kind ≡ Waited = subst (λ (y : Ask). (row_of g (reply_to w.cells f (wish_of y))).kind ≡ Waited) is e in
        subst (λ (y : Ask). Still w (wished k w f g (wish_of y))) (sym is)
        (subst (λ (l : List Fiber). Still w (Ok record { fibers = l; cells = t })) (sym (append-nil (set w.fibers f (move g r))))
        (subst (λ (y : Fiber). Still w (Ok record { fibers = set w.fibers f y; cells = t })) (sym (moved r c quiet))
        (settle t g (due g) at (λ i y h. rest_kept w.cells f x i y h) (rest_looked t f g Due not_seen (rest_kept w.cells f x f g rests)) refl)))
    waiting a (Reads d is) e c =
        let r = reply_of w.cells f (call.Read d) in
        let t = after w.cells f (call.Read d) in
        let quiet : (row_of g r).kind ≡ Waited = subst (λ (y : Ask). (row_of g (reply_to w.cells f (wish_of y))).kind ≡ Waited) is e in
        subst (λ (y : Ask). Still w (wished k w f g (wish_of y))) (sym is)
        (subst (λ (l : List Fiber). Still w (Ok record { fibers = l; cells = t })) (sym (append-nil (set w.fibers f (move g r))))
        (subst (λ (y : Fiber). Still w (Ok record { fibers = set w.fibers f y; cells = t })) (sym (moved r c quiet))
        (settle t g (due g) at (λ i y h. rest_read w.cells f d i y h) (rest_looked t f g Due not_seen (rest_read w.cells f d f g rests)) refl)))

    reducing : move_case g ≡ Reduces → Still w (wished k w f g (wish_of (ask_of g)))
    reducing c =
        let a = (row_of g reply.Done).call in
        let asks : a ≡ ask_of g = sym (ap (ask_in g) c) in
        subst (λ (x : Ask). Still w (wished k w f g (wish_of x))) asks
        (waiting a (call_waits g (reply_to w.cells f (word_wish g)) reply.Done rests.waits) rests.waits c)

    -- a look: no request is there
    looking : move_case g ≡ Looks → (cell_of w.cells f).request ≡ false → Still w (wished k w f g (wish_of (ask_of g)))
    unfolding refusal reply_of after
    looking c none =
        let r = reply.Seen (cell_of w.cells f).request in
        let now : move g r ≡ knowing g Clear = ap (move_in g r) c ∙ ap (λ (q : Bool). looked g (reply.Seen q)) none in
        subst (λ (x : Ask). Still w (wished k w f g (wish_of x))) (sym (ap (ask_in g) c))
        (subst (λ (l : List Fiber). Still w (Ok record { fibers = l; cells = w.cells })) (sym (append-nil (set w.fibers f (move g r))))
        (subst (λ (y : Fiber). Still w (Ok record { fibers = set w.fibers f y; cells = w.cells })) (sym now)
        (settle w.cells g (knowing g Clear) at (λ i y h. h) (rest_looked w.cells f g Clear clear_not_seen rests) refl)))

    resting : (up : List Mask) (l : Look) → move_case g ≡ case_under up l → IsUnasked up l (cell_of w.cells f).request →
        Still w (wished k w f g (wish_of (ask_of g)))
    resting [] Due c u = looking c u.1
    resting [] Clear c u = reducing c
    resting [] Seen c u = absurd (u.0 refl)
    resting (m ∷ up) l c u = reducing c

    rest_entered : Still w (wished k w f g (wish_of (ask_of g)))
    rest_entered = resting (active_of g) g.look (case_waits g (reply_to w.cells f (word_wish g)) rests.waits) rests.unasked

  entered_at : (o : Option Fiber) → slice_get w.fibers f ≡ o → Still w (turned k w f o)
  entered_at None e = record { world = w; is = refl; final = fin; reports = refl }
  entered_at (Some g) e = elim (fin f g e) [
    | inl h ↦ subst (λ (x : Wish). Still w (wished k w f g x)) (sym (over_wish g h)) record { world = w; is = refl; final = fin; reports = refl }
    | inr h ↦ rest_entered g e h
  ]

  pub final_entered : Still w (entered k (Ok w) f)
  final_entered = entered_at (slice_get w.fibers f) refl

-- from a final world no schedule changes the report, and none is refused
pub final_stays : (k : Limits) (w : World) (schedule : List ℕ) → IsFinal w → Still w (fold (entered k) (Ok w) schedule)
final_stays k w [] fin = record { world = w; is = refl; final = fin; reports = refl }
final_stays k w (f ∷ schedule) fin =
    let one = final_entered k w f fin in
    let rest = final_stays k one.world schedule one.final in record {
      world = rest.world;
      is = ap (λ (x : Result World RunError). fold (entered k) x schedule) one.is ∙ rest.is;
      final = rest.final;
      reports = rest.reports ∙ one.reports;
    }

pub fold_parts : (k : Limits) (x : Result World RunError) (s t : List ℕ) → fold (entered k) x (s ++ t) ≡ fold (entered k) (fold (entered k) x s) t
fold_parts k x [] t = refl
fold_parts k x (f ∷ s) t = fold_parts k (entered k x f) s t

-- so a final world is a settled one
pub final_settled : (k : Limits) (w : World) → IsFinal w → IsSettled k w
final_settled k w fin more =
    let still = final_stays k w more fin in
    ap reported still.is ∙ ap (λ (l : List FiberReport). Ok record { fibers = l }) still.reports
