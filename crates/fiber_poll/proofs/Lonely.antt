-- A fiber that starts nobody, at a registry that nobody else was given a pass of: its moves are those of the core under entries of its own number.
use Rattle.std.proofs.Common.{Err, Ok, ◌≡◌, ◌≢◌, ℕ, zero, suc, ◌+◌, ◌<◌, Bool, List, [], ◌∷◌, ◌++◌, length, replicate, Some, None, refl, sym, ap, ◌∙◌, subst}
use Rattle.std.proofs.Common.{arith, eqb, eq-eqb, cond}
use Rattle.effect_term.specs.declared.reply.Reply.{Reply}
use Rattle.fiber_frames.specs.{declared.ask.Ask.Ask, Fiber.{Cuts, Fiber, Looks, Move_case, Reduces, Rests, ask_of, move, move_case, move_in}, Answers.Answers}
use Rattle.cell_registry.specs.{declared.{limits.{CellError.CellError, Limits.Limits, RunError.RunError}, call.{Call.Call, Entry.Entry}}, Cells.{Cells, after}}
use Rattle.cell_registry.{specs.{Cells.{refusal, reply_of}, Histories.{IsLegal, IsLegalFrom, calls_by, left, left_from}}, proofs.Legal.calls_by-push}
use Rattle.cell_registry.proofs.Legal.{left-push}
use Rattle.scheduled_core.specs.{declared.wish.Wish.{Wish, TheVariants.{Shared, Alone, Nothing}}, Core.{World, answered, born, called, entered, fault_of}}
use Rattle.scheduled_core.{specs.Core.{wish_of, wished}, proofs.Standing.{Histories.legal-pop, Lists.by_ends, Schedules.{Course, grows, run_from}}}
use Rattle.fiber_poll.{specs.Turns.{AreAnswers, calls_of, moves}, proofs.Childless.{IsOther, RunsChildless, asks_other, move_childless}}
use Rattle.fiber_poll.proofs.MovesAndCalls.{is_done, no_wish}
use Rattle.effect_term.specs.declared.reply.Reply.TheVariants as reply
use Rattle.fiber_frames.specs.declared.ask.Ask.TheVariants as ask
use Rattle.cell_registry.specs.declared.call.Call.TheVariants as call
use Rattle.fiber_poll.specs.Turns as turns

-- ---- calls that start nobody
abbrev pub NoStart : List Entry → Type 0
NoStart [] = Unit {0}
NoStart (e ∷ es) = (e.call ≢ call.Start) × NoStart es

no_start-append : (xs ys : List Entry) → NoStart xs → NoStart ys → NoStart (xs ++ ys)
no_start-append [] ys h k = k
no_start-append (x ∷ xs) ys h k = (h.0, no_start-append xs ys h.1 k)

no_start-init : (xs ys : List Entry) → NoStart (xs ++ ys) → NoStart xs
no_start-init [] ys h = tt
no_start-init (x ∷ xs) ys h = (h.0, no_start-init xs ys h.1)

no_start-last : (xs : List Entry) (e : Entry) → NoStart (xs ++ e ∷ []) → e.call ≢ call.Start
no_start-last [] e h = h.0
no_start-last (x ∷ xs) e h = no_start-last xs e h.1

other_call : (a : Ask) (c : Call) → IsOther a → wish_of a ≡ Shared c → c ≢ call.Start
other_call a c o w e = go a o (w ∙ ap Shared e)
  where
    go : (a : Ask) → IsOther a → wish_of a ≡ Shared call.Start → ⊥
    go ask.Start o w = o
    go (ask.Over x) o w = cc
    go ask.Broken o w = cc
    go ask.Look o w = cc
    go ask.Cut o w = cc
    go ask.Mask o w = cc
    go ask.Unmask o w = cc
    go (ask.Finish x) o w = cc
    go (ask.Cancel f) o w = cc
    go (ask.Join f) o w = cc
    go ask.NewRef o w = cc
    go (ask.Get x) o w = cc
    go (ask.Set x v) o w = cc
    go (ask.Modify x v) o w = cc
    go ask.NewDeferred o w = cc
    go (ask.Complete x v) o w = cc
    go (ask.Read x) o w = cc
    go ask.Silent o w = cc

wished_none : (i : ℕ) (w : Wish) (r : Reply) → ((c : Call) → w ≡ Shared c → c ≢ call.Start) → NoStart (turns.wished i w r)
wished_none i (Shared c) r h = (h c refl, tt)
wished_none i Alone r h = tt
wished_none i Nothing r h = tt

-- the calls of a fiber that starts nobody
pub calls_no_start : (g : Fiber) (rs : List Reply) → RunsChildless g.running → NoStart (calls_of g rs)
calls_no_start g [] h = tt
calls_no_start g (r ∷ rs) h = no_start-append (turns.call_of g r) (calls_of (move g r) rs)
    (wished_none g.number (wish_of (ask_of g)) r (λ c. other_call (ask_of g) c (asks_other g h)))
    (calls_no_start (move g r) rs (move_childless g r h))

-- ---- a history in which fiber 0 starts nobody
-- all calls in it are fiber 0's
pub record IsLonely (k : Limits) (h : List Entry) : Type 0 where
  pub own : calls_by 0 h ≡ h
  pub one : (left k h).next_fiber ≡ 1

grows_none : (s : Cells) (by : ℕ) (c : Call) (g : Fiber) → c ≢ call.Start → (after s by c).next_fiber ≡ s.next_fiber
grows_none s by c g other = grows (Rattle.fiber_frames.specs.Rows.unit) s by c g reply.Done ∙ none c other
  where
    none : (c : Call) → c ≢ call.Start → s.next_fiber + length (born g c reply.Done) ≡ s.next_fiber
    none call.Start o = absurd (o refl)
    none _ o = omega arith

lonely_push : (k : Limits) (h : List Entry) (e : Entry) (g : Fiber) → IsLonely k h → e.by ≡ 0 → e.call ≢ call.Start → IsLonely k (h ++ e ∷ [])
lonely_push k h e g l by other = record {
  own = subst (λ i. calls_by i (h ++ e ∷ []) ≡ calls_by i h ++ e ∷ []) by (calls_by-push e.by h e refl) ∙ ap (λ (x : List Entry). x ++ e ∷ []) l.own;
  one = ap (λ (s : Cells). s.next_fiber) (left-push k h e) ∙ grows_none (left k h) e.by e.call g other ∙ l.one;
}

lonely_none : (k : Limits) → IsLonely k []
unfolding left
lonely_none k = record { own = refl; one = refl }

pub lonely : (k : Limits) (g : Fiber) (h : List Entry) → IsLegal k h → NoStart (calls_by 0 h) → IsLonely k h
lonely k g = by_ends (λ h. IsLegal k h → NoStart (calls_by 0 h) → IsLonely k h) (λ legal none. lonely_none k) (λ h e before legal none.
    let l = legal-pop k h e legal in
    let split : calls_by 0 (h ++ e ∷ []) ≡ calls_by 0 h ++ calls_by 0 (e ∷ []) =
    Rattle.std.proofs.lemmas.List.Elements.filter-append (λ (x : Entry). eqb x.by 0) h (e ∷ []) in
    let parts : NoStart (calls_by 0 h ++ calls_by 0 (e ∷ [])) = subst NoStart split none in
    let p = before l.0 (no_start-init (calls_by 0 h) (calls_by 0 (e ∷ [])) parts) in
    let by : e.by ≡ 0 = (let born = l.1.born in let one = p.one in omega arith) in
    let last : calls_by 0 (e ∷ []) ≡ e ∷ [] = ap (λ (t : Bool). cond t (e ∷ []) []) (eq-eqb e.by 0 by) in
    lonely_push k h e g p by (no_start-last (calls_by 0 h) e (subst (λ (x : List Entry). NoStart (calls_by 0 h ++ x)) last parts)))

-- ---- the core under entries of 0
pub move_number : (g : Fiber) (r : Reply) → (move g r).number ≡ g.number
move_number g r = go (move_case g)
  where
    go : (c : Move_case) → (move_in g r c).number ≡ g.number
    go Looks = refl
    go Cuts = refl
    go Reduces = refl
    go Rests = refl

abbrev pub one_fiber : Fiber → Cells → World
one_fiber g s = record { fibers = g ∷ []; cells = s }

none_born : (g : Fiber) (c : Call) (r : Reply) → c ≢ call.Start → born g c r ≡ []
none_born g call.Start r o = absurd (o refl)
none_born g _ r o = refl

module _ (k : Limits) where
  entry_alone : (g : Fiber) (s : Cells) → wish_of (ask_of g) ≡ Alone → entered k (Ok (one_fiber g s)) 0 ≡ Ok (one_fiber (move g reply.Done) s)
  entry_alone g s w = ap (wished k (one_fiber g s) 0 g) w

  entry_called : (g : Fiber) (s : Cells) (c : Call) (r : Reply) → wish_of (ask_of g) ≡ Shared c → c ≢ call.Start → refusal k s 0 c ≡ None →
      r ≡ reply_of s 0 c → entered k (Ok (one_fiber g s)) 0 ≡ Ok (one_fiber (move g r) (after s 0 c))
  entry_called g s c r w other room is =
      ap (wished k (one_fiber g s) 0 g) w ∙ ap (answered (one_fiber g s) 0 g c) room ∙ ap (λ x. Ok (called (one_fiber g s) 0 g c x)) (sym is)
      ∙ ap (λ (l : List Fiber). Ok record { fibers = move g r ∷ l; cells = after s 0 c }) (none_born g c r other)

  -- one move, and those after it
  one_simulated : (g : Fiber) (s : Cells) (r : Reply) (rs : List Reply) → g.number ≡ 0 → RunsChildless g.running → Answers g.number (ask_of g) r
      → ((t : Cells) → IsLegalFrom k t (calls_of (move g r) rs) →
      run_from k (Ok (one_fiber (move g r) t)) (replicate (length rs) 0) ≡ Ok (one_fiber (moves (move g r) rs) (left_from t (calls_of (move g r) rs))))
      → (w : Wish) → wish_of (ask_of g) ≡ w → IsLegalFrom k s (turns.wished g.number w r ++ calls_of (move g r) rs)
      → run_from k (Ok (one_fiber g s)) (replicate (suc (length rs)) 0) ≡ Ok
      (one_fiber (moves (move g r) rs) (left_from s (turns.wished g.number w r ++ calls_of (move g r) rs)))
  one_simulated g s r rs zeroth none answers next (Shared c) w l =
      let first = l.0 in
      let room : refusal k s 0 c ≡ None = subst (λ i. refusal k s i c ≡ None) zeroth first.accepted.room in
      let is : r ≡ reply_of s 0 c = subst (λ i. r ≡ reply_of s i c) zeroth first.replied in
      let later : IsLegalFrom k (after s 0 c) (calls_of (move g r) rs) = subst (λ i. IsLegalFrom k (after s i c) (calls_of (move g r) rs)) zeroth l.1 in
      ap (λ (x : Course). run_from k x (replicate (length rs) 0)) (entry_called g s c r w (other_call (ask_of g) c (asks_other g none) w) room is)
      ∙ next (after s 0 c) later ∙ ap (λ i. Ok (one_fiber (moves (move g r) rs) (left_from (after s i c) (calls_of (move g r) rs)))) (sym zeroth)
  one_simulated g s r rs zeroth none answers next Alone w l =
      let done : reply.Done ≡ r = sym (is_done g.number (ask_of g) r w answers) in
      ap (λ (x : Course). run_from k x (replicate (length rs) 0)) (entry_alone g s w ∙ ap (λ x. Ok (one_fiber (move g x) s)) done) ∙ next s l
  one_simulated g s r rs zeroth none answers next Nothing w l = absurd (no_wish g.number (ask_of g) r w answers)

  -- moves under the registry's replies are those of as many entries
  pub simulated : (g : Fiber) (s : Cells) (rs : List Reply) → g.number ≡ 0 → RunsChildless g.running → AreAnswers g rs → IsLegalFrom k s (calls_of g rs)
      → run_from k (Ok (one_fiber g s)) (replicate (length rs) 0) ≡ Ok (one_fiber (moves g rs) (left_from s (calls_of g rs)))
  simulated g s [] zeroth none answers legal = refl
  simulated g s (r ∷ rs) zeroth none answers legal =
      one_simulated g s r rs zeroth none answers.0
      (λ t l. simulated (move g r) t rs (move_number g r ∙ zeroth) (move_childless g r none) answers.1 l) (wish_of (ask_of g)) refl legal

  pub core_append : (x : Course) (s t : List ℕ) → run_from k x (s ++ t) ≡ run_from k (run_from k x s) t
  core_append x [] t = refl
  core_append x (f ∷ s) t = core_append (entered k x f) s t

  -- an ended fiber rests
  pub rested : (g : Fiber) (s : Cells) (n : ℕ) → wish_of (ask_of g) ≡ Nothing → run_from k (Ok (one_fiber g s)) (replicate n 0) ≡ Ok (one_fiber g s)
  rested g s zero w = refl
  rested g s (suc n) w = ap (λ (x : Course). run_from k x (replicate n 0)) (ap (wished k (one_fiber g s) 0 g) w) ∙ rested g s n w

  -- and a run that stopped stays so
  pub stopped : (e : RunError) (n : ℕ) → run_from k (Err e) (replicate n 0) ≡ Err e
  stopped e zero = refl
  stopped e (suc n) = stopped e n

  pub refused : (g : Fiber) (s : Cells) (c : Call) (e : CellError) (n : ℕ) → 0 < n → wish_of (ask_of g) ≡ Shared c → refusal k s 0 c ≡ Some e →
      run_from k (Ok (one_fiber g s)) (replicate n 0) ≡ Err (fault_of 0 e)
  refused g s c e zero some w r = absurd (omega arith)
  refused g s c e (suc n) some w r =
      ap (λ (x : Course). run_from k x (replicate n 0)) (ap (wished k (one_fiber g s) 0 g) w ∙ ap (answered (one_fiber g s) 0 g c) r) ∙ stopped (fault_of 0 e) n
