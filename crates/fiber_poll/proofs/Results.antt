-- What a fiber that starts nobody comes to, alone at its registry, is what the core says.
use Rattle.std.proofs.Common.{◌≡◌, ◌⊎◌, inl, inr, ℕ, zero, suc, ◌+◌, ◌<◌, false, List, ◌∷◌, ◌++◌, length, replicate, Option, Some, None, Result, Ok, Err, refl}
use Rattle.std.proofs.Common.{sym, ap, ◌∙◌, subst, arith, eq-eqb, cond, zero-add}
use Rattle.effect_term.specs.{declared.{reply.{Outcome.Outcome, Reply.Reply}, term.Term.Term}, Starts.starts_fiber}
use Rattle.derived_ops.specs.{Tree.Tree, Expansion.code_of, Reading.source_of}
use Rattle.fiber_frames.specs.Fiber.{Fiber, ask_of, begins}
use Rattle.cell_registry.specs.declared.{cell.Stage.Stage, limits.{CellError.CellError, Band.{Band, TheVariants.{Fibers, Refs, Deferreds}}, Limits.Limits}}
use Rattle.cell_registry.specs.{declared.{limits.RunError.RunError, call.{Call.Call, Entry.Entry}}, Bands.{claim_of, limit_of, next_of}, Cells.{Cells, cell_of}}
use Rattle.cell_registry.specs.{Cells.{opening, refusal}, Histories.{IsLegal, IsLegalFrom, calls_by, left, left_from}, Passes.{PassView, RegistryView}}
use Rattle.cell_registry.specs.Passes.{SeesAllGiven, first_pass}
use Rattle.scheduled_core.specs.{declared.wish.Wish.TheVariants.{Shared, Nothing}, Core.{core, fault_of, first_world, wish_of}, Permits.IsChange}
use Rattle.scheduled_core.proofs.Standing.Schedules.{Course, run_from}
use Rattle.fiber_poll.specs.{Turns.calls_of, Tasks.{IsBroken, IsTask, TaskView, Went}, Stepping.Failed, declared.turn.Turn.Turn, Turning.{Stopped, Turned}}
use Rattle.fiber_poll.{specs.Futures.{Comes, IsPending, IsResult, Polled, default_limits, first_result}, proofs.Childless.IsChildless}
use Rattle.fiber_poll.proofs.{ChildlessCode.code_childless, MovesAndCalls.went_on, Lonely.{IsLonely, NoStart, calls_no_start, core_append, lonely, one_fiber}}
use Rattle.fiber_poll.proofs.{Lonely.{refused, rested, simulated}, Outcomes.{broken_asked, over_asked}}
use Rattle.futures.specs.declared.task.Poll.TheVariants.{Pending}
use Rattle.cell_registry.specs.declared.limits.CellError.TheVariants as cell
use Rattle.cell_registry.specs.declared.limits.RunError.TheVariants as run
use Rattle.cell_registry.specs.declared.call.Call.TheVariants as call
use Rattle.fiber_poll.specs.declared.turn.Turn.TheVariants as turn

-- what comes of a later task comes of this one
pub comes_back : (a b : TaskView) (rs : List Reply) (r : Result (Option Outcome) RunError) → Went a rs b → Comes b r → Comes a r
comes_back a b rs r w c = record { replies = rs ++ c.replies; last = c.last; went = went_on a b c.last rs c.replies w c.went; lawful = c.lawful; is = c.is }

-- ---- what a turn makes of a future
is_pending : (t : Turn) → ((o : Outcome) → t ≡ turn.Ended o → ⊥) → (t ≡ turn.OutOfMoves → ⊥) → IsPending t
is_pending (turn.Ended o) e m = e o refl
is_pending turn.OutOfMoves e m = m refl
is_pending _ e m = tt

pub still_polled : (old new : TaskView) (budget : ℕ) (t : Turn) → Turned old budget t new → ((o : Outcome) → t ≡ turn.Ended o → ⊥) →
    (t ≡ turn.OutOfMoves → ⊥) → Polled old budget Pending new
still_polled old new budget t turned e m = (t, is_pending t e m, turned)

pub fault_comes : (old new : TaskView) (budget : ℕ) (e : RunError) → Stopped old budget e new → Comes old (Err e)
fault_comes old new budget e s = record { replies = s.replies; last = s.before; went = s.went; lawful = s.lawful; is = (s.left, (new, s.failed)) }

-- ---- refusals
is_full : (k : Limits) (s : Cells) (b : Band) → next_of b s ≡ limit_of b k → refusal k s 0 (claim_of b) ≡ Some (cell.Full b (limit_of b k))
unfolding refusal
is_full k s Fibers e = ap (λ t. cond t (Some (cell.Full Fibers k.fibers)) None) (eq-eqb s.next_fiber k.fibers e)
is_full k s Refs e = ap (λ t. cond t (Some (cell.Full Refs k.refs)) None) (eq-eqb s.next_ref k.refs e)
is_full k s Deferreds e = ap (λ t. cond t (Some (cell.Full Deferreds k.deferreds)) None) (eq-eqb s.next_deferred k.deferreds e)

is_spent : (k : Limits) (s : Cells) (c : Call) → IsChange c → (cell_of s 0).count ≡ k.count → refusal k s 0 c ≡ Some (cell.Spent (cell_of s 0).count)
unfolding refusal
is_spent k s call.Mask i e = ap (λ t. cond t (Some (cell.Spent (cell_of s 0).count)) None) (eq-eqb (cell_of s 0).count k.count e)
is_spent k s call.Unmask i e = ap (λ t. cond t (Some (cell.Spent (cell_of s 0).count)) None) (eq-eqb (cell_of s 0).count k.count e)
is_spent k s call.Cut i e = ap (λ t. cond t (Some (cell.Spent (cell_of s 0).count)) None) (eq-eqb (cell_of s 0).count k.count e)
is_spent k s (call.Finish o) i e = ap (λ t. cond t (Some (cell.Spent (cell_of s 0).count)) None) (eq-eqb (cell_of s 0).count k.count e)
is_spent k s _ i e = absurd i

-- entries, first some and then the others
parted : (m n : ℕ) → replicate {A = ℕ} (m + n) 0 ≡ replicate m 0 ++ replicate n 0
parted zero n = ap (λ k. replicate {A = ℕ} k 0) (zero-add n)
parted (suc m) n =
    let e : suc m + n ≡ suc (m + n) = omega arith in
    ap (λ k. replicate {A = ℕ} k 0) e ∙ ap (λ (l : List ℕ). 0 ∷ l) (parted m n)

-- histories, from the opening on
legal_of : (k : Limits) (h : List Entry) → IsLegal k h → IsLegalFrom k (opening k) h
unfolding IsLegal
legal_of k h l = l

left_of : (k : Limits) (h : List Entry) → left_from (opening k) h ≡ left k h
unfolding left
left_of k h = refl

-- ---- from the first task on
module _ (home : RegistryView) (code : Tree) (n : ℕ) (none : IsChildless code) (rs : List Reply) (u : TaskView)
    (went : Went (record { home = home; pass = first_pass home; state = begins 0 code; moves = n }) rs u) (lawful : IsTask u) where
  abbrev k : Limits
  k = u.pass.registry.limits

  limits_are : k ≡ home.limits
  limits_are = ap (λ (r : RegistryView). r.limits) (lawful.here ∙ went.home)

  no_start : NoStart (calls_by 0 u.pass.seen)
  no_start = subst NoStart (sym went.own) (calls_no_start (begins 0 code) rs none)

  alone_here : IsLonely k u.pass.seen
  alone_here = lonely k (begins 0 code) u.pass.seen lawful.pass.legal no_start

  -- all that was seen are the fiber's calls
  calls_are : u.pass.seen ≡ calls_of (begins 0 code) rs
  calls_are = sym alone_here.own ∙ went.own

  legal_from : IsLegalFrom k (opening k) (calls_of (begins 0 code) rs)
  legal_from = legal_of k (calls_of (begins 0 code) rs) (subst (IsLegal k) calls_are lawful.pass.legal)

  left_is : left_from (opening k) (calls_of (begins 0 code) rs) ≡ left k u.pass.seen
  left_is = left_of k (calls_of (begins 0 code) rs) ∙ ap (left k) (sym calls_are)

  -- the core comes to where the fiber is
  comes_here : run_from k (Ok (first_world code k)) (replicate (length rs) 0) ≡ Ok (one_fiber u.state (left k u.pass.seen))
  comes_here =
      simulated k (begins 0 code) (opening k) rs refl none went.answers legal_from
      ∙ ap (λ (g : Fiber). Ok (one_fiber g (left_from (opening k) (calls_of (begins 0 code) rs)))) (sym went.state)
      ∙ ap (λ (s : Cells). Ok (one_fiber u.state s)) left_is

  core_is : core code k (replicate n 0) ≡ run_from k (Ok (one_fiber u.state (left k u.pass.seen))) (replicate u.moves 0)
  unfolding core
  core_is =
      let many : n ≡ length rs + u.moves = (let all = went.left in omega arith) in
      ap (λ m. run_from k (Ok (first_world code k)) (replicate m 0)) many
      ∙ ap (λ (l : List ℕ). run_from k (Ok (first_world code k)) l) (parted (length rs) u.moves)
      ∙ core_append k (Ok (first_world code k)) (replicate (length rs) 0) (replicate u.moves 0)
      ∙ ap (λ (x : Course). run_from k x (replicate u.moves 0)) comes_here

  -- a fiber that is broken wants no call
  unbroken : (c : Call) → IsBroken u.state → wish_of (ask_of u.state) ≡ Shared c → ⊥
  unbroken c b w = let nothing : wish_of (ask_of u.state) ≡ Nothing = ap wish_of (broken_asked u.state b) in cc

  some_left : (c : Call) → (0 < u.moves) ⊎ IsBroken u.state → wish_of (ask_of u.state) ≡ Shared c → 0 < u.moves
  some_left c h w = elim h [ inl l ↦ l | inr b ↦ absurd (unbroken c b w) ]

  -- the pass saw all numbers of the band given: so does the registry that it knew
  given_before : (b : Band) (q : PassView) → SeesAllGiven b u.pass q → next_of b (left k u.pass.seen) ≡ limit_of b k
  given_before b q g =
      let own : calls_by 0 q.seen ≡ calls_by 0 u.pass.seen =
      subst (λ i. calls_by i q.seen ≡ calls_by i u.pass.seen) (went.number) (g.look.own u.pass.number lawful.pass.own) in
      let later = lonely k (begins 0 code) q.seen g.look.legal (subst NoStart (sym own) no_start) in
      let same : q.seen ≡ u.pass.seen = sym later.own ∙ own ∙ alone_here.own in
      ap (λ (h : List Entry). next_of b (left k h)) (sym same) ∙ g.given.next

  counted : (cell_of (left k u.pass.seen) 0).count ≡ u.pass.count
  counted = subst (λ i. (cell_of (left k u.pass.seen) i).count ≡ u.pass.count) went.number (ap (λ (x : Stage × ℕ × ℕ). x.2) lawful.pass.cell)

  refused_is : (c : Call) (e : CellError) → (0 < u.moves) ⊎ IsBroken u.state → wish_of (ask_of u.state) ≡ Shared c →
      refusal k (left k u.pass.seen) 0 c ≡ Some e → first_result (core code k (replicate n 0)) ≡ Err (fault_of 0 e)
  refused_is c e some w r = ap first_result (core_is ∙ refused k u.state (left k u.pass.seen) c e u.moves (some_left c some w) w r)

  fault_is : (e : RunError) (v : TaskView) → (0 < u.moves) ⊎ IsBroken u.state → Failed u e v → (e ≡ run.NoMemory) ⊎
      (first_result (core code k (replicate n 0)) ≡ Err e)
  fault_is (run.Full b m) v some f =
      let here : limit_of b k ≡ m = ap (λ (r : RegistryView). limit_of b r.limits) lawful.here ∙ sym f.1 in
      inr (refused_is (claim_of b) (cell.Full b (limit_of b k)) some f.0 (is_full k (left k u.pass.seen) b (given_before b v.pass f.4)) ∙
      ap (λ x. Err (run.Full b x)) here)
  fault_is (run.Spent i) v some f =
      let count : (cell_of (left k u.pass.seen) 0).count ≡ k.count = counted ∙ f.2 ∙ ap (λ (r : RegistryView). r.limits.count) (sym lawful.here) in
      let zeroth : 0 ≡ i = sym (f.1 ∙ lawful.number ∙ went.number) in
      inr (refused_is f.0.0 (cell.Spent (cell_of (left k u.pass.seen) 0).count) some f.0.1 (is_spent k (left k u.pass.seen) f.0.0 f.0.2 count) ∙
      ap (λ x. Err (run.Spent x)) zeroth)
  fault_is run.NoMemory v some f = inl refl
  fault_is (run.Lost i) v some f = absurd f
  fault_is run.NoWorker v some f = absurd f

  result_is : (r : Result (Option Outcome) RunError) → IsResult u r → (r ≡ Err run.NoMemory) ⊎ (first_result (core code k (replicate n 0)) ≡ r)
  result_is (Ok (Some o)) h = inr (ap first_result (core_is ∙ rested k u.state (left k u.pass.seen) u.moves (ap wish_of (over_asked u.state o h))) ∙ ap Ok h)
  result_is (Ok None) h = inr (ap first_result (core_is ∙ ap (λ m. run_from k (Ok (one_fiber u.state (left k u.pass.seen))) (replicate m 0)) h.0) ∙ ap Ok h.1)
  result_is (Err e) h = elim (fault_is e h.1.0 h.0 h.1.1) [ inl q ↦ inl (ap Err q) | inr q ↦ inr q ]

alone_is : (home : RegistryView) (code : Tree) (n : ℕ) (r : Result (Option Outcome) RunError) → IsChildless code →
    Comes (record { home = home; pass = first_pass home; state = begins 0 code; moves = n }) r → (r ≡ Err run.NoMemory) ⊎
    (r ≡ first_result (core code home.limits (replicate n 0)))
alone_is home code n r none c = elim (result_is home code n none c.replies c.last c.went c.lawful r c.is) [
  | inl e ↦ inl e
  | inr e ↦ inr (sym e ∙ ap (λ (l : Limits). first_result (core code l (replicate n 0))) (limits_are home code n none c.replies c.last c.went c.lawful))
]

pub program_is : (p : Term) (home : RegistryView) (pass : PassView) (code : Tree) (task : TaskView) (n : ℕ) (r : Result (Option Outcome) RunError) →
    starts_fiber p ≡ false → code ≡ code_of (source_of p) → pass ≡ first_pass home → home.limits ≡ default_limits →
    task ≡ record { home = home; pass = pass; state = begins 0 code; moves = n } → Comes task r
    → (r ≡ Err run.NoMemory) ⊎ (r ≡ first_result (core (code_of (source_of p)) default_limits (replicate n 0)))
program_is p home pass code task n r none code_is pass_is limits_are task_is c =
    let childless : IsChildless code = subst IsChildless (sym code_is) (code_childless p none) in
    let first : Comes (record { home = home; pass = first_pass home; state = begins 0 code; moves = n }) r =
    subst (λ (x : PassView). Comes (record { home = home; pass = x; state = begins 0 code; moves = n }) r) pass_is
    (subst (λ (t : TaskView). Comes t r) task_is c) in
    elim (alone_is home code n r childless first) [
      | inl e ↦ inl e
      | inr e ↦ inr (e ∙ ap (λ (l : Limits). first_result (core code l (replicate n 0))) limits_are ∙
          ap (λ (t : Tree). first_result (core t default_limits (replicate n 0))) code_is)
    ]
