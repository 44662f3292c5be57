-- Moves, one after another, and the calls that they made.
use Rattle.std.proofs.Common.{◌≡◌, ℕ, ◌+◌, List, [], ◌∷◌, ◌++◌, None, refl, sym, ap, ◌∙◌, subst, arith, append_assoc, append-nil, length-append}
use mathlib.Core.List.{IsPrefix}
use Rattle.effect_term.specs.declared.reply.Reply.{Reply}
use Rattle.fiber_frames.specs.{declared.ask.Ask.Ask, Fiber.{Fiber, ask_of, move}, Answers.Answers}
use Rattle.cell_registry.specs.{declared.call.Call.Call, Histories.calls_by, Rule.Has, Passes.{PassView, Calls}, Steps.entry}
use Rattle.scheduled_core.{specs.{declared.wish.Wish.TheVariants.{Shared, Alone, Nothing}, Core.wish_of}, proofs.Replied.goes_on}
use Rattle.fiber_poll.specs.{Turns.{AreAnswers, AreQuiet, call_of, calls_of, event_of, moves, wished}, Tasks.{TaskView, Went}}
use Rattle.effect_term.specs.declared.reply.Reply.TheVariants as reply
use Rattle.fiber_frames.specs.declared.ask.Ask.TheVariants as ask

-- ---- replies
-- a move without a call is answered `Done`
pub is_done : (i : ℕ) (a : Ask) (r : Reply) → wish_of a ≡ Alone → Answers i a r → r ≡ reply.Done
is_done i ask.Silent reply.Done w h = refl
is_done i ask.Silent (reply.Seen x) w h = absurd h
is_done i ask.Silent (reply.Cancel x) w h = absurd h
is_done i ask.Silent (reply.Join x) w h = absurd h
is_done i ask.Silent (reply.Number x) w h = absurd h
is_done i ask.Silent (reply.Value x) w h = absurd h
is_done i ask.Silent (reply.Completed x) w h = absurd h
is_done i ask.Silent (reply.Read x) w h = absurd h
is_done i _ r w h = cc

-- no move is answered where none is wanted
pub no_wish : (i : ℕ) (a : Ask) (r : Reply) → wish_of a ≡ Nothing → Answers i a r → ⊥
no_wish i (ask.Over o) r w h = h
no_wish i ask.Broken r w h = h
no_wish i _ r w h = cc

-- ---- lists of replies
pub moves-append : (g : Fiber) (rs qs : List Reply) → moves g (rs ++ qs) ≡ moves (moves g rs) qs
moves-append g [] qs = refl
moves-append g (r ∷ rs) qs = moves-append (move g r) rs qs

calls_of-append : (g : Fiber) (rs qs : List Reply) → calls_of g (rs ++ qs) ≡ calls_of g rs ++ calls_of (moves g rs) qs
calls_of-append g [] qs = refl
calls_of-append g (r ∷ rs) qs = ap (λ x. call_of g r ++ x) (calls_of-append (move g r) rs qs) ∙
    sym (append_assoc (call_of g r) (calls_of (move g r) rs) (calls_of (moves (move g r) rs) qs))

answers-append : (g : Fiber) (rs qs : List Reply) → AreAnswers g rs → AreAnswers (moves g rs) qs → AreAnswers g (rs ++ qs)
answers-append g [] qs h k = k
answers-append g (r ∷ rs) qs h k = (h.0, answers-append (move g r) rs qs h.1 k)

pub quiet-push : (g : Fiber) (rs : List Reply) (r : Reply) → AreQuiet g rs → event_of (moves g rs) r ≡ None → AreQuiet g (rs ++ r ∷ [])
quiet-push g [] r h k = (k, tt)
quiet-push g (q ∷ rs) r h k = (h.0, quiet-push (move g q) rs r h.1 k)

prefix-join : {A : Type 0} (x y z : List A) → IsPrefix x y → IsPrefix y z → IsPrefix x z
prefix-join x y z p q = (p.0 ++ q.0, sym (append_assoc x p.0 q.0) ∙ ap (λ w. w ++ q.0) p.1 ∙ q.1)

-- no move
pub went_nowhere : (t : TaskView) → Went t [] t
went_nowhere t = record {
  home = refl;
  number = refl;
  fibers = refl;
  state = refl;
  left = omega arith;
  answers = tt;
  seen = ([], append-nil t.pass.seen);
  own = sym (append-nil (calls_by t.pass.number t.pass.seen));
  others = λ f h n. refl;
}

-- moves, and then more
pub went_on : (a b c : TaskView) (rs qs : List Reply) → Went a rs b → Went b qs c → Went a (rs ++ qs) c
went_on a b c rs qs x y = record {
  home = y.home ∙ x.home;
  number = y.number ∙ x.number;
  fibers = y.fibers ∙ x.fibers;
  state = y.state ∙ ap (λ g. moves g qs) x.state ∙ sym (moves-append a.state rs qs);
  left = (let l = x.left in let m = y.left in let n = length-append rs qs in omega arith);
  answers = answers-append a.state rs qs x.answers (subst (λ g. AreAnswers g qs) x.state y.answers);
  seen = prefix-join a.pass.seen b.pass.seen c.pass.seen x.seen y.seen;
  own =
      let own : calls_by a.pass.number c.pass.seen ≡ calls_by a.pass.number b.pass.seen ++ calls_of b.state qs =
      subst (λ i. calls_by i c.pass.seen ≡ calls_by i b.pass.seen ++ calls_of b.state qs) x.number y.own in
      own ∙ ap (λ w. w ++ calls_of b.state qs) x.own ∙ append_assoc (calls_by a.pass.number a.pass.seen) (calls_of a.state rs) (calls_of b.state qs)
      ∙ ap (λ g. calls_by a.pass.number a.pass.seen ++ (calls_of a.state rs ++ calls_of g qs)) x.state
      ∙ ap (λ w. calls_by a.pass.number a.pass.seen ++ w) (sym (calls_of-append a.state rs qs));
  others = λ f h n.
      let here : Has b.pass.fibers f = subst (λ (l : List ℕ). Has l f) (sym x.fibers) h in
      y.others f here (λ e. n (e ∙ x.number)) ∙ x.others f h n;
}

-- one move, with what it wanted
module _ (a c : TaskView) (r : Reply) (home : c.home ≡ a.home) (state : c.state ≡ move a.state r) (left : c.moves + 1 ≡ a.moves)
    (answers : Answers a.state.number (ask_of a.state) r) where
  pub went_alone : c.pass ≡ a.pass → wish_of (ask_of a.state) ≡ Alone → Went a (r ∷ []) c
  went_alone pass w = record {
    home = home;
    number = ap (λ (p : PassView). p.number) pass;
    fibers = ap (λ (p : PassView). p.fibers) pass;
    state = state;
    left = left;
    answers = (answers, tt);
    seen = ([], append-nil a.pass.seen ∙ sym (ap (λ (p : PassView). p.seen) pass));
    own =
        let none : calls_of a.state (r ∷ []) ≡ [] = ap (λ x. wished a.state.number x r ++ []) w in
        ap (λ (p : PassView). calls_by a.pass.number p.seen) pass ∙ sym (append-nil (calls_by a.pass.number a.pass.seen)) ∙
        ap (λ x. calls_by a.pass.number a.pass.seen ++ x) (sym none);
    others = λ f h n. ap (λ (p : PassView). calls_by f p.seen) pass;
  }

  pub went_call : (x : Call) → c.pass.number ≡ a.pass.number → c.pass.fibers ≡ a.pass.fibers → Calls a.pass x r c.pass →
      a.state.number ≡ a.pass.number → wish_of (ask_of a.state) ≡ Shared x → Went a (r ∷ []) c
  went_call x number fibers made same w = record {
    home = home;
    number = number;
    fibers = fibers;
    state = state;
    left = left;
    answers = (answers, tt);
    seen = goes_on a.pass c.pass x r made;
    own =
        let one : calls_of a.state (r ∷ []) ≡ entry a.pass.number x r ∷ [] = ap (λ y. wished a.state.number y r ++ []) w ∙ ap (λ i. entry i x r ∷ []) same in
        made.own ∙ ap (λ y. calls_by a.pass.number a.pass.seen ++ y) (sym one);
    others = λ f h n. made.others f h n;
  }
