-- What a fiber doesn't use so, it doesn't behind a move, and neither does its child.
use Rattle.std.proofs.Common.{◌≡◌, ℕ, List, [], ◌∷◌, ◌++◌, refl, sym, ap, ◌∙◌, subst}
use Rattle.derived_ops.specs.Tree.{Guarded, Handled, Let, Masked, Pair, Polled, Seq, Tree}
use Rattle.effect_term.specs.declared.reply.Reply.{Reply}
use Rattle.effect_term.specs.declared.reply.Reply.TheVariants as reply
use Rattle.fiber_frames.specs.declared.uses.Use.{Use}
use Rattle.fiber_frames.specs.Path.{At_final, At_term, Broken, Final, Over, Running, Runs, focus, path, pending, pending_at}
use Rattle.fiber_frames.specs.Rows.{Born, Ceded, Ended, RowKind, Plain, Row, Waited, row_at}
use Rattle.fiber_frames.specs.Fiber.{Cuts, Fiber, Looks, Move_case, Reduces, Rests, ask_in, ask_of}
use Rattle.fiber_frames.specs.Fiber.{child, kind_in, kind_of, move, move_case, move_in, row_of, term_born}
use Rattle.fiber_frames.specs.Uses.{AskApart, NumberApart, Spares, all_uses}
use Rattle.fiber_frames.proofs.CallBeforeReply.{call_same}
use Rattle.fiber_frames.proofs.Marks.Actions.{If_born}
use Rattle.fiber_frames.proofs.Unused.{RowUnused, Unused, none_both, none_first, none_second, row_unused}
use Rattle.fiber_frames.proofs.Walk.{End, Gives, Throws, Works, end_of, finalizers_below, pending_root, root_row, row_root, walk}

module _ (u : Use) (n : ℕ) where
  -- ---- rows of a fiber
  record RunUnused (i : ℕ) (r : Reply) (a : Row Running) : Type 0 where
    pub becomes : NumberApart u n a.call r → Spares u n a.becomes
    pub born : If_born a.kind (Unused u n)
    pub asks : AskApart u n i a.call

  module _ (i next : ℕ) (r : Reply) where
    term_unused : (E : End) (a : Row Tree) → RowUnused u n i r a → RunUnused i r (root_row i next At_term E a)
    term_unused (Gives v) a h = record { becomes = λ g. refl; born = tt; asks = tt }
    term_unused (Throws v) a h = record { becomes = λ g. refl; born = tt; asks = tt }
    term_unused Works a h = record { becomes = h.becomes; born = h.born; asks = h.asks }

    final_unused : (m : ℕ) (gs : List Tree) → all_uses u n gs ≡ 0 → (E : End) (a : Row Tree) → RowUnused u n i r a →
        RunUnused i r (root_row i next (At_final m gs) E a)
    final_unused m gs c (Gives v) a h = record { becomes = λ g. c; born = tt; asks = tt }
    final_unused m gs c (Throws v) a h = record { becomes = λ g. c; born = tt; asks = tt }
    final_unused m gs c Works a h = record { becomes = λ g. none_both _ _ (h.becomes g) c; born = h.born; asks = h.asks }

    run_unused : (w : Running) → Spares u n w → RunUnused i r (row_at i next r (focus w) w)
    run_unused (Runs t) h =
        subst (RunUnused i r) (sym (row_root i next r At_term t)) (term_unused (end_of t) (walk i next r [] t) (row_unused u n i next r t [] h))
    run_unused (Final m []) h = record { becomes = λ g. refl; born = tt; asks = tt }
    run_unused (Final m (g ∷ gs)) h =
        subst (RunUnused i r) (sym (row_root i next r (At_final m gs) g))
        (final_unused m gs (none_second _ _ h) (end_of g) (walk i next r (Pair i m ∷ []) g) (row_unused u n i next r g (Pair i m ∷ []) (none_first _ _ h)))
    run_unused (Over o) h = record { becomes = λ g. refl; born = tt; asks = tt }
    run_unused Broken h = record { becomes = λ g. refl; born = tt; asks = tt }

  -- ---- moves
  all-append : (a : List Tree) (g : Tree) → all_uses u n a ≡ 0 → Unused u n g → all_uses u n (a ++ g ∷ []) ≡ 0
  all-append [] g h k = none_both _ _ k refl
  all-append (x ∷ a) g h k = none_both _ _ (none_first _ _ h) (all-append a g (none_second _ _ h) k)

  below_unused : (t : Tree) → Unused u n t → all_uses u n (finalizers_below t) ≡ 0
  below_unused (Let e x k) h = below_unused e (none_first _ _ h)
  below_unused (Seq w e k) h = below_unused e (none_first _ _ h)
  below_unused (Handled e x k) h = below_unused e (none_first _ _ h)
  below_unused (Guarded e fin) h = all-append (finalizers_below e) fin (below_unused e (none_first _ _ h)) (none_second _ _ h)
  below_unused (Masked m e) h = below_unused e h
  below_unused (Polled q e) h = below_unused e h
  below_unused _ h = refl

  path_unused : (t : Tree) → Unused u n t → all_uses u n (pending (path t [])) ≡ 0
  path_unused t h = ap (all_uses u n) (pending_root t) ∙ below_unused t h

  pending_unused : (w : Running) → Spares u n w → all_uses u n (pending_at (focus w)) ≡ 0
  pending_unused (Runs t) h = path_unused t h
  pending_unused (Final m []) h = refl
  pending_unused (Final m (g ∷ gs)) h = path_unused g (none_first _ _ h)
  pending_unused (Over o) h = refl
  pending_unused Broken h = refl

  row_here : (f : Fiber) (r : Reply) → Spares u n f.running → RunUnused f.number r (row_of f r)
  row_here f r h = run_unused f.number f.next r f.running h

  same_call : (f : Fiber) (r : Reply) → (row_of f r).call ≡ (row_of f reply.Done).call
  same_call f r = call_same f.number f.next f.next r reply.Done (focus f.running) f.running

  -- what is asked is another number, or the fiber itself
  pub unused_ask : (f : Fiber) → Spares u n f.running → AskApart u n f.number (ask_of f)
  unused_ask f h = go (move_case f)
    where
      go : (c : Move_case) → AskApart u n f.number (ask_in f c)
      go Looks = tt
      go Cuts = tt
      go Reduces = (row_here f reply.Done h).asks
      go Rests = (row_here f reply.Done h).asks

  -- what comes of a move uses nothing so, unless it is answered the number
  pub unused_move : (f : Fiber) (r : Reply) → Spares u n f.running → NumberApart u n (ask_of f) r → Spares u n (move f r).running
  unused_move f r h g = go (move_case f) g
    where
      go : (c : Move_case) → NumberApart u n (ask_in f c) r → Spares u n (move_in f r c).running
      go Looks g = h
      go Cuts g = pending_unused f.running h
      go Reduces g = (row_here f r h).becomes (subst (λ a. NumberApart u n a r) (sym (same_call f r)) g)
      go Rests g = h

  -- and neither does what is started
  pub unused_child : (f : Fiber) (m : ℕ) → Spares u n f.running → Spares u n (child f m).running
  unused_child f m h = started (kind_of f (reply.Number m)) (go (move_case f))
    where
      go : (c : Move_case) → If_born (kind_in f (reply.Number m) c) (Unused u n)
      go Looks = tt
      go Cuts = tt
      go Rests = tt
      go Reduces = (row_here f (reply.Number m) h).born

      started : (k : RowKind) → If_born k (Unused u n) → Unused u n (term_born k)
      started (Born e) c = c
      started Plain c = refl
      started Waited c = refl
      started Ceded c = refl
      started (Ended o) c = refl
