-- A move does the same, whatever numbers the masks have.
use Rattle.fiber_frames.proofs.Prelude.{◌≡◌, ℕ, ◌+◌, List, [], ◌∷◌, ◌++◌, refl, sym, ap, ap₂, ◌∙◌, subst, Put, mask_at, Guarded, Handled, Let, Mask, Masked}
use Rattle.fiber_frames.proofs.Prelude.{Pair, Polled, Seq, Tree, Reply, Look, At_final, At_term, Broken, Final, Over, Root, Running, Runs, active_at, focus}
use Rattle.fiber_frames.proofs.Prelude.{path, pending, pending_at, Row, mask_number, row_at, Cuts, Fiber, Move_case, Reduces, Rests, active_of, ask_in, ask_of}
use Rattle.fiber_frames.proofs.Prelude.{case_in, case_under, kind_in, move, move_case, move_in, row_of, all_renumbered, masks_of, masks_on, number_to}
use Rattle.fiber_frames.proofs.Prelude.{renumbered, run_renumbered}
use Rattle.fiber_frames.specs.Fiber.{kind_of}
use Rattle.fiber_frames.proofs.Walk.{End, Works, active_path, active_root, end_of, finalizers_below, masks_below, pending_root, root_row, row_root, walk}
use Rattle.fiber_frames.proofs.Renumbering.{AlikeRow, Each, IsKept, end_to, kind_renumbered, kept_undone, masks_to, undone_to, walk_alike}

-- a fiber with other numbers of masks, without marks, and with this next number
abbrev pub fiber_to : (ℕ → ℕ → Mask) → ℕ → Fiber → Fiber
fiber_to to n f = record { number = f.number; running = run_renumbered f.number to f.running; look = f.look; next = n; marks = [] }

module _ (i : ℕ) (to : ℕ → ℕ → Mask) (closed : (p : Put) (g m : ℕ) → mask_at p (to g m) ≡ to g m) (own : (m : ℕ) → to i m ≡ Pair i (number_to i to m)) where
  abbrev Kept : ℕ → Type 0
  Kept m = IsKept i to closed (Pair i m)

  -- ---- active masks
  below_to : (t : Tree) (up up' : List Mask) → Each (IsKept i to closed) up → Each Kept (masks_on t) → up' ≡ masks_to i to closed up →
      masks_below i up' (renumbered i to t) ≡ masks_to i to closed (masks_below i up t)
  below_to (Let e x k) up up' h g q = below_to e up up' h g q
  below_to (Seq w e k) up up' h g q = below_to e up up' h g q
  below_to (Handled e x k) up up' h g q = below_to e up up' h g q
  below_to (Guarded e fin) up up' h g q = below_to e up up' h g q
  below_to (Masked m e) up up' h g q = below_to e (Pair i m ∷ up) (Pair i (number_to i to m) ∷ up') (g.0, h) g.1 (ap₂ (λ (a : Mask) (l : List Mask). a ∷ l) (sym (own m)) q)
  below_to (Polled p e) up up' h g q =
      below_to e _ _ (kept_undone i to closed p up h) g (ap (Rattle.fiber_frames.specs.Path.undone (Rattle.fiber_frames.specs.Unmarked.mask_to i to p)) q ∙ undone_to i to closed p up h)
  below_to _ up up' h g q = q

  active_to : (w : Running) → Each Kept (masks_of w) → active_at i (focus (run_renumbered i to w)) ≡ masks_to i to closed (active_at i (focus w))
  active_to (Runs t) g = active_root i (renumbered i to t) ∙ below_to t [] [] tt g refl ∙ ap (masks_to i to closed) (sym (active_root i t))
  active_to (Final m []) g = ap (λ (a : Mask). a ∷ []) (sym (own m))
  active_to (Final m (t ∷ gs)) g =
      active_path i (At_final (number_to i to m) (all_renumbered i to gs)) [] (renumbered i to t)
      ∙ below_to t (Pair i m ∷ []) (Pair i (number_to i to m) ∷ []) (g.0, tt) g.1 (ap (λ (a : Mask). a ∷ []) (sym (own m)))
      ∙ ap (masks_to i to closed) (sym (active_path i (At_final m gs) [] t))
  active_to _ g = refl

  under_case : (up : List Mask) (l : Look) → case_under (masks_to i to closed up) l ≡ case_under up l
  under_case [] l = refl
  under_case (a ∷ up) l = refl

  case_to : (w : Running) (up : List Mask) (l : Look) → case_in (run_renumbered i to w) (masks_to i to closed up) l ≡ case_in w up l
  case_to (Over o) up l = refl
  case_to Broken up l = refl
  case_to _ up l = under_case up l

  -- ---- pending finalizers
  all-append : (xs : List Tree) (g : Tree) → all_renumbered i to (xs ++ g ∷ []) ≡ all_renumbered i to xs ++ renumbered i to g ∷ []
  all-append [] g = refl
  all-append (x ∷ xs) g = ap (λ (l : List Tree). renumbered i to x ∷ l) (all-append xs g)

  finalizers_to : (t : Tree) → finalizers_below (renumbered i to t) ≡ all_renumbered i to (finalizers_below t)
  finalizers_to (Let e x k) = finalizers_to e
  finalizers_to (Seq w e k) = finalizers_to e
  finalizers_to (Handled e x k) = finalizers_to e
  finalizers_to (Guarded e fin) = ap (λ (l : List Tree). l ++ renumbered i to fin ∷ []) (finalizers_to e) ∙ sym (all-append (finalizers_below e) fin)
  finalizers_to (Masked m e) = finalizers_to e
  finalizers_to (Polled q e) = finalizers_to e
  finalizers_to _ = refl

  path_pending : (t : Tree) → pending (path (renumbered i to t) []) ≡ all_renumbered i to (pending (path t []))
  path_pending t = pending_root (renumbered i to t) ∙ finalizers_to t ∙ ap (all_renumbered i to) (sym (pending_root t))

  pending_to : (w : Running) → pending_at (focus (run_renumbered i to w)) ≡ all_renumbered i to (pending_at (focus w))
  pending_to (Runs t) = path_pending t
  pending_to (Final m (g ∷ gs)) = path_pending g
  pending_to _ = refl

  -- ---- rows
  record RunAlike (a b : Row Running) : Type 0 where
    pub call : b.call ≡ a.call
    pub becomes : b.becomes ≡ run_renumbered i to a.becomes
    pub kind : b.kind ≡ kind_renumbered (renumbered i to) a.kind

  module _ (next n : ℕ) (r : Reply) where
    abbrev TakenBy : ℕ → Type 0
    TakenBy m = m ≡ next + 1 → to i next ≡ Pair i n

    term_alike : (E : End) (a b : Row Tree) → (E ≡ Works → AlikeRow i to closed a b) → RunAlike (root_row i next At_term E a) (root_row i n At_term E b)
    term_alike Works a b h = let w = h refl in record { call = w.call; becomes = ap Runs w.becomes; kind = w.kind }
    term_alike _ a b h = record { call = refl; becomes = refl; kind = refl }

    final_alike : (m : ℕ) (gs : List Tree) (E : End) (a b : Row Tree) → (E ≡ Works → AlikeRow i to closed a b) →
        RunAlike (root_row i next (At_final m gs) E a) (root_row i n (At_final (number_to i to m) (all_renumbered i to gs)) E b)
    final_alike m gs Works a b h =
        let w = h refl in
        record { call = w.call; becomes = ap (λ (t : Tree). Final (number_to i to m) (t ∷ all_renumbered i to gs)) w.becomes; kind = w.kind }
    final_alike m gs _ a b h = record { call = refl; becomes = refl; kind = refl }

    root_taken : (b : Root) (E : End) (a : Row Tree) → TakenBy (root_row i next b E a).next → E ≡ Works → TakenBy a.next
    root_taken b Works a h e = h
    root_taken b _ a h e = absurd (cc)

    run_alike : (w : Running) → Each Kept (masks_of w) → TakenBy (row_at i next r (focus w) w).next →
        RunAlike (row_at i next r (focus w) w) (row_at i n r (focus (run_renumbered i to w)) (run_renumbered i to w))
    run_alike (Runs t) g h =
        let here = row_root i next r At_term t in
        let there = row_root i n r At_term (renumbered i to t) in
        let taken : TakenBy (root_row i next At_term (end_of t) (walk i next r [] t)).next = subst (λ (x : Row Running). TakenBy x.next) here h in
        let inner : end_of t ≡ Works → AlikeRow i to closed (walk i next r [] t) (walk i n r [] (renumbered i to t)) =
        λ e. walk_alike i to closed own next n r t [] [] tt g refl (root_taken At_term (end_of t) (walk i next r [] t) taken e) in
        let rooted = term_alike (end_of t) (walk i next r [] t) (walk i n r [] (renumbered i to t)) inner in
        let ended : RunAlike (root_row i next At_term (end_of t) (walk i next r [] t)) (root_row i n At_term (end_of (renumbered i to t)) (walk i n r [] (renumbered i to t))) =
        subst (λ E. RunAlike (root_row i next At_term (end_of t) (walk i next r [] t)) (root_row i n At_term E (walk i n r [] (renumbered i to t))))
        (sym (end_to i to closed own next n r t)) rooted in
        subst (λ x. RunAlike x (row_at i n r (focus (Runs (renumbered i to t))) (Runs (renumbered i to t)))) (sym here)
        (subst (RunAlike (root_row i next At_term (end_of t) (walk i next r [] t))) (sym there) ended)
    run_alike (Final m (t ∷ gs)) g h =
        let up = Pair i m ∷ [] in
        let up' = Pair i (number_to i to m) ∷ [] in
        let b = At_final m gs in
        let b' = At_final (number_to i to m) (all_renumbered i to gs) in
        let a = walk i next r up t in
        let a' = walk i n r up' (renumbered i to t) in
        let here = row_root i next r b t in
        let there = row_root i n r b' (renumbered i to t) in
        let taken : TakenBy (root_row i next b (end_of t) a).next = subst (λ (x : Row Running). TakenBy x.next) here h in
        let inner : end_of t ≡ Works → AlikeRow i to closed a a' =
        λ e. walk_alike i to closed own next n r t up up' (g.0, tt) g.1 (ap (λ (x : Mask). x ∷ []) (sym (own m))) (root_taken b (end_of t) a taken e) in
        let rooted = final_alike m gs (end_of t) a a' inner in
        let ended : RunAlike (root_row i next b (end_of t) a) (root_row i n b' (end_of (renumbered i to t)) a') =
        subst (λ E. RunAlike (root_row i next b (end_of t) a) (root_row i n b' E a')) (sym (end_to i to closed own next n r t)) rooted in
        subst (λ x. RunAlike x (row_at i n r (focus (Final (number_to i to m) (renumbered i to t ∷ all_renumbered i to gs)))
        (Final (number_to i to m) (renumbered i to t ∷ all_renumbered i to gs)))) (sym here)
        (subst (RunAlike (root_row i next b (end_of t) a)) (sym there) ended)
    run_alike _ g h = record { call = refl; becomes = refl; kind = refl }

-- ---- moves
module _ (f : Fiber) (to : ℕ → ℕ → Mask) (n : ℕ) (closed : (p : Put) (g m : ℕ) → mask_at p (to g m) ≡ to g m)
    (own : (m : ℕ) → to f.number m ≡ Pair f.number (number_to f.number to m)) (kept : Each (λ m. IsKept f.number to closed (Pair f.number m)) (masks_of f.running)) where
  abbrev i : ℕ
  i = f.number

  abbrev g : Fiber
  g = fiber_to to n f

  -- the same goes on, with other numbers
  pub record Onward (a b : Fiber) : Type 0 where
    pub number : b.number ≡ a.number
    pub running : b.running ≡ run_renumbered i to a.running
    pub look : b.look ≡ a.look

  pub same_case : move_case g ≡ move_case f
  same_case =
      ap (λ (up : List Mask). case_in (run_renumbered i to f.running) up f.look) (active_to i to closed own f.running kept)
      ∙ case_to i to closed own f.running (active_of f) f.look

  module _ (r : Reply) where
    pub onward : ((move f r).next ≡ f.next + 1 → to i f.next ≡ Pair i n) → Onward (move f r) (move g r)
    onward taken = subst (λ c. Onward (move f r) (move_in g r c)) (sym same_case) (go (move_case f) taken)
      where
        go : (c : Move_case) → ((move_in f r c).next ≡ f.next + 1 → to i f.next ≡ Pair i n) → Onward (move_in f r c) (move_in g r c)
        go Cuts h = record {
          number = refl;
          running = ap₂ (λ (m : ℕ) (gs : List Tree). Final m gs) (ap mask_number (sym (h refl))) (pending_to i to closed own f.running);
          look = refl;
        }
        go Reduces h = record { number = refl; running = (run_alike i to closed own f.next n r f.running kept h).becomes; look = refl }
        go _ h = record { number = refl; running = refl; look = refl }

  module _ (fits : to i f.next ≡ Pair i n) where
    row_there : (r : Reply) → RunAlike i to closed own (row_of f r) (row_of g r)
    row_there r = run_alike i to closed own f.next n r f.running kept (λ e. fits)

    pub same_ask : ask_of g ≡ ask_of f
    same_ask = ap (ask_in g) same_case ∙ go (move_case f)
      where
        go : (c : Move_case) → ask_in g c ≡ ask_in f c
        go Reduces = (row_there Reply.Done).call
        go Rests = (row_there Reply.Done).call
        go _ = refl

    pub same_kind : (r : Reply) → kind_of g r ≡ kind_renumbered (renumbered i to) (kind_of f r)
    same_kind r = ap (kind_in g r) same_case ∙ go (move_case f)
      where
        go : (c : Move_case) → kind_in g r c ≡ kind_renumbered (renumbered i to) (kind_in f r c)
        go Reduces = (row_there r).kind
        go _ = refl
