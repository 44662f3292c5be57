-- Every report is some schedule's.
use Rattle.std.proofs.Common.{◌≡◌, ◌≢◌, ℕ, zero, suc, ◌+◌, ◌-◌, ◌<◌, List, [], ◌∷◌, ◌++◌, length, set, get_or, replicate, refl, sym, ap, ◌∙◌, subst, arith}
use Rattle.std.proofs.{Common.{length-set, append_assoc}, lemmas.{List.{set-set, length-append, length-replicate}, Option.{same_Some, slice_get-get_or}}}
use Rattle.std.specs.{Prelude.{Some, None, Result, Ok}, List.{fold, slice_get}}
use Rattle.cell_registry.specs.declared.{limits.{Limits.Limits, RunError.RunError}, call.{Entry.Entry, Call.{Call, TheVariants.Start}}}
use Rattle.cell_registry.specs.Cells.{Cells}
use Rattle.cell_registry.{specs.{Cells.{after, reply_of, refusal}, Histories.{MayFollow, left, IsLegal}}, proofs.Legal.left-push}
use Rattle.effect_term.specs.declared.reply.Reply.{Reply, TheVariants.{Done, Number}}
use Rattle.derived_ops.specs.Tree.{Tree}
use Rattle.fiber_frames.specs.{Fiber.{Fiber, begins, child, move}, Rows.number_in}
use Rattle.scheduled_core.specs.{declared.wish.Wish.TheVariants.{Shared, Alone, Nothing}, Core.{World, answered, born, entered, first_world, turned, wished}}
use Rattle.scheduled_core.{specs.{Stands.{Stands, wish}, Spending.{Spends, SpendsSome, spent}}, proofs.Spending.{going, no_birth, spends_join}}
use Rattle.scheduled_core.proofs.Standing.{Led.Later, Lists.{put_back, get_early, get_last, put_seam, get_seam, by_ends}, Histories.{legal-pop, next-after}}
use Rattle.scheduled_core.proofs.Standing.Places.{later-same, later-join, just_after, at_first, AllStand, stood, is_next, Made, Stayed, Came}
use Rattle.scheduled_core.proofs.Lists.{slice_get-set_same, slice_get-set_other}

-- how a schedule goes: on to a world, or to a fault
abbrev pub Course : Type 0
Course = Result World RunError

-- the entries of a schedule, from there on
abbrev pub run_from : Limits → Course → List ℕ → Course
run_from k x schedule = fold (entered k) x schedule

module _ (code : Tree) where
  abbrev at_world : World → ℕ → Fiber → World
  at_world w f g = record { fibers = set w.fibers f g; cells = w.cells }

  -- how many fibers a call makes
  pub grows : (s : Cells) (by : ℕ) (c : Call) (g : Fiber) (r : Reply) → (after s by c).next_fiber ≡ s.next_fiber + length (born g c r)
  unfolding after
  grows s by Start g r = refl
  grows s by _ g r = omega arith

  alone_step : (k : Limits) (w : World) (f : ℕ) (a : Fiber) → slice_get w.fibers f ≡ Some a → wish a ≡ Alone →
      entered k (Ok w) f ≡ Ok (at_world w f (move a Done))
  alone_step k w f a e q = ap (turned k w f) e ∙ ap (wished k w f a) q

  abbrev pub after_call : World → ℕ → Fiber → Call → World
  after_call w f a c = record { fibers = set w.fibers f (move a (reply_of w.cells f c)) ++ born a c (reply_of w.cells f c); cells = after w.cells f c }

  call_step : (k : Limits) (w : World) (f : ℕ) (a : Fiber) (c : Call) → slice_get w.fibers f ≡ Some a → wish a ≡ Shared c →
      refusal k w.cells f c ≡ None → entered k (Ok w) f ≡ Ok (after_call w f a c)
  call_step k w f a c e q r = ap (turned k w f) e ∙ ap (wished k w f a) q ∙ ap (answered w f a c) r

  -- silent moves of one fiber
  pub quiet : (n : ℕ) (k : Limits) (w : World) (lefts : List ℕ) (f : ℕ) (a g : Fiber) (left : ℕ) → slice_get w.fibers f ≡ Some a →
      slice_get lefts f ≡ Some (n + left) → Later n a g → Spends k w lefts (replicate n f) (at_world w f g) (set lefts f left)
  quiet zero k w lefts f a g left e c l =
      let same : set w.fibers f g ≡ w.fibers = put_back w.fibers f g (e ∙ ap Some l) in
      let all : slice_get lefts f ≡ Some left = c ∙ ap Some (let q : zero + left ≡ left = omega arith in q) in
      (ap (λ (xs : List Fiber). record { fibers = xs; cells = w.cells }) (sym same), sym (put_back lefts f left all))
  quiet (suc n) k w lefts f a g left e c l =
      let u = at_world w f (move a Done) in
      let some : slice_get lefts f ≡ Some (suc (n + left)) = c ∙ ap Some (let q : suc n + left ≡ suc (n + left) = omega arith in q) in
      let rest = quiet n k u (set lefts f (n + left)) f (move a Done) g left (slice_get-set_same w.fibers f a (move a Done) e)
      (slice_get-set_same lefts f (suc (n + left)) (n + left) some) l.1 in
      let to : at_world u f g ≡ at_world w f g = ap (λ (xs : List Fiber). record { fibers = xs; cells = w.cells }) (set-set w.fibers f (move a Done) g) in
      let last : set (set lefts f (n + left)) f left ≡ set lefts f left = set-set lefts f (n + left) left in
      let there : Spends k u (set lefts f (n + left)) (replicate n f) (at_world w f g) (set lefts f left) =
      subst (λ (v : World). Spends k u (set lefts f (n + left)) (replicate n f) v (set lefts f left)) to
      (subst (λ (d : List ℕ). Spends k u (set lefts f (n + left)) (replicate n f) (at_world u f g) d) last rest) in
      let none : spent lefts f (n + left) (length u.fibers - length w.fibers) ≡ set lefts f (n + left) =
      no_birth lefts f (n + left) (length u.fibers) (length w.fibers) (length-set w.fibers f (move a Done)) in (
        a,
        n + left,
        u,
        e,
        going a (λ h. let no : Alone ≡ Nothing = sym l.0 ∙ h in cc),
        some,
        alone_step k w f a e l.0,
        subst (λ (c : List ℕ). Spends k u c (replicate n f) (at_world w f g) (set lefts f left)) (sym none) there,
      )

  -- what is left to fiber f, from where silent moves lead to g
  abbrev pub Steps : List ℕ → List ℕ → ℕ → Fiber → Fiber → Type 0
  Steps ls rs f a g = (n : ℕ) × (left : ℕ) × (slice_get ls f ≡ Some (n + left)) × (slice_get rs f ≡ Some left) × Later n a g

  -- each fiber of a list makes its silent moves
  pub settled : (k : Limits) (cells : Cells) (pre xs gs : List Fiber) (lefts ls rs : List ℕ) → length lefts ≡ length pre → length xs ≡ length gs →
      length ls ≡ length xs → length rs ≡ length xs →
      ((f : ℕ) (a g : Fiber) → slice_get xs f ≡ Some a → slice_get gs f ≡ Some g → Steps ls rs f a g) →
      SpendsSome k record { fibers = pre ++ xs; cells = cells } (lefts ++ ls) record { fibers = pre ++ gs; cells = cells } (lefts ++ rs)
  settled k cells pre [] [] lefts [] [] even long many more each = ([], (refl, refl))
  settled k cells pre [] [] lefts [] (r ∷ rs) even long many more each = absurd (omega arith)
  settled k cells pre [] [] lefts (l ∷ ls) rs even long many more each = absurd (omega arith)
  settled k cells pre [] (g ∷ gs) lefts ls rs even long many more each = absurd (omega arith)
  settled k cells pre (a ∷ xs) [] lefts ls rs even long many more each = absurd (omega arith)
  settled k cells pre (a ∷ xs) (g ∷ gs) lefts [] rs even long many more each = absurd (omega arith)
  settled k cells pre (a ∷ xs) (g ∷ gs) lefts (l ∷ ls) [] even long many more each = absurd (omega arith)
  settled k cells pre (a ∷ xs) (g ∷ gs) lefts (l ∷ ls) (r ∷ rs) even long many more each =
      let i = each zero a g refl refl in
      let w : World = record { fibers = pre ++ a ∷ xs; cells = cells } in
      let has : slice_get (lefts ++ l ∷ ls) (length pre) ≡ Some (i.0 + r) =
      subst (λ n. slice_get (lefts ++ l ∷ ls) n ≡ Some l) even (get_seam lefts l ls) ∙
      i.2 ∙ ap (λ n. Some (i.0 + n)) (sym (same_Some r i.1 i.3)) in
      let one = quiet i.0 k w (lefts ++ l ∷ ls) (length pre) a g r (get_seam pre a xs) has i.4 in
      let next : World = record { fibers = (pre ++ g ∷ []) ++ xs; cells = cells } in
      let to : at_world w (length pre) g ≡ next =
      ap (λ (m : List Fiber). record { fibers = m; cells = cells }) (put_seam pre a g xs ∙ sym (append_assoc pre (g ∷ []) xs)) in
      let last : set (lefts ++ l ∷ ls) (length pre) r ≡ (lefts ++ r ∷ []) ++ ls =
      subst (λ n. set (lefts ++ l ∷ ls) n r ≡ lefts ++ r ∷ ls) even (put_seam lefts l r ls) ∙ sym (append_assoc lefts (r ∷ []) ls) in
      let here : Spends k w (lefts ++ l ∷ ls) (replicate i.0 (length pre)) next ((lefts ++ r ∷ []) ++ ls) =
      subst (λ (v : World). Spends k w (lefts ++ l ∷ ls) (replicate i.0 (length pre)) v ((lefts ++ r ∷ []) ++ ls)) to
      (subst (λ (d : List ℕ). Spends k w (lefts ++ l ∷ ls) (replicate i.0 (length pre)) (at_world w (length pre) g) d) last one) in
      let level : length (lefts ++ r ∷ []) ≡ length (pre ++ g ∷ []) =
      length-append lefts (r ∷ []) ∙ ap (λ n. n + 1) even ∙ sym (length-append pre (g ∷ [])) in
      let rest = settled k cells (pre ++ g ∷ []) xs gs (lefts ++ r ∷ []) ls rs level (omega arith) (omega arith) (omega arith) (λ f. each (suc f)) in
      let end : World = record { fibers = pre ++ g ∷ gs; cells = cells } in
      let on : Spends k next ((lefts ++ r ∷ []) ++ ls) rest.0 end (lefts ++ r ∷ rs) =
      subst (λ (v : World). Spends k next ((lefts ++ r ∷ []) ++ ls) rest.0 v (lefts ++ r ∷ rs))
      (ap (λ (m : List Fiber). record { fibers = m; cells = cells }) (append_assoc pre (g ∷ []) gs))
      (subst (λ (d : List ℕ). Spends k next ((lefts ++ r ∷ []) ++ ls) rest.0 record { fibers = (pre ++ g ∷ []) ++ gs; cells = cells } d)
      (append_assoc lefts (r ∷ []) rs) rest.1) in (
        replicate i.0 (length pre) ++ rest.0,
        spends_join k w next end (lefts ++ l ∷ ls) ((lefts ++ r ∷ []) ++ ls) (lefts ++ r ∷ rs)
            (replicate i.0 (length pre)) rest.0 here on,
      )

module _ (code : Tree) (most : ℕ) where
  -- silent moves lead from the fiber's state in this world to g, with so many moves to go
  abbrev pub Behind : World → List ℕ → ℕ → Fiber → ℕ → Type 0
  Behind w lefts f g left = (a : Fiber) × (n : ℕ) × (slice_get w.fibers f ≡ Some a) × (slice_get lefts f ≡ Some (n + left)) × Later n a g

  -- a schedule makes the calls of the history, and each fiber no move more than it has to
  pub record Runs (k : Limits) (h : List Entry) : Type 0 where
    pub schedule : List ℕ
    pub world : World
    pub lefts : List ℕ
    pub goes : Spends k (first_world code k) (most ∷ []) schedule world lefts
    pub cells_are : world.cells ≡ left k h
    pub many : length world.fibers ≡ (left k h).next_fiber
    pub each_left : length lefts ≡ length world.fibers
    pub behind : (f : ℕ) (g : Fiber) (n : ℕ) → Stands code most h f g n → Behind world lefts f g n

  opened : (k : Limits) → Runs k []
  unfolding left
  opened k = record {
    schedule = [];
    world = first_world code k;
    lefts = most ∷ [];
    goes = (refl, refl);
    cells_are = refl;
    many = refl;
    each_left = refl;
    behind = λ f g n s.
        let i = at_first code most [] f g n refl s in (
          begins 0 code,
          i.0,
          ap (slice_get (begins 0 code ∷ [])) i.1,
          ap (slice_get (most ∷ [])) i.1 ∙ ap Some (sym i.2),
          i.3,
        );
  }

  -- before its call the caller stood where it wants the call
  caller : (k : Limits) (h : List Entry) (e : Entry) → MayFollow k (left k h) e → AllStand code most k (h ++ e ∷ []) → (m : Fiber) × (p : ℕ) ×
      Stands code most h e.by m (suc p) × (wish m ≡ Shared e.call)
  caller k h e l all =
      let up = next-after (left k h) e.by e.call in
      let young = l.born in
      let more : e.by < (left k (h ++ e ∷ [])).next_fiber = subst (λ (s : Cells). e.by < s.next_fiber) (sym (left-push k h e)) (omega arith) in
      let s = all e.by more in
      let i = just_after code most (h ++ e ∷ []) h e e.by s.0 s.1 refl s.2 in
      elim i.2 [
        | Made m t by w q ↦ (m, i.1 + s.1, t, w)
        | Stayed t by ↦ absurd (by refl)
        | Came m t c r w q ↦ let n = is_next code most k h e e.by l c r in absurd (omega arith)
      ]

  module _ (k : Limits) (h : List Entry) (e : Entry) (l : MayFollow k (left k h) e) (run : Runs k h) (m : Fiber) (p : ℕ)
      (t : Stands code most h e.by m (suc p)) (w : wish m ≡ Shared e.call) where
    replied : reply_of run.world.cells e.by e.call ≡ e.reply
    replied = ap (λ (x : Cells). reply_of x e.by e.call) run.cells_are ∙ sym l.replied

    abbrev ready : World
    ready = record { fibers = set run.world.fibers e.by m; cells = run.world.cells }

    abbrev ready_lefts : List ℕ
    ready_lefts = set run.lefts e.by (suc p)

    abbrev next : World
    next = record {
      fibers = set ready.fibers e.by (move m e.reply) ++ born m e.call e.reply;
      cells = after run.world.cells e.by e.call;
    }

    abbrev next_lefts : List ℕ
    next_lefts = spent ready_lefts e.by p (length next.fibers - length ready.fibers)

    caller_at : Behind run.world run.lefts e.by m (suc p)
    caller_at = run.behind e.by m (suc p) t

    ready_at : slice_get ready.fibers e.by ≡ Some m
    ready_at = slice_get-set_same run.world.fibers e.by caller_at.0 m caller_at.2

    ready_left : slice_get ready_lefts e.by ≡ Some (suc p)
    ready_left = slice_get-set_same run.lefts e.by (caller_at.1 + suc p) (suc p) caller_at.3

    next_at : slice_get next.fibers e.by ≡ Some (move m e.reply)
    next_at = get_early (set ready.fibers e.by (move m e.reply)) (born m e.call e.reply) e.by (move m e.reply)
        (slice_get-set_same ready.fibers e.by m (move m e.reply) ready_at)

    next_left : slice_get next_lefts e.by ≡ Some p
    next_left = get_early (set ready_lefts e.by p) (replicate (length next.fibers - length ready.fibers) p) e.by p
        (slice_get-set_same ready_lefts e.by (suc p) p ready_left)

    one_entry : entered k (Ok ready) e.by ≡ Ok next
    one_entry =
        let free : refusal k run.world.cells e.by e.call ≡ None = subst (λ (x : Cells). refusal k x e.by e.call ≡ None) (sym run.cells_are) l.accepted.room in
        call_step code k ready e.by m e.call ready_at w free
        ∙ ap (λ (r : Reply). Ok record { fibers = set ready.fibers e.by (move m r) ++ born m e.call r; cells = after run.world.cells e.by e.call }) replied

    abbrev entries : List ℕ
    entries = replicate caller_at.1 e.by ++ e.by ∷ []

    one_spent : Spends k ready ready_lefts (e.by ∷ []) next next_lefts
    one_spent = (m, p, next, ready_at, going m (λ g. let no : Shared e.call ≡ Nothing = sym w ∙ g in cc), ready_left, one_entry, (refl, refl))

    goes_on : Spends k (first_world code k) (most ∷ []) (run.schedule ++ entries) next next_lefts
    goes_on = spends_join k (first_world code k) run.world next (most ∷ []) run.lefts next_lefts run.schedule entries run.goes
        (spends_join k run.world ready next run.lefts ready_lefts next_lefts (replicate caller_at.1 e.by) (e.by ∷ [])
        (quiet code caller_at.1 k run.world run.lefts e.by caller_at.0 m (suc p) caller_at.2 caller_at.3 caller_at.4) one_spent)

    -- another state where the caller wants a shared call is this one
    only : (x : Fiber) (c : Call) (r : ℕ) → Stands code most h e.by x (suc r) → wish x ≡ Shared c → (x ≡ m) × (r ≡ p)
    only x c r s q =
        let b = run.behind e.by x (suc r) s in
        let one : b.0 ≡ caller_at.0 = same_Some b.0 caller_at.0 (sym b.2 ∙ caller_at.2) in
        let same = later-same code b.1 caller_at.1 caller_at.0 x m c e.call (subst (λ (y : Fiber). Later b.1 y x) one b.4) caller_at.4 q w in
        let sums : b.1 + suc r ≡ caller_at.1 + suc p = same_Some (b.1 + suc r) (caller_at.1 + suc p) (sym b.3 ∙ caller_at.3) in
        (same.0, omega (arith, sums, same.1))

    long : length (set ready.fibers e.by (move m e.reply)) ≡ (left k h).next_fiber
    long = length-set ready.fibers e.by (move m e.reply) ∙ length-set run.world.fibers e.by m ∙ run.many

    long_left : length (set ready_lefts e.by p) ≡ length run.world.fibers
    long_left = length-set ready_lefts e.by p ∙ length-set run.lefts e.by (suc p) ∙ run.each_left

    still : (f : ℕ) (a : Fiber) → e.by ≢ f → slice_get run.world.fibers f ≡ Some a → slice_get next.fibers f ≡ Some a
    still f a apart q = get_early (set ready.fibers e.by (move m e.reply)) (born m e.call e.reply) f a
        (slice_get-set_other ready.fibers e.by f (move m e.reply) apart ∙ slice_get-set_other run.world.fibers e.by f m apart ∙ q)

    still_left : (f n : ℕ) → e.by ≢ f → slice_get run.lefts f ≡ Some n → slice_get next_lefts f ≡ Some n
    still_left f n apart q = get_early (set ready_lefts e.by p) (replicate (length next.fibers - length ready.fibers) p) f n
        (slice_get-set_other ready_lefts e.by f p apart ∙ slice_get-set_other run.lefts e.by f (suc p) apart ∙ q)

    births : length next.fibers - length ready.fibers ≡ length (born m e.call e.reply)
    births =
        let all = length-append (set ready.fibers e.by (move m e.reply)) (born m e.call e.reply) in
        let same = length-set ready.fibers e.by (move m e.reply) in
        omega (arith, all, same)

    child_made : (f : ℕ) → e.call ≡ Start → e.reply ≡ Number f → born m e.call e.reply ≡ child m f ∷ []
    child_made f c r = ap (λ (x : Call). born m x e.reply) c ∙ ap (λ (x : Reply). child m (number_in x) ∷ []) r

    child_at : (f : ℕ) → e.call ≡ Start → e.reply ≡ Number f → slice_get next.fibers f ≡ Some (child m f)
    child_at f c r =
        ap (λ (x : List Fiber). slice_get (set ready.fibers e.by (move m e.reply) ++ x) f) (child_made f c r)
        ∙ get_last (set ready.fibers e.by (move m e.reply)) f (child m f) (long ∙ is_next code most k h e f l c r)

    child_left : (f : ℕ) → e.call ≡ Start → e.reply ≡ Number f → slice_get next_lefts f ≡ Some p
    child_left f c r =
        let one : length next.fibers - length ready.fibers ≡ 1 = births ∙ ap length (child_made f c r) in
        ap (λ n. slice_get (set ready_lefts e.by p ++ replicate n p) f) one
        ∙ get_last (set ready_lefts e.by p) f p (long_left ∙ run.many ∙ is_next code most k h e f l c r)

    behind_next : (f : ℕ) (g : Fiber) (n : ℕ) → Stands code most (h ++ e ∷ []) f g n → Behind next next_lefts f g n
    behind_next f g n s =
        let i = just_after code most (h ++ e ∷ []) h e f g n refl s in
        elim i.2 [
          | Made x s by q is ↦
              let one = only x e.call (i.1 + n) (subst (λ (y : ℕ). Stands code most h y x (suc (i.1 + n))) (sym by) s) q in
              let at : slice_get next.fibers f ≡ Some (move m e.reply) = subst (λ (y : ℕ). slice_get next.fibers y ≡ Some (move m e.reply)) by next_at in
              let to : slice_get next_lefts f ≡ Some (i.1 + n) = subst (λ (y : ℕ). slice_get next_lefts y ≡ Some p) by next_left ∙ ap Some (sym one.1) in
              (move m e.reply, i.1, at, to, subst (λ (y : Fiber). Later i.1 y g) (is ∙ ap (λ (y : Fiber). move y e.reply) one.0) i.3)
          | Stayed s by ↦
              let b = run.behind f i.0 (i.1 + n) s in
              let sum : b.1 + (i.1 + n) ≡ (b.1 + i.1) + n = omega arith in
              (b.0, b.1 + i.1, still f b.0 by b.2, still_left f (b.1 + (i.1 + n)) by b.3 ∙ ap Some sum, later-join code b.1 i.1 b.0 i.0 g b.4 i.3)
          | Came x s c r q is ↦
              let one = only x Start (i.1 + n) s q in (
                child m f,
                i.1,
                child_at f c r,
                child_left f c r ∙ ap Some (sym one.1),
                subst (λ (y : Fiber). Later i.1 y g) (is ∙ ap (λ (y : Fiber). child y f) one.0) i.3,
              )
        ]

    pushed : Runs k (h ++ e ∷ [])
    pushed = record {
      schedule = run.schedule ++ entries;
      world = next;
      lefts = next_lefts;
      goes = goes_on;
      cells_are = ap (λ (x : Cells). after x e.by e.call) run.cells_are ∙ sym (left-push k h e);
      many = length-append (set ready.fibers e.by (move m e.reply)) (born m e.call e.reply)
          ∙ ap (λ (n : ℕ). n + length (born m e.call e.reply)) long
          ∙ sym (grows code (left k h) e.by e.call m e.reply)
          ∙ ap (λ (x : Cells). x.next_fiber) (sym (left-push k h e));
      each_left =
          let lefts = length-append (set ready_lefts e.by p) (replicate (length next.fibers - length ready.fibers) p) in
          let all = length-append (set ready.fibers e.by (move m e.reply)) (born m e.call e.reply) in
          let same = length-set ready.fibers e.by (move m e.reply) in
          let old = length-set run.world.fibers e.by m in
          let more = length-replicate (length next.fibers - length ready.fibers) p in
          omega (arith, lefts, all, same, old, more, long_left);
      behind = behind_next;
    }

  -- a legal history in which each born fiber stands somewhere is made by some schedule
  pub runs : (k : Limits) (h : List Entry) → IsLegal k h → AllStand code most k h → Runs k h
  runs k = by_ends (λ h. IsLegal k h → AllStand code most k h → Runs k h) (λ legal all. opened k) (λ h e earlier legal all.
      let l = legal-pop k h e legal in
      let run = earlier l.0 (stood code most k h e l.1 all) in
      let c = caller k h e l.1 all in
      pushed k h e l.1 run c.0 c.1 c.2 c.3)

  -- the states at the end are those of a schedule of moves, and so is what is left to each fiber
  pub some_schedules : (k : Limits) (h : List Entry) (finals : List Fiber) (lefts : List ℕ) → IsLegal k h → length finals ≡ (left k h).next_fiber →
      length lefts ≡ length finals
      → ((f : ℕ) (g : Fiber) → slice_get finals f ≡ Some g → (n : ℕ) × (slice_get lefts f ≡ Some n) × Stands code most h f g n)
      → SpendsSome k (first_world code k) (most ∷ []) record { fibers = finals; cells = left k h } lefts
  some_schedules k h finals lefts legal many even each =
      let all : AllStand code most k h = λ f low. let found = slice_get-get_or finals f (begins 0 code) (omega arith) in
      let i = each f (get_or finals f (begins 0 code)) found in
      (get_or finals f (begins 0 code), i.0, i.2) in
      let run = runs k h legal all in
      let s = settled code k run.world.cells [] run.world.fibers finals [] run.lefts lefts refl (run.many ∙ sym many) run.each_left
      (even ∙ many ∙ sym run.many) (λ f a g here there.
      let i = each f g there in
      let b = run.behind f g i.0 i.2 in
      let one : b.0 ≡ a = same_Some b.0 a (sym b.2 ∙ here) in
      (b.1, i.0, b.3, i.1, subst (λ (y : Fiber). Later b.1 y g) one b.4)) in
      let end : World = record { fibers = finals; cells = left k h } in
      let on : Spends k run.world run.lefts s.0 end lefts =
      subst (λ (x : Cells). Spends k run.world run.lefts s.0 record { fibers = finals; cells = x } lefts) run.cells_are s.1 in
      (run.schedule ++ s.0, spends_join k (first_world code k) run.world end (most ∷ []) run.lefts lefts run.schedule s.0 run.goes on)
