-- Where fibers can stand.
use Rattle.std.proofs.Common.{◌≡◌, ◌≢◌, ℕ, zero, suc, ◌+◌, ◌<◌, List, [], ◌∷◌, ◌++◌, refl, sym, ap, ◌∙◌, subst, arith}
use Rattle.cell_registry.specs.{declared.{limits.Limits.Limits, call.{Entry.Entry, Call.{Call, TheVariants.Start}}}, Cells.{Cells, reply_of}}
use Rattle.cell_registry.{specs.Histories.{MayFollow, left}, proofs.Legal.left-push}
use Rattle.effect_term.specs.declared.reply.Reply.TheVariants.{Done, Number}
use Rattle.derived_ops.specs.Tree.{Tree}
use Rattle.fiber_frames.specs.Fiber.{Fiber, begins, child, move}
use Rattle.scheduled_core.specs.{declared.wish.Wish.TheVariants.{Shared, Alone}, Stands.{Alone_on, Begins, Calls, Opens, Rests, Stands, wish}}
use Rattle.scheduled_core.proofs.Standing.{Led.Later, Lists.{end_left, end_right, end_none}, Histories.{next-after, number_start}}

module _ (code : Tree) where
  pub later-push : (n : ℕ) (a m g : Fiber) → Later n a m → wish m ≡ Alone → g ≡ move m Done → Later (suc n) a g
  later-push zero a m g l w e = (ap wish l ∙ w, ap (λ (x : Fiber). move x Done) l ∙ sym e)
  later-push (suc n) a m g l w e = (l.0, later-push n (move a Done) m g l.1 w e)

  pub later-join : (n p : ℕ) (a m g : Fiber) → Later n a m → Later p m g → Later (n + p) a g
  later-join zero p a m g l i = subst (λ q. Later q a g) (let e : p ≡ zero + p = omega arith in e) (subst (λ (x : Fiber). Later p x g) (sym l) i)
  later-join (suc n) p a m g l i =
      let more : Later (suc (n + p)) a g = (l.0, later-join n p (move a Done) m g l.1 i) in
      subst (λ q. Later q a g) (let e : suc (n + p) ≡ suc n + p = omega arith in e) more

  -- two states that want a shared call are one, behind as many moves
  pub later-same : (n p : ℕ) (a x y : Fiber) (c d : Call) → Later n a x → Later p a y → wish x ≡ Shared c → wish y ≡ Shared d → (x ≡ y) × (n ≡ p)
  later-same zero zero a x y c d l m u v = (sym l ∙ m, refl)
  later-same zero (suc p) a x y c d l m u v = let e : wish a ≡ wish x = ap wish l in let q = m.0 in absurd (cc)
  later-same (suc n) zero a x y c d l m u v = let e : wish a ≡ wish y = ap wish m in let q = l.0 in absurd (cc)
  later-same (suc n) (suc p) a x y c d l m u v = let s = later-same n p (move a Done) x y c d l.1 m.1 u v in (s.0, ap suc s.1)

module _ (code : Tree) (most : ℕ) where
  -- where a fiber stands just after an entry
  pub data Fresh (h : List Entry) (e : Entry) (f : ℕ) (a : Fiber) (left : ℕ) : Type 0 where
    Made : (m : Fiber) → Stands code most h f m (suc left) → e.by ≡ f → wish m ≡ Shared e.call → a ≡ move m e.reply → Fresh h e f a left
    Stayed : Stands code most h f a left → e.by ≢ f → Fresh h e f a left
    Came : (m : Fiber) → Stands code most h e.by m (suc left) → e.call ≡ Start → e.reply ≡ Number f → wish m ≡ Shared Start → a ≡ child m f →
        Fresh h e f a left

  -- no silent move lies behind it
  at_once : (h : List Entry) (e : Entry) (f : ℕ) (g : Fiber) (left : ℕ) → Fresh h e f g left → (a : Fiber) × (n : ℕ) × Fresh h e f a (n + left) × Later n a g
  at_once h e f g left fresh = (g, zero, subst (Fresh h e f g) (let q : left ≡ zero + left = omega arith in q) fresh, refl)

  pub just_after : (all h : List Entry) (e : Entry) (f : ℕ) (g : Fiber) (left : ℕ) → all ≡ h ++ e ∷ [] → Stands code most all f g left → (a : Fiber) × (n : ℕ) ×
      Fresh h e f a (n + left) × Later n a g
  just_after all h e f g left is (Opens _ _ _ _ none zeroth opens full) = absurd (end_none h e (sym is ∙ none))
  just_after all h e f g left is (Alone_on _ _ _ _ m s w q) =
      let i = just_after all h e f m (suc left) is s in
      (i.0, suc i.1, subst (Fresh h e f i.0) (let n : i.1 + suc left ≡ suc i.1 + left = omega arith in n) i.2, later-push code i.1 i.0 m g i.3 w q)
  just_after all h e f g left is (Calls _ _ _ _ b d m s was by w q) =
      let same : b ≡ h = end_left b h d e (sym was ∙ is) in
      let one : d ≡ e = end_right b h d e (sym was ∙ is) in
      at_once h e f g left (Made m (subst (λ (x : List Entry). Stands code most x f m (suc left)) same s) (cc) (w ∙ ap (λ (x : Entry). Shared x.call) one)
      (q ∙ ap (λ (x : Entry). move m x.reply) one))
  just_after all h e f g left is (Rests _ _ _ _ b d s was by) =
      let same : b ≡ h = end_left b h d e (sym was ∙ is) in
      let one : d ≡ e = end_right b h d e (sym was ∙ is) in
      at_once h e f g left (Stayed (subst (λ (x : List Entry). Stands code most x f g left) same s) (λ (x : e.by ≡ f). by (ap (λ (y : Entry). y.by) one ∙ x)))
  just_after all h e f g left is (Begins _ _ _ _ b d m s was c r w q) =
      let same : b ≡ h = end_left b h d e (sym was ∙ is) in
      let one : d ≡ e = end_right b h d e (sym was ∙ is) in
      let here : Stands code most b e.by m (suc left) = subst (λ (x : Entry). Stands code most b x.by m (suc left)) one s in
      at_once h e f g left (Came m (subst (λ (x : List Entry). Stands code most x e.by m (suc left)) same here) (sym (ap (λ (x : Entry). x.call) one) ∙ c)
      (sym (ap (λ (x : Entry). x.reply) one) ∙ r) w q)

  pub at_first : (h : List Entry) (f : ℕ) (g : Fiber) (left : ℕ) → h ≡ [] → Stands code most h f g left → (n : ℕ) × (f ≡ 0) × (n + left ≡ most) ×
      Later n (begins 0 code) g
  at_first h f g left is (Opens _ _ _ _ none zeroth opens full) = (0, zeroth, (let n : zero + left ≡ most = omega (arith, full) in n), sym opens)
  at_first h f g left is (Alone_on _ _ _ _ m s w q) =
      let i = at_first h f m (suc left) is s in
      (suc i.0, i.1, (let n : suc i.0 + left ≡ most = omega (arith, i.2) in n), later-push code i.0 (begins 0 code) m g i.3 w q)
  at_first h f g left is (Calls _ _ _ _ b d m s was by w q) = absurd (end_none b d (sym was ∙ is))
  at_first h f g left is (Rests _ _ _ _ b d s was by) = absurd (end_none b d (sym was ∙ is))
  at_first h f g left is (Begins _ _ _ _ b d m s was c r w q) = absurd (end_none b d (sym was ∙ is))

  -- each born fiber stands somewhere
  abbrev pub AllStand : Limits → List Entry → Type 0
  AllStand k h = (f : ℕ) → f < (left k h).next_fiber → (g : Fiber) × (n : ℕ) × Stands code most h f g n

  -- a start gives the next number
  pub is_next : (k : Limits) (h : List Entry) (e : Entry) (f : ℕ) → MayFollow k (left k h) e → e.call ≡ Start → e.reply ≡ Number f → (left k h).next_fiber ≡ f
  is_next k h e f l c r =
      let a : e.reply ≡ reply_of (left k h) e.by Start = l.replied ∙ ap (reply_of (left k h) e.by) c in
      let b = number_start (left k h) e.by in
      let q : Number (left k h).next_fiber ≡ Number f = sym b ∙ sym a ∙ r in
      cc

  pub stood : (k : Limits) (h : List Entry) (e : Entry) → MayFollow k (left k h) e → AllStand k (h ++ e ∷ []) → AllStand k h
  stood k h e l all f low =
      let up = next-after (left k h) e.by e.call in
      let more : f < (left k (h ++ e ∷ [])).next_fiber = subst (λ (s : Cells). f < s.next_fiber) (sym (left-push k h e)) (omega arith) in
      let s = all f more in
      let i = just_after (h ++ e ∷ []) h e f s.0 s.1 refl s.2 in
      elim i.2 [
        | Made m t by w q ↦ (m, suc (i.1 + s.1), t)
        | Stayed t by ↦ (i.0, i.1 + s.1, t)
        | Came m t c r w q ↦ let n = is_next k h e f l c r in absurd (omega arith)
      ]
