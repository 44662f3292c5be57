-- Where a fiber stands after a turn.
use Rattle.std.proofs.Common.{◌≡◌, ℕ, zero, suc, ◌+◌, arith, Bool, List, [], ◌∷◌, ◌++◌, refl, sym, ap, ◌∙◌, subst, append_assoc, append-nil, eqb, eq-eqb}
use Rattle.std.{proofs.{Common.ne_eqb, lemmas.List.{append_cancel_left, Elements.filter-append}}, specs.Prelude.cond}
use mathlib.Core.{List.IsPrefix, Logic.dite}
use native.Mathlib.Decide.{ℕ_discrete}
use Rattle.cell_registry.specs.{declared.call.{Entry.Entry, Call.TheVariants.Start}, Histories.calls_by}
use Rattle.effect_term.specs.declared.reply.Reply.TheVariants.{Done, Number}
use Rattle.derived_ops.specs.Tree.{Tree}
use Rattle.fiber_frames.specs.Fiber.{Fiber, move}
use Rattle.scheduled_core.{specs.Stands.{Alone_on, Begins, Calls, Rests, Stands}, proofs.Standing.{Led.{Bore, Later, Led, Reaches}, Places.later-join}}

module _ (code : Tree) where
  pub later-reaches : (n p : ℕ) (a m b : Fiber) (es : List Entry) → Later n a m → Reaches p m es b → Reaches (n + p) a es b
  later-reaches n p a m b [] l r = later-join code n p a m b l r
  later-reaches n p a m b (e ∷ es) l r =
      (n + r.0, r.1, r.2, later-join code n r.0 a m r.2 l r.3, r.4, r.5, omega (arith, r.6))

  -- a pass that has seen more, where its fiber made no call
  pub went-looked : (f : ℕ) (seen now more : List Entry) (a b : Fiber) (n : ℕ) → Led f seen a now b n → IsPrefix now more →
      calls_by f more ≡ calls_by f now → Led f seen a more b n
  went-looked f seen now more a b n g p own = record {
    gained = g.gained;
    seen_more = (g.seen_more.0 ++ p.0, sym (append_assoc seen g.seen_more.0 p.0) ∙ ap (λ (x : List Entry). x ++ p.0) g.seen_more.1 ∙ p.1);
    own = own ∙ g.own;
    reaches = g.reaches;
  }

module _ (code : Tree) (most : ℕ) where
  stands-later : (n : ℕ) (h : List Entry) (f : ℕ) (a b : Fiber) (left : ℕ) → Stands code most h f a (n + left) → Later n a b → Stands code most h f b left
  stands-later zero h f a b left s l = subst (λ (x : Fiber). Stands code most h f x left) l
      (subst (Stands code most h f a) (let e : zero + left ≡ left = omega arith in e) s)
  stands-later (suc n) h f a b left s l =
      let more : Stands code most h f a (suc (n + left)) = subst (Stands code most h f a) (let e : suc n + left ≡ suc (n + left) = omega arith in e) s in
      stands-later n h f (move a Done) b left (Alone_on h f (move a Done) (n + left) a more l.0 refl) l.1

  -- the rest of a history, in which the fiber makes these calls
  stands-more : (h rest : List Entry) (f : ℕ) (a b : Fiber) (n left : ℕ) → Stands code most h f a (n + left) → Reaches n a (calls_by f rest) b →
      Stands code most (h ++ rest) f b left
  stands-more h [] f a b n left s r = subst (λ (x : List Entry). Stands code most x f b left) (sym (append-nil h)) (stands-later n h f a b left s r)
  stands-more h (e ∷ rest) f a b n left s r = subst (λ (x : List Entry). Stands code most x f b left) (append_assoc h (e ∷ []) rest)
      (dite (ℕ_discrete e.by f)
      (λ is.
      let calls : calls_by f (e ∷ rest) ≡ e ∷ calls_by f rest = ap (λ (t : Bool). cond t (e ∷ calls_by f rest) (calls_by f rest)) (eq-eqb e.by f is) in
      let go = subst (λ (x : List Entry). Reaches n a x b) calls r in
      let many : n + left ≡ go.0 + suc (go.1 + left) = omega (arith, go.6) in
      let here = stands-later go.0 h f a go.2 (suc (go.1 + left)) (subst (Stands code most h f a) many s) go.3 in
      stands-more (h ++ e ∷ []) rest f (move go.2 e.reply) b go.1 left
      (Calls (h ++ e ∷ []) f (move go.2 e.reply) (go.1 + left) h e go.2 here refl is go.4 refl) go.5)
      (λ isnt.
      let calls : calls_by f (e ∷ rest) ≡ calls_by f rest = ap (λ (t : Bool). cond t (e ∷ calls_by f rest) (calls_by f rest)) (ne_eqb e.by f isnt) in
      stands-more (h ++ e ∷ []) rest f a b n left (Rests (h ++ e ∷ []) f a (n + left) h e s refl isnt)
      (subst (λ (x : List Entry). Reaches n a x b) calls r)))

  -- after a turn
  pub stands-went : (f : ℕ) (seen now : List Entry) (a b : Fiber) (n left : ℕ) → Led f seen a now b n → Stands code most seen f a (n + left) →
      Stands code most now f b left
  stands-went f seen now a b n left g s =
      let rest = g.seen_more.0 in
      let own : calls_by f seen ++ calls_by f rest ≡ calls_by f seen ++ g.gained = sym (filter-append (λ (x : Entry). eqb x.by f) seen rest) ∙
      ap (calls_by f) g.seen_more.1 ∙ g.own in
      let same : calls_by f rest ≡ g.gained = append_cancel_left (calls_by f seen) (calls_by f rest) g.gained own in
      subst (λ (x : List Entry). Stands code most x f b left) g.seen_more.1
      (stands-more seen rest f a b n left s (subst (λ (x : List Entry). Reaches n a x b) (sym same) g.reaches))

  -- the child of a start, to which as many moves are left as to its parent behind that
  pub stands-bore : (f : ℕ) (seen now : List Entry) (a : Fiber) (n : ℕ) (c : Fiber) (made left : ℕ) → Bore f seen a now n c made →
      Stands code most seen f a (made + suc left) → Stands code most now n c left
  stands-bore f seen now a n c made left b s =
      Begins now n c left b.before record { by = f; call = Start; reply = Number n } b.parent
      (stands-went f seen b.before a b.parent made (suc left) b.went s) b.last
      refl refl b.wants b.is_child

  -- a pass that has seen more, where its fiber made no more calls
  pub stands-longer : (f : ℕ) (seen now : List Entry) (a : Fiber) (left : ℕ) → IsPrefix seen now → calls_by f now ≡ calls_by f seen →
      Stands code most seen f a left → Stands code most now f a left
  stands-longer f seen now a left p own s =
      stands-went f seen now a a zero left record { gained = []; seen_more = p; own = own ∙ sym (append-nil (calls_by f seen)); reaches = refl }
      (subst (Stands code most seen f a) (let e : left ≡ zero + left = omega arith in e) s)
