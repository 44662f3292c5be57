-- Answers that are added.
use Rattle.std.proofs.Common.{◌≡◌, ◌≢◌, ℕ, ◌+◌, ◌<◌, false, List, [], ◌∷◌, length, Some, Result, Ok, Err, refl, sym, ap, ◌∙◌, subst, arith, inl, inr}
use Rattle.std.{proofs.{Common.length-append, lemmas.{Bool.cases_lt, Option.slice_get_within}}, specs.List.slice_get}
use mathlib.Core.Logic.{◌⊎◌}
use Rattle.world_search.specs.{declared.{answers.Answer.Answer, graphs.{Node.Node, Noted.Noted}, landings.Landing.Landing}, Answers.{AreApart, TellOnce, Tells}}
use Rattle.world_search.specs.{Answers.IsAnswered, Lists.IsMore, Private.Listed.{Adds, AddsFaults, AreListed, HaveNoFault, IsWorldListed, IsFaultListed}}
use Rattle.world_search.{specs.Private.{Listed.IsNamed, Shapes.{AreNotedOnce, Shape}}, proofs.Lists.{more_back, more_in, get_last, get_end}}
use Rattle.world_search.specs.declared.landings.Landing.TheVariants as to

pub adds_more : (nodes : List Node) (last : Node) (end : Landing) (old new : List Answer) → Adds nodes last end old new → IsMore old new
adds_more nodes last end old new h = record { more = h.answer ∷ []; is = sym h.is }

pub adds_named : (nodes : List Node) (last : Node) (end : Landing) (old new : List Answer) → Adds nodes last end old new → IsNamed new end
adds_named nodes last end old new h =
    (h.answer, (length old, subst (λ (l : List Answer). slice_get l (length old) ≡ Some h.answer) (sym h.is) (get_last old h.answer)), h.ends)

pub named_more : (old new : List Answer) (end : Landing) → IsMore old new → IsNamed old end → IsNamed new end
named_more old new end m h = (h.0, more_in old new h.0 m h.1, h.2)

adds_listed : (s : Shape) (old new : List Answer) (last : Node) (end : Landing) (h : Adds s.nodes last end old new) → AreListed s old →
    (IsWorldListed s h.answer ⊎ IsFaultListed s h.answer) → AreListed s new
adds_listed s old new last end h listed one k a at =
    elim (get_end old h.answer a k (subst (λ (l : List Answer). slice_get l k ≡ Some a) h.is at)) [
      | inl before ↦ listed k a before
      | inr here ↦ subst (λ (x : Answer). IsWorldListed s x ⊎ IsFaultListed s x) here.1 one
    ]

pub adds_world : (s : Shape) (old new : List Answer) (j : ℕ) (last : Node) → AreListed s old → Adds s.nodes last (to.World j) old new →
    slice_get s.nodes j ≡ Some last → slice_get s.unsettled j ≡ Some false → AreListed s new
adds_world s old new j last listed h at flag =
    adds_listed s old new last (to.World j) h listed (inl (record { number = j; node = last; at = at; settled = flag; end = h.ends; path = h.path }))

pub adds_fault : (s : Shape) (old new : List Answer) (k : ℕ) (n : Noted) → AreListed s old → Adds s.nodes n.node (to.Fault n.fault) old new →
    slice_get s.noted k ≡ Some n → AreListed s new
adds_fault s old new k n listed h at =
    adds_listed s old new n.node (to.Fault n.fault) h listed (inr (record { number = k; noted = n; at = at; end = h.ends; path = h.path }))

-- each world that an answer names has a node
pub listed_within : (s : Shape) (answers : List Answer) → AreListed s answers → (k : ℕ) (a : Answer) (j : ℕ) → slice_get answers k ≡ Some a →
    a.end ≡ to.World j → j < length s.nodes
listed_within s answers listed k a j at is = elim (listed k a at) [
  | inl h ↦
      let same : to.World h.number ≡ to.World j = sym h.end ∙ is in
      let low = slice_get_within s.nodes h.number h.node h.at in
      let number : h.number ≡ j = cc in
      omega arith
  | inr h ↦ let apart : to.Fault h.noted.fault ≡ to.World j = sym h.end ∙ is in absurd (cc)
]

-- ---- listed once
-- an answer is added whose end no earlier answer has
pub adds_once : {W R : Type 0} (report : W → R) (ws : List W) (nodes : List Node) (last : Node) (end : Landing) (old new : List Answer) →
    Adds nodes last end old new → TellOnce report ws old → ((k : ℕ) (a : Answer) → slice_get old k ≡ Some a → AreApart report ws a.end end) →
    TellOnce report ws new
adds_once report ws nodes last end old new h once apart i j a b less ati atj =
    elim (get_end old h.answer a i (subst (λ (l : List Answer). slice_get l i ≡ Some a) h.is ati)) [
      | inl before ↦ elim (get_end old h.answer b j (subst (λ (l : List Answer). slice_get l j ≡ Some b) h.is atj)) [
        | inl both ↦ once i j a b less before both
        | inr here ↦ subst (λ (l : Landing). AreApart report ws a.end l) (sym h.ends ∙ ap (λ (x : Answer). x.end) here.1) (apart i a before)
      ]
      | inr here ↦
          let low = slice_get_within new j b atj in
          let long : length new ≡ length old + 1 = ap (λ (l : List Answer). length l) h.is ∙ length-append old (h.answer ∷ []) in
          let at = here.0 in
          absurd (omega arith)
    ]

-- a world is added
pub adds_faultless : (nodes : List Node) (last : Node) (j : ℕ) (old new : List Answer) → Adds nodes last (to.World j) old new → HaveNoFault old →
    HaveNoFault new
adds_faultless nodes last j old new h none k a n at =
    elim (get_end old h.answer a k (subst (λ (l : List Answer). slice_get l k ≡ Some a) h.is at)) [
      | inl before ↦ none k a n before
      | inr here ↦ λ is. let no : to.World j ≡ to.Fault n = sym h.ends ∙ ap (λ (x : Answer). x.end) here.1 ∙ is in cc
    ]

-- each fault that the answers name is one of the first n that are noted
abbrev pub NamesNoted : List Noted → ℕ → List Answer → Type 0
NamesNoted noted n answers =
    (k j : ℕ) (a : Answer) → slice_get answers k ≡ Some a → a.end ≡ to.Fault j → (i : ℕ) × (m : Noted) × (i < n) × (slice_get noted i ≡ Some m) × (m.fault ≡ j)

pub none_noted : (noted : List Noted) (answers : List Answer) → HaveNoFault answers → NamesNoted noted 0 answers
none_noted noted answers none k j a at is = absurd (none k a j at is)

pub no_faults : (answers : List Answer) → HaveNoFault answers → AddsFaults answers answers
no_faults answers none = record {
  each = λ k a high at. let low = slice_get_within answers k a at in absurd (omega arith);
  once = λ i j m n a b less ati atj isa isb. absurd (none i a m ati isa);
}

fault_is : (m n : ℕ) → to.Fault m ≡ to.Fault n → m ≡ n
fault_is m n e = cc

module _ (nodes : List Node) (f : Noted) (n : ℕ) (noted : List Noted) where
  pub adds_noted : (old new : List Answer) → Adds nodes f.node (to.Fault f.fault) old new → slice_get noted n ≡ Some f → NamesNoted noted n old →
      NamesNoted noted (n + 1) new
  adds_noted old new h here from k j a at is =
      elim (get_end old h.answer a k (subst (λ (l : List Answer). slice_get l k ≡ Some a) h.is at)) [
        | inl before ↦ let x = from k j a before is in let low = x.2 in (x.0, x.1, omega arith, x.3, x.4)
        | inr last ↦ (n, f, omega arith, here, fault_is f.fault j (sym h.ends ∙ ap (λ (x : Answer). x.end) last.1 ∙ is))
      ]

  pub adds_faults : (first old new : List Answer) → Adds nodes f.node (to.Fault f.fault) old new → AreNotedOnce noted → slice_get noted n ≡ Some f →
      NamesNoted noted n old → AddsFaults first old → AddsFaults first new
  adds_faults first old new h single here from known = record {
    each = λ k a high at. elim (get_end old h.answer a k (subst (λ (l : List Answer). slice_get l k ≡ Some a) h.is at)) [
      | inl before ↦ known.each k a high before
      | inr last ↦ (f.fault, sym (ap (λ (x : Answer). x.end) last.1) ∙ h.ends)
    ];
    once = λ i j m l a b less ati atj isa isb.
        elim (get_end old h.answer a i (subst (λ (l : List Answer). slice_get l i ≡ Some a) h.is ati)) [
          | inl before ↦ elim (get_end old h.answer b j (subst (λ (l : List Answer). slice_get l j ≡ Some b) h.is atj)) [
            | inl both ↦ known.once i j m l a b less before both isa isb
            | inr last ↦
                let x = from i m a before isa in
                let its : f.fault ≡ l = fault_is f.fault l (sym h.ends ∙ ap (λ (x : Answer). x.end) last.1 ∙ isb) in
                λ same. single x.0 n x.1 f x.2 x.3 here (x.4 ∙ same ∙ sym its)
          ]
          | inr last ↦
              let low = slice_get_within new j b atj in
              let long : length new ≡ length old + 1 = ap (λ (l : List Answer). length l) h.is ∙ length-append old (h.answer ∷ []) in
              let at = last.0 in
              absurd (omega arith)
        ];
  }

fault_apart : {W R : Type 0} (report : W → R) (ws : List W) (l : Landing) (n : ℕ) → ((m : ℕ) → l ≡ to.Fault m → m ≢ n) →
    AreApart report ws l (to.Fault n)
fault_apart report ws (to.World m) n h = tt
fault_apart report ws (to.Fault m) n h = h m refl

-- worlds that are listed once, and after them faults that are listed once
pub faults_once : {W R : Type 0} (report : W → R) (ws : List W) (old new : List Answer) → TellOnce report ws old → HaveNoFault old → IsMore old new →
    AddsFaults old new → TellOnce report ws new
faults_once report ws old new once none more adds i j a b less ati atj =
    elim (cases_lt j (length old)) [
      | inl low ↦ once i j a b less (more_back old new i a more (omega arith) ati) (more_back old new j b more low atj)
      | inr high ↦
          let y = adds.each j b high atj in
          subst (λ (l : Landing). AreApart report ws a.end l) (sym y.1)
          (fault_apart report ws a.end y.0 (λ m is. adds.once i j m y.0 a b less ati atj is y.1))
    ]

module _ {W E R : Type 0} (step : W → ℕ → Result W E) (report : W → R) (ws : List W) (es : List E) where
  pub answered_more : (old new : List Answer) (y : Result W E) → IsMore old new → IsAnswered step report ws es old y → IsAnswered step report ws es new y
  answered_more old new y m h = (h.0, more_in old new h.0 m h.1, h.2)

  -- an answer that names a world has the report of this world
  pub named_answered : (answers : List Answer) (j : ℕ) (w : W) → IsNamed answers (to.World j) → slice_get ws j ≡ Some w →
      IsAnswered step report ws es answers (Ok w)
  named_answered answers j w h at =
      (h.0, h.1, subst (λ (l : Landing). Tells step report ws es l (Ok w)) (sym h.2) (w, at, refl))

  pub named_fault : (answers : List Answer) (j : ℕ) (e : E) → IsNamed answers (to.Fault j) → slice_get es j ≡ Some e →
      IsAnswered step report ws es answers (Err e)
  named_fault answers j e h at =
      (h.0, h.1, subst (λ (l : Landing). Tells step report ws es l (Err e)) (sym h.2) at)
