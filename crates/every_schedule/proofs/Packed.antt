-- Rows of numbers, as one more row is added.
use Rattle.std.proofs.Common.{◌≡◌, ℕ, suc, ◌+◌, ◌-◌, ◌≤◌, List, [], ◌∷◌, ◌++◌, length, map, take, drop, inl, inr, refl, sym, ap, ◌∙◌, subst, arith}
use Rattle.std.{proofs.lemmas.List.{drop-append-le, drop_at, length-drop, take-append-le, take_all}, specs.Prelude.{Result, Ok, Err, OnErr}}
use Rattle.world_search.proofs.Lists.{get_end}
use Rattle.every_schedule.{specs.{declared.rows.Head.Head, Private.{Numbered.Numbers, Packed.{AreWithin, IsWithin, row_of}}}, proofs.Numbered.map_append}

part_more : (ns more : List ℕ) (a b : ℕ) → a ≤ b → b ≤ length ns → take (b - a) (drop a (ns ++ more)) ≡ take (b - a) (drop a ns)
part_more ns more a b up low =
    ap (take (b - a)) (drop-append-le a ns more (omega arith)) ∙
    take-append-le (b - a) (drop a ns) more (let long = length-drop a ns in omega arith)

part_last : (ns fs : List ℕ) (a b : ℕ) → a ≡ length ns → b ≡ length ns + length fs → take (b - a) (drop a (ns ++ fs)) ≡ fs
part_last ns fs a b begin end =
    ap (take (b - a)) (drop_at ns fs a (sym begin)) ∙ take_all (b - a) fs (omega arith)

-- rows stay the same as numbers are added
pub rows_more : (ns more : List ℕ) (hs : List Head) → AreWithin (length ns) hs → map (row_of (ns ++ more)) hs ≡ map (row_of ns) hs
rows_more ns more [] w = refl
rows_more ns more (h ∷ hs) w =
    let it = w 0 h refl in
    ap (λ (l : List ℕ). record { registry = h.registry; fibers = l } ∷ map (row_of (ns ++ more)) hs)
    (part_more ns more h.begin h.end it.begins it.ends) ∙
    ap (λ (l : List Numbers). row_of ns h ∷ l) (rows_more ns more hs (λ i x e. w (suc i) x e))

pub within_more : (m n : ℕ) (hs : List Head) → m ≤ n → AreWithin m hs → AreWithin n hs
within_more m n hs up w = λ i h e. let it = w i h e in record { begins = it.begins; ends = let ends = it.ends in omega arith }

pub within_added : (n : ℕ) (hs : List Head) (h : Head) → AreWithin n hs → IsWithin n h → AreWithin n (hs ++ h ∷ [])
within_added n hs h w it = λ i x e. elim (get_end hs h x i e) [
  | inl early ↦ w i x early
  | inr last ↦ subst (IsWithin n) last.1 it
]

-- a row is added
pub rows_with : (ns fs : List ℕ) (hs : List Head) (h : Head) → h.begin ≡ length ns → h.end ≡ length ns + length fs → AreWithin (length ns) hs →
    map (row_of (ns ++ fs)) (hs ++ h ∷ []) ≡ map (row_of ns) hs ++ record { registry = h.registry; fibers = fs } ∷ []
rows_with ns fs hs h begin end w =
    map_append (row_of (ns ++ fs)) hs (h ∷ []) ∙
    ap (λ (l : List Numbers). l ++ row_of (ns ++ fs) h ∷ []) (rows_more ns fs hs w) ∙
    ap (λ (l : List ℕ). map (row_of ns) hs ++ record { registry = h.registry; fibers = l } ∷ []) (part_last ns fs h.begin h.end begin end)

-- the row of these numbers
pub gone : (r : ℕ) (fs : List ℕ) (n : Numbers) → r ≡ n.registry → fs ≡ n.fibers → n ≡ record { registry = r; fibers = fs }
gone r fs n same are =
    sym (ap (λ (i : ℕ). let m : Numbers = record { registry = i; fibers = fs } in m) same ∙
    ap (λ (l : List ℕ). let m : Numbers = record { registry = n.registry; fibers = l } in m) are)

-- what holds in any case holds after an error
pub on_err : {T E : Type 0} (r : Result T E) (P : Type 0) → P → OnErr r P
on_err (Ok x) P p = tt
on_err (Err e) P p = p
