-- A registry within its limits stays so without the counts of changes.
use Rattle.cell_registry.proofs.Prelude.{◌≡◌, ◌<◌, ℕ, zero, suc, List, [], ◌∷◌, ◌++◌, arith, drop, get_or, length, map, take, set, sym, ap, ◌∙◌, subst}
use Rattle.cell_registry.proofs.Prelude.{length-map, Limits, Cell, Cells, IsCell, IsSound, cell_of, fresh, uncounted, without_counts, IsPlain, PlainView}
use Rattle.std.proofs.Math.ListN as lists

uncounted_cell : (s : Cells) (f : ℕ) → cell_of (without_counts s) f ≡ uncounted (cell_of s f)
uncounted_cell s f = lists.get_or-map uncounted s.cells f fresh

cell_within : (k : Limits) (c : Cell) → IsCell k c → IsCell k (uncounted c)
cell_within k c h = record { count = omega arith; depth = h.depth; stage = h.stage }

sound_uncounted : (k : Limits) (s : Cells) → IsSound k s → IsSound k (without_counts s)
sound_uncounted k s h = record {
  fibers = length-map s.cells uncounted ∙ h.fibers;
  refs = h.refs;
  deferreds = h.deferreds;
  some_fiber = h.some_fiber;
  next_fiber = h.next_fiber;
  next_ref = h.next_ref;
  next_deferred = h.next_deferred;
  each_cell = λ f. subst (IsCell k) (sym (uncounted_cell s f)) (cell_within k (cell_of s f) (h.each_cell f));
  each_ref = h.each_ref;
  each_deferred = h.each_deferred;
}

plain_without : (r : PlainView) → IsPlain r → IsPlain (record r { state = without_counts r.state })
plain_without r h = record { limits = h.limits; sound = sound_uncounted r.limits r.state h.sound }

pub plain_uncounted : (r : PlainView) (cs : List Cell) → IsPlain r → cs ≡ map uncounted r.state.cells →
    IsPlain (record r { state = record r.state { cells = cs } })
plain_uncounted r cs h e = subst (λ (l : List Cell). IsPlain (record r { state = record r.state { cells = l } })) (sym e) (plain_without r h)

-- one more of some cells
pub uncount_next : (cs : List Cell) (i : ℕ) (y d : Cell) → i < length cs → y ≡ uncounted (get_or (map uncounted (take i cs) ++ drop i cs) i d) →
    set (map uncounted (take i cs) ++ drop i cs) i y ≡ map uncounted (take (suc i) cs) ++ drop (suc i) cs
uncount_next [] i y d low e = absurd (omega arith)
uncount_next (c ∷ cs) zero y d low e = ap (λ (x : Cell). x ∷ cs) e
uncount_next (c ∷ cs) (suc i) y d low e = ap (λ (l : List Cell). uncounted c ∷ l) (uncount_next cs i y d (omega arith) e)
