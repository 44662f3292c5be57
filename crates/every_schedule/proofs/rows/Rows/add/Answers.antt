use Rattle.std.proofs.{Common.{◌≡◌, [], ◌∷◌, ◌++◌, length, length-append, map, sym, ap, ap₂, ◌∙◌, subst, arith}, lemmas.Grind.common_steps}
use Rattle.std.specs.Prelude.{List, ℕ}
use Rattle.every_schedule.{specs.{declared.rows.Head.Head, Private.Packed.{AreWithin, Packed, row_of}}, proofs.Packed.{on_err, rows_more, rows_with}}
use Rattle.every_schedule.proofs.Packed.{within_added, within_more}
use Rattle.every_schedule.proofs.rows.Rows.add.Goals as goal

pub returns-in_err-push-clause-kept : goal.returns-in_err-push-clause-kept
returns-in_err-push-clause-kept c =
    let s = c.self.inside in
    let ns = s.numbers.items in
    let fs = c.args.fibers.now in
    let numbers : c.extend_from_slice.new.self.items ≡ ns ++ fs = grind (arith, common_steps) in
    let heads : c.push.new.self.items ≡ s.heads.items = grind (arith, common_steps) in
    on_err c.from_residual-in_err-push.result _
    (ap₂ (λ (l : List ℕ) (hs : List Head). map (row_of l) hs) numbers heads ∙ rows_more ns fs s.heads.items c.self.invariant ∙
    ap (λ (x : Packed). x.rows) c.self.view_is)

pub invariant_of-self-2 : goal.invariant_of-self-2
invariant_of-self-2 c =
    let s = c.self.inside in
    let ns = s.numbers.items in
    let fs = c.args.fibers.now in
    let h : Head = record { registry = c.args.registry; begin = c.len-begin.result; end = c.saturating_add-end.result } in
    let numbers : c.extend_from_slice.new.self.items ≡ ns ++ fs = grind (arith, common_steps) in
    let heads : c.push.new.self.items ≡ s.heads.items ++ h ∷ [] = grind (arith, common_steps) in
    let long = length-append ns fs in
    let within = within_added (length (ns ++ fs)) s.heads.items h
    (within_more (length ns) (length (ns ++ fs)) s.heads.items (omega arith) c.self.invariant)
    record { begins = omega arith; ends = omega arith } in
    subst (λ (l : List ℕ). AreWithin (length l) c.push.new.self.items) (sym numbers)
    (subst (λ (hs : List Head). AreWithin (length (ns ++ fs)) hs) (sym heads) within)

pub returns-clause-added : goal.returns-clause-added
returns-clause-added c =
    let s = c.self.inside in
    let ns = s.numbers.items in
    let fs = c.args.fibers.now in
    let h : Head = record { registry = c.args.registry; begin = c.len-begin.result; end = c.saturating_add-end.result } in
    let numbers : c.extend_from_slice.new.self.items ≡ ns ++ fs = grind (arith, common_steps) in
    let heads : c.push.new.self.items ≡ s.heads.items ++ h ∷ [] = grind (arith, common_steps) in
    ap₂ (λ (l : List ℕ) (hs : List Head). map (row_of l) hs) numbers heads ∙
    rows_with ns fs s.heads.items h (omega arith) (omega arith) c.self.invariant ∙
    ap (λ (x : Packed). x.rows ++ record { registry = c.args.registry; fibers = fs } ∷ []) c.self.view_is
