use Rattle.cell_registry.proofs.Prelude.{◌≡◌, ℕ, ◌+◌, List, ap, subst, Limits, Entry, Cells, left, PassView, RegistryView, IsLeftPlain, Shows}
use Rattle.cell_registry.proofs.Showing.{if_ok, left_here, left_plain}
use Rattle.cell_registry.proofs.registry.Registry.into_plain.Goals as goal

pub shown-requires-clause-some : goal.shown-requires-clause-some
shown-requires-clause-some c =
    let k = c.self.inside.limits in
    let n : c.from.result + c.from-2.result + c.from-3.result + c.from-values.result + 3 ≡ k.fibers + k.refs + k.deferreds + k.fibers + 3 =
    (λ j. c.from.ensures j + c.from-2.ensures j + c.from-3.ensures j + c.from-values.ensures j + 3) in
    let l = left_here ℕ _ k _ _ c.as_slice.result.now _ _ _ _ c.self.invariant.key_is c.close_with-closed.ensures.values.2 n c.in_ok-words.ensures
    c.as_slice.ensures.value in
    (left k l.0, l.4)

pub returns-clause-left : goal.returns-clause-left
returns-clause-left c =
    let k = c.self.inside.limits in
    let v = c.pass.inside.seat.me.0 in
    let n : c.from.result + c.from-2.result + c.from-3.result + c.from-values.result + 3 ≡ k.fibers + k.refs + k.deferreds + k.fibers + 3 =
    (λ j. c.from.ensures j + c.from-2.ensures j + c.from-3.ensures j + c.from-values.ensures j + 3) in
    let l = left_here ℕ _ k _ _ c.as_slice.result.now _ _ _ _ c.self.invariant.key_is c.close_with-closed.ensures.values.2 n c.in_ok-words.ensures
    c.as_slice.ensures.value in
    let limits : k ≡ c.args.self.limits = ap (λ (r : RegistryView). r.limits) c.self.view_is in
    let fibers : v.fibers ≡ c.args.pass.fibers = ap (λ (p : PassView). p.fibers) c.pass.view_is in
    let seen : v.seen ≡ c.args.pass.seen = ap (λ (p : PassView). p.seen) c.pass.view_is in
    if_ok (λ r. (s : Cells) → Shows k c.as_slice.result.now s → r ≡ record { limits = k; state = s })
    (λ r. IsLeftPlain c.args.self.limits c.args.pass.fibers c.args.pass.seen r) c.shown.result
    (λ r told. subst (λ (x : Limits × List ℕ × List Entry). IsLeftPlain x.0 x.1 x.2 r) (λ j. (limits j, fibers j, seen j))
    (left_plain k c.as_slice.result.now v l.0 l.1 l.2 l.3 l.4 r told))
    c.shown.ensures
