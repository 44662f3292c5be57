use Rattle.cell_registry.proofs.Prelude.{◌<◌, ℕ, List, ◌∙◌, ap, arith, subst, Limits, Entry, RegistryView, PassView, IsLeftWord}
use Rattle.cell_registry.proofs.Seats.{last_word}
use Rattle.cell_registry.proofs.registry.Registry.last_word.Goals as goal

pub free-requires : goal.free-requires
free-requires c k below =
    let none = c.close_with-closed.ensures.counts.1 in
    let empty = c.self.invariant.slots in
    absurd (omega arith)

pub returns : goal.returns
returns c =
    let limits = c.self.invariant.key_is ∙ ap (λ (r : RegistryView). r.limits) c.self.view_is in
    let seen = ap (λ (p : PassView). p.seen) c.pass.view_is in
    let within : c.args.fiber < c.self.inside.table.shared.key.fibers = rw limits c.requires.within in
    let left = last_word ℕ c.self.inside.table.shared.key _ _ _ c.args.fiber c.cell_place.result c.word-word.result _
    c.close_with-closed.ensures.values.2 c.cell_place.ensures within c.word-word.ensures in
    let fibers = ap (λ (p : PassView). p.fibers) c.pass.view_is in
    record {
      left = subst (λ (x : Limits × List ℕ × List Entry). IsLeftWord x.0 x.1 x.2 c.args.fiber c.word-word.result) (λ j. (limits j, fibers j, seen j)) left;
    }
