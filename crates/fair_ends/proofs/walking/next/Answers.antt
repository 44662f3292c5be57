use Rattle.std.{proofs.{Common.{◌≡◌, ◌++◌, List, ℕ, sym, ap, ◌∙◌, subst, arith, Ok}, lemmas.{Grind.common_steps, Option.gets}}, specs.Prelude.Some}
use Rattle.std.specs.List.{slice_get}
use Rattle.world_search.specs.Systems.{run}
use Rattle.fair_ends.{specs.Private.Tables.LandsOn, proofs.Landed.walk_next}
use Rattle.fair_ends.proofs.walking.next.Goals as goal

pub returns-in_ok-extend_from_slice-in-Some : goal.returns-in_ok-extend_from_slice-in-Some
returns-in_ok-extend_from_slice-in-Some g c = λ w on.
    let ws = g.W.Worlds.worlds c.args.worlds.now in
    let row = c.index-rows-at.result in
    let edge = c.in-Some.edge.now in
    let there : slice_get c.args.rows.now c.args.at ≡ Some row = grind (arith, common_steps, gets) in
    let is : slice_get row.edges.items c.args.fiber ≡ Some edge = grind (arith, common_steps, gets) in
    let more = c.in_ok-extend_from_slice-in-Some.ensures.items ∙ ap (λ (l : List ℕ). c.args.entries.now.items ++ l) c.as_slice.ensures.value in
    subst (λ (l : List ℕ). LandsOn ws edge.target (run g.W.Resting.entry (Ok w) l)) (sym more)
    (walk_next g.W.Resting.entry g.W.Resting.free g.W.Worlds.step g.W.Worlds.most_born ws c.args.at c.args.fiber c.args.entries.now.items row edge w
    (λ same. absurd (omega arith)) on (λ x at. c.requires.each c.args.at row x there at) is)
