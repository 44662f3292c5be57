use Rattle.std.proofs.Common.{rules, ◌≡◌, List, ℕ, [], ◌∷◌, ◌++◌, map, ap, ◌∙◌}
use Rattle.derived_ops.specs.Expansion.{code_of}
use Rattle.derived_ops.specs.Reading.{source_of}
use Rattle.every_schedule.specs.Claims.{first_view}
use Rattle.every_schedule.specs.Places.{first_place}
use Rattle.every_schedule.specs.Private.Seen.{Marked, view_of}
use Rattle.every_schedule.proofs.SeenRows.{first_there, first_views}
use Rattle.every_schedule.proofs.seen_worlds.SeenWorlds.new.Goals as goal

pub invariant_of-result : goal.invariant_of-result
invariant_of-result c =
    let p = first_place (code_of (source_of c.args.program.now)) c.args.limits in
    let rows : c.add.new.self.items.items ≡ record { world = 0; seen = [] } ∷ [] = c.in_ok-add.ensures.added ∙
    ap (λ (l : List Marked). l ++ c.new-first.result ∷ []) c.new-rows.ensures.none ∙
    ap (λ (m : Marked). m ∷ []) (c.new-first.ensures ∙ ap (λ (l : List ℕ). let m : Marked = record { world = 0; seen = l } in m) c.new-none.ensures.items) in
    first_there c.in_ok-worlds.worlds.places p c.add.new.self.items.items c.in_ok-worlds.ensures.places rows

pub returns : goal.returns
returns c =
    let p = first_place (code_of (source_of c.args.program.now)) c.args.limits in
    let rows : c.add.new.self.items.items ≡ record { world = 0; seen = [] } ∷ [] = c.in_ok-add.ensures.added ∙
    ap (λ (l : List Marked). l ++ c.new-first.result ∷ []) c.new-rows.ensures.none ∙
    ap (λ (m : Marked). m ∷ []) (c.new-first.ensures ∙ ap (λ (l : List ℕ). let m : Marked = record { world = 0; seen = l } in m) c.new-none.ensures.items) in
    let views : map (view_of c.in_ok-worlds.worlds.places) c.add.new.self.items.items ≡ first_view p ∷ [] =
    first_views c.in_ok-worlds.worlds.places p c.add.new.self.items.items c.in_ok-worlds.ensures.places rows in
    search rules
