use Rattle.std.{proofs.{Common.{◌≡◌, ℕ, List, sym, subst, arith}, lemmas.{Grind.common_steps, Option.gets}}, specs.{Prelude.Some, List.slice_get}}
use Rattle.world_search.{specs.Private.Told.IsFiled, proofs.Filing.{filed_answered, filed_apart}}
use Rattle.world_search.proofs.listing.is_told.Goals as goal

pub have_report-requires-clause-within : goal.have_report-requires-clause-within
have_report-requires-clause-within g c = λ k j at.
    let there : slice_get c.args.told.now.buckets.items c.args.bucket ≡ Some c.index.result.now = grind (arith, common_steps, gets) in
    c.requires.within c.args.bucket j (c.index.result.now, there, (k, subst (λ (l : List ℕ). slice_get l k ≡ Some j) c.as_slice.ensures.value at))

pub returns-clause-yes : goal.returns-clause-yes
returns-clause-yes g c = λ yes answers w filed at.
    let ws = g.W.Worlds.worlds c.args.worlds.now in
    let there : slice_get c.args.told.now.buckets.items c.args.bucket ≡ Some c.index.result.now = grind (arith, common_steps, gets) in
    let found = c.have_report.ensures.yes yes in
    let here : IsFiled c.args.told.now.buckets.items c.args.bucket found.0 = (c.index.result.now, there, (found.1, subst (λ (l : List ℕ). slice_get l found.1 ≡ Some found.0) c.as_slice.ensures.value found.2)) in
    filed_answered g.W.Worlds.report_digest g.W.Worlds.report ws g.W.Worlds.step (g.W.Worlds.faults c.args.worlds.now) answers
    c.args.told.now.buckets.items c.args.bucket found.0 c.args.index w filed here (c.requires.within c.args.bucket found.0 here) at found.3

pub returns-clause-no : goal.returns-clause-no
returns-clause-no g c = λ no answers k a filed at.
    let ws = g.W.Worlds.worlds c.args.worlds.now in
    let there : slice_get c.args.told.now.buckets.items c.args.bucket ≡ Some c.index.result.now = grind (arith, common_steps, gets) in
    filed_apart g.W.Worlds.report_digest g.W.Worlds.report ws answers c.args.told.now.buckets.items c.args.bucket c.args.index k a c.index.result.now
    filed there c.requires.digest
    (λ n j x w atn. c.have_report.ensures.no no n j x w (subst (λ (l : List ℕ). slice_get l n ≡ Some j) (sym c.as_slice.ensures.value) atn)) at
