use Rattle.std.proofs.Common.{◌≡◌, ℕ, ◌+◌, ◌*◌, List, Ok, Err, slice_index_or, sym, ap, ◌∙◌, subst, arith}
use Rattle.std.specs.Prelude.{Some}
use Rattle.std.specs.List.{slice_get}
use Rattle.std.proofs.lemmas.Grind.{common_steps}
use Rattle.std.proofs.lemmas.Option.{gets, same_Some}
use Rattle.std.proofs.lemmas.Result.{IfOk-weaker}
use Rattle.world_search.specs.Landings.{EntersAt}
use Rattle.exploration_tests.specs.Moves.{moved}
use Rattle.exploration_tests.specs.declared.places.TheConstants.{MOVES}
use Rattle.exploration_tests.proofs.EntryLeads.{moved_place, moved_fault}
use Rattle.exploration_tests.proofs.places.PlacesWorlds.enter.Goals as goal

pub returns-then-code-lt100-clause-lands : goal.returns-then-code-lt100-clause-lands
returns-then-code-lt100-clause-lands c =
    let at : slice_get c.args.self.now.places.items c.args.world ≡ Some c.index.result.now = grind (arith, common_steps, gets) in
    IfOk-weaker c.keep.result
    (λ it. (faults : List ℕ) → EntersAt c.keep.new.places.items faults it (Ok c.read-code.result))
    (λ it. (w : ℕ) → slice_get c.args.self.now.places.items c.args.world ≡ Some w →
    EntersAt c.keep.new.places.items c.args.self.now.faults.items it (moved MOVES w c.args.fiber))
    (λ it told w there.
    let same : c.index.result.now ≡ w = same_Some c.index.result.now w (sym at ∙ there) in
    let code : c.read-code.result ≡ slice_index_or MOVES (2 * w + c.args.fiber) 0 = c.read-code.ensures ∙
    ap (λ (n : ℕ). slice_index_or MOVES (2 * n + c.args.fiber) 0) same in
    subst (EntersAt c.keep.new.places.items c.args.self.now.faults.items it)
    (sym (moved_place MOVES w c.args.fiber c.read-code.result (omega arith) code c.if-code-lt100.true)) (told c.args.self.now.faults.items))
    c.keep.ensures.lands

pub returns-else-code-lt100-clause-lands : goal.returns-else-code-lt100-clause-lands
returns-else-code-lt100-clause-lands c =
    let at : slice_get c.args.self.now.places.items c.args.world ≡ Some c.index.result.now = grind (arith, common_steps, gets) in
    IfOk-weaker c.note.result
    (λ it. (places : List ℕ) → EntersAt places c.note.new.faults.items it (Err c.read-code.result))
    (λ it. (w : ℕ) → slice_get c.args.self.now.places.items c.args.world ≡ Some w →
    EntersAt c.args.self.now.places.items c.note.new.faults.items it (moved MOVES w c.args.fiber))
    (λ it told w there.
    let same : c.index.result.now ≡ w = same_Some c.index.result.now w (sym at ∙ there) in
    let code : c.read-code.result ≡ slice_index_or MOVES (2 * w + c.args.fiber) 0 = c.read-code.ensures ∙
    ap (λ (n : ℕ). slice_index_or MOVES (2 * n + c.args.fiber) 0) same in
    subst (EntersAt c.args.self.now.places.items c.note.new.faults.items it)
    (sym (moved_fault MOVES w c.args.fiber c.read-code.result (omega arith) code (omega arith))) (told c.args.self.now.places.items))
    c.note.ensures.lands
