use Rattle.std.proofs.{Common.{◌≡◌, suc, ◌-◌, ◌++◌, ◌∷◌, [], Some, arith, sym, ap, ◌∙◌, get_or, set}, lemmas.{Grind.common_steps, Option.gets}}
use Rattle.scheduled_core.proofs.Settling.{go_alone, go_born, has_rest}
use Rattle.scheduled_core.proofs.finals.go_on.Goals as goal

pub returns-in_ok-add-clause-each : goal.returns-in_ok-add-clause-each
returns-in_ok-add-clause-each c =
    let value : c.index.result.now ≡ get_or c.args.rests.now.items c.args.number 0 = grind (arith, common_steps, gets) in
    (go_born c.args.registry.now.limits _ _ c.args.rests.now.items _ c.args.number (c.index.result.now - 1) c.requires.unended
    (has_rest c.args.rests.now.items c.args.number c.requires.rest ∙ ap (λ n. Some (suc (n - 1))) (sym value))
    c.in_ok-enter.ensures.goes c.requires.each (omega arith) (c.in_ok-add.ensures ∙
    ap (λ i. set c.args.rests.now.items i (c.index.result.now - 1) ++ (c.index.result.now - 1) ∷ []) c.from-2.ensures)).0

pub returns-in_ok-add-clause-goes : goal.returns-in_ok-add-clause-goes
returns-in_ok-add-clause-goes c =
    let value : c.index.result.now ≡ get_or c.args.rests.now.items c.args.number 0 = grind (arith, common_steps, gets) in
    (go_born c.args.registry.now.limits _ _ c.args.rests.now.items _ c.args.number (c.index.result.now - 1) c.requires.unended
    (has_rest c.args.rests.now.items c.args.number c.requires.rest ∙ ap (λ n. Some (suc (n - 1))) (sym value))
    c.in_ok-enter.ensures.goes c.requires.each (omega arith) (c.in_ok-add.ensures ∙
    ap (λ i. set c.args.rests.now.items i (c.index.result.now - 1) ++ (c.index.result.now - 1) ∷ []) c.from-2.ensures)).1

pub returns-else-len-clause-each : goal.returns-else-len-clause-each
returns-else-len-clause-each c =
    let value : c.index.result.now ≡ get_or c.args.rests.now.items c.args.number 0 = grind (arith, common_steps, gets) in
    (go_alone c.args.registry.now.limits _ _ c.args.rests.now.items _ c.args.number (c.index.result.now - 1) c.requires.unended
    (has_rest c.args.rests.now.items c.args.number c.requires.rest ∙ ap (λ n. Some (suc (n - 1))) (sym value))
    c.in_ok-enter.ensures.goes c.requires.each (omega arith) (ap (λ i. set c.args.rests.now.items i (c.index.result.now - 1)) c.from-2.ensures)).0

pub returns-else-len-clause-goes : goal.returns-else-len-clause-goes
returns-else-len-clause-goes c =
    let value : c.index.result.now ≡ get_or c.args.rests.now.items c.args.number 0 = grind (arith, common_steps, gets) in
    (go_alone c.args.registry.now.limits _ _ c.args.rests.now.items _ c.args.number (c.index.result.now - 1) c.requires.unended
    (has_rest c.args.rests.now.items c.args.number c.requires.rest ∙ ap (λ n. Some (suc (n - 1))) (sym value))
    c.in_ok-enter.ensures.goes c.requires.each (omega arith) (ap (λ i. set c.args.rests.now.items i (c.index.result.now - 1)) c.from-2.ensures)).1
