use Rattle.std.proofs.Common.{◌≤◌, ◌++◌, List, length, take, drop, sym, ap, ◌∙◌, subst, arith}
use Rattle.std.specs.List.{All}
use Rattle.std.proofs.lemmas.List.{take_all, take-append-drop}
use Rattle.derived_ops.specs.Expansion.{code_of}
use Rattle.derived_ops.specs.Reading.{source_of}
use Rattle.world_search.specs.declared.claims.Met.{Met}
use Rattle.world_search.proofs.Lists.{more_same}
use Rattle.every_schedule.specs.Claims.{IsMetIn}
use Rattle.every_schedule.proofs.claimed.certify.Goals as goal

pub returns-then-many-len-clause-met : goal.returns-then-many-len-clause-met
returns-then-many-len-clause-met c =
    let P = IsMetIn (code_of (source_of c.args.program.now)) c.args.limits c.args.claims.now in
    let found = c.args.found.met.items in
    let many = c.in_ok-many.many in
    let met = subst (λ (l : List Met). All P (take many l)) c.as_slice.ensures.value c.in_ok-many.ensures.met in
    subst (λ (l : List Met). All P l) (sym c.truncate.ensures.items) met

pub returns-then-many-len-clause-kept : goal.returns-then-many-len-clause-kept
returns-then-many-len-clause-kept c =
    let found = c.args.found.met.items in
    let many = c.in_ok-many.many in
    record { more = drop many found; is = ap (λ l. l ++ drop many found) c.truncate.ensures.items ∙ take-append-drop many found }

pub returns-clause-met : goal.returns-clause-met
returns-clause-met c =
    let P = IsMetIn (code_of (source_of c.args.program.now)) c.args.limits c.args.claims.now in
    let found = c.args.found.met.items in
    let many = c.in_ok-many.many in
    let met = subst (λ (l : List Met). All P (take many l)) c.as_slice.ensures.value c.in_ok-many.ensures.met in
    let past : length found ≤ many = omega arith in
    subst (λ (l : List Met). All P l) (take_all many found past) met

pub returns-clause-kept : goal.returns-clause-kept
returns-clause-kept c = more_same c.args.found.met.items
