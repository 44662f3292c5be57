use Rattle.std.proofs.Common.{subst}
use Rattle.derived_ops.specs.{Expansion.code_of, Reading.source_of}
use Rattle.compared_ends.{specs.Comparisons.IsExtra, proofs.BothWays.{extra_told, same_ends}}
use Rattle.compared_ends.proofs.comparing.compare_ends.Goals as goal

pub returns-clause-first : goal.returns-clause-first
returns-clause-first c =
    extra_told c.args.basis (code_of (source_of c.args.first.now)) (code_of (source_of c.args.second.now)) c.args.limits c.args.bounds c.in_ok-one.one
    c.in_ok-other.other c.in_ok-one.ensures.explored c.in_ok-other.ensures.explored c.extra-first_extra.result c.extra-first_extra.ensures

pub returns-clause-second : goal.returns-clause-second
returns-clause-second c =
    extra_told c.args.basis (code_of (source_of c.args.second.now)) (code_of (source_of c.args.first.now)) c.args.limits c.args.bounds c.in_ok-other.other
    c.in_ok-one.one c.in_ok-other.ensures.explored c.in_ok-one.ensures.explored c.extra-second_extra.result c.extra-second_extra.ensures

pub returns-clause-same : goal.returns-clause-same
returns-clause-same c = λ none neither.
    let first = code_of (source_of c.args.first.now) in
    let second = code_of (source_of c.args.second.now) in
    let there = extra_told c.args.basis first second c.args.limits c.args.bounds c.in_ok-one.one c.in_ok-other.other c.in_ok-one.ensures.explored
    c.in_ok-other.ensures.explored c.extra-first_extra.result c.extra-first_extra.ensures in
    let back = extra_told c.args.basis second first c.args.limits c.args.bounds c.in_ok-other.other c.in_ok-one.one c.in_ok-other.ensures.explored
    c.in_ok-one.ensures.explored c.extra-second_extra.result c.extra-second_extra.ensures in
    same_ends c.args.basis first second c.args.limits
    (subst (λ x. IsExtra c.args.basis first second c.args.limits c.in_ok-one.one c.in_ok-other.other x) none there)
    (subst (λ x. IsExtra c.args.basis second first c.args.limits c.in_ok-other.other c.in_ok-one.one x) neither back)
