use Rattle.std.proofs.Common.{sym}
use Rattle.command_words.proofs.UnitLemmas.{ends_number, ends_unit, no_unit, no_unit_number}
use Rattle.command_words.proofs.memory.parted.Goals as goal

pub returns-in-Some-clause-number : goal.returns-in-Some-clause-number
returns-in-Some-clause-number c = sym (ends_number c.args.text.now c.in-Some.digits.now 107 c.in-Some.ensures (λ e. absurd (cc)))

pub returns-in-Some-clause-unit : goal.returns-in-Some-clause-unit
returns-in-Some-clause-unit c = sym (ends_unit c.args.text.now c.in-Some.digits.now 107 c.in-Some.ensures)

pub returns-in-Some-before-clause-number : goal.returns-in-Some-before-clause-number
returns-in-Some-before-clause-number c =
    sym (ends_number c.args.text.now c.in-Some-before.digits.now 77 c.in-Some-before.ensures (λ e. absurd (cc)))

pub returns-in-Some-before-clause-unit : goal.returns-in-Some-before-clause-unit
returns-in-Some-before-clause-unit c = sym (ends_unit c.args.text.now c.in-Some-before.digits.now 77 c.in-Some-before.ensures)

pub returns-in-Some-before-2-clause-number : goal.returns-in-Some-before-2-clause-number
returns-in-Some-before-2-clause-number c =
    sym (ends_number c.args.text.now c.in-Some-before-2.digits.now 71 c.in-Some-before-2.ensures (λ e. absurd (cc)))

pub returns-in-Some-before-2-clause-unit : goal.returns-in-Some-before-2-clause-unit
returns-in-Some-before-2-clause-unit c = sym (ends_unit c.args.text.now c.in-Some-before-2.digits.now 71 c.in-Some-before-2.ensures)

pub returns-clause-number : goal.returns-clause-number
returns-clause-number c =
    sym (no_unit_number c.args.text.now
    (no_unit c.args.text.now c.in_default.ensures c.in_default-before.ensures c.in_default-before-2.ensures))

pub returns-clause-unit : goal.returns-clause-unit
returns-clause-unit c = sym (no_unit c.args.text.now c.in_default.ensures c.in_default-before.ensures c.in_default-before-2.ensures)
