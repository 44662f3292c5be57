use Rattle.std.proofs.Common.{arith, ◌≡◌, length, sym, ◌∙◌, rules}
use Rattle.text_io.proofs.ScheduleLemmas.{accepts, refuses, empty_spells, one_list_from, same_place}
use Rattle.text_io.proofs.schedule.read_schedule.Goals as goal

pub returns-then-is_empty-clause-only : goal.returns-then-is_empty-clause-only
returns-then-is_empty-clause-only c = λ entries s.
    let none : length c.args.text.now ≡ 0 = search rules in
    c.new.ensures.items ∙ sym (empty_spells c.args.text.now entries none s)

pub returns-clause-only : goal.returns-clause-only
returns-clause-only c = accepts c.args.text.now c.read_items.result c.read_items.ensures.found c.read_items.ensures.place

pub returns-then-is_empty-clause-refused : goal.returns-then-is_empty-clause-refused
returns-then-is_empty-clause-refused c = λ place b.
    let none : length c.args.text.now ≡ 0 = search rules in
    omega (arith, b.some)

pub returns-clause-refused : goal.returns-clause-refused
returns-clause-refused c = refuses c.args.text.now c.read_items.result c.read_items.ensures.found c.read_items.ensures.place

pub returns-then-is_empty-clause-one_list : goal.returns-then-is_empty-clause-one_list
returns-then-is_empty-clause-one_list c = λ entries s.
    let none : length c.args.text.now ≡ 0 = search rules in
    empty_spells c.args.text.now entries none s ∙ sym c.new.ensures.items

pub returns-clause-one_list : goal.returns-clause-one_list
returns-clause-one_list c = one_list_from c.args.text.now c.read_items.result c.read_items.ensures.found

pub returns-clause-one_place : goal.returns-clause-one_place
returns-clause-one_place c = λ place e other b. same_place c.args.text.now other place b (c.read_items.ensures.place place e)
