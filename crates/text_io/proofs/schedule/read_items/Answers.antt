use Rattle.std.proofs.Common.{◌≡◌, ◌≤◌, ◌<◌, ◌+◌, ◌-◌, rules, arith, length, subst}
use Rattle.text_io.{specs.Schedule.IsFirstBad, proofs.ScheduleLemmas.{read_bad, read_more, read_all, too_many}}
use Rattle.text_io.proofs.schedule.read_items.Goals as goal

pub returns-in_default-clause-place : goal.returns-in_default-clause-place
returns-in_default-clause-place c = λ place e.
    let here = read_bad c.args.text.now c.items.rest.now c.first_item.result.0.now c.items.entries.items c.first_item.result.1 c.items.invariant.read
    c.first_item.ensures.alone c.first_item.ensures.parts (λ i g s l. c.in_default-2.ensures.none i g s) in
    let same : length c.args.text.now - length c.items.rest.now ≡ place = cc in
    subst (IsFirstBad c.args.text.now) same here

pub returns-then-times-len-2-clause-place : goal.returns-then-times-len-2-clause-place
returns-then-times-len-2-clause-place c = λ place e.
    let many : 1000000 < length c.items.entries.items + c.in-Some-item.times = omega (arith, c.items.entries.ok.0, c.items.invariant.read.few) in
    let here = read_bad c.args.text.now c.items.rest.now c.first_item.result.0.now c.items.entries.items c.first_item.result.1 c.items.invariant.read
    c.first_item.ensures.alone c.first_item.ensures.parts
    (too_many c.first_item.result.0.now c.items.entries.items c.in-Some-item.fiber c.in-Some-item.times c.in-Some-item.ensures.found many) in
    let same : length c.args.text.now - length c.items.rest.now ≡ place = cc in
    subst (IsFirstBad c.args.text.now) same here

pub items-preserved-in-items : goal.items-preserved-in-items
items-preserved-in-items c =
    let few : length c.items.entries.items + c.in-Some.times ≤ 1000000 = omega (arith, c.items.entries.ok.0, c.items.invariant.read.few) in
    record {
      read = read_more c.args.text.now c.items.rest.now c.in-Some.ensures.0 c.in-Some.behind.now c.items.entries.items c.push_times.new.entries.items
          c.in-Some.fiber c.in-Some.times c.items.invariant.read c.in-Some.ensures.2 c.in-Some.ensures.1 c.in_ok-push_times.ensures few;
      text = search rules;
    }

pub items-preserved : goal.items-preserved
items-preserved c =
    let few : length c.items.entries.items + c.in-Some-item.times ≤ 1000000 = omega (arith, c.items.entries.ok.0, c.items.invariant.read.few) in
    let parts = rw c.in-Some-behind.is at c.first_item.ensures.parts in
    record {
      read = read_more c.args.text.now c.items.rest.now c.first_item.result.0.now c.in-Some-behind.behind.now c.items.entries.items
          c.push_times-in-items.new.entries.items c.in-Some-item.fiber c.in-Some-item.times c.items.invariant.read parts c.in-Some-item.ensures.found
          c.in_ok-push_times-2.ensures few;
      text = search rules;
    }

pub returns-in-None-clause-found : goal.returns-in-None-clause-found
returns-in-None-clause-found c =
    let few : length c.items.entries.items + c.in-Some-item.times ≤ 1000000 = omega (arith, c.items.entries.ok.0, c.items.invariant.read.few) in
    let parts = rw c.in-None.is at c.first_item.ensures.parts in
    read_all c.args.text.now c.items.rest.now c.items.entries.items c.push_times-in-items.new.entries.items c.in-Some-item.fiber c.in-Some-item.times
    c.items.invariant.read (rw parts c.in-Some-item.ensures.found) c.in_ok-push_times-2.ensures few
