use Rattle.std.proofs.Common.{◌≡◌, ◌+◌, ◌*◌, drop}
use Rattle.effect_term.specs.{Names.{uses_of_all, first_fault}, Sizes.{size_of, total_size}}
use Rattle.effect_term.proofs.names.+names.Given as goal

abbrev pub decreases-check_parts : goal.decreases-check_parts
decreases-check_parts l = 4 * size_of l.term.now

abbrev pub decreases-check_names : goal.decreases-check_names
decreases-check_names l = 4 * size_of l.term.now + 1

abbrev pub decreases-check_under : goal.decreases-check_under
decreases-check_under l = 4 * size_of l.part.now + 2

abbrev pub decreases-check_both : goal.decreases-check_both
decreases-check_both l = 4 * (size_of l.first.now + size_of l.second.now) + 2

abbrev pub decreases-check_then_under : goal.decreases-check_then_under
decreases-check_then_under l = 4 * (size_of l.first.now + size_of l.next.now) + 3

abbrev pub decreases-check_both_under : goal.decreases-check_both_under
decreases-check_both_under l = 4 * (size_of l.first.now + size_of l.second.now) + 3

abbrev pub decreases-check_all : goal.decreases-check_all
decreases-check_all l = 4 * total_size l.terms.now + 2

abbrev pub decreases-check_in_order : goal.decreases-check_in_order
decreases-check_in_order l = 4 * (size_of l.first.now + size_of l.second.now + total_size l.more.now) + 3

abbrev pub decreases-check_outcomes : goal.decreases-check_outcomes
decreases-check_outcomes l = 4 * (size_of l.succeeded.now + size_of l.errored.now + size_of l.canceled.now) + 3

abbrev pub decreases-check_cases : goal.decreases-check_cases
decreases-check_cases l =
    4 * (size_of l.body.now + size_of l.on_value.now + size_of l.on_error.now + size_of l.on_cancel.now) + 3

abbrev pub invariant-check_all-loop-t : goal.invariant-check_all-loop-t
invariant-check_all-loop-t l = record {
  same : l.kinds.items ≡ l.fn.kinds.items;
  rest : first_fault (uses_of_all l.fn.kinds.items l.terms) ≡
      first_fault (uses_of_all l.fn.kinds.items (drop l.t-index l.terms));
}
