use Rattle.std.proofs.Common.{[], refl, rules}
use Rattle.model_forms.{specs.Rows.nothing, proofs.{Refusals.refused, Steps.is_fault}}
use Rattle.model_forms.proofs.reader.read_forms.Goals as goal

pub loop-token-init : goal.loop-token-init
loop-token-init c = record {
  within = search rules;
  read = record { os = []; row = nothing; tokens = refl; shaped = record { forms = c.new.ensures.items; open_ones = c.new-2.ensures.items } };
}

pub returns-in-Err-clause-refused : goal.returns-in-Err-clause-refused
returns-in-Err-clause-refused c =
    refused c.args.text.now c.in-Err.fault
    (c.in-Err.ensures.fault c.args.text.now c.loop-token.at c.loop-token.invariant.read c.in-Some.ensures.found)

pub returns-in-Some-fault_at_end-clause-refused : goal.returns-in-Some-fault_at_end-clause-refused
returns-in-Some-fault_at_end-clause-refused c =
    let r = c.loop-token.invariant.read in
    refused c.args.text.now c.in-Some-fault_at_end.fault
    (is_fault c.args.text.now c.loop-token.at c.loop-token.read c.in-Some-fault_at_end.fault r (search rules)
    (c.in-Some-fault_at_end.ensures.fault r.os r.row r.shaped))
