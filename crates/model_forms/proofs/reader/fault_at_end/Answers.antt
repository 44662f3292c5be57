use Rattle.std.proofs.Common.{◌<◌, length, rules}
use Rattle.model_forms.proofs.RowLaws.{shaped_index, end_so}
use Rattle.model_forms.proofs.reader.fault_at_end.Goals as goal

pub index-requires : goal.index-requires
index-requires c =
    let l : c.in_ok-innermost.innermost < length c.args.read.now.forms.items =
    shaped_index c.args.read.now c.requires.os c.requires.row c.pop.new.self.items c.in_ok-innermost.innermost c.requires.shaped
    c.in_ok-innermost.ensures.items in
    search rules

pub returns-clause-fault : goal.returns-clause-fault
returns-clause-fault c = λ os row s.
    end_so c.args.read.now os row c.pop.new.self.items c.in_ok-innermost.innermost c.len-count.result c.index.result.now s
    c.in_ok-innermost.ensures.items (search rules) c.index.ensures
