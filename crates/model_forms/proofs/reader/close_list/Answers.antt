use Rattle.std.proofs.Common.{◌<◌, ◌-◌, length, rules}
use Rattle.model_forms.proofs.RowLaws.{shaped_index, close_so}
use Rattle.model_forms.proofs.reader.close_list.Goals as goal

pub overflow_sub-inside : goal.overflow_sub-inside
overflow_sub-inside c =
    let l : c.in-Some.index < length c.args.read.now.forms.items =
    shaped_index c.args.read.now c.requires.os c.requires.row c.pop.new.self.items c.in-Some.index c.requires.shaped c.in-Some.ensures.items in
    search rules

pub overflow_sub-inside-2 : goal.overflow_sub-inside-2
overflow_sub-inside-2 c =
    let l : c.in-Some.index < length c.args.read.now.forms.items =
    shaped_index c.args.read.now c.requires.os c.requires.row c.pop.new.self.items c.in-Some.index c.requires.shaped c.in-Some.ensures.items in
    search rules

pub index-requires : goal.index-requires
index-requires c =
    let l : c.in-Some.index < length c.args.read.now.forms.items =
    shaped_index c.args.read.now c.requires.os c.requires.row c.pop.new.self.items c.in-Some.index c.requires.shaped c.in-Some.ensures.items in
    search rules

pub index_mut-requires : goal.index_mut-requires
index_mut-requires c =
    let l : c.in-Some.index < length c.args.read.now.forms.items =
    shaped_index c.args.read.now c.requires.os c.requires.row c.pop.new.self.items c.in-Some.index c.requires.shaped c.in-Some.ensures.items in
    search rules

pub returns : goal.returns
returns c = λ os row s.
    close_so c.args.read.now _ os row c.in-Some.index c.args.end (c.len.result - c.in-Some.index - 1) c.index.result.now s c.in-Some.ensures.items
    c.index.ensures (search rules) (search rules)
