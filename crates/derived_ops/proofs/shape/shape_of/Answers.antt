use Rattle.std.proofs.Common.{rules}
use Rattle.effect_term.specs.declared.term.Term.TheViews.{the_lemmas}
use Rattle.derived_ops.proofs.Rows.{expansion_in_order, expansion_sizes_of-row, seq_of-row}
use Rattle.derived_ops.proofs.shape.shape_of.Goals as goal

pub returns-in-Seq-clause-tree : goal.returns-in-Seq-clause-tree
returns-in-Seq-clause-tree c = search (rules, the_lemmas, seq_of-row, expansion_in_order)

pub returns-in-Seq-clause-parts : goal.returns-in-Seq-clause-parts
returns-in-Seq-clause-parts c = search (rules, the_lemmas, expansion_sizes_of-row)
