-- Sequences with their further parts in a list.
use Rattle.std.specs.Prelude.{List, [], ◌∷◌}
use Rattle.effect_term.specs.declared.term.Term.{Term}
use Rattle.derived_ops.specs.Reading.{source_of}
use Rattle.derived_ops.specs.Source as word
use Rattle.derived_ops.specs.Source.{Source}
use Rattle.derived_ops.specs.Tree.{Tree, Rest, Act, Never, Seq, Last, More}

-- a `seq` of two parts and these, of a program and of a code
abbrev pub sources_in_order : Source → Source → List Term → Source
sources_in_order a b [] = word.Seq Last a b
sources_in_order a b (c ∷ rest) = word.Seq More a (sources_in_order b (source_of c) rest)

abbrev pub trees_in_order : Tree → Tree → List Tree → Tree
trees_in_order a b [] = Seq Last a b
trees_in_order a b (c ∷ rest) = Seq More a (trees_in_order b c rest)

-- what comes behind the first part of a `seq`: a part and these
abbrev pub rest_before : List Tree → Rest
rest_before [] = Last
rest_before (c ∷ rest) = More

abbrev pub trees_behind : Tree → List Tree → Tree
trees_behind a [] = a
trees_behind a (b ∷ rest) = Seq (rest_before rest) a (trees_behind b rest)

abbrev pub trees_of : List Tree → Tree
trees_of [] = Act Never
trees_of (a ∷ rest) = trees_behind a rest
