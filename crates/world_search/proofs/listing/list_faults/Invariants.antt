use Rattle.std.{proofs.Common.{◌≡◌, ℕ, ◌<◌}, specs.{Prelude.Some, List.slice_get}}
use Rattle.world_search.specs.{declared.graphs.Noted.Noted, Lists.IsMore, Private.{Listed.{AddsFaults, AreListed, IsNamed}, Shapes.shape}}
use Rattle.world_search.proofs.Answering.{NamesNoted}
use Rattle.world_search.specs.declared.landings.Landing.TheVariants as to
use Rattle.world_search.proofs.listing.list_faults.Given as goal

abbrev pub invariant-loop-index : goal.invariant-loop-index
invariant-loop-index l = record {
  listed : AreListed (shape l.graph) l.answers.items;
  more : IsMore l.initial.answers.items l.answers.items;
  adds : AddsFaults l.initial.answers.items l.answers.items;
  from : NamesNoted l.graph.noted.items l.index l.answers.items;
  told : (k : ℕ) (n : Noted) → k < l.index → slice_get l.graph.noted.items k ≡ Some n → IsNamed l.answers.items (to.Fault n.fault);
}
