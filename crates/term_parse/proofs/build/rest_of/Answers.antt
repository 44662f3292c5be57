use Rattle.term_parse.{specs.Forms.ends, proofs.Builds.{rest_more, rest_atoms}}
use Rattle.std.proofs.Common.{rules}
use Rattle.term_parse.proofs.build.rest_of.Goals as goal

pub loop-piece-preserved : goal.loop-piece-preserved
loop-piece-preserved c = record {
  all = rest_more c.loop-piece.pieces.items c.pop_front.new.self.items c.in-Term.term c.in-Some.piece c.in-Some.ensures.items c.in-Term.is
      c.loop-piece.invariant.all;
  so_far = rest_atoms (ends c.args.pieces.now.items) c.loop-piece.terms.items c.push.new.self.items
      c.loop-piece.pieces.items c.pop_front.new.self.items c.in-Term.term c.in-Some.piece c.in-Some.ensures.items
      c.in-Term.is (search rules) c.loop-piece.invariant.so_far;
}
