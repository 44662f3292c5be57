use Rattle.std.proofs.{Common.{rules, ◌≡◌, ◌++◌, ◌∷◌, [], arith}, lemmas.List.Elements.{All-push, All-same}}
use Rattle.model_runs.{specs.Deciding.IsDecidedIn, proofs.Looks.{left_behind, right_of}}
use Rattle.model_runs.proofs.run.results_of.Goals as goal

pub decided-requires : goal.decided-requires
decided-requires c = record {
  limits = c.requires.limits;
  right = right_of c.args.claims.now c.loop-claim.claim-index c.loop-claim.number c.claim-item.result c.args.moments.now
      (omega arith) c.claim-item.is c.loop-claim.invariant.counted c.requires.right;
}

pub loop-claim-preserved : goal.loop-claim-preserved
loop-claim-preserved c =
    let one = c.in_ok-result.result in
    let P = IsDecidedIn c.args.source.now c.args.searches.now c.args.moments.now.search in
    let pushed : c.push.new.self.items ≡ c.loop-claim.results.items ++ one ∷ [] = search rules in
    record {
      decided = All-same P _ _ pushed (All-push P c.loop-claim.results.items one c.loop-claim.invariant.decided c.in_ok-result.ensures.decided);
      counted = left_behind c.args.claims.now c.loop-claim.claim-index c.loop-claim.number c.count_of-number.result c.claim-item.result
          (omega arith) c.claim-item.is c.loop-claim.invariant.counted c.count_of-number.ensures.count;
      low = omega arith;
    }
