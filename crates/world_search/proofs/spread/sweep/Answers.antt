use Rattle.std.proofs.Common.{◌≡◌, ℕ, ◌+◌, ◌-◌, ◌<◌, length, slice_index_or, true, false, Bool, List, set, refl, sym, ap, ◌∙◌, subst, arith, inl, inr}
use Rattle.std.{proofs.lemmas.Option.{slice_get-get_or, slice_get_within}, specs.{Prelude.Some, List.slice_get}}
use mathlib.Core.Logic.{◌⊎◌}
use Rattle.world_search.{specs.{declared.graphs.Edge.Edge, Private.Flags.{AreFlagged, KeepsFlags, AreBack, unset}}, proofs.Flags.{keeps_same, keeps_set}}
use Rattle.world_search.proofs.{Flags.{flagged_same, flagged_set, back_more, unset_set}, spread.sweep.Goals.{then-pass, else-pass}}
use Rattle.world_search.proofs.spread.sweep.Goals as goal

pub loop-done-init : goal.loop-done-init
loop-done-init c = record {
  long = refl;
  keeps = keeps_same c.args.flags.now.items;
  flagged = flagged_same c.args.edges.now c.args.flags.now.items;
  back = λ same k e low there. let within = slice_get_within c.args.edges.now k e there in absurd (omega arith);
  fewer = λ yes. absurd (cc);
  same = λ no. refl;
}

pub pass-requires-clause-from : goal.pass-requires-clause-from
pass-requires-clause-from c =
    let at = slice_get-get_or c.args.edges.now (length c.args.edges.now - 1 - c.loop-done.done) (record { from = 0; to = 0 }) (omega arith) in
    let low = c.requires (length c.args.edges.now - 1 - c.loop-done.done)
    (slice_index_or c.args.edges.now (length c.args.edges.now - 1 - c.loop-done.done) (record { from = 0; to = 0 })) at in
    let a = low.0 in omega arith

pub pass-requires-clause-to : goal.pass-requires-clause-to
pass-requires-clause-to c =
    let at = slice_get-get_or c.args.edges.now (length c.args.edges.now - 1 - c.loop-done.done) (record { from = 0; to = 0 }) (omega arith) in
    let low = c.requires (length c.args.edges.now - 1 - c.loop-done.done)
    (slice_index_or c.args.edges.now (length c.args.edges.now - 1 - c.loop-done.done) (record { from = 0; to = 0 })) at in
    let a = low.1 in omega arith

pub loop-done-preserved : goal.loop-done-preserved
loop-done-preserved c =
    let known = c.loop-done.invariant in
    let k : ℕ = length c.args.edges.now - 1 - c.loop-done.done in
    let edge : Edge = slice_index_or c.args.edges.now k (record { from = 0; to = 0 }) in
    let at : slice_get c.args.edges.now k ≡ Some edge = slice_get-get_or c.args.edges.now k (record { from = 0; to = 0 }) (omega arith) in
    let old : List Bool = c.args.flags.now.items in
    let flags : List Bool = c.loop-done.flags.items in
    elim c.if-pass.branch [
      | then-pass w ↦
          let told = c.pass.ensures in
          let yes = w.if-pass.true in
          let sets : c.pass.new.flags.items ≡ set flags edge.from true = told.sets yes in
          record {
            long = told.long ∙ known.long;
            keeps = subst (KeepsFlags old) (sym sets) (keeps_set old flags edge.from known.keeps (told.was yes));
            flagged = subst (AreFlagged c.args.edges.now old) (sym sets) (flagged_set c.args.edges.now old flags k edge known.flagged at (told.ahead yes));
            back = λ no. absurd (cc (w.changed-is, no));
            fewer = λ changed. let less : unset c.pass.new.flags.items < unset flags =
                subst (λ (l : List Bool). unset l < unset flags) (sym sets) (unset_set flags edge.from (told.was yes)) in
                elim (truth c.loop-done.changed) [
                  | inl before ↦ let h = known.fewer before in omega arith
                  | inr never ↦ let same : flags ≡ old = known.same never in subst (λ (l : List Bool). unset c.pass.new.flags.items < unset l) same less
                ];
            same = λ no. absurd (cc (w.changed-is, no));
          }
      | else-pass w ↦
          let told = c.pass.ensures in
          let no = w.if-pass.false in
          let is = told.same no in
          let new : List Bool = c.pass.new.flags.items in
          let same : new ≡ flags = ap (λ v. v.items) is in
          let kept = subst (λ (l : List Bool). KeepsFlags old l) (sym same) known.keeps in
          record {
            long = told.long ∙ known.long;
            keeps = kept;
            flagged = subst (AreFlagged c.args.edges.now old) (sym same) known.flagged;
            back = λ still.
                let before : c.loop-done.changed ≡ false = sym w.changed-is ∙ still in
                let all : AreBack c.args.edges.now new (length c.args.edges.now - c.loop-done.done) =
                subst (λ (l : List Bool). AreBack c.args.edges.now l (length c.args.edges.now - c.loop-done.done)) (sym same) (known.back before) in
                let more : AreBack c.args.edges.now new k =
                back_more c.args.edges.now new (length c.args.edges.now - c.loop-done.done) k edge (omega arith) at (told.back no) all in
                let place : k ≡ length c.args.edges.now - (c.loop-done.done + 1) = omega arith in
                subst (AreBack c.args.edges.now new) place more;
            fewer = λ changed. subst (λ (l : List Bool). unset l < unset old) (sym same) (known.fewer (sym w.changed-is ∙ changed));
            same = λ still. same ∙ known.same (sym w.changed-is ∙ still);
          }
    ]
  where
    truth : (b : Bool) → (b ≡ true) ⊎ (b ≡ false)
    truth true = inl refl
    truth false = inr refl
