use Rattle.std.proofs.Common.{◌∙◌, List, ap, drop, length, map, subst, sym, take}
use Rattle.std.specs.List.{All}
use Rattle.derived_ops.specs.Expansion.{code_of}
use Rattle.derived_ops.specs.Reading.{source_of}
use Rattle.every_schedule.specs.declared.claims.ClaimWord.{ClaimWord}
use Rattle.claim_answers.specs.declared.judging.Verdict.{Verdict}
use Rattle.claim_answers.specs.declared.moments.Among.TheVariants as among
use Rattle.claim_answers.specs.Claims.{Pairwise, all_set}
use Rattle.claim_answers.specs.Drawn.{IsSeen, IsSeenLine, seen_status}
use Rattle.claim_answers.specs.Private.Met.{IsSpellable}
use Rattle.claim_answers.specs.Unchecked.{AreUnchecked}
use Rattle.claim_answers.specs.Verdicts.{AreLines}
use Rattle.claim_answers.proofs.Pairs.{pairs_back, pairs_front, pairs_length, twice}
use Rattle.claim_answers.proofs.Seen.{seen_spellable}
use Rattle.claim_answers.proofs.sampling.seen_of.Goals as goal

pub written-requires-clause-spelled : goal.written-requires-clause-spelled
written-requires-clause-spelled c =
    let by = c.in_ok-verdicts.ensures in
    subst (All IsSpellable) (sym c.as_slice-2.ensures.value)
    (seen_spellable (code_of (source_of c.args.program.now)) c.args.order.now.limits by.drawn _ c.in_ok-verdicts.verdicts.items by.seen)

pub written-requires-clause-length : goal.written-requires-clause-length
written-requires-clause-length c =
    let by = c.in_ok-verdicts.ensures in
    ap length c.as_slice-2.ensures.value
    ∙ sym (pairs_length (IsSeen (code_of (source_of c.args.program.now)) c.args.order.now.limits by.drawn) _ _ by.seen)
    ∙ twice all_set c.args.soughts.items _ _ c.requires (c.as_slice.ensures.value ∙ c.in_ok-all.ensures)

pub returns : goal.returns
returns c =
    let by = c.in_ok-verdicts.ensures in
    let R = IsSeen (code_of (source_of c.args.program.now)) c.args.order.now.limits by.drawn in
    let soughts = c.args.soughts.items in
    let vs = c.in_ok-verdicts.verdicts.items in
    let it = c.in_ok-seen.seen in
    let h = subst (λ (l : List (List ClaimWord)). Pairwise R l vs) (c.as_slice.ensures.value ∙ c.in_ok-all.ensures) by.seen in
    record {
      drawn = by.drawn;
      many = by.many;
      each = by.each;
      verdicts = take (length c.args.asked.now) vs;
      seen = subst (λ n. Pairwise R soughts (take n vs)) (sym c.requires) (pairs_front R soughts (map all_set soughts) vs h);
      moments = drop (length c.args.asked.now) vs;
      checked = subst (λ n. Pairwise R (map all_set soughts) (drop n vs)) (sym c.requires) (pairs_back R soughts (map all_set soughts) vs h);
      lines_are = subst
          (λ (l : List Verdict). AreLines (IsSeenLine c.args.json c.args.order.now.times) c.args.asked.now (take (length c.args.asked.now) l) it.lines.items)
          c.as_slice-2.ensures.value c.in_ok-seen.ensures.lines;
      status_is = c.in_ok-seen.ensures.status
          ∙ ap (λ (l : List Verdict). seen_status c.args.asked.now (take (length c.args.asked.now) l)) c.as_slice-2.ensures.value;
      notes_are = subst (λ (l : List Verdict). AreUnchecked among.Drawn c.args.asked.now (drop (length c.args.asked.now) l) it.notes.items)
          c.as_slice-2.ensures.value c.in_ok-seen.ensures.notes;
    }
