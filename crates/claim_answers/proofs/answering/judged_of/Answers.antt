use Rattle.std.proofs.Common.{◌∙◌, List, ap, drop, length, map, subst, sym, take}
use Rattle.std.specs.List.{All}
use Rattle.derived_ops.specs.Expansion.{code_of}
use Rattle.derived_ops.specs.Reading.{source_of}
use Rattle.every_schedule.specs.declared.claims.ClaimWord.{ClaimWord}
use Rattle.claim_answers.specs.declared.judging.Verdict.{Verdict}
use Rattle.claim_answers.specs.Claims.{IsDecided, Pairwise, all_set}
use Rattle.claim_answers.specs.Private.Met.{IsSpellable}
use Rattle.claim_answers.specs.Unchecked.{AreUnchecked}
use Rattle.claim_answers.specs.Verdicts.{AreLines, IsLine, claims_status}
use Rattle.claim_answers.specs.declared.moments.Among.TheVariants as among
use Rattle.claim_answers.proofs.Looks.{all_spellable}
use Rattle.claim_answers.proofs.Pairs.{pairs_back, pairs_front, pairs_length, twice}
use Rattle.claim_answers.proofs.answering.judged_of.Goals as goal

pub written-requires-clause-spelled : goal.written-requires-clause-spelled
written-requires-clause-spelled c =
    subst (All IsSpellable) (sym c.as_slice-2.ensures.value)
    (all_spellable (code_of (source_of c.args.program.now)) c.args.order.now.limits _ c.in_ok-verdicts.verdicts.items c.in_ok-verdicts.ensures)

pub written-requires-clause-length : goal.written-requires-clause-length
written-requires-clause-length c =
    ap length c.as_slice-2.ensures.value
    ∙ sym (pairs_length (IsDecided (code_of (source_of c.args.program.now)) c.args.order.now.limits) _ _ c.in_ok-verdicts.ensures)
    ∙ twice all_set c.args.soughts.items _ _ c.requires (c.as_slice.ensures.value ∙ c.in_ok-all.ensures)

pub returns : goal.returns
returns c =
    let R = IsDecided (code_of (source_of c.args.program.now)) c.args.order.now.limits in
    let soughts = c.args.soughts.items in
    let vs = c.in_ok-verdicts.verdicts.items in
    let it = c.in_ok-judged.judged in
    let h = subst (λ (l : List (List ClaimWord)). Pairwise R l vs) (c.as_slice.ensures.value ∙ c.in_ok-all.ensures) c.in_ok-verdicts.ensures in
    record {
      verdicts = take (length c.args.asked.now) vs;
      decided = subst (λ n. Pairwise R soughts (take n vs)) (sym c.requires) (pairs_front R soughts (map all_set soughts) vs h);
      moments = drop (length c.args.asked.now) vs;
      checked = subst (λ n. Pairwise R (map all_set soughts) (drop n vs)) (sym c.requires) (pairs_back R soughts (map all_set soughts) vs h);
      lines_are = subst (λ (l : List Verdict). AreLines (IsLine c.args.form) c.args.asked.now (take (length c.args.asked.now) l) it.lines.items)
          c.as_slice-2.ensures.value c.in_ok-judged.ensures.lines;
      status_is = c.in_ok-judged.ensures.status
          ∙ ap (λ (l : List Verdict). claims_status c.args.asked.now (take (length c.args.asked.now) l)) c.as_slice-2.ensures.value;
      notes_are = subst (λ (l : List Verdict). AreUnchecked among.All c.args.asked.now (drop (length c.args.asked.now) l) it.notes.items)
          c.as_slice-2.ensures.value c.in_ok-judged.ensures.notes;
    }
