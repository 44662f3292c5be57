-- An answer that is left out for its length leads to an end that isn't listed: it is added to the others, and ends stay apart.
use Rattle.std.proofs.{Common.{◌≡◌, ◌≢◌, ℕ, zero, suc, ◌+◌, List, ◌∷◌, length, Result, Ok, Err, refl, sym, ap, ◌∙◌, subst, arith}, lemmas.Option.same_Some}
use Rattle.std.specs.{Prelude.Some, List.{All, slice_get}}
use Rattle.derived_ops.specs.Tree.{Tree}
use Rattle.cell_registry.specs.declared.limits.{Limits.Limits, RunError.RunError}
use Rattle.scheduled_core.specs.declared.report.Report.{Report}
use Rattle.world_search.specs.declared.{answers.Answer.Answer as Found, landings.Landing.Landing}
use Rattle.every_schedule.specs.{declared.{exploration.Answer.Answer, leaping.AtOnce.AtOnce}, Explored.{IsPastBound, IsReached, ListOnce}, Places.{Kept, Place}}
use Rattle.every_schedule.specs.{Places.{first_place, report_at, stepped}, Persistent.chosen, Private.{Keeping.AreSingle, Telling.{AreTold, IsEnd, IsTold}}}
use Rattle.every_schedule.{specs.Private.Trails.{AreUnfolded, EndApart, EndsAlone, IsLeftOut, IsUnfoldedOf}, proofs.Told.{all_at, first_moves, once, reached}}
use Rattle.every_schedule.proofs.Trails.{right, unfolded_once}
use Rattle.world_search.specs.declared.landings.Landing.TheVariants as to
use Rattle.world_search.specs.Answers as search

-- the report or fault to which a schedule leads
end_of : (kept : Kept) (first : Place) (s : List ℕ) (l : Landing) → search.LeadsTo stepped report_at kept.places kept.faults first s l →
    (end : Result Report RunError) × IsEnd kept l end
end_of kept first s (to.World j) h = (Ok (report_at h.0), (h.0, h.1, refl))
end_of kept first s (to.Fault j) h = (Err h.0, (h.0, h.1, refl))

module _ (n : AtOnce) (most : ℕ) (first : Place) (raw found : List Found) (a : Found) (each : AreUnfolded n most first raw found)
    (out : IsLeftOut n most first raw a) where
  -- with a higher bound on entries, the answer that was left out is among the others
  all_unfolded : AreUnfolded n (most + length a.schedule.items) first raw (a ∷ found)
  all_unfolded zero x e = subst (IsUnfoldedOf n (most + length a.schedule.items) first raw) (same_Some a x e) (record {
    number = out.number;
    answer = out.answer;
    at = out.at;
    end = out.end;
    entries = out.entries;
    short = omega arith;
  })
  all_unfolded (suc i) x e =
      let u = each i x e in
      let short = u.short in record {
        number = u.number;
        answer = u.answer;
        at = u.at;
        end = u.end;
        entries = u.entries;
        short = omega arith;
      }

all_apart : (found : List Found) (a : Found) → EndApart found → EndsAlone a found → EndApart (a ∷ found)
all_apart found a apart alone zero zero x y ex ey same = refl
all_apart found a apart alone zero (suc j) x y ex ey same =
    absurd (all_at (λ b. b.end ≢ a.end) found j y ey alone (sym same ∙ ap (λ (b : Found). b.end) (sym (same_Some a x ex))))
all_apart found a apart alone (suc i) zero x y ex ey same =
    absurd (all_at (λ b. b.end ≢ a.end) found i x ex alone (same ∙ ap (λ (b : Found). b.end) (sym (same_Some a y ey))))
all_apart found a apart alone (suc i) (suc j) x y ex ey same = ap suc (apart i j x y ex ey same)

all_told : (kept : Kept) (found : List Found) (answers : List Answer) (a : Found) (one : Answer) → IsTold kept a one → AreTold kept found answers →
    AreTold kept (a ∷ found) (one ∷ answers)
all_told kept found answers a one is told = record {
  many = ap suc told.many;
  each = each_told;
} where
  each_told : (i : ℕ) (f : Found) (b : Answer) → slice_get (a ∷ found) i ≡ Some f → slice_get (one ∷ answers) i ≡ Some b → IsTold kept f b
  each_told zero f b ef eb = subst (λ x. IsTold kept x b) (same_Some a f ef) (subst (IsTold kept a) (same_Some one b eb) is)
  each_told (suc i) f b ef eb = told.each i f b ef eb

-- an answer that is left out leads to an end that isn't listed
pub past_bound : (code : Tree) (k : Limits) (kept : Kept) (n : AtOnce) (most : ℕ) (raw found : List Found) (answers : List Answer) (a : Found) →
    AreTold kept found answers → AreSingle kept.faults → AreUnfolded n most (first_place code k) raw found →
    All (search.IsRight (chosen n) report_at kept.places kept.faults (first_place code k)) raw →
    search.TellOnce report_at kept.places raw → EndApart found → IsLeftOut n most (first_place code k) raw a → EndsAlone a found →
    IsPastBound code k most answers
past_bound code k kept n most raw found answers a told single each its once_raw apart out alone =
    let first = first_place code k in
    let big = most + length a.schedule.items in
    let units = all_unfolded n most first raw found a each out in
    let rights = right kept first n big raw (a ∷ found) units its in
    let once_all = unfolded_once kept first n big raw (a ∷ found) units once_raw (all_apart found a apart alone) in
    let leads = all_at (search.IsRight stepped report_at kept.places kept.faults first) (a ∷ found) 0 a refl rights in
    let end = end_of kept first a.schedule.items a.end leads in
    let one : Answer = record { schedule = a.schedule.items; end = end.0 } in
    let told_all = all_told kept found answers a one (record { schedule = refl; ends = end.1 }) told in
    let led : IsReached code k one =
    all_at (IsReached code k) (one ∷ answers) 0 one refl (reached kept (a ∷ found) (one ∷ answers) told_all code k rights) in
    let list : ListOnce (one ∷ answers) = once kept (a ∷ found) (one ∷ answers) told_all single once_all in record {
      schedule = a.schedule.items;
      moves = first_moves code k a.schedule.items out.entries.moves;
      long = out.long;
      settled = led.settled;
      unlisted = λ l. list 0 (suc l.0) one l.1 (omega arith) refl l.2 (sym led.reached ∙ sym l.3);
    }
