use Rattle.std.proofs.Common.{◌≡◌, ℕ, ◌+◌, List, get_or, length, take, Ok, Err, inl, inr, sym, ap, ap₂, ◌∙◌, subst, arith}
use Rattle.std.proofs.lemmas.List.{take_all}
use Rattle.std.proofs.lemmas.List.Sums.{fold_more}
use Rattle.derived_ops.specs.Expansion.{code_of}
use Rattle.derived_ops.specs.Reading.{source_of}
use Rattle.world_search.specs.Systems.{entered, run}
use Rattle.every_schedule.specs.Claims.{View, first_view, noted, seeing, viewed}
use Rattle.every_schedule.specs.Places.{Place, first_place, stepped}
use Rattle.every_schedule.specs.Private.Looking.{AreFoundBelow, IsAt}
use Rattle.every_schedule.proofs.Looking.{adds_front, adds_none, adds_then, before_more, looked_all, looked_fault}
use Rattle.every_schedule.proofs.moments.note_met.Goals as goal

pub loop-place-init : goal.loop-place-init
loop-place-init c =
    let code = code_of (source_of c.args.program.now) in
    record {
      at = ap₂ (λ (p : Place) (l : List ℕ). let v : View = record { place = p; seen = l } in Ok v) (sym c.in_ok-world.ensures) (sym c.new-seen.ensures.items);
      added = adds_none code c.args.limits c.args.claims.now c.args.schedule.now c.args.met.now.items;
      found = λ n low. absurd (omega arith);
    }

pub loop-place-preserved : goal.loop-place-preserved
loop-place-preserved c =
    let known = c.loop-place.invariant in
    let code = code_of (source_of c.args.program.now) in
    let k = c.args.limits in
    let first = first_view (first_place code k) in
    let i = c.loop-place.place in
    let schedule = c.args.schedule.now in
    let claims = c.args.claims.now in
    let f = get_or schedule i 0 in
    let seen = c.loop-place.seen.items in
    let old = c.loop-place.met.items in
    let new = c.look.new.met.items in
    let at : IsAt code k c.loop-place.world c.as_slice.result.now (take i schedule) =
    subst (λ (s : List ℕ). IsAt code k c.loop-place.world s (take i schedule)) (sym c.as_slice.ensures.value) known.at in
    let more = c.in_ok-look.ensures.added code k at in
    let set = c.in_ok-note_ref.ensures ∙ ap (noted seen) c.stored_by-stored.ensures in
    record {
      at = fold_more (entered (viewed stepped)) (Ok first) schedule i 0 c.loop-place-test.true ∙
          ap (λ x. entered (viewed stepped) x f) known.at ∙ ap₂ seeing (sym set) c.in-Ok.ensures.goes;
      added = adds_then code k claims schedule c.args.met.now.items old new known.added (adds_front code k claims i schedule old new more);
      found = before_more code k claims schedule old new i more.more (c.in_ok-look.ensures.found code k at) known.found;
    }

pub returns-clause-kept : goal.returns-clause-kept
returns-clause-kept c =
    let known = c.loop-place.invariant in
    let code = code_of (source_of c.args.program.now) in
    let k = c.args.limits in
    let claims = c.args.claims.now in
    let schedule = c.args.schedule.now in
    let i = c.loop-place.place in
    let old = c.loop-place.met.items in
    let new = c.look-2.new.met.items in
    let whole : take i schedule ≡ schedule = take_all i schedule (omega arith) in
    let led = subst (λ (s : List ℕ). IsAt code k c.loop-place.world c.loop-place.seen.items s) whole known.at in
    let at : IsAt code k c.loop-place.world c.as_slice-2.result.now schedule =
    subst (λ (s : List ℕ). IsAt code k c.loop-place.world s schedule) (sym c.as_slice-2.ensures.value) led in
    let more = c.in_ok-look-2.ensures.added code k at in
    (adds_then code k claims schedule c.args.met.now.items old new known.added more).more

pub returns-clause-met : goal.returns-clause-met
returns-clause-met c =
    let known = c.loop-place.invariant in
    let code = code_of (source_of c.args.program.now) in
    let k = c.args.limits in
    let claims = c.args.claims.now in
    let schedule = c.args.schedule.now in
    let i = c.loop-place.place in
    let old = c.loop-place.met.items in
    let new = c.look-2.new.met.items in
    let whole : take i schedule ≡ schedule = take_all i schedule (omega arith) in
    let led = subst (λ (s : List ℕ). IsAt code k c.loop-place.world c.loop-place.seen.items s) whole known.at in
    let at : IsAt code k c.loop-place.world c.as_slice-2.result.now schedule =
    subst (λ (s : List ℕ). IsAt code k c.loop-place.world s schedule) (sym c.as_slice-2.ensures.value) led in
    let more = c.in_ok-look-2.ensures.added code k at in
    (adds_then code k claims schedule c.args.met.now.items old new known.added more).met

pub returns-clause-few : goal.returns-clause-few
returns-clause-few c =
    let known = c.loop-place.invariant in
    let code = code_of (source_of c.args.program.now) in
    let k = c.args.limits in
    let claims = c.args.claims.now in
    let schedule = c.args.schedule.now in
    let i = c.loop-place.place in
    let old = c.loop-place.met.items in
    let new = c.look-2.new.met.items in
    let whole : take i schedule ≡ schedule = take_all i schedule (omega arith) in
    let led = subst (λ (s : List ℕ). IsAt code k c.loop-place.world c.loop-place.seen.items s) whole known.at in
    let at : IsAt code k c.loop-place.world c.as_slice-2.result.now schedule =
    subst (λ (s : List ℕ). IsAt code k c.loop-place.world s schedule) (sym c.as_slice-2.ensures.value) led in
    let more = c.in_ok-look-2.ensures.added code k at in
    (adds_then code k claims schedule c.args.met.now.items old new known.added more).few

pub returns-clause-brief : goal.returns-clause-brief
returns-clause-brief c =
    let known = c.loop-place.invariant in
    let code = code_of (source_of c.args.program.now) in
    let k = c.args.limits in
    let claims = c.args.claims.now in
    let schedule = c.args.schedule.now in
    let i = c.loop-place.place in
    let old = c.loop-place.met.items in
    let new = c.look-2.new.met.items in
    let whole : take i schedule ≡ schedule = take_all i schedule (omega arith) in
    let led = subst (λ (s : List ℕ). IsAt code k c.loop-place.world c.loop-place.seen.items s) whole known.at in
    let at : IsAt code k c.loop-place.world c.as_slice-2.result.now schedule =
    subst (λ (s : List ℕ). IsAt code k c.loop-place.world s schedule) (sym c.as_slice-2.ensures.value) led in
    let more = c.in_ok-look-2.ensures.added code k at in
    (adds_then code k claims schedule c.args.met.now.items old new known.added more).brief

pub returns-clause-looked : goal.returns-clause-looked
returns-clause-looked c =
    let known = c.loop-place.invariant in
    let code = code_of (source_of c.args.program.now) in
    let k = c.args.limits in
    let claims = c.args.claims.now in
    let schedule = c.args.schedule.now in
    let i = c.loop-place.place in
    let old = c.loop-place.met.items in
    let new = c.look-2.new.met.items in
    let whole : take i schedule ≡ schedule = take_all i schedule (omega arith) in
    let led = subst (λ (s : List ℕ). IsAt code k c.loop-place.world c.loop-place.seen.items s) whole known.at in
    let at : IsAt code k c.loop-place.world c.as_slice-2.result.now schedule =
    subst (λ (s : List ℕ). IsAt code k c.loop-place.world s schedule) (sym c.as_slice-2.ensures.value) led in
    let more = c.in_ok-look-2.ensures.added code k at in
    let found = subst (λ (s : List ℕ). AreFoundBelow code k claims s new (length claims)) (sym whole) (c.in_ok-look-2.ensures.found code k at) in
    looked_all code k claims schedule new (i + 1) (omega arith) (before_more code k claims schedule old new i more.more found known.found)

pub returns-in-Err-clause-kept : goal.returns-in-Err-clause-kept
returns-in-Err-clause-kept c =
    let known = c.loop-place.invariant in
    let code = code_of (source_of c.args.program.now) in
    let k = c.args.limits in
    let claims = c.args.claims.now in
    let schedule = c.args.schedule.now in
    let i = c.loop-place.place in
    let old = c.loop-place.met.items in
    let new = c.look.new.met.items in
    let at : IsAt code k c.loop-place.world c.as_slice.result.now (take i schedule) =
    subst (λ (s : List ℕ). IsAt code k c.loop-place.world s (take i schedule)) (sym c.as_slice.ensures.value) known.at in
    let more = c.in_ok-look.ensures.added code k at in
    (adds_then code k claims schedule c.args.met.now.items old new known.added (adds_front code k claims i schedule old new more)).more

pub returns-in-Err-clause-met : goal.returns-in-Err-clause-met
returns-in-Err-clause-met c =
    let known = c.loop-place.invariant in
    let code = code_of (source_of c.args.program.now) in
    let k = c.args.limits in
    let claims = c.args.claims.now in
    let schedule = c.args.schedule.now in
    let i = c.loop-place.place in
    let old = c.loop-place.met.items in
    let new = c.look.new.met.items in
    let at : IsAt code k c.loop-place.world c.as_slice.result.now (take i schedule) =
    subst (λ (s : List ℕ). IsAt code k c.loop-place.world s (take i schedule)) (sym c.as_slice.ensures.value) known.at in
    let more = c.in_ok-look.ensures.added code k at in
    (adds_then code k claims schedule c.args.met.now.items old new known.added (adds_front code k claims i schedule old new more)).met

pub returns-in-Err-clause-few : goal.returns-in-Err-clause-few
returns-in-Err-clause-few c =
    let known = c.loop-place.invariant in
    let code = code_of (source_of c.args.program.now) in
    let k = c.args.limits in
    let claims = c.args.claims.now in
    let schedule = c.args.schedule.now in
    let i = c.loop-place.place in
    let old = c.loop-place.met.items in
    let new = c.look.new.met.items in
    let at : IsAt code k c.loop-place.world c.as_slice.result.now (take i schedule) =
    subst (λ (s : List ℕ). IsAt code k c.loop-place.world s (take i schedule)) (sym c.as_slice.ensures.value) known.at in
    let more = c.in_ok-look.ensures.added code k at in
    (adds_then code k claims schedule c.args.met.now.items old new known.added (adds_front code k claims i schedule old new more)).few

pub returns-in-Err-clause-brief : goal.returns-in-Err-clause-brief
returns-in-Err-clause-brief c =
    let known = c.loop-place.invariant in
    let code = code_of (source_of c.args.program.now) in
    let k = c.args.limits in
    let claims = c.args.claims.now in
    let schedule = c.args.schedule.now in
    let i = c.loop-place.place in
    let old = c.loop-place.met.items in
    let new = c.look.new.met.items in
    let at : IsAt code k c.loop-place.world c.as_slice.result.now (take i schedule) =
    subst (λ (s : List ℕ). IsAt code k c.loop-place.world s (take i schedule)) (sym c.as_slice.ensures.value) known.at in
    let more = c.in_ok-look.ensures.added code k at in
    (adds_then code k claims schedule c.args.met.now.items old new known.added (adds_front code k claims i schedule old new more)).brief

pub returns-in-Err-clause-looked : goal.returns-in-Err-clause-looked
returns-in-Err-clause-looked c =
    let known = c.loop-place.invariant in
    let code = code_of (source_of c.args.program.now) in
    let k = c.args.limits in
    let claims = c.args.claims.now in
    let schedule = c.args.schedule.now in
    let i = c.loop-place.place in
    let old = c.loop-place.met.items in
    let new = c.look.new.met.items in
    let at : IsAt code k c.loop-place.world c.as_slice.result.now (take i schedule) =
    subst (λ (s : List ℕ). IsAt code k c.loop-place.world s (take i schedule)) (sym c.as_slice.ensures.value) known.at in
    let more = c.in_ok-look.ensures.added code k at in
    let first = first_view (first_place code k) in
    let f = get_or schedule i 0 in
    let set = c.in_ok-note_ref.ensures ∙ ap (noted c.loop-place.seen.items) c.stored_by-stored.ensures in
    let stopped : stepped c.loop-place.world f ≡ Err c.in-Err.fault = elim c.in-Err.ensures.stops [
      | inl lacks ↦ absurd (c.is_memory.ensures c.if-is_memory.false lacks)
      | inr is ↦ is
    ] in
    let stop : run (viewed stepped) (Ok first) (take (i + 1) schedule) ≡ Err c.in-Err.fault =
    fold_more (entered (viewed stepped)) (Ok first) schedule i 0 c.loop-place-test.true ∙ ap (λ x. entered (viewed stepped) x f) known.at
    ∙ ap₂ seeing (sym set) stopped in
    looked_fault code k claims schedule new (i + 1) c.in-Err.fault stop
    (before_more code k claims schedule old new i more.more (c.in_ok-look.ensures.found code k at) known.found)
