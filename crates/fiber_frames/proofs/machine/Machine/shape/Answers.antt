use Rattle.fiber_frames.proofs.Prelude.{◌≡◌, ◌+◌, ℕ, suc, List, length, map, refl, ap, ap₂, ◌∙◌, arith, rules, EnvEntry, Frame, Machine, entry_placed}
use Rattle.fiber_frames.proofs.Prelude.{frame_placed, path_masks, stage_placed}
use Rattle.fiber_frames.proofs.Shaping.{shape_unmarked}
use Rattle.fiber_frames.proofs.machine.Machine.shape.Goals as goal

pub returns : goal.returns
returns c =
    let m : Machine = c.args.self.now in
    let path : c.as_slice-masks.result.now ≡ path_masks m.stage m.frames.items =
    c.as_slice-masks.ensures.value ∙ c.in_ok-path.ensures ∙ ap (path_masks m.stage) c.as_slice.ensures.value in
    let n : Machine = record {
      own = m.own;
      look = m.look;
      words = c.in_ok-try_clone.field-0;
      place = m.place;
      stage = c.place_stage.result;
      next = length c.as_slice-masks.result.now + 1;
      frames = c.in_ok-place_frames.field-0;
      masks = c.new.result;
      env = c.in_ok-place_entries.field-0;
      finalizers = c.in_ok-from_slice.field-0;
      marks = c.new-2.result;
    } in
    let words : c.in_ok-try_clone.field-0.value ≡ m.words.value = search rules in
    let many : length (path_masks m.stage m.frames.items) + 1 ≡ suc (length (path_masks m.stage m.frames.items)) = omega arith in
    shape_unmarked m n refl refl words refl
    (c.place_stage.ensures ∙ ap (λ (l : List ℕ). stage_placed m.own l m.stage) path)
    (ap (λ (l : List ℕ). length l + 1) path ∙ many)
    (c.in_ok-place_frames.ensures ∙ ap₂ (λ (l : List ℕ) (fs : List Frame). map (frame_placed m.own l) fs) path c.as_slice-2.ensures.value)
    (c.in_ok-place_entries.ensures ∙ ap₂ (λ (l : List ℕ) (es : List EnvEntry). map (entry_placed m.own l) es) path c.as_slice-3.ensures.value)
    (c.in_ok-from_slice.ensures.items ∙ c.as_slice-4.ensures.value)
    c.new-2.ensures.items
