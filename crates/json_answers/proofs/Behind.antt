-- Items after others, one more at a time.
use Rattle.std.proofs.{Common.{◌≡◌, ℕ, ◌+◌, ◌<◌, ◌≤◌, List, [], ◌∷◌, ◌++◌, length, drop, get_or, refl, sym, ap, ◌∙◌}, lemmas.List.drop_all}
use Rattle.fiber_frames.specs.declared.mark.Mark.{Mark}
use Rattle.scheduled_core.specs.declared.report.FiberReport.{FiberReport}
use Rattle.exploration_text.proofs.Parts.{from_here}
use Rattle.serde_json.specs.{Data.{Items, no_items, item}, View.{items_view, view}, declared.value.Value.Value}
use Rattle.json_answers.specs.ReportData.{fiber_data, fibers_items, mark_data, marks_items}

abbrev pub items_behind : Items → Items → Items
items_behind no_items more = more
items_behind (item d ds) more = item d (items_behind ds more)

behind_one : (vs : List Value) (v : Value) (more : Items) → items_behind (items_view (vs ++ v ∷ [])) more ≡ items_behind (items_view vs) (item (view v) more)
behind_one [] v more = refl
behind_one (x ∷ vs) v more = ap (λ ds. item (view x) ds) (behind_one vs v more)

pub behind_none : (ds : Items) → items_behind ds no_items ≡ ds
behind_none no_items = refl
behind_none (item d ds) = ap (λ es. item d es) (behind_none ds)

pub one_mark : (all : List Mark) (i : ℕ) (m : Mark) (vs new : List Value) (v : Value) → i < length all → m ≡ get_or all i m →
    view v ≡ mark_data m → new ≡ vs ++ v ∷ [] → items_behind (items_view vs) (marks_items (drop i all)) ≡ marks_items all →
    items_behind (items_view new) (marks_items (drop (i + 1) all)) ≡ marks_items all
one_mark all i m vs new v low at is new_is so =
    let rest = marks_items (drop (i + 1) all) in
    ap (λ xs. items_behind (items_view xs) rest) new_is ∙ behind_one vs v rest
    ∙ ap (λ d. items_behind (items_view vs) (item d rest)) is
    ∙ ap (λ ms. items_behind (items_view vs) (marks_items ms)) (sym (from_here all i m low at)) ∙ so

pub all_marks : (all : List Mark) (i : ℕ) (vs : List Value) → length all ≤ i →
    items_behind (items_view vs) (marks_items (drop i all)) ≡ marks_items all → items_view vs ≡ marks_items all
all_marks all i vs past so =
    sym (behind_none (items_view vs)) ∙ ap (λ ms. items_behind (items_view vs) (marks_items ms)) (sym (drop_all i all past)) ∙ so

pub one_fiber : (all : List FiberReport) (i : ℕ) (f : FiberReport) (vs new : List Value) (v : Value) → i < length all → f ≡ get_or all i f →
    view v ≡ fiber_data i f → new ≡ vs ++ v ∷ [] → items_behind (items_view vs) (fibers_items i (drop i all)) ≡ fibers_items 0 all →
    items_behind (items_view new) (fibers_items (i + 1) (drop (i + 1) all)) ≡ fibers_items 0 all
one_fiber all i f vs new v low at is new_is so =
    let rest = fibers_items (i + 1) (drop (i + 1) all) in
    ap (λ xs. items_behind (items_view xs) rest) new_is ∙ behind_one vs v rest
    ∙ ap (λ d. items_behind (items_view vs) (item d rest)) is
    ∙ ap (λ fs. items_behind (items_view vs) (fibers_items i fs)) (sym (from_here all i f low at)) ∙ so

pub all_fibers : (all : List FiberReport) (i : ℕ) (vs : List Value) → length all ≤ i →
    items_behind (items_view vs) (fibers_items i (drop i all)) ≡ fibers_items 0 all → items_view vs ≡ fibers_items 0 all
all_fibers all i vs past so =
    sym (behind_none (items_view vs)) ∙ ap (λ fs. items_behind (items_view vs) (fibers_items i fs)) (sym (drop_all i all past)) ∙ so
