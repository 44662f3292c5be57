-- The values of fibers without marks, one at a time.
use Rattle.std.proofs.{Common.{◌≡◌, ℕ, ◌+◌, ◌<◌, ◌≤◌, List, [], ◌∷◌, ◌++◌, length, drop, get_or, refl, sym, ap, ◌∙◌}, lemmas.List.drop_all}
use Rattle.scheduled_core.specs.declared.report.FiberReport.{FiberReport}
use Rattle.exploration_text.proofs.Parts.{from_here}
use Rattle.serde_json.specs.{Data.{Items, item}, View.{items_view, view}, declared.value.Value.Value}
use Rattle.json_answers.proofs.Behind.{behind_none, items_behind}
use Rattle.outcome_answers.specs.OutcomesData.{bare_fiber, bare_items}

behind_one : (vs : List Value) (v : Value) (more : Items) → items_behind (items_view (vs ++ v ∷ [])) more ≡ items_behind (items_view vs) (item (view v) more)
behind_one [] v more = refl
behind_one (x ∷ vs) v more = ap (λ ds. item (view x) ds) (behind_one vs v more)

pub one_fiber : (all : List FiberReport) (i : ℕ) (f : FiberReport) (vs new : List Value) (v : Value) → i < length all → f ≡ get_or all i f →
    view v ≡ bare_fiber i f.outcome → new ≡ vs ++ v ∷ [] → items_behind (items_view vs) (bare_items i (drop i all)) ≡ bare_items 0 all →
    items_behind (items_view new) (bare_items (i + 1) (drop (i + 1) all)) ≡ bare_items 0 all
one_fiber all i f vs new v low at is new_is so =
    let rest = bare_items (i + 1) (drop (i + 1) all) in
    ap (λ xs. items_behind (items_view xs) rest) new_is ∙ behind_one vs v rest
    ∙ ap (λ d. items_behind (items_view vs) (item d rest)) is
    ∙ ap (λ fs. items_behind (items_view vs) (bare_items i fs)) (sym (from_here all i f low at)) ∙ so

pub all_fibers : (all : List FiberReport) (i : ℕ) (vs : List Value) → length all ≤ i →
    items_behind (items_view vs) (bare_items i (drop i all)) ≡ bare_items 0 all → items_view vs ≡ bare_items 0 all
all_fibers all i vs past so =
    sym (behind_none (items_view vs)) ∙ ap (λ fs. items_behind (items_view vs) (bare_items i fs)) (sym (drop_all i all past)) ∙ so
