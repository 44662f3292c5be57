use Rattle.std.proofs.{Common.{◌≡◌, arith, Some, None, refl, sym, ◌∙◌}, lemmas.{Fmt.decimal_injective, Str.Pattern.split_parts}}
use Rattle.text_io.{specs.Schedule.{once, repeated}, proofs.ScheduleLemmas.{no_at, starred, unstarred}}
use Rattle.text_io.proofs.schedule.item.Goals as goal

pub returns-in_default-clause-none : goal.returns-in_default-clause-none
returns-in_default-clause-none c =
    unstarred c.args.text.now (no_at 42 c.args.text.now (split_parts 42 c.args.text.now None c.in-None.ensures.cases (omega arith))) c.in_default.ensures.none

pub returns-in_default-number-clause-none : goal.returns-in_default-number-clause-none
returns-in_default-number-clause-none c =
    let parts = split_parts 42 c.args.text.now (Some (c.in-Some.front, c.in-Some.back)) c.in-Some.ensures.cases (omega arith) in
    starred c.args.text.now c.in-Some.front.now c.in-Some.back.now parts.0 (no_at 42 c.in-Some.front.now parts.1)
    (λ f k l some few a b. c.in_default-number.ensures.none f l a)

pub returns-in_default-number-2-clause-none : goal.returns-in_default-number-2-clause-none
returns-in_default-number-2-clause-none c =
    let parts = split_parts 42 c.args.text.now (Some (c.in-Some.front, c.in-Some.back)) c.in-Some.ensures.cases (omega arith) in
    starred c.args.text.now c.in-Some.front.now c.in-Some.back.now parts.0 (no_at 42 c.in-Some.front.now parts.1)
    (λ f k l some few a b. c.in_default-number-2.ensures.none k few b)

pub returns-then-times-eq0-clause-none : goal.returns-then-times-eq0-clause-none
returns-then-times-eq0-clause-none c =
    let parts = split_parts 42 c.args.text.now (Some (c.in-Some.front, c.in-Some.back)) c.in-Some.ensures.cases (omega arith) in
    starred c.args.text.now c.in-Some.front.now c.in-Some.back.now parts.0 (no_at 42 c.in-Some.front.now parts.1) (λ f k l some few a b.
    let same : c.in-Some-number-3.times ≡ k =
    decimal_injective c.in-Some-number-3.times k (omega (arith, c.in-Some-number-3.ensures.found.0)) (omega arith)
    (sym c.in-Some-number-3.ensures.found.1 ∙ b) in
    omega arith)

pub returns-in-Some-number-clause-found : goal.returns-in-Some-number-clause-found
returns-in-Some-number-clause-found c =
    let found = c.in-Some-number.ensures.found in
    record { item = once c.in-Some-number.fiber; good = omega (arith, found.0); text_is = found.1; fiber_is = refl; times_is = refl }

pub returns-else-times-eq0-clause-found : goal.returns-else-times-eq0-clause-found
returns-else-times-eq0-clause-found c =
    let parts = split_parts 42 c.args.text.now (Some (c.in-Some.front, c.in-Some.back)) c.in-Some.ensures.cases (omega arith) in
    let fiber = c.in-Some-number-2.ensures.found in
    let times = c.in-Some-number-3.ensures.found in
    record {
      item = repeated c.in-Some-number-2.fiber c.in-Some-number-3.times;
      good = (omega (arith, fiber.0), omega arith, times.0);
      text_is = rw (← fiber.1, ← times.1) parts.0;
      fiber_is = refl;
      times_is = refl;
    }
