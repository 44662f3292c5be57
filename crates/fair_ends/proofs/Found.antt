-- What holds of a value that was found.
use Rattle.std.{proofs.Common.{◌≡◌, Option, Some, Result, Ok, Err, subst}, specs.Prelude.{IfOk, IfSome}}

pub if_some : {A : Type 0} (P : A → Type 0) (o : Option A) (a : A) → o ≡ Some a → IfSome o P → P a
if_some P o a is h = subst (λ x. IfSome x P) is h

-- what holds of a result, and what follows from it
pub if_ok : {A E : Type 0} {P Q : A → Type 0} (r : Result A E) → ((a : A) → P a → Q a) → IfOk r P → IfOk r Q
if_ok (Ok a) f h = f a h
if_ok (Err e) f h = h
