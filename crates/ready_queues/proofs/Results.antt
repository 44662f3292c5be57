-- What a result that is told by cases says of one case.
use Rattle.std.proofs.Common.{Result, Ok, Err, MatchResult, OnOk}

pub ok_of : {A E : Type 0} (r : Result A E) (P : Type 0) (Q : E → Type 0) → MatchResult r (λ _. P) Q → OnOk r P
ok_of (Ok x) P Q h = h
ok_of (Err e) P Q h = tt

pub ok_of_first : {A E : Type 0} (r : Result A E) (P X : Type 0) (Q : E → Type 0) → MatchResult r (λ _. P × X) Q → OnOk r P
ok_of_first (Ok x) P X Q h = h.0
ok_of_first (Err e) P X Q h = tt
