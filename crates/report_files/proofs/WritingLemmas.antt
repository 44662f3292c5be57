-- A write that writes nothing.
use Rattle.std.proofs.Common.{◌≡◌, ℕ, List, Option, None, Some}
use Rattle.std.specs.Io.KnownBytes.{Appends, Keeps}

pub appends_none : (a b c : Option (List ℕ)) (x : List ℕ) → Appends a b x → Keeps b c → Appends a c x
appends_none None b c x h k = tt
appends_none (Some p) None c x h k = absurd h
appends_none (Some p) (Some q) None x h k = absurd k
appends_none (Some p) (Some q) (Some r) x h k = rw k h
