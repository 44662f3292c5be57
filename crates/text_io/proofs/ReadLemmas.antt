-- What a text's reads come to.
use Rattle.std.proofs.{Common.{◌≡◌, ◌≢◌, ◌+◌, ◌≤◌, ◌<◌, ◌||◌, ℕ, Bool, true, false, List, length, take, arith, refl, ne_eqb}, lemmas.List.length-take}
use Rattle.std.{proofs.lemmas.List.length-take-le, specs.{Prelude.Ok, Io.KnownBytes.Consumes}}
use Rattle.text_io.specs.{Device.found_end, Devices.Reader, Exchange.{IsOutOfReads, IsRead}}

-- what told of no end
pub or-false : (old : Bool) → (old || false) ≡ old
or-false true = refl
or-false false = refl

-- some bytes aren't the end
pub found_end-some : (old : Bool) (n : ℕ) (buffer : List ℕ) → n ≢ 0 → (old || found_end (Ok n) buffer) ≡ old
found_end-some true n buffer some = refl
found_end-some false n buffer some = rw (ne_eqb n 0 some) refl

-- the buffer is full
pub read_full : (before after : Reader) (k : ℕ) (buffer : List ℕ) → k ≡ 65537 → k ≤ length buffer →
    Consumes before.remaining after.remaining (take k buffer) → IsRead before after (take k buffer)
read_full before after k buffer is fits taken =
    let long = length-take-le k buffer fits in
    record { taken = taken; bound = omega arith; ended = λ short. absurd (omega arith) }

-- the reads ran out
pub ran_out : (before after : Reader) (k n : ℕ) (buffer : List ℕ) → k < 65537 → 65537 ≤ n → n ≤ 65537 → after.reads ≡ before.reads + n →
    after.ended ≡ before.ended → Consumes before.remaining after.remaining (take k buffer) → IsOutOfReads before after
ran_out before after k n buffer below least most reads ended taken =
    let long = length-take k buffer in
    record { text = take k buffer; taken = taken; short = omega arith; unended = ended; reads = omega arith }
