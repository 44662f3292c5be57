-- What contracts see of a program's devices: the input, the output, and the device for faults.
use Rattle.std.specs.Prelude.{ℕ, Bool, List, Option}

-- the bytes that reads will give, if they are known, whether a read has failed, whether one has found the end of the
-- input, and the number of reads
pub record Reader : Type 0 where
  pub remaining : Option (List ℕ)
  pub failed : Bool
  pub ended : Bool
  pub reads : ℕ

-- the bytes that were written, if they are known, and whether a write has failed
pub record Writer : Type 0 where
  pub contents : Option (List ℕ)
  pub failed : Bool

pub record Devices : Type 0 where
  pub input : Reader
  pub out : Writer
  pub err : Writer

abbrev pub reader : Option (List ℕ) → Bool → Bool → ℕ → Reader
reader remaining failed ended reads = record { remaining = remaining; failed = failed; ended = ended; reads = reads }

abbrev pub writer : Option (List ℕ) → Bool → Writer
writer contents failed = record { contents = contents; failed = failed }

abbrev pub devices : Reader → Writer → Writer → Devices
devices input out err = record { input = input; out = out; err = err }
