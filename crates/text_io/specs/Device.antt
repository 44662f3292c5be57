-- When a read or a write of a device has failed, and when a read has found the end.
use Rattle.std.specs.Prelude.{◌==◌, ◌&&◌, ℕ, Bool, true, false, List, length, nat_lt, Result, Ok, Err}
use Rattle.text_io.specs.declared.device.ReadError.{ReadError}
use Rattle.text_io.specs.declared.device.ReadError.TheVariants.{Interrupted, Failed}

-- the read reported a failure; an interrupted read is tried again instead
abbrev pub read_failed : Result ℕ ReadError → Bool
read_failed (Ok n) = false
read_failed (Err Interrupted) = false
read_failed (Err Failed) = true

-- the read took no bytes, though there was room for some
abbrev pub found_end : Result ℕ ReadError → List ℕ → Bool
found_end (Ok n) buffer = (n == 0) && nat_lt 0 (length buffer)
found_end (Err e) buffer = false

-- the write returned no count, or took none of some bytes
abbrev pub write_failed : {E : Type 0} → Result ℕ E → List ℕ → Bool
write_failed (Ok n) bytes = (n == 0) && nat_lt 0 (length bytes)
write_failed (Err e) bytes = true
