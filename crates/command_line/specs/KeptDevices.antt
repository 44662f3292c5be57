-- What contracts see of an input that keeps what was read from it.
use Rattle.std.specs.Prelude.{ℕ, List}
use Rattle.command_line.specs.declared.kept_devices.KeptInput.{KeptInput}

-- the input from which the bytes are read
abbrev pub input_of : {I : Type 0} → KeptInput I → I
input_of d = d.inner

-- the bytes that were read from it and kept
abbrev pub text_of : {I : Type 0} → KeptInput I → List ℕ
text_of d = d.text.items
