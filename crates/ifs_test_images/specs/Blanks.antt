-- What is passed over in hexadecimal text.
use Rattle.std.specs.Prelude.{ℕ, Bool, ◌==◌, ◌&&◌, not}

-- A byte that is neither a space nor a newline.
abbrev pub is_no_blank : ℕ → Bool
is_no_blank byte = not (byte == 32) && not (byte == 10)
