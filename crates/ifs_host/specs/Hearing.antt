-- What the lines of a client say that are heard, but not served: whether `stop` is among them, before a line `reload`.
use Rattle.std.specs.Prelude.{◌==◌, if◌then◌else◌, ◌||◌, ℕ, Bool, true, false, List, [], ◌∷◌, ◌++◌, length, codes, Option, Some, None}
use Rattle.std.specs.Str.{bytes_eq}
use Rattle.ifs_host.specs.declared.client_lines.Heard.{Heard}
use Rattle.ifs_host.specs.declared.client_lines.Heard.TheVariants.{Nothing, Stop, End}

-- What a line says, by its first 7 bytes. The last line ends with the input.
abbrev pub said_by : List ℕ → Bool → Heard
said_by front is_last =
    if bytes_eq front (codes "stop") then Stop else
    if bytes_eq front (codes "reload") || is_last then End else Nothing

-- The first 7 bytes of a line, after a further byte.
abbrev pub with_byte : ℕ → List ℕ → List ℕ
with_byte byte front = if length front == 7 then front else front ++ byte ∷ []

-- What the next byte says, or the end of input, after the first bytes of its line.
abbrev pub hears : Option ℕ → List ℕ → Heard
hears None front = said_by front true
hears (Some byte) front = if byte == 10 then said_by front false else Nothing

-- The first bytes of the line, after the next byte or the end of input.
abbrev pub heard_front : Option ℕ → List ℕ → List ℕ
heard_front None front = []
heard_front (Some byte) front = if byte == 10 then [] else with_byte byte front
