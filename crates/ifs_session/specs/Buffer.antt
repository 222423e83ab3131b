-- Readers with a buffer over readers of std.
use Rattle.std.specs.Prelude.{ℕ, List, Option, slice_range}
use Rattle.std.specs.Io.KnownBytes.{prepend_known}
use Rattle.ifs_session.specs.declared.std_devices.FromRead.{FromRead}

-- The bytes in the buffer: they were read from the reader below and not returned yet.
abbrev pub buffered : {R : Type 0} → FromRead R → List ℕ
buffered r = slice_range r.buffer r.start r.end

-- All the bytes that are left, if the reader below reports its own.
abbrev pub left_over : {R : Type 0} → (R → Option (List ℕ)) → FromRead R → Option (List ℕ)
left_over remaining r = prepend_known (buffered r) (remaining r.reader)
