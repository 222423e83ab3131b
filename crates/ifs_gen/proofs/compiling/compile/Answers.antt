-- The fifth byte of an image is its version.
use Rattle.std.proofs.Common.{◌≡◌, ℕ, List, Some, ap}
use Rattle.std.specs.Prelude.{slice_get}
use Rattle.ifs_image.specs.Spelling.{Spells, image_bytes, front_bytes}
use Rattle.ifs_gen.specs.Trees.{Policy}
use Rattle.ifs_gen.specs.PolicyImage.{image_of}
use Rattle.ifs_gen.proofs.compiling.compile.Goals as goal

has_version : (bytes : List ℕ) (policy : Policy) → Spells bytes (image_of policy) → slice_get bytes 4 ≡ Some 1
unfolding image_bytes front_bytes
has_version bytes policy spelled = ap (λ (b : List ℕ). slice_get b 4) spelled.bytes_are

pub returns-in-Ok-clause-version : goal.returns-in-Ok-clause-version
returns-in-Ok-clause-version c = has_version c.in-Ok.field-0.bytes.items c.in-Ok.ensures.compiled.policy c.in-Ok.ensures.compiled.spelled
