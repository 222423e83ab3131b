-- Texts without the words of a comment.
use Rattle.std.proofs.Common.{◌≡◌, ℕ, false, List, Option, Some, None, refl}
use Rattle.std.specs.Prelude.{codes, is_some}
use Rattle.memchr.specs.Find.{FindsNeedle}
use Rattle.ifs_lint.specs.Told.{MeansNone}

pub none_found : (text : List ℕ) (found : Option ℕ) → FindsNeedle text (codes "may flap") 0 found → MeansNone text → is_some found ≡ false
none_found text None h none = refl
none_found text (Some k) h none = absurd (none k h.1)
