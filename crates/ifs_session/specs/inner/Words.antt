-- Contracts of the functions that read the words of a line.
use Rattle.std.specs.Prelude.{ℕ, ◌≡◌, ◌==◌, Bool, false, if◌then◌else◌, List, [], ◌∷◌, Option, Some, None, codes}
use Rattle.ifs_base.specs.declared.op.LinkState.{LinkState}
use Rattle.ifs_base.specs.declared.op.LinkState.TheVariants as links
use Rattle.ifs_core.specs.declared.step.Answer.{Answer}
use Rattle.ifs_core.specs.declared.step.Answer.TheVariants as answers
use Rattle.ifs_session.specs.Requests.{starts_with, behind_word}

-- Whether what is left of a line begins with a word.
abbrev pub begins_with : List ℕ → Option (List ℕ) → Bool
begins_with word None = false
begins_with word (Some left) = starts_with word left

-- What is left behind a word that has to come next.
abbrev pub behind : List ℕ → Option (List ℕ) → Option (List ℕ)
behind word None = None
behind word (Some left) = if starts_with word left then Some (behind_word word left) else None

-- The link state that comes next.
abbrev pub link_in : Option (List ℕ) → LinkState
link_in left = if begins_with (codes "up") left then links.Up else if begins_with (codes "down") left then links.Down else links.Unknown

-- The name of a reply that comes next.
abbrev pub answer_in : Option (List ℕ) → Answer
answer_in left =
    if begins_with (codes "done") left then answers.Done else
    if begins_with (codes "same") left then answers.Same else
    if begins_with (codes "ticked") left then answers.Ticked else
    answers.Taken

-- A value was read, and this is left of the line.
pub record Reads {X : Type 0} (found value : X) (left : Option (List ℕ)) (rest : List ℕ) : Type 0 where
  pub is : found ≡ value
  pub leaves : left ≡ Some rest

-- The rest behind two bytes.
abbrev pub behind_two : List ℕ → Option (List ℕ)
behind_two (high ∷ low ∷ rest) = Some rest
behind_two _ = None

-- The rest behind an escape, after its backslash: behind `x` and two digits, or behind another byte.
abbrev pub behind_escape : List ℕ → Option (List ℕ)
behind_escape [] = None
behind_escape (kind ∷ rest) = if kind == 120 then behind_two rest else Some rest

-- The rest behind the first byte of the inside of a quoted text. There is none at its end.
abbrev pub behind_byte : List ℕ → Option (List ℕ)
behind_byte [] = None
behind_byte (byte ∷ rest) = if byte == 34 then None else if byte == 92 then behind_escape rest else Some rest
