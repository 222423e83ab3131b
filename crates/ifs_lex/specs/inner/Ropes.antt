-- Values of macros as the code keeps them.
use Rattle.std.specs.Prelude.{ℕ, zero, suc, ◌+◌, ◌*◌, ◌<◌, ◌≤◌, ◌≡◌, List, [], ◌∷◌, ◌++◌, length, slice_index_or}
use Rattle.ifs_lex.specs.declared.token.What.{What}
use Rattle.ifs_lex.specs.declared.ropes.Cell.{Cell}
use Rattle.ifs_lex.specs.declared.ropes.Cell.TheVariants.{Empty, Leaf, Both}
use Rattle.ifs_lex.specs.declared.ropes.Rope.{Rope}

-- The tokens of a cell, by its number.
abbrev pub whats_at : List (List What) → ℕ → List What
whats_at ropes n = slice_index_or ropes n []

-- The tokens of a cell, by those of earlier cells.
abbrev pub whats_in : List (List What) → Cell → List What
whats_in before Empty = []
whats_in before (Leaf what) = what ∷ []
whats_in before (Both left right) = whats_at before left ++ whats_at before right

-- The tokens of each cell.
abbrev pub ropes_from : List (List What) → List Cell → List (List What)
ropes_from before [] = before
ropes_from before (cell ∷ rest) = ropes_from (before ++ (whats_in before cell ∷ [])) rest

-- A cell joins two earlier cells.
abbrev pub IsEarlier : ℕ → Cell → Type 0
IsEarlier n Empty = Unit {0}
IsEarlier n (Leaf what) = Unit {0}
IsEarlier n (Both left right) = (left < n) × (right < n)

-- Each cell joins earlier cells.
abbrev pub AreEarlier : List Cell → Type 0
AreEarlier cells = (n : ℕ) (other : Cell) → n < length cells → IsEarlier n (slice_index_or cells n other)

-- A rope is one of these cells, and counts its tokens.
abbrev pub Holds : List (List What) → Rope → Type 0
Holds ropes rope = (rope.root < length ropes) × (length (whats_at ropes rope.root) ≡ rope.count)

-- The earlier ropes stay as they are.
pub record KeepsRopes (before after : List (List What)) : Type 0 where
  pub room : length before ≤ length after
  pub same : (n : ℕ) → n < length before → whats_at after n ≡ whats_at before n

-- The tokens of a stack of cells, from the top.
abbrev pub stacked : List (List What) → List ℕ → List What
stacked ropes [] = []
stacked ropes (n ∷ rest) = stacked ropes rest ++ whats_at ropes n

-- The weight of a cell: more than two earlier cells have together.
abbrev pub weight : ℕ → ℕ
weight zero = 1
weight (suc n) = 3 * weight n

abbrev pub weights : List ℕ → ℕ
weights [] = 0
weights (n ∷ rest) = weight n + weights rest
