-- A list that is written item by item.
use Rattle.std.specs.Prelude.{ℕ, Bool, true, false, List, [], ◌++◌, ◌-◌, drop, map, decimal, codes}
use Rattle.std.specs.List.{flat_map}
use Rattle.ifs_base.specs.Words.{listed}
use Rattle.ifs_base.specs.declared.op.Kind.{Kind}
use Rattle.ifs_asm.specs.Texts.{tests_from, kind_word}

-- The text before an item: a comma, unless the item is the first.
abbrev pub before_item : Bool → List ℕ
before_item true = []
before_item false = codes ","

-- The text of the items that are left of a list. The flag says whether none was written yet.
abbrev pub left_of_list : Bool → List (List ℕ) → List ℕ
left_of_list true items = listed items
left_of_list false items = flat_map (λ other. codes "," ++ other) items

-- The text of the tests of a mask from a test on.
abbrev pub left_at : Bool → ℕ → ℕ → List ℕ
left_at is_first mask t = left_of_list is_first (map decimal (tests_from (64 - t) t mask))

-- The text of kinds from one of them on.
abbrev pub kinds_left : Bool → ℕ → List Kind → List ℕ
kinds_left is_first index kinds = left_of_list is_first (map kind_word (drop index kinds))
