-- The codes of conditions as they occur in a policy, and the choice of the shared ones.
use Rattle.std.specs.Prelude.{◌≡◌, Bool, false, nat_le, nat_lt, ◌&&◌, List, [], ◌∷◌, ◌++◌, length, take, filter}
use Rattle.std.specs.Prelude.{if◌then◌else◌}
use Rattle.std.specs.List.{list_any, AllByRecursion}
use Rattle.ifs_base.specs.declared.ids.CommandId.{CommandId}
use Rattle.ifs_base.specs.declared.ids.StateId.{StateId}
use Rattle.ifs_base.specs.declared.op.Op.{Op}
use Rattle.ifs_parse.specs.Views.{statement_then}
use Rattle.ifs_parse.specs.declared.block.Statement.{Statement}
use Rattle.ifs_gen.specs.declared.sharing.Met.{Met}
use Rattle.ifs_gen.specs.Trees.{Single, Done}
use Rattle.ifs_gen.specs.Sharing.{same_code, conditions_of, most_shared}

-- The codes of a statement's conditions: those of a block of this statement alone.
abbrev pub statement_conditions : Statement Single CommandId StateId → List (List Op)
statement_conditions statement = conditions_of (statement_then statement Done)

-- No code has occurred.
abbrev pub met_nothing : Met
met_nothing = record { once = []; again = [] }

-- A code is long enough to be shared.
abbrev pub is_long : List Op → Bool
is_long code = nat_le 5 (length code)

-- A table with one more code, if it is new.
abbrev pub with_code : List (List Op) → List Op → List (List Op)
with_code table code = if list_any (same_code code) table then table else table ++ code ∷ []

-- One more code occurs. A code that is long enough is kept in one table at its first occurrence, and in the other at a later one.
abbrev pub meet : Met → List Op → Met
meet met code =
    if is_long code
    then (if list_any (same_code code) met.once
    then record { once = met.once; again = with_code met.again code }
    else record { once = met.once ++ code ∷ []; again = met.again })
    else met

-- The first of the codes that occurred again.
abbrev pub chosen : Met → List (List Op)
chosen met = take most_shared (filter (λ code. list_any (same_code code) met.again) met.once)

-- The chosen codes with one more, if it occurred again and there is room.
abbrev pub with_chosen : List (List Op) → List (List Op) → List Op → List (List Op)
with_chosen again table code = if list_any (same_code code) again && nat_lt (length table) most_shared then table ++ code ∷ [] else table

-- No entry of a list equals a later one.
abbrev pub AreApart : {T : Type 0} → (T → T → Bool) → List T → Type 0
AreApart like [] = Unit {0}
AreApart like (x ∷ xs) = AllByRecursion (λ y. like x y ≡ false) xs × AreApart like xs
