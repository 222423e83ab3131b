-- Kinds of values, and stacks of them, the top first.
use Rattle.std.specs.Prelude.{Bool, true, false, if◌then◌else◌, List, [], ◌∷◌, Option, Some, None}
use Rattle.ifs_base.specs.declared.op.Kind.{Kind}
use Rattle.ifs_base.specs.declared.op.Kind.TheVariants.{Truth, Command, StateName}

-- Whether two kinds are the same.
abbrev pub is_kind : Kind → Kind → Bool
is_kind Truth Truth = true
is_kind Command Command = true
is_kind StateName StateName = true
is_kind _ _ = false

-- The kinds below the wanted ones. There are none if other kinds are on top, or too few.
abbrev pub without : List Kind → List Kind → Option (List Kind)
without [] kinds = Some kinds
without (wanted ∷ more) [] = None
without (wanted ∷ more) (kind ∷ kinds) = if is_kind kind wanted then without more kinds else None
