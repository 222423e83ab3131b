-- Parts of two lists of statements that decide whether the lists reach the same.
use Rattle.std.specs.Prelude.{◌≡◌, List}
use Rattle.ifs_base.specs.Facts.{Facts}
use Rattle.ifs_base.specs.declared.ids.CommandId.{CommandId}
use Rattle.ifs_base.specs.declared.ids.StateId.{StateId}
use Rattle.ifs_parse.specs.Views.{block_of}
use Rattle.ifs_parse.specs.declared.block.Statement.{Statement}
use Rattle.ifs_policy.specs.Meaning.{reached}
use Rattle.ifs_policy.specs.declared.policy.Single.{Single}

-- Under facts under which the parts reach the same, the whole lists do.
abbrev pub AreMiddles : List (Statement Single CommandId StateId) → List (Statement Single CommandId StateId) → List (Statement Single CommandId StateId) → List (Statement Single CommandId StateId) → Type 0
AreMiddles one other part of_other = (facts : Facts) → reached facts (block_of part) ≡ reached facts (block_of of_other) → reached facts (block_of one) ≡ reached facts (block_of other)
