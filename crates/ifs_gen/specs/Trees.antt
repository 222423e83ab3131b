-- Short names for the conditions, the blocks and the parts of a policy.
pub use Rattle.ifs_parse.specs.Trees.{Leaf, NotSo, And, Or, Done, RunThen, SetStateThen, IfThen}
pub use Rattle.ifs_policy.specs.Meaning.{Condition, Block}
pub use Rattle.ifs_policy.specs.declared.policy.Single.{Single}
pub use Rattle.ifs_policy.specs.declared.policy.Single.TheVariants.{LinkIs, TestIs}
pub use Rattle.ifs_policy.specs.declared.policy.Handlers.{Handlers as Part}
pub use Rattle.ifs_policy.specs.declared.policy.PolicyParts.{PolicyParts as Policy}
pub use Rattle.ifs_policy.specs.declared.tables.ExternalTest.{ExternalTest as External}
