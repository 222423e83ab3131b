-- Mentions with borrowed strings, as mentions of the strings.
use Rattle.std.specs.Prelude.{ℕ}
use Rattle.std.specs.Borrow.{Bor}
use Rattle.ifs_parse.specs.declared.tree.Name.{Name}
use Rattle.ifs_policy.specs.declared.mention.Mention.{Mention}
use Rattle.ifs_policy.specs.declared.mention.Mention.TheVariants.{Interface, External, Command, Defined}
use Rattle.ifs_policy.specs.declared.mention.Mention.TheVariants.{Target, Init, InitState, SetState}

-- The mention of a borrowed string and period, as that of the string and the period.
abbrev pub seen : Mention (Bor Name) (Bor ℕ) → Mention Name ℕ
seen (Interface name) = Interface name.now
seen (External half name period) = External half name.now period.now
seen (Command name) = Command name.now
seen (Defined name) = Defined name.now
seen (Target name) = Target name.now
seen (Init owner place) = Init owner place
seen (InitState place) = InitState place
seen (SetState half place) = SetState half place
