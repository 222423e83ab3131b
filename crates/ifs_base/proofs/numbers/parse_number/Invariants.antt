use Rattle.std.proofs.Common.{◌≡◌, ℕ, drop}
use Rattle.ifs_base.specs.Numbers.{number_from, number_of}
use Rattle.ifs_base.proofs.Digits.{Keeps}
use Rattle.ifs_base.proofs.numbers.parse_number.Given as goal

abbrev pub invariant-loop-digit : goal.invariant-loop-digit
invariant-loop-digit l = (n : ℕ) × Keeps l.value n × (number_of l.text ≡ number_from n (drop l.digit-index l.text))
