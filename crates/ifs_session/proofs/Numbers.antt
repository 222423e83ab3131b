-- The numbers of results.
use Rattle.std.proofs.Common.{◌≡◌, ℕ, Bool, Option, Some, None, refl, arith}
use Rattle.std.specs.Option.{option_map}
use Rattle.std.proofs.lemmas.Bool.Decides.{nat_tests}
use Rattle.ifs_base.specs.Numbers.{sized}
use Rattle.ifs_session.specs.inner.Parsing.{result_kept}
use Rattle.ifs_session.specs.Requests.{result_numbered}

kept_pair : (test run : ℕ) (value : Bool) → result_kept (Some (sized test)) (Some (sized run)) value ≡ result_numbered (Some test) (Some run) value
kept_pair test run value = grind (arith, nat_tests)

pub kept_numbers : (test run : Option ℕ) (value : Bool) → result_kept (option_map sized test) (option_map sized run) value ≡ result_numbered test run value
kept_numbers None None value = refl
kept_numbers None (Some run) value = refl
kept_numbers (Some test) None value = grind (arith, nat_tests)
kept_numbers (Some test) (Some run) value = kept_pair test run value
