-- What a trace keeps.
use Rattle.std.proofs.Common.{◌≡◌, ◌∙◌, ℕ, suc, ◌-◌, List, [], ◌∷◌, ◌++◌, length, drop, ap, arith}
use Rattle.std.proofs.lemmas.List.{length_push}
use Rattle.ifs_core.specs.declared.step.Record.{Record}
use Rattle.ifs_core.specs.Steps.{TraceKeeps256}

pub trace_keeps_256 : TraceKeeps256
trace_keeps_256 = record {
  room = λ r trace e.
      let long = length_push trace r in
      let none : length (trace ++ r ∷ []) - 256 ≡ 0 = omega (arith, e, long) in
      ap (λ n. drop n (trace ++ r ∷ [])) none;
  full = λ r oldest trace e.
      let long = length_push trace r in
      let one : length (oldest ∷ (trace ++ r ∷ [])) - 256 ≡ 1 = omega (arith, e, long) in
      ap (λ n. drop n (oldest ∷ (trace ++ r ∷ []))) one;
}
