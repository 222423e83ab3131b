-- The sizes of trees are the lengths of their code.
use Rattle.std.proofs.Common.{◌≡◌, ℕ, zero, ◌+◌, ◌≤◌, subst, List, [], ◌∷◌, length, map, refl, ap, sym, ◌∙◌, arith}
use Rattle.std.specs.Prelude.{sum_by}
use Rattle.std.proofs.lemmas.List.Sums.{sum_by-cons}
use Rattle.ifs_base.specs.Spelling.{IsReadBack}
use Rattle.ifs_base.specs.declared.op.Op.{Op}
use Rattle.ifs_verify.specs.Bounds.{commands_of}
use Rattle.ifs_image.specs.declared.parts.Routine.{Routine}
use Rattle.ifs_image.specs.Limits.{instructions}
use Rattle.ifs_gen.specs.Trees.{Part}
use Rattle.ifs_gen.specs.PlainCode.{plain_coder, init_code, body_code}
use Rattle.ifs_gen.specs.PlainSizes.{test_count, parts_of, init_length, body_length}
use Rattle.ifs_gen.specs.PolicyImage.{routine_of_code, routines_of, image_of}
use Rattle.ifs_gen.specs.Refused.{lengths_of}
use Rattle.ifs_gen.specs.Sizes.{SizesAreLengths, RunsAreQueued}
use Rattle.ifs_gen.proofs.Simulation.{condition_sized, block_sized}
use Rattle.ifs_gen.proofs.GoodRoutines.{amount}
use Rattle.ifs_gen.proofs.Weights.{init_long, body_long, init_queues, body_queues}
use Rattle.ifs_gen.proofs.Limits.{image_shrinks}
use Rattle.ifs_gen.proofs.Refusing.{sums_agree}

routine_lengths : (count : ℕ) (parts : List Part) → map (λ (routine : Routine). length routine.code) (routines_of plain_coder count parts) ≡ lengths_of count parts
routine_lengths count [] = refl
routine_lengths count (x ∷ parts) =
    ap (λ (n : ℕ). n ∷ length (body_code plain_coder count x.body) ∷ map (λ (routine : Routine). length routine.code) (routines_of plain_coder count parts)) (init_long plain_coder condition_sized x.init)
    ∙ ap (λ (n : ℕ). init_length x ∷ n ∷ map (λ (routine : Routine). length routine.code) (routines_of plain_coder count parts)) (body_long plain_coder condition_sized count x.body)
    ∙ ap (λ (rest : List ℕ). init_length x ∷ body_length count x ∷ rest) (routine_lengths count parts)

together_same : (count : ℕ) (parts : List Part) → instructions (routines_of plain_coder count parts) ≡ sum_by (λ part. init_length part + body_length count part) parts
together_same count [] = refl
together_same count (x ∷ parts) =
    let init = routine_of_code (init_code plain_coder x.init) in
    let body = routine_of_code (body_code plain_coder count x.body) in
    let long : Routine → ℕ = λ r. length r.code in
    let e = sum_by-cons long init (body ∷ routines_of plain_coder count parts) in
    let f = sum_by-cons long body (routines_of plain_coder count parts) in
    let g = sum_by-cons (λ part. init_length part + body_length count part) x parts in
    let rest = together_same count parts in
    let init_is = init_long plain_coder condition_sized x.init in
    let body_is = body_long plain_coder condition_sized count x.body in
    omega (arith, e, f, g, rest, init_is, body_is)

pub sizes_are_lengths : IsReadBack → SizesAreLengths
sizes_are_lengths back = record {
  condition = condition_sized;
  block = block_sized plain_coder condition_sized;
  init = init_long plain_coder condition_sized;
  body = body_long plain_coder condition_sized;
  routines = λ policy. routine_lengths (test_count policy) (parts_of policy);
  together = λ policy. together_same (test_count policy) (parts_of policy) ∙ sym (sums_agree (test_count policy) (parts_of policy));
  image = λ policy. subst (λ n. instructions (image_of policy).routines ≤ n) (sym (sums_agree (test_count policy) (parts_of policy))) (image_shrinks back policy);
}

amount_is_sum : (weight : Op → ℕ) (code : List Op) → sum_by weight code ≡ amount weight code zero
amount_is_sum weight [] = refl
amount_is_sum weight (op ∷ code) = sum_by-cons weight op code ∙ ap (λ n. weight op + n) (amount_is_sum weight code)

pub runs_are_queued : RunsAreQueued
runs_are_queued = record {
  init = λ init. amount_is_sum commands_of (init_code plain_coder init) ∙ init_queues init;
  body = λ count body. amount_is_sum commands_of (body_code plain_coder count body) ∙ body_queues count body;
}
