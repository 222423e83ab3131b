-- The sizes of trees are those of their plain code.
use Rattle.std.specs.Prelude.{ℕ, ◌≡◌, ◌≤◌, length, map, sum, sum_by}
use Rattle.ifs_image.specs.declared.parts.Routine.{Routine}
use Rattle.ifs_image.specs.Limits.{instructions}
use Rattle.ifs_verify.specs.Bounds.{commands_of}
use Rattle.ifs_gen.specs.Trees.{Condition, Block, Policy}
use Rattle.ifs_parse.specs.Trees.{condition_size}
use Rattle.ifs_gen.specs.PlainCode.{plain_coder, condition_code, block_code, code_size}
use Rattle.ifs_gen.specs.PlainCode.{block_runs, body_code, body_size, init_code, init_size}
use Rattle.ifs_gen.specs.PlainSizes.{test_count, parts_of}
use Rattle.ifs_gen.specs.PolicyImage.{routines_of, image_of}
use Rattle.ifs_gen.specs.Refused.{lengths}

-- The sizes of conditions, blocks, inits and bodies are the lengths of their plain code, at any place.
pub record SizesAreLengths : Type 0 where
  pub condition : (condition : Condition) → length (condition_code condition) ≡ condition_size condition
  pub block : (place : ℕ) (block : Block) → length (block_code plain_coder place block) ≡ code_size plain_coder block
  pub init : (init : Block) → length (init_code plain_coder init) ≡ init_size plain_coder init
  pub body : (count : ℕ) (body : Block) → length (body_code plain_coder count body) ≡ body_size plain_coder count body
  -- the sizes of a policy are the lengths of its inits and bodies in plain code, in order, with the same sum
  pub routines : (policy : Policy) → map (λ (routine : Routine). length routine.code) (routines_of plain_coder (test_count policy) (parts_of policy)) ≡ lengths policy
  pub together : (policy : Policy) → instructions (routines_of plain_coder (test_count policy) (parts_of policy)) ≡ sum (lengths policy)
  -- the image of a policy has no more instructions, with the routines of shared conditions
  pub image : (policy : Policy) → instructions (image_of policy).routines ≤ sum (lengths policy)

-- The number of commands of a block is the number that its code queues, in an init and in a body.
pub record RunsAreQueued : Type 0 where
  pub init : (init : Block) → sum_by commands_of (init_code plain_coder init) ≡ block_runs init
  pub body : (count : ℕ) (body : Block) → sum_by commands_of (body_code plain_coder count body) ≡ block_runs body
