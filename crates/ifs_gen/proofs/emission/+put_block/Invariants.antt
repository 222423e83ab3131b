-- Each call has a smaller argument, and the statements so far are appended.
use Rattle.std.proofs.Common.{◌≡◌, ◌+◌, ◌*◌, ◌++◌, length, take}
use Rattle.ifs_parse.specs.Views.{block_of}
use Rattle.ifs_gen.specs.PlainCode.{plain_coder, block_code, code_size}
use Rattle.ifs_gen.specs.Sharing.{shared_coder}
use Rattle.ifs_gen.specs.inner.Emission.{statement_size}
use Rattle.ifs_gen.proofs.emission.+put_block.Given as goal

abbrev pub decreases-put_block : goal.decreases-put_block
decreases-put_block l = 2 * code_size plain_coder l.block.now + 1

abbrev pub decreases-put_statement : goal.decreases-put_statement
decreases-put_statement l = 2 * statement_size plain_coder l.statement.now

abbrev pub invariant-put_block-loop-statement : goal.invariant-put_block-loop-statement
invariant-put_block-loop-statement l = l.code.items ≡ l.initial.code.items ++ block_code (shared_coder l.shared) (length l.initial.code.items) (block_of (take l.statement-index l.statement-items))
