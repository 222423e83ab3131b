-- Each call has a smaller argument, and the conditions of the statements so far are noted.
use Rattle.std.proofs.Common.{◌≡◌, ◌+◌, ◌*◌, take, fold}
use Rattle.std.specs.List.{flat_map}
use Rattle.ifs_gen.specs.inner.Meetings.{meet, statement_conditions}
use Rattle.ifs_gen.specs.PlainCode.{plain_coder, code_size}
use Rattle.ifs_gen.specs.inner.Emission.{statement_size}
use Rattle.ifs_gen.proofs.sharing.+meet_block.Given as goal

abbrev pub decreases-meet_block : goal.decreases-meet_block
decreases-meet_block l = 2 * code_size plain_coder l.block.now + 1

abbrev pub decreases-meet_statement : goal.decreases-meet_statement
decreases-meet_statement l = 2 * statement_size plain_coder l.statement.now

abbrev pub invariant-meet_block-loop-statement : goal.invariant-meet_block-loop-statement
invariant-meet_block-loop-statement l = l.met ≡ fold meet l.initial.met (flat_map statement_conditions (take l.statement-index l.statement-items))
