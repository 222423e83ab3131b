use Rattle.std.proofs.Common.{◌≡◌, ◌++◌, take}
use Rattle.ifs_core.proofs.stepping.append.Given as goal

abbrev pub invariant-loop-command : goal.invariant-loop-command
invariant-loop-command l = l.queue.items ≡ l.fn.queue.items ++ take l.command-index l.commands
