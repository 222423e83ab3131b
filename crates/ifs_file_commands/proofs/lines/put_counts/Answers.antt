use Rattle.ifs_file_commands.proofs.lines.put_counts.Goals as goal

pub returns : goal.returns
returns c =
    let counts = c.counts-interfaces.ensures in
    rw (counts.interfaces, counts.tests, counts.commands, counts.states) at c.in_ok-writeln.ensures.bytes
