use Rattle.ifs_lex.proofs.Stopped.{stuck_once, stuck_unspelled}
use Rattle.ifs_lex.proofs.Telling.{lexemes_or_stuck}
use Rattle.ifs_lex.proofs.laws.one_stuck.Goals as goal

pub returns-clause-one : goal.returns-clause-one
returns-clause-one c = stuck_once

pub returns-clause-none : goal.returns-clause-none
returns-clause-none c = stuck_unspelled

pub returns-clause-some : goal.returns-clause-some
returns-clause-some c = lexemes_or_stuck
