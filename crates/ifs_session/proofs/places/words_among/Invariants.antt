-- The words so far are those that fit among the ones looked at.
use Rattle.std.proofs.Common.{◌≡◌, take}
use Rattle.std.specs.Prelude.{filter}
use Rattle.ifs_session.specs.Places.{fits}
use Rattle.ifs_session.proofs.places.words_among.Given as goal

abbrev pub invariant-loop-word : goal.invariant-loop-word
invariant-loop-word l = l.found.items ≡ filter (fits l.before l.after) (take l.word-index l.words)
