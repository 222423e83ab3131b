use Rattle.std.proofs.Common.{◌∙◌, sym}
use Rattle.ifs_expected_tokens.proofs.Fronts.{no_memory, stops_on}
use Rattle.ifs_expected_tokens.proofs.expecting.number_of_stop.Goals as goal

pub returns-in-Some-clause-stops : goal.returns-in-Some-clause-stops
returns-in-Some-clause-stops c =
    let e = sym c.place.ensures ∙ c.in-Some.is in
    stops_on _ c.in-Err.fault c.in-Some.place (c.in-Err.ensures.stops (no_memory c.in-Err.fault c.in-Some.place e)) e
