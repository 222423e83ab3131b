-- Contracts of the functions that parse a line.
use Rattle.std.specs.Prelude.{◌^◌, Bool, nat_lt, if◌then◌else◌, Option, Some, Result, Ok, Err}
use Rattle.ifs_session.specs.declared.request.RequestFault.{RequestFault}
use Rattle.ifs_session.specs.declared.request.RequestFault.TheVariants.{OutOfRange, NoRequest}
use Rattle.ifs_base.specs.declared.numbers.Number.{Number}
use Rattle.ifs_base.specs.declared.numbers.Number.TheVariants.{Within}
use Rattle.ifs_session.specs.declared.request.Request.{Request}
use Rattle.ifs_session.specs.declared.request.Request.TheVariants as requests
use Rattle.ifs_session.specs.Requests.{Asked, ALink, AResult, ATick, ATake, AQuestion, AStop, AReload}
use Rattle.ifs_session.specs.Requests.{AFault}

-- What a result of the parser asks for.
abbrev pub told_by : Result Request RequestFault → Asked
told_by (Ok (requests.Link name link)) = ALink name.now link
told_by (Ok (requests.Result test run value)) = AResult test.0 run value
told_by (Ok (requests.Tick moment)) = ATick moment
told_by (Ok requests.Take) = ATake
told_by (Ok (requests.Question question)) = AQuestion question
told_by (Ok requests.Stop) = AStop
told_by (Ok requests.Reload) = AReload
told_by (Err fault) = AFault fault

-- The request of `result` with these numbers.
abbrev pub result_kept : Option Number → Option Number → Bool → Asked
result_kept (Some (Within test)) (Some (Within run)) value = if nat_lt test (2 ^ 16) then AResult test run value else AFault OutOfRange
result_kept (Some _) (Some _) value = AFault OutOfRange
result_kept _ _ value = AFault NoRequest
