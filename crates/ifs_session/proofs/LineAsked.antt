-- What a line asks for, from its first 256 bytes.
use Rattle.std.proofs.Common.{◌≡◌, ℕ, ◌≤◌, Bool, true, false, nat_lt, cond, List, length, take, ap, ◌∙◌, take_all}
use Rattle.std.proofs.Common.{arith}
use Rattle.std.proofs.lemmas.Bool.Decides.{nat_tests}
use Rattle.ifs_session.specs.declared.lines.Line.{Line}
use Rattle.ifs_session.specs.declared.request.RequestFault.TheVariants.{TooLong, NoRequest}
use Rattle.ifs_session.specs.Requests.{Asked, AFault, asked, short_asked}
use Rattle.ifs_session.specs.Accounts.{asks_of_hosts, client_asked}
use Rattle.ifs_session.specs.inner.Connections.{kept_client_asked}
use Rattle.ifs_session.specs.inner.Reading.{Intake, ReadsLine}
use Rattle.ifs_session.specs.inner.Serving.{kept_asked}

short_length : (n : ℕ) → false ≡ nat_lt 256 n → n ≤ 256
short_length n h = grind (arith, nat_tests)

asked_by_length : (f : List ℕ → Asked) (longer : Bool) (kept text : List ℕ) → kept ≡ take 256 text → longer ≡ nat_lt 256 (length text)
    → cond longer (AFault TooLong) (f kept) ≡ cond (nat_lt 256 (length text)) (AFault TooLong) (f text)
asked_by_length f true kept text k l = ap (λ w. cond w (AFault TooLong) (f text)) l
asked_by_length f false kept text k l =
    ap f (k ∙ take_all 256 text (short_length (length text) l)) ∙ ap (λ w. cond w (AFault TooLong) (f text)) l

-- A line asks for what its whole text asks for.
pub kept_asked-line : {line : Line} {text : List ℕ} {before after : Intake} → ReadsLine line text before after → kept_asked line ≡ asked text
kept_asked-line {line} {text} r = asked_by_length short_asked line.is_longer line.kept.items text r.kept r.longer

-- The same for a client's line.
pub kept_client_asked-line : {line : Line} {text : List ℕ} {before after : Intake} → ReadsLine line text before after → kept_client_asked line ≡ client_asked text
kept_client_asked-line {line} {text} r =
    asked_by_length (λ kept. cond (asks_of_hosts kept) (AFault NoRequest) (short_asked kept)) line.is_longer line.kept.items text r.kept r.longer
