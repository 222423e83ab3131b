-- Questions: requests that read the core. Each is a word, and changes nothing.
use Rattle.std.specs.Prelude.{ℕ, if◌then◌else◌, List, codes, Option, Some, None}
use Rattle.std.specs.Str.{bytes_eq}
use Rattle.ifs_image.specs.declared.parts.ImageParts.{ImageParts}
use Rattle.ifs_core.specs.Steps.{CoreState}
use Rattle.ifs_session.specs.declared.question.Question.{Question}
use Rattle.ifs_session.specs.declared.question.Question.TheVariants.{Status, Trace}
use Rattle.ifs_session.specs.Replies.{status_line, trace_lines}

-- The question of a word.
abbrev pub question_in : List ℕ → Option Question
question_in word =
    if bytes_eq word (codes "status") then Some Status else
    if bytes_eq word (codes "trace") then Some Trace else
    None

-- The reply to a question.
abbrev pub reply_to : Question → ImageParts → CoreState → List ℕ
reply_to Status image s = status_line image s
reply_to Trace image s = trace_lines image s.trace
