-- Lines of a text.
use Rattle.std.specs.Prelude.{ℕ, ◌≡◌, ◌≤◌, ◌<◌, List, length}
use Rattle.ifs_image_reports.specs.Places.{HasLine, last_line, line_at}

-- Bytes from one place up to another are a line of a text, without its newline. If it comes after the last line, it is the end of the text.
pub record IsLine (text : List ℕ) (line start end : ℕ) : Type 0 where
  pub forward : start ≤ end
  pub inside : end ≤ length text
  pub each : HasLine text line → (place : ℕ) → start ≤ place → place ≤ end → line_at text place ≡ line
  pub after_last : last_line text < line → start ≡ length text
