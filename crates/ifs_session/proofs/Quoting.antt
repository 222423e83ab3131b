-- Quoted texts, written in runs.
use Rattle.std.proofs.Common.{◌≡◌, ℕ, ◌+◌, ◌<◌, List, [], ◌∷◌, ◌++◌, length, take, get_or, sym, ap, ◌∙◌}
use Rattle.std.proofs.lemmas.Grind.{flat_map-append}
use Rattle.std.specs.List.{flat_map}
use Rattle.ifs_base.specs.Words.{quoted_byte}
use Rattle.ifs_session.proofs.Known.{longer_front}

-- A run of bytes without an escape is extended by another such byte.
pub run_goes_on : (text : List ℕ) (i : ℕ) → i < length text → flat_map quoted_byte (take i text) ≡ take i text → quoted_byte (get_or text i 0) ≡ get_or text i 0 ∷ []
    → flat_map quoted_byte (take (i + 1) text) ≡ take (i + 1) text
run_goes_on text i within run byte =
    ap (flat_map quoted_byte) (longer_front text i within)
    ∙ flat_map-append quoted_byte (take i text) (get_or text i 0 ∷ [])
    ∙ ap (λ t. t ++ flat_map quoted_byte (get_or text i 0 ∷ [])) run
    ∙ ap (λ t. take i text ++ (t ++ [])) byte
    ∙ sym (longer_front text i within)
