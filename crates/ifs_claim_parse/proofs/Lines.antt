-- The lines of a file that were read so far.
use Rattle.std.proofs.Common.{◌≡◌, ◌∙◌, refl, sym, ap, subst, ℕ, ◌+◌, ◌≤◌, Bool, true, false, List, [], ◌∷◌, ◌++◌, append_assoc, length, length-append, arith}
use Rattle.std.specs.Bool.{◌==◌}
use Rattle.std.proofs.lemmas.Bool.Decides.{Decides-eqb}
use Rattle.ifs_lex.specs.declared.token.Token.{Token}
use Rattle.ifs_policy.specs.declared.tables.Tables.{Tables}
use Rattle.ifs_claim_parse.specs.declared.context.LinePlace.{LinePlace}
use Rattle.ifs_claim_parse.specs.declared.stated.Stated.{Stated}
use Rattle.ifs_claim_parse.specs.Files.{IsLine, IsStated, AreStated, AreClaims, last_line, next_line, NamesOfAllAreIn, FileStates}
use Rattle.ifs_claim_parse.specs.inner.Lines.{AddsLine, AreRead}
use Rattle.ifs_claim_parse.proofs.Said.{names_in}

module _ (macros : List ℕ) (defs : List (List ℕ × List ℕ)) (tables : Tables) where
  names_of_stated : (place : LinePlace) (tokens : List Token) (found : List Stated) → AreStated tables place tokens found → NamesOfAllAreIn tables found
  names_of_stated place [] found h = subst (NamesOfAllAreIn tables) (sym h) tt
  names_of_stated place (t ∷ tokens) found h = subst (NamesOfAllAreIn tables) (sym h.1) (names_in tables h.2.says, tt)

  names_of_both : (a b : List Stated) → NamesOfAllAreIn tables a → NamesOfAllAreIn tables b → NamesOfAllAreIn tables (a ++ b)
  names_of_both [] b h k = k
  names_of_both (s ∷ a) b h k = (h.0, names_of_both a b h.1 k)

  names_after : (number at : ℕ) (line : List ℕ) (before after : List Stated) → NamesOfAllAreIn tables before → AddsLine macros defs tables number at line before after → NamesOfAllAreIn tables after
  names_after number at line before after h adds =
      subst (NamesOfAllAreIn tables) (sym adds.added)
      (names_of_both before adds.found h (names_of_stated _ adds.states.tokens adds.found adds.states.stated))

  -- One more line was read, and its newline.
  pub one_line : (text : List ℕ) (number at : ℕ) (left line rest : List ℕ) (read read' : List Stated) (number' at' : ℕ) → AreRead macros defs tables text number at left read
      → left ≡ line ++ (10 ∷ rest) → IsLine line → AddsLine macros defs tables number at line read read' → number' ≡ number + 1 → at' ≡ at + (length line + 1)
      → AreRead macros defs tables text number' at' rest read'
  one_line text number at left line rest read read' number' at' before parts plain adds is_number is_at =
      let long = ap (λ (l : List ℕ). length l) parts in
      let place : at + length line + 1 ≡ at' = omega (arith, is_at) in
      record {
        whole = λ others h.
            let here : AreClaims macros defs tables (number + 1) (at + length line + 1) rest others =
            subst (λ (p : ℕ × ℕ). AreClaims macros defs tables p.0 p.1 rest others) (λ i. (is_number i, sym place i)) h in
            let these = before.whole (adds.found ++ others)
            (subst (λ (l : List ℕ). AreClaims macros defs tables number at l (adds.found ++ others)) (sym parts)
            (next_line number at line rest adds.found others plain adds.states here)) in
            subst (λ (l : List Stated). AreClaims macros defs tables 1 0 text l) (sym (append_assoc read adds.found others) ∙ ap (λ (l : List Stated). l ++ others) (sym adds.added)) these;
        names = names_after number at line read read' before.names adds;
        few = adds.few;
        numbered = omega (arith, before.numbered, is_number, is_at);
        place = omega (arith, before.place, long, length-append line (10 ∷ rest), is_at);
      }

  -- The last line was read.
  pub all_lines : (text : List ℕ) (number at : ℕ) (left : List ℕ) (read read' : List Stated) → length text ≤ 65536 → AreRead macros defs tables text number at left read
      → IsLine left → AddsLine macros defs tables number at left read read' → FileStates macros defs tables text read'
  all_lines text number at left read read' short before plain adds = record {
    short = short;
    few = adds.few;
    claims = subst (λ (l : List Stated). AreClaims macros defs tables 1 0 text l) (sym adds.added) (before.whole adds.found (last_line number at left adds.found plain adds.states));
    names = names_after number at left read read' before.names adds;
  }

-- A line without tokens states nothing.
pub nothing_stated : (tables : Tables) (place : LinePlace) (count : ℕ) (tokens : List Token) (empty : Bool) → empty ≡ (count == 0) → empty ≡ true → count ≡ length tokens
    → AreStated tables place tokens []
nothing_stated tables place count [] empty is e counted = refl
nothing_stated tables place count (t ∷ tokens) empty is e counted = let none = (Decides-eqb count 0).0 (sym is ∙ e) in absurd (omega (arith, none, counted))

-- Any other line states one claim.
pub one_stated : (tables : Tables) (place : LinePlace) (count : ℕ) (tokens : List Token) (stated : Stated) (empty : Bool) → empty ≡ (count == 0) → empty ≡ false → count ≡ length tokens
    → IsStated tables place tokens stated → AreStated tables place tokens (stated ∷ [])
one_stated tables place count [] stated empty is e counted h = let some = (Decides-eqb count 0).1 counted in absurd (cc)
one_stated tables place count (t ∷ tokens) stated empty is e counted h = (stated, refl, h)
