-- Reads a text line by line.
use Rattle.std.proofs.Common.{◌≡◌, ℕ, false, List, [], ◌∷◌, ◌++◌, Option, Some, None, refl, sym, ap, ◌∙◌}
use Rattle.std.specs.Prelude.{option_and_then}
use Rattle.ifs_asm.specs.declared.forms.Formed.{Formed}
use Rattle.ifs_asm.specs.declared.line.Line.{Line}
use Rattle.ifs_asm.specs.Spellings.{is_silent}
use Rattle.ifs_asm.specs.inner.Words.{words_up_to}
use Rattle.ifs_asm.specs.inner.Forms.{line_of, formed}
use Rattle.ifs_asm.specs.inner.Building.{Built, one_line_more, line_in, built_by, spoken_line}

append_case : (o : Option Built) (xs ys : List (List ℕ)) → ((next : Built) → built_by next (xs ++ ys) ≡ option_and_then (λ after. built_by after ys) (built_by next xs))
    → option_and_then (λ next. built_by next (xs ++ ys)) o ≡ option_and_then (λ after. built_by after ys) (option_and_then (λ next. built_by next xs) o)
append_case None xs ys ih = refl
append_case (Some next) xs ys ih = ih next

line_case : (o : Option Line) (b : Built) (xs ys : List (List ℕ)) → ((next : Built) → built_by next (xs ++ ys) ≡ option_and_then (λ after. built_by after ys) (built_by next xs))
    → option_and_then (λ line. option_and_then (λ next. built_by next (xs ++ ys)) (one_line_more b line)) o ≡ option_and_then (λ after. built_by after ys) (option_and_then (λ line. option_and_then (λ next. built_by next xs) (one_line_more b line)) o)
line_case None b xs ys ih = refl
line_case (Some line) b xs ys ih = append_case (one_line_more b line) xs ys ih

pub by_append : (xs ys : List (List ℕ)) (b : Built) → built_by b (xs ++ ys) ≡ option_and_then (λ next. built_by next ys) (built_by b xs)
by_append [] ys b = refl
by_append (x ∷ xs) ys b = line_case (line_in x) b xs ys (λ next. by_append xs ys next)

-- ---- one line

same_option : (o : Option Built) → option_and_then (λ next. built_by next []) o ≡ o
same_option None = refl
same_option (Some b) = refl

formed_case : (b : Built) (o : Option Line) → option_and_then (λ line. option_and_then (λ next. built_by next []) (one_line_more b line)) o ≡ option_and_then (one_line_more b) o
formed_case b None = refl
formed_case b (Some line) = same_option (one_line_more b line)

pub read_form : (line : List ℕ) (words : List (List ℕ)) (form : Option Formed) → words ≡ words_up_to 9 line → formed form ≡ line_of words → line_in line ≡ formed form
unfolding line_in
read_form line words form cut says = sym (says ∙ ap line_of cut)

pub one_line : (b : Built) (line : List ℕ) (words : List (List ℕ)) (form : Option Formed) → is_silent line ≡ false → words ≡ words_up_to 9 line → formed form ≡ line_of words → built_by b (spoken_line line) ≡ option_and_then (one_line_more b) (formed form)
one_line b line words form e cut says = rw (e, read_form line words form cut says) (formed_case b (formed form))
