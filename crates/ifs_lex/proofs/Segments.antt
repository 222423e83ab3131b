-- The segments of a text from a cursor on: the next segment, and those after it.
use Rattle.std.proofs.Common.{◌≡◌, ℕ, Bool, true, false, cond, List, [], ◌∷◌, Option, Some, None}
use Rattle.std.proofs.Common.{option_map, Result, Ok, Err, refl, sym, ◌∙◌, ap, ◌<◌, ◌≤◌, length, arith}
use Rattle.std.specs.Prelude.{is_some}
use Rattle.std.specs.Option.{option_map_or}
use Rattle.ifs_base.specs.Results.{◌>>=◌}
use Rattle.ifs_lex.specs.declared.token.What.TheVariants.{Word, Quoted, Equals}
use Rattle.ifs_lex.specs.declared.token.Token.{Token}
use Rattle.ifs_lex.specs.declared.fault.LexFault.{LexFault}
use Rattle.ifs_lex.specs.Lexemes.{Lexeme, One, TextCursor, Spanned, lexeme_at, after_lexeme, is_last, lexemes_at}
use Rattle.ifs_lex.specs.Expansion.{Segment, Defines, Stands, Expanded, macro_name_of, is_equals, macro_text_of}
use Rattle.ifs_lex.specs.Expansion.{given_text, segments_from, with_lexeme, with_segment, tokens_after}
use Rattle.ifs_lex.specs.inner.Turns.{text_here, definition_here, after_definition, with_turn}
use Rattle.ifs_lex.proofs.Unrolled.{lexemes_unroll, fewer_left, no_more_left}

pub some_same : {A B : Type 0} (f : A → B) (o : Option A) → is_some (option_map f o) ≡ is_some o
some_same f None = refl
some_same f (Some x) = refl

name_last : (i : Lexeme) (n : List ℕ) → macro_name_of i ≡ Some n → is_last i ≡ false
name_last (One (Word _)) n h = refl
name_last _ n h = absurd (cc)

pub equals_last : (i : Lexeme) → is_equals i ≡ true → is_last i ≡ false
equals_last (One Equals) h = refl
equals_last _ h = absurd (cc)

pub text_last : (i : Lexeme) (t : List ℕ) → macro_text_of i ≡ Some t → is_last i ≡ false
text_last (One (Word _)) t h = refl
text_last (One (Quoted _)) t h = refl
text_last _ t h = absurd (cc)

-- The lexemes after the next one, if it is not the last.
after : TextCursor → List Spanned
after p = cond (is_last (lexeme_at p).lexeme) [] (lexemes_at (after_lexeme p))

after_is : (p : TextCursor) → is_last (lexeme_at p).lexeme ≡ false → after p ≡ lexemes_at (after_lexeme p)
unfolding after
after_is p e = ap (λ b. cond b [] (lexemes_at (after_lexeme p))) e

unrolled : (p : TextCursor) → lexemes_at p ≡ lexeme_at p ∷ after p
unfolding after
unrolled p = lexemes_unroll p

two_lexemes : (q : TextCursor) → is_equals (lexeme_at q).lexeme ≡ true → lexemes_at q ≡ lexeme_at q ∷ lexeme_at (after_lexeme q) ∷ after (after_lexeme q)
two_lexemes q e =
    unrolled q ∙ ap (λ xs. lexeme_at q ∷ xs) (after_is q (equals_last (lexeme_at q).lexeme e) ∙ unrolled (after_lexeme q))

given_none : (e : Spanned) (xs : List Spanned) → is_equals e.lexeme ≡ false → given_text (e ∷ xs) ≡ None
given_none e [] h = refl
given_none e (v ∷ rest) h = ap (λ b. cond b (macro_text_of v.lexeme) None) h

given_case : (q : TextCursor) (t : Bool) → is_equals (lexeme_at q).lexeme ≡ t → given_text (lexemes_at q) ≡ text_here q
given_case q true e = ap given_text (two_lexemes q e)
given_case q false e =
    ap given_text (unrolled q) ∙ given_none (lexeme_at q) (after q) e ∙ sym (ap (λ b. cond b (macro_text_of (lexeme_at (after_lexeme q)).lexeme) None) e)

given_here : (q : TextCursor) → given_text (lexemes_at q) ≡ text_here q
given_here q = given_case q _ refl

rest_case : (q : TextCursor) (text : List ℕ) (t : Bool) → is_equals (lexeme_at q).lexeme ≡ t → cond t (macro_text_of (lexeme_at (after_lexeme q)).lexeme) None ≡ Some text → segments_from 2 (lexemes_at q) ≡ segments_from 0 (lexemes_at (after_lexeme (after_lexeme q)))
rest_case q text true e h =
    ap (segments_from 2) (two_lexemes q e) ∙ ap (segments_from 0) (after_is (after_lexeme q) (text_last _ text h))
rest_case q text false e h = absurd (cc)

rest_after : (q : TextCursor) (text : List ℕ) → text_here q ≡ Some text → segments_from 2 (lexemes_at q) ≡ segments_from 0 (lexemes_at (after_lexeme (after_lexeme q)))
rest_after q text h = rest_case q text _ refl h

bind_same : {A B : Type 0} (r : Result A LexFault) (f g : A → Result B LexFault) → ((x : A) → f x ≡ g x) → (r >>= f) ≡ (r >>= g)
bind_same (Ok x) f g h = h x
bind_same (Err fault) f g h = refl

-- The tokens at the last lexeme, or those from a cursor on.
unfoldable pub ending : Bool → TextCursor → Expanded → Result (List Token) LexFault
ending last r next = cond last (Ok next.tokens) (tokens_after next (segments_from 0 (lexemes_at r)))

ends_or : (t : Bool) (xs : List Spanned) (next : Expanded) → tokens_after next (segments_from 0 (cond t [] xs)) ≡ cond t (Ok next.tokens) (tokens_after next (segments_from 0 xs))
ends_or true xs next = refl
ends_or false xs next = refl

-- A lexeme that begins no definition.
stands : (s : Expanded) (p : TextCursor) → tokens_after s (Stands (lexeme_at p) ∷ segments_from 0 (after p)) ≡ (with_turn (lexeme_at p) None s >>= ending (is_last (lexeme_at p).lexeme) (after_lexeme p))
unfolding with_segment ending after
stands s p =
    bind_same (with_lexeme (lexeme_at p).span (lexeme_at p).lexeme s) _ _ (λ next. ends_or (is_last (lexeme_at p).lexeme) (lexemes_at (after_lexeme p)) next)

-- A definition.
defines : (s : Expanded) (p : TextCursor) (name text : List ℕ) → is_last (lexeme_at p).lexeme ≡ false → text_here (after_lexeme p) ≡ Some text → tokens_after s (Defines name text (lexeme_at p).span ∷ segments_from 2 (after p)) ≡ (with_turn (lexeme_at p) (Some (name, text)) s >>= ending (is_last (lexeme_at p).lexeme) (after_lexeme (after_lexeme (after_lexeme p))))
unfolding with_segment ending
defines s p name text last h =
    bind_same (with_turn (lexeme_at p) (Some (name, text)) s) _ _ (λ next.
    ap (λ xs. tokens_after next xs) (ap (segments_from 2) (after_is p last) ∙ rest_after (after_lexeme p) text h) ∙
    sym (ap (λ b. cond b (Ok next.tokens) (tokens_after next (segments_from 0 (lexemes_at (after_lexeme (after_lexeme (after_lexeme p))))))) last))

-- The segments, by the name and the text of the first one.
parts_by : Spanned → List Spanned → Option (List ℕ) → Option (List ℕ) → List Segment
parts_by a xs name text =
    option_map_or (λ part. part ∷ segments_from 2 xs) (option_map_or (λ n. option_map (λ t. Defines n t a.span) text) name None) (Stands a ∷ segments_from 0 xs)

by_text : (s : Expanded) (p : TextCursor) (name : List ℕ) (text : Option (List ℕ)) → is_last (lexeme_at p).lexeme ≡ false → text_here (after_lexeme p) ≡ text → tokens_after s (parts_by (lexeme_at p) (after p) (Some name) text) ≡ (with_turn (lexeme_at p) (option_map (λ t. (name, t)) text) s >>= ending (is_last (lexeme_at p).lexeme) (after_definition (after_lexeme p) (is_some (option_map {T = List ℕ} {U = List ℕ × List ℕ} (λ t. (name, t)) text))))
unfolding parts_by
by_text s p name None last h = stands s p
by_text s p name (Some text) last h = defines s p name text last h

by_name : (s : Expanded) (p : TextCursor) (name : Option (List ℕ)) → macro_name_of (lexeme_at p).lexeme ≡ name → tokens_after s (parts_by (lexeme_at p) (after p) name (given_text (after p))) ≡ (with_turn (lexeme_at p) (option_map_or (λ n. option_map (λ t. (n, t)) (text_here (after_lexeme p))) name None) s >>= ending (is_last (lexeme_at p).lexeme) (after_definition (after_lexeme p) (is_some (option_map_or {T = List ℕ} {U = Option (List ℕ × List ℕ)} (λ n. option_map (λ t. (n, t)) (text_here (after_lexeme p))) name None))))
unfolding parts_by
by_name s p None e = stands s p
by_name s p (Some name) e =
    let last = name_last (lexeme_at p).lexeme name e in
    let given = ap given_text (after_is p last) ∙ given_here (after_lexeme p) in
    ap (λ t. tokens_after s (parts_by (lexeme_at p) (after p) (Some name) t)) given ∙ by_text s p name _ last refl

-- The tokens from a cursor on are those of the next segment, and then those of the rest.
pub turn_is : (s : Expanded) (p : TextCursor) → tokens_after s (segments_from 0 (lexemes_at p)) ≡ (with_turn (lexeme_at p) (definition_here (after_lexeme p) (lexeme_at p).lexeme) s >>= ending (is_last (lexeme_at p).lexeme) (after_definition (after_lexeme p) (is_some (definition_here (after_lexeme p) (lexeme_at p).lexeme))))
unfolding parts_by
turn_is s p = ap (λ xs. tokens_after s (segments_from 0 xs)) (unrolled p) ∙ by_name s p _ refl

-- One turn of the code takes the next segment.
turn : (s : Expanded) (p q r : TextCursor) (x : Spanned) (d : Option (List ℕ × List ℕ)) (is_one : Bool) → x ≡ lexeme_at p → q ≡ after_lexeme p → d ≡ definition_here q x.lexeme → is_one ≡ is_some d → r ≡ after_definition q is_one → tokens_after s (segments_from 0 (lexemes_at p)) ≡ (with_turn x d s >>= ending (is_last x.lexeme) r)
turn s p q r x d is_one ex eq ed eo er = rw (er, eo, ed, eq, ex) (turn_is s p)

pub turn_goes : (s next : Expanded) (p q r : TextCursor) (x : Spanned) (d : Option (List ℕ × List ℕ)) (is_one : Bool) (target : Result (List Token) LexFault) → x ≡ lexeme_at p → q ≡ after_lexeme p → d ≡ definition_here q x.lexeme → is_one ≡ is_some d → r ≡ after_definition q is_one → with_turn x d s ≡ Ok next → is_last x.lexeme ≡ false → tokens_after s (segments_from 0 (lexemes_at p)) ≡ target → tokens_after next (segments_from 0 (lexemes_at r)) ≡ target
unfolding ending
turn_goes s next p q r x d is_one target ex eq ed eo er w l h =
    sym (ap (λ b. cond b (Ok next.tokens) (tokens_after next (segments_from 0 (lexemes_at r)))) l) ∙
    sym (turn s p q r x d is_one ex eq ed eo er ∙ ap (λ w. w >>= ending (is_last x.lexeme) r) w) ∙ h

pub turn_ends : (s next : Expanded) (p q r : TextCursor) (x : Spanned) (d : Option (List ℕ × List ℕ)) (is_one : Bool) (target : Result (List Token) LexFault) → x ≡ lexeme_at p → q ≡ after_lexeme p → d ≡ definition_here q x.lexeme → is_one ≡ is_some d → r ≡ after_definition q is_one → with_turn x d s ≡ Ok next → is_last x.lexeme ≡ true → tokens_after s (segments_from 0 (lexemes_at p)) ≡ target → target ≡ Ok next.tokens
unfolding ending
turn_ends s next p q r x d is_one target ex eq ed eo er w l h =
    sym h ∙ turn s p q r x d is_one ex eq ed eo er ∙ ap (λ w. w >>= ending (is_last x.lexeme) r) w ∙
    ap (λ b. cond b (Ok next.tokens) (tokens_after next (segments_from 0 (lexemes_at r)))) l

pub turn_fails : (s : Expanded) (fault : LexFault) (p q r : TextCursor) (x : Spanned) (d : Option (List ℕ × List ℕ)) (is_one : Bool) (target : Result (List Token) LexFault) → x ≡ lexeme_at p → q ≡ after_lexeme p → d ≡ definition_here q x.lexeme → is_one ≡ is_some d → r ≡ after_definition q is_one → with_turn x d s ≡ Err fault → tokens_after s (segments_from 0 (lexemes_at p)) ≡ target → target ≡ Err fault
turn_fails s fault p q r x d is_one target ex eq ed eo er w h =
    sym h ∙ turn s p q r x d is_one ex eq ed eo er ∙ ap (λ w. w >>= ending (is_last x.lexeme) r) w

no_more_after : (q : TextCursor) (is_one : Bool) → length (after_definition q is_one).left ≤ length q.left
no_more_after q true = let a = no_more_left q in let b = no_more_left (after_lexeme q) in omega arith
no_more_after q false = omega arith

pub turn_smaller : (p q r : TextCursor) (a : Lexeme) (is_one : Bool) → a ≡ (lexeme_at p).lexeme → q ≡ after_lexeme p → r ≡ after_definition q is_one → is_last a ≡ false → length r.left < length p.left
turn_smaller p q r a is_one ea eq er l =
    let less = fewer_left p (ap is_last (sym ea) ∙ l) in
    let more = no_more_after q is_one in
    let one = ap (λ (t : TextCursor). length t.left) eq in
    let two = ap (λ (t : TextCursor). length t.left) er in
    omega arith
