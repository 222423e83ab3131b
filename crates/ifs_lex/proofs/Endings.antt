-- The tokens of a text end once.
use Rattle.std.proofs.Common.{◌≡◌, ℕ, ◌+◌, Bool, true, false, cond, ltb, ◌||◌, List, [], ◌∷◌, ◌++◌, length, map}
use Rattle.std.proofs.Common.{Option, Some, None, option_map, Result, Ok, Err, refl, sym, ◌∙◌, ap, subst}
use Rattle.std.specs.Prelude.{is_some}
use Rattle.std.specs.Option.{option_map_or}
use Rattle.std.specs.Str.{bytes_eq}
use Rattle.ifs_base.specs.declared.span.Span.{Span}
use Rattle.ifs_base.specs.Results.{◌>>=◌}
use Rattle.ifs_lex.specs.declared.token.What.{What}
use Rattle.ifs_lex.specs.declared.token.What.TheVariants.{Word, Equals, End}
use Rattle.ifs_lex.specs.declared.token.Token.{Token}
use Rattle.ifs_lex.specs.declared.fault.LexFault.{LexFault}
use Rattle.ifs_lex.specs.declared.fault.LexFault.TheVariants.{OverLimit, BadMacro}
use Rattle.ifs_lex.specs.Lexemes.{Lexeme, One, Uses, TextCursor, Spanned, lexeme_at, after_lexeme, is_last}
use Rattle.ifs_lex.specs.Lexemes.{lexemes_of}
use Rattle.ifs_lex.specs.Expansion.{Macro, Macros, no_macros, with_macro, whats_of, joined, value_from, value_of}
use Rattle.ifs_lex.specs.Expansion.{is_given, known_as, defined, macro_name_of, Expanded, expanded, token, with_whats}
use Rattle.ifs_lex.specs.Expansion.{with_use, with_lexeme, given_one, given_from, tokens_of, is_end, Endless}
use Rattle.ifs_lex.specs.Expansion.{EndsOnce, HasTokens}
use Rattle.ifs_lex.specs.inner.Turns.{text_here, with_turn}
use Rattle.ifs_lex.proofs.Numbers.{unnumbered, numbered_once}
use Rattle.ifs_lex.proofs.Walks.{definition_next, spelled_walked}

-- A result without a fault.
abbrev fine : {A : Type 0} → A → Result A LexFault
fine x = Ok x

-- No token of a value is the end.
Values : List What → Type 0
Values ws = (span : Span) → Endless (map (token span) ws)

-- No token of a macro is the end.
record Sound (m : Macros) : Type 0 where
  pub values : (name : List ℕ) (known : Macro) → m.known name ≡ Some known → Values known.whats

Endless-append : (xs ys : List Token) → Endless xs → Endless ys → Endless (xs ++ ys)
Endless-append [] ys h g = g
Endless-append (x ∷ rest) ys h g = (h.0, Endless-append rest ys h.1 g)

Values-append : (xs ys : List What) → Values xs → Values ys → Values (xs ++ ys)
unfolding Values
Values-append [] ys h g = g
Values-append (x ∷ rest) ys h g = λ span. ((h span).0, Values-append rest ys (λ s. (h s).1) g span)

one_value : (what : What) (ws : List What) → is_end what ≡ false → Some (what ∷ []) ≡ Some ws → Values ws
unfolding Values
one_value what ws e h =
    let same : what ∷ [] ≡ ws = cc in
    let P : List What → Type 0 = λ xs. (span : Span) → Endless (map (token span) xs) in
    subst P same (λ span. (e, tt))

no_value : (ws : List What) → Some [] ≡ Some ws → Values ws
unfolding Values
no_value ws h =
    let same : [] ≡ ws = cc in
    let P : List What → Type 0 = λ xs. (span : Span) → Endless (map (token span) xs) in
    subst P same (λ span. tt)

known_value : (o : Option Macro) (ws : List What) → ((known : Macro) → o ≡ Some known → Values known.whats) → option_map (λ known. known.whats) o ≡ Some ws → Values ws
known_value None ws f h = absurd (cc)
known_value (Some known) ws f h =
    let same : known.whats ≡ ws = cc in
    subst Values same (f known refl)

lexeme_value : (m : Macros) (i : Lexeme) (ws : List What) → Sound m → whats_of m i ≡ Some ws → Values ws
lexeme_value m (One Equals) ws g h = absurd (cc)
lexeme_value m (One End) ws g h = no_value ws h
lexeme_value m (One _) ws g h = one_value _ ws refl h
lexeme_value m (Uses name) ws g h = known_value (m.known name) ws (g.values name) h
lexeme_value m _ ws g h = absurd (cc)

cut_value : (t : Bool) (whole ws : List What) → Values whole → cond t None (Some whole) ≡ Some ws → Values ws
cut_value true whole ws v h = absurd (cc)
cut_value false whole ws v h = let same : whole ≡ ws = cc in subst Values same v

joined_value : (before : List What) (o : Option (List What)) (ws : List What) → Values before → ((more : List What) → o ≡ Some more → Values more) → joined before o ≡ Some ws → Values ws
joined_value before None ws v f h = absurd (cc)
joined_value before (Some more) ws v f h = cut_value _ (before ++ more) ws (Values-append before more v (f more refl)) h

value_ends : (m : Macros) (o : Option (List What)) (lexemes : List Spanned) (ws : List What) → Sound m → ((before : List What) → o ≡ Some before → Values before) → value_from m o lexemes ≡ Some ws → Values ws
value_ends m o [] ws g f h = f ws h
value_ends m None (p ∷ rest) ws g f h = absurd (cc)
value_ends m (Some before) (p ∷ rest) ws g f h =
    value_ends m (joined before (whats_of m p.lexeme)) rest ws g (λ more e. joined_value before (whats_of m p.lexeme) more (f before refl) (λ x k. lexeme_value m p.lexeme x g k) e) h

none_before : (before : List What) → Some [] ≡ Some before → Values before
none_before before h = no_value before h

value_sound : (m : Macros) (text : List ℕ) (ws : List What) → Sound m → value_of m text ≡ Some ws → Values ws
unfolding value_of
value_sound m text ws g h = by_size (ltb 1048576 (length text)) h
  where
    by_size : (t : Bool) → cond t None (value_from m (Some []) (lexemes_of text)) ≡ Some ws → Values ws
    by_size true k = absurd (cc)
    by_size false k = value_ends m (Some []) (lexemes_of text) ws g none_before k

new_value : (t : Bool) (new : Macro) (o : Option Macro) (known : Macro) → Values new.whats → (o ≡ Some known → Values known.whats) → cond t (Some new) o ≡ Some known → Values known.whats
new_value true new o known v f h =
    let same : new ≡ known = cc in
    let P : Macro → Type 0 = λ k. Values k.whats in
    subst P same v
new_value false new o known v f h = f h

with_sound : (name : List ℕ) (new : Macro) (m : Macros) → Sound m → Values new.whats → Sound (with_macro name new m)
with_sound name new m g v = record {
  values = λ asked known h. new_value (bytes_eq name asked) new (m.known asked) known v (g.values asked known) h;
}

put_sound : (t : Bool) (made m n : Macros) (fault : LexFault) → Sound made → cond t (Ok made) (Err fault) ≡ Ok n → Sound n
put_sound true made m n fault g h = let same : made ≡ n = cc in let P : Macros → Type 0 = λ k. Sound k in subst P same g
put_sound false made m n fault g h = absurd (cc)

known_sound : (line : ℕ) (given : Bool) (name : List ℕ) (o : Option (List What)) (m n : Macros) → Sound m → ((ws : List What) → o ≡ Some ws → Values ws) → known_as line given name o m ≡ Ok n → Sound n
known_sound line given name None m n g f h = absurd (cc)
known_sound line given name (Some ws) m n g f h =
    put_sound (is_some (m.known name) || ltb m.count 256) _ m n (OverLimit line) (with_sound name (record { whats = ws; given = given }) m g (f ws refl)) h

same_sound : (m n : Macros) → Sound m → fine m ≡ Ok n → Sound n
same_sound m n g h = let same : m ≡ n = cc in let P : Macros → Type 0 = λ k. Sound k in subst P same g

defined_sound : (line : ℕ) (given : Bool) (name value : List ℕ) (m n : Macros) → Sound m → defined line given name value m ≡ Ok n → Sound n
unfolding defined
defined_sound line given name value m n g h = by_given (is_given m name) h
  where
    by_given : (t : Bool) → cond t (Ok m) (known_as line given name (value_of m value) m) ≡ Ok n → Sound n
    by_given true k = same_sound m n g k
    by_given false k = known_sound line given name (value_of m value) m n g (λ ws e. value_sound m value ws g e) k

-- Neither the tokens so far nor a macro has the end.
record Going (s : Expanded) : Type 0 where
  pub tokens : Endless s.tokens
  pub macros : Sound s.macros

more_going : (t : Bool) (s made next : Expanded) (fault : LexFault) → Going made → cond t (Err fault) (Ok made) ≡ Ok next → Going next
more_going true s made next fault g h = absurd (cc)
more_going false s made next fault g h = let same : made ≡ next = cc in let P : Expanded → Type 0 = λ k. Going k in subst P same g

whats_going : (span : Span) (ws : List What) (s next : Expanded) → Going s → Values ws → with_whats span ws s ≡ Ok next → Going next
unfolding Values
whats_going span ws s next g v h =
    more_going (ltb 16384 (length s.tokens + length ws)) s _ next (OverLimit span.line) (record { tokens = Endless-append s.tokens (map (token span) ws) g.tokens (v span); macros = g.macros }) h

use_going : (span : Span) (o : Option Macro) (s next : Expanded) → Going s → ((known : Macro) → o ≡ Some known → Values known.whats) → with_use span o s ≡ Ok next → Going next
use_going span None s next g f h = absurd (cc)
use_going span (Some known) s next g f h = whats_going span known.whats s next g (f known refl) h

one_going : (span : Span) (what : What) (s next : Expanded) → Going s → is_end what ≡ false → with_whats span (what ∷ []) s ≡ Ok next → Going next
one_going span what s next g e h = whats_going span (what ∷ []) s next g (one_value what (what ∷ []) e refl) h

lexeme_going : (span : Span) (i : Lexeme) (s next : Expanded) → Going s → is_last i ≡ false → with_lexeme span i s ≡ Ok next → Going next
lexeme_going span (One End) s next g l h = absurd (cc)
lexeme_going span (One _) s next g l h = one_going span _ s next g refl h
lexeme_going span (Uses name) s next g l h = use_going span (s.macros.known name) s next g (g.macros.values name) h
lexeme_going span _ s next g l h = absurd (cc)

macros_going : (s next : Expanded) (r : Result Macros LexFault) → Going s → ((m : Macros) → r ≡ Ok m → Sound m) → (r >>= λ m. Ok (expanded s.tokens m)) ≡ Ok next → Going next
macros_going s next (Err fault) g f h = absurd (cc)
macros_going s next (Ok m) g f h =
    let same : expanded s.tokens m ≡ next = cc in
    let P : Expanded → Type 0 = λ k. Going k in
    subst P same (record { tokens = g.tokens; macros = f m refl })

turn_going : (x : Spanned) (d : Option (List ℕ × List ℕ)) (s next : Expanded) → Going s → is_last x.lexeme ≡ false → with_turn x d s ≡ Ok next → Going next
turn_going x None s next g l h = lexeme_going x.span x.lexeme s next g l h
turn_going x (Some d) s next g l h =
    macros_going s next _ g (λ m e. defined_sound x.span.line false d.0 d.1 s.macros m g.macros e) h

end_once : (span : Span) (s next : Expanded) (ts : List Token) → Going s → fine (expanded (s.tokens ++ (token span End ∷ [])) s.macros) ≡ Ok next → fine next.tokens ≡ Ok ts → EndsOnce ts
end_once span s next ts g h k =
    let one : expanded (s.tokens ++ (token span End ∷ [])) s.macros ≡ next = cc in
    let two : next.tokens ≡ ts = cc in
    record {
      front = s.tokens;
      last = token span End;
      whole = sym two ∙ sym (ap (λ (n : Expanded). n.tokens) one);
      ends = refl;
      once = g.tokens;
    }

pub no_definition : (i : Lexeme) → is_last i ≡ true → macro_name_of i ≡ None
no_definition (One (Word _)) l = absurd (cc)
no_definition _ l = refl

last_once : (span : Span) (i : Lexeme) (s next : Expanded) (ts : List Token) → Going s → is_last i ≡ true → with_lexeme span i s ≡ Ok next → fine next.tokens ≡ Ok ts → EndsOnce ts
last_once span (One End) s next ts g l h k = end_once span s next ts g h k
last_once span _ s next ts g l h k = absurd (cc)

ends_here : (s next : Expanded) (p : TextCursor) → Going s → is_last (lexeme_at p).lexeme ≡ true → with_turn (lexeme_at p) (definition_next p) s ≡ Ok next → EndsOnce next.tokens
ends_here s next p g l e =
    let none = no_definition (lexeme_at p).lexeme l in
    let found : Option (List ℕ) → Option (List ℕ × List ℕ) = λ o. option_map_or (λ name. option_map (λ text. (name, text)) (text_here (after_lexeme p))) o None in
    last_once (lexeme_at p).span (lexeme_at p).lexeme s next next.tokens g l (sym (ap (λ o. with_turn (lexeme_at p) (found o) s) none) ∙ e) refl

goes_here : (s next : Expanded) (p : TextCursor) (ts : List Token) → Going s → is_last (lexeme_at p).lexeme ≡ false → with_turn (lexeme_at p) (definition_next p) s ≡ Ok next
    → (Going next → EndsOnce ts) → EndsOnce ts
goes_here s next p ts g l e rest = rest (turn_going (lexeme_at p) _ s next g l e)

given_case : (t : Bool) (name value : List ℕ) (m n : Macros) → Sound m → cond t (defined 0 true name value m) (Err (BadMacro 0)) ≡ Ok n → Sound n
given_case true name value m n g h = defined_sound 0 true name value m n g h
given_case false name value m n g h = absurd (cc)

given_next : (r : Result Macros LexFault) (rest : List (List ℕ × List ℕ)) (n : Macros) → ((m : Macros) → r ≡ Ok m → Sound m) → ((m : Macros) → Sound m → given_from m rest ≡ Ok n → Sound n) → (r >>= λ next. given_from next rest) ≡ Ok n → Sound n
given_next (Err fault) rest n f next h = absurd (cc)
given_next (Ok m) rest n f next h = next m (f m refl) h

given_sound : (defs : List (List ℕ × List ℕ)) (m n : Macros) → Sound m → given_from m defs ≡ Ok n → Sound n
given_sound [] m n g h = same_sound m n g h
given_sound (def ∷ rest) m n g h =
    given_next (given_one def.0 def.1 m) rest n (λ next e. given_case _ def.0 def.1 m next g e) (λ next sound k. given_sound rest next n sound k) h

none_sound : Sound no_macros
none_sound = record { values = λ name known h. absurd (cc) }

-- The tokens of a text end once.
pub spelled_ends_once : (text : List ℕ) (defs : List (List ℕ × List ℕ)) (ts : List Token) → HasTokens text defs ts → EndsOnce ts
spelled_ends_once text defs ts h =
    let u = unnumbered text defs ts h in
    subst EndsOnce u.numbered
    (numbered_once u.tokens
    (spelled_walked Going (λ p ts. EndsOnce ts) ends_here goes_here text defs u.tokens (λ m e. record { tokens = tt; macros = given_sound defs no_macros m none_sound e }) u.has))

-- A text spells one list of tokens.
pub spelled_once : (text : List ℕ) (defs : List (List ℕ × List ℕ)) (ts us : List Token) → HasTokens text defs ts → HasTokens text defs us → ts ≡ us
spelled_once text defs ts us h k = let same = sym h ∙ k in cc

-- A text with a fault spells no tokens.
pub spelled_none : (text : List ℕ) (defs : List (List ℕ × List ℕ)) (ts : List Token) (fault : LexFault) → HasTokens text defs ts → tokens_of text defs ≡ Err fault → ⊥
spelled_none text defs ts fault h k = let same = sym h ∙ k in cc
