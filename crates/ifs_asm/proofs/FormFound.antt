-- What words say: the line that is read from them has those words, and fits.
use Rattle.std.proofs.Common.{◌≡◌, ℕ, zero, suc, ◌∙◌, ap, ◌^◌, ◌<◌, ◌≤◌, cond, List, [], ◌∷◌, length}
use Rattle.std.proofs.Common.{Option, Some, None, refl, subst, arith, codes}
use Rattle.std.specs.Prelude.{◌==◌, ◌&&◌, nat_lt, IfSome, option_and_then, option_map}
use Rattle.std.specs.List.{AllZip}
use Rattle.std.specs.Str.{bytes_eq, is_utf8}
use Rattle.std.proofs.lemmas.Str.{IsUtf8-from_is_utf8}
use Rattle.std.proofs.lemmas.Bool.{and_parts, cond_both, ltb-true, ltb-false}
use Rattle.ifs_base.specs.Numbers.{number_of}
use Rattle.ifs_base.specs.Sizes.{TextFits, PeriodFits}
use Rattle.ifs_base.specs.declared.op.LinkState.{LinkState}
use Rattle.ifs_base.specs.declared.op.LinkState.TheVariants.{Unknown, Down, Up}
use Rattle.ifs_base.specs.Words.{link_word}
use Rattle.ifs_base.specs.declared.op.Op.{Op}
use Rattle.ifs_base.specs.declared.op.Op.TheVariants.{Link}
use Rattle.ifs_image.specs.declared.parts.Handlers.{Handlers}
use Rattle.ifs_image.specs.Limits.{HandlersInRange}
use Rattle.ifs_base.specs.declared.op.Kind.{Kind}
use Rattle.ifs_asm.specs.declared.line.Version.TheVariants.{One, Two}
use Rattle.ifs_asm.specs.declared.line.Head.TheVariants.{Plain, Signature}
use Rattle.ifs_asm.specs.declared.line.Line.{Line}
use Rattle.ifs_asm.specs.declared.forms.Field.{Field}
use Rattle.ifs_asm.specs.declared.forms.Field.TheVariants.{Stack, Frames, Cost, Commands, Start}
use Rattle.ifs_asm.specs.declared.line.Line.TheVariants as lines
use Rattle.ifs_asm.specs.Texts.{words_of, handlers_words, truths, kinds_word}
use Rattle.ifs_asm.specs.Spellings.{IsQuoted}
use Rattle.ifs_asm.specs.inner.Words.{Start, text_from, in_utf8, mask_in, kinds_in}
use Rattle.ifs_asm.specs.inner.Forms.{plain_op, indexed_op, link_state_in, up_to, number_up_to, text_within, sized_text}
use Rattle.ifs_asm.specs.inner.Forms.{period_within, period_in, number_line, two_words, routine_line, signed_line, signature_line, link_line}
use Rattle.ifs_asm.specs.inner.Forms.{test_line, field_in, most_of, field_line, numbered_line}
use Rattle.ifs_asm.specs.inner.Forms.{three_words, numbered_handlers, handlers_in, state_line, long_line, line_of}
use Rattle.ifs_asm.proofs.Bytes.{same_word}
use Rattle.ifs_asm.proofs.Quotes.{text_found, no_nul}
use Rattle.ifs_asm.proofs.MaskLists.{mask_found, mask_small}
use Rattle.ifs_asm.proofs.KindLists.{kinds_found}
use Rattle.ifs_asm.proofs.Cutting.{Spelled}
use Rattle.ifs_asm.specs.Refused.{TextGood, LineFits}

-- ---- what an option has, by cases

cases_of : {X : Type 0} (o : Option X) (H : Option X → Type 0) → H None → ((x : X) → o ≡ Some x → H (Some x)) → H o
cases_of None H none some = none
cases_of (Some x) H none some = some x refl

up_case : (most n : ℕ) (H : Option ℕ → Type 0) → H None → (n ≤ most → H (Some n)) → H (up_to most n)
up_case most n H none some = cond_both (nat_lt most n) None (Some n) H (λ _. none) (λ e. some (ltb-false most n e))

up_cases : (most : ℕ) (word : List ℕ) (H : Option ℕ → Type 0) → H None → ((n : ℕ) → number_of word ≡ Some n → n ≤ most → H (Some n)) → H (number_up_to most word)
up_cases most word H none some = cases_of (number_of word) (λ o. H (option_and_then (up_to most) o)) none (λ n e. up_case most n H none (some n e))

period_cases : (word : List ℕ) (H : Option ℕ → Type 0) → H None → ((n : ℕ) → number_of word ≡ Some n → PeriodFits n → H (Some n)) → H (period_in word)
period_cases word H none some = cases_of (number_of word) (λ o. H (option_and_then period_within o)) none (λ n e.
    cond_both (nat_lt 0 n && nat_lt n 604801) (Some n) None H
    (λ t.
    let p = and_parts (nat_lt 0 n) (nat_lt n 604801) t in
    some n e (record { not_zero = omega (arith, ltb-true 0 n p.0); within = omega (arith, ltb-true n 604801 p.1) }))
    (λ _. none))

text_cases : (word : List ℕ) (H : Option (List ℕ) → Type 0) → H None → ((text : List ℕ) → IsQuoted text word → TextGood text → H (Some text)) → H (sized_text word)
text_cases word H none some = cases_of (text_from word Start) (λ o. H (option_and_then text_within (option_and_then in_utf8 o))) none (λ text e.
    cond_both (is_utf8 text) (Some text) None (λ o. H (option_and_then text_within o))
    (λ u. cond_both (nat_lt 0 (length text) && nat_lt (length text) 1025) (Some text) None H
    (λ t.
    let p = and_parts (nat_lt 0 (length text)) (nat_lt (length text) 1025) t in
    let quoted = text_found word text e in
    let fits : TextFits text = record { not_empty = omega (arith, ltb-true 0 (length text) p.0); within = omega (arith, ltb-true (length text) 1025 p.1); no_nul = no_nul text word quoted } in
    some text quoted (record { fits = fits; utf8 = IsUtf8-from_is_utf8 text u }))
    (λ _. none))
    (λ _. none))

handlers_cases : (words : List (List ℕ)) (H : Option Handlers → Type 0) → H None → ((h : Handlers) → AllZip Spelled words (handlers_words h) → HandlersInRange h → H (Some h)) → H (handlers_in words)
handlers_cases [] H none some = none
handlers_cases (a ∷ []) H none some = none
handlers_cases (a ∷ init ∷ []) H none some = none
handlers_cases (a ∷ init ∷ b ∷ []) H none some = none
handlers_cases (a ∷ init ∷ b ∷ body ∷ []) H none some = none
handlers_cases (a ∷ init ∷ b ∷ body ∷ c ∷ []) H none some = none
handlers_cases (a ∷ init ∷ b ∷ body ∷ c ∷ tests ∷ []) H none some =
    cond_both (bytes_eq a (codes "init") && (bytes_eq b (codes "body") && bytes_eq c (codes "tests"))) (numbered_handlers init body tests) None H
    (λ t.
    let p = and_parts (bytes_eq a (codes "init")) (bytes_eq b (codes "body") && bytes_eq c (codes "tests")) t in
    let q = and_parts (bytes_eq b (codes "body")) (bytes_eq c (codes "tests")) p.1 in
    up_cases 65535 init (λ o. H (option_and_then (λ i. option_and_then (λ n. option_map (λ m. record { init = record { 0 = i }; body = record { 0 = n }; mask = m }) (mask_in tests)) (number_up_to 65535 body)) o)) none (λ i is_i small_i.
    up_cases 65535 body (λ o. H (option_and_then (λ n. option_map (λ m. record { init = record { 0 = i }; body = record { 0 = n }; mask = m }) (mask_in tests)) o)) none (λ n is_n small_n.
    cases_of (mask_in tests) (λ o. H (option_map (λ m. record { init = record { 0 = i }; body = record { 0 = n }; mask = m }) o)) none (λ m is_m.
    some (record { init = record { 0 = i }; body = record { 0 = n }; mask = m })
    (same_word a (codes "init") p.0, (is_i, (same_word b (codes "body") q.0, (is_n, (same_word c (codes "tests") q.1, (mask_found tests m is_m, tt))))))
    (record { init = omega (arith, small_i); body = omega (arith, small_n); mask = mask_small tests m is_m })))))
    (λ _. none)
handlers_cases (a ∷ init ∷ b ∷ body ∷ c ∷ tests ∷ d ∷ more) H none some = none

-- ---- the lines

-- A line has these words, and fits.
abbrev Has : List (List ℕ) → Line → Type 0
Has words line = AllZip Spelled words (words_of line) × LineFits line

abbrev Gives : List (List ℕ) → Option Line → Type 0
Gives words o = IfSome o (Has words)

-- A choice by a word.
pick : (words : List (List ℕ)) (name key : List ℕ) (x y : Option Line) → (name ≡ key → Gives words x) → Gives words y → Gives words (cond (bytes_eq name key) x y)
pick words name key x y taken others = cond_both (bytes_eq name key) x y (Gives words) (λ e. taken (same_word name key e)) (λ _. others)

pick_op : (words : List (List ℕ)) (name key : List ℕ) (x y : Option Op) → (name ≡ key → Gives words (option_map lines.Instruction x)) → Gives words (option_map lines.Instruction y) → Gives words (option_map lines.Instruction (cond (bytes_eq name key) x y))
pick_op words name key x y taken others = cond_both (bytes_eq name key) x y (λ o. Gives words (option_map lines.Instruction o)) (λ e. taken (same_word name key e)) (λ _. others)

one_found : (name : List ℕ) → Gives (name ∷ []) (option_map lines.Instruction (plain_op name))
one_found name =
    pick_op (name ∷ []) name (codes "ret") _ _ (λ e. ((e, tt), tt)) (
    pick_op (name ∷ []) name (codes "true") _ _ (λ e. ((e, tt), tt)) (
    pick_op (name ∷ []) name (codes "false") _ _ (λ e. ((e, tt), tt)) (
    pick_op (name ∷ []) name (codes "not") _ _ (λ e. ((e, tt), tt)) (
    pick_op (name ∷ []) name (codes "and") _ _ (λ e. ((e, tt), tt)) (
    pick_op (name ∷ []) name (codes "or") _ _ (λ e. ((e, tt), tt)) (
    pick_op (name ∷ []) name (codes "queue") _ _ (λ e. ((e, tt), tt)) (
    pick_op (name ∷ []) name (codes "want") _ _ (λ e. ((e, tt), tt)) (
    pick_op (name ∷ []) name (codes "pop") _ _ (λ e. ((e, tt), tt)) (
    pick_op (name ∷ []) name (codes "dup") _ _ (λ e. ((e, tt), tt)) tt)))))))))

indexed_found : (name word : List ℕ) (n : ℕ) → number_of word ≡ Some n → n < 2 ^ 16 → Gives (name ∷ word ∷ []) (option_map lines.Instruction (indexed_op name n))
indexed_found name word n is small =
    pick_op (name ∷ word ∷ []) name (codes "test") _ _ (λ e. ((e, (is, tt)), small)) (
    pick_op (name ∷ word ∷ []) name (codes "known") _ _ (λ e. ((e, (is, tt)), small)) (
    pick_op (name ∷ word ∷ []) name (codes "cmd") _ _ (λ e. ((e, (is, tt)), small)) (
    pick_op (name ∷ word ∷ []) name (codes "state") _ _ (λ e. ((e, (is, tt)), small)) (
    pick_op (name ∷ word ∷ []) name (codes "jump") _ _ (λ e. ((e, (is, tt)), small)) (
    pick_op (name ∷ word ∷ []) name (codes "jf") _ _ (λ e. ((e, (is, tt)), small)) (
    pick_op (name ∷ word ∷ []) name (codes "jt") _ _ (λ e. ((e, (is, tt)), small)) (
    pick_op (name ∷ word ∷ []) name (codes "call") _ _ (λ e. ((e, (is, tt)), small)) tt)))))))

texted : (name key word : List ℕ) (f : List ℕ → Line) → ((t : List ℕ) → name ≡ key → IsQuoted t word → TextGood t → Has (name ∷ word ∷ []) (f t)) → name ≡ key → Gives (name ∷ word ∷ []) (option_map f (sized_text word))
texted name key word f h e = text_cases word (λ o. Gives (name ∷ word ∷ []) (option_map f o)) tt (λ t is good. h t e is good)

-- The name of a field.
abbrev field_word : Field → List ℕ
field_word Stack = codes "stack"
field_word Frames = codes "frames"
field_word Cost = codes "cost"
field_word Commands = codes "commands"
field_word Start = codes "start"

field_cases : (name : List ℕ) (H : Option Field → Type 0) → H None → ((field : Field) → name ≡ field_word field → H (Some field)) → H (field_in name)
field_cases name H none some =
    cond_both (bytes_eq name (codes "stack")) _ _ H (λ e. some Stack (same_word name (codes "stack") e)) (λ _.
    cond_both (bytes_eq name (codes "frames")) _ _ H (λ e. some Frames (same_word name (codes "frames") e)) (λ _.
    cond_both (bytes_eq name (codes "cost")) _ _ H (λ e. some Cost (same_word name (codes "cost") e)) (λ _.
    cond_both (bytes_eq name (codes "commands")) _ _ H (λ e. some Commands (same_word name (codes "commands") e)) (λ _.
    cond_both (bytes_eq name (codes "start")) _ _ H (λ e. some Start (same_word name (codes "start") e)) (λ _. none)))))

field_has : (field : Field) (name word : List ℕ) (n : ℕ) → name ≡ field_word field → number_of word ≡ Some n → n ≤ most_of field → Has (name ∷ word ∷ []) (field_line field n)
field_has Stack name word n e is le = ((e, (is, tt)), le)
field_has Frames name word n e is le = ((e, (is, tt)), le)
field_has Cost name word n e is le = ((e, (is, tt)), le)
field_has Commands name word n e is le = ((e, (is, tt)), le)
field_has Start name word n e is le = ((e, (is, tt)), omega (arith, le))

number_found : (name word : List ℕ) → Gives (name ∷ word ∷ []) (number_line name word)
number_found name word =
    field_cases name (λ o. Gives (name ∷ word ∷ []) (numbered_line o name word))
    (up_cases 65535 word (λ o. Gives (name ∷ word ∷ []) (option_and_then (λ n. option_map lines.Instruction (indexed_op name n)) o)) tt (λ n is le. indexed_found name word n is (omega (arith, le))))
    (λ field e. up_cases (most_of field) word (λ o. Gives (name ∷ word ∷ []) (option_map (field_line field) o)) tt (λ n is le. field_has field name word n e is le))

two_found : (name word : List ℕ) → Gives (name ∷ word ∷ []) (two_words name word)
two_found name word =
    pick (name ∷ word ∷ []) name (codes "ifsv") _ _ (λ e. pick (name ∷ word ∷ []) word (codes "1") (Some (lines.Version One)) _ (λ one. ((e, (one, tt)), tt)) (pick (name ∷ word ∷ []) word (codes "2") (Some (lines.Version Two)) None (λ two. ((e, (two, tt)), tt)) tt)) (
    pick (name ∷ word ∷ []) name (codes "iface") _ _ (texted name (codes "iface") word lines.Interface (λ t e is good. ((e, (is, tt)), good))) (
    pick (name ∷ word ∷ []) name (codes "command") _ _ (texted name (codes "command") word lines.Command (λ t e is good. ((e, (is, tt)), good)))
    (number_found name word)))

state_cases : (word : List ℕ) (H : Option LinkState → Type 0) → H None → ((s : LinkState) → word ≡ link_word s → H (Some s)) → H (link_state_in word)
state_cases word H none some =
    cond_both (bytes_eq word (codes "unknown")) _ _ H (λ e. some Unknown (same_word word (codes "unknown") e)) (λ _.
    cond_both (bytes_eq word (codes "down")) _ _ H (λ e. some Down (same_word word (codes "down") e)) (λ _.
    cond_both (bytes_eq word (codes "up")) _ _ H (λ e. some Up (same_word word (codes "up") e)) (λ _. none)))

link_found : (name first second : List ℕ) → name ≡ codes "link" → Gives (name ∷ first ∷ second ∷ []) (link_line first second)
link_found name first second e =
    up_cases 65535 first (λ o. Gives (name ∷ first ∷ second ∷ []) (option_and_then (λ n. option_map (λ s. lines.Instruction (Link (record { 0 = n }) s)) (link_state_in second)) o)) tt (λ n is le.
    state_cases second (λ o. Gives (name ∷ first ∷ second ∷ []) (option_map (λ s. lines.Instruction (Link (record { 0 = n }) s)) o)) tt (λ s at. ((e, (is, (at, tt))), omega (arith, le))))

test_found : (name first second : List ℕ) → name ≡ codes "test" → Gives (name ∷ first ∷ second ∷ []) (test_line first second)
test_found name first second e =
    period_cases first (λ o. Gives (name ∷ first ∷ second ∷ []) (option_and_then (λ n. option_map (λ t. lines.Test (record { period = n; text = t })) (sized_text second)) o)) tt (λ n is fits.
    text_cases second (λ o. Gives (name ∷ first ∷ second ∷ []) (option_map (λ t. lines.Test (record { period = n; text = t })) o)) tt (λ t at good. ((e, (is, (at, tt))), (fits, good))))

truths_are : (n : ℕ) → n ≤ 1 → n ≡ truths (n == 1)
truths_are zero le = refl
truths_are (suc zero) le = refl
truths_are (suc (suc n)) le = absurd (omega (arith, le))

routine_found : (name first second : List ℕ) → name ≡ codes "routine" → Gives (name ∷ first ∷ second ∷ []) (routine_line first second)
routine_found name first second e =
    pick (name ∷ first ∷ second ∷ []) first (codes "results") (option_map (λ n. lines.Routine (Plain (n == 1))) (number_up_to 1 second)) None (λ at.
    up_cases 1 second (λ o. Gives (name ∷ first ∷ second ∷ []) (option_map (λ n. lines.Routine (Plain (n == 1))) o)) tt (λ n is le. ((e, (at, (is ∙ ap Some (truths_are n le), tt))), tt))) tt

three_found : (name first second : List ℕ) → Gives (name ∷ first ∷ second ∷ []) (three_words name first second)
three_found name first second =
    pick (name ∷ first ∷ second ∷ []) name (codes "routine") _ _ (routine_found name first second) (
    pick (name ∷ first ∷ second ∷ []) name (codes "link") _ _ (link_found name first second) (
    pick (name ∷ first ∷ second ∷ []) name (codes "test") _ _ (test_found name first second) tt))

kinds_cases : (word : List ℕ) (H : Option (List Kind) → Type 0) → H None → ((kinds : List Kind) → word ≡ kinds_word kinds → length kinds ≤ 4 → H (Some kinds)) → H (kinds_in word)
kinds_cases word H none some = cases_of (kinds_in word) H none (λ kinds e. let f = kinds_found word kinds e in some kinds f.0 f.1)

signature_found : (name : List ℕ) (words : List (List ℕ)) → name ≡ codes "routine" → Gives (name ∷ words) (signature_line words)
signature_found name [] e = tt
signature_found name (a ∷ []) e = tt
signature_found name (a ∷ params ∷ []) e = tt
signature_found name (a ∷ params ∷ b ∷ []) e = tt
signature_found name (a ∷ params ∷ b ∷ results ∷ []) e =
    let words = name ∷ a ∷ params ∷ b ∷ results ∷ [] in
    cond_both (bytes_eq a (codes "params") && bytes_eq b (codes "results")) (signed_line params results) None (Gives words)
    (λ t.
    let p = and_parts (bytes_eq a (codes "params")) (bytes_eq b (codes "results")) t in
    kinds_cases params (λ o. Gives words (option_and_then (λ p. option_map (λ r. lines.Routine (Signature (record { items = p }) (record { items = r }))) (kinds_in results)) o)) tt (λ ps is_params few_params.
    kinds_cases results (λ o. Gives words (option_map (λ r. lines.Routine (Signature (record { items = ps }) (record { items = r }))) o)) tt (λ rs is_results few_results.
    ((e, (same_word a (codes "params") p.0, (is_params, (same_word b (codes "results") p.1, (is_results, tt))))), (few_params, few_results)))))
    (λ _. tt)
signature_found name (a ∷ params ∷ b ∷ results ∷ c ∷ more) e = tt

always_found : (name : List ℕ) (words : List (List ℕ)) → name ≡ codes "always" → Gives (name ∷ words) (option_map lines.Always (handlers_in words))
always_found name words e = handlers_cases words (λ o. Gives (name ∷ words) (option_map lines.Always o)) tt (λ h are small. ((e, are), small))

state_found : (name : List ℕ) (words : List (List ℕ)) → name ≡ codes "state" → Gives (name ∷ words) (state_line words)
state_found name [] e = tt
state_found name (text ∷ words) e =
    handlers_cases words (λ o. Gives (name ∷ text ∷ words) (option_and_then (λ h. option_map (λ t. lines.State (record { name = t; handlers = h })) (sized_text text)) o)) tt (λ h are small.
    text_cases text (λ o. Gives (name ∷ text ∷ words) (option_map (λ t. lines.State (record { name = t; handlers = h })) o)) tt (λ t at good. ((e, (at, are)), (good, small))))

long_found : (name : List ℕ) (words : List (List ℕ)) → Gives (name ∷ words) (long_line name words)
long_found name words =
    pick (name ∷ words) name (codes "routine") _ _ (signature_found name words) (
    pick (name ∷ words) name (codes "always") _ _ (always_found name words) (
    pick (name ∷ words) name (codes "state") _ _ (state_found name words) tt))

gives : (words : List (List ℕ)) → Gives words (line_of words)
gives [] = tt
gives (a ∷ []) = one_found a
gives (a ∷ b ∷ []) = two_found a b
gives (a ∷ b ∷ c ∷ []) = three_found a b c
gives (a ∷ b ∷ c ∷ d ∷ more) = long_found a (b ∷ c ∷ d ∷ more)

pub line_found : (words : List (List ℕ)) (line : Line) → line_of words ≡ Some line → AllZip Spelled words (words_of line) × LineFits line
line_found words line h = subst (Gives words) h (gives words)
