-- What a rejected line does: it repeats a name, exceeds a limit, or comes out of order.
use Rattle.std.proofs.Common.{◌≡◌, ℕ, zero, suc, ◌<◌, ◌≤◌, Bool, true, false, List, [], ◌∷◌, ◌++◌, length, map, take}
use Rattle.std.proofs.Common.{Option, Some, None, refl, sym, ap, subst, ◌∙◌, arith, append_assoc, inl, inr}
use Rattle.std.specs.Prelude.{◌||◌, ◌⊎◌, not, nat_lt}
use Rattle.std.specs.List.{flat_map}
use Rattle.std.specs.Str.{bytes_eq}
use Rattle.std.proofs.lemmas.Bool.{and_parts, ltb-true, cases_lt}
use Rattle.std.proofs.lemmas.Bool.Decides.{nat_tests}
use Rattle.std.proofs.lemmas.List.{append-nil}
use Rattle.std.proofs.lemmas.List.Concat.{flat_map-append}
use Rattle.ifs_image.specs.declared.parts.Handlers.{Handlers}
use Rattle.ifs_image.specs.declared.parts.StateSpec.{StateSpec}
use Rattle.ifs_image.specs.declared.parts.Routine.{Routine}
use Rattle.ifs_image.specs.declared.parts.ImageParts.{ImageParts}
use Rattle.ifs_image.specs.Limits.{names_of, instructions, code_limit}
use Rattle.ifs_image.specs.Reading.{stands_in}
use Rattle.ifs_asm.specs.declared.fault.LineFault.TheVariants as faults
use Rattle.ifs_asm.specs.declared.forms.Formed.{Formed}
use Rattle.ifs_asm.specs.declared.line.Version.{Version}
use Rattle.ifs_asm.specs.declared.line.Version.TheVariants.{One, Two}
use Rattle.ifs_asm.specs.declared.line.Head.{Head}
use Rattle.ifs_asm.specs.declared.line.Head.TheVariants.{Plain, Signature}
use Rattle.ifs_asm.specs.declared.line.Line.{Line}
use Rattle.ifs_asm.specs.declared.line.Line.TheVariants as lines
use Rattle.ifs_asm.specs.Texts.{version_number, version_in, head_of, front_lines, routine_lines}
use Rattle.ifs_asm.specs.Refused.{EachBreaks, IsAmong, IsOfOther, HasNoForm, HasMany, IsLong, IsOver, IsOneTooMany, IsOutOfPlace}
use Rattle.ifs_asm.specs.inner.Forms.{formed}
use Rattle.ifs_asm.specs.inner.Building.{Built, listed_routine, current_len, parts_said}
use Rattle.ifs_asm.specs.inner.Building.{lines_said, has_no_form, is_of_other, is_full, line_in}
use Rattle.ifs_asm.specs.inner.Reading.{Blames}
use Rattle.ifs_asm.proofs.Bytes.{same_word}
use Rattle.ifs_asm.proofs.BuildFits.{IsWithin, no_routines}
use Rattle.ifs_asm.proofs.Versions.{version_back}
use Rattle.ifs_asm.proofs.BuildFound.{Sound}
use Rattle.ifs_asm.proofs.Picked.{repeats_none, over_none}
use Rattle.ifs_asm.proofs.TextLaws.{line_in_found, line_in_again}

-- ---- a line among others

-- Lines are a part of others.
record IsPart (part said : List Line) : Type 0 where
  before : List Line
  after : List Line
  whole : said ≡ before ++ (part ++ after)

in_part : (part said : List Line) (l : Line) → IsAmong part l → IsPart part said → IsAmong said l
in_part part said l s p = record {
  before = p.before ++ s.before;
  after = s.after ++ p.after;
  whole =
      p.whole ∙ ap (λ (ls : List Line). p.before ++ (ls ++ p.after)) s.whole ∙ ap (λ (ls : List Line). p.before ++ ls) (append_assoc s.before (l ∷ s.after) p.after)
      ∙ sym (append_assoc p.before s.before (l ∷ (s.after ++ p.after)));
}

-- The lines before the tables and each table are a part of all lines.
record Parts (f i t c s r : List Line) : Type 0 where
  front : IsPart f (f ++ i ++ t ++ c ++ s ++ r)
  interfaces : IsPart i (f ++ i ++ t ++ c ++ s ++ r)
  tests : IsPart t (f ++ i ++ t ++ c ++ s ++ r)
  commands : IsPart c (f ++ i ++ t ++ c ++ s ++ r)
  states : IsPart s (f ++ i ++ t ++ c ++ s ++ r)

parts : (f i t c s r : List Line) → Parts f i t c s r
parts f i t c s r = record {
  front = record { before = []; after = i ++ (t ++ (c ++ (s ++ r))); whole = simp append_assoc };
  interfaces = record { before = f; after = t ++ (c ++ (s ++ r)); whole = simp append_assoc };
  tests = record { before = f ++ i; after = c ++ (s ++ r); whole = simp append_assoc };
  commands = record { before = f ++ i ++ t; after = s ++ r; whole = simp append_assoc };
  states = record { before = f ++ i ++ t ++ c; after = r; whole = simp append_assoc };
}

parts_of : (b : Built)
    → Parts (take b.front (front_lines (parts_said b))) (map lines.Interface b.interfaces) (map lines.Test b.tests) (map lines.Command b.commands) (map lines.State b.states)
    (flat_map (routine_lines b.version) (b.routines ++ listed_routine b.current))
parts_of b = parts _ _ _ _ _ _

in_more : (x : Line) (xs : List Line) (l : Line) → IsAmong xs l → IsAmong (x ∷ xs) l
in_more x xs l s = record { before = x ∷ s.before; after = s.after; whole = ap (λ (ls : List Line). x ∷ ls) s.whole }

name_case : (name x : List ℕ) (xs : List (List ℕ)) (b : Bool) → bytes_eq x name ≡ b → (b || stands_in name xs) ≡ true → (stands_in name xs ≡ true → IsAmong (map lines.Interface xs) (lines.Interface name))
    → IsAmong (map lines.Interface (x ∷ xs)) (lines.Interface name)
name_case name x xs true same h ih = record { before = []; after = map lines.Interface xs; whole = ap (λ (n : List ℕ). lines.Interface n ∷ map lines.Interface xs) (same_word x name same) }
name_case name x xs false same h ih = in_more (lines.Interface x) (map lines.Interface xs) (lines.Interface name) (ih h)

interface_in : (name : List ℕ) (xs : List (List ℕ)) → stands_in name xs ≡ true → IsAmong (map lines.Interface xs) (lines.Interface name)
interface_in name [] h = absurd cc
interface_in name (x ∷ xs) h = name_case name x xs (bytes_eq x name) refl h (interface_in name xs)

-- The version is the first line.
version_first : (n : ℕ) (p : ImageParts) (v : Version) → 0 < n → version_in p.version ≡ v → IsAmong (take n (front_lines p)) (lines.Version v)
version_first zero p v lt e = absurd (omega (arith, lt))
version_first (suc n) p v lt e =
    let others = take n (lines.Stack p.budgets.stack ∷ lines.Frames p.budgets.frames ∷ lines.Cost p.budgets.cost ∷ lines.Commands p.budgets.commands ∷ lines.Start p.initial ∷ lines.Always p.always ∷ []) in
    record { before = []; after = others; whole = ap (λ (w : Version). lines.Version w ∷ others) e }

other_form : (v : Version) (head : Head) → is_of_other v head ≡ true → IsOfOther v head
other_form One (Plain truth) h = absurd cc
other_form One (Signature params results) h = tt
other_form Two (Plain truth) h = tt
other_form Two (Signature params results) h = absurd cc

-- A state with a name.
record Named (xs : List StateSpec) (name : List ℕ) : Type 0 where
  handlers : Handlers
  stands : IsAmong (map lines.State xs) (lines.State (record { name = name; handlers = handlers }))

state_case : (name : List ℕ) (x : StateSpec) (xs : List StateSpec) (b : Bool) → bytes_eq x.name name ≡ b → (b || stands_in name (names_of xs)) ≡ true → (stands_in name (names_of xs) ≡ true → Named xs name) → Named (x ∷ xs) name
state_case name x xs true same h ih = record {
  handlers = x.handlers;
  stands = record { before = []; after = map lines.State xs; whole = ap (λ (n : List ℕ). lines.State (record { name = n; handlers = x.handlers }) ∷ map lines.State xs) (same_word x.name name same) };
}
state_case name x xs false same h ih =
    let n = ih h in
    record { handlers = n.handlers; stands = in_more (lines.State x) (map lines.State xs) (lines.State (record { name = name; handlers = n.handlers })) n.stands }

state_in : (name : List ℕ) (xs : List StateSpec) → stands_in name (names_of xs) ≡ true → Named xs name
state_in name [] h = absurd cc
state_in name (x ∷ xs) h = state_case name x xs (bytes_eq x.name name) refl h (state_in name xs)

-- The version that was read is among the lines.
version_said : (b : Built) → 0 < b.front → IsAmong (lines_said b) (lines.Version b.version)
version_said b lt = in_part (take b.front (front_lines (parts_said b))) (lines_said b) (lines.Version b.version) (version_first b.front (parts_said b) b.version lt (version_back b.version)) (parts_of b).front

repeats : (b : Built) (l : Line) → has_no_form b l ≡ true → HasNoForm (lines_said b) l
repeats b (lines.Interface name) h = in_part (map lines.Interface b.interfaces) (lines_said b) (lines.Interface name) (interface_in name b.interfaces h) (parts_of b).interfaces
repeats b (lines.State x) h =
    let n = state_in x.name b.states h in
    (n.handlers, in_part (map lines.State b.states) (lines_said b) (lines.State (record { name = x.name; handlers = n.handlers })) n.stands (parts_of b).states)
repeats b (lines.Version v) h = absurd cc
repeats b (lines.Stack n) h = absurd cc
repeats b (lines.Frames n) h = absurd cc
repeats b (lines.Cost n) h = absurd cc
repeats b (lines.Commands n) h = absurd cc
repeats b (lines.Start n) h = absurd cc
repeats b (lines.Always handlers) h = absurd cc
repeats b (lines.Test t) h = absurd cc
repeats b (lines.Command text) h = absurd cc
repeats b (lines.Routine head) h =
    let p = and_parts (nat_lt 0 b.front) (is_of_other b.version head) h in
    (b.version, version_said b (ltb-true 0 b.front p.0), other_form b.version head p.1)
repeats b (lines.Instruction op) h = absurd cc

-- ---- counts

no_room : (n most : ℕ) → not (nat_lt n most) ≡ true → most ≤ n
no_room n most e = grind (arith, nat_tests)

-- A full table has as many lines as it may have.
full_table : {X : Type 0} (line : X → Line) (most : ℕ) (xs : List X) (said : List Line) → not (nat_lt (length xs) most) ≡ true → IsPart (map line xs) said → HasMany line most said
full_table line most xs said h p = record { before = p.before; entries = xs; after = p.after; whole = p.whole; enough = no_room (length xs) most h }

either_true : (x y : Bool) → (x || y) ≡ true → (x ≡ true) ⊎ (y ≡ true)
either_true true y h = inl refl
either_true false y h = inr h

short_none : not (nat_lt 0 1024) ≡ true → ⊥
short_none h = absurd cc

routines_more : (v : Version) (rs : List Routine) (r : Routine) → flat_map (routine_lines v) (rs ++ r ∷ []) ≡ flat_map (routine_lines v) rs ++ routine_lines v r
routines_more v rs r = flat_map-append (routine_lines v) rs (r ∷ []) ∙ ap (λ (ls : List Line). flat_map (routine_lines v) rs ++ ls) (append-nil (routine_lines v r))

is_long : (v : Version) (before : List Line) (rs : List Routine) (o : Option Routine) → not (nat_lt (current_len o) 1024) ≡ true → IsLong (before ++ flat_map (routine_lines v) (rs ++ listed_routine o))
is_long v before rs None h = absurd (short_none h)
is_long v before rs (Some r) h =
    let last = lines.Routine (head_of v r) in
    let code = map lines.Instruction r.code in
    let routines = flat_map (routine_lines v) rs in
    record {
      before = (before ++ routines) ++ last ∷ [];
      code = r.code;
      whole = ap (λ (ls : List Line). before ++ ls) (routines_more v rs r) ∙ sym (append_assoc before routines (last ∷ code)) ∙ sym (append_assoc (before ++ routines) (last ∷ []) code);
      enough = no_room (length r.code) 1024 h;
    }

-- If there is a routine, the version was read.
routines_front : (b : Built) → Sound b → 0 < length (b.routines ++ listed_routine b.current) → 0 < b.front
routines_front b s some = elim (cases_lt 0 b.front) [
  | inl lt ↦ lt
  | inr le ↦ absurd (omega (arith, some, ap length (no_routines b s (omega (arith, le)))))
]

coded : (rs : List Routine) → 1 ≤ instructions rs → 0 < length rs
coded [] some = absurd (omega (arith, some))
coded (r ∷ rs) some = omega arith

some_codes : (v : Version) → 8192 ≤ code_limit (version_number v)
some_codes One = omega arith
some_codes Two = omega arith

over : (b : Built) (l : Line) → IsWithin b → Sound b → is_full b l ≡ true → IsOver (lines_said b) l
over b (lines.Interface name) w snd h = full_table lines.Interface 64 b.interfaces (lines_said b) h (parts_of b).interfaces
over b (lines.Test t) w snd h = full_table lines.Test 64 b.tests (lines_said b) h (parts_of b).tests
over b (lines.Command text) w snd h = full_table lines.Command 1024 b.commands (lines_said b) h (parts_of b).commands
over b (lines.State x) w snd h = full_table lines.State 256 b.states (lines_said b) h (parts_of b).states
over b (lines.Routine head) w snd h =
    let many = no_room (length (b.routines ++ listed_routine b.current)) 1024 h in (
      b.version,
      version_said b (routines_front b snd (omega (arith, many))),
      record {
        before = take b.front (front_lines (parts_said b)) ++ map lines.Interface b.interfaces ++ map lines.Test b.tests ++ map lines.Command b.commands ++ map lines.State b.states;
        routines = b.routines ++ listed_routine b.current;
        whole = refl;
        enough = many;
      },
    )
over b (lines.Instruction op) w snd h =
    let front = take b.front (front_lines (parts_said b)) ++ map lines.Interface b.interfaces ++ map lines.Test b.tests ++ map lines.Command b.commands ++ map lines.State b.states in
    let most = code_limit (version_number b.version) in
    elim (either_true (not (nat_lt (current_len b.current) 1024)) (not (nat_lt b.count most)) h) [
      | inl p ↦ inl (is_long b.version front b.routines b.current p)
      | inr p ↦
          let all : most ≤ instructions (b.routines ++ listed_routine b.current) = omega (arith, no_room b.count most p, w.1.together) in
          inr (
            b.version,
            version_said b (routines_front b snd (coded (b.routines ++ listed_routine b.current) (omega (arith, all, some_codes b.version)))),
            record {
              before = front;
              routines = b.routines ++ listed_routine b.current;
              whole = refl;
              enough = all;
            },
          )
    ]
over b (lines.Version v) w snd h = absurd cc
over b (lines.Stack n) w snd h = absurd cc
over b (lines.Frames n) w snd h = absurd cc
over b (lines.Cost n) w snd h = absurd cc
over b (lines.Commands n) w snd h = absurd cc
over b (lines.Start n) w snd h = absurd cc
over b (lines.Always handlers) w snd h = absurd cc

-- ---- what a fault says of the lines said before

pub blames_name : (b : Built) (said : List Line) (bytes : List ℕ) → lines_said b ≡ said → Blames b (line_in bytes) faults.Unknown → EachBreaks (HasNoForm said) bytes
blames_name b said bytes same blames = λ line says fits.
    subst (λ (ls : List Line). HasNoForm ls line) same (repeats b line (blames line (line_in_again bytes line says fits)))

pub blames_count : (b : Built) (said : List Line) (bytes : List ℕ) → IsWithin b → Sound b → lines_said b ≡ said → Blames b (line_in bytes) faults.OutOfRange → EachBreaks (IsOneTooMany said) bytes
blames_count b said bytes within sound same blames = λ line says fits.
    let broken = blames line (line_in_again bytes line says fits) in
    subst (λ (ls : List Line). IsOneTooMany ls line) same (over b line within sound broken.1, repeats_none b line broken.0)

pub blames_order : (b : Built) (said : List Line) (bytes : List ℕ) → IsWithin b → Sound b → lines_said b ≡ said → Blames b (line_in bytes) faults.OutOfOrder → IsOutOfPlace said bytes
blames_order b said bytes within sound same blames =
    let f = line_in_found bytes blames.0 blames.1 in
    subst (λ (ls : List Line). IsOutOfPlace ls bytes) same (record { line = blames.0; says = f.0; fits = f.1; new = repeats_none b blames.0 blames.2; room = over_none b blames.0 within sound blames.3 })

-- ---- a form whose numbers and texts are in their ranges says a line

pub form_late : (b : Built) (form : Formed) → form.fits ≡ true → has_no_form b form.line ≡ false → is_full b form.line ≡ false → Blames b (formed (Some form)) faults.OutOfOrder
form_late b form h new free = (form.line, rw h refl, new, free)
