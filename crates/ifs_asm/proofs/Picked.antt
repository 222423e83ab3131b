-- A line that the code accepts as new and as within the limits repeats no name and exceeds no limit.
use Rattle.std.proofs.Common.{◌≡◌, ℕ, zero, suc, ◌+◌, ◌<◌, ◌≤◌, Bool, true, false, List, [], ◌∷◌, ◌++◌}
use Rattle.std.proofs.Common.{length, map, take, Option, Some, None, refl, sym, ap, ◌∙◌, arith}
use Rattle.std.proofs.Common.{length-append, inl, inr}
use Rattle.std.specs.Prelude.{◌||◌, ◌&&◌, ◌⊎◌, not, nat_lt}
use Rattle.std.specs.List.{flat_map, AllByRecursion}
use Rattle.std.specs.Str.{bytes_eq}
use Rattle.std.proofs.lemmas.Bool.{or_parts, lt-ltb}
use Rattle.std.proofs.lemmas.Bool.Decides.{nat_tests}
use Rattle.std.proofs.lemmas.List.{append-nil, map-append}
use Rattle.std.proofs.lemmas.List.Concat.{flat_map-append}
use Rattle.std.proofs.lemmas.List.Sums.{sum_by-append}
use Rattle.ifs_base.specs.declared.op.Op.{Op}
use Rattle.ifs_image.specs.declared.parts.TestSpec.{TestSpec}
use Rattle.ifs_image.specs.declared.parts.StateSpec.{StateSpec}
use Rattle.ifs_image.specs.declared.parts.Routine.{Routine}
use Rattle.ifs_image.specs.declared.parts.ImageParts.{ImageParts}
use Rattle.ifs_image.specs.Limits.{names_of, instructions, code_limit}
use Rattle.ifs_image.specs.Reading.{stands_in}
use Rattle.ifs_asm.specs.declared.line.Version.{Version}
use Rattle.ifs_asm.specs.declared.line.Version.TheVariants.{One, Two}
use Rattle.ifs_asm.specs.declared.line.Head.{Head}
use Rattle.ifs_asm.specs.declared.line.Head.TheVariants.{Plain, Signature}
use Rattle.ifs_asm.specs.declared.line.Line.{Line}
use Rattle.ifs_asm.specs.declared.line.Line.TheVariants as lines
use Rattle.ifs_asm.specs.Texts.{version_number, version_in, head_of, front_lines, routine_lines}
use Rattle.ifs_asm.specs.Refused.{IsAmong, IsOfOther, HasNoForm, HasMany, EndsWith, IsLong, IsOver}
use Rattle.ifs_asm.specs.inner.Building.{Built, listed_routine, current_len, parts_said, lines_said, has_no_form, is_of_other, is_full}
use Rattle.ifs_asm.proofs.Bytes.{same_itself}
use Rattle.ifs_asm.proofs.BuildFits.{IsWithin}
use Rattle.ifs_asm.proofs.BuildFound.{Sound}
use Rattle.ifs_asm.proofs.Versions.{version_back}

-- ---- what lines say of one kind

abbrev interface_of : Line → List (List ℕ)
interface_of (lines.Interface name) = name ∷ []
interface_of line = []

abbrev test_of : Line → List TestSpec
test_of (lines.Test t) = t ∷ []
test_of line = []

abbrev command_of : Line → List (List ℕ)
command_of (lines.Command text) = text ∷ []
command_of line = []

abbrev state_of : Line → List StateSpec
state_of (lines.State s) = s ∷ []
state_of line = []

abbrev head_in : Line → List Head
head_in (lines.Routine head) = head ∷ []
head_in line = []

abbrev version_of : Line → List Version
version_of (lines.Version v) = v ∷ []
version_of line = []

abbrev op_of : Line → List Op
op_of (lines.Instruction op) = op ∷ []
op_of line = []

picked_same : {X : Type 0} (pick : Line → List X) (line : X → Line) → ((x : X) → pick (line x) ≡ x ∷ []) → (xs : List X) → flat_map pick (map line xs) ≡ xs
picked_same pick line one [] = refl
picked_same {X} pick line one (x ∷ xs) =
    ap (λ (zs : List X). zs ++ flat_map pick (map line xs)) (one x) ∙ ap (λ (zs : List X). x ∷ zs) (picked_same pick line one xs)

picked_none : {X A : Type 0} (pick : Line → List A) (line : X → Line) → ((x : X) → pick (line x) ≡ []) → (xs : List X) → flat_map pick (map line xs) ≡ []
picked_none pick line one [] = refl
picked_none {X} {A} pick line one (x ∷ xs) =
    ap (λ (zs : List A). zs ++ flat_map pick (map line xs)) (one x) ∙ picked_none pick line one xs

picked_take : {A : Type 0} (pick : Line → List A) (n : ℕ) (ls : List Line) → AllByRecursion (λ l. pick l ≡ []) ls → flat_map pick (take n ls) ≡ []
picked_take pick zero ls none = refl
picked_take pick (suc n) [] none = refl
picked_take {A} pick (suc n) (l ∷ ls) none =
    ap (λ (zs : List A). zs ++ flat_map pick (take n ls)) none.0 ∙ picked_take pick n ls none.1

picked_routines : {A : Type 0} (pick : Line → List A) (v : Version) → ((head : Head) → pick (lines.Routine head) ≡ []) → ((op : Op) → pick (lines.Instruction op) ≡ []) → (rs : List Routine) → flat_map pick (flat_map (routine_lines v) rs) ≡ []
picked_routines pick v head op [] = refl
picked_routines {A} pick v head op (r ∷ rs) =
    let one : flat_map pick (routine_lines v r) ≡ [] = ap (λ (zs : List A). zs ++ flat_map pick (map lines.Instruction r.code)) (head (head_of v r)) ∙ picked_none pick lines.Instruction op r.code in
    flat_map-append pick (routine_lines v r) (flat_map (routine_lines v) rs)
    ∙ ap (λ (zs : List A). zs ++ flat_map pick (flat_map (routine_lines v) rs)) one ∙ picked_routines pick v head op rs

picked_parts : {A : Type 0} (pick : Line → List A) (f i t c s r : List Line) → flat_map pick (f ++ i ++ t ++ c ++ s ++ r) ≡ flat_map pick f ++ flat_map pick i ++ flat_map pick t ++ flat_map pick c ++ flat_map pick s ++ flat_map pick r
picked_parts pick f i t c s r = simp flat_map-append

-- What is picked from all lines, table by table.
picked_said : {A : Type 0} (pick : Line → List A) (b : Built) (i t c s r : List A)
    → AllByRecursion (λ l. pick l ≡ []) (front_lines (parts_said b)) → flat_map pick (map lines.Interface b.interfaces) ≡ i → flat_map pick (map lines.Test b.tests) ≡ t → flat_map pick (map lines.Command b.commands) ≡ c
    → flat_map pick (map lines.State b.states) ≡ s → flat_map pick (flat_map (routine_lines b.version) (b.routines ++ listed_routine b.current)) ≡ r → flat_map pick (lines_said b) ≡ i ++ t ++ c ++ s ++ r
picked_said pick b i t c s r front ei et ec es er =
    let f = take b.front (front_lines (parts_said b)) in
    let whole = picked_parts pick f (map lines.Interface b.interfaces) (map lines.Test b.tests) (map lines.Command b.commands) (map lines.State b.states) (flat_map (routine_lines b.version) (b.routines ++ listed_routine b.current)) in
    whole ∙ (rw (picked_take pick b.front (front_lines (parts_said b)) front, ei, et, ec, es, er) refl)

only_first : {A : Type 0} (xs : List A) → xs ++ [] ++ [] ++ [] ++ [] ≡ xs
only_first xs = simp append-nil

interfaces_said : (b : Built) → flat_map interface_of (lines_said b) ≡ b.interfaces
interfaces_said b =
    let rs = b.routines ++ listed_routine b.current in
    picked_said interface_of b b.interfaces [] [] [] [] (refl, (refl, (refl, (refl, (refl, (refl, (refl, tt))))))) (picked_same interface_of lines.Interface (λ x. refl) b.interfaces)
    (picked_none interface_of lines.Test (λ x. refl) b.tests) (picked_none interface_of lines.Command (λ x. refl) b.commands)
    (picked_none interface_of lines.State (λ x. refl) b.states) (picked_routines interface_of b.version (λ x. refl) (λ x. refl) rs)
    ∙ only_first b.interfaces

tests_said : (b : Built) → flat_map test_of (lines_said b) ≡ b.tests
tests_said b =
    let rs = b.routines ++ listed_routine b.current in
    picked_said test_of b [] b.tests [] [] [] (refl, (refl, (refl, (refl, (refl, (refl, (refl, tt))))))) (picked_none test_of lines.Interface (λ x. refl) b.interfaces)
    (picked_same test_of lines.Test (λ x. refl) b.tests) (picked_none test_of lines.Command (λ x. refl) b.commands)
    (picked_none test_of lines.State (λ x. refl) b.states) (picked_routines test_of b.version (λ x. refl) (λ x. refl) rs)
    ∙ simp append-nil

commands_said : (b : Built) → flat_map command_of (lines_said b) ≡ b.commands
commands_said b =
    let rs = b.routines ++ listed_routine b.current in
    picked_said command_of b [] [] b.commands [] [] (refl, (refl, (refl, (refl, (refl, (refl, (refl, tt))))))) (picked_none command_of lines.Interface (λ x. refl) b.interfaces)
    (picked_none command_of lines.Test (λ x. refl) b.tests) (picked_same command_of lines.Command (λ x. refl) b.commands)
    (picked_none command_of lines.State (λ x. refl) b.states) (picked_routines command_of b.version (λ x. refl) (λ x. refl) rs)
    ∙ simp append-nil

states_said : (b : Built) → flat_map state_of (lines_said b) ≡ b.states
states_said b =
    let rs = b.routines ++ listed_routine b.current in
    picked_said state_of b [] [] [] b.states [] (refl, (refl, (refl, (refl, (refl, (refl, (refl, tt))))))) (picked_none state_of lines.Interface (λ x. refl) b.interfaces)
    (picked_none state_of lines.Test (λ x. refl) b.tests) (picked_none state_of lines.Command (λ x. refl) b.commands)
    (picked_same state_of lines.State (λ x. refl) b.states) (picked_routines state_of b.version (λ x. refl) (λ x. refl) rs)
    ∙ simp append-nil

heads_listed : (v : Version) (rs : List Routine) → length (flat_map head_in (flat_map (routine_lines v) rs)) ≡ length rs
heads_listed v [] = refl
heads_listed v (r ∷ rs) =
    let whole = flat_map-append head_in (routine_lines v r) (flat_map (routine_lines v) rs) in
    let code = picked_none head_in lines.Instruction (λ x. refl) r.code in
    omega (arith, ap length whole, ap length code, length-append (flat_map head_in (routine_lines v r)) (flat_map head_in (flat_map (routine_lines v) rs)), heads_listed v rs)

ops_listed : (v : Version) (rs : List Routine) → length (flat_map op_of (flat_map (routine_lines v) rs)) ≡ instructions rs
ops_listed v [] = refl
ops_listed v (r ∷ rs) =
    let whole = flat_map-append op_of (routine_lines v r) (flat_map (routine_lines v) rs) in
    let code : flat_map op_of (routine_lines v r) ≡ r.code = picked_same op_of lines.Instruction (λ x. refl) r.code in
    let all : instructions (r ∷ rs) ≡ length r.code + instructions rs = omega (arith, sum_by-append (λ (x : Routine). length x.code) (r ∷ []) rs) in
    omega (arith, all, ap length whole, ap length code, length-append (flat_map op_of (routine_lines v r)) (flat_map op_of (flat_map (routine_lines v) rs)), ops_listed v rs)

heads_said : (b : Built) → length (flat_map head_in (lines_said b)) ≡ length (b.routines ++ listed_routine b.current)
heads_said b =
    let rs = b.routines ++ listed_routine b.current in
    ap length (picked_said head_in b [] [] [] [] (flat_map head_in (flat_map (routine_lines b.version) rs)) (refl, (refl, (refl, (refl, (refl, (refl, (refl, tt))))))) (picked_none head_in lines.Interface (λ x. refl) b.interfaces)
    (picked_none head_in lines.Test (λ x. refl) b.tests) (picked_none head_in lines.Command (λ x. refl) b.commands)
    (picked_none head_in lines.State (λ x. refl) b.states) refl)
    ∙ heads_listed b.version rs

ops_said : (b : Built) → length (flat_map op_of (lines_said b)) ≡ instructions (b.routines ++ listed_routine b.current)
ops_said b =
    let rs = b.routines ++ listed_routine b.current in
    ap length (picked_said op_of b [] [] [] [] (flat_map op_of (flat_map (routine_lines b.version) rs)) (refl, (refl, (refl, (refl, (refl, (refl, (refl, tt))))))) (picked_none op_of lines.Interface (λ x. refl) b.interfaces)
    (picked_none op_of lines.Test (λ x. refl) b.tests) (picked_none op_of lines.Command (λ x. refl) b.commands)
    (picked_none op_of lines.State (λ x. refl) b.states) refl)
    ∙ ops_listed b.version rs

-- ---- names

there_case : (x y : Bool) → y ≡ true → (x || y) ≡ true
there_case true y e = refl
there_case false y e = e

true_false : true ≡ false → ⊥
true_false e = absurd cc

there : (name : List ℕ) (xs ys : List (List ℕ)) → stands_in name (xs ++ name ∷ ys) ≡ true
there name [] ys = rw (same_itself name) refl
there name (x ∷ xs) ys = there_case (bytes_eq x name) (stands_in name (xs ++ name ∷ ys)) (there name xs ys)

-- What is picked from lines with a line among them.
stands_picked : {A : Type 0} (pick : Line → List A) (said : List Line) (line : Line) (x : A) → pick line ≡ x ∷ [] → (s : IsAmong said line) → flat_map pick said ≡ flat_map pick s.before ++ x ∷ flat_map pick s.after
stands_picked {A} pick said line x one s =
    ap (flat_map pick) s.whole ∙ flat_map-append pick s.before (line ∷ s.after)
    ∙ ap (λ (zs : List A). flat_map pick s.before ++ (zs ++ flat_map pick s.after)) one

-- ---- the version

one_front : (n : ℕ) (v : Version) (ls : List Line) → AllByRecursion (λ l. version_of l ≡ []) ls → flat_map version_of (take (suc n) (lines.Version v ∷ ls)) ≡ v ∷ []
one_front n v ls none = ap (λ (vs : List Version). v ∷ vs) (picked_take version_of n ls none)

front_version : (n : ℕ) (p : ImageParts) → (flat_map version_of (take n (front_lines p)) ≡ []) ⊎ ((0 < n) × (flat_map version_of (take n (front_lines p)) ≡ version_in p.version ∷ []))
front_version zero p = inl refl
front_version (suc n) p =
    inr (omega arith, one_front n (version_in p.version) (lines.Stack p.budgets.stack ∷ lines.Frames p.budgets.frames ∷ lines.Cost p.budgets.cost ∷ lines.Commands p.budgets.commands ∷ lines.Start p.initial ∷ lines.Always p.always ∷ []) (refl, (refl, (refl, (refl, (refl, (refl, tt)))))))

versions_said : (b : Built) → flat_map version_of (lines_said b) ≡ flat_map version_of (take b.front (front_lines (parts_said b)))
versions_said b =
    let rs = b.routines ++ listed_routine b.current in
    let f = take b.front (front_lines (parts_said b)) in
    picked_parts version_of f (map lines.Interface b.interfaces) (map lines.Test b.tests) (map lines.Command b.commands) (map lines.State b.states) (flat_map (routine_lines b.version) rs)
    ∙ (rw (
      picked_none version_of lines.Interface (λ x. refl) b.interfaces,
      picked_none version_of lines.Test (λ x. refl) b.tests,
      picked_none version_of lines.Command (λ x. refl) b.commands,
      picked_none version_of lines.State (λ x. refl) b.states,
      picked_routines version_of b.version (λ x. refl) (λ x. refl) rs,
    ) (simp append-nil))

none_in : (xs ys : List Version) (v : Version) → xs ++ v ∷ ys ≡ [] → ⊥
none_in [] ys v e = absurd cc
none_in (x ∷ xs) ys v e = absurd cc

one_in : (xs ys : List Version) (v w : Version) → xs ++ v ∷ ys ≡ w ∷ [] → v ≡ w
one_in [] ys v w e = cc
one_in (x ∷ xs) ys v w e = absurd (none_in xs ys v cc)

-- A version among the lines is the one that was read.
pub said_version : (b : Built) (v : Version) → IsAmong (lines_said b) (lines.Version v) → (0 < b.front) × (v ≡ b.version)
said_version b v s =
    let there : flat_map version_of s.before ++ v ∷ flat_map version_of s.after ≡ flat_map version_of (take b.front (front_lines (parts_said b))) = sym (stands_picked version_of (lines_said b) (lines.Version v) v refl s) ∙ versions_said b in
    elim (front_version b.front (parts_said b)) [
      | inl none ↦ absurd (none_in (flat_map version_of s.before) (flat_map version_of s.after) v (there ∙ none))
      | inr one ↦ (one.0, one_in (flat_map version_of s.before) (flat_map version_of s.after) v (version_in (version_number b.version)) (there ∙ one.1) ∙ version_back b.version)
    ]

other_true : (v : Version) (head : Head) → IsOfOther v head → is_of_other v head ≡ true
other_true One (Plain truth) other = absurd other
other_true One (Signature params results) other = refl
other_true Two (Plain truth) other = refl
other_true Two (Signature params results) other = absurd other

pub repeats_none : (b : Built) (l : Line) → has_no_form b l ≡ false → HasNoForm (lines_said b) l → ⊥
repeats_none b (lines.Interface name) new s =
    let same = sym (interfaces_said b) ∙ stands_picked interface_of (lines_said b) (lines.Interface name) name refl s in
    true_false (sym (there name (flat_map interface_of s.before) (flat_map interface_of s.after)) ∙ ap (stands_in name) (sym same) ∙ new)
repeats_none b (lines.State x) new s =
    let state : StateSpec = record { name = x.name; handlers = s.0 } in
    let before = flat_map state_of s.1.before in
    let after = flat_map state_of s.1.after in
    let same = sym (states_said b) ∙ stands_picked state_of (lines_said b) (lines.State state) state refl s.1 in
    let names : names_of b.states ≡ names_of before ++ x.name ∷ names_of after = ap names_of same ∙ map-append (λ (s : StateSpec). s.name) before (state ∷ after) in
    true_false (sym (there x.name (names_of before) (names_of after)) ∙ ap (stands_in x.name) (sym names) ∙ new)
repeats_none b (lines.Version v) new s = s
repeats_none b (lines.Stack n) new s = s
repeats_none b (lines.Frames n) new s = s
repeats_none b (lines.Cost n) new s = s
repeats_none b (lines.Commands n) new s = s
repeats_none b (lines.Start n) new s = s
repeats_none b (lines.Always handlers) new s = s
repeats_none b (lines.Test t) new s = s
repeats_none b (lines.Command text) new s = s
repeats_none b (lines.Routine head) new s =
    let v = said_version b s.0 s.1 in
    let read : nat_lt 0 b.front ≡ true = lt-ltb 0 b.front v.0 in
    let other : is_of_other b.version head ≡ true = ap (λ (w : Version). is_of_other w head) (sym v.1) ∙ other_true s.0 head s.2 in
    let both : (nat_lt 0 b.front && is_of_other b.version head) ≡ true = rw (read, other) refl in
    true_false (sym both ∙ new)
repeats_none b (lines.Instruction op) new s = s

-- ---- counts

has_room : (n most : ℕ) → not (nat_lt n most) ≡ false → n < most
has_room n most e = grind (arith, nat_tests)

many_listed : {X : Type 0} (pick : Line → List X) (line : X → Line) (many : ℕ) (said : List Line) (xs : List X) → ((x : X) → pick (line x) ≡ x ∷ []) → flat_map pick said ≡ xs → HasMany line many said → many ≤ length xs
many_listed pick line many said xs one same h =
    let whole = ap (flat_map pick) h.whole ∙ flat_map-append pick h.before (map line h.entries ++ h.after) in
    let back = flat_map-append pick (map line h.entries) h.after in
    let entries = picked_same pick line one h.entries in
    omega (arith, h.enough, ap length same, ap length whole, ap length back, ap length entries, length-append (flat_map pick h.before) (flat_map pick (map line h.entries ++ h.after)), length-append (flat_map pick (map line h.entries)) (flat_map pick h.after))

-- What is picked from the routines at the end is not longer than what is picked from all lines.
end_listed : {A : Type 0} (pick : Line → List A) (v : Version) (Enough : List Routine → Type 0) (said : List Line) (e : EndsWith v Enough said) → length (flat_map pick (flat_map (routine_lines v) e.routines)) ≤ length (flat_map pick said)
end_listed pick v Enough said e =
    let whole = ap (flat_map pick) e.whole ∙ flat_map-append pick e.before (flat_map (routine_lines v) e.routines) in
    omega (arith, ap length whole, length-append (flat_map pick e.before) (flat_map pick (flat_map (routine_lines v) e.routines)))

-- The number of successive instructions after a line, given the number before it.
abbrev run_on : ℕ → Line → ℕ
run_on n (lines.Instruction op) = n + 1
run_on n line = 0

-- The number of successive instructions at the end.
abbrev run : ℕ → List Line → ℕ
run n [] = n
run n (l ∷ ls) = run (run_on n l) ls

run_append : (n : ℕ) (xs ys : List Line) → run n (xs ++ ys) ≡ run (run n xs) ys
run_append n [] ys = refl
run_append n (x ∷ xs) ys = run_append (run_on n x) xs ys

run_code : (n : ℕ) (code : List Op) → run n (map lines.Instruction code) ≡ n + length code
run_code n [] = omega arith
run_code n (op ∷ code) = omega (arith, run_code (n + 1) code)

none_more : (n : ℕ) → 0 + n ≡ n
none_more n = omega arith

run_routines : (v : Version) (before : List Line) (rs : List Routine) (r : Routine) → run 0 (before ++ flat_map (routine_lines v) (rs ++ r ∷ [])) ≡ length r.code
run_routines v before rs r =
    let more : flat_map (routine_lines v) (rs ++ r ∷ []) ≡ flat_map (routine_lines v) rs ++ routine_lines v r = flat_map-append (routine_lines v) rs (r ∷ []) ∙ ap (λ (ls : List Line). flat_map (routine_lines v) rs ++ ls) (append-nil (routine_lines v r)) in
    ap (λ (ls : List Line). run 0 (before ++ ls)) more ∙ run_append 0 before (flat_map (routine_lines v) rs ++ routine_lines v r)
    ∙ run_append (run 0 before) (flat_map (routine_lines v) rs) (routine_lines v r) ∙ run_code 0 r.code ∙ none_more (length r.code)

-- A long routine at the end has this many.
run_long : (said : List Line) → IsLong said → 1024 ≤ run 0 said
run_long said long =
    omega (arith, long.enough, ap (run 0) long.whole, run_append 0 long.before (map lines.Instruction long.code), run_code (run 0 long.before) long.code)

long_listed : (said : List Line) → IsLong said → 1024 ≤ length (flat_map op_of said)
long_listed said long =
    let whole = ap (flat_map op_of) long.whole ∙ flat_map-append op_of long.before (map lines.Instruction long.code) in
    let code = picked_same op_of lines.Instruction (λ x. refl) long.code in
    omega (arith, long.enough, ap length whole, ap length code, length-append (flat_map op_of long.before) (flat_map op_of (map lines.Instruction long.code)))

-- If the last routine has room, it is not long. If there is no current routine, there is no instruction.
long_none : (v : Version) (before : List Line) (rs : List Routine) (o : Option Routine) → (o ≡ None → rs ≡ []) → length (flat_map op_of (before ++ flat_map (routine_lines v) (rs ++ listed_routine o))) ≡ instructions (rs ++ listed_routine o) → current_len o < 1024
    → IsLong (before ++ flat_map (routine_lines v) (rs ++ listed_routine o)) → ⊥
long_none v before rs None closed ops short long =
    let none : instructions (rs ++ []) ≡ 0 = ap (λ (zs : List Routine). instructions (zs ++ [])) (closed refl) in
    absurd (omega (arith, none, ops, long_listed (before ++ flat_map (routine_lines v) (rs ++ [])) long))
long_none v before rs (Some r) closed ops short long =
    absurd (omega (arith, short, run_routines v before rs r, run_long (before ++ flat_map (routine_lines v) (rs ++ r ∷ [])) long))

pub over_none : (b : Built) (l : Line) → IsWithin b → Sound b → is_full b l ≡ false → IsOver (lines_said b) l → ⊥
over_none b (lines.Interface name) w s free h = absurd (omega (arith, has_room (length b.interfaces) 64 free, many_listed interface_of lines.Interface 64 (lines_said b) b.interfaces (λ x. refl) (interfaces_said b) h))
over_none b (lines.Test t) w s free h = absurd (omega (arith, has_room (length b.tests) 64 free, many_listed test_of lines.Test 64 (lines_said b) b.tests (λ x. refl) (tests_said b) h))
over_none b (lines.Command text) w s free h = absurd (omega (arith, has_room (length b.commands) 1024 free, many_listed command_of lines.Command 1024 (lines_said b) b.commands (λ x. refl) (commands_said b) h))
over_none b (lines.State x) w s free h = absurd (omega (arith, has_room (length b.states) 256 free, many_listed state_of lines.State 256 (lines_said b) b.states (λ x. refl) (states_said b) h))
over_none b (lines.Routine head) w s free h =
    let rs = b.routines ++ listed_routine b.current in
    absurd (omega (arith, has_room (length rs) 1024 free, h.2.enough, heads_listed h.0 h.2.routines, heads_said b, end_listed head_in h.0 (λ routines. 1024 ≤ length routines) (lines_said b) h.2))
over_none b (lines.Instruction op) w s free h =
    let most = code_limit (version_number b.version) in
    let p = or_parts (not (nat_lt (current_len b.current) 1024)) (not (nat_lt b.count most)) free in
    let front = take b.front (front_lines (parts_said b)) ++ map lines.Interface b.interfaces ++ map lines.Test b.tests ++ map lines.Command b.commands ++ map lines.State b.states in
    elim h [
      | inl long ↦ long_none b.version front b.routines b.current s.routines (ops_said b) (has_room (current_len b.current) 1024 p.0) long
      | inr e ↦
          let v = said_version b e.0 e.1 in
          let same : code_limit (version_number e.0) ≡ most = ap (λ (w : Version). code_limit (version_number w)) v.1 in
          absurd (omega (arith, has_room b.count most p.1, w.1.together, e.2.enough, same, ops_listed e.0 e.2.routines, ops_said b, end_listed op_of e.0 (λ routines. code_limit (version_number e.0) ≤ instructions routines) (lines_said b) e.2))
    ]
over_none b (lines.Version v) w s free h = h
over_none b (lines.Stack n) w s free h = h
over_none b (lines.Frames n) w s free h = h
over_none b (lines.Cost n) w s free h = h
over_none b (lines.Commands n) w s free h = h
over_none b (lines.Start n) w s free h = h
over_none b (lines.Always handlers) w s free h = h
