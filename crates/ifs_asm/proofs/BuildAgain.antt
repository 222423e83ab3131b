-- The lines of an image build it.
use Rattle.std.proofs.Common.{◌≡◌, ℕ, zero, suc, ◌+◌, ◌<◌, ◌≤◌, Bool, true, false, cond, List, [], ◌∷◌, ◌++◌, length, map}
use Rattle.std.proofs.Common.{Option, Some, None, refl, sym, ap, subst, ◌∙◌, arith, append_assoc, length-append}
use Rattle.std.specs.Prelude.{◌||◌, not, nat_lt, option_and_then, Contains, min}
use Rattle.std.specs.Bool.{Decides}
use Rattle.std.specs.List.{flat_map, AllByRecursion}
use Rattle.std.specs.Str.{bytes_eq}
use Rattle.std.proofs.lemmas.Bool.{false_from_ne_true, lt-ltb}
use Rattle.std.proofs.lemmas.Bool.Decides.{Decides-by_or}
use Rattle.std.proofs.lemmas.List.{append-nil, get_or_at, get_or_append_left, map-append}
use Rattle.std.proofs.lemmas.List.Elements.{Decides-contains, recursion_from_All}
use Rattle.std.proofs.lemmas.List.Sums.{sum_by-append}
use Rattle.std.proofs.lemmas.Slice.Eq.{bytes_eq-Decides}
use Rattle.ifs_base.specs.declared.op.Op.{Op}
use Rattle.ifs_image.specs.declared.parts.TestSpec.{TestSpec}
use Rattle.ifs_image.specs.declared.parts.StateSpec.{StateSpec}
use Rattle.ifs_image.specs.declared.parts.Routine.{Routine}
use Rattle.ifs_image.specs.declared.parts.ImageParts.{ImageParts}
use Rattle.ifs_image.specs.Limits.{Fits, IsVersion, AreDistinct, names_of, instructions, code_limit, RoutineFits}
use Rattle.ifs_image.specs.Reading.{stands_in}
use Rattle.ifs_asm.specs.declared.line.Line.{Line}
use Rattle.ifs_asm.specs.declared.line.Line.TheVariants as lines
use Rattle.ifs_asm.specs.Texts.{version_number, version_in, head_of, front_lines, routine_lines, lines_of}
use Rattle.ifs_asm.specs.inner.Building.{Built, listed_routine, parts_said, has_no_form, is_full}
use Rattle.ifs_asm.specs.inner.Building.{is_in_order, with_line, one_line_more, built_of, nothing, is_none}
use Rattle.ifs_asm.proofs.Bytes.{each_weaker}
use Rattle.ifs_asm.proofs.Versions.{FitsVersion, version_forth, version_fits, begun_back, own_head}

-- ---- names

stands_in-Decides : (name : List ℕ) (names : List (List ℕ)) → Decides (stands_in name names) (Contains names name)
stands_in-Decides name names =
    Decides-contains names name (stands_in name names) (Decides-by_or (λ other. bytes_eq other name) (λ other. other ≡ name) (stands_in name) (λ other. bytes_eq-Decides other name) refl (λ _ _. refl) names)

pub absent : (before : List (List ℕ)) (name : List ℕ) (after : List (List ℕ)) → AreDistinct (before ++ name ∷ after) → stands_in name before ≡ false
absent before name after apart = false_from_ne_true (stands_in name before) (λ there.
    let found = (stands_in-Decides name before).0 there in
    apart found.0 (length before) name found.1 (omega (arith, length-append before (name ∷ after)))
    (get_or_append_left before (name ∷ after) name found.0 found.1 ∙ found.2 ∙ sym (get_or_at before name after name (length before) refl)))

-- ---- one line

step_by : (x y z : Bool) (b : Built) → x ≡ false → y ≡ false → z ≡ true → cond (x || (y || not z)) None (Some b) ≡ Some b
step_by x y z b ex ey ez = rw (ex, ey, ez) refl

pub step_taken : (b : Built) (l : Line) → has_no_form b l ≡ false → is_full b l ≡ false → is_in_order b l ≡ true → one_line_more b l ≡ Some (with_line b l)
step_taken b l new room order = step_by (has_no_form b l) (is_full b l) (is_in_order b l) (with_line b l) new room order

has_room : (n most : ℕ) → n < most → not (nat_lt n most) ≡ false
has_room n most lt = rw (lt-ltb n most lt) refl

-- ---- the tables

-- What lines say once all lines before the tables were read.
abbrev mk : ImageParts → List (List ℕ) → List TestSpec → List (List ℕ) → List StateSpec → List Routine → Option Routine → ℕ → Built
mk p i t c s r current n = record { front = 7; version = version_in p.version; budgets = p.budgets; initial = p.initial; always = p.always; interfaces = i; tests = t; commands = c; states = s; routines = r; current = current; count = n }

front_built : (p : ImageParts) → built_of nothing (front_lines p) ≡ Some (mk p [] [] [] [] [] None 0)
front_built p = refl

-- Lines of one kind fill their table if each of them may come next.
table_built : {X : Type 0} (line : X → Line) (table : List X → Built) (Apart : List X → Type 0) (most : ℕ)
    → ((ys : List X) (x : X) (xs : List X) → Apart (ys ++ x ∷ xs) → has_no_form (table ys) (line x) ≡ false)
    → ((ys : List X) (x : X) → is_full (table ys) (line x) ≡ not (nat_lt (length ys) most))
    → ((ys : List X) (x : X) → is_in_order (table ys) (line x) ≡ true)
    → ((ys : List X) (x : X) → with_line (table ys) (line x) ≡ table (ys ++ x ∷ []))
    → (xs ys : List X) → Apart (ys ++ xs) → length (ys ++ xs) ≤ most → built_of (table ys) (map line xs) ≡ Some (table (ys ++ xs))
table_built {X} line table Apart most new full order next [] ys apart few = ap (λ (zs : List X). Some (table zs)) (sym (append-nil ys))
table_built {X} line table Apart most new full order next (x ∷ xs) ys apart few =
    let same = append_assoc ys (x ∷ []) xs in
    let room = full ys x ∙ has_room (length ys) most (omega (arith, few, length-append ys (x ∷ xs))) in
    let one = step_taken (table ys) (line x) (new ys x xs apart) room (order ys x) ∙ ap Some (next ys x) in
    let ih = table_built line table Apart most new full order next xs (ys ++ x ∷ []) (subst Apart (sym same) apart) (subst (λ (zs : List X). length zs ≤ most) (sym same) few) in
    ap (option_and_then (λ next. built_of next (map line xs))) one ∙ ih ∙ ap (λ (zs : List X). Some (table zs)) same

interfaces_built : (p : ImageParts) (xs : List (List ℕ)) → AreDistinct xs → length xs ≤ 64 → built_of (mk p [] [] [] [] [] None 0) (map lines.Interface xs) ≡ Some (mk p xs [] [] [] [] None 0)
interfaces_built p xs apart few =
    table_built lines.Interface (λ ys. mk p ys [] [] [] [] None 0) AreDistinct 64 (λ ys x zs. absent ys x zs) (λ _ _. refl) (λ _ _. refl) (λ _ _. refl) xs [] apart few

tests_built : (p : ImageParts) (i : List (List ℕ)) (xs : List TestSpec) → length xs ≤ 64 → built_of (mk p i [] [] [] [] None 0) (map lines.Test xs) ≡ Some (mk p i xs [] [] [] None 0)
tests_built p i xs few = table_built lines.Test (λ ys. mk p i ys [] [] [] None 0) (λ _. Unit {0}) 64 (λ _ _ _ _. refl) (λ _ _. refl) (λ _ _. refl) (λ _ _. refl) xs [] tt few

commands_built : (p : ImageParts) (i : List (List ℕ)) (t : List TestSpec) (xs : List (List ℕ)) → length xs ≤ 1024 → built_of (mk p i t [] [] [] None 0) (map lines.Command xs) ≡ Some (mk p i t xs [] [] None 0)
commands_built p i t xs few = table_built lines.Command (λ ys. mk p i t ys [] [] None 0) (λ _. Unit {0}) 1024 (λ _ _ _ _. refl) (λ _ _. refl) (λ _ _. refl) (λ _ _. refl) xs [] tt few

states_built : (p : ImageParts) (i : List (List ℕ)) (t : List TestSpec) (c : List (List ℕ)) (xs : List StateSpec) → AreDistinct (names_of xs) → length xs ≤ 256
    → built_of (mk p i t c [] [] None 0) (map lines.State xs) ≡ Some (mk p i t c xs [] None 0)
states_built p i t c xs apart few =
    table_built lines.State (λ ys. mk p i t c ys [] None 0) (λ ys. AreDistinct (names_of ys)) 256
    (λ ys x zs names. absent (names_of ys) x.name (names_of zs) (subst AreDistinct (map-append (λ (s : StateSpec). s.name) ys (x ∷ zs)) names))
    (λ _ _. refl) (λ _ _. refl) (λ _ _. refl) xs [] apart few

-- ---- routines

-- The greatest number of instructions.
abbrev limit : ImageParts → ℕ
limit p = code_limit (version_number (version_in p.version))

full_by : (k n most : ℕ) → k < 1024 → n < most → (not (nat_lt k 1024) || not (nat_lt n most)) ≡ false
full_by k n most a b = rw (lt-ltb k 1024 a, lt-ltb n most b) refl

code_built : (p : ImageParts) (i : List (List ℕ)) (t : List TestSpec) (c : List (List ℕ)) (s : List StateSpec) (rs : List Routine) (r : Routine) (n : ℕ) (xs ys : List Op)
    → length (ys ++ xs) ≤ 1024 → n + length xs ≤ limit p → limit p ≤ 65535
    → built_of (mk p i t c s rs (Some (record r { code = ys })) n) (map lines.Instruction xs) ≡ Some (mk p i t c s rs (Some (record r { code = ys ++ xs })) (n + length xs))
code_built p i t c s rs r n [] ys few room most =
    let same : n ≡ n + length {A = Op} [] = omega arith in
    ap (λ (o : List Op). Some (mk p i t c s rs (Some (record r { code = o })) n)) (sym (append-nil ys))
    ∙ ap (λ (k : ℕ). Some (mk p i t c s rs (Some (record r { code = ys ++ [] })) k)) same
code_built p i t c s rs r n (x ∷ xs) ys few room most =
    let b = mk p i t c s rs (Some (record r { code = ys })) n in
    let same = append_assoc ys (x ∷ []) xs in
    let fits : (not (nat_lt (length ys) 1024) || not (nat_lt n (limit p))) ≡ false = full_by (length ys) n (limit p) (omega (arith, few, length-append ys (x ∷ xs))) (omega (arith, room)) in
    let one = step_taken b (lines.Instruction x) refl fits refl in
    let ih = code_built p i t c s rs r (n + 1) xs (ys ++ x ∷ []) (subst (λ (zs : List Op). length zs ≤ 1024) (sym same) few) (omega (arith, room)) most in
    let next : min (n + 1) 65535 ≡ n + 1 = omega (arith, room, most) in
    let count : n + 1 + length xs ≡ n + length (x ∷ xs) = omega arith in
    ap (option_and_then (λ next. built_of next (map lines.Instruction xs))) one
    ∙ ap (λ (k : ℕ). built_of (mk p i t c s rs (Some (record r { code = ys ++ x ∷ [] })) k) (map lines.Instruction xs)) next ∙ ih
    ∙ ap (λ (o : List Op). Some (mk p i t c s rs (Some (record r { code = o })) (n + 1 + length xs))) same
    ∙ ap (λ (k : ℕ). Some (mk p i t c s rs (Some (record r { code = ys ++ (x ∷ xs) })) k)) count

append_case : (o : Option Built) (xs ys : List Line) → ((next : Built) → built_of next (xs ++ ys) ≡ option_and_then (λ after. built_of after ys) (built_of next xs))
    → option_and_then (λ next. built_of next (xs ++ ys)) o ≡ option_and_then (λ after. built_of after ys) (option_and_then (λ next. built_of next xs) o)
append_case None xs ys ih = refl
append_case (Some next) xs ys ih = ih next

pub built_append : (b : Built) (xs ys : List Line) → built_of b (xs ++ ys) ≡ option_and_then (λ next. built_of next ys) (built_of b xs)
built_append b [] ys = refl
built_append b (x ∷ xs) ys = append_case (one_line_more b x) xs ys (λ next. built_append next xs ys)

pub built_then : (b c : Built) (d : Option Built) (xs ys : List Line) → built_of b xs ≡ Some c → built_of c ys ≡ d → built_of b (xs ++ ys) ≡ d
built_then b c d xs ys first second = built_append b xs ys ∙ ap (option_and_then (λ next. built_of next ys)) first ∙ second

-- What the lines of routines build.
record Routed (p : ImageParts) (i : List (List ℕ)) (t : List TestSpec) (c : List (List ℕ)) (s : List StateSpec) (b : Built) (more all : List Routine) : Type 0 where
  routines : List Routine
  current : Option Routine
  count : ℕ
  built : built_of b (flat_map (routine_lines (version_in p.version)) more) ≡ Some (mk p i t c s routines current count)
  are : routines ++ listed_routine current ≡ all

routines_built : (p : ImageParts) (i : List (List ℕ)) (t : List TestSpec) (c : List (List ℕ)) (s : List StateSpec) → is_none s ≡ false → limit p ≤ 65535 → (more rs : List Routine) (current : Option Routine) (n : ℕ)
    → AllByRecursion (λ r. FitsVersion (version_in p.version) r × (length r.code ≤ 1024)) more → length ((rs ++ listed_routine current) ++ more) ≤ 1024 → n + instructions more ≤ limit p
    → Routed p i t c s (mk p i t c s rs current n) more ((rs ++ listed_routine current) ++ more)
routines_built p i t c s some most [] rs current n fit few room = record { routines = rs; current = current; count = n; built = refl; are = sym (append-nil (rs ++ listed_routine current)) }
routines_built p i t c s some most (r ∷ more) rs current n fit few room =
    let v = version_in p.version in
    let before = rs ++ listed_routine current in
    let same = append_assoc before (r ∷ []) more in
    let order : not (is_none s) ≡ true = rw some refl in
    let start = mk p i t c s rs current n in
    let head = step_taken start (lines.Routine (head_of v r)) (own_head v r) (has_room (length before) 1024 (omega (arith, few, length-append before (r ∷ more)))) order
    ∙ ap (λ (one : Routine). Some (mk p i t c s before (Some one) n)) (begun_back v r fit.0.0) in
    let all : instructions (r ∷ more) ≡ length r.code + instructions more = omega (arith, sum_by-append (λ (x : Routine). length x.code) (r ∷ []) more) in
    let body = code_built p i t c s before r n r.code [] fit.0.1 (omega (arith, room, all)) most in
    let rest = routines_built p i t c s some most more before (Some r) (n + length r.code) fit.1 (subst (λ (zs : List Routine). length zs ≤ 1024) (sym same) few) (omega (arith, room, all)) in
    let one : built_of start (routine_lines v r) ≡ Some (mk p i t c s before (Some r) (n + length r.code)) =
    ap (option_and_then (λ next. built_of next (map lines.Instruction r.code))) head ∙ body in
    record {
      routines = rest.routines;
      current = rest.current;
      count = rest.count;
      built = built_then start (mk p i t c s before (Some r) (n + length r.code)) (Some (mk p i t c s rest.routines rest.current rest.count)) (routine_lines v r) (flat_map (routine_lines v) more) one rest.built;
      are = rest.are ∙ same;
    }

-- ---- an image

-- The lines of an image build its parts.
pub record IsBuilt (p : ImageParts) : Type 0 where
  pub after : Built
  pub built : built_of nothing (lines_of p) ≡ Some after
  pub parts : parts_said after ≡ p

some_states : (s : List StateSpec) → 1 ≤ length s → is_none s ≡ false
some_states [] h = absurd (omega (arith, h))
some_states (x ∷ xs) h = refl

few_codes : (n : ℕ) → IsVersion n → code_limit n ≤ 65535
few_codes zero is = absurd (omega (arith, is.0))
few_codes (suc zero) is = omega arith
few_codes (suc (suc zero)) is = omega arith
few_codes (suc (suc (suc n))) is = absurd (omega (arith, is.1))

pub image_built : (p : ImageParts) → Fits p → IsBuilt p
image_built p f =
    let number = version_forth p.version f.version in
    let same_limit : limit p ≡ code_limit p.version = ap code_limit number in
    let most : limit p ≤ 65535 = omega (arith, same_limit, few_codes p.version f.version) in
    let each = each_weaker (RoutineFits p.version) (λ r. FitsVersion (version_in p.version) r × (length r.code ≤ 1024)) (λ r fits. (version_fits p.version r f.version fits, fits.code)) p.routines (recursion_from_All (RoutineFits p.version) p.routines f.routines.each) in
    let b0 = mk p [] [] [] [] [] None 0 in
    let b1 = mk p p.interfaces [] [] [] [] None 0 in
    let b2 = mk p p.interfaces p.tests [] [] [] None 0 in
    let b3 = mk p p.interfaces p.tests p.commands [] [] None 0 in
    let b4 = mk p p.interfaces p.tests p.commands p.states [] None 0 in
    let i = interfaces_built p p.interfaces f.interfaces.distinct f.counts.interfaces in
    let t = tests_built p p.interfaces p.tests f.counts.tests in
    let c = commands_built p p.interfaces p.tests p.commands f.counts.commands in
    let s = states_built p p.interfaces p.tests p.commands p.states f.states.distinct f.counts.states in
    let r = routines_built p p.interfaces p.tests p.commands p.states (some_states p.states f.counts.some_state) most p.routines [] None 0 each f.counts.routines (omega (arith, f.routines.together, same_limit)) in
    let l1 = front_lines p ++ map lines.Interface p.interfaces in
    let l2 = l1 ++ map lines.Test p.tests in
    let l3 = l2 ++ map lines.Command p.commands in
    let l4 = l3 ++ map lines.State p.states in
    let after = mk p p.interfaces p.tests p.commands p.states r.routines r.current r.count in
    let e1 = built_then nothing b0 (Some b1) (front_lines p) (map lines.Interface p.interfaces) (front_built p) i in
    let e2 = built_then nothing b1 (Some b2) l1 (map lines.Test p.tests) e1 t in
    let e3 = built_then nothing b2 (Some b3) l2 (map lines.Command p.commands) e2 c in
    let e4 = built_then nothing b3 (Some b4) l3 (map lines.State p.states) e3 s in
    record {
      after = after;
      built = built_then nothing b4 (Some after) l4 (flat_map (routine_lines (version_in p.version)) p.routines) e4 r.built;
      parts =
          ap (λ (n : ℕ). record { version = n; budgets = p.budgets; initial = p.initial; always = p.always; interfaces = p.interfaces; tests = p.tests; commands = p.commands; states = p.states; routines = r.routines ++ listed_routine r.current }) number
          ∙ ap (λ (rs : List Routine). record { version = p.version; budgets = p.budgets; initial = p.initial; always = p.always; interfaces = p.interfaces; tests = p.tests; commands = p.commands; states = p.states; routines = rs }) r.are;
    }
