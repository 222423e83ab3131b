-- What lines build is within the limits of an image.
use Rattle.std.proofs.Common.{◌≡◌, ℕ, ◌+◌, ◌<◌, ◌≤◌, Bool, true, false, cond, List, [], ◌∷◌, ◌++◌, length}
use Rattle.std.proofs.Common.{Option, Some, None, refl, sym, ap, subst, ◌∙◌, arith, length-append}
use Rattle.std.specs.Prelude.{◌||◌, ◌↔◌, IsTrue, not, nat_lt, option_and_then, is_some, min}
use Rattle.std.specs.List.{AllByRecursion}
use Rattle.std.proofs.lemmas.Bool.{or_parts, iff_false, eqb-true}
use Rattle.std.proofs.lemmas.Bool.Decides.{nat_tests}
use Rattle.std.proofs.lemmas.Option.{option_and_then_some, same_Some}
use Rattle.std.proofs.lemmas.List.{map-append}
use Rattle.std.proofs.lemmas.List.Elements.{All-from_recursion}
use Rattle.std.proofs.lemmas.List.Sums.{sum_by-append}
use Rattle.ifs_base.specs.Sizes.{TextFits}
use Rattle.ifs_base.specs.declared.op.Op.{Op}
use Rattle.ifs_image.specs.declared.parts.TestSpec.{TestSpec}
use Rattle.ifs_image.specs.declared.parts.StateSpec.{StateSpec}
use Rattle.ifs_image.specs.declared.parts.Routine.{Routine}
use Rattle.ifs_image.specs.declared.parts.ImageParts.{ImageParts}
use Rattle.ifs_image.specs.Limits.{Fits, AreDistinct, names_of, instructions, code_limit, TestFits, RoutineFits}
use Rattle.ifs_image.proofs.Names.{AreDistinct-push}
use Rattle.ifs_asm.specs.declared.line.Version.{Version}
use Rattle.ifs_asm.specs.declared.line.Version.TheVariants.{One, Two}
use Rattle.ifs_asm.specs.declared.line.Line.{Line}
use Rattle.ifs_asm.specs.declared.line.Line.TheVariants as lines
use Rattle.ifs_asm.specs.Texts.{version_number}
use Rattle.ifs_asm.specs.inner.Building.{Built, listed_routine, current_len, parts_said, has_no_form, is_full, begun}
use Rattle.ifs_asm.specs.inner.Building.{is_in_order, with_line, with_op, one_line_more, line_in, built_by, nothing}
use Rattle.ifs_asm.proofs.Bytes.{each_append, each_weaker}
use Rattle.ifs_asm.specs.Refused.{LineFits, TextGood}
use Rattle.ifs_asm.proofs.BuildFound.{Sound, nothing_sound, own_form, step_said, image_said}
use Rattle.ifs_asm.proofs.Versions.{is_version, FitsVersion, kinds_fit, begun_fits, begun_code}
use Rattle.ifs_asm.proofs.ImageLaws.{parted, each_parts, each_both}

-- ---- counts and names

abbrev IsShort : Routine → Type 0
IsShort r = length r.code ≤ 1024

-- The tables are within their limits, and no name comes twice in one.
pub record TablesWithin (i : List (List ℕ)) (t : List TestSpec) (c : List (List ℕ)) (s : List StateSpec) : Type 0 where
  pub interfaces : length i ≤ 64
  pub distinct : AreDistinct i
  pub tests : length t ≤ 64
  pub commands : length c ≤ 1024
  pub states : length s ≤ 256
  pub state_names : AreDistinct (names_of s)

-- The routines are within the limits of a version.
pub record RoutinesWithin (v : Version) (rs : List Routine) (n : ℕ) : Type 0 where
  pub routines : length rs ≤ 1024
  pub code : AllByRecursion IsShort rs
  pub kinds : AllByRecursion (FitsVersion v) rs
  pub count : n ≤ code_limit (version_number v)
  pub together : instructions rs ≡ n

abbrev pub IsWithin : Built → Type 0
IsWithin b = TablesWithin b.interfaces b.tests b.commands b.states × RoutinesWithin b.version (b.routines ++ listed_routine b.current) b.count

no_names : AreDistinct []
no_names i j d lt within = absurd (omega arith)

pub nothing_within : IsWithin nothing
nothing_within = (
  record { interfaces = omega arith; distinct = no_names; tests = omega arith; commands = omega arith; states = omega arith; state_names = no_names },
  record { routines = omega arith; code = tt; kinds = tt; count = omega arith; together = refl },
)

room : (n most : ℕ) → not (nat_lt n most) ≡ false → n < most
room n most e = grind (arith, nat_tests)

one_more : {X : Type 0} (xs : List X) (x : X) (most : ℕ) → not (nat_lt (length xs) most) ≡ false → length (xs ++ x ∷ []) ≤ most
one_more xs x most e = omega (arith, room (length xs) most e, length-append xs (x ∷ []))

codes_append : (rs : List Routine) (r : Routine) → instructions (rs ++ r ∷ []) ≡ instructions rs + length r.code
codes_append rs r = omega (arith, sum_by-append (λ (x : Routine). length x.code) rs (r ∷ []))

few_codes : (v : Version) → code_limit (version_number v) ≤ 65535
few_codes One = omega arith
few_codes Two = omega arith

same_kinds : (v : Version) (r : Routine) (code : List Op) → FitsVersion v r → FitsVersion v (record r { code = code })
same_kinds One r code fits = record { params = fits.params; results = fits.results }
same_kinds Two r code fits = tt

op_within : (v : Version) (rs : List Routine) (o : Option Routine) (n : ℕ) (op : Op) → RoutinesWithin v (rs ++ listed_routine o) n
    → (not (nat_lt (current_len o) 1024) || not (nat_lt n (code_limit (version_number v)))) ≡ false → is_some o ≡ true → RoutinesWithin v (rs ++ listed_routine (with_op op o)) (min (n + 1) 65535)
op_within v rs None n op w full h = absurd cc
op_within v rs (Some r) n op w full h =
    let p = or_parts (not (nat_lt (length r.code) 1024)) (not (nat_lt n (code_limit (version_number v)))) full in
    let next : Routine = record r { code = r.code ++ op ∷ [] } in
    let code = one_more r.code op 1024 p.0 in
    let below = room n (code_limit (version_number v)) p.1 in
    let few : code_limit (version_number v) ≤ 65535 = few_codes v in
    let kinds = each_parts (FitsVersion v) rs (r ∷ []) w.kinds in
    record {
      routines = omega (arith, w.routines, length-append rs (r ∷ []), length-append rs (next ∷ []));
      code = each_append IsShort rs (next ∷ []) (each_parts IsShort rs (r ∷ []) w.code).0 (code, tt);
      kinds = each_append (FitsVersion v) rs (next ∷ []) kinds.0 (same_kinds v r (r.code ++ op ∷ []) kinds.1.0, tt);
      count = omega (arith, below);
      together = omega (arith, below, few, w.together, codes_append rs r, codes_append rs next, length-append r.code (op ∷ []));
    }

none_listed : (o : Option Routine) → o ≡ None → listed_routine o ≡ []
none_listed None e = refl
none_listed (Some r) e = absurd cc

-- Before the tables there is no routine.
pub no_routines : (b : Built) → Sound b → b.front < 7 → b.routines ++ listed_routine b.current ≡ []
no_routines b s lt =
    let none = s.current (s.states lt) in
    rw (s.routines none, none_listed b.current none) refl

line_within : (b : Built) (l : Line) → Sound b → IsWithin b → has_no_form b l ≡ false → is_full b l ≡ false → is_in_order b l ≡ true → IsWithin (with_line b l)
line_within b (lines.Version v) snd (w, r) new full order =
    let none : b.routines ++ listed_routine b.current ≡ [] = no_routines b snd (omega (arith, eqb-true b.front 0 order)) in
    let zeroes : b.count ≡ 0 = sym r.together ∙ ap instructions none in
    (w, record { routines = r.routines; code = r.code; kinds = subst (AllByRecursion (FitsVersion v)) (sym none) tt; count = omega (arith, zeroes); together = r.together })
line_within b (lines.Stack n) snd w new full order = w
line_within b (lines.Frames n) snd w new full order = w
line_within b (lines.Cost n) snd w new full order = w
line_within b (lines.Commands n) snd w new full order = w
line_within b (lines.Start n) snd w new full order = w
line_within b (lines.Always h) snd w new full order = w
line_within b (lines.Interface name) snd (w, r) new full order =
    let i = one_more b.interfaces name 64 full in
    let d = AreDistinct-push b.interfaces name w.distinct new in
    (record { interfaces = i; distinct = d; tests = w.tests; commands = w.commands; states = w.states; state_names = w.state_names }, r)
line_within b (lines.Test x) snd (w, r) new full order =
    let t = one_more b.tests x 64 full in
    (record { interfaces = w.interfaces; distinct = w.distinct; tests = t; commands = w.commands; states = w.states; state_names = w.state_names }, r)
line_within b (lines.Command text) snd (w, r) new full order =
    let c = one_more b.commands text 1024 full in
    (record { interfaces = w.interfaces; distinct = w.distinct; tests = w.tests; commands = c; states = w.states; state_names = w.state_names }, r)
line_within b (lines.State x) snd (w, r) new full order =
    let s = one_more b.states x 256 full in
    let names = map-append (λ (s : StateSpec). s.name) b.states (x ∷ []) in
    let d = subst AreDistinct (sym names) (AreDistinct-push (names_of b.states) x.name w.state_names new) in
    (record { interfaces = w.interfaces; distinct = w.distinct; tests = w.tests; commands = w.commands; states = s; state_names = d }, r)
line_within b (lines.Routine head) snd (w, r) new full order =
    let rs = b.routines ++ listed_routine b.current in
    let one = begun head in
    let own = own_form b head snd new order in
    let bare : length one.code ≡ 0 = ap length (begun_code head) in (
      w,
      record {
        routines = one_more rs one 1024 full;
        code = each_append IsShort rs (one ∷ []) r.code (omega (arith, bare), tt);
        kinds = each_append (FitsVersion b.version) rs (one ∷ []) r.kinds (begun_fits b.version head own, tt);
        count = r.count;
        together = omega (arith, r.together, codes_append rs one, bare);
      },
    )
line_within b (lines.Instruction op) snd (w, r) new full order = (w, op_within b.version b.routines b.current b.count op r full order)

-- ---- lines, by their bytes

record Taken (x y z : Bool) (b c : Built) : Type 0 where
  new : x ≡ false
  room : y ≡ false
  order : z ≡ true
  same : b ≡ c

taken : (x y z : Bool) (b c : Built) → cond (x || (y || not z)) None (Some b) ≡ Some c → Taken x y z b c
taken false false true b c h = record { new = refl; room = refl; order = refl; same = same_Some b c h }
taken false false false b c h = absurd cc
taken false true z b c h = absurd cc
taken true y z b c h = absurd cc

step_within : (b c : Built) (l : Line) → Sound b → IsWithin b → one_line_more b l ≡ Some c → IsWithin c
step_within b c l s w h =
    let t = taken (has_no_form b l) (is_full b l) (is_in_order b l) (with_line b l) c h in
    subst IsWithin t.same (line_within b l s w t.new t.room t.order)

pub built_within : (b c : Built) (spoken : List (List ℕ)) → Sound b → IsWithin b → built_by b spoken ≡ Some c → IsWithin c
built_within b c [] s w h = subst IsWithin (same_Some b c h) w
built_within b c (bytes ∷ others) s w h =
    option_and_then_some (λ line. option_and_then (λ next. built_by next others) (one_line_more b line)) (line_in bytes) c h (λ line _ rest.
    option_and_then_some (λ next. built_by next others) (one_line_more b line) c rest (λ next is_next last. built_within next c others (step_said b next line s is_next).sound (step_within b next line s w is_next) last))

-- ---- an image

routines_fit : (v : Version) (rs : List Routine) → AllByRecursion IsShort rs → AllByRecursion (FitsVersion v) rs → AllByRecursion (RoutineFits (version_number v)) rs
routines_fit v rs code kinds = each_both IsShort (FitsVersion v) (RoutineFits (version_number v)) (λ r short fits. record { kinds = kinds_fit v r fits; code = short }) rs code kinds

-- What lines build fits if it has a state.
pub built_fits : (c : Built) (spoken : List (List ℕ)) → built_by nothing spoken ≡ Some c → 1 ≤ length c.states → Fits (parts_said c)
built_fits c spoken h some =
    let p = parts_said c in
    let within = built_within nothing c spoken nothing_sound nothing_within h in
    let w = within.0 in
    let r = within.1 in
    let a = parted p (image_said c spoken h some).fit in
    record {
      version = is_version c.version;
      budgets = record { stack = a.front.1.0; frames = a.front.1.1.0; cost = a.front.1.1.1.0; commands = a.front.1.1.1.1.0 };
      counts = record { interfaces = w.interfaces; tests = w.tests; commands = w.commands; some_state = some; states = w.states; routines = r.routines };
      interfaces = record { texts = All-from_recursion TextFits p.interfaces (each_weaker TextGood TextFits (λ x g. g.fits) p.interfaces a.interfaces); distinct = w.distinct };
      tests = All-from_recursion TestFits p.tests (each_weaker (λ t. LineFits (lines.Test t)) TestFits (λ x g. record { period = g.0; text = g.1.fits }) p.tests a.tests);
      commands = All-from_recursion TextFits p.commands (each_weaker TextGood TextFits (λ x g. g.fits) p.commands a.commands);
      states = record { texts = All-from_recursion (λ s. TextFits s.name) p.states (each_weaker (λ s. LineFits (lines.State s)) (λ s. TextFits s.name) (λ x g. g.0.fits) p.states a.states); distinct = w.state_names };
      routines = record {
        each = All-from_recursion (RoutineFits p.version) p.routines (routines_fit c.version p.routines r.code r.kinds);
        together = omega (arith, r.together, r.count);
      };
    }

-- ---- whether there is a state decides

some_state : (states : List StateSpec) → (states ≡ [] → ⊥) → 1 ≤ length states
some_state [] never = absurd (never refl)
some_state (s ∷ states) never = omega arith

pub parts_fit : (c : Built) (spoken : List (List ℕ)) (p : ImageParts) (r : Bool) → built_by nothing spoken ≡ Some c → p ≡ parts_said c → (IsTrue r ↔ (p.states ≡ [])) → r ≡ false → Fits p
parts_fit c spoken p r h same tested is =
    subst Fits (sym same) (built_fits c spoken h (some_state c.states (λ none. iff_false tested is (ap (λ (q : ImageParts). q.states) same ∙ none))))

pub parts_unfit : (c : Built) (p : ImageParts) (r : Bool) → p ≡ parts_said c → (IsTrue r ↔ (p.states ≡ [])) → r ≡ true → Fits (parts_said c) → ⊥
parts_unfit c p r same tested is f = absurd (omega (arith, f.counts.some_state, ap length (sym (ap (λ (q : ImageParts). q.states) same) ∙ tested.0 is)))
