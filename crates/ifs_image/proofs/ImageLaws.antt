-- Laws of images: reading an image is the inverse of spelling it.
use Rattle.std.proofs.Common.{◌≡◌, ◌≢◌, ℕ, ◌+◌, ◌-◌, ◌^◌, ◌<◌, ◌≤◌, true, false, cond, inl, inr, List, [], ◌∷◌, ◌++◌, length}
use Rattle.std.proofs.Common.{get_or, take, Result, Ok, Err, refl, sym, ap, subst, ◌∙◌, append_assoc, arith, All}
use Rattle.std.specs.Prelude.{◌==◌, ◌||◌, codes, IsUtf8, IfOk}
use Rattle.std.specs.Int.{w16, w32, to_be_bytes}
use Rattle.std.specs.List.{flat_map}
use Rattle.std.specs.Str.{bytes_eq}
use Rattle.std.proofs.lemmas.Bool.{eqb-true, false_from_ne_true, or_cases}
use Rattle.std.proofs.lemmas.List.{append-nil, nil_from_length, length-append, map_push, take_at}
use Rattle.std.proofs.Math.Seq.{get_or-append_seam}
use Rattle.std.proofs.lemmas.List.Elements.{All-nil, All-cons, All-head, All-tail}
use Rattle.std.proofs.lemmas.List.Sums.{sum_by-append}
use Rattle.std.proofs.lemmas.Slice.Eq.{bytes_eq-Decides}
use Rattle.ifs_base.specs.Spelling.{HasSpelling}
use Rattle.ifs_image.specs.declared.fault.ImageFault.{ImageFault}
use Rattle.ifs_image.specs.declared.fault.ImageFault.TheVariants.{Memory, WrongMagic, WrongVersion, Trailing}
use Rattle.ifs_image.specs.declared.parts.Budgets.{Budgets}
use Rattle.ifs_image.specs.declared.parts.Counts.{Counts}
use Rattle.ifs_image.specs.declared.parts.Head.{Head}
use Rattle.ifs_image.specs.declared.parts.TestSpec.{TestSpec}
use Rattle.ifs_image.specs.declared.parts.StateSpec.{StateSpec}
use Rattle.ifs_image.specs.declared.parts.Routine.{Routine}
use Rattle.ifs_image.specs.declared.parts.ImageParts.{ImageParts}
use Rattle.ifs_base.specs.Sizes.{TextFits}
use Rattle.ifs_base.specs.Results.{◌>>=◌}
use Rattle.ifs_image.specs.Limits.{IsVersion, BudgetsFit, CountsFit, TestFits, RoutineFits, RoutineInRange, AreDistinct}
use Rattle.ifs_image.specs.Limits.{HandlersInRange, StateInRange, names_of, instructions, code_limit, Fits, InRange}
use Rattle.ifs_image.specs.Spelling.{front_bytes, budgets_bytes, counts_bytes, handlers_bytes, text_bytes}
use Rattle.ifs_image.specs.Spelling.{test_bytes, state_bytes, routine_bytes, counts, image_bytes, Spells}
use Rattle.ifs_image.specs.Reading.{Cursor, cursor, bytes_at, byte_at, number_at, number_within, magic_at}
use Rattle.ifs_image.specs.Reading.{version_at, budgets_at, counts_at, handlers_at, text_at, stands_in, name_at}
use Rattle.ifs_image.specs.Reading.{test_at, state_at, items_at, routine_after, room_after, head_at, parts_at, image_of}
use Rattle.ifs_image.specs.Answers.{Answers}
use Rattle.ifs_image.proofs.Names.{AreDistinct-push, distinct_broken}
use Rattle.ifs_image.proofs.FieldLaws.{IsBytes, bind_ok, again_bind, passed_ok, ok_is, Took, Took-then}
use Rattle.ifs_image.proofs.FieldLaws.{IsField, bytes_again, bytes_taken, wide16, number_field, within16}
use Rattle.ifs_image.proofs.FieldLaws.{within32, byte_again, byte_taken, AllAfter, table_field}
use Rattle.ifs_image.proofs.KindLaws.{version_cases}
use Rattle.ifs_image.proofs.PartLaws.{TextGood, text_field, name_field, handlers_field, TestGood}
use Rattle.ifs_image.proofs.PartLaws.{test_field, StateGood, state_field, RoutineGood, routine_field}

-- ---- magic, version, budgets, counts

pub magic_again : (at : ℕ) (rest : List ℕ) → magic_at (cursor at (codes "IFSV" ++ rest)) ≡ Ok (tt, cursor (at + 4) rest)
unfolding magic_at
magic_again at rest = again_bind _ _ _ _ (bytes_again (codes "IFSV") rest at 4 refl) refl

pub magic_taken : (p : Cursor) (y : Unit {0} × Cursor) → IsBytes p.left → magic_at p ≡ Ok y → Took p.left (codes "IFSV") y.1.left
unfolding magic_at
magic_taken p y fits e =
    let b = bind_ok (bytes_at 4 p) (λ bytes. cond (bytes_eq bytes.0 (codes "IFSV")) (Ok (tt, bytes.1)) (Err (WrongMagic p.at))) y e in
    let t = bytes_taken 4 p b.0 fits b.1 in
    let g = passed_ok (bytes_eq b.0.0 (codes "IFSV")) (WrongMagic p.at) (tt, b.0.1) y b.2 in
    let same : b.0.0 ≡ codes "IFSV" = (bytes_eq-Decides b.0.0 (codes "IFSV")).0 g.0 in
    subst (λ (z : Unit {0} × Cursor). Took p.left (codes "IFSV") z.1.left) g.1 (subst (λ (text : List ℕ). Took p.left text b.0.1.left) same t.0)

pub magic_field : IsField magic_at (λ _. codes "IFSV") (λ _. Unit {0})
magic_field = record { again = λ x at rest good. magic_again at rest; taken = λ p y fits e. (magic_taken p y fits e, tt) }

version_tests : (version : ℕ) → IsVersion version → ((version == 1) || (version == 2)) ≡ true
version_tests version is =
    elim (version_cases version is) [
      | inl one ↦ rw one refl
      | inr two ↦ rw two refl
    ]

version_is : (version : ℕ) → ((version == 1) || (version == 2)) ≡ true → IsVersion version
version_is version e =
    elim (or_cases (version == 1) (version == 2) e) [
      | inl one ↦ let is = eqb-true version 1 one in (omega (arith, is), omega (arith, is))
      | inr two ↦ let is = eqb-true version 2 two in (omega (arith, is), omega (arith, is))
    ]

pub version_again : (version at : ℕ) (rest : List ℕ) → IsVersion version → version_at (cursor at (version ∷ rest)) ≡ Ok (version, cursor (at + 1) rest)
unfolding version_at
version_again version at rest is = again_bind _ _ _ _ (byte_again version at rest) (rw (version_tests version is) refl)

pub version_taken : (p : Cursor) (y : ℕ × Cursor) → IsBytes p.left → version_at p ≡ Ok y → Took p.left (y.0 ∷ []) y.1.left × IsVersion y.0
unfolding version_at
version_taken p y fits e =
    let b = bind_ok (byte_at p) (λ version. cond ((version.0 == 1) || (version.0 == 2)) (Ok version) (Err (WrongVersion p.at))) y e in
    let g = passed_ok ((b.0.0 == 1) || (b.0.0 == 2)) (WrongVersion p.at) b.0 y b.2 in
    subst (λ (z : ℕ × Cursor). Took p.left (z.0 ∷ []) z.1.left × IsVersion z.0) g.1 (byte_taken p b.0 fits b.1, version_is b.0.0 g.0)

pub version_field : IsField version_at (λ version. version ∷ []) IsVersion
version_field = record { again = λ version at rest is. version_again version at rest is; taken = λ p y fits e. version_taken p y fits e }

pub budgets_field : IsField budgets_at budgets_bytes BudgetsFit
unfolding budgets_at budgets_bytes
budgets_field = record {
  again = λ b at rest fits.
      let b1 = (within16 0 32 (omega arith)).again b.stack at (to_be_bytes w16 b.frames ++ (to_be_bytes w32 b.cost ++ (to_be_bytes w16 b.commands ++ rest))) (omega arith, fits.stack) in
      let b2 = (within16 0 32 (omega arith)).again b.frames (at + 2) (to_be_bytes w32 b.cost ++ (to_be_bytes w16 b.commands ++ rest)) (omega arith, fits.frames) in
      let b3 = (within32 0 300000 (omega arith)).again b.cost (at + 2 + 2) (to_be_bytes w16 b.commands ++ rest) (omega arith, fits.cost) in
      let b4 = (within16 0 64 (omega arith)).again b.commands (at + 2 + 2 + 4) rest (omega arith, fits.commands) in
      again_bind _ _ _ _ b1 (again_bind _ _ _ _ b2 (again_bind _ _ _ _ b3 (again_bind _ _ _ _ b4 (ap (λ (k : ℕ). Ok (b, cursor k rest)) (omega arith)))));
  taken = λ p y fits e.
      let b_stack = bind_ok (number_within w16 0 32 p) (λ stack. number_within w16 0 32 stack.1 >>= λ frames. number_within w32 0 300000 frames.1 >>= λ cost. number_within w16 0 64 cost.1 >>= λ commands. Ok (record { stack = stack.0; frames = frames.0; cost = cost.0; commands = commands.0 }, commands.1)) y e in
      let b_frames = bind_ok (number_within w16 0 32 b_stack.0.1) (λ frames. number_within w32 0 300000 frames.1 >>= λ cost. number_within w16 0 64 cost.1 >>= λ commands. Ok (record { stack = b_stack.0.0; frames = frames.0; cost = cost.0; commands = commands.0 }, commands.1)) y b_stack.2 in
      let b_cost = bind_ok (number_within w32 0 300000 b_frames.0.1) (λ cost. number_within w16 0 64 cost.1 >>= λ commands. Ok (record { stack = b_stack.0.0; frames = b_frames.0.0; cost = cost.0; commands = commands.0 }, commands.1)) y b_frames.2 in
      let b_commands = bind_ok (number_within w16 0 64 b_cost.0.1) (λ commands. Ok (record { stack = b_stack.0.0; frames = b_frames.0.0; cost = b_cost.0.0; commands = commands.0 }, commands.1)) y b_cost.2 in
      let t1 = (within16 0 32 (omega arith)).taken p b_stack.0 fits b_stack.1 in
      let t2 = (within16 0 32 (omega arith)).taken b_stack.0.1 b_frames.0 t1.0.rest_fits b_frames.1 in
      let t3 = (within32 0 300000 (omega arith)).taken b_frames.0.1 b_cost.0 t2.0.rest_fits b_cost.1 in
      let t4 = (within16 0 64 (omega arith)).taken b_cost.0.1 b_commands.0 t3.0.rest_fits b_commands.1 in
      let made : Budgets × Cursor = (record { stack = b_stack.0.0; frames = b_frames.0.0; cost = b_cost.0.0; commands = b_commands.0.0 }, b_commands.0.1) in
      subst (λ (z : Budgets × Cursor). Took p.left (budgets_bytes z.0) z.1.left × BudgetsFit z.0) (ok_is made y b_commands.2)
      (Took-then (Took-then (Took-then t1.0 t2.0) t3.0) t4.0, record { stack = t1.1.1; frames = t2.1.1; cost = t3.1.1; commands = t4.1.1 });
}

-- Counts within their limits.
pub record CountsGood (c : Counts) : Type 0 where
  pub interfaces : c.interfaces ≤ 64
  pub tests : c.tests ≤ 64
  pub commands : c.commands ≤ 1024
  pub some_state : 1 ≤ c.states
  pub states : c.states ≤ 256
  pub routines : c.routines ≤ 1024

pub counts_field : IsField counts_at counts_bytes CountsGood
unfolding counts_at counts_bytes
counts_field = record {
  again = λ c at rest fits.
      let b1 = (within16 0 64 (omega arith)).again c.interfaces at (to_be_bytes w16 c.tests ++ (to_be_bytes w16 c.commands ++ (to_be_bytes w16 c.states ++ (to_be_bytes w16 c.routines ++ rest)))) (omega arith, fits.interfaces) in
      let b2 = (within16 0 64 (omega arith)).again c.tests (at + 2) (to_be_bytes w16 c.commands ++ (to_be_bytes w16 c.states ++ (to_be_bytes w16 c.routines ++ rest))) (omega arith, fits.tests) in
      let b3 = (within16 0 1024 (omega arith)).again c.commands (at + 2 + 2) (to_be_bytes w16 c.states ++ (to_be_bytes w16 c.routines ++ rest)) (omega arith, fits.commands) in
      let b4 = (within16 1 256 (omega arith)).again c.states (at + 2 + 2 + 2) (to_be_bytes w16 c.routines ++ rest) (fits.some_state, fits.states) in
      let b5 = (within16 0 1024 (omega arith)).again c.routines (at + 2 + 2 + 2 + 2) rest (omega arith, fits.routines) in
      again_bind _ _ _ _ b1 (again_bind _ _ _ _ b2 (again_bind _ _ _ _ b3 (again_bind _ _ _ _ b4 (again_bind _ _ _ _ b5 (ap (λ (k : ℕ). Ok (c, cursor k rest)) (omega arith))))));
  taken = λ p y fits e.
      let b_interfaces = bind_ok (number_within w16 0 64 p) (λ interfaces. number_within w16 0 64 interfaces.1 >>= λ tests. number_within w16 0 1024 tests.1 >>= λ commands. number_within w16 1 256 commands.1 >>= λ states. number_within w16 0 1024 states.1 >>= λ routines. Ok (record { interfaces = interfaces.0; tests = tests.0; commands = commands.0; states = states.0; routines = routines.0 }, routines.1)) y e in
      let b_tests = bind_ok (number_within w16 0 64 b_interfaces.0.1) (λ tests. number_within w16 0 1024 tests.1 >>= λ commands. number_within w16 1 256 commands.1 >>= λ states. number_within w16 0 1024 states.1 >>= λ routines. Ok (record { interfaces = b_interfaces.0.0; tests = tests.0; commands = commands.0; states = states.0; routines = routines.0 }, routines.1)) y b_interfaces.2 in
      let b_commands = bind_ok (number_within w16 0 1024 b_tests.0.1) (λ commands. number_within w16 1 256 commands.1 >>= λ states. number_within w16 0 1024 states.1 >>= λ routines. Ok (record { interfaces = b_interfaces.0.0; tests = b_tests.0.0; commands = commands.0; states = states.0; routines = routines.0 }, routines.1)) y b_tests.2 in
      let b_states = bind_ok (number_within w16 1 256 b_commands.0.1) (λ states. number_within w16 0 1024 states.1 >>= λ routines. Ok (record { interfaces = b_interfaces.0.0; tests = b_tests.0.0; commands = b_commands.0.0; states = states.0; routines = routines.0 }, routines.1)) y b_commands.2 in
      let b_routines = bind_ok (number_within w16 0 1024 b_states.0.1) (λ routines. Ok (record { interfaces = b_interfaces.0.0; tests = b_tests.0.0; commands = b_commands.0.0; states = b_states.0.0; routines = routines.0 }, routines.1)) y b_states.2 in
      let t1 = (within16 0 64 (omega arith)).taken p b_interfaces.0 fits b_interfaces.1 in
      let t2 = (within16 0 64 (omega arith)).taken b_interfaces.0.1 b_tests.0 t1.0.rest_fits b_tests.1 in
      let t3 = (within16 0 1024 (omega arith)).taken b_tests.0.1 b_commands.0 t2.0.rest_fits b_commands.1 in
      let t4 = (within16 1 256 (omega arith)).taken b_commands.0.1 b_states.0 t3.0.rest_fits b_states.1 in
      let t5 = (within16 0 1024 (omega arith)).taken b_states.0.1 b_routines.0 t4.0.rest_fits b_routines.1 in
      let made : Counts × Cursor = (record { interfaces = b_interfaces.0.0; tests = b_tests.0.0; commands = b_commands.0.0; states = b_states.0.0; routines = b_routines.0.0 }, b_routines.0.1) in
      subst (λ (z : Counts × Cursor). Took p.left (counts_bytes z.0) z.1.left × CountsGood z.0) (ok_is made y b_routines.2)
      (Took-then (Took-then (Took-then (Took-then t1.0 t2.0) t3.0) t4.0) t5.0, record { interfaces = t1.1.1; tests = t2.1.1; commands = t3.1.1; some_state = t4.1.0; states = t4.1.1; routines = t5.1.1 });
}

-- ---- the fields before the tables

-- The fields before the tables are within their limits.
pub record HeadGood (h : Head) : Type 0 where
  pub version : IsVersion h.version
  pub budgets : BudgetsFit h.budgets
  pub counts : CountsGood h.counts
  pub initial : h.initial.0 < 2 ^ 16
  pub always : HandlersInRange h.always

abbrev pub head_bytes : Head → List ℕ
head_bytes h = front_bytes h.version ++ budgets_bytes h.budgets ++ counts_bytes h.counts ++ to_be_bytes w16 h.initial.0 ++ handlers_bytes h.always

length-head_bytes : (h : Head) (at : ℕ) → at + 4 + 1 + length (budgets_bytes h.budgets) + length (counts_bytes h.counts) + 2 + length (handlers_bytes h.always) ≡ at + length (head_bytes h)
unfolding front_bytes
length-head_bytes h at =
    let f1 = front_bytes h.version in
    let f2 = f1 ++ budgets_bytes h.budgets in
    let f3 = f2 ++ counts_bytes h.counts in
    let f4 = f3 ++ to_be_bytes w16 h.initial.0 in
    omega (arith, length-append f4 (handlers_bytes h.always), length-append f3 (to_be_bytes w16 h.initial.0), length-append f2 (counts_bytes h.counts), length-append f1 (budgets_bytes h.budgets))

head_again : (h : Head) (at : ℕ) (rest : List ℕ) → HeadGood h → head_at (cursor at (head_bytes h ++ rest)) ≡ Ok (h, cursor (at + length (head_bytes h)) rest)
unfolding head_at front_bytes
head_again h at rest good =
    let r6 = handlers_bytes h.always ++ rest in
    let r5 = to_be_bytes w16 h.initial.0 ++ r6 in
    let r4 = counts_bytes h.counts ++ r5 in
    let r3 = budgets_bytes h.budgets ++ r4 in
    let regrouped : head_bytes h ++ rest ≡ codes "IFSV" ++ ((h.version ∷ []) ++ r3) = simp append_assoc in
    let k4 = at + 4 + 1 + length (budgets_bytes h.budgets) in
    let k5 = k4 + length (counts_bytes h.counts) in
    let a1 = magic_again at ((h.version ∷ []) ++ r3) in
    let a2 = version_again h.version (at + 4) r3 good.version in
    let a3 = budgets_field.again h.budgets (at + 4 + 1) r4 good.budgets in
    let a4 = counts_field.again h.counts k4 r5 good.counts in
    let a5 = (number_field w16 (2 ^ 16) wide16).again h.initial.0 k5 r6 good.initial in
    let a6 = handlers_field.again h.always (k5 + 2) rest good.always in
    ap (λ (bytes : List ℕ). head_at (cursor at bytes)) regrouped
    ∙ again_bind _ _ _ _ a1 (again_bind _ _ _ _ a2 (again_bind _ _ _ _ a3 (again_bind _ _ _ _ a4 (again_bind _ _ _ _ a5 (again_bind _ _ _ _ a6 (ap (λ (k : ℕ). Ok (h, cursor k rest)) (length-head_bytes h at)))))))

pub head_taken : (p : Cursor) (y : Head × Cursor) → IsBytes p.left → head_at p ≡ Ok y → Took p.left (head_bytes y.0) y.1.left × HeadGood y.0
unfolding head_at front_bytes
head_taken p y fits e =
    let a = bind_ok (magic_at p) (λ magic. version_at magic.1 >>= λ version. budgets_at version.1 >>= λ budgets. counts_at budgets.1 >>= λ counts. number_at w16 counts.1 >>= λ initial. handlers_at initial.1 >>= λ always. Ok (record { version = version.0; budgets = budgets.0; counts = counts.0; initial = record { 0 = initial.0 }; always = always.0 }, always.1)) y e in
    let b = bind_ok (version_at a.0.1) (λ version. budgets_at version.1 >>= λ budgets. counts_at budgets.1 >>= λ counts. number_at w16 counts.1 >>= λ initial. handlers_at initial.1 >>= λ always. Ok (record { version = version.0; budgets = budgets.0; counts = counts.0; initial = record { 0 = initial.0 }; always = always.0 }, always.1)) y a.2 in
    let c = bind_ok (budgets_at b.0.1) (λ budgets. counts_at budgets.1 >>= λ counts. number_at w16 counts.1 >>= λ initial. handlers_at initial.1 >>= λ always. Ok (record { version = b.0.0; budgets = budgets.0; counts = counts.0; initial = record { 0 = initial.0 }; always = always.0 }, always.1)) y b.2 in
    let d = bind_ok (counts_at c.0.1) (λ counts. number_at w16 counts.1 >>= λ initial. handlers_at initial.1 >>= λ always. Ok (record { version = b.0.0; budgets = c.0.0; counts = counts.0; initial = record { 0 = initial.0 }; always = always.0 }, always.1)) y c.2 in
    let i = bind_ok (number_at w16 d.0.1) (λ initial. handlers_at initial.1 >>= λ always. Ok (record { version = b.0.0; budgets = c.0.0; counts = d.0.0; initial = record { 0 = initial.0 }; always = always.0 }, always.1)) y d.2 in
    let h = bind_ok (handlers_at i.0.1) (λ always. Ok (record { version = b.0.0; budgets = c.0.0; counts = d.0.0; initial = record { 0 = i.0.0 }; always = always.0 }, always.1)) y i.2 in
    let t1 = magic_taken p a.0 fits a.1 in
    let t2 = version_taken a.0.1 b.0 t1.rest_fits b.1 in
    let t3 = budgets_field.taken b.0.1 c.0 t2.0.rest_fits c.1 in
    let t4 = counts_field.taken c.0.1 d.0 t3.0.rest_fits d.1 in
    let t5 = (number_field w16 (2 ^ 16) wide16).taken d.0.1 i.0 t4.0.rest_fits i.1 in
    let t6 = handlers_field.taken i.0.1 h.0 t5.0.rest_fits h.1 in
    let made : Head × Cursor = (record { version = b.0.0; budgets = c.0.0; counts = d.0.0; initial = record { 0 = i.0.0 }; always = h.0.0 }, h.0.1) in
    subst (λ (z : Head × Cursor). Took p.left (head_bytes z.0) z.1.left × HeadGood z.0) (ok_is made y h.2)
    (Took-then (Took-then (Took-then (Took-then (Took-then t1 t2.0) t3.0) t4.0) t5.0) t6.0, record { version = t2.1; budgets = t3.1; counts = t4.1; initial = t5.1; always = t6.1 })

pub head_field : IsField head_at head_bytes HeadGood
head_field = record { again = λ h at rest good. head_again h at rest good; taken = λ p y fits e. head_taken p y fits e }

-- ---- tables: facts of each entry, and facts of an entry after earlier ones

pub AllAfter-weaker : {X : Type 0} (G H : List X → X → Type 0) → ((before : List X) (x : X) → G before x → H before x) → (xs before : List X) → AllAfter G before xs → AllAfter H before xs
AllAfter-weaker {X} G H f [] before all = tt
AllAfter-weaker {X} G H f (x ∷ xs) before all = (f before x all.0, AllAfter-weaker G H f xs (before ++ x ∷ []) all.1)

pub all_after : {X : Type 0} (G : List X → X → Type 0) (P : X → Type 0) → ((before : List X) (x : X) → G before x → P x) → (xs before : List X) → AllAfter G before xs → All P xs
all_after {X} G P f [] before all = All-nil P
all_after {X} G P f (x ∷ xs) before all = All-cons P x xs (f before x all.0) (all_after G P f xs (before ++ x ∷ []) all.1)

-- A fact of each entry and a fact of it after earlier ones, joined.
pub after_all : {X : Type 0} (H : List X → X → Type 0) (P : X → Type 0) (G : List X → X → Type 0) → ((before : List X) (x : X) → P x → H before x → G before x) → (xs before : List X) → All P xs → AllAfter H before xs → AllAfter G before xs
after_all {X} H P G f [] before each all = tt
after_all {X} H P G f (x ∷ xs) before each all = (f before x (All-head P x xs each) all.0, after_all H P G f xs (before ++ x ∷ []) (All-tail P x xs each) all.1)

pub each_after : {X : Type 0} (P : X → Type 0) (xs before : List X) → All P xs → AllAfter (λ _. P) before xs
each_after {X} P [] before each = tt
each_after {X} P (x ∷ xs) before each = (All-head P x xs each, each_after P xs (before ++ x ∷ []) (All-tail P x xs each))

-- No earlier entry has the name.
abbrev pub IsFirst : List (List ℕ) → List ℕ → Type 0
IsFirst before name = stands_in name before ≡ false

names_distinct : (xs before : List (List ℕ)) → AreDistinct before → AllAfter IsFirst before xs → AreDistinct (before ++ xs)
names_distinct [] before apart all = subst AreDistinct (sym (append-nil before)) apart
names_distinct (x ∷ xs) before apart all =
    subst AreDistinct (append_assoc before (x ∷ []) xs) (names_distinct xs (before ++ x ∷ []) (AreDistinct-push before x apart all.0) all.1)

names_first : (xs before : List (List ℕ)) → AreDistinct (before ++ xs) → AllAfter IsFirst before xs
names_first [] before apart = tt
names_first (x ∷ xs) before apart =
    let names = before ++ x ∷ xs in
    let n = length before in
    let lt : n < length names = omega (arith, length-append before (x ∷ xs)) in
    let at : get_or names n x ≡ x = get_or-append_seam before x xs x in
    let front : take n names ≡ before = take_at before (x ∷ xs) n refl in (
      false_from_ne_true (stands_in x before) (λ e. distinct_broken names n x lt (rw (at, front) e) apart),
      names_first xs (before ++ x ∷ []) (subst AreDistinct (sym (append_assoc before (x ∷ []) xs)) apart),
    )

-- No earlier state has the name of a state.
abbrev pub IsFirstState : List StateSpec → StateSpec → Type 0
IsFirstState before s = IsFirst (names_of before) s.name

names_of_states : (xs before : List StateSpec) → AllAfter IsFirstState before xs → AllAfter IsFirst (names_of before) (names_of xs)
names_of_states [] before all = tt
names_of_states (x ∷ xs) before all = (all.0, subst (λ (b : List (List ℕ)). AllAfter IsFirst b (names_of xs)) (map_push (λ (s : StateSpec). s.name) before x) (names_of_states xs (before ++ x ∷ []) all.1))

states_of_names : (xs before : List StateSpec) → AllAfter IsFirst (names_of before) (names_of xs) → AllAfter IsFirstState before xs
states_of_names [] before all = tt
states_of_names (x ∷ xs) before all = (all.0, states_of_names xs (before ++ x ∷ []) (subst (λ (b : List (List ℕ)). AllAfter IsFirst b (names_of xs)) (sym (map_push (λ (s : StateSpec). s.name) before x)) all.1))

-- ---- the room for routines
instructions-append : (xs ys : List Routine) → instructions (xs ++ ys) ≡ instructions xs + instructions ys
instructions-append xs ys = sum_by-append (λ (r : Routine). length r.code) xs ys

instructions-cons : (x : Routine) (xs : List Routine) → instructions (x ∷ xs) ≡ length x.code + instructions xs
instructions-cons x xs = omega (arith, instructions-append (x ∷ []) xs)

abbrev pub HasRoom : ℕ → List Routine → Routine → Type 0
HasRoom version before r = length r.code ≤ room_after version before

routines_within : (version : ℕ) (xs before : List Routine) → instructions before ≤ code_limit version → AllAfter (HasRoom version) before xs → instructions (before ++ xs) ≤ code_limit version
routines_within version [] before few all = subst (λ (b : List Routine). instructions b ≤ code_limit version) (sym (append-nil before)) few
routines_within version (x ∷ xs) before few all =
    let here : length x.code ≤ code_limit version - instructions before = all.0 in
    let more : instructions (before ++ x ∷ []) ≤ code_limit version = omega (arith, instructions-append before (x ∷ []), instructions-cons x []) in
    subst (λ (b : List Routine). instructions b ≤ code_limit version) (append_assoc before (x ∷ []) xs) (routines_within version xs (before ++ x ∷ []) more all.1)

routines_room : (version : ℕ) (xs before : List Routine) → instructions (before ++ xs) ≤ code_limit version → AllAfter (HasRoom version) before xs
routines_room version [] before few = tt
routines_room version (x ∷ xs) before few = (
  omega (arith, instructions-append before (x ∷ xs), instructions-cons x xs),
  routines_room version xs (before ++ x ∷ []) (subst (λ (b : List Routine). instructions b ≤ code_limit version) (sym (append_assoc before (x ∷ []) xs)) few),
)

-- A routine is good after earlier ones.
abbrev pub IsGood : ℕ → List Routine → Routine → Type 0
IsGood version before r = RoutineGood version (room_after version before) r

-- ---- the five tables

pub interfaces_table : (n : ℕ) → IsField (items_at name_at n []) (flat_map text_bytes) (λ xs. (length xs ≡ n) × AllAfter (λ before t. TextGood t × (stands_in t before ≡ false)) [] xs)
interfaces_table n = table_field name_at text_bytes (λ before t. TextGood t × (stands_in t before ≡ false)) name_field n

pub tests_table : (n : ℕ) → IsField (items_at (λ _. test_at) n []) (flat_map test_bytes) (λ xs. (length xs ≡ n) × AllAfter (λ _. TestGood) [] xs)
tests_table n = table_field (λ _. test_at) test_bytes (λ _. TestGood) (λ _. test_field) n

pub commands_table : (n : ℕ) → IsField (items_at (λ _. text_at) n []) (flat_map text_bytes) (λ xs. (length xs ≡ n) × AllAfter (λ _. TextGood) [] xs)
commands_table n = table_field (λ _. text_at) text_bytes (λ _. TextGood) (λ _. text_field) n

pub states_table : (n : ℕ) → IsField (items_at state_at n []) (flat_map state_bytes) (λ xs. (length xs ≡ n) × AllAfter StateGood [] xs)
states_table n = table_field state_at state_bytes StateGood state_field n

pub routines_table : (version n : ℕ) → IsVersion version → IsField (items_at (routine_after version) n []) (flat_map (routine_bytes version)) (λ xs. (length xs ≡ n) × AllAfter (IsGood version) [] xs)
routines_table version n is = table_field (routine_after version) (routine_bytes version) (IsGood version) (λ before. routine_field version (room_after version before) is) n

-- The tables of an image are good, entry by entry.
pub record TablesGood (p : ImageParts) : Type 0 where
  pub interfaces : AllAfter (λ before t. TextGood t × (stands_in t before ≡ false)) [] p.interfaces
  pub tests : AllAfter (λ _. TestGood) [] p.tests
  pub commands : AllAfter (λ _. TextGood) [] p.commands
  pub states : AllAfter StateGood [] p.states
  pub routines : AllAfter (IsGood p.version) [] p.routines

pub no_names : AreDistinct []
no_names i j d lt below = absurd (omega arith)

pub fits_from_tables : (p : ImageParts) → IsVersion p.version → BudgetsFit p.budgets → CountsFit p → TablesGood p → Fits p
fits_from_tables p version budgets counts t = record {
  version = version;
  budgets = budgets;
  counts = counts;
  interfaces = record {
    texts = all_after (λ before t. TextGood t × (stands_in t before ≡ false)) TextFits (λ before t good. good.0.fits) p.interfaces [] t.interfaces;
    distinct = names_distinct p.interfaces [] no_names (AllAfter-weaker (λ before t. TextGood t × (stands_in t before ≡ false)) IsFirst (λ before t good. good.1) p.interfaces [] t.interfaces);
  };
  tests = all_after (λ _. TestGood) TestFits (λ before t good. good.fits) p.tests [] t.tests;
  commands = all_after (λ _. TextGood) TextFits (λ before t good. good.fits) p.commands [] t.commands;
  states = record {
    texts = all_after StateGood (λ s. TextFits s.name) (λ before s good. good.fits) p.states [] t.states;
    distinct = names_distinct (names_of p.states) [] no_names (names_of_states p.states [] (AllAfter-weaker StateGood IsFirstState (λ before s good. good.first) p.states [] t.states));
  };
  routines = record {
    each = all_after (IsGood p.version) (RoutineFits p.version) (λ before r good. good.fits) p.routines [] t.routines;
    together = routines_within p.version p.routines [] (omega arith) (AllAfter-weaker (IsGood p.version) (HasRoom p.version) (λ before r good. good.within) p.routines [] t.routines);
  };
}

pub in_range_from_tables : (p : ImageParts) → p.initial.0 < 2 ^ 16 → HandlersInRange p.always → TablesGood p → InRange p
in_range_from_tables p initial always t = record {
  initial = initial;
  always = always;
  interfaces = all_after (λ before t. TextGood t × (stands_in t before ≡ false)) IsUtf8 (λ before t good. good.0.utf8) p.interfaces [] t.interfaces;
  tests = all_after (λ _. TestGood) (λ t. IsUtf8 t.text) (λ before t good. good.utf8) p.tests [] t.tests;
  commands = all_after (λ _. TextGood) IsUtf8 (λ before t good. good.utf8) p.commands [] t.commands;
  states = all_after StateGood StateInRange (λ before s good. good.in_range) p.states [] t.states;
  routines = all_after (IsGood p.version) RoutineInRange (λ before r good. record { params = good.params; results = good.results; code = all_after (λ _. HasSpelling) HasSpelling (λ _ op has. has) r.code [] good.code }) p.routines [] t.routines;
}

pub tables_from_fits : (p : ImageParts) → Fits p → InRange p → TablesGood p
tables_from_fits p f r = record {
  interfaces = after_all IsFirst TextGood (λ before t. TextGood t × (stands_in t before ≡ false)) (λ before t good first. (good, first)) p.interfaces [] (λ k d lt. record { fits = f.interfaces.texts k d lt; utf8 = r.interfaces k d lt }) (names_first p.interfaces [] f.interfaces.distinct);
  tests = each_after TestGood p.tests [] (λ k d lt. record { fits = f.tests k d lt; utf8 = r.tests k d lt });
  commands = each_after TextGood p.commands [] (λ k d lt. record { fits = f.commands k d lt; utf8 = r.commands k d lt });
  states = after_all IsFirstState (λ s. TextFits s.name × StateInRange s) StateGood (λ before s good first. record { fits = good.0; in_range = good.1; first = first }) p.states [] (λ k d lt. (f.states.texts k d lt, r.states k d lt)) (states_of_names p.states [] (names_first (names_of p.states) [] f.states.distinct));
  routines = after_all (HasRoom p.version) (λ x. RoutineFits p.version x × RoutineInRange x) (IsGood p.version) (λ before x good room. record { fits = good.0; within = room; params = good.1.params; results = good.1.results; code = each_after HasSpelling x.code [] good.1.code }) p.routines [] (λ k d lt. (f.routines.each k d lt, r.routines k d lt)) (routines_room p.version p.routines [] f.routines.together);
}

-- ---- the whole image

abbrev pub done : {A : Type 0} → A → Result A ImageFault
done x = Ok x

bind_elim : {A B : Type 0} (r : Result A ImageFault) (f : A → Result B ImageFault) (y : B) (P : Type 0) → (r >>= f) ≡ Ok y → ((x : A) → r ≡ Ok x → f x ≡ Ok y → P) → P
bind_elim (Ok x) f y P e go = go x refl e
bind_elim (Err d) f y P e go = absurd cc

pub counts_same : (c : Counts) (p : ImageParts) → c.interfaces ≡ length p.interfaces → c.tests ≡ length p.tests → c.commands ≡ length p.commands → c.states ≡ length p.states → c.routines ≡ length p.routines → c ≡ counts p
counts_same c p a b d s r = rw (← a, ← b, ← d, ← s, ← r) refl

-- An image that was read: its bytes were taken, and it fits.
pub record TookImage (bytes : List ℕ) (parts : ImageParts) (rest : List ℕ) : Type 0 where
  pub took : Took bytes (image_bytes parts) rest
  pub fits : Fits parts
  pub in_range : InRange parts

-- The fields of an image as they were read, one after the other.
pub record Steps (p : Cursor) (y : ImageParts × Cursor) : Type 0 where
  pub head : Head × Cursor
  pub is_head : head_at p ≡ Ok head
  pub interfaces : List (List ℕ) × Cursor
  pub is_interfaces : items_at name_at head.0.counts.interfaces [] head.1 ≡ Ok interfaces
  pub tests : List TestSpec × Cursor
  pub is_tests : items_at (λ _. test_at) head.0.counts.tests [] interfaces.1 ≡ Ok tests
  pub commands : List (List ℕ) × Cursor
  pub is_commands : items_at (λ _. text_at) head.0.counts.commands [] tests.1 ≡ Ok commands
  pub states : List StateSpec × Cursor
  pub is_states : items_at state_at head.0.counts.states [] commands.1 ≡ Ok states
  pub routines : List Routine × Cursor
  pub is_routines : items_at (routine_after head.0.version) head.0.counts.routines [] states.1 ≡ Ok routines
  pub made_is : done (record { version = head.0.version; budgets = head.0.budgets; initial = head.0.initial; always = head.0.always; interfaces = interfaces.0; tests = tests.0; commands = commands.0; states = states.0; routines = routines.0 }, routines.1) ≡ Ok y

steps_of : (p : Cursor) (y : ImageParts × Cursor) → parts_at p ≡ Ok y → Steps p y
unfolding parts_at
steps_of p y e =
    bind_elim (head_at p) (λ head. items_at name_at head.0.counts.interfaces [] head.1 >>= λ interfaces. items_at (λ _. test_at) head.0.counts.tests [] interfaces.1 >>= λ tests. items_at (λ _. text_at) head.0.counts.commands [] tests.1 >>= λ commands. items_at state_at head.0.counts.states [] commands.1 >>= λ states. items_at (routine_after head.0.version) head.0.counts.routines [] states.1 >>= λ routines. Ok (record { version = head.0.version; budgets = head.0.budgets; initial = head.0.initial; always = head.0.always; interfaces = interfaces.0; tests = tests.0; commands = commands.0; states = states.0; routines = routines.0 }, routines.1)) y (Steps p y) e (λ head e_head g_head.
    bind_elim (items_at name_at head.0.counts.interfaces [] head.1) (λ interfaces. items_at (λ _. test_at) head.0.counts.tests [] interfaces.1 >>= λ tests. items_at (λ _. text_at) head.0.counts.commands [] tests.1 >>= λ commands. items_at state_at head.0.counts.states [] commands.1 >>= λ states. items_at (routine_after head.0.version) head.0.counts.routines [] states.1 >>= λ routines. Ok (record { version = head.0.version; budgets = head.0.budgets; initial = head.0.initial; always = head.0.always; interfaces = interfaces.0; tests = tests.0; commands = commands.0; states = states.0; routines = routines.0 }, routines.1)) y (Steps p y) g_head (λ interfaces e_interfaces g_interfaces.
    bind_elim (items_at (λ _. test_at) head.0.counts.tests [] interfaces.1) (λ tests. items_at (λ _. text_at) head.0.counts.commands [] tests.1 >>= λ commands. items_at state_at head.0.counts.states [] commands.1 >>= λ states. items_at (routine_after head.0.version) head.0.counts.routines [] states.1 >>= λ routines. Ok (record { version = head.0.version; budgets = head.0.budgets; initial = head.0.initial; always = head.0.always; interfaces = interfaces.0; tests = tests.0; commands = commands.0; states = states.0; routines = routines.0 }, routines.1)) y (Steps p y) g_interfaces (λ tests e_tests g_tests.
    bind_elim (items_at (λ _. text_at) head.0.counts.commands [] tests.1) (λ commands. items_at state_at head.0.counts.states [] commands.1 >>= λ states. items_at (routine_after head.0.version) head.0.counts.routines [] states.1 >>= λ routines. Ok (record { version = head.0.version; budgets = head.0.budgets; initial = head.0.initial; always = head.0.always; interfaces = interfaces.0; tests = tests.0; commands = commands.0; states = states.0; routines = routines.0 }, routines.1)) y (Steps p y) g_tests (λ commands e_commands g_commands.
    bind_elim (items_at state_at head.0.counts.states [] commands.1) (λ states. items_at (routine_after head.0.version) head.0.counts.routines [] states.1 >>= λ routines. Ok (record { version = head.0.version; budgets = head.0.budgets; initial = head.0.initial; always = head.0.always; interfaces = interfaces.0; tests = tests.0; commands = commands.0; states = states.0; routines = routines.0 }, routines.1)) y (Steps p y) g_commands (λ states e_states g_states.
    bind_elim (items_at (routine_after head.0.version) head.0.counts.routines [] states.1) (λ routines. Ok (record { version = head.0.version; budgets = head.0.budgets; initial = head.0.initial; always = head.0.always; interfaces = interfaces.0; tests = tests.0; commands = commands.0; states = states.0; routines = routines.0 }, routines.1)) y (Steps p y) g_states (λ routines e_routines g_routines.
    record { head = head; is_head = e_head; interfaces = interfaces; is_interfaces = e_interfaces; tests = tests; is_tests = e_tests; commands = commands; is_commands = e_commands; states = states; is_states = e_states; routines = routines; is_routines = e_routines; made_is = g_routines }))))))

steps_taken : (p : Cursor) (y : ImageParts × Cursor) → IsBytes p.left → Steps p y → TookImage p.left y.0 y.1.left
unfolding image_bytes
steps_taken p y fits s =
    let counts_read = s.head.0.counts in
    let t6 = head_taken p s.head fits s.is_head in
    let t7 = (interfaces_table counts_read.interfaces).taken s.head.1 s.interfaces t6.0.rest_fits s.is_interfaces in
    let t8 = (tests_table counts_read.tests).taken s.interfaces.1 s.tests t7.0.rest_fits s.is_tests in
    let t9 = (commands_table counts_read.commands).taken s.tests.1 s.commands t8.0.rest_fits s.is_commands in
    let t10 = (states_table counts_read.states).taken s.commands.1 s.states t9.0.rest_fits s.is_states in
    let t11 = (routines_table s.head.0.version counts_read.routines t6.1.version).taken s.states.1 s.routines t10.0.rest_fits s.is_routines in
    let parts : ImageParts = record { version = s.head.0.version; budgets = s.head.0.budgets; initial = s.head.0.initial; always = s.head.0.always; interfaces = s.interfaces.0; tests = s.tests.0; commands = s.commands.0; states = s.states.0; routines = s.routines.0 } in
    let same : counts_read ≡ counts parts = counts_same counts_read parts (sym t7.1.0) (sym t8.1.0) (sym t9.1.0) (sym t10.1.0) (sym t11.1.0) in
    let front : Took p.left (head_bytes (record s.head.0 { counts = counts parts })) s.head.1.left = subst (λ (c : Counts). Took p.left (head_bytes (record s.head.0 { counts = c })) s.head.1.left) same t6.0 in
    let limits : CountsGood (counts parts) = subst CountsGood same t6.1.counts in
    let whole = Took-then (Took-then (Took-then (Took-then (Took-then front t7.0) t8.0) t9.0) t10.0) t11.0 in
    let tables : TablesGood parts = record { interfaces = t7.1.1; tests = t8.1.1; commands = t9.1.1; states = t10.1.1; routines = t11.1.1 } in
    let made : ImageParts × Cursor = (parts, s.routines.1) in
    subst (λ (z : ImageParts × Cursor). TookImage p.left z.0 z.1.left) (ok_is made y s.made_is)
    (record { took = whole; fits = fits_from_tables parts t6.1.version t6.1.budgets (record { interfaces = limits.interfaces; tests = limits.tests; commands = limits.commands; some_state = limits.some_state; states = limits.states; routines = limits.routines }) tables; in_range = in_range_from_tables parts t6.1.initial t6.1.always tables })

pub parts_taken : (p : Cursor) (y : ImageParts × Cursor) → IsBytes p.left → parts_at p ≡ Ok y → TookImage p.left y.0 y.1.left
parts_taken p y fits e = steps_taken p y fits (steps_of p y e)

-- What an image has before its tables.
abbrev pub head_of : ImageParts → Head
head_of p = record { version = p.version; budgets = p.budgets; counts = counts p; initial = p.initial; always = p.always }

pub good_head : (p : ImageParts) → Fits p → InRange p → HeadGood (head_of p)
good_head p f r = record {
  version = f.version;
  budgets = f.budgets;
  counts = record { interfaces = f.counts.interfaces; tests = f.counts.tests; commands = f.counts.commands; some_state = f.counts.some_state; states = f.counts.states; routines = f.counts.routines };
  initial = r.initial;
  always = r.always;
}

-- The bytes of the tables.
abbrev pub tables_bytes : ImageParts → List ℕ
tables_bytes p = flat_map text_bytes p.interfaces ++ (flat_map test_bytes p.tests ++ (flat_map text_bytes p.commands ++ (flat_map state_bytes p.states ++ flat_map (routine_bytes p.version) p.routines)))

pub head_then_tables : (p : ImageParts) → image_bytes p ≡ head_bytes (head_of p) ++ tables_bytes p
unfolding image_bytes
head_then_tables p = simp append_assoc

-- The spelling of an image is read as that image, at any place, whatever follows.
pub parts_again : (p : ImageParts) (at : ℕ) (rest : List ℕ) → Fits p → InRange p → parts_at (cursor at (image_bytes p ++ rest)) ≡ Ok (p, cursor (at + length (image_bytes p)) rest)
unfolding parts_at
parts_again p at rest f r =
    let t = tables_from_fits p f r in
    let routines = flat_map (routine_bytes p.version) p.routines in
    let states = flat_map state_bytes p.states in
    let commands = flat_map text_bytes p.commands in
    let tests = flat_map test_bytes p.tests in
    let interfaces = flat_map text_bytes p.interfaces in
    let r11 = routines ++ rest in
    let r10 = states ++ r11 in
    let r9 = commands ++ r10 in
    let r8 = tests ++ r9 in
    let r7 = interfaces ++ r8 in
    let head = head_of p in
    let regrouped : image_bytes p ++ rest ≡ head_bytes head ++ r7 = ap (λ (b : List ℕ). b ++ rest) (head_then_tables p) ∙ simp append_assoc in
    let k7 = at + length (head_bytes head) in
    let k8 = k7 + length interfaces in
    let k9 = k8 + length tests in
    let k10 = k9 + length commands in
    let k11 = k10 + length states in
    let a6 = head_again head at r7 (good_head p f r) in
    let a7 = (interfaces_table (length p.interfaces)).again p.interfaces k7 r8 (refl, t.interfaces) in
    let a8 = (tests_table (length p.tests)).again p.tests k8 r9 (refl, t.tests) in
    let a9 = (commands_table (length p.commands)).again p.commands k9 r10 (refl, t.commands) in
    let a10 = (states_table (length p.states)).again p.states k10 r11 (refl, t.states) in
    let a11 = (routines_table p.version (length p.routines) f.version).again p.routines k11 rest (refl, t.routines) in
    let sums : k11 + length routines ≡ at + length (image_bytes p) = omega (arith, ap length (head_then_tables p), length-append (head_bytes head) (tables_bytes p), length-append interfaces (tests ++ (commands ++ (states ++ routines))), length-append tests (commands ++ (states ++ routines)), length-append commands (states ++ routines), length-append states routines) in
    ap (λ (bytes : List ℕ). parts_at (cursor at bytes)) regrouped
    ∙ again_bind _ _ _ _ a6 (again_bind _ _ _ _ a7 (again_bind _ _ _ _ a8 (again_bind _ _ _ _ a9 (again_bind _ _ _ _ a10 (again_bind _ _ _ _ a11 (ap (λ (k : ℕ). Ok (p, cursor k rest)) sums))))))

-- ---- the laws

pub image_found : (bytes : List ℕ) (p : ImageParts) → IsBytes bytes → image_of bytes ≡ Ok p → Spells bytes p
unfolding image_of
image_found bytes p fits e =
    let b = bind_ok (parts_at (cursor 0 bytes)) (λ parts. cond (length parts.1.left == 0) (Ok parts.0) (Err (Trailing parts.1.at))) p e in
    let g = passed_ok (length b.0.1.left == 0) (Trailing b.0.1.at) b.0.0 p b.2 in
    let t = parts_taken (cursor 0 bytes) b.0 fits b.1 in
    let nothing : b.0.1.left ≡ [] = nil_from_length b.0.1.left (eqb-true _ _ g.0) in
    let whole : bytes ≡ image_bytes b.0.0 = t.took.parts ∙ ap (λ (rest : List ℕ). image_bytes b.0.0 ++ rest) nothing ∙ append-nil (image_bytes b.0.0) in
    subst (λ (q : ImageParts). Spells bytes q) g.1 (record { fits = t.fits; in_range = t.in_range; bytes_are = whole })

pub image_again : (bytes : List ℕ) (p : ImageParts) → Spells bytes p → image_of bytes ≡ Ok p
unfolding image_of
image_again bytes p s =
    let e : bytes ≡ image_bytes p ++ [] = s.bytes_are ∙ sym (append-nil (image_bytes p)) in
    again_bind _ _ _ _ (ap (λ (b : List ℕ). parts_at (cursor 0 b)) e ∙ parts_again p 0 [] s.fits s.in_range) refl

-- ---- results of the functions that read

pub is_found : (bytes : List ℕ) (r : Result ImageParts ImageFault) → IsBytes bytes → Answers r (image_of bytes) → IfOk r (Spells bytes)
is_found bytes (Ok p) fits given = image_found bytes p fits given
is_found bytes (Err fault) fits given = tt

abbrev missed : ImageFault → Result ImageParts ImageFault
missed fault = Err fault

pub only_it : (bytes : List ℕ) (r : Result ImageParts ImageFault) → Answers r (image_of bytes) → (p : ImageParts) → Spells bytes p → r ≢ Err Memory → r ≡ Ok p
only_it bytes (Ok q) given p s found = sym given ∙ image_again bytes p s
only_it bytes (Err fault) given p s found =
    let e : image_of bytes ≡ missed fault = given (λ same. found (ap missed same)) in
    sym e ∙ image_again bytes p s

-- Bytes spell at most one image.
pub Spells-unique : (bytes : List ℕ) (p q : ImageParts) → Spells bytes p → Spells bytes q → p ≡ q
Spells-unique bytes p q a b = ok_is p q (sym (image_again bytes p a) ∙ image_again bytes q b)

-- No spelling is a prefix of another.
pub Spells-prefix : (bytes more : List ℕ) (p q : ImageParts) → Spells bytes p → Spells (bytes ++ more) q → more ≡ []
Spells-prefix bytes more p q a b =
    let first = parts_again p 0 more a.fits a.in_range in
    let second = parts_again q 0 [] b.fits b.in_range in
    let one : bytes ++ more ≡ image_bytes p ++ more = ap (λ (x : List ℕ). x ++ more) a.bytes_are in
    let two : bytes ++ more ≡ image_bytes q ++ [] = b.bytes_are ∙ sym (append-nil (image_bytes q)) in
    let n = 0 + length (image_bytes p) in
    let m = 0 + length (image_bytes q) in
    let same : done (p, cursor n more) ≡ done (q, cursor m []) = sym first ∙ ap (λ (x : List ℕ). parts_at (cursor 0 x)) (sym one ∙ two) ∙ second in
    ap (λ (y : ImageParts × Cursor). y.1.left) (ok_is (p, cursor n more) (q, cursor m []) same)
