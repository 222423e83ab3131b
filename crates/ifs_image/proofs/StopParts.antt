-- Where reading the parts of an image stops.
use Rattle.std.proofs.Common.{◌≡◌, ℕ, zero, suc, ◌+◌, ◌^◌, ◌<◌, ◌≤◌, true, false, cond, ltb, List, [], ◌∷◌, ◌++◌, length, get_or, take, drop}
use Rattle.std.proofs.Common.{Ok, Err, refl, sym, ap, subst, ◌∙◌, append_assoc, arith, inl, inr}
use Rattle.std.specs.Prelude.{◌⊎◌, ◌||◌, ◌==◌}
use Rattle.std.specs.Int.{w16, w32, w64, from_be_bytes, to_be_bytes}
use Rattle.std.proofs.lemmas.Bool.{cases_lt, ltb-true, or_cases, eqb-true, eqb-false, both_ways, false_from_ne_true, cases_Bool, cond-true, cond-false, cond_both}
use Rattle.std.proofs.lemmas.List.{take_at, drop_at, take-take, take-append-le, length-append, length-take, length-drop, append-nil}
use Rattle.std.proofs.lemmas.List.{get_or_default, get_or_past, length-map}
use Rattle.std.proofs.lemmas.Nat.{from_be_bytes-to_be_bytes_2}
use Rattle.std.proofs.lemmas.Str.{is_utf8-from_IsUtf8, IsUtf8-from_ascii}
use Rattle.ifs_base.specs.Results.{◌>>=◌}
use Rattle.ifs_image.specs.declared.fault.ImageFault.{ImageFault}
use Rattle.ifs_image.specs.declared.fault.ImageFault.TheVariants.{Truncated, BadText, RepeatedName}
use Rattle.ifs_image.specs.declared.parts.Budgets.{Budgets}
use Rattle.ifs_image.specs.declared.parts.Counts.{Counts}
use Rattle.ifs_image.specs.declared.parts.Handlers.{Handlers}
use Rattle.ifs_image.specs.declared.parts.TestSpec.{TestSpec}
use Rattle.ifs_image.specs.declared.parts.StateSpec.{StateSpec}
use Rattle.ifs_image.specs.Limits.{BudgetsFit, HandlersInRange, names_of}
use Rattle.ifs_image.specs.Spelling.{budgets_bytes, counts_bytes, handlers_bytes, text_bytes, test_bytes, state_bytes}
use Rattle.ifs_image.specs.Reading.{Cursor, cursor, Read, bytes_at, number_at, number_within, budgets_at, counts_at, handlers_at}
use Rattle.ifs_image.specs.Reading.{length_at, is_text, text_sized, text_at, stands_in, name_at, test_at, state_at}
use Rattle.ifs_image.specs.Fields.{FieldKind, Text, Name, Field, number, text_fields, name_fields}
use Rattle.ifs_image.specs.Fields.{budgets_fields, counts_fields, handlers_fields, test_fields, state_fields}
use Rattle.ifs_image.specs.Faults.{IsText, SaysLength, HasLength, IsShort, IsShortText, HasNoLength, IsCut, IsWrong}
use Rattle.ifs_image.proofs.Names.{stands_in-Decides}
use Rattle.ifs_image.proofs.FieldLaws.{IsBytes, bind_ok, passed_ok}
use Rattle.ifs_image.proofs.PartLaws.{TextGood, text_field, name_field, length_field, text_parts, free_nul, handlers_field}
use Rattle.ifs_image.proofs.PartLaws.{TestGood, test_field, StateGood, state_field}
use Rattle.ifs_image.proofs.ImageLaws.{CountsGood, budgets_field, counts_field}
use Rattle.ifs_image.proofs.Stops.{Stop, Part, First, After, bind_err, stop_chain, took_value}
use Rattle.ifs_image.proofs.StopFields.{Shows, why_here, all_shown, unread_by, stands_alone, bytes_fail, bytes_took, guard_err, passed_err, number_short, number_took}
use Rattle.ifs_image.proofs.StopFields.{number16, number64, part16, part32}

-- ---- chains of numbers

chain16 : {Z : Type 0} (least most : ℕ) → most < 2 ^ 16 → least ≤ most → (text : Z → List ℕ) (fields : Z → List Field) (Good : Z → Type 0) → (f : First (to_be_bytes w16) (λ n. number w16 n ∷ []) (λ n. (least ≤ n) × (n ≤ most)) text fields Good) → (next : ℕ → Cursor → Read Z)
    → ((x : ℕ) → (least ≤ x) × (x ≤ most) → (at : ℕ) (left : List ℕ) (fault : ImageFault) → IsBytes left → next x (cursor at left) ≡ Err fault → Stop f.rest f.others (After f.first Good x) at left fault)
    → (at : ℕ) (left : List ℕ) (fault : ImageFault) → IsBytes left → (number_within w16 least most (cursor at left) >>= λ y. next y.0 y.1) ≡ Err fault → Stop text fields Good at left fault
chain16 least most small order text fields Good f next others =
    stop_chain (number_within w16 least most) (to_be_bytes w16) (λ n. number w16 n ∷ []) (λ n. (least ≤ n) × (n ≤ most)) text fields Good (part16 least most small order) f next others

chain32 : {Z : Type 0} (least most : ℕ) → most < 2 ^ 32 → least ≤ most → (text : Z → List ℕ) (fields : Z → List Field) (Good : Z → Type 0) → (f : First (to_be_bytes w32) (λ n. number w32 n ∷ []) (λ n. (least ≤ n) × (n ≤ most)) text fields Good) → (next : ℕ → Cursor → Read Z)
    → ((x : ℕ) → (least ≤ x) × (x ≤ most) → (at : ℕ) (left : List ℕ) (fault : ImageFault) → IsBytes left → next x (cursor at left) ≡ Err fault → Stop f.rest f.others (After f.first Good x) at left fault)
    → (at : ℕ) (left : List ℕ) (fault : ImageFault) → IsBytes left → (number_within w32 least most (cursor at left) >>= λ y. next y.0 y.1) ≡ Err fault → Stop text fields Good at left fault
chain32 least most small order text fields Good f next others =
    stop_chain (number_within w32 least most) (to_be_bytes w32) (λ n. number w32 n ∷ []) (λ n. (least ≤ n) × (n ≤ most)) text fields Good (part32 least most small order) f next others

-- ---- budgets

abbrev budgets_4 : ℕ → ℕ → ℕ → Cursor → Read Budgets
budgets_4 s f c p = number_within w16 0 64 p >>= λ commands. Ok (record { stack = s; frames = f; cost = c; commands = commands.0 }, commands.1)

abbrev budgets_3 : ℕ → ℕ → Cursor → Read Budgets
budgets_3 s f p = number_within w32 0 300000 p >>= λ cost. budgets_4 s f cost.0 cost.1

abbrev budgets_2 : ℕ → Cursor → Read Budgets
budgets_2 s p = number_within w16 0 32 p >>= λ frames. budgets_3 s frames.0 frames.1

abbrev after_stack : Budgets → List ℕ
after_stack b = to_be_bytes w16 b.frames ++ (to_be_bytes w32 b.cost ++ to_be_bytes w16 b.commands)

abbrev after_frames : Budgets → List ℕ
after_frames b = to_be_bytes w32 b.cost ++ to_be_bytes w16 b.commands

abbrev stack_is : ℕ → Budgets → Type 0
stack_is s = After (λ b. b.stack) BudgetsFit s

abbrev frames_are : ℕ → ℕ → Budgets → Type 0
frames_are s f = After (λ b. b.frames) (stack_is s) f

abbrev cost_is : ℕ → ℕ → ℕ → Budgets → Type 0
cost_is s f c = After (λ b. b.cost) (frames_are s f) c

budgets_stop : (at : ℕ) (left : List ℕ) (fault : ImageFault) → IsBytes left → budgets_at (cursor at left) ≡ Err fault → Stop budgets_bytes budgets_fields BudgetsFit at left fault
unfolding budgets_at budgets_bytes
budgets_stop =
    chain16 0 32 (omega arith) (omega arith) budgets_bytes budgets_fields BudgetsFit
    (record {
      first = λ b. b.stack;
      rest = after_stack;
      others = λ b. number w16 b.frames ∷ number w32 b.cost ∷ number w16 b.commands ∷ [];
      text_is = λ b g. refl;
      fields_are = λ b g. refl;
      good = λ b g. (omega arith, g.stack);
      whole = λ n g. (record { stack = n; frames = 0; cost = 0; commands = 0 }, record { stack = g.1; frames = omega arith; cost = omega arith; commands = omega arith }, refl);
    })
    budgets_2
    (λ s gs. chain16 0 32 (omega arith) (omega arith) after_stack (λ b. number w16 b.frames ∷ number w32 b.cost ∷ number w16 b.commands ∷ []) (stack_is s)
    (record {
      first = λ b. b.frames;
      rest = after_frames;
      others = λ b. number w32 b.cost ∷ number w16 b.commands ∷ [];
      text_is = λ b g. refl;
      fields_are = λ b g. refl;
      good = λ b g. (omega arith, g.0.frames);
      whole = λ n g. (record { stack = s; frames = n; cost = 0; commands = 0 }, (record { stack = gs.1; frames = g.1; cost = omega arith; commands = omega arith }, refl), refl);
    })
    (budgets_3 s)
    (λ f gf. chain32 0 300000 (omega arith) (omega arith) after_frames (λ b. number w32 b.cost ∷ number w16 b.commands ∷ []) (frames_are s f)
    (record {
      first = λ b. b.cost;
      rest = λ b. to_be_bytes w16 b.commands;
      others = λ b. number w16 b.commands ∷ [];
      text_is = λ b g. refl;
      fields_are = λ b g. refl;
      good = λ b g. (omega arith, g.0.0.cost);
      whole = λ n g. (record { stack = s; frames = f; cost = n; commands = 0 }, ((record { stack = gs.1; frames = gf.1; cost = g.1; commands = omega arith }, refl), refl), refl);
    })
    (budgets_4 s f)
    (λ c gc. chain16 0 64 (omega arith) (omega arith) (λ b. to_be_bytes w16 b.commands) (λ b. number w16 b.commands ∷ []) (cost_is s f c)
    (record {
      first = λ b. b.commands;
      rest = λ b. [];
      others = λ b. [];
      text_is = λ b g. refl;
      fields_are = λ b g. refl;
      good = λ b g. (omega arith, g.0.0.0.commands);
      whole = λ n g. (record { stack = s; frames = f; cost = c; commands = n }, (((record { stack = gs.1; frames = gf.1; cost = gc.1; commands = g.1 }, refl), refl), refl), refl);
    })
    (λ n p. Ok (record { stack = s; frames = f; cost = c; commands = n }, p))
    (λ n g at left fault fits e. absurd cc))))

pub budgets_part : Part budgets_at budgets_bytes budgets_fields BudgetsFit
unfolding budgets_bytes
budgets_part = record { is_field = budgets_field; spells = λ b. refl; stops = budgets_stop }

-- ---- counts

abbrev counts_5 : ℕ → ℕ → ℕ → ℕ → Cursor → Read Counts
counts_5 i t c s p = number_within w16 0 1024 p >>= λ routines. Ok (record { interfaces = i; tests = t; commands = c; states = s; routines = routines.0 }, routines.1)

abbrev counts_4 : ℕ → ℕ → ℕ → Cursor → Read Counts
counts_4 i t c p = number_within w16 1 256 p >>= λ states. counts_5 i t c states.0 states.1

abbrev counts_3 : ℕ → ℕ → Cursor → Read Counts
counts_3 i t p = number_within w16 0 1024 p >>= λ commands. counts_4 i t commands.0 commands.1

abbrev counts_2 : ℕ → Cursor → Read Counts
counts_2 i p = number_within w16 0 64 p >>= λ tests. counts_3 i tests.0 tests.1

abbrev after_interfaces : Counts → List ℕ
after_interfaces c = to_be_bytes w16 c.tests ++ (to_be_bytes w16 c.commands ++ (to_be_bytes w16 c.states ++ to_be_bytes w16 c.routines))

abbrev after_tests : Counts → List ℕ
after_tests c = to_be_bytes w16 c.commands ++ (to_be_bytes w16 c.states ++ to_be_bytes w16 c.routines)

abbrev after_commands : Counts → List ℕ
after_commands c = to_be_bytes w16 c.states ++ to_be_bytes w16 c.routines

abbrev interfaces_are : ℕ → Counts → Type 0
interfaces_are i = After (λ c. c.interfaces) CountsGood i

abbrev tests_are : ℕ → ℕ → Counts → Type 0
tests_are i t = After (λ c. c.tests) (interfaces_are i) t

abbrev commands_are : ℕ → ℕ → ℕ → Counts → Type 0
commands_are i t c = After (λ c. c.commands) (tests_are i t) c

abbrev states_are : ℕ → ℕ → ℕ → ℕ → Counts → Type 0
states_are i t c s = After (λ c. c.states) (commands_are i t c) s

counts_stop : (at : ℕ) (left : List ℕ) (fault : ImageFault) → IsBytes left → counts_at (cursor at left) ≡ Err fault → Stop counts_bytes counts_fields CountsGood at left fault
unfolding counts_at counts_bytes
counts_stop =
    chain16 0 64 (omega arith) (omega arith) counts_bytes counts_fields CountsGood
    (record {
      first = λ c. c.interfaces;
      rest = after_interfaces;
      others = λ c. number w16 c.tests ∷ number w16 c.commands ∷ number w16 c.states ∷ number w16 c.routines ∷ [];
      text_is = λ c g. refl;
      fields_are = λ c g. refl;
      good = λ c g. (omega arith, g.interfaces);
      whole = λ n g. (record { interfaces = n; tests = 0; commands = 0; states = 1; routines = 0 }, record { interfaces = g.1; tests = omega arith; commands = omega arith; some_state = omega arith; states = omega arith; routines = omega arith }, refl);
    })
    counts_2
    (λ i gi. chain16 0 64 (omega arith) (omega arith) after_interfaces (λ c. number w16 c.tests ∷ number w16 c.commands ∷ number w16 c.states ∷ number w16 c.routines ∷ []) (interfaces_are i)
    (record {
      first = λ c. c.tests;
      rest = after_tests;
      others = λ c. number w16 c.commands ∷ number w16 c.states ∷ number w16 c.routines ∷ [];
      text_is = λ c g. refl;
      fields_are = λ c g. refl;
      good = λ c g. (omega arith, g.0.tests);
      whole = λ n g. (record { interfaces = i; tests = n; commands = 0; states = 1; routines = 0 }, (record { interfaces = gi.1; tests = g.1; commands = omega arith; some_state = omega arith; states = omega arith; routines = omega arith }, refl), refl);
    })
    (counts_3 i)
    (λ t gt. chain16 0 1024 (omega arith) (omega arith) after_tests (λ c. number w16 c.commands ∷ number w16 c.states ∷ number w16 c.routines ∷ []) (tests_are i t)
    (record {
      first = λ c. c.commands;
      rest = after_commands;
      others = λ c. number w16 c.states ∷ number w16 c.routines ∷ [];
      text_is = λ c g. refl;
      fields_are = λ c g. refl;
      good = λ c g. (omega arith, g.0.0.commands);
      whole = λ n g. (record { interfaces = i; tests = t; commands = n; states = 1; routines = 0 }, ((record { interfaces = gi.1; tests = gt.1; commands = g.1; some_state = omega arith; states = omega arith; routines = omega arith }, refl), refl), refl);
    })
    (counts_4 i t)
    (λ m gm. chain16 1 256 (omega arith) (omega arith) after_commands (λ c. number w16 c.states ∷ number w16 c.routines ∷ []) (commands_are i t m)
    (record {
      first = λ c. c.states;
      rest = λ c. to_be_bytes w16 c.routines;
      others = λ c. number w16 c.routines ∷ [];
      text_is = λ c g. refl;
      fields_are = λ c g. refl;
      good = λ c g. (g.0.0.0.some_state, g.0.0.0.states);
      whole = λ n g. (record { interfaces = i; tests = t; commands = m; states = n; routines = 0 }, (((record { interfaces = gi.1; tests = gt.1; commands = gm.1; some_state = g.0; states = g.1; routines = omega arith }, refl), refl), refl), refl);
    })
    (counts_5 i t m)
    (λ s gs. chain16 0 1024 (omega arith) (omega arith) (λ c. to_be_bytes w16 c.routines) (λ c. number w16 c.routines ∷ []) (states_are i t m s)
    (record {
      first = λ c. c.routines;
      rest = λ c. [];
      others = λ c. [];
      text_is = λ c g. refl;
      fields_are = λ c g. refl;
      good = λ c g. (omega arith, g.0.0.0.0.routines);
      whole = λ n g. (record { interfaces = i; tests = t; commands = m; states = s; routines = n }, ((((record { interfaces = gi.1; tests = gt.1; commands = gm.1; some_state = gs.0; states = gs.1; routines = g.1 }, refl), refl), refl), refl), refl);
    })
    (λ n p. Ok (record { interfaces = i; tests = t; commands = m; states = s; routines = n }, p))
    (λ n g at left fault fits e. absurd cc)))))

pub counts_part : Part counts_at counts_bytes counts_fields CountsGood
unfolding counts_bytes
counts_part = record { is_field = counts_field; spells = λ c. refl; stops = counts_stop }

-- ---- handlers

abbrev handlers_3 : ℕ → ℕ → Cursor → Read Handlers
handlers_3 i b p = number_at w64 p >>= λ mask. Ok (record { init = record { 0 = i }; body = record { 0 = b }; mask = mask.0 }, mask.1)

abbrev handlers_2 : ℕ → Cursor → Read Handlers
handlers_2 i p = number_at w16 p >>= λ body. handlers_3 i body.0 body.1

abbrev init_is : ℕ → Handlers → Type 0
init_is i = After (λ h. h.init.0) HandlersInRange i

abbrev body_is : ℕ → ℕ → Handlers → Type 0
body_is i b = After (λ h. h.body.0) (init_is i) b

handlers_stop : (at : ℕ) (left : List ℕ) (fault : ImageFault) → IsBytes left → handlers_at (cursor at left) ≡ Err fault → Stop handlers_bytes handlers_fields HandlersInRange at left fault
unfolding handlers_at handlers_bytes
handlers_stop =
    stop_chain (number_at w16) (to_be_bytes w16) (λ n. number w16 n ∷ []) (λ n. n < 2 ^ 16) handlers_bytes handlers_fields HandlersInRange number16
    (record {
      first = λ h. h.init.0;
      rest = λ h. to_be_bytes w16 h.body.0 ++ to_be_bytes w64 h.mask;
      others = λ h. number w16 h.body.0 ∷ number w64 h.mask ∷ [];
      text_is = λ h g. refl;
      fields_are = λ h g. refl;
      good = λ h g. g.init;
      whole = λ n g. (record { init = record { 0 = n }; body = record { 0 = 0 }; mask = 0 }, record { init = g; body = omega arith; mask = omega arith }, refl);
    })
    handlers_2
    (λ i gi. stop_chain (number_at w16) (to_be_bytes w16) (λ n. number w16 n ∷ []) (λ n. n < 2 ^ 16) (λ h. to_be_bytes w16 h.body.0 ++ to_be_bytes w64 h.mask) (λ h. number w16 h.body.0 ∷ number w64 h.mask ∷ []) (init_is i) number16
    (record {
      first = λ h. h.body.0;
      rest = λ h. to_be_bytes w64 h.mask;
      others = λ h. number w64 h.mask ∷ [];
      text_is = λ h g. refl;
      fields_are = λ h g. refl;
      good = λ h g. g.0.body;
      whole = λ n g. (record { init = record { 0 = i }; body = record { 0 = n }; mask = 0 }, (record { init = gi; body = g; mask = omega arith }, refl), refl);
    })
    (handlers_3 i)
    (λ b gb. stop_chain (number_at w64) (to_be_bytes w64) (λ n. number w64 n ∷ []) (λ n. n < 2 ^ 64) (λ h. to_be_bytes w64 h.mask) (λ h. number w64 h.mask ∷ []) (body_is i b) number64
    (record {
      first = λ h. h.mask;
      rest = λ h. [];
      others = λ h. [];
      text_is = λ h g. refl;
      fields_are = λ h g. refl;
      good = λ h g. g.0.0.mask;
      whole = λ n g. (record { init = record { 0 = i }; body = record { 0 = b }; mask = n }, ((record { init = gi; body = gb; mask = g }, refl), refl), refl);
    })
    (λ n p. Ok (record { init = record { 0 = i }; body = record { 0 = b }; mask = n }, p))
    (λ n g at left fault fits e. absurd cc)))

pub handlers_part : Part handlers_at handlers_bytes handlers_fields HandlersInRange
unfolding handlers_bytes
handlers_part = record { is_field = handlers_field; spells = λ h. refl; stops = handlers_stop }

-- ---- texts

IsText-true : (t : List ℕ) → IsText t → is_text t ≡ true
unfolding is_text
IsText-true t is = rw (is_utf8-from_IsUtf8 t is.utf8, free_nul t is.no_nul) refl

IsText-from : (t : List ℕ) → is_text t ≡ true → IsText t
IsText-from t e = let parts = text_parts t e in record { utf8 = parts.0; no_nul = parts.1 }

-- A length that is said is the number there.
said_is : (left : List ℕ) (n : ℕ) → SaysLength left n → from_be_bytes w16 (take 2 left) ≡ n
said_is left n says = ap (from_be_bytes w16) says.bytes_are ∙ from_be_bytes-to_be_bytes_2 n (omega (arith, says.most))

pub same_length : (left : List ℕ) (n m : ℕ) → SaysLength left n → SaysLength left m → n ≡ m
same_length left n m a b = sym (said_is left n a) ∙ said_is left m b

length_fails : (at : ℕ) (left : List ℕ) (fault : ImageFault) → length_at (cursor at left) ≡ Err fault → IsShort 2 at left fault ⊎ (HasNoLength at left fault 2 × (2 ≤ length left))
unfolding length_at
length_fails at left fault e =
    bind_err (number_at w16 (cursor at left)) (λ n. cond ((n.0 == 0) || ltb 1024 n.0) (Err (BadText at)) (Ok n)) fault (IsShort 2 at left fault ⊎ (HasNoLength at left fault 2 × (2 ≤ length left))) e
    (λ failed. inl (number_short w16 at left fault failed))
    (λ y went later.
    let t = number_took w16 at left y went in
    let g = guard_err ((y.0 == 0) || ltb 1024 y.0) (BadText at) y fault later in
    inr (
      record {
        none = λ n says.
            let is : y.0 ≡ n = t.1 ∙ said_is left n says in
            elim (or_cases (y.0 == 0) (ltb 1024 y.0) g.0) [
              | inl zero_is ↦ let e0 : y.0 ≡ 0 = eqb-true y.0 0 zero_is in omega (arith, says.least, is, e0)
              | inr more ↦ let lt : 1024 < y.0 = ltb-true 1024 y.0 more in omega (arith, says.most, is, lt)
            ];
        is = (g.1, refl);
      },
      t.0,
    ))

sized_fails : (n at : ℕ) (left : List ℕ) (fault : ImageFault) → text_sized n (cursor at left) ≡ Err fault → ((length left < n) × (fault ≡ Truncated at)) ⊎ ((n ≤ length left) × (IsText (take n left) → ⊥) × (fault ≡ BadText at))
unfolding text_sized
sized_fails n at left fault e =
    bind_err (bytes_at n (cursor at left)) (λ bytes. cond (is_text bytes.0) (Ok bytes) (Err (BadText at))) fault (((length left < n) × (fault ≡ Truncated at)) ⊎ ((n ≤ length left) × (IsText (take n left) → ⊥) × (fault ≡ BadText at))) e
    (λ failed. inl (bytes_fail n at left fault failed))
    (λ y went later.
    let t = bytes_took n at left y went in
    let g = passed_err (is_text y.0) (BadText at) y fault later in
    let bytes : y.0 ≡ take n left = ap (λ (z : List ℕ × Cursor). z.0) t.is in
    inr (t.long, λ is. both_ways (is_text y.0) g.0 (IsText-true y.0 (subst IsText (sym bytes) is)), g.1))

-- A length was read.
record TookLength (at : ℕ) (left : List ℕ) (y : ℕ × Cursor) : Type 0 where
  says : SaysLength left y.0
  after : y.1 ≡ cursor (at + 2) (drop 2 left)
  long : 2 ≤ length left
  fits : IsBytes (drop 2 left)

length_took : (at : ℕ) (left : List ℕ) (y : ℕ × Cursor) → IsBytes left → length_at (cursor at left) ≡ Ok y → TookLength at left y
length_took at left y fits e =
    let t = took_value length_at (to_be_bytes w16) (λ n. (1 ≤ n) × (n ≤ 1024)) length_field at left y fits e in
    let rest : y.1.left ≡ drop 2 left = sym (ap (drop 2) t.parts ∙ drop_at (to_be_bytes w16 y.0) y.1.left 2 refl) in
    record {
      says = record { least = t.good.0; most = t.good.1; bytes_are = ap (take 2) t.parts ∙ take_at (to_be_bytes w16 y.0) y.1.left 2 refl };
      after = t.after ∙ ap (λ (b : List ℕ). cursor (at + 2) b) rest;
      long = omega (arith, ap length t.parts, length-append (to_be_bytes w16 y.0) y.1.left);
      fits = subst IsBytes rest t.rest_fits;
    }

-- Why a text cannot be read: it is cut, it has no length, or its bytes are no text.
data TextWhy (at : ℕ) (left : List ℕ) (fault : ImageFault) : Type 0 where
  Cut : IsShort 2 at left fault ⊎ IsShortText at left fault → TextWhy at left fault
  NoLength : HasNoLength at left fault 2 → 2 ≤ length left → TextWhy at left fault
  NoText : (n : ℕ) → SaysLength left n → 2 + n ≤ length left → (IsText (take n (drop 2 left)) → ⊥) → fault ≡ BadText (at + 2) → TextWhy at left fault

sized_why : (at n : ℕ) (left : List ℕ) (fault : ImageFault) → SaysLength left n → 2 ≤ length left → text_sized n (cursor (at + 2) (drop 2 left)) ≡ Err fault → TextWhy at left fault
sized_why at n left fault says long e =
    elim (sized_fails n (at + 2) (drop 2 left) fault e) [
      | inl short ↦ Cut (inr (record { n = n; says = says; short = omega (arith, short.0, length-drop 2 left, long); fault_is = short.1 }))
      | inr other ↦ NoText n says (omega (arith, other.0, length-drop 2 left, long)) other.1 other.2
    ]

text_why : (at : ℕ) (left : List ℕ) (fault : ImageFault) → IsBytes left → text_at (cursor at left) ≡ Err fault → TextWhy at left fault
unfolding text_at
text_why at left fault fits e =
    bind_err (length_at (cursor at left)) (λ n. text_sized n.0 n.1) fault (TextWhy at left fault) e
    (λ failed. elim (length_fails at left fault failed) [
      | inl short ↦ Cut (inl short)
      | inr none ↦ NoLength none.0 none.1
    ])
    (λ y went later.
    let t = length_took at left y fits went in
    sized_why at y.0 left fault t.says t.long (ap (text_sized y.0) (sym t.after) ∙ later))

text_says : (y : List ℕ) (rest : List ℕ) → TextGood y → SaysLength (text_bytes y ++ rest) (length y)
unfolding text_bytes
text_says y rest good = record {
  least = good.fits.not_empty;
  most = good.fits.within;
  bytes_are = ap (take 2) (append_assoc (to_be_bytes w16 (length y)) y rest) ∙ take_at (to_be_bytes w16 (length y)) (y ++ rest) 2 refl;
}

length-of_text : (y : List ℕ) → length (text_bytes y) ≡ 2 + length y
unfolding text_bytes
length-of_text y = omega (arith, length-append (to_be_bytes w16 (length y)) y)

text_shape : (y : List ℕ) → TextGood y → HasLength (text_bytes y)
text_shape y good = record {
  n = length y;
  says = subst (λ (b : List ℕ). SaysLength b (length y)) (append-nil (text_bytes y)) (text_says y [] good);
  length_is = length-of_text y;
}

-- What begins with the bytes of a text says its length.
says_of : (left : List ℕ) (n : ℕ) (y rest : List ℕ) → TextGood y → 2 ≤ n → n ≤ length left → text_bytes y ≡ take n left ++ rest → SaysLength left (length y)
says_of left n y rest good two le e =
    let s = text_says y [] good in
    let same : take 2 (text_bytes y ++ []) ≡ take 2 left =
    ap (take 2) (append-nil (text_bytes y) ∙ e) ∙ take-append-le 2 (take n left) rest (omega (arith, length-take n left, le)) ∙ take-take 2 n left two in
    record { least = s.least; most = s.most; bytes_are = sym same ∙ s.bytes_are }

-- No good text begins with bytes that show that there is none.
text_shows : (kind : FieldKind) (Good : List ℕ → Type 0) → ((y : List ℕ) → Good y → TextGood y) → (at : ℕ) (left : List ℕ) (fault : ImageFault) → ((y rest : List ℕ) → Good y → left ≡ text_bytes y ++ rest → ⊥)
    → (n : ℕ) → SaysLength left n → 2 + n ≤ length left → IsWrong kind at left fault (2 + n) → Shows text_bytes Good kind at left fault
text_shows kind Good is_text_good at left fault unread n says long wrong = record {
  shown = 2 + n;
  wrong = wrong;
  inside = long;
  never = λ y rest good e.
      let own = says_of left (2 + n) y rest (is_text_good y good) (omega arith) long e in
      let same : length y ≡ n = same_length left (length y) n own says in
      all_shown text_bytes Good left unread (2 + n) long y rest good (length-of_text y ∙ ap (λ (k : ℕ). 2 + k) same) e;
}

no_length_shows : (kind : FieldKind) (Good : List ℕ → Type 0) → ((y : List ℕ) → Good y → TextGood y) → (at : ℕ) (left : List ℕ) (fault : ImageFault) → HasNoLength at left fault 2 → 2 ≤ length left → IsWrong kind at left fault 2 → Shows text_bytes Good kind at left fault
no_length_shows kind Good is_text_good at left fault none long wrong = record {
  shown = 2;
  wrong = wrong;
  inside = long;
  never = λ y rest good e. none.none (length y) (says_of left 2 y rest (is_text_good y good) (omega arith) long e);
}

-- A letter is a good text, and so are letters.
letters_good : (t : List ℕ) → 1 ≤ length t → length t ≤ 1024 → ((i : ℕ) → i < length t → (1 ≤ get_or t i 0) × (get_or t i 0 < 128)) → TextGood t
letters_good t some few letters = record {
  fits = record {
    not_empty = some;
    within = few;
    no_nul = λ k d lt at. omega (arith, (letters k lt).0, sym (get_or_default t k d 0 lt) ∙ at);
  };
  utf8 = IsUtf8-from_ascii t (λ i. elim (cases_lt i (length t)) [
    | inl lt ↦ (letters i lt).1
    | inr past ↦ let e : get_or t i 0 ≡ 0 = get_or_past t i 0 past in omega (arith, e)
  ]);
}

-- ---- a text

letter_at : (i : ℕ) → i < 1 → (1 ≤ get_or (97 ∷ []) i 0) × (get_or (97 ∷ []) i 0 < 128)
letter_at zero lt = (omega arith, omega arith)
letter_at (suc i) lt = absurd (omega (arith, lt))

pub letter : List ℕ
letter = 97 ∷ []

pub letter_good : TextGood letter
unfolding letter
letter_good = letters_good (97 ∷ []) (omega arith) (omega arith) letter_at

text_breaks : (at : ℕ) (left : List ℕ) (fault : ImageFault) → ((y rest : List ℕ) → TextGood y → left ≡ text_bytes y ++ rest → ⊥) → TextWhy at left fault → IsCut Text at left fault ⊎ Shows text_bytes TextGood Text at left fault
text_breaks at left fault unread (Cut c) = inl c
text_breaks at left fault unread (NoLength none long) = inr (no_length_shows Text TextGood (λ y g. g) at left fault none long (inl none))
text_breaks at left fault unread (NoText n says long never is) = inr (text_shows Text TextGood (λ y g. g) at left fault unread n says long (inr (record { n = n; says = says; no_text = never; is = (is, refl) })))

pub text_part : Part text_at text_bytes text_fields TextGood
text_part = record {
  is_field = text_field;
  spells = λ y. append-nil (text_bytes y);
  stops = λ at left fault fits e.
      let unread = unread_by text_at text_bytes TextGood text_field at left fault e in
      record {
        n = 0;
        kind = Text;
        inside = omega arith;
        x = letter;
        good = letter_good;
        more = text_bytes letter;
        begins = refl;
        each = λ y rest good _. stands_alone Text (text_bytes y) (text_shape y good);
        unread = unread;
        why = why_here text_bytes TextGood Text at left fault (text_breaks at left fault unread (text_why at left fault fits e));
      };
}

-- ---- a name that no earlier entry has

-- Another letter than this one.
other_letter : ℕ → ℕ
other_letter c = cond (c == 97) 98 97

is_other : (c : ℕ) → other_letter c ≡ c → ⊥
unfolding other_letter
is_other c e =
    elim (cases_Bool (c == 97)) [
      | inl t ↦ let is : c ≡ 97 = eqb-true c 97 t in let other : ◌≡◌ {A = ℕ} (cond (c == 97) 98 97) 98 = cond-true (c == 97) 98 97 t in omega (arith, is, other, e)
      | inr f ↦ let other : ◌≡◌ {A = ℕ} (cond (c == 97) 98 97) 97 = cond-false (c == 97) 98 97 f in eqb-false c 97 f (sym e ∙ other)
    ]

is_letter : (c : ℕ) → (1 ≤ other_letter c) × (other_letter c < 128)
unfolding other_letter
is_letter c = cond_both (c == 97) 98 97 (λ x. (1 ≤ x) × (x < 128)) (λ _. (omega arith, omega arith)) (λ _. (omega arith, omega arith))

-- A text with another letter than each of these names has at its place.
diagonal : ℕ → List (List ℕ) → List ℕ
diagonal i [] = 97 ∷ []
diagonal i (name ∷ names) = other_letter (get_or name i 0) ∷ diagonal (i + 1) names

length-diagonal : (i : ℕ) (names : List (List ℕ)) → length (diagonal i names) ≡ suc (length names)
unfolding diagonal
length-diagonal i [] = refl
length-diagonal i (name ∷ names) = ap suc (length-diagonal (i + 1) names)

diagonal_at : (i : ℕ) (names : List (List ℕ)) (j : ℕ) (d : List ℕ) → j < length names → get_or (diagonal i names) j 0 ≡ other_letter (get_or (get_or names j d) (i + j) 0)
unfolding diagonal
diagonal_at i [] j d lt = absurd (omega (arith, lt))
diagonal_at i (name ∷ names) zero d lt = ap (λ (k : ℕ). other_letter (get_or name k 0)) (omega arith)
diagonal_at i (name ∷ names) (suc j) d lt = diagonal_at (i + 1) names j d (omega (arith, lt)) ∙ ap (λ (k : ℕ). other_letter (get_or (get_or names j d) k 0)) (omega arith)

diagonal_letters : (i : ℕ) (names : List (List ℕ)) (k : ℕ) → k < length (diagonal i names) → (1 ≤ get_or (diagonal i names) k 0) × (get_or (diagonal i names) k 0 < 128)
unfolding diagonal
diagonal_letters i [] k lt = letter_at k lt
diagonal_letters i (name ∷ names) zero lt = is_letter (get_or name i 0)
diagonal_letters i (name ∷ names) (suc k) lt = diagonal_letters (i + 1) names k (omega (arith, lt))

pub fresh : List (List ℕ) → List ℕ
fresh names = diagonal 0 names

abbrev pub NameGood : List (List ℕ) → List ℕ → Type 0
NameGood before t = TextGood t × (stands_in t before ≡ false)

fresh_absent : (names : List (List ℕ)) → stands_in (fresh names) names ≡ false
unfolding fresh
fresh_absent names =
    let name = diagonal 0 names in
    false_from_ne_true (stands_in name names) (λ e.
    let found = (stands_in-Decides name names).0 e in
    let k = found.0 in
    let at : get_or name k 0 ≡ other_letter (get_or (get_or names k name) (0 + k) 0) = diagonal_at 0 names k name found.1 in
    let same : get_or (get_or names k name) (0 + k) 0 ≡ get_or name k 0 = ap (λ (t : List ℕ). get_or t (0 + k) 0) found.2 ∙ ap (λ (i : ℕ). get_or name i 0) (omega arith) in
    is_other (get_or name k 0) (sym (at ∙ ap other_letter same)))

pub fresh_good : (names : List (List ℕ)) → length names < 1024 → NameGood names (fresh names)
unfolding fresh
fresh_good names few =
    let long = length-diagonal 0 names in
    (letters_good (diagonal 0 names) (omega (arith, long)) (omega (arith, long, few)) (diagonal_letters 0 names), fresh_absent names)

-- ---- a name

sized_text : (n at : ℕ) (left : List ℕ) (y : List ℕ × Cursor) → text_sized n (cursor at left) ≡ Ok y → (n ≤ length left) × IsText (take n left)
unfolding text_sized
sized_text n at left y e =
    let b = bind_ok (bytes_at n (cursor at left)) (λ bytes. cond (is_text bytes.0) (Ok bytes) (Err (BadText at))) y e in
    let t = bytes_took n at left b.0 b.1 in
    let g = passed_ok (is_text b.0.0) (BadText at) b.0 y b.2 in
    let bytes : b.0.0 ≡ take n left = ap (λ (z : List ℕ × Cursor). z.0) t.is in
    (t.long, IsText-from (take n left) (ap is_text (sym bytes) ∙ g.0))

-- Why a name cannot be read: as a text, or since an earlier entry has it.
data NameWhy (at : ℕ) (left : List ℕ) (fault : ImageFault) : Type 0 where
  AsText : TextWhy at left fault → NameWhy at left fault
  Repeated : (n : ℕ) → SaysLength left n → 2 + n ≤ length left → IsText (take n (drop 2 left)) → fault ≡ RepeatedName (at + 2) → NameWhy at left fault

name_why : (before : List (List ℕ)) (at : ℕ) (left : List ℕ) (fault : ImageFault) → IsBytes left → name_at before (cursor at left) ≡ Err fault → NameWhy at left fault
unfolding name_at
name_why before at left fault fits e =
    bind_err (length_at (cursor at left)) (λ n. text_sized n.0 n.1 >>= λ name. cond (stands_in name.0 before) (Err (RepeatedName n.1.at)) (Ok name)) fault (NameWhy at left fault) e
    (λ failed. elim (length_fails at left fault failed) [
      | inl short ↦ AsText (Cut (inl short))
      | inr none ↦ AsText (NoLength none.0 none.1)
    ])
    (λ y went later.
    let t = length_took at left y fits went in
    bind_err (text_sized y.0 y.1) (λ name. cond (stands_in name.0 before) (Err (RepeatedName y.1.at)) (Ok name)) fault (NameWhy at left fault) later
    (λ failed. AsText (sized_why at y.0 left fault t.says t.long (ap (text_sized y.0) (sym t.after) ∙ failed)))
    (λ z read last.
    let g = guard_err (stands_in z.0 before) (RepeatedName y.1.at) z fault last in
    let s = sized_text y.0 (at + 2) (drop 2 left) z (ap (text_sized y.0) (sym t.after) ∙ read) in
    Repeated y.0 t.says (omega (arith, s.0, length-drop 2 left, t.long)) s.1 (g.1 ∙ ap (λ (c : Cursor). RepeatedName c.at) t.after)))

name_breaks : (Good : List ℕ → Type 0) → ((y : List ℕ) → Good y → TextGood y) → (at : ℕ) (left : List ℕ) (fault : ImageFault) → ((y rest : List ℕ) → Good y → left ≡ text_bytes y ++ rest → ⊥) → NameWhy at left fault → IsCut Name at left fault ⊎ Shows text_bytes Good Name at left fault
name_breaks Good weaker at left fault unread (AsText (Cut c)) = inl c
name_breaks Good weaker at left fault unread (AsText (NoLength none long)) = inr (no_length_shows Name Good weaker at left fault none long (inl none))
name_breaks Good weaker at left fault unread (AsText (NoText n says long never is)) = inr (text_shows Name Good weaker at left fault unread n says long (inr (inl (record { n = n; says = says; no_text = never; is = (is, refl) }))))
name_breaks Good weaker at left fault unread (Repeated n says long text is) = inr (text_shows Name Good weaker at left fault unread n says long (inr (inr (record { n = n; says = says; text = text; is = (is, refl) }))))

pub name_part : (before : List (List ℕ)) → length before < 1024 → Part (name_at before) text_bytes name_fields (NameGood before)
name_part before few = record {
  is_field = name_field before;
  spells = λ y. append-nil (text_bytes y);
  stops = λ at left fault fits e.
      let unread = unread_by (name_at before) text_bytes (NameGood before) (name_field before) at left fault e in
      record {
        n = 0;
        kind = Name;
        inside = omega arith;
        x = fresh before;
        good = fresh_good before few;
        more = text_bytes (fresh before);
        begins = refl;
        each = λ y rest good _. stands_alone Name (text_bytes y) (text_shape y good.0);
        unread = unread;
        why = why_here text_bytes (NameGood before) Name at left fault (name_breaks (NameGood before) (λ y g. g.0) at left fault unread (name_why before at left fault fits e));
      };
}

-- ---- tests and states

abbrev test_2 : ℕ → Cursor → Read TestSpec
test_2 n p = text_at p >>= λ text. Ok (record { period = n; text = text.0 }, text.1)

test_stop : (at : ℕ) (left : List ℕ) (fault : ImageFault) → IsBytes left → test_at (cursor at left) ≡ Err fault → Stop test_bytes test_fields TestGood at left fault
unfolding test_at test_bytes
test_stop =
    chain32 1 604800 (omega arith) (omega arith) test_bytes test_fields TestGood
    (record {
      first = λ t. t.period;
      rest = λ t. text_bytes t.text;
      others = λ t. text_fields t.text;
      text_is = λ t g. refl;
      fields_are = λ t g. refl;
      good = λ t g. (g.fits.period.not_zero, g.fits.period.within);
      whole = λ n g. (record { period = n; text = letter }, record { fits = record { period = record { not_zero = g.0; within = g.1 }; text = letter_good.fits }; utf8 = letter_good.utf8 }, refl);
    })
    test_2
    (λ n gn. stop_chain text_at text_bytes text_fields TextGood (λ t. text_bytes t.text) (λ t. text_fields t.text) (After (λ t. t.period) TestGood n) text_part
    (record {
      first = λ t. t.text;
      rest = λ t. [];
      others = λ t. [];
      text_is = λ t g. sym (append-nil (text_bytes t.text));
      fields_are = λ t g. refl;
      good = λ t g. record { fits = g.0.fits.text; utf8 = g.0.utf8 };
      whole = λ x g. (record { period = n; text = x }, (record { fits = record { period = record { not_zero = gn.0; within = gn.1 }; text = g.fits }; utf8 = g.utf8 }, refl), refl);
    })
    (λ x p. Ok (record { period = n; text = x }, p))
    (λ x g at left fault fits e. absurd cc))

pub test_part : Part test_at test_bytes test_fields TestGood
unfolding test_bytes
test_part = record { is_field = test_field; spells = λ t. ap (λ (b : List ℕ). to_be_bytes w32 t.period ++ b) (append-nil (text_bytes t.text)); stops = test_stop }

pub no_handlers : Handlers
no_handlers = record { init = record { 0 = 0 }; body = record { 0 = 0 }; mask = 0 }

pub none_in_range : HandlersInRange no_handlers
unfolding no_handlers
none_in_range = record { init = omega arith; body = omega arith; mask = omega arith }

abbrev state_2 : List ℕ → Cursor → Read StateSpec
state_2 name p = handlers_at p >>= λ handlers. Ok (record { name = name; handlers = handlers.0 }, handlers.1)

state_stop : (before : List StateSpec) → length before < 1024 → (at : ℕ) (left : List ℕ) (fault : ImageFault) → IsBytes left → state_at before (cursor at left) ≡ Err fault → Stop state_bytes state_fields (StateGood before) at left fault
unfolding state_at state_bytes
state_stop before few =
    stop_chain (name_at (names_of before)) text_bytes name_fields (NameGood (names_of before)) state_bytes state_fields (StateGood before) (name_part (names_of before) (omega (arith, few, length-map before (λ (s : StateSpec). s.name))))
    (record {
      first = λ s. s.name;
      rest = λ s. handlers_bytes s.handlers;
      others = λ s. handlers_fields s.handlers;
      text_is = λ s g. refl;
      fields_are = λ s g. refl;
      good = λ s g. (record { fits = g.fits; utf8 = g.in_range.name }, g.first);
      whole = λ x g. (record { name = x; handlers = no_handlers }, record { fits = g.0.fits; in_range = record { name = g.0.utf8; handlers = none_in_range }; first = g.1 }, refl);
    })
    state_2
    (λ name gn. stop_chain handlers_at handlers_bytes handlers_fields HandlersInRange (λ s. handlers_bytes s.handlers) (λ s. handlers_fields s.handlers) (After (λ s. s.name) (StateGood before) name) handlers_part
    (record {
      first = λ s. s.handlers;
      rest = λ s. [];
      others = λ s. [];
      text_is = λ s g. sym (append-nil (handlers_bytes s.handlers));
      fields_are = λ s g. refl;
      good = λ s g. g.0.in_range.handlers;
      whole = λ h g. (record { name = name; handlers = h }, (record { fits = gn.0.fits; in_range = record { name = gn.0.utf8; handlers = g }; first = gn.1 }, refl), refl);
    })
    (λ h p. Ok (record { name = name; handlers = h }, p))
    (λ h g at left fault fits e. absurd cc))

pub state_part : (before : List StateSpec) → length before < 1024 → Part (state_at before) state_bytes state_fields (StateGood before)
unfolding state_bytes handlers_bytes
state_part before few = record { is_field = state_field before; spells = λ s. refl; stops = state_stop before few }
