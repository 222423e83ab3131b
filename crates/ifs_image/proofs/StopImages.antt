-- Where reading an image stops: the first fault of bytes.
use Rattle.std.proofs.Common.{◌≡◌, ◌≢◌, ℕ, ◌+◌, ◌^◌, ◌<◌, cond, List, [], ◌∷◌, ◌++◌, length, take, drop}
use Rattle.std.proofs.Common.{Result, Ok, Err, refl, sym, ap, subst, ◌∙◌, append_assoc, arith, inl, inr}
use Rattle.std.specs.Prelude.{◌==◌, codes, IfErr}
use Rattle.std.specs.Int.{w16, to_be_bytes}
use Rattle.std.specs.List.{flat_map}
use Rattle.std.proofs.lemmas.Bool.{eqb-false}
use Rattle.std.proofs.lemmas.List.{take_at, length-append, append-nil}
use Rattle.ifs_base.specs.Results.{◌>>=◌}
use Rattle.ifs_image.specs.declared.fault.ImageFault.{ImageFault}
use Rattle.ifs_image.specs.declared.fault.ImageFault.TheVariants.{Memory, Trailing}
use Rattle.ifs_image.specs.declared.parts.Budgets.{Budgets}
use Rattle.ifs_image.specs.declared.parts.Counts.{Counts}
use Rattle.ifs_image.specs.declared.parts.Head.{Head}
use Rattle.ifs_image.specs.declared.parts.TestSpec.{TestSpec}
use Rattle.ifs_image.specs.declared.parts.StateSpec.{StateSpec}
use Rattle.ifs_image.specs.declared.parts.Routine.{Routine}
use Rattle.ifs_image.specs.declared.parts.ImageParts.{ImageParts}
use Rattle.ifs_image.specs.Limits.{IsVersion, BudgetsFit, CountsFit, Fits, InRange}
use Rattle.ifs_image.specs.Spelling.{front_bytes, budgets_bytes, counts_bytes, handlers_bytes, text_bytes, test_bytes, state_bytes}
use Rattle.ifs_image.specs.Spelling.{routine_bytes, counts, image_bytes}
use Rattle.ifs_image.specs.Reading.{Cursor, cursor, Read, number_at, magic_at, version_at, budgets_at, counts_at, handlers_at}
use Rattle.ifs_image.specs.Reading.{text_at, name_at, test_at, state_at, items_at, routine_after, head_at, parts_at, image_of}
use Rattle.ifs_image.specs.Answers.{Answers}
use Rattle.ifs_image.specs.Fields.{Magic, Version, Field, field, bytes_of, number, text_fields, name_fields, test_fields, state_fields, routine_fields}
use Rattle.ifs_image.specs.Fields.{front_fields, budgets_fields, counts_fields, handlers_fields, image_fields}
use Rattle.ifs_image.specs.Faults.{IsCut, IsWrong, ComesTo, IsFirstFault}
use Rattle.ifs_image.proofs.FieldLaws.{IsBytes, AllAfter, ok_is}
use Rattle.ifs_image.proofs.PartLaws.{TextGood, TestGood, StateGood}
use Rattle.ifs_image.proofs.ImageLaws.{CountsGood, HeadGood, head_bytes, head_field, head_of, good_head, tables_bytes, head_then_tables, IsGood}
use Rattle.ifs_image.proofs.ImageLaws.{TablesGood, tables_from_fits, fits_from_tables, in_range_from_tables, counts_same, parts_taken, parts_again}
use Rattle.ifs_image.proofs.Stops.{Stop, Part, After, bind_err, stop_chain, bytes_of-append}
use Rattle.ifs_image.proofs.StopFields.{number16, magic_part, version_part, passed_err}
use Rattle.ifs_image.proofs.StopParts.{budgets_part, counts_part, handlers_part, no_handlers, none_in_range, NameGood}
use Rattle.ifs_image.proofs.StopTables.{TableGood, interfaces_part, interfaces_fill, tests_part, tests_fill, commands_part, commands_fill}
use Rattle.ifs_image.proofs.StopTables.{states_part, states_fill, routines_part, routines_fill}

-- ---- the fields before the tables

abbrev head_fields : Head → List Field
head_fields h = front_fields h.version ++ budgets_fields h.budgets ++ counts_fields h.counts ++ number w16 h.initial.0 ∷ handlers_fields h.always

no_budgets : Budgets
no_budgets = record { stack = 0; frames = 0; cost = 0; commands = 0 }

no_budgets_fit : BudgetsFit no_budgets
unfolding no_budgets
no_budgets_fit = record { stack = omega arith; frames = omega arith; cost = omega arith; commands = omega arith }

one_state : Counts
one_state = record { interfaces = 0; tests = 0; commands = 0; states = 1; routines = 0 }

one_state_good : CountsGood one_state
unfolding one_state
one_state_good = record { interfaces = omega arith; tests = omega arith; commands = omega arith; some_state = omega arith; states = omega arith; routines = omega arith }

abbrev made_head : ℕ → Budgets → Counts → ℕ → Head
made_head v b c i = record { version = v; budgets = b; counts = c; initial = record { 0 = i }; always = no_handlers }

good_made_head : (v : ℕ) (b : Budgets) (c : Counts) (i : ℕ) → IsVersion v → BudgetsFit b → CountsGood c → i < 2 ^ 16 → HeadGood (made_head v b c i)
good_made_head v b c i gv gb gc gi = record { version = gv; budgets = gb; counts = gc; initial = gi; always = none_in_range }

abbrev head_6 : ℕ → Budgets → Counts → ℕ → Cursor → Read Head
head_6 v b c i p = handlers_at p >>= λ always. Ok (record { version = v; budgets = b; counts = c; initial = record { 0 = i }; always = always.0 }, always.1)

abbrev head_5 : ℕ → Budgets → Counts → Cursor → Read Head
head_5 v b c p = number_at w16 p >>= λ initial. head_6 v b c initial.0 initial.1

abbrev head_4 : ℕ → Budgets → Cursor → Read Head
head_4 v b p = counts_at p >>= λ counts. head_5 v b counts.0 counts.1

abbrev head_3 : ℕ → Cursor → Read Head
head_3 v p = budgets_at p >>= λ budgets. head_4 v budgets.0 budgets.1

abbrev head_2 : Cursor → Read Head
head_2 p = version_at p >>= λ version. head_3 version.0 version.1

abbrev after_counts : Head → List ℕ
after_counts h = to_be_bytes w16 h.initial.0 ++ handlers_bytes h.always

abbrev after_budgets : Head → List ℕ
after_budgets h = counts_bytes h.counts ++ after_counts h

abbrev after_version : Head → List ℕ
after_version h = budgets_bytes h.budgets ++ after_budgets h

abbrev after_magic : Head → List ℕ
after_magic h = (h.version ∷ []) ++ after_version h

abbrev fields_after_counts : Head → List Field
fields_after_counts h = number w16 h.initial.0 ∷ handlers_fields h.always

abbrev fields_after_budgets : Head → List Field
fields_after_budgets h = counts_fields h.counts ++ fields_after_counts h

abbrev fields_after_version : Head → List Field
fields_after_version h = budgets_fields h.budgets ++ fields_after_budgets h

abbrev fields_after_magic : Head → List Field
fields_after_magic h = (field Version (h.version ∷ []) ∷ []) ++ fields_after_version h

abbrev magic_is : Unit {0} → Head → Type 0
magic_is m = After (λ h. tt) HeadGood m

abbrev version_is : Unit {0} → ℕ → Head → Type 0
version_is m v = After (λ h. h.version) (magic_is m) v

abbrev budgets_are : Unit {0} → ℕ → Budgets → Head → Type 0
budgets_are m v b = After (λ h. h.budgets) (version_is m v) b

abbrev counts_are : Unit {0} → ℕ → Budgets → Counts → Head → Type 0
counts_are m v b c = After (λ h. h.counts) (budgets_are m v b) c

abbrev initial_is : Unit {0} → ℕ → Budgets → Counts → ℕ → Head → Type 0
initial_is m v b c i = After (λ h. h.initial.0) (counts_are m v b c) i

always_stop : (m : Unit {0}) (v : ℕ) → IsVersion v → (b : Budgets) → BudgetsFit b → (c : Counts) → CountsGood c → (i : ℕ) → i < 2 ^ 16 → (at : ℕ) (left : List ℕ) (fault : ImageFault) → IsBytes left → head_6 v b c i (cursor at left) ≡ Err fault
    → Stop (λ h. handlers_bytes h.always) (λ h. handlers_fields h.always) (initial_is m v b c i) at left fault
always_stop m v gv b gb c gc i gi =
    stop_chain handlers_at handlers_bytes handlers_fields _ (λ h. handlers_bytes h.always) (λ h. handlers_fields h.always) (initial_is m v b c i) handlers_part
    (record {
      first = λ h. h.always;
      rest = λ h. [];
      others = λ h. [];
      text_is = λ h g. sym (append-nil (handlers_bytes h.always));
      fields_are = λ h g. refl;
      good = λ h g. g.0.0.0.0.0.always;
      whole = λ a g. (record { version = v; budgets = b; counts = c; initial = record { 0 = i }; always = a }, (((((record { version = gv; budgets = gb; counts = gc; initial = gi; always = g }, refl), refl), refl), refl), refl), refl);
    })
    (λ a p. Ok (record { version = v; budgets = b; counts = c; initial = record { 0 = i }; always = a }, p))
    (λ a g at left fault fits e. absurd cc)

initial_stop : (m : Unit {0}) (v : ℕ) → IsVersion v → (b : Budgets) → BudgetsFit b → (c : Counts) → CountsGood c → (at : ℕ) (left : List ℕ) (fault : ImageFault) → IsBytes left → head_5 v b c (cursor at left) ≡ Err fault
    → Stop after_counts fields_after_counts (counts_are m v b c) at left fault
initial_stop m v gv b gb c gc =
    stop_chain (number_at w16) (to_be_bytes w16) (λ n. number w16 n ∷ []) (λ n. n < 2 ^ 16) after_counts fields_after_counts (counts_are m v b c) number16
    (record {
      first = λ h. h.initial.0;
      rest = λ h. handlers_bytes h.always;
      others = λ h. handlers_fields h.always;
      text_is = λ h g. refl;
      fields_are = λ h g. refl;
      good = λ h g. g.0.0.0.0.initial;
      whole = λ n g. (made_head v b c n, ((((good_made_head v b c n gv gb gc g, refl), refl), refl), refl), refl);
    })
    (head_6 v b c)
    (λ i gi. always_stop m v gv b gb c gc i gi)

counts_stop : (m : Unit {0}) (v : ℕ) → IsVersion v → (b : Budgets) → BudgetsFit b → (at : ℕ) (left : List ℕ) (fault : ImageFault) → IsBytes left → head_4 v b (cursor at left) ≡ Err fault
    → Stop after_budgets fields_after_budgets (budgets_are m v b) at left fault
counts_stop m v gv b gb =
    stop_chain counts_at counts_bytes counts_fields CountsGood after_budgets fields_after_budgets (budgets_are m v b) counts_part
    (record {
      first = λ h. h.counts;
      rest = after_counts;
      others = fields_after_counts;
      text_is = λ h g. refl;
      fields_are = λ h g. refl;
      good = λ h g. g.0.0.0.counts;
      whole = λ c g. (made_head v b c 0, (((good_made_head v b c 0 gv gb g (omega arith), refl), refl), refl), refl);
    })
    (head_5 v b)
    (λ c gc. initial_stop m v gv b gb c gc)

budgets_stop : (m : Unit {0}) (v : ℕ) → IsVersion v → (at : ℕ) (left : List ℕ) (fault : ImageFault) → IsBytes left → head_3 v (cursor at left) ≡ Err fault → Stop after_version fields_after_version (version_is m v) at left fault
budgets_stop m v gv =
    stop_chain budgets_at budgets_bytes budgets_fields BudgetsFit after_version fields_after_version (version_is m v) budgets_part
    (record {
      first = λ h. h.budgets;
      rest = after_budgets;
      others = fields_after_budgets;
      text_is = λ h g. refl;
      fields_are = λ h g. refl;
      good = λ h g. g.0.0.budgets;
      whole = λ b g. (made_head v b one_state 0, ((good_made_head v b one_state 0 gv g one_state_good (omega arith), refl), refl), refl);
    })
    (head_4 v)
    (λ b gb. counts_stop m v gv b gb)

version_stop : (m : Unit {0}) (at : ℕ) (left : List ℕ) (fault : ImageFault) → IsBytes left → head_2 (cursor at left) ≡ Err fault → Stop after_magic fields_after_magic (magic_is m) at left fault
version_stop m =
    stop_chain version_at (λ version. version ∷ []) (λ version. field Version (version ∷ []) ∷ []) IsVersion after_magic fields_after_magic (magic_is m) version_part
    (record {
      first = λ h. h.version;
      rest = after_version;
      others = fields_after_version;
      text_is = λ h g. refl;
      fields_are = λ h g. refl;
      good = λ h g. g.0.version;
      whole = λ v g. (made_head v no_budgets one_state 0, (good_made_head v no_budgets one_state 0 g no_budgets_fit one_state_good (omega arith), refl), refl);
    })
    head_3
    (λ v gv. budgets_stop m v gv)

head_stop : (at : ℕ) (left : List ℕ) (fault : ImageFault) → IsBytes left → head_at (cursor at left) ≡ Err fault → Stop head_bytes head_fields HeadGood at left fault
unfolding head_at front_bytes
head_stop =
    stop_chain magic_at (λ _. codes "IFSV") (λ _. field Magic (codes "IFSV") ∷ []) (λ _. Unit {0}) head_bytes head_fields HeadGood magic_part
    (record {
      first = λ h. tt;
      rest = after_magic;
      others = fields_after_magic;
      text_is = λ h g. simp append_assoc;
      fields_are = λ h g. refl;
      good = λ h g. tt;
      whole = λ m g. (made_head 1 no_budgets one_state 0, good_made_head 1 no_budgets one_state 0 (omega arith, omega arith) no_budgets_fit one_state_good (omega arith), refl);
    })
    (λ m p. head_2 p)
    (λ m g. version_stop m)

head_spelled : (h : Head) → bytes_of (head_fields h) ≡ head_bytes h
unfolding front_bytes budgets_bytes counts_bytes handlers_bytes
head_spelled h = refl

head_part : Part head_at head_bytes head_fields HeadGood
head_part = record { is_field = head_field; spells = head_spelled; stops = head_stop }

-- ---- the tables

abbrev pub ImageGood : ImageParts → Type 0
ImageGood p = Fits p × InRange p

abbrev made : Head → List (List ℕ) → List TestSpec → List (List ℕ) → List StateSpec → List Routine → ImageParts
made h is ts cs ss rs = record { version = h.version; budgets = h.budgets; initial = h.initial; always = h.always; interfaces = is; tests = ts; commands = cs; states = ss; routines = rs }

-- Tables that have the counts of a head.
record TablesOf (h : Head) (is : List (List ℕ)) (ts : List TestSpec) (cs : List (List ℕ)) (ss : List StateSpec) (rs : List Routine) : Type 0 where
  interfaces : TableGood NameGood [] h.counts.interfaces is
  tests : TableGood (λ _. TestGood) [] h.counts.tests ts
  commands : TableGood (λ _. TextGood) [] h.counts.commands cs
  states : TableGood StateGood [] h.counts.states ss
  routines : TableGood (IsGood h.version) [] h.counts.routines rs

good_made : (h : Head) → HeadGood h → (is : List (List ℕ)) (ts : List TestSpec) (cs : List (List ℕ)) (ss : List StateSpec) (rs : List Routine) → TablesOf h is ts cs ss rs → ImageGood (made h is ts cs ss rs) × (head_of (made h is ts cs ss rs) ≡ h)
good_made h good is ts cs ss rs t =
    let p = made h is ts cs ss rs in
    let fit : CountsFit p = record {
      interfaces = omega (arith, t.interfaces.0, good.counts.interfaces);
      tests = omega (arith, t.tests.0, good.counts.tests);
      commands = omega (arith, t.commands.0, good.counts.commands);
      some_state = omega (arith, t.states.0, good.counts.some_state);
      states = omega (arith, t.states.0, good.counts.states);
      routines = omega (arith, t.routines.0, good.counts.routines);
    } in
    let tables : TablesGood p = record { interfaces = t.interfaces.1; tests = t.tests.1; commands = t.commands.1; states = t.states.1; routines = t.routines.1 } in
    let same : h.counts ≡ counts p = counts_same h.counts p (sym t.interfaces.0) (sym t.tests.0) (sym t.commands.0) (sym t.states.0) (sym t.routines.0) in
    ((fits_from_tables p good.version good.budgets fit tables, in_range_from_tables p good.initial good.always tables), ap (λ (c : Counts). record h { counts = c }) (sym same))

abbrev head_is : Head → ImageParts → Type 0
head_is h = After head_of ImageGood h

abbrev interfaces_are : Head → List (List ℕ) → ImageParts → Type 0
interfaces_are h is = After (λ p. p.interfaces) (head_is h) is

abbrev tests_are : Head → List (List ℕ) → List TestSpec → ImageParts → Type 0
tests_are h is ts = After (λ p. p.tests) (interfaces_are h is) ts

abbrev commands_are : Head → List (List ℕ) → List TestSpec → List (List ℕ) → ImageParts → Type 0
commands_are h is ts cs = After (λ p. p.commands) (tests_are h is ts) cs

abbrev states_are : Head → List (List ℕ) → List TestSpec → List (List ℕ) → List StateSpec → ImageParts → Type 0
states_are h is ts cs ss = After (λ p. p.states) (commands_are h is ts cs) ss

abbrev parts_6 : Head → List (List ℕ) → List TestSpec → List (List ℕ) → List StateSpec → Cursor → Read ImageParts
parts_6 h is ts cs ss p = items_at (routine_after h.version) h.counts.routines [] p >>= λ routines. Ok (made h is ts cs ss routines.0, routines.1)

abbrev parts_5 : Head → List (List ℕ) → List TestSpec → List (List ℕ) → Cursor → Read ImageParts
parts_5 h is ts cs p = items_at state_at h.counts.states [] p >>= λ states. parts_6 h is ts cs states.0 states.1

abbrev parts_4 : Head → List (List ℕ) → List TestSpec → Cursor → Read ImageParts
parts_4 h is ts p = items_at (λ _. text_at) h.counts.commands [] p >>= λ commands. parts_5 h is ts commands.0 commands.1

abbrev parts_3 : Head → List (List ℕ) → Cursor → Read ImageParts
parts_3 h is p = items_at (λ _. test_at) h.counts.tests [] p >>= λ tests. parts_4 h is tests.0 tests.1

abbrev parts_2 : Head → Cursor → Read ImageParts
parts_2 h p = items_at name_at h.counts.interfaces [] p >>= λ interfaces. parts_3 h interfaces.0 interfaces.1

abbrev routines_bytes : ImageParts → List ℕ
routines_bytes p = flat_map (routine_bytes p.version) p.routines

abbrev states_bytes : ImageParts → List ℕ
states_bytes p = flat_map state_bytes p.states ++ routines_bytes p

abbrev commands_bytes : ImageParts → List ℕ
commands_bytes p = flat_map text_bytes p.commands ++ states_bytes p

abbrev tests_bytes : ImageParts → List ℕ
tests_bytes p = flat_map test_bytes p.tests ++ commands_bytes p

abbrev fields_of_routines : ImageParts → List Field
fields_of_routines p = flat_map (routine_fields p.version) p.routines

abbrev fields_of_states : ImageParts → List Field
fields_of_states p = flat_map state_fields p.states ++ fields_of_routines p

abbrev fields_of_commands : ImageParts → List Field
fields_of_commands p = flat_map text_fields p.commands ++ fields_of_states p

abbrev fields_of_tests : ImageParts → List Field
fields_of_tests p = flat_map test_fields p.tests ++ fields_of_commands p

abbrev fields_of_tables : ImageParts → List Field
fields_of_tables p = flat_map name_fields p.interfaces ++ fields_of_tests p

-- The tables of an image with this head.
tables_with : (h : Head) (p : ImageParts) → head_is h p → TablesOf h p.interfaces p.tests p.commands p.states p.routines
tables_with h p g =
    let t = tables_from_fits p g.0.0 g.0.1 in
    record {
      interfaces = (ap (λ (x : Head). x.counts.interfaces) g.1, t.interfaces);
      tests = (ap (λ (x : Head). x.counts.tests) g.1, t.tests);
      commands = (ap (λ (x : Head). x.counts.commands) g.1, t.commands);
      states = (ap (λ (x : Head). x.counts.states) g.1, t.states);
      routines = (ap (λ (x : Head). x.counts.routines) g.1, subst (λ (x : Head). AllAfter (IsGood x.version) [] p.routines) g.1 t.routines);
    }

routines_stop : (h : Head) → HeadGood h → (is : List (List ℕ)) → TableGood NameGood [] h.counts.interfaces is → (ts : List TestSpec) → TableGood (λ _. TestGood) [] h.counts.tests ts → (cs : List (List ℕ)) → TableGood (λ _. TextGood) [] h.counts.commands cs
    → (ss : List StateSpec) → TableGood StateGood [] h.counts.states ss → (at : ℕ) (left : List ℕ) (fault : ImageFault) → IsBytes left → parts_6 h is ts cs ss (cursor at left) ≡ Err fault
    → Stop routines_bytes fields_of_routines (states_are h is ts cs ss) at left fault
routines_stop h good is gi ts gt cs gc ss gs =
    stop_chain (λ p. items_at (routine_after h.version) h.counts.routines [] p) (flat_map (routine_bytes h.version)) (flat_map (routine_fields h.version)) (TableGood (IsGood h.version) [] h.counts.routines) routines_bytes fields_of_routines (states_are h is ts cs ss)
    (routines_part h.version h.counts.routines good.version)
    (record {
      first = λ p. p.routines;
      rest = λ p. [];
      others = λ p. [];
      text_is = λ p g. ap (λ (x : Head). flat_map (routine_bytes x.version) p.routines) g.0.0.0.0.1 ∙ sym (append-nil (flat_map (routine_bytes h.version) p.routines));
      fields_are = λ p g. ap (λ (x : Head). flat_map (routine_fields x.version) p.routines) g.0.0.0.0.1 ∙ sym (append-nil (flat_map (routine_fields h.version) p.routines));
      good = λ p g. (tables_with h p g.0.0.0.0).routines;
      whole = λ rs g. let m = good_made h good is ts cs ss rs (record { interfaces = gi; tests = gt; commands = gc; states = gs; routines = g }) in (made h is ts cs ss rs, (((((m.0, m.1), refl), refl), refl), refl), refl);
    })
    (λ rs p. Ok (made h is ts cs ss rs, p))
    (λ rs g at left fault fits e. absurd cc)

states_stop : (h : Head) → HeadGood h → (is : List (List ℕ)) → TableGood NameGood [] h.counts.interfaces is → (ts : List TestSpec) → TableGood (λ _. TestGood) [] h.counts.tests ts → (cs : List (List ℕ)) → TableGood (λ _. TextGood) [] h.counts.commands cs
    → (at : ℕ) (left : List ℕ) (fault : ImageFault) → IsBytes left → parts_5 h is ts cs (cursor at left) ≡ Err fault
    → Stop states_bytes fields_of_states (commands_are h is ts cs) at left fault
states_stop h good is gi ts gt cs gc =
    stop_chain (λ p. items_at state_at h.counts.states [] p) (flat_map state_bytes) (flat_map state_fields) (TableGood StateGood [] h.counts.states) states_bytes fields_of_states (commands_are h is ts cs)
    (states_part h.counts.states (omega (arith, good.counts.states)))
    (record {
      first = λ p. p.states;
      rest = routines_bytes;
      others = fields_of_routines;
      text_is = λ p g. refl;
      fields_are = λ p g. refl;
      good = λ p g. (tables_with h p g.0.0.0).states;
      whole = λ ss g.
          let r = routines_fill h.version h.counts.routines in
          let m = good_made h good is ts cs ss r.0 (record { interfaces = gi; tests = gt; commands = gc; states = g; routines = (r.1, r.2) }) in
          (made h is ts cs ss r.0, ((((m.0, m.1), refl), refl), refl), refl);
    })
    (parts_6 h is ts cs)
    (λ ss gs. routines_stop h good is gi ts gt cs gc ss gs)

commands_stop : (h : Head) → HeadGood h → (is : List (List ℕ)) → TableGood NameGood [] h.counts.interfaces is → (ts : List TestSpec) → TableGood (λ _. TestGood) [] h.counts.tests ts
    → (at : ℕ) (left : List ℕ) (fault : ImageFault) → IsBytes left → parts_4 h is ts (cursor at left) ≡ Err fault
    → Stop commands_bytes fields_of_commands (tests_are h is ts) at left fault
commands_stop h good is gi ts gt =
    stop_chain (λ p. items_at (λ _. text_at) h.counts.commands [] p) (flat_map text_bytes) (flat_map text_fields) (TableGood (λ _. TextGood) [] h.counts.commands) commands_bytes fields_of_commands (tests_are h is ts)
    (commands_part h.counts.commands)
    (record {
      first = λ p. p.commands;
      rest = states_bytes;
      others = fields_of_states;
      text_is = λ p g. refl;
      fields_are = λ p g. refl;
      good = λ p g. (tables_with h p g.0.0).commands;
      whole = λ cs g.
          let s = states_fill h.counts.states (omega (arith, good.counts.states)) in
          let r = routines_fill h.version h.counts.routines in
          let m = good_made h good is ts cs s.0 r.0 (record { interfaces = gi; tests = gt; commands = g; states = (s.1, s.2); routines = (r.1, r.2) }) in
          (made h is ts cs s.0 r.0, (((m.0, m.1), refl), refl), refl);
    })
    (parts_5 h is ts)
    (λ cs gc. states_stop h good is gi ts gt cs gc)

tests_stop : (h : Head) → HeadGood h → (is : List (List ℕ)) → TableGood NameGood [] h.counts.interfaces is → (at : ℕ) (left : List ℕ) (fault : ImageFault) → IsBytes left → parts_3 h is (cursor at left) ≡ Err fault
    → Stop tests_bytes fields_of_tests (interfaces_are h is) at left fault
tests_stop h good is gi =
    stop_chain (λ p. items_at (λ _. test_at) h.counts.tests [] p) (flat_map test_bytes) (flat_map test_fields) (TableGood (λ _. TestGood) [] h.counts.tests) tests_bytes fields_of_tests (interfaces_are h is)
    (tests_part h.counts.tests)
    (record {
      first = λ p. p.tests;
      rest = commands_bytes;
      others = fields_of_commands;
      text_is = λ p g. refl;
      fields_are = λ p g. refl;
      good = λ p g. (tables_with h p g.0).tests;
      whole = λ ts g.
          let c = commands_fill h.counts.commands in
          let s = states_fill h.counts.states (omega (arith, good.counts.states)) in
          let r = routines_fill h.version h.counts.routines in
          let m = good_made h good is ts c.0 s.0 r.0 (record { interfaces = gi; tests = g; commands = (c.1, c.2); states = (s.1, s.2); routines = (r.1, r.2) }) in
          (made h is ts c.0 s.0 r.0, ((m.0, m.1), refl), refl);
    })
    (parts_4 h is)
    (λ ts gt. commands_stop h good is gi ts gt)

interfaces_stop : (h : Head) → HeadGood h → (at : ℕ) (left : List ℕ) (fault : ImageFault) → IsBytes left → parts_2 h (cursor at left) ≡ Err fault → Stop tables_bytes fields_of_tables (head_is h) at left fault
interfaces_stop h good =
    stop_chain (λ p. items_at name_at h.counts.interfaces [] p) (flat_map text_bytes) (flat_map name_fields) (TableGood NameGood [] h.counts.interfaces) tables_bytes fields_of_tables (head_is h)
    (interfaces_part h.counts.interfaces (omega (arith, good.counts.interfaces)))
    (record {
      first = λ p. p.interfaces;
      rest = tests_bytes;
      others = fields_of_tests;
      text_is = λ p g. refl;
      fields_are = λ p g. refl;
      good = λ p g. (tables_with h p g).interfaces;
      whole = λ is g.
          let t = tests_fill h.counts.tests in
          let c = commands_fill h.counts.commands in
          let s = states_fill h.counts.states (omega (arith, good.counts.states)) in
          let r = routines_fill h.version h.counts.routines in
          let m = good_made h good is t.0 c.0 s.0 r.0 (record { interfaces = g; tests = (t.1, t.2); commands = (c.1, c.2); states = (s.1, s.2); routines = (r.1, r.2) }) in
          (made h is t.0 c.0 s.0 r.0, (m.0, m.1), refl);
    })
    (parts_3 h)
    (λ is gi. tests_stop h good is gi)

head_then_fields : (p : ImageParts) → image_fields p ≡ head_fields (head_of p) ++ fields_of_tables p
unfolding image_fields
head_then_fields p = simp append_assoc

parts_stop : (at : ℕ) (left : List ℕ) (fault : ImageFault) → IsBytes left → parts_at (cursor at left) ≡ Err fault → Stop image_bytes image_fields ImageGood at left fault
unfolding parts_at
parts_stop =
    stop_chain head_at head_bytes head_fields HeadGood image_bytes image_fields ImageGood head_part
    (record {
      first = head_of;
      rest = tables_bytes;
      others = fields_of_tables;
      text_is = λ p g. head_then_tables p;
      fields_are = λ p g. head_then_fields p;
      good = λ p g. good_head p g.0 g.1;
      whole = λ h good.
          let i = interfaces_fill h.counts.interfaces (omega (arith, good.counts.interfaces)) in
          let t = tests_fill h.counts.tests in
          let c = commands_fill h.counts.commands in
          let s = states_fill h.counts.states (omega (arith, good.counts.states)) in
          let r = routines_fill h.version h.counts.routines in
          let m = good_made h good i.0 t.0 c.0 s.0 r.0 (record { interfaces = (i.1, i.2); tests = (t.1, t.2); commands = (c.1, c.2); states = (s.1, s.2); routines = (r.1, r.2) }) in
          (made h i.0 t.0 c.0 s.0 r.0, m.0, m.1);
    })
    parts_2
    (λ h good. interfaces_stop h good)

-- The fields of an image spell it.
pub fields_spell : (p : ImageParts) → Fits p → InRange p → bytes_of (image_fields p) ≡ image_bytes p
fields_spell p f r =
    let h = head_of p in
    let good = good_head p f r in
    let is = flat_map name_fields p.interfaces in
    let ts = flat_map test_fields p.tests in
    let cs = flat_map text_fields p.commands in
    let ss = flat_map state_fields p.states in
    let rs = flat_map (routine_fields p.version) p.routines in
    let last = bytes_of-append ss rs ∙ ap (λ (b : List ℕ). b ++ bytes_of rs) ((states_part 0 (omega arith)).spells p.states) ∙ ap (λ (b : List ℕ). flat_map state_bytes p.states ++ b) ((routines_part p.version 0 f.version).spells p.routines) in
    let fourth = bytes_of-append cs (ss ++ rs) ∙ ap (λ (b : List ℕ). b ++ bytes_of (ss ++ rs)) ((commands_part 0).spells p.commands) ∙ ap (λ (b : List ℕ). flat_map text_bytes p.commands ++ b) last in
    let third = bytes_of-append ts (cs ++ (ss ++ rs)) ∙ ap (λ (b : List ℕ). b ++ bytes_of (cs ++ (ss ++ rs))) ((tests_part 0).spells p.tests) ∙ ap (λ (b : List ℕ). flat_map test_bytes p.tests ++ b) fourth in
    let second = bytes_of-append is (ts ++ (cs ++ (ss ++ rs))) ∙ ap (λ (b : List ℕ). b ++ bytes_of (ts ++ (cs ++ (ss ++ rs)))) ((interfaces_part 0 (omega arith)).spells p.interfaces) ∙ ap (λ (b : List ℕ). flat_map text_bytes p.interfaces ++ b) third in
    ap bytes_of (head_then_fields p)
    ∙ bytes_of-append (head_fields h) (fields_of_tables p)
    ∙ ap (λ (b : List ℕ). b ++ bytes_of (fields_of_tables p)) (head_spelled h)
    ∙ ap (λ (b : List ℕ). head_bytes h ++ b) second
    ∙ sym (head_then_tables p)

-- ---- the first fault

from_stop : (bytes : List ℕ) (fault : ImageFault) → Stop image_bytes image_fields ImageGood 0 bytes fault → IsFirstFault bytes fault
from_stop bytes fault s =
    let same : 0 + s.n ≡ s.n = omega arith in
    let comes : ComesTo bytes s.n s.kind = record {
      inside = s.inside;
      image = s.x;
      begins = record { fits = s.good.0; in_range = s.good.1; more = s.more; bytes_are = s.begins };
      each = λ other b. s.each other b.more (b.fits, b.in_range) b.bytes_are;
    } in
    elim s.why [
      | inl cut ↦ inl (record { at = s.n; kind = s.kind; comes = comes; cut = subst (λ (a : ℕ). IsCut s.kind a (drop s.n bytes) fault) same cut })
      | inr b ↦ inr (inl (record {
        at = s.n;
        kind = s.kind;
        shown = b.shown;
        comes = comes;
        wrong = subst (λ (a : ℕ). IsWrong s.kind a (drop s.n bytes) fault b.shown) same b.wrong;
        inside = b.inside;
        never = λ image begun. b.never image begun.more (begun.fits, begun.in_range) begun.bytes_are;
      }))
    ]

abbrev read_image : ImageParts → Cursor → Result (ImageParts × Cursor) ImageFault
read_image p c = Ok (p, c)

pub first_fault : (bytes : List ℕ) (fault : ImageFault) → IsBytes bytes → image_of bytes ≡ Err fault → IsFirstFault bytes fault
unfolding image_of
first_fault bytes fault fits e =
    bind_err (parts_at (cursor 0 bytes)) (λ parts. cond (length parts.1.left == 0) (Ok parts.0) (Err (Trailing parts.1.at))) fault (IsFirstFault bytes fault) e
    (λ failed. from_stop bytes fault (parts_stop 0 bytes fault fits failed))
    (λ y went later.
    let t = parts_taken (cursor 0 bytes) y fits went in
    let at = length (image_bytes y.0) in
    let again = ap (λ (b : List ℕ). parts_at (cursor 0 b)) t.took.parts ∙ parts_again y.0 0 y.1.left t.fits t.in_range in
    let same : y ≡ (y.0, cursor (0 + at) y.1.left) = ok_is y (y.0, cursor (0 + at) y.1.left) (sym went ∙ again) in
    let place : y.1.at ≡ at = ap (λ (z : ImageParts × Cursor). z.1.at) same ∙ omega arith in
    let g = passed_err (length y.1.left == 0) (Trailing y.1.at) y.0 fault later in
    let some = eqb-false (length y.1.left) 0 g.0 in
    inr (inr (record {
      at = at;
      image = y.0;
      spells = record { fits = t.fits; in_range = t.in_range; bytes_are = ap (take at) t.took.parts ∙ take_at (image_bytes y.0) y.1.left at refl };
      more = omega (arith, some, ap length t.took.parts, length-append (image_bytes y.0) y.1.left);
      fault_is = g.1 ∙ ap (λ (a : ℕ). Trailing a) place;
    })))

pub is_first : (bytes : List ℕ) (r : Result ImageParts ImageFault) → IsBytes bytes → Answers r (image_of bytes) → IfErr r (λ fault. fault ≢ Memory → IsFirstFault bytes fault)
is_first bytes (Ok p) fits given = tt
is_first bytes (Err fault) fits given = λ other. first_fault bytes fault fits (given other)
