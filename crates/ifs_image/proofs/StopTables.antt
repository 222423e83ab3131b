-- Where reading a table stops, and the parts that have tables: kinds and routines.
use Rattle.std.proofs.Common.{◌≡◌, ℕ, zero, suc, ◌+◌, ◌<◌, ◌≤◌, List, [], ◌∷◌, ◌++◌, length, get_or, drop, replicate}
use Rattle.std.proofs.Common.{Ok, Err, refl, sym, ap, subst, ◌∙◌, append_assoc, arith, inl, inr}
use Rattle.std.specs.Prelude.{◌⊎◌, min}
use Rattle.std.specs.Int.{w16, to_be_bytes}
use Rattle.std.specs.List.{flat_map}
use Rattle.std.proofs.lemmas.List.{length-append, length-replicate, length-map, append-nil}
use Rattle.ifs_base.specs.declared.op.Kind.{Kind}
use Rattle.ifs_base.specs.declared.op.Kind.TheVariants.{Truth}
use Rattle.ifs_base.specs.declared.op.Op.{Op}
use Rattle.ifs_base.specs.declared.op.Op.TheVariants.{Ret}
use Rattle.ifs_base.specs.Spelling.{spelling, HasSpelling}
use Rattle.ifs_base.specs.Results.{◌>>=◌}
use Rattle.ifs_image.specs.declared.fault.ImageFault.{ImageFault}
use Rattle.ifs_image.specs.declared.parts.TestSpec.{TestSpec}
use Rattle.ifs_image.specs.declared.parts.StateSpec.{StateSpec}
use Rattle.ifs_image.specs.declared.parts.Routine.{Routine}
use Rattle.ifs_image.specs.Limits.{IsVersion, names_of}
use Rattle.ifs_image.specs.Spelling.{text_bytes, test_bytes, state_bytes, kinds_bytes, params_bytes, results_bytes, routine_bytes}
use Rattle.ifs_image.specs.Reading.{Cursor, cursor, Read, number_within, text_at, name_at, test_at, state_at, instruction_at}
use Rattle.ifs_image.specs.Reading.{items_at, byte_within, kind_at, kinds_at, truths_at, params_at, results_at, routine_at, routine_after, room_after}
use Rattle.ifs_image.specs.Fields.{Field, bytes_of, number, byte, text_fields, name_fields, kind_fields, op_fields, test_fields, state_fields}
use Rattle.ifs_image.specs.Faults.{StandsAt}
use Rattle.ifs_image.specs.Fields.{FieldKind, kinds_fields, params_fields, results_fields, routine_fields}
use Rattle.ifs_image.proofs.FieldLaws.{IsBytes, IsField, AllAfter, table_field}
use Rattle.ifs_image.proofs.KindLaws.{kind_bytes, AreFew, AreTruths, codes_are, any_after, truths_again}
use Rattle.ifs_image.proofs.KindLaws.{truths_taken, version_cases, params_field, results_field, form_of, truths_few}
use Rattle.ifs_image.proofs.PartLaws.{TextGood, text_field, name_field, TestGood, test_field, StateGood, state_field, op_field}
use Rattle.ifs_image.proofs.PartLaws.{RoutineGood, routine_field, plain_or, or_params, or_results}
use Rattle.ifs_image.proofs.ImageLaws.{IsGood}
use Rattle.ifs_image.proofs.Stops.{Stop, Why, Part, After, stop_chain, bytes_of-append}
use Rattle.ifs_image.proofs.StopFields.{byte_part, kind_part, op_part, part16}
use Rattle.ifs_image.proofs.StopParts.{letter, letter_good, fresh, fresh_good, NameGood, name_part, text_part, test_part, state_part, no_handlers, none_in_range}

-- ---- the same stop among other values

breaks_along : {Y Z : Type 0} (back : Z → Y) (text1 : Y → List ℕ) (Good1 : Y → Type 0) (text : Z → List ℕ) (Good : Z → Type 0)
    → ((z : Z) → Good z → Good1 (back z) × (text z ≡ text1 (back z)))
    → (n : ℕ) (kind : FieldKind) (at : ℕ) (left : List ℕ) (fault : ImageFault) → Why text1 Good1 n kind at left fault → Why text Good n kind at left fault
breaks_along back text1 Good1 text Good from n kind at left fault (inl cut) = inl cut
breaks_along back text1 Good1 text Good from n kind at left fault (inr b) = inr (record {
  shown = b.shown;
  wrong = b.wrong;
  inside = b.inside;
  never = λ z rest good e. let f = from z good in b.never (back z) rest f.0 (sym f.1 ∙ e);
})

-- The values of one type as those of another one, with the same text and fields.
pub stop_along : {Y Z : Type 0} (into : Y → Z) (back : Z → Y) (text1 : Y → List ℕ) (fields1 : Y → List Field) (Good1 : Y → Type 0) (text : Z → List ℕ) (fields : Z → List Field) (Good : Z → Type 0)
    → ((y : Y) → Good1 y → Good (into y) × (text (into y) ≡ text1 y))
    → ((z : Z) → Good z → Good1 (back z) × (text z ≡ text1 (back z)))
    → ((z : Z) → Good z → fields z ≡ fields1 (back z))
    → (at : ℕ) (left : List ℕ) (fault : ImageFault) → Stop text1 fields1 Good1 at left fault → Stop text fields Good at left fault
stop_along into back text1 fields1 Good1 text fields Good to from same at left fault s =
    let t = to s.x s.good in
    record {
      n = s.n;
      kind = s.kind;
      inside = s.inside;
      x = into s.x;
      good = t.0;
      more = s.more;
      begins = t.1 ∙ s.begins;
      each = λ z rest good e. let f = from z good in subst (λ (fs : List Field). StandsAt fs s.n s.kind) (sym (same z good)) (s.each (back z) rest f.0 (sym f.1 ∙ e));
      unread = λ z rest good e. let f = from z good in s.unread (back z) rest f.0 (e ∙ ap (λ (t : List ℕ). t ++ rest) f.1);
      why = breaks_along back text1 Good1 text Good from s.n s.kind at left fault s.why;
    }

pub stop_good : {X : Type 0} (text : X → List ℕ) (fields : X → List Field) (Good1 Good : X → Type 0) → ((x : X) → Good1 x → Good x) → ((x : X) → Good x → Good1 x)
    → (at : ℕ) (left : List ℕ) (fault : ImageFault) → Stop text fields Good1 at left fault → Stop text fields Good at left fault
stop_good text fields Good1 Good to from at left fault s =
    stop_along (λ x. x) (λ x. x) text fields Good1 text fields Good (λ x g. (to x g, refl)) (λ x g. (from x g, refl)) (λ x g. refl) at left fault s

-- ---- tables

-- So many entries, each good after those before it.
abbrev pub TableGood : {X : Type 0} → (List X → X → Type 0) → List X → ℕ → List X → Type 0
TableGood Good before n xs = (length xs ≡ n) × AllAfter Good before xs

cons_map : {X A : Type 0} (f : X → List A) (d : X) (n : ℕ) (xs : List X) → length xs ≡ suc n → flat_map f xs ≡ f (get_or xs 0 d) ++ flat_map f (drop 1 xs)
cons_map f d n [] len = absurd cc
cons_map f d n (x ∷ xs) len = refl

cons_good : {X : Type 0} (Good : List X → X → Type 0) (before : List X) (d : X) (n : ℕ) (xs : List X) → TableGood Good before (suc n) xs → Good before (get_or xs 0 d)
cons_good Good before d n [] good = absurd (omega (arith, good.0))
cons_good Good before d n (x ∷ xs) good = good.1.0

rest_good : {X : Type 0} (Good : List X → X → Type 0) (before : List X) (d : X) (n : ℕ) (x : X) (xs : List X) → After (λ ys. get_or ys 0 d) (TableGood Good before (suc n)) x xs → TableGood Good (before ++ x ∷ []) n (drop 1 xs)
rest_good Good before d n x [] good = absurd (omega (arith, good.0.0))
rest_good {X} Good before d n x (y ∷ ys) good = (omega (arith, good.0.0), subst (λ (v : X). AllAfter Good (before ++ v ∷ []) ys) good.1 good.0.1.1)

-- What makes the entries of a table: which are fine so far, a part for each, and entries for what is left.
pub record Entries {X : Type 0} (entry : List X → Cursor → Read X) (text : X → List ℕ) (fields : X → List Field) (Good : List X → X → Type 0) (Fine : ℕ → List X → Type 0) : Type 0 where
  pub some : X
  pub part : (n : ℕ) (before : List X) → Fine (suc n) before → Part (entry before) text fields (Good before)
  pub step : (n : ℕ) (before : List X) (x : X) → Fine (suc n) before → Fine n (before ++ x ∷ [])
  pub fill : (n : ℕ) (before : List X) → Fine n before → (xs : List X) × (length xs ≡ n) × AllAfter Good before xs

pub items_stop : {X : Type 0} (entry : List X → Cursor → Read X) (text : X → List ℕ) (fields : X → List Field) (Good : List X → X → Type 0) (Fine : ℕ → List X → Type 0) → Entries entry text fields Good Fine
    → (n : ℕ) (before : List X) → Fine n before → (at : ℕ) (left : List ℕ) (fault : ImageFault) → IsBytes left → items_at entry n before (cursor at left) ≡ Err fault → Stop (flat_map text) (flat_map fields) (TableGood Good before n) at left fault
unfolding items_at
items_stop entry text fields Good Fine es zero before fine at left fault fits e = absurd cc
items_stop {X} entry text fields Good Fine es (suc n) before fine at left fault fits e =
    stop_chain (entry before) text fields (Good before) (flat_map text) (flat_map fields) (TableGood Good before (suc n)) (es.part n before fine)
    (record {
      first = λ xs. get_or xs 0 es.some;
      rest = λ xs. flat_map text (drop 1 xs);
      others = λ xs. flat_map fields (drop 1 xs);
      text_is = λ xs good. cons_map text es.some n xs good.0;
      fields_are = λ xs good. cons_map fields es.some n xs good.0;
      good = λ xs good. cons_good Good before es.some n xs good;
      whole = λ x good. let r = es.fill n (before ++ x ∷ []) (es.step n before x fine) in (x ∷ r.0, (ap suc r.1, (good, r.2)), refl);
    })
    (λ x p. items_at entry n (before ++ x ∷ []) p)
    (λ x gx at2 left2 fault2 fits2 later.
    stop_along (λ xs. x ∷ xs) (λ xs. drop 1 xs) (flat_map text) (flat_map fields) (TableGood Good (before ++ x ∷ []) n) (λ xs. flat_map text (drop 1 xs)) (λ xs. flat_map fields (drop 1 xs)) (After (λ xs. get_or xs 0 es.some) (TableGood Good before (suc n)) x)
    (λ xs good. (((ap suc good.0, (gx, good.1)), refl), refl))
    (λ xs good. (rest_good Good before es.some n x xs good, refl))
    (λ xs good. refl)
    at2 left2 fault2 (items_stop entry text fields Good Fine es n (before ++ x ∷ []) (es.step n before x fine) at2 left2 fault2 fits2 later))
    at left fault fits e

table_spells : {X : Type 0} (text : X → List ℕ) (fields : X → List Field) → ((x : X) → bytes_of (fields x) ≡ text x) → (xs : List X) → bytes_of (flat_map fields xs) ≡ flat_map text xs
table_spells text fields spells [] = refl
table_spells text fields spells (x ∷ xs) =
    bytes_of-append (fields x) (flat_map fields xs) ∙ ap (λ (b : List ℕ). b ++ bytes_of (flat_map fields xs)) (spells x) ∙ ap (λ (b : List ℕ). text x ++ b) (table_spells text fields spells xs)

pub table_part : {X : Type 0} (entry : List X → Cursor → Read X) (text : X → List ℕ) (fields : X → List Field) (Good : List X → X → Type 0) (Fine : ℕ → List X → Type 0) → Entries entry text fields Good Fine
    → ((before : List X) → IsField (entry before) text (Good before)) → ((x : X) → bytes_of (fields x) ≡ text x) → (n : ℕ) → Fine n [] → Part (items_at entry n []) (flat_map text) (flat_map fields) (TableGood Good [] n)
table_part entry text fields Good Fine es is spells n fine = record {
  is_field = table_field entry text Good is n;
  spells = table_spells text fields spells;
  stops = items_stop entry text fields Good Fine es n [] fine;
}

-- ---- tables whose entries do not depend on one another

-- Nothing is asked of the entries before.
abbrev pub AlwaysFine : {X : Type 0} → ℕ → List X → Type 0
AlwaysFine n before = Unit {0}

same_fill : {X : Type 0} (Good : List X → X → Type 0) (x : X) → ((before : List X) → Good before x) → (n : ℕ) (before : List X) → (xs : List X) × (length xs ≡ n) × AllAfter Good before xs
same_fill Good x good zero before = ([], refl, tt)
same_fill Good x good (suc n) before = let r = same_fill Good x good n (before ++ x ∷ []) in (x ∷ r.0, ap suc r.1, (good before, r.2))

pub alike : {X : Type 0} (entry : List X → Cursor → Read X) (text : X → List ℕ) (fields : X → List Field) (Good : List X → X → Type 0) → ((before : List X) → Part (entry before) text fields (Good before)) → (x : X) → ((before : List X) → Good before x)
    → Entries entry text fields Good AlwaysFine
alike entry text fields Good part x good = record {
  some = x;
  part = λ n before fine. part before;
  step = λ n before y fine. tt;
  fill = λ n before fine. same_fill Good x good n before;
}

-- ---- kinds

kinds_items : (n at : ℕ) (left : List ℕ) (fault : ImageFault) → IsBytes left → items_at (λ _. kind_at) n [] (cursor at left) ≡ Err fault → Stop (flat_map kind_bytes) (flat_map kind_fields) (TableGood (λ _ _. Unit {0}) [] n) at left fault
kinds_items n =
    items_stop (λ _. kind_at) kind_bytes kind_fields (λ _ _. Unit {0}) AlwaysFine (alike (λ _. kind_at) kind_bytes kind_fields (λ _ _. Unit {0}) (λ _. kind_part) Truth (λ _. tt)) n [] tt

few_kinds : (n : ℕ) → n ≤ 4 → AreFew (replicate n Truth)
few_kinds n le = omega (arith, le, length-replicate n Truth)

kinds_stop : (at : ℕ) (left : List ℕ) (fault : ImageFault) → IsBytes left → kinds_at (cursor at left) ≡ Err fault → Stop kinds_bytes kinds_fields AreFew at left fault
unfolding kinds_at kinds_bytes
kinds_stop =
    stop_chain (byte_within 4) (λ n. n ∷ []) (λ n. byte n ∷ []) (λ n. n ≤ 4) kinds_bytes kinds_fields AreFew (byte_part 4)
    (record {
      first = λ kinds. length kinds;
      rest = λ kinds. flat_map kind_bytes kinds;
      others = λ kinds. flat_map kind_fields kinds;
      text_is = λ kinds g. ap (λ (bytes : List ℕ). length kinds ∷ bytes) (sym (codes_are kinds));
      fields_are = λ kinds g. refl;
      good = λ kinds g. g;
      whole = λ n g. (replicate n Truth, few_kinds n g, length-replicate n Truth);
    })
    (λ n p. items_at (λ _. kind_at) n [] p)
    (λ n gn at left fault fits e.
    stop_good (flat_map kind_bytes) (flat_map kind_fields) (TableGood (λ _ _. Unit {0}) [] n) (After (λ kinds. length kinds) AreFew n) (λ kinds g. (omega (arith, g.0, gn), g.0)) (λ kinds g. (g.1, any_after kinds []))
    at left fault (kinds_items n at left fault fits e))

kinds_spelled : (kinds : List Kind) → bytes_of (kinds_fields kinds) ≡ kinds_bytes kinds
unfolding kinds_bytes
kinds_spelled kinds = ap (λ (bytes : List ℕ). length kinds ∷ bytes) (table_spells kind_bytes kind_fields (λ kind. refl) kinds ∙ codes_are kinds)

truths_stop : (at : ℕ) (left : List ℕ) (fault : ImageFault) → IsBytes left → truths_at (cursor at left) ≡ Err fault → Stop (λ kinds. length kinds ∷ []) (λ kinds. byte (length kinds) ∷ []) AreTruths at left fault
unfolding truths_at
truths_stop =
    stop_chain (byte_within 1) (λ n. n ∷ []) (λ n. byte n ∷ []) (λ n. n ≤ 1) (λ kinds. length kinds ∷ []) (λ kinds. byte (length kinds) ∷ []) AreTruths (byte_part 1)
    (record {
      first = λ kinds. length kinds;
      rest = λ kinds. [];
      others = λ kinds. [];
      text_is = λ kinds g. refl;
      fields_are = λ kinds g. refl;
      good = λ kinds g. (truths_again kinds g).0;
      whole = λ n g. let t = truths_taken n g in (replicate n Truth, t.1, t.0);
    })
    (λ n p. Ok (replicate n Truth, p))
    (λ n g at left fault fits e. absurd cc)

-- ---- parameters and results

abbrev pub ParamsGood : ℕ → List Kind → Type 0
ParamsGood version kinds = (length kinds ≤ 4) × ((version ≡ 2) ⊎ (kinds ≡ []))

abbrev pub ResultsGood : ℕ → List Kind → Type 0
ResultsGood version kinds = (length kinds ≤ 4) × ((version ≡ 2) ⊎ AreTruths kinds)

version_one : IsVersion 1
version_one = (omega arith, omega arith)

version_two : IsVersion 2
version_two = (omega arith, omega arith)

params_part_1 : Part (params_at 1) (params_bytes 1) (params_fields 1) (ParamsGood 1)
unfolding params_at params_bytes
params_part_1 = record { is_field = params_field 1 version_one; spells = λ kinds. refl; stops = λ at left fault fits e. absurd cc }

params_part_2 : Part (params_at 2) (params_bytes 2) (params_fields 2) (ParamsGood 2)
unfolding params_at params_bytes
params_part_2 = record {
  is_field = params_field 2 version_two;
  spells = kinds_spelled;
  stops = λ at left fault fits e. stop_good kinds_bytes kinds_fields AreFew (ParamsGood 2) (λ kinds g. (g, inl refl)) (λ kinds g. g.0) at left fault (kinds_stop at left fault fits e);
}

params_part : (version : ℕ) → IsVersion version → Part (params_at version) (params_bytes version) (params_fields version) (ParamsGood version)
params_part version is =
    elim (version_cases version is) [
      | inl one ↦ subst (λ (v : ℕ). Part (params_at v) (params_bytes v) (params_fields v) (ParamsGood v)) (sym one) params_part_1
      | inr two ↦ subst (λ (v : ℕ). Part (params_at v) (params_bytes v) (params_fields v) (ParamsGood v)) (sym two) params_part_2
    ]

results_part_1 : Part (results_at 1) (results_bytes 1) (results_fields 1) (ResultsGood 1)
unfolding results_at results_bytes
results_part_1 = record {
  is_field = results_field 1 version_one;
  spells = λ kinds. refl;
  stops = λ at left fault fits e. stop_good (λ kinds. length kinds ∷ []) (λ kinds. byte (length kinds) ∷ []) AreTruths (ResultsGood 1) (λ kinds g. (truths_few kinds g, inr g)) (λ kinds g. form_of g.1) at left fault (truths_stop at left fault fits e);
}

results_part_2 : Part (results_at 2) (results_bytes 2) (results_fields 2) (ResultsGood 2)
unfolding results_at results_bytes
results_part_2 = record {
  is_field = results_field 2 version_two;
  spells = kinds_spelled;
  stops = λ at left fault fits e. stop_good kinds_bytes kinds_fields AreFew (ResultsGood 2) (λ kinds g. (g, inl refl)) (λ kinds g. g.0) at left fault (kinds_stop at left fault fits e);
}

results_part : (version : ℕ) → IsVersion version → Part (results_at version) (results_bytes version) (results_fields version) (ResultsGood version)
results_part version is =
    elim (version_cases version is) [
      | inl one ↦ subst (λ (v : ℕ). Part (results_at v) (results_bytes v) (results_fields v) (ResultsGood v)) (sym one) results_part_1
      | inr two ↦ subst (λ (v : ℕ). Part (results_at v) (results_bytes v) (results_fields v) (ResultsGood v)) (sym two) results_part_2
    ]

-- ---- routines

abbrev OpsGood : ℕ → List Op → Type 0
OpsGood n = TableGood (λ _. HasSpelling) [] n

code_entries : Entries (λ _. instruction_at) spelling op_fields (λ _. HasSpelling) AlwaysFine
code_entries = alike (λ _. instruction_at) spelling op_fields (λ _. HasSpelling) (λ _. op_part) Ret (λ _. tt)

op_spelled : (op : Op) → bytes_of (op_fields op) ≡ spelling op
op_spelled op = append-nil (spelling op)

code_part : (n : ℕ) → Part (items_at (λ _. instruction_at) n []) (flat_map spelling) (flat_map op_fields) (OpsGood n)
code_part n = table_part (λ _. instruction_at) spelling op_fields (λ _. HasSpelling) AlwaysFine code_entries (λ _. op_field) op_spelled n tt

abbrev made_routine : List Kind → List Kind → List Op → Routine
made_routine params results code = record { params = record { items = params }; results = record { items = results }; code = code }

made_good : (version room : ℕ) (params results : List Kind) (n : ℕ) (code : List Op) → ParamsGood version params → ResultsGood version results → n ≤ room → n ≤ 1024 → OpsGood n code → RoutineGood version room (made_routine params results code)
made_good version room params results n code p r within few ops = record {
  fits = record { kinds = plain_or version (made_routine params results code) p.1 r.1; code = omega (arith, ops.0, few) };
  within = omega (arith, ops.0, within);
  params = p.0;
  results = r.0;
  code = ops.1;
}

no_code : OpsGood 0 []
no_code = (refl, tt)

no_results : (version : ℕ) → ResultsGood version []
no_results version = (omega arith, inr (inl refl))

abbrev routine_4 : List Kind → List Kind → ℕ → Cursor → Read Routine
routine_4 params results n p = items_at (λ _. instruction_at) n [] p >>= λ code. Ok (record { params = record { items = params }; results = record { items = results }; code = code.0 }, code.1)

abbrev routine_3 : ℕ → List Kind → List Kind → Cursor → Read Routine
routine_3 room params results p = number_within w16 0 (min room 1024) p >>= λ n. routine_4 params results n.0 n.1

abbrev routine_2 : ℕ → ℕ → List Kind → Cursor → Read Routine
routine_2 version room params p = results_at version p >>= λ results. routine_3 room params results.0 results.1

abbrev counted_code : Routine → List ℕ
counted_code r = to_be_bytes w16 (length r.code) ++ flat_map spelling r.code

abbrev counted_fields : Routine → List Field
counted_fields r = number w16 (length r.code) ∷ flat_map op_fields r.code

abbrev params_are : ℕ → ℕ → List Kind → Routine → Type 0
params_are version room params = After (λ r. r.params.items) (RoutineGood version room) params

abbrev results_are : ℕ → ℕ → List Kind → List Kind → Routine → Type 0
results_are version room params results = After (λ r. r.results.items) (params_are version room params) results

abbrev length_is : ℕ → ℕ → List Kind → List Kind → ℕ → Routine → Type 0
length_is version room params results n = After (λ r. length r.code) (results_are version room params results) n

code_stop : (version room : ℕ) (params results : List Kind) → ParamsGood version params → ResultsGood version results → (n : ℕ) → (0 ≤ n) × (n ≤ min room 1024) → (at : ℕ) (left : List ℕ) (fault : ImageFault) → IsBytes left → routine_4 params results n (cursor at left) ≡ Err fault
    → Stop (λ r. flat_map spelling r.code) (λ r. flat_map op_fields r.code) (length_is version room params results n) at left fault
code_stop version room params results gp gr n gn =
    stop_chain (λ p. items_at (λ _. instruction_at) n [] p) (flat_map spelling) (flat_map op_fields) (OpsGood n) (λ r. flat_map spelling r.code) (λ r. flat_map op_fields r.code) (length_is version room params results n) (code_part n)
    (record {
      first = λ r. r.code;
      rest = λ r. [];
      others = λ r. [];
      text_is = λ r g. sym (append-nil (flat_map spelling r.code));
      fields_are = λ r g. sym (append-nil (flat_map op_fields r.code));
      good = λ r g. (g.1, g.0.0.0.code);
      whole = λ code g. (made_routine params results code, (((made_good version room params results n code gp gr (omega (arith, gn.1)) (omega (arith, gn.1)) g, refl), refl), g.0), refl);
    })
    (λ code p. Ok (made_routine params results code, p))
    (λ code g at left fault fits e. absurd cc)

count_stop : (version room : ℕ) (params results : List Kind) → ParamsGood version params → ResultsGood version results → (at : ℕ) (left : List ℕ) (fault : ImageFault) → IsBytes left → routine_3 room params results (cursor at left) ≡ Err fault
    → Stop counted_code counted_fields (results_are version room params results) at left fault
count_stop version room params results gp gr =
    stop_chain (λ p. number_within w16 0 (min room 1024) p) (to_be_bytes w16) (λ n. number w16 n ∷ []) (λ n. (0 ≤ n) × (n ≤ min room 1024)) counted_code counted_fields (results_are version room params results) (part16 0 (min room 1024) (omega arith) (omega arith))
    (record {
      first = λ r. length r.code;
      rest = λ r. flat_map spelling r.code;
      others = λ r. flat_map op_fields r.code;
      text_is = λ r g. refl;
      fields_are = λ r g. refl;
      good = λ r g. (omega arith, omega (arith, g.0.0.within, g.0.0.fits.code));
      whole = λ n g. let r = same_fill (λ _. HasSpelling) Ret (λ _. tt) n [] in (made_routine params results r.0, ((made_good version room params results n r.0 gp gr (omega (arith, g.1)) (omega (arith, g.1)) (r.1, r.2), refl), refl), r.1);
    })
    (routine_4 params results)
    (λ n gn. code_stop version room params results gp gr n gn)

results_stop : (version room : ℕ) → IsVersion version → (params : List Kind) → ParamsGood version params → (at : ℕ) (left : List ℕ) (fault : ImageFault) → IsBytes left → routine_2 version room params (cursor at left) ≡ Err fault
    → Stop (λ r. results_bytes version r.results.items ++ counted_code r) (λ r. results_fields version r.results.items ++ counted_fields r) (params_are version room params) at left fault
results_stop version room is params gp =
    stop_chain (results_at version) (results_bytes version) (results_fields version) (ResultsGood version) (λ r. results_bytes version r.results.items ++ counted_code r) (λ r. results_fields version r.results.items ++ counted_fields r) (params_are version room params) (results_part version is)
    (record {
      first = λ r. r.results.items;
      rest = counted_code;
      others = counted_fields;
      text_is = λ r g. refl;
      fields_are = λ r g. refl;
      good = λ r g. (g.0.results, or_results version r g.0.fits.kinds);
      whole = λ results g. (made_routine params results [], (made_good version room params results 0 [] gp g (omega arith) (omega arith) no_code, refl), refl);
    })
    (routine_3 room params)
    (λ results gr. count_stop version room params results gp gr)

routine_stop : (version room : ℕ) → IsVersion version → (at : ℕ) (left : List ℕ) (fault : ImageFault) → IsBytes left → routine_at version room (cursor at left) ≡ Err fault → Stop (routine_bytes version) (routine_fields version) (RoutineGood version room) at left fault
unfolding routine_at routine_bytes
routine_stop version room is =
    stop_chain (params_at version) (params_bytes version) (params_fields version) (ParamsGood version) (routine_bytes version) (routine_fields version) (RoutineGood version room) (params_part version is)
    (record {
      first = λ r. r.params.items;
      rest = λ r. results_bytes version r.results.items ++ counted_code r;
      others = λ r. results_fields version r.results.items ++ counted_fields r;
      text_is = λ r g. simp append_assoc;
      fields_are = λ r g. simp append_assoc;
      good = λ r g. (g.params, or_params version r g.fits.kinds);
      whole = λ params g. (made_routine params [] [], made_good version room params [] 0 [] g (no_results version) (omega arith) (omega arith) no_code, refl);
    })
    (routine_2 version room)
    (λ params gp. results_stop version room is params gp)

params_spelled : (version : ℕ) → IsVersion version → (kinds : List Kind) → bytes_of (params_fields version kinds) ≡ params_bytes version kinds
params_spelled version is kinds = (params_part version is).spells kinds

routine_spelled : (version : ℕ) → IsVersion version → (r : Routine) → bytes_of (routine_fields version r) ≡ routine_bytes version r
unfolding routine_bytes
routine_spelled version is r =
    let ps = params_fields version r.params.items in
    let rs = results_fields version r.results.items in
    let cs = counted_fields r in
    let last : bytes_of cs ≡ counted_code r = ap (λ (b : List ℕ). to_be_bytes w16 (length r.code) ++ b) (table_spells spelling op_fields op_spelled r.code) in
    bytes_of-append (ps ++ rs) cs
    ∙ ap (λ (b : List ℕ). b ++ bytes_of cs) (bytes_of-append ps rs ∙ ap (λ (b : List ℕ). b ++ bytes_of rs) (params_spelled version is r.params.items) ∙ ap (λ (b : List ℕ). params_bytes version r.params.items ++ b) ((results_part version is).spells r.results.items))
    ∙ ap (λ (b : List ℕ). params_bytes version r.params.items ++ results_bytes version r.results.items ++ b) last
    ∙ sym (append_assoc (params_bytes version r.params.items ++ results_bytes version r.results.items) (to_be_bytes w16 (length r.code)) (flat_map spelling r.code))

routine_part : (version room : ℕ) → IsVersion version → Part (routine_at version room) (routine_bytes version) (routine_fields version) (RoutineGood version room)
routine_part version room is = record { is_field = routine_field version room is; spells = routine_spelled version is; stops = routine_stop version room is }

-- ---- the five tables of an image

-- There is room for a fresh name in each entry.
abbrev pub HasNames : {X : Type 0} → ℕ → List X → Type 0
HasNames n before = length before + n ≤ 1024

names_fill : (n : ℕ) (before : List (List ℕ)) → HasNames n before → (xs : List (List ℕ)) × (length xs ≡ n) × AllAfter NameGood before xs
names_fill zero before fine = ([], refl, tt)
names_fill (suc n) before fine =
    let x = fresh before in
    let r = names_fill n (before ++ x ∷ []) (omega (arith, fine, length-append before (x ∷ []))) in
    (x ∷ r.0, ap suc r.1, (fresh_good before (omega (arith, fine)), r.2))

names_entries : Entries name_at text_bytes name_fields NameGood HasNames
names_entries = record {
  some = [];
  part = λ n before fine. name_part before (omega (arith, fine));
  step = λ n before x fine. omega (arith, fine, length-append before (x ∷ []));
  fill = names_fill;
}

pub interfaces_part : (n : ℕ) → n ≤ 1024 → Part (items_at name_at n []) (flat_map text_bytes) (flat_map name_fields) (TableGood NameGood [] n)
interfaces_part n few = table_part name_at text_bytes name_fields NameGood HasNames names_entries name_field (λ t. append-nil (text_bytes t)) n (omega (arith, few))

pub interfaces_fill : (n : ℕ) → n ≤ 1024 → (xs : List (List ℕ)) × (length xs ≡ n) × AllAfter NameGood [] xs
interfaces_fill n few = names_fill n [] (omega (arith, few))

a_test : TestSpec
a_test = record { period = 1; text = letter }

a_test_good : TestGood a_test
unfolding a_test
a_test_good = record { fits = record { period = record { not_zero = omega arith; within = omega arith }; text = letter_good.fits }; utf8 = letter_good.utf8 }

pub tests_part : (n : ℕ) → Part (items_at (λ _. test_at) n []) (flat_map test_bytes) (flat_map test_fields) (TableGood (λ _. TestGood) [] n)
tests_part n = table_part (λ _. test_at) test_bytes test_fields (λ _. TestGood) AlwaysFine (alike (λ _. test_at) test_bytes test_fields (λ _. TestGood) (λ _. test_part) a_test (λ _. a_test_good)) (λ _. test_field) test_part.spells n tt

pub tests_fill : (n : ℕ) → (xs : List TestSpec) × (length xs ≡ n) × AllAfter (λ _. TestGood) [] xs
tests_fill n = same_fill (λ _. TestGood) a_test (λ _. a_test_good) n []

pub commands_part : (n : ℕ) → Part (items_at (λ _. text_at) n []) (flat_map text_bytes) (flat_map text_fields) (TableGood (λ _. TextGood) [] n)
commands_part n = table_part (λ _. text_at) text_bytes text_fields (λ _. TextGood) AlwaysFine (alike (λ _. text_at) text_bytes text_fields (λ _. TextGood) (λ _. text_part) letter (λ _. letter_good)) (λ _. text_field) text_part.spells n tt

pub commands_fill : (n : ℕ) → (xs : List (List ℕ)) × (length xs ≡ n) × AllAfter (λ _. TextGood) [] xs
commands_fill n = same_fill (λ _. TextGood) letter (λ _. letter_good) n []

abbrev fresh_state : List StateSpec → StateSpec
fresh_state before = record { name = fresh (names_of before); handlers = no_handlers }

fresh_state_good : (before : List StateSpec) → length before < 1024 → StateGood before (fresh_state before)
fresh_state_good before few =
    let g = fresh_good (names_of before) (omega (arith, few, length-map before (λ (s : StateSpec). s.name))) in
    record { fits = g.0.fits; in_range = record { name = g.0.utf8; handlers = none_in_range }; first = g.1 }

states_filled : (n : ℕ) (before : List StateSpec) → HasNames n before → (xs : List StateSpec) × (length xs ≡ n) × AllAfter StateGood before xs
states_filled zero before fine = ([], refl, tt)
states_filled (suc n) before fine =
    let x = fresh_state before in
    let r = states_filled n (before ++ x ∷ []) (omega (arith, fine, length-append before (x ∷ []))) in
    (x ∷ r.0, ap suc r.1, (fresh_state_good before (omega (arith, fine)), r.2))

states_entries : Entries state_at state_bytes state_fields StateGood HasNames
states_entries = record {
  some = record { name = []; handlers = no_handlers };
  part = λ n before fine. state_part before (omega (arith, fine));
  step = λ n before x fine. omega (arith, fine, length-append before (x ∷ []));
  fill = states_filled;
}

state_spelled : (s : StateSpec) → bytes_of (state_fields s) ≡ state_bytes s
state_spelled s = (state_part [] (omega arith)).spells s

pub states_part : (n : ℕ) → n ≤ 1024 → Part (items_at state_at n []) (flat_map state_bytes) (flat_map state_fields) (TableGood StateGood [] n)
states_part n few = table_part state_at state_bytes state_fields StateGood HasNames states_entries state_field state_spelled n (omega (arith, few))

pub states_fill : (n : ℕ) → n ≤ 1024 → (xs : List StateSpec) × (length xs ≡ n) × AllAfter StateGood [] xs
states_fill n few = states_filled n [] (omega (arith, few))

empty_routine : Routine
empty_routine = record { params = record { items = [] }; results = record { items = [] }; code = [] }

empty_good : (version room : ℕ) → RoutineGood version room empty_routine
unfolding empty_routine
empty_good version room = made_good version room [] [] 0 [] (omega arith, inr refl) (no_results version) (omega arith) (omega arith) no_code

pub routines_part : (version n : ℕ) → IsVersion version → Part (items_at (routine_after version) n []) (flat_map (routine_bytes version)) (flat_map (routine_fields version)) (TableGood (IsGood version) [] n)
routines_part version n is =
    table_part (routine_after version) (routine_bytes version) (routine_fields version) (IsGood version) AlwaysFine
    (alike (routine_after version) (routine_bytes version) (routine_fields version) (IsGood version) (λ before. routine_part version (room_after version before) is) empty_routine (λ before. empty_good version (room_after version before)))
    (λ before. routine_field version (room_after version before) is) (routine_spelled version is) n tt

pub routines_fill : (version n : ℕ) → (xs : List Routine) × (length xs ≡ n) × AllAfter (IsGood version) [] xs
routines_fill version n = same_fill (IsGood version) empty_routine (λ before. empty_good version (room_after version before)) n []
