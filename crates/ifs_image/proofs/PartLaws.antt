-- Laws of the parts of an image: reading a part is the inverse of spelling it.
use Rattle.std.proofs.Common.{◌≡◌, ◌≢◌, ℕ, ◌+◌, ◌^◌, ◌≤◌, true, false, cond, eqb}
use Rattle.std.proofs.Common.{ltb, List, [], ◌++◌, length, get_or, inl, inr}
use Rattle.std.proofs.Common.{Ok, Err, refl, sym, ap, subst, ◌∙◌, append_assoc, arith, All}
use Rattle.std.specs.Prelude.{◌||◌, not, ◌==◌, ◌⊎◌, min, IsUtf8}
use Rattle.std.specs.Int.{w16, w32, w64, to_be_bytes}
use Rattle.std.specs.List.{list_any, flat_map}
use Rattle.std.specs.Option.{ok_or}
use Rattle.std.specs.Str.{is_utf8}
use Rattle.std.proofs.lemmas.Bool.{eqb-true, ltb-false, le-ltb, false_from_ne_true, and_parts, not-true, or_parts}
use Rattle.std.proofs.lemmas.Bool.Decides.{Decides-by_or, Decides-eqb, not_from_Decides}
use Rattle.std.proofs.lemmas.List.{length-append, get_or_default}
use Rattle.std.proofs.lemmas.List.Folds.{list_any_none}
use Rattle.std.proofs.lemmas.Str.{is_utf8-from_IsUtf8, IsUtf8-from_is_utf8}
use Rattle.ifs_base.specs.declared.op.Op.{Op}
use Rattle.ifs_base.specs.declared.op.Op.TheVariants.{Ret}
use Rattle.ifs_base.specs.Spelling.{spelling, op_of, HasSpelling}
use Rattle.ifs_image.specs.declared.fault.ImageFault.TheVariants.{BadText, RepeatedName, NoInstruction}
use Rattle.ifs_image.specs.declared.parts.Handlers.{Handlers}
use Rattle.ifs_image.specs.declared.parts.TestSpec.{TestSpec}
use Rattle.ifs_image.specs.declared.parts.StateSpec.{StateSpec}
use Rattle.ifs_image.specs.declared.parts.Routine.{Routine}
use Rattle.ifs_base.specs.Sizes.{TextFits}
use Rattle.ifs_base.specs.Results.{◌>>=◌}
use Rattle.ifs_image.specs.Limits.{TestFits, HandlersInRange, StateInRange, IsVersion, IsPlain, RoutineFits, names_of}
use Rattle.ifs_image.specs.Spelling.{handlers_bytes, text_bytes, test_bytes, state_bytes}
use Rattle.ifs_image.specs.Spelling.{params_bytes, results_bytes, routine_bytes}
use Rattle.ifs_image.specs.Reading.{Cursor, cursor, bytes_at, number_at, number_within}
use Rattle.ifs_image.specs.Reading.{handlers_at, length_at, is_text, text_sized, text_at, stands_in, name_at}
use Rattle.ifs_image.specs.Reading.{test_at, state_at, instruction_at, items_at, params_at, results_at, routine_at}
use Rattle.ifs_image.proofs.FieldLaws.{IsBytes, bind_ok, again_bind, guard_ok, passed_ok, ok_is, Took}
use Rattle.ifs_image.proofs.FieldLaws.{Took-then, IsField, bytes_again, bytes_taken, wide16, wide64, number_field}
use Rattle.ifs_image.proofs.FieldLaws.{within16, within32, AllAfter, table_field}
use Rattle.ifs_image.proofs.KindLaws.{AreTruths, ok_or_ok, params_field, results_field}
use Rattle.ifs_image.proofs.Ops.{op_of-spelling, op_of-spelled}

-- ---- texts

-- A text fits, and is UTF-8.
pub record TextGood (t : List ℕ) : Type 0 where
  pub fits : TextFits t
  pub utf8 : IsUtf8 t

nul_free : (t : List ℕ) → list_any (λ byte. byte == 0) t ≡ false → All (λ byte. byte ≢ 0) t
nul_free t e k d lt at =
    not_from_Decides (list_any (λ byte. byte == 0) t) (Decides-by_or (λ byte. byte == 0) (λ byte. byte ≡ 0) (λ bytes. list_any (λ byte. byte == 0) bytes) (λ byte. Decides-eqb byte 0) refl (λ _ _. refl) t) e
    (k, lt, λ d'. get_or_default t k d' d lt ∙ at)

pub free_nul : (t : List ℕ) → All (λ byte. byte ≢ 0) t → list_any (λ byte. byte == 0) t ≡ false
free_nul t free = list_any_none (λ byte. byte == 0) t (λ k d lt. false_from_ne_true (get_or t k d == 0) (λ e. free k d lt (eqb-true _ _ e)))

pub text_true : (t : List ℕ) → TextGood t → is_text t ≡ true
unfolding is_text
text_true t good = rw (is_utf8-from_IsUtf8 t good.utf8, free_nul t good.fits.no_nul) refl

pub text_parts : (t : List ℕ) → is_text t ≡ true → IsUtf8 t × All (λ byte. byte ≢ 0) t
unfolding is_text
text_parts t e =
    let s = and_parts (is_utf8 t) (not (list_any (λ byte. byte == 0) t)) e in
    (IsUtf8-from_is_utf8 t s.0, nul_free t (not-true _ s.1))

pub length_field : IsField length_at (to_be_bytes w16) (λ n. (1 ≤ n) × (n ≤ 1024))
unfolding length_at
length_field = record {
  again = λ n at rest fits.
      let some : eqb n 0 ≡ false = false_from_ne_true (eqb n 0) (λ e. let z = eqb-true n 0 e in omega arith) in
      let few : ltb 1024 n ≡ false = le-ltb _ _ fits.1 in
      again_bind _ _ _ _ ((number_field w16 (2 ^ 16) wide16).again n at rest (omega (arith, fits.1))) (rw (some, few) refl);
  taken = λ p y fits e.
      let b = bind_ok (number_at w16 p) (λ n. cond ((n.0 == 0) || ltb 1024 n.0) (Err (BadText p.at)) (Ok n)) y e in
      let t = (number_field w16 (2 ^ 16) wide16).taken p b.0 fits b.1 in
      let g = guard_ok ((b.0.0 == 0) || ltb 1024 b.0.0) (BadText p.at) b.0 y b.2 in
      let o = or_parts (b.0.0 == 0) (ltb 1024 b.0.0) g.0 in
      let few : b.0.0 ≤ 1024 = ltb-false _ _ o.1 in
      let some : b.0.0 ≢ 0 = not_from_Decides (b.0.0 == 0) (Decides-eqb b.0.0 0) o.0 in
      subst (λ (z : ℕ × Cursor). Took p.left (to_be_bytes w16 z.0) z.1.left × ((1 ≤ z.0) × (z.0 ≤ 1024))) g.1
      (t.0, (omega (arith, some), few));
}

text_of_again : (t rest : List ℕ) (at n : ℕ) → length t ≡ n → is_text t ≡ true → text_sized n (cursor at (t ++ rest)) ≡ Ok (t, cursor (at + n) rest)
unfolding text_sized
text_of_again t rest at n len good = rw (bytes_again t rest at n len, good) refl

pub text_of_taken : (n : ℕ) (p : Cursor) (y : List ℕ × Cursor) → IsBytes p.left → text_sized n p ≡ Ok y → Took p.left y.0 y.1.left × (length y.0 ≡ n) × (is_text y.0 ≡ true)
unfolding text_sized
text_of_taken n p y fits e =
    let b = bind_ok (bytes_at n p) (λ bytes. cond (is_text bytes.0) (Ok bytes) (Err (BadText p.at))) y e in
    let t = bytes_taken n p b.0 fits b.1 in
    let g = passed_ok (is_text b.0.0) (BadText p.at) b.0 y b.2 in
    subst (λ (z : List ℕ × Cursor). Took p.left z.0 z.1.left × (length z.0 ≡ n) × (is_text z.0 ≡ true)) g.1 (t.0, t.1, g.0)

-- A length and the text after it, read together.
length_then_text : (p : Cursor) (n : ℕ × Cursor) (t : List ℕ × Cursor) → IsBytes p.left → length_at p ≡ Ok n → text_sized n.0 n.1 ≡ Ok t → Took p.left (text_bytes t.0) t.1.left × TextGood t.0
unfolding text_bytes
length_then_text p n t fits first second =
    let a = length_field.taken p n fits first in
    let b = text_of_taken n.0 n.1 t a.0.rest_fits second in
    let whole : Took p.left (to_be_bytes w16 n.0 ++ t.0) t.1.left = Took-then a.0 b.0 in
    let parts = text_parts t.0 b.2 in (
      subst (λ (k : ℕ). Took p.left (to_be_bytes w16 k ++ t.0) t.1.left) (sym b.1) whole,
      record { fits = record { not_empty = omega (arith, b.1, a.1.0); within = omega (arith, b.1, a.1.1); no_nul = parts.1 }; utf8 = parts.0 },
    )

length_of_again : (t rest : List ℕ) (at : ℕ) → TextGood t → length_at (cursor at (text_bytes t ++ rest)) ≡ Ok (length t, cursor (at + 2) (t ++ rest))
unfolding text_bytes
length_of_again t rest at good = length_field.again (length t) at (t ++ rest) (good.fits.not_empty, good.fits.within)

length-text_bytes : (t : List ℕ) (at : ℕ) → at + 2 + length t ≡ at + length (text_bytes t)
unfolding text_bytes
length-text_bytes t at = omega (arith, length-append (to_be_bytes w16 (length t)) t)

pub text_field : IsField text_at text_bytes TextGood
unfolding text_at
text_field = record {
  again = λ t at rest good.
      again_bind _ _ _ _ (length_of_again t rest at good)
      (text_of_again t rest (at + 2) (length t) refl (text_true t good) ∙ ap (λ (k : ℕ). Ok (t, cursor k rest)) (length-text_bytes t at));
  taken = λ p y fits e.
      let b = bind_ok (length_at p) (λ n. text_sized n.0 n.1) y e in
      length_then_text p b.0 y fits b.1 b.2;
}

pub name_field : (before : List (List ℕ)) → IsField (name_at before) text_bytes (λ t. TextGood t × (stands_in t before ≡ false))
unfolding name_at
name_field before = record {
  again = λ t at rest good.
      again_bind _ _ _ _ (length_of_again t rest at good.0)
      (again_bind _ _ _ _ (text_of_again t rest (at + 2) (length t) refl (text_true t good.0))
      (rw good.1 (ap (λ (k : ℕ). Ok (t, cursor k rest)) (length-text_bytes t at))));
  taken = λ p y fits e.
      let b = bind_ok (length_at p) (λ n. text_sized n.0 n.1 >>= λ name. cond (stands_in name.0 before) (Err (RepeatedName n.1.at)) (Ok name)) y e in
      let t = bind_ok (text_sized b.0.0 b.0.1) (λ name. cond (stands_in name.0 before) (Err (RepeatedName b.0.1.at)) (Ok name)) y b.2 in
      let g = guard_ok (stands_in t.0.0 before) (RepeatedName b.0.1.at) t.0 y t.2 in
      let w = length_then_text p b.0 t.0 fits b.1 t.1 in
      subst (λ (z : List ℕ × Cursor). Took p.left (text_bytes z.0) z.1.left × (TextGood z.0 × (stands_in z.0 before ≡ false))) g.1 (w.0, (w.1, g.0));
}

-- ---- handlers, tests, states

pub handlers_field : IsField handlers_at handlers_bytes HandlersInRange
unfolding handlers_at handlers_bytes
handlers_field = record {
  again = λ h at rest good.
      let a = (number_field w16 (2 ^ 16) wide16).again h.init.0 at (to_be_bytes w16 h.body.0 ++ (to_be_bytes w64 h.mask ++ rest)) good.init in
      let b = (number_field w16 (2 ^ 16) wide16).again h.body.0 (at + 2) (to_be_bytes w64 h.mask ++ rest) good.body in
      let m = (number_field w64 (2 ^ 64) wide64).again h.mask (at + 2 + 2) rest good.mask in
      again_bind _ _ _ _ a (again_bind _ _ _ _ b (again_bind _ _ _ _ m (ap (λ (k : ℕ). Ok (h, cursor k rest)) (omega arith))));
  taken = λ p y fits e.
      let a = bind_ok (number_at w16 p) (λ init. number_at w16 init.1 >>= λ body. number_at w64 body.1 >>= λ mask. Ok (record { init = record { 0 = init.0 }; body = record { 0 = body.0 }; mask = mask.0 }, mask.1)) y e in
      let b = bind_ok (number_at w16 a.0.1) (λ body. number_at w64 body.1 >>= λ mask. Ok (record { init = record { 0 = a.0.0 }; body = record { 0 = body.0 }; mask = mask.0 }, mask.1)) y a.2 in
      let m = bind_ok (number_at w64 b.0.1) (λ mask. Ok (record { init = record { 0 = a.0.0 }; body = record { 0 = b.0.0 }; mask = mask.0 }, mask.1)) y b.2 in
      let ta = (number_field w16 (2 ^ 16) wide16).taken p a.0 fits a.1 in
      let tb = (number_field w16 (2 ^ 16) wide16).taken a.0.1 b.0 ta.0.rest_fits b.1 in
      let tm = (number_field w64 (2 ^ 64) wide64).taken b.0.1 m.0 tb.0.rest_fits m.1 in
      let made : Handlers × Cursor = (record { init = record { 0 = a.0.0 }; body = record { 0 = b.0.0 }; mask = m.0.0 }, m.0.1) in
      subst (λ (z : Handlers × Cursor). Took p.left (handlers_bytes z.0) z.1.left × HandlersInRange z.0) (ok_is made y m.2)
      (Took-then (Took-then ta.0 tb.0) tm.0, record { init = ta.1; body = tb.1; mask = tm.1 });
}

-- A test fits, and its command is UTF-8.
pub record TestGood (t : TestSpec) : Type 0 where
  pub fits : TestFits t
  pub utf8 : IsUtf8 t.text

pub test_field : IsField test_at test_bytes TestGood
unfolding test_at test_bytes
test_field = record {
  again = λ t at rest good.
      let regrouped : test_bytes t ++ rest ≡ to_be_bytes w32 t.period ++ (text_bytes t.text ++ rest) = append_assoc (to_be_bytes w32 t.period) (text_bytes t.text) rest in
      let a = (within32 1 604800 (omega arith)).again t.period at (text_bytes t.text ++ rest) (good.fits.period.not_zero, good.fits.period.within) in
      let b = text_field.again t.text (at + 4) rest (record { fits = good.fits.text; utf8 = good.utf8 }) in
      ap (λ (bytes : List ℕ). test_at (cursor at bytes)) regrouped
      ∙ again_bind _ _ _ _ a (again_bind _ _ _ _ b (ap (λ (k : ℕ). Ok (t, cursor k rest)) (omega (arith, length-append (to_be_bytes w32 t.period) (text_bytes t.text)))));
  taken = λ p y fits e.
      let a = bind_ok (number_within w32 1 604800 p) (λ period. text_at period.1 >>= λ text. Ok (record { period = period.0; text = text.0 }, text.1)) y e in
      let b = bind_ok (text_at a.0.1) (λ text. Ok (record { period = a.0.0; text = text.0 }, text.1)) y a.2 in
      let ta = (within32 1 604800 (omega arith)).taken p a.0 fits a.1 in
      let tb = text_field.taken a.0.1 b.0 ta.0.rest_fits b.1 in
      let made : TestSpec × Cursor = (record { period = a.0.0; text = b.0.0 }, b.0.1) in
      subst (λ (z : TestSpec × Cursor). Took p.left (test_bytes z.0) z.1.left × TestGood z.0) (ok_is made y b.2)
      (Took-then ta.0 tb.0, record { fits = record { period = record { not_zero = ta.1.0; within = ta.1.1 }; text = tb.1.fits }; utf8 = tb.1.utf8 });
}

-- A state fits, and no earlier state has its name.
pub record StateGood (before : List StateSpec) (s : StateSpec) : Type 0 where
  pub fits : TextFits s.name
  pub in_range : StateInRange s
  pub first : stands_in s.name (names_of before) ≡ false

pub state_field : (before : List StateSpec) → IsField (state_at before) state_bytes (StateGood before)
unfolding state_at state_bytes
state_field before = record {
  again = λ s at rest good.
      let regrouped : state_bytes s ++ rest ≡ text_bytes s.name ++ (handlers_bytes s.handlers ++ rest) = append_assoc (text_bytes s.name) (handlers_bytes s.handlers) rest in
      let a = (name_field (names_of before)).again s.name at (handlers_bytes s.handlers ++ rest) (record { fits = good.fits; utf8 = good.in_range.name }, good.first) in
      let b = handlers_field.again s.handlers (at + length (text_bytes s.name)) rest good.in_range.handlers in
      ap (λ (bytes : List ℕ). state_at before (cursor at bytes)) regrouped
      ∙ again_bind _ _ _ _ a (again_bind _ _ _ _ b (ap (λ (k : ℕ). Ok (s, cursor k rest)) (omega (arith, length-append (text_bytes s.name) (handlers_bytes s.handlers)))));
  taken = λ p y fits e.
      let a = bind_ok (name_at (names_of before) p) (λ name. handlers_at name.1 >>= λ handlers. Ok (record { name = name.0; handlers = handlers.0 }, handlers.1)) y e in
      let b = bind_ok (handlers_at a.0.1) (λ handlers. Ok (record { name = a.0.0; handlers = handlers.0 }, handlers.1)) y a.2 in
      let ta = (name_field (names_of before)).taken p a.0 fits a.1 in
      let tb = handlers_field.taken a.0.1 b.0 ta.0.rest_fits b.1 in
      let made : StateSpec × Cursor = (record { name = a.0.0; handlers = b.0.0 }, b.0.1) in
      subst (λ (z : StateSpec × Cursor). Took p.left (state_bytes z.0) z.1.left × StateGood before z.0) (ok_is made y b.2)
      (Took-then ta.0 tb.0, record { fits = ta.1.0.fits; in_range = record { name = ta.1.0.utf8; handlers = tb.1 }; first = ta.1.1 });
}

-- ---- instructions and routines

pub length-spelling : (op : Op) → length (spelling op) ≡ 4
length-spelling Ret = refl
length-spelling op = refl

pub op_field : IsField instruction_at spelling HasSpelling
unfolding instruction_at
op_field = record {
  again = λ op at rest good.
      let len = length-spelling op in
      again_bind _ _ _ _ (bytes_again (spelling op) rest at 4 len) (rw (op_of-spelling op good) (ap (λ (k : ℕ). Ok (op, cursor (at + k) rest)) (sym len)));
  taken = λ p y fits e.
      let b = bind_ok (bytes_at 4 p) (λ bytes. ok_or (op_of bytes.0) (NoInstruction p.at) >>= λ op. Ok (op, bytes.1)) y e in
      let o = bind_ok (ok_or (op_of b.0.0) (NoInstruction p.at)) (λ op. Ok (op, b.0.1)) y b.2 in
      let t = bytes_taken 4 p b.0 fits b.1 in
      let s = op_of-spelled b.0.0 o.0 t.1 t.2 (ok_or_ok (op_of b.0.0) (NoInstruction p.at) o.0 o.1) in
      subst (λ (z : Op × Cursor). Took p.left (spelling z.0) z.1.left × HasSpelling z.0) (ok_is (o.0, b.0.1) y o.2)
      (subst (λ (text : List ℕ). Took p.left text b.0.1.left) s.0 t.0, s.1);
}

-- A routine fits, and fits into the room that is left.
pub record RoutineGood (version room : ℕ) (r : Routine) : Type 0 where
  pub fits : RoutineFits version r
  pub within : length r.code ≤ room
  pub params : length r.params.items ≤ 4
  pub results : length r.results.items ≤ 4
  pub code : AllAfter (λ _. HasSpelling) [] r.code

pub code_field : (n : ℕ) → IsField (items_at (λ _. instruction_at) n []) (flat_map spelling) (λ code. (length code ≡ n) × AllAfter (λ _. HasSpelling) [] code)
code_field n = table_field (λ _. instruction_at) spelling (λ _. HasSpelling) (λ _. op_field) n

-- A routine is plain or of version 2, by its two lists.
pub plain_or : (version : ℕ) (r : Routine) → (version ≡ 2) ⊎ (r.params.items ≡ []) → (version ≡ 2) ⊎ AreTruths r.results.items → (version ≡ 2) ⊎ IsPlain r
plain_or version r (inl two) b = inl two
plain_or version r (inr none) (inl two) = inl two
plain_or version r (inr none) (inr truths) = inr (record { params = none; results = truths })

pub or_params : (version : ℕ) (r : Routine) → (version ≡ 2) ⊎ IsPlain r → (version ≡ 2) ⊎ (r.params.items ≡ [])
or_params version r (inl two) = inl two
or_params version r (inr plain) = inr plain.params

pub or_results : (version : ℕ) (r : Routine) → (version ≡ 2) ⊎ IsPlain r → (version ≡ 2) ⊎ AreTruths r.results.items
or_results version r (inl two) = inl two
or_results version r (inr plain) = inr plain.results

pub routine_field : (version room : ℕ) → IsVersion version → IsField (routine_at version room) (routine_bytes version) (RoutineGood version room)
unfolding routine_at routine_bytes
routine_field version room is = record {
  again = λ r at rest good.
      let code = flat_map spelling r.code ++ rest in
      let counted = to_be_bytes w16 (length r.code) ++ code in
      let regrouped : routine_bytes version r ++ rest ≡ params_bytes version r.params.items ++ (results_bytes version r.results.items ++ counted) = simp append_assoc in
      let k1 = at + length (params_bytes version r.params.items) in
      let k2 = k1 + length (results_bytes version r.results.items) in
      let a = (params_field version is).again r.params.items at (results_bytes version r.results.items ++ counted) (good.params, or_params version r good.fits.kinds) in
      let b = (results_field version is).again r.results.items k1 counted (good.results, or_results version r good.fits.kinds) in
      let c = (within16 0 (min room 1024) (omega arith)).again (length r.code) k2 code (omega arith, omega (arith, good.fits.code, good.within)) in
      let d = (code_field (length r.code)).again r.code (k2 + 2) rest (refl, good.code) in
      let sums : k2 + 2 + length (flat_map spelling r.code) ≡ at + length (routine_bytes version r) = omega (arith, length-append (((params_bytes version r.params.items ++ results_bytes version r.results.items)) ++ to_be_bytes w16 (length r.code)) (flat_map spelling r.code), length-append (params_bytes version r.params.items ++ results_bytes version r.results.items) (to_be_bytes w16 (length r.code)), length-append (params_bytes version r.params.items) (results_bytes version r.results.items)) in
      ap (λ (bytes : List ℕ). routine_at version room (cursor at bytes)) regrouped
      ∙ again_bind _ _ _ _ a (again_bind _ _ _ _ b (again_bind _ _ _ _ c (again_bind _ _ _ _ d (ap (λ (k : ℕ). Ok (r, cursor k rest)) sums))));
  taken = λ p y fits e.
      let a = bind_ok (params_at version p) (λ params. results_at version params.1 >>= λ results. number_within w16 0 (min room 1024) results.1 >>= λ n. items_at (λ _. instruction_at) n.0 [] n.1 >>= λ code. Ok (record { params = record { items = params.0 }; results = record { items = results.0 }; code = code.0 }, code.1)) y e in
      let b = bind_ok (results_at version a.0.1) (λ results. number_within w16 0 (min room 1024) results.1 >>= λ n. items_at (λ _. instruction_at) n.0 [] n.1 >>= λ code. Ok (record { params = record { items = a.0.0 }; results = record { items = results.0 }; code = code.0 }, code.1)) y a.2 in
      let c = bind_ok (number_within w16 0 (min room 1024) b.0.1) (λ n. items_at (λ _. instruction_at) n.0 [] n.1 >>= λ code. Ok (record { params = record { items = a.0.0 }; results = record { items = b.0.0 }; code = code.0 }, code.1)) y b.2 in
      let d = bind_ok (items_at (λ _. instruction_at) c.0.0 [] c.0.1) (λ code. Ok (record { params = record { items = a.0.0 }; results = record { items = b.0.0 }; code = code.0 }, code.1)) y c.2 in
      let ta = (params_field version is).taken p a.0 fits a.1 in
      let tb = (results_field version is).taken a.0.1 b.0 ta.0.rest_fits b.1 in
      let tc = (within16 0 (min room 1024) (omega arith)).taken b.0.1 c.0 tb.0.rest_fits c.1 in
      let td = (code_field c.0.0).taken c.0.1 d.0 tc.0.rest_fits d.1 in
      let made : Routine = record { params = record { items = a.0.0 }; results = record { items = b.0.0 }; code = d.0.0 } in
      let whole : Took p.left (((params_bytes version a.0.0 ++ results_bytes version b.0.0) ++ to_be_bytes w16 c.0.0) ++ flat_map spelling d.0.0) d.0.1.left = Took-then (Took-then (Took-then ta.0 tb.0) tc.0) td.0 in
      subst (λ (z : Routine × Cursor). Took p.left (routine_bytes version z.0) z.1.left × RoutineGood version room z.0) (ok_is (made, d.0.1) y d.2) (
        subst (λ (k : ℕ). Took p.left (((params_bytes version a.0.0 ++ results_bytes version b.0.0) ++ to_be_bytes w16 k) ++ flat_map spelling d.0.0) d.0.1.left) (sym td.1.0) whole,
        record { fits = record { kinds = plain_or version made ta.1.1 tb.1.1; code = omega (arith, td.1.0, tc.1.1) }; within = omega (arith, td.1.0, tc.1.1); params = ta.1.0; results = tb.1.0; code = td.1.1 },
      );
}
