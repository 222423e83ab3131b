-- What lines build has just these lines.
use Rattle.std.proofs.Common.{◌≡◌, ℕ, suc, ◌<◌, ◌≤◌, Bool, true, false, cond, List, [], ◌∷◌, ◌++◌, length, map}
use Rattle.std.proofs.Common.{take, Option, Some, None, refl, sym, ap, subst, ◌∙◌, arith, append_assoc, inl, inr}
use Rattle.std.specs.Prelude.{◌==◌, ◌&&◌, ◌||◌, not, nat_lt, option_and_then, is_some}
use Rattle.std.specs.List.{flat_map, AllByRecursion, AllZip}
use Rattle.std.proofs.lemmas.Bool.{and_parts, eqb-true, not-true, cases_lt, lt-ltb}
use Rattle.std.proofs.lemmas.Option.{option_and_then_some, same_Some}
use Rattle.std.proofs.lemmas.List.{append-nil, map-append}
use Rattle.std.proofs.lemmas.List.Concat.{flat_map-append}
use Rattle.ifs_base.specs.declared.op.Op.{Op}
use Rattle.ifs_image.specs.declared.parts.TestSpec.{TestSpec}
use Rattle.ifs_image.specs.declared.parts.StateSpec.{StateSpec}
use Rattle.ifs_image.specs.declared.parts.Routine.{Routine}
use Rattle.ifs_image.specs.declared.parts.ImageParts.{ImageParts}
use Rattle.ifs_asm.specs.declared.line.Version.{Version}
use Rattle.ifs_asm.specs.declared.line.Version.TheVariants.{One, Two}
use Rattle.ifs_asm.specs.declared.line.Head.{Head}
use Rattle.ifs_asm.specs.declared.line.Line.{Line}
use Rattle.ifs_asm.specs.declared.line.Line.TheVariants as lines
use Rattle.ifs_asm.specs.Texts.{front_lines, head_of, routine_lines, lines_of}
use Rattle.ifs_asm.specs.Spellings.{SaysLine}
use Rattle.ifs_asm.specs.inner.Building.{Built, listed_routine, parts_said, lines_said, has_no_form, is_full}
use Rattle.ifs_asm.specs.inner.Building.{is_in_order, with_line, with_op, one_line_more, line_in, built_by}
use Rattle.ifs_asm.specs.inner.Building.{nothing, is_none, begun, is_of_other}
use Rattle.ifs_asm.specs.Refused.{LineFits}
use Rattle.ifs_asm.proofs.TextLaws.{line_in_found}
use Rattle.ifs_asm.proofs.Versions.{version_back, head_back, begun_code}

-- ---- lines with one more

abbrev pub said : Version → List Line → List (List ℕ) → List TestSpec → List (List ℕ) → List StateSpec → List Routine → List Line
said v f i t c s r = f ++ map lines.Interface i ++ map lines.Test t ++ map lines.Command c ++ map lines.State s ++ flat_map (routine_lines v) r

said_front : (v : Version) (f : List Line) (i : List (List ℕ)) (t : List TestSpec) (c : List (List ℕ)) (s : List StateSpec) (r : List Routine) → i ≡ [] → t ≡ [] → c ≡ [] → s ≡ [] → r ≡ [] → said v f i t c s r ≡ f
said_front v f i t c s r ei et ec es er = rw (ei, et, ec, es, er) (simp append-nil)

said_interface : (v : Version) (f : List Line) (i : List (List ℕ)) (t : List TestSpec) (c : List (List ℕ)) (s : List StateSpec) (r : List Routine) (x : List ℕ) → t ≡ [] → c ≡ [] → s ≡ [] → r ≡ [] → said v f (i ++ x ∷ []) t c s r ≡ said v f i t c s r ++ lines.Interface x ∷ []
said_interface v f i t c s r x et ec es er = rw (et, ec, es, er) (simp (append-nil, map-append, append_assoc))

said_test : (v : Version) (f : List Line) (i : List (List ℕ)) (t : List TestSpec) (c : List (List ℕ)) (s : List StateSpec) (r : List Routine) (x : TestSpec) → c ≡ [] → s ≡ [] → r ≡ [] → said v f i (t ++ x ∷ []) c s r ≡ said v f i t c s r ++ lines.Test x ∷ []
said_test v f i t c s r x ec es er = rw (ec, es, er) (simp (append-nil, map-append, append_assoc))

said_command : (v : Version) (f : List Line) (i : List (List ℕ)) (t : List TestSpec) (c : List (List ℕ)) (s : List StateSpec) (r : List Routine) (x : List ℕ) → s ≡ [] → r ≡ [] → said v f i t (c ++ x ∷ []) s r ≡ said v f i t c s r ++ lines.Command x ∷ []
said_command v f i t c s r x es er = rw (es, er) (simp (append-nil, map-append, append_assoc))

said_state : (v : Version) (f : List Line) (i : List (List ℕ)) (t : List TestSpec) (c : List (List ℕ)) (s : List StateSpec) (r : List Routine) (x : StateSpec) → r ≡ [] → said v f i t c (s ++ x ∷ []) r ≡ said v f i t c s r ++ lines.State x ∷ []
said_state v f i t c s r x er = rw er (simp (append-nil, map-append, append_assoc))

said_routine : (v : Version) (f : List Line) (i : List (List ℕ)) (t : List TestSpec) (c : List (List ℕ)) (s : List StateSpec) (r : List Routine) (x : Routine) → said v f i t c s (r ++ x ∷ []) ≡ said v f i t c s r ++ routine_lines v x
said_routine v f i t c s r x =
    let front = f ++ map lines.Interface i ++ map lines.Test t ++ map lines.Command c ++ map lines.State s in
    let more : flat_map (routine_lines v) (r ++ x ∷ []) ≡ flat_map (routine_lines v) r ++ routine_lines v x = flat_map-append (routine_lines v) r (x ∷ []) ∙ ap (λ (ls : List Line). flat_map (routine_lines v) r ++ ls) (append-nil (routine_lines v x)) in
    ap (λ (ls : List Line). front ++ ls) more ∙ sym (append_assoc front (flat_map (routine_lines v) r) (routine_lines v x))

-- ---- what holds of all that was built

pub record Sound (b : Built) : Type 0 where
  pub front : b.front ≤ 7
  pub interfaces : b.front < 7 → b.interfaces ≡ []
  pub tests : b.front < 7 → b.tests ≡ []
  pub commands : b.front < 7 → b.commands ≡ []
  pub states : b.front < 7 → b.states ≡ []
  pub current : b.states ≡ [] → b.current ≡ None
  pub routines : b.current ≡ None → b.routines ≡ []

pub nothing_sound : Sound nothing
nothing_sound = record { front = omega arith; interfaces = λ _. refl; tests = λ _. refl; commands = λ _. refl; states = λ _. refl; current = λ _. refl; routines = λ _. refl }

-- A line was added.
pub record IsSaid (b c : Built) (l : Line) : Type 0 where
  pub sound : Sound c
  pub lines : lines_said c ≡ lines_said b ++ l ∷ []

none_listed : (o : Option Routine) → o ≡ None → listed_routine o ≡ []
none_listed None e = refl
none_listed (Some r) e = absurd cc

no_routines : (rs : List Routine) (o : Option Routine) → rs ≡ [] → o ≡ None → rs ++ listed_routine o ≡ []
no_routines rs o er eo = rw (er, none_listed o eo) refl

-- The lines before the tables are the only ones.
before_tables : (b : Built) → Sound b → b.front < 7 → lines_said b ≡ take b.front (front_lines (parts_said b))
before_tables b s lt =
    let none = s.current (s.states lt) in
    said_front b.version (take b.front (front_lines (parts_said b))) b.interfaces b.tests b.commands b.states (b.routines ++ listed_routine b.current) (s.interfaces lt) (s.tests lt) (s.commands lt) (s.states lt) (no_routines b.routines b.current (s.routines none) none)

-- Adds a line before the tables.
front_said : (b c : Built) (l : Line) (k : ℕ) → Sound b → b.front ≡ k → k < 7 → c.front ≡ suc k → c.interfaces ≡ b.interfaces → c.tests ≡ b.tests → c.commands ≡ b.commands → c.states ≡ b.states → c.routines ≡ b.routines → c.current ≡ b.current
    → take (suc k) (front_lines (parts_said c)) ≡ take k (front_lines (parts_said b)) ++ l ∷ [] → IsSaid b c l
front_said b c l k s at lt next ei et ec es er eo more =
    let below : b.front < 7 = omega arith in
    let none = s.current (s.states below) in
    let now : Sound c = record {
      front = omega arith;
      interfaces = λ _. ei ∙ s.interfaces below;
      tests = λ _. et ∙ s.tests below;
      commands = λ _. ec ∙ s.commands below;
      states = λ _. es ∙ s.states below;
      current = λ _. eo ∙ none;
      routines = λ _. er ∙ s.routines none;
    } in
    let whole : lines_said c ≡ take c.front (front_lines (parts_said c)) = said_front c.version (take c.front (front_lines (parts_said c))) c.interfaces c.tests c.commands c.states (c.routines ++ listed_routine c.current) (ei ∙ s.interfaces below) (et ∙ s.tests below) (ec ∙ s.commands below) (es ∙ s.states below) (no_routines c.routines c.current (er ∙ s.routines none) (eo ∙ none)) in
    record {
      sound = now;
      lines = whole ∙ ap (λ (n : ℕ). take n (front_lines (parts_said c))) next ∙ more ∙ ap (λ (n : ℕ). take n (front_lines (parts_said b)) ++ l ∷ []) (sym at) ∙ ap (λ (ls : List Line). ls ++ l ∷ []) (sym (before_tables b s below));
    }

is_nil : {X : Type 0} (xs : List X) → is_none xs ≡ true → xs ≡ []
is_nil [] e = refl
is_nil (x ∷ xs) e = absurd cc

no_current : (o : Option Routine) → not (is_some o) ≡ true → o ≡ None
no_current None e = refl
no_current (Some r) e = absurd cc

nonempty : {X : Type 0} (xs : List X) → is_none xs ≡ false → xs ≡ [] → ⊥
nonempty [] e h = absurd cc
nonempty (x ∷ xs) e h = absurd cc

none_some : (r : Routine) → ◌≡◌ {A = Option Routine} (Some r) None → ⊥
none_some r e = absurd cc

same_head : (v : Version) (r : Routine) (code : List Op) → head_of v (record r { code = code }) ≡ head_of v r
same_head One r code = refl
same_head Two r code = refl

op_lines : (v : Version) (f : List Line) (i : List (List ℕ)) (t : List TestSpec) (c : List (List ℕ)) (s : List StateSpec) (rs : List Routine) (r : Routine) (op : Op)
    → said v f i t c s (rs ++ record r { code = r.code ++ op ∷ [] } ∷ []) ≡ said v f i t c s (rs ++ r ∷ []) ++ lines.Instruction op ∷ []
op_lines v f i t c s rs r op =
    let more : routine_lines v (record r { code = r.code ++ op ∷ [] }) ≡ routine_lines v r ++ lines.Instruction op ∷ [] = ap (λ (h : Head). lines.Routine h ∷ map lines.Instruction (r.code ++ op ∷ [])) (same_head v r (r.code ++ op ∷ [])) ∙ ap (λ (ls : List Line). lines.Routine (head_of v r) ∷ ls) (map-append lines.Instruction r.code (op ∷ [])) in
    said_routine v f i t c s rs (record r { code = r.code ++ op ∷ [] }) ∙ ap (λ (ls : List Line). said v f i t c s rs ++ ls) more
    ∙ sym (append_assoc (said v f i t c s rs) (routine_lines v r) (lines.Instruction op ∷ [])) ∙ ap (λ (ls : List Line). ls ++ lines.Instruction op ∷ []) (sym (said_routine v f i t c s rs r))

op_said : (b : Built) (op : Op) (o : Option Routine) → b.current ≡ o → Sound b → is_some o ≡ true → IsSaid b (with_line b (lines.Instruction op)) (lines.Instruction op)
op_said b op None e s h = absurd cc
op_said b op (Some r) e s h =
    let next : with_op op b.current ≡ Some (record r { code = r.code ++ op ∷ [] }) = ap (with_op op) e in
    let front = take b.front (front_lines (parts_said b)) in
    record {
      sound = record {
        front = s.front;
        interfaces = s.interfaces;
        tests = s.tests;
        commands = s.commands;
        states = s.states;
        current = λ none. absurd (none_some r (sym e ∙ s.current none));
        routines = λ none. absurd (none_some (record r { code = r.code ++ op ∷ [] }) (sym next ∙ none));
      };
      lines =
          ap (λ (o : Option Routine). said b.version front b.interfaces b.tests b.commands b.states (b.routines ++ listed_routine o)) next
          ∙ op_lines b.version front b.interfaces b.tests b.commands b.states b.routines r op
          ∙ ap (λ (o : Option Routine). said b.version front b.interfaces b.tests b.commands b.states (b.routines ++ listed_routine o) ++ lines.Instruction op ∷ []) (sym e);
    }

-- If a routine may begin, the version was read, and the routine begins in its form.
pub own_form : (b : Built) (head : Head) → Sound b → has_no_form b (lines.Routine head) ≡ false → is_in_order b (lines.Routine head) ≡ true → is_of_other b.version head ≡ false
own_form b head s new o = elim (cases_lt b.front 7) [
  | inl lt ↦ absurd (nonempty b.states (not-true (is_none b.states) o) (s.states lt))
  | inr le ↦
      let some : nat_lt 0 b.front ≡ true = lt-ltb 0 b.front (omega (arith, le)) in
      rw some at new
]

line_said : (b : Built) (l : Line) → Sound b → has_no_form b l ≡ false → is_in_order b l ≡ true → IsSaid b (with_line b l) l
line_said b (lines.Version v) s new o = front_said b (with_line b (lines.Version v)) (lines.Version v) 0 s (eqb-true b.front 0 o) (omega arith) refl refl refl refl refl refl refl (ap (λ (w : Version). lines.Version w ∷ []) (version_back v))
line_said b (lines.Stack n) s new o = front_said b (with_line b (lines.Stack n)) (lines.Stack n) 1 s (eqb-true b.front 1 o) (omega arith) refl refl refl refl refl refl refl refl
line_said b (lines.Frames n) s new o = front_said b (with_line b (lines.Frames n)) (lines.Frames n) 2 s (eqb-true b.front 2 o) (omega arith) refl refl refl refl refl refl refl refl
line_said b (lines.Cost n) s new o = front_said b (with_line b (lines.Cost n)) (lines.Cost n) 3 s (eqb-true b.front 3 o) (omega arith) refl refl refl refl refl refl refl refl
line_said b (lines.Commands n) s new o = front_said b (with_line b (lines.Commands n)) (lines.Commands n) 4 s (eqb-true b.front 4 o) (omega arith) refl refl refl refl refl refl refl refl
line_said b (lines.Start n) s new o = front_said b (with_line b (lines.Start n)) (lines.Start n) 5 s (eqb-true b.front 5 o) (omega arith) refl refl refl refl refl refl refl refl
line_said b (lines.Always h) s new o = front_said b (with_line b (lines.Always h)) (lines.Always h) 6 s (eqb-true b.front 6 o) (omega arith) refl refl refl refl refl refl refl refl
line_said b (lines.Interface name) s new o =
    let p = and_parts (b.front == 7) (is_none b.tests && (is_none b.commands && is_none b.states)) o in
    let q = and_parts (is_none b.tests) (is_none b.commands && is_none b.states) p.1 in
    let r = and_parts (is_none b.commands) (is_none b.states) q.1 in
    let at = eqb-true b.front 7 p.0 in
    let none = s.current (is_nil b.states r.1) in
    record {
      sound = record { front = s.front; interfaces = λ lt. absurd (omega arith); tests = s.tests; commands = s.commands; states = s.states; current = s.current; routines = s.routines };
      lines = said_interface b.version (take b.front (front_lines (parts_said b))) b.interfaces b.tests b.commands b.states (b.routines ++ listed_routine b.current) name (is_nil b.tests q.0) (is_nil b.commands r.0) (is_nil b.states r.1) (no_routines b.routines b.current (s.routines none) none);
    }
line_said b (lines.Test t) s new o =
    let p = and_parts (b.front == 7) (is_none b.commands && is_none b.states) o in
    let r = and_parts (is_none b.commands) (is_none b.states) p.1 in
    let at = eqb-true b.front 7 p.0 in
    let none = s.current (is_nil b.states r.1) in
    record {
      sound = record { front = s.front; interfaces = s.interfaces; tests = λ lt. absurd (omega arith); commands = s.commands; states = s.states; current = s.current; routines = s.routines };
      lines = said_test b.version (take b.front (front_lines (parts_said b))) b.interfaces b.tests b.commands b.states (b.routines ++ listed_routine b.current) t (is_nil b.commands r.0) (is_nil b.states r.1) (no_routines b.routines b.current (s.routines none) none);
    }
line_said b (lines.Command text) s new o =
    let p = and_parts (b.front == 7) (is_none b.states) o in
    let at = eqb-true b.front 7 p.0 in
    let none = s.current (is_nil b.states p.1) in
    record {
      sound = record { front = s.front; interfaces = s.interfaces; tests = s.tests; commands = λ lt. absurd (omega arith); states = s.states; current = s.current; routines = s.routines };
      lines = said_command b.version (take b.front (front_lines (parts_said b))) b.interfaces b.tests b.commands b.states (b.routines ++ listed_routine b.current) text (is_nil b.states p.1) (no_routines b.routines b.current (s.routines none) none);
    }
line_said b (lines.State t) s new o =
    let p = and_parts (b.front == 7) (not (is_some b.current)) o in
    let at = eqb-true b.front 7 p.0 in
    let none = no_current b.current p.1 in
    record {
      sound = record { front = s.front; interfaces = s.interfaces; tests = s.tests; commands = s.commands; states = λ lt. absurd (omega arith); current = λ _. none; routines = s.routines };
      lines = said_state b.version (take b.front (front_lines (parts_said b))) b.interfaces b.tests b.commands b.states (b.routines ++ listed_routine b.current) t (no_routines b.routines b.current (s.routines none) none);
    }
line_said b (lines.Routine head) s new o =
    let front = take b.front (front_lines (parts_said b)) in
    let rs = b.routines ++ listed_routine b.current in
    let own = own_form b head s new o in
    let one : routine_lines b.version (begun head) ≡ lines.Routine head ∷ [] = ap (λ (code : List Op). lines.Routine (head_of b.version (begun head)) ∷ map lines.Instruction code) (begun_code head) ∙ ap (λ (h : Head). lines.Routine h ∷ []) (head_back b.version head own) in
    record {
      sound = record { front = s.front; interfaces = s.interfaces; tests = s.tests; commands = s.commands; states = s.states; current = λ e. absurd (nonempty b.states (not-true (is_none b.states) o) e); routines = λ e. absurd cc };
      lines = said_routine b.version front b.interfaces b.tests b.commands b.states rs (begun head) ∙ ap (λ (ls : List Line). said b.version front b.interfaces b.tests b.commands b.states rs ++ ls) one;
    }
line_said b (lines.Instruction op) s new o = op_said b op b.current refl s o

-- ---- lines, by their bytes

taken_case : (x y z : Bool) (b c : Built) → cond (x || (y || not z)) None (Some b) ≡ Some c → (x ≡ false) × ((z ≡ true) × (b ≡ c))
taken_case false false true b c h = (refl, (refl, same_Some b c h))
taken_case false false false b c h = absurd cc
taken_case false true z b c h = absurd cc
taken_case true y z b c h = absurd cc

pub step_said : (b c : Built) (l : Line) → Sound b → one_line_more b l ≡ Some c → IsSaid b c l
step_said b c l s h =
    let t = taken_case (has_no_form b l) (is_full b l) (is_in_order b l) (with_line b l) c h in
    subst (λ (d : Built). IsSaid b d l) t.1.1 (line_said b l s t.0 t.1.0)

-- What lines say and build.
pub record AreSaid (b c : Built) (spoken : List (List ℕ)) : Type 0 where
  pub more : List Line
  pub says : AllZip SaysLine spoken more
  pub fit : AllByRecursion LineFits more
  pub sound : Sound c
  pub lines : lines_said c ≡ lines_said b ++ more

pub built_said : (b c : Built) (spoken : List (List ℕ)) → Sound b → built_by b spoken ≡ Some c → AreSaid b c spoken
built_said b c [] s h = record { more = []; says = tt; fit = tt; sound = subst Sound (same_Some b c h) s; lines = ap lines_said (sym (same_Some b c h)) ∙ sym (append-nil (lines_said b)) }
built_said b c (bytes ∷ others) s h =
    option_and_then_some (λ line. option_and_then (λ next. built_by next others) (one_line_more b line)) (line_in bytes) c h (λ line is_line rest.
    option_and_then_some (λ next. built_by next others) (one_line_more b line) c rest (λ next is_next last.
    let f = line_in_found bytes line is_line in
    let one = step_said b next line s is_next in
    let all = built_said next c others one.sound last in
    record {
      more = line ∷ all.more;
      says = (f.0, all.says);
      fit = (f.1, all.fit);
      sound = all.sound;
      lines = all.lines ∙ ap (λ (ls : List Line). ls ++ all.more) one.lines ∙ append_assoc (lines_said b) (line ∷ []) all.more;
    }))

-- Lines say the lines of an image.
pub record IsSpoken (p : ImageParts) (spoken : List (List ℕ)) : Type 0 where
  pub says : AllZip SaysLine spoken (lines_of p)
  pub fit : AllByRecursion LineFits (lines_of p)

some_state : (s : List StateSpec) → s ≡ [] → 1 ≤ length s → ⊥
some_state [] e h = absurd (omega (arith, h))
some_state (x ∷ xs) e h = absurd cc

pub full_front : (b : Built) → b.front ≡ 7 → lines_said b ≡ lines_of (parts_said b)
full_front b e =
    ap (λ (n : ℕ). said b.version (take n (front_lines (parts_said b))) b.interfaces b.tests b.commands b.states (b.routines ++ listed_routine b.current)) e
    ∙ ap (λ (v : Version). said v (front_lines (parts_said b)) b.interfaces b.tests b.commands b.states (b.routines ++ listed_routine b.current)) (sym (version_back b.version))

pub front_is : (c : Built) → Sound c → 1 ≤ length c.states → c.front ≡ 7
front_is c s some = elim (cases_lt c.front 7) [
  | inl lt ↦ absurd (some_state c.states (s.states lt) some)
  | inr le ↦ omega (arith, s.front)
]

pub image_said : (c : Built) (spoken : List (List ℕ)) → built_by nothing spoken ≡ Some c → 1 ≤ length c.states → IsSpoken (parts_said c) spoken
image_said c spoken h some =
    let a = built_said nothing c spoken nothing_sound h in
    let at : c.front ≡ 7 = front_is c a.sound some in
    let same : a.more ≡ lines_of (parts_said c) = sym a.lines ∙ full_front c at in
    record { says = subst (AllZip SaysLine spoken) same a.says; fit = subst (AllByRecursion LineFits) same a.fit }
