-- Images and the texts that spell them.
use Rattle.std.proofs.Common.{◌≡◌, ◌≢◌, ℕ, ◌<◌, ◌≤◌, ◌^◌, Bool, true, false, length, inl, inr, List, [], ◌∷◌, ◌++◌, map, Option}
use Rattle.std.proofs.Common.{Some, None, refl, sym, ap, subst, ◌∙◌, arith}
use Rattle.std.specs.Prelude.{◌⊎◌, option_and_then, All, IsUtf8, Result, Ok, Err, IfOk, IfErr}
use Rattle.std.specs.List.{flat_map, AllByRecursion, AllZip}
use Rattle.std.proofs.lemmas.Option.{same_Some}
use Rattle.std.proofs.lemmas.List.Elements.{All-from_recursion, recursion_from_All}
use Rattle.ifs_base.specs.Sizes.{TextFits}
use Rattle.ifs_base.specs.Spelling.{HasSpelling}
use Rattle.ifs_base.specs.declared.op.Op.{Op}
use Rattle.ifs_base.specs.declared.op.Op.TheVariants.{Ret, Yes, No, Link, Test, Known, Negate, Both}
use Rattle.ifs_base.specs.declared.op.Op.TheVariants.{Either, PushCommand, PushState, Queue, Want}
use Rattle.ifs_base.specs.declared.op.Op.TheVariants.{Jump, JumpFalse, JumpTrue, Call, Pop, Dup}
use Rattle.ifs_image.specs.declared.parts.Handlers.{Handlers}
use Rattle.ifs_image.specs.declared.parts.StateSpec.{StateSpec}
use Rattle.ifs_image.specs.declared.parts.Routine.{Routine}
use Rattle.ifs_image.specs.declared.parts.ImageParts.{ImageParts}
use Rattle.ifs_image.specs.Limits.{Fits, InRange, HandlersInRange, StateInRange, RoutineInRange, TestFits, RoutineFits}
use Rattle.ifs_asm.specs.declared.fault.AsmFault.{AsmFault}
use Rattle.ifs_asm.specs.declared.fault.AsmFault.TheVariants.{Unknown, OutOfRange, OutOfOrder, Memory}
use Rattle.ifs_base.specs.declared.op.Kind.{Kind}
use Rattle.ifs_base.specs.declared.op.Kind.TheVariants.{Truth}
use Rattle.ifs_asm.specs.declared.line.Version.{Version}
use Rattle.ifs_asm.specs.declared.line.Version.TheVariants.{One, Two}
use Rattle.ifs_asm.specs.declared.line.Line.{Line}
use Rattle.ifs_asm.specs.declared.line.Line.TheVariants as lines
use Rattle.ifs_asm.specs.Texts.{words_of, op_words, truths, is_some_kind, version_in, head_of, front_lines, routine_lines, lines_of, canonical}
use Rattle.ifs_asm.specs.Spellings.{SaysLine, spoken, TextSpells}
use Rattle.ifs_asm.specs.inner.Building.{Built, parts_said, one_line_more, line_in, built_by, built_of, nothing}
use Rattle.ifs_asm.proofs.Bytes.{each_append, each_weaker}
use Rattle.ifs_asm.specs.Refused.{LineFits, TextGood}
use Rattle.ifs_asm.proofs.TextLaws.{WordFits, LineWritten, line_in_again, spoken_lines, lines_say}
use Rattle.ifs_asm.proofs.BuildAgain.{image_built}
use Rattle.ifs_asm.proofs.BuildFound.{image_said}
use Rattle.ifs_asm.proofs.Versions.{FitsVersion, version_fits}

-- ---- facts on each member

each_map : {X Y : Type 0} (P : Y → Type 0) (f : X → Y) (xs : List X) → AllByRecursion (λ x. P (f x)) xs → AllByRecursion P (map f xs)
each_map P f [] a = tt
each_map P f (x ∷ xs) a = (a.0, each_map P f xs a.1)

each_unmap : {X Y : Type 0} (P : Y → Type 0) (f : X → Y) (xs : List X) → AllByRecursion P (map f xs) → AllByRecursion (λ x. P (f x)) xs
each_unmap P f [] a = tt
each_unmap P f (x ∷ xs) a = (a.0, each_unmap P f xs a.1)

each_flat : {X Y : Type 0} (P : Y → Type 0) (f : X → List Y) (xs : List X) → AllByRecursion (λ x. AllByRecursion P (f x)) xs → AllByRecursion P (flat_map f xs)
each_flat P f [] a = tt
each_flat P f (x ∷ xs) a = each_append P (f x) (flat_map f xs) a.0 (each_flat P f xs a.1)

pub each_parts : {X : Type 0} (P : X → Type 0) (xs ys : List X) → AllByRecursion P (xs ++ ys) → AllByRecursion P xs × AllByRecursion P ys
each_parts P [] ys a = (tt, a)
each_parts P (x ∷ xs) ys a =
    let p = each_parts P xs ys a.1 in
    ((a.0, p.0), p.1)

each_unflat : {X Y : Type 0} (P : Y → Type 0) (f : X → List Y) (xs : List X) → AllByRecursion P (flat_map f xs) → AllByRecursion (λ x. AllByRecursion P (f x)) xs
each_unflat P f [] a = tt
each_unflat P f (x ∷ xs) a =
    let p = each_parts P (f x) (flat_map f xs) a in
    (p.0, each_unflat P f xs p.1)

pub each_both : {X : Type 0} (P Q R : X → Type 0) → ((x : X) → P x → Q x → R x) → (xs : List X) → AllByRecursion P xs → AllByRecursion Q xs → AllByRecursion R xs
each_both P Q R f [] a b = tt
each_both P Q R f (x ∷ xs) a b = (f x a.0 b.0, each_both P Q R f xs a.1 b.1)

each_from : {X : Type 0} (P Q R : X → Type 0) → ((x : X) → P x → Q x → R x) → (xs : List X) → All P xs → All Q xs → AllByRecursion R xs
each_from P Q R f xs a b = each_both P Q R f xs (recursion_from_All P xs a) (recursion_from_All Q xs b)

-- ---- the lines of an image fit, and can be written

abbrev BothFit : Line → Type 0
BothFit line = LineFits line × LineWritten line

no_nul : (text : List ℕ) → TextFits text → AllByRecursion (λ byte. 0 < byte) text
no_nul text f = each_weaker (λ byte. byte ≢ 0) (λ byte. 0 < byte) (λ b some. omega (arith, some)) text (recursion_from_All (λ byte. byte ≢ 0) text f.no_nul)

text_good : (text : List ℕ) → TextFits text → IsUtf8 text → TextGood text
text_good text f u = record { fits = f; utf8 = u }

handlers_fit : (h : Handlers) → HandlersInRange h → AllByRecursion WordFits (words_of (lines.Always h))
handlers_fit h r = (tt, (tt, (omega (arith, r.init), (tt, (omega (arith, r.body), (tt, (tt, tt)))))))

op_fits : (op : Op) → HasSpelling op → AllByRecursion WordFits (op_words op)
op_fits Ret f = (tt, tt)
op_fits Yes f = (tt, tt)
op_fits No f = (tt, tt)
op_fits (Link n s) f = (tt, (omega (arith, f), (tt, tt)))
op_fits (Test n) f = (tt, (omega (arith, f), tt))
op_fits (Known n) f = (tt, (omega (arith, f), tt))
op_fits Negate f = (tt, tt)
op_fits Both f = (tt, tt)
op_fits Either f = (tt, tt)
op_fits (PushCommand n) f = (tt, (omega (arith, f), tt))
op_fits (PushState n) f = (tt, (omega (arith, f), tt))
op_fits Queue f = (tt, tt)
op_fits Want f = (tt, tt)
op_fits (Jump n) f = (tt, (omega (arith, f), tt))
op_fits (JumpFalse n) f = (tt, (omega (arith, f), tt))
op_fits (JumpTrue n) f = (tt, (omega (arith, f), tt))
op_fits (Call n) f = (tt, (omega (arith, f), tt))
op_fits Pop f = (tt, tt)
op_fits Dup f = (tt, tt)

front_fit : (p : ImageParts) → Fits p → InRange p → AllByRecursion BothFit (front_lines p)
front_fit p f r = (
  (tt, (tt, (tt, tt))),
  (
    (f.budgets.stack, (tt, (omega (arith, f.budgets.stack), tt))),
    (
      (f.budgets.frames, (tt, (omega (arith, f.budgets.frames), tt))),
      (
        (f.budgets.cost, (tt, (omega (arith, f.budgets.cost), tt))),
        (
          (f.budgets.commands, (tt, (omega (arith, f.budgets.commands), tt))),
          (
            (r.initial, (tt, (omega (arith, r.initial), tt))),
            ((r.always, handlers_fit p.always r.always), tt),
          ),
        ),
      ),
    ),
  ),
)

interfaces_fit : (p : ImageParts) → Fits p → InRange p → AllByRecursion BothFit (map lines.Interface p.interfaces)
interfaces_fit p f r = each_map BothFit lines.Interface p.interfaces (each_from TextFits IsUtf8 (λ name. BothFit (lines.Interface name)) (λ name fits utf8. (text_good name fits utf8, (tt, (no_nul name fits, tt)))) p.interfaces f.interfaces.texts r.interfaces)

tests_fit : (p : ImageParts) → Fits p → InRange p → AllByRecursion BothFit (map lines.Test p.tests)
tests_fit p f r = each_map BothFit lines.Test p.tests (each_from TestFits (λ t. IsUtf8 t.text) (λ t. BothFit (lines.Test t)) (λ t fits utf8. ((fits.period, text_good t.text fits.text utf8), (tt, (omega (arith, fits.period.within), (no_nul t.text fits.text, tt))))) p.tests f.tests r.tests)

commands_fit : (p : ImageParts) → Fits p → InRange p → AllByRecursion BothFit (map lines.Command p.commands)
commands_fit p f r = each_map BothFit lines.Command p.commands (each_from TextFits IsUtf8 (λ text. BothFit (lines.Command text)) (λ text fits utf8. (text_good text fits utf8, (tt, (no_nul text fits, tt)))) p.commands f.commands r.commands)

state_fits : (s : StateSpec) → TextFits s.name → StateInRange s → BothFit (lines.State s)
state_fits s fits r = (
  (text_good s.name fits r.name, r.handlers),
  (tt, (no_nul s.name fits, (tt, (omega (arith, r.handlers.init), (tt, (omega (arith, r.handlers.body), (tt, (tt, tt)))))))),
)

states_fit : (p : ImageParts) → Fits p → InRange p → AllByRecursion BothFit (map lines.State p.states)
states_fit p f r = each_map BothFit lines.State p.states (each_from (λ s. TextFits s.name) StateInRange (λ s. BothFit (lines.State s)) state_fits p.states f.states.texts r.states)

small : (truth : Bool) → truths truth < 2 ^ 64
small true = omega arith
small false = omega arith

head_fits : (v : Version) (r : Routine) → RoutineInRange r → BothFit (lines.Routine (head_of v r))
head_fits One r range = (tt, (tt, (tt, (small (is_some_kind r.results.items), tt))))
head_fits Two r range = ((range.params, range.results), (tt, (tt, (tt, (tt, (tt, tt))))))

routine_fit : (v : Version) (r : Routine) → RoutineInRange r → AllByRecursion BothFit (routine_lines v r)
routine_fit v r range = (
  head_fits v r range,
  each_map BothFit lines.Instruction r.code (each_weaker HasSpelling (λ op. BothFit (lines.Instruction op)) (λ op f. (f, op_fits op f)) r.code (recursion_from_All HasSpelling r.code range.code)),
)

routines_fit : (p : ImageParts) → InRange p → AllByRecursion BothFit (flat_map (routine_lines (version_in p.version)) p.routines)
routines_fit p r =
    let v = version_in p.version in
    each_flat BothFit (routine_lines v) p.routines (each_weaker RoutineInRange (λ r. AllByRecursion BothFit (routine_lines v r)) (routine_fit v) p.routines (recursion_from_All RoutineInRange p.routines r.routines))

all_fit : (p : ImageParts) → Fits p → InRange p → AllByRecursion BothFit (lines_of p)
all_fit p f r =
    let l1 = front_lines p ++ map lines.Interface p.interfaces in
    let l2 = l1 ++ map lines.Test p.tests in
    let l3 = l2 ++ map lines.Command p.commands in
    let l4 = l3 ++ map lines.State p.states in
    each_append BothFit l4 (flat_map (routine_lines (version_in p.version)) p.routines)
    (each_append BothFit l3 (map lines.State p.states)
    (each_append BothFit l2 (map lines.Command p.commands)
    (each_append BothFit l1 (map lines.Test p.tests)
    (each_append BothFit (front_lines p) (map lines.Interface p.interfaces) (front_fit p f r) (interfaces_fit p f r))
    (tests_fit p f r))
    (commands_fit p f r))
    (states_fit p f r))
    (routines_fit p r)

pub lines_fit : (p : ImageParts) → Fits p → InRange p → AllByRecursion LineFits (lines_of p)
lines_fit p f r = each_weaker BothFit LineFits (λ l b. b.0) (lines_of p) (all_fit p f r)

lines_written : (p : ImageParts) → Fits p → InRange p → AllByRecursion LineWritten (lines_of p)
lines_written p f r = each_weaker BothFit LineWritten (λ l b. b.1) (lines_of p) (all_fit p f r)

-- ---- lines that fit are of an image whose numbers fit

truths_few : (kinds : List Kind) → (kinds ≡ []) ⊎ (kinds ≡ Truth ∷ []) → length kinds ≤ 4
truths_few kinds (inl none) = rw none (omega arith)
truths_few kinds (inr one) = rw one (omega arith)

none_few : (kinds : List Kind) → kinds ≡ [] → length kinds ≤ 4
none_few kinds none = rw none (omega arith)

routine_range : (v : Version) (r : Routine) → FitsVersion v r → AllByRecursion LineFits (routine_lines v r) → RoutineInRange r
routine_range One r fits a = record { params = none_few r.params.items fits.params; results = truths_few r.results.items fits.results; code = All-from_recursion HasSpelling r.code (each_unmap LineFits lines.Instruction r.code a.1) }
routine_range Two r fits a = record { params = a.0.0; results = a.0.1; code = All-from_recursion HasSpelling r.code (each_unmap LineFits lines.Instruction r.code a.1) }

-- The lines of an image fit, table by table.
pub record Parted (p : ImageParts) : Type 0 where
  pub front : AllByRecursion LineFits (front_lines p)
  pub interfaces : AllByRecursion TextGood p.interfaces
  pub tests : AllByRecursion (λ t. LineFits (lines.Test t)) p.tests
  pub commands : AllByRecursion TextGood p.commands
  pub states : AllByRecursion (λ s. LineFits (lines.State s)) p.states
  pub routines : AllByRecursion (λ r. AllByRecursion LineFits (routine_lines (version_in p.version) r)) p.routines

pub parted : (p : ImageParts) → AllByRecursion LineFits (lines_of p) → Parted p
parted p a =
    let l1 = front_lines p ++ map lines.Interface p.interfaces in
    let l2 = l1 ++ map lines.Test p.tests in
    let l3 = l2 ++ map lines.Command p.commands in
    let l4 = l3 ++ map lines.State p.states in
    let r = each_parts LineFits l4 (flat_map (routine_lines (version_in p.version)) p.routines) a in
    let s = each_parts LineFits l3 (map lines.State p.states) r.0 in
    let c = each_parts LineFits l2 (map lines.Command p.commands) s.0 in
    let t = each_parts LineFits l1 (map lines.Test p.tests) c.0 in
    let i = each_parts LineFits (front_lines p) (map lines.Interface p.interfaces) t.0 in
    record {
      front = i.0;
      interfaces = each_unmap LineFits lines.Interface p.interfaces i.1;
      tests = each_unmap LineFits lines.Test p.tests t.1;
      commands = each_unmap LineFits lines.Command p.commands c.1;
      states = each_unmap LineFits lines.State p.states s.1;
      routines = each_unflat LineFits (routine_lines (version_in p.version)) p.routines r.1;
    }

pub range_of : (p : ImageParts) → Fits p → AllByRecursion LineFits (lines_of p) → InRange p
range_of p f fit =
    let a = parted p fit in
    let v = version_in p.version in
    let kinds = each_weaker (RoutineFits p.version) (FitsVersion v) (λ r fits. version_fits p.version r f.version fits) p.routines (recursion_from_All (RoutineFits p.version) p.routines f.routines.each) in
    record {
      initial = a.front.1.1.1.1.1.0;
      always = a.front.1.1.1.1.1.1.0;
      interfaces = All-from_recursion IsUtf8 p.interfaces (each_weaker TextGood IsUtf8 (λ x g. g.utf8) p.interfaces a.interfaces);
      tests = All-from_recursion (λ t. IsUtf8 t.text) p.tests (each_weaker (λ t. LineFits (lines.Test t)) (λ t. IsUtf8 t.text) (λ x g. g.1.utf8) p.tests a.tests);
      commands = All-from_recursion IsUtf8 p.commands (each_weaker TextGood IsUtf8 (λ x g. g.utf8) p.commands a.commands);
      states = All-from_recursion StateInRange p.states (each_weaker (λ s. LineFits (lines.State s)) StateInRange (λ x g. record { name = g.0.utf8; handlers = g.1 }) p.states a.states);
      routines = All-from_recursion RoutineInRange p.routines (each_both (FitsVersion v) (λ r. AllByRecursion LineFits (routine_lines v r)) RoutineInRange (routine_range v) p.routines kinds a.routines);
    }

-- ---- what is built of a text

same_case : (o : Option Built) (others : List (List ℕ)) (ls : List Line) → ((next : Built) → built_by next others ≡ built_of next ls) → option_and_then (λ next. built_by next others) o ≡ option_and_then (λ next. built_of next ls) o
same_case None others ls ih = refl
same_case (Some next) others ls ih = ih next

same_step : (b : Built) (bytes : List ℕ) (l : Line) (others : List (List ℕ)) (ls : List Line) → line_in bytes ≡ Some l → ((next : Built) → built_by next others ≡ built_of next ls) → built_by b (bytes ∷ others) ≡ built_of b (l ∷ ls)
same_step b bytes l others ls is ih = rw is (same_case (one_line_more b l) others ls ih)

pub built_same : (spoken : List (List ℕ)) (ls : List Line) (b : Built) → AllZip SaysLine spoken ls → AllByRecursion LineFits ls → built_by b spoken ≡ built_of b ls
built_same [] [] b z fit = refl
built_same [] (l ∷ ls) b z fit = absurd z
built_same (x ∷ xs) [] b z fit = absurd z
built_same (x ∷ xs) (l ∷ ls) b z fit = same_step b x l xs ls (line_in_again x l z.0 fit.0) (λ next. built_same xs ls next z.1 fit.1)

-- What a text that spells an image builds.
pub record IsRead (text : List ℕ) (p : ImageParts) : Type 0 where
  pub after : Built
  pub built : built_by nothing (spoken text) ≡ Some after
  pub parts : parts_said after ≡ p

pub read_again : (text : List ℕ) (p : ImageParts) → TextSpells text p → IsRead text p
read_again text p s =
    let b = image_built p s.fits in
    record { after = b.after; built = built_same (spoken text) (lines_of p) nothing s.says (lines_fit p s.fits s.in_range) ∙ b.built; parts = b.parts }

-- A text spells what it builds, if that fits.
pub read_found : (text : List ℕ) (b : Built) → built_by nothing (spoken text) ≡ Some b → Fits (parts_said b) → TextSpells text (parts_said b)
read_found text b h f =
    let s = image_said b (spoken text) h f.counts.some_state in
    record { fits = f; in_range = range_of (parts_said b) f s.fit; says = s.says }

pub read_unfit : (text : List ℕ) (b : Built) (p : ImageParts) → built_by nothing (spoken text) ≡ Some b → (Fits (parts_said b) → ⊥) → TextSpells text p → ⊥
read_unfit text b p h unfit s =
    let r = read_again text p s in
    let same : b ≡ r.after = same_Some b r.after (sym h ∙ r.built) in
    unfit (subst Fits (sym (ap parts_said same ∙ r.parts)) s.fits)

-- ---- the laws

pub one_image : (text : List ℕ) (p q : ImageParts) → TextSpells text p → TextSpells text q → p ≡ q
one_image text p q a b =
    let first = read_again text p a in
    let second = read_again text q b in
    sym first.parts ∙ ap parts_said (same_Some first.after second.after (sym first.built ∙ second.built)) ∙ second.parts

pub canonical_spells : (p : ImageParts) → Fits p → InRange p → TextSpells (canonical p) p
unfolding canonical
canonical_spells p f r =
    let w = lines_written p f r in
    record { fits = f; in_range = r; says = subst (λ (t : List (List ℕ)). AllZip SaysLine t (lines_of p)) (sym (spoken_lines (lines_of p) w)) (lines_say (lines_of p) w) }

-- Reading a text that spells an image gives that image, or an allocation fails.
pub same_again : (r : Result ImageParts AsmFault) (text : List ℕ) (p : ImageParts) → TextSpells text p → IfOk r (λ image. TextSpells text image) → IfOk r (λ again. again ≡ p)
same_again (Ok q) text p s h = one_image text q p h s
same_again (Err fault) text p s h = tt

only_memory : (fault : AsmFault) → (fault ≢ Memory → ⊥) → fault ≡ Memory
only_memory (Unknown n) h = absurd (h (λ e. absurd cc))
only_memory (OutOfRange n) h = absurd (h (λ e. absurd cc))
only_memory (OutOfOrder n) h = absurd (h (λ e. absurd cc))
only_memory Memory h = refl

pub only_want : (r : Result ImageParts AsmFault) (text : List ℕ) (p : ImageParts) → TextSpells text p → IfErr r (λ fault. fault ≢ Memory → (image : ImageParts) → TextSpells text image → ⊥) → IfErr r (λ fault. fault ≡ Memory)
only_want (Ok q) text p s h = tt
only_want (Err fault) text p s h = only_memory fault (λ other. h other p s)
