-- The line that a fault names.
use Rattle.std.proofs.Common.{◌≡◌, ◌≢◌, ℕ, ◌+◌, ◌-◌, ◌<◌, cond, List}
use Rattle.std.proofs.Common.{[], ◌∷◌, ◌++◌, length, take, drop, Option, Some, None, refl}
use Rattle.std.proofs.Common.{sym, ap, subst, ◌∙◌, arith, append_assoc, length-append, inl}
use Rattle.std.specs.Prelude.{◌==◌, not, option_and_then}
use Rattle.std.specs.List.{slice_split, position, AllZip}
use Rattle.std.proofs.lemmas.List.{append-nil}
use Rattle.ifs_image.specs.declared.parts.ImageParts.{ImageParts}
use Rattle.ifs_asm.specs.declared.fault.AsmFault.TheVariants.{Memory}
use Rattle.ifs_asm.specs.declared.fault.LineFault.{LineFault}
use Rattle.ifs_asm.specs.declared.fault.LineFault.TheVariants as faults
use Rattle.ifs_asm.specs.declared.line.Line.{Line}
use Rattle.ifs_asm.specs.Texts.{lines_of}
use Rattle.ifs_asm.specs.Spellings.{SaysLine, TextSpells, spoken, is_silent}
use Rattle.ifs_asm.specs.Refused.{without_empty_last, text_lines, speaking, LinesGoOn, EachBreaks}
use Rattle.ifs_asm.specs.Refused.{HasNoForm, IsOneTooMany, IsOutOfPlace, StopsAtLine, EndsEarly, IsAssemblyRefused}
use Rattle.ifs_asm.specs.inner.Building.{Built, line_in, built_by, nothing, spoken_line}
use Rattle.ifs_asm.specs.inner.Reading.{AreRead, Blames, fault_at}
use Rattle.ifs_asm.proofs.MaskLists.{split_some}
use Rattle.ifs_asm.proofs.Cuts.{cut_some, cut_none, line_case}
use Rattle.ifs_asm.proofs.Completed.{GoesOn, goes_on, never_goes_on}
use Rattle.ifs_asm.proofs.BuildFits.{IsWithin, nothing_within, built_within}
use Rattle.ifs_asm.proofs.BuildFound.{Sound, built_said, nothing_sound}
use Rattle.ifs_asm.proofs.Blamed.{blames_name, blames_count, blames_order}
use Rattle.ifs_asm.proofs.Steps.{by_append}

-- ---- the lines of a text

without_cons : (line first : List ℕ) (others : List (List ℕ)) → without_empty_last (line ∷ (first ∷ others)) ≡ line ∷ without_empty_last (first ∷ others)
without_cons [] first others = refl
without_cons (byte ∷ line) first others = refl

without_more : (line : List ℕ) (xs : List (List ℕ)) → 0 < length xs → without_empty_last (line ∷ xs) ≡ line ∷ without_empty_last xs
without_more line [] some = absurd (omega arith)
without_more line (first ∷ others) some = without_cons line first others

pub lines_some : (text : List ℕ) (i : ℕ) → position (λ byte. byte == 10) text ≡ Some i → text_lines text ≡ take i text ∷ text_lines (take (length text - (i + 1)) (drop (i + 1) text))
unfolding text_lines
lines_some text i e =
    let rest = take (length text - (i + 1)) (drop (i + 1) text) in
    ap without_empty_last (cut_some (λ byte. byte == 10) text i e) ∙ without_more (take i text) (slice_split (λ byte. byte == 10) rest) (split_some (λ byte. byte == 10) rest)

last_line : (text : List ℕ) → 0 < length text → without_empty_last (text ∷ []) ≡ text ∷ []
last_line [] lt = absurd (omega (arith, lt))
last_line (byte ∷ text) lt = refl

pub lines_last : (text : List ℕ) → 0 < length text → position (λ byte. byte == 10) text ≡ None → text_lines text ≡ text ∷ text_lines []
unfolding text_lines
lines_last text lt e = ap without_empty_last (cut_none (λ byte. byte == 10) text e) ∙ last_line text lt

no_lines : text_lines [] ≡ []
unfolding text_lines
no_lines = refl

-- ---- those that say something

speaking_without : (xs : List (List ℕ)) → speaking xs ≡ speaking (without_empty_last xs)
speaking_without [] = refl
speaking_without ([] ∷ []) = refl
speaking_without ([] ∷ (other ∷ others)) = speaking_without (other ∷ others)
speaking_without ((byte ∷ bytes) ∷ others) = ap (λ (ls : List (List ℕ)). cond (not (is_silent (byte ∷ bytes))) ((byte ∷ bytes) ∷ ls) ls) (speaking_without others)

speaking_is : (text : List ℕ) → spoken text ≡ speaking (text_lines text)
unfolding spoken text_lines
speaking_is text = speaking_without (slice_split (λ byte. byte == 10) text)

speaking_cons : (line : List ℕ) (others : List (List ℕ)) → speaking (line ∷ others) ≡ spoken_line line ++ speaking others
speaking_cons line others = line_case line (speaking others) (is_silent line)

speaking_append : (xs ys : List (List ℕ)) → speaking (xs ++ ys) ≡ speaking xs ++ speaking ys
speaking_append [] ys = refl
speaking_append (x ∷ xs) ys =
    speaking_cons x (xs ++ ys) ∙ ap (λ (ls : List (List ℕ)). spoken_line x ++ ls) (speaking_append xs ys)
    ∙ sym (append_assoc (spoken_line x) (speaking xs) (speaking ys)) ∙ ap (λ (ls : List (List ℕ)). ls ++ speaking ys) (sym (speaking_cons x xs))

speaking_last : (before : List (List ℕ)) (line : List ℕ) → speaking (before ++ line ∷ []) ≡ speaking before ++ spoken_line line
speaking_last before line =
    speaking_append before (line ∷ []) ∙ ap (λ (ls : List (List ℕ)). speaking before ++ ls) (speaking_cons line [] ∙ append-nil (spoken_line line))

-- ---- reading on

with_last : (done : List (List ℕ)) (line : List ℕ) (b : Built) (o : Option Built) → built_by nothing (speaking done) ≡ Some b → built_by b (spoken_line line) ≡ o → built_by nothing (speaking (done ++ line ∷ [])) ≡ o
with_last done line b o so_far one =
    ap (built_by nothing) (speaking_last done line) ∙ by_append (speaking done) (spoken_line line) nothing
    ∙ ap (option_and_then (λ next. built_by next (spoken_line line))) so_far ∙ one

pub reads_on : (text left line rest : List ℕ) (b c : Built) (n m : ℕ) → AreRead text left b n → text_lines left ≡ line ∷ text_lines rest → length rest < length left → built_by b (spoken_line line) ≡ Some c → m ≡ n + 1 → AreRead text rest c m
reads_on text left line rest b c n m r cut shorter one next = record {
  done = r.done ++ line ∷ [];
  cut = r.cut ∙ ap (λ (ls : List (List ℕ)). r.done ++ ls) cut ∙ sym (append_assoc r.done (line ∷ []) (text_lines rest));
  number_is = omega (arith, next, r.number_is, length-append r.done (line ∷ []));
  within = omega (arith, next, r.within, shorter);
  built = with_last r.done line b (Some c) r.built one;
}

-- A line at which reading stops, after those that built something.
pub record Stopped (text : List ℕ) (n : ℕ) (b : Built) (line : List ℕ) : Type 0 where
  pub before : List (List ℕ)
  pub after : List (List ℕ)
  pub whole : text_lines text ≡ before ++ line ∷ after
  pub number_is : n ≡ length before + 1
  pub goes_on : GoesOn before b
  pub within : IsWithin b
  pub sound : Sound b
  pub stop : LinesGoOn (before ++ line ∷ []) → ⊥

pub stops_at : (text left line rest : List ℕ) (b : Built) (n : ℕ) → AreRead text left b n → text_lines left ≡ line ∷ text_lines rest → built_by b (spoken_line line) ≡ None → Stopped text n b line
stops_at text left line rest b n r cut none = record {
  before = r.done;
  after = text_lines rest;
  whole = r.cut ∙ ap (λ (ls : List (List ℕ)). r.done ++ ls) cut;
  number_is = r.number_is;
  goes_on = goes_on r.done b r.built;
  within = built_within nothing b (speaking r.done) nothing_sound nothing_within r.built;
  sound = (built_said nothing b (speaking r.done) nothing_sound r.built).sound;
  stop = never_goes_on (r.done ++ line ∷ []) (with_last r.done line b None r.built none);
}

with_fault : (text : List ℕ) (n : ℕ) (b : Built) (line : List ℕ) (Fault : List Line → List ℕ → Type 0) (s : Stopped text n b line) → Fault s.goes_on.go_on.said line → StopsAtLine text n Fault
with_fault text n b line Fault s fault = record { before = s.before; line = line; after = s.after; whole = s.whole; number_is = s.number_is; go_on = s.goes_on.go_on; stop = s.stop; fault = fault }

-- ---- the end of a text

all_done : (text left : List ℕ) (b : Built) (n : ℕ) → AreRead text left b n → (done : List (List ℕ)) → text_lines text ≡ done ++ text_lines left → left ≡ [] → text_lines text ≡ done
all_done text left b n r done cut empty = cut ∙ ap (λ (t : List ℕ). done ++ text_lines t) empty ∙ ap (λ (ls : List (List ℕ)). done ++ ls) no_lines ∙ append-nil done

pub all_read : (text left : List ℕ) (b : Built) (n : ℕ) → AreRead text left b n → left ≡ [] → built_by nothing (spoken text) ≡ Some b
all_read text left b n r empty = ap (built_by nothing) (speaking_is text ∙ ap speaking (all_done text left b n r r.done r.cut empty)) ∙ r.built

pub ends_early : (text left : List ℕ) (b : Built) (n : ℕ) → AreRead text left b n → left ≡ [] → ((image : ImageParts) → TextSpells text image → ⊥) → EndsEarly text n
ends_early text left b n r empty missing =
    let all = all_done text left b n r r.done r.cut empty in
    record {
      go_on = subst LinesGoOn (sym all) (goes_on r.done b r.built).go_on;
      missing = missing;
      number_is = r.number_is ∙ ap (λ (ls : List (List ℕ)). length ls + 1) (sym all);
    }

-- ---- a text that spells an image does not stop

-- The first lines of a text say the first of some lines.
record FrontSaid (xs : List (List ℕ)) (ls : List Line) : Type 0 where
  said : List Line
  others : List Line
  says : AllZip SaysLine xs said
  whole : ls ≡ said ++ others

front_said : (xs ys : List (List ℕ)) (ls : List Line) → AllZip SaysLine (xs ++ ys) ls → FrontSaid xs ls
front_said [] ys ls z = record { said = []; others = ls; says = tt; whole = refl }
front_said (x ∷ xs) ys [] z = absurd z
front_said (x ∷ xs) ys (l ∷ ls) z =
    let f = front_said xs ys ls z.1 in
    record { said = l ∷ f.said; others = f.others; says = (z.0, f.says); whole = ap (λ (ks : List Line). l ∷ ks) f.whole }

pub stops_spell_none : (text : List ℕ) (n : ℕ) (b : Built) (line : List ℕ) (image : ImageParts) → Stopped text n b line → TextSpells text image → ⊥
stops_spell_none text n b line image s spells =
    let cut : spoken text ≡ speaking (s.before ++ line ∷ []) ++ speaking s.after =
    speaking_is text ∙ ap speaking (s.whole ∙ sym (append_assoc s.before (line ∷ []) s.after)) ∙ speaking_append (s.before ++ line ∷ []) s.after in
    let f = front_said (speaking (s.before ++ line ∷ [])) (speaking s.after) (lines_of image) (subst (λ (ls : List (List ℕ)). AllZip SaysLine ls (lines_of image)) cut spells.says) in
    s.stop (record { said = f.said; says = f.says; begin = record { image = image; fits = spells.fits; in_range = spells.in_range; others = f.others; whole = f.whole } })

-- ---- the fault of a line

pub told_at : (text : List ℕ) (fault : LineFault) (n : ℕ) (b : Built) (line : List ℕ) → (fault ≢ faults.Memory → Stopped text n b line) → Blames b (line_in line) fault → fault_at fault n ≢ Memory → IsAssemblyRefused text (fault_at fault n)
told_at text faults.Unknown n b line stopped blames other =
    let s = stopped (λ e. absurd cc) in
    with_fault text n b line (λ said bytes. EachBreaks (HasNoForm said) bytes) s (blames_name b s.goes_on.go_on.said line s.goes_on.said_is blames)
told_at text faults.OutOfRange n b line stopped blames other =
    let s = stopped (λ e. absurd cc) in
    with_fault text n b line (λ said bytes. EachBreaks (IsOneTooMany said) bytes) s (blames_count b s.goes_on.go_on.said line s.within s.sound s.goes_on.said_is blames)
told_at text faults.OutOfOrder n b line stopped blames other =
    let s = stopped (λ e. absurd cc) in
    inl (with_fault text n b line IsOutOfPlace s (blames_order b s.goes_on.go_on.said line s.within s.sound s.goes_on.said_is blames))
told_at text faults.Memory n b line stopped blames other = absurd (other refl)
