-- Writes the lines of tables one after the other.
use Rattle.std.proofs.Common.{◌≡◌, ℕ, Bool, codes, decimal, List, [], ◌∷◌, ◌++◌, map, refl, sym, ap, ◌∙◌, append_assoc}
use Rattle.std.specs.List.{flat_map}
use Rattle.std.proofs.lemmas.List.{append-nil}
use Rattle.std.proofs.lemmas.List.Concat.{flat_map-append}
use Rattle.std.proofs.lemmas.List.Folds.{flat_map-map}
use Rattle.ifs_image.specs.declared.parts.Routine.{Routine}
use Rattle.ifs_image.specs.declared.parts.ImageParts.{ImageParts}
use Rattle.ifs_base.specs.declared.op.Kind.{Kind}
use Rattle.ifs_asm.specs.declared.line.Version.{Version}
use Rattle.ifs_asm.specs.declared.line.Head.TheVariants.{Plain}
use Rattle.ifs_asm.specs.declared.line.Line.{Line}
use Rattle.ifs_asm.specs.declared.line.Line.TheVariants as lines
use Rattle.ifs_asm.specs.Texts.{line_text, spaced, truths, version_in, head_with, head_of, routine_lines, front_lines, canonical}

flat_map-flat_map : {X Y A : Type 0} (f : Y → List A) (g : X → List Y) (xs : List X) → flat_map f (flat_map g xs) ≡ flat_map (λ x. flat_map f (g x)) xs
flat_map-flat_map f g [] = refl
flat_map-flat_map f g (x ∷ xs) = flat_map-append f (g x) (flat_map g xs) ∙ ap (λ ys. flat_map f (g x) ++ ys) (flat_map-flat_map f g xs)

-- The text of a routine: its first line, and those of its instructions.
pub routine_text : (v : Version) (old now new : List ℕ) (r : Routine) (params results : List Kind) → params ≡ r.params.items → results ≡ r.results.items → now ≡ old ++ line_text (lines.Routine (head_with v params results)) → new ≡ now ++ flat_map (λ op. line_text (lines.Instruction op)) r.code → new ≡ old ++ flat_map line_text (routine_lines v r)
routine_text v old now new r params results taken left first rest =
    let head : now ≡ old ++ line_text (lines.Routine (head_of v r)) = first ∙ ap (λ (p : List Kind). old ++ line_text (lines.Routine (head_with v p results))) taken ∙ ap (λ (q : List Kind). old ++ line_text (lines.Routine (head_with v r.params.items q))) left in
    rest ∙ rw (head, flat_map-map line_text lines.Instruction r.code) (append_assoc old (line_text (lines.Routine (head_of v r))) (flat_map (λ op. line_text (lines.Instruction op)) r.code))

-- A text of lines, table by table.
tables : {A B C D E : Type 0} (f : Line → List ℕ) (front : List Line) (ga : A → Line) (gb : B → Line) (gc : C → Line) (gd : D → Line) (ge : E → List Line) (xa : List A) (xb : List B) (xc : List C) (xd : List D) (xe : List E)
    → flat_map f (front ++ map ga xa ++ map gb xb ++ map gc xc ++ map gd xd ++ flat_map ge xe)
    ≡ flat_map f front ++ flat_map (λ x. f (ga x)) xa ++ flat_map (λ x. f (gb x)) xb ++ flat_map (λ x. f (gc x)) xc ++ flat_map (λ x. f (gd x)) xd ++ flat_map (λ x. flat_map f (ge x)) xe
tables f front ga gb gc gd ge xa xb xc xd xe = simp (flat_map-append, flat_map-map, flat_map-flat_map)

-- The canonical text, table by table.
pub canonical_is : (p : ImageParts) → canonical p ≡
    flat_map line_text (front_lines p) ++ flat_map (λ name. line_text (lines.Interface name)) p.interfaces ++ flat_map (λ test. line_text (lines.Test test)) p.tests
    ++ flat_map (λ text. line_text (lines.Command text)) p.commands ++ flat_map (λ state. line_text (lines.State state)) p.states
    ++ flat_map (λ routine. flat_map line_text (routine_lines (version_in p.version) routine)) p.routines
unfolding canonical
canonical_is p = tables line_text (front_lines p) lines.Interface lines.Test lines.Command lines.State (routine_lines (version_in p.version)) p.interfaces p.tests p.commands p.states p.routines

-- The canonical text, as it is written.
pub whole_text : (p : ImageParts) (a b c d e f g : List ℕ) → a ≡ [] → b ≡ a ++ flat_map line_text (front_lines p)
    → c ≡ b ++ flat_map (λ name. line_text (lines.Interface name)) p.interfaces → d ≡ c ++ flat_map (λ test. line_text (lines.Test test)) p.tests
    → e ≡ d ++ flat_map (λ text. line_text (lines.Command text)) p.commands → f ≡ e ++ flat_map (λ state. line_text (lines.State state)) p.states
    → g ≡ f ++ flat_map (λ routine. flat_map line_text (routine_lines (version_in p.version) routine)) p.routines → g ≡ canonical p
whole_text p a b c d e f g ha hb hc hd he hf hg = rw (hg, hf, he, hd, hc, hb, ha) (sym (canonical_is p))

signed : (old a p b r c : List ℕ) → old ++ a ++ p ++ b ++ r ++ c ≡ old ++ (a ++ ((p ++ (b ++ (r ++ []))) ++ c))
signed old a p b r c = simp (append_assoc, append-nil)

-- The line that begins a routine in version 1, as it is written.
pub plain_text : (old now new : List ℕ) (truth : Bool) (n : ℕ) → n ≡ truths truth → now ≡ old ++ codes "routine results " ++ decimal n → new ≡ now ++ codes "\n" → new ≡ old ++ line_text (lines.Routine (Plain truth))
plain_text old now new truth n same h k = rw (k, h, same) (simp append_assoc)

-- The line that begins a routine in version 2, as it is written.
pub signature_text : (old a b c d e params results : List ℕ) → a ≡ old ++ codes "routine params " → b ≡ a ++ params → c ≡ b ++ codes " results " → d ≡ c ++ results → e ≡ d ++ codes "\n"
    → e ≡ old ++ (spaced (codes "routine" ∷ codes "params" ∷ params ∷ codes "results" ∷ results ∷ []) ++ codes "\n")
signature_text old a b c d e params results ha hb hc hd he = rw (he, hd, hc, hb, ha) (signed old (codes "routine params ") params (codes " results ") results (codes "\n"))

-- A line of a word and a number, as it is written.
pub number_line_text : (old a b c word n : List ℕ) → a ≡ old ++ word → b ≡ a ++ codes " " ++ n → c ≡ b ++ codes "\n" → c ≡ old ++ (spaced (word ∷ n ∷ []) ++ codes "\n")
number_line_text old a b c word n ha hb hc = rw (hc, hb, ha) (simp (append_assoc, append-nil))

joined : (old a b c d e f g : List ℕ) → old ++ a ++ b ++ c ++ d ++ e ++ f ++ g ≡ old ++ (a ++ (b ++ (c ++ (d ++ (e ++ (f ++ (g ++ [])))))))
joined old a b c d e f g = simp (append_assoc, append-nil)

-- The lines before the tables, as they are written.
pub front_text : (p : ImageParts) (old a b c d e f g : List ℕ) → a ≡ old ++ line_text (lines.Version (version_in p.version)) → b ≡ a ++ line_text (lines.Stack p.budgets.stack) → c ≡ b ++ line_text (lines.Frames p.budgets.frames)
    → d ≡ c ++ line_text (lines.Cost p.budgets.cost) → e ≡ d ++ line_text (lines.Commands p.budgets.commands) → f ≡ e ++ line_text (lines.Start p.initial)
    → g ≡ f ++ line_text (lines.Always p.always) → g ≡ old ++ flat_map line_text (front_lines p)
front_text p old a b c d e f g ha hb hc hd he hf hg =
    rw (hg, hf, he, hd, hc, hb, ha) (joined old (line_text (lines.Version (version_in p.version))) (line_text (lines.Stack p.budgets.stack)) (line_text (lines.Frames p.budgets.frames)) (line_text (lines.Cost p.budgets.cost)) (line_text (lines.Commands p.budgets.commands)) (line_text (lines.Start p.initial)) (line_text (lines.Always p.always)))
