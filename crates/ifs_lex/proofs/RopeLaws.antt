-- The tokens of ropes, cell by cell.
use Rattle.std.proofs.Common.{◌≡◌, ℕ, zero, suc, ◌+◌, ◌*◌, ◌<◌, ◌≤◌, List, [], ◌∷◌, ◌++◌, length, map, get_or}
use Rattle.std.proofs.Common.{refl, sym, ◌∙◌, ap, subst, arith, append_assoc, length-append, ◌⊎◌, inl, inr}
use Rattle.std.proofs.lemmas.Bool.{cases_lt}
use Rattle.std.proofs.lemmas.Grind.{common_steps, elements}
use Rattle.std.specs.List.{All}
use Rattle.ifs_base.specs.declared.span.Span.{Span}
use Rattle.ifs_lex.specs.declared.token.Token.{Token}
use Rattle.ifs_lex.specs.Expansion.{token}
use Rattle.ifs_lex.specs.declared.token.What.{What}
use Rattle.ifs_lex.specs.declared.ropes.Cell.{Cell}
use Rattle.ifs_lex.specs.declared.ropes.Cell.TheVariants.{Empty, Leaf, Both}
use Rattle.ifs_lex.specs.inner.Ropes.{whats_at, whats_in, ropes_from, IsEarlier, AreEarlier, KeepsRopes}
use Rattle.ifs_lex.specs.inner.Ropes.{stacked, weight}
use Rattle.ifs_lex.specs.inner.Ropes.{weights}

pub length-ropes_from : (before : List (List What)) (cells : List Cell) → length (ropes_from before cells) ≡ length before + length cells
length-ropes_from before [] = omega arith
length-ropes_from before (cell ∷ rest) =
    let e = length-ropes_from (before ++ (whats_in before cell ∷ [])) rest in
    let one = length-append before (whats_in before cell ∷ []) in
    omega arith

pub ropes-push : (before : List (List What)) (cells : List Cell) (cell : Cell) → ropes_from before (cells ++ cell ∷ []) ≡ ropes_from before cells ++ (whats_in (ropes_from before cells) cell ∷ [])
ropes-push before [] cell = refl
ropes-push before (c ∷ rest) cell = ropes-push (before ++ (whats_in before c ∷ [])) rest cell

before_end : (xs ys : List (List What)) (n : ℕ) → n < length xs → get_or (xs ++ ys) n [] ≡ get_or xs n []
before_end xs ys n l = grind (arith, common_steps)

at_end : (xs : List (List What)) (y : List What) → get_or (xs ++ y ∷ []) (length xs) [] ≡ y
at_end xs y = grind (arith, common_steps)

pub ropes-keep : (before : List (List What)) (cells : List Cell) (n : ℕ) → n < length before → whats_at (ropes_from before cells) n ≡ whats_at before n
ropes-keep before [] n l = refl
ropes-keep before (cell ∷ rest) n l =
    let one = length-append before (whats_in before cell ∷ []) in
    ropes-keep (before ++ (whats_in before cell ∷ [])) rest n (omega arith) ∙ before_end before (whats_in before cell ∷ []) n l

in-keep : (before : List (List What)) (cells : List Cell) (cell : Cell) → IsEarlier (length before) cell → whats_in (ropes_from before cells) cell ≡ whats_in before cell
in-keep before cells Empty e = refl
in-keep before cells (Leaf what) e = refl
in-keep before cells (Both left right) e =
    let one = ropes-keep before cells left e.0 in
    let two = ropes-keep before cells right e.1 in
    rw (one, two) refl

rope_from : (before : List (List What)) (cells : List Cell) (n : ℕ) (d : Cell) → n < length cells → IsEarlier (length before + n) (get_or cells n d) → whats_at (ropes_from before cells) (length before + n) ≡ whats_in (ropes_from before cells) (get_or cells n d)
rope_from before [] n d l h = absurd (omega arith)
rope_from before (c ∷ rest) zero d l h =
    let z : length before + 0 ≡ length before = omega arith in
    let w = whats_in before c in
    let one = length-append before (w ∷ []) in
    let E : ℕ → Type 0 = λ i. IsEarlier i c in
    let here = ropes-keep (before ++ (w ∷ [])) rest (length before) (omega arith) in
    ap (λ i. whats_at (ropes_from before (c ∷ rest)) i) z ∙ here ∙ at_end before w ∙ sym (in-keep before (c ∷ rest) c (subst E z h))
rope_from before (c ∷ rest) (suc k) d l h =
    let w = whats_in before c in
    let one = length-append before (w ∷ []) in
    let z : length (before ++ (w ∷ [])) + k ≡ length before + suc k = omega arith in
    let E : ℕ → Type 0 = λ i. IsEarlier i (get_or rest k d) in
    ap (λ i. whats_at (ropes_from before (c ∷ rest)) i) (sym z) ∙ rope_from (before ++ (w ∷ [])) rest k d (omega arith) (subst E (sym z) h)

-- A cell has the tokens of what it joins, and joins earlier cells.
pub record IsCell (cells : List Cell) (ropes : List (List What)) (n : ℕ) (cell : Cell) : Type 0 where
  pub whats : whats_at ropes n ≡ whats_in ropes cell
  pub earlier : IsEarlier n cell

pub cell_at : (cells : List Cell) (ropes : List (List What)) (n : ℕ) (x : Cell) → ropes_from [] cells ≡ ropes → AreEarlier cells → n < length ropes → x ≡ get_or cells n x → IsCell cells ropes n x
cell_at cells ropes n x e all l h =
    let same = length-ropes_from [] cells in
    let size = ap length e in
    let z : 0 + n ≡ n = omega arith in
    let within : n < length cells = omega arith in
    let E : ℕ → Type 0 = λ i. IsEarlier i (get_or cells n x) in
    let f = rope_from [] cells n x within (subst E (sym z) (all n x within)) in
    let G : ℕ → Type 0 = λ i. whats_at (ropes_from [] cells) i ≡ whats_in (ropes_from [] cells) (get_or cells n x) in
    let R : List (List What) → Type 0 = λ rs. whats_at rs n ≡ whats_in rs (get_or cells n x) in
    let X : Cell → Type 0 = λ y. IsCell cells ropes n y in
    subst X (sym h) (record { whats = subst R e (subst G z f); earlier = all n x within })

pub cells_within : (cells : List Cell) (ropes : List (List What)) (n : ℕ) → ropes_from [] cells ≡ ropes → n < length ropes → n < length cells
cells_within cells ropes n e l =
    let same = length-ropes_from [] cells in
    let size = ap length e in
    omega arith

pub stacked-push : (ropes : List (List What)) (xs : List ℕ) (n : ℕ) → stacked ropes (xs ++ n ∷ []) ≡ whats_at ropes n ++ stacked ropes xs
stacked-push ropes [] n = grind (arith, common_steps)
stacked-push ropes (x ∷ rest) n =
    ap (λ ys. ys ++ whats_at ropes x) (stacked-push ropes rest n) ∙ append_assoc (whats_at ropes n) (stacked ropes rest) (whats_at ropes x)

pub weights-push : (xs : List ℕ) (n : ℕ) → weights (xs ++ n ∷ []) ≡ weights xs + weight n
weights-push [] n = omega arith
weights-push (x ∷ rest) n = let e = weights-push rest n in omega arith

pub weight_some : (n : ℕ) → 0 < weight n
weight_some zero = omega arith
weight_some (suc n) = let h = weight_some n in omega arith

weight_case : (l n : ℕ) → (l < n → 3 * weight l ≤ weight n) → (l < n) ⊎ (n ≤ l) → l < suc n → 3 * weight l ≤ weight (suc n)
weight_case l n up (inl g) h = let e = up g in omega arith
weight_case l n up (inr g) h = let e : l ≡ n = omega arith in let f = ap weight e in omega arith

weight_up : (l n : ℕ) → l < n → 3 * weight l ≤ weight n
weight_up l zero h = absurd (omega arith)
weight_up l (suc n) h = weight_case l n (λ g. weight_up l n g) (cases_lt l n) h

pub weight_two : (l r n : ℕ) → l < n → r < n → weight l + weight r < weight n
weight_two l r n h g =
    let a = weight_up l n h in let b = weight_up r n g in let c = weight_some n in omega arith

-- A cell on the stack gives way to nothing, to its token, or to the two cells that it joins.
pub none_put : (cells : List Cell) (ropes : List (List What)) (n : ℕ) (x : Cell) → IsCell cells ropes n x → x ≡ Empty → whats_at ropes n ≡ []
none_put cells ropes n x f e = f.whats ∙ ap (whats_in ropes) e

pub leaf_put : (cells : List Cell) (ropes : List (List What)) (n : ℕ) (x : Cell) (what : What) → IsCell cells ropes n x → x ≡ Leaf what → whats_at ropes n ≡ what ∷ []
leaf_put cells ropes n x what f e = f.whats ∙ ap (whats_in ropes) e

pub both_put : (cells : List Cell) (ropes : List (List What)) (n l r : ℕ) (x : Cell) (left one two : List ℕ) → IsCell cells ropes n x → x ≡ Both l r → one ≡ left ++ r ∷ [] → two ≡ one ++ l ∷ [] → stacked ropes two ≡ whats_at ropes n ++ stacked ropes left
both_put cells ropes n l r x left one two f e a b =
    let first = ap (stacked ropes) b ∙ stacked-push ropes one l in
    let second = ap (stacked ropes) a ∙ stacked-push ropes left r in
    let both = f.whats ∙ ap (whats_in ropes) e in
    first ∙ ap (λ ws. whats_at ropes l ++ ws) second ∙ sym (append_assoc (whats_at ropes l) (whats_at ropes r) (stacked ropes left)) ∙ ap (λ ws. ws ++ stacked ropes left) (sym both)

pub both_earlier : (cells : List Cell) (ropes : List (List What)) (n l r : ℕ) (x : Cell) → IsCell cells ropes n x → x ≡ Both l r → (l < n) × (r < n)
both_earlier cells ropes n l r x f e = let E : Cell → Type 0 = λ y. IsEarlier n y in subst E e f.earlier

pub both_lighter : (cells : List Cell) (ropes : List (List What)) (n l r : ℕ) (x : Cell) (left one two : List ℕ) → IsCell cells ropes n x → x ≡ Both l r → one ≡ left ++ r ∷ [] → two ≡ one ++ l ∷ [] → weights two < weight n + weights left
both_lighter cells ropes n l r x left one two f e a b =
    let g = both_earlier cells ropes n l r x f e in
    let two_less = weight_two l r n g.0 g.1 in
    let first = ap weights b ∙ weights-push one l in
    let second = ap weights a ∙ weights-push left r in
    omega arith

-- One token is appended.
pub leaf_out : (span : Span) (old new : List Token) (what made : What) (ws rest : List What) → new ≡ old ++ (token span made ∷ []) → made ≡ what → ws ≡ what ∷ [] → new ++ map (token span) rest ≡ old ++ map (token span) (ws ++ rest)
leaf_out span old new what made ws rest a b e =
    rw (a, b, e) (append_assoc old (token span what ∷ []) (map (token span) rest))

pub all_two : (m l r : ℕ) (left one two : List ℕ) → All (λ n. n < m) left → one ≡ left ++ r ∷ [] → two ≡ one ++ l ∷ [] → l < m → r < m → All (λ n. n < m) two
all_two m l r left one two all a b g h = grind (arith, elements)

-- A new cell is at the end, and the others stay.
pub record Pushed (old new : List (List What)) (root : ℕ) (ws : List What) : Type 0 where
  pub within : root < length new
  pub whats : whats_at new root ≡ ws
  pub keeps : KeepsRopes old new

pub pushed : (cells after : List Cell) (old : List (List What)) (root : ℕ) (cell : Cell) → ropes_from [] cells ≡ old → after ≡ cells ++ cell ∷ [] → root ≡ length cells → Pushed old (ropes_from [] after) root (whats_in old cell)
pushed cells after old root cell e a r =
    let all = ap (ropes_from []) a ∙ ropes-push [] cells cell ∙ ap (λ rs. rs ++ (whats_in rs cell ∷ [])) e in
    let size = length-ropes_from [] cells in
    let same = ap length e in
    let z : length old ≡ root = omega arith in
    let one = length-append old (whats_in old cell ∷ []) in
    let more = ap length all in
    record {
      within = omega arith;
      whats = ap (λ rs. whats_at rs root) all ∙ ap (λ i. whats_at (old ++ (whats_in old cell ∷ [])) i) (sym z) ∙ at_end old (whats_in old cell);
      keeps = record {
        room = omega arith;
        same = λ n l. ap (λ rs. whats_at rs n) all ∙ before_end old (whats_in old cell ∷ []) n l;
      };
    }

cell_before : (cells : List Cell) (cell d : Cell) (n : ℕ) → n < length cells → get_or (cells ++ cell ∷ []) n d ≡ get_or cells n d
cell_before cells cell d n l = grind (arith, common_steps)

cell_end : (cells : List Cell) (cell d : Cell) → get_or (cells ++ cell ∷ []) (length cells) d ≡ cell
cell_end cells cell d = grind (arith, common_steps)

pub earlier_push : (cells after : List Cell) (cell : Cell) → AreEarlier cells → after ≡ cells ++ cell ∷ [] → IsEarlier (length cells) cell → AreEarlier after
earlier_push cells after cell all a e n d l =
    at (cases_lt n (length cells))
  where
    at : (n < length cells) ⊎ (length cells ≤ n) → IsEarlier n (get_or after n d)
    at (inl g) =
        let same = ap (λ xs. get_or xs n d) a ∙ cell_before cells cell d n g in
        let E : Cell → Type 0 = λ x. IsEarlier n x in
        subst E (sym same) (all n d g)
    at (inr g) =
        let one = length-append cells (cell ∷ []) in
        let size = ap length a in
        let z : length cells ≡ n = omega arith in
        let same = ap (λ xs. get_or xs n d) a ∙ ap (λ i. get_or (cells ++ cell ∷ []) i d) (sym z) ∙ cell_end cells cell d in
        let E : Cell → Type 0 = λ x. IsEarlier n x in
        let F : ℕ → Type 0 = λ i. IsEarlier i cell in
        subst E (sym same) (subst F z e)

pub counted : (ws left right : List What) (m n : ℕ) → ws ≡ left ++ right → length left ≡ m → length right ≡ n → length ws ≡ m + n
counted ws left right m n e a b = let size = ap length e in let both = length-append left right in omega arith

pub turn_whole : (ropes : List (List What)) (span : Span) (before popped after : List ℕ) (n : ℕ) (old new target : List Token) → before ≡ popped ++ n ∷ [] → old ++ map (token span) (stacked ropes before) ≡ target → new ++ map (token span) (stacked ropes after) ≡ old ++ map (token span) (whats_at ropes n ++ stacked ropes popped) → new ++ map (token span) (stacked ropes after) ≡ target
turn_whole ropes span before popped after n old new target b e f =
    let same = ap (stacked ropes) b ∙ stacked-push ropes popped n in
    f ∙ ap (λ ws. old ++ map (token span) ws) (sym same) ∙ e

pub turn_lighter : (before popped after : List ℕ) (n : ℕ) → before ≡ popped ++ n ∷ [] → weights after < weight n + weights popped → weights after < weights before
turn_lighter before popped after n b l =
    let same = ap weights b ∙ weights-push popped n in
    omega arith

pub kept_same : (cells after : List Cell) (old : List (List What)) → ropes_from [] cells ≡ old → after ≡ cells → KeepsRopes old (ropes_from [] after)
kept_same cells after old e a =
    let all = ap (ropes_from []) a ∙ e in
    let size = ap length all in
    record { room = omega arith; same = λ n l. ap (λ rs. whats_at rs n) all }
