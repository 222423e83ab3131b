-- What holds of each mention of a said file, by what holds of each token.
use Rattle.std.proofs.Common.{◌≡◌, ℕ, zero, suc, Bool, true, false, ◌&&◌, inl, inr, Some, None}
use Rattle.std.proofs.Common.{if◌then◌else◌, List, [], ◌∷◌, ◌++◌, map, All, refl, sym, subst}
use Rattle.std.specs.Prelude.{Option, nat_le}
use Rattle.std.specs.List.{flat_map, AllByRecursion}
use Rattle.std.proofs.lemmas.Bool.{leb-true}
use Rattle.std.proofs.lemmas.Option.{none-some, same_Some}
use Rattle.std.proofs.lemmas.List.Elements.{All-nil, All-cons, All-head, All-tail, All-push}
use Rattle.ifs_base.specs.Sizes.{PeriodFits}
use Rattle.ifs_lex.specs.declared.token.Token.{Token}
use Rattle.ifs_lex.specs.declared.token.TokenPlace.{TokenPlace}
use Rattle.ifs_parse.specs.Trees as tree
use Rattle.ifs_parse.specs.Views.{all_of, any_of, block_of, statement_then}
use Rattle.ifs_parse.specs.Files.{File}
use Rattle.ifs_parse.specs.Rules.{Rule, GivesValue, OneToken, TheMark, ◌⨟◌, ◌or◌, Never, Noted, Many, Enough, More, with_last}
use Rattle.ifs_parse.specs.Words.{fits_period, marked, name_of, number_of_what}
use Rattle.ifs_parse.specs.Grammar as grammar
use Rattle.ifs_parse.specs.Grammar.{SaysWithin, Says, Operands, whole, conjunction}
use Rattle.ifs_parse.specs.declared.mark.Mark.{Mark}
use Rattle.ifs_parse.specs.declared.mark.Mark.TheVariants as mark
use Rattle.ifs_parse.specs.declared.tree.Name.{Name}
use Rattle.ifs_parse.specs.declared.tree.Test.{Test}
use Rattle.ifs_parse.specs.declared.tree.Test.TheVariants.{Link, External}
use Rattle.ifs_parse.specs.declared.tree.Wish.{Wish}
use Rattle.ifs_parse.specs.declared.tree.Part.{Part}
use Rattle.ifs_parse.specs.declared.tree.Part.TheVariants.{Init, Do}
use Rattle.ifs_parse.specs.declared.tree.Item.{Item}
use Rattle.ifs_parse.specs.declared.tree.Item.TheVariants.{InitState, State, Always}
use Rattle.ifs_parse.specs.declared.block.Statement.{Statement}
use Rattle.ifs_parse.specs.declared.block.Statement.TheVariants.{Run, SetState, If}
use Rattle.ifs_policy.specs.declared.mention.Half.{Half}
use Rattle.ifs_policy.specs.declared.mention.Half.TheVariants as at
use Rattle.ifs_policy.specs.declared.mention.Owner.{Owner}
use Rattle.ifs_policy.specs.declared.mention.Owner.TheVariants as whose
use Rattle.ifs_policy.specs.declared.mention.Mention.TheVariants as says
use Rattle.ifs_policy.specs.Mentions.{Mentioned, condition_mentions, block_mentions}
use Rattle.ifs_policy.specs.Mentions.{part_mentions, item_mentions, mentions_of}
use Rattle.ifs_policy.proofs.Lists.{each_left, each_right, each_both}

-- A property of names, and one of the places of marks, of all that a tree has. Each period in it is in the range.
module _ (OfName : Name → Type 0) (OfPlace : TokenPlace → Type 0) where
  abbrev OfTest : Test → Type 0
  OfTest (Link name state) = OfName name
  OfTest (External command period) = OfName command × PeriodFits period

  abbrev OfCondition : tree.Condition Test → Type 0
  OfCondition (tree.Leaf test) = OfTest test
  OfCondition (tree.NotSo operand) = OfCondition operand
  OfCondition (tree.And left right) = OfCondition left × OfCondition right
  OfCondition (tree.Or left right) = OfCondition left × OfCondition right

  abbrev OfBlock : tree.Block Test Name Wish → Type 0
  OfBlock tree.Done = Unit {0}
  OfBlock (tree.RunThen command rest) = OfName command × OfBlock rest
  OfBlock (tree.SetStateThen target rest) = OfPlace target.place × OfName target.state × OfBlock rest
  OfBlock (tree.IfThen condition inner rest) = OfCondition condition × OfBlock inner × OfBlock rest

  abbrev OfStatement : Statement Test Name Wish → Type 0
  OfStatement statement = OfBlock (statement_then statement tree.Done)

  abbrev OfPart : Part → Type 0
  OfPart (Init place block) = OfPlace place × OfBlock block
  OfPart (Do statement) = OfStatement statement

  abbrev OfItem : Item → Type 0
  OfItem (InitState place name) = OfPlace place × OfName name
  OfItem (State name parts) = OfName name × All OfPart parts
  OfItem (Always part) = OfPart part

  abbrev pub OfMention : Mentioned → Type 0
  OfMention (says.Interface name) = OfName name
  OfMention (says.External half command period) = OfName command × PeriodFits period
  OfMention (says.Command text) = OfName text
  OfMention (says.Defined name) = OfName name
  OfMention (says.Target name) = OfName name
  OfMention (says.Init owner place) = OfPlace place
  OfMention (says.InitState place) = OfPlace place
  OfMention (says.SetState half place) = OfPlace place

  abbrev pub OfMentions : List Mentioned → Type 0
  OfMentions mentions = AllByRecursion OfMention mentions

  -- Chains and blocks whose members have the property.
  of_all : (first : tree.Condition Test) (rest : List (tree.Condition Test)) → OfCondition first → All OfCondition rest → OfCondition (all_of first rest)
  of_all first [] h k = h
  of_all first (next ∷ rest) h k = of_all (tree.And first next) rest (h, All-head OfCondition next rest k) (All-tail OfCondition next rest k)

  of_any : (first : tree.Condition Test) (rest : List (tree.Condition Test)) → OfCondition first → All OfCondition rest → OfCondition (any_of first rest)
  of_any first [] h k = h
  of_any first (next ∷ rest) h k = of_any (tree.Or first next) rest (h, All-head OfCondition next rest k) (All-tail OfCondition next rest k)

  of_then : (statement : Statement Test Name Wish) (rest : tree.Block Test Name Wish) → OfStatement statement → OfBlock rest → OfBlock (statement_then statement rest)
  of_then (Run command) rest h k = (h.0, k)
  of_then (SetState target) rest h k = (h.0, h.1, k)
  of_then (If condition inner) rest h k = (h.0, h.1, k)

  of_block : (statements : List (Statement Test Name Wish)) → All OfStatement statements → OfBlock (block_of statements)
  of_block [] h = tt
  of_block (statement ∷ rest) h = of_then statement (block_of rest) (All-head OfStatement statement rest h) (of_block rest (All-tail OfStatement statement rest h))

  condition_says : (half : Half) (c : tree.Condition Test) → OfCondition c → OfMentions (condition_mentions half c)
  condition_says half (tree.Leaf (Link name state)) h = (h, tt)
  condition_says half (tree.Leaf (External command period)) h = (h, tt)
  condition_says half (tree.NotSo operand) h = condition_says half operand h
  condition_says half (tree.And left right) h =
      each_both OfMention (condition_mentions half left) (condition_mentions half right) (condition_says half left h.0) (condition_says half right h.1)
  condition_says half (tree.Or left right) h =
      each_both OfMention (condition_mentions half left) (condition_mentions half right) (condition_says half left h.0) (condition_says half right h.1)

  block_says : (half : Half) (b : tree.Block Test Name Wish) → OfBlock b → OfMentions (block_mentions half b)
  block_says half tree.Done h = tt
  block_says half (tree.RunThen command rest) h = (h.0, block_says half rest h.1)
  block_says half (tree.SetStateThen target rest) h = (h.0, (h.1, block_says half rest h.2))
  block_says half (tree.IfThen condition inner rest) h =
      each_both OfMention (condition_mentions half condition) (block_mentions half inner ++ block_mentions half rest) (condition_says half condition h.0)
      (each_both OfMention (block_mentions half inner) (block_mentions half rest) (block_says half inner h.1) (block_says half rest h.2))

  part_says : (owner : Owner) (part : Part) → OfPart part → OfMentions (part_mentions owner part)
  part_says owner (Init place block) h = (h.0, block_says at.Init block h.1)
  part_says owner (Do statement) h = block_says at.Body (statement_then statement tree.Done) h

  parts_say : (owner : Owner) (parts : List Part) → All OfPart parts → OfMentions (flat_map (part_mentions owner) parts)
  parts_say owner [] h = tt
  parts_say owner (part ∷ parts) h =
      each_both OfMention (part_mentions owner part) (flat_map (part_mentions owner) parts) (part_says owner part (All-head OfPart part parts h)) (parts_say owner parts (All-tail OfPart part parts h))

  item_says : (item : Item) → OfItem item → OfMentions (item_mentions item)
  item_says (InitState place name) h = (h.0, (h.1, tt))
  item_says (State name parts) h = (h.0, parts_say whose.State parts h.1)
  item_says (Always part) h = part_says whose.Always part h

  items_say : (items : List Item) → All OfItem items → OfMentions (mentions_of items)
  items_say [] h = tt
  items_say (item ∷ items) h =
      each_both OfMention (item_mentions item) (mentions_of items) (item_says item (All-head OfItem item items h)) (items_say items (All-tail OfItem item items h))

-- The rows of the grammar.
picked : (b : Bool) (m n : ℕ) → (if b then Some m else None) ≡ Some n → (b ≡ true) × (m ≡ n)
picked true m n e = (refl, same_Some m n e)
picked false m n e = absurd (none-some n e)

both : (a b : Bool) → (a && b) ≡ true → (a ≡ true) × (b ≡ true)
both true b e = (refl, e)
both false b e = absurd (cc)

fitting_fits : (o : Option ℕ) (n : ℕ) → grammar.fitting fits_period o ≡ Some n → PeriodFits n
fitting_fits None n e = absurd (none-some n e)
fitting_fits (Some m) n e =
    let p = picked (fits_period m) m n e in
    let b = both (nat_le 1 m) (nat_le m 604800) p.0 in
    subst PeriodFits p.1 (record { not_zero = leb-true 1 m b.0; within = leb-true m 604800 b.1 })

-- A rule says only values with a property, of tokens with a property.
module _ (OfToken : Token → Type 0) where
  abbrev Keeps : {X : Type 0} → Rule X → (X → Type 0) → Type 0
  Keeps {X} P G = (tokens : List Token) (x : X) (notes : List ℕ) → AllByRecursion OfToken tokens → P tokens x notes → G x

  keeps_gives : {X : Type 0} (G : X → Type 0) (value : X) → G value → Keeps (GivesValue value) G
  keeps_gives G value g tokens x notes each h = subst G (sym h.is_value) g

  keeps_token : {X : Type 0} (of : Token → Option X) (G : X → Type 0) → ((t : Token) (x : X) → OfToken t → of t ≡ Some x → G x) → Keeps (OneToken of) G
  keeps_token of G of_one tokens x notes each h = let one = subst (AllByRecursion OfToken) h.only each in of_one h.token x one.0 h.stands

  keeps_then : {X Y : Type 0} (P : Rule X) (Q : X → Rule Y) (F : X → Type 0) (G : Y → Type 0) → Keeps P F → ((x : X) → F x → Keeps (Q x) G) → Keeps (P ⨟ Q) G
  keeps_then P Q F G p q tokens y notes each h =
      let parts = subst (AllByRecursion OfToken) h.tokens_are each in
      q h.x (p h.front h.x h.before (each_left OfToken h.front h.back parts) h.first) h.back y h.after (each_right OfToken h.front h.back parts) h.second

  -- The same, if the first value does not matter.
  keeps_after : {X Y : Type 0} (P : Rule X) (Q : X → Rule Y) (G : Y → Type 0) → ((x : X) → Keeps (Q x) G) → Keeps (P ⨟ Q) G
  keeps_after P Q G q tokens y notes each h = q h.x h.back y h.after (each_right OfToken h.front h.back (subst (AllByRecursion OfToken) h.tokens_are each)) h.second

  keeps_or : {X : Type 0} (P Q : Rule X) (G : X → Type 0) → Keeps P G → Keeps Q G → Keeps (P or Q) G
  keeps_or P Q G p q tokens x notes each (inl h) = p tokens x notes each h
  keeps_or P Q G p q tokens x notes each (inr h) = q tokens x notes each h

  keeps_never : {X : Type 0} (G : X → Type 0) → Keeps Never G
  keeps_never G tokens x notes each h = absurd h

  keeps_noted : {X : Type 0} (line : ℕ) (P : Rule (X × Bool)) (G : X → Type 0) → Keeps P (λ r. G r.0) → Keeps (Noted line P) G
  keeps_noted line P G p tokens x notes each h = p tokens (x, h.is_noted) h.within each h.said

  keeps_many : {A X : Type 0} (P : Rule X) (add : A → X → A) (F : A → Type 0) (G : X → Type 0) → Keeps P G → ((a : A) (x : X) → F a → G x → F (add a x))
      → (a : A) → F a → Keeps (Many P add a) F
  keeps_many P add F G p step a f tokens b notes each Enough = f
  keeps_many P add F G p step a f tokens b notes each (More {x = x} {front = front} {back = back} {before = before} {after = after} first rest) =
      keeps_many P add F G p step (add a x) (step a x f (p front x before (each_left OfToken front back each) first)) back b after (each_right OfToken front back each) rest

  keeps_list : {X : Type 0} (P : Rule X) (G : X → Type 0) → Keeps P G → Keeps (Many P with_last []) (All G)
  keeps_list P G p = keeps_many P with_last (All G) G p (λ xs x h k. All-push G xs x h k) [] (All-nil G)

  keeps_period : Keeps (grammar.IsPeriod fits_period) PeriodFits
  keeps_period tokens n notes each h = fitting_fits (number_of_what h.token.what) n h.stands

  -- Each operand has a property.
  abbrev Each : {X : Type 0} → (X → Type 0) → Operands X → Type 0
  Each G o = All G (whole o)

  keeps_joined : {X : Type 0} (sign : Mark) (one : Rule X) (G : X → Type 0) → Keeps one G → Keeps (grammar.Joined sign one) (Each G)
  keeps_joined sign one G kept =
      keeps_then _ _ G (Each G) kept (λ first h.
      keeps_then _ _ (All G) (Each G) (keeps_list _ G (keeps_after _ _ G (λ _. kept))) (λ others each.
      keeps_gives (Each G) _ (All-cons G first others h each)))

  keeps_braced : {X : Type 0} (P : Rule X) (G : X → Type 0) → Keeps P G → Keeps (grammar.AreBraced P) (All G)
  keeps_braced P G p = keeps_then _ _ (All G) (All G) (keeps_list P G p) (λ xs each. keeps_after _ _ (All G) (λ _. keeps_gives (All G) xs each))

  module _ (OfName : Name → Type 0) (OfPlace : TokenPlace → Type 0) (named : (t : Token) (name : Name) → OfToken t → name_of t ≡ Some name → OfName name)
      (placed : (m : Mark) (t : Token) (place : TokenPlace) → OfToken t → marked m t ≡ Some place → OfPlace place) where
    keeps_name : Keeps grammar.IsString OfName
    keeps_name = keeps_token name_of OfName named

    keeps_mark : (m : Mark) → Keeps (TheMark m) OfPlace
    keeps_mark m = keeps_token (marked m) OfPlace (placed m)

    abbrev Leaf : Test → Type 0
    Leaf = OfTest OfName OfPlace

    abbrev Cond : tree.Condition Test → Type 0
    Cond = OfCondition OfName OfPlace

    abbrev Inner : tree.Block Test Name Wish → Type 0
    Inner = OfBlock OfName OfPlace

    abbrev Stmt : Statement Test Name Wish → Type 0
    Stmt = OfStatement OfName OfPlace

    abbrev Piece : Part → Type 0
    Piece = OfPart OfName OfPlace

    abbrev Whole : Item → Type 0
    Whole = OfItem OfName OfPlace

    keeps_test : Keeps (grammar.IsTest fits_period) Leaf
    keeps_test =
        keeps_then _ _ OfName Leaf keeps_name (λ name of_name. keeps_or _ _ Leaf
        (keeps_after _ _ Leaf (λ _. keeps_after _ _ Leaf (λ _. keeps_after _ _ Leaf (λ _. keeps_after _ _ Leaf (λ l. keeps_gives Leaf (Link name l) of_name)))))
        (keeps_after _ _ Leaf (λ _. keeps_then _ _ PeriodFits Leaf keeps_period (λ n fits. keeps_gives Leaf (External name n) (of_name, fits)))))

    of_conjunction : (o : Operands (tree.Condition Test)) → Each Cond o → Cond (conjunction o)
    of_conjunction o h = of_all OfName OfPlace o.first o.others (All-head Cond o.first o.others h) (All-tail Cond o.first o.others h)

    of_each : (operands : List (Operands (tree.Condition Test))) → All (Each Cond) operands → All Cond (map conjunction operands)
    of_each [] h = All-nil Cond
    of_each (o ∷ rest) h = All-cons Cond (conjunction o) (map conjunction rest) (of_conjunction o (All-head (Each Cond) o rest h)) (of_each rest (All-tail (Each Cond) o rest h))

    module _ (all : Rule (Operands (tree.Condition Test))) (kept : Keeps all (Each Cond)) where
      keeps_any : Keeps (grammar.IsAny all) Cond
      keeps_any =
          keeps_then _ _ (Each Cond) Cond kept (λ first h. keeps_or _ _ Cond
          (keeps_after _ _ Cond (λ place. keeps_noted place.span.line _ Cond
          (keeps_then _ _ (Each (Each Cond)) (λ r. Cond r.0) (keeps_joined mark.Or all (Each Cond) kept) (λ more each.
          keeps_gives (λ r. Cond r.0) _ (of_any OfName OfPlace (conjunction first) (map conjunction (whole more)) (of_conjunction first h) (of_each (whole more) each))))))
          (keeps_gives Cond _ (of_conjunction first h)))

    module _ (negated grouped : Rule (tree.Condition Test)) (first : Keeps negated Cond) (second : Keeps grouped Cond) where
      keeps_one_over : Keeps (grammar.IsOneOver negated grouped (grammar.IsTest fits_period)) Cond
      keeps_one_over =
          keeps_or _ _ Cond (keeps_after _ _ Cond (λ _. keeps_then _ _ Cond Cond first (λ c h. keeps_gives Cond _ h)))
          (keeps_or _ _ Cond (keeps_after _ _ Cond (λ _. keeps_then _ _ Cond Cond second (λ c h. keeps_after _ _ Cond (λ _. keeps_gives Cond _ h))))
          (keeps_then _ _ Leaf Cond keeps_test (λ t h. keeps_gives Cond _ h)))

    keeps_one : (room : ℕ) → Keeps (grammar.IsOne fits_period room) Cond
    keeps_one zero = keeps_one_over Never Never (keeps_never Cond) (keeps_never Cond)
    keeps_one (suc room) =
        let inner = keeps_one room in
        keeps_one_over (grammar.IsOne fits_period room) (grammar.IsAny (grammar.IsAll (grammar.IsOne fits_period room))) inner
        (keeps_any (grammar.IsAll (grammar.IsOne fits_period room)) (keeps_joined mark.And (grammar.IsOne fits_period room) Cond inner))

    keeps_condition : (room : ℕ) → Keeps (grammar.IsCondition fits_period room) Cond
    keeps_condition room = keeps_any (grammar.IsAll (grammar.IsOne fits_period room)) (keeps_joined mark.And (grammar.IsOne fits_period room) Cond (keeps_one room))

    module _ (statement : Rule (Statement Test Name Wish)) (kept : Keeps statement Stmt) where
      keeps_block : Keeps (grammar.IsBlock statement) Inner
      keeps_block =
          keeps_or _ _ Inner
          (keeps_after _ _ Inner (λ _. keeps_then _ _ (All Stmt) Inner (keeps_braced statement Stmt kept) (λ xs each. keeps_gives Inner _ (of_block OfName OfPlace xs each))))
          (keeps_then _ _ Stmt Inner kept (λ x h. keeps_gives Inner _ (of_then OfName OfPlace x tree.Done h tt)))

      keeps_part : Keeps (grammar.IsPart statement) Piece
      keeps_part =
          keeps_or _ _ Piece
          (keeps_then _ _ OfPlace Piece (keeps_mark mark.Init) (λ place of_place. keeps_then _ _ Inner Piece keeps_block (λ inner h. keeps_gives Piece (Init place inner) (of_place, h))))
          (keeps_then _ _ Stmt Piece kept (λ s h. keeps_gives Piece (Do s) h))

    keeps_statement_over : (conditional : Rule (Statement Test Name Wish)) → Keeps conditional Stmt → Keeps (grammar.IsStatementOver conditional) Stmt
    keeps_statement_over conditional kept =
        keeps_or _ _ Stmt (keeps_after _ _ Stmt (λ _. kept))
        (keeps_or _ _ Stmt (keeps_after _ _ Stmt (λ _. keeps_then _ _ OfName Stmt keeps_name (λ command of_name. keeps_gives Stmt (Run command) (of_name, tt))))
        (keeps_then _ _ OfPlace Stmt (keeps_mark mark.SetState) (λ place of_place.
        keeps_then _ _ OfName Stmt keeps_name (λ name of_name. keeps_gives Stmt _ (of_place, of_name, tt)))))

    keeps_statement : (room : ℕ) → Keeps (grammar.IsStatement fits_period room) Stmt
    keeps_statement zero = keeps_statement_over Never (keeps_never Stmt)
    keeps_statement (suc room) =
        keeps_statement_over (grammar.IsConditional (grammar.IsCondition fits_period room) (grammar.IsBlock (grammar.IsStatement fits_period room)))
        (keeps_then _ _ Cond Stmt (keeps_condition room) (λ c h.
        keeps_then _ _ Inner Stmt (keeps_block (grammar.IsStatement fits_period room) (keeps_statement room)) (λ inner k. keeps_gives Stmt (If c inner) (h, k, tt))))

    keeps_item : (part : Rule Part) → Keeps part Piece → Keeps (grammar.IsItem part) Whole
    keeps_item part kept =
        keeps_or _ _ Whole
        (keeps_then _ _ OfPlace Whole (keeps_mark mark.InitState) (λ place of_place.
        keeps_then _ _ OfName Whole keeps_name (λ name of_name. keeps_gives Whole (InitState place name) (of_place, of_name))))
        (keeps_or _ _ Whole
        (keeps_after _ _ Whole (λ _. keeps_then _ _ OfName Whole keeps_name (λ name of_name. keeps_after _ _ Whole (λ _.
        keeps_then _ _ (All Piece) Whole (keeps_braced part Piece kept) (λ parts each. keeps_gives Whole (State name parts) (of_name, each))))))
        (keeps_then _ _ Piece Whole kept (λ p h. keeps_gives Whole (Always p) h)))

    said_items : (tokens : List Token) (f : File) → AllByRecursion OfToken tokens → Says tokens f → All Whole f.items
    unfolding SaysWithin
    said_items tokens f each h =
        keeps_then _ _ (All Whole) (All Whole) (keeps_list _ Whole (keeps_item _ (keeps_part _ (keeps_statement 32))))
        (λ all of_all. keeps_after _ _ (All Whole) (λ _. keeps_gives (All Whole) all of_all)) tokens f.items f.notes each h

    -- Each mention of the file has its property.
    pub said_mentions : (tokens : List Token) (f : File) → AllByRecursion OfToken tokens → Says tokens f → OfMentions OfName OfPlace (mentions_of f.items)
    said_mentions tokens f each h = items_say OfName OfPlace f.items (said_items tokens f each h)
