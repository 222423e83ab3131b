-- Each parser reads its rule of the grammar.
use Rattle.std.proofs.Common.{◌≡◌, ◌≢◌, inl, inr, ℕ, zero, suc, ◌≤◌, refl, sym, ap, subst, ◌∙◌, cond}
use Rattle.std.proofs.Common.{Bool, true, false, ◌||◌, Option, Some, None, Ok, Err, List, []}
use Rattle.std.proofs.Common.{◌∷◌, ◌++◌, length, append_assoc, append-nil, length-append, arith}
use Rattle.std.specs.Prelude.{Result, if◌then◌else◌, option_map}
use Rattle.std.specs.Option.{option_map_or}
use denote.Enum.Bare.{same_true, false_same}
use Rattle.ifs_lex.specs.declared.token.Token.{Token}
use Rattle.ifs_lex.specs.declared.token.TokenPlace.{TokenPlace}
use Rattle.ifs_lex.specs.Numbered.{place_of}
use Rattle.ifs_lex.specs.declared.token.What.{What}
use Rattle.ifs_lex.specs.declared.token.What.TheVariants as what
use Rattle.ifs_parse.specs.contracts.mark.Mark.{the_type}
use Rattle.ifs_parse.specs.declared.fault.ParseFault.{ParseFault}
use Rattle.ifs_parse.specs.declared.mark.Mark.{Mark}
use Rattle.ifs_parse.specs.declared.mark.Mark.TheVariants as mark
use Rattle.ifs_parse.specs.Marks.{mark_of, mark_of_word, is}
use Rattle.ifs_parse.specs.declared.tree.Name.{Name}
use Rattle.ifs_parse.specs.declared.tree.Test.{Test}
use Rattle.ifs_parse.specs.declared.parser.Operand.{Operand}
use Rattle.ifs_parse.specs.declared.tree.Wish.{Wish}
use Rattle.ifs_parse.specs.declared.tree.Part.{Part}
use Rattle.ifs_parse.specs.declared.tree.Part.TheVariants.{Init, Do}
use Rattle.ifs_parse.specs.declared.tree.Item.{Item}
use Rattle.ifs_parse.specs.declared.tree.Item.TheVariants.{InitState, State as StateItem, Always as AlwaysItem}
use Rattle.ifs_parse.specs.declared.block.Statement.{Statement}
use Rattle.ifs_parse.specs.declared.block.Statement.TheVariants.{Run, SetState, If}
use Rattle.ifs_parse.specs.Trees as tree
use Rattle.ifs_parse.specs.Views.{all_of, any_of, block_of}
use Rattle.ifs_parse.specs.declared.fault.ParseFault.TheVariants.{Period}
use Rattle.ifs_parse.specs.inner.Combined.{Progress, progress, Parse, place_of_first, after_token, found}
use Rattle.ifs_parse.specs.inner.Combined.{accepted, unexpected}
use Rattle.ifs_parse.specs.inner.Combined.{◌▸◌, pure, begins, either, expected, no_more, required, many}
use Rattle.ifs_parse.specs.Words.{marked}
use Rattle.ifs_parse.specs.Rules.{Rule, GivesValue, TheMark, ◌⨟◌, ◌or◌, Never, Optional, Noted, Many}
use Rattle.ifs_parse.specs.inner.Reading as reading
use Rattle.ifs_parse.specs.Words as words
use Rattle.ifs_parse.specs.Rules as rules
use Rattle.ifs_parse.specs.Grammar as grammar
use Rattle.ifs_parse.proofs.RuleLaws.{gives_made, Within, or_never}
use Rattle.ifs_parse.proofs.Operands as operands
use Rattle.ifs_parse.proofs.Operands.{condition_kept, kept_condition}
use Rattle.ifs_parse.proofs.Exact.{exact_as, Stop, Always, Any, Until, Found, Reads, Exact, found_as, exact_pure}
use Rattle.ifs_parse.proofs.Exact.{exact_token, exact_mark, reads_then, exact_then, exact_map, exact_either}
use Rattle.ifs_parse.proofs.Exact.{reads_either, many_next, exact_no_more, exact_optional_as, exact_begins}
use Rattle.ifs_parse.proofs.Exact.{exact_required, reads_many, exact_many, exact_noted, went, told}

-- A token that is one mark is no other.
is_at : (k m n : Mark) → is k m ≡ true → m ≢ n → is k n ≡ false
unfolding is
is_at k m n p differ = false_same the_type tt k n (λ e. differ (sym (same_true the_type tt k m p) ∙ e))

pub taken : {A : Type 0} (b : Bool) (a c : A) → cond b (Some a) None ≡ Some c → b ≡ true
taken true a c e = refl
taken false a c e = absurd (cc)

pub mark_apart : (m n : Mark) → m ≢ n → (t : Token) (place : TokenPlace) → marked m t ≡ Some place → marked n t ≡ None
mark_apart m n differ t place h = rw (is_at (mark_of t.what) m n (taken (is (mark_of t.what) m) (place_of t) place h) differ)

-- What begins with one mark begins with no other mark.
pub begins_apart : {X : Type 0} (m n : Mark) (Q : TokenPlace → Rule X) → m ≢ n → (x : X) (p : List Token) (ns : List ℕ) (next : List Token)
    → (TheMark m ⨟ Q) p x ns → accepted n (p ++ next) ≡ None
begins_apart m n Q differ x p ns next h =
    ap (λ (l : List Token). accepted n (l ++ next)) (h.tokens_are ∙ ap (λ (l : List Token). l ++ h.back) h.first.only) ∙ mark_apart m n differ h.first.token h.x h.first.stands

-- What begins with a mark has a token.
pub begins_longer : {X : Type 0} (m : Mark) (Q : TokenPlace → Rule X) (p : List Token) (x : X) (ns : List ℕ) → (TheMark m ⨟ Q) p x ns → 1 ≤ length p
begins_longer m Q p x ns h = rw (h.tokens_are, h.first.only) (omega arith)

by_test : (P : Mark → Type 0) (b : Bool) (m n : Mark) → P m → P n → P (cond b m n)
by_test P true m n h k = h
by_test P false m n h k = k

-- What holds of the mark of each word in the grammar, and of `Other`, holds of the mark of each word.
pub of_words : (P : Mark → Type 0) → P mark.State → P mark.InitState → P mark.Init → P mark.If → P mark.Run → P mark.SetState → P mark.Every → P mark.Link
    → P mark.Up → P mark.Down → P mark.Unknown → P mark.Other → (word : List ℕ) → P (mark_of_word word)
of_words P a b c d e f g h i j k l word =
    by_test P _ mark.State _ a (by_test P _ mark.InitState _ b (by_test P _ mark.Init _ c (by_test P _ mark.If _ d (by_test P _ mark.Run _ e (by_test P _ mark.SetState _ f
    (by_test P _ mark.Every _ g (by_test P _ mark.Link _ h (by_test P _ mark.Up _ i (by_test P _ mark.Down _ j (by_test P _ mark.Unknown mark.Other k l))))))))))

-- A string is neither `!` nor `(`.
string_is_no_bang : (w : What) (text : List ℕ) → words.text_of w ≡ Some text → is (mark_of w) mark.Bang ≡ false
unfolding is
string_is_no_bang (what.Word word) text h = of_words (λ k. is k mark.Bang ≡ false) refl refl refl refl refl refl refl refl refl refl refl refl word
string_is_no_bang (what.Quoted t) text h = refl
string_is_no_bang _ text h = absurd (cc)

string_is_no_paren : (w : What) (text : List ℕ) → words.text_of w ≡ Some text → is (mark_of w) mark.ParenOpen ≡ false
unfolding is
string_is_no_paren (what.Word word) text h = of_words (λ k. is k mark.ParenOpen ≡ false) refl refl refl refl refl refl refl refl refl refl refl refl word
string_is_no_paren (what.Quoted t) text h = refl
string_is_no_paren _ text h = absurd (cc)

mapped : {A B : Type 0} (f : A → B) (o : Option A) (b : B) → option_map f o ≡ Some b → (a : A) × (o ≡ Some a)
mapped f None b h = absurd (cc)
mapped f (Some a) b h = (a, refl)

string_apart : (m : Mark) → ((w : What) (text : List ℕ) → words.text_of w ≡ Some text → is (mark_of w) m ≡ false) → {X : Type 0} (Q : Name → Rule X)
    → (x : X) (p : List Token) (ns : List ℕ) (next : List Token) → (grammar.IsString ⨟ Q) p x ns → accepted m (p ++ next) ≡ None
string_apart m differ Q x p ns next h =
    let text = mapped (λ text. record { text = text; place = place_of h.first.token }) (words.text_of h.first.token.what) h.x h.first.stands in
    ap (λ (l : List Token). accepted m (l ++ next)) (h.tokens_are ∙ ap (λ (l : List Token). l ++ h.back) h.first.only)
    ∙ ap (λ b. cond b (Some (place_of h.first.token)) None) (differ h.first.token.what text.0 text.1)

pub exact_string : Exact reading.string grammar.IsString Always
exact_string = exact_token words.name_of

module _ (fits : ℕ → Bool) where
  fits_by : (n : ℕ) (b : Bool) (x : ℕ) → fits n ≡ b → (if b then Some n else None) ≡ Some x → (Some n ≡ Some x) × (fits x ≡ true)
  fits_by n true x h e = let same : n ≡ x = cc in (e, subst (λ k. fits k ≡ true) same h)
  fits_by n false x h e = absurd (cc)

  fitted : (o : Option ℕ) (x : ℕ) → grammar.fitting fits o ≡ Some x → (o ≡ Some x) × (fits x ≡ true)
  fitted None x e = absurd (cc)
  fitted (Some n) x e = fits_by n (fits n) x refl e

  period_again : (u : Token) (x : ℕ) (q : List Token) (m : List ℕ) → grammar.fitting fits (words.number_of_what u.what) ≡ Some x
      → reading.period fits (progress (u ∷ q) m) ≡ Ok (x, progress q (m ++ []))
  period_again u x q m h = let f = fitted (words.number_of_what u.what) x h in rw (f.0, f.1, append-nil m)

  period_fits : (u : Token) (ts : List Token) (m : List ℕ) (n : ℕ) → words.number_of_what u.what ≡ Some n → (b : Bool) → fits n ≡ b → (x : ℕ) (t : Progress)
      → if◌then◌else◌ {A = Result (ℕ × Progress) ParseFault} b (Ok (n, progress ts m)) (Err (Period (place_of u))) ≡ Ok (x, t) → Found (grammar.IsPeriod fits) Always (progress (u ∷ ts) m) x t
  period_fits u ts m n h false k x t e = absurd (cc)
  period_fits u ts m n h true k x t e =
      let p : (n, progress ts m) ≡ (x, t) = cc in
      subst (λ (r : ℕ × Progress). Found (grammar.IsPeriod fits) Always (progress (u ∷ ts) m) r.0 r.1) p
      (record {
        tokens = u ∷ [];
        notes = [];
        taken = refl;
        noted = sym (append-nil m);
        said = record { token = u; only = refl; stands = rw (h, k); unnoted = refl };
        stops = tt;
      })

  period_found : (ts : List Token) (m : List ℕ) (o : Option ℕ) → found (λ t. words.number_of_what t.what) ts ≡ o → (x : ℕ) (t : Progress)
      → option_map_or (λ n. if fits n then Ok (n, after_token (progress ts m)) else Err (Period (place_of_first ts))) o (unexpected (progress ts m)) ≡ Ok (x, t)
      → Found (grammar.IsPeriod fits) Always (progress ts m) x t
  period_found ts m None h x t e = absurd (cc)
  period_found [] m (Some n) h x t e = absurd (cc)
  period_found (u ∷ ts) m (Some n) h x t e = period_fits u ts m n h (fits n) refl x t e

  pub exact_period : Exact (reading.period fits) (grammar.IsPeriod fits) Always
  exact_period = record {
    again = λ p x ns q m h stop. rw (h.only, h.unnoted) (period_again h.token x q m h.stands);
    reads = λ s x t a e. period_found s.left s.notes (found (λ t. words.number_of_what t.what) s.left) refl x t e;
  }

  link_test_exact : (name : Name) → Exact (reading.link_test name) (grammar.IsLinkTest name) Always
  link_test_exact name =
      exact_then _ _ _ _ _ (exact_mark mark.Link) (λ _. exact_then _ _ _ _ _ (exact_mark mark.Dot) (λ _.
      exact_map _ _ _ (exact_token (λ t. words.link_state_of (mark_of t.what)))))

  pub exact_test : Exact (reading.test fits) (grammar.IsTest fits) Always
  exact_test =
      exact_then _ _ _ _ _ exact_string (λ name.
      exact_either mark.Dot (λ _. reading.link_test name) (expected mark.Every ▸ λ _. reading.external_test fits name) _ _
      (λ _. link_test_exact name) (exact_then _ _ _ _ _ (exact_mark mark.Every) (λ _. exact_map _ _ _ exact_period))
      (begins_apart mark.Every mark.Dot _ (λ e. cc)))

-- This mark is not next.
abbrev pub No : Mark → List Token → Type 0
No m next = (accepted m next ≡ None) × Unit {0}

-- What is made of one thing.
reads_map : {X Y : Type 0} (start stop : List Token → Type 0) (p : Parse X) (f : X → Y) (P : Rule X) → Reads start p P (λ x. stop)
    → Reads start (p ▸ λ x. pure (f x)) (P ⨟ λ x. GivesValue (f x)) (λ y. stop)
reads_map start stop p f P exact_p =
    reads_then start p (λ x. pure (f x)) P (λ x. GivesValue (f x)) (λ x. stop) (λ x. Any) (λ x. Always) (λ y. stop) exact_p (λ x. exact_pure (f x)) (λ x next a. tt)
    (λ x y back ns next h s. (subst (λ (l : List Token). stop (l ++ next)) (sym h.none) s, tt))
    (λ x y back ns next h a b. subst (λ (l : List Token). stop (l ++ next)) h.none a)

pub exact_next : {X : Type 0} (m : Mark) (operand : Parse X) (O : Rule X) (some : List Token → Type 0) → Exact operand O (λ x. some)
    → Exact (reading.next_operand m operand) (Optional (TheMark m ⨟ λ _. O)) (Until (No m) some)
exact_next m operand O some exact_o =
    exact_optional_as (reading.next_operand m operand) ((TheMark m ⨟ λ _. O) or Never) (TheMark m ⨟ λ _. O) (Until (No m) some)
    (or_never (TheMark m ⨟ λ _. O)) (λ p x ns h. inl h)
    (exact_begins m (λ _. operand) no_more (λ _. O) Never Any some (λ _. exact_o) (exact_no_more some) (λ x p ns next h. absurd h))

module _ (one : Parse (tree.Condition Test)) (One : Rule (tree.Condition Test)) (exact_o : Exact one One Always) where
  exact_chain : (first : tree.Condition Test) → Exact (reading.chain one first) (operands.IsChain One first) (λ o. No mark.And)
  exact_chain first =
      exact_then one _ One _ (λ o. No mark.And) exact_o (λ second.
      reads_map Any (No mark.And) (many (reading.next_operand mark.And one) rules.with_last [])
      (λ rest. reading.operand (all_of (tree.And first second) rest) true) (Many (TheMark mark.And ⨟ λ _. One) rules.with_last [])
      (exact_many (reading.next_operand mark.And one) rules.with_last (TheMark mark.And ⨟ λ _. One) (No mark.And)
      (exact_next mark.And one One Any exact_o) (λ x p ns h. begins_longer mark.And (λ _. One) p x ns h) (refl, tt) []))

  pub exact_all : Exact (reading.all one) (operands.IsAll One) (λ o. No mark.And)
  exact_all =
      exact_then one _ One _ (λ o. No mark.And) exact_o (λ first.
      reads_either Any mark.And (λ _. reading.chain one first) (pure (reading.operand first false)) (λ _. operands.IsChain One first) (GivesValue (reading.operand first false))
      (λ o. No mark.And) Always (λ o. No mark.And) (λ _. exact_chain first) (exact_pure (reading.operand first false))
      (λ x next s. s) (λ x next s. s)
      (λ x p ns next h s. (ap (λ (l : List Token). accepted mark.And (l ++ next)) h.none ∙ s.0, tt))
      (λ x p ns next h begun a b. (ap (λ (l : List Token). accepted mark.And (l ++ next)) (sym h.none) ∙ a, tt)))

-- Neither `||` nor `&&` is next.
abbrev pub Over : List Token → Type 0
Over next = No mark.Or next × No mark.And next

module _ (all : Parse Operand) (All : Rule Operand) (exact_a : Exact all All (λ o. No mark.And)) where
  no_and : {X : Type 0} (Q : TokenPlace → Rule X) (x : X) (p : List Token) (ns : List ℕ) (next : List Token) → (TheMark mark.Or ⨟ Q) p x ns → No mark.And (p ++ next)
  no_and Q x p ns next h = (begins_apart mark.Or mark.And Q (λ e. cc) x p ns next h, tt)

  pub reads_more : (begun : reading.Others) → Reads (No mark.And) (many (reading.next_operand mark.Or all) reading.with_operand begun)
      (Many (TheMark mark.Or ⨟ λ _. All) reading.with_operand begun) (λ b. Over)
  reads_more begun =
      reads_many (reading.next_operand mark.Or all) reading.with_operand (TheMark mark.Or ⨟ λ _. All) (No mark.Or) (No mark.And)
      (exact_next mark.Or all All (No mark.And) exact_a) (no_and (λ _. All)) (λ x p ns h. begins_longer mark.Or (λ _. All) p x ns h) (refl, tt) begun

  exact_alternatives : (first : Operand) → Exact (reading.alternatives all first) (operands.AreAlternatives All first) (λ r. Over)
  exact_alternatives first =
      reads_then Any all _ All _ (λ o. No mark.And) (λ second. No mark.And) (λ second r. Over) (λ r. Over) exact_a
      (λ second. reads_map (No mark.And) Over (many (reading.next_operand mark.Or all) reading.with_operand (reading.others [] (first.is_chain || second.is_chain)))
      (λ more. (any_of (tree.Or first.condition second.condition) more.rest, more.is_mixed))
      (Many (TheMark mark.Or ⨟ λ _. All) reading.with_operand (reading.others [] (first.is_chain || second.is_chain)))
      (reads_more (reading.others [] (first.is_chain || second.is_chain))))
      (λ second next s. s)
      (λ second r back ns next h s.
      (rw (h.tokens_are, h.second.none, append-nil h.front) (many_next (TheMark mark.Or ⨟ λ _. All) (No mark.And) (no_and (λ _. All)) next h.first s.1), s))
      (λ second r back ns next h a b. b)

  any_next : (first : Operand) (c : tree.Condition Test) (back : List Token) (ns : List ℕ) (next : List Token)
      → ((TheMark mark.Or ⨟ λ place. Noted place.span.line (operands.AreAlternatives All first)) or GivesValue first.condition) back c ns → Over next → No mark.And (back ++ next)
  any_next first c back ns next (inl h) s = no_and (λ place. Noted place.span.line (operands.AreAlternatives All first)) c back ns next h
  any_next first c back ns next (inr h) s = subst (λ (l : List Token). No mark.And (l ++ next)) (sym h.none) s.1

  pub exact_any : Exact (reading.any all) (operands.IsAny All) (λ c. Over)
  exact_any =
      reads_then Any all _ All _ (λ o. No mark.And) (λ first. No mark.And) (λ first c. Over) (λ c. Over) exact_a
      (λ first.
      reads_either (No mark.And) mark.Or (reading.noted_alternatives all first) (pure first.condition)
      (λ place. Noted place.span.line (operands.AreAlternatives All first)) (GivesValue first.condition)
      (λ c. Over) Always (λ c. Over)
      (λ place. exact_noted place.span.line (reading.alternatives all first) (operands.AreAlternatives All first) Over (exact_alternatives first)) (exact_pure first.condition)
      (λ x next s. s) (λ x next s. s)
      (λ x p ns next h s. (ap (λ (l : List Token). accepted mark.Or (l ++ next)) h.none ∙ s.0.0, tt))
      (λ x p ns next h begun a b. (
        (ap (λ (l : List Token). accepted mark.Or (l ++ next)) (sym h.none) ∙ a, tt),
        subst (λ (l : List Token). No mark.And (l ++ next)) h.none begun,
      )))
      (λ first next s. s)
      (λ first c back ns next h s. (any_next first c back ns next h s, s))
      (λ first c back ns next h a b. b)

-- A condition, by the whole lists of operands.
exact_operands : (one : Parse (tree.Condition Test)) (One : Rule (tree.Condition Test)) → Exact one One Always
    → Exact (reading.any (reading.all one)) (grammar.IsAny (grammar.IsAll One)) (λ c. Over)
exact_operands one One exact_o =
    exact_as (reading.any (reading.all one)) (operands.IsAny (operands.IsAll One)) (grammar.IsAny (grammar.IsAll One)) (λ c. Over)
    (kept_condition One) (condition_kept One) (exact_any (reading.all one) (operands.IsAll One) (exact_all one One exact_o))

-- Nothing may be open.
exact_deep : {X : Type 0} (place : TokenPlace) (stop : Stop X) → Exact (reading.deep place) Never stop
exact_deep place stop = record { again = λ p x ns q m h s. absurd h; reads = λ s x t a e. absurd (cc) }

-- A closing parenthesis ends a condition.
close_ends : {X : Type 0} (Q : TokenPlace → Rule X) (x : X) (p : List Token) (ns : List ℕ) (next : List Token) → (TheMark mark.ParenClose ⨟ Q) p x ns → Over (p ++ next)
close_ends Q x p ns next h =
    ((begins_apart mark.ParenClose mark.Or Q (λ e. cc) x p ns next h, tt), (begins_apart mark.ParenClose mark.And Q (λ e. cc) x p ns next h, tt))

-- A sequence does not begin with this mark if its first rule does not.
then_apart : {X Y : Type 0} (m : Mark) (P : Rule X) (Q : X → Rule Y) → ((x : X) (p : List Token) (ns : List ℕ) (next : List Token) → P p x ns → accepted m (p ++ next) ≡ None)
    → (y : Y) (p : List Token) (ns : List ℕ) (next : List Token) → (P ⨟ Q) p y ns → accepted m (p ++ next) ≡ None
then_apart m P Q apart y p ns next h =
    ap (λ (l : List Token). accepted m (l ++ next)) h.tokens_are ∙ ap (λ (l : List Token). accepted m l) (append_assoc h.front h.back next)
    ∙ apart h.x h.front h.before (h.back ++ next) h.first

or_apart : {X : Type 0} (m : Mark) (P Q : Rule X) → ((x : X) (p : List Token) (ns : List ℕ) (next : List Token) → P p x ns → accepted m (p ++ next) ≡ None)
    → ((x : X) (p : List Token) (ns : List ℕ) (next : List Token) → Q p x ns → accepted m (p ++ next) ≡ None)
    → (x : X) (p : List Token) (ns : List ℕ) (next : List Token) → (P or Q) p x ns → accepted m (p ++ next) ≡ None
or_apart m P Q a b x p ns next (inl h) = a x p ns next h
or_apart m P Q a b x p ns next (inr h) = b x p ns next h

module _ (fits : ℕ → Bool) (negated grouped : TokenPlace → Parse (tree.Condition Test)) (Negated Grouped : Rule (tree.Condition Test))
    (exact_n : (place : TokenPlace) → Exact (negated place) Negated Always) (exact_g : (place : TokenPlace) → Exact (grouped place) Grouped (λ c. Over)) where
  exact_group : (place : TokenPlace) → Exact (grouped place ▸ λ c. expected mark.ParenClose ▸ λ _. pure c) (Grouped ⨟ λ c. TheMark mark.ParenClose ⨟ λ _. GivesValue c) Always
  exact_group place =
      reads_then Any (grouped place) _ Grouped _ (λ c. Over) (λ c. Any) (λ c. Always) Always (exact_g place)
      (λ c. exact_map (expected mark.ParenClose) (λ _. c) (TheMark mark.ParenClose) (exact_mark mark.ParenClose)) (λ c next s. tt)
      (λ c x back ns next h s. (close_ends (λ _. GivesValue c) x back ns next h, tt)) (λ c x back ns next h a b. tt)

  test_apart : (m : Mark) → ((w : What) (text : List ℕ) → words.text_of w ≡ Some text → is (mark_of w) m ≡ false)
      → (c : tree.Condition Test) (p : List Token) (ns : List ℕ) (next : List Token) → (grammar.IsTest fits ⨟ λ t. GivesValue (tree.Leaf t)) p c ns → accepted m (p ++ next) ≡ None
  test_apart m differ = then_apart m (grammar.IsTest fits) (λ t. GivesValue (tree.Leaf t)) (string_apart m differ _)

  pub exact_one_over : Exact (reading.one_over negated grouped (reading.test fits)) (grammar.IsOneOver Negated Grouped (grammar.IsTest fits)) Always
  exact_one_over =
      exact_either mark.Bang (λ place. negated place ▸ λ c. pure (tree.NotSo c))
      (either mark.ParenOpen (λ place. grouped place ▸ λ c. expected mark.ParenClose ▸ λ _. pure c) (reading.test fits ▸ λ t. pure (tree.Leaf t)))
      (λ place. Negated ⨟ λ c. GivesValue (tree.NotSo c))
      ((TheMark mark.ParenOpen ⨟ λ _. Grouped ⨟ λ c. TheMark mark.ParenClose ⨟ λ _. GivesValue c) or (grammar.IsTest fits ⨟ λ t. GivesValue (tree.Leaf t)))
      (λ place. exact_map (negated place) tree.NotSo Negated (exact_n place))
      (exact_either mark.ParenOpen (λ place. grouped place ▸ λ c. expected mark.ParenClose ▸ λ _. pure c) (reading.test fits ▸ λ t. pure (tree.Leaf t))
      (λ _. Grouped ⨟ λ c. TheMark mark.ParenClose ⨟ λ _. GivesValue c) (grammar.IsTest fits ⨟ λ t. GivesValue (tree.Leaf t))
      exact_group (exact_map (reading.test fits) tree.Leaf (grammar.IsTest fits) (exact_test fits)) (test_apart mark.ParenOpen string_is_no_paren))
      (or_apart mark.Bang _ _ (begins_apart mark.ParenOpen mark.Bang _ (λ e. cc)) (test_apart mark.Bang string_is_no_bang))

pub exact_one : (fits : ℕ → Bool) (room : ℕ) → Exact (reading.one fits room) (grammar.IsOne fits room) Always
exact_one fits zero = exact_one_over fits reading.deep reading.deep Never Never (λ place. exact_deep place Always) (λ place. exact_deep place (λ c. Over))
exact_one fits (suc room) =
    exact_one_over fits (λ _. reading.one fits room) (λ _. reading.any (reading.all (reading.one fits room)))
    (grammar.IsOne fits room) (grammar.IsAny (grammar.IsAll (grammar.IsOne fits room))) (λ place. exact_one fits room)
    (λ place. exact_operands (reading.one fits room) (grammar.IsOne fits room) (exact_one fits room))

pub exact_condition : (fits : ℕ → Bool) (room : ℕ) → Exact (reading.condition fits room) (grammar.IsCondition fits room) (λ c. Over)
exact_condition fits room =
    exact_operands (reading.one fits room) (grammar.IsOne fits room) (exact_one fits room)

-- Notes stay while operands are read.
pub notes_stay : (fits : ℕ → Bool) (room : ℕ) (begun more : reading.Others) (second : Operand) (s t u : Progress) → reading.all (reading.one fits room) s ≡ Ok (second, t)
    → many (reading.next_operand mark.Or (reading.all (reading.one fits room))) reading.with_operand begun t ≡ Ok (more, u) → length s.notes ≤ length u.notes
notes_stay fits room begun more second s t u reads goes =
    let exact_a = exact_all (reading.one fits room) (grammar.IsOne fits room) (exact_one fits room) in
    let f = exact_a.reads s second t tt reads in
    let g = (reads_more (reading.all (reading.one fits room)) (operands.IsAll (grammar.IsOne fits room)) exact_a begun).reads t more u f.stops goes in
    omega (arith, length-append s.notes f.notes, length-append t.notes g.notes, ap length f.noted, ap length g.noted)

-- No statement is next.
abbrev pub NoStatement : List Token → Type 0
NoStatement next = (accepted mark.If next ≡ None) × ((accepted mark.Run next ≡ None) × ((accepted mark.SetState next ≡ None) × Unit {0}))

-- A mark of no statement begins none.
pub not_statement : (m : Mark) → m ≢ mark.If → m ≢ mark.Run → m ≢ mark.SetState → {X : Type 0} (Q : TokenPlace → Rule X) (x : X) (p : List Token) (ns : List ℕ) (next : List Token)
    → (TheMark m ⨟ Q) p x ns → NoStatement (p ++ next)
not_statement m a b c Q x p ns next h =
    (begins_apart m mark.If Q a x p ns next h, (begins_apart m mark.Run Q b x p ns next h, (begins_apart m mark.SetState Q c x p ns next h, tt)))

abbrev pub RunRule : Rule (Statement Test Name Wish)
RunRule = TheMark mark.Run ⨟ λ _. grammar.IsString ⨟ λ command. GivesValue (Run command)

abbrev pub SetRule : Rule (Statement Test Name Wish)
SetRule = TheMark mark.SetState ⨟ λ place. grammar.IsString ⨟ λ name. GivesValue (SetState (record { place = place; state = name }))

-- The parser of statements ends its choices with one that has nothing.
pub never_to : (Cond : Rule (Statement Test Name Wish)) → Within ((TheMark mark.If ⨟ λ _. Cond) or (RunRule or (SetRule or Never))) (grammar.IsStatementOver Cond)
never_to Cond p x ns (inl h) = inl h
never_to Cond p x ns (inr (inl h)) = inr (inl h)
never_to Cond p x ns (inr (inr h)) = inr (inr (or_never SetRule p x ns h))

never_from : (Cond : Rule (Statement Test Name Wish)) → Within (grammar.IsStatementOver Cond) ((TheMark mark.If ⨟ λ _. Cond) or (RunRule or (SetRule or Never)))
never_from Cond p x ns (inl h) = inl h
never_from Cond p x ns (inr (inl h)) = inr (inl h)
never_from Cond p x ns (inr (inr h)) = inr (inr (inl h))

module _ (conditional : TokenPlace → Parse (Statement Test Name Wish)) (Cond : Rule (Statement Test Name Wish)) (exact_c : (place : TokenPlace) → Exact (conditional place) Cond Always) where
  never_apart : (m : Mark) (x : Statement Test Name Wish) (p : List Token) (ns : List ℕ) (next : List Token) → Never {X = Statement Test Name Wish} p x ns → accepted m (p ++ next) ≡ None
  never_apart m x p ns next h = absurd h

  pub exact_statement_over : Exact (reading.statement_over conditional) (Optional (grammar.IsStatementOver Cond)) (Until NoStatement Any)
  exact_statement_over =
      exact_optional_as (reading.statement_over conditional) ((TheMark mark.If ⨟ λ _. Cond) or (RunRule or (SetRule or Never))) (grammar.IsStatementOver Cond) (Until NoStatement Any) (never_to Cond) (never_from Cond)
      (exact_begins mark.If conditional (begins mark.Run (λ _. reading.run) (begins mark.SetState reading.set_state no_more)) (λ _. Cond) (RunRule or (SetRule or Never)) _ Any exact_c
      (exact_begins mark.Run (λ _. reading.run) (begins mark.SetState reading.set_state no_more) (λ _. grammar.IsString ⨟ λ command. GivesValue (Run command)) (SetRule or Never) _ Any
      (λ _. exact_map reading.string Run grammar.IsString exact_string)
      (exact_begins mark.SetState reading.set_state no_more (λ place. grammar.IsString ⨟ λ name. GivesValue (SetState (record { place = place; state = name }))) Never Any Any
      (λ place. exact_map reading.string (λ name. SetState (record { place = place; state = name })) grammar.IsString exact_string) (exact_no_more Any) (never_apart mark.SetState))
      (or_apart mark.Run SetRule Never (begins_apart mark.SetState mark.Run _ (λ e. cc)) (never_apart mark.Run)))
      (or_apart mark.If RunRule (SetRule or Never) (begins_apart mark.Run mark.If _ (λ e. cc))
      (or_apart mark.If SetRule Never (begins_apart mark.SetState mark.If _ (λ e. cc)) (never_apart mark.If))))

  -- A statement has a token.
  pub statement_longer : (x : Statement Test Name Wish) (p : List Token) (ns : List ℕ) → grammar.IsStatementOver Cond p x ns → 1 ≤ length p
  statement_longer x p ns (inl h) = begins_longer mark.If _ p x ns h
  statement_longer x p ns (inr (inl h)) = begins_longer mark.Run _ p x ns h
  statement_longer x p ns (inr (inr h)) = begins_longer mark.SetState _ p x ns h

  -- A statement begins only with one of its marks.
  pub statement_apart : (m : Mark) → mark.If ≢ m → mark.Run ≢ m → mark.SetState ≢ m → (x : Statement Test Name Wish) (p : List Token) (ns : List ℕ) (next : List Token)
      → grammar.IsStatementOver Cond p x ns → accepted m (p ++ next) ≡ None
  statement_apart m a b c =
      or_apart m (TheMark mark.If ⨟ λ _. Cond) (RunRule or SetRule) (begins_apart mark.If m _ a) (or_apart m RunRule SetRule (begins_apart mark.Run m _ b) (begins_apart mark.SetState m _ c))

-- A repetition in braces.
pub exact_braced : {X : Type 0} (part : Parse (Option X)) (P : Rule X) (none : List Token → Type 0) → Exact part (Optional P) (Until none Any)
    → ((x : X) (p : List Token) (ns : List ℕ) → P p x ns → 1 ≤ length p) → none []
    → ((Q : TokenPlace → Rule (List X)) (x : List X) (p : List Token) (ns : List ℕ) (next : List Token) → (TheMark mark.BraceClose ⨟ Q) p x ns → none (p ++ next))
    → Exact (reading.braced part) (grammar.AreBraced P) Always
exact_braced part P none exact_p longer ended closes =
    reads_then Any (many part rules.with_last []) _ (Many P rules.with_last []) _ (λ xs. none) (λ xs. Any) (λ xs. Always) Always
    (exact_many part rules.with_last P none exact_p longer ended [])
    (λ xs. exact_map (expected mark.BraceClose) (λ _. xs) (TheMark mark.BraceClose) (exact_mark mark.BraceClose)) (λ xs next s. tt)
    (λ xs x back ns next h s. (closes (λ _. GivesValue xs) x back ns next h, tt)) (λ xs x back ns next h a b. tt)

module _ (statement : Parse (Option (Statement Test Name Wish))) (Cond : Rule (Statement Test Name Wish))
    (exact_s : Exact statement (Optional (grammar.IsStatementOver Cond)) (Until NoStatement Any)) (conditional : TokenPlace → Parse (Statement Test Name Wish))
    (exact_c : (place : TokenPlace) → Exact (conditional place) Cond Always) where
  pub exact_block : Exact (reading.block statement) (grammar.IsBlock (grammar.IsStatementOver Cond)) Always
  exact_block =
      exact_either mark.BraceOpen (λ _. reading.braced statement ▸ λ xs. pure (block_of xs)) (required statement ▸ λ x. pure (block_of (x ∷ [])))
      (λ _. grammar.AreBraced (grammar.IsStatementOver Cond) ⨟ λ xs. GivesValue (block_of xs)) (grammar.IsStatementOver Cond ⨟ λ x. GivesValue (block_of (x ∷ [])))
      (λ _. exact_map (reading.braced statement) block_of (grammar.AreBraced (grammar.IsStatementOver Cond))
      (exact_braced statement (grammar.IsStatementOver Cond) NoStatement exact_s (statement_longer conditional Cond exact_c) (refl, (refl, (refl, tt)))
      (not_statement mark.BraceClose (λ e. cc) (λ e. cc) (λ e. cc))))
      (exact_map (required statement) (λ x. block_of (x ∷ [])) (grammar.IsStatementOver Cond) (exact_required statement (grammar.IsStatementOver Cond) NoStatement Any exact_s))
      (then_apart mark.BraceOpen (grammar.IsStatementOver Cond) (λ x. GivesValue (block_of (x ∷ []))) (statement_apart conditional Cond exact_c mark.BraceOpen (λ e. cc) (λ e. cc) (λ e. cc)))

module _ (Cond : Rule (Statement Test Name Wish)) (conditional : TokenPlace → Parse (Statement Test Name Wish)) (exact_c : (place : TokenPlace) → Exact (conditional place) Cond Always) where
  block_apart : (m : Mark) → mark.BraceOpen ≢ m → mark.If ≢ m → mark.Run ≢ m → mark.SetState ≢ m → (x : tree.Block Test Name Wish) (p : List Token) (ns : List ℕ) (next : List Token)
      → grammar.IsBlock (grammar.IsStatementOver Cond) p x ns → accepted m (p ++ next) ≡ None
  block_apart m a b c d =
      or_apart m (TheMark mark.BraceOpen ⨟ λ _. grammar.AreBraced (grammar.IsStatementOver Cond) ⨟ λ xs. GivesValue (block_of xs)) (grammar.IsStatementOver Cond ⨟ λ x. GivesValue (block_of (x ∷ [])))
      (begins_apart mark.BraceOpen m _ a) (then_apart m (grammar.IsStatementOver Cond) (λ x. GivesValue (block_of (x ∷ []))) (statement_apart conditional Cond exact_c m b c d))

  -- A block ends a condition.
  block_over : (f : tree.Block Test Name Wish → Statement Test Name Wish) (x : Statement Test Name Wish) (p : List Token) (ns : List ℕ) (next : List Token)
      → (grammar.IsBlock (grammar.IsStatementOver Cond) ⨟ λ inner. GivesValue (f inner)) p x ns → Over (p ++ next)
  block_over f x p ns next h = (
    (then_apart mark.Or (grammar.IsBlock (grammar.IsStatementOver Cond)) (λ inner. GivesValue (f inner)) (block_apart mark.Or (λ e. cc) (λ e. cc) (λ e. cc) (λ e. cc)) x p ns next h, tt),
    (then_apart mark.And (grammar.IsBlock (grammar.IsStatementOver Cond)) (λ inner. GivesValue (f inner)) (block_apart mark.And (λ e. cc) (λ e. cc) (λ e. cc) (λ e. cc)) x p ns next h, tt),
  )

  exact_conditional : (condition : Parse (tree.Condition Test)) (C : Rule (tree.Condition Test)) → Exact condition C (λ c. Over)
      → (statement : Parse (Option (Statement Test Name Wish))) → Exact statement (Optional (grammar.IsStatementOver Cond)) (Until NoStatement Any)
      → Exact (reading.conditional_over condition (reading.block statement)) (grammar.IsConditional C (grammar.IsBlock (grammar.IsStatementOver Cond))) Always
  exact_conditional condition C exact_condition statement exact_s =
      reads_then Any condition _ C _ (λ c. Over) (λ c. Any) (λ c. Always) Always exact_condition
      (λ c. exact_map (reading.block statement) (λ inner. If c inner) (grammar.IsBlock (grammar.IsStatementOver Cond)) (exact_block statement Cond exact_s conditional exact_c)) (λ c next s. tt)
      (λ c x back ns next h s. (block_over (λ inner. If c inner) x back ns next h, tt)) (λ c x back ns next h a b. tt)

-- What comes after `if`, by how many more may be open.
exact_if : (fits : ℕ → Bool) (room : ℕ) → TokenPlace → Exact (reading.conditional fits room) (grammar.IsConditional (grammar.IsCondition fits room) (grammar.IsBlock (grammar.IsStatement fits room))) Always
exact_if fits zero place =
    exact_conditional Never reading.deep (λ place. exact_deep place Always) (reading.condition fits zero) (grammar.IsCondition fits zero) (exact_condition fits zero)
    (reading.statement fits zero) (exact_statement_over reading.deep Never (λ place. exact_deep place Always))
exact_if fits (suc room) place =
    exact_conditional (grammar.IsConditional (grammar.IsCondition fits room) (grammar.IsBlock (grammar.IsStatement fits room))) (λ _. reading.conditional fits room) (exact_if fits room)
    (reading.condition fits (suc room)) (grammar.IsCondition fits (suc room)) (exact_condition fits (suc room))
    (reading.statement fits (suc room)) (exact_statement_over (λ _. reading.conditional fits room) (grammar.IsConditional (grammar.IsCondition fits room) (grammar.IsBlock (grammar.IsStatement fits room))) (exact_if fits room))

-- The parser reads statements and blocks of them. A statement has a token, and begins only with one of its marks.
pub record Known (statement : Parse (Option (Statement Test Name Wish))) (S : Rule (Statement Test Name Wish)) : Type 0 where
  pub exact : Exact statement (Optional S) (Until NoStatement Any)
  pub longer : (x : Statement Test Name Wish) (p : List Token) (ns : List ℕ) → S p x ns → 1 ≤ length p
  pub apart : (m : Mark) → mark.If ≢ m → mark.Run ≢ m → mark.SetState ≢ m → (x : Statement Test Name Wish) (p : List Token) (ns : List ℕ) (next : List Token) → S p x ns → accepted m (p ++ next) ≡ None
  pub block : Exact (reading.block statement) (grammar.IsBlock S) Always

known_over : (conditional : TokenPlace → Parse (Statement Test Name Wish)) (Cond : Rule (Statement Test Name Wish)) → ((place : TokenPlace) → Exact (conditional place) Cond Always)
    → Known (reading.statement_over conditional) (grammar.IsStatementOver Cond)
known_over conditional Cond exact_c =
    let e = exact_statement_over conditional Cond exact_c in
    record { exact = e; longer = statement_longer conditional Cond exact_c; apart = statement_apart conditional Cond exact_c; block = exact_block (reading.statement_over conditional) Cond e conditional exact_c }

pub known : (fits : ℕ → Bool) (room : ℕ) → Known (reading.statement fits room) (grammar.IsStatement fits room)
known fits zero = known_over reading.deep Never (λ place. exact_deep place Always)
known fits (suc room) = known_over (λ _. reading.conditional fits room) (grammar.IsConditional (grammar.IsCondition fits room) (grammar.IsBlock (grammar.IsStatement fits room))) (exact_if fits room)

module _ {X Y : Type 0} (p : Parse (Option X)) (f : X → Y) (P : Rule X) (none : List Token → Type 0) (exact_p : Exact p (Optional P) (Until none Any)) where
  option_again : (ts : List Token) (o : Option Y) (ns : List ℕ) (q : List Token) (m : List ℕ) → Optional (P ⨟ λ x. GivesValue (f x)) ts o ns → Until none Any o q
      → (p ▸ λ o. pure (option_map f o)) (progress (ts ++ q) m) ≡ Ok (o, progress q (m ++ ns))
  option_again ts None ns q m h s = rw (exact_p.again ts None ns q m h s)
  option_again ts (Some y) ns q m h s =
      let e = exact_p.again h.front (Some h.x) h.before q m h.first tt in
      rw (h.tokens_are, h.notes_are, h.second.none, h.second.unnoted, h.second.is_value, append-nil h.front, append-nil h.before, e)

  option_found : (s : Progress) (o : Option X) (u : Progress) → Found (Optional P) (Until none Any) s o u → Found (Optional (P ⨟ λ x. GivesValue (f x))) (Until none Any) s (option_map f o) u
  option_found s None u a = found_as a a.said a.stops
  option_found s (Some x) u a = found_as a (gives_made x a.said refl) tt

  -- What is made of a thing that may be missing.
  pub exact_option : Exact (p ▸ λ o. pure (option_map f o)) (Optional (P ⨟ λ x. GivesValue (f x))) (Until none Any)
  exact_option = record {
    again = option_again;
    reads = λ s o t a e.
        let w = went (p s) (λ r. Ok (option_map f r.0, r.1)) (o, t) e in
        told (Optional (P ⨟ λ x. GivesValue (f x))) (Until none Any) s (option_map f w.on.0, w.on.1) (o, t) w.then_is (option_found s w.on.0 w.on.1 (exact_p.reads s w.on.0 w.on.1 tt w.was));
  }

-- No part is next.
abbrev pub NoPart : List Token → Type 0
NoPart next = (accepted mark.Init next ≡ None) × NoStatement next

-- No item is next.
abbrev pub NoItem : List Token → Type 0
NoItem next = (accepted mark.InitState next ≡ None) × ((accepted mark.State next ≡ None) × NoPart next)

module _ (statement : Parse (Option (Statement Test Name Wish))) (S : Rule (Statement Test Name Wish)) (k : Known statement S) where
  abbrev InitRule : TokenPlace → Rule Part
  InitRule place = grammar.IsBlock S ⨟ λ inner. GivesValue (Init place inner)

  abbrev DoRule : Rule Part
  DoRule = S ⨟ λ s. GivesValue (Do s)

  pub exact_part : Exact (reading.part statement) (Optional (grammar.IsPart S)) (Until NoPart Any)
  exact_part =
      exact_begins mark.Init (λ place. reading.block statement ▸ λ inner. pure (Init place inner)) (statement ▸ λ s. pure (option_map Do s)) InitRule DoRule NoStatement Any
      (λ place. exact_map (reading.block statement) (λ inner. Init place inner) (grammar.IsBlock S) k.block)
      (exact_option statement Do S NoStatement k.exact)
      (then_apart mark.Init S (λ s. GivesValue (Do s)) (k.apart mark.Init (λ e. cc) (λ e. cc) (λ e. cc)))

  pub part_longer : (x : Part) (p : List Token) (ns : List ℕ) → grammar.IsPart S p x ns → 1 ≤ length p
  part_longer x p ns (inl h) = begins_longer mark.Init InitRule p x ns h
  part_longer x p ns (inr h) = let l : 1 ≤ length h.front = k.longer h.x h.front h.before h.first in rw h.tokens_are (omega (arith, length-append h.front h.back))

  part_apart : (m : Mark) → mark.Init ≢ m → mark.If ≢ m → mark.Run ≢ m → mark.SetState ≢ m → (x : Part) (p : List Token) (ns : List ℕ) (next : List Token)
      → grammar.IsPart S p x ns → accepted m (p ++ next) ≡ None
  part_apart m a b c d = or_apart m (TheMark mark.Init ⨟ InitRule) DoRule (begins_apart mark.Init m InitRule a) (then_apart m S (λ s. GivesValue (Do s)) (k.apart m b c d))

  pub closes_part : {X : Type 0} (Q : TokenPlace → Rule X) (x : X) (p : List Token) (ns : List ℕ) (next : List Token) → (TheMark mark.BraceClose ⨟ Q) p x ns → NoPart (p ++ next)
  closes_part Q x p ns next h = (begins_apart mark.BraceClose mark.Init Q (λ e. cc) x p ns next h, not_statement mark.BraceClose (λ e. cc) (λ e. cc) (λ e. cc) Q x p ns next h)

  abbrev InitStateRule : TokenPlace → Rule Item
  InitStateRule place = grammar.IsString ⨟ λ name. GivesValue (InitState place name)

  abbrev StateRule : Rule Item
  StateRule = grammar.IsString ⨟ λ name. TheMark mark.BraceOpen ⨟ λ _. grammar.AreBraced (grammar.IsPart S) ⨟ λ parts. GivesValue (StateItem name parts)

  abbrev AlwaysRule : Rule Item
  AlwaysRule = grammar.IsPart S ⨟ λ p. GivesValue (AlwaysItem p)

  exact_state : Exact (reading.state_item (reading.part statement)) StateRule Always
  exact_state =
      exact_then reading.string _ grammar.IsString _ Always exact_string (λ name. exact_then (expected mark.BraceOpen) _ (TheMark mark.BraceOpen) _ Always (exact_mark mark.BraceOpen) (λ _.
      exact_map (reading.braced (reading.part statement)) (λ parts. StateItem name parts) (grammar.AreBraced (grammar.IsPart S))
      (exact_braced (reading.part statement) (grammar.IsPart S) NoPart exact_part part_longer (refl, (refl, (refl, (refl, tt)))) closes_part)))

  pub exact_item : Exact (reading.item (reading.part statement)) (Optional (grammar.IsItem (grammar.IsPart S))) (Until NoItem Any)
  exact_item =
      exact_begins mark.InitState (λ place. reading.string ▸ λ name. pure (InitState place name))
      (begins mark.State (λ _. reading.state_item (reading.part statement)) (reading.part statement ▸ λ p. pure (option_map AlwaysItem p)))
      InitStateRule ((TheMark mark.State ⨟ λ _. StateRule) or AlwaysRule) _ Any
      (λ place. exact_map reading.string (λ name. InitState place name) grammar.IsString exact_string)
      (exact_begins mark.State (λ _. reading.state_item (reading.part statement)) (reading.part statement ▸ λ p. pure (option_map AlwaysItem p)) (λ _. StateRule) AlwaysRule NoPart Any
      (λ _. exact_state) (exact_option (reading.part statement) AlwaysItem (grammar.IsPart S) NoPart exact_part)
      (then_apart mark.State (grammar.IsPart S) (λ p. GivesValue (AlwaysItem p)) (part_apart mark.State (λ e. cc) (λ e. cc) (λ e. cc) (λ e. cc))))
      (or_apart mark.InitState (TheMark mark.State ⨟ λ _. StateRule) AlwaysRule (begins_apart mark.State mark.InitState (λ _. StateRule) (λ e. cc))
      (then_apart mark.InitState (grammar.IsPart S) (λ p. GivesValue (AlwaysItem p)) (part_apart mark.InitState (λ e. cc) (λ e. cc) (λ e. cc) (λ e. cc))))

  pub item_longer : (x : Item) (p : List Token) (ns : List ℕ) → grammar.IsItem (grammar.IsPart S) p x ns → 1 ≤ length p
  item_longer x p ns (inl h) = begins_longer mark.InitState InitStateRule p x ns h
  item_longer x p ns (inr (inl h)) = begins_longer mark.State (λ _. StateRule) p x ns h
  item_longer x p ns (inr (inr h)) = let l : 1 ≤ length h.front = part_longer h.x h.front h.before h.first in rw h.tokens_are (omega (arith, length-append h.front h.back))

  ends_items : {X : Type 0} (Q : TokenPlace → Rule X) (x : X) (p : List Token) (ns : List ℕ) (next : List Token) → (TheMark mark.End ⨟ Q) p x ns → NoItem (p ++ next)
  ends_items Q x p ns next h = (
    begins_apart mark.End mark.InitState Q (λ e. cc) x p ns next h,
    (
      begins_apart mark.End mark.State Q (λ e. cc) x p ns next h,
      (begins_apart mark.End mark.Init Q (λ e. cc) x p ns next h, not_statement mark.End (λ e. cc) (λ e. cc) (λ e. cc) Q x p ns next h),
    ),
  )

  pub exact_items : Exact (reading.items (reading.item (reading.part statement))) (grammar.AreItems (grammar.IsItem (grammar.IsPart S))) Always
  exact_items =
      reads_then Any (many (reading.item (reading.part statement)) rules.with_last []) _ (Many (grammar.IsItem (grammar.IsPart S)) rules.with_last []) _ (λ all. NoItem) (λ all. Any) (λ all. Always) Always
      (exact_many (reading.item (reading.part statement)) rules.with_last (grammar.IsItem (grammar.IsPart S)) NoItem exact_item item_longer (refl, (refl, (refl, (refl, (refl, (refl, tt)))))) [])
      (λ all. exact_map (expected mark.End) (λ _. all) (TheMark mark.End) (exact_mark mark.End)) (λ all next s. tt)
      (λ all x back ns next h s. (ends_items (λ _. GivesValue all) x back ns next h, tt)) (λ all x back ns next h a b. tt)
