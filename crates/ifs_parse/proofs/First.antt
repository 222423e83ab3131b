-- Where each parser of the grammar fails.
use Rattle.std.proofs.Common.{◌≡◌, inl, inr, ℕ, zero, suc, ◌≤◌, refl, sym, ap, subst, append_assoc, append-nil, ◌∙◌, cond}
use Rattle.std.proofs.Common.{Bool, true, false, ◌||◌, Option, Some, None, Ok, Err, List, [], ◌∷◌, ◌++◌, length, ◌+◌, arith}
use Rattle.std.specs.Prelude.{Result, if◌then◌else◌, option_map}
use Rattle.std.specs.Option.{option_map_or}
use denote.Enum.Bare.{true_same}
use Rattle.ifs_lex.specs.declared.token.Token.{Token}
use Rattle.ifs_lex.specs.declared.token.TokenPlace.{TokenPlace}
use Rattle.ifs_lex.specs.Numbered.{HaveNumbers, AreNumbered}
use Rattle.ifs_lex.specs.declared.token.What.{What}
use Rattle.ifs_lex.specs.declared.token.What.TheVariants as what
use Rattle.ifs_parse.specs.declared.fault.ParseFault.{ParseFault}
use Rattle.ifs_parse.specs.contracts.mark.Mark.{the_type}
use Rattle.ifs_parse.specs.declared.mark.Mark.{Mark}
use Rattle.ifs_parse.specs.declared.mark.Mark.TheVariants as mark
use Rattle.ifs_parse.specs.Marks.{mark_of, is}
use Rattle.ifs_parse.specs.declared.tree.Name.{Name}
use Rattle.ifs_parse.specs.declared.tree.Test.{Test}
use Rattle.ifs_parse.specs.declared.parser.Operand.{Operand}
use Rattle.ifs_parse.specs.declared.tree.Wish.{Wish}
use Rattle.ifs_parse.specs.declared.tree.Part.TheVariants.{Init, Do}
use Rattle.ifs_parse.specs.declared.tree.Item.{Item}
use Rattle.ifs_parse.specs.declared.tree.Item.TheVariants.{InitState, State as StateItem, Always as AlwaysItem}
use Rattle.ifs_parse.specs.declared.block.Statement.{Statement}
use Rattle.ifs_parse.specs.declared.block.Statement.TheVariants.{Run, SetState, If}
use Rattle.ifs_parse.specs.Trees as tree
use Rattle.ifs_parse.specs.Views.{all_of, any_of, block_of}
use Rattle.ifs_parse.specs.declared.fault.ParseFault.TheVariants.{Period}
use Rattle.ifs_parse.specs.inner.Combined.{Progress, progress, Parse, nowhere, place_of_first, after_token, found, unexpected}
use Rattle.ifs_parse.specs.inner.Combined.{◌▸◌, pure, begins, expected, no_more, required, many}
use Rattle.ifs_parse.specs.Words.{marked}
use Rattle.ifs_parse.specs.Rules.{Rule, GivesValue, TheMark, ◌⨟◌, ◌or◌, Never, Optional, Noted, Many}
use Rattle.ifs_parse.specs.inner.Reading as reading
use Rattle.ifs_parse.specs.Words as words
use Rattle.ifs_parse.specs.Rules as rules
use Rattle.ifs_parse.specs.Grammar as grammar
use Rattle.ifs_parse.proofs.Exact.{Always, Any, Until, Reads, Exact, exact_token}
use Rattle.ifs_parse.proofs.Exact.{exact_mark, exact_required, exact_many}
use Rattle.ifs_base.specs.declared.op.LinkState.TheVariants as link
use Rattle.ifs_base.specs.Results.{◌>>=◌}
use Rattle.std.specs.Prelude.{codes}
use Rattle.ifs_parse.specs.Rules.{Enough, OneToken}
use Rattle.ifs_parse.specs.declared.fault.ParseFault.TheVariants.{Unexpected, Nesting, Memory}
use Rattle.ifs_parse.proofs.Read.{exact_string, exact_period, exact_test, exact_next, exact_all, exact_one}
use Rattle.ifs_parse.proofs.Read.{exact_condition, reads_more, begins_longer, exact_braced, exact_part}
use Rattle.ifs_parse.proofs.Read.{exact_item, part_longer, item_longer, closes_part, not_statement}
use Rattle.ifs_parse.proofs.Read.{RunRule, SetRule, never_to, No, Over, NoStatement, NoPart, NoItem, known, Known}
use Rattle.ifs_parse.proofs.Operands as operands
use Rattle.ifs_parse.proofs.Operands.{condition_kept, kept_condition}
use Rattle.ifs_parse.proofs.Stuck.{next_token, found_by_next, place_by_next, ByNext, Limit, Periods, Depth, OfPeriods}
use Rattle.ifs_parse.proofs.Stuck.{OfDepth, IsOf, Fails, fails_as, fails_here, Goes, Sample, Stuck}
use Rattle.ifs_parse.proofs.RuleLaws.{rejoined, made_of, Within, same_within, then_within, marked_within, or_never}
use Rattle.ifs_parse.proofs.RuleLaws.{optional_within, optional_or}
use Rattle.ifs_parse.proofs.Stuck.{begins_first, begins_left, begins_right}
use Rattle.ifs_parse.proofs.Stuck.{stuck_pure, stuck_token, stuck_then_at, stuck_then, stuck_either}
use Rattle.ifs_parse.proofs.Stuck.{stuck_deep, stuck_begins, stuck_no_more, stuck_as, stuck_required, stuck_option}
use Rattle.ifs_parse.proofs.Stuck.{stuck_noted, stuck_many, Broke, Before, After, broke}
use Rattle.ifs_parse.proofs.Whole.{says_no_fault}
use Rattle.ifs_parse.proofs.Limits.{no_help_at}
use Rattle.ifs_parse.proofs.Ends.{ends_there}
use Rattle.ifs_lex.specs.Expansion.{EndsOnce}
use Rattle.ifs_parse.specs.Files.{File, file}
use Rattle.ifs_parse.specs.Grammar.{StopsAt}

abbrev token_of : What → Token
token_of w = record { what = w; span = nowhere.span; number = nowhere.number }

sample_gives : {X : Type 0} (v : X) → Sample (GivesValue v)
sample_gives v = record { tail = []; x = v; notes = []; said = record { none = refl; is_value = refl; unnoted = refl } }

sample_then : {X Y : Type 0} (P : Rule X) (Q : X → Rule Y) → Sample P → ((x : X) → Sample (Q x)) → Sample (P ⨟ Q)
sample_then P Q p q = begins_first P Q q [] p

sample_left : {X : Type 0} (P Q : Rule X) → Sample P → Sample (P or Q)
sample_left P Q p = begins_left P Q [] p

sample_right : {X : Type 0} (P Q : Rule X) → Sample Q → Sample (P or Q)
sample_right P Q q = begins_right P Q [] q

sample_token : {X : Type 0} (what : Token → Option X) (t : Token) (x : X) → what t ≡ Some x → Sample (OneToken what)
sample_token what t x h = record { tail = t ∷ []; x = x; notes = []; said = record { token = t; only = refl; stands = h; unnoted = refl } }

sample_many : {A X : Type 0} (P : Rule X) (add : A → X → A) (a : A) → Sample (Many P add a)
sample_many P add a = record { tail = []; x = a; notes = []; said = Enough }

sample_string : Sample grammar.IsString
sample_string = sample_token words.name_of (token_of (what.Quoted [])) (record { text = []; place = nowhere }) refl

-- A token with this mark, for the marks that samples need.
abbrev spelled : Mark → What
spelled mark.Link = what.Word (codes "link")
spelled mark.Every = what.Word (codes "every")
spelled mark.Run = what.Word (codes "run")
spelled mark.ParenClose = what.ParenClose
spelled mark.BraceOpen = what.BraceOpen
spelled mark.BraceClose = what.BraceClose
spelled mark.End = what.End
spelled _ = what.Dot

sample_mark : (m : Mark) → mark_of (spelled m) ≡ m → Sample (TheMark m)
unfolding is
sample_mark m e =
    sample_token (marked m) (token_of (spelled m)) nowhere (ap (λ b. cond b (Some nowhere) None) (true_same the_type (mark_of (spelled m)) m e))

sample_link_state : Sample grammar.IsLinkState
sample_link_state = sample_token (λ t. words.link_state_of (mark_of t.what)) (token_of (what.Word (codes "up"))) link.Up refl

stuck_mark : {limit : Limit} (m : Mark) → mark_of (spelled m) ≡ m → Stuck limit Any (expected m) (TheMark m) (TheMark m)
stuck_mark m e = stuck_token (marked m) (sample_mark m e)

stuck_map : {limit : Limit} {X Y : Type 0} {W : Rule X} (p : Parse X) (f : X → Y) (P : Rule X) → Exact p P Always → Stuck limit Any p P W
    → Stuck limit Any (p ▸ λ x. pure (f x)) (P ⨟ λ x. GivesValue (f x)) (W ⨟ λ x. GivesValue (f x))
stuck_map p f P exact_p stuck_p = stuck_then p (λ x. pure (f x)) P (λ x. GivesValue (f x)) exact_p stuck_p (λ x. stuck_pure (f x)) (λ x. sample_gives (f x))

stuck_map_at : {limit : Limit} {X Y : Type 0} {W : Rule X} (start stop : List Token → Type 0) (p : Parse X) (f : X → Y) (P : Rule X) → Reads start p P (λ x. stop) → Stuck limit start p P W
    → ByNext stop → Stuck limit start (p ▸ λ x. pure (f x)) (P ⨟ λ x. GivesValue (f x)) (W ⨟ λ x. GivesValue (f x))
stuck_map_at start stop p f P exact_p stuck_p by_next =
    stuck_then_at start p (λ x. pure (f x)) P (λ x. GivesValue (f x)) (λ x. stop) (λ x. Any) exact_p stuck_p (λ x. stuck_pure (f x)) (λ x next s. tt) (λ x. by_next) (λ x. sample_gives (f x))

no_by_next : (m : Mark) → ByNext (No m)
no_by_next m a b h s = (sym (found_by_next (marked m) a b h) ∙ s.0, tt)

any_by_next : ByNext Any
any_by_next a b h s = tt

over_by_next : ByNext Over
over_by_next a b h s = (no_by_next mark.Or a b h s.0, no_by_next mark.And a b h s.1)

abbrev fits : ℕ → Bool
fits = words.fits_period

-- The periods that fit, and how many may be open, without a limit.
abbrev wide : Limit → ℕ → Bool
wide Periods = grammar.any_period
wide Depth = fits

abbrev more : ℕ → Limit → ℕ
more zero Periods = zero
more zero Depth = 1
more (suc room) limit = suc (more room limit)

wider : (limit : Limit) (n : ℕ) → fits n ≡ true → wide limit n ≡ true
wider Periods n h = refl
wider Depth n h = h

all_fit : (limit : Limit) → OfPeriods limit → (n : ℕ) → wide limit n ≡ true
all_fit Periods k n = refl
all_fit Depth k n = absurd k

abbrev number_at : List Token → Option ℕ
number_at = found (λ t. words.number_of_what t.what)

sample_period : Sample (grammar.IsPeriod fits)
sample_period = sample_token (λ t. grammar.fitting fits (words.number_of_what t.what)) (token_of (what.Word (codes "1"))) 1 refl

module _ (limit : Limit) where
  period_goes : (ts : List Token) (n : ℕ) → number_at ts ≡ Some n → OfPeriods limit → Goes (grammar.IsPeriod (wide limit)) [] ts
  period_goes [] n h k = absurd (cc)
  period_goes (t ∷ ts) n h k =
      record {
        token = t;
        next = refl;
        begun = record { tail = []; x = n; notes = []; said = record { token = t; only = refl; stands = rw (h, all_fit limit k n); unnoted = refl } };
      }

  period_kind : (ts : List Token) (m : List ℕ) (n : ℕ) → number_at ts ≡ Some n → (b : Bool) → fits n ≡ b → (fault : ParseFault)
      → if◌then◌else◌ {A = Result (ℕ × Progress) ParseFault} b (Ok (n, after_token (progress ts m))) (Err (Period (place_of_first ts))) ≡ Err fault
      → Fails limit (reading.period fits) (grammar.IsPeriod fits) (grammar.IsPeriod (wide limit)) (progress ts m) fault
  period_kind ts m n h true k fault e = absurd (cc)
  period_kind ts m n h false k fault e =
      fails_as (reading.period fits) (grammar.IsPeriod fits) (grammar.IsPeriod (wide limit)) (progress ts m) (Period (place_of_first ts)) fault e
      (fails_here (reading.period fits) (grammar.IsPeriod fits) (grammar.IsPeriod (wide limit)) ts m (Period (place_of_first ts)) sample_period
      (λ w q g. rw (found_by_next (λ t. words.number_of_what t.what) w ts g ∙ h, k, place_by_next w ts g)) (period_goes ts n h) (inr (inl refl)))

  period_stuck : (ts : List Token) (m : List ℕ) (o : Option ℕ) → number_at ts ≡ o → (fault : ParseFault)
      → option_map_or (λ n. if fits n then Ok (n, after_token (progress ts m)) else Err (Period (place_of_first ts))) o (unexpected (progress ts m)) ≡ Err fault
      → Fails limit (reading.period fits) (grammar.IsPeriod fits) (grammar.IsPeriod (wide limit)) (progress ts m) fault
  period_stuck ts m (Some n) h fault e = period_kind ts m n h (fits n) refl fault e
  period_stuck ts m None h fault e =
      fails_as (reading.period fits) (grammar.IsPeriod fits) (grammar.IsPeriod (wide limit)) (progress ts m) (Unexpected (place_of_first ts)) fault e
      (fails_here (reading.period fits) (grammar.IsPeriod fits) (grammar.IsPeriod (wide limit)) ts m (Unexpected (place_of_first ts)) sample_period
      (λ w q g. rw (found_by_next (λ t. words.number_of_what t.what) w ts g ∙ h, place_by_next w ts g)) (λ k. absurd k) (inl refl))

  fitting_wide : (n x : ℕ) (b : Bool) → fits n ≡ b → (if b then Some n else None) ≡ Some x → (if wide limit n then Some n else None) ≡ Some x
  fitting_wide n x true h e = rw (wider limit n h) e
  fitting_wide n x false h e = absurd (cc)

  fitted_wide : (o : Option ℕ) (x : ℕ) → grammar.fitting fits o ≡ Some x → grammar.fitting (wide limit) o ≡ Some x
  fitted_wide None x e = absurd (cc)
  fitted_wide (Some n) x e = fitting_wide n x (fits n) refl e

  stuck_period : Stuck limit Any (reading.period fits) (grammar.IsPeriod fits) (grammar.IsPeriod (wide limit))
  stuck_period = record {
    fails = λ s fault a e. period_stuck s.left s.notes (number_at s.left) refl fault e;
    within = λ p x ns h. record { token = h.token; only = h.only; stands = fitted_wide (words.number_of_what h.token.what) x h.stands; unnoted = h.unnoted };
  }

stuck_string : {limit : Limit} → Stuck limit Any reading.string grammar.IsString grammar.IsString
stuck_string = stuck_token words.name_of sample_string

abbrev LinkRule : Name → Rule Test
LinkRule name = TheMark mark.Dot ⨟ λ _. grammar.IsLinkTest name

sample_link_test : (name : Name) → Sample (grammar.IsLinkTest name)
sample_link_test name = sample_then _ _ (sample_mark mark.Link refl) (λ _. sample_then _ _ (sample_mark mark.Dot refl) (λ _. sample_then _ _ sample_link_state (λ l. sample_gives _)))

sample_test : Sample (grammar.IsTest fits)
sample_test = sample_then _ _ sample_string (λ name. sample_left _ _ (sample_then _ _ (sample_mark mark.Dot refl) (λ _. sample_link_test name)))

stuck_link_test : {limit : Limit} (name : Name) → Stuck limit Any (reading.link_test name) (grammar.IsLinkTest name) (grammar.IsLinkTest name)
stuck_link_test name =
    stuck_then (expected mark.Link) _ (TheMark mark.Link) _ (exact_mark mark.Link) (stuck_mark mark.Link refl)
    (λ _. stuck_then (expected mark.Dot) _ (TheMark mark.Dot) _ (exact_mark mark.Dot) (stuck_mark mark.Dot refl)
    (λ _. stuck_map reading.link_state _ grammar.IsLinkState (exact_token (λ t. words.link_state_of (mark_of t.what))) (stuck_token (λ t. words.link_state_of (mark_of t.what)) sample_link_state))
    (λ _. sample_then _ _ sample_link_state (λ l. sample_gives _)))
    (λ _. sample_then _ _ (sample_mark mark.Dot refl) (λ _. sample_then _ _ sample_link_state (λ l. sample_gives _)))

stuck_test : (limit : Limit) → Stuck limit Any (reading.test fits) (grammar.IsTest fits) (grammar.IsTest (wide limit))
stuck_test limit =
    stuck_then reading.string _ grammar.IsString _ exact_string stuck_string
    (λ name. stuck_either Any mark.Dot (λ _. reading.link_test name) (expected mark.Every ▸ λ _. reading.external_test fits name) (λ _. grammar.IsLinkTest name) _
    (λ _. stuck_link_test name)
    (stuck_then (expected mark.Every) _ (TheMark mark.Every) _ (exact_mark mark.Every) (stuck_mark mark.Every refl)
    (λ _. stuck_map (reading.period fits) _ (grammar.IsPeriod fits) (exact_period fits) (stuck_period limit))
    (λ _. sample_then _ _ sample_period (λ n. sample_gives _))))
    (λ name. sample_left _ _ (sample_then _ _ (sample_mark mark.Dot refl) (λ _. sample_link_test name)))

stuck_next : {limit : Limit} {X : Type 0} (m : Mark) (operand : Parse X) (O W : Rule X) → Stuck limit Any operand O W
    → Stuck limit Any (reading.next_operand m operand) (Optional (TheMark m ⨟ λ _. O)) (Optional (TheMark m ⨟ λ _. W))
stuck_next m operand O W stuck_o =
    stuck_as Any (reading.next_operand m operand) (Optional ((TheMark m ⨟ λ _. O) or Never)) (Optional ((TheMark m ⨟ λ _. W) or Never))
    (Optional (TheMark m ⨟ λ _. O)) (Optional (TheMark m ⨟ λ _. W)) (optional_within _ _ (or_never (TheMark m ⨟ λ _. O))) (optional_within _ _ (or_never (TheMark m ⨟ λ _. W)))
    (optional_within (TheMark m ⨟ λ _. O) (TheMark m ⨟ λ _. W) (then_within (TheMark m) (TheMark m) (λ _. O) (λ _. W) (same_within (TheMark m)) (λ _. stuck_o.within)))
    (stuck_begins m (λ _. operand) no_more (λ _. O) Never (λ _. stuck_o) stuck_no_more)

module _ {limit : Limit} (one : Parse (tree.Condition Test)) (One W : Rule (tree.Condition Test)) (exact_o : Exact one One Always) (stuck_o : Stuck limit Any one One W) (sample_o : Sample One) where
  sample_chain : (first : tree.Condition Test) → Sample (operands.IsChain One first)
  sample_chain first = sample_then _ _ sample_o (λ second. sample_then _ _ (sample_many _ _ _) (λ rest. sample_gives _))

  stuck_chain : (first : tree.Condition Test) → Stuck limit Any (reading.chain one first) (operands.IsChain One first) (operands.IsChain W first)
  stuck_chain first =
      stuck_then one _ One _ exact_o stuck_o
      (λ second. stuck_map_at Any (No mark.And) (many (reading.next_operand mark.And one) rules.with_last []) (λ rest. reading.operand (all_of (tree.And first second) rest) true)
      (Many (TheMark mark.And ⨟ λ _. One) rules.with_last [])
      (exact_many (reading.next_operand mark.And one) rules.with_last (TheMark mark.And ⨟ λ _. One) (No mark.And)
      (exact_next mark.And one One Any exact_o) (λ x p ns h. begins_longer mark.And (λ _. One) p x ns h) (refl, tt) [])
      (stuck_many {W = TheMark mark.And ⨟ λ _. W} (reading.next_operand mark.And one) rules.with_last (TheMark mark.And ⨟ λ _. One) (No mark.And) Any (exact_next mark.And one One Any exact_o)
      (stuck_next mark.And one One W stuck_o) any_by_next (λ x p ns h. begins_longer mark.And (λ _. One) p x ns h) (refl, tt) [])
      (no_by_next mark.And))
      (λ second. sample_then _ _ (sample_many _ _ _) (λ rest. sample_gives _))

  stuck_all : Stuck limit Any (reading.all one) (operands.IsAll One) (operands.IsAll W)
  stuck_all =
      stuck_then one _ One _ exact_o stuck_o
      (λ first. stuck_either Any mark.And (λ _. reading.chain one first) (pure (reading.operand first false)) (λ _. operands.IsChain One first) (GivesValue (reading.operand first false))
      (λ _. stuck_chain first) (stuck_pure (reading.operand first false)))
      (λ first. sample_right _ _ (sample_gives _))

module _ {limit : Limit} (all : Parse Operand) (All W : Rule Operand) (exact_a : Exact all All (λ o. No mark.And)) (stuck_a : Stuck limit Any all All W) where
  stuck_alternatives : (first : Operand) → Sample All → Stuck limit Any (reading.alternatives all first) (operands.AreAlternatives All first) (operands.AreAlternatives W first)
  stuck_alternatives first sample_a =
      stuck_then_at Any all _ All _ (λ o. No mark.And) (λ second. No mark.And) exact_a stuck_a
      (λ second. stuck_map_at (No mark.And) Over (many (reading.next_operand mark.Or all) reading.with_operand (reading.others [] (first.is_chain || second.is_chain)))
      (λ more. (any_of (tree.Or first.condition second.condition) more.rest, more.is_mixed))
      (Many (TheMark mark.Or ⨟ λ _. All) reading.with_operand (reading.others [] (first.is_chain || second.is_chain)))
      (reads_more all All exact_a (reading.others [] (first.is_chain || second.is_chain)))
      (stuck_many {W = TheMark mark.Or ⨟ λ _. W} (reading.next_operand mark.Or all) reading.with_operand (TheMark mark.Or ⨟ λ _. All) (No mark.Or) (No mark.And)
      (exact_next mark.Or all All (No mark.And) exact_a) (stuck_next mark.Or all All W stuck_a) (no_by_next mark.And) (λ x p ns h. begins_longer mark.Or (λ _. All) p x ns h) (refl, tt)
      (reading.others [] (first.is_chain || second.is_chain)))
      over_by_next)
      (λ second next s. s) (λ second. no_by_next mark.And) (λ second. sample_then _ _ (sample_many _ _ _) (λ more. sample_gives _))

  pub stuck_any : Sample All → Stuck limit Any (reading.any all) (operands.IsAny All) (operands.IsAny W)
  stuck_any sample_a =
      stuck_then_at Any all _ All _ (λ o. No mark.And) (λ first. No mark.And) exact_a stuck_a
      (λ first. stuck_either (No mark.And) mark.Or (reading.noted_alternatives all first) (pure first.condition) (λ place. Noted place.span.line (operands.AreAlternatives All first)) (GivesValue first.condition)
      (λ place. stuck_noted place.span.line (reading.alternatives all first) (operands.AreAlternatives All first) (stuck_alternatives first sample_a))
      (stuck_pure first.condition))
      (λ first next s. s) (λ first. no_by_next mark.And) (λ first. sample_right _ _ (sample_gives _))

sample_all : (One : Rule (tree.Condition Test)) → Sample One → Sample (operands.IsAll One)
sample_all One sample_o = sample_then _ _ sample_o (λ first. sample_right _ _ (sample_gives _))

sample_any : (All : Rule Operand) → Sample All → Sample (operands.IsAny All)
sample_any All sample_a = sample_then _ _ sample_a (λ first. sample_right _ _ (sample_gives _))

sample_leaf : Sample (grammar.IsTest fits ⨟ λ t. GivesValue (tree.Leaf t))
sample_leaf = sample_then _ _ sample_test (λ t. sample_gives _)

sample_one : (room : ℕ) → Sample (grammar.IsOne fits room)
sample_one zero = sample_right _ _ (sample_right _ _ sample_leaf)
sample_one (suc room) = sample_right _ _ (sample_right _ _ sample_leaf)

sample_condition : (room : ℕ) → Sample (grammar.IsCondition fits room)
sample_condition room =
    let s = sample_any (operands.IsAll (grammar.IsOne fits room)) (sample_all (grammar.IsOne fits room) (sample_one room)) in
    record { tail = s.tail; x = s.x; notes = s.notes; said = kept_condition (grammar.IsOne fits room) s.tail s.x s.notes s.said }

abbrev exact_all_at : (room : ℕ) → Exact (reading.all (reading.one fits room)) (operands.IsAll (grammar.IsOne fits room)) (λ o. No mark.And)
exact_all_at room = exact_all (reading.one fits room) (grammar.IsOne fits room) (exact_one fits room)

stuck_leaf : (limit : Limit) → Stuck limit Any (reading.test fits ▸ λ t. pure (tree.Leaf t)) (grammar.IsTest fits ⨟ λ t. GivesValue (tree.Leaf t)) (grammar.IsTest (wide limit) ⨟ λ t. GivesValue (tree.Leaf t))
stuck_leaf limit = stuck_map (reading.test fits) tree.Leaf (grammar.IsTest fits) (exact_test fits) (stuck_test limit)

-- The wider rule may have any number of open conditions.
module _ (limit : Limit) (room wide_room : ℕ) (stuck_o : Stuck limit Any (reading.one fits room) (grammar.IsOne fits room) (grammar.IsOne (wide limit) wide_room)) where
  stuck_any_over : Stuck limit Any (reading.condition fits room) (grammar.IsCondition fits room) (grammar.IsCondition (wide limit) wide_room)
  stuck_any_over =
      let kept = stuck_any (reading.all (reading.one fits room)) (operands.IsAll (grammar.IsOne fits room)) (operands.IsAll (grammar.IsOne (wide limit) wide_room)) (exact_all_at room)
      (stuck_all (reading.one fits room) (grammar.IsOne fits room) (grammar.IsOne (wide limit) wide_room) (exact_one fits room) stuck_o (sample_one room))
      (sample_all (grammar.IsOne fits room) (sample_one room)) in
      stuck_as Any (reading.condition fits room) (operands.IsAny (operands.IsAll (grammar.IsOne fits room))) (operands.IsAny (operands.IsAll (grammar.IsOne (wide limit) wide_room)))
      (grammar.IsCondition fits room) (grammar.IsCondition (wide limit) wide_room) (kept_condition (grammar.IsOne fits room)) (kept_condition (grammar.IsOne (wide limit) wide_room))
      (λ p c ns h. kept_condition (grammar.IsOne (wide limit) wide_room) p c ns (kept.within p c ns (condition_kept (grammar.IsOne fits room) p c ns h))) kept

  stuck_group : Stuck limit Any (reading.condition fits room ▸ λ c. expected mark.ParenClose ▸ λ _. pure c) (grammar.IsCondition fits room ⨟ λ c. TheMark mark.ParenClose ⨟ λ _. GivesValue c)
      (grammar.IsCondition (wide limit) wide_room ⨟ λ c. TheMark mark.ParenClose ⨟ λ _. GivesValue c)
  stuck_group =
      stuck_then_at Any (reading.condition fits room) _ (grammar.IsCondition fits room) _ (λ c. Over) (λ c. Any) (exact_condition fits room) stuck_any_over
      (λ c. stuck_map (expected mark.ParenClose) (λ _. c) (TheMark mark.ParenClose) (exact_mark mark.ParenClose) (stuck_mark mark.ParenClose refl))
      (λ c next s. tt) (λ c. over_by_next) (λ c. sample_then _ _ (sample_mark mark.ParenClose refl) (λ _. sample_gives _))

-- The parser fails at `!` and `(` if nothing may be open.
stuck_one_deep : (limit : Limit) (Negated Grouped : Rule (tree.Condition Test)) → (OfDepth limit → Sample Negated) → (OfDepth limit → Sample Grouped)
    → Stuck limit Any (reading.one fits zero) (grammar.IsOne fits zero) (grammar.IsOneOver Negated Grouped (grammar.IsTest (wide limit)))
stuck_one_deep limit Negated Grouped negated grouped =
    stuck_deep mark.Bang (λ place. reading.deep place ▸ λ c. pure (tree.NotSo c)) _ (λ _. Never ⨟ λ c. GivesValue (tree.NotSo c)) _ (λ place s. refl)
    (stuck_deep mark.ParenOpen (λ place. reading.deep place ▸ λ c. expected mark.ParenClose ▸ λ _. pure c) _ (λ _. Never ⨟ λ c. TheMark mark.ParenClose ⨟ λ _. GivesValue c) _ (λ place s. refl)
    (stuck_leaf limit) sample_leaf (λ place p x ns h. absurd h.first) (λ k place. sample_then _ _ (grouped k) (λ c. sample_then _ _ (sample_mark mark.ParenClose refl) (λ _. sample_gives _))))
    (sample_right _ _ sample_leaf) (λ place p x ns h. absurd h.first) (λ k place. sample_then _ _ (negated k) (λ c. sample_gives _))

pub stuck_one : (limit : Limit) (room : ℕ) → Stuck limit Any (reading.one fits room) (grammar.IsOne fits room) (grammar.IsOne (wide limit) (more room limit))
stuck_one Periods zero = stuck_one_deep Periods Never Never (λ k. absurd k) (λ k. absurd k)
stuck_one Depth zero = stuck_one_deep Depth (grammar.IsOne fits zero) (grammar.IsCondition fits zero) (λ k. sample_one zero) (λ k. sample_condition zero)
stuck_one limit (suc room) =
    let below = stuck_one limit room in
    stuck_either Any mark.Bang (λ _. reading.one fits room ▸ λ c. pure (tree.NotSo c)) _ (λ _. grammar.IsOne fits room ⨟ λ c. GivesValue (tree.NotSo c)) _
    (λ _. stuck_map (reading.one fits room) tree.NotSo (grammar.IsOne fits room) (exact_one fits room) below)
    (stuck_either Any mark.ParenOpen (λ _. reading.condition fits room ▸ λ c. expected mark.ParenClose ▸ λ _. pure c) _
    (λ _. grammar.IsCondition fits room ⨟ λ c. TheMark mark.ParenClose ⨟ λ _. GivesValue c) _ (λ _. stuck_group limit room (more room limit) below) (stuck_leaf limit))

pub stuck_condition : (limit : Limit) (room : ℕ) → Stuck limit Any (reading.condition fits room) (grammar.IsCondition fits room) (grammar.IsCondition (wide limit) (more room limit))
stuck_condition limit room = stuck_any_over limit room (more room limit) (stuck_one limit room)

sample_statement_over : (Cond : Rule (Statement Test Name Wish)) → Sample (grammar.IsStatementOver Cond)
sample_statement_over Cond = sample_right _ _ (sample_left _ _ (sample_then _ _ (sample_mark mark.Run refl) (λ _. sample_then _ _ sample_string (λ command. sample_gives _))))

-- Statements without `if`.
stuck_simple : {limit : Limit} → Stuck limit Any (begins mark.Run (λ _. reading.run) (begins mark.SetState reading.set_state no_more)) (Optional (RunRule or (SetRule or Never))) (Optional (RunRule or (SetRule or Never)))
stuck_simple =
    stuck_begins mark.Run (λ _. reading.run) (begins mark.SetState reading.set_state no_more) (λ _. grammar.IsString ⨟ λ command. GivesValue (Run command)) (SetRule or Never)
    (λ _. stuck_map reading.string Run grammar.IsString exact_string stuck_string)
    (stuck_begins mark.SetState reading.set_state no_more (λ place. grammar.IsString ⨟ λ name. GivesValue (SetState (record { place = place; state = name }))) Never
    (λ place. stuck_map reading.string (λ name. SetState (record { place = place; state = name })) grammar.IsString exact_string stuck_string) stuck_no_more)

without_never : (Cond : Rule (Statement Test Name Wish)) → Within (Optional ((TheMark mark.If ⨟ λ _. Cond) or (RunRule or (SetRule or Never)))) (Optional (grammar.IsStatementOver Cond))
without_never Cond = optional_within _ _ (never_to Cond)

statement_within : (Cond W : Rule (Statement Test Name Wish)) → Within Cond W → Within (Optional (grammar.IsStatementOver Cond)) (Optional (grammar.IsStatementOver W))
statement_within Cond W h =
    optional_within (grammar.IsStatementOver Cond) (grammar.IsStatementOver W) (marked_within mark.If (λ _. Cond) (λ _. W) (RunRule or SetRule) (RunRule or SetRule) (λ _. h) (same_within (RunRule or SetRule)))

stuck_statement_over : {limit : Limit} (conditional : TokenPlace → Parse (Statement Test Name Wish)) (Cond W : Rule (Statement Test Name Wish)) → ((place : TokenPlace) → Stuck limit Any (conditional place) Cond W) → Within Cond W
    → Stuck limit Any (reading.statement_over conditional) (Optional (grammar.IsStatementOver Cond)) (Optional (grammar.IsStatementOver W))
stuck_statement_over conditional Cond W stuck_c within =
    stuck_as Any (reading.statement_over conditional) (Optional ((TheMark mark.If ⨟ λ _. Cond) or (RunRule or (SetRule or Never)))) (Optional ((TheMark mark.If ⨟ λ _. W) or (RunRule or (SetRule or Never))))
    (Optional (grammar.IsStatementOver Cond)) (Optional (grammar.IsStatementOver W)) (without_never Cond) (without_never W) (statement_within Cond W within)
    (stuck_begins mark.If conditional (begins mark.Run (λ _. reading.run) (begins mark.SetState reading.set_state no_more)) (λ _. Cond) (RunRule or (SetRule or Never)) stuck_c stuck_simple)

module _ (W : Rule (Statement Test Name Wish)) where
  -- A statement after `if`, or one without it.
  abbrev IfOr : Rule (Option (Statement Test Name Wish))
  IfOr = (TheMark mark.If ⨟ λ _. W ⨟ λ s. GivesValue (Some s)) or Optional (RunRule or (SetRule or Never))

  deep_to : (p : List Token) (o : Option (Statement Test Name Wish)) (ns : List ℕ) → IfOr p o ns → Optional (grammar.IsStatementOver W) p o ns
  deep_to p o ns (inr h) = without_never W p o ns (optional_or (TheMark mark.If ⨟ λ _. W) (RunRule or (SetRule or Never)) p o ns h)
  deep_to p o ns (inl h) =
      let m = made_of h.second in
      subst (λ (o : Option (Statement Test Name Wish)). Optional (grammar.IsStatementOver W) p o ns) (sym m.made) (inl (rejoined h h.x m.x h.first m.said))

-- The parser fails at `if` if nothing may be open.
stuck_statement_deep : (limit : Limit) (W : Rule (Statement Test Name Wish)) → (OfDepth limit → Sample W)
    → Stuck limit Any (reading.statement_over reading.deep) (Optional (grammar.IsStatementOver Never)) (Optional (grammar.IsStatementOver W))
stuck_statement_deep limit W sample_w =
    stuck_as Any (reading.statement_over reading.deep) (IfOr Never) (IfOr W) (Optional (grammar.IsStatementOver Never)) (Optional (grammar.IsStatementOver W)) (deep_to Never) (deep_to W)
    (statement_within Never W (λ p x ns h. absurd h))
    (stuck_deep mark.If (λ place. reading.deep place ▸ λ x. pure (Some x)) (begins mark.Run (λ _. reading.run) (begins mark.SetState reading.set_state no_more))
    (λ _. Never ⨟ λ s. GivesValue (Some s)) (Optional (RunRule or (SetRule or Never)))
    (λ place s. refl) stuck_simple (record { tail = []; x = None; notes = []; said = (refl, refl) }) (λ place p x ns h. absurd h.first) (λ k place. sample_then _ _ (sample_w k) (λ s. sample_gives _)))

statement_by_next : ByNext NoStatement
statement_by_next a b h s =
    (sym (found_by_next (marked mark.If) a b h) ∙ s.0, (sym (found_by_next (marked mark.Run) a b h) ∙ s.1.0, (sym (found_by_next (marked mark.SetState) a b h) ∙ s.1.1.0, tt)))

-- A repetition in braces.
stuck_braced : {limit : Limit} {X : Type 0} (part : Parse (Option X)) (P W : Rule X) (none : List Token → Type 0) → Exact part (Optional P) (Until none Any) → Stuck limit Any part (Optional P) (Optional W) → ByNext none
    → ((x : X) (p : List Token) (ns : List ℕ) → P p x ns → 1 ≤ length p) → none [] → Stuck limit Any (reading.braced part) (grammar.AreBraced P) (grammar.AreBraced W)
stuck_braced part P W none exact_p stuck_p by_next longer ended =
    stuck_then_at Any (many part rules.with_last []) _ (Many P rules.with_last []) _ (λ xs. none) (λ xs. Any)
    (exact_many part rules.with_last P none exact_p longer ended []) (stuck_many {W = W} part rules.with_last P none Any exact_p stuck_p any_by_next longer ended [])
    (λ xs. stuck_map (expected mark.BraceClose) (λ _. xs) (TheMark mark.BraceClose) (exact_mark mark.BraceClose) (stuck_mark mark.BraceClose refl))
    (λ xs next s. tt) (λ xs. by_next) (λ xs. sample_then _ _ (sample_mark mark.BraceClose refl) (λ _. sample_gives _))

sample_braced : {X : Type 0} (P : Rule X) → Sample (grammar.AreBraced P)
sample_braced P = sample_then _ _ (sample_many _ _ _) (λ xs. sample_then _ _ (sample_mark mark.BraceClose refl) (λ _. sample_gives _))

-- Where the parsers of statements and of blocks fail.
record Fallible (limit : Limit) (statement : Parse (Option (Statement Test Name Wish))) (S W : Rule (Statement Test Name Wish)) : Type 0 where
  stuck : Stuck limit Any statement (Optional S) (Optional W)
  block : Stuck limit Any (reading.block statement) (grammar.IsBlock S) (grammar.IsBlock W)
  sample : Sample S

fallible_over : (limit : Limit) (statement : Parse (Option (Statement Test Name Wish))) (S W : Rule (Statement Test Name Wish)) → Known statement S → Stuck limit Any statement (Optional S) (Optional W) → Sample S
    → Fallible limit statement S W
fallible_over limit statement S W k stuck_s sample_s =
    record {
      stuck = stuck_s;
      sample = sample_s;
      block = stuck_either Any mark.BraceOpen (λ _. reading.braced statement ▸ λ xs. pure (block_of xs)) (required statement ▸ λ x. pure (block_of (x ∷ [])))
          (λ _. grammar.AreBraced S ⨟ λ xs. GivesValue (block_of xs)) (S ⨟ λ x. GivesValue (block_of (x ∷ [])))
          (λ _. stuck_map (reading.braced statement) block_of (grammar.AreBraced S) (exact_braced statement S NoStatement k.exact k.longer (refl, (refl, (refl, tt))) (not_statement mark.BraceClose (λ e. cc) (λ e. cc) (λ e. cc)))
          (stuck_braced statement S W NoStatement k.exact stuck_s statement_by_next k.longer (refl, (refl, (refl, tt)))))
          (stuck_map {W = W} (required statement) (λ x. block_of (x ∷ [])) S (exact_required statement S NoStatement Any k.exact)
          (stuck_required {W = W} statement S NoStatement Any k.exact stuck_s statement_by_next sample_s));
    }

sample_block : (S : Rule (Statement Test Name Wish)) → Sample S → Sample (grammar.IsBlock S)
sample_block S s = sample_right _ _ (sample_then _ _ s (λ x. sample_gives _))

-- What comes after `if`, by how many more may be open.
abbrev IfRule : (ℕ → Bool) → ℕ → Rule (Statement Test Name Wish)
IfRule good room = grammar.IsConditional (grammar.IsCondition good room) (grammar.IsBlock (grammar.IsStatement good room))

sample_if : Sample (IfRule fits zero)
sample_if = sample_then _ _ (sample_condition zero) (λ c. sample_then _ _ (sample_block (grammar.IsStatement fits zero) (sample_statement_over Never)) (λ inner. sample_gives _))

fallible : (limit : Limit) (room : ℕ) → Fallible limit (reading.statement fits room) (grammar.IsStatement fits room) (grammar.IsStatement (wide limit) (more room limit))
fallible Periods zero =
    fallible_over Periods (reading.statement fits zero) (grammar.IsStatement fits zero) (grammar.IsStatement (wide Periods) zero) (known fits zero)
    (stuck_statement_deep Periods Never (λ k. absurd k)) (sample_statement_over Never)
fallible Depth zero =
    fallible_over Depth (reading.statement fits zero) (grammar.IsStatement fits zero) (grammar.IsStatement fits 1) (known fits zero)
    (stuck_statement_deep Depth (IfRule fits zero) (λ k. sample_if)) (sample_statement_over Never)
fallible limit (suc room) =
    let b = fallible limit room in
    let stuck_if : Stuck limit Any (reading.conditional fits room) (IfRule fits room) (IfRule (wide limit) (more room limit)) =
    stuck_then_at Any (reading.condition fits room) _ (grammar.IsCondition fits room) _ (λ c. Over) (λ c. Any) (exact_condition fits room) (stuck_condition limit room)
    (λ c. stuck_map (reading.block (reading.statement fits room)) (λ inner. If c inner) (grammar.IsBlock (grammar.IsStatement fits room)) (known fits room).block b.block)
    (λ c next s. tt) (λ c. over_by_next) (λ c. sample_then _ _ (sample_block (grammar.IsStatement fits room) b.sample) (λ inner. sample_gives _)) in
    fallible_over limit (reading.statement fits (suc room)) (grammar.IsStatement fits (suc room)) (grammar.IsStatement (wide limit) (suc (more room limit))) (known fits (suc room))
    (stuck_statement_over (λ _. reading.conditional fits room) (IfRule fits room) (IfRule (wide limit) (more room limit)) (λ _. stuck_if) stuck_if.within)
    (sample_statement_over _)

part_by_next : ByNext NoPart
part_by_next a b h s = (sym (found_by_next (marked mark.Init) a b h) ∙ s.0, statement_by_next a b h s.1)

item_by_next : ByNext NoItem
item_by_next a b h s = (sym (found_by_next (marked mark.InitState) a b h) ∙ s.0, (sym (found_by_next (marked mark.State) a b h) ∙ s.1.0, part_by_next a b h s.1.1))

module _ (limit : Limit) (statement : Parse (Option (Statement Test Name Wish))) (S W : Rule (Statement Test Name Wish)) (k : Known statement S) (b : Fallible limit statement S W) where
  stuck_part : Stuck limit Any (reading.part statement) (Optional (grammar.IsPart S)) (Optional (grammar.IsPart W))
  stuck_part =
      stuck_begins mark.Init (λ place. reading.block statement ▸ λ inner. pure (Init place inner)) (statement ▸ λ s. pure (option_map Do s))
      (λ place. grammar.IsBlock S ⨟ λ inner. GivesValue (Init place inner)) (S ⨟ λ s. GivesValue (Do s))
      (λ place. stuck_map (reading.block statement) (λ inner. Init place inner) (grammar.IsBlock S) k.block b.block) (stuck_option {W = W} statement Do S b.stuck)

  stuck_state : Stuck limit Any (reading.state_item (reading.part statement)) (grammar.IsString ⨟ λ name. TheMark mark.BraceOpen ⨟ λ _. grammar.AreBraced (grammar.IsPart S) ⨟ λ parts. GivesValue (StateItem name parts))
      (grammar.IsString ⨟ λ name. TheMark mark.BraceOpen ⨟ λ _. grammar.AreBraced (grammar.IsPart W) ⨟ λ parts. GivesValue (StateItem name parts))
  stuck_state =
      stuck_then reading.string _ grammar.IsString _ exact_string stuck_string
      (λ name. stuck_then (expected mark.BraceOpen) _ (TheMark mark.BraceOpen) _ (exact_mark mark.BraceOpen) (stuck_mark mark.BraceOpen refl)
      (λ _. stuck_map (reading.braced (reading.part statement)) (λ parts. StateItem name parts) (grammar.AreBraced (grammar.IsPart S))
      (exact_braced (reading.part statement) (grammar.IsPart S) NoPart (exact_part statement S k) (part_longer statement S k) (refl, (refl, (refl, (refl, tt)))) (closes_part statement S k))
      (stuck_braced (reading.part statement) (grammar.IsPart S) (grammar.IsPart W) NoPart (exact_part statement S k) stuck_part part_by_next (part_longer statement S k) (refl, (refl, (refl, (refl, tt))))))
      (λ _. sample_then _ _ (sample_braced _) (λ parts. sample_gives _)))
      (λ name. sample_then _ _ (sample_mark mark.BraceOpen refl) (λ _. sample_then _ _ (sample_braced _) (λ parts. sample_gives _)))

  stuck_item : Stuck limit Any (reading.item (reading.part statement)) (Optional (grammar.IsItem (grammar.IsPart S))) (Optional (grammar.IsItem (grammar.IsPart W)))
  stuck_item =
      stuck_begins mark.InitState (λ place. reading.string ▸ λ name. pure (InitState place name))
      (begins mark.State (λ _. reading.state_item (reading.part statement)) (reading.part statement ▸ λ p. pure (option_map AlwaysItem p)))
      (λ place. grammar.IsString ⨟ λ name. GivesValue (InitState place name)) _
      (λ place. stuck_map reading.string (λ name. InitState place name) grammar.IsString exact_string stuck_string)
      (stuck_begins mark.State (λ _. reading.state_item (reading.part statement)) (reading.part statement ▸ λ p. pure (option_map AlwaysItem p)) (λ _. _) (grammar.IsPart S ⨟ λ p. GivesValue (AlwaysItem p))
      (λ _. stuck_state) (stuck_option {W = grammar.IsPart W} (reading.part statement) AlwaysItem (grammar.IsPart S) stuck_part))

  stuck_items : Stuck limit Any (reading.items (reading.item (reading.part statement))) (grammar.AreItems (grammar.IsItem (grammar.IsPart S))) (grammar.AreItems (grammar.IsItem (grammar.IsPart W)))
  stuck_items =
      stuck_then_at Any (many (reading.item (reading.part statement)) rules.with_last []) _ (Many (grammar.IsItem (grammar.IsPart S)) rules.with_last []) _ (λ all. NoItem) (λ all. Any)
      (exact_many (reading.item (reading.part statement)) rules.with_last (grammar.IsItem (grammar.IsPart S)) NoItem (exact_item statement S k) (item_longer statement S k) (refl, (refl, (refl, (refl, (refl, (refl, tt)))))) [])
      (stuck_many {W = grammar.IsItem (grammar.IsPart W)} (reading.item (reading.part statement)) rules.with_last (grammar.IsItem (grammar.IsPart S)) NoItem Any (exact_item statement S k) stuck_item any_by_next (item_longer statement S k)
      (refl, (refl, (refl, (refl, (refl, (refl, tt)))))) [])
      (λ all. stuck_map (expected mark.End) (λ _. all) (TheMark mark.End) (exact_mark mark.End) (stuck_mark mark.End refl))
      (λ all next s. tt) (λ all. item_by_next) (λ all. sample_then _ _ (sample_mark mark.End refl) (λ _. sample_gives _))

abbrev read_all : Parse (List Item)
read_all = reading.items (reading.item (reading.part (reading.statement fits 32)))

-- The rule of files.
abbrev AllWithin : (ℕ → Bool) → ℕ → Rule (List Item)
AllWithin good room = grammar.AreItems (grammar.IsItem (grammar.IsPart (grammar.IsStatement good room)))

goes_on : (good : ℕ → Bool) (room : ℕ) (front : List Token) (token : Token) (rest : List Token) → Goes (AllWithin good room) front (token ∷ rest) → grammar.GoesOn good room front token
unfolding grammar.SaysWithin
goes_on good room front token rest g =
    let same : g.token ≡ token = let e = g.next in cc in
    let whole : (front ++ g.token ∷ []) ++ g.begun.tail ≡ front ++ token ∷ g.begun.tail =
    append_assoc front (g.token ∷ []) g.begun.tail ∙ ap (λ (t : Token). front ++ t ∷ g.begun.tail) same in
    (g.begun.tail, file g.begun.x g.begun.notes, subst (λ (l : List Token). AllWithin good room l g.begun.x g.begun.notes) whole g.begun.said)

-- The limit that a fault is about, if any.
abbrev limit_of : ParseFault → Limit
limit_of (Unexpected place) = Periods
limit_of (Period place) = Periods
limit_of (Nesting place) = Depth
limit_of Memory = Periods

helps_at : (fault : ParseFault) (front : List Token) (token : Token) (rest : List Token)
    → (IsOf (limit_of fault) fault → Goes (AllWithin (wide (limit_of fault)) (more 32 (limit_of fault))) front (token ∷ rest)) → grammar.Helps fault front token
helps_at (Unexpected place) front token rest h = tt
helps_at (Period place) front token rest h = goes_on grammar.any_period 32 front token rest (h tt)
helps_at (Nesting place) front token rest h = goes_on fits 33 front token rest (h tt)
helps_at Memory front token rest h = tt

behind_front : (n : ℕ) (front : List Token) (token : Token) (rest : List Token) → HaveNumbers n (front ++ token ∷ rest) → token.number ≡ n + length front
behind_front n [] token rest h = let e : n ≡ n + 0 = omega arith in h.0 ∙ e
behind_front n (t ∷ front) token rest h =
    let e : suc n + length front ≡ n + length (t ∷ front) = omega arith in behind_front (suc n) front token rest h.1 ∙ e

-- Tokens that end once do not fail if more tokens after them would say a file.
not_whole : (tokens tail : List Token) (f : File) (fault : ParseFault) → EndsOnce tokens → grammar.Says (tokens ++ tail) f → reading.read_within fits 32 tokens ≡ Err fault → ⊥
not_whole tokens tail f fault ends said e =
    let none : tail ≡ [] = ends_there fits 32 tokens tail f ends said in
    says_no_fault fits 32 tokens f fault (subst (λ (l : List Token). grammar.Says l f) (ap (λ (l : List Token). tokens ++ l) none ∙ append-nil tokens) said) e

module _ (tokens : List Token) (fault : ParseFault) (ends : EndsOnce tokens) (e : reading.read_within fits 32 tokens ≡ Err fault) where
  stops_by : (front left tail : List Token) (f : File) → tokens ≡ front ++ left → grammar.IsAt fault (place_of_first left) → grammar.Says (front ++ tail) f
      → (IsOf (limit_of fault) fault → Goes (AllWithin (wide (limit_of fault)) (more 32 (limit_of fault))) front left)
      → ((w : List Token) → next_token w ≡ next_token left → reading.read_within fits 32 (front ++ w) ≡ Err fault) → StopsAt tokens fault
  stops_by front [] tail f whole place can helped same =
      let all : front ≡ tokens = sym (append-nil front) ∙ sym whole in
      absurd (not_whole tokens tail f fault ends (subst (λ (l : List Token). grammar.Says (l ++ tail) f) all can) e)
  stops_by front (token ∷ rest) tail f whole place can helped same =
      record {
        front = front;
        token = token;
        rest = rest;
        whole = whole;
        place = place;
        number = λ numbered. let e : 0 + length front ≡ length front = omega arith in behind_front 0 front token rest (subst AreNumbered whole numbered) ∙ e;
        tail = tail;
        file = f;
        can = can;
        cannot = λ more other said. says_no_fault fits 32 (front ++ token ∷ more) other fault said (same (token ∷ more) refl);
        no_help = no_help_at front token fault (λ w. same (token ∷ w) refl);
        helps = helps_at fault front token rest helped;
      }

  broke_all : Broke {B = File} (read_all (progress tokens [])) (λ r. Ok (file r.0 r.1.notes)) fault → StopsAt tokens fault
  unfolding grammar.SaysWithin reading.read_within
  broke_all (After r e k) = absurd (cc)
  broke_all (Before e) =
      let limit = limit_of fault in
      let f = (stuck_items limit (reading.statement fits 32) (grammar.IsStatement fits 32) (grammar.IsStatement (wide limit) (more 32 limit)) (known fits 32) (fallible limit 32)).fails (progress tokens []) fault tt e in
      stops_by f.front f.left f.can.tail (file f.can.x f.can.notes) f.whole f.place f.can.said f.helped
      (λ w h. ap (λ (r : Result (List Item × Progress) ParseFault). r >>= λ r. Ok (file r.0 r.1.notes)) (f.same w [] h))

-- A fault of the parser says where the tokens stop.
pub stops_at : (tokens : List Token) (fault : ParseFault) → EndsOnce tokens → reading.read_within fits 32 tokens ≡ Err fault → StopsAt tokens fault
unfolding reading.read_within
stops_at tokens fault ends e = broke_all tokens fault ends e (broke (read_all (progress tokens [])) (λ r. Ok (file r.0 r.1.notes)) fault e)
