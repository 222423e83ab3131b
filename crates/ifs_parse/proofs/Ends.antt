-- No token inside a rule is the end, so tokens that say a file end once.
use Rattle.std.proofs.Common.{◌≡◌, ◌≢◌, ℕ, zero, suc, inl, inr, refl, sym, ap, subst, ◌∙◌, Bool}
use Rattle.std.proofs.Common.{false, Option, Some, None, List, [], ◌∷◌, ◌++◌, append_assoc}
use denote.Enum.Bare.{same_true}
use Rattle.ifs_lex.specs.declared.token.Token.{Token}
use Rattle.ifs_lex.specs.declared.token.TokenPlace.{TokenPlace}
use Rattle.ifs_lex.specs.Numbered.{place_of}
use Rattle.ifs_lex.specs.declared.token.What.{What}
use Rattle.ifs_lex.specs.declared.token.What.TheVariants as what
use Rattle.ifs_lex.specs.Expansion.{EndsOnce, Endless, is_end}
use Rattle.ifs_parse.specs.contracts.mark.Mark.{the_type}
use Rattle.ifs_parse.specs.declared.mark.Mark.{Mark}
use Rattle.ifs_parse.specs.declared.mark.Mark.TheVariants as mark
use Rattle.ifs_parse.specs.Marks.{mark_of, is}
use Rattle.ifs_parse.specs.declared.tree.Name.{Name}
use Rattle.ifs_parse.specs.declared.tree.Test.{Test}
use Rattle.ifs_parse.specs.declared.tree.Wish.{Wish}
use Rattle.ifs_parse.specs.declared.block.Statement.{Statement}
use Rattle.ifs_parse.specs.Trees as tree
use Rattle.ifs_parse.specs.Files.{File}
use Rattle.ifs_parse.specs.Rules.{Rule, GivesValue, OneToken, TheMark, ◌⨟◌, ◌or◌, Never, Many, Enough, More}
use Rattle.ifs_parse.specs.Words.{marked}
use Rattle.ifs_parse.specs.Words as words
use Rattle.ifs_parse.specs.Rules as rules
use Rattle.ifs_parse.specs.Grammar as grammar
use Rattle.ifs_parse.specs.Grammar.{Operands}
use Rattle.ifs_parse.proofs.Read.{taken}
use Rattle.ifs_parse.proofs.Whole.{end_is_last}

-- No token of a rule is the end.
abbrev pub Free : {X : Type 0} → Rule X → Type 0
Free {X = X} rule = (p : List Token) (x : X) (ns : List ℕ) → rule p x ns → Endless p

endless_both : (a b : List Token) → Endless a → Endless b → Endless (a ++ b)
endless_both [] b h k = k
endless_both (t ∷ a) b h k = (h.0, endless_both a b h.1 k)

free_gives : {X : Type 0} (v : X) → Free (GivesValue v)
free_gives v p x ns h = subst Endless (sym h.none) tt

free_token : {X : Type 0} (of : Token → Option X) → ((t : Token) (x : X) → of t ≡ Some x → is_end t.what ≡ false) → Free (OneToken of)
free_token of apart p x ns h = subst Endless (sym h.only) (apart h.token x h.stands, tt)

free_then : {X Y : Type 0} (P : Rule X) (Q : X → Rule Y) → Free P → ((x : X) → Free (Q x)) → Free (P ⨟ Q)
free_then P Q free_p free_q p y ns h = subst Endless (sym h.tokens_are) (endless_both h.front h.back (free_p h.front h.x h.before h.first) (free_q h.x h.back y h.after h.second))

free_map : {X Y : Type 0} (P : Rule X) (f : X → Y) → Free P → Free (P ⨟ λ x. GivesValue (f x))
free_map P f free_p = free_then P (λ x. GivesValue (f x)) free_p (λ x. free_gives (f x))

free_or : {X : Type 0} (P Q : Rule X) → Free P → Free Q → Free (P or Q)
free_or P Q free_p free_q p x ns (inl h) = free_p p x ns h
free_or P Q free_p free_q p x ns (inr h) = free_q p x ns h

free_never : {X : Type 0} → Free (Never {X = X})
free_never p x ns h = absurd h

free_many : {A X : Type 0} (P : Rule X) (add : A → X → A) → Free P → (a b : A) (p : List Token) (ns : List ℕ) → Many P add a p b ns → Endless p
free_many P add free_p a b p ns Enough = tt
free_many P add free_p a b p ns (More {x = x} {front = front} {back = back} {before = before} {after = after} h rest) =
    endless_both front back (free_p front x before h) (free_many P add free_p (add a x) b back after rest)

by_what : (w : What) → (w ≡ what.End → ⊥) → is_end w ≡ false
by_what what.End h = absurd (h refl)
by_what _ h = refl

-- A token that stands for something is not the end if the end stands for nothing.
by_end : {X : Type 0} (of : What → Option X) → of what.End ≡ None → (w : What) (x : X) → of w ≡ Some x → is_end w ≡ false
by_end of none w x h = by_what w (λ e. let k = sym none ∙ ap of (sym e) ∙ h in absurd (cc))

free_mark : (m : Mark) → mark.End ≢ m → Free (TheMark m)
unfolding is
free_mark m differ =
    free_token (marked m) (λ t place h. by_what t.what (λ e. differ (same_true the_type tt mark.End m (ap (λ w. is (mark_of w) m) (sym e) ∙ taken (is (mark_of t.what) m) (place_of t) place h))))

-- A mark and what comes after it.
free_after : {X : Type 0} (m : Mark) → mark.End ≢ m → (Q : TokenPlace → Rule X) → ((place : TokenPlace) → Free (Q place)) → Free (TheMark m ⨟ Q)
free_after m differ Q free_q = free_then (TheMark m) Q (free_mark m differ) free_q

free_string : Free grammar.IsString
free_string = free_token words.name_of (λ t x h. by_what t.what (λ e. let k = sym h ∙ ap (λ w. words.name_of (record { what = w; span = t.span; number = t.number })) e in absurd (cc)))

free_link_state : Free grammar.IsLinkState
free_link_state = free_token (λ t. words.link_state_of (mark_of t.what)) (λ t. by_end (λ w. words.link_state_of (mark_of w)) refl t.what)

module _ (fits : ℕ → Bool) where
  free_period : Free (grammar.IsPeriod fits)
  free_period = free_token (λ t. grammar.fitting fits (words.number_of_what t.what)) (λ t. by_end (λ w. grammar.fitting fits (words.number_of_what w)) refl t.what)

  free_test : Free (grammar.IsTest fits)
  free_test =
      free_then grammar.IsString _ free_string
      (λ name. free_or _ _
      (free_after mark.Dot (λ e. cc) _ (λ _. free_after mark.Link (λ e. cc) _ (λ _. free_after mark.Dot (λ e. cc) _ (λ _. free_then grammar.IsLinkState _ free_link_state (λ l. free_gives _)))))
      (free_after mark.Every (λ e. cc) _ (λ _. free_then (grammar.IsPeriod fits) _ free_period (λ n. free_gives _))))

  free_joined : {X : Type 0} (sign : Mark) → mark.End ≢ sign → (one : Rule X) → Free one → Free (grammar.Joined sign one)
  free_joined sign differ one free_one =
      free_then one _ free_one
      (λ first. free_then (Many (TheMark sign ⨟ λ _. one) rules.with_last []) _
      (λ p x ns h. free_many (TheMark sign ⨟ λ _. one) rules.with_last (free_after sign differ (λ _. one) (λ _. free_one)) [] x p ns h) (λ others. free_gives _))

  free_all : (one : Rule (tree.Condition Test)) → Free one → Free (grammar.IsAll one)
  free_all = free_joined mark.And (λ e. cc)

  free_any : (all : Rule (Operands (tree.Condition Test))) → Free all → Free (grammar.IsAny all)
  free_any all free_a =
      free_then all _ free_a
      (λ first. free_or _ _
      (free_after mark.Or (λ e. cc) _
      (λ place p x ns h. free_then (grammar.Joined mark.Or all) _ (free_joined mark.Or (λ e. cc) all free_a) (λ more. free_gives _) p (x, h.is_noted) h.within h.said))
      (free_gives _))

  free_over : (p q : Rule (tree.Condition Test)) → Free p → Free q → Free (grammar.IsOneOver p q (grammar.IsTest fits))
  free_over p q free_p free_q =
      free_or _ _ (free_after mark.Bang (λ e. cc) _ (λ _. free_map p tree.NotSo free_p))
      (free_or _ _ (free_after mark.ParenOpen (λ e. cc) _ (λ _. free_then q _ free_q (λ c. free_after mark.ParenClose (λ e. cc) _ (λ _. free_gives _))))
      (free_map (grammar.IsTest fits) tree.Leaf free_test))

  free_one : (room : ℕ) → Free (grammar.IsOne fits room)
  free_one zero = free_over Never Never free_never free_never
  free_one (suc room) = free_over (grammar.IsOne fits room) (grammar.IsCondition fits room) (free_one room) (free_any (grammar.IsAll (grammar.IsOne fits room)) (free_all (grammar.IsOne fits room) (free_one room)))

  free_condition : (room : ℕ) → Free (grammar.IsCondition fits room)
  free_condition room = free_any (grammar.IsAll (grammar.IsOne fits room)) (free_all (grammar.IsOne fits room) (free_one room))

  free_braced : {X : Type 0} (part : Rule X) → Free part → Free (grammar.AreBraced part)
  free_braced part free_p =
      free_then (Many part rules.with_last []) _ (λ p x ns h. free_many part rules.with_last free_p [] x p ns h) (λ xs. free_after mark.BraceClose (λ e. cc) _ (λ _. free_gives _))

  free_block : (statement : Rule (Statement Test Name Wish)) → Free statement → Free (grammar.IsBlock statement)
  free_block statement free_s =
      free_or _ _ (free_after mark.BraceOpen (λ e. cc) _ (λ _. free_then (grammar.AreBraced statement) _ (free_braced statement free_s) (λ xs. free_gives _)))
      (free_then statement _ free_s (λ x. free_gives _))

  free_statement_over : (conditional : Rule (Statement Test Name Wish)) → Free conditional → Free (grammar.IsStatementOver conditional)
  free_statement_over conditional free_c =
      free_or _ _ (free_after mark.If (λ e. cc) _ (λ _. free_c))
      (free_or _ _ (free_after mark.Run (λ e. cc) _ (λ _. free_then grammar.IsString _ free_string (λ c. free_gives _)))
      (free_after mark.SetState (λ e. cc) _ (λ place. free_then grammar.IsString _ free_string (λ name. free_gives _))))

  free_statement : (room : ℕ) → Free (grammar.IsStatement fits room)
  free_statement zero = free_statement_over Never free_never
  free_statement (suc room) =
      free_statement_over (grammar.IsConditional (grammar.IsCondition fits room) (grammar.IsBlock (grammar.IsStatement fits room)))
      (free_then (grammar.IsCondition fits room) _ (free_condition room) (λ c. free_then (grammar.IsBlock (grammar.IsStatement fits room)) _ (free_block (grammar.IsStatement fits room) (free_statement room)) (λ inner. free_gives _)))

  module _ (S : Rule (Statement Test Name Wish)) (free_s : Free S) where
    free_part : Free (grammar.IsPart S)
    free_part =
        free_or _ _ (free_after mark.Init (λ e. cc) _ (λ place. free_then (grammar.IsBlock S) _ (free_block S free_s) (λ inner. free_gives _))) (free_then S _ free_s (λ s. free_gives _))

    free_item : Free (grammar.IsItem (grammar.IsPart S))
    free_item =
        free_or _ _ (free_after mark.InitState (λ e. cc) _ (λ place. free_then grammar.IsString _ free_string (λ name. free_gives _)))
        (free_or _ _
        (free_after mark.State (λ e. cc) _ (λ _. free_then grammar.IsString _ free_string (λ name. free_after mark.BraceOpen (λ e. cc) _
        (λ _. free_then (grammar.AreBraced (grammar.IsPart S)) _ (free_braced (grammar.IsPart S) free_part) (λ parts. free_gives _)))))
        (free_then (grammar.IsPart S) _ free_part (λ p. free_gives _)))

  -- Nothing comes after tokens that end once, if the whole says a file.
  pub ends_there : (room : ℕ) (tokens tail : List Token) (file : File) → EndsOnce tokens → grammar.SaysWithin fits room (tokens ++ tail) file → tail ≡ []
  unfolding grammar.SaysWithin
  ends_there room tokens tail file ends h =
      let free = free_many (grammar.IsItem (grammar.IsPart (grammar.IsStatement fits room))) rules.with_last (free_item (grammar.IsStatement fits room) (free_statement room)) [] h.x h.front h.before h.first in
      let last : tokens ++ tail ≡ h.front ++ h.second.first.token ∷ [] =
      h.tokens_are ∙ ap (λ (l : List Token). h.front ++ l) (h.second.tokens_are ∙ rw (h.second.first.only, h.second.second.none)) in
      end_is_last ends.front ends.last tail h.front h.second.first.token
      (sym (append_assoc ends.front (ends.last ∷ []) tail) ∙ ap (λ (l : List Token). l ++ tail) (sym ends.whole) ∙ last) (ap is_end ends.ends) free
