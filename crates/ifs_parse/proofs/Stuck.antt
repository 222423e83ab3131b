-- Where a parser fails. The tokens before that place can go on, and with the next token the parser always fails alike. If
-- a limit is the reason, the next token can go on by a wider rule, which is the same without that limit.
use Rattle.std.proofs.Common.{◌≡◌, inl, inr, ℕ, zero, suc, ◌≤◌, refl, sym, ap, subst, ◌∙◌, cond}
use Rattle.std.proofs.Common.{Bool, true, false, Option, Some, None, Ok, Err, List, [], ◌∷◌}
use Rattle.std.proofs.Common.{◌++◌, length, length-append, append_assoc, append-nil, arith}
use Rattle.std.specs.Prelude.{Result, if◌then◌else◌, option_map}
use Rattle.std.specs.Option.{option_map_or}
use Rattle.ifs_base.specs.Results.{◌>>=◌}
use Rattle.ifs_lex.specs.declared.token.Token.{Token}
use Rattle.ifs_lex.specs.declared.token.TokenPlace.{TokenPlace}
use Rattle.ifs_lex.specs.Numbered.{place_of}
use Rattle.ifs_parse.specs.declared.fault.ParseFault.{ParseFault}
use Rattle.ifs_parse.specs.declared.fault.ParseFault.TheVariants.{Unexpected, Period, Nesting, Memory}
use Rattle.ifs_parse.specs.declared.mark.Mark.{Mark}
use Rattle.ifs_parse.specs.inner.Reading as reading
use Rattle.ifs_parse.specs.Grammar.{IsAt}
use Rattle.ifs_parse.specs.inner.Combined.{Progress, progress, Parse, after_token, place_of_first, ◌▸◌}
use Rattle.ifs_parse.specs.inner.Combined.{pure, found, accepted}
use Rattle.ifs_parse.specs.inner.Combined.{one_token, either, unexpected, begins, no_more, required, many, many_from}
use Rattle.ifs_parse.specs.Words.{marked}
use Rattle.ifs_parse.specs.Rules.{Rule, GivesValue, OneToken, TheMark, ◌⨟◌, ◌or◌, Never, Optional, Noted, Many}
use Rattle.ifs_parse.specs.Rules.{Enough, More}
use Rattle.ifs_parse.proofs.Exact.{Always, Any, Until, Found, Reads, Exact}
use Rattle.ifs_parse.proofs.RuleLaws.{in_turn, moved, gives_made, Within, same_within, then_within, marked_within}
use Rattle.ifs_parse.proofs.RuleLaws.{optional_within, some_within, optional_or, noted_within, many_within}

-- The next token, if there is one.
abbrev pub next_token : List Token → Option Token
next_token = found (λ t. Some t)

-- The limits of the grammar: of periods, and of nesting.
pub data Limit : Type 0 where
  Periods : Limit
  Depth : Limit

abbrev pub OfPeriods : Limit → Type 0
OfPeriods Periods = Unit {0}
OfPeriods Depth = ⊥

abbrev pub OfDepth : Limit → Type 0
OfDepth Periods = ⊥
OfDepth Depth = Unit {0}

-- A fault is about a limit.
abbrev pub IsOf : Limit → ParseFault → Type 0
IsOf limit (Unexpected place) = ⊥
IsOf limit (Period place) = OfPeriods limit
IsOf limit (Nesting place) = OfDepth limit
IsOf limit Memory = ⊥

-- A rule has something that begins with these tokens.
pub record Begins {X : Type 0} (rule : Rule X) (front : List Token) : Type 0 where
  pub tail : List Token
  pub x : X
  pub notes : List ℕ
  pub said : rule (front ++ tail) x notes

-- A rule has something.
abbrev pub Sample : {X : Type 0} → Rule X → Type 0
Sample rule = Begins rule []

-- A rule has something that begins with these tokens and the next one.
pub record Goes {X : Type 0} (rule : Rule X) (front left : List Token) : Type 0 where
  pub token : Token
  pub next : next_token left ≡ Some token
  pub begun : Begins rule (front ++ token ∷ [])

-- A parser fails after `front`, and what is left there decides the fault.
pub record Fails (limit : Limit) {X : Type 0} (read : Parse X) (rule wide : Rule X) (s : Progress) (fault : ParseFault) : Type 0 where
  pub front : List Token
  pub left : List Token
  pub whole : s.left ≡ front ++ left
  pub can : Begins rule front
  pub helped : IsOf limit fault → Goes wide front left
  pub same : (w : List Token) (m : List ℕ) → next_token w ≡ next_token left → read (progress (front ++ w) m) ≡ Err fault
  pub place : IsAt fault (place_of_first left)

-- Each fault of a parser is such a failure, and the wider rule has what the rule has.
pub record Stuck (limit : Limit) {X : Type 0} (start : List Token → Type 0) (read : Parse X) (rule wide : Rule X) : Type 0 where
  pub fails : (s : Progress) (fault : ParseFault) → start s.left → read s ≡ Err fault → Fails limit read rule wide s fault
  pub within : Within rule wide

-- The next token decides what is found.
pub found_by_next : {X : Type 0} (what : Token → Option X) (a b : List Token) → next_token a ≡ next_token b → found what a ≡ found what b
found_by_next what [] [] h = refl
found_by_next what [] (t ∷ b) h = absurd (cc)
found_by_next what (t ∷ a) [] h = absurd (cc)
found_by_next what (t ∷ a) (u ∷ b) h = let e : t ≡ u = cc in ap what e

pub place_by_next : (a b : List Token) → next_token a ≡ next_token b → place_of_first a ≡ place_of_first b
place_by_next [] [] h = refl
place_by_next [] (t ∷ b) h = absurd (cc)
place_by_next (t ∷ a) [] h = absurd (cc)
place_by_next (t ∷ a) (u ∷ b) h = let e : t ≡ u = cc in ap (λ (t : Token). place_of t) e

pub next_append : (front a b : List Token) → next_token a ≡ next_token b → next_token (front ++ a) ≡ next_token (front ++ b)
next_append [] a b h = h
next_append (t ∷ front) a b h = refl

-- The next token decides a condition on what is next.
abbrev pub ByNext : (List Token → Type 0) → Type 0
ByNext stop = (a b : List Token) → next_token a ≡ next_token b → stop a → stop b

abbrev failed : {A : Type 0} → ParseFault → Result A ParseFault → ParseFault
failed other (Ok a) = other
failed other (Err fault) = fault

abbrev bad : {A : Type 0} → ParseFault → Result A ParseFault
bad fault = Err fault

-- An equal fault.
pub fails_as : {limit : Limit} {X : Type 0} (read : Parse X) (P W : Rule X) (s : Progress) (f g : ParseFault) → bad {A = X × Progress} f ≡ bad g → Fails limit read P W s f → Fails limit read P W s g
fails_as {limit = limit} read P W s f g e h = subst (Fails limit read P W s) (ap (failed f) e) h

-- Beginnings of combined rules.
pub begins_as : {X : Type 0} (P W : Rule X) → Within P W → (front : List Token) → Begins P front → Begins W front
begins_as P W within front b = record { tail = b.tail; x = b.x; notes = b.notes; said = within (front ++ b.tail) b.x b.notes b.said }

pub begins_first : {X Y : Type 0} (P : Rule X) (Q : X → Rule Y) → ((x : X) → Sample (Q x)) → (front : List Token) → Begins P front → Begins (P ⨟ Q) front
begins_first P Q sample front b =
    let g = sample b.x in
    record { tail = b.tail ++ g.tail; x = g.x; notes = b.notes ++ g.notes; said = moved (P ⨟ Q) (append_assoc front b.tail g.tail) refl (in_turn _ _ _ _ b.x g.x b.said g.said) }

begins_second : {X Y : Type 0} (P : Rule X) (Q : X → Rule Y) (before : List Token) (x : X) (ns : List ℕ) → P before x ns → (front : List Token) → Begins (Q x) front → Begins (P ⨟ Q) (before ++ front)
begins_second P Q before x ns h front b =
    record { tail = b.tail; x = b.x; notes = ns ++ b.notes; said = moved (P ⨟ Q) (sym (append_assoc before front b.tail)) refl (in_turn _ _ _ _ x b.x h b.said) }

pub begins_left : {X : Type 0} (P Q : Rule X) (front : List Token) → Begins P front → Begins (P or Q) front
begins_left P Q front b = record { tail = b.tail; x = b.x; notes = b.notes; said = inl b.said }

pub begins_right : {X : Type 0} (P Q : Rule X) (front : List Token) → Begins Q front → Begins (P or Q) front
begins_right P Q front b = record { tail = b.tail; x = b.x; notes = b.notes; said = inr b.said }

begins_marked : {X : Type 0} (mark : Mark) (Q : TokenPlace → Rule X) (R : Rule X) (u : Token) (place : TokenPlace) → marked mark u ≡ Some place → (front : List Token) → Begins (Q place) front
    → Begins ((TheMark mark ⨟ Q) or R) (u ∷ front)
begins_marked mark Q R u place h front b =
    begins_left (TheMark mark ⨟ Q) R (u ∷ front) (begins_second (TheMark mark) Q (u ∷ []) place [] (record { token = u; only = refl; stands = h; unnoted = refl }) front b)

begins_some : {X : Type 0} (P : Rule X) (front : List Token) → Begins P front → Begins (Optional P) front
begins_some P front b = record { tail = b.tail; x = Some b.x; notes = b.notes; said = b.said }

begins_noted : {X : Type 0} (line : ℕ) (P : Rule (X × Bool)) (front : List Token) → Begins P front → Begins (Noted line P) front
begins_noted line P front b =
    record { tail = b.tail; x = b.x.0; notes = if b.x.1 then line ∷ b.notes else b.notes; said = record { is_noted = b.x.1; within = b.notes; notes_are = refl; said = b.said } }

-- A next token that goes on by one rule goes on by another.
goes : {X Y : Type 0} (W : Rule X) (V : Rule Y) (before : List Token) → ((front : List Token) → Begins W front → Begins V (before ++ front)) → (front left : List Token)
    → Goes W front left → Goes V (before ++ front) left
goes W V before to front left g =
    record { token = g.token; next = g.next; begun = subst (Begins V) (sym (append_assoc before front (g.token ∷ []))) (to (front ++ g.token ∷ []) g.begun) }

-- A parser fails where a parser that it calls fails.
fails_after : {limit : Limit} {X Y : Type 0} (p : Parse X) (P W : Rule X) (s : Progress) (fault : ParseFault) (f : Fails limit p P W s fault)
    (q : Parse Y) (R V : Rule Y) (before : List Token) (t : Progress) → t.left ≡ before ++ s.left
    → ((front : List Token) → Begins P front → Begins R (before ++ front)) → ((front : List Token) → Begins W front → Begins V (before ++ front))
    → ((w : List Token) (m : List ℕ) → next_token w ≡ next_token f.left → q (progress ((before ++ f.front) ++ w) m) ≡ Err fault) → Fails limit q R V t fault
fails_after p P W s fault f q R V before t taken to wide_to same =
    record {
      front = before ++ f.front;
      left = f.left;
      whole = taken ∙ ap (λ l. before ++ l) f.whole ∙ sym (append_assoc before f.front f.left);
      can = to f.front f.can;
      helped = λ k. goes W V before wide_to f.front f.left (f.helped k);
      same = same;
      place = f.place;
    }

pub stuck_pure : {limit : Limit} {X : Type 0} {start : List Token → Type 0} (v : X) → Stuck limit start (pure v) (GivesValue v) (GivesValue v)
stuck_pure v = record { fails = λ s fault a e. absurd (cc); within = same_within (GivesValue v) }

-- A parser fails at its first token.
pub fails_here : {limit : Limit} {X : Type 0} (read : Parse X) (P W : Rule X) (ts : List Token) (m : List ℕ) (fault : ParseFault) → Sample P
    → ((w : List Token) (n : List ℕ) → next_token w ≡ next_token ts → read (progress w n) ≡ Err fault) → (IsOf limit fault → Goes W [] ts) → IsAt fault (place_of_first ts) → Fails limit read P W (progress ts m) fault
fails_here read P W ts m fault sample same helped place =
    record { front = []; left = ts; whole = refl; can = sample; helped = helped; same = same; place = place }

module _ {limit : Limit} {X : Type 0} (what : Token → Option X) (sample : Sample (OneToken what)) where
  token_stuck : (ts : List Token) (m : List ℕ) (o : Option X) → found what ts ≡ o → (fault : ParseFault)
      → option_map_or (λ x. Ok (x, after_token (progress ts m))) o (unexpected (progress ts m)) ≡ Err fault → Fails limit (one_token what) (OneToken what) (OneToken what) (progress ts m) fault
  token_stuck ts m (Some x) h fault e = absurd (cc)
  token_stuck ts m None h fault e =
      fails_as (one_token what) (OneToken what) (OneToken what) (progress ts m) (Unexpected (place_of_first ts)) fault e
      (fails_here (one_token what) (OneToken what) (OneToken what) ts m (Unexpected (place_of_first ts)) sample
      (λ w n k. rw (found_by_next what w ts k ∙ h, place_by_next w ts k)) (λ k. absurd k) (inl refl))

  pub stuck_token : Stuck limit Any (one_token what) (OneToken what) (OneToken what)
  stuck_token = record { fails = λ s fault a e. token_stuck s.left s.notes (found what s.left) refl fault e; within = same_within (OneToken what) }

-- A sequence fails in its first part or after it.
pub data Broke {A B : Type 0} (r : Result A ParseFault) (f : A → Result B ParseFault) (fault : ParseFault) : Type 0 where
  Before : r ≡ Err fault → Broke r f fault
  After : (a : A) → r ≡ Ok a → f a ≡ Err fault → Broke r f fault

pub broke : {A B : Type 0} (r : Result A ParseFault) (f : A → Result B ParseFault) (fault : ParseFault) → (r >>= f) ≡ Err fault → Broke r f fault
broke (Ok a) f fault e = After a refl e
broke (Err g) f fault e = Before (ap (λ g. Err g) (ap (failed g) e))

module _ {limit : Limit} {X Y : Type 0} {W : Rule X} {V : X → Rule Y} (start : List Token → Type 0) (p : Parse X) (q : X → Parse Y) (P : Rule X) (Q : X → Rule Y)
    (stop_p : X → List Token → Type 0) (start_q : X → List Token → Type 0)
    (exact_p : Reads start p P stop_p) (stuck_p : Stuck limit start p P W) (stuck_q : (x : X) → Stuck limit (start_q x) (q x) (Q x) (V x))
    (between : (x : X) (next : List Token) → stop_p x next → start_q x next) (by_next : (x : X) → ByNext (stop_p x))
    (sample_q : (x : X) → Sample (Q x)) where
  then_broke : (s : Progress) (fault : ParseFault) → start s.left → Broke (p s) (λ r. q r.0 r.1) fault → Fails limit (p ▸ q) (P ⨟ Q) (W ⨟ V) s fault
  then_broke s fault begun (Before e) =
      let h = stuck_p.fails s fault begun e in
      fails_after p P W s fault h (p ▸ q) (P ⨟ Q) (W ⨟ V) [] s refl
      (begins_first P Q sample_q) (begins_first W V (λ x. begins_as (Q x) (V x) (stuck_q x).within [] (sample_q x))) (λ w m k. rw (h.same w m k))
  then_broke s fault begun (After r e k) =
      let f = exact_p.reads s r.0 r.1 begun e in
      let h = (stuck_q r.0).fails r.1 fault (between r.0 r.1.left f.stops) k in
      fails_after (q r.0) (Q r.0) (V r.0) r.1 fault h (p ▸ q) (P ⨟ Q) (W ⨟ V) f.tokens s f.taken
      (begins_second P Q f.tokens r.0 f.notes f.said) (begins_second W V f.tokens r.0 f.notes (stuck_p.within f.tokens r.0 f.notes f.said))
      (λ w m n.
      let a = exact_p.again f.tokens r.0 f.notes (h.front ++ w) m f.said
      (by_next r.0 (h.front ++ h.left) (h.front ++ w) (next_append h.front h.left w (sym n)) (subst (stop_p r.0) h.whole f.stops)) in
      rw (append_assoc f.tokens h.front w, a, h.same w (m ++ f.notes) n))

  pub stuck_then_at : Stuck limit start (p ▸ q) (P ⨟ Q) (W ⨟ V)
  stuck_then_at = record {
    fails = λ s fault begun e. then_broke s fault begun (broke (p s) (λ r. q r.0 r.1) fault e);
    within = then_within P W Q V stuck_p.within (λ x. (stuck_q x).within);
  }

-- The same if anything may come after the first.
pub stuck_then : {limit : Limit} {X Y : Type 0} {W : Rule X} {V : X → Rule Y} (p : Parse X) (q : X → Parse Y) (P : Rule X) (Q : X → Rule Y) → Exact p P Always
    → Stuck limit Any p P W → ((x : X) → Stuck limit Any (q x) (Q x) (V x)) → ((x : X) → Sample (Q x)) → Stuck limit Any (p ▸ q) (P ⨟ Q) (W ⨟ V)
stuck_then p q P Q exact_p stuck_p stuck_q sample_q =
    stuck_then_at Any p q P Q Always (λ x. Any) exact_p stuck_p stuck_q (λ x next a. tt) (λ x a b h k. tt) sample_q

-- A parser whose mark is not next fails as its other part does.
passed_over : {limit : Limit} {X : Type 0} (mark : Mark) (q : TokenPlace → Parse X) (r : Parse X) (R U P W : Rule X) (ts : List Token) (m : List ℕ) → accepted mark ts ≡ None
    → ((front : List Token) → Begins R front → Begins P front) → ((front : List Token) → Begins U front → Begins W front) → (fault : ParseFault)
    → Fails limit r R U (progress ts m) fault → Fails limit (either mark q r) P W (progress ts m) fault
passed_over mark q r R U P W ts m h to wide_to fault f =
    fails_after r R U (progress ts m) fault f (either mark q r) P W [] (progress ts m) refl to wide_to
    (λ w n k. rw (found_by_next (marked mark) (f.front ++ w) (f.front ++ f.left) (next_append f.front w f.left k) ∙ ap (accepted mark) (sym f.whole) ∙ h, f.same w n k))

module _ {limit : Limit} {X : Type 0} {V : TokenPlace → Rule X} {U : Rule X} (start : List Token → Type 0) (mark : Mark) (q : TokenPlace → Parse X) (r : Parse X) (Q : TokenPlace → Rule X) (R : Rule X)
    (stuck_q : (place : TokenPlace) → Stuck limit Any (q place) (Q place) (V place)) (stuck_r : Stuck limit start r R U) where
  either_stuck : (ts : List Token) (m : List ℕ) → start ts → (o : Option TokenPlace) → accepted mark ts ≡ o → (fault : ParseFault)
      → option_map_or (λ place. q place (after_token (progress ts m))) o (r (progress ts m)) ≡ Err fault
      → Fails limit (either mark q r) ((TheMark mark ⨟ Q) or R) ((TheMark mark ⨟ V) or U) (progress ts m) fault
  either_stuck ts m begun None h fault e =
      passed_over mark q r R U _ _ ts m h (begins_right (TheMark mark ⨟ Q) R) (begins_right (TheMark mark ⨟ V) U) fault (stuck_r.fails (progress ts m) fault begun e)
  either_stuck [] m begun (Some place) h fault e = absurd (cc)
  either_stuck (u ∷ ts) m begun (Some place) h fault e =
      let f = (stuck_q place).fails (progress ts m) fault tt e in
      fails_after (q place) (Q place) (V place) (progress ts m) fault f (either mark q r) ((TheMark mark ⨟ Q) or R) ((TheMark mark ⨟ V) or U) (u ∷ []) (progress (u ∷ ts) m) refl
      (begins_marked mark Q R u place h) (begins_marked mark V U u place h) (λ w n k. rw (h, f.same w n k))

  pub stuck_either : Stuck limit start (either mark q r) ((TheMark mark ⨟ Q) or R) ((TheMark mark ⨟ V) or U)
  stuck_either = record {
    fails = λ s fault begun e. either_stuck s.left s.notes begun (accepted mark s.left) refl fault e;
    within = marked_within mark Q V R U (λ place. (stuck_q place).within) stuck_r.within;
  }

place_is : (b : Bool) (a c : TokenPlace) → cond b (Some a) None ≡ Some c → a ≡ c
place_is true a c e = cc
place_is false a c e = absurd (cc)

module _ {limit : Limit} {X : Type 0} {V : TokenPlace → Rule X} {U : Rule X} (mark : Mark) (q : TokenPlace → Parse X) (r : Parse X) (Q : TokenPlace → Rule X) (R : Rule X)
    (deep : (place : TokenPlace) (s : Progress) → q place s ≡ Err (Nesting place)) (stuck_r : Stuck limit Any r R U) (sample_r : Sample R)
    (within : (place : TokenPlace) → Within (Q place) (V place)) (helped : OfDepth limit → (place : TokenPlace) → Sample (V place)) where
  deep_stuck : (ts : List Token) (m : List ℕ) (o : Option TokenPlace) → accepted mark ts ≡ o → (fault : ParseFault)
      → option_map_or (λ place. q place (after_token (progress ts m))) o (r (progress ts m)) ≡ Err fault
      → Fails limit (either mark q r) ((TheMark mark ⨟ Q) or R) ((TheMark mark ⨟ V) or U) (progress ts m) fault
  deep_stuck ts m None h fault e =
      passed_over mark q r R U _ _ ts m h (begins_right (TheMark mark ⨟ Q) R) (begins_right (TheMark mark ⨟ V) U) fault (stuck_r.fails (progress ts m) fault tt e)
  deep_stuck [] m (Some place) h fault e = absurd (cc)
  deep_stuck (u ∷ ts) m (Some place) h fault e =
      fails_as (either mark q r) ((TheMark mark ⨟ Q) or R) ((TheMark mark ⨟ V) or U) (progress (u ∷ ts) m) (Nesting place) fault (sym (deep place (progress ts m)) ∙ e)
      (fails_here (either mark q r) ((TheMark mark ⨟ Q) or R) ((TheMark mark ⨟ V) or U) (u ∷ ts) m (Nesting place)
      (begins_right (TheMark mark ⨟ Q) R [] sample_r)
      (λ w n k. rw (found_by_next (marked mark) w (u ∷ ts) k ∙ h, deep place (after_token (progress w n))))
      (λ k. record { token = u; next = refl; begun = begins_marked mark V U u place h [] (helped k place) })
      (inr (inr (ap (λ (p : TokenPlace). Nesting p) (sym (place_is _ (place_of u) place h))))))

  -- Nothing may be open after a mark.
  pub stuck_deep : Stuck limit Any (either mark q r) ((TheMark mark ⨟ Q) or R) ((TheMark mark ⨟ V) or U)
  stuck_deep = record {
    fails = λ s fault a e. deep_stuck s.left s.notes (accepted mark s.left) refl fault e;
    within = marked_within mark Q V R U within stuck_r.within;
  }

module _ {limit : Limit} {X : Type 0} {V : TokenPlace → Rule X} {U : Rule X} (mark : Mark) (q : TokenPlace → Parse X) (r : Parse (Option X)) (Q : TokenPlace → Rule X) (R : Rule X)
    (stuck_q : (place : TokenPlace) → Stuck limit Any (q place) (Q place) (V place)) (stuck_r : Stuck limit Any r (Optional R) (Optional U)) where
  abbrev Narrow : Rule (Option X)
  Narrow = Optional ((TheMark mark ⨟ Q) or R)

  abbrev Wider : Rule (Option X)
  Wider = Optional ((TheMark mark ⨟ V) or U)

  some_stuck : (u : Token) (ts : List Token) (m : List ℕ) (place : TokenPlace) → marked mark u ≡ Some place → (fault : ParseFault)
      → Broke {B = Option X × Progress} (q place (progress ts m)) (λ r. Ok (Some r.0, r.1)) fault → Fails limit (begins mark q r) Narrow Wider (progress (u ∷ ts) m) fault
  some_stuck u ts m place h fault (After a e k) = absurd (cc)
  some_stuck u ts m place h fault (Before e) =
      let f = (stuck_q place).fails (progress ts m) fault tt e in
      fails_after (q place) (Q place) (V place) (progress ts m) fault f (begins mark q r) Narrow Wider (u ∷ []) (progress (u ∷ ts) m) refl
      (λ front b. begins_some ((TheMark mark ⨟ Q) or R) (u ∷ front) (begins_marked mark Q R u place h front b))
      (λ front b. begins_some ((TheMark mark ⨟ V) or U) (u ∷ front) (begins_marked mark V U u place h front b)) (λ w n k. rw (h, f.same w n k))

  begins_stuck : (ts : List Token) (m : List ℕ) (c : Option TokenPlace) → accepted mark ts ≡ c → (fault : ParseFault)
      → option_map_or (λ place. (q place ▸ λ x. pure (Some x)) (after_token (progress ts m))) c (r (progress ts m)) ≡ Err fault → Fails limit (begins mark q r) Narrow Wider (progress ts m) fault
  begins_stuck ts m None h fault e =
      passed_over mark (λ place. q place ▸ λ x. pure (Some x)) r (Optional R) (Optional U) Narrow Wider ts m h
      (begins_as (Optional R) Narrow (optional_or (TheMark mark ⨟ Q) R)) (begins_as (Optional U) Wider (optional_or (TheMark mark ⨟ V) U)) fault (stuck_r.fails (progress ts m) fault tt e)
  begins_stuck [] m (Some place) h fault e = absurd (cc)
  begins_stuck (u ∷ ts) m (Some place) h fault e = some_stuck u ts m place h fault (broke (q place (progress ts m)) (λ r. Ok (Some r.0, r.1)) fault e)

  pub stuck_begins : Stuck limit Any (begins mark q r) (Optional ((TheMark mark ⨟ Q) or R)) (Optional ((TheMark mark ⨟ V) or U))
  stuck_begins = record {
    fails = λ s fault a e. begins_stuck s.left s.notes (accepted mark s.left) refl fault e;
    within = optional_within ((TheMark mark ⨟ Q) or R) ((TheMark mark ⨟ V) or U)
        (marked_within mark Q V R U (λ place. (stuck_q place).within) (some_within R U stuck_r.within));
  }

pub stuck_no_more : {limit : Limit} {X : Type 0} → Stuck limit Any (no_more {X = X}) (Optional Never) (Optional Never)
stuck_no_more = record { fails = λ s fault a e. absurd (cc); within = same_within (Optional Never) }

-- The same tokens by other rules.
pub stuck_as : {limit : Limit} {X : Type 0} (start : List Token → Type 0) (read : Parse X) (P W Q V : Rule X) → Within P Q → Within W V → Within Q V
    → Stuck limit start read P W → Stuck limit start read Q V
stuck_as start read P W Q V to wide_to within stuck = record {
  fails = λ s fault begun e.
      let f = stuck.fails s fault begun e in
      fails_after read P W s fault f read Q V [] s refl (begins_as P Q to) (begins_as W V wide_to) f.same;
  within = within;
}

no_front : (a b : List Token) → a ++ b ≡ [] → a ≡ []
no_front [] b h = refl
no_front (t ∷ a) b h = absurd (cc)

-- A beginning by a rule or by no token is one by the rule, if the rule has something.
required_can : {X : Type 0} (P : Rule X) → Sample P → (front tail : List Token) (o : Option X) (ns : List ℕ) → Optional P (front ++ tail) o ns → Begins P front
required_can P sample front tail None ns h = subst (Begins P) (sym (no_front front tail h.0)) sample
required_can P sample front tail (Some x) ns h = record { tail = tail; x = x; notes = ns; said = h }

begins_required : {X : Type 0} (P : Rule X) → Sample P → (front : List Token) → Begins (Optional P) front → Begins P front
begins_required P sample front b = required_can P sample front b.tail b.x b.notes b.said

module _ {limit : Limit} {X : Type 0} {W : Rule X} (p : Parse (Option X)) (P : Rule X) (none some : List Token → Type 0) (exact_p : Exact p (Optional P) (Until none some))
    (stuck_p : Stuck limit Any p (Optional P) (Optional W)) (by_next : ByNext none) (sample : Sample P) where
  none_stuck : (s : Progress) (o : Option X) (u : Progress) → p s ≡ Ok (o, u) → (fault : ParseFault) → option_map_or pure o unexpected u ≡ Err fault → Fails limit (required p) P W s fault
  none_stuck s (Some x) u e fault k = absurd (cc)
  none_stuck s None u e fault k =
      let f = exact_p.reads s None u tt e in
      let same : s.left ≡ u.left = f.taken ∙ ap (λ (l : List Token). l ++ u.left) f.said.0 in
      fails_as (required p) P W s (Unexpected (place_of_first u.left)) fault k
      (fails_here (required p) P W s.left s.notes (Unexpected (place_of_first u.left)) sample
      (λ w n h. rw (exact_p.again [] None [] w n (refl, refl) (by_next u.left w (ap next_token (sym same) ∙ sym h) f.stops), place_by_next w u.left (h ∙ ap next_token same)))
      (λ k. absurd k) (inl (ap (λ (l : List Token). Unexpected (place_of_first l)) (sym same))))

  required_broke : (s : Progress) (fault : ParseFault) → Broke (p s) (λ r. option_map_or pure r.0 unexpected r.1) fault → Fails limit (required p) P W s fault
  required_broke s fault (After r e k) = none_stuck s r.0 r.1 e fault k
  required_broke s fault (Before e) =
      let f = stuck_p.fails s fault tt e in
      fails_after p (Optional P) (Optional W) s fault f (required p) P W [] s refl (begins_required P sample) (begins_required W (begins_as P W (some_within P W stuck_p.within) [] sample))
      (λ w n k. rw (f.same w n k))

  pub stuck_required : Stuck limit Any (required p) P W
  stuck_required = record { fails = λ s fault a e. required_broke s fault (broke (p s) (λ r. option_map_or pure r.0 unexpected r.1) fault e); within = some_within P W stuck_p.within }

-- What is made of a thing that may be missing.
option_can : {X Y : Type 0} (f : X → Y) (P : Rule X) (ts : List Token) (o : Option X) (ns : List ℕ) → Optional P ts o ns → Optional (P ⨟ λ x. GivesValue (f x)) ts (option_map f o) ns
option_can f P ts None ns h = h
option_can f P ts (Some x) ns h = gives_made x h refl

begins_option : {X Y : Type 0} (f : X → Y) (P : Rule X) (front : List Token) → Begins (Optional P) front → Begins (Optional (P ⨟ λ x. GivesValue (f x))) front
begins_option f P front b = record { tail = b.tail; x = option_map f b.x; notes = b.notes; said = option_can f P (front ++ b.tail) b.x b.notes b.said }

module _ {limit : Limit} {X Y : Type 0} {W : Rule X} (p : Parse (Option X)) (f : X → Y) (P : Rule X) (stuck_p : Stuck limit Any p (Optional P) (Optional W)) where
  option_broke : (s : Progress) (fault : ParseFault) → Broke {B = Option Y × Progress} (p s) (λ r. Ok (option_map f r.0, r.1)) fault
      → Fails limit (p ▸ λ o. pure (option_map f o)) (Optional (P ⨟ λ x. GivesValue (f x))) (Optional (W ⨟ λ x. GivesValue (f x))) s fault
  option_broke s fault (After a e k) = absurd (cc)
  option_broke s fault (Before e) =
      let h = stuck_p.fails s fault tt e in
      fails_after p (Optional P) (Optional W) s fault h (p ▸ λ o. pure (option_map f o)) (Optional (P ⨟ λ x. GivesValue (f x))) (Optional (W ⨟ λ x. GivesValue (f x))) [] s refl
      (begins_option f P) (begins_option f W) (λ w n k. rw (h.same w n k))

  pub stuck_option : Stuck limit Any (p ▸ λ o. pure (option_map f o)) (Optional (P ⨟ λ x. GivesValue (f x))) (Optional (W ⨟ λ x. GivesValue (f x)))
  stuck_option = record {
    fails = λ s fault a e. option_broke s fault (broke (p s) (λ r. Ok (option_map f r.0, r.1)) fault e);
    within = optional_within (P ⨟ λ x. GivesValue (f x)) (W ⨟ λ x. GivesValue (f x))
        (then_within P W (λ x. GivesValue (f x)) (λ x. GivesValue (f x)) (some_within P W stuck_p.within) (λ x. same_within (GivesValue (f x))));
  }

module _ {limit : Limit} {X : Type 0} {W : Rule (X × Bool)} (line : ℕ) (p : Parse (X × Bool)) (P : Rule (X × Bool)) (stuck_p : Stuck limit Any p P W) where
  note_broke : (s : Progress) (fault : ParseFault) → Broke {B = X × Progress} (p s) (λ r. Ok (r.0.0, reading.noted (length s.notes) line r.0.1 r.1)) fault
      → Fails limit (reading.with_note line p) (Noted line P) (Noted line W) s fault
  note_broke s fault (After a e k) = absurd (cc)
  note_broke s fault (Before e) =
      let h = stuck_p.fails s fault tt e in
      fails_after p P W s fault h (reading.with_note line p) (Noted line P) (Noted line W) [] s refl (begins_noted line P) (begins_noted line W) (λ w n k. rw (h.same w n k))

  pub stuck_noted : Stuck limit Any (reading.with_note line p) (Noted line P) (Noted line W)
  stuck_noted = record { fails = λ s fault a e. note_broke s fault (broke (p s) (λ r. Ok (r.0.0, reading.noted (length s.notes) line r.0.1 r.1)) fault e); within = noted_within line P W stuck_p.within }

-- A beginning of one part begins a repetition.
many_can : {A X : Type 0} (P : Rule X) (add : A → X → A) (a : A) (front tail : List Token) (o : Option X) (ns : List ℕ) → Optional P (front ++ tail) o ns → Begins (Many P add a) front
many_can P add a front tail None ns h = record { tail = tail; x = a; notes = []; said = subst (λ (l : List Token). Many P add a l a []) (sym h.0) Enough }
many_can P add a front tail (Some x) ns h =
    record { tail = tail; x = add a x; notes = ns ++ []; said = subst (λ (l : List Token). Many P add a l (add a x) (ns ++ [])) (append-nil (front ++ tail)) (More h Enough) }

begins_many : {A X : Type 0} (P : Rule X) (add : A → X → A) (a : A) (front : List Token) → Begins (Optional P) front → Begins (Many P add a) front
begins_many P add a front b = many_can P add a front b.tail b.x b.notes b.said

begins_more : {A X : Type 0} (P : Rule X) (add : A → X → A) (a : A) (before : List Token) (x : X) (ns : List ℕ) → P before x ns → (front : List Token) → Begins (Many P add (add a x)) front
    → Begins (Many P add a) (before ++ front)
begins_more P add a before x ns h front b =
    record { tail = b.tail; x = b.x; notes = ns ++ b.notes; said = subst (λ (l : List Token). Many P add a l b.x (ns ++ b.notes)) (sym (append_assoc before front b.tail)) (More h b.said) }

module _ {limit : Limit} {A X : Type 0} {W : Rule X} (part : Parse (Option X)) (add : A → X → A) (P : Rule X) (none some : List Token → Type 0)
    (exact_part : Exact part (Optional P) (Until none some)) (stuck_part : Stuck limit Any part (Optional P) (Optional W)) (by_next : ByNext some)
    (consumes : (x : X) (p : List Token) (ns : List ℕ) → P p x ns → 1 ≤ length p) (ended : none []) where
  record Halts (a : A) (ts : List Token) (fault : ParseFault) : Type 0 where
    front : List Token
    left : List Token
    whole : ts ≡ front ++ left
    can : Begins (Many P add a) front
    helped : IsOf limit fault → Goes (Many W add a) front left
    same : (k : ℕ) (w : List Token) (m : List ℕ) (c : A) → length (front ++ w) ≤ k → next_token w ≡ next_token left → many_from part add k c (progress (front ++ w) m) ≡ Err fault
    place : IsAt fault (place_of_first left)

  same_at : (k : ℕ) (ts : List Token) (m : List ℕ) (c : A) (fault : ParseFault) → length ts ≤ k → part (progress ts m) ≡ Err fault → many_from part add k c (progress ts m) ≡ Err fault
  same_at zero [] m c fault less e = let g = sym (exact_part.again [] None [] [] m (refl, refl) ended) ∙ e in absurd (cc)
  same_at zero (t ∷ ts) m c fault less e = absurd (omega (arith, less))
  same_at (suc k) ts m c fault less e = rw e

  same_more : (k : ℕ) (front back : List Token) (x : X) (ns m : List ℕ) (c : A) (fault : ParseFault) → P front x ns → some back → length (front ++ back) ≤ k
      → ((k : ℕ) (m : List ℕ) (c : A) → length back ≤ k → many_from part add k c (progress back m) ≡ Err fault) → many_from part add k c (progress (front ++ back) m) ≡ Err fault
  same_more zero front back x ns m c fault h s less more = let one : 1 ≤ length front = consumes x front ns h in absurd (omega (arith, length-append front back))
  same_more (suc k) front back x ns m c fault h s less more =
      let one : 1 ≤ length front = consumes x front ns h in
      let e = exact_part.again front (Some x) ns back m h s in
      let l : length back ≤ k = omega (arith, length-append front back) in
      rw (e, more k (m ++ ns) (add c x) l)

  halts_more : (n : ℕ) (a : A) (ts : List Token) (m : List ℕ) (o : Option X) (u : Progress) (fault : ParseFault) → length ts ≤ suc n → Found (Optional P) (Until none some) (progress ts m) o u
      → ((a : A) → length u.left ≤ n → many_from part add n a u ≡ Err fault → Halts a u.left fault)
      → option_map_or (λ x. many_from part add n (add a x) u) o (Ok (a, u)) ≡ Err fault → Halts a ts fault
  halts_more n a ts m None u fault less f more e = absurd (cc)
  halts_more n a ts m (Some x) u fault less f more e =
      let one : 1 ≤ length f.tokens = consumes x f.tokens f.notes f.said in
      let l : length u.left ≤ n = omega (arith, length-append f.tokens u.left, ap length f.taken) in
      let g = more (add a x) l e in
      record {
        front = f.tokens ++ g.front;
        left = g.left;
        whole = f.taken ∙ ap (λ l. f.tokens ++ l) g.whole ∙ sym (append_assoc f.tokens g.front g.left);
        place = g.place;
        can = begins_more P add a f.tokens x f.notes f.said g.front g.can;
        helped = λ k. goes (Many W add (add a x)) (Many W add a) f.tokens (begins_more W add a f.tokens x f.notes (stuck_part.within f.tokens (Some x) f.notes f.said)) g.front g.left (g.helped k);
        same = λ k w m c less h.
            subst (λ (l : List Token). many_from part add k c (progress l m) ≡ Err fault) (sym (append_assoc f.tokens g.front w))
            (same_more k f.tokens (g.front ++ w) x f.notes m c fault f.said
            (by_next (g.front ++ g.left) (g.front ++ w) (next_append g.front g.left w (sym h)) (subst some g.whole f.stops))
            (subst (λ (l : List Token). length l ≤ k) (append_assoc f.tokens g.front w) less)
            (λ k m c less. g.same k w m c less h));
      }

  halts_by : (n : ℕ) (a : A) (ts : List Token) (m : List ℕ) (fault : ParseFault) → length ts ≤ suc n
      → Broke {B = A × Progress} (part (progress ts m)) (λ r. option_map_or (λ x. many_from part add n (add a x) r.1) r.0 (Ok (a, r.1))) fault
      → ((a : A) (u : Progress) → length u.left ≤ n → many_from part add n a u ≡ Err fault → Halts a u.left fault) → Halts a ts fault
  halts_by n a ts m fault less (After r e k) more = halts_more n a ts m r.0 r.1 fault less (exact_part.reads (progress ts m) r.0 r.1 tt e) (λ a l e. more a r.1 l e) k
  halts_by n a ts m fault less (Before e) more =
      let f = stuck_part.fails (progress ts m) fault tt e in
      record {
        front = f.front;
        left = f.left;
        whole = f.whole;
        can = begins_many P add a f.front f.can;
        helped = λ k. goes (Optional W) (Many W add a) [] (begins_many W add a) f.front f.left (f.helped k);
        place = f.place;
        same = λ k w m c less h. same_at k (f.front ++ w) m c fault less (f.same w m h);
      }

  many_halts : (n : ℕ) (a : A) (ts : List Token) (m : List ℕ) (fault : ParseFault) → length ts ≤ n → many_from part add n a (progress ts m) ≡ Err fault → Halts a ts fault
  many_halts zero a ts m fault less e = absurd (cc)
  many_halts (suc n) a ts m fault less e =
      halts_by n a ts m fault less (broke (part (progress ts m)) (λ r. option_map_or (λ x. many_from part add n (add a x) r.1) r.0 (Ok (a, r.1))) fault e)
      (λ a u l e. many_halts n a u.left u.notes fault l e)

  pub stuck_many : (a : A) → Stuck limit some (many part add a) (Many P add a) (Many W add a)
  stuck_many a = record {
    within = λ p b ns h. many_within P W add (some_within P W stuck_part.within) h;
    fails = λ s fault begun e.
        let h = many_halts (length s.left) a s.left s.notes fault (omega arith) e in
        record {
          front = h.front;
          left = h.left;
          whole = h.whole;
          can = h.can;
          helped = h.helped;
          place = h.place;
          same = λ w m k. h.same (length (h.front ++ w)) w m a (omega arith) k;
        };
  }
