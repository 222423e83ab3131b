-- When a parser reads a rule. Combinators of parsers that read rules read the combined rules.
use Rattle.std.proofs.Common.{◌≡◌, Bool, true, false, length-append, inl, inr, ℕ, zero, suc}
use Rattle.std.proofs.Common.{◌≤◌, refl, sym, ap, subst, ◌∙◌, Option, Some, None, Ok, Err}
use Rattle.std.proofs.Common.{List, [], ◌∷◌, ◌++◌, length, append_assoc, append-nil, arith}
use Rattle.std.specs.Prelude.{Result, insert, if◌then◌else◌}
use Rattle.std.specs.Option.{option_map_or}
use Rattle.ifs_base.specs.Results.{◌>>=◌}
use Rattle.ifs_lex.specs.declared.token.Token.{Token}
use Rattle.ifs_lex.specs.declared.token.TokenPlace.{TokenPlace}
use Rattle.ifs_parse.specs.declared.fault.ParseFault.{ParseFault}
use Rattle.ifs_parse.specs.declared.mark.Mark.{Mark}
use Rattle.ifs_parse.specs.inner.Reading.{with_note, noted}
use Rattle.ifs_parse.specs.inner.Combined.{Progress, progress, Parse, after_token, ◌▸◌, pure, found, accepted}
use Rattle.ifs_parse.specs.inner.Combined.{one_token}
use Rattle.ifs_parse.specs.inner.Combined.{either, expected, unexpected, begins, no_more, required, many, many_from}
use Rattle.ifs_parse.specs.Words.{marked}
use Rattle.ifs_parse.specs.Rules.{Rule, GivesValue, OneToken, TheMark, ◌⨟◌, ◌or◌, Never, Optional, Noted, Many}
use Rattle.ifs_parse.specs.Rules.{Enough, More}
use Rattle.ifs_parse.proofs.RuleLaws.{Within, optional_within, in_turn}

-- What may be next after a value.
abbrev pub Stop : Type 0 → Type 1
Stop X = X → List Token → Type 0

-- Anything may be next.
abbrev pub Always : {X : Type 0} → Stop X
Always x next = Unit {0}

abbrev pub Any : List Token → Type 0
Any next = Unit {0}

-- The parser took tokens that the rule has with this value.
pub record Found {X : Type 0} (rule : Rule X) (stop : Stop X) (s : Progress) (x : X) (t : Progress) : Type 0 where
  pub tokens : List Token
  pub notes : List ℕ
  pub taken : s.left ≡ tokens ++ t.left
  pub noted : t.notes ≡ s.notes ++ notes
  pub said : rule tokens x notes
  pub stops : stop x t.left

-- A parser reads a rule: it reads what the rule has, and from a start it reads nothing else.
pub record Reads {X : Type 0} (start : List Token → Type 0) (read : Parse X) (rule : Rule X) (stop : Stop X) : Type 0 where
  pub again : (p : List Token) (x : X) (ns : List ℕ) (q : List Token) (m : List ℕ) → rule p x ns → stop x q → read (progress (p ++ q) m) ≡ Ok (x, progress q (m ++ ns))
  pub reads : (s : Progress) (x : X) (t : Progress) → start s.left → read s ≡ Ok (x, t) → Found rule stop s x t

-- The same from any start.
abbrev pub Exact : {X : Type 0} → Parse X → Rule X → Stop X → Type 0
Exact read rule stop = Reads Any read rule stop

-- A sequence that gives a value had a value to go on with.
pub record Went {A B : Type 0} (r : Result A ParseFault) (f : A → Result B ParseFault) (b : B) : Type 0 where
  pub on : A
  pub was : r ≡ Ok on
  pub then_is : f on ≡ Ok b

pub went : {A B : Type 0} (r : Result A ParseFault) (f : A → Result B ParseFault) (b : B) → (r >>= f) ≡ Ok b → Went r f b
went (Ok a) f b e = record { on = a; was = refl; then_is = e }
went (Err fault) f b e = absurd (cc)

-- The value of an `Ok`.
abbrev pub inside : {A : Type 0} → A → Result A ParseFault → A
inside other (Ok a) = a
inside other (Err fault) = other

abbrev good : {A : Type 0} → A → Result A ParseFault
good a = Ok a

-- The same tokens and notes by another rule.
pub found_as : {X Y : Type 0} {P : Rule X} {Q : Rule Y} {stop : Stop X} {after : Stop Y} {s t : Progress} {x : X} {y : Y} (f : Found P stop s x t)
    → Q f.tokens y f.notes → after y t.left → Found Q after s y t
found_as f said stops = record { tokens = f.tokens; notes = f.notes; taken = f.taken; noted = f.noted; said = said; stops = stops }

-- What was found of a value was found of an equal one.
pub told : {X : Type 0} (rule : Rule X) (stop : Stop X) (s : Progress) (a b : X × Progress) → good a ≡ good b → Found rule stop s a.0 a.1 → Found rule stop s b.0 b.1
told rule stop s a b e h = subst (λ (p : _ × Progress). Found rule stop s p.0 p.1) (ap (inside a) e) h

-- A value and no token.
pub exact_pure : {X : Type 0} (v : X) → Exact (pure v) (GivesValue v) Always
exact_pure v = record {
  again = λ p x ns q m h stop. rw (h.none, h.is_value, h.unnoted, append-nil m);
  reads = λ s x t a e. told (GivesValue v) Always s (v, s) (x, t) e (record { tokens = []; notes = []; taken = refl; noted = sym (append-nil s.notes); said = record { none = refl; is_value = refl; unnoted = refl }; stops = tt });
}

module _ {X : Type 0} (what : Token → Option X) where
  token_again : (t : Token) (x : X) (q : List Token) (m : List ℕ) → what t ≡ Some x → one_token what (progress (t ∷ q) m) ≡ Ok (x, progress q (m ++ []))
  token_again t x q m h = rw (h, append-nil m)

  token_found : (ts : List Token) (m : List ℕ) (o : Option X) → found what ts ≡ o → (x : X) (t : Progress)
      → option_map_or (λ x. Ok (x, after_token (progress ts m))) o (unexpected (progress ts m)) ≡ Ok (x, t) → Found (OneToken what) Always (progress ts m) x t
  token_found ts m None h x t e = absurd (cc)
  token_found [] m (Some y) h x t e = absurd (cc)
  token_found (u ∷ ts) m (Some y) h x t e =
      told (OneToken what) Always (progress (u ∷ ts) m) (y, progress ts m) (x, t) e
      (record { tokens = u ∷ []; notes = []; taken = refl; noted = sym (append-nil m); said = record { token = u; only = refl; stands = h; unnoted = refl }; stops = tt })

  -- One token.
  pub exact_token : Exact (one_token what) (OneToken what) Always
  exact_token = record {
    again = λ p x ns q m h stop. rw (h.only, h.unnoted) (token_again h.token x q m h.stands);
    reads = λ s x t a e. token_found s.left s.notes (found what s.left) refl x t e;
  }

-- A mark.
pub exact_mark : (mark : Mark) → Exact (expected mark) (TheMark mark) Always
exact_mark mark = exact_token (marked mark)

module _ {X Y : Type 0} (start : List Token → Type 0) (p : Parse X) (q : X → Parse Y) (P : Rule X) (Q : X → Rule Y)
    (stop_p : Stop X) (start_q : X → List Token → Type 0) (stop_q : X → Stop Y) (stop : Stop Y)
    (exact_p : Reads start p P stop_p) (exact_q : (x : X) → Reads (start_q x) (q x) (Q x) (stop_q x))
    (between : (x : X) (next : List Token) → stop_p x next → start_q x next)
    (before : (x : X) (y : Y) (back : List Token) (ns : List ℕ) (next : List Token) → Q x back y ns → stop y next → stop_p x (back ++ next) × stop_q x y next)
    (after : (x : X) (y : Y) (back : List Token) (ns : List ℕ) (next : List Token) → Q x back y ns → stop_p x (back ++ next) → stop_q x y next → stop y next) where
  then_again : (ts : List Token) (y : Y) (ns : List ℕ) (next : List Token) (m : List ℕ) → (P ⨟ Q) ts y ns → stop y next → (p ▸ q) (progress (ts ++ next) m) ≡ Ok (y, progress next (m ++ ns))
  then_again ts y ns next m h stops =
      let both = before h.x y h.back h.after next h.second stops in
      let a = exact_p.again h.front h.x h.before (h.back ++ next) m h.first both.0 in
      let b = (exact_q h.x).again h.back y h.after next (m ++ h.before) h.second both.1 in
      rw (h.tokens_are, h.notes_are, append_assoc h.front h.back next, a, b, append_assoc m h.before h.after)

  then_reads : (s : Progress) (y : Y) (t : Progress) → start s.left → (p ▸ q) s ≡ Ok (y, t) → Found (P ⨟ Q) stop s y t
  then_reads s y t begun e =
      let w = went (p s) (λ r. q r.0 r.1) (y, t) e in
      let a = exact_p.reads s w.on.0 w.on.1 begun w.was in
      let b = (exact_q w.on.0).reads w.on.1 y t (between w.on.0 w.on.1.left a.stops) w.then_is in
      record {
        tokens = a.tokens ++ b.tokens;
        notes = a.notes ++ b.notes;
        taken = a.taken ∙ ap (λ ts. a.tokens ++ ts) b.taken ∙ sym (append_assoc a.tokens b.tokens t.left);
        noted = b.noted ∙ ap (λ ns. ns ++ b.notes) a.noted ∙ append_assoc s.notes a.notes b.notes;
        said = record { x = w.on.0; front = a.tokens; back = b.tokens; before = a.notes; after = b.notes; tokens_are = refl; notes_are = refl; first = a.said; second = b.said };
        stops = after w.on.0 y b.tokens b.notes t.left b.said (subst (stop_p w.on.0) b.taken a.stops) b.stops;
      }

  pub reads_then : Reads start (p ▸ q) (P ⨟ Q) stop
  reads_then = record { again = then_again; reads = then_reads }

-- One thing and then another, if anything may come after the first.
pub exact_then : {X Y : Type 0} (p : Parse X) (q : X → Parse Y) (P : Rule X) (Q : X → Rule Y) (stop : Stop Y)
    → Exact p P Always → ((x : X) → Exact (q x) (Q x) stop) → Exact (p ▸ q) (P ⨟ Q) stop
exact_then p q P Q stop exact_p exact_q =
    reads_then Any p q P Q Always (λ x. Any) (λ x. stop) stop exact_p exact_q (λ x next a. tt) (λ x y back ns next h s. (tt, s)) (λ x y back ns next h a s. s)

-- What is made of one thing.
pub exact_map : {X Y : Type 0} (p : Parse X) (f : X → Y) (P : Rule X) → Exact p P Always → Exact (p ▸ λ x. pure (f x)) (P ⨟ λ x. GivesValue (f x)) Always
exact_map p f P exact_p = exact_then p (λ x. pure (f x)) P (λ x. GivesValue (f x)) Always exact_p (λ x. exact_pure (f x))

-- A mark, and what was found after it.
found_marked : {X : Type 0} (mark : Mark) (Q : TokenPlace → Rule X) (stop : Stop X) (u : Token) (ts : List Token) (m : List ℕ) (place : TokenPlace) {x : X} {t : Progress} → marked mark u ≡ Some place
    → Found (Q place) stop (progress ts m) x t → Found (TheMark mark ⨟ Q) stop (progress (u ∷ ts) m) x t
found_marked mark Q stop u ts m place h a = record {
  tokens = u ∷ a.tokens;
  notes = a.notes;
  taken = ap (λ l. u ∷ l) a.taken;
  noted = a.noted;
  said = in_turn (u ∷ []) a.tokens [] a.notes place _ (record { token = u; only = refl; stands = h; unnoted = refl }) a.said;
  stops = a.stops;
}

module _ {X : Type 0} (start : List Token → Type 0) (mark : Mark) (q : TokenPlace → Parse X) (r : Parse X) (Q : TokenPlace → Rule X) (R : Rule X) (stop_q stop_r stop : Stop X)
    (exact_q : (place : TokenPlace) → Exact (q place) (Q place) stop_q) (exact_r : Exact r R stop_r)
    (q_before : (x : X) (next : List Token) → stop x next → stop_q x next)
    (q_after : (x : X) (next : List Token) → stop_q x next → stop x next)
    (r_before : (x : X) (p : List Token) (ns : List ℕ) (next : List Token) → R p x ns → stop x next → (accepted mark (p ++ next) ≡ None) × stop_r x next)
    (r_after : (x : X) (p : List Token) (ns : List ℕ) (next : List Token) → R p x ns → start (p ++ next) → accepted mark (p ++ next) ≡ None → stop_r x next → stop x next) where
  mark_again : (u : Token) (place : TokenPlace) (p : List Token) (x : X) (ns : List ℕ) (next : List Token) (m : List ℕ) → marked mark u ≡ Some place → Q place p x ns → stop x next
      → either mark q r (progress (u ∷ (p ++ next)) m) ≡ Ok (x, progress next (m ++ ns))
  mark_again u place p x ns next m is h stops =
      let a = (exact_q place).again p x ns next m h (q_before x next stops) in
      rw (is, a)

  either_again : (p : List Token) (x : X) (ns : List ℕ) (next : List Token) (m : List ℕ) → ((TheMark mark ⨟ Q) or R) p x ns → stop x next → either mark q r (progress (p ++ next) m) ≡ Ok (x, progress next (m ++ ns))
  either_again p x ns next m (inl h) stops =
      rw (h.tokens_are, h.notes_are, h.first.only, h.first.unnoted) (mark_again h.first.token h.x h.back x h.after next m h.first.stands h.second stops)
  either_again p x ns next m (inr h) stops =
      let a = r_before x p ns next h stops in
      rw (a.0, exact_r.again p x ns next m h a.1)

  either_found : (ts : List Token) (m : List ℕ) → start ts → (o : Option TokenPlace) → accepted mark ts ≡ o → (x : X) (t : Progress)
      → option_map_or (λ place. q place (after_token (progress ts m))) o (r (progress ts m)) ≡ Ok (x, t) → Found ((TheMark mark ⨟ Q) or R) stop (progress ts m) x t
  either_found ts m begun None h x t e =
      let a = exact_r.reads (progress ts m) x t tt e in
      found_as a (inr a.said) (r_after x a.tokens a.notes t.left a.said (subst start a.taken begun) (ap (accepted mark) (sym a.taken) ∙ h) a.stops)
  either_found [] m begun (Some place) h x t e = absurd (cc)
  either_found (u ∷ ts) m begun (Some place) h x t e =
      let a = found_marked mark Q stop_q u ts m place h ((exact_q place).reads (progress ts m) x t tt e) in
      found_as a (inl a.said) (q_after x t.left a.stops)

  -- A mark and what comes after it, or something else.
  pub reads_either : Reads start (either mark q r) ((TheMark mark ⨟ Q) or R) stop
  reads_either = record {
    again = either_again;
    reads = λ s x t begun e. either_found s.left s.notes begun (accepted mark s.left) refl x t e;
  }

-- The same if the rest begins with no such mark, and anything may follow.
pub exact_either : {X : Type 0} (mark : Mark) (q : TokenPlace → Parse X) (r : Parse X) (Q : TokenPlace → Rule X) (R : Rule X)
    → ((place : TokenPlace) → Exact (q place) (Q place) Always) → Exact r R Always
    → ((x : X) (p : List Token) (ns : List ℕ) (next : List Token) → R p x ns → accepted mark (p ++ next) ≡ None)
    → Exact (either mark q r) ((TheMark mark ⨟ Q) or R) Always
exact_either mark q r Q R exact_q exact_r apart =
    reads_either Any mark q r Q R Always Always Always exact_q exact_r (λ x next a. tt) (λ x next a. tt)
    (λ x p ns next h a. (apart x p ns next h, tt)) (λ x p ns next h begun a b. tt)

-- What may be next if nothing came, and if something came.
abbrev pub Until : {X : Type 0} → (List Token → Type 0) → (List Token → Type 0) → Stop (Option X)
Until none some None next = none next
Until none some (Some x) next = some next

-- Nothing.
no_more_again : {X : Type 0} (some : List Token → Type 0) (p : List Token) (o : Option X) (ns : List ℕ) (q : List Token) (m : List ℕ)
    → Optional {X = X} Never p o ns → Until {X = X} Any some o q → no_more {X = X} (progress (p ++ q) m) ≡ Ok (o, progress q (m ++ ns))
no_more_again some p None ns q m h stop = rw (h.0, h.1, append-nil m)
no_more_again some p (Some x) ns q m h stop = absurd h

pub exact_no_more : {X : Type 0} (some : List Token → Type 0) → Exact (no_more {X = X}) (Optional Never) (Until Any some)
exact_no_more some = record {
  again = no_more_again some;
  reads = λ s o t a e. told (Optional Never) (Until Any some) s (None, s) (o, t) e
      (record { tokens = []; notes = []; taken = refl; noted = sym (append-nil s.notes); said = (refl, refl); stops = tt });
}

-- The same tokens by another rule.
pub exact_as : {X : Type 0} (read : Parse X) (P Q : Rule X) (stop : Stop X) → Within P Q → Within Q P → Exact read P stop → Exact read Q stop
exact_as read P Q stop to back exact = record {
  again = λ p x ns q m h stops. exact.again p x ns q m (back p x ns h) stops;
  reads = λ s x t a e. let f = exact.reads s x t a e in found_as f (to f.tokens x f.notes f.said) f.stops;
}

pub exact_optional_as : {X : Type 0} (read : Parse (Option X)) (P Q : Rule X) (stop : Stop (Option X)) → Within P Q → Within Q P → Exact read (Optional P) stop → Exact read (Optional Q) stop
exact_optional_as read P Q stop to back exact = exact_as read (Optional P) (Optional Q) stop (optional_within P Q to) (optional_within Q P back) exact

module _ {X : Type 0} (mark : Mark) (q : TokenPlace → Parse X) (r : Parse (Option X)) (Q : TokenPlace → Rule X) (R : Rule X) (none some : List Token → Type 0)
    (exact_q : (place : TokenPlace) → Exact (q place) (Q place) (λ x. some)) (exact_r : Exact r (Optional R) (Until none some))
    (apart : (x : X) (p : List Token) (ns : List ℕ) (next : List Token) → R p x ns → accepted mark (p ++ next) ≡ None) where
  abbrev begun : List Token → Type 0
  begun next = (accepted mark next ≡ None) × none next

  some_again : (u : Token) (place : TokenPlace) (p : List Token) (x : X) (ns : List ℕ) (next : List Token) (m : List ℕ) → marked mark u ≡ Some place → Q place p x ns → some next
      → begins mark q r (progress (u ∷ (p ++ next)) m) ≡ Ok (Some x, progress next (m ++ ns))
  some_again u place p x ns next m is h stops =
      let a = (exact_q place).again p x ns next m h stops in
      rw (is, a)

  begins_again : (p : List Token) (o : Option X) (ns : List ℕ) (next : List Token) (m : List ℕ) → Optional ((TheMark mark ⨟ Q) or R) p o ns → Until begun some o next
      → begins mark q r (progress (p ++ next) m) ≡ Ok (o, progress next (m ++ ns))
  begins_again p None ns next m h stops =
      let a = exact_r.again p None ns next m h stops.1 in
      let e : accepted mark (p ++ next) ≡ None = ap (λ (l : List Token). accepted mark (l ++ next)) h.0 ∙ stops.0 in
      rw (e, a)
  begins_again p (Some x) ns next m (inl h) stops =
      rw (h.tokens_are, h.notes_are, h.first.only, h.first.unnoted) (some_again h.first.token h.x h.back x h.after next m h.first.stands h.second stops)
  begins_again p (Some x) ns next m (inr h) stops =
      rw (apart x p ns next h, exact_r.again p (Some x) ns next m h stops)

  rest_found : (s : Progress) (o : Option X) (t : Progress) → accepted mark s.left ≡ None → Found (Optional R) (Until none some) s o t → Found (Optional ((TheMark mark ⨟ Q) or R)) (Until begun some) s o t
  rest_found s None t h a = found_as a a.said (ap (accepted mark) (sym (a.taken ∙ ap (λ (l : List Token). l ++ t.left) a.said.0)) ∙ h, a.stops)
  rest_found s (Some x) t h a = found_as a (inr a.said) a.stops

  some_found : (u : Token) (ts : List Token) (m : List ℕ) (place : TokenPlace) (h : marked mark u ≡ Some place) (o : Option X) (t : Progress)
      → (q place ▸ λ x. pure (Some x)) (progress ts m) ≡ Ok (o, t) → Found (Optional ((TheMark mark ⨟ Q) or R)) (Until begun some) (progress (u ∷ ts) m) o t
  some_found u ts m place h o t e =
      let w = went (q place (progress ts m)) (λ r. Ok (Some r.0, r.1)) (o, t) e in
      let a = found_marked mark Q (λ x. some) u ts m place h ((exact_q place).reads (progress ts m) w.on.0 w.on.1 tt w.was) in
      told (Optional ((TheMark mark ⨟ Q) or R)) (Until begun some) (progress (u ∷ ts) m) (Some w.on.0, w.on.1) (o, t) w.then_is (found_as a (inl a.said) a.stops)

  begins_found : (ts : List Token) (m : List ℕ) (c : Option TokenPlace) → accepted mark ts ≡ c → (o : Option X) (t : Progress)
      → option_map_or (λ place. (q place ▸ λ x. pure (Some x)) (after_token (progress ts m))) c (r (progress ts m)) ≡ Ok (o, t)
      → Found (Optional ((TheMark mark ⨟ Q) or R)) (Until begun some) (progress ts m) o t
  begins_found ts m None h o t e = rest_found (progress ts m) o t h (exact_r.reads (progress ts m) o t tt e)
  begins_found [] m (Some place) h o t e = absurd (cc)
  begins_found (u ∷ ts) m (Some place) h o t e = some_found u ts m place h o t e

  -- A mark and what comes after it, or something else that may be missing.
  pub exact_begins : Exact (begins mark q r) (Optional ((TheMark mark ⨟ Q) or R)) (Until begun some)
  exact_begins = record {
    again = begins_again;
    reads = λ s o t a e. begins_found s.left s.notes (accepted mark s.left) refl o t e;
  }

module _ {X : Type 0} (p : Parse (Option X)) (P : Rule X) (none some : List Token → Type 0) (exact_p : Exact p (Optional P) (Until none some)) where
  required_found : (s : Progress) (o : Option X) (u : Progress) → Found (Optional P) (Until none some) s o u → (x : X) (t : Progress)
      → option_map_or pure o unexpected u ≡ Ok (x, t) → Found P (λ x. some) s x t
  required_found s None u a x t e = absurd (cc)
  required_found s (Some y) u a x t e =
      told P (λ x. some) s (y, u) (x, t) e (found_as a a.said a.stops)

  -- Something that must come.
  pub exact_required : Exact (required p) P (λ x. some)
  exact_required = record {
    again = λ ts x ns q m h stop. rw (exact_p.again ts (Some x) ns q m h stop);
    reads = λ s x t a e. let w = went (p s) (λ r. option_map_or pure r.0 unexpected r.1) (x, t) e in
        required_found s w.on.0 w.on.1 (exact_p.reads s w.on.0 w.on.1 tt w.was) x t w.then_is;
  }

-- A repetition begins with one of its parts, or with what comes after it.
pub many_next : {A X : Type 0} {add : A → X → A} (P : Rule X) (some : List Token → Type 0)
    → ((x : X) (p : List Token) (ns : List ℕ) (next : List Token) → P p x ns → some (p ++ next))
    → {a b : A} {p : List Token} {ns : List ℕ} (next : List Token) → Many P add a p b ns → some next → some (p ++ next)
many_next P some begins next Enough s = s
many_next P some begins next (More {x = x} {front = front} {back = back} {before = before} h rest) s =
    subst some (sym (append_assoc front back next)) (begins x front before (back ++ next) h)

module _ {A X : Type 0} (part : Parse (Option X)) (add : A → X → A) (P : Rule X) (none some : List Token → Type 0)
    (exact_part : Exact part (Optional P) (Until none some))
    (more_begins : (x : X) (p : List Token) (ns : List ℕ) (next : List Token) → P p x ns → some (p ++ next))
    (consumes : (x : X) (p : List Token) (ns : List ℕ) → P p x ns → 1 ≤ length p)
    (ended : none []) where
  many_again : (n : ℕ) {a b : A} {p : List Token} {ns : List ℕ} (next : List Token) (m : List ℕ) → Many P add a p b ns → length p ≤ n → none next → some next
      → many_from part add n a (progress (p ++ next) m) ≡ Ok (b, progress next (m ++ ns))
  many_again zero next m Enough less stop s = rw (append-nil m)
  many_again zero next m (More {x = x} {front = front} {back = back} {before = before} h rest) less stop s =
      let c : 1 ≤ length front = consumes x front before h in absurd (omega (arith, length-append front back))
  many_again (suc n) next m Enough less stop s =
      let e = exact_part.again [] None [] next m (refl, refl) stop in
      rw e
  many_again (suc n) next m (More {x = x} {front = front} {back = back} {before = before} {after = after} h rest) less stop s =
      let e = exact_part.again front (Some x) before (back ++ next) m h (many_next P some more_begins next rest s) in
      let c : 1 ≤ length front = consumes x front before h in
      let l : length back ≤ n = omega (arith, length-append front back) in
      rw (append_assoc front back next, e, many_again n next (m ++ before) rest l stop s, append_assoc m before after)

  abbrev Ends : Stop A
  Ends b next = none next × some next

  many_turn : (n : ℕ) (a : A) (s : Progress) (o : Option X) (u : Progress) (b : A) (t : Progress) → length s.left ≤ suc n → Found (Optional P) (Until none some) s o u → some s.left
      → ((a : A) (u : Progress) → length u.left ≤ n → some u.left → many_from part add n a u ≡ Ok (b, t) → Found (Many P add a) Ends u b t)
      → option_map_or (λ x. many_from part add n (add a x) u) o (Ok (a, u)) ≡ Ok (b, t) → Found (Many P add a) Ends s b t
  many_turn n a s None u b t less f begun more e =
      let same : s.left ≡ u.left = f.taken ∙ ap (λ (l : List Token). l ++ u.left) f.said.0 in
      told (Many P add a) Ends s (a, u) (b, t) e
      (record { tokens = []; notes = []; taken = same; noted = f.noted ∙ ap (λ (l : List ℕ). s.notes ++ l) f.said.1; said = Enough; stops = (f.stops, subst some same begun) })
  many_turn n a s (Some x) u b t less f begun more e =
      let c : 1 ≤ length f.tokens = consumes x f.tokens f.notes f.said in
      let l : length u.left ≤ n = omega (arith, length-append f.tokens u.left, ap length f.taken) in
      let g = more (add a x) u l f.stops e in
      record {
        tokens = f.tokens ++ g.tokens;
        notes = f.notes ++ g.notes;
        taken = f.taken ∙ ap (λ l. f.tokens ++ l) g.taken ∙ sym (append_assoc f.tokens g.tokens t.left);
        noted = g.noted ∙ ap (λ l. l ++ g.notes) f.noted ∙ append_assoc s.notes f.notes g.notes;
        said = More f.said g.said;
        stops = g.stops;
      }

  many_reads : (n : ℕ) (a : A) (ts : List Token) (m : List ℕ) (b : A) (t : Progress) → length ts ≤ n → some ts → many_from part add n a (progress ts m) ≡ Ok (b, t)
      → Found (Many P add a) Ends (progress ts m) b t
  many_reads zero a [] m b t less begun e =
      told (Many P add a) Ends (progress [] m) (a, progress [] m) (b, t) e
      (record { tokens = []; notes = []; taken = refl; noted = sym (append-nil m); said = Enough; stops = (ended, begun) })
  many_reads zero a (u ∷ ts) m b t less begun e = absurd (omega (arith, less))
  many_reads (suc n) a ts m b t less begun e =
      let w = went (part (progress ts m)) (λ r. option_map_or (λ x. many_from part add n (add a x) r.1) r.0 (Ok (a, r.1))) (b, t) e in
      many_turn n a (progress ts m) w.on.0 w.on.1 b t less (exact_part.reads (progress ts m) w.on.0 w.on.1 tt w.was) begun
      (λ a u l s e. many_reads n a u.left u.notes b t l s e) w.then_is

  -- A repetition.
  pub reads_many : (a : A) → Reads some (many part add a) (Many P add a) Ends
  reads_many a = record {
    again = λ p b ns q m h stop. many_again (length (p ++ q)) q m h (omega (arith, length-append p q)) stop.0 stop.1;
    reads = λ s b t begun e. many_reads (length s.left) a s.left s.notes b t (omega arith) begun e;
  }

-- The same if anything may follow each part.
pub exact_many : {A X : Type 0} (part : Parse (Option X)) (add : A → X → A) (P : Rule X) (none : List Token → Type 0)
    → Exact part (Optional P) (Until none Any) → ((x : X) (p : List Token) (ns : List ℕ) → P p x ns → 1 ≤ length p) → none []
    → (a : A) → Exact (many part add a) (Many P add a) (λ b. none)
exact_many part add P none exact_part consumes ended a =
    let r = reads_many part add P none Any exact_part (λ x p ns next h. tt) consumes ended a in
    record {
      again = λ p b ns q m h stop. r.again p b ns q m h (stop, tt);
      reads = λ s b t begun e. let f = r.reads s b t begun e in found_as f f.said f.stops.0;
    }

insert_after : (m w : List ℕ) (line : ℕ) → insert (m ++ w) (length m) line ≡ m ++ line ∷ w
insert_after [] w line = refl
insert_after (x ∷ m) w line = ap (λ l. x ∷ l) (insert_after m w line)

noted_is : (line : ℕ) (b : Bool) (q : List Token) (m w : List ℕ) → noted (length m) line b (progress q (m ++ w)) ≡ progress q (m ++ (if b then line ∷ w else w))
noted_is line true q m w = ap (progress q) (insert_after m w line)
noted_is line false q m w = refl

module _ {X : Type 0} (line : ℕ) (p : Parse (X × Bool)) (P : Rule (X × Bool)) (stop : List Token → Type 0) (exact_p : Exact p P (λ x. stop)) where
  noted_again : (ts : List Token) (x : X) (ns : List ℕ) (q : List Token) (m : List ℕ) → Noted line P ts x ns → stop q → with_note line p (progress (ts ++ q) m) ≡ Ok (x, progress q (m ++ ns))
  noted_again ts x ns q m h stops =
      let e = exact_p.again ts (x, h.is_noted) h.within q m h.said stops in
      rw (e, noted_is line h.is_noted q m h.within, h.notes_are)

  -- A rule with a note of its own.
  pub exact_noted : Exact (with_note line p) (Noted line P) (λ x. stop)
  exact_noted = record {
    again = noted_again;
    reads = λ s x t a e.
        let w = went (p s) (λ r. Ok (r.0.0, noted (length s.notes) line r.0.1 r.1)) (x, t) e in
        let f = exact_p.reads s w.on.0 w.on.1 tt w.was in
        let same : noted (length s.notes) line w.on.0.1 w.on.1 ≡ progress w.on.1.left (s.notes ++ (if w.on.0.1 then line ∷ f.notes else f.notes))
        = ap (λ (ns : List ℕ). noted (length s.notes) line w.on.0.1 (progress w.on.1.left ns)) f.noted ∙ noted_is line w.on.0.1 w.on.1.left s.notes f.notes in
        told (Noted line P) (λ x. stop) s (w.on.0.0, progress w.on.1.left (s.notes ++ (if w.on.0.1 then line ∷ f.notes else f.notes))) (x, t)
        (ap (λ (u : Progress). good (w.on.0.0, u)) (sym same) ∙ w.then_is)
        (record {
          tokens = f.tokens;
          notes = if w.on.0.1 then line ∷ f.notes else f.notes;
          taken = f.taken;
          noted = refl;
          said = record { is_noted = w.on.0.1; within = f.notes; notes_are = refl; said = f.said };
          stops = f.stops;
        });
  }
