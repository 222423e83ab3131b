-- Tokens without their whole items, and a state without its whole parts, can go on with the same tokens.
use Rattle.std.proofs.Common.{◌≡◌, ℕ, ◌≤◌, arith, refl, sym, ap, subst, ◌∙◌, Option, Some, None, inl, inr}
use Rattle.std.proofs.Common.{List, [], ◌∷◌, ◌++◌, append_assoc, append-nil, length, length-append}
use Rattle.std.specs.List.{AllByRecursion}
use Rattle.ifs_lex.specs.declared.token.Token.{Token}
use Rattle.ifs_lex.specs.declared.token.TokenPlace.{TokenPlace}
use Rattle.ifs_parse.specs.declared.mark.Mark.{Mark}
use Rattle.ifs_parse.specs.declared.mark.Mark.TheVariants as mark
use Rattle.ifs_parse.specs.declared.block.Statement.{Statement}
use Rattle.ifs_parse.specs.declared.tree.Item.{Item}
use Rattle.ifs_parse.specs.declared.tree.Item.TheVariants.{InitState, State, Always}
use Rattle.ifs_parse.specs.declared.tree.Name.{Name}
use Rattle.ifs_parse.specs.declared.tree.Part.{Part}
use Rattle.ifs_parse.specs.declared.tree.Test.{Test}
use Rattle.ifs_parse.specs.declared.tree.Wish.{Wish}
use Rattle.ifs_parse.specs.Files.{File, file}
use Rattle.ifs_parse.specs.Grammar as grammar
use Rattle.ifs_parse.specs.Grammar.{GoesOn, Says, SaysWithin}
use Rattle.ifs_parse.specs.Rules.{Rule, GivesValue, OneToken, TheMark, ◌⨟◌, Many, Enough, More, with_last}
use Rattle.ifs_parse.specs.Words.{fits_period, marked, name_of}
use Rattle.ifs_parse.specs.inner.Combined.{accepted, Parse}
use Rattle.ifs_parse.specs.inner.Reading as reading
use Rattle.ifs_parse.proofs.Read as read
use Rattle.ifs_parse.proofs.RuleLaws.{in_turn, rejoined, gives_made, made_of}
use Rattle.ifs_expected_tokens.specs.declared.kind.Kind.{Kind}
use Rattle.ifs_expected_tokens.specs.Expected.{AreExpectedAs, token_of}
use Rattle.ifs_expected_tokens.specs.inner.Shorter.{BeginsState, IsHead, SayItems, SayParts}
use Rattle.ifs_expected_tokens.proofs.Cuts.{cut, grows, joined, restart, same_front}

abbrev S : Rule (Statement Test Name Wish)
S = grammar.IsStatement fits_period 32

abbrev P : Rule Part
P = grammar.IsPart S

abbrev I : Rule Item
I = grammar.IsItem P

abbrev StateRule : Rule Item
StateRule = grammar.IsString ⨟ λ name. TheMark mark.BraceOpen ⨟ λ _. grammar.AreBraced P ⨟ λ parts. GivesValue (State name parts)

abbrev statement : Parse (Option (Statement Test Name Wish))
statement = reading.statement fits_period 32

known : read.Known statement S
known = read.known fits_period 32

-- A sequence does not begin with a mark if its first rule does not.
then_apart : {X Y : Type 0} (m : Mark) (P : Rule X) (Q : X → Rule Y) → ((x : X) (p : List Token) (ns : List ℕ) (next : List Token) → P p x ns → accepted m (p ++ next) ≡ None)
    → (y : Y) (p : List Token) (ns : List ℕ) (next : List Token) → (P ⨟ Q) p y ns → accepted m (p ++ next) ≡ None
then_apart m P Q apart y p ns next h =
    ap (λ (l : List Token). accepted m (l ++ next)) h.tokens_are ∙ ap (λ (l : List Token). accepted m l) (append_assoc h.front h.back next)
    ∙ apart h.x h.front h.before (h.back ++ next) h.first

-- No part begins with the word `state`.
no_state : (y : Part) (g : List Token) (ns : List ℕ) (next : List Token) → P g y ns → accepted mark.State (g ++ next) ≡ None
no_state y g ns next (inl h) = read.begins_apart mark.Init mark.State _ (λ e. cc) y g ns next h
no_state y g ns next (inr h) = then_apart mark.State S _ (known.apart mark.State (λ e. cc) (λ e. cc) (λ e. cc)) y g ns next h

-- Tokens say a file.
abbrev pub CanSay : List Token → Type 0
CanSay tokens = (f : File) × Says tokens f

-- What goes on from one list goes on from the other.
pub record SameNext (whole short : List Token) : Type 0 where
  pub to : (more : List Token) → CanSay (whole ++ more) → CanSay (short ++ more)
  pub back : (more : List Token) → CanSay (short ++ more) → CanSay (whole ++ more)

-- The same kinds are expected.
listed_by : (A B : Kind → Type 0) → ((k : Kind) → A k → B k) → (kinds : List Kind) → AllByRecursion A kinds → AllByRecursion B kinds
listed_by A B f [] h = tt
listed_by A B f (k ∷ kinds) h = (f k h.0, listed_by A B f kinds h.1)

pub expected_by : (n : ℕ) (whole short : List Token) (kinds : List Kind) → SameNext whole short → AreExpectedAs n short kinds → AreExpectedAs n whole kinds
expected_by n whole short kinds same h = record {
  listed = listed_by (λ k. GoesOn fits_period 32 short (token_of n k)) (λ k. GoesOn fits_period 32 whole (token_of n k))
      (λ k can. let r = same.back (token_of n k ∷ can.0) (can.1, can.2) in (can.0, r.0, r.1)) kinds h.listed;
  all = λ k can. let r = same.to (token_of n k ∷ can.0) (can.1, can.2) in h.all k (can.0, r.0, r.1);
}

-- The items of a file, and its end.
record Whole (tokens : List Token) (f : File) : Type 0 where
  items : List Item
  noted : List ℕ
  front : List Token
  back : List Token
  after : List ℕ
  said : Many I with_last [] front items noted
  end : (TheMark mark.End ⨟ λ _. GivesValue items) back items after
  whole : tokens ≡ front ++ back
  items_are : f.items ≡ items

opened : (tokens : List Token) (f : File) → Says tokens f → Whole tokens f
unfolding SaysWithin
opened tokens f h = record {
  items = h.x;
  noted = h.before;
  front = h.front;
  back = h.back;
  after = h.after;
  said = h.first;
  end = rejoined {W = TheMark mark.End} {R = λ _. GivesValue h.x} h.second h.second.x h.x h.second.first (record { none = h.second.second.none; is_value = refl; unnoted = h.second.second.unnoted });
  whole = h.tokens_are;
  items_are = h.second.second.is_value;
}

-- Items in place of others, before the same end.
closed : (tokens front : List Token) (f : File) (w : Whole tokens f) (items : List Item) (notes : List ℕ) → Many I with_last [] front items notes → CanSay (front ++ w.back)
unfolding SaysWithin
closed tokens front f w items notes said =
    let end = rejoined {W = TheMark mark.End} {R = λ _. GivesValue items} w.end w.end.x items w.end.first (record { none = w.end.second.none; is_value = refl; unnoted = w.end.second.unnoted }) in
    (file items (notes ++ w.after), in_turn front w.back notes w.after items items said end)

-- No item begins the end of a file.
ended : (tokens : List Token) (f : File) (w : Whole tokens f) → read.NoItem w.back
ended tokens f w =
    let Q = λ (_ : TokenPlace). GivesValue w.items in
    let h = w.end in
    subst read.NoItem (append-nil w.back) (
      read.begins_apart mark.End mark.InitState Q (λ e. cc) w.items w.back w.after [] h,
      (
        read.begins_apart mark.End mark.State Q (λ e. cc) w.items w.back w.after [] h,
        (
          read.begins_apart mark.End mark.Init Q (λ e. cc) w.items w.back w.after [] h,
          read.not_statement mark.End (λ e. cc) (λ e. cc) (λ e. cc) Q w.items w.back w.after [] h,
        ),
      ),
    )

say : (l m : List Token) → l ≡ m → CanSay l → CanSay m
say l m e h = subst CanSay e h

module _ (done : List Token) (d : SayItems done) where
  without_items : (more : List Token) → CanSay (done ++ more) → CanSay more
  without_items more h =
      let w = opened (done ++ more) h.0 h.1 in
      let c = cut I (reading.item (reading.part statement)) read.NoItem (read.exact_item statement S known) w.back more d.2 w.said (sym w.whole) (ended (done ++ more) h.0 w) in
      let r = restart I c.said [] in
      say (c.rest ++ w.back) more (sym c.whole) (closed (done ++ more) c.rest h.0 w r.0 c.notes r.1)

  with_items : (more : List Token) → CanSay more → CanSay (done ++ more)
  with_items more h =
      let w = opened more h.0 h.1 in
      let r = restart I w.said d.0 in
      say ((done ++ w.front) ++ w.back) (done ++ more) (append_assoc done w.front w.back ∙ ap (λ (l : List Token). done ++ l) (sym w.whole))
      (closed more (done ++ w.front) h.0 w r.0 (d.1 ++ w.noted) (joined I d.2 r.1))

  -- Whole items can be left out.
  pub without : (short : List Token) → SameNext (done ++ short) short
  without short = record {
    to = λ more h. without_items (short ++ more) (say ((done ++ short) ++ more) (done ++ (short ++ more)) (append_assoc done short more) h);
    back = λ more h. say (done ++ (short ++ more)) ((done ++ short) ++ more) (sym (append_assoc done short more)) (with_items (short ++ more) h);
  }

-- Tokens that say a file before an end say whole items.
pub said_items : (done : List Token) (e : Token) → CanSay (done ++ e ∷ []) → SayItems done
said_items done e h =
    let w = opened (done ++ e ∷ []) h.0 h.1 in
    let last : w.back ≡ w.end.first.token ∷ [] = w.end.tokens_are ∙ rw (w.end.first.only, w.end.second.none) in
    let same : done ≡ w.front = same_front done w.front e w.end.first.token (w.whole ∙ ap (λ (l : List Token). w.front ++ l) last) in
    (w.items, w.noted, subst (λ (l : List Token). Many I with_last [] l w.items w.noted) (sym same) w.said)

-- One token that stands for something.
one : {X : Type 0} (what : Token → Option X) (t : Token) (x : X) → what t ≡ Some x → OneToken what (t ∷ []) x []
one what t x h = record { token = t; only = refl; stands = h; unnoted = refl }

-- The tokens of a state.
record Shape (g : List Token) : Type 0 where
  state : Token
  name : Token
  brace : Token
  close : Token
  inner : List Token
  head : IsHead state name brace
  closing : TokenPlace
  is_close : marked mark.BraceClose close ≡ Some closing
  parts : List Part
  notes : List ℕ
  said : Many P with_last [] inner parts notes
  whole : g ≡ state ∷ name ∷ brace ∷ (inner ++ close ∷ [])

front_one : (l f k : List Token) (t : Token) → l ≡ f ++ k → f ≡ t ∷ [] → l ≡ t ∷ k
front_one l f k t e only = e ∙ ap (λ (x : List Token). x ++ k) only

shape : (g : List Token) (y : Item) (ns : List ℕ) → (TheMark mark.State ⨟ λ _. StateRule) g y ns → Shape g
shape g y ns h =
    let n = h.second in
    let b = n.second in
    let c = (made_of b.second).said in
    let braced : b.back ≡ c.front ++ c.second.first.token ∷ [] =
    c.tokens_are ∙ ap (λ (l : List Token). c.front ++ l) (c.second.tokens_are ∙ rw (c.second.first.only, c.second.second.none)) in
    record {
      state = h.first.token;
      name = n.first.token;
      brace = b.first.token;
      close = c.second.first.token;
      inner = c.front;
      head = record { place = h.x; text = n.x; opened = b.x; is_state = h.first.stands; is_name = n.first.stands; is_brace = b.first.stands };
      closing = c.second.x;
      is_close = c.second.first.stands;
      parts = c.x;
      notes = c.before;
      said = c.first;
      whole = front_one g h.front h.back h.first.token h.tokens_are h.first.only
          ∙ ap (λ (l : List Token). h.first.token ∷ l) (front_one h.back n.front n.back n.first.token n.tokens_are n.first.only
          ∙ ap (λ (l : List Token). n.first.token ∷ l) (front_one n.back b.front b.back b.first.token b.tokens_are b.first.only
          ∙ ap (λ (l : List Token). b.first.token ∷ l) braced));
    }

-- A head, whole parts and a closing brace are an item.
stated : (s n b c : Token) (inner : List Token) (closing : TokenPlace) (parts : List Part) (notes : List ℕ) → IsHead s n b → marked mark.BraceClose c ≡ Some closing
    → Many P with_last [] inner parts notes → (y : Item) × (ns : List ℕ) × I (s ∷ n ∷ b ∷ (inner ++ c ∷ [])) y ns
stated s n b c inner closing parts notes head close said =
    let braced : grammar.AreBraced P (inner ++ c ∷ []) parts (notes ++ []) =
    in_turn inner (c ∷ []) notes [] parts parts said (gives_made {P = TheMark mark.BraceClose} {f = λ _. parts} closing (one (marked mark.BraceClose) c closing close) refl) in
    let named : (grammar.AreBraced P ⨟ λ parts. GivesValue (State head.text parts)) (inner ++ c ∷ []) (State head.text parts) (notes ++ []) = gives_made {f = λ parts. State head.text parts} parts braced refl in (
      State head.text parts,
      notes ++ [],
      inr (inl
          (in_turn (s ∷ []) (n ∷ b ∷ (inner ++ c ∷ [])) [] (notes ++ []) head.place (State head.text parts) (one (marked mark.State) s head.place head.is_state)
          (in_turn (n ∷ []) (b ∷ (inner ++ c ∷ [])) [] (notes ++ []) head.text (State head.text parts) (one name_of n head.text head.is_name)
          (in_turn (b ∷ []) (inner ++ c ∷ []) [] (notes ++ []) head.opened (State head.text parts) (one (marked mark.BraceOpen) b head.opened head.is_brace) named)))),
    )

-- What begins with the word `state` is a state.
begun_by : (s : Token) (place : TokenPlace) (T : List Token) → marked mark.State s ≡ Some place → (g next : List Token) (y : Item) (ns : List ℕ) → I g y ns → g ++ next ≡ s ∷ T → Shape g
begun_by s place T is g next y ns (inl h) e =
    let none = read.begins_apart mark.InitState mark.State _ (λ e. cc) y g ns next h in
    let k : None ≡ Some place = sym none ∙ ap (accepted mark.State) e ∙ is in absurd (cc)
begun_by s place T is g next y ns (inr (inl h)) e = shape g y ns h
begun_by s place T is g next y ns (inr (inr h)) e =
    let none = then_apart mark.State P (λ p. GivesValue (Always p)) no_state y g ns next h in
    let k : None ≡ Some place = sym none ∙ ap (accepted mark.State) e ∙ is in absurd (cc)

-- The first item of a file that begins with the word `state`.
record First (tokens : List Token) : Type 0 where
  first : List Token
  rest : List Token
  shape : Shape first
  from : List Item
  items : List Item
  notes : List ℕ
  said : Many I with_last from rest items notes
  whole : tokens ≡ first ++ rest

first_by : (s : Token) (place : TokenPlace) (T z : List Token) → marked mark.State s ≡ Some place → {a b : List Item} {f : List Token} {ns : List ℕ} → Many I with_last a f b ns
    → f ++ z ≡ s ∷ T → accepted mark.State z ≡ None → First f
first_by s place T z is Enough e stop = let k : None ≡ Some place = sym stop ∙ ap (accepted mark.State) e ∙ is in absurd (cc)
first_by s place T z is {a = a} {b = b} (More {x = x} {front = g} {back = k} {before = before} {after = after} h rest) e stop =
    record {
      first = g;
      rest = k;
      from = with_last a x;
      items = b;
      notes = after;
      said = rest;
      whole = refl;
      shape = begun_by s place T is g (k ++ z) x before h (sym (append_assoc g k z) ∙ e);
    }

module _ (s n b : Token) (head : IsHead s n b) where
  -- The tokens behind a head: parts, a closing brace, items and the end.
  behind : (T : List Token) (h : CanSay (s ∷ n ∷ b ∷ T)) → (w : Whole (s ∷ n ∷ b ∷ T) h.0) × First w.front
  behind T h =
      let w = opened (s ∷ n ∷ b ∷ T) h.0 h.1 in
      (w, first_by s head.place (n ∷ b ∷ T) w.back head.is_state w.said (sym w.whole) (ended (s ∷ n ∷ b ∷ T) h.0 w).1.0)

  inner_is : (T front : List Token) (f : First front) (back : List Token) → s ∷ n ∷ b ∷ T ≡ front ++ back → T ≡ f.shape.inner ++ f.shape.close ∷ (f.rest ++ back)
  inner_is T front f back e =
      let i = f.shape.inner in
      let c = f.shape.close in
      let all : s ∷ n ∷ b ∷ T ≡ f.shape.state ∷ f.shape.name ∷ f.shape.brace ∷ (((i ++ c ∷ []) ++ f.rest) ++ back) =
      e ∙ ap (λ (l : List Token). l ++ back) (f.whole ∙ ap (λ (l : List Token). l ++ f.rest) f.shape.whole) in
      let tail : T ≡ ((i ++ c ∷ []) ++ f.rest) ++ back = cc in
      tail ∙ append_assoc (i ++ c ∷ []) f.rest back ∙ append_assoc i (c ∷ []) (f.rest ++ back)

  -- Other parts in the same state.
  again : (tokens : List Token) (said_file : File) (w : Whole tokens said_file) (f : First w.front) (inner : List Token) (parts : List Part) (notes : List ℕ) → Many P with_last [] inner parts notes
      → CanSay (s ∷ n ∷ b ∷ (inner ++ f.shape.close ∷ (f.rest ++ w.back)))
  again tokens said_file w f inner parts notes said =
      let c = f.shape.close in
      let item = stated s n b c inner f.shape.closing parts notes head f.shape.is_close said in
      let r = restart I f.said (item.0 ∷ []) in
      say ((s ∷ n ∷ b ∷ ((inner ++ c ∷ []) ++ f.rest)) ++ w.back) (s ∷ n ∷ b ∷ (inner ++ c ∷ (f.rest ++ w.back)))
      (ap (λ (l : List Token). s ∷ n ∷ b ∷ l) (append_assoc (inner ++ c ∷ []) f.rest w.back ∙ append_assoc inner (c ∷ []) (f.rest ++ w.back)))
      (closed tokens (s ∷ n ∷ b ∷ ((inner ++ c ∷ []) ++ f.rest)) said_file w r.0 (item.1 ++ f.notes) (More item.2 r.1))

  module _ (parts : List Token) (d : SayParts parts) where
    without_parts : (more : List Token) → CanSay (s ∷ n ∷ b ∷ (parts ++ more)) → CanSay (s ∷ n ∷ b ∷ more)
    without_parts more h =
        let p = behind (parts ++ more) h in
        let w = p.0 in
        let f = p.1 in
        let z = f.shape.close ∷ (f.rest ++ w.back) in
        let closes : (TheMark mark.BraceClose ⨟ λ (p : TokenPlace). GivesValue p) (f.shape.close ∷ []) f.shape.closing [] =
        gives_made {f = λ p. p} f.shape.closing (one (marked mark.BraceClose) f.shape.close f.shape.closing f.shape.is_close) refl in
        let stop : read.NoPart z = read.closes_part statement S known (λ (p : TokenPlace). GivesValue p) f.shape.closing (f.shape.close ∷ []) [] (f.rest ++ w.back) closes in
        let c = cut P (reading.part statement) read.NoPart (read.exact_part statement S known) z more d.2 f.shape.said (sym (inner_is (parts ++ more) w.front f w.back w.whole)) stop in
        let r = restart P c.said [] in
        say (s ∷ n ∷ b ∷ (c.rest ++ z)) (s ∷ n ∷ b ∷ more) (ap (λ (l : List Token). s ∷ n ∷ b ∷ l) (sym c.whole))
        (again (s ∷ n ∷ b ∷ (parts ++ more)) h.0 w f c.rest r.0 c.notes r.1)

    with_parts : (more : List Token) → CanSay (s ∷ n ∷ b ∷ more) → CanSay (s ∷ n ∷ b ∷ (parts ++ more))
    with_parts more h =
        let p = behind more h in
        let w = p.0 in
        let f = p.1 in
        let z = f.shape.close ∷ (f.rest ++ w.back) in
        let r = restart P f.shape.said d.0 in
        say (s ∷ n ∷ b ∷ ((parts ++ f.shape.inner) ++ z)) (s ∷ n ∷ b ∷ (parts ++ more))
        (ap (λ (l : List Token). s ∷ n ∷ b ∷ l) (append_assoc parts f.shape.inner z ∙ ap (λ (l : List Token). parts ++ l) (sym (inner_is more w.front f w.back w.whole))))
        (again (s ∷ n ∷ b ∷ more) h.0 w f (parts ++ f.shape.inner) r.0 (d.1 ++ f.shape.notes) (joined P d.2 r.1))

    -- Whole parts of a state can be left out.
    pub without_inner : (short : List Token) → SameNext ((s ∷ n ∷ b ∷ parts) ++ short) ((s ∷ n ∷ b ∷ []) ++ short)
    without_inner short = record {
      to = λ more h. without_parts (short ++ more) (say (s ∷ n ∷ b ∷ ((parts ++ short) ++ more)) (s ∷ n ∷ b ∷ (parts ++ (short ++ more)))
          (ap (λ (l : List Token). s ∷ n ∷ b ∷ l) (append_assoc parts short more)) h);
      back = λ more h. say (s ∷ n ∷ b ∷ (parts ++ (short ++ more))) (s ∷ n ∷ b ∷ ((parts ++ short) ++ more))
          (ap (λ (l : List Token). s ∷ n ∷ b ∷ l) (sym (append_assoc parts short more))) (with_parts (short ++ more) h);
    }

-- An item that is a state.
state_by : (g : List Token) (y : Item) (ns : List ℕ) (name : Name) (parts : List Part) → I g y ns → y ≡ State name parts → Shape g
state_by g y ns name parts (inl h) e = let k : InitState h.x (made_of h.second).x ≡ State name parts = sym (made_of h.second).made ∙ e in absurd (cc)
state_by g y ns name parts (inr (inl h)) e = shape g y ns h
state_by g y ns name parts (inr (inr h)) e = let k : Always (made_of h).x ≡ State name parts = sym (made_of h).made ∙ e in absurd (cc)

-- One item alone.
alone : {a b : List Item} {back : List Token} {ns : List ℕ} (g : List Token) → Many I with_last a back b ns → length b ≤ length a → Shape g → Shape (g ++ back)
alone g Enough less h = subst Shape (sym (append-nil g)) h
alone {a = a} g (More {x = x} h rest) less k = let more = grows I rest in absurd (omega (arith, more, less, length-append a (x ∷ [])))

value_by : {a b : List Item} {back : List Token} {ns : List ℕ} (x y : Item) → Many I with_last a back b ns → a ≡ x ∷ [] → b ≡ y ∷ [] → x ≡ y
value_by x y Enough e k = let same : x ∷ [] ≡ y ∷ [] = sym e ∙ k in cc
value_by {a = a} x y (More {x = z} h rest) e k = let more = grows I rest in absurd (omega (arith, more, ap length e, ap length k, length-append a (z ∷ [])))

only_by : {a b : List Item} {f : List Token} {ns : List ℕ} (name : Name) (parts : List Part) → Many I with_last a f b ns → a ≡ [] → b ≡ State name parts ∷ [] → Shape f
only_by name parts Enough e k = let none : [] ≡ State name parts ∷ [] = sym e ∙ k in absurd (cc)
only_by {a = a} name parts (More {x = x} {front = g} {back = back} {before = before} h rest) e k =
    let first : with_last a x ≡ x ∷ [] = ap (λ (l : List Item). with_last l x) e in
    let same : x ≡ State name parts = value_by x (State name parts) rest first k in
    alone g rest (omega (arith, ap length first, ap length k)) (state_by g x before name parts h same)

-- Tokens that say one state with a token and an end behind them begin a state.
pub begins_state : (tokens : List Token) (c e : Token) (f : File) (name : Name) (parts : List Part) → Says ((tokens ++ c ∷ []) ++ e ∷ []) f → f.items ≡ State name parts ∷ [] → BeginsState tokens
begins_state tokens c e f name parts h is =
    let w = opened ((tokens ++ c ∷ []) ++ e ∷ []) f h in
    let last : w.back ≡ w.end.first.token ∷ [] = w.end.tokens_are ∙ rw (w.end.first.only, w.end.second.none) in
    let same : tokens ++ c ∷ [] ≡ w.front = same_front (tokens ++ c ∷ []) w.front e w.end.first.token (w.whole ∙ ap (λ (l : List Token). w.front ++ l) last) in
    let k = only_by name parts w.said refl (sym w.items_are ∙ is) in
    record {
      state = k.state;
      name = k.name;
      brace = k.brace;
      parts = k.inner;
      whole = same_front tokens (k.state ∷ k.name ∷ k.brace ∷ k.inner) c k.close (same ∙ k.whole);
      head = k.head;
      said = (k.parts, k.notes, k.said);
    }
