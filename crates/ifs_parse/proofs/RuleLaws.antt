-- Rules in terms of other rules.
use Rattle.std.proofs.Common.{◌≡◌, inl, inr, ℕ, refl, sym, ap, subst, ◌∙◌, Bool, Some, None, List, [], ◌++◌}
use Rattle.std.proofs.Common.{append-nil}
use Rattle.ifs_lex.specs.declared.token.TokenPlace.{TokenPlace}
use Rattle.ifs_lex.specs.declared.token.Token.{Token}
use Rattle.ifs_parse.specs.declared.mark.Mark.{Mark}
use Rattle.ifs_parse.specs.Rules.{Rule, GivesValue, TheMark, ◌⨟◌, ◌or◌, Never, Optional, Noted, Many, Enough, More}

-- One rule after another.
pub in_turn : {X Y : Type 0} {P : Rule X} {Q : X → Rule Y} (f k : List Token) (b a : List ℕ) (x : X) (y : Y) → P f x b → Q x k y a → (P ⨟ Q) (f ++ k) y (b ++ a)
in_turn f k b a x y h g = record { x = x; front = f; back = k; before = b; after = a; tokens_are = refl; notes_are = refl; first = h; second = g }

-- The same two parts by other rules.
pub rejoined : {X Y U V : Type 0} {P : Rule X} {Q : X → Rule Y} {W : Rule U} {R : U → Rule V} {p : List Token} {y : Y} {ns : List ℕ} (h : (P ⨟ Q) p y ns) (u : U) (v : V)
    → W h.front u h.before → R u h.back v h.after → (W ⨟ R) p v ns
rejoined h u v first second =
    record { x = u; front = h.front; back = h.back; before = h.before; after = h.after; tokens_are = h.tokens_are; notes_are = h.notes_are; first = first; second = second }

-- A rule at equal tokens and notes.
pub moved : {X : Type 0} (P : Rule X) {p q : List Token} {x : X} {n m : List ℕ} → p ≡ q → n ≡ m → P p x n → P q x m
moved P {p = p} {q = q} {x = x} {n = n} {m = m} t e h = subst (λ (l : List Token). P l x m) t (subst (λ (l : List ℕ). P p x l) e h)

-- What a value is made of.
pub record Made {X Y : Type 0} (P : Rule X) (f : X → Y) (p : List Token) (y : Y) (ns : List ℕ) : Type 0 where
  pub x : X
  pub said : P p x ns
  pub made : y ≡ f x

pub made_of : {X Y : Type 0} {P : Rule X} {f : X → Y} {p : List Token} {y : Y} {ns : List ℕ} → (P ⨟ λ x. GivesValue (f x)) p y ns → Made P f p y ns
made_of {P = P} h = record {
  x = h.x;
  said = moved P
      (sym (h.tokens_are ∙ ap (λ (l : List Token). h.front ++ l) h.second.none ∙ append-nil h.front))
      (sym (h.notes_are ∙ ap (λ (l : List ℕ). h.before ++ l) h.second.unnoted ∙ append-nil h.before)) h.first;
  made = h.second.is_value;
}

pub gives_made : {X Y : Type 0} {P : Rule X} {f : X → Y} {p : List Token} {y : Y} {ns : List ℕ} (x : X) → P p x ns → y ≡ f x → (P ⨟ λ x. GivesValue (f x)) p y ns
gives_made {p = p} {ns = ns} x h e = record {
  x = x;
  front = p;
  back = [];
  before = ns;
  after = [];
  tokens_are = sym (append-nil p);
  notes_are = sym (append-nil ns);
  first = h;
  second = record { none = refl; is_value = e; unnoted = refl };
}

-- The second rule has what the first one has.
abbrev pub Within : {X : Type 0} → Rule X → Rule X → Type 0
Within {X = X} P W = (p : List Token) (x : X) (ns : List ℕ) → P p x ns → W p x ns

pub same_within : {X : Type 0} (P : Rule X) → Within P P
same_within P p x ns h = h

pub then_within : {X Y : Type 0} (P W : Rule X) (Q V : X → Rule Y) → Within P W → ((x : X) → Within (Q x) (V x)) → Within (P ⨟ Q) (W ⨟ V)
then_within P W Q V a b p y ns h = rejoined h h.x y (a h.front h.x h.before h.first) (b h.x h.back y h.after h.second)

pub or_within : {X : Type 0} (P W Q V : Rule X) → Within P W → Within Q V → Within (P or Q) (W or V)
or_within P W Q V a b p x ns (inl h) = inl (a p x ns h)
or_within P W Q V a b p x ns (inr h) = inr (b p x ns h)

-- A mark and what comes after it, or something else.
pub marked_within : {X : Type 0} (mark : Mark) (Q V : TokenPlace → Rule X) (R U : Rule X) → ((place : TokenPlace) → Within (Q place) (V place)) → Within R U → Within ((TheMark mark ⨟ Q) or R) ((TheMark mark ⨟ V) or U)
marked_within mark Q V R U a b = or_within (TheMark mark ⨟ Q) (TheMark mark ⨟ V) R U (then_within (TheMark mark) (TheMark mark) Q V (same_within (TheMark mark)) a) b

pub or_never : {X : Type 0} (P : Rule X) → Within (P or Never) P
or_never P p x ns (inl h) = h
or_never P p x ns (inr h) = absurd h

pub optional_within : {X : Type 0} (P W : Rule X) → Within P W → Within (Optional P) (Optional W)
optional_within P W a p None ns h = h
optional_within P W a p (Some x) ns h = a p x ns h

pub some_within : {X : Type 0} (P W : Rule X) → Within (Optional P) (Optional W) → Within P W
some_within P W a p x ns h = a p (Some x) ns h

pub optional_or : {X : Type 0} (P R : Rule X) → Within (Optional R) (Optional (P or R))
optional_or P R = optional_within R (P or R) (λ p x ns h. inr h)

pub noted_within : {X : Type 0} (line : ℕ) (P W : Rule (X × Bool)) → Within P W → Within (Noted line P) (Noted line W)
noted_within line P W a p x ns h = record { is_noted = h.is_noted; within = h.within; notes_are = h.notes_are; said = a p (x, h.is_noted) h.within h.said }

pub many_within : {A X : Type 0} (P W : Rule X) (add : A → X → A) → Within P W → {a b : A} {p : List Token} {ns : List ℕ} → Many P add a p b ns → Many W add a p b ns
many_within P W add h Enough = Enough
many_within P W add h (More {x = x} {front = front} {before = before} one rest) = More (h front x before one) (many_within P W add h rest)
