-- A tree has at most one first fault.
use Rattle.std.proofs.Common.{◌≡◌, ◌<◌, ◌==◌, if◌then◌else◌, inl, inr, ℕ}
use Rattle.std.proofs.Common.{true≢false, List, [], ◌∷◌, ap, sym, ◌∙◌, refl, arith}
use Rattle.std.proofs.lemmas.Bool.{cases_lt}
use Rattle.ifs_lex.specs.declared.token.TokenPlace.{TokenPlace}
use Rattle.ifs_parse.specs.declared.tree.Item.{Item}
use Rattle.ifs_policy.specs.declared.fault.ResolveFault.{ResolveFault}
use Rattle.ifs_policy.specs.declared.fault.ResolveFault.TheVariants.{NoState, StateTwice, SecondInit}
use Rattle.ifs_policy.specs.declared.fault.ResolveFault.TheVariants.{SetStateInInit, TestInInit, TableFull}
use Rattle.ifs_policy.specs.declared.fault.ResolveFault.TheVariants.{BadText, UnknownState, Memory}
use Rattle.ifs_policy.specs.declared.mention.Mention.TheVariants.{Interface, External, Command, Defined}
use Rattle.ifs_policy.specs.declared.mention.Mention.TheVariants.{Target, Init, InitState, SetState}
use Rattle.ifs_policy.specs.declared.names.Names.{Names}
use Rattle.ifs_policy.specs.Mentions.{Mentioned, mentions_of}
use Rattle.ifs_policy.specs.Tables.{after, no_names, tables_of}
use Rattle.ifs_base.specs.Sizes.{TextFits}
use Rattle.ifs_policy.specs.Faults.{HasNoRoom, IsStringWith, Breaks, fault_number, IsLowest, FirstBroken}
use Rattle.ifs_policy.specs.Faults.{FirstUnknown, IsTreeRefused, no_state, broken, unknown}
use Rattle.ifs_policy.proofs.Refusals.{broken_not_sound}

-- The place on a line that no token has.
abbrev on_line : ℕ → TokenPlace
on_line line = record { span = record { line = line; start = 0; end = 0 }; number = 0 }

-- The place of a fault, and the fault with a number and a place.
abbrev pub fault_place : ResolveFault → TokenPlace
fault_place Memory = on_line 0
fault_place (NoState line) = on_line line
fault_place (StateTwice place) = place
fault_place (UnknownState place) = place
fault_place (SecondInit place) = place
fault_place (SetStateInInit place) = place
fault_place (TestInInit place) = place
fault_place (TableFull place) = place
fault_place (BadText place) = place

abbrev fault_of : ℕ → TokenPlace → ResolveFault
fault_of n place =
    if n == 9 then NoState place.span.line else
    if n == 10 then StateTwice place else
    if n == 11 then UnknownState place else
    if n == 12 then SecondInit place else
    if n == 13 then SetStateInInit place else
    if n == 14 then TestInInit place else
    if n == 15 then TableFull place else
    if n == 16 then BadText place else Memory

fault_is : (fault : ResolveFault) → fault_of (fault_number fault) (fault_place fault) ≡ fault
fault_is Memory = refl
fault_is _ = refl

same_fault : (fault other : ResolveFault) → fault_number fault ≡ fault_number other → fault_place fault ≡ fault_place other → fault ≡ other
same_fault fault other n l = sym (fault_is fault) ∙ ap (λ m. fault_of m (fault_place fault)) n ∙ ap (fault_of (fault_number other)) l ∙ fault_is other

-- The place of a mention.
abbrev pub place_of : Mentioned → TokenPlace
place_of (Interface name) = name.place
place_of (External half command period) = command.place
place_of (Command text) = text.place
place_of (Defined name) = name.place
place_of (Target name) = name.place
place_of (Init owner place) = place
place_of (InitState place) = place
place_of (SetState half place) = place

pub string_place : (P : List ℕ → Type 0) (place : TokenPlace) (mention : Mentioned) → IsStringWith P place mention → place ≡ place_of mention
string_place P place (Init owner word) h = absurd h
string_place P place (InitState word) h = absurd h
string_place P place (SetState half word) h = absurd h
string_place P place _ h = h.0

pub broken_here : (names : Names) (mention : Mentioned) (fault : ResolveFault) → Breaks names mention fault → fault_place fault ≡ place_of mention
broken_here names (External half command period) (TestInInit place) h = h.0
broken_here names (Defined name) (StateTwice place) h = h.0
broken_here names (Init owner word) (SecondInit place) h = h.0
broken_here names (InitState word) (SecondInit place) h = h.0
broken_here names (SetState half word) (SetStateInInit place) h = h.0
broken_here names mention (TableFull place) h = string_place (λ text. HasNoRoom names mention) place mention h
broken_here names mention (BadText place) h = string_place (λ text. ¬ TextFits text) place mention h
broken_here names _ _ h = absurd h

one_number : (m n : ℕ) → ¬ (m < n) → ¬ (n < m) → m ≡ n
one_number m n not_below not_above =
    elim (cases_lt m n) [
      | inl below ↦ absurd (not_below below)
      | inr above ↦
          elim (cases_lt n m) [ inl over ↦ absurd (not_above over) | inr within ↦ omega arith ]
    ]

one_lowest : (names : Names) (mention : Mentioned) (fault other : ResolveFault) → IsLowest names mention fault → IsLowest names mention other → fault ≡ other
one_lowest names mention fault other h k =
    same_fault fault other
    (one_number (fault_number fault) (fault_number other) (λ below. k.lowest fault below h.broken) (λ below. h.lowest other below k.broken))
    (broken_here names mention fault h.broken ∙ sym (broken_here names mention other k.broken))

one_broken : (names : Names) (mentions : List Mentioned) (fault other : ResolveFault) → FirstBroken names mentions fault → FirstBroken names mentions other → fault ≡ other
one_broken names [] fault other h k = absurd h
one_broken names (mention ∷ rest) fault other (inl h) (inl k) = one_lowest names mention fault other h k
one_broken names (mention ∷ rest) fault other (inl h) (inr k) = absurd (k.0 fault h.broken)
one_broken names (mention ∷ rest) fault other (inr h) (inl k) = absurd (h.0 other k.broken)
one_broken names (mention ∷ rest) fault other (inr h) (inr k) = one_broken (after names mention) rest fault other h.1 k.1

one_unknown : (states : List (List ℕ)) (mentions : List Mentioned) (place other : TokenPlace) → FirstUnknown states mentions place → FirstUnknown states mentions other → place ≡ other
one_unknown states [] place other h k = absurd h
one_unknown states (mention ∷ rest) place other (inl h) (inl k) = string_place (λ text. Unit {0}) place mention h.0 ∙ sym (string_place (λ text. Unit {0}) other mention k.0)
one_unknown states (mention ∷ rest) place other (inl h) (inr k) = absurd (h.1 k.0)
one_unknown states (mention ∷ rest) place other (inr h) (inl k) = absurd (k.1 h.0)
one_unknown states (mention ∷ rest) place other (inr h) (inr k) = one_unknown states rest place other h.1 k.1

pub one_refusal : (items : List Item) (fault other : ResolveFault) → IsTreeRefused items fault → IsTreeRefused items other → fault ≡ other
one_refusal items _ _ (no_state h) (no_state k) = refl
one_refusal items _ _ (no_state h) (broken other some k) = absurd (true≢false (sym some ∙ h))
one_refusal items _ _ (no_state h) (unknown place some sound k) = absurd (true≢false (sym some ∙ h))
one_refusal items _ _ (broken fault some h) (no_state k) = absurd (true≢false (sym some ∙ k))
one_refusal items _ _ (broken fault some h) (broken other again k) = one_broken no_names (mentions_of items) fault other h k
one_refusal items _ _ (broken fault some h) (unknown place again sound k) = absurd (broken_not_sound no_names (mentions_of items) fault h sound)
one_refusal items _ _ (unknown place some sound h) (no_state k) = absurd (true≢false (sym some ∙ k))
one_refusal items _ _ (unknown place some sound h) (broken other again k) = absurd (broken_not_sound no_names (mentions_of items) other k sound)
one_refusal items _ _ (unknown place some sound h) (unknown next again still k) =
    ap UnknownState (one_unknown (tables_of (mentions_of items)).states (mentions_of items) place next h k)
