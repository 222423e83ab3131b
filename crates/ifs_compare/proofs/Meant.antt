-- A part with other numbers does what it does with its own.
use Rattle.std.proofs.Common.{◌≡◌, ℕ, suc, ◌+◌, ◌<◌, Bool, true, false, not, cond, ◌&&◌, ◌||◌, List, [], ◌∷◌, ◌++◌, length, map, get_or, nat_lt, Option, Some, None, refl, sym, ap, ◌∙◌, arith}
use Rattle.std.specs.Prelude.{slice_get, if◌then◌else◌, unwrap_or, option_map}
use Rattle.std.specs.List.{list_any, position_or_len}
use Rattle.std.proofs.lemmas.Bool.{false≢true, ltb-false}
use Rattle.std.proofs.lemmas.List.{map-append}
use Rattle.std.proofs.lemmas.List.Folds.{list_any-append}
use Rattle.std.proofs.lemmas.Option.{slice_get-map, slice_get-get_or}
use Rattle.ifs_base.specs.Facts.{Facts}
use Rattle.ifs_base.specs.Effects.{Effects, nothing_yet, followed, later_wish}
use Rattle.ifs_base.specs.declared.op.LinkState.TheVariants.{Unknown}
use Rattle.ifs_base.specs.declared.ids.CommandId.{CommandId}
use Rattle.ifs_base.specs.declared.ids.StateId.{StateId}
use Rattle.ifs_gen.specs.Trees.{Single, LinkIs, TestIs, Condition, Leaf, NotSo, And, Or, Block, Done, RunThen, SetStateThen, IfThen}
use Rattle.ifs_policy.specs.Meaning.{link_is, has_true, has_a_value, holds, truth, reached, is_open, mentioned_in, mentioned, is_held, body_yield}
use Rattle.ifs_policy.specs.Fits.{SingleFits, ConditionFits, BlockFits, sizes_of}
use Rattle.ifs_policy.specs.declared.tables.ExternalTest.{ExternalTest}
use Rattle.ifs_policy.specs.declared.tables.Tables.{Tables}
use Rattle.ifs_policy.specs.Tables.{text_eq, test_eq}
use Rattle.ifs_compare.specs.Renumbering.{AreIn, place_of, command_number, state_number, renumbered_single, renumbered_condition, renumbered_block, facts_named, effects_renumbered}
use Rattle.ifs_compare.specs.Renumbering.{RenumberedMeansTheSame}

-- An entry of a table has a place in it.
found_at : {X : Type 0} (p : X → Bool) (x : X) (xs : List X) (b : Bool) → p x ≡ b → (list_any p xs ≡ true → position_or_len p xs < length xs) → (b || list_any p xs) ≡ true
    → cond (not b) (1 + position_or_len p xs) 0 < suc (length xs)
found_at p x xs true e later h = omega arith
found_at p x xs false e later h = let rest = later h in omega (arith, rest)

found : {X : Type 0} (p : X → Bool) (xs : List X) → list_any p xs ≡ true → position_or_len p xs < length xs
found p [] h = absurd (false≢true h)
found p (x ∷ xs) h = found_at p x xs (p x) refl (found p xs) h

within : (n count : ℕ) (b : Bool) → nat_lt n count ≡ b → n < count → unwrap_or (cond b (Some n) None) count < count
within n count true e lt = lt
within n count false e lt = let above = ltb-false n count e in absurd (omega (arith, above, lt))

place_within : {N : Type 0} (eq : N → N → Bool) (to : List N) (entry : N) → list_any (eq entry) to ≡ true → place_of eq to (Some entry) < length to
place_within eq to entry h = within (position_or_len (eq entry) to) (length to) (nat_lt (position_or_len (eq entry) to) (length to)) refl (found (eq entry) to h)

-- What has the number of an entry is what is read by its name.
module _ {N V : Type 0} (eq : N → N → Bool) (from to : List N) (values : List V) (d : V) (known : AreIn eq from to) (many : length values ≡ length to) where
  abbrev by_name : N → V
  by_name entry = unwrap_or (slice_get values (place_of eq to (Some entry))) d

  at_number : (i : ℕ) (e : N) → i < length from → slice_get values (place_of eq to (slice_get from i)) ≡ slice_get (map by_name from) i
  at_number i e lt =
      let entry = get_or from i e in
      let place = place_of eq to (Some entry) in
      let there = slice_get-get_or from i e lt in
      let inside = place_within eq to entry (known i e lt) in
      let value = slice_get-get_or values place d (omega (arith, inside, many)) in
      ap (λ o. slice_get values (place_of eq to o)) there
      ∙ value
      ∙ ap (λ o. Some (unwrap_or o d)) (sym value)
      ∙ ap (option_map by_name) (sym there)
      ∙ sym (slice_get-map by_name from i)

-- Effects, one after the other.
module _ (from to : Tables) where
  later_renumbered : (a b : Option StateId) → option_map (state_number from to) (later_wish a b) ≡ later_wish (option_map (state_number from to) a) (option_map (state_number from to) b)
  later_renumbered a None = refl
  later_renumbered a (Some state) = refl

  abbrev effects : List CommandId → Option StateId → Effects
  effects commands wish = record { commands = commands; wish = wish }

  followed_renumbered : (a b : Effects) → followed (effects_renumbered from to a) (effects_renumbered from to b) ≡ effects_renumbered from to (followed a b)
  followed_renumbered a b =
      ap (λ xs. effects xs (later_wish (option_map (state_number from to) a.wish) (option_map (state_number from to) b.wish))) (sym (map-append (command_number from to) a.commands b.commands))
      ∙ ap (λ w. effects (map (command_number from to) (a.commands ++ b.commands)) w) (sym (later_renumbered a.wish b.wish))

  chosen_renumbered : (c : Bool) (e : Effects) → (if c then effects_renumbered from to e else nothing_yet) ≡ effects_renumbered from to (if c then e else nothing_yet)
  chosen_renumbered true e = refl
  chosen_renumbered false e = refl

  held_renumbered : (c : Bool) (e : Effects) → (if c then nothing_yet else effects_renumbered from to e) ≡ effects_renumbered from to (if c then nothing_yet else e)
  held_renumbered true e = refl
  held_renumbered false e = refl

  module _ (interfaces : AreIn text_eq from.interfaces to.interfaces) (tests : AreIn test_eq from.tests to.tests) (facts : Facts) (links : length facts.links ≡ length to.interfaces) (values : length facts.tests ≡ length to.tests) where
    abbrev own : Facts
    own = facts_named from to facts

    abbrev no_test : ExternalTest
    no_test = record { command = []; period = 0 }

    single_means : (single : Single) → SingleFits (sizes_of from) single → holds facts (renumbered_single from to single) ≡ holds own single
    single_means (LinkIs interface state) fits = ap (link_is state) (at_number text_eq from.interfaces to.interfaces facts.links Unknown interfaces links interface.0 [] fits)
    single_means (TestIs test) fits = ap has_true (at_number test_eq from.tests to.tests facts.tests None tests values test.0 no_test fits)

    truth_means : (condition : Condition) → ConditionFits (sizes_of from) condition → truth facts (renumbered_condition from to condition) ≡ truth own condition
    truth_means (Leaf single) fits = single_means single fits
    truth_means (NotSo operand) fits = ap not (truth_means operand fits)
    truth_means (And left right) fits = ap (λ b. b && truth facts (renumbered_condition from to right)) (truth_means left fits.0) ∙ ap (λ b. truth own left && b) (truth_means right fits.1)
    truth_means (Or left right) fits = ap (λ b. b || truth facts (renumbered_condition from to right)) (truth_means left fits.0) ∙ ap (λ b. truth own left || b) (truth_means right fits.1)

    open_means : (condition : Condition) → ConditionFits (sizes_of from) condition → list_any (is_open facts) (mentioned_in (renumbered_condition from to condition)) ≡ list_any (is_open own) (mentioned_in condition)
    open_means (Leaf (LinkIs interface state)) fits = refl
    open_means (Leaf (TestIs test)) fits = ap (λ o. not (has_a_value o) || false) (at_number test_eq from.tests to.tests facts.tests None tests values test.0 no_test fits)
    open_means (NotSo operand) fits = open_means operand fits
    open_means (And left right) fits =
        list_any-append (is_open facts) (mentioned_in (renumbered_condition from to left)) (mentioned_in (renumbered_condition from to right))
        ∙ ap (λ b. b || list_any (is_open facts) (mentioned_in (renumbered_condition from to right))) (open_means left fits.0)
        ∙ ap (λ b. list_any (is_open own) (mentioned_in left) || b) (open_means right fits.1)
        ∙ sym (list_any-append (is_open own) (mentioned_in left) (mentioned_in right))
    open_means (Or left right) fits =
        list_any-append (is_open facts) (mentioned_in (renumbered_condition from to left)) (mentioned_in (renumbered_condition from to right))
        ∙ ap (λ b. b || list_any (is_open facts) (mentioned_in (renumbered_condition from to right))) (open_means left fits.0)
        ∙ ap (λ b. list_any (is_open own) (mentioned_in left) || b) (open_means right fits.1)
        ∙ sym (list_any-append (is_open own) (mentioned_in left) (mentioned_in right))

    held_means : (block : Block) → BlockFits (sizes_of from) block → is_held facts (renumbered_block from to block) ≡ is_held own block
    held_means Done fits = refl
    held_means (RunThen command rest) fits = held_means rest fits.1
    held_means (SetStateThen state rest) fits = held_means rest fits.1
    held_means (IfThen condition inner rest) fits =
        let c = mentioned_in (renumbered_condition from to condition) in
        let i = mentioned (renumbered_block from to inner) in
        let r = mentioned (renumbered_block from to rest) in
        list_any-append (is_open facts) c (i ++ r)
        ∙ ap (λ b. list_any (is_open facts) c || b) (list_any-append (is_open facts) i r)
        ∙ ap (λ b. b || (list_any (is_open facts) i || list_any (is_open facts) r)) (open_means condition fits.0)
        ∙ ap (λ b. list_any (is_open own) (mentioned_in condition) || (b || list_any (is_open facts) r)) (held_means inner fits.1)
        ∙ ap (λ b. list_any (is_open own) (mentioned_in condition) || (list_any (is_open own) (mentioned inner) || b)) (held_means rest fits.2)
        ∙ ap (λ b. list_any (is_open own) (mentioned_in condition) || b) (sym (list_any-append (is_open own) (mentioned inner) (mentioned rest)))
        ∙ sym (list_any-append (is_open own) (mentioned_in condition) (mentioned inner ++ mentioned rest))

    reached_means : (block : Block) → BlockFits (sizes_of from) block → reached facts (renumbered_block from to block) ≡ effects_renumbered from to (reached own block)
    reached_means Done fits = refl
    reached_means (RunThen command rest) fits =
        let here : Effects = record { commands = command ∷ []; wish = None } in
        ap (followed (effects_renumbered from to here)) (reached_means rest fits.1) ∙ followed_renumbered here (reached own rest)
    reached_means (SetStateThen state rest) fits =
        let here : Effects = record { commands = []; wish = Some state } in
        ap (followed (effects_renumbered from to here)) (reached_means rest fits.1) ∙ followed_renumbered here (reached own rest)
    reached_means (IfThen condition inner rest) fits =
        let there = reached facts (renumbered_block from to rest) in
        ap (λ b. followed (if b then reached facts (renumbered_block from to inner) else nothing_yet) there) (truth_means condition fits.0)
        ∙ ap (λ e. followed (if truth own condition then e else nothing_yet) there) (reached_means inner fits.1)
        ∙ ap (λ e. followed e there) (chosen_renumbered (truth own condition) (reached own inner))
        ∙ ap (followed (effects_renumbered from to (if truth own condition then reached own inner else nothing_yet))) (reached_means rest fits.2)
        ∙ followed_renumbered (if truth own condition then reached own inner else nothing_yet) (reached own rest)

    body_means : (body : Block) → BlockFits (sizes_of from) body → body_yield facts (renumbered_block from to body) ≡ effects_renumbered from to (body_yield own body)
    body_means body fits =
        ap (λ b. if b then nothing_yet else reached facts (renumbered_block from to body)) (held_means body fits)
        ∙ ap (λ e. if is_held own body then nothing_yet else e) (reached_means body fits)
        ∙ held_renumbered (is_held own body) (reached own body)

pub renumbered_means_the_same : RenumberedMeansTheSame
renumbered_means_the_same from to interfaces tests part fits facts links values = record {
  init = reached_means from to interfaces tests facts links values part.init fits.init;
  body = body_means from to interfaces tests facts links values part.body fits.body;
}
