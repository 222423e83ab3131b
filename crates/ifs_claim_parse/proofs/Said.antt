-- The nine claims, each by the tokens that were read.
use Rattle.std.proofs.Common.{◌≡◌, ◌≢◌, ◌∙◌, sym, ap, subst, ℕ, List, [], ◌∷◌, ◌++◌, append-nil, Vec}
use Rattle.std.specs.List.{AllByRecursion}
use Rattle.std.specs.declared.alloc.Global.{Global}
use Rattle.std.proofs.lemmas.Option.{slice_get_within}
use Rattle.ifs_base.specs.declared.ids.CommandId.{CommandId}
use Rattle.ifs_base.specs.declared.ids.StateId.{StateId}
use Rattle.ifs_lex.specs.declared.token.Token.{Token}
use Rattle.ifs_policy.specs.declared.tables.Tables.{Tables}
use Rattle.ifs_policy.specs.Fits.{ConditionFits, sizes_of}
use Rattle.ifs_claim_parse.specs.declared.claim.Claim.{Claim}
use Rattle.ifs_claim_parse.specs.declared.claim.Claim.TheVariants.{NeverRests, RestsIn, NeverFrom, NeverEnters, NeverEntersWhile, NeverRuns, RestsWithin, NeverIn, MayFlap}
use Rattle.ifs_claim_parse.specs.declared.claim.Premise.{Premise}
use Rattle.ifs_claim_parse.specs.declared.keyword.Keyword.TheVariants as word
use Rattle.ifs_claim_parse.specs.Conditions.{IsPremise, by_itself, behind_known, behind_unknown}
use Rattle.ifs_claim_parse.specs.Says as says
use Rattle.ifs_claim_parse.specs.Says.{Says, AreApart, AreCommands, AreStates, AreWhile, CommandIsIn, IsCommand, IsState, NamesAreIn, StateIsIn}
use Rattle.ifs_claim_parse.specs.inner.Left.{Begins, BeginsWithNumber, BeginWithCommands, BeginWithStates, Behind}

module _ (tables : Tables) where
  pub are_while : (tokens r1 r2 r3 : List Token) (states : List StateId) (premise : Premise) → Begins word.In tokens r1 → BeginWithStates tables r1 states r2 → states ≢ []
      → Begins word.While r2 r3 → IsPremise tables r3 premise → AreWhile tables tokens states premise
  are_while tokens r1 r2 r3 states premise opens named some turns said = record {
    opening = opens.token;
    names = named.names;
    sign = turns.token;
    after = r3;
    whole = opens.whole ∙ ap (λ (l : List Token). opens.token ∷ l) (named.whole ∙ ap (λ (l : List Token). named.names ++ l) turns.whole);
    opens = opens.is;
    some = some;
    named = named.are;
    turns = turns.is;
    said = said;
  }

  pub never_rests : (tokens : List Token) (states : Vec StateId Global) (premise : Premise) → AreWhile tables tokens states.items premise
      → Behind word.Rest (Behind word.Never (Says tables)) tokens (NeverRests states premise)
  never_rests tokens states premise h = λ b is_b a is_a. says.never_rests a b tokens states premise is_a is_b h

  pub rests_in : (tokens : List Token) (states : Vec StateId Global) (premise : Premise) → AreWhile tables tokens states.items premise
      → Behind word.Rest (Says tables) tokens (RestsIn states premise)
  rests_in tokens states premise h = λ a is_a. says.rests_in a tokens states premise is_a h

  pub never_from : (tokens r1 r2 r3 : List Token) (from to : Vec StateId Global) → BeginWithStates tables tokens from.items r1 → from.items ≢ [] → Begins word.To r1 r2
      → BeginWithStates tables r2 to.items r3 → to.items ≢ [] → AreApart from.items to.items → r3 ≡ [] → Behind word.From (Behind word.Never (Says tables)) tokens (NeverFrom from to)
  never_from tokens r1 r2 r3 from to named some c others more apart last = λ b is_b a is_a.
      let whole : tokens ≡ named.names ++ c.token ∷ others.names =
      named.whole ∙ ap (λ (l : List Token). named.names ++ l)
      (c.whole ∙ ap (λ (l : List Token). c.token ∷ l) (others.whole ∙ ap (λ (l : List Token). others.names ++ l) last ∙ append-nil others.names)) in
      subst (λ (l : List Token). Says tables (a ∷ b ∷ l) (NeverFrom from to)) (sym whole)
      (says.never_from a b c.token named.names others.names from to is_a is_b some named.are c.is more others.are apart)

  pub never_enters : (tokens r1 : List Token) (states : Vec StateId Global) → BeginWithStates tables tokens states.items r1 → states.items ≢ [] → r1 ≡ []
      → Behind word.Enter (Behind word.Never (Says tables)) tokens (NeverEnters states)
  never_enters tokens r1 states named some last = λ b is_b a is_a.
      let whole : tokens ≡ named.names = named.whole ∙ ap (λ (l : List Token). named.names ++ l) last ∙ append-nil named.names in
      subst (λ (l : List Token). Says tables (a ∷ b ∷ l) (NeverEnters states)) (sym whole) (says.never_enters a b named.names states is_a is_b some named.are)

  pub never_enters_while : (tokens r1 r2 : List Token) (states : Vec StateId Global) (premise : Premise) → BeginWithStates tables tokens states.items r1 → states.items ≢ []
      → Begins word.While r1 r2 → IsPremise tables r2 premise → Behind word.Enter (Behind word.Never (Says tables)) tokens (NeverEntersWhile states premise)
  never_enters_while tokens r1 r2 states premise named some c said = λ b is_b a is_a.
      let whole : tokens ≡ named.names ++ c.token ∷ r2 = named.whole ∙ ap (λ (l : List Token). named.names ++ l) c.whole in
      subst (λ (l : List Token). Says tables (a ∷ b ∷ l) (NeverEntersWhile states premise)) (sym whole)
      (says.never_enters_while a b c.token named.names r2 states premise is_a is_b some named.are c.is said)

  pub never_runs : (tokens r1 r2 : List Token) (commands : Vec CommandId Global) (premise : Premise) → BeginWithCommands tables tokens commands.items r1 → commands.items ≢ []
      → Begins word.While r1 r2 → IsPremise tables r2 premise → Behind word.Run (Behind word.Never (Says tables)) tokens (NeverRuns commands premise)
  never_runs tokens r1 r2 commands premise named some c said = λ b is_b a is_a.
      let whole : tokens ≡ named.names ++ c.token ∷ r2 = named.whole ∙ ap (λ (l : List Token). named.names ++ l) c.whole in
      subst (λ (l : List Token). Says tables (a ∷ b ∷ l) (NeverRuns commands premise)) (sym whole)
      (says.never_runs a b c.token named.names r2 commands premise is_a is_b some named.are c.is said)

  pub rests_within : (tokens r1 r2 : List Token) (n : ℕ) → BeginsWithNumber tokens n r1 → Begins word.Changes r1 r2 → r2 ≡ []
      → Behind word.Within (Behind word.Rest (Says tables)) tokens (RestsWithin n)
  rests_within tokens r1 r2 n c d last = λ b is_b a is_a.
      let whole : tokens ≡ c.token ∷ d.token ∷ [] = c.whole ∙ ap (λ (l : List Token). c.token ∷ l) (d.whole ∙ ap (λ (l : List Token). d.token ∷ l) last) in
      subst (λ (l : List Token). Says tables (a ∷ b ∷ l) (RestsWithin n)) (sym whole) (says.rests_within a b c.token d.token n is_a is_b c.is d.is)

  pub never_in : (tokens r1 r2 r3 : List Token) (states : Vec StateId Global) (premise : Premise) → Begins word.Any tokens r1 → Begins word.Moment r1 r2
      → Begins word.Never r2 r3 → AreWhile tables r3 states.items premise → Behind word.At (Says tables) tokens (NeverIn states premise)
  never_in tokens r1 r2 r3 states premise b c d h = λ a is_a.
      let whole : tokens ≡ b.token ∷ c.token ∷ d.token ∷ r3 = b.whole ∙ ap (λ (l : List Token). b.token ∷ l) (c.whole ∙ ap (λ (l : List Token). c.token ∷ l) d.whole) in
      subst (λ (l : List Token). Says tables (a ∷ l) (NeverIn states premise)) (sym whole)
      (says.never_in a b.token c.token d.token r3 states premise is_a b.is c.is d.is h)

  pub may_flap : (tokens r1 r2 : List Token) (states : Vec StateId Global) → Begins word.Flap tokens r1 → BeginWithStates tables r1 states.items r2 → states.items ≢ [] → r2 ≡ []
      → Behind word.May (Says tables) tokens (MayFlap states)
  may_flap tokens r1 r2 states b named some last = λ a is_a.
      let whole : tokens ≡ b.token ∷ named.names =
      b.whole ∙ ap (λ (l : List Token). b.token ∷ l) (named.whole ∙ ap (λ (l : List Token). named.names ++ l) last ∙ append-nil named.names) in
      subst (λ (l : List Token). Says tables (a ∷ l) (MayFlap states)) (sym whole) (says.may_flap a b.token named.names states is_a b.is some named.are)

  state_in : (token : Token) (state : StateId) → IsState tables token state → StateIsIn tables state
  state_in token state h = slice_get_within tables.states state.0 h.name h.known

  states_in : (names : List Token) (states : List StateId) → AreStates tables names states → AllByRecursion (StateIsIn tables) states
  states_in [] [] h = tt
  states_in [] (x ∷ xs) h = absurd h
  states_in (n ∷ ns) [] h = absurd h
  states_in (n ∷ ns) (x ∷ xs) h = (state_in n x h.0, states_in ns xs h.1)

  command_in : (token : Token) (command : CommandId) → IsCommand tables token command → CommandIsIn tables command
  command_in token command h = slice_get_within tables.commands command.0 h.text h.known

  commands_in : (names : List Token) (commands : List CommandId) → AreCommands tables names commands → AllByRecursion (CommandIsIn tables) commands
  commands_in [] [] h = tt
  commands_in [] (x ∷ xs) h = absurd h
  commands_in (n ∷ ns) [] h = absurd h
  commands_in (n ∷ ns) (x ∷ xs) h = (command_in n x h.0, commands_in ns xs h.1)

  premise_fits : {tokens : List Token} {premise : Premise} → IsPremise tables tokens premise → ConditionFits (sizes_of tables) premise.condition
  premise_fits (by_itself tokens c said) = said.fits
  premise_fits (behind_known a tokens c is said has) = said.fits
  premise_fits (behind_unknown a tokens c is said has) = said.fits

  -- The policy has all that a claim names.
  pub names_in : {tokens : List Token} {claim : Claim} → Says tables tokens claim → NamesAreIn tables claim
  names_in (says.never_rests a b tokens states premise is_a is_b h) = (states_in h.names states.items h.named, premise_fits h.said)
  names_in (says.rests_in a tokens states premise is_a h) = (states_in h.names states.items h.named, premise_fits h.said)
  names_in (says.never_from a b c names others from to is_a is_b some named is_c more named' apart) = (states_in names from.items named, states_in others to.items named')
  names_in (says.never_enters a b names states is_a is_b some named) = states_in names states.items named
  names_in (says.never_enters_while a b c names tokens states premise is_a is_b some named is_c said) = (states_in names states.items named, premise_fits said)
  names_in (says.never_runs a b c names tokens commands premise is_a is_b some named is_c said) = (commands_in names commands.items named, premise_fits said)
  names_in (says.rests_within a b c d n is_a is_b is_c is_d) = tt
  names_in (says.never_in a b c d tokens states premise is_a is_b is_c is_d h) = (states_in h.names states.items h.named, premise_fits h.said)
  names_in (says.may_flap a b names states is_a is_b some named) = states_in names states.items named
