-- A parser within wider limits gives the same values, and the same faults of the kinds that those limits keep.
use Rattle.std.proofs.Common.{◌≡◌, ℕ, zero, suc, ◌≤◌, refl, sym, ap, subst, Bool, true, false}
use Rattle.std.proofs.Common.{◌||◌, Option, Some, None, Ok, Err, List, [], length, arith}
use Rattle.std.specs.Prelude.{Result, if◌then◌else◌, option_map}
use Rattle.std.specs.Option.{option_map_or}
use Rattle.ifs_base.specs.Results.{◌>>=◌}
use Rattle.ifs_lex.specs.declared.token.Token.{Token}
use Rattle.ifs_lex.specs.declared.token.TokenPlace.{TokenPlace}
use Rattle.ifs_parse.specs.declared.fault.ParseFault.{ParseFault}
use Rattle.ifs_parse.specs.declared.fault.ParseFault.TheVariants.{Period, Nesting}
use Rattle.ifs_parse.specs.declared.mark.Mark.{Mark}
use Rattle.ifs_parse.specs.declared.mark.Mark.TheVariants as mark
use Rattle.ifs_parse.specs.declared.tree.Name.{Name}
use Rattle.ifs_parse.specs.declared.tree.Test.{Test}
use Rattle.ifs_parse.specs.declared.tree.Wish.{Wish}
use Rattle.ifs_parse.specs.declared.tree.Item.TheVariants.{InitState, Always as AlwaysItem}
use Rattle.ifs_parse.specs.declared.block.Statement.{Statement}
use Rattle.ifs_parse.specs.declared.parser.Operand.{Operand}
use Rattle.ifs_parse.specs.Trees as tree
use Rattle.ifs_parse.specs.Files.{file}
use Rattle.ifs_parse.specs.inner.Combined.{Progress, progress, Parse, after_token, place_of_first, ◌▸◌}
use Rattle.ifs_parse.specs.inner.Combined.{pure, found, accepted}
use Rattle.ifs_parse.specs.inner.Combined.{either, begins, expected, unexpected, no_more, required, many, many_from}
use Rattle.ifs_parse.specs.inner.Reading as reading
use Rattle.ifs_parse.specs.Words as words
use Rattle.ifs_parse.specs.Rules as rules
use Rattle.ifs_parse.specs.inner.Reading.{read_within}

module _ (kept : ParseFault → Type 0) where
  -- The second result is the value of the first, or its fault if that is kept.
  abbrev pub Alike : {A : Type 0} → Result A ParseFault → Result A ParseFault → Type 0
  Alike (Ok a) r = r ≡ Ok a
  Alike (Err fault) r = kept fault → r ≡ Err fault

  abbrev pub Follows : {X : Type 0} → Parse X → Parse X → Type 0
  Follows p q = (s : Progress) → Alike (p s) (q s)

  alike_same : {A : Type 0} (r : Result A ParseFault) → Alike r r
  alike_same (Ok a) = refl
  alike_same (Err fault) = λ k. refl

  alike_bind : {A B : Type 0} (r u : Result A ParseFault) (f g : A → Result B ParseFault) → Alike r u → ((a : A) → Alike (f a) (g a)) → Alike (r >>= f) (u >>= g)
  alike_bind (Ok a) u f g e h = subst (λ (u : Result _ ParseFault). Alike (f a) (u >>= g)) (sym e) (h a)
  alike_bind (Err fault) u f g e h = λ k. ap (λ (u : Result _ ParseFault). u >>= g) (e k)

  follows_same : {X : Type 0} (p : Parse X) → Follows p p
  follows_same p s = alike_same (p s)

  follows_then : {X Y : Type 0} (p u : Parse X) (q v : X → Parse Y) → Follows p u → ((x : X) → Follows (q x) (v x)) → Follows (p ▸ q) (u ▸ v)
  follows_then p u q v h k s = alike_bind (p s) (u s) (λ r. q r.0 r.1) (λ r. v r.0 r.1) (h s) (λ r. k r.0 r.1)

  follows_map : {X Y : Type 0} (p u : Parse X) (q : X → Parse Y) → Follows p u → Follows (p ▸ q) (u ▸ q)
  follows_map p u q h = follows_then p u q q h (λ x. follows_same (q x))

  follows_after : {X Y : Type 0} (p : Parse X) (q v : X → Parse Y) → ((x : X) → Follows (q x) (v x)) → Follows (p ▸ q) (p ▸ v)
  follows_after p q v k = follows_then p p q v (follows_same p) k

  alike_option : {A X : Type 0} (o : Option X) (f g : X → Result A ParseFault) (r u : Result A ParseFault) → ((x : X) → Alike (f x) (g x)) → Alike r u → Alike (option_map_or f o r) (option_map_or g o u)
  alike_option None f g r u h k = k
  alike_option (Some x) f g r u h k = h x

  follows_either : {X : Type 0} (m : Mark) (q v : TokenPlace → Parse X) (r u : Parse X) → ((place : TokenPlace) → Follows (q place) (v place)) → Follows r u → Follows (either m q r) (either m v u)
  follows_either m q v r u h k s = alike_option (accepted m s.left) (λ place. q place (after_token s)) (λ place. v place (after_token s)) (r s) (u s) (λ place. h place (after_token s)) (k s)

  follows_begins : {X : Type 0} (m : Mark) (q v : TokenPlace → Parse X) (r u : Parse (Option X)) → ((place : TokenPlace) → Follows (q place) (v place)) → Follows r u → Follows (begins m q r) (begins m v u)
  follows_begins m q v r u h k = follows_either m _ _ r u (λ place. follows_map (q place) (v place) (λ x. pure (Some x)) (h place)) k

  follows_many_from : {A X : Type 0} (part other : Parse (Option X)) (add : A → X → A) → Follows part other → (n : ℕ) (a : A) → Follows (many_from part add n a) (many_from other add n a)
  follows_many_from part other add h zero a s = refl
  follows_many_from part other add h (suc n) a s =
      alike_bind (part s) (other s) _ _ (h s)
      (λ r. alike_option r.0 (λ x. many_from part add n (add a x) r.1) (λ x. many_from other add n (add a x) r.1) (Ok (a, r.1)) (Ok (a, r.1))
      (λ x. follows_many_from part other add h n (add a x) r.1) refl)

  follows_many : {A X : Type 0} (part other : Parse (Option X)) (add : A → X → A) → Follows part other → (a : A) → Follows (many part add a) (many other add a)
  follows_many part other add h a s = follows_many_from part other add h (length s.left) a s

  follows_next : {X : Type 0} (m : Mark) (p u : Parse X) → Follows p u → Follows (reading.next_operand m p) (reading.next_operand m u)
  follows_next m p u h = follows_begins m (λ _. p) (λ _. u) no_more no_more (λ _. h) (follows_same no_more)

  module _ (one two : Parse (tree.Condition Test)) (h : Follows one two) where
    follows_chain : (first : tree.Condition Test) → Follows (reading.chain one first) (reading.chain two first)
    follows_chain first =
        follows_then one two _ _ h
        (λ second. follows_map (many (reading.next_operand mark.And one) rules.with_last []) (many (reading.next_operand mark.And two) rules.with_last []) _
        (follows_many (reading.next_operand mark.And one) (reading.next_operand mark.And two) rules.with_last (follows_next mark.And one two h) []))

    follows_all : Follows (reading.all one) (reading.all two)
    follows_all =
        follows_then one two _ _ h
        (λ first. follows_either mark.And (λ _. reading.chain one first) (λ _. reading.chain two first) _ _ (λ _. follows_chain first) (follows_same (pure (reading.operand first false))))

  module _ (all every : Parse Operand) (h : Follows all every) where
    follows_alternatives : (first : Operand) → Follows (reading.alternatives all first) (reading.alternatives every first)
    follows_alternatives first =
        follows_then all every _ _ h
        (λ second. follows_map (many (reading.next_operand mark.Or all) reading.with_operand (reading.others [] (first.is_chain || second.is_chain)))
        (many (reading.next_operand mark.Or every) reading.with_operand (reading.others [] (first.is_chain || second.is_chain))) _
        (follows_many (reading.next_operand mark.Or all) (reading.next_operand mark.Or every) reading.with_operand (follows_next mark.Or all every h) _))

    follows_any : Follows (reading.any all) (reading.any every)
    follows_any =
        follows_then all every _ _ h
        (λ first. follows_either mark.Or (reading.noted_alternatives all first) (reading.noted_alternatives every first) _ _
        (λ place s. alike_bind (reading.alternatives all first s) (reading.alternatives every first s) _ _ (follows_alternatives first s) (λ r. refl))
        (follows_same (pure first.condition)))

  follows_braced : {X : Type 0} (part other : Parse (Option X)) → Follows part other → Follows (reading.braced part) (reading.braced other)
  follows_braced part other h =
      follows_map (many part rules.with_last []) (many other rules.with_last []) _ (follows_many part other rules.with_last h [])

  module _ (p u : Parse (Option (Statement Test Name Wish))) (h : Follows p u) where
    follows_block : Follows (reading.block p) (reading.block u)
    follows_block =
        follows_either mark.BraceOpen _ _ _ _ (λ _. follows_map (reading.braced p) (reading.braced u) _ (follows_braced p u h))
        (follows_map (required p) (required u) _ (follows_map p u _ h))

    follows_part : Follows (reading.part p) (reading.part u)
    follows_part =
        follows_begins mark.Init _ _ _ _ (λ place. follows_map (reading.block p) (reading.block u) _ follows_block) (follows_map p u _ h)

    follows_state : Follows (reading.state_item (reading.part p)) (reading.state_item (reading.part u))
    follows_state =
        follows_after reading.string _ _ (λ name. follows_after (expected mark.BraceOpen) _ _ (λ _. follows_map (reading.braced (reading.part p)) (reading.braced (reading.part u)) _ (follows_braced (reading.part p) (reading.part u) follows_part)))

    follows_item : Follows (reading.item (reading.part p)) (reading.item (reading.part u))
    follows_item =
        follows_begins mark.InitState (λ place. reading.string ▸ λ name. pure (InitState place name)) (λ place. reading.string ▸ λ name. pure (InitState place name))
        (begins mark.State (λ _. reading.state_item (reading.part p)) (reading.part p ▸ λ p. pure (option_map AlwaysItem p)))
        (begins mark.State (λ _. reading.state_item (reading.part u)) (reading.part u ▸ λ p. pure (option_map AlwaysItem p)))
        (λ place. follows_same (reading.string ▸ λ name. pure (InitState place name)))
        (follows_begins mark.State _ _ _ _ (λ _. follows_state) (follows_map (reading.part p) (reading.part u) (λ p. pure (option_map AlwaysItem p)) follows_part))

    follows_items : Follows (reading.items (reading.item (reading.part p))) (reading.items (reading.item (reading.part u)))
    follows_items =
        follows_map (many (reading.item (reading.part p)) rules.with_last []) (many (reading.item (reading.part u)) rules.with_last []) _
        (follows_many (reading.item (reading.part p)) (reading.item (reading.part u)) rules.with_last follows_item [])

  module _ (fits wide : ℕ → Bool) (wider : (n : ℕ) → fits n ≡ true → wide n ≡ true) (kept_period : (place : TokenPlace) (n : ℕ) → kept (Period place) → wide n ≡ fits n) where
    alike_if : {A : Type 0} (b c : Bool) (r : Result A ParseFault) (place : TokenPlace) → (b ≡ true → c ≡ true) → (kept (Period place) → c ≡ b) → (a : A)
        → Alike (if b then Ok a else Err (Period place)) (if c then Ok a else Err (Period place))
    alike_if true c r place h k a = rw (h refl) refl
    alike_if false c r place h k a = λ q. rw (k q) refl

    follows_period : Follows (reading.period fits) (reading.period wide)
    follows_period s =
        alike_option (found (λ t. words.number_of_what t.what) s.left) _ _ _ _
        (λ n. alike_if (fits n) (wide n) (Ok (n, after_token s)) (place_of_first s.left) (wider n) (kept_period (place_of_first s.left) n) (n, after_token s)) (alike_same (unexpected s))

    follows_test : Follows (reading.test fits) (reading.test wide)
    follows_test =
        follows_after reading.string _ _
        (λ name. follows_either mark.Dot _ _ _ _ (λ _. follows_same (reading.link_test name))
        (follows_after (expected mark.Every) _ _ (λ _. follows_map (reading.period fits) (reading.period wide) _ follows_period)))

    follows_over : (p u q v : TokenPlace → Parse (tree.Condition Test)) → ((place : TokenPlace) → Follows (p place) (u place)) → ((place : TokenPlace) → Follows (q place) (v place))
        → Follows (reading.one_over p q (reading.test fits)) (reading.one_over u v (reading.test wide))
    follows_over p u q v h k =
        follows_either mark.Bang _ _ _ _ (λ place. follows_map (p place) (u place) _ (h place))
        (follows_either mark.ParenOpen _ _ _ _ (λ place. follows_map (q place) (v place) _ (k place)) (follows_map (reading.test fits) (reading.test wide) _ follows_test))

    -- If wider limits allow more to be open, the fault of nesting is not kept.
    follows_deep : {X : Type 0} (p : TokenPlace → Parse X) → ((place : TokenPlace) → kept (Nesting place) → ⊥) → (place : TokenPlace) → Follows (reading.deep place) (p place)
    follows_deep p none place s = λ k. absurd (none place k)

    follows_one : (room more : ℕ) → room ≤ more → ((place : TokenPlace) → kept (Nesting place) → more ≡ room) → Follows (reading.one fits room) (reading.one wide more)
    follows_one zero zero less same = follows_over reading.deep reading.deep reading.deep reading.deep (λ place. follows_same (reading.deep place)) (λ place. follows_same (reading.deep place))
    follows_one zero (suc more) less same =
        follows_over reading.deep (λ _. reading.one wide more) reading.deep (λ _. reading.any (reading.all (reading.one wide more)))
        (follows_deep (λ _. reading.one wide more) (λ place k. omega (arith, same place k))) (follows_deep (λ _. reading.any (reading.all (reading.one wide more))) (λ place k. omega (arith, same place k)))
    follows_one (suc room) zero less same = absurd (omega (arith, less))
    follows_one (suc room) (suc more) less same =
        let h = follows_one room more (omega (arith, less)) (λ place k. omega (arith, same place k)) in
        follows_over (λ _. reading.one fits room) (λ _. reading.one wide more) (λ _. reading.any (reading.all (reading.one fits room))) (λ _. reading.any (reading.all (reading.one wide more)))
        (λ _. h) (λ _. follows_any (reading.all (reading.one fits room)) (reading.all (reading.one wide more)) (follows_all (reading.one fits room) (reading.one wide more) h))

    follows_condition : (room more : ℕ) → room ≤ more → ((place : TokenPlace) → kept (Nesting place) → more ≡ room) → Follows (reading.condition fits room) (reading.condition wide more)
    follows_condition room more less same =
        follows_any (reading.all (reading.one fits room)) (reading.all (reading.one wide more)) (follows_all (reading.one fits room) (reading.one wide more) (follows_one room more less same))

    follows_statement_over : (p u : TokenPlace → Parse (Statement Test Name Wish)) → ((place : TokenPlace) → Follows (p place) (u place)) → Follows (reading.statement_over p) (reading.statement_over u)
    follows_statement_over p u h = follows_begins mark.If p u _ _ h (follows_same _)

    follows_statement : (room more : ℕ) → room ≤ more → ((place : TokenPlace) → kept (Nesting place) → more ≡ room) → Follows (reading.statement fits room) (reading.statement wide more)
    follows_statement zero zero less same = follows_statement_over reading.deep reading.deep (λ place. follows_same (reading.deep place))
    follows_statement zero (suc more) less same =
        follows_statement_over reading.deep (λ _. reading.conditional wide more) (follows_deep (λ _. reading.conditional wide more) (λ place k. omega (arith, same place k)))
    follows_statement (suc room) zero less same = absurd (omega (arith, less))
    follows_statement (suc room) (suc more) less same =
        let l : room ≤ more = omega (arith, less) in
        let k : (place : TokenPlace) → kept (Nesting place) → more ≡ room = λ place k. omega (arith, same place k) in
        follows_statement_over (λ _. reading.conditional fits room) (λ _. reading.conditional wide more)
        (λ _. follows_then (reading.condition fits room) (reading.condition wide more) _ _ (follows_condition room more l k)
        (λ c. follows_map (reading.block (reading.statement fits room)) (reading.block (reading.statement wide more)) _
        (follows_block (reading.statement fits room) (reading.statement wide more) (follows_statement room more l k))))

    -- Both parsers read files alike.
    pub follows_read : (room more : ℕ) → room ≤ more → ((place : TokenPlace) → kept (Nesting place) → more ≡ room) → (tokens : List Token) → Alike (read_within fits room tokens) (read_within wide more tokens)
    unfolding read_within
    follows_read room more less same tokens =
        alike_bind (reading.items (reading.item (reading.part (reading.statement fits room))) (progress tokens [])) (reading.items (reading.item (reading.part (reading.statement wide more))) (progress tokens []))
        (λ r. Ok (file r.0 r.1.notes)) (λ r. Ok (file r.0 r.1.notes))
        (follows_items (reading.statement fits room) (reading.statement wide more) (follows_statement room more less same) (progress tokens [])) (λ r. refl)
