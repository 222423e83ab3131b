-- The periods of a policy's tests are in the range that the grammar accepts.
use Rattle.std.proofs.Common.{List, [], ◌∷◌, All, sym, subst}
use Rattle.std.specs.List.{AllByRecursion}
use Rattle.std.proofs.lemmas.Grind.{not_there}
use Rattle.std.proofs.lemmas.List.Elements.{All-nil, All-cons, All-head, All-tail}
use Rattle.ifs_base.specs.Sizes.{PeriodFits}
use Rattle.ifs_lex.specs.declared.token.Token.{Token}
use Rattle.ifs_parse.specs.Files.{File}
use Rattle.ifs_parse.specs.Grammar.{Says, IsSaid}
use Rattle.ifs_policy.specs.declared.policy.PolicyParts.{PolicyParts}
use Rattle.ifs_policy.specs.declared.mention.Owner.TheVariants as whose
use Rattle.ifs_policy.specs.declared.mention.Mention.TheVariants as says
use Rattle.ifs_policy.specs.declared.names.Names.{Names}
use Rattle.ifs_policy.specs.declared.tables.ExternalTest.{ExternalTest}
use Rattle.ifs_policy.specs.Mentions.{Mentioned, mentions_of}
use Rattle.ifs_policy.specs.Tables.{test_eq, test_of, after, no_names, names_after}
use Rattle.ifs_policy.specs.Resolution.{Resolves}
use Rattle.ifs_policy.proofs.Filled.{at_most, all_insert}
use Rattle.ifs_policy.proofs.Said.{OfMention, OfMentions, said_mentions}

-- Each mentioned period is in the range.
abbrev MentionTimed : Mentioned → Type 0
MentionTimed = OfMention (λ name. Unit {0}) (λ place. Unit {0})

abbrev AreTimed : List Mentioned → Type 0
AreTimed = OfMentions (λ name. Unit {0}) (λ place. Unit {0})

any_tokens : (tokens : List Token) → AllByRecursion (λ t. Unit {0}) tokens
any_tokens [] = tt
any_tokens (t ∷ rest) = (tt, any_tokens rest)

said_timed : (tokens : List Token) (f : File) → Says tokens f → AreTimed (mentions_of f.items)
said_timed tokens f said =
    said_mentions (λ t. Unit {0}) (λ name. Unit {0}) (λ place. Unit {0}) (λ t name each is. tt) (λ m t place each is. tt) tokens f (any_tokens tokens) said

-- The periods in the table of tests.
abbrev NamesTimed : Names → Type 0
NamesTimed names = All (λ test. PeriodFits test.period) names.tables.tests

timed_after : (names : Names) (mention : Mentioned) → MentionTimed mention → NamesTimed names → NamesTimed (after names mention)
timed_after names (says.External half command period) m h = all_insert test_eq (λ test. PeriodFits test.period) names.tables.tests (test_of command period) h m.1
timed_after names (says.Init whose.Always place) m h = h
timed_after names _ m h = h

all_timed_after : (names : Names) (mentions : List Mentioned) → AreTimed mentions → NamesTimed names → NamesTimed (names_after names mentions)
all_timed_after names [] m h = h
all_timed_after names (mention ∷ mentions) m h = all_timed_after (after names mention) mentions m.1 (timed_after names mention m.0 h)

periods_fit : (tokens : List Token) (f : File) (policy : PolicyParts) → Says tokens f → Resolves f.items policy → All (λ test. PeriodFits test.period) policy.tables.tests
periods_fit tokens f policy said r =
    let h = all_timed_after no_names (mentions_of f.items) (said_timed tokens f said) (All-nil (λ test. PeriodFits test.period)) in
    subst (λ (p : PolicyParts). All (λ test. PeriodFits test.period) p.tables.tests) (sym r.placed) h

-- Periods that are not out of range are in the range.
sure : (tests : List ExternalTest) → ¬ (¬ (All (λ test. PeriodFits test.period) tests)) → All (λ test. PeriodFits test.period) tests
sure [] h = All-nil (λ test. PeriodFits test.period)
sure (test ∷ tests) h =
    let first : PeriodFits test.period = record {
      not_zero = at_most 1 test.period (λ no. h (λ all. no (All-head (λ (t : ExternalTest). PeriodFits t.period) test tests all).not_zero));
      within = at_most test.period 604800 (λ no. h (λ all. no (All-head (λ (t : ExternalTest). PeriodFits t.period) test tests all).within));
    } in
    All-cons (λ test. PeriodFits test.period) test tests first (sure tests (λ no. h (λ all. no (All-tail (λ (t : ExternalTest). PeriodFits t.period) test tests all))))

-- The policy of a file that some tokens say has periods in the range.
pub said_periods_fit : (f : File) (policy : PolicyParts) → IsSaid f → Resolves f.items policy → All (λ test. PeriodFits test.period) policy.tables.tests
said_periods_fit f policy said r = sure policy.tables.tests (λ no. not_there said (λ s. no (periods_fit s.0 f policy s.1 r)))
