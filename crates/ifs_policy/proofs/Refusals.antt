-- A rejected tree has no policy, and the walk over its items rejects it with its first fault.
use Rattle.std.proofs.Common.{◌≡◌, ◌≢◌, inl, inr, ℕ, true≢false, IsTrue, List, [], ◌∷◌, sym, subst, ◌∙◌}
use Rattle.std.specs.List.{list_any}
use Rattle.ifs_lex.specs.declared.token.TokenPlace.{TokenPlace}
use Rattle.ifs_parse.specs.declared.tree.Item.{Item}
use Rattle.ifs_policy.specs.declared.fault.ResolveFault.{ResolveFault}
use Rattle.ifs_policy.specs.declared.fault.ResolveFault.TheVariants.{Memory}
use Rattle.ifs_policy.specs.declared.names.Names.{Names}
use Rattle.ifs_policy.specs.declared.policy.PolicyParts.{PolicyParts}
use Rattle.ifs_policy.specs.Mentions.{Mentioned, mentions_of}
use Rattle.ifs_policy.specs.Tables.{after, no_names, tables_of}
use Rattle.ifs_policy.specs.Faults.{AreSound, FirstBroken, AreKnown, FirstUnknown}
use Rattle.ifs_policy.specs.Faults.{is_state, IsTreeRefused, no_state, broken, unknown}
use Rattle.ifs_policy.specs.Resolution.{Resolves}
use Rattle.ifs_policy.specs.declared.placing.PolicyTrees.{PolicyTrees}
use Rattle.ifs_policy.specs.inner.Entries.{IsFirst}
use Rattle.ifs_policy.specs.inner.Walked.{Walked}

pub broken_not_sound : (names : Names) (mentions : List Mentioned) (fault : ResolveFault) → FirstBroken names mentions fault → ¬ AreSound names mentions
broken_not_sound names [] fault h sound = h
broken_not_sound names (mention ∷ rest) fault (inl lowest) sound = sound.0 fault lowest.broken
broken_not_sound names (mention ∷ rest) fault (inr later) sound = broken_not_sound (after names mention) rest fault later.1 sound.1

unknown_not_known : (states : List (List ℕ)) (mentions : List Mentioned) (place : TokenPlace) → FirstUnknown states mentions place → ¬ AreKnown states mentions
unknown_not_known states [] place h known = h
unknown_not_known states (mention ∷ rest) place (inl here) known = here.1 known.0
unknown_not_known states (mention ∷ rest) place (inr later) known = unknown_not_known states rest place later.1 known.1

pub refused_has_none : (items : List Item) (fault : ResolveFault) → IsTreeRefused items fault → (policy : PolicyParts) → ¬ Resolves items policy
refused_has_none items _ (no_state h) policy r = true≢false (sym r.has_state ∙ h)
refused_has_none items _ (broken fault some h) policy r = broken_not_sound no_names (mentions_of items) fault h r.sound
refused_has_none items _ (unknown place some sound h) policy r = unknown_not_known (tables_of (mentions_of items)).states (mentions_of items) place h r.known

first_is_refused : (items : List Item) (fault : ResolveFault) → IsTrue (list_any is_state items) → IsFirst no_names (mentions_of items) fault → IsTreeRefused items fault
first_is_refused items fault some (inl h) = broken fault some h
first_is_refused items fault some (inr h) = subst (IsTreeRefused items) (sym h.1.1) (unknown h.1.0 some h.0 h.1.2)

-- The walk returned a fault, which is the first one of the items.
pub walk_refuses : (items walked : List Item) (returned fault : ResolveFault) → returned ≡ fault → walked ≡ items → IsTrue (list_any is_state walked)
    → (fault ≢ Memory → IsFirst no_names (mentions_of walked) fault) → returned ≢ Memory → IsTreeRefused items returned
walk_refuses items walked returned fault is same some first other =
    subst (IsTreeRefused items) (sym is)
    (subst (λ (l : List Item). IsTreeRefused l fault) same (first_is_refused walked fault some (first (subst (λ f. f ≢ Memory) is other))))

-- The result of the walk is the policy of the items.
pub resolved : (items : List Item) (placed : PolicyTrees) (names : Names) → IsTrue (list_any is_state items) → Walked items placed names
    → Resolves items (record { tables = names.tables; initial = placed.initial; always = placed.always; states = placed.states })
resolved items placed names some w = record {
  has_state = some;
  sound = w.sound;
  known = w.known;
  placed = λ i. record { tables = w.tables i; initial = w.initial i; always = w.always i; states = w.states i };
}
