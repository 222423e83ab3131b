-- The policy's own events: its handlers answer by their yields, and a run over them has no costs.
use Rattle.std.specs.Prelude.{ℕ, ◌≡◌, ◌↔◌, ◌<◌, List, [], map, Option, Some, None, slice_get, IsTrue}
use Rattle.ifs_base.specs.Facts.{Facts}
use Rattle.ifs_base.specs.Effects.{Effects, nothing_yet}
use Rattle.ifs_core.specs.declared.step.Step.{Step}
use Rattle.ifs_core.specs.declared.step.Reply.{Reply}
use Rattle.ifs_core.specs.declared.step.Reply.TheVariants.{Done, Ticked}
use Rattle.ifs_core.specs.declared.step.Record.{Record}
use Rattle.ifs_core.specs.Event.{Handler, AlwaysInit, AlwaysBody, Init, Body, Behaviour, Event, opening}
use Rattle.ifs_core.specs.Machine.{IsBehaviour}
use Rattle.ifs_core.specs.Gateway.{Known, IsKnownOf, opened}
use Rattle.ifs_core.specs.Steps.{CoreState, replies, after_steps}
use Rattle.ifs_gen.specs.Trees.{Part, Policy}
use Rattle.ifs_policy.specs.Meaning.{Mentions, body_yield, init_yield}
use Rattle.ifs_sched.specs.Schedule.{has_test}
use Rattle.ifs_gen.specs.PlainSizes.{test_count, mask_of_part, room_of, CodeFits}
use Rattle.ifs_gen.specs.PolicyImage.{image_of}
use Rattle.ifs_policy.specs.Fits.{PolicyFits}

-- The yield of a state's part; nothing if there is no such state.
abbrev pub yield_in : (Part → Effects) → Option Part → Effects
yield_in yield None = nothing_yet
yield_in yield (Some part) = yield part

-- The yield of a handler of a policy under some facts.
abbrev pub yield_of : Policy → Handler → Facts → Effects
yield_of policy AlwaysInit facts = init_yield facts policy.always.init
yield_of policy AlwaysBody facts = body_yield facts policy.always.body
yield_of policy (Init k) facts = yield_in (λ part. init_yield facts part.init) (slice_get policy.states k)
yield_of policy (Body k) facts = yield_in (λ part. body_yield facts part.body) (slice_get policy.states k)

-- The set of tests that a state's body mentions; empty if there is no such state.
abbrev pub mask_of_state : ℕ → Option Part → ℕ
mask_of_state count None = 0
mask_of_state count (Some part) = mask_of_part count part

-- The policy's own behaviour: its handlers answer by their yields and cost nothing. The tests that a body mentions are active.
abbrev pub behaviour_of : Policy → Behaviour
behaviour_of policy = record {
  answer = yield_of policy;
  cost = λ handler facts. 0;
  always = mask_of_part (test_count policy) policy.always;
  active = λ k. mask_of_state (test_count policy) (slice_get policy.states k);
}

-- The opening of a policy, with this knowledge.
abbrev pub policy_opening : Policy → Known → Event
policy_opening policy known =
    opening (behaviour_of policy) known.links (map (λ test. test.period) policy.tables.tests) known.first_run policy.initial

-- The state after the opening.
abbrev pub policy_opened : Policy → Known → CoreState
policy_opened policy known = record { position = (policy_opening policy known).position; queue = (policy_opening policy known).commands; trace = [] }

-- A reply without its cost.
abbrev pub reply_without_cost : Reply → Reply
reply_without_cost (Done state queued cost) = Done state queued 0
reply_without_cost (Ticked evaluated state queued cost starts exhausted) = Ticked evaluated state queued 0 starts exhausted
reply_without_cost reply = reply

-- A record without its cost.
abbrev pub record_without_cost : Record → Record
record_without_cost r = record r { cost = 0 }

-- A state without the costs in its trace.
abbrev pub state_without_costs : CoreState → CoreState
state_without_costs s = record { position = s.position; queue = s.queue; trace = map record_without_cost s.trace }

-- Over a list of steps, a core that is opened on the image of a policy with this knowledge has the replies and the state of the policy, apart from costs.
pub record RunsAsPolicy (policy : Policy) (known : Known) (b : Behaviour) (steps : List Step) : Type 0 where
  pub opening : state_without_costs (opened b (image_of policy) known) ≡ policy_opened policy known
  pub replies : map reply_without_cost (replies b (room_of policy) steps (opened b (image_of policy) known)) ≡ replies (behaviour_of policy) (room_of policy) steps (policy_opened policy known)
  pub state : state_without_costs (after_steps b (room_of policy) steps (opened b (image_of policy) known)) ≡ after_steps (behaviour_of policy) (room_of policy) steps (policy_opened policy known)

-- The image of a policy means what the policy says: each behaviour of its handlers on the machine runs as the policy does, for all knowledge at the opening and all steps.
abbrev pub ImageMeansPolicy : Type 0
ImageMeansPolicy =
    (policy : Policy) → PolicyFits policy → CodeFits policy → (b : Behaviour) → IsBehaviour (image_of policy) b
    → (known : Known) → IsKnownOf (image_of policy) known → (steps : List Step) → RunsAsPolicy policy known b steps

-- The set of active tests of a part has exactly those that its body mentions.
abbrev pub ActiveAreMentioned : Type 0
ActiveAreMentioned = (count : ℕ) (part : Part) (test : ℕ) → test < count → IsTrue (has_test (mask_of_part count part) test) ↔ Mentions (record { 0 = test }) part.body
