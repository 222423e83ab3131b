-- From a text to replies: the policy of a text, the meaning of the bytes of its image, and the meaning of an error.
-- Next files to read: Events (the policy's own events, without costs), Refused (the first limit that code exceeds), Sizes (sizes and lengths), Acceptance, PolicyImage, Sharing and PlainCode (the image of a policy and its code), PlainSizes (the limits). In `ifs_policy`, Texts defines the policy of a text, and Meaning the yield of its blocks.
use Rattle.std.specs.Prelude.{ℕ, ◌≡◌, ◌≢◌, List, map}
use Rattle.ifs_policy.specs.Texts.{HasPolicy, IsTextRefused}
use Rattle.ifs_policy.specs.declared.front.PolicyFault.{PolicyFault}
use Rattle.ifs_policy.specs.declared.front.PolicyFault.TheVariants as fronting
use Rattle.ifs_image.specs.declared.parts.ImageParts.{ImageParts}
use Rattle.ifs_image.specs.Limits.{names_of}
use Rattle.ifs_image.specs.Spelling as image
use Rattle.ifs_verify.specs.Refused.{AreNotAccepted}
use Rattle.ifs_verify.specs.declared.fault.VerifyFault.{VerifyFault}
use Rattle.ifs_verify.specs.declared.fault.VerifyFault.TheVariants.{OutOfMemory}
use Rattle.ifs_core.specs.Event.{Behaviour}
use Rattle.ifs_core.specs.Machine.{IsBehaviour}
use Rattle.ifs_core.specs.Gateway.{Known, IsKnownOf}
use Rattle.ifs_core.specs.Headline.{IsVerified}
use Rattle.ifs_core.specs.declared.step.Step.{Step}
use Rattle.ifs_gen.specs.declared.fault.GenFault.{GenFault}
use Rattle.ifs_gen.specs.declared.fault.GenFault.TheVariants as generating
use Rattle.ifs_gen.specs.declared.compile_fault.CompileFault.{CompileFault}
use Rattle.ifs_gen.specs.declared.compile_fault.CompileFault.TheVariants.{Text, Code, Memory}
use Rattle.ifs_gen.specs.Trees.{Policy}
use Rattle.ifs_gen.specs.Refused.{PassesFirst}
use Rattle.ifs_gen.specs.PlainSizes.{room_of, CodeFits}
use Rattle.ifs_gen.specs.PolicyImage.{image_of}
use Rattle.ifs_gen.specs.Events.{RunsAsPolicy}

-- The names and texts of an image are those of a policy, each at its own number.
pub record HasNamesOf (policy : Policy) (image : ImageParts) : Type 0 where
  pub interfaces : image.interfaces ≡ policy.tables.interfaces
  pub tests : map (λ test. test.text) image.tests ≡ map (λ test. test.command) policy.tables.tests
  pub periods : map (λ test. test.period) image.tests ≡ map (λ test. test.period) policy.tables.tests
  pub commands : image.commands ≡ policy.tables.commands
  pub states : names_of image.states ≡ policy.tables.states
  pub initial : image.initial ≡ policy.initial

-- Bytes are accepted as the image of a policy and run as the policy says.
pub record MeansPolicy (bytes : List ℕ) (policy : Policy) : Type 0 where
  -- the verifier accepts them as the policy's image, and they spell no other
  pub verified : IsVerified bytes (image_of policy)
  pub only : (other : ImageParts) → image.Spells bytes other → other ≡ image_of policy
  -- so the verifier rejects them only if an allocation fails
  pub refused : (fault : VerifyFault) → AreNotAccepted bytes fault → fault ≡ OutOfMemory
  -- its readers return the policy's names and texts
  pub names : HasNamesOf policy (image_of policy)
  -- a core that is opened on it is busy if its queue lacks the policy's room
  pub room : (image_of policy).budgets.commands ≡ room_of policy
  -- its handlers have a behaviour on the machine; for all knowledge at the opening and every list of steps, the replies, states, queues and traces are those of a run over the policy's own events, apart from costs
  pub behaviour : (b : Behaviour) × IsBehaviour (image_of policy) b
  pub runs : (b : Behaviour) → IsBehaviour (image_of policy) b
      → (known : Known) → IsKnownOf (image_of policy) known → (steps : List Step) → RunsAsPolicy policy known b steps

-- A text has no policy but this one. If its code keeps the limits, bytes that spell its image mean the policy.
pub record MeansThePolicy (text : List ℕ) (defs : List (List ℕ × List ℕ)) (policy : Policy) : Type 0 where
  pub one : (other : Policy) → HasPolicy text defs other → other ≡ policy
  pub means : CodeFits policy → (bytes : List ℕ) → image.Spells bytes (image_of policy) → MeansPolicy bytes policy

-- This holds of every text and all definitions beside it.
abbrev pub TextsMeanTheirPolicy : Type 0
TextsMeanTheirPolicy = (text : List ℕ) (defs : List (List ℕ × List ℕ)) (policy : Policy) → HasPolicy text defs policy → MeansThePolicy text defs policy

-- A text compiles: it has a policy whose code keeps the limits.
pub record Compiles (text : List ℕ) (defs : List (List ℕ × List ℕ)) : Type 0 where
  pub policy : Policy
  pub of_text : HasPolicy text defs policy
  pub code : CodeFits policy

-- A text compiles to these bytes: it has exactly one policy, whose code keeps the limits; they spell the image of the policy, and mean the policy.
pub record IsCompiled (text : List ℕ) (defs : List (List ℕ × List ℕ)) (bytes : List ℕ) : Type 0 where
  pub policy : Policy
  pub of_text : HasPolicy text defs policy
  pub one : (other : Policy) → HasPolicy text defs other → other ≡ policy
  pub code : CodeFits policy
  pub spelled : image.Spells bytes (image_of policy)
  pub means : MeansPolicy bytes policy

-- The code of a policy keeps the limits, and these bytes spell its image.
pub record IsWritten (policy : Policy) (bytes : List ℕ) : Type 0 where
  pub code : CodeFits policy
  pub spelled : image.Spells bytes (image_of policy)

-- The fault of compiling from the fault of a text. A failed allocation stays one.
abbrev pub of_policy : PolicyFault → CompileFault
of_policy fronting.Memory = Memory
of_policy fault = Text fault

-- The fault of compiling from a limit of code. A failed allocation stays one.
abbrev pub of_code : GenFault → CompileFault
of_code generating.Memory = Memory
of_code fault = Code fault

-- An error says of a text that it has no policy and this first fault, or that the code of its policy exceeds this limit first. A failed allocation says nothing.
abbrev pub IsCompileRefusal : List ℕ → List (List ℕ × List ℕ) → CompileFault → Type 0
IsCompileRefusal text defs (Text fault) = IsTextRefused text defs fault
IsCompileRefusal text defs (Code fault) = (policy : Policy) × HasPolicy text defs policy × PassesFirst policy fault
IsCompileRefusal text defs Memory = Unit {0}

-- An error says of a policy that its code exceeds this limit first. A failed allocation says nothing.
abbrev pub IsCodeRefusal : Policy → CompileFault → Type 0
IsCodeRefusal policy fault = (limit : GenFault) × (fault ≡ of_code limit) × (limit ≢ generating.Memory → PassesFirst policy limit)
