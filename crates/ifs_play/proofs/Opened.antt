-- A core that is opened on the image of a policy has made no steps.
use Rattle.std.proofs.Common.{◌≡◌, ℕ, List, [], ◌∙◌, subst}
use Rattle.ifs_image.specs.declared.parts.ImageParts.{ImageParts}
use Rattle.ifs_core.specs.Event.{Behaviour}
use Rattle.ifs_core.specs.Machine.{IsBehaviour}
use Rattle.ifs_core.specs.Gateway.{Known, IsKnownOf, OpenCore, opened}
use Rattle.ifs_core.specs.Headline.{IsKept}
use Rattle.ifs_gen.specs.Compiled.{IsWritten}
use Rattle.ifs_gen.specs.PolicyImage.{image_of}
use Rattle.ifs_gen.specs.Trees.{Policy}
use Rattle.ifs_policy.specs.Fits.{PolicyFits}
use Rattle.ifs_play.specs.Made.{HasMade}

pub opened_made : (known_of : ImageParts → Known) (policy : Policy) (bytes : List ℕ) (verified : ImageParts) (core : OpenCore) → PolicyFits policy → IsWritten policy bytes → verified ≡ image_of policy
    → IsKnownOf (image_of policy) (known_of (image_of policy)) → core.image ≡ verified → IsKept core.image → ((b : Behaviour) → IsBehaviour verified b → core.state ≡ opened b verified (known_of verified))
    → HasMade policy (known_of (image_of policy)) [] core
opened_made known_of policy bytes verified core fits written is links same kept state = record {
  fits = fits;
  code = written.code;
  links = links;
  behaviour = subst (λ i. (b : Behaviour) × IsBehaviour i b) (same ∙ is) kept.behaviour;
  image = same ∙ is;
  state = subst (λ i. (b : Behaviour) → IsBehaviour i b → core.state ≡ opened b i (known_of i)) is state;
}
