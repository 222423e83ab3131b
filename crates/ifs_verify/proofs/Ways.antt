-- Ways and typings.
use Rattle.std.proofs.Common.{ℕ, ◌≡◌, ◌≤◌, List, Some, arith, ap, sym, ◌∙◌}
use Rattle.std.proofs.lemmas.Option.{same_Some}
use Rattle.ifs_base.specs.declared.op.Kind.{Kind}
use Rattle.ifs_image.specs.declared.parts.ImageParts.{ImageParts}
use Rattle.ifs_image.specs.Code.{effect}
use Rattle.ifs_verify.specs.Typing.{IsTyping, FlowsOn}
use Rattle.ifs_verify.specs.Ways.{Leads, begins, goes_on}

-- A way over places up to a last one is a way over places up to a later one.
pub Leads-later : (image : ImageParts) (routine last later place : ℕ) (kinds : List Kind) → last ≤ later → Leads image routine last place kinds → Leads image routine later place kinds
Leads-later image routine last later place kinds le begins = begins
Leads-later image routine last later place kinds le (goes_on from to op before after way below is effect_is successor) =
    goes_on from to op before after (Leads-later image routine last later from before le way) (omega arith) is effect_is successor

-- Each typing has at a place what a way leads there with.
pub led : (image : ImageParts) (routine last place : ℕ) (kinds : List Kind) (typing : ℕ → List Kind) → IsTyping image routine typing
    → Leads image routine last place kinds → typing place ≡ kinds
led image routine last place kinds typing is_typing begins = is_typing.start
led image routine last place kinds typing is_typing (goes_on from to op before after way below is effect_is successor) =
    let flow : FlowsOn image typing from op = is_typing.flows from op is in
    let same : typing from ≡ before = led image routine last from before typing is_typing way in
    let e : Some flow.0 ≡ Some after = sym flow.1 ∙ ap (λ (list : List Kind). effect image op list) same ∙ effect_is in
    flow.2 to successor ∙ same_Some flow.0 after e
