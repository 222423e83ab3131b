use Rattle.std.proofs.Common.{ℕ, zero, suc, ◌≡◌, ◌<◌, ◌+◌, List, length, Some, arith, ap, sym, ◌∙◌, subst, inl, inr}
use Rattle.std.proofs.lemmas.Bool.{cases_eq}
use Rattle.std.proofs.lemmas.Option.{same_Some}
use Rattle.ifs_base.specs.declared.op.Kind.{Kind}
use Rattle.ifs_image.specs.declared.parts.ImageParts.{ImageParts}
use Rattle.ifs_image.specs.Code.{code_of, effect}
use Rattle.ifs_verify.specs.Rules.{PlacesAreReached}
use Rattle.ifs_verify.specs.Typing.{IsTyping, FlowsOn}
use Rattle.ifs_verify.proofs.laws.one_typing.Goals as goal

agree_below : (n : ℕ) (image : ImageParts) (routine : ℕ) (kinds other : ℕ → List Kind) → PlacesAreReached image → IsTyping image routine kinds
    → IsTyping image routine other → (place : ℕ) → place < n → place < length (code_of image routine) → kinds place ≡ other place
agree_below zero image routine kinds other reached first second place below within = absurd (omega arith)
agree_below (suc n) image routine kinds other reached first second place below within =
    elim (cases_eq place 0) [
      | inl e ↦ subst (λ (k : ℕ). kinds k ≡ other k) (sym e) (first.start ∙ sym second.start)
      | inr ne ↦
          let r = reached routine place (omega arith) within in
          let before = agree_below n image routine kinds other reached first second r.0 (omega (arith, r.2)) (omega (arith, r.2)) in
          let f : FlowsOn image kinds r.0 r.1 = first.flows r.0 r.1 r.3 in
          let s : FlowsOn image other r.0 r.1 = second.flows r.0 r.1 r.3 in
          let same : Some f.0 ≡ Some s.0 = sym f.1 ∙ ap (λ (list : List Kind). effect image r.1 list) before ∙ s.1 in
          f.2 place r.4 ∙ same_Some f.0 s.0 same ∙ sym (s.2 place r.4)
    ]

pub returns : goal.returns
returns c = λ image routine kinds other reached first second place within.
    agree_below (place + 1) image routine kinds other reached first second place (omega arith) within
