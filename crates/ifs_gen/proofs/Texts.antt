-- The meaning of a text, by the image of its policy.
use Rattle.std.proofs.Common.{◌≡◌, ◌≢◌, ℕ, List, length, refl, sym, subst}
use Rattle.std.proofs.lemmas.Simd.{map-map}
use Rattle.ifs_lex.specs.declared.token.Token.{Token}
use Rattle.ifs_lex.specs.Expansion as lex
use Rattle.ifs_parse.specs.Files.{File}
use Rattle.ifs_parse.specs.Grammar.{Says, IsSaid}
use Rattle.ifs_parse.specs.declared.tree.Item.{Item}
use Rattle.ifs_policy.specs.Resolution.{Resolves}
use Rattle.ifs_policy.specs.Fits.{PolicyFits}
use Rattle.ifs_policy.specs.Texts.{HasPolicy, IsTextRefused}
use Rattle.ifs_policy.specs.declared.front.PolicyFault.{PolicyFault}
use Rattle.ifs_policy.specs.declared.front.PolicyFault.TheVariants as fronting
use Rattle.ifs_image.specs.declared.parts.TestSpec.{TestSpec}
use Rattle.ifs_image.specs.declared.parts.ImageParts.{ImageParts}
use Rattle.ifs_base.specs.Spelling.{IsReadBack}
use Rattle.ifs_image.specs.Spelling as image
use Rattle.ifs_verify.specs.Accepted.{IsAccepted}
use Rattle.ifs_verify.specs.Refused.{AreNotAccepted}
use Rattle.ifs_verify.specs.declared.fault.VerifyFault.{VerifyFault}
use Rattle.ifs_verify.specs.declared.fault.VerifyFault.TheVariants as verifying
use Rattle.ifs_core.specs.Headline.{AcceptedIsKept}
use Rattle.ifs_gen.specs.Trees.{Policy, External}
use Rattle.ifs_gen.specs.PlainSizes.{test_count, CodeFits}
use Rattle.ifs_gen.specs.PolicyImage.{shared_of, image_of}
use Rattle.ifs_gen.specs.Compiled.{MeansPolicy, TextsMeanTheirPolicy, IsCompiled, Compiles}
use Rattle.ifs_gen.specs.Compiled.{IsCompileRefusal, IsWritten, IsCodeRefusal, of_policy, of_code}
use Rattle.ifs_gen.specs.Refused.{PassesFirst}
use Rattle.ifs_gen.specs.declared.compile_fault.CompileFault.{CompileFault}
use Rattle.ifs_gen.specs.declared.compile_fault.CompileFault.TheVariants as compiling
use Rattle.ifs_gen.specs.declared.compile_fault.CompileFault.TheVariants.{Memory}
use Rattle.ifs_gen.specs.declared.fault.GenFault.{GenFault}
use Rattle.ifs_gen.specs.declared.fault.GenFault.TheVariants as generating
use Rattle.ifs_policy.proofs.Unresolved.{OneList, OneTree}
use Rattle.ifs_gen.proofs.Limits.{plain_is_accepted, names_same}
use Rattle.ifs_gen.proofs.Lifting as lifting
use Rattle.ifs_gen.proofs.Refusing.{does_not_fit}

-- Laws of the crates below.
abbrev pub OnePolicy : Type 0
OnePolicy = (items : List Item) (policy other : Policy) → Resolves items policy → Resolves items other → policy ≡ other

abbrev pub PoliciesFit : Type 0
PoliciesFit = (file : File) (policy : Policy) → IsSaid file → Resolves file.items policy → PolicyFits policy

abbrev pub OneImage : Type 0
OneImage = (bytes : List ℕ) (parts other : ImageParts) → image.Spells bytes parts → image.Spells bytes other → parts ≡ other

-- A text has at most one policy.
pub one_of_text : OneList → OneTree → OnePolicy → (text : List ℕ) (defs : List (List ℕ × List ℕ)) (policy other : Policy) → HasPolicy text defs policy → HasPolicy text defs other → other ≡ policy
one_of_text one_list one_tree one_policy text defs policy other h k =
    let same_tokens = one_list text defs k.tokens h.tokens k.spelled h.spelled in
    let said : Says h.tokens k.file = subst (λ (ts : List Token). Says ts k.file) same_tokens k.said in
    let same_file = one_tree h.tokens k.file h.file said h.said in
    one_policy h.file.items other policy (subst (λ (f : File). Resolves f.items other) same_file k.resolved) h.resolved

pub is_policy : PoliciesFit → (text : List ℕ) (defs : List (List ℕ × List ℕ)) (policy : Policy) → HasPolicy text defs policy → PolicyFits policy
is_policy fit text defs policy h = fit h.file policy ∣ (h.tokens, h.said) ∣₁ h.resolved

-- The verifier rejects accepted bytes only if an allocation fails.
only_memory : (bytes : List ℕ) (parts : ImageParts) → image.Spells bytes parts → IsAccepted parts → (fault : VerifyFault) → AreNotAccepted bytes fault → fault ≡ verifying.OutOfMemory
only_memory bytes parts spelled accepted verifying.OutOfMemory refuses = refl
only_memory bytes parts spelled accepted _ refuses = absurd (refuses (λ k. absurd (cc)) parts spelled accepted)

pub means : IsReadBack → AcceptedIsKept → OneImage → (policy : Policy) → PolicyFits policy → CodeFits policy → (bytes : List ℕ) → image.Spells bytes (image_of policy) → MeansPolicy bytes policy
means back kept one_image policy is code bytes spelled =
    let a = plain_is_accepted back policy is code in
    record {
      verified = record { spelled = spelled; accepted = a.0 };
      only = λ other h. one_image bytes other (image_of policy) h spelled;
      refused = only_memory bytes (image_of policy) spelled a.0;
      names = record {
        interfaces = refl;
        tests = map-map (λ (test : TestSpec). test.text) (λ (test : External). record { period = test.period; text = test.command }) policy.tables.tests;
        periods = map-map (λ (test : TestSpec). test.period) (λ (test : External). record { period = test.period; text = test.command }) policy.tables.tests;
        commands = refl;
        states = names_same (length (shared_of policy)) (test_count policy) 1 policy.tables.states policy.states is.count;
        initial = refl;
      };
      room = refl;
      behaviour = (kept (image_of policy) a.0 a.1).behaviour;
      runs = lifting.image_means_policy back kept policy is code;
    }

pub texts_mean : IsReadBack → OneList → OneTree → OnePolicy → PoliciesFit → OneImage → AcceptedIsKept → TextsMeanTheirPolicy
texts_mean back one_list one_tree one_policy fit one_image kept text defs policy h = record {
  one = λ other k. one_of_text one_list one_tree one_policy text defs policy other h k;
  means = λ code bytes spelled. means back kept one_image policy (is_policy fit text defs policy h) code bytes spelled;
}

-- The errors of the compiler.
module _ (text : List ℕ) (defs : List (List ℕ × List ℕ)) where
  pub refused_policy : (fault : PolicyFault) → (fault ≢ fronting.Memory → IsTextRefused text defs fault) → IsCompileRefusal text defs (of_policy fault)
  refused_policy fronting.Memory e = tt
  refused_policy _ e = e (λ k. absurd (cc))

  pub refused_code : (policy : Policy) → HasPolicy text defs policy → (fault : GenFault) → (fault ≢ generating.Memory → PassesFirst policy fault) → IsCompileRefusal text defs (of_code fault)
  refused_code policy h generating.Memory e = tt
  refused_code policy h _ e = (policy, h, e (λ k. absurd (cc)))

  pub is_compiled : TextsMeanTheirPolicy → (policy : Policy) → HasPolicy text defs policy → (bytes : List ℕ) → IsWritten policy bytes → IsCompiled text defs bytes
  is_compiled law policy h bytes w =
      let m = law text defs policy h in
      record { policy = policy; of_text = h; one = m.one; code = w.code; spelled = w.spelled; means = m.means w.code bytes w.spelled }

pub code_refusal : (policy : Policy) (text : List ℕ) (defs : List (List ℕ × List ℕ)) → HasPolicy text defs policy → (fault : CompileFault) → IsCodeRefusal policy fault → IsCompileRefusal text defs fault
code_refusal policy text defs h fault r = subst (IsCompileRefusal text defs) (sym r.1) (refused_code text defs policy h r.0 r.2)

-- A text that is rejected, except for a failed allocation, does not compile.
pub no_policy : (text : List ℕ) (defs : List (List ℕ × List ℕ)) (fault : PolicyFault) → IsTextRefused text defs fault → ¬ Compiles text defs
no_policy text defs fronting.Memory h k = h
no_policy text defs _ h k = h.0 k.policy k.of_text

pub none_compiled : TextsMeanTheirPolicy → (text : List ℕ) (defs : List (List ℕ × List ℕ)) (fault : CompileFault) → IsCompileRefusal text defs fault → fault ≢ Memory → ¬ Compiles text defs
none_compiled law text defs (compiling.Text fault) h other k = no_policy text defs fault h k
none_compiled law text defs (compiling.Code fault) h other k =
    let same = (law text defs h.0 h.1).one k.policy k.of_text in
    does_not_fit h.0 fault h.2 (subst CodeFits same k.code)
none_compiled law text defs compiling.Memory h other k = absurd (other refl)
