-- Bytes that are not UTF-8, and texts that are not policies.
use Rattle.std.proofs.Common.{ℕ, List, length, ◌≡◌, ◌≢◌, ◌⊎◌, inl, inr, Result, Ok, Err, IfOk, subst, sym, arith}
use Rattle.std.proofs.lemmas.List.{take_all}
use Rattle.std.specs.Str.{IsUtf8, IsValidUpTo}
use Rattle.ifs_policy.specs.declared.front.PolicyFault.{PolicyFault}
use Rattle.ifs_policy.specs.declared.front.PolicyFault.TheVariants.{Text, Tokens, Names, Memory}
use Rattle.ifs_policy.specs.Texts.{HasNoPolicy, IsTextRefused}
use Rattle.ifs_file_commands.specs.Answers.{ArePolicy, IsNoText, Tells, TellsNoText, TellsNoLine}
use Rattle.ifs_asm.specs.declared.fault.AsmFault.TheVariants.{Unknown}
use Rattle.ifs_file_commands.specs.Faults.{no_text_words}
use Rattle.ifs_policy.specs.FaultWords.{policy_fault_words}
use Rattle.ifs_asm.specs.FaultWords.{asm_fault_words}
use Rattle.ifs_file_commands.specs.Lines.{refusal_line}

-- Bytes that are UTF-8 only up to a place before their end are not a text.
pub not_utf8 : (bytes : List ℕ) (n : ℕ) → IsValidUpTo bytes n → ¬ IsUtf8 bytes
not_utf8 bytes n valid whole =
    valid.longest (length bytes) valid.short (subst IsUtf8 (sym (take_all (length bytes) bytes (omega arith))) whole)

-- A text that is refused has no policy, unless an allocation failed.
has_none : (text : List ℕ) (defs : List (List ℕ × List ℕ)) (fault : PolicyFault) → IsTextRefused text defs fault → HasNoPolicy text defs
has_none text defs (Text fault) refused = refused.0
has_none text defs (Tokens fault) refused = refused.0
has_none text defs (Names fault) refused = refused.0
has_none text defs Memory refused = absurd refused

pub no_policy : (bytes text : List ℕ) (defs : List (List ℕ × List ℕ)) (fault : PolicyFault) → text ≡ bytes
    → (fault ≢ Memory → IsTextRefused text defs fault) → fault ≢ Memory → ¬ ArePolicy bytes defs
no_policy bytes text defs fault same refused other are =
    has_none bytes defs fault (subst (λ t. IsTextRefused t defs fault) same (refused other)) are.1.0 are.1.1

-- A fact about an answer follows from another fact about it.
pub each : {A E : Type 0} {P Q : A → Type 0} (result : Result A E) → ((answer : A) → P answer → Q answer) → IfOk result P → IfOk result Q
each (Ok answer) more known = more answer known
each (Err fault) more known = tt

-- The refusal of bytes that are not UTF-8.
pub told_no_text : {X : Type 0} (bytes printed : List ℕ) (line : ℕ) → IsNoText bytes line → printed ≡ refusal_line (no_text_words line) → TellsNoText bytes printed ⊎ X
told_no_text bytes printed line none is = inl (record { fault = line; holds = none; printed = is })

pub told_no_line : {X : Type 0} (bytes printed : List ℕ) (line : ℕ) → IsNoText bytes line → printed ≡ refusal_line (asm_fault_words (Unknown line)) → TellsNoLine bytes printed ⊎ X
told_no_line bytes printed line none is = inl (record { fault = line; holds = none; printed = is })

-- The refusal of a text, as a refusal of the same bytes.
pub told_no_policy : {X : Type 0} (bytes text printed : List ℕ) (defs : List (List ℕ × List ℕ)) (fault : PolicyFault) → text ≡ bytes
    → (fault ≢ Memory → IsTextRefused text defs fault) → fault ≢ Memory → printed ≡ refusal_line (policy_fault_words fault) → X ⊎ Tells policy_fault_words (IsTextRefused bytes defs) printed
told_no_policy bytes text printed defs fault same refused other is =
    inr (record { fault = fault; holds = subst (λ t. IsTextRefused t defs fault) same (refused other); printed = is })
