-- A table of macros while ropes are added.
use Rattle.std.proofs.Common.{◌≡◌, ℕ, ◌+◌, ◌≤◌, List, ◌++◌, length, Bool, true, false, cond, ltb, ◌||◌, Option, Some}
use Rattle.std.proofs.Common.{None, option_map, Result, Ok, Err, refl, sym, ◌∙◌, ap, subst, arith, length-append}
use Rattle.std.specs.Prelude.{IfSome, OnOk, OnErr, is_some}
use mathlib.Core.Path.{fun_ext}
use Rattle.std.specs.HashMap as hash
use Rattle.std.specs.HashMap.{HashMap}
use Rattle.std.specs.Map.{lookup}
use Rattle.std.specs.Str.{bytes_eq}
use Rattle.std.proofs.lemmas.Map.Text.{hash_map_updates_str}
use denote.Ref.{Bor}
use Rattle.ifs_lex.specs.declared.token.What.{What}
use Rattle.ifs_lex.specs.declared.macros.Entry.{Entry}
use Rattle.ifs_lex.specs.declared.ropes.Rope.{Rope}
use Rattle.ifs_lex.specs.declared.fault.LexFault.{LexFault}
use Rattle.ifs_lex.specs.declared.fault.LexFault.TheVariants.{OverLimit}
use Rattle.ifs_lex.specs.Expansion.{Macro, Macros, with_macro, known_as, is_given, value_of, defined}
use Rattle.ifs_lex.specs.inner.Ropes.{whats_at, Holds, KeepsRopes}
use Rattle.ifs_lex.specs.inner.Kept.{IsValue, macro_of}

-- A rope stays a value when ropes are added.
pub value_keeps : (before after : List (List What)) (rope : Rope) → KeepsRopes before after → IsValue before rope → IsValue after rope
value_keeps before after rope k v = record {
  holds = (omega (arith, k.room, v.holds.0), ap length (k.same rope.root v.holds.0) ∙ v.holds.1);
  within = v.within;
}

-- An entry that the table finds has a value.
pub value_found : (ropes : List (List What)) (found : Option Entry) (o : Option Entry) → ((entry : Entry) → o ≡ Some entry → IsValue ropes entry.rope) → found ≡ o → IfSome found (λ entry. IsValue ropes entry.rope)
value_found ropes None o values e = tt
value_found ropes (Some entry) o values e = values entry (sym e)

macro_keeps : (before after : List (List What)) (o : Option Entry) → KeepsRopes before after → ((entry : Entry) → o ≡ Some entry → IsValue before entry.rope) → option_map (macro_of after) o ≡ option_map (macro_of before) o
macro_keeps before after None k values = refl
macro_keeps before after (Some entry) k values =
    let v = values entry refl in
    let same = k.same entry.rope.root v.holds.0 in
    ap (λ ws. let made : Macro = record { whats = ws; given = entry.given } in Some made) same

-- Macros, by the function that finds their entries.
abbrev known_by : List (List What) → (List ℕ → Option Entry) → ℕ → Macros
known_by ropes find count = record { known = λ name. option_map (macro_of ropes) (find name); count = count }

-- The macros stay the same when ropes are added.
pub macros_keep : (before after : List (List What)) (find : List ℕ → Option Entry) (count : ℕ) → KeepsRopes before after → ((name : List ℕ) (entry : Entry) → find name ≡ Some entry → IsValue before entry.rope) → known_by after find count ≡ known_by before find count
macros_keep before after find count k values =
    let known : List (List What) → List ℕ → Option Macro = λ ropes name. option_map (macro_of ropes) (find name) in
    let same : known after ≡ known before = fun_ext (λ name. macro_keeps before after (find name) k (values name)) in
    ap (λ (f : List ℕ → Option Macro). let made : Macros = record { known = f; count = count } in made) same

-- Two joined ropes are a value if they are not too long.
pub value_both : (before after : List (List What)) (left right rope : Rope) → IsValue before left → IsValue before right → left.count + right.count ≤ 16384 → Holds after rope → whats_at after rope.root ≡ whats_at before left.root ++ whats_at before right.root → IsValue after rope
value_both before after left right rope l r within h e =
    let both = length-append (whats_at before left.root) (whats_at before right.root) in
    let size = ap length e in
    let a = h.1 in let b = l.holds.1 in let c = r.holds.1 in
    record { holds = h; within = omega arith }

entry_case : (ropes : List (List What)) (entry e : Entry) (t : Bool) (o : Option Entry) → IsValue ropes entry.rope → (o ≡ Some e → IsValue ropes e.rope) → cond t (Some entry) o ≡ Some e → IsValue ropes e.rope
entry_case ropes entry e true o v h k =
    let same : entry ≡ e = cc in
    let P : Entry → Type 0 = λ x. IsValue ropes x.rope in
    subst P same v
entry_case ropes entry e false o v h k = h k

-- The entry that a table has under a name.
abbrev pub found : {S : Type 0} → HashMap (Bor (List ℕ)) Entry S → List ℕ → Option Entry
found m name = hash.get_by (λ k. bytes_eq name k.now) m

-- A table with one more entry.
abbrev pub Puts : {S : Type 0} → HashMap (Bor (List ℕ)) Entry S → HashMap (Bor (List ℕ)) Entry S → List ℕ → Entry → Type 0
Puts m n bs entry = hash.UpdatesBy (λ x y. bytes_eq x.now y.now) (λ k. bytes_eq bs k.now) m n (Some entry)

pub values_put : {S E : Type 0} (ropes : List (List What)) (m n : HashMap (Bor (List ℕ)) Entry S) (bs : List ℕ) (entry : Entry) (r : Result (Option Entry) E) → IsValue ropes entry.rope → ((name : List ℕ) (e : Entry) → found m name ≡ Some e → IsValue ropes e.rope) → OnOk r (Puts m n bs entry) → OnErr r (hash.IsUnchanged m n) → (name : List ℕ) (e : Entry) → found n name ≡ Some e → IsValue ropes e.rope
values_put ropes m n bs entry (Ok old) v values ok err =
    λ name e h. entry_case ropes entry e (bytes_eq bs name) (found m name) v (values name e) (sym (hash_map_updates_str bs m n (Some entry) ok name) ∙ h)
values_put ropes m n bs entry (Err why) v values ok err =
    λ name e h. values name e (ap (lookup (λ k. bytes_eq name k.now)) (sym err) ∙ h)

cond_map : (ropes : List (List What)) (entry : Entry) (t : Bool) (o : Option Entry) → cond t (Some (macro_of ropes entry)) (option_map (macro_of ropes) o) ≡ option_map (macro_of ropes) (cond t (Some entry) o)
cond_map ropes entry true o = refl
cond_map ropes entry false o = refl

some_map : (ropes : List (List What)) (o : Option Entry) → is_some (option_map (macro_of ropes) o) ≡ is_some o
some_map ropes None = refl
some_map ropes (Some entry) = refl

-- The macros with one more entry.
pub macros_put : {S : Type 0} (ropes : List (List What)) (m n : HashMap (Bor (List ℕ)) Entry S) (bs : List ℕ) (entry : Entry) (old : Option Entry) → Puts m n bs entry → hash.hash_map_len n ≡ hash.hash_map_len m + cond (is_some old) 0 1 → old ≡ found m bs → with_macro bs (macro_of ropes entry) (known_by ropes (found m) (hash.hash_map_len m)) ≡ known_by ropes (found n) (hash.hash_map_len n)
macros_put ropes m n bs entry old puts size was =
    let before : List ℕ → Option Macro = λ asked. cond (bytes_eq bs asked) (Some (macro_of ropes entry)) (option_map (macro_of ropes) (found m asked)) in
    let after : List ℕ → Option Macro = λ asked. option_map (macro_of ropes) (found n asked) in
    let known : before ≡ after = fun_ext (λ asked. cond_map ropes entry (bytes_eq bs asked) (found m asked) ∙ ap (option_map (macro_of ropes)) (sym (hash_map_updates_str bs m n (Some entry) puts asked))) in
    let count = ap (λ t. hash.hash_map_len m + cond t 0 1) (some_map ropes (found m bs) ∙ ap is_some (sym was)) ∙ sym size in
    ap (λ (f : List ℕ → Option Macro). let made : Macros = record { known = f; count = hash.hash_map_len m + cond (is_some (option_map (macro_of ropes) (found m bs))) 0 1 } in made) known ∙
    ap (λ (k : ℕ). let made : Macros = record { known = after; count = k } in made) count

-- A name gets its macro if it is known, or if the table has room for it.
pub put_known : (line : ℕ) (given : Bool) (name : List ℕ) (whats : List What) (m n : Macros) → (is_some (m.known name) || ltb m.count 256) ≡ true → with_macro name (record { whats = whats; given = given }) m ≡ n → known_as line given name (Some whats) m ≡ Ok n
put_known line given name whats m n t e =
    let wanted : Bool → Result Macros LexFault = λ b. cond b (Ok (with_macro name (record { whats = whats; given = given }) m)) (Err (OverLimit line)) in
    ap wanted t ∙ ap (λ k. Ok k) e

-- A definition whose value is read.
pub define_read : (line : ℕ) (given : Bool) (name value : List ℕ) (m n : Macros) (whats : List What) (wanted : Result Macros LexFault) → is_given m name ≡ false → Some whats ≡ value_of m value → n ≡ m → known_as line given name (Some whats) n ≡ wanted → defined line given name value m ≡ wanted
unfolding defined
define_read line given name value m n whats wanted g v e h =
    ap (λ t. cond t (Ok m) (known_as line given name (value_of m value) m)) g ∙ ap (λ o. known_as line given name o m) (sym v) ∙ ap (λ k. known_as line given name (Some whats) k) (sym e) ∙ h

pub keeps_on : (a b c : List (List What)) → KeepsRopes a b → KeepsRopes b c → KeepsRopes a c
keeps_on a b c first second = record {
  room = omega (arith, first.room, second.room);
  same = λ n l. second.same n (omega (arith, first.room)) ∙ first.same n l;
}
