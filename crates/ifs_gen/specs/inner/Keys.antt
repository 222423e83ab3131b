-- Codes as table entries: being the same is an equivalence, and the same codes have the same hash.
use Rattle.std.specs.Prelude.{◌≡◌, true, List, [], ◌∷◌}
use Rattle.std.specs.Cmp.{IsEquivalence, on_equiv}
use Rattle.std.specs.Cmp.Lexicographic.{lists_equiv, nat_list_eq_equiv, bytes_decides}
use Rattle.std.specs.Hash.{HashWrites, slice, items_Alike, same_Alike, on_Alike}
use Rattle.ifs_base.specs.Spelling.{spelling}
use Rattle.ifs_base.specs.declared.op.Op.{Op}
use Rattle.ifs_gen.specs.Sharing.{same_code}

-- Being the same is an equivalence, as equality of bytes is one.
pub same_code_laws : IsEquivalence same_code
same_code_laws = lists_equiv (on_equiv spelling nat_list_eq_equiv)

-- The hash of an instruction is that of its four bytes.
abbrev pub fed_op : Op → HashWrites
fed_op op = spelling op ∷ []

-- The same codes have the same hash.
pub same_are_fed : (code other : List Op) → same_code code other ≡ true → slice fed_op code ≡ slice fed_op other
same_are_fed = (items_Alike (on_Alike spelling (same_Alike (λ bytes. bytes ∷ []) bytes_decides))).fed
