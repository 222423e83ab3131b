-- After one mention is decided, the rest decides for all.
use Rattle.std.proofs.Common.{◌≡◌, ℕ, ◌+◌, ◌<◌, inl, inr, List, ◌∷◌, map, drop, length, get_or, ap, sym, subst, ◌∙◌}
use Rattle.std.specs.Borrow.{Bor}
use Rattle.std.proofs.lemmas.List.{drop_more}
use Rattle.ifs_parse.specs.declared.tree.Name.{Name}
use Rattle.ifs_policy.specs.declared.mention.Mention.{Mention}
use Rattle.ifs_policy.specs.declared.fault.ResolveFault.{ResolveFault}
use Rattle.ifs_policy.specs.declared.names.Names.{Names}
use Rattle.ifs_policy.specs.Mentions.{Mentioned}
use Rattle.ifs_policy.specs.Tables.{after}
use Rattle.ifs_policy.specs.Faults.{IsSound, IsLowest, FirstBroken}
use Rattle.ifs_policy.specs.inner.Entries.{Decides}
use Rattle.ifs_policy.specs.inner.Seen.{seen}

-- A mention with a borrowed string and period.
abbrev Borrowed : Type 0
Borrowed = Mention (Bor Name) (Bor ℕ)

-- The remaining mentions are the current one and those after it.
turned : (names old : Names) (mentions : List Borrowed) (i : ℕ) (mention : Borrowed) (all : List Mentioned) → i < length mentions → mention ≡ get_or mentions i mention
    → Decides names (map seen (drop i mentions)) old all → Decides names (seen mention ∷ map seen (drop (i + 1) mentions)) old all
turned names old mentions i mention all lt at d =
    subst (λ (left : List Mentioned). Decides names left old all)
    (ap (map seen) (drop_more mentions i mention lt) ∙ ap (λ m. seen m ∷ map seen (drop (i + 1) mentions)) (sym at)) d

pub decides_more : (names old : Names) (mentions : List Borrowed) (i : ℕ) (mention : Borrowed) (all : List Mentioned) → i < length mentions → mention ≡ get_or mentions i mention
    → IsSound names (seen mention) → Decides names (map seen (drop i mentions)) old all → Decides (after names (seen mention)) (map seen (drop (i + 1) mentions)) old all
decides_more names old mentions i mention all lt at sound before =
    let d = turned names old mentions i mention all lt at before in
    record {
      sound = λ h. d.sound (sound, h);
      filled = d.filled;
      broken = λ fault h. d.broken fault (inr (sound, h));
    }

pub decides_here : (names old : Names) (mentions : List Borrowed) (i : ℕ) (mention : Borrowed) (all : List Mentioned) (fault : ResolveFault) → i < length mentions
    → mention ≡ get_or mentions i mention → IsLowest names (seen mention) fault → Decides names (map seen (drop i mentions)) old all → FirstBroken old all fault
decides_here names old mentions i mention all fault lt at lowest before = (turned names old mentions i mention all lt at before).broken fault (inl lowest)
