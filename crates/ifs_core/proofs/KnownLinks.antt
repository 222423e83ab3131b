-- The known link states of interfaces, with one more interface.
use Rattle.std.proofs.Common.{◌≡◌, ◌≢◌, ℕ, zero, suc, ◌+◌, Bool, true, false, List, [], ◌∷◌, ◌++◌, ◌<◌, Some, length, All, take, get_or, refl, sym}
use Rattle.std.proofs.Common.{ap, subst, ◌∙◌, arith, append_assoc, append-nil}
use Rattle.std.specs.Prelude.{slice_get, if◌then◌else◌, map, option_map}
use Rattle.std.specs.List.{AllByRecursion}
use Rattle.std.specs.Str.{bytes_eq}
use Rattle.std.proofs.lemmas.Slice.Eq.{bytes_eq-Decides}
use Rattle.std.proofs.lemmas.List.Elements.{recursion_from_All}
use Rattle.std.proofs.lemmas.Option.{none-some, same_Some, slice_get-map}
use Rattle.ifs_base.specs.declared.op.LinkState.{LinkState}
use Rattle.ifs_base.specs.declared.op.LinkState.TheVariants.{Unknown, Down, Up}
use Rattle.ifs_core.specs.declared.carried.NamedLink.{NamedLink}
use Rattle.ifs_image.specs.Limits.{AreDistinct}
use Rattle.ifs_image.specs.declared.parts.ImageParts.{ImageParts}
use Rattle.ifs_sched.specs.Schedule.{run_from, entered, all_off}
use Rattle.ifs_core.specs.Event.{Behaviour}
use Rattle.ifs_core.specs.Gateway.{Known, opened}
use Rattle.ifs_core.specs.Carrying.{known_link, known_links, known_by, link_named, LinksStand}
use Rattle.ifs_core.proofs.Tables.{after_suc}

pub known_links-more : (names : List (List ℕ)) (links : List LinkState) (i : ℕ) (name : List ℕ) → slice_get names i ≡ Some name → i < length links
    → known_links (take (i + 1) names) (take (i + 1) links) ≡ known_links (take i names) (take i links) ++ known_link name (get_or links i Unknown)
known_links-more [] links i name e within = absurd (none-some name e)
known_links-more (n ∷ names) [] i name e within = absurd (omega (arith, within))
known_links-more (n ∷ names) (l ∷ links) zero name e within =
    append-nil (known_link n l) ∙ ap (λ (m : List ℕ). known_link m l) (same_Some n name e)
known_links-more (n ∷ names) (l ∷ links) (suc i) name e within =
    ap (λ (k : ℕ). known_links (take k (n ∷ names)) (take k (l ∷ links))) (after_suc i)
    ∙ ap (λ (rest : List NamedLink). known_link n l ++ rest) (known_links-more names links i name e (omega (arith, within)))
    ∙ sym (append_assoc (known_link n l) (known_links (take i names) (take i links)) (known_link name (get_or links i Unknown)))

-- ---- links are found by names

differ_if : (one other : List ℕ) (b : Bool) → bytes_eq one other ≡ b → one ≢ other → bytes_eq one other ≡ false
differ_if one other true e differ = absurd (differ ((bytes_eq-Decides one other).0 e))
differ_if one other false e differ = e

differ : (one other : List ℕ) → one ≢ other → bytes_eq one other ≡ false
differ one other h = differ_if one other (bytes_eq one other) refl h

-- An interface of another name is skipped.
passed : (name : List ℕ) (link : LinkState) (rest : List NamedLink) (wanted : List ℕ) → name ≢ wanted → link_named (known_link name link ++ rest) wanted ≡ link_named rest wanted
passed name Unknown rest wanted h = refl
passed name Down rest wanted h = ap (λ b. if b then Down else link_named rest wanted) (differ name wanted h)
passed name Up rest wanted h = ap (λ b. if b then Up else link_named rest wanted) (differ name wanted h)

-- An interface of this name is found if no other follows.
found : (name : List ℕ) (link : LinkState) (rest : List NamedLink) → link_named rest name ≡ Unknown → link_named (known_link name link ++ rest) name ≡ link
found name Unknown rest none = none
found name Down rest none = ap (λ b. if b then Down else link_named rest name) ((bytes_eq-Decides name name).1 refl)
found name Up rest none = ap (λ b. if b then Up else link_named rest name) ((bytes_eq-Decides name name).1 refl)

none_known : (names : List (List ℕ)) (links : List LinkState) (wanted : List ℕ) → AllByRecursion (λ other. other ≢ wanted) names → link_named (known_links names links) wanted ≡ Unknown
none_known [] links wanted h = refl
none_known (name ∷ names) [] wanted h = refl
none_known (name ∷ names) (link ∷ links) wanted h = passed name link (known_links names links) wanted h.0 ∙ none_known names links wanted h.1

-- A fact of all names is one of each.
at_in : (P : List ℕ → Type 0) (names : List (List ℕ)) (k : ℕ) (name : List ℕ) → AllByRecursion P names → slice_get names k ≡ Some name → P name
at_in P [] k name h e = absurd (none-some name e)
at_in P (x ∷ xs) zero name h e = subst P (same_Some x name e) h.0
at_in P (x ∷ xs) (suc k) name h e = at_in P xs k name h.1 e

-- The names after one differ from it.
later : (name : List ℕ) (names : List (List ℕ)) → AreDistinct (name ∷ names) → All (λ other. other ≢ name) names
later name names distinct = λ i d within e. distinct 0 (suc i) d (omega arith) (omega (arith, within)) (sym e)

rest_distinct : (name : List ℕ) (names : List (List ℕ)) → AreDistinct (name ∷ names) → AreDistinct names
rest_distinct name names distinct = λ i j d before within. distinct (suc i) (suc j) d (omega (arith, before)) (omega (arith, within))

each_found : (names : List (List ℕ)) (links : List LinkState) → AreDistinct names → length links ≡ length names
    → (k : ℕ) (name : List ℕ) → slice_get names k ≡ Some name → slice_get links k ≡ Some (link_named (known_links names links) name)
each_found [] links distinct same k name e = absurd (none-some name e)
each_found (n ∷ names) [] distinct same k name e = absurd (omega (arith, same))
each_found (n ∷ names) (l ∷ links) distinct same zero name e =
    let at : n ≡ name = same_Some n name e in
    ap Some (sym (found n l (known_links names links) (none_known names links n (recursion_from_All (λ other. other ≢ n) names (later n names distinct)))))
    ∙ ap (λ (m : List ℕ). Some (link_named (known_links (n ∷ names) (l ∷ links)) m)) at
each_found (n ∷ names) (l ∷ links) distinct same (suc k) name e =
    let apart : name ≢ n = at_in (λ other. other ≢ n) names k name (recursion_from_All (λ other. other ≢ n) names (later n names distinct)) e in
    each_found names links (rest_distinct n names distinct) (omega (arith, same)) k name e
    ∙ ap Some (sym (passed n l (known_links names links) name (λ q. apart (sym q))))

-- The next run has the carried number.
opened_runs : (b : Behaviour) (image : ImageParts) (known : Known) → (opened b image known).position.schedule.next_run ≡ run_from known.first_run
unfolding entered all_off
opened_runs b image known = refl

pub links_stand : LinksStand
links_stand b core carried next fits same from = record {
  links = record {
    kept = λ i k name at of.
        found_at i name at ∙ ap (λ (known : List NamedLink). Some (link_named known name)) from.links
        ∙ sym (each_found core.image.interfaces core.state.position.facts.links fits.interfaces.distinct same k name of);
    unknown = λ i name at none.
        found_at i name at ∙ ap (λ (known : List NamedLink). Some (link_named known name)) from.links
        ∙ ap Some (none_known core.image.interfaces core.state.position.facts.links name (recursion_from_All (λ other. other ≢ name) core.image.interfaces none));
  };
  runs = opened_runs b next (known_by carried next) ∙ from.next_run;
}
  where
    found_at : (i : ℕ) (name : List ℕ) → slice_get next.interfaces i ≡ Some name
        → slice_get (map (link_named carried.links) next.interfaces) i ≡ Some (link_named carried.links name)
    found_at i name at = slice_get-map (link_named carried.links) next.interfaces i ∙ ap (option_map (link_named carried.links)) at
