-- Bytes that are written or read in pieces.
use Rattle.std.proofs.Common.{◌≡◌, ℕ, zero, suc, ◌+◌, ◌<◌, List, [], ◌∷◌, ◌++◌, length, take, drop, get_or, slice_get}
use Rattle.std.proofs.Common.{Option, Some, None, refl, sym, ap, ◌∙◌, append_assoc, append-nil, arith}
use Rattle.std.proofs.Math.Seq.{take-suc}
use Rattle.std.proofs.lemmas.List.{drop_all}
use Rattle.std.specs.List.{flat_map}
use Rattle.std.specs.Io.KnownBytes.{append_known, Keeps, Consumes}

pub append_known-append : (known : Option (List ℕ)) (a b : List ℕ) → append_known (append_known known a) b ≡ append_known known (a ++ b)
append_known-append None a b = refl
append_known-append (Some bytes) a b = ap Some (append_assoc bytes a b)

pub append_known-nil : (known : Option (List ℕ)) → append_known known [] ≡ known
append_known-nil None = refl
append_known-nil (Some bytes) = ap Some (append-nil bytes)

pub consumes_nothing : (known : Option (List ℕ)) → Consumes known known []
consumes_nothing None = tt
consumes_nothing (Some bytes) = refl

-- Two texts that are read one after the other.
pub consumes_more : (a b c : Option (List ℕ)) (first then_more : List ℕ) → Consumes a b first → Consumes b c then_more → Consumes a c (first ++ then_more)
consumes_more None b c first then_more p q = tt
consumes_more (Some xs) None c first then_more p q = absurd p
consumes_more (Some xs) (Some ys) None first then_more p q = absurd q
consumes_more (Some xs) (Some ys) (Some zs) first then_more p q = p ∙ ap (λ r. first ++ r) q ∙ sym (append_assoc first then_more zs)

pub consumes_kept : (a b c : Option (List ℕ)) (text : List ℕ) → Consumes a b text → Keeps b c → Consumes a c text
consumes_kept None b c text p q = tt
consumes_kept (Some xs) None c text p q = absurd p
consumes_kept (Some xs) (Some ys) None text p q = absurd q
consumes_kept (Some xs) (Some ys) (Some zs) text p q = p ∙ ap (λ r. text ++ r) (sym q)

pub kept_consumes : (a b : Option (List ℕ)) → Keeps a b → Consumes a b []
kept_consumes None b p = tt
kept_consumes (Some xs) None p = absurd p
kept_consumes (Some xs) (Some ys) p = sym p

-- Nothing was read, and then nothing more.
pub keeps_nothing_read : (a b c : Option (List ℕ)) (text : List ℕ) → Consumes a b text → text ≡ [] → Keeps b c → Keeps a c
keeps_nothing_read None b c text p none q = tt
keeps_nothing_read (Some xs) None c text p none q = absurd p
keeps_nothing_read (Some xs) (Some ys) None text p none q = absurd q
keeps_nothing_read (Some xs) (Some ys) (Some zs) text p none q = q ∙ sym (p ∙ ap (λ t. t ++ ys) none)

-- The rest of a list from one of its items.
drop_at : {X : Type 0} (xs : List X) (i : ℕ) (x : X) → slice_get xs i ≡ Some x → drop i xs ≡ x ∷ drop (i + 1) xs
drop_at [] i x e = cc
drop_at (y ∷ xs) zero x e = cc
drop_at (y ∷ xs) (suc i) x e =
    let next : suc (i + 1) ≡ suc i + 1 = omega arith in
    drop_at xs i x e ∙ ap (λ n. x ∷ drop n (y ∷ xs)) next

-- The next piece of a list was written.
pub next_piece : {X : Type 0} (f : X → List ℕ) (xs : List X) (i : ℕ) (x : X) (known known' all : Option (List ℕ)) → slice_get xs i ≡ Some x
    → append_known known (flat_map f (drop i xs)) ≡ all → known' ≡ append_known known (f x) → append_known known' (flat_map f (drop (i + 1) xs)) ≡ all
next_piece f xs i x known known' all at told written =
    ap (λ k. append_known k (flat_map f (drop (i + 1) xs))) written
    ∙ append_known-append known (f x) (flat_map f (drop (i + 1) xs))
    ∙ ap (λ rest. append_known known (flat_map f rest)) (sym (drop_at xs i x at)) ∙ told

-- The front of a list with one more item.
pub longer_front : (bytes : List ℕ) (i : ℕ) → i < length bytes → take (i + 1) bytes ≡ take i bytes ++ get_or bytes i 0 ∷ []
longer_front bytes i within = let e : i + 1 ≡ suc i = omega arith in ap (λ n. take n bytes) e ∙ take-suc bytes i 0 within

-- The laws of written bytes.
pub ruleset written_laws = (append_known-append, append_known-nil, append_assoc, append-nil)
