-- Which lines are requests: those whose parser gives one, and none that is too long. And the words that fit, one more at a time.
use Rattle.std.proofs.Common.{◌≡◌, ◌<◌, ◌+◌, ◌++◌, ◌∷◌, ◌∙◌, [], ℕ, Bool, List, Ok, None, true, false, refl, sym, ap, length, take, get_or}
use Rattle.std.specs.Prelude.{cond, filter}
use Rattle.std.proofs.lemmas.Bool.{lt-ltb}
use Rattle.std.proofs.lemmas.List.Elements.{filter_more}
use Rattle.ifs_session.specs.Places.{fault_in, is_request}
use Rattle.ifs_session.specs.Requests.{asked}
use Rattle.ifs_session.specs.inner.Parsing.{told_by}
use Rattle.ifs_session.specs.declared.places.RequestWord.{RequestWord}
use Rattle.ifs_session.specs.declared.request.Request.{Request}
use Rattle.ifs_session.specs.declared.request.Request.TheVariants as requests

pub no_fault : (request : Request) → fault_in (told_by (Ok request)) ≡ None
no_fault (requests.Link name link) = refl
no_fault (requests.Result test run value) = refl
no_fault (requests.Tick moment) = refl
no_fault requests.Take = refl
no_fault (requests.Question question) = refl
no_fault requests.Stop = refl
no_fault requests.Reload = refl

pub is_one : (request : Request) → is_request (told_by (Ok request)) ≡ true
is_one (requests.Link name link) = refl
is_one (requests.Result test run value) = refl
is_one (requests.Tick moment) = refl
is_one requests.Take = refl
is_one (requests.Question question) = refl
is_one requests.Stop = refl
is_one requests.Reload = refl

pub too_long : (line : List ℕ) → 256 < length line → is_request (asked line) ≡ false
too_long line longer = rw (lt-ltb 256 (length line) longer) refl

pub one_more : (p : RequestWord → Bool) (words found next : List RequestWord) (i : ℕ) (d : RequestWord) → i < length words → found ≡ filter p (take i words)
    → next ≡ found ++ cond (p (get_or words i d)) (get_or words i d ∷ []) [] → next ≡ filter p (take (i + 1) words)
one_more p words found next i d under so_far more =
    more ∙ ap (λ l. l ++ cond (p (get_or words i d)) (get_or words i d ∷ []) []) so_far ∙ sym (filter_more p words i d under)
