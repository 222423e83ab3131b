-- The log of a host after some events and then others.
use Rattle.std.proofs.Common.{◌≡◌, List, [], ◌∷◌, ◌++◌, Option, Some, None, refl, sym, ap, ◌∙◌, append_assoc}
use Rattle.std.proofs.Common.{append-nil}
use Rattle.std.specs.List.{filter_map}
use Rattle.ifs_session.specs.declared.host.HostEvent.TheVariants.{Started}
use Rattle.ifs_session.specs.Hosts.{Launch, HostLog, launched, Adds}
use Rattle.ifs_session.specs.Service.{ending_heard, given_to_host}

pub adds_nothing : (told : Option HostLog) → Adds [] told told
adds_nothing None = tt
adds_nothing (Some log) = sym (append-nil log)

pub adds_both : (more last : HostLog) (a b c : Option HostLog) → Adds more a b → Adds last b c → Adds (more ++ last) a c
adds_both more last a b None p q = tt
adds_both more last a None (Some z) p q = absurd q
adds_both more last None (Some y) (Some z) p q = absurd p
adds_both more last (Some x) (Some y) (Some z) p q = q ∙ ap (λ log. log ++ last) p ∙ append_assoc x more last

-- Starts of tests are no polls.
pub launched_heard : (starts : List Launch) → filter_map ending_heard (launched starts) ≡ []
launched_heard [] = refl
launched_heard (start ∷ starts) = launched_heard starts

pub launched_given : (starts : List Launch) → filter_map given_to_host (launched starts) ≡ launched starts
launched_given [] = refl
launched_given (start ∷ starts) = ap (λ log. Started start ∷ log) (launched_given starts)
