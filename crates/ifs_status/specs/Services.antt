-- The status of a daemon as a service.
use Rattle.std.specs.Prelude.{ℕ, Bool, ◌||◌, nat_lt, if◌then◌else◌}
use Rattle.ifs_status.specs.declared.service.Service.{Service}
use Rattle.ifs_status.specs.declared.service.Service.TheVariants.{Good, Warning, Critical, Unknown}

-- A status is stale if it was written over 10 seconds ago, or if the daemon's last tick came over 10 seconds ago.
abbrev pub is_stale : ℕ → ℕ → Bool
is_stale written tick = nat_lt 10 written || nat_lt 10 tick

-- If a state that is asked about is missing in the image, the status is unknown, and so it is if it is stale. Otherwise the state
-- of the daemon says which status it has, and critical goes before a warning.
abbrev pub service : Bool → ℕ → ℕ → Bool → Bool → Service
service is_missing written tick is_warning is_critical =
    if is_missing || is_stale written tick then Unknown else
    if is_critical then Critical else
    if is_warning then Warning else Good
