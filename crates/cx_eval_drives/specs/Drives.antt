-- The assignments of a target, and what they come to.
use Rattle.std.specs.Prelude.{ℕ, nat_eq, Bool, true, false, List, [], ◌∷◌, Option, Some, None, if◌then◌else◌}
use Rattle.cx_meaning.specs.declared.ports.PortRef.{PortRef}
use Rattle.cx_meaning.specs.declared.sights.Seen.{Seen}
use Rattle.cx_meaning.specs.declared.sights.Seen.TheVariants.{Conflict, Undefined}
use Rattle.cx_meaning.specs.Truths as truths
use Rattle.cx_meaning.specs.Active.{Owned, Acting, same_port, if_acting, only_at}
use Rattle.cx_meaning.specs.Sights.{Look, guard_truth, agreed}
use Rattle.cx_design.specs.declared.actives.Active.{Active}
use Rattle.cx_design.specs.declared.actives.Active.TheVariants as actives
use Rattle.cx_design.specs.declared.actives.ActiveEntry.{ActiveEntry}
use Rattle.cx_eval_drives.specs.declared.targets.Drive.{Drive}
use Rattle.cx_eval_drives.specs.declared.targets.Drive.TheVariants as drives

-- the assignments whose target is the port
abbrev pub kept_if : Bool → Owned → List Owned → List Owned
kept_if true a rest = a ∷ rest
kept_if false a rest = rest

abbrev pub owned_for : PortRef → List Owned → List Owned
owned_for p [] = []
owned_for p (a ∷ rest) = kept_if (same_port a.assign.target p) a (owned_for p rest)

-- of these the ones that are active, each at the offset of its owner
abbrev pub acting_of : (Option ℕ → Option ℕ) → List Owned → List Acting
acting_of offset [] = []
acting_of offset (a ∷ rest) = if_acting (offset a.owner) a.assign (acting_of offset rest)

abbrev pub offset_among : List ActiveEntry → ℕ → Option ℕ
offset_among [] g = None
offset_among (e ∷ es) g = if nat_eq e.group g then Some e.offset else offset_among es g

abbrev pub offset_by : Active → Option ℕ → Option ℕ
offset_by act None = Some 0
offset_by actives.Nothing (Some g) = None
offset_by (actives.Group h) (Some g) = only_at h g
offset_by (actives.CallEnd h) (Some g) = only_at h g
offset_by (actives.Entries es) (Some g) = offset_among es.items g

-- what drivers come to, from the last one on
abbrev pub with_source : Seen → Drive → Drive
with_source source (drives.Stopped by) = drives.Stopped by
with_source source drives.Nothing = drives.Gives source
with_source source (drives.Gives given) = drives.Gives (agreed source given)

abbrev pub with_driver : truths.Truth → Seen → Drive → Drive
with_driver truths.One source rest = with_source source rest
with_driver truths.Zero source rest = rest
with_driver truths.Conflict source rest = drives.Stopped Conflict
with_driver truths.Undefined source rest = drives.Stopped Undefined

abbrev pub with_assign : Look → Option ℕ → Owned → Drive → Drive
with_assign look None a rest = rest
with_assign look (Some offset) a rest =
    with_driver (guard_truth look offset a.assign.guard) (look a.assign.source.port) rest

abbrev pub drive_of : Look → (Option ℕ → Option ℕ) → List Owned → Drive
drive_of look offset [] = drives.Nothing
drive_of look offset (a ∷ rest) = with_assign look (offset a.owner) a (drive_of look offset rest)
