-- The drivers of a target, one by one from the last.
use Rattle.std.proofs.Common.{◌≡◌, ℕ, nat_eq, Bool, true, false, List, [], ◌∷◌, map, Option, Some, None, refl, sym, ap, ◌∙◌, if◌then◌else◌}
use Rattle.cx_meaning.specs.declared.ports.PortRef.{PortRef}
use Rattle.cx_meaning.specs.declared.sights.Seen.{Seen}
use Rattle.cx_meaning.specs.Truths as truths
use Rattle.cx_meaning.specs.Instances.{Instance}
use Rattle.cx_meaning.specs.Active as plain
use Rattle.cx_meaning.specs.Active.{Owned, Acting, same_port, if_acting, if_target, acting, drivers, offset_of, offset_in, only_at}
use Rattle.cx_meaning.specs.Calls.{called}
use Rattle.cx_meaning.specs.Sights.{Look, guard_truth, Taken, Sources, Stopped, take_guard, taken, all_agreed, settle, target_seen}
use Rattle.cx_design.specs.declared.actives.Active.{Active}
use Rattle.cx_design.specs.declared.actives.Active.TheVariants as actives
use Rattle.cx_design.specs.declared.actives.ActiveEntry.{ActiveEntry}
use Rattle.cx_design.specs.PlainActives.{plain_entry, plain_active, capture_of}
use Rattle.cx_eval_drives.specs.declared.targets.Drive.{Drive}
use Rattle.cx_eval_drives.specs.declared.targets.Drive.TheVariants as drives
use Rattle.cx_eval_drives.specs.Drives.{kept_if, owned_for, acting_of, offset_among, offset_by, with_driver, with_assign, drive_of}

-- what is taken comes to this
abbrev pub come_to : Look → Taken → Drive
come_to look (Stopped by) = drives.Stopped by
come_to look (Sources []) = drives.Nothing
come_to look (Sources (s ∷ ss)) = drives.Gives (all_agreed look s ss)

driver_taken : (look : Look) (guard : truths.Truth) (source : PortRef) (rest : Taken) → with_driver guard (look source) (come_to look rest) ≡ come_to look (take_guard guard source rest)
driver_taken look truths.One source (Stopped by) = refl
driver_taken look truths.One source (Sources []) = refl
driver_taken look truths.One source (Sources (s ∷ ss)) = refl
driver_taken look truths.Zero source rest = refl
driver_taken look truths.Conflict source rest = refl
driver_taken look truths.Undefined source rest = refl

module _ (look : Look) (offset : Option ℕ → Option ℕ) where
  assign_taken : (o : Option ℕ) (a : Owned) (rest : List Acting) (d : Drive) → d ≡ come_to look (taken look rest) → with_assign look o a d ≡ come_to look (taken look (if_acting o a.assign rest))
  assign_taken None a rest d e = e
  assign_taken (Some n) a rest d e =
      ap (with_driver (guard_truth look n a.assign.guard) (look a.assign.source.port)) e ∙ driver_taken look (guard_truth look n a.assign.guard) a.assign.source.port (taken look rest)

  pub drive_taken : (xs : List Owned) → drive_of look offset xs ≡ come_to look (taken look (acting_of offset xs))
  drive_taken [] = refl
  drive_taken (a ∷ rest) = assign_taken (offset a.owner) a (acting_of offset rest) (drive_of look offset rest) (drive_taken rest)

-- what a drive is seen as
abbrev pub seen_of : Seen → Drive → Seen
seen_of undriven (drives.Stopped by) = by
seen_of undriven drives.Nothing = undriven
seen_of undriven (drives.Gives x) = x

settled : (undriven : Seen) (look : Look) (t : Taken) → seen_of undriven (come_to look t) ≡ settle undriven look t
settled undriven look (Stopped by) = refl
settled undriven look (Sources []) = refl
settled undriven look (Sources (s ∷ ss)) = refl

pub target_is : (undriven : Seen) (look : Look) (offset : Option ℕ → Option ℕ) (xs : List Owned) → seen_of undriven (drive_of look offset xs) ≡ target_seen undriven look (acting_of offset xs)
target_is undriven look offset xs = ap (seen_of undriven) (drive_taken look offset xs) ∙ settled undriven look (taken look (acting_of offset xs))

-- OFFSETS of what an active set stands for
among : (es : List ActiveEntry) (g : ℕ) → offset_among es g ≡ offset_in (map plain_entry es) g
among [] g = refl
among (e ∷ es) g = ap (λ (o : Option ℕ). if nat_eq e.group g then Some e.offset else o) (among es g)

capture_offset : (h : ℕ) (o : Option ℕ) (g : ℕ) → (capture_of h o).offset g ≡ only_at h g
capture_offset h None g = refl
capture_offset h (Some c) g = refl

pub offset_is : (i : Instance) (active : Active) (owner : Option ℕ) → offset_of (plain_active i active) owner ≡ offset_by active owner
offset_is i active None = refl
offset_is i actives.Nothing (Some g) = refl
offset_is i (actives.Group h) (Some g) = refl
offset_is i (actives.CallEnd h) (Some g) = capture_offset h (called i h) g
offset_is i (actives.Entries es) (Some g) = sym (among es.items g)

target_if : (b : Bool) (act : plain.Active) (offset : Option ℕ → Option ℕ) (a : Owned) (rest : List Acting) (xs : List Owned) → ((owner : Option ℕ) → offset_of act owner ≡ offset owner) → rest ≡ acting_of offset xs
    → if_target b act a rest ≡ acting_of offset (kept_if b a xs)
target_if true act offset a rest xs h e = ap (λ o. if_acting o a.assign rest) (h a.owner) ∙ ap (if_acting (offset a.owner) a.assign) e
target_if false act offset a rest xs h e = e

pub acting_is : (act : plain.Active) (offset : Option ℕ → Option ℕ) (p : PortRef) (xs : List Owned) → ((owner : Option ℕ) → offset_of act owner ≡ offset owner) → acting act p xs ≡ acting_of offset (owned_for p xs)
acting_is act offset p [] h = refl
acting_is act offset p (a ∷ xs) h = target_if (same_port a.assign.target p) act offset a (acting act p xs) (owned_for p xs) h (acting_is act offset p xs h)
