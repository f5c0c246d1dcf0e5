-- What the drivers of a port come to, where at most one is active and has no guard.
use Rattle.std.proofs.Common.{◌≡◌, ℕ, Some, None, Option, List, drop, length, refl, sym, ap, ◌∙◌, subst, arith}
use Rattle.std.proofs.lemmas.List.{drop_all, length-map}
use Rattle.std.specs.Prelude.{is_some}
use Rattle.cx_text.proofs.NumberLaws.{never}
use Rattle.cx_meaning.specs.declared.ports.PortRef.{PortRef}
use Rattle.cx_meaning.specs.declared.sights.Seen.{Seen}
use Rattle.cx_meaning.specs.Active.{Owned}
use Rattle.cx_meaning.specs.Designs as plain
use Rattle.cx_meaning.specs.Designs.{PlainGuard}
use Rattle.cx_meaning.specs.Instances.{Instance}
use Rattle.cx_meaning.specs.Sights.{Look, guard_truth, target_seen}
use Rattle.cx_meaning.specs.Truths.{One}
use Rattle.cx_eval_drives.specs.declared.targets.Drive.{Drive}
use Rattle.cx_eval_drives.specs.declared.targets.Drive.TheVariants as drives
use Rattle.cx_eval_drives.specs.Drives.{acting_of, drive_of, with_assign, with_driver, with_source}
use Rattle.cx_eval_drives.proofs.DriveLemmas.{seen_of, target_is}
use Rattle.cx_eval_network.specs.declared.marks.NodeMark.{NodeMark}
use Rattle.cx_eval_network.specs.declared.planned.PlannedAssign.{PlannedAssign}
use Rattle.cx_eval_network.specs.declared.planned.PlannedPort.{PlannedPort}
use Rattle.cx_eval_network.specs.declared.planned.PlannedPort.TheVariants.{Fixed}
use Rattle.cx_eval_network.specs.declared.soles.Sole.{Sole}
use Rattle.cx_eval_network.specs.declared.soles.Sole.TheVariants as soles
use Rattle.cx_eval_network.specs.Evaluated.{Agree, Gives, port_found}
use Rattle.cx_eval_network.specs.Lists.{IsSole}
use Rattle.cx_eval_network.specs.Planned.{Always, NumberedAssign, StandFor, assign_plan, guard_plan, numbered_assign}
use Rattle.cx_eval_network.proofs.EvaluateLemmas.{source_gives}

-- a guard whose plan is none is none
no_guard : (i : Instance) (look : Look) (offset : ℕ) (g : PlainGuard) → guard_plan i g ≡ Always → guard_truth look offset g ≡ One
no_guard i look offset plain.Always e = refl
no_guard i look offset (plain.Atom p) e = absurd (cc)
no_guard i look offset (plain.Negation g) e = absurd (cc)
no_guard i look offset (plain.All gs) e = absurd (cc)
no_guard i look offset (plain.Any gs) e = absurd (cc)
no_guard i look offset (plain.Compared c a b) e = absurd (cc)
no_guard i look offset (plain.Within from to) e = absurd (cc)

-- one without a guard before none gives what its source is seen as
pub sole_source : (i : Instance) (a : Owned) (look : Look) (own : List NodeMark) (drive : Drive) (offset : ℕ) (assign : NumberedAssign) → assign ≡ assign_plan i a → assign.guard ≡ Always → Agree i look own
    → drive ≡ drives.Nothing → IsSole own (soles.Source assign.source) (with_assign look (Some offset) a drive)
sole_source i a look own drive offset assign e guard agree none = (look q, drives_to, gives)
  where
    q : PortRef
    q = a.assign.source.port

    truth : guard_truth look offset a.assign.guard ≡ One
    truth = no_guard i look offset a.assign.guard (sym (ap (λ (x : NumberedAssign). x.guard) e) ∙ guard)

    drives_to : with_driver (guard_truth look offset a.assign.guard) (look q) drive ≡ drives.Gives (look q)
    drives_to = ap (λ t. with_driver t (look q) drive) truth ∙ ap (with_source (look q)) none

    gives : Gives (look q) (port_found own assign.source)
    gives = subst (λ s. Gives (look q) (port_found own s)) (sym (ap (λ (x : NumberedAssign). x.source) e)) (source_gives i look own agree q)

-- what one that is active comes to at each offset it comes to at that of others; one that is not active comes to what is behind it
module _ (own : List NodeMark) (look : Look) (a : Owned) (drive : Drive) (sole : Sole) where
  pub acting_as : (p o : Option ℕ) (at : ℕ) → is_some p ≡ is_some o → o ≡ Some at → ((offset : ℕ) → IsSole own sole (with_assign look (Some offset) a drive)) → IsSole own sole (with_assign look p a drive)
  acting_as None o at same e f = never (same ∙ ap is_some e)
  acting_as (Some offset) o at same e f = f offset

  pub resting_as : (p o : Option ℕ) → is_some p ≡ is_some o → o ≡ None → IsSole own sole drive → IsSole own sole (with_assign look p a drive)
  resting_as None o same e rest = rest
  resting_as (Some offset) o same e rest = never (sym (same ∙ ap is_some e))

-- all are gone through, from none on
pub none_left : (i : Instance) (assigns : List PlannedAssign) (owned : List Owned) (look : Look) (offset : Option ℕ → Option ℕ) (left : ℕ) → StandFor i assigns owned → left ≡ length assigns → drive_of look offset (drop left owned) ≡ drives.Nothing
none_left i assigns owned look offset left stand e =
    let long : length assigns ≡ length owned = sym (length-map assigns numbered_assign) ∙ ap length stand ∙ length-map owned (assign_plan i) in
    ap (drive_of look offset) (drop_all left owned (omega (arith, e, long)))

-- what a port is seen as by what its drivers come to
module _ (own : List NodeMark) (look : Look) (offset : Option ℕ → Option ℕ) (owned : List Owned) (undriven : Seen) where
  pub undriven_seen : IsSole own soles.Nothing (drive_of look offset owned) → Gives (target_seen undriven look (acting_of offset owned)) (port_found own (Fixed undriven))
  undriven_seen none = ap (seen_of undriven) (sym none) ∙ target_is undriven look offset owned

  pub source_seen : (source : PlannedPort) → IsSole own (soles.Source source) (drive_of look offset owned) → Gives (target_seen undriven look (acting_of offset owned)) (port_found own source)
  source_seen source sole = subst (λ x. Gives x (port_found own source)) (sym (ap (seen_of undriven) sole.1) ∙ target_is undriven look offset owned) sole.2
