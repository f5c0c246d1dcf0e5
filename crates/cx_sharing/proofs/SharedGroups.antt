-- The groups of the shared component: their assignments, what they drive and call, and whether they capture.
use Rattle.std.proofs.Common.{◌≡◌, ℕ, false, ◌||◌, Option, Some, None, List, [], ◌∷◌, map, refl, ap, ◌∙◌}
use Rattle.std.specs.Prelude.{get_or}
use Rattle.cx_meaning.specs.declared.ports.PortRef.{PortRef}
use Rattle.cx_meaning.specs.declared.ports.PortRef.TheVariants as ports
use Rattle.cx_meaning.specs.Designs.{PlainAssign, PlainGroup, PlainComponent, group_at, no_group, PlainStatement}
use Rattle.cx_meaning.specs.Instances.{Instance, At, cells_of, part_of}
use Rattle.cx_meaning.specs.Control.{groups_of, targets_cell, assigns_drive, group_drives, groups_drive, drives}
use Rattle.cx_meaning.specs.Islands.{kind_length, group_length}
use Rattle.cx_meaning.specs.Calls.{if_instance, called_by, called_in, called, enables_at, enables_primitive, captures_in, captures}
use Rattle.cx_rewrites.specs.Moving.{moved_assign, moved_group, moved_statement}
use Rattle.cx_rewrites.specs.Renaming.{renamed}
use Rattle.cx_sharing.specs.Uses.{is_candidate}
use Rattle.cx_sharing.specs.Giving.{new_cell}
use Rattle.cx_rewrites.proofs.MovedLists.{moved_group_at, groups_of-moved}
use Rattle.cx_sharing.proofs.TwinLemmas.{AtTwin, no_twins, twin_rows, twin_parts, IsTwin, own_equal_back}

module _ (i j : Instance) (twin : IsTwin i j) where
  abbrev new : ℕ → ℕ
  new = new_cell (part_of i)

  group_shared : (g : ℕ) → group_at (part_of j) g ≡ moved_group (renamed new) (group_at (part_of i) g)
  group_shared g = ap (λ (x : PlainComponent). get_or x.groups g no_group) twin.part ∙ moved_group_at (renamed new) (part_of i).groups g

  pub assigns_shared : (g : ℕ) → (group_at (part_of j) g).assigns ≡ map (moved_assign (renamed new)) (group_at (part_of i) g).assigns
  assigns_shared g = ap (λ (x : PlainGroup). x.assigns) (group_shared g)

  pub length_shared : (g : ℕ) → group_length (part_of j) g ≡ group_length (part_of i) g
  length_shared g = ap (λ (x : PlainGroup). kind_length x.kind) (group_shared g)

  -- WHAT IS DRIVEN, of a cell that is no candidate
  target_drives : (t : PortRef) (c : ℕ) → is_candidate (part_of i) c ≡ false → targets_cell (renamed new t) (new c) ≡ targets_cell t c
  target_drives (ports.Cell d n) c none = own_equal_back (part_of i) d c none
  target_drives (ports.Input n) c none = refl
  target_drives (ports.Output n) c none = refl
  target_drives (ports.Done g) c none = refl
  target_drives (ports.Literal w v) c none = refl

  assigns_drive-moved : (list : List PlainAssign) (c : ℕ) → is_candidate (part_of i) c ≡ false → assigns_drive (map (moved_assign (renamed new)) list) (new c) ≡ assigns_drive list c
  assigns_drive-moved [] c none = refl
  assigns_drive-moved (a ∷ rest) c none =
      ap (λ b. b || assigns_drive (map (moved_assign (renamed new)) rest) (new c)) (target_drives a.target c none)
      ∙ ap (λ b. targets_cell a.target c || b) (assigns_drive-moved rest c none)

  pub groups_drive-shared : (gs : List ℕ) (c : ℕ) → is_candidate (part_of i) c ≡ false → groups_drive (part_of j) gs (new c) ≡ groups_drive (part_of i) gs c
  groups_drive-shared [] c none = refl
  groups_drive-shared (g ∷ gs) c none =
      ap (λ b. b || groups_drive (part_of j) gs (new c)) (ap (λ list. assigns_drive list (new c)) (assigns_shared g) ∙ assigns_drive-moved (group_at (part_of i) g).assigns c none)
      ∙ ap (λ b. group_drives (part_of i) g c || b) (groups_drive-shared gs c none)

  pub drives_shared : (s : PlainStatement) (c : ℕ) → is_candidate (part_of i) c ≡ false → drives (part_of j) (moved_statement (renamed new) s) (new c) ≡ drives (part_of i) s c
  drives_shared s c none = ap (λ gs. groups_drive (part_of j) gs (new c)) (groups_of-moved (renamed new) s) ∙ groups_drive-shared (groups_of s) c none

  -- WHAT IS CALLED
  abbrev pub called_there : Option ℕ → Option ℕ
  called_there None = None
  called_there (Some c) = Some (new c)

  at_called : {at to : At} (c : ℕ) (later more : Option ℕ) → AtTwin (part_of i) c at to → more ≡ called_there later → if_instance to (new c) more ≡ called_there (if_instance at c later)
  at_called c later more no_twins e = e
  at_called c later more (twin_rows p kind) e = e
  at_called c later more (twin_parts k child other kind beside) e = refl

  called_in-moved : (list : List PlainAssign) → called_in (cells_of j) (map (moved_assign (renamed new)) list) ≡ called_there (called_in (cells_of i) list)
  called_in-moved [] = refl
  called_in-moved (a ∷ rest) = by a.target (called_in-moved rest)
    where
      by : (p : PortRef) → called_in (cells_of j) (map (moved_assign (renamed new)) rest) ≡ called_there (called_in (cells_of i) rest)
          → called_by (cells_of j) (renamed new p) (called_in (cells_of j) (map (moved_assign (renamed new)) rest)) ≡ called_there (called_by (cells_of i) p (called_in (cells_of i) rest))
      by (ports.Cell c n) e = at_called c (called_in (cells_of i) rest) _ (twin.cells c) e
      by (ports.Input n) e = e
      by (ports.Output n) e = e
      by (ports.Done g) e = e
      by (ports.Literal w v) e = e

  pub called_shared : (g : ℕ) → called j g ≡ called_there (called i g)
  called_shared g = ap (called_in (cells_of j)) (assigns_shared g) ∙ called_in-moved (group_at (part_of i) g).assigns

  -- WHAT CAPTURES
  at_enables : {at to : At} (c n : ℕ) → AtTwin (part_of i) c at to → enables_at to n ≡ enables_at at n
  at_enables c n no_twins = refl
  at_enables c n (twin_rows p kind) = refl
  at_enables c n (twin_parts k child other kind beside) = refl

  target_enables : (p : PortRef) → enables_primitive (cells_of j) (renamed new p) ≡ enables_primitive (cells_of i) p
  target_enables (ports.Cell c n) = at_enables c n (twin.cells c)
  target_enables (ports.Input n) = refl
  target_enables (ports.Output n) = refl
  target_enables (ports.Done g) = refl
  target_enables (ports.Literal w v) = refl

  captures_in-moved : (list : List PlainAssign) → captures_in (cells_of j) (map (moved_assign (renamed new)) list) ≡ captures_in (cells_of i) list
  captures_in-moved [] = refl
  captures_in-moved (a ∷ rest) =
      ap (λ b. b || captures_in (cells_of j) (map (moved_assign (renamed new)) rest)) (target_enables a.target)
      ∙ ap (λ b. enables_primitive (cells_of i) a.target || b) (captures_in-moved rest)

  pub captures_shared : (g : ℕ) → captures j g ≡ captures i g
  captures_shared g = ap (captures_in (cells_of j)) (assigns_shared g) ∙ captures_in-moved (group_at (part_of i) g).assigns
