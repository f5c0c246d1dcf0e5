-- The cells that statements drive and name, as lists.
use Rattle.std.proofs.Common.{◌≡◌, ℕ, zero, suc, true, List, [], ◌∷◌, ◌++◌, flat_map, map, get_or, inl, inr, ⊎_elim, refl, sym, ap, ◌∙◌, subst}
use Rattle.cx_text.proofs.MemberLaws.{flat_in, in_either, in_flat, in_left, in_right}
use Rattle.cx_text.specs.Members.{In}
use Rattle.cx_graphs.specs.Graphs.{targets_of}
use Rattle.cx_meaning.specs.declared.ports.PortRef.{PortRef}
use Rattle.cx_meaning.specs.declared.ports.PortRef.TheVariants as ports
use Rattle.cx_meaning.specs.declared.ports.PlacedPort.{PlacedPort}
use Rattle.cx_meaning.specs.Designs.{PlainGuard, Always, Atom, Negation, All, Any, Compared, Within, PlainGuards, no_guards, a_guard, PlainAssign, PlainGroup, PlainComponent, no_group, group_at, PlainStatement}
use Rattle.cx_meaning.specs.Instances.{just}
use Rattle.cx_meaning.specs.Sights.{GuardNames, AnyNames}
use Rattle.cx_meaning.specs.Control.{groups_of, targets_cell, assigns_drive, groups_drive, drives}
use Rattle.cx_rules.specs.Items.{operands_of, operands_in}
use Rattle.cx_rules.specs.Footprints.{AssignNames}
use Rattle.cx_race.specs.Cells.{cell_in, port_cell, target_in, named_in, driven_in, driven_by}
use Rattle.cx_meaning.proofs.InstancesLemmas.{just_true, just_same}
use Rattle.cx_text.proofs.BoolLaws.{or_right, or_either, or_left}
use Rattle.cx_rules.proofs.FoundLemmas.{guard_operand, operand_named}

-- the list of a group, where the lists are those of all groups
pub group_list : (f : PlainGroup → List ℕ) → f no_group ≡ [] → (groups : List PlainGroup) (g : ℕ) → targets_of (map f groups) g ≡ f (get_or groups g no_group)
group_list f e [] g = sym e
group_list f e (group ∷ groups) zero = refl
group_list f e (group ∷ groups) (suc g) = group_list f e groups g

-- the lists of some groups
pub group_lists : (f : PlainGroup → List ℕ) → f no_group ≡ [] → (part : PlainComponent) (gs : List ℕ) → flat_map (targets_of (map f part.groups)) gs ≡ flat_map (λ g. f (group_at part g)) gs
group_lists f e part [] = refl
group_lists f e part (g ∷ gs) =
    ap (λ l. l ++ flat_map (targets_of (map f part.groups)) gs) (group_list f e part.groups g) ∙ ap (λ l. f (group_at part g) ++ l) (group_lists f e part gs)

-- the cell of a port
pub cell_is : (port : PortRef) (c : ℕ) → In (cell_in port) c → (p : ℕ) × (port ≡ ports.Cell c p)
cell_is (ports.Cell d p) c (inl e) = (p, ap (λ x. ports.Cell x p) e)
cell_is (ports.Cell d p) c (inr i) = absurd i
cell_is (ports.Input n) c i = absurd i
cell_is (ports.Output n) c i = absurd i
cell_is (ports.Done g) c i = absurd i
cell_is (ports.Literal w v) c i = absurd i

pub has_cell : (port : PortRef) (c p : ℕ) → port ≡ ports.Cell c p → In (cell_in port) c
has_cell port c p e = subst (λ q. In (cell_in q) c) (sym e) (inl refl)

target_driven : (port : PortRef) (c : ℕ) → targets_cell port c ≡ true → In (cell_in port) c
target_driven (ports.Cell d p) c h = inl (just_true d c h)
target_driven (ports.Input n) c h = absurd (cc)
target_driven (ports.Output n) c h = absurd (cc)
target_driven (ports.Done g) c h = absurd (cc)
target_driven (ports.Literal w v) c h = absurd (cc)

driven_target : (port : PortRef) (c : ℕ) → In (cell_in port) c → targets_cell port c ≡ true
driven_target (ports.Cell d p) c (inl e) = subst (λ n. just d n ≡ true) e (just_same d)
driven_target (ports.Cell d p) c (inr i) = absurd i
driven_target (ports.Input n) c i = absurd i
driven_target (ports.Output n) c i = absurd i
driven_target (ports.Done g) c i = absurd i
driven_target (ports.Literal w v) c i = absurd i

assigns_driven : (assigns : List PlainAssign) (c : ℕ) → assigns_drive assigns c ≡ true → In (driven_in assigns) c
assigns_driven [] c h = absurd (cc)
assigns_driven (a ∷ rest) c h =
    ⊎_elim (λ x. in_left (target_in a) (driven_in rest) c (target_driven a.target c x)) (λ y. in_right (target_in a) (driven_in rest) c (assigns_driven rest c y)) (or_either (targets_cell a.target c) (assigns_drive rest c) h)

driven_assigns : (assigns : List PlainAssign) (c : ℕ) → In (driven_in assigns) c → assigns_drive assigns c ≡ true
driven_assigns [] c i = absurd i
driven_assigns (a ∷ rest) c i =
    ⊎_elim (λ l. or_left (targets_cell a.target c) (assigns_drive rest c) (driven_target a.target c l)) (λ r. or_right (targets_cell a.target c) (assigns_drive rest c) (driven_assigns rest c r)) (in_either (target_in a) (driven_in rest) c i)

module _ (part : PlainComponent) where
  abbrev pub of_group : ℕ → List ℕ
  of_group g = driven_in (group_at part g).assigns

  pub groups_driven : (gs : List ℕ) (c : ℕ) → groups_drive part gs c ≡ true → In (flat_map of_group gs) c
  groups_driven [] c h = absurd (cc)
  groups_driven (g ∷ gs) c h =
      ⊎_elim
      (λ x. in_left (of_group g) (flat_map of_group gs) c (assigns_driven (group_at part g).assigns c x))
      (λ y. in_right (of_group g) (flat_map of_group gs) c (groups_driven gs c y))
      (or_either (assigns_drive (group_at part g).assigns c) (groups_drive part gs c) h)

  pub driven_groups : (gs : List ℕ) (c : ℕ) → In (flat_map of_group gs) c → groups_drive part gs c ≡ true
  driven_groups [] c i = absurd i
  driven_groups (g ∷ gs) c i =
      ⊎_elim
      (λ l. or_left (assigns_drive (group_at part g).assigns c) (groups_drive part gs c) (driven_assigns (group_at part g).assigns c l))
      (λ r. or_right (assigns_drive (group_at part g).assigns c) (groups_drive part gs c) (driven_groups gs c r))
      (in_either (of_group g) (flat_map of_group gs) c i)

  -- the list has the cells that a statement drives
  pub in_driven : (s : PlainStatement) (c : ℕ) → drives part s c ≡ true → In (driven_by part s) c
  in_driven s c h = groups_driven (groups_of s) c h

  pub is_driven : (s : PlainStatement) (c : ℕ) → In (driven_by part s) c → drives part s c ≡ true
  is_driven s c i = driven_groups (groups_of s) c i

-- NAMES
-- the list has the cells that an assignment names
pub in_named : (a : PlainAssign) (c p : ℕ) → AssignNames a (ports.Cell c p) → In (named_in a) c
in_named a c p (inl n) =
    let o = guard_operand a.guard (ports.Cell c p) n in
    in_right (cell_in a.source.port) (flat_map port_cell (operands_of a.guard)) c (in_flat port_cell (operands_of a.guard) o.0 c o.1 (has_cell o.0.port c p o.2))
in_named a c p (inr e) = in_left (cell_in a.source.port) (flat_map port_cell (operands_of a.guard)) c (has_cell a.source.port c p e)

pub is_named : (a : PlainAssign) (c : ℕ) → In (named_in a) c → (p : ℕ) × AssignNames a (ports.Cell c p)
is_named a c i =
    ⊎_elim
    (λ l. let s = cell_is a.source.port c l in (s.0, inr s.1))
    (λ r. let o = flat_in port_cell (operands_of a.guard) c r in let s = cell_is o.0.port c o.2 in (s.0, inl (subst (GuardNames a.guard) s.1 (operand_named a.guard o.0 o.1))))
    (in_either (cell_in a.source.port) (flat_map port_cell (operands_of a.guard)) c i)
