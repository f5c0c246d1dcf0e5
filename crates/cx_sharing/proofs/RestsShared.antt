-- WHAT RESTS ON STATE rests on state under the new numbers, where nothing that is an output is driven.
use Rattle.std.proofs.Common.{◌≡◌, ℕ, suc, inl, inr, ⊎_elim, true, false, List, [], ◌∷◌, refl, sym, ap, ◌∙◌, subst}
use Rattle.std.specs.Prelude.{get_or}
use Rattle.std.specs.List.{list_any}
use Rattle.std.proofs.lemmas.Bool.{both_ways, or_cases}
use Rattle.cx_text.proofs.MemberLaws.{image_in}
use Rattle.cx_text.specs.Members.{In}
use Rattle.cx_prim.specs.Rows.{Row, is_output_side}
use Rattle.cx_prim.specs.Table.{PrimitiveRow, row_of, no_row}
use Rattle.cx_meaning.specs.Rows.{side_of}
use Rattle.cx_meaning.specs.declared.ports.PortRef.{PortRef}
use Rattle.cx_meaning.specs.declared.ports.PortRef.TheVariants as ports
use Rattle.cx_meaning.specs.Designs.{PlainAssign, PlainKind, OfPrimitive, OfComponent, PlainGroup, PlainComponent, group_at, no_group}
use Rattle.cx_meaning.specs.Instances.{Instance, At, OfRow, OfInstance, part_of, cells_of, cell_at}
use Rattle.cx_meaning.specs.Control.{targets_cell, assigns_drive}
use Rattle.cx_meaning.specs.Sights.{part_port}
use Rattle.cx_meaning.proofs.InstancesLemmas.{just_true}
use Rattle.cx_rules.specs.Ports.{is_source_only, is_cell_output}
use Rattle.cx_rules.specs.Footprints.{AssignNames, Rests, literal_rests, input_rests, registered_rests, output_rests, done_rests, combinational_rests}
use Rattle.cx_rewrites.specs.Moving.{moved_assign}
use Rattle.cx_rewrites.specs.Renaming.{renamed}
use Rattle.cx_rewrites.proofs.ReflectLemmas.{names_back}
use Rattle.cx_sharing.specs.Uses.{assign_uses, kind_in, is_candidate}
use Rattle.cx_sharing.specs.Giving.{new_cell}
use Rattle.cx_sharing.specs.SharedDesign.{shared_part}
use Rattle.cx_sharing.proofs.KeptLemmas.{new_apart}
use Rattle.cx_sharing.proofs.UsedLemmas.{any_of, target_used, no_candidate}
use Rattle.cx_sharing.proofs.CandidateLemmas.{candidate_is}
use Rattle.cx_sharing.proofs.ReadLemmas.{combinational_reads}
use Rattle.cx_sharing.proofs.SharedParts.{AtShared, no_cell, a_row, a_part, Shares, new_port, own_assigns, own_always}

-- a target that stands for a port of a cell
pub record StandsFor (cell : ℕ → ℕ) (t : PortRef) (c m : ℕ) : Type 0 where
  pub own : ℕ
  pub is : t ≡ ports.Cell own m
  pub number : cell own ≡ c

pub stands_for : (cell : ℕ → ℕ) (t : PortRef) (c m : ℕ) → renamed cell t ≡ ports.Cell c m → StandsFor cell t c m
stands_for cell (ports.Cell d n) c m e = let number : cell d ≡ c = cc in let port : n ≡ m = cc in record { own = d; is = ap (ports.Cell d) port; number = number }
stands_for cell (ports.Input n) c m e = absurd (cc)
stands_for cell (ports.Output n) c m e = absurd (cc)
stands_for cell (ports.Done g) c m e = absurd (cc)
stands_for cell (ports.Literal w v) c m e = absurd (cc)

-- WHAT DRIVES A CELL
targets_is : (t : PortRef) (c : ℕ) → targets_cell t c ≡ true → (n : ℕ) × (t ≡ ports.Cell c n)
targets_is (ports.Cell d n) c e = (n, ap (λ z. ports.Cell z n) (just_true d c e))
targets_is (ports.Input n) c e = absurd (cc)
targets_is (ports.Output n) c e = absurd (cc)
targets_is (ports.Done g) c e = absurd (cc)
targets_is (ports.Literal w v) c e = absurd (cc)

pub driver_in : (list : List PlainAssign) (c : ℕ) → assigns_drive list c ≡ true → (a : PlainAssign) × In list a × ((n : ℕ) × (a.target ≡ ports.Cell c n))
driver_in [] c e = absurd (cc)
driver_in (a ∷ rest) c e = ⊎_elim (λ h. (a, inl refl, targets_is a.target c h)) (λ h. let r = driver_in rest c h in (r.0, inr r.1, r.2)) (or_cases (targets_cell a.target c) (assigns_drive rest c) e)

group_in : (groups : List PlainGroup) (c : ℕ) → list_any (λ (g : PlainGroup). assigns_drive g.assigns c) groups ≡ true → (h : ℕ) × (assigns_drive (get_or groups h no_group).assigns c ≡ true)
group_in [] c e = absurd (cc)
group_in (g ∷ gs) c e = ⊎_elim (λ h. (0, h)) (λ h. let r = group_in gs c h in (suc r.0, r.1)) (or_cases (assigns_drive g.assigns c) (list_any (λ (x : PlainGroup). assigns_drive x.assigns c) gs) e)

-- a candidate is driven by some group
pub candidate_driven : (part : PlainComponent) (c : ℕ) → is_candidate part c ≡ true → (h : ℕ) × (b : PlainAssign) × In (group_at part h).assigns b × ((n : ℕ) × (b.target ≡ ports.Cell c n))
candidate_driven part c is =
    let g = group_in part.groups c (candidate_is part c is).driven in
    let b = driver_in (group_at part g.0).assigns c g.1 in
    (g.0, b.0, b.1, b.2)

-- no group drives an output
abbrev pub HasInputs : Instance → Type 0
HasInputs i = (g : ℕ) (a : PlainAssign) → In (group_at (part_of i) g).assigns a → is_source_only i a.target ≡ false

-- WHAT STANDS AT A CELL
module _ {part : PlainComponent} {c : ℕ} where
  pub row_there : {at to : At} (row : Row) → AtShared part c at to → at ≡ OfRow row → (p : PrimitiveRow) × (kind_in part.cells c ≡ OfPrimitive p) × (row_of p ≡ row) × (to ≡ OfRow row)
  row_there row no_cell e = absurd (cc)
  row_there row (a_row p kind) e = let same : row_of p ≡ row = cc in (p, kind, same, ap OfRow same)
  row_there row (a_part k child twin kind part_is) e = absurd (cc)

  pub child_there : {at to : At} (child : Instance) → AtShared part c at to → at ≡ OfInstance child → (twin : Instance) × (to ≡ OfInstance twin) × (part_of twin ≡ shared_part (part_of child))
  child_there child no_cell e = absurd (cc)
  child_there child (a_row p kind) e = absurd (cc)
  child_there child (a_part k own twin kind part_is) e = let same : own ≡ child = cc in (twin, refl, part_is ∙ ap (λ x. shared_part (part_of x)) same)

abbrev row_kind : PlainKind → Row
row_kind (OfPrimitive p) = row_of p
row_kind (OfComponent k) = no_row

module _ (i j : Instance) (shares : Shares i j) where
  abbrev number : ℕ → ℕ
  number = new_cell (part_of i)

  -- a continuous assignment drives no other cell of the number
  pub always_apart : (c d m : ℕ) (a : PlainAssign) → In (part_of i).always a → a.target ≡ ports.Cell d m → number d ≡ number c → d ≡ c
  always_apart c d m a stands target e = ⊎_elim (λ same. same)
      (λ h. absurd (both_ways (is_candidate (part_of i) d) (no_candidate (part_of i) d (any_of (λ x. assign_uses x d) (part_of i).always a stands (target_used a d m target))) h.0))
      (new_apart (part_of i) d c e)

  module _ (inputs : HasInputs i) where
    -- an input of a candidate that some group drives, and that each of its outputs reads
    pub read_input : (c p : ℕ) (row : Row) → cell_at (cells_of i) c ≡ OfRow row → is_candidate (part_of i) c ≡ true
        → (n h : ℕ) × (b : PlainAssign) × (row.reads p n ≡ true) × In (group_at (part_of i) h).assigns b × (b.target ≡ ports.Cell c n)
    read_input c p row at is =
        let r = row_there row (shares.cells c) at in
        let k = candidate_is (part_of i) c is in
        let b = candidate_driven (part_of i) c is in
        let same : OfPrimitive k.primitive ≡ OfPrimitive r.0 = sym k.kind ∙ r.1 in
        let is_row : row_of k.primitive ≡ row = ap row_kind same ∙ r.2 in
        let side : is_output_side (side_of (row_of k.primitive) b.3.0) ≡ false =
        ap (λ x. is_output_side (side_of x b.3.0)) is_row ∙ ap (λ x. is_cell_output x b.3.0) (sym at) ∙ ap (is_source_only i) (sym b.3.1) ∙ inputs b.0 b.1 b.2 in
        (b.3.0, b.0, b.1, ap (λ (x : Row). x.reads p b.3.0) (sym is_row) ∙ combinational_reads k.primitive p b.3.0 k.combines side, b.2, b.3.1)

    pub rests_shared : (q : PortRef) → Rests i q → Rests j (new_port shares q)
    rests_shared q literal_rests = literal_rests
    rests_shared q input_rests = input_rests
    rests_shared q (registered_rests {c} {p} row at side) = registered_rests row (row_there row (shares.cells c) at).3 side
    rests_shared q (output_rests {c} {p} n child at is) = let r = child_there child (shares.cells c) at in output_rests n r.0 r.1 (ap (λ x. part_port x p) r.2 ∙ is)
    rests_shared q (done_rests {c} {p} child at is) = let r = child_there child (shares.cells c) at in done_rests r.0 r.1 (ap (λ x. part_port x p) r.2 ∙ is)
    rests_shared q (combinational_rests {c} {p} row at side none all) =
        combinational_rests row (row_there row (shares.cells c) at).3 side undriven
        (λ m a r reads k target names.
        let x = image_in (moved_assign (new_port shares)) (part_of i).always a (subst (λ list. In list a) (own_always shares) k) in
        let t = stands_for number x.0.target (number c) m (ap (λ (z : PlainAssign). z.target) x.2 ∙ target) in
        let y = names_back (new_port shares) x.0 r (subst (λ (z : PlainAssign). AssignNames z r) (sym x.2) names) in
        let same : t.own ≡ c = always_apart c t.own m x.0 x.1 t.is t.number in
        subst (Rests j) y.1 (rests_shared y.0 (all m x.0 y.0 reads x.1 (t.is ∙ ap (λ n. ports.Cell n m) same) y.2)))
      where
        undriven : (m g : ℕ) (a : PlainAssign) → row.reads p m ≡ true → In (group_at (part_of j) g).assigns a → a.target ≡ ports.Cell (number c) m → ⊥
        undriven m g a reads k target =
            let x = image_in (moved_assign (new_port shares)) (group_at (part_of i) g).assigns a (subst (λ list. In list a) (own_assigns shares g) k) in
            let t = stands_for number x.0.target (number c) m (ap (λ (z : PlainAssign). z.target) x.2 ∙ target) in
            ⊎_elim (λ same. none m g x.0 reads x.1 (t.is ∙ ap (λ n. ports.Cell n m) same))
            (λ h. let r = read_input c p row at h.1 in none r.0 r.1 r.2 r.3 r.4 r.5)
            (new_apart (part_of i) t.own c t.number)
