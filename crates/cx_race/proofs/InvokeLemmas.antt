-- The cells that static invokes drive and name, as lists.
use Rattle.std.proofs.Common.{◌≡◌, ℕ, true, ◌||◌, List, [], ◌∷◌, Option, Some, None, ◌⊎◌, inl, inr, ⊎_elim, refl, sym, subst}
use Rattle.cx_text.proofs.MemberLaws.{flat_in, in_either, in_flat, in_left, in_right}
use Rattle.cx_meaning.specs.Designs.{PlainInvoke, PlainComponent, group_at, PlainStatement}
use Rattle.cx_text.specs.Members.{In}
use Rattle.cx_meaning.specs.Control.{groups_drive, drives}
use Rattle.cx_rules.specs.Items.{option_list}
use Rattle.cx_rules.specs.Invokes.{invoke_at, invokes_of, capture_of, captures_of, is_cell_of, invokes_cell, drives_all}
use Rattle.cx_race.specs.Cells.{named_in_all, targets_in_group, targets_in_capture, named_in_capture, targets_in_invoke, named_in_invoke, targets_in_invokes, invoked_by, driven_by, driven_all_by}
use Rattle.cx_race.proofs.CellLemmas.{groups_driven, driven_groups, in_driven, is_driven}
use Rattle.cx_text.proofs.BoolLaws.{or_right, or_either, or_left}
use Rattle.cx_text.proofs.NumberLaws.{from_eq, same_numbers}

module _ (part : PlainComponent) where
  abbrev targets : ℕ → List ℕ
  targets g = targets_in_group (group_at part g)

  abbrev names : ℕ → List ℕ
  names g = named_in_all (group_at part g).assigns

  -- THE GROUP THAT CAPTURES
  target_caught : (o : Option ℕ) (g c : ℕ) → In (option_list o) g → In (targets g) c → In (targets_in_capture part o) c
  target_caught None g c i j = absurd i
  target_caught (Some h) g c (inl e) j = subst (λ x. In (targets x) c) (sym e) j
  target_caught (Some h) g c (inr i) j = absurd i

  caught_target : (o : Option ℕ) (c : ℕ) → In (targets_in_capture part o) c → (g : ℕ) × In (option_list o) g × In (targets g) c
  caught_target None c i = absurd i
  caught_target (Some g) c i = (g, inl refl, i)

  name_caught : (o : Option ℕ) (g c : ℕ) → In (option_list o) g → In (names g) c → In (named_in_capture part o) c
  name_caught None g c i j = absurd i
  name_caught (Some h) g c (inl e) j = subst (λ x. In (names x) c) (sym e) j
  name_caught (Some h) g c (inr i) j = absurd i

  pub caught_name : (o : Option ℕ) (c : ℕ) → In (named_in_capture part o) c → (g : ℕ) × In (option_list o) g × In (names g) c
  caught_name None c i = absurd i
  caught_name (Some g) c i = (g, inl refl, i)

  -- ONE STATIC INVOKE
  cell_invoked : (o : Option PlainInvoke) (c : ℕ) → is_cell_of o c ≡ true → In (targets_in_invoke part o) c
  cell_invoked None c h = absurd (cc)
  cell_invoked (Some v) c h = inl (from_eq v.cell c h)

  capture_invoked : (o : Option PlainInvoke) (g c : ℕ) → In (capture_of o) g → In (targets g) c → In (targets_in_invoke part o) c
  capture_invoked None g c i j = absurd i
  capture_invoked (Some v) g c i j = inr (target_caught v.captures g c i j)

  pub capture_named : (o : Option PlainInvoke) (g c : ℕ) → In (capture_of o) g → In (names g) c → In (named_in_invoke part o) c
  capture_named None g c i j = absurd i
  capture_named (Some v) g c i j = in_right (named_in_all v.inputs) (named_in_capture part v.captures) c (name_caught v.captures g c i j)

  abbrev IsOfInvoke : Option PlainInvoke → ℕ → Type 0
  IsOfInvoke o c = (is_cell_of o c ≡ true) ⊎ ((g : ℕ) × In (capture_of o) g × In (targets g) c)

  of_invoke : (o : Option PlainInvoke) (c : ℕ) → In (targets_in_invoke part o) c → IsOfInvoke o c
  of_invoke None c i = absurd i
  of_invoke (Some v) c (inl e) = inl (same_numbers v.cell c e)
  of_invoke (Some v) c (inr i) = inr (caught_target v.captures c i)

  -- STATIC INVOKES BY THEIR NUMBERS
  abbrev targets_at : ℕ → List ℕ
  targets_at k = targets_in_invoke part (invoke_at part k)

  abbrev captures_at : ℕ → List ℕ
  captures_at k = capture_of (invoke_at part k)

  cells_invoked : (ks : List ℕ) (c : ℕ) → invokes_cell part ks c ≡ true → In (targets_in_invokes part ks) c
  cells_invoked [] c h = absurd (cc)
  cells_invoked (k ∷ ks) c h =
      ⊎_elim
      (λ x. in_left (targets_at k) (targets_in_invokes part ks) c (cell_invoked (invoke_at part k) c x))
      (λ y. in_right (targets_at k) (targets_in_invokes part ks) c (cells_invoked ks c y))
      (or_either (is_cell_of (invoke_at part k) c) (invokes_cell part ks c) h)

  invoked_cells : (ks : List ℕ) (k c : ℕ) → In ks k → is_cell_of (invoke_at part k) c ≡ true → invokes_cell part ks c ≡ true
  invoked_cells [] k c i h = absurd i
  invoked_cells (j ∷ ks) k c (inl e) h = or_left (is_cell_of (invoke_at part j) c) (invokes_cell part ks c) (subst (λ n. is_cell_of (invoke_at part n) c ≡ true) (sym e) h)
  invoked_cells (j ∷ ks) k c (inr i) h = or_right (is_cell_of (invoke_at part j) c) (invokes_cell part ks c) (invoked_cells ks k c i h)

  captures_invoked : (ks : List ℕ) (c : ℕ) → groups_drive part (captures_of part ks) c ≡ true → In (targets_in_invokes part ks) c
  captures_invoked ks c h =
      let g = flat_in targets (captures_of part ks) c (groups_driven part (captures_of part ks) c h) in
      let k = flat_in captures_at ks g.0 g.1 in
      in_flat targets_at ks k.0 c k.1 (capture_invoked (invoke_at part k.0) g.0 c k.2 g.2)

  invoked_captures : (ks : List ℕ) (k g c : ℕ) → In ks k → In (captures_at k) g → In (targets g) c → groups_drive part (captures_of part ks) c ≡ true
  invoked_captures ks k g c i j h = driven_groups part (captures_of part ks) c (in_flat targets (captures_of part ks) g c (in_flat captures_at ks k g i j) h)

  invokes_drive : (ks : List ℕ) (c : ℕ) → In (targets_in_invokes part ks) c → (invokes_cell part ks c || groups_drive part (captures_of part ks) c) ≡ true
  invokes_drive ks c i =
      let k = flat_in targets_at ks c i in
      ⊎_elim
      (λ cell. or_left (invokes_cell part ks c) (groups_drive part (captures_of part ks) c) (invoked_cells ks k.0 c k.1 cell))
      (λ g. or_right (invokes_cell part ks c) (groups_drive part (captures_of part ks) c) (invoked_captures ks k.0 g.0 c k.1 g.1 g.2))
      (of_invoke (invoke_at part k.0) c k.2)

  -- the list has the cells that a statement drives, with its static invokes
  pub in_driven_all : (s : PlainStatement) (c : ℕ) → drives_all part s c ≡ true → In (driven_all_by part s) c
  in_driven_all s c h =
      let ks = invokes_of s in
      ⊎_elim
      (λ x. in_right (invoked_by part s) (driven_by part s) c (in_driven part s c x))
      (λ y. in_left (invoked_by part s) (driven_by part s) c
      (⊎_elim (λ l. cells_invoked ks c l) (λ r. captures_invoked ks c r) (or_either (invokes_cell part ks c) (groups_drive part (captures_of part ks) c) y)))
      (or_either (drives part s c) (invokes_cell part ks c || groups_drive part (captures_of part ks) c) h)

  pub is_driven_all : (s : PlainStatement) (c : ℕ) → In (driven_all_by part s) c → drives_all part s c ≡ true
  is_driven_all s c i =
      let ks = invokes_of s in
      ⊎_elim
      (λ l. or_right (drives part s c) (invokes_cell part ks c || groups_drive part (captures_of part ks) c) (invokes_drive ks c l))
      (λ r. or_left (drives part s c) (invokes_cell part ks c || groups_drive part (captures_of part ks) c) (is_driven part s c r))
      (in_either (invoked_by part s) (driven_by part s) c i)
