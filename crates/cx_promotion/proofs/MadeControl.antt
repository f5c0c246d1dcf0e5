-- MADE CONTROL enables the same groups, which drive the same cells.
use Rattle.std.proofs.Common.{◌≡◌, ℕ, ⊎_elim, Bool, true, false, ◌||◌, List, [], ◌∷◌, ◌++◌, refl, sym, ap, ◌∙◌, append_assoc}
use Rattle.std.specs.Prelude.{if◌then◌else◌}
use Rattle.cx_meaning.specs.declared.ports.PortRef.{PortRef}
use Rattle.cx_meaning.specs.declared.ports.PortRef.TheVariants as ports
use Rattle.cx_meaning.specs.Designs.{Always, PlainAssign, PlainGroup, PlainComponent, group_at, PlainForm, PlainStatement, PlainStatements, no_statements, a_statement}
use Rattle.cx_meaning.specs.Instances.{Instance}
use Rattle.cx_meaning.specs.Control.{with_comb, groups_in, groups_of, groups_in_all, targets_cell, assigns_drive, group_drives, groups_drive}
use Rattle.cx_rules.specs.ShapeRules.{is_hole}
use Rattle.cx_rules.specs.Ports.{is_primitive_enable}
use Rattle.cx_rewrites.specs.Beside.{joined}
use Rattle.cx_promotion.specs.Promotable.{bare_enable, promoted_assigns}
use Rattle.cx_promotion.specs.Made.{FormMade, empty, enable, seq, collapsed, par, if_made, while_made, repeat_made, static, timed, StatementMade, placed, PartsMade, no_parts, a_part, a_run, ArmsMade, no_arms, an_arm, PartMade}
use Rattle.cx_promotion.proofs.Members.{group_made}

append_none : (gs : List ℕ) → gs ++ [] ≡ gs
append_none [] = refl
append_none (g ∷ gs) = ap (λ list. g ∷ list) (append_none gs)

groups_joined : (ss later : PlainStatements) → groups_in_all (joined ss later) ≡ groups_in_all ss ++ groups_in_all later
groups_joined no_statements later = refl
groups_joined (a_statement s ss) later = ap (λ gs. groups_of s ++ gs) (groups_joined ss later) ∙ sym (append_assoc (groups_of s) (groups_in_all ss) (groups_in_all later))

module _ (promoted : ℕ → Type 0) where
  mutual
    form_groups : {form other : PlainForm} → FormMade promoted form other → groups_in other ≡ groups_in form
    form_groups empty = refl
    form_groups enable = refl
    form_groups (seq parts) = parts_groups parts
    form_groups (collapsed {form = form} parts) = sym (append_none (groups_in form)) ∙ parts_groups parts
    form_groups (par arms) = arms_groups arms
    form_groups (if_made {comb = comb} {a = a} {b = b} {x = x} {y = y} one two) =
        ap (λ gs. with_comb comb (gs ++ groups_of y)) (made_groups one) ∙ ap (λ gs. with_comb comb (groups_of a ++ gs)) (made_groups two)
    form_groups (while_made {comb = comb} one) = ap (with_comb comb) (made_groups one)
    form_groups (repeat_made one) = made_groups one
    form_groups (static is) = refl
    form_groups timed = refl

    pub made_groups : {s t : PlainStatement} → StatementMade promoted s t → groups_of t ≡ groups_of s
    made_groups (placed form) = form_groups form

    parts_groups : {ss tt : PlainStatements} → PartsMade promoted ss tt → groups_in_all tt ≡ groups_in_all ss
    parts_groups no_parts = refl
    parts_groups (a_part {s = s} {t = t} {ss = ss} {tt = tt} first later) = ap (λ gs. gs ++ groups_in_all tt) (made_groups first) ∙ ap (λ gs. groups_of s ++ gs) (parts_groups later)
    parts_groups (a_run {s = s} {run = run} {ss = ss} {tt = tt} is later) =
        ap (λ gs. groups_in_all (a_statement s run) ++ gs) (parts_groups later) ∙ sym (groups_joined (a_statement s run) ss)

    arms_groups : {ss tt : PlainStatements} → ArmsMade promoted ss tt → groups_in_all tt ≡ groups_in_all ss
    arms_groups no_arms = refl
    arms_groups (an_arm {s = s} {t = t} {ss = ss} {tt = tt} first later) = ap (λ gs. gs ++ groups_in_all tt) (made_groups first) ∙ ap (λ gs. groups_of s ++ gs) (arms_groups later)

-- what a promoted group drives
hole_drives : (p : PortRef) (c : ℕ) → is_hole p ≡ true → targets_cell p c ≡ false
hole_drives (ports.Cell d p) c e = absurd (cc)
hole_drives (ports.Input n) c e = refl
hole_drives (ports.Output n) c e = refl
hole_drives (ports.Done g) c e = refl
hole_drives (ports.Literal w v) c e = refl

bare_target : (i : Instance) (a : PlainAssign) → (bare_enable i a).target ≡ a.target
bare_target i a = by (is_primitive_enable i a.target)
  where
    by : (b : Bool) → (if b then record a { guard = Always } else a).target ≡ a.target
    by true = refl
    by false = refl

promoted_drives : (i : Instance) (list : List PlainAssign) (c : ℕ) → assigns_drive (promoted_assigns i list) c ≡ assigns_drive list c
promoted_drives i [] c = refl
promoted_drives i (a ∷ rest) c = by (is_hole a.target) refl (promoted_drives i rest c)
  where
    by : (b : Bool) → is_hole a.target ≡ b → assigns_drive (promoted_assigns i rest) c ≡ assigns_drive rest c
        → assigns_drive (if b then promoted_assigns i rest else bare_enable i a ∷ promoted_assigns i rest) c ≡ (targets_cell a.target c || assigns_drive rest c)
    by true is later = later ∙ sym (ap (λ t. t || assigns_drive rest c) (hole_drives a.target c is))
    by false is later = ap (λ p. targets_cell p c || assigns_drive (promoted_assigns i rest) c) (bare_target i a) ∙ ap (λ t. targets_cell a.target c || t) later

module _ (i : Instance) (old new : PlainComponent) (made : PartMade i old new) where
  group_drives-made : (g c : ℕ) → group_drives new g c ≡ group_drives old g c
  group_drives-made g c =
      ⊎_elim
      (λ same. ap (λ (x : PlainGroup). assigns_drive x.assigns c) same)
      (λ r. ap (λ (x : PlainGroup). assigns_drive x.assigns c) r.2 ∙ promoted_drives i (group_at old g).assigns c)
      (group_made i made.groups g)

  pub groups_drive-made : (gs : List ℕ) (c : ℕ) → groups_drive new gs c ≡ groups_drive old gs c
  groups_drive-made [] c = refl
  groups_drive-made (g ∷ gs) c = ap (λ b. b || groups_drive new gs c) (group_drives-made g c) ∙ ap (λ b. group_drives old g c || b) (groups_drive-made gs c)
