-- The cells that groups drive, as they are marked.
use Rattle.std.proofs.Common.{◌≡◌, ℕ, suc, ◌+◌, ◌≤◌, ◌<◌, Bool, true, false, ◌||◌, List, [], ◌∷◌, length, get_or, drop, Option, Some, None, inl, inr, refl, sym, ap, ◌∙◌, subst, arith}
use Rattle.std.proofs.Math.Seq.{drop-cons}
use Rattle.std.proofs.lemmas.List.{length-map}
use Rattle.cx_meaning.specs.Designs.{PlainAssign, PlainComponent, PlainDesign, PlainForm, PlainStatement, Placed, component_at, group_at}
use Rattle.cx_meaning.specs.Instances.{Instance, Path, part_of, instance_at, paths_of, tree_of}
use Rattle.cx_text.specs.Members.{In}
use Rattle.cx_meaning.specs.Control.{form_drives, assigns_drive, group_drives, groups_drive, groups_in, groups_in_all, groups_of, targets_cell, with_comb}
use Rattle.cx_rules.specs.Ports.{component_of}
use Rattle.cx_rules.specs.Wellformed.{IsDesign, IsThere}
use Rattle.cx_design.specs.declared.statements.Statement.{Statement}
use Rattle.cx_design.specs.declared.statements.Form.TheFolds.{fold-roll-Statement}
use Rattle.cx_design.specs.declared.components.Component.{Component}
use Rattle.cx_design.specs.PlainForms.{form_step, statement_step, plain_component, plain_form, plain_group, plain_statement, plain_statements}
use Rattle.cx_state.specs.declared.tables.InstanceRow.{InstanceRow}
use Rattle.cx_state.specs.Tables.{IsNumber, IsTable, row_at}
use Rattle.cx_turns.specs.Islands.{HasPart}
use Rattle.cx_eval_cycle.specs.Passes.{listed_in}
use Rattle.cx_turns.specs.Marks.{is_marked}
use Rattle.cx_turns.specs.Groups.{ListDriven}
use Rattle.cx_text.proofs.BoolLaws.{or_false}
use Rattle.cx_frames.proofs.ArmLemmas.{groups_joined}
use Rattle.cx_meaning.proofs.DesignsLemmas.{driver_there, same_part}
use Rattle.cx_turns.proofs.WithinLemmas.{target_below}
use Rattle.cx_text.proofs.ListLaws.{there_below}

-- marks upon marks
pub or_two : (a b m : Bool) → (b || (a || m)) ≡ ((a || b) || m)
or_two true true m = refl
or_two true false m = refl
or_two false true m = refl
or_two false false m = refl

pub comb_drives : (part : PlainComponent) (comb : Option ℕ) (gs : List ℕ) (c : ℕ) → groups_drive part (with_comb comb gs) c ≡ (groups_drive part (with_comb comb []) c || groups_drive part gs c)
comb_drives part None gs c = refl
comb_drives part (Some g) gs c = ap (λ b. b || groups_drive part gs c) (sym (or_false (group_drives part g c)))

-- parts of a seq, or arms of a par
module _ (part : PlainComponent) (parts : List Statement) (k c : ℕ) (x : Statement) (before now : Bool) where
  pub parts_marked : k < length parts → x ≡ get_or parts k x → now ≡ (groups_drive part (groups_of (plain_statement x)) c || before) → (whole : Bool) → (groups_drive part (groups_in_all (plain_statements (drop k parts))) c || before) ≡ whole
      → (groups_drive part (groups_in_all (plain_statements (drop (k + 1) parts))) c || now) ≡ whole
  parts_marked inside is here whole so =
      let parted : drop k parts ≡ x ∷ drop (k + 1) parts = drop-cons parts k x inside ∙ ap (λ (y : Statement). y ∷ drop (suc k) parts) (sym is) ∙ ap (λ m. x ∷ drop m parts) (let f : suc k ≡ k + 1 = omega arith in f) in
      let gx = groups_drive part (groups_of (plain_statement x)) c in
      let gr = groups_drive part (groups_in_all (plain_statements (drop (k + 1) parts))) c in
      ap (λ b. gr || b) here
      ∙ or_two gx gr before
      ∙ ap (λ b. b || before) (sym (ap (λ (xs : List Statement). groups_drive part (groups_in_all (plain_statements xs)) c) parted ∙ groups_joined part (groups_of (plain_statement x)) (groups_in_all (plain_statements (drop (k + 1) parts))) c))
      ∙ so

-- a statement's groups are those of its form
pub form_groups : (s : Statement) → groups_in (plain_form s.form) ≡ groups_of (plain_statement s)
form_groups s = sym (ap groups_of (let whole : plain_statement s ≡ Placed (plain_form s.form) s.place = fold-roll-Statement PlainForm PlainStatement form_step statement_step _ in whole))

-- the groups of an instance are those of its component
pub groups_are : (d : PlainDesign) (n : ℕ) (part : Component) → HasPart d n (plain_component part) → (path : Path) → IsNumber d n path → length (part_of (instance_at (tree_of d) path)).groups ≡ length part.groups.items
groups_are d n part has path number = ap (λ (p : PlainComponent). length p.groups) (sym (has path number)) ∙ length-map part.groups.items plain_group

-- all that a form drives, on marks of which none was set
pub marks_driven : (d : PlainDesign) (n : ℕ) (form : PlainForm) (old new : List Bool) (cells : List ℕ) → ((c : ℕ) → is_marked old c ≡ false)
    → ((path : Path) (c : ℕ) → IsNumber d n path → is_marked new c ≡ (groups_drive (part_of (instance_at (tree_of d) path)) (groups_in form) c || is_marked old c))
    → ((c : ℕ) → listed_in cells c ≡ is_marked new c) → ListDriven d n cells (λ part. form_drives part form)
marks_driven d n form old new cells none marked listed path c number =
    let driven = groups_drive (part_of (instance_at (tree_of d) path)) (groups_in form) c in
    listed c ∙ marked path c number ∙ ap (λ b. driven || b) (none c) ∙ or_false driven

assigns_within : (i : Instance) (list : List PlainAssign) (c : ℕ) → ((a : PlainAssign) → In list a → IsThere i a.target) → assigns_drive list c ≡ true → c < length (part_of i).cells
assigns_within i [] c there e = absurd (let f : false ≡ true = e in cc)
assigns_within i (a ∷ rest) c there e = by (targets_cell a.target c) refl e (assigns_within i rest c (λ x is. there x (inr is)))
  where
    by : (b : Bool) → targets_cell a.target c ≡ b → (b || assigns_drive rest c) ≡ true → (assigns_drive rest c ≡ true → c < length (part_of i).cells) → c < length (part_of i).cells
    by true t f later = target_below i a.target c (there a (inl refl)) t
    by false t f later = later f

module _ (d : PlainDesign) (design : IsDesign d) (rows : List InstanceRow) (children : List ℕ) (table : IsTable d rows children) (n : ℕ) (path : Path) (number : IsNumber d n path) where
  group_within : (g c : ℕ) → group_drives (part_of (instance_at (tree_of d) path)) g c ≡ true → c < length (part_of (instance_at (tree_of d) path)).cells
  group_within g c e =
      let k = (row_at rows n).component in
      let same : instance_at (tree_of d) path ≡ component_of d k = table.component n path number in
      let part : part_of (component_of d k) ≡ component_at d k = same_part d (length d.components) k in
      let there : k < length d.components = table.there n (subst (λ m. n < m) (sym table.count) (there_below (paths_of (tree_of d)) n path number)) in
      let drives : group_drives (component_at d k) g c ≡ true = subst (λ x. group_drives x g c ≡ true) (ap part_of same ∙ part) e in
      let found : g < length (component_at d k).groups = driver_there (component_at d k) g c drives in
      subst (λ (i : Instance). c < length (part_of i).cells) (sym same)
      (assigns_within (component_of d k) (group_at (component_at d k) g).assigns c (λ a is. ((design.components k there).assigns (Some g) a (found, is)).target) drives)

  pub groups_within : (gs : List ℕ) (c : ℕ) → groups_drive (part_of (instance_at (tree_of d) path)) gs c ≡ true → c < length (part_of (instance_at (tree_of d) path)).cells
  groups_within [] c e = absurd (let f : false ≡ true = e in cc)
  groups_within (g ∷ gs) c e = by (group_drives (part_of (instance_at (tree_of d) path)) g c) refl e (groups_within gs c)
    where
      Inside : Type 0
      Inside = c < length (part_of (instance_at (tree_of d) path)).cells

      by : (b : Bool) → group_drives (part_of (instance_at (tree_of d) path)) g c ≡ b → (b || groups_drive (part_of (instance_at (tree_of d) path)) gs c) ≡ true → (groups_drive (part_of (instance_at (tree_of d) path)) gs c ≡ true → Inside) → Inside
      by true t f later = group_within g c t
      by false t f later = later f
