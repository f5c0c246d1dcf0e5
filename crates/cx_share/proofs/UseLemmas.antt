-- Which cells parts use, as marks.
use Rattle.std.proofs.Common.{◌≡◌, ℕ, zero, suc, ◌<◌, ◌≤◌, Bool, false, ◌||◌, List, [], ◌∷◌, get_or, take, length, map, flat_map, replicate, refl, sym, ap, subst, ◌∙◌, arith}
use Rattle.std.specs.List.{list_any}
use Rattle.std.proofs.lemmas.List.{get_or-map, length-map}
use Rattle.std.proofs.lemmas.List.Folds.{list_any-append}
use Rattle.cx_text.proofs.ListLaws.{take_all}
use Rattle.cx_meaning.specs.declared.ports.PortRef.{PortRef}
use Rattle.cx_meaning.specs.declared.ports.PortRef.TheVariants as ports
use Rattle.cx_meaning.specs.declared.ports.PlacedPort.{PlacedPort}
use Rattle.cx_meaning.specs.Designs.{PlainAssign, PlainComponent, no_group, PlainStatement}
use Rattle.cx_meaning.specs.Instances.{Set, just}
use Rattle.cx_meaning.specs.Control.{targets_cell, assigns_drive, groups_of}
use Rattle.cx_rules.specs.Items.{tests_of}
use Rattle.cx_design.specs.declared.cells.Cell.{Cell}
use Rattle.cx_design.specs.declared.groups.Group.{Group}
use Rattle.cx_design.specs.declared.statements.Statement.{Statement}
use Rattle.cx_design.specs.PlainForms.{plain_cell, plain_group, plain_statement}
use Rattle.cx_race.specs.Cells.{cell_in, port_cell, tested_by}
use Rattle.cx_sharing.specs.Uses.{assigns_use, group_uses, uses}
use Rattle.cx_share.specs.Marks.{Adds, any_of, marks_by}
use Rattle.cx_share.specs.Tables.{AreWide}
use Rattle.cx_share.specs.Using.{arm_marks, group_marks}
use Rattle.cx_share.proofs.MarkLemmas.{adds_same, adds_then, by_at, by_long, by_same, filled}
use Rattle.cx_text.proofs.BoolLaws.{or_false}

-- the cells of ports
pub port_cells : (ps : List PlacedPort) (c : ℕ) → any_of just (flat_map port_cell ps) c ≡ list_any (λ p. targets_cell p.port c) ps
port_cells [] c = refl
port_cells (p ∷ ps) c =
    list_any-append (λ x. just x c) (port_cell p) (flat_map port_cell ps) ∙ ap (λ v. v || any_of just (flat_map port_cell ps) c) (one p.port) ∙ ap (λ v. targets_cell p.port c || v) (port_cells ps c)
  where
    one : (port : PortRef) → list_any (λ x. just x c) (cell_in port) ≡ targets_cell port c
    one (ports.Cell d n) = or_false (just d c)
    one (ports.Input n) = refl
    one (ports.Output n) = refl
    one (ports.Done g) = refl
    one (ports.Literal w v) = refl

-- the cells that assignments drive
pub drives-any_of : (assigns : List PlainAssign) (c : ℕ) → any_of (λ a. targets_cell a.target) assigns c ≡ assigns_drive assigns c
drives-any_of [] c = refl
drives-any_of (a ∷ rest) c = ap (λ v. targets_cell a.target c || v) (drives-any_of rest c)

-- marks that are each as long
pub wide_by : {A : Type 0} (count : ℕ) (f : A → Set) (xs : List A) → AreWide count (map (λ x. marks_by count (f x)) xs)
wide_by count f [] k lt = absurd (omega arith)
wide_by count f (x ∷ xs) zero lt = by_long count (f x)
wide_by count f (x ∷ xs) (suc k) lt = wide_by count f xs k (let h : suc k < suc (length (map (λ y. marks_by count (f y)) xs)) = lt in omega arith)

pub wide_arms : (part : PlainComponent) (arms : List PlainStatement) → AreWide (length part.cells) (arm_marks part arms)
wide_arms part arms = wide_by (length part.cells) (uses part) arms

pub arms_wide : (part : PlainComponent) (arms : List PlainStatement) (count : ℕ) (sets : List (List Bool)) → count ≡ length part.cells → sets ≡ arm_marks part arms → AreWide count sets
arms_wide part arms count sets wide same = subst (λ n. AreWide n sets) (sym wide) (subst (AreWide (length part.cells)) (sym same) (wide_arms part arms))

-- the marks of a group by its number
pub group_there : (part : PlainComponent) (g : ℕ) (marks : List Bool) → g < length (group_marks part) → marks ≡ get_or (group_marks part) g marks → marks ≡ marks_by (length part.cells) (group_uses part g)
group_there part g marks lt at =
    at ∙ get_or-map (λ k. marks_by (length part.cells) (assigns_use k.assigns)) part.groups g no_group marks (let same = length-map part.groups (λ k. marks_by (length part.cells) (assigns_use k.assigns)) in omega (arith, same, lt))

pub group_added : (part : PlainComponent) (g : ℕ) (marks old new : List Bool) → g < length (group_marks part) → marks ≡ get_or (group_marks part) g marks → length old ≡ length part.cells
    → Adds old new (λ c. get_or marks c false) → Adds old new (group_uses part g)
group_added part g marks old new lt at wide p =
    adds_same old new (λ c. get_or marks c false) (group_uses part g)
    (λ c below. ap (λ m. get_or m c false) (group_there part g marks lt at) ∙ by_at (length part.cells) (group_uses part g) c (omega (arith, wide, below))) p

pub group_long : (part : PlainComponent) (g : ℕ) (marks : List Bool) → g < length (group_marks part) → marks ≡ get_or (group_marks part) g marks → length marks ≡ length part.cells
group_long part g marks lt at = ap length (group_there part g marks lt at) ∙ by_long (length part.cells) (group_uses part g)

-- what a statement uses
pub statement_used : (part : PlainComponent) (s : PlainStatement) (groups tested : List ℕ) (count : ℕ) (mid marks : List Bool)
    → groups ≡ groups_of s → tested ≡ tested_by s → Adds (replicate count false) mid (any_of (group_uses part) groups) → Adds mid marks (any_of just tested)
    → marks ≡ marks_by count (uses part s)
statement_used part s groups tested count mid marks g t p q =
    filled count marks (λ c. any_of (group_uses part) groups c || any_of just tested c)
    (adds_then (replicate count false) mid marks (any_of (group_uses part) groups) (any_of just tested) p q)
    ∙ by_same count (λ c. any_of (group_uses part) groups c || any_of just tested c) (uses part s)
    (λ c lt. ap (λ gs. any_of (group_uses part) gs c || any_of just tested c) g
    ∙ ap (λ ts. any_of (group_uses part) (groups_of s) c || any_of just ts c) t
    ∙ ap (λ v. any_of (group_uses part) (groups_of s) c || v) (port_cells (tests_of s) c))

-- the sets of all groups, and of all arms, as they are pushed
pub groups_listed : (cells : List Cell) (groups : List Group) (i : ℕ) (used : List (List Bool)) → length groups ≤ i
    → used ≡ map (λ g. marks_by (length cells) (assigns_use (plain_group g).assigns)) (take i groups)
    → used ≡ map (λ g. marks_by (length (map plain_cell cells)) (assigns_use g.assigns)) (map plain_group groups)
groups_listed cells groups i used end h =
    h ∙ ap (map (λ g. marks_by (length cells) (assigns_use (plain_group g).assigns))) (take_all groups i end) ∙ over groups (length cells)
    ∙ ap (λ n. map (λ g. marks_by n (assigns_use g.assigns)) (map plain_group groups)) (sym (length-map cells plain_cell))
  where
    over : (gs : List Group) (n : ℕ) → map (λ g. marks_by n (assigns_use (plain_group g).assigns)) gs ≡ map (λ g. marks_by n (assigns_use g.assigns)) (map plain_group gs)
    over [] n = refl
    over (g ∷ gs) n = ap (λ rest. marks_by n (assigns_use (plain_group g).assigns) ∷ rest) (over gs n)

pub arms_listed : (part : PlainComponent) (cells : List Cell) (arms : List Statement) (i : ℕ) (sets : List (List Bool)) → part.cells ≡ map plain_cell cells → length arms ≤ i
    → sets ≡ map (λ s. marks_by (length cells) (uses part (plain_statement s))) (take i arms) → sets ≡ arm_marks part (map plain_statement arms)
arms_listed part cells arms i sets same end h =
    h ∙ ap (map (λ s. marks_by (length cells) (uses part (plain_statement s)))) (take_all arms i end) ∙ over arms (length cells)
    ∙ ap (λ n. map (λ s. marks_by n (uses part s)) (map plain_statement arms)) (sym (length-map cells plain_cell) ∙ sym (ap length same))
  where
    over : (ss : List Statement) (n : ℕ) → map (λ s. marks_by n (uses part (plain_statement s))) ss ≡ map (λ s. marks_by n (uses part s)) (map plain_statement ss)
    over [] n = refl
    over (s ∷ ss) n = ap (λ rest. marks_by n (uses part (plain_statement s)) ∷ rest) (over ss n)
