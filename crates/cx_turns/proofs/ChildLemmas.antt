-- The children of an instance: which they are, by their numbers and paths.
use Rattle.std.proofs.Common.{◌≡◌, ℕ, zero, suc, ◌+◌, ◌*◌, ◌≤◌, ◌<◌, Bool, true, false, ◌||◌, List, [], ◌∷◌, ◌++◌, length, get_or, Option, Some, None, refl, sym, ap, ◌∙◌, subst, arith, if◌then◌else◌}
use Rattle.std.proofs.Math.Path.{fun_ext}
use Rattle.std.specs.List.{slice_get}
use Rattle.cx_meaning.specs.declared.ports.PortRef.{PortRef}
use Rattle.cx_meaning.specs.declared.ports.PortRef.TheVariants as ports
use Rattle.cx_meaning.specs.Designs.{PlainAssign, PlainDesign, PlainComponent, PlainKind, PlainCell, PlainStatement, OfPrimitive, OfComponent, component_at, group_at}
use Rattle.cx_meaning.specs.Instances.{Instance, Cells, At, Nothing, OfRow, OfInstance, add_cell, cells_for, tree_within, Path, State, just, put, under, cell_at, cells_of, part_of, instance_at, paths_of, tree_of}
use Rattle.cx_text.specs.Members.{In}
use Rattle.cx_meaning.specs.Calls.{if_instance, called_by, called_in, called}
use Rattle.cx_meaning.specs.Control.{targets_cell, assigns_drive}
use Rattle.cx_rules.specs.Items.{Dynamic, visit}
use Rattle.cx_rules.specs.Ports.{component_of}
use Rattle.cx_design.specs.declared.components.Component.{Component}
use Rattle.cx_design.specs.PlainForms.{plain_component, plain_statement}
use Rattle.cx_state.specs.declared.tables.InstanceRow.{InstanceRow}
use Rattle.cx_state.specs.Tables.{IsNumber, IsTable, row_at}
use Rattle.cx_state.proofs.PreOrder.{before, stands}
use Rattle.cx_state.proofs.ChangeLemmas.{one_number}
use Rattle.cx_state.specs.States.{under_path, put_path}
use Rattle.cx_turns.specs.declared.tables.GroupRow.{GroupRow}
use Rattle.cx_turns.specs.Islands.{HasPart}
use Rattle.cx_turns.specs.Children.{IsPart, HasChild, HasControl}
use Rattle.cx_turns.specs.Groups.{IsGroupRow}
use Rattle.cx_turns.specs.Machines.{StandsIn}
use Rattle.cx_turns.proofs.Measures.{steps, below, call_falls}
use Rattle.cx_text.proofs.OptionLaws.{some_is}
use Rattle.std.proofs.lemmas.Bool.{or_right}
use Rattle.cx_meaning.proofs.InstancesLemmas.{just_same}
use Rattle.std.proofs.lemmas.Option.{slice_get-get_or}
use Rattle.cx_text.proofs.ListLaws.{get_same, there_below}
use Rattle.cx_meaning.proofs.DesignsLemmas.{same_part}

pub part_read : (d : PlainDesign) (rows : List InstanceRow) (children : List ℕ) → IsTable d rows children → (n : ℕ) (at : InstanceRow) (part : Component) → n < length (paths_of (tree_of d)) → at ≡ get_or rows n at
    → plain_component part ≡ component_at d at.component → HasPart d n (plain_component part)
part_read d rows children table n at part lt is_at is_part path number =
    let inside : n < length rows = subst (λ m. n < m) (sym table.count) lt in
    let row : row_at rows n ≡ at = get_same rows n _ at inside ∙ sym is_at in
    is_part ∙ sym (ap part_of (table.component n path number) ∙ same_part d (length d.components) (row_at rows n).component ∙ ap (λ (r : InstanceRow). component_at d r.component) row)

pub control_read : (d : PlainDesign) (rows : List InstanceRow) (children : List ℕ) → IsTable d rows children → (n : ℕ) (at : InstanceRow) (part : Component) → n < length (paths_of (tree_of d)) → at ≡ get_or rows n at
    → plain_component part ≡ component_at d at.component → HasControl d n (plain_statement part.control)
control_read d rows children table n at part lt is_at is_part path number = ap (λ (x : PlainComponent). x.control) (part_read d rows children table n at part lt is_at is_part path number)

-- a cell of a component is one of the cells that are there
cell_there : (trees : ℕ → Instance) (cells : List PlainCell) (c : ℕ) (child : Instance) → cell_at (cells_for trees cells) c ≡ OfInstance child → c < length cells
cell_there trees [] c child e = cc
cell_there trees (x ∷ xs) c child e = by_kind x.kind c e (cell_there trees xs)
  where
    by_kind : (kind : PlainKind) (k : ℕ) → cell_at (add_cell trees kind (cells_for trees xs)) k ≡ OfInstance child → ((m : ℕ) (i : Instance) → cell_at (cells_for trees xs) m ≡ OfInstance i → m < length xs) → k < suc (length xs)
    by_kind (OfPrimitive p) zero e later = omega arith
    by_kind (OfPrimitive p) (suc k) e later = let h : k < length xs = later k child e in omega (arith, h)
    by_kind (OfComponent j) zero e later = omega arith
    by_kind (OfComponent j) (suc k) e later = let h : k < length xs = later k child e in omega (arith, h)

pub cell_in : (d : PlainDesign) (m k c : ℕ) (child : Instance) → cell_at (cells_of (tree_within d m k)) c ≡ OfInstance child → c < length (part_of (tree_within d m k)).cells
cell_in d zero k c child e = cc
cell_in d (suc m) k c child e = cell_there (tree_within d m) (component_at d k).cells c child e

-- the number of a child, from the table
pub child_inside : (d : PlainDesign) (rows : List InstanceRow) (children : List ℕ) → IsTable d rows children → (n c : ℕ) (at : InstanceRow) → n < length (paths_of (tree_of d)) → IsPart d n c → at ≡ get_or rows n at → at.first + c < length children
child_inside d rows children table n c at lt part is_at =
    let inside : n < length rows = subst (λ m. n < m) (sym table.count) lt in
    let row : row_at rows n ≡ at = get_same rows n _ at inside ∙ sym is_at in
    let path : Path = get_or (paths_of (tree_of d)) n [] in
    let number : IsNumber d n path = slice_get-get_or (paths_of (tree_of d)) n [] lt in
    let p = part path number in
    let same : instance_at (tree_of d) path ≡ component_of d (row_at rows n).component = table.component n path number in
    let cell : c < length (part_of (component_of d (row_at rows n).component)).cells = cell_in d (length d.components) (row_at rows n).component c p.0 (subst (λ i. cell_at (cells_of i) c ≡ OfInstance p.0) same p.1) in
    let there : c < length (part_of (instance_at (tree_of d) path)).cells = subst (λ i. c < length (part_of i).cells) (sym same) cell in
    let room : (row_at rows n).first + length (part_of (instance_at (tree_of d) path)).cells ≤ length children = table.cells n path number in
    let first : (row_at rows n).first ≡ at.first = ap (λ (r : InstanceRow). r.first) row in
    omega (arith, there, room, first)

pub child_read : (d : PlainDesign) (rows : List InstanceRow) (children : List ℕ) → IsTable d rows children → (n c : ℕ) (at : InstanceRow) (child : ℕ) → n < length (paths_of (tree_of d)) → IsPart d n c → at ≡ get_or rows n at
    → child ≡ get_or children (at.first + c) child → HasChild d n c child
child_read d rows children table n c at child lt part is_at is_child path number =
    let inside : n < length rows = subst (λ m. n < m) (sym table.count) lt in
    let row : row_at rows n ≡ at = get_same rows n _ at inside ∙ sym is_at in
    let p = part path number in
    let found : IsNumber d (get_or children ((row_at rows n).first + c) 0) (path ++ c ∷ []) = table.child n c path p.0 number p.1 in
    let same : get_or children ((row_at rows n).first + c) 0 ≡ child =
    ap (λ (r : InstanceRow). get_or children (r.first + c) 0) row ∙ get_same children (at.first + c) 0 child (child_inside d rows children table n c at lt part is_at) ∙ sym is_child in
    subst (λ m. IsNumber d m (path ++ c ∷ [])) same found

-- what a group calls is a component, and the group drives it
abbrev IsCallee : Cells → List PlainAssign → ℕ → Type 0
IsCallee cells list c = (child : Instance) × (cell_at cells c ≡ OfInstance child) × (assigns_drive list c ≡ true)

callee_is : (cells : Cells) (list : List PlainAssign) (c : ℕ) → called_in cells list ≡ Some c → IsCallee cells list c
callee_is cells [] c e = absurd (let f : ◌≡◌ {A = Option ℕ} None (Some c) = e in cc)
callee_is cells (a ∷ rest) c e = of_target a.target e (callee_is cells rest c)
  where
    Found : Bool → Type 0
    Found b = (child : Instance) × (cell_at cells c ≡ OfInstance child) × ((b || assigns_drive rest c) ≡ true)

    further : (b : Bool) → IsCallee cells rest c → Found b
    further b r = (r.0, r.1, or_right b (assigns_drive rest c) r.2)

    of_at : (at : At) (k : ℕ) → cell_at cells k ≡ at → if_instance at k (called_in cells rest) ≡ Some c → (called_in cells rest ≡ Some c → IsCallee cells rest c) → Found (just k c)
    of_at Nothing k is e later = further (just k c) (later e)
    of_at (OfRow row) k is e later = further (just k c) (later e)
    of_at (OfInstance child) k is e later =
        let same : k ≡ c = some_is k c e in
        (child, subst (λ m. cell_at cells m ≡ OfInstance child) same is, ap (λ m. just m c || assigns_drive rest c) same ∙ ap (λ b. b || assigns_drive rest c) (just_same c))

    of_target : (p : PortRef) → called_by cells p (called_in cells rest) ≡ Some c → (called_in cells rest ≡ Some c → IsCallee cells rest c) → Found (targets_cell p c)
    of_target (ports.Cell k m) e later = of_at (cell_at cells k) k refl e later
    of_target (ports.Input m) e later = further false (later e)
    of_target (ports.Output m) e later = further false (later e)
    of_target (ports.Done h) e later = further false (later e)
    of_target (ports.Literal w v) e later = further false (later e)

pub called_is : (i : Instance) (g c : ℕ) → called i g ≡ Some c → IsCallee (cells_of i) (group_at (part_of i) g).assigns c
called_is i g c e = callee_is (cells_of i) (group_at (part_of i) g).assigns c e

pub callee_part : (d : PlainDesign) (n g c : ℕ) (row : GroupRow) → IsGroupRow d n g row → row.callee ≡ Some c → IsPart d n c
callee_part d n g c row is callee path number =
    let r = called_is (instance_at (tree_of d) path) g c (sym (is path number).callee ∙ callee) in
    (r.0, r.1)

-- its number is greater
pub child_after : (d : PlainDesign) (n c number : ℕ) → IsPart d n c → HasChild d n c number → (path : Path) → IsNumber d n path → n < number
child_after d n c number part has path at =
    let p = part path at in
    let there : slice_get (paths_of (tree_of d)) (suc (n + before (cells_of (instance_at (tree_of d) path)) c)) ≡ Some (path ++ c ∷ []) = (stands (tree_of d) n path at).child c p.0 p.1 in
    let same : number ≡ suc (n + before (cells_of (instance_at (tree_of d) path)) c) =
    one_number (tree_of d) number (suc (n + before (cells_of (instance_at (tree_of d) path)) c)) (path ++ c ∷ []) (has path at) there in
    omega (arith, same)

-- STATES of the child in those of the instance
pub append_one : (path : Path) (c : ℕ) (below : Path) → (path ++ c ∷ []) ++ below ≡ path ++ (c ∷ below)
append_one [] c below = refl
append_one (k ∷ path) c below = ap (λ p. k ∷ p) (append_one path c below)

pub under_child : (path : Path) (c : ℕ) (s : State) → under_path (path ++ c ∷ []) s ≡ under c (under_path path s)
under_child path c s = fun_ext (λ below. ap s (append_one path c below))

pub put_child : (path : Path) (c : ℕ) (own s : State) → put_path (path ++ c ∷ []) own s ≡ put_path path (put c own (under_path path s)) s
put_child [] c own s = refl
put_child (k ∷ path) c own s = ap (λ (x : State). put k x s) (put_child path c own (under k s))

pub put_other : (c e : ℕ) (own s : State) (below : Path) → just c e ≡ false → put c own s (e ∷ below) ≡ s (e ∷ below)
put_other c e own s below h = ap (λ b. if b then own below else s (e ∷ below)) h

pub child_instance : (d : PlainDesign) (n c number : ℕ) → n < length (paths_of (tree_of d)) → HasChild d n c number → number < length (paths_of (tree_of d))
child_instance d n c number lt has =
    let path : Path = get_or (paths_of (tree_of d)) n [] in
    there_below (paths_of (tree_of d)) number (path ++ c ∷ []) (has path (slice_get-get_or (paths_of (tree_of d)) n [] lt))

pub child_less : (d : PlainDesign) (n c number : ℕ) (control : PlainStatement) → n < length (paths_of (tree_of d)) → IsPart d n c → HasChild d n c number → HasControl d number control → 2 * steps control + below d number < below d n
child_less d n c number control lt part has is_control =
    let path : Path = get_or (paths_of (tree_of d)) n [] in
    let at : IsNumber d n path = slice_get-get_or (paths_of (tree_of d)) n [] lt in
    let p = part path at in
    subst (λ x. 2 * steps x + below d number < below d n) (sym (is_control (path ++ c ∷ []) (has path at))) (call_falls d n c number path p.0 at (has path at) p.1)

pub control_stands : (d : PlainDesign) (number : ℕ) (control : PlainStatement) → HasControl d number control → StandsIn d number control
control_stands d number control has path v at h = subst (λ s. In (visit Dynamic s) v) (has path at) h
