-- The inputs of a child, held one after the other as they are seen in the instance that calls it.
use Rattle.std.proofs.Common.{◌≡◌, ◌≢◌, ℕ, zero, suc, ◌+◌, ◌^◌, ◌<◌, ◌≤◌, nat_lt, Bool, true, false, ⊎_elim, List, [], ◌∷◌, ◌++◌, length, get_or, set, Option, Some, None, option_map, refl, sym, ap, ◌∙◌, subst, arith}
use Rattle.std.proofs.Math.Path.{fun_ext}
use Rattle.std.specs.List.{slice_get}
use Rattle.std.proofs.lemmas.Bool.{cases_lt}
use Rattle.std.proofs.lemmas.List.{length-set, get_or-set_same, get_or-set_other, set_past}
use Rattle.std.proofs.lemmas.Option.{slice_get-get_or, slice_get_within, get_or_from_slice_get}
use Rattle.cx_bits.specs.BitVector.{BitVector}
use Rattle.cx_prim.specs.CellStates.{CellState}
use Rattle.cx_meaning.specs.declared.ports.PortRef.{PortRef}
use Rattle.cx_meaning.specs.declared.ports.PortRef.TheVariants as ports
use Rattle.cx_meaning.specs.declared.sights.Seen.{Seen}
use Rattle.cx_meaning.specs.declared.sights.Seen.TheVariants.{Value, Undefined}
use Rattle.cx_meaning.specs.Designs.{PlainComponent, PlainDesign, component_at, no_component}
use Rattle.cx_meaning.specs.Instances.{Instance, OfInstance, Path, State, cell_at, cells_of, part_of, paths_of, instance_at, tree_of}
use Rattle.cx_meaning.specs.Active.{Active, group}
use Rattle.cx_meaning.specs.Sights.{seen}
use Rattle.cx_meaning.specs.Calls.{inputs_of_call}
use Rattle.cx_rules.specs.Ports.{component_of, declared_width, part_width, cell_width, width_of}
use Rattle.cx_rules.specs.Circles.{IsAcyclic}
use Rattle.cx_rules.specs.WidthRules.{IsBadLiteral}
use Rattle.cx_rules.specs.Sizes.{size_of, sizes_of, design_size}
use Rattle.cx_rules.specs.Wellformed.{IsDesign, IsThere, port_count}
use Rattle.cx_design.specs.declared.actives.Active.TheVariants as actives
use Rattle.cx_state.specs.declared.tables.InstanceRow.{InstanceRow}
use Rattle.cx_state.specs.Tables.{IsNumber, IsTable, row_at}
use Rattle.cx_eval.specs.Evaluated.{IsPort, IsSeen}
use Rattle.cx_state.specs.States.{PlainInstance, instance_state, cell_held, inputs_held, no_instance, with_held, FitsPart, IsStateOf, StandsFor, under_path}
use Rattle.cx_design.specs.declared.components.Component.{Component}
use Rattle.cx_design.specs.PlainForms.{plain_component}
use Rattle.cx_turns.specs.Islands.{HasPart}
use Rattle.cx_turns.specs.Machines.{IsInstance}
use Rattle.cx_turns.specs.Children.{IsPart, HasChild, IsInputOf, HoldsInput, HoldsFirst, HoldsCall}
use Rattle.cx_turns.proofs.ChildLemmas.{cell_in}
use Rattle.cx_state.proofs.TableLemmas.{further}
use Rattle.cx_text.proofs.NumberLaws.{same_or}
use Rattle.cx_meaning.proofs.SightsLaws.{input_at}
use Rattle.cx_text.proofs.ListLaws.{there_below}
use Rattle.cx_meaning.proofs.DesignsLemmas.{same_part}

-- COUNTS: the inputs of a component are few
size_inputs : (part : PlainComponent) → length part.inputs ≤ size_of part
size_inputs part = omega arith

one_size : (parts : List PlainComponent) (k : ℕ) → k < length parts → length (get_or parts k no_component).inputs + 1 ≤ sizes_of parts
one_size [] k lt = absurd (omega arith)
one_size (part ∷ parts) zero lt = let h = size_inputs part in omega (arith, h)
one_size (part ∷ parts) (suc k) lt = let h = one_size parts k (let l : suc k < suc (length parts) = lt in omega (arith, l)) in omega (arith, h)

module _ (d : PlainDesign) (design : IsDesign d) (table : List InstanceRow) (children : List ℕ) (is_table : IsTable d table children) where
  within : (n : ℕ) (path : Path) → IsNumber d n path → (row_at table n).component < length d.components
  within n path number = is_table.there n (subst (λ m. n < m) (sym is_table.count) (there_below _ n path number))

  pub own_part : (n : ℕ) (path : Path) → IsNumber d n path → part_of (instance_at (tree_of d) path) ≡ component_at d (row_at table n).component
  own_part n path number = ap part_of (is_table.component n path number) ∙ same_part d (length d.components) (row_at table n).component

  pub part_inside : (n c : ℕ) (path : Path) (child : Instance) → IsNumber d n path → cell_at (cells_of (instance_at (tree_of d) path)) c ≡ OfInstance child → c < length (part_of (instance_at (tree_of d) path)).cells
  part_inside n c path child number e =
      let same : instance_at (tree_of d) path ≡ component_of d (row_at table n).component = is_table.component n path number in
      subst (λ i. c < length (part_of i).cells) (sym same) (cell_in d (length d.components) (row_at table n).component c child (subst (λ i. cell_at (cells_of i) c ≡ OfInstance child) same e))

  pub few_inputs : (n k : ℕ) (path : Path) → IsNumber d n path → IsInputOf d n k → k + 1 < 2 ^ 32
  few_inputs n k path number input =
      let one : length (component_at d (row_at table n).component).inputs + 1 ≤ design_size d = one_size d.components (row_at table n).component (within n path number) in
      let inside : k < length (component_at d (row_at table n).component).inputs = subst (λ part. k < length part.inputs) (own_part n path number) (input path number) in
      let few = design.few_parts in
      omega (arith, one, inside, few)

module _ (d : PlainDesign) (n c child k : ℕ) (part : IsPart d n c) (is_child : HasChild d n c child) (input : IsInputOf d child k) where
  child_input : (path : Path) → (number : IsNumber d n path) → k < length (part_of ((part path number).0)).inputs
  child_input path number =
      subst (λ i. k < length (part_of i).inputs) (further (tree_of d) path c (part path number).0 (part path number).1) (input (path ++ c ∷ []) (is_child path number))

  pub input_there : (IsDesign d) → (table : List InstanceRow) (children : List ℕ) → IsTable d table children → IsPort d n (ports.Cell c (suc k))
  input_there design table children is_table path number =
      let p = part path number in
      let lt : k < length (part_of p.0).inputs = child_input path number in
      let counted : suc k < port_count (OfInstance p.0) = omega (arith, lt) in (
        (part_inside d design table children is_table n c path p.0 number p.1, subst (λ x. suc k < port_count x) (sym p.1) counted),
        tt,
      )

  pub input_width : (path : Path) → IsNumber d n path → width_of (instance_at (tree_of d) path) (ports.Cell c (suc k)) ≡ declared_width (part_of (instance_at (tree_of d) (path ++ c ∷ []))).inputs k
  input_width path number =
      let p = part path number in
      let lt : k < length (part_of p.0).inputs = child_input path number in
      ap (λ x. cell_width x (suc k)) p.1 ∙ ap (part_width (part_of p.0)) (input_at (part_of p.0) k lt)
      ∙ ap (λ i. declared_width (part_of i).inputs k) (sym (further (tree_of d) path c p.0 p.1))

-- ONE INPUT HELD
module _ (rows : List PlainInstance) (n k : ℕ) (x : Seen) where
  abbrev new : PlainInstance
  new = record { cells = (instance_state rows n).cells; held = set (instance_state rows n).held k x }

  new_there : n < length rows → instance_state (with_held rows n k x) n ≡ new
  new_there lt = get_or-set_same rows n new no_instance lt

  new_other : (m : ℕ) → m ≢ n → instance_state (with_held rows n k x) m ≡ instance_state rows m
  new_other m other = get_or-set_other rows n m new no_instance other

  -- the cells hold what they held
  cells_kept : n < length rows → (m e : ℕ) → cell_held (with_held rows n k x) m e ≡ cell_held rows m e
  cells_kept lt m e = ⊎_elim (λ is.
      ap (λ j. cell_held (with_held rows n k x) j e) is ∙ ap (λ (i : PlainInstance). get_or i.cells e None) (new_there lt) ∙ ap (λ j. cell_held rows j e) (sym is))
      (λ other. ap (λ (i : PlainInstance). get_or i.cells e None) (new_other m other)) (same_or m n)

  pub held_stands : (d : PlainDesign) (s : State) → n < length rows → StandsFor (tree_of d) rows s → StandsFor (tree_of d) (with_held rows n k x) s
  held_stands d s lt stands m c path held number e = stands m c path held number (sym (cells_kept lt m c) ∙ e)

  -- the input is held so
  pub held_here : n < length rows → k < length (instance_state rows n).held → inputs_held (with_held rows n k x) n k ≡ x
  held_here lt inside = ap (λ (i : PlainInstance). get_or i.held k Undefined) (new_there lt) ∙ get_or-set_same (instance_state rows n).held k x Undefined inside

  -- and each other one as before
  pub held_others : n < length rows → (m j : ℕ) → (m ≡ n → j ≡ k → ⊥) → inputs_held (with_held rows n k x) m j ≡ inputs_held rows m j
  held_others lt m j apart = ⊎_elim (λ is.
      ap (λ y. inputs_held (with_held rows n k x) y j) is ∙ ap (λ (i : PlainInstance). get_or i.held j Undefined) (new_there lt)
      ∙ get_or-set_other (instance_state rows n).held k j x Undefined (λ e. apart is e) ∙ ap (λ y. inputs_held rows y j) (sym is))
      (λ other. ap (λ (i : PlainInstance). get_or i.held j Undefined) (new_other m other)) (same_or m n)

  -- a value that is held so has the width of the input
  held_width : (d : PlainDesign) (part : PlainComponent) → FitsPart part (instance_state rows n) → k < length (instance_state rows n).held → ((b : BitVector) → x ≡ Value b → declared_width part.inputs k ≡ Some b.width) → FitsPart part new
  held_width d part fits inside wide = record {
    cells = fits.cells;
    inputs = length-set (instance_state rows n).held k x ∙ fits.inputs;
    widths = λ j b e. ⊎_elim (λ is. subst (λ y. declared_width part.inputs y ≡ Some b.width) (sym is) (wide b (value_here j b e is))) (λ other. fits.widths j b (value_other j b e other)) (same_or j k);
  }
    where
      list : List Seen
      list = set (instance_state rows n).held k x

      value_here : (j : ℕ) (b : BitVector) → slice_get list j ≡ Some (Value b) → j ≡ k → x ≡ Value b
      value_here j b e is =
          sym (get_or-set_same (instance_state rows n).held k x Undefined inside) ∙ ap (λ y. get_or list y Undefined) (sym is) ∙ get_or_from_slice_get list j (Value b) Undefined e

      value_other : (j : ℕ) (b : BitVector) → slice_get list j ≡ Some (Value b) → j ≢ k → slice_get (instance_state rows n).held j ≡ Some (Value b)
      value_other j b e other =
          let lt : j < length (instance_state rows n).held = subst (λ y. j < y) (length-set (instance_state rows n).held k x) (slice_get_within list j (Value b) e) in
          slice_get-get_or (instance_state rows n).held j Undefined lt
          ∙ ap (λ y. Some y) (sym (get_or-set_other (instance_state rows n).held k j x Undefined other) ∙ get_or_from_slice_get list j (Value b) Undefined e)

  pub held_fits : (d : PlainDesign) → IsStateOf d rows → n < length rows → k < length (instance_state rows n).held
      → ((path : Path) (b : BitVector) → IsNumber d n path → x ≡ Value b → declared_width (part_of (instance_at (tree_of d) path)).inputs k ≡ Some b.width) → IsStateOf d (with_held rows n k x)
  held_fits d state lt inside wide = record {
    count = length-set rows n new ∙ state.count;
    fits = λ m path number. ⊎_elim
        (λ is.
        let own : IsNumber d n path = subst (λ y. IsNumber d y path) is number in
        subst (λ y. FitsPart (part_of (instance_at (tree_of d) path)) (instance_state (with_held rows n k x) y)) (sym is)
        (subst (FitsPart (part_of (instance_at (tree_of d) path))) (sym (new_there lt)) (held_width d (part_of (instance_at (tree_of d) path)) (state.fits n path own) inside (λ b e. wide path b own e))))
        (λ other. subst (FitsPart (part_of (instance_at (tree_of d) path))) (sym (new_other m other)) (state.fits m path number))
        (same_or m n);
  }

-- a number of a child has a row, with its inputs
pub child_there : (d : PlainDesign) (n c child : ℕ) (path : Path) → IsNumber d n path → HasChild d n c child → (rows : List PlainInstance) → IsStateOf d rows → child < length rows
child_there d n c child path number is_child rows state = subst (λ m. child < m) (sym state.count) (there_below (paths_of (tree_of d)) child (path ++ c ∷ []) (is_child path number))

pub input_inside : (d : PlainDesign) (n c child k : ℕ) (path : Path) → IsNumber d n path → HasChild d n c child → IsInputOf d child k → (rows : List PlainInstance) → IsStateOf d rows → k < length (instance_state rows child).held
input_inside d n c child k path number is_child input rows state =
    let there : IsNumber d child (path ++ c ∷ []) = is_child path number in
    subst (λ m. k < m) (sym (state.fits child (path ++ c ∷ []) there).inputs) (input (path ++ c ∷ []) there)

pub child_counted : (d : PlainDesign) (n c child : ℕ) → n < length (paths_of (tree_of d)) → HasChild d n c child → IsInstance d child
child_counted d n c child lt is_child =
    let own : Path = get_or (paths_of (tree_of d)) n [] in
    let at : IsNumber d n own = slice_get-get_or (paths_of (tree_of d)) n [] lt in
    there_below (paths_of (tree_of d)) child (own ++ c ∷ []) (is_child own at)

-- its component tells its inputs
pub part_inputs : (d : PlainDesign) (child : ℕ) (part : Component) → HasPart d child (plain_component part) → (path : Path) → IsNumber d child path → length (part_of (instance_at (tree_of d) path)).inputs ≡ length part.inputs.items
part_inputs d child part has path number = ap (λ (x : PlainComponent). length x.inputs) (sym (has path number))

pub input_of : (d : PlainDesign) (child k : ℕ) (part : Component) → HasPart d child (plain_component part) → k < length part.inputs.items → IsInputOf d child k
input_of d child k part has lt path number = subst (λ m. k < m) (sym (part_inputs d child part has path number)) lt

-- WHAT IS SEEN has the width of the input
abbrev pub HasWidths : PlainDesign → List PlainInstance → Type 0
HasWidths d rows = (s : State) (n : ℕ) (path : Path) (act : Active) (p : PortRef) (b : BitVector) → IsAcyclic (instance_at (tree_of d) path) act → StandsFor (tree_of d) rows s → IsNumber d n path
    → IsThere (instance_at (tree_of d) path) p → (IsBadLiteral p → ⊥) → seen (instance_at (tree_of d) path) (inputs_held rows n) act (under_path path s) p ≡ Value b → width_of (instance_at (tree_of d) path) p ≡ Some b.width

pub seen_wide : (d : PlainDesign) (design : IsDesign d) (table : List InstanceRow) (children : List ℕ) → IsTable d table children → (rows : List PlainInstance) (s : State) (n g c child k : ℕ) (x : Seen) → IsPart d n c → HasChild d n c child → IsInputOf d child k
    → ((path : Path) → IsNumber d n path → IsAcyclic (instance_at (tree_of d) path) (group g)) → HasWidths d rows → StandsFor (tree_of d) rows s → n < length (paths_of (tree_of d)) → IsSeen d rows n (actives.Group g) (ports.Cell c (suc k)) x
    → (path : Path) (b : BitVector) → IsNumber d child path → x ≡ Value b → declared_width (part_of (instance_at (tree_of d) path)).inputs k ≡ Some b.width
seen_wide d design table children is_table rows s n g c child k x part is_child input acyclic widths stands lt sees path b number is =
    let own : Path = get_or (paths_of (tree_of d)) n [] in
    let at : IsNumber d n own = slice_get-get_or (paths_of (tree_of d)) n [] lt in
    let wide : width_of (instance_at (tree_of d) own) (ports.Cell c (suc k)) ≡ Some b.width =
    widths s n own (group g) (ports.Cell c (suc k)) b (acyclic own at) stands at (input_there d n c child k part is_child input design table children is_table own at).0 (λ (w, v, e, kept). absurd (let same : ports.Cell c (suc k) ≡ ports.Literal w v = e in cc)) (sym (sees own s at stands) ∙ is) in
    let same : Some path ≡ Some (own ++ c ∷ []) = sym number ∙ is_child own at in
    let one : path ≡ own ++ c ∷ [] = cc in
    ap (λ q. declared_width (part_of (instance_at (tree_of d) q)).inputs k) one ∙ sym (input_width d n c child k part is_child input own at) ∙ wide

pub own_path : (d : PlainDesign) (n : ℕ) → n < length (paths_of (tree_of d)) → IsNumber d n (get_or (paths_of (tree_of d)) n [])
own_path d n lt = slice_get-get_or (paths_of (tree_of d)) n [] lt

-- ONE INPUT, by what it is seen as
pub input_held : (d : PlainDesign) (rows : List PlainInstance) (n g c child k : ℕ) (x : Seen) (path : Path) → IsNumber d n path → HasChild d n c child → IsInputOf d child k → IsStateOf d rows → IsSeen d rows n (actives.Group g) (ports.Cell c (suc k)) x
    → HoldsInput d rows (with_held rows child k x) n g c child k
input_held d rows n g c child k x own at is_child input state sees =
    let lt : child < length rows = child_there d n c child own at is_child rows state in
    let inside : k < length (instance_state rows child).held = input_inside d n c child k own at is_child input rows state in
    record {
      stands = λ s stands. held_stands rows child k x d s lt stands;
      input = λ path s number stands. held_here rows child k x lt inside ∙ sees path s number stands;
      others = λ m j apart. held_others rows child k x lt m j apart;
    }

-- the child and the instance that calls it are apart
pub append_longer : (path : Path) (c : ℕ) → path ≡ path ++ c ∷ [] → ⊥
append_longer [] c e = cc
append_longer (x ∷ path) c e = append_longer path c (cc)

pub child_apart : (d : PlainDesign) (n c child : ℕ) (path : Path) → IsNumber d n path → HasChild d n c child → n ≢ child
child_apart d n c child path number is_child same =
    let there : IsNumber d n (path ++ c ∷ []) = subst (λ m. IsNumber d m (path ++ c ∷ [])) (sym same) (is_child path number) in
    let both : Some path ≡ Some (path ++ c ∷ []) = sym number ∙ there in
    append_longer path c (cc)

-- THE NEXT INPUT
module _ (d : PlainDesign) (old now : List PlainInstance) (n g c child k : ℕ) (is_child : HasChild d n c child) where
  pub first_begin : HoldsFirst d old old n g c child 0
  first_begin = record { stands = λ s e. e; inputs = λ path s j number stands lt. absurd (omega (arith, lt)); others = λ m j apart. refl }

  pub first_next : (new : List PlainInstance) → HoldsFirst d old now n g c child k → HoldsInput d now new n g c child k → HoldsFirst d old new n g c child (k + 1)
  first_next new far one = record {
    stands = λ s e. one.stands s (far.stands s e);
    inputs = λ path s j number stands lt. ⊎_elim
        (λ is.
        let held : inputs_held now n ≡ inputs_held old n = fun_ext (λ y. far.others n y (child_apart d n c child path number is_child)) in
        ap (λ y. inputs_held new child y) is ∙ one.input path s number (far.stands s stands)
        ∙ ap (λ h. inputs_of_call (instance_at (tree_of d) path) h g c (under_path path s) k) held
        ∙ ap (inputs_of_call (instance_at (tree_of d) path) (inputs_held old n) g c (under_path path s)) (sym is))
        (λ other. one.others child j (λ same e. other e) ∙ far.inputs path s j number stands (below j lt other))
        (same_or j k);
    others = λ m j apart. one.others m j (λ same e. apart same) ∙ far.others m j apart;
  }
    where
      below : (j : ℕ) → j < k + 1 → j ≢ k → j < k
      below j lt other = ⊎_elim (λ less. less) (λ le. absurd (other (omega (arith, lt, le)))) (cases_lt j k)

  pub all_held : (count : ℕ) → k ≡ count → HoldsFirst d old now n g c child k → ((path : Path) → IsNumber d child path → length (part_of (instance_at (tree_of d) path)).inputs ≡ count) → HoldsCall d old now n g c child
  all_held count is far counted = record {
    stands = far.stands;
    inputs = λ path s input number stands lt. far.inputs path s input number stands (let h = counted (path ++ c ∷ []) (is_child path number) in omega (arith, lt, h, is));
    others = far.others;
  }
