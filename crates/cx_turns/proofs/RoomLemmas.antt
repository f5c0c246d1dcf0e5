-- Room for the islands of a design.
use Rattle.std.proofs.Common.{◌≡◌, ℕ, zero, suc, ◌+◌, ◌<◌, ◌≤◌, ◌-◌, ◌^◌, Bool, Vec, Global, List, [], ◌∷◌, length, map, take, get_or, Option, Some, inl, inr, ⊎_elim, sym, ap, ◌∙◌, subst, arith}
use Rattle.std.specs.List.{slice_get}
use Rattle.std.proofs.lemmas.Bool.{cases_lt}
use Rattle.std.proofs.lemmas.List.{get_or-map, length-map}
use Rattle.cx_design.specs.declared.components.Component.{Component}
use Rattle.cx_design.specs.PlainForms.{plain_component}
use Rattle.cx_design_parts.specs.declared.control.Visited.{Visited as Item}
use Rattle.cx_design_parts.specs.Items.{plain_visited}
use Rattle.std.specs.Vec.{vec_len, vec_capacity}
use Rattle.cx_meaning.specs.Designs.{PlainDesign, PlainComponent, PlainForm, no_component}
use Rattle.cx_meaning.specs.Instances.{Path, part_of, instance_at, paths_of, tree_of}
use Rattle.cx_text.specs.Members.{In}
use Rattle.cx_rules.specs.Accepted.{IsAccepted}
use Rattle.cx_rules.specs.Wellformed.{IsDesign}
use Rattle.cx_rules.specs.Items.{Visited, statements_in}
use Rattle.cx_state.specs.Tables.{IsNumber, IsTable, row_at}
use Rattle.cx_state.specs.declared.tables.InstanceRow.{InstanceRow}
use Rattle.cx_turns.specs.declared.rooms.Room.{Room}
use Rattle.cx_turns.specs.Machines.{FormStands}
use Rattle.cx_turns.specs.Marks.{HasMarks, set_count}
use Rattle.cx_turns.specs.Rooms.{FormFits, ListFits, PartFits, HasRoom, entry_room}
use Rattle.cx_turns.proofs.HoldLemmas.{own_part}
use Rattle.cx_turns.proofs.IslandLemmas.{there, stands_there}
use Rattle.cx_turns.proofs.StandLemmas as stand
use Rattle.cx_text.proofs.ListLaws.{take_all, there_below}
use Rattle.std.proofs.lemmas.Option.{slice_get-get_or}

-- more room is room
pub list_wider : (list : List Visited) (a b c d : ℕ) → a ≤ c → b ≤ d → ListFits list a b → ListFits list c d
list_wider list a b c d le lf fits v in_list =
    let f = fits v in_list in
    let x : a ≤ c = le in
    let y : b ≤ d = lf in
    let p = f.0 in
    let q = f.1 in
    (omega (arith, p, x), omega (arith, q, y))

-- what holds of the first k of a list, and of the one behind them
in_one_more : (P : Visited → Type 0) (list : List Visited) (k : ℕ) (x : Visited) → slice_get list k ≡ Some x → ((w : Visited) → In (take k list) w → P w) → P x → (v : Visited) → In (take (suc k) list) v → P v
in_one_more P [] k x e before here v h = absurd h
in_one_more P (y ∷ list) zero x e before here v (inl same) = let f : y ≡ x = (let g : Some y ≡ Some x = e in cc) in subst P (sym f ∙ same) here
in_one_more P (y ∷ list) zero x e before here v (inr h) = absurd h
in_one_more P (y ∷ list) (suc k) x e before here v (inl same) = before v (inl same)
in_one_more P (y ∷ list) (suc k) x e before here v (inr h) = in_one_more P list k x e (λ w i. before w (inr i)) here v h

-- the room of an island
pub island_room : (d : PlainDesign) (accepted : IsAccepted d) (design : IsDesign d) (rows : List InstanceRow) (children : List ℕ) (table : IsTable d rows children) (n : ℕ) (form : PlainForm) (room : Room) → n < length (paths_of (tree_of d)) → FormStands d n form → HasRoom d room
    → FormFits form (vec_len room.samples) (entry_room room.active)
island_room d accepted design rows children table n form room lt stands has =
    let path : Path = get_or (paths_of (tree_of d)) n [] in
    let number : IsNumber d n path = slice_get-get_or (paths_of (tree_of d)) n [] lt in
    let in_list : In (statements_in (part_of (instance_at (tree_of d) path))) (there form stands.0) = stands_there d n form stands path number in
    has.fits (stand.k d accepted design rows children table n path number (there form stands.0) in_list) (stand.within d accepted design rows children table n path number (there form stands.0) in_list) (there form stands.0)
    (stand.in_part d accepted design rows children table n path number (there form stands.0) in_list)

-- room for one more of a list of statements
pub fits_next : (list : List Visited) (k a b c d : ℕ) (x : Visited) → slice_get list k ≡ Some x → a ≤ c → b ≤ d → ListFits (take k list) a b → FormFits x.form c d → ListFits (take (k + 1) list) c d
fits_next list k a b c d x at le lf fits here =
    let next : suc k ≡ k + 1 = omega arith in
    subst (λ m. ListFits (take m list) c d) next (λ v h. in_one_more (λ w. FormFits w.form c d) list k x at (list_wider (take k list) a b c d le lf fits) here v h)

-- room for one more component
pub parts_next : (parts : List PlainComponent) (e : PlainComponent) (k a b c d : ℕ) (x : PlainComponent) → x ≡ get_or parts k e → a ≤ c → b ≤ d → ((j : ℕ) → j < k → PartFits (get_or parts j e) a b) → PartFits x c d
    → (j : ℕ) → j < k + 1 → PartFits (get_or parts j e) c d
parts_next parts e k a b c d x is le lf before here j lt =
    ⊎_elim
    (λ (below : j < k). list_wider (statements_in (get_or parts j e)) a b c d le lf (before j below))
    (λ (above : k ≤ j).
    let same : k ≡ j = omega (arith, above, lt) in
    subst (λ m. PartFits (get_or parts m e) c d) same (subst (λ p. PartFits p c d) is here))
    (cases_lt j k)

-- a statement of a list, as it is read
pub item_is : (xs : List Item) (k : ℕ) (x : Item) → k < length xs → x ≡ get_or xs k x → slice_get (map plain_visited xs) k ≡ Some (plain_visited x)
item_is xs k x lt is =
    slice_get-get_or (map plain_visited xs) k (plain_visited x) (subst (λ m. k < m) (sym (length-map xs plain_visited)) lt)
    ∙ ap (λ v. Some v) (get_or-map plain_visited xs k x (plain_visited x) lt ∙ ap plain_visited (sym is))

-- room for all statements of a component
pub part_fits : (xs : List Item) (part : PlainComponent) (k a b : ℕ) → map plain_visited xs ≡ statements_in part → length xs ≤ k → ListFits (take k (map plain_visited xs)) a b → PartFits part a b
part_fits xs part k a b is le fits =
    subst (λ list. ListFits list a b) is (subst (λ list. ListFits list a b) (take_all (map plain_visited xs) k (subst (λ m. m ≤ k) (sym (length-map xs plain_visited)) le)) fits)

-- a component of a design, as it is read
pub component_read : (all xs : List Component) (k : ℕ) (x : Component) → xs ≡ all → k < length xs → x ≡ get_or xs k x → plain_component x ≡ get_or (map plain_component all) k no_component
component_read all xs k x same lt is =
    subst (λ ys. plain_component x ≡ get_or (map plain_component ys) k no_component) same (sym (get_or-map plain_component xs k x no_component lt ∙ ap plain_component (sym is)))

-- there is a mark for each cell of an instance
pub room_marks : (d : PlainDesign) → IsDesign d → (rows : List InstanceRow) (children : List ℕ) → IsTable d rows children → (n : ℕ) (room : Room) → HasRoom d room → HasMarks d n room.marks.items
room_marks d design rows children table n room has path number =
    let there = table.there n (subst (λ m. n < m) (sym table.count) (there_below (paths_of (tree_of d)) n path number)) in
    subst (λ (p : PlainComponent). length p.cells ≤ length room.marks.items) (sym (own_part d design rows children table n path number)) (has.marks (row_at rows n).component there)

-- room in which other cells are listed
pub room_listed : (d : PlainDesign) (room : Room) (marks : Vec Bool Global) (cells : Vec ℕ Global) → HasRoom d room → length marks.items ≡ length room.marks.items → set_count marks.items ≡ 0 → vec_capacity room.cells ≤ vec_capacity cells
    → HasRoom d (record { samples = room.samples; active = room.active; marks = marks; cells = cells })
room_listed d room marks cells has long clear more = record {
  holds = has.holds;
  fits = has.fits;
  marks = λ k lt. (let h = has.marks k lt in omega (arith, h, long));
  clear = clear;
  lists = (let l = has.lists in omega (arith, l, long, more));
}
