-- The cells that can step, and their rooms, as they are made: those of one component after the other.
use Rattle.std.proofs.Common.{◌≡◌, ℕ, ◌+◌, ◌<◌, ◌^◌, ⊎_elim, List, [], ◌∷◌, ◌++◌, length, map, Some, sym, ap, ◌∙◌, subst}
use Rattle.std.specs.Prelude.{slice_get}
use Rattle.std.proofs.lemmas.List.{length-append, length-map, map-append}
use Rattle.std.specs.declared.vec.Vec.{Vec}
use Rattle.cx_meaning.specs.Designs.{PlainComponent, PlainDesign, component_at}
use Rattle.cx_rules.specs.Wellformed.{IsDesign}
use Rattle.cx_design.specs.declared.cells.Cell.{Cell}
use Rattle.cx_design.specs.declared.components.Component.{Component}
use Rattle.cx_design.specs.PlainForms.{plain_cell, plain_component}
use Rattle.cx_eval_cycle.specs.declared.rooms.CellRoom.{CellRoom}
use Rattle.cx_eval_cycle.specs.declared.stepping.SteppingCells.{SteppingCells}
use Rattle.cx_eval_cycle.specs.Rooms.{HaveRooms}
use Rattle.cx_eval_cycle.specs.Stepping.{AreSteppingCells}
use Rattle.cx_eval.specs.Tables.{AreSteppingParts, HaveAllRooms}
use Rattle.cx_eval.proofs.PartLemmas.{cells_few}
use Rattle.cx_text.proofs.ListLaws.{either_at}

-- the cells of a component, as code has them
module _ (d : PlainDesign) (k : ℕ) (part : Component) (value : plain_component part ≡ component_at d k) (cells : List Cell) (all : cells ≡ part.cells.items) where
  pub cells_are : map plain_cell cells ≡ (component_at d k).cells
  cells_are = ap (map plain_cell) all ∙ ap (λ (p : PlainComponent). p.cells) value

  pub few_cells : IsDesign d → length cells < 2 ^ 32
  few_cells design = subst (λ m. m < 2 ^ 32) (ap length (sym cells_are) ∙ length-map cells plain_cell) (cells_few d k design)

-- those of the first components that can step
pub record AreFirstParts (d : PlainDesign) (count : ℕ) (parts : List SteppingCells) : Type 0 where
  pub sized : length parts ≡ count
  pub each : (k : ℕ) (part : SteppingCells) → slice_get parts k ≡ Some part → AreSteppingCells (component_at d k).cells part

pub parts_more : (d : PlainDesign) (n : ℕ) (old new : List SteppingCells) (x : SteppingCells) → AreFirstParts d n old → new ≡ old ++ x ∷ [] → AreSteppingCells (component_at d n).cells x → AreFirstParts d (n + 1) new
parts_more d n old new x are is steps = record {
  sized = ap length is ∙ length-append old (x ∷ []) ∙ ap (λ k. k + 1) are.sized;
  each =
      λ k part e.
      ⊎_elim (λ f. are.each k part f)
      (λ f. subst (AreSteppingCells (component_at d k).cells) f.1 (subst (λ m. AreSteppingCells (component_at d m).cells x) (sym (f.0 ∙ are.sized)) steps))
      (either_at old x part k (ap (λ xs. slice_get xs k) (sym is) ∙ e));
}

pub all_parts : (d : PlainDesign) (n : ℕ) (parts : List SteppingCells) → AreFirstParts d n parts → n ≡ length d.components → AreSteppingParts d parts
all_parts d n parts are all = record { count = are.sized ∙ all; each = are.each }

-- and room for each
pub record HaveFirstRooms (parts : List SteppingCells) (count : ℕ) (rooms : List (List CellRoom)) : Type 0 where
  pub sized : length rooms ≡ count
  pub each : (k : ℕ) (part : SteppingCells) (own : List CellRoom) → slice_get parts k ≡ Some part → slice_get rooms k ≡ Some own → HaveRooms part.cells.items own

same_part : (x y : SteppingCells) → Some x ≡ Some y → x ≡ y
same_part x y e = cc

lists_more : (parts : List SteppingCells) (n : ℕ) (old new : List (List CellRoom)) (x : List CellRoom) (part : SteppingCells) → HaveFirstRooms parts n old → new ≡ old ++ x ∷ [] → slice_get parts n ≡ Some part → HaveRooms part.cells.items x
    → HaveFirstRooms parts (n + 1) new
lists_more parts n old new x part have is at has = record {
  sized = ap length is ∙ length-append old (x ∷ []) ∙ ap (λ k. k + 1) have.sized;
  each =
      λ k other own e f.
      ⊎_elim (λ g. have.each k other own e g)
      (λ g.
      let same : part ≡ other = same_part part other (sym at ∙ ap (slice_get parts) (sym (g.0 ∙ have.sized)) ∙ e) in
      subst (HaveRooms other.cells.items) g.1 (subst (λ (p : SteppingCells). HaveRooms p.cells.items x) same has))
      (either_at old x own k (ap (λ xs. slice_get xs k) (sym is) ∙ f));
}

module _ {A : Type 0} (parts : List SteppingCells) (n : ℕ) where
  abbrev lists : List (Vec CellRoom A) → List (List CellRoom)
  lists rooms = map (λ own. own.items) rooms

  pub rooms_more : (old new : List (Vec CellRoom A)) (x : Vec CellRoom A) (part : SteppingCells) → HaveFirstRooms parts n (lists old) → new ≡ old ++ x ∷ [] → slice_get parts n ≡ Some part → HaveRooms part.cells.items x.items
      → HaveFirstRooms parts (n + 1) (lists new)
  rooms_more old new x part have is at has =
      lists_more parts n (lists old) (lists new) x.items part have (ap lists is ∙ map-append (λ (own : Vec CellRoom A). own.items) old (x ∷ [])) at has

  pub all_rooms : (rooms : List (Vec CellRoom A)) → HaveFirstRooms parts n (lists rooms) → n ≡ length parts → HaveAllRooms parts (lists rooms)
  all_rooms rooms have all = record { count = have.sized ∙ all; each = have.each }
