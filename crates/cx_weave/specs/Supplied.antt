-- Spare parts for all that is open, and for all that it opens.
use Rattle.std.specs.Prelude.{ℕ, ◌+◌, ◌≤◌, length}
use Rattle.cx_meaning.specs.Designs.{PlainDesign, PlainForm, PlainStatement, PlainStatements, list_of}
use Rattle.cx_meaning.specs.Instances.{Instance, Path, part_of, instance_at, tree_of}
use Rattle.cx_laws.specs.Samples.{form_ifs}
use Rattle.cx_state.specs.Tables.{IsNumber}
use Rattle.cx_turns.specs.Machines.{IsInstance, FormStands}
use Rattle.cx_weave.specs.declared.needs.Piece.{Piece}
use Rattle.cx_weave.specs.declared.spares.Spares.{Spares}
use Rattle.cx_orders.specs.Open.{Open, Opens}
use Rattle.cx_weave.specs.Strands.{PlainStrand, PlainArms, Shows, ShowsAll}
use Rattle.cx_weave.specs.Takes.{par_takes, arms_in, need, all_needs, room, rooms}
use Rattle.cx_weave.specs.Ledger.{Lengths, Kind, Pieces, Lacks, arms_box_amount, stock, places_for}

-- lists of these lengths suffice for each instance of a design
pub record Suffice (d : PlainDesign) (l : Lengths) : Type 0 where
  pub cells : (n : ℕ) (path : Path) → IsNumber d n path
      → length (part_of (instance_at (tree_of d) path)).cells ≤ l.cells
  pub inputs : (n : ℕ) (path : Path) → IsNumber d n path
      → length (part_of (instance_at (tree_of d) path)).inputs ≤ l.inputs
  pub samples : (n : ℕ) (form : PlainForm) → IsInstance d n → FormStands d n form → form_ifs form ≤ l.samples

-- WHAT IS ASKED at instance n is spare or in hand; and all that is in hand has its place among the spare parts
pub record Supplied (d : PlainDesign) (n : ℕ) (spares : Spares) (asked : Piece → Instance → ℕ)
    (hand : Kind → ℕ) : Type 0 where
  pub lengths : Lengths
  pub suffice : Suffice d lengths
  pub path : Path
  pub number : IsNumber d n path
  pub enough : (k : Piece) → asked k (instance_at (tree_of d) path) ≤ stock (Pieces k) spares + hand (Pieces k)
  pub places : (k : Piece) → stock (Pieces k) spares + hand (Pieces k) ≤ places_for k spares
  pub lists : stock (Lacks lengths) spares + hand (Lacks lengths) ≤ 0

-- a statement before it is opened, and the arms of a par
abbrev pub MayOpen : PlainDesign → ℕ → Spares → PlainStatement → Type 0
MayOpen d n spares st = Supplied d n spares (λ k i. need k i st) (λ x. 0)

abbrev pub MayOpenAll : PlainDesign → ℕ → Spares → PlainStatements → Type 0
MayOpenAll d n spares arms =
    Supplied d n spares (λ k i. par_takes k (length (list_of arms)) + all_needs k i arms) (λ x. 0)

-- a strand before a turn, and arms, whose box is in hand too
abbrev pub MayTurn : PlainDesign → ℕ → Spares → PlainStrand → (Kind → ℕ) → Type 0
MayTurn d n spares p hand = (o : Open) × Shows d n p o × Supplied d n spares (λ k i. room k i o) hand

abbrev pub MayTurnAll : PlainDesign → ℕ → Spares → PlainArms → (Kind → ℕ) → Type 0
MayTurnAll d n spares arms hand =
    (list : Opens) × ShowsAll d n arms list
    × Supplied d n spares (λ k i. par_takes k (arms_in list) + rooms k i list)
    (λ x. arms_box_amount x + hand x)
