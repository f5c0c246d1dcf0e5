-- Lists for islands and for the inputs of calls: they have room for all that is put into them.
use Rattle.std.proofs.Common.{◌≡◌, ℕ, ◌+◌, ◌≤◌, ◌<◌, Vec, Global, Bool, true, length, Option, Some, None, refl, ap, ◌∙◌, arith}
use Rattle.std.specs.Prelude.{is_some, vec_len, vec_capacity}
use Rattle.cx_meaning.specs.declared.kinds.GroupKind.{GroupKind}
use Rattle.cx_meaning.specs.declared.kinds.GroupKind.TheVariants as kinds
use Rattle.cx_meaning.specs.declared.sights.Seen.{Seen}
use Rattle.cx_meaning.specs.Designs.{PlainDesign, PlainForm, Empty, Enable, Seq, Par, If, While, Repeat, StaticSeq, StaticPar, StaticIf, StaticRepeat, Timed, Placed, no_place, group_at}
use Rattle.cx_meaning.specs.Instances.{Instance, Path, cells_of, part_of, instance_at, tree_of}
use Rattle.cx_meaning.specs.Islands.{kind_length}
use Rattle.cx_rules.specs.StaticControl.{is_island_form}
use Rattle.cx_laws.specs.Samples.{form_ifs}
use Rattle.cx_state.specs.Tables.{IsNumber}
use Rattle.cx_turns.specs.Islands.{IsIsland}
use Rattle.cx_turns.specs.Machines.{IsInstance, FormStands}
use Rattle.cx_weave.specs.declared.needs.Piece.{Piece}
use Rattle.cx_weave.specs.declared.needs.Piece.TheVariants as pieces
use Rattle.cx_weave.specs.declared.spares.Spares.{Spares}
use Rattle.cx_weave.specs.declared.strands.Strand.{Strand}
use Rattle.cx_weave.specs.Takes.{island_takes, call_takes, kind_need, below_need, need}
use Rattle.cx_weave.specs.Ledger.{Lengths, Kind, Pieces, Lacks, box_amount, amount, inputs_amount, island_amount, island_lacks, left_amount, places_for, stock, Ledger, HasPlaces}
use Rattle.cx_turns.specs.Marks.{HasMarks, set_count}
use Rattle.cx_weave.specs.Supplied.{MayOpen, Supplied}
use Rattle.cx_weave.proofs.Ledgers.{and_then}
use Rattle.cx_weave.proofs.OpenSupplies.{none_taken}
use Rattle.cx_weave.proofs.PartLedgers.{same_amounts, told_before}
use Rattle.cx_text.proofs.NumberLaws.{never}

kind_island : (k : Piece) (i : Instance) (child : ℕ → ℕ) (g : ℕ) (kind : GroupKind) → is_some (kind_length kind) ≡ true → kind_need k i child g kind ≡ island_takes k
kind_island k i child g kinds.Plain e = never e
kind_island k i child g kinds.Comb e = never e
kind_island k i child g (kinds.Timed length) e = refl

-- AN ISLAND asks for its lists
island_need : (k : Piece) (i : Instance) (form : PlainForm) → is_island_form (part_of i) form ≡ true → need k i (Placed form no_place) ≡ island_takes k
island_need k i Empty e = never e
island_need k i (Enable g) e = kind_island k i (below_need k (cells_of i)) g (group_at (part_of i) g).kind e
island_need k i (Seq parts) e = never e
island_need k i (Par arms) e = never e
island_need k i (If test comb a b) e = never e
island_need k i (While test comb a) e = never e
island_need k i (Repeat count a) e = never e
island_need k i (StaticSeq length parts) e = refl
island_need k i (StaticPar length arms) e = refl
island_need k i (StaticIf length test a b) e = refl
island_need k i (StaticRepeat length count a) e = refl
island_need k i (Timed t) e = never e

module _ (d : PlainDesign) (n : ℕ) (old : Spares) (form : PlainForm) (may : MayOpen d n old (Placed form no_place)) where
  pub lists_left : IsIsland d n form → 0 < vec_len old.islands
  lists_left island =
      let e = island_need pieces.Islands (instance_at (tree_of d) may.path) form (island may.path may.number) in
      let enough = may.enough pieces.Islands in
      omega (arith, e, enough)

  -- and they are long enough
  module _ (mid : Spares) (cells samples : ℕ) (l : Ledger old mid (λ x. 0) (λ x. island_amount x cells samples)) where
    lacks_nothing : stock (Lacks may.lengths) mid + island_lacks may.lengths cells samples ≤ 0
    lacks_nothing = (let h = l.most (Lacks may.lengths) in let a = may.lists in omega (arith, h, a))

    pub cells_fit : length mid.marks.items ≤ cells
    cells_fit = (let h = lacks_nothing in omega (arith, h))

    pub marks_fit : HasMarks d n mid.marks.items
    marks_fit path number = (let h = lacks_nothing in let f = may.suffice.cells n path number in omega (arith, h, f))

    pub marks_clear : set_count mid.marks.items ≡ 0
    marks_clear = (let h = lacks_nothing in omega (arith, h))

    pub samples_fit : IsInstance d n → FormStands d n form → form_ifs form ≤ samples
    samples_fit there stands = (let h = lacks_nothing in let f = may.suffice.samples n form there stands in omega (arith, h, f))

-- the cells are listed, by marks
module _ (old mid : Spares) (marks : Vec Bool Global) (cells filled samples : ℕ) (l : Ledger old mid (λ x. 0) (λ x. island_amount x cells samples)) (more : cells ≤ filled) (wide : length marks.items ≡ length mid.marks.items) (clear : set_count marks.items ≡ 0) where
  abbrev marked : Spares
  marked = record { boxes = mid.boxes; arms = mid.arms; islands = mid.islands; inputs = mid.inputs; marks = marks }

  most_marked : (x : Kind) → stock x marked + island_amount x filled samples ≤ stock x old + 0
  most_marked (Pieces pieces.Boxes) = l.most (Pieces pieces.Boxes)
  most_marked (Pieces pieces.Arms) = l.most (Pieces pieces.Arms)
  most_marked (Pieces pieces.Islands) = l.most (Pieces pieces.Islands)
  most_marked (Pieces pieces.Inputs) = l.most (Pieces pieces.Inputs)
  most_marked (Lacks lengths) = (let h = l.most (Lacks lengths) in omega (arith, h, more, wide, clear))

  least_marked : (k : Piece) → stock (Pieces k) old + 0 ≤ stock (Pieces k) marked + island_amount (Pieces k) filled samples
  least_marked pieces.Boxes = l.least pieces.Boxes
  least_marked pieces.Arms = l.least pieces.Arms
  least_marked pieces.Islands = l.least pieces.Islands
  least_marked pieces.Inputs = l.least pieces.Inputs

  places_marked : (k : Piece) → places_for k old ≤ places_for k marked
  places_marked pieces.Boxes = l.places pieces.Boxes
  places_marked pieces.Arms = l.places pieces.Arms
  places_marked pieces.Islands = l.places pieces.Islands
  places_marked pieces.Inputs = l.places pieces.Inputs

  pub cells_listed : (after : Kind → ℕ) → ((x : Kind) → after x ≡ island_amount x filled samples) → Ledger old marked (λ x. 0) after
  cells_listed after is = record {
    most = λ x. (let h = most_marked x in let e = is x in omega (arith, h, e));
    least = λ k. (let h = least_marked k in let e = is (Pieces k) in omega (arith, h, e));
    places = places_marked;
  }

pub island_place : (s : Spares) (cells samples : ℕ) → HasPlaces s (λ x. island_amount x cells samples) → vec_len s.islands < vec_capacity s.islands
island_place s cells samples places = (let p = places pieces.Islands in omega (arith, p))

-- INPUTS OF A CALL, which are not yet seen
module _ (d : PlainDesign) (n : ℕ) (old : Spares) (inputs : Option (Vec Seen Global)) (none : inputs ≡ None) (s : Supplied d n old (λ k i. call_takes k) (λ x. box_amount x + inputs_amount (λ v. vec_capacity v) x inputs)) where
  pub inputs_left : 0 < vec_len old.inputs
  inputs_left =
      let e : inputs_amount (λ v. vec_capacity v) (Pieces pieces.Inputs) inputs ≡ 0 = ap (inputs_amount (λ v. vec_capacity v) (Pieces pieces.Inputs)) none in
      let enough = s.enough pieces.Inputs in
      omega (arith, e, enough)

  pub inputs_fit : (m : ℕ) (path : Path) (held : ℕ) → IsNumber d m path → held ≡ length (part_of (instance_at (tree_of d) path)).inputs → (l : Lengths) × (held ≤ l.inputs) × (stock (Lacks l) old ≤ 0)
  inputs_fit m path held number is =
      let a = s.lists in
      let f = s.suffice.inputs m path number in
      (s.lengths, omega (arith, f, is), omega (arith, a))

-- a list that is taken has room for them
pub list_fits : (old new : Spares) (list : Vec Seen Global) (held : ℕ) → ((l : Lengths) × (held ≤ l.inputs) × (stock (Lacks l) old ≤ 0)) → Ledger old new (λ x. 0) (λ x. inputs_amount (λ v. vec_capacity v) x (Some list)) → held ≤ vec_capacity list
list_fits old new list held (lengths, le, none) l = (let h = l.most (Lacks lengths) in omega (arith, h, le, none))

-- a list that is filled has no less room
module _ (old new : Spares) (list filled : Vec Seen Global) (more : vec_capacity list ≤ vec_capacity filled) (l : Ledger old new (λ x. 0) (λ x. inputs_amount (λ v. vec_capacity v) x (Some list))) where
  filled_most : (x : Kind) → inputs_amount (λ v. vec_capacity v) x (Some filled) ≤ inputs_amount (λ v. vec_capacity v) x (Some list)
  filled_most (Pieces pieces.Boxes) = omega arith
  filled_most (Pieces pieces.Arms) = omega arith
  filled_most (Pieces pieces.Islands) = omega arith
  filled_most (Pieces pieces.Inputs) = omega arith
  filled_most (Lacks lengths) = omega (arith, more)

  filled_least : (k : Piece) → inputs_amount (λ v. vec_capacity v) (Pieces k) (Some list) ≡ inputs_amount (λ v. vec_capacity v) (Pieces k) (Some filled)
  filled_least pieces.Boxes = refl
  filled_least pieces.Arms = refl
  filled_least pieces.Islands = refl
  filled_least pieces.Inputs = refl

  pub list_filled : Ledger old new (λ x. 0) (λ x. inputs_amount (λ v. vec_capacity v) x (Some filled))
  list_filled = record {
    most = λ x. (let h = l.most x in let e = filled_most x in omega (arith, h, e));
    least = λ k. (let h = l.least k in let e = filled_least k in omega (arith, h, e));
    places = l.places;
  }

-- BEHIND THE CHILD OF A CALL its box and its inputs go back
module _ (s : Spares) (list : Vec Seen Global) (left : Option Strand) where
  abbrev call_hand : Kind → ℕ
  call_hand x = box_amount x + inputs_amount (λ v. vec_capacity v) x (Some list) + left_amount x left

  pub call_box_place : HasPlaces s call_hand → vec_len s.boxes < vec_capacity s.boxes
  call_box_place places = (let p = places pieces.Boxes in omega (arith, p))

  pub call_inputs_place : (mid : Spares) → HasPlaces s call_hand → Ledger s mid box_amount (λ x. 0) → vec_len mid.inputs < vec_capacity mid.inputs
  call_inputs_place mid places l = (let p = places pieces.Inputs in let h = l.most (Pieces pieces.Inputs) in let q = l.places pieces.Inputs in omega (arith, p, h, q))

  pub call_kept : (child whole : Strand) → left ≡ Some child → ((x : Kind) → amount x whole ≡ box_amount x + inputs_amount (λ v. vec_capacity v) x (Some list) + amount x child) → Ledger s s call_hand (λ x. left_amount x (Some whole))
  call_kept child whole some is =
      same_amounts s call_hand (λ x. left_amount x (Some whole)) (λ x. (let e : left_amount x left ≡ amount x child = ap (left_amount x) some in let f = is x in omega (arith, e, f)))

  pub call_ended : (mid new : Spares) (leaf : Strand) → left ≡ None → Ledger s mid box_amount (λ x. 0) → Ledger mid new (λ x. inputs_amount (λ v. vec_capacity v) x (Some list)) (λ x. 0) → ((x : Kind) → amount x leaf ≡ 0) → Ledger s new call_hand (λ x. left_amount x (Some leaf))
  call_ended mid new leaf none one two is =
      and_then s mid new box_amount (λ x. 0) (λ x. inputs_amount (λ v. vec_capacity v) x (Some list)) (λ x. 0) call_hand (λ x. left_amount x (Some leaf)) (λ x. inputs_amount (λ v. vec_capacity v) x (Some list)) (λ x. 0) one two
      (λ x. (let e : left_amount x left ≡ 0 = ap (left_amount x) none in omega (arith, e))) (λ x. omega arith) (λ x. (let e = is x in omega (arith, e)))

-- inputs that are held already
pub inputs_kept : (s : Spares) (inputs : Option (Vec Seen Global)) (list : Vec Seen Global) → inputs ≡ Some list → Ledger s s (λ x. inputs_amount (λ v. vec_capacity v) x inputs) (λ x. inputs_amount (λ v. vec_capacity v) x (Some list))
inputs_kept s inputs list some = same_amounts s (λ x. inputs_amount (λ v. vec_capacity v) x inputs) (λ x. inputs_amount (λ v. vec_capacity v) x (Some list)) (λ x. ap (inputs_amount (λ v. vec_capacity v) x) some)

pub inputs_seen_first : (old new : Spares) (inputs : Option (Vec Seen Global)) (after : Kind → ℕ) → inputs ≡ None → Ledger old new (λ x. 0) after → Ledger old new (λ x. inputs_amount (λ v. vec_capacity v) x inputs) after
inputs_seen_first old new inputs after none l =
    told_before old new (λ x. 0) (λ x. inputs_amount (λ v. vec_capacity v) x inputs) after (λ x. ap (inputs_amount (λ v. vec_capacity v) x) none ∙ none_taken (λ (v : Vec Seen Global). vec_capacity v) x) l
