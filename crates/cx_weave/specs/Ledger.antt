-- The ledger of spare parts: what strands have of them and what is left, of each kind.
use Rattle.std.specs.Prelude.{◌≡◌, ℕ, ◌+◌, ◌-◌, ◌≤◌, Bool, List, [], ◌∷◌, length, Option, Some, None, Result, Ok, Err, vec_len, vec_capacity}
use Rattle.cx_weave.specs.declared.needs.Piece.{Piece}
use Rattle.cx_weave.specs.declared.needs.Piece.TheVariants as pieces
use Rattle.cx_weave.specs.declared.spares.IslandLists.{IslandLists}
use Rattle.cx_weave.specs.declared.spares.Spares.{Spares}
use Rattle.cx_weave.specs.declared.strands.Strand.{Strand, Strand-F, fold-Strand}
use Rattle.cx_weave.specs.declared.strands.Arms.{Arms, Arms-F, fold-Arms}
use Rattle.cx_weave.specs.declared.strands.Arms.TheOpen as strands
use Rattle.cx_turns.specs.Marks.{set_count}
use Rattle.cx_weave.specs.Strands.{plain_strand, plain_arms}
use Rattle.cx_weave.specs.Takes.{box_takes, island_takes, inputs_taken, arms_take, taken, all_taken}

-- how long lists are to be: lists of cells, of samples, of inputs
pub record Lengths : Type 0 where
  pub cells : ℕ
  pub samples : ℕ
  pub inputs : ℕ

-- WHAT IS COUNTED: pieces, and by how much lists are too short for these lengths, all together, and marks not as they are to be
pub data Kind : Type 0 where
  Pieces : (k : Piece) → Kind
  Lacks : (lengths : Lengths) → Kind

-- by the capacity of its cells, and by the number of its samples
abbrev pub island_lacks : Lengths → ℕ → ℕ → ℕ
island_lacks l cells samples = (l.cells - cells) + (l.samples - samples)

abbrev pub inputs_lack : {V : Type 0} → (V → ℕ) → Lengths → Option V → ℕ
inputs_lack room l None = 0
inputs_lack room l (Some list) = l.inputs - room list

abbrev pub lack_step : Lengths → Strand-F ℕ ℕ → ℕ
lack_step l strands.Idling = 0
lack_step l (strands.InGroup g) = 0
lack_step l (strands.Choosing port comb a b) = 0
lack_step l (strands.Testing port comb body) = 0
lack_step l (strands.InIsland i) = island_lacks l (vec_capacity i.cells) (length i.samples.items)
lack_step l (strands.Capturing g c) = 0
lack_step l (strands.Closing g) = 0
lack_step l strands.Waiting = 0
lack_step l (strands.InSeq first later) = first.value
lack_step l (strands.InPar arms) = arms.value
lack_step l (strands.InLoop run port comb body) = run.value
lack_step l (strands.InRepeat run left body) = run.value
lack_step l (strands.InCall g c inputs child) = inputs_lack (λ v. vec_capacity v) l inputs + child.value

abbrev pub lack_arms : Lengths → Arms-F ℕ ℕ → ℕ
lack_arms l (strands.One arm) = arm
lack_arms l (strands.Both leaves one other) = one.value + other.value

-- WHAT A STRAND HAS of a kind, and what arms have
abbrev pub amount : Kind → Strand → ℕ
amount (Pieces k) strand = taken k (plain_strand strand)
amount (Lacks l) strand = fold-Strand ℕ ℕ (lack_arms l) (lack_step l) strand

abbrev pub arms_amount : Kind → Arms → ℕ
arms_amount (Pieces k) arms = all_taken k (plain_arms arms)
arms_amount (Lacks l) arms = fold-Arms ℕ ℕ (lack_arms l) (lack_step l) arms

-- what is left of a strand, and of arms
abbrev pub left_amount : Kind → Option Strand → ℕ
left_amount x None = 0
left_amount x (Some strand) = amount x strand

abbrev pub arms_left_amount : Kind → Option Arms → ℕ
arms_left_amount x None = 0
arms_left_amount x (Some arms) = arms_amount x arms

-- a box of a strand, one of arms, the lists of an island, the inputs of a call
abbrev pub box_amount : Kind → ℕ
box_amount (Pieces k) = box_takes k
box_amount (Lacks l) = 0

abbrev pub arms_box_amount : Kind → ℕ
arms_box_amount (Pieces k) = arms_take k
arms_box_amount (Lacks l) = 0

abbrev pub island_amount : Kind → ℕ → ℕ → ℕ
island_amount (Pieces k) cells samples = island_takes k
island_amount (Lacks l) cells samples = island_lacks l cells samples

abbrev pub inputs_amount : {V : Type 0} → (V → ℕ) → Kind → Option V → ℕ
inputs_amount room (Pieces k) inputs = inputs_taken k inputs
inputs_amount room (Lacks l) inputs = inputs_lack room l inputs

-- WHAT IS SPARE of a kind
abbrev pub pieces_spare : Piece → Spares → ℕ
pieces_spare pieces.Boxes spares = vec_len spares.boxes
pieces_spare pieces.Arms spares = vec_len spares.arms
pieces_spare pieces.Islands spares = vec_len spares.islands
pieces_spare pieces.Inputs spares = vec_len spares.inputs

abbrev pub total : {A : Type 0} → (A → ℕ) → List A → ℕ
total f [] = 0
total f (x ∷ xs) = f x + total f xs

abbrev pub lists_lack : Lengths → IslandLists → ℕ
lists_lack l lists = island_lacks l (vec_capacity lists.cells) (length lists.samples.items)

-- marks are to be as many as a list of cells has places, and none of them set
abbrev pub marks_lack : Lengths → List Bool → ℕ
marks_lack l marks = (l.cells - length marks) + (length marks - l.cells) + set_count marks

abbrev pub stock : Kind → Spares → ℕ
stock (Pieces k) spares = pieces_spare k spares
stock (Lacks l) spares =
    total (lists_lack l) spares.islands.items
    + total (λ list. l.inputs - vec_capacity list) spares.inputs.items + marks_lack l spares.marks.items

-- how many pieces there is room for
abbrev pub places_for : Piece → Spares → ℕ
places_for pieces.Boxes spares = vec_capacity spares.boxes
places_for pieces.Arms spares = vec_capacity spares.arms
places_for pieces.Islands spares = vec_capacity spares.islands
places_for pieces.Inputs spares = vec_capacity spares.inputs

-- THE LEDGER: nothing is lost and no list becomes shorter, from what was had before to what is had after
pub record Ledger (old new : Spares) (before after : Kind → ℕ) : Type 0 where
  pub most : (x : Kind) → stock x new + after x ≤ stock x old + before x
  pub least : (k : Piece) → stock (Pieces k) old + before (Pieces k) ≤ stock (Pieces k) new + after (Pieces k)
  pub places : (k : Piece) → places_for k old ≤ places_for k new

-- of a statement as it is opened, and of arms
abbrev pub Opened : Spares → Spares → Strand → Type 0
Opened old new strand = Ledger old new (λ x. 0) (λ x. amount x strand)

abbrev pub ArmsOpened : Spares → Spares → Arms → Type 0
ArmsOpened old new arms = Ledger old new (λ x. 0) (λ x. arms_amount x arms)

-- of a turn, and of one of arms; where there was a fault nothing is said
abbrev pub Turned : {E : Type 0} → Spares → Spares → (Kind → ℕ) → Result (Option Strand) E → Type 0
Turned old new before (Ok left) = Ledger old new before (λ x. left_amount x left)
Turned old new before (Err fault) = Unit {0}

abbrev pub ArmsTurned : {E : Type 0} → Spares → Spares → (Kind → ℕ) → Result (Option Arms) E → Type 0
ArmsTurned old new before (Ok left) = Ledger old new before (λ x. arms_left_amount x left)
ArmsTurned old new before (Err fault) = Unit {0}

-- what is left of a leaf takes nothing
abbrev pub TakesNothing : {E : Type 0} → Result (Option Strand) E → Type 0
TakesNothing (Ok left) = (x : Kind) → left_amount x left ≡ 0
TakesNothing (Err fault) = Unit {0}

-- there are places among the spare parts for all that is in hand
abbrev pub HasPlaces : Spares → (Kind → ℕ) → Type 0
HasPlaces spares hand = (k : Piece) → stock (Pieces k) spares + hand (Pieces k) ≤ places_for k spares
