-- What open statements take of the spare parts, now and at most.
use Rattle.std.specs.Prelude.{ℕ, zero, suc, ◌+◌, ◌≤◌, max, [], ◌∷◌, length, Option, Some, None}
use Rattle.cx_meaning.specs.declared.kinds.GroupKind.{GroupKind}
use Rattle.cx_meaning.specs.declared.kinds.GroupKind.TheVariants as kinds
use Rattle.cx_meaning.specs.Designs.{group_at, PlainForm, Empty, Enable, Seq, Par, If, While, Repeat, StaticSeq, StaticPar, StaticIf, StaticRepeat, Timed, PlainStatement, Placed, PlainStatements, no_statements, a_statement, list_of}
use Rattle.cx_meaning.specs.Instances.{Instance, Node, Cells, no_cells, a_primitive, an_instance, instance_at, cells_of, part_of}
use Rattle.cx_meaning.specs.Calls.{called}
use Rattle.cx_weave.specs.declared.needs.Piece.{Piece}
use Rattle.cx_weave.specs.declared.needs.Piece.TheVariants as pieces
use Rattle.cx_orders.specs.Open.{Open, Idling, InGroup, Choosing, Testing, InIsland, Capturing, Closing, Waiting, InSeq, InPar, InLoop, InRepeat, InCall, Opens, no_arms, an_arm}
use Rattle.cx_orders.specs.Steps.{Stepped, Now, Stops}
use Rattle.cx_weave.specs.Strands.{PlainStrand, AnIdling, AGroup, AChoice, ATest, AnIsland, ACapture, AClosing, AWaiting, ASeq, APar, ALoop, ARepeat, ACall, PlainArms, one_arm, both_arms}

-- a statement around a part; a par, which takes a box for each arm and for each half; an island, a call
abbrev pub box_takes : Piece → ℕ
box_takes pieces.Boxes = 1
box_takes pieces.Arms = 0
box_takes pieces.Islands = 0
box_takes pieces.Inputs = 0

abbrev pub par_takes : Piece → ℕ → ℕ
par_takes pieces.Boxes arms = 0
par_takes pieces.Arms arms = arms + arms
par_takes pieces.Islands arms = 0
par_takes pieces.Inputs arms = 0

abbrev pub island_takes : Piece → ℕ
island_takes pieces.Boxes = 0
island_takes pieces.Arms = 0
island_takes pieces.Islands = 1
island_takes pieces.Inputs = 0

abbrev pub call_takes : Piece → ℕ
call_takes pieces.Boxes = 1
call_takes pieces.Arms = 0
call_takes pieces.Islands = 0
call_takes pieces.Inputs = 1

-- A STATEMENT, from its opening to its end, with what the enable of a group takes
module _ (k : Piece) (enable : ℕ → ℕ) where
  abbrev mutual
    pub form_need : PlainForm → ℕ
    form_need Empty = 0
    form_need (Enable g) = enable g
    form_need (Seq parts) = box_takes k + most_need parts
    form_need (Par arms) = par_takes k (length (list_of arms)) + all_need arms
    form_need (If test comb a b) = max (with_need a) (with_need b)
    form_need (While test comb a) = box_takes k + with_need a
    form_need (Repeat count a) = box_takes k + with_need a
    form_need (StaticSeq length parts) = island_takes k
    form_need (StaticPar length arms) = island_takes k
    form_need (StaticIf length test a b) = island_takes k
    form_need (StaticRepeat length count a) = island_takes k
    form_need (Timed t) = 0

    pub with_need : PlainStatement → ℕ
    with_need (Placed form place) = form_need form

    pub most_need : PlainStatements → ℕ
    most_need no_statements = 0
    most_need (a_statement first later) = max (with_need first) (most_need later)

    pub all_need : PlainStatements → ℕ
    all_need no_statements = 0
    all_need (a_statement first later) = with_need first + all_need later

-- the enable of a group: an island, a call with the child's control, or nothing
abbrev pub called_need : Piece → (ℕ → ℕ) → Option ℕ → ℕ
called_need k child (Some c) = call_takes k + child c
called_need k child None = 0

abbrev pub kind_need : Piece → Instance → (ℕ → ℕ) → ℕ → GroupKind → ℕ
kind_need k i child g kinds.Plain = called_need k child (called i g)
kind_need k i child g kinds.Comb = called_need k child (called i g)
kind_need k i child g (kinds.Timed length) = island_takes k

abbrev pub enable_need : Piece → Instance → (ℕ → ℕ) → ℕ → ℕ
enable_need k i child g = kind_need k i child g (group_at (part_of i) g).kind

abbrev mutual
  pub control_need : Piece → Instance → ℕ
  control_need k (Node part cells) = with_need k (enable_need k (Node part cells) (below_need k cells)) part.control

  pub below_need : Piece → Cells → ℕ → ℕ
  below_need k no_cells c = 0
  below_need k (a_primitive row rest) zero = 0
  below_need k (a_primitive row rest) (suc c) = below_need k rest c
  below_need k (an_instance child rest) zero = control_need k child
  below_need k (an_instance child rest) (suc c) = below_need k rest c

-- any statement of an instance, the largest of some, and some side by side
abbrev pub need : Piece → Instance → PlainStatement → ℕ
need k i st = with_need k (enable_need k i (below_need k (cells_of i))) st

abbrev pub needs : Piece → Instance → PlainStatements → ℕ
needs k i parts = most_need k (enable_need k i (below_need k (cells_of i))) parts

abbrev pub all_needs : Piece → Instance → PlainStatements → ℕ
all_needs k i arms = all_need k (enable_need k i (below_need k (cells_of i))) arms

-- how many arms are open
abbrev pub arms_in : Opens → ℕ
arms_in no_arms = 0
arms_in (an_arm statement arm arms) = suc (arms_in arms)

-- AT MOST, from now on until it ends
abbrev mutual
  pub room : Piece → Instance → Open → ℕ
  room k i Idling = 0
  room k i (InGroup g) = 0
  room k i (Choosing port comb a b) = max (need k i a) (need k i b)
  room k i (Testing port comb body) = box_takes k + need k i body
  room k i (InIsland form t left h) = island_takes k
  room k i (Capturing g c) = 0
  room k i (Closing g) = 0
  room k i Waiting = 0
  room k i (InSeq first later) = box_takes k + max (room k i first) (needs k i later)
  room k i (InPar arms) = par_takes k (arms_in arms) + rooms k i arms
  room k i (InLoop run port comb body) = box_takes k + max (room k i run) (need k i body)
  room k i (InRepeat run left body) = box_takes k + max (room k i run) (need k i body)
  room k i (InCall g c inputs child) = call_takes k + room k (instance_at i (c ∷ [])) child

  pub rooms : Piece → Instance → Opens → ℕ
  rooms k i no_arms = 0
  rooms k i (an_arm statement arm arms) = room k i arm + rooms k i arms

-- a turn leaves no more than so much
abbrev pub LeavesRoom : Piece → Instance → ℕ → Option Open → Type 0
LeavesRoom k i m None = Unit {0}
LeavesRoom k i m (Some o) = room k i o ≤ m

abbrev pub StepsWithin : Piece → Instance → ℕ → Stepped (Option Open) → Type 0
StepsWithin k i m (Now left after) = LeavesRoom k i m left
StepsWithin k i m (Stops fault) = Unit {0}

-- NOW, by the strands
abbrev pub inputs_taken : {A : Type 0} → Piece → Option A → ℕ
inputs_taken pieces.Boxes inputs = 0
inputs_taken pieces.Arms inputs = 0
inputs_taken pieces.Islands inputs = 0
inputs_taken pieces.Inputs None = 0
inputs_taken pieces.Inputs (Some list) = 1

-- the box of some arms
abbrev pub arms_take : Piece → ℕ
arms_take pieces.Boxes = 0
arms_take pieces.Arms = 1
arms_take pieces.Islands = 0
arms_take pieces.Inputs = 0

abbrev mutual
  pub taken : Piece → PlainStrand → ℕ
  taken k AnIdling = 0
  taken k (AGroup g) = 0
  taken k (AChoice port comb a b) = 0
  taken k (ATest port comb body) = 0
  taken k (AnIsland form t left samples cells) = island_takes k
  taken k (ACapture g c) = 0
  taken k (AClosing g) = 0
  taken k AWaiting = 0
  taken k (ASeq first later) = box_takes k + taken k first
  taken k (APar arms) = arms_take k + all_taken k arms
  taken k (ALoop run port comb body) = box_takes k + taken k run
  taken k (ARepeat run left body) = box_takes k + taken k run
  taken k (ACall g c inputs child) = box_takes k + inputs_taken k inputs + taken k child

  pub all_taken : Piece → PlainArms → ℕ
  all_taken k (one_arm arm) = taken k arm
  all_taken k (both_arms leaves one other) = (arms_take k + all_taken k one) + (arms_take k + all_taken k other)
