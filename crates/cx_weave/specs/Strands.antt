-- Strands as plain data, and the open statements that they show.
use Rattle.std.specs.Prelude.{◌≡◌, ◌≢◌, ℕ, zero, suc, ◌+◌, ◌<◌, ◌≤◌, Bool, true, List, [], ◌∷◌, ◌++◌, length, slice_get, Option, Some, None}
use Rattle.cx_meaning.specs.Control.{form_drives}
use Rattle.cx_bits.specs.BitVector.{BitVector}
use Rattle.cx_meaning.specs.declared.ports.PortRef.{PortRef}
use Rattle.cx_meaning.specs.declared.ports.PlacedPort.{PlacedPort}
use Rattle.cx_meaning.specs.declared.sights.Seen.{Seen}
use Rattle.cx_meaning.specs.declared.sights.Seen.TheVariants.{Value}
use Rattle.cx_meaning.specs.Designs.{PlainDesign, PlainComponent, PlainForm, Empty, If, While, PlainStatement, Placed, no_place, PlainStatements, no_statements}
use Rattle.cx_meaning.specs.Instances.{Path, part_of, instance_at, tree_of}
use Rattle.cx_meaning.specs.Calls.{called}
use Rattle.cx_meaning.specs.Islands.{History, form_length}
use Rattle.cx_rules.specs.Ports.{declared_width}
use Rattle.cx_design.specs.PlainForms.{plain_form, plain_statement, plain_statements}
use Rattle.cx_state.specs.Tables.{IsNumber}
use Rattle.cx_eval_cycle.specs.Passes.{IsAscending}
use Rattle.cx_design_sizes.specs.Capped.{capped}
use Rattle.cx_laws.specs.Samples.{Samples, AreKept, form_ifs}
use Rattle.cx_interp_islands.specs.Rooms.{samples_of}
use Rattle.cx_turns.specs.Children.{HasChild}
use Rattle.cx_turns.specs.Groups.{IsGroupOf, ListDriven, ListWithin}
use Rattle.cx_turns.specs.Islands.{IsIsland}
use Rattle.cx_turns.specs.Machines.{FormStands, StandsIn, StandIn}
use Rattle.cx_weave.specs.declared.strands.Strand.{Strand, Strand-F, fold-Strand}
use Rattle.cx_weave.specs.declared.strands.Arms.{Arms, Arms-F, fold-Arms}
use Rattle.cx_weave.specs.declared.strands.Arms.TheOpen as strands
use Rattle.cx_weave.specs.declared.strands.Arms.TheVariants as halves
use Rattle.cx_weave.specs.declared.strands.Strand.TheVariants as variants
use Rattle.cx_orders.specs.Open.{Open, Idling, InGroup, Choosing, Testing, InIsland, Capturing, Closing, Waiting, InSeq, InPar, InLoop, InRepeat, InCall, Opens, no_arms, an_arm, beside}
use Rattle.cx_orders.specs.Leaves.{is_tested}

mutual
  pub data PlainStrand : Type 0 where
    AnIdling : PlainStrand
    AGroup : (g : ℕ) → PlainStrand
    AChoice : (port : PlacedPort) (comb : Option ℕ) (a b : PlainStatement) → PlainStrand
    ATest : (port : PlacedPort) (comb : Option ℕ) (body : PlainStatement) → PlainStrand
    AnIsland : (form : PlainForm) (t left : ℕ) (samples : List Bool) (cells : List ℕ) → PlainStrand
    ACapture : (g c : ℕ) → PlainStrand
    AClosing : (g : ℕ) → PlainStrand
    AWaiting : PlainStrand
    ASeq : (first : PlainStrand) (later : PlainStatements) → PlainStrand
    APar : (arms : PlainArms) → PlainStrand
    ALoop : (run : PlainStrand) (port : PlacedPort) (comb : Option ℕ) (body : PlainStatement) → PlainStrand
    ARepeat : (run : PlainStrand) (left : ℕ) (body : PlainStatement) → PlainStrand
    ACall : (g c : ℕ) (inputs : Option (List Seen)) (child : PlainStrand) → PlainStrand

  -- one arm, or two halves and the number of leaves that are told for both
  pub data PlainArms : Type 0 where
    one_arm : (arm : PlainStrand) → PlainArms
    both_arms : (leaves : ℕ) (one other : PlainArms) → PlainArms

abbrev pub seen_items : {V : Type 0} → (V → List Seen) → Option V → Option (List Seen)
seen_items items None = None
seen_items items (Some v) = Some (items v)

abbrev pub strand_step : Strand-F PlainArms PlainStrand → PlainStrand
strand_step strands.Idling = AnIdling
strand_step (strands.InGroup g) = AGroup g
strand_step (strands.Choosing port comb a b) = AChoice port comb (plain_statement a.now) (plain_statement b.now)
strand_step (strands.Testing port comb body) = ATest port comb (plain_statement body.now)
strand_step (strands.InIsland i) = AnIsland (plain_form i.form.now) i.cycle i.left i.samples.items i.cells.items
strand_step (strands.Capturing g c) = ACapture g c
strand_step (strands.Closing g) = AClosing g
strand_step strands.Waiting = AWaiting
strand_step (strands.InSeq first later) = ASeq first.value (plain_statements later.now)
strand_step (strands.InPar arms) = APar arms.value
strand_step (strands.InLoop run port comb body) = ALoop run.value port comb (plain_statement body.now)
strand_step (strands.InRepeat run left body) = ARepeat run.value left (plain_statement body.now)
strand_step (strands.InCall g c inputs child) = ACall g c (seen_items (λ v. v.items) inputs) child.value

abbrev pub arms_step : Arms-F PlainArms PlainStrand → PlainArms
arms_step (strands.One arm) = one_arm arm
arms_step (strands.Both leaves one other) = both_arms leaves one.value other.value

abbrev pub plain_strand : Strand → PlainStrand
plain_strand = fold-Strand PlainArms PlainStrand arms_step strand_step

abbrev pub plain_arms : Arms → PlainArms
plain_arms = fold-Arms PlainArms PlainStrand arms_step strand_step

-- WHICH STATEMENT a strand is open of
abbrev pub IsSeq : Strand → Type 0
IsSeq strand = (first : _) × (later : _) × strand ≡ variants.InSeq first later

abbrev pub IsPar : Strand → Type 0
IsPar strand = (arms : _) × strand ≡ variants.InPar arms

abbrev pub IsLoop : Strand → Type 0
IsLoop strand =
    (run : _) × (port : PlacedPort) × (comb : Option ℕ) × (body : _) × strand ≡ variants.InLoop run port comb body

abbrev pub IsRepeat : Strand → Type 0
IsRepeat strand = (run : _) × (left : ℕ) × (body : _) × strand ≡ variants.InRepeat run left body

-- of none of these, and no group: it is another leaf, or a call
pub record HasNoPart (strand : Strand) : Type 0 where
  pub group : (g : ℕ) → strand ≢ variants.InGroup g
  pub seq : (first later : _) → strand ≢ variants.InSeq first later
  pub par : (arms : _) → strand ≢ variants.InPar arms
  pub loop : (run : _) (port : PlacedPort) (comb : Option ℕ) (body : _) → strand ≢ variants.InLoop run port comb body
  pub repeat : (run : _) (left : ℕ) (body : _) → strand ≢ variants.InRepeat run left body

-- more than one arm
abbrev pub AreHalved : Arms → Type 0
AreHalved arms = (arm : Strand) → arms ≢ halves.One arm

-- WHAT STANDS BEHIND THE PART of a seq, of a while and of a repeat
abbrev pub later_of : PlainStrand → PlainStatements
later_of (ASeq first later) = later
later_of _ = no_statements

abbrev pub test_of : PlainStrand → PlainStrand
test_of (ALoop run port comb body) = ATest port comb body
test_of _ = AWaiting

abbrev pub rounds_of : PlainStrand → ℕ
rounds_of (ARepeat run left body) = left
rounds_of _ = 0

abbrev pub body_of : PlainStrand → PlainStatement
body_of (ARepeat run left body) = body
body_of _ = Placed Empty no_place

-- how many leaves are open
abbrev mutual
  pub strand_leaves : PlainStrand → ℕ
  strand_leaves AnIdling = 1
  strand_leaves (AGroup g) = 1
  strand_leaves (AChoice port comb a b) = 1
  strand_leaves (ATest port comb body) = 1
  strand_leaves (AnIsland form t left samples cells) = 1
  strand_leaves (ACapture g c) = 1
  strand_leaves (AClosing g) = 1
  strand_leaves AWaiting = 1
  strand_leaves (ASeq first later) = strand_leaves first
  strand_leaves (APar arms) = arms_leaves arms
  strand_leaves (ALoop run port comb body) = strand_leaves run
  strand_leaves (ARepeat run left body) = strand_leaves run
  strand_leaves (ACall g c inputs child) = strand_leaves child

  pub arms_leaves : PlainArms → ℕ
  arms_leaves (one_arm arm) = strand_leaves arm
  arms_leaves (both_arms leaves one other) = arms_leaves one + arms_leaves other

-- they are told where they are counted, up to a limit
abbrev pub Tells : ℕ → PlainArms → PlainArms → Type 0
Tells leaves one other = leaves ≡ capped (arms_leaves one + arms_leaves other)

abbrev mutual
  pub IsCounted : PlainStrand → Type 0
  IsCounted AnIdling = Unit {0}
  IsCounted (AGroup g) = Unit {0}
  IsCounted (AChoice port comb a b) = Unit {0}
  IsCounted (ATest port comb body) = Unit {0}
  IsCounted (AnIsland form t left samples cells) = Unit {0}
  IsCounted (ACapture g c) = Unit {0}
  IsCounted (AClosing g) = Unit {0}
  IsCounted AWaiting = Unit {0}
  IsCounted (ASeq first later) = IsCounted first
  IsCounted (APar arms) = AreCounted arms
  IsCounted (ALoop run port comb body) = IsCounted run
  IsCounted (ARepeat run left body) = IsCounted run
  IsCounted (ACall g c inputs child) = IsCounted child

  pub AreCounted : PlainArms → Type 0
  AreCounted (one_arm arm) = IsCounted arm
  AreCounted (both_arms leaves one other) = Tells leaves one other × AreCounted one × AreCounted other

-- two halves of some arms
abbrev pub IsBoth : PlainArms → PlainArms → PlainArms → Type 0
IsBoth one other arms =
    (leaves : ℕ) × (arms ≡ both_arms leaves one other)
    × (AreCounted one → AreCounted other → Tells leaves one other)

-- a group of instance n calls the child at a cell
abbrev pub CallsCell : PlainDesign → ℕ → ℕ → ℕ → Type 0
CallsCell d n g c = (path : Path) → IsNumber d n path → called (instance_at (tree_of d) path) g ≡ Some c

-- SAMPLES before cycle t of an island, where h is what it knows of them: they are those of a history that is the same for the
-- ports of its static ifs; before the first cycle whatever they are
abbrev pub KeptBefore : PlainComponent → History → ℕ → PlainForm → Samples → Type 0
KeptBefore part k zero form kept = Unit {0}
KeptBefore part k (suc t) form kept = AreKept part k t form kept

pub record Knows (part : PlainComponent) (form : PlainForm) (t : ℕ) (h : History) (kept : Samples) : Type 0 where
  pub history : History
  pub same : (port : PortRef) (at : ℕ) → is_tested form port ≡ true → h port at ≡ history port at
  pub before : KeptBefore part history t form kept

-- an island of instance n before its cycle t, with so many cycles left
pub record IsAtCycle (d : PlainDesign) (n : ℕ) (form : PlainForm) (t left : ℕ) (h : History)
    (samples : List Bool) (cells : List ℕ) : Type 0 where
  pub stands : FormStands d n form
  pub island : IsIsland d n form
  pub room : form_ifs form ≤ length samples
  pub driven : ListDriven d n cells (λ part. form_drives part form)
  pub ascending : IsAscending cells
  pub within : ListWithin d n cells
  pub knows : (path : Path) → IsNumber d n path
      → Knows (part_of (instance_at (tree_of d) path)) form t h (samples_of samples)
  pub whole : (path : Path) → IsNumber d n path → t + left ≡ form_length (part_of (instance_at (tree_of d) path)) form

-- inputs of a component, each with its width
pub record AreInputs (part : PlainComponent) (inputs : List Seen) : Type 0 where
  pub count : length inputs ≡ length part.inputs
  pub widths : (k : ℕ) (b : BitVector) → slice_get inputs k ≡ Some (Value b)
      → declared_width part.inputs k ≡ Some b.width

abbrev pub InputsFit : PlainDesign → ℕ → ℕ → Option (List Seen) → Type 0
InputsFit d n c None = Unit {0}
InputsFit d n c (Some inputs) =
    (path : Path) → IsNumber d n path
    → AreInputs (part_of (instance_at (tree_of d) (path ++ c ∷ []))) inputs

-- THE OPEN STATEMENT that a strand of instance n shows
abbrev mutual
  pub Shows : PlainDesign → ℕ → PlainStrand → Open → Type 0
  Shows d n AnIdling o = o ≡ Idling
  Shows d n (AGroup g) o = (o ≡ InGroup g) × IsGroupOf d n g
  Shows d n (AChoice port comb a b) o = (o ≡ Choosing port.port comb a b) × FormStands d n (If port comb a b)
  Shows d n (ATest port comb body) o = (o ≡ Testing port.port comb body) × FormStands d n (While port comb body)
  Shows d n (AnIsland form t left samples cells) o =
      (h : History) × (o ≡ InIsland form t left h) × IsAtCycle d n form t left h samples cells
  Shows d n (ACapture g c) o = (o ≡ Capturing g c) × IsGroupOf d n g × CallsCell d n g c
  Shows d n (AClosing g) o = (o ≡ Closing g) × IsGroupOf d n g
  Shows d n AWaiting o = o ≡ Waiting
  Shows d n (ASeq first later) o = (run : Open) × (o ≡ InSeq run later) × Shows d n first run × StandIn d n later
  Shows d n (APar arms) o = (list : Opens) × (o ≡ InPar list) × ShowsAll d n arms list
  Shows d n (ALoop run port comb body) o =
      (now : Open) × (o ≡ InLoop now port.port comb body) × Shows d n run now
      × FormStands d n (While port comb body)
  Shows d n (ARepeat run left body) o =
      (now : Open) × (o ≡ InRepeat now left body) × Shows d n run now × StandsIn d n body
  Shows d n (ACall g c inputs child) o =
      (now : Open) × (o ≡ InCall g c inputs now) × IsGroupOf d n g × CallsCell d n g c
      × InputsFit d n c inputs × ((m : ℕ) × HasChild d n c m × Shows d m child now)

  pub ShowsAll : PlainDesign → ℕ → PlainArms → Opens → Type 0
  ShowsAll d n (one_arm arm) list =
      (statement : PlainStatement) × (first : Open) × (list ≡ an_arm statement first no_arms)
      × Shows d n arm first
  ShowsAll d n (both_arms leaves one other) list =
      (front : Opens) × (back : Opens) × (list ≡ beside front back) × ShowsAll d n one front
      × ShowsAll d n other back × Tells leaves one other

abbrev pub IsShown : PlainDesign → ℕ → PlainStrand → Type 0
IsShown d n p = (o : Open) × Shows d n p o

abbrev pub AreShown : PlainDesign → ℕ → PlainArms → Type 0
AreShown d n arms = (list : Opens) × ShowsAll d n arms list

-- a cycle of an island of instance n, and samples before it
abbrev pub IsWithinIsland : PlainDesign → ℕ → PlainForm → ℕ → Type 0
IsWithinIsland d n form t =
    (path : Path) → IsNumber d n path → t < form_length (part_of (instance_at (tree_of d) path)) form

abbrev pub IsSampledBefore : PlainDesign → ℕ → ℕ → PlainForm → Samples → Type 0
IsSampledBefore d n t form kept =
    (path : Path) → IsNumber d n path
    → (h : History) × KeptBefore (part_of (instance_at (tree_of d) path)) h t form kept
