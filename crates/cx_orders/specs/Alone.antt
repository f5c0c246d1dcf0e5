-- Faults that arms have, each run alone.
use Rattle.std.specs.Prelude.{◌≡◌, ◌≤◌, ◌<◌, ◌+◌, ◌-◌, ◌⊎◌, ℕ, suc, List, Option, Some, None}
use Rattle.cx_text.specs.Members.{In}
use Rattle.cx_text.specs.declared.places.Place.{Place}
use Rattle.cx_meaning.specs.declared.kinds.GroupKind.{GroupKind}
use Rattle.cx_meaning.specs.declared.kinds.GroupKind.TheVariants as kinds
use Rattle.cx_meaning.specs.declared.ports.PlacedPort.{PlacedPort}
use Rattle.cx_meaning.specs.declared.sights.Seen.{Seen}
use Rattle.cx_meaning.specs.Designs.{PlainDesign, group_at, Enable, Seq, Par, If, While, Repeat, PlainStatement, Placed, PlainStatements, a_statement, list_of}
use Rattle.cx_meaning.specs.Instances.{Instance, OfInstance, cell_at, cells_of, part_of, State, start, tree_of, under, idle}
use Rattle.cx_meaning.specs.Sights.{Held, unheld}
use Rattle.cx_meaning.specs.Cycles.{Fault}
use Rattle.cx_meaning.specs.Answers.{End, Holds, Fails}
use Rattle.cx_meaning.specs.Answers as answers
use Rattle.cx_meaning.specs.Calls.{called, fault_below, test}
use Rattle.cx_meaning.specs.Running.{run_statement}
use Rattle.cx_orders.specs.Open.{Open, Idling, InGroup, Choosing, Testing, InIsland, Capturing, Closing, Waiting, InSeq, InPar, InLoop, InRepeat, InCall, Opens, no_arms, an_arm, leaves_of}
use Rattle.cx_orders.specs.Steps.{Now, inputs_seen, held_as}
use Rattle.cx_orders.specs.Woven.{Choices, leaf_of, open_after}

-- a static group is an island, and calls nothing
abbrev pub if_dynamic : GroupKind → Option ℕ → Option ℕ
if_dynamic kinds.Plain c = c
if_dynamic kinds.Comb c = c
if_dynamic (kinds.Timed length) c = None

-- what is open without a part
abbrev pub IsLeaf : Open → Type 0
IsLeaf Idling = Unit {0}
IsLeaf (InGroup g) = Unit {0}
IsLeaf (Choosing port comb a b) = Unit {0}
IsLeaf (Testing port comb body) = Unit {0}
IsLeaf (InIsland form t left h) = Unit {0}
IsLeaf (Capturing g c) = Unit {0}
IsLeaf (Closing g) = Unit {0}
IsLeaf Waiting = Unit {0}
IsLeaf (InSeq first later) = ⊥
IsLeaf (InPar arms) = ⊥
IsLeaf (InLoop run port comb body) = ⊥
IsLeaf (InRepeat run left body) = ⊥
IsLeaf (InCall g c inputs child) = ⊥

-- leaf k of the open arms is in an arm: leaf l of what is open of it
abbrev pub IsInArm : Opens → ℕ → PlainStatement → Open → ℕ → Type 0
IsInArm no_arms k arm o l = ⊥
IsInArm (an_arm statement first later) k arm o l =
    ((k < leaves_of first) × (statement ≡ arm) × (first ≡ o) × (k ≡ l))
    ⊎ ((leaves_of first ≤ k) × IsInArm later (k - leaves_of first) arm o l)

-- A FAULT THAT THE ARM OF A LEAF HAS ALONE, where the leaf is by its number one of what is open of a statement: the fault comes in
-- this turn, counted from 0, of a run of the statement from the state in which, of each par on the way to the leaf, the arm in
-- which it is runs alone from the state with which the par begins; whatever has ended before has run whole
pub data HasAlone : Instance → Held → PlainStatement → State → Fault → ℕ → Open → ℕ → Type 0 where
  -- the run of the statement has it, which is open as a leaf
  own : {i : Instance} {held : Held} {st : PlainStatement} {s : State} {f : Fault} {t : ℕ} {o : Open} {k : ℕ} (n : ℕ)
      → IsLeaf o → run_statement i held st s n ≡ answers.Fault f t → HasAlone i held st s f t o k
  -- the arm of a par in which the leaf is
  of_arm : {i : Instance} {held : Held} {arms : PlainStatements} {place : Place} {s : State} {f : Fault}
      {t : ℕ} {now : Opens} {k : ℕ} (arm : PlainStatement) (o : Open) (l : ℕ)
      → In (list_of arms) arm → IsInArm now k arm o l → HasAlone i held arm s f t o l
      → HasAlone i held (Placed (Par arms) place) s f t (InPar now) k
  -- the first part of a seq, and those behind it from the state in which it ends
  of_first : {i : Instance} {held : Held} {first : PlainStatement} {later : PlainStatements}
      {place : Place} {s : State} {f : Fault} {t : ℕ} {o : Open} {k : ℕ}
      → HasAlone i held first s f t o k
      → HasAlone i held (Placed (Seq (a_statement first later)) place) s f t (InSeq o later) k
  behind_first : {i : Instance} {held : Held} {first : PlainStatement} {later : PlainStatements}
      {place : Place} {s : State} {f : Fault} {t : ℕ} {o : Open} {k : ℕ} (n : ℕ) (middle : State) (u : ℕ)
      → run_statement i held first s n ≡ End middle u → HasAlone i held (Placed (Seq later) place) middle f t o k
      → HasAlone i held (Placed (Seq (a_statement first later)) place) s f (u + t) o k
  -- a branch of an if, behind the turn of its test
  of_then : {i : Instance} {held : Held} {port : PlacedPort} {comb : Option ℕ} {a b : PlainStatement}
      {place : Place} {s : State} {f : Fault} {t : ℕ} {o : Open} {k : ℕ}
      → test i held port.port comb s ≡ Holds → HasAlone i held a (idle i s) f t o k
      → HasAlone i held (Placed (If port comb a b) place) s f (suc t) o k
  of_else : {i : Instance} {held : Held} {port : PlacedPort} {comb : Option ℕ} {a b : PlainStatement}
      {place : Place} {s : State} {f : Fault} {t : ℕ} {o : Open} {k : ℕ}
      → test i held port.port comb s ≡ Fails → HasAlone i held b (idle i s) f t o k
      → HasAlone i held (Placed (If port comb a b) place) s f (suc t) o k
  -- the body of a while behind the turn of its test, and what comes behind the body
  of_body : {i : Instance} {held : Held} {port : PlacedPort} {comb : Option ℕ} {a : PlainStatement}
      {place : Place} {s : State} {f : Fault} {t : ℕ} {o : Open} {k : ℕ}
      → test i held port.port comb s ≡ Holds → HasAlone i held a (idle i s) f t o k
      → HasAlone i held (Placed (While port comb a) place) s f (suc t) (InLoop o port.port comb a) k
  behind_body : {i : Instance} {held : Held} {port : PlacedPort} {comb : Option ℕ} {a : PlainStatement}
      {place : Place} {s : State} {f : Fault} {t : ℕ} {o : Open} {k : ℕ} (n : ℕ) (middle : State) (u : ℕ)
      → test i held port.port comb s ≡ Holds → run_statement i held a (idle i s) n ≡ End middle u
      → HasAlone i held (Placed (While port comb a) place) middle f t o k
      → HasAlone i held (Placed (While port comb a) place) s f (suc (u + t)) o k
  -- the first round of a repeat, and those behind it
  of_round : {i : Instance} {held : Held} {count : ℕ} {a : PlainStatement} {place : Place} {s : State}
      {f : Fault} {t : ℕ} {o : Open} {k : ℕ}
      → HasAlone i held a s f t o k → HasAlone i held (Placed (Repeat (suc count) a) place) s f t (InRepeat o count a) k
  behind_round : {i : Instance} {held : Held} {count : ℕ} {a : PlainStatement} {place : Place} {s : State}
      {f : Fault} {t : ℕ} {o : Open} {k : ℕ} (n : ℕ) (middle : State) (u : ℕ)
      → run_statement i held a s n ≡ End middle u → HasAlone i held (Placed (Repeat count a) place) middle f t o k
      → HasAlone i held (Placed (Repeat (suc count) a) place) s f (u + t) o k
  -- the control of the child that a group calls, with the inputs that are seen
  of_child : {i : Instance} {held : Held} {g : ℕ} {place : Place} {s : State} {f : Fault} {t : ℕ}
      {o : Open} {k : ℕ} {inputs : Option (List Seen)} (c : ℕ) (child : Instance)
      → if_dynamic (group_at (part_of i) g).kind (called i g) ≡ Some c → cell_at (cells_of i) c ≡ OfInstance child
      → HasAlone child (held_as (inputs_seen i held g c s)) (part_of child).control (under c s) f t o k
      → HasAlone i held (Placed (Enable g) place) s (fault_below c f) t (InCall g c inputs o) k

-- in some turn of at most so many
abbrev pub AloneWithin : Instance → Held → PlainStatement → State → Fault → ℕ → Open → ℕ → Type 0
AloneWithin i held st s f most o k = (t : ℕ) × HasAlone i held st s f t o k × (t ≤ most)

-- THE ARM OF THE LEAF that the choice behind so many names has the fault alone, in one of as many turns or the next
abbrev pub LeafHasAlone : PlainDesign → List (List ℕ) → Choices → Fault → ℕ → Type 0
LeafHasAlone d words choice f made =
    (now : Open) × (after : State) × (open_after d words choice made ≡ Now (Some now) after)
    × AloneWithin (tree_of d) unheld (part_of (tree_of d)).control (start (tree_of d) words) f made now
    (leaf_of (choice made) now)
