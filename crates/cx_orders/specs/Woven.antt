-- A woven run: the leaves that are open take turns in a chosen order.
use Rattle.std.specs.Prelude.{ℕ, zero, suc, ◌+◌, ◌%◌, List, length, get_or, Option, Some, None}
use Rattle.cx_meaning.specs.Designs.{PlainDesign}
use Rattle.cx_meaning.specs.Instances.{Instance, State, tree_of, start}
use Rattle.cx_meaning.specs.Sights.{Held, unheld}
use Rattle.cx_meaning.specs.Cycles.{Fault}
use Rattle.cx_orders.specs.Open.{Open, leaves_of, open_control}
use Rattle.cx_orders.specs.Steps.{Stepped, Now, Stops, step}

-- how a woven run ends: with the state, the count of choices made, and the sum of the numbers of the leaves that they
-- advanced; with the fault of a leaf and the count of choices before it; or not while choices last
pub data Woven : Type 0 where
  Ends : (after : State) (choices numbers : ℕ) → Woven
  Faults : (fault : Fault) (choices : ℕ) → Woven
  More : Woven

-- each choice, by its number from 0
abbrev pub Choices : Type 0
Choices = ℕ → ℕ

-- the leaf that a choice names
abbrev pub leaf_of : ℕ → Open → ℕ
leaf_of choice now = choice % leaves_of now

abbrev pub then_weave : ℕ → Stepped (Option Open) → (Option Open → State → Woven) → Woven
then_weave made (Now left after) go = go left after
then_weave made (Stops fault) go = Faults fault made

-- with so many choices left, where some were made, with this sum of numbers
abbrev pub weave_from : Instance → Held → Choices → ℕ → ℕ → ℕ → Option Open → State → Woven
weave_from i held choice left made sum None s = Ends s made sum
weave_from i held choice zero made sum (Some now) s = More
weave_from i held choice (suc left) made sum (Some now) s =
    then_weave made (step i held now (leaf_of (choice made) now) s)
    (weave_from i held choice left (suc made) (sum + leaf_of (choice made) now))

-- WOVEN, from the start with the loaded words, with so many choices
abbrev pub woven : PlainDesign → List (List ℕ) → Choices → ℕ → Woven
woven d words choice steps =
    weave_from (tree_of d) unheld choice steps 0 0 (Some (open_control (tree_of d)))
    (start (tree_of d) words)

-- WHAT IS OPEN after so many choices, and the state then; or the fault that a leaf has before
abbrev pub then_open : Stepped (Option Open) → (Option Open → State → Stepped (Option Open)) → Stepped (Option Open)
then_open (Now left after) go = go left after
then_open (Stops fault) go = Stops fault

abbrev pub open_from : Instance → Held → Choices → ℕ → ℕ → Option Open → State → Stepped (Option Open)
open_from i held choice zero made now s = Now now s
open_from i held choice (suc left) made None s = Now None s
open_from i held choice (suc left) made (Some now) s =
    then_open (step i held now (leaf_of (choice made) now) s) (open_from i held choice left (suc made))

abbrev pub open_after : PlainDesign → List (List ℕ) → Choices → ℕ → Stepped (Option Open)
open_after d words choice steps =
    open_from (tree_of d) unheld choice steps 0 (Some (open_control (tree_of d))) (start (tree_of d) words)

-- the choices of a list, from its front again and again
abbrev pub by_list : List ℕ → Choices
by_list list j = get_or list (j % length list) 0
