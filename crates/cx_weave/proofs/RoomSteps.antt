-- What open statements take at most: no more than the statement of which they are, and no more after a turn.
use Rattle.std.proofs.Common.{◌≡◌, ℕ, zero, suc, ◌+◌, ◌-◌, ◌≤◌, max, Bool, true, false, nat_lt, List, [], ◌∷◌, length, Option, Some, None, refl, ap, arith}
use Rattle.cx_meaning.specs.declared.ports.PortRef.{PortRef}
use Rattle.cx_meaning.specs.declared.kinds.GroupKind.{GroupKind}
use Rattle.cx_meaning.specs.declared.kinds.GroupKind.TheVariants as kinds
use Rattle.cx_meaning.specs.declared.sights.Seen.{Seen}
use Rattle.cx_meaning.specs.Designs.{PlainComponent, group_at, PlainForm, Empty, Enable, Seq, Par, If, While, Repeat, StaticSeq, StaticPar, StaticIf, StaticRepeat, Timed, PlainStatement, Placed, PlainStatements, no_statements, a_statement, list_of}
use Rattle.cx_meaning.specs.Instances.{Instance, Node, Cells, no_cells, a_primitive, an_instance, child_at, instance_at, State}
use Rattle.cx_meaning.specs.Sights.{Held}
use Rattle.cx_meaning.specs.Cycles.{Fault}
use Rattle.cx_meaning.specs.Answers.{Turn, Ends, Goes, Faults, Test, Holds, Fails, Unclear}
use Rattle.cx_meaning.specs.Calls.{called, captures, test}
use Rattle.cx_weave.specs.declared.needs.Piece.{Piece}
use Rattle.cx_weave.specs.declared.needs.Piece.TheVariants as pieces
use Rattle.cx_orders.specs.Leaves.{own_turn, own_capture, own_island, samples_now}
use Rattle.cx_orders.specs.Open.{Open, Idling, InGroup, Choosing, Testing, InIsland, Capturing, Closing, Waiting, InSeq, InPar, InLoop, InRepeat, InCall, Opens, no_arms, an_arm, leaves_of, open_form, open_with, open_arms, open_called, open_kind, open_enable, open_control, open_below, open_statement, open_statements}
use Rattle.cx_orders.specs.Steps.{Stepped, Now, Stops, step, step_arms, within, turned, tested, seq_left, loop_left, repeat_left, arms_left, par_left, behind_child, call_left, lift_step, first_or, inputs_for, inputs_seen, held_as}
use Rattle.cx_weave.specs.Takes.{box_takes, par_takes, island_takes, form_need, with_need, all_need, called_need, kind_need, enable_need, control_need, below_need, need, all_needs, arms_in, room, rooms, LeavesRoom, StepsWithin}

par_grows : (k : Piece) (m n : ℕ) → m ≤ n → par_takes k m ≤ par_takes k n
par_grows pieces.Boxes m n le = omega arith
par_grows pieces.Arms m n le = omega (arith, le)
par_grows pieces.Islands m n le = omega arith
par_grows pieces.Inputs m n le = omega arith

-- AS IT IS OPENED, a statement takes no more than it needs
module _ (k : Piece) (part : PlainComponent) (cells : Cells) (below : (c : ℕ) → room k (instance_at (Node part cells) (c ∷ [])) (open_below cells c) ≤ below_need k cells c) where
  abbrev enables : ℕ → Open
  enables = open_enable (Node part cells) (open_below cells)

  abbrev takes : ℕ → ℕ
  takes = enable_need k (Node part cells) (below_need k cells)

  called_room : (g : ℕ) (o : Option ℕ) → room k (Node part cells) (open_called (open_below cells) g o) ≤ called_need k (below_need k cells) o
  called_room g None = omega arith
  called_room g (Some c) = (let h = below c in omega (arith, h))

  kind_room : (g : ℕ) (kind : GroupKind) → room k (Node part cells) (open_kind (Node part cells) (open_below cells) g kind) ≤ kind_need k (Node part cells) (below_need k cells) g kind
  kind_room g kinds.Plain = called_room g (called (Node part cells) g)
  kind_room g kinds.Comb = called_room g (called (Node part cells) g)
  kind_room g (kinds.Timed t) = omega arith

  arms_opened : (arms : PlainStatements) → arms_in (open_arms part enables arms) ≡ length (list_of arms)
  arms_opened no_statements = refl
  arms_opened (a_statement first later) = ap (λ n. suc n) (arms_opened later)

  mutual
    form_room : (form : PlainForm) → room k (Node part cells) (open_form part enables form) ≤ form_need k takes form
    form_room Empty = omega arith
    form_room (Enable g) = kind_room g (group_at part g).kind
    form_room (Seq no_statements) = omega arith
    form_room (Seq (a_statement first later)) =
        let h = with_room first in
        omega (arith, h)
    form_room (Par no_statements) = omega arith
    form_room (Par (a_statement first later)) =
        let count = arms_opened later in
        let boxes = par_grows k (suc (arms_in (open_arms part enables later))) (suc (length (list_of later))) (omega (arith, count)) in
        let h = with_room first in
        let hs = arms_room later in
        omega (arith, boxes, h, hs)
    form_room (If t comb a b) = omega arith
    form_room (While t comb a) = omega arith
    form_room (Repeat zero a) = omega arith
    form_room (Repeat (suc count) a) =
        let h = with_room a in
        omega (arith, h)
    form_room (StaticSeq t parts) = omega arith
    form_room (StaticPar t arms) = omega arith
    form_room (StaticIf t port a b) = omega arith
    form_room (StaticRepeat t count a) = omega arith
    form_room (Timed t) = omega arith

    with_room : (st : PlainStatement) → room k (Node part cells) (open_with part enables st) ≤ with_need k takes st
    with_room (Placed form place) = form_room form

    arms_room : (arms : PlainStatements) → rooms k (Node part cells) (open_arms part enables arms) ≤ all_need k takes arms
    arms_room no_statements = omega arith
    arms_room (a_statement first later) =
        let h = with_room first in
        let hs = arms_room later in
        omega (arith, h, hs)

mutual
  control_room : (k : Piece) (i : Instance) → room k i (open_control i) ≤ control_need k i
  control_room k (Node part cells) = with_room k part cells (λ c. below_room k cells c) part.control

  below_room : (k : Piece) (cells : Cells) (c : ℕ) → room k (child_at cells c []) (open_below cells c) ≤ below_need k cells c
  below_room k no_cells c = omega arith
  below_room k (a_primitive row rest) zero = omega arith
  below_room k (a_primitive row rest) (suc c) = below_room k rest c
  below_room k (an_instance (Node part cells) rest) zero = control_room k (Node part cells)
  below_room k (an_instance child rest) (suc c) = below_room k rest c

pub opened_room : (k : Piece) (i : Instance) (st : PlainStatement) → room k i (open_statement i st) ≤ need k i st
opened_room k (Node part cells) st = with_room k part cells (λ c. below_room k cells c) st

-- and so do arms
pub all_opened : (k : Piece) (i : Instance) (arms : PlainStatements) → (arms_in (open_statements i arms) ≡ length (list_of arms)) × (rooms k i (open_statements i arms) ≤ all_needs k i arms)
all_opened k (Node part cells) arms = (arms_opened k part cells (λ c. below_room k cells c) arms, arms_room k part cells (λ c. below_room k cells c) arms)

-- A TURN takes no more from then on
module _ (k : Piece) (i : Instance) (m : ℕ) where
  turned_within : (t : Turn State Fault) (idle : State) (later : Open) → room k i later ≤ m → StepsWithin k i m (turned t idle later)
  turned_within Ends idle later le = tt
  turned_within (Goes after) idle later le = le
  turned_within (Faults fault) idle later le = tt

  tested_within : (t : Test Fault) (idle : State) (taken other : Option Open) → LeavesRoom k i m taken → LeavesRoom k i m other → StepsWithin k i m (tested t idle taken other)
  tested_within Holds idle taken other one two = one
  tested_within Fails idle taken other one two = two
  tested_within (Unclear fault) idle taken other one two = tt

module _ (k : Piece) (i : Instance) where
  seq_within : (first : Open) (later : PlainStatements) (x : Stepped (Option Open)) → StepsWithin k i (room k i first) x → StepsWithin k i (room k i (InSeq first later)) (within (seq_left i later) x)
  seq_within first later (Stops fault) h = tt
  seq_within first later (Now (Some o) after) h =
      let le : room k i o ≤ room k i first = h in
      omega (arith, le)
  seq_within first no_statements (Now None after) h = tt
  seq_within first (a_statement next later) (Now None after) h =
      let le = opened_room k i next in
      omega (arith, le)

  loop_within : (run : Open) (port : PortRef) (comb : Option ℕ) (body : PlainStatement) (x : Stepped (Option Open)) → StepsWithin k i (room k i run) x → StepsWithin k i (room k i (InLoop run port comb body)) (within (loop_left port comb body) x)
  loop_within run port comb body (Stops fault) h = tt
  loop_within run port comb body (Now (Some o) after) h =
      let le : room k i o ≤ room k i run = h in
      omega (arith, le)
  loop_within run port comb body (Now None after) h = omega arith

  repeat_within : (run : Open) (left : ℕ) (body : PlainStatement) (x : Stepped (Option Open)) → StepsWithin k i (room k i run) x → StepsWithin k i (room k i (InRepeat run left body)) (within (repeat_left i left body) x)
  repeat_within run left body (Stops fault) h = tt
  repeat_within run left body (Now (Some o) after) h =
      let le : room k i o ≤ room k i run = h in
      omega (arith, le)
  repeat_within run zero body (Now None after) h = tt
  repeat_within run (suc left) body (Now None after) h =
      let le = opened_room k i body in
      omega (arith, le)

  behind_room : (b : Bool) (g c : ℕ) → room k i (behind_child b g c) ≡ 0
  behind_room true g c = refl
  behind_room false g c = refl

  call_within : (g c : ℕ) (inputs before : Option (List Seen)) (list : List Seen) (child : Open) (s : State) (x : Stepped (Option Open)) → StepsWithin k (instance_at i (c ∷ [])) (room k (instance_at i (c ∷ [])) child) x
      → StepsWithin k i (room k i (InCall g c before child)) (lift_step c s (call_left i g c list) x)
  call_within g c inputs before list child s (Stops fault) h = tt
  call_within g c inputs before list child s (Now (Some o) after) h =
      let le : room k (instance_at i (c ∷ [])) o ≤ room k (instance_at i (c ∷ [])) child = h in
      omega (arith, le)
  call_within g c inputs before list child s (Now None after) h = (let e = behind_room (captures i g) g c in omega (arith, e))

  -- THE ARMS OF A PAR
  abbrev ArmsWithin : Opens → Stepped Opens → Type 0
  ArmsWithin arms (Stops fault) = Unit {0}
  ArmsWithin arms (Now list after) = (arms_in list ≤ arms_in arms) × (rooms k i list ≤ rooms k i arms)

  one_within : (st : PlainStatement) (arm : Open) (arms : Opens) (x : Stepped (Option Open)) → StepsWithin k i (room k i arm) x → ArmsWithin (an_arm st arm arms) (within (arms_left st arms) x)
  one_within st arm arms (Stops fault) h = tt
  one_within st arm arms (Now None after) h = (omega arith, omega arith)
  one_within st arm arms (Now (Some o) after) h = (omega arith, let le : room k i o ≤ room k i arm = h in omega (arith, le))

  behind_within : (st : PlainStatement) (arm : Open) (arms : Opens) (x : Stepped Opens) → ArmsWithin arms x → ArmsWithin (an_arm st arm arms) (within (an_arm st arm) x)
  behind_within st arm arms (Stops fault) h = tt
  behind_within st arm arms (Now list after) h =
      let le = h.0 in
      let hs = h.1 in
      (omega (arith, le), omega (arith, hs))

  par_within : (arms : Opens) (x : Stepped Opens) → ArmsWithin arms x → StepsWithin k i (room k i (InPar arms)) (within par_left x)
  par_within arms (Stops fault) h = tt
  par_within arms (Now no_arms after) h = tt
  par_within arms (Now (an_arm st arm list) after) h =
      let boxes = par_grows k (suc (arms_in list)) (arms_in arms) h.0 in
      let le = h.1 in
      omega (arith, boxes, le)

  chosen_within : (arms : Opens) (b : Bool) (x y : Stepped Opens) → ArmsWithin arms x → ArmsWithin arms y → ArmsWithin arms (first_or b x y)
  chosen_within arms true x y one two = one
  chosen_within arms false x y one two = two

mutual
  pub step_room : (k : Piece) (i : Instance) (held : Held) (o : Open) (l : ℕ) (s : State) → StepsWithin k i (room k i o) (step i held o l s)
  step_room k i held Idling l s = tt
  step_room k i held (InGroup g) l s = turned_within k i 0 (own_turn i held g s) _ (InGroup g) (omega arith)
  step_room k i held (Choosing port comb a b) l s =
      let one = opened_room k i a in
      let other = opened_room k i b in
      tested_within k i (max (need k i a) (need k i b)) (test i held port comb s) _ (Some (open_statement i a)) (Some (open_statement i b)) (omega (arith, one)) (omega (arith, other))
  step_room k i held (Testing port comb body) l s =
      let le = opened_room k i body in
      tested_within k i (box_takes k + need k i body) (test i held port comb s) _ (Some (InLoop (open_statement i body) port comb body)) None
      (omega (arith, le)) tt
  step_room k i held (InIsland form t zero h) l s = tt
  step_room k i held (InIsland form t (suc left) h) l s = turned_within k i (island_takes k) (own_island i held form t (samples_now i held form h t s) s) s (InIsland form (suc t) left (samples_now i held form h t s)) (omega arith)
  step_room k i held (Capturing g c) l s = turned_within k i 0 (own_capture i held g c s) s (Closing g) (omega arith)
  step_room k i held (Closing g) l s = tt
  step_room k i held Waiting l s = omega arith
  step_room k i held (InSeq first later) l s = seq_within k i first later (step i held first l s) (step_room k i held first l s)
  step_room k i held (InPar arms) l s = par_within k i arms (step_arms i held arms l s) (arms_step_room k i held arms l s)
  step_room k i held (InLoop run port comb body) l s = loop_within k i run port comb body (step i held run l s) (step_room k i held run l s)
  step_room k i held (InRepeat run left body) l s = repeat_within k i run left body (step i held run l s) (step_room k i held run l s)
  step_room k i held (InCall g c inputs child) l s =
      call_within k i g c inputs inputs (inputs_for inputs (inputs_seen i held g c s)) child s _ (step_room k (instance_at i (c ∷ [])) (held_as (inputs_for inputs (inputs_seen i held g c s))) child l _)

  arms_step_room : (k : Piece) (i : Instance) (held : Held) (arms : Opens) (l : ℕ) (s : State) → ArmsWithin k i arms (step_arms i held arms l s)
  arms_step_room k i held no_arms l s = (omega arith, omega arith)
  arms_step_room k i held (an_arm st arm arms) l s =
      chosen_within k i (an_arm st arm arms) (nat_lt l (leaves_of arm)) (within (arms_left st arms) (step i held arm l s)) (within (an_arm st arm) (step_arms i held arms (l - leaves_of arm) s))
      (one_within k i st arm arms (step i held arm l s) (step_room k i held arm l s))
      (behind_within k i st arm arms (step_arms i held arms (l - leaves_of arm) s) (arms_step_room k i held arms (l - leaves_of arm) s))
