-- Spare parts for a woven run: for main's control as it is opened, and from one choice to the next.
use Rattle.std.proofs.Common.{◌≡◌, ℕ, ◌≤◌, List, Option, Ok, Some, None, sym, ap, ◌∙◌, arith}
use Rattle.cx_meaning.specs.Designs.{PlainDesign, PlainStatement}
use Rattle.cx_meaning.specs.Instances.{State, instance_at, tree_of}
use Rattle.cx_state.specs.States.{PlainInstance, StandsFor, inputs_held, under_path}
use Rattle.cx_turns.specs.Children.{HasControl}
use Rattle.cx_weave.specs.declared.needs.Piece.{Piece}
use Rattle.cx_weave.specs.declared.spares.Spares.{Spares}
use Rattle.cx_weave.specs.declared.strands.Strand.{Strand}
use Rattle.cx_orders.specs.Open.{Open, open_statement}
use Rattle.cx_orders.specs.Steps.{Stepped, Now, Stops, step}
use Rattle.cx_weave.specs.Strands.{PlainStrand, plain_strand}
use Rattle.cx_weave.specs.Strides.{HasStepped, OpensAs, StepTold}
use Rattle.cx_weave.specs.Takes.{StepsWithin, control_need, need, room}
use Rattle.cx_weave.specs.Ledger.{Kind, amount, Ledger, Opened}
use Rattle.cx_weave.specs.Supplied.{MayOpen, MayTurn, Supplied}
use Rattle.cx_weave.proofs.Ledgers.{untouched}
use Rattle.cx_weave.proofs.NeedSteps.{control_is}
use Rattle.cx_weave.proofs.RoomSteps.{opened_room, step_room}
use Rattle.cx_weave.proofs.Supplies.{onward}

-- MAIN'S CONTROL, before it is opened and behind that
module _ (d : PlainDesign) (n : ℕ) (old : Spares) (control : PlainStatement) (controls : HasControl d n control) (s : Supplied d n old (λ k i. control_need k i) (λ x. 0)) where
  control_asks : (k : Piece) → need k (instance_at (tree_of d) s.path) control ≡ control_need k (instance_at (tree_of d) s.path)
  control_asks k = ap (need k (instance_at (tree_of d) s.path)) (controls s.path s.number) ∙ sym (control_is k (instance_at (tree_of d) s.path))

  pub main_asked : MayOpen d n old control
  main_asked =
      onward d n n old old (λ k i. control_need k i) (λ k i. need k i control) (λ x. 0) (λ x. 0) (λ x. 0) (λ x. 0) (λ x. 0) (λ x. 0) s (untouched old (λ x. 0)) s.path s.number (λ x. omega arith) (λ x. omega arith)
      (λ k. (let e = control_asks k in omega (arith, e)))

  pub main_may : (new : Spares) (strand : Strand) → OpensAs d n control strand → Opened old new strand → MayTurn d n new (plain_strand strand) (λ x. amount x strand)
  main_may new strand opens l = (
    open_statement (instance_at (tree_of d) s.path) control,
    opens s.path s.number,
    onward d n n old new (λ k i. control_need k i) (λ k i. room k i (open_statement (instance_at (tree_of d) s.path) control)) (λ x. 0) (λ x. 0) (λ x. amount x strand) (λ x. 0) (λ x. 0) (λ x. amount x strand) s l s.path s.number (λ x. omega arith) (λ x. omega arith)
        (λ k. (let e = control_asks k in let le = opened_room k (instance_at (tree_of d) s.path) control in omega (arith, e, le))),
  )

-- BEHIND A CHOICE
pub left_may : (d : PlainDesign) (old new : List PlainInstance) (n leaf : ℕ) (p : PlainStrand) (left : Strand) (spares after : Spares) (hand : Kind → ℕ) → HasStepped d old new n p leaf (Ok (Some left)) → (s : State) → StandsFor (tree_of d) old s
    → Ledger spares after hand (λ x. amount x left) → MayTurn d n spares p hand → MayTurn d n after (plain_strand left) (λ x. amount x left)
left_may d old new n leaf p left spares after hand stepped s stands l (o, shown, sup) =
    by_turn (step (instance_at (tree_of d) sup.path) (inputs_held old n) o leaf (under_path sup.path s)) (stepped.tells sup.path s o sup.number stands shown)
    (λ k. step_room k (instance_at (tree_of d) sup.path) (inputs_held old n) o leaf (under_path sup.path s))
  where
    by_turn : (x : Stepped (Option Open)) → StepTold d n sup.path s new (Ok (Some left)) x → ((k : Piece) → StepsWithin k (instance_at (tree_of d) sup.path) (room k (instance_at (tree_of d) sup.path) o) x) → MayTurn d n after (plain_strand left) (λ x. amount x left)
    by_turn (Now None later) t within = absurd t.1
    by_turn (Now (Some now) later) t within = (
      now,
      t.1,
      onward d n n spares after (λ k i. room k i o) (λ k i. room k i now) hand hand (λ x. amount x left) (λ x. 0) (λ x. 0) (λ x. amount x left) sup l sup.path sup.number (λ x. omega arith) (λ x. omega arith)
          (λ k. (let le : room k (instance_at (tree_of d) sup.path) now ≤ room k (instance_at (tree_of d) sup.path) o = within k in omega (arith, le))),
    )
    by_turn (Stops fault) t within = absurd t
