-- Turns of leaves, as turns of their strands.
use Rattle.std.proofs.Common.{◌≡◌, ℕ, true, false, List, Option, Some, None, Result, Ok, Err, refl, sym, ap, ◌∙◌, subst}
use Rattle.cx_meaning.specs.declared.ports.PortRef.{PortRef}
use Rattle.cx_meaning.specs.declared.ports.PlacedPort.{PlacedPort}
use Rattle.cx_meaning.specs.Designs.{PlainDesign, PlainStatement}
use Rattle.cx_meaning.specs.Instances.{Instance, Path, State, part_of, instance_at, tree_of}
use Rattle.cx_meaning.specs.Sights.{Held}
use Rattle.cx_meaning.specs.Cycles.{Fault}
use Rattle.cx_meaning.specs.Answers as answers
use Rattle.cx_meaning.specs.Answers.{Holds, Fails, Unclear}
use Rattle.cx_meaning.specs.Calls.{test}
use Rattle.cx_meaning.specs.Control.{group_drives}
use Rattle.cx_design.specs.declared.actives.PortFault.{PortFault}
use Rattle.cx_state.specs.Tables.{IsNumber}
use Rattle.cx_state.specs.States.{PlainInstance, StandsFor, inputs_held, under_path}
use Rattle.cx_eval.specs.Evaluated.{HeldAlike}
use Rattle.cx_turns.specs.declared.turns.Turn.{Turn}
use Rattle.cx_turns.specs.declared.turns.Turn.TheVariants as turns
use Rattle.cx_turns.specs.Tests.{Tested}
use Rattle.cx_turns.proofs.PathLemmas.{put_same}
use Rattle.cx_weave.specs.declared.strands.Strand.{Strand}
use Rattle.cx_orders.specs.Open.{Open, InGroup, Choosing, Testing, Capturing, Closing, Waiting, InLoop, open_statement}
use Rattle.cx_orders.specs.Steps.{Now, step, turned, tested}
use Rattle.cx_orders.specs.Leaves.{own_turn, own_capture, rested, test_drives}
use Rattle.cx_weave.specs.Strands.{PlainStrand, AnIdling, AGroup, AChoice, ATest, ACapture, AClosing, AWaiting, plain_strand, Shows}
use Rattle.cx_weave.specs.Strides.{TakesTurn, HasRested, OpensAs, LeftShown, StepTold, HasStepped}

-- a turn holds every input as before
pub turn_held : (d : PlainDesign) (old new : List PlainInstance) (n : ℕ) (turn : Turn) (doing : Instance → Held → State → answers.Turn State Fault) → TakesTurn d old new n turn doing → (path : Path) (s : State) → IsNumber d n path → StandsFor (tree_of d) old s → HeldAlike old new
turn_held d old new n turns.Ends doing taken path s number stands = subst (λ rows. HeldAlike old rows) (sym (taken path s number stands).1) (λ m input. refl)
turn_held d old new n turns.Goes doing taken path s number stands = (taken path s number stands).3
turn_held d old new n (turns.Faults told) doing taken path s number stands = subst (λ rows. HeldAlike old rows) (sym (taken path s number stands).3) (λ m input. refl)

-- what is idle leaves the state that it was
idle_told : (d : PlainDesign) (n : ℕ) (path : Path) (s : State) (rows : List PlainInstance) (left : Option Strand) (o : Option Open) → StandsFor (tree_of d) rows s → LeftShown d n left o → StepTold d n path s rows (Ok left) (Now o (under_path path s))
idle_told d n path s rows left o stands shown = (subst (λ (x : State). StandsFor (tree_of d) rows x) (sym (put_same path s)) stands, shown)

module _ (d : PlainDesign) (n k : ℕ) where
  pub idling_ends : (rows : List PlainInstance) → HasStepped d rows rows n AnIdling k (Ok None)
  idling_ends rows = record {
    tells = λ path s o number stands shown.
        subst (λ x. StepTold d n path s rows (Ok None) (step (instance_at (tree_of d) path) (inputs_held rows n) x k (under_path path s))) (sym shown) (idle_told d n path s rows None None stands tt);
    held = λ m input le. refl;
  }

  pub waiting_stays : (rows : List PlainInstance) (strand : Strand) → plain_strand strand ≡ AWaiting → HasStepped d rows rows n AWaiting k (Ok (Some strand))
  waiting_stays rows strand is = record {
    tells = λ path s o number stands shown.
        subst (λ x. StepTold d n path s rows (Ok (Some strand)) (step (instance_at (tree_of d) path) (inputs_held rows n) x k (under_path path s))) (sym shown)
        (idle_told d n path s rows (Some strand) (Some Waiting) stands (subst (λ p. Shows d n p Waiting) (sym is) refl));
    held = λ m input le. refl;
  }

  -- A LEAF that shows one open statement
  leaf_steps : (old new : List PlainInstance) (p : PlainStrand) (leaf : Open) (result : Result (Option Strand) PortFault) → ((o : Open) → Shows d n p o → o ≡ leaf)
      → ((path : Path) (s : State) → IsNumber d n path → StandsFor (tree_of d) old s → StepTold d n path s new result (step (instance_at (tree_of d) path) (inputs_held old n) leaf k (under_path path s)))
      → HeldAlike old new → HasStepped d old new n p k result
  leaf_steps old new p leaf result is told held = record {
    tells = λ path s o number stands shown.
        subst (λ x. StepTold d n path s new result (step (instance_at (tree_of d) path) (inputs_held old n) x k (under_path path s))) (sym (is o shown)) (told path s number stands);
    held = λ m input le. held m input;
  }

  alike_behind : (old mid new : List PlainInstance) → HeldAlike old mid → HeldAlike mid new → HeldAlike old new
  alike_behind old mid new one two m input = two m input ∙ one m input

  -- a turn that ends the leaf: the idle edges are made behind it
  module _ (old mid new : List PlainInstance) (g : ℕ) (later : Open) (doing : Instance → Held → State → answers.Turn State Fault) where
    turn_ends : TakesTurn d old mid n turns.Ends doing → HasRested d mid new n (λ part. group_drives part g) → (path : Path) (s : State) → IsNumber d n path → StandsFor (tree_of d) old s
        → StepTold d n path s new (Ok None) (turned (doing (instance_at (tree_of d) path) (inputs_held old n) (under_path path s)) (rested (instance_at (tree_of d) path) (group_drives (part_of (instance_at (tree_of d) path)) g) (under_path path s)) later)
    turn_ends taken rests path s number stands =
        let i = instance_at (tree_of d) path in
        let ended = taken path s number stands in
        let stood : StandsFor (tree_of d) mid s = subst (λ rows. StandsFor (tree_of d) rows s) (sym ended.1) stands in
        subst (λ t. StepTold d n path s new (Ok None) (turned t (rested i (group_drives (part_of i) g) (under_path path s)) later)) (sym ended.0) (rests.rests path s number stood, tt)

  -- one that goes on, and one that has a fault
  turn_goes : (old new : List PlainInstance) (strand : Strand) (later : Open) (doing : Instance → Held → State → answers.Turn State Fault) (idle : Instance → State → State) → TakesTurn d old new n turns.Goes doing → Shows d n (plain_strand strand) later
      → (path : Path) (s : State) → IsNumber d n path → StandsFor (tree_of d) old s
      → StepTold d n path s new (Ok (Some strand)) (turned (doing (instance_at (tree_of d) path) (inputs_held old n) (under_path path s)) (idle (instance_at (tree_of d) path) (under_path path s)) later)
  turn_goes old new strand later doing idle taken shown path s number stands =
      let i = instance_at (tree_of d) path in
      let went = taken path s number stands in
      subst (λ t. StepTold d n path s new (Ok (Some strand)) (turned t (idle i (under_path path s)) later)) (sym went.1) (went.2, shown)

  turn_faults : (old new : List PlainInstance) (told : PortFault) (later : Open) (doing : Instance → Held → State → answers.Turn State Fault) (idle : Instance → State → State) → TakesTurn d old new n (turns.Faults told) doing
      → (path : Path) (s : State) → IsNumber d n path → StandsFor (tree_of d) old s
      → StepTold d n path s new (Err told) (turned (doing (instance_at (tree_of d) path) (inputs_held old n) (under_path path s)) (idle (instance_at (tree_of d) path) (under_path path s)) later)
  turn_faults old new told later doing idle taken path s number stands =
      let i = instance_at (tree_of d) path in
      let stopped = taken path s number stands in
      subst (λ t. StepTold d n path s new (Err told) (turned t (idle i (under_path path s)) later)) (sym stopped.2) stopped.1

  -- GROUPS
  module _ (old mid : List PlainInstance) (g : ℕ) (path : Path) (s : State) (number : IsNumber d n path) (stands : StandsFor (tree_of d) old s) where
    pub group_ends : (new : List PlainInstance) → TakesTurn d old mid n turns.Ends (λ i held t. own_turn i held g t) → HasRested d mid new n (λ part. group_drives part g) → HasStepped d old new n (AGroup g) k (Ok None)
    group_ends new taken rests =
        leaf_steps old new (AGroup g) (InGroup g) (Ok None) (λ o shown. shown.0) (turn_ends old mid new g (InGroup g) (λ i held t. own_turn i held g t) taken rests)
        (alike_behind old mid new (turn_held d old mid n turns.Ends (λ i held t. own_turn i held g t) taken path s number stands) rests.held)

    pub group_goes : (strand : Strand) → TakesTurn d old mid n turns.Goes (λ i held t. own_turn i held g t) → Shows d n (plain_strand strand) (InGroup g) → HasStepped d old mid n (AGroup g) k (Ok (Some strand))
    group_goes strand taken shown =
        leaf_steps old mid (AGroup g) (InGroup g) (Ok (Some strand)) (λ o shown. shown.0)
        (turn_goes old mid strand (InGroup g) (λ i held t. own_turn i held g t) (λ i t. rested i (group_drives (part_of i) g) t) taken shown)
        (turn_held d old mid n turns.Goes (λ i held t. own_turn i held g t) taken path s number stands)

    pub group_faults : (told : PortFault) → TakesTurn d old mid n (turns.Faults told) (λ i held t. own_turn i held g t) → HasStepped d old mid n (AGroup g) k (Err told)
    group_faults told taken =
        leaf_steps old mid (AGroup g) (InGroup g) (Err told) (λ o shown. shown.0)
        (turn_faults old mid told (InGroup g) (λ i held t. own_turn i held g t) (λ i t. rested i (group_drives (part_of i) g) t) taken)
        (turn_held d old mid n (turns.Faults told) (λ i held t. own_turn i held g t) taken path s number stands)

    -- THE CAPTURE CYCLE
    pub capture_goes : (c : ℕ) (strand : Strand) → TakesTurn d old mid n turns.Goes (λ i held t. own_capture i held g c t) → Shows d n (plain_strand strand) (Closing g) → HasStepped d old mid n (ACapture g c) k (Ok (Some strand))
    capture_goes c strand taken shown =
        leaf_steps old mid (ACapture g c) (Capturing g c) (Ok (Some strand)) (λ o shown. shown.0)
        (turn_goes old mid strand (Closing g) (λ i held t. own_capture i held g c t) (λ i t. t) taken shown)
        (turn_held d old mid n turns.Goes (λ i held t. own_capture i held g c t) taken path s number stands)

    pub capture_faults : (c : ℕ) (told : PortFault) → TakesTurn d old mid n (turns.Faults told) (λ i held t. own_capture i held g c t) → HasStepped d old mid n (ACapture g c) k (Err told)
    capture_faults c told taken =
        leaf_steps old mid (ACapture g c) (Capturing g c) (Err told) (λ o shown. shown.0)
        (turn_faults old mid told (Closing g) (λ i held t. own_capture i held g c t) (λ i t. t) taken)
        (turn_held d old mid n (turns.Faults told) (λ i held t. own_capture i held g c t) taken path s number stands)

  -- THE IDLE TURN of a call
  pub closing_ends : (old new : List PlainInstance) (g : ℕ) → HasRested d old new n (λ part. group_drives part g) → HasStepped d old new n (AClosing g) k (Ok None)
  closing_ends old new g rests = leaf_steps old new (AClosing g) (Closing g) (Ok None) (λ o shown. shown.0) (λ path s number stands. (rests.rests path s number stands, tt)) rests.held

  -- TESTS
  module _ (old new : List PlainInstance) (port : PortRef) (comb : Option ℕ) (taken other : Instance → Option Open) where
    test_ends : (verdict : answers.Test Fault) (left : Option Strand) (o : Instance → Option Open) → HasRested d old new n (λ part. test_drives part comb)
        → ((path : Path) → IsNumber d n path → LeftShown d n left (o (instance_at (tree_of d) path)))
        → ((path : Path) (s : State) → IsNumber d n path → StandsFor (tree_of d) old s → test (instance_at (tree_of d) path) (inputs_held old n) port comb (under_path path s) ≡ verdict)
        → ((i : Instance) (s : State) → tested verdict s (taken i) (other i) ≡ Now (o i) s)
        → (path : Path) (s : State) → IsNumber d n path → StandsFor (tree_of d) old s
        → StepTold d n path s new (Ok left) (tested (test (instance_at (tree_of d) path) (inputs_held old n) port comb (under_path path s)) (rested (instance_at (tree_of d) path) (test_drives (part_of (instance_at (tree_of d) path)) comb) (under_path path s)) (taken (instance_at (tree_of d) path)) (other (instance_at (tree_of d) path)))
    test_ends verdict left o rests shown is comes path s number stands =
        let i = instance_at (tree_of d) path in
        let idle = rested i (test_drives (part_of i) comb) (under_path path s) in
        subst (λ x. StepTold d n path s new (Ok left) x) (sym (ap (λ t. tested t idle (taken i) (other i)) (is path s number stands) ∙ comes i idle)) (rests.rests path s number stands, shown path number)

    test_stops : (told : PortFault) → Tested d old n port comb (Err told) → (path : Path) (s : State) → IsNumber d n path → StandsFor (tree_of d) old s
        → StepTold d n path s new (Err told) (tested (test (instance_at (tree_of d) path) (inputs_held old n) port comb (under_path path s)) (rested (instance_at (tree_of d) path) (test_drives (part_of (instance_at (tree_of d) path)) comb) (under_path path s)) (taken (instance_at (tree_of d) path)) (other (instance_at (tree_of d) path)))
    test_stops told is path s number stands =
        let i = instance_at (tree_of d) path in
        let f = is path s number stands in
        subst (λ t. StepTold d n path s new (Err told) (tested t (rested i (test_drives (part_of i) comb) (under_path path s)) (taken i) (other i))) (sym f.2) f.1

  module _ (old new : List PlainInstance) (port : PlacedPort) (comb : Option ℕ) (a b : PlainStatement) where
    pub choice_holds : (strand : Strand) → Tested d old n port.port comb (Ok true) → HasRested d old new n (λ part. test_drives part comb) → OpensAs d n a strand → HasStepped d old new n (AChoice port comb a b) k (Ok (Some strand))
    choice_holds strand is rests opens =
        leaf_steps old new (AChoice port comb a b) (Choosing port.port comb a b) (Ok (Some strand)) (λ o shown. shown.0)
        (test_ends old new port.port comb (λ i. Some (open_statement i a)) (λ i. Some (open_statement i b)) Holds (Some strand) (λ i. Some (open_statement i a)) rests opens is (λ i s. refl)) rests.held

    pub choice_fails : (strand : Strand) → Tested d old n port.port comb (Ok false) → HasRested d old new n (λ part. test_drives part comb) → OpensAs d n b strand → HasStepped d old new n (AChoice port comb a b) k (Ok (Some strand))
    choice_fails strand is rests opens =
        leaf_steps old new (AChoice port comb a b) (Choosing port.port comb a b) (Ok (Some strand)) (λ o shown. shown.0)
        (test_ends old new port.port comb (λ i. Some (open_statement i a)) (λ i. Some (open_statement i b)) Fails (Some strand) (λ i. Some (open_statement i b)) rests opens is (λ i s. refl)) rests.held

    pub choice_stops : (told : PortFault) → Tested d old n port.port comb (Err told) → HeldAlike old new → HasStepped d old new n (AChoice port comb a b) k (Err told)
    choice_stops told is held =
        leaf_steps old new (AChoice port comb a b) (Choosing port.port comb a b) (Err told) (λ o shown. shown.0)
        (test_stops old new port.port comb (λ i. Some (open_statement i a)) (λ i. Some (open_statement i b)) told is) held

    pub test_holds : (strand : Strand) → Tested d old n port.port comb (Ok true) → HasRested d old new n (λ part. test_drives part comb)
        → ((path : Path) → IsNumber d n path → Shows d n (plain_strand strand) (InLoop (open_statement (instance_at (tree_of d) path) a) port.port comb a)) → HasStepped d old new n (ATest port comb a) k (Ok (Some strand))
    test_holds strand is rests opens =
        leaf_steps old new (ATest port comb a) (Testing port.port comb a) (Ok (Some strand)) (λ o shown. shown.0)
        (test_ends old new port.port comb (λ i. Some (InLoop (open_statement i a) port.port comb a)) (λ i. None) Holds (Some strand) (λ i. Some (InLoop (open_statement i a) port.port comb a)) rests opens is (λ i s. refl)) rests.held

    pub test_fails : Tested d old n port.port comb (Ok false) → HasRested d old new n (λ part. test_drives part comb) → HasStepped d old new n (ATest port comb a) k (Ok None)
    test_fails is rests =
        leaf_steps old new (ATest port comb a) (Testing port.port comb a) (Ok None) (λ o shown. shown.0)
        (test_ends old new port.port comb (λ i. Some (InLoop (open_statement i a) port.port comb a)) (λ i. None) Fails None (λ i. None) rests (λ path number. tt) is (λ i s. refl)) rests.held

    pub test_unclear : (told : PortFault) → Tested d old n port.port comb (Err told) → HeldAlike old new → HasStepped d old new n (ATest port comb a) k (Err told)
    test_unclear told is held =
        leaf_steps old new (ATest port comb a) (Testing port.port comb a) (Err told) (λ o shown. shown.0)
        (test_stops old new port.port comb (λ i. Some (InLoop (open_statement i a) port.port comb a)) (λ i. None) told is) held
