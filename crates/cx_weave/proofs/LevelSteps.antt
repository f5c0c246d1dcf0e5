-- A turn below a level, as one of the level; and the turn that follows where a part has ended.
use Rattle.std.proofs.Common.{◌≡◌, ℕ, ◌+◌, ◌≤◌, Bool, true, false, List, Option, Some, None, Result, Ok, Err, refl, sym, ap, ◌∙◌, subst, arith}
use Rattle.cx_design.specs.declared.actives.PortFault.{PortFault}
use Rattle.cx_meaning.specs.declared.ports.PlacedPort.{PlacedPort}
use Rattle.cx_meaning.specs.Designs.{PlainDesign, While, PlainStatement, PlainStatements}
use Rattle.cx_meaning.specs.Instances.{Instance, Path, State, instance_at, tree_of}
use Rattle.cx_meaning.specs.Sights.{Held}
use Rattle.cx_state.specs.States.{PlainInstance, StandsFor, inputs_held, put_path, under_path}
use Rattle.cx_turns.specs.Machines.{FormStands, StandIn, StandsIn}
use Rattle.cx_turns.proofs.PathLemmas.{put_put, under_put}
use Rattle.cx_weave.specs.declared.needs.Piece.{Piece}
use Rattle.cx_weave.specs.declared.spares.Spares.{Spares}
use Rattle.cx_weave.specs.declared.strands.Strand.{Strand}
use Rattle.cx_orders.specs.Open.{Open, Idling, InSeq, InLoop, InRepeat}
use Rattle.cx_orders.specs.Steps.{Stepped, Now, Stops, step, within, seq_left, loop_left, repeat_left}
use Rattle.cx_weave.specs.Levels.{EndTold, HasEnded, BelowStepped, BelowTurned}
use Rattle.cx_weave.specs.Strands.{PlainStrand, AnIdling, ASeq, ALoop, ARepeat, plain_strand, Shows}
use Rattle.cx_weave.specs.Strides.{StepTold, HasStepped}
use Rattle.cx_weave.specs.Supplied.{MayTurn}
use Rattle.cx_weave.specs.Takes.{room}
use Rattle.cx_weave.specs.Ledger.{Kind, amount, box_amount, Ledger, Turned}
use Rattle.cx_weave.proofs.PartSteps.{seq_on, loop_on, repeat_on}
use Rattle.cx_weave.proofs.Supplies.{onward}
use Rattle.cx_weave.proofs.TurnLedgers.{kept_turned}

module _ (d : PlainDesign) (old new : List PlainInstance) (n : ℕ) where
  -- WHERE NOTHING IS LEFT an idle turn comes to the same
  end_told : (path : Path) (s : State) (whole : Open) (left : Strand) (x : Stepped (Option Open)) → plain_strand left ≡ AnIdling → StepTold d n path s new (Ok None) x → EndTold d n path s new (plain_strand left) whole x
  end_told path s whole left (Now None t) is told = record {
    instead = Idling;
    after = t;
    shows = subst (λ p. Shows d n p Idling) (sym is) refl;
    stands = told.0;
    same = λ held. refl;
    fits = λ k. omega arith;
  }
  end_told path s whole left (Now (Some o) t) is told = absurd told.1
  end_told path s whole left (Stops fault) is told = absurd told

  pub idle_instead : (p : PlainStrand) (k : ℕ) (left : Strand) → plain_strand left ≡ AnIdling → HasStepped d old new n p k (Ok None) → HasEnded d old new n p k (plain_strand left)
  idle_instead p k left is stepped = record {
    tells = λ path s o number stands shown. end_told path s o left (step (instance_at (tree_of d) path) (inputs_held old n) o k (under_path path s)) is (stepped.tells path s o number stands shown);
    held = stepped.held;
  }

  stops_within : (path : Path) (s : State) (halt : PortFault) (f : Option Open → Option Open) (x : Stepped (Option Open)) → StepTold d n path s new (Err halt) x → StepTold d n path s new (Err halt) (within f x)
  stops_within path s halt f (Now o t) bad = absurd bad
  stops_within path s halt f (Stops fault) tells = tells

  -- A LEVEL: what a turn of its part comes to is around what it comes to there
  module _ (whole p : PlainStrand) (wrap : Open → Open) (around : Instance → Option Open → Option Open) (parts : (o : Open) → Shows d n whole o → (run : Open) × (o ≡ wrap run) × Shows d n p run)
      (steps : (i : Instance) (held : Held) (run : Open) (leaf : ℕ) (s : State) → step i held (wrap run) leaf s ≡ within (around i) (step i held run leaf s)) where
    level_ended : (k : ℕ) (q kept : PlainStrand) → ((o : Open) → Shows d n q o → Shows d n kept (wrap o)) → ((piece : Piece) (i : Instance) (less more : Open) → room piece i less ≤ room piece i more → room piece i (wrap less) ≤ room piece i (wrap more))
        → HasEnded d old new n p k q → HasEnded d old new n whole k kept
    level_ended k q kept wraps rooms ended = record {
      tells = λ path s o number stands shown.
          let i = instance_at (tree_of d) path in
          let r = parts o shown in
          let e = ended.tells path s r.0 number stands r.2 in
          record {
            instead = wrap e.instead;
            after = e.after;
            shows = wraps e.instead e.shows;
            stands = e.stands;
            same = λ held. ap (λ x. step i (inputs_held old n) x k (under_path path s)) r.1 ∙ steps i (inputs_held old n) r.0 k (under_path path s) ∙ ap (within (around i)) (e.same held) ∙ sym (steps i held e.instead 0 e.after);
            fits = λ piece. subst (λ w. room piece i (wrap e.instead) ≤ room piece i w) (sym r.1) (rooms piece i e.instead r.0 (e.fits piece));
          };
      held = ended.held;
    }

    level_stops : (k : ℕ) (halt : PortFault) → HasStepped d old new n p k (Err halt) → HasStepped d old new n whole k (Err halt)
    level_stops k halt stepped = record {
      tells = λ path s o number stands shown.
          let i = instance_at (tree_of d) path in
          let r = parts o shown in
          subst (λ x. StepTold d n path s new (Err halt) x) (sym (ap (λ x. step i (inputs_held old n) x k (under_path path s)) r.1 ∙ steps i (inputs_held old n) r.0 k (under_path path s)))
          (stops_within path s halt (around i) (step i (inputs_held old n) r.0 k (under_path path s)) (stepped.tells path s r.0 number stands r.2));
      held = stepped.held;
    }

  module _ (k : ℕ) (p whole : PlainStrand) (run kept : Strand) where
    pub seq_below : (told : Result Bool PortFault) (later : PlainStatements) → whole ≡ ASeq p later → plain_strand kept ≡ ASeq (plain_strand run) later → StandIn d n later → BelowStepped d old new n p k told run → BelowStepped d old new n whole k told kept
    seq_below (Ok true) later same is stand stepped = seq_on d old new n k p later whole run kept same is stand stepped
    seq_below (Ok false) later same is stand ended =
        subst (λ w. HasEnded d old new n w k (plain_strand kept)) (sym same)
        (level_ended (ASeq p later) p (λ r. InSeq r later) (λ i. seq_left i later) (λ o shown. (shown.0, shown.1, shown.2)) (λ i held r leaf s. refl) k (plain_strand run) (plain_strand kept)
        (λ o shown. subst (λ w. Shows d n w (InSeq o later)) (sym is) (o, refl, shown, stand)) (λ piece i less more le. omega (arith, le)) ended)
    seq_below (Err halt) later same is stand stepped =
        subst (λ w. HasStepped d old new n w k (Err halt)) (sym same)
        (level_stops (ASeq p later) p (λ r. InSeq r later) (λ i. seq_left i later) (λ o shown. (shown.0, shown.1, shown.2)) (λ i held r leaf s. refl) k halt stepped)

    pub loop_below : (told : Result Bool PortFault) (port : PlacedPort) (comb : Option ℕ) (body : PlainStatement) → whole ≡ ALoop p port comb body → plain_strand kept ≡ ALoop (plain_strand run) port comb body → FormStands d n (While port comb body)
        → BelowStepped d old new n p k told run → BelowStepped d old new n whole k told kept
    loop_below (Ok true) port comb body same is stand stepped = loop_on d old new n k p port comb body whole run kept same is stand stepped
    loop_below (Ok false) port comb body same is stand ended =
        subst (λ w. HasEnded d old new n w k (plain_strand kept)) (sym same)
        (level_ended (ALoop p port comb body) p (λ r. InLoop r port.port comb body) (λ i. loop_left port.port comb body) (λ o shown. (shown.0, shown.1, shown.2)) (λ i held r leaf s. refl) k (plain_strand run) (plain_strand kept)
        (λ o shown. subst (λ w. Shows d n w (InLoop o port.port comb body)) (sym is) (o, refl, shown, stand)) (λ piece i less more le. omega (arith, le)) ended)
    loop_below (Err halt) port comb body same is stand stepped =
        subst (λ w. HasStepped d old new n w k (Err halt)) (sym same)
        (level_stops (ALoop p port comb body) p (λ r. InLoop r port.port comb body) (λ i. loop_left port.port comb body) (λ o shown. (shown.0, shown.1, shown.2)) (λ i held r leaf s. refl) k halt stepped)

    pub repeat_below : (told : Result Bool PortFault) (rounds : ℕ) (body : PlainStatement) → whole ≡ ARepeat p rounds body → plain_strand kept ≡ ARepeat (plain_strand run) rounds body → StandsIn d n body → BelowStepped d old new n p k told run
        → BelowStepped d old new n whole k told kept
    repeat_below (Ok true) rounds body same is stand stepped = repeat_on d old new n k p rounds body whole run kept same is stand stepped
    repeat_below (Ok false) rounds body same is stand ended =
        subst (λ w. HasEnded d old new n w k (plain_strand kept)) (sym same)
        (level_ended (ARepeat p rounds body) p (λ r. InRepeat r rounds body) (λ i. repeat_left i rounds body) (λ o shown. (shown.0, shown.1, shown.2)) (λ i held r leaf s. refl) k (plain_strand run) (plain_strand kept)
        (λ o shown. subst (λ w. Shows d n w (InRepeat o rounds body)) (sym is) (o, refl, shown, stand)) (λ piece i less more le. omega (arith, le)) ended)
    repeat_below (Err halt) rounds body same is stand stepped =
        subst (λ w. HasStepped d old new n w k (Err halt)) (sym same)
        (level_stops (ARepeat p rounds body) p (λ r. InRepeat r rounds body) (λ i. repeat_left i rounds body) (λ o shown. (shown.0, shown.1, shown.2)) (λ i held r leaf s. refl) k halt stepped)

-- the ledger of a level
pub level_kept : {E : Type 0} (old new : Spares) (run whole : Kind → ℕ) (part kept : Strand) (told : Result Bool E) → ((x : Kind) → whole x ≡ box_amount x + run x) → ((x : Kind) → amount x kept ≡ box_amount x + amount x part) → BelowTurned old new run told part
    → BelowTurned old new whole told kept
level_kept old new run whole part kept (Ok goes) first last l = kept_turned old new run (λ x. amount x part) box_amount whole (λ x. amount x kept) first last l
level_kept old new run whole part kept (Err fault) first last l = tt

-- THE TURN BEHIND IT, in every state
told_behind : (d : PlainDesign) (n : ℕ) (path : Path) (s own : State) (rows : List PlainInstance) (r : Result (Option Strand) PortFault) (x : Stepped (Option Open)) → StepTold d n path (put_path path own s) rows r x → StepTold d n path s rows r x
told_behind d n path s own rows (Ok left) (Now o t) told = (subst (λ (u : State). StandsFor (tree_of d) rows u) (put_put path t own s) told.0, told.1)
told_behind d n path s own rows (Ok left) (Stops fault) told = absurd told
told_behind d n path s own rows (Err halt) (Now o t) told = absurd told
told_behind d n path s own rows (Err halt) (Stops fault) told = told

pub ended_then : (d : PlainDesign) (old mid new : List PlainInstance) (n k : ℕ) (p q : PlainStrand) (r : Result (Option Strand) PortFault) → HasEnded d old mid n p k q → HasStepped d mid new n q 0 r → HasStepped d old new n p k r
ended_then d old mid new n k p q r ended stepped = record {
  tells = λ path s o number stands shown.
      let i = instance_at (tree_of d) path in
      let e = ended.tells path s o number stands shown in
      subst (λ x. StepTold d n path s new r x) (sym (e.same (inputs_held mid n)))
      (told_behind d n path s e.after new r (step i (inputs_held mid n) e.instead 0 e.after)
      (subst (λ (u : State). StepTold d n path (put_path path e.after s) new r (step i (inputs_held mid n) e.instead 0 u)) (under_put path e.after s) (stepped.tells path (put_path path e.after s) e.instead number e.stands e.shows)));
  held = λ m input le. stepped.held m input le ∙ ended.held m input le;
}

pub turned_then : {E : Type 0} (old mid new : Spares) (before middle : Kind → ℕ) (r : Result (Option Strand) E) → Ledger old mid before middle → Turned mid new middle r → Turned old new before r
turned_then old mid new before middle (Ok left) one two = record {
  most = λ x. (let a = one.most x in let b = two.most x in omega (arith, a, b));
  least = λ k. (let a = one.least k in let b = two.least k in omega (arith, a, b));
  places = λ k. (let a = one.places k in let b = two.places k in omega (arith, a, b));
}
turned_then old mid new before middle (Err fault) one two = tt

-- there are spare parts for it
pub ended_may : (d : PlainDesign) (old new : List PlainInstance) (n k : ℕ) (p q : PlainStrand) (spares after : Spares) (hand kept : Kind → ℕ) → HasEnded d old new n p k q → (s : State) → StandsFor (tree_of d) old s → Ledger spares after hand kept
    → MayTurn d n spares p hand → MayTurn d n after q kept
ended_may d old new n k p q spares after hand kept ended s stands l (o, shown, sup) =
    let e = ended.tells sup.path s o sup.number stands shown in (
      e.instead,
      e.shows,
      onward d n n spares after (λ k i. room k i o) (λ k i. room k i e.instead) hand hand kept (λ x. 0) (λ x. 0) kept sup l sup.path sup.number (λ x. omega arith) (λ x. omega arith)
          (λ k. (let le : room k (instance_at (tree_of d) sup.path) e.instead ≤ room k (instance_at (tree_of d) sup.path) o = e.fits k in omega (arith, le))),
    )
