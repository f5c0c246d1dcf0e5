-- A turn of a part, as one of the statement around it.
use Rattle.std.proofs.Common.{◌≡◌, ℕ, ◌+◌, ◌<◌, Bool, true, false, List, Option, Some, None, Result, Ok, Err, refl, sym, ap, ◌∙◌, subst, arith}
use Rattle.cx_design.specs.declared.actives.PortFault.{PortFault}
use Rattle.cx_meaning.specs.declared.ports.PlacedPort.{PlacedPort}
use Rattle.cx_meaning.specs.Designs.{PlainDesign, While, PlainStatement, PlainStatements}
use Rattle.cx_meaning.specs.Instances.{Instance, Path, State, instance_at, tree_of}
use Rattle.cx_meaning.specs.Sights.{Held}
use Rattle.cx_state.specs.Tables.{IsNumber}
use Rattle.cx_state.specs.States.{PlainInstance, inputs_held, under_path}
use Rattle.cx_turns.specs.Machines.{FormStands, StandIn, StandsIn}
use Rattle.cx_weave.specs.declared.strands.Strand.{Strand}
use Rattle.cx_weave.specs.declared.strands.Arms.{Arms}
use Rattle.cx_orders.specs.Open.{Open, Testing, InSeq, InPar, InLoop, InRepeat, Opens, no_arms, an_arm, beside, leaves_of, leaves_of_all}
use Rattle.cx_orders.specs.Steps.{Stepped, Now, Stops, step, step_arms, within, seq_left, loop_left, repeat_left, par_left, arms_left}
use Rattle.cx_weave.specs.Strands.{PlainStrand, AnIdling, AGroup, AChoice, ATest, AnIsland, ACapture, AClosing, AWaiting, ASeq, APar, ALoop, ARepeat, ACall, PlainArms, one_arm, both_arms, plain_arms, plain_strand, body_of, later_of, rounds_of, strand_leaves, arms_leaves, IsCounted, AreCounted, IsBoth, Shows, ShowsAll, IsShown, AreShown}
use Rattle.cx_weave.specs.Strides.{LeftShown, LeavesAs, StepTold, HasStepped, ArmsTold, HaveStepped, IsArmOf, IsParOf, IsInFront, IsBehind, left_by}
use Rattle.cx_weave.proofs.ArmSteps.{leaves_beside, step_first, step_front, step_back}

-- LEAVES of a strand are those of what it shows
mutual
  pub leaves_shown : (d : PlainDesign) (n : ℕ) (p : PlainStrand) (o : Open) → Shows d n p o → leaves_of o ≡ strand_leaves p
  leaves_shown d n AnIdling o h = ap leaves_of h
  leaves_shown d n (AGroup g) o h = ap leaves_of h.0
  leaves_shown d n (AChoice port comb a b) o h = ap leaves_of h.0
  leaves_shown d n (ATest port comb body) o h = ap leaves_of h.0
  leaves_shown d n (AnIsland form t left samples cells) o h = ap leaves_of h.1
  leaves_shown d n (ACapture g c) o h = ap leaves_of h.0
  leaves_shown d n (AClosing g) o h = ap leaves_of h.0
  leaves_shown d n AWaiting o h = ap leaves_of h
  leaves_shown d n (ASeq first later) o h = ap leaves_of h.1 ∙ leaves_shown d n first h.0 h.2
  leaves_shown d n (APar arms) o h = ap leaves_of h.1 ∙ all_leaves_shown d n arms h.0 h.2
  leaves_shown d n (ALoop run port comb body) o h = ap leaves_of h.1 ∙ leaves_shown d n run h.0 h.2
  leaves_shown d n (ARepeat run left body) o h = ap leaves_of h.1 ∙ leaves_shown d n run h.0 h.2
  leaves_shown d n (ACall g c inputs child) o (now, is, group, calls, fits, (m, at, shown)) = ap leaves_of is ∙ leaves_shown d m child now shown

  pub all_leaves_shown : (d : PlainDesign) (n : ℕ) (arms : PlainArms) (list : Opens) → ShowsAll d n arms list → leaves_of_all list ≡ arms_leaves arms
  all_leaves_shown d n (one_arm arm) list (v, first, e, one) = (let count : leaves_of_all list ≡ leaves_of first + 0 = ap leaves_of_all e in let own = leaves_shown d n arm first one in omega (arith, count, own))
  all_leaves_shown d n (both_arms leaves one other) list (front, back, e, first, later, told) =
      let count : leaves_of_all list ≡ leaves_of_all front + leaves_of_all back = ap leaves_of_all e ∙ leaves_beside front back in
      let l = all_leaves_shown d n one front first in
      let r = all_leaves_shown d n other back later in
      omega (arith, count, l, r)

-- and at least one
mutual
  pub some_leaf : (d : PlainDesign) (n : ℕ) (p : PlainStrand) (o : Open) → Shows d n p o → 0 < strand_leaves p
  some_leaf d n AnIdling o h = omega arith
  some_leaf d n (AGroup g) o h = omega arith
  some_leaf d n (AChoice port comb a b) o h = omega arith
  some_leaf d n (ATest port comb body) o h = omega arith
  some_leaf d n (AnIsland form t left samples cells) o h = omega arith
  some_leaf d n (ACapture g c) o h = omega arith
  some_leaf d n (AClosing g) o h = omega arith
  some_leaf d n AWaiting o h = omega arith
  some_leaf d n (ASeq first later) o h = some_leaf d n first h.0 h.2
  some_leaf d n (APar arms) o h = some_leaf_of d n arms h.0 h.2
  some_leaf d n (ALoop run port comb body) o h = some_leaf d n run h.0 h.2
  some_leaf d n (ARepeat run left body) o h = some_leaf d n run h.0 h.2
  some_leaf d n (ACall g c inputs child) o (now, is, group, calls, fits, (m, at, shown)) = some_leaf d m child now shown

  some_leaf_of : (d : PlainDesign) (n : ℕ) (arms : PlainArms) (list : Opens) → ShowsAll d n arms list → 0 < arms_leaves arms
  some_leaf_of d n (one_arm arm) list h = some_leaf d n arm h.1 h.3
  some_leaf_of d n (both_arms leaves one other) list h = (let some = some_leaf_of d n one h.0 h.3 in omega (arith, some))

-- what is shown has its leaves counted
mutual
  pub counted_shown : (d : PlainDesign) (n : ℕ) (p : PlainStrand) (o : Open) → Shows d n p o → IsCounted p
  counted_shown d n AnIdling o h = tt
  counted_shown d n (AGroup g) o h = tt
  counted_shown d n (AChoice port comb a b) o h = tt
  counted_shown d n (ATest port comb body) o h = tt
  counted_shown d n (AnIsland form t left samples cells) o h = tt
  counted_shown d n (ACapture g c) o h = tt
  counted_shown d n (AClosing g) o h = tt
  counted_shown d n AWaiting o h = tt
  counted_shown d n (ASeq first later) o h = counted_shown d n first h.0 h.2
  counted_shown d n (APar arms) o h = all_counted d n arms h.0 h.2
  counted_shown d n (ALoop run port comb body) o h = counted_shown d n run h.0 h.2
  counted_shown d n (ARepeat run left body) o h = counted_shown d n run h.0 h.2
  counted_shown d n (ACall g c inputs child) o (now, is, group, calls, fits, (m, at, shown)) = counted_shown d m child now shown

  pub all_counted : (d : PlainDesign) (n : ℕ) (arms : PlainArms) (list : Opens) → ShowsAll d n arms list → AreCounted arms
  all_counted d n (one_arm arm) list h = counted_shown d n arm h.1 h.3
  all_counted d n (both_arms leaves one other) list (front, back, e, first, later, told) = (told, all_counted d n one front first, all_counted d n other back later)

-- and so are two halves, side by side
pub both_shown : (d : PlainDesign) (n : ℕ) (one other arms : PlainArms) (front back : Opens) → IsBoth one other arms → ShowsAll d n one front → ShowsAll d n other back → ShowsAll d n arms (beside front back)
both_shown d n one other arms front back (leaves, is, tells) first later =
    subst (λ x. ShowsAll d n x (beside front back)) (sym is) (front, back, refl, first, later, tells (all_counted d n one front first) (all_counted d n other back later))

-- A PART THAT GOES ON, in its place
module _ (d : PlainDesign) (n : ℕ) (run kept : Strand) where
  seq_stays : (later : PlainStatements) → plain_strand kept ≡ ASeq (plain_strand run) later → StandIn d n later → (path : Path) (o : Option Open) → IsNumber d n path → LeftShown d n (Some run) o → LeftShown d n (Some kept) (seq_left (instance_at (tree_of d) path) later o)
  seq_stays later is stand path None number h = absurd h
  seq_stays later is stand path (Some o) number h = subst (λ p. Shows d n p (InSeq o later)) (sym is) (o, refl, h, stand)

  loop_stays : (port : PlacedPort) (comb : Option ℕ) (body : PlainStatement) → plain_strand kept ≡ ALoop (plain_strand run) port comb body → FormStands d n (While port comb body) → (path : Path) (o : Option Open) → IsNumber d n path → LeftShown d n (Some run) o
      → LeftShown d n (Some kept) (loop_left port.port comb body o)
  loop_stays port comb body is stand path None number h = absurd h
  loop_stays port comb body is stand path (Some o) number h = subst (λ p. Shows d n p (InLoop o port.port comb body)) (sym is) (o, refl, h, stand)

  repeat_stays : (rounds : ℕ) (body : PlainStatement) → plain_strand kept ≡ ARepeat (plain_strand run) rounds body → StandsIn d n body → (path : Path) (o : Option Open) → IsNumber d n path → LeftShown d n (Some run) o
      → LeftShown d n (Some kept) (repeat_left (instance_at (tree_of d) path) rounds body o)
  repeat_stays rounds body is stand path None number h = absurd h
  repeat_stays rounds body is stand path (Some o) number h = subst (λ p. Shows d n p (InRepeat o rounds body)) (sym is) (o, refl, h, stand)

-- and the test behind the body of a while
loop_tests : (d : PlainDesign) (n : ℕ) (tested : Strand) (port : PlacedPort) (comb : Option ℕ) (body : PlainStatement) → plain_strand tested ≡ ATest port comb body → FormStands d n (While port comb body) → (path : Path) (o : Option Open) → IsNumber d n path → LeftShown d n None o
    → LeftShown d n (Some tested) (loop_left port.port comb body o)
loop_tests d n tested port comb body is stand path None number h = subst (λ p. Shows d n p (Testing port.port comb body)) (sym is) (refl, stand)
loop_tests d n tested port comb body is stand path (Some o) number h = absurd h

module _ (d : PlainDesign) (old new : List PlainInstance) (n k : ℕ) where
  -- what is left of the part tells what is left around it
  around_goes : (path : Path) (s : State) (left after : Option Strand) (f : Option Open → Option Open) (x : Stepped (Option Open)) → ((o : Option Open) → LeftShown d n left o → LeftShown d n after (f o))
      → StepTold d n path s new (Ok left) x → StepTold d n path s new (Ok after) (within f x)
  around_goes path s left after f (Now o t) turn told = (told.0, turn o told.1)
  around_goes path s left after f (Stops fault) turn told = absurd told

  -- A STATEMENT OF WHICH ONE PART IS OPEN
  module _ (whole p : PlainStrand) (wrap : Open → Open) (around : Instance → Option Open → Option Open) (parts : (o : Open) → Shows d n whole o → (run : Open) × (o ≡ wrap run) × Shows d n p run)
      (steps : (i : Instance) (held : Held) (run : Open) (s : State) → step i held (wrap run) k s ≡ within (around i) (step i held run k s)) where
    part_goes : (left after : Option Strand) → HasStepped d old new n p k (Ok left) → LeavesAs d n left after around → HasStepped d old new n whole k (Ok after)
    part_goes left after stepped leaves = record {
      tells = λ path s o number stands shown.
          let i = instance_at (tree_of d) path in
          let r = parts o shown in
          subst (λ x. StepTold d n path s new (Ok after) x) (sym (ap (λ x. step i (inputs_held old n) x k (under_path path s)) r.1 ∙ steps i (inputs_held old n) r.0 (under_path path s)))
          (around_goes path s left after (around i) (step i (inputs_held old n) r.0 k (under_path path s)) (λ x. leaves path x number) (stepped.tells path s r.0 number stands r.2));
      held = stepped.held;
    }

  module _ (p : PlainStrand) (later : PlainStatements) where
    pub seq_goes : (left after : Option Strand) → HasStepped d old new n p k (Ok left) → LeavesAs d n left after (λ i. seq_left i later) → HasStepped d old new n (ASeq p later) k (Ok after)
    seq_goes = part_goes (ASeq p later) p (λ run. InSeq run later) (λ i. seq_left i later) (λ o shown. (shown.0, shown.1, shown.2)) (λ i held run s. refl)

    pub seq_on : (whole : PlainStrand) (run kept : Strand) → whole ≡ ASeq p later → plain_strand kept ≡ ASeq (plain_strand run) later → StandIn d n later → HasStepped d old new n p k (Ok (Some run)) → HasStepped d old new n whole k (Ok (Some kept))
    seq_on whole run kept same is stand stepped = subst (λ w. HasStepped d old new n w k (Ok (Some kept))) (sym same) (seq_goes (Some run) (Some kept) stepped (seq_stays d n run kept later is stand))

    pub seq_off : (whole behind : PlainStrand) (after : Option Strand) → whole ≡ ASeq p later → later_of behind ≡ later → LeavesAs d n None after (λ i. seq_left i (later_of behind)) → HasStepped d old new n p k (Ok None) → HasStepped d old new n whole k (Ok after)
    seq_off whole behind after same is leaves stepped = subst (λ w. HasStepped d old new n w k (Ok after)) (sym same) (seq_goes None after stepped (subst (λ l. LeavesAs d n None after (λ i. seq_left i l)) is leaves))

  module _ (p : PlainStrand) (port : PlacedPort) (comb : Option ℕ) (body : PlainStatement) where
    pub loop_goes : (left after : Option Strand) → HasStepped d old new n p k (Ok left) → LeavesAs d n left after (λ i. loop_left port.port comb body) → HasStepped d old new n (ALoop p port comb body) k (Ok after)
    loop_goes = part_goes (ALoop p port comb body) p (λ run. InLoop run port.port comb body) (λ i. loop_left port.port comb body) (λ o shown. (shown.0, shown.1, shown.2)) (λ i held run s. refl)

    pub loop_on : (whole : PlainStrand) (run kept : Strand) → whole ≡ ALoop p port comb body → plain_strand kept ≡ ALoop (plain_strand run) port comb body → FormStands d n (While port comb body) → HasStepped d old new n p k (Ok (Some run)) → HasStepped d old new n whole k (Ok (Some kept))
    loop_on whole run kept same is stand stepped = subst (λ w. HasStepped d old new n w k (Ok (Some kept))) (sym same) (loop_goes (Some run) (Some kept) stepped (loop_stays d n run kept port comb body is stand))

    pub loop_off : (whole : PlainStrand) (tested : Strand) → whole ≡ ALoop p port comb body → plain_strand tested ≡ ATest port comb body → FormStands d n (While port comb body) → HasStepped d old new n p k (Ok None) → HasStepped d old new n whole k (Ok (Some tested))
    loop_off whole tested same is stand stepped = subst (λ w. HasStepped d old new n w k (Ok (Some tested))) (sym same) (loop_goes None (Some tested) stepped (loop_tests d n tested port comb body is stand))

  module _ (p : PlainStrand) (rounds : ℕ) (body : PlainStatement) where
    pub repeat_goes : (left after : Option Strand) → HasStepped d old new n p k (Ok left) → LeavesAs d n left after (λ i. repeat_left i rounds body) → HasStepped d old new n (ARepeat p rounds body) k (Ok after)
    repeat_goes = part_goes (ARepeat p rounds body) p (λ run. InRepeat run rounds body) (λ i. repeat_left i rounds body) (λ o shown. (shown.0, shown.1, shown.2)) (λ i held run s. refl)

    pub repeat_on : (whole : PlainStrand) (run kept : Strand) → whole ≡ ARepeat p rounds body → plain_strand kept ≡ ARepeat (plain_strand run) rounds body → StandsIn d n body → HasStepped d old new n p k (Ok (Some run)) → HasStepped d old new n whole k (Ok (Some kept))
    repeat_on whole run kept same is stand stepped = subst (λ w. HasStepped d old new n w k (Ok (Some kept))) (sym same) (repeat_goes (Some run) (Some kept) stepped (repeat_stays d n run kept rounds body is stand))

    pub repeat_off : (whole behind part : PlainStrand) (after : Option Strand) → whole ≡ ARepeat p rounds body → behind ≡ ARepeat part rounds body → LeavesAs d n None after (λ i. repeat_left i (rounds_of behind) (body_of behind)) → HasStepped d old new n p k (Ok None) → HasStepped d old new n whole k (Ok after)
    repeat_off whole behind part after same is leaves stepped = subst (λ w. HasStepped d old new n w k (Ok after)) (sym same) (repeat_goes None after stepped (subst (λ b. LeavesAs d n None after (λ i. repeat_left i (rounds_of b) (body_of b))) is leaves))

-- the part that is open is shown too
pub part_shown_seq : (d : PlainDesign) (n : ℕ) (p : PlainStrand) (later : PlainStatements) → IsShown d n (ASeq p later) → IsShown d n p
part_shown_seq d n p later (o, shown) = (shown.0, shown.2)

pub part_shown_loop : (d : PlainDesign) (n : ℕ) (p : PlainStrand) (port : PlacedPort) (comb : Option ℕ) (body : PlainStatement) → IsShown d n (ALoop p port comb body) → IsShown d n p
part_shown_loop d n p port comb body (o, shown) = (shown.0, shown.2)

pub part_shown_repeat : (d : PlainDesign) (n : ℕ) (p : PlainStrand) (rounds : ℕ) (body : PlainStatement) → IsShown d n (ARepeat p rounds body) → IsShown d n p
part_shown_repeat d n p rounds body (o, shown) = (shown.0, shown.2)

-- THE ARMS OF A PAR
pub arms_of_par : (d : PlainDesign) (n : ℕ) (arms : PlainArms) → IsShown d n (APar arms) → AreShown d n arms
arms_of_par d n arms (o, shown) = (shown.0, shown.2)

pub one_arm_shown : (d : PlainDesign) (n : ℕ) (arm : PlainStrand) → AreShown d n (one_arm arm) → IsShown d n arm
one_arm_shown d n arm (list, (v, first, e, shown)) = (first, shown)

pub first_shown : (d : PlainDesign) (n leaves : ℕ) (one other : PlainArms) → AreShown d n (both_arms leaves one other) → AreShown d n one
first_shown d n leaves one other (list, (front, back, e, first, later, told)) = (front, first)

pub other_shown : (d : PlainDesign) (n leaves : ℕ) (one other : PlainArms) → AreShown d n (both_arms leaves one other) → AreShown d n other
other_shown d n leaves one other (list, (front, back, e, first, later, told)) = (back, later)

pub first_counted : (d : PlainDesign) (n leaves : ℕ) (one other : PlainArms) → AreShown d n (both_arms leaves one other) → AreCounted one
first_counted d n leaves one other (list, (front, back, e, first, later, told)) = all_counted d n one front first

module _ (d : PlainDesign) (old new : List PlainInstance) (n : ℕ) where
  -- ONE ARM goes on, or ends
  one_goes : (path : Path) (s : State) (v : PlainStatement) (left : Option Strand) (after : Option Arms) (x : Stepped (Option Open)) → IsArmOf left after → StepTold d n path s new (Ok left) x → ArmsTold d n path s new (Ok after) (within (arms_left v no_arms) x)
  one_goes path s v None after (Now None t) is told = subst (λ a. ArmsTold d n path s new (Ok a) (Now no_arms t)) (sym is) (told.0, refl)
  one_goes path s v None after (Now (Some o) t) is told = absurd told.1
  one_goes path s v (Some arm) after (Now None t) is told = absurd told.1
  one_goes path s v (Some arm) after (Now (Some o) t) (arms, is, plain) told =
      subst (λ a. ArmsTold d n path s new (Ok a) (Now (an_arm v o no_arms) t)) (sym is) (told.0, subst (λ a. ShowsAll d n a (an_arm v o no_arms)) (sym plain) (v, o, refl, told.1))
  one_goes path s v left after (Stops fault) is told = absurd told

  one_stops : (path : Path) (s : State) (v : PlainStatement) (halt : PortFault) (x : Stepped (Option Open)) → StepTold d n path s new (Err halt) x → ArmsTold d n path s new (Err halt) (within (arms_left v no_arms) x)
  one_stops path s v told (Now o t) bad = absurd bad
  one_stops path s v told (Stops fault) tells = tells

  module _ (arm : PlainStrand) (k : ℕ) (less : k < strand_leaves arm) where
    arm_turn : (path : Path) (s : State) (list : Opens) (v : PlainStatement) (first : Open) → list ≡ an_arm v first no_arms → Shows d n arm first
        → step_arms (instance_at (tree_of d) path) (inputs_held old n) list k (under_path path s) ≡ within (arms_left v no_arms) (step (instance_at (tree_of d) path) (inputs_held old n) first k (under_path path s))
    arm_turn path s list v first e shown =
        let i = instance_at (tree_of d) path in
        ap (λ l. step_arms i (inputs_held old n) l k (under_path path s)) e ∙ step_first i (inputs_held old n) (under_path path s) v first no_arms k (subst (λ m. k < m) (sym (leaves_shown d n arm first shown)) less)

    pub arm_goes : (left : Option Strand) (after : Option Arms) → HasStepped d old new n arm k (Ok left) → IsArmOf left after → HaveStepped d old new n (one_arm arm) k (Ok after)
    arm_goes left after stepped is = record {
      tells = λ path s list number stands (v, first, e, shown).
          subst (λ x. ArmsTold d n path s new (Ok after) x) (sym (arm_turn path s list v first e shown))
          (one_goes path s v left after (step (instance_at (tree_of d) path) (inputs_held old n) first k (under_path path s)) is (stepped.tells path s first number stands shown));
      held = stepped.held;
    }

    pub arm_stops : (halt : PortFault) → HasStepped d old new n arm k (Err halt) → HaveStepped d old new n (one_arm arm) k (Err halt)
    arm_stops halt stepped = record {
      tells = λ path s list number stands (v, first, e, shown).
          subst (λ x. ArmsTold d n path s new (Err halt) x) (sym (arm_turn path s list v first e shown))
          (one_stops path s v halt (step (instance_at (tree_of d) path) (inputs_held old n) first k (under_path path s)) (stepped.tells path s first number stands shown));
      held = stepped.held;
    }

    pub arm_turned : (whole : PlainArms) (kept : Strand) (left : Arms) (r : Result Bool PortFault) → whole ≡ one_arm arm → plain_arms left ≡ one_arm (plain_strand kept) → HasStepped d old new n arm k (left_by r kept) → HaveStepped d old new n whole k (left_by r left)
    arm_turned whole kept left (Ok true) same is stepped = subst (λ w. HaveStepped d old new n w k (Ok (Some left))) (sym same) (arm_goes (Some kept) (Some left) stepped (left, refl, is))
    arm_turned whole kept left (Ok false) same is stepped = subst (λ w. HaveStepped d old new n w k (Ok None)) (sym same) (arm_goes None None stepped refl)
    arm_turned whole kept left (Err halt) same is stepped = subst (λ w. HaveStepped d old new n w k (Err halt)) (sym same) (arm_stops halt stepped)

  -- A HALF goes on, or ends
  front_told : (path : Path) (s : State) (other after : PlainArms) (arms : Arms) (left : Option Arms) (back : Opens) (x : Stepped Opens) → plain_arms arms ≡ after → IsInFront left other after → ShowsAll d n other back
      → ArmsTold d n path s new (Ok left) x → ArmsTold d n path s new (Ok (Some arms)) (within (λ l. beside l back) x)
  front_told path s other after arms None back (Now list t) plain is later told =
      (told.0, subst (λ l. ShowsAll d n (plain_arms arms) (beside l back)) (sym told.1) (subst (λ a. ShowsAll d n a back) (sym (plain ∙ is)) later))
  front_told path s other after arms (Some one) back (Now list t) plain is later told =
      (told.0, subst (λ a. ShowsAll d n a (beside list back)) (sym plain) (both_shown d n (plain_arms one) other after list back is told.1 later))
  front_told path s other after arms left back (Stops fault) plain is later told = absurd told

  none_behind : (front : Opens) → beside front no_arms ≡ front
  none_behind no_arms = refl
  none_behind (an_arm v o rest) = ap (an_arm v o) (none_behind rest)

  back_told : (path : Path) (s : State) (one after : PlainArms) (arms : Arms) (left : Option Arms) (front : Opens) (x : Stepped Opens) → plain_arms arms ≡ after → IsBehind left one after → ShowsAll d n one front
      → ArmsTold d n path s new (Ok left) x → ArmsTold d n path s new (Ok (Some arms)) (within (beside front) x)
  back_told path s one after arms None front (Now list t) plain is first told =
      (told.0, subst (λ l. ShowsAll d n (plain_arms arms) l) (sym (ap (beside front) told.1 ∙ none_behind front)) (subst (λ a. ShowsAll d n a front) (sym (plain ∙ is)) first))
  back_told path s one after arms (Some other) front (Now list t) plain is first told =
      (told.0, subst (λ a. ShowsAll d n a (beside front list)) (sym plain) (both_shown d n one (plain_arms other) after front list is first told.1))
  back_told path s one after arms left front (Stops fault) plain is first told = absurd told

  half_stops : (path : Path) (s : State) (halt : PortFault) (f : Opens → Opens) (x : Stepped Opens) → ArmsTold d n path s new (Err halt) x → ArmsTold d n path s new (Err halt) (within f x)
  half_stops path s told f (Now o t) bad = absurd bad
  half_stops path s told f (Stops fault) tells = tells

  module _ (one other : PlainArms) (leaves k : ℕ) where
    front_turn : (path : Path) (s : State) (list front back : Opens) → k < arms_leaves one → list ≡ beside front back → ShowsAll d n one front
        → step_arms (instance_at (tree_of d) path) (inputs_held old n) list k (under_path path s) ≡ within (λ l. beside l back) (step_arms (instance_at (tree_of d) path) (inputs_held old n) front k (under_path path s))
    front_turn path s list front back less e first =
        let i = instance_at (tree_of d) path in
        ap (λ l. step_arms i (inputs_held old n) l k (under_path path s)) e ∙ step_front i (inputs_held old n) (under_path path s) front back k (subst (λ m. k < m) (sym (all_leaves_shown d n one front first)) less)

    pub front_goes : k < arms_leaves one → (left : Option Arms) (arms : Arms) → HaveStepped d old new n one k (Ok left) → IsInFront left other (plain_arms arms) → HaveStepped d old new n (both_arms leaves one other) k (Ok (Some arms))
    front_goes less left arms stepped is = record {
      tells = λ path s list number stands (front, back, e, first, later, told).
          subst (λ x. ArmsTold d n path s new (Ok (Some arms)) x) (sym (front_turn path s list front back less e first))
          (front_told path s other (plain_arms arms) arms left back (step_arms (instance_at (tree_of d) path) (inputs_held old n) front k (under_path path s)) refl is later (stepped.tells path s front number stands first));
      held = stepped.held;
    }

    pub front_stops : k < arms_leaves one → (halt : PortFault) → HaveStepped d old new n one k (Err halt) → HaveStepped d old new n (both_arms leaves one other) k (Err halt)
    front_stops less halt stepped = record {
      tells = λ path s list number stands (front, back, e, first, later, told).
          subst (λ x. ArmsTold d n path s new (Err halt) x) (sym (front_turn path s list front back less e first))
          (half_stops path s halt (λ l. beside l back) (step_arms (instance_at (tree_of d) path) (inputs_held old n) front k (under_path path s)) (stepped.tells path s front number stands first));
      held = stepped.held;
    }

    back_turn : (path : Path) (s : State) (list front back : Opens) → list ≡ beside front back → ShowsAll d n one front
        → step_arms (instance_at (tree_of d) path) (inputs_held old n) list (arms_leaves one + k) (under_path path s) ≡ within (beside front) (step_arms (instance_at (tree_of d) path) (inputs_held old n) back k (under_path path s))
    back_turn path s list front back e first =
        let i = instance_at (tree_of d) path in
        ap (λ l. step_arms i (inputs_held old n) l (arms_leaves one + k) (under_path path s)) e
        ∙ step_back i (inputs_held old n) (under_path path s) front back (arms_leaves one + k) k (ap (λ m. m + k) (sym (all_leaves_shown d n one front first)))

    pub back_goes : (left : Option Arms) (arms : Arms) → HaveStepped d old new n other k (Ok left) → IsBehind left one (plain_arms arms) → HaveStepped d old new n (both_arms leaves one other) (arms_leaves one + k) (Ok (Some arms))
    back_goes left arms stepped is = record {
      tells = λ path s list number stands (front, back, e, first, later, told).
          subst (λ x. ArmsTold d n path s new (Ok (Some arms)) x) (sym (back_turn path s list front back e first))
          (back_told path s one (plain_arms arms) arms left front (step_arms (instance_at (tree_of d) path) (inputs_held old n) back k (under_path path s)) refl is first (stepped.tells path s back number stands later));
      held = stepped.held;
    }

    pub back_stops : (halt : PortFault) → HaveStepped d old new n other k (Err halt) → HaveStepped d old new n (both_arms leaves one other) (arms_leaves one + k) (Err halt)
    back_stops halt stepped = record {
      tells = λ path s list number stands (front, back, e, first, later, told).
          subst (λ x. ArmsTold d n path s new (Err halt) x) (sym (back_turn path s list front back e first))
          (half_stops path s halt (beside front) (step_arms (instance_at (tree_of d) path) (inputs_held old n) back k (under_path path s)) (stepped.tells path s back number stands later));
      held = stepped.held;
    }

  -- A PAR goes on, or ends
  shown_arms : (arms : PlainArms) (list : Opens) → ShowsAll d n arms list → par_left list ≡ Some (InPar list)
  shown_arms (one_arm arm) list (v, first, e, shown) = ap par_left e ∙ ap (λ l. Some (InPar l)) (sym e)
  shown_arms (both_arms leaves one other) list (front, back, e, first, later, told) =
      ap par_left e ∙ some_beside front back (shown_arms one front first) ∙ ap (λ l. Some (InPar l)) (sym e)
    where
      some_beside : (front back : Opens) → par_left front ≡ Some (InPar front) → par_left (beside front back) ≡ Some (InPar (beside front back))
      some_beside no_arms back is = absurd (let f : ◌≡◌ {A = Option Open} None (Some (InPar no_arms)) = is in cc)
      some_beside (an_arm v o rest) back is = refl

  par_told : (path : Path) (s : State) (left : Option Arms) (after : Option Strand) (x : Stepped Opens) → IsParOf left after → ArmsTold d n path s new (Ok left) x → StepTold d n path s new (Ok after) (within par_left x)
  par_told path s None after (Now list t) is told =
      subst (λ a. StepTold d n path s new (Ok a) (Now (par_left list) t)) (sym is) (subst (λ l. StepTold d n path s new (Ok None) (Now (par_left l) t)) (sym told.1) (told.0, tt))
  par_told path s (Some arms) after (Now list t) (strand, is, plain) told =
      subst (λ a. StepTold d n path s new (Ok a) (Now (par_left list) t)) (sym is)
      (subst (λ o. StepTold d n path s new (Ok (Some strand)) (Now o t)) (sym (shown_arms (plain_arms arms) list told.1))
      (told.0, subst (λ p. Shows d n p (InPar list)) (sym plain) (list, refl, told.1)))
  par_told path s left after (Stops fault) is told = absurd told

  module _ (arms : PlainArms) (k : ℕ) where
    pub par_goes : (left : Option Arms) (after : Option Strand) → HaveStepped d old new n arms k (Ok left) → IsParOf left after → HasStepped d old new n (APar arms) k (Ok after)
    par_goes left after stepped behind = record {
      tells = λ path s o number stands (list, e, shown).
          let i = instance_at (tree_of d) path in
          subst (λ x. StepTold d n path s new (Ok after) (step i (inputs_held old n) x k (under_path path s))) (sym e)
          (par_told path s left after (step_arms i (inputs_held old n) list k (under_path path s)) behind (stepped.tells path s list number stands shown));
      held = stepped.held;
    }

    pub par_on : (whole : PlainStrand) (left : Arms) (kept : Strand) → whole ≡ APar arms → plain_strand kept ≡ APar (plain_arms left) → HaveStepped d old new n arms k (Ok (Some left)) → HasStepped d old new n whole k (Ok (Some kept))
    par_on whole left kept same is stepped = subst (λ w. HasStepped d old new n w k (Ok (Some kept))) (sym same) (par_goes (Some left) (Some kept) stepped (kept, refl, is))

    pub par_off : (whole : PlainStrand) → whole ≡ APar arms → HaveStepped d old new n arms k (Ok None) → HasStepped d old new n whole k (Ok None)
    par_off whole same stepped = subst (λ w. HasStepped d old new n w k (Ok None)) (sym same) (par_goes None None stepped refl)
