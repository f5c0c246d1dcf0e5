-- A turn of the child of a call, as one of the call.
use Rattle.std.proofs.Common.{◌≡◌, ◌≢◌, ℕ, ◌≤◌, ◌<◌, List, [], ◌∷◌, ◌++◌, get_or, Option, Result, Ok, Err, sym, ◌∙◌, subst, arith}
use Rattle.cx_design.specs.declared.actives.PortFault.{PortFault}
use Rattle.cx_meaning.specs.declared.sights.Seen.{Seen}
use Rattle.cx_meaning.specs.Designs.{PlainDesign}
use Rattle.cx_meaning.specs.Instances.{Instance, Node, OfInstance, Path, State, under, cell_at, cells_of, instance_at, paths_of, tree_of}
use Rattle.cx_design.specs.PlainActives.{TellsFault}
use Rattle.cx_state.specs.Tables.{IsNumber}
use Rattle.cx_state.specs.States.{PlainInstance, StandsFor, inputs_held, under_path}
use Rattle.cx_state.proofs.ChangeLemmas.{one_number}
use Rattle.cx_turns.specs.Children.{HasChild, IsPart}
use Rattle.cx_turns.specs.Machines.{IsInstance}
use Rattle.cx_turns.proofs.ChildLemmas.{append_one, under_child, put_child, child_after, called_is}
use Rattle.cx_state.proofs.TableLemmas.{further}
use Rattle.cx_weave.specs.declared.strands.Strand.{Strand}
use Rattle.cx_weave.specs.Calls.{HoldsAs}
use Rattle.cx_orders.specs.Open.{Open}
use Rattle.cx_orders.specs.Steps.{Stepped, Now, Stops, step, lift_step, call_left, held_as, inputs_for, inputs_seen}
use Rattle.cx_weave.specs.Strands.{PlainStrand, ACall, Shows, IsShown}
use Rattle.cx_weave.specs.Strides.{LeftShown, StepTold, HasStepped}
use Rattle.std.proofs.lemmas.Option.{slice_get-get_or}

-- the child at a cell
one_below : (i : Instance) (c : ℕ) (child : Instance) → cell_at (cells_of i) c ≡ OfInstance child → instance_at i (c ∷ []) ≡ child
one_below (Node part cells) c child e = further (Node part cells) [] c child e

pub child_is : (d : PlainDesign) (n c : ℕ) → IsPart d n c → (path : Path) → IsNumber d n path → instance_at (tree_of d) (path ++ c ∷ []) ≡ instance_at (instance_at (tree_of d) path) (c ∷ [])
child_is d n c part path number =
    let p = part path number in
    further (tree_of d) path c p.0 p.1 ∙ sym (one_below (instance_at (tree_of d) path) c p.0 p.1)

-- its number
pub same_child : (d : PlainDesign) (n c m k : ℕ) → HasChild d n c m → HasChild d n c k → (path : Path) → IsNumber d n path → m ≡ k
same_child d n c m k one other path number = one_number (tree_of d) m k (path ++ c ∷ []) (one path number) (other path number)

-- a strand of the child is shown in the instance of its number
pub child_shown : (d : PlainDesign) (n g c m : ℕ) (inputs : Option (List Seen)) (child : PlainStrand) → IsInstance d n → HasChild d n c m → IsShown d n (ACall g c inputs child) → IsShown d m child
child_shown d n g c m inputs child inside has (o, (now, is, group, calls, fits, (k, at, shown))) =
    let path = get_or (paths_of (tree_of d)) n [] in
    let number : IsNumber d n path = slice_get-get_or (paths_of (tree_of d)) n [] inside in
    (now, subst (λ j. Shows d j child now) (same_child d n c k m at has path number) shown)

module _ (d : PlainDesign) (new : List PlainInstance) (n c m : ℕ) (path : Path) (s : State) where
  lift_goes : (left after : Option Strand) (f : Option Open → Option Open) (x : Stepped (Option Open)) → ((o : Option Open) → LeftShown d m left o → LeftShown d n after (f o))
      → StepTold d m (path ++ c ∷ []) s new (Ok left) x → StepTold d n path s new (Ok after) (lift_step c (under_path path s) f x)
  lift_goes left after f (Now o own) turn told = (subst (λ (y : State). StandsFor (tree_of d) new y) (put_child path c own s) told.0, turn o told.1)
  lift_goes left after f (Stops fault) turn told = absurd told

  lift_stops : (halt : PortFault) (f : Option Open → Option Open) (x : Stepped (Option Open)) → StepTold d m (path ++ c ∷ []) s new (Err halt) x → StepTold d n path s new (Err halt) (lift_step c (under_path path s) f x)
  lift_stops told f (Now o own) bad = absurd bad
  lift_stops told f (Stops fault) tells = subst (λ p. TellsFault (tree_of d) (record { kind = fault.kind; path = p; port = fault.port }) told) (append_one path c fault.path) tells

-- THE CHILD'S TURN, with the inputs of the call held
module _ (d : PlainDesign) (old mid new : List PlainInstance) (n g c m k : ℕ) (before : Option (List Seen)) (child : PlainStrand) (inputs : List Seen) (part : IsPart d n c) (has : HasChild d n c m) (inside : IsInstance d n) (holds : HoldsAs d old mid n g c m before inputs) where
  child_turn : (path : Path) (s : State) (o : Open) (r : Result (Option Strand) PortFault) → IsNumber d n path → StandsFor (tree_of d) old s → HasStepped d mid new m child k r → (now : Open) (j : ℕ) → HasChild d n c j → Shows d j child now
      → StepTold d m (path ++ c ∷ []) s new r (step (instance_at (instance_at (tree_of d) path) (c ∷ [])) (held_as inputs) now k (under c (under_path path s)))
  child_turn path s o r number stands stepped now j at shown =
      let shown2 : Shows d m child now = subst (λ x. Shows d x child now) (same_child d n c j m at has path number) shown in
      let turn = stepped.tells (path ++ c ∷ []) s now (has path number) (holds.holds.stands s stands) shown2 in
      subst (λ i. StepTold d m (path ++ c ∷ []) s new r (step i (held_as inputs) now k (under c (under_path path s)))) (child_is d n c part path number)
      (subst (λ h. StepTold d m (path ++ c ∷ []) s new r (step (instance_at (tree_of d) (path ++ c ∷ [])) h now k (under c (under_path path s)))) holds.holds.own
      (subst (λ (y : State). StepTold d m (path ++ c ∷ []) s new r (step (instance_at (tree_of d) (path ++ c ∷ [])) (inputs_held mid m) now k y)) (under_child path c s) turn))

  pub held_above : ((x input : ℕ) → x ≤ m → inputs_held new x input ≡ inputs_held mid x input) → (x input : ℕ) → x ≤ n → inputs_held new x input ≡ inputs_held old x input
  held_above held x input le =
      let path = get_or (paths_of (tree_of d)) n [] in
      let number : IsNumber d n path = slice_get-get_or (paths_of (tree_of d)) n [] inside in
      let after : n < m = child_after d n c m part has path number in
      held x input (omega (arith, after, le)) ∙ holds.holds.others x input (λ e. absurd (omega (arith, after, le, e)))

  pub call_goes : (left after : Option Strand) → HasStepped d mid new m child k (Ok left)
      → ((path : Path) (o : Option Open) → IsNumber d n path → LeftShown d m left o → LeftShown d n after (call_left (instance_at (tree_of d) path) g c inputs o)) → HasStepped d old new n (ACall g c before child) k (Ok after)
  call_goes left after stepped leaves = record {
    tells = λ path s o number stands (now, is, group, calls, fits, (j, at, shown)).
        let i = instance_at (tree_of d) path in
        let seen : inputs ≡ inputs_for before (inputs_seen i (inputs_held old n) g c (under_path path s)) = holds.seen path s number stands in
        subst (λ x. StepTold d n path s new (Ok after) (step i (inputs_held old n) x k (under_path path s))) (sym is)
        (subst (λ list. StepTold d n path s new (Ok after) (lift_step c (under_path path s) (call_left i g c list) (step (instance_at i (c ∷ [])) (held_as list) now k (under c (under_path path s))))) seen
        (lift_goes d new n c m path s left after (call_left i g c inputs) (step (instance_at i (c ∷ [])) (held_as inputs) now k (under c (under_path path s))) (λ x. leaves path x number)
        (child_turn path s o (Ok left) number stands stepped now j at shown)));
    held = held_above stepped.held;
  }

  pub call_stops : (halt : PortFault) → HasStepped d mid new m child k (Err halt) → HasStepped d old new n (ACall g c before child) k (Err halt)
  call_stops halt stepped = record {
    tells = λ path s o number stands (now, is, group, calls, fits, (j, at, shown)).
        let i = instance_at (tree_of d) path in
        let seen : inputs ≡ inputs_for before (inputs_seen i (inputs_held old n) g c (under_path path s)) = holds.seen path s number stands in
        subst (λ x. StepTold d n path s new (Err halt) (step i (inputs_held old n) x k (under_path path s))) (sym is)
        (subst (λ list. StepTold d n path s new (Err halt) (lift_step c (under_path path s) (call_left i g c list) (step (instance_at i (c ∷ [])) (held_as list) now k (under c (under_path path s))))) seen
        (lift_stops d new n c m path s halt (call_left i g c inputs) (step (instance_at i (c ∷ [])) (held_as inputs) now k (under c (under_path path s)))
        (child_turn path s o (Err halt) number stands stepped now j at shown)));
    held = held_above stepped.held;
  }

-- inputs that are held below the instance alone
pub held_below : (d : PlainDesign) (old new : List PlainInstance) (n c m : ℕ) → IsPart d n c → HasChild d n c m → IsInstance d n → ((x input : ℕ) → x ≢ m → inputs_held new x input ≡ inputs_held old x input) → (x input : ℕ) → x ≤ n → inputs_held new x input ≡ inputs_held old x input
held_below d old new n c m part has inside others x input le =
    let path = get_or (paths_of (tree_of d)) n [] in
    let number : IsNumber d n path = slice_get-get_or (paths_of (tree_of d)) n [] inside in
    let after : n < m = child_after d n c m part has path number in
    others x input (λ e. absurd (omega (arith, after, le, e)))

-- what a group of a call calls is a component
pub call_part : (d : PlainDesign) (n g c : ℕ) (inputs : Option (List Seen)) (child : PlainStrand) → IsShown d n (ACall g c inputs child) → IsPart d n c
call_part d n g c inputs child (o, (now, is, group, calls, fits, more)) path number =
    let r = called_is (instance_at (tree_of d) path) g c (calls path number) in
    (r.0, r.1)
