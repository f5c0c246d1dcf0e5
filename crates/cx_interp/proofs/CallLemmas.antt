-- Calls: the child of an instance, and its run as a run of the instance.
use Rattle.std.proofs.Common.{◌≡◌, ℕ, ◌<◌, Bool, true, false, List, [], ◌∷◌, ◌++◌, length, Option, Some, None, refl, sym, ap, ◌∙◌, subst, arith}
use Rattle.std.proofs.Math.Path.{fun_ext}
use Rattle.cx_meaning.specs.declared.kinds.GroupKind.{GroupKind}
use Rattle.cx_meaning.specs.declared.kinds.GroupKind.TheVariants as kinds
use Rattle.cx_meaning.specs.Designs.{Enable, PlainDesign, PlainStatement, group_at}
use Rattle.cx_meaning.specs.Instances.{Instance, Node, OfInstance, Path, State, just, put, under, cell_at, cells_of, part_of, instance_at, tree_of, IsSettled}
use Rattle.cx_meaning.specs.Sights.{Held}
use Rattle.cx_meaning.specs.Cycles as cycles
use Rattle.cx_meaning.specs.Answers as answers
use Rattle.cx_meaning.specs.Calls.{called, call_or_turns, enable_kind, fault_below, lift_answer, inputs_of_call}
use Rattle.cx_meaning.specs.Islands.{kind_length}
use Rattle.cx_meaning.specs.Control.{assigns_drive, group_drives}
use Rattle.cx_meaning.specs.Running.{run_control, control_below}
use Rattle.cx_design.specs.PlainActives.{TellsFault}
use Rattle.cx_state.specs.Tables.{IsNumber}
use Rattle.cx_state.specs.States.{PlainInstance, inputs_held, StandsFor, under_path}
use Rattle.cx_frames.specs.Ran.{Outcome, Ended, Faulted, Unfinished, AnswersAs}
use Rattle.cx_turns.specs.declared.tables.GroupRow.{GroupRow}
use Rattle.cx_turns.specs.Children.{HasChild, HasControl, HoldsCall}
use Rattle.cx_turns.specs.Groups.{HasLength, IsGroupRow, group_driving}
use Rattle.cx_state.proofs.TableLemmas.{further}
use Rattle.cx_turns.proofs.PathLemmas.{settled_under, settled_put}
use Rattle.cx_turns.proofs.ChildLemmas.{append_one, called_is, child_after, put_child, put_other, under_child}
use Rattle.cx_interp.specs.declared.answers.Answer as told
use Rattle.cx_interp.specs.declared.answers.Answer.TheVariants.{End, Fault, More}
use Rattle.cx_interp.specs.Callees.{child_does, after_does}
use Rattle.cx_interp.specs.Doings.{statement_does, statement_drives, then_does, form_does, form_drives}
use Rattle.cx_interp.specs.Done.{Tells, Leaves, Done}
use Rattle.cx_interp.proofs.DoneLemmas.{done_wider}
use Rattle.cx_interp.proofs.EnableLemmas.{alone, done_same_at}
use Rattle.cx_meaning.proofs.InstancesLemmas.{here, just_true}
use Rattle.cx_meaning.proofs.RunningLemmas.{control_child}

-- answers and outcomes of the child
abbrev pub lift_outcome : ℕ → Outcome → Outcome
lift_outcome c (Ended t) = Ended t
lift_outcome c (Faulted f t) = Faulted (fault_below c f) t
lift_outcome c Unfinished = Unfinished

lift_answers : (c : ℕ) (own s : State) (x : answers.Answer State cycles.Fault) (o : Outcome) → AnswersAs own x o → AnswersAs (put c own s) (lift_answer c s x) (lift_outcome c o)
lift_answers c own s (answers.End a t) o (e, same) = (ap (lift_outcome c) e, λ p. ap (λ (y : State). put c y s p) (fun_ext same))
lift_answers c own s (answers.Fault f t) o e = ap (lift_outcome c) e
lift_answers c own s answers.More o e = ap (lift_outcome c) e

abbrev with_path : cycles.Fault → Path → cycles.Fault
with_path f p = record { kind = f.kind; path = p; port = f.port }

lift_tells : (d : PlainDesign) (path : Path) (c : ℕ) (a : told.Answer) (o : Outcome) → Tells d (path ++ c ∷ []) a o → Tells d path a (lift_outcome c o)
lift_tells d path c (End turns) o e = ap (lift_outcome c) e
lift_tells d path c (Fault fault turn) o (f, tells, e) = (fault_below c f, subst (λ p. TellsFault (tree_of d) (with_path f p) fault) (append_one path c f.path) tells, ap (lift_outcome c) e)
lift_tells d path c More o e = ap (lift_outcome c) e

pub run_is : (i : Instance) (held : Held) (s : State) (n : ℕ) → statement_does (part_of i).control i held s n ≡ run_control i held s n
run_is (Node part cells) held s n = refl

abbrev pub Suffices : PlainDesign → Type 0
Suffices d = (path : Path) (held other : Held) (s : State) (m : ℕ) → ((input : ℕ) → input < length (part_of (instance_at (tree_of d) path)).inputs → held input ≡ other input)
    → run_control (instance_at (tree_of d) path) held s m ≡ run_control (instance_at (tree_of d) path) other s m

-- THE RUN OF THE CHILD, with its inputs held, as a run of the instance
module _ (d : PlainDesign) (n g c number : ℕ) (calls : (path : Path) → IsNumber d n path → called (instance_at (tree_of d) path) g ≡ Some c) (has : HasChild d n c number) (suffices : Suffices d)
    (old middle new : List PlainInstance) (control : PlainStatement) (budget : ℕ) (a : told.Answer) (is_control : HasControl d number control) (hold : HoldsCall d old middle n g c number)
    (done : Done d middle new number (statement_drives control) (statement_does control) budget a) where
  -- what the control of the child means in its state
  means : (path : Path) (s : State) → IsNumber d n path → StandsFor (tree_of d) old s
      → statement_does control (instance_at (tree_of d) (path ++ c ∷ [])) (inputs_held middle number) (under_path (path ++ c ∷ []) s) budget
      ≡ control_below (cells_of (instance_at (tree_of d) path)) c (inputs_of_call (instance_at (tree_of d) path) (inputs_held old n) g c (under_path path s)) (under c (under_path path s)) budget
  means path s at stood =
      let i : Instance = instance_at (tree_of d) path in
      let j : Instance = instance_at (tree_of d) (path ++ c ∷ []) in
      let inputs : Held = inputs_of_call i (inputs_held old n) g c (under_path path s) in
      let r = called_is i g c (calls path at) in
      ap (λ x. statement_does x j (inputs_held middle number) (under_path (path ++ c ∷ []) s) budget) (is_control (path ++ c ∷ []) (has path at))
      ∙ run_is j (inputs_held middle number) (under_path (path ++ c ∷ []) s) budget
      ∙ suffices (path ++ c ∷ []) (inputs_held middle number) inputs (under_path (path ++ c ∷ []) s) budget (λ input lt. hold.inputs path s input at stood lt)
      ∙ ap (λ (x : State). run_control j inputs x budget) (under_child path c s)
      ∙ ap (λ x. run_control x inputs (under c (under_path path s)) budget) (further (tree_of d) path c r.0 r.1)
      ∙ sym (control_child (cells_of i) c r.0 inputs (under c (under_path path s)) budget r.1)

  not_called : (path : Path) (e : ℕ) → IsNumber d n path → group_driving g (instance_at (tree_of d) path) e ≡ false → just c e ≡ false
  not_called path e at off = by_case (just c e) refl
    where
      drives : assigns_drive (group_at (part_of (instance_at (tree_of d) path)) g).assigns c ≡ true
      drives = (called_is (instance_at (tree_of d) path) g c (calls path at)).2

      by_case : (b : Bool) → just c e ≡ b → just c e ≡ false
      by_case false h = h
      by_case true h = absurd (let f : true ≡ false = sym drives ∙ ap (λ k. group_driving g (instance_at (tree_of d) path) k) (just_true c e h) ∙ off in cc)

  lifted : (path : Path) (s : State) → IsNumber d n path → StandsFor (tree_of d) old s → IsSettled (tree_of d) s → Leaves d middle new number (statement_drives control) (statement_does control) budget a (path ++ c ∷ []) s
      → Leaves d old new n (group_driving g) (child_does g c) budget a path s
  lifted path s at stood settled l =
      let i : Instance = instance_at (tree_of d) path in
      let own : State = under_path path s in
      let r = called_is i g c (calls path at) in
      let lt : n < number = child_after d n c number (λ p q. let k = called_is (instance_at (tree_of d) p) g c (calls p q) in (k.0, k.1)) has path at in
      record {
        after = put c l.after own;
        outcome = lift_outcome c l.outcome;
        stands = subst (λ (x : State). StandsFor (tree_of d) new x) (put_child path c l.after s) l.stands;
        told = lift_tells d path c a l.outcome l.told;
        held = λ m input le. l.held m input (omega (arith, le, lt)) ∙ hold.others m input (λ e. absurd (omega (arith, e, le, lt)));
        ran = record {
          settled = settled_put i (c ∷ []) l.after own (settled_under (tree_of d) path s settled)
              (subst (λ x. IsSettled x l.after) (further (tree_of d) path c r.0 r.1 ∙ sym (further i [] c r.0 (subst (λ x. cell_at (cells_of x) c ≡ OfInstance r.0) (sym (here i)) r.1))) l.ran.settled)
              (l.ran.top ∙ ap (λ (x : State). x []) (under_child path c s));
          top = refl;
          others = λ e below off. put_other c e l.after own below (not_called path e at off);
          answer = lift_answers c l.after own _ l.outcome (subst (λ x. AnswersAs l.after x l.outcome) (means path s at stood) l.ran.answer);
        };
      }

  pub done_lifted : Done d old new n (group_driving g) (child_does g c) budget a
  done_lifted = record {
    leaves = λ path s at stood settled. lifted path s at stood settled (done.leaves (path ++ c ∷ []) s (has path at) (hold.stands s stood) settled);
    within = done.within;
    fits = done.fits;
  }

-- THE CALL as the enable of its group
call_kind : (i : Instance) (held : Held) (g c : ℕ) (s : State) (n : ℕ) (kind : GroupKind) → kind_length kind ≡ None → called i g ≡ Some c → then_does (child_does g c) (after_does g c) i held s n ≡ enable_kind i (control_below (cells_of i)) held g kind s n
call_kind i held g c s n kinds.Plain e is = ap (λ o. call_or_turns i (control_below (cells_of i)) held g o s n) (sym is)
call_kind i held g c s n kinds.Comb e is = ap (λ o. call_or_turns i (control_below (cells_of i)) held g o s n) (sym is)
call_kind i held g c s n (kinds.Timed m) e is = absurd (let f : ◌≡◌ {A = Option ℕ} (Some m) None = e in cc)

pub enable_call : (d : PlainDesign) (n g c : ℕ) (row : GroupRow) (old new : List PlainInstance) (budget : ℕ) (a : told.Answer) → IsGroupRow d n g row → HasLength d n g None → row.callee ≡ Some c
    → Done d old new n (group_driving g) (then_does (child_does g c) (after_does g c)) budget a → Done d old new n (form_drives (Enable g)) (form_does (Enable g)) budget a
enable_call d n g c row old new budget a is dynamic callee done =
    done_same_at d n (form_drives (Enable g)) old new (then_does (child_does g c) (after_does g c)) (form_does (Enable g)) budget a
    (λ path held s number. call_kind (instance_at (tree_of d) path) held g c s budget (group_at (part_of (instance_at (tree_of d) path)) g).kind (sym (dynamic path number)) (sym (is path number).callee ∙ callee))
    (done_wider d n (group_driving g) old new (form_drives (Enable g)) (then_does (child_does g c) (after_does g c)) budget a (λ i k e. alone (group_drives (part_of i) g k) e) done)
