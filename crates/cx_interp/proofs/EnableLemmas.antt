-- What the enable of a group is, by its row.
use Rattle.std.proofs.Common.{◌≡◌, ℕ, Bool, false, ◌||◌, true, List, length, Some, None, refl, sym, ap, ◌∙◌}
use Rattle.cx_meaning.specs.declared.kinds.GroupKind.{GroupKind}
use Rattle.cx_meaning.specs.declared.kinds.GroupKind.TheVariants as kinds
use Rattle.cx_meaning.specs.Designs.{PlainDesign, Enable, group_at}
use Rattle.cx_meaning.specs.Instances.{Instance, Path, State, part_of, cells_of, instance_at, tree_of, idle}
use Rattle.cx_meaning.specs.Sights.{Held}
use Rattle.cx_meaning.specs.Answers.{turns_of}
use Rattle.cx_meaning.specs.Islands.{kind_length}
use Rattle.cx_meaning.specs.Calls.{called, group_turn, call_or_turns, enable_kind}
use Rattle.cx_meaning.specs.Control.{group_drives}
use Rattle.cx_meaning.specs.Running.{control_below}
use Rattle.cx_state.specs.Tables.{IsNumber}
use Rattle.cx_state.specs.States.{PlainInstance, inputs_held, under_path}
use Rattle.cx_turns.specs.declared.tables.GroupRow.{GroupRow}
use Rattle.cx_turns.specs.GroupRows.{IsGroup}
use Rattle.cx_turns.specs.Groups.{IsGroupRow, HasLength, Driving, group_driving}
use Rattle.cx_interp.specs.declared.answers.Answer.{Answer}
use Rattle.cx_interp.specs.Doings.{Doing, form_does, form_drives, turns_do}
use Rattle.cx_interp.specs.Done.{Done}
use Rattle.cx_interp.proofs.RanLemmas.{ran_same}
use Rattle.cx_interp.proofs.DoneLemmas.{done_wider}

-- what a run means may be told otherwise in the instance of its number
pub done_same_at : (d : PlainDesign) (n : ℕ) (driving : Driving) (old new : List PlainInstance) (doing other : Doing) (budget : ℕ) (a : Answer)
    → ((path : Path) (held : Held) (s : State) → IsNumber d n path → doing (instance_at (tree_of d) path) held s budget ≡ other (instance_at (tree_of d) path) held s budget)
    → Done d old new n driving doing budget a → Done d old new n driving other budget a
done_same_at d n driving old new doing other budget a same one = record {
  leaves = λ path s number stands settled.
      let l = one.leaves path s number stands settled in
      record {
        after = l.after;
        outcome = l.outcome;
        stands = l.stands;
        told = l.told;
        held = l.held;
        ran = ran_same (instance_at (tree_of d) path) (driving (instance_at (tree_of d) path)) (doing (instance_at (tree_of d) path) (inputs_held old n)) (other (instance_at (tree_of d) path) (inputs_held old n))
            (under_path path s) budget l.after l.outcome (same path (inputs_held old n) (under_path path s) number) l.ran;
      };
  within = one.within;
  fits = one.fits;
}

by_kind : (i : Instance) (held : Held) (g : ℕ) (s : State) (n : ℕ) (kind : GroupKind) → kind_length kind ≡ None → called i g ≡ None → turns_of (idle i) (group_turn i held g) s n ≡ enable_kind i (control_below (cells_of i)) held g kind s n
by_kind i held g s n kinds.Plain e none = ap (λ o. call_or_turns i (control_below (cells_of i)) held g o s n) (sym none)
by_kind i held g s n kinds.Comb e none = ap (λ o. call_or_turns i (control_below (cells_of i)) held g o s n) (sym none)
by_kind i held g s n (kinds.Timed m) e none = absurd (let f : Some m ≡ None = e in cc)

pub alone : (a : Bool) → (a || false) ≡ false → a ≡ false
alone true e = absurd (let f : true ≡ false = e in cc)
alone false e = refl

-- a group that is no call and not static takes turns
pub enable_turns : (d : PlainDesign) (n g : ℕ) (row : GroupRow) (old new : List PlainInstance) (budget : ℕ) (a : Answer) → IsGroupRow d n g row → HasLength d n g None → row.callee ≡ None
    → Done d old new n (group_driving g) (turns_do g) budget a → Done d old new n (form_drives (Enable g)) (form_does (Enable g)) budget a
enable_turns d n g row old new budget a is length callee done =
    done_same_at d n (form_drives (Enable g)) old new (turns_do g) (form_does (Enable g)) budget a
    (λ path held s number.
    let r : IsGroup (instance_at (tree_of d) path) g row = is path number in
    by_kind (instance_at (tree_of d) path) held g s budget (group_at (part_of (instance_at (tree_of d) path)) g).kind (sym (length path number)) (sym r.callee ∙ callee))
    (done_wider d n (group_driving g) old new (form_drives (Enable g)) (turns_do g) budget a (λ i c e. alone (group_drives (part_of i) g c) e) done)
