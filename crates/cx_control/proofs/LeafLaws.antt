-- What the leaves of control write in a cycle, and when they end.
use Rattle.std.proofs.Common.{◌≡◌, ℕ, suc, Bool, true, false, [], ◌∷◌, Option, Some, None, nat_lt, if◌then◌else◌, refl, sym, ap, subst}
use Rattle.std.proofs.lemmas.Bool.{both_ways}
use Rattle.cx_meaning.specs.declared.kinds.GroupKind.{GroupKind}
use Rattle.cx_meaning.specs.declared.kinds.GroupKind.TheVariants as kinds
use Rattle.cx_meaning.specs.Designs.{PlainForm, Enable}
use Rattle.cx_meaning.specs.Instances.{Instance, part_of, Path, State, Set, just}
use Rattle.cx_meaning.specs.Truths.{Truth, One, Zero}
use Rattle.cx_meaning.specs.Truths as truths
use Rattle.cx_meaning.specs.Cycles.{Fault}
use Rattle.cx_meaning.specs.Answers.{Turn}
use Rattle.cx_meaning.specs.Answers as answers
use Rattle.cx_meaning.specs.Islands.{is_one, form_length}
use Rattle.cx_meaning.specs.Calls.{called, captures, group_turn}
use Rattle.cx_meaning.specs.Control.{form_drives}
use Rattle.cx_lockstep.specs.Worlds.{Control, At, Done, Machine, is_done}
use Rattle.cx_control.specs.Spots.{Spot, Number, Holds, Kept, cells_in, held_in, pull, spots_of}
use Rattle.cx_control.specs.Leaves.{Coded, code_of, child_at, written, turn_next, turn_writes, InIsland, Cycle, LastTurn, sampled_now, island_machine, inputs_now, hole_now, capture_now, child_writes, call_writes, child_faults, call_machine, called_machine, kind_machine}

-- a test has one outcome
pub true_false : {A : Type 0} (b : Bool) → b ≡ true → b ≡ false → A
true_false b e f = absurd (both_ways b f e)

pub is_one_of : (t : Truth) → is_one t ≡ true → t ≡ One
is_one_of One e = refl
is_one_of Zero e = true_false false e refl
is_one_of truths.Conflict e = true_false false e refl
is_one_of truths.Undefined e = true_false false e refl

pub not_one_of : (t : Truth) → is_one t ≡ false → t ≡ One → ⊥
not_one_of One e f = true_false true refl e
not_one_of Zero e f = absurd (cc)
not_one_of truths.Conflict e f = absurd (cc)
not_one_of truths.Undefined e f = absurd (cc)

-- A CALL'S MACHINE, whatever kind its group is taken for
module _ (i : Instance) (children : ℕ → Coded) (g c : ℕ) (s : Kept) where
  abbrev Hole : Bool
  Hole = hole_now i (children c) g c (captures i g) (child_at (children c) c s) s

  -- in this cycle it ends where its hole is 1, and writes and faults are those of the call
  pub record ActsAs (M : Machine Spot Holds) (stand : M.Place) : Type 0 where
    pub ends : is_done (M.step stand s) ≡ Hole
    pub writes : (x : Spot) → M.writes stand s x ≡ call_writes i (children c) g c (captures i g) (child_at (children c) c s) s x
    pub faults : M.faults stand s ≡ (if Hole then false else child_faults i (children c) g c (captures i g) (child_at (children c) c s) s)

  called_acts : (o : Option ℕ) → o ≡ Some c → (stand : Machine.Place (called_machine i children g o)) → ActsAs (called_machine i children g o) stand
  called_acts None e stand = absurd (cc)
  called_acts (Some d) e stand = subst (λ k. (stand : Machine.Place (call_machine i (children k) g k (captures i g))) → ActsAs (call_machine i (children k) g k (captures i g)) stand) (sym (some_is d c e)) here stand
    where
      some_is : (a b : ℕ) → ◌≡◌ {A = Option ℕ} (Some a) (Some b) → a ≡ b
      some_is a b f = cc

      done_if : (b : Bool) → is_done {C = Unit {0}} (if b then Done else At tt) ≡ b
      done_if true = refl
      done_if false = refl

      here : (p : Unit {0}) → ActsAs (call_machine i (children c) g c (captures i g)) p
      here p = record { ends = done_if Hole; writes = λ x. refl; faults = refl }

  pub kind_acts : (kind : GroupKind) → kind ≡ kinds.Plain → called i g ≡ Some c → (stand : Machine.Place (kind_machine i children g kind)) → ActsAs (kind_machine i children g kind) stand
  kind_acts kinds.Plain is e stand = called_acts (called i g) e stand
  kind_acts kinds.Comb is e stand = called_acts (called i g) e stand
  kind_acts (kinds.Timed n) is e stand = absurd (cc)

-- A LEAF THAT ENDS writes nothing, and no leaf writes numbers but those of what it calls
module _ (i : Instance) (children : ℕ → Coded) (s : Kept) where
  pub turn_number : {F : Type 0} (set : Set) (turn : Turn State F) (path : Path) (n : ℕ) → turn_writes set turn (Number path n) ≡ None
  turn_number set answers.Ends path n = refl
  turn_number set (answers.Goes after) path n = either (spots_of set (Number path n))
    where
      either : (b : Bool) → written b after (Number path n) ≡ None
      either true = refl
      either false = refl
  turn_number set (answers.Faults fault) path n = refl

  pub record IsQuietEnd (M : Machine Spot Holds) (stand : M.Place) : Type 0 where
    pub nothing : is_done (M.step stand s) ≡ true → (x : Spot) → M.writes stand s x ≡ None

  group_ends : (g : ℕ) (turn : Turn State Fault) (x : Spot) → is_done (turn_next turn) ≡ true → turn_writes (form_drives (part_of i) (Enable g)) turn x ≡ None
  group_ends g answers.Ends x e = refl
  group_ends g (answers.Goes after) x e = true_false false e refl
  group_ends g (answers.Faults fault) x e = refl

  call_ends : (child : Coded) (g c : ℕ) (capturing hole : Bool) (x : Spot) → is_done {C = Unit {0}} (if hole then Done else At tt) ≡ true → (if hole then None else child_writes i child g c capturing (child_at child c s) s x) ≡ None
  call_ends child g c capturing true x e = refl
  call_ends child g c capturing false x e = true_false false e refl

  called_ends : (g : ℕ) (o : Option ℕ) (stand : Machine.Place (called_machine i children g o)) → IsQuietEnd (called_machine i children g o) stand
  called_ends g None stand = record { nothing = λ e x. group_ends g (group_turn i (held_in s) g (cells_in s)) x e }
  called_ends g (Some c) stand = record { nothing = λ e x. call_ends (children c) g c (captures i g) (hole_now i (children c) g c (captures i g) (child_at (children c) c s) s) x e }

  never_done : (form : PlainForm) (b : Bool) (one other : InIsland) → is_done (if b then At one else At other) ≡ true → ⊥
  never_done form true one other e = true_false false e refl
  never_done form false one other e = true_false false e refl

  pub island_ends : (form : PlainForm) (stand : InIsland) → IsQuietEnd (island_machine i form) stand
  island_ends form (Cycle t kept) = record { nothing = λ e x. absurd (never_done form (nat_lt (suc t) (form_length (part_of i) form)) (Cycle (suc t) (sampled_now i form t kept s)) LastTurn e) }
  island_ends form LastTurn = record { nothing = λ e x. refl }

  pub kind_ends : (g : ℕ) (kind : GroupKind) (stand : Machine.Place (kind_machine i children g kind)) → IsQuietEnd (kind_machine i children g kind) stand
  kind_ends g kinds.Plain stand = called_ends g (called i g) stand
  kind_ends g kinds.Comb stand = called_ends g (called i g) stand
  kind_ends g (kinds.Timed n) stand = island_ends (Enable g) stand

  module _ (c : ℕ) (path : Path) (n : ℕ) where
    child_number : (child : Coded) (g d : ℕ) (capturing : Bool) → just d c ≡ false → (k : Control (Machine.Place child.machine)) (p : Path) → child_writes i child g d capturing k s (Number (c ∷ p) n) ≡ None
    child_number child g d capturing away (At q) [] = ap (λ b. if b then Some (code_of child (Machine.step child.machine q (pull d (inputs_now i child g d capturing s) s)) n) else None) away
    child_number child g d capturing away (At q) (f ∷ p) = ap (λ b. if b then Machine.writes child.machine q (pull d (inputs_now i child g d capturing s) s) (Number (f ∷ p) n) else None) away
    child_number child g d capturing away Done p = either capturing
      where
        either : (b : Bool) → (if b then turn_writes (form_drives (part_of i) (Enable g)) (capture_now i child g d capturing s) (Number (c ∷ p) n) else None) ≡ None
        either true = turn_number (form_drives (part_of i) (Enable g)) (capture_now i child g d capturing s) (c ∷ p) n
        either false = refl

    called_number : (g : ℕ) (o : Option ℕ) → ((d : ℕ) → o ≡ Some d → just d c ≡ false) → (stand : Machine.Place (called_machine i children g o)) → Machine.writes (called_machine i children g o) stand s (Number (c ∷ path) n) ≡ None
    called_number g None other stand = turn_number (form_drives (part_of i) (Enable g)) (group_turn i (held_in s) g (cells_in s)) (c ∷ path) n
    called_number g (Some d) other stand = either (hole_now i (children d) g d (captures i g) (child_at (children d) d s) s)
      where
        either : (b : Bool) → (if b then None else child_writes i (children d) g d (captures i g) (child_at (children d) d s) s (Number (c ∷ path) n)) ≡ None
        either true = refl
        either false = child_number (children d) g d (captures i g) (other d refl) (child_at (children d) d s) path

    pub island_number : (form : PlainForm) (stand : InIsland) → Machine.writes (island_machine i form) stand s (Number (c ∷ path) n) ≡ None
    island_number form (Cycle t kept) = turn_number (form_drives (part_of i) form) _ (c ∷ path) n
    island_number form LastTurn = refl

    pub kind_number : (g : ℕ) (kind : GroupKind) → ((d : ℕ) → called i g ≡ Some d → just d c ≡ false) → (stand : Machine.Place (kind_machine i children g kind)) → Machine.writes (kind_machine i children g kind) stand s (Number (c ∷ path) n) ≡ None
    kind_number g kinds.Plain other stand = called_number g (called i g) other stand
    kind_number g kinds.Comb other stand = called_number g (called i g) other stand
    kind_number g (kinds.Timed m) other stand = island_number (Enable g) stand
