-- The numbers in which a statement stands, as the net's registers have them, and which drivers give the registers their next values.
use Rattle.std.specs.Prelude.{◌≡◌, ℕ, zero, suc, ◌+◌, ◌==◌, not, Bool, true, false, List, [], ◌∷◌, ◌++◌, length, Option, Some, None, if◌then◌else◌}
use Rattle.cx_bits.specs.BitVector.{BitVector}
use Rattle.cx_meaning.specs.declared.ports.PortRef.{PortRef}
use Rattle.cx_meaning.specs.Designs.{PlainComponent, PlainForm, Empty, Enable, Seq, Par, If, While, Repeat, StaticSeq, StaticPar, StaticIf, StaticRepeat, Timed, PlainStatement, Placed, PlainStatements, no_statements, a_statement}
use Rattle.cx_meaning.specs.Answers.{Test, Holds, Fails, Unclear}
use Rattle.cx_meaning.specs.Islands.{group_length}
use Rattle.cx_lockstep.specs.Worlds.{Store, Machine, is_done}
use Rattle.cx_lockstep.specs.Machines.{InSeq, First, Second, InPar, left_of, right_of, InIf, AtTest, InThen, InElse, InWhile, AtHead, InBody}
use Rattle.cx_lockstep.specs.Statements.{LeafMachines, form_machine, machine_of, parts_machine, arms_machine}
use Rattle.cx_lockstep.specs.Running.{seq_runs, par_runs}
use Rattle.cx_control.specs.Codings.{Coding, beside, at_fine}
use Rattle.cx_control.specs.StatementCodings.{LeafCodings, statement_coding}
use Rattle.cx_net.specs.Nets.{OfRegister, ToRegister, ToHole, PlainNetDriver}
use Rattle.cx_net.specs.NetMeaning.{Node, NetAround, truth_bit}
use Rattle.cx_static.specs.Islands.{PlainIsland}
use Rattle.cx_static.specs.Lowering.{Lowering, after, lowered}
use Rattle.cx_wiring.specs.Counts.{registers_of, wires_of}
use Rattle.cx_wiring.specs.Stands.{Stand, end_of, inside, past_test, behind}
use Rattle.cx_wiring.specs.Control.{arm_stand, arm_restarts, arm_finishes, counted_inside, drivers_of, arms_drivers}
use Rattle.cx_wiring.specs.Parts.{word, drive}
use Rattle.cx_net.specs.Nets as nets
use Rattle.cx_wiring.specs.Takings.{takes}
use Rattle.cx_wiring_cycles.specs.IslandTakes.{IslandNexts}

-- a number of 32 bits
abbrev pub wide : ℕ → BitVector
wide n = record { width = 32; value = n }

-- a group goes in a cycle, or its go is cut
pub record Going : Type 0 where
  pub group : ℕ
  pub goes : Bool

-- what the first of these with the group says of its go
abbrev pub told : ℕ → Option BitVector → List Going → Option BitVector
told g later [] = later
told g later (x ∷ xs) = if x.group == g then Some (truth_bit x.goes) else told g later xs

-- a first number, and others behind it
abbrev pub counted : ℕ → (ℕ → ℕ) → ℕ → ℕ
counted first later zero = first
counted first later (suc n) = later n

-- where a test leads
abbrev pub leads : {F : Type 0} → Test F → Bool
leads Holds = true
leads Fails = false
leads (Unclear f) = false

-- the comb group of a test goes
abbrev pub comb_going : Option ℕ → List Going
comb_going None = []
comb_going (Some g) = record { group = g; goes = true } ∷ []

-- what is said at each place of a form
abbrev pub in_seq : {A B : Type 0} → (A → Type 0) → (B → Type 0) → InSeq A B → Type 0
in_seq f h (First p) = f p
in_seq f h (Second p) = h p

abbrev pub in_par : {A B : Type 0} → (A → Type 0) → (B → Type 0) → InPar A B → Type 0
in_par f h p = at_fine f (left_of p) × at_fine h (right_of p)

abbrev pub in_if : {A B : Type 0} → Type 0 → (A → Type 0) → (B → Type 0) → InIf A B → Type 0
in_if t f h AtTest = t
in_if t f h (InThen p) = f p
in_if t f h (InElse p) = h p

abbrev pub in_while : {A : Type 0} → Type 0 → (A → Type 0) → InWhile A → Type 0
in_while t f AtHead = t
in_while t f (InBody p) = f p

abbrev pub if_going : {A B : Type 0} → List Going → (A → List Going) → (B → List Going) → InIf A B → List Going
if_going t f h AtTest = t
if_going t f h (InThen p) = f p
if_going t f h (InElse p) = h p

abbrev pub while_going : {A : Type 0} → List Going → (A → List Going) → InWhile A → List Going
while_going t f AtHead = t
while_going t f (InBody p) = f p

-- THE NUMBERS of a statement beside its place: registers, and of an island what is said of it, by its first register and its number
module _ {X : Type 0} {V : X → Type 0} {F : Type 0} (leaves : LeafMachines X V F)
    (codings : LeafCodings leaves) (part : PlainComponent) (islands : List PlainIsland) where
  module _ (register : ℕ → ℕ) (of_island : ℕ → ℕ → ℕ → ℕ) where
    abbrev pub enable_number : Option ℕ → Lowering → ℕ → ℕ → ℕ
    enable_number None l first n = 0
    enable_number (Some cycles) l first n = of_island first (length l.islands) n

    abbrev mutual
      pub form_number : PlainForm → Lowering → ℕ → ℕ → ℕ
      form_number Empty l first n = 0
      form_number (Enable g) l first n = enable_number (group_length part g) l first n
      form_number (Seq parts) l first n = parts_number parts l first n
      form_number (Par arms) l first n = arms_number arms l first n
      form_number (If test comb a b) l first n =
          beside (Coding.extra (statement_coding leaves codings a)) (number_of a l first)
          (number_of b (after part a l) (first + length (registers_of islands (lowered part a l)))) n
      form_number (While test comb a) l first n = number_of a l first n
      form_number (Repeat zero a) l first n = 0
      form_number (Repeat (suc k) a) l first n = counted (register first) (number_of a l (suc first)) n
      form_number (StaticSeq written parts) l first n = of_island first (length l.islands) n
      form_number (StaticPar written arms) l first n = of_island first (length l.islands) n
      form_number (StaticIf written test a b) l first n = of_island first (length l.islands) n
      form_number (StaticRepeat written count a) l first n = of_island first (length l.islands) n
      form_number (Timed k) l first n = 0

      pub number_of : PlainStatement → Lowering → ℕ → ℕ → ℕ
      number_of (Placed form place) l first n = form_number form l first n

      pub parts_number : PlainStatements → Lowering → ℕ → ℕ → ℕ
      parts_number no_statements l first n = 0
      parts_number (a_statement s ss) l first n =
          beside (Coding.extra (statement_coding leaves codings s)) (number_of s l first)
          (parts_number ss (after part s l) (first + length (registers_of islands (lowered part s l)))) n

      pub arms_number : PlainStatements → Lowering → ℕ → ℕ → ℕ
      arms_number no_statements l first n = 0
      arms_number (a_statement s ss) l first n =
          beside (suc (Coding.extra (statement_coding leaves codings s)))
          (counted (register first) (number_of s l (suc first)))
          (arms_number ss (after part s l) (suc first + length (registers_of islands (lowered part s l)))) n

  -- WHAT THE MACHINE SAW is what the net has: the holes of groups that run, the port of a test
  module _ (seen : Store X V) (hole : ℕ → Bool) (port : PortRef → Bool) where
    abbrev pub enable_agrees : (g : ℕ) → Option ℕ → Machine.Place (LeafMachines.enable leaves g) → Type 0
    enable_agrees g None p = hole g ≡ is_done (Machine.step (LeafMachines.enable leaves g) p seen)
    enable_agrees g (Some cycles) p = Unit {0}

    abbrev pub TestAgrees : PortRef → Option ℕ → Type 0
    TestAgrees test comb = port test ≡ leads (LeafMachines.test leaves test comb seen)

    abbrev mutual
      pub FormAgrees : (form : PlainForm) → Machine.Place (form_machine leaves form) → Type 0
      FormAgrees Empty p = Unit {0}
      FormAgrees (Enable g) p = enable_agrees g (group_length part g) p
      FormAgrees (Seq no_statements) p = Unit {0}
      FormAgrees (Seq (a_statement s ss)) p = in_seq (StatementAgrees s) (PartsAgree ss) p
      FormAgrees (Par no_statements) p = Unit {0}
      FormAgrees (Par (a_statement s ss)) p = in_par (StatementAgrees s) (ArmsAgree ss) p
      FormAgrees (If test comb a b) p = in_if (TestAgrees test.port comb) (StatementAgrees a) (StatementAgrees b) p
      FormAgrees (While test comb a) p = in_while (TestAgrees test.port comb) (StatementAgrees a) p
      FormAgrees (Repeat zero a) p = Unit {0}
      FormAgrees (Repeat (suc k) a) p = StatementAgrees a p.place
      FormAgrees (StaticSeq written parts) p = Unit {0}
      FormAgrees (StaticPar written arms) p = Unit {0}
      FormAgrees (StaticIf written test a b) p = Unit {0}
      FormAgrees (StaticRepeat written count a) p = Unit {0}
      FormAgrees (Timed k) p = Unit {0}

      pub StatementAgrees : (s : PlainStatement) → Machine.Place (machine_of leaves s) → Type 0
      StatementAgrees (Placed form place) p = FormAgrees form p

      pub PartsAgree : (ss : PlainStatements) → Machine.Place (parts_machine leaves ss) → Type 0
      PartsAgree no_statements p = Unit {0}
      PartsAgree (a_statement s ss) p = in_seq (StatementAgrees s) (PartsAgree ss) p

      pub ArmsAgree : (ss : PlainStatements) → Machine.Place (arms_machine leaves ss) → Type 0
      ArmsAgree no_statements p = Unit {0}
      ArmsAgree (a_statement s ss) p = in_par (StatementAgrees s) (ArmsAgree ss) p

  -- THE GOES at a place: of the groups that run, and of the comb group of a test; of islands as it is said of them
  module _ (hole : ℕ → Bool)
      (of_enable : (g : ℕ) → Machine.Place (LeafMachines.enable leaves g) → List Going)
      (of_island : (form : PlainForm) → Machine.Place (LeafMachines.island leaves form) → List Going) where
    abbrev pub enable_going : (g : ℕ) → Option ℕ → Machine.Place (LeafMachines.enable leaves g) → List Going
    enable_going g None p = record { group = g; goes = not (hole g) } ∷ []
    enable_going g (Some cycles) p = of_enable g p

    abbrev mutual
      pub form_going : (form : PlainForm) → Machine.Place (form_machine leaves form) → List Going
      form_going Empty p = []
      form_going (Enable g) p = enable_going g (group_length part g) p
      form_going (Seq no_statements) p = []
      form_going (Seq (a_statement s ss)) p = seq_runs (going s) (parts_going ss) p
      form_going (Par no_statements) p = []
      form_going (Par (a_statement s ss)) p = par_runs (going s) (arms_going ss) p
      form_going (If test comb a b) p = if_going (comb_going comb) (going a) (going b) p
      form_going (While test comb a) p = while_going (comb_going comb) (going a) p
      form_going (Repeat zero a) p = []
      form_going (Repeat (suc k) a) p = going a p.place
      form_going (StaticSeq written parts) p = of_island (StaticSeq written parts) p
      form_going (StaticPar written arms) p = of_island (StaticPar written arms) p
      form_going (StaticIf written test a b) p = of_island (StaticIf written test a b) p
      form_going (StaticRepeat written count a) p = of_island (StaticRepeat written count a) p
      form_going (Timed k) p = []

      pub going : (s : PlainStatement) → Machine.Place (machine_of leaves s) → List Going
      going (Placed form place) p = form_going form p

      pub parts_going : (ss : PlainStatements) → Machine.Place (parts_machine leaves ss) → List Going
      parts_going no_statements p = []
      parts_going (a_statement s ss) p = seq_runs (going s) (parts_going ss) p

      pub arms_going : (ss : PlainStatements) → Machine.Place (arms_machine leaves ss) → List Going
      arms_going no_statements p = []
      arms_going (a_statement s ss) p = par_runs (going s) (arms_going ss) p

-- NEXT VALUES of the registers of arms and rounds, each by its own drivers, and all that an island takes
module _ (groups : ℕ) (islands : List PlainIsland) (around : NetAround) (registers : ℕ → Option BitVector)
    (look : Node → Option BitVector) (kept next : ℕ → ℕ) where
  abbrev mutual
    pub FormNexts : Stand → PlainForm → Type 0
    FormNexts x Empty = Unit {0}
    FormNexts x (Enable g) = Unit {0}
    FormNexts x (Seq no_statements) = Unit {0}
    FormNexts x (Seq (a_statement s ss)) = StatementNexts (inside x) s × PartsNext (behind islands s (inside x)) ss
    FormNexts x (Par arms) =
        ((o : Option BitVector) → takes around registers look (ToRegister x.region) o
        (arms_drivers groups islands x (suc (suc x.wire)) x.register arms) ≡ o)
        × ArmsNext x (suc (suc x.wire)) x.register arms
    FormNexts x (If test comb a b) = StatementNexts (past_test x) a × StatementNexts (behind islands a (past_test x)) b
    FormNexts x (While test comb a) = StatementNexts (past_test x) a
    FormNexts x (Repeat zero a) = Unit {0}
    FormNexts x (Repeat (suc n) a) =
        ((x.register == x.region) ≡ false)
        × (takes around registers look (ToRegister x.register) (Some (wide (kept x.register)))
        (drive (ToRegister x.register) (end_of x.wire) (word 0) ∷
        drive (ToRegister x.register) (end_of (suc (suc x.wire)))
        (nets.Sum (OfRegister x.register) (word 1)) ∷ []) ≡ Some (wide (next x.register)))
        × StatementNexts (counted_inside x) a
    FormNexts x (StaticSeq written parts) = Unit {0}
    FormNexts x (StaticPar written arms) = Unit {0}
    FormNexts x (StaticIf written test a b) = Unit {0}
    FormNexts x (StaticRepeat written count a) = Unit {0}
    FormNexts x (Timed k) = IslandNexts groups islands around registers look kept next k x

    pub StatementNexts : Stand → PlainStatement → Type 0
    StatementNexts x (Placed form place) = FormNexts x form

    pub PartsNext : Stand → PlainStatements → Type 0
    PartsNext x no_statements = Unit {0}
    PartsNext x (a_statement s ss) = StatementNexts x s × PartsNext (behind islands s x) ss

    pub ArmsNext : Stand → ℕ → ℕ → PlainStatements → Type 0
    ArmsNext par wire register no_statements = Unit {0}
    ArmsNext par wire register (a_statement s ss) =
        (takes around registers look (ToRegister register) (Some (wide (kept register)))
        (arm_restarts par register ∷
        (drivers_of groups islands (arm_stand par wire register) s ++ arm_finishes wire register s ∷ []))
        ≡ Some (wide (next register)))
        × (StatementNexts (arm_stand par wire register) s ×
        ArmsNext par (wire + wires_of s) (suc register + length (registers_of islands s)) ss)
