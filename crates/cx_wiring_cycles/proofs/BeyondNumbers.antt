-- Behind its last number a statement has 0, in the machine's coding of a fine place and in the net.
use Rattle.std.proofs.Common.{◌≡◌, ℕ, zero, suc, ◌+◌, ◌-◌, ◌≤◌, if◌then◌else◌, List, length, Option, Some, None, refl, ap, ◌∙◌, arith}
use Rattle.std.proofs.lemmas.Bool.{le-ltb}
use Rattle.cx_text.specs.declared.places.Place.{Place}
use Rattle.cx_meaning.specs.declared.kinds.GroupKind.{GroupKind}
use Rattle.cx_meaning.specs.declared.kinds.GroupKind.TheVariants as kinds
use Rattle.cx_meaning.specs.Designs.{PlainComponent, PlainForm, Empty, Enable, Seq, Par, If, While, Repeat, StaticSeq, StaticPar, StaticIf, StaticRepeat, Timed, PlainStatement, Placed, PlainStatements, no_statements, a_statement, group_at}
use Rattle.cx_meaning.specs.Instances.{Instance, part_of}
use Rattle.cx_meaning.specs.Islands.{group_length}
use Rattle.cx_meaning.specs.Calls.{called}
use Rattle.cx_laws.specs.Samples.{form_ifs}
use Rattle.cx_lockstep.specs.Worlds.{Control, At, Machine}
use Rattle.cx_lockstep.specs.Machines.{First, Second, AtTest, InThen, InElse, AtHead, InBody}
use Rattle.cx_lockstep.specs.Statements.{LeafMachines, form_machine, machine_of, parts_machine, arms_machine}
use Rattle.cx_control.specs.Codings.{Coding, Bank, beside, zeros, region_bank, left_control, right_control, at_fine}
use Rattle.cx_control.specs.StatementCodings.{LeafCodings, form_coding, statement_coding, parts_coding, arms_bank}
use Rattle.cx_control.specs.Leaves.{Coded, Cycle, LastTurn}
use Rattle.cx_control.specs.Controls.{bit, island_coding, called_coding, kind_coding, leaf_codings}
use Rattle.cx_static.specs.Islands.{PlainIsland}
use Rattle.cx_static.specs.Lowering.{Lowering, after, parts_after, lowered, lowered_enable}
use Rattle.cx_wiring.specs.Counts.{registers_of}
use Rattle.cx_wiring_cycles.specs.Shown.{counted, enable_number, form_number, number_of, parts_number, arms_number}
use Rattle.cx_wiring_cycles.proofs.ArmTurns.{right_fine}

beside_over : (c m : ℕ) (f g : ℕ → ℕ) (n : ℕ) → c + m ≤ n → ((j : ℕ) → m ≤ j → g j ≡ 0) → beside c f g n ≡ 0
beside_over c m f g n over none =
    let past : c ≤ n = omega arith in
    ap (λ b. if b then f n else g (n - c)) (le-ltb n c past) ∙ none (n - c) (omega arith)

-- THE MACHINE'S numbers
abbrev pub Short : {P : Type 0} → Coding P → Type 0
Short {P} c = (p : P) → c.IsFine p → (n : ℕ) → c.extra ≤ n → c.other p n ≡ 0

module _ {X : Type 0} {V : X → Type 0} {F : Type 0} (leaves : LeafMachines X V F) (codings : LeafCodings leaves) (enable_short : (g : ℕ) → Short (LeafCodings.enable codings g)) (island_short : (form : PlainForm) → Short (LeafCodings.island codings form)) where
  mutual
    form_short : (form : PlainForm) (p : Machine.Place (form_machine leaves form)) → Coding.IsFine (form_coding leaves codings form) p → (n : ℕ) → Coding.extra (form_coding leaves codings form) ≤ n → Coding.other (form_coding leaves codings form) p n ≡ 0
    form_short Empty p fine n over = refl
    form_short (Enable g) p fine n over = enable_short g p fine n over
    form_short (Seq no_statements) p fine n over = refl
    form_short (Seq (a_statement s ss)) (First p) fine n over =
        beside_over (Coding.extra (statement_coding leaves codings s)) (Coding.extra (parts_coding leaves codings ss)) (Coding.other (statement_coding leaves codings s) p) zeros n over (λ j more. refl)
    form_short (Seq (a_statement s ss)) (Second p) fine n over =
        beside_over (Coding.extra (statement_coding leaves codings s)) (Coding.extra (parts_coding leaves codings ss)) zeros (Coding.other (parts_coding leaves codings ss) p) n over (λ j more. parts_short ss p fine j more)
    form_short (Par no_statements) p fine n over = refl
    form_short (Par (a_statement s ss)) p fine n over = arms_short (a_statement s ss) (At p) fine n over
    form_short (If test comb a b) AtTest fine n over = refl
    form_short (If test comb a b) (InThen p) fine n over =
        beside_over (Coding.extra (statement_coding leaves codings a)) (Coding.extra (statement_coding leaves codings b)) (Coding.other (statement_coding leaves codings a) p) zeros n over (λ j more. refl)
    form_short (If test comb a b) (InElse p) fine n over =
        beside_over (Coding.extra (statement_coding leaves codings a)) (Coding.extra (statement_coding leaves codings b)) zeros (Coding.other (statement_coding leaves codings b) p) n over (λ j more. coding_short b p fine j more)
    form_short (While test comb a) AtHead fine n over = refl
    form_short (While test comb a) (InBody p) fine n over = coding_short a p fine n over
    form_short (Repeat zero a) p fine n over = refl
    form_short (Repeat (suc k) a) p fine zero over = absurd (omega arith)
    form_short (Repeat (suc k) a) p fine (suc n) over = coding_short a p.place fine.body n (omega arith)
    form_short (StaticSeq length parts) p fine n over = island_short (StaticSeq length parts) p fine n over
    form_short (StaticPar length arms) p fine n over = island_short (StaticPar length arms) p fine n over
    form_short (StaticIf length test a b) p fine n over = island_short (StaticIf length test a b) p fine n over
    form_short (StaticRepeat length count a) p fine n over = island_short (StaticRepeat length count a) p fine n over
    form_short (Timed k) p fine n over = refl

    pub coding_short : (s : PlainStatement) (p : Machine.Place (machine_of leaves s)) → Coding.IsFine (statement_coding leaves codings s) p → (n : ℕ) → Coding.extra (statement_coding leaves codings s) ≤ n → Coding.other (statement_coding leaves codings s) p n ≡ 0
    coding_short (Placed form place) p fine n over = form_short form p fine n over

    parts_short : (ss : PlainStatements) (p : Machine.Place (parts_machine leaves ss)) → Coding.IsFine (parts_coding leaves codings ss) p → (n : ℕ) → Coding.extra (parts_coding leaves codings ss) ≤ n → Coding.other (parts_coding leaves codings ss) p n ≡ 0
    parts_short no_statements p fine n over = absurd p
    parts_short (a_statement s ss) (First p) fine n over =
        beside_over (Coding.extra (statement_coding leaves codings s)) (Coding.extra (parts_coding leaves codings ss)) (Coding.other (statement_coding leaves codings s) p) zeros n over (λ j more. refl)
    parts_short (a_statement s ss) (Second p) fine n over =
        beside_over (Coding.extra (statement_coding leaves codings s)) (Coding.extra (parts_coding leaves codings ss)) zeros (Coding.other (parts_coding leaves codings ss) p) n over (λ j more. parts_short ss p fine j more)

    arms_short : (ss : PlainStatements) (k : Control (Machine.Place (arms_machine leaves ss))) → at_fine (Bank.IsFine (arms_bank leaves codings ss)) k → (n : ℕ) → Bank.count (arms_bank leaves codings ss) ≤ n → Bank.code (arms_bank leaves codings ss) k n ≡ 0
    arms_short no_statements k fine n over = refl
    arms_short (a_statement s ss) k fine n over =
        beside_over (suc (Coding.extra (statement_coding leaves codings s))) (Bank.count (arms_bank leaves codings ss)) (Bank.code (region_bank (statement_coding leaves codings s)) (left_control k)) (Bank.code (arms_bank leaves codings ss) (right_control k)) n over
        (λ j more. arms_short ss (right_control k) (right_fine (region_bank (statement_coding leaves codings s)) (arms_bank leaves codings ss) k fine) j more)

-- so of the leaves of an instance
module _ (i : Instance) (children : ℕ → Coded) where
  pub island_short : (form : PlainForm) → Short (LeafCodings.island (leaf_codings i children) form)
  island_short form (Cycle t kept) fine n over = by n over
    where
      by : (n : ℕ) → 2 + form_ifs form ≤ n → Coding.other (island_coding (part_of i) form) (Cycle t kept) n ≡ 0
      by zero more = absurd (omega arith)
      by (suc zero) more = refl
      by (suc (suc n)) more = ap bit (fine.beyond n (omega arith))
  island_short form LastTurn fine n over = by n over
    where
      by : (n : ℕ) → 2 + form_ifs form ≤ n → Coding.other (island_coding (part_of i) form) LastTurn n ≡ 0
      by zero more = refl
      by (suc zero) more = absurd (omega arith)
      by (suc (suc n)) more = refl

  called_short : (g : ℕ) (o : Option ℕ) → Short (called_coding i children g o)
  called_short g None p fine n over = refl
  called_short g (Some c) p fine n over = refl

  kind_short : (g : ℕ) (kind : GroupKind) → Short (kind_coding i children g kind)
  kind_short g kinds.Plain p fine n over = called_short g (called i g) p fine n over
  kind_short g kinds.Comb p fine n over = called_short g (called i g) p fine n over
  kind_short g (kinds.Timed m) p fine n over = island_short (Enable g) p fine n over

  pub enable_short : (g : ℕ) → Short (LeafCodings.enable (leaf_codings i children) g)
  enable_short g p fine n over = kind_short g (group_at (part_of i) g).kind p fine n over

-- THE NET'S numbers, where those of islands end
module _ {X : Type 0} {V : X → Type 0} {F : Type 0} (leaves : LeafMachines X V F) (codings : LeafCodings leaves) (part : PlainComponent) (islands : List PlainIsland) (register : ℕ → ℕ) (of_island : ℕ → ℕ → ℕ → ℕ)
    (Low : Lowering → Type 0) (low_back : (s : PlainStatement) (l : Lowering) → Low (after part s l) → Low l) (low_parts : (ss : PlainStatements) (l : Lowering) → Low (parts_after part ss l) → Low l)
    (islands_end : (s : PlainStatement) (l : Lowering) → ((k : ℕ) (other : Place) → s ≡ Placed (Timed k) other → ⊥) → Low (after part s l) → (place : Place) → lowered part s l ≡ Placed (Timed (length l.islands)) place → (first n : ℕ) → Coding.extra (statement_coding leaves codings s) ≤ n → of_island first (length l.islands) n ≡ 0) where
  mutual
    form_ends : (form : PlainForm) (place : Place) (l : Lowering) → Low (after part (Placed form place) l) → (first n : ℕ) → Coding.extra (form_coding leaves codings form) ≤ n → form_number leaves codings part islands register of_island form l first n ≡ 0
    form_ends Empty place l stage first n over = refl
    form_ends (Enable g) place l stage first n over = by (group_length part g) refl
      where
        by : (o : Option ℕ) → group_length part g ≡ o → enable_number leaves codings part islands register of_island o l first n ≡ 0
        by None is = refl
        by (Some cycles) is = islands_end (Placed (Enable g) place) l (λ k other e. cc) stage place (ap (λ o. Placed (lowered_enable part g o l) place) is) first n over
    form_ends (Seq parts) place l stage first n over = seq_ends parts l stage first n over
    form_ends (Par arms) place l stage first n over = par_ends arms l stage first n over
    form_ends (If test comb a b) place l stage first n over =
        beside_over (Coding.extra (statement_coding leaves codings a)) (Coding.extra (statement_coding leaves codings b)) (number_of leaves codings part islands register of_island a l first) (number_of leaves codings part islands register of_island b (after part a l) (first + length (registers_of islands (lowered part a l)))) n over (λ j more. number_ends b (after part a l) stage (first + length (registers_of islands (lowered part a l))) j more)
    form_ends (While test comb a) place l stage first n over = number_ends a l stage first n over
    form_ends (Repeat zero a) place l stage first n over = refl
    form_ends (Repeat (suc k) a) place l stage first zero over = absurd (omega arith)
    form_ends (Repeat (suc k) a) place l stage first (suc n) over = number_ends a l stage (suc first) n (omega arith)
    form_ends (StaticSeq written parts) place l stage first n over = islands_end (Placed (StaticSeq written parts) place) l (λ k other e. cc) stage place refl first n over
    form_ends (StaticPar written arms) place l stage first n over = islands_end (Placed (StaticPar written arms) place) l (λ k other e. cc) stage place refl first n over
    form_ends (StaticIf written test a b) place l stage first n over = islands_end (Placed (StaticIf written test a b) place) l (λ k other e. cc) stage place refl first n over
    form_ends (StaticRepeat written count a) place l stage first n over = islands_end (Placed (StaticRepeat written count a) place) l (λ k other e. cc) stage place refl first n over
    form_ends (Timed k) place l stage first n over = refl

    pub number_ends : (s : PlainStatement) (l : Lowering) → Low (after part s l) → (first n : ℕ) → Coding.extra (statement_coding leaves codings s) ≤ n → number_of leaves codings part islands register of_island s l first n ≡ 0
    number_ends (Placed form place) l stage first n over = form_ends form place l stage first n over

    seq_ends : (ss : PlainStatements) (l : Lowering) → Low (parts_after part ss l) → (first n : ℕ) → Coding.extra (form_coding leaves codings (Seq ss)) ≤ n → parts_number leaves codings part islands register of_island ss l first n ≡ 0
    seq_ends no_statements l stage first n over = refl
    seq_ends (a_statement s ss) l stage first n over =
        beside_over (Coding.extra (statement_coding leaves codings s)) (Coding.extra (parts_coding leaves codings ss)) (number_of leaves codings part islands register of_island s l first) (parts_number leaves codings part islands register of_island ss (after part s l) (first + length (registers_of islands (lowered part s l)))) n over (λ j more. parts_end ss (after part s l) stage (first + length (registers_of islands (lowered part s l))) j more)

    parts_end : (ss : PlainStatements) (l : Lowering) → Low (parts_after part ss l) → (first n : ℕ) → Coding.extra (parts_coding leaves codings ss) ≤ n → parts_number leaves codings part islands register of_island ss l first n ≡ 0
    parts_end no_statements l stage first n over = refl
    parts_end (a_statement s ss) l stage first n over =
        beside_over (Coding.extra (statement_coding leaves codings s)) (Coding.extra (parts_coding leaves codings ss)) (number_of leaves codings part islands register of_island s l first) (parts_number leaves codings part islands register of_island ss (after part s l) (first + length (registers_of islands (lowered part s l)))) n over (λ j more. parts_end ss (after part s l) stage (first + length (registers_of islands (lowered part s l))) j more)

    par_ends : (ss : PlainStatements) (l : Lowering) → Low (parts_after part ss l) → (first n : ℕ) → Coding.extra (form_coding leaves codings (Par ss)) ≤ n → arms_number leaves codings part islands register of_island ss l first n ≡ 0
    par_ends no_statements l stage first n over = refl
    par_ends (a_statement s ss) l stage first n over =
        beside_over (suc (Coding.extra (statement_coding leaves codings s))) (Bank.count (arms_bank leaves codings ss)) (counted (register first) (number_of leaves codings part islands register of_island s l (suc first))) (arms_number leaves codings part islands register of_island ss (after part s l) (suc first + length (registers_of islands (lowered part s l)))) n over (λ j more. arms_end ss (after part s l) stage (suc first + length (registers_of islands (lowered part s l))) j more)

    arms_end : (ss : PlainStatements) (l : Lowering) → Low (parts_after part ss l) → (first n : ℕ) → Bank.count (arms_bank leaves codings ss) ≤ n → arms_number leaves codings part islands register of_island ss l first n ≡ 0
    arms_end no_statements l stage first n over = refl
    arms_end (a_statement s ss) l stage first n over =
        beside_over (suc (Coding.extra (statement_coding leaves codings s))) (Bank.count (arms_bank leaves codings ss)) (counted (register first) (number_of leaves codings part islands register of_island s l (suc first))) (arms_number leaves codings part islands register of_island ss (after part s l) (suc first + length (registers_of islands (lowered part s l)))) n over (λ j more. arms_end ss (after part s l) stage (suc first + length (registers_of islands (lowered part s l))) j more)
