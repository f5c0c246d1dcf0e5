-- Where registers are 0 and islands rest, all numbers of a tree of instances are 0.
use Rattle.std.proofs.Common.{◌≡◌, ℕ, zero, suc, ◌+◌, List, [], ◌∷◌, length, Option, Some, None, refl, ap, subst, arith}
use Rattle.cx_prim.specs.Rows.{Row}
use Rattle.cx_meaning.specs.Designs.{PlainComponent, PlainForm, Empty, Enable, Seq, Par, If, While, Repeat, StaticSeq, StaticPar, StaticIf, StaticRepeat, Timed, PlainStatement, Placed, PlainStatements, no_statements, a_statement}
use Rattle.cx_meaning.specs.Islands.{group_length}
use Rattle.cx_meaning.specs.Instances as instances
use Rattle.cx_meaning.specs.Instances.{Instance, Cells, no_cells, a_primitive, an_instance, Path}
use Rattle.cx_lockstep.specs.Statements.{LeafMachines}
use Rattle.cx_control.specs.Codings.{Coding}
use Rattle.cx_control.specs.StatementCodings.{LeafCodings, statement_coding}
use Rattle.cx_control.specs.Leaves.{leaf_machines}
use Rattle.cx_control.specs.Controls.{coded_below, leaf_codings}
use Rattle.cx_net.specs.Nets.{PlainNetComponent}
use Rattle.cx_net.specs.NetMeaning.{NetState, below_cell}
use Rattle.cx_static.specs.Islands.{PlainIsland}
use Rattle.cx_static.specs.Lowering.{Lowering, after, lowered, lowered_component, unlowered}
use Rattle.cx_wiring.specs.Counts.{registers_of}
use Rattle.cx_wiring_cycles.specs.Shown.{counted, enable_number, form_number, number_of, parts_number, arms_number}
use Rattle.cx_wiring_runs.specs.BlockNumbers.{component_numbers}
use Rattle.cx_wiring_runs.specs.Blocks.{numbers_at, numbers_below}
use Rattle.cx_control.specs.CodingLaws.{beside_none}

counted_none : (first : ℕ) (f : ℕ → ℕ) → first ≡ 0 → ((n : ℕ) → f n ≡ 0) → (n : ℕ) → counted first f n ≡ 0
counted_none first f e h zero = e
counted_none first f e h (suc n) = h n

module _ {X : Type 0} {V : X → Type 0} {F : Type 0} (leaves : LeafMachines X V F) (codings : LeafCodings leaves) (part : PlainComponent) (islands : List PlainIsland) (register : ℕ → ℕ) (of_island : ℕ → ℕ → ℕ → ℕ)
    (registers_zero : (m : ℕ) → register m ≡ 0) (islands_zero : (first k n : ℕ) → of_island first k n ≡ 0) where
  enable_none : (o : Option ℕ) (l : Lowering) (first n : ℕ) → enable_number leaves codings part islands register of_island o l first n ≡ 0
  enable_none None l first n = refl
  enable_none (Some cycles) l first n = islands_zero first (length l.islands) n

  mutual
    form_none : (form : PlainForm) (l : Lowering) (first n : ℕ) → form_number leaves codings part islands register of_island form l first n ≡ 0
    form_none Empty l first n = refl
    form_none (Enable g) l first n = enable_none (group_length part g) l first n
    form_none (Seq parts) l first n = parts_none parts l first n
    form_none (Par arms) l first n = arms_none arms l first n
    form_none (If test comb a b) l first n =
        beside_none (Coding.extra (statement_coding leaves codings a)) _ _ (numbers_none a l first) (numbers_none b (after part a l) (first + length (registers_of islands (lowered part a l)))) n
    form_none (While test comb a) l first n = numbers_none a l first n
    form_none (Repeat zero a) l first n = refl
    form_none (Repeat (suc k) a) l first n = counted_none (register first) _ (registers_zero first) (numbers_none a l (suc first)) n
    form_none (StaticSeq written parts) l first n = islands_zero first (length l.islands) n
    form_none (StaticPar written arms) l first n = islands_zero first (length l.islands) n
    form_none (StaticIf written test a b) l first n = islands_zero first (length l.islands) n
    form_none (StaticRepeat written count a) l first n = islands_zero first (length l.islands) n
    form_none (Timed k) l first n = refl

    pub numbers_none : (s : PlainStatement) (l : Lowering) (first n : ℕ) → number_of leaves codings part islands register of_island s l first n ≡ 0
    numbers_none (Placed form place) l first n = form_none form l first n

    parts_none : (ss : PlainStatements) (l : Lowering) (first n : ℕ) → parts_number leaves codings part islands register of_island ss l first n ≡ 0
    parts_none no_statements l first n = refl
    parts_none (a_statement s ss) l first n =
        beside_none (Coding.extra (statement_coding leaves codings s)) _ _ (numbers_none s l first) (parts_none ss (after part s l) (first + length (registers_of islands (lowered part s l)))) n

    arms_none : (ss : PlainStatements) (l : Lowering) (first n : ℕ) → arms_number leaves codings part islands register of_island ss l first n ≡ 0
    arms_none no_statements l first n = refl
    arms_none (a_statement s ss) l first n =
        beside_none (suc (Coding.extra (statement_coding leaves codings s))) _ _ (counted_none (register first) _ (registers_zero first) (numbers_none s l (suc first)))
        (arms_none ss (after part s l) (suc first + length (registers_of islands (lowered part s l)))) n

module _ (of_island : PlainComponent → NetState → ℕ → ℕ → ℕ → ℕ) where
  component_none : (part : PlainComponent) (cells : Cells) (v : NetState) → ((m : ℕ) → v.register [] m ≡ 0) → ((first k n : ℕ) → of_island part v first k n ≡ 0) → (n : ℕ) → component_numbers of_island (instances.Node part cells) v n ≡ 0
  component_none part cells v registers islands zero = registers 0
  component_none part cells v registers islands (suc n) =
      numbers_none (leaf_machines (instances.Node part cells) (coded_below cells)) (leaf_codings (instances.Node part cells) (coded_below cells)) part (lowered_component part).islands (v.register []) (of_island part v) registers islands
      part.control (unlowered part) 1 n

  module _ (wired : PlainComponent → PlainNetComponent) (timers : PlainComponent → List Row) where
    -- the islands of each instance rest
    abbrev mutual
      pub IslandsRest : Instance → NetState → Type 0
      IslandsRest (instances.Node part cells) v = ((first k n : ℕ) → of_island part v first k n ≡ 0) × IslandsRestIn cells 0 v

      pub IslandsRestIn : Cells → ℕ → NetState → Type 0
      IslandsRestIn no_cells c v = Unit {0}
      IslandsRestIn (a_primitive row rest) c v = IslandsRestIn rest (suc c) v
      IslandsRestIn (an_instance child rest) c v = IslandsRest child (below_cell c v) × IslandsRestIn rest (suc c) v

    mutual
      -- ALL NUMBERS
      pub numbers_zero : (i : Instance) (v : NetState) → ((path : Path) (m : ℕ) → v.register path m ≡ 0) → IslandsRest i v → (path : Path) (n : ℕ) → numbers_at wired timers (component_numbers of_island) i v path n ≡ 0
      numbers_zero (instances.Node part cells) v registers rest [] n = component_none part cells v (registers []) rest.0 n
      numbers_zero (instances.Node part cells) v registers rest (c ∷ path) n = below_zero cells 0 c v (below_cell c v) (λ path m. registers (c ∷ path) m) (λ e f. same e f) rest.1 path n
        where
          same : (e : ℕ) → e ≡ 0 + c → below_cell e v ≡ below_cell c v
          same e f = let g : e ≡ c = omega arith in ap (λ k. below_cell k v) g

      below_zero : (cells : Cells) (from c : ℕ) (v w : NetState) → ((path : Path) (m : ℕ) → w.register path m ≡ 0) → ((e : ℕ) → e ≡ from + c → below_cell e v ≡ w) → IslandsRestIn cells from v → (path : Path) (n : ℕ)
          → numbers_below wired timers (component_numbers of_island) cells c w path n ≡ 0
      below_zero no_cells from c v w registers same rest path n = refl
      below_zero (a_primitive row cells) from zero v w registers same rest path n = refl
      below_zero (a_primitive row cells) from (suc c) v w registers same rest path n = below_zero cells (suc from) c v w registers (λ e f. same e (one_more f)) rest path n
        where
          one_more : {e : ℕ} → e ≡ suc from + c → e ≡ from + suc c
          one_more f = omega arith
      below_zero (an_instance child cells) from zero v w registers same rest path n = numbers_zero child w registers (subst (IslandsRest child) (same from (omega arith)) rest.0) path n
      below_zero (an_instance child cells) from (suc c) v w registers same rest path n = below_zero cells (suc from) c v w registers (λ e f. same e (one_more f)) rest.1 path n
        where
          one_more : {e : ℕ} → e ≡ suc from + c → e ≡ from + suc c
          one_more f = omega arith
