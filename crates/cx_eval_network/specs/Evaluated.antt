-- What marks of the ports of an instance, by their numbers there, come to.
use Rattle.std.specs.Prelude.{◌≡◌, ◌<◌, ◌+◌, ℕ, true, false, nat_le, nat_lt, ◌&&◌, List, Option, Some, None, Ok, Err, length, slice_get}
use Rattle.cx_text.specs.Members.{In}
use Rattle.cx_bits.specs.BitVector.{BitVector}
use Rattle.cx_meaning.specs.declared.ports.PortRef.{PortRef}
use Rattle.cx_meaning.specs.declared.sights.Seen.{Seen}
use Rattle.cx_meaning.specs.declared.sights.Seen.TheVariants.{Value}
use Rattle.cx_prim.specs.declared.ports.PortRow.{PortRow}
use Rattle.cx_meaning.specs.Active.{Owned}
use Rattle.cx_meaning.specs.Instances.{Instance}
use Rattle.cx_meaning.specs.Sights.{Look, Lacks, Given}
use Rattle.cx_meaning.specs.Truths.{Truth, One, Zero, truth_of_bit, truth_of, not_truth, and_truth, or_truth, compared}
use Rattle.cx_design_leads.specs.Nodes.{node_of}
use Rattle.cx_eval_drives.specs.Drives.{acting_of}
use Rattle.cx_eval_drives.specs.Gathers.{entry_of, gather_all}
use Rattle.cx_eval_network.specs.declared.marks.NodeMark.{NodeMark}
use Rattle.cx_eval_network.specs.declared.marks.NodeMark.TheVariants.{Unseen, Open, Known}
use Rattle.cx_eval_network.specs.declared.network.Found.{Found}
use Rattle.cx_eval_network.specs.declared.network.Found.TheVariants.{Worth, Waits}
use Rattle.cx_eval_network.specs.declared.planned.PlannedPort.{PlannedPort}
use Rattle.cx_eval_network.specs.declared.planned.PlannedPort.TheVariants.{Numbered, Fixed}
use Rattle.cx_eval_network.specs.Demands.{known_at, shown}
use Rattle.cx_eval_network.specs.LeadPorts.{named_by}
use Rattle.cx_eval_network.specs.Literals.{literal_seen}
use Rattle.cx_eval_network.specs.Planned.{NumberedGuard, NumberedGuards, Always, Atom, Negation, All, Any, Compared, Within, no_guards, a_guard, numbers_of}

-- what is known of the ports of an instance is what they are seen as
abbrev pub AreSeen : Instance → Look → List NodeMark → Type 0
AreSeen i look own =
    (q : PortRef) (n : ℕ) (x : Seen) → node_of i q ≡ Some n → slice_get own n ≡ Some (Known x) → x ≡ look q

-- and one that has no number is a literal
pub record Agree (i : Instance) (look : Look) (own : List NodeMark) : Type 0 where
  pub known : AreSeen i look own
  pub fixed : (q : PortRef) → node_of i q ≡ None → literal_seen q ≡ look q

-- what a mark says of a node, or the node
abbrev pub by_mark : ℕ → Option NodeMark → Found
by_mark n None = Waits n
by_mark n (Some Unseen) = Waits n
by_mark n (Some Open) = Waits n
by_mark n (Some (Known x)) = Worth x

-- what a source that is needed is seen as
abbrev pub Gives : Seen → Found → Type 0
Gives x (Worth y) = y ≡ x
Gives x (Waits n) = Unit {0}

-- what is found at an input is the value in its slot; or it is no value, or nothing is known
abbrev pub FillsWith : Option BitVector → Found → Type 0
FillsWith slot (Worth x) = entry_of true x ≡ Ok slot
FillsWith slot (Waits n) = ⊥

abbrev pub IsNoValue : Found → Found → Type 0
IsNoValue found (Worth x) = (found ≡ Worth x) × (entry_of true x ≡ Err x)
IsNoValue found (Waits n) = found ≡ Waits n

-- a number from a first node on
abbrev pub placed : ℕ → Found → Found
placed first (Worth x) = Worth x
placed first (Waits n) = Waits (first + n)

module _ (own : List NodeMark) where
  -- a planned port as marks show it, and what is known of it, or its number
  abbrev pub port_shown : PlannedPort → Seen
  port_shown (Numbered n) = shown (slice_get own n)
  port_shown (Fixed x) = x

  abbrev pub port_found : PlannedPort → Found
  port_found (Numbered n) = by_mark n (slice_get own n)
  port_found (Fixed x) = Worth x

  -- a guard, at an offset of its group
  abbrev mutual
    pub truth_shown : ℕ → NumberedGuard → Truth
    truth_shown at Always = One
    truth_shown at (Atom p) = truth_of (port_shown p)
    truth_shown at (Negation g) = not_truth (truth_shown at g)
    truth_shown at (All gs) = all_shown at gs
    truth_shown at (Any gs) = any_shown at gs
    truth_shown at (Compared c a b) = compared c (port_shown a) (port_shown b)
    truth_shown at (Within from to) = truth_of_bit (nat_le from at && nat_lt at to)

    pub all_shown : ℕ → NumberedGuards → Truth
    all_shown at no_guards = One
    all_shown at (a_guard g gs) = and_truth (truth_shown at g) (all_shown at gs)

    pub any_shown : ℕ → NumberedGuards → Truth
    any_shown at no_guards = Zero
    any_shown at (a_guard g gs) = or_truth (truth_shown at g) (any_shown at gs)

  -- a port that active assignments name, and of which nothing is known
  pub record IsLacking (i : Instance) (offset : Option ℕ → Option ℕ) (owned : List Owned) (n : ℕ) : Type 0 where
    pub named : In (numbers_of i (named_by (acting_of offset owned))) n
    pub unknown : known_at own n ≡ false

  -- the first so many inputs of a primitive, from the number of the first: all are given, one is no value, or nothing is known of one
  abbrev pub IsGathered : ℕ → ℕ → (ℕ → Seen) → List (Option BitVector) → Option Found → Type 0
  IsGathered first reads look inputs None = Given inputs ≡ gather_all look (λ q. nat_lt q reads) 0 (length inputs)
  IsGathered first reads look inputs (Some (Worth x)) =
      (p : ℕ) × (Lacks p x ≡ gather_all look (λ q. nat_lt q reads) 0 (length inputs))
  IsGathered first reads look inputs (Some (Waits n)) =
      (q : ℕ) × (q < reads) × (n ≡ first + q) × (known_at own n ≡ false)

  -- what is known of them is what they are seen as, and as wide as they are
  abbrev pub InputsAgree : ℕ → ℕ → (ℕ → Seen) → Type 0
  InputsAgree first reads look =
      (q : ℕ) (x : Seen) → q < reads → slice_get own (first + q) ≡ Some (Known x) → x ≡ look q

  abbrev pub InputsFit : ℕ → ℕ → List PortRow → Type 0
  InputsFit first reads ports =
      (q : ℕ) (port : PortRow) (b : BitVector) → slice_get ports q ≡ Some port → q < reads
      → slice_get own (first + q) ≡ Some (Known (Value b)) → b.width ≡ port.width

  -- what an output is seen as, or one of these inputs that is not known
  abbrev pub IsOutput : ℕ → ℕ → Seen → Found → Type 0
  IsOutput first reads value (Worth x) = x ≡ value
  IsOutput first reads value (Waits n) = (q : ℕ) × (q < reads) × (n ≡ first + q) × (known_at own n ≡ false)
