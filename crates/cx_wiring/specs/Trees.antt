-- The drivers of a net by their targets. At most 16 drivers of one target stand together. Where there are more, each 16 of them are a
-- bundle, which drives the target by two wires: whether one of its drivers is on, and what the first that is on gives. These drivers
-- are bundled in the same way, so the drivers of a target are the leaves of a tree.
use Rattle.std.specs.Prelude.{ℕ, zero, suc, ◌+◌, ◌-◌, Bool, true, false, not, nat_eq, nat_lt, List, [], ◌∷◌, ◌++◌, length, map, if◌then◌else◌}
use Rattle.std.specs.Ordering.{is_lt, nat_cmp, ordering_then}
use Rattle.cx_meaning.specs.declared.ports.PortRef.TheVariants as ports
use Rattle.cx_meaning.specs.Active.{same_port}
use Rattle.cx_net.specs.Nets.{OfWire, PlainNetTarget, ToPort, ToRegister, ToWire, ToHole, ToDone, PlainNetDriver}
use Rattle.cx_wiring.specs.Parts.{one, drive}

abbrev pub is_same : PlainNetTarget → PlainNetTarget → Bool
is_same (ToPort p) (ToPort q) = same_port p q
is_same (ToRegister n) (ToRegister m) = nat_eq n m
is_same (ToWire n) (ToWire m) = nat_eq n m
is_same (ToHole n) (ToHole m) = nat_eq n m
is_same ToDone ToDone = true
is_same a b = false

-- THE ORDER OF TARGETS: ports of cells, outputs, registers, wires, holes, the done; of each the numbers
pub record Rank : Type 0 where
  pub kind : ℕ
  pub number : ℕ
  pub port : ℕ

abbrev pub rank : ℕ → ℕ → ℕ → Rank
rank kind number port = record { kind = kind; number = number; port = port }

abbrev pub rank_of : PlainNetTarget → Rank
rank_of (ToPort (ports.Cell c p)) = rank 0 c p
rank_of (ToPort (ports.Output n)) = rank 1 n 0
rank_of (ToRegister n) = rank 2 n 0
rank_of (ToWire n) = rank 3 n 0
rank_of (ToHole n) = rank 4 n 0
rank_of ToDone = rank 5 0 0
rank_of (ToPort p) = rank 6 0 0

abbrev pub ranks_before : Rank → Rank → Bool
ranks_before a b =
    is_lt (ordering_then (nat_cmp a.kind b.kind)
    (ordering_then (nat_cmp a.number b.number) (nat_cmp a.port b.port)))

abbrev pub goes_before : PlainNetDriver → PlainNetDriver → Bool
goes_before d e = ranks_before (rank_of d.target) (rank_of e.target)

-- by target, those of one target as they stood
abbrev pub placed_among : PlainNetDriver → List PlainNetDriver → List PlainNetDriver
placed_among d [] = d ∷ []
placed_among d (e ∷ es) = if not (goes_before e d) then d ∷ e ∷ es else e ∷ placed_among d es

abbrev pub by_target : List PlainNetDriver → List PlainNetDriver
by_target [] = []
by_target (d ∷ ds) = placed_among d (by_target ds)

-- the drivers of one target
pub record Driven : Type 0 where
  pub target : PlainNetTarget
  pub drivers : List PlainNetDriver

-- a driver before those that stand behind it
abbrev pub with_driver : PlainNetDriver → List Driven → List Driven
with_driver d [] = record { target = d.target; drivers = d ∷ [] } ∷ []
with_driver d (t ∷ ts) =
    if is_same d.target t.target then record { target = d.target; drivers = d ∷ t.drivers } ∷ ts
    else record { target = d.target; drivers = d ∷ [] } ∷ t ∷ ts

abbrev pub driven : List PlainNetDriver → List Driven
driven [] = []
driven (d ∷ ds) = with_driver d (driven ds)

-- how many drivers of a target stand together
abbrev pub together : ℕ
together = 16

-- THE BUNDLES of drivers, the first of which has room for so many more
abbrev pub with_first : PlainNetDriver → List (List PlainNetDriver) → List (List PlainNetDriver)
with_first d [] = (d ∷ []) ∷ []
with_first d (b ∷ bs) = (d ∷ b) ∷ bs

abbrev pub bundles : ℕ → List PlainNetDriver → List (List PlainNetDriver)
bundles room [] = []
bundles zero (d ∷ ds) = [] ∷ with_first d (bundles (together - 1) ds)
bundles (suc room) (d ∷ ds) = with_first d (bundles room ds)

-- how many bundles so many drivers begin, where the last one has room for so many more
abbrev pub begun : ℕ → ℕ → ℕ
begun room zero = 0
begun zero (suc n) = suc (begun (together - 1) n)
begun (suc room) (suc n) = begun room n

abbrev pub bundle_count : ℕ → ℕ
bundle_count n = begun 0 n

-- what drives a wire that is 1 where one of some drivers is on
abbrev pub switches : ℕ → List PlainNetDriver → List PlainNetDriver
switches wire ds = map (λ d. drive (ToWire wire) d.guard one) ds

-- drivers of another target
abbrev pub moved : PlainNetTarget → List PlainNetDriver → List PlainNetDriver
moved target ds = map (λ d. drive target d.guard d.source) ds

-- THE WIRES of bundles, two of each
abbrev pub bundle_drivers : ℕ → List (List PlainNetDriver) → List PlainNetDriver
bundle_drivers wire [] = []
bundle_drivers wire (b ∷ bs) = switches wire b ++ moved (ToWire (suc wire)) b ++ bundle_drivers (suc (suc wire)) bs

abbrev pub behind : ℕ → ℕ → ℕ
behind wire pairs = wire + (pairs + pairs)

module _ (target : PlainNetTarget) where
  -- bundles as drivers
  abbrev pub heads : ℕ → List (List PlainNetDriver) → List PlainNetDriver
  heads wire [] = []
  heads wire (b ∷ bs) = drive target (OfWire wire) (OfWire (suc wire)) ∷ heads (suc (suc wire)) bs

  -- A TREE of so many levels at most, with the first of its wires
  abbrev pub tree_within : ℕ → ℕ → List PlainNetDriver → List PlainNetDriver
  tree_within zero wire ds = moved target ds
  tree_within (suc levels) wire ds =
      if nat_lt together (length ds) then
      bundle_drivers wire (bundles together ds)
      ++ tree_within levels (behind wire (length (bundles together ds))) (heads wire (bundles together ds))
      else moved target ds

  -- each level has fewer drivers, so there are no more levels than drivers
  abbrev pub tree : ℕ → List PlainNetDriver → List PlainNetDriver
  tree wire ds = tree_within (length ds) wire ds

-- how many bundles, each with a pair of wires, the tree of so many drivers has
abbrev pub pairs_within : ℕ → ℕ → ℕ
pairs_within zero n = 0
pairs_within (suc levels) n =
    if nat_lt together n then bundle_count n + pairs_within levels (bundle_count n) else 0

abbrev pub pairs : ℕ → ℕ
pairs n = pairs_within n n

-- all trees, with the first of their wires
abbrev pub trees : ℕ → List Driven → List PlainNetDriver
trees wire [] = []
trees wire (t ∷ ts) = tree t.target wire t.drivers ++ trees (behind wire (pairs (length t.drivers))) ts

-- the widths of the wires of so many bundles: one bit, and that of the target
abbrev pub pair_widths : ℕ → ℕ → List ℕ
pair_widths width zero = []
pair_widths width (suc n) = 1 ∷ width ∷ pair_widths width n

abbrev pub tree_widths : (PlainNetTarget → ℕ) → List Driven → List ℕ
tree_widths width [] = []
tree_widths width (t ∷ ts) = pair_widths (width t.target) (pairs (length t.drivers)) ++ tree_widths width ts
