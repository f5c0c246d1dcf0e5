-- Who reads what, and nets whose values agree with what drives them.
use Rattle.std.specs.Prelude.{◌≡◌, ℕ, ◌+◌, ◌<◌, Bool, true, false, List, Option, Some, length, get_or, slice_get}
use Rattle.cx_text.specs.Members.{In}
use Rattle.cx_bits.specs.BitVector.{BitVector}
use Rattle.cx_graphs.specs.Graphs.{Edges, edges_of, targets_of}
use Rattle.cx_vnets.specs.declared.codes.Code.{Code}
use Rattle.cx_vnets.specs.declared.codes.NetPosition.{NetPosition}
use Rattle.cx_vnets.specs.declared.nets.Nets.{Nets}
use Rattle.cx_vnets.specs.declared.nets.Stored.{Stored}
use Rattle.cx_vnets.specs.declared.readers.Readers.{Readers}
use Rattle.cx_vnets.specs.declared.machines.Machine.{Machine}
use Rattle.cx_vnets.specs.declared.machines.Bench.{Bench}
use Rattle.cx_vnets.specs.Arrays.{word_at}
use Rattle.cx_vnets.specs.Carriers.{AreAlike, CarriersStand, origin_at}
use Rattle.cx_vnets.specs.Gates.{GatesStand, IsShut, ZerosStand}
use Rattle.cx_vnets.specs.Reads.{NetReads}
use Rattle.cx_vnets.specs.Search.{SameWidths}
use Rattle.cx_vnets.specs.Spans.{SpansStand}
use Rattle.cx_vnets.specs.Stale.{is_stale, rank_at}
use Rattle.cx_vnets.specs.Values.{rule}
use Rattle.cx_vnets.specs.declared.watches.Watches.{Watches}
use Rattle.cx_vnets.specs.Watches.{CodeHears, NetHears, IsNoted, NotesGrow, row_of}

-- where there is a row for what is read, the net stands in it
abbrev pub IsListed : Edges → ℕ → ℕ → Type 0
IsListed rows f from = from < length rows → In (targets_of rows from) f

-- the net stands in the row of another and a value, of so many rows; where it tells on which side of the value the
-- other is, in the other's own row too
abbrev pub IsRowed : Edges → ℕ → ℕ → ℕ → BitVector → Bool → Type 0
IsRowed rows count f net v sided = IsListed rows f (row_of net v count) × (sided ≡ true → IsListed rows f net)

-- and it is noted that the other is compared
abbrev pub IsWatch : Watches → ℕ → ℕ → ℕ → BitVector → Bool → Type 0
IsWatch w count f net v sided = IsRowed (edges_of w.rows.items) count f net v sided × IsNoted w.compared.items net

-- the net stands in the rows of the origins of all that it reads, but where it compares a net with a literal, in those
-- of the comparison
abbrev pub IsFound : Nets → List (Option ℕ) → Edges → Edges → Watches → ℕ → ℕ → Type 0
IsFound n origins of_nets of_arrays watches count f =
    NetHears n (λ g. IsListed of_nets f (origin_at origins g)) (IsListed of_arrays f)
    (λ g v sided. IsWatch watches count f (origin_at origins g) v sided) f

-- rows that only grow
pub record Grows (old new : Edges) : Type 0 where
  pub long : length new ≡ length old
  pub kept : (m f : ℕ) → In (targets_of old m) f → In (targets_of new m) f

pub record WatchesGrow (old new : Watches) : Type 0 where
  pub rows : Grows (edges_of old.rows.items) (edges_of new.rows.items)
  pub notes : NotesGrow old.compared.items new.compared.items

-- the net stands in the rows of all that a code of an instance hears of
abbrev pub IsHeard : List (Option ℕ) → Edges → Edges → Watches → ℕ → NetPosition → ℕ → Code → Type 0
IsHeard origins of_nets of_arrays watches count p f c =
    CodeHears (λ k. IsListed of_nets f (origin_at origins (p.nets + k))) (λ a. IsListed of_arrays f (p.arrays + a))
    (λ k v sided. IsWatch watches count f (origin_at origins (p.nets + k)) v sided) c

-- rows that grew stand for a code of an instance too
pub record ListsCode (origins : List (Option ℕ)) (old_nets old_arrays : Edges) (old_watches : Watches)
    (new_nets new_arrays : Edges) (new_watches : Watches) (count : ℕ) (p : NetPosition) (f : ℕ)
    (c : Code) : Type 0 where
  pub nets : Grows old_nets new_nets
  pub arrays : Grows old_arrays new_arrays
  pub watches : WatchesGrow old_watches new_watches
  pub listed : IsHeard origins new_nets new_arrays new_watches count p f c

-- each of the first nets stands in the order at its rank, behind what it reads
pub record AreBehind (n : Nets) (order ranks : List ℕ) (count : ℕ) : Type 0 where
  pub placed : (f : ℕ) → f < count → slice_get order (rank_at ranks f) ≡ Some f
  pub lower : (f : ℕ) → f < count → NetReads n (λ g. rank_at ranks g < rank_at ranks f) (λ a. Unit {0}) f

-- each of the first nets of the order has its place as its rank
abbrev pub HaveRanks : List ℕ → List ℕ → ℕ → Type 0
HaveRanks order ranks count =
    (k f : ℕ) → k < count → slice_get order k ≡ Some f → (f < length ranks) × (rank_at ranks f ≡ k)

-- ranks are places in the order, and each net reads nets of lower ranks alone
pub record IsRanked (n : Nets) (order ranks : List ℕ) : Type 0 where
  pub long : length order ≡ length n.drivers.items
  pub ranks_long : length ranks ≡ length n.drivers.items
  pub placed : (f : ℕ) → f < length n.drivers.items → slice_get order (rank_at ranks f) ≡ Some f
  pub back : (k f : ℕ) → slice_get order k ≡ Some f → (f < length n.drivers.items) × (rank_at ranks f ≡ k)
  pub lower : (f : ℕ) → f < length n.drivers.items
      → NetReads n (λ g. rank_at ranks g < rank_at ranks f) (λ a. Unit {0}) f

-- each net that carries no other's value is found by what it reads; and where the table says so, nets are ranked, and
-- the tables of carriers are right
pub record ReadersStand (n : Nets) (order : List ℕ) (t : Readers) : Type 0 where
  pub rows : length (edges_of t.of_nets.items) ≡ length n.drivers.items
  pub watch_rows : length (edges_of t.watches.rows.items) ≡ length n.drivers.items
  pub notes : length t.watches.compared.items ≡ length n.drivers.items
  pub found : (f : ℕ) → f < length n.drivers.items → origin_at t.carriers.origins.items f ≡ f
      → IsFound n t.carriers.origins.items (edges_of t.of_nets.items) (edges_of t.of_arrays.items) t.watches
      (length n.drivers.items) f
  pub gates : GatesStand n t.carriers.origins.items t.gates.items
  pub spans : SpansStand t.gates.items (edges_of t.of_nets.items) t.spans
  pub ranked : t.ranked ≡ true → IsRanked n order t.ranks.items
  pub carriers : t.ranked ≡ true → CarriersStand n t.ranks.items t.carriers

-- the net stands in no row of comparisons of a net that had a value and has another: it compares it with neither, and
-- tells no side of it where a value lies between
pub record Passes (t : Readers) (count net : ℕ) (old new : BitVector) (f : ℕ) : Type 0 where
  pub lost : In (targets_of (edges_of t.watches.rows.items) (row_of net old count)) f → ⊥
  pub won : In (targets_of (edges_of t.watches.rows.items) (row_of net new count)) f → ⊥
  pub next : In (targets_of (edges_of t.watches.rows.items) net) f → new.value ≡ old.value + 1

-- the net hears nothing of a net that had a value and has another, now that these nets are known to be 0: it reads it
-- only where its own gate is 0, and where that is compared, stands in none of its rows
pub record HearsNot (t : Readers) (nonzero : List ℕ) (count net : ℕ) (old new : BitVector) (f : ℕ) : Type 0 where
  pub reads : In (targets_of (edges_of t.of_nets.items) net) f → IsShut t.gates.items nonzero net f
  pub compares : get_or t.watches.compared.items net false ≡ true → Passes t count net old new f

-- where all nets have these values, the driver of the net gives it its own
abbrev pub Agrees : Nets → Stored → List BitVector → ℕ → Type 0
Agrees n s values f = rule n s (slice_get values) f ≡ slice_get values f

-- each net without a mark agrees
abbrev pub UnmarkedAgree : Nets → Stored → List ℕ → List ℕ → List BitVector → Type 0
UnmarkedAgree n s ranks stale values =
    (f : ℕ) → f < length n.drivers.items → is_stale stale (rank_at ranks f) ≡ false → Agrees n s values f

abbrev pub SameWords : Stored → Stored → ℕ → Type 0
SameWords s t a = (i : ℕ) → word_at s.arrays.items a i ≡ word_at t.arrays.items a i

-- what is stored for a net has stayed, and so have the words of the arrays that it reads
abbrev pub Stays : Stored → Stored → Edges → ℕ → Type 0
Stays s t of_arrays f =
    (slice_get s.nets.items f ≡ slice_get t.nets.items f)
    × ((a : ℕ) → IsListed of_arrays f a → SameWords s t a)

-- nets of the ranks below `k` have been looked at, and nets that carry another's value have it
pub record Sweeping (n : Nets) (s : Stored) (t : Readers) (stale : List ℕ) (values : List BitVector)
    (k : ℕ) : Type 0 where
  pub long : length stale ≡ length n.drivers.items
  pub widths : SameWidths values s.nets.items
  pub agree : UnmarkedAgree n s t.ranks.items stale values
  pub alike : AreAlike t.carriers.origins.items values
  pub behind : (j : ℕ) → j < k → is_stale stale j ≡ false

-- the table of readers is right; and where nets are ranked, each net without a mark agrees, nets that carry another's
-- value have it, and the nets that are known to be 0 are
pub record IsCurrent (m : Machine) (s : Stored) (b : Bench) : Type 0 where
  pub readers : ReadersStand m.nets m.order.items m.readers
  pub long : length b.stale.items ≡ length m.nets.drivers.items
  pub agree : m.readers.ranked ≡ true → UnmarkedAgree m.nets s m.readers.ranks.items b.stale.items b.values.items
  pub alike : m.readers.ranked ≡ true → AreAlike m.readers.carriers.origins.items b.values.items
  pub nonzero : m.readers.ranked ≡ true → ZerosStand m.readers.carriers.origins.items b.nonzero.items b.values.items
