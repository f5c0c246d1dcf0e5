-- Nets that only carry the value of another.
use Rattle.std.specs.Prelude.{◌≡◌, ◌≢◌, ◌⊎◌, ℕ, ◌<◌, List, Option, Some, None, length, get_or, slice_get, unwrap_or}
use Rattle.cx_text.specs.Members.{In}
use Rattle.cx_bits.specs.BitVector.{BitVector}
use Rattle.cx_graphs.specs.Graphs.{Edges, edges_of, targets_of}
use Rattle.cx_vnets.specs.declared.nets.Nets.{Nets}
use Rattle.cx_vnets.specs.declared.nets.Stored.{Stored}
use Rattle.cx_vnets.specs.declared.carriers.Carriers.{Carriers}
use Rattle.cx_vnets.specs.Stale.{rank_at}
use Rattle.cx_vnets.specs.Values.{rule}

-- the net whose value a net carries, by the table; itself where it carries no other's
abbrev pub origin_at : List (Option ℕ) → ℕ → ℕ
origin_at origins f = unwrap_or (get_or origins f None) f

-- whatever is known of nets, the driver of a net gives it what is known of another
abbrev pub Carries : Nets → ℕ → ℕ → Type 0
Carries n f source = (s : Stored) (nets : ℕ → Option BitVector) → rule n s nets f ≡ nets source

-- a net carries the value of one of a lower rank, and has its origin
pub record CarriesOn (n : Nets) (ranks : List ℕ) (origins : List (Option ℕ)) (f : ℕ) : Type 0 where
  pub source : ℕ
  pub carries : Carries n f source
  pub there : source < length n.drivers.items
  pub lower : rank_at ranks source < rank_at ranks f
  pub same : origin_at origins f ≡ origin_at origins source

-- a net is its own origin, or carries the value of another
abbrev pub HasOrigin : Nets → List ℕ → List (Option ℕ) → ℕ → Type 0
HasOrigin n ranks origins f = (origin_at origins f ≡ f) ⊎ CarriesOn n ranks origins f

-- each net to which a table gives another stands in the row of that one, where there is one
abbrev pub AreListedBy : List (Option ℕ) → Edges → Type 0
AreListedBy table rows =
    (f other : ℕ) → slice_get table f ≡ Some (Some other) → other < length rows → In (targets_of rows other) f

-- in the row of a net stand nets whose origin it is
abbrev pub IsRowOf : List (Option ℕ) → List ℕ → ℕ → Type 0
IsRowOf origins row net = (f : ℕ) → In row f → (f < length origins) × (origin_at origins f ≡ net)

-- there is a row for each net, and in it stand all nets that carry its value
pub record RowsStand (origins : List (Option ℕ)) (rows : Edges) : Type 0 where
  pub long : length rows ≡ length origins
  pub carried : (net : ℕ) → net < length rows → IsRowOf origins (targets_of rows net) net
  pub listed : AreListedBy origins rows

-- the tables of carriers are right
pub record CarriersStand (n : Nets) (ranks : List ℕ) (t : Carriers) : Type 0 where
  pub long : length t.origins.items ≡ length n.drivers.items
  pub origins : (f : ℕ) → f < length n.drivers.items → HasOrigin n ranks t.origins.items f
  pub rows : RowsStand t.origins.items (edges_of t.rows.items)

-- each net has the value of its origin
abbrev pub AreAlike : List (Option ℕ) → List BitVector → Type 0
AreAlike origins values = (f : ℕ) → slice_get values f ≡ slice_get values (origin_at origins f)

-- a net and those that carry its value have been given one, and no others
pub record AreGiven (origins : List (Option ℕ)) (net : ℕ) (v : BitVector) (old new : List BitVector) : Type 0 where
  pub long : length new ≡ length old
  pub here : (f : ℕ) → f < length old → origin_at origins f ≡ net → slice_get new f ≡ Some v
  pub others : (f : ℕ) → origin_at origins f ≢ net → slice_get new f ≡ slice_get old f
