-- What is done in one cycle of an island, by the samples taken so far: the groups that act, and the cells of static
-- components that are fed.
use Rattle.std.specs.Prelude.{ℕ, ◌-◌, Bool, true, false, ◌&&◌, nat_lt, nat_le, nat_eq, List, [], ◌∷◌, Option, Some, None, if◌then◌else◌}
use Rattle.cx_meaning.specs.Designs.{PlainAssign}
use Rattle.cx_meaning.specs.Instances.{Path}
use Rattle.cx_meaning.specs.Truths.{truth_of}
use Rattle.cx_meaning.specs.Active.{Entry}
use Rattle.cx_meaning.specs.Sights.{Look, Held, unheld}
use Rattle.cx_meaning.specs.Cycles.{Fault}
use Rattle.cx_meaning.specs.Islands.{is_wanted, is_one, fault_of}
use Rattle.cx_flattening.specs.Events.{Spot, Sample, Event, Runs, Feeds, Looks, source_to}

-- SAMPLES: whether a port was 1 in a cycle of the island
abbrev pub History : Type 0
History = Spot → ℕ → Bool

abbrev pub no_history : History
no_history port at = false

abbrev pub hold : History → List Sample → Bool
hold h [] = true
hold h (x ∷ rest) = is_wanted x.wanted (h x.spot x.cycle) && hold h rest

-- what is done in one cycle
pub data Deed : Type 0 where
  Acts : (at : Path) (entry : Entry) → Deed
  Fed : (at : Path) (cell : ℕ) (inputs : List PlainAssign) → Deed

abbrev pub deed_if : Bool → Deed → List Deed → List Deed
deed_if true deed rest = deed ∷ rest
deed_if false deed rest = rest

abbrev pub is_now : History → ℕ → ℕ → ℕ → List Sample → Bool
is_now h t from to conditions = nat_le from t && nat_lt t to && hold h conditions

abbrev pub deeds_in : History → ℕ → List Event → List Deed
deeds_in h t [] = []
deeds_in h t (Runs at g from to conditions ∷ rest) =
    deed_if (is_now h t from to conditions) (Acts at (record { group = g; offset = t - from }))
    (deeds_in h t rest)
deeds_in h t (Feeds at c inputs from to conditions ∷ rest) =
    deed_if (is_now h t from to conditions) (Fed at c inputs) (deeds_in h t rest)
deeds_in h t (Looks x at conditions ∷ rest) = deeds_in h t rest

abbrev pub spot_if : Bool → Spot → List Spot → List Spot
spot_if true x rest = x ∷ rest
spot_if false x rest = rest

abbrev pub looked_in : History → ℕ → List Event → List Spot
looked_in h t [] = []
looked_in h t (Runs at g from to conditions ∷ rest) = looked_in h t rest
looked_in h t (Feeds at c inputs from to conditions ∷ rest) = looked_in h t rest
looked_in h t (Looks x at conditions ∷ rest) = spot_if (nat_eq t at && hold h conditions) x (looked_in h t rest)

-- the groups of the instance itself
abbrev pub own_entries : List Deed → List Entry
own_entries [] = []
own_entries (Acts [] e ∷ rest) = e ∷ own_entries rest
own_entries (Acts (c ∷ at) e ∷ rest) = own_entries rest
own_entries (Fed at c inputs ∷ rest) = own_entries rest

-- what is done below cell c
abbrev pub deeds_below : ℕ → List Deed → List Deed
deeds_below c [] = []
deeds_below c (Acts [] e ∷ rest) = deeds_below c rest
deeds_below c (Acts (d ∷ at) e ∷ rest) = deed_if (nat_eq d c) (Acts at e) (deeds_below c rest)
deeds_below c (Fed [] d inputs ∷ rest) = deeds_below c rest
deeds_below c (Fed (d ∷ at) e inputs ∷ rest) = deed_if (nat_eq d c) (Fed at e inputs) (deeds_below c rest)

-- what the inputs of the child at cell c are held as: each as its source is seen in this cycle; nothing where the child does not run
abbrev pub held_if : Bool → Held → Held → Held
held_if true a b n = a n
held_if false a b n = b n

abbrev pub held_below : Look → ℕ → List Deed → Held
held_below look c [] n = unheld n
held_below look c (Acts at e ∷ rest) n = held_below look c rest n
held_below look c (Fed [] d inputs ∷ rest) n =
    held_if (nat_eq d c) (λ m. look (source_to c inputs m)) (held_below look c rest) n
held_below look c (Fed (d ∷ at) e inputs ∷ rest) n = held_below look c rest n

-- the samples taken before, and those of cycle t by what is seen now
abbrev pub and_now : History → ℕ → (Path → Look) → History
and_now h t look x at = if nat_eq t at then is_one (truth_of (look x.at x.port)) else h x at

abbrev pub fault_in : Path → Option Fault → Option Fault
fault_in at None = None
fault_in at (Some f) = Some (record { kind = f.kind; path = at; port = f.port })

abbrev pub or_later : Option Fault → Option Fault → Option Fault
or_later None later = later
or_later (Some f) later = Some f

-- the first of the ports that is no value
abbrev pub first_unclear : (Path → Look) → List Spot → Option Fault
first_unclear look [] = None
first_unclear look (x ∷ rest) =
    or_later (fault_in x.at (fault_of x.port (look x.at x.port) None)) (first_unclear look rest)
