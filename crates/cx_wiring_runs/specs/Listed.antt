-- THE RUN OF AN ISLAND BY ITS LISTS, and that what static control is lowered to keeps what runs: the parts of dynamic control stand as they
-- stood, and in place of each island is a timed statement whose lists run as the island.
use Rattle.std.specs.Prelude.{◌≡◌, ℕ, zero, suc, ◌-◌, ◌&&◌, nat_lt, nat_le, nat_eq, not, Bool, true, false, List, [], ◌∷◌, ◌++◌, Option, Some, None, slice_get, if◌then◌else◌}
use Rattle.cx_meaning.specs.declared.ports.PortRef.{PortRef}
use Rattle.cx_meaning.specs.Designs.{PlainCell, PlainForm, Empty, Enable, Seq, Par, If, While, Repeat, StaticSeq, StaticPar, StaticIf, StaticRepeat, Timed, PlainStatement, Placed, PlainStatements, no_statements, a_statement}
use Rattle.cx_meaning.specs.Instances.{Instance, part_of, State, idle}
use Rattle.cx_meaning.specs.Active.{Entry, entries, nothing}
use Rattle.cx_meaning.specs.Sights.{Held, seen}
use Rattle.cx_meaning.specs.Cycles.{Fault, cycle}
use Rattle.cx_meaning.specs.Answers.{More, Meaning, Turn, idle_turn, turn_then}
use Rattle.cx_meaning.specs.Islands.{first_unclear, group_length, island, port_if, unless_unclear}
use Rattle.cx_laws.specs.Samples.{Samples, says, with_sample}
use Rattle.cx_static.specs.declared.islands.Sample.{Sample}
use Rattle.cx_static.specs.Islands.{PlainPoint, PlainOccurrence, PlainIsland, PlainLowered}
use Rattle.cx_wiring.specs.TimerCounts.{cycles_at, counts_in}

abbrev pub is_wanted : Samples → Sample → Bool
is_wanted kept s = if s.wanted then kept s.point else not (kept s.point)

abbrev pub all_wanted : Samples → List Sample → Bool
all_wanted kept [] = true
all_wanted kept (s ∷ rest) = is_wanted kept s && all_wanted kept rest

abbrev pub is_at : ℕ → Option ℕ → Bool
is_at at None = false
is_at at (Some count) = nat_eq count at

-- what is active from one count to before another, at the offset since the first
abbrev pub entry_between : ℕ → ℕ → ℕ → Option ℕ → List Entry
entry_between group from to None = []
entry_between group from to (Some count) =
    if nat_le from count && nat_lt count to then record { group = group; offset = count - from } ∷ []
    else []

-- with the count of each timer that runs
module _ (counts : ℕ → Option ℕ) where
  -- a static if begins where its timer has its count, and the static ifs around it go to it
  abbrev pub begins : Samples → PlainPoint → Bool
  begins kept p = all_wanted kept p.samples && is_at p.at (counts p.timer)

  -- THE SAMPLES: one static if after the other takes its port where it begins
  abbrev pub sampled_from : (PortRef → Bool) → ℕ → List PlainPoint → Samples → Samples
  sampled_from now n [] kept = kept
  sampled_from now n (p ∷ rest) kept =
      sampled_from now (suc n) rest (with_sample n (if begins kept p then now p.port else kept n) kept)

  -- the ports of the static ifs that begin
  abbrev pub begun_among : Samples → List PlainPoint → List PortRef
  begun_among kept [] = []
  begun_among kept (p ∷ rest) = port_if (begins kept p) p.port (begun_among kept rest)

  -- ACTIVE: each group whose timer has a count of its range, where its samples are as wanted
  abbrev pub active_among : Samples → List PlainOccurrence → List Entry
  active_among kept [] = []
  active_among kept (o ∷ rest) =
      (if all_wanted kept o.samples then entry_between o.group o.from o.to (counts o.timer) else [])
      ++ active_among kept rest

-- an instance with such cells, and the lists of an island in it
module _ (i : Instance) (held : Held) (cells : List PlainCell) (lists : PlainIsland) where
  -- in cycle t, by the lengths of the cells of timers
  abbrev pub counts_now : ℕ → ℕ → Option ℕ
  counts_now t = counts_in (cycles_at cells) (Some t) lists.timers

  abbrev pub samples_now : ℕ → State → Samples → Samples
  samples_now t s kept = sampled_from (counts_now t) (says (seen i held nothing s)) 0 lists.points kept

  -- CYCLE t: the ports of the static ifs that begin are seen, and then the cycle is made with the groups that are active
  abbrev pub listed_turn : ℕ → Samples → State → Turn State Fault
  listed_turn t kept s =
      unless_unclear
      (first_unclear (seen i held nothing s) (begun_among (counts_now t) kept lists.points))
      (cycle i held (entries (active_among (counts_now t) kept lists.occurrences)) s)

  -- from cycle t on, with so many cycles left, and after them one idle turn
  abbrev pub listed_from : ℕ → ℕ → Samples → Meaning State Fault
  listed_from zero t kept s n = idle_turn (idle i) s n
  listed_from (suc left) t kept s zero = More
  listed_from (suc left) t kept s (suc n) =
      turn_then (idle i) s (listed_turn t (samples_now t s kept) s)
      (λ after. listed_from left (suc t) (samples_now t s kept) after n)

  -- THE RUN, whatever the samples are at first
  abbrev pub listed_island : Samples → Meaning State Fault
  listed_island kept s n = listed_from lists.length 0 kept s n

-- what the control of an instance is lowered to, with the cells and the islands of the lowered component
module _ (i : Instance) (cells : List PlainCell) (islands : List PlainIsland) where
  -- in place of an island stands one of the islands by its number, which runs as it
  pub record IslandLowers (form low : PlainForm) : Type 0 where
    pub number : ℕ
    pub lists : PlainIsland
    pub is : low ≡ Timed number
    pub listed : slice_get islands number ≡ Some lists
    pub runs : (held : Held) (kept : Samples) (s : State) (n : ℕ)
        → listed_island i held cells lists kept s n ≡ island i held form s n

  -- the enable of a group is an island where the group is static
  abbrev pub EnableLowers : ℕ → Option ℕ → PlainForm → Type 0
  EnableLowers g None low = low ≡ Enable g
  EnableLowers g (Some n) low = IslandLowers (Enable g) low

  abbrev mutual
    pub FormLowers : PlainForm → PlainForm → Type 0
    FormLowers Empty low = low ≡ Empty
    FormLowers (Enable g) low = EnableLowers g (group_length (part_of i) g) low
    FormLowers (Seq parts) low = (lows : PlainStatements) × (low ≡ Seq lows) × PartsLower parts lows
    FormLowers (Par arms) low = (lows : PlainStatements) × (low ≡ Par lows) × PartsLower arms lows
    FormLowers (If test comb a b) low =
        (x : PlainStatement) × (y : PlainStatement) × (low ≡ If test comb x y) × StatementLowers a x
        × StatementLowers b y
    FormLowers (While test comb a) low = (x : PlainStatement) × (low ≡ While test comb x) × StatementLowers a x
    FormLowers (Repeat count a) low = (x : PlainStatement) × (low ≡ Repeat count x) × StatementLowers a x
    FormLowers (StaticSeq written parts) low = IslandLowers (StaticSeq written parts) low
    FormLowers (StaticPar written arms) low = IslandLowers (StaticPar written arms) low
    FormLowers (StaticIf written test a b) low = IslandLowers (StaticIf written test a b) low
    FormLowers (StaticRepeat written count a) low = IslandLowers (StaticRepeat written count a) low
    FormLowers (Timed k) low = low ≡ Timed k

    pub StatementLowers : PlainStatement → PlainStatement → Type 0
    StatementLowers (Placed form place) low = (x : PlainForm) × (low ≡ Placed x place) × FormLowers form x

    pub PartsLower : PlainStatements → PlainStatements → Type 0
    PartsLower no_statements lows = lows ≡ no_statements
    PartsLower (a_statement s ss) lows =
        (x : PlainStatement) × (xs : PlainStatements) × (lows ≡ a_statement x xs) × StatementLowers s x
        × PartsLower ss xs

-- WHAT A COMPONENT IS LOWERED TO KEEPS WHAT RUNS in an instance of it
abbrev pub KeepsWhatRuns : Instance → PlainLowered → Type 0
KeepsWhatRuns i low = StatementLowers i low.part.cells low.islands (part_of i).control low.part.control
