-- What the machines of leaves owe, so that the machine of a statement does what the statement means.
use Rattle.std.specs.Prelude.{◌≡◌, ℕ, ◌⊎◌, Bool, true, false, ◌||◌, List, [], ◌∷◌, Option, if◌then◌else◌}
use Rattle.cx_text.specs.declared.places.Place.{Place}
use Rattle.cx_meaning.specs.declared.ports.PlacedPort.{PlacedPort}
use Rattle.cx_meaning.specs.Designs.{PlainForm, Enable, Seq, Par, If, While, Repeat, StaticSeq, StaticPar, StaticIf, StaticRepeat, Timed, PlainStatement, Placed, PlainStatements, list_of}
use Rattle.cx_text.specs.Members.{In}
use Rattle.cx_meaning.specs.Control.{Leaves, run}
use Rattle.cx_lockstep.specs.Worlds.{Store, World, Agree}
use Rattle.cx_lockstep.specs.Doing.{Does, KeepsRest}
use Rattle.cx_lockstep.specs.Statements.{LeafMachines, machine_of}

-- a statement of a dynamic statement
pub data IsPart : PlainStatement → PlainStatement → Type 0 where
  of_seq : {s : PlainStatement} {parts : PlainStatements} {place : Place} → In (list_of parts) s
      → IsPart s (Placed (Seq parts) place)
  of_par : {s : PlainStatement} {arms : PlainStatements} {place : Place} → In (list_of arms) s
      → IsPart s (Placed (Par arms) place)
  then_branch : {test : PlacedPort} {comb : Option ℕ} {a b : PlainStatement} {place : Place}
      → IsPart a (Placed (If test comb a b) place)
  else_branch : {test : PlacedPort} {comb : Option ℕ} {a b : PlainStatement} {place : Place}
      → IsPart b (Placed (If test comb a b) place)
  of_while : {test : PlacedPort} {comb : Option ℕ} {a : PlainStatement} {place : Place}
      → IsPart a (Placed (While test comb a) place)
  of_repeat : {count : ℕ} {a : PlainStatement} {place : Place} → IsPart a (Placed (Repeat count a) place)

-- the leaves of control: the enable of a group, and a static statement
pub data IsLeaf : PlainForm → Type 0 where
  enable : (g : ℕ) → IsLeaf (Enable g)
  static_seq : (length : Option ℕ) (parts : PlainStatements) → IsLeaf (StaticSeq length parts)
  static_par : (length : Option ℕ) (arms : PlainStatements) → IsLeaf (StaticPar length arms)
  static_if : (length : Option ℕ) (test : PlacedPort) (a b : PlainStatement) → IsLeaf (StaticIf length test a b)
  static_repeat : (length : Option ℕ) (count : ℕ) (a : PlainStatement) → IsLeaf (StaticRepeat length count a)

module _ {X : Type 0} (drives : PlainStatement → X → Bool) (reads : PlainStatement → X → Type 0) where
  abbrev pub any_drives : List PlainStatement → X → Bool
  any_drives [] x = false
  any_drives (s ∷ ss) x = drives s x || any_drives ss x

  abbrev pub AnyReads : List PlainStatement → X → Type 0
  AnyReads [] x = ⊥
  AnyReads (s ∷ ss) x = reads s x ⊎ AnyReads ss x

  -- neither drives what the other reads
  pub record Apart (s t : PlainStatement) : Type 0 where
    pub first : (x : X) → drives s x ≡ true → reads t x → ⊥
    pub second : (x : X) → drives t x ≡ true → reads s x → ⊥

  abbrev pub AreApart : List PlainStatement → Type 0
  AreApart [] = Unit {0}
  AreApart (s ∷ ss) = ((t : PlainStatement) → In ss t → Apart s t) × AreApart ss

-- Stands: the statements of which this is said, with each its parts
pub record AreLawful {X : Type 0} {V : X → Type 0} {E S F : Type 0} (W : World X V E S)
    (Rests : (x : X) → V x → Type 0) (L : E → Leaves S F) (P : LeafMachines X V F)
    (drives : PlainStatement → X → Bool) (reads : PlainStatement → X → Type 0)
    (Stands : PlainStatement → Type 0) : Type 1 where
  pub parts_stand : (s whole : PlainStatement) → IsPart s whole → Stands whole → Stands s
  pub is_untimed : (k : ℕ) (place : Place) → Stands (Placed (Timed k) place) → ⊥
  pub arms_apart : (arms : PlainStatements) (place : Place) → Stands (Placed (Par arms) place)
      → AreApart drives reads (list_of arms)
  pub sees : (s : PlainStatement) → Stands s → (x : X) → drives s x ≡ true → reads s x
  pub part_drives : (s whole : PlainStatement) → IsPart s whole → (x : X) → drives s x ≡ true → drives whole x ≡ true
  pub part_reads : (s whole : PlainStatement) → IsPart s whole → (x : X) → reads s x → reads whole x
  pub keeps_rest : KeepsRest W Rests (λ e. Leaves.rest (L e))
  -- the spots that an arm drives from one state, and the others from another
  pub merges : (e : E) (arm : PlainStatement) (s t : S) (x : X)
      → W.shown e (Leaves.merged (L e) (Leaves.driven (L e) arm) s t) x ≡
      (if drives arm x then W.shown e s x else W.shown e t x)
  -- a test hangs on what its statement reads alone, and is what the meaning's says
  pub if_tests : (test : PlacedPort) (comb : Option ℕ) (a b : PlainStatement) (place : Place)
      → Stands (Placed (If test comb a b) place)
      → (e : E) (s : S) (w : Store X V) → Agree (reads (Placed (If test comb a b) place)) w (W.shown e s)
      → P.test test.port comb w ≡ Leaves.test (L e) test.port comb s
  pub while_tests : (test : PlacedPort) (comb : Option ℕ) (a : PlainStatement) (place : Place)
      → Stands (Placed (While test comb a) place)
      → (e : E) (s : S) (w : Store X V) → Agree (reads (Placed (While test comb a) place)) w (W.shown e s)
      → P.test test.port comb w ≡ Leaves.test (L e) test.port comb s
  pub leaf_does : (form : PlainForm) (place : Place) → IsLeaf form → Stands (Placed form place)
      → Does W Rests (machine_of P (Placed form place)) (drives (Placed form place))
      (reads (Placed form place)) (λ e. run (L e) (Placed form place))
