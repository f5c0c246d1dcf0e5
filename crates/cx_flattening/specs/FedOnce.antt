-- No static child is fed twice at once: the rule on races sees to it.
use Rattle.std.specs.Prelude.{◌≡◌, ℕ, suc, ◌≤◌, Bool, true, false, nat_eq, List, [], ◌∷◌}
use Rattle.cx_meaning.specs.Instances.{Instance, Node, Cells, no_cells, a_primitive, an_instance}
use Rattle.cx_flattening.specs.Deeds.{Deed, Acts, Fed, deeds_below}
use Rattle.cx_flattening.specs.Whole.{is_static}

abbrev pub one_more : Bool → ℕ → ℕ
one_more true n = suc n
one_more false n = n

-- how often a cell is fed
abbrev pub count_fed : ℕ → List Deed → ℕ
count_fed c [] = 0
count_fed c (Acts at e ∷ rest) = count_fed c rest
count_fed c (Fed [] d inputs ∷ rest) = one_more (nat_eq d c) (count_fed c rest)
count_fed c (Fed (d ∷ at) e inputs ∷ rest) = count_fed c rest

abbrev mutual
  pub FedOnce : Instance → List Deed → Type 0
  FedOnce (Node part cells) deeds = ((c : ℕ) → count_fed c deeds ≤ 1) × FedOnceBelow cells 0 deeds

  pub FedOnceBelow : Cells → ℕ → List Deed → Type 0
  FedOnceBelow no_cells c deeds = Unit {0}
  FedOnceBelow (a_primitive row rest) c deeds = FedOnceBelow rest (suc c) deeds
  FedOnceBelow (an_instance child rest) c deeds =
      (is_static child ≡ true → FedOnce child (deeds_below c deeds)) × FedOnceBelow rest (suc c) deeds
