-- A way from node to node stays in an instance, or goes to a later one.
use Rattle.std.proofs.Common.{◌≡◌, ℕ, ◌<◌, inl, inr, ◌⊎◌, ⊎_elim, List, ◌∙◌, subst, arith}
use Rattle.cx_rules.specs.Footprints.{Depends, at_once, by_way_of}
use Rattle.cx_eval_network.specs.Demands.{Way, IsGrounded}
use Rattle.cx_eval_network.specs.Demands as ways
use Rattle.cx_eval_network.specs.Ports.{PortNodes, AreAcyclic, LeadsWithin, LeadOn}

-- in one instance a way is a dependence
record DependsWithin (nodes : PortNodes) (n m : ℕ) : Type 0 where
  same : nodes.number m ≡ nodes.number n
  depends : Depends (nodes.instance (nodes.number n)) (nodes.active (nodes.number n)) (nodes.port n) (nodes.port m)

module _ (nodes : PortNodes) (leads : ℕ → List ℕ) (on : LeadOn nodes leads) where
  one_step : (n m : ℕ) → LeadsWithin nodes n m ⊎ (nodes.number n < nodes.number m) → DependsWithin nodes n m ⊎ (nodes.number n < nodes.number m)
  one_step n m (inl l) = inl (record { same = l.same; depends = at_once l.leads })
  one_step n m (inr lt) = inr lt

  then_on : (n k m : ℕ) → LeadsWithin nodes n k ⊎ (nodes.number n < nodes.number k) → DependsWithin nodes k m ⊎ (nodes.number k < nodes.number m) → DependsWithin nodes n m ⊎ (nodes.number n < nodes.number m)
  then_on n k m (inl l) (inl d) =
      inl (record {
        same = d.same ∙ l.same;
        depends =
            by_way_of (nodes.port k) l.leads
            (subst (λ j. Depends (nodes.instance j) (nodes.active j) (nodes.port k) (nodes.port m)) l.same d.depends);
      })
  then_on n k m (inl l) (inr lt) = inr (let same = l.same in omega (arith, same, lt))
  then_on n k m (inr lt) (inl d) = inr (let same = d.same in omega (arith, same, lt))
  then_on n k m (inr lt) (inr more) = inr (omega (arith, lt, more))

  on_the_way : (n m : ℕ) → Way leads n m → DependsWithin nodes n m ⊎ (nodes.number n < nodes.number m)
  on_the_way n m (ways.at_once i) = one_step n m (on n m i)
  on_the_way n m (ways.by_way_of k i w) = then_on n k m (on n k i) (on_the_way k m w)

  pub grounded : AreAcyclic nodes → IsGrounded leads
  grounded acyclic n w =
      ⊎_elim
      (λ (d : DependsWithin nodes n n). acyclic (nodes.number n) (nodes.port n, d.depends))
      (λ (lt : nodes.number n < nodes.number n). omega (arith, lt))
      (on_the_way n n w)
