-- WHAT ALL LEAVES OF CONTROL of a shared instance ask for: no circle, idle turns, single ports, and conditions, which are carried.
use Rattle.std.proofs.Common.{◌≡◌, ℕ, inr, Bool, true, false, Option, Some, None, refl, sym, ap, ◌∙◌}
use Rattle.std.specs.Prelude.{nat_eq}
use Rattle.std.proofs.lemmas.Bool.{eqb-true, eq-eqb}
use Rattle.cx_text.specs.Members.{In}
use Rattle.cx_text.proofs.BoolLaws.{or_left}
use Rattle.cx_meaning.specs.declared.ports.PortRef.{PortRef}
use Rattle.cx_meaning.specs.declared.ports.PortRef.TheVariants as ports
use Rattle.cx_meaning.specs.declared.ports.PlacedPort.{PlacedPort}
use Rattle.cx_meaning.specs.Instances.{Instance, part_of, State, idle}
use Rattle.cx_meaning.specs.Active.{nothing, group, comb}
use Rattle.cx_meaning.specs.Answers.{Answer, End, Fault, More, Meaning}
use Rattle.cx_meaning.specs.Control.{targets_cell}
use Rattle.cx_meaning.specs.Calls.{test}
use Rattle.cx_meaning.specs.Sights.{Held, is_done_cell}
use Rattle.cx_meaning.proofs.InstancesLemmas.{just_same}
use Rattle.cx_rules.specs.Circles.{IsAcyclic}
use Rattle.cx_rules.specs.Items.{Visited, statements_in}
use Rattle.cx_rewrites.specs.Renaming.{renamed}
use Rattle.cx_rewrites.specs.Tallies.{Tally, Counted}
use Rattle.cx_rewrites.specs.Carrying.{Exact, Rests, Carried, Carries, TestCarried}
use Rattle.cx_rewrites.specs.Turns.{IsSeenAlike}
use Rattle.cx_rewrites.proofs.TurnLemmas.{test_carried}
use Rattle.cx_sharing.specs.Uses.{test_uses, is_candidate}
use Rattle.cx_sharing.specs.Meeting.{has_both, form_meets}
use Rattle.cx_sharing.specs.Giving.{new_cell}
use Rattle.cx_sharing.specs.Following.{SharedStands, shared_fault}
use Rattle.cx_sharing.proofs.UsedLemmas.{Inside}
use Rattle.cx_sharing.proofs.MeetLemmas.{port_covers, port_meets, test_covers, test_meets}
use Rattle.cx_sharing.proofs.TwinLemmas.{IsTwin, own_number}
use Rattle.cx_sharing.proofs.TwinStates.{idle_state, told_here}
use Rattle.cx_sharing.proofs.SharedSights.{seen_there}

-- where states are related whatever was counted, it does not matter what is counted
pub recount : {F G : Type 0} (Q : State → State → Type 0) (faults : F → G) (counts more : Counted State) (old : Meaning State F) (other : Meaning State G)
    → Carries Exact (λ counted. Q) faults counts old other → Carries Exact (λ counted. Q) faults more old other
recount {F} {G} Q faults counts more old other carries before s z n m room r = by (old s n) (carries before s z n m room r)
  where
    by : (o : Answer State F) → Carried Exact (λ counted. Q) faults before (counts s n) o (other z m) → Carried Exact (λ counted. Q) faults before (more s n) o (other z m)
    by (End a t) h = h
    by (Fault f t) h = h
    by More h = h

-- WHAT AN ACCEPTED DESIGN GIVES an instance: nothing leads in a circle, whatever is active
pub record IsFit (i : Instance) : Type 0 where
  pub bare : IsAcyclic i nothing
  pub groups : (g : ℕ) → IsAcyclic i (group g)

module _ (i j : Instance) (twin : IsTwin i j) (fit : IsFit i) (held : Held) where
  abbrev new : ℕ → ℕ
  new = new_cell (part_of i)

  abbrev R : Tally → State → State → Type 0
  R counted = SharedStands i

  pub rests : Rests R (idle i) (idle j)
  rests before s z stands = idle_state i j twin s z stands

  -- any port, under the continuous assignments alone
  port_inside : (p : PortRef) → Inside (part_of i) (λ c. targets_cell p c ≡ true) p
  port_inside (ports.Cell c n) = inr (just_same c)
  port_inside (ports.Input n) = tt
  port_inside (ports.Output n) = tt
  port_inside (ports.Done g) = tt
  port_inside (ports.Literal w v) = tt

  pub bare_seen : (p : PortRef) → IsSeenAlike R i j held held nothing nothing p (renamed new p)
  bare_seen p before s z stands =
      seen_there i j twin nothing nothing (λ g. refl) (λ c. targets_cell p c ≡ true) (port_covers (part_of i) p) (port_meets (part_of i) p) held s z stands (λ c. refl) fit.bare p (port_inside p)

  -- A CONDITION, with its comb group
  test_inside : (p : PlacedPort) (o : Option ℕ) (q : PortRef) → p.port ≡ q → Inside (part_of i) (λ c. test_uses (part_of i) p o c ≡ true) q
  test_inside p o (ports.Cell c n) e = inr (or_left (targets_cell p.port c) _ (ap (λ x. targets_cell x c) e ∙ just_same c))
  test_inside p o (ports.Input n) e = tt
  test_inside p o (ports.Output n) e = tt
  test_inside p o (ports.Done g) e = tt
  test_inside p o (ports.Literal w v) e = tt

  comb_acyclic : (o : Option ℕ) → IsAcyclic i (comb o)
  comb_acyclic None = fit.bare
  comb_acyclic (Some g) = fit.groups g

  comb_done : (o : Option ℕ) (c : ℕ) → is_done_cell (comb o).done_cell c ≡ is_done_cell (comb o).done_cell (new c)
  comb_done None c = refl
  comb_done (Some g) c = refl

  pub test_shared : (v : Visited) (p : PlacedPort) (o : Option ℕ) → In (statements_in (part_of i)) v → ((x y : ℕ) → form_meets (part_of i) v.form x y ≡ has_both (test_uses (part_of i) p o) x y)
      → (before : Tally) (s z : State) → R before s z → TestCarried Exact (shared_fault i) (test i held p.port o s) (test j held (renamed new p.port) o z)
  test_shared v p o stands is before s z r =
      test_carried Exact R (shared_fault i) i j held held p.port (renamed new p.port) o o
      (λ before2 s2 z2 stands2. seen_there i j twin (comb o) (comb o) (λ g. refl) (λ c. test_uses (part_of i) p o c ≡ true) (test_covers (part_of i) p o) (test_meets (part_of i) v p o stands is) held s2 z2 stands2
      (comb_done o) (comb_acyclic o) p.port (test_inside p o p.port refl))
      (λ kind. told_here i kind p.port) before s z r

  -- a cell that is no candidate has a number of its own
  pub own_same : (c e : ℕ) → is_candidate (part_of i) c ≡ false → nat_eq c e ≡ nat_eq (new c) (new e)
  own_same c e other = by (nat_eq c e) refl (nat_eq (new c) (new e)) refl
    where
      by : (x : Bool) → nat_eq c e ≡ x → (y : Bool) → nat_eq (new c) (new e) ≡ y → x ≡ y
      by true f true g = refl
      by false f false g = refl
      by true f false g = sym (eq-eqb (new c) (new e) (ap new (eqb-true c e f))) ∙ g
      by false f true g = sym f ∙ eq-eqb c e (own_number (part_of i) c e other (eqb-true (new c) (new e) g))
