-- What plans have, and where the nodes of ports begin.
use Rattle.std.proofs.Common.{◌≡◌, ℕ, ◌+◌, ◌<◌, inl, inr, ⊎_elim, Option, Some, None, List, [], ◌∷◌, ◌++◌, get_or, length, map, take, refl, sym, ap, ◌∙◌, subst, append_assoc}
use Rattle.std.specs.Prelude.{option_map, option_to_list, slice_get}
use Rattle.std.proofs.lemmas.List.{append-nil, map-append, take_more}
use Rattle.cx_text.proofs.MemberLaws.{in_either}
use Rattle.cx_graphs.proofs.Lists.{get_last}
use Rattle.cx_meaning.specs.declared.ports.PortRef.{PortRef}
use Rattle.cx_meaning.specs.declared.ports.PlacedPort.{PlacedPort}
use Rattle.cx_meaning.specs.Designs as plain
use Rattle.cx_meaning.specs.Designs.{PlainGuard}
use Rattle.cx_meaning.specs.Instances.{Instance}
use Rattle.cx_text.specs.Members.{In}
use Rattle.cx_design_leads.specs.Nodes.{node_of, node_count}
use Rattle.cx_design_leads.proofs.NodeLemmas.{distinct, within}
use Rattle.cx_eval_network.specs.declared.planned.PortPlan.{PortPlan}
use Rattle.cx_eval_network.specs.Networks.{Asked, nodes_of}
use Rattle.cx_eval_network.specs.Nodes.{first_node, part_at}
use Rattle.cx_eval_network.specs.Planned.{a_guard, guard_plan, guard_plans, guards_of, numbers_of}
use Rattle.cx_eval_network.specs.Plans.{IsPlanOf}

-- NUMBERS of ports
module _ (i : Instance) where
  pub numbers_of-append : (xs ys : List PortRef) → numbers_of i (xs ++ ys) ≡ numbers_of i xs ++ numbers_of i ys
  numbers_of-append [] ys = refl
  numbers_of-append (x ∷ xs) ys =
      ap (λ zs. option_to_list (node_of i x) ++ zs) (numbers_of-append xs ys) ∙ sym (append_assoc (option_to_list (node_of i x)) (numbers_of i xs) (numbers_of i ys))

  pub number_added : (old new : List ℕ) (p : PortRef) (n : ℕ) → Some n ≡ node_of i p → new ≡ old ++ n ∷ [] → new ≡ old ++ option_to_list (node_of i p)
  number_added old new p n e f = f ∙ ap (λ o. old ++ option_to_list o) e

  pub none_added : (old : List ℕ) (p : PortRef) → None ≡ node_of i p → old ≡ old ++ option_to_list (node_of i p)
  none_added old p e = sym (append-nil old) ∙ ap (λ o. old ++ option_to_list o) e

  abbrev pub placed_numbers : List PlacedPort → List ℕ
  placed_numbers ports = numbers_of i (map (λ q. q.port) ports)

  placed-more : (ports : List PlacedPort) (k : ℕ) (p : PlacedPort) → k < length ports → p ≡ get_or ports k p
      → placed_numbers (take (k + 1) ports) ≡ placed_numbers (take k ports) ++ option_to_list (node_of i p.port)
  placed-more ports k p lt is =
      ap placed_numbers (take_more ports k p lt ∙ ap (λ q. take k ports ++ q ∷ []) (sym is))
      ∙ ap (numbers_of i) (map-append (λ (q : PlacedPort). q.port) (take k ports) (p ∷ []))
      ∙ numbers_of-append (map (λ q. q.port) (take k ports)) (p.port ∷ [])
      ∙ ap (λ ns. placed_numbers (take k ports) ++ ns) (append-nil (option_to_list (node_of i p.port)))

  pub numbers_more : (old mid new : List ℕ) (ports : List PlacedPort) (k : ℕ) (p : PlacedPort) → k < length ports → p ≡ get_or ports k p
      → mid ≡ old ++ placed_numbers (take k ports) → new ≡ mid ++ option_to_list (node_of i p.port) → new ≡ old ++ placed_numbers (take (k + 1) ports)
  numbers_more old mid new ports k p lt is e f =
      f ∙ ap (λ ns. ns ++ option_to_list (node_of i p.port)) e ∙ append_assoc old (placed_numbers (take k ports)) (option_to_list (node_of i p.port))
      ∙ ap (λ ns. old ++ ns) (sym (placed-more ports k p lt is))

  -- the plans so far
  abbrev pub Planned : List PortPlan → Type 0
  Planned plans = (m : ℕ) (p : PortRef) (plan : PortPlan) → slice_get plans m ≡ Some plan → node_of i p ≡ Some m → IsPlanOf i p plan

  pub plans_more : (plans new : List PortPlan) (n : ℕ) (port : PortRef) (plan : PortPlan) → length plans ≡ n → node_of i port ≡ Some n → IsPlanOf i port plan
      → new ≡ plans ++ plan ∷ [] → Planned plans → Planned new
  plans_more plans new n port plan sized node is e before m p x f at =
      ⊎_elim
      (λ g. before m p x g at)
      (λ (b : (m ≡ length plans) × (plan ≡ x)).
      let same : p ≡ port = distinct i p port m at (node ∙ ap Some (sym sized ∙ sym b.0)) in
      subst (λ y. IsPlanOf i p y) b.1 (subst (λ q. IsPlanOf i q plan) (sym same) is))
      (get_last plans plan x m (subst (λ xs. slice_get xs m ≡ Some x) e f))

  -- numbers are below their count
  one_within : (q : PortRef) (o : Option ℕ) → node_of i q ≡ o → (m : ℕ) → In (option_to_list o) m → m < node_count i
  one_within q None e m h = absurd h
  one_within q (Some n) e m (inl same) = subst (λ k. k < node_count i) same (within i q n e)
  one_within q (Some n) e m (inr h) = absurd h

  pub numbers_within : (qs : List PortRef) (m : ℕ) → In (numbers_of i qs) m → m < node_count i
  numbers_within [] m h = absurd h
  numbers_within (q ∷ qs) m h =
      ⊎_elim (λ j. one_within q (node_of i q) refl m j) (λ j. numbers_within qs m j) (in_either (option_to_list (node_of i q)) (numbers_of i qs) m h)

  -- guards one by one
  pub guards_planned : (gs : List PlainGuard) → guards_of (map (guard_plan i) gs) ≡ guard_plans i (plain.guards_of gs)
  guards_planned [] = refl
  guards_planned (g ∷ gs) = ap (a_guard (guard_plan i g)) (guards_planned gs)

-- NODES from a first one on
pub nodes_are : (a : Asked) (n : ℕ) (qs : List PortRef) → nodes_of a n qs ≡ map (λ m. first_node a.design a.rows n + m) (numbers_of (part_at a.design a.rows n) qs)
nodes_are a n [] = refl
nodes_are a n (q ∷ qs) = choice (node_of (part_at a.design a.rows n) q) (nodes_are a n qs)
  where
    choice : (o : Option ℕ) → nodes_of a n qs ≡ map (λ m. first_node a.design a.rows n + m) (numbers_of (part_at a.design a.rows n) qs)
        → option_to_list (option_map (λ m. first_node a.design a.rows n + m) o) ++ nodes_of a n qs ≡ map (λ m. first_node a.design a.rows n + m) (option_to_list o ++ numbers_of (part_at a.design a.rows n) qs)
    choice None e = e
    choice (Some m) e = ap (λ ns. (first_node a.design a.rows n + m) ∷ ns) e
