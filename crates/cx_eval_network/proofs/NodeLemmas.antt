-- The nodes of instances lie one behind the other.
use Rattle.std.proofs.Common.{◌≡◌, ◌≢◌, ℕ, zero, suc, ◌+◌, ◌≤◌, ◌<◌, ⊎_elim, Option, Some, None, List, length, refl, sym, ap, ◌∙◌, subst, arith}
use Rattle.std.specs.Prelude.{option_map}
use Rattle.std.proofs.lemmas.Bool.{cases_lt}
use Rattle.cx_meaning.specs.declared.ports.PortRef.{PortRef}
use Rattle.cx_meaning.specs.declared.ports.PortRef.TheVariants as ports
use Rattle.cx_meaning.specs.Designs.{PlainDesign}
use Rattle.cx_rules.specs.Wellformed.{IsThere}
use Rattle.cx_state.specs.declared.tables.InstanceRow.{InstanceRow}
use Rattle.cx_design_leads.specs.Nodes as part
use Rattle.cx_design_leads.proofs.NodeLemmas.{within, distinct, has_node}
use Rattle.cx_eval_network.specs.Nodes.{part_at, first_node, node_count, node_at}

-- a node of an instance, by the number of its port
pub record Numbered (d : PlainDesign) (rows : List InstanceRow) (n : ℕ) (p : PortRef) (node : ℕ) : Type 0 where
  pub number : ℕ
  pub stands : part.node_of (part_at d rows n) p ≡ Some number
  pub is : first_node d rows n + number ≡ node

module _ (d : PlainDesign) (rows : List InstanceRow) where
  pub numbered : (n : ℕ) (p : PortRef) (node : ℕ) → node_at d rows n p ≡ Some node → Numbered d rows n p node
  numbered n p node e = choice (part.node_of (part_at d rows n) p) refl e
    where
      choice : (o : Option ℕ) → part.node_of (part_at d rows n) p ≡ o → option_map (λ m. first_node d rows n + m) o ≡ Some node → Numbered d rows n p node
      choice None f g = absurd (cc)
      choice (Some m) f g = record { number = m; stands = f; is = some_is g }
        where
          some_is : Some (first_node d rows n + m) ≡ Some node → first_node d rows n + m ≡ node
          some_is e = cc

  pub from_first : (n : ℕ) (p : PortRef) (node : ℕ) → node_at d rows n p ≡ Some node → first_node d rows n ≤ node
  from_first n p node e = let r = numbered n p node e in let is = r.is in omega (arith, is)

  pub to_next : (n : ℕ) (p : PortRef) (node : ℕ) → node_at d rows n p ≡ Some node → node < first_node d rows (suc n)
  to_next n p node e =
      let r = numbered n p node e in
      let is = r.is in
      let lt : r.number < part.node_count (part_at d rows n) = within (part_at d rows n) p r.number r.stands in
      omega (arith, is, lt)

  pub rises : (n k : ℕ) → n ≤ k → first_node d rows n ≤ first_node d rows k
  rises n zero h = let e : n ≡ zero = omega (arith, h) in subst (λ m. first_node d rows m ≤ first_node d rows zero) (sym e) (omega arith)
  rises n (suc k) h = ⊎_elim (λ l. let up = rises n k (omega (arith, l)) in omega (arith, up)) (λ l. let e : n ≡ suc k = omega (arith, h, l) in subst (λ m. first_node d rows m ≤ first_node d rows (suc k)) (sym e) (omega arith)) (cases_lt n (suc k))

  pub nodes_within : (n : ℕ) (p : PortRef) (node : ℕ) → n < length rows → node_at d rows n p ≡ Some node → node < node_count d rows
  nodes_within n p node h e =
      let up = rises (suc n) (length rows) (omega (arith, h)) in
      let below = to_next n p node e in
      omega (arith, up, below)

  pub nodes_later : (n k : ℕ) (p q : PortRef) (first second : ℕ) → n < k → node_at d rows n p ≡ Some first → node_at d rows k q ≡ Some second → first < second
  nodes_later n k p q first second h e f =
      let below = to_next n p first e in
      let up = rises (suc n) k (omega (arith, h)) in
      let above = from_first k q second f in
      omega (arith, below, up, above)

  same_instance : (n k : ℕ) (p q : PortRef) (node : ℕ) → node_at d rows n p ≡ Some node → node_at d rows k q ≡ Some node → n ≡ k
  same_instance n k p q node e f =
      ⊎_elim
      (λ h. let later = nodes_later n k p q node node h e f in absurd (omega (arith, later)))
      (λ h. ⊎_elim
      (λ l. let later = nodes_later k n q p node node l f e in absurd (omega (arith, later)))
      (λ l. omega (arith, h, l))
      (cases_lt k n))
      (cases_lt n k)

  same_port : (n : ℕ) (p q : PortRef) (node : ℕ) → node_at d rows n p ≡ Some node → node_at d rows n q ≡ Some node → p ≡ q
  same_port n p q node e f =
      let a = numbered n p node e in
      let b = numbered n q node f in
      let a_is = a.is in
      let b_is = b.is in
      let same : b.number ≡ a.number = omega (arith, a_is, b_is) in
      distinct (part_at d rows n) p q a.number a.stands (b.stands ∙ ap Some same)

  pub nodes_apart : (n k : ℕ) (p q : PortRef) (node : ℕ) → node_at d rows n p ≡ Some node → node_at d rows k q ≡ Some node → (n ≡ k) × (p ≡ q)
  nodes_apart n k p q node e f =
      let same = same_instance n k p q node e f in
      (same, same_port n p q node e (ap (λ m. node_at d rows m q) same ∙ f))

  pub ports_have : (n : ℕ) (p : PortRef) → IsThere (part_at d rows n) p → ((w v : ℕ) → p ≢ ports.Literal w v) → (node : ℕ) × (node_at d rows n p ≡ Some node)
  ports_have n p there literal =
      let r = has_node (part_at d rows n) p there literal in
      (first_node d rows n + r.0, ap (option_map (λ m. first_node d rows n + m)) r.1)
