-- Each port that is there has a node of its own.
use Rattle.std.proofs.Common.{◌≡◌, ◌≢◌, ℕ, zero, suc, ◌+◌, ◌≤◌, ◌<◌, ⊎_elim, Bool, true, false, Some, None, List, length, nat_lt, refl, sym, ap, ◌∙◌, subst, arith}
use Rattle.std.specs.Prelude.{if◌then◌else◌}
use Rattle.std.proofs.lemmas.Bool.{cases_lt}
use Rattle.cx_meaning.specs.declared.ports.PortRef.{PortRef}
use Rattle.cx_meaning.specs.declared.ports.PortRef.TheVariants as ports
use Rattle.cx_meaning.specs.Designs.{PlainDesign, component_at}
use Rattle.cx_meaning.specs.Instances.{Instance, Cells, no_cells, a_primitive, an_instance, Nothing, cell_at, cells_of, part_of, tree_within, cell_count}
use Rattle.cx_rules.specs.Ports.{component_of}
use Rattle.cx_design.specs.declared.components.Component.{Component}
use Rattle.cx_design.specs.PlainForms.{plain_component, plain_parts}
use Rattle.std.proofs.lemmas.List.{length-map}
use Rattle.cx_rules.specs.Wellformed.{port_count, IsThere}
use Rattle.cx_design_leads.specs.Nodes.{ports_before, first_input, first_output, first_done, node_count, below, node_of}
use Rattle.cx_text.proofs.OptionLaws.{some_is}
use Rattle.cx_text.proofs.NumberLaws.{lt_true as true_lt, true_lt as lt_true}
use Rattle.cx_rules.proofs.PortsLemmas.{part_is as component_part}
use Rattle.cx_design_parts.proofs.ReadLemmas.{component_cells}

-- below
pub record IsBelow (count first n m : ℕ) : Type 0 where
  pub lt : n < count
  pub is : m ≡ first + n

pub is_below : (count first n m : ℕ) → below count first n ≡ Some m → IsBelow count first n m
is_below count first n m e = choice (nat_lt n count) refl e
  where
    choice : (b : Bool) → nat_lt n count ≡ b → (if b then Some (first + n) else None) ≡ Some m → IsBelow count first n m
    choice true f g = record { lt = lt_true n count f; is = sym (some_is (first + n) m g) }
    choice false f g = absurd (cc)

pub below_is : (count first n : ℕ) → n < count → below count first n ≡ Some (first + n)
below_is count first n h = ap (λ b. if b then Some (first + n) else None) (true_lt n count h)

pub below_none : (first n : ℕ) → below 0 first n ≡ None
below_none first n = choice (nat_lt n 0) refl
  where
    choice : (b : Bool) → nat_lt n 0 ≡ b → (if b then Some (first + n) else None) ≡ None
    choice true f = absurd (omega (arith, lt_true n 0 f))
    choice false f = refl

-- CELLS
pub beyond : (cells : Cells) (c : ℕ) → cell_count cells ≤ c → cell_at cells c ≡ Nothing
beyond no_cells c h = refl
beyond (a_primitive row rest) zero h = absurd (omega (arith, h))
beyond (a_primitive row rest) (suc c) h = beyond rest c (omega (arith, h))
beyond (an_instance child rest) zero h = absurd (omega (arith, h))
beyond (an_instance child rest) (suc c) h = beyond rest c (omega (arith, h))

rises : (cells : Cells) (c more : ℕ) → ports_before cells c ≤ ports_before cells (c + more)
rises cells c zero = let e : c + 0 ≡ c = omega arith in subst (λ k. ports_before cells c ≤ ports_before cells k) (sym e) (omega arith)
rises cells c (suc more) =
    let e : c + suc more ≡ suc (c + more) = omega arith in
    let rest = rises cells c more in
    subst (λ k. ports_before cells c ≤ ports_before cells k) (sym e) (omega (arith, rest))

steps_up : (cells : Cells) (c d : ℕ) → c < d → ports_before cells c + port_count (cell_at cells c) ≤ ports_before cells d
steps_up cells c d h = choice d h
  where
    choice : (d : ℕ) → c < d → ports_before cells (suc c) ≤ ports_before cells d
    choice d h =
        let k = gap (suc c) d (omega (arith, h)) in
        subst (λ e. ports_before cells (suc c) ≤ ports_before cells e) k.1 (rises cells (suc c) k.0)
      where
        gap : (a b : ℕ) → a ≤ b → (k : ℕ) × (a + k ≡ b)
        gap zero b h = (b, omega arith)
        gap (suc a) zero h = absurd (omega (arith, h))
        gap (suc a) (suc b) h = let r = gap a b (omega (arith, h)) in (r.0, let e = r.1 in omega (arith, e))

module _ (i : Instance) where
  pub cell_there : (c p m : ℕ) → node_of i (ports.Cell c p) ≡ Some m → c < cell_count (cells_of i)
  cell_there c p m e =
      ⊎_elim (λ h. h)
      (λ h. let b = is_below (port_count (cell_at (cells_of i) c)) (ports_before (cells_of i) c) p m e in
      let none : p < 0 = subst (λ at. p < port_count at) (beyond (cells_of i) c h) b.lt in absurd (omega (arith, none)))
      (cases_lt c (cell_count (cells_of i)))

  cell_node : (c p m : ℕ) → node_of i (ports.Cell c p) ≡ Some m → m < first_input i
  cell_node c p m e =
      let b = is_below (port_count (cell_at (cells_of i) c)) (ports_before (cells_of i) c) p m e in
      let up = steps_up (cells_of i) c (cell_count (cells_of i)) (cell_there c p m e) in
      omega (arith, b.lt, b.is, up)

  -- the ports of a kind have nodes of their own
  same_cell : (c p d q m : ℕ) → node_of i (ports.Cell c p) ≡ Some m → node_of i (ports.Cell d q) ≡ Some m → c ≡ d
  same_cell c p d q m e f =
      let a = is_below (port_count (cell_at (cells_of i) c)) (ports_before (cells_of i) c) p m e in
      let b = is_below (port_count (cell_at (cells_of i) d)) (ports_before (cells_of i) d) q m f in
      ⊎_elim
      (λ h. let up = steps_up (cells_of i) c d h in absurd (omega (arith, a.lt, a.is, b.is, up)))
      (λ h. ⊎_elim
      (λ k. let up = steps_up (cells_of i) d c k in absurd (omega (arith, b.lt, b.is, a.is, up)))
      (λ k. omega (arith, h, k))
      (cases_lt d c))
      (cases_lt c d)

  pub within : (p : PortRef) (m : ℕ) → node_of i p ≡ Some m → m < node_count i
  within (ports.Cell c p) m e = let h = cell_node c p m e in omega (arith, h)
  within (ports.Input n) m e = let b = is_below _ (first_input i) n m e in omega (arith, b.lt, b.is)
  within (ports.Output n) m e = let b = is_below _ (first_output i) n m e in omega (arith, b.lt, b.is)
  within (ports.Done g) m e = let b = is_below _ (first_done i) g m e in omega (arith, b.lt, b.is)
  within (ports.Literal w v) m e = absurd (cc)

  pub distinct : (p q : PortRef) (m : ℕ) → node_of i p ≡ Some m → node_of i q ≡ Some m → p ≡ q
  distinct (ports.Cell c p) (ports.Cell d q) m e f =
      let same = same_cell c p d q m e f in
      let a = is_below (port_count (cell_at (cells_of i) c)) (ports_before (cells_of i) c) p m e in
      let b = is_below (port_count (cell_at (cells_of i) d)) (ports_before (cells_of i) d) q m f in
      let start = ap (ports_before (cells_of i)) same in
      let port : p ≡ q = omega (arith, a.is, b.is, start) in
      ap (λ k. ports.Cell k p) same ∙ ap (ports.Cell d) port
  distinct (ports.Cell c p) (ports.Input n) m e f = let h = cell_node c p m e in let b = is_below _ (first_input i) n m f in absurd (omega (arith, h, b.lt, b.is))
  distinct (ports.Cell c p) (ports.Output n) m e f = let h = cell_node c p m e in let b = is_below _ (first_output i) n m f in absurd (omega (arith, h, b.lt, b.is))
  distinct (ports.Cell c p) (ports.Done g) m e f = let h = cell_node c p m e in let b = is_below _ (first_done i) g m f in absurd (omega (arith, h, b.lt, b.is))
  distinct (ports.Input k) (ports.Cell c p) m e f = let h = cell_node c p m f in let b = is_below _ (first_input i) k m e in absurd (omega (arith, h, b.lt, b.is))
  distinct (ports.Input k) (ports.Input n) m e f =
      let a = is_below _ (first_input i) k m e in let b = is_below _ (first_input i) n m f in let same : k ≡ n = omega (arith, a.is, b.is) in ap ports.Input same
  distinct (ports.Input k) (ports.Output n) m e f = let a = is_below _ (first_input i) k m e in let b = is_below _ (first_output i) n m f in absurd (omega (arith, a.lt, a.is, b.is))
  distinct (ports.Input k) (ports.Done g) m e f = let a = is_below _ (first_input i) k m e in let b = is_below _ (first_done i) g m f in absurd (omega (arith, a.lt, a.is, b.is))
  distinct (ports.Output k) (ports.Cell c p) m e f = let h = cell_node c p m f in let b = is_below _ (first_output i) k m e in absurd (omega (arith, h, b.lt, b.is))
  distinct (ports.Output k) (ports.Input n) m e f = let a = is_below _ (first_output i) k m e in let b = is_below _ (first_input i) n m f in absurd (omega (arith, b.lt, a.is, b.is))
  distinct (ports.Output k) (ports.Output n) m e f =
      let a = is_below _ (first_output i) k m e in let b = is_below _ (first_output i) n m f in let same : k ≡ n = omega (arith, a.is, b.is) in ap ports.Output same
  distinct (ports.Output k) (ports.Done g) m e f = let a = is_below _ (first_output i) k m e in let b = is_below _ (first_done i) g m f in absurd (omega (arith, a.lt, a.is, b.is))
  distinct (ports.Done k) (ports.Cell c p) m e f = let h = cell_node c p m f in let b = is_below _ (first_done i) k m e in absurd (omega (arith, h, b.lt, b.is))
  distinct (ports.Done k) (ports.Input n) m e f = let a = is_below _ (first_done i) k m e in let b = is_below _ (first_input i) n m f in absurd (omega (arith, b.lt, a.is, b.is))
  distinct (ports.Done k) (ports.Output n) m e f = let a = is_below _ (first_done i) k m e in let b = is_below _ (first_output i) n m f in absurd (omega (arith, b.lt, a.is, b.is))
  distinct (ports.Done k) (ports.Done g) m e f =
      let a = is_below _ (first_done i) k m e in let b = is_below _ (first_done i) g m f in let same : k ≡ g = omega (arith, a.is, b.is) in ap ports.Done same
  distinct (ports.Literal w v) q m e f = absurd (cc)
  distinct p (ports.Literal w v) m e f = absurd (cc)

  pub has_node : (p : PortRef) → IsThere i p → ((w v : ℕ) → p ≢ ports.Literal w v) → (m : ℕ) × (node_of i p ≡ Some m)
  has_node (ports.Cell c p) there d = (ports_before (cells_of i) c + p, below_is (port_count (cell_at (cells_of i) c)) (ports_before (cells_of i) c) p there.1)
  has_node (ports.Input n) there d = (first_input i + n, below_is (length (part_of i).inputs) (first_input i) n there)
  has_node (ports.Output n) there d = (first_output i + n, below_is (length (part_of i).outputs) (first_output i) n there)
  has_node (ports.Done g) there d = (first_done i + g, below_is (length (part_of i).groups) (first_done i) g there)
  has_node (ports.Literal w v) there d = absurd (d w v refl)

pub cells_of_part : (components : List Component) (main k : ℕ) (part : Component) → k < length components → plain_component part ≡ component_at (plain_parts components main) k
    → length part.cells.items ≡ cell_count (cells_of (component_of (plain_parts components main) k))
cells_of_part components main k part h e =
    sym (length-map part.cells.items _) ∙ ap (λ p. length p.cells) e
    ∙ sym (component_cells (plain_parts components main) k (subst (λ n. k < n) (sym (length-map components _)) h))

-- what is found of a part of a component
pub part_is : (components : List Component) (main k : ℕ) (part : Component) → plain_component part ≡ component_at (plain_parts components main) k
    → plain_component part ≡ part_of (component_of (plain_parts components main) k)
part_is components main k part e = e ∙ sym (component_part (plain_parts components main) k)
