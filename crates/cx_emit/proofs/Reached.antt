-- Every instance of the source is of a component or of a primitive cell of the net.
use Rattle.std.proofs.Common.{map, ◌≡◌, ℕ, zero, suc, ◌+◌, ◌<◌, List, [], ◌∷◌, ◌++◌, true, Option, Some, slice_get, refl, ap, sym, ◌∙◌, subst, arith}
use Rattle.std.specs.Option.{option_map_or}
use Rattle.cx_text.proofs.ListLaws.{at_map}
use Rattle.cx_prim.specs.Table.{PrimitiveRow}
use Rattle.cx_meaning.specs.Designs.{PlainKind, OfPrimitive, OfComponent, PlainCell}
use Rattle.cx_meaning.specs.Instances.{Path}
use Rattle.cx_vtree.specs.Plain.{PlainModule, PlainSource}
use Rattle.cx_vtree.specs.InstanceTree.{Placed}
use Rattle.cx_vtree.specs.Sound.{is_sound}
use Rattle.cx_vlaws.proofs.Holders.{IsPart, part_of}
use Rattle.cx_net.specs.Nets.{PlainNet}
use Rattle.cx_net.specs.NetTree.{net_component_at}
use Rattle.cx_emit.specs.Fits.{IsFlat}
use Rattle.cx_emit.specs.Signatures.{cell_ports}
use Rattle.cx_emit.specs.Sources.{cell_instance, source_of}
use Rattle.cx_net.specs.NetPaths.{LeadsTo}
use Rattle.cx_emit.specs.Places.{part_number, cell_number, number_at}
use Rattle.cx_emit.proofs.NumberedLemmas.{numbered_in}
use Rattle.cx_emit.proofs.Standing.{number-same, tree, own, main_placed, cell_placed, primitive_placed, placed_at}
use Rattle.cx_text.proofs.OptionLaws.{one_value}

-- one step more at the end of a path
pub number-end : (source : PlainSource) (i : ℕ) (path : Path) (c : ℕ) → number_at source i (path ++ c ∷ []) ≡ cell_number source (number_at source i path) c
number-end source i [] c = refl
number-end source i (e ∷ path) c = number-end source (cell_number source i e) path c

pub leads-end : (net : PlainNet) (k : ℕ) (path : Path) (h c : ℕ) (cell : PlainCell) (child : ℕ) → LeadsTo net k path h → slice_get (net_component_at net h).cells c ≡ Some cell → cell.kind ≡ OfComponent child
    → LeadsTo net k (path ++ c ∷ []) child
leads-end net k [] h c cell child leads there is = (cell, child, subst (λ x. slice_get (net_component_at net x).cells c ≡ Some cell) (sym leads) there, is, refl)
leads-end net k (e ∷ path) h c cell child (outer, inner, at, kind, leads) there is = (outer, inner, at, kind, leads-end net inner path h c cell child leads there is)

-- what instance i is of
pub data IsReached (net : PlainNet) (i : ℕ) : Type 0 where
  of_component : (path : Path) (h : ℕ) → LeadsTo net net.main path h → number_at (source_of net) 0 path ≡ i → IsReached net i
  of_primitive : (path : Path) (h c : ℕ) (cell : PlainCell) (p : PrimitiveRow) → LeadsTo net net.main path h → slice_get (net_component_at net h).cells c ≡ Some cell → cell.kind ≡ OfPrimitive p
      → cell_number (source_of net) (number_at (source_of net) 0 path) c ≡ i → IsReached net i

module _ (net : PlainNet) (sound : is_sound (source_of net) ≡ true) (fit : IsFlat net) where
  abbrev source : PlainSource
  source = source_of net

  abbrev the_tree : List Placed
  the_tree = tree net sound fit

  -- a part of a component's instance is at a cell
  part_reached : (i : ℕ) (p q : Placed) → slice_get the_tree p.holder ≡ Some q → (r : IsPart source sound p.holder q i p) → (path : Path) (h : ℕ) → LeadsTo net net.main path h → number_at source 0 path ≡ p.holder → IsReached net i
  part_reached i p q at r path h leads number =
      let here = placed_at net sound fit net.main 0 path h (main_placed net sound fit) leads in
      let same : here.place ≡ q = one_value (slice_get the_tree p.holder) here.place q (subst (λ j. slice_get the_tree j ≡ Some here.place) number here.at) at in
      let module_is : q.part ≡ own net sound fit h = ap (λ (x : Placed). x.part) (sym same) ∙ here.is in
      let stands : slice_get (own net sound fit h).instances r.s ≡ Some r.x = subst (λ (m : PlainModule). slice_get m.instances r.s ≡ Some r.x) module_is r.there in
      let (wired, at_cell, is_instance) = numbered_in cell_instance (map (cell_ports net) (net_component_at net h).cells) r.s r.x stands in
      let (cell, there, is_ports) = at_map (cell_ports net) (net_component_at net h).cells r.s wired at_cell in
      let numbered : cell_number source p.holder r.s ≡ i =
      ap (λ (o : Option Placed). part_number source p.holder (p.holder + 1) (option_map_or (λ x. x.part.instances) o []) r.s) at
      ∙ number-same source p.holder (p.holder + 1) q.part.instances r.s ∙ sym r.number in
      let placed : cell_number source (number_at source 0 path) r.s ≡ i = ap (λ j. cell_number source j r.s) number ∙ numbered in
      go cell there cell.kind (refl {a = cell.kind}) placed
    where
      go : (cell : PlainCell) → slice_get (net_component_at net h).cells r.s ≡ Some cell → (kind : PlainKind) → cell.kind ≡ kind → cell_number source (number_at source 0 path) r.s ≡ i → IsReached net i
      go cell there (OfPrimitive primitive) is placed = of_primitive path h r.s cell primitive leads there is placed
      go cell there (OfComponent child) is placed = of_component (path ++ r.s ∷ []) child (leads-end net net.main path h r.s cell child leads there is) (number-end source 0 path r.s ∙ placed)

  -- the module of a primitive has no parts
  no_parts : (i : ℕ) (p q : Placed) → slice_get the_tree p.holder ≡ Some q → IsPart source sound p.holder q i p → (path : Path) (h c : ℕ) (cell : PlainCell) (primitive : PrimitiveRow) → LeadsTo net net.main path h
      → slice_get (net_component_at net h).cells c ≡ Some cell → cell.kind ≡ OfPrimitive primitive → cell_number source (number_at source 0 path) c ≡ p.holder → IsReached net i
  no_parts i p q at r path h c cell primitive leads there is number =
      let here = placed_at net sound fit net.main 0 path h (main_placed net sound fit) leads in
      let cell_here = cell_placed net sound fit h (number_at source 0 path) c cell here there in
      let same : cell_here.place ≡ q = one_value (slice_get the_tree p.holder) cell_here.place q (subst (λ j. slice_get the_tree j ≡ Some cell_here.place) number cell_here.at) at in
      let parts : q.part.instances ≡ [] = ap (λ (x : Placed). x.part.instances) (sym same) ∙ ap (λ (m : PlainModule). m.instances) (primitive_placed net sound fit h (number_at source 0 path) c cell primitive here there is cell_here) in
      absurd (let wrong = sym (ap (λ xs. slice_get xs r.s) parts) ∙ r.there in cc)

  reached_below : (bound i : ℕ) (p : Placed) → i < bound → slice_get the_tree i ≡ Some p → IsReached net i
  reached_below zero i p lt e = absurd (omega arith)
  reached_below (suc bound) zero p lt e = of_component [] net.main refl refl
  reached_below (suc bound) (suc i) p lt e =
      let (q, at, r) = part_of source sound (suc i) p e (λ none. absurd (omega arith)) in
      let lower = r.lower in
      go q at r (reached_below bound p.holder q (omega arith) at)
    where
      go : (q : Placed) → slice_get the_tree p.holder ≡ Some q → IsPart source sound p.holder q (suc i) p → IsReached net p.holder → IsReached net (suc i)
      go q at r (of_component path h leads number) = part_reached (suc i) p q at r path h leads number
      go q at r (of_primitive path h c cell primitive leads there is number) = no_parts (suc i) p q at r path h c cell primitive leads there is number

  -- so is each
  pub reached : (i : ℕ) (p : Placed) → slice_get the_tree i ≡ Some p → IsReached net i
  reached i p e = reached_below (suc i) i p (omega arith) e
