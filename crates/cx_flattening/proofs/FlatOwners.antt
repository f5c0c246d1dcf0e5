-- OWNERS in a flat component: a hole is driven in its own group alone and not by a bare 1'd1, and an output outside groups.
use Rattle.std.proofs.Common.{◌≡◌, ◌≢◌, ℕ, ◌+◌, ◌<◌, ⊎_elim, length, map, Option, Some, None, refl, sym, ◌∙◌, subst, arith}
use Rattle.std.specs.Prelude.{flat_map}
use Rattle.std.proofs.lemmas.List.{get_or_append_left, get_or-map, length-map}
use Rattle.cx_text.proofs.MemberLaws.{image_in, in_either}
use Rattle.cx_meaning.specs.declared.ports.PortRef.{PortRef}
use Rattle.cx_meaning.specs.declared.ports.PortRef.TheVariants as ports
use Rattle.cx_meaning.specs.Designs.{PlainGuard, Always, Atom, Negation, All, Any, Compared, Within, PlainAssign, PlainGroup, PlainComponent, group_at, no_group}
use Rattle.cx_meaning.specs.Instances.{Node, Cells}
use Rattle.cx_text.specs.Members.{In}
use Rattle.cx_rules.specs.Wellformed.{StandsIn, IsAssign}
use Rattle.cx_rewrites.specs.Moving.{moved_guard, moved_assign, moved_group}
use Rattle.cx_flattening.specs.Events.{source_to}
use Rattle.cx_flattening.specs.Flattened.{Kids, kid_at, start_of, port_if, own_port, child_port, always_from, copies, flat_kids, flat_part}
use Rattle.cx_flattening.specs.Fair.{IsFair}
use Rattle.cx_flattening.proofs.PortLemmas.{InBlock, in_block}
use Rattle.cx_flattening.proofs.StillPorts.{IsCopied, all_copied}
use Rattle.cx_flattening.proofs.FlatBlocks.{IsAlways, kid_always}
use Rattle.cx_flattening.proofs.FlatKinds.{first_or_second}
use Rattle.cx_flattening.proofs.Ruled.{IsRuled}

-- what an assignment keeps of its owner
pub record KeepsOwner (owner : Option ℕ) (a : PlainAssign) : Type 0 where
  pub own_hole : (g : ℕ) → a.target ≡ ports.Done g → owner ≡ Some g
  pub no_bare_done : (g : ℕ) → a.target ≡ ports.Done g → a.guard ≡ Always → a.source.port ≢ ports.Literal 1 1
  pub output_outside : (n : ℕ) → a.target ≡ ports.Output n → owner ≡ None

always_back : (f : PortRef → PortRef) (g : PlainGuard) → moved_guard f g ≡ Always → g ≡ Always
always_back f Always e = refl
always_back f (Atom p) e = absurd (cc)
always_back f (Negation g) e = absurd (cc)
always_back f (All gs) e = absurd (cc)
always_back f (Any gs) e = absurd (cc)
always_back f (Compared c a b) e = absurd (cc)
always_back f (Within from to) e = e

module _ (kids : Kids) (part : PlainComponent) where
  -- PORTS that are no port of a cell come from themselves
  abbrev IsCell : PortRef → Type 0
  IsCell x = (c : ℕ) × (p : ℕ) × (x ≡ ports.Cell c p)

  cell_is : (k : Option PlainComponent) (c p : ℕ) → IsCell (port_if kids part k c p)
  cell_is None c p = (_, p, refl)
  cell_is (Some child) c p = (_, 1, refl)

  hole_back : (q : PortRef) (g : ℕ) → own_port kids part q ≡ ports.Done g → q ≡ ports.Done g
  hole_back (ports.Cell c p) g e = absurd (let r = cell_is (kid_at kids c) c p in let clash : ports.Done g ≡ ports.Cell r.0 r.1 = sym e ∙ r.2 in cc)
  hole_back (ports.Input n) g e = e
  hole_back (ports.Output n) g e = e
  hole_back (ports.Done h) g e = e
  hole_back (ports.Literal w v) g e = e

  output_back : (q : PortRef) (n : ℕ) → own_port kids part q ≡ ports.Output n → q ≡ ports.Output n
  output_back (ports.Cell c p) n e = absurd (let r = cell_is (kid_at kids c) c p in let clash : ports.Output n ≡ ports.Cell r.0 r.1 = sym e ∙ r.2 in cc)
  output_back (ports.Input m) n e = e
  output_back (ports.Output m) n e = e
  output_back (ports.Done h) n e = e
  output_back (ports.Literal w v) n e = e

  literal_back : (q : PortRef) (w v : ℕ) → own_port kids part q ≡ ports.Literal w v → q ≡ ports.Literal w v
  literal_back (ports.Cell c p) w v e = absurd (let r = cell_is (kid_at kids c) c p in let clash : ports.Literal w v ≡ ports.Cell r.0 r.1 = sym e ∙ r.2 in cc)
  literal_back (ports.Input m) w v e = e
  literal_back (ports.Output m) w v e = e
  literal_back (ports.Done h) w v e = e
  literal_back (ports.Literal x y) w v e = e

  -- an assignment of the component itself
  own_keeps : (owner : Option ℕ) (a : PlainAssign) → KeepsOwner owner a → KeepsOwner owner (moved_assign (own_port kids part) a)
  own_keeps owner a h = record {
    own_hole = λ g e. h.own_hole g (hole_back a.target g e);
    no_bare_done = λ g e bare one. h.no_bare_done g (hole_back a.target g e) (always_back (own_port kids part) a.guard bare) (literal_back a.source.port 1 1 one);
    output_outside = λ n e. h.output_outside n (output_back a.target n e);
  }

  -- one that drives a port of a block
  block_keeps : (owner : Option ℕ) (a : PlainAssign) (child : PlainComponent) (c : ℕ) → InBlock kids part child c a.target → KeepsOwner owner a
  block_keeps owner a child c b = record {
    own_hole = λ g e. absurd (let clash : ports.Done g ≡ ports.Cell (start_of kids part c + b.cell) b.port = sym e ∙ b.is in cc);
    no_bare_done = λ g e bare one. let clash : ports.Done g ≡ ports.Cell (start_of kids part c + b.cell) b.port = sym e ∙ b.is in cc;
    output_outside = λ n e. absurd (let clash : ports.Output n ≡ ports.Cell (start_of kids part c + b.cell) b.port = sym e ∙ b.is in cc);
  }

-- EACH ASSIGNMENT of the flat component
module _ (part : PlainComponent) (cells : Cells) (ruled : IsRuled part (Node part cells)) (fair : IsFair (Node part cells)) where
  abbrev kids : Kids
  kids = flat_kids cells

  abbrev K : PlainComponent
  K = flat_part (Node part cells)

  tree_keeps : (owner : Option ℕ) (a : PlainAssign) → StandsIn part owner a → KeepsOwner owner a
  tree_keeps owner a s =
      let is : IsAssign (Node part cells) owner a = ruled.assigns owner a s in
      record { own_hole = is.own_hole; no_bare_done = is.no_bare_done; output_outside = is.output_outside }

  always_keeps : (a : PlainAssign) → In K.always a → KeepsOwner None a
  always_keeps a i =
      ⊎_elim
      (λ j. let r = image_in (moved_assign (own_port kids part)) part.always a j in subst (KeepsOwner None) r.2 (own_keeps kids part None r.0 (tree_keeps None r.0 r.1)))
      (λ j. of_kid (kid_always kids part 0 kids a j))
      (in_either (map (moved_assign (own_port kids part)) part.always) (always_from kids part 0 kids) a i)
    where
      of_kid : IsAlways kids part 0 kids a → KeepsOwner None a
      of_kid h =
          subst (KeepsOwner None) h.is
          (block_keeps kids part None (moved_assign (child_port kids part h.child (0 + h.cell) (λ n. ports.Input n)) h.assign) h.child (0 + h.cell)
          (in_block kids part h.child (0 + h.cell) (λ n. ports.Input n) h.assign.target ((fair.targets.blocks h.cell h.child h.its).always h.assign h.among)))

  group_keeps : (g : ℕ) (a : PlainAssign) → g < length K.groups → In (group_at K g).assigns a → KeepsOwner (Some g) a
  group_keeps g a less i =
      ⊎_elim own copied (first_or_second (map (moved_group (own_port kids part)) part.groups) (flat_map (copies kids part) part.invokes) g less)
    where
      own : g < length (map (moved_group (own_port kids part)) part.groups) → KeepsOwner (Some g) a
      own l =
          let same = length-map part.groups (moved_group (own_port kids part)) in
          let there : g < length part.groups = omega (arith, l, same) in
          let is : group_at K g ≡ moved_group (own_port kids part) (group_at part g) =
          get_or_append_left (map (moved_group (own_port kids part)) part.groups) (flat_map (copies kids part) part.invokes) no_group g l ∙ get_or-map (moved_group (own_port kids part)) part.groups g no_group no_group there in
          let r = image_in (moved_assign (own_port kids part)) (group_at part g).assigns a (subst (λ (x : PlainGroup). In x.assigns a) is i) in
          subst (KeepsOwner (Some g)) r.2 (own_keeps kids part (Some g) r.0 (tree_keeps (Some g) r.0 (there, r.1)))

      copied : In (flat_map (copies kids part) part.invokes) (group_at K g) → KeepsOwner (Some g) a
      copied h =
          let c : IsCopied kids part a = all_copied kids part fair.targets part.invokes a (group_at K g) h i in
          block_keeps kids part (Some g) a c.child c.invoke.cell
          (subst (InBlock kids part c.child c.invoke.cell) (sym c.is) (in_block kids part c.child c.invoke.cell (λ n. own_port kids part (source_to c.invoke.cell c.invoke.inputs n)) c.assign.target c.target))

  pub flat_keeps_owner : (owner : Option ℕ) (a : PlainAssign) → StandsIn K owner a → KeepsOwner owner a
  flat_keeps_owner None a i = always_keeps a i
  flat_keeps_owner (Some g) a (less, i) = group_keeps g a less i
