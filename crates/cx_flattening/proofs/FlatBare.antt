-- NO CONTINUOUS ASSIGNMENT OF A FLAT INSTANCE ENABLES ANYTHING, where none of the tree does.
use Rattle.std.proofs.Common.{◌≡◌, ℕ, zero, suc, ◌+◌, ◌<◌, ⊎_elim, Bool, true, false, length, Some, None, refl, sym, ap, ◌∙◌, subst, arith}
use Rattle.cx_text.proofs.MemberLaws.{image_in, in_either}
use Rattle.cx_meaning.specs.declared.ports.PortRef.{PortRef}
use Rattle.cx_meaning.specs.declared.ports.PortRef.TheVariants as ports
use Rattle.cx_meaning.specs.Designs.{PlainAssign, PlainComponent}
use Rattle.cx_meaning.specs.Instances.{Instance, Node, Cells, no_cells, a_primitive, an_instance, At, Nothing, OfRow, OfInstance, part_of, cells_of, cell_at}
use Rattle.cx_meaning.specs.Active.{Owned, source_order}
use Rattle.cx_text.specs.Members.{In}
use Rattle.cx_rules.specs.Ports.{is_primitive_enable}
use Rattle.cx_meaning.specs.Calls.{enables_at}
use Rattle.std.specs.Prelude.{map}
use Rattle.cx_rewrites.specs.Moving.{moved_assign}
use Rattle.cx_flattening.specs.Whole.{is_static}
use Rattle.cx_flattening.specs.Flattened.{Kids, kid_at, kept_at, start_of, wire_at, own_port, child_port, always_from, flat_part, flat_kids}
use Rattle.cx_flattening.specs.Targets.{OwnTarget, BlockTarget}
use Rattle.cx_flattening.specs.Embedded.{HasWires, IsEmbedded, AreEmbedded, IsFlattened}
use Rattle.cx_flattening.specs.Sampling.{placed}
use Rattle.cx_flattening.specs.Fair.{AllFair, AllFairBelow}
use Rattle.cx_flattening.proofs.PortLemmas.{own-kept}
use Rattle.cx_flattening.proofs.Standing.{TwinAt, embedded_row, embedded_static, embedded_dynamic, wire_there}
use Rattle.cx_flattening.proofs.LevelSights.{kid-static, flat-outputs}
use Rattle.cx_flattening.proofs.RestingPorts.{OfOne, owner_of}
use Rattle.cx_flattening.proofs.FlatBlocks.{IsAlways, kid_always}
use Rattle.cx_flattening.proofs.FlatSafe.{kid_from}
use Rattle.cx_flattening.proofs.FlatTests.{placed_zero}
use Rattle.cx_flattening.proofs.Ruled.{IsRuled, AllRuled, AllRuledBelow}

-- an enabling port of a primitive cell of a host
abbrev enables_in : Cells → PortRef → Bool
enables_in host (ports.Cell c p) = enables_at (cell_at host c) p
enables_in host (ports.Input n) = false
enables_in host (ports.Output n) = false
enables_in host (ports.Done g) = false
enables_in host (ports.Literal w v) = false

enables_is : (i : Instance) (q : PortRef) → is_primitive_enable i q ≡ enables_in (cells_of i) q
enables_is i (ports.Cell c p) = refl
enables_is i (ports.Input n) = refl
enables_is i (ports.Output n) = refl
enables_is i (ports.Done g) = refl
enables_is i (ports.Literal w v) = refl

module _ (host : Cells) where
  abbrev BareAt : Instance → ℕ → Type 0
  BareAt i first = (a : PlainAssign) → In (flat_part i).always a → enables_in host (placed first a.target) ≡ false

  module _ (part : PlainComponent) (cells : Cells) (ruled : IsRuled part (Node part cells)) (fair : AllFair (Node part cells)) (first : ℕ) (embedded : IsEmbedded (Node part cells) first host) where
    abbrev kids : Kids
    kids = flat_kids cells

    zero_plus : (a : ℕ) → 0 + a ≡ a
    zero_plus a = omega arith

    kept_bare : (c p : ℕ) → c < length part.cells → kid_at kids c ≡ None → is_primitive_enable (Node part cells) (ports.Cell c p) ≡ false → enables_at (cell_at host (first + kept_at kids c)) p ≡ false
    kept_bare c p less none bare = by (cell_at cells c) refl
      where
        by : (x : At) → cell_at cells c ≡ x → enables_at (cell_at host (first + kept_at kids c)) p ≡ false
        by Nothing at = absurd (fair.0.counts c less at)
        by (OfRow row) at =
            ap (λ k. enables_at (cell_at host (first + kept_at kids k)) p) (sym (zero_plus c)) ∙ ap (λ x. enables_at x p) (embedded_row kids part first host cells 0 c row embedded at)
            ∙ ap (λ x. enables_at x p) (sym at) ∙ bare
        by (OfInstance child) at = of_child (is_static child) refl
          where
            of_child : (b : Bool) → is_static child ≡ b → enables_at (cell_at host (first + kept_at kids c)) p ≡ false
            of_child true static = absurd (let not_kept : None ≡ Some (flat_part child) = sym none ∙ kid-static cells c child at static in cc)
            of_child false dynamic =
                let r = subst (TwinAt kids part first host child) (zero_plus c) (embedded_dynamic kids part first host cells 0 c child embedded at dynamic) in
                ap (λ x. enables_at x p) r.1

    own_bare : (q : PortRef) → OwnTarget kids part q → is_primitive_enable (Node part cells) q ≡ false → enables_in host (placed first (own_port kids part q)) ≡ false
    own_bare (ports.Cell c p) own bare = ap (λ x. enables_in host (placed first x)) (own-kept kids part c p own.1) ∙ kept_bare c p own.0 own.1 bare
    own_bare (ports.Input n) own bare = absurd own
    own_bare (ports.Output n) own bare = refl
    own_bare (ports.Done g) own bare = refl
    own_bare (ports.Literal w v) own bare = absurd own

    -- a port of a block
    block_bare : (c : ℕ) (child : Instance) → cell_at cells c ≡ OfInstance child → is_static child ≡ true → (q : PortRef) → BlockTarget (flat_part child) q
        → enables_in host (placed (first + start_of kids part c) q) ≡ false → enables_in host (placed first (child_port kids part (flat_part child) c (λ n. ports.Input n) q)) ≡ false
    block_bare c child at static (ports.Cell e p) target bare = ap (λ k. enables_at (cell_at host k) p) (let z : first + (start_of kids part c + e) ≡ first + start_of kids part c + e = omega arith in z) ∙ bare
    block_bare c child at static (ports.Input n) target bare = refl
    block_bare c child at static (ports.Output n) target bare =
        let stood = subst (λ k. IsEmbedded child (first + start_of kids part k) host × HasWires (part_of child).outputs (first + wire_at kids part (flat_part child) k 0) host) (zero_plus c)
        (embedded_static kids part first host cells 0 c child embedded at static) in
        let w = wire_there (part_of child).outputs (first + wire_at kids part (flat_part child) c 0) n host stood.1 (subst (λ l. n < length l) (flat-outputs child) target) in
        ap (λ k. enables_at (cell_at host k) 0) (let z : first + wire_at kids part (flat_part child) c n ≡ first + wire_at kids part (flat_part child) c 0 + n = omega arith in z) ∙ ap (λ x. enables_at x 0) w.1
    block_bare c child at static (ports.Done g) target bare = absurd target
    block_bare c child at static (ports.Literal w v) target bare = absurd target

    part_bare : ((c : ℕ) (child : Instance) → cell_at cells c ≡ OfInstance child → is_static child ≡ true → BareAt child (first + start_of kids part c)) → BareAt (Node part cells) first
    part_bare below a i =
        ⊎_elim
        (λ j. let r = image_in (moved_assign (own_port kids part)) part.always a j in
        subst (λ (x : PlainAssign). enables_in host (placed first x.target) ≡ false) r.2 (own_bare r.0.target (fair.0.targets.always r.0 r.1) (ruled.bare r.0 r.1)))
        (λ j. of_kid (kid_always kids part 0 kids a j))
        (in_either (map (moved_assign (own_port kids part)) part.always) (always_from kids part 0 kids) a i)
      where
        of_kid : IsAlways kids part 0 kids a → enables_in host (placed first a.target) ≡ false
        of_kid h =
            let k = kid_from cells h.cell h.child h.its in
            let among : In (flat_part k.0).always h.assign = subst (λ (x : PlainComponent). In x.always h.assign) (sym k.3) h.among in
            let target : BlockTarget (flat_part k.0) h.assign.target = subst (λ x. BlockTarget x h.assign.target) (sym k.3) ((fair.0.targets.blocks h.cell h.child h.its).always h.assign h.among) in
            subst (λ (x : PlainAssign). enables_in host (placed first x.target) ≡ false) h.is
            (subst (λ c. enables_in host (placed first (child_port kids part h.child c (λ n. ports.Input n) h.assign.target)) ≡ false) (sym (zero_plus h.cell))
            (subst (λ x. enables_in host (placed first (child_port kids part x h.cell (λ n. ports.Input n) h.assign.target)) ≡ false) k.3
            (block_bare h.cell k.0 k.1 k.2 h.assign.target target (below h.cell k.0 k.1 k.2 h.assign among))))

  mutual
    bare_at : (i : Instance) → AllRuled i → AllFair i → (first : ℕ) → IsEmbedded i first host → BareAt i first
    bare_at (Node part cells) ruled fair first embedded =
        part_bare part cells ruled.0 fair first embedded
        (λ c child at static.
        subst (λ k. BareAt child (first + start_of (flat_kids cells) part k)) (zero_plus part cells ruled.0 fair first embedded c)
        (bare_below cells part cells 0 ruled.1 fair.1 first embedded c child at static))

    bare_below : (rest : Cells) (part : PlainComponent) (cells : Cells) (c : ℕ) → AllRuledBelow rest → AllFairBelow rest → (first : ℕ) → AreEmbedded (flat_kids cells) part rest c first host
        → (n : ℕ) (child : Instance) → cell_at rest n ≡ OfInstance child → is_static child ≡ true → BareAt child (first + start_of (flat_kids cells) part (c + n))
    bare_below no_cells part cells c ruled fair first embedded n child at static = absurd (cc)
    bare_below (a_primitive row rest) part cells c ruled fair first embedded zero child at static = absurd (cc)
    bare_below (a_primitive row rest) part cells c ruled fair first embedded (suc n) child at static =
        subst (λ k. BareAt child (first + start_of (flat_kids cells) part k)) (plus c n) (bare_below rest part cells (suc c) ruled fair first embedded.1 n child at static)
      where
        plus : (a b : ℕ) → suc a + b ≡ a + suc b
        plus a b = omega arith
    bare_below (an_instance other rest) part cells c ruled fair first embedded zero child at static =
        subst (λ k. BareAt child (first + start_of (flat_kids cells) part k)) (sym (zero_added c))
        (subst (λ x. BareAt x (first + start_of (flat_kids cells) part c)) same
        (bare_at other ruled.0 fair.0 (first + start_of (flat_kids cells) part c) (embedded.0 (ap is_static same ∙ static)).0))
      where
        zero_added : (a : ℕ) → a + 0 ≡ a
        zero_added a = omega arith

        same : other ≡ child
        same = cc
    bare_below (an_instance other rest) part cells c ruled fair first embedded (suc n) child at static =
        subst (λ k. BareAt child (first + start_of (flat_kids cells) part k)) (plus c n) (bare_below rest part cells (suc c) ruled.1 fair.1 first embedded.2 n child at static)
      where
        plus : (a b : ℕ) → suc a + b ≡ a + suc b
        plus a b = omega arith

-- NOTHING CONTINUOUS ENABLES in the flat instance
pub flat_bare : (i flat : Instance) → IsFlattened i flat → AllRuled i → AllFair i → (o : Owned) → In (source_order (part_of flat)) o → o.owner ≡ None → is_primitive_enable flat o.assign.target ≡ false
flat_bare i flat flattened ruled fair o among none =
    ⊎_elim
    (λ h. enables_is flat o.assign.target ∙ ap (enables_in (cells_of flat)) (sym (placed_zero o.assign.target))
    ∙ bare_at (cells_of flat) i ruled fair 0 flattened.1 o.assign (subst (λ l. In l o.assign) flattened.0.always h.1))
    (λ (h : OfOne (part_of flat) o). absurd (let clash : None ≡ Some h.number = sym none ∙ h.owner in cc))
    (owner_of (part_of flat) o among)
