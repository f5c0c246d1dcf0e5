-- The components of the instrumented design, as they are made of those of a design that keeps what every design keeps.
use Rattle.std.proofs.Common.{◌≡◌, ◌≢◌, ℕ, suc, ◌+◌, ◌*◌, ◌<◌, Bool, true, false, inl, inr, List, [], ◌∷◌, Some, get_or, length, map, refl, sym, ap, ◌∙◌, subst}
use Rattle.std.specs.Prelude.{nat_eq, if◌then◌else◌}
use Rattle.std.proofs.Math.Logic.{∥∥₁_elim}
use denote.Struct.Props.{props}
use Rattle.std.proofs.lemmas.Bool.{eqb-true, eq-eqb}
use Rattle.std.specs.List.{slice_get}
use Rattle.std.proofs.lemmas.List.{length-map}
use Rattle.cx_text.proofs.ListLaws.{read_at}
use Rattle.cx_text.proofs.OptionLaws.{same_some}
use Rattle.cx_design.specs.declared.components.Component.{Component}
use Rattle.cx_design.specs.PlainForms.{plain_cell, plain_component, plain_parts}
use Rattle.cx_meaning.specs.declared.ports.PortRef.{PortRef}
use Rattle.cx_meaning.specs.Designs.{PlainKind, OfPrimitive, OfComponent, PlainCell, PlainComponent, PlainDesign, component_at}
use Rattle.cx_meaning.specs.Instances.{Node, cells_for}
use Rattle.cx_text.specs.Members.{In}
use Rattle.cx_rules.specs.Ports.{component_of}
use Rattle.cx_rules.specs.Wellformed.{IsDesign, IsKind}
use Rattle.cx_profiling.specs.Counters.{counters, shown_in}
use Rattle.cx_profiling.specs.FreeNames.{free_names, names_of}
use Rattle.cx_profiling.specs.Instrumented.{is_reached, moved_in, kept_component, child_component, main_component, instrumented_component}
use Rattle.cx_profiling.proofs.ReachedLemmas.{is_reached-from, child_reached}
use Rattle.cx_profiling.proofs.GainedLemmas.{gained_child}
use Rattle.cx_profile.specs.Renumbering.{dones_of, renumber, IsThereKind, AreThere}
use Rattle.cx_profile.specs.declared.renumbering.NewDone.{NewDone}
use Rattle.cx_profile.specs.Growing as growing
use Rattle.cx_profile.specs.Growing.{shown_ports}
use Rattle.cx_profile.specs.Making.{own_of, made_main, made_child}
use Rattle.cx_profile.proofs.DoneLemmas.{renumber-moved}
use Rattle.cx_profile.proofs.ShownPorts.{ShowAll}
use Rattle.cx_profile.proofs.GrowLemmas.{kept-is, child-is, main-is}

-- the components of a component's cells are there
are_there : (n : ℕ) (cells : List PlainCell) → ((cell : PlainCell) (j : ℕ) → In cells cell → cell.kind ≡ OfComponent j → j < n) → AreThere n cells
are_there n [] all = tt
are_there n (cell ∷ cells) all = (by cell.kind (λ j e. all cell j (inl refl) e), are_there n cells (λ x j i e. all x j (inr i) e))
  where
    by : (kind : PlainKind) → ((j : ℕ) → kind ≡ OfComponent j → j < n) → IsThereKind n kind
    by (OfPrimitive p) own = tt
    by (OfComponent j) own = own j refl

-- what a list of marks has at a number
pub mark_is : (marks : List Bool) (k : ℕ) (x b : Bool) → k < length marks → x ≡ get_or marks k x → slice_get marks k ≡ Some b → x ≡ b
mark_is marks k x b less is at = same_some x b (sym (read_at marks k x less is) ∙ at)

module _ (d : PlainDesign) (keeps : ∥ IsDesign d ∥₁) where
  pub cells_there : (k : ℕ) → k < length d.components → AreThere (length d.components) (component_at d k).cells
  cells_there k there = are_there (length d.components) (component_at d k).cells (λ cell j i e. ∥∥₁_elim keeps (hlevel props) (λ rules. subst (IsKind d) e ((rules.components k there).cells cell i).kind))

  pub main_reached : is_reached d d.main ≡ true
  main_reached = ∥∥₁_elim keeps (hlevel props) (λ rules. is_reached-from d rules d.main (inl refl))

  shows_all : (k : ℕ) → is_reached d k ≡ true → ShowAll d (component_at d k).cells
  shows_all k reached cell j i e = ∥∥₁_elim keeps (hlevel props) (λ rules. let child = child_reached d rules k j cell reached i e in gained_child d j child.0 child.1)

  module _ (k : ℕ) (part : PlainComponent) (dones : List NewDone) (own : part ≡ component_at d k) (are : dones ≡ dones_of d part.cells) where
    moves : renumber dones ≡ moved_in d (component_at d k)
    moves = ap renumber are ∙ ap (λ (p : PlainComponent). renumber (dones_of d p.cells)) own ∙ renumber-moved d (component_at d k)

    abbrev Tree : Type 0
    Tree = component_of d k ≡ Node (component_at d k) (cells_for (component_of d) (component_at d k).cells)

    -- MAIN
    pub main_made : Tree → k ≡ d.main → (made : PlainComponent) → made ≡ made_main d (renumber dones) part → made ≡ instrumented_component d k
    main_made tree main made is =
        is ∙ ap (λ m. made_main d m part) moves ∙ ap (made_main d (moved_in d (component_at d k))) own
        ∙ main-is d k tree (shows_all k (ap (is_reached d) main ∙ main_reached))
        ∙ ap (λ b. if b then main_component d k (free_names (names_of (component_at d k)) (suc (2 * length (counters (component_of d k)) + length (shown_in (component_of d k))))) else other) (sym (eq-eqb k d.main main))
      where
        other : PlainComponent
        other = if is_reached d k then child_component d k (free_names (names_of (component_at d k)) (2 * length (counters (component_of d k)) + length (shown_in (component_of d k)))) else kept_component d k

    not_main : k ≢ d.main → nat_eq k d.main ≡ false
    not_main other = by (nat_eq k d.main) refl
      where
        by : (b : Bool) → nat_eq k d.main ≡ b → b ≡ false
        by true e = absurd (other (eqb-true k d.main e))
        by false e = refl

    behind_main : (b c : Bool) → b ≡ false → (if b then main_component d k (free_names (names_of (component_at d k)) (suc (2 * length (counters (component_of d k)) + length (shown_in (component_of d k))))) else
        (if c then child_component d k (free_names (names_of (component_at d k)) (2 * length (counters (component_of d k)) + length (shown_in (component_of d k)))) else kept_component d k))
        ≡ (if c then child_component d k (free_names (names_of (component_at d k)) (2 * length (counters (component_of d k)) + length (shown_in (component_of d k)))) else kept_component d k)
    behind_main true c e = absurd cc
    behind_main false c e = refl

    -- A CHILD
    pub child_made : Tree → k ≢ d.main → is_reached d k ≡ true → (made : PlainComponent) → made ≡ made_child d (renumber dones) part → made ≡ instrumented_component d k
    child_made tree other reached made is =
        is ∙ ap (λ m. made_child d m part) moves ∙ ap (made_child d (moved_in d (component_at d k))) own
        ∙ child-is d k tree (shows_all k reached)
        ∙ ap (λ b. if b then child_component d k (free_names (names_of (component_at d k)) (2 * length (counters (component_of d k)) + length (shown_in (component_of d k)))) else kept_component d k) (sym reached)
        ∙ sym (behind_main (nat_eq k d.main) (is_reached d k) (not_main other))

    -- A COMPONENT WITHOUT AN INSTANCE
    pub kept_made : k ≢ d.main → is_reached d k ≡ false → (made : PlainComponent) → made ≡ growing.kept_part (renumber dones) part → made ≡ instrumented_component d k
    kept_made other reached made is =
        is ∙ ap (λ m. growing.kept_part m part) moves ∙ ap (growing.kept_part (moved_in d (component_at d k))) own
        ∙ kept-is d k
        ∙ ap (λ b. if b then child_component d k (free_names (names_of (component_at d k)) (2 * length (counters (component_of d k)) + length (shown_in (component_of d k)))) else kept_component d k) (sym reached)
        ∙ sym (behind_main (nat_eq k d.main) (is_reached d k) (not_main other))

-- of a component as it stands in a design
pub named_there : (components : List Component) (main k : ℕ) (part : Component) → ∥ IsDesign (plain_parts components main) ∥₁ → k < length components → plain_component part ≡ component_at (plain_parts components main) k
    → AreThere (length components) (map plain_cell part.cells.items)
named_there components main k part keeps less own =
    subst (λ n. AreThere n (map plain_cell part.cells.items)) (length-map components plain_component)
    (subst (λ (p : PlainComponent). AreThere (length (map plain_component components)) p.cells) (sym own)
    (cells_there (plain_parts components main) keeps k (subst (λ n. k < n) (sym (length-map components plain_component)) less)))

-- a child by what is made for it
pub child_from : (d : PlainDesign) (move : PortRef → PortRef) (part : PlainComponent) (names : List (List ℕ)) (own count : ℕ) (shown : List PortRef)
    → own ≡ own_of part → shown ≡ shown_ports d part own → count ≡ 2 * own + length shown → names ≡ free_names (names_of part) count → growing.child_part move part names own shown ≡ made_child d move part
child_from d move part names own count shown is ports wanted free =
    ap (λ ns. growing.child_part move part ns own shown) (free ∙ ap (free_names (names_of part)) wanted)
    ∙ ap (λ ps. growing.child_part move part (free_names (names_of part) (2 * own + length ps)) own ps) ports
    ∙ ap (λ n. growing.child_part move part (free_names (names_of part) (2 * n + length (shown_ports d part n))) n (shown_ports d part n)) is
