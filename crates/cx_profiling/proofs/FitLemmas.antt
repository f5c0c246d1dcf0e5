-- Assignments and statements that fit a component of a design: old ones, moved, and new ones.
use Rattle.std.proofs.Common.{◌≡◌, ◌≢◌, ℕ, ◌<◌, false, inl, inr, length, Option, Some, None, refl, sym, ap, ◌∙◌, subst}
use Rattle.cx_text.proofs.MemberLaws.{image_in}
use Rattle.cx_text.proofs.OptionLaws.{map_some}
use Rattle.cx_text.specs.declared.places.Place.{Place}
use Rattle.cx_meaning.specs.declared.ports.PortRef.{PortRef}
use Rattle.cx_meaning.specs.declared.ports.PortRef.TheVariants as ports
use Rattle.cx_meaning.specs.declared.ports.PlacedPort.{PlacedPort}
use Rattle.cx_meaning.specs.Designs.{PlainGuard, Always, Atom, Negation, All, Any, Compared, Within, PlainAssign, PlainComponent, PlainDesign, component_at}
use Rattle.cx_text.specs.Members.{In}
use Rattle.cx_rules.specs.Items.{sources_of, Visited, test_in}
use Rattle.cx_rules.specs.ShapeRules.{is_hole}
use Rattle.cx_rules.specs.Ports.{component_of}
use Rattle.cx_rules.proofs.PortsLemmas.{part_is}
use Rattle.cx_rules.specs.Wellformed.{IsAssign, IsForm, IsStatement, IsDesign}
use Rattle.cx_rewrites.specs.Moving.{moved_port, moved_guard, moved_assign, moved_form}
use Rattle.cx_rewrites.proofs.MovedLists.{sources_of-moved, moved_visited, test_in-moved}
use Rattle.cx_profiling.specs.Instrumented.{drive, moved_in, with_counts}
use Rattle.cx_profiling.proofs.ThereLemmas.{Names, is_there, from_there}
use Rattle.cx_profiling.proofs.GainedLemmas.{IsGrown, moved_names}

-- an assignment that fits a component, by what the component names
pub record FitsAssign (d : PlainDesign) (part : PlainComponent) (owner : Option ℕ) (a : PlainAssign) : Type 0 where
  pub target : Names d part a.target
  pub no_literal : (w v : ℕ) → a.target ≢ ports.Literal w v
  pub own_hole : (g : ℕ) → a.target ≡ ports.Done g → owner ≡ Some g
  pub no_bare_done : (g : ℕ) → a.target ≡ ports.Done g → a.guard ≡ Always → a.source.port ≢ ports.Literal 1 1
  pub output_outside : (n : ℕ) → a.target ≡ ports.Output n → owner ≡ None
  pub sources : (p : PlacedPort) → In (sources_of a) p → Names d part p.port
  pub no_hole : (p : PlacedPort) → In (sources_of a) p → is_hole p.port ≡ false

module _ (d : PlainDesign) (some : 0 < length d.components) (k : ℕ) where
  pub fits_assign : (owner : Option ℕ) (a : PlainAssign) → IsAssign (component_of d k) owner a → FitsAssign d (component_at d k) owner a
  fits_assign owner a h = record {
    target = from_there d some k a.target h.target;
    no_literal = h.no_literal;
    own_hole = h.own_hole;
    no_bare_done = h.no_bare_done;
    output_outside = h.output_outside;
    sources = λ p i. from_there d some k p.port (h.sources p i);
    no_hole = h.no_hole;
  }

  pub is_assign : (owner : Option ℕ) (a : PlainAssign) → FitsAssign d (component_at d k) owner a → IsAssign (component_of d k) owner a
  is_assign owner a h = record {
    target = is_there d some k a.target h.target;
    no_literal = h.no_literal;
    own_hole = h.own_hole;
    no_bare_done = h.no_bare_done;
    output_outside = h.output_outside;
    sources = λ p i. is_there d some k p.port (h.sources p i);
    no_hole = h.no_hole;
  }

-- a statement that fits
pub record FitsStatement (d : PlainDesign) (part : PlainComponent) (v : Visited) : Type 0 where
  pub form : IsForm part v.form
  pub test : (p : PlacedPort) → test_in v.form ≡ Some p → Names d part p.port
  pub no_hole : (p : PlacedPort) → test_in v.form ≡ Some p → is_hole p.port ≡ false

module _ (d : PlainDesign) (some : 0 < length d.components) (k : ℕ) where
  pub fits_statement : (v : Visited) → IsStatement (component_of d k) v → FitsStatement d (component_at d k) v
  fits_statement v h = record { form = subst (λ part. IsForm part v.form) (part_is d k) h.form; test = λ p e. from_there d some k p.port (h.test p e); no_hole = h.no_hole }

  pub is_statement : (v : Visited) → FitsStatement d (component_at d k) v → IsStatement (component_of d k) v
  is_statement v h = record { form = subst (λ part. IsForm part v.form) (sym (part_is d k)) h.form; test = λ p e. is_there d some k p.port (h.test p e); no_hole = h.no_hole }

-- a moved port is of the same sort
module _ (d : PlainDesign) (part : PlainComponent) where
  pub moved_literal : (p : PortRef) (w v : ℕ) → moved_in d part p ≡ ports.Literal w v → p ≡ ports.Literal w v
  moved_literal (ports.Cell c p) w v e = absurd cc
  moved_literal (ports.Input n) w v e = e
  moved_literal (ports.Output n) w v e = e
  moved_literal (ports.Done g) w v e = e
  moved_literal (ports.Literal x u) w v e = e

  moved_done : (p : PortRef) (g : ℕ) → moved_in d part p ≡ ports.Done g → p ≡ ports.Done g
  moved_done (ports.Cell c p) g e = absurd cc
  moved_done (ports.Input n) g e = e
  moved_done (ports.Output n) g e = e
  moved_done (ports.Done h) g e = e
  moved_done (ports.Literal x u) g e = e

  moved_output : (p : PortRef) (n : ℕ) → moved_in d part p ≡ ports.Output n → p ≡ ports.Output n
  moved_output (ports.Cell c p) n e = absurd cc
  moved_output (ports.Input m) n e = e
  moved_output (ports.Output m) n e = e
  moved_output (ports.Done h) n e = e
  moved_output (ports.Literal x u) n e = e

  pub moved_hole : (p : PortRef) → is_hole (moved_in d part p) ≡ is_hole p
  moved_hole (ports.Cell c p) = refl
  moved_hole (ports.Input m) = refl
  moved_hole (ports.Output m) = refl
  moved_hole (ports.Done h) = refl
  moved_hole (ports.Literal x u) = refl

  moved_always : (g : PlainGuard) → moved_guard (moved_in d part) g ≡ Always → g ≡ Always
  moved_always Always e = refl
  moved_always (Atom p) e = absurd cc
  moved_always (Negation g) e = absurd cc
  moved_always (All gs) e = absurd cc
  moved_always (Any gs) e = absurd cc
  moved_always (Compared c a b) e = absurd cc
  moved_always (Within from to) e = absurd cc

-- OLD ONES, moved, fit what their component grew into
module _ (d : PlainDesign) (rules : IsDesign d) (k : ℕ) (there : k < length d.components) (new : PlainComponent) (grown : IsGrown d k new) where
  abbrev part : PlainComponent
  part = component_at d k

  abbrev move : PortRef → PortRef
  move = moved_in d part

  pub moved_fits : (owner : Option ℕ) (a : PlainAssign) → FitsAssign d part owner a → FitsAssign (with_counts d) new owner (moved_assign move a)
  moved_fits owner a h = record {
    target = moved_names d rules k there new grown a.target h.target;
    no_literal = λ w v e. h.no_literal w v (moved_literal d part a.target w v e);
    own_hole = λ g e. h.own_hole g (moved_done d part a.target g e);
    no_bare_done = λ g e f x. h.no_bare_done g (moved_done d part a.target g e) (moved_always d part a.guard f) (moved_literal d part a.source.port 1 1 x);
    output_outside = λ n e. h.output_outside n (moved_output d part a.target n e);
    sources = λ p i. by p (source p i);
    no_hole = λ p i. bare p (source p i);
  }
    where
      source : (p : PlacedPort) → In (sources_of (moved_assign move a)) p → (q : PlacedPort) × In (sources_of a) q × (moved_port move q ≡ p)
      source p i = image_in (moved_port move) (sources_of a) p (subst (λ ps. In ps p) (sources_of-moved move a) i)

      by : (p : PlacedPort) → (q : PlacedPort) × In (sources_of a) q × (moved_port move q ≡ p) → Names (with_counts d) new p.port
      by p (q, i, e) = subst (λ x. Names (with_counts d) new x.port) e (moved_names d rules k there new grown q.port (h.sources q i))

      bare : (p : PlacedPort) → (q : PlacedPort) × In (sources_of a) q × (moved_port move q ≡ p) → is_hole p.port ≡ false
      bare p (q, i, e) = subst (λ x. is_hole x.port ≡ false) e (moved_hole d part q.port ∙ h.no_hole q i)

  pub moved_statement_fits : (v : Visited) → FitsStatement d part v → IsForm new (moved_form move v.form) → FitsStatement (with_counts d) new (moved_visited move v)
  moved_statement_fits v h form = record { form = form; test = λ p e. by p (tested p e); no_hole = λ p e. bare p (tested p e) }
    where
      tested : (p : PlacedPort) → test_in (moved_form move v.form) ≡ Some p → (q : PlacedPort) × (test_in v.form ≡ Some q) × (moved_port move q ≡ p)
      tested p e = map_some (moved_port move) (test_in v.form) p (sym (test_in-moved move v.form) ∙ e)

      by : (p : PlacedPort) → (q : PlacedPort) × (test_in v.form ≡ Some q) × (moved_port move q ≡ p) → Names (with_counts d) new p.port
      by p (q, i, e) = subst (λ x. Names (with_counts d) new x.port) e (moved_names d rules k there new grown q.port (h.test q i))

      bare : (p : PlacedPort) → (q : PlacedPort) × (test_in v.form ≡ Some q) × (moved_port move q ≡ p) → is_hole p.port ≡ false
      bare p (q, i, e) = subst (λ x. is_hole x.port ≡ false) e (moved_hole d part q.port ∙ h.no_hole q i)

-- NEW ONES: at one place, without a guard
module _ (d : PlainDesign) (part : PlainComponent) where
  one_source : (place : Place) (target source : PortRef) → Names d part source → (p : PlacedPort) → In (sources_of (drive place target source)) p → Names d part p.port
  one_source place target source names p (inl e) = subst (λ x. Names d part x.port) e names
  one_source place target source names p (inr i) = absurd i

  one_bare : (place : Place) (target source : PortRef) → is_hole source ≡ false → (p : PlacedPort) → In (sources_of (drive place target source)) p → is_hole p.port ≡ false
  one_bare place target source bare p (inl e) = subst (λ x. is_hole x.port ≡ false) e bare
  one_bare place target source bare p (inr i) = absurd i

  -- of a cell
  pub cell_driven : (owner : Option ℕ) (place : Place) (c p : ℕ) (source : PortRef) → Names d part (ports.Cell c p) → Names d part source → is_hole source ≡ false → FitsAssign d part owner (drive place (ports.Cell c p) source)
  cell_driven owner place c p source target names bare = record {
    target = target;
    no_literal = λ w v e. cell_literal c p w v e;
    own_hole = λ g e. absurd (cell_done c p g e);
    no_bare_done = λ g e f x. cell_done c p g e;
    output_outside = λ n e. absurd (cell_output c p n e);
    sources = one_source place (ports.Cell c p) source names;
    no_hole = one_bare place (ports.Cell c p) source bare;
  }
    where
      cell_literal : (c p w v : ℕ) → ports.Cell c p ≡ ports.Literal w v → ⊥
      cell_literal c p w v e = absurd cc

      cell_done : (c p g : ℕ) → ports.Cell c p ≡ ports.Done g → ⊥
      cell_done c p g e = absurd cc

      cell_output : (c p n : ℕ) → ports.Cell c p ≡ ports.Output n → ⊥
      cell_output c p n e = absurd cc

  -- of an output, continuously
  pub output_driven : (place : Place) (n : ℕ) (source : PortRef) → Names d part (ports.Output n) → Names d part source → is_hole source ≡ false → FitsAssign d part None (drive place (ports.Output n) source)
  output_driven place n source target names bare = record {
    target = target;
    no_literal = λ w v e. output_literal n w v e;
    own_hole = λ g e. absurd (output_done n g e);
    no_bare_done = λ g e f x. output_done n g e;
    output_outside = λ m e. refl;
    sources = one_source place (ports.Output n) source names;
    no_hole = one_bare place (ports.Output n) source bare;
  }
    where
      output_literal : (n w v : ℕ) → ports.Output n ≡ ports.Literal w v → ⊥
      output_literal n w v e = absurd cc

      output_done : (n g : ℕ) → ports.Output n ≡ ports.Done g → ⊥
      output_done n g e = absurd cc

  -- of a done, by a port of a cell, in its own group
  pub done_driven : (place : Place) (g c p : ℕ) → Names d part (ports.Done g) → Names d part (ports.Cell c p) → FitsAssign d part (Some g) (drive place (ports.Done g) (ports.Cell c p))
  done_driven place g c p target names = record {
    target = target;
    no_literal = λ w v e. done_literal g w v e;
    own_hole = λ h e. ap (λ n. Some n) (same_done g h e);
    no_bare_done = λ h e f x. cell_literal c p x;
    output_outside = λ n e. absurd (done_output g n e);
    sources = one_source place (ports.Done g) (ports.Cell c p) names;
    no_hole = one_bare place (ports.Done g) (ports.Cell c p) refl;
  }
    where
      done_literal : (g w v : ℕ) → ports.Done g ≡ ports.Literal w v → ⊥
      done_literal g w v e = absurd cc

      same_done : (g h : ℕ) → ports.Done g ≡ ports.Done h → g ≡ h
      same_done g h e = ap number e
        where
          number : PortRef → ℕ
          number (ports.Cell c p) = 0
          number (ports.Input n) = 0
          number (ports.Output n) = 0
          number (ports.Done m) = m
          number (ports.Literal w v) = 0

      cell_literal : (c p : ℕ) → ports.Cell c p ≡ ports.Literal 1 1 → ⊥
      cell_literal c p e = absurd cc

      done_output : (g n : ℕ) → ports.Done g ≡ ports.Output n → ⊥
      done_output g n e = absurd cc
