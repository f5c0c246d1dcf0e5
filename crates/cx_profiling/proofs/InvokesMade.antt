-- WHAT STANDS AT A STATIC INVOKE of an instrumented component: the invoke of the component, with moved inputs; so cells, lengths and the
-- groups that capture are those of the component.
use Rattle.std.proofs.Common.{◌≡◌, ℕ, ◌<◌, inl, inr, ⊎_elim, true, ◌||◌, List, [], ◌∷◌, ◌++◌, length, map, Option, Some, None, option_map, refl, sym, ap, ap₂, ◌∙◌, subst, arith}
use Rattle.std.specs.Prelude.{flat_map}
use Rattle.std.specs.List.{slice_get}
use Rattle.std.proofs.lemmas.Bool.{eqb-true, or_cases}
use Rattle.std.proofs.lemmas.List.{map-append}
use Rattle.cx_text.proofs.MemberLaws.{flat_in, in_at}
use Rattle.cx_text.proofs.OptionLaws.{map_some}
use Rattle.cx_meaning.specs.declared.ports.PortRef.{PortRef}
use Rattle.cx_meaning.specs.declared.ports.PlacedPort.{PlacedPort}
use Rattle.cx_meaning.specs.Designs.{PlainAssign, PlainForm, PlainStatement, PlainInvoke, PlainComponent, PlainDesign, component_at, group_at}
use Rattle.cx_text.specs.Members.{In}
use Rattle.cx_rules.specs.Invokes.{invoke_at, invoke_length, form_lasts, lasts, invokes_of, capture_of, captures_of, is_cell_of, invokes_cell}
use Rattle.cx_rules.specs.Items.{operands_of, option_list, sources_of}
use Rattle.cx_rules.specs.Ports.{component_of}
use Rattle.cx_rules.specs.Spots.{binds_in}
use Rattle.cx_rules.specs.StaticControl.{is_written, is_timed}
use Rattle.cx_rules.specs.Wellformed.{IsBind, IsCapturing, IsDesign, IsInvoke}
use Rattle.cx_rules.proofs.PortsLemmas.{part_is}
use Rattle.cx_rewrites.specs.Moving.{moved_assign, moved_form, moved_statement}
use Rattle.cx_rewrites.proofs.MovedInvokes as moved
use Rattle.cx_profiling.specs.Instrumented.{moved_in, moved_invoke, with_counts}
use Rattle.cx_profiling.proofs.InvokesKept.{get_mapped, keeps_at}
use Rattle.cx_profiling.proofs.PartTable.{length_kept}
use Rattle.cx_profiling.proofs.ThereLemmas.{Names, from_there}

module _ (d : PlainDesign) (design : IsDesign d) (k : ℕ) (within : k < length d.components) where
  abbrev part : PlainComponent
  part = component_at d k

  abbrev other : PlainComponent
  other = component_at (with_counts d) k

  abbrev mv : PortRef → PortRef
  mv p = moved_in d part p

  invokes_are : other.invokes ≡ map (moved_invoke d part) part.invokes
  invokes_are = (keeps_at d k within).invokes

  invoke_moved : (n : ℕ) → invoke_at other n ≡ option_map (moved_invoke d part) (invoke_at part n)
  invoke_moved n = ap (λ vs. slice_get vs n) invokes_are ∙ get_mapped (moved_invoke d part) part.invokes n

  -- an invoke of it is one of the component, with moved inputs
  pub invoke_back : (n : ℕ) (w : PlainInvoke) → invoke_at other n ≡ Some w → (v : PlainInvoke) × (invoke_at part n ≡ Some v) × (moved_invoke d part v ≡ w)
  invoke_back n w e = map_some (moved_invoke d part) (invoke_at part n) w (sym (invoke_moved n) ∙ e)

  -- what is read of an invoke but its inputs is the same
  reads_same : {A : Type 0} (read : Option PlainInvoke → A) → ((o : Option PlainInvoke) → read (option_map (moved_invoke d part) o) ≡ read o) → (n : ℕ) → read (invoke_at other n) ≡ read (invoke_at part n)
  reads_same read same n = ap read (invoke_moved n) ∙ same (invoke_at part n)

  pub words_kept : (n : ℕ) → (is_written (slice_get other.invokes n) ≡ is_written (slice_get part.invokes n)) × (is_timed (slice_get other.invokes n) ≡ is_timed (slice_get part.invokes n))
  words_kept n = (reads_same is_written written n, reads_same is_timed timed n)
    where
      written : (o : Option PlainInvoke) → is_written (option_map (moved_invoke d part) o) ≡ is_written o
      written None = refl
      written (Some v) = refl

      timed : (o : Option PlainInvoke) → is_timed (option_map (moved_invoke d part) o) ≡ is_timed o
      timed None = refl
      timed (Some v) = refl

  -- LENGTHS
  invoke_lasts : (n : ℕ) → invoke_length (invoke_at other n) ≡ invoke_length (invoke_at part n)
  invoke_lasts = reads_same invoke_length one
    where
      one : (o : Option PlainInvoke) → invoke_length (option_map (moved_invoke d part) o) ≡ invoke_length o
      one None = refl
      one (Some v) = refl

  pub form_lasts-moved : (form : PlainForm) → form_lasts other (moved_form mv form) ≡ form_lasts part form
  form_lasts-moved = moved.form_lasts-moved mv part other (length_kept d design k within) invoke_lasts

  pub lasts-moved : (s : PlainStatement) → lasts other (moved_statement mv s) ≡ lasts part s
  lasts-moved = moved.lasts-moved mv part other (length_kept d design k within) invoke_lasts

  -- THE INVOKES OF A STATEMENT, their cells and the groups that capture
  pub invokes_of-moved : (s : PlainStatement) → invokes_of (moved_statement mv s) ≡ invokes_of s
  invokes_of-moved = moved.invokes_of-moved mv

  pub captures_kept : (ns : List ℕ) → captures_of other ns ≡ captures_of part ns
  captures_kept [] = refl
  captures_kept (n ∷ ns) = ap₂ ◌++◌ (reads_same capture_of one n) (captures_kept ns)
    where
      one : (o : Option PlainInvoke) → capture_of (option_map (moved_invoke d part) o) ≡ capture_of o
      one None = refl
      one (Some v) = refl

  pub cells_kept : (ns : List ℕ) (c : ℕ) → invokes_cell other ns c ≡ invokes_cell part ns c
  cells_kept [] c = refl
  cells_kept (n ∷ ns) c = ap₂ ◌||◌ (reads_same (λ o. is_cell_of o c) one n) (cells_kept ns c)
    where
      one : (o : Option PlainInvoke) → is_cell_of (option_map (moved_invoke d part) o) c ≡ is_cell_of o c
      one None = refl
      one (Some v) = refl

  -- THE INPUTS THAT INVOKES BIND are moved
  pub binds_moved : binds_in other ≡ map (moved_assign mv) (binds_in part)
  binds_moved = ap (flat_map (λ (v : PlainInvoke). v.inputs)) invokes_are ∙ all part.invokes
    where
      all : (vs : List PlainInvoke) → flat_map (λ (v : PlainInvoke). v.inputs) (map (moved_invoke d part) vs) ≡ map (moved_assign mv) (flat_map (λ (v : PlainInvoke). v.inputs) vs)
      all [] = refl
      all (v ∷ vs) = ap (λ list. map (moved_assign mv) v.inputs ++ list) (all vs) ∙ sym (map-append (moved_assign mv) v.inputs (flat_map (λ (w : PlainInvoke). w.inputs) vs))

  -- OF THE COMPONENT ITSELF: what its invokes name
  pub own_invoke : (n : ℕ) (v : PlainInvoke) → invoke_at part n ≡ Some v → IsInvoke (component_of d k) v
  own_invoke n v e = (design.components k within).invokes v (in_at part.invokes n v e)

  pub record BindNames (a : PlainAssign) : Type 0 where
    pub target : Names d part a.target
    pub sources : (p : PlacedPort) → In (sources_of a) p → Names d part p.port

  bind_named : (c : ℕ) (a : PlainAssign) → IsBind (component_of d k) c a → BindNames a
  bind_named c a b = record { target = from_there d some k a.target b.there; sources = λ p i. source p i }
    where
      some : 0 < length d.components
      some = omega (arith, within)

      source : (p : PlacedPort) → In (sources_of a) p → Names d part p.port
      source p (inl e) = subst (λ (q : PlacedPort). Names d part q.port) e (from_there d some k a.source.port b.source)
      source p (inr i) = absurd (let none : In [] p = subst (λ g. In (operands_of g) p) b.no_guard i in none)

  pub bind_names : (a : PlainAssign) → In (binds_in part) a → BindNames a
  bind_names a i =
      let r = flat_in (λ (v : PlainInvoke). v.inputs) part.invokes a i in
      bind_named r.0.cell a (((design.components k within).invokes r.0 r.1).inputs a r.2)

  -- a group that captures is there, and has no name
  pub record Captures (g : ℕ) : Type 0 where
    pub there : g < length part.groups
    pub unnamed : (group_at part g).name ≡ []

  capturing : (c g : ℕ) → IsCapturing (component_of d k) c g → Captures g
  capturing c g w = record {
    there = subst (λ (p : PlainComponent). g < length p.groups) (part_is d k) w.there;
    unnamed = sym (ap (λ (p : PlainComponent). (group_at p g).name) (part_is d k)) ∙ w.unnamed;
  }

  pub captures_there : (ns : List ℕ) (g : ℕ) → In (captures_of part ns) g → Captures g
  captures_there ns g i = by (flat_in (λ n. capture_of (invoke_at part n)) ns g i)
    where
      is_it : (o : Option ℕ) → In (option_list o) g → o ≡ Some g
      is_it None h = absurd h
      is_it (Some x) (inl e) = ap Some e
      is_it (Some x) (inr h) = absurd h

      of_option : (n : ℕ) (o : Option PlainInvoke) → invoke_at part n ≡ o → In (capture_of o) g → Captures g
      of_option n None e h = absurd h
      of_option n (Some v) e h = capturing v.cell g ((own_invoke n v e).captures g (is_it v.captures h))

      by : (n : ℕ) × In ns n × In (capture_of (invoke_at part n)) g → Captures g
      by (n, j, h) = of_option n (invoke_at part n) refl h

  -- the cell of an invoke is there
  pub invoked_there : (ns : List ℕ) (c : ℕ) → invokes_cell part ns c ≡ true → c < length part.cells
  invoked_there [] c e = absurd (cc)
  invoked_there (n ∷ ns) c e = ⊎_elim (λ h. of_option (invoke_at part n) refl h) (λ h. invoked_there ns c h) (or_cases (is_cell_of (invoke_at part n) c) (invokes_cell part ns c) e)
    where
      of_option : (o : Option PlainInvoke) → invoke_at part n ≡ o → is_cell_of o c ≡ true → c < length part.cells
      of_option None at h = absurd (cc)
      of_option (Some v) at h =
          subst (λ x. x < length part.cells) (eqb-true v.cell c h) (subst (λ (p : PlainComponent). v.cell < length p.cells) (part_is d k) (own_invoke n v at).cell)
