-- STATEMENTS AT OTHER PLACES, with the static invokes in them: lengths, what is invoked, and counts with static components written out.
use Rattle.std.proofs.Common.{◌≡◌, ℕ, zero, suc, ◌+◌, ◌*◌, max, Bool, true, false, ◌||◌, ◌&&◌, List, [], ◌∷◌, ◌++◌, map, Option, Some, slice_get, refl, sym, ap, ap₂, ◌∙◌, subst}
use Rattle.std.specs.Prelude.{flat_map, is_some}
use Rattle.std.proofs.lemmas.List.{map-append}
use Rattle.cx_text.specs.Members.{In}
use Rattle.cx_meaning.specs.declared.ports.PortRef.TheVariants as ports
use Rattle.cx_meaning.specs.declared.ports.PlacedPort.{PlacedPort}
use Rattle.cx_meaning.specs.Designs.{PlainAssign, PlainInvoke, PlainComponent, group_at, PlainForm, Empty, Enable, Seq, Par, If, While, Repeat, StaticSeq, StaticPar, StaticIf, StaticRepeat, Timed, PlainStatement, Placed, PlainStatements, no_statements, a_statement}
use Rattle.cx_meaning.specs.Islands.{kind_length, group_length, or_zero}
use Rattle.cx_meaning.specs.Control.{groups_drive}
use Rattle.cx_rules.specs.Items.{Dynamic, Visited, visit, tests_of}
use Rattle.cx_rules.specs.StaticControl.{is_written, is_timed, one_if, is_dynamic}
use Rattle.cx_rules.specs.Invokes.{invoke_at, invoke_length, form_lasts, lasts, sum_lasts, max_lasts, invoke_in, invokes_of, capture_of, captures_of, is_cell_of, invokes_cell, drives_all, IsFed, ReadsAll, driven, named, captured, fed, tested, through}
use Rattle.cx_rules.specs.Counts.{Inners, inner_for, statement_count_of, statements_for, statements_counted, captures_in, occurrence_count_of, form_counted, counted, counted_in, has_invoke, is_any_island, island_counted, occurrences_counted}
use Rattle.cx_rules.specs.Spots.{binds_in}
use Rattle.cx_rewrites.specs.Places.{unplaced_port, unplaced_assign, unplaced_invoke, unplaced_form, unplaced, unplaced_statements, unplaced_visited, SamePart}
use Rattle.cx_rewrites.proofs.PlaceStatements.{kind-same, assigns-same, groups_drive-same}
use Rattle.cx_rewrites.proofs.PlacePorts.{target_is, names_same, twin_in}
use Rattle.cx_rewrites.proofs.PlaceLeads.{visit-unplaced, groups_is, tests_is, drives-same}
use Rattle.cx_rewrites.proofs.PlaceShapes.{twin_at, is_island-unplaced}

pub timed_there : (form : PlainForm) (k : ℕ) → unplaced_form form ≡ Timed k → form ≡ Timed k
timed_there Empty k e = absurd (cc)
timed_there (Enable g) k e = absurd (cc)
timed_there (Seq parts) k e = absurd (cc)
timed_there (Par arms) k e = absurd (cc)
timed_there (If test comb a b) k e = absurd (cc)
timed_there (While test comb a) k e = absurd (cc)
timed_there (Repeat count a) k e = absurd (cc)
timed_there (StaticSeq length parts) k e = absurd (cc)
timed_there (StaticPar length arms) k e = absurd (cc)
timed_there (StaticIf length test a b) k e = absurd (cc)
timed_there (StaticRepeat length count a) k e = absurd (cc)
timed_there (Timed n) k e = e

-- WHAT IS INVOKED
pub invoke_in-unplaced : (form : PlainForm) → invoke_in (unplaced_form form) ≡ invoke_in form
invoke_in-unplaced Empty = refl
invoke_in-unplaced (Enable g) = refl
invoke_in-unplaced (Seq parts) = refl
invoke_in-unplaced (Par arms) = refl
invoke_in-unplaced (If test comb a b) = refl
invoke_in-unplaced (While test comb a) = refl
invoke_in-unplaced (Repeat count a) = refl
invoke_in-unplaced (StaticSeq length parts) = refl
invoke_in-unplaced (StaticPar length arms) = refl
invoke_in-unplaced (StaticIf length test a b) = refl
invoke_in-unplaced (StaticRepeat length count a) = refl
invoke_in-unplaced (Timed k) = refl

invokes_in-unplaced : (vs : List Visited) → flat_map (λ (v : Visited). invoke_in v.form) (map unplaced_visited vs) ≡ flat_map (λ (v : Visited). invoke_in v.form) vs
invokes_in-unplaced [] = refl
invokes_in-unplaced (v ∷ vs) = ap₂ ◌++◌ (invoke_in-unplaced v.form) (invokes_in-unplaced vs)

pub invokes_of-unplaced : (s : PlainStatement) → invokes_of (unplaced s) ≡ invokes_of s
invokes_of-unplaced s = ap (flat_map (λ (v : Visited). invoke_in v.form)) (visit-unplaced Dynamic s) ∙ invokes_in-unplaced (visit Dynamic s)

-- THE INVOKES of two components that are the same
invoke-unplaced : {A : Type 0} (f : Option PlainInvoke → A) → ((v : PlainInvoke) → f (Some (unplaced_invoke v)) ≡ f (Some v)) → (vs : List PlainInvoke) (k : ℕ) → f (slice_get (map unplaced_invoke vs) k) ≡ f (slice_get vs k)
invoke-unplaced f each [] k = refl
invoke-unplaced f each (v ∷ vs) zero = each v
invoke-unplaced f each (v ∷ vs) (suc k) = invoke-unplaced f each vs k

-- where the word static stands at static invokes
abbrev pub Words : PlainComponent → PlainComponent → Type 0
Words part other = (k : ℕ) → (is_written (slice_get other.invokes k) ≡ is_written (slice_get part.invokes k)) × (is_timed (slice_get other.invokes k) ≡ is_timed (slice_get part.invokes k))

module _ (part other : PlainComponent) (same : SamePart part other) where
  pub of_invoke : {A : Type 0} (f : Option PlainInvoke → A) → ((v : PlainInvoke) → f (Some (unplaced_invoke v)) ≡ f (Some v)) → (k : ℕ) → f (invoke_at other k) ≡ f (invoke_at part k)
  of_invoke f each k = sym (invoke-unplaced f each other.invokes k) ∙ ap (λ vs. f (slice_get vs k)) (sym same.invokes) ∙ invoke-unplaced f each part.invokes k

  pub words-same : Words part other
  words-same k = (of_invoke is_written (λ v. refl) k, of_invoke is_timed (λ v. refl) k)

  pub invoke_twin : (k : ℕ) (w : PlainInvoke) → invoke_at part k ≡ Some w → (y : PlainInvoke) × (invoke_at other k ≡ Some y) × (unplaced_invoke w ≡ unplaced_invoke y)
  invoke_twin k w at = twin_at unplaced_invoke part.invokes other.invokes k w same.invokes at

  pub captures_of-same : (ks : List ℕ) → captures_of other ks ≡ captures_of part ks
  captures_of-same [] = refl
  captures_of-same (k ∷ ks) = ap₂ ◌++◌ (of_invoke capture_of (λ v. refl) k) (captures_of-same ks)

  pub invokes_cell-same : (ks : List ℕ) (c : ℕ) → invokes_cell other ks c ≡ invokes_cell part ks c
  invokes_cell-same [] c = refl
  invokes_cell-same (k ∷ ks) c = ap₂ ◌||◌ (of_invoke (λ v. is_cell_of v c) (λ v. refl) k) (invokes_cell-same ks c)

  binds_in-unplaced : (vs : List PlainInvoke) → flat_map (λ (v : PlainInvoke). v.inputs) (map unplaced_invoke vs) ≡ map unplaced_assign (flat_map (λ (v : PlainInvoke). v.inputs) vs)
  binds_in-unplaced [] = refl
  binds_in-unplaced (v ∷ vs) =
      ap (λ list. map unplaced_assign v.inputs ++ list) (binds_in-unplaced vs) ∙ sym (map-append unplaced_assign v.inputs (flat_map (λ (w : PlainInvoke). w.inputs) vs))

  pub binds_in-same : map unplaced_assign (binds_in part) ≡ map unplaced_assign (binds_in other)
  binds_in-same = sym (binds_in-unplaced part.invokes) ∙ ap (flat_map (λ (v : PlainInvoke). v.inputs)) same.invokes ∙ binds_in-unplaced other.invokes

  -- LENGTHS
  pub lengths-same : (g : ℕ) → group_length other g ≡ group_length part g
  lengths-same g = ap kind_length (sym (kind-same part other same g))

  mutual
    pub form_lasts-unplaced : (form : PlainForm) → form_lasts other (unplaced_form form) ≡ form_lasts part form
    form_lasts-unplaced Empty = refl
    form_lasts-unplaced (Enable g) = ap or_zero (lengths-same g)
    form_lasts-unplaced (Seq parts) = refl
    form_lasts-unplaced (Par arms) = refl
    form_lasts-unplaced (If test comb a b) = refl
    form_lasts-unplaced (While test comb a) = refl
    form_lasts-unplaced (Repeat count a) = refl
    form_lasts-unplaced (StaticSeq length parts) = sum_lasts-unplaced parts
    form_lasts-unplaced (StaticPar length arms) = max_lasts-unplaced arms
    form_lasts-unplaced (StaticIf length test a b) = ap₂ max (lasts-unplaced a) (lasts-unplaced b)
    form_lasts-unplaced (StaticRepeat length count a) = ap (λ n. count * n) (lasts-unplaced a)
    form_lasts-unplaced (Timed k) = of_invoke invoke_length (λ v. refl) k

    pub lasts-unplaced : (s : PlainStatement) → lasts other (unplaced s) ≡ lasts part s
    lasts-unplaced (Placed form place) = form_lasts-unplaced form

    sum_lasts-unplaced : (ss : PlainStatements) → sum_lasts other (unplaced_statements ss) ≡ sum_lasts part ss
    sum_lasts-unplaced no_statements = refl
    sum_lasts-unplaced (a_statement s ss) = ap₂ (λ m n. m + n) (lasts-unplaced s) (sum_lasts-unplaced ss)

    max_lasts-unplaced : (ss : PlainStatements) → max_lasts other (unplaced_statements ss) ≡ max_lasts part ss
    max_lasts-unplaced no_statements = refl
    max_lasts-unplaced (a_statement s ss) = ap₂ max (lasts-unplaced s) (max_lasts-unplaced ss)

  -- ISLANDS
  has_invoke-same : (ks : List ℕ) → has_invoke other ks ≡ has_invoke part ks
  has_invoke-same [] = refl
  has_invoke-same (k ∷ ks) = of_invoke is_some (λ v. refl) k

  pub is_any_island-unplaced : (v : Visited) → is_any_island other (unplaced_visited v) ≡ is_any_island part v
  is_any_island-unplaced v =
      ap₂ (λ a b. a || (is_dynamic v.context && b)) (is_island-unplaced part other lengths-same v)
      (ap (has_invoke other) (invoke_in-unplaced v.form) ∙ has_invoke-same (invoke_in v.form))

  -- COUNTS, where the same stands at the cells
  module _ (below : Inners) where
    mutual
      pub form_counted-unplaced : (form : PlainForm) → form_counted other below (unplaced_form form) ≡ form_counted part below form
      form_counted-unplaced Empty = refl
      form_counted-unplaced (Enable g) = ap (λ o. one_if (is_some o)) (lengths-same g)
      form_counted-unplaced (Seq parts) = refl
      form_counted-unplaced (Par arms) = refl
      form_counted-unplaced (If test comb a b) = refl
      form_counted-unplaced (While test comb a) = refl
      form_counted-unplaced (Repeat count a) = refl
      form_counted-unplaced (StaticSeq length parts) = counted_in-unplaced parts
      form_counted-unplaced (StaticPar length arms) = counted_in-unplaced arms
      form_counted-unplaced (StaticIf length test a b) = ap₂ ◌+◌ (counted-unplaced a) (counted-unplaced b)
      form_counted-unplaced (StaticRepeat length count a) = counted-unplaced a
      form_counted-unplaced (Timed k) = of_invoke (λ v. occurrence_count_of (inner_for below v) (captures_in v)) (λ v. refl) k

      counted-unplaced : (s : PlainStatement) → counted other below (unplaced s) ≡ counted part below s
      counted-unplaced (Placed form place) = form_counted-unplaced form

      counted_in-unplaced : (ss : PlainStatements) → counted_in other below (unplaced_statements ss) ≡ counted_in part below ss
      counted_in-unplaced no_statements = refl
      counted_in-unplaced (a_statement s ss) = ap₂ ◌+◌ (counted-unplaced s) (counted_in-unplaced ss)

    pub occurrences_counted-unplaced : (vs : List Visited) → occurrences_counted other below (map unplaced_visited vs) ≡ occurrences_counted part below vs
    occurrences_counted-unplaced [] = refl
    occurrences_counted-unplaced (v ∷ vs) =
        ap₂ ◌+◌ (ap (λ b. island_counted other below b (unplaced_form v.form)) (is_any_island-unplaced v) ∙ one (is_any_island part v)) (occurrences_counted-unplaced vs)
      where
        one : (b : Bool) → island_counted other below b (unplaced_form v.form) ≡ island_counted part below b v.form
        one true = form_counted-unplaced v.form
        one false = refl

    statements_for-same : (ks : List ℕ) → statements_for other below ks ≡ statements_for part below ks
    statements_for-same [] = refl
    statements_for-same (k ∷ ks) = of_invoke (λ v. statement_count_of (inner_for below v) (captures_in v)) (λ v. refl) k

    pub statements_counted-unplaced : (vs : List Visited) → statements_counted other below (map unplaced_visited vs) ≡ statements_counted part below vs
    statements_counted-unplaced [] = refl
    statements_counted-unplaced (v ∷ vs) = ap₂ ◌+◌ (ap (statements_for other below) (invoke_in-unplaced v.form) ∙ statements_for-same (invoke_in v.form)) (statements_counted-unplaced vs)

  -- WHAT A STATEMENT DRIVES AND READS
  module _ (s z : PlainStatement) (e : unplaced s ≡ unplaced z) where
    invokes_are : invokes_of s ≡ invokes_of z
    invokes_are = sym (invokes_of-unplaced s) ∙ ap invokes_of e ∙ invokes_of-unplaced z

    pub captures_are : captures_of part (invokes_of s) ≡ captures_of other (invokes_of z)
    captures_are = sym (captures_of-same (invokes_of s)) ∙ ap (captures_of other) invokes_are

    pub drives_all-same : (c : ℕ) → drives_all part s c ≡ drives_all other z c
    drives_all-same c =
        ap₂ ◌||◌ (drives-same part other same s z e c)
        (ap₂ ◌||◌ (sym (invokes_cell-same (invokes_of s) c) ∙ ap (λ ks. invokes_cell other ks c) invokes_are)
        (groups_drive-same part other same (captures_of part (invokes_of s)) c ∙ ap (λ gs. groups_drive other gs c) captures_are))

    fed_twin : (a : PlainAssign) → IsFed part s a → (b : PlainAssign) × IsFed other z b × (unplaced_assign a ≡ unplaced_assign b)
    fed_twin a f =
        let y = invoke_twin f.number f.invoke f.is in
        let b = twin_in unplaced_assign f.invoke.inputs y.0.inputs a (ap (λ (v : PlainInvoke). v.inputs) y.2) f.input in
        (b.0, record { number = f.number; stands = subst (λ ks. In ks f.number) invokes_are f.stands; invoke = y.0; is = y.1; input = b.1 }, b.2)

    pub reads_all-same : {c : ℕ} → ReadsAll part s c → ReadsAll other z c
    reads_all-same (driven {c} d) = driven (sym (drives_all-same c) ∙ d)
    reads_all-same (named {c} p g a stands among names) =
        let r = twin_in unplaced_assign (group_at part g).assigns (group_at other g).assigns a (assigns-same part other same g) among in
        named p g r.0 (subst (λ gs. In gs g) (groups_is part other same s z e) stands) r.1 (names_same a r.0 r.2 (ports.Cell c p) names)
    reads_all-same (captured {c} p g a stands among names) =
        let r = twin_in unplaced_assign (group_at part g).assigns (group_at other g).assigns a (assigns-same part other same g) among in
        captured p g r.0 (subst (λ gs. In gs g) captures_are stands) r.1 (names_same a r.0 r.2 (ports.Cell c p) names)
    reads_all-same (fed {c} p a f names) = let r = fed_twin a f in fed p r.0 r.1 (names_same a r.0 r.2 (ports.Cell c p) names)
    reads_all-same (tested {c} p test among is) =
        let r = twin_in unplaced_port (tests_of s) (tests_of z) test (tests_is part other same s z e) among in
        tested p r.0 r.1 (sym (ap (λ (x : PlacedPort). x.port) r.2) ∙ is)
    reads_all-same (through {e = d} c p q a reads among target names) =
        let r = twin_in unplaced_assign part.always other.always a same.always among in
        through c p q r.0 (reads_all-same reads) r.1 (sym (target_is a r.0 r.2) ∙ target) (names_same a r.0 r.2 (ports.Cell d q) names)
