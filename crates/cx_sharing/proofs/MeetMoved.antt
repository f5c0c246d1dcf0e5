-- What is used and what meets does so by the new numbers, where ports are those of renamed cells.
use Rattle.std.proofs.Common.{◌≡◌, ℕ, ⊎_elim, Bool, true, ◌||◌, ◌&&◌, List, [], ◌∷◌, map, Option, Some, None, refl, ap, ◌∙◌}
use Rattle.std.specs.Prelude.{get_or}
use Rattle.std.specs.List.{list_any}
use Rattle.std.proofs.lemmas.Bool.{or_cases, or_right}
use Rattle.cx_text.proofs.BoolLaws.{or_left, and_both, and_true}
use Rattle.cx_meaning.specs.declared.ports.PortRef.{PortRef}
use Rattle.cx_meaning.specs.declared.ports.PortRef.TheVariants as ports
use Rattle.cx_meaning.specs.declared.ports.PlacedPort.{PlacedPort}
use Rattle.cx_meaning.specs.Designs.{PlainAssign, PlainGroup, PlainComponent, group_at, no_group, PlainForm, Empty, Enable, Seq, Par, If, While, Repeat, StaticSeq, StaticPar, StaticIf, StaticRepeat, Timed, PlainStatement, PlainStatements, no_statements, a_statement, list_of}
use Rattle.cx_meaning.specs.Instances.{just}
use Rattle.cx_meaning.specs.Control.{targets_cell, groups_of}
use Rattle.cx_meaning.proofs.InstancesLemmas.{just_true, just_same}
use Rattle.cx_rules.specs.Items.{Dynamic, visit, Visited, sources_of, statements_in, tests_of}
use Rattle.cx_rewrites.specs.Moving.{moved_port, moved_assign, moved_group, moved_form, moved_statement, moved_statements}
use Rattle.cx_rewrites.specs.Renaming.{renamed}
use Rattle.cx_sharing.specs.Uses.{assign_uses, assigns_use, group_uses, uses, comb_uses, test_uses}
use Rattle.cx_sharing.specs.Meeting.{has_both, arms_meet, form_meets, meet}
use Rattle.cx_rewrites.proofs.MovedLists.{moved_visited, sources_of-moved, visit-moved, groups_of-moved, tests_of-moved, moved_group_at}

any_moved : {A B : Type 0} (f : A → B) (test : A → Bool) (other : B → Bool) → ((x : A) → test x ≡ true → other (f x) ≡ true) → (list : List A) → list_any test list ≡ true → list_any other (map f list) ≡ true
any_moved f test other h [] e = absurd (cc)
any_moved f test other h (x ∷ xs) e =
    ⊎_elim (λ here. or_left (other (f x)) (list_any other (map f xs)) (h x here)) (λ later. or_right (other (f x)) (list_any other (map f xs)) (any_moved f test other h xs later)) (or_cases (test x) (list_any test xs) e)

any_same : {A : Type 0} (test other : A → Bool) → ((x : A) → test x ≡ true → other x ≡ true) → (list : List A) → list_any test list ≡ true → list_any other list ≡ true
any_same test other h [] e = absurd (cc)
any_same test other h (x ∷ xs) e =
    ⊎_elim (λ here. or_left (other x) (list_any other xs) (h x here)) (λ later. or_right (other x) (list_any other xs) (any_same test other h xs later)) (or_cases (test x) (list_any test xs) e)

either_way : (a b c d : Bool) → (a ≡ true → c ≡ true) → (b ≡ true → d ≡ true) → (a || b) ≡ true → (c || d) ≡ true
either_way a b c d f g e = ⊎_elim (λ h. or_left c d (f h)) (λ h. or_right c d (g h)) (or_cases a b e)

both_ways_on : (a b c d : Bool) → (a ≡ true → c ≡ true) → (b ≡ true → d ≡ true) → (a && b) ≡ true → (c && d) ≡ true
both_ways_on a b c d f g e = let both = and_both a b e in and_true c d (f both.0) (g both.1)

module _ (cell : ℕ → ℕ) where
  target_moved : (p : PortRef) (c : ℕ) → targets_cell p c ≡ true → targets_cell (renamed cell p) (cell c) ≡ true
  target_moved (ports.Cell d n) c e = ap (λ x. just (cell x) (cell c)) (just_true d c e) ∙ just_same (cell c)
  target_moved (ports.Input n) c e = absurd (cc)
  target_moved (ports.Output n) c e = absurd (cc)
  target_moved (ports.Done g) c e = absurd (cc)
  target_moved (ports.Literal w v) c e = absurd (cc)

  assign_moved : (c : ℕ) (a : PlainAssign) → assign_uses a c ≡ true → assign_uses (moved_assign (renamed cell) a) (cell c) ≡ true
  assign_moved c a e =
      either_way (targets_cell a.target c) (list_any (λ (p : PlacedPort). targets_cell p.port c) (sources_of a)) (targets_cell (renamed cell a.target) (cell c))
      (list_any (λ (p : PlacedPort). targets_cell p.port (cell c)) (sources_of (moved_assign (renamed cell) a)))
      (target_moved a.target c)
      (λ h. ap (list_any (λ (p : PlacedPort). targets_cell p.port (cell c))) (sources_of-moved (renamed cell) a)
      ∙ any_moved (moved_port (renamed cell)) (λ (p : PlacedPort). targets_cell p.port c) (λ (p : PlacedPort). targets_cell p.port (cell c)) (λ p. target_moved p.port c) (sources_of a) h)
      e

  pub assigns_moved : (c : ℕ) (list : List PlainAssign) → assigns_use list c ≡ true → assigns_use (map (moved_assign (renamed cell)) list) (cell c) ≡ true
  assigns_moved c list e = any_moved (moved_assign (renamed cell)) (λ a. assign_uses a c) (λ a. assign_uses a (cell c)) (assign_moved c) list e

  module _ (part other : PlainComponent) (groups : other.groups ≡ map (moved_group (renamed cell)) part.groups) where
    group_moved : (g c : ℕ) → group_uses part g c ≡ true → group_uses other g (cell c) ≡ true
    group_moved g c e =
        ap (λ (x : PlainGroup). assigns_use x.assigns (cell c)) (ap (λ list. get_or list g no_group) groups ∙ moved_group_at (renamed cell) part.groups g)
        ∙ assigns_moved c (group_at part g).assigns e

    uses_moved : (s : PlainStatement) (c : ℕ) → uses part s c ≡ true → uses other (moved_statement (renamed cell) s) (cell c) ≡ true
    uses_moved s c e =
        either_way (list_any (λ g. group_uses part g c) (groups_of s)) (list_any (λ (p : PlacedPort). targets_cell p.port c) (tests_of s))
        (list_any (λ g. group_uses other g (cell c)) (groups_of (moved_statement (renamed cell) s))) (list_any (λ (p : PlacedPort). targets_cell p.port (cell c)) (tests_of (moved_statement (renamed cell) s)))
        (λ h. ap (list_any (λ g. group_uses other g (cell c))) (groups_of-moved (renamed cell) s) ∙ any_same (λ g. group_uses part g c) (λ g. group_uses other g (cell c)) (λ g. group_moved g c) (groups_of s) h)
        (λ h. ap (list_any (λ (p : PlacedPort). targets_cell p.port (cell c))) (tests_of-moved (renamed cell) s)
        ∙ any_moved (moved_port (renamed cell)) (λ (p : PlacedPort). targets_cell p.port c) (λ (p : PlacedPort). targets_cell p.port (cell c)) (λ p. target_moved p.port c) (tests_of s) h)
        e

    comb_moved : (o : Option ℕ) (c : ℕ) → comb_uses part o c ≡ true → comb_uses other o (cell c) ≡ true
    comb_moved None c e = absurd (cc)
    comb_moved (Some g) c e = group_moved g c e

    test_moved : (p : PlacedPort) (o : Option ℕ) (c : ℕ) → test_uses part p o c ≡ true → test_uses other (moved_port (renamed cell) p) o (cell c) ≡ true
    test_moved p o c e = either_way (targets_cell p.port c) (comb_uses part o c) (targets_cell (renamed cell p.port) (cell c)) (comb_uses other o (cell c)) (target_moved p.port c) (comb_moved o c) e

    abbrev some_uses : PlainComponent → List PlainStatement → ℕ → Bool
    some_uses of list c = list_any (λ s. uses of s c) list

    later_moved : (c : ℕ) (list : List PlainStatement) → some_uses part list c ≡ true → some_uses other (map (moved_statement (renamed cell)) list) (cell c) ≡ true
    later_moved c list e = any_moved (moved_statement (renamed cell)) (λ s. uses part s c) (λ s. uses other s (cell c)) (λ s. uses_moved s c) list e

    arms_moved : (list : List PlainStatement) (x y : ℕ) → arms_meet part list x y ≡ true → arms_meet other (map (moved_statement (renamed cell)) list) (cell x) (cell y) ≡ true
    arms_moved [] x y e = absurd (cc)
    arms_moved (arm ∷ later) x y e =
        either_way ((uses part arm x && some_uses part later y) || (uses part arm y && some_uses part later x)) (arms_meet part later x y) _ _
        (either_way (uses part arm x && some_uses part later y) (uses part arm y && some_uses part later x) _ _
        (both_ways_on (uses part arm x) (some_uses part later y) _ _ (uses_moved arm x) (later_moved y later))
        (both_ways_on (uses part arm y) (some_uses part later x) _ _ (uses_moved arm y) (later_moved x later)))
        (arms_moved later x y) e

    list_moved : (ss : PlainStatements) → list_of (moved_statements (renamed cell) ss) ≡ map (moved_statement (renamed cell)) (list_of ss)
    list_moved no_statements = refl
    list_moved (a_statement s ss) = ap (λ z. moved_statement (renamed cell) s ∷ z) (list_moved ss)

    form_moved : (form : PlainForm) (x y : ℕ) → form_meets part form x y ≡ true → form_meets other (moved_form (renamed cell) form) (cell x) (cell y) ≡ true
    form_moved Empty x y e = absurd (cc)
    form_moved (Enable g) x y e = absurd (cc)
    form_moved (Seq parts) x y e = absurd (cc)
    form_moved (Par arms) x y e = ap (λ list. arms_meet other list (cell x) (cell y)) (list_moved arms) ∙ arms_moved (list_of arms) x y e
    form_moved (If test o a b) x y e = both_ways_on (test_uses part test o x) (test_uses part test o y) _ _ (test_moved test o x) (test_moved test o y) e
    form_moved (While test o a) x y e = both_ways_on (test_uses part test o x) (test_uses part test o y) _ _ (test_moved test o x) (test_moved test o y) e
    form_moved (Repeat count a) x y e = absurd (cc)
    form_moved (StaticSeq length parts) x y e = absurd (cc)
    form_moved (StaticPar length arms) x y e = ap (λ list. arms_meet other list (cell x) (cell y)) (list_moved arms) ∙ arms_moved (list_of arms) x y e
    form_moved (StaticIf length test a b) x y e = absurd (cc)
    form_moved (StaticRepeat length count a) x y e = absurd (cc)
    form_moved (Timed k) x y e = absurd (cc)

    -- TWO CELLS THAT MEET, meet by the new numbers
    pub meet_moved : other.control ≡ moved_statement (renamed cell) part.control → (x y : ℕ) → meet part x y ≡ true → meet other (cell x) (cell y) ≡ true
    meet_moved control x y e =
        either_way (list_any (λ (g : PlainGroup). has_both (assigns_use g.assigns) x y) part.groups) (list_any (λ (v : Visited). form_meets part v.form x y) (statements_in part))
        (list_any (λ (g : PlainGroup). has_both (assigns_use g.assigns) (cell x) (cell y)) other.groups) (list_any (λ (v : Visited). form_meets other v.form (cell x) (cell y)) (statements_in other))
        (λ h. ap (list_any (λ (g : PlainGroup). has_both (assigns_use g.assigns) (cell x) (cell y))) groups
        ∙ any_moved (moved_group (renamed cell)) (λ (g : PlainGroup). has_both (assigns_use g.assigns) x y) (λ (g : PlainGroup). has_both (assigns_use g.assigns) (cell x) (cell y))
        (λ g. both_ways_on (assigns_use g.assigns x) (assigns_use g.assigns y) _ _ (assigns_moved x g.assigns) (assigns_moved y g.assigns)) part.groups h)
        (λ h. ap (list_any (λ (v : Visited). form_meets other v.form (cell x) (cell y))) (ap (visit Dynamic) control ∙ visit-moved (renamed cell) Dynamic part.control)
        ∙ any_moved (moved_visited (renamed cell)) (λ (v : Visited). form_meets part v.form x y) (λ (v : Visited). form_meets other v.form (cell x) (cell y)) (λ v. form_moved v.form x y) (statements_in part) h)
        e
