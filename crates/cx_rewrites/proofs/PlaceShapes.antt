-- SHAPES OF STATEMENTS AND LISTS apart from places: tests, arms, what may stand in static control, counts.
use Rattle.std.proofs.Common.{◌≡◌, ℕ, zero, suc, Bool, ◌||◌, ◌&&◌, List, [], ◌∷◌, ◌++◌, map, length, Option, Some, slice_get, refl, sym, ap, ◌∙◌}
use Rattle.std.specs.Prelude.{is_some, flat_map}
use Rattle.cx_meaning.specs.declared.ports.PortRef.{PortRef}
use Rattle.cx_meaning.specs.declared.ports.PlacedPort.{PlacedPort}
use Rattle.cx_meaning.specs.Designs.{PlainAssign, PlainComponent, PlainForm, Empty, Enable, Seq, Par, If, While, Repeat, StaticSeq, StaticPar, StaticIf, StaticRepeat, Timed, PlainStatement, Placed, PlainStatements, no_statements, a_statement, list_of}
use Rattle.cx_meaning.specs.Islands.{group_length}
use Rattle.cx_rules.specs.Items.{Context, InStatic, Branch, Visited, test_in}
use Rattle.cx_rules.specs.StaticControl.{is_static, is_written, is_timed, may_stand, form_has_length, has_length, all_have_length, written_length, is_island_form, is_island, is_dynamic}
use Rattle.cx_rules.specs.ShapeRules.{some_target}
use Rattle.cx_rules.specs.LimitRule.{count_in}
use Rattle.cx_rules.specs.RaceRule.{arms_of, enabled_group}
use Rattle.cx_rewrites.specs.Places.{unplaced_port, unplaced_assign, unplaced_form, unplaced, unplaced_statements, unplaced_visited}

-- a member of a list at a number, and that of a list that is the same by a map
pub twin_at : {A B : Type 0} (f : A → B) (list other : List A) (n : ℕ) (x : A) → map f list ≡ map f other → slice_get list n ≡ Some x → (y : A) × (slice_get other n ≡ Some y) × (f x ≡ f y)
twin_at f [] other n x e at = absurd (cc)
twin_at f (a ∷ list) [] n x e at = absurd (cc)
twin_at f (a ∷ list) (b ∷ other) zero x e at = let first : f a ≡ f b = cc in let is : a ≡ x = cc in (b, refl, ap f (sym is) ∙ first)
twin_at f (a ∷ list) (b ∷ other) (suc n) x e at = let rest : map f list ≡ map f other = cc in twin_at f list other n x rest at

pub some_target-unplaced : (test : PortRef → Bool) (list : List PlainAssign) → some_target test (map unplaced_assign list) ≡ some_target test list
some_target-unplaced test [] = refl
some_target-unplaced test (a ∷ rest) = ap (λ b. test a.target || b) (some_target-unplaced test rest)

-- TESTS
pub record TestAlike (p : PlacedPort) (form : PlainForm) : Type 0 where
  pub test : PlacedPort
  pub stands : test_in form ≡ Some test
  pub port : p.port ≡ test.port

test_of-unplaced : (p : PlacedPort) (form : PlainForm) → test_in (unplaced_form form) ≡ Some (unplaced_port p) → TestAlike p form
test_of-unplaced p Empty e = absurd (cc)
test_of-unplaced p (Enable g) e = absurd (cc)
test_of-unplaced p (Seq parts) e = absurd (cc)
test_of-unplaced p (Par arms) e = absurd (cc)
test_of-unplaced p (If test comb a b) e = record { test = test; stands = refl; port = let same : unplaced_port test ≡ unplaced_port p = cc in ap (λ (x : PlacedPort). x.port) (sym same) }
test_of-unplaced p (While test comb a) e = record { test = test; stands = refl; port = let same : unplaced_port test ≡ unplaced_port p = cc in ap (λ (x : PlacedPort). x.port) (sym same) }
test_of-unplaced p (Repeat count a) e = absurd (cc)
test_of-unplaced p (StaticSeq length parts) e = absurd (cc)
test_of-unplaced p (StaticPar length arms) e = absurd (cc)
test_of-unplaced p (StaticIf length test a b) e = record { test = test; stands = refl; port = let same : unplaced_port test ≡ unplaced_port p = cc in ap (λ (x : PlacedPort). x.port) (sym same) }
test_of-unplaced p (StaticRepeat length count a) e = absurd (cc)
test_of-unplaced p (Timed k) e = absurd (cc)

test_there : (p : PlacedPort) (form : PlainForm) → test_in form ≡ Some p → test_in (unplaced_form form) ≡ Some (unplaced_port p)
test_there p Empty e = absurd (cc)
test_there p (Enable g) e = absurd (cc)
test_there p (Seq parts) e = absurd (cc)
test_there p (Par arms) e = absurd (cc)
test_there p (If test comb a b) e = let same : test ≡ p = cc in ap (λ x. Some (unplaced_port x)) same
test_there p (While test comb a) e = let same : test ≡ p = cc in ap (λ x. Some (unplaced_port x)) same
test_there p (Repeat count a) e = absurd (cc)
test_there p (StaticSeq length parts) e = absurd (cc)
test_there p (StaticPar length arms) e = absurd (cc)
test_there p (StaticIf length test a b) e = let same : test ≡ p = cc in ap (λ x. Some (unplaced_port x)) same
test_there p (StaticRepeat length count a) e = absurd (cc)
test_there p (Timed k) e = absurd (cc)

pub test_alike : (form other : PlainForm) → unplaced_form form ≡ unplaced_form other → (p : PlacedPort) → test_in form ≡ Some p → TestAlike p other
test_alike form other e p stands = test_of-unplaced p other (ap test_in (sym e) ∙ test_there p form stands)

-- a static if
pub record StaticIfAlike (length : Option ℕ) (p : PlacedPort) (form : PlainForm) : Type 0 where
  pub test : PlacedPort
  pub first : PlainStatement
  pub second : PlainStatement
  pub is : form ≡ StaticIf length test first second
  pub port : p.port ≡ test.port

pub static_if_alike : (form : PlainForm) (length : Option ℕ) (p : PlacedPort) (x y : PlainStatement) → unplaced_form form ≡ StaticIf length (unplaced_port p) x y → StaticIfAlike length p form
static_if_alike Empty length p x y e = absurd (cc)
static_if_alike (Enable g) length p x y e = absurd (cc)
static_if_alike (Seq parts) length p x y e = absurd (cc)
static_if_alike (Par arms) length p x y e = absurd (cc)
static_if_alike (If test comb a b) length p x y e = absurd (cc)
static_if_alike (While test comb a) length p x y e = absurd (cc)
static_if_alike (Repeat count a) length p x y e = absurd (cc)
static_if_alike (StaticSeq l parts) length p x y e = absurd (cc)
static_if_alike (StaticPar l arms) length p x y e = absurd (cc)
static_if_alike (StaticIf l test a b) length p x y e = record {
  test = test;
  first = a;
  second = b;
  is = let same : l ≡ length = cc in ap (λ k. StaticIf k test a b) same;
  port = let same : unplaced_port test ≡ unplaced_port p = cc in ap (λ (z : PlacedPort). z.port) (sym same);
}
static_if_alike (StaticRepeat l count a) length p x y e = absurd (cc)
static_if_alike (Timed k) length p x y e = absurd (cc)

-- ARMS
list_of-unplaced : (ss : PlainStatements) → list_of (unplaced_statements ss) ≡ map unplaced (list_of ss)
list_of-unplaced no_statements = refl
list_of-unplaced (a_statement s ss) = ap (λ list. unplaced s ∷ list) (list_of-unplaced ss)

arms_of-unplaced : (form : PlainForm) → arms_of (unplaced_form form) ≡ map unplaced (arms_of form)
arms_of-unplaced Empty = refl
arms_of-unplaced (Enable g) = refl
arms_of-unplaced (Seq parts) = refl
arms_of-unplaced (Par arms) = list_of-unplaced arms
arms_of-unplaced (If test comb a b) = refl
arms_of-unplaced (While test comb a) = refl
arms_of-unplaced (Repeat count a) = refl
arms_of-unplaced (StaticSeq length parts) = refl
arms_of-unplaced (StaticPar length arms) = list_of-unplaced arms
arms_of-unplaced (StaticIf length test a b) = refl
arms_of-unplaced (StaticRepeat length count a) = refl
arms_of-unplaced (Timed k) = refl

pub arms_are : (form other : PlainForm) → unplaced_form form ≡ unplaced_form other → map unplaced (arms_of form) ≡ map unplaced (arms_of other)
arms_are form other e = sym (arms_of-unplaced form) ∙ ap arms_of e ∙ arms_of-unplaced other

enabled_group-unplaced : (form : PlainForm) → enabled_group (unplaced_form form) ≡ enabled_group form
enabled_group-unplaced Empty = refl
enabled_group-unplaced (Enable g) = refl
enabled_group-unplaced (Seq parts) = refl
enabled_group-unplaced (Par arms) = refl
enabled_group-unplaced (If test comb a b) = refl
enabled_group-unplaced (While test comb a) = refl
enabled_group-unplaced (Repeat count a) = refl
enabled_group-unplaced (StaticSeq length parts) = refl
enabled_group-unplaced (StaticPar length arms) = refl
enabled_group-unplaced (StaticIf length test a b) = refl
enabled_group-unplaced (StaticRepeat length count a) = refl
enabled_group-unplaced (Timed k) = refl

pub enabled-unplaced : (vs : List Visited) → flat_map (λ v. enabled_group v.form) (map unplaced_visited vs) ≡ flat_map (λ v. enabled_group v.form) vs
enabled-unplaced [] = refl
enabled-unplaced (v ∷ vs) =
    ap (λ list. list ++ flat_map (λ v. enabled_group v.form) (map unplaced_visited vs)) (enabled_group-unplaced v.form) ∙ ap (λ list. enabled_group v.form ++ list) (enabled-unplaced vs)

-- WHAT IS OF A FORM ALONE
pub is_static-unplaced : (form : PlainForm) → is_static (unplaced_form form) ≡ is_static form
is_static-unplaced Empty = refl
is_static-unplaced (Enable g) = refl
is_static-unplaced (Seq parts) = refl
is_static-unplaced (Par arms) = refl
is_static-unplaced (If test comb a b) = refl
is_static-unplaced (While test comb a) = refl
is_static-unplaced (Repeat count a) = refl
is_static-unplaced (StaticSeq length parts) = refl
is_static-unplaced (StaticPar length arms) = refl
is_static-unplaced (StaticIf length test a b) = refl
is_static-unplaced (StaticRepeat length count a) = refl
is_static-unplaced (Timed k) = refl

pub written_length-unplaced : (form : PlainForm) → written_length (unplaced_form form) ≡ written_length form
written_length-unplaced Empty = refl
written_length-unplaced (Enable g) = refl
written_length-unplaced (Seq parts) = refl
written_length-unplaced (Par arms) = refl
written_length-unplaced (If test comb a b) = refl
written_length-unplaced (While test comb a) = refl
written_length-unplaced (Repeat count a) = refl
written_length-unplaced (StaticSeq length parts) = refl
written_length-unplaced (StaticPar length arms) = refl
written_length-unplaced (StaticIf length test a b) = refl
written_length-unplaced (StaticRepeat length count a) = refl
written_length-unplaced (Timed k) = refl

pub count_in-unplaced : (form : PlainForm) → count_in (unplaced_form form) ≡ count_in form
count_in-unplaced Empty = refl
count_in-unplaced (Enable g) = refl
count_in-unplaced (Seq parts) = refl
count_in-unplaced (Par arms) = refl
count_in-unplaced (If test comb a b) = refl
count_in-unplaced (While test comb a) = refl
count_in-unplaced (Repeat count a) = refl
count_in-unplaced (StaticSeq length parts) = refl
count_in-unplaced (StaticPar length arms) = refl
count_in-unplaced (StaticIf length test a b) = refl
count_in-unplaced (StaticRepeat length count a) = refl
count_in-unplaced (Timed k) = refl

-- AND BY THE LENGTHS OF GROUPS
module _ (part other : PlainComponent) (lengths : (g : ℕ) → group_length other g ≡ group_length part g) where
  is_island_form-unplaced : (form : PlainForm) → is_island_form other (unplaced_form form) ≡ is_island_form part form
  is_island_form-unplaced Empty = refl
  is_island_form-unplaced (Enable g) = ap is_some (lengths g)
  is_island_form-unplaced (Seq parts) = refl
  is_island_form-unplaced (Par arms) = refl
  is_island_form-unplaced (If test comb a b) = refl
  is_island_form-unplaced (While test comb a) = refl
  is_island_form-unplaced (Repeat count a) = refl
  is_island_form-unplaced (StaticSeq length parts) = refl
  is_island_form-unplaced (StaticPar length arms) = refl
  is_island_form-unplaced (StaticIf length test a b) = refl
  is_island_form-unplaced (StaticRepeat length count a) = refl
  is_island_form-unplaced (Timed k) = refl

  pub is_island-unplaced : (v : Visited) → is_island other (unplaced_visited v) ≡ is_island part v
  is_island-unplaced v = ap (λ b. is_dynamic v.context && b) (is_island_form-unplaced v.form)

-- WHAT MAY STAND IN STATIC CONTROL, also by where the word static stands at static invokes
module _ (part other : PlainComponent) (lengths : (g : ℕ) → group_length other g ≡ group_length part g) (words : (k : ℕ) → (is_written (slice_get other.invokes k) ≡ is_written (slice_get part.invokes k)) × (is_timed (slice_get other.invokes k) ≡ is_timed (slice_get part.invokes k))) where
  pub may_stand-unplaced : (context : Context) (form : PlainForm) → may_stand other context (unplaced_form form) ≡ may_stand part context form
  may_stand-unplaced context Empty = refl
  may_stand-unplaced context (Enable g) = ap is_some (lengths g)
  may_stand-unplaced context (Seq parts) = refl
  may_stand-unplaced context (Par arms) = refl
  may_stand-unplaced context (If test comb a b) = refl
  may_stand-unplaced context (While test comb a) = refl
  may_stand-unplaced context (Repeat count a) = refl
  may_stand-unplaced context (StaticSeq length parts) = refl
  may_stand-unplaced context (StaticPar length arms) = refl
  may_stand-unplaced context (StaticIf length test a b) = refl
  may_stand-unplaced context (StaticRepeat length count a) = refl
  may_stand-unplaced context (Timed k) = (words k).0

  mutual
    pub form_has_length-unplaced : (context : Context) (form : PlainForm) → form_has_length other context (unplaced_form form) ≡ form_has_length part context form
    form_has_length-unplaced context Empty = refl
    form_has_length-unplaced context (Enable g) = ap is_some (lengths g)
    form_has_length-unplaced context (Seq parts) = refl
    form_has_length-unplaced context (Par arms) = refl
    form_has_length-unplaced context (If test comb a b) = refl
    form_has_length-unplaced context (While test comb a) = refl
    form_has_length-unplaced context (Repeat count a) = refl
    form_has_length-unplaced context (StaticSeq length parts) = all_have_length-unplaced parts
    form_has_length-unplaced context (StaticPar length arms) = all_have_length-unplaced arms
    form_has_length-unplaced context (StaticIf length test a b) = ap (λ x. x && has_length other Branch (unplaced b)) (has_length-unplaced Branch a) ∙ ap (λ x. has_length part Branch a && x) (has_length-unplaced Branch b)
    form_has_length-unplaced context (StaticRepeat length count a) = has_length-unplaced InStatic a
    form_has_length-unplaced context (Timed k) = (words k).1

    pub has_length-unplaced : (context : Context) (s : PlainStatement) → has_length other context (unplaced s) ≡ has_length part context s
    has_length-unplaced context (Placed form place) = form_has_length-unplaced context form

    all_have_length-unplaced : (ss : PlainStatements) → all_have_length other (unplaced_statements ss) ≡ all_have_length part ss
    all_have_length-unplaced no_statements = refl
    all_have_length-unplaced (a_statement s ss) = ap (λ x. x && all_have_length other (unplaced_statements ss)) (has_length-unplaced InStatic s) ∙ ap (λ x. has_length part InStatic s && x) (all_have_length-unplaced ss)
