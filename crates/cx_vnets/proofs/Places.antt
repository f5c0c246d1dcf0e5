-- A name that stands as it may has a number, and its width stands there.
use Rattle.std.proofs.Common.{◌≡◌, ℕ, suc, Bool, true, false, List, [], ◌∷◌, ◌++◌, map, Some, option_map, slice_get, refl, ap, sym, ◌∙◌, subst, if◌then◌else◌}
use Rattle.cx_vtree.specs.declared.meanings.Meaning.{Meaning}
use Rattle.cx_vtree.specs.declared.meanings.Meaning.TheVariants.{Input, Output}
use Rattle.cx_vtree.specs.Plain.{PlainPort, PlainDecl, WireOf, RegisterOf, ArrayOf}
use Rattle.cx_vtree.specs.InstanceTree.{same_name, declared_nets, declared_arrays}
use Rattle.cx_vtree.specs.Sound.{width_of, is_source, is_array, meant_decl, meant_in, port_meaning}
use Rattle.cx_vtree.specs.NameNumbers.{position}
use Rattle.cx_vnets.specs.CodeLaws.{declared_widths, net_widths, array_widths}
use Rattle.cx_text.proofs.ListLaws.{slice_get-next}
use Rattle.cx_vtree.proofs.MeaningsLemmas.{port_width}

-- the name has a number, and the width of that number
abbrev pub StandsIn : List (List ℕ) → List ℕ → List ℕ → ℕ → Type 0
StandsIn names widths n w = (k : ℕ) × (position names n ≡ Some k) × (slice_get widths k ≡ Some w)

stands_first : (x n : List ℕ) (names : List (List ℕ)) (w : ℕ) (widths : List ℕ) → same_name x n ≡ true → StandsIn (x ∷ names) (w ∷ widths) n w
stands_first x n names w widths e = (0, ap (λ b. if b then Some 0 else option_map suc (position names n)) e, refl)

stands_later : (x n : List ℕ) (names : List (List ℕ)) (v w : ℕ) (widths : List ℕ) → same_name x n ≡ false → StandsIn names widths n w → StandsIn (x ∷ names) (v ∷ widths) n w
stands_later x n names v w widths e h =
    (suc h.0, ap (λ b. if b then Some 0 else option_map suc (position names n)) e ∙ ap (option_map suc) h.1, slice_get-next v widths h.0 ∙ h.2)

by_test : (P : Meaning → Type 0) (t : Bool) (a b : Meaning) → (t ≡ true → P a) → (t ≡ false → P b) → P (if t then a else b)
by_test P true a b h k = h refl
by_test P false a b h k = k refl

decl_stands : (ds : List PlainDecl) (n : List ℕ) → is_source (meant_decl ds n) ≡ true → StandsIn (declared_nets ds) (declared_widths ds) n (width_of (meant_decl ds n))
decl_stands [] n = λ e. absurd (cc)
decl_stands (WireOf x w ∷ ds) n =
    by_test (λ m. is_source m ≡ true → StandsIn (x ∷ declared_nets ds) (w ∷ declared_widths ds) n (width_of m)) (same_name x n) _ (meant_decl ds n)
    (λ e f. stands_first x n (declared_nets ds) w (declared_widths ds) e)
    (λ e f. stands_later x n (declared_nets ds) w _ (declared_widths ds) e (decl_stands ds n f))
decl_stands (RegisterOf x w ∷ ds) n =
    by_test (λ m. is_source m ≡ true → StandsIn (x ∷ declared_nets ds) (w ∷ declared_widths ds) n (width_of m)) (same_name x n) _ (meant_decl ds n)
    (λ e f. stands_first x n (declared_nets ds) w (declared_widths ds) e)
    (λ e f. stands_later x n (declared_nets ds) w _ (declared_widths ds) e (decl_stands ds n f))
decl_stands (ArrayOf x w k ∷ ds) n =
    by_test (λ m. is_source m ≡ true → StandsIn (declared_nets ds) (declared_widths ds) n (width_of m)) (same_name x n) _ (meant_decl ds n)
    (λ e f. absurd (cc))
    (λ e f. decl_stands ds n f)

is_array-port : (o : Bool) (w : ℕ) → is_array (if o then Output w else Input w) ≡ false
is_array-port true w = refl
is_array-port false w = refl

-- a net that may be read
pub net_stands : (ps : List PlainPort) (ds : List PlainDecl) (n : List ℕ) → is_source (meant_in ps ds n) ≡ true
    → StandsIn (map (λ p. p.name) ps ++ declared_nets ds) (net_widths ps ds) n (width_of (meant_in ps ds n))
net_stands [] ds n = decl_stands ds n
net_stands (p ∷ ps) ds n =
    by_test (λ m. is_source m ≡ true → StandsIn (p.name ∷ (map (λ q. q.name) ps ++ declared_nets ds)) (p.width ∷ net_widths ps ds) n (width_of m)) (same_name p.name n) (port_meaning p) (meant_in ps ds n)
    (λ e f. subst (StandsIn (p.name ∷ (map (λ q. q.name) ps ++ declared_nets ds)) (p.width ∷ net_widths ps ds) n) (sym (port_width p.output p.width))
    (stands_first p.name n (map (λ q. q.name) ps ++ declared_nets ds) p.width (net_widths ps ds) e))
    (λ e f. stands_later p.name n (map (λ q. q.name) ps ++ declared_nets ds) p.width _ (net_widths ps ds) e (net_stands ps ds n f))

array_stands_in : (ds : List PlainDecl) (n : List ℕ) → is_array (meant_decl ds n) ≡ true → StandsIn (declared_arrays ds) (array_widths ds) n (width_of (meant_decl ds n))
array_stands_in [] n = λ e. absurd (cc)
array_stands_in (ArrayOf x w k ∷ ds) n =
    by_test (λ m. is_array m ≡ true → StandsIn (x ∷ declared_arrays ds) (w ∷ array_widths ds) n (width_of m)) (same_name x n) _ (meant_decl ds n)
    (λ e f. stands_first x n (declared_arrays ds) w (array_widths ds) e)
    (λ e f. stands_later x n (declared_arrays ds) w _ (array_widths ds) e (array_stands_in ds n f))
array_stands_in (WireOf x w ∷ ds) n =
    by_test (λ m. is_array m ≡ true → StandsIn (declared_arrays ds) (array_widths ds) n (width_of m)) (same_name x n) _ (meant_decl ds n)
    (λ e f. absurd (cc))
    (λ e f. array_stands_in ds n f)
array_stands_in (RegisterOf x w ∷ ds) n =
    by_test (λ m. is_array m ≡ true → StandsIn (declared_arrays ds) (array_widths ds) n (width_of m)) (same_name x n) _ (meant_decl ds n)
    (λ e f. absurd (cc))
    (λ e f. array_stands_in ds n f)

-- an array
pub array_stands : (ps : List PlainPort) (ds : List PlainDecl) (n : List ℕ) → is_array (meant_in ps ds n) ≡ true → StandsIn (declared_arrays ds) (array_widths ds) n (width_of (meant_in ps ds n))
array_stands [] ds n = array_stands_in ds n
array_stands (p ∷ ps) ds n =
    by_test (λ m. is_array m ≡ true → StandsIn (declared_arrays ds) (array_widths ds) n (width_of m)) (same_name p.name n) (port_meaning p) (meant_in ps ds n)
    (λ e f. let g = is_array-port p.output p.width in absurd (cc))
    (λ e f. array_stands ps ds n f)
