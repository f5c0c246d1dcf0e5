-- What a rule of a net gives from some values it gives from more.
use Rattle.std.proofs.Common.{◌≡◌, ℕ, suc, ◌+◌, ◌≤◌, ◌<◌, Bool, true, false, if◌then◌else◌, List, [], ◌∷◌, length, Option, Some, None, option_map, option_and_then, nat_lt, refl, sym, ◌∙◌, subst, arith}
use Rattle.cx_bits.specs.BitVector.{BitVector}
use Rattle.cx_prim.specs.declared.ports.PortRow.{PortRow}
use Rattle.cx_meaning.specs.declared.ports.PortRef.TheVariants as ports
use Rattle.cx_net.specs.Nets.{PlainNetExpr, OfPort, OfRegister, OfWire, OfHole, OfGo, Fixed, Inverse, AllOf, AnyOf, Sum, Compares, PlainNetExprs, no_exprs, an_expr, PlainNetTarget, PlainNetDriver, PlainNetComponent}
use Rattle.cx_net.specs.NetTree.{NetCells}
use Rattle.cx_net.specs.NetMeaning.{both_known, Node, APort, AWire, AHole, NetAround, is_true, net_expr, all_expr, any_expr, chain, same_target, drivers_to, gather_known, is_own_node}
use Rattle.cx_wiring.specs.NetNames.{ExprNames, ExprsName, DriversName}

-- a value that is known on the one side is known on the other
abbrev pub Less : {A : Type 0} → Option A → Option A → Type 0
Less {A} a b = (x : A) → a ≡ Some x → b ≡ Some x

pub less_self : {A : Type 0} (a b : Option A) → a ≡ b → Less a b
less_self a b e x f = sym e ∙ f

pub none_is_some : {A B : Type 0} (x : A) → ◌≡◌ {A = Option A} None (Some x) → B
none_is_some x e = absurd cc

module _ {A B : Type 0} where
  pub grows_map : (f : A → B) (a b : Option A) → Less a b → Less (option_map f a) (option_map f b)
  grows_map f None b l x e = none_is_some x e
  grows_map f (Some a) b l x e = subst (λ o. option_map f o ≡ Some x) (sym (l a refl)) e

  pub grows_then : (f g : A → Option B) (a b : Option A) → Less a b → ((x : A) → Less (f x) (g x)) → Less (option_and_then f a) (option_and_then g b)
  grows_then f g None b l h x e = none_is_some x e
  grows_then f g (Some a) b l h x e = subst (λ o. option_and_then g o ≡ Some x) (sym (l a refl)) (h a x e)

pub grows_both : (f : BitVector → BitVector → BitVector) (a b c d : Option BitVector) → Less a c → Less b d → Less (both_known f a b) (both_known f c d)
grows_both f a b c d l m = grows_then (λ x. option_map (f x) b) (λ x. option_map (f x) d) a c l (λ x. grows_map (f x) b d m)

pub grows_if : {A : Type 0} (t : Bool) (a b c d : Option A) → Less a c → Less b d → Less (if t then a else b) (if t then c else d)
grows_if true a b c d l m = l
grows_if false a b c d l m = m

pub gather_grows : (look more : ℕ → Option BitVector) (wanted : ℕ → Bool) (p : ℕ) (rows : List PortRow) → ((q : ℕ) → p ≤ q → q < p + length rows → Less (look q) (more q))
    → Less (gather_known look wanted p rows) (gather_known more wanted p rows)
gather_grows look more wanted p [] h = less_self _ _ refl
gather_grows look more wanted p (row ∷ rest) h =
    let later : Less (gather_known look wanted (suc p) rest) (gather_known more wanted (suc p) rest) = gather_grows look more wanted (suc p) rest (λ q low high. h q (omega arith) (omega arith)) in
    grows_if (wanted p) _ _ _ _
    (grows_then _ _ (look p) (more p) (h p (omega arith) (omega arith)) (λ b. grows_map (λ l. Some b ∷ l) _ _ later))
    (grows_map (λ l. None ∷ l) _ _ later)

-- what is known around an instance, of its inputs
pub record AroundLess (part : PlainNetComponent) (a b : NetAround) : Type 0 where
  pub go : Less a.go b.go
  pub input : (n : ℕ) → nat_lt n (length part.inputs) ≡ true → Less (a.input n) (b.input n)

module _ (part : PlainNetComponent) (cells : NetCells) (a b : NetAround) (registers : ℕ → Option BitVector) (look more : Node → Option BitVector) where
  abbrev pub LookLess : Type 0
  LookLess = (n : Node) → is_own_node part cells n ≡ true → Less (look n) (more n)

  module _ (l : LookLess) (m : AroundLess part a b) where
    mutual
      pub expr_grows : (e : PlainNetExpr) → ExprNames part cells e → Less (net_expr a registers look e) (net_expr b registers more e)
      expr_grows (OfPort (ports.Cell c p)) n = l (APort (ports.Cell c p)) n
      expr_grows (OfPort (ports.Input i)) n = m.input i n
      expr_grows (OfPort (ports.Output i)) n = l (APort (ports.Output i)) n
      expr_grows (OfPort (ports.Done g)) n = absurd cc
      expr_grows (OfPort (ports.Literal w v)) n = less_self _ _ refl
      expr_grows (OfRegister i) n = less_self _ _ refl
      expr_grows (OfWire i) n = l (AWire i) n
      expr_grows (OfHole i) n = l (AHole i) n
      expr_grows OfGo n = m.go
      expr_grows (Fixed v) n = less_self _ _ refl
      expr_grows (Inverse e) n = grows_map _ _ _ (expr_grows e n)
      expr_grows (AllOf es) n = all_grows es n
      expr_grows (AnyOf es) n = any_grows es n
      expr_grows (Sum e f) n = grows_both _ _ _ _ _ (expr_grows e n.0) (expr_grows f n.1)
      expr_grows (Compares c e f) n = grows_both _ _ _ _ _ (expr_grows e n.0) (expr_grows f n.1)

      all_grows : (es : PlainNetExprs) → ExprsName part cells es → Less (all_expr a registers look es) (all_expr b registers more es)
      all_grows no_exprs n = less_self _ _ refl
      all_grows (an_expr e es) n = grows_both _ _ _ _ _ (expr_grows e n.0) (all_grows es n.1)

      any_grows : (es : PlainNetExprs) → ExprsName part cells es → Less (any_expr a registers look es) (any_expr b registers more es)
      any_grows no_exprs n = less_self _ _ refl
      any_grows (an_expr e es) n = grows_both _ _ _ _ _ (expr_grows e n.0) (any_grows es n.1)

    pub chain_grows : (undriven : BitVector) (ds : List PlainNetDriver) → DriversName part cells ds → Less (chain a registers look undriven ds) (chain b registers more undriven ds)
    chain_grows undriven [] n = less_self _ _ refl
    chain_grows undriven (d ∷ ds) n =
        grows_then _ _ _ _ (expr_grows d.guard n.0.0) (λ g. grows_if (is_true g) _ _ _ _ (expr_grows d.source n.0.1) (chain_grows undriven ds n.1))

pub names_to : (part : PlainNetComponent) (cells : NetCells) (t : PlainNetTarget) (ds : List PlainNetDriver) → DriversName part cells ds → DriversName part cells (drivers_to t ds)
names_to part cells t [] n = tt
names_to part cells t (d ∷ ds) n = choice (same_target d.target t) (names_to part cells t ds n.1)
  where
    choice : (s : Bool) → DriversName part cells (drivers_to t ds) → DriversName part cells (if s then d ∷ drivers_to t ds else drivers_to t ds)
    choice true later = (n.0, later)
    choice false later = later
