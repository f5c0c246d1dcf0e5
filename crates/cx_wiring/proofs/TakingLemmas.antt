-- What drivers take, list behind list, and expressions of one bit.
use Rattle.std.proofs.Common.{◌≡◌, ℕ, suc, ◌+◌, ◌==◌, Bool, true, false, not, ◌&&◌, ◌||◌, if◌then◌else◌, List, [], ◌∷◌, ◌++◌, length, Option, Some, None, option_map, option_and_then, refl, ap, ap₂, ◌∙◌, subst, arith}
use Rattle.std.specs.Option.{option_map_or}
use Rattle.cx_bits.specs.BitVector.{BitVector}
use Rattle.cx_meaning.specs.declared.ports.Comparison.TheVariants.{NotEqual}
use Rattle.cx_meaning.specs.declared.ports.PortRef.{PortRef}
use Rattle.cx_meaning.specs.declared.ports.PortRef.TheVariants as ports
use Rattle.cx_net.specs.Nets.{PlainNetExpr, Inverse, Compares, PlainNetExprs, PlainNetTarget, ToPort, ToRegister, ToWire, ToHole, ToDone, PlainNetDriver}
use Rattle.cx_net.specs.NetMeaning.{Node, NetAround, both_known, is_true, truth_bit, all_expr, chain, same_target, drivers_to}
use Rattle.cx_net.specs.NetEdges.{taken}
use Rattle.cx_wiring.specs.Parts.{word, both, either, equals}
use Rattle.cx_wiring.specs.Bounds.{AllDrive}
use Rattle.cx_wiring.specs.Takings.{value, Says, takes_of, takes, AllConnect, Idles, AllIdle, AreRegisters, IsNoWire}
use Rattle.cx_bits.specs.Operators.{and_of, or_of, complement_of}
use Rattle.cx_net.proofs.NetMeaningLemmas.{and_two, not_bit}

and_bits : (a b : Bool) → and_of (truth_bit a) (and_of (truth_bit b) (truth_bit true)) ≡ truth_bit (a && b)
and_bits true true = refl
and_bits true false = refl
and_bits false true = refl
and_bits false false = refl

or_bits : (a b : Bool) → or_of (truth_bit a) (or_of (truth_bit b) (truth_bit false)) ≡ truth_bit (a || b)
or_bits true true = refl
or_bits true false = refl
or_bits false true = refl
or_bits false false = refl

pub true_bit : (b : Bool) → is_true (truth_bit b) ≡ b
true_bit true = refl
true_bit false = refl

pub no_port_register : (m : ℕ) (p : PortRef) → same_target (ToPort p) (ToRegister m) ≡ false
no_port_register m (ports.Cell c p) = refl
no_port_register m (ports.Input i) = refl
no_port_register m (ports.Output i) = refl
no_port_register m (ports.Done g) = refl
no_port_register m (ports.Literal w v) = refl

pub no_port_done : (p : PortRef) → same_target (ToPort p) ToDone ≡ false
no_port_done (ports.Cell c p) = refl
no_port_done (ports.Input i) = refl
no_port_done (ports.Output i) = refl
no_port_done (ports.Done g) = refl
no_port_done (ports.Literal w v) = refl

module _ (around : NetAround) (registers : ℕ → Option BitVector) (look : Node → Option BitVector) where
  -- EXPRESSIONS of one bit
  pub says_both : (e f : PlainNetExpr) (a b : Bool) → Says around registers look e a → Says around registers look f b → Says around registers look (both e f) (a && b)
  says_both e f a b h k = ap₂ (λ x y. both_known and_of x (both_known and_of y (Some (truth_bit true)))) h k ∙ ap Some (and_bits a b)

  pub says_either : (e f : PlainNetExpr) (a b : Bool) → Says around registers look e a → Says around registers look f b → Says around registers look (either e f) (a || b)
  says_either e f a b h k = ap₂ (λ x y. both_known or_of x (both_known or_of y (Some (truth_bit false)))) h k ∙ ap Some (or_bits a b)

  pub says_not : (e : PlainNetExpr) (a : Bool) → Says around registers look e a → Says around registers look (Inverse e) (not a)
  says_not e a h = ap (option_map complement_of) h ∙ ap Some (not_bit a)

  pub says_all : (e : PlainNetExpr) (es : PlainNetExprs) (a b : Bool) → Says around registers look e a → all_expr around registers look es ≡ Some (truth_bit b)
      → both_known and_of (value around registers look e) (all_expr around registers look es) ≡ Some (truth_bit (a && b))
  says_all e es a b h k = ap₂ (both_known and_of) h k ∙ ap Some (and_two a b)

  pub says_equals : (e : PlainNetExpr) (b : BitVector) (m : ℕ) → value around registers look e ≡ Some b → Says around registers look (equals e m) (b.value == m)
  says_equals e b m h = ap (λ x. both_known (λ y z. truth_bit (y.value == z.value)) x (Some (record { width = 32; value = m }))) h

  pub says_differs : (e : PlainNetExpr) (b : BitVector) (m : ℕ) → value around registers look e ≡ Some b → Says around registers look (Compares NotEqual e (word m)) (not (b.value == m))
  says_differs e b m h = ap (λ x. both_known (λ y z. truth_bit (not (y.value == z.value))) x (Some (record { width = 32; value = m }))) h

  -- LISTS of drivers
  pub takes_append : (t : PlainNetTarget) (o : Option BitVector) (xs ys : List PlainNetDriver) → takes around registers look t o (xs ++ ys) ≡ takes around registers look t (takes around registers look t o ys) xs
  takes_append t o [] ys = refl
  takes_append t o (d ∷ ds) ys = ap (takes_of around registers look (same_target d.target t) d) (takes_append t o ds ys)

  -- among the drivers of the target alone
  pub takes_to : (t : PlainNetTarget) (undriven : BitVector) (ds : List PlainNetDriver) → takes around registers look t (Some undriven) ds ≡ chain around registers look undriven (drivers_to t ds)
  takes_to t undriven [] = refl
  takes_to t undriven (d ∷ ds) = choice (same_target d.target t) (takes_to t undriven ds)
    where
      choice : (s : Bool) → takes around registers look t (Some undriven) ds ≡ chain around registers look undriven (drivers_to t ds)
          → takes_of around registers look s d (takes around registers look t (Some undriven) ds) ≡ chain around registers look undriven (if s then d ∷ drivers_to t ds else drivers_to t ds)
      choice true ih = ap (λ l. option_and_then (λ g. if is_true g then value around registers look d.source else l) (value around registers look d.guard)) ih
      choice false ih = ih

  -- a register comes to what it takes
  pub register_takes : (kept : BitVector) (t : PlainNetTarget) (b : BitVector) (ds : List PlainNetDriver) → takes around registers look t (Some kept) ds ≡ Some b
      → taken (λ d. value around registers look d.guard) (λ d. value around registers look d.source) kept.value (drivers_to t ds) ≡ b.value
  register_takes kept t b [] h = ap (λ o. option_map_or (λ x. x.value) o kept.value) h
  register_takes kept t b (d ∷ ds) h = choice (same_target d.target t) h (register_takes kept t b ds)
    where
      by_guard : (g : Option BitVector) (source later : Option BitVector) (after : ℕ) → (later ≡ Some b → after ≡ b.value)
          → option_and_then (λ x. if is_true x then source else later) g ≡ Some b → (if option_map_or is_true g false then option_map_or (λ x. x.value) source kept.value else after) ≡ b.value
      by_guard None source later after ih e = absurd cc
      by_guard (Some x) source later after ih e = by_bit (is_true x) e
        where
          by_bit : (c : Bool) → (if c then source else later) ≡ Some b → (if c then option_map_or (λ x. x.value) source kept.value else after) ≡ b.value
          by_bit true f = ap (λ o. option_map_or (λ x. x.value) o kept.value) f
          by_bit false f = ih f

      choice : (s : Bool) → takes_of around registers look s d (takes around registers look t (Some kept) ds) ≡ Some b
          → (takes around registers look t (Some kept) ds ≡ Some b → taken (λ d. value around registers look d.guard) (λ d. value around registers look d.source) kept.value (drivers_to t ds) ≡ b.value)
          → taken (λ d. value around registers look d.guard) (λ d. value around registers look d.source) kept.value (if s then d ∷ drivers_to t ds else drivers_to t ds) ≡ b.value
      choice true e ih = by_guard (value around registers look d.guard) (value around registers look d.source) (takes around registers look t (Some kept) ds) _ ih e
      choice false e ih = ih e

  -- a driver whose guard is known, of its own target
  pub takes_known : (d : PlainNetDriver) (b : Bool) (later : Option BitVector) → Says around registers look d.guard b
      → takes_of around registers look true d later ≡ (if b then value around registers look d.source else later)
  takes_known d b later h =
      ap (λ o. option_and_then (λ g. if is_true g then value around registers look d.source else later) o) h
      ∙ ap (λ c. if c then value around registers look d.source else later) (true_bit b)

  pub passes : (s : Bool) (d : PlainNetDriver) (later : Option BitVector) → Says around registers look d.guard false → takes_of around registers look s d later ≡ later
  passes true d later h = takes_known d false later h
  passes false d later h = refl

  -- drivers that do not act leave what is no wire to those behind them
  pub idle_passes : (t : PlainNetTarget) → IsNoWire t → (o : Option BitVector) (ds : List PlainNetDriver) → AllIdle around registers look ds → takes around registers look t o ds ≡ o
  idle_passes t off o [] h = refl
  idle_passes t off o (d ∷ ds) h = one t off d.target h.0 (takes around registers look t o ds) ∙ idle_passes t off o ds h.1
    where
      wire : (n : ℕ) (u : PlainNetTarget) → IsNoWire u → same_target (ToWire n) u ≡ false
      wire n (ToWire m) h = absurd h
      wire n (ToPort p) h = refl
      wire n (ToRegister m) h = refl
      wire n (ToHole m) h = refl
      wire n ToDone h = refl

      one : (t : PlainNetTarget) → IsNoWire t → (u : PlainNetTarget) → Idles around registers look u d.guard → (later : Option BitVector) → takes_of around registers look (same_target u t) d later ≡ later
      one t off (ToWire n) h later = ap (λ s. takes_of around registers look s d later) (wire n t off)
      one t off (ToPort p) h later = passes (same_target (ToPort p) t) d later h
      one t off (ToRegister n) h later = passes (same_target (ToRegister n) t) d later h
      one t off (ToHole n) h later = passes (same_target (ToHole n) t) d later h
      one t off ToDone h later = passes (same_target ToDone t) d later h

  -- drivers of other targets do so too
  pub others_pass : (t : PlainNetTarget) (o : Option BitVector) (ds : List PlainNetDriver) → AllDrive (λ u. same_target u t ≡ false) ds → takes around registers look t o ds ≡ o
  others_pass t o [] h = refl
  others_pass t o (d ∷ ds) h = ap (λ s. takes_of around registers look s d (takes around registers look t o ds)) h.0 ∙ others_pass t o ds h.1

  pub connect_both : (first : ℕ) (xs ys : List PlainNetDriver) → AllConnect around registers look first (xs ++ ys) → AllConnect around registers look first xs × AllConnect around registers look first ys
  connect_both first [] ys h = (tt, h)
  connect_both first (d ∷ ds) ys h = let k = connect_both first ds ys h.1 in ((h.0, k.0), k.1)

  pub connects_join : (first : ℕ) (xs ys : List PlainNetDriver) → AllConnect around registers look first xs → AllConnect around registers look first ys → AllConnect around registers look first (xs ++ ys)
  connects_join first [] ys h k = k
  connects_join first (d ∷ ds) ys h k = (h.0, connects_join first ds ys h.1 k)

  pub idle_both : (xs ys : List PlainNetDriver) → AllIdle around registers look xs → AllIdle around registers look ys → AllIdle around registers look (xs ++ ys)
  idle_both [] ys h k = k
  idle_both (d ∷ ds) ys h k = (h.0, idle_both ds ys h.1 k)

  pub idle_split : (xs ys : List PlainNetDriver) → AllIdle around registers look (xs ++ ys) → AllIdle around registers look xs × AllIdle around registers look ys
  idle_split [] ys h = (tt, h)
  idle_split (d ∷ ds) ys h = let k = idle_split ds ys h.1 in ((h.0, k.0), k.1)

  pub registers_both : (kept : ℕ → ℕ) (n : ℕ) (ws us : List ℕ) → AreRegisters around registers look kept n (ws ++ us)
      → AreRegisters around registers look kept n ws × AreRegisters around registers look kept (n + length ws) us
  registers_both kept n [] us h = let e : n ≡ n + 0 = omega arith in (tt, subst (λ m. AreRegisters around registers look kept m us) e h)
  registers_both kept n (w ∷ ws) us h =
      let k = registers_both kept (suc n) ws us h.1 in
      let e : suc n + length ws ≡ n + suc (length ws) = omega arith in ((h.0, k.0), subst (λ m. AreRegisters around registers look kept m us) e k.1)
