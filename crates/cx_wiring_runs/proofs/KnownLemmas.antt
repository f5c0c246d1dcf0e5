-- Which expressions and targets of a net have a value: those whose nodes have one, as far as they are looked at.
use Rattle.std.proofs.Common.{◌≡◌, ℕ, ◌≤◌, ◌==◌, Bool, true, false, not, if◌then◌else◌, List, [], ◌∷◌, ◌++◌, Option, Some, None, option_map, option_and_then, refl, sym, ap, ap₂, ◌∙◌, arith}
use Rattle.std.proofs.lemmas.Bool.{eqb-true}
use Rattle.std.proofs.lemmas.Nat.{and_le_l, and_le_r}
use Rattle.std.specs.Prelude.{bit_and}
use Rattle.cx_bits.specs.BitVector.{BitVector}
use Rattle.cx_bits.specs.Operators.{and_of, or_of, complement_of}
use Rattle.cx_net.specs.Nets.{PlainNetExpr, Inverse, PlainNetTarget, PlainNetDriver}
use Rattle.cx_net.specs.NetMeaning.{Node, NetAround, both_known, is_true, truth_bit, same_target, chain}
use Rattle.cx_wiring.specs.Parts.{both, either, equals}
use Rattle.cx_wiring.specs.Bounds.{AllDrive}
use Rattle.cx_wiring.specs.Takings.{value, takes, takes_of}
use Rattle.cx_wiring.proofs.TakingLemmas.{says_equals}
use Rattle.cx_text.proofs.NumberLaws.{never}

abbrev pub Known : Option BitVector → Type 0
Known o = (b : BitVector) × (o ≡ Some b)

pub known_as : (a b : Option BitVector) → a ≡ b → Known b → Known a
known_as a b e k = (k.0, e ∙ k.1)

pub known_map : (f : BitVector → BitVector) (o : Option BitVector) → Known o → Known (option_map f o)
known_map f o k = (f k.0, ap (option_map f) k.1)

pub known_both : (f : BitVector → BitVector → BitVector) (a b : Option BitVector) → Known a → Known b → Known (both_known f a b)
known_both f a b k l = (f k.0 l.0, ap₂ (both_known f) k.1 l.1)

-- a conjunction that is not 0 has no part that is
zero_below : (n : ℕ) → n ≤ 0 → not (n == 0) ≡ true → ⊥
zero_below n l e = let z : n ≡ 0 = omega arith in absurd (no (sym (ap (λ m. not (m == 0)) z) ∙ e))
  where
    no : false ≡ true → ⊥
    no f = cc

pub and_true : (a b : BitVector) → is_true (and_of a b) ≡ true → (is_true a ≡ true) × (is_true b ≡ true)
and_true a b e = (first (a.value == 0) refl, second (b.value == 0) refl)
  where
    first : (t : Bool) → (a.value == 0) ≡ t → not t ≡ true
    first false f = refl
    first true f =
        let z : a.value ≡ 0 = eqb-true a.value 0 f in
        let l : bit_and a.value b.value ≤ a.value = and_le_l a.value b.value in absurd (zero_below (bit_and a.value b.value) (omega arith) e)

    second : (t : Bool) → (b.value == 0) ≡ t → not t ≡ true
    second false f = refl
    second true f =
        let z : b.value ≡ 0 = eqb-true b.value 0 f in
        let l : bit_and a.value b.value ≤ b.value = and_le_r a.value b.value in absurd (zero_below (bit_and a.value b.value) (omega arith) e)

-- of the drivers of a target alone
abbrev pub AllTo : (PlainNetDriver → Type 0) → PlainNetTarget → List PlainNetDriver → Type 0
AllTo P t [] = Unit {0}
AllTo P t (d ∷ ds) = (same_target d.target t ≡ true → P d) × AllTo P t ds

pub all_to_append : (P : PlainNetDriver → Type 0) (t : PlainNetTarget) (xs ys : List PlainNetDriver) → AllTo P t xs → AllTo P t ys → AllTo P t (xs ++ ys)
all_to_append P t [] ys h k = k
all_to_append P t (d ∷ xs) ys h k = (h.0, all_to_append P t xs ys h.1 k)

pub all_to_other : (P : PlainNetDriver → Type 0) (t : PlainNetTarget) (ds : List PlainNetDriver) → AllDrive (λ u. same_target u t ≡ false) ds → AllTo P t ds
all_to_other P t [] h = tt
all_to_other P t (d ∷ ds) h = ((λ e. never (sym h.0 ∙ e)), all_to_other P t ds h.1)

pub all_to_map : (P Q : PlainNetDriver → Type 0) (t : PlainNetTarget) → ((d : PlainNetDriver) → P d → Q d) → (ds : List PlainNetDriver) → AllTo P t ds → AllTo Q t ds
all_to_map P Q t f [] h = tt
all_to_map P Q t f (d ∷ ds) h = ((λ e. f d (h.0 e)), all_to_map P Q t f ds h.1)

-- of all drivers of a list
abbrev pub AllOfThem : (PlainNetDriver → Type 0) → List PlainNetDriver → Type 0
AllOfThem P [] = Unit {0}
AllOfThem P (d ∷ ds) = P d × AllOfThem P ds

pub all_append : (P : PlainNetDriver → Type 0) (xs ys : List PlainNetDriver) → AllOfThem P xs → AllOfThem P ys → AllOfThem P (xs ++ ys)
all_append P [] ys h k = k
all_append P (d ∷ xs) ys h k = (h.0, all_append P xs ys h.1 k)

pub all_any_target : (P : PlainNetDriver → Type 0) (t : PlainNetTarget) (ds : List PlainNetDriver) → AllOfThem P ds → AllTo P t ds
all_any_target P t [] h = tt
all_any_target P t (d ∷ ds) h = ((λ e. h.0), all_any_target P t ds h.1)

module _ (around : NetAround) (registers : ℕ → Option BitVector) (look : Node → Option BitVector) where
  abbrev V : PlainNetExpr → Option BitVector
  V = value around registers look

  abbrev pub KnownExpr : PlainNetExpr → Type 0
  KnownExpr e = Known (value around registers look e)

  pub known_two : (e f : PlainNetExpr) → KnownExpr e → KnownExpr f → KnownExpr (both e f)
  known_two e f k l = known_both and_of (V e) _ k (known_both and_of (V f) _ l (truth_bit true, refl))

  pub known_either : (e f : PlainNetExpr) → KnownExpr e → KnownExpr f → KnownExpr (either e f)
  known_either e f k l = known_both or_of (V e) _ k (known_both or_of (V f) _ l (truth_bit false, refl))

  pub known_equals : (e : PlainNetExpr) (n : ℕ) → KnownExpr e → KnownExpr (equals e n)
  known_equals e n k = (truth_bit (BitVector.value k.0 == n), says_equals around registers look e k.0 n k.1)

  pub known_inverse : (e : PlainNetExpr) → KnownExpr e → KnownExpr (Inverse e)
  known_inverse e k = known_map complement_of (V e) k

  -- a conjunction of two that is 1 has both
  pub two_true : (e f : PlainNetExpr) (b : BitVector) → KnownExpr e → KnownExpr f → V (both e f) ≡ Some b → is_true b ≡ true
      → ((a : BitVector) → V e ≡ Some a → is_true a ≡ true) × ((a : BitVector) → V f ≡ Some a → is_true a ≡ true)
  two_true e f b k l is on =
      let whole : V (both e f) ≡ Some (and_of k.0 (and_of l.0 (truth_bit true))) = ap₂ (λ x y. both_known and_of x (both_known and_of y (Some (truth_bit true)))) k.1 l.1 in
      let same : b ≡ and_of k.0 (and_of l.0 (truth_bit true)) = some_is (sym is ∙ whole) in
      let t = and_true k.0 (and_of l.0 (truth_bit true)) (ap is_true (sym same) ∙ on) in
      let u = and_true l.0 (truth_bit true) t.1 in
      ((λ a h. ap is_true (some_is (sym h ∙ k.1)) ∙ t.0), (λ a h. ap is_true (some_is (sym h ∙ l.1)) ∙ u.0))
    where
      some_is : {x y : BitVector} → ◌≡◌ {A = Option BitVector} (Some x) (Some y) → x ≡ y
      some_is {x} {y} h = cc

  -- A DRIVER IS FED where its guard has a value, and its source where the guard is 1
  abbrev pub On : PlainNetExpr → Type 0
  On e = (b : BitVector) × (V e ≡ Some b) × (is_true b ≡ true)

  pub record Fed (d : PlainNetDriver) : Type 0 where
    pub guard : KnownExpr d.guard
    pub source : On d.guard → KnownExpr d.source

  fed_takes_of : (s : Bool) (d : PlainNetDriver) (later : Option BitVector) → (s ≡ true → Fed d) → Known later → Known (takes_of around registers look s d later)
  fed_takes_of false d later h k = k
  fed_takes_of true d later h k =
      let f = h refl in
      known_as _ _ (ap (option_and_then (λ g. if is_true g then V d.source else later)) (Fed.guard f).1)
      (choice (is_true (Fed.guard f).0) (λ e. Fed.source f ((Fed.guard f).0, (Fed.guard f).1, e)))
    where
      choice : (t : Bool) → (t ≡ true → KnownExpr d.source) → Known (if t then V d.source else later)
      choice true g = g refl
      choice false g = k

  -- A TARGET whose drivers are fed has a value
  pub fed_takes : (t : PlainNetTarget) (o : Option BitVector) (ds : List PlainNetDriver) → AllTo Fed t ds → Known o → Known (takes around registers look t o ds)
  fed_takes t o [] h k = k
  fed_takes t o (d ∷ ds) h k = fed_takes_of (same_target d.target t) d (takes around registers look t o ds) h.0 (fed_takes t o ds h.1 k)

  -- and where it is 1 some driver of it is on
  pub on_takes : {G : Type 0} (t : PlainNetTarget) (z : BitVector) → is_true z ≡ false → (ds : List PlainNetDriver) → AllTo (λ d. KnownExpr d.guard × (On d.guard → G)) t ds
      → (b : BitVector) → takes around registers look t (Some z) ds ≡ Some b → is_true b ≡ true → G
  on_takes {G} t z off [] h b e on = absurd (no (sym off ∙ ap is_true (some_is e) ∙ on))
    where
      no : false ≡ true → ⊥
      no f = cc

      some_is : {x y : BitVector} → ◌≡◌ {A = Option BitVector} (Some x) (Some y) → x ≡ y
      some_is {x} {y} h = cc
  on_takes {G} t z off (d ∷ ds) h b e on = choice (takes around registers look t (Some z) ds) (λ f. on_takes t z off ds h.1 b f on) (same_target d.target t) h.0 e
    where
      by_guard : (rest : Option BitVector) → (rest ≡ Some b → G) → (k : KnownExpr d.guard) (u : Bool) → is_true k.0 ≡ u → (On d.guard → G) → (if u then V d.source else rest) ≡ Some b → G
      by_guard rest later k true is g f = g (k.0, k.1, is)
      by_guard rest later k false is g f = later f

      choice : (rest : Option BitVector) → (rest ≡ Some b → G) → (s : Bool) → (s ≡ true → KnownExpr d.guard × (On d.guard → G)) → takes_of around registers look s d rest ≡ Some b → G
      choice rest later false g f = later f
      choice rest later true g f =
          let k = g refl in
          by_guard rest later k.0 (is_true k.0.0) refl k.1 (sym (ap (option_and_then (λ x. if is_true x then V d.source else rest)) k.0.1) ∙ f)

  -- whatever stands where none drives
  pub any_undriven : (x y : BitVector) (ds : List PlainNetDriver) → Known (chain around registers look x ds) → Known (chain around registers look y ds)
  any_undriven x y [] k = (y, refl)
  any_undriven x y (d ∷ ds) k = by_guard (chain around registers look x ds) (chain around registers look y ds) (any_undriven x y ds) (V d.guard) k
    where
      by_bit : (one other : Option BitVector) → (Known one → Known other) → (b : Bool) → Known (if b then V d.source else one) → Known (if b then V d.source else other)
      by_bit one other f true k = k
      by_bit one other f false k = f k

      by_guard : (one other : Option BitVector) → (Known one → Known other) → (g : Option BitVector) → Known (option_and_then (λ v. if is_true v then V d.source else one) g) → Known (option_and_then (λ v. if is_true v then V d.source else other) g)
      by_guard one other f None k = k
      by_guard one other f (Some v) k = by_bit one other f (is_true v) k
