-- What the drivers of each form take of its region's register and of the goes of groups, over what its parts' drivers take.
use Rattle.std.proofs.Common.{◌≡◌, ℕ, suc, ◌+◌, ◌==◌, Bool, true, false, if◌then◌else◌, List, [], ◌∷◌, ◌++◌, Option, Some, None, refl, sym, ap, ◌∙◌, arith}
use Rattle.std.proofs.lemmas.Bool.{eq-eqb, eqb-true, ne_eqb}
use Rattle.cx_bits.specs.BitVector.{BitVector}
use Rattle.cx_meaning.specs.declared.ports.PortRef.{PortRef}
use Rattle.cx_net.specs.Nets.{PlainNetExpr, OfRegister, Sum, ToRegister, ToHole, PlainNetDriver}
use Rattle.cx_net.specs.NetMeaning.{Node, NetAround, truth_bit}
use Rattle.cx_static.specs.Islands.{PlainIsland}
use Rattle.cx_wiring.specs.Parts.{word, drive, one}
use Rattle.cx_wiring.specs.Stands.{Stand, at, end_of, stands, ends, goes}
use Rattle.cx_wiring.specs.Control.{found_one, found_zero, in_earlier_round, comb_goes, counting}
use Rattle.cx_wiring.specs.Parts.{both}
use Rattle.cx_wiring.specs.Takings.{Says, takes_of, takes}
use Rattle.cx_wiring.proofs.TakingLemmas.{takes_append, takes_known}
use Rattle.cx_wiring_cycles.specs.Shown.{wide, Going, told, comb_going}

-- the goes of groups stand behind their dones
pub hole_shift : (groups a g : ℕ) → (groups + a == groups + g) ≡ (a == g)
hole_shift groups a g = choice (a == g) refl
  where
    choice : (t : Bool) → (a == g) ≡ t → (groups + a == groups + g) ≡ t
    choice true e = let same : a ≡ g = eqb-true a g e in eq-eqb (groups + a) (groups + g) (ap (λ n. groups + n) same)
    choice false e = ne_eqb (groups + a) (groups + g) (λ f. let same : a ≡ g = omega arith in other (sym (eq-eqb a g same) ∙ e))
      where
        other : true ≡ false → ⊥
        other f = cc

pub told_append : (g : ℕ) (o : Option BitVector) (xs ys : List Going) → told g o (xs ++ ys) ≡ told g (told g o ys) xs
told_append g o [] ys = refl
told_append g o (x ∷ xs) ys = ap (λ later. if x.group == g then Some (truth_bit x.goes) else later) (told_append g o xs ys)

module _ (around : NetAround) (registers : ℕ → Option BitVector) (look : Node → Option BitVector) where
  -- a driver of a region
  pub region_known : (region position : ℕ) (guard : PlainNetExpr) (b : Bool) (later : Option BitVector) → Says around registers look guard b
      → takes_of around registers look (region == region) (drive (ToRegister region) guard (word position)) later ≡ (if b then Some (wide position) else later)
  region_known region position guard b later h =
      ap (λ s. takes_of around registers look s (drive (ToRegister region) guard (word position)) later) (eq-eqb region region refl)
      ∙ takes_known around registers look (drive (ToRegister region) guard (word position)) b later h

  -- a driver of a go whose guard and source are known
  pub go_known : (groups a g : ℕ) (guard source : PlainNetExpr) (b : Bool) (o : Option BitVector) → Says around registers look guard true → Says around registers look source b
      → takes_of around registers look (groups + a == groups + g) (drive (ToHole (groups + a)) guard source) o ≡ told g o (record { group = a; goes = b } ∷ [])
  go_known groups a g guard source b o h k =
      ap (λ s. takes_of around registers look s (drive (ToHole (groups + a)) guard source) o) (hole_shift groups a g) ∙ choice (a == g)
    where
      choice : (s : Bool) → takes_of around registers look s (drive (ToHole (groups + a)) guard source) o ≡ (if s then Some (truth_bit b) else o)
      choice true = takes_known around registers look (drive (ToHole (groups + a)) guard source) true o h ∙ k
      choice false = refl

  module _ (groups : ℕ) (islands : List PlainIsland) where
    pub comb_region : (x : Stand) (comb : Option ℕ) (n : ℕ) (o : Option BitVector) → takes around registers look (ToRegister n) o (comb_goes groups islands x comb) ≡ o
    comb_region x None n o = refl
    comb_region x (Some g) n o = refl

    pub comb_hole : (x : Stand) (comb : Option ℕ) (g : ℕ) (o : Option BitVector) → Says around registers look (at x) true
        → takes around registers look (ToHole (groups + g)) o (comb_goes groups islands x comb) ≡ told g o (comb_going comb)
    comb_hole x None g o h = refl
    comb_hole x (Some c) g o h = go_known groups c g (at x) one true o h refl

    -- IF
    module _ (x : Stand) (test : PortRef) (comb : Option ℕ) (first second : ℕ) (xs ys : List PlainNetDriver) (when : PlainNetExpr) where
      abbrev pub if_drivers : List PlainNetDriver
      if_drivers = stands x ∷ (comb_goes groups islands x comb ++ goes x (found_one x test) first ∷ (xs ++ goes x (found_zero x test) second ∷ (ys ++ ends x when ∷ [])))

      pub if_region : (o : Option BitVector) (b c : Bool) → Says around registers look (found_one x test) b → Says around registers look (found_zero x test) c
          → takes around registers look (ToRegister x.region) o if_drivers
          ≡ (if b then Some (wide first) else takes around registers look (ToRegister x.region) (if c then Some (wide second) else takes around registers look (ToRegister x.region) o ys) xs)
      if_region o b c h k =
          takes_append around registers look (ToRegister x.region) o (comb_goes groups islands x comb) _ ∙ comb_region x comb x.region _
          ∙ region_known x.region first (found_one x test) b _ h
          ∙ ap (λ l. if b then Some (wide first) else l)
          (takes_append around registers look (ToRegister x.region) o xs _ ∙ ap (λ l. takes around registers look (ToRegister x.region) l xs)
          (region_known x.region second (found_zero x test) c _ k ∙ ap (λ l. if c then Some (wide second) else l) (takes_append around registers look (ToRegister x.region) o ys (ends x when ∷ []))))

      pub if_hole : (g : ℕ) (o : Option BitVector) → takes around registers look (ToHole g) o if_drivers
          ≡ takes around registers look (ToHole g) (takes around registers look (ToHole g) (takes around registers look (ToHole g) o ys) xs) (comb_goes groups islands x comb)
      if_hole g o =
          takes_append around registers look (ToHole g) o (comb_goes groups islands x comb) _
          ∙ ap (λ l. takes around registers look (ToHole g) l (comb_goes groups islands x comb))
          (takes_append around registers look (ToHole g) o xs _ ∙ ap (λ l. takes around registers look (ToHole g) l xs) (takes_append around registers look (ToHole g) o ys (ends x when ∷ [])))

    -- WHILE
    module _ (x : Stand) (test : PortRef) (comb : Option ℕ) (first body : ℕ) (xs : List PlainNetDriver) where
      abbrev pub while_drivers : List PlainNetDriver
      while_drivers = stands x ∷ (comb_goes groups islands x comb ++ ends x (found_zero x test) ∷ goes x (found_one x test) first ∷ (xs ++ goes x (end_of body) x.position ∷ []))

      pub while_region : (o : Option BitVector) (b c : Bool) → Says around registers look (found_one x test) b → Says around registers look (end_of body) c
          → takes around registers look (ToRegister x.region) o while_drivers ≡ (if b then Some (wide first) else takes around registers look (ToRegister x.region) (if c then Some (wide x.position) else o) xs)
      while_region o b c h k =
          takes_append around registers look (ToRegister x.region) o (comb_goes groups islands x comb) _ ∙ comb_region x comb x.region _
          ∙ region_known x.region first (found_one x test) b _ h
          ∙ ap (λ l. if b then Some (wide first) else l)
          (takes_append around registers look (ToRegister x.region) o xs _ ∙ ap (λ l. takes around registers look (ToRegister x.region) l xs) (region_known x.region x.position (end_of body) c o k))

      pub while_hole : (g : ℕ) (o : Option BitVector) → takes around registers look (ToHole g) o while_drivers
          ≡ takes around registers look (ToHole g) (takes around registers look (ToHole g) o xs) (comb_goes groups islands x comb)
      while_hole g o =
          takes_append around registers look (ToHole g) o (comb_goes groups islands x comb) _
          ∙ ap (λ l. takes around registers look (ToHole g) l (comb_goes groups islands x comb)) (takes_append around registers look (ToHole g) o xs (goes x (end_of body) x.position ∷ []))

  -- REPEAT
  module _ (x : Stand) (n : ℕ) (xs : List PlainNetDriver) where
    pub repeat_region : (o : Option BitVector) (b : Bool) → (x.register == x.region) ≡ false → Says around registers look (both (end_of (suc (suc x.wire))) (in_earlier_round x n)) b
        → takes around registers look (ToRegister x.region) o (xs ++ counting x n) ≡ takes around registers look (ToRegister x.region) (if b then Some (wide x.position) else o) xs
    repeat_region o b apart h =
        takes_append around registers look (ToRegister x.region) o xs (counting x n)
        ∙ ap (λ l. takes around registers look (ToRegister x.region) l xs)
        (region_known x.region x.position (both (end_of (suc (suc x.wire))) (in_earlier_round x n)) b _ h
        ∙ ap (λ l. if b then Some (wide x.position) else l) (ap (λ s. takes_of around registers look s (drive (ToRegister x.register) (end_of x.wire) (word 0)) (takes_of around registers look s (drive (ToRegister x.register) (end_of (suc (suc x.wire))) (Sum (OfRegister x.register) (word 1))) o)) apart))

    pub repeat_hole : (g : ℕ) (o : Option BitVector) → takes around registers look (ToHole g) o (xs ++ counting x n) ≡ takes around registers look (ToHole g) o xs
    repeat_hole g o = takes_append around registers look (ToHole g) o xs (counting x n)
