-- Widths of nets by number.
use Rattle.std.proofs.Common.{◌≡◌, ℕ, zero, suc, ◌+◌, ◌-◌, ◌<◌, ⊎_elim, false, List, length, Some, option_map, slice_get, refl, ap, sym, ◌∙◌, subst, arith}
use Rattle.std.proofs.lemmas.Bool.{cases_lt}
use Rattle.std.proofs.lemmas.Option.{slice_get_within}
use Rattle.std.specs.Prelude.{IsSome}
use Rattle.cx_vtree.specs.Plain.{PlainExpr, PlainAssign, PlainStore}
use Rattle.cx_vtree.specs.InstanceTree.{Placed, ports_at, decls_at, nets_at, Origin, Outside, Tied, Held, Given, arrays_at}
use Rattle.cx_vtree.specs.Sound.{misnames, fitting_width}
use Rattle.cx_vnets.specs.declared.codes.Code.{Code}
use Rattle.cx_vnets.specs.declared.codes.NetPosition.{NetPosition}
use Rattle.cx_vnets.specs.declared.nets.Nets.{Nets}
use Rattle.cx_vnets.specs.declared.nets.Stored.{Stored}
use Rattle.cx_vnets.specs.declared.nets.Driver.{Driver}
use Rattle.cx_vnets.specs.declared.nets.Driver.TheVariants as driver
use Rattle.cx_vnets.specs.declared.edges.Set.{Set}
use Rattle.cx_vnets.specs.declared.stores.Store.{Store}
use Rattle.cx_vnets.specs.Arrays.{array_width}
use Rattle.cx_vnets.specs.Edges.{width_of}
use Rattle.cx_vnets.specs.Stores.{HasCode, StoreFits}
use Rattle.cx_vnets.specs.Fits.{width_at, width_in, Fits}
use Rattle.cx_vtree.specs.NameNumbers.{position}
use Rattle.cx_vnets.specs.ModuleCodes.{IsCode}
use Rattle.cx_vnets.specs.CodeLaws.{CodesHaveWidths}
use Rattle.cx_vnets.specs.EdgesFlat.{SetStands, StoreStands}
use Rattle.cx_vnets.specs.Numbers.{before, nets_before, arrays_before, place_of}
use Rattle.cx_vnets.specs.Flat.{CodeStands, DriverStands, NetsStand}
use Rattle.cx_velab.specs.Zeros.{widths_at}
use Rattle.cx_velab.specs.FitsLaws.{StoredHasWidths, scope_at, IsSound, IsAsWide, OriginsAreAsWide, NetsFit, SetIsAsWide, AllSetsFit, StoreIsAsWide, AllStoresFit}
use Rattle.cx_velab.proofs.ZeroLemmas.{length-net_widths}
use Rattle.cx_text.proofs.ListLaws.{there_at}

-- each number below the count is that of a place in a list
pub place_in : (lists : ℕ → List (List ℕ)) (n f : ℕ) → f < before lists n → (i : ℕ) × (k : ℕ) × (f ≡ before lists i + k) × (k < length (lists i))
place_in lists zero f lt = absurd (omega arith)
place_in lists (suc n) f lt = ⊎_elim
    (λ less. place_in lists n f less)
    (λ more.
    let step : before lists (suc n) ≡ before lists n + length (lists n) = refl in
    (n, f - before lists n, omega arith, omega arith))
    (cases_lt f (before lists n))

module _ (tree : List Placed) (n : Nets) (s : Stored) (stand : NetsStand tree n) (wide : StoredHasWidths tree s) (origins : OriginsAreAsWide tree) (widths : CodesHaveWidths) where
  -- what is known of the net of a number
  record KnownNet (f : ℕ) (x : Driver) : Type 0 where
    i : ℕ
    k : ℕ
    w : ℕ
    o : Origin
    is_wide : IsAsWide tree i w o
    stands : DriverStands tree n.codes.items i o x
    here : width_at s.nets.items f ≡ Some w

  known : (f : ℕ) (x : Driver) → slice_get n.drivers.items f ≡ Some x → KnownNet f x
  known f x at =
      let within = slice_get_within n.drivers.items f x at in
      let below : f < nets_before tree (length tree) = omega (arith, within, stand.count) in
      let p = place_in (nets_at tree) (length tree) f below in
      let name = there_at (nets_at tree p.0) p.1 p.3 in
      let long : p.1 < length (widths_at tree p.0) = let e = length-net_widths (ports_at tree p.0) (decls_at tree p.0) in omega (arith, e, p.3) in
      let w = there_at (widths_at tree p.0) p.1 long in
      let d = stand.each p.0 p.1 name.0 name.1 in
      let same : d.2.0 ≡ x = let e = subst (λ g. slice_get n.drivers.items g ≡ Some x) p.2 at in let g = d.2.1 in cc in
      record {
        i = p.0;
        k = p.1;
        w = w.0;
        o = d.0;
        is_wide = origins p.0 p.1 w.0 name.0 d.0 name.1 w.1 d.1;
        stands = subst (λ y. DriverStands tree n.codes.items p.0 d.0 y) same d.2.2;
        here = ap (width_at s.nets.items) p.2 ∙ wide.nets p.0 p.1 w.0 w.1;
      }

  tied_by : (i w g : ℕ) (o : Origin) → DriverStands tree n.codes.items i o (driver.Tied g) → IsAsWide tree i w o → width_at s.nets.items g ≡ Some w
  tied_by i w g Outside stands wide_by = absurd stands
  tied_by i w g (Held v) stands wide_by = absurd stands
  tied_by i w g (Given e) stands wide_by = absurd stands
  tied_by i w g (Tied j net) stands wide_by =
      let number : Some (nets_before tree j + wide_by.0) ≡ Some g = ap (option_map (λ k. nets_before tree j + k)) (sym wide_by.1) ∙ stands in
      let same : nets_before tree j + wide_by.0 ≡ g = cc in
      ap (width_at s.nets.items) (sym same) ∙ wide.nets j wide_by.0 w wide_by.2

  code_wide : (i w : ℕ) (code : Code) (e : PlainExpr) → misnames (scope_at tree i) e ≡ false → fitting_width (scope_at tree i) e ≡ Some w
      → IsCode (position (nets_at tree i)) (position (arrays_at tree i)) code e → width_in s (place_of tree i) code ≡ Some w
  code_wide i w code e named fits is =
      widths (ports_at tree i) (decls_at tree i) (λ k. width_at s.nets.items (nets_before tree i + k)) (λ a. array_width s.arrays.items (arrays_before tree i + a)) code e w
      (λ k v f. wide.nets i k v f) (λ a v f. wide.arrays i a v f) named fits is

  given_by : (i w f c : ℕ) (p : NetPosition) (o : Origin) → DriverStands tree n.codes.items i o (driver.Given c p) → IsAsWide tree i w o → width_at s.nets.items f ≡ Some w
      → (code : Code) × (slice_get n.codes.items c ≡ Some code) × (width_in s p code ≡ width_at s.nets.items f)
  given_by i w f c p Outside stands wide_by here = absurd stands
  given_by i w f c p (Held v) stands wide_by here = absurd stands
  given_by i w f c p (Tied j net) stands wide_by here = absurd stands
  given_by i w f c p (Given e) stands wide_by here =
      let code = stands.1 in
      (code.0, code.1, ap (λ q. width_in s q code.0) stands.0 ∙ code_wide i w code.0 e wide_by.0 wide_by.1 code.2 ∙ sym here)

  nets_fit : Fits n s
  nets_fit = record {
    long = stand.count ∙ sym wide.count;
    even = wide.even;
    tied = λ f g at. let r = known f (driver.Tied g) at in tied_by r.i r.w g r.o r.stands r.is_wide ∙ sym r.here;
    given = λ f c p at. let r = known f (driver.Given c p) at in given_by r.i r.w f c p r.o r.stands r.is_wide r.here;
  }

-- sets and stores, where the codes are those of the table
module _ (tree : List Placed) (table : List Code) (s : Stored) (wide : StoredHasWidths tree s) (widths : CodesHaveWidths) where
  width_at_place : (i w : ℕ) (p : NetPosition) (code : Code) (e : PlainExpr) → p ≡ place_of tree i → IsSound (scope_at tree i) e w
      → IsCode (position (nets_at tree i)) (position (arrays_at tree i)) code e → width_of s.nets.items s.arrays.items p code ≡ Some w
  width_at_place i w p code e is sound stands =
      ap (λ q. width_of s.nets.items s.arrays.items q code) is
      ∙ widths (ports_at tree i) (decls_at tree i) (λ k. width_at s.nets.items (nets_before tree i + k)) (λ a. array_width s.arrays.items (arrays_before tree i + a)) code e w
      (λ k v f. wide.nets i k v f) (λ a v f. wide.arrays i a v f) sound.0 sound.1 stands

  set_fits : (i : ℕ) (a : PlainAssign) (x : Set) → SetStands tree table i a x → SetIsAsWide tree i a
      → (c : Code) × (slice_get table x.code ≡ Some c) × ((w : ℕ) × (width_of s.nets.items s.arrays.items x.place c ≡ Some w) × (width_at s.nets.items x.net ≡ Some w))
  set_fits i a x stands wide_by =
      let number : Some (nets_before tree i + wide_by.number) ≡ Some x.net = ap (option_map (λ k. nets_before tree i + k)) (sym wide_by.net) ∙ stands.net in
      let same : nets_before tree i + wide_by.number ≡ x.net = cc in (
        stands.code.0,
        stands.code.1,
        (wide_by.width, width_at_place i wide_by.width x.place stands.code.0 a.value stands.place wide_by.value stands.code.2, ap (width_at s.nets.items) (sym same) ∙ wide.nets i wide_by.number wide_by.width wide_by.there),
      )

  has_code : (i w k : ℕ) (p : NetPosition) (e : PlainExpr) → p ≡ place_of tree i → IsSound (scope_at tree i) e w → CodeStands tree table i k e → HasCode table s.nets.items s.arrays.items p k
  has_code i w k p e is sound code = (code.0, code.1, subst IsSome (sym (width_at_place i w p code.0 e is sound code.2)) refl)

  store_fits : (i : ℕ) (a : PlainStore) (x : Store) → StoreStands tree table i a x → StoreIsAsWide tree i a → StoreFits table s.nets.items s.arrays.items x
  store_fits i a x stands wide_by =
      let number : Some (arrays_before tree i + wide_by.number) ≡ Some x.array = ap (option_map (λ k. arrays_before tree i + k)) (sym wide_by.array) ∙ stands.array in
      let same : arrays_before tree i + wide_by.number ≡ x.array = cc in
      record {
        guard = has_code i 1 x.guard x.place a.guard stands.place wide_by.guard stands.guard;
        index = has_code i wide_by.index_width x.index x.place a.index stands.place wide_by.index stands.index;
        value = has_code i wide_by.width x.value x.place a.value stands.place wide_by.value stands.value;
        wide = λ c at.
            let same_code : stands.value.0 ≡ c = let e = stands.value.1 in cc in
            ap (width_of s.nets.items s.arrays.items x.place) (sym same_code) ∙ width_at_place i wide_by.width x.place stands.value.0 a.value stands.place wide_by.value stands.value.2
            ∙ sym (ap (array_width s.arrays.items) (sym same) ∙ wide.arrays i wide_by.number wide_by.width wide_by.there);
      }

pub nets_fit_by : CodesHaveWidths → NetsFit
nets_fit_by widths tree n s stand wide origins = nets_fit tree n s stand wide origins widths

pub sets_fit_by : CodesHaveWidths → AllSetsFit
sets_fit_by widths tree table s sets reset stand wide wide_by j x at =
    let o = stand.only j x at in set_fits tree table s wide widths o.0 o.2 x o.4 (wide_by o.0 o.1 o.2 o.3)

pub stores_fit_by : CodesHaveWidths → AllStoresFit
stores_fit_by widths tree table s stores reset stand wide wide_by j x at =
    let o = stand.only j x at in store_fits tree table s wide widths o.0 o.2 x o.4 (wide_by o.0 o.1 o.2 o.3)
