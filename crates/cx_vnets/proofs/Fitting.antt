-- What fits by its widths fits whatever has the same widths.
use Rattle.std.proofs.Common.{◌≡◌, ℕ, ◌+◌, Bool, not, List, Some, IsSome, length, slice_set, refl, ap, sym, ◌∙◌, subst}
use Rattle.cx_bits.specs.BitVector.{BitVector}
use Rattle.cx_vnets.specs.declared.arrays.Words.{Words}
use Rattle.cx_vnets.specs.declared.codes.Code.{Code}
use Rattle.cx_vnets.specs.declared.codes.NetPosition.{NetPosition}
use Rattle.cx_vnets.specs.declared.edges.Set.{Set}
use Rattle.cx_vnets.specs.declared.stores.Store.{Store}
use Rattle.cx_vnets.specs.declared.nets.Stored.{Stored}
use Rattle.cx_vnets.specs.Arrays.{IsEven, array_width}
use Rattle.cx_vnets.specs.Codes.{code_width}
use Rattle.cx_vnets.specs.Fits.{width_at}
use Rattle.cx_vnets.specs.Edges.{width_of, SetsFit}
use Rattle.cx_vnets.specs.Search.{SameWidths}
use Rattle.cx_vnets.specs.Stores.{HasCode, StoresFit}
use Rattle.cx_vnets.specs.Widths.{HaveWidths}
use Rattle.cx_vnets.specs.declared.machines.Machine.{Machine}
use Rattle.cx_vnets.specs.declared.machines.Bench.{Bench}
use Rattle.cx_vnets.specs.Machines.{IsAfter}
use Rattle.cx_vnets.specs.Runs.{bit, WithInputs, IsReady}
use Rattle.cx_vnets.proofs.EdgeLemmas.{width_set, sets_width}
use Rattle.cx_vnets.proofs.WholeLooks.{same_length}

module _ (table : List Code) (values others : List BitVector) (arrays more : List Words)
    (same : SameWidths others values) (also : (a : ℕ) → array_width more a ≡ array_width arrays a) where
  width_path : (p : NetPosition) (c : Code) → width_of others more p c ≡ width_of values arrays p c
  width_path p c = λ t. code_width (λ k. same (p.nets + k) t) (λ a. also (p.arrays + a) t) c

  pub sets_moved : (sets : List Set) → SetsFit table values arrays sets → SetsFit table others more sets
  sets_moved sets fits j x at = let r = fits j x at in (r.0, r.1, (r.2.0, width_path x.place r.0 ∙ r.2.1, same x.net ∙ r.2.2))

  code_moved : (p : NetPosition) (k : ℕ) → HasCode table values arrays p k → HasCode table others more p k
  code_moved p k h = (h.0, h.1, subst IsSome (sym (width_path p h.0)) h.2)

  pub stores_moved : (stores : List Store) → StoresFit table values arrays stores → StoresFit table others more stores
  stores_moved stores fits j x at =
      let f = fits j x at in
      record {
        guard = code_moved x.place x.guard f.guard;
        index = code_moved x.place x.index f.index;
        value = code_moved x.place x.value f.value;
        wide = λ c here. width_path x.place c ∙ f.wide c here ∙ sym (also x.array);
      }

-- what is stored fits the edges of the machine, and its inputs have one bit
pub record IsFitting (m : Machine) (s : Stored) : Type 0 where
  pub long : length s.nets.items ≡ length m.nets.drivers.items
  pub resets : SetsFit m.nets.codes.items s.nets.items s.arrays.items m.resets.items
  pub sets : SetsFit m.nets.codes.items s.nets.items s.arrays.items m.sets.items
  pub stores : StoresFit m.nets.codes.items s.nets.items s.arrays.items m.stores.items
  pub reset : width_at s.nets.items m.reset ≡ Some 1
  pub go : width_at s.nets.items m.go ≡ Some 1

pub fitting_ready : (m : Machine) (s : Stored) (b : Bench) → IsReady m s b → IsFitting m s
fitting_ready m s b ready = record { long = sym ready.fits.long; resets = ready.resets; sets = ready.sets; stores = ready.stores; reset = ready.reset; go = ready.go }

module _ (m : Machine) (s : Stored) (fit : IsFitting m s) where
  pub fitting_moved : (t : Stored) → SameWidths t.nets.items s.nets.items → ((a : ℕ) → array_width t.arrays.items a ≡ array_width s.arrays.items a) → IsFitting m t
  fitting_moved t same also = record {
    long = same_length t.nets.items s.nets.items same ∙ fit.long;
    resets = sets_moved m.nets.codes.items s.nets.items t.nets.items s.arrays.items t.arrays.items same also m.resets.items fit.resets;
    sets = sets_moved m.nets.codes.items s.nets.items t.nets.items s.arrays.items t.arrays.items same also m.sets.items fit.sets;
    stores = stores_moved m.nets.codes.items s.nets.items t.nets.items s.arrays.items t.arrays.items same also m.stores.items fit.stores;
    reset = same m.reset ∙ fit.reset;
    go = same m.go ∙ fit.go;
  }

  pub fitting_inputs : (one : Bool) (t : Stored) → WithInputs m one s t → IsFitting m t
  fitting_inputs one t inputs =
      fitting_moved t
      (λ f.
      ap (λ l. width_at l f) inputs.nets
      ∙ width_set (slice_set s.nets.items m.reset (bit one)) m.go (bit (not one)) (width_set s.nets.items m.reset (bit one) fit.reset m.go ∙ fit.go) f
      ∙ width_set s.nets.items m.reset (bit one) fit.reset f)
      (λ a. ap (λ l. array_width l a) inputs.arrays)

  module _ (values : List BitVector) (widths : SameWidths values s.nets.items) where
    pub sets_by_values : (sets : List Set) → SetsFit m.nets.codes.items s.nets.items s.arrays.items sets → SetsFit m.nets.codes.items values s.arrays.items sets
    sets_by_values sets fits = sets_moved m.nets.codes.items s.nets.items values s.arrays.items s.arrays.items widths (λ a. refl) sets fits

    pub stores_by_values : StoresFit m.nets.codes.items values s.arrays.items m.stores.items
    stores_by_values = stores_moved m.nets.codes.items s.nets.items values s.arrays.items s.arrays.items widths (λ a. refl) m.stores.items fit.stores

    -- an edge keeps the widths of nets
    pub edge_widths : HaveWidths → IsEven s.arrays.items → (sets : List Set) (stores : List Store) (t : Stored) → SetsFit m.nets.codes.items values s.arrays.items sets
        → IsAfter m.nets.codes.items sets stores values s t → SameWidths t.nets.items s.nets.items
    edge_widths have even sets stores t fits after f =
        ap (λ l. width_at l f) after.registers
        ∙ sets_width have m.nets.codes.items values s.arrays.items even sets s.nets.items fits (λ g. sym (widths g)) f
        ∙ widths f
