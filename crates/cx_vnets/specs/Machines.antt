-- What changes at an edge.
use Rattle.std.specs.Prelude.{◌≡◌, ℕ, List, map}
use Rattle.cx_bits.specs.BitVector.{BitVector}
use Rattle.cx_vnets.specs.declared.codes.Code.{Code}
use Rattle.cx_vnets.specs.declared.edges.Set.{Set}
use Rattle.cx_vnets.specs.declared.nets.Stored.{Stored}
use Rattle.cx_vnets.specs.declared.stores.Store.{Store}
use Rattle.cx_vnets.specs.Arrays.{IsEven, array_width}
use Rattle.cx_vnets.specs.Edges.{after_sets}
use Rattle.cx_vnets.specs.Search.{SameWidths}
use Rattle.cx_vnets.specs.Stores.{plain_words, write_of, after_writes}

-- what is stored after an edge: registers and words all change at once, by the values before it
pub record IsAfter (codes : List Code) (sets : List Set) (stores : List Store) (values : List BitVector)
    (before after : Stored) : Type 0 where
  pub registers : after.nets.items ≡ after_sets codes values before.arrays.items sets before.nets.items
  pub words : map plain_words after.arrays.items ≡
      after_writes stores (map (write_of codes values before.arrays.items) stores)
      (map plain_words before.arrays.items)

-- all widths stay
pub record KeepsWidths (before after : Stored) : Type 0 where
  pub nets : SameWidths after.nets.items before.nets.items
  pub arrays : (a : ℕ) → array_width after.arrays.items a ≡ array_width before.arrays.items a
  pub even : IsEven after.arrays.items
