-- What holds of lists holds of equal ones.
use Rattle.std.proofs.Common.{◌≡◌, List, sym, subst}
use Rattle.cx_bits.specs.BitVector.{BitVector}
use Rattle.cx_vnets.specs.declared.arrays.Words.{Words}
use Rattle.cx_vnets.specs.declared.codes.Code.{Code}
use Rattle.cx_vnets.specs.declared.edges.Set.{Set}
use Rattle.cx_vnets.specs.declared.stores.Store.{Store}
use Rattle.cx_vnets.specs.Edges.{SetsFit}
use Rattle.cx_vnets.specs.Stores.{StoresFit}

pub sets-along : (codes codes' : List Code) (values values' : List BitVector) (arrays arrays' : List Words) (sets sets' : List Set) → codes' ≡ codes → values' ≡ values → arrays' ≡ arrays → sets' ≡ sets
    → SetsFit codes values arrays sets → SetsFit codes' values' arrays' sets'
sets-along codes codes' values values' arrays arrays' sets sets' c v a x h =
    subst (λ (l : List Code). SetsFit l values' arrays' sets') (sym c)
    (subst (λ (l : List BitVector). SetsFit codes l arrays' sets') (sym v)
    (subst (λ (l : List Words). SetsFit codes values l sets') (sym a)
    (subst (λ (l : List Set). SetsFit codes values arrays l) (sym x) h)))

pub stores-along : (codes codes' : List Code) (values values' : List BitVector) (arrays arrays' : List Words) (stores stores' : List Store) → codes' ≡ codes → values' ≡ values → arrays' ≡ arrays → stores' ≡ stores
    → StoresFit codes values arrays stores → StoresFit codes' values' arrays' stores'
stores-along codes codes' values values' arrays arrays' stores stores' c v a x h =
    subst (λ (l : List Code). StoresFit l values' arrays' stores') (sym c)
    (subst (λ (l : List BitVector). StoresFit codes l arrays' stores') (sym v)
    (subst (λ (l : List Words). StoresFit codes values l stores') (sym a)
    (subst (λ (l : List Store). StoresFit codes values arrays l) (sym x) h)))
