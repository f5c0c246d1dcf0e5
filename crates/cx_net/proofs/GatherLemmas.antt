-- What is gathered at the ports of a cell.
use Rattle.std.proofs.Common.{◌≡◌, ℕ, zero, suc, ◌+◌, ◌<◌, Bool, true, false, List, [], ◌∷◌, length, Option, Some, None, option_and_then, option_map, slice_get, refl, ap, sym, ◌∙◌, subst, if◌then◌else◌, arith}
use Rattle.std.specs.Prelude.{IsSome, unwrap_or}
use Rattle.cx_bits.specs.BitVector.{BitVector, zero_of}
use Rattle.cx_prim.specs.declared.ports.PortRow.{PortRow}
use Rattle.cx_prim.specs.Rows.{Inputs, input}
use Rattle.cx_meaning.specs.declared.ports.PortRef.TheVariants as ports
use Rattle.cx_net.specs.NetMeaning.{APort, NetLook, gather_known}
use Rattle.cx_net.specs.NetEdges.{inputs_from}

-- a list with an entry for each port, each as it is known, and all that are wanted
pub record IsGathered (look : ℕ → Option BitVector) (wanted : ℕ → Bool) (first : ℕ) (rows : List PortRow) (inputs : Inputs) : Type 0 where
  pub count : length inputs ≡ length rows
  pub from : (n : ℕ) (x : BitVector) → input inputs n ≡ Some x → look (first + n) ≡ Some x
  pub all : (n : ℕ) → n < length rows → wanted (first + n) ≡ true → IsSome (input inputs n)

module _ (look : ℕ → Option BitVector) (wanted : ℕ → Bool) where
  one_more : (first : ℕ) (row : PortRow) (rows : List PortRow) (x : Option BitVector) (inputs : Inputs) → ((y : BitVector) → x ≡ Some y → look first ≡ Some y) → (wanted first ≡ true → IsSome x)
      → IsGathered look wanted (suc first) rows inputs → IsGathered look wanted first (row ∷ rows) (x ∷ inputs)
  one_more first row rows x inputs known given g = record { count = ap suc g.count; from = from; all = all } where
    from : (n : ℕ) (y : BitVector) → input (x ∷ inputs) n ≡ Some y → look (first + n) ≡ Some y
    from zero y e = let same : first ≡ first + 0 = omega arith in subst (λ q. look q ≡ Some y) same (known y e)
    from (suc n) y e = let same : suc first + n ≡ first + suc n = omega arith in subst (λ q. look q ≡ Some y) same (g.from n y e)

    all : (n : ℕ) → n < length (row ∷ rows) → wanted (first + n) ≡ true → IsSome (input (x ∷ inputs) n)
    all zero lt w = let same : first + 0 ≡ first = omega arith in given (subst (λ q. wanted q ≡ true) same w)
    all (suc n) lt w = let same : first + suc n ≡ suc first + n = omega arith in g.all n (omega arith) (subst (λ q. wanted q ≡ true) same w)

  gathered_from : (first : ℕ) (rows : List PortRow) (inputs : Inputs) → gather_known look wanted first rows ≡ Some inputs → IsGathered look wanted first rows inputs
  gathered_from first [] inputs e =
      let same : [] ≡ inputs = cc in
      subst (IsGathered look wanted first []) same (record { count = refl; from = λ n x f. absurd (cc); all = λ n lt w. absurd (omega arith) })
  gathered_from first (row ∷ rows) inputs e = go (wanted first) refl e (gathered_from (suc first) rows) where
    rest : Option Inputs
    rest = gather_known look wanted (suc first) rows

    with_one : (x : Option BitVector) (o : Option Inputs) → gather_known look wanted (suc first) rows ≡ o → option_map (λ more. x ∷ more) o ≡ Some inputs
        → ((y : BitVector) → x ≡ Some y → look first ≡ Some y) → (wanted first ≡ true → IsSome x)
        → ((more : Inputs) → gather_known look wanted (suc first) rows ≡ Some more → IsGathered look wanted (suc first) rows more) → IsGathered look wanted first (row ∷ rows) inputs
    with_one x None is f known given later = absurd (cc)
    with_one x (Some more) is f known given later =
        let same : x ∷ more ≡ inputs = cc in
        subst (IsGathered look wanted first (row ∷ rows)) same (one_more first row rows x more known given (later more is))

    read : (o : Option BitVector) → look first ≡ o → option_and_then (λ b. option_map (λ more. Some b ∷ more) (gather_known look wanted (suc first) rows)) o ≡ Some inputs
        → ((more : Inputs) → gather_known look wanted (suc first) rows ≡ Some more → IsGathered look wanted (suc first) rows more) → IsGathered look wanted first (row ∷ rows) inputs
    read None is f later = absurd (cc)
    read (Some b) is f later = with_one (Some b) (gather_known look wanted (suc first) rows) refl f (λ y same. is ∙ same) (λ w. refl) later

    go : (b : Bool) → wanted first ≡ b
        → (if b then option_and_then (λ b. option_map (λ more. Some b ∷ more) (gather_known look wanted (suc first) rows)) (look first) else option_map (λ more. None ∷ more) (gather_known look wanted (suc first) rows)) ≡ Some inputs
        → ((more : Inputs) → gather_known look wanted (suc first) rows ≡ Some more → IsGathered look wanted (suc first) rows more) → IsGathered look wanted first (row ∷ rows) inputs
    go true is f later = read (look first) refl f later
    go false is f later = with_one None (gather_known look wanted (suc first) rows) refl f (λ y same. absurd (cc)) (λ w. absurd (let wrong = sym is ∙ w in cc)) later

  -- of all ports
  pub gathered : (rows : List PortRow) (inputs : Inputs) → gather_known look wanted 0 rows ≡ Some inputs
      → (length inputs ≡ length rows) × ((n : ℕ) (x : BitVector) → input inputs n ≡ Some x → look n ≡ Some x) × ((n : ℕ) → n < length rows → wanted n ≡ true → IsSome (input inputs n))
  gathered rows inputs e =
      let g = gathered_from 0 rows inputs e in (
        g.count,
        λ n x f. let same : 0 + n ≡ n = omega arith in subst (λ q. look q ≡ Some x) same (g.from n x f),
        λ n lt w. let same : n ≡ 0 + n = omega arith in g.all n lt (subst (λ q. wanted q ≡ true) same w),
      )

-- nothing at any port
abbrev pub no_inputs : List PortRow → Inputs
no_inputs [] = []
no_inputs (row ∷ rows) = None ∷ no_inputs rows

pub length-no_inputs : (rows : List PortRow) → length (no_inputs rows) ≡ length rows
length-no_inputs [] = refl
length-no_inputs (row ∷ rows) = ap suc (length-no_inputs rows)

pub input-no_inputs : (rows : List PortRow) (n : ℕ) → input (no_inputs rows) n ≡ None
input-no_inputs [] n = refl
input-no_inputs (row ∷ rows) zero = refl
input-no_inputs (row ∷ rows) (suc n) = input-no_inputs rows n

pub input_within : (inputs : Inputs) (n : ℕ) (x : BitVector) → input inputs n ≡ Some x → n < length inputs
input_within [] n x e = absurd (cc)
input_within (y ∷ inputs) zero x e = omega arith
input_within (y ∷ inputs) (suc n) x e = let h = input_within inputs n x e in omega arith

-- what stands at the ports in a look
pub length-inputs_from : (look : NetLook) (c first : ℕ) (rows : List PortRow) → length (inputs_from look c first rows) ≡ length rows
length-inputs_from look c first [] = refl
length-inputs_from look c first (row ∷ rows) = ap suc (length-inputs_from look c (suc first) rows)

input-inputs_from : (look : NetLook) (c first : ℕ) (rows : List PortRow) (n : ℕ) (row : PortRow) → slice_get rows n ≡ Some row
    → input (inputs_from look c first rows) n ≡ Some (unwrap_or (look [] (APort (ports.Cell c (first + n)))) (zero_of row.width))
input-inputs_from look c first [] n row e = absurd (cc)
input-inputs_from look c first (x ∷ rows) zero row e =
    let same : x ≡ row = cc in
    let place : first ≡ first + 0 = omega arith in
    ap (λ (q : ℕ). Some (unwrap_or (look [] (APort (ports.Cell c q))) (zero_of x.width))) place ∙ ap (λ (y : PortRow). Some (unwrap_or (look [] (APort (ports.Cell c (first + 0)))) (zero_of y.width))) same
input-inputs_from look c first (x ∷ rows) (suc n) row e =
    let place : suc first + n ≡ first + suc n = omega arith in
    input-inputs_from look c (suc first) rows n row e ∙ ap (λ (q : ℕ). Some (unwrap_or (look [] (APort (ports.Cell c q))) (zero_of row.width))) place

pub input-from_look : (look : NetLook) (c : ℕ) (rows : List PortRow) (n : ℕ) (row : PortRow) → slice_get rows n ≡ Some row
    → input (inputs_from look c 0 rows) n ≡ Some (unwrap_or (look [] (APort (ports.Cell c n))) (zero_of row.width))
input-from_look look c rows n row e =
    let place : 0 + n ≡ n = omega arith in
    input-inputs_from look c 0 rows n row e ∙ ap (λ (q : ℕ). Some (unwrap_or (look [] (APort (ports.Cell c q))) (zero_of row.width))) place
