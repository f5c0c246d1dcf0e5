-- Zeros at the numbers of nets and arrays.
use Rattle.std.proofs.Common.{◌≡◌, ℕ, zero, suc, ◌+◌, ◌==◌, Bool, true, false, List, [], ◌∷◌, ◌++◌, map, length, Option, Some, option_map, option_and_then, slice_get, refl, ap, sym, ◌∙◌, length-append, arith, if◌then◌else◌}
use Rattle.std.specs.Prelude.{replicate, nat_lt, unwrap_or}
use Rattle.std.specs.Cmp.Lexicographic.{same_text, bytes_decides}
use Rattle.std.proofs.lemmas.Option.{slice_get-map}
use Rattle.cx_bits.specs.BitVector.{BitVector, zero_of}
use Rattle.cx_vtree.specs.Plain.{PlainPort, PlainDecl, WireOf, RegisterOf, ArrayOf}
use Rattle.cx_vtree.specs.InstanceTree as kinds
use Rattle.cx_vtree.specs.InstanceTree.{Placed, same_name, ports_at, decls_at, declared_nets, nets_at, NetKind, declared_kind, kind_in, net_of, driving_output, assigned, origin_by, origin_of, Held, declared_arrays, arrays_at}
use Rattle.cx_vtree.specs.Meaning.{word_in}
use Rattle.cx_vtree.specs.Edges.{array_size}
use Rattle.cx_vnets.specs.declared.arrays.Words.{Words}
use Rattle.cx_vnets.specs.Arrays.{word_of}
use Rattle.cx_vnets.specs.Stores.{PlainWords, plain_words}
use Rattle.cx_vnets.specs.CodeLaws.{declared_widths, net_widths}
use Rattle.cx_vnets.specs.Numbers.{before, nets_before, arrays_before}
use Rattle.cx_velab.specs.Tables.{module_zeros, zero_arrays, all_zeros, all_zero_arrays}
use Rattle.cx_velab.specs.Zeros.{widths_at, ZerosHaveWidths}
use Rattle.cx_vtree.proofs.InstanceTreeLemmas.{input_unheld, output_unheld, assigned_unheld}
use Rattle.cx_text.proofs.BoolLaws.{either_zero}
use Rattle.cx_text.proofs.ListLaws.{behind, front, length-map, slice_get-next}
use Rattle.cx_text.proofs.OptionLaws.{bind_some}

-- a first list comes before the others
pub before_first : (lists more : ℕ → List (List ℕ)) → ((i : ℕ) → lists (suc i) ≡ more i) → (i : ℕ) → before lists (suc i) ≡ length (lists 0) + before more i
before_first lists more same zero = omega arith
before_first lists more same (suc i) =
    let e = before_first lists more same i in
    let f : length (lists (suc i)) ≡ length (more i) = ap length (same i) in
    omega arith

length-widths : (ds : List PlainDecl) → length (declared_widths ds) ≡ length (declared_nets ds)
length-widths [] = refl
length-widths (WireOf n w ∷ ds) = ap suc (length-widths ds)
length-widths (RegisterOf n w ∷ ds) = ap suc (length-widths ds)
length-widths (ArrayOf n w k ∷ ds) = length-widths ds

pub length-net_widths : (ps : List PlainPort) (ds : List PlainDecl) → length (net_widths ps ds) ≡ length (map (λ p. p.name) ps ++ declared_nets ds)
length-net_widths [] ds = length-widths ds
length-net_widths (p ∷ ps) ds = ap suc (length-net_widths ps ds)

length-zero_arrays : (ds : List PlainDecl) → length (zero_arrays ds) ≡ length (declared_arrays ds)
length-zero_arrays [] = refl
length-zero_arrays (WireOf n w ∷ ds) = length-zero_arrays ds
length-zero_arrays (RegisterOf n w ∷ ds) = length-zero_arrays ds
length-zero_arrays (ArrayOf n w k ∷ ds) = ap suc (length-zero_arrays ds)

pub zeros_at : ZerosHaveWidths
zeros_at [] i k w e = absurd (cc)
zeros_at (p ∷ ps) zero k w e =
    let at : slice_get (module_zeros p.part) k ≡ Some (zero_of w) = slice_get-map zero_of (net_widths p.part.ports p.part.decls) k ∙ ap (option_map zero_of) e in
    let same : 0 + k ≡ k = omega arith in
    ap (slice_get (all_zeros (p ∷ ps))) same ∙ front (module_zeros p.part) (all_zeros ps) k (zero_of w) at
zeros_at (p ∷ ps) (suc i) k w e =
    let first = before_first (nets_at (p ∷ ps)) (nets_at ps) (λ j. refl) i in
    let long = length-map zero_of (net_widths p.part.ports p.part.decls) ∙ length-net_widths p.part.ports p.part.decls in
    let index : nets_before (p ∷ ps) (suc i) + k ≡ length (module_zeros p.part) + (nets_before ps i + k) = omega arith in
    behind (module_zeros p.part) (all_zeros ps) (nets_before (p ∷ ps) (suc i) + k) (nets_before ps i + k) index ∙ zeros_at ps i k w e

pub zero_arrays_at : (tree : List Placed) (i a : ℕ) (x : PlainWords) → slice_get (zero_arrays (decls_at tree i)) a ≡ Some x → slice_get (all_zero_arrays tree) (arrays_before tree i + a) ≡ Some x
zero_arrays_at [] i a x e = absurd (cc)
zero_arrays_at (p ∷ ps) zero a x e =
    let same : 0 + a ≡ a = omega arith in
    ap (slice_get (all_zero_arrays (p ∷ ps))) same ∙ front (zero_arrays p.part.decls) (all_zero_arrays ps) a x e
zero_arrays_at (p ∷ ps) (suc i) a x e =
    let first = before_first (arrays_at (p ∷ ps)) (arrays_at ps) (λ j. refl) i in
    let long = length-zero_arrays p.part.decls in
    let index : arrays_before (p ∷ ps) (suc i) + a ≡ length (zero_arrays p.part.decls) + (arrays_before ps i + a) = omega arith in
    behind (zero_arrays p.part.decls) (all_zero_arrays ps) (arrays_before (p ∷ ps) (suc i) + a) (arrays_before ps i + a) index ∙ zero_arrays_at ps i a x e

-- as many arrays as there are names of arrays
pub zero_arrays_count : (tree : List Placed) → length (all_zero_arrays tree) ≡ arrays_before tree (length tree)
zero_arrays_count [] = refl
zero_arrays_count (p ∷ ps) =
    let first = before_first (arrays_at (p ∷ ps)) (arrays_at ps) (λ j. refl) (length ps) in
    let long = length-zero_arrays p.part.decls in
    let both = length-append (zero_arrays p.part.decls) (all_zero_arrays ps) in
    let rest = zero_arrays_count ps in
    omega arith

-- a name stands somewhere, with a width
abbrev Stands : List (List ℕ) → List ℕ → List ℕ → ℕ → Type 0
Stands names widths name w = (h : ℕ) × (slice_get names h ≡ Some name) × (slice_get widths h ≡ Some w)

stands_later : (x name : List ℕ) (names : List (List ℕ)) (v w : ℕ) (widths : List ℕ) → Stands names widths name w → Stands (x ∷ names) (v ∷ widths) name w
stands_later x name names v w widths h = (suc h.0, slice_get-next x names h.0 ∙ h.1, slice_get-next v widths h.0 ∙ h.2)

by_kind : (P : Option NetKind → Type 0) (t : Bool) (a b : Option NetKind) → (t ≡ true → P a) → (t ≡ false → P b) → P (if t then a else b)
by_kind P true a b h k = h refl
by_kind P false a b h k = k refl

decl_stands : (ds : List PlainDecl) (name : List ℕ) (w : ℕ) → declared_kind ds name ≡ Some (kinds.Stored w) → Stands (declared_nets ds) (declared_widths ds) name w
decl_stands [] name w = λ e. absurd (cc)
decl_stands (WireOf x v ∷ ds) name w =
    by_kind (λ o. o ≡ Some (kinds.Stored w) → Stands (x ∷ declared_nets ds) (v ∷ declared_widths ds) name w) (same_name x name) (Some kinds.Driven) (declared_kind ds name)
    (λ e f. absurd (cc))
    (λ e f. stands_later x name (declared_nets ds) v w (declared_widths ds) (decl_stands ds name w f))
decl_stands (RegisterOf x v ∷ ds) name w =
    by_kind (λ o. o ≡ Some (kinds.Stored w) → Stands (x ∷ declared_nets ds) (v ∷ declared_widths ds) name w) (same_name x name) (Some (kinds.Stored v)) (declared_kind ds name)
    (λ e f. let same : v ≡ w = cc in (0, ap Some (same_text x name (sym e)), ap Some same))
    (λ e f. stands_later x name (declared_nets ds) v w (declared_widths ds) (decl_stands ds name w f))
decl_stands (ArrayOf x v k ∷ ds) name w = decl_stands ds name w

port_unstored : (o : Bool) (w : ℕ) → Some (if o then kinds.Driven else kinds.Input) ≡ Some (kinds.Stored w) → ⊥
port_unstored true w e = absurd (cc)
port_unstored false w e = absurd (cc)

-- a register stands at its place, with its width
register_stands : (ps : List PlainPort) (ds : List PlainDecl) (name : List ℕ) (w : ℕ) → kind_in ps ds name ≡ Some (kinds.Stored w) → Stands (map (λ p. p.name) ps ++ declared_nets ds) (net_widths ps ds) name w
register_stands [] ds name w = decl_stands ds name w
register_stands (p ∷ ps) ds name w =
    by_kind (λ o. o ≡ Some (kinds.Stored w) → Stands (p.name ∷ (map (λ q. q.name) ps ++ declared_nets ds)) (p.width ∷ net_widths ps ds) name w) (same_name p.name name) (Some (if p.output then kinds.Driven else kinds.Input)) (kind_in ps ds name)
    (λ e f. absurd (port_unstored p.output w f))
    (λ e f. stands_later p.name name (map (λ q. q.name) ps ++ declared_nets ds) p.width w (net_widths ps ds) (register_stands ps ds name w f))

held_kind : (tree : List Placed) (i w : ℕ) (p : Placed) (name : List ℕ) (kind : NetKind) → origin_by tree i p name kind ≡ Some (Held w) → kind ≡ kinds.Stored w
held_kind tree i w p name kinds.Input e = absurd (input_unheld (i == 0) (net_of p.conns name) p.holder w e)
held_kind tree i w p name kinds.Driven e = absurd (assigned_unheld (assigned p.part.assigns name) (driving_output tree 0 i name) w (output_unheld tree 0 i w name) e)
held_kind tree i w p name (kinds.Stored v) e = cc

-- a register of an instance stands at its place, with its width
pub held_stands : (tree : List Placed) (i w : ℕ) (name : List ℕ) → origin_of tree i name ≡ Some (Held w) → Stands (nets_at tree i) (widths_at tree i) name w
held_stands tree i w name e =
    let p = bind_some (λ p. option_and_then (origin_by tree i p name) (kind_in p.part.ports p.part.decls name)) (slice_get tree i) (Held w) e in
    let k = bind_some (origin_by tree i p.0 name) (kind_in p.0.part.ports p.0.part.decls name) (Held w) p.2 in
    let stored = k.1 ∙ ap Some (held_kind tree i w p.0 name k.0 k.2) in
    rw p.1 (register_stands p.0.part.ports p.0.part.decls name w stored)

-- an array of zeros
abbrev pub zeros : ℕ → ℕ → PlainWords
zeros w k = record { zero = zero_of w; words = replicate k (zero_of w) }

-- the first array of a name
abbrev IsZeros : List PlainDecl → List ℕ → Type 0
IsZeros ds name =
    (h : ℕ) × (w : ℕ) × (k : ℕ) × (slice_get (declared_arrays ds) h ≡ Some name) × (slice_get (zero_arrays ds) h ≡ Some (zeros w k)) × (array_size ds name ≡ k)
    × ((index : ℕ) → word_in (λ n i. 0) ds name index ≡ zero_of w)

array_here : (n name : List ℕ) (w k : ℕ) (ds : List PlainDecl) → same_name n name ≡ true → IsZeros (ArrayOf n w k ∷ ds) name
array_here n name w k ds e = (
  0,
  w,
  k,
  ap Some (same_text n name (sym e)),
  refl,
  ap (λ t. if t then k else array_size ds name) e,
  λ index. ap (λ t. if t then record { width = w; value = if nat_lt index k then 0 else 0 } else word_in (λ n i. 0) ds name index) e ∙ ap (λ v. record { width = w; value = v }) (either_zero (nat_lt index k)),
)

array_later : (n name : List ℕ) (w k : ℕ) (ds : List PlainDecl) → same_name n name ≡ false → IsZeros ds name → IsZeros (ArrayOf n w k ∷ ds) name
array_later n name w k ds e r = (
  suc r.0,
  r.1,
  r.2,
  slice_get-next n (declared_arrays ds) r.0 ∙ r.3,
  slice_get-next (zeros w k) (zero_arrays ds) r.0 ∙ r.4,
  ap (λ t. if t then k else array_size ds name) e ∙ r.5,
  λ index. ap (λ t. if t then record { width = w; value = if nat_lt index k then 0 else 0 } else word_in (λ n i. 0) ds name index) e ∙ r.6 index,
)

by_name : (P : Type 0) (t : Bool) → (t ≡ true → P) → (t ≡ false → P) → P
by_name P true h k = h refl
by_name P false h k = k refl

unlike : (n name : List ℕ) → same_name n name ≡ false → Some n ≡ Some name → ⊥
unlike n name e f =
    let same : n ≡ name = cc in
    let is : same_name n name ≡ true = (bytes_decides n name).1 same in
    absurd (cc)

pub array_stands : (ds : List PlainDecl) (a : ℕ) (name : List ℕ) → slice_get (declared_arrays ds) a ≡ Some name → IsZeros ds name
array_stands [] a name e = absurd (cc)
array_stands (WireOf n w ∷ ds) a name e = array_stands ds a name e
array_stands (RegisterOf n w ∷ ds) a name e = array_stands ds a name e
array_stands (ArrayOf n w k ∷ ds) zero name e =
    by_name (IsZeros (ArrayOf n w k ∷ ds) name) (same_name n name) (array_here n name w k ds) (λ f. absurd (unlike n name f e))
array_stands (ArrayOf n w k ∷ ds) (suc a) name e =
    by_name (IsZeros (ArrayOf n w k ∷ ds) name) (same_name n name) (array_here n name w k ds) (λ f. array_later n name w k ds f (array_stands ds a name e))

word_zero : (w k index : ℕ) → unwrap_or (slice_get (replicate k (zero_of w)) index) (zero_of w) ≡ zero_of w
word_zero w zero index = refl
word_zero w (suc k) zero = refl
word_zero w (suc k) (suc index) = word_zero w k index

length-zeros : (w k : ℕ) → length (replicate k (zero_of w)) ≡ k
length-zeros w zero = refl
length-zeros w (suc k) = ap suc (length-zeros w k)

-- the words of an array of zeros
pub zero_word : (x : Words) (w k index : ℕ) → plain_words x ≡ zeros w k → word_of x index ≡ zero_of w
zero_word x w k index e =
    ap (λ p. unwrap_or (slice_get p.words index) p.zero) e ∙ word_zero w k index

pub zero_count : (x : Words) (w k : ℕ) → plain_words x ≡ zeros w k → length x.words.items ≡ k
zero_count x w k e = ap (λ p. length p.words) e ∙ length-zeros w k

pub outside_zero : (t u : Bool) → ◌≡◌ {A = BitVector} (zero_of 1) (record { width = 1; value = if t then 0 else (if u then 0 else 0) })
outside_zero true u = refl
outside_zero false true = refl
outside_zero false false = refl
