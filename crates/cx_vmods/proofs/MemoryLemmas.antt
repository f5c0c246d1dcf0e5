-- The addresses of a memory stand at its first ports, and the word at them is read.
use Rattle.std.specs.Prelude.{◌≡◌, ◌≢◌, ℕ, ◌+◌, ◌%◌, ◌^◌, ◌<◌, ◌≤◌, ◌==◌, Bool, true, false, List, [], ◌∷◌, ◌++◌, Option, Some, IsSome, is_none, nat_le, nat_lt, slice_get, slice_index, slice_set, length, option_map, option_and_then, replicate, if◌then◌else◌, codes, refl}
use Rattle.std.specs.List.{list_all}
use Rattle.std.proofs.Common.{ap, sym, ◌∙◌, subst, arith, eq-eqb}
use Rattle.std.proofs.Math.Nat.{mod-eq_of_lt}
use Rattle.std.proofs.lemmas.Nat.{pow_pos}
use Rattle.std.proofs.lemmas.Bool.{eqb-true, ltb-true}
use Rattle.std.proofs.lemmas.List.{get_or-set_other, get_or-replicate, length-replicate}
use Rattle.std.proofs.lemmas.Grind.{get_or-set_at}
use Rattle.cx_bits.specs.BitVector.{BitVector, of_width}
use Rattle.cx_bits.specs.Operators.{bit_of}
use Rattle.cx_text.specs.Loading.{word_count}
use Rattle.cx_prim.specs.declared.ports.PortName.{PortName}
use Rattle.cx_prim.specs.declared.ports.PortName.TheVariants.{Addr0, Addr1, Addr2, Addr3}
use Rattle.cx_prim.specs.declared.ports.PortRow.{PortRow}
use Rattle.cx_prim.specs.PortNames.{text_of}
use Rattle.cx_prim.specs.CellStates.{CellState}
use Rattle.cx_prim.specs.Rows.{Inputs, Row, input, value_at}
use Rattle.cx_prim.proofs.RowTools.{value_at_fits}
use Rattle.cx_prim.specs.CombinationalRows.{plain_port}
use Rattle.cx_prim.specs.MemoryRows.{are_sizes, address_ports, first_beyond, word_number, word_at, written}
use Rattle.cx_vtree.specs.Plain.{PlainModule}
use Rattle.cx_vtree.specs.InstanceTree.{Placed}
use Rattle.cx_vtree.specs.Meaning.{Moment, HasValue, expr_in}
use Rattle.cx_vmods.specs.Spelling.{spelled}
use Rattle.cx_vmods.specs.Addresses.{address}
use Rattle.cx_vmods.specs.Memories.{read}
use Rattle.cx_vmods.specs.Modules.{ports_of}
use Rattle.cx_vmods.specs.Stands.{Kept, HasWords}
use Rattle.cx_vmods.specs.Built.{port_net, IsAt}
use Rattle.cx_vmods.specs.Inside.{Known, known, found, AreKnown}
use Rattle.cx_vmods.proofs.InsideLemmas.{also_known}
use Rattle.cx_vmods.proofs.InputLemmas.{input_has, value_at-input, port_net-row}
use Rattle.cx_vmods.proofs.EdgeLemmas.{after_store}
use Rattle.cx_vmods.proofs.AddressLemmas.{AddressesAre, word_number-below}
use Rattle.cx_text.proofs.BoolLaws.{and_right}

-- the addresses from n on, with what stands at them
abbrev pub addresses : Inputs → ℕ → List ℕ → List Known
addresses inputs n [] = []
addresses inputs n (width ∷ widths) = known (spelled (address n)) width (value_at inputs n) ∷ addresses inputs (n + 1) widths

-- the ports of a row are addresses of these widths, and others behind them
pub record HasAddresses (m : PlainModule) (row : Row) (widths : List ℕ) (tail : List PortRow) : Type 0 where
  pub ports : row.ports ≡ address_ports widths ++ tail
  pub nets : m.ports ≡ ports_of row

module _ {m : PlainModule} {row : Row} {StandFor : Kept → CellState → Type 0} {tree : List Placed} {now : Moment} {j : ℕ} {state : CellState} {inputs : Inputs} (tail : List PortRow)
    (at : IsAt m row StandFor tree now j state inputs) where
  -- what stands at an address
  address_has : (widths : List ℕ) → HasAddresses m row widths tail → (n : ℕ) (name : PortName) (width : ℕ) → slice_get (address_ports widths ++ tail) n ≡ Some (plain_port name width) → IsSome (input inputs n)
      → HasValue tree now j (spelled (text_of name)) (of_width width (value_at inputs n))
  address_has widths has n name width there some =
      let own_port = ap (λ (ps : List PortRow). slice_get ps n) has.ports ∙ there in
      let own = input_has at n (plain_port name width) own_port refl some in
      subst (λ (x : List ℕ). HasValue tree now j x (of_width width (value_at inputs n))) (port_net-row m row n (plain_port name width) has.nets own_port)
      (subst (λ (v : ℕ). HasValue tree now j (port_net m n) (of_width width v)) (sym (value_at-input own)) own.has)

  address_fits : (widths : List ℕ) → HasAddresses m row widths tail → (n : ℕ) (name : PortName) (width : ℕ) → slice_get (address_ports widths ++ tail) n ≡ Some (plain_port name width) → value_at inputs n < 2 ^ width
  address_fits widths has n name width there = value_at_fits row.ports inputs n (plain_port name width) at.fits at.values (ap (λ (ps : List PortRow). slice_get ps n) has.ports ∙ there)

  -- the addresses are known beside what is known
  pub addresses_known : (widths : List ℕ) → HasAddresses m row widths tail → length widths ≤ 4 → ((k : ℕ) → k < length widths → IsSome (input inputs k)) → (ks : List Known) → AreKnown tree now j ks
      → AreKnown tree now j (addresses inputs 0 widths ++ ks)
  addresses_known [] has few given ks rest = rest
  addresses_known (a ∷ []) has few given ks rest = also_known (known (spelled (address 0)) a (value_at inputs 0)) (address_has (a ∷ []) has 0 Addr0 a refl (given 0 (omega arith))) rest
  addresses_known (a ∷ b ∷ []) has few given ks rest =
      also_known (known (spelled (address 0)) a (value_at inputs 0)) (address_has (a ∷ b ∷ []) has 0 Addr0 a refl (given 0 (omega arith)))
      (also_known (known (spelled (address 1)) b (value_at inputs 1)) (address_has (a ∷ b ∷ []) has 1 Addr1 b refl (given 1 (omega arith))) rest)
  addresses_known (a ∷ b ∷ c ∷ []) has few given ks rest =
      also_known (known (spelled (address 0)) a (value_at inputs 0)) (address_has (a ∷ b ∷ c ∷ []) has 0 Addr0 a refl (given 0 (omega arith)))
      (also_known (known (spelled (address 1)) b (value_at inputs 1)) (address_has (a ∷ b ∷ c ∷ []) has 1 Addr1 b refl (given 1 (omega arith)))
      (also_known (known (spelled (address 2)) c (value_at inputs 2)) (address_has (a ∷ b ∷ c ∷ []) has 2 Addr2 c refl (given 2 (omega arith))) rest))
  addresses_known (a ∷ b ∷ c ∷ d ∷ []) has few given ks rest =
      also_known (known (spelled (address 0)) a (value_at inputs 0)) (address_has (a ∷ b ∷ c ∷ d ∷ []) has 0 Addr0 a refl (given 0 (omega arith)))
      (also_known (known (spelled (address 1)) b (value_at inputs 1)) (address_has (a ∷ b ∷ c ∷ d ∷ []) has 1 Addr1 b refl (given 1 (omega arith)))
      (also_known (known (spelled (address 2)) c (value_at inputs 2)) (address_has (a ∷ b ∷ c ∷ d ∷ []) has 2 Addr2 c refl (given 2 (omega arith)))
      (also_known (known (spelled (address 3)) d (value_at inputs 3)) (address_has (a ∷ b ∷ c ∷ d ∷ []) has 3 Addr3 d refl (given 3 (omega arith))) rest)))
  addresses_known (a ∷ b ∷ c ∷ d ∷ e ∷ widths) has few given ks rest = absurd (omega arith)

  -- and are found there
  pub addresses_found : (sizes widths : List ℕ) → HasAddresses m row widths tail → length widths ≤ 4 → length widths ≡ length sizes → (ks : List Known)
      → AddressesAre (found (addresses inputs 0 widths ++ ks)) inputs 0 sizes widths
  unfolding spelled
  addresses_found [] [] has few alike ks = tt
  addresses_found (s ∷ []) (a ∷ []) has few alike ks = (refl, address_fits (a ∷ []) has 0 Addr0 a refl, tt)
  addresses_found (s ∷ t ∷ []) (a ∷ b ∷ []) has few alike ks = (refl, address_fits (a ∷ b ∷ []) has 0 Addr0 a refl, (refl, address_fits (a ∷ b ∷ []) has 1 Addr1 b refl, tt))
  addresses_found (s ∷ t ∷ u ∷ []) (a ∷ b ∷ c ∷ []) has few alike ks =
      (refl, address_fits (a ∷ b ∷ c ∷ []) has 0 Addr0 a refl, (refl, address_fits (a ∷ b ∷ c ∷ []) has 1 Addr1 b refl, (refl, address_fits (a ∷ b ∷ c ∷ []) has 2 Addr2 c refl, tt)))
  addresses_found (s ∷ t ∷ u ∷ v ∷ []) (a ∷ b ∷ c ∷ d ∷ []) has few alike ks = (
    refl,
    address_fits (a ∷ b ∷ c ∷ d ∷ []) has 0 Addr0 a refl,
    (
      refl,
      address_fits (a ∷ b ∷ c ∷ d ∷ []) has 1 Addr1 b refl,
      (refl, address_fits (a ∷ b ∷ c ∷ d ∷ []) has 2 Addr2 c refl, (refl, address_fits (a ∷ b ∷ c ∷ d ∷ []) has 3 Addr3 d refl, tt)),
    ),
  )
  addresses_found sizes widths has few alike ks = absurd (omega arith)

-- an array of zeros has the words of the start
pub zero_words : (count : ℕ) → HasWords (record { register = λ name. 0; word = λ name k. 0 }) (replicate count 0)
zero_words count n within =
    let same : length (replicate {A = ℕ} count 0) ≡ count = length-replicate count 0 in
    sym (get_or-replicate count n 0 0 (omega (arith, same)))

-- sizes have so few words that their numbers fit 32 bits
pub sizes_within : (sizes : List ℕ) → are_sizes sizes ≡ true → word_count sizes ≤ 2 ^ 32
sizes_within sizes sized =
    let below = ltb-true (word_count sizes) (2 ^ 32) (and_right (list_all (λ size. nat_le 1 size) sizes) (nat_lt (word_count sizes) (2 ^ 32)) sized) in
    omega arith

-- the word at the addresses is read, and 0 where one is out of range
pub read_value : (nets : List ℕ → Option BitVector) (word : List ℕ → ℕ → BitVector) (w index_width : ℕ) (sizes words : List ℕ) (inputs : Inputs)
    → nets (spelled (codes "in_range")) ≡ Some (bit_of (is_none (first_beyond sizes 0 inputs)))
    → nets (spelled (codes "index")) ≡ Some (of_width index_width (word_number sizes 0 inputs % 2 ^ index_width))
    → word_count sizes ≤ 2 ^ index_width
    → ((k : ℕ) → k < word_count sizes → word (spelled (codes "words")) k ≡ of_width w (slice_index words k))
    → expr_in nets word (read w) ≡ Some (of_width w (word_at sizes inputs words))
read_value nets word w index_width sizes words inputs inside index wide holds =
    ap (option_and_then (λ t. if t.value == 0 then Some (of_width w (0 % 2 ^ w)) else option_map (λ k. word (spelled (codes "words")) k.value) (nets (spelled (codes "index"))))) inside
    ∙ by (is_none (first_beyond sizes 0 inputs)) refl
  where
    by : (u : Bool) → is_none (first_beyond sizes 0 inputs) ≡ u
        → (if (bit_of u).value == 0 then Some (of_width w (0 % 2 ^ w)) else option_map (λ k. word (spelled (codes "words")) k.value) (nets (spelled (codes "index"))))
        ≡ Some (of_width w (if u then slice_index words (word_number sizes 0 inputs) else 0))
    by true is =
        let below = word_number-below sizes 0 inputs is in
        let whole : word_number sizes 0 inputs % 2 ^ index_width ≡ word_number sizes 0 inputs = mod-eq_of_lt (omega arith) in
        ap (option_map (λ k. word (spelled (codes "words")) k.value)) index
        ∙ ap (λ (k : ℕ). Some (word (spelled (codes "words")) k)) whole ∙ ap Some (holds (word_number sizes 0 inputs) below)
    by false is = ap (λ (v : ℕ). let o : Option BitVector = Some (of_width w v) in o) (mod-eq_of_lt (pow_pos w))

-- a store leaves what a write of the row does
pub written_word : (sizes words : List ℕ) (inputs : Inputs) (index_width w value n : ℕ) → word_count sizes ≤ 2 ^ index_width → length words ≡ word_count sizes
    → after_store (bit_of (is_none (first_beyond sizes 0 inputs))) (of_width index_width (word_number sizes 0 inputs % 2 ^ index_width)) (of_width w value) n (slice_index words n)
    ≡ slice_index (written sizes inputs value words) n
written_word sizes words inputs index_width w value n wide count = by (is_none (first_beyond sizes 0 inputs)) refl
  where
    place : (here : Bool) → (word_number sizes 0 inputs == n) ≡ here → word_number sizes 0 inputs < length words → (if here then value else slice_index words n) ≡ slice_index (slice_set words (word_number sizes 0 inputs) value) n
    place true is below = let same : n ≡ word_number sizes 0 inputs = sym (eqb-true (word_number sizes 0 inputs) n is) in sym (get_or-set_at words (word_number sizes 0 inputs) n value 0 same below)
    place false is below = let other : n ≢ word_number sizes 0 inputs = λ e. let same : (word_number sizes 0 inputs == n) ≡ true = eq-eqb _ _ (sym e) in absurd (let wrong : false ≡ true = sym is ∙ same in cc) in
        sym (get_or-set_other words (word_number sizes 0 inputs) n value 0 other)

    by : (u : Bool) → is_none (first_beyond sizes 0 inputs) ≡ u
        → after_store (bit_of u) (of_width index_width (word_number sizes 0 inputs % 2 ^ index_width)) (of_width w value) n (slice_index words n)
        ≡ slice_index (if u then slice_set words (word_number sizes 0 inputs) value else words) n
    by true is =
        let below = word_number-below sizes 0 inputs is in
        let whole : word_number sizes 0 inputs % 2 ^ index_width ≡ word_number sizes 0 inputs = mod-eq_of_lt (omega arith) in
        ap (λ (k : ℕ). if k == n then value else slice_index words n) whole ∙ place (word_number sizes 0 inputs == n) refl (omega arith)
    by false is = refl
