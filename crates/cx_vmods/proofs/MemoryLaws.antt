-- The module of a memory whose read data follows the addresses does what its row says.
use Rattle.std.specs.Prelude.{◌≡◌, ℕ, ◌+◌, ◌%◌, ◌^◌, ◌<◌, ◌≤◌, ◌==◌, ◌&&◌, Bool, true, false, List, [], ◌∷◌, ◌++◌, Some, None, IsSome, is_none, nat_lt, slice_get, slice_index, length, map, unwrap_or, if◌then◌else◌, codes, refl}
use Rattle.std.proofs.Common.{ap, sym, ◌∙◌, subst, arith, eq-eqb}
use Rattle.std.proofs.lemmas.Bool.Decides.{nat_tests}
use Rattle.cx_bits.specs.BitVector.{BitVector, of_width}
use Rattle.cx_bits.specs.Operators.{bit_of}
use Rattle.cx_text.specs.Loading.{word_count}
use Rattle.cx_prim.specs.declared.ports.PortName.TheVariants.{Addr0, Addr1, Addr2, Addr3, WriteData, WriteEn}
use Rattle.cx_prim.specs.declared.ports.PortRow.{PortRow}
use Rattle.cx_prim.specs.CombinationalRows.{plain_port, enable_port}
use Rattle.cx_prim.specs.PortNames.{text_of}
use Rattle.cx_prim.specs.CellStates.{Memory}
use Rattle.cx_prim.specs.Rows.{Inputs, input, value_at, HasSide, is_output_side}
use Rattle.cx_prim.specs.MemoryRows.{IsLayout, first_beyond, word_number, have_addresses, word_at, written, memory_row, memory_read}
use Rattle.cx_prim.proofs.MemoryLaws.{length-ports_named, plain_before, AreWords-written, memory_port, memory_outputs, MemoryOutput, is_read, is_done, have_addresses_all, memory_tail}
use Rattle.cx_vtree.specs.declared.operators.Operator.TheVariants.{And}
use Rattle.cx_vtree.specs.Plain.{Applied, PlainModule}
use Rattle.cx_vtree.specs.InstanceTree.{Placed, Driven, Stored, kind_in, nets_at, declared_nets}
use Rattle.cx_vtree.specs.Meaning.{Moment, Look, HasValue, word_in}
use Rattle.cx_vtree.specs.Edges.{state_after}
use Rattle.cx_vtree.specs.SimRun.{IsWhole}
use Rattle.cx_vmods.specs.Spelling.{spelled, net}
use Rattle.cx_vmods.specs.Parts.{made_of, with_piece}
use Rattle.cx_vmods.specs.BitCounts.{bits_for}
use Rattle.cx_vmods.specs.Addresses.{address}
use Rattle.cx_vmods.specs.Memories as memories
use Rattle.cx_vmods.specs.Modules.{ports_of, module_with}
use Rattle.cx_vmods.specs.Stands.{HasWords, StandsFor}
use Rattle.cx_vmods.specs.Built.{kept_at, port_net, zero_at, Stands, IsAt, AreGiven, HoldsWords, GivesOutputs, GivesNets, Steps, Resets, IsBuilt}
use Rattle.cx_vmods.specs.Inside.{Known, known, found, AreKnown}
use Rattle.cx_vmods.proofs.InsideLemmas.{none_known, also_known, has_by, all_have, driven_value, stored_value}
use Rattle.cx_vmods.proofs.EdgeLemmas.{set_has, register_cleared, word_stays, after_store, word_stored}
use Rattle.cx_vmods.proofs.InputLemmas.{HasInput, HasBit, input_has, bit_has, register_has, is_on-bit, value_at-input, port_net-row, zero_at-row}
use Rattle.cx_vmods.proofs.AddressLemmas.{and-bits, in_range-value, index-value, bits_for-suffices, bits_for-some}
use Rattle.cx_vmods.proofs.MemoryLemmas.{zero_words, sizes_within, addresses, addresses_known, addresses_found, read_value, written_word}

abbrev memory_at : List ℕ → ℕ → List ℕ → List ℕ → PlainModule
memory_at name w sizes widths = module_with name (ports_of (memory_row w sizes widths)) (made_of (memories.combinational w sizes widths))

-- what the nets behind the ports are
record Kinds (m : PlainModule) : Type 0 where
  pub in_range : kind_in m.ports m.decls (spelled (codes "in_range")) ≡ Some Driven
  pub index : kind_in m.ports m.decls (spelled (codes "index")) ≡ Some Driven
  pub read_data : kind_in m.ports m.decls (spelled (codes "read_data")) ≡ Some Driven
  pub done : kind_in m.ports m.decls (spelled (codes "done")) ≡ Some Driven
  pub finished : kind_in m.ports m.decls (spelled (codes "finished")) ≡ Some (Stored 1)

kinds : (name : List ℕ) (w : ℕ) (sizes widths : List ℕ) → Kinds (memory_at name w sizes widths)
unfolding spelled with_piece memories.combinational
kinds name w sizes [] = record { in_range = refl; index = refl; read_data = refl; done = refl; finished = refl }
kinds name w sizes (a ∷ []) = record { in_range = refl; index = refl; read_data = refl; done = refl; finished = refl }
kinds name w sizes (a ∷ b ∷ []) = record { in_range = refl; index = refl; read_data = refl; done = refl; finished = refl }
kinds name w sizes (a ∷ b ∷ c ∷ []) = record { in_range = refl; index = refl; read_data = refl; done = refl; finished = refl }
kinds name w sizes (a ∷ b ∷ c ∷ d ∷ widths) = record { in_range = refl; index = refl; read_data = refl; done = refl; finished = refl }

-- the names of all nets, those behind the addresses as they are told
net_names : (name : List ℕ) (w : ℕ) (sizes widths : List ℕ) (inputs : Inputs) → length widths ≤ 4 → (behind : List Known)
    → map (λ x. x.name) behind ≡ spelled (codes "write_data") ∷ spelled (codes "write_en") ∷ spelled (codes "read_data") ∷ spelled (codes "done") ∷ spelled (codes "in_range") ∷ spelled (codes "index") ∷ spelled (codes "finished") ∷ []
    → map (λ p. p.name) (memory_at name w sizes widths).ports ++ declared_nets (memory_at name w sizes widths).decls ≡ codes "clk" ∷ codes "reset" ∷ map (λ x. x.name) (addresses inputs 0 widths ++ behind)
unfolding with_piece memories.combinational
net_names name w sizes [] inputs few behind same = ap (λ (ns : List (List ℕ)). codes "clk" ∷ codes "reset" ∷ ns) (sym same)
net_names name w sizes (a ∷ []) inputs few behind same = ap (λ (ns : List (List ℕ)). codes "clk" ∷ codes "reset" ∷ spelled (address 0) ∷ ns) (sym same)
net_names name w sizes (a ∷ b ∷ []) inputs few behind same = ap (λ (ns : List (List ℕ)). codes "clk" ∷ codes "reset" ∷ spelled (address 0) ∷ spelled (address 1) ∷ ns) (sym same)
net_names name w sizes (a ∷ b ∷ c ∷ []) inputs few behind same = ap (λ (ns : List (List ℕ)). codes "clk" ∷ codes "reset" ∷ spelled (address 0) ∷ spelled (address 1) ∷ spelled (address 2) ∷ ns) (sym same)
net_names name w sizes (a ∷ b ∷ c ∷ d ∷ []) inputs few behind same =
    ap (λ (ns : List (List ℕ)). codes "clk" ∷ codes "reset" ∷ spelled (address 0) ∷ spelled (address 1) ∷ spelled (address 2) ∷ spelled (address 3) ∷ ns) (sym same)
net_names name w sizes (a ∷ b ∷ c ∷ d ∷ e ∷ widths) inputs few behind same = absurd (omega arith)

module _ (name : List ℕ) (w : ℕ) (sizes widths : List ℕ) (layout : IsLayout w sizes widths) (tree : List Placed) (now : Moment) (j : ℕ) (words : List ℕ) (done : Bool) (inputs : Inputs)
    (at : IsAt (memory_at name w sizes widths) (memory_row w sizes widths) (StandsFor w) tree now j (Memory words done) inputs) where
  abbrev m : PlainModule
  m = memory_at name w sizes widths

  abbrev inside : Bool
  inside = is_none (first_beyond sizes 0 inputs)

  abbrev index_width : ℕ
  index_width = bits_for (word_count sizes)

  abbrev place : ℕ
  place = word_number sizes 0 inputs % 2 ^ index_width

  few : length widths ≤ 4
  few = let sizes_few = layout.few in let alike = layout.alike in omega arith

  finished_has : HasValue tree now j (spelled (codes "finished")) (bit_of done)
  finished_has = register_has (spelled (codes "finished")) 1 (bit_of done).value at.stands (stored_value m (kept_at now.state j) [] (spelled (codes "finished")) 1 (kinds name w sizes widths).finished) at.holds.1

  module _ (given : (k : ℕ) → k < length widths → IsSome (input inputs k)) where
    only_addresses : AreKnown tree now j (addresses inputs 0 widths ++ [])
    only_addresses = addresses_known _ at widths (record { ports = refl; nets = refl }) few given [] none_known

    in_range_has : HasValue tree now j (spelled (codes "in_range")) (bit_of inside)
    unfolding spelled with_piece memories.combinational
    in_range_has = has_by at.stands only_addresses
        (driven_value m (kept_at now.state j) (addresses inputs 0 widths ++ []) (spelled (codes "in_range")) _ (bit_of inside) (kinds name w sizes widths).in_range refl
        (in_range-value (found (addresses inputs 0 widths ++ [])) _ inputs 0 sizes widths layout.alike (addresses_found _ at sizes widths (record { ports = refl; nets = refl }) few layout.alike [])))

    index_has : HasValue tree now j (spelled (codes "index")) (of_width index_width place)
    unfolding spelled with_piece memories.combinational
    index_has = has_by at.stands only_addresses
        (driven_value m (kept_at now.state j) (addresses inputs 0 widths ++ []) (spelled (codes "index")) _ (of_width index_width place) (kinds name w sizes widths).index refl
        (index-value (found (addresses inputs 0 widths ++ [])) _ inputs 0 index_width sizes widths (bits_for-some (word_count sizes)) layout.alike (addresses_found _ at sizes widths (record { ports = refl; nets = refl }) few layout.alike [])))

    read_has : HasValue tree now j (spelled (codes "read_data")) (of_width w (word_at sizes inputs words))
    unfolding spelled with_piece memories.combinational
    read_has =
        has_by at.stands (also_known (known (spelled (codes "in_range")) 1 (bit_of inside).value) in_range_has (also_known (known (spelled (codes "index")) index_width place) index_has none_known))
        (driven_value m (kept_at now.state j) (known (spelled (codes "in_range")) 1 (bit_of inside).value ∷ known (spelled (codes "index")) index_width place ∷ []) (spelled (codes "read_data")) (memories.read w)
        (of_width w (word_at sizes inputs words)) (kinds name w sizes widths).read_data refl
        (read_value (found (known (spelled (codes "in_range")) 1 (bit_of inside).value ∷ known (spelled (codes "index")) index_width place ∷ [])) (word_in (now.state.word j) (memory_at name w sizes widths).decls) w index_width sizes words inputs refl refl wide holds))
      where
        wide : word_count sizes ≤ 2 ^ bits_for (word_count sizes)
        wide = bits_for-suffices (word_count sizes) (sizes_within sizes layout.sized)

        holds : (k : ℕ) → k < word_count sizes → word_in (now.state.word j) (memory_at name w sizes widths).decls (spelled (codes "words")) k ≡ of_width w (slice_index words k)
        holds k below =
            let count = at.of_row.length in
            let there : nat_lt k (word_count sizes) ≡ true = grind (arith, nat_tests) in
            ap (λ (b : Bool). let v : BitVector = record { width = w; value = if b then now.state.word j (spelled (codes "words")) k else 0 } in v) there
            ∙ ap (λ (n : ℕ). let v : BitVector = record { width = w; value = n } in v) (at.holds.0 k (omega arith))

  done_has : HasValue tree now j (spelled (codes "done")) (bit_of done)
  unfolding spelled with_piece memories.combinational
  done_has = has_by at.stands (also_known (known (spelled (codes "finished")) 1 (bit_of done).value) finished_has none_known)
      (driven_value m (kept_at now.state j) (known (spelled (codes "finished")) 1 (bit_of done).value ∷ []) (spelled (codes "done")) (net (codes "finished")) (bit_of done) (kinds name w sizes widths).done refl refl)

  outputs : (n : ℕ) → HasSide (memory_row w sizes widths) n is_output_side → ((k : ℕ) → (memory_row w sizes widths).reads n k ≡ true → IsSome (input inputs k))
      → HasValue tree now j (port_net m n) (unwrap_or ((memory_row w sizes widths).output (Memory words done) inputs n) (zero_at (memory_row w sizes widths) n))
  outputs n side given = by (memory_outputs w sizes widths n side.0 layout side.1 side.2)
    where
      by : MemoryOutput w (length sizes) n side.0 → HasValue tree now j (port_net m n) (unwrap_or ((memory_row w sizes widths).output (Memory words done) inputs n) (zero_at (memory_row w sizes widths) n))
      by (is_read e is) =
          let here : (n == length sizes + 2) ≡ true = eq-eqb n (length sizes + 2) e in
          let alike = layout.alike in
          let read : (k : ℕ) → k < length sizes → IsSome (input inputs k) = λ k below. given k (let first : nat_lt k (length sizes) ≡ true = grind (arith, nat_tests) in ap (λ (b : Bool). b && nat_lt k (length sizes)) here ∙ first) in
          let all : have_addresses sizes 0 inputs ≡ true = have_addresses_all sizes 0 inputs (λ k low high. read k (omega arith)) in
          let zero_is : zero_at (memory_row w sizes widths) n ≡ of_width w 0 = zero_at-row (memory_row w sizes widths) n side.0 side.1 ∙ ap (λ (p : PortRow). let v : BitVector = record { width = p.width; value = 0 } in v) (sym is) in
          let value_is : unwrap_or (if n == length sizes + 2 then memory_read w sizes words inputs else Some (bit_of done)) (zero_at (memory_row w sizes widths) n) ≡ of_width w (word_at sizes inputs words) =
          ap (λ (b : Bool). unwrap_or (if b then memory_read w sizes words inputs else Some (bit_of done)) (zero_at (memory_row w sizes widths) n)) here
          ∙ ap (λ (b : Bool). unwrap_or (if b && is_none (first_beyond sizes 0 inputs) then Some (of_width w (slice_index words (word_number sizes 0 inputs))) else None) (zero_at (memory_row w sizes widths) n)) all
          ∙ ap (unwrap_or (if is_none (first_beyond sizes 0 inputs) then Some (of_width w (slice_index words (word_number sizes 0 inputs))) else None)) zero_is
          ∙ one (is_none (first_beyond sizes 0 inputs)) in
          let net_is : port_net m n ≡ spelled (codes "read_data") = port_net-row m (memory_row w sizes widths) n side.0 refl side.1 ∙ ap (λ (p : PortRow). spelled (text_of p.name)) (sym is) in
          subst (λ (x : List ℕ). HasValue tree now j x (unwrap_or (if n == length sizes + 2 then memory_read w sizes words inputs else Some (bit_of done)) (zero_at (memory_row w sizes widths) n))) (sym net_is)
          (subst (HasValue tree now j (spelled (codes "read_data"))) (sym value_is) (read_has (λ k below. read k (omega arith))))
        where
          one : (b : Bool) → unwrap_or (if b then Some (of_width w (slice_index words (word_number sizes 0 inputs))) else None) (of_width w 0)
              ≡ of_width w (if b then slice_index words (word_number sizes 0 inputs) else 0)
          one true = refl
          one false = refl
      by (is_done e is) =
          let elsewhere : (n == length sizes + 2) ≡ false = grind (arith, nat_tests) in
          let value_is : unwrap_or (if n == length sizes + 2 then memory_read w sizes words inputs else Some (bit_of done)) (zero_at (memory_row w sizes widths) n) ≡ bit_of done =
          ap (λ (b : Bool). unwrap_or (if b then memory_read w sizes words inputs else Some (bit_of done)) (zero_at (memory_row w sizes widths) n)) elsewhere in
          let net_is : port_net m n ≡ spelled (codes "done") = port_net-row m (memory_row w sizes widths) n side.0 refl side.1 ∙ ap (λ (p : PortRow). spelled (text_of p.name)) (sym is) in
          subst (λ (x : List ℕ). HasValue tree now j x (unwrap_or (if n == length sizes + 2 then memory_read w sizes words inputs else Some (bit_of done)) (zero_at (memory_row w sizes widths) n))) (sym net_is)
          (subst (HasValue tree now j (spelled (codes "done"))) (sym value_is) done_has)

  -- what stands at the ports behind the addresses
  data_has : IsSome (input inputs (length sizes)) → HasInput tree now j inputs (length sizes) (spelled (codes "write_data")) w
  data_has some =
      let there = memory_port w sizes widths (length sizes) 0 layout (omega arith) in
      subst (λ (x : List ℕ). HasInput tree now j inputs (length sizes) x w) (port_net-row m (memory_row w sizes widths) (length sizes) (plain_port WriteData w) refl there)
      (input_has at (length sizes) (plain_port WriteData w) there refl some)

  enable_has : IsSome (input inputs (length sizes + 1)) → HasBit tree now j inputs (length sizes + 1) (spelled (codes "write_en"))
  enable_has some =
      let there = memory_port w sizes widths (length sizes + 1) 1 layout (omega arith) in
      bit_has (subst (λ (x : List ℕ). HasInput tree now j inputs (length sizes + 1) x 1) (port_net-row m (memory_row w sizes widths) (length sizes + 1) (enable_port WriteEn) refl there)
      (input_has at (length sizes + 1) (enable_port WriteEn) there refl some))

  -- all inputs are given
  addresses_given : AreGiven (memory_row w sizes widths) inputs → (k : ℕ) → k < length widths → IsSome (input inputs k)
  addresses_given given k below =
      let alike = layout.alike in
      let plain = plain_before (Addr0 ∷ Addr1 ∷ Addr2 ∷ Addr3 ∷ []) widths (memory_tail w) k (let count = length-ports_named (Addr0 ∷ Addr1 ∷ Addr2 ∷ Addr3 ∷ []) widths few in omega arith) in
      given k plain.port plain.there (ap is_output_side plain.plain)

  module _ (given : AreGiven (memory_row w sizes widths) inputs) where
    abbrev data_in : HasInput tree now j inputs (length sizes) (spelled (codes "write_data")) w
    data_in = data_has (given (length sizes) (plain_port WriteData w) (memory_port w sizes widths (length sizes) 0 layout (omega arith)) refl)

    abbrev enable : HasBit tree now j inputs (length sizes + 1) (spelled (codes "write_en"))
    enable = enable_has (given (length sizes + 1) (enable_port WriteEn) (memory_port w sizes widths (length sizes + 1) 1 layout (omega arith)) refl)

    -- the nets behind the addresses
    abbrev behind : List Known
    behind =
        known (spelled (codes "write_data")) w data_in.value ∷ known (spelled (codes "write_en")) 1 (bit_of enable.bit).value ∷ known (spelled (codes "read_data")) w (word_at sizes inputs words)
        ∷ known (spelled (codes "done")) 1 (bit_of done).value ∷ known (spelled (codes "in_range")) 1 (bit_of inside).value ∷ known (spelled (codes "index")) index_width place
        ∷ known (spelled (codes "finished")) 1 (bit_of done).value ∷ []

    behind_known : AreKnown tree now j behind
    behind_known =
        also_known (known (spelled (codes "write_data")) w data_in.value) data_in.has (also_known (known (spelled (codes "write_en")) 1 (bit_of enable.bit).value) enable.has
        (also_known (known (spelled (codes "read_data")) w (word_at sizes inputs words)) (read_has (addresses_given given)) (also_known (known (spelled (codes "done")) 1 (bit_of done).value) done_has
        (also_known (known (spelled (codes "in_range")) 1 (bit_of inside).value) (in_range_has (addresses_given given)) (also_known (known (spelled (codes "index")) index_width place) (index_has (addresses_given given))
        (also_known (known (spelled (codes "finished")) 1 (bit_of done).value) finished_has none_known))))))

    nets : (k : ℕ) (own : List ℕ) → slice_get (nets_at tree j) k ≡ Some own → 2 ≤ k → (v : BitVector) × HasValue tree now j own v
    nets k own there after =
        all_have (codes "clk") (codes "reset") at.stands (addresses_known _ at widths (record { ports = refl; nets = refl }) few (addresses_given given) behind behind_known)
        (net_names name w sizes widths inputs few behind refl) there after

    module _ (look : Look) (whole : IsWhole tree now look) (running : now.reset ≡ 0) where
      next_finished : (state_after tree now look).register j (spelled (codes "finished")) ≡ (bit_of enable.bit).value
      unfolding spelled with_piece memories.combinational
      next_finished = set_has (spelled (codes "finished")) (bit_of enable.bit) 0 look at.stands whole running (also_known (known (spelled (codes "write_en")) 1 (bit_of enable.bit).value) enable.has none_known) refl

      next_word : (n : ℕ) → n < word_count sizes → (state_after tree now look).word j (spelled (codes "words")) n
          ≡ after_store (bit_of (enable.bit && inside)) (of_width index_width place) (of_width w data_in.value) n (now.state.word j (spelled (codes "words")) n)
      unfolding spelled with_piece memories.combinational
      next_word n within =
          word_stored (spelled (codes "words")) (record { guard = Applied And (net (codes "write_en")) (net (codes "in_range")); array = spelled (codes "words"); index = net (codes "index"); value = net (codes "write_data") })
          (bit_of (enable.bit && inside)) (of_width index_width place) (of_width w data_in.value) look n at.stands whole running behind_known refl (ap Some (and-bits enable.bit inside)) refl refl within

      step : StandsFor w (kept_at (state_after tree now look) j) ((memory_row w sizes widths).next (Memory words done) inputs)
      step =
          subst (λ (b : Bool). StandsFor w (kept_at (state_after tree now look) j) (if b then Memory (written sizes inputs (value_at inputs (length sizes)) words) true else Memory words false)) (sym (is_on-bit enable))
          (subst (λ (v : ℕ). StandsFor w (kept_at (state_after tree now look) j) (if enable.bit then Memory (written sizes inputs v words) true else Memory words false)) (sym (value_at-input data_in)) (by enable.bit refl))
        where
          count : length words ≡ word_count sizes
          count = at.of_row.length

          wide : word_count sizes ≤ 2 ^ bits_for (word_count sizes)
          wide = bits_for-suffices (word_count sizes) (sizes_within sizes layout.sized)

          stored : (t : Bool) → enable.bit ≡ t → (n : ℕ) → n < word_count sizes → (state_after tree now look).word j (spelled (codes "words")) n
              ≡ after_store (bit_of (t && is_none (first_beyond sizes 0 inputs))) (of_width (bits_for (word_count sizes)) (word_number sizes 0 inputs % 2 ^ bits_for (word_count sizes))) (of_width w data_in.value) n (slice_index words n)
          stored t e n within =
              next_word n within
              ∙ ap (λ (b : Bool). after_store (bit_of (b && is_none (first_beyond sizes 0 inputs))) (of_width (bits_for (word_count sizes)) (word_number sizes 0 inputs % 2 ^ bits_for (word_count sizes))) (of_width w data_in.value) n (now.state.word j (spelled (codes "words")) n)) e
              ∙ ap (after_store (bit_of (t && is_none (first_beyond sizes 0 inputs))) (of_width (bits_for (word_count sizes)) (word_number sizes 0 inputs % 2 ^ bits_for (word_count sizes))) (of_width w data_in.value) n) (at.holds.0 n (omega arith))

          by : (t : Bool) → enable.bit ≡ t → StandsFor w (kept_at (state_after tree now look) j) (if t then Memory (written sizes inputs data_in.value words) true else Memory words false)
          by true e = (
            λ n within. let same = (AreWords-written w (word_count sizes) sizes inputs data_in.value words at.of_row data_in.fits).length in
                stored true e n (omega arith) ∙ written_word sizes words inputs (bits_for (word_count sizes)) w data_in.value n wide count,
            next_finished ∙ ap (λ (b : Bool). (bit_of b).value) e,
          )
          by false e = (λ n within. stored false e n (omega arith), next_finished ∙ ap (λ (b : Bool). (bit_of b).value) e)

-- every word stays after an edge with reset, and done is 0
reset_edge : (name : List ℕ) (w : ℕ) (sizes widths : List ℕ) (tree : List Placed) (now : Moment) (look : Look) (j : ℕ) (words : List ℕ) → Stands (memory_at name w sizes widths) tree j → HasWords (kept_at now.state j) words
    → IsWhole tree now look → now.reset ≡ 1 → StandsFor w (kept_at (state_after tree now look) j) (Memory words false)
unfolding spelled with_piece memories.combinational
reset_edge name w sizes widths tree now look j words stands holds whole is =
    (λ n within. word_stays now (spelled (codes "words")) 1 look n stands is refl ∙ holds n within, register_cleared (spelled (codes "finished")) 1 look stands whole is refl)

-- the module of a memory whose read data follows the addresses
pub memory_built : (name : List ℕ) (w : ℕ) (sizes widths : List ℕ) → IsLayout w sizes widths → IsBuilt (memory_at name w sizes widths) (memory_row w sizes widths) (StandsFor w)
unfolding spelled with_piece memories.combinational
memory_built name w sizes widths layout = record {
  start = (zero_words (word_count sizes), refl);
  loaded = λ words word takes same. (λ n within. same n, refl);
  words = words;
  outputs = outputs_of;
  nets = nets_of;
  step = step_of;
  reset_edge = reset_of;
}
  where
    words : HoldsWords (memory_at name w sizes widths) (memory_row w sizes widths) (StandsFor w)
    words kept (Memory held done) k holds of_row within = holds.0 k within
    words kept state k holds of_row within = absurd of_row

    outputs_of : GivesOutputs (memory_at name w sizes widths) (memory_row w sizes widths) (StandsFor w)
    outputs_of tree now j n (Memory held done) inputs at side given = outputs name w sizes widths layout tree now j held done inputs at n side given
    outputs_of tree now j n state inputs at side given = absurd at.of_row

    nets_of : GivesNets (memory_at name w sizes widths) (memory_row w sizes widths) (StandsFor w)
    nets_of tree now j k own (Memory held done) inputs at given = nets name w sizes widths layout tree now j held done inputs at given k own
    nets_of tree now j k own state inputs at given = absurd at.of_row

    step_of : Steps (memory_at name w sizes widths) (memory_row w sizes widths) (StandsFor w)
    step_of tree now look j (Memory held done) inputs at given whole running = step name w sizes widths layout tree now j held done inputs at given look whole running
    step_of tree now look j state inputs at given whole running = absurd at.of_row

    reset_of : Resets (memory_at name w sizes widths) (memory_row w sizes widths) (StandsFor w)
    reset_of tree now look j (Memory held done) stands holds of_row whole is = reset_edge name w sizes widths tree now look j held stands holds.0 whole is
    reset_of tree now look j state stands holds of_row whole is = absurd of_row
