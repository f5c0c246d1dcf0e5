-- The module of a memory whose read data is registered does what its row says.
use Rattle.std.specs.Prelude.{◌≡◌, ℕ, ◌+◌, ◌%◌, ◌^◌, ◌<◌, ◌≤◌, ◌==◌, ◌&&◌, Bool, true, false, List, [], ◌∷◌, ◌++◌, Some, IsSome, is_none, nat_lt, slice_get, slice_index, length, map, if◌then◌else◌, codes, refl}
use Rattle.std.proofs.Common.{ap, sym, ◌∙◌, subst, arith, eq-eqb}
use Rattle.std.proofs.lemmas.Bool.Decides.{nat_tests}
use Rattle.cx_bits.specs.BitVector.{BitVector, of_width}
use Rattle.cx_bits.specs.Operators.{bit_of, and_of}
use Rattle.cx_text.specs.Loading.{word_count}
use Rattle.cx_prim.specs.declared.ports.PortName.TheVariants.{Addr0, Addr1, Addr2, Addr3, WriteData, WriteEn, ContentEn}
use Rattle.cx_prim.specs.declared.ports.PortRow.{PortRow}
use Rattle.cx_prim.specs.CombinationalRows.{plain_port, enable_port}
use Rattle.cx_prim.specs.PortNames.{text_of}
use Rattle.cx_prim.specs.CellStates.{CellState, SequentialMemory}
use Rattle.cx_prim.specs.Rows.{Inputs, input, value_at, is_on, HasSide, is_output_side}
use Rattle.cx_prim.specs.MemoryRows.{IsLayout, first_beyond, word_number, word_at, written, sequential_memory_row}
use Rattle.cx_prim.proofs.MemoryLaws.{length-ports_named, plain_before, AreWords-written, sequential_port, sequential_outputs, SequentialOutput, is_data, is_end, sequential_tail}
use Rattle.cx_vtree.specs.declared.operators.Operator.TheVariants.{And}
use Rattle.cx_vtree.specs.Plain.{Applied, PlainModule}
use Rattle.cx_vtree.specs.InstanceTree.{Placed, Driven, Stored, kind_in, nets_at, declared_nets}
use Rattle.cx_vtree.specs.Meaning.{Moment, Look, HasValue, word_in}
use Rattle.cx_vtree.specs.Edges.{state_after}
use Rattle.cx_vtree.specs.SimRun.{IsWhole}
use Rattle.cx_vmods.specs.Spelling.{spelled, net}
use Rattle.cx_vmods.specs.Parts.{made_of, with_piece}
use Rattle.cx_vmods.specs.BitCounts.{bits_for}
use Rattle.cx_vmods.specs.Addresses.{address}
use Rattle.cx_vmods.specs.Memories as memories
use Rattle.cx_vmods.specs.Modules.{ports_of, module_with}
use Rattle.cx_vmods.specs.Stands.{HasWords, StandsFor}
use Rattle.cx_vmods.specs.Built.{kept_at, port_net, Stands, IsAt, AreGiven, HoldsWords, GivesOutputs, GivesNets, Steps, Resets, IsBuilt}
use Rattle.cx_vmods.specs.Inside.{Known, known, found, AreKnown, set_in}
use Rattle.cx_vmods.proofs.InsideLemmas.{none_known, also_known, has_by, all_have, driven_value, stored_value}
use Rattle.cx_vmods.proofs.EdgeLemmas.{set_has, register_cleared, word_stays, after_store, word_stored}
use Rattle.cx_vmods.proofs.InputLemmas.{HasInput, HasBit, input_has, bit_has, register_has, is_on-bit, value_at-input, port_net-row}
use Rattle.cx_vmods.proofs.AddressLemmas.{and-bits, in_range-value, index-value, bits_for-suffices, bits_for-some}
use Rattle.cx_vmods.proofs.MemoryLemmas.{zero_words, sizes_within, addresses, addresses_known, addresses_found, read_value, written_word}

abbrev sequential_at : List ℕ → ℕ → List ℕ → List ℕ → PlainModule
sequential_at name w sizes widths = module_with name (ports_of (sequential_memory_row w sizes widths)) (made_of (memories.sequential w sizes widths))

-- what the nets behind the ports are
record Kinds (m : PlainModule) (w : ℕ) : Type 0 where
  pub in_range : kind_in m.ports m.decls (spelled (codes "in_range")) ≡ Some Driven
  pub index : kind_in m.ports m.decls (spelled (codes "index")) ≡ Some Driven
  pub read_data : kind_in m.ports m.decls (spelled (codes "read_data")) ≡ Some Driven
  pub done : kind_in m.ports m.decls (spelled (codes "done")) ≡ Some Driven
  pub held : kind_in m.ports m.decls (spelled (codes "held")) ≡ Some (Stored w)
  pub finished : kind_in m.ports m.decls (spelled (codes "finished")) ≡ Some (Stored 1)

kinds : (name : List ℕ) (w : ℕ) (sizes widths : List ℕ) → Kinds (sequential_at name w sizes widths) w
unfolding spelled with_piece memories.sequential
kinds name w sizes [] = record { in_range = refl; index = refl; read_data = refl; done = refl; held = refl; finished = refl }
kinds name w sizes (a ∷ []) = record { in_range = refl; index = refl; read_data = refl; done = refl; held = refl; finished = refl }
kinds name w sizes (a ∷ b ∷ []) = record { in_range = refl; index = refl; read_data = refl; done = refl; held = refl; finished = refl }
kinds name w sizes (a ∷ b ∷ c ∷ []) = record { in_range = refl; index = refl; read_data = refl; done = refl; held = refl; finished = refl }
kinds name w sizes (a ∷ b ∷ c ∷ d ∷ widths) = record { in_range = refl; index = refl; read_data = refl; done = refl; held = refl; finished = refl }

-- the names of all nets, those behind the addresses as they are told
net_names : (name : List ℕ) (w : ℕ) (sizes widths : List ℕ) (inputs : Inputs) → length widths ≤ 4 → (behind : List Known)
    → map (λ x. x.name) behind ≡ spelled (codes "content_en") ∷ spelled (codes "write_en") ∷ spelled (codes "write_data") ∷ spelled (codes "read_data") ∷ spelled (codes "done") ∷ spelled (codes "in_range") ∷ spelled (codes "index") ∷ spelled (codes "held") ∷ spelled (codes "finished") ∷ []
    → map (λ p. p.name) (sequential_at name w sizes widths).ports ++ declared_nets (sequential_at name w sizes widths).decls ≡ codes "clk" ∷ codes "reset" ∷ map (λ x. x.name) (addresses inputs 0 widths ++ behind)
unfolding with_piece memories.sequential
net_names name w sizes [] inputs few behind same = ap (λ (ns : List (List ℕ)). codes "clk" ∷ codes "reset" ∷ ns) (sym same)
net_names name w sizes (a ∷ []) inputs few behind same = ap (λ (ns : List (List ℕ)). codes "clk" ∷ codes "reset" ∷ spelled (address 0) ∷ ns) (sym same)
net_names name w sizes (a ∷ b ∷ []) inputs few behind same = ap (λ (ns : List (List ℕ)). codes "clk" ∷ codes "reset" ∷ spelled (address 0) ∷ spelled (address 1) ∷ ns) (sym same)
net_names name w sizes (a ∷ b ∷ c ∷ []) inputs few behind same = ap (λ (ns : List (List ℕ)). codes "clk" ∷ codes "reset" ∷ spelled (address 0) ∷ spelled (address 1) ∷ spelled (address 2) ∷ ns) (sym same)
net_names name w sizes (a ∷ b ∷ c ∷ d ∷ []) inputs few behind same =
    ap (λ (ns : List (List ℕ)). codes "clk" ∷ codes "reset" ∷ spelled (address 0) ∷ spelled (address 1) ∷ spelled (address 2) ∷ spelled (address 3) ∷ ns) (sym same)
net_names name w sizes (a ∷ b ∷ c ∷ d ∷ e ∷ widths) inputs few behind same = absurd (omega arith)

module _ (name : List ℕ) (w : ℕ) (sizes widths : List ℕ) (layout : IsLayout w sizes widths) (tree : List Placed) (now : Moment) (j : ℕ) (words : List ℕ) (read_data : ℕ) (done : Bool) (inputs : Inputs)
    (at : IsAt (sequential_at name w sizes widths) (sequential_memory_row w sizes widths) (StandsFor w) tree now j (SequentialMemory words read_data done) inputs) where
  abbrev m : PlainModule
  m = sequential_at name w sizes widths

  abbrev inside : Bool
  inside = is_none (first_beyond sizes 0 inputs)

  abbrev index_width : ℕ
  index_width = bits_for (word_count sizes)

  abbrev place : ℕ
  place = word_number sizes 0 inputs % 2 ^ index_width

  few : length widths ≤ 4
  few = let sizes_few = layout.few in let alike = layout.alike in omega arith

  finished_has : HasValue tree now j (spelled (codes "finished")) (bit_of done)
  finished_has = register_has (spelled (codes "finished")) 1 (bit_of done).value at.stands (stored_value m (kept_at now.state j) [] (spelled (codes "finished")) 1 (kinds name w sizes widths).finished) at.holds.2

  held_has : HasValue tree now j (spelled (codes "held")) (of_width w read_data)
  held_has = register_has (spelled (codes "held")) w read_data at.stands (stored_value m (kept_at now.state j) [] (spelled (codes "held")) w (kinds name w sizes widths).held) at.holds.1

  module _ (given : (k : ℕ) → k < length widths → IsSome (input inputs k)) where
    only_addresses : AreKnown tree now j (addresses inputs 0 widths ++ [])
    only_addresses = addresses_known _ at widths (record { ports = refl; nets = refl }) few given [] none_known

    in_range_has : HasValue tree now j (spelled (codes "in_range")) (bit_of inside)
    unfolding spelled with_piece memories.sequential
    in_range_has = has_by at.stands only_addresses
        (driven_value m (kept_at now.state j) (addresses inputs 0 widths ++ []) (spelled (codes "in_range")) _ (bit_of inside) (kinds name w sizes widths).in_range refl
        (in_range-value (found (addresses inputs 0 widths ++ [])) _ inputs 0 sizes widths layout.alike (addresses_found _ at sizes widths (record { ports = refl; nets = refl }) few layout.alike [])))

    index_has : HasValue tree now j (spelled (codes "index")) (of_width index_width place)
    unfolding spelled with_piece memories.sequential
    index_has = has_by at.stands only_addresses
        (driven_value m (kept_at now.state j) (addresses inputs 0 widths ++ []) (spelled (codes "index")) _ (of_width index_width place) (kinds name w sizes widths).index refl
        (index-value (found (addresses inputs 0 widths ++ [])) _ inputs 0 index_width sizes widths (bits_for-some (word_count sizes)) layout.alike (addresses_found _ at sizes widths (record { ports = refl; nets = refl }) few layout.alike [])))

  wide : word_count sizes ≤ 2 ^ index_width
  wide = bits_for-suffices (word_count sizes) (sizes_within sizes layout.sized)

  words_held : (k : ℕ) → k < word_count sizes → word_in (now.state.word j) m.decls (spelled (codes "words")) k ≡ of_width w (slice_index words k)
  unfolding spelled with_piece memories.sequential
  words_held k below =
      let count = at.of_row.0.length in
      let there : nat_lt k (word_count sizes) ≡ true = grind (arith, nat_tests) in
      ap (λ (b : Bool). let v : BitVector = record { width = w; value = if b then now.state.word j (spelled (codes "words")) k else 0 } in v) there
      ∙ ap (λ (n : ℕ). let v : BitVector = record { width = w; value = n } in v) (at.holds.0 k (omega arith))

  done_has : HasValue tree now j (spelled (codes "done")) (bit_of done)
  unfolding spelled with_piece memories.sequential
  done_has = has_by at.stands (also_known (known (spelled (codes "finished")) 1 (bit_of done).value) finished_has none_known)
      (driven_value m (kept_at now.state j) (known (spelled (codes "finished")) 1 (bit_of done).value ∷ []) (spelled (codes "done")) (net (codes "finished")) (bit_of done) (kinds name w sizes widths).done refl refl)

  read_has : HasValue tree now j (spelled (codes "read_data")) (of_width w read_data)
  unfolding spelled with_piece memories.sequential
  read_has = has_by at.stands (also_known (known (spelled (codes "held")) w read_data) held_has none_known)
      (driven_value m (kept_at now.state j) (known (spelled (codes "held")) w read_data ∷ []) (spelled (codes "read_data")) (net (codes "held")) (of_width w read_data) (kinds name w sizes widths).read_data refl refl)

  outputs : (n : ℕ) → HasSide (sequential_memory_row w sizes widths) n is_output_side
      → HasValue tree now j (port_net m n) (if n == length sizes + 3 then of_width w read_data else bit_of done)
  outputs n side = by (sequential_outputs w sizes widths n side.0 layout side.1 side.2)
    where
      by : SequentialOutput w (length sizes) n side.0 → HasValue tree now j (port_net m n) (if n == length sizes + 3 then of_width w read_data else bit_of done)
      by (is_data e is) =
          let here : (n == length sizes + 3) ≡ true = eq-eqb n (length sizes + 3) e in
          let net_is : port_net m n ≡ spelled (codes "read_data") = port_net-row m (sequential_memory_row w sizes widths) n side.0 refl side.1 ∙ ap (λ (p : PortRow). spelled (text_of p.name)) (sym is) in
          subst (λ (x : List ℕ). HasValue tree now j x (if n == length sizes + 3 then of_width w read_data else bit_of done)) (sym net_is)
          (subst (λ (b : Bool). HasValue tree now j (spelled (codes "read_data")) (if b then of_width w read_data else bit_of done)) (sym here) read_has)
      by (is_end e is) =
          let elsewhere : (n == length sizes + 3) ≡ false = grind (arith, nat_tests) in
          let net_is : port_net m n ≡ spelled (codes "done") = port_net-row m (sequential_memory_row w sizes widths) n side.0 refl side.1 ∙ ap (λ (p : PortRow). spelled (text_of p.name)) (sym is) in
          subst (λ (x : List ℕ). HasValue tree now j x (if n == length sizes + 3 then of_width w read_data else bit_of done)) (sym net_is)
          (subst (λ (b : Bool). HasValue tree now j (spelled (codes "done")) (if b then of_width w read_data else bit_of done)) (sym elsewhere) done_has)

  -- what stands at the ports behind the addresses
  data_has : IsSome (input inputs (length sizes + 2)) → HasInput tree now j inputs (length sizes + 2) (spelled (codes "write_data")) w
  data_has some =
      let there = sequential_port w sizes widths (length sizes + 2) 2 layout (omega arith) in
      subst (λ (x : List ℕ). HasInput tree now j inputs (length sizes + 2) x w) (port_net-row m (sequential_memory_row w sizes widths) (length sizes + 2) (plain_port WriteData w) refl there)
      (input_has at (length sizes + 2) (plain_port WriteData w) there refl some)

  enable_has : IsSome (input inputs (length sizes + 1)) → HasBit tree now j inputs (length sizes + 1) (spelled (codes "write_en"))
  enable_has some =
      let there = sequential_port w sizes widths (length sizes + 1) 1 layout (omega arith) in
      bit_has (subst (λ (x : List ℕ). HasInput tree now j inputs (length sizes + 1) x 1) (port_net-row m (sequential_memory_row w sizes widths) (length sizes + 1) (enable_port WriteEn) refl there)
      (input_has at (length sizes + 1) (enable_port WriteEn) there refl some))

  content_has : IsSome (input inputs (length sizes)) → HasBit tree now j inputs (length sizes) (spelled (codes "content_en"))
  content_has some =
      let there = sequential_port w sizes widths (length sizes) 0 layout (omega arith) in
      bit_has (subst (λ (x : List ℕ). HasInput tree now j inputs (length sizes) x 1) (port_net-row m (sequential_memory_row w sizes widths) (length sizes) (enable_port ContentEn) refl there)
      (input_has at (length sizes) (enable_port ContentEn) there refl some))

  -- all inputs are given
  addresses_given : AreGiven (sequential_memory_row w sizes widths) inputs → (k : ℕ) → k < length widths → IsSome (input inputs k)
  addresses_given given k below =
      let alike = layout.alike in
      let plain = plain_before (Addr0 ∷ Addr1 ∷ Addr2 ∷ Addr3 ∷ []) widths (sequential_tail w) k (let count = length-ports_named (Addr0 ∷ Addr1 ∷ Addr2 ∷ Addr3 ∷ []) widths few in omega arith) in
      given k plain.port plain.there (ap is_output_side plain.plain)

  module _ (given : AreGiven (sequential_memory_row w sizes widths) inputs) where
    abbrev data_in : HasInput tree now j inputs (length sizes + 2) (spelled (codes "write_data")) w
    data_in = data_has (given (length sizes + 2) (plain_port WriteData w) (sequential_port w sizes widths (length sizes + 2) 2 layout (omega arith)) refl)

    abbrev enable : HasBit tree now j inputs (length sizes + 1) (spelled (codes "write_en"))
    enable = enable_has (given (length sizes + 1) (enable_port WriteEn) (sequential_port w sizes widths (length sizes + 1) 1 layout (omega arith)) refl)

    abbrev content : HasBit tree now j inputs (length sizes) (spelled (codes "content_en"))
    content = content_has (given (length sizes) (enable_port ContentEn) (sequential_port w sizes widths (length sizes) 0 layout (omega arith)) refl)

    -- the nets behind the addresses
    abbrev behind : List Known
    behind =
        known (spelled (codes "content_en")) 1 (bit_of content.bit).value ∷ known (spelled (codes "write_en")) 1 (bit_of enable.bit).value ∷ known (spelled (codes "write_data")) w data_in.value
        ∷ known (spelled (codes "read_data")) w read_data ∷ known (spelled (codes "done")) 1 (bit_of done).value ∷ known (spelled (codes "in_range")) 1 (bit_of inside).value
        ∷ known (spelled (codes "index")) index_width place ∷ known (spelled (codes "held")) w read_data ∷ known (spelled (codes "finished")) 1 (bit_of done).value ∷ []

    behind_known : AreKnown tree now j behind
    behind_known =
        also_known (known (spelled (codes "content_en")) 1 (bit_of content.bit).value) content.has (also_known (known (spelled (codes "write_en")) 1 (bit_of enable.bit).value) enable.has
        (also_known (known (spelled (codes "write_data")) w data_in.value) data_in.has (also_known (known (spelled (codes "read_data")) w read_data) read_has (also_known (known (spelled (codes "done")) 1 (bit_of done).value) done_has
        (also_known (known (spelled (codes "in_range")) 1 (bit_of inside).value) (in_range_has (addresses_given given)) (also_known (known (spelled (codes "index")) index_width place) (index_has (addresses_given given))
        (also_known (known (spelled (codes "held")) w read_data) held_has (also_known (known (spelled (codes "finished")) 1 (bit_of done).value) finished_has none_known))))))))

    nets : (k : ℕ) (own : List ℕ) → slice_get (nets_at tree j) k ≡ Some own → 2 ≤ k → (v : BitVector) × HasValue tree now j own v
    nets k own there after =
        all_have (codes "clk") (codes "reset") at.stands (addresses_known _ at widths (record { ports = refl; nets = refl }) few (addresses_given given) behind behind_known)
        (net_names name w sizes widths inputs few behind refl) there after

    module _ (look : Look) (whole : IsWhole tree now look) (running : now.reset ≡ 0) where
      next_finished : (state_after tree now look).register j (spelled (codes "finished")) ≡ (bit_of content.bit).value
      unfolding spelled with_piece memories.sequential
      next_finished = set_has (spelled (codes "finished")) (bit_of content.bit) 0 look at.stands whole running (also_known (known (spelled (codes "content_en")) 1 (bit_of content.bit).value) content.has none_known) refl

      next_held : (state_after tree now look).register j (spelled (codes "held")) ≡ (if content.bit then (if enable.bit then read_data else word_at sizes inputs words) else read_data)
      unfolding spelled with_piece memories.sequential
      next_held = set_has (spelled (codes "held")) (of_width w (if content.bit then (if enable.bit then read_data else word_at sizes inputs words) else read_data)) 0 look at.stands whole running behind_known (by content.bit enable.bit)
        where
          by : (c e : Bool) → set_in 0 (sequential_at name w sizes widths) (kept_at now.state j)
              (known (spelled (codes "content_en")) 1 (bit_of c).value ∷ known (spelled (codes "write_en")) 1 (bit_of e).value ∷ known (spelled (codes "write_data")) w data_in.value
              ∷ known (spelled (codes "read_data")) w read_data ∷ known (spelled (codes "done")) 1 (bit_of done).value ∷ known (spelled (codes "in_range")) 1 (bit_of inside).value
              ∷ known (spelled (codes "index")) index_width place ∷ known (spelled (codes "held")) w read_data ∷ known (spelled (codes "finished")) 1 (bit_of done).value ∷ []) (spelled (codes "held"))
              ≡ Some (of_width w (if c then (if e then read_data else word_at sizes inputs words) else read_data))
          by true true = refl
          by true false =
              read_value (found (known (spelled (codes "content_en")) 1 1 ∷ known (spelled (codes "write_en")) 1 0 ∷ known (spelled (codes "write_data")) w data_in.value
              ∷ known (spelled (codes "read_data")) w read_data ∷ known (spelled (codes "done")) 1 (bit_of done).value ∷ known (spelled (codes "in_range")) 1 (bit_of inside).value
              ∷ known (spelled (codes "index")) index_width place ∷ known (spelled (codes "held")) w read_data ∷ known (spelled (codes "finished")) 1 (bit_of done).value ∷ []))
              (word_in (now.state.word j) (sequential_at name w sizes widths).decls) w index_width sizes words inputs refl refl wide words_held
          by false e = refl

      next_word : (n : ℕ) → n < word_count sizes → (state_after tree now look).word j (spelled (codes "words")) n
          ≡ after_store (bit_of ((content.bit && enable.bit) && inside)) (of_width index_width place) (of_width w data_in.value) n (now.state.word j (spelled (codes "words")) n)
      unfolding spelled with_piece memories.sequential
      next_word n within =
          word_stored (spelled (codes "words")) (record { guard = Applied And (Applied And (net (codes "content_en")) (net (codes "write_en"))) (net (codes "in_range")); array = spelled (codes "words"); index = net (codes "index"); value = net (codes "write_data") })
          (bit_of ((content.bit && enable.bit) && inside)) (of_width index_width place) (of_width w data_in.value) look n at.stands whole running behind_known refl
          (ap (λ (b : BitVector). Some (and_of b (bit_of inside))) (and-bits content.bit enable.bit) ∙ ap Some (and-bits (content.bit && enable.bit) inside)) refl refl within

      stored : (t : Bool) → (content.bit && enable.bit) ≡ t → (n : ℕ) → n < word_count sizes → (state_after tree now look).word j (spelled (codes "words")) n
          ≡ after_store (bit_of (t && inside)) (of_width index_width place) (of_width w data_in.value) n (slice_index words n)
      stored t e n within =
          let count = at.of_row.0.length in
          next_word n within
          ∙ ap (λ (b : Bool). after_store (bit_of (b && inside)) (of_width index_width place) (of_width w data_in.value) n (now.state.word j (spelled (codes "words")) n)) e
          ∙ ap (after_store (bit_of (t && inside)) (of_width index_width place) (of_width w data_in.value) n) (at.holds.0 n (omega arith))

      abbrev after : Bool → Bool → ℕ → CellState
      after c e v = if c then (if e then SequentialMemory (written sizes inputs v words) read_data true else SequentialMemory words (word_at sizes inputs words) true) else SequentialMemory words read_data false

      by_bits : (c e : Bool) → content.bit ≡ c → enable.bit ≡ e → StandsFor w (kept_at (state_after tree now look) j) (after c e data_in.value)
      by_bits true true is_c is_e = (
        λ n within. let same = (AreWords-written w (word_count sizes) sizes inputs data_in.value words at.of_row.0 data_in.fits).length in
            stored true (ap (λ (c : Bool). c && enable.bit) is_c ∙ is_e) n (omega arith) ∙ written_word sizes words inputs index_width w data_in.value n wide at.of_row.0.length,
        next_held ∙ ap (λ (c : Bool). if c then (if enable.bit then read_data else word_at sizes inputs words) else read_data) is_c ∙ ap (λ (e : Bool). if e then read_data else word_at sizes inputs words) is_e,
        next_finished ∙ ap (λ (b : Bool). (bit_of b).value) is_c,
      )
      by_bits true false is_c is_e = (
        λ n within. let count = at.of_row.0.length in stored false (ap (λ (c : Bool). c && enable.bit) is_c ∙ is_e) n (omega arith),
        next_held ∙ ap (λ (c : Bool). if c then (if enable.bit then read_data else word_at sizes inputs words) else read_data) is_c ∙ ap (λ (e : Bool). if e then read_data else word_at sizes inputs words) is_e,
        next_finished ∙ ap (λ (b : Bool). (bit_of b).value) is_c,
      )
      by_bits false e is_c is_e = (
        λ n within. let count = at.of_row.0.length in stored false (ap (λ (c : Bool). c && enable.bit) is_c) n (omega arith),
        next_held ∙ ap (λ (c : Bool). if c then (if enable.bit then read_data else word_at sizes inputs words) else read_data) is_c,
        next_finished ∙ ap (λ (b : Bool). (bit_of b).value) is_c,
      )

      step : StandsFor w (kept_at (state_after tree now look) j) ((sequential_memory_row w sizes widths).next (SequentialMemory words read_data done) inputs)
      step =
          subst (λ (c : Bool). StandsFor w (kept_at (state_after tree now look) j) (after c (is_on inputs (length sizes + 1)) (value_at inputs (length sizes + 2)))) (sym (is_on-bit content))
          (subst (λ (e : Bool). StandsFor w (kept_at (state_after tree now look) j) (after content.bit e (value_at inputs (length sizes + 2)))) (sym (is_on-bit enable))
          (subst (λ (v : ℕ). StandsFor w (kept_at (state_after tree now look) j) (after content.bit enable.bit v)) (sym (value_at-input data_in)) (by_bits content.bit enable.bit refl refl)))

-- every word stays after an edge with reset, and read data and done are 0
reset_edge : (name : List ℕ) (w : ℕ) (sizes widths : List ℕ) (tree : List Placed) (now : Moment) (look : Look) (j : ℕ) (words : List ℕ) → Stands (sequential_at name w sizes widths) tree j → HasWords (kept_at now.state j) words
    → IsWhole tree now look → now.reset ≡ 1 → StandsFor w (kept_at (state_after tree now look) j) (SequentialMemory words 0 false)
unfolding spelled with_piece memories.sequential
reset_edge name w sizes widths tree now look j words stands holds whole is =
    (λ n within. word_stays now (spelled (codes "words")) 1 look n stands is refl ∙ holds n within, register_cleared (spelled (codes "held")) w look stands whole is refl, register_cleared (spelled (codes "finished")) 1 look stands whole is refl)

-- the module of a memory whose read data is registered
pub sequential_built : (name : List ℕ) (w : ℕ) (sizes widths : List ℕ) → IsLayout w sizes widths → IsBuilt (sequential_at name w sizes widths) (sequential_memory_row w sizes widths) (StandsFor w)
unfolding spelled with_piece memories.sequential
sequential_built name w sizes widths layout = record {
  start = (zero_words (word_count sizes), refl, refl);
  loaded = λ words word takes same. (λ n within. same n, refl, refl);
  words = words;
  outputs = outputs_of;
  nets = nets_of;
  step = step_of;
  reset_edge = reset_of;
}
  where
    words : HoldsWords (sequential_at name w sizes widths) (sequential_memory_row w sizes widths) (StandsFor w)
    words kept (SequentialMemory held read_data done) k holds of_row within = holds.0 k within
    words kept state k holds of_row within = absurd of_row

    outputs_of : GivesOutputs (sequential_at name w sizes widths) (sequential_memory_row w sizes widths) (StandsFor w)
    outputs_of tree now j n (SequentialMemory held read_data done) inputs at side given = outputs name w sizes widths layout tree now j held read_data done inputs at n side
    outputs_of tree now j n state inputs at side given = absurd at.of_row

    nets_of : GivesNets (sequential_at name w sizes widths) (sequential_memory_row w sizes widths) (StandsFor w)
    nets_of tree now j k own (SequentialMemory held read_data done) inputs at given = nets name w sizes widths layout tree now j held read_data done inputs at given k own
    nets_of tree now j k own state inputs at given = absurd at.of_row

    step_of : Steps (sequential_at name w sizes widths) (sequential_memory_row w sizes widths) (StandsFor w)
    step_of tree now look j (SequentialMemory held read_data done) inputs at given whole running = step name w sizes widths layout tree now j held read_data done inputs at given look whole running
    step_of tree now look j state inputs at given whole running = absurd at.of_row

    reset_of : Resets (sequential_at name w sizes widths) (sequential_memory_row w sizes widths) (StandsFor w)
    reset_of tree now look j (SequentialMemory held read_data done) stands holds of_row whole is = reset_edge name w sizes widths tree now look j held stands holds.0 whole is
    reset_of tree now look j state stands holds of_row whole is = absurd of_row
