-- The modules of memories keep the rules.
use Rattle.std.proofs.Common.{◌≡◌, ℕ, ◌+◌, ◌-◌, ◌^◌, ◌<◌, ◌≤◌, Bool, true, false, List, [], ◌∷◌, length, if◌then◌else◌, refl, arith}
use Rattle.std.specs.Prelude.{codes, nat_le, nat_lt}
use Rattle.std.specs.List.{list_all}
use Rattle.std.proofs.lemmas.Bool.{leb-true, leb-false, ltb-true, and_parts}
use Rattle.cx_text.specs.Loading.{word_count}
use Rattle.cx_prim.specs.Widths.{IsWidth}
use Rattle.cx_prim.specs.MemoryRows.{is_address_width, IsLayout, memory_row, sequential_memory_row}
use Rattle.cx_vtree.specs.declared.operators.Operator.TheVariants.{Add, Multiply, And, Less}
use Rattle.cx_vtree.specs.Plain.{Applied, Joined, PlainModule}
use Rattle.cx_vtree.specs.Layout.{is_name}
use Rattle.cx_vtree.specs.Sound.{Scope, width_of, is_readable}
use Rattle.cx_vmods.specs.Spelling.{spelled, net, part}
use Rattle.cx_vmods.specs.Parts.{with_piece, literal}
use Rattle.cx_vmods.specs.BitCounts.{bits_for}
use Rattle.cx_vmods.specs.Addresses.{address, below, fitted}
use Rattle.cx_vmods.specs.Memories as memories
use Rattle.cx_emit.proofs.Keeping.{Keeps, keeps_part, keeps_word, keeps_applied, keeps_chosen, keeps_joined, keeps_as}
use Rattle.cx_emit.proofs.CleanModules.{IsKept}
use Rattle.cx_emit.proofs.StatelessModules.{made, one_wide, literal_keeps, input_kept, output_kept, net_keeps, names_fresh, assign_keeps, set_keeps}
use Rattle.cx_emit.proofs.ClockedModules.{bits_wide_for}
use Rattle.cx_text.proofs.LoadingLemmas.{word_count_positive}

address_wide : (w : ℕ) → is_address_width w ≡ true → IsWidth w
address_wide w e =
    let parts = and_parts (nat_le 1 w) (nat_le w 64) e in
    let low = leb-true 1 w parts.0 in
    let high = leb-true w 64 parts.1 in
    record { some_bits = omega (arith, low); few_bits = omega (arith, high) }

-- an address that may be read: below its size, and as wide as the index
module _ (scope : Scope) (n w : ℕ) (named : is_name (spelled (address n)) ≡ true) (readable : is_readable scope (spelled (address n)) ≡ true) (is : width_of (scope (spelled (address n))) ≡ w) (wide : IsWidth w) where
  below_keeps : (levels size : ℕ) → 1 ≤ levels → Keeps scope levels (below n size w) 1
  below_keeps levels size some = by_test (nat_le (2 ^ w) size) where
    by_test : (b : Bool) → Keeps scope levels (if b then literal 1 1 else Applied Less (net (address n)) (literal w size)) 1
    by_test true = literal_keeps scope levels 1 1 one_wide
    by_test false = keeps_applied scope levels some Less (net (address n)) (literal w size) w (net_keeps scope (levels - 1) (address n) w named readable is) (literal_keeps scope (levels - 1) w size wide)

  fitted_keeps : (levels b : ℕ) → 1 ≤ levels → IsWidth b → Keeps scope levels (fitted n w b) b
  fitted_keeps levels b some bits = by_test (nat_le b w) refl where
    by_test : (t : Bool) → nat_le b w ≡ t → Keeps scope levels (if t then part (address n) (b - 1) 0 else Joined (literal (b - w) 0) (net (address n))) b
    by_test true test =
        let less = leb-true b w test in
        let one = bits.some_bits in
        keeps_part scope levels (spelled (address n)) (b - 1) 0 w b named readable is (omega arith) (omega (arith, less, one)) (omega (arith, one))
    by_test false test =
        let over = leb-false b w test in
        let few = bits.few_bits in
        let more : IsWidth (b - w) = record { some_bits = omega (arith, over); few_bits = omega (arith, few) } in
        keeps_as scope levels _ (b - w + w) b (omega (arith, over))
        (keeps_joined scope levels some (literal (b - w) 0) (net (address n)) (b - w) w (omega (arith, over, few)) (literal_keeps scope (levels - 1) (b - w) 0 more) (net_keeps scope (levels - 1) (address n) w named readable is))

module _ (before : List PlainModule) (name : List ℕ) (named : is_name name ≡ true) where
  memory_kept0 : (w : ℕ) → IsWidth w → 1 ≤ word_count ([]) → word_count ([]) < 2 ^ 32 → IsKept before (made name (memory_row w ([]) ([])) (memories.combinational w ([]) ([])))
  unfolding spelled with_piece memories.combinational
  memory_kept0 w wide some few =
      let b : ℕ = bits_for (word_count ([])) in let bits_wide = bits_wide_for (word_count ([])) in record {
        named = named;
        behind = _;
        clocked = refl;
        names = names_fresh (made name (memory_row w ([]) ([])) (memories.combinational w ([]) ([]))) refl;
        ports = (input_kept _ _ 1 refl one_wide, (input_kept _ _ 1 refl one_wide, (input_kept _ _ w refl wide, (input_kept _ _ 1 refl one_wide, (output_kept _ _ w refl wide refl, (output_kept _ _ 1 refl one_wide refl, tt))))));
        decls = ((refl, one_wide, refl), ((refl, bits_wide, refl), ((refl, wide, some, omega (arith, few)), ((refl, one_wide), tt))));
        driven_once = (refl, (refl, (refl, (refl, tt))));
        assigns = (assign_keeps _ _ _ refl refl (literal_keeps _ 64 1 1 one_wide), (assign_keeps _ _ _ refl refl (literal_keeps _ 64 b 0 bits_wide), (assign_keeps _ _ _ refl refl (keeps_chosen _ 64 (omega arith) _ _ _ w (net_keeps _ 63 (codes "in_range") 1 refl refl refl) (keeps_word _ 63 (omega arith) (spelled (codes "words")) _ b w refl refl refl (net_keeps _ 62 (codes "index") b refl refl refl)) (literal_keeps _ 63 w 0 wide)), (assign_keeps _ _ _ refl refl (net_keeps _ 64 (codes "finished") 1 refl refl refl), tt))));
        instances = tt;
        edge = record { reset_once = (refl, tt); reset = (set_keeps _ _ _ refl refl (literal_keeps _ 64 1 0 one_wide), tt); step_once = (refl, (refl, tt)); step = (record { named = refl; stores = refl; guard = keeps_applied _ 64 (omega arith) And _ _ 1 (net_keeps _ 63 (codes "write_en") 1 refl refl refl) (net_keeps _ 63 (codes "in_range") 1 refl refl refl); index_width = b; index = net_keeps _ 64 (codes "index") b refl refl refl; value = net_keeps _ 64 (codes "write_data") w refl refl refl }, (set_keeps _ _ _ refl refl (net_keeps _ 64 (codes "write_en") 1 refl refl refl), tt)) };
      }

  memory_kept1 : (w s0 w0 : ℕ) → IsWidth w → 1 ≤ word_count (s0 ∷ []) → word_count (s0 ∷ []) < 2 ^ 32 → IsWidth w0 → IsKept before (made name (memory_row w (s0 ∷ []) (w0 ∷ [])) (memories.combinational w (s0 ∷ []) (w0 ∷ [])))
  unfolding spelled with_piece memories.combinational
  memory_kept1 w s0 w0 wide some few a0 =
      let b : ℕ = bits_for (word_count (s0 ∷ [])) in let bits_wide = bits_wide_for (word_count (s0 ∷ [])) in record {
        named = named;
        behind = _;
        clocked = refl;
        names = names_fresh (made name (memory_row w (s0 ∷ []) (w0 ∷ [])) (memories.combinational w (s0 ∷ []) (w0 ∷ []))) refl;
        ports = (input_kept _ _ 1 refl one_wide, (input_kept _ _ 1 refl one_wide, (input_kept _ _ w0 refl a0, (input_kept _ _ w refl wide, (input_kept _ _ 1 refl one_wide, (output_kept _ _ w refl wide refl, (output_kept _ _ 1 refl one_wide refl, tt)))))));
        decls = ((refl, one_wide, refl), ((refl, bits_wide, refl), ((refl, wide, some, omega (arith, few)), ((refl, one_wide), tt))));
        driven_once = (refl, (refl, (refl, (refl, tt))));
        assigns = (assign_keeps _ _ _ refl refl (below_keeps _ 0 w0 refl refl refl a0 64 s0 (omega arith)), (assign_keeps _ _ _ refl refl (fitted_keeps _ 0 w0 refl refl refl a0 64 b (omega arith) bits_wide), (assign_keeps _ _ _ refl refl (keeps_chosen _ 64 (omega arith) _ _ _ w (net_keeps _ 63 (codes "in_range") 1 refl refl refl) (keeps_word _ 63 (omega arith) (spelled (codes "words")) _ b w refl refl refl (net_keeps _ 62 (codes "index") b refl refl refl)) (literal_keeps _ 63 w 0 wide)), (assign_keeps _ _ _ refl refl (net_keeps _ 64 (codes "finished") 1 refl refl refl), tt))));
        instances = tt;
        edge = record { reset_once = (refl, tt); reset = (set_keeps _ _ _ refl refl (literal_keeps _ 64 1 0 one_wide), tt); step_once = (refl, (refl, tt)); step = (record { named = refl; stores = refl; guard = keeps_applied _ 64 (omega arith) And _ _ 1 (net_keeps _ 63 (codes "write_en") 1 refl refl refl) (net_keeps _ 63 (codes "in_range") 1 refl refl refl); index_width = b; index = net_keeps _ 64 (codes "index") b refl refl refl; value = net_keeps _ 64 (codes "write_data") w refl refl refl }, (set_keeps _ _ _ refl refl (net_keeps _ 64 (codes "write_en") 1 refl refl refl), tt)) };
      }

  memory_kept2 : (w s0 s1 w0 w1 : ℕ) → IsWidth w → 1 ≤ word_count (s0 ∷ s1 ∷ []) → word_count (s0 ∷ s1 ∷ []) < 2 ^ 32 → IsWidth w0 → IsWidth w1 → IsKept before (made name (memory_row w (s0 ∷ s1 ∷ []) (w0 ∷ w1 ∷ [])) (memories.combinational w (s0 ∷ s1 ∷ []) (w0 ∷ w1 ∷ [])))
  unfolding spelled with_piece memories.combinational
  memory_kept2 w s0 s1 w0 w1 wide some few a0 a1 =
      let b : ℕ = bits_for (word_count (s0 ∷ s1 ∷ [])) in let bits_wide = bits_wide_for (word_count (s0 ∷ s1 ∷ [])) in record {
        named = named;
        behind = _;
        clocked = refl;
        names = names_fresh (made name (memory_row w (s0 ∷ s1 ∷ []) (w0 ∷ w1 ∷ [])) (memories.combinational w (s0 ∷ s1 ∷ []) (w0 ∷ w1 ∷ []))) refl;
        ports = (input_kept _ _ 1 refl one_wide, (input_kept _ _ 1 refl one_wide, (input_kept _ _ w0 refl a0, (input_kept _ _ w1 refl a1, (input_kept _ _ w refl wide, (input_kept _ _ 1 refl one_wide, (output_kept _ _ w refl wide refl, (output_kept _ _ 1 refl one_wide refl, tt))))))));
        decls = ((refl, one_wide, refl), ((refl, bits_wide, refl), ((refl, wide, some, omega (arith, few)), ((refl, one_wide), tt))));
        driven_once = (refl, (refl, (refl, (refl, tt))));
        assigns = (assign_keeps _ _ _ refl refl (keeps_applied _ 64 (omega arith) And _ _ 1 (below_keeps _ 0 w0 refl refl refl a0 63 s0 (omega arith)) (below_keeps _ 1 w1 refl refl refl a1 63 s1 (omega arith))), (assign_keeps _ _ _ refl refl (keeps_applied _ 64 (omega arith) Add _ _ b (keeps_applied _ 63 (omega arith) Multiply _ _ b (fitted_keeps _ 0 w0 refl refl refl a0 62 b (omega arith) bits_wide) (literal_keeps _ 62 b (word_count (s1 ∷ [])) bits_wide)) (fitted_keeps _ 1 w1 refl refl refl a1 63 b (omega arith) bits_wide)), (assign_keeps _ _ _ refl refl (keeps_chosen _ 64 (omega arith) _ _ _ w (net_keeps _ 63 (codes "in_range") 1 refl refl refl) (keeps_word _ 63 (omega arith) (spelled (codes "words")) _ b w refl refl refl (net_keeps _ 62 (codes "index") b refl refl refl)) (literal_keeps _ 63 w 0 wide)), (assign_keeps _ _ _ refl refl (net_keeps _ 64 (codes "finished") 1 refl refl refl), tt))));
        instances = tt;
        edge = record { reset_once = (refl, tt); reset = (set_keeps _ _ _ refl refl (literal_keeps _ 64 1 0 one_wide), tt); step_once = (refl, (refl, tt)); step = (record { named = refl; stores = refl; guard = keeps_applied _ 64 (omega arith) And _ _ 1 (net_keeps _ 63 (codes "write_en") 1 refl refl refl) (net_keeps _ 63 (codes "in_range") 1 refl refl refl); index_width = b; index = net_keeps _ 64 (codes "index") b refl refl refl; value = net_keeps _ 64 (codes "write_data") w refl refl refl }, (set_keeps _ _ _ refl refl (net_keeps _ 64 (codes "write_en") 1 refl refl refl), tt)) };
      }

  memory_kept3 : (w s0 s1 s2 w0 w1 w2 : ℕ) → IsWidth w → 1 ≤ word_count (s0 ∷ s1 ∷ s2 ∷ []) → word_count (s0 ∷ s1 ∷ s2 ∷ []) < 2 ^ 32 → IsWidth w0 → IsWidth w1 → IsWidth w2 → IsKept before (made name (memory_row w (s0 ∷ s1 ∷ s2 ∷ []) (w0 ∷ w1 ∷ w2 ∷ [])) (memories.combinational w (s0 ∷ s1 ∷ s2 ∷ []) (w0 ∷ w1 ∷ w2 ∷ [])))
  unfolding spelled with_piece memories.combinational
  memory_kept3 w s0 s1 s2 w0 w1 w2 wide some few a0 a1 a2 =
      let b : ℕ = bits_for (word_count (s0 ∷ s1 ∷ s2 ∷ [])) in let bits_wide = bits_wide_for (word_count (s0 ∷ s1 ∷ s2 ∷ [])) in record {
        named = named;
        behind = _;
        clocked = refl;
        names = names_fresh (made name (memory_row w (s0 ∷ s1 ∷ s2 ∷ []) (w0 ∷ w1 ∷ w2 ∷ [])) (memories.combinational w (s0 ∷ s1 ∷ s2 ∷ []) (w0 ∷ w1 ∷ w2 ∷ []))) refl;
        ports = (input_kept _ _ 1 refl one_wide, (input_kept _ _ 1 refl one_wide, (input_kept _ _ w0 refl a0, (input_kept _ _ w1 refl a1, (input_kept _ _ w2 refl a2, (input_kept _ _ w refl wide, (input_kept _ _ 1 refl one_wide, (output_kept _ _ w refl wide refl, (output_kept _ _ 1 refl one_wide refl, tt)))))))));
        decls = ((refl, one_wide, refl), ((refl, bits_wide, refl), ((refl, wide, some, omega (arith, few)), ((refl, one_wide), tt))));
        driven_once = (refl, (refl, (refl, (refl, tt))));
        assigns = (assign_keeps _ _ _ refl refl (keeps_applied _ 64 (omega arith) And _ _ 1 (below_keeps _ 0 w0 refl refl refl a0 63 s0 (omega arith)) (keeps_applied _ 63 (omega arith) And _ _ 1 (below_keeps _ 1 w1 refl refl refl a1 62 s1 (omega arith)) (below_keeps _ 2 w2 refl refl refl a2 62 s2 (omega arith)))), (assign_keeps _ _ _ refl refl (keeps_applied _ 64 (omega arith) Add _ _ b (keeps_applied _ 63 (omega arith) Multiply _ _ b (fitted_keeps _ 0 w0 refl refl refl a0 62 b (omega arith) bits_wide) (literal_keeps _ 62 b (word_count (s1 ∷ s2 ∷ [])) bits_wide)) (keeps_applied _ 63 (omega arith) Add _ _ b (keeps_applied _ 62 (omega arith) Multiply _ _ b (fitted_keeps _ 1 w1 refl refl refl a1 61 b (omega arith) bits_wide) (literal_keeps _ 61 b (word_count (s2 ∷ [])) bits_wide)) (fitted_keeps _ 2 w2 refl refl refl a2 62 b (omega arith) bits_wide))), (assign_keeps _ _ _ refl refl (keeps_chosen _ 64 (omega arith) _ _ _ w (net_keeps _ 63 (codes "in_range") 1 refl refl refl) (keeps_word _ 63 (omega arith) (spelled (codes "words")) _ b w refl refl refl (net_keeps _ 62 (codes "index") b refl refl refl)) (literal_keeps _ 63 w 0 wide)), (assign_keeps _ _ _ refl refl (net_keeps _ 64 (codes "finished") 1 refl refl refl), tt))));
        instances = tt;
        edge = record { reset_once = (refl, tt); reset = (set_keeps _ _ _ refl refl (literal_keeps _ 64 1 0 one_wide), tt); step_once = (refl, (refl, tt)); step = (record { named = refl; stores = refl; guard = keeps_applied _ 64 (omega arith) And _ _ 1 (net_keeps _ 63 (codes "write_en") 1 refl refl refl) (net_keeps _ 63 (codes "in_range") 1 refl refl refl); index_width = b; index = net_keeps _ 64 (codes "index") b refl refl refl; value = net_keeps _ 64 (codes "write_data") w refl refl refl }, (set_keeps _ _ _ refl refl (net_keeps _ 64 (codes "write_en") 1 refl refl refl), tt)) };
      }

  memory_kept4 : (w s0 s1 s2 s3 w0 w1 w2 w3 : ℕ) → IsWidth w → 1 ≤ word_count (s0 ∷ s1 ∷ s2 ∷ s3 ∷ []) → word_count (s0 ∷ s1 ∷ s2 ∷ s3 ∷ []) < 2 ^ 32 → IsWidth w0 → IsWidth w1 → IsWidth w2 → IsWidth w3 → IsKept before (made name (memory_row w (s0 ∷ s1 ∷ s2 ∷ s3 ∷ []) (w0 ∷ w1 ∷ w2 ∷ w3 ∷ [])) (memories.combinational w (s0 ∷ s1 ∷ s2 ∷ s3 ∷ []) (w0 ∷ w1 ∷ w2 ∷ w3 ∷ [])))
  unfolding spelled with_piece memories.combinational
  memory_kept4 w s0 s1 s2 s3 w0 w1 w2 w3 wide some few a0 a1 a2 a3 =
      let b : ℕ = bits_for (word_count (s0 ∷ s1 ∷ s2 ∷ s3 ∷ [])) in let bits_wide = bits_wide_for (word_count (s0 ∷ s1 ∷ s2 ∷ s3 ∷ [])) in record {
        named = named;
        behind = _;
        clocked = refl;
        names = names_fresh (made name (memory_row w (s0 ∷ s1 ∷ s2 ∷ s3 ∷ []) (w0 ∷ w1 ∷ w2 ∷ w3 ∷ [])) (memories.combinational w (s0 ∷ s1 ∷ s2 ∷ s3 ∷ []) (w0 ∷ w1 ∷ w2 ∷ w3 ∷ []))) refl;
        ports = (input_kept _ _ 1 refl one_wide, (input_kept _ _ 1 refl one_wide, (input_kept _ _ w0 refl a0, (input_kept _ _ w1 refl a1, (input_kept _ _ w2 refl a2, (input_kept _ _ w3 refl a3, (input_kept _ _ w refl wide, (input_kept _ _ 1 refl one_wide, (output_kept _ _ w refl wide refl, (output_kept _ _ 1 refl one_wide refl, tt))))))))));
        decls = ((refl, one_wide, refl), ((refl, bits_wide, refl), ((refl, wide, some, omega (arith, few)), ((refl, one_wide), tt))));
        driven_once = (refl, (refl, (refl, (refl, tt))));
        assigns = (assign_keeps _ _ _ refl refl (keeps_applied _ 64 (omega arith) And _ _ 1 (below_keeps _ 0 w0 refl refl refl a0 63 s0 (omega arith)) (keeps_applied _ 63 (omega arith) And _ _ 1 (below_keeps _ 1 w1 refl refl refl a1 62 s1 (omega arith)) (keeps_applied _ 62 (omega arith) And _ _ 1 (below_keeps _ 2 w2 refl refl refl a2 61 s2 (omega arith)) (below_keeps _ 3 w3 refl refl refl a3 61 s3 (omega arith))))), (assign_keeps _ _ _ refl refl (keeps_applied _ 64 (omega arith) Add _ _ b (keeps_applied _ 63 (omega arith) Multiply _ _ b (fitted_keeps _ 0 w0 refl refl refl a0 62 b (omega arith) bits_wide) (literal_keeps _ 62 b (word_count (s1 ∷ s2 ∷ s3 ∷ [])) bits_wide)) (keeps_applied _ 63 (omega arith) Add _ _ b (keeps_applied _ 62 (omega arith) Multiply _ _ b (fitted_keeps _ 1 w1 refl refl refl a1 61 b (omega arith) bits_wide) (literal_keeps _ 61 b (word_count (s2 ∷ s3 ∷ [])) bits_wide)) (keeps_applied _ 62 (omega arith) Add _ _ b (keeps_applied _ 61 (omega arith) Multiply _ _ b (fitted_keeps _ 2 w2 refl refl refl a2 60 b (omega arith) bits_wide) (literal_keeps _ 60 b (word_count (s3 ∷ [])) bits_wide)) (fitted_keeps _ 3 w3 refl refl refl a3 61 b (omega arith) bits_wide)))), (assign_keeps _ _ _ refl refl (keeps_chosen _ 64 (omega arith) _ _ _ w (net_keeps _ 63 (codes "in_range") 1 refl refl refl) (keeps_word _ 63 (omega arith) (spelled (codes "words")) _ b w refl refl refl (net_keeps _ 62 (codes "index") b refl refl refl)) (literal_keeps _ 63 w 0 wide)), (assign_keeps _ _ _ refl refl (net_keeps _ 64 (codes "finished") 1 refl refl refl), tt))));
        instances = tt;
        edge = record { reset_once = (refl, tt); reset = (set_keeps _ _ _ refl refl (literal_keeps _ 64 1 0 one_wide), tt); step_once = (refl, (refl, tt)); step = (record { named = refl; stores = refl; guard = keeps_applied _ 64 (omega arith) And _ _ 1 (net_keeps _ 63 (codes "write_en") 1 refl refl refl) (net_keeps _ 63 (codes "in_range") 1 refl refl refl); index_width = b; index = net_keeps _ 64 (codes "index") b refl refl refl; value = net_keeps _ 64 (codes "write_data") w refl refl refl }, (set_keeps _ _ _ refl refl (net_keeps _ 64 (codes "write_en") 1 refl refl refl), tt)) };
      }

  pub memory_kept : (w : ℕ) (sizes widths : List ℕ) → IsLayout w sizes widths → IsKept before (made name (memory_row w sizes widths) (memories.combinational w sizes widths))
  memory_kept w sizes widths layout =
      let tests = and_parts (list_all (λ size. nat_le 1 size) sizes) (nat_lt (word_count sizes) (2 ^ 32)) layout.sized in
      by_places sizes widths layout.few layout.alike (word_count_positive sizes tests.0) (ltb-true (word_count sizes) (2 ^ 32) tests.1) layout.addressed
    where
      by_places : (sizes widths : List ℕ) → length sizes ≤ 4 → length widths ≡ length sizes → 1 ≤ word_count sizes → word_count sizes < 2 ^ 32 → list_all is_address_width widths ≡ true
          → IsKept before (made name (memory_row w sizes widths) (memories.combinational w sizes widths))
      by_places [] [] short alike some few addressed = memory_kept0 w layout.word some few
      by_places (s0 ∷ []) (w0 ∷ []) short alike some few addressed = let p0 = and_parts (is_address_width w0) (list_all is_address_width ([])) addressed in memory_kept1 w s0 w0 layout.word some few (address_wide w0 p0.0)
      by_places (s0 ∷ s1 ∷ []) (w0 ∷ w1 ∷ []) short alike some few addressed = let p0 = and_parts (is_address_width w0) (list_all is_address_width (w1 ∷ [])) addressed in let p1 = and_parts (is_address_width w1) (list_all is_address_width ([])) p0.1 in memory_kept2 w s0 s1 w0 w1 layout.word some few (address_wide w0 p0.0) (address_wide w1 p1.0)
      by_places (s0 ∷ s1 ∷ s2 ∷ []) (w0 ∷ w1 ∷ w2 ∷ []) short alike some few addressed = let p0 = and_parts (is_address_width w0) (list_all is_address_width (w1 ∷ w2 ∷ [])) addressed in let p1 = and_parts (is_address_width w1) (list_all is_address_width (w2 ∷ [])) p0.1 in let p2 = and_parts (is_address_width w2) (list_all is_address_width ([])) p1.1 in memory_kept3 w s0 s1 s2 w0 w1 w2 layout.word some few (address_wide w0 p0.0) (address_wide w1 p1.0) (address_wide w2 p2.0)
      by_places (s0 ∷ s1 ∷ s2 ∷ s3 ∷ []) (w0 ∷ w1 ∷ w2 ∷ w3 ∷ []) short alike some few addressed = let p0 = and_parts (is_address_width w0) (list_all is_address_width (w1 ∷ w2 ∷ w3 ∷ [])) addressed in let p1 = and_parts (is_address_width w1) (list_all is_address_width (w2 ∷ w3 ∷ [])) p0.1 in let p2 = and_parts (is_address_width w2) (list_all is_address_width (w3 ∷ [])) p1.1 in let p3 = and_parts (is_address_width w3) (list_all is_address_width ([])) p2.1 in memory_kept4 w s0 s1 s2 s3 w0 w1 w2 w3 layout.word some few (address_wide w0 p0.0) (address_wide w1 p1.0) (address_wide w2 p2.0) (address_wide w3 p3.0)
      by_places (s0 ∷ s1 ∷ s2 ∷ s3 ∷ s4 ∷ sizes) widths short alike some few addressed = absurd (omega (arith, short))
      by_places [] (x ∷ widths) short alike some few addressed = absurd (omega (arith, alike))
      by_places (s0 ∷ sizes) [] short alike some few addressed = absurd (omega (arith, alike))
      by_places (s0 ∷ []) (x ∷ y ∷ widths) short alike some few addressed = absurd (omega (arith, alike))
      by_places (s0 ∷ s1 ∷ sizes) (x ∷ []) short alike some few addressed = absurd (omega (arith, alike))
      by_places (s0 ∷ s1 ∷ []) (x ∷ y ∷ z ∷ widths) short alike some few addressed = absurd (omega (arith, alike))
      by_places (s0 ∷ s1 ∷ s2 ∷ sizes) (x ∷ y ∷ []) short alike some few addressed = absurd (omega (arith, alike))
      by_places (s0 ∷ s1 ∷ s2 ∷ []) (x ∷ y ∷ z ∷ u ∷ widths) short alike some few addressed = absurd (omega (arith, alike))
      by_places (s0 ∷ s1 ∷ s2 ∷ s3 ∷ []) (x ∷ y ∷ z ∷ []) short alike some few addressed = absurd (omega (arith, alike))
      by_places (s0 ∷ s1 ∷ s2 ∷ s3 ∷ []) (x ∷ y ∷ z ∷ u ∷ v ∷ widths) short alike some few addressed = absurd (omega (arith, alike))

  sequential_kept0 : (w : ℕ) → IsWidth w → 1 ≤ word_count ([]) → word_count ([]) < 2 ^ 32 → IsKept before (made name (sequential_memory_row w ([]) ([])) (memories.sequential w ([]) ([])))
  unfolding spelled with_piece memories.sequential
  sequential_kept0 w wide some few =
      let b : ℕ = bits_for (word_count ([])) in let bits_wide = bits_wide_for (word_count ([])) in record {
        named = named;
        behind = _;
        clocked = refl;
        names = names_fresh (made name (sequential_memory_row w ([]) ([])) (memories.sequential w ([]) ([]))) refl;
        ports = (input_kept _ _ 1 refl one_wide, (input_kept _ _ 1 refl one_wide, (input_kept _ _ 1 refl one_wide, (input_kept _ _ 1 refl one_wide, (input_kept _ _ w refl wide, (output_kept _ _ w refl wide refl, (output_kept _ _ 1 refl one_wide refl, tt)))))));
        decls = ((refl, one_wide, refl), ((refl, bits_wide, refl), ((refl, wide, some, omega (arith, few)), ((refl, wide), ((refl, one_wide), tt)))));
        driven_once = (refl, (refl, (refl, (refl, tt))));
        assigns = (assign_keeps _ _ _ refl refl (literal_keeps _ 64 1 1 one_wide), (assign_keeps _ _ _ refl refl (literal_keeps _ 64 b 0 bits_wide), (assign_keeps _ _ _ refl refl (net_keeps _ 64 (codes "held") w refl refl refl), (assign_keeps _ _ _ refl refl (net_keeps _ 64 (codes "finished") 1 refl refl refl), tt))));
        instances = tt;
        edge = record { reset_once = (refl, (refl, tt)); reset = (set_keeps _ _ _ refl refl (literal_keeps _ 64 w 0 wide), (set_keeps _ _ _ refl refl (literal_keeps _ 64 1 0 one_wide), tt)); step_once = (refl, (refl, (refl, tt))); step = (record { named = refl; stores = refl; guard = keeps_applied _ 64 (omega arith) And _ _ 1 (keeps_applied _ 63 (omega arith) And _ _ 1 (net_keeps _ 62 (codes "content_en") 1 refl refl refl) (net_keeps _ 62 (codes "write_en") 1 refl refl refl)) (net_keeps _ 63 (codes "in_range") 1 refl refl refl); index_width = b; index = net_keeps _ 64 (codes "index") b refl refl refl; value = net_keeps _ 64 (codes "write_data") w refl refl refl }, (set_keeps _ _ _ refl refl (keeps_chosen _ 64 (omega arith) _ _ _ w (net_keeps _ 63 (codes "content_en") 1 refl refl refl) (keeps_chosen _ 63 (omega arith) _ _ _ w (net_keeps _ 62 (codes "write_en") 1 refl refl refl) (net_keeps _ 62 (codes "held") w refl refl refl) (keeps_chosen _ 62 (omega arith) _ _ _ w (net_keeps _ 61 (codes "in_range") 1 refl refl refl) (keeps_word _ 61 (omega arith) (spelled (codes "words")) _ b w refl refl refl (net_keeps _ 60 (codes "index") b refl refl refl)) (literal_keeps _ 61 w 0 wide))) (net_keeps _ 63 (codes "held") w refl refl refl)), (set_keeps _ _ _ refl refl (net_keeps _ 64 (codes "content_en") 1 refl refl refl), tt))) };
      }

  sequential_kept1 : (w s0 w0 : ℕ) → IsWidth w → 1 ≤ word_count (s0 ∷ []) → word_count (s0 ∷ []) < 2 ^ 32 → IsWidth w0 → IsKept before (made name (sequential_memory_row w (s0 ∷ []) (w0 ∷ [])) (memories.sequential w (s0 ∷ []) (w0 ∷ [])))
  unfolding spelled with_piece memories.sequential
  sequential_kept1 w s0 w0 wide some few a0 =
      let b : ℕ = bits_for (word_count (s0 ∷ [])) in let bits_wide = bits_wide_for (word_count (s0 ∷ [])) in record {
        named = named;
        behind = _;
        clocked = refl;
        names = names_fresh (made name (sequential_memory_row w (s0 ∷ []) (w0 ∷ [])) (memories.sequential w (s0 ∷ []) (w0 ∷ []))) refl;
        ports = (input_kept _ _ 1 refl one_wide, (input_kept _ _ 1 refl one_wide, (input_kept _ _ w0 refl a0, (input_kept _ _ 1 refl one_wide, (input_kept _ _ 1 refl one_wide, (input_kept _ _ w refl wide, (output_kept _ _ w refl wide refl, (output_kept _ _ 1 refl one_wide refl, tt))))))));
        decls = ((refl, one_wide, refl), ((refl, bits_wide, refl), ((refl, wide, some, omega (arith, few)), ((refl, wide), ((refl, one_wide), tt)))));
        driven_once = (refl, (refl, (refl, (refl, tt))));
        assigns = (assign_keeps _ _ _ refl refl (below_keeps _ 0 w0 refl refl refl a0 64 s0 (omega arith)), (assign_keeps _ _ _ refl refl (fitted_keeps _ 0 w0 refl refl refl a0 64 b (omega arith) bits_wide), (assign_keeps _ _ _ refl refl (net_keeps _ 64 (codes "held") w refl refl refl), (assign_keeps _ _ _ refl refl (net_keeps _ 64 (codes "finished") 1 refl refl refl), tt))));
        instances = tt;
        edge = record { reset_once = (refl, (refl, tt)); reset = (set_keeps _ _ _ refl refl (literal_keeps _ 64 w 0 wide), (set_keeps _ _ _ refl refl (literal_keeps _ 64 1 0 one_wide), tt)); step_once = (refl, (refl, (refl, tt))); step = (record { named = refl; stores = refl; guard = keeps_applied _ 64 (omega arith) And _ _ 1 (keeps_applied _ 63 (omega arith) And _ _ 1 (net_keeps _ 62 (codes "content_en") 1 refl refl refl) (net_keeps _ 62 (codes "write_en") 1 refl refl refl)) (net_keeps _ 63 (codes "in_range") 1 refl refl refl); index_width = b; index = net_keeps _ 64 (codes "index") b refl refl refl; value = net_keeps _ 64 (codes "write_data") w refl refl refl }, (set_keeps _ _ _ refl refl (keeps_chosen _ 64 (omega arith) _ _ _ w (net_keeps _ 63 (codes "content_en") 1 refl refl refl) (keeps_chosen _ 63 (omega arith) _ _ _ w (net_keeps _ 62 (codes "write_en") 1 refl refl refl) (net_keeps _ 62 (codes "held") w refl refl refl) (keeps_chosen _ 62 (omega arith) _ _ _ w (net_keeps _ 61 (codes "in_range") 1 refl refl refl) (keeps_word _ 61 (omega arith) (spelled (codes "words")) _ b w refl refl refl (net_keeps _ 60 (codes "index") b refl refl refl)) (literal_keeps _ 61 w 0 wide))) (net_keeps _ 63 (codes "held") w refl refl refl)), (set_keeps _ _ _ refl refl (net_keeps _ 64 (codes "content_en") 1 refl refl refl), tt))) };
      }

  sequential_kept2 : (w s0 s1 w0 w1 : ℕ) → IsWidth w → 1 ≤ word_count (s0 ∷ s1 ∷ []) → word_count (s0 ∷ s1 ∷ []) < 2 ^ 32 → IsWidth w0 → IsWidth w1 → IsKept before (made name (sequential_memory_row w (s0 ∷ s1 ∷ []) (w0 ∷ w1 ∷ [])) (memories.sequential w (s0 ∷ s1 ∷ []) (w0 ∷ w1 ∷ [])))
  unfolding spelled with_piece memories.sequential
  sequential_kept2 w s0 s1 w0 w1 wide some few a0 a1 =
      let b : ℕ = bits_for (word_count (s0 ∷ s1 ∷ [])) in let bits_wide = bits_wide_for (word_count (s0 ∷ s1 ∷ [])) in record {
        named = named;
        behind = _;
        clocked = refl;
        names = names_fresh (made name (sequential_memory_row w (s0 ∷ s1 ∷ []) (w0 ∷ w1 ∷ [])) (memories.sequential w (s0 ∷ s1 ∷ []) (w0 ∷ w1 ∷ []))) refl;
        ports = (input_kept _ _ 1 refl one_wide, (input_kept _ _ 1 refl one_wide, (input_kept _ _ w0 refl a0, (input_kept _ _ w1 refl a1, (input_kept _ _ 1 refl one_wide, (input_kept _ _ 1 refl one_wide, (input_kept _ _ w refl wide, (output_kept _ _ w refl wide refl, (output_kept _ _ 1 refl one_wide refl, tt)))))))));
        decls = ((refl, one_wide, refl), ((refl, bits_wide, refl), ((refl, wide, some, omega (arith, few)), ((refl, wide), ((refl, one_wide), tt)))));
        driven_once = (refl, (refl, (refl, (refl, tt))));
        assigns = (assign_keeps _ _ _ refl refl (keeps_applied _ 64 (omega arith) And _ _ 1 (below_keeps _ 0 w0 refl refl refl a0 63 s0 (omega arith)) (below_keeps _ 1 w1 refl refl refl a1 63 s1 (omega arith))), (assign_keeps _ _ _ refl refl (keeps_applied _ 64 (omega arith) Add _ _ b (keeps_applied _ 63 (omega arith) Multiply _ _ b (fitted_keeps _ 0 w0 refl refl refl a0 62 b (omega arith) bits_wide) (literal_keeps _ 62 b (word_count (s1 ∷ [])) bits_wide)) (fitted_keeps _ 1 w1 refl refl refl a1 63 b (omega arith) bits_wide)), (assign_keeps _ _ _ refl refl (net_keeps _ 64 (codes "held") w refl refl refl), (assign_keeps _ _ _ refl refl (net_keeps _ 64 (codes "finished") 1 refl refl refl), tt))));
        instances = tt;
        edge = record { reset_once = (refl, (refl, tt)); reset = (set_keeps _ _ _ refl refl (literal_keeps _ 64 w 0 wide), (set_keeps _ _ _ refl refl (literal_keeps _ 64 1 0 one_wide), tt)); step_once = (refl, (refl, (refl, tt))); step = (record { named = refl; stores = refl; guard = keeps_applied _ 64 (omega arith) And _ _ 1 (keeps_applied _ 63 (omega arith) And _ _ 1 (net_keeps _ 62 (codes "content_en") 1 refl refl refl) (net_keeps _ 62 (codes "write_en") 1 refl refl refl)) (net_keeps _ 63 (codes "in_range") 1 refl refl refl); index_width = b; index = net_keeps _ 64 (codes "index") b refl refl refl; value = net_keeps _ 64 (codes "write_data") w refl refl refl }, (set_keeps _ _ _ refl refl (keeps_chosen _ 64 (omega arith) _ _ _ w (net_keeps _ 63 (codes "content_en") 1 refl refl refl) (keeps_chosen _ 63 (omega arith) _ _ _ w (net_keeps _ 62 (codes "write_en") 1 refl refl refl) (net_keeps _ 62 (codes "held") w refl refl refl) (keeps_chosen _ 62 (omega arith) _ _ _ w (net_keeps _ 61 (codes "in_range") 1 refl refl refl) (keeps_word _ 61 (omega arith) (spelled (codes "words")) _ b w refl refl refl (net_keeps _ 60 (codes "index") b refl refl refl)) (literal_keeps _ 61 w 0 wide))) (net_keeps _ 63 (codes "held") w refl refl refl)), (set_keeps _ _ _ refl refl (net_keeps _ 64 (codes "content_en") 1 refl refl refl), tt))) };
      }

  sequential_kept3 : (w s0 s1 s2 w0 w1 w2 : ℕ) → IsWidth w → 1 ≤ word_count (s0 ∷ s1 ∷ s2 ∷ []) → word_count (s0 ∷ s1 ∷ s2 ∷ []) < 2 ^ 32 → IsWidth w0 → IsWidth w1 → IsWidth w2 → IsKept before (made name (sequential_memory_row w (s0 ∷ s1 ∷ s2 ∷ []) (w0 ∷ w1 ∷ w2 ∷ [])) (memories.sequential w (s0 ∷ s1 ∷ s2 ∷ []) (w0 ∷ w1 ∷ w2 ∷ [])))
  unfolding spelled with_piece memories.sequential
  sequential_kept3 w s0 s1 s2 w0 w1 w2 wide some few a0 a1 a2 =
      let b : ℕ = bits_for (word_count (s0 ∷ s1 ∷ s2 ∷ [])) in let bits_wide = bits_wide_for (word_count (s0 ∷ s1 ∷ s2 ∷ [])) in record {
        named = named;
        behind = _;
        clocked = refl;
        names = names_fresh (made name (sequential_memory_row w (s0 ∷ s1 ∷ s2 ∷ []) (w0 ∷ w1 ∷ w2 ∷ [])) (memories.sequential w (s0 ∷ s1 ∷ s2 ∷ []) (w0 ∷ w1 ∷ w2 ∷ []))) refl;
        ports = (input_kept _ _ 1 refl one_wide, (input_kept _ _ 1 refl one_wide, (input_kept _ _ w0 refl a0, (input_kept _ _ w1 refl a1, (input_kept _ _ w2 refl a2, (input_kept _ _ 1 refl one_wide, (input_kept _ _ 1 refl one_wide, (input_kept _ _ w refl wide, (output_kept _ _ w refl wide refl, (output_kept _ _ 1 refl one_wide refl, tt))))))))));
        decls = ((refl, one_wide, refl), ((refl, bits_wide, refl), ((refl, wide, some, omega (arith, few)), ((refl, wide), ((refl, one_wide), tt)))));
        driven_once = (refl, (refl, (refl, (refl, tt))));
        assigns = (assign_keeps _ _ _ refl refl (keeps_applied _ 64 (omega arith) And _ _ 1 (below_keeps _ 0 w0 refl refl refl a0 63 s0 (omega arith)) (keeps_applied _ 63 (omega arith) And _ _ 1 (below_keeps _ 1 w1 refl refl refl a1 62 s1 (omega arith)) (below_keeps _ 2 w2 refl refl refl a2 62 s2 (omega arith)))), (assign_keeps _ _ _ refl refl (keeps_applied _ 64 (omega arith) Add _ _ b (keeps_applied _ 63 (omega arith) Multiply _ _ b (fitted_keeps _ 0 w0 refl refl refl a0 62 b (omega arith) bits_wide) (literal_keeps _ 62 b (word_count (s1 ∷ s2 ∷ [])) bits_wide)) (keeps_applied _ 63 (omega arith) Add _ _ b (keeps_applied _ 62 (omega arith) Multiply _ _ b (fitted_keeps _ 1 w1 refl refl refl a1 61 b (omega arith) bits_wide) (literal_keeps _ 61 b (word_count (s2 ∷ [])) bits_wide)) (fitted_keeps _ 2 w2 refl refl refl a2 62 b (omega arith) bits_wide))), (assign_keeps _ _ _ refl refl (net_keeps _ 64 (codes "held") w refl refl refl), (assign_keeps _ _ _ refl refl (net_keeps _ 64 (codes "finished") 1 refl refl refl), tt))));
        instances = tt;
        edge = record { reset_once = (refl, (refl, tt)); reset = (set_keeps _ _ _ refl refl (literal_keeps _ 64 w 0 wide), (set_keeps _ _ _ refl refl (literal_keeps _ 64 1 0 one_wide), tt)); step_once = (refl, (refl, (refl, tt))); step = (record { named = refl; stores = refl; guard = keeps_applied _ 64 (omega arith) And _ _ 1 (keeps_applied _ 63 (omega arith) And _ _ 1 (net_keeps _ 62 (codes "content_en") 1 refl refl refl) (net_keeps _ 62 (codes "write_en") 1 refl refl refl)) (net_keeps _ 63 (codes "in_range") 1 refl refl refl); index_width = b; index = net_keeps _ 64 (codes "index") b refl refl refl; value = net_keeps _ 64 (codes "write_data") w refl refl refl }, (set_keeps _ _ _ refl refl (keeps_chosen _ 64 (omega arith) _ _ _ w (net_keeps _ 63 (codes "content_en") 1 refl refl refl) (keeps_chosen _ 63 (omega arith) _ _ _ w (net_keeps _ 62 (codes "write_en") 1 refl refl refl) (net_keeps _ 62 (codes "held") w refl refl refl) (keeps_chosen _ 62 (omega arith) _ _ _ w (net_keeps _ 61 (codes "in_range") 1 refl refl refl) (keeps_word _ 61 (omega arith) (spelled (codes "words")) _ b w refl refl refl (net_keeps _ 60 (codes "index") b refl refl refl)) (literal_keeps _ 61 w 0 wide))) (net_keeps _ 63 (codes "held") w refl refl refl)), (set_keeps _ _ _ refl refl (net_keeps _ 64 (codes "content_en") 1 refl refl refl), tt))) };
      }

  sequential_kept4 : (w s0 s1 s2 s3 w0 w1 w2 w3 : ℕ) → IsWidth w → 1 ≤ word_count (s0 ∷ s1 ∷ s2 ∷ s3 ∷ []) → word_count (s0 ∷ s1 ∷ s2 ∷ s3 ∷ []) < 2 ^ 32 → IsWidth w0 → IsWidth w1 → IsWidth w2 → IsWidth w3 → IsKept before (made name (sequential_memory_row w (s0 ∷ s1 ∷ s2 ∷ s3 ∷ []) (w0 ∷ w1 ∷ w2 ∷ w3 ∷ [])) (memories.sequential w (s0 ∷ s1 ∷ s2 ∷ s3 ∷ []) (w0 ∷ w1 ∷ w2 ∷ w3 ∷ [])))
  unfolding spelled with_piece memories.sequential
  sequential_kept4 w s0 s1 s2 s3 w0 w1 w2 w3 wide some few a0 a1 a2 a3 =
      let b : ℕ = bits_for (word_count (s0 ∷ s1 ∷ s2 ∷ s3 ∷ [])) in let bits_wide = bits_wide_for (word_count (s0 ∷ s1 ∷ s2 ∷ s3 ∷ [])) in record {
        named = named;
        behind = _;
        clocked = refl;
        names = names_fresh (made name (sequential_memory_row w (s0 ∷ s1 ∷ s2 ∷ s3 ∷ []) (w0 ∷ w1 ∷ w2 ∷ w3 ∷ [])) (memories.sequential w (s0 ∷ s1 ∷ s2 ∷ s3 ∷ []) (w0 ∷ w1 ∷ w2 ∷ w3 ∷ []))) refl;
        ports = (input_kept _ _ 1 refl one_wide, (input_kept _ _ 1 refl one_wide, (input_kept _ _ w0 refl a0, (input_kept _ _ w1 refl a1, (input_kept _ _ w2 refl a2, (input_kept _ _ w3 refl a3, (input_kept _ _ 1 refl one_wide, (input_kept _ _ 1 refl one_wide, (input_kept _ _ w refl wide, (output_kept _ _ w refl wide refl, (output_kept _ _ 1 refl one_wide refl, tt)))))))))));
        decls = ((refl, one_wide, refl), ((refl, bits_wide, refl), ((refl, wide, some, omega (arith, few)), ((refl, wide), ((refl, one_wide), tt)))));
        driven_once = (refl, (refl, (refl, (refl, tt))));
        assigns = (assign_keeps _ _ _ refl refl (keeps_applied _ 64 (omega arith) And _ _ 1 (below_keeps _ 0 w0 refl refl refl a0 63 s0 (omega arith)) (keeps_applied _ 63 (omega arith) And _ _ 1 (below_keeps _ 1 w1 refl refl refl a1 62 s1 (omega arith)) (keeps_applied _ 62 (omega arith) And _ _ 1 (below_keeps _ 2 w2 refl refl refl a2 61 s2 (omega arith)) (below_keeps _ 3 w3 refl refl refl a3 61 s3 (omega arith))))), (assign_keeps _ _ _ refl refl (keeps_applied _ 64 (omega arith) Add _ _ b (keeps_applied _ 63 (omega arith) Multiply _ _ b (fitted_keeps _ 0 w0 refl refl refl a0 62 b (omega arith) bits_wide) (literal_keeps _ 62 b (word_count (s1 ∷ s2 ∷ s3 ∷ [])) bits_wide)) (keeps_applied _ 63 (omega arith) Add _ _ b (keeps_applied _ 62 (omega arith) Multiply _ _ b (fitted_keeps _ 1 w1 refl refl refl a1 61 b (omega arith) bits_wide) (literal_keeps _ 61 b (word_count (s2 ∷ s3 ∷ [])) bits_wide)) (keeps_applied _ 62 (omega arith) Add _ _ b (keeps_applied _ 61 (omega arith) Multiply _ _ b (fitted_keeps _ 2 w2 refl refl refl a2 60 b (omega arith) bits_wide) (literal_keeps _ 60 b (word_count (s3 ∷ [])) bits_wide)) (fitted_keeps _ 3 w3 refl refl refl a3 61 b (omega arith) bits_wide)))), (assign_keeps _ _ _ refl refl (net_keeps _ 64 (codes "held") w refl refl refl), (assign_keeps _ _ _ refl refl (net_keeps _ 64 (codes "finished") 1 refl refl refl), tt))));
        instances = tt;
        edge = record { reset_once = (refl, (refl, tt)); reset = (set_keeps _ _ _ refl refl (literal_keeps _ 64 w 0 wide), (set_keeps _ _ _ refl refl (literal_keeps _ 64 1 0 one_wide), tt)); step_once = (refl, (refl, (refl, tt))); step = (record { named = refl; stores = refl; guard = keeps_applied _ 64 (omega arith) And _ _ 1 (keeps_applied _ 63 (omega arith) And _ _ 1 (net_keeps _ 62 (codes "content_en") 1 refl refl refl) (net_keeps _ 62 (codes "write_en") 1 refl refl refl)) (net_keeps _ 63 (codes "in_range") 1 refl refl refl); index_width = b; index = net_keeps _ 64 (codes "index") b refl refl refl; value = net_keeps _ 64 (codes "write_data") w refl refl refl }, (set_keeps _ _ _ refl refl (keeps_chosen _ 64 (omega arith) _ _ _ w (net_keeps _ 63 (codes "content_en") 1 refl refl refl) (keeps_chosen _ 63 (omega arith) _ _ _ w (net_keeps _ 62 (codes "write_en") 1 refl refl refl) (net_keeps _ 62 (codes "held") w refl refl refl) (keeps_chosen _ 62 (omega arith) _ _ _ w (net_keeps _ 61 (codes "in_range") 1 refl refl refl) (keeps_word _ 61 (omega arith) (spelled (codes "words")) _ b w refl refl refl (net_keeps _ 60 (codes "index") b refl refl refl)) (literal_keeps _ 61 w 0 wide))) (net_keeps _ 63 (codes "held") w refl refl refl)), (set_keeps _ _ _ refl refl (net_keeps _ 64 (codes "content_en") 1 refl refl refl), tt))) };
      }

  pub sequential_kept : (w : ℕ) (sizes widths : List ℕ) → IsLayout w sizes widths → IsKept before (made name (sequential_memory_row w sizes widths) (memories.sequential w sizes widths))
  sequential_kept w sizes widths layout =
      let tests = and_parts (list_all (λ size. nat_le 1 size) sizes) (nat_lt (word_count sizes) (2 ^ 32)) layout.sized in
      by_places sizes widths layout.few layout.alike (word_count_positive sizes tests.0) (ltb-true (word_count sizes) (2 ^ 32) tests.1) layout.addressed
    where
      by_places : (sizes widths : List ℕ) → length sizes ≤ 4 → length widths ≡ length sizes → 1 ≤ word_count sizes → word_count sizes < 2 ^ 32 → list_all is_address_width widths ≡ true
          → IsKept before (made name (sequential_memory_row w sizes widths) (memories.sequential w sizes widths))
      by_places [] [] short alike some few addressed = sequential_kept0 w layout.word some few
      by_places (s0 ∷ []) (w0 ∷ []) short alike some few addressed = let p0 = and_parts (is_address_width w0) (list_all is_address_width ([])) addressed in sequential_kept1 w s0 w0 layout.word some few (address_wide w0 p0.0)
      by_places (s0 ∷ s1 ∷ []) (w0 ∷ w1 ∷ []) short alike some few addressed = let p0 = and_parts (is_address_width w0) (list_all is_address_width (w1 ∷ [])) addressed in let p1 = and_parts (is_address_width w1) (list_all is_address_width ([])) p0.1 in sequential_kept2 w s0 s1 w0 w1 layout.word some few (address_wide w0 p0.0) (address_wide w1 p1.0)
      by_places (s0 ∷ s1 ∷ s2 ∷ []) (w0 ∷ w1 ∷ w2 ∷ []) short alike some few addressed = let p0 = and_parts (is_address_width w0) (list_all is_address_width (w1 ∷ w2 ∷ [])) addressed in let p1 = and_parts (is_address_width w1) (list_all is_address_width (w2 ∷ [])) p0.1 in let p2 = and_parts (is_address_width w2) (list_all is_address_width ([])) p1.1 in sequential_kept3 w s0 s1 s2 w0 w1 w2 layout.word some few (address_wide w0 p0.0) (address_wide w1 p1.0) (address_wide w2 p2.0)
      by_places (s0 ∷ s1 ∷ s2 ∷ s3 ∷ []) (w0 ∷ w1 ∷ w2 ∷ w3 ∷ []) short alike some few addressed = let p0 = and_parts (is_address_width w0) (list_all is_address_width (w1 ∷ w2 ∷ w3 ∷ [])) addressed in let p1 = and_parts (is_address_width w1) (list_all is_address_width (w2 ∷ w3 ∷ [])) p0.1 in let p2 = and_parts (is_address_width w2) (list_all is_address_width (w3 ∷ [])) p1.1 in let p3 = and_parts (is_address_width w3) (list_all is_address_width ([])) p2.1 in sequential_kept4 w s0 s1 s2 s3 w0 w1 w2 w3 layout.word some few (address_wide w0 p0.0) (address_wide w1 p1.0) (address_wide w2 p2.0) (address_wide w3 p3.0)
      by_places (s0 ∷ s1 ∷ s2 ∷ s3 ∷ s4 ∷ sizes) widths short alike some few addressed = absurd (omega (arith, short))
      by_places [] (x ∷ widths) short alike some few addressed = absurd (omega (arith, alike))
      by_places (s0 ∷ sizes) [] short alike some few addressed = absurd (omega (arith, alike))
      by_places (s0 ∷ []) (x ∷ y ∷ widths) short alike some few addressed = absurd (omega (arith, alike))
      by_places (s0 ∷ s1 ∷ sizes) (x ∷ []) short alike some few addressed = absurd (omega (arith, alike))
      by_places (s0 ∷ s1 ∷ []) (x ∷ y ∷ z ∷ widths) short alike some few addressed = absurd (omega (arith, alike))
      by_places (s0 ∷ s1 ∷ s2 ∷ sizes) (x ∷ y ∷ []) short alike some few addressed = absurd (omega (arith, alike))
      by_places (s0 ∷ s1 ∷ s2 ∷ []) (x ∷ y ∷ z ∷ u ∷ widths) short alike some few addressed = absurd (omega (arith, alike))
      by_places (s0 ∷ s1 ∷ s2 ∷ s3 ∷ []) (x ∷ y ∷ z ∷ []) short alike some few addressed = absurd (omega (arith, alike))
      by_places (s0 ∷ s1 ∷ s2 ∷ s3 ∷ []) (x ∷ y ∷ z ∷ u ∷ v ∷ widths) short alike some few addressed = absurd (omega (arith, alike))
