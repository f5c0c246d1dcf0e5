-- Spare parts as they are made suffice for the control of main.
use Rattle.std.proofs.Common.{◌≡◌, ℕ, suc, ◌-◌, ◌≤◌, ◌<◌, Vec, Global, List, [], ◌∷◌, length, get_or, sym, ap, subst, arith}
use Rattle.std.specs.Prelude.{All, vec_capacity, vec_len}
use Rattle.cx_meaning.specs.declared.sights.Seen.{Seen}
use Rattle.cx_meaning.specs.Designs.{PlainDesign, PlainComponent, component_at}
use Rattle.cx_meaning.specs.Instances.{Path, instance_at, paths_of, tree_of}
use Rattle.cx_rules.specs.Accepted.{IsAccepted}
use Rattle.cx_rules.specs.Wellformed.{IsDesign}
use Rattle.cx_state.specs.declared.tables.InstanceRow.{InstanceRow}
use Rattle.cx_state.specs.Tables.{IsNumber, IsTable, row_at}
use Rattle.cx_turns.specs.declared.rooms.Room.{Room}
use Rattle.cx_turns.specs.Rooms.{HasRoom}
use Rattle.cx_turns.proofs.HoldLemmas.{own_part}
use Rattle.cx_turns.proofs.RoomLemmas.{island_room}
use Rattle.cx_weave.specs.declared.needs.Piece.{Piece}
use Rattle.cx_weave.specs.declared.needs.Piece.TheVariants as pieces
use Rattle.cx_weave.specs.declared.spares.IslandLists.{IslandLists}
use Rattle.cx_weave.specs.declared.spares.Spares.{Spares}
use Rattle.cx_weave.specs.Takes.{control_need}
use Rattle.cx_turns.specs.Marks.{set_count}
use Rattle.cx_weave.specs.Ledger.{Lengths, lists_lack, pieces_spare, places_for, total}
use Rattle.cx_weave.specs.Supplied.{Suffice, Supplied}
use Rattle.cx_meaning.proofs.InstancesLemmas.{here, main_first}
use Rattle.cx_text.proofs.ListLaws.{there_below}

pub each_piece : (P : Piece → Type 0) → P pieces.Boxes → P pieces.Arms → P pieces.Islands → P pieces.Inputs → (k : Piece) → P k
each_piece P boxes arms islands inputs pieces.Boxes = boxes
each_piece P boxes arms islands inputs pieces.Arms = arms
each_piece P boxes arms islands inputs pieces.Islands = islands
each_piece P boxes arms islands inputs pieces.Inputs = inputs

-- lists that are long enough lack nothing
none_lacks : {A : Type 0} (f : A → ℕ) (xs : List A) → ((k : ℕ) (e : A) → k < length xs → f (get_or xs k e) ≤ 0) → total f xs ≤ 0
none_lacks f [] all = omega arith
none_lacks f (x ∷ xs) all =
    let one : f x ≤ 0 = all 0 x (let h : 0 < suc (length xs) = omega arith in h) in
    let rest = none_lacks f xs (λ k e less. all (suc k) e (let h : suc k < suc (length xs) = omega (arith, less) in h)) in
    omega (arith, one, rest)

module _ (d : PlainDesign) (accepted : IsAccepted d) (design : IsDesign d) (rows : List InstanceRow) (children : List ℕ) (table : IsTable d rows children) where
  component_of : (n : ℕ) (path : Path) → IsNumber d n path → (row_at rows n).component < length d.components
  component_of n path number = table.there n (subst (λ m. n < m) (sym table.count) (there_below (paths_of (tree_of d)) n path number))

  pub lengths_suffice : (cells inputs : ℕ) (room : Room) → ((k : ℕ) → k < length d.components → length (component_at d k).cells ≤ cells) → ((k : ℕ) → k < length d.components → length (component_at d k).inputs ≤ inputs) → HasRoom d room
      → Suffice d (record { cells = cells; samples = vec_len room.samples; inputs = inputs })
  lengths_suffice cells inputs room most_cells most_inputs has = record {
    cells = λ n path number. subst (λ (p : PlainComponent). length p.cells ≤ cells) (sym (own_part d design rows children table n path number)) (most_cells (row_at rows n).component (component_of n path number));
    inputs = λ n path number. subst (λ (p : PlainComponent). length p.inputs ≤ inputs) (sym (own_part d design rows children table n path number)) (most_inputs (row_at rows n).component (component_of n path number));
    samples = λ n form inside stands. (island_room d accepted design rows children table n form room inside stands has).0;
  }

pub made_supplied : (d : PlainDesign) (spares : Spares) (l : Lengths) → Suffice d l → ((k : Piece) → control_need k (tree_of d) ≤ pieces_spare k spares) → ((k : Piece) → pieces_spare k spares ≤ places_for k spares)
    → All (λ (lists : IslandLists). l.cells ≤ vec_capacity lists.cells) spares.islands.items → All (λ (lists : IslandLists). l.samples ≤ length lists.samples.items) spares.islands.items → All (λ (list : Vec Seen Global). l.inputs ≤ vec_capacity list) spares.inputs.items
    → vec_len spares.marks ≡ l.cells → set_count spares.marks.items ≡ 0 → Supplied d 0 spares (λ k i. control_need k i) (λ x. 0)
made_supplied d spares l suffice enough places cells samples inputs marks clear = record {
  lengths = l;
  suffice = suffice;
  path = [];
  number = main_first (tree_of d);
  enough = λ k. (let e : control_need k (instance_at (tree_of d) []) ≡ control_need k (tree_of d) = ap (control_need k) (here (tree_of d)) in let h = enough k in omega (arith, e, h));
  places = λ k. (let h = places k in omega (arith, h));
  lists =
      let islands = none_lacks (lists_lack l) spares.islands.items (λ k e less. (let a = cells k e less in let b = samples k e less in omega (arith, a, b))) in
      let lists = none_lacks (λ (list : Vec Seen Global). l.inputs - vec_capacity list) spares.inputs.items (λ k e less. (let a = inputs k e less in omega (arith, a))) in
      let whole = spares.marks.ok.0 in
      omega (arith, islands, lists, marks, clear, whole);
}
