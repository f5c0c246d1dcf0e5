-- A cell of the asked instance that can step, and its room.
use Rattle.std.proofs.Common.{◌≡◌, ◌≢◌, ℕ, ◌<◌, ◌^◌, List, get_or, length, set, Option, Some, sym, subst, arith}
use Rattle.std.proofs.lemmas.Option.{slice_get-get_or}
use Rattle.cx_prim.specs.CellStates.{CellState}
use Rattle.cx_prim.specs.Table.{row_of}
use Rattle.cx_eval_network.specs.declared.asking.Asking.{Asking}
use Rattle.cx_eval_network.specs.Askings.{IsAsking}
use Rattle.cx_eval_cycle.specs.declared.rooms.CellRoom.{CellRoom}
use Rattle.cx_eval_cycle.specs.declared.stepping.SteppingCell.{SteppingCell}
use Rattle.cx_eval_cycle.specs.Passes.{cell_held, kind_at}
use Rattle.cx_eval_cycle.specs.Rooms.{HasRoom, HaveRooms, inputs_at, ports_of}
use Rattle.cx_eval_cycle.specs.Stepping.{AreStepping, kept_at}
use Rattle.cx_eval_cycle.specs.Steps.{IsGathered, IsGatheredAt}
use Rattle.cx_eval_cycle.proofs.RoomLemmas.{filled_inputs, other_inputs, still_rooms}
use Rattle.cx_eval_cycle.proofs.SteppingLemmas.{kept_below}
use Rattle.cx_eval_cycle.proofs.StepLemmas.{IsOf, kept_kind, one_gathered}
use Rattle.cx_eval.specs.Looked.{StandFirst, StandFrom, own_cells, own_held, seen_look}
use Rattle.cx_eval.proofs.OwnLemmas.{few_own}

module _ (a : Asking) (can : IsAsking a) (kept : List (Option SteppingCell)) (are : AreStepping (own_cells a) kept) (c : ℕ) (stepping : SteppingCell) (is : kept_at kept c ≡ Some stepping) where
  below : c < length kept
  below = kept_below kept c stepping is

  pub number_few : c < 2 ^ 32
  number_few = let lt = below in let count = are.count in let few = few_own a can in omega (arith, lt, count, few)

  -- what it is of
  pub own_of : IsOf (kind_at (own_cells a) c) stepping
  own_of = kept_kind (kind_at (own_cells a) c) (kept_at kept c) stepping (are.each c) is

  -- the node from which on its ports stand
  module _ (firsts : List ℕ) (stand : StandFirst a firsts) where
    pub first_below : c < length firsts
    first_below = let lt = below in let count = stand.count in let all = are.count in omega (arith, lt, count, all)

    pub stands_first : StandFrom a c (row_of stepping.primitive.now).ports (get_or firsts c 0)
    stands_first = stand.each c (get_or firsts c 0) stepping.primitive.now (slice_get-get_or firsts c 0 first_below) own_of.primitive

  -- its room, and the rooms after a look at it
  module _ (rooms : List CellRoom) (have : HaveRooms kept rooms) where
    pub room_below : c < length rooms
    room_below = let lt = below in let count = have.count in omega (arith, lt, count)

    pub has_room : (room : CellRoom) → HasRoom (row_of stepping.primitive.now).ports (get_or rooms c room)
    has_room room = subst (λ k. HasRoom (ports_of k) (get_or rooms c room)) is (have.each c (get_or rooms c room) (slice_get-get_or rooms c room room_below))

    module _ (new : CellRoom) where
      pub rooms_after : HasRoom (row_of stepping.primitive.now).ports new → HaveRooms kept (set rooms c new)
      rooms_after has = still_rooms rooms c new kept have room_below (subst (λ k. HasRoom (ports_of k) new) (sym is) has)

      pub others_after : (m : ℕ) → m ≢ c → inputs_at (set rooms c new) m ≡ inputs_at rooms m
      others_after m differs = other_inputs rooms c new m differs

      pub gathered_after : (state : CellState) → cell_held (own_held a) c ≡ Some state → IsGathered (seen_look a) c (row_of stepping.primitive.now) state new.inputs.items → IsGatheredAt (seen_look a) kept (own_held a) (set rooms c new) c
      gathered_after state holds gathered =
          one_gathered (seen_look a) kept (own_held a) (set rooms c new) c stepping state is holds
          (subst (IsGathered (seen_look a) c (row_of stepping.primitive.now) state) (sym (filled_inputs rooms c new room_below)) gathered)
