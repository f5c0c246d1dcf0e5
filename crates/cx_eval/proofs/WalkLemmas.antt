-- The ports of a cell, one after the other: the enabling ones, then the plain inputs that are asked for.
use Rattle.std.proofs.Common.{◌≡◌, ℕ, ◌+◌, ◌<◌, ◌≤◌, ◌⊎◌, inl, inr, ⊎_elim, Bool, true, ◌&&◌, get_or, length, sym, ap, ◌∙◌, subst, arith}
use Rattle.std.proofs.lemmas.Bool.{cases_eq, cases_lt, or_right}
use Rattle.std.proofs.lemmas.Option.{slice_get_within}
use Rattle.cx_prim.specs.CellStates.{CellState}
use Rattle.cx_prim.specs.declared.ports.Side.TheVariants.{Enable, Plain}
use Rattle.cx_prim.specs.Rows.{Inputs, IsQuiet, Row, is_enable_side, number_of, value_at}
use Rattle.cx_prim.specs.Table.{PrimitiveRow, row_of}
use Rattle.cx_prim.proofs.TableLaws.{row_of_lawful}
use Rattle.cx_meaning.specs.declared.sights.Seen.{Seen}
use Rattle.cx_meaning.specs.Cycles.{enables, looks_at}
use Rattle.cx_meaning.specs.Rows.{side_of}
use Rattle.cx_meaning.proofs.RowsLemmas.{side_at}
use Rattle.cx_eval_cycle.specs.declared.looking.CellStop.{CellStop}
use Rattle.cx_eval_cycle.specs.declared.stepping.SteppingCell.{SteppingCell}
use Rattle.cx_eval_cycle.specs.Ports.{AllStand, IsLack, KeepStanding, Stands, StopsAt, is_side}
use Rattle.cx_eval_cycle.specs.Stepping.{IsStepping, on_side}
use Rattle.cx_eval_cycle.proofs.DemandLemmas.{demanded_plain}
use Rattle.cx_eval_cycle.proofs.LookLemmas.{demands_still, stands_same}
use Rattle.cx_eval_cycle.proofs.PortLemmas.{HaveWalked, IsNext, all_kept, all_next, enable_side, plain_apart, walk_begin, walk_end, walk_next}
use Rattle.cx_eval.specs.Looked.{StandsAs}
use Rattle.cx_text.proofs.BoolLaws.{and_left, and_right, not_both, or_either}

lack_there : (look : ℕ → Seen) (q : ℕ) (stop : CellStop) → IsLack look q stop → IsLack look stop.port stop
lack_there look q stop lack = subst (λ m. IsLack look m stop) (sym lack.at) lack

-- what was found so far
module _ (look : ℕ → Seen) (p : PrimitiveRow) (stepping : SteppingCell) where
  pub record EnablingSoFar (k : ℕ) (inputs : Inputs) (quiet : Bool) : Type 0 where
    pub port : ℕ
    pub walked : HaveWalked (on_side Enable (row_of p)) (length (row_of p).ports) stepping.enabling.items k port
    pub stand : AllStand look (on_side Enable (row_of p)) port inputs
    pub zeros : quiet ≡ true → (q : ℕ) → q < port → on_side Enable (row_of p) q ≡ true → value_at inputs q ≡ 0

  pub record PlainSoFar (state : CellState) (first : Inputs) (k : ℕ) (inputs : Inputs) : Type 0 where
    pub port : ℕ
    pub walked : HaveWalked (on_side Plain (row_of p)) (length (row_of p).ports) stepping.plain.items k port
    pub enabling : AllStand look (enables (row_of p)) (length (row_of p).ports) inputs
    pub stand : AllStand look (looks_at (row_of p) state first) port inputs

module _ (look : ℕ → Seen) (p : PrimitiveRow) (stepping : SteppingCell) where
  abbrev row : Row
  row = row_of p

  abbrev count : ℕ
  count = length (row_of p).ports

  -- ENABLING PORTS
  pub enabling_begin : IsStepping p stepping → (inputs : Inputs) → EnablingSoFar look p stepping 0 inputs true
  enabling_begin is inputs = record {
    port = 0;
    walked = walk_begin (on_side Enable row) count stepping.enabling.items is.enabling;
    stand = λ q lt on. absurd (omega (arith, lt));
    zeros = λ e q lt on. absurd (omega (arith, lt));
  }

  module _ (k : ℕ) (old : Inputs) (quiet : Bool) (far : EnablingSoFar look p stepping k old quiet) (lt : k < length stepping.enabling.items) (q : ℕ) (at : q ≡ get_or stepping.enabling.items k q) where
    enabling_is : IsNext (on_side Enable row) far.port count q
    enabling_is = subst (IsNext (on_side Enable row) far.port count) (sym at) (walk_next (on_side Enable row) count stepping.enabling.items k far.port q lt far.walked).0

    pub enabling_within : q < length (row_of p).ports
    enabling_within = enabling_is.within

    pub enabling_next : (new : Inputs) (zero : Bool) → KeepStanding look old new → StandsAs look new q zero → EnablingSoFar look p stepping (k + 1) new (quiet && zero)
    enabling_next new zero keeps stands = record {
      port = q + 1;
      walked = subst (λ m. HaveWalked (on_side Enable row) count stepping.enabling.items (k + 1) (m + 1)) (sym at) (walk_next (on_side Enable row) count stepping.enabling.items k far.port q lt far.walked).1;
      stand = all_next look (on_side Enable row) new far.port q count enabling_is (all_kept look (on_side Enable row) old new far.port keeps far.stand) stands.stands;
      zeros = λ e j below on.
          ⊎_elim
          (λ (before : j < far.port).
          let s = far.stand j before on in
          ap number_of (sym (stands_same look old new j s (keeps j s))) ∙ far.zeros (and_left quiet zero e) j before on)
          (λ from.
          ⊎_elim (λ (here : j ≡ q). ap (value_at new) here ∙ stands.is_zero (and_right quiet zero e))
          (λ differs. absurd (not_both (on_side Enable row j) on (enabling_is.skipped j from (omega (arith, below, differs)))))
          (cases_eq j q))
          (cases_lt j far.port);
    }

    pub enabling_stops : (stop : CellStop) → IsLack look q stop → StopsAt look (enables (row_of p)) (length (row_of p).ports) stop
    enabling_stops stop lack = record {
      within = (let here = lack.at in let within = enabling_is.within in omega (arith, here, within));
      wanted = sym (enable_side (side_of row stop.port)) ∙ ap (on_side Enable row) lack.at ∙ enabling_is.passes;
      lack = lack_there look q stop lack;
      earlier = λ j below on.
          let here = lack.at in
          let passes = enable_side (side_of row j) ∙ on in
          ⊎_elim
          (λ (before : j < far.port). let s = far.stand j before passes in record { value = s.value; is = s.seen })
          (λ from. absurd (not_both (on_side Enable row j) passes (enabling_is.skipped j from (omega (arith, below, here)))))
          (cases_lt j far.port);
    }

  module _ (k : ℕ) (inputs : Inputs) (quiet : Bool) (far : EnablingSoFar look p stepping k inputs quiet) (past : length stepping.enabling.items ≤ k) where
    enabling_before : (j : ℕ) → j < count → on_side Enable row j ≡ true → j < far.port
    enabling_before j lt on =
        ⊎_elim (λ (before : j < far.port). before)
        (λ from. absurd (not_both (on_side Enable row j) on (walk_end (on_side Enable row) count stepping.enabling.items k far.port past far.walked j from lt)))
        (cases_lt j far.port)

    pub enabling_stand : AllStand look (enables (row_of p)) (length (row_of p).ports) inputs
    enabling_stand j lt on = let passes = enable_side (side_of row j) ∙ on in far.stand j (enabling_before j lt passes) passes

    pub enabling_quiet : quiet ≡ true → IsQuiet (row_of p) inputs
    enabling_quiet e n port at side =
        let passes = enable_side (side_of row n) ∙ ap is_enable_side (side_at row.ports n port at ∙ side) in
        far.zeros e n (enabling_before n (slice_get_within row.ports n port at) passes) passes

  -- PLAIN INPUTS
  module _ (state : CellState) (first : Inputs) (firsts : AllStand look (enables (row_of p)) (length (row_of p).ports) first) where
    pub plain_begin : IsStepping p stepping → PlainSoFar look p stepping state first 0 first
    plain_begin is = record {
      port = 0;
      walked = walk_begin (on_side Plain row) count stepping.plain.items is.plain;
      enabling = firsts;
      stand = λ q lt on. absurd (omega (arith, lt));
    }

    -- what is looked at is enabling, or a plain input
    looked_either : (j : ℕ) → looks_at row state first j ≡ true → (enables row j ≡ true) ⊎ (on_side Plain row j ≡ true)
    looked_either j on =
        ⊎_elim (λ enabling. inl enabling) (λ asked. inr (ap (is_side Plain) (demanded_plain p state first j asked))) (or_either (enables row j) (row.demands state first j) on)

    module _ (k : ℕ) (old : Inputs) (far : PlainSoFar look p stepping state first k old) (lt : k < length stepping.plain.items) (q : ℕ) (at : q ≡ get_or stepping.plain.items k q) where
      plain_is : IsNext (on_side Plain row) far.port count q
      plain_is = subst (IsNext (on_side Plain row) far.port count) (sym at) (walk_next (on_side Plain row) count stepping.plain.items k far.port q lt far.walked).0

      pub plain_within : q < length (row_of p).ports
      plain_within = plain_is.within

      asks_still : row.demands state old q ≡ row.demands state first q
      asks_still = demands_still look row state (row_of_lawful p) first firsts old far.enabling q

      pub plain_next : (new : Inputs) → KeepStanding look old new → ((row_of p).demands state old q ≡ true → Stands look new q) → PlainSoFar look p stepping state first (k + 1) new
      plain_next new keeps stands = record {
        port = q + 1;
        walked = subst (λ m. HaveWalked (on_side Plain row) count stepping.plain.items (k + 1) (m + 1)) (sym at) (walk_next (on_side Plain row) count stepping.plain.items k far.port q lt far.walked).1;
        enabling = all_kept look (enables row) old new count keeps far.enabling;
        stand = λ j below on.
            ⊎_elim
            (λ (before : j < far.port). keeps j (far.stand j before on))
            (λ from.
            ⊎_elim
            (λ (enabling : enables row j ≡ true). (let inside = plain_is.within in keeps j (far.enabling j (omega (arith, below, inside)) enabling)))
            (λ (plain : on_side Plain row j ≡ true). later j below from on plain)
            (looked_either j on))
            (cases_lt j far.port);
      }
        where
          asked : (j : ℕ) → looks_at row state first j ≡ true → on_side Plain row j ≡ true → row.demands state first j ≡ true
          asked j on plain =
              ⊎_elim (λ (enabling : enables row j ≡ true). absurd (not_both (enables row j) enabling (plain_apart (side_of row j) plain))) (λ demanded. demanded) (or_either (enables row j) (row.demands state first j) on)

          later : (j : ℕ) → j < q + 1 → far.port ≤ j → looks_at row state first j ≡ true → on_side Plain row j ≡ true → Stands look new j
          later j below from on plain =
              ⊎_elim
              (λ (here : j ≡ q). subst (Stands look new) (sym here) (stands (asks_still ∙ ap (row.demands state first) (sym here) ∙ asked j on plain)))
              (λ differs. absurd (not_both (on_side Plain row j) plain (plain_is.skipped j from (omega (arith, below, differs)))))
              (cases_eq j q)

      pub plain_stops : (stop : CellStop) → IsLack look q stop → (row_of p).demands state old q ≡ true → StopsAt look (looks_at (row_of p) state first) (length (row_of p).ports) stop
      plain_stops stop lack asks = record {
        within = (let here = lack.at in let within = plain_is.within in omega (arith, here, within));
        wanted = or_right (enables row stop.port) (row.demands state first stop.port) (ap (row.demands state first) lack.at ∙ sym asks_still ∙ asks);
        lack = lack_there look q stop lack;
        earlier = λ j below on.
            let here = lack.at in
            ⊎_elim
            (λ (before : j < far.port). let s = far.stand j before on in record { value = s.value; is = s.seen })
            (λ from.
            ⊎_elim
            (λ (enabling : enables row j ≡ true). (let inside = plain_is.within in let s = far.enabling j (omega (arith, below, here, inside)) enabling in record { value = s.value; is = s.seen }))
            (λ (plain : on_side Plain row j ≡ true). absurd (not_both (on_side Plain row j) plain (plain_is.skipped j from (omega (arith, below, here)))))
            (looked_either j on))
            (cases_lt j far.port);
      }

    pub plain_end : (k : ℕ) (inputs : Inputs) → PlainSoFar look p stepping state first k inputs → length stepping.plain.items ≤ k → AllStand look (looks_at (row_of p) state first) (length (row_of p).ports) inputs
    plain_end k inputs far past j lt on =
        ⊎_elim
        (λ (before : j < far.port). far.stand j before on)
        (λ from.
        ⊎_elim
        (λ (enabling : enables row j ≡ true). far.enabling j lt enabling)
        (λ (plain : on_side Plain row j ≡ true). absurd (not_both (on_side Plain row j) plain (walk_end (on_side Plain row) count stepping.plain.items k far.port past far.walked j from lt)))
        (looked_either j on))
        (cases_lt j far.port)
