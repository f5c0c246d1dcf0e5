-- Room for what is found at the ports of cells, and steps with it.
use Rattle.std.proofs.Common.{◌≡◌, ◌≢◌, ℕ, zero, suc, ◌+◌, ◌<◌, ⊎_elim, List, [], ◌∷◌, ◌++◌, get_or, length, set, Option, Some, refl, sym, ap, ◌∙◌, subst, arith}
use Rattle.std.specs.Prelude.{slice_get}
use Rattle.std.proofs.lemmas.Bool.{cases_eq}
use Rattle.std.proofs.lemmas.List.{length-append, length-set}
use Rattle.std.proofs.lemmas.Option.{slice_get-get_or}
use Rattle.cx_eval_cycle.specs.declared.rooms.CellRoom.{CellRoom}
use Rattle.cx_eval_cycle.specs.declared.stepping.SteppingCell.{SteppingCell}
use Rattle.cx_eval_cycle.specs.Rooms.{HasRoom, HaveRooms, inputs_at, inputs_of, ports_of}
use Rattle.cx_eval_cycle.specs.Stepping.{kept_at}
use Rattle.cx_text.proofs.ListLaws.{either_at, set_other, set_same}

-- the first cells have their rooms
pub record HaveFirst (kept : List (Option SteppingCell)) (count : ℕ) (rooms : List CellRoom) : Type 0 where
  pub sized : length rooms ≡ count
  pub each : (c : ℕ) (room : CellRoom) → slice_get rooms c ≡ Some room → HasRoom (ports_of (kept_at kept c)) room

pub rooms_more : (kept : List (Option SteppingCell)) (n : ℕ) (old new : List CellRoom) (x : CellRoom) → HaveFirst kept n old → new ≡ old ++ x ∷ [] → HasRoom (ports_of (kept_at kept n)) x → HaveFirst kept (n + 1) new
rooms_more kept n old new x have is has = record {
  sized = ap length is ∙ length-append old (x ∷ []) ∙ ap (λ k. k + 1) have.sized;
  each =
      λ c room e.
      ⊎_elim (λ f. have.each c room f)
      (λ f. subst (HasRoom (ports_of (kept_at kept c))) f.1 (subst (λ k. HasRoom (ports_of (kept_at kept k)) x) (sym (f.0 ∙ have.sized)) has))
      (either_at old x room c (ap (λ xs. slice_get xs c) (sym is) ∙ e));
}

-- what an index tells
pub room_inputs : (rooms : List CellRoom) (n : ℕ) (room : CellRoom) → n < length rooms → inputs_at rooms n ≡ (get_or rooms n room).inputs.items
room_inputs rooms n room lt = ap inputs_of (slice_get-get_or rooms n room lt)

pub kept_same : (kept : List (Option SteppingCell)) (n : ℕ) (x y : Option SteppingCell) → n < length kept → get_or kept n x ≡ get_or kept n y
kept_same [] n x y lt = absurd (omega (arith, lt))
kept_same (k ∷ kept) zero x y lt = refl
kept_same (k ∷ kept) (suc n) x y lt = kept_same kept n x y (omega (arith, lt))

module _ (rooms : List CellRoom) (n : ℕ) (room : CellRoom) where
  pub filled_inputs : n < length rooms → inputs_at (set rooms n room) n ≡ room.inputs.items
  filled_inputs lt = ap inputs_of (set_same rooms n room lt)

  pub other_inputs : (m : ℕ) → m ≢ n → inputs_at (set rooms n room) m ≡ inputs_at rooms m
  other_inputs m differs = ap inputs_of (set_other rooms n m room differs)

  some_same : (x y : CellRoom) → Some x ≡ Some y → x ≡ y
  some_same x y e = cc

  pub still_rooms : (kept : List (Option SteppingCell)) → HaveRooms kept rooms → n < length rooms → HasRoom (ports_of (kept_at kept n)) room → HaveRooms kept (set rooms n room)
  still_rooms kept have lt has = record {
    count = length-set rooms n room ∙ have.count;
    each =
        λ c x e.
        ⊎_elim
        (λ (at : c ≡ n). subst (HasRoom (ports_of (kept_at kept c))) (some_same room x (sym (set_same rooms n room lt) ∙ ap (slice_get (set rooms n room)) (sym at) ∙ e)) (subst (λ k. HasRoom (ports_of (kept_at kept k)) room) (sym at) has))
        (λ differs. have.each c x (sym (set_other rooms n c room differs) ∙ e))
        (cases_eq c n);
  }
