-- What a strand has of each kind, variant by variant.
use Rattle.std.proofs.Common.{◌≡◌, ℕ, ◌+◌, List, length, Option, Some, None, refl, sym, ap, ◌∙◌, arith}
use Rattle.std.specs.Prelude.{vec_capacity}
use Rattle.cx_meaning.specs.declared.ports.PlacedPort.{PlacedPort}
use Rattle.cx_meaning.specs.declared.sights.Seen.{Seen}
use Rattle.cx_weave.specs.declared.strands.Island.{Island}
use Rattle.cx_weave.specs.declared.strands.Arms.TheFolds.{fold-roll-Strand, fold-roll-Arms}
use Rattle.cx_weave.specs.declared.strands.Strand.{Strand}
use Rattle.cx_weave.specs.declared.strands.Strand.TheVariants as strands
use Rattle.cx_weave.specs.declared.strands.Arms.TheVariants as parts
use Rattle.cx_weave.specs.Ledger.{Kind, Pieces, Lacks, lack_step, lack_arms, amount, arms_amount, box_amount, arms_box_amount, island_amount, inputs_amount}
use Rattle.cx_weave.specs.declared.needs.Piece.{Piece}
use Rattle.cx_weave.specs.declared.needs.Piece.TheVariants as pieces
use Rattle.cx_weave.specs.Strands.{plain_strand, seen_items}
use Rattle.cx_weave.specs.Takes.{box_takes, inputs_taken, taken, all_taken}
use Rattle.cx_weave.proofs.StrandFolds.{is_idling, is_waiting, is_group, is_choice, is_test, is_island, is_capture, is_closing, is_seq, is_par, is_loop, is_repeat, is_call, is_one, is_both}

pub amount_idling : (x : Kind) → amount x strands.Idling ≡ 0
amount_idling (Pieces k) = ap (taken k) is_idling
amount_idling (Lacks l) = ap (amount (Lacks l)) (sym strands.rolls-Idling) ∙ fold-roll-Strand ℕ ℕ (lack_arms l) (lack_step l) _

pub amount_waiting : (x : Kind) → amount x strands.Waiting ≡ 0
amount_waiting (Pieces k) = ap (taken k) is_waiting
amount_waiting (Lacks l) = ap (amount (Lacks l)) (sym strands.rolls-Waiting) ∙ fold-roll-Strand ℕ ℕ (lack_arms l) (lack_step l) _

pub amount_group : (x : Kind) (g : ℕ) → amount x (strands.InGroup g) ≡ 0
amount_group (Pieces k) g = ap (taken k) (is_group g)
amount_group (Lacks l) g = ap (amount (Lacks l)) (sym (strands.rolls-InGroup g)) ∙ fold-roll-Strand ℕ ℕ (lack_arms l) (lack_step l) _

pub amount_closing : (x : Kind) (g : ℕ) → amount x (strands.Closing g) ≡ 0
amount_closing (Pieces k) g = ap (taken k) (is_closing g)
amount_closing (Lacks l) g = ap (amount (Lacks l)) (sym (strands.rolls-Closing g)) ∙ fold-roll-Strand ℕ ℕ (lack_arms l) (lack_step l) _

pub amount_capture : (x : Kind) (g c : ℕ) → amount x (strands.Capturing g c) ≡ 0
amount_capture (Pieces k) g c = ap (taken k) (is_capture g c)
amount_capture (Lacks l) g c = ap (amount (Lacks l)) (sym (strands.rolls-Capturing g c)) ∙ fold-roll-Strand ℕ ℕ (lack_arms l) (lack_step l) _

pub amount_choice : (x : Kind) (port : PlacedPort) (comb : Option ℕ) (a b : _) → amount x (strands.Choosing port comb a b) ≡ 0
amount_choice (Pieces k) port comb a b = ap (taken k) (is_choice port comb a b)
amount_choice (Lacks l) port comb a b = ap (amount (Lacks l)) (sym (strands.rolls-Choosing port comb a b)) ∙ fold-roll-Strand ℕ ℕ (lack_arms l) (lack_step l) _

pub amount_test : (x : Kind) (port : PlacedPort) (comb : Option ℕ) (body : _) → amount x (strands.Testing port comb body) ≡ 0
amount_test (Pieces k) port comb body = ap (taken k) (is_test port comb body)
amount_test (Lacks l) port comb body = ap (amount (Lacks l)) (sym (strands.rolls-Testing port comb body)) ∙ fold-roll-Strand ℕ ℕ (lack_arms l) (lack_step l) _

pub amount_island : (x : Kind) (i : Island) → amount x (strands.InIsland i) ≡ island_amount x (vec_capacity i.cells) (length i.samples.items)
amount_island (Pieces k) i = ap (taken k) (is_island i)
amount_island (Lacks l) i = ap (amount (Lacks l)) (sym (strands.rolls-InIsland i)) ∙ fold-roll-Strand ℕ ℕ (lack_arms l) (lack_step l) _

pub amount_seq : (x : Kind) (first later : _) → amount x (strands.InSeq first later) ≡ box_amount x + amount x first.value
amount_seq (Pieces k) first later = ap (taken k) (is_seq first later)
amount_seq (Lacks l) first later = (let e : amount (Lacks l) (strands.InSeq first later) ≡ amount (Lacks l) first.value = ap (amount (Lacks l)) (sym (strands.rolls-InSeq first later)) ∙ fold-roll-Strand ℕ ℕ (lack_arms l) (lack_step l) _ in omega (arith, e))

pub amount_par : (x : Kind) (arms : _) → amount x (strands.InPar arms) ≡ arms_box_amount x + arms_amount x arms.value
amount_par (Pieces k) arms = ap (taken k) (is_par arms)
amount_par (Lacks l) arms = (let e : amount (Lacks l) (strands.InPar arms) ≡ arms_amount (Lacks l) arms.value = ap (amount (Lacks l)) (sym (strands.rolls-InPar arms)) ∙ fold-roll-Strand ℕ ℕ (lack_arms l) (lack_step l) _ in omega (arith, e))

pub amount_loop : (x : Kind) (run : _) (port : PlacedPort) (comb : Option ℕ) (body : _) → amount x (strands.InLoop run port comb body) ≡ box_amount x + amount x run.value
amount_loop (Pieces k) run port comb body = ap (taken k) (is_loop run port comb body)
amount_loop (Lacks l) run port comb body = (let e : amount (Lacks l) (strands.InLoop run port comb body) ≡ amount (Lacks l) run.value = ap (amount (Lacks l)) (sym (strands.rolls-InLoop run port comb body)) ∙ fold-roll-Strand ℕ ℕ (lack_arms l) (lack_step l) _ in omega (arith, e))

pub amount_repeat : (x : Kind) (run : _) (left : ℕ) (body : _) → amount x (strands.InRepeat run left body) ≡ box_amount x + amount x run.value
amount_repeat (Pieces k) run left body = ap (taken k) (is_repeat run left body)
amount_repeat (Lacks l) run left body = (let e : amount (Lacks l) (strands.InRepeat run left body) ≡ amount (Lacks l) run.value = ap (amount (Lacks l)) (sym (strands.rolls-InRepeat run left body)) ∙ fold-roll-Strand ℕ ℕ (lack_arms l) (lack_step l) _ in omega (arith, e))

taken_inputs : {V : Type 0} (k : Piece) (items : V → List Seen) (o : Option V) → inputs_taken k (seen_items items o) ≡ inputs_taken k o
taken_inputs pieces.Boxes items o = refl
taken_inputs pieces.Arms items o = refl
taken_inputs pieces.Islands items o = refl
taken_inputs pieces.Inputs items None = refl
taken_inputs pieces.Inputs items (Some v) = refl

pub amount_call : (x : Kind) (g c : ℕ) (inputs child : _) → amount x (strands.InCall g c inputs child) ≡ box_amount x + inputs_amount (λ v. vec_capacity v) x inputs + amount x child.value
amount_call (Pieces k) g c inputs child = ap (taken k) (is_call g c inputs child) ∙ ap (λ n. box_takes k + n + taken k (plain_strand child.value)) (taken_inputs k (λ v. v.items) inputs)
amount_call (Lacks l) g c inputs child = (let e : amount (Lacks l) (strands.InCall g c inputs child) ≡ inputs_amount (λ v. vec_capacity v) (Lacks l) inputs + amount (Lacks l) child.value = ap (amount (Lacks l)) (sym (strands.rolls-InCall g c inputs child)) ∙ fold-roll-Strand ℕ ℕ (lack_arms l) (lack_step l) _ in omega (arith, e))

pub amount_one : (x : Kind) (arm : Strand) → arms_amount x (parts.One arm) ≡ amount x arm
amount_one (Pieces k) arm = ap (all_taken k) (is_one arm)
amount_one (Lacks l) arm = ap (arms_amount (Lacks l)) (sym (parts.rolls-One arm)) ∙ fold-roll-Arms ℕ ℕ (lack_arms l) (lack_step l) _

pub amount_both : (x : Kind) (leaves : ℕ) (one other : _) → arms_amount x (parts.Both leaves one other) ≡ (arms_box_amount x + arms_amount x one.value) + (arms_box_amount x + arms_amount x other.value)
amount_both (Pieces k) leaves one other = ap (all_taken k) (is_both leaves one other)
amount_both (Lacks l) leaves one other = (let e : arms_amount (Lacks l) (parts.Both leaves one other) ≡ arms_amount (Lacks l) one.value + arms_amount (Lacks l) other.value = ap (arms_amount (Lacks l)) (sym (parts.rolls-Both leaves one other)) ∙ fold-roll-Arms ℕ ℕ (lack_arms l) (lack_step l) _ in omega (arith, e))
