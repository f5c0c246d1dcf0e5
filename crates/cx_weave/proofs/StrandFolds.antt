-- Strands as plain data, variant by variant.
use Rattle.std.proofs.Common.{◌≡◌, ℕ, Option, sym, ap, ◌∙◌}
use Rattle.cx_meaning.specs.declared.ports.PlacedPort.{PlacedPort}
use Rattle.cx_design.specs.PlainForms.{plain_form, plain_statement, plain_statements}
use Rattle.cx_weave.specs.declared.strands.Island.{Island}
use Rattle.cx_weave.specs.declared.strands.Arms.TheFolds.{fold-roll-Strand, fold-roll-Arms}
use Rattle.cx_weave.specs.declared.strands.Strand.{Strand}
use Rattle.cx_weave.specs.declared.strands.Strand.TheVariants as strands
use Rattle.cx_weave.specs.declared.strands.Arms.TheVariants as parts
use Rattle.cx_weave.specs.Strands.{PlainStrand, AnIdling, AGroup, AChoice, ATest, AnIsland, ACapture, AClosing, AWaiting, ASeq, APar, ALoop, ARepeat, ACall, PlainArms, one_arm, both_arms, seen_items, strand_step, arms_step, plain_strand, plain_arms}

pub is_idling : plain_strand strands.Idling ≡ AnIdling
is_idling = ap plain_strand (sym strands.rolls-Idling) ∙ fold-roll-Strand PlainArms PlainStrand arms_step strand_step _

pub is_waiting : plain_strand strands.Waiting ≡ AWaiting
is_waiting = ap plain_strand (sym strands.rolls-Waiting) ∙ fold-roll-Strand PlainArms PlainStrand arms_step strand_step _

pub is_group : (g : ℕ) → plain_strand (strands.InGroup g) ≡ AGroup g
is_group g = ap plain_strand (sym (strands.rolls-InGroup g)) ∙ fold-roll-Strand PlainArms PlainStrand arms_step strand_step _

pub is_closing : (g : ℕ) → plain_strand (strands.Closing g) ≡ AClosing g
is_closing g = ap plain_strand (sym (strands.rolls-Closing g)) ∙ fold-roll-Strand PlainArms PlainStrand arms_step strand_step _

pub is_capture : (g c : ℕ) → plain_strand (strands.Capturing g c) ≡ ACapture g c
is_capture g c = ap plain_strand (sym (strands.rolls-Capturing g c)) ∙ fold-roll-Strand PlainArms PlainStrand arms_step strand_step _

pub is_choice : (port : PlacedPort) (comb : Option ℕ) (a b : _) → plain_strand (strands.Choosing port comb a b) ≡ AChoice port comb (plain_statement a.now) (plain_statement b.now)
is_choice port comb a b = ap plain_strand (sym (strands.rolls-Choosing port comb a b)) ∙ fold-roll-Strand PlainArms PlainStrand arms_step strand_step _

pub is_test : (port : PlacedPort) (comb : Option ℕ) (body : _) → plain_strand (strands.Testing port comb body) ≡ ATest port comb (plain_statement body.now)
is_test port comb body = ap plain_strand (sym (strands.rolls-Testing port comb body)) ∙ fold-roll-Strand PlainArms PlainStrand arms_step strand_step _

pub is_island : (i : Island) → plain_strand (strands.InIsland i) ≡ AnIsland (plain_form i.form.now) i.cycle i.left i.samples.items i.cells.items
is_island i = ap plain_strand (sym (strands.rolls-InIsland i)) ∙ fold-roll-Strand PlainArms PlainStrand arms_step strand_step _

pub is_seq : (first later : _) → plain_strand (strands.InSeq first later) ≡ ASeq (plain_strand first.value) (plain_statements later.now)
is_seq first later = ap plain_strand (sym (strands.rolls-InSeq first later)) ∙ fold-roll-Strand PlainArms PlainStrand arms_step strand_step _

pub is_par : (arms : _) → plain_strand (strands.InPar arms) ≡ APar (plain_arms arms.value)
is_par arms = ap plain_strand (sym (strands.rolls-InPar arms)) ∙ fold-roll-Strand PlainArms PlainStrand arms_step strand_step _

pub is_loop : (run : _) (port : PlacedPort) (comb : Option ℕ) (body : _) → plain_strand (strands.InLoop run port comb body) ≡ ALoop (plain_strand run.value) port comb (plain_statement body.now)
is_loop run port comb body = ap plain_strand (sym (strands.rolls-InLoop run port comb body)) ∙ fold-roll-Strand PlainArms PlainStrand arms_step strand_step _

pub is_repeat : (run : _) (left : ℕ) (body : _) → plain_strand (strands.InRepeat run left body) ≡ ARepeat (plain_strand run.value) left (plain_statement body.now)
is_repeat run left body = ap plain_strand (sym (strands.rolls-InRepeat run left body)) ∙ fold-roll-Strand PlainArms PlainStrand arms_step strand_step _

pub is_call : (g c : ℕ) (inputs child : _) → plain_strand (strands.InCall g c inputs child) ≡ ACall g c (seen_items (λ v. v.items) inputs) (plain_strand child.value)
is_call g c inputs child = ap plain_strand (sym (strands.rolls-InCall g c inputs child)) ∙ fold-roll-Strand PlainArms PlainStrand arms_step strand_step _

pub is_one : (arm : Strand) → plain_arms (parts.One arm) ≡ one_arm (plain_strand arm)
is_one arm = ap plain_arms (sym (parts.rolls-One arm)) ∙ fold-roll-Arms PlainArms PlainStrand arms_step strand_step _

pub is_both : (leaves : ℕ) (one other : _) → plain_arms (parts.Both leaves one other) ≡ both_arms leaves (plain_arms one.value) (plain_arms other.value)
is_both leaves one other = ap plain_arms (sym (parts.rolls-Both leaves one other)) ∙ fold-roll-Arms PlainArms PlainStrand arms_step strand_step _

-- two halves are not one arm
pub no_arm : (leaves : ℕ) (one other : _) (arm : Strand) → parts.Both leaves one other ≡ parts.One arm → ⊥
no_arm leaves one other arm e = (let f : both_arms leaves (plain_arms one.value) (plain_arms other.value) ≡ one_arm (plain_strand arm) = sym (is_both leaves one other) ∙ ap plain_arms e ∙ is_one arm in cc)
