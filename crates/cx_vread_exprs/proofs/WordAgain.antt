-- A name before a space is none of the grammar's own words.
use Rattle.std.proofs.Common.{◌≡◌, ℕ, ◌==◌, not, Bool, true, false, ◌&&◌, List, [], ◌∷◌, ◌++◌, Option, None, refl, ◌∙◌, ap, arith, if◌then◌else◌}
use Rattle.std.specs.Prelude.{codes}
use Rattle.std.specs.List.{list_all}
use Rattle.std.proofs.lemmas.Bool.{and_parts, or_parts, not-true}
use Rattle.std.proofs.lemmas.Bool.Decides.{nat_tests}
use Rattle.cx_vtree.specs.InstanceTree.{same_name}
use Rattle.cx_vtree.specs.Layout.{is_name_byte, is_word, is_name, is_keyword}
use Rattle.cx_vread_exprs.specs.Places.{after_text}
use Rattle.cx_vread_exprs.proofs.ExprAgain.{name_parts}

not_space : (c : ℕ) → is_name_byte c ≡ true → (c == 32) ≡ false
not_space c h = grind (arith, nat_tests)

space_not : (c : ℕ) → is_name_byte c ≡ true → (32 == c) ≡ false
space_not c h = grind (arith, nat_tests)

chosen_both : (b t : Bool) (o : Option (List ℕ)) → (if b then (if t then o else None) else None) ≡ (if b && t then o else None)
chosen_both true t o = refl
chosen_both false t o = refl

-- a word and a space stand there exactly where the name is that word
word_then : (w v k x : List ℕ) → list_all is_name_byte w ≡ true → list_all is_name_byte k ≡ true
    → after_text (w ++ (codes " " ++ v)) (k ++ (codes " " ++ x)) ≡ (if same_name k w then after_text v x else None)
word_then [] v [] x hw hk = refl
word_then [] v (c ∷ cs) x hw hk =
    ap (λ b. if b then after_text v (cs ++ (codes " " ++ x)) else None) (not_space c (and_parts (is_name_byte c) (list_all is_name_byte cs) hk).0)
word_then (d ∷ ds) v [] x hw hk =
    ap (λ b. if b then after_text (ds ++ (codes " " ++ v)) x else None) (space_not d (and_parts (is_name_byte d) (list_all is_name_byte ds) hw).0)
word_then (d ∷ ds) v (c ∷ cs) x hw hk =
    let w = and_parts (is_name_byte d) (list_all is_name_byte ds) hw in
    let k = and_parts (is_name_byte c) (list_all is_name_byte cs) hk in
    ap (λ o. if c == d then o else None) (word_then ds v cs x w.1 k.1) ∙ chosen_both (c == d) (same_name cs ds) (after_text v x)

-- so a word of the grammar does not stand there
pub other_word : (w v k x : List ℕ) → list_all is_name_byte w ≡ true → is_name k ≡ true → same_name k w ≡ false
    → after_text (w ++ (codes " " ++ v)) (k ++ (codes " " ++ x)) ≡ None
other_word w v k x hw hk other = word_then w v k x hw (name_parts k hk).1 ∙ ap (λ b. if b then after_text v x else None) other

pub record OwnWords (k : List ℕ) : Type 0 where
  pub wire : same_name k (codes "wire") ≡ false
  pub reg : same_name k (codes "reg") ≡ false
  pub assign : same_name k (codes "assign") ≡ false
  pub always : same_name k (codes "always") ≡ false
  pub branch : same_name k (codes "if") ≡ false

-- a name is none of them
pub no_keyword : (k : List ℕ) → is_name k ≡ true → OwnWords k
no_keyword k h =
    let none : is_keyword k ≡ false = not-true (is_keyword k) (and_parts (is_word k) (not (is_keyword k)) h).1 in
    let p1 = or_parts (same_name k (codes "module")) _ none in
    let p2 = or_parts (same_name k (codes "input")) _ p1.1 in
    let p3 = or_parts (same_name k (codes "output")) _ p2.1 in
    let p4 = or_parts (same_name k (codes "wire")) _ p3.1 in
    let p5 = or_parts (same_name k (codes "reg")) _ p4.1 in
    let p6 = or_parts (same_name k (codes "assign")) _ p5.1 in
    let p7 = or_parts (same_name k (codes "always")) _ p6.1 in
    let p8 = or_parts (same_name k (codes "posedge")) _ p7.1 in
    let p9 = or_parts (same_name k (codes "begin")) _ p8.1 in
    let p10 = or_parts (same_name k (codes "end")) _ p9.1 in
    let p11 = or_parts (same_name k (codes "if")) _ p10.1 in
    record { wire = p4.0; reg = p5.0; assign = p6.0; always = p7.0; branch = p11.0 }
