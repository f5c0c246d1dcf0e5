-- The modules of primitives without state keep the rules.
use Rattle.std.proofs.Common.{◌≡◌, ℕ, ◌+◌, ◌-◌, ◌%◌, ◌^◌, ◌≤◌, Bool, true, false, ◌&&◌, not, List, [], ◌∷◌, ◌++◌, refl, ap, if◌then◌else◌, arith}
use Rattle.std.specs.Prelude.{nat_le, codes}
use Rattle.std.proofs.lemmas.Bool.{leb-true, leb-false, and_parts, not-true}
use Rattle.std.proofs.lemmas.Nat.{pow_pos}
use Rattle.cx_bits.specs.BitVector.{BitVector}
use Rattle.cx_prim.specs.Widths.{IsWidth}
use Rattle.cx_prim.specs.Rows.{Row}
use Rattle.cx_prim.specs.CombinationalRows.{constant_row, unary_row, binary_row, mux_row}
use Rattle.cx_vtree.specs.declared.operators.Operator.{Operator}
use Rattle.cx_vtree.specs.declared.operators.Operator.TheVariants.{Less, Xor}
use Rattle.cx_vtree.specs.Plain.{PlainExpr, Applied, Inverted, Chosen, Joined, PlainModule}
use Rattle.cx_vtree.specs.Layout.{is_name}
use Rattle.cx_vtree.specs.Sound.{Scope, width_of, is_readable, is_driven, is_register, is_comparison, has_name}
use Rattle.cx_vlaws.proofs.Fresh.{Fresh}
use Rattle.cx_vmods.specs.Spelling.{spelled, net, part}
use Rattle.cx_vmods.specs.Parts.{Piece, with_piece, made_of, literal}
use Rattle.cx_vmods.specs.Combinational.{giving, constant, wire, complement, slice, pad, operator, shift, signed, mux}
use Rattle.cx_vmods.specs.Modules.{ports_of, module_with}
use Rattle.cx_emit.proofs.ModuleNames.{names_in}
use Rattle.cx_emit.proofs.Keeping.{Keeps, keeps_named, keeps_number, keeps_part, keeps_applied, keeps_inverted, keeps_chosen, keeps_joined, keeps_as}
use Rattle.cx_emit.proofs.CleanModules.{KeepsPort, KeepsAssign, KeepsSet, IsKept, scope_of}

-- a module of these pieces for a row, under a name
abbrev pub made : List ℕ → Row → List Piece → PlainModule
made name row pieces = module_with name (ports_of row) (made_of pieces)

pub one_wide : IsWidth 1
one_wide = record { some_bits = omega arith; few_bits = omega arith }

-- a literal is cut to its width
pub literal_keeps : (scope : Scope) (levels w n : ℕ) → IsWidth w → Keeps scope levels (literal w n) w
literal_keeps scope levels w n wide =
    keeps_number scope levels (record { width = w; value = n % 2 ^ w }) w
    (record { same_width = refl; fits = record { some_bits = wide.some_bits; few_bits = wide.few_bits; in_range = omega (arith, pow_pos w) } })

-- an input
pub input_kept : (drivers : List (List ℕ)) (name : List ℕ) (w : ℕ) → is_name name ≡ true → IsWidth w → KeepsPort drivers (record { output = false; name = name; width = w })
input_kept drivers name w named wide = record { named = named; wide = wide; driven = λ e. absurd (cc) }

-- a net that may be read
pub net_keeps : (scope : Scope) (levels : ℕ) (name : List ℕ) (w : ℕ) → is_name (spelled name) ≡ true → is_readable scope (spelled name) ≡ true → width_of (scope (spelled name)) ≡ w → Keeps scope levels (net name) w
net_keeps scope levels name w named readable wide = keeps_named scope levels (spelled name) w named readable wide

-- names that come one after another, none of them twice: the test of it
abbrev pub is_fresh : List (List ℕ) → List (List ℕ) → Bool
is_fresh earlier [] = true
is_fresh earlier (n ∷ ns) = not (has_name earlier n) && is_fresh (earlier ++ n ∷ []) ns

pub fresh_by : (earlier ns : List (List ℕ)) → is_fresh earlier ns ≡ true → Fresh earlier ns
fresh_by earlier [] e = tt
fresh_by earlier (n ∷ ns) e =
    let parts = and_parts (not (has_name earlier n)) (is_fresh (earlier ++ n ∷ []) ns) e in
    (not-true (has_name earlier n) parts.0, fresh_by (earlier ++ n ∷ []) ns parts.1)

pub names_fresh : (m : PlainModule) → is_fresh [] (names_in m) ≡ true → Fresh [] (names_in m)
names_fresh m e = fresh_by [] (names_in m) e

pub output_kept : (drivers : List (List ℕ)) (name : List ℕ) (w : ℕ) → is_name name ≡ true → IsWidth w → has_name drivers name ≡ true → KeepsPort drivers (record { output = true; name = name; width = w })
output_kept drivers name w named wide driven = record { named = named; wide = wide; driven = λ e. driven }

-- a net is assigned, a register set
pub assign_keeps : (scope : Scope) (name : List ℕ) (value : PlainExpr) → is_name name ≡ true → is_driven (scope name) ≡ true → Keeps scope 64 value (width_of (scope name)) → KeepsAssign scope (record { name = name; value = value })
assign_keeps scope name value named drives keeps = record { named = named; drives = drives; value = keeps }

pub set_keeps : (scope : Scope) (name : List ℕ) (value : PlainExpr) → is_name name ≡ true → is_register (scope name) ≡ true → Keeps scope 64 value (width_of (scope name)) → KeepsSet scope (record { name = name; value = value })
set_keeps scope name value named sets keeps = record { named = named; sets = sets; value = keeps }

module _ (before : List PlainModule) (name : List ℕ) (named : is_name name ≡ true) where
  -- no input, one, two, three: what they give to `out`
  pub constant_kept : (w v : ℕ) → IsWidth w → IsKept before (made name (constant_row w v) (constant w v))
  unfolding spelled with_piece
  constant_kept w v wide = record {
    named = named;
    behind = _;
    clocked = refl;
    names = names_fresh (made name (constant_row w v) (constant w v)) refl;
    ports = (input_kept _ _ 1 refl one_wide, (input_kept _ _ 1 refl one_wide, (output_kept _ _ w refl wide refl, tt)));
    decls = tt;
    driven_once = (refl, tt);
    assigns = (assign_keeps _ _ _ refl refl (literal_keeps _ 64 w v wide), tt);
    instances = tt;
    edge = tt;
  }

  unary_kept : (w v : ℕ) (f : BitVector → BitVector) (e : PlainExpr) → IsWidth w → IsWidth v → Keeps (scope_of (made name (unary_row w v f) (giving e))) 64 e v → IsKept before (made name (unary_row w v f) (giving e))
  unfolding spelled with_piece
  unary_kept w v f e wide wide_out value = record {
    named = named;
    behind = _;
    clocked = refl;
    names = names_fresh (made name (unary_row w v f) (giving e)) refl;
    ports = (input_kept _ _ 1 refl one_wide, (input_kept _ _ 1 refl one_wide, (input_kept _ _ w refl wide, (output_kept _ _ v refl wide_out refl, tt))));
    decls = tt;
    driven_once = (refl, tt);
    assigns = (assign_keeps _ _ _ refl refl value, tt);
    instances = tt;
    edge = tt;
  }

  pub wire_kept : (w : ℕ) (f : BitVector → BitVector) → IsWidth w → IsKept before (made name (unary_row w w f) wire)
  unfolding spelled with_piece
  wire_kept w f wide = unary_kept w w f (net (codes "in")) wide wide (net_keeps _ 64 (codes "in") w refl refl refl)

  pub complement_kept : (w : ℕ) (f : BitVector → BitVector) → IsWidth w → IsKept before (made name (unary_row w w f) complement)
  unfolding spelled with_piece
  complement_kept w f wide = unary_kept w w f (Inverted (net (codes "in"))) wide wide (keeps_inverted _ 64 (omega arith) _ w (net_keeps _ 63 (codes "in") w refl refl refl))

  pub slice_kept : (w v : ℕ) (f : BitVector → BitVector) → IsWidth w → IsWidth v → v ≤ w → IsKept before (made name (unary_row w v f) (slice v))
  unfolding spelled with_piece
  slice_kept w v f wide wide_out less =
      let some = wide_out.some_bits in
      unary_kept w v f _ wide wide_out (keeps_part _ 64 (spelled (codes "in")) (v - 1) 0 w v refl refl refl (omega arith) (omega (arith, some, less)) (omega (arith, some)))

  pub pad_kept : (w v : ℕ) (f : BitVector → BitVector) → IsWidth w → IsWidth v → w ≤ v → IsKept before (made name (unary_row w v f) (pad w v))
  unfolding spelled with_piece
  pad_kept w v f wide wide_out less = by_test (nat_le v w) refl where
    by_test : (b : Bool) → nat_le v w ≡ b → IsKept before (made name (unary_row w v f) (if b then wire else giving (Joined (literal (v - w) 0) (net (codes "in")))))
    by_test true test =
        let over = leb-true v w test in
        let same : w ≡ v = omega (arith, over, less) in
        unary_kept w v f (net (codes "in")) wide wide_out (net_keeps _ 64 (codes "in") v refl refl same)
    by_test false test =
        let over = leb-false v w test in
        let few = wide_out.few_bits in
        let more : IsWidth (v - w) = record { some_bits = omega (arith, over); few_bits = omega (arith, few) } in
        unary_kept w v f _ wide wide_out
        (keeps_as _ 64 _ (v - w + w) v (omega (arith, over))
        (keeps_joined _ 64 (omega arith) (literal (v - w) 0) (net (codes "in")) (v - w) w (omega (arith, over, few)) (literal_keeps _ 63 (v - w) 0 more) (net_keeps _ 63 (codes "in") w refl refl refl)))

  -- two inputs
  binary_kept : (w v : ℕ) (f : BitVector → BitVector → BitVector) (e : PlainExpr) → IsWidth w → IsWidth v → Keeps (scope_of (made name (binary_row w v f) (giving e))) 64 e v
      → IsKept before (made name (binary_row w v f) (giving e))
  unfolding spelled with_piece
  binary_kept w v f e wide wide_out value = record {
    named = named;
    behind = _;
    clocked = refl;
    names = names_fresh (made name (binary_row w v f) (giving e)) refl;
    ports = (input_kept _ _ 1 refl one_wide, (input_kept _ _ 1 refl one_wide, (input_kept _ _ w refl wide, (input_kept _ _ w refl wide, (output_kept _ _ v refl wide_out refl, tt)))));
    decls = tt;
    driven_once = (refl, tt);
    assigns = (assign_keeps _ _ _ refl refl value, tt);
    instances = tt;
    edge = tt;
  }

  pub operator_kept : (w v : ℕ) (f : BitVector → BitVector → BitVector) (op : Operator) → IsWidth w → IsWidth v → (if is_comparison op then 1 else w) ≡ v → IsKept before (made name (binary_row w v f) (operator op))
  unfolding spelled with_piece
  operator_kept w v f op wide wide_out same =
      binary_kept w v f _ wide wide_out
      (keeps_as _ 64 _ (if is_comparison op then 1 else w) v same
      (keeps_applied _ 64 (omega arith) op (net (codes "left")) (net (codes "right")) w (net_keeps _ 63 (codes "left") w refl refl refl) (net_keeps _ 63 (codes "right") w refl refl refl)))

  pub shift_kept : (w : ℕ) (f : BitVector → BitVector → BitVector) (op : Operator) → IsWidth w → is_comparison op ≡ false → IsKept before (made name (binary_row w w f) (shift op w))
  unfolding spelled with_piece
  shift_kept w f op wide same = by_test (nat_le w 32) refl where
    by_test : (b : Bool) → nat_le w 32 ≡ b
        → IsKept before (made name (binary_row w w f)
        (if b then operator op else giving (Chosen (Applied Less (net (codes "right")) (literal w w)) (Applied op (net (codes "left")) (Joined (literal (w - 8) 0) (part (codes "right") 7 0))) (literal w 0))))
    by_test true test = operator_kept w w f op wide wide (ap (λ b. if b then 1 else w) same)
    by_test false test =
        let over = leb-false w 32 test in
        let few = wide.few_bits in
        let more : IsWidth (w - 8) = record { some_bits = omega (arith, over); few_bits = omega (arith, few) } in
        binary_kept w w f _ wide wide
        (keeps_chosen _ 64 (omega arith) (Applied Less (net (codes "right")) (literal w w)) _ (literal w 0) w
        (keeps_applied _ 63 (omega arith) Less (net (codes "right")) (literal w w) w (net_keeps _ 62 (codes "right") w refl refl refl) (literal_keeps _ 62 w w wide))
        (keeps_as _ 63 _ (if is_comparison op then 1 else w) w (ap (λ b. if b then 1 else w) same)
        (keeps_applied _ 63 (omega arith) op (net (codes "left")) _ w (net_keeps _ 62 (codes "left") w refl refl refl)
        (keeps_as _ 62 _ (w - 8 + 8) w (omega (arith, over))
        (keeps_joined _ 62 (omega arith) (literal (w - 8) 0) _ (w - 8) 8 (omega (arith, over, few)) (literal_keeps _ 61 (w - 8) 0 more)
        (keeps_part _ 61 (spelled (codes "right")) 7 0 w 8 refl refl refl (omega arith) (omega (arith, over)) refl)))))
        (literal_keeps _ 63 w 0 wide))

  pub signed_kept : (w : ℕ) (f : BitVector → BitVector → BitVector) (op : Operator) → IsWidth w → is_comparison op ≡ true → IsKept before (made name (binary_row w 1 f) (signed op w))
  unfolding spelled with_piece
  signed_kept w f op wide same =
      binary_kept w 1 f _ wide one_wide
      (keeps_as _ 64 _ (if is_comparison op then 1 else w) 1 (ap (λ b. if b then 1 else w) same)
      (keeps_applied _ 64 (omega arith) op _ _ w
      (keeps_applied _ 63 (omega arith) Xor (net (codes "left")) (literal w (2 ^ (w - 1))) w (net_keeps _ 62 (codes "left") w refl refl refl) (literal_keeps _ 62 w (2 ^ (w - 1)) wide))
      (keeps_applied _ 63 (omega arith) Xor (net (codes "right")) (literal w (2 ^ (w - 1))) w (net_keeps _ 62 (codes "right") w refl refl refl) (literal_keeps _ 62 w (2 ^ (w - 1)) wide))))

  pub mux_kept : (w : ℕ) → IsWidth w → IsKept before (made name (mux_row w) mux)
  unfolding spelled with_piece
  mux_kept w wide = record {
    named = named;
    behind = _;
    clocked = refl;
    names = names_fresh (made name (mux_row w) mux) refl;
    ports = (input_kept _ _ 1 refl one_wide, (input_kept _ _ 1 refl one_wide, (input_kept _ _ 1 refl one_wide, (input_kept _ _ w refl wide, (input_kept _ _ w refl wide, (output_kept _ _ w refl wide refl, tt))))));
    decls = tt;
    driven_once = (refl, tt);
    assigns = (
      assign_keeps _ _ _ refl refl
          (keeps_chosen _ 64 (omega arith) (net (codes "cond")) (net (codes "tru")) (net (codes "fal")) w (net_keeps _ 63 (codes "cond") 1 refl refl refl) (net_keeps _ 63 (codes "tru") w refl refl refl) (net_keeps _ 63 (codes "fal") w refl refl refl)),
      tt,
    );
    instances = tt;
    edge = tt;
  }
