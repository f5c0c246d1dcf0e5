-- The instance of `main`.
use Rattle.std.proofs.Common.{◌≡◌, ℕ, ◌==◌, List, [], ◌∷◌, Bool, true, false, ◌&&◌, ◌||◌, not, length, reverse, Some, slice_get, refl, ap, sym, ◌∙◌, subst, if◌then◌else◌, codes}
use Rattle.std.specs.Prelude.{nat_lt}
use Rattle.std.proofs.lemmas.Bool.{or_parts, or_from, and_parts, not-false, both_ways, false_from_ne_true, eqb-true}
use Rattle.std.proofs.lemmas.List.{reverse-reverse}
use Rattle.cx_vtree.specs.Plain.{PlainExpr, Named, Number, Part, Word, Applied, Inverted, Chosen, Joined, PlainPort, PlainModule, PlainSource}
use Rattle.cx_vtree.specs.InstanceTree.{same_name, tree_from, main_instance, instances_of}
use Rattle.cx_vtree.specs.Layout.{external_fits, module_fits, is_laid_out}
use Rattle.std.specs.List.{list_all}
use Rattle.cx_vtree.specs.Sound.{Faults, Scope, is_source, is_readable, misnames, is_port, ports_faults, drivers_in, break_of, is_sound}
use Rattle.std.specs.Prelude.{is_none}
use Rattle.cx_vlaws.specs.MainPorts.{main_ports, reads_net}
use Rattle.cx_vlaws.proofs.Cleans.{Clean}
use Rattle.cx_vlaws.proofs.Modules.{KeepsAfter, AllKeep, sound_keeps}
use Rattle.cx_vlaws.proofs.Trees.{placed}
use Rattle.cx_vlaws.proofs.Forest.{unfolds, main_named}
use Rattle.cx_vlaws.proofs.Parts.{port_keeps}
use Rattle.cx_vtree.proofs.InstanceTreeLemmas.{same_is}
use Rattle.cx_text.proofs.BoolLaws.{none_goes_on}

-- the last module is that of instance 0
pub record IsMain (source : PlainSource) : Type 0 where
  pub m : PlainModule
  pub before : List PlainModule
  pub are : reverse source.modules ≡ m ∷ before
  pub kept : KeepsAfter true before m
  pub earlier : AllKeep false before
  pub first : slice_get (instances_of source) 0 ≡ Some (placed main_instance 0 m)

pub main_at : (source : PlainSource) → is_sound source ≡ true → IsMain source
main_at source sound = go (reverse source.modules) refl (sound_keeps source sound) where
  some : nat_lt 0 (length source.modules) ≡ true
  some =
      let laid = (and_parts (is_laid_out source) (is_none (break_of source)) sound).0 in
      let outer = (and_parts (list_all external_fits source.externals && nat_lt 0 (length source.modules)) (list_all module_fits source.modules) laid).0 in
      (and_parts (list_all external_fits source.externals) (nat_lt 0 (length source.modules)) outer).1

  go : (ms : List PlainModule) → reverse source.modules ≡ ms → AllKeep true ms → IsMain source
  go [] e k =
      let nothing : source.modules ≡ [] = sym (reverse-reverse source.modules) ∙ ap reverse e in
      absurd (let h : nat_lt 0 0 ≡ true = subst (λ (l : List PlainModule). nat_lt 0 (length l) ≡ true) nothing some in cc)
  go (m ∷ before) e k =
      let tree = unfolds true (m ∷ before) k main_instance 0 0 m (main_named m before k) in
      record {
        m = m;
        before = before;
        are = e;
        kept = k.0;
        earlier = k.1;
        first = ap (λ l. slice_get (tree_from l main_instance 0 0) 0) e ∙ ap (λ l. slice_get l 0) tree;
      }

pub main_name : (source : PlainSource) (r : IsMain source) → same_name r.m.name (codes "main") ≡ true
main_name source r =
    let name = ap (λ (f : Faults). f.name) r.kept.head in
    not-false (same_name r.m.name (codes "main")) (or_parts _ _ name).1

port-by_parts : (o o' : Bool) (n n' : List ℕ) (w w' : ℕ) → o ≡ o' → n ≡ n' → w ≡ w' → ◌≡◌ {A = PlainPort} (record { output = o; name = n; width = w }) (record { output = o'; name = n'; width = w' })
port-by_parts o o' n n' w w' e f g = cc

output_is : (output wanted : Bool) → (if wanted then output else not output) ≡ true → output ≡ wanted
output_is true true e = refl
output_is false false e = refl
output_is true false e = absurd (cc)
output_is false true e = absurd (cc)

-- a port of one bit with this name
port_is : (name : List ℕ) (wanted : Bool) (p : PlainPort) → not (is_port name wanted p) ≡ false → not (p.width == 1) ≡ false → p ≡ record { output = wanted; name = name; width = 1 }
port_is name wanted p e w =
    let both = and_parts (same_name p.name name) (if wanted then p.output else not p.output) (not-false (is_port name wanted p) e) in
    port-by_parts p.output wanted p.name name p.width 1 (output_is p.output wanted both.1) (same_is p.name name both.0) (eqb-true p.width 1 (not-false (p.width == 1) w))

ports_are : (drivers : List (List ℕ)) (ps : List PlainPort) → nat_lt (length ps) 4 ≡ false → Clean (ports_faults true drivers [] 0 ps) → ps ≡ main_ports
ports_are drivers [] few c = absurd (cc)
ports_are drivers (a ∷ []) few c = absurd (cc)
ports_are drivers (a ∷ b ∷ []) few c = absurd (cc)
ports_are drivers (a ∷ b ∷ d ∷ []) few c = absurd (cc)
ports_are drivers (a ∷ b ∷ d ∷ e ∷ []) few c =
    let ka = port_keeps true drivers [] 0 0 (a ∷ b ∷ d ∷ e ∷ []) c 0 a refl refl in
    let kb = port_keeps true drivers [] 0 1 (a ∷ b ∷ d ∷ e ∷ []) c 1 b refl refl in
    let kd = port_keeps true drivers [] 0 2 (a ∷ b ∷ d ∷ e ∷ []) c 2 d refl refl in
    let ke = port_keeps true drivers [] 0 3 (a ∷ b ∷ d ∷ e ∷ []) c 3 e refl refl in
    ap (λ x. x ∷ b ∷ d ∷ e ∷ []) (port_is (codes "clk") false a ka.right ka.one_bit)
    ∙ ap (λ x. record { output = false; name = codes "clk"; width = 1 } ∷ x ∷ d ∷ e ∷ []) (port_is (codes "reset") false b kb.right kb.one_bit)
    ∙ ap (λ x. record { output = false; name = codes "clk"; width = 1 } ∷ record { output = false; name = codes "reset"; width = 1 } ∷ x ∷ e ∷ []) (port_is (codes "go") false d kd.right kd.one_bit)
    ∙ ap (λ x. record { output = false; name = codes "clk"; width = 1 } ∷ record { output = false; name = codes "reset"; width = 1 } ∷ record { output = false; name = codes "go"; width = 1 } ∷ x ∷ []) (port_is (codes "done") true e ke.right ke.one_bit)
ports_are drivers (a ∷ b ∷ d ∷ e ∷ f ∷ rest) few c =
    let kf = port_keeps true drivers [] 0 4 (a ∷ b ∷ d ∷ e ∷ f ∷ rest) c 4 f refl refl in absurd (let h = kf.right in cc)

pub main-ports : (m : PlainModule) (before : List PlainModule) → KeepsAfter true before m → m.ports ≡ main_ports
main-ports m before k =
    let name = ap (λ (f : Faults). f.name) k.head in
    ports_are (drivers_in (reverse before) m) m.ports (or_parts _ _ (or_parts _ _ name).0).1 k.ports

-- the clock is read by no expression that names what is there
not_clock : (scope : Scope) (n : List ℕ) → not (is_readable scope n) ≡ false → same_name n (codes "clk") ≡ false
not_clock scope n e =
    let both = and_parts (is_source (scope n)) (not (same_name n (codes "clk"))) (not-false (is_readable scope n) e) in
    false_from_ne_true (same_name n (codes "clk")) (λ h. both_ways (not (same_name n (codes "clk"))) (ap not h) both.1)

pub clock_unread : (scope : Scope) (e : PlainExpr) → misnames scope e ≡ false → reads_net e (codes "clk") ≡ false
clock_unread scope (Named n) h = not_clock scope n h
clock_unread scope (Number b) h = refl
clock_unread scope (Part n high low) h = not_clock scope n h
clock_unread scope (Word n i) h = clock_unread scope i (or_parts _ (misnames scope i) h).1
clock_unread scope (Applied op a b) h = let p = or_parts (misnames scope a) (misnames scope b) h in or_from (reads_net a (codes "clk")) (reads_net b (codes "clk")) (clock_unread scope a p.0) (clock_unread scope b p.1)
clock_unread scope (Inverted a) h = clock_unread scope a h
clock_unread scope (Chosen c a b) h =
    let p = none_goes_on (misnames scope c) (misnames scope a) (misnames scope b) h in
    or_from (reads_net c (codes "clk") || reads_net a (codes "clk")) (reads_net b (codes "clk"))
    (or_from (reads_net c (codes "clk")) (reads_net a (codes "clk")) (clock_unread scope c p.0) (clock_unread scope a p.1)) (clock_unread scope b p.2)
clock_unread scope (Joined a b) h = let p = or_parts (misnames scope a) (misnames scope b) h in or_from (reads_net a (codes "clk")) (reads_net b (codes "clk")) (clock_unread scope a p.0) (clock_unread scope b p.1)
