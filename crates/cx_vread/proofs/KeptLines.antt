-- The lines of what a tree keeps of a module break the same rules as those of the module.
use Rattle.std.proofs.Common.{◌≡◌, ℕ, ◌+◌, ◌<◌, ◌==◌, not, Bool, true, false, ◌&&◌, ◌||◌, List, [], ◌∷◌, ◌++◌, map, Option, Some, None, refl, ◌∙◌, ap, sym, subst, arith, ⊎_elim, ◌⊎◌, inl, inr}
use Rattle.std.specs.Prelude.{is_none, nat_lt, min, option_map}
use Rattle.std.specs.Option.{option_map_or}
use Rattle.std.proofs.lemmas.Bool.{or_parts, lt-ltb, cases_lt, or_right}
use Rattle.cx_vtree.specs.Plain.{PlainExpr, PlainPort, PlainDecl, WireOf, RegisterOf, ArrayOf, PlainAssign, PlainStore, PlainItem, SetTo, StoreTo, PlainEdge}
use Rattle.cx_vtree.specs.Sound.{Faults, no_faults, Scope, bad_width, width_of, is_array, is_driven, is_register, misnames, fitting_width, has_width, too_deep, has_name, port_faults, ports_faults, decl_name, decl_faults, decls_faults, assigns_faults, set_faults, sets_faults, store_faults, item_faults, item_name, items_faults, edge_faults}
use Rattle.cx_vread_exprs.specs.Tokens.{kept_small}
use Rattle.cx_vread_exprs.proofs.Kept.{kept_by}
use Rattle.cx_vread.proofs.Alike.{SameKind, Alike, same_kind, alike_refl, alike_append}
use Rattle.cx_vread.proofs.Kept.{kept_port, kept_decl, kept_assign, kept_store, kept_item, kept_edge}
use Rattle.cx_vread.proofs.GoodWidths.{is_fine}
use Rattle.cx_vread.proofs.KeptDeep.{by_misnames, by_fitting, by_depth}
use Rattle.cx_vread.proofs.SoundHeld.{width_some, none_some}

-- Widths.
abbrev IsKeptWidth : ℕ → Type 0
IsKeptWidth w = (kept_small w ≡ w) ⊎ ((bad_width w ≡ true) × (bad_width (kept_small w) ≡ true))

kept_width : (w : ℕ) → IsKeptWidth w
kept_width w = ⊎_elim
    (λ lt. inl (omega arith))
    (λ le. let most : min w 255 ≡ 255 = omega arith in inr (or_right (w == 0) (nat_lt 128 w) (lt-ltb 128 w (omega arith)), ap bad_width most))
    (cases_lt w 256)

-- a width that is bad by itself
width_kept : (w : ℕ) (other : ℕ → Bool) → (bad_width w || other w) ≡ (bad_width (kept_small w) || other (kept_small w))
width_kept w other = ⊎_elim
    (λ same. sym (ap (λ k. bad_width k || other k) same))
    (λ bad. ap (λ b. b || other w) bad.0 ∙ sym (ap (λ b. b || other (kept_small w)) bad.1))
    (kept_width w)

bad_kept : (w : ℕ) → bad_width w ≡ bad_width (kept_small w)
bad_kept w = ⊎_elim (λ same. sym (ap bad_width same)) (λ bad. bad.0 ∙ sym bad.1) (kept_width w)

port_alike : (is_main : Bool) (drivers earlier : List (List ℕ)) (index : ℕ) (p : PlainPort) → SameKind (port_faults is_main drivers earlier index p) (port_faults is_main drivers earlier index (kept_port p))
port_alike is_main drivers earlier index p =
    same_kind (port_faults is_main drivers earlier index p) (port_faults is_main drivers earlier index (kept_port p)) refl (λ n. width_kept p.width (λ w. (is_main || nat_lt index 2) && not (w == 1))) (λ n w. refl)

pub ports_alike : (is_main : Bool) (drivers earlier : List (List ℕ)) (index : ℕ) (ps : List PlainPort) → Alike (ports_faults is_main drivers earlier index ps) (ports_faults is_main drivers earlier index (map kept_port ps))
ports_alike is_main drivers earlier index [] = tt
ports_alike is_main drivers earlier index (p ∷ ps) = (port_alike is_main drivers earlier index p, λ clean. ports_alike is_main drivers (earlier ++ p.name ∷ []) (index + 1) ps)

decl_alike : (drivers earlier : List (List ℕ)) (d : PlainDecl) → SameKind (decl_faults drivers earlier d) (decl_faults drivers earlier (kept_decl d))
decl_alike drivers earlier (WireOf n w) = same_kind (decl_faults drivers earlier (WireOf n w)) (decl_faults drivers earlier (kept_decl (WireOf n w))) refl (λ e. bad_kept w) (λ e f. refl)
decl_alike drivers earlier (RegisterOf n w) = same_kind (decl_faults drivers earlier (RegisterOf n w)) (decl_faults drivers earlier (kept_decl (RegisterOf n w))) refl (λ e. bad_kept w) (λ e f. refl)
decl_alike drivers earlier (ArrayOf n w k) = same_kind (decl_faults drivers earlier (ArrayOf n w k)) (decl_faults drivers earlier (kept_decl (ArrayOf n w k))) refl (λ e. bad_kept w) (λ e f. refl)

pub decl_name_kept : (d : PlainDecl) → decl_name (kept_decl d) ≡ decl_name d
decl_name_kept (WireOf n w) = refl
decl_name_kept (RegisterOf n w) = refl
decl_name_kept (ArrayOf n w k) = refl

pub decls_alike : (drivers earlier : List (List ℕ)) (ds : List PlainDecl) → Alike (decls_faults drivers earlier ds) (decls_faults drivers earlier (map kept_decl ds))
decls_alike drivers earlier [] = tt
decls_alike drivers earlier (d ∷ ds) =
    (decl_alike drivers earlier d, λ clean. subst (λ n. Alike (decls_faults drivers (earlier ++ decl_name d ∷ []) ds) (decls_faults drivers (earlier ++ n ∷ []) (map kept_decl ds))) (sym (decl_name_kept d)) (decls_alike drivers (earlier ++ decl_name d ∷ []) ds))

-- Lines with an expression.
module _ (scope : Scope) (small : (n : List ℕ) → width_of (scope n) < 256) (fine : (n : List ℕ) → is_fine (scope n) ≡ true) where
  abbrev line_faults : Bool → ℕ → PlainExpr → Faults
  line_faults front w e = record { name = front || misnames scope e; width = not (has_width scope e w); limit = too_deep e }

  line_alike : (front : Bool) (w : ℕ) (e : PlainExpr) → SameKind (line_faults front w e) (line_faults front w (kept_by scope e))
  line_alike front w e =
      same_kind (line_faults front w e) (line_faults front w (kept_by scope e))
      (ap (λ m. front || m) (sym (by_misnames scope e)))
      (λ n. ap (λ o. not (option_map_or (λ v. v == w) o false)) (sym (by_fitting scope small fine e (or_parts front (misnames scope e) n).1)))
      (λ n f. sym (by_depth scope small fine e (or_parts front (misnames scope e) n).1 (width_some (fitting_width scope e) w f)))

  pub assigns_alike : (earlier : List (List ℕ)) (xs : List PlainAssign) → Alike (assigns_faults scope earlier xs) (assigns_faults scope earlier (map (kept_assign scope) xs))
  assigns_alike earlier [] = tt
  assigns_alike earlier (a ∷ xs) =
      (line_alike (not (is_driven (scope a.name)) || has_name earlier a.name) (width_of (scope a.name)) a.value, λ clean. assigns_alike (earlier ++ a.name ∷ []) xs)

  set_alike : (earlier : List (List ℕ)) (a : PlainAssign) → SameKind (set_faults scope earlier a) (set_faults scope earlier (kept_assign scope a))
  set_alike earlier a = line_alike (not (is_register (scope a.name)) || has_name earlier a.name) (width_of (scope a.name)) a.value

  pub sets_alike : (earlier : List (List ℕ)) (xs : List PlainAssign) → Alike (sets_faults scope earlier xs) (sets_faults scope earlier (map (kept_assign scope) xs))
  sets_alike earlier [] = tt
  sets_alike earlier (a ∷ xs) = (set_alike earlier a, λ clean. sets_alike (earlier ++ a.name ∷ []) xs)

  store_alike : (earlier : List (List ℕ)) (s : PlainStore) → SameKind (store_faults scope earlier s) (store_faults scope earlier (kept_store scope s))
  store_alike earlier s =
      let front : Bool = not (is_array (scope s.array)) || has_name earlier s.array in
      let w : ℕ = width_of (scope s.array) in
      let named : (front || misnames scope s.guard || misnames scope s.index || misnames scope s.value) ≡ false → (misnames scope s.guard ≡ false) × (misnames scope s.index ≡ false) × (misnames scope s.value ≡ false) = λ e.
      let n3 = or_parts (front || misnames scope s.guard || misnames scope s.index) (misnames scope s.value) e in
      let n2 = or_parts (front || misnames scope s.guard) (misnames scope s.index) n3.0 in
      let n1 = or_parts front (misnames scope s.guard) n2.0 in
      (n1.1, n2.1, n3.1) in
      same_kind (store_faults scope earlier s) (store_faults scope earlier (kept_store scope s))
      (ap (λ m. front || m || misnames scope s.index || misnames scope s.value) (sym (by_misnames scope s.guard))
      ∙ ap (λ m. front || misnames scope (kept_by scope s.guard) || m || misnames scope s.value) (sym (by_misnames scope s.index))
      ∙ ap (λ m. front || misnames scope (kept_by scope s.guard) || misnames scope (kept_by scope s.index) || m) (sym (by_misnames scope s.value)))
      (λ e.
      let n = named e in
      ap (λ o. not (option_map_or (λ v. v == 1) o false) || is_none (fitting_width scope s.index) || not (has_width scope s.value w)) (sym (by_fitting scope small fine s.guard n.0))
      ∙ ap (λ o. not (has_width scope (kept_by scope s.guard) 1) || is_none o || not (has_width scope s.value w)) (sym (by_fitting scope small fine s.index n.1))
      ∙ ap (λ o. not (has_width scope (kept_by scope s.guard) 1) || is_none (fitting_width scope (kept_by scope s.index)) || not (option_map_or (λ v. v == w) o false)) (sym (by_fitting scope small fine s.value n.2)))
      (λ e f.
      let n = named e in
      let w2 = or_parts (not (has_width scope s.guard 1) || is_none (fitting_width scope s.index)) (not (has_width scope s.value w)) f in
      let w1 = or_parts (not (has_width scope s.guard 1)) (is_none (fitting_width scope s.index)) w2.0 in
      ap (λ d. d || too_deep s.index || too_deep s.value) (sym (by_depth scope small fine s.guard n.0 (width_some (fitting_width scope s.guard) 1 w1.0)))
      ∙ ap (λ d. too_deep (kept_by scope s.guard) || d || too_deep s.value) (sym (by_depth scope small fine s.index n.1 (none_some (fitting_width scope s.index) w1.1)))
      ∙ ap (λ d. too_deep (kept_by scope s.guard) || too_deep (kept_by scope s.index) || d) (sym (by_depth scope small fine s.value n.2 (width_some (fitting_width scope s.value) w w2.1))))

  item_alike : (earlier : List (List ℕ)) (i : PlainItem) → SameKind (item_faults scope earlier i) (item_faults scope earlier (kept_item scope i))
  item_alike earlier (SetTo a) = set_alike earlier a
  item_alike earlier (StoreTo s) = store_alike earlier s

  item_name_kept : (i : PlainItem) → item_name (kept_item scope i) ≡ item_name i
  item_name_kept (SetTo a) = refl
  item_name_kept (StoreTo s) = refl

  pub items_alike : (earlier : List (List ℕ)) (xs : List PlainItem) → Alike (items_faults scope earlier xs) (items_faults scope earlier (map (kept_item scope) xs))
  items_alike earlier [] = tt
  items_alike earlier (i ∷ xs) =
      (item_alike earlier i, λ clean. subst (λ n. Alike (items_faults scope (earlier ++ item_name i ∷ []) xs) (items_faults scope (earlier ++ n ∷ []) (map (kept_item scope) xs))) (sym (item_name_kept i)) (items_alike (earlier ++ item_name i ∷ []) xs))

  -- lines that break nothing before others
  one_more : (fs gs : List Faults) → Alike fs gs → Alike (no_faults ∷ fs) (no_faults ∷ gs)
  one_more fs gs a = (λ line later. refl, λ clean. a)

  two_more : (fs gs : List Faults) → Alike fs gs → Alike (no_faults ∷ no_faults ∷ fs) (no_faults ∷ no_faults ∷ gs)
  two_more fs gs a = (λ line later. refl, λ one. (λ line later. refl, λ two. a))

  pub edge_alike : (e : Option PlainEdge) → Alike (edge_faults scope e) (edge_faults scope (option_map (kept_edge scope) e))
  edge_alike None = tt
  edge_alike (Some e) =
      let sets : List Faults = no_faults ∷ no_faults ∷ sets_faults scope [] e.reset in
      let kept_sets : List Faults = no_faults ∷ no_faults ∷ sets_faults scope [] (map (kept_assign scope) e.reset) in
      let items : List Faults = no_faults ∷ items_faults scope [] e.step in
      let kept_items : List Faults = no_faults ∷ items_faults scope [] (map (kept_item scope) e.step) in
      let end : List Faults = no_faults ∷ no_faults ∷ [] in
      alike_append (sets ++ items) (kept_sets ++ kept_items) end end
      (alike_append sets kept_sets items kept_items
      (two_more (sets_faults scope [] e.reset) (sets_faults scope [] (map (kept_assign scope) e.reset)) (sets_alike [] e.reset))
      (λ all. one_more (items_faults scope [] e.step) (items_faults scope [] (map (kept_item scope) e.step)) (items_alike [] e.step)))
      (λ all. alike_refl end)
