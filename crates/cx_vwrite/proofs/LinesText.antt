-- The text of lists of lines.
use Rattle.std.proofs.Common.{◌≡◌, ℕ, List, [], ◌∷◌, ◌++◌, map, Option, Some, None, option_map, refl, ap, sym, ◌∙◌, append_assoc}
use Rattle.std.specs.Prelude.{codes}
use Rattle.cx_vtree.specs.Plain.{PlainAssign, PlainItem, PlainEdge, PlainModule, PlainExternal, PlainSource}
use Rattle.cx_vtree.specs.Lines.{Line, ExternalLine, ModuleLine, PortsEnd, DeclLine, AssignLine, InstanceLine, AlwaysLine, ResetLine, SetLine, ElseLine, BranchesEnd, AlwaysEnd, ModuleEnd, line_text, lines_text}
use Rattle.cx_vtree.specs.Spelling.{port_lines, item_line, edge_lines, module_lines, modules_lines, text_of}
use Rattle.cx_vwrite.specs.Pieces.{signature_text, body_text, modules_text}

pub lines_text_append : (xs ys : List Line) → lines_text (xs ++ ys) ≡ lines_text xs ++ lines_text ys
lines_text_append [] ys = refl
lines_text_append (l ∷ ls) ys = ap (λ t. (line_text l ++ codes "\n") ++ t) (lines_text_append ls ys) ∙ sym (append_assoc (line_text l ++ codes "\n") (lines_text ls) (lines_text ys))

-- what is appended piece by piece
pub pieces_3 : (p q r s a b c : List ℕ) → q ≡ p ++ a → r ≡ q ++ b → s ≡ r ++ c → s ≡ p ++ ((a ++ b) ++ c)
pieces_3 p q r s a b c e f g = g ∙ ap (λ x. x ++ c) (f ∙ ap (λ x. x ++ b) e) ∙ simp append_assoc

pub pieces_4 : (p q r s t a b c d : List ℕ) → q ≡ p ++ a → r ≡ q ++ b → s ≡ r ++ c → t ≡ s ++ d → t ≡ p ++ (a ++ (b ++ (c ++ d)))
pieces_4 p q r s t a b c d e f g h = h ∙ ap (λ x. x ++ d) (g ∙ ap (λ x. x ++ c) (f ∙ ap (λ x. x ++ b) e)) ∙ simp append_assoc

pub pieces_5 : (p q r s t u a b c d e : List ℕ) → q ≡ p ++ a → r ≡ q ++ b → s ≡ r ++ c → t ≡ s ++ d → u ≡ t ++ e → u ≡ p ++ (a ++ (b ++ (c ++ (d ++ e))))
pieces_5 p q r s t u a b c d e f g h i j = j ∙ ap (λ x. x ++ e) (pieces_4 p q r s t a b c d f g h i) ∙ simp append_assoc

-- the lines of an edge
pub edge_text : (e : PlainEdge) → codes "  always @(posedge clk) begin\n    if (reset) begin\n" ++ (lines_text (map SetLine e.reset) ++ (codes "    end else begin\n" ++ (lines_text (map item_line e.step) ++ codes "    end\n  end\n"))) ≡ lines_text (edge_lines (Some e))
edge_text e = sym (
    lines_text_append ((AlwaysLine ∷ ResetLine ∷ map SetLine e.reset) ++ (ElseLine ∷ map item_line e.step)) (BranchesEnd ∷ AlwaysEnd ∷ [])
    ∙ ap (λ t. t ++ lines_text (BranchesEnd ∷ AlwaysEnd ∷ [])) (lines_text_append (AlwaysLine ∷ ResetLine ∷ map SetLine e.reset) (ElseLine ∷ map item_line e.step))
    ∙ append_assoc (lines_text (AlwaysLine ∷ ResetLine ∷ map SetLine e.reset)) (lines_text (ElseLine ∷ map item_line e.step)) (lines_text (BranchesEnd ∷ AlwaysEnd ∷ []))
    )

-- an edge is appended piece by piece
pub edge_pieces : (e : PlainEdge) (p q r s t u : List ℕ) (rs : List PlainAssign) (items : List PlainItem)
    → q ≡ p ++ codes "  always @(posedge clk) begin\n    if (reset) begin\n" → r ≡ q ++ lines_text (map SetLine rs)
    → s ≡ r ++ codes "    end else begin\n" → t ≡ s ++ lines_text (map item_line items) → u ≡ t ++ codes "    end\n  end\n"
    → rs ≡ e.reset → items ≡ e.step → u ≡ p ++ lines_text (edge_lines (Some e))
edge_pieces e p q r s t u rs items f g h i j k l =
    pieces_5 p q r s t u _ _ _ _ _ f (g ∙ ap (λ x. q ++ lines_text (map SetLine x)) k) h (i ∙ ap (λ x. s ++ lines_text (map item_line x)) l) j
    ∙ ap (λ x. p ++ x) (edge_text e)

six : (a b c d e f : List Line) → lines_text (((((a ++ b) ++ c) ++ d) ++ e) ++ f) ≡ ((((lines_text a ++ lines_text b) ++ lines_text c) ++ lines_text d) ++ lines_text e) ++ lines_text f
six a b c d e f =
    lines_text_append ((((a ++ b) ++ c) ++ d) ++ e) f
    ∙ ap (λ t. t ++ lines_text f) (lines_text_append (((a ++ b) ++ c) ++ d) e
    ∙ ap (λ t. t ++ lines_text e) (lines_text_append ((a ++ b) ++ c) d
    ∙ ap (λ t. t ++ lines_text d) (lines_text_append (a ++ b) c
    ∙ ap (λ t. t ++ lines_text c) (lines_text_append a b))))

regroup : (h p q r c d e f : List ℕ) → (((((h ++ p) ++ (q ++ r)) ++ c) ++ d) ++ e) ++ f ≡ (h ++ (p ++ (q ++ r))) ++ (c ++ (d ++ (e ++ f)))
regroup h p q r c d e f = simp append_assoc

-- the lines of a module
pub whole_text : (m : PlainModule) → lines_text (module_lines m) ≡ signature_text m ++ body_text m
whole_text m =
    six (ModuleLine m.name ∷ port_lines m.ports) (PortsEnd ∷ map DeclLine m.decls) (map AssignLine m.assigns) (map InstanceLine m.instances) (edge_lines m.edge) (ModuleEnd ∷ [])
    ∙ ap (λ t. (((((t ++ lines_text (port_lines m.ports)) ++ lines_text (PortsEnd ∷ map DeclLine m.decls)) ++ lines_text (map AssignLine m.assigns)) ++ lines_text (map InstanceLine m.instances)) ++ lines_text (edge_lines m.edge)) ++ lines_text (ModuleEnd ∷ []))
    (append_assoc (codes "module " ++ m.name) (codes "(") (codes "\n"))
    ∙ regroup (codes "module " ++ m.name ++ codes "(\n") (lines_text (port_lines m.ports)) (codes ");\n") (lines_text (map DeclLine m.decls)) (lines_text (map AssignLine m.assigns)) (lines_text (map InstanceLine m.instances)) (lines_text (edge_lines m.edge)) (codes "endmodule\n")

-- the lines of modules
pub modules_text-lines : (ms : List PlainModule) → modules_text ms ≡ lines_text (modules_lines ms)
modules_text-lines [] = refl
modules_text-lines (m ∷ ms) = ap (λ t. lines_text (module_lines m) ++ t) (modules_text-lines ms) ∙ sym (lines_text_append (module_lines m) (modules_lines ms))

-- a source is its external lines and its modules
pub source_text : (s : PlainSource) (es : List PlainExternal) (ms : List PlainModule) (old mid new : List ℕ) → old ≡ []
    → mid ≡ old ++ lines_text (map ExternalLine es) → new ≡ mid ++ modules_text ms → es ≡ s.externals → ms ≡ s.modules → new ≡ text_of s
source_text s es ms old mid new e f g h i =
    g ∙ ap (λ t. t ++ modules_text ms) (f ∙ ap (λ t. t ++ lines_text (map ExternalLine es)) e)
    ∙ ap (λ t. lines_text (map ExternalLine es) ++ t) (modules_text-lines ms)
    ∙ sym (lines_text_append (map ExternalLine es) (modules_lines ms))
    ∙ ap (λ x. lines_text (map ExternalLine x ++ modules_lines ms)) h
    ∙ ap (λ x. lines_text (map ExternalLine s.externals ++ modules_lines x)) i

-- a module is what stands to its last declaration, and the rest
pub module_pieces : (m : PlainModule) (p q r : List ℕ) → q ≡ p ++ signature_text m → r ≡ q ++ body_text m → r ≡ p ++ lines_text (module_lines m)
module_pieces m p q r e f =
    f ∙ ap (λ t. t ++ body_text m) e ∙ append_assoc p (signature_text m) (body_text m) ∙ ap (λ t. p ++ t) (sym (whole_text m))
