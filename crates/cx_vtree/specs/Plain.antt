-- The tree of a Verilog text as plain data. Numbers have no bound here, as in the text.
use Rattle.std.specs.Prelude.{ℕ, List, Bool, Option}
use Rattle.cx_bits.specs.BitVector.{BitVector}
use Rattle.cx_vtree.specs.declared.operators.Operator.{Operator}

-- an expression
pub data PlainExpr : Type 0 where
  -- an input, a wire or a register
  Named : (name : List ℕ) → PlainExpr
  Number : (bits : BitVector) → PlainExpr
  -- bits of an input, a wire or a register, from high down to low
  Part : (name : List ℕ) (high low : ℕ) → PlainExpr
  -- a word of an array
  Word : (name : List ℕ) (index : PlainExpr) → PlainExpr
  Applied : (op : Operator) (left right : PlainExpr) → PlainExpr
  Inverted : (inner : PlainExpr) → PlainExpr
  Chosen : (test one other : PlainExpr) → PlainExpr
  Joined : (high low : PlainExpr) → PlainExpr

pub record PlainPort : Type 0 where
  pub output : Bool
  pub name : List ℕ
  pub width : ℕ

pub data PlainDecl : Type 0 where
  WireOf : (name : List ℕ) (width : ℕ) → PlainDecl
  RegisterOf : (name : List ℕ) (width : ℕ) → PlainDecl
  -- an array of so many words
  ArrayOf : (name : List ℕ) (width size : ℕ) → PlainDecl

pub record PlainAssign : Type 0 where
  pub name : List ℕ
  pub value : PlainExpr

-- a port of an instance, and the net of the module around it that it is connected to
pub record PlainConn : Type 0 where
  pub port : List ℕ
  pub net : List ℕ

pub record PlainInstance : Type 0 where
  pub kind : List ℕ
  pub name : List ℕ
  pub conns : List PlainConn

pub record PlainStore : Type 0 where
  pub guard : PlainExpr
  pub array : List ℕ
  pub index : PlainExpr
  pub value : PlainExpr

pub data PlainItem : Type 0 where
  SetTo : (a : PlainAssign) → PlainItem
  StoreTo : (s : PlainStore) → PlainItem

-- the two branches of an edge: with reset, and without
pub record PlainEdge : Type 0 where
  pub reset : List PlainAssign
  pub step : List PlainItem

pub record PlainModule : Type 0 where
  pub name : List ℕ
  pub ports : List PlainPort
  pub decls : List PlainDecl
  pub assigns : List PlainAssign
  pub instances : List PlainInstance
  pub edge : Option PlainEdge

pub record PlainExternal : Type 0 where
  pub name : List ℕ
  pub instance : List ℕ
  pub width : ℕ
  pub sizes : List ℕ

pub record PlainSource : Type 0 where
  pub externals : List PlainExternal
  pub modules : List PlainModule
