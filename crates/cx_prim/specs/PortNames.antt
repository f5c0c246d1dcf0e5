-- The names of the ports, as designs write them.
use Rattle.std.specs.Prelude.{ℕ, List, codes}
use Rattle.cx_prim.specs.declared.ports.PortName.{PortName}
use Rattle.cx_prim.specs.declared.ports.PortName.TheVariants.{In, Out, Left, Right, Cond, Tru, Fal, WriteEn, ContentEn, Go, Done, Addr0, Addr1, Addr2, Addr3, WriteData, ReadData, OutQuotient, OutRemainder}

-- a port's name
abbrev pub text_of : PortName → List ℕ
text_of In = codes "in"
text_of Out = codes "out"
text_of Left = codes "left"
text_of Right = codes "right"
text_of Cond = codes "cond"
text_of Tru = codes "tru"
text_of Fal = codes "fal"
text_of WriteEn = codes "write_en"
text_of ContentEn = codes "content_en"
text_of Go = codes "go"
text_of Done = codes "done"
text_of Addr0 = codes "addr0"
text_of Addr1 = codes "addr1"
text_of Addr2 = codes "addr2"
text_of Addr3 = codes "addr3"
text_of WriteData = codes "write_data"
text_of ReadData = codes "read_data"
text_of OutQuotient = codes "out_quotient"
text_of OutRemainder = codes "out_remainder"
