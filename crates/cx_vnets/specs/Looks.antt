-- What a code gives by what is known so far: a value, or the first net that it waits for.
use Rattle.std.specs.Prelude.{ℕ, ◌+◌, ◌==◌, List, Option, Some, None, slice_get, if◌then◌else◌}
use Rattle.cx_bits.specs.BitVector.{BitVector}
use Rattle.cx_vtree.specs.Operators.{operate, inverted, part_of, joined}
use Rattle.cx_vnets.specs.declared.arrays.Words.{Words}
use Rattle.cx_vnets.specs.declared.codes.Code.{Code}
use Rattle.cx_vnets.specs.declared.codes.Code.TheVariants.{Net, Literal, Slice, Item', Binary', Not', Choose', Cat'}
use Rattle.cx_vnets.specs.declared.marks.NetMark.{NetMark}
use Rattle.cx_vnets.specs.declared.marks.NetMark.TheVariants.{Unseen, Open, Known}
use Rattle.cx_vnets.specs.declared.marks.FoundValue.{FoundValue}
use Rattle.cx_vnets.specs.declared.marks.FoundValue.TheVariants.{Worth, Waits}
use Rattle.cx_vnets.specs.declared.nets.Nets.{Nets}
use Rattle.cx_vnets.specs.declared.nets.Stored.{Stored}
use Rattle.cx_vnets.specs.declared.nets.Driver.{Driver}
use Rattle.cx_vnets.specs.declared.nets.Driver.TheVariants.{Held, Tied, Given}
use Rattle.cx_vnets.specs.Arrays.{word_at, array_width}
use Rattle.cx_vnets.specs.Fits.{width_at}

abbrev pub found_map : (BitVector → BitVector) → FoundValue → FoundValue
found_map f (Worth v) = Worth (f v)
found_map f (Waits m) = Waits m

abbrev pub found_and_then : (BitVector → FoundValue) → FoundValue → FoundValue
found_and_then f (Worth v) = f v
found_and_then f (Waits m) = Waits m

abbrev pub look : (ℕ → FoundValue) → (ℕ → ℕ → BitVector) → Code → FoundValue
look nets words (Net k) = nets k
look nets words (Literal b) = Worth b
look nets words (Slice k high low) = found_map (part_of high low) (nets k)
look nets words (Item' a p i) = found_map (λ x. words a x.value) (look nets words i)
look nets words (Binary' op p a q b) =
    found_and_then (λ x. found_map (operate op x) (look nets words b)) (look nets words a)
look nets words (Not' p a) = found_map inverted (look nets words a)
look nets words (Choose' p c q a r b) =
    found_and_then (λ t. if t.value == 0 then look nets words b else look nets words a) (look nets words c)
look nets words (Cat' p a q b) = found_and_then (λ x. found_map (joined x) (look nets words b)) (look nets words a)

abbrev pub marked : Option NetMark → Option BitVector → ℕ → FoundValue
marked None o f = Waits f
marked (Some Unseen) o f = Waits f
marked (Some Open) o f = Waits f
marked (Some Known) None f = Waits f
marked (Some Known) (Some v) f = Worth v

-- what is known of a net
abbrev pub seen : List NetMark → List BitVector → ℕ → FoundValue
seen marks values f = marked (slice_get marks f) (slice_get values f) f

-- the nets, the words and the widths of an instance
abbrev pub seen_from : List NetMark → List BitVector → ℕ → ℕ → FoundValue
seen_from marks values start k = seen marks values (start + k)

abbrev pub words_from : List Words → ℕ → ℕ → ℕ → BitVector
words_from arrays start a = word_at arrays (start + a)

abbrev pub widths_from : List BitVector → ℕ → ℕ → Option ℕ
widths_from values start k = width_at values (start + k)

abbrev pub array_widths_from : List Words → ℕ → ℕ → Option ℕ
array_widths_from arrays start a = array_width arrays (start + a)

abbrev pub look_stored : Option BitVector → ℕ → FoundValue
look_stored None f = Waits f
look_stored (Some v) f = Worth v

abbrev pub look_code : Stored → List NetMark → List BitVector → ℕ → ℕ → ℕ → Option Code → FoundValue
look_code s marks values f nets arrays None = Waits f
look_code s marks values f nets arrays (Some c) =
    look (seen_from marks values nets) (words_from s.arrays.items arrays) c

abbrev pub look_driver : Nets → Stored → List NetMark → List BitVector → ℕ → Option Driver → FoundValue
look_driver n s marks values f None = Waits f
look_driver n s marks values f (Some Held) = look_stored (slice_get s.nets.items f) f
look_driver n s marks values f (Some (Tied g)) = seen marks values g
look_driver n s marks values f (Some (Given c p)) =
    look_code s marks values f p.nets p.arrays (slice_get n.codes.items c)

-- what a net's driver gives
abbrev pub look_net : Nets → Stored → List NetMark → List BitVector → ℕ → FoundValue
look_net n s marks values f = look_driver n s marks values f (slice_get n.drivers.items f)
