-- How many bytes a shelf takes in memory, by the layout that the proofs about memory go by.
use mathlib.Core.Path.{◌≡◌, refl}
use prog.Memory.{size, align}
use Rattle.shelves.specs.Shelf.{shelf_bytes}
use Rattle.shelves.proofs.Shelf.TheLaws as T'

-- the bytes of its fields and none between or after them, at an address that is a multiple of 8
pub shelf-size : (size T'.mir ≡ shelf_bytes) × (align T'.mir ≡ 8)
shelf-size = (refl, refl)
