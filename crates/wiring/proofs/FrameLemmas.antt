-- What the layers above use of frames' lemmas.
pub use Rattle.frames.proofs.PackedBits.{length-bits_of, Bits, length-packed_in, bit-packed}
pub use Rattle.frames.proofs.PackedRows.{bits-bits_of}
pub use Rattle.frames.proofs.DisableBits.{marked-room, marked-short, length_marked, marked-bits, marked-padding, marked-after}
