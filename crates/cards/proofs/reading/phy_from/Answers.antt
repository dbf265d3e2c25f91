-- phy_from reads the first eight bits, and the numbers that follow.
use Rattle.frames.specs.Bits.{bits_of}
use Rattle.frames.proofs.PackedRows.{bits-bits_of}
use Rattle.cards.proofs.CardPlaces.{head-bits, vacant-from, idle_from, bound_from}
use Rattle.cards.proofs.reading.phy_from.Goals as goal

pub returns-then-head-lt128 : goal.returns-then-head-lt128
returns-then-head-lt128 c =
    let a = c.args in
    let h = head-bits (bits_of a.card.now) a.at _ (bits-bits_of a.card.now) c.byte_from-head.ensures.0 in
    vacant-from (bits_of a.card.now) a.at _ (h.vacant c.if-head-lt128.true) c.byte_from.ensures.0

pub returns-then-device_type-eq0 : goal.returns-then-device_type-eq0
returns-then-device_type-eq0 c =
    let a = c.args in
    let h = head-bits (bits_of a.card.now) a.at _ (bits-bits_of a.card.now) c.byte_from-head.ensures.0 in
    idle_from (bits_of a.card.now) a.at _ _ (h.present c.if-head-lt128.false) h.device_type h.attribute c.if-device_type-eq0.true

pub returns : goal.returns
returns c =
    let a = c.args in
    let h = head-bits (bits_of a.card.now) a.at _ (bits-bits_of a.card.now) c.byte_from-head.ensures.0 in
    bound_from (bits_of a.card.now) a.at _ _ _ _ (h.present c.if-head-lt128.false) h.device_type h.attribute c.word_from-address.ensures c.byte_from-attached_phy.ensures.0 c.if-device_type-eq0.false
