-- attach_at meets its contract: it stores byte 32 and the eight bytes of the address.
use Rattle.events.proofs.PluggedAddress.{attach_length, attach_put}
use Rattle.events.proofs.writing.attach_at.Goals as goal

pub shape_of-file : goal.shape_of-file
shape_of-file c =
    let a = c.args in
    attach_length a.file.now a.at a.a c.put_address.new.buf c.put_address.auto.buf

pub returns : goal.returns
returns c =
    let a = c.args in
    attach_put a.file.now a.at a.a c.put_address.new.buf (c.requires) c.put_address.ensures
