-- put_byte meets its contract: one store.
use Rattle.listing.proofs.BytesPut.{put_one}
use Rattle.listing.proofs.text.put_byte.Goals as goal

pub returns : goal.returns
returns c = put_one c.args.out.now c.args.at c.args.b
