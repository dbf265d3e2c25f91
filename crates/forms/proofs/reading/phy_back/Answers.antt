-- phy_back is the definition's chain of tests.
use Rattle.forms.proofs.FormRows.{back-vacant, back-empty, back-present}
use Rattle.forms.proofs.reading.phy_back.Goals as goal

pub returns-then-v-eq1 : goal.returns-then-v-eq1
returns-then-v-eq1 c = back-vacant c.args.address c.args.v c.if-v-eq1.true

pub returns-then-device_type-eq0 : goal.returns-then-device_type-eq0
returns-then-device_type-eq0 c = back-empty c.args.address c.args.v c.if-v-eq1.false c.if-device_type-eq0.true

pub returns : goal.returns
returns c = back-present c.args.address c.args.v c.if-v-eq1.false c.if-device_type-eq0.false
