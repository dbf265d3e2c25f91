-- device_type decodes by cases: each arm returns what the case of its code names. The last arm has no other code left.
use Rattle.frames.specs.Codes.{device_types, device_type}
use Rattle.frames.proofs.Decoding.{in_case, in_last}
use Rattle.frames.proofs.codes.device_type.Goals as goal

pub returns-in-0 : goal.returns-in-0
unfolding device_type
returns-in-0 c = in_case 4 3 device_types c.args.byte 0 c.in-0.is

pub returns-in-1 : goal.returns-in-1
unfolding device_type
returns-in-1 c = in_case 4 3 device_types c.args.byte 1 c.in-1.is

pub returns-in-2 : goal.returns-in-2
unfolding device_type
returns-in-2 c = in_case 4 3 device_types c.args.byte 2 c.in-2.is

pub returns-in-3 : goal.returns-in-3
unfolding device_type
returns-in-3 c = in_case 4 3 device_types c.args.byte 3 c.in-3.is

pub returns-in-4 : goal.returns-in-4
unfolding device_type
returns-in-4 c = in_case 4 3 device_types c.args.byte 4 c.in-4.is

pub returns-in-5 : goal.returns-in-5
unfolding device_type
returns-in-5 c = in_case 4 3 device_types c.args.byte 5 c.in-5.is

pub returns-in-6 : goal.returns-in-6
unfolding device_type
returns-in-6 c = in_case 4 3 device_types c.args.byte 6 c.in-6.is

pub returns-in-7 : goal.returns-in-7
unfolding device_type
returns-in-7 c = in_last 4 3 device_types c.args.byte c.in-7.in-7-own.rest
