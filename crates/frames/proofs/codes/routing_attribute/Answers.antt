-- routing_attribute decodes by cases: each arm returns what the case of its code names. The last arm has no other code left.
use Rattle.frames.specs.Codes.{routing_attributes, routing_attribute}
use Rattle.frames.proofs.Decoding.{in_case, in_last}
use Rattle.frames.proofs.codes.routing_attribute.Goals as goal

pub returns-in-0 : goal.returns-in-0
unfolding routing_attribute
returns-in-0 c = in_case 0 4 routing_attributes c.args.byte 0 c.in-0.is

pub returns-in-1 : goal.returns-in-1
unfolding routing_attribute
returns-in-1 c = in_case 0 4 routing_attributes c.args.byte 1 c.in-1.is

pub returns-in-2 : goal.returns-in-2
unfolding routing_attribute
returns-in-2 c = in_case 0 4 routing_attributes c.args.byte 2 c.in-2.is

pub returns-in-3 : goal.returns-in-3
unfolding routing_attribute
returns-in-3 c = in_case 0 4 routing_attributes c.args.byte 3 c.in-3.is

pub returns-in-4 : goal.returns-in-4
unfolding routing_attribute
returns-in-4 c = in_case 0 4 routing_attributes c.args.byte 4 c.in-4.is

pub returns-in-5 : goal.returns-in-5
unfolding routing_attribute
returns-in-5 c = in_case 0 4 routing_attributes c.args.byte 5 c.in-5.is

pub returns-in-6 : goal.returns-in-6
unfolding routing_attribute
returns-in-6 c = in_case 0 4 routing_attributes c.args.byte 6 c.in-6.is

pub returns-in-7 : goal.returns-in-7
unfolding routing_attribute
returns-in-7 c = in_case 0 4 routing_attributes c.args.byte 7 c.in-7.is

pub returns-in-8 : goal.returns-in-8
unfolding routing_attribute
returns-in-8 c = in_case 0 4 routing_attributes c.args.byte 8 c.in-8.is

pub returns-in-9 : goal.returns-in-9
unfolding routing_attribute
returns-in-9 c = in_case 0 4 routing_attributes c.args.byte 9 c.in-9.is

pub returns-in-10 : goal.returns-in-10
unfolding routing_attribute
returns-in-10 c = in_case 0 4 routing_attributes c.args.byte 10 c.in-10.is

pub returns-in-11 : goal.returns-in-11
unfolding routing_attribute
returns-in-11 c = in_case 0 4 routing_attributes c.args.byte 11 c.in-11.is

pub returns-in-12 : goal.returns-in-12
unfolding routing_attribute
returns-in-12 c = in_case 0 4 routing_attributes c.args.byte 12 c.in-12.is

pub returns-in-13 : goal.returns-in-13
unfolding routing_attribute
returns-in-13 c = in_case 0 4 routing_attributes c.args.byte 13 c.in-13.is

pub returns-in-14 : goal.returns-in-14
unfolding routing_attribute
returns-in-14 c = in_case 0 4 routing_attributes c.args.byte 14 c.in-14.is

pub returns-in-15 : goal.returns-in-15
unfolding routing_attribute
returns-in-15 c = in_last 0 4 routing_attributes c.args.byte c.in-15.in-15-own.rest
