-- fields_in yields the fields of the definitions: type and attribute, which are decoded by cases, by decoded-by_cases.
use mathlib.Core.Path.{◌∙◌}
use borrow.Author.Tests.{eq-eqb}
use Rattle.frames.proofs.Decoding.{decoded-by_cases}
use Rattle.frames.proofs.discovery.fields_in.Goals as goal

pub returns : goal.returns
returns c =
    let d = c.device_type.ensures in
    simp (eq-eqb _ _ c.if-result-ne0.false, d ∙ (decoded-by_cases _).0, c.address_at.ensures, c.address_at-2.ensures, c.routing_attribute.ensures ∙ (decoded-by_cases _).1)
