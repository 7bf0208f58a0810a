-- The defaults are the zeros that are told where a call declines.
use mathlib.Core.Path.{◌≡◌}
use Rattle.trace_parts.specs.contracts.contents.DescribedDefault.TheImpl as described
use Rattle.trace_parts.specs.contracts.body.FieldsDefault.TheImpl as fields
use Rattle.trace_parts.specs.declared.contents.Described.{Described}
use Rattle.trace_parts.specs.declared.body.Fields.{Fields}
use Rattle.trace_parts.specs.Contents.{no_description}
use Rattle.trace_parts.specs.Body.{no_fields}

pub described_default : (v : Described) → described.is_default-value.it v → v ≡ no_description
described_default v d =
    let ((first, (slots, offset)), len) = d in
    λ i. record { entry = record { first = first i; slots = slots i; offset = offset i }; len = len i }

pub fields_default : (v : Fields) → fields.is_default-value.it v → v ≡ no_fields
fields_default v d = let (mode, (initiator, target)) = d in λ i. record { mode = mode i; initiator = initiator i; target = target i }
