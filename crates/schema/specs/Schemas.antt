-- What a schema that passed the checks consists of, and what reading one answers. Assumes nothing.
use Rattle.std.specs.Prelude.{Ok, Err, Result}
use Rattle.model.specs.declared.refusal.SchemaRefusal.{SchemaRefusal}
use Rattle.schema.specs.declared.schema.Schema.{Schema}
use Rattle.schema.specs.Checks.{SchemaParts}

abbrev pub parts : Schema → SchemaParts
parts s = record { version = s.version; row = s.row; edges = s.edges }

-- The schema by its parts.
abbrev pub shown : Result Schema SchemaRefusal → Result SchemaParts SchemaRefusal
shown (Ok s) = Ok (parts s)
shown (Err r) = Err r
