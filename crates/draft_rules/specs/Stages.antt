-- What changes make of a schema, one after the other. Assumes nothing.
--   changed c S         the schema after change c
--   changed_all cs S    after all of these, in their order
--   renewed n S         the same with the version that follows n
--   released cs S       what releasing these changes of S gives
use Rattle.std.specs.Prelude.{ℕ, ◌+◌, cond, List, [], ◌∷◌, nat_lt}
use Rattle.schema.specs.Checks.{SchemaParts}
use Rattle.changes.specs.declared.Change.{Change}
use Rattle.changes.specs.Effects.{row_after, edges_after}

abbrev pub changed : Change → SchemaParts → SchemaParts
changed c S = record { version = S.version; row = row_after c S.row; edges = edges_after c S.edges }

abbrev pub changed_all : List Change → SchemaParts → SchemaParts
changed_all [] S = S
changed_all (c ∷ cs) S = changed_all cs (changed c S)

-- 65,535 is the last version, and stays.
abbrev pub next_version : ℕ → ℕ
next_version n = cond (nat_lt n 65535) (n + 1) 65535

abbrev pub renewed : ℕ → SchemaParts → SchemaParts
renewed n S = record { version = next_version n; row = S.row; edges = S.edges }

abbrev pub released : List Change → SchemaParts → SchemaParts
released cs S = renewed S.version (changed_all cs S)
