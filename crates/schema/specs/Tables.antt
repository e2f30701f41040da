-- What a schema's tables hold for its row. Assumes nothing.
use Rattle.std.specs.Prelude.{ℕ, cond, List, length, Some, None, Option, nat_lt, slice_index_or}
use Rattle.model.specs.declared.Element.{Element}
use Rattle.layout.specs.declared.Position.{Position}
use Rattle.layout.specs.Pass.{outside, tables_of}

abbrev pub place_in : List Element → ℕ → Option ℕ
place_in xs id = slice_index_or (tables_of xs).places id None

abbrev pub position_in : List Element → ℕ → Option Position
position_in xs p = cond (nat_lt p (length xs)) (Some (slice_index_or (tables_of xs).positions p outside)) None

abbrev pub end_in : List Element → ℕ → Option ℕ
end_in xs s = slice_index_or (tables_of xs).ends s None
