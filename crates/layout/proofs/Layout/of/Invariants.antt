use Rattle.std.proofs.Common.{◌≡◌, length, drop}
use Rattle.layout.specs.Pass.{read, state, tables, tables_of}
use Rattle.layout.proofs.Narrow.{Narrow}
use Rattle.layout.proofs.Layout.of.Given as goal

abbrev pub invariant-loop-i : goal.invariant-loop-i
invariant-loop-i l =
    Narrow l.i l.here l.outer
    × (l.layout.len ≡ length l.row)
    × (tables_of l.row ≡ read l.i (state l.here l.outer) (tables l.layout.places l.layout.positions l.layout.ends) (drop l.i l.row))
