use Rattle.std.proofs.Common.{arith}
use Rattle.history.proofs.Views.{kept_short}
use Rattle.table.specs.Tables.{table_view, table_tight, table_within}
use Rattle.table.proofs.CompactedTableStore.purge.Goals as goal

pub returns-clause-bounds : goal.returns-clause-bounds
returns-clause-bounds c =
    let t = c.args.self.now in
    let short = kept_short c.args.ids (table_view t).list in
    record {
      cheap = λ _. omega (arith, short, table_within t, table_tight t, c.purge.ensures.room);
      within = λ _. omega (arith, short, table_within t, c.purge.ensures.room);
      refused = λ h. absurd (omega arith);
    }
