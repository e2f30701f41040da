use Rattle.std.proofs.Common.{arith}
use lib.Count.{ones-le}
use Rattle.ids.proofs.Counting.{len_of_bits}
use Rattle.ids.proofs.IdSet.len.Goals as goal

pub overflow_cast-result : goal.overflow_cast-result
overflow_cast-result c = omega (arith, ones-le 64 c.args.self.bits (omega arith))

pub returns : goal.returns
returns c = len_of_bits c.args.self (omega arith)
