-- What a queue holds. Assumes nothing.
use Rattle.std.specs.Prelude.{ℕ, Bool, List}
use Rattle.queue.specs.declared.Queue.{Queue}
use Rattle.queue.specs.Orders.{listed}

-- Its ids in the order of their offering.
abbrev pub order : Queue → List ℕ
order q = q.ids.items

abbrev pub queued : Queue → ℕ → Bool
queued q = listed (order q)
