-- No id above 63 is in a queue. Assumes nothing.
use Rattle.std.specs.Prelude.{◌≡◌, ℕ, ◌≤◌, true, false, not, ◌&&◌, List, [], ◌∷◌, nat_lt, refl}
use Rattle.std.proofs.Common.{arith}
use Rattle.std.proofs.lemmas.Bool.{and_parts, ltb-true, ne_eqb, or_from}
use Rattle.queue.specs.declared.Queue.{Queue}
use Rattle.queue.specs.Orders.{listed, each_once}
use Rattle.queue.specs.Queues.{order, queued}

pub listed_past : (xs : List ℕ) (id : ℕ) → each_once xs ≡ true → 64 ≤ id → listed xs id ≡ false
listed_past [] id once h = refl
listed_past (x ∷ xs) id once h =
    let p = and_parts (nat_lt x 64 && not (listed xs x)) (each_once xs) once in
    let small = ltb-true x 64 (and_parts (nat_lt x 64) (not (listed xs x)) p.0).0 in
    or_from _ _ (ne_eqb x id (λ e. omega arith)) (listed_past xs id p.1 h)

pub queued_past : (q : Queue) (id : ℕ) → 64 ≤ id → queued q id ≡ false
queued_past q id h = listed_past (order q) id q.once h
