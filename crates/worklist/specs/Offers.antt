-- What a worklist offers: a set of ids 0 to 63, as a question of each id. Assumes nothing.
--   none_offered             no id is in
--   with_id id s             s and id besides; an id above 63 changes nothing
--   without_id id s          s but for id
--   in_step_at id wanted s   s, but at id as wanted says
use Rattle.std.specs.Prelude.{ℕ, Bool, false, cond, not, ◌&&◌, ◌||◌, ◌==◌, nat_lt}

abbrev pub none_offered : ℕ → Bool
none_offered i = false

abbrev pub with_id : ℕ → (ℕ → Bool) → ℕ → Bool
with_id id s i = s i || (i == id && nat_lt id 64)

abbrev pub without_id : ℕ → (ℕ → Bool) → ℕ → Bool
without_id id s i = s i && not (i == id)

abbrev pub in_step_at : ℕ → (ℕ → Bool) → (ℕ → Bool) → ℕ → Bool
in_step_at id wanted s i = cond (i == id) (wanted i) (s i)
