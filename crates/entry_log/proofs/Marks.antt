-- The live entries with one record more at the end. Assumes nothing.
use Rattle.std.proofs.Common.{◌≡◌, ℕ, Bool, true, false, cond, not, ◌||◌, eqb, List, [], ◌∷◌, ◌++◌, sym, refl, ap, ◌∙◌}
use Rattle.ids.specs.declared.IdSet.{IdSet}
use Rattle.ids.specs.Sets.{has}
use Rattle.model.specs.declared.Entry.{Entry}
use Rattle.model.specs.Entries.{entry_id}
use Rattle.history.specs.Entries.{kept}
use Rattle.places.specs.AppendLists.{pushed}
use Rattle.entry_log.specs.declared.LogRecord.{LogRecord}
use Rattle.entry_log.specs.declared.LogRecord.TheVariants.{Noted, Purged}
use Rattle.entry_log.specs.Logs.{taken, live}

pub live_first : (e : Entry) (rs : List LogRecord) → taken (entry_id e) rs ≡ false → live (Noted e ∷ rs) ≡ e ∷ live rs
live_first e rs h = ap (λ b. cond b (live rs) (e ∷ live rs)) h

pub live_taken : (e : Entry) (rs : List LogRecord) → taken (entry_id e) rs ≡ true → live (Noted e ∷ rs) ≡ live rs
live_taken e rs h = ap (λ b. cond b (live rs) (e ∷ live rs)) h

-- an entry
taken_noted : (id : ℕ) (rs : List LogRecord) (e : Entry) → taken id (rs ++ Noted e ∷ []) ≡ taken id rs
taken_noted id [] e = refl
taken_noted id (Noted x ∷ rs) e = taken_noted id rs e
taken_noted id (Purged ids ∷ rs) e = ap (λ b. has ids id || b) (taken_noted id rs e)

pub live_noted : (rs : List LogRecord) (e : Entry) → live (rs ++ Noted e ∷ []) ≡ live rs ++ e ∷ []
live_noted [] e = refl
live_noted (Purged ids ∷ rs) e = live_noted rs e
live_noted (Noted x ∷ rs) e = go (taken (entry_id x) rs) (taken_noted (entry_id x) rs e) (live_noted rs e)
  where
    go : (b : Bool) → taken (entry_id x) (rs ++ Noted e ∷ []) ≡ b → live (rs ++ Noted e ∷ []) ≡ live rs ++ e ∷ []
        → live (Noted x ∷ (rs ++ Noted e ∷ [])) ≡ cond b (live rs) (x ∷ live rs) ++ e ∷ []
    go true t h = live_taken x (rs ++ Noted e ∷ []) t ∙ h
    go false t h = live_first x (rs ++ Noted e ∷ []) t ∙ ap (λ l. x ∷ l) h

pub live_pushed : (e : Entry) (n : ℕ) (rs qs : List LogRecord) → qs ≡ pushed (Noted e) n rs → live qs ≡ pushed e n (live rs)
live_pushed e n rs qs is = ap live is ∙ go (eqb n 0)
  where
    go : (b : Bool) → live (cond b rs (rs ++ Noted e ∷ [])) ≡ cond b (live rs) (live rs ++ e ∷ [])
    go true = refl
    go false = live_noted rs e

-- a mark
or_swap : (a b c : Bool) → (a || (b || c)) ≡ (b || (a || c))
or_swap true true c = refl
or_swap true false c = refl
or_swap false b c = refl

taken_purged : (id : ℕ) (rs : List LogRecord) (ids : IdSet) → taken id (rs ++ Purged ids ∷ []) ≡ (has ids id || taken id rs)
taken_purged id [] ids = refl
taken_purged id (Noted x ∷ rs) ids = taken_purged id rs ids
taken_purged id (Purged m ∷ rs) ids = ap (λ b. has m id || b) (taken_purged id rs ids) ∙ or_swap (has m id) (has ids id) (taken id rs)

pub live_purged : (rs : List LogRecord) (ids : IdSet) → live (rs ++ Purged ids ∷ []) ≡ kept ids (live rs)
live_purged [] ids = refl
live_purged (Purged m ∷ rs) ids = live_purged rs ids
live_purged (Noted x ∷ rs) ids = go (has ids (entry_id x)) refl (taken (entry_id x) rs) (taken_purged (entry_id x) rs ids) (live_purged rs ids)
  where
    go : (a : Bool) → has ids (entry_id x) ≡ a → (b : Bool) → taken (entry_id x) (rs ++ Purged ids ∷ []) ≡ (has ids (entry_id x) || b)
        → live (rs ++ Purged ids ∷ []) ≡ kept ids (live rs)
        → live (Noted x ∷ (rs ++ Purged ids ∷ [])) ≡ kept ids (cond b (live rs) (x ∷ live rs))
    go true e true t h = live_taken x (rs ++ Purged ids ∷ []) (t ∙ ap (λ a. a || true) e) ∙ h
    go true e false t h =
        live_taken x (rs ++ Purged ids ∷ []) (t ∙ ap (λ a. a || false) e) ∙ h
        ∙ sym (ap (λ a. cond (not a) (x ∷ kept ids (live rs)) (kept ids (live rs))) e)
    go false e true t h = live_taken x (rs ++ Purged ids ∷ []) (t ∙ ap (λ a. a || true) e) ∙ h
    go false e false t h =
        live_first x (rs ++ Purged ids ∷ []) (t ∙ ap (λ a. a || false) e) ∙ ap (λ l. x ∷ l) h
        ∙ sym (ap (λ a. cond (not a) (x ∷ kept ids (live rs)) (kept ids (live rs))) e)

pub live_marked : (ids : IdSet) (n : ℕ) (rs qs : List LogRecord) → qs ≡ pushed (Purged ids) n rs → live qs ≡ cond (eqb n 0) (live rs) (kept ids (live rs))
live_marked ids n rs qs is = ap live is ∙ go (eqb n 0)
  where
    go : (b : Bool) → live (cond b rs (rs ++ Purged ids ∷ [])) ≡ cond b (live rs) (kept ids (live rs))
    go true = refl
    go false = live_purged rs ids
