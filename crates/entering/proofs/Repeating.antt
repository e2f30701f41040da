-- What an accepted again comes to, by the set of ids that was purged. Assumes nothing.
use Rattle.std.proofs.Common.{◌≡◌, ℕ, ◌+◌, ◌≤◌, Bool, true, false, cond, not, ltb, List, [], ◌∷◌, length, Ok, Result, sym, refl, ap, ◌∙◌, subst}
use Rattle.std.proofs.lemmas.Bool.{ltb-false}
use Rattle.ids.specs.declared.IdSet.{IdSet}
use Rattle.ids.specs.Sets.{has}
use Rattle.model.specs.declared.Entry.{Entry}
use Rattle.model.specs.declared.Entry.TheVariants.{Leave}
use Rattle.model.specs.declared.Fact.{Fact}
use Rattle.model.specs.Entries.{entry_id}
use Rattle.facts.specs.Facts.{reset}
use Rattle.schema.specs.Checks.{SchemaParts}
use Rattle.runs.specs.Steps.{step_in}
use Rattle.bounded.specs.declared.Full.{Full}
use Rattle.history.specs.Entries.{kept}
use Rattle.history.specs.Stores.{StoreView, refusal, purge_answer, purged, PurgeBounds}
use Rattle.rounds.specs.Rounds.{in_round, outside}
use Rattle.lives.specs.Calls.{Held, held, dropped, by_purge, by_test, repeated}
use Rattle.lives.specs.Lives.{Leaves}

kept_outside : (ids : IdSet) (es : List Entry) → kept ids es ≡ outside (has ids) es
kept_outside ids [] = refl
kept_outside ids (e ∷ es) = go (has ids (entry_id e)) (kept_outside ids es)
  where
    go : (b : Bool) → kept ids es ≡ outside (has ids) es
        → cond (not b) (e ∷ kept ids es) (kept ids es) ≡ cond b (outside (has ids) es) (e ∷ outside (has ids) es)
    go true h = h
    go false h = ap (λ l. e ∷ l) h

-- there was room for the purge
room : (cost : ℕ) (s : StoreView) → Ok tt ≡ purge_answer cost s → ltb s.free cost ≡ false
room cost s e = go (ltb s.free cost) e
  where
    go : (b : Bool) → ◌≡◌ {A = Result (Unit {0}) Full} (Ok tt) (cond b refusal (Ok tt)) → b ≡ false
    go true e = absurd cc
    go false e = refl

module _ (S : SchemaParts) (cost i free : ℕ) (h : Held) (ids : IdSet) (round : has ids ≡ in_round S.row i) (accept : Ok tt ≡ purge_answer cost h.store) where
  purge_drops : purged cost ids free h.store ≡ dropped S i free h.store
  purge_drops =
      ap (λ b. cond b h.store (record { list = kept ids h.store.list; free = free; capacity = h.store.capacity })) (room cost h.store accept)
      ∙ ap (λ l. record { list = l; free = free; capacity = h.store.capacity }) (kept_outside ids h.store.list ∙ ap (λ P. outside P h.store.list) round)

  pub repeated_accepted : (gs : List Fact) → step_in S h.facts (Leave i) ≡ Ok gs → repeated cost S i free h ≡ Ok (held (reset (has ids) h.facts) (purged cost ids free h.store))
  repeated_accepted gs e =
      ap (by_test cost S i free h) e ∙ ap (by_purge S i free h) (sym accept)
      ∙ sym (ap (λ P. Ok (held (reset P h.facts) (purged cost ids free h.store))) round
      ∙ ap (λ s. Ok (held (reset (in_round S.row i) h.facts) s)) purge_drops)

  pub repeated_leaves : PurgeBounds cost ids free h.store → Leaves cost i free S h.store
  repeated_leaves b =
      let less = ltb-false h.store.free cost (room cost h.store accept) in
      let same = ap length (kept_outside ids h.store.list ∙ ap (λ P. outside P h.store.list) round) in
      record { cheap = b.cheap less; within = subst (λ n. free + n ≤ h.store.capacity) same (b.within less) }
