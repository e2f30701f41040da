-- Records read from the last one back. Assumes nothing.
use Rattle.std.proofs.Common.{◌≡◌, ℕ, ◌+◌, ◌-◌, length, get_or, Some, None, Option, subst, Bool, true, false, cond, not, ◌||◌, List, [], ◌∷◌, ◌++◌, reverse, sym, refl, ap, ◌∙◌, arith, append-nil}
use Rattle.std.specs.Iterator.{YieldsFirst, FindsPosition}
use Rattle.std.specs.List.{slice_get}
use Rattle.std.specs.Option.{MatchOption}
use Rattle.std.proofs.lemmas.List.{reverse-append, reverse-reverse, length-reverse, get_or-reverse}
use Rattle.std.proofs.lemmas.Option.{slice_get-get_or}
use denote.Param.Members.{Mut, Called}
use Rattle.std.proofs.lemmas.List.Elements.{filter-append}
use Rattle.ids.specs.declared.IdSet.{IdSet}
use Rattle.ids.specs.Sets.{has}
use Rattle.model.specs.declared.Entry.{Entry}
use Rattle.model.specs.Entries.{entry_id}
use Rattle.history.specs.declared.EntryKind.{EntryKind}
use Rattle.history.specs.Entries.{is_of, last_place, stays, kept}
use Rattle.history.proofs.LastPlaces.{Found, found_from_end}
use Rattle.entry_log.specs.declared.LogRecord.{LogRecord}
use Rattle.entry_log.specs.declared.LogRecord.TheVariants.{Noted, Purged}
use Rattle.entry_log.specs.declared.records.LatestFirst.{LatestFirst}
use Rattle.entry_log.specs.Backwards.{latest}
use Rattle.entry_log.specs.Logs.{live}
use Rattle.entry_log.proofs.Marks.{live_noted, live_purged}

-- a purge of no node
pub kept_all : (gone : IdSet) → ((id : ℕ) → has gone id ≡ false) → (es : List Entry) → kept gone es ≡ es
kept_all gone none [] = refl
kept_all gone none (e ∷ es) = ap (λ b. cond (not b) (e ∷ kept gone es) (kept gone es)) (none (entry_id e)) ∙ ap (λ l. e ∷ l) (kept_all gone none es)

-- two purges
pub kept_twice : (a b all : IdSet) → ((id : ℕ) → has all id ≡ (has a id || has b id)) → (es : List Entry) → kept all es ≡ kept a (kept b es)
kept_twice a b all union [] = refl
kept_twice a b all union (e ∷ es) = go (has a (entry_id e)) refl (has b (entry_id e)) refl (kept_twice a b all union es)
  where
    go : (x : Bool) → has a (entry_id e) ≡ x → (y : Bool) → has b (entry_id e) ≡ y → kept all es ≡ kept a (kept b es) → kept all (e ∷ es) ≡ kept a (kept b (e ∷ es))
    go true p true q h = grind (arith, union (entry_id e), p, q, h)
    go true p false q h = grind (arith, union (entry_id e), p, q, h)
    go false p true q h = grind (arith, union (entry_id e), p, q, h)
    go false p false q h = grind (arith, union (entry_id e), p, q, h)

-- what is still to come of these records, the last first
abbrev still : IdSet → List LogRecord → List Entry
still gone rs = reverse (kept gone (live rs))

-- and of those before the last
module _ (gone : IdSet) (rs before : List LogRecord) (r : LogRecord) (is : rs ≡ before ++ r ∷ []) where
  -- a mark
  pub back_purged : (ids all : IdSet) → ((id : ℕ) → has all id ≡ (has gone id || has ids id)) → r ≡ Purged ids → still all before ≡ still gone rs
  back_purged ids all union mark =
      ap reverse
      (kept_twice gone ids all union (live before) ∙ ap (kept gone) (sym (ap live (is ∙ ap (λ r. before ++ r ∷ []) mark) ∙ live_purged before ids)))

  -- an entry, which the marks behind take or leave
  module _ (e : Entry) (id : ℕ) (of : id ≡ entry_id e) (noted : r ≡ Noted e) where
    parted : kept gone (live rs) ≡ kept gone (live before) ++ cond (not (has gone id)) (e ∷ []) []
    parted =
        ap (kept gone) (ap live (is ∙ ap (λ r. before ++ r ∷ []) noted) ∙ live_noted before e)
        ∙ filter-append (stays gone) (live before) (e ∷ [])
        ∙ ap (λ i. kept gone (live before) ++ cond (not (has gone i)) (e ∷ []) []) (sym of)

    pub back_taken : true ≡ has gone id → still gone before ≡ still gone rs
    back_taken h = ap reverse (sym (parted ∙ ap (λ b. kept gone (live before) ++ cond (not b) (e ∷ []) []) (sym h) ∙ append-nil (kept gone (live before))))

    pub back_noted : false ≡ has gone id → still gone rs ≡ e ∷ still gone before
    back_noted h =
        ap reverse (parted ∙ ap (λ b. kept gone (live before) ++ cond (not b) (e ∷ []) []) (sym h)) ∙ reverse-append (kept gone (live before)) (e ∷ [])

-- the places of a list, from its last item back
pub nth_reversed : (es : List Entry) (p n : ℕ) → p + n + 1 ≡ length es → slice_get (reverse es) n ≡ slice_get es p
nth_reversed [] p n h = absurd (omega arith)
nth_reversed (e ∷ es) p n h =
    let all = e ∷ es in
    let long = length-reverse all in
    slice_get-get_or (reverse all) n e (omega (arith, h, long))
    ∙ ap Some (get_or-reverse all n e (omega (arith, h)) ∙ (let at : length all - 1 - n ≡ p = omega (arith, h) in ap (λ k. get_or all k e) at))
    ∙ sym (slice_get-get_or all p e (omega (arith, h)))

-- where the last entry of a kind and a node stands, by how many are behind it
module _ (kind : EntryKind) (id : ℕ) {F : Type 0} (g : Mut F (Entry × Unit {0}) Bool) (f : F)
    (says : (x : Entry) (b : Bool) (q : F) → Called g f (x, tt) b q → (q ≡ f) × (b ≡ is_of kind id x)) where
  -- what that says of its place in a list
  abbrev pub Counted : List Entry → Option ℕ → Type 0
  Counted es o = MatchOption o (last_place kind id es ≡ None) (λ n. last_place kind id es ≡ Some (length es - 1 - n))

  pub last_counted : (s u : LatestFirst) (es : List Entry) (r o : Option ℕ) → latest s ≡ reverse es → FindsPosition (YieldsFirst latest) g s f r u → r ≡ o
      → Counted es o
  last_counted s u es r o is ran told =
      subst (Counted es) told
      (go ran.0 ran.1 ran.2
      (found_from_end kind id (YieldsFirst latest) (λ e. e) (λ s. reverse (latest s)) (λ s t e. ap reverse e.0) (λ s t x e. ap reverse e ∙ reverse-append (x ∷ []) (latest t)) g f says ran.0 ran.1 ran.2 s u ran.3 ran.4)
      ran.5)
    where
      same : reverse (latest s) ≡ es
      same = ap reverse is ∙ reverse-reverse es

      go : (xs : List Entry) (x : Option Entry) (j : F)
          → Found kind id (YieldsFirst latest) (λ e. e) (λ s. reverse (latest s)) (λ s t e. ap reverse e.0) (λ s t x e. ap reverse e ∙ reverse-append (x ∷ []) (latest t)) g f says s xs x j
          → MatchOption x (r ≡ None) (λ x. (r ≡ Some (length xs)) × ((h : F) × Called g j (x, tt) true h)) → Counted es r
      go xs None j none e = subst (Counted es) (sym e) (ap (last_place kind id) (sym same) ∙ none)
      go xs (Some x) j found e =
          let n = found e.1.0 e.1.1 in
          let at : n.0 ≡ length es - 1 - length xs = omega (arith, n.2, ap length same) in
          subst (Counted es) (sym e.0) (ap (last_place kind id) (sym same) ∙ n.1 ∙ ap Some at)
