-- What the pass from a row's end has noted so far. Assumes nothing.
use Rattle.std.proofs.Common.{◌≡◌, ℕ, ◌<◌, ◌≤◌, ◌⊎◌, inl, inr, List, [], ◌∷◌, ◌++◌, length, drop, get_or, set, replicate, refl, sym, ap, ◌∙◌, arith, length-set}
use Rattle.std.proofs.lemmas.Bool.{cases_eq}
use Rattle.std.proofs.lemmas.List.{append_assoc, append-nil, length-append, length-replicate, drop_all, drop_at, get_or-set_same, get_or-set_other}
use Rattle.bounded.proofs.Replicas.{get_or-replicate_default}
use Rattle.ids.specs.declared.IdSet.{IdSet}
use Rattle.ids.specs.Sets.{empty}
use Rattle.model.specs.declared.Element.{Element}
use Rattle.followers.specs.Backwards.{Gap, gap, step, passed, followers}

-- Of the row the elements `rest` are left to read. The pass is at the gap behind them, and the sets of that gap and of
-- all later ones are noted.
pub record Noted (xs rest : List Element) (p : Gap) (sets : List IdSet) : Type 0 where
  pub behind : List Element
  pub parted : xs ≡ rest ++ behind
  pub reached : passed behind ≡ p
  pub long : length sets ≡ 129
  pub each : (g : ℕ) → length rest ≤ g → get_or sets g empty ≡ followers (drop g xs)

pub noted_none : (xs : List Element) → Noted xs xs (gap empty []) (replicate 129 empty)
noted_none xs = record {
  behind = [];
  parted = sym (append-nil xs);
  reached = refl;
  long = length-replicate 129 empty;
  each = λ g h. get_or-replicate_default 129 g empty ∙ ap followers (sym (drop_all g xs h));
}

-- One element more is read: the set of the gap before it is noted.
pub noted_more : (xs rest : List Element) (x : Element) (p q : Gap) (sets : List IdSet) → length xs ≤ 128 → q ≡ step x p
    → Noted xs (rest ++ x ∷ []) p sets → Noted xs rest q (set sets (length rest) q.here)
noted_more xs rest x p q sets few e n =
    let parted : xs ≡ rest ++ x ∷ n.behind = n.parted ∙ append_assoc rest (x ∷ []) n.behind in
    let reached : passed (x ∷ n.behind) ≡ q = ap (step x) n.reached ∙ sym e in
    record {
      behind = x ∷ n.behind;
      parted = parted;
      reached = reached;
      long = length-set sets (length rest) q.here ∙ n.long;
      each = λ g h. go parted reached g h (cases_eq g (length rest));
    }
  where
    go : xs ≡ rest ++ x ∷ n.behind → passed (x ∷ n.behind) ≡ q → (g : ℕ) → length rest ≤ g → (g ≡ length rest) ⊎ (g ≡ length rest → ⊥)
        → get_or (set sets (length rest) q.here) g empty ≡ followers (drop g xs)
    go parted reached g h (inl same) =
        let room : length rest < length sets = omega (arith, n.long, few, ap length parted, length-append rest (x ∷ n.behind)) in
        ap (λ k. get_or (set sets (length rest) q.here) k empty) same
        ∙ get_or-set_same sets (length rest) q.here empty room
        ∙ ap (λ r. r.here) (sym reached)
        ∙ ap followers (sym (drop_at rest (x ∷ n.behind) g (sym same)) ∙ ap (drop g) (sym parted))
    go parted reached g h (inr other) =
        get_or-set_other sets (length rest) g q.here empty other
        ∙ n.each g (omega (arith, h, other, length-append rest (x ∷ [])))
