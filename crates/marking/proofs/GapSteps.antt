-- The pass writes the signal of one gap more, and of the last. Assumes nothing.
use Rattle.std.proofs.Common.{◌≡◌, ℕ, ◌+◌, ◌<◌, List, [], ◌∷◌, ◌++◌, length, get_or, take, drop, set, sym, ap, ◌∙◌, append_assoc, arith}
use Rattle.std.proofs.lemmas.List.{drop_more, drop_all, take_more_set}
use Rattle.model.specs.declared.Element.{Element}
use Rattle.model.specs.declared.Fact.{Fact}
use Rattle.model.specs.declared.Signal.{Signal}
use Rattle.marking.specs.Machine.{Gap, signals, step}

module _ (fs : List Fact) (xs : List Element) (gs : List Signal) (i : ℕ) (st : Gap) where
  pub gap_more : (d : Element) (next : Gap) → i < length xs → i < length gs → next ≡ step fs (get_or xs i d) st
      → take i gs ++ signals fs st (drop i xs) ≡ take (i + 1) (set gs i st.signal) ++ signals fs next (drop (i + 1) xs)
  gap_more d next h room e =
      ap (λ ys. take i gs ++ signals fs st ys) (drop_more xs i d h)
      ∙ ap (λ n. take i gs ++ (st.signal ∷ signals fs n (drop (i + 1) xs))) (sym e)
      ∙ sym (append_assoc (take i gs) (st.signal ∷ []) (signals fs next (drop (i + 1) xs)))
      ∙ ap (λ ys. ys ++ signals fs next (drop (i + 1) xs)) (sym (take_more_set gs i st.signal room))

  pub gap_last : i ≡ length xs → i < length gs
      → take i gs ++ signals fs st (drop i xs) ≡ take (length xs + 1) (set gs (length xs) st.signal)
  gap_last e room =
      ap (λ ys. take i gs ++ signals fs st ys) (drop_all i xs (omega arith))
      ∙ sym (take_more_set gs i st.signal room)
      ∙ ap (λ n. take (n + 1) (set gs n st.signal)) e
