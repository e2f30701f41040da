-- The pass goes one element further. Assumes nothing.
use Rattle.std.proofs.Common.{◌≡◌, ℕ, ◌+◌, ◌<◌, Bool, List, length, get_or, drop, sym, ap, ◌∙◌}
use Rattle.std.proofs.lemmas.List.{at_drop_more}
use Rattle.model.specs.declared.Element.{Element}
use Rattle.ids.specs.declared.IdSet.{IdSet}
use Rattle.edges.specs.declared.places.Spot.{Spot}
use Rattle.edges.specs.Places.{State, note, noted, step}

pub noted_more : (f : Bool → Spot → IdSet) (sets next : List IdSet) (st to : State) (xs : List Element) (i : ℕ) (d : Element)
    → i < length xs → next ≡ note f (get_or xs i d) st.here sets → to ≡ step (get_or xs i d) st
    → noted f sets st (drop i xs) ≡ noted f next to (drop (i + 1) xs)
noted_more f sets next st to xs i d h e s =
    at_drop_more (noted f sets st) xs i d h
    ∙ ap (λ n. noted f n (step (get_or xs i d) st) (drop (i + 1) xs)) (sym e)
    ∙ ap (λ t. noted f next t (drop (i + 1) xs)) (sym s)
