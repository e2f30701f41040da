-- How long rows and lists of edges are after a change. Assumes nothing.
use Rattle.std.proofs.Common.{◌≡◌, ℕ, ◌+◌, ◌≤◌, Bool, true, false, cond, ◌&&◌, leb, ltb, not, List, [], ◌∷◌, ◌++◌, length, sym, ap, ◌∙◌, arith, length-append}
use Rattle.std.proofs.lemmas.Bool.{le-leb, and_from}
use Rattle.std.proofs.lemmas.Bool.Decides.{nat_tests}
use Rattle.std.specs.List.{filter}
use Rattle.model.specs.declared.Edge.{Edge}
use Rattle.model.specs.declared.Element.{Element}
use Rattle.edges.specs.Edges.{same}
use Rattle.changes.specs.declared.Change.{Change}
use Rattle.changes.specs.declared.Change.TheVariants.{DropEdge, Delete, Insert, InsertBeside, AddEdge}
use Rattle.changes.specs.Effects.{is_activity, touches, row_after, edges_after}
use Rattle.draft_rules.specs.Rules.{adds}

-- a filter keeps no more than there is
pub filter_short : {X : Type 0} (p : X → Bool) (xs : List X) → length (filter p xs) ≤ length xs
filter_short p [] = omega arith
filter_short p (x ∷ xs) = go (p x) (filter_short p xs)
  where
    go : (b : Bool) → length (filter p xs) ≤ length xs → length (cond b (x ∷ filter p xs) (filter p xs)) ≤ length (x ∷ xs)
    go true h = omega arith
    go false h = omega arith

-- so a change that takes something out has room
pub room_to_take : (c : Change) (xs : List Element) (es : List Edge) → length xs ≤ 128 → length es ≤ 32 → adds c ≡ false
    → true ≡ (leb (length (row_after c xs)) 128 && leb (length (edges_after c es)) 32)
room_to_take (DropEdge e) xs es few few_edges h =
    let s = filter_short (λ f. not (same f e)) es in
    let fit : length (filter (λ f. not (same f e)) es) ≤ 32 = omega arith in
    sym (and_from _ _ (le-leb _ _ few) (le-leb _ _ fit))
room_to_take (Delete a) xs es few few_edges h =
    let s = filter_short (λ x. not (is_activity x a)) xs in
    let t = filter_short (λ e. not (touches a e)) es in
    let fit : length (filter (λ x. not (is_activity x a)) xs) ≤ 128 = omega arith in
    let fit_edges : length (filter (λ e. not (touches a e)) es) ≤ 32 = omega arith in
    sym (and_from _ _ (le-leb _ _ fit) (le-leb _ _ fit_edges))
room_to_take (Insert a g) xs es few few_edges h = absurd cc
room_to_take (InsertBeside a b c) xs es few few_edges h = absurd cc
room_to_take (AddEdge e) xs es few few_edges h = absurd cc

-- an edge more has room beside fewer than 32
pub room_for_edge : (e : Edge) (xs : List Element) (es : List Edge) → length xs ≤ 128
    → ltb (length es) 32 ≡ (leb (length xs) 128 && leb (length (es ++ e ∷ [])) 32)
room_for_edge e xs es few = sym (ap (λ b. b && leb (length (es ++ e ∷ [])) 32) (le-leb _ _ few) ∙ ap (λ n. leb n 32) (length-append es (e ∷ [])) ∙ more (length es))
  where
    more : (n : ℕ) → leb (n + 1) 32 ≡ ltb n 32
    more n = grind (arith, nat_tests)
