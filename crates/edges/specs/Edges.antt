-- The first sync edge that breaks a rule, by sets of ids. Assumes nothing.
--   partners    for each id the earlier activities that a sync edge may join it with
--   back        for each id the nodes from which it is reached
use Rattle.std.specs.List.{list_any}
use Rattle.std.specs.Prelude.{ℕ, ◌+◌, Bool, cond, not, ◌&&◌, ◌||◌, List, [], ◌∷◌, ◌++◌, map, Ok, Err, Result, ◌==◌, slice_index_or, slice_set}
use Rattle.ids.specs.declared.IdSet.{IdSet}
use Rattle.ids.specs.Sets.{has, only, empty, union}
use Rattle.model.specs.declared.Edge.{Edge}

-- Whether u is in the set that belongs to v.
abbrev pub within : List IdSet → ℕ → ℕ → Bool
within sets u v = has (slice_index_or sets v empty) u

abbrev pub same : Edge → Edge → Bool
same d e = d.source == e.source && d.target == e.target

abbrev pub listed : List Edge → Edge → Bool
listed ds e = list_any (λ d. same d e) ds

-- Either end may be the later one in the row.
abbrev pub joined : List IdSet → Edge → Bool
joined partners e = within partners e.source e.target || within partners e.target e.source

-- An edge after others: its ends may be joined, it is not listed, and its target does not lead to its source.
abbrev pub proper : List IdSet → List IdSet → List Edge → Edge → Bool
proper partners back earlier e = joined partners e && not (listed earlier e) && not (within back e.target e.source)

abbrev pub grown : ℕ → IdSet → IdSet → IdSet
grown id gain s = cond (has s id) (union s gain) s

-- An edge's source, with all from which that is reached.
abbrev pub gain_of : List IdSet → Edge → IdSet
gain_of back e = union (slice_index_or back e.source empty) (only e.source)

-- The sets of those from which each node is reached, with one edge more.
abbrev pub connected : List IdSet → Edge → List IdSet
connected back e = map (grown e.target (gain_of back e)) (slice_set back e.target (union (slice_index_or back e.target empty) (gain_of back e)))

-- The place of the first edge that is not proper, and its source.
abbrev pub judged : List IdSet → List IdSet → List Edge → ℕ → List Edge → Result (Unit {0}) (ℕ × ℕ)
judged partners back earlier p [] = Ok tt
judged partners back earlier p (e ∷ es) =
    cond (proper partners back earlier e) (judged partners (connected back e) (earlier ++ e ∷ []) (p + 1) es) (Err (p, e.source))

-- The sets with all these edges more.
abbrev pub closed : List IdSet → List Edge → List IdSet
closed back [] = back
closed back (e ∷ es) = closed (connected back e) es
