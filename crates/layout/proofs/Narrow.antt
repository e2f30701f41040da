-- Bounds of the numbers of a pass. Assumes nothing.
use Rattle.std.proofs.Common.{ℕ, ◌+◌, ◌≤◌, List, [], ◌∷◌, length, Some, Option, arith}
use Rattle.model.specs.declared.Element.{Element}
use Rattle.model.specs.declared.Element.TheVariants.{Activity, AndSplit, Bar, AndJoin, XorSplit, XorJoin, LoopStart, LoopEnd}
use Rattle.layout.specs.declared.Position.{Position}
use Rattle.stack.specs.Items.{head}
use Rattle.stack.specs.Moves.{reached, blocks_after}
use Rattle.layout.specs.Pass.{moves, turned}

-- Branches and blocks are no more than the elements that were read.
abbrev Bounded : ℕ → Position → Type 0
Bounded n h = (h.branch ≤ n) × (h.depth ≤ n)

abbrev AllBounded : ℕ → List Position → Type 0
AllBounded n [] = Unit {0}
AllBounded n (h ∷ hs) = Bounded n h × AllBounded n hs

pub record Narrow (n : ℕ) (h : Position) (os : List Position) : Type 0 where
  pub few : length os ≤ n
  pub here : Bounded n h
  pub outer : AllBounded n os

all_wider : (n : ℕ) (hs : List Position) → AllBounded n hs → AllBounded (n + 1) hs
all_wider n [] b = tt
all_wider n (h ∷ hs) b = ((omega (arith, b.0.0), omega (arith, b.0.1)), all_wider n hs b.1)

wider : (n : ℕ) (h : Position) (os : List Position) → Narrow n h os → Narrow (n + 1) h os
wider n h os w = record {
  few = omega (arith, w.few);
  here = (omega (arith, w.here.0), omega (arith, w.here.1));
  outer = all_wider n os w.outer;
}

inner : (n p : ℕ) (l : Option ℕ) (h : Position) (os : List Position) → Narrow n h os
    → Narrow (n + 1) (record { block = Some p; loop_start = l; branch = 0; depth = h.depth + 1 }) (h ∷ os)
inner n p l h os w = record {
  few = omega (arith, w.few);
  here = (omega arith, omega (arith, w.here.1));
  outer = ((wider n h os w).here, all_wider n os w.outer);
}

bar : (n : ℕ) (h : Position) (os : List Position) → Narrow n h os → Narrow (n + 1) (turned h) os
bar n h os w = record {
  few = omega (arith, w.few);
  here = (omega (arith, w.here.0), omega (arith, w.here.1));
  outer = all_wider n os w.outer;
}

left : (n : ℕ) (h o : Position) (os : List Position) → Narrow n h (o ∷ os) → Narrow (n + 1) o os
left n h o os w = record {
  few = omega (arith, w.few);
  here = (omega (arith, w.outer.0.0), omega (arith, w.outer.0.1));
  outer = all_wider n os w.outer.1;
}

-- past an element
pub step_narrow : (x : Element) (p n : ℕ) (h : Position) (os : List Position) → Narrow n h os
    → Narrow (n + 1) (reached (moves x p h (head os))) (blocks_after (moves x p h (head os)) os)
step_narrow (Activity i) p n h os w = wider n h os w
step_narrow AndSplit p n h os w = inner n p h.loop_start h os w
step_narrow Bar p n h [] w = wider n h [] w
step_narrow Bar p n h (o ∷ os) w = bar n h (o ∷ os) w
step_narrow AndJoin p n h [] w = wider n h [] w
step_narrow AndJoin p n h (o ∷ os) w = left n h o os w
step_narrow (XorSplit i) p n h os w = inner n p h.loop_start h os w
step_narrow XorJoin p n h [] w = wider n h [] w
step_narrow XorJoin p n h (o ∷ os) w = left n h o os w
step_narrow LoopStart p n h os w = inner n p (Some p) h os w
step_narrow (LoopEnd i) p n h [] w = wider n h [] w
step_narrow (LoopEnd i) p n h (o ∷ os) w = left n h o os w
