-- Who is in the sets that the pass keeps at a gap. Assumes nothing.
use Rattle.std.proofs.Common.{◌≡◌, ℕ, ◌<◌, Bool, true, false, cond, ◌⊎◌, Decides, refl, inl, inr, arith}
use Rattle.ids.specs.declared.IdSet.{IdSet}
use Rattle.ids.specs.Sets.{has, only, empty, union, intersection}
use Rattle.std.proofs.lemmas.Bool.Decides.{Decides-eqb, Decides-and, Decides-or, Decides-at, Decides-like}
use Rattle.model.specs.Trees.{Seq, nil, cons, Item, activity, loop, and, xor, Branches, last, bar}
use Rattle.edges.specs.declared.places.Spot.{Spot}
use Rattle.edges.specs.Places.{past_node, enter, enter_loop, turn}
use Rattle.model.specs.Relations.{In, InItem, InBranches, Level, LevelItem, LevelBranches}
use Rattle.ids.proofs.Laws as laws
use Rattle.edges.proofs.TreeGaps.{after, after_item, after_branches}

abbrev pub Has : IdSet → (ℕ → Type 0) → Type 0
Has a P = (u : ℕ) → Decides (has a u) (P u)

pub has_union : (a b : IdSet) (P Q : ℕ → Type 0) → Has a P → Has b Q → Has (union a b) (λ u. P u ⊎ Q u)
has_union a b P Q p q u = Decides-at _ _ (laws.has_union a b u) (Decides-or _ _ (p u) (q u))

pub has_both : (a b : IdSet) (P Q : ℕ → Type 0) → Has a P → Has b Q → Has (intersection a b) (λ u. P u × Q u)
has_both a b P Q p q u = Decides-at _ _ (laws.has_intersection a b u) (Decides-and _ _ (p u) (q u))

pub has_one : (i : ℕ) → i < 64 → Has (only i) (λ u. u ≡ i)
has_one i h u = Decides-at _ _ (laws.has_only i u h) (Decides-eqb u i)

never : (b : Bool) → b ≡ false → b ≡ true → ⊥
never b p q = cc

pub has_nothing : Has empty (λ u. ⊥)
has_nothing u = (never (has empty u) (laws.has_empty u), λ h. elim h [ ])

pub has_like : (a : IdSet) (P Q : ℕ → Type 0) → ((u : ℕ) → P u → Q u) → ((u : ℕ) → Q u → P u) → Has a P → Has a Q
has_like a P Q f g h u = Decides-like _ (f u) (g u) (h u)

module _ (A S B M : ℕ → Type 0) where
  pub record Means (s : Spot) : Type 0 where
    pub ahead : Has s.ahead A
    pub seen : Has s.seen S
    pub beside : Has s.beside B
    pub mates : Has s.mates M

infixr 30 ◌∪◌
abbrev pub ◌∪◌ : (ℕ → Type 0) → (ℕ → Type 0) → ℕ → Type 0
◌∪◌ P Q u = P u ⊎ Q u

abbrev pub None : ℕ → Type 0
None u = ⊥

-- what stands beside the next branch
abbrev pub Turned : Bool → (ℕ → Type 0) → (ℕ → Type 0) → ℕ → Type 0
Turned true B S u = B u ⊎ S u
Turned false B S u = B u

abbrev pub Small : (ℕ → Type 0) → Type 0
Small P = (u : ℕ) → P u → u < 64

pub enters : (A S B M : ℕ → Type 0) (s : Spot) → Means A S B M s → Means (A ∪ S) None B M (enter s)
enters A S B M s m = record { ahead = has_union _ _ A S m.ahead m.seen; seen = has_nothing; beside = m.beside; mates = m.mates }

pub enters_loop : (A S B M : ℕ → Type 0) (s : Spot) → Means A S B M s → Means A S B None (enter_loop s)
enters_loop A S B M s m = record { ahead = m.ahead; seen = m.seen; beside = m.beside; mates = has_nothing }

pub passes_node : (A S B M : ℕ → Type 0) (s : Spot) (i : ℕ) → i < 64 → Means A S B M s → Means A (S ∪ (λ u. u ≡ i)) B M (past_node i s)
passes_node A S B M s i h m = record { ahead = m.ahead; seen = has_union _ _ S (λ u. u ≡ i) m.seen (has_one i h); beside = m.beside; mates = m.mates }

turned : (p : Bool) (B S : ℕ → Type 0) (b s : IdSet) → Has b B → Has s S → Has (cond p (union b s) b) (Turned p B S)
turned true B S b s h k = has_union b s B S h k
turned false B S b s h k = h

pub turns : (p : Bool) (A S B M : ℕ → Type 0) (s : Spot) → Means A S B M s → Means A None (Turned p B S) M (turn p s)
turns p A S B M s m = record { ahead = m.ahead; seen = has_nothing; beside = turned p B S _ _ m.beside m.seen; mates = m.mates }

mutual
  pub means : (t : Seq) (A S B M : ℕ → Type 0) (s : Spot) → Small (In t) → Means A S B M s → Means A (S ∪ In t) B (M ∪ Level t) (after t s)
  means nil A S B M s small m = record { ahead = m.ahead; seen = has_like _ _ _ (λ u. inl) (λ u a. grind arith) m.seen; beside = m.beside; mates = has_like _ _ _ (λ u. inl) (λ u a. grind arith) m.mates }
  means (cons x t) A S B M s small m =
      let n = means t A (S ∪ InItem x) B (M ∪ LevelItem x) (after_item x s) (λ u h. small u (inr h)) (means_item x A S B M s (λ u h. small u (inl h)) m) in
      record {
        ahead = n.ahead;
        seen = has_like _ _ _ (λ u a. grind arith) (λ u a. grind arith) n.seen;
        beside = n.beside;
        mates = has_like _ _ _ (λ u a. grind arith) (λ u a. grind arith) n.mates;
      }

  pub means_item : (x : Item) (A S B M : ℕ → Type 0) (s : Spot) → Small (InItem x) → Means A S B M s → Means A (S ∪ InItem x) B (M ∪ LevelItem x) (after_item x s)
  means_item (activity i) A S B M s small m =
      let one = has_one i (small i refl) in
      record { ahead = m.ahead; seen = has_union _ _ S (λ u. u ≡ i) m.seen one; beside = m.beside; mates = has_union _ _ M (λ u. u ≡ i) m.mates one }
  means_item (loop t i) A S B M s small m =
      let n = means t A S B None (enter_loop s) (λ u h. small u (inl h)) (enters_loop A S B M s m) in
      record {
        ahead = n.ahead;
        seen = has_like _ _ _ (λ u a. grind arith) (λ u a. grind arith) (has_union _ _ (S ∪ In t) (λ u. u ≡ i) n.seen (has_one i (small i (inr refl))));
        beside = n.beside;
        mates = has_like _ _ _ (λ u. inl) (λ u a. grind arith) m.mates;
      }
  means_item (and b) A S B M s small m =
      let n = means_branches true b A S B M (A ∪ S) None B None M s empty (enter s) small m has_nothing (enters A S B M s m) in
      record { ahead = n.ahead; seen = has_like _ _ _ (λ u a. grind arith) (λ u a. grind arith) n.seen; beside = n.beside; mates = n.mates }
  means_item (xor i b) A S B M s small m =
      let k = passes_node A S B M s i (small i (inl refl)) m in
      let n = means_branches false b A (S ∪ (λ u. u ≡ i)) B M (A ∪ (S ∪ (λ u. u ≡ i))) None B None M (past_node i s) empty (enter (past_node i s)) (λ u h. small u (inr h)) k has_nothing (enters A (S ∪ (λ u. u ≡ i)) B M (past_node i s) k) in
      record { ahead = n.ahead; seen = has_like _ _ _ (λ u a. grind arith) (λ u a. grind arith) n.seen; beside = n.beside; mates = n.mates }

  means_branches : (p : Bool) (b : Branches) (A S B M₀ A' S' B' G M : ℕ → Type 0) (o : Spot) (g : IdSet) (s : Spot) → Small (InBranches b)
      → Means A S B M₀ o → Has g G → Means A' S' B' M s
      → Means A (S ∪ (G ∪ (S' ∪ InBranches b))) B (M ∪ LevelBranches b) (after_branches p b o g s)
  means_branches p (last t) A S B M₀ A' S' B' G M o g s small mo mg ms =
      let n = means t A' S' B' M s small ms in
      record {
        ahead = mo.ahead;
        seen = has_union _ _ S (G ∪ (S' ∪ In t)) mo.seen (has_union _ _ G (S' ∪ In t) mg n.seen);
        beside = mo.beside;
        mates = n.mates;
      }
  means_branches p (bar t b) A S B M₀ A' S' B' G M o g s small mo mg ms =
      let n = means t A' S' B' M s (λ u h. small u (inl h)) ms in
      let r = means_branches p b A S B M₀ A' None (Turned p B' (S' ∪ In t)) (G ∪ (S' ∪ In t)) (M ∪ Level t) o (union g (after t s).seen) (turn p (after t s)) (λ u h. small u (inr h))
      mo (has_union _ _ G (S' ∪ In t) mg n.seen) (turns p A' (S' ∪ In t) B' (M ∪ Level t) (after t s) n) in
      record {
        ahead = r.ahead;
        seen = has_like _ _ _ (λ u a. grind arith) (λ u a. grind arith) r.seen;
        beside = r.beside;
        mates = has_like _ _ _ (λ u a. grind arith) (λ u a. grind arith) r.mates;
      }
