-- Bytes parted into pieces of one size, and a list that is read from pieces.
use Rattle.std.proofs.Common.{◌≡◌, ℕ, zero, suc, ◌*◌, ◌/◌, ◌<◌, ◌≤◌, List, [], map, length, get_or, take, drop, sym, refl, ap, ◌∙◌, arith}
use Rattle.std.specs.List.{All}
use Rattle.std.specs.Simd.{first_chunks}
use Rattle.std.proofs.Math.Nat.{mul-div_cancel_left}
use Rattle.std.proofs.lemmas.List.{get_or-map, length-map, length-drop, length-take-le}
use Rattle.std.proofs.lemmas.List.Elements.{All-nil, All-cons}

-- the pieces of n bytes; a rest of fewer is dropped
abbrev pub pieces : ℕ → List ℕ → List (List ℕ)
pieces n bs = first_chunks n (length bs / n) bs

length_chunks : (n k : ℕ) (bs : List ℕ) → length (first_chunks n k bs) ≡ k
length_chunks n zero bs = refl
length_chunks n (suc k) bs = ap suc (length_chunks n k (drop n bs))

-- each piece has all its bytes
pub pieces_whole : (n k : ℕ) (bs : List ℕ) → k * n ≤ length bs → All (λ piece. length piece ≡ n) (first_chunks n k bs)
pieces_whole n zero bs h = All-nil _
pieces_whole n (suc k) bs h =
    All-cons (λ piece. length piece ≡ n) (take n bs) (first_chunks n k (drop n bs)) (length-take-le n bs (omega arith))
    (pieces_whole n k (drop n bs) (omega (arith, length-drop n bs)))

-- whole pieces are as many as the items read from them
pub items_count : {X : Type 0} (n : ℕ) → 0 < n → (f : List ℕ → X) (bs : List ℕ) (xs : List X) → xs ≡ map f (pieces n bs) → (m : ℕ) → length bs ≡ n * m → length xs ≡ m
items_count n some f bs xs is m h =
    ap length is ∙ length-map (pieces n bs) f ∙ length_chunks n (length bs / n) bs ∙ ap (λ l. l / n) h ∙ mul-div_cancel_left m some

module _ {X : Type 0} (f : List ℕ → X) (ps : List (List ℕ)) (xs : List X) (is : map f ps ≡ xs) where
  -- an item for each piece
  pub items_long : length ps ≡ length xs
  items_long = sym (length-map ps f) ∙ ap length is

  -- where a piece is there is an item, and it is read from that piece
  pub item_at : (i : ℕ) (d : X) → i < length ps → (i < length xs) × (f (get_or ps i []) ≡ get_or xs i d)
  item_at i d within = (omega (arith, items_long), sym (get_or-map f ps i [] d within) ∙ ap (λ ys. get_or ys i d) is)
