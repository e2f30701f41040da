-- In a row of at most 128 elements the stack has room for every block. Assumes nothing.
use Rattle.std.proofs.Common.{◌≡◌, ℕ, ◌+◌, ◌<◌, ◌≤◌, List, [], ◌∷◌, length, refl, ap, ◌∙◌, arith}
use Rattle.std.proofs.lemmas.Bool.{lt-ltb}
use Rattle.ids.specs.declared.IdSet.{IdSet}
use Rattle.ids.specs.Sets.{empty}
use Rattle.model.specs.declared.Element.{Element}
use Rattle.stack.specs.declared.moves.Move.{Move}
use Rattle.stack.specs.declared.moves.Move.TheVariants.{Stay, Open, Turn, Close}
use Rattle.stack.specs.Items.{head, tail, pushed}
use Rattle.stack.specs.Moves.{reached, blocks_after, followed}
use Rattle.followers.specs.declared.blocks.Block.{Block}
use Rattle.followers.specs.Backwards.{Gap, gap, moves, step, passed}

-- The pass with a stack that is never full.
abbrev pub free_moved : Move IdSet Block → List Block → Gap
free_moved m bs = gap (reached m) (blocks_after m bs)

abbrev pub free_step : Element → Gap → Gap
free_step x p = free_moved (moves x p.here (head p.around)) p.around

abbrev pub free_passed : List Element → Gap
free_passed [] = gap empty []
free_passed (x ∷ xs) = free_step x (free_passed xs)

pushed_low : (b : Block) (bs : List Block) → length bs < 128 → pushed b bs ≡ b ∷ bs
pushed_low b bs h = rw (lt-ltb (length bs) 128 h)

tail_low : (bs : List Block) → length bs < 128 → length (tail bs) < 128
tail_low [] h = h
tail_low (b ∷ bs) h = omega arith

tail_fewer : (bs : List Block) (n : ℕ) → length bs ≤ n → length (tail bs) ≤ n
tail_fewer [] n h = h
tail_fewer (b ∷ bs) n h = omega arith

followed_low : (m : Move IdSet Block) (bs : List Block) → length bs < 128 → followed m bs ≡ blocks_after m bs
followed_low (Stay s) bs h = refl
followed_low (Open s b) bs h = pushed_low b bs h
followed_low (Turn s b) bs h = pushed_low b (tail bs) (tail_low bs h)
followed_low (Close s) bs h = refl

after_few : (m : Move IdSet Block) (bs : List Block) (n : ℕ) → length bs ≤ n → length (blocks_after m bs) ≤ n + 1
after_few (Stay s) bs n h = omega arith
after_few (Open s b) bs n h = omega arith
after_few (Turn s b) bs n h = let k = tail_fewer bs n h in omega arith
after_few (Close s) bs n h = let k = tail_fewer bs n h in omega arith

-- Each element opens one block at most.
free_few : (xs : List Element) → length (free_passed xs).around ≤ length xs
free_few [] = omega arith
free_few (x ∷ xs) =
    let p = free_passed xs in
    let h = after_few (moves x p.here (head p.around)) p.around (length xs) (free_few xs) in
    omega arith

pub passed_free : (xs : List Element) → length xs ≤ 128 → passed xs ≡ free_passed xs
passed_free [] h = refl
passed_free (x ∷ xs) h =
    let p = free_passed xs in
    let m = moves x p.here (head p.around) in
    let few = free_few xs in
    ap (step x) (passed_free xs (omega arith)) ∙ ap (gap (reached m)) (followed_low m p.around (omega arith))
