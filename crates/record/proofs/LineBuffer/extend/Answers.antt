use Rattle.std.proofs.Common.{arith, ◌≡◌, ℕ, ◌-◌, List, ◌++◌, length, take, ap, ◌∙◌}
use Rattle.std.specs.List.{fold}
use Rattle.std.proofs.lemmas.List.{length-take-le}
use Rattle.std.proofs.lemmas.Slice.{take-put_mid}
use Rattle.record.specs.Lines.{HeldLine, held_of, pushed}
use Rattle.record.proofs.Lengthening.{extended, fold_grows}
use Rattle.record.proofs.LineBuffer.extend.Goals as goal

pub returns : goal.returns
returns c =
    let n = c.self.inside.len in
    let held : List ℕ = take n c.self.inside.chars in
    let cs : List ℕ = c.args.characters.now in
    let kept : length held ≡ n = length-take-le n c.self.inside.chars (omega (arith, c.self.invariant.0, c.self.invariant.1)) in
    let part : length c.copy_from_slice.new.self ≡ length (take c.min.result cs) = ap length c.copy_from_slice.ensures.after in
    let is =
    ap held_of (take-put_mid n _ c.self.inside.chars c.copy_from_slice.new.self _ (omega (arith, part)) (omega (arith, c.self.invariant.0, c.self.invariant.1)))
    ∙ ap (λ (ys : List ℕ). held_of (held ++ ys)) (c.copy_from_slice.ensures.after ∙ ap (λ (m : ℕ). take m cs) c.min.ensures)
    ∙ extended held cs (1025 - n) (omega (arith, kept, c.self.invariant.0))
    ∙ ap (λ (h : HeldLine). fold pushed h cs) c.self.view_is in
    record { value = is; grows = fold_grows _ _ cs is }
