-- The tables of a tree's row find the body of each of its loops. Assumes nothing.
use Rattle.std.proofs.Common.{◌≡◌, ℕ, ◌+◌, ◌-◌, ◌<◌, ◌≤◌, cond, List, [], ◌∷◌, ◌++◌, length, get_or, take, drop, Some, None, sym, refl, ap, ◌∙◌, subst, arith}
use Rattle.std.proofs.lemmas.List.{append_assoc, length-append, take_at, drop_at}
use Rattle.std.proofs.lemmas.Bool.{lt-ltb}
use Rattle.model.specs.declared.Element.{Element}
use Rattle.model.specs.declared.Element.TheVariants.{LoopStart, LoopEnd}
use Rattle.model.specs.Rows.{Unique, Low}
use Rattle.model.specs.Trees.{Seq, loop, last, spell, flatten}
use Rattle.model.specs.Nodes.{Holds}
use Rattle.layout.specs.Pass.{outside, tables_of}
use Rattle.layout.specs.Gaps.{Closes, Ended, Ends}
use Rattle.layout.proofs.Facts.{spell_append, within_ended, one_end}
use Rattle.layout.proofs.Items.{Spelt, spelt}
use Rattle.layout.proofs.Laid.{tables_laid}
use Rattle.schema.specs.Checks.{SchemaParts, Admitted}
use Rattle.schema.proofs.Checked.{checked_fine}
use Rattle.runs.proofs.NodesFit.{at_place, in_row, placed}
use Rattle.rounds.specs.Rounds.{behind, within, up_to, between}

module _ (xs : List Element) (few : length xs ≤ 128) (one : Unique xs) (low : Low xs) (t : Seq) (is : xs ≡ flatten t) (u : Seq) (i : ℕ) (holds : Holds t (loop u i)) where
  abbrev loop_in : Spelt (flatten t) (loop u i)
  loop_in = spelt t (loop u i) [] holds

  abbrev start : ℕ
  start = length loop_in.before

  abbrev front : List Element
  front = loop_in.before ++ LoopStart ∷ []

  abbrev rest : List Element
  rest = LoopEnd i ∷ loop_in.after

  -- where the test stands
  abbrev place : ℕ
  place = length (front ++ flatten u)

  parted : xs ≡ loop_in.before ++ (LoopStart ∷ spell u rest)
  parted = is ∙ loop_in.parted

  parts : xs ≡ front ++ (flatten u ++ rest)
  parts =
      parted ∙ ap (λ ws. loop_in.before ++ (LoopStart ∷ ws)) (spell_append u rest) ∙ sym (append_assoc loop_in.before (LoopStart ∷ []) (flatten u ++ rest))

  whole : xs ≡ (front ++ flatten u) ++ rest
  whole = parts ∙ sym (append_assoc front (flatten u) rest)

  front_long : length front ≡ start + 1
  front_long = length-append loop_in.before (LoopStart ∷ [])

  place_is : place ≡ start + 1 + length (flatten u)
  place_is = let l = length-append front (flatten u) in omega (arith, l, front_long)

  all_long : length xs ≡ place + length rest
  all_long = ap length whole ∙ length-append (front ++ flatten u) rest

  below : place < length xs
  below = in_row xs few one low t is (front ++ flatten u) (LoopEnd i) loop_in.after whole

  loop_ends : Ends xs start place
  loop_ends = record {
    later = omega (arith, place_is);
    below = below;
    branch = 0;
    within = record {
      before = loop_in.before;
      opener = LoopStart;
      branches = last u;
      after = rest;
      begins = tt;
      parted = parted;
      at_start = refl;
      at_place = sym all_long;
      number = refl;
    };
    closes = subst Closes (sym (at_place xs few one low t is (front ++ flatten u) (LoopEnd i) loop_in.after _ whole)) tt;
    item = record {
      before = loop_in.before;
      item = loop u i;
      after = loop_in.after;
      parted = parted;
      at_start = refl;
      at_end = omega (arith, all_long);
    };
  }

  -- the test stands in its own loop, since each block has one end
  block : (get_or (tables_of xs).positions place outside).block ≡ Some start
  block =
      let laid = tables_laid xs few t is in
      let f = within_ended _ loop_ends.within (laid.ended start) in
      let ends : Ends xs start f.0 = subst (Ended xs start) f.1 (laid.ended start) in
      subst (λ p. (get_or (tables_of xs).positions p outside).block ≡ Some start) (one_end ends loop_ends) (laid.closed start f.0 f.1)

  body_there : behind xs place (Some start) ≡ flatten u
  body_there =
      ap (λ ws. take (place - (start + 1)) (drop (start + 1) ws)) parts
      ∙ ap (take (place - (start + 1))) (drop_at front (flatten u ++ rest) (start + 1) front_long)
      ∙ take_at (flatten u) rest (place - (start + 1)) (omega (arith, place_is))

  pub body : between xs i ≡ flatten u
  body =
      ap (up_to xs) (placed xs few one low t is (front ++ flatten u) (LoopEnd i) loop_in.after i whole refl)
      ∙ ap (λ b. within xs place (cond b (Some (get_or (tables_of xs).positions place outside)) None)) (lt-ltb place (length xs) below)
      ∙ ap (behind xs place) block
      ∙ body_there

pub body_found : (S : SchemaParts) (t u : Seq) (i : ℕ) → Admitted S → S.row ≡ flatten t → Holds t (loop u i) → between S.row i ≡ flatten u
body_found S t u i c is holds = let fine = checked_fine S.row S.edges c.passed in body S.row c.few fine.0 fine.1 t is u i holds
