-- What holds of every format whose reading inverts its writing.
use Rattle.std.proofs.Common.{◌≡◌, ℕ, ◌<◌, ◌≤◌, List, length, get_or, Some, None, Option, sym, refl, ap, ◌∙◌}
use Rattle.std.specs.List.{AllByRecursion}
use Rattle.std.proofs.ByRecursion.{All-from_get_or}
use Rattle.record.specs.Hex.{Byte, hex, decoded}
use Rattle.record.proofs.Inverses.{never, decoding_inverts_hex}

-- how something is read from bytes, its bytes, what its fields have room for, and that the two are inverse
module _ {R : Type 0} (read : List ℕ → Option R) (bytes : R → List ℕ) (Fits : R → Type 0)
    (back : (r : R) → read (bytes r) ≡ Some r)
    (forth : (bs : List ℕ) (r : R) → AllByRecursion Byte bs → read bs ≡ Some r → Fits r × (bs ≡ bytes r)) where
  pub none_written : (bs : List ℕ) → None ≡ read bs → (r : R) → Fits r × (bs ≡ bytes r) → ⊥
  none_written bs e r h = never (e ∙ ap read h.1 ∙ back r)

  pub some_written : (bs : List ℕ) (r : R) → ((i : ℕ) → get_or bs i 0 < 256) → Some r ≡ read bs → Fits r × (bs ≡ bytes r)
  some_written bs r small e = forth bs r (All-from_get_or Byte bs 0 (λ i _. small i)) (sym e)

  -- the same of lines; a line that is not hexadecimal says nothing
  pub inverts : (from : Option (List ℕ) → Option R) → from None ≡ None → ((bs : List ℕ) → from (Some bs) ≡ read bs) →
      ((r : R) → 0 < length (bytes r)) → ((r : R) → Fits r → AllByRecursion Byte (bytes r)) → (line : List ℕ) (r : R) →
      (from (decoded line) ≡ Some r → Fits r × (line ≡ hex (bytes r)) × (length line ≤ 1024)) × (Fits r × (line ≡ hex (bytes r)) × (length line ≤ 1024) → from (decoded line) ≡ Some r)
  inverts from nothing is some small line r = (λ e. go (decoded line) refl e, there)
    where
      go : (o : Option (List ℕ)) → decoded line ≡ o → from o ≡ Some r → Fits r × (line ≡ hex (bytes r)) × (length line ≤ 1024)
      go None eo j = never (sym nothing ∙ j)
      go (Some bs) eo j =
          let of = (decoding_inverts_hex line bs).0 eo in
          let this = forth bs r of.0 (sym (is bs) ∙ j) in
          (this.0, of.3 ∙ ap hex this.1, of.2)

      there : Fits r × (line ≡ hex (bytes r)) × (length line ≤ 1024) → from (decoded line) ≡ Some r
      there h = ap from ((decoding_inverts_hex line (bytes r)).1 (small r h.0, some r, h.2, h.1)) ∙ is (bytes r) ∙ back r
