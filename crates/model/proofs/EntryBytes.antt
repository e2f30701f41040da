-- The three bytes of an entry and their reading are inverse. Assumes nothing.
use Rattle.std.proofs.Common.{◌≡◌, ℕ, Bool, true, false, cond, eqb, Some, None, Option, sym, refl, ap, ◌∙◌, subst, arith}
use Rattle.std.proofs.lemmas.Bool.{eqb-true}
use Rattle.model.specs.declared.Entry.{Entry}
use Rattle.model.specs.declared.Entry.TheVariants.{Start, End, Choose, Leave}
use Rattle.model.specs.Entries.{entry_id, entry_kind, branch_byte, EntryBytes, entry_read}

never : {P : Type 0} (e : Entry) → ◌≡◌ {A = Option Entry} None (Some e) → P
never e h = absurd (let z : ◌≡◌ {A = ℕ} 0 1 = cc in omega arith)

by_kind : {P : Type 0} (b : Bool) (k n : ℕ) (here rest : Option Entry) (e : Entry) → eqb k n ≡ b
    → (k ≡ n → here ≡ Some e → P) → (rest ≡ Some e → P) → cond b here rest ≡ Some e → P
by_kind true k n here rest e h f g q = f (eqb-true k n h) q
by_kind false k n here rest e h f g q = g q

bare : (c : Bool) (k i b n : ℕ) (x e : Entry) → eqb b 255 ≡ c → entry_kind x ≡ n → entry_id x ≡ i → branch_byte x ≡ 255 → k ≡ n → cond c (Some x) None ≡ Some e → EntryBytes k i b e
bare true k i b n x e h kd id br q r =
    let same : x ≡ e = cc in
    subst (λ y. EntryBytes k i b y) same (q ∙ sym kd, sym id, eqb-true b 255 h ∙ sym br)
bare false k i b n x e h kd id br q r = never e r

pub entry_is : (k i b : ℕ) (e : Entry) → entry_read k i b ≡ Some e → EntryBytes k i b e
entry_is k i b e h =
    by_kind (eqb k 1) k 1 _ _ e refl (bare (eqb b 255) k i b 1 (Start i) e refl refl refl refl)
    (by_kind (eqb k 2) k 2 _ _ e refl (bare (eqb b 255) k i b 2 (End i) e refl refl refl refl)
    (by_kind (eqb k 3) k 3 _ _ e refl (λ q r. let same : Choose i b ≡ e = cc in subst (λ y. EntryBytes k i b y) same (q, refl, refl))
    (by_kind (eqb k 4) k 4 _ _ e refl (bare (eqb b 255) k i b 4 (Leave i) e refl refl refl refl) (λ z. never e z)))) h

own : (e : Entry) → entry_read (entry_kind e) (entry_id e) (branch_byte e) ≡ Some e
own (Start i) = refl
own (End i) = refl
own (Choose i b) = refl
own (Leave i) = refl

pub is_entry : (k i b : ℕ) (e : Entry) → EntryBytes k i b e → entry_read k i b ≡ Some e
is_entry k i b e h =
    ap (λ n. entry_read n i b) h.0 ∙ ap (λ n. entry_read (entry_kind e) n b) h.1 ∙ ap (λ n. entry_read (entry_kind e) (entry_id e) n) h.2 ∙ own e
