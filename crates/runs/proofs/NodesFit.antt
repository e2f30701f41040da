-- The tables of a tree's row tell whether the tree has the node of a step. Assumes nothing.
use Rattle.std.proofs.Common.{◌≡◌, ℕ, zero, suc, ◌+◌, ◌<◌, ◌≤◌, true, cond, leb, ◌⊎◌, List, [], ◌∷◌, ◌++◌, length, get_or, Some, None, Decides, Option, sym, refl, ap, ◌∙◌, subst, inl, inr, arith}
use Rattle.std.proofs.lemmas.List.{append_assoc, length-append, get_or_at, get_or_default}
use Rattle.std.proofs.lemmas.Bool.{false≢true, leb-true, le-leb, lt-ltb}
use Rattle.model.specs.declared.Element.{Element}
use Rattle.model.specs.declared.Element.TheVariants.{Activity, AndSplit, Bar, AndJoin, XorSplit, XorJoin, LoopStart, LoopEnd}
use Rattle.model.specs.declared.Entry.{Entry}
use Rattle.model.specs.declared.Entry.TheVariants.{Start, End, Choose, Leave}
use Rattle.model.specs.Entries.{entry_id}
use Rattle.model.specs.Nodes.{Holds, HasNode}
use Rattle.model.specs.Rows.{Bears, Unique, Low}
use Rattle.model.specs.Trees.{Seq, Item, activity, loop, and, xor, Branches, spell, spell_branches, flatten, count}
use Rattle.layout.specs.Pass.{outside, tables_of}
use Rattle.layout.specs.Nodes.{Finds}
use Rattle.layout.specs.Gaps.{Begins, Closes, gap_of, Within, Inside, Ended}
use Rattle.layout.proofs.Facts.{spell_append, spell_append_branches, among_from, finds_place, within_after, last_branch}
use Rattle.layout.proofs.Finds.{places_find}
use Rattle.layout.proofs.Items.{spelt, Member, Node, NodeOf, Found, found}
use Rattle.layout.proofs.Laid.{tables_laid}
use Rattle.layout.proofs.Shapes.{some_branch}
use Rattle.schema.specs.declared.schema.Schema.{Schema}
use Rattle.schema.specs.Schemas.{parts}
use Rattle.schema.specs.Tables.{place_in, position_in, end_in}
use Rattle.schema.proofs.Checked.{laid, checked_fine}
use Rattle.runs.specs.Steps.{branch_in, by_end, up_to, fits_element, fits_at, fits_in, NodeTold}

closes_gap : (x : Element) (p : ℕ) → Closes x → gap_of x p ≡ p
closes_gap (Activity i) p c = elim c [ ]
closes_gap AndSplit p c = elim c [ ]
closes_gap Bar p c = elim c [ ]
closes_gap AndJoin p c = refl
closes_gap (XorSplit i) p c = elim c [ ]
closes_gap XorJoin p c = refl
closes_gap LoopStart p c = elim c [ ]
closes_gap (LoopEnd i) p c = refl

member_at : (xs : List Element) (p : ℕ) (d : Element) → p < length xs → Member (get_or xs p d) xs
member_at [] p d h = absurd (omega arith)
member_at (x ∷ xs) zero d h = inl refl
member_at (x ∷ xs) (suc p) d h = inr (member_at xs p d (omega arith))

module _ (t : Seq) where
  the_activity : (i : ℕ) → Found (Activity i) tt (Holds t) → Holds t (activity i)
  the_activity i r = go r.item r.held r.is
    where
      go : (x : Item) → Holds t x → NodeOf x (Activity i) → Holds t (activity i)
      go (activity j) h e = subst (λ k. Holds t (activity k)) (let s : j ≡ i = cc in s) h
      go (loop u j) h e = absurd cc
      go (and b) h e = elim e [ ]
      go (xor j b) h e = absurd cc

  the_decision : (i : ℕ) → Found (XorSplit i) tt (Holds t) → (b : Branches) × Holds t (xor i b)
  the_decision i r = go r.item r.held r.is
    where
      go : (x : Item) → Holds t x → NodeOf x (XorSplit i) → (b : Branches) × Holds t (xor i b)
      go (activity j) h e = absurd cc
      go (loop u j) h e = absurd cc
      go (and b) h e = elim e [ ]
      go (xor j b) h e = (b, subst (λ k. Holds t (xor k b)) (let s : j ≡ i = cc in s) h)

  the_test : (i : ℕ) → Found (LoopEnd i) tt (Holds t) → (u : Seq) × Holds t (loop u i)
  the_test i r = go r.item r.held r.is
    where
      go : (x : Item) → Holds t x → NodeOf x (LoopEnd i) → (u : Seq) × Holds t (loop u i)
      go (activity j) h e = absurd cc
      go (loop u j) h e = (u, subst (λ k. Holds t (loop u k)) (let s : j ≡ i = cc in s) h)
      go (and b) h e = elim e [ ]
      go (xor j b) h e = absurd cc

  -- all of a row is in the tree
  all_found : (x : Element) (n : Node x) → Member x (flatten t) → Found x n (Holds t)
  all_found x n m = go (found x n t [] m)
    where
      go : Found x n (Holds t) ⊎ Member x [] → Found x n (Holds t)
      go (inl r) = r
      go (inr m) = elim m [ ]

module _ (xs : List Element) (few : length xs ≤ 128) (one : Unique xs) (low : Low xs) (t : Seq) (is : xs ≡ flatten t) where
  pub at_place : (before : List Element) (x : Element) (after : List Element) (d : Element) → xs ≡ before ++ (x ∷ after) → get_or xs (length before) d ≡ x
  at_place before x after d parted = ap (λ zs. get_or zs (length before) d) parted ∙ get_or_at before x after d (length before) refl

  pub in_row : (before : List Element) (x : Element) (after : List Element) → xs ≡ before ++ (x ∷ after) → length before < length xs
  in_row before x after parted = let long = ap length parted ∙ length-append before (x ∷ after) in omega (arith, long)

  -- the place of a node is the one in the table
  pub placed : (before : List Element) (x : Element) (after : List Element) (u : ℕ) → xs ≡ before ++ (x ∷ after) → Bears x u → place_in xs u ≡ Some (length before)
  placed before x after u parted b =
      let less = in_row before x after parted in
      let bears : Bears (get_or xs (length before) AndSplit) u = subst (λ y. Bears y u) (sym (at_place before x after AndSplit parted)) b in
      finds_place xs u (length before) (place_in xs u) one (low u (among_from xs u (length before) less bears)) less bears (places_find xs u)

  fits_here : (before : List Element) (x : Element) (after : List Element) (e : Entry) → xs ≡ before ++ (x ∷ after) → Bears x (entry_id e)
      → fits_in xs e ≡ fits_element xs (length before) x e
  fits_here before x after e parted b =
      ap (fits_at xs e) (placed before x after (entry_id e) parted b)
      ∙ ap (λ y. fits_element xs (length before) y e) (at_place before x after (Activity 0) parted)

  -- the branches of a block that begins with a decision
  module _ (i : ℕ) (b : Branches) (k : ℕ) (number : count b ≡ k + 1) (before after : List Element) (parted : xs ≡ before ++ (XorSplit i ∷ spell_branches b (XorJoin ∷ after))) where
    abbrev front : List Element
    front = before ++ (XorSplit i ∷ spell_branches b [])

    whole : xs ≡ front ++ (XorJoin ∷ after)
    whole = parted ∙ ap (λ zs. before ++ (XorSplit i ∷ zs)) (spell_append_branches b (XorJoin ∷ after)) ∙ sym (append_assoc before (XorSplit i ∷ spell_branches b []) (XorJoin ∷ after))

    abbrev at_join : Within xs (length before) (length front) k
    at_join = record {
      before = before;
      opener = XorSplit i;
      branches = b;
      after = XorJoin ∷ after;
      begins = tt;
      parted = parted;
      at_start = refl;
      at_place = sym (ap length whole ∙ length-append front (XorJoin ∷ after));
      number = number;
    }

    branches_in : (n : ℕ) → branch_in xs (length before) n ≡ leb n k
    branches_in n = go (end_in xs (length before)) refl ((tables_laid xs few t is).ended (length before))
      where
        go : (o : Option ℕ) → end_in xs (length before) ≡ o → Ended xs (length before) o → by_end xs n o ≡ leb n k
        go None e h = absurd (h (in_row before _ _ parted) (subst Begins (sym (at_place before _ _ Bar parted)) tt))
        go (Some f) e z =
            let tables = tables_laid xs few t is in
            let h = get_or (tables_of xs).positions f outside in
            let at : gap_of (get_or xs f AndSplit) f ≡ f = ap (λ x. gap_of x f) (get_or_default xs f AndSplit Bar z.below) ∙ closes_gap (get_or xs f Bar) f z.closes in
            let inside : Inside xs f h h.block = subst (λ p. Inside xs p h h.block) at (tables.stood f z.below).inside in
            let theirs : Within xs (length before) f h.branch = subst (Inside xs f h) (tables.closed (length before) f e) inside in
            let same = last_branch theirs z.closes at_join (subst Closes (within_after at_join) tt) in
            let here : position_in xs f ≡ Some h = ap (λ c. cond c (Some h) None) (lt-ltb f (length xs) z.below) in
            ap (up_to n) here ∙ ap (leb n) same

  fits_activity : (i : ℕ) → Holds t (activity i) → (fits_in xs (Start i) ≡ true) × (fits_in xs (End i) ≡ true)
  fits_activity i h =
      let s = spelt t (activity i) [] h in
      let parted = is ∙ s.parted in
      (fits_here s.before (Activity i) s.after (Start i) parted refl, fits_here s.before (Activity i) s.after (End i) parted refl)

  fits_test : (i : ℕ) (u : Seq) → Holds t (loop u i) → fits_in xs (Leave i) ≡ true
  fits_test i u h =
      let s = spelt t (loop u i) [] h in
      let parted = is ∙ s.parted ∙ ap (λ zs. s.before ++ (LoopStart ∷ zs)) (spell_append u (LoopEnd i ∷ s.after)) ∙ sym (append_assoc s.before (LoopStart ∷ spell u []) (LoopEnd i ∷ s.after)) in
      fits_here (s.before ++ (LoopStart ∷ spell u [])) (LoopEnd i) s.after (Leave i) parted refl

  fits_decision : (i n : ℕ) (b : Branches) → Holds t (xor i b) → Decides (fits_in xs (Choose i n)) (n < count b)
  fits_decision i n b h =
      let s = spelt t (xor i b) [] h in
      let parted = is ∙ s.parted in
      let k = some_branch b in
      let e = fits_here s.before (XorSplit i) (spell_branches b (XorJoin ∷ s.after)) (Choose i n) parted refl ∙ branches_in i b k.0 k.1 s.before s.after parted n in (
        (λ f. let l = leb-true n k.0 (sym e ∙ f) in omega (arith, l, k.1)),
        λ l. e ∙ le-leb n k.0 (omega (arith, l, k.1)),
      )

  -- what the tables find is in the tree
  by_element : (x : Element) (p : ℕ) (e : Entry) → Bears x (entry_id e) → Member x (flatten t) → fits_element xs p x e ≡ true → fits_in xs e ≡ true → HasNode t e
  by_element (Activity i) p (Start j) b m f h = subst (λ k. Holds t (activity k)) (sym b) (the_activity t i (all_found t (Activity i) tt m))
  by_element (Activity i) p (End j) b m f h = subst (λ k. Holds t (activity k)) (sym b) (the_activity t i (all_found t (Activity i) tt m))
  by_element (Activity i) p (Choose j n) b m f h = absurd (false≢true f)
  by_element (Activity i) p (Leave j) b m f h = absurd (false≢true f)
  by_element AndSplit p e b m f h = elim b [ ]
  by_element Bar p e b m f h = elim b [ ]
  by_element AndJoin p e b m f h = elim b [ ]
  by_element (XorSplit i) p (Start j) b m f h = absurd (false≢true f)
  by_element (XorSplit i) p (End j) b m f h = absurd (false≢true f)
  by_element (XorSplit i) p (Choose j n) b m f h =
      let d = the_decision t i (all_found t (XorSplit i) tt m) in
      let held : Holds t (xor j d.0) = subst (λ k. Holds t (xor k d.0)) (sym b) d.1 in
      (d.0, held, (fits_decision j n d.0 held).0 h)
  by_element (XorSplit i) p (Leave j) b m f h = absurd (false≢true f)
  by_element XorJoin p e b m f h = elim b [ ]
  by_element LoopStart p e b m f h = elim b [ ]
  by_element (LoopEnd i) p (Start j) b m f h = absurd (false≢true f)
  by_element (LoopEnd i) p (End j) b m f h = absurd (false≢true f)
  by_element (LoopEnd i) p (Choose j n) b m f h = absurd (false≢true f)
  by_element (LoopEnd i) p (Leave j) b m f h =
      let l = the_test t i (all_found t (LoopEnd i) tt m) in
      (l.0, subst (λ k. Holds t (loop l.0 k)) (sym b) l.1)

  by_place : (e : Entry) (o : Option ℕ) → Finds xs (entry_id e) o → fits_at xs e o ≡ true → fits_in xs e ≡ true → HasNode t e
  by_place e None n f h = absurd (false≢true f)
  by_place e (Some p) n f h =
      let same = get_or_default xs p AndSplit (Activity 0) n.0 in
      by_element (get_or xs p (Activity 0)) p e (subst (λ x. Bears x (entry_id e)) same n.1) (subst (Member (get_or xs p (Activity 0))) is (member_at xs p (Activity 0) n.0)) f h

  has_fits : (e : Entry) → HasNode t e → fits_in xs e ≡ true
  has_fits (Start i) h = (fits_activity i h).0
  has_fits (End i) h = (fits_activity i h).1
  has_fits (Choose i n) (b, h, l) = (fits_decision i n b h).1 l
  has_fits (Leave i) (u, h) = fits_test i u h

  -- the node of a step is there exactly if the tree has it
  pub fits_node : (e : Entry) → Decides (fits_in xs e) (HasNode t e)
  fits_node e = ((λ h. by_place e (place_in xs (entry_id e)) (places_find xs (entry_id e)) h h), has_fits e)

pub node_told : (s : Schema) (e : Entry) → NodeTold (parts s).row e
node_told s e t is =
    let l = laid _ s.layout s.laid in
    let fine = checked_fine _ _ s.passed in
    fits_node (parts s).row (omega (arith, s.layout.few, l.len)) fine.0 fine.1 t is e
