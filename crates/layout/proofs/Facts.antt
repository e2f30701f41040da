-- What a layout's laws say together, for callers. Assumes nothing.
use Rattle.std.proofs.Common.{◌≡◌, ℕ, zero, suc, ◌+◌, ◌<◌, ◌≤◌, List, [], ◌∷◌, ◌++◌, length, get_or, take, drop, Some, None, Option, sym, refl, ap, ◌∙◌, subst, inl, inr, arith}
use Rattle.std.proofs.lemmas.List.{append_assoc, length-append, get_or_at, get_or-append-add, take_at, drop_at}
use Rattle.model.specs.declared.Element.{Element}
use Rattle.model.specs.declared.Element.TheVariants.{Activity, AndSplit, Bar, AndJoin, XorSplit, XorJoin, LoopStart, LoopEnd}
use Rattle.model.specs.Trees.{Seq, nil, cons, Item, activity, loop, and, xor, Branches, last, bar, spell, spell_item, spell_branches, flatten, count}
use Rattle.model.specs.Rows.{Bears, Among, Unique}
use Rattle.layout.specs.Nodes.{Finds}
use Rattle.layout.specs.Gaps.{Begins, Closes, Whole, Within, Ends, Ended}

-- the elements of a part, and what follows it
mutual
  pub spell_append : (t : Seq) (ys : List Element) → spell t ys ≡ spell t [] ++ ys
  spell_append nil ys = refl
  spell_append (cons x t) ys = spell_append_item x (spell t ys) ∙ ap (λ zs. spell_item x [] ++ zs) (spell_append t ys)
      ∙ sym (append_assoc (spell_item x []) (spell t []) ys) ∙ ap (λ zs. zs ++ ys) (sym (spell_append_item x (spell t [])))

  pub spell_append_item : (x : Item) (ys : List Element) → spell_item x ys ≡ spell_item x [] ++ ys
  spell_append_item (activity i) ys = refl
  spell_append_item (loop t i) ys = ap (λ zs. LoopStart ∷ zs) (spell_append t (LoopEnd i ∷ ys)
      ∙ sym (append_assoc (spell t []) (LoopEnd i ∷ []) ys) ∙ ap (λ zs. zs ++ ys) (sym (spell_append t (LoopEnd i ∷ []))))
  spell_append_item (and b) ys = ap (λ zs. AndSplit ∷ zs) (spell_append_branches b (AndJoin ∷ ys)
      ∙ sym (append_assoc (spell_branches b []) (AndJoin ∷ []) ys) ∙ ap (λ zs. zs ++ ys) (sym (spell_append_branches b (AndJoin ∷ []))))
  spell_append_item (xor i b) ys = ap (λ zs. XorSplit i ∷ zs) (spell_append_branches b (XorJoin ∷ ys)
      ∙ sym (append_assoc (spell_branches b []) (XorJoin ∷ []) ys) ∙ ap (λ zs. zs ++ ys) (sym (spell_append_branches b (XorJoin ∷ []))))

  pub spell_append_branches : (b : Branches) (ys : List Element) → spell_branches b ys ≡ spell_branches b [] ++ ys
  spell_append_branches (last t) ys = spell_append t ys
  spell_append_branches (bar t b) ys = spell_append t (Bar ∷ spell_branches b ys)
      ∙ ap (λ zs. spell t [] ++ (Bar ∷ zs)) (spell_append_branches b ys)
      ∙ sym (append_assoc (spell t []) (Bar ∷ spell_branches b []) ys) ∙ ap (λ zs. zs ++ ys) (sym (spell_append t (Bar ∷ spell_branches b [])))

-- how many elements stand before the first that closes a block which is open at the start, with d more open
abbrev until : ℕ → List Element → ℕ
until d [] = 0
until d (Activity i ∷ xs) = suc (until d xs)
until d (AndSplit ∷ xs) = suc (until (suc d) xs)
until d (Bar ∷ xs) = suc (until d xs)
until zero (AndJoin ∷ xs) = 0
until (suc d) (AndJoin ∷ xs) = suc (until d xs)
until d (XorSplit i ∷ xs) = suc (until (suc d) xs)
until zero (XorJoin ∷ xs) = 0
until (suc d) (XorJoin ∷ xs) = suc (until d xs)
until d (LoopStart ∷ xs) = suc (until (suc d) xs)
until zero (LoopEnd i ∷ xs) = 0
until (suc d) (LoopEnd i ∷ xs) = suc (until d xs)

-- none stands in whole items
mutual
  until_past : (t : Seq) (d : ℕ) (ys : List Element) → until d (spell t ys) + length ys ≡ length (spell t ys) + until d ys
  until_past nil d ys = omega arith
  until_past (cons x t) d ys = let a = until_past_item x d (spell t ys) in let b = until_past t d ys in omega (arith, a, b)

  until_past_item : (x : Item) (d : ℕ) (ys : List Element) → until d (spell_item x ys) + length ys ≡ length (spell_item x ys) + until d ys
  until_past_item (activity i) d ys = omega arith
  until_past_item (loop t i) d ys = let a = until_past t (suc d) (LoopEnd i ∷ ys) in omega (arith, a)
  until_past_item (and b) d ys = let a = until_past_branches b (suc d) (AndJoin ∷ ys) in omega (arith, a)
  until_past_item (xor i b) d ys = let a = until_past_branches b (suc d) (XorJoin ∷ ys) in omega (arith, a)

  until_past_branches : (b : Branches) (d : ℕ) (ys : List Element) → until d (spell_branches b ys) + length ys ≡ length (spell_branches b ys) + until d ys
  until_past_branches (last t) d ys = until_past t d ys
  until_past_branches (bar t b) d ys = let a = until_past t d (Bar ∷ spell_branches b ys) in let c = until_past_branches b d ys in omega (arith, a, c)

until_closes : (xs : List Element) → Closes (get_or xs 0 Bar) → until 0 xs ≡ 0
until_closes [] c = elim c [ ]
until_closes (Activity i ∷ xs) c = elim c [ ]
until_closes (AndSplit ∷ xs) c = elim c [ ]
until_closes (Bar ∷ xs) c = elim c [ ]
until_closes (AndJoin ∷ xs) c = refl
until_closes (XorSplit i ∷ xs) c = elim c [ ]
until_closes (XorJoin ∷ xs) c = refl
until_closes (LoopStart ∷ xs) c = elim c [ ]
until_closes (LoopEnd i ∷ xs) c = refl

-- how many bars of the block that is open at the start stand before its end, with d more open
abbrev bars : ℕ → List Element → ℕ
bars d [] = 0
bars d (Activity i ∷ xs) = bars d xs
bars d (AndSplit ∷ xs) = bars (suc d) xs
bars zero (Bar ∷ xs) = suc (bars zero xs)
bars (suc d) (Bar ∷ xs) = bars (suc d) xs
bars zero (AndJoin ∷ xs) = 0
bars (suc d) (AndJoin ∷ xs) = bars d xs
bars d (XorSplit i ∷ xs) = bars (suc d) xs
bars zero (XorJoin ∷ xs) = 0
bars (suc d) (XorJoin ∷ xs) = bars d xs
bars d (LoopStart ∷ xs) = bars (suc d) xs
bars zero (LoopEnd i ∷ xs) = 0
bars (suc d) (LoopEnd i ∷ xs) = bars d xs

-- whole items have none of them
mutual
  bars_past : (t : Seq) (d : ℕ) (ys : List Element) → bars d (spell t ys) ≡ bars d ys
  bars_past nil d ys = refl
  bars_past (cons x t) d ys = bars_past_item x d (spell t ys) ∙ bars_past t d ys

  bars_past_item : (x : Item) (d : ℕ) (ys : List Element) → bars d (spell_item x ys) ≡ bars d ys
  bars_past_item (activity i) d ys = refl
  bars_past_item (loop t i) d ys = bars_past t (suc d) (LoopEnd i ∷ ys)
  bars_past_item (and b) d ys = bars_past_branches b d (AndJoin ∷ ys)
  bars_past_item (xor i b) d ys = bars_past_branches b d (XorJoin ∷ ys)

  bars_past_branches : (b : Branches) (d : ℕ) (ys : List Element) → bars (suc d) (spell_branches b ys) ≡ bars (suc d) ys
  bars_past_branches (last t) d ys = bars_past t (suc d) ys
  bars_past_branches (bar t b) d ys = bars_past t (suc d) (Bar ∷ spell_branches b ys) ∙ bars_past_branches b d ys

-- the branches of a block have one less than they are
bars_between : (b : Branches) (ys : List Element) → bars 0 (spell_branches b ys) + 1 ≡ count b + bars 0 ys
bars_between (last t) ys = let e = bars_past t 0 ys in omega (arith, e)
bars_between (bar t b) ys = let e = bars_past t 0 (Bar ∷ spell_branches b ys) in let r = bars_between b ys in omega (arith, e, r)

bars_closes : (xs : List Element) → Closes (get_or xs 0 Bar) → bars 0 xs ≡ 0
bars_closes [] c = elim c [ ]
bars_closes (Activity i ∷ xs) c = elim c [ ]
bars_closes (AndSplit ∷ xs) c = elim c [ ]
bars_closes (Bar ∷ xs) c = elim c [ ]
bars_closes (AndJoin ∷ xs) c = refl
bars_closes (XorSplit i ∷ xs) c = elim c [ ]
bars_closes (XorJoin ∷ xs) c = refl
bars_closes (LoopStart ∷ xs) c = elim c [ ]
bars_closes (LoopEnd i ∷ xs) c = refl

abbrev rest_of : List Element → List Element
rest_of [] = []
rest_of (x ∷ xs) = xs

module _ {xs : List Element} where
  -- the elements before a gap outside every block
  pub whole_front : {p : ℕ} (w : Whole xs p) → take p xs ≡ flatten w.items
  whole_front {p} w =
      let e : xs ≡ flatten w.items ++ w.after = w.parted ∙ spell_append w.items w.after in
      let n = ap length e ∙ length-append (flatten w.items) w.after in
      ap (take p) e ∙ take_at (flatten w.items) w.after p (omega (arith, n, w.at_place))

  -- the element that begins a block
  pub within_opener : {s p n : ℕ} (d : Element) (w : Within xs s p n) → get_or xs s d ≡ w.opener
  within_opener {s} {p} {n} d w = ap (λ zs. get_or zs s d) w.parted ∙ get_or_at w.before w.opener (spell_branches w.branches w.after) d s w.at_start

  -- each block around a gap ends
  pub within_ended : {s p n : ℕ} (o : Option ℕ) → Within xs s p n → Ended xs s o → (e : ℕ) × (o ≡ Some e)
  within_ended {s} {p} {n} None w h =
      let long = ap length w.parted ∙ length-append w.before (w.opener ∷ spell_branches w.branches w.after) in
      absurd (h (omega (arith, long, w.at_start)) (subst Begins (sym (within_opener Bar w)) w.begins))
  within_ended (Some e) w h = (e, refl)

  inner : {s p n : ℕ} (w : Within xs s p n) → rest_of (drop s xs) ≡ spell_branches w.branches w.after
  inner {s} {p} {n} w = ap (λ zs. rest_of (drop s zs)) w.parted ∙ ap rest_of (drop_at w.before _ s w.at_start)

  -- nothing outside every block closes one
  pub whole_closes : {p : ℕ} (t : Seq) → xs ≡ flatten t → p < length xs → Whole xs p → Closes (get_or xs p Bar) → ⊥
  whole_closes {p} t is less w closes =
      let e : xs ≡ flatten w.items ++ w.after = w.parted ∙ spell_append w.items w.after in
      let n = ap length e ∙ length-append (flatten w.items) w.after in
      let at : length (flatten w.items) + 0 ≡ p = omega (arith, n, w.at_place) in
      let here : get_or xs p Bar ≡ get_or w.after 0 Bar =
      ap (λ zs. get_or zs p Bar) e ∙ ap (λ k. get_or (flatten w.items ++ w.after) k Bar) (sym at) ∙ get_or-append-add (flatten w.items) w.after 0 Bar in
      let shut = until_closes w.after (subst Closes here closes) in
      let a = ap (until 0) w.parted in
      let b = until_past w.items 0 w.after in
      let c = ap (until 0) is in
      let d = until_past t 0 [] in
      let l = ap length w.parted in
      let m = ap length is in
      omega (arith, shut, a, b, c, d, l, m, w.at_place)

  -- from a gap on
  pub within_after : {s p n : ℕ} (w : Within xs s p n) → get_or w.after 0 Bar ≡ get_or xs p Bar
  within_after {s} {p} {n} w =
      let b = w.before in
      let f = w.opener ∷ spell_branches w.branches [] in
      let e : xs ≡ (b ++ f) ++ w.after =
      w.parted ∙ ap (λ zs. b ++ (w.opener ∷ zs)) (spell_append_branches w.branches w.after) ∙ sym (append_assoc b f w.after) in
      let long = ap length e ∙ length-append (b ++ f) w.after in
      let at : length (b ++ f) + 0 ≡ p = omega (arith, long, w.at_place) in
      sym (ap (λ zs. get_or zs p Bar) e ∙ ap (λ k. get_or ((b ++ f) ++ w.after) k Bar) (sym at) ∙ get_or-append-add (b ++ f) w.after 0 Bar)

  -- a gap in a block stands no later than what closes the block
  pub within_until : {s p n e m : ℕ} → Within xs s p n → Within xs s e m → Closes (get_or xs e Bar) → p ≤ e
  within_until {s} {p} {n} {e} w v closes =
      let same : spell_branches w.branches w.after ≡ spell_branches v.branches v.after = sym (inner w) ∙ inner v in
      let a = until_past_branches w.branches 0 w.after in
      let b = until_past_branches v.branches 0 v.after in
      let shut = until_closes v.after (subst Closes (sym (within_after v)) closes) in
      let u = ap (until 0) same in
      let l = ap length same in
      omega (arith, a, b, shut, u, l, w.at_place, v.at_place)

  branches_at_end : {s e n : ℕ} (w : Within xs s e n) → Closes (get_or xs e Bar) → bars 0 (rest_of (drop s xs)) ≡ n
  branches_at_end {s} {e} {n} w closes =
      let a = ap (bars 0) (inner w) in
      let b = bars_between w.branches w.after in
      let shut = bars_closes w.after (subst Closes (sym (within_after w)) closes) in
      omega (arith, a, b, shut, w.number)

  -- what closes a block stands in its last branch, which has one number
  pub last_branch : {s e f n m : ℕ} → Within xs s e n → Closes (get_or xs e Bar) → Within xs s f m → Closes (get_or xs f Bar) → n ≡ m
  last_branch w closes v shuts = sym (branches_at_end w closes) ∙ branches_at_end v shuts

  -- what closes a block is its end
  pub closes_end : {s e f n : ℕ} → Within xs s e n → Closes (get_or xs e Bar) → Ends xs s f → e ≡ f
  closes_end {s} {e} {f} w closes z =
      let a = within_until w z.within z.closes in
      let b = within_until z.within w closes in
      omega (arith, a, b)

  -- a loop has one branch
  pub loop_first : {s p n e : ℕ} (w : Within xs s p n) → w.opener ≡ LoopStart → Ends xs s e → n ≡ 0
  loop_first {s} {p} {n} {e} w is z = go z.item.item z.item.parted
    where
      from : (x : Item) → xs ≡ z.item.before ++ spell_item x z.item.after → spell_item x z.item.after ≡ LoopStart ∷ spell_branches w.branches w.after
      from x parted =
          sym (drop_at z.item.before _ s z.item.at_start) ∙ ap (drop s) (sym parted)
          ∙ ap (drop s) w.parted ∙ drop_at w.before _ s w.at_start ∙ ap (λ y. y ∷ spell_branches w.branches w.after) is

      go : (x : Item) → xs ≡ z.item.before ++ spell_item x z.item.after → n ≡ 0
      go (activity i) parted = let no = from (activity i) parted in absurd cc
      go (loop t i) parted =
          let same : bars 0 (spell t (LoopEnd i ∷ z.item.after)) ≡ bars 0 (spell_branches w.branches w.after) = ap (λ zs. bars 0 (rest_of zs)) (from (loop t i) parted) in
          let a = bars_past t 0 (LoopEnd i ∷ z.item.after) in
          let b = bars_between w.branches w.after in
          omega (arith, same, a, b, w.number)
      go (and b) parted = let no = from (and b) parted in absurd cc
      go (xor i b) parted = let no = from (xor i b) parted in absurd cc

  -- a block has one end
  pub one_end : {s e f : ℕ} → Ends xs s e → Ends xs s f → e ≡ f
  one_end y z = closes_end y.within y.closes z

-- an element of the row is among its elements
pub among_from : (xs : List Element) (u q : ℕ) → q < length xs → Bears (get_or xs q AndSplit) u → Among xs u
among_from [] u q l b = absurd (omega arith)
among_from (x ∷ xs) u zero l b = inl b
among_from (x ∷ xs) u (suc q) l b = inr (among_from xs u q (omega arith) b)

-- ids that are used once
unique_place : (xs : List Element) (u p q : ℕ) → Unique xs → p < length xs → q < length xs → Bears (get_or xs p AndSplit) u → Bears (get_or xs q AndSplit) u → p ≡ q
unique_place [] u p q one lp lq bp bq = absurd (omega arith)
unique_place (x ∷ xs) u zero zero one lp lq bp bq = refl
unique_place (x ∷ xs) u zero (suc q) one lp lq bp bq = absurd (one.0 u bp (among_from xs u q (omega arith) bq))
unique_place (x ∷ xs) u (suc p) zero one lp lq bp bq = absurd (one.0 u bq (among_from xs u p (omega arith) bp))
unique_place (x ∷ xs) u (suc p) (suc q) one lp lq bp bq = ap suc (unique_place xs u p q one.1 (omega arith) (omega arith) bp bq)

-- where ids are used once, the node's place is found
pub finds_place : (xs : List Element) (u p : ℕ) (o : Option ℕ) → Unique xs → u < 64 → p < length xs → Bears (get_or xs p AndSplit) u → Finds xs u o → o ≡ Some p
finds_place xs u p None one low l b h = absurd (h low (among_from xs u p l b))
finds_place xs u p (Some q) one low l b h = ap Some (unique_place xs u q p one h.0 l h.1 b)
