-- On the row of a tree the pass from the end gives the followers of the tree. Assumes nothing.
use Rattle.std.proofs.Common.{◌≡◌, ℕ, zero, suc, Bool, true, false, ◌&&◌, ◌||◌, ◌<◌, ◌≤◌, ◌⊎◌, inl, inr, eqb, ltb, List, [], ◌∷◌, map, length, drop, get_or, refl, sym, ap, ap₂, ◌∙◌, arith}
use mathlib.Core.Path.{fun_ext}
use Rattle.std.proofs.lemmas.Bool.Decides.{nat_tests}
use Rattle.std.proofs.lemmas.Bool.{cases_order}
use Rattle.std.proofs.lemmas.List.{length-drop}
use Rattle.std.proofs.Math.ListN.{get_or-map}
use Rattle.ids.specs.declared.IdSet.{IdSet}
use Rattle.ids.specs.Sets.{has, empty, only, union}
use Rattle.ids.proofs.Laws.{has_empty, has_only, has_only_past, has_union}
use Rattle.model.specs.declared.Element.{Element}
use Rattle.model.specs.declared.Element.TheVariants.{Activity, AndSplit, Bar, AndJoin, XorSplit, XorJoin, LoopStart, LoopEnd}
use Rattle.model.specs.Trees.{Seq, nil, cons, Item, activity, loop, and, xor, Branches, last, bar, spell, spell_item, spell_branches, flatten}
use Rattle.followers.specs.declared.blocks.Block.{Block}
use Rattle.followers.specs.Followers.{Nodes, none, just, follows, item_follows, branches_follow, seq_followers, item_followers, branch_followers, tree_followers, FollowersAt}
use Rattle.followers.specs.Backwards.{block, gap, followers}
use Rattle.followers.proofs.Room.{free_step, free_passed, passed_free}

-- Those of the nodes whose ids can be in a set.
abbrev kept : Nodes → Nodes
kept f u = ltb u 64 && f u

kept_none : has empty ≡ kept none
kept_none = fun_ext (λ u. has_empty u ∙ none_kept (ltb u 64))
  where
    none_kept : (b : Bool) → false ≡ (b && false)
    none_kept true = refl
    none_kept false = refl

kept_just : (i : ℕ) → has (only i) ≡ kept (just i)
kept_just i = fun_ext (λ u. go u (cases_order i 64))
  where
    past : (u : ℕ) → 64 ≤ i → has (only i) u ≡ (ltb u 64 && eqb u i)
    past u h = has_only_past i u h ∙ grind (arith, nat_tests)

    go : (u : ℕ) → (i ≡ 64) ⊎ ((i < 64) ⊎ (64 < i)) → has (only i) u ≡ (ltb u 64 && eqb u i)
    go u (inl e) = past u (omega arith)
    go u (inr (inl h)) = has_only i u h ∙ grind (arith, nat_tests)
    go u (inr (inr h)) = past u (omega arith)

kept_either : (b x y : Bool) → ((b && x) || (b && y)) ≡ (b && (x || y))
kept_either true x y = refl
kept_either false x y = refl

or_false : (b : Bool) → (b || false) ≡ b
or_false true = refl
or_false false = refl

-- What the pass tells of each gap.
abbrev told : List Element → List Nodes
told [] = has empty ∷ []
told (x ∷ xs) = has (free_passed (x ∷ xs)).here ∷ told xs

-- From these elements to the row's end, with these blocks around, the pass tells these followers.
record Read (xs : List Element) (f : Nodes) (bs : List Block) (fs : List Nodes) : Type 0 where
  here : IdSet
  reached : free_passed xs ≡ gap here bs
  first : has here ≡ kept f
  all : told xs ≡ map kept fs

-- With an element before them.
one_more : {xs : List Element} {f : Nodes} {bs : List Block} {fs : List Nodes} (x : Element) (s : IdSet) (g : Nodes) (cs : List Block) (r : Read xs f bs fs)
    → free_step x (gap r.here bs) ≡ gap s cs → has s ≡ kept g → Read (x ∷ xs) g cs (g ∷ fs)
one_more {xs} x s g cs r e h =
    let z : free_passed (x ∷ xs) ≡ gap s cs = ap (free_step x) r.reached ∙ e in
    record {
      here = s;
      reached = z;
      first = h;
      all = ap₂ (λ f fs. f ∷ fs) (ap (λ p. has p.here) z ∙ h) r.all;
    }

-- The same of a block's branches, where the block keeps the followers behind its join and those of its later branches.
record Branched (b : Branches) (rest : Nodes) (after : IdSet) (xs : List Element) (bs : List Block) (fs : List Nodes) : Type 0 where
  heads : IdSet
  head : Nodes
  read : Read xs head (block after heads ∷ bs) fs
  each : has (union read.here heads) ≡ kept (branches_follow b rest)

mutual
  on_seq : {rest : Nodes} {ys : List Element} {bs : List Block} {fs : List Nodes} (t : Seq)
      → Read ys rest bs fs → Read (spell t ys) (follows t rest) bs (seq_followers t rest fs)
  on_seq nil r = r
  on_seq (cons x t) r = on_item x (on_seq t r)

  on_item : {rest : Nodes} {ys : List Element} {bs : List Block} {fs : List Nodes} (x : Item)
      → Read ys rest bs fs → Read (spell_item x ys) (item_follows x rest) bs (item_followers x rest fs)
  on_item {bs} (activity i) r = one_more (Activity i) (only i) (just i) bs r refl (kept_just i)
  on_item {bs} (loop t i) r =
      let q = on_seq t (one_more (LoopEnd i) (only i) (just i) bs r refl (kept_just i)) in
      one_more LoopStart q.here (follows t (just i)) bs q refl q.first
  on_item {rest} {bs} (and b) r =
      let q = on_branches b r.here r.first (one_more AndJoin r.here rest (block r.here empty ∷ bs) r refl r.first) in
      one_more AndSplit (union q.read.here q.heads) (branches_follow b rest) bs q.read refl q.each
  on_item {rest} {bs} (xor i b) r =
      let q = on_branches b r.here r.first (one_more XorJoin r.here rest (block r.here empty ∷ bs) r refl r.first) in
      one_more (XorSplit i) (only i) (just i) bs q.read refl (kept_just i)

  -- At the front stand the followers of the gap before the join.
  on_branches : {rest : Nodes} {ys : List Element} {bs : List Block} {fs : List Nodes} (b : Branches) (after : IdSet)
      → has after ≡ kept rest → Read ys rest (block after empty ∷ bs) (rest ∷ fs)
      → Branched b rest after (spell_branches b ys) bs (branch_followers b rest fs)
  on_branches {rest} (last t) after h r =
      let q = on_seq t r in
      record {
        heads = empty;
        head = follows t rest;
        read = q;
        each = fun_ext (λ u. has_union q.here empty u ∙ ap₂ (λ f a. f u || a) q.first (has_empty u) ∙ or_false (kept (follows t rest) u));
      }
  on_branches {rest} {bs} (bar t b) after h r =
      let z = on_branches b after h r in
      let heads = union z.read.here z.heads in
      let q = on_seq t (one_more Bar after rest (block after heads ∷ bs) z.read refl h) in
      record {
        heads = heads;
        head = follows t rest;
        read = q;
        each = fun_ext (λ u. has_union q.here heads u ∙ ap₂ (λ f g. f u || g u) q.first z.each ∙ kept_either (ltb u 64) (follows t rest u) (branches_follow b rest u));
      }

-- At every gap of the row of a tree the pass gives the followers of the tree.
row_read : (t : Seq) → told (flatten t) ≡ map kept (tree_followers t)
row_read t =
    let start : Read [] none [] (none ∷ []) = record { here = empty; reached = refl; first = kept_none; all = ap (λ f. f ∷ []) kept_none } in
    (on_seq t start).all

-- Past the end nothing is told.
told_at : (xs : List Element) (g : ℕ) → get_or (told xs) g (has empty) ≡ has (free_passed (drop g xs)).here
told_at [] zero = refl
told_at [] (suc g) = refl
told_at (x ∷ xs) zero = refl
told_at (x ∷ xs) (suc g) = told_at xs g

drop_few : (xs : List Element) (g : ℕ) → length xs ≤ 128 → length (drop g xs) ≤ 128
drop_few xs g h = let z = length-drop g xs in omega arith

pub followers_at : (xs : List Element) (g : ℕ) (s : IdSet) → s ≡ followers (drop g xs)
    → (t : Seq) → length xs ≤ 128 → xs ≡ flatten t → FollowersAt t g s
followers_at xs g s v t few e u =
    ap (λ z. has z u) (v ∙ ap (λ p. p.here) (passed_free (drop g xs) (drop_few xs g few)))
    ∙ ap (λ f. f u) (sym (told_at xs g)
    ∙ ap (λ ys. get_or (told ys) g (has empty)) e
    ∙ ap₂ (λ fs f. get_or fs g f) (row_read t) kept_none
    ∙ get_or-map kept (tree_followers t) g none)
