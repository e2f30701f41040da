-- Facts that differ only in the body of a loop whose test is undone give the same signals outside it. Assumes nothing.
use Rattle.std.proofs.Common.{◌≡◌, ℕ, ◌+◌, Bool, true, false, cond, ◌&&◌, ◌⊎◌, List, [], ◌∷◌, get_or, Option, sym, refl, ap, ◌∙◌, subst, ap₂, inl, inr}
use Rattle.std.specs.declared.option.Option.TheVariants as option
use Rattle.model.specs.declared.Element.{Element}
use Rattle.model.specs.declared.Element.TheVariants.{Bar, AndJoin, XorJoin, LoopEnd}
use Rattle.model.specs.declared.Fact.{Fact}
use Rattle.model.specs.declared.Fact.TheVariants.{Nothing}
use Rattle.model.specs.declared.Signal.{Signal}
use Rattle.model.specs.declared.Signal.TheVariants.{True, False, None}
use Rattle.model.specs.Elements.{node_id}
use Rattle.model.specs.Rows.{Bears}
use Rattle.model.specs.Trees.{Seq, nil, cons, Item, activity, loop, and, xor, Branches, last, bar, spell, spell_item, spell_branches, flatten}
use Rattle.model.specs.Nodes.{Holds, HoldsItem, HoldsBranches}
use Rattle.model.specs.Relations.{In, InItem, InBranches}
use Rattle.model.specs.Signals.{fact_of, is_true, is_false, unless_false, after_node, and_joined, decided, is_branch, head_of, ends, after, all_true, decided_end, gaps, gaps_item, gaps_and, gaps_xor, tree_signals}
use Rattle.edges.proofs.TreeOrder.{Once, OnceItem, OnceBranches}
use Rattle.ids.specs.Sets.{is_id}
use Rattle.schema.proofs.Wrongs.{decides_bears}
use Rattle.marking.specs.States.{own}
use Rattle.marking.proofs.FalseBlocks.{ends_false}
use Rattle.agreement.proofs.SoundRows.{later, own_later}
use Rattle.rounds.proofs.HeldItems.{held, held_at, held_item, held_branches}

module _ (fs gs : List Fact) (id : ℕ) where
  -- before the element of node id the signals are the same
  abbrev pub Alike : List Element → List Signal → List Signal → Type 0
  Alike [] us vs = Unit {0}
  Alike (x ∷ xs) us vs = (Bears x id → get_or us 0 None ≡ get_or vs 0 None) × Alike xs (later us) (later vs)

  pub own_alike : (xs : List Element) (us vs : List Signal) → Alike xs us vs → own xs us 0 id ≡ own xs vs 0 id
  own_alike [] us vs a = refl
  own_alike (x ∷ xs) us vs a = go (is_id (node_id x) id) refl (own_alike xs (later us) (later vs) a.1)
    where
      go : (b : Bool) → is_id (node_id x) id ≡ b → own xs (later us) 0 id ≡ own xs (later vs) 0 id
          → cond b (option.Some (get_or us 0 None)) (own xs us (0 + 1) id) ≡ cond b (option.Some (get_or vs 0 None)) (own xs vs (0 + 1) id)
      go true e rec = ap option.Some (a.0 ((decides_bears x id).0 e))
      go false e rec = own_later xs us 0 id ∙ rec ∙ sym (own_later xs vs 0 id)

  -- a loop apart from node id, with its test undone
  pub record Undone (t : Seq) (j : ℕ) : Type 0 where
    pub body : In t id → ⊥
    pub test : id ≡ j → ⊥
    pub first : fact_of fs j ≡ Nothing
    pub second : fact_of gs j ≡ Nothing

  -- the facts are the same outside such loops
  abbrev mutual
    pub Steady : Seq → Type 0
    Steady nil = Unit {0}
    Steady (cons x t) = SteadyItem x × Steady t

    pub SteadyItem : Item → Type 0
    SteadyItem (activity j) = fact_of fs j ≡ fact_of gs j
    SteadyItem (loop t j) = (Steady t × (fact_of fs j ≡ fact_of gs j)) ⊎ Undone t j
    SteadyItem (and b) = SteadyBranches b
    SteadyItem (xor j b) = (fact_of fs j ≡ fact_of gs j) × SteadyBranches b

    pub SteadyBranches : Branches → Type 0
    SteadyBranches (last t) = Steady t
    SteadyBranches (bar t b) = Steady t × SteadyBranches b

  -- then what a sequence ends with is the same
  mutual
    same_ends : (t : Seq) (g : Signal) → Steady t → ends fs t g ≡ ends gs t g
    same_ends nil g s = refl
    same_ends (cons x t) g s = same_ends t (after fs x g) s.1 ∙ ap (ends gs t) (same_after x g s.0)

    same_after : (x : Item) (g : Signal) → SteadyItem x → after fs x g ≡ after gs x g
    same_after (activity j) g s = ap (after_node g) s
    same_after (loop t j) g (inl s) = ap₂ after_node (same_ends t g s.0) s.1
    same_after (loop t j) g (inr s) =
        ap (after_node (ends fs t g)) s.first ∙ ap (λ b. cond b False None) (ends_false fs t g ∙ sym (ends_false gs t g)) ∙ sym (ap (after_node (ends gs t g)) s.second)
    same_after (and b) g s = ap (and_joined g) (same_all b g s)
    same_after (xor j b) g s =
        ap (λ f. unless_false g (decided_end fs b (is_false g) (decided f) 0)) s.0
        ∙ ap (unless_false g) (same_decided b (is_false g) (decided (fact_of gs j)) 0 s.1)

    same_all : (b : Branches) (g : Signal) → SteadyBranches b → all_true fs b g ≡ all_true gs b g
    same_all (last t) g s = ap is_true (same_ends t g s)
    same_all (bar t b) g s = ap₂ (λ x y. x && y) (ap is_true (same_ends t g s.0)) (same_all b g s.1)

    same_decided : (b : Branches) (k : Bool) (o : Option ℕ) (n : ℕ) → SteadyBranches b → decided_end fs b k o n ≡ decided_end gs b k o n
    same_decided (last t) k o n s = ap (λ v. cond (is_branch o n) v None) (same_ends t (head_of k o n) s)
    same_decided (bar t b) k o n s = ap₂ (λ v w. cond (is_branch o n) v w) (same_ends t (head_of k o n) s.0) (same_decided b k o (n + 1) s.1)

  -- parts without node id are alike whatever their signals
  mutual
    apart : (t : Seq) (g h : Signal) (ys : List Element) (us vs : List Signal) → (In t id → ⊥) → Alike ys us vs → Alike (spell t ys) (gaps fs t g us) (gaps gs t h vs)
    apart nil g h ys us vs n a = a
    apart (cons x t) g h ys us vs n a =
        apart_item x g h (spell t ys) _ _ (λ i. n (inl i)) (apart t (after fs x g) (after gs x h) ys us vs (λ i. n (inr i)) a)

    apart_item : (x : Item) (g h : Signal) (ys : List Element) (us vs : List Signal) → (InItem x id → ⊥) → Alike ys us vs
        → Alike (spell_item x ys) (gaps_item fs x g us) (gaps_item gs x h vs)
    apart_item (activity j) g h ys us vs n a = (λ b. absurd (n b), a)
    apart_item (loop t j) g h ys us vs n a =
        (λ b. elim b [ ], apart t g h (LoopEnd j ∷ ys) (ends fs t g ∷ us) (ends gs t h ∷ vs) (λ i. n (inl i)) (λ b. absurd (n (inr b)), a))
    apart_item (and b) g h ys us vs n a = (λ e. elim e [ ], apart_and b g h AndJoin ys us vs (λ e. e) n a)
    apart_item (xor j b) g h ys us vs n a = (
      λ e. absurd (n (inl e)),
      apart_xor b (is_false g) (is_false h) (decided (fact_of fs j)) (decided (fact_of gs j)) 0 XorJoin ys us vs (λ e. e) (λ i. n (inr i)) a,
    )

    apart_and : (b : Branches) (g h : Signal) (z : Element) (ys : List Element) (us vs : List Signal) → (Bears z id → ⊥) → (InBranches b id → ⊥) → Alike ys us vs
        → Alike (spell_branches b (z ∷ ys)) (gaps_and fs b g us) (gaps_and gs b h vs)
    apart_and (last t) g h z ys us vs q n a = apart t g h (z ∷ ys) (ends fs t g ∷ us) (ends gs t h ∷ vs) n (λ e. absurd (q e), a)
    apart_and (bar t b) g h z ys us vs q n a =
        apart t g h (Bar ∷ spell_branches b (z ∷ ys)) (ends fs t g ∷ gaps_and fs b g us) (ends gs t h ∷ gaps_and gs b h vs) (λ i. n (inl i))
        (λ e. elim e [ ], apart_and b g h z ys us vs q (λ i. n (inr i)) a)

    apart_xor : (b : Branches) (k m : Bool) (o p : Option ℕ) (n : ℕ) (z : Element) (ys : List Element) (us vs : List Signal) → (Bears z id → ⊥) → (InBranches b id → ⊥)
        → Alike ys us vs → Alike (spell_branches b (z ∷ ys)) (gaps_xor fs b k o n us) (gaps_xor gs b m p n vs)
    apart_xor (last t) k m o p n z ys us vs q off a =
        apart t (head_of k o n) (head_of m p n) (z ∷ ys) (ends fs t (head_of k o n) ∷ us) (ends gs t (head_of m p n) ∷ vs) off (λ e. absurd (q e), a)
    apart_xor (bar t b) k m o p n z ys us vs q off a =
        apart t (head_of k o n) (head_of m p n) (Bar ∷ spell_branches b (z ∷ ys))
        (ends fs t (head_of k o n) ∷ gaps_xor fs b k o (n + 1) us) (ends gs t (head_of m p n) ∷ gaps_xor gs b m p (n + 1) vs) (λ i. off (inl i))
        (λ e. elim e [ ], apart_xor b k m o p (n + 1) z ys us vs q (λ i. off (inr i)) a)

  -- and so are steady ones that begin with the same signal
  mutual
    alike : (t : Seq) (g : Signal) (ys : List Element) (us vs : List Signal) → Steady t → Alike ys us vs → Alike (spell t ys) (gaps fs t g us) (gaps gs t g vs)
    alike nil g ys us vs s a = a
    alike (cons x t) g ys us vs s a =
        alike_item x g (spell t ys) _ _ s.0
        (subst (λ w. Alike (spell t ys) (gaps fs t (after fs x g) us) (gaps gs t w vs)) (same_after x g s.0) (alike t (after fs x g) ys us vs s.1 a))

    alike_item : (x : Item) (g : Signal) (ys : List Element) (us vs : List Signal) → SteadyItem x → Alike ys us vs
        → Alike (spell_item x ys) (gaps_item fs x g us) (gaps_item gs x g vs)
    alike_item (activity j) g ys us vs s a = (λ e. refl, a)
    alike_item (loop t j) g ys us vs (inl s) a =
        (λ e. refl, alike t g (LoopEnd j ∷ ys) (ends fs t g ∷ us) (ends gs t g ∷ vs) s.0 (λ e. same_ends t g s.0, a))
    alike_item (loop t j) g ys us vs (inr s) a =
        (λ e. refl, apart t g g (LoopEnd j ∷ ys) (ends fs t g ∷ us) (ends gs t g ∷ vs) s.body (λ e. absurd (s.test e), a))
    alike_item (and b) g ys us vs s a = (λ e. refl, alike_and b g AndJoin ys us vs s a)
    alike_item (xor j b) g ys us vs s a = (
      λ e. refl,
      subst (λ f. Alike (spell_branches b (XorJoin ∷ ys)) (gaps_xor fs b (is_false g) (decided (fact_of fs j)) 0 us) (gaps_xor gs b (is_false g) (decided f) 0 vs)) s.0
          (alike_xor b (is_false g) (decided (fact_of fs j)) 0 XorJoin ys us vs s.1 a),
    )

    alike_and : (b : Branches) (g : Signal) (z : Element) (ys : List Element) (us vs : List Signal) → SteadyBranches b → Alike ys us vs
        → Alike (spell_branches b (z ∷ ys)) (gaps_and fs b g us) (gaps_and gs b g vs)
    alike_and (last t) g z ys us vs s a = alike t g (z ∷ ys) (ends fs t g ∷ us) (ends gs t g ∷ vs) s (λ e. same_ends t g s, a)
    alike_and (bar t b) g z ys us vs s a =
        alike t g (Bar ∷ spell_branches b (z ∷ ys)) (ends fs t g ∷ gaps_and fs b g us) (ends gs t g ∷ gaps_and gs b g vs) s.0
        (λ e. same_ends t g s.0, alike_and b g z ys us vs s.1 a)

    alike_xor : (b : Branches) (k : Bool) (o : Option ℕ) (n : ℕ) (z : Element) (ys : List Element) (us vs : List Signal) → SteadyBranches b → Alike ys us vs
        → Alike (spell_branches b (z ∷ ys)) (gaps_xor fs b k o n us) (gaps_xor gs b k o n vs)
    alike_xor (last t) k o n z ys us vs s a =
        alike t (head_of k o n) (z ∷ ys) (ends fs t (head_of k o n) ∷ us) (ends gs t (head_of k o n) ∷ vs) s (λ e. same_ends t (head_of k o n) s, a)
    alike_xor (bar t b) k o n z ys us vs s a =
        alike t (head_of k o n) (Bar ∷ spell_branches b (z ∷ ys))
        (ends fs t (head_of k o n) ∷ gaps_xor fs b k o (n + 1) us) (ends gs t (head_of k o n) ∷ gaps_xor gs b k o (n + 1) vs) s.0
        (λ e. same_ends t (head_of k o n) s.0, alike_xor b k o (n + 1) z ys us vs s.1 a)

  -- facts that differ in the body of one such loop only
  module _ (u : Seq) (i : ℕ) (same : (j : ℕ) → (In u j → ⊥) → fact_of fs j ≡ fact_of gs j) (undone : Undone u i) where
    mutual
      off : (t : Seq) → ((j : ℕ) → In t j → In u j → ⊥) → Steady t
      off nil n = tt
      off (cons x t) n = (off_item x (λ j h. n j (inl h)), off t (λ j h. n j (inr h)))

      off_item : (x : Item) → ((j : ℕ) → InItem x j → In u j → ⊥) → SteadyItem x
      off_item (activity j) n = same j (n j refl)
      off_item (loop t j) n = inl (off t (λ k h. n k (inl h)), same j (n j (inr refl)))
      off_item (and b) n = off_branches b n
      off_item (xor j b) n = (same j (n j (inl refl)), off_branches b (λ k h. n k (inr h)))

      off_branches : (b : Branches) → ((j : ℕ) → InBranches b j → In u j → ⊥) → SteadyBranches b
      off_branches (last t) n = off t n
      off_branches (bar t b) n = (off t (λ j h. n j (inl h)), off_branches b (λ j h. n j (inr h)))

    mutual
      steady : (t : Seq) → Once t → Holds t (loop u i) → Steady t
      steady nil o h = elim h [ ]
      steady (cons x t) o (inl (inl e)) = (subst SteadyItem e (inr undone), off t (λ j k m. o.2 j (held_at (loop u i) j (inl m) x (inl e)) k))
      steady (cons x t) o (inl (inr h)) = (steady_item x o.0 h, off t (λ j k m. o.2 j (held_item (loop u i) j (inl m) x h) k))
      steady (cons x t) o (inr h) = (off_item x (λ j k m. o.2 j k (held (loop u i) j (inl m) t h)), steady t o.1 h)

      steady_item : (x : Item) → OnceItem x → HoldsItem x (loop u i) → SteadyItem x
      steady_item (activity j) o h = elim h [ ]
      steady_item (loop t j) o h = inl (steady t o.0 h, same j (λ m. o.1 (held (loop u i) j (inl m) t h)))
      steady_item (and b) o h = steady_branches b o h
      steady_item (xor j b) o h = (same j (λ m. o.1 (held_branches (loop u i) j (inl m) b h)), steady_branches b o.0 h)

      steady_branches : (b : Branches) → OnceBranches b → HoldsBranches b (loop u i) → SteadyBranches b
      steady_branches (last t) o h = steady t o h
      steady_branches (bar t b) o (inl h) = (steady t o.0 h, off_branches b (λ j k m. o.2 j (held (loop u i) j (inl m) t h) k))
      steady_branches (bar t b) o (inr h) = (off t (λ j k m. o.2 j k (held_branches (loop u i) j (inl m) b h)), steady_branches b o.1 h)

    pub tree_alike : (t : Seq) → Once t → Holds t (loop u i) → Alike (flatten t) (tree_signals fs t) (tree_signals gs t)
    tree_alike t o h = alike t True [] (ends fs t True ∷ []) (ends gs t True ∷ []) (steady t o h) tt
