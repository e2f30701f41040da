-- Nodes of a row with their own signals. Assumes nothing.
use Rattle.std.proofs.Common.{◌≡◌, ℕ, suc, ◌+◌, Bool, true, false, cond, ◌⊎◌, List, [], ◌∷◌, get_or, Option, sym, refl, ap, ◌∙◌, subst, inl, inr, add-one}
use Rattle.std.specs.declared.option.Option.TheVariants as option
use Rattle.model.specs.declared.Element.{Element}
use Rattle.model.specs.declared.Element.TheVariants.{Bar, AndJoin, XorJoin, LoopEnd}
use Rattle.model.specs.declared.Fact.{Fact}
use Rattle.model.specs.declared.Signal.{Signal}
use Rattle.model.specs.declared.Signal.TheVariants.{None}
use Rattle.model.specs.Elements.{node_id}
use Rattle.model.specs.Rows.{Bears, Among, Unique}
use Rattle.model.specs.Trees.{Seq, nil, cons, Item, activity, loop, and, xor, Branches, last, bar, spell, spell_item, spell_branches}
use Rattle.model.specs.Signals.{fact_of, is_false, decided, head_of, ends, after, gaps, gaps_item, gaps_and, gaps_xor}
use Rattle.ids.specs.Sets.{is_id}
use Rattle.schema.proofs.Wrongs.{decides_bears}
use Rattle.marking.specs.States.{own}
use Rattle.agreement.specs.Growth.{Leq}

-- the signals behind the first gap
abbrev pub later : List Signal → List Signal
later [] = []
later (g ∷ gs) = gs

-- node i stands in the row, with the own signal v
abbrev pub Stands : List Element → List Signal → ℕ → Signal → Type 0
Stands [] gs i v = ⊥
Stands (x ∷ xs) gs i v = (Bears x i × (v ≡ get_or gs 0 None)) ⊎ Stands xs (later gs) i v

getD_later : (gs : List Signal) (p : ℕ) → get_or gs (suc p) None ≡ get_or (later gs) p None
getD_later [] p = refl
getD_later (g ∷ gs) p = refl

pub own_later : (xs : List Element) (gs : List Signal) (p id : ℕ) → own xs gs (p + 1) id ≡ own xs (later gs) p id
own_later [] gs p id = refl
own_later (x ∷ xs) gs p id =
    ap (λ n. cond (is_id (node_id x) id) (option.Some (get_or gs n None)) (own xs gs (p + 1 + 1) id)) (add-one p)
    ∙ ap (λ v. cond (is_id (node_id x) id) (option.Some v) (own xs gs (p + 1 + 1) id)) (getD_later gs p)
    ∙ ap (λ o. cond (is_id (node_id x) id) (option.Some (get_or (later gs) p None)) o) (own_later xs gs (p + 1) id)

-- what is found stands there
pub own_stands : (xs : List Element) (gs : List Signal) (id : ℕ) (g : Signal) → own xs gs 0 id ≡ option.Some g → Stands xs gs id g
own_stands [] gs id g e = absurd cc
own_stands (x ∷ xs) gs id g e = go (is_id (node_id x) id) refl e (own_stands xs (later gs) id g)
  where
    go : (b : Bool) → is_id (node_id x) id ≡ b → cond b (option.Some (get_or gs 0 None)) (own xs gs (0 + 1) id) ≡ option.Some g
        → (own xs (later gs) 0 id ≡ option.Some g → Stands xs (later gs) id g) → Stands (x ∷ xs) gs id g
    go true i h rec = inl ((decides_bears x id).0 i, cc)
    go false i h rec = inr (rec (sym (own_later xs gs 0 id) ∙ h))

pub stands_among : (xs : List Element) (gs : List Signal) (id : ℕ) (g : Signal) → Stands xs gs id g → Among xs id
stands_among [] gs id g h = elim h [ ]
stands_among (x ∷ xs) gs id g (inl h) = inl h.0
stands_among (x ∷ xs) gs id g (inr h) = inr (stands_among xs (later gs) id g h)

-- in a row with unique ids, what stands there is found
pub stands_own : (xs : List Element) (gs : List Signal) (id : ℕ) (g : Signal) → Unique xs → Stands xs gs id g → own xs gs 0 id ≡ option.Some g
stands_own [] gs id g u h = elim h [ ]
stands_own (x ∷ xs) gs id g u (inl h) =
    ap (λ b. cond b (option.Some (get_or gs 0 None)) (own xs gs (0 + 1) id)) ((decides_bears x id).1 h.0) ∙ ap option.Some (sym h.1)
stands_own (x ∷ xs) gs id g u (inr h) = go (is_id (node_id x) id) refl (stands_own xs (later gs) id g u.1 h)
  where
    go : (b : Bool) → is_id (node_id x) id ≡ b → own xs (later gs) 0 id ≡ option.Some g → own (x ∷ xs) gs 0 id ≡ option.Some g
    go true e rec = absurd (u.0 id ((decides_bears x id).0 e) (stands_among xs (later gs) id g h))
    go false e rec = ap (λ b. cond b (option.Some (get_or gs 0 None)) (own xs gs (0 + 1) id)) e ∙ own_later xs gs 0 id ∙ rec

-- signals that grew, gap by gap
abbrev pub Leqs : List Signal → List Signal → Type 0
Leqs us vs = (p : ℕ) → Leq (get_or us p None) (get_or vs p None)

leqs_later : (us vs : List Signal) → Leqs us vs → Leqs (later us) (later vs)
leqs_later us vs l p = subst (λ v. Leq (get_or (later us) p None) v) (getD_later vs p) (subst (λ u. Leq u (get_or vs (suc p) None)) (getD_later us p) (l (suc p)))

-- what stands there stood there with a signal that grew
pub stood : (xs : List Element) (us vs : List Signal) (i : ℕ) (v : Signal) → Leqs us vs → Stands xs vs i v → (u : Signal) × Stands xs us i u × Leq u v
stood [] us vs i v l h = elim h [ ]
stood (x ∷ xs) us vs i v l (inl h) = (get_or us 0 None, inl (h.0, refl), subst (λ w. Leq (get_or us 0 None) w) (sym h.1) (l 0))
stood (x ∷ xs) us vs i v l (inr h) = let r = stood xs (later us) (later vs) i v (leqs_later us vs l) h in (r.0, inr r.1, r.2)

-- what stands behind a part of the tree's row stands in the row
module _ (fs : List Fact) (i : ℕ) (v : Signal) where
  mutual
    pub past : (t : Seq) (g : Signal) (ys : List Element) (rest : List Signal) → Stands ys rest i v → Stands (spell t ys) (gaps fs t g rest) i v
    past nil g ys rest h = h
    past (cons x t) g ys rest h = past_item x g (spell t ys) (gaps fs t (after fs x g) rest) (past t (after fs x g) ys rest h)

    pub past_item : (x : Item) (g : Signal) (ys : List Element) (rest : List Signal) → Stands ys rest i v → Stands (spell_item x ys) (gaps_item fs x g rest) i v
    past_item (activity j) g ys rest h = inr h
    past_item (loop t j) g ys rest h = inr (past t g (LoopEnd j ∷ ys) (ends fs t g ∷ rest) (inr h))
    past_item (and b) g ys rest h = inr (past_and b g AndJoin ys rest h)
    past_item (xor j b) g ys rest h = inr (past_xor b (is_false g) (decided (fact_of fs j)) 0 XorJoin ys rest h)

    pub past_and : (b : Branches) (g : Signal) (z : Element) (ys : List Element) (rest : List Signal) → Stands ys rest i v → Stands (spell_branches b (z ∷ ys)) (gaps_and fs b g rest) i v
    past_and (last t) g z ys rest h = past t g (z ∷ ys) (ends fs t g ∷ rest) (inr h)
    past_and (bar t b) g z ys rest h =
        past t g (Bar ∷ spell_branches b (z ∷ ys)) (ends fs t g ∷ gaps_and fs b g rest) (inr (past_and b g z ys rest h))

    pub past_xor : (b : Branches) (k : Bool) (o : Option ℕ) (n : ℕ) (z : Element) (ys : List Element) (rest : List Signal)
        → Stands ys rest i v → Stands (spell_branches b (z ∷ ys)) (gaps_xor fs b k o n rest) i v
    past_xor (last t) k o n z ys rest h = past t (head_of k o n) (z ∷ ys) (ends fs t (head_of k o n) ∷ rest) (inr h)
    past_xor (bar t b) k o n z ys rest h =
        past t (head_of k o n) (Bar ∷ spell_branches b (z ∷ ys)) (ends fs t (head_of k o n) ∷ gaps_xor fs b k o (n + 1) rest) (inr (past_xor b k o (n + 1) z ys rest h))
