-- What the pass keeps at the gaps of a row, computed over its tree. Assumes nothing.
use Rattle.std.proofs.Common.{◌≡◌, ℕ, ◌<◌, Bool, true, false, List, [], ◌∷◌, length, get_or, set, sym, refl, ◌∙◌, subst, inl, inr, length-set}
use Rattle.ids.specs.declared.IdSet.{IdSet}
use Rattle.ids.specs.Sets.{empty, union}
use Rattle.std.proofs.lemmas.List.{get_or-set_same, get_or-set_other}
use Rattle.model.specs.declared.Element.{Element}
use Rattle.model.specs.declared.Element.TheVariants.{Bar, AndJoin, XorJoin, LoopEnd}
use Rattle.model.specs.Trees.{Seq, nil, cons, Item, activity, loop, and, xor, Branches, last, bar, spell, spell_item, spell_branches, flatten}
use Rattle.edges.specs.declared.places.Spot.{Spot}
use Rattle.edges.specs.declared.places.Opened.{Opened}
use Rattle.edges.specs.Places.{past_node, past_activity, enter, enter_loop, turn, leave, leave_loop, opened, state, noted}
use Rattle.model.specs.Relations.{In, InItem, InBranches}
use Rattle.edges.proofs.TreeOrder.{Once, OnceItem, OnceBranches}

-- the gap after
abbrev mutual
  pub after : Seq → Spot → Spot
  after nil s = s
  after (cons x t) s = after t (after_item x s)

  pub after_item : Item → Spot → Spot
  after_item (activity i) s = past_activity i s
  after_item (loop t i) s = leave_loop i s (after t (enter_loop s))
  after_item (and b) s = after_branches true b s empty (enter s)
  after_item (xor i b) s = after_branches false b (past_node i s) empty (enter (past_node i s))

  pub after_branches : Bool → Branches → Spot → IdSet → Spot → Spot
  after_branches p (last t) o g s = leave o g (after t s)
  after_branches p (bar t b) o g s = after_branches p b o (union g (after t s).seen) (turn p (after t s))

-- the gap before a node, and whether that is an activity
module _ (v : ℕ) where
  abbrev mutual
    pub at : (t : Seq) → In t v → Spot → Spot
    at nil h s = s
    at (cons x t) (inl h) s = at_item x h s
    at (cons x t) (inr h) s = at t h (after_item x s)

    pub at_item : (x : Item) → InItem x v → Spot → Spot
    at_item (activity i) h s = s
    at_item (loop t i) (inl h) s = at t h (enter_loop s)
    at_item (loop t i) (inr h) s = after t (enter_loop s)
    at_item (and b) h s = at_branches true b h (enter s)
    at_item (xor i b) (inl h) s = s
    at_item (xor i b) (inr h) s = at_branches false b h (enter (past_node i s))

    pub at_branches : Bool → (b : Branches) → InBranches b v → Spot → Spot
    at_branches p (last t) h s = at t h s
    at_branches p (bar t b) (inl h) s = at t h s
    at_branches p (bar t b) (inr h) s = at_branches p b h (turn p (after t s))

  abbrev mutual
    pub acts : (t : Seq) → In t v → Bool
    acts nil h = false
    acts (cons x t) (inl h) = acts_item x h
    acts (cons x t) (inr h) = acts t h

    pub acts_item : (x : Item) → InItem x v → Bool
    acts_item (activity i) h = true
    acts_item (loop t i) (inl h) = acts t h
    acts_item (loop t i) (inr h) = false
    acts_item (and b) h = acts_branches b h
    acts_item (xor i b) (inl h) = false
    acts_item (xor i b) (inr h) = acts_branches b h

    pub acts_branches : (b : Branches) → InBranches b v → Bool
    acts_branches (last t) h = acts t h
    acts_branches (bar t b) (inl h) = acts t h
    acts_branches (bar t b) (inr h) = acts_branches b h

module _ (f : Bool → Spot → IdSet) where
  abbrev mutual
    pub write : Seq → Spot → List IdSet → List IdSet
    write nil s sets = sets
    write (cons x t) s sets = write t (after_item x s) (write_item x s sets)

    pub write_item : Item → Spot → List IdSet → List IdSet
    write_item (activity i) s sets = set sets i (f true s)
    write_item (loop t i) s sets = set (write t (enter_loop s) sets) i (f false (after t (enter_loop s)))
    write_item (and b) s sets = write_branches true b (enter s) sets
    write_item (xor i b) s sets = write_branches false b (enter (past_node i s)) (set sets i (f false s))

    pub write_branches : Bool → Branches → Spot → List IdSet → List IdSet
    write_branches p (last t) s sets = write t s sets
    write_branches p (bar t b) s sets = write_branches p b (turn p (after t s)) (write t s sets)

  mutual
    on_seq : (t : Seq) (s : Spot) (os : List Opened) (sets : List IdSet) (ys : List Element)
        → noted f sets (state s os) (spell t ys) ≡ noted f (write t s sets) (state (after t s) os) ys
    on_seq nil s os sets ys = refl
    on_seq (cons x t) s os sets ys = on_item x s os sets (spell t ys) ∙ on_seq t (after_item x s) os (write_item x s sets) ys

    on_item : (x : Item) (s : Spot) (os : List Opened) (sets : List IdSet) (ys : List Element)
        → noted f sets (state s os) (spell_item x ys) ≡ noted f (write_item x s sets) (state (after_item x s) os) ys
    on_item (activity i) s os sets ys = refl
    on_item (loop t i) s os sets ys = on_seq t (enter_loop s) (opened s empty false ∷ os) sets (LoopEnd i ∷ ys)
    on_item (and b) s os sets ys = on_and b s empty (enter s) os sets ys
    on_item (xor i b) s os sets ys = on_xor b (past_node i s) empty (enter (past_node i s)) os (set sets i (f false s)) ys

    on_and : (b : Branches) (o : Spot) (g : IdSet) (s : Spot) (os : List Opened) (sets : List IdSet) (ys : List Element)
        → noted f sets (state s (opened o g true ∷ os)) (spell_branches b (AndJoin ∷ ys)) ≡ noted f (write_branches true b s sets) (state (after_branches true b o g s) os) ys
    on_and (last t) o g s os sets ys = on_seq t s (opened o g true ∷ os) sets (AndJoin ∷ ys)
    on_and (bar t b) o g s os sets ys =
        on_seq t s (opened o g true ∷ os) sets (Bar ∷ spell_branches b (AndJoin ∷ ys))
        ∙ on_and b o (union g (after t s).seen) (turn true (after t s)) os (write t s sets) ys

    on_xor : (b : Branches) (o : Spot) (g : IdSet) (s : Spot) (os : List Opened) (sets : List IdSet) (ys : List Element)
        → noted f sets (state s (opened o g false ∷ os)) (spell_branches b (XorJoin ∷ ys)) ≡ noted f (write_branches false b s sets) (state (after_branches false b o g s) os) ys
    on_xor (last t) o g s os sets ys = on_seq t s (opened o g false ∷ os) sets (XorJoin ∷ ys)
    on_xor (bar t b) o g s os sets ys =
        on_seq t s (opened o g false ∷ os) sets (Bar ∷ spell_branches b (XorJoin ∷ ys))
        ∙ on_xor b o (union g (after t s).seen) (turn false (after t s)) os (write t s sets) ys

  pub on_tree : (t : Seq) (s : Spot) (sets : List IdSet) → noted f sets (state s []) (flatten t) ≡ write t s sets
  on_tree t s sets = on_seq t s [] sets []

  mutual
    pub long : (t : Seq) (s : Spot) (sets : List IdSet) → length (write t s sets) ≡ length sets
    long nil s sets = refl
    long (cons x t) s sets = long t (after_item x s) (write_item x s sets) ∙ long_item x s sets

    long_item : (x : Item) (s : Spot) (sets : List IdSet) → length (write_item x s sets) ≡ length sets
    long_item (activity i) s sets = length-set sets i (f true s)
    long_item (loop t i) s sets = length-set (write t (enter_loop s) sets) i _ ∙ long t (enter_loop s) sets
    long_item (and b) s sets = long_branches true b (enter s) sets
    long_item (xor i b) s sets = long_branches false b (enter (past_node i s)) (set sets i (f false s)) ∙ length-set sets i (f false s)

    long_branches : (p : Bool) (b : Branches) (s : Spot) (sets : List IdSet) → length (write_branches p b s sets) ≡ length sets
    long_branches p (last t) s sets = long t s sets
    long_branches p (bar t b) s sets = long_branches p b (turn p (after t s)) (write t s sets) ∙ long t s sets

  -- what is noted of another node stays
  module _ (v : ℕ) where
    mutual
      pub other : (t : Seq) (s : Spot) (sets : List IdSet) → (In t v → ⊥) → get_or (write t s sets) v empty ≡ get_or sets v empty
      other nil s sets n = refl
      other (cons x t) s sets n = other t (after_item x s) (write_item x s sets) (λ h. n (inr h)) ∙ other_item x s sets (λ h. n (inl h))

      other_item : (x : Item) (s : Spot) (sets : List IdSet) → (InItem x v → ⊥) → get_or (write_item x s sets) v empty ≡ get_or sets v empty
      other_item (activity i) s sets n = get_or-set_other sets i v (f true s) empty n
      other_item (loop t i) s sets n = get_or-set_other (write t (enter_loop s) sets) i v _ empty (λ h. n (inr h)) ∙ other t (enter_loop s) sets (λ h. n (inl h))
      other_item (and b) s sets n = other_branches true b (enter s) sets n
      other_item (xor i b) s sets n =
          other_branches false b (enter (past_node i s)) (set sets i (f false s)) (λ h. n (inr h)) ∙ get_or-set_other sets i v (f false s) empty (λ h. n (inl h))

      other_branches : (p : Bool) (b : Branches) (s : Spot) (sets : List IdSet) → (InBranches b v → ⊥) → get_or (write_branches p b s sets) v empty ≡ get_or sets v empty
      other_branches p (last t) s sets n = other t s sets n
      other_branches p (bar t b) s sets n = other_branches p b (turn p (after t s)) (write t s sets) (λ h. n (inr h)) ∙ other t s sets (λ h. n (inl h))

    own : (sets : List IdSet) (i : ℕ) (x : IdSet) → v ≡ i → v < length sets → get_or (set sets i x) v empty ≡ x
    own sets i x e h = subst (λ k. get_or (set sets k x) v empty ≡ x) e (get_or-set_same sets v x empty h)

    mutual
      pub value : (t : Seq) (s : Spot) (sets : List IdSet) → Once t → v < length sets → (h : In t v) → get_or (write t s sets) v empty ≡ f (acts v t h) (at v t h s)
      value nil s sets o l h = elim h [ ]
      value (cons x t) s sets o l (inl h) = other t (after_item x s) (write_item x s sets) (o.2 v h) ∙ value_item x s sets o.0 l h
      value (cons x t) s sets o l (inr h) = value t (after_item x s) (write_item x s sets) o.1 (subst (λ n. v < n) (sym (long_item x s sets)) l) h

      value_item : (x : Item) (s : Spot) (sets : List IdSet) → OnceItem x → v < length sets → (h : InItem x v) → get_or (write_item x s sets) v empty ≡ f (acts_item v x h) (at_item v x h s)
      value_item (activity i) s sets o l h = own sets i (f true s) h l
      value_item (loop t i) s sets o l (inl h) =
          get_or-set_other (write t (enter_loop s) sets) i v _ empty (λ e. o.1 (subst (In t) e h)) ∙ value t (enter_loop s) sets o.0 l h
      value_item (loop t i) s sets o l (inr h) = own (write t (enter_loop s) sets) i _ h (subst (λ n. v < n) (sym (long t (enter_loop s) sets)) l)
      value_item (and b) s sets o l h = value_branches true b (enter s) sets o l h
      value_item (xor i b) s sets o l (inl h) =
          other_branches false b (enter (past_node i s)) (set sets i (f false s)) (λ k. o.1 (subst (InBranches b) h k)) ∙ own sets i (f false s) h l
      value_item (xor i b) s sets o l (inr h) =
          value_branches false b (enter (past_node i s)) (set sets i (f false s)) o.0 (subst (λ n. v < n) (sym (length-set sets i (f false s))) l) h

      value_branches : (p : Bool) (b : Branches) (s : Spot) (sets : List IdSet) → OnceBranches b → v < length sets → (h : InBranches b v) → get_or (write_branches p b s sets) v empty ≡ f (acts_branches v b h) (at_branches v p b h s)
      value_branches p (last t) s sets o l h = value t s sets o l h
      value_branches p (bar t b) s sets o l (inl h) = other_branches p b (turn p (after t s)) (write t s sets) (o.2 v h) ∙ value t s sets o.0 l h
      value_branches p (bar t b) s sets o l (inr h) =
          value_branches p b (turn p (after t s)) (write t s sets) o.1 (subst (λ n. v < n) (sym (long t s sets)) l) h
