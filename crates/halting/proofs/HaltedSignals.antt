-- What a sequence makes of a signal that was halted: what it ends with, and its nodes' own signals. Assumes nothing.
use Rattle.std.proofs.Common.{◌≡◌, ℕ, ◌+◌, Bool, true, false, cond, ◌&&◌, ◌||◌, ◌⊎◌, eqb, List, Option, sym, refl, ap, ◌∙◌, subst, ap₂, inl, inr}
use Rattle.std.specs.declared.option.Option.TheVariants as option
use Rattle.std.proofs.lemmas.Bool.{or_right}
use Rattle.model.specs.declared.Fact.{Fact}
use Rattle.model.specs.declared.Signal.{Signal}
use Rattle.model.specs.declared.Signal.TheVariants.{True, False, None}
use Rattle.model.specs.Trees.{Seq, nil, cons, Item, activity, loop, and, xor, Branches, last, bar}
use Rattle.model.specs.Signals.{fact_of, is_true, unless_false, after_node, and_joined, decided, head_of, ends, after}
use Rattle.halting.proofs.StoppedSequences.{stop, stop_if, passable, passable_item, within, within_item, within_branches, false_stop, stopped_ends, stopped_after}
use Rattle.halting.proofs.OwnSignals.{first, at, own_of, own_of_item, own_of_branches}

-- where T holds
module _ (T : Type 0) where
  -- a signal is as it was, or it was true and is none now, and then b holds
  abbrev pub Slowed : Bool → Signal → Signal → Type 0
  Slowed b u v = (v ≡ u) ⊎ (T × (b ≡ true) × (u ≡ True) × (v ≡ None))

  -- the same of a node's own signal
  abbrev pub Halted : Bool → Option Signal → Option Signal → Type 0
  Halted b u v = (v ≡ u) ⊎ (T × (b ≡ true) × (u ≡ option.Some True) × (v ≡ option.Some None))

  pub halted_first : (b c : Bool) (u v w z : Option Signal) → Halted b u v → Halted c w z → Halted (b || c) (first u w) (first v z)
  halted_first b c u v w z (inr h) k = inr (h.0, ap (λ x. x || c) h.1, ap (λ o. first o w) h.2, ap (λ o. first o z) h.3)
  halted_first b c option.None v w z (inl e) (inl k) = inl (ap₂ first e k)
  halted_first b c option.None v w z (inl e) (inr k) = inr (k.0, or_right b c k.1, k.2, ap (λ o. first o z) e ∙ k.3)
  halted_first b c (option.Some g) v w z (inl e) k = inl (ap (λ o. first o z) e)

  -- behind what did not change, and before it
  pub halted_behind : (c : Bool) (u w z : Option Signal) → Halted c w z → Halted c (first u w) (first u z)
  halted_behind c option.None w z h = h
  halted_behind c (option.Some g) w z h = inl refl

  pub halted_before : (b : Bool) (u v w : Option Signal) → Halted b u v → Halted b (first u w) (first v w)
  halted_before b u v w (inl e) = inl (ap (λ o. first o w) e)
  halted_before b u v w (inr h) = inr (h.0, h.1, ap (λ o. first o w) h.2, ap (λ o. first o w) h.3)

  pub halted_at : (j i : ℕ) (b : Bool) (u v : Signal) → Slowed b u v → Halted (b && eqb i j) (at j i u) (at j i v)
  halted_at j i b u v (inl e) = inl (ap (at j i) e)
  halted_at j i b u v (inr h) = go (eqb i j)
    where
      go : (c : Bool) → Halted (b && c) (cond c (option.Some u) option.None) (cond c (option.Some v) option.None)
      go true = inr (h.0, ap (λ x. x && true) h.1, ap option.Some h.2, ap option.Some h.3)
      go false = inl refl

module _ (T : Type 0) (holds : T) where
  slowed_stop : (b : Bool) (g : Signal) → Slowed T b g (stop_if b g)
  slowed_stop true True = inr (holds, refl, refl, refl)
  slowed_stop true False = inl refl
  slowed_stop true None = inl refl
  slowed_stop false g = inl refl

  module _ (fs : List Fact) (i : ℕ) where
    own_if : (b : Bool) (t : Seq) (g : Signal) → Halted T (within t i) (own_of fs t g i) (own_of fs t (stop g) i)
        → Halted T (b && within t i) (own_of fs t g i) (own_of fs t (stop_if b g) i)
    own_if true t g h = h
    own_if false t g h = inl refl

    -- where a sequence begins stopped, only its first gap's followers may be halted
    mutual
      pub stopped_own : (t : Seq) (g : Signal) → Halted T (within t i) (own_of fs t g i) (own_of fs t (stop g) i)
      stopped_own nil g = inl refl
      stopped_own (cons x t) g =
          halted_first T (within_item x i) (passable_item x && within t i) _ _ _ _ (stopped_item x g)
          (subst (λ v. Halted T (passable_item x && within t i) (own_of fs t (after fs x g) i) (own_of fs t v i)) (sym (stopped_after fs x g))
          (own_if (passable_item x) t (after fs x g) (stopped_own t (after fs x g))))

      stopped_item : (x : Item) (g : Signal) → Halted T (within_item x i) (own_of_item fs x g i) (own_of_item fs x (stop g) i)
      stopped_item (activity j) g = halted_at T j i true g (stop g) (slowed_stop true g)
      stopped_item (loop t j) g =
          halted_first T (within t i) (passable t && eqb i j) _ _ _ _ (stopped_own t g)
          (subst (λ v. Halted T (passable t && eqb i j) (at j i (ends fs t g)) (at j i v)) (sym (stopped_ends fs t g))
          (halted_at T j i (passable t) (ends fs t g) _ (slowed_stop (passable t) (ends fs t g))))
      stopped_item (and b) g = stopped_branches b g 0
      stopped_item (xor j b) g =
          subst (λ k. Halted T (eqb i j) (own_of_item fs (xor j b) g i) (first (at j i (stop g)) (own_of_branches fs b (λ n. head_of k (decided (fact_of fs j)) n) 0 i))) (sym (false_stop g))
          (halted_before T (eqb i j) _ _ _ (halted_at T j i true g (stop g) (slowed_stop true g)))

      stopped_branches : (b : Branches) (g : Signal) (n : ℕ) → Halted T (within_branches b i) (own_of_branches fs b (λ n. g) n i) (own_of_branches fs b (λ n. stop g) n i)
      stopped_branches (last t) g n = stopped_own t g
      stopped_branches (bar t b) g n = halted_first T (within t i) (within_branches b i) _ _ _ _ (stopped_own t g) (stopped_branches b g (n + 1))

module _ (T : Type 0) (fs : List Fact) where
  -- a sequence that begins with a halted signal
  pub slowed_ends : (t : Seq) (b : Bool) (u v : Signal) → Slowed T b u v → Slowed T (b && passable t) (ends fs t u) (ends fs t v)
  slowed_ends t b u v (inl e) = inl (ap (ends fs t) e)
  slowed_ends t b u v (inr h) =
      subst (λ c. Slowed T (c && passable t) (ends fs t u) (ends fs t v)) (sym h.1)
      (subst (λ w. Slowed T (passable t) (ends fs t w) (ends fs t v)) (sym h.2)
      (subst (λ w. Slowed T (passable t) (ends fs t True) w) (sym (ap (ends fs t) h.3 ∙ stopped_ends fs t True)) (slowed_stop T h.0 (passable t) (ends fs t True))))

  pub slowed_own : (i : ℕ) (t : Seq) (b : Bool) (u v : Signal) → Slowed T b u v → Halted T (b && within t i) (own_of fs t u i) (own_of fs t v i)
  slowed_own i t b u v (inl e) = inl (ap (λ g. own_of fs t g i) e)
  slowed_own i t b u v (inr h) =
      subst (λ c. Halted T (c && within t i) (own_of fs t u i) (own_of fs t v i)) (sym h.1)
      (subst (λ w. Halted T (within t i) (own_of fs t w i) (own_of fs t v i)) (sym h.2)
      (subst (λ w. Halted T (within t i) (own_of fs t True i) (own_of fs t w i)) (sym h.3) (stopped_own T h.0 fs i t True)))

-- what the rules make of a halted signal
module _ (T : Type 0) where
  pub slowed_node : (b : Bool) (u v : Signal) (f : Fact) → Slowed T b u v → after_node v f ≡ after_node u f
  slowed_node b u v f (inl e) = ap (λ g. after_node g f) e
  slowed_node b u v f (inr h) = ap (λ g. after_node g f) h.3 ∙ sym (ap (λ g. after_node g f) h.2)

  pub slowed_guarded : (g : Signal) (b : Bool) (u v : Signal) → Slowed T b u v → Slowed T b (unless_false g u) (unless_false g v)
  slowed_guarded g b u v (inl e) = inl (ap (unless_false g) e)
  slowed_guarded True b u v (inr h) = inr h
  slowed_guarded False b u v (inr h) = inl refl
  slowed_guarded None b u v (inr h) = inr h

  -- whether all branches are true
  abbrev pub Lost : Bool → Bool → Bool → Type 0
  Lost b p q = (q ≡ p) ⊎ (T × (b ≡ true) × (p ≡ true) × (q ≡ false))

  pub lost_true : (b : Bool) (u v : Signal) → Slowed T b u v → Lost b (is_true u) (is_true v)
  lost_true b u v (inl e) = inl (ap is_true e)
  lost_true b u v (inr h) = inr (h.0, h.1, ap is_true h.2, ap is_true h.3)

  pub lost_left : (b p q r : Bool) → Lost b p q → Lost b (p && r) (q && r)
  lost_left b p q r (inl e) = inl (ap (λ x. x && r) e)
  lost_left b p q true (inr h) = inr (h.0, h.1, ap (λ x. x && true) h.2, ap (λ x. x && true) h.3)
  lost_left b p q false (inr h) = inl (ap (λ x. x && false) h.3 ∙ sym (ap (λ x. x && false) h.2))

  pub lost_right : (b r p q : Bool) → Lost b p q → Lost b (r && p) (r && q)
  lost_right b true p q h = h
  lost_right b false p q h = inl refl

  pub slowed_joined : (g : Signal) (b p q : Bool) → Lost b p q → Slowed T b (and_joined g p) (and_joined g q)
  slowed_joined g b p q (inl e) = inl (ap (and_joined g) e)
  slowed_joined True b p q (inr h) = inr (h.0, h.1, ap (and_joined True) h.2, ap (and_joined True) h.3)
  slowed_joined False b p q (inr h) = inl refl
  slowed_joined None b p q (inr h) = inr (h.0, h.1, ap (and_joined None) h.2, ap (and_joined None) h.3)

  pub slowed_cond : (c b : Bool) (u v w : Signal) → Slowed T b u v → Slowed T b (cond c u w) (cond c v w)
  slowed_cond true b u v w h = h
  slowed_cond false b u v w h = inl refl

  pub slowed_else : (c b : Bool) (u v w : Signal) → Slowed T b u v → Slowed T b (cond c w u) (cond c w v)
  slowed_else true b u v w h = inl refl
  slowed_else false b u v w h = h
