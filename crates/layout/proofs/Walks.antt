-- The tables of a tree's row. Assumes nothing.
use Rattle.std.proofs.Common.{◌≡◌, ℕ, ◌+◌, ◌<◌, ◌≤◌, ◌⊎◌, List, [], ◌∷◌, ◌++◌, length, get_or, set, Some, None, Option, sym, refl, ap, ◌∙◌, subst, inl, inr, arith, length-set, below_more}
use Rattle.std.proofs.lemmas.List.{get_or-set_same, get_or-set_other}
use Rattle.std.proofs.lemmas.Bool.{cases_eq}
use Rattle.model.specs.declared.Element.{Element}
use Rattle.model.specs.declared.Element.TheVariants.{Activity, AndSplit, Bar, AndJoin, XorSplit, XorJoin, LoopStart, LoopEnd}
use Rattle.model.specs.Trees.{Seq, nil, cons, Item, activity, loop, and, xor, Branches, last, bar, spell, spell_item, spell_branches, count}
use Rattle.layout.specs.declared.Position.{Position}
use Rattle.stack.specs.declared.moves.Move.TheVariants.{Stay, Turn}
use Rattle.layout.specs.Pass.{state, Tables, tables, read, noted, written, position, outside, entered, entered_loop, turned}
use Rattle.layout.specs.Gaps.{Begins, Closes, Rest, Inside, loop_from, Gap, gap_of, Stands, Ends}
use Rattle.layout.proofs.Rests.{rest_next, rest_here, rest_long, rest_less}
use Rattle.layout.proofs.Shapes.{some_branch, spell_longer_branches, gap_item, gap_bar, gap_enter, gap_inside}

-- s is the start of an open block
abbrev pub Opened : List ℕ → ℕ → Type 0
Opened [] s = ⊥
Opened (a ∷ us) s = (s ≡ a) ⊎ Opened us s

-- what the table of ends says of s after the elements before n
abbrev pub Sofar : List Element → ℕ → List ℕ → ℕ → Option ℕ → Type 0
Sofar xs n us s None = s < n → Begins (get_or xs s Bar) → Opened us s
Sofar xs n us s (Some e) = Ends xs s e

-- the place that ends a block stands in that block, and before n
abbrev pub Closing : ℕ → List Position → List (Option ℕ) → Type 0
Closing n qs es = (s e : ℕ) → get_or es s None ≡ Some e → (e < n) × ((get_or qs e outside).block ≡ Some s)

closing_on : (n : ℕ) (h : Position) (qs : List Position) (es : List (Option ℕ)) → Closing n qs es → Closing (n + 1) (set qs n h) es
closing_on n h qs es all s e at =
    let w = all s e at in
    let less = w.0 in
    let other : e ≡ n → ⊥ = λ q. omega arith in
    (omega arith, ap (λ g. g.block) (get_or-set_other qs n e h outside other) ∙ w.1)

-- past the end of the block that begins at a
closing_leave : (n a : ℕ) (h : Position) (qs : List Position) (es : List (Option ℕ)) → n < length qs → a < length es → h.block ≡ Some a → Closing n qs es
    → Closing (n + 1) (set qs n h) (set es a (Some n))
closing_leave n a h qs es room place is all s e at = go (cases_eq s a)
  where
    go : (s ≡ a) ⊎ (s ≡ a → ⊥) → (e < n + 1) × ((get_or (set qs n h) e outside).block ≡ Some s)
    go (inl same) =
        let here : get_or (set es a (Some n)) s None ≡ Some n = ap (λ k. get_or (set es a (Some n)) k None) same ∙ get_or-set_same es a (Some n) None place in
        let last : e ≡ n = cc in
        (omega arith, ap (λ k. (get_or (set qs n h) k outside).block) last ∙ ap (λ g. g.block) (get_or-set_same qs n h outside room) ∙ is ∙ ap Some (sym same))
    go (inr other) = closing_on n h qs es all s e (sym (get_or-set_other es a s (Some n) None other) ∙ at)

module _ (xs : List Element) (few : length xs ≤ 128) where
  abbrev pub Stood : ℕ → List Position → Type 0
  Stood n qs = (p : ℕ) → p < n → Stands xs p (get_or qs p outside)

  -- the pass at a gap from which on the row is ys
  pub record Walked (ys : List Element) (n : ℕ) (h : Position) (us : List ℕ) (t : Tables) : Type 0 where
    pub left : Rest xs n ys
    pub gap : Gap xs ys h
    pub positions_long : length t.positions ≡ 128
    pub ends_long : length t.ends ≡ 128
    pub stood : Stood n t.positions
    pub ended : (s : ℕ) → Sofar xs n us s (get_or t.ends s None)
    pub closing : Closing n t.positions t.ends

  roomy : {A : Type 0} (n : ℕ) → n < length xs → (qs : List A) → length qs ≡ 128 → n < length qs
  roomy n less qs long = omega arith

  stood_next : (n : ℕ) (h : Position) (qs : List Position) → length qs ≡ 128 → n < length xs → Stood n qs → Stands xs n h → Stood (n + 1) (set qs n h)
  stood_next n h qs long less all here =
      let room : n < length qs = omega arith in
      below_more (λ p. Stands xs p (get_or (set qs n h) p outside)) n
      (λ p lt. subst (Stands xs p) (sym (get_or-set_other qs n p h outside (omega arith))) (all p lt))
      (subst (Stands xs n) (sym (get_or-set_same qs n h outside room)) here)

  -- an element stands at the gap before it, unless it is a bar
  stands_before : (x : Element) (ys : List Element) (n : ℕ) (h : Position) → gap_of x n ≡ n → Rest xs n (x ∷ ys) → Gap xs (x ∷ ys) h → Stands xs n h
  stands_before x ys n h e left gap =
      let at : gap_of (get_or xs n AndSplit) n ≡ n = ap (λ y. gap_of y n) (rest_here AndSplit left) ∙ e in
      record {
        rest = x ∷ ys;
        left = subst (λ m. Rest xs m (x ∷ ys)) (sym at) left;
        gap = gap;
        inside = subst (λ m. Inside xs m h h.block) (sym at) (gap_inside (x ∷ ys) h n left gap);
        later = λ is. let past : n + 1 ≡ n = sym (ap (λ y. gap_of y n) is) ∙ at in absurd (omega arith);
      }

  stands_after : (ys : List Element) (n : ℕ) (h : Position) → 0 < h.branch → Rest xs n (Bar ∷ ys) → Gap xs ys h → Stands xs n h
  stands_after ys n h later left gap =
      let at : gap_of (get_or xs n AndSplit) n ≡ n + 1 = ap (λ y. gap_of y n) (rest_here AndSplit left) in
      record {
        rest = ys;
        left = subst (λ m. Rest xs m ys) (sym at) (rest_next left);
        gap = gap;
        inside = subst (λ m. Inside xs m h h.block) (sym at) (gap_inside ys h (n + 1) (rest_next left) gap);
        later = λ is. later;
      }

  -- past an element that begins no block
  sofar_on : (x : Element) (n : ℕ) (us : List ℕ) (s : ℕ) (o : Option ℕ) → get_or xs n Bar ≡ x → (Begins x → ⊥) → Sofar xs n us s o → Sofar xs (n + 1) us s o
  sofar_on x n us s None at plain h = λ lt begins. go (cases_eq s n) lt begins
    where
      go : (s ≡ n) ⊎ (s ≡ n → ⊥) → s < n + 1 → Begins (get_or xs s Bar) → Opened us s
      go (inl same) lt begins = absurd (plain (subst Begins at (subst (λ r. Begins (get_or xs r Bar)) same begins)))
      go (inr other) lt begins = let less : s < n = omega arith in h less begins
  sofar_on x n us s (Some e) at plain h = h

  sofar_open : (n : ℕ) (us : List ℕ) (s : ℕ) (o : Option ℕ) → Sofar xs n us s o → Sofar xs (n + 1) (n ∷ us) s o
  sofar_open n us s None h = λ lt begins. go (cases_eq s n) lt begins
    where
      go : (s ≡ n) ⊎ (s ≡ n → ⊥) → s < n + 1 → Begins (get_or xs s Bar) → (s ≡ n) ⊎ Opened us s
      go (inl same) lt begins = inl same
      go (inr other) lt begins = let less : s < n = omega arith in inr (h less begins)
  sofar_open n us s (Some e) h = h

  -- past an element that closes the block begun at a
  sofar_close : (x : Element) (n a : ℕ) (us : List ℕ) (es : List (Option ℕ)) → length es ≡ 128 → a < length xs → get_or xs n Bar ≡ x → (Begins x → ⊥) → Ends xs a n
      → ((s : ℕ) → Sofar xs n (a ∷ us) s (get_or es s None)) → (s : ℕ) → Sofar xs (n + 1) us s (get_or (set es a (Some n)) s None)
  sofar_close x n a us es long less at plain closed h s = go (cases_eq s a)
    where
      shut : (o : Option ℕ) → (s ≡ a → ⊥) → Sofar xs n (a ∷ us) s o → Sofar xs n us s o
      shut None other k = λ lt begins. elim (k lt begins) [ inl same ↦ absurd (other same) | inr still ↦ still ]
      shut (Some e) other k = k

      go : (s ≡ a) ⊎ (s ≡ a → ⊥) → Sofar xs (n + 1) us s (get_or (set es a (Some n)) s None)
      go (inl same) =
          let room : a < length es = omega arith in
          subst (Sofar xs (n + 1) us s) (sym (ap (λ k. get_or (set es a (Some n)) k None) same ∙ get_or-set_same es a (Some n) None room))
          (subst (λ k. Ends xs k n) (sym same) closed)
      go (inr other) =
          subst (Sofar xs (n + 1) us s) (sym (get_or-set_other es a s (Some n) None other))
          (sofar_on x n us s _ at plain (shut _ other (h s)))

  -- past an activity
  walked_activity : (i : ℕ) (ys : List Element) (n : ℕ) (h : Position) (us : List ℕ) (t : Tables) → Walked (Activity i ∷ ys) n h us t
      → Walked ys (n + 1) h us (noted (Activity i) n (Stay h) h t)
  walked_activity i ys n h us t w = record {
    left = rest_next w.left;
    gap = gap_item (activity i) ys h w.gap;
    positions_long = length-set t.positions n h ∙ w.positions_long;
    ends_long = w.ends_long;
    stood = stood_next n h t.positions w.positions_long (rest_less w.left) w.stood (stands_before (Activity i) ys n h refl w.left w.gap);
    ended = λ s. sofar_on (Activity i) n us s _ (rest_here Bar w.left) (λ b. b) (w.ended s);
    closing = closing_on n h t.positions t.ends w.closing;
  }

  -- into a block
  walked_enter : (x : Element) (ys : List Element) (n : ℕ) (h to : Position) (us : List ℕ) (t : Tables) → Begins x → gap_of x n ≡ n
      → to ≡ position (Some n) (loop_from x n h.loop_start) 0 (h.depth + 1) → (ps : List (Option ℕ)) → Walked (x ∷ ys) n h us t
      → Walked ys (n + 1) to (n ∷ us) (tables ps (set t.positions n h) t.ends)
  walked_enter x ys n h to us t begins e is ps w = record {
    left = rest_next w.left;
    gap = subst (Gap xs ys) (sym is) (gap_enter x ys h n begins w.left w.gap);
    positions_long = length-set t.positions n h ∙ w.positions_long;
    ends_long = w.ends_long;
    stood = stood_next n h t.positions w.positions_long (rest_less w.left) w.stood (stands_before x ys n h e w.left w.gap);
    ended = λ s. sofar_open n us s _ (w.ended s);
    closing = closing_on n h t.positions t.ends w.closing;
  }

  -- past a bar
  walked_bar : (ys : List Element) (n s : ℕ) (h o : Position) (us : List ℕ) (t : Tables) → h.block ≡ Some s → Walked (Bar ∷ ys) n h us t
      → Walked ys (n + 1) (turned h) us (noted Bar n (Turn (turned h) o) h t)
  walked_bar ys n s h o us t is w =
      let g = gap_bar ys h s is w.gap in
      record {
        left = rest_next w.left;
        gap = g;
        positions_long = length-set t.positions n (turned h) ∙ w.positions_long;
        ends_long = w.ends_long;
        stood = stood_next n (turned h) t.positions w.positions_long (rest_less w.left) w.stood (stands_after ys n (turned h) (omega arith) w.left g);
        ended = λ r. sofar_on Bar n us r _ (rest_here Bar w.left) (λ b. b) (w.ended r);
        closing = closing_on n (turned h) t.positions t.ends w.closing;
      }

  -- past the end of a block that is the item i
  walked_leave : (i : Item) (x : Element) (ys : List Element) (n a : ℕ) (h o : Position) (us : List ℕ) (t : Tables) (ps : List (Option ℕ))
      → h.block ≡ Some a → gap_of x n ≡ n → (Begins x → ⊥) → a < length xs → Ends xs a n → Gap xs (spell_item i ys) o → Walked (x ∷ ys) n h (a ∷ us) t
      → Walked ys (n + 1) o us (tables ps (set t.positions n h) (written h.block n t.ends))
  walked_leave i x ys n a h o us t ps is e plain less closed around w = record {
    left = rest_next w.left;
    gap = gap_item i ys o around;
    positions_long = length-set t.positions n h ∙ w.positions_long;
    ends_long = subst (λ k. length (written k n t.ends) ≡ 128) (sym is) (length-set t.ends a (Some n) ∙ w.ends_long);
    stood = stood_next n h t.positions w.positions_long (rest_less w.left) w.stood (stands_before x ys n h e w.left w.gap);
    ended = λ s. subst (λ k. Sofar xs (n + 1) us s (get_or (written k n t.ends) s None)) (sym is)
        (sofar_close x n a us t.ends w.ends_long less (rest_here Bar w.left) plain closed w.ended s);
    closing = subst (λ k. Closing (n + 1) (set t.positions n h) (written k n t.ends)) (sym is)
        (closing_leave n a h t.positions t.ends (roomy n (rest_less w.left) t.positions w.positions_long) (roomy a less t.ends w.ends_long) is w.closing);
  }

  -- where a block ends
  ends_at : (x y : Element) (i : Item) (b : Branches) (k : ℕ) (ys : List Element) (s e : ℕ)
      → Begins x → Closes y → count b ≡ k + 1 → spell_item i ys ≡ x ∷ spell_branches b (y ∷ ys)
      → Rest xs s (x ∷ spell_branches b (y ∷ ys)) → Rest xs e (y ∷ ys) → Ends xs s e
  ends_at x y i b k ys s e begins closes number is from to =
      let a = rest_long from in
      let c = rest_long to in
      let d = spell_longer_branches b (y ∷ ys) in
      record {
        later = omega (arith, a, c, d);
        below = rest_less to;
        branch = k;
        within = record {
          before = from.before;
          opener = x;
          branches = b;
          after = y ∷ ys;
          begins = begins;
          parted = from.parted;
          at_start = from.at_place;
          at_place = c;
          number = number;
        };
        closes = subst Closes (sym (rest_here Bar to)) closes;
        item = record {
          before = from.before;
          item = i;
          after = ys;
          parted = from.parted ∙ ap (λ zs. from.before ++ zs) (sym is);
          at_start = from.at_place;
          at_end = omega (arith, c);
        };
      }

  module _ (Q : Tables → Type 0) where
    mutual
      pub walk : (u : Seq) (ys : List Element) (n : ℕ) (h : Position) (os : List Position) (us : List ℕ) (t : Tables) → Walked (spell u ys) n h us t
          → ((m : ℕ) (v : Tables) → Walked ys m h us v → Q (read m (state h os) v ys)) → Q (read n (state h os) t (spell u ys))
      walk nil ys n h os us t w k = k n t w
      walk (cons x u) ys n h os us t w k =
          walk_item x (spell u ys) n h os us t w (λ m v w2. walk u ys m h os us v w2 k)

      walk_item : (x : Item) (ys : List Element) (n : ℕ) (h : Position) (os : List Position) (us : List ℕ) (t : Tables) → Walked (spell_item x ys) n h us t
          → ((m : ℕ) (v : Tables) → Walked ys m h us v → Q (read m (state h os) v ys)) → Q (read n (state h os) t (spell_item x ys))
      walk_item (activity i) ys n h os us t w k = k (n + 1) _ (walked_activity i ys n h us t w)
      walk_item (loop u i) ys n h os us t w k =
          walk u (LoopEnd i ∷ ys) (n + 1) (entered_loop n h) (h ∷ os) (n ∷ us) _ (walked_enter LoopStart _ n h _ us t tt refl refl _ w)
          (λ m v w2. k (m + 1) _ (walked_leave (loop u i) (LoopEnd i) ys m n (entered_loop n h) h us v _ refl refl (λ b. b) (rest_less w.left)
          (ends_at LoopStart (LoopEnd i) (loop u i) (last u) 0 ys n m tt tt refl refl w.left w2.left) w.gap w2))
      walk_item (and b) ys n h os us t w k =
          walk_branches b (AndJoin ∷ ys) (n + 1) n (entered n h) h os (n ∷ us) _ refl (walked_enter AndSplit _ n h _ us t tt refl refl _ w)
          (λ m g v is w2. k (m + 1) _ (walked_leave (and b) AndJoin ys m n g h us v _ is refl (λ c. c) (rest_less w.left)
          (ends_at AndSplit AndJoin (and b) b (some_branch b).0 ys n m tt tt (some_branch b).1 refl w.left w2.left) w.gap w2))
      walk_item (xor i b) ys n h os us t w k =
          walk_branches b (XorJoin ∷ ys) (n + 1) n (entered n h) h os (n ∷ us) _ refl (walked_enter (XorSplit i) _ n h _ us t tt refl refl _ w)
          (λ m g v is w2. k (m + 1) _ (walked_leave (xor i b) XorJoin ys m n g h us v _ is refl (λ c. c) (rest_less w.left)
          (ends_at (XorSplit i) XorJoin (xor i b) b (some_branch b).0 ys n m tt tt (some_branch b).1 refl w.left w2.left) w.gap w2))

      walk_branches : (b : Branches) (ys : List Element) (n s : ℕ) (h o : Position) (os : List Position) (us : List ℕ) (t : Tables) → h.block ≡ Some s
          → Walked (spell_branches b ys) n h us t
          → ((m : ℕ) (g : Position) (v : Tables) → g.block ≡ Some s → Walked ys m g us v → Q (read m (state g (o ∷ os)) v ys))
          → Q (read n (state h (o ∷ os)) t (spell_branches b ys))
      walk_branches (last u) ys n s h o os us t is w k = walk u ys n h (o ∷ os) us t w (λ m v w2. k m h v is w2)
      walk_branches (bar u b) ys n s h o os us t is w k =
          walk u (Bar ∷ spell_branches b ys) n h (o ∷ os) us t w
          (λ m v w2. walk_branches b ys (m + 1) s (turned h) o os us _ is (walked_bar _ m s h o us v is w2) k)
