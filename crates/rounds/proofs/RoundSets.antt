-- The nodes of a stretch of a row. Assumes nothing.
use Rattle.std.proofs.Common.{◌≡◌, ℕ, ◌+◌, ◌-◌, ◌<◌, ◌≤◌, Bool, true, false, ◌&&◌, ◌||◌, ltb, List, [], ◌∷◌, ◌++◌, length, get_or, take, drop, Some, None, Option, Decides, sym, refl, ap, ◌∙◌, subst, arith}
use Rattle.std.proofs.lemmas.List.{take_more, take-append-drop, get_or-drop, length-drop}
use Rattle.std.proofs.lemmas.Bool.{false≢true}
use Rattle.std.proofs.lemmas.Bool.Decides.{Decides-or}
use Rattle.ids.specs.declared.IdSet.{IdSet}
use Rattle.ids.specs.Sets.{has, is_id}
use Rattle.model.specs.declared.Element.{Element}
use Rattle.model.specs.Elements.{node_id}
use Rattle.model.specs.Rows.{Among, Low}
use Rattle.layout.specs.declared.Position.{Position}
use Rattle.schema.specs.Reading.{among}
use Rattle.schema.specs.Tables.{place_in, position_in}
use Rattle.schema.specs.declared.schema.Schema.{Schema}
use Rattle.schema.specs.Schemas.{parts}
use Rattle.schema.proofs.Checked.{checked_fine}
use Rattle.schema.proofs.Wrongs.{decides_among, among_left, among_right}
use Rattle.rounds.specs.Rounds.{behind, within, up_to, between, in_round}

-- one element more
among_push : (xs : List Element) (x : Element) (id : ℕ) → among (xs ++ x ∷ []) id ≡ (among xs id || is_id (node_id x) id)
among_push [] x id = grind arith
among_push (y ∷ xs) x id = grind (arith, among_push xs x id)

pub nodes_push : (ys : List Element) (x : Element) (s t : IdSet) (o : Option ℕ) → ((id : ℕ) → has s id ≡ (ltb id 64 && among ys id)) → o ≡ node_id x
    → ((id : ℕ) → has t id ≡ (has s id || (ltb id 64 && is_id o id)))
    → (id : ℕ) → has t id ≡ (ltb id 64 && among (ys ++ x ∷ []) id)
nodes_push ys x s t o before e more id = grind (arith, before id, more id, among_push ys x id, e)

and_none : (a : Bool) → false ≡ (a && false)
and_none true = refl
and_none false = refl

spread : (a b c : Bool) → ((a && b) || (a && c)) ≡ (a && (b || c))
spread true b c = refl
spread false b c = refl

-- those from one place up to another: none at first, and one element more
pub nodes_none : (xs : List Element) (from id : ℕ) → false ≡ (ltb id 64 && among (take (from - from) (drop from xs)) id)
nodes_none xs from id =
    let none : 0 ≡ from - from = omega arith in
    and_none (ltb id 64) ∙ ap (λ k. ltb id 64 && among (take k (drop from xs)) id) none

pub nodes_more : (xs : List Element) (from n : ℕ) (d : Element) (id : ℕ) (before now : Bool) → from ≤ n → n < length xs
    → before ≡ (ltb id 64 && among (take (n - from) (drop from xs)) id)
    → now ≡ (before || (ltb id 64 && is_id (node_id (get_or xs n d)) id))
    → now ≡ (ltb id 64 && among (take (n + 1 - from) (drop from xs)) id)
nodes_more xs from n d id before now h l p q =
    let room : n - from < length (drop from xs) = simp length-drop (omega arith) in
    let there : from + (n - from) ≡ n = omega arith in
    let on : n - from + 1 ≡ n + 1 - from = omega arith in
    let last : get_or (drop from xs) (n - from) d ≡ get_or xs n d = get_or-drop from xs (n - from) d ∙ ap (λ k. get_or xs k d) there in
    q ∙ ap (λ b. b || (ltb id 64 && is_id (node_id (get_or xs n d)) id)) p
    ∙ spread (ltb id 64) (among (take (n - from) (drop from xs)) id) (is_id (node_id (get_or xs n d)) id)
    ∙ ap (λ b. ltb id 64 && b)
    (ap (λ x. among (take (n - from) (drop from xs)) id || is_id (node_id x) id) (sym last)
    ∙ sym (among_push (take (n - from) (drop from xs)) (get_or (drop from xs) (n - from) d) id)
    ∙ ap (λ ys. among ys id) (sym (take_more (drop from xs) (n - from) d room) ∙ ap (λ k. take k (drop from xs)) on))

-- ids end at 63
module _ (xs : List Element) (low : Low xs) (id : ℕ) where
  among_stretch : (m k : ℕ) → Among (take k (drop m xs)) id → Among xs id
  among_stretch m k h =
      subst (λ ys. Among ys id) (take-append-drop m xs)
      (among_right (take m xs) (drop m xs) id (subst (λ ys. Among ys id) (take-append-drop k (drop m xs)) (among_left (take k (drop m xs)) (drop k (drop m xs)) id h)))

  low_stretch : (m k : ℕ) → (ltb id 64 && among (take k (drop m xs)) id) ≡ among (take k (drop m xs)) id
  low_stretch m k = go (among (take k (drop m xs)) id) refl
    where
      go : (b : Bool) → among (take k (drop m xs)) id ≡ b → (ltb id 64 && b) ≡ b
      go true e = grind (arith, low id (among_stretch m k ((decides_among (take k (drop m xs)) id).0 e)))
      go false e = grind arith

  low_behind : (p : ℕ) (o : Option ℕ) → (ltb id 64 && among (behind xs p o) id) ≡ among (behind xs p o) id
  low_behind p None = grind arith
  low_behind p (Some s) = low_stretch (s + 1) (p - (s + 1))

  low_within : (p : ℕ) (o : Option Position) → (ltb id 64 && among (within xs p o) id) ≡ among (within xs p o) id
  low_within p None = grind arith
  low_within p (Some h) = low_behind p h.block

  low_between : (test : ℕ) → (ltb id 64 && among (between xs test) id) ≡ among (between xs test) id
  low_between test = go (place_in xs test)
    where
      go : (o : Option ℕ) → (ltb id 64 && among (up_to xs o) id) ≡ among (up_to xs o) id
      go None = grind arith
      go (Some p) = low_within p (position_in xs p)

pub low_round : (s : Schema) (test id : ℕ) → (ltb id 64 && among (between (parts s).row test) id) ≡ in_round (parts s).row test id
low_round s test id = low_between (parts s).row (checked_fine (parts s).row (parts s).edges s.passed).1 id test

-- the nodes behind a block's start and before a node's place are those of its round
pub nodes_in_round : (xs : List Element) (low : Low xs) (ys : List Element) (test end start id : ℕ) (h : Position) (r : Bool) → ys ≡ xs → Some end ≡ place_in xs test → Some h ≡ position_in xs end
    → h.block ≡ Some start → r ≡ (ltb id 64 && among (take (end - (start + 1)) (drop (start + 1) ys)) id) → r ≡ among (between xs test) id
nodes_in_round xs low ys test end start id h r w p q b e =
    e ∙ ap (λ zs. ltb id 64 && among (take (end - (start + 1)) (drop (start + 1) zs)) id) w ∙ low_stretch xs low id (start + 1) (end - (start + 1))
    ∙ sym (ap (λ o. among (up_to xs o) id) (sym p) ∙ ap (λ o. among (within xs end o) id) (sym q) ∙ ap (λ o. among (behind xs end o) id) b)
